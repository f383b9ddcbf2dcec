-- Worked programs are typed.
use Rattle.sim_meaning.specs.ClassExamples.{access_through_none, class_in_class, prefixed_blocks}
use Rattle.sim_meaning.specs.Examples.{factorial_20, for_list, sub_block, value_array}
use Rattle.sim_meaning.specs.NameExamples.{summed}
use Rattle.sim_meaning.specs.TextExamples.{parts}
use Rattle.sim_sound.specs.SetProgram.{link_in_set}
use Rattle.sim_sound.specs.Typed.{Typed}

-- a `for` list; a procedure that calls itself; a sub-block with arrays, an assignment to several left sides and a choice; texts; an array by value; a
-- class, whose object is generated and called; a class with a prefix that has `inner` and a class of its own; blocks
-- with a class for a prefix; a program with `simset` for a prefix, in which a link goes into a set; a sum whose term and whose index are passed by name
pub record WorkedPrograms : Type 0 where
  pub for_list_typed : Typed for_list
  pub factorial_20_typed : Typed factorial_20
  pub sub_block_typed : Typed sub_block
  pub parts_typed : Typed parts
  pub value_array_typed : Typed value_array
  pub access_through_none_typed : Typed access_through_none
  pub class_in_class_typed : Typed class_in_class
  pub prefixed_blocks_typed : Typed prefixed_blocks
  pub link_in_set_typed : Typed link_in_set
  pub summed_typed : Typed summed

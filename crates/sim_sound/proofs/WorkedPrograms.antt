-- The worked programs are typed.
use Rattle.sim_sound.specs.Examples.{WorkedPrograms}
use Rattle.sim_sound.proofs.BlockExamples.{b_typed}
use Rattle.sim_sound.proofs.ClassExamples.{c_typed}
use Rattle.sim_sound.proofs.NameExamples.{s_typed}
use Rattle.sim_sound.proofs.PrefixExamples.{q_typed}
use Rattle.sim_sound.proofs.SetExamples.{y_typed}
use Rattle.sim_sound.proofs.Examples.{f_typed, l_typed, sub_typed, t_typed, v_typed}

pub worked_programs : WorkedPrograms
worked_programs = record { for_list_typed = l_typed; factorial_20_typed = f_typed; sub_block_typed = sub_typed; parts_typed = t_typed; value_array_typed = v_typed; access_through_none_typed = c_typed; class_in_class_typed = q_typed; prefixed_blocks_typed = b_typed; link_in_set_typed = y_typed; summed_typed = s_typed }

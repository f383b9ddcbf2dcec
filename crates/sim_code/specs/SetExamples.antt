-- Small codes with sets. The code of the classes is all on line 1; after it the lines count from 2, one for each instruction.
use Rattle.std.specs.Prelude.{◌≡◌, ℕ, ◌+◌, pos, List, [], ◌∷◌, ◌++◌, Some, None, codes}
use Rattle.sim_base.specs.declared.run_error.RunError.TheVariants.{AccessThroughNone}
use Rattle.simset.specs.Instances.{Memberships}
use Rattle.simset.specs.Sets.{Head, Link}
use Rattle.sim_values.specs.declared.standard.Standard.TheVariants as name
use Rattle.sim_values.specs.Plain.{Integer, Nothing, Object}
use Rattle.sim_code.specs.declared.code.CodeType.TheVariants as type
use Rattle.sim_code.specs.declared.instr.Instr.{Instr}
use Rattle.sim_code.specs.declared.instr.Instr.TheVariants as i
use Rattle.sim_code.specs.declared.instr.Lined.{Lined}
use Rattle.sim_code.specs.Code.{BlockOf, ClassOf, CodeOf}
use Rattle.sim_code.specs.Outcome.{Normal, RunFault}
use Rattle.sim_code.specs.Levels.{linkage_of_class}
use Rattle.sim_code.specs.Simulations.{named_in}
use Rattle.sim_code.specs.Sets.{gives, linkage_given, linkage_named, set_effect}
use Rattle.sim_code.specs.Examples.{at, limits, main, seen, shows, stops_at}
use Rattle.sim_code.specs.ClassExamples.{by_value, class, code, objects_with}

-- instructions on lines of their own, from this one on; and all on line 1
abbrev pub lines_from : (line : ℕ) → List Instr → List Lined
lines_from n [] = []
lines_from n (x ∷ xs) = at n x ∷ lines_from (n + 1) xs

abbrev pub on_line_one : List Instr → List Lined
on_line_one [] = []
on_line_one (x ∷ xs) = at 1 x ∷ on_line_one xs

-- ---- classes

abbrev pub marked : (class mark : ℕ) → BlockOf
marked c mark = record (objects_with c [] []) { entry = mark }

-- Linkage, and with it in front link and head, which `simset` brings; class 4 with link in front and a parameter; class 5 without a prefix; and
-- class 6 with head in front.
abbrev pub blocks : (entry : ℕ) → List BlockOf
blocks entry = main 4 (type.Reference ∷ type.Reference ∷ type.Reference ∷ type.Reference ∷ []) 3 entry ∷ marked 1 1 ∷ marked 2 2 ∷ marked 3 3 ∷ objects_with 4 (type.Integer ∷ []) (by_value ∷ []) ∷ objects_with 5 [] [] ∷ objects_with 6 [] [] ∷ []

abbrev pub classes : List ClassOf
classes = class 0 1 0 1 2 ∷ class 1 2 3 4 5 ∷ class 1 3 3 4 5 ∷ class 2 4 6 7 8 ∷ class 0 5 0 1 2 ∷ class 3 6 6 7 8 ∷ class 9 0 0 0 0 ∷ []

-- level 0, level 1 and level 2 of the classes, which have no statements of their own
abbrev pub level_code : (level : ℕ) → List Instr
level_code n = i.NextDecl (pos n) ∷ i.Inner (pos n) ∷ i.EndLevel (pos n) ∷ []

abbrev pub with_sets : List Instr → CodeOf
with_sets rest = code (blocks 9) classes (on_line_one (level_code 0 ++ level_code 1 ++ level_code 2) ++ lines_from 2 rest)

-- ---- what the programs do

-- an object that is generated, without a value or with one, is kept in a cell of the program's block
abbrev pub made : (class cell : ℕ) → List Instr
made c x = i.Link (pos 1) ∷ i.New (pos c) (pos 0) ∷ i.Store (pos 1) (pos x) ∷ []

abbrev pub made_with : (value cell : ℕ) → List Instr
made_with n x = i.Link (pos 1) ∷ i.Int (pos n) ∷ i.New (pos 4) (pos 1) ∷ i.Store (pos 1) (pos x) ∷ []

-- a procedure of the object in a cell, alone and with the object in another cell
abbrev pub done : (cell number : ℕ) → List Instr
done x n = i.Load (pos 1) (pos x) ∷ i.NotNone ∷ i.Std (pos n) ∷ []

abbrev pub done_with : (cell other number : ℕ) → List Instr
done_with x y n = i.Load (pos 1) (pos x) ∷ i.NotNone ∷ i.Load (pos 1) (pos y) ∷ i.Std (pos n) ∷ []

-- an integer is written; so is the value of an object of class 4, on top of the stack
abbrev pub shown_number : List Instr
shown_number = i.Int (pos 2) ∷ i.Std (pos 40) ∷ []

abbrev pub shown_value : List Instr
shown_value = i.Qua (pos 4) ∷ i.AddrR (pos 0) (pos 0) ∷ i.Fetch ∷ shown_number

abbrev pub the_end : List Instr
the_end = i.EndLevel (pos 0) ∷ []

-- A head and two links, with 1 and 2, behind an object that is no linkage. Both links go into the set: how many there are, the first one, and the
-- one after it. The first goes out: then the other is the first, and none comes after it.
abbrev pub in_and_out : CodeOf
in_and_out = with_sets (made 5 3 ++ made 3 0 ++ made_with 1 1 ++ made_with 2 2 ++ done_with 1 0 55 ++ done_with 2 0 55 ++ done 0 59 ++ shown_number
    ++ done 0 56 ++ shown_value ++ done 1 49 ++ shown_value ++ done 1 52 ++ done 0 56 ++ shown_value ++ done 2 49 ++ i.NotNone ∷ [])

-- Three links with 1, 2 and 3 in a set of class 6: 2 follows 1, and 3 precedes 1. So 2 is the last, 3 is before 1, and before 3 is the head, whose
-- set has three. Then 1 goes into no set, which leaves two; and the set is cleared, so that it is empty.
abbrev pub placed : CodeOf
placed = with_sets (made 6 0 ++ made_with 1 1 ++ made_with 2 2 ++ made_with 3 3 ++ done_with 1 0 55 ++ done_with 2 1 53 ++ done_with 3 1 54
    ++ done 0 57 ++ shown_value ++ done 1 50 ++ shown_value ++ done 3 51 ++ i.Qua (pos 3) ∷ i.Std (pos 59) ∷ shown_number
    ++ i.Load (pos 1) (pos 1) ∷ i.NotNone ∷ i.None ∷ i.Std (pos 55) ∷ done 0 59 ++ shown_number
    ++ done 0 60 ++ done 0 58 ++ i.JumpF (pos 80) ∷ done 0 59 ++ shown_number ++ the_end)

-- a procedure that the object does not have: it is no linkage, a link and no head, a head and no link, and no object
abbrev pub of_other : CodeOf
of_other = with_sets (made 5 0 ++ done 0 49)

abbrev pub of_link : CodeOf
of_link = with_sets (made 2 0 ++ done 0 59)

abbrev pub of_head : CodeOf
of_head = with_sets (made 3 0 ++ done 0 52)

abbrev pub of_none : CodeOf
of_none = with_sets (i.None ∷ i.Std (pos 49) ∷ [])

-- a parameter that is no head, and one that is no linkage
abbrev pub into_link : CodeOf
into_link = with_sets (made 2 0 ++ done_with 0 0 55)

abbrev pub after_other : CodeOf
after_other = with_sets (made 5 0 ++ made 2 1 ++ done_with 1 0 53)

-- ---- linkages of objects

-- the objects 2, 3 and 5 are linkages: a head with the link of object 5 in its set, and a link in no set
abbrev pub members : Memberships
members = record { instances = 2 ∷ 3 ∷ 5 ∷ []; sets = Head (2 ∷ []) ∷ Link ∷ Link ∷ [] }

pub record Worked : Type 0 where
  pub of_linkage : linkage_of_class (with_sets []) 1 ≡ Some Link
  pub with_link_in_front : linkage_of_class (with_sets []) 4 ≡ Some Link
  pub of_head_itself : linkage_of_class (with_sets []) 3 ≡ Some (Head [])
  pub with_head_in_front : linkage_of_class (with_sets []) 6 ≡ Some (Head [])
  pub no_linkage : linkage_of_class (with_sets []) 5 ≡ None
  pub without_levels : linkage_of_class (with_sets []) 7 ≡ None
  pub number_of_object : linkage_named members (Object 5) ≡ Some 2
  pub no_number : linkage_named members (Object 4) ≡ None
  pub none_given : linkage_given members Nothing ≡ Some None
  pub linkage_as_given : linkage_given members (Object 3) ≡ Some (Some 1)
  pub other_given : linkage_given members (Object 4) ≡ None
  pub first_is_object : set_effect name.First (named_in []) members 0 None ≡ gives members (Object 5)
  pub before_is_head : set_effect name.Prev (named_in []) members 2 None ≡ gives members (Object 2)
  pub none_after : set_effect name.Suc (named_in []) members 1 None ≡ gives members Nothing
  pub number_of_links : set_effect name.Cardinal (named_in []) members 0 None ≡ gives members (Integer (pos 1))
  pub in_and_out_done : seen in_and_out (limits 1000 100) 200 ≡ shows (codes " 2 1 2 2\n") 9 26 (RunFault AccessThroughNone 59)
  pub placed_done : seen placed (limits 1000 100) 200 ≡ shows (codes " 2 3 3 2 0\n") 9 27 Normal
  pub other_object : stops_at of_other 9 ≡ Some 14
  pub no_head : stops_at of_link 12 ≡ Some 14
  pub no_link : stops_at of_head 12 ≡ Some 14
  pub no_object : stops_at of_none 2 ≡ Some 10
  pub no_head_given : stops_at into_link 13 ≡ Some 15
  pub no_linkage_given : stops_at after_other 19 ≡ Some 18

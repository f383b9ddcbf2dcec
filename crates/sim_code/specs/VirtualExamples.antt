-- Small codes with virtuals. The code of the classes and procedures is all on line 1; after it the lines count from 2, one for each instruction.
use Rattle.std.specs.Prelude.{◌≡◌, ℕ, pos, List, [], ◌∷◌, ◌++◌, false, Some, codes}
use Rattle.sim_base.specs.declared.run_error.RunError.TheVariants.{AccessThroughNone, NoMatch, WrongNumberOfParameters, WrongParameter}
use Rattle.sim_code.specs.declared.code.BlockKind.TheVariants as kind
use Rattle.sim_code.specs.declared.code.CodeActual.{CodeActual}
use Rattle.sim_code.specs.declared.code.CodeFormal.{CodeFormal}
use Rattle.sim_code.specs.declared.code.CodeType.{CodeType}
use Rattle.sim_code.specs.declared.code.CodeType.TheVariants as type
use Rattle.sim_code.specs.declared.code.Match.{Match}
use Rattle.sim_code.specs.declared.instr.Instr.{Instr}
use Rattle.sim_code.specs.declared.instr.Instr.TheVariants as i
use Rattle.sim_code.specs.Code.{BlockOf, ClassOf, CodeOf}
use Rattle.sim_code.specs.Outcome.{Normal, RunFault, StorageExhausted, TickLimit}
use Rattle.sim_code.specs.Examples.{block, limits, main, seen, shows, stops_at}
use Rattle.sim_code.specs.ClassExamples.{by_value, class, code, objects_with}
use Rattle.sim_code.specs.SetExamples.{level_code, lines_from, on_line_one}

-- ---- classes and procedures

abbrev pub matching_class : ClassOf → List Match → ClassOf
matching_class c matches = record c { matches = matches }

abbrev pub entry_for : (virtual block : ℕ) → Match
entry_for v b = record { virtual_number = v; block = b }

-- a procedure that a class declares
abbrev pub own_procedure : (cells : ℕ) → List CodeType → List CodeFormal → (entry : ℕ) → BlockOf
own_procedure cells types formals entry = record (block kind.Procedure 3 cells type.Nothing types 2 entry) { formals = formals }

-- Class 1 has a match of virtual 7, which writes 1. Class 2 is prefixed by it, has a parameter and a match of its own, which writes the parameter.
-- Class 3 has no match. In class 4 virtual 7 is matched by a procedure with a parameter, which writes that.
abbrev pub blocks : (entry : ℕ) → List BlockOf
blocks entry = main 1 (type.Reference ∷ []) 3 entry
    ∷ objects_with 1 [] [] ∷ objects_with 2 (type.Integer ∷ []) (by_value ∷ []) ∷ objects_with 3 [] [] ∷ objects_with 4 [] []
    ∷ own_procedure 0 [] [] 6 ∷ own_procedure 0 [] [] 10 ∷ own_procedure 1 (type.Integer ∷ []) (by_value ∷ []) 14 ∷ []

abbrev pub classes : List ClassOf
classes = matching_class (class 0 1 0 1 2) (entry_for 7 5 ∷ []) ∷ matching_class (class 1 2 3 4 5) (entry_for 8 5 ∷ entry_for 7 6 ∷ entry_for 7 5 ∷ [])
    ∷ class 0 3 0 1 2 ∷ matching_class (class 0 4 0 1 2) (entry_for 7 7 ∷ []) ∷ []

-- an integer is written, and the procedure ends
abbrev pub written : List Instr
written = i.Int (pos 2) ∷ i.Std (pos 40) ∷ i.Return ∷ []

abbrev pub some_actual : CodeActual
some_actual = record { code_type = type.Nothing; variable = false; array = type.Nothing; procedure = false; result_type = type.Nothing; formals = 0; class = 0 }

-- list 0 has no actual parameter, list 1 has one
abbrev pub with_virtuals : List Instr → CodeOf
with_virtuals rest = record (code (blocks 18) classes (on_line_one (level_code 0 ++ level_code 1 ++ i.Int (pos 1) ∷ written ++ i.Load (pos 2) (pos 0) ∷ written ++ i.Load (pos 3) (pos 0) ∷ written) ++ lines_from 2 rest)) { actual_lists = [] ∷ (some_actual ∷ []) ∷ [] }

-- ---- what the programs do

abbrev pub made : (class : ℕ) → List Instr
made c = i.Link (pos 1) ∷ i.New (pos c) (pos 0) ∷ i.Store (pos 1) (pos 0) ∷ []

abbrev pub made_with : (value : ℕ) → List Instr
made_with n = i.Link (pos 1) ∷ i.Int (pos n) ∷ i.New (pos 2) (pos 1) ∷ i.Store (pos 1) (pos 0) ∷ []

-- a virtual of the object, and the list of actual parameters that its match is held against
abbrev pub found : (virtual : ℕ) → List Instr
found v = i.Load (pos 1) (pos 0) ∷ i.Virt (pos v) ∷ []

abbrev pub called : (virtual list : ℕ) → List Instr
called v n = found v ++ i.Check (pos n) ∷ i.CallV (pos 0) ∷ []

-- The class of the object decides: 1 of the first object, 6 of the second one, 1 for its other virtual; and the third has no match.
abbrev pub by_object : CodeOf
by_object = with_virtuals (made 1 ++ called 7 0 ++ made_with 6 ++ called 7 0 ++ called 8 0 ++ made 3 ++ called 7 0)

-- an actual parameter too many, and one too few
abbrev pub too_many : CodeOf
too_many = with_virtuals (made 1 ++ called 7 1)

abbrev pub too_few : CodeOf
too_few = with_virtuals (made 4 ++ called 7 0)

abbrev pub of_none : CodeOf
of_none = with_virtuals (called 7 1)

-- the right number of actual parameters, of which one has no value
abbrev pub right_number : CodeOf
right_number = with_virtuals (made 4 ++ called 7 1)

-- a procedure in hand is entered with the values above it
abbrev pub with_value : CodeOf
with_value = with_virtuals (made 4 ++ found 7 ++ i.Int (pos 5) ∷ i.CallV (pos 1) ∷ i.EndLevel (pos 0) ∷ [])

-- a value in place of a procedure in hand, a list that is not there, and a program's block, which has no class
abbrev pub no_procedure : CodeOf
no_procedure = with_virtuals (made 1 ++ i.Load (pos 1) (pos 0) ∷ i.CallV (pos 0) ∷ [])

abbrev pub nothing_to_check : CodeOf
nothing_to_check = with_virtuals (i.Int (pos 1) ∷ i.Check (pos 0) ∷ [])

abbrev pub no_list : CodeOf
no_list = with_virtuals (made 1 ++ found 7 ++ i.Check (pos 2) ∷ [])

abbrev pub no_class : CodeOf
no_class = with_virtuals (i.This (pos 1) ∷ i.Virt (pos 7) ∷ [])

pub record Worked : Type 0 where
  pub object_decides : seen by_object (limits 1000 100) 200 ≡ shows (codes " 1 6 1\n") 10 18 (RunFault NoMatch 25)
  pub none_first : seen of_none (limits 1000 100) 200 ≡ shows (codes "") 1 5 (RunFault AccessThroughNone 3)
  pub one_too_many : seen too_many (limits 1000 100) 200 ≡ shows (codes "") 3 9 (RunFault WrongNumberOfParameters 7)
  pub one_too_few : seen too_few (limits 1000 100) 200 ≡ shows (codes "") 3 9 (RunFault WrongNumberOfParameters 7)
  pub value_handed_in : seen with_value (limits 1000 100) 200 ≡ shows (codes " 5\n") 4 9 Normal
  pub entry_takes_a_tick : seen with_value (limits 1000 3) 200 ≡ shows (codes "") 3 9 (TickLimit 3)
  pub entry_takes_words : seen with_value (limits 13 100) 200 ≡ shows (codes "") 4 9 (StorageExhausted 8 9 5)
  pub wrong_type : seen right_number (limits 1000 100) 200 ≡ shows (codes "") 3 9 (RunFault WrongParameter 7)
  pub nothing_in_hand : stops_at no_procedure 8 ≡ Some 22
  pub nothing_checked : stops_at nothing_to_check 2 ≡ Some 19
  pub no_such_list : stops_at no_list 9 ≡ Some 23
  pub of_no_class : stops_at no_class 2 ≡ Some 19

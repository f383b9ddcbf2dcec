-- Small codes with procedures in hand and their parameters. The code of the procedures and of the thunks is all on line 1; after it the lines count
-- from 2, one for each instruction.
use Rattle.std.specs.Prelude.{◌≡◌, ℕ, zero, suc, true, false, pos, List, [], ◌∷◌, ◌++◌, Option, Some, None, Ok, Err, codes}
use Rattle.sim_base.specs.declared.run_error.RunError.TheVariants.{OutsideQualification, WrongNumberOfParameters, WrongParameter}
use Rattle.sim_code.specs.declared.code.BlockKind.TheVariants as kind
use Rattle.sim_code.specs.declared.code.CodeActual.{CodeActual}
use Rattle.sim_code.specs.declared.code.CodeFormal.{CodeFormal}
use Rattle.sim_code.specs.declared.code.CodeMode.{CodeMode}
use Rattle.sim_code.specs.declared.code.CodeMode.TheVariants as mode
use Rattle.sim_code.specs.declared.code.CodeType.{CodeType}
use Rattle.sim_code.specs.declared.code.CodeType.TheVariants as type
use Rattle.sim_code.specs.declared.code.FormalShape.{FormalShape}
use Rattle.sim_code.specs.declared.code.FormalShape.TheVariants as shape
use Rattle.sim_code.specs.declared.code.ThunkRecord.{ThunkRecord}
use Rattle.sim_code.specs.declared.instr.Instr.{Instr}
use Rattle.sim_code.specs.declared.instr.Instr.TheVariants as i
use Rattle.sim_code.specs.Code.{BlockOf, CodeOf}
use Rattle.sim_code.specs.Outcome.{Normal, RunFault, StorageExhausted}
use Rattle.sim_code.specs.Instances.{Instance}
use Rattle.sim_code.specs.Machine.{Cells, Frames}
use Rattle.sim_code.specs.Formals.{fits, fits_now, holders_agree}
use Rattle.sim_code.specs.Examples.{block, limits, main, seen, shows, stops_at}
use Rattle.sim_code.specs.ClassExamples.{by_value, class, code, family, objects_with}
use Rattle.sim_code.specs.SetExamples.{level_code, lines_from, on_line_one}

-- ---- formal and actual parameters

abbrev pub formal : CodeMode → FormalShape → CodeType → (class : ℕ) → CodeFormal
formal mode shape ty class = record { mode = mode; shape = shape; code_type = ty; class = class }

abbrev pub a_reference : (class : ℕ) → CodeFormal
a_reference c = formal mode.Reference shape.Simple type.Reference c

abbrev pub an_array : (class : ℕ) → CodeFormal
an_array c = formal mode.Reference shape.Array type.Reference c

abbrev pub a_procedure : CodeType → (class : ℕ) → CodeFormal
a_procedure ty c = formal mode.Reference shape.Procedure ty c

abbrev pub value : CodeType → (class : ℕ) → CodeActual
value ty c = record { code_type = ty; variable = false; array = type.Nothing; procedure = false; result_type = type.Nothing; formals = 0; class = c }

abbrev pub array : CodeType → (class : ℕ) → CodeActual
array ty c = record { code_type = type.Nothing; variable = false; array = ty; procedure = false; result_type = type.Nothing; formals = 0; class = c }

-- a procedure alone is also what it gives
abbrev pub procedure : CodeType → (formals class : ℕ) → CodeActual
procedure ty n c = record { code_type = ty; variable = false; array = type.Nothing; procedure = true; result_type = ty; formals = n; class = c }

-- ---- procedures and thunks

abbrev pub procedure_of : CodeType → CodeFormal → (entry : ℕ) → BlockOf
procedure_of ty f entry = record (block kind.Procedure 2 1 type.Nothing (ty ∷ []) 3 entry) { formals = f ∷ [] }

-- Procedures that write what their parameter is: an integer by value, and by name; a text by value; an element of an array by value. One that calls
-- its parameter, a procedure; one with a reference of class 2, which is prefixed by class 1; and one without parameters, which writes 7.
abbrev pub blocks : List BlockOf
blocks = main 3 (type.Text ∷ type.Nothing ∷ type.Reference ∷ []) 3 52
    ∷ procedure_of type.Integer by_value 6 ∷ procedure_of type.Nothing (formal mode.Name shape.Simple type.Integer 0) 10
    ∷ procedure_of type.Text (formal mode.Value shape.Simple type.Text 0) 14 ∷ procedure_of type.Nothing (a_procedure type.Nothing 0) 17
    ∷ procedure_of type.Nothing (formal mode.Value shape.Array type.Integer 0) 21 ∷ procedure_of type.Reference (a_reference 2) 28
    ∷ block kind.Procedure 2 0 type.Nothing [] 2 29 ∷ objects_with 1 [] [] ∷ objects_with 2 [] [] ∷ []

abbrev pub written : List Instr
written = i.Int (pos 2) ∷ i.Std (pos 40) ∷ i.Return ∷ []

abbrev pub procedures : List Instr
procedures = i.Load (pos 2) (pos 0) ∷ written ++ i.NameVal (pos 2) (pos 0) (pos 0) ∷ written ++ i.Load (pos 2) (pos 0) ∷ i.Std (pos 39) ∷ i.Return
    ∷ i.Load (pos 2) (pos 0) ∷ i.Check (pos 4) ∷ i.CallV (pos 0) ∷ i.Return ∷ i.Load (pos 2) (pos 0) ∷ i.Int (pos 1) ∷ i.Elem (pos 1) (pos 0) ∷ i.Fetch ∷ written
    ++ i.Return ∷ i.Int (pos 7) ∷ written

-- The thunks: 5; where the text of the program lies; its array; the procedure without parameters; two that pass a parameter, by a thunk of a greater
-- number and by one of a lesser; 5 again; and the reference of the program.
abbrev pub thunk_code : List Instr
thunk_code = i.Int (pos 5) ∷ i.EndThunk ∷ i.Addr (pos 1) (pos 0) (pos 0) ∷ i.EndThunk ∷ i.Load (pos 1) (pos 1) ∷ i.EndThunk ∷ i.Link (pos 1) ∷ i.ProcVal (pos 7) ∷ i.EndThunk
    ∷ i.Link (pos 1) ∷ i.ProcVal (pos 1) ∷ i.Param (pos 0) (pos 6) (pos 0) ∷ i.EndThunk ∷ i.Link (pos 1) ∷ i.ProcVal (pos 1) ∷ i.Param (pos 0) (pos 0) (pos 0) ∷ i.EndThunk
    ∷ i.Load (pos 1) (pos 2) ∷ i.EndThunk ∷ []

abbrev pub thunk : (entry : ℕ) → ThunkRecord
thunk entry = record { entry = entry; room = 2 }

abbrev pub thunks : List ThunkRecord
thunks = thunk 33 ∷ thunk 35 ∷ thunk 37 ∷ thunk 39 ∷ thunk 42 ∷ thunk 46 ∷ thunk 33 ∷ thunk 50 ∷ []

abbrev pub lists : List (List CodeActual)
lists = (value type.Integer 0 ∷ []) ∷ (value type.Text 0 ∷ []) ∷ (array type.Integer 0 ∷ []) ∷ (procedure type.Nothing 0 0 ∷ []) ∷ [] ∷ (value type.Reference 1 ∷ []) ∷ []

abbrev pub with_procedures : List Instr → CodeOf
with_procedures rest = record {
  texts = codes "abc" ∷ [];
  blocks = blocks;
  classes = class 0 8 0 1 2 ∷ class 1 9 3 4 5 ∷ [];
  thunks = thunks;
  actual_lists = lists;
  instrs = on_line_one (level_code 0 ++ level_code 1 ++ procedures ++ thunk_code) ++ lines_from 2 rest;
}

-- ---- what the programs do

-- a procedure of the program is called with one parameter
abbrev pub called : (block list thunk second : ℕ) → List Instr
called k n t p = i.Link (pos 1) ∷ i.ProcVal (pos k) ∷ i.Check (pos n) ∷ i.Param (pos 0) (pos t) (pos p) ∷ i.CallV (pos 1) ∷ i.Halt ∷ []

abbrev pub with_integer : CodeOf
with_integer = with_procedures (called 1 0 0 9)

-- a parameter by name is evaluated when it is used, and that takes a tick
abbrev pub with_name : CodeOf
with_name = with_procedures (called 2 0 0 9)

-- the text is copied, with its words
abbrev pub with_text : CodeOf
with_text = with_procedures (i.TextK (pos 0) ∷ i.Store (pos 1) (pos 0) ∷ called 3 1 1 9)

-- the array is copied, and the copy is given back with the procedure
abbrev pub with_array : CodeOf
with_array = with_procedures (i.Int (pos 0) ∷ i.Int (pos 2) ∷ i.Array (pos 1) (pos 1) ∷ i.Store (pos 1) (pos 1) ∷ i.Load (pos 1) (pos 1) ∷ i.Int (pos 1) ∷ i.Elem (pos 1) (pos 0) ∷ i.Int (pos 6) ∷ i.Put ∷ called 5 2 2 9)

-- the second thunk gives the procedure that is passed
abbrev pub with_procedure : CodeOf
with_procedure = with_procedures (called 4 3 9 3)

-- an object of class 1 in place of one of class 2
abbrev pub with_reference : CodeOf
with_reference = with_procedures (i.Link (pos 1) ∷ i.New (pos 1) (pos 0) ∷ i.Store (pos 1) (pos 2) ∷ called 6 5 7 9)

abbrev pub text_for_integer : CodeOf
text_for_integer = with_procedures (called 1 1 1 9)

abbrev pub within : CodeOf
within = with_procedures (called 1 0 4 9)

abbrev pub lesser_within : CodeOf
lesser_within = with_procedures (called 1 0 5 9)

-- what a thunk gives has no room in the frame for which it is run, nor in the one that uses it; and a use with a class that is not there
abbrev pub with_room : (room block : ℕ) → List BlockOf → List BlockOf
with_room room k [] = []
with_room room zero (b ∷ bs) = record b { room = room } ∷ bs
with_room room (suc k) (b ∷ bs) = b ∷ with_room room k bs

abbrev pub small : (room block : ℕ) → CodeOf → CodeOf
small room k code = record code { blocks = with_room room k code.blocks }

abbrev pub passed_without_room : CodeOf
passed_without_room = small 1 0 with_integer

abbrev pub named_without_room : CodeOf
named_without_room = small 0 2 with_name

abbrev pub named_without_class : CodeOf
named_without_class = with_procedures (i.Thunk (pos 0) ∷ i.Store (pos 1) (pos 1) ∷ i.NameVal (pos 1) (pos 1) (pos 3) ∷ [])

-- a parameter that the procedure has not, one without a procedure, and procedures that are none
abbrev pub no_parameter : CodeOf
no_parameter = with_procedures (i.Link (pos 1) ∷ i.ProcVal (pos 1) ∷ i.Int (pos 5) ∷ i.Param (pos 1) (pos 0) (pos 0) ∷ [])

abbrev pub no_procedure : CodeOf
no_procedure = with_procedures (i.Int (pos 5) ∷ i.Param (pos 0) (pos 0) (pos 0) ∷ [])

abbrev pub program_as_procedure : CodeOf
program_as_procedure = with_procedures (i.Link (pos 1) ∷ i.ProcVal (pos 0) ∷ [])

-- ---- a class inside a class

abbrev pub nested : CodeOf
nested = code (main 0 [] 1 0 ∷ objects_with 1 [] [] ∷ record (objects_with 2 [] []) { level = 3 } ∷ []) (class 0 1 0 0 0 ∷ class 0 2 0 0 0 ∷ []) []

abbrev pub instance : (text level : ℕ) → (encloser : Option ℕ) → Instance Cells
instance text level encloser = record { text = text; level = level; encloser = encloser; cells = []; passing = false; kept = false; given_back = false }

-- the program's block, and two objects of the outer class
abbrev pub two_objects : Frames
two_objects = record { instances = instance 0 1 None ∷ instance 1 2 (Some 0) ∷ instance 1 2 (Some 0) ∷ []; standings = [] }

pub record Worked : Type 0 where
  pub integer_passed : seen with_integer (limits 1000 100) 200 ≡ shows (codes " 5\n") 2 7 Normal
  pub name_passed : seen with_name (limits 1000 100) 200 ≡ shows (codes " 5\n") 3 7 Normal
  pub text_copied : seen with_text (limits 1000 100) 200 ≡ shows (codes "abc\n") 2 10 Normal
  pub copy_takes_words : seen with_text (limits 9 100) 200 ≡ shows (codes "") 1 7 (StorageExhausted 7 7 3)
  pub array_copied : seen with_array (limits 1000 100) 200 ≡ shows (codes " 6\n") 2 15 Normal
  pub procedure_passed : seen with_procedure (limits 1000 100) 200 ≡ shows (codes " 7\n") 3 7 Normal
  pub reference_held : seen with_reference (limits 1000 100) 200 ≡ shows (codes "") 3 11 (RunFault OutsideQualification 8)
  pub type_checked : seen text_for_integer (limits 1000 100) 200 ≡ shows (codes "") 1 7 (RunFault WrongParameter 4)
  pub greater_within : seen within (limits 1000 100) 200 ≡ shows (codes " 5\n") 2 7 Normal
  pub no_lesser_within : stops_at lesser_within 7 ≡ Some 48
  pub no_room_for_value : stops_at passed_without_room 4 ≡ Some 55
  pub no_room_for_named : stops_at named_without_room 6 ≡ Some 10
  pub no_class_named : stops_at named_without_class 3 ≡ Some 54
  pub no_such_parameter : stops_at no_parameter 4 ≡ Some 55
  pub nothing_in_hand : stops_at no_procedure 2 ≡ Some 53
  pub no_procedure_value : stops_at program_as_procedure 2 ≡ Some 53
  -- references fit along a chain both ways, and `none` everywhere
  pub class_inside : fits family (a_reference 1) (value type.Reference 3) ≡ true
  pub class_outside : fits family (a_reference 3) (value type.Reference 1) ≡ true
  pub class_beside : fits family (a_reference 1) (value type.Reference 4) ≡ false
  pub none_anywhere : fits family (a_reference 1) (value type.Reference 0) ≡ true
  -- arrays need the same class, and procedures one inside
  pub same_elements : fits family (an_array 1) (array type.Reference 1) ≡ true
  pub other_elements : fits family (an_array 1) (array type.Reference 2) ≡ false
  pub result_inside : fits family (a_procedure type.Reference 1) (procedure type.Reference 1 2) ≡ true
  pub result_outside : fits family (a_procedure type.Reference 2) (procedure type.Reference 1 1) ≡ false
  pub no_result_wanted : fits family (a_procedure type.Nothing 0) (procedure type.Integer 0 0) ≡ false
  -- what has no value is no expression
  pub called_alone : fits family by_value (procedure type.Integer 0 0) ≡ true
  pub not_called_alone : fits family by_value (procedure type.Integer 1 0) ≡ false
  pub array_no_value : fits family by_value (array type.Integer 0) ≡ false
  pub nothing_no_value : fits family by_value (value type.Nothing 0) ≡ false
  pub value_no_procedure : fits family (a_procedure type.Integer 0) (value type.Integer 0) ≡ false
  -- the number comes first
  pub number_first : fits_now family (by_value ∷ []) (value type.Text 0 ∷ value type.Text 0 ∷ []) ≡ Err WrongNumberOfParameters
  pub then_types : fits_now family (by_value ∷ by_value ∷ []) (value type.Integer 0 ∷ value type.Text 0 ∷ []) ≡ Err WrongParameter
  pub all_right : fits_now family (by_value ∷ a_reference 1 ∷ []) (value type.Integer 0 ∷ value type.Reference 0 ∷ []) ≡ Ok tt
  -- a class of one object is not that of another
  pub one_object : holders_agree nested two_objects 1 1 (a_reference 2) (value type.Reference 2) ≡ Some true
  pub other_object : holders_agree nested two_objects 1 2 (a_reference 2) (value type.Reference 2) ≡ Some false
  pub none_of_no_object : holders_agree nested two_objects 1 2 (a_reference 2) (value type.Reference 0) ≡ Some true
  pub without_class : holders_agree nested two_objects 1 2 by_value (value type.Integer 0) ≡ Some true
  pub class_missing : holders_agree nested two_objects 1 1 (a_reference 9) (value type.Reference 2) ≡ None

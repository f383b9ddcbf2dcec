-- Small codes with classes. The line of an instruction is its place, counted from 1, but that the code of a class is all on one line.
use Rattle.std.specs.Prelude.{◌≡◌, ℕ, true, false, pos, List, [], ◌∷◌, ◌++◌, length, Some, None, codes}
use Rattle.sim_base.specs.declared.run_error.RunError.TheVariants.{AccessThroughNone}
use Rattle.sim_values.specs.Plain.{Nothing, Object, Integer}
use Rattle.sim_code.specs.declared.code.BlockKind.TheVariants as kind
use Rattle.sim_code.specs.declared.code.CodeFormal.{CodeFormal}
use Rattle.sim_code.specs.declared.code.CodeMode.TheVariants as mode
use Rattle.sim_code.specs.declared.code.CodeType.{CodeType}
use Rattle.sim_code.specs.declared.code.CodeType.TheVariants as type
use Rattle.sim_code.specs.declared.code.FormalShape.TheVariants as shape
use Rattle.sim_code.specs.declared.instr.Instr.{Instr}
use Rattle.sim_code.specs.declared.instr.Instr.TheVariants as i
use Rattle.sim_code.specs.declared.instr.Lined.{Lined}
use Rattle.sim_code.specs.Code.{BlockOf, ClassOf, CodeOf}
use Rattle.sim_code.specs.Outcome.{Normal, RunFault, StorageExhausted, TickLimit}
use Rattle.sim_code.specs.Instances.{Instance}
use Rattle.sim_code.specs.Machine.{Cells, Frames}
use Rattle.sim_code.specs.Classes.{is_in, is_of, levels, may_stand}
use Rattle.sim_code.specs.Levels.{parameter_cell}
use Rattle.sim_code.specs.Examples.{at, block, inner, limits, main, seen, shows, stops_at}

abbrev pub class : (prefix block declarations statements after_inner : ℕ) → ClassOf
class prefix block declarations statements after_inner = record {
  prefix = prefix;
  block = block;
  declarations = declarations;
  statements = statements;
  after_inner = after_inner;
  process = false;
  matches = [];
}

abbrev pub code : List BlockOf → List ClassOf → List Lined → CodeOf
code blocks classes instrs = record { texts = []; blocks = blocks; classes = classes; thunks = []; actual_lists = []; instrs = instrs }

-- ---- tables of classes

-- the block of objects of a class, without cells
abbrev pub objects : (class : ℕ) → BlockOf
objects c = record (block kind.Object 2 0 type.Nothing [] 1 0) { class = c; class_free = false }

-- Class 1; class 2 with it in front, and class 3 with that; class 4 beside them; class 5 in front of itself, class 6 behind one that is
-- not there.
abbrev pub family : CodeOf
family = code (main 0 [] 1 0 ∷ objects 1 ∷ objects 2 ∷ objects 3 ∷ objects 4 ∷ objects 5 ∷ []) (class 0 1 0 0 0 ∷ class 1 2 0 0 0 ∷ class 2 3 0 0 0 ∷ class 0 4 0 0 0 ∷ class 5 5 0 0 0 ∷ class 9 0 0 0 0 ∷ []) []

abbrev pub instance : (text : ℕ) → Instance Cells
instance text = record { text = text; level = 2; encloser = Some 0; cells = []; passing = false; kept = false; given_back = false }

-- the program's block, and an object of each of the classes 1 to 5
abbrev pub family_memory : Frames
family_memory = record { instances = instance 0 ∷ instance 1 ∷ instance 2 ∷ instance 3 ∷ instance 4 ∷ instance 5 ∷ []; standings = [] }

-- ---- codes

-- through a reference to the program's frame: its cell is set, and read again
abbrev pub remote_code : CodeOf
remote_code = code (main 1 (type.Integer ∷ []) 2 0 ∷ []) [] (at 1 (i.This (pos 1)) ∷ at 2 i.NotNone ∷ at 3 (i.AddrR (pos 0) (pos 0)) ∷ at 4 (i.Int (pos 5)) ∷ at 5 i.Put ∷ at 6 (i.This (pos 1)) ∷ at 7 (i.AddrR (pos 0) (pos 0)) ∷ at 8 i.Fetch ∷ at 9 (i.Int (pos 2)) ∷ at 10 (i.Std (pos 40)) ∷ at 11 i.None ∷ at 12 (i.AddrR (pos 0) (pos 0)) ∷ [])

-- `none` is in no class, and may stand in a cell with a class; it is nothing that `qua` finds a class of
abbrev pub none_code : CodeOf
none_code = code (main 1 (type.Reference ∷ []) 2 0 ∷ objects 1 ∷ []) (class 0 1 0 0 0 ∷ []) (at 1 i.None ∷ at 2 (i.Is (pos 1)) ∷ at 3 i.None ∷ at 4 (i.In (pos 1)) ∷ at 5 i.Or ∷ at 6 (i.JumpF (pos 7)) ∷ at 7 i.Halt ∷ at 8 (i.Addr (pos 1) (pos 0) (pos 1)) ∷ at 9 i.None ∷ at 10 i.Put ∷ at 11 (i.Load (pos 1) (pos 0)) ∷ at 12 (i.Qua (pos 1)) ∷ [])

abbrev pub not_none_code : CodeOf
not_none_code = code (main 0 [] 1 0 ∷ []) [] (at 1 i.None ∷ at 2 i.NotNone ∷ [])

-- a class that is not there, of an address and of a test
abbrev pub foreign_class : CodeOf
foreign_class = code (main 1 (type.Reference ∷ []) 1 0 ∷ objects 1 ∷ []) (class 0 1 0 0 0 ∷ []) (at 1 (i.Addr (pos 1) (pos 0) (pos 2)) ∷ [])

abbrev pub class_zero : CodeOf
class_zero = code (main 0 [] 1 0 ∷ objects 1 ∷ []) (class 0 1 0 0 0 ∷ []) (at 1 i.None ∷ at 2 (i.Is (pos 0)) ∷ [])

-- the frame of the program is no object, and so is in no class and outside none
abbrev pub no_object : CodeOf
no_object = code (main 0 [] 1 0 ∷ objects 1 ∷ []) (class 0 1 0 0 0 ∷ []) (at 1 (i.This (pos 1)) ∷ at 2 (i.In (pos 1)) ∷ [])

-- ---- objects and prefixed blocks with levels

abbrev pub by_value : CodeFormal
by_value = record { mode = mode.Value; shape = shape.Simple; code_type = type.Integer; class = 0 }

-- the block of objects of a class, with these cells and parameters
abbrev pub objects_with : (class : ℕ) → List CodeType → List CodeFormal → BlockOf
objects_with c types formals = record (block kind.Object 2 (length types) type.Nothing types 2 0) { class = c; class_free = false; formals = formals }

-- Class 1 has a parameter n and a variable x: it puts n into x, then comes `inner`, and then it writes x. Class 2 is prefixed by it, has a
-- parameter k and a variable y: it puts x * k into y, and writes that. The program generates an object of class 2, with 2 for n and 5 for k.
abbrev pub outer_class : (line : ℕ) → List Lined
outer_class n = at n (i.NextDecl (pos 0)) ∷ at n (i.Load (pos 2) (pos 0)) ∷ at n (i.Store (pos 2) (pos 1)) ∷ at n (i.Inner (pos 0)) ∷ at n (i.Load (pos 2) (pos 1)) ∷ at n (i.Int (pos 3)) ∷ at n (i.Std (pos 40)) ∷ at n (i.EndLevel (pos 0)) ∷ []

abbrev pub inner_class : (line : ℕ) → List Lined
inner_class n = at n (i.NextDecl (pos 1)) ∷ at n (i.Load (pos 2) (pos 1)) ∷ at n (i.Load (pos 2) (pos 2)) ∷ at n i.Mul ∷ at n (i.Store (pos 2) (pos 3)) ∷ at n (i.Load (pos 2) (pos 3)) ∷ at n (i.Int (pos 3)) ∷ at n (i.Std (pos 40)) ∷ at n (i.Inner (pos 1)) ∷ at n (i.EndLevel (pos 1)) ∷ []

abbrev pub two_levels : List BlockOf
two_levels = main 0 [] 3 0 ∷ objects_with 1 (type.Integer ∷ type.Integer ∷ []) (by_value ∷ []) ∷ objects_with 2 (type.Integer ∷ type.Integer ∷ type.Integer ∷ type.Integer ∷ []) (by_value ∷ by_value ∷ []) ∷ []

abbrev pub object_code : CodeOf
object_code = code two_levels (class 0 1 6 7 10 ∷ class 1 2 14 15 23 ∷ []) (at 1 (i.Link (pos 1)) ∷ at 2 (i.Int (pos 2)) ∷ at 3 (i.Int (pos 5)) ∷ at 4 (i.New (pos 2) (pos 2)) ∷ at 5 i.Pop ∷ at 6 (i.EndLevel (pos 0)) ∷ outer_class 7 ++ inner_class 8)

-- a block that class 1 prefixes, with 7 for n: it writes x
abbrev pub prefixed_code : CodeOf
prefixed_code = code (main 0 [] 1 0 ∷ objects_with 1 (type.Integer ∷ type.Integer ∷ []) (by_value ∷ []) ∷ record (objects_with 2 (type.Integer ∷ type.Integer ∷ type.Integer ∷ []) (by_value ∷ [])) { kind = kind.Prefixed } ∷ []) (class 0 1 3 4 7 ∷ class 1 2 11 12 16 ∷ [])
    (at 1 (i.Int (pos 7)) ∷ at 2 (i.Pref (pos 2) (pos 1)) ∷ at 3 (i.EndLevel (pos 0)) ∷ outer_class 4 ++ at 5 (i.NextDecl (pos 1)) ∷ at 5 (i.Load (pos 2) (pos 1)) ∷ at 5 (i.Int (pos 3)) ∷ at 5 (i.Std (pos 40)) ∷ at 5 (i.Inner (pos 1)) ∷ at 5 (i.EndLevel (pos 1)) ∷ [])

-- an object of a class without a prefix, of which the three parts begin with these instructions
abbrev pub one_level : (declarations statements after_inner : Instr) → CodeOf
one_level d s e = code (main 0 [] 1 0 ∷ objects_with 1 [] [] ∷ []) (class 0 1 2 3 4 ∷ []) (at 1 (i.Link (pos 1)) ∷ at 2 (i.New (pos 1) (pos 0)) ∷ at 3 d ∷ at 4 s ∷ at 5 e ∷ [])

-- a class of which the declarations begin at this place, with these parameters, and of whose objects one is generated without values
abbrev pub begun : (declarations : ℕ) → List CodeFormal → CodeOf
begun d formals = code (main 0 [] 1 0 ∷ objects_with 1 (type.Integer ∷ []) formals ∷ []) (class 0 1 d 2 2 ∷ []) (at 1 (i.Link (pos 1)) ∷ at 2 (i.New (pos 1) (pos 0)) ∷ at 3 (i.NextDecl (pos 0)) ∷ [])

-- a cell that the object has not
abbrev pub foreign_cell : CodeOf
foreign_cell = code (main 0 [] 1 0 ∷ objects_with 1 (type.Integer ∷ []) [] ∷ []) (class 0 1 3 4 5 ∷ []) (at 1 (i.Link (pos 1)) ∷ at 2 (i.New (pos 1) (pos 0)) ∷ at 3 (i.AddrR (pos 1) (pos 0)) ∷ at 4 (i.NextDecl (pos 0)) ∷ at 5 (i.Inner (pos 0)) ∷ at 6 (i.EndLevel (pos 0)) ∷ [])

-- the end of a level in a sub-block, which has none
abbrev pub no_levels : CodeOf
no_levels = code (main 0 [] 1 0 ∷ inner 0 [] 1 1 ∷ []) [] (at 1 (i.Enter (pos 1)) ∷ at 2 (i.EndLevel (pos 0)) ∷ [])

pub record Worked : Type 0 where
  pub outermost_first : levels family 3 ≡ Some (1 ∷ 2 ∷ 3 ∷ [])
  pub without_prefix : levels family 4 ≡ Some (4 ∷ [])
  pub in_front_of_itself : levels family 5 ≡ None
  pub prefix_not_there : levels family 6 ≡ None
  pub not_there : levels family 7 ≡ None
  pub exact : is_of family family_memory 2 (Object 2) ≡ Some true
  pub not_exact : is_of family family_memory 1 (Object 2) ≡ Some false
  pub inside : is_in family family_memory 1 (Object 3) ≡ Some true
  pub outside : is_in family family_memory 3 (Object 2) ≡ Some false
  pub beside : is_in family family_memory 4 (Object 3) ≡ Some false
  pub broken : is_in family family_memory 5 (Object 5) ≡ None
  pub no_class_of_a_block : is_in family family_memory 1 (Object 0) ≡ None
  pub none_is_in_none : is_in family family_memory 1 Nothing ≡ Some false
  pub none_may_stand : may_stand family family_memory 1 (Some Nothing) ≡ Some true
  pub no_reference : may_stand family family_memory 1 (Some (Integer (pos 1))) ≡ None
  pub through_reference : seen remote_code (limits 1000 100) 100 ≡ shows (codes " 5\n") 1 5 (RunFault AccessThroughNone 12)
  pub through_none : seen none_code (limits 1000 100) 100 ≡ shows (codes "") 1 5 (RunFault AccessThroughNone 12)
  pub is_none : seen not_none_code (limits 1000 100) 100 ≡ shows (codes "") 1 4 (RunFault AccessThroughNone 2)
  pub no_such_class : stops_at foreign_class 1 ≡ Some 0
  pub no_such_attribute : stops_at foreign_cell 6 ≡ Some 2
  pub no_class_tested : stops_at class_zero 2 ≡ Some 1
  pub of_no_class : stops_at no_object 2 ≡ Some 1
  pub own_parameter : parameter_cell object_code 2 1 ≡ Some 2
  pub parameter_of_prefix : parameter_cell object_code 2 0 ≡ Some 0
  pub levels_done : seen object_code (limits 1000 100) 100 ≡ shows (codes " 10  2\n") 3 12 Normal
  pub no_words_for_object : seen object_code (limits 11 100) 100 ≡ shows (codes "") 2 4 (StorageExhausted 4 4 8)
  pub end_takes_a_tick : seen object_code (limits 1000 2) 100 ≡ shows (codes " 10  2\n") 2 12 (TickLimit 2)
  pub prefixed_done : seen prefixed_code (limits 1000 100) 100 ≡ shows (codes "  7  7\n") 2 11 Normal
  pub inner_too_early : stops_at (one_level (i.Inner (pos 0)) i.Halt i.Halt) 3 ≡ Some 2
  pub end_too_early : stops_at (one_level (i.NextDecl (pos 0)) (i.EndLevel (pos 0)) i.Halt) 4 ≡ Some 3
  pub declared_twice : stops_at (one_level (i.NextDecl (pos 0)) (i.NextDecl (pos 0)) i.Halt) 4 ≡ Some 3
  pub no_second_level : stops_at (one_level (i.NextDecl (pos 1)) i.Halt i.Halt) 3 ≡ Some 2
  pub no_declarations : stops_at (begun 3 []) 2 ≡ Some 1
  pub value_missing : stops_at (begun 2 (by_value ∷ [])) 2 ≡ Some 1
  pub no_level_ends : stops_at no_levels 2 ≡ Some 1

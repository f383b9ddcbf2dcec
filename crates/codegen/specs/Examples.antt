-- Code of the worked programs, and that it shows what they show. A line of 0 is that of an instruction without an error.
use Rattle.std.specs.Prelude.{◌≡◌, ℕ, false, true, pos, List, [], ◌∷◌}
use Rattle.sim_base.specs.declared.limits.Limits.{Limits}
use Rattle.sim_code.specs.declared.code.BlockKind.{BlockKind}
use Rattle.sim_code.specs.declared.code.BlockKind.TheVariants as kind
use Rattle.sim_code.specs.declared.code.CodeFormal.{CodeFormal}
use Rattle.sim_code.specs.declared.code.CodeMode.TheVariants as by
use Rattle.sim_code.specs.declared.code.CodeType.{CodeType}
use Rattle.sim_code.specs.declared.code.CodeType.TheVariants as type
use Rattle.sim_code.specs.declared.code.FormalShape.TheVariants as shape
use Rattle.sim_code.specs.declared.instr.Instr.{Instr}
use Rattle.sim_code.specs.declared.instr.Instr.TheVariants as i
use Rattle.sim_code.specs.declared.instr.Lined.{Lined}
use Rattle.sim_code.specs.Code.{BlockOf, ClassOf, CodeOf}
use Rattle.sim_code.specs.Outcome.{Shown, shown}
use Rattle.sim_code.specs.Rows.{mrun}
use Rattle.sim_meaning.specs.ClassExamples.{objects_without_end}
use Rattle.sim_meaning.specs.Examples.{dimensions, endless, factorial_166, factorial_20, factorial_21, fields, for_list, large_array, limits, seen, sub_block, subscript, value_array}

abbrev pub at : (line : ℕ) → Instr → Lined
at line x = record { instr = x; line = record { 0 = line } }

abbrev pub block : BlockKind → (level cells temps entry : ℕ) → CodeType → List CodeType → List CodeFormal → BlockOf
block kind level cells temps entry result_type types formals = record {
  kind = kind;
  level = level;
  cells = cells;
  temps = temps;
  room = 6;
  entry = entry;
  class_free = true;
  result_type = result_type;
  class = 0;
  types = types;
  formals = formals;
}

abbrev pub code : List BlockOf → List Lined → CodeOf
code blocks instrs = record { texts = []; blocks = blocks; classes = []; thunks = []; actual_lists = []; instrs = instrs }

abbrev pub seen_code : CodeOf → Limits → ℕ → Shown
seen_code c l n = shown (mrun c l [] n)

abbrev pub fields_code : CodeOf
fields_code = code (block kind.SubBlock 1 0 0 0 (type.Nothing) ([]) ([]) ∷ []) (at 1 (i.Jump (pos 1)) ∷ at 0 i.Tick ∷ at 0 (i.Int (pos 12345)) ∷ at 0 (i.Int (pos 3)) ∷ at 1 (i.Std (pos 40)) ∷ at 0 i.Tick ∷ at 0 (i.Char (pos 46)) ∷ at 1 (i.Std (pos 38)) ∷ at 0 i.Tick ∷ at 0 (i.Int (pos 7)) ∷ at 0 (i.Int (pos 0)) ∷ at 1 (i.Std (pos 40)) ∷ at 0 i.Tick ∷ at 0 (i.Char (pos 46)) ∷ at 1 (i.Std (pos 38)) ∷ at 0 i.Tick ∷ at 0 (i.Int (pos 7)) ∷ at 0 (i.Int (pos 3)) ∷ at 1 i.Neg ∷ at 1 (i.Std (pos 40)) ∷ at 0 i.Tick ∷ at 0 (i.Char (pos 46)) ∷ at 1 (i.Std (pos 38)) ∷ at 0 i.Tick ∷ at 1 (i.Std (pos 37)) ∷ at 0 (i.EndLevel (pos 0)) ∷ [])

abbrev pub endless_code : CodeOf
endless_code = code (block kind.SubBlock 1 0 0 0 (type.Nothing) ([]) ([]) ∷ []) (at 1 (i.Jump (pos 1)) ∷ at 0 i.Tick ∷ at 0 i.Tick ∷ at 0 (i.Bool (pos 1)) ∷ at 0 (i.JumpF (pos 6)) ∷ at 0 (i.Jump (pos 2)) ∷ at 0 (i.EndLevel (pos 0)) ∷ [])

abbrev pub for_list_code : CodeOf
for_list_code = code (block kind.SubBlock 1 1 4 0 (type.Nothing) (type.Integer ∷ type.Nothing ∷ type.Nothing ∷ type.Nothing ∷ type.Nothing ∷ []) ([]) ∷ []) (at 1 (i.Jump (pos 1)) ∷ at 0 i.Tick ∷ at 0 (i.Jump (pos 18)) ∷ at 0 i.Tick ∷ at 0 (i.Load (pos 1) (pos 0)) ∷ at 0 (i.Int (pos 3)) ∷ at 1 (i.Std (pos 40)) ∷ at 0 (i.Load (pos 1) (pos 4)) ∷ at 0 (i.Int (pos 0)) ∷ at 0 (i.Rel (pos 2)) ∷ at 0 (i.JumpF (pos 12)) ∷ at 0 (i.Jump (pos 30)) ∷ at 0 (i.Load (pos 1) (pos 4)) ∷ at 0 (i.Int (pos 1)) ∷ at 0 (i.Rel (pos 2)) ∷ at 0 (i.JumpF (pos 17)) ∷ at 0 (i.Jump (pos 43)) ∷ at 0 (i.Jump (pos 55)) ∷ at 0 (i.Int (pos 3)) ∷ at 0 (i.Store (pos 1) (pos 0)) ∷ at 0 (i.Int (pos 1)) ∷ at 1 i.Neg ∷ at 0 i.Tick ∷ at 0 (i.Load (pos 1) (pos 0)) ∷ at 0 (i.Int (pos 1)) ∷ at 0 i.StepTest ∷ at 0 (i.JumpF (pos 37)) ∷ at 0 (i.Int (pos 0)) ∷ at 0 (i.Store (pos 1) (pos 4)) ∷ at 0 (i.Jump (pos 3)) ∷ at 0 (i.Int (pos 1)) ∷ at 1 i.Neg ∷ at 0 i.Dup ∷ at 0 (i.Load (pos 1) (pos 0)) ∷ at 1 i.Add ∷ at 0 (i.Store (pos 1) (pos 0)) ∷ at 0 (i.Jump (pos 22)) ∷ at 0 i.Tick ∷ at 0 (i.Int (pos 10)) ∷ at 0 (i.Store (pos 1) (pos 0)) ∷ at 0 (i.Int (pos 1)) ∷ at 0 (i.Store (pos 1) (pos 4)) ∷ at 0 (i.Jump (pos 3)) ∷ at 0 i.Tick ∷ at 0 (i.Load (pos 1) (pos 0)) ∷ at 0 (i.Int (pos 1)) ∷ at 1 i.Add ∷ at 0 (i.Store (pos 1) (pos 0)) ∷ at 0 (i.Load (pos 1) (pos 0)) ∷ at 0 (i.Int (pos 13)) ∷ at 1 (i.Rel (pos 0)) ∷ at 0 (i.JumpF (pos 56)) ∷ at 0 (i.Int (pos 2)) ∷ at 0 (i.Store (pos 1) (pos 4)) ∷ at 0 (i.Jump (pos 3)) ∷ at 0 (i.Jump (pos 43)) ∷ at 0 i.Tick ∷ at 1 (i.Std (pos 37)) ∷ at 0 (i.EndLevel (pos 0)) ∷ [])

abbrev pub factorial_20_code : CodeOf
factorial_20_code = code (block kind.SubBlock 1 0 0 17 (type.Nothing) ([]) ([]) ∷ block kind.Procedure 2 2 0 1 (type.Integer) (type.Integer ∷ type.Integer ∷ []) (record { mode = by.Value; shape = shape.Simple; code_type = type.Integer; class = 0 } ∷ []) ∷ []) (at 0 (i.Jump (pos 17)) ∷ at 0 i.Tick ∷ at 0 (i.Load (pos 2) (pos 1)) ∷ at 0 (i.Int (pos 0)) ∷ at 1 (i.Rel (pos 2)) ∷ at 0 (i.JumpF (pos 8)) ∷ at 0 (i.Int (pos 1)) ∷ at 0 (i.Jump (pos 15)) ∷ at 0 (i.Load (pos 2) (pos 1)) ∷ at 0 (i.Link (pos 1)) ∷ at 0 (i.Load (pos 2) (pos 1)) ∷ at 0 (i.Int (pos 1)) ∷ at 1 i.Sub ∷ at 1 (i.Call (pos 1) (pos 1)) ∷ at 1 i.Mul ∷ at 0 (i.Store (pos 2) (pos 0)) ∷ at 0 i.Return ∷ at 1 (i.Jump (pos 18)) ∷ at 0 i.Tick ∷ at 0 (i.Link (pos 1)) ∷ at 0 (i.Int (pos 20)) ∷ at 1 (i.Call (pos 1) (pos 1)) ∷ at 0 (i.Int (pos 20)) ∷ at 1 (i.Std (pos 40)) ∷ at 0 i.Tick ∷ at 1 (i.Std (pos 37)) ∷ at 0 (i.EndLevel (pos 0)) ∷ [])

abbrev pub factorial_21_code : CodeOf
factorial_21_code = code (block kind.SubBlock 1 0 0 17 (type.Nothing) ([]) ([]) ∷ block kind.Procedure 2 2 0 1 (type.Integer) (type.Integer ∷ type.Integer ∷ []) (record { mode = by.Value; shape = shape.Simple; code_type = type.Integer; class = 0 } ∷ []) ∷ []) (at 0 (i.Jump (pos 17)) ∷ at 0 i.Tick ∷ at 0 (i.Load (pos 2) (pos 1)) ∷ at 0 (i.Int (pos 0)) ∷ at 1 (i.Rel (pos 2)) ∷ at 0 (i.JumpF (pos 8)) ∷ at 0 (i.Int (pos 1)) ∷ at 0 (i.Jump (pos 15)) ∷ at 0 (i.Load (pos 2) (pos 1)) ∷ at 0 (i.Link (pos 1)) ∷ at 0 (i.Load (pos 2) (pos 1)) ∷ at 0 (i.Int (pos 1)) ∷ at 1 i.Sub ∷ at 1 (i.Call (pos 1) (pos 1)) ∷ at 1 i.Mul ∷ at 0 (i.Store (pos 2) (pos 0)) ∷ at 0 i.Return ∷ at 1 (i.Jump (pos 18)) ∷ at 0 i.Tick ∷ at 0 (i.Link (pos 1)) ∷ at 0 (i.Int (pos 21)) ∷ at 1 (i.Call (pos 1) (pos 1)) ∷ at 0 (i.Int (pos 20)) ∷ at 1 (i.Std (pos 40)) ∷ at 0 i.Tick ∷ at 1 (i.Std (pos 37)) ∷ at 0 (i.EndLevel (pos 0)) ∷ [])

abbrev pub factorial_166_code : CodeOf
factorial_166_code = code (block kind.SubBlock 1 0 0 17 (type.Nothing) ([]) ([]) ∷ block kind.Procedure 2 2 0 1 (type.Integer) (type.Integer ∷ type.Integer ∷ []) (record { mode = by.Value; shape = shape.Simple; code_type = type.Integer; class = 0 } ∷ []) ∷ []) (at 0 (i.Jump (pos 17)) ∷ at 0 i.Tick ∷ at 0 (i.Load (pos 2) (pos 1)) ∷ at 0 (i.Int (pos 0)) ∷ at 1 (i.Rel (pos 2)) ∷ at 0 (i.JumpF (pos 8)) ∷ at 0 (i.Int (pos 1)) ∷ at 0 (i.Jump (pos 15)) ∷ at 0 (i.Load (pos 2) (pos 1)) ∷ at 0 (i.Link (pos 1)) ∷ at 0 (i.Load (pos 2) (pos 1)) ∷ at 0 (i.Int (pos 1)) ∷ at 1 i.Sub ∷ at 1 (i.Call (pos 1) (pos 1)) ∷ at 1 i.Mul ∷ at 0 (i.Store (pos 2) (pos 0)) ∷ at 0 i.Return ∷ at 1 (i.Jump (pos 18)) ∷ at 0 i.Tick ∷ at 0 (i.Link (pos 1)) ∷ at 0 (i.Int (pos 166)) ∷ at 1 (i.Call (pos 1) (pos 1)) ∷ at 0 (i.Int (pos 20)) ∷ at 1 (i.Std (pos 40)) ∷ at 0 i.Tick ∷ at 1 (i.Std (pos 37)) ∷ at 0 (i.EndLevel (pos 0)) ∷ [])

abbrev pub value_array_code : CodeOf
value_array_code = code (block kind.SubBlock 1 1 0 8 (type.Nothing) (type.Nothing ∷ []) ([]) ∷ block kind.Procedure 2 1 0 1 (type.Nothing) (type.Nothing ∷ []) (record { mode = by.Value; shape = shape.Array; code_type = type.Integer; class = 0 } ∷ []) ∷ []) (at 0 (i.Jump (pos 8)) ∷ at 0 i.Tick ∷ at 0 (i.Load (pos 2) (pos 0)) ∷ at 0 (i.Int (pos 1)) ∷ at 1 (i.Elem (pos 1) (pos 0)) ∷ at 0 (i.Int (pos 7)) ∷ at 0 i.Put ∷ at 0 i.Return ∷ at 1 (i.Jump (pos 9)) ∷ at 0 (i.Int (pos 1)) ∷ at 0 (i.Int (pos 1)) ∷ at 1 (i.Array (pos 1) (pos 1)) ∷ at 0 (i.Store (pos 1) (pos 0)) ∷ at 0 i.Tick ∷ at 0 (i.Link (pos 1)) ∷ at 0 (i.Load (pos 1) (pos 0)) ∷ at 1 i.CopyArr ∷ at 1 (i.Call (pos 1) (pos 1)) ∷ at 0 i.Tick ∷ at 0 (i.Load (pos 1) (pos 0)) ∷ at 0 (i.Int (pos 1)) ∷ at 1 (i.Elem (pos 1) (pos 0)) ∷ at 0 i.Fetch ∷ at 0 (i.Int (pos 2)) ∷ at 1 (i.Std (pos 40)) ∷ at 0 i.Tick ∷ at 1 (i.Std (pos 37)) ∷ at 0 (i.EndLevel (pos 0)) ∷ [])

abbrev pub subscript_code : CodeOf
subscript_code = code (block kind.SubBlock 1 1 0 0 (type.Nothing) (type.Nothing ∷ []) ([]) ∷ []) (at 1 (i.Jump (pos 1)) ∷ at 0 (i.Int (pos 1)) ∷ at 0 (i.Int (pos 2)) ∷ at 1 (i.Array (pos 1) (pos 1)) ∷ at 0 (i.Store (pos 1) (pos 0)) ∷ at 0 i.Tick ∷ at 0 (i.Load (pos 1) (pos 0)) ∷ at 0 (i.Int (pos 1)) ∷ at 2 (i.Elem (pos 1) (pos 0)) ∷ at 0 (i.Int (pos 1)) ∷ at 0 i.Put ∷ at 0 i.Tick ∷ at 0 (i.Load (pos 1) (pos 0)) ∷ at 0 (i.Int (pos 3)) ∷ at 3 (i.Elem (pos 1) (pos 0)) ∷ at 0 (i.Int (pos 1)) ∷ at 0 (i.Int (pos 0)) ∷ at 4 i.Div ∷ at 0 i.Put ∷ at 0 (i.EndLevel (pos 0)) ∷ [])

abbrev pub dimensions_code : CodeOf
dimensions_code = code (block kind.SubBlock 1 1 0 8 (type.Nothing) (type.Nothing ∷ []) ([]) ∷ block kind.Procedure 2 1 0 1 (type.Nothing) (type.Nothing ∷ []) (record { mode = by.Reference; shape = shape.Array; code_type = type.Integer; class = 0 } ∷ []) ∷ []) (at 0 (i.Jump (pos 8)) ∷ at 0 i.Tick ∷ at 0 (i.Load (pos 2) (pos 0)) ∷ at 0 (i.Int (pos 1)) ∷ at 1 (i.Elem (pos 1) (pos 0)) ∷ at 0 (i.Int (pos 1)) ∷ at 0 i.Put ∷ at 0 i.Return ∷ at 1 (i.Jump (pos 9)) ∷ at 0 (i.Int (pos 1)) ∷ at 0 (i.Int (pos 2)) ∷ at 0 (i.Int (pos 1)) ∷ at 0 (i.Int (pos 2)) ∷ at 2 (i.Array (pos 1) (pos 2)) ∷ at 0 (i.Store (pos 1) (pos 0)) ∷ at 0 i.Tick ∷ at 0 (i.Link (pos 1)) ∷ at 0 (i.Load (pos 1) (pos 0)) ∷ at 3 (i.Call (pos 1) (pos 1)) ∷ at 0 (i.EndLevel (pos 0)) ∷ [])

abbrev pub large_array_code : CodeOf
large_array_code = code (block kind.SubBlock 1 2 0 0 (type.Nothing) (type.Nothing ∷ type.Nothing ∷ []) ([]) ∷ []) (at 1 (i.Jump (pos 1)) ∷ at 0 (i.Int (pos 1)) ∷ at 0 (i.Int (pos 65536)) ∷ at 0 (i.Int (pos 1)) ∷ at 0 (i.Int (pos 65536)) ∷ at 1 (i.Array (pos 1) (pos 2)) ∷ at 0 (i.Store (pos 1) (pos 0)) ∷ at 0 (i.Load (pos 1) (pos 0)) ∷ at 1 i.CopyArr ∷ at 0 (i.Store (pos 1) (pos 1)) ∷ at 0 (i.EndLevel (pos 0)) ∷ [])

abbrev pub sub_block_code : CodeOf
sub_block_code = code (block kind.SubBlock 1 2 4 0 (type.Nothing) (type.Integer ∷ type.Integer ∷ type.Nothing ∷ type.Nothing ∷ type.Nothing ∷ type.Nothing ∷ []) [] ∷ block kind.SubBlock 2 2 0 35 (type.Nothing) (type.Nothing ∷ type.Nothing ∷ []) [] ∷ []) (at 1 (i.Jump (pos 1)) ∷ at 0 i.Tick ∷ at 0 (i.Int (pos 2)) ∷ at 0 (i.Store (pos 1) (pos 5)) ∷ at 0 (i.Load (pos 1) (pos 5)) ∷ at 0 (i.Store (pos 1) (pos 1)) ∷ at 0 (i.Load (pos 1) (pos 5)) ∷ at 0 (i.Store (pos 1) (pos 0)) ∷ at 0 i.Tick ∷ at 3 (i.Enter (pos 1)) ∷ at 0 i.Tick ∷ at 0 (i.Load (pos 1) (pos 0)) ∷ at 0 (i.Int (pos 2)) ∷ at 4 (i.Rel (pos 2)) ∷ at 0 (i.JumpF (pos 21)) ∷ at 0 (i.Load (pos 1) (pos 1)) ∷ at 0 (i.Load (pos 1) (pos 0)) ∷ at 4 i.Div ∷ at 0 (i.Int (pos 1)) ∷ at 4 (i.Rel (pos 2)) ∷ at 0 (i.Jump (pos 22)) ∷ at 0 (i.Bool (pos 0)) ∷ at 0 (i.JumpF (pos 28)) ∷ at 0 i.Tick ∷ at 0 (i.Load (pos 1) (pos 0)) ∷ at 0 (i.Int (pos 2)) ∷ at 4 (i.Std (pos 40)) ∷ at 0 (i.Jump (pos 32)) ∷ at 0 i.Tick ∷ at 0 (i.Int (pos 0)) ∷ at 0 (i.Int (pos 2)) ∷ at 4 (i.Std (pos 40)) ∷ at 0 i.Tick ∷ at 5 (i.Std (pos 37)) ∷ at 0 (i.EndLevel (pos 0)) ∷ at 0 (i.Load (pos 1) (pos 0)) ∷ at 0 (i.Int (pos 3)) ∷ at 3 (i.Array (pos 1) (pos 1)) ∷ at 0 (i.Store (pos 2) (pos 0)) ∷ at 0 (i.Int (pos 1)) ∷ at 0 (i.Load (pos 1) (pos 1)) ∷ at 3 (i.Array (pos 1) (pos 1)) ∷ at 0 (i.Store (pos 2) (pos 1)) ∷ at 0 i.Tick ∷ at 0 (i.Load (pos 2) (pos 0)) ∷ at 0 (i.Int (pos 3)) ∷ at 3 (i.Elem (pos 1) (pos 0)) ∷ at 0 (i.Load (pos 2) (pos 1)) ∷ at 0 (i.Int (pos 2)) ∷ at 3 (i.Elem (pos 1) (pos 0)) ∷ at 0 i.Fetch ∷ at 0 (i.Int (pos 5)) ∷ at 3 i.Add ∷ at 0 i.Put ∷ at 0 i.Tick ∷ at 0 (i.Load (pos 2) (pos 0)) ∷ at 0 (i.Int (pos 3)) ∷ at 3 (i.Elem (pos 1) (pos 0)) ∷ at 0 i.Fetch ∷ at 0 (i.Int (pos 3)) ∷ at 3 (i.Std (pos 40)) ∷ at 0 i.Leave ∷ [])

-- objects of a class without end: the class is the second block, with one level
abbrev pub the_class : ClassOf
the_class = record { prefix = 0; block = 1; declarations = 17; statements = 18; after_inner = 19; process = false; matches = [] }

abbrev pub objects_code : CodeOf
objects_code = record (code (record (block kind.SubBlock 1 1 0 0 (type.Nothing) (type.Integer ∷ []) []) { class_free = false } ∷ record (block kind.Object 2 2 0 0 (type.Nothing) (type.Integer ∷ type.Integer ∷ []) []) { class_free = false; class = 1 } ∷ []) (at 1 (i.Jump (pos 1)) ∷ at 0 i.Tick ∷ at 0 i.Tick ∷ at 0 (i.Bool (pos 1)) ∷ at 0 (i.JumpF (pos 16)) ∷ at 0 i.Tick ∷ at 0 i.Tick ∷ at 0 (i.Load (pos 1) (pos 0)) ∷ at 0 (i.Int (pos 1)) ∷ at 5 i.Add ∷ at 0 (i.Store (pos 1) (pos 0)) ∷ at 0 i.Tick ∷ at 0 (i.Link (pos 1)) ∷ at 6 (i.New (pos 1) (pos 0)) ∷ at 0 i.Pop ∷ at 0 (i.Jump (pos 2)) ∷ at 0 (i.EndLevel (pos 0)) ∷ at 0 (i.NextDecl (pos 0)) ∷ at 0 (i.Inner (pos 0)) ∷ at 0 (i.EndLevel (pos 0)) ∷ [])) { classes = the_class ∷ [] }

pub record SameShown : Type 0 where
  pub fields_same : seen_code fields_code (limits 1000 1000) 200 ≡ seen fields (limits 1000 1000) 200
  pub endless_same : seen_code endless_code (limits 1000 20) 200 ≡ seen endless (limits 1000 20) 200
  pub for_list_same : seen_code for_list_code (limits 1000 1000) 400 ≡ seen for_list (limits 1000 1000) 400
  pub factorial_20_same : seen_code factorial_20_code (limits 1000 1000) 1000 ≡ seen factorial_20 (limits 1000 1000) 1000
  pub factorial_21_same : seen_code factorial_21_code (limits 1000 1000) 1000 ≡ seen factorial_21 (limits 1000 1000) 1000
  pub factorial_166_same : seen_code factorial_166_code (limits 1000 1000) 5000 ≡ seen factorial_166 (limits 1000 1000) 5000
  pub value_array_same : seen_code value_array_code (limits 1000 1000) 200 ≡ seen value_array (limits 1000 1000) 200
  pub subscript_same : seen_code subscript_code (limits 1000 1000) 200 ≡ seen subscript (limits 1000 1000) 200
  pub dimensions_same : seen_code dimensions_code (limits 1000 1000) 200 ≡ seen dimensions (limits 1000 1000) 200
  pub large_array_same : seen_code large_array_code (limits 1000 1000) 200 ≡ seen large_array (limits 1000 1000) 200
  pub sub_block_same : seen_code sub_block_code (limits 1000 1000) 300 ≡ seen sub_block (limits 1000 1000) 300
  pub objects_same : seen_code objects_code (limits 100 200) 1000 ≡ seen objects_without_end (limits 100 200) 1000

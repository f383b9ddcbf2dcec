-- What a code file says: its header, then the code, field by field.
use Rattle.std.specs.Prelude.{◌≡◌, ℕ, ◌+◌, ◌≤◌, ◌^◌, Bool, true, false, ℤ, List, [], ◌∷◌, ◌++◌, length, codes}
use Rattle.std.specs.List.{flat_map, AllByRecursion}
use Rattle.sim_code.specs.declared.code.BlockKind.{BlockKind}
use Rattle.sim_code.specs.declared.code.BlockKind.TheVariants as kind
use Rattle.sim_code.specs.declared.code.CodeActual.{CodeActual}
use Rattle.sim_code.specs.declared.code.CodeFormal.{CodeFormal}
use Rattle.sim_code.specs.declared.code.CodeMode.{CodeMode}
use Rattle.sim_code.specs.declared.code.CodeMode.TheVariants as mode
use Rattle.sim_code.specs.declared.code.CodeType.{CodeType}
use Rattle.sim_code.specs.declared.code.CodeType.TheVariants as type
use Rattle.sim_code.specs.declared.code.FormalShape.{FormalShape}
use Rattle.sim_code.specs.declared.code.FormalShape.TheVariants as shape
use Rattle.sim_code.specs.declared.code.Match.{Match}
use Rattle.sim_code.specs.declared.code.ThunkRecord.{ThunkRecord}
use Rattle.sim_code.specs.declared.instr.Lined.{Lined}
use Rattle.sim_code.specs.Code.{BlockOf, ClassOf, CodeOf}
use Rattle.code_file.specs.Fields.{Field, Number, Listed, Opcode, Operand, Unused, Characters, Fits, bytes_of}
use Rattle.code_file.specs.Table.{row_of}

-- ---- what is chosen from a list

abbrev pub truth_number : Bool → ℕ
truth_number false = 0
truth_number true = 1

abbrev pub kind_number : BlockKind → ℕ
kind_number kind.SubBlock = 0
kind_number kind.Procedure = 1
kind_number kind.Object = 2
kind_number kind.Prefixed = 3

abbrev pub type_number : CodeType → ℕ
type_number type.Nothing = 0
type_number type.Integer = 1
type_number type.Boolean = 2
type_number type.Character = 3
type_number type.Text = 4
type_number type.Reference = 5

abbrev pub mode_number : CodeMode → ℕ
mode_number mode.Value = 0
mode_number mode.Reference = 1
mode_number mode.Name = 2

abbrev pub shape_number : FormalShape → ℕ
shape_number shape.Simple = 0
shape_number shape.Array = 1
shape_number shape.Procedure = 2

abbrev pub truth_field : Bool → Field
truth_field b = Listed 1 (truth_number b)

abbrev pub type_field : CodeType → Field
type_field t = Listed 5 (type_number t)

-- ---- records

abbrev pub text_fields : List ℕ → List Field
text_fields text = Number (length text) ∷ Characters text ∷ []

abbrev pub type_fields : CodeType → List Field
type_fields t = type_field t ∷ []

abbrev pub formal_fields : CodeFormal → List Field
formal_fields f = Listed 2 (mode_number f.mode) ∷ Listed 2 (shape_number f.shape) ∷ type_field f.code_type ∷ Number f.class ∷ []

-- Behind the fields of a block stand a type for each of its cells and temps, then its formal parameters.
abbrev pub block_fields : BlockOf → List Field
block_fields b =
    Listed 3 (kind_number b.kind) ∷ Number b.level ∷ Number b.cells ∷ Number b.temps ∷ Number b.room ∷ Number b.entry ∷
    truth_field b.class_free ∷ type_field b.result_type ∷ Number b.class ∷ Number (length b.formals) ∷
    (flat_map type_fields b.types ++ flat_map formal_fields b.formals)

abbrev pub match_fields : Match → List Field
match_fields m = Number m.virtual_number ∷ Number m.block ∷ []

abbrev pub class_fields : ClassOf → List Field
class_fields c =
    Number c.prefix ∷ Number c.block ∷ Number c.declarations ∷ Number c.statements ∷ Number c.after_inner ∷ truth_field c.process ∷
    Number (length c.matches) ∷ flat_map match_fields c.matches

abbrev pub thunk_fields : ThunkRecord → List Field
thunk_fields t = Number t.entry ∷ Number t.room ∷ []

abbrev pub actual_fields : CodeActual → List Field
actual_fields a =
    type_field a.code_type ∷ truth_field a.variable ∷ type_field a.array ∷ truth_field a.procedure ∷ type_field a.result_type ∷
    Number a.formals ∷ Number a.class ∷ []

abbrev pub list_fields : List CodeActual → List Field
list_fields actuals = Number (length actuals) ∷ flat_map actual_fields actuals

-- three operands, of which an instruction has the first ones
abbrev pub operand_fields : List ℤ → List Field
operand_fields [] = Unused ∷ Unused ∷ Unused ∷ []
operand_fields (a ∷ []) = Operand a ∷ Unused ∷ Unused ∷ []
operand_fields (a ∷ b ∷ []) = Operand a ∷ Operand b ∷ Unused ∷ []
operand_fields (a ∷ b ∷ c ∷ _) = Operand a ∷ Operand b ∷ Operand c ∷ []

abbrev pub lined_fields : Lined → List Field
lined_fields l = Opcode (row_of l.instr).number ∷ (operand_fields (row_of l.instr).operands ++ Number l.line.0 ∷ [])

-- ---- the file

-- a section: how many records there are, and then the records
abbrev pub section : {A : Type 0} → (A → List Field) → List A → List Field
section fields xs = Number (length xs) ∷ flat_map fields xs

abbrev pub code_fields : CodeOf → List Field
code_fields c =
    section text_fields c.texts ++ (section block_fields c.blocks ++ (section class_fields c.classes ++
    (section thunk_fields c.thunks ++ (section list_fields c.actual_lists ++ section lined_fields c.instrs))))

abbrev pub header : List ℕ
header = codes "SIMCODE1"

abbrev pub spelling : CodeOf → List ℕ
spelling c = header ++ bytes_of (code_fields c)

-- each cell and each temp has a type
abbrev pub HasTypes : BlockOf → Type 0
HasTypes b = length b.types ≡ b.cells + b.temps

-- what a code file can say
pub record IsCode (c : CodeOf) : Type 0 where
  pub typed : AllByRecursion HasTypes c.blocks
  pub fits : AllByRecursion Fits (code_fields c)

-- how many bytes a code file has at most
abbrev pub largest : ℕ
largest = 2 ^ 30

-- The bytes are a code file, and this is its code.
pub record Spells (bytes : List ℕ) (c : CodeOf) : Type 0 where
  pub is_code : IsCode c
  pub spelt : bytes ≡ spelling c
  pub within : length bytes ≤ largest

-- Which code stands for a whole program.
use Rattle.std.specs.Prelude.{◌≡◌, ◌<◌, ◌≤◌, ◌+◌, ⊤, ℕ, zero, suc, Bool, false, pos, List, [], ◌∷◌, true, ◌++◌, length, map, slice_get, Option, Some, None}
use Rattle.sim_scope.specs.declared.types.Formal.{Formal}
use Rattle.sim_scope.specs.declared.types.FormalKind.{FormalKind}
use Rattle.sim_scope.specs.declared.types.FormalKind.TheVariants as of
use Rattle.sim_scope.specs.declared.types.Mode.{Mode}
use Rattle.sim_scope.specs.declared.types.Mode.TheVariants as by
use Rattle.sim_scope.specs.declared.types.StandardClass.{StandardClass}
use Rattle.sim_scope.specs.declared.types.StandardClass.TheVariants as standard
use Rattle.sim_scope.specs.declared.scopes.Declaration.{Declaration}
use Rattle.sim_scope.specs.Scopes.{is_virtual}
use Rattle.sim_scope.specs.Source.{Source, level_of, line_at}
use Rattle.sim_tree.specs.declared.stmt.TypeName.{TypeName}
use Rattle.sim_tree.specs.declared.stmt.TypeName.TheVariants as type_name
use Rattle.sim_tree.specs.Syntax.{Declarations, NoDeclaration, NoStatement, Statement, Statements}
use Rattle.sim_values.specs.Plain.{Plain, Integer, Truth, Character, Text, Object, MainOf, Nothing}
use Rattle.sim_code.specs.declared.code.Match.{Match}
use Rattle.sim_code.specs.declared.code.BlockKind.{BlockKind}
use Rattle.sim_code.specs.declared.code.BlockKind.TheVariants as kind
use Rattle.sim_code.specs.declared.code.CodeFormal.{CodeFormal}
use Rattle.sim_code.specs.declared.code.CodeMode.{CodeMode}
use Rattle.sim_code.specs.declared.code.CodeMode.TheVariants as mode
use Rattle.sim_code.specs.declared.code.FormalShape.{FormalShape}
use Rattle.sim_code.specs.declared.code.FormalShape.TheVariants as shape
use Rattle.sim_code.specs.declared.code.CodeType.{CodeType}
use Rattle.sim_code.specs.declared.code.CodeType.TheVariants as type
use Rattle.sim_code.specs.declared.instr.Instr.{Instr}
use Rattle.sim_code.specs.declared.instr.Instr.TheVariants as i
use Rattle.sim_code.specs.Classes.{class_numbered, head_mark, linkage_mark, process_mark}
use Rattle.sim_code.specs.Code.{BlockOf, ClassOf, CodeOf}
use Rattle.sim_meaning.specs.Constants.{constants_of}
use Rattle.sim_meaning.specs.Closing.{class_parameters}
use Rattle.sim_meaning.specs.Entries.{formals_of}
use Rattle.sim_meaning.specs.Levels.{has_levels, qualification, is_process_text, levels_of, writes_inner}
use Rattle.sim_meaning.specs.Virtuals.{match_in_text}
use Rattle.sim_meaning.specs.Pending.{Held, Of, Val}
use Rattle.sim_meaning.specs.Texts.{BlockText, ClassText, ConnectionText, PrefixedText, ProcedureText, StandardText, Text as TextOf, is_class_free, text}
use Rattle.codegen_expr.specs.CodeExpr.{class_or_none, type_of}
use Rattle.codegen_expr.specs.Sites.{At, Is, Site, block_in_front, block_number, blocks_before, cells_in, cells_of_block, class_in, class_number, expression_temps, own_end, own_part, prefix_of, room_of_block, types_in}
use Rattle.codegen.specs.Agrees.{Agrees}
use Rattle.codegen.specs.CodeArrays.{ArraysAt}
use Rattle.codegen.specs.CodeStm.{LevelAt, ProcessAt, StmAt, StmsAt}

-- ---- cells

-- what a cell holds at the entry, as the code says it
abbrev pub type_of_plain : Plain → CodeType
type_of_plain (Integer z) = type.Integer
type_of_plain (Truth b) = type.Boolean
type_of_plain (Character c) = type.Character
type_of_plain (Text x) = type.Text
type_of_plain (Object j) = type.Reference
type_of_plain (MainOf j) = type.Reference
type_of_plain Nothing = type.Reference

abbrev pub type_of_value : Option Val → CodeType
type_of_value (Some (Of v)) = type_of_plain v
type_of_value _ = type.Nothing

abbrev pub type_of_cell : Held → CodeType
type_of_cell h = type_of_value h.value

abbrev pub type_of_name : Option TypeName → CodeType
type_of_name None = type.Nothing
type_of_name (Some (type_name.Integer token)) = type.Integer
type_of_name (Some (type_name.Boolean token)) = type.Boolean
type_of_name (Some (type_name.Character token)) = type.Character
type_of_name (Some (type_name.Text token)) = type.Text
type_of_name (Some (type_name.Reference token class)) = type.Reference

-- ---- formal parameters

abbrev pub code_mode : Mode → CodeMode
code_mode by.ByValue = mode.Value
code_mode by.ByReference = mode.Reference
code_mode by.ByName = mode.Name

abbrev pub code_shape : FormalKind → FormalShape
code_shape of.Simple = shape.Simple
code_shape of.Array = shape.Array
code_shape of.Procedure = shape.Procedure

abbrev pub code_formal : Source → CodeOf → Formal → CodeFormal
code_formal s code f = record { mode = code_mode f.mode; shape = code_shape f.kind; code_type = type_of f.ty; class = class_or_none s code (qualification s f.ty) }

-- ---- blocks

-- the formal parameters of a text, those of a class or a prefixed block of all its levels
abbrev pub parameters_of : Source → (text : ℕ) → Option TextOf → List Formal
parameters_of s k (Some (ClassText prefix h ds ss)) = class_parameters s (Some k)
parameters_of s k (Some (PrefixedText class arguments ds ss)) = class_parameters s (Some k)
parameters_of s k (Some (StandardText which)) = class_parameters s (Some k)
parameters_of s k _ = formals_of s k

-- The record of a text. Its frames have all that those of the class in front of it have, then the text's own part, then temps. What the text
-- and the classes in front of it declare costs words; cells of connections and temps cost none.
pub record RecordOf (s : Source) (code : CodeOf) (k : ℕ) (kind : BlockKind) (result_type : CodeType) (b : BlockOf) : Type 0 where
  pub is_kind : b.kind ≡ kind
  pub level : b.level ≡ level_of s k
  pub cells : b.cells ≡ cells_of_block (block_in_front s code k) + length (cells_in s k (text s k))
  pub class_free : b.class_free ≡ is_class_free s k
  pub gives : b.result_type ≡ result_type
  pub formals : b.formals ≡ map (code_formal s code) (parameters_of s k (text s k))
  pub temps : List CodeType
  pub types : b.types ≡ types_in (block_in_front s code k) ++ (map type_of_cell (own_part s k) ++ temps)
  pub counted : b.cells + b.temps ≡ length b.types
  pub roomy : room_of_block (block_in_front s code k) ≤ b.room

-- where the code of a text stands: the three temps of expressions lie behind its own part
abbrev pub site_of : Source → CodeOf → (text : ℕ) → BlockOf → Site
site_of s code k b = record { text = k; room = b.room; temps = own_end s code k; used = own_end s code k + expression_temps; size = length b.types; thunk = None }

-- the code of a text from its entry on, up to the instruction that ends it
pub record BodyOf (code : CodeOf) (Body : ℕ → ℕ → Type 0) (end : Instr) (entry : ℕ) : Type 0 where
  pub there : entry < length code.instrs
  pub stop : ℕ
  pub body : Body entry stop
  pub last : ℕ
  pub ends : Is code end stop last

-- arrays, then statements
abbrev pub BlockBody : Source → CodeOf → Site → Declarations → Statements → ℕ → ℕ → Type 0
BlockBody s code site ds ss p q = (x : ℕ) × ArraysAt s code site ds p x × StmsAt s code site 0 ss x q

-- The program's block begins with a jump to the next instruction that has the line of its `begin`.
pub record ProgramOf (s : Source) (code : CodeOf) (begin : ℕ) (ds : Declarations) (ss : Statements) (b : BlockOf) : Type 0 where
  pub heads : RecordOf s code 0 kind.SubBlock type.Nothing b
  pub start : ℕ
  pub enter : At code (i.Jump (pos start)) (line_at s begin) b.entry start
  pub body : BodyOf code (BlockBody s code (site_of s code 0 b) ds ss) (i.EndLevel (pos 0)) start

pub record BlockTextOf (s : Source) (code : CodeOf) (k : ℕ) (ds : Declarations) (ss : Statements) (b : BlockOf) : Type 0 where
  pub heads : RecordOf s code k kind.SubBlock type.Nothing b
  pub body : BodyOf code (BlockBody s code (site_of s code k b) ds ss) i.Leave b.entry

pub record ProcedureTextOf (s : Source) (code : CodeOf) (k : ℕ) (result : Option TypeName) (a : Statement) (b : BlockOf) : Type 0 where
  pub heads : RecordOf s code k kind.Procedure (type_of_name result) b
  pub body : BodyOf code (StmAt s code (site_of s code k b) 0 a) i.Return b.entry

-- ---- classes and prefixed blocks

-- The matches in the class of a text: of each virtual of its levels, in the order of their declarations, the block of the procedure, if there is one.
abbrev pub match_listed : Source → (virtual : ℕ) → Option (Option ℕ) → List Match → List Match
match_listed s v (Some (Some match)) xs = record { virtual_number = v; block = block_number s match } ∷ xs
match_listed s v _ xs = xs

abbrev pub match_of_row : Source → (virtual text : ℕ) → (is_virtual : Bool) → List Match → List Match
match_of_row s v k false xs = xs
match_of_row s v k true xs = match_listed s v (match_in_text s v (Some k)) xs

abbrev pub matches_from : Source → (text number : ℕ) → List Declaration → List Match
matches_from s k v [] = []
matches_from s k v (row ∷ rows) = match_of_row s v k (is_virtual row.entry) (matches_from s k (suc v) rows)

unfoldable pub matches_of : Source → (text : ℕ) → List Match
matches_of s k = matches_from s k 0 s.tables.declarations

-- the class of a text's block: it has that of the class in front of it for a prefix, which has a lower number
pub record ClassIs (s : Source) (code : CodeOf) (k : ℕ) (b : BlockOf) (class : ClassOf) : Type 0 where
  pub numbered : class_numbered code b.class ≡ Some class
  pub of_block : class.block ≡ block_number s k
  pub prefix : class.prefix ≡ class_in (block_in_front s code k)
  pub lower : class.prefix < b.class
  pub process : class.process ≡ is_process_text s k

-- The code of a level: its declarations, its statements, and what stands behind `inner`, each where the class says.
pub record LevelOf (s : Source) (code : CodeOf) (k : ℕ) (written : Bool) (ds : Declarations) (ss : Statements) (b : BlockOf) (class : ClassOf) : Type 0 where
  -- how many levels are in front of it
  pub place : ℕ
  pub placed : suc place ≡ length (levels_of s k)
  pub x : ℕ
  pub y : ℕ
  pub declared_there : class.declarations < length code.instrs
  pub declared : ArraysAt s code (site_of s code k b) ds class.declarations x
  pub next : Is code (i.NextDecl (pos place)) x y
  pub stated_there : class.statements < length code.instrs
  pub stop : ℕ
  pub stated : LevelAt s code (site_of s code k b) place class.after_inner written ss class.statements stop
  pub behind_there : class.after_inner < length code.instrs
  pub last : ℕ
  pub ends : Is code (i.EndLevel (pos place)) stop last

-- The block of the objects of a class has no entry, but a mark: of a class of SIMSET or SIMULATION which that is, and 0 of any other.
abbrev pub standard_mark : StandardClass → ℕ
standard_mark standard.Linkage = linkage_mark
standard_mark standard.Link = 2
standard_mark standard.Head = head_mark
standard_mark standard.Process = process_mark

abbrev pub mark_of : Option TextOf → ℕ
mark_of (Some (StandardText which)) = standard_mark which
mark_of _ = 0

abbrev pub Marked : BlockKind → (mark entry : ℕ) → Type 0
Marked kind.Object mark entry = entry ≡ mark
Marked _ mark entry = ⊤

pub record ClassTextOf (s : Source) (code : CodeOf) (k : ℕ) (kind : BlockKind) (written : Bool) (ds : Declarations) (ss : Statements) (b : BlockOf) : Type 0 where
  pub heads : RecordOf s code k kind type.Nothing b
  pub marked : Marked kind (mark_of (text s k)) b.entry
  pub class : ClassOf
  pub is : ClassIs s code k b class
  pub level : LevelOf s code k written ds ss b class

-- The level of the class `process`, which declares nothing.
pub record ProcessOf (s : Source) (code : CodeOf) (k : ℕ) (b : BlockOf) (class : ClassOf) : Type 0 where
  pub place : ℕ
  pub placed : suc place ≡ length (levels_of s k)
  pub x : ℕ
  pub declared_there : class.declarations < length code.instrs
  pub next : Is code (i.NextDecl (pos place)) class.declarations x
  pub stated_there : class.statements < length code.instrs
  pub behind_there : class.after_inner < length code.instrs
  pub stop : ℕ
  pub stated : ProcessAt s code (site_of s code k b) place class.statements class.after_inner stop
  pub last : ℕ
  pub ends : Is code (i.EndLevel (pos place)) stop last

pub record ProcessTextOf (s : Source) (code : CodeOf) (k : ℕ) (b : BlockOf) : Type 0 where
  pub heads : RecordOf s code k kind.Object type.Nothing b
  pub marked : b.entry ≡ process_mark
  pub class : ClassOf
  pub is : ClassIs s code k b class
  pub level : ProcessOf s code k b class

-- A prefix of the program's block gives no level in front. The block begins with a jump to the next instruction that has the line of the prefix.
pub record PrefixedProgramOf (s : Source) (code : CodeOf) (line : ℕ) (ds : Declarations) (ss : Statements) (b : BlockOf) : Type 0 where
  pub heads : RecordOf s code 0 kind.Prefixed type.Nothing b
  pub alone : prefix_of s.tables 0 ≡ None
  pub class : ClassOf
  pub is : ClassIs s code 0 b class
  pub enter : At code (i.Jump (pos class.declarations)) line b.entry class.declarations
  pub level : LevelOf s code 0 false ds ss b class

-- ---- programs

-- The program's block is the first text, and no class. A class of SIMSET has no declarations and no statements of its own.
abbrev pub StandardTextOf : Source → CodeOf → (text : ℕ) → StandardClass → BlockOf → Type 0
StandardTextOf s code k standard.Process b = ProcessTextOf s code k b
StandardTextOf s code k which b = ClassTextOf s code k kind.Object false NoDeclaration NoStatement b

abbrev pub TextCode : Source → CodeOf → (text : ℕ) → TextOf → BlockOf → Type 0
TextCode s code zero (BlockText begin ds ss) b = ProgramOf s code begin ds ss b
TextCode s code (suc k) (BlockText begin ds ss) b = BlockTextOf s code (suc k) ds ss b
TextCode s code k (ProcedureText result h a) b = ProcedureTextOf s code k result a b
TextCode s code zero (ClassText prefix h ds ss) b = ⊥
TextCode s code (suc k) (ClassText prefix h ds ss) b = ClassTextOf s code (suc k) kind.Object (writes_inner s (suc k)) ds ss b
TextCode s code zero (PrefixedText class arguments ds ss) b = PrefixedProgramOf s code (line_at s class.token.0) ds ss b
TextCode s code (suc k) (PrefixedText class arguments ds ss) b = ClassTextOf s code (suc k) kind.Prefixed false ds ss b
TextCode s code k ConnectionText b = ⊥
TextCode s code zero (StandardText which) b = ⊥
TextCode s code (suc k) (StandardText which) b = StandardTextOf s code (suc k) which b

-- a connection has no code of its own
abbrev pub CodeHas : Source → CodeOf → (text : ℕ) → TextOf → Option BlockOf → Type 0
CodeHas s code k ConnectionText b = ⊤
CodeHas s code k x None = ⊥
CodeHas s code k x (Some b) = TextCode s code k x b

-- the tables agree, and the code has a block for each text but connections, and the text constants
pub record Compiled (s : Source) (code : CodeOf) : Type 0 where
  pub agrees : Agrees s
  pub texts : code.texts ≡ constants_of s
  pub each : (k : ℕ) (x : TextOf) → text s k ≡ Some x → CodeHas s code k x (slice_get code.blocks (block_number s k))
  -- the class of a text lists its matches
  pub matches : (k : ℕ) (x : ClassOf) → has_levels (text s k) ≡ true → class_numbered code (class_number s code k) ≡ Some x → x.matches ≡ matches_of s k
  -- and no other blocks
  pub as_many : length code.blocks ≡ blocks_before (length s.tables.blocks) s.tables.blocks

-- Instructions and jumps at places of code. The code is given as a whole, and a part of it stands from one place on up to another.
use Rattle.std.specs.Prelude.{◌≡◌, ◌<◌, ◌≤◌, ◌+◌, ◌&&◌, ◌==◌, ℕ, zero, suc, Bool, true, false, if◌then◌else◌, pos, List, [], ◌∷◌, ◌++◌, length, slice_get, Option, Some, None}
use Rattle.sim_base.specs.declared.numbering.DeclNo.{DeclNo}
use Rattle.sim_scope.specs.declared.types.BlockKind.{BlockKind}
use Rattle.sim_scope.specs.declared.types.BlockKind.TheVariants as kind_of_block
use Rattle.sim_scope.specs.declared.types.Entry.{Entry}
use Rattle.sim_scope.specs.declared.types.Entry.TheVariants as entry
use Rattle.sim_scope.specs.Access.{encloser}
use Rattle.sim_scope.specs.Scopes.{entry_of}
use Rattle.sim_scope.specs.Source.{Source}
use Rattle.sim_scope.specs.Tables.{BlockOf, Tables}
use Rattle.sim_values.specs.Plain.{Integer}
use Rattle.sim_code.specs.declared.code.CodeType.{CodeType}
use Rattle.sim_code.specs.declared.instr.Instr.{Instr}
use Rattle.sim_code.specs.declared.instr.Instr.TheVariants as i
use Rattle.sim_code.specs.declared.instr.Lined.{Lined}
use Rattle.sim_code.specs.Code.{CodeOf}
use Rattle.sim_code.specs.Code as code
use Rattle.sim_meaning.specs.Entries.{cells_from, first_cells, numbers_of}
use Rattle.sim_meaning.specs.Levels.{is_process_itself}
use Rattle.sim_meaning.specs.Pending.{Connection, Held, Key, Of, Origin, same_key}
use Rattle.sim_meaning.specs.Texts.{ClassText, PrefixedText, StandardText, Text, text}

-- Where code stands: in which text, how many values its operand stack holds, where the temps of expressions begin, how many cells and temps of
-- the frame are in use, and how many the frame has. What an expression puts into its temps it reads at once, so that all expressions of a frame share
-- them, also those of thunks. A temp that a statement takes lies behind those in use; the code inside that keeps it stands at a site with more in use.
pub record Site : Type 0 where
  pub text : ℕ
  pub room : ℕ
  pub temps : ℕ
  pub used : ℕ
  pub size : ℕ
  -- the thunk to which the code belongs
  pub thunk : Option ℕ

-- how many temps expressions have
abbrev pub expression_temps : ℕ
expression_temps = 3

abbrev pub lined : Instr → (line : ℕ) → Lined
lined x line = record { instr = x; line = record { 0 = line } }

-- this instruction stands at p, with this line, and q is the place behind it
pub record At (code : CodeOf) (x : Instr) (line p q : ℕ) : Type 0 where
  pub at : slice_get code.instrs p ≡ Some (lined x line)
  pub on : q ≡ suc p

-- the same with any line
pub record Is (code : CodeOf) (x : Instr) (p q : ℕ) : Type 0 where
  pub line : ℕ
  pub is : At code x line p q

-- an instruction that pushes a value on n others
pub record Pushes (code : CodeOf) (site : Site) (n : ℕ) (x : Instr) (p q : ℕ) : Type 0 where
  pub is : Is code x p q
  pub fits : n < site.room

-- a jump forward to an instruction
pub record Ahead (code : CodeOf) (p target : ℕ) : Type 0 where
  pub forward : p < target
  pub there : target < length code.instrs

-- two parts, one of which is chosen
pub record IfAt (code : CodeOf) (Test First Second : ℕ → ℕ → Type 0) (p q : ℕ) : Type 0 where
  pub y : ℕ
  pub z : ℕ
  pub w : ℕ
  pub x : ℕ
  pub test : Test p y
  pub jump : Is code (i.JumpF (pos x)) y z
  pub leads : Ahead code y x
  pub first : First z w
  pub over : Is code (i.Jump (pos q)) w x
  pub past : Ahead code w q
  pub second : Second x q

-- a part that may be left out
pub record WhenAt (code : CodeOf) (Test First : ℕ → ℕ → Type 0) (p q : ℕ) : Type 0 where
  pub y : ℕ
  pub z : ℕ
  pub test : Test p y
  pub jump : Is code (i.JumpF (pos q)) y z
  pub leads : Ahead code y q
  pub first : First z q

-- A loop: its tick is at t, its jump out at y, its jump back at w.
pub record LoopAt (code : CodeOf) (Test Body : ℕ → ℕ → Type 0) (t y w q : ℕ) : Type 0 where
  pub x : ℕ
  pub z : ℕ
  pub tick : Is code i.Tick t x
  pub test : Test x y
  pub jump : Is code (i.JumpF (pos q)) y z
  pub leads : Ahead code y q
  pub body : Body z w
  pub back : Is code (i.Jump (pos t)) w q
  pub behind : t ≤ w

-- ---- texts

-- blocks of the code are texts without connections, in the same order
abbrev pub is_connection : BlockKind → Bool
is_connection kind_of_block.Connection = true
is_connection _ = false

abbrev pub counted_unless : Bool → ℕ → ℕ
counted_unless true n = n
counted_unless false n = suc n

abbrev pub blocks_before : ℕ → List BlockOf → ℕ
blocks_before zero blocks = 0
blocks_before (suc k) [] = 0
blocks_before (suc k) (b ∷ blocks) = counted_unless (is_connection b.kind) (blocks_before k blocks)

unfoldable pub block_number : Source → (text : ℕ) → ℕ
block_number s k = blocks_before k s.tables.blocks

abbrev pub connects : Option BlockOf → Bool
connects None = false
connects (Some b) = is_connection b.kind

-- whether a text is a connection
unfoldable pub is_connected : Tables → (text : ℕ) → Bool
is_connected tables k = connects (slice_get tables.blocks k)

-- what a class or a prefixed block has in front of it; what a connection connects is not in front of it
abbrev pub in_front : Option BlockOf → Option ℕ
in_front None = None
in_front (Some b) = if is_connection b.kind then None else b.base

unfoldable pub prefix_of : Tables → (text : ℕ) → Option ℕ
prefix_of tables k = in_front (slice_get tables.blocks k)

-- a text has another one as a level: it is that one, or has it in front, or what it has in front has it as a level
pub data LevelOf (tables : Tables) : (text level : ℕ) → Type 0 where
  innermost : {t : ℕ} → LevelOf tables t t
  outer : {t u k : ℕ} → prefix_of tables t ≡ Some u → LevelOf tables u k → LevelOf tables t k

-- a text is another one, or has it in front, or stands somewhere in it
pub data Inside (tables : Tables) : (inner outer : ℕ) → Type 0 where
  itself : {t : ℕ} → Inside tables t t
  behind : {t u k : ℕ} → prefix_of tables t ≡ Some u → Inside tables u k → Inside tables t k
  further : {t u k : ℕ} → encloser tables t ≡ Some u → Inside tables u k → Inside tables t k

-- The text in whose frames lies what a text has: that one itself, or for a connection what it stands in. A text stands in one with a lower
-- number.
abbrev pub outward_or : (ℕ → ℕ) → (text : ℕ) → Option ℕ → ℕ
outward_or f k None = k
outward_or f k (Some u) = f u

abbrev pub frame_within : ℕ → Tables → (text : ℕ) → ℕ
frame_within zero tables k = k
frame_within (suc n) tables k = if is_connected tables k then outward_or (frame_within n tables) k (encloser tables k) else k

unfoldable pub frame_text : Source → (text : ℕ) → ℕ
frame_text s k = frame_within k s.tables k

-- ---- cells

-- the cells that a text declares; of a class and of a prefixed block those of this level alone
abbrev pub own_cells : Source → ℕ → Text → List Held
own_cells s k (ClassText prefix h ds ss) = cells_from s (numbers_of s k)
own_cells s k (PrefixedText class arguments ds ss) = cells_from s (numbers_of s k)
own_cells s k (StandardText which) = cells_from s (numbers_of s k)
own_cells s k x = first_cells s k x

abbrev pub cells_in : Source → ℕ → Option Text → List Held
cells_in s k None = []
cells_in s k (Some x) = own_cells s k x

-- the cell in which an object of `process` itself keeps where it was generated
abbrev pub origin_in : (is_process : Bool) → List Held
origin_in true = record { key = Origin; value = Some (Of (Integer (pos 0))) } ∷ []
origin_in false = []

-- the cells of the connections that stand in a text, in their order, and behind them that of an origin
abbrev pub hidden_before : Bool → BlockOf → List Held → List Held
hidden_before true b hs = record { key = Connection b.first; value = None } ∷ hs
hidden_before false b hs = hs

abbrev pub hidden_from : Source → (text number : ℕ) → List BlockOf → List Held
hidden_from s k n [] = origin_in (is_process_itself s k)
hidden_from s k n (b ∷ bs) = hidden_before (is_connection b.kind && frame_text s n == k) b (hidden_from s k (suc n) bs)

unfoldable pub hidden_in : Source → (text : ℕ) → List Held
hidden_in s k = hidden_from s k 0 s.tables.blocks

-- A text's own part of a frame: what it declares, then its hidden cells, which cost no words; its temps stand behind.
abbrev pub own_part : Source → (text : ℕ) → List Held
own_part s k = cells_in s k (text s k) ++ hidden_in s k

abbrev pub place_of : Key → List Held → ℕ
place_of key [] = 0
place_of key (h ∷ hs) = if same_key h.key key then 0 else suc (place_of key hs)

-- the record of the block that a text has in front of it
abbrev pub block_of_text : Source → CodeOf → Option ℕ → Option code.BlockOf
block_of_text s c None = None
block_of_text s c (Some k) = slice_get c.blocks (block_number s k)

unfoldable pub block_in_front : Source → CodeOf → (text : ℕ) → Option code.BlockOf
block_in_front s c k = block_of_text s c (prefix_of s.tables k)

abbrev pub cells_of_block : Option code.BlockOf → ℕ
cells_of_block None = 0
cells_of_block (Some b) = b.cells

abbrev pub room_of_block : Option code.BlockOf → ℕ
room_of_block None = 0
room_of_block (Some b) = b.room

abbrev pub types_in : Option code.BlockOf → List CodeType
types_in None = []
types_in (Some b) = b.types

-- where a text's own part begins: behind all that what stands in front of it has
abbrev pub start_of : Source → CodeOf → (text : ℕ) → ℕ
start_of s c k = length (types_in (block_in_front s c k))

-- the number of a cell in the frames of its text
unfoldable pub slot_of : Source → CodeOf → (text : ℕ) → Key → ℕ
slot_of s c k key = start_of s c k + place_of key (own_part s k)

-- whether a declaration is that of a constant, whose cell is never looked at
abbrev pub is_constant : Option Entry → Bool
is_constant (Some (entry.Constant type)) = true
is_constant _ = false

abbrev pub Varies : Source → DeclNo → Type 0
Varies s d = is_constant (entry_of s.tables d) ≡ false

-- the frames of the text have this cell
abbrev pub HasCell : Source → (text : ℕ) → Key → Type 0
HasCell s k key = place_of key (own_part s k) < length (own_part s k)

-- how many cells of the frame the own part and what stands in front of it take
abbrev pub own_end : Source → CodeOf → (text : ℕ) → ℕ
own_end s c k = start_of s c k + length (own_part s k)

-- ---- classes

abbrev pub class_in : Option code.BlockOf → ℕ
class_in None = 0
class_in (Some b) = b.class

-- the number of the class of a text, which its block has
unfoldable pub class_number : Source → CodeOf → (text : ℕ) → ℕ
class_number s c k = class_in (slice_get c.blocks (block_number s k))

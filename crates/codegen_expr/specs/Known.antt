-- What the emitter knows of the texts of a program: tables that are made once.
use Rattle.std.specs.Prelude.{◌≡◌, ◌&&◌, ◌==◌, ℕ, Bool, true, false, List, [], length, slice_get, Option, Some, None}
use Rattle.std.specs.declared.alloc.Global.{Global}
use Rattle.std.specs.declared.vec.Vec.{Vec}
use Rattle.sim_base.specs.declared.numbering.DeclNo.{DeclNo}
use Rattle.sim_scope.specs.declared.bound.Bound.{Bound}
use Rattle.sim_scope.specs.declared.types.Formal.{Formal}
use Rattle.sim_scope.specs.Access.{joined}
use Rattle.sim_scope.specs.Scopes.{formals_in}
use Rattle.sim_scope.specs.Source.{Source, block_of, source_of}
use Rattle.sim_values.specs.Plain.{Plain, Integer, Truth, Character, Text as TextOf}
use Rattle.sim_meaning.specs.Attributes.{is_connection}
use Rattle.sim_meaning.specs.Closing.{class_parameters, formals_from}
use Rattle.sim_meaning.specs.Constants.{text_constant}
use Rattle.sim_meaning.specs.Levels.{is_class, is_process_itself}
use Rattle.sim_meaning.specs.Pending.{Declared, Key, Origin}
use Rattle.sim_meaning.specs.Texts.{ProcedureText, Text, constant_of, text}
use Rattle.codegen_expr.specs.declared.cells.Cells.{Cells}
use Rattle.codegen_expr.specs.declared.cells.ConstantValue.{ConstantValue}
use Rattle.codegen_expr.specs.declared.cells.ConstantValue.TheVariants as constant
use Rattle.codegen_expr.specs.Built.{place_from, slot_in}
use Rattle.codegen_expr.specs.Sites.{block_number, cells_in, frame_text, is_connected}

-- whether a text is a procedure with a result, whose cell is then the first
abbrev pub has_result : Option Text → Bool
has_result (Some (ProcedureText (Some type) h a)) = true
has_result _ = false

-- the value of a constant; a text is the one that is written at its token
abbrev pub plain_of : Source → ConstantValue → Option Plain
plain_of s (constant.Integer z) = Some (Integer z)
plain_of s (constant.Character c) = Some (Character c)
plain_of s (constant.Truth b) = Some (Truth b)
plain_of s (constant.Text token) = text_constant s token.0

abbrev pub plain_in : Source → Option ConstantValue → Option Plain
plain_in s None = None
plain_in s (Some v) = plain_of s v

-- the number of a text constant
abbrev pub number_in : Option Plain → Option ℕ
number_in (Some (TextOf t)) = Some t.text_frame
number_in _ = None

-- ---- rows of the tables

abbrev pub number_or : ℕ → Option ℕ → ℕ
number_or other None = other
number_or other (Some n) = n

abbrev pub truth_or_false : Option Bool → Bool
truth_or_false None = false
truth_or_false (Some b) = b

abbrev pub formals_or_none : Option (Vec Formal Global) → List Formal
formals_or_none None = []
formals_or_none (Some v) = v.items

-- the place of a cell among those that a text declares, if it is one of these
unfoldable pub place_in : Source → (text : ℕ) → Key → Option ℕ
place_in s k key = place_from 0 key (cells_in s k (text s k))

-- The tables are those of the program.
pub record KnownOf (s : Source) (w : Cells) : Type 0 where
  -- by declaration: the number of its cell; the value of a constant
  pub slots : (d : DeclNo) → joined (slice_get w.slots.items d.0) ≡ place_in s (block_of s d) (Declared d.0)
  pub constants : (d : DeclNo) → plain_in s (joined (slice_get w.constants.items d.0)) ≡ constant_of s d
  -- by token: the number of a text constant
  pub texts : (token : ℕ) → joined (slice_get w.texts.items token) ≡ number_in (text_constant s token)
  -- by text: whether it is a procedure with a result, a class, a connection or the class `process`, and how many cells it declares
  pub results : (k : ℕ) → truth_or_false (slice_get w.results.items k) ≡ has_result (text s k)
  pub classes : (k : ℕ) → truth_or_false (slice_get w.classes.items k) ≡ is_class (text s k)
  pub connections : (k : ℕ) → truth_or_false (slice_get w.connections.items k) ≡ is_connection (text s k)
  pub processes : (k : ℕ) → truth_or_false (slice_get w.processes.items k) ≡ is_process_itself s k
  pub counts : (k : ℕ) → number_or 0 (slice_get w.counts.items k) ≡ length (cells_in s k (text s k))
  -- by block of the tables: its number among the blocks of code, its formal parameters, and those of a class
  pub numbers : (k : ℕ) → number_or w.block_count (slice_get w.numbers.items k) ≡ block_number s k
  pub formals : (k : ℕ) → formals_or_none (slice_get w.formals.items k) ≡ formals_from s (formals_in (slice_get s.tables.blocks k))
  pub class_formals : (k : ℕ) → formals_or_none (slice_get w.class_formals.items k) ≡ class_parameters s (Some k)

unfoldable pub Known : Bound → Cells → Type 0
Known b w = KnownOf (source_of b) w

-- whether a block of the tables is a connection whose cell lies in the frames of a text
abbrev pub is_hidden : Source → (text block : ℕ) → Bool
is_hidden s k n = is_connected s.tables n && frame_text s n == k

-- the place of the hidden cell of the class `process`
unfoldable pub OriginSlot : Source → (text slot : ℕ) → Type 0
OriginSlot s k slot = is_process_itself s k ≡ true → slot_in s k Origin ≡ Some slot

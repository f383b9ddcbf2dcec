-- That the tables of scopes agree with each other and with the texts, as far as code rests on it: the tables of each program do.
use Rattle.std.specs.Prelude.{◌≡◌, ◌<◌, ◌+◌, ℕ, suc, Bool, true, false, length, slice_get, Option, Some, None}
use Rattle.sim_base.specs.declared.numbering.DeclNo.{DeclNo}
use Rattle.sim_scope.specs.declared.types.Entry.TheVariants as entry
use Rattle.sim_scope.specs.declared.types.Formal.{Formal}
use Rattle.sim_scope.specs.declared.types.SimType.{SimType}
use Rattle.sim_scope.specs.declared.types.StandardClass.{StandardClass}
use Rattle.sim_scope.specs.declared.types.StandardClass.TheVariants as standard
use Rattle.sim_scope.specs.declared.types.BlockKind.{BlockKind}
use Rattle.sim_scope.specs.declared.types.BlockKind.TheVariants as kind
use Rattle.sim_scope.specs.Access.{encloser, is_kind}
use Rattle.sim_scope.specs.Actuals.{result_in}
use Rattle.sim_scope.specs.Scopes.{entry_is, entry_of, formals_in, is_virtual}
use Rattle.sim_scope.specs.Source.{Source, block_around, block_of, level_of}
use Rattle.sim_scope.specs.Tables.{Tables}
use Rattle.sim_tree.specs.declared.stmt.TypeName.{TypeName}
use Rattle.sim_tree.specs.Syntax.{Heading, Statement}
use Rattle.sim_meaning.specs.Attributes.{first_in, is_connection}
use Rattle.sim_meaning.specs.Closing.{has_type}
use Rattle.sim_meaning.specs.Entries.{numbers_of}
use Rattle.sim_meaning.specs.Levels.{has_levels, is_class}
use Rattle.sim_meaning.specs.Meaning.{has_result}
use Rattle.sim_meaning.specs.Texts.{ProcedureText, StandardText, program_texts, text}
use Rattle.sim_meaning.specs.Virtuals.{match_in_text}
use Rattle.codegen_expr.specs.Sites.{LevelOf, frame_text, is_connected, prefix_of}

-- the text of a declared procedure stands in the text of its declaration, and has a result where the declaration has one
pub record ProcedureThere (s : Source) (d : DeclNo) (result : Option SimType) (k : ℕ) : Type 0 where
  pub given : Option TypeName
  pub heading : Heading
  pub body : Statement
  pub is : text s k ≡ Some (ProcedureText given heading body)
  pub around : encloser s.tables k ≡ Some (block_of s d)
  pub same : has_result given ≡ has_type result

-- whether a text is a block with a prefix, as the tables have it
abbrev pub is_prefixed_kind : BlockKind → Bool
is_prefixed_kind kind.Prefixed = true
is_prefixed_kind _ = false

unfoldable pub is_prefixed : Tables → (text : ℕ) → Bool
is_prefixed tables k = is_kind is_prefixed_kind tables k

-- A class or a prefixed block has a class in front of it, of the same level. What is around that class is one of the levels of what is around
-- the text.
pub record AroundBoth (s : Source) (k around_front : ℕ) : Type 0 where
  pub around : ℕ
  pub is : encloser s.tables k ≡ Some around
  pub level : LevelOf s.tables (frame_text s around) (frame_text s around_front)

pub record PrefixThere (s : Source) (k front : ℕ) : Type 0 where
  pub has : has_levels (text s k) ≡ true
  pub class : is_class (text s front) ≡ true
  pub level : level_of s front ≡ level_of s k
  pub around : (u : ℕ) → encloser s.tables front ≡ Some u → AroundBoth s k u

-- The levels of a text come to an end: nothing is in front of it, or those of what is in front of it come to an end. There are at most so many.
pub data Ends (tables : Tables) : (levels text : ℕ) → Type 0 where
  last : {n k : ℕ} → prefix_of tables k ≡ None → Ends tables (suc n) k
  before : {n k u : ℕ} → prefix_of tables k ≡ Some u → Ends tables n u → Ends tables (suc n) k

-- Each class `process` is the fourth of four standard classes directly behind a class or a block that has levels.
pub record ProcessBrought (s : Source) (k : ℕ) : Type 0 where
  pub block : ℕ
  pub is : k ≡ block + 4
  pub has : has_levels (text s block) ≡ true
  pub linkage : text s (block + 1) ≡ Some (StandardText standard.Linkage)
  pub link : text s (block + 2) ≡ Some (StandardText standard.Link)
  pub head : text s (block + 3) ≡ Some (StandardText standard.Head)
  pub around : encloser s.tables k ≡ Some block

-- A procedure that matches a virtual in the class of a text stands in a level of that, and has a result where the virtual has one.
pub record MatchThere (s : Source) (virtual own match : ℕ) : Type 0 where
  pub around : ℕ
  pub is : encloser s.tables match ≡ Some around
  pub level : LevelOf s.tables own around
  pub given : Option TypeName
  pub heading : Heading
  pub body : Statement
  pub procedure : text s match ≡ Some (ProcedureText given heading body)
  pub same : has_result given ≡ has_type (result_in (entry_of s.tables (record { 0 = virtual })))

pub record Agrees (s : Source) : Type 0 where
  -- nothing is around the program's block
  pub outermost : encloser s.tables 0 ≡ None
  -- the tables have a block for each text, and a connection for each connection
  pub as_many : length s.tables.blocks ≡ length (program_texts s.program.prefix s.program.block)
  pub connected : (k : ℕ) → is_connected s.tables k ≡ is_connection (text s k)
  -- a text stands in one before it
  pub nesting : (t u : ℕ) → encloser s.tables t ≡ Some u → u < t
  -- it is one level deeper than the text around it, but a connection, which is no level of its own
  pub levels : (t u : ℕ) → encloser s.tables t ≡ Some u → is_connected s.tables t ≡ false → level_of s t ≡ suc (level_of s u)
  pub same_level : (t u : ℕ) → encloser s.tables t ≡ Some u → is_connected s.tables t ≡ true → level_of s t ≡ level_of s u
  -- a connection is the innermost text around the token with which it begins
  pub begun : (k : ℕ) → is_connected s.tables k ≡ true → block_around s (first_in (slice_get s.tables.blocks k)) ≡ Some k
  -- a block with a prefix has levels, and is no class
  pub prefixed : (k : ℕ) → is_prefixed s.tables k ≡ true → (has_levels (text s k) ≡ true) × (is_class (text s k) ≡ false)
  pub prefixes : (k front : ℕ) → prefix_of s.tables k ≡ Some front → PrefixThere s k front
  -- a text has no more levels than there are texts
  pub ends : (k : ℕ) → Ends s.tables (length s.tables.blocks) k
  -- a text lists what is declared in it, each declaration once
  pub owned : (k n : ℕ) (d : DeclNo) → slice_get (numbers_of s k) n ≡ Some d → block_of s d ≡ k
  pub once : (k n m : ℕ) (d : DeclNo) → slice_get (numbers_of s k) n ≡ Some d → slice_get (numbers_of s k) m ≡ Some d → n ≡ m
  -- the first of these are its formal parameters, as many as it has
  pub formals : (k n : ℕ) (d : DeclNo) → slice_get (formals_in (slice_get s.tables.blocks k)) n ≡ Some d → (f : Formal) × (entry_of s.tables d ≡ Some (entry.Formal f))
  -- the texts of procedures and classes stand where these are declared
  pub classes : (d : DeclNo) (k : ℕ) → entry_of s.tables d ≡ Some (entry.Class k) → encloser s.tables k ≡ Some (block_of s d)
  pub procedures : (d : DeclNo) (result : Option SimType) (k : ℕ) → entry_of s.tables d ≡ Some (entry.Procedure result k) → ProcedureThere s d result k
  -- what matches a virtual in a class or in a prefixed block
  pub matches : (v k match : ℕ) → entry_is is_virtual (entry_of s.tables (record { 0 = v })) ≡ true → has_levels (text s k) ≡ true → match_in_text s v (Some k) ≡ Some (Some match) → MatchThere s v k match
  pub processes : (k : ℕ) → text s k ≡ Some (StandardText standard.Process) → ProcessBrought s k
  -- no block has a standard class for a prefix, or among the levels of it
  pub blocks : (k u : ℕ) (which : StandardClass) → is_prefixed s.tables k ≡ true → LevelOf s.tables k u → text s u ≡ Some (StandardText which) → ⊥
  -- no standard class but `process` itself has that among its levels
  pub standards : (j k : ℕ) (which : StandardClass) → text s j ≡ Some (StandardText which) → text s k ≡ Some (StandardText standard.Process) → LevelOf s.tables j k → j ≡ k

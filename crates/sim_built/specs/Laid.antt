-- How the tables of a program lie, as far as code rests on it.
use Rattle.std.specs.Prelude.{◌≡◌, ◌<◌, ℕ, true, false, length, slice_get, Some}
use Rattle.sim_base.specs.declared.numbering.DeclNo.{DeclNo}
use Rattle.sim_scope.specs.declared.types.Entry.TheVariants as entry
use Rattle.sim_scope.specs.declared.types.Formal.{Formal}
use Rattle.sim_scope.specs.declared.types.StandardClass.TheVariants as standard
use Rattle.sim_scope.specs.Access.{encloser}
use Rattle.sim_scope.specs.Scopes.{entry_of, formals_in}
use Rattle.sim_scope.specs.Source.{Source, block_of}
use Rattle.sim_tree.specs.declared.expr.Identifier.{Identifier}
use Rattle.sim_tree.specs.Syntax.{Declarations, Expressions, Statements}
use Rattle.sim_meaning.specs.Attributes.{is_connection}
use Rattle.sim_meaning.specs.Entries.{numbers_of}
use Rattle.sim_meaning.specs.Levels.{has_levels, is_class}
use Rattle.sim_meaning.specs.Texts.{PrefixedText, StandardText, program_texts, text}
use Rattle.sim_agree.specs.Inners.{Inners}
use Rattle.sim_agree.specs.TablesAgree.{ProcessBrought}
use Rattle.sim_sound.specs.Held.{Among}
use Rattle.sim_sound.specs.Typed.{Distinct}
use Rattle.codegen_expr.specs.Sites.{is_connected}
use Rattle.codegen.specs.Agrees.{is_prefixed}

pub record Laid (s : Source) : Type 0 where
  -- there is a block for each text, and a connection for each connection
  pub as_many : length s.tables.blocks ≡ length (program_texts s.program.prefix s.program.block)
  pub connected : (k : ℕ) → is_connected s.tables k ≡ is_connection (text s k)
  -- a block has a greater number than the one around it
  pub falls : (t u : ℕ) → encloser s.tables t ≡ Some u → u < t
  -- the blocks with a prefix are those that the tables have as such; they have levels, and are no classes
  pub prefixed : (k : ℕ) → is_prefixed s.tables k ≡ true → (has_levels (text s k) ≡ true) × (is_class (text s k) ≡ false)
  pub with_prefix : (k : ℕ) (class : Identifier) (es : Expressions) (ds : Declarations) (ss : Statements) → text s k ≡ Some (PrefixedText class es ds ss) → is_prefixed s.tables k ≡ true
  -- a class `process` is the fourth of those that were brought together
  pub processes : (k : ℕ) → text s k ≡ Some (StandardText standard.Process) → ProcessBrought s k
  -- what a block lists is declared in it, and is listed once
  pub owned : (k : ℕ) (d : DeclNo) → Among d (numbers_of s k) → block_of s d ≡ k
  pub different : (k : ℕ) → Distinct (numbers_of s k)
  -- the first of these are its formal parameters, as many as it has
  pub formals : (k n : ℕ) (d : DeclNo) → slice_get (formals_in (slice_get s.tables.blocks k)) n ≡ Some d → (f : Formal) × (entry_of s.tables d ≡ Some (entry.Formal f))
  -- `inner` stands where the table of its class has it
  pub inners : Inners s

-- That the tables of a program agree with its texts: what the static rules give, as far as a run rests on tables.
use Rattle.std.specs.Prelude.{◌≡◌, ◌<◌, ◌+◌, ◌⊎◌, ℕ, suc, Bool, true, false, List, length, slice_get, Option, Some, None}
use Rattle.sim_base.specs.declared.numbering.DeclNo.{DeclNo}
use Rattle.sim_scope.specs.declared.scopes.Declaration.{Declaration}
use Rattle.sim_scope.specs.declared.scopes.Denotation.TheVariants as denotation
use Rattle.sim_scope.specs.declared.types.Entry.{Entry}
use Rattle.sim_scope.specs.declared.types.Entry.TheVariants as entry
use Rattle.sim_scope.specs.declared.types.Formal.{Formal}
use Rattle.sim_scope.specs.declared.types.FormalKind.TheVariants as shape
use Rattle.sim_scope.specs.declared.types.Mode.TheVariants as mode
use Rattle.sim_scope.specs.declared.types.SimType.{SimType}
use Rattle.sim_scope.specs.declared.types.StandardClass.{StandardClass}
use Rattle.sim_scope.specs.declared.types.StandardClass.TheVariants as standard
use Rattle.sim_scope.specs.Calls.{attribute_in, is_inside}
use Rattle.sim_scope.specs.Access.{block_at, encloser, has_text_of_levels, is_connection as is_connection_kind, is_kind}
use Rattle.sim_scope.specs.Levels.{base, has_level, is_simulation_block, is_standard_class, owner_of_level}
use Rattle.sim_scope.specs.Scopes.{binding, class_formals, entry_of, formals_in, is_procedure_entry}
use Rattle.sim_scope.specs.Source.{Source, block_of, level_of}
use Rattle.sim_scope.specs.Tables.{BlockOf}
use Rattle.prefix_bind.specs.Prefixes.{is_prefixed_block}
use Rattle.sim_tree.specs.declared.expr.Identifier.{Identifier}
use Rattle.sim_tree.specs.declared.stmt.TypeName.{TypeName}
use Rattle.sim_tree.specs.Syntax.{Declarations, Expressions, Heading, NoDeclaration, Statement, Statements}
use Rattle.sim_values.specs.declared.standard.Standard.{Standard}
use Rattle.sim_code.specs.Sets.{is_attribute_name}
use Rattle.sim_code.specs.Simulations.{is_simulation_name}
use Rattle.sim_meaning.specs.Attributes.{is_connection}
use Rattle.sim_meaning.specs.Closing.{class_parameters}
use Rattle.sim_meaning.specs.Entries.{formals_of, numbers_of}
use Rattle.sim_meaning.specs.Levels.{is_class, has_levels}
use Rattle.sim_meaning.specs.Texts.{BlockText, ClassText, ProcedureText, StandardText, Text, declared_at, is_class_free, program_texts, text, PrefixedText}
use Rattle.sim_sound.specs.Held.{Among, Around, IsFormal}
use Rattle.sim_sound.specs.Expressions.{ProcessClassThere}
use Rattle.sim_sound.specs.Typed.{ClassThere, Distinct, FormalsAre, NoFormals, Prefixes, ProcedureThere, SetClassThere, SetClasses, SetProcedureThere, SimulationClasses, SimulationProcedureThere, Starts, arrays_of_block}
use Rattle.sim_agree.specs.Facts.{BlockPrefix, Found, IsAttribute, StandardPrefixed}

-- what the program declares itself: no standard class, and no attribute of one or of `simulation`
abbrev pub is_attribute : Entry → Bool
is_attribute (entry.Attribute name parameter result) = true
is_attribute _ = false

abbrev pub IsOwn : Declaration → Type 0
IsOwn row = (row.listed ≡ true) × (is_attribute row.entry ≡ false)

-- The arrays of a block or a class are those that its table has, each once.
pub record ArraysAgree (s : Source) (k : ℕ) (ds : Declarations) : Type 0 where
  pub distinct : Distinct (arrays_of_block s ds)
  pub made : (d : DeclNo) (element : SimType) (dimensions : ℕ) → Among d (numbers_of s k) → entry_of s.tables d ≡ Some (entry.Array element dimensions) → Among d (arrays_of_block s ds)
  pub own : (d : DeclNo) → Among d (arrays_of_block s ds) → Among d (numbers_of s k)

-- A block has no parameters.
pub record BlockAgrees (s : Source) (k : ℕ) (ds : Declarations) : Type 0 where
  pub no_formals : NoFormals s (numbers_of s k)
  pub arrays : ArraysAgree s k ds

-- The parameters of a class or a block with a prefix, of all its levels; its own come first among its declarations; it lasts.
pub record ClassAgrees (s : Source) (k : ℕ) (ds : Declarations) : Type 0 where
  pub formals : FormalsAre s (class_formals s.tables k) (class_parameters s (Some k))
  pub parameters : (d : DeclNo) → Among d (numbers_of s k) → IsFormal (entry_of s.tables d) → Among d (class_formals s.tables k)
  pub arrays : ArraysAgree s k ds
  pub stays : is_class_free s k ≡ false

-- whether a text is a block with a prefix
abbrev pub is_prefixed_text : Option Text → Bool
is_prefixed_text (Some (PrefixedText class es ds ss)) = true
is_prefixed_text _ = false

-- Each class `process` is the fourth of four standard classes directly behind a class or a block that has levels.
pub record ProcessBrought (s : Source) (k : ℕ) : Type 0 where
  pub block : ℕ
  pub is : k ≡ block + 4
  pub has : has_levels (text s block) ≡ true
  pub sets : SetClasses s (block + 1)
  pub base : base s.tables k ≡ Some (block + 2)
  pub around : encloser s.tables k ≡ Some block

pub record TablesAgree (s : Source) : Type 0 where
  -- the program's block comes first, and nothing is around it
  pub starts : Starts s
  pub outermost : encloser s.tables 0 ≡ None
  -- Block k is text k. Each has a greater number than the one around it, and is one level deeper, but for connections.
  pub as_many : length s.tables.blocks ≡ length (program_texts s.program.prefix s.program.block)
  pub some_block : 0 < length s.tables.blocks
  pub nesting : (t u : ℕ) → encloser s.tables t ≡ Some u → u < t
  pub levels : (t u : ℕ) → is_connection (text s t) ≡ false → encloser s.tables t ≡ Some u → level_of s t ≡ suc (level_of s u)
  pub levels_of_connections : (t u : ℕ) → is_connection (text s t) ≡ true → encloser s.tables t ≡ Some u → level_of s t ≡ level_of s u
  -- A block is the text around its first token, but for standard classes, which have none. One whose text has a token is around the token's
  -- block.
  pub begins : (k : ℕ) (row : BlockOf) → slice_get s.tables.blocks k ≡ Some row → is_standard_class row.kind ≡ false → block_at s.tables row.first ≡ Some k
  pub inside : (token k j : ℕ) → block_at s.tables token ≡ Some k → is_inside s.tables token j ≡ true → Around s.tables k j
  -- A class may have a prefix for its next level, a connection has the class that it connects. A connection declares nothing.
  pub connections : (k : ℕ) → is_kind is_connection_kind s.tables k ≡ is_connection (text s k)
  -- the blocks with a prefix
  pub prefixed_kinds : (k : ℕ) → is_kind is_prefixed_block s.tables k ≡ is_prefixed_text (text s k)
  pub prefixes : Prefixes s
  pub connects : (k c : ℕ) → base s.tables k ≡ Some c → is_class (text s c) ≡ true
  pub nothing_in_connections : (k : ℕ) → is_connection (text s k) ≡ true → (d : DeclNo) → Among d (numbers_of s k) → ⊥
  -- what is around a text that lasts lasts too
  pub outward : (t u : ℕ) → encloser s.tables t ≡ Some u → is_class_free s t ≡ false → is_class_free s u ≡ false
  -- A block lists what is declared in it, each once, at tokens of their own. A procedure that matches a virtual of its own class is not listed;
  -- nor are the classes of SIMSET, and they and their attributes have no tokens of their own.
  pub listed : (d : DeclNo) (row : Declaration) → slice_get s.tables.declarations d.0 ≡ Some row → row.listed ≡ true → Among d (numbers_of s row.block)
  pub unlisted : (d : DeclNo) (row : Declaration) → slice_get s.tables.declarations d.0 ≡ Some row → row.listed ≡ false → ((k : ℕ) × (row.entry ≡ entry.Class k)) ⊎ ((is_attribute row.entry ≡ true) ⊎ (is_procedure_entry row.entry ≡ true))
  pub owned : (k : ℕ) (d : DeclNo) → Among d (numbers_of s k) → block_of s d ≡ k
  pub tokens : (d : DeclNo) (row : Declaration) → slice_get s.tables.declarations d.0 ≡ Some row → IsOwn row → declared_at s row.token.0 ≡ Some d
  pub different : (k : ℕ) → Distinct (numbers_of s k)
  -- the first of these are its formal parameters, as many as it has
  pub parameters : (k n : ℕ) (d : DeclNo) → slice_get (formals_in (slice_get s.tables.blocks k)) n ≡ Some d → (f : Formal) × (entry_of s.tables d ≡ Some (entry.Formal f))
  -- a parameter by name, or one that is a procedure, is that of a procedure
  pub by_name : (d : DeclNo) (f : Formal) → entry_of s.tables d ≡ Some (entry.Formal f) → (f.mode ≡ mode.ByName) ⊎ (f.kind ≡ shape.Procedure) → has_levels (text s (block_of s d)) ≡ false
  -- a virtual is declared in a class
  pub virtuals : (d : DeclNo) (result : Option SimType) (own : Option DeclNo) → entry_of s.tables d ≡ Some (entry.Virtual result own) → is_class (text s (block_of s d)) ≡ true
  -- the text of a procedure and of a class stands in that of its declaration, and belongs to it
  pub procedures : (d : DeclNo) (result : Option SimType) (k : ℕ) → entry_of s.tables d ≡ Some (entry.Procedure result k) → ProcedureThere s d k
  pub classes : (d : DeclNo) (k : ℕ) → entry_of s.tables d ≡ Some (entry.Class k) → ClassThere s d k × (owner_of_level s.tables (Some k) ≡ Some d)
  pub class_levels : (k : ℕ) → is_class (text s k) ≡ true → has_levels (text s k) ≡ true
  pub level_kinds : (k : ℕ) → is_kind has_text_of_levels s.tables k ≡ true → has_levels (text s k) ≡ true
  pub owners : (k : ℕ) (d : DeclNo) → is_class (text s k) ≡ true → owner_of_level s.tables (Some k) ≡ Some d → entry_of s.tables d ≡ Some (entry.Class k)
  -- texts
  pub blocks : (k i : ℕ) (ds : Declarations) (ss : Statements) → text s k ≡ Some (BlockText i ds ss) → BlockAgrees s k ds
  pub bodies : (k : ℕ) (result : Option TypeName) (h : Heading) (a : Statement) → text s k ≡ Some (ProcedureText result h a) → FormalsAre s (numbers_of s k) (formals_of s k)
  pub class_texts : (k : ℕ) (prefix : Option Identifier) (h : Heading) (ds : Declarations) (ss : Statements) → text s k ≡ Some (ClassText prefix h ds ss) → ClassAgrees s k ds
  pub prefixed_texts : (k : ℕ) (class : Identifier) (es : Expressions) (ds : Declarations) (ss : Statements) → text s k ≡ Some (PrefixedText class es ds ss) → ClassAgrees s k ds
  pub standard_texts : (k : ℕ) (which : StandardClass) → text s k ≡ Some (StandardText which) → ClassAgrees s k NoDeclaration
  -- standard classes, and their attributes
  pub set_classes : (k : ℕ) (which : StandardClass) → text s k ≡ Some (StandardText which) → SetClassThere s k which
  pub attribute_names : (d : DeclNo) (name : Standard) (parameter result : Option SimType) → entry_of s.tables d ≡ Some (entry.Attribute name parameter result) → IsAttribute name
  pub set_procedures : (d : DeclNo) (name : Standard) (parameter result : Option SimType) → entry_of s.tables d ≡ Some (entry.Attribute name parameter result) → is_attribute_name name ≡ true → SetProcedureThere s d name parameter result
  pub bare : (d : DeclNo) (row : Declaration) (which : StandardClass) → slice_get s.tables.declarations d.0 ≡ Some row → text s row.block ≡ Some (StandardText which) → is_attribute row.entry ≡ true
  -- what `simulation` brings, and its own attributes
  pub processes_brought : (k : ℕ) → text s k ≡ Some (StandardText standard.Process) → ProcessBrought s k
  pub simulations : (k : ℕ) → is_simulation_block s.tables k ≡ true → SimulationClasses s k
  pub processes : (c k : ℕ) → is_connection (text s c) ≡ false → base s.tables c ≡ Some k → text s k ≡ Some (StandardText standard.Process) → ProcessClassThere s k
  pub simulation_procedures : (d : DeclNo) (name : Standard) (parameter result : Option SimType) → entry_of s.tables d ≡ Some (entry.Attribute name parameter result) → is_simulation_name name ≡ true → SimulationProcedureThere s d name parameter result
  -- the prefix of a block is a declared class, or a standard one
  pub block_prefixes : (k : ℕ) (class : Identifier) (es : Expressions) (ds : Declarations) (ss : Statements) → text s k ≡ Some (PrefixedText class es ds ss) → BlockPrefix s k ⊎ StandardPrefixed s k
  -- What an identifier denotes is declared in a block around it, or in a class that is connected there; what it denotes behind a dot, in the class.
  pub there : (token : ℕ) (name : List ℕ) (d : DeclNo) → binding s.tables token name ≡ Some (denotation.Declared d) → (e : Entry) × (entry_of s.tables d ≡ Some e)
  pub around : (token k : ℕ) (name : List ℕ) (d : DeclNo) → block_at s.tables token ≡ Some k → binding s.tables token name ≡ Some (denotation.Declared d) → Found s token k name d
  pub attributes : (token block : ℕ) (name : List ℕ) (d : DeclNo) → attribute_in s.tables token block name ≡ Some (denotation.Declared d) → (e : Entry) × (entry_of s.tables d ≡ Some e) × (has_level s.tables block (block_of s d) ≡ true)
  -- no block has a standard class among its levels
  pub no_set_block : (k u : ℕ) (which : StandardClass) (class : Identifier) (es : Expressions) (ds : Declarations) (ss : Statements) → text s k ≡ Some (PrefixedText class es ds ss) → has_level s.tables k u ≡ true → text s u ≡ Some (StandardText which) → ⊥

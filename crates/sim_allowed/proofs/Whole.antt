-- An allowed program is typed, where its tables agree with its texts.
use Rattle.std.proofs.Common.{◌≡◌, ℕ, suc, true, false, Option, Some, None, ap}
use Rattle.std.specs.Prelude.{slice_get}
use Rattle.sim_base.specs.declared.numbering.DeclNo.{DeclNo}
use Rattle.sim_scope.specs.declared.scopes.Declaration.{Declaration}
use Rattle.sim_scope.specs.declared.types.Entry.TheVariants as entry
use Rattle.sim_scope.specs.declared.types.Position.TheVariants.{ClassStatement, Inside}
use Rattle.sim_scope.specs.declared.types.SimType.{SimType}
use Rattle.sim_scope.specs.declared.types.StandardClass.{StandardClass}
use Rattle.sim_scope.specs.declared.types.StandardClass.TheVariants as standard
use Rattle.sim_scope.specs.Access.{encloser}
use Rattle.sim_scope.specs.Levels.{base, has_level, is_simulation_block}
use Rattle.sim_scope.specs.Scopes.{class_formals, entry_of}
use Rattle.sim_scope.specs.Source.{Source, level_of}
use Rattle.sim_scope.specs.Statements.{judging}
use Rattle.sim_scope.specs.Walk.{program_events}
use Rattle.sim_tree.specs.declared.expr.Identifier.{Identifier}
use Rattle.sim_tree.specs.declared.stmt.TypeName.{TypeName}
use Rattle.sim_tree.specs.Filled.{Filled}
use Rattle.sim_tree.specs.Syntax.{Declarations, Expressions, Heading, NoDeclaration, NoStatement, Statement, Statements}
use Rattle.sim_meaning.specs.Attributes.{is_connection}
use Rattle.sim_values.specs.declared.standard.Standard.{Standard}
use Rattle.sim_code.specs.Sets.{is_attribute_name}
use Rattle.sim_code.specs.Simulations.{is_simulation_name}
use Rattle.sim_meaning.specs.Closing.{class_parameters}
use Rattle.sim_meaning.specs.Entries.{formals_of, numbers_of}
use Rattle.sim_meaning.specs.Texts.{BlockText, ClassText, ConnectionText, PrefixedText, ProcedureText, StandardText, Text, is_class_free, text}
use Rattle.sim_meaning.specs.Virtuals.{match_in_text}
use Rattle.sim_sound.specs.Held.{Among, ArrayOf, ByName, Holds, IsFormal, entry_holds, result_holds, Procedure, In, InBound, Place}
use Rattle.sim_sound.specs.Expressions.{ProcessClassThere}
use Rattle.sim_sound.specs.Typed.{BlockTyped, ClassThere, ClassTyped, ConnectionTyped, Distinct, FormalsAre, IsAttribute, NoFormals, ProcedureThere, ResultWritten, SetClassThere, SetProcedureThere, SimulationClasses, SimulationProcedureThere, Starts, TextTyped, Typed, arrays_of_block, MatchThere, FormalsNear}
use Rattle.sim_agree.specs.Facts.{Tabled}
use Rattle.sim_agree.specs.Places.{PlacedArrays, PlacedStatement, PlacedStatements}
use Rattle.sim_allowed.proofs.Expressions.{AllNear}
use Rattle.sim_allowed.proofs.Bounds.{ArraysNamed, arrays_typed}
use Rattle.sim_allowed.proofs.Said.{AllSay}
use Rattle.sim_allowed.proofs.Statements.{statement_typed, statements_typed, NoBody}
use Rattle.sim_allowed.proofs.TextsOf.{TextFine, constants_there, text_fine, BlockFine}
use Rattle.sim_scope.specs.declared.types.Position.{Position}

-- What the tables of an allowed program say of its texts. A block has no formal parameters; its arrays are those that its table has, each once; what
-- is written in it stands in it.
pub record BlockIs (s : Source) (k : ℕ) (ds : Declarations) (ss : Statements) : Type 0 where
  pub no_formals : NoFormals s (numbers_of s k)
  pub distinct : Distinct (arrays_of_block s ds)
  pub made : (d : DeclNo) (element : Holds) → Among d (numbers_of s k) → entry_holds s false (entry_of s.tables d) ≡ Some (ArrayOf element) → Among d (arrays_of_block s ds)
  pub own : (d : DeclNo) → Among d (arrays_of_block s ds) → Among d (numbers_of s k)
  pub named : ArraysNamed s ds
  pub arrays : PlacedArrays s.tables k ds
  pub statements : PlacedStatements s k ss

pub record ProcedureIs (s : Source) (k : ℕ) (result : Option TypeName) (a : Statement) : Type 0 where
  pub written : ResultWritten result (result_holds s k)
  pub formals : FormalsAre s (numbers_of s k) (formals_of s k)
  pub near : (around : ℕ) → encloser s.tables k ≡ Some around → FormalsNear s around (formals_of s k)
  pub body : PlacedStatement s k a

pub record ClassIs (s : Source) (k : ℕ) (ds : Declarations) (ss : Statements) : Type 0 where
  pub formals : FormalsAre s (class_formals s.tables k) (class_parameters s (Some k))
  pub parameters : (d : DeclNo) → Among d (numbers_of s k) → IsFormal (entry_of s.tables d) → Among d (class_formals s.tables k)
  pub different : Distinct (numbers_of s k)
  pub not_by_name : (d : DeclNo) (h : Holds) → Among d (numbers_of s k) → entry_holds s true (entry_of s.tables d) ≡ Some (ByName h) → ⊥
  pub no_procedure : (d : DeclNo) (result : Option SimType) → Among d (numbers_of s k) → entry_holds s true (entry_of s.tables d) ≡ Some (Procedure result) → ⊥
  pub distinct : Distinct (arrays_of_block s ds)
  pub made : (d : DeclNo) (element : SimType) (dimensions : ℕ) → Among d (numbers_of s k) → entry_of s.tables d ≡ Some (entry.Array element dimensions) → Among d (arrays_of_block s ds)
  pub own : (d : DeclNo) → Among d (arrays_of_block s ds) → Among d (numbers_of s k)
  pub named : ArraysNamed s ds
  pub arrays : PlacedArrays s.tables k ds
  pub statements : PlacedStatements s k ss
  pub stays : is_class_free s k ≡ false

pub record Agreed (s : Source) : Type 0 where
  pub tabled : Tabled s
  pub starts : Starts s
  pub outermost : encloser s.tables 0 ≡ None
  pub levels : (t u : ℕ) → is_connection (text s t) ≡ false → encloser s.tables t ≡ Some u → level_of s t ≡ suc (level_of s u)
  pub listed : (d : DeclNo) (row : Declaration) (h : Holds) → slice_get s.tables.declarations d.0 ≡ Some row → entry_holds s true (Some row.entry) ≡ Some h → Among d (numbers_of s row.block)
  pub procedures : (d : DeclNo) (result : Option SimType) (k : ℕ) → entry_of s.tables d ≡ Some (entry.Procedure result k) → ProcedureThere s d k
  pub matches : (v : DeclNo) (result : Option SimType) (own : Option DeclNo) (k match : ℕ) → entry_of s.tables v ≡ Some (entry.Virtual result own) → match_in_text s v.0 (Some k) ≡ Some (Some match) → MatchThere s result k match
  pub classes : (d : DeclNo) (k : ℕ) → entry_of s.tables d ≡ Some (entry.Class k) → ClassThere s d k
  pub set_classes : (k : ℕ) (which : StandardClass) → text s k ≡ Some (StandardText which) → SetClassThere s k which
  pub set_procedures : (d : DeclNo) (name : Standard) (parameter result : Option SimType) → entry_of s.tables d ≡ Some (entry.Attribute name parameter result) → is_attribute_name name ≡ true → SetProcedureThere s d name parameter result
  pub simulations : (k : ℕ) → is_simulation_block s.tables k ≡ true → SimulationClasses s k
  pub processes : (c k : ℕ) → is_connection (text s c) ≡ false → base s.tables c ≡ Some k → text s k ≡ Some (StandardText standard.Process) → ProcessClassThere s k
  pub simulation_procedures : (d : DeclNo) (name : Standard) (parameter result : Option SimType) → entry_of s.tables d ≡ Some (entry.Attribute name parameter result) → is_simulation_name name ≡ true → SimulationProcedureThere s d name parameter result
  pub bare : (d : DeclNo) (row : Declaration) (which : StandardClass) → slice_get s.tables.declarations d.0 ≡ Some row → text s row.block ≡ Some (StandardText which) → IsAttribute (Some row.entry)
  pub blocks : (k i : ℕ) (ds : Declarations) (ss : Statements) → text s k ≡ Some (BlockText i ds ss) → BlockIs s k ds ss
  pub bodies : (k : ℕ) (result : Option TypeName) (h : Heading) (a : Statement) → text s k ≡ Some (ProcedureText result h a) → ProcedureIs s k result a
  pub class_bodies : (k : ℕ) (prefix : Option Identifier) (h : Heading) (ds : Declarations) (ss : Statements) → text s k ≡ Some (ClassText prefix h ds ss) → ClassIs s k ds ss
  pub prefixed_bodies : (k : ℕ) (class : Identifier) (es : Expressions) (ds : Declarations) (ss : Statements) → text s k ≡ Some (PrefixedText class es ds ss) → ClassIs s k ds ss
  pub standard_bodies : (k : ℕ) (which : StandardClass) → text s k ≡ Some (StandardText which) → ClassIs s k NoDeclaration NoStatement
  pub connections : (k : ℕ) → text s k ≡ Some ConnectionText → ConnectionTyped s k
  pub not_class_free : (t u : ℕ) → encloser s.tables t ≡ Some u → is_class_free s t ≡ false → is_class_free s u ≡ false
  pub no_set_block : (k u : ℕ) (which : StandardClass) (class : Identifier) (es : Expressions) (ds : Declarations) (ss : Statements) → text s k ≡ Some (PrefixedText class es ds ss) → has_level s.tables k u ≡ true → text s u ≡ Some (StandardText which) → ⊥

module _ (s : Source) (agreed : Agreed s) (filled : Filled s.program) (said : AllSay s (program_events (judging s.tables) s.program)) (near : (f : Place) → AllNear s f) where
  fine_text : (k : ℕ) (x : Text) → text s k ≡ Some x → TextFine s x
  fine_text k x at = text_fine s filled (constants_there s) said k x at

  block_typed : (k i : ℕ) (ds : Declarations) (ss : Statements) → text s k ≡ Some (BlockText i ds ss) → BlockTyped s k ds ss
  block_typed k i ds ss at =
      let fine = fine_text k (BlockText i ds ss) at in
      let b = agreed.blocks k i ds ss at in record {
        no_formals = b.no_formals;
        arrays = arrays_typed s agreed.tabled k (ap is_connection at) (near (InBound k)) ds b.arrays b.named fine.0.0 fine.0.1;
        distinct = b.distinct;
        made = b.made;
        own = b.own;
        statements = statements_typed s agreed.tabled (λ k. near (In k)) k Inside ss tt b.statements fine.1.0 fine.1.1;
      }

  class_typed : (k : ℕ) (q : Position) → NoBody q → (ds : Declarations) (ss : Statements) → is_connection (text s k) ≡ false → BlockFine s q ds ss → ClassIs s k ds ss → ClassTyped s k ds ss
  class_typed k q no_body ds ss solid fine b =
      let tabled = agreed.tabled in record {
        formals = b.formals;
        parameters = b.parameters;
        different = b.different;
        not_by_name = b.not_by_name;
        no_procedure = b.no_procedure;
        constants = λ d type among e. (let c = tabled.constants d type e in record { value = c.value; is = c.is; of_type = c.of_type });
        arrays = arrays_typed s agreed.tabled k solid (near (InBound k)) ds b.arrays b.named fine.0.0 fine.0.1;
        distinct = b.distinct;
        made = b.made;
        own = b.own;
        statements = statements_typed s agreed.tabled (λ k. near (In k)) k q ss no_body b.statements fine.1.0 fine.1.1;
        stays = b.stays;
      }

  texts_typed : (k : ℕ) (x : Text) → text s k ≡ Some x → TextTyped s k x
  texts_typed k (BlockText i ds ss) at = block_typed k i ds ss at
  texts_typed k (ProcedureText result h a) at =
      let fine = fine_text k (ProcedureText result h a) at in
      let p = agreed.bodies k result h a at in
      record { result = p.written; formals = p.formals; near = p.near; body = statement_typed s agreed.tabled (λ k. near (In k)) k Inside a tt p.body fine.0 fine.1 }
  texts_typed k (ClassText prefix h ds ss) at = class_typed k ClassStatement tt ds ss (ap is_connection at) (fine_text k (ClassText prefix h ds ss) at) (agreed.class_bodies k prefix h ds ss at)
  texts_typed k ConnectionText at = agreed.connections k at
  texts_typed k (PrefixedText class es ds ss) at = class_typed k Inside tt ds ss (ap is_connection at) (fine_text k (PrefixedText class es ds ss) at) (agreed.prefixed_bodies k class es ds ss at)
  texts_typed k (StandardText which) at = class_typed k Inside tt NoDeclaration NoStatement (ap is_connection at) ((tt, tt), (tt, tt), tt) (agreed.standard_bodies k which at)

  pub said_typed : Typed s
  said_typed = let tabled = agreed.tabled in record {
    starts = agreed.starts;
    some_block = tabled.some_block;
    outermost = agreed.outermost;
    levels = agreed.levels;
    listed = agreed.listed;
    procedures = agreed.procedures;
    virtuals = tabled.virtuals;
    matches = agreed.matches;
    classes = agreed.classes;
    set_classes = agreed.set_classes;
    set_procedures = agreed.set_procedures;
    simulations = agreed.simulations;
    processes = agreed.processes;
    simulation_procedures = agreed.simulation_procedures;
    bare = agreed.bare;
    texts = texts_typed;
    not_class_free = agreed.not_class_free;
    prefixes = tabled.prefixes;
    no_set_block = agreed.no_set_block;
  }

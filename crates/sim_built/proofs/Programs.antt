-- Typed programs are built.
use Rattle.std.proofs.Common.{◌≡◌, ℕ, zero, suc, ◌+◌, Bool, true, false, List, [], ◌∷◌, ◌++◌, length, Option, Some, None, refl, sym, ap, ◌∙◌, subst, arith}
use Rattle.std.specs.Prelude.{slice_get}
use Rattle.sim_base.specs.declared.numbering.DeclNo.{DeclNo}
use Rattle.sim_scope.specs.declared.types.StandardClass.{StandardClass}
use Rattle.sim_scope.specs.declared.types.StandardPrefix.{StandardPrefix}
use Rattle.sim_scope.specs.declared.types.StandardPrefix.TheVariants as prefixes
use Rattle.sim_scope.specs.Source.{Source}
use Rattle.sim_tree.specs.declared.expr.Identifier.{Identifier}
use Rattle.sim_tree.specs.Filled.{Filled, FilledArms, FilledBlock, FilledDeclaration, FilledDeclarations, FilledStatement, FilledStatements, SomeBounds}
use Rattle.sim_tree.specs.Syntax.{Also, Arms, Arrayed, Arrays, Begin, Block, BoundPair, Declaration, Declarations, DeclareClass, DeclareProcedure, Expressions, Heading, NoArm, NoDeclaration, NoStatement, Prefix, Statement, Statements, Variables, When, With}
use Rattle.sim_tree.specs.Syntax as syntax
use Rattle.sim_values.specs.declared.kind.Kind.TheVariants as kind
use Rattle.sim_meaning.specs.Attributes.{is_connection}
use Rattle.sim_meaning.specs.Entries.{numbers_of}
use Rattle.sim_meaning.specs.Levels.{writes_inner}
use Rattle.sim_meaning.specs.Texts.{BlockText, ClassText, ConnectionText, PrefixedText, ProcedureText, StandardText, Text, arms_texts, block_texts, declaration_texts, declarations_texts, declared_at, prefix_texts, prefixed_texts, program_texts, statement_texts, statements_texts, text}
use Rattle.sim_agree.specs.Inners.{InnersIn}
use Rattle.sim_agree.specs.Places.{Each}
use Rattle.sim_agree.proofs.StandardPrefixes.{behind_prefix, brought_texts}
use Rattle.sim_sound.specs.Held.{Among, ArrayOf, Holds, InBound, Simply, entry_holds, first, held_by, later}
use Rattle.sim_sound.specs.Statements.{StatementsAre}
use Rattle.sim_sound.specs.Typed.{ArraysAre, ArraysTyped, BoundsAre, SegmentsAre, SomeName, Starts, TextTyped, Typed, arrays_in_segments, arrays_named, arrays_of_block, as_block, as_prefixed, of_option}
use Rattle.codegen_expr.specs.Sites.{is_constant}
use Rattle.codegen.specs.BuiltProgram.{ArraysBuilt, BoundsBuilt, KeptBuilt, LevelBuilt, MadeBuilt, NamesBuilt, OnlyLevel, ProgramBuilt, SegmentsBuilt, StatementsBuilt, TextBuilt, TextsBuilt, texts_of}
use Rattle.sim_built.specs.Laid.{Laid}
use Rattle.sim_built.proofs.Agreeing.{agrees}
use Rattle.sim_built.proofs.Cells.{front_is, slot_listed}
use Rattle.sim_built.proofs.Expressions.{Stands, is_built}
use Rattle.sim_built.proofs.Standing.{stands_in_bound}
use Rattle.sim_built.proofs.Statements.{statement_built, statements_built, with_inner}

-- ---- arrays

module _ (s : Source) (ok : Typed s) (laid : Laid s) (t : ℕ) (x : Text) (there : text s t ≡ Some x) (whole : is_connection (text s t) ≡ false) where
  standing : Stands s t (InBound t)
  standing = stands_in_bound s ok laid t x there whole

  bounds_built : (bs : List BoundPair) → BoundsAre s (InBound t) bs → BoundsBuilt s t bs
  bounds_built [] a = tt
  bounds_built (b ∷ bs) a =
      (is_built s ok laid t (InBound t) standing b.lower (Simply kind.Integer) a.0, is_built s ok laid t (InBound t) standing b.upper (Simply kind.Integer) a.1, bounds_built bs a.2)

  names_built : (h : Holds) (xs : List Identifier) (more : List DeclNo) → ((d : DeclNo) → Among d (arrays_named s xs more) → Among d (numbers_of s t)) → ArraysAre s h xs → NamesBuilt s t xs
  names_built h [] more listed a = tt
  names_built h (y ∷ ys) more listed a =
      let d = (a.0).declaration in
      let at = (a.0).at in
      let own = listed d (subst (λ z. Among d (of_option z (arrays_named s ys more))) (sym at) first) in (
        subst (KeptBuilt s t) (sym at) (laid.owned t d own, ap is_constant (a.0).is, slot_listed s ok laid t d (ArrayOf (held_by s (a.0).element)) false whole (ap (entry_holds s false) (a.0).is) own),
        names_built h ys more (λ e b. listed e (subst (λ z. Among e (of_option z (arrays_named s ys more))) (sym at) (later b))) a.1,
      )

  behind_option : (d : DeclNo) (o : Option DeclNo) (ds : List DeclNo) → Among d ds → Among d (of_option o ds)
  behind_option d None ds a = a
  behind_option d (Some e) ds a = later a

  behind_names : (d : DeclNo) (xs : List Identifier) (more : List DeclNo) → Among d more → Among d (arrays_named s xs more)
  behind_names d [] more a = a
  behind_names d (y ∷ ys) more a = behind_option d (declared_at s y.token.0) (arrays_named s ys more) (behind_names d ys more a)

  behind_segments : (d : DeclNo) (gs : List Arrayed) (more : List DeclNo) → Among d more → Among d (arrays_in_segments s gs more)
  behind_segments d [] more a = a
  behind_segments d (g ∷ gs) more a = behind_names d g.names (arrays_in_segments s gs more) (behind_segments d gs more a)

  made_built : (bs : List BoundPair) (xs : List Identifier) → SomeBounds bs → SomeName xs → NamesBuilt s t xs → MadeBuilt s t (length bs) xs
  made_built [] xs bounds some a = absurd bounds
  made_built (b ∷ bs) [] bounds some a = absurd some
  made_built (b ∷ bs) (y ∷ ys) bounds some a = (omega arith, a)

  segments_built : (h : Holds) (gs : List Arrayed) (more : List DeclNo) → ((d : DeclNo) → Among d (arrays_in_segments s gs more) → Among d (numbers_of s t)) → SegmentsAre s (InBound t) h gs → SegmentsBuilt s t gs
  segments_built h [] more listed a = tt
  segments_built h (g ∷ gs) more listed a = (
    bounds_built g.bounds a.0,
    made_built g.bounds g.names a.1 a.2 (names_built h g.names (arrays_in_segments s gs more) listed a.3),
    segments_built h gs more (λ d b. listed d (behind_names d g.names (arrays_in_segments s gs more) b)) a.4,
  )

  pub arrays_built : (ds : Declarations) → ((d : DeclNo) → Among d (arrays_of_block s ds) → Among d (numbers_of s t)) → ArraysTyped s (InBound t) ds → ArraysBuilt s t ds
  arrays_built NoDeclaration listed a = tt
  arrays_built (With (Variables type vs) ds) listed a = arrays_built ds listed a
  arrays_built (With (Arrays type i gs) ds) listed a =
      (segments_built a.0 gs (arrays_of_block s ds) listed a.2, arrays_built ds (λ d b. listed d (behind_segments d gs (arrays_of_block s ds) b)) a.3)
  arrays_built (With (DeclareProcedure result i h b end) ds) listed a = arrays_built ds listed a
  arrays_built (With (DeclareClass prefix i h interface b end) ds) listed a = arrays_built ds listed a

-- ---- texts

abbrev Fit : Text → Type 0
Fit (BlockText begin ds ss) = FilledStatements ss
Fit (ProcedureText result h a) = FilledStatement a
Fit (ClassText prefix h ds ss) = FilledStatements ss
Fit (PrefixedText class es ds ss) = FilledStatements ss
Fit ConnectionText = Unit {0}
Fit (StandardText which) = Unit {0}

both_each : (xs ys : List Text) → Each Fit xs → Each Fit ys → Each Fit (xs ++ ys)
both_each [] ys a b = b
both_each (x ∷ xs) ys a b = (a.0, both_each xs ys a.1 b)

-- a prefix brings the texts of standard classes, or none
brought_fit : (p : StandardPrefix) (xs : List Text) → Each Fit xs → Each Fit (brought_texts p ++ xs)
brought_fit prefixes.Simset xs a = (tt, (tt, (tt, a)))
brought_fit prefixes.Simulation xs a = (tt, (tt, (tt, (tt, a))))

fit_prefix : (prefix : Option Identifier) (xs : List Text) → Each Fit xs → Each Fit (prefix_texts prefix ++ xs)
fit_prefix prefix xs a = behind_prefix (λ z. Each Fit z) prefix xs a (λ p. brought_fit p xs a)

mutual
  statement_fit : (a : Statement) → FilledStatement a → Each Fit (statement_texts a)
  statement_fit (syntax.Empty i) f = tt
  statement_fit (syntax.Compound b) f = block_fit b f
  statement_fit (syntax.Call e) f = tt
  statement_fit (syntax.Assign e rs) f = tt
  statement_fit (syntax.Choose i c x y) f = both_each (statement_texts x) (statements_texts y) (statement_fit x f.0) (statements_fit y f.1)
  statement_fit (syntax.Repeat i c x) f = statement_fit x f
  statement_fit (syntax.For i name sign assign es x) f = statement_fit x f.1
  statement_fit (syntax.Inner i) f = tt
  statement_fit (syntax.Inspect i e opening x end other) f = (tt, both_each (statement_texts x) (statements_texts other) (statement_fit x f.0) (statements_fit other f.1))
  statement_fit (syntax.InspectWhen i e arms other) f = both_each (arms_texts arms) (statements_texts other) (arms_fit arms f.0) (statements_fit other f.1)
  statement_fit (syntax.Prefixed class arguments b) f = prefixed_fit class arguments b f
  statement_fit (syntax.Activate i word e schedule) f = tt

  prefixed_fit : (class : Identifier) (es : Expressions) (b : Block) → FilledBlock b → Each Fit (prefixed_texts class es b)
  prefixed_fit class es (Begin i ds ss end) f =
      (f.1, fit_prefix (Some class) (declarations_texts ds ++ statements_texts ss) (both_each (declarations_texts ds) (statements_texts ss) (declarations_fit ds f.0) (statements_fit ss f.1)))

  arms_fit : (arms : Arms) → FilledArms arms → Each Fit (arms_texts arms)
  arms_fit NoArm f = tt
  arms_fit (When i class opening x end more) f = (tt, both_each (statement_texts x) (arms_texts more) (statement_fit x f.0) (arms_fit more f.1))

  statements_fit : (ss : Statements) → FilledStatements ss → Each Fit (statements_texts ss)
  statements_fit NoStatement f = tt
  statements_fit (Also x more) f = both_each (statement_texts x) (statements_texts more) (statement_fit x f.0) (statements_fit more f.1)

  block_fit : (b : Block) → FilledBlock b → Each Fit (block_texts b)
  block_fit (Begin i NoDeclaration ss end) f = statements_fit ss f.1
  block_fit (Begin i (With d ds) ss end) f =
      (f.1, both_each (declaration_texts d) (declarations_texts ds ++ statements_texts ss) (declaration_fit d (f.0).0) (both_each (declarations_texts ds) (statements_texts ss) (declarations_fit ds (f.0).1) (statements_fit ss f.1)))

  declarations_fit : (ds : Declarations) → FilledDeclarations ds → Each Fit (declarations_texts ds)
  declarations_fit NoDeclaration f = tt
  declarations_fit (With d ds) f = both_each (declaration_texts d) (declarations_texts ds) (declaration_fit d f.0) (declarations_fit ds f.1)

  declaration_fit : (d : Declaration) → FilledDeclaration d → Each Fit (declaration_texts d)
  declaration_fit (Variables type vs) f = tt
  declaration_fit (Arrays type i gs) f = tt
  declaration_fit (DeclareProcedure result i h a end) f = (f, statement_fit a f)
  declaration_fit (DeclareClass prefix i h interface (syntax.Compound (Begin j ds ss e)) end) f =
      (f.1, fit_prefix prefix (declarations_texts ds ++ statements_texts ss) (both_each (declarations_texts ds) (statements_texts ss) (declarations_fit ds f.0) (statements_fit ss f.1)))
  declaration_fit (DeclareClass prefix i h interface (syntax.Empty j) end) f = ((f, tt), fit_prefix prefix (statement_texts (syntax.Empty j)) (statement_fit (syntax.Empty j) f))
  declaration_fit (DeclareClass prefix i h interface (syntax.Call e) end) f = ((f, tt), fit_prefix prefix (statement_texts (syntax.Call e)) (statement_fit (syntax.Call e) f))
  declaration_fit (DeclareClass prefix i h interface (syntax.Assign e rs) end) f = ((f, tt), fit_prefix prefix (statement_texts (syntax.Assign e rs)) (statement_fit (syntax.Assign e rs) f))
  declaration_fit (DeclareClass prefix i h interface (syntax.Choose j c x y) end) f = ((f, tt), fit_prefix prefix (statement_texts (syntax.Choose j c x y)) (statement_fit (syntax.Choose j c x y) f))
  declaration_fit (DeclareClass prefix i h interface (syntax.Repeat j c x) end) f = ((f, tt), fit_prefix prefix (statement_texts (syntax.Repeat j c x)) (statement_fit (syntax.Repeat j c x) f))
  declaration_fit (DeclareClass prefix i h interface (syntax.For j name sign assign es x) end) f = ((f, tt), fit_prefix prefix (statement_texts (syntax.For j name sign assign es x)) (statement_fit (syntax.For j name sign assign es x) f))
  declaration_fit (DeclareClass prefix i h interface (syntax.Inner j) end) f = ((f, tt), fit_prefix prefix (statement_texts (syntax.Inner j)) (statement_fit (syntax.Inner j) f))
  declaration_fit (DeclareClass prefix i h interface (syntax.Inspect j e opening x close other) end) f = ((f, tt), fit_prefix prefix (statement_texts (syntax.Inspect j e opening x close other)) (statement_fit (syntax.Inspect j e opening x close other) f))
  declaration_fit (DeclareClass prefix i h interface (syntax.InspectWhen j e arms other) end) f = ((f, tt), fit_prefix prefix (statement_texts (syntax.InspectWhen j e arms other)) (statement_fit (syntax.InspectWhen j e arms other) f))
  declaration_fit (DeclareClass prefix i h interface (syntax.Prefixed class arguments b) end) f = ((f, tt), fit_prefix prefix (statement_texts (syntax.Prefixed class arguments b)) (statement_fit (syntax.Prefixed class arguments b) f))
  declaration_fit (DeclareClass prefix i h interface (syntax.Activate j word e schedule) end) f = ((f, tt), fit_prefix prefix (statement_texts (syntax.Activate j word e schedule)) (statement_fit (syntax.Activate j word e schedule) f))

program_fit : (prefix : Option Prefix) (b : Block) → FilledBlock b → Each Fit (program_texts prefix b)
program_fit None (Begin i ds ss end) f = (f.1, both_each (declarations_texts ds) (statements_texts ss) (declarations_fit ds f.0) (statements_fit ss f.1))
program_fit (Some x) (Begin i ds ss end) f =
    (f.1, fit_prefix (Some x.class) (declarations_texts ds ++ statements_texts ss) (both_each (declarations_texts ds) (statements_texts ss) (declarations_fit ds f.0) (statements_fit ss f.1)))

module _ (s : Source) (ok : Typed s) (laid : Laid s) where
  level_built : (k : ℕ) (prefix : Option Identifier) (h : Heading) (ds : Declarations) (ss : Statements) → text s k ≡ Some (ClassText prefix h ds ss) → (written : Bool) → InnersIn written (ClassText prefix h ds ss) → FilledStatements ss → StatementsAre s k ss → LevelBuilt s k written ss
  level_built k prefix h ds ss e true n f a = with_inner s ok laid k (ClassText prefix h ds ss) e ss n f a
  level_built k prefix h ds ss e false n f a = statements_built s ok laid k (ClassText prefix h ds ss) e ss n f a

  class_built : (k : ℕ) (prefix : Option Identifier) (h : Heading) (ds : Declarations) (ss : Statements) → text s k ≡ Some (ClassText prefix h ds ss) → Fit (ClassText prefix h ds ss) → TextTyped s k (ClassText prefix h ds ss) → ArraysBuilt s k ds × LevelBuilt s k (writes_inner s k) ss
  class_built k prefix h ds ss e f a = (
    arrays_built s ok laid k (ClassText prefix h ds ss) e (ap is_connection e) ds a.own a.arrays,
    level_built k prefix h ds ss e (writes_inner s k) (laid.inners k (ClassText prefix h ds ss) e) f a.statements,
  )

  prefixed_built : (k : ℕ) (class : Identifier) (es : Expressions) (ds : Declarations) (ss : Statements) → text s k ≡ Some (PrefixedText class es ds ss) → Fit (PrefixedText class es ds ss) → TextTyped s k (PrefixedText class es ds ss) → ArraysBuilt s k ds × StatementsBuilt s k ss
  prefixed_built k class es ds ss e f a = (
    arrays_built s ok laid k (PrefixedText class es ds ss) e (ap is_connection e) ds a.own a.arrays,
    statements_built s ok laid k (PrefixedText class es ds ss) e ss (laid.inners k (PrefixedText class es ds ss) e) f a.statements,
  )

  -- the program's block is no class, and its prefix gives no level
  no_first_class : (prefix : Option Identifier) (h : Heading) (ds : Declarations) (ss : Statements) → text s 0 ≡ Some (ClassText prefix h ds ss) → Starts s → ⊥
  no_first_class prefix h ds ss e (as_block block) = cc
  no_first_class prefix h ds ss e (as_prefixed block none bare) = cc

  no_first_standard : (which : StandardClass) → text s 0 ≡ Some (StandardText which) → Starts s → ⊥
  no_first_standard which e (as_block block) = cc
  no_first_standard which e (as_prefixed block none bare) = cc

  only_level : (class : Identifier) (es : Expressions) (ds : Declarations) (ss : Statements) → text s 0 ≡ Some (PrefixedText class es ds ss) → Starts s → OnlyLevel s
  only_level class es ds ss e (as_block block) = absurd (cc)
  only_level class es ds ss e (as_prefixed block none bare) = front_is s ok laid 0 (ap is_connection e) ∙ none

  text_built : (k : ℕ) (x : Text) → text s k ≡ Some x → Fit x → TextTyped s k x → TextBuilt s k x
  text_built k (BlockText begin ds ss) e f a = (
    arrays_built s ok laid k (BlockText begin ds ss) e (ap is_connection e) ds a.own a.arrays,
    statements_built s ok laid k (BlockText begin ds ss) e ss (laid.inners k (BlockText begin ds ss) e) f a.statements,
  )
  text_built k (ProcedureText result h b) e f a = statement_built s ok laid k (ProcedureText result h b) e b (laid.inners k (ProcedureText result h b) e) f a.body
  text_built zero (ClassText prefix h ds ss) e f a = absurd (no_first_class prefix h ds ss e ok.starts)
  text_built (suc k) (ClassText prefix h ds ss) e f a = class_built (suc k) prefix h ds ss e f a
  text_built zero (PrefixedText class es ds ss) e f a = let built = prefixed_built zero class es ds ss e f a in (only_level class es ds ss e ok.starts, built.0, built.1)
  text_built (suc k) (PrefixedText class es ds ss) e f a = prefixed_built (suc k) class es ds ss e f a
  text_built k ConnectionText e f a = tt
  text_built zero (StandardText which) e f a = absurd (no_first_standard which e ok.starts)
  text_built (suc k) (StandardText which) e f a = tt

  texts_built : (k : ℕ) (xs : List Text) → ((i : ℕ) (x : Text) → slice_get xs i ≡ Some x → text s (k + i) ≡ Some x) → Each Fit xs → TextsBuilt s k xs
  texts_built k [] at f = tt
  texts_built k (x ∷ xs) at f =
      let here : text s k ≡ Some x = ap (text s) (omega arith) ∙ at 0 x refl in
      (text_built k x here f.0 (ok.texts k x here), texts_built (suc k) xs (λ i y e. ap (text s) (next i) ∙ at (suc i) y e) f.1)
    where
      next : (i : ℕ) → suc k + i ≡ k + suc i
      next i = omega arith

  pub program_built : Filled s.program → ProgramBuilt s
  unfolding texts_of text
  program_built f =
      let fit = program_fit s.program.prefix s.program.block f in
      record {
        texts = texts_built 0 (program_texts s.program.prefix s.program.block) (λ i x e. ap (slice_get (program_texts s.program.prefix s.program.block)) (omega arith) ∙ e) fit;
        agrees = agrees s ok laid;
      }

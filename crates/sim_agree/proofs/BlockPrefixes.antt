-- The prefix of each prefixed block of an allowed program is a declared class, whose parameters are those of the block, or a standard one.
use Rattle.std.proofs.Common.{◌≡◌, ◌⊎◌, inl, inr, ℕ, zero, suc, Bool, true, false, List, [], ◌∷◌, ◌++◌, ◌+◌, length, map, Option, Some, None, refl, sym, ap, ◌∙◌, subst, append-nil}
use Rattle.std.specs.Prelude.{◌||◌, not, slice_get}
use Rattle.sim_base.specs.declared.numbering.DeclNo.{DeclNo}
use Rattle.sim_tree.specs.declared.expr.Identifier.{Identifier}
use Rattle.sim_agree.specs.Order.{InOrder}
use Rattle.sim_tree.specs.Syntax.{Also, Arms, Arrays, Begin, Block, Declaration, Declarations, DeclareClass, DeclareProcedure, Expressions, NoArm, NoDeclaration, NoStatement, Prefix, Statement, Statements, Variables, When, With}
use Rattle.sim_tree.specs.Syntax as syntax
use Rattle.sim_scope.specs.declared.scopes.Denotation.{Denotation}
use Rattle.sim_scope.specs.declared.scopes.Denotation.TheVariants as denotation
use Rattle.sim_scope.specs.declared.types.BlockKind.{BlockKind}
use Rattle.sim_scope.specs.declared.types.BlockKind.TheVariants as kind
use Rattle.sim_scope.specs.declared.standard.StandardName.TheVariants as standard
use Rattle.sim_scope.specs.declared.types.StandardClass.{StandardClass}
use Rattle.sim_scope.specs.declared.types.Entry.TheVariants as entry
use Rattle.sim_scope.specs.declared.types.StandardPrefix.{StandardPrefix}
use Rattle.sim_scope.specs.Bodies.{Around, Body, arms_bodies, block_bodies, bodies_of, classes_declared, declaration_bodies, declarations_bodies, prefix_bodies, program_bodies, standard_bodies, standard_body, statement_bodies, statements_bodies}
use Rattle.sim_scope.specs.Declare.{declared_by}
use Rattle.sim_scope.specs.Laws.{Shape, outline, shape_of}
use Rattle.sim_scope.specs.Access.{around, encloser}
use Rattle.sim_scope.specs.Levels.{base, base_in, owner_in, owner_of_level, standard_in}
use Rattle.sim_scope.specs.Scopes.{class_formals, class_formals_of, entry_of, formals_at, formals_beyond, formals_in}
use Rattle.sim_scope.specs.Source.{Source}
use Rattle.sim_scope.specs.Standard.{standard_prefix}
use Rattle.sim_scope.specs.Statements.{class_denoted, prefix_in}
use Rattle.sim_scope.specs.Tables.{BlockOf, Tables, deeper}
use Rattle.sim_scope.proofs.BodiesOfTables.{blocks_are_bodies}
use Rattle.prefix_bind.specs.Prefixes.{breaks_prefix, is_known, prefix_faults, prefixed}
use Rattle.sim_meaning.specs.Attributes.{is_connection}
use Rattle.sim_meaning.specs.Closing as closing
use Rattle.sim_meaning.specs.Entries.{numbers_of}
use Rattle.sim_meaning.specs.Levels.{is_class}
use Rattle.sim_meaning.specs.Texts.{BlockText, ClassText, ConnectionText, PrefixedText, ProcedureText, StandardText, Text, program_texts, text}
use Rattle.sim_sound.specs.Held.{Among, first, later}
use Rattle.sim_sound.specs.Typed.{Ends, NoFormal, NoFormals, Starts, as_block, as_prefixed, outermost, prefixed as prefixed_by}
use Rattle.sim_agree.specs.Facts.{BlockPrefix, StandardPrefixed}
use Rattle.sim_agree.specs.TablesOf.{TablesOf}
use Rattle.sim_agree.proofs.Chains as c
use Rattle.sim_agree.proofs.Chains.{prefix_known}
use Rattle.sim_agree.proofs.Completing.{bare_row}
use Rattle.sim_agree.proofs.Fine.{KindIs}
use Rattle.sim_agree.proofs.Headings as h
use Rattle.sim_agree.proofs.Qualified.{no_least}
use Rattle.sim_agree.proofs.Tables as t
use Rattle.sim_agree.proofs.Owned.{OwnerIs}
use Rattle.sim_agree.proofs.Prefixing.{HomeFrom, PrefixOf}
use Rattle.sim_agree.proofs.StandardBlocks.{standard_base_of}

-- ---- each body of the kind has a prefix

abbrev pub HasPrefix : BlockKind → Option Identifier → Type 0
HasPrefix kind.Prefixed None = ⊥
HasPrefix _ _ = Unit {0}

abbrev AllHave : List Body → Type 0
AllHave [] = Unit {0}
AllHave (b ∷ bs) = HasPrefix b.kind b.prefix × AllHave bs

both_have : (xs ys : List Body) → AllHave xs → AllHave ys → AllHave (xs ++ ys)
both_have [] ys a b = b
both_have (x ∷ xs) ys a b = (a.0, both_have xs ys a.1 b)

standard_have : (o : Around) (cs : List StandardClass) → AllHave (map (standard_body o) cs)
standard_have o [] = tt
standard_have o (x ∷ cs) = (tt, standard_have o cs)

bodies_have : (o : Around) (name : List ℕ) (next : ℕ) → AllHave (standard_bodies o name next)
unfolding standard_bodies
bodies_have o name next = standard_have o (classes_declared (standard_prefix name))

prefix_have : (o : Around) (prefix : Option Identifier) (next : ℕ) → AllHave (prefix_bodies o prefix next)
prefix_have o None next = tt
prefix_have o (Some class) next = bodies_have o class.name next

mutual
  statement_have : (o : Around) (a : Statement) (next : ℕ) → AllHave (statement_bodies o a next)
  statement_have o (syntax.Empty i) next = tt
  statement_have o (syntax.Compound b) next = block_have o b next
  statement_have o (syntax.Prefixed class es (Begin i ds ss end)) next =
      (tt, both_have _ _ (bodies_have _ class.name _) (both_have _ _ (declarations_have _ ds _) (statements_have _ ss _)))
  statement_have o (syntax.Inner i) next = tt
  statement_have o (syntax.Call e) next = tt
  statement_have o (syntax.Assign e sides) next = tt
  statement_have o (syntax.Choose i e a b) next = both_have _ _ (statement_have o a next) (statements_have o b _)
  statement_have o (syntax.Repeat i e a) next = statement_have o a next
  statement_have o (syntax.For i x sign j es a) next = statement_have o a next
  statement_have o (syntax.Inspect i e opening a end other) next = (tt, both_have _ _ (statement_have _ a _) (statements_have o other _))
  statement_have o (syntax.InspectWhen i e arms other) next = both_have _ _ (arms_have o arms next) (statements_have o other _)
  statement_have o (syntax.Activate i word e schedule) next = tt

  statements_have : (o : Around) (ss : Statements) (next : ℕ) → AllHave (statements_bodies o ss next)
  statements_have o NoStatement next = tt
  statements_have o (Also a more) next = both_have _ _ (statement_have o a next) (statements_have o more _)

  arms_have : (o : Around) (arms : Arms) (next : ℕ) → AllHave (arms_bodies o arms next)
  arms_have o NoArm next = tt
  arms_have o (When i class opening a end more) next = (tt, both_have _ _ (statement_have _ a _) (arms_have o more _))

  block_have : (o : Around) (b : Block) (next : ℕ) → AllHave (block_bodies o b next)
  block_have o (Begin i NoDeclaration ss end) next = statements_have o ss next
  block_have o (Begin i (With d ds) ss end) next = (tt, both_have _ _ (declarations_have _ (With d ds) _) (statements_have _ ss _))

  declarations_have : (o : Around) (ds : Declarations) (next : ℕ) → AllHave (declarations_bodies o ds next)
  declarations_have o NoDeclaration next = tt
  declarations_have o (With d ds) next = both_have _ _ (declaration_have o d next) (declarations_have o ds _)

  declaration_have : (o : Around) (d : Declaration) (next : ℕ) → AllHave (declaration_bodies o d next)
  declaration_have o (Variables type vs) next = tt
  declaration_have o (Arrays type i segments) next = tt
  declaration_have o (DeclareProcedure result i head a end) next = (tt, statement_have _ a _)
  declaration_have o (DeclareClass prefix i head interface (syntax.Compound (Begin j ds ss e)) end) next =
      (tt, both_have _ _ (prefix_have _ prefix _) (both_have _ _ (declarations_have _ ds _) (statements_have _ ss _)))
  declaration_have o (DeclareClass prefix i head interface a end) next =
      let inner : Around = record { number = next; level = deeper kind.Class o.level } in
      let m : ℕ = next + 1 + length (prefix_bodies inner prefix (next + 1)) in
      (tt, both_have (prefix_bodies inner prefix (next + 1)) (statement_bodies inner a m) (prefix_have inner prefix (next + 1)) (statement_have inner a m))

program_have : (prefix : Option Prefix) (b : Block) → AllHave (bodies_of prefix b)
program_have None (Begin i ds ss end) = (tt, both_have _ _ (declarations_have _ ds _) (statements_have _ ss _))
program_have (Some p) (Begin i ds ss end) = (tt, both_have _ _ (bodies_have _ p.class.name _) (both_have _ _ (declarations_have _ ds _) (statements_have _ ss _)))

block_has : (bs : List BlockOf) (cs : List Body) (k : ℕ) (row : BlockOf) → map shape_of bs ≡ map outline cs → AllHave cs → slice_get bs k ≡ Some row → HasPrefix row.kind row.prefix
block_has [] cs k row e a at = absurd (cc)
block_has (b ∷ bs) [] k row e a at = absurd (cc)
block_has (b ∷ bs) (x ∷ cs) zero row e a at = subst (λ (z : BlockOf). HasPrefix z.kind z.prefix) (let q : b ≡ row = cc in q) (subst (λ (z : Shape). HasPrefix z.kind z.prefix) (sym (head e)) a.0)
  where
    head : shape_of b ∷ map shape_of bs ≡ outline x ∷ map outline cs → shape_of b ≡ outline x
    head q = cc
block_has (b ∷ bs) (x ∷ cs) (suc k) row e a at = block_has bs cs k row (rest e) a.1 at
  where
    rest : shape_of b ∷ map shape_of bs ≡ outline x ∷ map outline cs → map shape_of bs ≡ map outline cs
    rest q = cc

-- ---- the parameters of a chain

-- a chain that ends has no other parameters where more levels are looked at
formals_more : (T : Tables) (n k : ℕ) → Ends T n k → class_formals_of T (suc n) k ≡ class_formals_of T n k
unfolding class_formals_of
formals_more T n k (outermost {n = m} e) =
    ap (λ o. formals_beyond (λ b. class_formals_of T (suc m) b) o ++ formals_at T (Some k)) e ∙ ap (λ o. formals_beyond (λ b. class_formals_of T m b) o ++ formals_at T (Some k)) (sym e)
formals_more T n k (prefixed_by {n = m} {b = b} e ends) =
    ap (λ o. formals_beyond (λ b. class_formals_of T (suc m) b) o ++ formals_at T (Some k)) e
    ∙ ap (λ z. z ++ formals_at T (Some k)) (formals_more T m b ends)
    ∙ ap (λ o. formals_beyond (λ b. class_formals_of T m b) o ++ formals_at T (Some k)) (sym e)

-- what has no parameters of its own has those of its prefix
formals_same : (T : Tables) (n k b : ℕ) → Ends T n k → base T k ≡ Some b → formals_at T (Some k) ≡ [] → class_formals_of T n k ≡ class_formals_of T n b
unfolding class_formals_of
formals_same T n k b (outermost e) is none = absurd (let f : None ≡ Some b = sym e ∙ is in cc)
formals_same T n k b (prefixed_by {n = m} {b = d} e ends) is none =
    let same : d ≡ b = cc in
    ap (λ o. formals_beyond (λ b. class_formals_of T m b) o ++ formals_at T (Some k)) is ∙ ap (λ z. class_formals_of T m b ++ z) none ∙ append-nil (class_formals_of T m b)
    ∙ sym (formals_more T m b (subst (Ends T m) same ends))

-- what has no parameters of its own, and no level in front of it, has none
formals_none : (T : Tables) (k : ℕ) → base T k ≡ None → formals_at T (Some k) ≡ [] → class_formals T k ≡ []
unfolding class_formals class_formals_of
formals_none T k none own = go (length T.blocks)
  where
    go : (n : ℕ) → class_formals_of T n k ≡ []
    go zero = refl
    go (suc n) = ap (λ o. formals_beyond (λ b. class_formals_of T n b) o ++ formals_at T (Some k)) none ∙ own

some_same : {A : Type 0} (a b : A) → Some a ≡ Some b → a ≡ b
some_same a b e = cc

-- ---- of a program

module _ (s : Source) (of : TablesOf s) (order : InOrder s.program) where
  module _ (k : ℕ) (class : Identifier) (es : Expressions) (ds : Declarations) (ss : Statements) (is : text s k ≡ Some (PrefixedText class es ds ss)) where
    abbrev T : Tables
    T = prefixed (declared_by s.program).tables

    other : is_connection (text s k) ≡ false
    other = ap is_connection is

    -- its block, as it was declared
    pub declared_row : (row : BlockOf) × (slice_get (declared_by s.program).tables.blocks k ≡ Some row) × (row.kind ≡ kind.Prefixed)
    unfolding text
    declared_row = go (slice_get (declared_by s.program).tables.blocks k) refl (subst (λ o. KindIs (slice_get (declared_by s.program).tables.blocks k) o) is ((t.program_agrees s.program).fine.kinds k))
      where
        go : (o : Option BlockOf) → slice_get (declared_by s.program).tables.blocks k ≡ o → KindIs o (Some (PrefixedText class es ds ss)) → (row : BlockOf) × (o ≡ Some row) × (row.kind ≡ kind.Prefixed)
        go None at q = absurd q
        go (Some row) at q = (row, refl, q)

    pub has_prefix : HasPrefix kind.Prefixed (declared_row.0).prefix
    unfolding program_bodies
    has_prefix =
        subst (λ z. HasPrefix z (declared_row.0).prefix) declared_row.2
        (block_has (declared_by s.program).tables.blocks (bodies_of s.program.prefix s.program.block) k declared_row.0 (blocks_are_bodies s.program) (program_have s.program.prefix s.program.block) declared_row.1)

    -- its prefix is known, since no rule on prefixes is broken
    abbrev KnownIn : BlockOf → Type 0
    KnownIn row = ((b : ℕ) × (row.base ≡ Some b)) ⊎ ((row.base ≡ None) × ((which : StandardPrefix) × (row.standard ≡ Some which)))

    known_base : (row : BlockOf) → slice_get T.blocks k ≡ Some row → (o : Option Identifier) → row.prefix ≡ o → HasPrefix kind.Prefixed o → KnownIn row
    known_base row at None e has = absurd has
    known_base row at (Some x) e has = go row.base row.standard refl refl (known (is_known row) _ (sym (ap (breaks_prefix T row) e) ∙ prefix_known T (no_least (prefix_faults T) of.prefixes) k row at))
      where
        known : (a b : Bool) → (not a || b) ≡ false → a ≡ true
        known true b f = refl
        known false b f = absurd (cc)

        standard_known : Option StandardPrefix → Bool
        standard_known o = elim o [ Some which ↦ true | None ↦ false ]

        base_known : Option ℕ → Option StandardPrefix → Bool
        base_known o p = elim o [ Some b ↦ true | None ↦ standard_known p ]

        go : (o : Option ℕ) (p : Option StandardPrefix) → row.base ≡ o → row.standard ≡ p → is_known row ≡ true → KnownIn row
        go (Some b) p e f g = inl (b, e)
        go None (Some which) e f g = inr (e, (which, f))
        go None None e f g = absurd (let q : base_known None None ≡ true = sym (ap (λ o. base_known o row.standard) e ∙ ap (base_known None) f) ∙ g in let z : false ≡ true = q in cc)

    abbrev KnownHere : Type 0
    KnownHere = ((b : ℕ) × (base s.tables k ≡ Some b)) ⊎ ((base s.tables k ≡ None) × ((which : StandardPrefix) × (standard_in (slice_get s.tables.blocks k) ≡ Some which)))

    known_here : KnownHere
    unfolding base
    known_here = go (slice_get T.blocks k) refl
      where
        from_row : (row : BlockOf) → slice_get T.blocks k ≡ Some row → KnownIn row → KnownHere
        from_row row at (inl q) = inl (q.0, t.own_base_of s of order k other ∙ ap base_in at ∙ q.1)
        from_row row at (inr q) =
            inr (
              t.own_base_of s of order k other ∙ ap base_in at ∙ q.0,
              (q.1.0, (t.completed_tables s of order).standards k ∙ ap standard_in at ∙ q.1.1),
            )

        go : (o : Option BlockOf) → slice_get T.blocks k ≡ o → KnownHere
        go None at = absurd (let f : None ≡ Some (record declared_row.0 { base = None; standard = None }) = sym (ap bare_row at) ∙ (t.P s of order).blocks k ∙ ap bare_row declared_row.1 in cc)
        go (Some row) at =
            let same : record row { base = None; standard = None } ≡ record declared_row.0 { base = None; standard = None } = some_same (record row { base = None; standard = None }) (record declared_row.0 { base = None; standard = None }) (sym (ap bare_row at) ∙ (t.P s of order).blocks k ∙ ap bare_row declared_row.1) in
            let written : row.prefix ≡ (declared_row.0).prefix = ap (λ (z : BlockOf). z.prefix) same in
            from_row row at (known_base row at (declared_row.0).prefix written has_prefix)

    -- the block itself has no parameters
    no_parameters : formals_at s.tables (Some k) ≡ []
    no_parameters = go (formals_in (slice_get s.tables.blocks k)) refl
      where
        go : (ns : List DeclNo) → formals_in (slice_get s.tables.blocks k) ≡ ns → ns ≡ []
        go [] e = refl
        go (d ∷ ns) e =
            let at : slice_get (formals_in (slice_get s.tables.blocks k)) 0 ≡ Some d = ap (λ z. slice_get z 0) e in
            let formal = h.parameters_formal s of order k 0 d at in
            absurd (subst NoFormal formal.1 (none_of (numbers_of s k) d (h.no_formals s of order k (PrefixedText class es ds ss) (λ z. z) is) (h.formal_listed s of order k 0 d at)))
          where
            none_of : (xs : List DeclNo) (d : DeclNo) → NoFormals s xs → Among d xs → NoFormal (entry_of s.tables d)
            none_of (x ∷ xs) d n first = n.0
            none_of (x ∷ xs) d n (later a) = none_of xs d n.1 a
            none_of [] d n a = elim a [ ]

    -- it gives no level
    module _ (none : base s.tables k ≡ None) (p : StandardPrefix) (known : standard_in (slice_get s.tables.blocks k) ≡ Some p) where
      standard_denoted : prefix_in s.tables (slice_get s.tables.blocks k) ≡ Some (denotation.Standard (standard.Prefix p))
      standard_denoted = go (slice_get s.tables.blocks k) known
        where
          chosen : (q : Option StandardPrefix) (o : Option Denotation) → q ≡ Some p → (elim q [ None ↦ o | Some which ↦ Some (denotation.Standard (standard.Prefix which)) ]) ≡ Some (denotation.Standard (standard.Prefix p))
          chosen None o e = absurd (cc)
          chosen (Some which) o e = (let same : which ≡ p = cc in ap (λ z. Some (denotation.Standard (standard.Prefix z))) same)

          go : (o : Option BlockOf) → standard_in o ≡ Some p → prefix_in s.tables o ≡ Some (denotation.Standard (standard.Prefix p))
          go None e = absurd (cc)
          go (Some row) e = chosen row.standard (class_denoted (owner_of_level s.tables row.base)) e

      standard_prefixed : StandardPrefixed s k
      standard_prefixed = record { which = p; based = none; denoted = standard_denoted; parameters = formals_none s.tables k none no_parameters }

    -- or it is a class, which belongs to its declaration
    module _ (b : ℕ) (based : base s.tables k ≡ Some b) where
      owned : (d : DeclNo) × (owner_of_level s.tables (Some b) ≡ Some d)
      unfolding text
      owned = go (slice_get (program_texts s.program.prefix s.program.block) b) refl (t.connects s of order k b based)
        where
          of_class : OwnerIs (declared_by s.program) (owner_in (slice_get (declared_by s.program).tables.blocks b)) (entry.Class b) → (d : DeclNo) × (owner_of_level s.tables (Some b) ≡ Some d)
          of_class q = (q.0, h.owner_at s of order b q.0 (t.same_owner s of order b ∙ q.2))

          go : (o : Option Text) → slice_get (program_texts s.program.prefix s.program.block) b ≡ o → is_class o ≡ true → (d : DeclNo) × (owner_of_level s.tables (Some b) ≡ Some d)
          go None at e = absurd (cc)
          go (Some (BlockText i ds ss)) at e = absurd (cc)
          go (Some (ProcedureText result h a)) at e = absurd (cc)
          go (Some ConnectionText) at e = absurd (cc)
          go (Some (PrefixedText class es ds ss)) at e = absurd (cc)
          go (Some (ClassText prefix h ds ss)) at e = of_class (t.program_owned s.program of.unbroken b (ClassText prefix h ds ss) at)
          go (Some (StandardText which)) at e = of_class (t.program_owned s.program of.unbroken b (StandardText which) at)

      apart : standard_in (slice_get s.tables.blocks k) ≡ None
      apart = (t.completed_tables s of order).standards k ∙ (t.P s of order).apart k b (sym (t.own_base_of s of order k other) ∙ based)

      denoted : prefix_in s.tables (slice_get s.tables.blocks k) ≡ Some (denotation.Declared owned.0)
      unfolding base
      denoted = go (slice_get s.tables.blocks k) apart based
        where
          no_standard : (p : Option StandardPrefix) (o : Option Denotation) → p ≡ None → (elim p [ None ↦ o | Some which ↦ Some (denotation.Standard (standard.Prefix which)) ]) ≡ o
          no_standard None o e = refl
          no_standard (Some which) o e = absurd (cc)

          go : (o : Option BlockOf) → standard_in o ≡ None → base_in o ≡ Some b → prefix_in s.tables o ≡ Some (denotation.Declared owned.0)
          go None e f = absurd (cc)
          go (Some row) e f =
              no_standard row.standard (class_denoted (owner_of_level s.tables row.base)) e ∙ ap (λ o. class_denoted (owner_of_level s.tables o)) f ∙ ap class_denoted owned.1

      class_prefix : BlockPrefix s k
      unfolding class_formals
      class_prefix =
          let class = t.connects s of order k b based in record {
            declaration = owned.0;
            class = record { block = b; declares = c.owners s of order b owned.0 class owned.1; is = class; owned = owned.1 };
            based = based;
            denoted = denoted;
            parameters = ap (closing.formals_from s) (formals_same s.tables (length s.tables.blocks) k b (c.ends s of order k other) based no_parameters);
          }

    pub block_prefix : BlockPrefix s k ⊎ StandardPrefixed s k
    block_prefix = go known_here
      where
        go : KnownHere → BlockPrefix s k ⊎ StandardPrefixed s k
        go (inl q) = inl (class_prefix q.0 q.1)
        go (inr q) = inr (standard_prefixed q.0 q.1.0 q.1.1)

  -- nothing is around the program's block, so no class is its prefix
  none_first : (class : Identifier) (es : Expressions) (ds : Declarations) (ss : Statements) → text s 0 ≡ Some (PrefixedText class es ds ss) → base s.tables 0 ≡ None
  unfolding text encloser base
  none_first class es ds ss is = go (base s.tables 0) refl
    where
      outermost_row : (row : BlockOf) → slice_get (declared_by s.program).tables.blocks 0 ≡ Some row → row.encloser ≡ None
      outermost_row row at = sym (ap around at) ∙ sym (t.same_around s of order 0) ∙ t.outermost s of order

      no_home : (o : Option ℕ) (outer : ℕ) → o ≡ None → HomeFrom (declared_by s.program).tables o outer → ⊥
      no_home None outer e q = elim q [ ]
      no_home (Some u) outer e q = absurd (cc)

      from_prefix : (b : ℕ) → PrefixOf (declared_by s.program).tables s.tables 0 b ⊎ (base (declared_by s.program).tables 0 ≡ Some b) → ⊥
      from_prefix b (inl p) = no_home p.row.encloser p.outer (outermost_row p.row p.at) p.around
      from_prefix b (inr was) =
          let q = standard_base_of (declared_by s.program) (program_texts s.program.prefix s.program.block) [] (t.program_agrees s.program).fine 0 b was in
          let z : Some (PrefixedText class es ds ss) ≡ Some (StandardText q.2.which) = sym is ∙ q.2.text in cc

      go : (o : Option ℕ) → base s.tables 0 ≡ o → base s.tables 0 ≡ None
      go None e = e
      go (Some b) e = absurd (from_prefix b (t.prefix_is s of order 0 b (ap is_connection is) e))

  abbrev BlockFirst : Option Text → Type 0
  BlockFirst o = (i : ℕ) × (ds : Declarations) × (ss : Statements) × (o ≡ Some (BlockText i ds ss))

  abbrev PrefixedFirst : Option Text → Type 0
  PrefixedFirst o = (class : Identifier) × (es : Expressions) × (ds : Declarations) × (ss : Statements) × (o ≡ Some (PrefixedText class es ds ss))

  first_is : (prefix : Option Prefix) (b : Block) → BlockFirst (slice_get (program_texts prefix b) 0) ⊎ PrefixedFirst (slice_get (program_texts prefix b) 0)
  first_is None (Begin i ds ss end) = inl (i, ds, ss, refl)
  first_is (Some p) (Begin i ds ss end) = inr (p.class, p.arguments, ds, ss, refl)

  pub starts : Starts s
  unfolding text
  starts = go (first_is s.program.prefix s.program.block)
    where
      go : BlockFirst (text s 0) ⊎ PrefixedFirst (text s 0) → Starts s
      go (inl q) = as_block q.3
      go (inr q) =
          let none = none_first q.0 q.1 q.2 q.3 q.4 in
          as_prefixed q.4 none (formals_none s.tables 0 none (no_parameters 0 q.0 q.1 q.2 q.3 q.4))

-- What a connection connects: the class of the object that is inspected, or the class behind `when`, also as the complete tables have them.
use Rattle.std.proofs.Common.{◌≡◌, ◌<◌, ◌⊎◌, inl, inr, ℕ, zero, suc, Bool, true, false, List, [], ◌∷◌, ◌++◌, length, Option, Some, None, refl, sym, ap, ◌∙◌, subst, arith}
use Rattle.std.specs.Prelude.{nat_eq, slice_get, slice_set}
use Rattle.std.proofs.lemmas.Bool.Decides.{nat_tests}
use Rattle.std.proofs.lemmas.List.{length-set}
use Rattle.std.proofs.lemmas.Option.{slice_get_within}
use Rattle.sim_base.specs.declared.numbering.DeclNo.{DeclNo}
use Rattle.sim_tree.specs.declared.expr.Identifier.{Identifier}
use Rattle.sim_agree.specs.Order.{InOrder}
use Rattle.sim_tree.specs.Syntax.{Expression}
use Rattle.sim_scope.specs.declared.outcome.Extent.TheVariants.{Statement}
use Rattle.sim_scope.specs.declared.outcome.Side.{Side}
use Rattle.sim_scope.specs.declared.scopes.Declaration.{Declaration}
use Rattle.sim_scope.specs.declared.scopes.Denotation.{Denotation}
use Rattle.sim_scope.specs.declared.scopes.Denotation.TheVariants as denotation
use Rattle.sim_scope.specs.declared.types.BlockKind.TheVariants as kind
use Rattle.sim_scope.specs.declared.types.Entry.{Entry}
use Rattle.sim_scope.specs.declared.types.Entry.TheVariants as entry
use Rattle.sim_scope.specs.declared.types.SimType.{SimType}
use Rattle.sim_scope.specs.declared.types.SimType.TheVariants as ty
use Rattle.sim_scope.specs.Access.{around, block_at, encloser, is_connection as is_connection_kind, is_kind, is_so, joined, kind_in}
use Rattle.sim_scope.specs.Declare.{declared_by}
use Rattle.sim_scope.specs.Expressions.{judge_side}
use Rattle.sim_scope.specs.Judged.{Judged}
use Rattle.sim_scope.specs.Levels.{base, base_in, is_standard_class, standard_in}
use Rattle.sim_scope.specs.Runs.{run}
use Rattle.sim_scope.specs.Scopes.{binding, block_in, entry_in, entry_of}
use Rattle.sim_scope.specs.Source.{Source}
use Rattle.sim_scope.specs.Tables.{BlockOf, Tables, with_base_at}
use Rattle.sim_scope.specs.Walk.{program_events}
use Rattle.sim_scope.proofs.Kept.{kept_set, set_here, set_other}
use Rattle.prefix_bind.specs.Prefixes.{prefixed}
use Rattle.virtual_match.specs.Qualifying.{qualified}
use Rattle.inspect_types.specs.Connecting.{Connecting, ConnectingOf, Connects, Looks, Names, class_of_name, class_of_type, connected, connected_at, connecting, connections}
use Rattle.sim_static.specs.Check.{completed}
use Rattle.sim_meaning.specs.Attributes.{is_connection}
use Rattle.sim_meaning.specs.Texts.{text}
use Rattle.sim_agree.specs.Places.{PlacedExpression}
use Rattle.sim_agree.specs.TablesOf.{TablesOf}
use Rattle.sim_agree.proofs.Completing.{Completes, bare_row}
use Rattle.sim_agree.proofs.Prefixing.{references_prefixed}
use Rattle.sim_agree.proofs.Fitted.{AllConnect}
use Rattle.sim_agree.proofs.Headings as h
use Rattle.sim_agree.proofs.Insides as i
use Rattle.sim_agree.proofs.Openings.{AllOpened, Opened, program_opened}
use Rattle.sim_agree.proofs.Looking as walk
use Rattle.sim_agree.proofs.Looking.{LooksTo}
use Rattle.sim_agree.proofs.Settled as b
use Rattle.sim_agree.proofs.Settled.{Alike, Settled}
use Rattle.sim_agree.proofs.SettledJudged as j
use Rattle.sim_agree.proofs.Tables as t
use Rattle.sim_agree.proofs.ClassRows.{no_class_connection}

-- ---- steps change nothing but what a connection connects

record Grown (T U : Tables) : Type 0 where
  size : length U.blocks ≡ length T.blocks
  places : U.places ≡ T.places
  declarations : U.declarations ≡ T.declarations
  rows : (k : ℕ) → bare_row (slice_get U.blocks k) ≡ bare_row (slice_get T.blocks k)
  standards : (k : ℕ) → standard_in (slice_get U.blocks k) ≡ standard_in (slice_get T.blocks k)

step_grown : (T : Tables) (o next : Option ℕ) → Grown T (connected_at T o next)
unfolding with_base_at
step_grown T None next = record { size = refl; places = refl; declarations = refl; rows = λ k. refl; standards = λ k. refl }
step_grown T (Some k) next = go (slice_get T.blocks k) refl
  where
    go : (o : Option BlockOf) → slice_get T.blocks k ≡ o → Grown T (elim o [ None ↦ T | Some row ↦ record T { blocks = slice_set T.blocks k (record row { base = next }) } ])
    go None at = record { size = refl; places = refl; declarations = refl; rows = λ n. refl; standards = λ n. refl }
    go (Some row) at = record { size = length-set T.blocks k (record row { base = next }); places = refl; declarations = refl; rows = λ n. kept_set bare_row T.blocks k row (record row { base = next }) at refl n; standards = λ n. kept_set standard_in T.blocks k row (record row { base = next }) at refl n }

step_apart : (T : Tables) (o next : Option ℕ) (n : ℕ) → (o ≡ Some n → ⊥) → slice_get (connected_at T o next).blocks n ≡ slice_get T.blocks n
unfolding with_base_at
step_apart T None next n other = refl
step_apart T (Some k) next n other = go (slice_get T.blocks k) (nat_eq k n) refl
  where
    go : (o : Option BlockOf) (z : Bool) → nat_eq k n ≡ z → slice_get (elim o as (λ z. Tables) [ None ↦ T | Some row ↦ record T { blocks = slice_set T.blocks k (record row { base = next }) } ]).blocks n ≡ slice_get T.blocks n
    go None z e = refl
    go (Some row) false e = set_other T.blocks k n (record row { base = next }) e
    go (Some row) true e = absurd (other (let q : k ≡ n = grind (arith, nat_tests) in ap Some q))

step_base : (T : Tables) (next : Option ℕ) (k : ℕ) (row : BlockOf) → slice_get T.blocks k ≡ Some row → base_in (slice_get (connected_at T (Some k) next).blocks k) ≡ next
unfolding with_base_at
step_base T next k row at = go (slice_get T.blocks k) refl at
  where
    go : (o : Option BlockOf) → slice_get T.blocks k ≡ o → o ≡ Some row → base_in (slice_get (elim o as (λ z. Tables) [ None ↦ T | Some row ↦ record T { blocks = slice_set T.blocks k (record row { base = next }) } ]).blocks k) ≡ next
    go None e f = absurd (cc)
    go (Some x) e f = ap base_in (set_here T.blocks k x (record x { base = next }) e)

grown_more : (T U V : Tables) → Grown T U → Grown U V → Grown T V
grown_more T U V x y = record { size = y.size ∙ x.size; places = y.places ∙ x.places; declarations = y.declarations ∙ x.declarations; rows = λ k. y.rows k ∙ x.rows k; standards = λ k. y.standards k ∙ x.standards k }

grown_same : (T : Tables) → Grown T T
grown_same T = record { size = refl; places = refl; declarations = refl; rows = λ k. refl; standards = λ k. refl }

run_grown : (es : List Connecting) (c : ConnectingOf) → Grown c.tables (run connecting c es).tables
unfolding run connecting
run_grown [] c = grown_same c.tables
run_grown (Looks e ∷ es) c = run_grown es (connecting c (Looks e))
run_grown (Names x ∷ es) c = run_grown es (connecting c (Names x))
run_grown (Connects o ∷ es) c =
    grown_more c.tables (connected_at c.tables (block_at c.tables o) c.next) (run connecting (connecting c (Connects o)) es).tables (step_grown c.tables (block_at c.tables o) c.next) (run_grown es (connecting c (Connects o)))

-- none of these is this block
abbrev Apart : List (Option ℕ) → ℕ → List Connecting → Type 0
Apart places k [] = Unit {0}
Apart places k (Looks e ∷ es) = Apart places k es
Apart places k (Names x ∷ es) = Apart places k es
Apart places k (Connects o ∷ es) = (joined (slice_get places o) ≡ Some k → ⊥) × Apart places k es

run_apart : (es : List Connecting) (c : ConnectingOf) (k : ℕ) → Apart c.tables.places k es → slice_get (run connecting c es).tables.blocks k ≡ slice_get c.tables.blocks k
unfolding run connecting block_at
run_apart [] c k a = refl
run_apart (Looks e ∷ es) c k a = run_apart es (connecting c (Looks e)) k a
run_apart (Names x ∷ es) c k a = run_apart es (connecting c (Names x)) k a
run_apart (Connects o ∷ es) c k a =
    let g = step_grown c.tables (block_at c.tables o) c.next in
    run_apart es (connecting c (Connects o)) k (subst (λ z. Apart z k es) (sym g.places) a.1) ∙ step_apart c.tables (block_at c.tables o) c.next k a.0

run_both : (xs ys : List Connecting) (c : ConnectingOf) → run connecting c (xs ++ ys) ≡ run connecting (run connecting c xs) ys
unfolding run
run_both [] ys c = refl
run_both (x ∷ xs) ys c = run_both xs ys (connecting c x)

some_same : {A : Type 0} (a b : A) → Some a ≡ Some b → a ≡ b
some_same a b e = cc

row_within : {A : Type 0} (xs : List A) (k : ℕ) → k < length xs → (x : A) × (slice_get xs k ≡ Some x)
row_within [] k le = absurd (omega (arith, le))
row_within (x ∷ xs) zero le = (x, refl)
row_within (x ∷ xs) (suc k) le = row_within xs k (omega (arith, le))

-- what a block has but what it connects
kind_bare : (o : Option BlockOf) → kind_in (bare_row o) ≡ kind_in o
kind_bare None = refl
kind_bare (Some row) = refl

kind_same : (o q : Option BlockOf) → bare_row o ≡ bare_row q → kind_in o ≡ kind_in q
kind_same o q e = sym (kind_bare o) ∙ ap kind_in e ∙ kind_bare q

around_bare : (o : Option BlockOf) → around (bare_row o) ≡ around o
around_bare None = refl
around_bare (Some row) = refl

around_same : (o q : Option BlockOf) → bare_row o ≡ bare_row q → around o ≡ around q
around_same o q e = sym (around_bare o) ∙ ap around e ∙ around_bare q

module _ (s : Source) (of : TablesOf s) (order : InOrder s.program) where
  done : Completes (declared_by s.program).tables s.tables (t.IsClassText s.program)
  done = t.completes s of order

  -- the block that begins where a connection is opened
  number_there : (o n : ℕ) → (q : Opened (declared_by s.program).tables.blocks o) → joined (slice_get s.tables.places o) ≡ Some n → q.number ≡ n
  number_there o n q e =
      let first = t.first_place s.program order q.number q.row q.at (ap is_standard_class q.is) in
      let here : slice_get (declared_by s.program).tables.places o ≡ Some (Some q.number) = subst (λ z. slice_get (declared_by s.program).tables.places z ≡ Some (Some q.number)) q.begins first in
      some_same q.number n (sym (ap joined here) ∙ ap (λ (z : List (Option ℕ)). joined (slice_get z o)) (sym done.places) ∙ e)

  connection_text : (m : ℕ) (row : BlockOf) → slice_get (declared_by s.program).tables.blocks m ≡ Some row → row.kind ≡ kind.Connection → is_connection (text s m) ≡ true
  unfolding is_kind
  connection_text m row at c =
      sym (i.connections s of order m) ∙ ap (λ z. is_so is_connection_kind z) (kind_same (slice_get s.tables.blocks m) (slice_get (declared_by s.program).tables.blocks m) (done.blocks m) ∙ ap kind_in at) ∙ ap is_connection_kind c

  -- so a block that is no connection is none that is opened
  no_connection : (k : ℕ) → is_connection (text s k) ≡ false → (n : ℕ) → Opened (declared_by s.program).tables.blocks n → joined (slice_get s.tables.places n) ≡ Some k → ⊥
  no_connection k is n q e = absurd (let f : true ≡ false = sym (connection_text q.number q.row q.at q.is) ∙ ap (λ z. is_connection (text s z)) (number_there n k q e) ∙ is in cc)

  -- the block of a procedure or a class is no connection
  body_text : (d : DeclNo) (k : ℕ) → block_in (entry_of s.tables d) ≡ Some k → is_connection (text s k) ≡ false
  body_text d k e = go (entry_of s.tables d) refl e
    where
      go : (o : Option Entry) → entry_of s.tables d ≡ o → block_in o ≡ Some k → is_connection (text s k) ≡ false
      go (Some (entry.Procedure result n)) at f = let same : n ≡ k = some_same n k f in ap is_connection (h.procedures s of order d result k (at ∙ ap (λ z. Some (entry.Procedure result z)) same)).is
      go (Some (entry.Class n)) at f = let same : n ≡ k = some_same n k f in no_class_connection (text s k) (h.classes s of order d k (at ∙ ap (λ z. Some (entry.Class z)) same)).0.is
      go (Some (entry.Variable ty)) at f = absurd (cc)
      go (Some (entry.Constant ty)) at f = absurd (cc)
      go (Some (entry.Array ty n)) at f = absurd (cc)
      go (Some (entry.Virtual result own)) at f = absurd (cc)
      go (Some (entry.Formal x)) at f = absurd (cc)
      go (Some (entry.Unspecified w)) at f = absurd (cc)
      go (Some (entry.Attribute name given result)) at f = absurd (cc)
      go None at f = absurd (cc)

  body_apart : (k : ℕ) → is_connection (text s k) ≡ false → (es : List Connecting) → AllOpened es (declared_by s.program).tables.blocks → Apart s.tables.places k es
  body_apart k is [] a = tt
  body_apart k is (Connects o ∷ es) a = (no_connection k is o a.0, body_apart k is es a.1)
  body_apart k is (Looks e ∷ es) a = body_apart k is es a
  body_apart k is (Names x ∷ es) a = body_apart k is es a

  -- and none that has a lesser number
  low_apart : (k l m : ℕ) (last : Option ℕ) (es : List Connecting) → k < l → LooksTo s last l es m → Apart s.tables.places k es
  unfolding block_at
  low_apart k l m last [] lt looks = tt
  low_apart k l m last (Looks e ∷ es) lt looks = let le = looks.2 in low_apart k looks.1 m (Some looks.0) es (omega (arith, lt, le)) looks.5
  low_apart k l m last (Names x ∷ es) lt looks = let le = looks.2 in low_apart k looks.1 m (Some looks.0) es (omega (arith, lt, le)) looks.5
  low_apart k l m last (Connects o ∷ es) lt looks =
      let le = looks.1 in
      (λ e. (let equal : looks.0 ≡ k = some_same looks.0 k (sym looks.2 ∙ e) in omega (arith, lt, le, equal)), low_apart k (suc looks.0) m None es (omega (arith, lt, le)) looks.3)

  -- ---- the tables so far, and the complete ones

  module _ (c : ConnectingOf) (es : List Connecting) (is : s.tables ≡ (run connecting c es).tables) where
    grown : Grown c.tables s.tables
    grown = subst (λ z. Grown c.tables z) (sym is) (run_grown es c)

    -- a block that is connected nowhere behind is as it will be
    settled : (k : ℕ) → Apart s.tables.places k es → Settled c.tables s.tables k
    settled k apart = sym (ap (λ (z : Tables). slice_get z.blocks k) is ∙ run_apart es c k (subst (λ z. Apart z k es) grown.places apart))

    -- nothing stands in a connection
    stands_solid : (d : DeclNo) (row : Declaration) → slice_get c.tables.declarations d.0 ≡ Some row → is_connection (text s row.block) ≡ false
    stands_solid d row at = go (is_connection (text s row.block)) refl
      where
        go : (z : Bool) → is_connection (text s row.block) ≡ z → is_connection (text s row.block) ≡ false
        go false e = e
        go true e = absurd (t.nothing_stands_in_connections s of order row.block e d (row, ap (λ (ds : List Declaration). slice_get ds d.0) grown.declarations ∙ at, refl))

    -- what is numbered below the later connections is as it will be
    alike : (l m : ℕ) (last : Option ℕ) → AllOpened es (declared_by s.program).tables.blocks → LooksTo s last l es m → Alike c.tables s.tables (λ k. k < l)
    unfolding encloser base entry_of
    alike l m last opened looks = record {
      size = sym grown.size;
      places = sym grown.places;
      declarations = sym grown.declarations;
      kinds = λ k. kind_same (slice_get c.tables.blocks k) (slice_get s.tables.blocks k) (sym (grown.rows k));
      rows = λ k. sym (grown.rows k);
      solid = λ k other. settled k (body_apart k (sym (i.connections s of order k) ∙ other) es opened);
      here = λ k lt. settled k (low_apart k l m last es lt looks);
      outward = λ k n lt e. (let inner = t.nesting s of order k n (around_same (slice_get s.tables.blocks k) (slice_get c.tables.blocks k) (grown.rows k) ∙ e) in let z : n < l = omega (arith, lt, inner) in z);
      levels = λ k n e f. (let q = t.connects s of order k n (sym (ap base_in e) ∙ f) in settled n (body_apart n (no_class_connection (text s n) q) es opened));
      bodies = λ d k e. settled k (body_apart k (body_text d k (ap (λ (ds : List Declaration). block_in (entry_in (slice_get ds d.0))) grown.declarations ∙ e)) es opened);
      standards = λ k. sym (grown.standards k);
      stand = λ d row at. settled row.block (body_apart row.block (stands_solid d row at) es opened);
    }

    class_type_same : (l m : ℕ) (last : Option ℕ) → AllOpened es (declared_by s.program).tables.blocks → LooksTo s last l es m → (x : Option SimType) → class_of_type c.tables x ≡ class_of_type s.tables x
    class_type_same l m last opened looks None = refl
    class_type_same l m last opened looks (Some (ty.Ref class)) = b.class_same c.tables s.tables (λ k. k < l) (alike l m last opened looks) class
    class_type_same l m last opened looks (Some ty.Integer) = refl
    class_type_same l m last opened looks (Some ty.Boolean) = refl
    class_type_same l m last opened looks (Some ty.Character) = refl
    class_type_same l m last opened looks (Some ty.Text) = refl
    class_type_same l m last opened looks (Some ty.NoneType) = refl

    class_name_same : (l m : ℕ) (last : Option ℕ) → AllOpened es (declared_by s.program).tables.blocks → LooksTo s last l es m → (x : Option Denotation) → class_of_name c.tables x ≡ class_of_name s.tables x
    class_name_same l m last opened looks None = refl
    class_name_same l m last opened looks (Some (denotation.Declared d)) = b.class_same c.tables s.tables (λ k. k < l) (alike l m last opened looks) d
    class_name_same l m last opened looks (Some (denotation.Standard name)) = refl

    -- the class of an object that is inspected in front of them
    looked : (e : Expression) (k l m : ℕ) (last : Option ℕ) → k < l → PlacedExpression s.tables k e → AllOpened es (declared_by s.program).tables.blocks → LooksTo s last l es m
        → class_of_type c.tables (judge_side c.tables Statement e).value.ty ≡ class_of_type s.tables (judge_side s.tables Statement e).value.ty
    looked e k l m last lt placed opened looks =
        ap (λ (z : Judged Side). class_of_type c.tables z.value.ty) (j.judged_same c.tables s.tables (λ k. k < l) (alike l m last opened looks) k lt e placed)
        ∙ class_type_same l m last opened looks (judge_side s.tables Statement e).value.ty

    -- and the class that is named there
    met : (x : Identifier) (k l m : ℕ) (last : Option ℕ) → k < l → block_at s.tables x.token.0 ≡ Some k → AllOpened es (declared_by s.program).tables.blocks → LooksTo s last l es m
        → class_of_name c.tables (binding c.tables x.token.0 x.name) ≡ class_of_name s.tables (binding s.tables x.token.0 x.name)
    met x k l m last lt placed opened looks =
        ap (λ z. class_of_name c.tables z) (b.binding_same c.tables s.tables (λ k. k < l) (alike l m last opened looks) x.token.0 x.name stands)
        ∙ class_name_same l m last opened looks (binding s.tables x.token.0 x.name)
      where
        stands : b.Stands c.tables s.tables (λ k. k < l) (alike l m last opened looks) x.token.0
        stands = record { block = k; at = b.place_same c.tables s.tables (λ k. k < l) (alike l m last opened looks) x.token.0 ∙ placed; there = lt }

  -- a connection connects what was met last
  connects_last : (c : ConnectingOf) (es : List Connecting) (o : ℕ) → s.tables ≡ (run connecting (connecting c (Connects o)) es).tables → Grown c.tables s.tables → Opened (declared_by s.program).tables.blocks o → (n m : ℕ) → joined (slice_get s.tables.places o) ≡ Some n
      → LooksTo s None (suc n) es m → base s.tables n ≡ c.next
  unfolding base connecting block_at
  connects_last c es o is g q n m at looks =
      ap base_in (sym (settled (connecting c (Connects o)) es is n (low_apart n (suc n) m None es (let z : n < suc n = omega arith in z) looks)))
      ∙ ap (λ z. base_in (slice_get (connected_at c.tables z c.next).blocks n)) (ap (λ (z : List (Option ℕ)). joined (slice_get z o)) (sym g.places) ∙ at)
      ∙ step_base c.tables c.next n row.0 row.1
    where
      row_then : slice_get (declared_by s.program).tables.blocks n ≡ Some q.row
      row_then = subst (λ z. slice_get (declared_by s.program).tables.blocks z ≡ Some q.row) (number_there o n q at) q.at

      row : (x : BlockOf) × (slice_get c.tables.blocks n ≡ Some x)
      row =
          let lt = slice_get_within (declared_by s.program).tables.blocks n q.row row_then in
          let size : length s.tables.blocks ≡ length (declared_by s.program).tables.blocks = done.size in
          let here : length s.tables.blocks ≡ length c.tables.blocks = g.size in
          row_within c.tables.blocks n (let z : n < length c.tables.blocks = omega (arith, lt, size, here) in z)

  all_connect : (es : List Connecting) (c : ConnectingOf) (next : Option ℕ) (n m : ℕ) (last : Option ℕ) → s.tables ≡ (run connecting c es).tables → AllOpened es (declared_by s.program).tables.blocks → c.next ≡ next → LooksTo s last n es m → AllConnect s next es
  unfolding run connecting block_at
  all_connect [] c next n m last is opened same looks = tt
  all_connect (Looks e ∷ es) c next n m last is opened same looks =
      all_connect es (connecting c (Looks e)) (class_of_type s.tables (judge_side s.tables Statement e).value.ty) looks.1 m (Some looks.0) is opened (looked (connecting c (Looks e)) es is e looks.0 looks.1 m (Some looks.0) looks.3 looks.4 opened looks.5) looks.5
  all_connect (Names x ∷ es) c next n m last is opened same looks =
      all_connect es (connecting c (Names x)) (class_of_name s.tables (binding s.tables x.token.0 x.name)) looks.1 m (Some looks.0) is opened (met (connecting c (Names x)) es is x looks.0 looks.1 m (Some looks.0) looks.3 looks.4 opened looks.5) looks.5
  all_connect (Connects o ∷ es) c next n m last is opened same looks = (
    λ k at. (let equal : looks.0 ≡ k = some_same looks.0 k (sym looks.2 ∙ at) in
        subst (λ z. base s.tables z ≡ next) equal (connects_last c es o is (grown c (Connects o ∷ es) is) opened.0 looks.0 m looks.2 looks.3 ∙ same)),
    all_connect es (connecting c (Connects o)) next (suc looks.0) m None is opened.1 same looks.3,
  )

-- each connection of an allowed program connects what is met last in front of it
pub connections_connect : (s : Source) → TablesOf s → InOrder s.program → AllConnect s None (program_events connections s.program)
unfolding completed connected
connections_connect s of order =
    let l = walk.looks s of order in
    all_connect s of order (program_events connections s.program) (record { tables = qualified (prefixed (declared_by s.program).tables); next = None }) None 0 l.0 None of.tables (program_opened s.program) refl l.1

-- ---- what holds of all that is met holds of what is connected

-- of each object that is inspected, and of each class behind `when`
abbrev pub AllMet : Source → (Option ℕ → Type 0) → List Connecting → Type 0
AllMet s P [] = Unit {0}
AllMet s P (Looks e ∷ es) = P (class_of_type s.tables (judge_side s.tables Statement e).value.ty) × AllMet s P es
AllMet s P (Names x ∷ es) = P (class_of_name s.tables (binding s.tables x.token.0 x.name)) × AllMet s P es
AllMet s P (Connects i ∷ es) = AllMet s P es

-- a block is opened nowhere in the list, or it connects what was met there
met_or_apart : (s : Source) (P : Option ℕ → Type 0) (k c : ℕ) → base s.tables k ≡ Some c → (es : List Connecting) (n : Option ℕ) → P n → AllConnect s n es → AllMet s P es → Apart s.tables.places k es ⊎ P (Some c)
unfolding block_at
met_or_apart s P k c e [] n p connect met = inl tt
met_or_apart s P k c e (Looks x ∷ es) n p connect met = met_or_apart s P k c e es (class_of_type s.tables (judge_side s.tables Statement x).value.ty) met.0 connect met.1
met_or_apart s P k c e (Names x ∷ es) n p connect met = met_or_apart s P k c e es (class_of_name s.tables (binding s.tables x.token.0 x.name)) met.0 connect met.1
met_or_apart s P k c e (Connects i ∷ es) n p connect met = go (joined (slice_get s.tables.places i)) refl (met_or_apart s P k c e es n p connect.1 met)
  where
    behind : (joined (slice_get s.tables.places i) ≡ Some k → ⊥) → Apart s.tables.places k es ⊎ P (Some c) → ((joined (slice_get s.tables.places i) ≡ Some k → ⊥) × Apart s.tables.places k es) ⊎ P (Some c)
    behind other (inl a) = inl (other, a)
    behind other (inr q) = inr q

    at_number : (m : ℕ) (z : Bool) → nat_eq m k ≡ z → joined (slice_get s.tables.places i) ≡ Some m → Apart s.tables.places k es ⊎ P (Some c) → ((joined (slice_get s.tables.places i) ≡ Some k → ⊥) × Apart s.tables.places k es) ⊎ P (Some c)
    at_number m true z at rest =
        let same : m ≡ k = grind (arith, nat_tests, z) in
        inr (subst P (sym (connect.0 k (at ∙ ap Some same)) ∙ e) p)
    at_number m false z at rest = behind (λ f. (let same : m ≡ k = some_same m k (sym at ∙ f) in absurd (grind (arith, nat_tests, z, same)))) rest

    go : (o : Option ℕ) → joined (slice_get s.tables.places i) ≡ o → Apart s.tables.places k es ⊎ P (Some c) → ((joined (slice_get s.tables.places i) ≡ Some k → ⊥) × Apart s.tables.places k es) ⊎ P (Some c)
    go None at rest = behind (λ f. absurd (let g : None ≡ Some k = sym at ∙ f in cc)) rest
    go (Some m) at rest = at_number m (nat_eq m k) refl at rest

-- nothing is connected at first
none_first : (s : Source) (of : TablesOf s) (order : InOrder s.program) → (k : ℕ) → is_connection (text s k) ≡ true → base_in (slice_get (qualified (prefixed (declared_by s.program).tables)).blocks k) ≡ None
unfolding base
none_first s of order k is =
    ap (λ (z : List BlockOf). base_in (slice_get z k)) (references_prefixed (declared_by s.program).tables (t.P s of order) (t.all_references (declared_by s.program).tables (declared_by s.program).tables.qualifications (t.program_clean s.program of.unbroken).refs)).blocks
    ∙ go (base (prefixed (declared_by s.program).tables) k) refl
  where
    go : (o : Option ℕ) → base (prefixed (declared_by s.program).tables) k ≡ o → o ≡ None
    go None e = refl
    go (Some b) e = absurd (let q : true ≡ false = sym is ∙ t.next_there s of order k b ((t.P s of order).bases k b e) in cc)

pub connects_met : (s : Source) (of : TablesOf s) (order : InOrder s.program) (P : Option ℕ → Type 0) → P None → AllMet s P (program_events connections s.program) → (k c : ℕ) → is_connection (text s k) ≡ true → base s.tables k ≡ Some c → P (Some c)
unfolding completed connected base
connects_met s of order P p met k c is e = go (met_or_apart s P k c e (program_events connections s.program) None p (connections_connect s of order) met)
  where
    go : Apart s.tables.places k (program_events connections s.program) ⊎ P (Some c) → P (Some c)
    go (inr q) = q
    go (inl apart) =
        absurd (let same = settled s of order (record { tables = qualified (prefixed (declared_by s.program).tables); next = None }) (program_events connections s.program) of.tables k apart in
        let f : None ≡ Some c = sym (none_first s of order k is) ∙ ap base_in same ∙ e in cc)

-- ---- where a connection stands

-- A connection stands in the block in which the object stands that is inspected, or the class behind `when`, and connects that class.
pub data MetAt (s : Source) (k : ℕ) : Type 0 where
  looked_at : (u : ℕ) (e : Expression) → encloser s.tables k ≡ Some u → PlacedExpression s.tables u e → base s.tables k ≡ class_of_type s.tables (judge_side s.tables Statement e).value.ty → MetAt s k
  named_at : (u : ℕ) (x : Identifier) → encloser s.tables k ≡ Some u → block_at s.tables x.token.0 ≡ Some u → base s.tables k ≡ class_of_name s.tables (binding s.tables x.token.0 x.name) → MetAt s k

-- what was met last stands in a block, and is of this class
abbrev LastMet : Source → (last : Option ℕ) → (next : Option ℕ) → Type 0
LastMet s None next = Unit {0}
LastMet s (Some u) next = (k : ℕ) → encloser s.tables k ≡ Some u → base s.tables k ≡ next → MetAt s k

met_at : (s : Source) (k : ℕ) (es : List Connecting) (last next : Option ℕ) (n m : ℕ) → LastMet s last next → AllConnect s next es → LooksTo s last n es m → Apart s.tables.places k es ⊎ MetAt s k
unfolding block_at
met_at s k [] last next n m was connect looks = inl tt
met_at s k (Looks e ∷ es) last next n m was connect looks =
    met_at s k es (Some looks.0) (class_of_type s.tables (judge_side s.tables Statement e).value.ty) looks.1 m (λ j out is. looked_at looks.0 e out looks.4 is) connect looks.5
met_at s k (Names x ∷ es) last next n m was connect looks =
    met_at s k es (Some looks.0) (class_of_name s.tables (binding s.tables x.token.0 x.name)) looks.1 m (λ j out is. named_at looks.0 x out looks.4 is) connect looks.5
met_at s k (Connects i ∷ es) last next n m was connect looks = go (nat_eq looks.0 k) refl (met_at s k es None next (suc looks.0) m tt connect.1 looks.3)
  where
    here : looks.0 ≡ k → MetAt s k
    here same =
        let out : encloser s.tables k ≡ Some looks.4.0 = subst (λ z. encloser s.tables z ≡ Some looks.4.0) same looks.4.2 in
        subst (λ o. LastMet s o next) looks.4.1 was k out (connect.0 k (looks.2 ∙ ap Some same))

    behind : (joined (slice_get s.tables.places i) ≡ Some k → ⊥) → Apart s.tables.places k es ⊎ MetAt s k → ((joined (slice_get s.tables.places i) ≡ Some k → ⊥) × Apart s.tables.places k es) ⊎ MetAt s k
    behind other (inl a) = inl (other, a)
    behind other (inr q) = inr q

    go : (z : Bool) → nat_eq looks.0 k ≡ z → Apart s.tables.places k es ⊎ MetAt s k → ((joined (slice_get s.tables.places i) ≡ Some k → ⊥) × Apart s.tables.places k es) ⊎ MetAt s k
    go true z rest = inr (here (let same : looks.0 ≡ k = grind (arith, nat_tests, z) in same))
    go false z rest = behind (λ f. (let same : looks.0 ≡ k = some_same looks.0 k (sym looks.2 ∙ f) in absurd (grind (arith, nat_tests, z, same)))) rest

pub connection_met : (s : Source) (of : TablesOf s) (order : InOrder s.program) → (k c : ℕ) → is_connection (text s k) ≡ true → base s.tables k ≡ Some c → MetAt s k
unfolding completed connected base
connection_met s of order k c is e =
    let l = walk.looks s of order in
    go (met_at s k (program_events connections s.program) None None 0 l.0 tt (connections_connect s of order) l.1)
  where
    go : Apart s.tables.places k (program_events connections s.program) ⊎ MetAt s k → MetAt s k
    go (inr q) = q
    go (inl apart) =
        absurd (let same = settled s of order (record { tables = qualified (prefixed (declared_by s.program).tables); next = None }) (program_events connections s.program) of.tables k apart in
        let f : None ≡ Some c = sym (none_first s of order k is) ∙ ap base_in same ∙ e in cc)

-- Which tokens stand in which blocks of an allowed program, and which texts last.
use Rattle.std.proofs.Common.{◌≡◌, ◌<◌, ◌≤◌, ◌⊎◌, inl, inr, ℕ, zero, suc, Bool, true, false, List, [], ◌∷◌, length, Option, Some, None, refl, sym, ap, ◌∙◌, subst, arith}
use Rattle.std.specs.Prelude.{◌&&◌, ◌||◌, nat_le, nat_lt, not, slice_get}
use Rattle.std.specs.List.{list_any}
use Rattle.std.proofs.lemmas.Bool.Decides.{nat_tests}
use Rattle.std.proofs.lemmas.Option.{slice_get_within}
use Rattle.sim_agree.specs.Order.{InOrder}
use Rattle.sim_scope.specs.declared.types.BlockKind.{BlockKind}
use Rattle.sim_scope.specs.declared.types.BlockKind.TheVariants as kind
use Rattle.sim_scope.specs.declared.types.StandardClass.{StandardClass}
use Rattle.sim_scope.specs.declared.types.StandardPrefix.{StandardPrefix}
use Rattle.prefix_bind.specs.Prefixes.{is_prefixed_block}
use Rattle.sim_scope.specs.Access.{around, block_at, encloser, has_text_of_levels, is_connection as is_connection_kind, is_kind, is_so, joined, kind_in}
use Rattle.sim_scope.specs.Calls.{inside_block, is_inside}
use Rattle.sim_scope.specs.Declare.{declared_by}
use Rattle.sim_scope.specs.Levels.{is_standard_class}
use Rattle.sim_scope.specs.Source.{Source}
use Rattle.sim_scope.specs.Tables.{BlockOf, Tables}
use Rattle.sim_meaning.specs.Attributes.{is_connection}
use Rattle.sim_meaning.specs.Texts.{BlockText, ClassText, ConnectionText, PrefixedText, ProcedureText, StandardText, Text, has_class_in, is_class_free, is_class_kind, text}
use Rattle.sim_sound.specs.Held.{Around, further, itself}
use Rattle.sim_agree.specs.TablesOf.{TablesOf}
use Rattle.sim_agree.proofs.ClassRows.{levels_of_kind}
use Rattle.sim_agree.proofs.Depth.{Chain, Deep, IsOpen, beyond, program_deep, same}
use Rattle.sim_agree.specs.TablesAgree.{is_prefixed_text}
use Rattle.sim_agree.proofs.Fine.{KindIs, first_or_none, standard_first}
use Rattle.sim_agree.proofs.Completing.{has_base}
use Rattle.sim_agree.proofs.Groups.{PlainKind}
use Rattle.sim_agree.proofs.StandardPrefixes.{InFront}
use Rattle.sim_agree.proofs.StandardBlocks.{standard_text}
use Rattle.sim_agree.proofs.Laid.{program_held}
use Rattle.sim_agree.proofs.Spots.{Final}
use Rattle.sim_agree.proofs.Tables as t
use Rattle.sim_agree.proofs.Tables.{program_final}
use Rattle.sim_meaning.specs.Levels.{has_levels}

-- ---- tests

low_high : (f e token : ℕ) → (nat_le f token && nat_lt token e) ≡ true → (f ≤ token) × (token < e)
low_high f e token h = both (nat_le f token) (nat_lt token e) refl refl h
  where
    both : (a b : Bool) → nat_le f token ≡ a → nat_lt token e ≡ b → (a && b) ≡ true → (f ≤ token) × (token < e)
    both true true p q h = ((let P : f ≤ token = grind (arith, nat_tests) in P), (let P : token < e = grind (arith, nat_tests) in P))
    both true false p q h = absurd (cc)
    both false b p q h = absurd (cc)

between : (f e token : ℕ) → f ≤ token → token < e → (nat_le f token && nat_lt token e) ≡ true
between f e token a b = go (nat_le f token) (nat_lt token e) refl refl
  where
    go : (x y : Bool) → nat_le f token ≡ x → nat_lt token e ≡ y → (x && y) ≡ true
    go true true p q = refl
    go false y p q = absurd (let P : nat_le f token ≡ true = grind (arith, nat_tests) in let Q : false ≡ true = sym p ∙ P in cc)
    go true false p q = absurd (let P : nat_lt token e ≡ true = grind (arith, nat_tests) in let Q : false ≡ true = sym q ∙ P in cc)

any_at : {A : Type 0} (f : A → Bool) (xs : List A) (n : ℕ) (x : A) → slice_get xs n ≡ Some x → f x ≡ true → list_any f xs ≡ true
any_at f [] n x at h = absurd (cc)
any_at {A = A} f (y ∷ ys) zero x at h = go (f y) (ap f (some_same y x at) ∙ h)
  where
    some_same : (a b : A) → Some a ≡ Some b → a ≡ b
    some_same a b e = cc

    go : (c : Bool) → c ≡ true → (c || list_any f ys) ≡ true
    go true e = refl
    go false e = absurd (cc)
any_at f (y ∷ ys) (suc n) x at h = go (f y) (any_at f ys n x at h)
  where
    go : (c : Bool) → list_any f ys ≡ true → (c || list_any f ys) ≡ true
    go true e = refl
    go false e = e

some_at : {A : Type 0} (f : A → Bool) (xs : List A) → list_any f xs ≡ true → (n : ℕ) × ((x : A) × (slice_get xs n ≡ Some x) × (f x ≡ true))
some_at f [] h = absurd (cc)
some_at {A = A} f (y ∷ ys) h = go (f y) refl h (λ g. some_at f ys g)
  where
    go : (c : Bool) → f y ≡ c → (c || list_any f ys) ≡ true → (list_any f ys ≡ true → (n : ℕ) × ((x : A) × (slice_get ys n ≡ Some x) × (f x ≡ true))) → (n : ℕ) × ((x : A) × (slice_get (y ∷ ys) n ≡ Some x) × (f x ≡ true))
    go true e g later = (0, (y, refl, e))
    go false e g later = let q = later g in (suc q.0, q.1)

module _ (s : Source) (of : TablesOf s) (order : InOrder s.program) where
  D : Tables
  D = (declared_by s.program).tables

  deep : Deep (declared_by s.program) (program_deep s.program order).0
  deep = (program_deep s.program order).1

  final : Final (declared_by s.program) (program_held s.program.prefix s.program.block)
  final = program_final s.program order

  none_open : (j : ℕ) → IsOpen (declared_by s.program) j → ⊥
  none_open j q = let e : None ≡ Some q.0 = sym final.laid.stack ∙ q.1 in cc

  same_places : s.tables.places ≡ (declared_by s.program).tables.places
  same_places = (t.completed_tables s of order).places

  chain_around : {k j : ℕ} → Chain (declared_by s.program).tables.blocks k j → Around s.tables k j
  unfolding encloser
  chain_around same = itself
  chain_around (beyond {k = k} e c) = further (t.same_around s of order k ∙ e) (chain_around c)

  -- a block whose text has a token is around the innermost block of that token
  chain_to : (i k j : ℕ) (row : BlockOf) → slice_get (declared_by s.program).tables.places i ≡ Some (Some k) → slice_get (declared_by s.program).tables.blocks j ≡ Some row → row.first ≤ i → i < row.end → Chain (declared_by s.program).tables.blocks k j
  chain_to i k j row p at a b = deep.deep i k j row p at a (inr b)

  -- and the token of a place is in all blocks around it
  within : (i k j : ℕ) (row : BlockOf) → slice_get (declared_by s.program).tables.places i ≡ Some (Some k) → slice_get (declared_by s.program).tables.blocks j ≡ Some row → Chain (declared_by s.program).tables.blocks k j → (row.first ≤ i) × (i < row.end)
  within i k j row p at c = go (deep.holds i k j row p at c)
    where
      go : (row.first ≤ i) × (IsOpen (declared_by s.program) j ⊎ (i < row.end)) → (row.first ≤ i) × (i < row.end)
      go (a, inl q) = absurd (none_open j q)
      go (a, inr b) = (a, b)

  first_of : (k : ℕ) (row : BlockOf) → slice_get (declared_by s.program).tables.blocks k ≡ Some row → is_standard_class row.kind ≡ false → slice_get (declared_by s.program).tables.places row.first ≡ Some (Some k)
  first_of k row at other = t.first_place s.program order k row at other

  pub inside : (token k j : ℕ) → block_at s.tables token ≡ Some k → is_inside s.tables token j ≡ true → Around s.tables k j
  unfolding block_at is_inside
  inside token k j at has = go (slice_get (declared_by s.program).tables.places token) refl (sym (ap (λ z. joined (slice_get z token)) same_places) ∙ at) (slice_get s.tables.blocks j) refl has
    where
      go : (o : Option (Option ℕ)) → slice_get (declared_by s.program).tables.places token ≡ o → joined o ≡ Some k → (r : Option BlockOf) → slice_get s.tables.blocks j ≡ r → inside_block token r ≡ true → Around s.tables k j
      go None e f r g h = absurd (cc)
      go (Some None) e f r g h = absurd (cc)
      go (Some (Some m)) e f None g h = absurd (cc)
      go (Some (Some m)) e f (Some row) g h =
          let w = t.row_was s of order j row g in
          let q = low_high row.first row.end token h in
          let x : row.first ≡ w.0.first = ap (λ (z : BlockOf). z.first) w.2 in
          let y : row.end ≡ w.0.end = ap (λ (z : BlockOf). z.end) w.2 in
          let lo : row.first ≤ token = q.0 in
          let hi : token < row.end = q.1 in
          chain_around (chain_to token k j w.0 (e ∙ ap Some f) w.1 (omega (arith, lo, x)) (omega (arith, hi, y)))

  -- ---- which texts last

  -- a class stands in a block
  record Lasts (k : ℕ) : Type 0 where
    row : BlockOf
    at : slice_get s.tables.blocks k ≡ Some row
    class : ℕ
    inner : BlockOf
    there : slice_get s.tables.blocks class ≡ Some inner
    is : is_class_kind inner.kind ≡ true
    low : row.first ≤ inner.first
    high : inner.first < row.end

  lasts : (k : ℕ) → Lasts k → is_class_free s k ≡ false
  unfolding is_class_free
  lasts k l =
      ap not (ap (λ o. has_class_in o s.tables.blocks) l.at
      ∙ or_last (is_class_kind l.row.kind) _ (any_at (λ c. is_class_kind c.kind && nat_le l.row.first c.first && nat_lt c.first l.row.end) s.tables.blocks l.class l.inner l.there (go (is_class_kind l.inner.kind) l.is)))
    where
      or_last : (a c : Bool) → c ≡ true → (a || c) ≡ true
      or_last true c e = refl
      or_last false c e = e

      test : (nat_le l.row.first l.inner.first && nat_lt l.inner.first l.row.end) ≡ true
      test = between l.row.first l.row.end l.inner.first l.low l.high

      go : (c : Bool) → c ≡ true → (c && nat_le l.row.first l.inner.first && nat_lt l.inner.first l.row.end) ≡ true
      go true e = test
      go false e = absurd (cc)

  -- a block lasts that is a class or has a prefix, or has one inside
  lasting : (k : ℕ) → is_class_free s k ≡ false → ((row : BlockOf) × (slice_get s.tables.blocks k ≡ Some row) × (is_class_kind row.kind ≡ true)) ⊎ Lasts k
  unfolding is_class_free
  lasting k h = go (slice_get s.tables.blocks k) refl h
    where
      go : (o : Option BlockOf) → slice_get s.tables.blocks k ≡ o → not (has_class_in o s.tables.blocks) ≡ false → ((row : BlockOf) × (o ≡ Some row) × (is_class_kind row.kind ≡ true)) ⊎ Lasts k
      go None at g = absurd (cc)
      go (Some row) at g = own (is_class_kind row.kind) refl (yes (has_class_in (Some row) s.tables.blocks) g)
        where
          yes : (c : Bool) → not c ≡ false → c ≡ true
          yes true e = refl
          yes false e = absurd (cc)

          parts : (a b : Bool) → (a && b) ≡ true → (a ≡ true) × (b ≡ true)
          parts true true e = (refl, refl)
          parts true false e = absurd (cc)
          parts false b e = absurd (cc)

          inside_it : list_any (λ c. is_class_kind c.kind && nat_le row.first c.first && nat_lt c.first row.end) s.tables.blocks ≡ true → Lasts k
          inside_it e =
              let q = some_at (λ c. is_class_kind c.kind && nat_le row.first c.first && nat_lt c.first row.end) s.tables.blocks e in
              let p = parts (is_class_kind q.1.0.kind && nat_le row.first q.1.0.first) (nat_lt q.1.0.first row.end) q.1.2 in
              let o = parts (is_class_kind q.1.0.kind) (nat_le row.first q.1.0.first) p.0 in
              let r = low_high row.first row.end q.1.0.first (ap (λ z. z && nat_lt q.1.0.first row.end) o.1 ∙ p.1) in
              record { row = row; at = at; class = q.0; inner = q.1.0; there = q.1.1; is = o.0; low = r.0; high = r.1 }

          own : (c : Bool) → is_class_kind row.kind ≡ c → (c || list_any (λ d. is_class_kind d.kind && nat_le row.first d.first && nat_lt d.first row.end) s.tables.blocks) ≡ true
              → ((found : BlockOf) × (Some row ≡ Some found) × (is_class_kind found.kind ≡ true)) ⊎ Lasts k
          own true e f = inl (row, refl, e)
          own false e f = inr (inside_it f)

  -- a class and a block with a prefix last
  of_class_kind : (row : BlockOf) (o : Option Text) → KindIs (Some row) o → has_levels o ≡ true → is_class_kind row.kind ≡ true
  of_class_kind row None q e = absurd q
  of_class_kind row (Some (BlockText i ds ss)) q e = absurd (cc)
  of_class_kind row (Some (ProcedureText result h a)) q e = absurd (cc)
  of_class_kind row (Some (ClassText prefix h ds ss)) q e = ap is_class_kind q
  of_class_kind row (Some ConnectionText) q e = absurd (cc)
  of_class_kind row (Some (PrefixedText class es ds ss)) q e = ap is_class_kind q
  of_class_kind row (Some (StandardText which)) q e = ap is_class_kind q

  pub stays : (k : ℕ) → has_levels (text s k) ≡ true → is_class_free s k ≡ false
  unfolding text is_class_free
  stays k levels = go (slice_get s.tables.blocks k) refl (t.kind_at s of order k)
    where
      nothing : (o : Option Text) → KindIs None o → has_levels o ≡ true → ⊥
      nothing None q e = cc
      nothing (Some x) q e = q

      go : (o : Option BlockOf) → slice_get s.tables.blocks k ≡ o → KindIs o (slice_get (t.Ts s of order) k) → not (has_class_in (slice_get s.tables.blocks k) s.tables.blocks) ≡ false
      go None at q = absurd (nothing (slice_get (t.Ts s of order) k) q levels)
      go (Some row) at q =
          ap (λ o. not (has_class_in o s.tables.blocks)) at
          ∙ ap (λ z. not (z || list_any (λ c. is_class_kind c.kind && nat_le row.first c.first && nat_lt c.first row.end) s.tables.blocks)) (of_class_kind row (slice_get (t.Ts s of order) k) q levels)

  -- what is no text with levels is no standard class
  no_standard : (row : BlockOf) (o : Option Text) → KindIs (Some row) o → has_levels o ≡ false → is_standard_class row.kind ≡ false
  no_standard row None q e = absurd q
  no_standard row (Some (BlockText i ds ss)) q e = go row.kind q
    where
      go : (k : BlockKind) → PlainKind k → is_standard_class k ≡ false
      go kind.Program q = refl
      go kind.SubBlock q = refl
      go kind.Procedure q = absurd q
      go kind.Class q = absurd q
      go kind.Prefixed q = absurd q
      go kind.Connection q = absurd q
      go (kind.StandardClass which) q = absurd q
  no_standard row (Some (ProcedureText result h a)) q e = ap is_standard_class q
  no_standard row (Some (ClassText prefix h ds ss)) q e = absurd (cc)
  no_standard row (Some ConnectionText) q e = ap is_standard_class q
  no_standard row (Some (PrefixedText class es ds ss)) q e = absurd (cc)
  no_standard row (Some (StandardText which)) q e = absurd (cc)

  -- a standard class has no text
  set_first : (k : ℕ) (row : BlockOf) → slice_get s.tables.blocks k ≡ Some row → is_standard_class row.kind ≡ true → row.first ≡ 0
  set_first k row at is =
      let w = t.row_was s of order k row at in
      ap (λ (z : BlockOf). z.first) w.2 ∙ of_kind w.0.kind w.0.first (ap (λ (z : BlockOf). is_standard_class z.kind) (sym w.2) ∙ is) (sym (ap first_or_none w.1) ∙ (t.program_agrees s.program).fine.textless k)
    where
      of_kind : (c : BlockKind) (n : ℕ) → is_standard_class c ≡ true → standard_first c n ≡ 0 → n ≡ 0
      of_kind (kind.StandardClass which) n e f = f
      of_kind kind.Program n e f = absurd (cc)
      of_kind kind.SubBlock n e f = absurd (cc)
      of_kind kind.Procedure n e f = absurd (cc)
      of_kind kind.Class n e f = absurd (cc)
      of_kind kind.Prefixed n e f = absurd (cc)
      of_kind kind.Connection n e f = absurd (cc)

  -- and stands in a text with levels
  hosted : (k u : ℕ) (which : StandardClass) → encloser s.tables k ≡ Some u → text s k ≡ Some (StandardText which) → has_levels (text s u) ≡ true
  unfolding text encloser
  hosted k u which e is =
      let q = (t.program_agrees s.program).fine.standards k which is in
      let there : around (slice_get (declared_by s.program).tables.blocks k) ≡ Some q.block = ap (λ m. around (slice_get (declared_by s.program).tables.blocks m)) q.place ∙ q.group.around which q.is in
      let same_block : u ≡ q.block = some_number u q.block (sym e ∙ t.same_around s of order k ∙ there) in
      ap (λ m. has_levels (text s m)) same_block ∙ ap has_levels q.group.host.1 ∙ levels q.prefix q.group.host.0 q.group.host.2
    where
      some_number : (m n : ℕ) → Some m ≡ Some n → m ≡ n
      some_number m n q = cc

      levels : (p : StandardPrefix) (x : Text) → InFront p x → has_levels (Some x) ≡ true
      levels p (ClassText prefix h ds ss) q = refl
      levels p (PrefixedText class es ds ss) q = refl
      levels p (BlockText i ds ss) q = absurd q
      levels p (ProcedureText result h a) q = absurd q
      levels p ConnectionText q = absurd q
      levels p (StandardText which) q = absurd q

  module _ (k u : ℕ) (e : encloser s.tables k ≡ Some u) (without : has_levels (text s u) ≡ false) where
    -- neither is a standard class
    inner_other : (row : BlockOf) → slice_get s.tables.blocks k ≡ Some row → is_standard_class row.kind ≡ false
    unfolding text
    inner_other row at = go row.kind refl
      where
        go : (c : BlockKind) → row.kind ≡ c → is_standard_class c ≡ false
        go kind.Program f = refl
        go kind.SubBlock f = refl
        go kind.Procedure f = refl
        go kind.Class f = refl
        go kind.Prefixed f = refl
        go kind.Connection f = refl
        go (kind.StandardClass which) f =
            let is : text s k ≡ Some (StandardText which) = standard_text row (slice_get (t.Ts s of order) k) which (subst (λ o. KindIs o (slice_get (t.Ts s of order) k)) at (t.kind_at s of order k)) f in
            absurd (let z : true ≡ false = sym (hosted k u which e is) ∙ without in cc)

    outer_other : (row : BlockOf) → slice_get s.tables.blocks u ≡ Some row → is_standard_class row.kind ≡ false
    unfolding text
    outer_other row at = no_standard row (slice_get (t.Ts s of order) u) (subst (λ o. KindIs o (slice_get (t.Ts s of order) u)) at (t.kind_at s of order u)) without

    missing : (bs : List BlockOf) (n : ℕ) → n < length bs → slice_get bs n ≡ None → ⊥
    missing [] n lt g = omega arith
    missing (b ∷ bs) zero lt g = cc
    missing (b ∷ bs) (suc n) lt g = missing bs n (let e : length (b ∷ bs) ≡ suc (length bs) = omega arith in omega arith) g

    chain_more : {i j m : ℕ} → Chain (declared_by s.program).tables.blocks i j → Chain (declared_by s.program).tables.blocks j m → Chain (declared_by s.program).tables.blocks i m
    chain_more same d = d
    chain_more (beyond f c) d = beyond f (chain_more c d)

    under : Chain (declared_by s.program).tables.blocks k u
    unfolding encloser
    under = beyond (sym (t.same_around s of order k) ∙ e) same

    -- the row of the text around
    outer_row : (row : BlockOf) → slice_get s.tables.blocks k ≡ Some row → (outer : BlockOf) × (slice_get s.tables.blocks u ≡ Some outer)
    outer_row row at = go (slice_get s.tables.blocks u) refl
      where
        go : (o : Option BlockOf) → slice_get s.tables.blocks u ≡ o → (outer : BlockOf) × (o ≡ Some outer)
        go None f = absurd (let a : k < length s.tables.blocks = slice_get_within s.tables.blocks k row at in let b : u < k = t.nesting s of order k u e in missing s.tables.blocks u (omega arith) f)
        go (Some outer) f = (outer, refl)

    -- a class or a block with a prefix inside the one is inside the other
    from_inner : (row : BlockOf) → slice_get s.tables.blocks k ≡ Some row → (class : ℕ) (inner : BlockOf) → slice_get s.tables.blocks class ≡ Some inner → is_class_kind inner.kind ≡ true → is_standard_class inner.kind ≡ false
        → Chain (declared_by s.program).tables.blocks class k → is_class_free s u ≡ false
    from_inner row at class inner there is other c =
        let v = t.row_was s of order class inner there in
        let o = outer_row row at in
        let w = t.row_was s of order u o.0 o.1 in
        let z : inner.first ≡ v.0.first = ap (λ (z : BlockOf). z.first) v.2 in
        let place : slice_get (declared_by s.program).tables.places v.0.first ≡ Some (Some class) = first_of class v.0 v.1 (ap (λ (z : BlockOf). is_standard_class z.kind) (sym v.2) ∙ other) in
        let x : o.0.first ≡ w.0.first = ap (λ (z : BlockOf). z.first) w.2 in
        let y : o.0.end ≡ w.0.end = ap (λ (z : BlockOf). z.end) w.2 in
        let r = within v.0.first class u w.0 place w.1 (chain_more c under) in
        let lo : w.0.first ≤ v.0.first = r.0 in
        let hi : v.0.first < w.0.end = r.1 in
        lasts u (record { row = o.0; at = o.1; class = class; inner = inner; there = there; is = is; low = omega (arith, lo, x, z); high = omega (arith, hi, y, z) })

    -- a standard class has no text, and is inside no other text than one that begins with the source
    from_nothing : (row : BlockOf) → slice_get s.tables.blocks k ≡ Some row → row.first ≤ 0 → is_class_free s u ≡ false
    from_nothing row at le =
        let w = t.row_was s of order k row at in
        let o = outer_row row at in
        let v = t.row_was s of order u o.0 o.1 in
        let x : row.first ≡ w.0.first = ap (λ (z : BlockOf). z.first) w.2 in
        let zero_ : w.0.first ≡ 0 = omega (arith, le, x) in
        let place : slice_get (declared_by s.program).tables.places w.0.first ≡ Some (Some k) = first_of k w.0 w.1 (ap (λ (z : BlockOf). is_standard_class z.kind) (sym w.2) ∙ inner_other row at) in
        let r = within w.0.first k u v.0 place v.1 under in
        let lo : v.0.first ≤ w.0.first = r.0 in
        let other : slice_get (declared_by s.program).tables.places v.0.first ≡ Some (Some u) = first_of u v.0 v.1 (ap (λ (z : BlockOf). is_standard_class z.kind) (sym v.2) ∙ outer_other o.0 o.1) in
        let both_zero : v.0.first ≡ w.0.first = omega (arith, lo, zero_) in
        let one : Some (Some u) ≡ Some (Some k) = sym other ∙ ap (slice_get (declared_by s.program).tables.places) both_zero ∙ place in
        let lt : u < k = t.nesting s of order k u e in
        absurd (let equal : u ≡ k = cc in omega arith)

    from_kind : (row : BlockOf) → slice_get s.tables.blocks k ≡ Some row → Lasts k → is_class_free s u ≡ false
    from_kind row at l = go (is_standard_class l.inner.kind) refl
      where
        go : (c : Bool) → is_standard_class l.inner.kind ≡ c → is_class_free s u ≡ false
        go false f =
            let w = t.row_was s of order k l.row l.at in
            let v = t.row_was s of order l.class l.inner l.there in
            let x : l.row.first ≡ w.0.first = ap (λ (z : BlockOf). z.first) w.2 in
            let y : l.row.end ≡ w.0.end = ap (λ (z : BlockOf). z.end) w.2 in
            let z : l.inner.first ≡ v.0.first = ap (λ (z : BlockOf). z.first) v.2 in
            let lo : l.row.first ≤ l.inner.first = l.low in
            let hi : l.inner.first < l.row.end = l.high in
            let place : slice_get (declared_by s.program).tables.places v.0.first ≡ Some (Some l.class) = first_of l.class v.0 v.1 (ap (λ (z : BlockOf). is_standard_class z.kind) (sym v.2) ∙ f) in
            from_inner l.row l.at l.class l.inner l.there l.is f (chain_to v.0.first l.class k w.0 place w.1 (omega (arith, lo, x, z)) (omega (arith, hi, y, z)))
        go true f =
            let le : l.row.first ≤ l.inner.first = l.low in
            let none : l.inner.first ≡ 0 = set_first l.class l.inner l.there f in
            from_nothing l.row l.at (omega (arith, le, none))

    pub outward_of : is_class_free s k ≡ false → is_class_free s u ≡ false
    outward_of h = go (lasting k h)
      where
        go : ((row : BlockOf) × (slice_get s.tables.blocks k ≡ Some row) × (is_class_kind row.kind ≡ true)) ⊎ Lasts k → is_class_free s u ≡ false
        go (inl q) = from_inner q.0 q.1 k q.0 q.1 q.2 (inner_other q.0 q.1) same
        go (inr l) = from_kind l.row l.at l

  -- what is around a text that lasts lasts too
  pub outward : (k u : ℕ) → encloser s.tables k ≡ Some u → is_class_free s k ≡ false → is_class_free s u ≡ false
  outward k u e h = go (has_levels (text s u)) refl
    where
      go : (c : Bool) → has_levels (text s u) ≡ c → is_class_free s u ≡ false
      go true f = stays u f
      go false f = outward_of k u e f h

  -- ---- which blocks have a prefix

  pub prefixed_kinds : (k : ℕ) → is_kind is_prefixed_block s.tables k ≡ is_prefixed_text (text s k)
  unfolding is_kind text
  prefixed_kinds k = go (slice_get s.tables.blocks k) (text s k) (t.kind_at s of order k)
    where
      plain_kind : (k : BlockKind) → PlainKind k → is_prefixed_block k ≡ false
      plain_kind kind.Program q = refl
      plain_kind kind.SubBlock q = refl
      plain_kind kind.Procedure q = absurd q
      plain_kind kind.Class q = absurd q
      plain_kind kind.Prefixed q = absurd q
      plain_kind kind.Connection q = absurd q
      plain_kind (kind.StandardClass which) q = absurd q

      go : (o : Option BlockOf) (x : Option Text) → KindIs o x → is_so is_prefixed_block (kind_in o) ≡ is_prefixed_text x
      go None None q = refl
      go None (Some x) q = absurd q
      go (Some row) None q = absurd q
      go (Some row) (Some (BlockText i ds ss)) q = plain_kind row.kind q
      go (Some row) (Some (ProcedureText result h a)) q = ap is_prefixed_block q
      go (Some row) (Some (ClassText prefix h ds ss)) q = ap is_prefixed_block q
      go (Some row) (Some ConnectionText) q = ap is_prefixed_block q
      go (Some row) (Some (PrefixedText class es ds ss)) q = ap is_prefixed_block q
      go (Some row) (Some (StandardText which)) q = ap is_prefixed_block q

  -- ---- which blocks are connections

  pub connections : (k : ℕ) → is_kind is_connection_kind s.tables k ≡ is_connection (text s k)
  unfolding is_kind text
  connections k = go (slice_get s.tables.blocks k) (text s k) (t.kind_at s of order k)
    where
      plain_kind : (k : BlockKind) → PlainKind k → is_connection_kind k ≡ false
      plain_kind kind.Program q = refl
      plain_kind kind.SubBlock q = refl
      plain_kind kind.Procedure q = refl
      plain_kind kind.Class q = refl
      plain_kind kind.Prefixed q = refl
      plain_kind kind.Connection q = absurd q
      plain_kind (kind.StandardClass which) q = refl

      go : (o : Option BlockOf) (x : Option Text) → KindIs o x → is_so is_connection_kind (kind_in o) ≡ is_connection x
      go None None q = refl
      go None (Some x) q = absurd q
      go (Some row) None q = absurd q
      go (Some row) (Some (BlockText i ds ss)) q = plain_kind row.kind q
      go (Some row) (Some (ProcedureText result h a)) q = ap is_connection_kind q
      go (Some row) (Some (ClassText prefix h ds ss)) q = ap is_connection_kind q
      go (Some row) (Some ConnectionText) q = ap is_connection_kind q
      go (Some row) (Some (PrefixedText class es ds ss)) q = ap is_connection_kind q
      go (Some row) (Some (StandardText which)) q = ap is_connection_kind q

  -- a class and a block with a prefix have levels
  pub level_kinds : (k : ℕ) → is_kind has_text_of_levels s.tables k ≡ true → has_levels (text s k) ≡ true
  unfolding is_kind text
  level_kinds k e = go (slice_get s.tables.blocks k) (text s k) (t.kind_at s of order k) e
    where
      same_kinds : (k : BlockKind) → has_text_of_levels k ≡ true → has_base k ≡ true
      same_kinds kind.Class e = refl
      same_kinds kind.Prefixed e = refl
      same_kinds kind.Program e = absurd (cc)
      same_kinds kind.SubBlock e = absurd (cc)
      same_kinds kind.Procedure e = absurd (cc)
      same_kinds kind.Connection e = absurd (cc)
      same_kinds (kind.StandardClass which) e = absurd (cc)

      go : (o : Option BlockOf) (x : Option Text) → KindIs o x → is_so has_text_of_levels (kind_in o) ≡ true → has_levels x ≡ true
      go None x q e = absurd (cc)
      go (Some row) x q e = levels_of_kind row x q (same_kinds row.kind e)

  -- a connection is the text around its first token
  pub begins : (k : ℕ) (row : BlockOf) → slice_get s.tables.blocks k ≡ Some row → is_standard_class row.kind ≡ false → block_at s.tables row.first ≡ Some k
  unfolding block_at
  begins k row at other = ap joined (t.begun s of order k row at other)

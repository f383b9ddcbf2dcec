-- Where the tokens of a program are in order, a block whose text has a token is around the innermost block of that token.
use Rattle.std.proofs.Common.{◌≡◌, ◌<◌, ◌≤◌, ◌+◌, ◌-◌, ◌⊎◌, inl, inr, ℕ, zero, suc, Bool, true, false, List, [], ◌∷◌, ◌++◌, length, Option, Some, None, refl, sym, ap, ◌∙◌, subst, arith}
use Rattle.std.specs.Prelude.{nat_eq, nat_lt, replicate, slice_get, slice_set}
use Rattle.std.proofs.lemmas.List.{length-append, length-set}
use Rattle.std.proofs.lemmas.Option.{slice_get_within}
use Rattle.std.proofs.lemmas.Bool.Decides.{nat_tests}
use Rattle.sim_base.specs.declared.rule.Rule.{Rule}
use Rattle.sim_base.specs.declared.rule.Rule.TheVariants as r
use Rattle.sim_tree.specs.declared.expr.Identifier.{Identifier}
use Rattle.sim_tree.specs.Order.{Ascends, Spot}
use Rattle.sim_agree.specs.Order.{InOrder}
use Rattle.sim_tree.specs.Syntax.{Program}
use Rattle.sim_scope.specs.declared.types.BlockKind.{BlockKind}
use Rattle.sim_scope.specs.declared.types.BlockKind.TheVariants as kind
use Rattle.sim_scope.specs.declared.types.Entry.TheVariants as entry
use Rattle.sim_scope.specs.Building.{BuildingOf, Mark, Opens, block_around, broken_if, changed, closed, closed_at, counted, counted_in, declared, found_in, holding_class, level_in, marked, most_levels, opened, owner_of, parameter as parameter_of, placed, specified as specified_of, unspecified_at, prefixed_by}
use Rattle.sim_scope.specs.Declare.{declared_by, empty, result_named}
use Rattle.sim_scope.specs.Runs.{run}
use Rattle.sim_scope.specs.Access.{around}
use Rattle.sim_scope.specs.Tables.{BlockOf}
use Rattle.sim_scope.proofs.Kept.{kept_set, more_here, more_other, set_here, set_other}
use Rattle.sim_agree.proofs.Calm.{Calm, Span, class_calm, declared_calm, headed_calm, inner_calm, moded_calm, quals_calm, rule_calm, span, specified_calm, nothing_calm, prefix_calm, guards_calm}
use Rattle.sim_agree.proofs.FineRuns.{run_both}
use Rattle.sim_agree.proofs.Groups.{AreReferences, OfReferences, whole_prefix}
use Rattle.sim_agree.proofs.BroughtFine as brought
use Rattle.sim_agree.proofs.BroughtKnown.{RowAdded, row_added}
use Rattle.sim_agree.proofs.BroughtRows.{added_rows, bringing, with_standard}
use Rattle.sim_agree.proofs.BroughtRuns.{FreshTop, brought_is, opened_top}
use Rattle.sim_agree.proofs.StandardPrefixes.{Spells}
use Rattle.sim_scope.specs.declared.types.StandardPrefix.{StandardPrefix}
use Rattle.sim_agree.proofs.Laid.{Frame, Held, Laid, block, breaks_rule, classes, closes, connects, declares, declares_class, headed, inner_mark, leaves, moded, nothing, parameter, passes, procedure, program, program_laid, specified, uses, Prefs, prefixed, unprefixed, guarded, prefixed_block, standard_block, standard_class}
use Rattle.sim_agree.proofs.Spots.{reached}
use Rattle.sim_agree.proofs.Marks.{met}

-- the first token of a block, the token behind it, and the block around it
abbrev placed_span : Option Span → Option (ℕ × ℕ × Option ℕ)
placed_span None = None
placed_span (Some x) = Some (x.first, x.end, x.encloser)

some_same : {A : Type 0} (a b : A) → Some a ≡ Some b → a ≡ b
some_same a b e = cc

counted_spans : (b : BuildingOf) (o : Option ℕ) (j : ℕ) → placed_span (span (slice_get (counted_in b o).tables.blocks j)) ≡ placed_span (span (slice_get b.tables.blocks j))
counted_spans b None j = refl
counted_spans b (Some n) j = go (slice_get b.tables.blocks n) refl
  where
    go : (o : Option BlockOf) → slice_get b.tables.blocks n ≡ o → placed_span (span (slice_get (counted b n o).tables.blocks j)) ≡ placed_span (span (slice_get b.tables.blocks j))
    go None at = refl
    go (Some row) at = kept_set (λ o. placed_span (span o)) b.tables.blocks n row (record row { formals = length row.numbers }) at refl j

-- where a block begins and ends, and what is around it
record Still (b c : BuildingOf) : Type 0 where
  current : c.current ≡ b.current
  size : length c.tables.blocks ≡ length b.tables.blocks
  places : c.tables.places ≡ b.tables.places
  spans : (j : ℕ) → placed_span (span (slice_get c.tables.blocks j)) ≡ placed_span (span (slice_get b.tables.blocks j))

calm_still : (b c : BuildingOf) → Calm b c → Still b c
calm_still b c m = record { current = m.current; size = m.size; places = m.places; spans = λ j. ap placed_span (m.spans j) }

-- ---- blocks around one another

pub data Chain (bs : List BlockOf) : (inner outer : ℕ) → Type 0 where
  same : {k : ℕ} → Chain bs k k
  beyond : {k u j : ℕ} → around (slice_get bs k) ≡ Some u → Chain bs u j → Chain bs k j

chain_kept : (bs cs : List BlockOf) → ((t u : ℕ) → around (slice_get bs t) ≡ Some u → around (slice_get cs t) ≡ Some u) → {k j : ℕ} → Chain bs k j → Chain cs k j
chain_kept bs cs keep same = same
chain_kept bs cs keep (beyond e c) = beyond (keep _ _ e) (chain_kept bs cs keep c)

-- a block that is open
abbrev pub IsOpen : BuildingOf → ℕ → Type 0
IsOpen b j = (n : ℕ) × (b.current ≡ Some n) × Chain b.tables.blocks n j

pub record Deep (b : BuildingOf) (from : ℕ) : Type 0 where
  pub reach : length b.tables.places ≤ from
  pub within : (n : ℕ) → b.current ≡ Some n → n < length b.tables.blocks
  pub nested : (t u : ℕ) → around (slice_get b.tables.blocks t) ≡ Some u → u < length b.tables.blocks
  pub ends : (j : ℕ) (row : BlockOf) → slice_get b.tables.blocks j ≡ Some row → IsOpen b j ⊎ (row.end ≤ length b.tables.places)
  pub deep : (i k j : ℕ) (row : BlockOf) → slice_get b.tables.places i ≡ Some (Some k) → slice_get b.tables.blocks j ≡ Some row → row.first ≤ i → IsOpen b j ⊎ (i < row.end) → Chain b.tables.blocks k j
  -- blocks have begun, and the token of a place is in all blocks around the block of the place
  pub starts : (j : ℕ) (row : BlockOf) → slice_get b.tables.blocks j ≡ Some row → row.first ≤ length b.tables.places
  pub ranged : (i k : ℕ) → slice_get b.tables.places i ≡ Some (Some k) → k < length b.tables.blocks
  pub holds : (i k j : ℕ) (row : BlockOf) → slice_get b.tables.places i ≡ Some (Some k) → slice_get b.tables.blocks j ≡ Some row → Chain b.tables.blocks k j → (row.first ≤ i) × (IsOpen b j ⊎ (i < row.end))

later_deep : (b : BuildingOf) (from to : ℕ) → from ≤ to → Deep b from → Deep b to
later_deep b from to le d = record { reach = (let q : length b.tables.places ≤ from = d.reach in omega arith); within = d.within; nested = d.nested; ends = d.ends; deep = d.deep; starts = d.starts; ranged = d.ranged; holds = d.holds }

abbrev out_of : Option (ℕ × ℕ × Option ℕ) → Option ℕ
out_of None = None
out_of (Some x) = x.2

out_span : (o : Option BlockOf) → out_of (placed_span (span o)) ≡ around o
out_span None = refl
out_span (Some row) = refl

span_row : (o : Option BlockOf) (row : BlockOf) → placed_span (span o) ≡ placed_span (span (Some row)) → (old : BlockOf) × (o ≡ Some old) × (old.first ≡ row.first) × (old.end ≡ row.end)
span_row None row e = absurd (cc)
span_row (Some old) row e =
    let both : (old.first, old.end, old.encloser) ≡ (row.first, row.end, row.encloser) = some_same {A = ℕ × ℕ × Option ℕ} (old.first, old.end, old.encloser) (row.first, row.end, row.encloser) e in
    (old, refl, ap (λ (z : ℕ × ℕ × Option ℕ). z.0) both, ap (λ (z : ℕ × ℕ × Option ℕ). z.1) both)

still_deep : (b c : BuildingOf) (from : ℕ) → Still b c → Deep b from → Deep c from
still_deep b c from m d = record {
  reach = (let q : length b.tables.places ≤ from = d.reach in let e : length c.tables.places ≡ length b.tables.places = ap length m.places in omega arith);
  within = λ n e. (let lt : n < length b.tables.blocks = d.within n (sym m.current ∙ e) in let z : length c.tables.blocks ≡ length b.tables.blocks = m.size in omega arith);
  nested = λ t u e. (let lt : u < length b.tables.blocks = d.nested t u (sym (out t) ∙ e) in let z : length c.tables.blocks ≡ length b.tables.blocks = m.size in omega arith);
  ends = λ j row at. (let q = old j row at in ends j q.0 row q.2.1 (d.ends j q.0 q.1));
  deep = λ i k j row p at le h. (let q = old j row at in chain_kept b.tables.blocks c.tables.blocks (λ t u e. out t ∙ e) (d.deep i k j q.0 (sym (ap (λ z. slice_get z i) m.places) ∙ p) q.1 (let e : q.0.first ≡ row.first = q.2.0 in omega arith) (back j i q.0 row q.2.1 h)));
  starts = λ j row at. (let q = old j row at in let le : q.0.first ≤ length b.tables.places = d.starts j q.0 q.1 in let e : q.0.first ≡ row.first = q.2.0 in let l : length c.tables.places ≡ length b.tables.places = ap length m.places in omega arith);
  ranged = λ i k p. (let lt : k < length b.tables.blocks = d.ranged i k (sym (ap (λ z. slice_get z i) m.places) ∙ p) in let z : length c.tables.blocks ≡ length b.tables.blocks = m.size in omega arith);
  holds = λ i k j row p at c'. (let q = old j row at in let h = d.holds i k j q.0 (sym (ap (λ z. slice_get z i) m.places) ∙ p) q.1 (chain_kept c.tables.blocks b.tables.blocks (λ t u e. sym (out t) ∙ e) c') in
      ((let le : q.0.first ≤ i = h.0 in let e : q.0.first ≡ row.first = q.2.0 in omega arith), held j i q.0 row q.2.1 h.1));
}
  where
    out : (t : ℕ) → around (slice_get c.tables.blocks t) ≡ around (slice_get b.tables.blocks t)
    out t = sym (out_span (slice_get c.tables.blocks t)) ∙ ap out_of (m.spans t) ∙ out_span (slice_get b.tables.blocks t)

    held : (j i : ℕ) (was row : BlockOf) → was.end ≡ row.end → IsOpen b j ⊎ (i < was.end) → IsOpen c j ⊎ (i < row.end)
    held j i was row e (inl q) = inl (q.0, m.current ∙ q.1, chain_kept b.tables.blocks c.tables.blocks (λ t u f. out t ∙ f) q.2)
    held j i was row e (inr q) = inr (let lt : i < was.end = q in omega (arith, e))

    old : (j : ℕ) (row : BlockOf) → slice_get c.tables.blocks j ≡ Some row → (was : BlockOf) × (slice_get b.tables.blocks j ≡ Some was) × ((was.first ≡ row.first) × (was.end ≡ row.end))
    old j row at = let q = span_row (slice_get b.tables.blocks j) row (sym (m.spans j) ∙ ap (λ o. placed_span (span o)) at) in (q.0, q.1, (q.2, q.3))

    forth : (j : ℕ) → IsOpen b j → IsOpen c j
    forth j q = (q.0, m.current ∙ q.1, chain_kept b.tables.blocks c.tables.blocks (λ t u e. out t ∙ e) q.2)

    ends : (j : ℕ) (was row : BlockOf) → was.end ≡ row.end → IsOpen b j ⊎ (was.end ≤ length b.tables.places) → IsOpen c j ⊎ (row.end ≤ length c.tables.places)
    ends j was row e (inl q) = inl (forth j q)
    ends j was row e (inr q) = inr (let le : was.end ≤ length b.tables.places = q in let z : length c.tables.places ≡ length b.tables.places = ap length m.places in omega (arith, e))

    back : (j i : ℕ) (was row : BlockOf) → was.end ≡ row.end → IsOpen c j ⊎ (i < row.end) → IsOpen b j ⊎ (i < was.end)
    back j i was row e (inl q) = inl (q.0, sym m.current ∙ q.1, chain_kept c.tables.blocks b.tables.blocks (λ t u f. sym (out t) ∙ f) q.2)
    back j i was row e (inr q) = inr (let lt : i < row.end = q in omega (arith, e))

-- ---- a block begins

place_cases : (xs : List (Option ℕ)) (o : Option ℕ) (m i : ℕ) (y : Option ℕ) → slice_get (xs ++ replicate m o) i ≡ Some y → (slice_get xs i ≡ Some y) ⊎ ((y ≡ o) × (length xs ≤ i))
place_cases [] o m i y at = inr (repeated m i at, omega arith)
  where
    repeated : (m i : ℕ) → slice_get (replicate m o) i ≡ Some y → y ≡ o
    repeated zero i at = absurd (cc)
    repeated (suc m) zero at = cc
    repeated (suc m) (suc i) at = repeated m i at
place_cases (x ∷ xs) o m zero y at = inl at
place_cases (x ∷ xs) o m (suc i) y at = next (place_cases xs o m i y at)
  where
    next : (slice_get xs i ≡ Some y) ⊎ ((y ≡ o) × (length xs ≤ i)) → (slice_get (x ∷ xs) (suc i) ≡ Some y) ⊎ ((y ≡ o) × (length (x ∷ xs) ≤ suc i))
    next (inl h) = inl h
    next (inr h) = inr (h.0, (let le : length xs ≤ i = h.1 in omega arith))

begun_deep : (b : BuildingOf) (new : BlockOf) (first from : ℕ) → from ≤ first → new.first ≡ first → new.end ≡ first → new.encloser ≡ b.current → Deep b from
    → Deep (record b { tables = record b.tables { blocks = b.tables.blocks ++ new ∷ []; places = (placed b.tables b.current first).places }; current = Some (length b.tables.blocks) }) (first + 1)
begun_deep b new first from le is_first is_end out d = record {
  reach = (let e : length ps ≡ first = long in omega arith);
  within = λ n e. (let z : length b.tables.blocks ≡ n = some_same (length b.tables.blocks) n e in let m : length cs ≡ length b.tables.blocks + 1 = more in omega arith);
  nested = λ t u e. nested t u (nat_eq t (length b.tables.blocks)) refl e;
  ends = λ j row at. ends j row (nat_eq j (length b.tables.blocks)) refl at;
  starts = λ j row at. starts j row (nat_eq j (length b.tables.blocks)) refl at;
  ranged = λ i k p. ranged i k (place_cases b.tables.places b.current (first - length b.tables.places) i (Some k) p);
  holds = λ i k j row p at c'. holds i k j row (nat_eq j (length b.tables.blocks)) refl at c' (place_cases b.tables.places b.current (first - length b.tables.places) i (Some k) p);
  deep = λ i k j row p at lo h. deep i k j row (nat_eq j (length b.tables.blocks)) refl at lo h (let lt : i < length ps = slice_get_within ps i (Some k) p in let e : length ps ≡ first = long in omega arith) (place_cases b.tables.places b.current (first - length b.tables.places) i (Some k) p);
}
  where
    bs : List BlockOf
    bs = b.tables.blocks

    cs : List BlockOf
    cs = b.tables.blocks ++ new ∷ []

    ps : List (Option ℕ)
    ps = (placed b.tables b.current first).places

    c : BuildingOf
    c = record b { tables = record b.tables { blocks = b.tables.blocks ++ new ∷ []; places = (placed b.tables b.current first).places }; current = Some (length b.tables.blocks) }

    reach : length b.tables.places ≤ first
    reach = let q : length b.tables.places ≤ from = d.reach in omega arith

    long : length (placed b.tables b.current first).places ≡ first
    long = reached b.tables.places b.current first reach

    more : length (b.tables.blocks ++ new ∷ []) ≡ length b.tables.blocks + 1
    more = length-append bs (new ∷ [])

    is_new : (t : ℕ) → nat_eq t (length b.tables.blocks) ≡ true → slice_get (b.tables.blocks ++ new ∷ []) t ≡ Some new
    is_new t e = let z : t ≡ length b.tables.blocks = grind (arith, nat_tests) in ap (slice_get cs) z ∙ more_here bs new

    under : around (slice_get (b.tables.blocks ++ new ∷ []) (length b.tables.blocks)) ≡ b.current
    under = ap around (more_here bs new) ∙ out

    in_range : (t u : ℕ) → around (slice_get b.tables.blocks t) ≡ Some u → t < length b.tables.blocks
    in_range t u e = go (slice_get bs t) refl e
      where
        go : (o : Option BlockOf) → slice_get bs t ≡ o → around o ≡ Some u → t < length b.tables.blocks
        go None at f = absurd (cc)
        go (Some row) at f = slice_get_within bs t row at

    keep : (t u : ℕ) → around (slice_get b.tables.blocks t) ≡ Some u → around (slice_get (b.tables.blocks ++ new ∷ []) t) ≡ Some u
    keep t u e = let lt : t < length b.tables.blocks = in_range t u e in ap around (more_other bs new t (let P : nat_eq t (length b.tables.blocks) ≡ false = grind (arith, nat_tests) in P)) ∙ e

    nested : (t u : ℕ) (z : Bool) → nat_eq t (length b.tables.blocks) ≡ z → around (slice_get (b.tables.blocks ++ new ∷ []) t) ≡ Some u → u < length (b.tables.blocks ++ new ∷ [])
    nested t u true z e = let lt : u < length b.tables.blocks = d.within u (sym out ∙ sym (ap around (is_new t z)) ∙ e) in let m : length cs ≡ length b.tables.blocks + 1 = more in omega arith
    nested t u false z e = let lt : u < length b.tables.blocks = d.nested t u (sym (ap around (more_other bs new t z)) ∙ e) in let m : length cs ≡ length b.tables.blocks + 1 = more in omega arith

    -- what is open with the new block innermost
    opens : (j : ℕ) → IsOpen b j → IsOpen c j
    opens j q = (length bs, refl, beyond (under ∙ q.1) (chain_kept bs cs keep q.2))

    -- from an old block outward nothing is new
    old_chain : {k j : ℕ} → k < length b.tables.blocks → Chain (b.tables.blocks ++ new ∷ []) k j → Chain b.tables.blocks k j
    old_chain lt same = same
    old_chain {k = k} lt (beyond {u = u} e rest) =
        let f : around (slice_get bs k) ≡ Some u = sym (ap around (more_other bs new k (let P : nat_eq k (length b.tables.blocks) ≡ false = grind (arith, nat_tests) in P))) ∙ e in
        beyond f (old_chain (d.nested k u f) rest)

    open_old : (j : ℕ) → nat_eq j (length b.tables.blocks) ≡ false → {n : ℕ} → Some (length b.tables.blocks) ≡ Some n → Chain (b.tables.blocks ++ new ∷ []) n j → IsOpen b j
    open_old j z e same = absurd (let f : length b.tables.blocks ≡ j = some_same (length b.tables.blocks) j e in let P : nat_eq j (length b.tables.blocks) ≡ true = grind (arith, nat_tests) in let Q : true ≡ false = sym P ∙ z in cc)
    open_old j z {n = n} e (beyond {u = u} f rest) =
        let g : b.current ≡ Some u = sym under ∙ subst (λ m. around (slice_get cs m) ≡ Some u) (sym (some_same (length b.tables.blocks) n e)) f in
        (u, g, old_chain (d.within u g) rest)

    ends : (j : ℕ) (row : BlockOf) (z : Bool) → nat_eq j (length b.tables.blocks) ≡ z → slice_get (b.tables.blocks ++ new ∷ []) j ≡ Some row → IsOpen c j ⊎ (row.end ≤ length (placed b.tables b.current first).places)
    ends j row true z at = let e : length b.tables.blocks ≡ j = grind (arith, nat_tests) in inl (length bs, refl, subst (λ m. Chain cs (length bs) m) e same)
    ends j row false z at = go (d.ends j row (sym (more_other bs new j z) ∙ at))
      where
        go : IsOpen b j ⊎ (row.end ≤ length b.tables.places) → IsOpen c j ⊎ (row.end ≤ length (placed b.tables b.current first).places)
        go (inl q) = inl (opens j q)
        go (inr q) = inr (let lo : row.end ≤ length b.tables.places = q in let e : length ps ≡ first = long in omega arith)

    deep : (i k j : ℕ) (row : BlockOf) (z : Bool) → nat_eq j (length b.tables.blocks) ≡ z → slice_get (b.tables.blocks ++ new ∷ []) j ≡ Some row → row.first ≤ i → IsOpen c j ⊎ (i < row.end) → i < first
        → (slice_get b.tables.places i ≡ Some (Some k)) ⊎ ((Some k ≡ b.current) × (length b.tables.places ≤ i)) → Chain (b.tables.blocks ++ new ∷ []) k j
    deep i k j row true z at lo h lt p = let e : row.first ≡ first = ap (λ (y : BlockOf). y.first) (some_same row new (sym at ∙ is_new j z)) ∙ is_first in absurd (omega arith)
    deep i k j row false z at lo h lt (inl p) = chain_kept bs cs keep (d.deep i k j row p (sym (more_other bs new j z) ∙ at) lo (back h))
      where
        back : IsOpen c j ⊎ (i < row.end) → IsOpen b j ⊎ (i < row.end)
        back (inl q) = inl (open_old j z q.1 q.2)
        back (inr q) = inr q
    deep i k j row false z at lo h lt (inr p) = chain_kept bs cs keep (go h (d.ends j row (sym (more_other bs new j z) ∙ at)))
      where
        of_open : IsOpen b j → Chain b.tables.blocks k j
        of_open q = subst (λ m. Chain b.tables.blocks m j) (some_same q.0 k (sym q.1 ∙ sym p.0)) q.2

        go : IsOpen c j ⊎ (i < row.end) → IsOpen b j ⊎ (row.end ≤ length b.tables.places) → Chain b.tables.blocks k j
        go (inl q) e = of_open (open_old j z q.1 q.2)
        go (inr q) (inl e) = of_open e
        go (inr q) (inr e) = absurd (let lt' : i < row.end = q in let hi : row.end ≤ length b.tables.places = e in let lo' : length b.tables.places ≤ i = p.1 in omega arith)

    starts : (j : ℕ) (row : BlockOf) (z : Bool) → nat_eq j (length b.tables.blocks) ≡ z → slice_get (b.tables.blocks ++ new ∷ []) j ≡ Some row → row.first ≤ length (placed b.tables b.current first).places
    starts j row true z at = let e : row.first ≡ first = ap (λ (y : BlockOf). y.first) (some_same row new (sym at ∙ is_new j z)) ∙ is_first in let l : length ps ≡ first = long in omega arith
    starts j row false z at = let lo : row.first ≤ length b.tables.places = d.starts j row (sym (more_other bs new j z) ∙ at) in let hi : length b.tables.places ≤ first = reach in let l : length ps ≡ first = long in omega arith

    ranged : (i k : ℕ) → (slice_get b.tables.places i ≡ Some (Some k)) ⊎ ((Some k ≡ b.current) × (length b.tables.places ≤ i)) → k < length (b.tables.blocks ++ new ∷ [])
    ranged i k (inl p) = let lt : k < length b.tables.blocks = d.ranged i k p in let m : length cs ≡ length b.tables.blocks + 1 = more in omega arith
    ranged i k (inr p) = let lt : k < length b.tables.blocks = d.within k (sym p.0) in let m : length cs ≡ length b.tables.blocks + 1 = more in omega arith

    -- from an old block outward there are old blocks
    chain_ends : {k j : ℕ} → k < length b.tables.blocks → Chain (b.tables.blocks ++ new ∷ []) k j → j < length b.tables.blocks
    chain_ends lt same = lt
    chain_ends {k = k} lt (beyond {u = u} e rest) =
        let f : around (slice_get bs k) ≡ Some u = sym (ap around (more_other bs new k (let P : nat_eq k (length b.tables.blocks) ≡ false = grind (arith, nat_tests) in P))) ∙ e in chain_ends (d.nested k u f) rest

    holds : (i k j : ℕ) (row : BlockOf) (z : Bool) → nat_eq j (length b.tables.blocks) ≡ z → slice_get (b.tables.blocks ++ new ∷ []) j ≡ Some row → Chain (b.tables.blocks ++ new ∷ []) k j
        → (slice_get b.tables.places i ≡ Some (Some k)) ⊎ ((Some k ≡ b.current) × (length b.tables.places ≤ i)) → (row.first ≤ i) × (IsOpen c j ⊎ (i < row.end))
    holds i k j row true z at c' p = absurd (let e : j ≡ length b.tables.blocks = grind (arith, nat_tests) in let lt : j < length b.tables.blocks = chain_ends (old_place p) c' in omega arith)
      where
        old_place : (slice_get b.tables.places i ≡ Some (Some k)) ⊎ ((Some k ≡ b.current) × (length b.tables.places ≤ i)) → k < length b.tables.blocks
        old_place (inl p) = d.ranged i k p
        old_place (inr p) = d.within k (sym p.0)
    holds i k j row false z at c' (inl p) = let h = d.holds i k j row p (sym (more_other bs new j z) ∙ at) (old_chain (d.ranged i k p) c') in (h.0, go h.1)
      where
        go : IsOpen b j ⊎ (i < row.end) → IsOpen c j ⊎ (i < row.end)
        go (inl q) = inl (opens j q)
        go (inr q) = inr q
    holds i k j row false z at c' (inr p) =
        let le : row.first ≤ length b.tables.places = d.starts j row (sym (more_other bs new j z) ∙ at) in
        let lo : length b.tables.places ≤ i = p.1 in
        (omega arith, inl (opens j (k, sym p.0, old_chain (d.within k (sym p.0)) c')))

-- ---- a block ends

closed_row : (b : BuildingOf) (end n from : ℕ) (o : Option BlockOf) → from ≤ end → b.current ≡ Some n → slice_get b.tables.blocks n ≡ o → (row : BlockOf) → o ≡ Some row → Deep b from → Deep (closed_at b end n o) end
closed_row b end n from None le cur at found is d = absurd (cc)
closed_row b end n from (Some row) le cur at found is d = record {
  reach = (let e : length (placed b.tables b.current end).places ≡ end = long in omega arith);
  within = λ m e. (let lt : m < length bs = d.nested n m (ap around at ∙ e) in let z : length (slice_set b.tables.blocks n (record row { end = end })) ≡ length bs = length-set bs n (record row { end = end }) in omega arith);
  nested = λ t u e. (let lt : u < length bs = d.nested t u (sym (out t) ∙ e) in let z : length (slice_set b.tables.blocks n (record row { end = end })) ≡ length bs = length-set bs n (record row { end = end }) in omega arith);
  ends = λ j other at'. ends j other (nat_eq n j) refl at';
  starts = λ j other at'. starts j other (nat_eq n j) refl at';
  ranged = λ i k p. ranged i k (place_cases b.tables.places b.current (end - length b.tables.places) i (Some k) p);
  holds = λ i k j other p at' c'. holds i k j other (nat_eq n j) refl at' c' (let lt : i < length (placed b.tables b.current end).places = slice_get_within (placed b.tables b.current end).places i (Some k) p in let e : length (placed b.tables b.current end).places ≡ end = long in omega arith) (place_cases b.tables.places b.current (end - length b.tables.places) i (Some k) p);
  deep = λ i k j other p at' lo h. deep i k j other (nat_eq n j) refl at' lo h (place_cases b.tables.places b.current (end - length b.tables.places) i (Some k) p);
}
  where
    bs : List BlockOf
    bs = b.tables.blocks

    new : BlockOf
    new = record row { end = end }

    cs : List BlockOf
    cs = slice_set b.tables.blocks n (record row { end = end })

    c : BuildingOf
    c = closed_at b end n (Some row)

    long : length (placed b.tables b.current end).places ≡ end
    long = reached b.tables.places b.current end (let q : length b.tables.places ≤ from = d.reach in omega arith)

    out : (t : ℕ) → around (slice_get (slice_set b.tables.blocks n (record row { end = end })) t) ≡ around (slice_get b.tables.blocks t)
    out t = kept_set around bs n row new at refl t

    keep : (t u : ℕ) → around (slice_get b.tables.blocks t) ≡ Some u → around (slice_get (slice_set b.tables.blocks n (record row { end = end })) t) ≡ Some u
    keep t u e = out t ∙ e

    -- what is open stays so, but the block that ends
    opens : (j : ℕ) → nat_eq n j ≡ false → IsOpen b j → IsOpen (closed_at b end n (Some row)) j
    opens j z q = go q.1 q.2
      where
        go : {m : ℕ} → b.current ≡ Some m → Chain b.tables.blocks m j → IsOpen (closed_at b end n (Some row)) j
        go e same = absurd (let f : n ≡ j = some_same n j (sym cur ∙ e) in let P : nat_eq n j ≡ true = grind (arith, nat_tests) in let Q : true ≡ false = sym P ∙ z in cc)
        go {m = m} e (beyond {u = u} f rest) =
            let g : row.encloser ≡ Some u = sym (ap around at) ∙ subst (λ y. around (slice_get bs y) ≡ Some u) (some_same m n (sym e ∙ cur)) f in (u, g, chain_kept bs cs keep rest)

    back : (j : ℕ) → IsOpen (closed_at b end n (Some row)) j → IsOpen b j
    back j q = (n, cur, beyond (ap around at ∙ q.1) (chain_kept cs bs (λ t u e. sym (out t) ∙ e) q.2))

    ends : (j : ℕ) (other : BlockOf) (z : Bool) → nat_eq n j ≡ z → slice_get (slice_set b.tables.blocks n (record row { end = end })) j ≡ Some other → IsOpen (closed_at b end n (Some row)) j ⊎ (other.end ≤ length (placed b.tables b.current end).places)
    ends j other true z at' =
        let f : n ≡ j = grind (arith, nat_tests) in
        let g : new ≡ other = some_same new other (sym (set_here bs n row new at) ∙ subst (λ m. slice_get cs m ≡ Some other) (sym f) at') in
        inr (let e : end ≡ other.end = ap (λ (y : BlockOf). y.end) g in let l : length (placed b.tables b.current end).places ≡ end = long in omega arith)
    ends j other false z at' = go (d.ends j other (sym (set_other bs n j new z) ∙ at'))
      where
        go : IsOpen b j ⊎ (other.end ≤ length b.tables.places) → IsOpen (closed_at b end n (Some row)) j ⊎ (other.end ≤ length (placed b.tables b.current end).places)
        go (inl q) = inl (opens j z q)
        go (inr q) = inr (let lo : other.end ≤ length b.tables.places = q in let hi : length b.tables.places ≤ from = d.reach in let l : length (placed b.tables b.current end).places ≡ end = long in omega arith)

    deep : (i k j : ℕ) (other : BlockOf) (z : Bool) → nat_eq n j ≡ z → slice_get (slice_set b.tables.blocks n (record row { end = end })) j ≡ Some other → other.first ≤ i → IsOpen (closed_at b end n (Some row)) j ⊎ (i < other.end)
        → (slice_get b.tables.places i ≡ Some (Some k)) ⊎ ((Some k ≡ b.current) × (length b.tables.places ≤ i)) → Chain (slice_set b.tables.blocks n (record row { end = end })) k j
    deep i k j other true z at' lo h (inl p) =
        let f : n ≡ j = grind (arith, nat_tests) in
        let g : new ≡ other = some_same new other (sym (set_here bs n row new at) ∙ subst (λ m. slice_get cs m ≡ Some other) (sym f) at') in
        let e : row.first ≡ other.first = ap (λ (y : BlockOf). y.first) g in
        chain_kept bs cs keep (subst (λ m. Chain bs k m) f (d.deep i k n row p at (omega arith) (inl (n, cur, same))))
    deep i k j other true z at' lo h (inr p) = let f : n ≡ j = grind (arith, nat_tests) in let g : n ≡ k = some_same n k (sym cur ∙ sym p.0) in subst (λ m. Chain cs k m) (sym g ∙ f) same
    deep i k j other false z at' lo h (inl p) = chain_kept bs cs keep (d.deep i k j other p (sym (set_other bs n j new z) ∙ at') lo (earlier h))
      where
        earlier : IsOpen (closed_at b end n (Some row)) j ⊎ (i < other.end) → IsOpen b j ⊎ (i < other.end)
        earlier (inl q) = inl (back j q)
        earlier (inr q) = inr q
    deep i k j other false z at' lo h (inr p) = chain_kept bs cs keep (go h (d.ends j other (sym (set_other bs n j new z) ∙ at')))
      where
        of_open : IsOpen b j → Chain b.tables.blocks k j
        of_open q = subst (λ m. Chain b.tables.blocks m j) (some_same q.0 k (sym q.1 ∙ sym p.0)) q.2

        go : IsOpen (closed_at b end n (Some row)) j ⊎ (i < other.end) → IsOpen b j ⊎ (other.end ≤ length b.tables.places) → Chain b.tables.blocks k j
        go (inl q) e = of_open (back j q)
        go (inr q) (inl e) = of_open e
        go (inr q) (inr e) = absurd (let lt : i < other.end = q in let hi : other.end ≤ length b.tables.places = e in let lo' : length b.tables.places ≤ i = p.1 in omega arith)

    starts : (j : ℕ) (other : BlockOf) (z : Bool) → nat_eq n j ≡ z → slice_get (slice_set b.tables.blocks n (record row { end = end })) j ≡ Some other → other.first ≤ length (placed b.tables b.current end).places
    starts j other true z at' =
        let f : n ≡ j = grind (arith, nat_tests) in
        let g : new ≡ other = some_same new other (sym (set_here bs n row new at) ∙ subst (λ m. slice_get cs m ≡ Some other) (sym f) at') in
        let e : row.first ≡ other.first = ap (λ (y : BlockOf). y.first) g in
        let lo : row.first ≤ length b.tables.places = d.starts n row at in
        let hi : length b.tables.places ≤ from = d.reach in
        let l : length (placed b.tables b.current end).places ≡ end = long in omega arith
    starts j other false z at' =
        let lo : other.first ≤ length b.tables.places = d.starts j other (sym (set_other bs n j new z) ∙ at') in
        let hi : length b.tables.places ≤ from = d.reach in
        let l : length (placed b.tables b.current end).places ≡ end = long in omega arith

    ranged : (i k : ℕ) → (slice_get b.tables.places i ≡ Some (Some k)) ⊎ ((Some k ≡ b.current) × (length b.tables.places ≤ i)) → k < length (slice_set b.tables.blocks n (record row { end = end }))
    ranged i k (inl p) = let lt : k < length bs = d.ranged i k p in let z : length (slice_set b.tables.blocks n (record row { end = end })) ≡ length bs = length-set bs n (record row { end = end }) in omega arith
    ranged i k (inr p) = let lt : k < length bs = d.within k (sym p.0) in let z : length (slice_set b.tables.blocks n (record row { end = end })) ≡ length bs = length-set bs n (record row { end = end }) in omega arith

    keep_back : (t u : ℕ) → around (slice_get (slice_set b.tables.blocks n (record row { end = end })) t) ≡ Some u → around (slice_get b.tables.blocks t) ≡ Some u
    keep_back t u e = sym (out t) ∙ e

    holds : (i k j : ℕ) (other : BlockOf) (z : Bool) → nat_eq n j ≡ z → slice_get (slice_set b.tables.blocks n (record row { end = end })) j ≡ Some other → Chain (slice_set b.tables.blocks n (record row { end = end })) k j → i < end
        → (slice_get b.tables.places i ≡ Some (Some k)) ⊎ ((Some k ≡ b.current) × (length b.tables.places ≤ i)) → (other.first ≤ i) × (IsOpen (closed_at b end n (Some row)) j ⊎ (i < other.end))
    holds i k j other true z at' c' lt p =
        let f : n ≡ j = grind (arith, nat_tests) in
        let g : new ≡ other = some_same new other (sym (set_here bs n row new at) ∙ subst (λ m. slice_get cs m ≡ Some other) (sym f) at') in
        let e : row.first ≡ other.first = ap (λ (y : BlockOf). y.first) g in
        let h : end ≡ other.end = ap (λ (y : BlockOf). y.end) g in
        (from_first p (sym f) e, inr (omega (arith, lt, h)))
      where
        from_first : (slice_get b.tables.places i ≡ Some (Some k)) ⊎ ((Some k ≡ b.current) × (length b.tables.places ≤ i)) → j ≡ n → row.first ≡ other.first → other.first ≤ i
        from_first (inl q) f e = let h = d.holds i k n row q at (subst (λ m. Chain bs k m) f (chain_kept cs bs keep_back c')) in let le : row.first ≤ i = h.0 in omega (arith, e)
        from_first (inr q) f e = let le : row.first ≤ length b.tables.places = d.starts n row at in let lo : length b.tables.places ≤ i = q.1 in omega (arith, e)
    holds i k j other false z at' c' lt (inl p) =
        let h = d.holds i k j other p (sym (set_other bs n j new z) ∙ at') (chain_kept cs bs keep_back c') in (h.0, go h.1)
      where
        go : IsOpen b j ⊎ (i < other.end) → IsOpen (closed_at b end n (Some row)) j ⊎ (i < other.end)
        go (inl q) = inl (opens j z q)
        go (inr q) = inr q
    holds i k j other false z at' c' lt (inr p) =
        let le : other.first ≤ length b.tables.places = d.starts j other (sym (set_other bs n j new z) ∙ at') in
        let lo : length b.tables.places ≤ i = p.1 in
        (omega arith, inl (opens j z (k, sym p.0, chain_kept cs bs keep_back c')))

row_in : (bs : List BlockOf) (n : ℕ) → n < length bs → (row : BlockOf) × (slice_get bs n ≡ Some row)
row_in [] n lt = absurd (omega arith)
row_in (b ∷ bs) zero lt = (b, refl)
row_in (b ∷ bs) (suc n) lt = let e : length (b ∷ bs) ≡ suc (length bs) = omega arith in row_in bs n (omega arith)

-- where no block is open none ends
closed_deep : (b : BuildingOf) (end from : ℕ) (o : Option ℕ) → b.current ≡ o → from ≤ end → Deep b from → Deep (closed b end o) end
closed_deep b end from None e le d = later_deep b from end le d
closed_deep b end from (Some n) e le d = let r = row_in b.tables.blocks n (d.within n e) in closed_row b end n from (slice_get b.tables.blocks n) le e refl r.0 r.1 d

-- ---- the whole

if_deep : (a : Bool) (b : BuildingOf) (token : ℕ) (rule : Rule) (from : ℕ) → Deep b from → Deep (broken_if a b token rule) from
if_deep true b token rule from d = record { reach = d.reach; within = d.within; nested = d.nested; ends = d.ends; deep = d.deep; starts = d.starts; ranged = d.ranged; holds = d.holds }
if_deep false b token rule from d = d

opened_deep : (b : BuildingOf) (k : BlockKind) (text first from : ℕ) → from ≤ first → Deep b from → Deep (opened b k text first) (first + 1)
opened_deep b k text first from le d =
    if_deep (nat_lt most_levels (level_in k (block_around b.tables b.current))) _ text r.TooManyLevels (first + 1)
    (begun_deep b (record { kind = k; first = first; end = first; encloser = b.current; level = level_in k (block_around b.tables b.current); owner = owner_of k b.latest; formals = 0; inner = None; prefix = None; base = None; standard = None; names = []; numbers = []; has_class = false; brought_names = []; brought = []; protected = []; hidden = [] }) first from le refl refl refl d)

parameter_still : (b : BuildingOf) (x : Identifier) → Still b (parameter_of b x)
parameter_still b x =
    let c : BuildingOf = declared b x (entry.Unspecified None) in
    let m = declared_calm b x (entry.Unspecified None) in
    let k = counted_still c c.current in
    record { current = k.0 ∙ m.current; size = k.1 ∙ m.size; places = k.2 ∙ m.places; spans = λ j. counted_spans c c.current j ∙ ap placed_span (m.spans j) }
  where
    counted_still : (c : BuildingOf) (o : Option ℕ) → ((counted_in c o).current ≡ c.current) × (length (counted_in c o).tables.blocks ≡ length c.tables.blocks) × ((counted_in c o).tables.places ≡ c.tables.places)
    counted_still c None = (refl, refl, refl)
    counted_still c (Some n) = go (slice_get c.tables.blocks n)
      where
        go : (o : Option BlockOf) → ((counted c n o).current ≡ c.current) × (length (counted c n o).tables.blocks ≡ length c.tables.blocks) × ((counted c n o).tables.places ≡ c.tables.places)
        go None = (refl, refl, refl)
        go (Some row) = (refl, length-set c.tables.blocks n (record row { formals = length row.numbers }), refl)

calm_deep : (b c : BuildingOf) (from : ℕ) → Calm b c → Deep b from → Deep c from
calm_deep b c from m d = still_deep b c from (calm_still b c m) d

prefs_calm : (b : BuildingOf) (prefs : List Mark) → Prefs prefs → Calm b (run marked b prefs)
unfolding run marked
prefs_calm b [] unprefixed = nothing_calm b
prefs_calm b ms (prefixed y p) = prefix_calm b y b.current

-- ---- the classes of a standard prefix

-- they have no text, and nothing stands in them
standard_deep : (which : StandardPrefix) (front : Identifier) (spelt : Spells which front) (b : BuildingOf) (n token : ℕ) (r : BlockOf) → b.current ≡ Some n → length b.tables.blocks ≡ n + 1 → slice_get b.tables.blocks n ≡ Some r → (from : ℕ) → Deep b from → Deep (with_standard which b n token (prefixed_by front r)) from
standard_deep which front spelt b n token r cur last at from d = record {
  reach = d.reach;
  within = λ m e. (let lt : m < length b.tables.blocks = d.within m e in more m lt);
  nested = λ t u e. more u (nested t u e (brought.part which front spelt b n token r last at [] t));
  ends = λ j row is. ends j row is (brought.part which front spelt b n token r last at [] j);
  deep = λ i k j row p is le h. deep i k j row p is le h (brought.part which front spelt b n token r last at [] j);
  starts = λ j row is. starts j row is (brought.part which front spelt b n token r last at [] j);
  ranged = λ i k p. more k (d.ranged i k p);
  holds = λ i k j row p is c. holds i k j row p is c (brought.part which front spelt b n token r last at [] j);
}
  where
    c : BuildingOf
    c = with_standard which b n token (prefixed_by front r)

    more : (m : ℕ) → m < length b.tables.blocks → m < length (with_standard which b n token (prefixed_by front r)).tables.blocks
    more m lt =
        let e : length (slice_set b.tables.blocks n (bringing which (length b.tables.declarations) (prefixed_by front r))) ≡ length b.tables.blocks = length-set b.tables.blocks n (bringing which (length b.tables.declarations) (prefixed_by front r)) in
        let s : length (with_standard which b n token (prefixed_by front r)).tables.blocks ≡ length (slice_set b.tables.blocks n (bringing which (length b.tables.declarations) (prefixed_by front r))) + length (added_rows n (length b.tables.declarations) r.level which) = length-append (slice_set b.tables.blocks n (bringing which (length b.tables.declarations) (prefixed_by front r))) (added_rows n (length b.tables.declarations) r.level which) in
        omega arith

    Place : ℕ → Type 0
    Place j = (j < length b.tables.blocks) ⊎ ((i : ℕ) × (j ≡ n + 1 + i))

    -- the row of a block before
    old_row : (j : ℕ) (row : BlockOf) → j < length b.tables.blocks → slice_get (with_standard which b n token (prefixed_by front r)).tables.blocks j ≡ Some row → (old : BlockOf) × (slice_get b.tables.blocks j ≡ Some old) × (old.first ≡ row.first) × (old.end ≡ row.end)
    old_row j row lt is = span_row (slice_get b.tables.blocks j) row (sym (brought.old_same which front spelt b n token r last at [] (λ o. placed_span (span o)) refl j lt) ∙ ap (λ o. placed_span (span o)) is)

    set_row : (i j : ℕ) (row : BlockOf) → j ≡ n + 1 + i → slice_get (with_standard which b n token (prefixed_by front r)).tables.blocks j ≡ Some row → RowAdded n (length b.tables.declarations) token r.level which i row
    set_row i j row e is = row_added n (length b.tables.declarations) token r.level which i row (sym (brought.new_get which front spelt b n token r last at [] i) ∙ ap (slice_get (with_standard which b n token (prefixed_by front r)).tables.blocks) (sym e) ∙ is)

    old_around : (t : ℕ) → t < length b.tables.blocks → around (slice_get (with_standard which b n token (prefixed_by front r)).tables.blocks t) ≡ around (slice_get b.tables.blocks t)
    old_around t lt = brought.old_same which front spelt b n token r last at [] around refl t lt

    nested : (t u : ℕ) → around (slice_get (with_standard which b n token (prefixed_by front r)).tables.blocks t) ≡ Some u → Place t → u < length b.tables.blocks
    nested t u e (inl lt) = d.nested t u (sym (old_around t lt) ∙ e)
    nested t u e (inr q) = go (slice_get (with_standard which b n token (prefixed_by front r)).tables.blocks t) refl e
      where
        go : (o : Option BlockOf) → slice_get (with_standard which b n token (prefixed_by front r)).tables.blocks t ≡ o → around o ≡ Some u → u < length b.tables.blocks
        go None is f = absurd (cc)
        go (Some row) is f =
            let here : n ≡ u = some_same n u (sym ((set_row q.0 t row q.1 is).encloser) ∙ f) in omega arith

    -- from a block before, the blocks around are those before
    back : {k j : ℕ} → Chain (with_standard which b n token (prefixed_by front r)).tables.blocks k j → k < length b.tables.blocks → Chain b.tables.blocks k j
    back same lt = same
    back (beyond {k = k} {u = u} e c) lt =
        let was : around (slice_get b.tables.blocks k) ≡ Some u = sym (old_around k lt) ∙ e in beyond was (back c (d.nested k u was))

    bound : {k j : ℕ} → Chain (with_standard which b n token (prefixed_by front r)).tables.blocks k j → k < length b.tables.blocks → j < length b.tables.blocks
    bound same lt = lt
    bound (beyond {k = k} {u = u} e c) lt =
        let was : around (slice_get b.tables.blocks k) ≡ Some u = sym (old_around k lt) ∙ e in bound c (d.nested k u was)

    forth : {k j : ℕ} → Chain b.tables.blocks k j → Chain (with_standard which b n token (prefixed_by front r)).tables.blocks k j
    forth c = chain_kept b.tables.blocks (with_standard which b n token (prefixed_by front r)).tables.blocks (λ t u e. old_around t (there t u e) ∙ e) c
      where
        there : (t u : ℕ) → around (slice_get b.tables.blocks t) ≡ Some u → t < length b.tables.blocks
        there t u e = go (slice_get b.tables.blocks t) refl e
          where
            go : (o : Option BlockOf) → slice_get b.tables.blocks t ≡ o → around o ≡ Some u → t < length b.tables.blocks
            go None is f = absurd (cc)
            go (Some row) is f = slice_get_within b.tables.blocks t row is

    open_was : (j : ℕ) → IsOpen (with_standard which b n token (prefixed_by front r)) j → IsOpen b j
    open_was j q = (q.0, q.1, back q.2 (d.within q.0 q.1))

    open_now : (j : ℕ) → IsOpen b j → IsOpen (with_standard which b n token (prefixed_by front r)) j
    open_now j q = (q.0, q.1, forth q.2)

    ends : (j : ℕ) (row : BlockOf) → slice_get (with_standard which b n token (prefixed_by front r)).tables.blocks j ≡ Some row → Place j → IsOpen (with_standard which b n token (prefixed_by front r)) j ⊎ (row.end ≤ length b.tables.places)
    ends j row is (inl lt) = let q = old_row j row lt is in go q.0 q.3 (d.ends j q.0 q.1)
      where
        go : (old : BlockOf) → old.end ≡ row.end → IsOpen b j ⊎ (old.end ≤ length b.tables.places) → IsOpen (with_standard which b n token (prefixed_by front r)) j ⊎ (row.end ≤ length b.tables.places)
        go old e (inl o) = inl (open_now j o)
        go old e (inr le) = inr (omega arith)
    ends j row is (inr q) = let e : row.end ≡ 0 = (set_row q.0 j row q.1 is).stops in inr (omega arith)

    deep : (i k j : ℕ) (row : BlockOf) → slice_get b.tables.places i ≡ Some (Some k) → slice_get (with_standard which b n token (prefixed_by front r)).tables.blocks j ≡ Some row → row.first ≤ i → IsOpen (with_standard which b n token (prefixed_by front r)) j ⊎ (i < row.end) → Place j → Chain (with_standard which b n token (prefixed_by front r)).tables.blocks k j
    deep i k j row p is le h (inl lt) = let q = old_row j row lt is in forth (d.deep i k j q.0 p q.1 (let e : q.0.first ≡ row.first = q.2 in omega arith) (go q.0 q.3 h))
      where
        go : (old : BlockOf) → old.end ≡ row.end → IsOpen (with_standard which b n token (prefixed_by front r)) j ⊎ (i < row.end) → IsOpen b j ⊎ (i < old.end)
        go old e (inl o) = inl (open_was j o)
        go old e (inr lt) = inr (omega arith)
    deep i k j row p is le (inl o) (inr q) =
        let lt : j < length b.tables.blocks = bound o.2 (d.within o.0 o.1) in
        let e : j ≡ n + 1 + q.0 = q.1 in absurd (omega arith)
    deep i k j row p is le (inr lt) (inr q) = let e : row.end ≡ 0 = (set_row q.0 j row q.1 is).stops in absurd (omega arith)

    starts : (j : ℕ) (row : BlockOf) → slice_get (with_standard which b n token (prefixed_by front r)).tables.blocks j ≡ Some row → Place j → row.first ≤ length b.tables.places
    starts j row is (inl lt) = let q = old_row j row lt is in let le : q.0.first ≤ length b.tables.places = d.starts j q.0 q.1 in let e : q.0.first ≡ row.first = q.2 in omega arith
    starts j row is (inr q) = let e : row.first ≡ 0 = (set_row q.0 j row q.1 is).begins in omega arith

    holds : (i k j : ℕ) (row : BlockOf) → slice_get b.tables.places i ≡ Some (Some k) → slice_get (with_standard which b n token (prefixed_by front r)).tables.blocks j ≡ Some row → Chain (with_standard which b n token (prefixed_by front r)).tables.blocks k j → Place j → (row.first ≤ i) × (IsOpen (with_standard which b n token (prefixed_by front r)) j ⊎ (i < row.end))
    holds i k j row p is ch (inl lt) =
        let q = old_row j row lt is in
        let h = d.holds i k j q.0 p q.1 (back ch (d.ranged i k p)) in
        ((let le : q.0.first ≤ i = h.0 in let e : q.0.first ≡ row.first = q.2 in omega arith), go q.0 q.3 h.1)
      where
        go : (old : BlockOf) → old.end ≡ row.end → IsOpen b j ⊎ (i < old.end) → IsOpen (with_standard which b n token (prefixed_by front r)) j ⊎ (i < row.end)
        go old e (inl o) = inl (open_now j o)
        go old e (inr lt) = inr (omega arith)
    holds i k j row p is ch (inr q) =
        let lt : j < length b.tables.blocks = bound ch (d.ranged i k p) in
        let e : j ≡ n + 1 + q.0 = q.1 in absurd (omega arith)

standard_run : (p : StandardPrefix) (c : BuildingOf) (top : FreshTop c) (token : ℕ) (y : Identifier) → Spells p y → (from : ℕ) → Deep c from → Deep (run marked c (whole_prefix p token y)) from
standard_run p c top token y spelt from d = subst (λ z. Deep z from) (sym (brought_is p c top token y)) (standard_deep p y spelt c top.number token top.row top.current top.last top.at from d)

pub run_deep : {r : List ℕ} {os : List Frame} {ms : List Mark} {l : List Spot} {hs : List Held} (b : BuildingOf) (from : ℕ) → Laid r os ms l hs → Ascends from l → Deep b from → (to : ℕ) × Deep (run marked b ms) to
unfolding run marked
run_deep b from (nothing e) a d = (from, d)
run_deep b from (uses x u i g) a d = run_deep b (i + 1) g a.1 (later_deep b from (i + 1) (let le : from ≤ i = a.0 in omega arith) d)
run_deep b from (passes i g) a d = run_deep b (i + 1) g a.1 (later_deep b from (i + 1) (let le : from ≤ i = a.0 in omega arith) d)
run_deep b from (classes i g) a d = run_deep b (i + 1) g a.1 (later_deep b from (i + 1) (let le : from ≤ i = a.0 in omega arith) d)
run_deep b from (leaves i g) a d = run_deep b i g a.1 (later_deep b from i a.0 d)
run_deep b from (declares {ms = ms} quals x e may q now g) a d =
    let c : BuildingOf = run marked (declared b x e) quals in
    subst (λ z. (to : ℕ) × Deep z to) (sym (run_both (declared b x e) quals ms))
    (run_deep c (x.token.0 + 1) g a.1 (later_deep c from (x.token.0 + 1) (let le : from ≤ x.token.0 = a.0 in omega arith)
    (calm_deep (declared b x e) c from (quals_calm (declared b x e) (OfReferences e) quals q) (calm_deep b (declared b x e) from (declared_calm b x e) d))))
run_deep b from (parameter x g) a d =
    run_deep (parameter_of b x) (x.token.0 + 1) g a.1 (later_deep (parameter_of b x) from (x.token.0 + 1) (let le : from ≤ x.token.0 = a.0 in omega arith) (still_deep b (parameter_of b x) from (parameter_still b x) d))
run_deep b from (moded x m g) a d = run_deep _ from g a (calm_deep b _ from (moded_calm b x.token m (found_in b.tables b.current x.name)) d)
run_deep b from (specified {ms = ms} quals x k ty p q now g) a d =
    let c : BuildingOf = specified_of (met b (found_in b.tables b.current x.name)) x.token k ty (found_in b.tables b.current x.name) in
    subst (λ z. (to : ℕ) × Deep z to) (sym (run_both c quals ms))
    (run_deep (run marked c quals) from g a (calm_deep c (run marked c quals) from (quals_calm c (AreReferences ty) quals q) (calm_deep b c from (specified_calm b x.token k ty (found_in b.tables b.current x.name)) d)))
run_deep b from (headed x g) a d = run_deep _ from g a (calm_deep b _ from (headed_calm b x.token (unspecified_at b.tables (found_in b.tables b.current x.name))) d)
run_deep b from (inner_mark token g) a d = run_deep _ from g a (calm_deep b _ from (inner_calm b token b.current) d)
run_deep b from (guarded hides keeps y g) a d = run_deep _ from g a (calm_deep b _ from (guards_calm b hides keeps y b.current) d)
run_deep b from (breaks_rule token rule g) a d = run_deep _ from g a (calm_deep b _ from (rule_calm b token rule) d)
run_deep b from (program text i ds ss g) a d = run_deep (opened b kind.Program text i) (i + 1) g a.1 (opened_deep b kind.Program text i from a.0 d)
run_deep b from (block text i ds ss y u g) a d = run_deep (opened b kind.SubBlock text i) (i + 1) g a.1 (opened_deep b kind.SubBlock text i from a.0 d)
run_deep b from (prefixed_block text i class es ds ss w stands g) a d =
    let o : BuildingOf = opened b kind.Prefixed text i in
    let c : BuildingOf = changed o (prefixed_by class) o.current in
    run_deep c (i + 1) g a.1 (calm_deep o c (i + 1) (prefix_calm o class o.current) (opened_deep b kind.Prefixed text i from a.0 d))
run_deep b from (standard_block {ms = ms} p text i class es ds ss e stands g) a d =
    let o : BuildingOf = opened b kind.Prefixed text i in
    let k : BuildingOf = run marked o (whole_prefix p i class) in
    subst (λ z. (to : ℕ) × Deep z to) (sym (run_both o (whole_prefix p i class) ms))
    (run_deep k (i + 1) g a.1 (standard_run p o (opened_top b kind.Prefixed text i) i class e (i + 1) (opened_deep b kind.Prefixed text i from a.0 d)))
run_deep b from (connects text i v y u g) a d = run_deep (opened b kind.Connection text i) (i + 1) g a.1 (opened_deep b kind.Connection text i from a.0 d)
run_deep b from (procedure {ms = ms} text quals result h body q now g) a d =
    let c0 : BuildingOf = declared b h.name (entry.Procedure (result_named result) (length b.tables.blocks)) in
    let c : BuildingOf = run marked c0 quals in
    let i : ℕ = h.name.token.0 in
    subst (λ z. (to : ℕ) × Deep z to) (sym (run_both c0 quals (Opens kind.Procedure text i ∷ ms)))
    (run_deep (opened c kind.Procedure text i) (i + 1) g a.1 (opened_deep c kind.Procedure text i from a.0
    (calm_deep c0 c from (quals_calm c0 (AreReferences (result_named result)) quals q) (calm_deep b c0 from (declared_calm b h.name (entry.Procedure (result_named result) (length b.tables.blocks))) d))))
run_deep b from (declares_class {ms = ms} text prefs prefix h ds ss w g) a d =
    let c0 : BuildingOf = changed (declared b h.name (entry.Class (length b.tables.blocks))) holding_class b.current in
    let i : ℕ = h.name.token.0 in
    let c : BuildingOf = opened c0 kind.Class text i in
    subst (λ z. (to : ℕ) × Deep z to) (sym (run_both c prefs ms))
    (run_deep (run marked c prefs) (i + 1) g a.1 (calm_deep c (run marked c prefs) (i + 1) (prefs_calm c prefs w) (opened_deep c0 kind.Class text i from a.0 (calm_deep b c0 from (class_calm b h.name (entry.Class (length b.tables.blocks)) b.current) d))))
run_deep b from (standard_class {ms = ms} p text y h ds ss e g) a d =
    let c0 : BuildingOf = changed (declared b h.name (entry.Class (length b.tables.blocks))) holding_class b.current in
    let i : ℕ = h.name.token.0 in
    let c : BuildingOf = opened c0 kind.Class text i in
    let k : BuildingOf = run marked c (whole_prefix p i y) in
    subst (λ z. (to : ℕ) × Deep z to) (sym (run_both c (whole_prefix p i y) ms))
    (run_deep k (i + 1) g a.1 (standard_run p c (opened_top c0 kind.Class text i) i y e (i + 1) (opened_deep c0 kind.Class text i from a.0 (calm_deep b c0 from (class_calm b h.name (entry.Class (length b.tables.blocks)) b.current) d))))
run_deep b from (closes x end g) a d = run_deep (closed b end b.current) end g a.1 (closed_deep b end from b.current refl a.0 d)

nothing_deep : Deep empty 0
nothing_deep = record {
  reach = omega arith;
  within = λ n e. absurd (cc);
  nested = λ t u e. absurd (cc);
  ends = λ j row e. absurd (cc);
  deep = λ i k j row e at. absurd (cc);
  starts = λ j row e. absurd (cc);
  ranged = λ i k e. absurd (cc);
  holds = λ i k j row e at c. absurd (cc);
}

pub program_deep : (p : Program) → InOrder p → (to : ℕ) × Deep (declared_by p) to
unfolding declared_by
program_deep p order = run_deep empty 0 (program_laid p) order nothing_deep

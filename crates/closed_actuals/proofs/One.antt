-- An instance has one pending work.
use Rattle.std.proofs.Common.{◌≡◌, ◌⊎◌, ℕ, zero, suc, ◌+◌, ◌≤◌, List, [], ◌∷◌, ◌++◌, map, Some, inl, inr, refl, sym, ap, ◌∙◌, subst, arith}
use Rattle.std.specs.Prelude.{slice_get}
use Rattle.sim_chains.specs.Chains.{times_on}
use Rattle.sim_chains.specs.Components.{Components, Standing}
use Rattle.sim_chains.specs.WellFormed.{chain_in, over_kept}
use Rattle.sim_meaning.specs.Pending.{Activation, Item, owner}
use Rattle.closed_actuals.specs.Evaluations.{IsChain, IsOn, OnChain, PendingOf, is_kept, itself, on_chain, operates, work_for_head}
use Rattle.closed_actuals.proofs.After.{times_same}
use Rattle.closed_actuals.proofs.Numbers.{number, numbers_on}
use Rattle.closed_actuals.proofs.Remaining.{IsSettled, Standings, is_counted, kept_counted, on_counted, same_or_other}

times : ℕ → List OnChain → ℕ
times j xs = times_on itself j (map number xs)

stands_once : (j : ℕ) (u : List Item) (xs : List OnChain) → IsOn j u xs → 1 ≤ times j xs
unfolding times
stands_once j u [] on = absurd on
stands_once j u (x ∷ xs) (inl is) = is_counted j (itself x.instance) (times j xs) (ap (λ (z : OnChain). Some z.instance) is)
stands_once j u (x ∷ xs) (inr on) = let e = stands_once j u xs on in omega (arith, e)

same_work : (j : ℕ) (u v : List Item) (xs : List OnChain) → IsOn j u xs → IsOn j v xs → times j xs ≤ 1 → u ≡ v
unfolding times
same_work j u v [] a b once = absurd a
same_work j u v (x ∷ xs) (inl a) (inl b) once = ap (λ (z : OnChain). z.work) (sym a ∙ b)
same_work j u v (x ∷ xs) (inl a) (inr b) once = let one = stands_once j v xs b in let more = is_counted j (itself x.instance) 0 (ap (λ (z : OnChain). Some z.instance) a) in absurd (omega (arith, one, more, once))
same_work j u v (x ∷ xs) (inr a) (inl b) once = let one = stands_once j u xs a in let more = is_counted j (itself x.instance) 0 (ap (λ (z : OnChain). Some z.instance) b) in absurd (omega (arith, one, more, once))
same_work j u v (x ∷ xs) (inr a) (inr b) once = same_work j u v xs a b (omega (arith, once))

-- on one chain
on_one : (j : ℕ) (u v : List Item) (chain : List Activation) → IsOn j u (on_chain chain) → IsOn j v (on_chain chain) → times_on owner j chain ≤ 1 → u ≡ v
unfolding times
on_one j u v chain a b once =
    let same = times_same j chain in
    let listed = ap (times_on itself j) (numbers_on chain) in
    same_work j u v (on_chain chain) a b (omega (arith, same, listed, once))

-- on two chains that are kept
two_kept : (j : ℕ) (xs : Standings) (k l : ℕ) (x y : Standing Activation) → slice_get xs k ≡ Some x → slice_get xs l ≡ Some y → (k ≡ l → ⊥) → times_on owner j (chain_in x) + times_on owner j (chain_in y) ≤ over_kept (times_on owner j) xs
two_kept j [] k l x y at there other = absurd (cc)
two_kept j (z ∷ xs) zero zero x y at there other = absurd (other refl)
two_kept j (z ∷ xs) zero (suc l) x y at there other =
    let same : z ≡ x = cc in
    let first = ap (λ (v : Standing Activation). times_on owner j (chain_in v)) same in
    let more = kept_counted j xs l y there in
    omega (arith, first, more)
two_kept j (z ∷ xs) (suc k) zero x y at there other =
    let same : z ≡ y = cc in
    let first = ap (λ (v : Standing Activation). times_on owner j (chain_in v)) same in
    let more = kept_counted j xs k x at in
    omega (arith, first, more)
two_kept j (z ∷ xs) (suc k) (suc l) x y at there other = let e = two_kept j xs k l x y at there (λ f. other (ap suc f)) in omega (arith, e)

module _ (head : ℕ → ℕ) (c : Components Activation) (fine : IsSettled head c) (j : ℕ) where
  -- both chains are the same
  same_own : (l m : List Activation) → IsChain c l → IsChain c m → (u v : List Item) → IsOn j u (on_chain l) → IsOn j v (on_chain m) → u ≡ v
  same_own l m operates operates u v a b = let once = fine.once j in on_one j u v c.operating a b (omega (arith, once))
  same_own l m operates (is_kept k x at) u v a b =
      let once = fine.once j in
      let here = on_counted j u c.operating a in
      let there = on_counted j v (chain_in x) b in
      let few = kept_counted j c.standings k x at in
      absurd (omega (arith, once, here, there, few))
  same_own l m (is_kept k x at) operates u v a b =
      let once = fine.once j in
      let here = on_counted j v c.operating b in
      let there = on_counted j u (chain_in x) a in
      let few = kept_counted j c.standings k x at in
      absurd (omega (arith, once, here, there, few))
  same_own l m (is_kept k x at) (is_kept i y there) u v a b = by_place (same_or_other k i)
    where
      by_place : (k ≡ i) ⊎ (k ≡ i → ⊥) → u ≡ v
      by_place (inl same) =
          let one : Some x ≡ Some y = sym at ∙ ap (slice_get c.standings) same ∙ there in
          let x_is : x ≡ y = cc in
          let once = fine.once j in
          let few = kept_counted j c.standings i y there in
          on_one j u v (chain_in y) (subst (λ (z : Standing Activation). IsOn j u (on_chain (chain_in z))) x_is a) b (omega (arith, once, few))
      by_place (inr other) =
          let once = fine.once j in
          let first = on_counted j u (chain_in x) a in
          let second = on_counted j v (chain_in y) b in
          let few = two_kept j c.standings k i x y at there other in
          absurd (omega (arith, once, first, second, few))

  pub one_pending : (u v : List Item) → PendingOf c j u → PendingOf c j v → u ≡ v
  one_pending u v p q = p.whole ∙ ap (λ (z : List Item). work_for_head (slice_get c.standings j) ++ z) (same_own p.chain q.chain p.of q.of p.own q.own p.on q.on) ∙ sym q.whole

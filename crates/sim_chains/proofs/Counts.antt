-- Counts over chains and over all that are kept.
use Rattle.std.proofs.Common.{◌≡◌, ◌≢◌, ◌<◌, ◌≤◌, ◌+◌, ℕ, zero, suc, Bool, true, false, List, [], ◌∷◌, ◌++◌, Option, Some, None, refl, arith, length, get_or-set_same, get_or-set_other}
use Rattle.std.specs.Prelude.{◌&&◌, slice_set, slice_index_or}
use Rattle.sim_chains.specs.Chains.{is_instance, is_first, once_if, outermost, times_above, times_on}
use Rattle.sim_chains.specs.Components.{Standing, NoObject}
use Rattle.sim_chains.specs.WellFormed.{chain_in, over_kept}
use Rattle.sim_chains.proofs.Cuts.{instance_is}

module _ {A : Type 0} (owner : A → Option ℕ) where
  pub times-append : (x : ℕ) (l m : List A) → times_on owner x (l ++ m) ≡ times_on owner x l + times_on owner x m
  times-append x [] m = omega arith
  times-append x (a ∷ l) m = omega (arith, times-append x l m)

  -- the pair that is made where two chains are put together
  abbrev pub seam : ℕ → ℕ → List A → List A → ℕ
  seam x y l m = once_if (is_instance x (outermost owner l) && is_first owner y m)

  nothing_below : (b : Bool) → once_if (b && false) ≡ 0
  nothing_below true = refl
  nothing_below false = refl

  pub above-append : (x y : ℕ) (l m : List A) → times_above owner x y (l ++ m) ≡ times_above owner x y l + times_above owner x y m + seam x y l m
  above-append x y [] m = omega arith
  above-append x y (a ∷ []) m = omega (arith, nothing_below (is_instance x (owner a)))
  above-append x y (a ∷ b ∷ l) m = omega (arith, above-append x y (b ∷ l) m)

  -- who stands directly above an instance at each of its places but the first
  pub above_le : (x y : ℕ) (a : A) (l : List A) → times_above owner x y (a ∷ l) ≤ times_on owner y l
  above_le x y a [] = omega (arith, nothing_below (is_instance x (owner a)))
  above_le x y a (b ∷ l) = omega (arith, above_le x y b l, bounded (is_instance x (owner a)) (is_instance y (owner b)))
    where
      bounded : (p q : Bool) → once_if (p && q) ≤ once_if q
      bounded true q = omega arith
      bounded false true = omega arith
      bounded false false = omega arith

  pub above_le_times : (x y : ℕ) (l : List A) → times_above owner x y l ≤ times_on owner y l
  above_le_times x y [] = omega arith
  above_le_times x y (a ∷ l) = omega (arith, above_le x y a l)

  -- a pair at the seam is that of the outermost and the first
  pub seam_is : (x y : ℕ) (l m : List A) → 0 < seam x y l m → outermost owner l ≡ Some x
  seam_is x y l m h = go (is_instance x (outermost owner l)) refl h
    where
      go : (b : Bool) → is_instance x (outermost owner l) ≡ b → 0 < once_if (b && is_first owner y m) → outermost owner l ≡ Some x
      go true is h = instance_is x (outermost owner l) is
      go false is h = absurd (omega arith)

  pub outermost-append : (l : List A) (a : A) → outermost owner (l ++ a ∷ []) ≡ owner a
  outermost-append [] a = refl
  outermost-append (b ∷ []) a = refl
  outermost-append (b ∷ c ∷ l) a = outermost-append (c ∷ l) a

-- ---- what is kept

module _ {A : Type 0} where
  abbrev pub at : List (Standing A) → ℕ → Standing A
  at l x = slice_index_or l x (NoObject None)

  pub kept_le : (f g : List A → ℕ) (l : List (Standing A)) → ((k : List A) → f k ≤ g k) → over_kept f l ≤ over_kept g l
  kept_le f g [] h = omega arith
  kept_le f g (s ∷ l) h = omega (arith, kept_le f g l h, h (chain_in s))

  pub kept-set : (f : List A → ℕ) (l : List (Standing A)) (i : ℕ) (s : Standing A) → i < length l → over_kept f (slice_set l i s) + f (chain_in (at l i)) ≡ over_kept f l + f (chain_in s)
  kept-set f [] i s h = absurd (omega arith)
  kept-set f (r ∷ l) zero s h = omega arith
  kept-set f (r ∷ l) (suc i) s h = omega (arith, kept-set f l i s (omega arith))

  -- an instance that stands otherwise than an instance that was never entered was entered
  pub past : (l : List (Standing A)) (i : ℕ) → length l ≤ i → at l i ≡ NoObject None
  past [] i h = refl
  past (r ∷ l) zero h = absurd (omega arith)
  past (r ∷ l) (suc i) h = past l i (omega arith)

  -- the standings after one was set
  pub record IsSet (l : List (Standing A)) (i : ℕ) (s : Standing A) : Type 0 where
    pub here : at (slice_set l i s) i ≡ s
    pub others : (k : ℕ) → k ≢ i → at (slice_set l i s) k ≡ at l k

  pub is_set : (l : List (Standing A)) (i : ℕ) (s : Standing A) → i < length l → IsSet l i s
  is_set l i s h = record { here = get_or-set_same l i s (NoObject None) h; others = λ k apart. get_or-set_other l i k s (NoObject None) apart }

-- Chains that end.
use Rattle.std.proofs.Common.{◌≡◌, ◌<◌, ◌≤◌, ◌+◌, ℕ, zero, suc, Bool, true, false, List, [], ◌∷◌, Option, Some, None, refl, sym, ap, ◌∙◌, arith, subst, length, replicate}
use Rattle.std.proofs.lemmas.Bool.Decides.{nat_tests}
use Rattle.std.proofs.lemmas.Map.Steps.{length-le_from_distinct_below}
use Rattle.std.proofs.lemmas.Option.{slice_get_past}
use Rattle.std.specs.Prelude.{nat_eq, slice_get, slice_set, ◌||◌}
use Rattle.std.specs.List.{AllByRecursion, IsDistinct, list_any}
use Rattle.sim_scope.specs.Levels.{base, base_in}
use Rattle.sim_scope.specs.Tables.{Tables}
use Rattle.prefix_bind.specs.Prefixes.{cells_at, is_in_own_chain, level_cells, level_cells_of, sum_beyond}
use Rattle.prefix_bind.specs.Sums.{Ends, EndsWith, cells_in, inside, nowhere, outermost}
use Rattle.prefix_bind.proofs.ChainLevels.{Levels, in_no_cycle, last, more}

module _ (s : Tables) where
  pub no_base : (b : ℕ) → length s.blocks ≤ b → base s b ≡ None
  unfolding base
  no_base b le = ap base_in (slice_get_past s.blocks b le)

  -- A chain that ends has as many levels as there are blocks at most.
  one_count : (n m b v w : ℕ) → Ends s n b v → Ends s m b w → n ≡ m
  one_count n m b v w (nowhere le) (nowhere other) = refl
  one_count n m b v w (nowhere le) (outermost other out) = absurd (omega arith)
  one_count n m b v w (nowhere le) (inside other out ends) = absurd (omega arith)
  one_count n m b v w (outermost le out) (nowhere other) = absurd (omega arith)
  one_count n m b v w (outermost le out) (outermost other also) = refl
  one_count n m b v w (outermost le out) (inside other also ends) = absurd (cc)
  one_count n m b v w (inside le out ends) (nowhere other) = absurd (omega arith)
  one_count n m b v w (inside le out ends) (outermost other also) = absurd (cc)
  one_count n m b v w (inside {n = k} {p = p} {cells = x} le out ends) (inside {n = l} {p = q} {cells = y} other also far) =
      let same : q ≡ p = cc in ap suc (one_count k l p x y ends (subst (λ z. Ends s l z y) same far))

  levels : (n b v : ℕ) → Ends s n b v → List ℕ
  levels n b v (nowhere le) = []
  levels n b v (outermost le out) = b ∷ []
  levels n b v (inside {n = k} {p = p} {cells = x} le out ends) = b ∷ levels k p x ends

  as_many : (n b v : ℕ) (e : Ends s n b v) → length (levels n b v e) ≡ n
  unfolding levels
  as_many n b v (nowhere le) = refl
  as_many n b v (outermost le out) = refl
  as_many n b v (inside {n = k} {p = p} {cells = x} le out ends) = let e = as_many k p x ends in omega arith

  equal : (a b : ℕ) → nat_eq a b ≡ true → a ≡ b
  equal a b h = grind (arith, nat_tests)

  either : (t u : Bool) {P : Type 0} → (t || u) ≡ true → (t ≡ true → P) → (u ≡ true → P) → P
  either true u h f g = f refl
  either false u h f g = g h

  in_tables : (n b v : ℕ) (e : Ends s n b v) (q : ℕ) → list_any (nat_eq q) (levels n b v e) ≡ true → q < length s.blocks
  unfolding levels
  in_tables n b v (nowhere le) q h = absurd (cc)
  in_tables n b v (outermost le out) q h = either (nat_eq q b) false h (λ e. subst (λ z. z < length s.blocks) (sym (equal q b e)) le) (λ e. absurd (cc))
  in_tables n b v (inside {n = k} {p = p} {cells = x} le out ends) q h =
      either (nat_eq q b) (list_any (nat_eq q) (levels k p x ends)) h (λ e. subst (λ z. z < length s.blocks) (sym (equal q b e)) le) (in_tables k p x ends q)

  unlike : (c m w b n v : ℕ) → Ends s m c w → Ends s n b v → n < m → nat_eq c b ≡ false
  unlike c m w b n v y x le = test (nat_eq c b) refl
    where
      test : (t : Bool) → nat_eq c b ≡ t → nat_eq c b ≡ false
      test true e = absurd (let f = one_count m n b w v (subst (λ z. Ends s m z w) (equal c b e) y) x in omega arith)
      test false e = e

  apart_from : (m c w n b v : ℕ) → Ends s m c w → (x : Ends s n b v) → n < m → AllByRecursion (λ y. nat_eq c y ≡ false) (levels n b v x)
  unfolding levels
  apart_from m c w n b v y (nowhere le) less = tt
  apart_from m c w n b v y (outermost le out) less = (unlike c m w b 1 (cells_in s b) y (outermost le out) less, tt)
  apart_from m c w n b v y (inside {n = k} {p = p} {cells = x} le out ends) less =
      (unlike c m w b (suc k) (cells_in s b + x) y (inside le out ends) less, apart_from m c w k p x y ends (omega arith))

  all_apart : (n b v : ℕ) (x : Ends s n b v) → IsDistinct nat_eq (levels n b v x)
  unfolding levels IsDistinct
  all_apart n b v (nowhere le) = tt
  all_apart n b v (outermost le out) = (tt, tt)
  all_apart n b v (inside {n = k} {p = p} {cells = x} le out ends) = (apart_from (suc k) b (cells_in s b + x) k p x (inside le out ends) ends (omega arith), all_apart k p x ends)

  pub at_most : (n b v : ℕ) → Ends s n b v → n ≤ length s.blocks
  at_most n b v x =
      let e = as_many n b v x in
      let le = length-le_from_distinct_below (levels n b v x) (length s.blocks) (all_apart n b v x) (in_tables n b v x) in omega arith

  -- the cells of its levels
  cells_by : (m n b v : ℕ) → Ends s n b v → n ≤ m → level_cells_of s m b ≡ v
  unfolding level_cells_of
  cells_by zero n b v (nowhere le) few = refl
  cells_by (suc m) n b v (nowhere le) few =
      let e : cells_at s (slice_get s.blocks b) ≡ 0 = ap (cells_at s) (slice_get_past s.blocks b le) in
      let f : sum_beyond (λ c. level_cells_of s m c) (base s b) ≡ 0 = ap (sum_beyond (λ c. level_cells_of s m c)) (no_base b le) in omega arith
  cells_by zero n b v (outermost le out) few = absurd (omega arith)
  cells_by (suc m) n b v (outermost le out) few =
      let f : sum_beyond (λ c. level_cells_of s m c) (base s b) ≡ 0 = ap (sum_beyond (λ c. level_cells_of s m c)) out in omega arith
  cells_by zero n b v (inside le out ends) few = absurd (omega arith)
  cells_by (suc m) n b v (inside {n = k} {p = p} {cells = x} le out ends) few =
      ap (λ z. cells_in s b + z) (ap (sum_beyond (λ c. level_cells_of s m c)) out ∙ cells_by m k p x ends (omega arith))

  pub all_cells : (b v : ℕ) → EndsWith s b v → level_cells s b ≡ v
  unfolding level_cells
  all_cells b v x = cells_by (length s.blocks) x.0 b v x.1 (at_most x.0 b v x.1)

  -- it is in no cycle
  counted : (n b v : ℕ) → Ends s n b v → (k : ℕ) × Levels s k b
  counted n b v (nowhere le) = (1, last (no_base b le))
  counted n b v (outermost le out) = (1, last out)
  counted n b v (inside {n = k} {p = p} {cells = x} le out ends) = let h = counted k p x ends in (suc h.0, more out h.1)

  pub no_cycle : (b v : ℕ) → EndsWith s b v → is_in_own_chain s b ≡ false
  no_cycle b v x = let h = counted x.0 b v x.1 in in_no_cycle s h.0 b h.1

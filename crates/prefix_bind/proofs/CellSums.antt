-- The cells of all levels, one level at a time.
use Rattle.std.proofs.Common.{◌≡◌, ◌<◌, ◌≤◌, ◌+◌, ◌-◌, ℕ, suc, true, false, Option, Some, None, refl, sym, ap, ◌∙◌, arith}
use Rattle.std.proofs.lemmas.Bool.Decides.{nat_tests}
use Rattle.std.specs.Prelude.{nat_lt, slice_get}
use Rattle.sim_scope.specs.Levels.{base}
use Rattle.sim_scope.specs.Tables.{Tables}
use Rattle.prefix_bind.specs.Prefixes.{cells_at, level_cells_of, sum_beyond}

over : (room cells rest all : ℕ) → all ≡ cells + rest → room < cells → nat_lt room all ≡ true
over room cells rest all is more = grind (arith, nat_tests)

under : (room cells rest all : ℕ) → all ≡ cells + rest → cells ≤ room → nat_lt room all ≡ nat_lt (room - cells) rest
under room cells rest all is le = grind (arith, nat_tests)

nothing : (room all : ℕ) → all ≡ 0 → nat_lt room all ≡ false
nothing room all is = grind (arith, nat_tests)

module _ (s : Tables) where
  more_cells : (n i c : ℕ) (outside : Option ℕ) → i < n → base s c ≡ outside
      → level_cells_of s (n - i) c ≡ cells_at s (slice_get s.blocks c) + sum_beyond (λ b. level_cells_of s (n - (i + 1)) b) outside
  unfolding level_cells_of
  more_cells n i c outside le out =
      let e : n - i ≡ suc (n - (i + 1)) = omega arith in
      ap (λ m. level_cells_of s m c) e ∙ ap (λ o. cells_at s (slice_get s.blocks c) + sum_beyond (λ b. level_cells_of s (n - (i + 1)) b) o) out

  pub cells_over : (n i c room cells : ℕ) → i < n → cells ≡ cells_at s (slice_get s.blocks c) → room < cells → nat_lt room (level_cells_of s (n - i) c) ≡ true
  cells_over n i c room cells le is more =
      over room cells (sum_beyond (λ b. level_cells_of s (n - (i + 1)) b) (base s c)) _ (more_cells n i c (base s c) le refl ∙ ap (λ k. k + sum_beyond (λ b. level_cells_of s (n - (i + 1)) b) (base s c)) (sym is)) more

  pub cells_last : (n i c room cells : ℕ) → i < n → cells ≡ cells_at s (slice_get s.blocks c) → cells ≤ room → base s c ≡ None → nat_lt room (level_cells_of s (n - i) c) ≡ false
  cells_last n i c room cells le is few out = under room cells 0 _ (more_cells n i c None le out ∙ ap (λ k. k + 0) (sym is)) few ∙ nothing (room - cells) 0 refl

  pub cells_next : (n i c d room cells : ℕ) → i < n → cells ≡ cells_at s (slice_get s.blocks c) → cells ≤ room → base s c ≡ Some d
      → nat_lt room (level_cells_of s (n - i) c) ≡ nat_lt (room - cells) (level_cells_of s (n - (i + 1)) d)
  cells_next n i c d room cells le is few out =
      under room cells (level_cells_of s (n - (i + 1)) d) _ (more_cells n i c (Some d) le out ∙ ap (λ k. k + level_cells_of s (n - (i + 1)) d) (sym is)) few

  pub cells_none : (n i c room : ℕ) → n ≤ i → nat_lt room (level_cells_of s (n - i) c) ≡ false
  unfolding level_cells_of
  cells_none n i c room le = let e : n - i ≡ 0 = omega arith in nothing room (level_cells_of s (n - i) c) (ap (λ m. level_cells_of s m c) e)

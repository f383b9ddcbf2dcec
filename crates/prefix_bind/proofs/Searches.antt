-- One level at a time.
use Rattle.std.proofs.Common.{◌≡◌, ℕ, suc, Bool, true, false, ◌||◌, Some, None, refl, ap, ◌∙◌}
use Rattle.sim_scope.specs.Levels.{base, holds, some_level_of}
use Rattle.sim_scope.specs.Tables.{Tables}

module _ (s : Tables) (test : ℕ → Bool) where
  pub level_here : (m c : ℕ) → test c ≡ true → some_level_of s (suc m) test c ≡ true
  unfolding some_level_of
  level_here m c is = ap (λ t. t || holds (λ b. some_level_of s m test b) (base s c)) is

  pub level_last : (m c : ℕ) → test c ≡ false → base s c ≡ None → some_level_of s (suc m) test c ≡ false
  unfolding some_level_of
  level_last m c is out = ap (λ t. t || holds (λ b. some_level_of s m test b) (base s c)) is ∙ ap (holds (λ b. some_level_of s m test b)) out

  pub level_next : (m c d : ℕ) → test c ≡ false → base s c ≡ Some d → some_level_of s (suc m) test c ≡ some_level_of s m test d
  unfolding some_level_of
  level_next m c d is out = ap (λ t. t || holds (λ b. some_level_of s m test b) (base s c)) is ∙ ap (holds (λ b. some_level_of s m test b)) out

  pub level_none : (c : ℕ) → some_level_of s 0 test c ≡ false
  unfolding some_level_of
  level_none c = refl

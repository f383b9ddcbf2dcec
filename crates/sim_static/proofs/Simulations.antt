-- The nearest simulation, one block outward after another.
use Rattle.std.proofs.Common.{◌≡◌, ℕ, zero, suc, Option, Some, None, refl, ap, length}
use Rattle.std.specs.Option.{option_or}
use Rattle.sim_scope.specs.Access.{encloser}
use Rattle.sim_scope.specs.Along.{first_along, from_next}
use Rattle.sim_scope.specs.Levels.{level_beyond, simulation_level_of}
use Rattle.sim_scope.specs.Statements.{simulation_of}
use Rattle.sim_scope.specs.Tables.{Tables}

module _ (s : Tables) where
  pub outward : (m : ℕ) (b : ℕ) → first_along (encloser s) m (λ b. simulation_level_of s (length s.blocks) b) b ≡ simulation_of s m b
  unfolding first_along simulation_of
  outward zero b = refl
  outward (suc m) b = ap (λ x. option_or (simulation_level_of s (length s.blocks) b) x) (go (λ p. outward m p) (encloser s b))
    where
      go : ((p : ℕ) → first_along (encloser s) m (λ b. simulation_level_of s (length s.blocks) b) p ≡ simulation_of s m p) → (o : Option ℕ)
          → from_next (λ b. first_along (encloser s) m (λ b. simulation_level_of s (length s.blocks) b) b) o ≡ level_beyond (λ b. simulation_of s m b) o
      go deep None = refl
      go deep (Some p) = deep p

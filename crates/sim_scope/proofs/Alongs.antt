-- The searches of the definitions are walks from block to block.
use Rattle.std.proofs.Common.{◌≡◌, ◌||◌, ℕ, zero, suc, Bool, true, false, if◌then◌else◌, List, Option, Some, None, refl, ap, length, ◌∙◌, sym}
use Rattle.std.specs.Option.{option_or}
use Rattle.sim_scope.specs.Access.{encloser, holds_at, protector_of, protects, some_around_of}
use Rattle.sim_scope.specs.Along.{at_next, first_along, from_next, some_along}
use Rattle.sim_scope.specs.Levels.{base, has_level, holds, is_simulation_block, level_beyond, shared_level_of, simulation_level_of, some_level, some_level_of}
use Rattle.sim_scope.specs.Scopes.{beyond, level_shows, lookup, outward, searched, shown, shown_of, virtual_among, virtual_of}
use Rattle.sim_scope.specs.Tables.{Tables}

module _ (s : Tables) where
  pub levels_along : (m : ℕ) (t : ℕ → Bool) (b : ℕ) → some_along (base s) m t b ≡ some_level_of s m t b
  unfolding some_along some_level_of
  levels_along zero t b = refl
  levels_along (suc m) t b = ap (λ x. t b || x) (go (λ p. levels_along m t p) (base s b))
    where
      go : ((p : ℕ) → some_along (base s) m t p ≡ some_level_of s m t p) → (o : Option ℕ)
          → at_next (λ b. some_along (base s) m t b) o ≡ holds (λ b. some_level_of s m t b) o
      go deep None = refl
      go deep (Some p) = deep p

  pub around_along : (m : ℕ) (t : ℕ → Bool) (b : ℕ) → some_along (encloser s) m t b ≡ some_around_of s m t b
  unfolding some_along some_around_of
  around_along zero t b = refl
  around_along (suc m) t b = ap (λ x. t b || x) (go (λ p. around_along m t p) (encloser s b))
    where
      go : ((p : ℕ) → some_along (encloser s) m t p ≡ some_around_of s m t p) → (o : Option ℕ)
          → at_next (λ b. some_along (encloser s) m t b) o ≡ holds_at (λ b. some_around_of s m t b) o
      go deep None = refl
      go deep (Some p) = deep p

  -- where all blocks are the fuel
  pub levels_counted : (m : ℕ) (t : ℕ → Bool) (b : ℕ) → m ≡ length s.blocks → some_along (base s) m t b ≡ some_level s t b
  levels_counted m t b is = ap (λ m. some_along (base s) m t b) is ∙ levels_along (length s.blocks) t b

  pub around_counted : (m : ℕ) (t : ℕ → Bool) (b : ℕ) (o : Option ℕ) → m ≡ length s.blocks → o ≡ Some b → some_along (encloser s) m t b ≡ holds_at (λ b. some_around_of s (length s.blocks) t b) o
  around_counted m t b o is at =
      ap (λ m. some_along (encloser s) m t b) is ∙ around_along (length s.blocks) t b ∙ ap (holds_at (λ b. some_around_of s (length s.blocks) t b)) (sym at)

  choice : {A : Type 0} (c : Bool) (x : A) (rest : Option A) → option_or (if c then Some x else None) rest ≡ (if c then Some x else rest)
  choice true x rest = refl
  choice false x rest = refl

  pub simulation_along : (m : ℕ) (b : ℕ) → first_along (base s) m (λ b. if is_simulation_block s b then Some b else None) b ≡ simulation_level_of s m b
  unfolding first_along simulation_level_of
  simulation_along zero b = refl
  simulation_along (suc m) b = choice (is_simulation_block s b) b _ ∙ ap (λ x. if is_simulation_block s b then Some b else x) (go (λ p. simulation_along m p) (base s b))
    where
      go : ((p : ℕ) → first_along (base s) m (λ b. if is_simulation_block s b then Some b else None) p ≡ simulation_level_of s m p) → (o : Option ℕ)
          → from_next (λ b. first_along (base s) m (λ b. if is_simulation_block s b then Some b else None) b) o ≡ level_beyond (λ b. simulation_level_of s m b) o
      go deep None = refl
      go deep (Some p) = deep p

  pub shared_along : (m other : ℕ) (b : ℕ) → first_along (base s) m (λ b. if has_level s other b then Some b else None) b ≡ shared_level_of s m other b
  unfolding first_along shared_level_of
  shared_along zero other b = refl
  shared_along (suc m) other b = choice (has_level s other b) b _ ∙ ap (λ x. if has_level s other b then Some b else x) (go (λ p. shared_along m other p) (base s b))
    where
      go : ((p : ℕ) → first_along (base s) m (λ b. if has_level s other b then Some b else None) p ≡ shared_level_of s m other p) → (o : Option ℕ)
          → from_next (λ b. first_along (base s) m (λ b. if has_level s other b then Some b else None) b) o ≡ level_beyond (λ b. shared_level_of s m other b) o
      go deep None = refl
      go deep (Some p) = deep p

  pub protector_along : (m : ℕ) (name : List ℕ) (b : ℕ) → first_along (base s) m (λ b. if protects s b name then Some b else None) b ≡ protector_of s m b name
  unfolding first_along protector_of
  protector_along zero name b = refl
  protector_along (suc m) name b = choice (protects s b name) b _ ∙ ap (λ x. if protects s b name then Some b else x) (go (λ p. protector_along m name p) (base s b))
    where
      go : ((p : ℕ) → first_along (base s) m (λ b. if protects s b name then Some b else None) p ≡ protector_of s m p name) → (o : Option ℕ)
          → from_next (λ b. first_along (base s) m (λ b. if protects s b name then Some b else None) b) o ≡ level_beyond (λ b. protector_of s m b name) o
      go deep None = refl
      go deep (Some p) = deep p

  pub shown_along : (m : ℕ) (from : Option ℕ) (name : List ℕ) (b : ℕ) → first_along (base s) m (λ b. level_shows s from b name) b ≡ shown_of s m from b name
  unfolding first_along shown_of
  shown_along zero from name b = refl
  shown_along (suc m) from name b = ap (λ x. option_or (level_shows s from b name) x) (go (λ p. shown_along m from name p) (base s b))
    where
      go : ((p : ℕ) → first_along (base s) m (λ b. level_shows s from b name) p ≡ shown_of s m from p name) → (o : Option ℕ)
          → from_next (λ b. first_along (base s) m (λ b. level_shows s from b name) b) o ≡ beyond (λ b. shown_of s m from b name) o
      go deep None = refl
      go deep (Some p) = deep p

  pub searched_along : (m : ℕ) (from : Option ℕ) (name : List ℕ) (b : ℕ) → first_along (λ b. outward s b name) m (λ b. shown s from b name) b ≡ searched s from m b name
  unfolding first_along searched
  searched_along zero from name b = refl
  searched_along (suc m) from name b = ap (λ x. option_or (shown s from b name) x) (go (λ p. searched_along m from name p) (outward s b name))
    where
      go : ((p : ℕ) → first_along (λ b. outward s b name) m (λ b. shown s from b name) p ≡ searched s from m p name) → (o : Option ℕ)
          → from_next (λ b. first_along (λ b. outward s b name) m (λ b. shown s from b name) b) o ≡ beyond (λ b. searched s from m b name) o
      go deep None = refl
      go deep (Some p) = deep p

  pub searched_counted : (m : ℕ) (from : Option ℕ) (name : List ℕ) (b : ℕ) → m ≡ length s.blocks → first_along (λ b. outward s b name) m (λ b. shown s from b name) b ≡ searched s from (length s.blocks) b name
  searched_counted m from name b is = searched_along m from name b ∙ ap (λ m. searched s from m b name) is

  pub virtual_along : (m : ℕ) (name : List ℕ) (b : ℕ) → first_along (base s) m (λ b. virtual_among s (lookup s b name)) b ≡ virtual_of s m b name
  unfolding first_along virtual_of
  virtual_along zero name b = refl
  virtual_along (suc m) name b = ap (λ x. option_or (virtual_among s (lookup s b name)) x) (go (λ p. virtual_along m name p) (base s b))
    where
      go : ((p : ℕ) → first_along (base s) m (λ b. virtual_among s (lookup s b name)) p ≡ virtual_of s m p name) → (o : Option ℕ)
          → from_next (λ b. first_along (base s) m (λ b. virtual_among s (lookup s b name)) b) o ≡ beyond (λ b. virtual_of s m b name) o
      go deep None = refl
      go deep (Some p) = deep p

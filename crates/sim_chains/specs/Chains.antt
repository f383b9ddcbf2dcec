-- Chains, from the innermost to the outermost, and how they are cut.
--
-- On a chain stand activations, of whatever type A. The owner of an activation is the instance whose own activation it is; that of
-- a thunk has none, since it works for an instance whose own activation stands further out.
use Rattle.std.specs.Prelude.{ℕ, ◌+◌, Bool, false, ◌||◌, ◌&&◌, ◌==◌, if◌then◌else◌, List, [], ◌∷◌, ◌++◌, Option, Some, None}
use Rattle.std.specs.Option.{option_map}

-- whether an owner is the instance x
abbrev pub is_instance : ℕ → Option ℕ → Bool
is_instance x None = false
is_instance x (Some y) = y == x

-- a chain that is cut at an activation: what stands above it, the activation, and what stands below it
pub record Cut (A : Type 0) : Type 0 where
  pub above : List A
  pub here : A
  pub below : List A

abbrev pub under : {A : Type 0} → A → Cut A → Cut A
under a c = record { above = a ∷ c.above; here = c.here; below = c.below }

-- the chain that was cut
abbrev pub joined : {A : Type 0} → Cut A → List A
joined c = c.above ++ c.here ∷ c.below

-- the part above the cut with the activation itself
abbrev pub upper : {A : Type 0} → Cut A → List A
upper c = c.above ++ c.here ∷ []

abbrev pub once_if : Bool → ℕ
once_if b = if b then 1 else 0

module _ {A : Type 0} (owner : A → Option ℕ) where
  -- an instance stands on a chain
  abbrev pub stands_on : ℕ → List A → Bool
  stands_on x [] = false
  stands_on x (a ∷ l) = is_instance x (owner a) || stands_on x l

  -- the cut at the innermost place of an instance; none where it does not stand on the chain
  abbrev pub cut_at : ℕ → List A → Option (Cut A)
  cut_at x [] = None
  cut_at x (a ∷ l) = if is_instance x (owner a) then Some (record { above = []; here = a; below = l }) else option_map (under a) (cut_at x l)

  -- how often an instance stands there
  abbrev pub times_on : ℕ → List A → ℕ
  times_on x [] = 0
  times_on x (a ∷ l) = once_if (is_instance x (owner a)) + times_on x l

  -- whether an instance stands first
  abbrev pub is_first : ℕ → List A → Bool
  is_first x [] = false
  is_first x (a ∷ l) = is_instance x (owner a)

  -- how often the instance x stands directly above y
  abbrev pub times_above : ℕ → ℕ → List A → ℕ
  times_above x y [] = 0
  times_above x y (a ∷ l) = once_if (is_instance x (owner a) && is_first y l) + times_above x y l

  -- the owner of the outermost activation
  abbrev pub outermost : List A → Option ℕ
  outermost [] = None
  outermost (a ∷ []) = owner a
  outermost (a ∷ b ∷ l) = outermost (b ∷ l)

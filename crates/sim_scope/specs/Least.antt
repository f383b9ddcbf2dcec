-- The answer of a round: the least of the rules that are broken.
use Rattle.std.specs.Prelude.{◌≡◌, ℕ, false, List, [], ◌∷◌, Option, Some, None}
use Rattle.sim_scope.specs.declared.found.Fault.{Fault}
use Rattle.sim_scope.specs.declared.scopes.Denotation.{Denotation}
use Rattle.sim_scope.specs.declared.types.SimType.{SimType}
use Rattle.sim_scope.specs.Found.{Event, Broken, FoundIn, Uses, Typed, after, fault, precedes}

-- the broken rules among what is found
abbrev pub faults : List Event → List Fault
faults [] = []
faults (Broken token rule ∷ es) = fault token rule ∷ faults es
faults (Uses token d ∷ es) = faults es
faults (FoundIn token block ∷ es) = faults es
faults (Typed token ty ∷ es) = faults es

-- a fault of the list
pub data Among : List Fault → Fault → Type 0 where
  here : {x : Fault} {xs : List Fault} → Among (x ∷ xs) x
  there : {x y : Fault} {xs : List Fault} → Among xs x → Among (y ∷ xs) x

-- none of the list stands before the answer, which is one of them; no answer where there is none
pub data IsLeast (xs : List Fault) : Option Fault → Type 0 where
  nothing : xs ≡ [] → IsLeast xs None
  least : {x : Fault} → Among xs x → ((y : Fault) → Among xs y → precedes y x ≡ false) → IsLeast xs (Some x)

-- the least fault that is found
abbrev pub least_found : List Event → List (Option Denotation) → List (Option ℕ) → List (Option SimType) → Option Fault
least_found es uses found_in types = (after (record { least = None; uses = uses; found_in = found_in; types = types }) es).least

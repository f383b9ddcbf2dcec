-- A judgement: what a piece of a program is, and what it contributes.
use Rattle.std.specs.Prelude.{◌≡◌, ℕ, Bool, true, false, List, [], ◌∷◌, ◌++◌}
use Rattle.sim_base.specs.declared.rule.Rule.{Rule}
use Rattle.sim_scope.specs.Found.{Event, Broken, Findings, after}

pub record Judged (A : Type 0) : Type 0 where
  pub value : A
  pub events : List Event

-- a piece that contributes nothing
unfoldable pub gives : {A : Type 0} → A → Judged A
gives x = record { value = x; events = [] }

-- a piece that contributes one thing
unfoldable pub telling : {A : Type 0} → Event → A → Judged A
telling event x = record { value = x; events = event ∷ [] }

-- a rule at a token, which is broken there where this is so
unfoldable pub bars : Bool → (token : ℕ) → Rule → Judged Bool
bars true token rule = telling (Broken token rule) true
bars false token rule = gives false

-- a piece, and then one that depends on what the first is
unfoldable pub next : {A B : Type 0} → Judged A → (A → Judged B) → Judged B
next x f = let y = f x.value in record { value = y.value; events = x.events ++ y.events }

-- what was found and what is answered are the judgement's
pub record Judges {A : Type 0} (old new : Findings) (value : A) (j : Judged A) : Type 0 where
  pub is : value ≡ j.value
  pub finds : new ≡ after old j.events

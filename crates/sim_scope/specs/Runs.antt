-- One step after another.
use Rattle.std.specs.Prelude.{◌≡◌, ℕ, List, [], ◌∷◌, ◌++◌, drop}

-- where a list of events leads
unfoldable pub run : {S E : Type 0} → (S → E → S) → S → List E → S
run step s [] = s
run step s (e ∷ es) = run step (step s e) es

-- from one state to the other
unfoldable pub Runs : {S E : Type 0} → (S → E → S) → S → S → List E → Type 0
Runs step from to events = to ≡ run step from events

-- what each of a list gives, one after the other
abbrev pub each : {A E : Type 0} → (A → List E) → List A → List E
each f [] = []
each f (x ∷ xs) = f x ++ each f xs

-- in a loop: what is left leads to where the whole leads
unfoldable pub Leads : {A S E : Type 0} → (S → E → S) → (A → List E) → S → List A → S → ℕ → Type 0
Leads step f s xs now i = run step now (each f (drop i xs)) ≡ run step s (each f xs)

-- What the events of the last round say, as the source has it: no rule is broken, and each use, each block in which something is found and each
-- type is the one at its token; a standard name is found in no block.
use Rattle.std.proofs.Common.{◌≡◌, List, [], ◌∷◌, ◌++◌, Some, None, true, refl}
use Rattle.sim_scope.specs.Found.{Event, Broken, FoundIn, Typed, Uses}
use Rattle.sim_scope.specs.Judged.{Judged, next}
use Rattle.sim_scope.specs.Runs.{each}
use Rattle.sim_scope.specs.Source.{Source, denoted, found_at, type_at}
use Rattle.sim_allowed.proofs.Nowhere.{is_nowhere}

abbrev pub Says : Source → Event → Type 0
Says s (Broken token rule) = ⊥
Says s (Uses token d) = (denoted s token ≡ Some d) × (is_nowhere d ≡ true → found_at s token ≡ None)
Says s (FoundIn token block) = found_at s token ≡ Some block
Says s (Typed token ty) = type_at s token ≡ Some ty

abbrev pub AllSay : Source → List Event → Type 0
AllSay s [] = Unit {0}
AllSay s (e ∷ es) = Says s e × AllSay s es

pub both_say : (s : Source) (xs ys : List Event) → AllSay s (xs ++ ys) → AllSay s xs × AllSay s ys
both_say s [] ys a = (tt, a)
both_say s (x ∷ xs) ys a = let r = both_say s xs ys a.1 in ((a.0, r.0), r.1)

-- of a judgement
abbrev pub Says_all : {A : Type 0} → Source → Judged A → Type 0
Says_all s j = AllSay s j.events

-- a judgement, and the one that depends on it
pub next_says : {A B : Type 0} (s : Source) (j : Judged A) (f : A → Judged B) → AllSay s (next j f).events → AllSay s j.events × AllSay s (f j.value).events
unfolding next
next_says s j f a = both_say s j.events (f j.value).events a

pub next_is : {A B : Type 0} (j : Judged A) (f : A → Judged B) → (next j f).value ≡ (f j.value).value
unfolding next
next_is j f = refl

-- of each element of a list
abbrev pub EachSays : {A : Type 0} → Source → (A → List Event) → List A → Type 0
EachSays s f [] = Unit {0}
EachSays s f (x ∷ xs) = AllSay s (f x) × EachSays s f xs

pub each_says : {A : Type 0} (s : Source) (f : A → List Event) (xs : List A) → AllSay s (each f xs) → EachSays s f xs
each_says s f [] a = tt
each_says s f (x ∷ xs) a = let r = both_say s (f x) (each f xs) a in (r.0, each_says s f xs r.1)

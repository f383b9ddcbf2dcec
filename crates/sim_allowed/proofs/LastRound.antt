-- What the source has of a token is what the last round tells of it.
use Rattle.std.proofs.Common.{◌≡◌, ◌≤◌, ◌<◌, ◌+◌, ◌⊎◌, inl, inr, ℕ, zero, suc, Bool, true, false, List, [], ◌∷◌, length, Option, Some, None, refl, sym, ap, ◌∙◌, subst, arith, if◌then◌else◌}
use Rattle.std.proofs.lemmas.Bool.Decides.{nat_tests}
use Rattle.std.proofs.lemmas.List.{length-replicate, length-set}
use Rattle.std.specs.Prelude.{nat_eq, replicate, slice_get}
use Rattle.sim_scope.specs.declared.found.Fault.{Fault}
use Rattle.sim_scope.specs.declared.scopes.Denotation.{Denotation}
use Rattle.sim_scope.specs.declared.types.SimType.{SimType}
use Rattle.sim_scope.specs.Found.{Broken, Event, Findings, FoundIn, Typed, Uses, after, found, unknown}
use Rattle.sim_scope.specs.Least.{IsLeast, faults, least, nothing}
use Rattle.sim_scope.specs.Runs.{run}
use Rattle.sim_scope.specs.Access.{joined}
use Rattle.sim_scope.specs.Source.{Source, denoted, found_at, type_at}
use Rattle.sim_scope.proofs.Kept.{set_here, set_other}
use Rattle.sim_scope.proofs.Leasts.{least_law}
use Rattle.sim_allowed.proofs.Counts.{About, Kind, Place, Use, here, tells, told}
use Rattle.sim_allowed.proofs.Nowhere.{is_nowhere}
use Rattle.sim_allowed.proofs.Said.{AllSay}

-- ---- no rule is broken

abbrev Unbroken : List Event → Type 0
Unbroken [] = Unit {0}
Unbroken (Broken token rule ∷ es) = ⊥
Unbroken (Uses token d ∷ es) = Unbroken es
Unbroken (FoundIn token block ∷ es) = Unbroken es
Unbroken (Typed token ty ∷ es) = Unbroken es

none_of : (xs : List Fault) (o : Option Fault) → IsLeast xs o → o ≡ None → xs ≡ []
none_of xs None (nothing e) h = e
none_of xs (Some x) (least a b) h = absurd (cc)

unbroken : (es : List Event) → faults es ≡ [] → Unbroken es
unbroken [] e = tt
unbroken (Broken token rule ∷ es) e = absurd (cc)
unbroken (Uses token d ∷ es) e = unbroken es e
unbroken (FoundIn token block ∷ es) e = unbroken es e
unbroken (Typed token ty ∷ es) e = unbroken es e

no_faults : (n : ℕ) (es : List Event) → (after (unknown n) es).least ≡ None → Unbroken es
no_faults n es e = unbroken es (none_of (faults es) (after (unknown n) es).least (least_law es (replicate n None) (replicate n None) (replicate n None)) e)

-- ---- rows

other_token : (k : ℕ) (i : ℕ) (rest : ℕ) → here k i + rest ≡ 0 → nat_eq i k ≡ false
other_token k i rest e = go (nat_eq k i) refl e
  where
    go : (b : Bool) → nat_eq k i ≡ b → (if b then 1 else 0) + rest ≡ 0 → nat_eq i k ≡ false
    go true is e = absurd (omega (arith, e))
    go false is e = grind (arith, nat_tests, is)

none_more : (a b : ℕ) → a + b ≡ 0 → b ≡ 0
none_more a b e = omega (arith, e)

-- a row of which nothing more is told
use_stays : (es : List Event) (f : Findings) (k : ℕ) → told Use k es ≡ 0 → slice_get (after f es).uses k ≡ slice_get f.uses k
unfolding run found told
use_stays [] f k e = refl
use_stays (Broken token rule ∷ es) f k e = use_stays es (found f (Broken token rule)) k (none_more 0 (told Use k es) e)
use_stays (Uses i d ∷ es) f k e =
    use_stays es (found f (Uses i d)) k (none_more (here k i) (told Use k es) e) ∙ set_other f.uses i k (Some d) (other_token k i (told Use k es) e)
use_stays (FoundIn i b ∷ es) f k e = use_stays es (found f (FoundIn i b)) k (none_more 0 (told Use k es) e)
use_stays (Typed i ty ∷ es) f k e = use_stays es (found f (Typed i ty)) k (none_more 0 (told Use k es) e)

place_stays : (es : List Event) (f : Findings) (k : ℕ) → told Place k es ≡ 0 → slice_get (after f es).found_in k ≡ slice_get f.found_in k
unfolding run found told
place_stays [] f k e = refl
place_stays (Broken token rule ∷ es) f k e = place_stays es (found f (Broken token rule)) k (none_more 0 (told Place k es) e)
place_stays (FoundIn i b ∷ es) f k e =
    place_stays es (found f (FoundIn i b)) k (none_more (here k i) (told Place k es) e) ∙ set_other f.found_in i k (Some b) (other_token k i (told Place k es) e)
place_stays (Uses i d ∷ es) f k e = place_stays es (found f (Uses i d)) k (none_more (tells Place k (Uses i d)) (told Place k es) e)
place_stays (Typed i ty ∷ es) f k e = place_stays es (found f (Typed i ty)) k (none_more 0 (told Place k es) e)

type_stays : (es : List Event) (f : Findings) (k : ℕ) → told Kind k es ≡ 0 → slice_get (after f es).types k ≡ slice_get f.types k
unfolding run found told
type_stays [] f k e = refl
type_stays (Broken token rule ∷ es) f k e = type_stays es (found f (Broken token rule)) k (none_more 0 (told Kind k es) e)
type_stays (Typed i ty ∷ es) f k e =
    type_stays es (found f (Typed i ty)) k (none_more (here k i) (told Kind k es) e) ∙ set_other f.types i k (Some ty) (other_token k i (told Kind k es) e)
type_stays (FoundIn i b ∷ es) f k e = type_stays es (found f (FoundIn i b)) k (none_more 0 (told Kind k es) e)
type_stays (Uses i d ∷ es) f k e = type_stays es (found f (Uses i d)) k (none_more 0 (told Kind k es) e)

row_within : {A : Type 0} (xs : List A) (k : ℕ) → k < length xs → (x : A) × (slice_get xs k ≡ Some x)
row_within [] k le = absurd (omega (arith, le))
row_within (x ∷ xs) zero le = (x, refl)
row_within (x ∷ xs) (suc k) le = row_within xs k (omega (arith, le))

itself_here : (k : ℕ) → here k k ≡ 1
itself_here k = go (nat_eq k k) refl
  where
    go : (b : Bool) → nat_eq k k ≡ b → ◌≡◌ {A = ℕ} (if b then 1 else 0) 1
    go true e = refl
    go false e = absurd (grind (arith, nat_tests, e))

last_one : (k rest : ℕ) → here k k + rest ≤ 1 → rest ≡ 0
last_one k rest le = let h = itself_here k in omega (arith, le, h)

one_less : (a b : ℕ) → a + b ≤ 1 → b ≤ 1
one_less a b le = omega (arith, le)

-- an event is among others
abbrev pub HasEvent : Event → List Event → Type 0
HasEvent e [] = ⊥
HasEvent e (x ∷ xs) = (e ≡ x) ⊎ HasEvent e xs

use_told : (es : List Event) (f : Findings) (k : ℕ) (d : Denotation) → told Use k es ≤ 1 → k < length f.uses → HasEvent (Uses k d) es → slice_get (after f es).uses k ≡ Some (Some d)
unfolding run found told
use_told [] f k d le within h = absurd h
use_told (e ∷ es) f k d le within (inl is) =
    subst (λ z. slice_get (after (found f z) es).uses k ≡ Some (Some d)) is
    (use_stays es (found f (Uses k d)) k (last_one k (told Use k es) (subst (λ z. tells Use k z + told Use k es ≤ 1) (sym is) le)) ∙ (let row = row_within f.uses k within in set_here f.uses k row.0 (Some d) row.1))
use_told (Broken i rule ∷ es) f k d le within (inr h) = use_told es (found f (Broken i rule)) k d (one_less 0 (told Use k es) le) within h
use_told (Uses i c ∷ es) f k d le within (inr h) =
    use_told es (found f (Uses i c)) k d (one_less (here k i) (told Use k es) le) (let same = length-set f.uses i (Some c) in omega (arith, within, same)) h
use_told (FoundIn i b ∷ es) f k d le within (inr h) = use_told es (found f (FoundIn i b)) k d (one_less 0 (told Use k es) le) within h
use_told (Typed i ty ∷ es) f k d le within (inr h) = use_told es (found f (Typed i ty)) k d (one_less 0 (told Use k es) le) within h

place_told : (es : List Event) (f : Findings) (k b : ℕ) → told Place k es ≤ 1 → k < length f.found_in → HasEvent (FoundIn k b) es → slice_get (after f es).found_in k ≡ Some (Some b)
unfolding run found told
place_told [] f k b le within h = absurd h
place_told (e ∷ es) f k b le within (inl is) =
    subst (λ z. slice_get (after (found f z) es).found_in k ≡ Some (Some b)) is
    (place_stays es (found f (FoundIn k b)) k (last_one k (told Place k es) (subst (λ z. tells Place k z + told Place k es ≤ 1) (sym is) le)) ∙ (let row = row_within f.found_in k within in set_here f.found_in k row.0 (Some b) row.1))
place_told (Broken i rule ∷ es) f k b le within (inr h) = place_told es (found f (Broken i rule)) k b (one_less 0 (told Place k es) le) within h
place_told (FoundIn i c ∷ es) f k b le within (inr h) =
    place_told es (found f (FoundIn i c)) k b (one_less (here k i) (told Place k es) le) (let same = length-set f.found_in i (Some c) in omega (arith, within, same)) h
place_told (Uses i d ∷ es) f k b le within (inr h) = place_told es (found f (Uses i d)) k b (one_less (tells Place k (Uses i d)) (told Place k es) le) within h
place_told (Typed i ty ∷ es) f k b le within (inr h) = place_told es (found f (Typed i ty)) k b (one_less 0 (told Place k es) le) within h

type_told : (es : List Event) (f : Findings) (k : ℕ) (ty : SimType) → told Kind k es ≤ 1 → k < length f.types → HasEvent (Typed k ty) es → slice_get (after f es).types k ≡ Some (Some ty)
unfolding run found told
type_told [] f k ty le within h = absurd h
type_told (e ∷ es) f k ty le within (inl is) =
    subst (λ z. slice_get (after (found f z) es).types k ≡ Some (Some ty)) is
    (type_stays es (found f (Typed k ty)) k (last_one k (told Kind k es) (subst (λ z. tells Kind k z + told Kind k es ≤ 1) (sym is) le)) ∙ (let row = row_within f.types k within in set_here f.types k row.0 (Some ty) row.1))
type_told (Broken i rule ∷ es) f k ty le within (inr h) = type_told es (found f (Broken i rule)) k ty (one_less 0 (told Kind k es) le) within h
type_told (FoundIn i b ∷ es) f k ty le within (inr h) = type_told es (found f (FoundIn i b)) k ty (one_less 0 (told Kind k es) le) within h
type_told (Uses i c ∷ es) f k ty le within (inr h) = type_told es (found f (Uses i c)) k ty (one_less 0 (told Kind k es) le) within h
type_told (Typed i c ∷ es) f k ty le within (inr h) =
    type_told es (found f (Typed i c)) k ty (one_less (here k i) (told Kind k es) le) (let same = length-set f.types i (Some c) in omega (arith, within, same)) h

-- what is told is told at least once
told_some : (k : About) (i : ℕ) (e : Event) (es : List Event) → HasEvent e es → tells k i e ≤ told k i es
unfolding told
told_some k i e [] h = absurd h
told_some k i e (x ∷ es) (inl is) = let same = ap (tells k i) is in omega (arith, same)
told_some k i e (x ∷ es) (inr h) = let deep = told_some k i e es h in omega (arith, deep)

-- the token of a use of what is found nowhere is told no block
nowhere_one : (k : ℕ) (d : Denotation) → is_nowhere d ≡ true → tells Place k (Uses k d) ≡ 1
nowhere_one k d is = ap (λ z. if z then here k k else 0) is ∙ itself_here k

place_none : (es : List Event) (f : Findings) (k : ℕ) (d : Denotation) → is_nowhere d ≡ true → told Place k es ≤ 1 → HasEvent (Uses k d) es → slice_get (after f es).found_in k ≡ slice_get f.found_in k
unfolding run found told
place_none [] f k d is le h = absurd h
place_none (e ∷ es) f k d is le (inl same) =
    subst (λ z. slice_get (after (found f z) es).found_in k ≡ slice_get f.found_in k) same
    (place_stays es (found f (Uses k d)) k (let one = nowhere_one k d is in let both : tells Place k (Uses k d) + told Place k es ≤ 1 = subst (λ z. tells Place k z + told Place k es ≤ 1) (sym same) le in omega (arith, one, both)))
place_none (Broken i rule ∷ es) f k d is le (inr h) = place_none es (found f (Broken i rule)) k d is (one_less 0 (told Place k es) le) h
place_none (FoundIn i b ∷ es) f k d is le (inr h) =
    let some = told_some Place k (Uses k d) es h in
    let one = nowhere_one k d is in
    let other : here k i + told Place k es ≤ 1 = le in
    place_none es (found f (FoundIn i b)) k d is (one_less (here k i) (told Place k es) le) h ∙ set_other f.found_in i k (Some b) (other_token k i 0 (omega (arith, some, one, other)))
place_none (Uses i c ∷ es) f k d is le (inr h) = place_none es (found f (Uses i c)) k d is (one_less (tells Place k (Uses i c)) (told Place k es) le) h
place_none (Typed i ty ∷ es) f k d is le (inr h) = place_none es (found f (Typed i ty)) k d is (one_less 0 (told Place k es) le) h

-- what nothing is found of
no_row : (n k : ℕ) → joined {A = ℕ} (slice_get (replicate n None) k) ≡ None
no_row zero k = refl
no_row (suc n) zero = refl
no_row (suc n) (suc k) = no_row n k

-- ---- the source has it

all_say : (s : Source) (es whole : List Event) → Unbroken es → ((e : Event) → HasEvent e es → HasEvent e whole)
    → ((k : ℕ) (d : Denotation) → HasEvent (Uses k d) whole → (denoted s k ≡ Some d) × (is_nowhere d ≡ true → found_at s k ≡ None)) → ((k b : ℕ) → HasEvent (FoundIn k b) whole → found_at s k ≡ Some b) → ((k : ℕ) (ty : SimType) → HasEvent (Typed k ty) whole → type_at s k ≡ Some ty) → AllSay s es
all_say s [] whole ok part uses places types = tt
all_say s (Broken i rule ∷ es) whole ok part uses places types = absurd ok
all_say s (Uses i d ∷ es) whole ok part uses places types = (uses i d (part (Uses i d) (inl refl)), all_say s es whole ok (λ e h. part e (inr h)) uses places types)
all_say s (FoundIn i b ∷ es) whole ok part uses places types = (places i b (part (FoundIn i b) (inl refl)), all_say s es whole ok (λ e h. part e (inr h)) uses places types)
all_say s (Typed i ty ∷ es) whole ok part uses places types = (types i ty (part (Typed i ty) (inl refl)), all_say s es whole ok (λ e h. part e (inr h)) uses places types)

-- events of a round over so many tokens, each told at most once, and of none past the last
pub round_says : (s : Source) (n : ℕ) (es : List Event) → (after (unknown n) es).least ≡ None → s.uses ≡ (after (unknown n) es).uses → s.found_in ≡ (after (unknown n) es).found_in → s.types ≡ (after (unknown n) es).types
    → ((k : About) (i : ℕ) → told k i es ≤ 1) → ((k : About) (i : ℕ) → 1 ≤ told k i es → i < n) → AllSay s es
unfolding denoted found_at type_at
round_says s n es clean uses places types once within =
    all_say s es es (no_faults n es clean) (λ e h. h)
    (λ k d h. (
      (let low = told_some Use k (Uses k d) es h in let is = itself_here k in let some : 1 ≤ told Use k es = omega (arith, low, is) in
          ap (λ z. joined (slice_get z k)) uses ∙ ap joined (use_told es (unknown n) k d (once Use k) (let m : length (unknown n).uses ≡ n = length-replicate n None in let le = within Use k some in omega (arith, le, m)) h)),
      λ is. ap (λ z. joined (slice_get z k)) places ∙ ap joined (place_none es (unknown n) k d is (once Place k) h) ∙ no_row n k,
    ))
    (λ k b h. (let low = told_some Place k (FoundIn k b) es h in let is = itself_here k in let some : 1 ≤ told Place k es = omega (arith, low, is) in
    ap (λ z. joined (slice_get z k)) places ∙ ap joined (place_told es (unknown n) k b (once Place k) (let m : length (unknown n).found_in ≡ n = length-replicate n None in let le = within Place k some in omega (arith, le, m)) h)))
    (λ k ty h. (let low = told_some Kind k (Typed k ty) es h in let is = itself_here k in let some : 1 ≤ told Kind k es = omega (arith, low, is) in
    ap (λ z. joined (slice_get z k)) types ∙ ap joined (type_told es (unknown n) k ty (once Kind k) (let m : length (unknown n).types ≡ n = length-replicate n None in let le = within Kind k some in omega (arith, le, m)) h)))

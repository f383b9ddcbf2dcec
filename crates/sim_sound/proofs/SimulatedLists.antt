-- Simulations and processes, found in their lists.
use Rattle.std.proofs.Common.{◌≡◌, ◌≢◌, ◌<◌, ◌≤◌, ℕ, zero, suc, Bool, true, false, List, [], ◌∷◌, ◌++◌, length, Option, Some, None, ◌⊎◌, inl, inr, ⊎_elim, refl, sym, ap, ◌∙◌, arith}
use Rattle.std.proofs.lemmas.Bool.{cases_lt}
use Rattle.std.proofs.lemmas.Bool.Decides.{nat_tests}
use Rattle.std.specs.List.{position, position_or_len}
use Rattle.std.specs.Option.{option_map}
use Rattle.std.specs.Prelude.{◌==◌, ◌+◌, ◌||◌, if◌then◌else◌, nat_lt, slice_get, slice_set}
use Rattle.sim_code.specs.Outcome.{Simulation}
use Rattle.sim_code.specs.Simulations.{is_of_block, is_simulated, located, with_place}
use Rattle.sim_sound.proofs.Lists.{append_before, equal_numbers, if_false, if_true, numbers_equal, same_some, set_other, set_same, there_is}

-- ---- the first place that passes a test

by_test : {A : Type 0} (b : Bool) → (b ≡ true → A) → (b ≡ false → A) → A
by_test true f g = f refl
by_test false f g = g refl

first_place : {A : Type 0} (p : A → Bool) (x : A) (xs : List A) → p x ≡ true → position p (x ∷ xs) ≡ Some 0
first_place p x xs e = shown ∙ if_true (nat_lt 0 (suc (length xs))) (Some 0) None (let t : nat_lt 0 (suc (length xs)) ≡ true = grind (arith, nat_tests) in t)
  where
    shown : position p (x ∷ xs) ≡ (if nat_lt 0 (suc (length xs)) then Some 0 else None)
    shown = rw e refl

-- it is one further than in the rest
next_place : {A : Type 0} (p : A → Bool) (x : A) (xs : List A) → p x ≡ false → position p (x ∷ xs) ≡ option_map (λ n. suc n) (position p xs)
next_place p x xs e = ⊎_elim (λ a. under a) (λ a. over a) (cases_lt (position_or_len p xs) (length xs))
  where
    shown : position p (x ∷ xs) ≡ (if nat_lt (1 + position_or_len p xs) (suc (length xs)) then Some (1 + position_or_len p xs) else None)
    shown = rw e refl

    under : position_or_len p xs < length xs → position p (x ∷ xs) ≡ option_map (λ n. suc n) (position p xs)
    under a =
        let t : nat_lt (position_or_len p xs) (length xs) ≡ true = grind (arith, nat_tests, a) in
        let u : nat_lt (1 + position_or_len p xs) (suc (length xs)) ≡ true = grind (arith, nat_tests, a) in
        shown ∙ if_true (nat_lt (1 + position_or_len p xs) (suc (length xs))) (Some (1 + position_or_len p xs)) None u ∙ ap Some (let q : 1 + position_or_len p xs ≡ suc (position_or_len p xs) = omega arith in q) ∙ sym (ap (option_map (λ n. suc n)) (if_true (nat_lt (position_or_len p xs) (length xs)) (Some (position_or_len p xs)) None t))

    over : length xs ≤ position_or_len p xs → position p (x ∷ xs) ≡ option_map (λ n. suc n) (position p xs)
    over a =
        let t : nat_lt (position_or_len p xs) (length xs) ≡ false = grind (arith, nat_tests, a) in
        let u : nat_lt (1 + position_or_len p xs) (suc (length xs)) ≡ false = grind (arith, nat_tests, a) in
        shown ∙ if_false (nat_lt (1 + position_or_len p xs) (suc (length xs))) (Some (1 + position_or_len p xs)) None u ∙ sym (ap (option_map (λ n. suc n)) (if_false (nat_lt (position_or_len p xs) (length xs)) (Some (position_or_len p xs)) None t))

-- what stands there passes the test
pub found_in : {A : Type 0} (p : A → Bool) (xs : List A) (n : ℕ) → position p xs ≡ Some n → (x : A) × (slice_get xs n ≡ Some x) × (p x ≡ true)
found_in p [] n e = absurd (cc)
found_in p (x ∷ xs) n e = by_test (p x) here (λ f. later (λ k is. found_in p xs k is) f)
  where
    here : p x ≡ true → (y : _) × (slice_get (x ∷ xs) n ≡ Some y) × (p y ≡ true)
    here f =
        let zero_is : 0 ≡ n = same_some (position p (x ∷ xs)) 0 n (first_place p x xs f) e in
        (x, sym (ap (slice_get (x ∷ xs)) zero_is), f)

    by_rest : ((k : ℕ) → position p xs ≡ Some k → (y : _) × (slice_get xs k ≡ Some y) × (p y ≡ true)) → (o : Option ℕ) → position p xs ≡ o → option_map (λ n. suc n) o ≡ Some n → (y : _) × (slice_get (x ∷ xs) n ≡ Some y) × (p y ≡ true)
    by_rest go None is g = absurd (cc)
    by_rest go (Some k) is g =
        let r = go k is in
        let same : suc k ≡ n = same_some (Some (suc k)) (suc k) n refl g in
        (r.0, sym (ap (slice_get (x ∷ xs)) same) ∙ r.1, r.2)

    later : ((k : ℕ) → position p xs ≡ Some k → (y : _) × (slice_get xs k ≡ Some y) × (p y ≡ true)) → p x ≡ false → (y : _) × (slice_get (x ∷ xs) n ≡ Some y) × (p y ≡ true)
    later go f = by_rest go (position p xs) refl (sym (next_place p x xs f) ∙ e)

-- where something passes it there is a first place
pub some_place : {A : Type 0} (p : A → Bool) (xs : List A) (n : ℕ) (x : A) → slice_get xs n ≡ Some x → p x ≡ true → (k : ℕ) × (position p xs ≡ Some k)
some_place p [] n x e f = absurd (cc)
some_place p (y ∷ ys) n x e f = by_test (p y) (λ g. (0, first_place p y ys g)) (λ g. by_number (λ k e. some_place p ys k x e f) n e g)
  where
    by_number : ((k : ℕ) → slice_get ys k ≡ Some x → (q : ℕ) × (position p ys ≡ Some q)) → (n : ℕ) → slice_get (y ∷ ys) n ≡ Some x → p y ≡ false → (k : ℕ) × (position p (y ∷ ys) ≡ Some k)
    by_number go zero e g = absurd (let same : y ≡ x = same_some (Some y) y x refl e in let yes : p y ≡ true = ap p same ∙ f in cc)
    by_number go (suc n) e g = let r = go n e in (suc r.0, next_place p y ys g ∙ ap (option_map (λ n. suc n)) r.1)

-- one that passes it as the old one did
place_set : {A : Type 0} (p : A → Bool) (xs : List A) (n : ℕ) (old new : A) → slice_get xs n ≡ Some old → p new ≡ p old → position p (slice_set xs n new) ≡ position p xs
place_set p [] n old new e f = refl
place_set p (x ∷ xs) zero old new e f =
    let same : x ≡ old = same_some (Some x) x old refl e in
    by_test (p x) (λ g. first_place p new xs (f ∙ sym (ap p same) ∙ g) ∙ sym (first_place p x xs g)) (λ g. next_place p new xs (f ∙ sym (ap p same) ∙ g) ∙ sym (next_place p x xs g))
place_set p (x ∷ xs) (suc n) old new e f =
    by_test (p x) (λ g. first_place p x (slice_set xs n new) g ∙ sym (first_place p x xs g)) (λ g. next_place p x (slice_set xs n new) g ∙ ap (option_map (λ n. suc n)) (place_set p xs n old new e f) ∙ sym (next_place p x xs g))

-- one more behind
place_before : {A : Type 0} (p : A → Bool) (xs : List A) (y : A) (n : ℕ) → position p xs ≡ Some n → position p (xs ++ y ∷ []) ≡ Some n
place_before p [] y n e = absurd (cc)
place_before p (x ∷ xs) y n e =
    by_test (p x) (λ g. first_place p x (xs ++ y ∷ []) g ∙ sym (first_place p x xs g) ∙ e) (λ g. by_rest (λ k is. place_before p xs y k is) g (position p xs) refl (sym (next_place p x xs g) ∙ e))
  where
    by_rest : ((k : ℕ) → position p xs ≡ Some k → position p (xs ++ y ∷ []) ≡ Some k) → p x ≡ false → (o : Option ℕ) → position p xs ≡ o → option_map (λ n. suc n) o ≡ Some n → position p (x ∷ xs ++ y ∷ []) ≡ Some n
    by_rest go g None is h = absurd (cc)
    by_rest go g (Some k) is h = next_place p x (xs ++ y ∷ []) g ∙ ap (option_map (λ n. suc n)) (go k is) ∙ h

-- ---- simulations

pub is_located : (sims : List Simulation) (b n : ℕ) (x : Simulation) → position (is_of_block b) sims ≡ Some n → slice_get sims n ≡ Some x → located sims b ≡ Some (n, x)
unfolding located
is_located sims b n x e f = ap (with_place sims) e ∙ ap (option_map (λ x. (n, x))) f

-- it stands at its place, and has the block
pub located_at : (sims : List Simulation) (b : ℕ) (x : ℕ × Simulation) → located sims b ≡ Some x → (slice_get sims x.0 ≡ Some x.1) × ((x.1).block ≡ b) × (position (is_of_block b) sims ≡ Some x.0)
unfolding located
located_at sims b x e = by_place (position (is_of_block b) sims) refl e
  where
    by_place : (o : Option ℕ) → position (is_of_block b) sims ≡ o → with_place sims o ≡ Some x → (slice_get sims x.0 ≡ Some x.1) × ((x.1).block ≡ b) × (position (is_of_block b) sims ≡ Some x.0)
    by_place None is f = absurd (cc)
    by_place (Some n) is f =
        let r = found_in (is_of_block b) sims n is in
        let same : (n, r.0) ≡ x = same_some (with_place sims (Some n)) (n, r.0) x (ap (option_map (λ x. (n, x))) r.1) f in
        (sym (ap (λ z. slice_get sims z.0) same) ∙ r.1 ∙ ap (λ z. Some z.1) same, sym (ap (λ z. (z.1).block) same) ∙ numbers_equal (r.0).block b r.2, is ∙ ap (λ z. Some z.0) same)

-- there is one of each block that has an entry
pub some_located : (sims : List Simulation) (n : ℕ) (x : Simulation) → slice_get sims n ≡ Some x → (y : ℕ × Simulation) × (located sims x.block ≡ Some y)
some_located sims n x e =
    let r = some_place (is_of_block x.block) sims n x e (equal_numbers x.block x.block refl) in
    let f = found_in (is_of_block x.block) sims r.0 r.1 in
    ((r.0, f.0), is_located sims x.block r.0 f.0 r.1 f.1)

-- one is changed, and its block stays
pub located_other : (sims : List Simulation) (n : ℕ) (old new : Simulation) → slice_get sims n ≡ Some old → new.block ≡ old.block → (b : ℕ) (x : ℕ × Simulation) → located sims b ≡ Some x → x.0 ≢ n → located (slice_set sims n new) b ≡ Some x
located_other sims n old new e f b x is differ =
    let r = located_at sims b x is in
    is_located (slice_set sims n new) b x.0 x.1 (place_set (is_of_block b) sims n old new e (ap (λ z. z == b) f) ∙ r.2) (set_other sims n x.0 new differ ∙ r.0)

pub located_changed : (sims : List Simulation) (n : ℕ) (old new : Simulation) → slice_get sims n ≡ Some old → new.block ≡ old.block → (b : ℕ) (x : ℕ × Simulation) → located sims b ≡ Some x → x.0 ≡ n → located (slice_set sims n new) b ≡ Some (n, new)
located_changed sims n old new e f b x is same =
    let r = located_at sims b x is in
    is_located (slice_set sims n new) b n new (place_set (is_of_block b) sims n old new e (ap (λ z. z == b) f) ∙ r.2 ∙ ap Some same) (set_same sims n old new e)

-- one more behind
pub located_before : (sims : List Simulation) (y : Simulation) (b : ℕ) (x : ℕ × Simulation) → located sims b ≡ Some x → located (sims ++ y ∷ []) b ≡ Some x
located_before sims y b x is =
    let r = located_at sims b x is in
    is_located (sims ++ y ∷ []) b x.0 x.1 (place_before (is_of_block b) sims y x.0 r.2) (append_before sims y x.0 (there_is sims x.0 x.1 r.0) ∙ r.0)

-- ---- which instances are simulation blocks

or_left : (p q : Bool) → p ≡ true → (p || q) ≡ true
or_left true q e = refl
or_left false q e = absurd (cc)

or_right : (p q : Bool) → q ≡ true → (p || q) ≡ true
or_right true q e = refl
or_right false q e = e

or_cases : (p q : Bool) → (p || q) ≡ true → (p ≡ true) ⊎ (q ≡ true)
or_cases true q e = inl refl
or_cases false q e = inr e

any_there : (sims : List Simulation) (b n : ℕ) (x : Simulation) → slice_get sims n ≡ Some x → x.block ≡ b → is_simulated sims b ≡ true
any_there [] b n x e f = absurd (cc)
any_there (y ∷ sims) b zero x e f = or_left (y.block == b) (is_simulated sims b) (equal_numbers y.block b (ap (λ z. z.block) (same_some (Some y) y x refl e) ∙ f))
any_there (y ∷ sims) b (suc n) x e f = or_right (y.block == b) (is_simulated sims b) (any_there sims b n x e f)

pub located_simulated : (sims : List Simulation) (b : ℕ) (x : ℕ × Simulation) → located sims b ≡ Some x → is_simulated sims b ≡ true
located_simulated sims b x is = let r = located_at sims b x is in any_there sims b x.0 x.1 r.0 r.1

pub simulated_there : (sims : List Simulation) (b : ℕ) → is_simulated sims b ≡ true → (n : ℕ) × (x : Simulation) × (slice_get sims n ≡ Some x) × (x.block ≡ b)
simulated_there [] b e = absurd (cc)
simulated_there (y ∷ sims) b e =
    ⊎_elim (λ f. (0, y, refl, numbers_equal y.block b f)) (λ f. let r = simulated_there sims b f in (suc r.0, r.1, r.2, r.3)) (or_cases (y.block == b) (is_simulated sims b) e)

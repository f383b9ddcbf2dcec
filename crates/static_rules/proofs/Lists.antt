-- What is among faults.
use Rattle.std.proofs.Common.{◌≡◌, ◌<◌, ◌⊎◌, inl, inr, ℕ, zero, suc, Bool, true, false, List, [], ◌∷◌, ◌++◌, length, Some, refl, sym, subst, arith, nat_lt, nat_eq}
use Rattle.std.proofs.lemmas.Bool.Decides.{nat_tests}
use Rattle.std.specs.Prelude.{slice_get}
use Rattle.sim_base.specs.declared.rule.Rule.{Rule}
use Rattle.prefix_bind.specs.Prefixes.{numbers_to}
use Rattle.prefix_bind.specs.Prefixes as p
use Rattle.sim_scope.specs.Breaks as b
use Rattle.sim_scope.specs.Found.{fault}
use Rattle.sim_scope.specs.Least.{Among, here, there}
use Rattle.sim_scope.specs.Runs.{each}
use Rattle.sim_scope.specs.declared.found.Fault.{Fault}
use Rattle.prefix_bind.proofs.Numbers.{each-append}

pub among_left : {x : Fault} {xs : List Fault} (ys : List Fault) → Among xs x → Among (xs ++ ys) x
among_left ys here = here
among_left ys (there a) = there (among_left ys a)

pub among_right : {x : Fault} (xs : List Fault) {ys : List Fault} → Among ys x → Among (xs ++ ys) x
among_right [] a = a
among_right (y ∷ xs) a = there (among_right xs a)

pub among_either : (xs ys : List Fault) (x : Fault) → Among (xs ++ ys) x → Among xs x ⊎ Among ys x
among_either [] ys x a = inr a
among_either (y ∷ xs) ys _ here = inl here
among_either (y ∷ xs) ys x (there a) = elim (among_either xs ys x a) [ inl h ↦ inl (there h) | inr h ↦ inr h ]

pub among_one : {x y : Fault} → Among (x ∷ []) y → x ≡ y
among_one here = refl
among_one (there a) = elim a [ ]

pub among_none : {y : Fault} → Among [] y → ⊥
among_none a = elim a [ ]

-- each of a list
pub some_each : {A : Type 0} (f : A → List Fault) (xs : List A) (x : Fault) → Among (each f xs) x → (i : ℕ) × (a : A) × (slice_get xs i ≡ Some a) × Among (f a) x
some_each f [] x h = elim h [ ]
some_each f (a ∷ xs) x h = elim (among_either (f a) (each f xs) x h) [ inl l ↦ (0, a, refl, l) | inr r ↦ (let d = some_each f xs x r in (suc d.0, d.1, d.2, d.3)) ]

none_there : {A : Type 0} (i : ℕ) (a : A) → slice_get [] i ≡ Some a → ⊥
none_there zero a e = cc
none_there (suc i) a e = cc

pub each_has : {A : Type 0} (f : A → List Fault) (xs : List A) (i : ℕ) (a : A) (x : Fault) → slice_get xs i ≡ Some a → Among (f a) x → Among (each f xs) x
each_has f [] i a x e h = absurd (none_there i a e)
each_has f (b ∷ xs) zero a x e h = let same : a ≡ b = cc in among_left (each f xs) (subst (λ z. Among (f z) x) same h)
each_has f (b ∷ xs) (suc i) a x e h = among_right (f b) (each_has f xs i a x e h)

-- each number in front of another
pub some_number : (f : ℕ → List Fault) (n : ℕ) (x : Fault) → Among (each f (numbers_to n)) x → (i : ℕ) × Among (f i) x
some_number f n x h = let d = some_each f (numbers_to n) x h in (d.1, d.3)

order : (i n : ℕ) → i < suc n → (i < n) ⊎ (i ≡ n)
order zero zero lt = inr refl
order zero (suc n) lt = inl (omega arith)
order (suc i) zero lt = absurd (omega (arith, lt))
order (suc i) (suc n) lt = elim (order i n (omega (arith, lt))) [ inl l ↦ inl (omega (arith, l)) | inr e ↦ inr (omega (arith, e)) ]

pub numbers_have : (f : ℕ → List Fault) (n i : ℕ) (x : Fault) → i < n → Among (f i) x → Among (each f (numbers_to n)) x
numbers_have f zero i x lt h = absurd (omega (arith, lt))
numbers_have f (suc n) i x lt h =
    subst (λ z. Among z x) (sym (each-append f (numbers_to n) (n ∷ [])))
    (elim (order i n lt) [
      | inl l ↦ among_left (each f (n ∷ [])) (numbers_have f n i x l h)
      | inr e ↦ among_right (each f (numbers_to n)) (among_left [] (subst (λ z. Among (f z) x) e h))
    ])

pub within : {A : Type 0} (xs : List A) (i : ℕ) (a : A) → slice_get xs i ≡ Some a → i < length xs
within [] i a e = absurd (none_there i a e)
within (b ∷ xs) zero a e = omega arith
within (b ∷ xs) (suc i) a e = let d = within xs i a e in omega (arith, d)

-- a fault where a test holds
pub from_test : (c : Bool) (token : ℕ) (rule : Rule) (x : Fault) → Among (b.where_true c token rule) x → (c ≡ true) × (fault token rule ≡ x)
from_test true token rule x h = (refl, among_one h)
from_test false token rule x h = elim h [ ]

pub to_test : (c : Bool) (token : ℕ) (rule : Rule) → c ≡ true → Among (b.where_true c token rule) (fault token rule)
to_test true token rule e = here
to_test false token rule e = absurd (cc)

pub from_row_test : (c : Bool) (token : ℕ) (rule : Rule) (x : Fault) → Among (p.where_true c token rule) x → (c ≡ true) × (fault token rule ≡ x)
from_row_test true token rule x h = (refl, among_one h)
from_row_test false token rule x h = elim h [ ]

pub to_row_test : (c : Bool) (token : ℕ) (rule : Rule) → c ≡ true → Among (p.where_true c token rule) (fault token rule)
to_row_test true token rule e = here
to_row_test false token rule e = absurd (cc)

-- tests
pub less : (a b : ℕ) → nat_lt a b ≡ true → a < b
less a b e = grind (arith, nat_tests, e)

pub is_less : (a b : ℕ) → a < b → nat_lt a b ≡ true
is_less a b e = grind (arith, nat_tests, e)

pub equal : (a b : ℕ) → nat_eq a b ≡ true → a ≡ b
equal a b e = grind (arith, nat_tests, e)

pub is_equal : (a b : ℕ) → a ≡ b → nat_eq a b ≡ true
is_equal a b e = grind (arith, nat_tests, e)

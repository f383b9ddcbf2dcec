-- The least of the broken rules.
use Rattle.std.proofs.Common.{◌≡◌, ℕ, Bool, true, false, List, [], ◌∷◌, Option, Some, None, refl, sym, arith, subst, nat_lt, nat_eq, if◌then◌else◌}
use Rattle.std.specs.Prelude.{◌||◌, ◌&&◌}
use Rattle.std.proofs.lemmas.Bool.Decides.{nat_tests}
use Rattle.sim_scope.specs.declared.scopes.Denotation.{Denotation}
use Rattle.sim_scope.specs.declared.types.SimType.{SimType}
use Rattle.sim_scope.specs.declared.found.Fault.{Fault}
use Rattle.sim_scope.specs.Found.{Event, Broken, FoundIn, Uses, Typed, Findings, after, found, lesser, precedes, rank}
use Rattle.sim_scope.specs.Runs.{run}
use Rattle.sim_scope.specs.Least.{Among, here, there, IsLeast, nothing, least, faults, least_found}

unfoldable pub noted : Option Fault → List Fault → Option Fault
noted f [] = f
noted f (x ∷ xs) = noted (lesser f x) xs

after-noted : (f : Findings) (es : List Event) → (after f es).least ≡ noted f.least (faults es)
unfolding noted run found
after-noted f [] = refl
after-noted f (Broken token rule ∷ es) = after-noted (found f (Broken token rule)) es
after-noted f (Uses token d ∷ es) = after-noted (found f (Uses token d)) es
after-noted f (FoundIn token block ∷ es) = after-noted (found f (FoundIn token block)) es
after-noted f (Typed token ty ∷ es) = after-noted (found f (Typed token ty)) es

lex : (a b m n : ℕ) → Bool
lex a b m n = nat_lt a b || nat_eq a b && nat_lt m n

lex_not_both : (a b m n : ℕ) → lex a b m n ≡ true → lex b a n m ≡ false
unfolding lex
lex_not_both a b m n h = grind (arith, nat_tests)

lex_not_trans : (a b c m n k : ℕ) → lex b a n m ≡ false → lex c b k n ≡ false → lex c a k m ≡ false
unfolding lex
lex_not_trans a b c m n k h i = grind (arith, nat_tests)

not_both : (x y : Fault) → precedes x y ≡ true → precedes y x ≡ false
unfolding precedes lex
not_both x y h = lex_not_both x.token.0 y.token.0 (rank x.rule) (rank y.rule) h

not_trans : (x y z : Fault) → precedes y x ≡ false → precedes z y ≡ false → precedes z x ≡ false
unfolding precedes lex
not_trans x y z h i = lex_not_trans x.token.0 y.token.0 z.token.0 (rank x.rule) (rank y.rule) (rank z.rule) h i

not_itself : (x : Fault) → precedes x x ≡ false
not_itself x = go (precedes x x) refl
  where
    go : (b : Bool) → precedes x x ≡ b → precedes x x ≡ false
    go true e = not_both x x e
    go false e = e

-- a least fault so far, and the others
Least : Fault → List Fault → Type 0
Least x xs = (z : Fault) × (noted (Some x) xs ≡ Some z) × Among (x ∷ xs) z × ((y : Fault) → Among (x ∷ xs) y → precedes y z ≡ false)

only : (x y : Fault) → Among (x ∷ []) y → precedes y x ≡ false
only x y here = not_itself x
only x y (there a) = elim a [ ]

in_later : (x w z : Fault) (xs : List Fault) → Among (w ∷ xs) z → Among (x ∷ w ∷ xs) z
in_later x w z xs a = there a

in_first : (x w z : Fault) (xs : List Fault) → Among (x ∷ xs) z → Among (x ∷ w ∷ xs) z
in_first x w z xs here = here
in_first x w z xs (there a) = there (there a)

with_later : (x w z : Fault) (xs : List Fault) → precedes w x ≡ true → ((y : Fault) → Among (w ∷ xs) y → precedes y z ≡ false) → (y : Fault) → Among (x ∷ w ∷ xs) y → precedes y z ≡ false
with_later x w z xs e all y here = not_trans z w x (all w here) (not_both w x e)
with_later x w z xs e all y (there a) = all y a

with_first : (x w z : Fault) (xs : List Fault) → precedes w x ≡ false → ((y : Fault) → Among (x ∷ xs) y → precedes y z ≡ false) → (y : Fault) → Among (x ∷ w ∷ xs) y → precedes y z ≡ false
with_first x w z xs e all y here = all x here
with_first x w z xs e all y (there here) = not_trans z x w (all x here) e
with_first x w z xs e all y (there (there a)) = all y (there a)

so_far : (x : Fault) (xs : List Fault) → Least x xs
unfolding noted Least
so_far x [] = (x, refl, here, only x)
so_far x (w ∷ xs) = go (precedes w x) refl (so_far w xs) (so_far x xs)
  where
    go : (b : Bool) → precedes w x ≡ b → Least w xs → Least x xs → (z : Fault) × (noted (if b then Some w else Some x) xs ≡ Some z) × Among (x ∷ w ∷ xs) z × ((y : Fault) → Among (x ∷ w ∷ xs) y → precedes y z ≡ false)
    go true e l m = (l.0, l.1, in_later x w l.0 xs l.2, with_later x w l.0 xs e l.3)
    go false e l m = (m.0, m.1, in_first x w m.0 xs m.2, with_first x w m.0 xs e m.3)

pub noted-least : (xs : List Fault) → IsLeast xs (noted None xs)
unfolding noted Least
noted-least [] = nothing refl
noted-least (x ∷ xs) = let l = so_far x xs in subst (λ o. IsLeast (x ∷ xs) o) (sym l.1) (least l.2 l.3)

pub least_law : (es : List Event) (uses : List (Option Denotation)) (found_in : List (Option ℕ)) (types : List (Option SimType)) → IsLeast (faults es) (least_found es uses found_in types)
least_law es uses found_in types =
    subst (λ o. IsLeast (faults es) o) (sym (after-noted (record { least = None; uses = uses; found_in = found_in; types = types }) es)) (noted-least (faults es))

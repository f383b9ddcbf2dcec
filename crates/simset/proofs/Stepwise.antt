-- The procedures in two steps: a link leaves its set, and is then put into one.
use Rattle.std.proofs.Common.{◌≡◌, ℕ, ◌+◌, List, [], ◌∷◌, refl, ap, ◌∙◌}
use Rattle.std.specs.Prelude.{Option, Some, None}
use Rattle.simset.specs.Sets.{Linkage, Link, Head, each_from, going_into, out, put_after, put_before, put_last, without, following, preceding}
use Rattle.simset.specs.Sets as whole

unfoldable pub follow : List Linkage → ℕ → Option ℕ → List Linkage
follow sets x None = out sets x
follow sets x (Some p) = each_from (put_after x p) 0 (out sets x)

unfoldable pub precede : List Linkage → ℕ → Option ℕ → List Linkage
precede sets x None = out sets x
precede sets x (Some p) = each_from (put_before x p) 0 (out sets x)

unfoldable pub into : List Linkage → ℕ → Option ℕ → List Linkage
into sets x None = out sets x
into sets x (Some p) = each_from (put_last x p) 0 (out sets x)

-- one change after another is one change
pub each_after : (f g : ℕ → List ℕ → List ℕ) (k : ℕ) (sets : List Linkage) → each_from (λ h xs. f h (g h xs)) k sets ≡ each_from f k (each_from g k sets)
each_after f g k [] = refl
each_after f g k (Link ∷ rest) = ap (λ s. Link ∷ s) (each_after f g (k + 1) rest)
each_after f g k (Head xs ∷ rest) = ap (λ s. Head (f k (g k xs)) ∷ s) (each_after f g (k + 1) rest)

-- changes that do the same
pub each_same : (f g : ℕ → List ℕ → List ℕ) (k : ℕ) (sets : List Linkage) → ((h : ℕ) (xs : List ℕ) → f h xs ≡ g h xs) → each_from f k sets ≡ each_from g k sets
each_same f g k [] same = refl
each_same f g k (Link ∷ rest) same = ap (λ s. Link ∷ s) (each_same f g (k + 1) rest same)
each_same f g k (Head xs ∷ rest) same = ap (λ ys. Head ys ∷ each_from f (k + 1) rest) (same k xs) ∙ ap (λ s. Head (g k xs) ∷ s) (each_same f g (k + 1) rest same)

pub follow-is : (sets : List Linkage) (x : ℕ) (p : Option ℕ) → whole.follow sets x p ≡ follow sets x p
unfolding whole.follow follow out
follow-is sets x None = refl
follow-is sets x (Some p) = each_after (put_after x p) (λ _ xs. without x xs) 0 sets

pub precede-is : (sets : List Linkage) (x : ℕ) (p : Option ℕ) → whole.precede sets x p ≡ precede sets x p
unfolding whole.precede precede out
precede-is sets x None = refl
precede-is sets x (Some p) = each_after (put_before x p) (λ _ xs. without x xs) 0 sets

pub into-is : (sets : List Linkage) (x : ℕ) (p : Option ℕ) → whole.into sets x p ≡ into sets x p
unfolding whole.into into out
into-is sets x None = refl
into-is sets x (Some p) = each_after (put_last x p) (λ _ xs. without x xs) 0 sets

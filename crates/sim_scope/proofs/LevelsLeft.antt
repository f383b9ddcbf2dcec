-- The parameters of the levels of a class.
use Rattle.std.proofs.Common.{◌≡◌, ◌<◌, ◌≤◌, ℕ, zero, suc, ◌+◌, ◌-◌, List, [], ◌∷◌, ◌++◌, Some, None, refl, sym, ap, ◌∙◌, arith, length, if◌then◌else◌}
use Rattle.std.proofs.lemmas.List.{length-append}
use Rattle.std.proofs.lemmas.Bool.Decides.{nat_tests}
use Rattle.std.specs.Prelude.{nat_lt, slice_get}
use Rattle.sim_base.specs.declared.numbering.DeclNo.{DeclNo}
use Rattle.sim_scope.specs.Levels.{base}
use Rattle.sim_scope.specs.Scopes.{class_formals_of, formals_at, formals_beyond}
use Rattle.sim_scope.specs.Tables.{Tables}

module _ {A : Type 0} where
  pub get_front : (xs ys : List A) (k : ℕ) → k < length xs → slice_get (xs ++ ys) k ≡ slice_get xs k
  get_front [] ys k le = absurd (omega arith)
  get_front (x ∷ xs) ys zero le = refl
  get_front (x ∷ xs) ys (suc k) le = get_front xs ys k (omega arith)

  pub get_behind : (xs ys : List A) (k : ℕ) → length xs ≤ k → slice_get (xs ++ ys) k ≡ slice_get ys (k - length xs)
  get_behind [] ys k le = let e : k ≡ k - 0 = omega arith in ap (slice_get ys) e
  get_behind (x ∷ xs) ys zero le = absurd (omega arith)
  get_behind (x ∷ xs) ys (suc k) le = get_behind xs ys k (omega arith) ∙ (let e : k - length xs ≡ suc k - length (x ∷ xs) = omega arith in ap (slice_get ys) e)

-- the place behind so many elements
pub behind_some : (o p k : ℕ) → (if nat_lt p o then None else Some (p - o)) ≡ Some k → (o ≤ p) × (k ≡ p - o)
behind_some o p k is = grind (arith, nat_tests)

pub behind_none : (o p : ℕ) → (if nat_lt p o then None else Some (p - o)) ≡ None → p < o
behind_none o p is = grind (arith, nat_tests)

module _ (s : Tables) where
  -- the parameters of so many levels, from one outward, and those of the levels behind it
  abbrev pub levels_left : (n i b : ℕ) → List DeclNo
  levels_left n i b = class_formals_of s (n - i) b

  abbrev pub levels_behind : (n i b : ℕ) → List DeclNo
  levels_behind n i b = formals_beyond (λ b. levels_left n (i + 1) b) (base s b)

  pub left_all : (n b : ℕ) → levels_left n 0 b ≡ class_formals_of s n b
  left_all n b = let e : n - 0 ≡ n = omega arith in ap (λ m. class_formals_of s m b) e

  pub left_of : (n i b : ℕ) → i < n → levels_left n i b ≡ levels_behind n i b ++ formals_at s (Some b)
  unfolding class_formals_of
  left_of n i b le = let e : n - i ≡ suc (n - (i + 1)) = omega arith in ap (λ m. class_formals_of s m b) e

  pub left_none : (n i b : ℕ) → n ≤ i → levels_left n i b ≡ []
  unfolding class_formals_of
  left_none n i b le = let e : n - i ≡ 0 = omega arith in ap (λ m. class_formals_of s m b) e

  pub behind_further : (n i b p : ℕ) → base s b ≡ Some p → levels_behind n i b ≡ levels_left n (i + 1) p
  behind_further n i b p out = ap (formals_beyond (λ b. levels_left n (i + 1) b)) out

  pub behind_last : (n i b : ℕ) → base s b ≡ None → levels_behind n i b ≡ []
  behind_last n i b out = ap (formals_beyond (λ b. levels_left n (i + 1) b)) out

  pub count_of : (n i b : ℕ) → i < n → length (levels_left n i b) ≡ length (levels_behind n i b) + length (formals_at s (Some b))
  count_of n i b le = ap length (left_of n i b le) ∙ length-append (levels_behind n i b) (formals_at s (Some b))

  -- a parameter of this level, and one of the levels behind it
  pub found_here : (n i b p k : ℕ) → i < n → length (levels_behind n i b) ≤ p → k ≡ p - length (levels_behind n i b) → slice_get (levels_left n i b) p ≡ slice_get (formals_at s (Some b)) k
  found_here n i b p k le far is = ap (λ l. slice_get l p) (left_of n i b le) ∙ get_behind (levels_behind n i b) (formals_at s (Some b)) p far ∙ ap (slice_get (formals_at s (Some b))) (sym is)

  pub found_behind : (n i b p q : ℕ) → i < n → p < length (levels_behind n i b) → base s b ≡ Some q → slice_get (levels_left n (i + 1) q) p ≡ slice_get (levels_left n i b) p
  found_behind n i b p q le near out =
      sym (ap (λ l. slice_get l p) (left_of n i b le) ∙ get_front (levels_behind n i b) (formals_at s (Some b)) p near ∙ ap (λ l. slice_get l p) (behind_further n i b q out))

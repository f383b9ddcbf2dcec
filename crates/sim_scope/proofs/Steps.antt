-- Walks from block to block, one block at a time.
use Rattle.std.proofs.Common.{◌≡◌, ◌<◌, ◌||◌, ℕ, suc, ◌+◌, ◌-◌, Bool, true, false, Option, Some, None, refl, sym, ap, ◌∙◌, arith, subst}
use Rattle.std.specs.Option.{option_or}
use Rattle.sim_scope.specs.Along.{at_next, first_along, from_next, some_along}

module _ (next : ℕ → Option ℕ) (test : ℕ → Bool) where
  pub some_less : (n i b : ℕ) → i < n → some_along next (n - i) test b ≡ test b || at_next (λ b. some_along next (n - (i + 1)) test b) (next b)
  unfolding some_along
  some_less n i b le = let e : n - i ≡ suc (n - (i + 1)) = omega arith in ap (λ m. some_along next m test b) e

  pub some_here : (n i b : ℕ) → i < n → test b ≡ true → some_along next (n - i) test b ≡ true
  some_here n i b le is = some_less n i b le ∙ ap (λ x. x || at_next (λ b. some_along next (n - (i + 1)) test b) (next b)) is

  pub some_nowhere : (n i b : ℕ) → i < n → test b ≡ false → next b ≡ None → some_along next (n - i) test b ≡ false
  some_nowhere n i b le is out = some_less n i b le ∙ ap (λ x. x || at_next (λ b. some_along next (n - (i + 1)) test b) (next b)) is ∙ ap (at_next (λ b. some_along next (n - (i + 1)) test b)) out

  pub some_further : (n i b p : ℕ) → i < n → test b ≡ false → next b ≡ Some p → some_along next (n - i) test b ≡ some_along next (n - (i + 1)) test p
  some_further n i b p le is out = some_less n i b le ∙ ap (λ x. x || at_next (λ b. some_along next (n - (i + 1)) test b) (next b)) is ∙ ap (at_next (λ b. some_along next (n - (i + 1)) test b)) out

  pub some_end : (m b : ℕ) → m ≡ 0 → some_along next m test b ≡ false
  unfolding some_along
  some_end m b is = subst (λ m. some_along next m test b ≡ false) (sym is) refl

module _ {A : Type 0} (next : ℕ → Option ℕ) (look : ℕ → Option A) where
  pub first_less : (n i b : ℕ) → i < n → first_along next (n - i) look b ≡ option_or (look b) (from_next (λ b. first_along next (n - (i + 1)) look b) (next b))
  unfolding first_along
  first_less n i b le = let e : n - i ≡ suc (n - (i + 1)) = omega arith in ap (λ m. first_along next m look b) e

  pub first_here : (n i b : ℕ) (x : A) → i < n → look b ≡ Some x → first_along next (n - i) look b ≡ Some x
  first_here n i b x le is = first_less n i b le ∙ ap (λ x. option_or x (from_next (λ b. first_along next (n - (i + 1)) look b) (next b))) is

  pub first_nowhere : (n i b : ℕ) → i < n → look b ≡ None → next b ≡ None → first_along next (n - i) look b ≡ None
  first_nowhere n i b le is out = first_less n i b le ∙ ap (λ x. option_or x (from_next (λ b. first_along next (n - (i + 1)) look b) (next b))) is ∙ ap (from_next (λ b. first_along next (n - (i + 1)) look b)) out

  pub first_further : (n i b p : ℕ) → i < n → look b ≡ None → next b ≡ Some p → first_along next (n - i) look b ≡ first_along next (n - (i + 1)) look p
  first_further n i b p le is out = first_less n i b le ∙ ap (λ x. option_or x (from_next (λ b. first_along next (n - (i + 1)) look b) (next b))) is ∙ ap (from_next (λ b. first_along next (n - (i + 1)) look b)) out

  pub first_end : (m b : ℕ) → m ≡ 0 → first_along next m look b ≡ None
  unfolding first_along
  first_end m b is = subst (λ m. first_along next m look b ≡ None) (sym is) refl

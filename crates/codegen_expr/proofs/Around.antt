-- The search outward for a text.
use Rattle.std.proofs.Common.{◌≡◌, ◌<◌, ◌≢◌, ⊎_elim, ℕ, zero, suc, ◌+◌, ◌-◌, Bool, true, false, length, if◌then◌else◌, Option, Some, None, refl, sym, ap, ◌∙◌, arith, subst}
use Rattle.std.specs.Prelude.{◌==◌}
use Rattle.std.proofs.lemmas.Bool.{cases_eq, eq-eqb}
use Rattle.std.proofs.lemmas.Bool.Decides.{eqb_tells}
use Rattle.sim_scope.specs.Access.{encloser}
use Rattle.sim_scope.specs.Tables.{Tables}
use Rattle.codegen_expr.specs.Built.{around_or, is_around, is_level}
use Rattle.codegen_expr.specs.Sites.{Inside, behind, further, itself, prefix_of}

pub neq-eqb : (a b : ℕ) → a ≢ b → (a == b) ≡ false
neq-eqb a b other = ⊎_elim (λ x. absurd (other x.1)) (λ x. x.0) (eqb_tells a b)

module _ (s : Tables) (k : ℕ) where
  -- ---- a text and what it has in front

  pub level_here : (m t : ℕ) → t ≡ k → is_level s m t k ≡ true
  unfolding is_level
  level_here zero t same = eq-eqb t k same
  level_here (suc m) t same = let is : (t == k) ≡ true = eq-eqb t k same in ap (λ x. if x then true else around_or (λ u. is_level s m u k) (prefix_of s t)) is

  pub level_front : (m t u : ℕ) → t ≢ k → prefix_of s t ≡ Some u → is_level s (suc m) t k ≡ is_level s m u k
  unfolding is_level
  level_front m t u other front = let is : (t == k) ≡ false = neq-eqb t k other in ap (λ x. if x then true else around_or (λ u. is_level s m u k) (prefix_of s t)) is ∙ ap (λ x. around_or (λ u. is_level s m u k) x) front

  pub level_alone : (m t : ℕ) → t ≢ k → prefix_of s t ≡ None → is_level s m t k ≡ false
  unfolding is_level
  level_alone zero t other front = neq-eqb t k other
  level_alone (suc m) t other front = let is : (t == k) ≡ false = neq-eqb t k other in ap (λ x. if x then true else around_or (λ u. is_level s m u k) (prefix_of s t)) is ∙ ap (λ x. around_or (λ u. is_level s m u k) x) front

  pub level_spent : (m t : ℕ) → m ≡ 0 → (t == k) ≡ is_level s m t k
  unfolding is_level
  level_spent m t is = subst (λ m. (t == k) ≡ is_level s m t k) (sym is) refl

  pub one_level_less : (n i t : ℕ) → i < n → is_level s (n - i) t k ≡ is_level s (suc (n - (i + 1))) t k
  one_level_less n i t le = let e : n - i ≡ suc (n - (i + 1)) = omega arith in ap (λ m. is_level s m t k) e

  -- what a text has in front, the text is inside of
  level_inside : (m t : ℕ) → is_level s m t k ≡ true → Inside s t k
  unfolding is_level
  level_inside zero t h = ⊎_elim (λ same. subst (Inside s t) same itself) (λ other. let e : (t == k) ≡ false = neq-eqb t k other in absurd (cc)) (cases_eq t k)
  level_inside (suc m) t h = ⊎_elim (λ same. subst (Inside s t) same itself) (λ other. cases other (prefix_of s t) refl (λ u. level_inside m u)) (cases_eq t k)
    where
      cases : t ≢ k → (o : Option ℕ) → prefix_of s t ≡ o → ((u : ℕ) → is_level s m u k ≡ true → Inside s u k) → Inside s t k
      cases other None front more = let e : is_level s (suc m) t k ≡ false = level_alone (suc m) t other front in absurd (cc)
      cases other (Some u) front more = behind front (more u (sym (level_front m t u other front) ∙ h))

  -- ---- what a text stands in

  abbrev Here : ℕ → Bool
  Here t = is_level s (length s.blocks) t k

  pub found_here : (m t : ℕ) → Here t ≡ true → is_around s (suc m) t k ≡ true
  unfolding is_around
  found_here m t is = ap (λ x. if x then true else around_or (λ u. is_around s m u k) (encloser s t)) is

  pub found_outside : (m t u : ℕ) → Here t ≡ false → encloser s t ≡ Some u → is_around s (suc m) t k ≡ is_around s m u k
  unfolding is_around
  found_outside m t u is out = ap (λ x. if x then true else around_or (λ u. is_around s m u k) (encloser s t)) is ∙ ap (λ x. around_or (λ u. is_around s m u k) x) out

  pub found_nowhere : (m t : ℕ) → Here t ≡ false → encloser s t ≡ None → is_around s (suc m) t k ≡ false
  unfolding is_around
  found_nowhere m t is out = ap (λ x. if x then true else around_or (λ u. is_around s m u k) (encloser s t)) is ∙ ap (λ x. around_or (λ u. is_around s m u k) x) out

  pub found_none : (m t : ℕ) → m ≡ 0 → is_around s m t k ≡ false
  unfolding is_around
  found_none m t is = subst (λ m. is_around s m t k ≡ false) (sym is) refl

  pub one_less : (n i t : ℕ) → i < n → is_around s (n - i) t k ≡ is_around s (suc (n - (i + 1))) t k
  one_less n i t le = let e : n - i ≡ suc (n - (i + 1)) = omega arith in ap (λ m. is_around s m t k) e

  -- what is found stands there
  pub inside : (m t : ℕ) → is_around s m t k ≡ true → Inside s t k
  unfolding is_around
  inside zero t h = absurd (cc)
  inside (suc m) t h = by_level (Here t) refl (λ u. inside m u)
    where
      cases : Here t ≡ false → (o : Option ℕ) → encloser s t ≡ o → ((u : ℕ) → is_around s m u k ≡ true → Inside s u k) → Inside s t k
      cases other None out more = let e : is_around s (suc m) t k ≡ false = found_nowhere m t other out in absurd (cc)
      cases other (Some u) out more = further out (more u (sym (found_outside m t u other out) ∙ h))

      by_level : (c : Bool) → Here t ≡ c → ((u : ℕ) → is_around s m u k ≡ true → Inside s u k) → Inside s t k
      by_level true is more = level_inside (length s.blocks) t is
      by_level false is more = cases is (encloser s t) refl more

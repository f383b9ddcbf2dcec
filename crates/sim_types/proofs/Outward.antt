-- The search outward for the block that `this` means.
use Rattle.std.proofs.Common.{◌≡◌, ◌<◌, ℕ, suc, ◌+◌, ◌-◌, true, false, Some, None, refl, sym, ap, ◌∙◌, arith, subst, if◌then◌else◌}
use Rattle.sim_scope.specs.declared.scopes.Denotation.{Denotation}
use Rattle.sim_scope.specs.Access.{encloser}
use Rattle.sim_scope.specs.Levels.{level_beyond}
use Rattle.sim_scope.specs.References.{is_this, this_of}
use Rattle.sim_scope.specs.Tables.{Tables}

module _ (s : Tables) (class : Denotation) where
  pub meant_here : (m b : ℕ) → is_this s class b ≡ true → this_of s (suc m) class b ≡ Some b
  unfolding this_of
  meant_here m b is = ap (λ z. if z then Some b else level_beyond (λ b. this_of s m class b) (encloser s b)) is

  pub meant_nowhere : (m b : ℕ) → is_this s class b ≡ false → encloser s b ≡ None → this_of s (suc m) class b ≡ None
  unfolding this_of
  meant_nowhere m b is out = ap (λ z. if z then Some b else level_beyond (λ b. this_of s m class b) (encloser s b)) is ∙ ap (level_beyond (λ b. this_of s m class b)) out

  pub meant_outside : (m b p : ℕ) → is_this s class b ≡ false → encloser s b ≡ Some p → this_of s (suc m) class b ≡ this_of s m class p
  unfolding this_of
  meant_outside m b p is out = ap (λ z. if z then Some b else level_beyond (λ b. this_of s m class b) (encloser s b)) is ∙ ap (level_beyond (λ b. this_of s m class b)) out

  pub meant_none : (m b : ℕ) → m ≡ 0 → this_of s m class b ≡ None
  unfolding this_of
  meant_none m b is = subst (λ m. this_of s m class b ≡ None) (sym is) refl

  pub one_less : (n i b : ℕ) → i < n → this_of s (n - i) class b ≡ this_of s (suc (n - (i + 1))) class b
  one_less n i b le = let e : n - i ≡ suc (n - (i + 1)) = omega arith in ap (λ m. this_of s m class b) e

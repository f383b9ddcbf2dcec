-- The first token of a level is that of its first operand.
use Rattle.std.proofs.Common.{◌≡◌, ◌≤◌, ◌<◌, ℕ, Bool, true, false, zero, suc, List, [], ◌∷◌, Option, Some, None, refl, sym, ap, ◌∙◌, arith, subst, if◌then◌else◌}
use Rattle.std.specs.Prelude.{nat_eq, slice_get}
use native.Mathlib.Decide.{dec_lt}
use Rattle.std.proofs.lemmas.Bool.{eqb-true}
use Rattle.sim_base.specs.declared.token.TokenKind.{TokenKind}
use Rattle.sim_base.specs.declared.numbering.TokenNo.{TokenNo}
use Rattle.sim_tree.specs.declared.expr.Expr.{Expr}
use Rattle.sim_tree.specs.Grammar.{Part}
use Rattle.sim_tree.specs.Reading.{Forest, done, node}
use Rattle.sim_tree.specs.Derivation.{Derivation, Item, raise, negated, whole, level_part, derivation_of, operated, summed, multiplied, selected, nothing}
use Rattle.sim_tree.specs.Tree.{first_leaf}
use Rattle.sim_tree.proofs.DerivationLemmas.{raise-same}

-- below its own level a derivation has no first token
raise_low : (m : ℕ) (s : Derivation) → m < s.level → first_leaf (raise m s) ≡ None
unfolding raise
raise_low zero s h = go (nat_eq s.level 0) refl
  where
    go : (b : Bool) → nat_eq s.level 0 ≡ b → first_leaf (if b then s.inside else done) ≡ None
    go true e = absurd (omega (arith, h, eqb-true s.level 0 e))
    go false e = refl
raise_low (suc m) s h = go (nat_eq s.level (suc m)) refl (raise_low m s (omega (arith, h)))
  where
    go : (b : Bool) → nat_eq s.level (suc m) ≡ b → first_leaf (raise m s) ≡ None → first_leaf (if b then s.inside else node (level_part m) (raise m s) done) ≡ None
    go true e l = absurd (omega (arith, h, eqb-true s.level (suc m) e))
    go false e l = l

none_or_some : {i : ℕ} {o : Option ℕ} → o ≡ None → o ≡ Some i → ⊥
none_or_some e f = cc

-- what begins it at a level begins it at the next
step_up : (m : ℕ) (s : Derivation) (i : ℕ) → first_leaf (raise m s) ≡ Some i → first_leaf (raise (suc m) s) ≡ Some i
unfolding raise
step_up m s i h = go (nat_eq s.level (suc m)) refl
  where
    go : (b : Bool) → nat_eq s.level (suc m) ≡ b → first_leaf (if b then s.inside else node (level_part m) (raise m s) done) ≡ Some i
    go true e = absurd (none_or_some (raise_low m s (omega (arith, eqb-true s.level (suc m) e))) h)
    go false e = h

raise_on : (n m : ℕ) (s : Derivation) (i : ℕ) → m ≤ n → first_leaf (raise m s) ≡ Some i → first_leaf (raise n s) ≡ Some i
raise_on zero m s i le h = subst (λ z. first_leaf (raise z s) ≡ Some i) (let e : m ≡ 0 = omega (arith, le) in e) h
raise_on (suc n) m s i le h = go (dec_lt m (suc n)) (λ l. step_up n s i (raise_on n m s i l h))
  where
    go : Dec (m < suc n) → (m ≤ n → first_leaf (raise (suc n) s) ≡ Some i) → first_leaf (raise (suc n) s) ≡ Some i
    go (yes l) later = later (omega (arith, l))
    go (no l) later = subst (λ z. first_leaf (raise z s) ≡ Some i) (let e : m ≡ suc n = omega (arith, le, l) in e) h

-- what begins it at a level begins what is inside
raise_inside : (m : ℕ) (s : Derivation) (i : ℕ) → first_leaf (raise m s) ≡ Some i → first_leaf s.inside ≡ Some i
unfolding raise
raise_inside zero s i h = go (nat_eq s.level 0) h
  where
    go : (b : Bool) → first_leaf (if b then s.inside else done) ≡ Some i → first_leaf s.inside ≡ Some i
    go true h = h
    go false h = absurd (none_or_some refl h)
raise_inside (suc m) s i h = go (nat_eq s.level (suc m)) h (λ l. raise_inside m s i l)
  where
    go : (b : Bool) → first_leaf (if b then s.inside else node (level_part m) (raise m s) done) ≡ Some i → (first_leaf (raise m s) ≡ Some i → first_leaf s.inside ≡ Some i)
        → first_leaf s.inside ≡ Some i
    go true h later = h
    go false h later = later h

nothing_leaf : (i : ℕ) → first_leaf (whole nothing) ≡ Some i → ⊥
nothing_leaf i h = none_or_some refl (sym (ap first_leaf (raise-same 14 nothing refl)) ∙ h)

pub under : (m : ℕ) (s t : Derivation) (i : ℕ) → m ≤ 14 → (first_leaf s.inside ≡ Some i → first_leaf (raise m t) ≡ Some i) → first_leaf (whole s) ≡ Some i → first_leaf (whole t) ≡ Some i
under m s t i le f h = raise_on 14 m t i le (f (raise_inside 14 s i h))

pub in_operated : (l : ℕ) (w : TokenKind) (m : Part) (s : Derivation) (items : List Item) (i : ℕ) → l ≤ 14
    → first_leaf (whole (operated l w m s items)) ≡ Some i → first_leaf (whole s) ≡ Some i
in_operated l w m s [] i le h = absurd (nothing_leaf i h)
in_operated l w m s (x ∷ xs) i le h = under l (operated l w m s (x ∷ xs)) s i le (λ z. z) h

pub no_mark : (l : List TokenNo) (s : Derivation) (i : ℕ) → slice_get l 0 ≡ None → first_leaf (whole (negated l s)) ≡ Some i → ⊥
no_mark [] s i e h = nothing_leaf i h
no_mark (x ∷ xs) s i e h = absurd (no e)
  where
    no : Some x ≡ None → ⊥
    no e = cc

pub first_mark : (l : List TokenNo) (s : Derivation) (x : TokenNo) (i : ℕ) → slice_get l 0 ≡ Some x → first_leaf (whole (negated l s)) ≡ Some i → x.0 ≡ i
first_mark [] s x i e h = absurd (nothing_leaf i h)
first_mark (y ∷ ys) s x i e h = sym (ap (λ z. z.0) (same e)) ∙ token (raise_inside 14 (negated (y ∷ ys) s) i h)
  where
    same : Some y ≡ Some x → y ≡ x
    same e = cc

    token : Some y.0 ≡ Some i → y.0 ≡ i
    token e = cc

pub in_summed : (s : Derivation) (fs : List Forest) (i : ℕ) → first_leaf (whole (summed None s fs)) ≡ Some i → first_leaf (whole s) ≡ Some i
in_summed s [] i h = absurd (nothing_leaf i h)
in_summed s (f ∷ fs) i h = under 3 (summed None s (f ∷ fs)) s i (omega arith) (λ z. z) h

pub in_multiplied : (s : Derivation) (fs : List Forest) (i : ℕ) → first_leaf (whole (multiplied s fs)) ≡ Some i → first_leaf (whole s) ≡ Some i
in_multiplied s [] i h = absurd (nothing_leaf i h)
in_multiplied s (f ∷ fs) i h = under 2 (multiplied s (f ∷ fs)) s i (omega arith) (λ z. z) h

pub in_selected : (s : Derivation) (fs : List Forest) (i : ℕ) → first_leaf (whole (selected s fs)) ≡ Some i → first_leaf (whole s) ≡ Some i
in_selected s [] i h = absurd (nothing_leaf i h)
in_selected s (f ∷ fs) i h = under 0 (selected s (f ∷ fs)) s i (omega arith) (λ z. z) h

-- a node whose first token is that of its first operand
pub passed_on : (x a y : Expr) (s : Derivation) (r i : ℕ) → derivation_of x ≡ s → y ≡ a → ((j : ℕ) → first_leaf (whole (derivation_of y)) ≡ Some j → r ≡ j)
    → (first_leaf (whole s) ≡ Some i → first_leaf (whole (derivation_of a)) ≡ Some i) → first_leaf (whole (derivation_of x)) ≡ Some i → r ≡ i
passed_on x a y s r i e f known under h =
    known i (subst (λ z. first_leaf (whole (derivation_of z)) ≡ Some i) (sym f) (under (subst (λ z. first_leaf (whole z) ≡ Some i) e h)))

-- a node that begins with a token of its own
pub own : (x : Expr) (s : Derivation) (r i : ℕ) → derivation_of x ≡ s → s.level ≤ 14 → first_leaf s.inside ≡ Some r → first_leaf (whole (derivation_of x)) ≡ Some i → r ≡ i
own x s r i e le f h = same (sym (raise_on 14 s.level s r le (ap first_leaf (raise-same s.level s refl) ∙ f)) ∙ subst (λ z. first_leaf (whole z) ≡ Some i) e h)
  where
    same : Some r ≡ Some i → r ≡ i
    same e = cc

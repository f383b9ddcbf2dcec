-- The class `process` behind one of the levels of a class.
use Rattle.std.proofs.Common.{◌≡◌, ℕ, suc, ◌+◌, ◌-◌, ◌<◌, ◌≤◌, List, [], ◌∷◌, ◌++◌, sym, refl, ap, ◌∙◌, arith}
use Rattle.std.specs.Prelude.{true, false, ◌==◌, nat_lt, if◌then◌else◌, Option, Some, None}
use Rattle.sim_code.specs.Classes.{behind, class_numbered, levels, levels_by, levels_within, or_else, process_among, process_behind, process_class, process_of_levels}
use Rattle.sim_code.specs.Code.{ClassOf, CodeOf}

or_none : (x : Option ℕ) → or_else x None ≡ x
or_none None = refl
or_none (Some c) = refl

or_or : (x y z : Option ℕ) → or_else (or_else x y) z ≡ or_else x (or_else y z)
or_or None y z = refl
or_or (Some c) y z = refl

among_behind : (code : CodeOf) (at : ℕ) (ks : List ℕ) → process_among code (ks ++ at ∷ []) ≡ or_else (process_among code ks) (process_behind code (class_numbered code at))
among_behind code at [] = or_none (process_behind code (class_numbered code at))
among_behind code at (k ∷ ks) =
    let here = process_behind code (class_numbered code k) in
    ap (or_else here) (among_behind code at ks) ∙ sym (or_or here (process_among code ks) (process_behind code (class_numbered code at)))

-- the class that is found among some levels, or the one that was found already, if there are levels
abbrev pub with_found : CodeOf → (found : Option ℕ) → Option (List ℕ) → Option ℕ
with_found code found None = None
with_found code found (Some cs) = or_else (process_among code cs) found

found_behind : (code : CodeOf) (found : Option ℕ) (at : ℕ) (q : Option (List ℕ)) → with_found code found (behind q at) ≡ with_found code (or_else (process_behind code (class_numbered code at)) found) q
found_behind code found at None = refl
found_behind code found at (Some ks) = ap (λ x. or_else x found) (among_behind code at ks) ∙ or_or (process_among code ks) (process_behind code (class_numbered code at)) found

-- what is found when the levels that are left are asked too
abbrev pub Unsought : CodeOf → (found : Option ℕ) → (class counter at : ℕ) → Option ℕ
Unsought code found class counter at = with_found code found (levels_within (class - counter) code at)

pub unsought_first : (code : CodeOf) (class : ℕ) → process_class code class ≡ Unsought code None class 0 class
unfolding process_class levels
unsought_first code class =
    let e : class ≡ class - 0 = omega arith in
    same (levels_within class code class) ∙ ap (λ n. with_found code None (levels_within n code class)) e
  where
    same : (q : Option (List ℕ)) → process_of_levels code q ≡ with_found code None q
    same None = refl
    same (Some cs) = sym (or_none (process_among code cs))

one_level : (code : CodeOf) (found : Option ℕ) (class counter at : ℕ) (x : Option ClassOf) → counter < class → class_numbered code at ≡ x → Unsought code found class counter at ≡ with_found code found (levels_by (levels_within (class - (counter + 1)) code) at x)
one_level code found class counter at x h e =
    let n : class - counter ≡ suc (class - (counter + 1)) = omega (arith, h) in
    ap (λ n. with_found code found (levels_within n code at)) n ∙ ap (λ r. with_found code found (levels_by (levels_within (class - (counter + 1)) code) at r)) e

module _ (code : CodeOf) (found : Option ℕ) (class counter at : ℕ) (within : counter < class) where
  pub unsought_none : class_numbered code at ≡ None → Unsought code found class counter at ≡ None
  unsought_none e = one_level code found class counter at None within e

  pub unsought_broken : (x : ClassOf) → class_numbered code at ≡ Some x → (x.prefix ≡ 0 → ⊥) → at ≤ x.prefix → Unsought code found class counter at ≡ None
  unsought_broken x e h h2 =
      let e1 : (x.prefix == 0) ≡ false = grind (arith, h) in
      let e2 : nat_lt x.prefix at ≡ false = grind (arith, h2) in
      one_level code found class counter at (Some x) within e
      ∙ ap (λ b. with_found code found (if b then Some (at ∷ []) else if nat_lt x.prefix at then behind (levels_within (class - (counter + 1)) code x.prefix) at else None)) e1
      ∙ ap (λ b. with_found code found (if b then behind (levels_within (class - (counter + 1)) code x.prefix) at else None)) e2

  -- the outermost level
  pub unsought_last : (x : ClassOf) (found2 : Option ℕ) → class_numbered code at ≡ Some x → x.prefix ≡ 0 → or_else (process_behind code (Some x)) found ≡ found2 → Unsought code found class counter at ≡ found2
  unsought_last x found2 e h g =
      let e1 : (x.prefix == 0) ≡ true = grind (arith, h) in
      one_level code found class counter at (Some x) within e
      ∙ ap (λ b. with_found code found (if b then Some (at ∷ []) else if nat_lt x.prefix at then behind (levels_within (class - (counter + 1)) code x.prefix) at else None)) e1
      ∙ ap (λ y. or_else y found) (or_none (process_behind code (class_numbered code at)))
      ∙ ap (λ r. or_else (process_behind code r) found) e ∙ g

  -- one further out
  pub unsought_more : (x : ClassOf) (found2 : Option ℕ) → class_numbered code at ≡ Some x → (x.prefix ≡ 0 → ⊥) → x.prefix < at → or_else (process_behind code (Some x)) found ≡ found2 →
      Unsought code found class counter at ≡ Unsought code found2 class (counter + 1) x.prefix
  unsought_more x found2 e h h2 g =
      let e1 : (x.prefix == 0) ≡ false = grind (arith, h) in
      let e2 : nat_lt x.prefix at ≡ true = grind (arith, h2) in
      let outer = levels_within (class - (counter + 1)) code x.prefix in
      one_level code found class counter at (Some x) within e
      ∙ ap (λ b. with_found code found (if b then Some (at ∷ []) else if nat_lt x.prefix at then behind outer at else None)) e1
      ∙ ap (λ b. with_found code found (if b then behind outer at else None)) e2
      ∙ found_behind code found at outer
      ∙ ap (λ r. with_found code (or_else (process_behind code r) found) outer) e ∙ ap (λ y. with_found code y outer) g

pub unsought_over : (code : CodeOf) (found : Option ℕ) (class counter at : ℕ) → class ≤ counter → Unsought code found class counter at ≡ None
unsought_over code found class counter at h =
    let e : class - counter ≡ 0 = omega (arith, h) in
    ap (λ n. with_found code found (levels_within n code at)) e

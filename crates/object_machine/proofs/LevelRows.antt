-- The levels of classes, as they are counted and found.
use Rattle.std.proofs.Common.{◌≡◌, ℕ, zero, suc, ◌+◌, ◌-◌, ◌<◌, ◌≤◌, List, [], ◌∷◌, ◌++◌, length, length-append, sym, refl, ap, ◌∙◌, arith}
use Rattle.std.specs.Prelude.{Bool, true, false, ◌==◌, nat_lt, if◌then◌else◌, Option, Some, None, slice_get}
use Rattle.sim_code.specs.Code.{ClassOf, CodeOf}
use Rattle.sim_code.specs.Classes.{behind, class_numbered, levels, levels_by, levels_within}
use Rattle.frame_arena.proofs.Entries.{get_new, get_old}
use Rattle.object_machine.specs.declared.levels.Part.{Part}
use Rattle.object_machine.specs.Levelling.{index_in, number_of}
use Rattle.object_machine.proofs.BlockFacts.{same_found}

-- ---- counted

abbrev pub plus : ℕ → Option ℕ → Option ℕ
plus k None = None
plus k (Some n) = Some (n + k)

-- how many levels there are, where so many were counted and the others are to be counted from a class on
abbrev pub Counted : CodeOf → (class counter at : ℕ) → Option ℕ
Counted code class counter at = plus counter (number_of (levels_within (class - counter) code at))

pub counted_first : (code : CodeOf) (class : ℕ) → number_of (levels code class) ≡ Counted code class 0 class
unfolding levels
counted_first code class =
    let e : class ≡ class - 0 = omega arith in
    ap (λ n. number_of (levels_within n code class)) e ∙ same (number_of (levels_within (class - 0) code class))
  where
    same : (x : Option ℕ) → x ≡ plus 0 x
    same None = refl
    same (Some n) = let e : n ≡ n + 0 = omega arith in ap Some e

one_counted : (code : CodeOf) (class counter at : ℕ) (x : Option ClassOf) → counter < class → class_numbered code at ≡ x → Counted code class counter at ≡ plus counter (number_of (levels_by (levels_within (class - (counter + 1)) code) at x))
one_counted code class counter at x h e =
    let n : class - counter ≡ suc (class - (counter + 1)) = omega (arith, h) in
    ap (λ n. plus counter (number_of (levels_within n code at))) n ∙ ap (λ r. plus counter (number_of (levels_by (levels_within (class - (counter + 1)) code) at r))) e

module _ (code : CodeOf) (class counter at : ℕ) (within : counter < class) where
  pub count_none : class_numbered code at ≡ None → Counted code class counter at ≡ None
  count_none e = one_counted code class counter at None within e

  pub count_broken : (x : ClassOf) → class_numbered code at ≡ Some x → (x.prefix ≡ 0 → ⊥) → at ≤ x.prefix → Counted code class counter at ≡ None
  count_broken x e h h2 =
      let e1 : (x.prefix == 0) ≡ false = grind (arith, h) in
      let e2 : nat_lt x.prefix at ≡ false = grind (arith, h2) in
      one_counted code class counter at (Some x) within e
      ∙ ap (λ b. plus counter (number_of (if b then Some (at ∷ []) else if nat_lt x.prefix at then behind (levels_within (class - (counter + 1)) code x.prefix) at else None))) e1
      ∙ ap (λ b. plus counter (number_of (if b then behind (levels_within (class - (counter + 1)) code x.prefix) at else None))) e2

  pub count_last : (x : ClassOf) → class_numbered code at ≡ Some x → x.prefix ≡ 0 → Counted code class counter at ≡ Some (counter + 1)
  count_last x e h =
      let e1 : (x.prefix == 0) ≡ true = grind (arith, h) in
      let n : 1 + counter ≡ counter + 1 = omega arith in
      one_counted code class counter at (Some x) within e
      ∙ ap (λ b. plus counter (number_of (if b then Some (at ∷ []) else if nat_lt x.prefix at then behind (levels_within (class - (counter + 1)) code x.prefix) at else None))) e1
      ∙ ap Some n

  pub count_more : (x : ClassOf) → class_numbered code at ≡ Some x → (x.prefix ≡ 0 → ⊥) → x.prefix < at → Counted code class counter at ≡ Counted code class (counter + 1) x.prefix
  count_more x e h h2 =
      let e1 : (x.prefix == 0) ≡ false = grind (arith, h) in
      let e2 : nat_lt x.prefix at ≡ true = grind (arith, h2) in
      one_counted code class counter at (Some x) within e
      ∙ ap (λ b. plus counter (number_of (if b then Some (at ∷ []) else if nat_lt x.prefix at then behind (levels_within (class - (counter + 1)) code x.prefix) at else None))) e1
      ∙ ap (λ b. plus counter (number_of (if b then behind (levels_within (class - (counter + 1)) code x.prefix) at else None))) e2
      ∙ one_more (levels_within (class - (counter + 1)) code x.prefix)
    where
      one_more : (q : Option (List ℕ)) → plus counter (number_of (behind q at)) ≡ plus (counter + 1) (number_of q)
      one_more None = refl
      one_more (Some ds) =
          let l = length-append ds (at ∷ []) in
          let n : length (ds ++ at ∷ []) + counter ≡ length ds + (counter + 1) = omega (arith, l) in
          ap Some n

pub count_over : (code : CodeOf) (class counter at : ℕ) → class ≤ counter → Counted code class counter at ≡ None
count_over code class counter at h =
    let e : class - counter ≡ 0 = omega (arith, h) in
    ap (λ n. plus counter (number_of (levels_within n code at))) e

-- ---- one level after the other, outward

-- the innermost of some levels, and those around it
pub record Peeled (code : CodeOf) (n at : ℕ) (ds : List ℕ) : Type 0 where
  pub fewer : ℕ
  pub fuel : n ≡ suc fewer
  pub x : ClassOf
  pub there : class_numbered code at ≡ Some x
  pub front : List ℕ
  pub is : ds ≡ front ++ at ∷ []
  pub further : 0 < length front → levels_within fewer code x.prefix ≡ Some front

peel : (code : CodeOf) (n at : ℕ) (ds : List ℕ) → levels_within n code at ≡ Some ds → Peeled code n at ds
peel code zero at ds e = absurd (cc)
peel code (suc n) at ds e = by_record (class_numbered code at) refl e
  where
    by_outer : (x : ClassOf) → class_numbered code at ≡ Some x → (q : Option (List ℕ)) → levels_within n code x.prefix ≡ q → behind q at ≡ Some ds → Peeled code (suc n) at ds
    by_outer x h None o e = absurd (cc)
    by_outer x h (Some front) o e = record { fewer = n; fuel = refl; x = x; there = h; front = front; is = sym (same_found (Some (front ++ at ∷ [])) (front ++ at ∷ []) ds refl e); further = λ more. o }

    by_second : (x : ClassOf) → class_numbered code at ≡ Some x → (b : Bool) → (if b then behind (levels_within n code x.prefix) at else None) ≡ Some ds → Peeled code (suc n) at ds
    by_second x h true e = by_outer x h (levels_within n code x.prefix) refl e
    by_second x h false e = absurd (cc)

    by_first : (x : ClassOf) → class_numbered code at ≡ Some x → (b : Bool) → (if b then Some (at ∷ []) else if nat_lt x.prefix at then behind (levels_within n code x.prefix) at else None) ≡ Some ds → Peeled code (suc n) at ds
    by_first x h true e = record { fewer = n; fuel = refl; x = x; there = h; front = []; is = sym (same_found (Some (at ∷ [])) (at ∷ []) ds refl e); further = λ more. absurd (omega (arith, more)) }
    by_first x h false e = by_second x h (nat_lt x.prefix at) e

    by_record : (q : Option ClassOf) → class_numbered code at ≡ q → levels_by (levels_within n code) at q ≡ Some ds → Peeled code (suc n) at ds
    by_record None h e = absurd (cc)
    by_record (Some x) h e = by_first x h (x.prefix == 0) e

-- What is left of the levels of a class when some of the innermost ones were passed: so many, with the same one at a place.
pub record Rest (code : CodeOf) (cs : List ℕ) (n at left level : ℕ) : Type 0 where
  pub list : List ℕ
  pub found : levels_within n code at ≡ Some list
  pub long : length list ≡ left
  pub same : slice_get list level ≡ slice_get cs level

pub rest_first : (code : CodeOf) (cs : List ℕ) (class count level : ℕ) → levels code class ≡ Some cs → length cs ≡ count → Rest code cs (class - 0) class (count - 0) level
unfolding levels
rest_first code cs class count level e long =
    let n : class - 0 ≡ class = omega arith in
    record { list = cs; found = ap (λ n. levels_within n code class) n ∙ e; long = omega (arith, long); same = refl }

module _ (code : CodeOf) (cs : List ℕ) (n at left level : ℕ) (r : Rest code cs n at left level) where
  pub rest_there : (q : Option ClassOf) → class_numbered code at ≡ q → q ≡ None → ⊥
  rest_there q h e = let p = peel code n at r.list r.found in none_some (sym (h ∙ e) ∙ p.there)
    where
      none_some : {x : ClassOf} → ◌≡◌ {A = Option ClassOf} None (Some x) → ⊥
      none_some e = cc

  pub rest_more : (x : ClassOf) (n2 left2 : ℕ) → class_numbered code at ≡ Some x → level + 1 < left → n2 ≡ n - 1 → left2 ≡ left - 1 → Rest code cs n2 x.prefix left2 level
  rest_more x n2 left2 h more en el =
      let p = peel code n at r.list r.found in
      let l : length r.list ≡ length p.front + 1 = ap length p.is ∙ length-append p.front (at ∷ []) in
      let long = r.long in
      let fuel = p.fuel in
      let e : n2 ≡ p.fewer = omega (arith, en, fuel) in
      record {
        list = p.front;
        found = ap (λ k. levels_within k code x.prefix) e ∙ ap (λ y. levels_within p.fewer code y.prefix) (same_found (class_numbered code at) x p.x h p.there) ∙ p.further (omega (arith, l, long, more));
        long = omega (arith, l, long, el);
        same = sym (get_old p.front (at ∷ []) level (omega (arith, l, long, more))) ∙ sym (ap (λ z. slice_get z level) p.is) ∙ r.same;
      }

  pub rest_last : left ≡ level + 1 → Some at ≡ slice_get cs level
  rest_last e =
      let p = peel code n at r.list r.found in
      let l : length r.list ≡ length p.front + 1 = ap length p.is ∙ length-append p.front (at ∷ []) in
      let long = r.long in
      let k : length p.front ≡ level = omega (arith, l, long, e) in
      sym (get_new p.front at) ∙ ap (λ k. slice_get (p.front ++ at ∷ []) k) k ∙ sym (ap (λ z. slice_get z level) p.is) ∙ r.same

-- levels that were counted
pub record ListOf (q : Option (List ℕ)) (count : ℕ) : Type 0 where
  pub list : List ℕ
  pub is : q ≡ Some list
  pub long : length list ≡ count

pub counted_list : (q : Option (List ℕ)) (n : ℕ) → Some n ≡ number_of q → ListOf q n
counted_list None n e = absurd (cc)
counted_list (Some cs) n e = record { list = cs; is = refl; long = same_found (Some (length cs)) (length cs) n refl (sym e) }

pub uncounted : (q : Option (List ℕ)) → None ≡ number_of q → q ≡ None
uncounted None e = refl
uncounted (Some cs) e = absurd (cc)

pub no_part : (p : Part) (q : Option ClassOf) → q ≡ None → index_in p q ≡ None
no_part p q e = ap (index_in p) e

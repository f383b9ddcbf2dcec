-- The marks of the levels of a class.
use Rattle.std.proofs.Common.{◌≡◌, ℕ, suc, ◌+◌, ◌-◌, ◌<◌, ◌≤◌, List, [], ◌∷◌, ◌++◌, refl, ap, ◌∙◌, arith}
use Rattle.std.specs.Prelude.{Bool, true, false, ◌==◌, ◌||◌, nat_lt, if◌then◌else◌, Option, Some, None, slice_get}
use Rattle.std.specs.List.{list_any}
use Rattle.sim_code.specs.Classes.{behind, block_in_record, class_numbered, head_mark, is_marked, is_marked_in, levels, levels_by, levels_within, linkage_mark}
use Rattle.sim_code.specs.Code.{ClassOf, CodeOf}
use Rattle.sim_code.specs.Levels.{linkage_in, linkage_with}
use Rattle.object_machine.specs.Enrolling.{any_level, linkage_from}
use Rattle.object_machine.proofs.ClassRows.{or_found}

any_behind : (f : ℕ → Bool) (j : ℕ) (ks : List ℕ) → list_any f (ks ++ j ∷ []) ≡ (list_any f ks || f j)
any_behind f j [] = last (f j)
  where
    last : (b : Bool) → (b || false) ≡ b
    last true = refl
    last false = refl
any_behind f j (x ∷ ks) = more (f x) _ _ (f j) (any_behind f j ks)
  where
    more : (b q r z : Bool) → q ≡ (r || z) → (b || q) ≡ ((b || r) || z)
    more true q r z e = refl
    more false q r z e = e

level_behind : (f : ℕ → Bool) (j : ℕ) (ks : Option (List ℕ)) → any_level f (behind ks j) ≡ or_found (f j) (any_level f ks)
level_behind f j None = refl
level_behind f j (Some ks) = ap Some (any_behind f j ks)

-- whether one of the levels that are left is marked
abbrev pub Unasked : (ℕ → Bool) → CodeOf → (class counter at : ℕ) → Option Bool
Unasked f code class counter at = any_level f (levels_within (class - counter) code at)

pub unasked_first : (f : ℕ → Bool) (code : CodeOf) (class : ℕ) → any_level f (levels code class) ≡ or_found false (Unasked f code class 0 class)
unfolding levels
unasked_first f code class =
    let e : class ≡ class - 0 = omega arith in
    ap (λ n. any_level f (levels_within n code class)) e ∙ same (Unasked f code class 0 class)
  where
    same : (x : Option Bool) → x ≡ or_found false x
    same None = refl
    same (Some true) = refl
    same (Some false) = refl

more_unasked : (class counter : ℕ) → counter < class → class - counter ≡ suc (class - (counter + 1))
more_unasked class counter h = omega (arith, h)

one_level : (f : ℕ → Bool) (code : CodeOf) (class counter at : ℕ) (x : Option ClassOf) → counter < class → class_numbered code at ≡ x → Unasked f code class counter at ≡ any_level f (levels_by (levels_within (class - (counter + 1)) code) at x)
one_level f code class counter at x h e =
    ap (λ n. any_level f (levels_within n code at)) (more_unasked class counter h) ∙ ap (λ r. any_level f (levels_by (levels_within (class - (counter + 1)) code) at r)) e

module _ (f : ℕ → Bool) (code : CodeOf) (class counter at : ℕ) (found : Bool) (within : counter < class) where
  pub unasked_none : class_numbered code at ≡ None → or_found found (Unasked f code class counter at) ≡ None
  unasked_none e = ap (or_found found) (one_level f code class counter at None within e)

  pub unasked_broken : (x : ClassOf) → class_numbered code at ≡ Some x → (x.prefix ≡ 0 → ⊥) → at ≤ x.prefix → or_found found (Unasked f code class counter at) ≡ None
  unasked_broken x e h h2 =
      let e1 : (x.prefix == 0) ≡ false = grind (arith, h) in
      let e2 : nat_lt x.prefix at ≡ false = grind (arith, h2) in
      ap (or_found found) (one_level f code class counter at (Some x) within e
      ∙ ap (λ b. any_level f (if b then Some (at ∷ []) else if nat_lt x.prefix at then behind (levels_within (class - (counter + 1)) code x.prefix) at else None)) e1
      ∙ ap (λ b. any_level f (if b then behind (levels_within (class - (counter + 1)) code x.prefix) at else None)) e2)

  -- the outermost level
  pub unasked_last : (x : ClassOf) (found2 : Bool) → class_numbered code at ≡ Some x → x.prefix ≡ 0 → (f at || found) ≡ found2 → or_found found (Unasked f code class counter at) ≡ Some found2
  unasked_last x found2 e h g =
      let e1 : (x.prefix == 0) ≡ true = grind (arith, h) in
      ap (or_found found) (one_level f code class counter at (Some x) within e
      ∙ ap (λ b. any_level f (if b then Some (at ∷ []) else if nat_lt x.prefix at then behind (levels_within (class - (counter + 1)) code x.prefix) at else None)) e1) ∙ both (f at) ∙ ap Some g
    where
      both : (b : Bool) → Some ((b || false) || found) ≡ Some (b || found)
      both true = refl
      both false = refl

  -- one further out
  pub unasked_more : (x : ClassOf) (found2 : Bool) → class_numbered code at ≡ Some x → (x.prefix ≡ 0 → ⊥) → x.prefix < at → (f at || found) ≡ found2 →
      or_found found (Unasked f code class counter at) ≡ or_found found2 (Unasked f code class (counter + 1) x.prefix)
  unasked_more x found2 e h h2 g =
      let e1 : (x.prefix == 0) ≡ false = grind (arith, h) in
      let e2 : nat_lt x.prefix at ≡ true = grind (arith, h2) in
      let outer = levels_within (class - (counter + 1)) code x.prefix in
      ap (or_found found) (one_level f code class counter at (Some x) within e
      ∙ ap (λ b. any_level f (if b then Some (at ∷ []) else if nat_lt x.prefix at then behind outer at else None)) e1
      ∙ ap (λ b. any_level f (if b then behind outer at else None)) e2
      ∙ level_behind f at outer)
      ∙ both (f at) (any_level f outer) ∙ ap (λ b. or_found b (any_level f outer)) g
    where
      both : (b : Bool) (y : Option Bool) → or_found found (or_found b y) ≡ or_found (b || found) y
      both b None = refl
      both true (Some true) = refl
      both true (Some false) = refl
      both false (Some true) = refl
      both false (Some false) = refl

pub unasked_over : (f : ℕ → Bool) (code : CodeOf) (class counter at : ℕ) (found : Bool) → class ≤ counter → or_found found (Unasked f code class counter at) ≡ None
unasked_over f code class counter at found h =
    let e : class - counter ≡ 0 = omega (arith, h) in
    ap (λ n. or_found found (any_level f (levels_within n code at))) e

-- the mark of a class whose record is there
pub mark_there : (code : CodeOf) (mark at : ℕ) (x : ClassOf) → class_numbered code at ≡ Some x → is_marked code mark at ≡ is_marked_in mark (slice_get code.blocks x.block)
mark_there code mark at x e = ap (λ q. is_marked_in mark (block_in_record code q)) e

-- what the objects of a class become
pub linkage_asked : (code : CodeOf) (q : Option (List ℕ)) → linkage_in code q ≡ linkage_from (any_level (is_marked code head_mark) q) (any_level (is_marked code linkage_mark) q)
unfolding linkage_with
linkage_asked code None = refl
linkage_asked code (Some cs) = refl

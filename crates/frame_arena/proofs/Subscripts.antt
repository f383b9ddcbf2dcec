-- The place of an element, one dimension after the other.
use Rattle.std.proofs.Common.{◌≡◌, ℕ, zero, suc, ◌-◌, ◌+◌, ◌*◌, ◌<◌, ◌≤◌, List, [], ◌∷◌, length, drop, get_or, sym, subst, refl, ap, ◌∙◌, arith}
use Rattle.std.specs.Prelude.{ℤ, pos, Bool, true, false, not, ◌&&◌, ◌-ℤ◌, ◌+ℤ◌, int_le, Option, Some, None, Ok, Err, if◌then◌else◌}
use Rattle.std.proofs.lemmas.Int.{ints}
use Rattle.sim_base.specs.declared.run_error.RunError.TheVariants.{SubscriptOutOfBounds, WrongNumberOfSubscripts}
use Rattle.sim_values.specs.Words.{count_from, element_count, extent_of}
use Rattle.sim_code.specs.Arrays.{are_inside, as_many, element_place, is_inside, place_from}
use Rattle.frame_arena.specs.declared.slot.Slot.{Slot}
use Rattle.frame_arena.specs.Arrays.{offset_of}
use Rattle.frame_arena.specs.Stacks.{integers_from, slot_at}
use Rattle.frame_arena.proofs.Changes.{off}
use Rattle.frame_arena.proofs.Entries.{no_some}

-- ---- lists

drop_at : (bs : List (ℤ × ℤ)) (k : ℕ) (d : ℤ × ℤ) → k < length bs → drop k bs ≡ get_or bs k d ∷ drop (k + 1) bs
drop_at [] k d h = absurd (omega (arith, h))
drop_at (b ∷ bs) zero d h = ap (λ l. b ∷ l) (sym (drop_none bs))
  where
    drop_none : (bs : List (ℤ × ℤ)) → drop 0 bs ≡ bs
    drop_none [] = refl
    drop_none (b ∷ bs) = refl
drop_at (b ∷ bs) (suc k) d h =
    let e : suc (k + 1) ≡ suc k + 1 = omega arith in
    drop_at bs k d (omega (arith, h)) ∙ ap (λ n. get_or bs k d ∷ drop n (b ∷ bs)) e

drop_first : (bs : List (ℤ × ℤ)) → drop 0 bs ≡ bs
drop_first [] = refl
drop_first (b ∷ bs) = refl

drop_all : (bs : List (ℤ × ℤ)) (k : ℕ) → length bs ≤ k → drop k bs ≡ []
drop_all [] zero h = refl
drop_all [] (suc k) h = refl
drop_all (b ∷ bs) zero h = absurd (omega (arith, h))
drop_all (b ∷ bs) (suc k) h = drop_all bs k (omega (arith, h))

-- the subscripts from one on
abbrev pub left : List Slot → (first n k : ℕ) → List ℤ
left slots first n k = integers_from slots (first + k) (n - k)

left_at : (slots : List Slot) (first n k : ℕ) → k < n → left slots first n k ≡ (slot_at slots (first + k)).«data» ∷ left slots first n (k + 1)
left_at slots first n k h =
    let e : n - k ≡ suc (n - (k + 1)) = omega (arith, h) in
    let e2 : suc (first + k) ≡ first + (k + 1) = omega arith in
    ap (λ m. integers_from slots (first + k) m) e ∙ ap (λ j. (slot_at slots (first + k)).«data» ∷ integers_from slots j (n - (k + 1))) e2

left_none : (slots : List Slot) (first n k : ℕ) → n ≤ k → left slots first n k ≡ []
left_none slots first n k h =
    let e : n - k ≡ 0 = omega (arith, h) in
    ap (λ m. integers_from slots (first + k) m) e

pub many_left : (slots : List Slot) (at n : ℕ) → length (integers_from slots at n) ≡ n
many_left slots at zero = refl
many_left slots at (suc n) = ap suc (many_left slots (suc at) n)

as_many_long : (bs : List (ℤ × ℤ)) (is : List ℤ) → length is ≡ length bs → as_many bs is ≡ true
as_many_long [] [] h = refl
as_many_long [] (i ∷ is) h = absurd (omega (arith, h))
as_many_long (b ∷ bs) [] h = absurd (omega (arith, h))
as_many_long (b ∷ bs) (i ∷ is) h = as_many_long bs is (omega (arith, h))

-- ---- one dimension

both_true : (p q : Bool) → (p && q) ≡ true → (p ≡ true) × (q ≡ true)
both_true true true e = (refl, refl)
both_true true false e = absurd (off e)
both_true false q e = absurd (off e)

le_true : (a b : ℤ) → int_le a b ≡ true → int_le a b ≡ true
le_true a b h = h

-- a subscript inside leaves room for it
room_for : (lower upper i : ℤ) → int_le lower i ≡ true → int_le i upper ≡ true → count_from (i -ℤ lower) < count_from ((upper -ℤ lower) +ℤ pos 1)
room_for lower upper i h h2 = grind (arith, ints, h, h2)

above_room : (b : ℤ × ℤ) (i : ℤ) → is_inside b i ≡ true → count_from (i -ℤ b.0) < extent_of b
above_room b i h = let e = both_true (int_le b.0 i) (int_le i b.1) h in room_for b.0 b.1 i e.0 e.1

-- with some subscript in each dimension there is an element
some_inside : (bs : List (ℤ × ℤ)) (is : List ℤ) → as_many bs is ≡ true → are_inside bs is ≡ true → 0 < element_count bs
some_inside [] [] m h = omega arith
some_inside [] (i ∷ is) m h = absurd (off m)
some_inside (b ∷ bs) [] m h = absurd (off m)
some_inside (b ∷ bs) (i ∷ is) m h =
    let e = both_true (is_inside b i) (are_inside bs is) h in
    let a = above_room b i e.0 in
    let r = some_inside bs is m e.1 in
    positive (extent_of b) (element_count bs) (omega (arith, a)) r
  where
    positive : (x y : ℕ) → 0 < x → 0 < y → 0 < x * y
    positive zero y h h2 = absurd (omega (arith, h))
    positive (suc x) zero h h2 = absurd (omega (arith, h2))
    positive (suc x) (suc y) h h2 = grind arith

not_inside : (b : Bool) → (b ≡ true → ⊥) → b ≡ false
not_inside true h = absurd (h refl)
not_inside false h = refl

-- ---- what the definition comes to

place_err : (bs : List (ℤ × ℤ)) (is : List ℤ) → as_many bs is ≡ true → are_inside bs is ≡ false → element_place bs is ≡ Err SubscriptOutOfBounds
unfolding element_place
place_err bs is m h =
    ap (λ b. if not b then Err WrongNumberOfSubscripts else if are_inside bs is then Ok (place_from 0 bs is) else Err SubscriptOutOfBounds) m
    ∙ ap (λ b. if b then Ok (place_from 0 bs is) else Err SubscriptOutOfBounds) h

place_ok : (bs : List (ℤ × ℤ)) (is : List ℤ) → as_many bs is ≡ true → are_inside bs is ≡ true → element_place bs is ≡ Ok (place_from 0 bs is)
unfolding element_place
place_ok bs is m h =
    ap (λ b. if not b then Err WrongNumberOfSubscripts else if are_inside bs is then Ok (place_from 0 bs is) else Err SubscriptOutOfBounds) m
    ∙ ap (λ b. if b then Ok (place_from 0 bs is) else Err SubscriptOutOfBounds) h

pub wrong_number : (bs : List (ℤ × ℤ)) (is : List ℤ) → (length is ≡ length bs → ⊥) → element_place bs is ≡ Err WrongNumberOfSubscripts
unfolding element_place
wrong_number bs is h =
    ap (λ b. if not b then Err WrongNumberOfSubscripts else if are_inside bs is then Ok (place_from 0 bs is) else Err SubscriptOutOfBounds) (not_many bs is h)
  where
    not_many : (bs : List (ℤ × ℤ)) (is : List ℤ) → (length is ≡ length bs → ⊥) → as_many bs is ≡ false
    not_many [] [] h = absurd (h refl)
    not_many [] (i ∷ is) h = refl
    not_many (b ∷ bs) [] h = refl
    not_many (b ∷ bs) (i ∷ is) h = not_many bs is (λ e. h (ap suc e))

-- ---- the loop

-- as far as some dimensions
pub record Placed (bounds : List (ℤ × ℤ)) (slots : List Slot) (first count at k : ℕ) : Type 0 where
  pub inside : are_inside (drop k bounds) (left slots first (length bounds) k) ≡ are_inside bounds (integers_from slots first (length bounds))
  pub place : place_from at (drop k bounds) (left slots first (length bounds) k) ≡ place_from 0 bounds (integers_from slots first (length bounds))
  pub small : (at + 1) * element_count (drop k bounds) ≤ count
  pub some : 0 < element_count (drop k bounds)

pub placed_first : (bounds : List (ℤ × ℤ)) (slots : List Slot) (first count : ℕ) → count ≡ element_count bounds → (count ≡ 0 → ⊥) → Placed bounds slots first count 0 0
placed_first bounds slots first count e h =
    let d = drop_first bounds in
    let c = ap element_count d in
    let e2 : length bounds - 0 ≡ length bounds = omega arith in
    let e3 : first + 0 ≡ first = omega arith in
    let is : left slots first (length bounds) 0 ≡ integers_from slots first (length bounds) = ap (λ n. integers_from slots (first + 0) n) e2 ∙ ap (λ j. integers_from slots j (length bounds)) e3 in
    record {
      inside = ap (λ l. are_inside l (left slots first (length bounds) 0)) d ∙ ap (λ l. are_inside bounds l) is;
      place = ap (λ l. place_from 0 l (left slots first (length bounds) 0)) d ∙ ap (λ l. place_from 0 bounds l) is;
      small = omega (arith, c, e);
      some = omega (arith, c, e, h);
    }

module _ (bounds : List (ℤ × ℤ)) (slots : List Slot) (first count at k : ℕ) (p : Placed bounds slots first count at k) (more : k < length bounds) (b : ℤ × ℤ) (i : ℤ)
    (is_b : (d : ℤ × ℤ) → get_or bounds k d ≡ b) (is_i : (slot_at slots (first + k)).«data» ≡ i) where
  here : drop k bounds ≡ b ∷ drop (k + 1) bounds
  here = drop_at bounds k b more ∙ ap (λ x. x ∷ drop (k + 1) bounds) (is_b b)

  here_left : left slots first (length bounds) k ≡ i ∷ left slots first (length bounds) (k + 1)
  here_left = left_at slots first (length bounds) k more ∙ ap (λ x. x ∷ left slots first (length bounds) (k + 1)) is_i

  inside_is : (is_inside b i && are_inside (drop (k + 1) bounds) (left slots first (length bounds) (k + 1))) ≡ are_inside bounds (integers_from slots first (length bounds))
  inside_is = sym (ap (λ l. are_inside l (left slots first (length bounds) k)) here ∙ ap (λ l. are_inside (b ∷ drop (k + 1) bounds) l) here_left) ∙ p.inside

  pub outside : None ≡ offset_of b i → element_place bounds (integers_from slots first (length bounds)) ≡ Err SubscriptOutOfBounds
  outside h =
      let bad : is_inside b i ≡ false = none_in (is_inside b i) h in
      place_err bounds (integers_from slots first (length bounds)) (as_many_long bounds (integers_from slots first (length bounds)) (many_left slots first (length bounds))) (sym inside_is ∙ ap (λ c. c && are_inside (drop (k + 1) bounds) (left slots first (length bounds) (k + 1))) bad)
    where
      none_in : (c : Bool) → ◌≡◌ {A = Option ℕ} None (if c then Some (count_from (i -ℤ b.0)) else None) → c ≡ false
      none_in true h = absurd (no_some _ h)
      none_in false h = refl

  counts : element_count (drop k bounds) ≡ extent_of b * element_count (drop (k + 1) bounds)
  counts = ap element_count here

  module _ (above : ℕ) (good : Some above ≡ offset_of b i) where
    good_in : (c : Bool) → ◌≡◌ {A = Option ℕ} (Some above) (if c then Some (count_from (i -ℤ b.0)) else None) → (c ≡ true) × (above ≡ count_from (i -ℤ b.0))
    good_in true h = (refl, ap (λ o. or_none o) h)
      where
        or_none : Option ℕ → ℕ
        or_none None = 0
        or_none (Some n) = n
    good_in false h = absurd (no_some above (sym h))

    is_good : (is_inside b i ≡ true) × (above ≡ count_from (i -ℤ b.0))
    is_good = good_in (is_inside b i) good

    below_extent : above < extent_of b
    below_extent = let a = above_room b i is_good.0 in let e = is_good.1 in omega (arith, a, e)

    rest_some : (x y : ℕ) → 0 < x * y → 0 < y
    rest_some x zero h = absurd (let e : x * 0 ≡ 0 = grind arith in omega (arith, h, e))
    rest_some x (suc y) h = omega arith

    pub rest_positive : 0 < element_count (drop (k + 1) bounds)
    rest_positive = rest_some (extent_of b) (element_count (drop (k + 1) bounds)) (subst (λ n. 0 < n) counts p.some)

    product : (x y z : ℕ) → (x + 1) * (y * z) ≡ ((x + 1) * y) * z
    product x y z = grind arith

    scaled : (x y z : ℕ) → x ≤ y → x * z ≤ y * z
    scaled x y zero h = let a : x * 0 ≡ 0 = grind arith in omega (arith, a)
    scaled x y (suc z) h = let r = scaled x y z h in let a : x * suc z ≡ x + x * z = grind arith in let c : y * suc z ≡ y + y * z = grind arith in omega (arith, r, a, c, h)

    next_within : (at * extent_of b + above + 1) * element_count (drop (k + 1) bounds) ≤ count
    next_within =
        let s = p.small in
        let c = ap (λ n. (at + 1) * n) counts ∙ product at (extent_of b) (element_count (drop (k + 1) bounds)) in
        let one : (at + 1) * extent_of b ≡ at * extent_of b + extent_of b = grind arith in
        let a = below_extent in
        let r = scaled (at * extent_of b + above + 1) ((at + 1) * extent_of b) (element_count (drop (k + 1) bounds)) (omega (arith, one, a)) in
        omega (arith, s, c, r)

    at_least : (x y : ℕ) → 0 < y → x ≤ x * y
    at_least x zero h = absurd (omega (arith, h))
    at_least x (suc y) h = let e : x * suc y ≡ x + x * y = grind arith in omega (arith, e)

    pub next_below : at * extent_of b + above + 1 ≤ count
    next_below = let r = at_least (at * extent_of b + above + 1) (element_count (drop (k + 1) bounds)) rest_positive in let n = next_within in omega (arith, r, n)

    pub extent_some : 1 ≤ extent_of b
    extent_some = let a = below_extent in omega (arith, a)

    pub extent_short : extent_of b ≤ count
    extent_short =
        let c = ap (λ n. (at + 1) * n) counts ∙ product at (extent_of b) (element_count (drop (k + 1) bounds)) in
        let s = p.small in
        let r = at_least ((at + 1) * extent_of b) (element_count (drop (k + 1) bounds)) rest_positive in
        let one : (at + 1) * extent_of b ≡ at * extent_of b + extent_of b = grind arith in
        omega (arith, c, s, r, one)

    pub placed_next : Placed bounds slots first count (at * extent_of b + above) (k + 1)
    placed_next = record {
      inside = sym (ap (λ c. c && are_inside (drop (k + 1) bounds) (left slots first (length bounds) (k + 1))) is_good.0) ∙ inside_is;
      place =
          ap (λ n. place_from (at * extent_of b + n) (drop (k + 1) bounds) (left slots first (length bounds) (k + 1))) is_good.1
          ∙ sym (ap (λ l. place_from at l (left slots first (length bounds) k)) here ∙ ap (λ l. place_from at (b ∷ drop (k + 1) bounds) l) here_left)
          ∙ p.place;
      small = next_within;
      some = rest_positive;
    }

-- all dimensions
module _ (bounds : List (ℤ × ℤ)) (slots : List Slot) (first count at k : ℕ) (p : Placed bounds slots first count at k) (all : length bounds ≤ k) where
  nothing_left : drop k bounds ≡ []
  nothing_left = drop_all bounds k all

  pub placed_last : Ok at ≡ element_place bounds (integers_from slots first (length bounds))
  placed_last =
      let none = left_none slots first (length bounds) k (all) in
      let inside : are_inside bounds (integers_from slots first (length bounds)) ≡ true = sym p.inside ∙ ap (λ l. are_inside l (left slots first (length bounds) k)) nothing_left in
      let place : at ≡ place_from 0 bounds (integers_from slots first (length bounds)) = sym (ap (λ l. place_from at l (left slots first (length bounds) k)) nothing_left) ∙ p.place in
      ap Ok place ∙ sym (place_ok bounds (integers_from slots first (length bounds)) (as_many_long bounds (integers_from slots first (length bounds)) (many_left slots first (length bounds))) inside)

  pub placed_within : at < count
  placed_within =
      let s = p.small in
      let e = ap element_count nothing_left in
      let c : (at + 1) * 1 ≡ at + 1 = grind arith in
      let c2 = ap (λ n. (at + 1) * n) e in
      omega (arith, s, c, c2)

-- no element at all
pub nowhere : (bounds : List (ℤ × ℤ)) (slots : List Slot) (first count : ℕ) → count ≡ element_count bounds → count ≡ 0 → element_place bounds (integers_from slots first (length bounds)) ≡ Err SubscriptOutOfBounds
nowhere bounds slots first count e z =
    let is = integers_from slots first (length bounds) in
    let m = as_many_long bounds is (many_left slots first (length bounds)) in
    place_err bounds is m (not_inside (are_inside bounds is) (λ h. let s = some_inside bounds is m h in omega (arith, s, e, z)))

-- The new text of `&` takes both texts: none of its steps is refused.
use Rattle.std.proofs.Common.{◌≡◌, ◌≤◌, ◌<◌, ◌+◌, ℕ, zero, suc, Bool, true, false, List, [], ◌∷◌, ◌++◌, length, refl, sym, ap, ◌∙◌, arith}
use Rattle.std.specs.Prelude.{None, Ok, Err, ◌&&◌, ◌==◌, ◌-◌, ◌^◌, ◌+ℤ◌, nat_le, nat_lt, pos, replicate, slice_index_or, slice_set, if◌then◌else◌}
use Rattle.std.proofs.lemmas.List.{length-replicate}
use Rattle.sim_base.specs.declared.run_error.RunError.TheVariants.{IntegerOverflow, SubtextOutOfRange}
use Rattle.sim_values.specs.declared.value.TextVal.{TextVal}
use Rattle.sim_values.specs.Arithmetic.{is_integer, sum_of}
use Rattle.sim_values.specs.Texts.{Frame, assign_refusal, assigned, blanks, frame_at, new_text, notext, part, sub, with_new}

-- ---- sums

pub sum_ok : (x y z : ℕ) → x + y ≡ z → is_integer (pos z) ≡ true → sum_of (pos x) (pos y) ≡ Ok (pos z)
sum_ok x y z e h =
    let same : pos x +ℤ pos y ≡ pos z = ap pos e in
    ap (λ n. if is_integer n then Ok n else Err IntegerOverflow) same ∙ ap (λ b. if b then Ok (pos z) else Err IntegerOverflow) h

pub sum_bad : (x y z : ℕ) → x + y ≡ z → is_integer (pos z) ≡ false → sum_of (pos x) (pos y) ≡ Err IntegerOverflow
sum_bad x y z e h =
    let same : pos x +ℤ pos y ≡ pos z = ap pos e in
    ap (λ n. if is_integer n then Ok n else Err IntegerOverflow) same ∙ ap (λ b. if b then Ok (pos z) else Err IntegerOverflow) h

less_too : (x y n : ℕ) → x ≤ y → nat_lt y n ≡ true → nat_lt x n ≡ true
less_too x y n le h = grind (arith, le, h)

pub smaller : (x y : ℕ) → x ≤ y → is_integer (pos y) ≡ true → is_integer (pos x) ≡ true
smaller x y le h = less_too x y (2 ^ 63) le h

-- ---- lengths

not_none : (n : ℕ) → (suc n == 0) ≡ false
not_none n = grind arith

-- a text of no characters is `notext`
some_text : (n : ℕ) (x : TextVal) → (if suc n == 0 then notext else x) ≡ x
some_text n x = ap (λ b. if b then notext else x) (not_none n)

new_length_of : (frames : List Frame) (n : ℕ) → (new_text frames n).length ≡ n
new_length_of frames zero = refl
new_length_of frames (suc n) = ap (λ t. t.length) (some_text n (record { text_frame = length frames; start = 1; length = suc n; pos = 1 }))

part_is : (t : TextVal) (k n : ℕ) → part t k (suc n) ≡ (let x : TextVal = record { text_frame = t.text_frame; start = t.start + k - 1; length = suc n; pos = 1 } in x)
part_is t k n = some_text n (record { text_frame = t.text_frame; start = t.start + k - 1; length = suc n; pos = 1 })

pub part_length : (t : TextVal) (k n : ℕ) → (part t k n).length ≡ n
part_length t k zero = refl
part_length t k (suc n) = ap (λ t. t.length) (part_is t k n)

-- ---- the new frame is no constant

abbrev pub Constant : List Frame → TextVal → Bool
Constant frames t = nat_lt 0 t.length && (frame_at frames t.text_frame).constant

last_frame : (xs : List Frame) (y d : Frame) → slice_index_or (xs ++ y ∷ []) (length xs) d ≡ y
last_frame [] y d = refl
last_frame (x ∷ xs) y d = last_frame xs y d

new_writable : (frames : List Frame) (cs : List ℕ) → Constant (with_new frames cs) (new_text frames (length cs)) ≡ false
new_writable frames [] = refl
new_writable frames (c ∷ cs) =
    let x : TextVal = record { text_frame = length frames; start = 1; length = suc (length cs); pos = 1 } in
    let y : Frame = record { bytes = c ∷ cs; constant = false } in
    let at_end : (frame_at (frames ++ y ∷ []) (length frames)).constant ≡ false = ap (λ f. f.constant) (last_frame frames y (record { bytes = []; constant = true })) in
    let some : nat_lt 0 (suc (length cs)) ≡ true = grind arith in
    ap (Constant (frames ++ y ∷ [])) (some_text (length cs) x) ∙ ap (λ z. z && (frame_at (frames ++ y ∷ []) (length frames)).constant) some ∙ at_end

set_constant : (xs : List Frame) (k : ℕ) (x d : Frame) (j : ℕ) → x.constant ≡ (slice_index_or xs k d).constant → (slice_index_or (slice_set xs k x) j d).constant ≡ (slice_index_or xs j d).constant
set_constant [] k x d j e = refl
set_constant (a ∷ xs) zero x d zero e = e
set_constant (a ∷ xs) zero x d (suc j) e = refl
set_constant (a ∷ xs) (suc k) x d zero e = refl
set_constant (a ∷ xs) (suc k) x d (suc j) e = set_constant xs k x d j e

still_constant : (frames : List Frame) (left right : TextVal) (j : ℕ) → (frame_at (assigned frames left right) j).constant ≡ (frame_at frames j).constant
still_constant frames left right j = set_constant frames left.text_frame _ (record { bytes = []; constant = true }) j refl

part_writable : (frames : List Frame) (t left right : TextVal) (k n : ℕ) → (0 < n → 0 < t.length) → Constant frames t ≡ false → Constant (assigned frames left right) (part t k n) ≡ false
part_writable frames t left right k zero grows w = refl
part_writable frames t left right k (suc n) grows w =
    let some : 0 < suc n = omega arith in
    let lt = grows some in
    let here : nat_lt 0 t.length ≡ true = grind (arith, lt) in
    let whole : nat_lt 0 (suc n) ≡ true = grind arith in
    ap (Constant (assigned frames left right)) (part_is t k n) ∙ ap (λ z. z && (frame_at (assigned frames left right) t.text_frame).constant) whole ∙ still_constant frames left right t.text_frame ∙ (ap (λ b. b && (frame_at frames t.text_frame).constant) (sym here) ∙ w)

-- ---- nothing is refused

assigns_if : (frames : List Frame) (left right : TextVal) (b c : Bool) → b ≡ false → c ≡ false → nat_lt left.length right.length ≡ b → Constant frames left ≡ c → assign_refusal frames left right ≡ None
assigns_if frames left right b c eb ec e f = rw (e, f, eb, ec)

pub assigns : (frames : List Frame) (left right : TextVal) → right.length ≤ left.length → Constant frames left ≡ false → assign_refusal frames left right ≡ None
assigns frames left right le w =
    let e : nat_lt left.length right.length ≡ false = grind (arith, le) in
    assigns_if frames left right false false refl refl e w

abbrev pub spaces : ℕ → List ℕ
spaces n = replicate n 32

module _ (frames : List Frame) (a b : TextVal) where
  abbrev pub both : ℕ
  both = a.length + b.length

  abbrev pub new : TextVal
  new = new_text frames (length (spaces both))

  abbrev pub frames1 : List Frame
  frames1 = (blanks frames (pos both)).frames

  pub new_length : new.length ≡ both
  new_length = new_length_of frames (length (spaces both)) ∙ length-replicate both 32

  pub first_assigns : assign_refusal frames1 new a ≡ None
  first_assigns = let e = new_length in assigns frames1 new a (omega (arith, e)) (new_writable frames (spaces both))

  pub sub_is : sub new (pos (a.length + 1)) (pos b.length) ≡ Ok (part new (a.length + 1) b.length)
  sub_is =
      let e = new_length in
      let first : nat_lt 0 (a.length + 1) ≡ true = grind arith in
      let second : nat_le (a.length + 1 + b.length) (new.length + 1) ≡ true = grind (arith, e) in
      ap (λ x. if x && nat_le (a.length + 1 + b.length) (new.length + 1) then Ok (part new (a.length + 1) b.length) else Err SubtextOutOfRange) first ∙
      ap (λ x. if x then Ok (part new (a.length + 1) b.length) else Err SubtextOutOfRange) second

  pub second_assigns : assign_refusal (assigned frames1 new a) (part new (a.length + 1) b.length) b ≡ None
  second_assigns =
      let e = new_length in
      let n = part_length new (a.length + 1) b.length in
      assigns (assigned frames1 new a) (part new (a.length + 1) b.length) b (omega (arith, n)) (part_writable frames1 new new a (a.length + 1) b.length (λ lt. omega (arith, e, lt)) (new_writable frames (spaces both)))

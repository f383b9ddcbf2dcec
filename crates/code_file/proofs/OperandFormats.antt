-- The format of an operand: one that the instruction has, or 0.
use Rattle.std.proofs.Common.{◌≡◌, ℕ, zero, suc, ◌-◌, ◌^◌, ◌<◌, ◌≤◌, Bool, true, false, cond, not, ◌&&◌, ltb, ℤ, pos, negsuc, List, [], ◌∷◌, ◌++◌, length, take, drop, Ok, Err, refl, sym, ap, subst, ◌∙◌, arith, inl, inr}
use Rattle.std.specs.Prelude.{FitsSigned}
use Rattle.std.specs.Int.{w64, to_le_bytes, from_le_bytes, cast_signed, cast_unsigned}
use Rattle.std.proofs.lemmas.Bool.{ltb-false, ltb-true, le-ltb, lt-ltb}
use Rattle.std.proofs.lemmas.List.{take_at, drop_at, take-append-drop, length-append, length-take, get_or-take}
use Rattle.std.proofs.lemmas.Nat.{le_bytes_8, from_le_bytes-to_le_bytes_8}
use Rattle.std.proofs.lemmas.Int.{to_z-of_z, of_z-to_z}
use borrow.Author.Gap.{read_sfits}
use Rattle.code_file.specs.declared.rule.CodeRule.{CodeRule}
use Rattle.code_file.specs.declared.rule.CodeRule.TheVariants.{NoHeader, EndsEarly, OutOfRange, NotZero, AfterEnd}
use Rattle.code_file.specs.Fields.{bytes_of, Fits}
use Rattle.code_file.specs.Reading.{Found, long_at, is_zero, operand_at, refused_by}
use Rattle.code_file.proofs.Lists.{IsBytes, small_at, front_small}
use Rattle.code_file.proofs.Formats.{Wrong, Taken, IsFormat, after_ok, after_err}
use Rattle.code_file.proofs.FieldFormats.{field_format, chosen_ok, chosen_err, refused_ok, refused_err, failed}
use Rattle.code_file.proofs.TableLemmas.{operand_field}

abbrev got : ℤ × List ℕ → Found (ℤ × List ℕ)
got p = Ok p

-- ---- eight bytes

eight_taken : (bytes : List ℕ) → from_le_bytes w64 (take 8 bytes) ≡ from_le_bytes w64 bytes
eight_taken bytes = rw (get_or-take 8 bytes 0 0 (omega arith), get_or-take 8 bytes 1 0 (omega arith), get_or-take 8 bytes 2 0 (omega arith), get_or-take 8 bytes 3 0 (omega arith), get_or-take 8 bytes 4 0 (omega arith), get_or-take 8 bytes 5 0 (omega arith), get_or-take 8 bytes 6 0 (omega arith), get_or-take 8 bytes 7 0 (omega arith)) refl

eight_there : (bytes : List ℕ) → IsBytes bytes → 8 ≤ length bytes → to_le_bytes w64 (from_le_bytes w64 (take 8 bytes)) ≡ take 8 bytes
eight_there bytes small long = le_bytes_8 (take 8 bytes) _ (omega (arith, length-take 8 bytes)) (small_at (take 8 bytes) (front_small bytes (take 8 bytes) (drop 8 bytes) (sym (take-append-drop 8 bytes)) small)) refl

eight_below : (bytes : List ℕ) → IsBytes bytes → from_le_bytes w64 bytes < 2 ^ 64
eight_below bytes small = omega (arith, small_at bytes small 0, small_at bytes small 1, small_at bytes small 2, small_at bytes small 3, small_at bytes small 4, small_at bytes small 5, small_at bytes small 6, small_at bytes small 7)

-- eight bytes in front, as an integer
record LongTaken (bytes : List ℕ) (x : ℤ) (rest : List ℕ) : Type 0 where
  pub fits : FitsSigned w64 x
  pub parts : bytes ≡ to_le_bytes w64 (cast_unsigned w64 x) ++ rest
  pub long : 8 ≤ length bytes
  pub is : x ≡ cast_signed w64 (from_le_bytes w64 bytes)

long_taken : (bytes : List ℕ) (x : ℤ) (rest : List ℕ) → IsBytes bytes → long_at bytes ≡ Ok (x, rest) → LongTaken bytes x rest
long_taken bytes x rest small e =
    let number : ℕ = from_le_bytes w64 (take 8 bytes) in
    let g = chosen_ok (ltb (length bytes) 8) (EndsEarly, 0) (cast_signed w64 number, drop 8 bytes) (x, rest) e in
    let long : 8 ≤ length bytes = ltb-false _ _ g.0 in
    let x_is : cast_signed w64 number ≡ x = ap (λ (p : ℤ × List ℕ). p.0) g.1 in
    let rest_is : drop 8 bytes ≡ rest = ap (λ (p : ℤ × List ℕ). p.1) g.1 in
    let front_bytes : IsBytes (take 8 bytes) = front_small bytes (take 8 bytes) (drop 8 bytes) (sym (take-append-drop 8 bytes)) small in
    let back : cast_unsigned w64 x ≡ number = ap (cast_unsigned w64) (sym x_is) ∙ of_z-to_z w64 number (eight_below (take 8 bytes) front_bytes) in
    let front : to_le_bytes w64 (cast_unsigned w64 x) ≡ take 8 bytes = ap (to_le_bytes w64) back ∙ eight_there bytes small long in
    record {
      fits = subst (FitsSigned w64) x_is (read_sfits w64 number);
      parts = sym (take-append-drop 8 bytes) ∙ ap (λ (b : List ℕ). b ++ drop 8 bytes) (sym front) ∙ ap (λ (r : List ℕ). to_le_bytes w64 (cast_unsigned w64 x) ++ r) rest_is;
      long = long;
      is = sym x_is ∙ ap (cast_signed w64) (eight_taken bytes);
    }

read_eight : (front rest : List ℕ) → length front ≡ 8 → long_at (front ++ rest) ≡ Ok (cast_signed w64 (from_le_bytes w64 front), rest)
read_eight front rest len =
    let long : ltb (length (front ++ rest)) 8 ≡ false = le-ltb _ _ (omega (arith, length-append front rest)) in
    rw (long, take_at front rest 8 len, drop_at front rest 8 len) refl

long_again : (number : ℕ) (rest : List ℕ) → number < 2 ^ 64 → long_at (to_le_bytes w64 number ++ rest) ≡ Ok (cast_signed w64 number, rest)
long_again number rest lt = read_eight (to_le_bytes w64 number) rest refl ∙ ap (λ (k : ℕ). got (cast_signed w64 k, rest)) (from_le_bytes-to_le_bytes_8 number lt)

long_short : (bytes : List ℕ) → length bytes < 8 → long_at bytes ≡ Err (EndsEarly, 0)
long_short bytes lt = let t : ltb (length bytes) 8 ≡ true = lt-ltb _ _ lt in rw t refl

long_there : (bytes : List ℕ) → 8 ≤ length bytes → long_at bytes ≡ Ok (cast_signed w64 (from_le_bytes w64 bytes), drop 8 bytes)
long_there bytes long =
    let t : ltb (length bytes) 8 ≡ false = le-ltb _ _ long in
    rw (t, eight_taken bytes) refl

unsigned_below : (z : ℤ) → FitsSigned w64 z → cast_unsigned w64 z < 2 ^ 64
unsigned_below (pos n) fits = omega (arith, fits.sfits)
unsigned_below (negsuc n) fits = omega arith

-- ---- 0 or not

-- a test that refuses an operand
abbrev unwanted : (used : Bool) → ℤ → Bool
unwanted used z = not used && not (is_zero z)

zero_where : (used : Bool) (z : ℤ) → unwanted used z ≡ false → used ≡ false → z ≡ pos 0
zero_where true z h u = absurd cc
zero_where false (pos zero) h u = refl
zero_where false (pos (suc n)) h u = absurd cc
zero_where false (negsuc n) h u = absurd cc

wanted : (used : Bool) (z : ℤ) → (used ≡ false → z ≡ pos 0) → unwanted used z ≡ false
wanted true z h = refl
wanted false z h = rw (h refl) refl

-- a number is 0 where it is 0 as an integer with a sign
nonzero_bits : (b : Bool) (m k : ℕ) → is_zero (cond b (pos (suc m)) (negsuc k)) ≡ false
nonzero_bits true m k = refl
nonzero_bits false m k = refl

nonzero : (n : ℕ) → 0 < n → is_zero (cast_signed w64 n) ≡ false
nonzero zero lt = absurd (omega arith)
nonzero (suc m) lt = nonzero_bits (ltb (suc m) (2 ^ 63)) m (2 ^ 64 - suc (suc m))

positive : (n : ℕ) → is_zero (cast_signed w64 n) ≡ false → 0 < n
positive zero h = absurd cc
positive (suc n) h = omega arith

refused_zero : (used : Bool) (z : ℤ) → unwanted used z ≡ true → (used ≡ false) × (is_zero z ≡ false)
refused_zero true z h = absurd cc
refused_zero false (pos zero) h = absurd cc
refused_zero false (pos (suc n)) h = (refl, refl)
refused_zero false (negsuc n) h = (refl, refl)

-- ---- the format

abbrev pub UnusedIsZero : (used : Bool) → ℤ → Type 0
UnusedIsZero used z = used ≡ false → z ≡ pos 0

fit_of : (used : Bool) (z : ℤ) → FitsSigned w64 z → Fits (operand_field used z)
fit_of true z fits = fits
fit_of false z fits = tt

spelt_of : (used : Bool) (z : ℤ) → UnusedIsZero used z → bytes_of (operand_field used z ∷ []) ≡ to_le_bytes w64 (cast_unsigned w64 z)
spelt_of true z h = refl
spelt_of false z h = rw (h refl) refl

operand_takes : (used : Bool) (bytes : List ℕ) (x : ℤ) (rest : List ℕ) → IsBytes bytes → operand_at used bytes ≡ Ok (x, rest) → Taken (UnusedIsZero used) (λ z. operand_field used z ∷ []) bytes x rest
unfolding operand_at
operand_takes used bytes x rest small e =
    let a = after_ok (long_at bytes) (λ y. refused_by (unwanted used y.0) NotZero (length bytes) y) (x, rest) e in
    let g = refused_ok (unwanted used a.value.0) NotZero (length bytes) a.value (x, rest) a.second in
    let t = long_taken bytes x rest small (a.first ∙ ap (λ (p : ℤ × List ℕ). got p) g.1) in
    let x_is : a.value.0 ≡ x = ap (λ (p : ℤ × List ℕ). p.0) g.1 in
    let passed : unwanted used x ≡ false = subst (λ (z : ℤ). unwanted used z ≡ false) x_is g.0 in
    record {
      valid = zero_where used x passed;
      fit = (fit_of used x t.fits, tt);
      parts = t.parts ∙ ap (λ (b : List ℕ). b ++ rest) (sym (spelt_of used x (zero_where used x passed)));
    }

operand_again : (used : Bool) (x : ℤ) (rest : List ℕ) → UnusedIsZero used x → FitsSigned w64 x → operand_at used (bytes_of (operand_field used x ∷ []) ++ rest) ≡ Ok (x, rest)
unfolding operand_at
operand_again used x rest v fits =
    let spelt : bytes_of (operand_field used x ∷ []) ++ rest ≡ to_le_bytes w64 (cast_unsigned w64 x) ++ rest = ap (λ (b : List ℕ). b ++ rest) (spelt_of used x v) in
    let read : long_at (to_le_bytes w64 (cast_unsigned w64 x) ++ rest) ≡ Ok (x, rest) = long_again (cast_unsigned w64 x) rest (unsigned_below x fits) ∙ ap (λ (z : ℤ). got (z, rest)) (to_z-of_z w64 x fits) in
    let passed : unwanted used x ≡ false = wanted used x v in
    let here : operand_at used (to_le_bytes w64 (cast_unsigned w64 x) ++ rest) ≡ Ok (x, rest) = rw (read, passed) refl in
    ap (operand_at used) spelt ∙ here

fitting : (used : Bool) (x : ℤ) → UnusedIsZero used x → Fits (operand_field used x) → FitsSigned w64 x
fitting true x v fit = fit
fitting false x v fit = subst (FitsSigned w64) (sym (v refl)) (record { sfits = omega arith })

not_used : (used : Bool) (bytes : List ℕ) → used ≡ false → 8 ≤ length bytes → 0 < from_le_bytes w64 bytes → Wrong (operand_field used (pos 0)) bytes NotZero (length bytes)
not_used true bytes u long lt = absurd cc
not_used false bytes u long lt = ((long, lt), refl)

too_short : (used : Bool) (z : ℤ) (bytes : List ℕ) → length bytes < 8 → Wrong (operand_field used z) bytes EndsEarly 0
too_short true z bytes lt = (lt, refl)
too_short false z bytes lt = (lt, refl)

operand_fails : (used : Bool) (bytes : List ℕ) (rule : CodeRule) (n : ℕ) → IsBytes bytes → operand_at used bytes ≡ Err (rule, n) → Wrong (operand_field used (pos 0)) bytes rule n
unfolding operand_at
operand_fails used bytes rule n small e =
    elim (after_err (long_at bytes) (λ y. refused_by (unwanted used y.0) NotZero (length bytes) y) (rule, n) e) [
      | inl first ↦
          let g = chosen_err (ltb (length bytes) 8) (EndsEarly, 0) (rule, n) (cast_signed w64 (from_le_bytes w64 (take 8 bytes)), drop 8 bytes) first in
          subst (λ (f : CodeRule × ℕ). Wrong (operand_field used (pos 0)) bytes f.0 f.1) g.1 (too_short used (pos 0) bytes (ltb-true _ _ g.0))
      | inr a ↦
          let g = refused_err (unwanted used a.value.0) NotZero (length bytes) a.value (rule, n) a.second in
          let t = long_taken bytes a.value.0 a.value.1 small a.first in
          let r = refused_zero used a.value.0 g.0 in
          let some : 0 < from_le_bytes w64 bytes = positive (from_le_bytes w64 bytes) (ap is_zero (sym t.is) ∙ r.1) in
          subst (λ (f : CodeRule × ℕ). Wrong (operand_field used (pos 0)) bytes f.0 f.1) g.1 (not_used used bytes r.0 t.long some)
    ]

operand_short : (used : Bool) (bytes : List ℕ) → length bytes < 8 → operand_at used bytes ≡ Err (EndsEarly, 0)
unfolding operand_at
operand_short used bytes lt = rw (long_short bytes lt) refl

operand_unused : (bytes : List ℕ) → 8 ≤ length bytes → 0 < from_le_bytes w64 bytes → operand_at false bytes ≡ Err (NotZero, length bytes)
unfolding operand_at
operand_unused bytes long lt = rw (long_there bytes long, nonzero (from_le_bytes w64 bytes) lt) refl

operand_refuses : (used : Bool) (x : ℤ) (bytes : List ℕ) (rule : CodeRule) (n : ℕ) → Wrong (operand_field used x) bytes rule n → operand_at used bytes ≡ Err (rule, n)
operand_refuses true x bytes NoHeader n w = absurd w
operand_refuses true x bytes EndsEarly n w = operand_short true bytes w.0 ∙ ap (λ (k : ℕ). failed EndsEarly k) (sym w.1)
operand_refuses true x bytes OutOfRange n w = absurd w.0
operand_refuses true x bytes NotZero n w = absurd w.0
operand_refuses true x bytes AfterEnd n w = absurd w
operand_refuses false x bytes NoHeader n w = absurd w
operand_refuses false x bytes EndsEarly n w = operand_short false bytes w.0 ∙ ap (λ (k : ℕ). failed EndsEarly k) (sym w.1)
operand_refuses false x bytes OutOfRange n w = absurd w.0
operand_refuses false x bytes NotZero n w = operand_unused bytes w.0.0 w.0.1 ∙ ap (λ (k : ℕ). failed NotZero k) (sym w.1)
operand_refuses false x bytes AfterEnd n w = absurd w

zero_fits : (used : Bool) → Fits (operand_field used (pos 0))
zero_fits true = record { sfits = omega arith }
zero_fits false = tt

pub operand_format : (used : Bool) → IsFormat (operand_at used) (UnusedIsZero used) (λ z. operand_field used z ∷ [])
operand_format used = field_format (operand_at used) (UnusedIsZero used) (operand_field used) (record {
  takes = operand_takes used;
  again = λ x rest v fit. operand_again used x rest v (fitting used x v fit);
  value = pos 0;
  valid = λ _. refl;
  fit = zero_fits used;
  fails = λ bytes rule n small e. operand_fails used bytes rule n small e;
  refuses = λ x bytes rule n v w. operand_refuses used x bytes rule n w;
})

-- The field of an integer.
use Rattle.std.proofs.Common.{◌≡◌, ℕ, ◌-◌, ◌<◌, ◌≤◌, Bool, true, false, cond, nat_le, Result, Ok, Err, ℤ, pos, List, ◌++◌, length, replicate, to_z, of_z, w64, SFits, refl, sym, ap, subst, ◌∙◌, arith}
use borrow.Author.Tests.{leb-true}
use Rattle.std.proofs.lemmas.Bool.Decides.{nat_tests}
use Rattle.std.proofs.lemmas.List.{length-append, length-replicate}
use Rattle.std.proofs.lemmas.Int.{to_z-of_z}
use Rattle.std.specs.Int.Signed.{lt_z}
use Rattle.std.specs.Result.{IsErrAnd}
use Rattle.std.specs.Fmt.{signed_decimal}
use Rattle.sim_values.specs.Images.{OutputState, all_placed, integer_field, outint, with_room}
use Rattle.sim_base.specs.declared.run_error.RunError.{RunError}
use Rattle.sim_base.specs.declared.run_error.RunError.TheVariants.{FieldTooLong}
use Rattle.basic_io.specs.declared.fault.IoFault.{IoFault}
use Rattle.basic_io.specs.declared.fault.IoFault.TheVariants.{Run}
use Rattle.basic_io.specs.Output.{IsAt, Performs, Writing, field, lacks_room, output_state}
use Rattle.basic_io.proofs.OutputLines.{handed_on}
use Rattle.basic_io.proofs.OutputPlacing.{placed_there}

pub field_left : (digits : List ℕ) (n : ℕ) (left : Bool) → length digits ≤ n → left ≡ true → field digits n left ≡ digits ++ replicate (n - length digits) 32
field_left digits n left fits is = rw is (grind (arith, nat_tests))

pub field_right : (digits : List ℕ) (n : ℕ) (left : Bool) → length digits ≤ n → left ≡ false → field digits n left ≡ replicate (n - length digits) 32 ++ digits
field_right digits n left fits is = rw is (grind (arith, nat_tests))

either_way : (n : ℕ) (cs fit : List ℕ) → (length cs ≤ n → length fit ≡ n) → length (cond (nat_le (length cs) n) fit (replicate n 42)) ≡ n
either_way n cs fit full = by_test (nat_le (length cs) n) refl
  where
    by_test : (b : Bool) → nat_le (length cs) n ≡ b → length (cond b fit (replicate n 42)) ≡ n
    by_test true e = full (leb-true (length cs) n e)
    by_test false e = length-replicate {A = ℕ} n 42

pub length-field : (digits : List ℕ) (n : ℕ) (left : Bool) → length (field digits n left) ≡ n
length-field digits n true =
    let blanks : List ℕ = replicate (n - length digits) 32 in
    either_way n digits (digits ++ blanks) (λ fits. length-append digits blanks ∙ omega (arith, length-replicate {A = ℕ} (n - length digits) 32))
length-field digits n false =
    let blanks : List ℕ = replicate (n - length digits) 32 in
    either_way n digits (blanks ++ digits) (λ fits. length-append blanks digits ∙ omega (arith, length-replicate {A = ℕ} (n - length digits) 32))

-- the field of an integer whose characters were made, from its bits and those of the width
pub field_made : (i width : ℤ) (digits text : List ℕ) (places : ℕ) → SFits w64 i → SFits w64 width → text ≡ signed_decimal (to_z w64 (of_z w64 i)) → digits ≡ text
    → ((j : ℤ) → digits ≡ signed_decimal j → integer_field j (to_z w64 (of_z w64 width)) ≡ field digits places (lt_z (to_z w64 (of_z w64 width)) (pos 0)))
    → integer_field i width ≡ field digits places (lt_z (to_z w64 (of_z w64 width)) (pos 0))
field_made i width digits text places short short_width is read made =
    sym (ap (integer_field i) (to_z-of_z w64 width short_width)) ∙ made i (read ∙ is ∙ ap signed_decimal (to_z-of_z w64 i short))

outint_refused : (s : OutputState) (i width : ℤ) → s.image.length < length (integer_field i width) → outint s i width ≡ Err FieldTooLong
outint_refused s i width long = grind (arith, nat_tests)

outint_fits : (s : OutputState) (i width : ℤ) → length (integer_field i width) ≤ s.image.length
    → outint s i width ≡ Ok (all_placed (with_room s (length (integer_field i width))) (integer_field i width))
outint_fits s i width fits = grind (arith, nat_tests)

-- ---- `outint`

module _ (s : OutputState) (i width : ℤ) (digits : List ℕ) (places : ℕ) (left : Bool) (made : integer_field i width ≡ field digits places left) where
  field_count : length (integer_field i width) ≡ places
  field_count = ap length made ∙ length-field digits places left

  abbrev Lacks : ℕ → OutputState → Type 0
  Lacks n r = (lacks_room s n ≡ true) × (r ≡ s)

  -- the field is longer than the image
  pub outint_refuses : (here : Writing) → s.image.length < places → Performs {A = Unit {0}} (outint s i width) (Lacks (length (integer_field i width))) here here (Err (Run FieldTooLong))
  outint_refuses here long =
      let more : s.image.length < length (integer_field i width) = omega (arith, field_count) in
      subst (λ (o : Result OutputState RunError). Performs {A = Unit {0}} o (Lacks (length (integer_field i width))) here here (Err (Run FieldTooLong))) (sym (outint_refused s i width more)) (refl, refl)

  done_by : (old new : Writing) (result : Result (Unit {0}) IoFault) → places ≤ s.image.length → Performs (Ok (all_placed (with_room s places) (integer_field i width))) (Lacks (length (integer_field i width))) old new result
      → Performs (outint s i width) (Lacks (length (integer_field i width))) old new result
  done_by old new result fits done =
      let enough : length (integer_field i width) ≤ s.image.length = omega (arith, field_count) in
      let whole : outint s i width ≡ Ok (all_placed (with_room s places) (integer_field i width)) =
      outint_fits s i width enough ∙ ap (λ (n : ℕ). Ok (all_placed (with_room s n) (integer_field i width))) field_count
      in
      subst (λ (o : Result OutputState RunError). Performs o (Lacks (length (integer_field i width))) old new result) (sym whole) done

  -- the fault of the image that was to make room
  pub outint_fault : (old new : Writing) (e : IoFault) (result : Result (Unit {0}) IoFault) → places ≤ s.image.length → Performs {A = Unit {0}} (Ok (with_room s places)) (Lacks places) old new (Err e) → IsErrAnd result (λ f. f ≡ e)
      → Performs (outint s i width) (Lacks (length (integer_field i width))) old new result
  outint_fault old new e result fits failed is =
      done_by old new result fits (handed_on (Unit {0}) (with_room s places) _ (Lacks places) _ old new e result failed (λ r writes. (ap (lacks_room s) field_count ∙ writes.0, writes.1)) is)

  pub outint_done : (old mid new : Writing) → places ≤ s.image.length → IsAt (with_room s places) (with_room s places).written old mid
      → new.frames ≡ (all_placed (output_state mid.frames mid.image) (field digits places left)).frames → new.image ≡ (all_placed (output_state mid.frames mid.image) (field digits places left)).image → new.sink ≡ mid.sink
      → Performs (outint s i width) (Lacks (length (integer_field i width))) old new (Ok (tt {0}))
  outint_done old mid new fits there frames image sink =
      let same = λ (cs : List ℕ). all_placed (output_state mid.frames mid.image) cs in
      done_by old new (Ok (tt {0})) fits (placed_there (with_room s places) (integer_field i width) old mid new there
      (frames ∙ sym (ap (λ (cs : List ℕ). (same cs).frames) made)) (image ∙ sym (ap (λ (cs : List ℕ). (same cs).image) made)) sink)

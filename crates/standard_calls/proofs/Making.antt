-- Names that make a text.
use Rattle.std.proofs.Common.{◌≡◌, ℕ, ◌+◌, ◌-◌, ◌<◌, ◌≤◌, List, [], length, drop, inl, inr, sym, subst, refl, ap, ◌∙◌, arith}
use Rattle.std.specs.Prelude.{ℤ, Bool, IsTrue, nat_le, ◌↔◌, ◌⊎◌, pos, negsuc, Option, Some, None, Result, Ok, Err}
use Rattle.sim_base.specs.declared.run_error.RunError.{RunError}
use Rattle.sim_values.specs.declared.standard.Standard.{Standard}
use Rattle.sim_values.specs.declared.value.TextVal.{TextVal}
use Rattle.sim_values.specs.Plain.{Plain, Text}
use Rattle.sim_values.specs.Store.{makes, valued}
use Rattle.sim_values.specs.Texts.{Frame, IsText, Making, blanks, characters, copy, frame_at}
use Rattle.sim_values.specs.Words.{count_from, text_words}
use Rattle.text_objects.specs.Making.{Makes}
use Rattle.text_objects.specs.declared.fault.TextFault.{TextFault}
use Rattle.text_objects.specs.declared.fault.TextFault.TheVariants as making_fault
use Rattle.basic_io.specs.Input.{HeldInput}
use Rattle.frame_arena.specs.declared.slot.Slot.{Slot}
use Rattle.standard_calls.specs.declared.came.Came.TheVariants as came
use Rattle.standard_calls.specs.Calls.{CameAs, EffectIs, MakesWithin, plain_value, unmade_as}
use Rattle.standard_calls.specs.Performed.{Parts, parts, store_of}
use Rattle.std.proofs.lemmas.Bool.{cases_lt}
use Rattle.std.proofs.lemmas.Bool.Decides.{nat_tests}
use Rattle.std.proofs.lemmas.List.{length-drop, length-replicate, length-take-le}
use Rattle.standard_calls.proofs.Gives.{appends_nothing, nothing_behind}

-- a text that is made, or not
module _ (taken budget words words2 : ℕ) (n : Standard) (vs : List Plain) (old new : List Frame) (making : Making) (input : HeldInput) (source : List ℕ) (image : TextVal) (sink : Option (List ℕ)) (answer : Result TextVal TextFault)
    (within : words ≤ budget) (m : MakesWithin taken making (budget - words) old new answer) where
  abbrev before : Parts
  before = parts old input source image sink words

  abbrev behind : Parts
  behind = parts new input source image sink words2

  module _ (e : EffectIs n vs before (λ written. makes making (store_of before written))) where
    pub text_made : (t : TextVal) (s : Slot) → answer ≡ Ok t → words2 ≡ words + taken → plain_value (Some s) ≡ Some (Text t) → CameAs (came.Done (Some s) None) budget n vs before behind
    text_made t s is w value =
        let did : Makes making (budget - words) old new (Ok t) = subst (λ a. Makes making (budget - words) old new a) is m.0 in
        let wants : making.wanted ≡ taken = m.1 t did.1 in
        let inside : making.wanted ≤ budget - words = did.0 in (
          [],
          record {
            wanted = making.wanted;
            sink = appends_nothing sink;
            words = w ∙ ap (λ k. words + k) (sym wants);
            fits = λ h. omega (arith, within, w, wants, inside);
            effect = λ written.
                e written
                ∙ ap (λ f. Some (record { wanted = making.wanted; store = record (store_of before written) { frames = f }; moved = None; answer = valued Text making.answer })) (sym did.2)
                ∙ ap (λ a. Some (record { wanted = making.wanted; store = store_of behind written; moved = None; answer = valued Text a })) did.1
                ∙ ap (λ a. Some (record { wanted = making.wanted; store = store_of behind written; moved = None; answer = Ok a })) (sym value)
                ∙ ap (λ w. Some (record { wanted = making.wanted; store = store_of behind w; moved = None; answer = Ok (plain_value (Some s)) })) (sym (nothing_behind written));
          },
        )

    pub text_not_made : (x : RunError) → answer ≡ Err (making_fault.Run x) → words2 ≡ words → CameAs (came.Fault x) budget n vs before behind
    text_not_made x is w =
        let did : Makes making (budget - words) old new (Err (making_fault.Run x)) = subst (λ a. Makes making (budget - words) old new a) is m.0 in
        let none = m.2 x did.0 in (
          None,
          record {
            wanted = making.wanted;
            sink = appends_nothing sink;
            words = w ∙ omega (arith, none.0);
            fits = λ h. subst (λ k. k ≤ budget) (sym w) h;
            effect = λ written.
                e written
                ∙ ap (λ f. Some (record { wanted = making.wanted; store = record (store_of before written) { frames = f }; moved = None; answer = valued Text making.answer })) (none.1 ∙ sym did.1)
                ∙ ap (λ a. Some (record { wanted = making.wanted; store = store_of behind written; moved = None; answer = valued Text a })) did.0
                ∙ ap (λ w. Some (record { wanted = making.wanted; store = store_of behind w; moved = None; answer = Err x })) (sym (nothing_behind written));
          },
        )

    pub text_full : (wanted : ℕ) → answer ≡ Err (making_fault.Full wanted) → words2 ≡ words → CameAs (came.Full wanted) budget n vs before behind
    text_full wanted is w =
        let did : Makes making (budget - words) old new (Err (making_fault.Full wanted)) = subst (λ a. Makes making (budget - words) old new a) is m.0 in
        let more : budget - words < making.wanted = did.0 in
        let same : wanted ≡ making.wanted = did.1 in (
          ap (λ f. parts f input source image sink words2) did.2 ∙ ap (λ k. parts old input source image sink k) w,
          record { full = omega (arith, within, more, same); done = λ written. makes making (store_of before written); wants = λ written. sym same; effect = e },
        )

    pub text_unmade : (x : TextFault) → answer ≡ Err x → words2 ≡ words → CameAs (unmade_as x) budget n vs before behind
    text_unmade (making_fault.Run x) is w = text_not_made x is w
    text_unmade (making_fault.Full wanted) is w = text_full wanted is w
    text_unmade making_fault.Memory is w = appends_nothing sink

-- the words of a text that is made are within the budget
pub made_within : (taken budget words : ℕ) (old new : List Frame) (making : Making) (answer : Result TextVal TextFault) (t : TextVal) → words ≤ budget → MakesWithin taken making (budget - words) old new answer → answer ≡ Ok t →
    words + taken ≤ budget
made_within taken budget words old new making answer t within m is =
    let did : Makes making (budget - words) old new (Ok t) = subst (λ a. Makes making (budget - words) old new a) is m.0 in
    let wants : making.wanted ≡ taken = m.1 t did.1 in
    let inside : making.wanted ≤ budget - words = did.0 in
    omega (arith, within, wants, inside)

-- `blanks` and `copy` take the words of their texts
pub blanks_wants : (frames : List Frame) (n : ℤ) (t : TextVal) → (blanks frames n).answer ≡ Ok t → (blanks frames n).wanted ≡ text_words (count_from n)
blanks_wants frames (pos n) t e = ap text_words (length-replicate {A = ℕ} n 32)
blanks_wants frames (negsuc n) t e = refl

abbrev ok_type : Result TextVal RunError → Type 0
ok_type (Ok t) = Unit {0}
ok_type (Err x) = ⊥

not_err : (t : TextVal) (x : RunError) → ◌≡◌ {A = Result TextVal RunError} (Ok t) (Err x) → ⊥
not_err t x e = subst ok_type e tt

pub blanks_refused : (frames : List Frame) (n : ℤ) (x : RunError) → (blanks frames n).answer ≡ Err x → ((blanks frames n).wanted ≡ 0) × ((blanks frames n).frames ≡ frames)
blanks_refused frames (pos n) x e = absurd (not_err _ x e)
blanks_refused frames (negsuc n) x e = (refl, refl)

pub copy_refused : (frames : List Frame) (t : TextVal) (x : RunError) → (copy frames t).answer ≡ Err x → ((copy frames t).wanted ≡ 0) × ((copy frames t).frames ≡ frames)
copy_refused frames t x e = absurd (not_err _ x e)

-- the characters of a text are as many as it is long
pub copy_wants : (frames : List Frame) (t : TextVal) → IsText frames t → (copy frames t).wanted ≡ text_words t.length
copy_wants frames t is = ap text_words (long (cases_lt 1 (t.start + t.length)))
  where
    long : ((1 < t.start + t.length) ⊎ (t.start + t.length ≤ 1)) → length (characters frames t) ≡ t.length
    long (inl more) =
        let l = is.lies more in
        let w = l.within in
        let s = is.starts in
        length-take-le t.length (drop (t.start - 1) (frame_at frames t.text_frame).bytes) (omega (arith, w, s, length-drop (t.start - 1) (frame_at frames t.text_frame).bytes))
    long (inr less) =
        let s = is.starts in
        length-take-le t.length (drop (t.start - 1) (frame_at frames t.text_frame).bytes) (omega (arith, less, s))

pub more_is : (b : Bool) (m n : ℕ) → (IsTrue b ↔ (m ≤ n)) → b ≡ nat_le m n
more_is b m n h = grind (arith, nat_tests, h)

-- What the steps of single characters say of a call that was done, and where they cannot be refused.
use Rattle.std.proofs.Common.{◌≡◌, ℕ, ◌+◌, ◌≤◌, true, false, Bool, cond, ltb, ◌&&◌, List, Option, Some, None, Result, Ok, Err, refl, sym, ap, ◌∙◌, arith}
use Rattle.std.proofs.lemmas.Bool.Decides.{nat_tests}
use Rattle.sim_base.specs.declared.run_error.RunError.{RunError}
use Rattle.sim_values.specs.declared.value.TextVal.{TextVal}
use Rattle.sim_values.specs.Texts.{Frame, TextStep, at_position, done, outcome, putchar, putchar_refusal, unless, with_character}
use Rattle.basic_io.specs.Image.{IsImage}

abbrev ok_result : Result (Unit {0}) RunError
ok_result = Ok (tt {0})

not_both : (x : RunError) → ok_result ≡ Err x → ⊥
not_both x e = cc

-- a character was put
pub record HasPut (old new : List Frame) (t now : TextVal) (c : ℕ) : Type 0 where
  pub ok : new ≡ with_character old t c
  pub moved : now ≡ at_position t (t.pos + 1)

pub put_done : (old new : List Frame) (t now : TextVal) (c : ℕ) → putchar old t c ≡ outcome new now (Ok (tt {0})) → HasPut old new t now c
put_done old new t now c step = at_refusal (putchar_refusal old t) step
  where
    at_refusal : (r : Option RunError) → unless r old t (done (with_character old t c) (at_position t (t.pos + 1)) (tt {0})) ≡ outcome new now (Ok (tt {0})) → HasPut old new t now c
    at_refusal None e = record {
      ok = sym (ap (λ (s : TextStep (Unit {0})). s.frames) e);
      moved = sym (ap (λ (s : TextStep (Unit {0})). s.text) e);
    }
    at_refusal (Some x) e = absurd (not_both x (sym (ap (λ (s : TextStep (Unit {0})). s.answer) e)))

-- at a character of an image it is never refused
fits_in_image : (old : List Frame) (t : TextVal) → IsImage old t → t.pos ≤ t.length → putchar_refusal old t ≡ None
fits_in_image old t image room =
    let within : ltb t.length t.pos ≡ false = grind (arith, nat_tests) in
    rw (within, image.variable) (by_length (ltb 0 t.length))
  where
    by_length : (b : Bool) → cond (b && false) (Some Rattle.sim_base.specs.declared.run_error.RunError.TheVariants.TextIsConstant) None ≡ None
    by_length true = refl
    by_length false = refl

pub put_refused : (old new : List Frame) (t now : TextVal) (c : ℕ) (e : RunError) → putchar old t c ≡ outcome new now (Err e) → IsImage old t → t.pos ≤ t.length → ⊥
put_refused old new t now c e step image room =
    let none : putchar old t c ≡ done (with_character old t c) (at_position t (t.pos + 1)) (tt {0}) = ap (λ (r : Option RunError). unless r old t (done (with_character old t c) (at_position t (t.pos + 1)) (tt {0}))) (fits_in_image old t image room) in
    not_both e (ap (λ (s : TextStep (Unit {0})). s.answer) (sym none ∙ step))

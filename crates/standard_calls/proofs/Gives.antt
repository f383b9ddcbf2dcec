-- Names that give a value or are refused, with what they leave.
use Rattle.std.proofs.Common.{◌≡◌, ℕ, List, [], ◌∷◌, ◌++◌, sym, refl, ap, ◌∙◌, arith}
use Rattle.std.specs.Prelude.{Option, Some, None, Result, Ok, Err}
use Rattle.std.specs.Io.KnownBytes.{Appends}
use Rattle.sim_base.specs.declared.run_error.RunError.{RunError}
use Rattle.sim_values.specs.declared.standard.Standard.{Standard}
use Rattle.sim_values.specs.declared.value.TextVal.{TextVal}
use Rattle.sim_values.specs.Plain.{Plain, Text}
use Rattle.sim_values.specs.Store.{changes, computes, gives, moves, valued}
use Rattle.sim_values.specs.Texts.{Frame, TextStep, outcome}
use Rattle.frame_arena.specs.declared.slot.Slot.{Slot}
use Rattle.standard_calls.specs.declared.came.Came.TheVariants as came
use Rattle.standard_calls.specs.Calls.{CameAs, EffectIs, Leaves, plain_value}
use Rattle.standard_calls.specs.Performed.{Parts, store_of}

pub nothing_behind : (xs : List ℕ) → xs ++ [] ≡ xs
nothing_behind [] = refl
nothing_behind (x ∷ xs) = ap (λ l. x ∷ l) (nothing_behind xs)

pub appends_nothing : (sink : Option (List ℕ)) → Appends sink sink []
appends_nothing None = tt
appends_nothing (Some bytes) = sym (nothing_behind bytes)

module _ (budget : ℕ) (n : Standard) (vs : List Plain) (p : Parts) where
  -- nothing was written and no words were taken: only the texts may have changed
  abbrev changed : List Frame → Parts
  changed frames = record p { frames = frames }

  pub leaves : (frames : List Frame) (moved : Option TextVal) (answer : Result (Option Plain) RunError) →
      EffectIs n vs p (λ written. record { wanted = 0; store = store_of (changed frames) written; moved = moved; answer = answer }) → Leaves budget n vs p (changed frames) [] moved answer
  leaves frames moved answer e = record {
    wanted = 0;
    sink = appends_nothing p.sink;
    words = omega arith;
    fits = λ h. h;
    effect = λ written. e written ∙ ap (λ w. Some (record { wanted = 0; store = store_of (changed frames) w; moved = moved; answer = answer })) (sym (nothing_behind written));
  }

  pub came_value : (s : Slot) (q : Plain) → plain_value (Some s) ≡ Some q → EffectIs n vs p (λ written. gives q (store_of p written)) → CameAs (came.Done (Some s) None) budget n vs p p
  came_value s q is e = ([], leaves p.frames None (Ok (plain_value (Some s))) (λ written. e written ∙ ap (λ a. Some (record { wanted = 0; store = store_of p written; moved = None; answer = Ok a })) (sym is)))

  -- a value that was computed
  module _ {A : Type 0} (make : A → Plain) where
    pub computed : (s : Slot) (a : A) (answer : Result A RunError) → plain_value (Some s) ≡ Some (make a) → answer ≡ Ok a → EffectIs n vs p (λ written. computes make answer (store_of p written)) → CameAs (came.Done (Some s) None) budget n vs p p
    computed s a answer is ok e = came_value s (make a) is (λ written. e written ∙ ap (λ r. Some (computes make r (store_of p written))) ok)

    pub not_computed : (x : RunError) (answer : Result A RunError) → answer ≡ Err x → EffectIs n vs p (λ written. computes make answer (store_of p written)) → CameAs (came.Fault x) budget n vs p p
    not_computed x answer err e = (None, leaves p.frames None (Err x) (λ written. e written ∙ ap (λ r. Some (computes make r (store_of p written))) err))

  -- a text that was moved
  module _ {A : Type 0} (show : Result A RunError → Result (Option Plain) RunError) (frames : List Frame) (t : TextVal) (answer : Result A RunError) (step : TextStep A) (is : step ≡ outcome frames t answer)
      (e : EffectIs n vs p (λ written. moves show step (store_of p written))) where
    pub text_moved : (value : Option Slot) → show answer ≡ Ok (plain_value value) → CameAs (came.Done value (Some t)) budget n vs p (changed frames)
    text_moved value ok = (
      [],
      leaves frames (Some t) (Ok (plain_value value)) (λ written.
          e written ∙ ap (λ s. Some (moves show s (store_of p written))) is ∙ ap (λ a. Some (record { wanted = 0; store = store_of (changed frames) written; moved = Some t; answer = a })) ok),
    )

    pub text_refused : (x : RunError) → show answer ≡ Err x → CameAs (came.Fault x) budget n vs p (changed frames)
    text_refused x err = (
      Some t,
      leaves frames (Some t) (Err x) (λ written.
          e written ∙ ap (λ s. Some (moves show s (store_of p written))) is ∙ ap (λ a. Some (record { wanted = 0; store = store_of (changed frames) written; moved = Some t; answer = a })) err),
    )

  -- characters that were changed
  module _ (frames : List Frame) (t : TextVal) (answer : Result TextVal RunError) (step : TextStep TextVal) (is : step ≡ outcome frames t answer) (e : EffectIs n vs p (λ written. changes step (store_of p written))) where
    pub text_changed : (s : Slot) (u : TextVal) → plain_value (Some s) ≡ Some (Text u) → answer ≡ Ok u → CameAs (came.Done (Some s) None) budget n vs p (changed frames)
    text_changed s u is2 ok = (
      [],
      leaves frames None (Ok (plain_value (Some s))) (λ written.
          e written ∙ ap (λ s. Some (changes s (store_of p written))) is ∙ ap (λ a. Some (record { wanted = 0; store = store_of (changed frames) written; moved = None; answer = valued Text a })) ok
          ∙ ap (λ a. Some (record { wanted = 0; store = store_of (changed frames) written; moved = None; answer = Ok a })) (sym is2)),
    )

    pub text_kept : (x : RunError) → answer ≡ Err x → CameAs (came.Fault x) budget n vs p (changed frames)
    text_kept x err = (
      None,
      leaves frames None (Err x) (λ written.
          e written ∙ ap (λ s. Some (changes s (store_of p written))) is ∙ ap (λ a. Some (record { wanted = 0; store = store_of (changed frames) written; moved = None; answer = valued Text a })) err),
    )

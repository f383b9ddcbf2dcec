-- What the input does, where its source tells what is left.
use Rattle.std.proofs.Common.{◌≡◌, ℕ, ◌+◌, ◌-◌, ◌^◌, min, ◌<◌, ◌≤◌, List, [], ◌∷◌, ◌++◌, sym, subst, refl, ap, ◌∙◌, arith}
use Rattle.std.specs.Prelude.{ℤ, pos, negsuc, int_lt, nat_lt, true, false, Option, Some, None, Result, Ok, Err}
use Rattle.sim_base.specs.declared.run_error.RunError.{RunError}
use Rattle.sim_values.specs.declared.standard.Standard.{Standard}
use Rattle.sim_values.specs.declared.value.TextVal.{TextVal}
use Rattle.sim_base.specs.declared.run_error.RunError.TheVariants.{NegativeLength}
use Rattle.sim_values.specs.declared.standard.Standard.TheVariants as name
use Rattle.sim_values.specs.Images.{InputState, InputStep, intext, refuses}
use Rattle.sim_values.specs.Plain.{Plain, Integer, Text}
use Rattle.sim_values.specs.Store.{reads, reads_text, valued, with_input}
use Rattle.sim_values.specs.Texts.{Frame}
use Rattle.sim_values.specs.Words.{count_from, text_words}
use Rattle.basic_io.specs.declared.fault.IoFault.{IoFault}
use Rattle.basic_io.specs.declared.fault.IoFault.TheVariants as fault
use Rattle.text_objects.specs.declared.fault.TextFault.{TextFault}
use Rattle.text_objects.specs.declared.fault.TextFault.TheVariants as text
use Rattle.basic_io.specs.declared.fault.IntextFault.{IntextFault}
use Rattle.basic_io.specs.declared.fault.IntextFault.TheVariants as making
use Rattle.basic_io.specs.Intext.{ReadsText}
use Rattle.basic_io.specs.Input.{HeldInput, InputCause, Performs, Told, input_state, reading}
use Rattle.frame_arena.specs.declared.slot.Slot.{Slot}
use Rattle.standard_calls.specs.declared.came.Came.{Came}
use Rattle.standard_calls.specs.declared.came.Came.TheVariants as came
use Rattle.standard_calls.specs.Calls.{CameAs, CameSource, EffectIs, plain_value, refused_as, unread_as, words_after}
use Rattle.standard_calls.specs.Performed.{Parts, parts, store_of}
use Rattle.standard_calls.proofs.Operands.{no_some}
use Rattle.standard_calls.proofs.Slots.{off}
use Rattle.standard_calls.proofs.Effects.{does_intext}
use Rattle.standard_calls.proofs.Gives.{appends_nothing, nothing_behind}

abbrev or_else : {A : Type 0} → A → Option A → A
or_else a None = a
or_else a (Some b) = b

pub told_from : (old new : Option (List ℕ)) (Claim : List ℕ → List ℕ → Type 0) → Told old new Claim → (s : List ℕ) → old ≡ Some s → (s2 : List ℕ) × (new ≡ Some s2) × Claim s s2
told_from None new Claim t s e = absurd (no_some s e)
told_from (Some x) None Claim t s e = absurd (off (t.tells refl))
told_from (Some x) (Some y) Claim t s e =
    let c = t.claim y refl in
    let is : x ≡ s = ap (or_else x) e in
    (y, refl, subst (λ b. Claim b y) (sym c.1.0 ∙ is) c.1.1)

module _ (n : Standard) (vs : List Plain) (budget : ℕ) (old new : List Frame) (held held2 : HeldInput) (image : TextVal) (sink : Option (List ℕ)) where
  module _ (words words2 : ℕ) (s s2 : List ℕ) where
    abbrev before : Parts
    before = parts old held s image sink words

    abbrev after : Parts
    after = parts new held2 s2 image sink words2

    -- a call that has read
    module _ {A : Type 0} (show : Result A RunError → Result (Option Plain) RunError) (wanted : ℕ) (step : InputStep A) (w : words2 ≡ words + wanted) (fits : words ≤ budget → words2 ≤ budget)
        (e : EffectIs n vs before (λ written. record (reads show step (store_of before written)) { wanted = wanted })) (left : step.after ≡ input_state new held2 s2) where
      effect_left : (a : Result (Option Plain) RunError) → show step.answer ≡ a → EffectIs n vs before (λ written. record { wanted = wanted; store = store_of after (written ++ []); moved = None; answer = a })
      effect_left a is written =
          e written
          ∙ ap (λ r. Some (record { wanted = wanted; store = with_input (store_of before written) r; moved = None; answer = show step.answer })) left
          ∙ ap (λ r. Some (record { wanted = wanted; store = store_of after written; moved = None; answer = r })) is
          ∙ ap (λ l. Some (record { wanted = wanted; store = store_of after l; moved = None; answer = a })) (sym (nothing_behind written))

      pub has_read : (value : Option Slot) → show step.answer ≡ Ok (plain_value value) → CameAs (came.Done value None) budget n vs before after
      has_read value is = ([], record { wanted = wanted; sink = appends_nothing sink; words = w; fits = fits; effect = effect_left (Ok (plain_value value)) is })

      pub was_refused : (x : RunError) → show step.answer ≡ Err x → CameAs (came.Fault x) budget n vs before after
      was_refused x is = (None, record { wanted = wanted; sink = appends_nothing sink; words = w; fits = fits; effect = effect_left (Err x) is })

  -- the calls that make no text
  module _ {A : Type 0} (words : ℕ) (show : Result A RunError → Result (Option Plain) RunError) (step : InputState → InputStep A) (Wants : InputState → InputState → Type 0)
      (e : (s : List ℕ) → EffectIs n vs (parts old held s image sink words) (λ written. reads show (step (input_state old held s)) (store_of (parts old held s image sink words) written)))
      (left left2 : Option (List ℕ)) where
    abbrev Came_from : Came → Type 0
    Came_from c = (s : List ℕ) → left ≡ Some s → (s2 : List ℕ) × (left2 ≡ Some s2) × CameAs c budget n vs (parts old held s image sink words) (parts new held2 s2 image sink words)

    pub reads_done : (a : A) (value : Option Slot) → show (Ok a) ≡ Ok (plain_value value) → Performs step Wants (reading old held left) (reading new held2 left2) (Ok a) → Came_from (came.Done value None)
    reads_done a value is p s told =
        let t = told_from left left2 _ p s told in
        (t.0, t.1, has_read words words s t.0 show 0 (step (input_state old held s)) (omega arith) (λ h. h) (e s) t.2.1 value (ap show t.2.0 ∙ is))

    pub reads_refused : ((x : RunError) → show (Err x) ≡ Err x) → (x : IoFault) → Performs step Wants (reading old held left) (reading new held2 left2) (Err x) → Came_from (refused_as x)
    reads_refused is (fault.Run x) p s told =
        let t = told_from left left2 _ p s told in
        (t.0, t.1, was_refused words words s t.0 show 0 (step (input_state old held s)) (omega arith) (λ h. h) (e s) t.2.1 x (ap show t.2.0 ∙ is x))
    reads_refused is fault.InputFault p s told = let t = told_from left left2 _ p s told in (t.0, t.1, appends_nothing sink)
    reads_refused is fault.WriteFault p s told = let t = told_from left left2 _ p s told in absurd t.2

pub refused_source : (A : Type 0) (from now : ℕ) (x : IoFault) → InputCause {A = A} from now (Err x) → CameSource (refused_as x) from now
refused_source A from now (fault.Run r) h = h
refused_source A from now fault.InputFault h = h
refused_source A from now fault.WriteFault h = absurd h

-- ---- a text that is read

intext_words : (s : InputState) (n : ℤ) → (intext s n).wanted ≡ text_words (count_from n)
intext_words s (pos m) = refl
intext_words s (negsuc m) = refl

none_below : (m : ℕ) → nat_lt m 0 ≡ false
none_below m = grind arith

negative : (s : InputState) (n : ℤ) → int_lt n (pos 0) ≡ true → intext s n ≡ record { wanted = 0; step = refuses s NegativeLength }
negative s (pos m) h = absurd (off (sym (none_below m) ∙ h))
negative s (negsuc m) h = refl

module _ (budget words words2 taken room : ℕ) (n : ℤ) (old new : List Frame) (held held2 : HeldInput) (image : TextVal) (sink : Option (List ℕ)) (left left2 : Option (List ℕ)) (within : words ≤ budget) (is : room ≡ budget - words)
    (takes : taken ≡ text_words (count_from n)) where
  abbrev Came_in : Came → Type 0
  Came_in c = (s : List ℕ) → left ≡ Some s → (s2 : List ℕ) × (left2 ≡ Some s2) × CameAs c budget name.Intext (Integer n ∷ []) (parts old held s image sink words) (parts new held2 s2 image sink words2)

  module _ (s s2 : List ℕ) where
    abbrev here : InputState
    here = input_state old held s

    wanted_is : (intext here n).wanted ≡ taken
    wanted_is = intext_words here n ∙ sym takes

    pub read_within : (intext here n).wanted ≤ room → words + taken ≤ budget
    read_within h = let w = wanted_is in omega (arith, h, w, within, is)

    module _ (sum : words2 ≡ words + taken) (inside : (intext here n).wanted ≤ room) (after : (intext here n).step.after ≡ input_state new held2 s2) where
      more : words2 ≡ words + (intext here n).wanted
      more = sum ∙ ap (λ k. words + k) (sym wanted_is)

      fits : words ≤ budget → words2 ≤ budget
      fits h = let w = read_within inside in omega (arith, sum, w)

      pub text_read_done : (t : TextVal) (value : Slot) → (intext here n).step.answer ≡ Ok t → plain_value (Some value) ≡ Some (Text t) →
          CameAs (came.Done (Some value) None) budget name.Intext (Integer n ∷ []) (parts old held s image sink words) (parts new held2 s2 image sink words2)
      text_read_done t value ok v =
          has_read name.Intext (Integer n ∷ []) budget old new held held2 image sink words words2 s s2 (valued Text) (intext here n).wanted (intext here n).step more fits
          (λ written. does_intext (store_of (parts old held s image sink words) written) n) after (Some value) (ap (valued Text) ok ∙ ap (λ m. Ok m) (sym v))

      pub text_read_refused : (x : RunError) → (intext here n).step.answer ≡ Err x → CameAs (came.Fault x) budget name.Intext (Integer n ∷ []) (parts old held s image sink words) (parts new held2 s2 image sink words2)
      text_read_refused x err =
          was_refused name.Intext (Integer n ∷ []) budget old new held held2 image sink words words2 s s2 (valued Text) (intext here n).wanted (intext here n).step more fits
          (λ written. does_intext (store_of (parts old held s image sink words) written) n) after x (ap (valued Text) err)

  abbrev sum_of_words : ℕ
  sum_of_words = min (words + taken) (2 ^ 64 - 1)

  whole_sum : budget < 2 ^ 64 → words + taken ≤ budget → sum_of_words ≡ words + taken
  whole_sum b h = omega (arith, b, h)

  pub intext_done : budget < 2 ^ 64 → words2 ≡ sum_of_words → (t : TextVal) (value : Slot) → plain_value (Some value) ≡ Some (Text t) →
      Told left left2 (λ before now. ReadsText n room (input_state old held before) (Ok t) (input_state new held2 now)) → Came_in (came.Done (Some value) None)
  intext_done b w t value v told s e =
      let d = told_from left left2 _ told s e in
      (d.0, d.1, text_read_done s d.0 (w ∙ whole_sum b (read_within s d.0 d.2.0)) d.2.0 d.2.2 t value d.2.1 v)

  pub intext_refused : budget < 2 ^ 64 → (x : IntextFault) → words2 ≡ words_after x words taken →
      Told left left2 (λ before now. ReadsText n room (input_state old held before) (Err x) (input_state new held2 now)) →
      ((y : TextFault) → ◌≡◌ {A = Result TextVal IntextFault} (Err x) (Err (making.NoText y)) → (new ≡ old) × (held2 ≡ held) × (left2 ≡ left)) → Came_in (unread_as x)
  intext_refused b (making.NotRead (fault.Run x)) w told same s e =
      let d = told_from left left2 _ told s e in
      (d.0, d.1, text_read_refused s d.0 (w ∙ whole_sum b (read_within s d.0 d.2.0)) d.2.0 d.2.2 x d.2.1)
  intext_refused b (making.NotRead fault.InputFault) w told same s e = let d = told_from left left2 _ told s e in (d.0, d.1, appends_nothing sink)
  intext_refused b (making.NotRead fault.WriteFault) w told same s e = let d = told_from left left2 _ told s e in absurd d.2
  intext_refused b (making.NoText (text.Run x)) w told same s e = let d = told_from left left2 _ told s e in (d.0, d.1, appends_nothing sink)
  intext_refused b (making.NoText text.Memory) w told same s e = let d = told_from left left2 _ told s e in (d.0, d.1, appends_nothing sink)
  intext_refused b (making.NoText (text.Full k)) w told same s e =
      let d = told_from left left2 _ told s e in
      let u = same (text.Full k) refl in
      let here : InputState = input_state old held s in
      let few : room < (intext here n).wanted = d.2.0 in
      let is2 : k ≡ (intext here n).wanted = d.2.1 in (
        s,
        u.2 ∙ e,
        (
          ap (λ f. parts f held2 s image sink words2) u.0 ∙ ap (λ h. parts old h s image sink words2) u.1 ∙ ap (λ w. parts old held s image sink w) w,
          record {
            full = omega (arith, few, is2, within, is);
            done = λ written. reads_text (intext here n) (store_of (parts old held s image sink words) written);
            wants = λ written. sym is2;
            effect = λ written. does_intext (store_of (parts old held s image sink words) written) n;
          },
        ),
      )

pub intext_negative : (budget words : ℕ) (n : ℤ) (frames : List Frame) (held : HeldInput) (image : TextVal) (sink : Option (List ℕ)) (s : List ℕ) → int_lt n (pos 0) ≡ true →
    CameAs (came.Fault NegativeLength) budget name.Intext (Integer n ∷ []) (parts frames held s image sink words) (parts frames held s image sink words)
intext_negative budget words n frames held image sink s h =
    was_refused name.Intext (Integer n ∷ []) budget frames frames held held image sink words words s s (valued Text) 0 (refuses (input_state frames held s) NegativeLength) (omega arith) (λ h. h)
    (λ written. does_intext (store_of (parts frames held s image sink words) written) n ∙ ap (λ r. Some (reads_text r (store_of (parts frames held s image sink words) written))) (negative (input_state frames held s) n h)) refl NegativeLength refl

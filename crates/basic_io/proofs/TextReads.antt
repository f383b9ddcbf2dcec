-- Characters read into a text one after another.
use Rattle.std.proofs.Common.{◌≡◌, ◌≢◌, ℕ, zero, suc, ◌+◌, ◌-◌, ◌<◌, ◌≤◌, Bool, true, false, cond, ltb, ◌&&◌, List, Option, Some, None, Result, Ok, Err, length, set, get_or, replicate, ℤ, pos, negsuc, ◌==◌, refl, sym, ap, ◌∙◌, subst, arith}
use Rattle.std.proofs.lemmas.Bool.Decides.{nat_tests}
use Rattle.std.proofs.lemmas.List.{get_or-set_same, length-replicate}
use Rattle.std.proofs.lemmas.Option.{slice_get_within, slice_get-get_or, get_or_from_slice_get}
use Rattle.std.specs.List.{slice_get}
use Rattle.sim_base.specs.declared.run_error.RunError.{RunError}
use Rattle.sim_base.specs.declared.run_error.RunError.TheVariants.{TextIsConstant}
use Rattle.sim_values.specs.declared.value.TextVal.{TextVal}
use Rattle.sim_values.specs.Texts.{Frame, IsText, KeepsTexts, SameBut, TextStep, at_position, blanks, done, frame_at, new_text, notext, outcome, putchar, putchar_refusal, unless, with_character, with_new}
use Rattle.sim_values.specs.Words.{count_from, text_words}
use Rattle.text_objects.specs.Making.{Makes}
use Rattle.sim_values.specs.Images.{InputState, InputStep, answers, characters_read, go_on, inchar, with_frames}
use Rattle.basic_io.specs.declared.fault.IoFault.{IoFault}
use Rattle.basic_io.specs.declared.fault.IoFault.TheVariants as fault
use Rattle.basic_io.specs.declared.fault.IntextFault.{IntextFault}
use Rattle.basic_io.specs.declared.fault.IntextFault.TheVariants.{NotRead}
use Rattle.basic_io.specs.Intext.{ReadsText, holds_characters}
use Rattle.basic_io.specs.Image.{IsImage, SameButBoth}
use Rattle.basic_io.specs.Input.{Answers, HeldInput, IsTarget, Performs, Reading, Told, WantsCharacter, WantsInText, input_state, reading}
use Rattle.basic_io.specs.Input.WantsInText.{for_next, for_later}
use Rattle.basic_io.proofs.InputLines.{told_as, told_then}

-- ---- frames

-- a frame that is among those that stay is there, and the same
pub frame_stays : (old new : List Frame) (n k : ℕ) → SameBut n old new → k ≢ n → k < length old → (k < length new) × (frame_at new k ≡ frame_at old k)
frame_stays old new n k same other made =
    let none : Frame = record { bytes = Rattle.std.proofs.Common.[]; constant = true } in
    let there : slice_get new k ≡ Some (get_or old k none) = same k other ∙ slice_get-get_or old k none made in
    (slice_get_within new k _ there, get_or_from_slice_get new k _ none there)

-- an image stays one where another frame changes
pub image_stays : (old new : List Frame) (n : ℕ) (image : TextVal) → IsImage old image → SameBut n old new → image.text_frame ≢ n → IsImage new image
image_stays old new n image h same other =
    let stays = frame_stays old new n image.text_frame same other h.made in
    record {
      made = stays.0;
      variable = ap (λ (f : Frame). f.constant) stays.1 ∙ h.variable;
      whole = ap (λ (f : Frame). length f.bytes) stays.1 ∙ h.whole;
      start = h.start;
      some = h.some;
      short = h.short;
      position = h.position;
      position_end = h.position_end;
    }

-- a target stays one where the image changes
pub target_stays : (old new : List Frame) (image now t : TextVal) → IsTarget old image t → KeepsTexts old new → SameBut image.text_frame old new → now ≡ at_position image now.pos → IsTarget new now t
target_stays old new image now t h keeps same moved =
    let lies = h.text.lies (omega (arith, h.text.starts, h.some)) in
    let stays = frame_stays old new image.text_frame t.text_frame same h.apart lies.made in
    record {
      text = keeps t h.text;
      some = h.some;
      variable = ap (λ (f : Frame). f.constant) stays.1 ∙ h.variable;
      apart = λ e. h.apart (e ∙ ap (λ (u : TextVal). u.text_frame) moved);
    }

-- and where a character is put into it
pub target_put : (old new : List Frame) (image t now : TextVal) (c : ℕ) → IsTarget old image t → new ≡ with_character old t c → now ≡ at_position t (t.pos + 1) → IsText new now → IsTarget new image now
target_put old new image t now c h wrote moved text =
    let lies = h.text.lies (omega (arith, h.text.starts, h.some)) in
    let none : Frame = record { bytes = Rattle.std.proofs.Common.[]; constant = true } in
    let here : frame_at (with_character old t c) t.text_frame ≡ _ = get_or-set_same old t.text_frame _ none lies.made in
    record {
      text = text;
      some = omega (arith, h.some, ap (λ (u : TextVal). u.length) moved);
      variable = ap (λ (u : TextVal). (frame_at new u.text_frame).constant) moved ∙ ap (λ (fs : List Frame). (frame_at fs t.text_frame).constant) wrote ∙ ap (λ (f : Frame). f.constant) here ∙ h.variable;
      apart = λ e. h.apart (sym (ap (λ (u : TextVal). u.text_frame) moved) ∙ e);
    }

-- a target that has room takes a character
target_takes : (old : List Frame) (image t : TextVal) → IsTarget old image t → t.pos ≤ t.length → putchar_refusal old t ≡ None
target_takes old image t h room =
    let within : ltb t.length t.pos ≡ false = grind (arith, nat_tests) in
    rw (within, h.variable) (by_length (ltb 0 t.length))
  where
    by_length : (b : Bool) → cond (b && false) (Some TextIsConstant) None ≡ None
    by_length true = refl
    by_length false = refl

abbrev ok_result : Result (Unit {0}) RunError
ok_result = Ok (tt {0})

not_both : (x : RunError) → ok_result ≡ Err x → ⊥
not_both x e = cc

pub not_put : (old new : List Frame) (image t now : TextVal) (c : ℕ) (e : RunError) → IsTarget old image t → t.pos ≤ t.length → putchar old t c ≡ outcome new now (Err e) → ⊥
not_put old new image t now c e h room step =
    let fine : putchar old t c ≡ done (with_character old t c) (at_position t (t.pos + 1)) (tt {0}) = ap (λ (r : Option RunError). unless r old t (done (with_character old t c) (at_position t (t.pos + 1)) (tt {0}))) (target_takes old image t h room) in
    not_both e (ap (λ (s : TextStep (Unit {0})). s.answer) (sym fine ∙ step))

-- ---- the input

-- reading n characters into t comes to this state, and goes on with m characters into u
pub record ReadsOn (n : ℕ) (t : TextVal) (s : InputState) (m : ℕ) (u : TextVal) (r : InputState) : Type 0 where
  pub answer : characters_read n t s ≡ characters_read m u r
  pub wants : (q : InputState) → WantsInText m u r q → WantsInText n t s q

pub reads_all : (n : ℕ) (t : TextVal) (s : InputState) → ReadsOn n t s n t s
reads_all n t s = record { answer = refl; wants = λ q w. w }

-- what follows the next character
read_step : (m : ℕ) (u : TextVal) (r q : InputState) (c : ℕ) → (inchar r).answer ≡ Ok c → (inchar r).after ≡ q → characters_read (suc m) u r ≡ characters_read m (at_position u (u.pos + 1)) (with_frames q (with_character q.frames u c))
read_step m u r q c a n =
    let next : InputState → ℕ → InputStep (Unit {0}) = λ p d. characters_read m (at_position u (u.pos + 1)) (with_frames p (with_character p.frames u d)) in
    ap (λ (x : Result ℕ RunError). go_on (inchar r).after x next) a ∙ ap (λ (p : InputState). next p c) n

as_answers : (step : InputStep ℕ) (q : InputState) (c : ℕ) → step.answer ≡ Ok c → step.after ≡ q → step ≡ answers q c
as_answers step q c a n = λ k. record { after = n k; answer = a k }

pub reads_next : (n : ℕ) (t : TextVal) (s : InputState) (k m : ℕ) (u : TextVal) (r q : InputState) (c : ℕ) → k ≡ suc m → ReadsOn n t s k u r → (inchar r).answer ≡ Ok c → (inchar r).after ≡ q
    → ReadsOn n t s m (at_position u (u.pos + 1)) (with_frames q (with_character q.frames u c))
reads_next n t s k m u r q c is so a after = at (subst (λ (j : ℕ). ReadsOn n t s j u r) is so)
  where
    at : ReadsOn n t s (suc m) u r → ReadsOn n t s m (at_position u (u.pos + 1)) (with_frames q (with_character q.frames u c))
    at on = record {
      answer = on.answer ∙ read_step m u r q c a after;
      wants = λ p w. on.wants p (for_later (as_answers (inchar r) q c a after) w);
    }

-- no character could be had
pub reads_stop : (n : ℕ) (t : TextVal) (s : InputState) (k m : ℕ) (u : TextVal) (r q : InputState) (x : IoFault) → k ≡ suc m → ReadsOn n t s k u r → Answers (inchar r) (WantsCharacter r) (Err x) q → Answers (characters_read n t s) (WantsInText n t s) (Err x) q
reads_stop n t s k m u r q x is so d = at x (subst (λ (j : ℕ). ReadsOn n t s j u r) is so) d
  where
    next : InputState → ℕ → InputStep (Unit {0})
    next p c = characters_read m (at_position u (u.pos + 1)) (with_frames p (with_character p.frames u c))

    at : (x : IoFault) → ReadsOn n t s (suc m) u r → Answers (inchar r) (WantsCharacter r) (Err x) q → Answers (characters_read n t s) (WantsInText n t s) (Err x) q
    at (fault.Run e) on d =
        let all = on.answer ∙ ap (λ (y : Result ℕ RunError). go_on (inchar r).after y next) d.0 in
        (ap (λ (step : InputStep (Unit {0})). step.answer) all, ap (λ (step : InputStep (Unit {0})). step.after) all ∙ d.1)
    at fault.InputFault on d = on.wants q (for_next d)
    at fault.WriteFault on d = d

-- Of the bytes that are told, or of some, the first leads to the second.
abbrev pub Led : ℕ → TextVal → ℕ → TextVal → Reading → Reading → Type 0
Led n t m u old now = Told old.source now.source (λ before after. ReadsOn n t (input_state old.frames old.input before) m u (input_state now.frames now.input after))

pub led_on : (n : ℕ) (t : TextVal) (k m : ℕ) (u now : TextVal) (old mid : Reading) (frames : List Frame) (i : HeldInput) (source : Option (List ℕ)) (new : List Frame) (c : ℕ) → k ≡ suc m
    → Led n t k u old mid → Performs inchar WantsCharacter mid (reading frames i source) (Ok c) → new ≡ with_character frames u c → now ≡ at_position u (u.pos + 1) → Led n t m now old (reading new i source)
led_on n t k m u now old mid frames i source new c is led did wrote moved =
    told_then old.source mid.source source led did
    (λ x y z l d.
    let q = input_state frames i z in
    let on = reads_next n t (input_state old.frames old.input x) k m u (input_state mid.frames mid.input y) q c is l d.0 d.1 in
    let at : ReadsOn n t (input_state old.frames old.input x) m now (with_frames q (with_character q.frames u c)) = subst (λ (w : TextVal). ReadsOn n t (input_state old.frames old.input x) m w (with_frames q (with_character q.frames u c))) (sym moved) on in
    subst (λ (fs : List Frame). ReadsOn n t (input_state old.frames old.input x) m now (input_state fs i z)) (sym wrote) at)

pub led_to_stop : (n : ℕ) (t : TextVal) (k m : ℕ) (u : TextVal) (old mid new : Reading) (x : IoFault) → k ≡ suc m → Led n t k u old mid → Performs inchar WantsCharacter mid new (Err x) → Performs (characters_read n t) (WantsInText n t) old new (Err x)
led_to_stop n t k m u old mid new x is led did =
    told_then old.source mid.source new.source led did
    (λ a b c l d. reads_stop n t (input_state old.frames old.input a) k m u (input_state mid.frames mid.input b) (input_state new.frames new.input c) x is l d)

pub led_to_all : (n : ℕ) (t : TextVal) (k : ℕ) (u : TextVal) (old new : Reading) → k ≡ 0 → Led n t k u old new → Performs (characters_read n t) (WantsInText n t) old new (Ok tt)
led_to_all n t k u old new none led =
    told_as old.source new.source led
    (λ a b l.
    let r = input_state new.frames new.input b in
    let all : characters_read n t (input_state old.frames old.input a) ≡ answers r tt = l.answer ∙ ap (λ (j : ℕ). characters_read j u r) none in
    (ap (λ (step : InputStep (Unit {0})). step.answer) all, ap (λ (step : InputStep (Unit {0})). step.after) all))

-- ---- `intext`

-- the text that was made, and the frames in which its characters are read
pub record Begins (n : ℤ) (room : ℕ) (old new : List Frame) (t : TextVal) : Type 0 where
  pub count : ℕ
  pub is : n ≡ pos count
  pub text : t ≡ new_text old count
  pub frames : new ≡ with_new old (replicate count 32)
  pub fits : text_words count ≤ room

abbrev made_text : TextVal → Result TextVal RunError
made_text t = Ok t

not_made : (t : TextVal) (x : RunError) → Err x ≡ made_text t → ⊥
not_made t x e = cc

same_text_made : (t u : TextVal) → made_text t ≡ made_text u → t ≡ u
same_text_made t u e = cc

text_begins : (n : ℤ) (room : ℕ) (old new : List Frame) (t : TextVal) → Makes (blanks old n) room old new (Ok t) → Begins n room old new t
text_begins (pos m) room old new t made =
    let size : length (replicate m 32) ≡ m = length-replicate m 32 in
    record {
      count = m;
      is = refl;
      text = sym (same_text_made _ _ made.1) ∙ ap (new_text old) size;
      frames = made.2;
      fits = subst (λ (k : ℕ). text_words k ≤ room) size made.0;
    }
text_begins (negsuc m) room old new t made = absurd (not_made t _ made.1)

-- a new text that is not empty is as long as it was asked for
new_length : (old : List Frame) (m : ℕ) (t : TextVal) → t ≡ new_text old m → (t.length ≡ 0 → ⊥) → t.length ≡ m
new_length old m t is some = at (m == 0) refl
  where
    at : (b : Bool) → (m == 0) ≡ b → t.length ≡ m
    at true e = absurd (some (ap (λ (u : TextVal). u.length) is ∙ ap (λ (b : Bool). (cond b notext (record { text_frame = length old; start = 1; length = m; pos = 1 })).length) e))
    at false e = ap (λ (u : TextVal). u.length) is ∙ ap (λ (b : Bool). (cond b notext (record { text_frame = length old; start = 1; length = m; pos = 1 })).length) e

-- and lies in a new frame
in_new_frame : (old : List Frame) (m : ℕ) (t : TextVal) → t ≡ new_text old m → (t.length ≡ 0 → ⊥) → t.text_frame ≡ length old
in_new_frame old m t is some = at (m == 0) refl
  where
    at : (b : Bool) → (m == 0) ≡ b → t.text_frame ≡ length old
    at true e = absurd (some (ap (λ (u : TextVal). u.length) is ∙ ap (λ (b : Bool). (cond b notext (record { text_frame = length old; start = 1; length = m; pos = 1 })).length) e))
    at false e = ap (λ (u : TextVal). u.text_frame) is ∙ ap (λ (b : Bool). (cond b notext (record { text_frame = length old; start = 1; length = m; pos = 1 })).text_frame) e

abbrev pub as_text : TextVal → Result (Unit {0}) IoFault → Result TextVal IntextFault
as_text t (Ok d) = Ok t
as_text t (Err x) = Err (NotRead x)

from_characters : (m room : ℕ) (s q : InputState) (r : Result (Unit {0}) IoFault) → text_words m ≤ room
    → Answers (characters_read m (new_text s.frames m) (with_frames s (with_new s.frames (replicate m 32)))) (WantsInText m (new_text s.frames m) (with_frames s (with_new s.frames (replicate m 32)))) r q
    → ReadsText (pos m) room s (as_text (new_text s.frames m) r) q
from_characters m room s q (Ok d0) fits d =
    let t : TextVal = new_text s.frames m in
    let first : InputStep (Unit {0}) = characters_read m t (with_frames s (with_new s.frames (replicate m 32))) in
    let next : InputState → Unit {0} → InputStep TextVal = λ p u. answers p t in
    let all = ap (λ (x : Result (Unit {0}) RunError). go_on first.after x next) d.0 in
    (fits, ap (λ (step : InputStep TextVal). step.answer) all, ap (λ (step : InputStep TextVal). step.after) all ∙ d.1)
from_characters m room s q (Err (fault.Run e)) fits d =
    let t : TextVal = new_text s.frames m in
    let first : InputStep (Unit {0}) = characters_read m t (with_frames s (with_new s.frames (replicate m 32))) in
    let next : InputState → Unit {0} → InputStep TextVal = λ p u. answers p t in
    let all = ap (λ (x : Result (Unit {0}) RunError). go_on first.after x next) d.0 in
    (fits, ap (λ (step : InputStep TextVal). step.answer) all, ap (λ (step : InputStep TextVal). step.after) all ∙ d.1)
from_characters m room s q (Err fault.InputFault) fits d = (fits, d)
from_characters m room s q (Err fault.WriteFault) fits d = d

pub text_outcome : (n z : ℤ) (room : ℕ) (old new : List Frame) (i : HeldInput) (source : Option (List ℕ)) (t : TextVal) (after : Reading) (r : Result (Unit {0}) IoFault) → z ≡ n → Makes (blanks old z) room old new (Ok t) → (t.length ≡ 0 → ⊥)
    → Performs (characters_read t.length t) (WantsInText t.length t) (reading new i source) after r → Told source after.source (λ b a. ReadsText n room (input_state old i b) (as_text t r) (input_state after.frames after.input a))
text_outcome n z room old new i source t after r same made some did =
    let b = text_begins n room old new t (subst (λ (k : ℤ). Makes (blanks old k) room old new (Ok t)) same made) in
    let m : ℕ = b.count in
    told_as source after.source did (λ x y d.
    let s : InputState = input_state old i x in
    let q : InputState = input_state after.frames after.input y in
    let P : ℕ → TextVal → List Frame → Type 0 = λ k u fs. Answers (characters_read k u (with_frames s fs)) (WantsInText k u (with_frames s fs)) r q in
    let at_count : P m t new = subst (λ (k : ℕ). P k t new) (new_length old m t b.text some) d in
    let at_text : P m (new_text old m) new = subst (λ (u : TextVal). P m u new) b.text at_count in
    let at_frames : P m (new_text old m) (with_new old (replicate m 32)) = subst (P m (new_text old m)) b.frames at_text in
    let done = from_characters m room s q r b.fits at_frames in
    subst (λ (z : ℤ). ReadsText z room s (as_text t r) q) (sym b.is) (subst (λ (u : TextVal). ReadsText (pos m) room s (as_text u r) q) (sym b.text) done))

-- what is held is enough for the text that was made
pub held_for_text : (n z : ℤ) (room : ℕ) (old new : List Frame) (t : TextVal) (i : HeldInput) → z ≡ n → Makes (blanks old z) room old new (Ok t) → (t.length ≡ 0 → ⊥) → holds_characters (count_from n) i ≡ true → holds_characters t.length i ≡ true
held_for_text n z room old new t i same made some enough =
    let b = text_begins n room old new t (subst (λ (k : ℤ). Makes (blanks old k) room old new (Ok t)) same made) in
    let count : holds_characters b.count i ≡ true = ap (λ (k : ℤ). holds_characters (count_from k) i) (sym b.is) ∙ enough in
    ap (λ (k : ℕ). holds_characters k i) (new_length old b.count t b.text some) ∙ count

-- no frame but the new one and that of the image has changed
pub others_stay : (n z : ℤ) (room : ℕ) (old mid new : List Frame) (image t : TextVal) → z ≡ n → Makes (blanks old z) room old mid (Ok t) → (t.length ≡ 0 → ⊥)
    → SameBut (length old) old mid → SameButBoth t.text_frame image.text_frame mid new → SameButBoth (length old) image.text_frame old new
others_stay n z room old mid new image t same made some first then k fresh other =
    let b = text_begins n room old mid t (subst (λ (j : ℤ). Makes (blanks old j) room old mid (Ok t)) same made) in
    then k (λ e. fresh (e ∙ in_new_frame old b.count t b.text some)) other ∙ first k fresh

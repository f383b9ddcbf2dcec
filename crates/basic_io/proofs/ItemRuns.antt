-- What `lastitem` answers, from what its loop has done.
use Rattle.std.proofs.Common.{◌≡◌, ℕ, suc, ◌+◌, ◌<◌, ◌≤◌, Bool, true, false, ◌||◌, List, [], length, Option, Result, Ok, Err, refl, sym, ap, ◌∙◌, subst, arith}
use Rattle.std.proofs.lemmas.Bool.Decides.{nat_tests}
use Rattle.sim_base.specs.declared.run_error.RunError.{RunError}
use Rattle.sim_values.specs.Texts.{Frame, at_position}
use Rattle.sim_values.specs.Images.{InputState, InputStep, answers, behind_separators, inimage, is_used_up, lastitem, next_item, refuses}
use Rattle.sim_values.specs.declared.value.TextVal.{TextVal}
use Rattle.basic_io.specs.declared.fault.IoFault.{IoFault}
use Rattle.basic_io.specs.declared.fault.IoFault.TheVariants as fault
use Rattle.basic_io.specs.Input.{Answers, DoneWithin, HeldInput, HoldsItem, Performs, Reading, Told, WantsImage, WantsItem, as_answer, held_after, holds_line, input_state, needs_no_byte, reading}
use Rattle.basic_io.specs.Input.HoldsItem.{at_end, at_item, at_refusal, over_line}
use Rattle.std.proofs.lemmas.Bool.{false≢true}
use Rattle.basic_io.specs.Input.WantsItem.{at_once, behind}
use Rattle.basic_io.proofs.InputLines.{told_as, told_then}
use Rattle.basic_io.proofs.ItemTurns.{image_falls, item_at_end, item_step, next_item_steady, rank-le}

-- `lastitem` comes to this state, and goes on from there
pub record Leads (s r : InputState) : Type 0 where
  pub answer : lastitem s ≡ lastitem r
  pub wants : (q : InputState) → WantsItem r q → WantsItem s q

-- `lastitem` at what its tests say and what `inimage` answers
last_step : (s : InputState) (used : Bool) (answer : Result (Unit {0}) RunError) → s.endfile ≡ false → is_used_up (behind_separators s).image ≡ used → (inimage (behind_separators s)).answer ≡ answer → lastitem s ≡ item_step false used answer s (next_item (length s.left + 1))
last_step s used answer e u a =
    let n : length s.left + 2 ≡ suc (length s.left + 1) = omega arith in
    ap (λ (k : ℕ). next_item k s) n
    ∙ ap (λ (b : Bool). item_step b (is_used_up (behind_separators s).image) (inimage (behind_separators s)).answer s (next_item (length s.left + 1))) e
    ∙ ap (λ (b : Bool). item_step false b (inimage (behind_separators s)).answer s (next_item (length s.left + 1))) u
    ∙ ap (λ (x : Result (Unit {0}) RunError). item_step false used x s (next_item (length s.left + 1))) a

last_refused : (s : InputState) (x : RunError) → s.endfile ≡ false → is_used_up (behind_separators s).image ≡ true → (inimage (behind_separators s)).answer ≡ Err x → lastitem s ≡ refuses (inimage (behind_separators s)).after x
last_refused s x e u a = last_step s true (Err x) e u a

last_goes_on : (s : InputState) → s.endfile ≡ false → is_used_up (behind_separators s).image ≡ true → (inimage (behind_separators s)).answer ≡ Ok tt → lastitem s ≡ lastitem (inimage (behind_separators s)).after
last_goes_on s e u a =
    let r = behind_separators s in
    let f = image_falls r a in
    let enough = rank-le r in
    let left = rank-le (inimage r).after in
    last_step s true (Ok tt) e u a ∙ next_item_steady (length s.left + 1) (length (inimage r).after.left + 2) (inimage r).after (omega arith) (omega arith)

-- Of states that are told, the first leads to the second.
abbrev pub Led : Reading → Reading → Type 0
Led old now = Told old.source now.source (λ before after. Leads (input_state old.frames old.input before) (input_state now.frames now.input after))

-- the input with its image moved behind the blanks and tabs
abbrev pub skipped : List Frame → HeldInput → HeldInput
skipped frames i = record { image = (behind_separators (input_state frames i [])).image; endfile = i.endfile; held = i.held }

pub as_skipped : (frames : List Frame) (i now : HeldInput) → now.image ≡ (skipped frames i).image → now.endfile ≡ i.endfile → now.held ≡ i.held → now ≡ skipped frames i
as_skipped frames i now image endfile held = λ k. record { image = image k; endfile = endfile k; held = held k }

-- behind the blanks and tabs the image is used up
used_up : (frames : List Frame) (i now : HeldInput) (y : List ℕ) → now ≡ skipped frames i → now.image.length < now.image.pos → is_used_up (behind_separators (input_state frames i y)).image ≡ true
used_up frames i now y is beyond =
    let past : is_used_up now.image ≡ true = grind (arith, nat_tests) in
    ap (λ (j : HeldInput). is_used_up j.image) (sym is) ∙ past

-- What is held is enough, and the image is used up: so the next line is held, and behind it what is held is enough.
pub line_is_held : (frames : List Frame) (i now : HeldInput) → HoldsItem frames i → i.endfile ≡ false → now ≡ skipped frames i → now.image.length < now.image.pos → needs_no_byte now ≡ true
line_is_held frames i now holds e is beyond =
    ap (λ (j : HeldInput). needs_no_byte j) is ∙ ap (λ (b : Bool). b || holds_line i.held) e ∙ held holds
  where
    held : HoldsItem frames i → holds_line i.held ≡ true
    held (at_end end) = absurd (false≢true (sym e ∙ end))
    held (at_item more) = absurd (false≢true (sym more ∙ used_up frames i now [] is beyond))
    held (at_refusal line refusal) = line
    held (over_line line rest) = line

pub holds_next : (frames new : List Frame) (i now next : HeldInput) → HoldsItem frames i → i.endfile ≡ false → now ≡ skipped frames i → now.image.length < now.image.pos → DoneWithin inimage frames now new next (Ok tt) → HoldsItem new next
holds_next frames new i now next holds e is beyond done = behind holds
  where
    r : InputState
    r = behind_separators (input_state frames i [])

    same : inimage (input_state frames now []) ≡ inimage r
    same = ap (λ (j : HeldInput). inimage (input_state frames j [])) is

    kept : held_after now (inimage (input_state frames now [])).after ≡ held_after i (inimage r).after
    kept = ap (λ (step : InputStep (Unit {0})). held_after now step.after) same ∙ ap (λ (j : HeldInput). held_after j (inimage r).after) is

    done_result : Result (Unit {0}) IoFault
    done_result = Ok tt

    not_both : (x : RunError) → done_result ≡ Err (fault.Run x) → ⊥
    not_both x e = cc

    behind : HoldsItem frames i → HoldsItem new next
    behind (at_end end) = absurd (false≢true (sym e ∙ end))
    behind (at_item more) = absurd (false≢true (sym more ∙ used_up frames i now [] is beyond))
    behind (at_refusal {e = x} line refusal) =
        absurd (not_both x (done.0 ∙ ap (λ (step : InputStep (Unit {0})). as_answer step.answer) same ∙ ap as_answer refusal))
    behind (over_line line rest) =
        let frames_are : new ≡ (inimage r).after.frames = done.1 ∙ ap (λ (step : InputStep (Unit {0})). step.after.frames) same in
        subst (λ (n : List Frame). HoldsItem n next) (sym frames_are) (subst (HoldsItem (inimage r).after.frames) (sym (done.2 ∙ kept)) rest)

-- moved twice, an image is moved to the last position
pub moved_again : (a b c : TextVal) (p : ℕ) → b ≡ at_position a p → c ≡ at_position b c.pos → c ≡ at_position a c.pos
moved_again a b c p first then = then ∙ ap (λ (t : TextVal). at_position t c.pos) first

as_answers : (step : InputStep (Unit {0})) (q : InputState) → step.answer ≡ Ok tt → step.after ≡ q → step ≡ answers q tt
as_answers step q a n = λ k. record { after = n k; answer = a k }

-- one turn of the loop, on to the next image
pub led_to_next : (old after : Reading) (frames : List Frame) (i now : HeldInput) (source : Option (List ℕ)) → Led old (reading frames i source) → i.endfile ≡ false → now ≡ skipped frames i → now.image.length < now.image.pos → Performs inimage WantsImage (reading frames now source) after (Ok tt) → Led old after
led_to_next old after frames i now source led e is beyond done =
    told_then old.source source after.source led done
    (λ x y z l d.
    let r = input_state frames i y in
    let at : input_state frames now y ≡ behind_separators r = ap (λ (j : HeldInput). input_state frames j y) is in
    let u = used_up frames i now y is beyond in
    let a : (inimage (behind_separators r)).answer ≡ Ok tt = ap (λ (q : InputState). (inimage q).answer) (sym at) ∙ d.0 in
    let n : (inimage (behind_separators r)).after ≡ input_state after.frames after.input z = ap (λ (q : InputState). (inimage q).after) (sym at) ∙ d.1 in
    record {
      answer = l.answer ∙ last_goes_on r e u a ∙ ap lastitem n;
      wants = λ q w. l.wants q (behind e u (as_answers _ _ a n) w);
    })

-- no image could be had
stopped : (s r q : InputState) (x : IoFault) → Leads s r → r.endfile ≡ false → is_used_up (behind_separators r).image ≡ true → Answers (inimage (behind_separators r)) (WantsImage (behind_separators r)) (Err x) q → Answers (lastitem s) (WantsItem s) (Err x) q
stopped s r q (fault.Run x) l e u d =
    let all = l.answer ∙ last_refused r x e u d.0 in
    (ap (λ (step : InputStep Bool). step.answer) all, ap (λ (step : InputStep Bool). step.after) all ∙ d.1)
stopped s r q fault.InputFault l e u d = subst (WantsItem s) d.1 (l.wants (behind_separators r) (at_once e u))
stopped s r q fault.WriteFault l e u d = d

pub led_to_error : (old after : Reading) (frames : List Frame) (i now : HeldInput) (source : Option (List ℕ)) (x : IoFault) → Led old (reading frames i source) → i.endfile ≡ false → now ≡ skipped frames i → now.image.length < now.image.pos → Performs inimage WantsImage (reading frames now source) after (Err x) → Performs lastitem WantsItem old after (Err x)
led_to_error old after frames i now source x led e is beyond done =
    told_then old.source source after.source led done
    (λ a b c l d.
    let r = input_state frames i b in
    let q = input_state after.frames after.input c in
    let at : input_state frames now b ≡ behind_separators r = ap (λ (j : HeldInput). input_state frames j b) is in
    stopped (input_state old.frames old.input a) r q x l e (used_up frames i now b is beyond) (subst (λ (m : InputState). Answers (inimage m) (WantsImage m) (Err x) q) at d))

-- an item was found
pub led_to_item : (old : Reading) (frames : List Frame) (i now : HeldInput) (source : Option (List ℕ)) → Led old (reading frames i source) → i.endfile ≡ false → now ≡ skipped frames i → now.image.pos ≤ now.image.length → Performs lastitem WantsItem old (reading frames now source) (Ok false)
led_to_item old frames i now source led e is within =
    told_as old.source source led
    (λ x y l.
    let r = input_state frames i y in
    let at : input_state frames now y ≡ behind_separators r = ap (λ (j : HeldInput). input_state frames j y) is in
    let here : is_used_up now.image ≡ false = grind (arith, nat_tests) in
    let u : is_used_up (behind_separators r).image ≡ false = ap (λ (j : HeldInput). is_used_up j.image) (sym is) ∙ here in
    let all : lastitem (input_state old.frames old.input x) ≡ answers (behind_separators r) false = l.answer ∙ last_step r false _ e u refl in
    (ap (λ (step : InputStep Bool). step.answer) all, ap (λ (step : InputStep Bool). step.after) all ∙ sym at))

-- the end was met
pub led_to_end : (old : Reading) (frames : List Frame) (i : HeldInput) (source : Option (List ℕ)) → Led old (reading frames i source) → i.endfile ≡ true → Performs lastitem WantsItem old (reading frames i source) (Ok true)
led_to_end old frames i source led e =
    told_as old.source source led
    (λ x y l.
    let r = input_state frames i y in
    let all : lastitem (input_state old.frames old.input x) ≡ answers r true = l.answer ∙ item_at_end (length r.left + 2) r e in
    (ap (λ (step : InputStep Bool). step.answer) all, ap (λ (step : InputStep Bool). step.after) all))

-- Characters that are read from what is held.
use Rattle.std.proofs.Common.{◌≡◌, ℕ, suc, ◌+◌, Bool, true, false, cond, eqb, ltb, ◌&&◌, List, [], length, Result, Ok, Err, refl, sym, ap, ◌∙◌, subst}
use Rattle.std.specs.List.{before_first}
use Rattle.sim_base.specs.declared.run_error.RunError.{RunError}
use Rattle.sim_values.specs.Texts.{Frame, next_character}
use Rattle.sim_values.specs.Images.{InputState, InputStep, answers, go_on, inchar, inimage_if_used_up, is_line_feed, is_used_up, refuses, with_position}
use Rattle.basic_io.specs.declared.fault.IoFault.{IoFault}
use Rattle.basic_io.specs.declared.fault.IoFault.TheVariants as fault
use Rattle.basic_io.specs.Input.{DoneWithin, HeldInput, as_answer, behind_character, held_after, holds_character, input_state, left_of}
use Rattle.basic_io.specs.Intext.{holds_characters}
use Rattle.basic_io.proofs.ItemTurns.{line_step}

-- what a step does where what is held is enough
abbrev Does : {A : Type 0} → HeldInput → InputStep A → List Frame → HeldInput → Result A IoFault → Type 0
Does i step new next result = (result ≡ as_answer step.answer) × (new ≡ step.after.frames) × (next ≡ held_after i step.after)

-- ---- a character that is refused

abbrev then_character : InputState → Unit {0} → InputStep ℕ
then_character r d = answers (with_position r (r.image.pos + 1)) (next_character r.frames r.image)

pub done_refused : (frames new : List Frame) (i r : HeldInput) (e : IoFault) → DoneWithin inimage_if_used_up frames i new r (Err e) → DoneWithin inchar frames i new r (Err e)
done_refused frames new i r e did = at first.answer refl did.0
  where
    s : InputState
    s = input_state frames i []

    first : InputStep (Unit {0})
    first = inimage_if_used_up s

    refusal : Result (Unit {0}) IoFault
    refusal = Err e

    done_result : Result (Unit {0}) IoFault
    done_result = Ok tt

    not_both : refusal ≡ done_result → ⊥
    not_both same = cc

    same_fault : (x : RunError) → refusal ≡ Err (fault.Run x) → e ≡ fault.Run x
    same_fault x same = cc

    at : (a : Result (Unit {0}) RunError) → first.answer ≡ a → refusal ≡ as_answer a → DoneWithin inchar frames i new r (Err e)
    at (Ok d) is same = absurd (not_both same)
    at (Err x) is same =
        let all : inchar s ≡ refuses first.after x = ap (λ (a : Result (Unit {0}) RunError). go_on first.after a then_character) is in
        subst (λ (step : InputStep ℕ). Does i step new r (Err e)) (sym all) (ap (λ (f : IoFault). Err f) (same_fault x same), did.1, did.2)

-- ---- one character after another

-- `inchar`, at what its tests say
abbrev character_step : (used ended none long : Bool) → InputState → InputStep ℕ
character_step used ended none long s =
    let first : InputStep (Unit {0}) = cond used (line_step ended none long s) (answers s tt) in
    go_on first.after first.answer then_character

-- what it leaves of the input does not hang on the texts
steps_alike : (used ended none long : Bool) (frames : List Frame) (i : HeldInput) → held_after i (character_step used ended none long (input_state frames i [])).after ≡ held_after i (character_step used ended none long (input_state [] i [])).after
steps_alike false ended none long frames i = refl
steps_alike true true none long frames i = refl
steps_alike true false true long frames i = refl
steps_alike true false false true frames i = refl
steps_alike true false false false frames i = refl

behind_alike : (frames : List Frame) (i : HeldInput) → held_after i (inchar (input_state frames i [])).after ≡ behind_character i
behind_alike frames i =
    steps_alike (is_used_up i.image) i.endfile (eqb (length (left_of i.held [])) 0) (ltb i.image.length (length (before_first is_line_feed (left_of i.held [])))) frames i

both : (a b : Bool) → (a && b) ≡ true → (a ≡ true) × (b ≡ true)
both true b e = (refl, e)
both false b e = cc

pub held_first : (n m : ℕ) (i : HeldInput) → n ≡ suc m → holds_characters n i ≡ true → (holds_character i ≡ true) × (holds_characters m (behind_character i) ≡ true)
held_first n m i is enough = both _ _ (sym (ap (λ (k : ℕ). holds_characters k i) is) ∙ enough)

pub held_on : (frames new : List Frame) (i next : HeldInput) (result : Result ℕ IoFault) (n m : ℕ) → n ≡ suc m → holds_characters n i ≡ true → (holds_character i ≡ true → DoneWithin inchar frames i new next result) → holds_characters m next ≡ true
held_on frames new i next result n m is enough does =
    let first = held_first n m i is enough in
    ap (holds_characters m) ((does first.0).2 ∙ behind_alike frames i) ∙ first.1

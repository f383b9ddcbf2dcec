-- Names that take nothing of the input leave its source as it is.
use Rattle.std.proofs.Common.{◌≡◌, ℕ, zero, suc, ◌+◌, ◌-◌, ◌≤◌, true, false, ◌&&◌, List, [], ◌∷◌, Result, Ok, Err, Some, None, sym, subst, refl, ap, ◌∙◌, arith}
use Rattle.std.specs.Prelude.{ℤ, pos, negsuc, Option, nat_lt, if◌then◌else◌}
use Rattle.sim_base.specs.declared.limits.Limits.{Limits}
use Rattle.sim_base.specs.declared.run_error.RunError.{RunError}
use Rattle.sim_values.specs.declared.standard.Standard.{Standard}
use Rattle.sim_values.specs.declared.standard.Standard.TheVariants as name
use Rattle.sim_values.specs.declared.value.TextVal.{TextVal}
use Rattle.sim_values.specs.Images.{InputState, InputStep, behind_separators, inchar, inimage, inint, intext, is_used_up, lastitem}
use Rattle.sim_values.specs.Plain.{Plain, Character, Integer, Text, Truth}
use Rattle.sim_values.specs.Standard.{standard_effect}
use Rattle.sim_values.specs.Store.{Effect, input_of, reads, unvalued, valued, with_input}
use Rattle.sim_values.specs.Texts.{Frame}
use Rattle.sim_values.specs.Words.{count_from, is_exhausted, text_words}
use Rattle.text_objects.specs.declared.fault.TextFault.{TextFault}
use Rattle.basic_io.specs.declared.fault.IntextFault.{IntextFault}
use Rattle.basic_io.specs.declared.fault.IntextFault.TheVariants as making
use Rattle.basic_io.specs.declared.fault.IoFault.TheVariants as fault
use Rattle.sim_code.specs.Outcome.{Run, RunFault, StorageExhausted, World}
use Rattle.sim_code.specs.Events.{computing, having, stopping, taking}
use Rattle.sim_code.specs.Machine.{Machine, Value}
use Rattle.sim_code.specs.Rows.{with_value}
use Rattle.basic_io.specs.Input.{HeldInput, HoldsItem, Told, behind_character, holds_character, input_state}
use Rattle.basic_io.specs.Input.HoldsItem.{at_item}
use Rattle.basic_io.specs.Intext.{ReadsText, holds_characters}
use Rattle.frame_arena.specs.declared.slot.Slot.{Slot}
use Rattle.frame_arena.specs.Stacks.{values_of}
use Rattle.standard_calls.specs.declared.calls.OfNothing.{OfNothing}
use Rattle.standard_calls.specs.declared.calls.OfNothing.TheVariants as nothing
use Rattle.standard_calls.specs.declared.calls.OfInteger.{OfInteger}
use Rattle.standard_calls.specs.declared.calls.Call.{Call}
use Rattle.standard_calls.specs.Calls.{ReadAs, begins, going_on, integer_name, name_of, nothing_name, operands}
use Rattle.standard_calls.specs.Performed.{Agrees, Parts, held, parts}
use Rattle.standard_calls.specs.Taking.{CallTakes, GivesNothingBack, HasAll, RowTakes}
use Rattle.standard_calls.specs.Unread.{Unread}
use Rattle.standard_calls.proofs.Effects.{does_inchar, does_inimage, does_inint, does_intext, does_lastitem}
use Rattle.standard_calls.proofs.InputSteps.{told_from}
use Rattle.standard_calls.proofs.TakesNone.{AreIn, TakesNone, inchar_takes, inimage_takes, inint_takes, lastitem_takes, text_takes}

lt_not : (a b : ℕ) → b ≤ a → nat_lt a b ≡ false
lt_not a b h = grind (arith, h)

-- a run that goes on with words
taken : (l : Limits) (line wanted : ℕ) (o : World) (go : World → Run Machine) → is_exhausted l.storage o.words wanted ≡ false → taking l line wanted o go ≡ go (record o { words = o.words + wanted })
unfolding taking
taken l line wanted o go e = ap (λ b. if b then stopping (StorageExhausted line o.words wanted) o else go (record o { words = o.words + wanted })) e

module _ (l : Limits) (line : ℕ) (o : World) (go : World → Option TextVal → List Value → Run Machine) (rest : List Value) (back : GivesNothingBack go) where
  -- a call on the input whose row takes nothing takes nothing
  module _ {A : Type 0} (show : Result A RunError → Result (Option Plain) RunError) (given : (a : A) → (v : Option Plain) × (show (Ok a) ≡ Ok v)) (error : (e : RunError) → show (Err e) ≡ Err e) (wanted : ℕ) (fits : is_exhausted l.storage o.words wanted ≡ false) where
    abbrev effect : InputStep A → Effect
    effect step = record (reads show step o.store) { wanted = wanted }

    abbrev left : InputStep A → World
    left step = record o { words = o.words + wanted; store = with_input o.store step.after }

    answered : (step : InputStep A) (answer : Result A RunError) → step.answer ≡ answer → HasAll o.store.left (computing line (show answer) (left step) (λ value. go (left step) None (with_value value rest))) → TakesNone (input_of o.store) step
    unfolding computing stopping
    answered step (Ok a) is h =
        let v = given a in
        let all : HasAll o.store.left (go (left step) None (with_value v.0 rest)) = subst (λ r. HasAll {S = Machine} o.store.left (computing line r (left step) (λ value. go (left step) None (with_value value rest)))) v.1 h in
        let there = back (left step) (with_value v.0 rest) o.store.left all in
        record { left = there.0; endfile = there.1; short = λ e. cc (is, e) }
    answered step (Err e) is h =
        let all : HasAll {S = Machine} o.store.left (stopping (RunFault e line) (left step)) = subst (λ r. HasAll {S = Machine} o.store.left (computing line r (left step) (λ value. go (left step) None (with_value value rest)))) (error e) h in
        record { left = all.0; endfile = all.1; short = λ x. all.2 line (ap (λ f. RunFault f line) (same_error (sym is ∙ x))) }
      where
        same_error : {e f : RunError} → ◌≡◌ {A = Result A RunError} (Err e) (Err f) → e ≡ f
        same_error h = cc h

    pub row_takes : (step : InputStep A) → HasAll o.store.left (going_on l line o go rest (effect step)) → TakesNone (input_of o.store) step
    row_takes step h =
        answered step step.answer refl (subst (λ r. HasAll {S = Machine} o.store.left r) (taken l line wanted o (λ p. computing line (show step.answer) (record p { store = with_input o.store step.after }) (λ value. go (record p { store = with_input o.store step.after }) None (with_value value rest))) fits) h)

  pub having_some : (effect : Option Effect) (x : Effect) → effect ≡ Some x → HasAll o.store.left (having effect o (going_on l line o go rest)) → HasAll o.store.left (going_on l line o go rest x)
  unfolding having
  having_some effect x e h = subst (λ y. HasAll {S = Machine} o.store.left (having y o (going_on l line o go rest))) e h

  module _ (budget : ℕ) (p : Parts) (limit : l.storage ≡ budget) (a : Agrees l o p) where
    within : is_exhausted l.storage o.words 0 ≡ false
    within = lt_not l.storage (o.words + 0) (omega (arith, a.words, a.budget))

    unvalued_given : (x : Unit {0}) → (v : Option Plain) × (unvalued (Ok x) ≡ Ok v)
    unvalued_given x = (None, refl)

    pub inimage_row : HasAll o.store.left (having (standard_effect name.Inimage [] o.store) o (going_on l line o go rest)) → ⊥
    inimage_row h = inimage_takes (input_of o.store) (row_takes unvalued unvalued_given (λ e. refl) 0 within (inimage (input_of o.store)) (having_some _ _ (does_inimage o.store) h))

    pub inchar_row : HasAll o.store.left (having (standard_effect name.Inchar [] o.store) o (going_on l line o go rest)) → holds_character p.input ≡ true
    inchar_row h =
        let unused : is_used_up p.input.image ≡ false = sym (ap is_used_up a.sysin) ∙ inchar_takes (input_of o.store) (row_takes (valued Character) (λ c. (Some (Character c), refl)) (λ e. refl) 0 within (inchar (input_of o.store)) (having_some _ _ (does_inchar o.store) h)) in
        rw unused refl

    item : is_used_up (behind_separators (input_of o.store)).image ≡ false → HoldsItem p.frames p.input
    item h = at_item (ap (λ (s : InputState). is_used_up (behind_separators s).image) state ∙ h)
      where
        state : record { frames = p.frames; image = p.input.image; endfile = o.store.endfile; left = o.store.left } ≡ input_of o.store
        state = ap (λ f. record { frames = f; image = p.input.image; endfile = o.store.endfile; left = o.store.left }) (sym a.frames) ∙ ap (λ i. record { frames = o.store.frames; image = i; endfile = o.store.endfile; left = o.store.left }) (sym a.sysin)

    pub inint_row : HasAll o.store.left (having (standard_effect name.Inint [] o.store) o (going_on l line o go rest)) → HoldsItem p.frames p.input
    inint_row h = item (inint_takes (input_of o.store) (row_takes (valued Integer) (λ z. (Some (Integer z), refl)) (λ e. refl) 0 within (inint (input_of o.store)) (having_some _ _ (does_inint o.store) h)))

    pub lastitem_row : HasAll o.store.left (having (standard_effect name.Lastitem [] o.store) o (going_on l line o go rest)) → HoldsItem p.frames p.input
    lastitem_row h = item (lastitem_takes (input_of o.store) (row_takes (valued Truth) (λ b. (Some (Truth b), refl)) (λ e. refl) 0 within (lastitem (input_of o.store)) (having_some _ _ (does_lastitem o.store) h)))

    pub intext_row : (n : ℤ) → is_exhausted l.storage o.words (intext (input_of o.store) n).wanted ≡ false → HasAll o.store.left (having (standard_effect name.Intext (Integer n ∷ []) o.store) o (going_on l line o go rest)) → AreIn (count_from n) o.store.sysin.length o.store.sysin.pos
    intext_row n fits h =
        by n (row_takes (valued Text) (λ t. (Some (Text t), refl)) (λ e. refl) (intext (input_of o.store) n).wanted fits (intext (input_of o.store) n).step (having_some _ _ (does_intext o.store n) h))
      where
        by : (n : ℤ) → TakesNone (input_of o.store) (intext (input_of o.store) n).step → AreIn (count_from n) o.store.sysin.length o.store.sysin.pos
        by (pos m) u = text_takes m (input_of o.store) u
        by (negsuc m) u = tt

-- characters that are in the image are held
characters_held : (n : ℕ) (i : HeldInput) → AreIn n i.image.length i.image.pos → holds_characters n i ≡ true
characters_held zero i h = refl
characters_held (suc n) i h =
    let next : behind_character i ≡ record { image = record i.image { pos = i.image.pos + 1 }; endfile = i.endfile; held = (behind_character i).held } = rw h.0 refl in
    let rest : holds_characters n (behind_character i) ≡ true = subst (λ j. holds_characters n j ≡ true) (sym next) (characters_held n (record { image = record i.image { pos = i.image.pos + 1 }; endfile = i.endfile; held = (behind_character i).held }) h.1) in
    let here : holds_character i ≡ true = rw h.0 refl in
    ap (λ b. b && holds_characters n (behind_character i)) here ∙ rest

module _ {S : Type 0} (budget : ℕ) (p : Parts) (old new : S) where
  -- a name of no operands
  pub by_function : (f : OfNothing) → Unread (nothing_name f) [] p.frames p.input old new → CallTakes budget (nothing_name f) [] p old new
  unfolding CallTakes Unread
  by_function nothing.Inimage u l line o go rest limit a back h = absurd (inimage_row l line o go rest back budget p limit a h)
  by_function nothing.Inchar u l line o go rest limit a back h = u (inchar_row l line o go rest back budget p limit a h)
  by_function nothing.Inint u l line o go rest limit a back h = u (inint_row l line o go rest back budget p limit a h)
  by_function nothing.Lastitem u l line o go rest limit a back h = u (lastitem_row l line o go rest back budget p limit a h)
  by_function nothing.Maxint u l line o go rest limit a back h = u tt
  by_function nothing.Minint u l line o go rest limit a back h = u tt
  by_function nothing.Endfile u l line o go rest limit a back h = u tt
  by_function nothing.Outimage u l line o go rest limit a back h = u tt

  -- `intext` where its words are there
  pub by_text : (n : ℤ) → ((o : World) (l : Limits) → l.storage ≡ budget → Agrees l o p → is_exhausted l.storage o.words (intext (input_of o.store) n).wanted ≡ false) → (holds_characters (count_from n) p.input ≡ true → new ≡ old) → CallTakes budget name.Intext (Integer n ∷ []) p old new
  unfolding CallTakes
  by_text n fits u l line o go rest limit a back h =
      let there = intext_row l line o go rest back budget p limit a n (fits o l limit a) h in
      u (characters_held (count_from n) p.input (subst (λ i. AreIn (count_from n) i.length i.pos) a.sysin there))

  -- the same of the same name
  pub of_integer_function : (f g : OfInteger) (n : ℤ) → f ≡ g → CallTakes budget (integer_name g) (Integer n ∷ []) p old new → CallTakes budget (integer_name f) (Integer n ∷ []) p old new
  of_integer_function f g n is h = subst (λ f. CallTakes budget (integer_name f) (Integer n ∷ []) p old new) (sym is) h

  pub of_same_call : (c d : Call) → c ≡ d → CallTakes budget (name_of d) (operands d) p old new → CallTakes budget (name_of c) (operands c) p old new
  of_same_call c d is h = subst (λ c. CallTakes budget (name_of c) (operands c) p old new) (sym is) h

  -- a name on a stack, from which its operands were read
  pub of_row : (n : Standard) (c : Call) (depth : ℕ) (slots : List Slot) → ReadAs (Ok c) n depth slots → CallTakes budget (name_of c) (operands c) p old new → RowTakes budget n (held depth slots) p old new
  unfolding CallTakes RowTakes
  of_row n c depth slots read h l line o go limit a back all =
      h l line o go (values_of (begins depth c) slots) limit a back
      (subst (λ n. HasAll {S = Machine} o.store.left (having (standard_effect n (operands c) o.store) o (going_on l line o go (values_of (begins depth c) slots)))) read.0
      (subst (λ r. HasAll {S = Machine} o.store.left r) (read.1 l line o go) all))

-- ---- `intext`

intext_words : (s : InputState) (n : ℤ) → (intext s n).wanted ≡ text_words (count_from n)
intext_words s (pos m) = refl
intext_words s (negsuc m) = refl

module _ (budget words room : ℕ) (n : ℤ) (frames frames2 : List Frame) (i i2 : HeldInput) (image : TextVal) (sink left left2 : Option (List ℕ)) (is : room ≡ budget - words) (within : words ≤ budget) {S : Type 0} (old new : S) (held : holds_characters (count_from n) i ≡ true → new ≡ old) where
  -- its words are there
  words_there : (s : List ℕ) → (intext (input_state frames i s) n).wanted ≤ room → (o : World) (l : Limits) → l.storage ≡ budget → Agrees l o (parts frames i s image sink words) → is_exhausted l.storage o.words (intext (input_of o.store) n).wanted ≡ false
  words_there s h o l limit a =
      let same : (intext (input_of o.store) n).wanted ≡ (intext (input_state frames i s) n).wanted = intext_words (input_of o.store) n ∙ sym (intext_words (input_state frames i s) n) in
      let used = a.words in
      lt_not l.storage (o.words + (intext (input_of o.store) n).wanted) (omega (arith, h, same, used, limit, is, within))

  read_there : (s : List ℕ) → (intext (input_state frames i s) n).wanted ≤ room → CallTakes budget name.Intext (Integer n ∷ []) (parts frames i s image sink words) old new
  read_there s h = by_text budget (parts frames i s image sink words) old new n (words_there s h) held

  pub text_done : (t : TextVal) → Told left left2 (λ before now. ReadsText n room (input_state frames i before) (Ok t) (input_state frames2 i2 now)) → (s : List ℕ) → left ≡ Some s → CallTakes budget name.Intext (Integer n ∷ []) (parts frames i s image sink words) old new
  text_done t told s e = let d = told_from left left2 _ told s e in read_there s d.2.0

  pub text_refused : (x : IntextFault) → Told left left2 (λ before now. ReadsText n room (input_state frames i before) (Err x) (input_state frames2 i2 now)) → ((y : TextFault) → ◌≡◌ {A = Result TextVal IntextFault} (Err x) (Err (making.NoText y)) → new ≡ old)
      → (s : List ℕ) → left ≡ Some s → CallTakes budget name.Intext (Integer n ∷ []) (parts frames i s image sink words) old new
  unfolding CallTakes
  text_refused (making.NotRead (fault.Run e)) told none s is = let d = told_from left left2 _ told s is in read_there s d.2.0
  text_refused (making.NotRead fault.InputFault) told none s is = let d = told_from left left2 _ told s is in read_there s d.2.0
  text_refused (making.NotRead fault.WriteFault) told none s is = let d = told_from left left2 _ told s is in absurd d.2
  text_refused (making.NoText y) told none s is = λ l line o go rest limit a back h. none y refl

-- nothing was read at all
pub call_unread : {S : Type 0} (budget : ℕ) (p : Parts) (n : Standard) (vs : List Plain) (old : S) → CallTakes budget n vs p old old
unfolding CallTakes
call_unread budget p n vs old l line o go rest limit a back h = refl

pub row_unread : {S : Type 0} (budget : ℕ) (p : Parts) (n : Standard) (depth : ℕ) (slots : List Slot) (old : S) → RowTakes budget n (held depth slots) p old old
unfolding RowTakes
row_unread budget p n depth slots old l line o go limit a back h = refl

pub ruleset takes_none = (call_unread, row_unread, by_function, of_integer_function, of_same_call, of_row)

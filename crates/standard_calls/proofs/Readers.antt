-- What is read on a stack for a name, by the kinds of its operands.
use Rattle.std.proofs.Common.{◌≡◌, ℕ, ◌+◌, ◌-◌, ◌<◌, ◌≤◌, List, [], ◌∷◌, length, sym, subst, refl, ap, ◌∙◌, arith}
use Rattle.std.specs.Prelude.{ℤ, true, false, Some, None, Result, Ok, Err}
use Rattle.sim_values.specs.declared.standard.Standard.{Standard}
use Rattle.sim_values.specs.declared.standard.Standard.TheVariants as name
use Rattle.sim_values.specs.declared.standard.StandardType.{StandardType}
use Rattle.sim_values.specs.declared.value.TextVal.{TextVal}
use Rattle.sim_values.specs.Plain.{Plain, Integer, Character, Text}
use Rattle.sim_values.specs.Standard.{of_character, of_integer, of_integers, of_text, of_text_and_character, of_text_and_integer, of_text_and_integers, operands_of, row_of, standard_effect, take_nothing}
use Rattle.sim_values.specs.Store.{Effect, Store}
use Rattle.sim_code.specs.Events.{having}
use Rattle.sim_code.specs.Machine.{Value, Of}
use Rattle.frame_arena.specs.declared.slot.Slot.{Slot}
use Rattle.frame_arena.specs.Slots.{character_of, integer_of, value_of}
use Rattle.frame_arena.specs.Stacks.{slot_at, values_of}
use Rattle.standard_calls.specs.declared.calls.OfNothing.{OfNothing}
use Rattle.standard_calls.specs.declared.calls.OfNothing.TheVariants as nothing
use Rattle.standard_calls.specs.declared.calls.OfInteger.{OfInteger}
use Rattle.standard_calls.specs.declared.calls.OfInteger.TheVariants as integer
use Rattle.standard_calls.specs.declared.calls.OfIntegers.{OfIntegers}
use Rattle.standard_calls.specs.declared.calls.OfIntegers.TheVariants as integers
use Rattle.standard_calls.specs.declared.calls.OfCharacter.{OfCharacter}
use Rattle.standard_calls.specs.declared.calls.OfCharacter.TheVariants as character
use Rattle.standard_calls.specs.declared.calls.OfText.{OfText}
use Rattle.standard_calls.specs.declared.calls.OfText.TheVariants as text
use Rattle.standard_calls.specs.declared.calls.OfTextAndInteger.{OfTextAndInteger}
use Rattle.standard_calls.specs.declared.calls.OfTextAndInteger.TheVariants as integer_to
use Rattle.standard_calls.specs.declared.calls.Call.TheVariants as call
use Rattle.standard_calls.specs.declared.came.Missing.{Missing}
use Rattle.standard_calls.specs.declared.came.Missing.TheVariants as missing
use Rattle.standard_calls.specs.Calls.{IsNoText, going_on, ReadAs, Refuses, character_name, gives, integer_name, integers_name, nothing_name, text_and_integer_name, text_name}
use Rattle.standard_calls.proofs.Slots.{off, three_at, top_of, two_at}
use Rattle.standard_calls.proofs.Operands.{a_character, an_integer, character_is, integer_is, not_character, not_integer, not_text, one_bad, one_good, three_bad, three_good, too_few, two_bad, two_good, zero_full, zero_good, zero_quiet}

-- ---- the kinds of the operands of each name
integer_row : (f : OfInteger) → (g : ℤ → Store → Effect) × ((row_of (integer_name f)).function ≡ of_integer g)
unfolding row_of
integer_row integer.Abs = (_, refl)
integer_row integer.Sign = (_, refl)
integer_row integer.Char = (_, refl)
integer_row integer.Isochar = (_, refl)
integer_row integer.Blanks = (_, refl)
integer_row integer.Intext = (_, refl)

integers_row : (f : OfIntegers) → (g : ℤ → ℤ → Store → Effect) × ((row_of (integers_name f)).function ≡ of_integers g)
unfolding row_of
integers_row integers.Min = (_, refl)
integers_row integers.Max = (_, refl)
integers_row integers.Mod = (_, refl)
integers_row integers.Rem = (_, refl)
integers_row integers.Outint = (_, refl)

character_row : (f : OfCharacter) → (g : ℕ → Store → Effect) × ((row_of (character_name f)).function ≡ of_character g)
unfolding row_of
character_row character.Rank = (_, refl)
character_row character.Isorank = (_, refl)
character_row character.Digit = (_, refl)
character_row character.Letter = (_, refl)
character_row character.Outchar = (_, refl)

text_row : (f : OfText) → (g : TextVal → Store → Effect) × ((row_of (text_name f)).function ≡ of_text g)
unfolding row_of
text_row text.Copy = (_, refl)
text_row text.Upcase = (_, refl)
text_row text.Lowcase = (_, refl)
text_row text.Constant = (_, refl)
text_row text.Start = (_, refl)
text_row text.Length = (_, refl)
text_row text.Pos = (_, refl)
text_row text.More = (_, refl)
text_row text.Main = (_, refl)
text_row text.Strip = (_, refl)
text_row text.Getchar = (_, refl)
text_row text.Getint = (_, refl)
text_row text.Outtext = (_, refl)

text_and_integer_row : (f : OfTextAndInteger) → (g : TextVal → ℤ → Store → Effect) × ((row_of (text_and_integer_name f)).function ≡ of_text_and_integer g)
unfolding row_of
text_and_integer_row integer_to.Setpos = (_, refl)
text_and_integer_row integer_to.Putint = (_, refl)

sub_row : (g : TextVal → ℤ → ℤ → Store → Effect) × ((row_of name.TextSub).function ≡ of_text_and_integers g)
unfolding row_of
sub_row = (_, refl)

putchar_row : (g : TextVal → ℕ → Store → Effect) × ((row_of name.TextPutchar).function ≡ of_text_and_character g)
unfolding row_of
putchar_row = (_, refl)

nothing_operands : (f : OfNothing) → length (operands_of (row_of (nothing_name f)).function) ≡ 0
unfolding row_of
nothing_operands nothing.Maxint = refl
nothing_operands nothing.Minint = refl
nothing_operands nothing.Inimage = refl
nothing_operands nothing.Inchar = refl
nothing_operands nothing.Inint = refl
nothing_operands nothing.Lastitem = refl
nothing_operands nothing.Endfile = refl
nothing_operands nothing.Outimage = refl

some_value : (f : OfNothing) → gives f ≡ true → (t : StandardType) × ((row_of (nothing_name f)).result ≡ Some t)
unfolding row_of
some_value nothing.Maxint h = (_, refl)
some_value nothing.Minint h = (_, refl)
some_value nothing.Inchar h = (_, refl)
some_value nothing.Inint h = (_, refl)
some_value nothing.Lastitem h = (_, refl)
some_value nothing.Endfile h = (_, refl)
some_value nothing.Inimage h = absurd (off h)
some_value nothing.Outimage h = absurd (off h)

no_value : (f : OfNothing) → gives f ≡ false → (row_of (nothing_name f)).result ≡ None
unfolding row_of
no_value nothing.Maxint h = absurd (off (sym h))
no_value nothing.Minint h = absurd (off (sym h))
no_value nothing.Inchar h = absurd (off (sym h))
no_value nothing.Inint h = absurd (off (sym h))
no_value nothing.Lastitem h = absurd (off (sym h))
no_value nothing.Endfile h = absurd (off (sym h))
no_value nothing.Inimage h = refl
no_value nothing.Outimage h = refl

-- ---- what is read

pub missed : (n : Standard) (depth : ℕ) (slots : List Slot) (m : Missing) (X : Type 0) → (◌≡◌ {A = Result TextVal Missing} (Err m) (Err missing.NoRule) → X) → (X → Refuses n depth slots) → ReadAs (Err m) n depth slots
missed n depth slots missing.NoRule X other refuses = refuses (other refl)
missed n depth slots missing.Memory X other refuses = tt

module _ (depth : ℕ) (slots : List Slot) (h : depth ≤ length slots) where
  abbrev at : ℕ → Value
  at k = value_of (slot_at slots k)

  none_before : depth ≡ depth - 0
  none_before = omega arith

  pub nothing_quiet : (f : OfNothing) → gives f ≡ false → ReadAs (Ok (call.Nothing f)) (nothing_name f) depth slots
  nothing_quiet f none = (
    refl,
    λ l line o go.
        zero_quiet (nothing_name f) (nothing_operands f) l line o go depth slots (no_value f none)
        ∙ ap (λ d. having (standard_effect (nothing_name f) [] o.store) o (going_on l line o go (values_of d slots))) none_before,
    λ some. absurd (off (sym none ∙ some)),
    ap (λ d. values_of d slots) none_before,
  )

  pub nothing_read : (f : OfNothing) → depth < length slots → ReadAs (Ok (call.Nothing f)) (nothing_name f) depth slots
  nothing_read f room = (
    refl,
    λ l line o go.
        zero_good (nothing_name f) (nothing_operands f) l line o go depth slots h room
        ∙ ap (λ d. having (standard_effect (nothing_name f) [] o.store) o (going_on l line o go (values_of d slots))) none_before,
    λ some. subst (λ d. d < length slots) none_before room,
    ap (λ d. values_of d slots) none_before,
  )

  pub nothing_full : (f : OfNothing) → gives f ≡ true → length slots ≤ depth → Refuses (nothing_name f) depth slots
  nothing_full f some full l line o go = let t = some_value f some in zero_full (nothing_name f) (nothing_operands f) l line o go depth slots t.0 h full t.1

  one_on_top : (p : Plain) → 1 ≤ depth → at (depth - 1) ≡ Of p → values_of depth slots ≡ Of p ∷ values_of (depth - 1) slots
  one_on_top p some vp = top_of depth slots some h ∙ ap (λ v. v ∷ values_of (depth - 1) slots) vp

  two_on_top : (q p : Plain) → 2 ≤ depth → at (depth - 2 + 1) ≡ Of q → at (depth - 2) ≡ Of p → values_of depth slots ≡ Of q ∷ Of p ∷ values_of (depth - 2) slots
  two_on_top q p some wq vp =
      two_at depth slots some h ∙ ap (λ w. w ∷ at (depth - 2) ∷ values_of (depth - 2) slots) wq ∙ ap (λ v. Of q ∷ v ∷ values_of (depth - 2) slots) vp

  three_on_top : (r q p : Plain) → 3 ≤ depth → at (depth - 3 + 2) ≡ Of r → at (depth - 3 + 1) ≡ Of q → at (depth - 3) ≡ Of p → values_of depth slots ≡ Of r ∷ Of q ∷ Of p ∷ values_of (depth - 3) slots
  three_on_top r q p some xr wq vp =
      three_at depth slots some h
      ∙ ap (λ x. x ∷ at (depth - 3 + 1) ∷ at (depth - 3) ∷ values_of (depth - 3) slots) xr
      ∙ ap (λ w. Of r ∷ w ∷ at (depth - 3) ∷ values_of (depth - 3) slots) wq
      ∙ ap (λ v. Of r ∷ Of q ∷ v ∷ values_of (depth - 3) slots) vp

  -- an integer
  pub integer_few : (f : OfInteger) → depth < 1 → Refuses (integer_name f) depth slots
  integer_few f few l line o go = let r = integer_row f in too_few (integer_name f) (of_integer r.0) r.1 l line o go depth slots h few

  pub integer_bad : (f : OfInteger) → 1 ≤ depth → None ≡ integer_of (at (depth - 1)) → Refuses (integer_name f) depth slots
  unfolding take_nothing
  integer_bad f some bad l line o go =
      let r = integer_row f in
      one_bad (integer_name f) (of_integer r.0) r.1 l line o go depth slots h (at (depth - 1)) (values_of (depth - 1) slots) refl (top_of depth slots some h)
      (λ p vp. not_integer (at (depth - 1)) p [] _ bad vp)

  pub integer_read : (f : OfInteger) (i : ℤ) → 1 ≤ depth → Some i ≡ integer_of (at (depth - 1)) → ReadAs (Ok (call.Integer f i)) (integer_name f) depth slots
  integer_read f i some good =
      let r = integer_row f in (
        refl,
        λ l line o go. one_good (integer_name f) (of_integer r.0) r.1 l line o go depth slots h (at (depth - 1)) (values_of (depth - 1) slots) refl (top_of depth slots some h) (Integer i) (integer_is (at (depth - 1)) i good),
        omega (arith, some, h),
        one_on_top (Integer i) some (integer_is (at (depth - 1)) i good),
      )

  -- a character
  pub character_few : (f : OfCharacter) → depth < 1 → Refuses (character_name f) depth slots
  character_few f few l line o go = let r = character_row f in too_few (character_name f) (of_character r.0) r.1 l line o go depth slots h few

  pub character_bad : (f : OfCharacter) → 1 ≤ depth → None ≡ character_of (at (depth - 1)) → Refuses (character_name f) depth slots
  character_bad f some bad l line o go =
      let r = character_row f in
      one_bad (character_name f) (of_character r.0) r.1 l line o go depth slots h (at (depth - 1)) (values_of (depth - 1) slots) refl (top_of depth slots some h)
      (λ p vp. not_character (at (depth - 1)) p [] _ bad vp)

  pub character_read : (f : OfCharacter) (c : ℕ) → 1 ≤ depth → Some c ≡ character_of (at (depth - 1)) → ReadAs (Ok (call.Character f c)) (character_name f) depth slots
  character_read f c some good =
      let r = character_row f in (
        refl,
        λ l line o go. one_good (character_name f) (of_character r.0) r.1 l line o go depth slots h (at (depth - 1)) (values_of (depth - 1) slots) refl (top_of depth slots some h) (Character c) (character_is (at (depth - 1)) c good),
        omega (arith, some, h),
        one_on_top (Character c) some (character_is (at (depth - 1)) c good),
      )

  -- a text
  pub text_few : (f : OfText) → depth < 1 → Refuses (text_name f) depth slots
  text_few f few l line o go = let r = text_row f in too_few (text_name f) (of_text r.0) r.1 l line o go depth slots h few

  pub text_bad : (f : OfText) → 1 ≤ depth → IsNoText (at (depth - 1)) → Refuses (text_name f) depth slots
  text_bad f some bad l line o go =
      let r = text_row f in
      one_bad (text_name f) (of_text r.0) r.1 l line o go depth slots h (at (depth - 1)) (values_of (depth - 1) slots) refl (top_of depth slots some h)
      (λ p vp. not_text p [] _ (λ t pt. bad t (vp ∙ pt)))

  pub text_read : (f : OfText) (t : TextVal) → 1 ≤ depth → at (depth - 1) ≡ Of (Text t) → ReadAs (Ok (call.Text f t)) (text_name f) depth slots
  text_read f t some good =
      let r = text_row f in (
        refl,
        λ l line o go. one_good (text_name f) (of_text r.0) r.1 l line o go depth slots h (at (depth - 1)) (values_of (depth - 1) slots) refl (top_of depth slots some h) (Text t) good,
        omega (arith, some, h),
        one_on_top (Text t) some good,
      )

  -- two integers
  pub integers_few : (f : OfIntegers) → depth < 2 → Refuses (integers_name f) depth slots
  integers_few f few l line o go = let r = integers_row f in too_few (integers_name f) (of_integers r.0) r.1 l line o go depth slots h few

  pub integers_bad_top : (f : OfIntegers) → 2 ≤ depth → None ≡ integer_of (at (depth - 2 + 1)) → Refuses (integers_name f) depth slots
  integers_bad_top f some bad l line o go =
      let r = integers_row f in
      two_bad (integers_name f) (of_integers r.0) r.1 l line o go depth slots h (at (depth - 2 + 1)) (at (depth - 2)) (values_of (depth - 2) slots) refl (two_at depth slots some h)
      (λ q p wq vp. not_integer (at (depth - 2 + 1)) q (p ∷ []) _ bad wq)

  pub integers_bad_below : (f : OfIntegers) (j : ℤ) → 2 ≤ depth → Some j ≡ integer_of (at (depth - 2 + 1)) → None ≡ integer_of (at (depth - 2)) → Refuses (integers_name f) depth slots
  integers_bad_below f j some good bad l line o go =
      let r = integers_row f in
      two_bad (integers_name f) (of_integers r.0) r.1 l line o go depth slots h (at (depth - 2 + 1)) (at (depth - 2)) (values_of (depth - 2) slots) refl (two_at depth slots some h)
      (λ q p wq vp. an_integer j q (p ∷ []) _ (sym (integer_is (at (depth - 2 + 1)) j good) ∙ wq) ∙ not_integer (at (depth - 2)) p [] _ bad vp)

  pub integers_read : (f : OfIntegers) (i j : ℤ) → 2 ≤ depth → Some j ≡ integer_of (at (depth - 2 + 1)) → Some i ≡ integer_of (at (depth - 2)) → ReadAs (Ok (call.Integers f i j)) (integers_name f) depth slots
  integers_read f i j some good good2 =
      let r = integers_row f in (
        refl,
        λ l line o go. two_good (integers_name f) (of_integers r.0) r.1 l line o go depth slots h (at (depth - 2 + 1)) (at (depth - 2)) (values_of (depth - 2) slots) refl (two_at depth slots some h) (Integer j) (Integer i)
            (integer_is (at (depth - 2 + 1)) j good) (integer_is (at (depth - 2)) i good2),
        omega (arith, some, h),
        two_on_top (Integer j) (Integer i) some (integer_is (at (depth - 2 + 1)) j good) (integer_is (at (depth - 2)) i good2),
      )

  -- a text and an integer
  pub text_and_integer_few : (f : OfTextAndInteger) → depth < 2 → Refuses (text_and_integer_name f) depth slots
  text_and_integer_few f few l line o go = let r = text_and_integer_row f in too_few (text_and_integer_name f) (of_text_and_integer r.0) r.1 l line o go depth slots h few

  pub text_and_integer_bad_top : (f : OfTextAndInteger) → 2 ≤ depth → None ≡ integer_of (at (depth - 2 + 1)) → Refuses (text_and_integer_name f) depth slots
  text_and_integer_bad_top f some bad l line o go =
      let r = text_and_integer_row f in
      two_bad (text_and_integer_name f) (of_text_and_integer r.0) r.1 l line o go depth slots h (at (depth - 2 + 1)) (at (depth - 2)) (values_of (depth - 2) slots) refl (two_at depth slots some h)
      (λ q p wq vp. not_integer (at (depth - 2 + 1)) q (p ∷ []) _ bad wq)

  pub text_and_integer_bad_below : (f : OfTextAndInteger) (j : ℤ) → 2 ≤ depth → Some j ≡ integer_of (at (depth - 2 + 1)) → IsNoText (at (depth - 2)) → Refuses (text_and_integer_name f) depth slots
  text_and_integer_bad_below f j some good bad l line o go =
      let r = text_and_integer_row f in
      two_bad (text_and_integer_name f) (of_text_and_integer r.0) r.1 l line o go depth slots h (at (depth - 2 + 1)) (at (depth - 2)) (values_of (depth - 2) slots) refl (two_at depth slots some h)
      (λ q p wq vp. an_integer j q (p ∷ []) _ (sym (integer_is (at (depth - 2 + 1)) j good) ∙ wq) ∙ not_text p [] _ (λ t pt. bad t (vp ∙ pt)))

  pub text_and_integer_read : (f : OfTextAndInteger) (t : TextVal) (j : ℤ) → 2 ≤ depth → Some j ≡ integer_of (at (depth - 2 + 1)) → at (depth - 2) ≡ Of (Text t) → ReadAs (Ok (call.TextAndInteger f t j)) (text_and_integer_name f) depth slots
  text_and_integer_read f t j some good good2 =
      let r = text_and_integer_row f in (
        refl,
        λ l line o go. two_good (text_and_integer_name f) (of_text_and_integer r.0) r.1 l line o go depth slots h (at (depth - 2 + 1)) (at (depth - 2)) (values_of (depth - 2) slots) refl (two_at depth slots some h) (Integer j) (Text t)
            (integer_is (at (depth - 2 + 1)) j good) good2,
        omega (arith, some, h),
        two_on_top (Integer j) (Text t) some (integer_is (at (depth - 2 + 1)) j good) good2,
      )

  -- `putchar`
  pub putchar_few : depth < 2 → Refuses name.TextPutchar depth slots
  putchar_few few l line o go = let r = putchar_row in too_few name.TextPutchar (of_text_and_character r.0) r.1 l line o go depth slots h few

  pub putchar_bad_top : 2 ≤ depth → None ≡ character_of (at (depth - 2 + 1)) → Refuses name.TextPutchar depth slots
  putchar_bad_top some bad l line o go =
      let r = putchar_row in
      two_bad name.TextPutchar (of_text_and_character r.0) r.1 l line o go depth slots h (at (depth - 2 + 1)) (at (depth - 2)) (values_of (depth - 2) slots) refl (two_at depth slots some h)
      (λ q p wq vp. not_character (at (depth - 2 + 1)) q (p ∷ []) _ bad wq)

  pub putchar_bad_below : (c : ℕ) → 2 ≤ depth → Some c ≡ character_of (at (depth - 2 + 1)) → IsNoText (at (depth - 2)) → Refuses name.TextPutchar depth slots
  putchar_bad_below c some good bad l line o go =
      let r = putchar_row in
      two_bad name.TextPutchar (of_text_and_character r.0) r.1 l line o go depth slots h (at (depth - 2 + 1)) (at (depth - 2)) (values_of (depth - 2) slots) refl (two_at depth slots some h)
      (λ q p wq vp. a_character c q (p ∷ []) _ (sym (character_is (at (depth - 2 + 1)) c good) ∙ wq) ∙ not_text p [] _ (λ t pt. bad t (vp ∙ pt)))

  pub putchar_read : (t : TextVal) (c : ℕ) → 2 ≤ depth → Some c ≡ character_of (at (depth - 2 + 1)) → at (depth - 2) ≡ Of (Text t) → ReadAs (Ok (call.TextAndCharacter t c)) name.TextPutchar depth slots
  putchar_read t c some good good2 =
      let r = putchar_row in (
        refl,
        λ l line o go. two_good name.TextPutchar (of_text_and_character r.0) r.1 l line o go depth slots h (at (depth - 2 + 1)) (at (depth - 2)) (values_of (depth - 2) slots) refl (two_at depth slots some h) (Character c) (Text t)
            (character_is (at (depth - 2 + 1)) c good) good2,
        omega (arith, some, h),
        two_on_top (Character c) (Text t) some (character_is (at (depth - 2 + 1)) c good) good2,
      )

  -- `sub`
  pub sub_few : depth < 3 → Refuses name.TextSub depth slots
  sub_few few l line o go = let r = sub_row in too_few name.TextSub (of_text_and_integers r.0) r.1 l line o go depth slots h few

  pub sub_bad_top : 3 ≤ depth → None ≡ integer_of (at (depth - 3 + 2)) → Refuses name.TextSub depth slots
  sub_bad_top some bad l line o go =
      let r = sub_row in
      three_bad name.TextSub (of_text_and_integers r.0) r.1 l line o go depth slots h (at (depth - 3 + 2)) (at (depth - 3 + 1)) (at (depth - 3)) (values_of (depth - 3) slots) refl (three_at depth slots some h)
      (λ r q p xr wq vp. not_integer (at (depth - 3 + 2)) r (q ∷ p ∷ []) _ bad xr)

  pub sub_bad_middle : (j : ℤ) → 3 ≤ depth → Some j ≡ integer_of (at (depth - 3 + 2)) → None ≡ integer_of (at (depth - 3 + 1)) → Refuses name.TextSub depth slots
  sub_bad_middle j some good bad l line o go =
      let r = sub_row in
      three_bad name.TextSub (of_text_and_integers r.0) r.1 l line o go depth slots h (at (depth - 3 + 2)) (at (depth - 3 + 1)) (at (depth - 3)) (values_of (depth - 3) slots) refl (three_at depth slots some h)
      (λ r q p xr wq vp. an_integer j r (q ∷ p ∷ []) _ (sym (integer_is (at (depth - 3 + 2)) j good) ∙ xr) ∙ not_integer (at (depth - 3 + 1)) q (p ∷ []) _ bad wq)

  pub sub_bad_below : (i j : ℤ) → 3 ≤ depth → Some j ≡ integer_of (at (depth - 3 + 2)) → Some i ≡ integer_of (at (depth - 3 + 1)) → IsNoText (at (depth - 3)) → Refuses name.TextSub depth slots
  sub_bad_below i j some good good2 bad l line o go =
      let r = sub_row in
      three_bad name.TextSub (of_text_and_integers r.0) r.1 l line o go depth slots h (at (depth - 3 + 2)) (at (depth - 3 + 1)) (at (depth - 3)) (values_of (depth - 3) slots) refl (three_at depth slots some h)
      (λ r q p xr wq vp. an_integer j r (q ∷ p ∷ []) _ (sym (integer_is (at (depth - 3 + 2)) j good) ∙ xr)
      ∙ an_integer i q (p ∷ []) _ (sym (integer_is (at (depth - 3 + 1)) i good2) ∙ wq) ∙ not_text p [] _ (λ t pt. bad t (vp ∙ pt)))

  pub sub_read : (t : TextVal) (i j : ℤ) → 3 ≤ depth → Some j ≡ integer_of (at (depth - 3 + 2)) → Some i ≡ integer_of (at (depth - 3 + 1)) → at (depth - 3) ≡ Of (Text t) → ReadAs (Ok (call.TextAndIntegers t i j)) name.TextSub depth slots
  sub_read t i j some good good2 good3 =
      let r = sub_row in (
        refl,
        λ l line o go. three_good name.TextSub (of_text_and_integers r.0) r.1 l line o go depth slots h (at (depth - 3 + 2)) (at (depth - 3 + 1)) (at (depth - 3)) (values_of (depth - 3) slots) refl (three_at depth slots some h)
            (Integer j) (Integer i) (Text t) (integer_is (at (depth - 3 + 2)) j good) (integer_is (at (depth - 3 + 1)) i good2) good3,
        omega (arith, some, h),
        three_on_top (Integer j) (Integer i) (Text t) some (integer_is (at (depth - 3 + 2)) j good) (integer_is (at (depth - 3 + 1)) i good2) good3,
      )

-- Names that read nothing, since what is held of the input is enough.
use Rattle.std.proofs.Common.{◌≡◌, true, ℕ, List, [], ◌∷◌, ◌++◌, map, sym, subst, refl}
use Rattle.std.specs.Prelude.{ℤ, Ok}
use Rattle.sim_values.specs.declared.standard.Standard.{Standard}
use Rattle.sim_values.specs.declared.standard.Standard.TheVariants as name
use Rattle.sim_values.specs.Plain.{Integer}
use Rattle.sim_values.specs.Texts.{Frame}
use Rattle.sim_values.specs.Words.{count_from}
use Rattle.sim_code.specs.Machine.{Value, Of}
use Rattle.basic_io.specs.Input.{HeldInput, HoldsItem, holds_character, needs_no_byte}
use Rattle.basic_io.specs.Intext.{holds_characters}
use Rattle.frame_arena.specs.declared.slot.Slot.{Slot}
use Rattle.frame_arena.specs.Stacks.{values_of}
use Rattle.standard_calls.specs.declared.calls.OfNothing.{OfNothing}
use Rattle.standard_calls.specs.declared.calls.OfNothing.TheVariants as nothing
use Rattle.standard_calls.specs.declared.calls.OfInteger.TheVariants as integer
use Rattle.standard_calls.specs.declared.calls.OfIntegers.TheVariants as integers
use Rattle.standard_calls.specs.declared.calls.OfCharacter.TheVariants as character
use Rattle.standard_calls.specs.declared.calls.OfText.TheVariants as text
use Rattle.standard_calls.specs.declared.calls.OfTextAndInteger.TheVariants as integer_to
use Rattle.standard_calls.specs.declared.calls.Call.{Call}
use Rattle.standard_calls.specs.declared.calls.Call.TheVariants as call
use Rattle.standard_calls.specs.declared.input.Reading.{Reading}
use Rattle.standard_calls.specs.declared.input.Reading.TheVariants as reading
use Rattle.standard_calls.specs.Calls.{ReadAs, begins, name_of, nothing_name, operands, reading_name}
use Rattle.standard_calls.specs.Unread.{Suffices, Unread}

module _ {S : Type 0} (frames : List Frame) (i : HeldInput) (old new : S) where
  pub by_inimage : (f : Reading) → f ≡ reading.Inimage → (needs_no_byte i ≡ true → new ≡ old) → Unread (reading_name f) [] frames i old new
  unfolding Unread
  by_inimage f is h s = h (subst (λ f. Suffices (reading_name f) [] frames i) is s)

  pub by_inchar : (f : Reading) → f ≡ reading.Inchar → (holds_character i ≡ true → new ≡ old) → Unread (reading_name f) [] frames i old new
  unfolding Unread
  by_inchar f is h s = h (subst (λ f. Suffices (reading_name f) [] frames i) is s)

  pub by_inint : (f : Reading) → f ≡ reading.Inint → (HoldsItem frames i → new ≡ old) → Unread (reading_name f) [] frames i old new
  unfolding Unread
  by_inint f is h s = h (subst (λ f. Suffices (reading_name f) [] frames i) is s)

  pub by_lastitem : (f : Reading) → f ≡ reading.Lastitem → (HoldsItem frames i → new ≡ old) → Unread (reading_name f) [] frames i old new
  unfolding Unread
  by_lastitem f is h s = h (subst (λ f. Suffices (reading_name f) [] frames i) is s)

  pub by_intext : (n : ℤ) → (holds_characters (count_from n) i ≡ true → new ≡ old) → Unread name.Intext (Of (Integer n) ∷ []) frames i old new
  unfolding Unread
  by_intext n h s = h s

  -- a name of no operands that reads
  pub of_function : (f g : OfNothing) → f ≡ g → Unread (nothing_name g) [] frames i old new → Unread (nothing_name f) [] frames i old new
  of_function f g is h = subst (λ f. Unread (nothing_name f) [] frames i old new) (sym is) h

  -- of the same call
  pub of_call : (c d : Call) → c ≡ d → Unread (name_of d) (map Of (operands d)) frames i old new → Unread (name_of c) (map Of (operands c)) frames i old new
  of_call c d is h = subst (λ c. Unread (name_of c) (map Of (operands c)) frames i old new) (sym is) h

  -- what is below the operands does not matter
  enough : (c : Call) (below : List Value) → Suffices (name_of c) (map Of (operands c) ++ below) frames i → Suffices (name_of c) (map Of (operands c)) frames i
  enough (call.Nothing nothing.Maxint) below s = s
  enough (call.Nothing _) below s = s
  enough (call.Integer integer.Intext n) below s = s
  enough (call.Integer _ n) below s = s
  enough (call.Integers integers.Min m n) below s = s
  enough (call.Integers _ m n) below s = s
  enough (call.Character character.Rank c) below s = s
  enough (call.Character _ c) below s = s
  enough (call.Text text.Copy t) below s = s
  enough (call.Text _ t) below s = s
  enough (call.TextAndInteger integer_to.Setpos t n) below s = s
  enough (call.TextAndInteger _ t n) below s = s
  enough (call.TextAndIntegers t m n) below s = s
  enough (call.TextAndCharacter t c) below s = s

  -- a name on a stack, from which its operands were read
  pub on_stack : (n : Standard) (c : Call) (depth : ℕ) (slots : List Slot) → ReadAs (Ok c) n depth slots → Unread (name_of c) (map Of (operands c)) frames i old new → Unread n (values_of depth slots) frames i old new
  unfolding Unread
  on_stack n c depth slots read h s =
      let here = subst (λ vs. Suffices n vs frames i) read.3 s in
      h (enough c (values_of (begins depth c) slots) (subst (λ n. Suffices n (map Of (operands c) ++ values_of (begins depth c) slots) frames i) read.0 here))

-- nothing was read
pub unread : {S : Type 0} (frames : List Frame) (i : HeldInput) (n : Standard) (vs : List Value) (old : S) → Unread n vs frames i old old
unfolding Unread
unread frames i n vs old s = refl

pub ruleset reads_none = (unread, by_inimage, by_inchar, by_inint, by_lastitem, by_intext, of_function, of_call, on_stack)

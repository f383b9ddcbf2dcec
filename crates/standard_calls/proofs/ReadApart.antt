-- What is read for a name of a text that stands apart from the stack.
use Rattle.std.proofs.Common.{◌≡◌, ℕ, ◌+◌, ◌-◌, ◌<◌, ◌≤◌, List, length, length-set, set, sym, subst, ap, ◌∙◌, arith}
use Rattle.std.specs.Prelude.{Some, None, Ok}
use Rattle.sim_values.specs.declared.standard.Standard.TheVariants as name
use Rattle.frame_arena.specs.declared.slot.Slot.{Slot}
use Rattle.frame_arena.specs.Slots.{character_of, integer_of, value_of}
use Rattle.frame_arena.specs.Stacks.{slot_at}
use Rattle.standard_calls.specs.declared.calls.OfTextAndInteger.TheVariants as integer_to
use Rattle.standard_calls.specs.declared.calls.Call.{Call}
use Rattle.standard_calls.specs.declared.calls.Call.TheVariants as call
use Rattle.standard_calls.specs.declared.came.Came.{Came}
use Rattle.standard_calls.specs.declared.came.Came.TheVariants as came
use Rattle.standard_calls.specs.Apart.{IsTextOf, RestOnTop}
use Rattle.standard_calls.specs.Calls.{ReadAs, Refuses, ValueFits, begins, name_of, operands}
use Rattle.standard_calls.proofs.Readers.{putchar_bad_top, putchar_read, text_and_integer_bad_top, text_and_integer_read, text_read}
use Rattle.standard_calls.proofs.Slots.{elsewhere, here}

pub value_fits : (k : Came) (at : ℕ) (slots : List Slot) → at < length slots → ValueFits k at slots
value_fits (came.Done None moved) at slots h = tt
value_fits (came.Done (Some s) moved) at slots h = h
value_fits (came.Fault e) at slots h = tt
value_fits (came.Full w) at slots h = tt
value_fits came.Memory at slots h = tt
value_fits came.WriteFault at slots h = tt
value_fits came.InputFault at slots h = tt

module _ (depth : ℕ) (stack : List Slot) (h : depth ≤ length stack) where
  pub begins_below : (c : Call) → length (operands c) ≤ depth → RestOnTop c depth stack → begins depth c < length stack
  begins_below (call.Nothing f) deep rest = absurd rest
  begins_below (call.Integer f i) deep rest = absurd rest
  begins_below (call.Integers f i j) deep rest = absurd rest
  begins_below (call.Character f c) deep rest = absurd rest
  begins_below (call.Text f t) deep rest = omega (arith, deep, h)
  begins_below (call.TextAndInteger f t i) deep rest = omega (arith, deep, h)
  begins_below (call.TextAndIntegers t i n) deep rest = absurd rest
  begins_below (call.TextAndCharacter t c) deep rest = omega (arith, deep, h)

  module _ (s : Slot) where
    still_long : (at : ℕ) → depth ≤ length (set stack at s)
    still_long at = subst (λ n. depth ≤ n) (sym (length-set stack at s)) h

    -- the slot on top is another one than that of the text below it
    top_same : 2 ≤ depth → slot_at stack (depth - 1) ≡ slot_at (set stack (depth - 2) s) (depth - 2 + 1)
    top_same deep =
        let e : depth - 1 ≡ depth - 2 + 1 = omega (arith, deep) in
        ap (slot_at stack) e ∙ sym (elsewhere (depth - 2) (depth - 2 + 1) stack s (λ e. omega (arith, e)))

    pub read_apart : (c : Call) → length (operands c) ≤ depth → RestOnTop c depth stack → IsTextOf c s → ReadAs (Ok c) (name_of c) depth (set stack (begins depth c) s)
    read_apart (call.Nothing f) deep rest is = absurd rest
    read_apart (call.Integer f i) deep rest is = absurd rest
    read_apart (call.Integers f i j) deep rest is = absurd rest
    read_apart (call.Character f c) deep rest is = absurd rest
    read_apart (call.Text f t) deep rest is = text_read depth (set stack (depth - 1) s) (still_long (depth - 1)) f t deep (ap value_of (here (depth - 1) stack s (omega (arith, deep, h))) ∙ is)
    read_apart (call.TextAndInteger f t i) deep rest is =
        text_and_integer_read depth (set stack (depth - 2) s) (still_long (depth - 2)) f t i deep (rest ∙ ap (λ v. integer_of (value_of v)) (top_same deep)) (ap value_of (here (depth - 2) stack s (omega (arith, deep, h))) ∙ is)
    read_apart (call.TextAndIntegers t i n) deep rest is = absurd rest
    read_apart (call.TextAndCharacter t c) deep rest is =
        putchar_read depth (set stack (depth - 2) s) (still_long (depth - 2)) t c deep (rest ∙ ap (λ v. character_of (value_of v)) (top_same deep)) (ap value_of (here (depth - 2) stack s (omega (arith, deep, h))) ∙ is)

    pub setpos_refused : 2 ≤ depth → None ≡ integer_of (value_of (slot_at stack (depth - 1))) → Refuses name.TextSetpos depth (set stack (depth - 2) s)
    setpos_refused deep bad = text_and_integer_bad_top depth (set stack (depth - 2) s) (still_long (depth - 2)) integer_to.Setpos deep (bad ∙ ap (λ v. integer_of (value_of v)) (top_same deep))

    pub putchar_refused : 2 ≤ depth → None ≡ character_of (value_of (slot_at stack (depth - 1))) → Refuses name.TextPutchar depth (set stack (depth - 2) s)
    putchar_refused deep bad = putchar_bad_top depth (set stack (depth - 2) s) (still_long (depth - 2)) deep (bad ∙ ap (λ v. character_of (value_of v)) (top_same deep))

-- A text that is copied as the standard name `copy` copies it.
use Rattle.std.proofs.Common.{◌≡◌, ℕ, ◌+◌, ◌≤◌, List, ◌∷◌, length, refl, sym, ap, ◌∙◌, arith}
use Rattle.std.specs.Prelude.{true, nat_lt}
use Rattle.sim_base.specs.declared.limits.Limits.{Limits}
use Rattle.sim_values.specs.declared.standard.Standard.TheVariants as name
use Rattle.sim_values.specs.declared.value.TextVal.{TextVal}
use Rattle.sim_values.specs.Plain.{Text}
use Rattle.sim_values.specs.Standard.{row_of, standard_effect, take_nothing, take_text}
use Rattle.sim_code.specs.Events.{computing, having, making_text, no_rule, performing, pop_operands, popping, putting_back, taking}
use Rattle.sim_code.specs.Formals.{TextCopied, copying_value}
use Rattle.sim_code.specs.Machine.{Activation, ArrayValue, Frames, Machine, Of, Value, array_in, on, operand, plain}
use Rattle.sim_code.specs.Outcome.{Run, World}
use Rattle.sim_code.specs.Rows.{put_back, room_for, with_value}
use Rattle.frame_arena.specs.declared.slot.Slot.{Slot}
use Rattle.frame_arena.specs.declared.slot.SlotKind.{SlotKind}
use Rattle.frame_arena.specs.declared.slot.SlotKind.TheVariants as k
use Rattle.frame_arena.specs.Slots.{value_by, value_of}
use Rattle.object_machine.specs.declared.machine.Registers.{Registers}
use Rattle.object_machine.specs.Settled.{named}
use Rattle.object_machine.specs.Standing.{activation_at}
use Rattle.object_machine.proofs.Going.{lt_true}
use Rattle.object_machine.proofs.ReadOperands.{values_count}
use Rattle.object_machine.proofs.VirtualRows.{when_holds}

module _ (l : Limits) (line : ℕ) (o : World) (m : Frames) (a : Activation) (below : List Activation) where
  abbrev pub CopyOf : Value → List Value → Run Machine
  CopyOf v st = copying_value Of plain ArrayValue array_in l line a.home TextCopied v o (λ v w. on w m a (v ∷ st) below)

  abbrev pub CopyOfTop : List Value → Run Machine
  CopyOfTop values = popping values o CopyOf

  abbrev Named : List Value → Run Machine
  Named values = performing operand put_back l line name.Copy values o m (λ p m value stack. on p m a (with_value value stack) below)

  module _ (t : TextVal) (st : List Value) where
    same_copy : Named (Of (Text t) ∷ st) ≡ CopyOfTop (Of (Text t) ∷ st)
    unfolding performing pop_operands popping having row_of standard_effect take_text take_nothing taking computing putting_back copying_value making_text
    same_copy = refl

    pub copies_as_named : a.stack ≡ Of (Text t) ∷ st → room_for name.Copy a ≡ true → CopyOfTop a.stack ≡ named l line name.Copy o m a below
    copies_as_named e room = sym (when_holds (room_for name.Copy a) o (Named a.stack) room ∙ ap Named e ∙ same_copy ∙ ap CopyOfTop (sym e))

  other_by : (j : SlotKind) (s : Slot) (st : List Value) → (j ≡ k.Text → ⊥) → CopyOf (value_by j s) st ≡ no_rule o
  unfolding copying_value having
  other_by k.Empty s st h = refl
  other_by k.Integer s st h = refl
  other_by k.Truth s st h = refl
  other_by k.Character s st h = refl
  other_by k.Text s st h = absurd (h refl)
  other_by k.Nothing s st h = refl
  other_by k.Object s st h = refl
  other_by k.Main s st h = refl
  other_by k.Link s st h = refl
  other_by k.Cell s st h = refl
  other_by k.Element s st h = refl
  other_by k.Image s st h = refl
  other_by k.Array s st h = refl
  other_by k.Procedure s st h = refl
  other_by k.Thunk s st h = refl

  pub no_text : (s : Slot) (st : List Value) → (s.kind ≡ k.Text → ⊥) → CopyOf (value_of s) st ≡ no_rule o
  no_text s st h = other_by s.kind s st h

-- what a slot with a text has
abbrev pub text_at : Slot → TextVal
text_at s = text_by (value_by k.Text s)
  where
    text_by : Value → TextVal
    text_by (Of (Text t)) = t
    text_by _ = record { text_frame = 0; start = 0; length = 0; pos = 0 }

pub is_text : (s : Slot) → s.kind ≡ k.Text → value_of s ≡ Of (Text (text_at s))
is_text s e = ap (λ j. value_by j s) e

-- a copy takes the place of its text
pub room_there : (r : Registers) (stack : List Slot) → r.depth ≤ length stack → room_for name.Copy (activation_at r stack) ≡ true
unfolding row_of
room_there r stack h =
    ap (λ n. nat_lt n (length stack + 1)) (values_count r.depth stack h) ∙ lt_true r.depth (length stack + 1) (omega (arith, h))

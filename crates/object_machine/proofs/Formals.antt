-- Parameters that are passed to a procedure in hand.
use Rattle.std.proofs.Common.{◌≡◌, ℕ, zero, suc, ◌-◌, ◌<◌, ◌≤◌, List, [], ◌∷◌, length, sym, subst, refl, ap, ◌∙◌, arith}
use Rattle.std.specs.Prelude.{true, false, if◌then◌else◌, Option, Some, None, slice_get}
use Rattle.sim_base.specs.declared.limits.Limits.{Limits}
use Rattle.sim_base.specs.declared.numbering.Line.{Line}
use Rattle.sim_base.specs.declared.run_error.RunError.{RunError}
use Rattle.sim_code.specs.declared.code.BlockKind.TheVariants as block
use Rattle.sim_code.specs.declared.code.CodeFormal.{CodeFormal}
use Rattle.sim_code.specs.Arrays.{copying_array}
use Rattle.sim_code.specs.Classes.{admitting}
use Rattle.sim_code.specs.Code.{BlockOf, CodeOf}
use Rattle.sim_code.specs.Events.{having, popping}
use Rattle.sim_code.specs.Formals.{ArrayCopied, Copied, NothingCopied, TextCopied, class_held, copied_for, copying_value, formal_in, formal_in_hand, of_procedure, passing, procedure_at, procedure_block}
use Rattle.sim_code.specs.Machine.{Activation, ArrayValue, Frames, Machine, Of, Value, array_in, at, on, plain, procedure_in, pushing, same_kind}
use Rattle.sim_code.specs.Outcome.{Ended, Going, Run, World}
use Rattle.frame_arena.specs.declared.slot.Slot.{Slot}
use Rattle.frame_arena.specs.Frames.{Leads}
use Rattle.frame_arena.specs.Slots.{value_of}
use Rattle.frame_arena.specs.Stacks.{slot_at, values_of}
use Rattle.object_machine.specs.declared.machine.Storage.{Storage}
use Rattle.object_machine.specs.declared.machine.Registers.{Registers}
use Rattle.object_machine.specs.declared.machine.Activation as working
use Rattle.object_machine.specs.declared.machine.Flow.{Flow}
use Rattle.object_machine.specs.declared.machine.Flow.TheVariants as flow
use Rattle.object_machine.specs.Standing.{Leaves, Outside, Row, Stands, activation_at}
use Rattle.object_machine.proofs.ArrayRows.{one_more}
use Rattle.object_machine.proofs.Going.{act}

-- ---- a value below others

no_values : (stack : List Slot) → values_of 0 stack ≡ []
no_values [] = refl
no_values (x ∷ xs) = refl

pub value_past : (depth n : ℕ) (stack : List Slot) → depth ≤ n → depth ≤ length stack → slice_get (values_of depth stack) n ≡ None
value_past zero n stack h f = ap (λ vs. slice_get vs n) (no_values stack)
value_past (suc d) zero stack h f = absurd (omega (arith, h))
value_past (suc d) (suc n) stack h f = ap (λ vs. slice_get vs (suc n)) (one_more d stack (omega (arith, f))) ∙ value_past d n stack (omega (arith, h)) (omega (arith, f))

pub value_below : (depth n : ℕ) (stack : List Slot) → n < depth → depth ≤ length stack → slice_get (values_of depth stack) n ≡ Some (value_of (slot_at stack (depth - 1 - n)))
value_below zero n stack h f = absurd (omega (arith, h))
value_below (suc d) zero stack h f =
    let e : d ≡ suc d - 1 - 0 = omega arith in
    ap (λ vs. slice_get vs 0) (one_more d stack (omega (arith, f))) ∙ ap (λ k. Some (value_of (slot_at stack k))) e
value_below (suc d) (suc n) stack h f =
    let e : d - 1 - n ≡ suc d - 1 - suc n = omega arith in
    ap (λ vs. slice_get vs (suc n)) (one_more d stack (omega (arith, f))) ∙ value_below d n stack (omega (arith, h)) (omega (arith, f)) ∙ ap (λ k. Some (value_of (slot_at stack k))) e

-- ---- the formal parameter in hand

module _ (code : CodeOf) (n : ℕ) (values : List Value) where
  abbrev Formal_of : Option Value → Option CodeFormal
  Formal_of v = formal_in n (procedure_block code (procedure_at v))

  pub no_value_there : slice_get values n ≡ None → None ≡ formal_in_hand code n values
  unfolding formal_in_hand
  no_value_there e = sym (ap Formal_of e)

  module _ (v : Value) (there : slice_get values n ≡ Some v) where
    pub no_procedure_there : None ≡ procedure_in v → None ≡ formal_in_hand code n values
    unfolding formal_in_hand
    no_procedure_there e = ap (λ q. formal_in n (procedure_block code q)) e ∙ sym (ap Formal_of there)

    module _ (q : ℕ × ℕ) (is : Some q ≡ procedure_in v) where
      abbrev Formal_in : Option BlockOf → Option CodeFormal
      Formal_in b = formal_in n (of_procedure b)

      found_by : Formal_in (slice_get code.blocks q.0) ≡ formal_in_hand code n values
      unfolding formal_in_hand
      found_by = ap (λ q. formal_in n (procedure_block code q)) is ∙ sym (ap Formal_of there)

      pub no_block_there : slice_get code.blocks q.0 ≡ None → None ≡ formal_in_hand code n values
      no_block_there e = sym (ap Formal_in e) ∙ found_by

      module _ (b : BlockOf) (e : slice_get code.blocks q.0 ≡ Some b) where
        pub other_kind_there : same_kind b.kind block.Procedure ≡ false → None ≡ formal_in_hand code n values
        other_kind_there h = sym (ap Formal_in e ∙ ap (λ k. formal_in n (if k then Some b else None)) h) ∙ found_by

        pub formal_there : same_kind b.kind block.Procedure ≡ true → (x : Option CodeFormal) → slice_get b.formals n ≡ x → x ≡ formal_in_hand code n values
        formal_there h x is2 = sym (ap Formal_in e ∙ ap (λ k. formal_in n (if k then Some b else None)) h ∙ is2) ∙ found_by

-- ---- the end of a step of another instruction

module _ (l : Limits) (line other : ℕ) (p : Storage) (r : Registers) (stack : List Slot) (below : List working.Activation) (before : Option (List ℕ)) (now : Outside) where
  pub elsewhere : (f : Flow) (run : Run Machine) → ((e : RunError) → f ≡ flow.Fault e → ⊥) → (f ≡ flow.Exhausted → ⊥) → Leaves f l line p r stack below before now run → Leaves f l other p r stack below before now run
  unfolding Leaves
  elsewhere flow.On (Going o s) h h2 x = x
  elsewhere flow.On (Ended o e) h h2 x = x
  elsewhere flow.Jumped (Going o s) h h2 x = x
  elsewhere flow.Jumped (Ended o e) h h2 x = x
  elsewhere flow.Normal (Going o s) h h2 x = x
  elsewhere flow.Normal (Ended o e) h h2 x = x
  elsewhere flow.NoRule (Going o s) h h2 x = x
  elsewhere flow.NoRule (Ended o e) h h2 x = x
  elsewhere flow.TickLimit (Going o s) h h2 x = x
  elsewhere flow.TickLimit (Ended o e) h h2 x = x
  elsewhere flow.Exhausted run h h2 x = absurd (h2 refl)
  elsewhere (flow.ExhaustedAt place) (Going o s) h h2 x = x
  elsewhere (flow.ExhaustedAt place) (Ended o e) h h2 x = x
  elsewhere (flow.Fault e) run h h2 x = absurd (h e refl)
  elsewhere (flow.FaultAt e place) (Going o s) h h2 x = x
  elsewhere (flow.FaultAt e place) (Ended o y) h h2 x = x
  elsewhere flow.Memory run h h2 x = tt
  elsewhere flow.WriteFault run h h2 x = x
  elsewhere flow.InputFault run h h2 x = tt

  pub fault_moves : (e : RunError) (place : Line) (run : Run Machine) → line ≡ place.0 → Leaves (flow.Fault e) l line p r stack below before now run → Leaves (flow.FaultAt e place) l other p r stack below before now run
  unfolding Leaves
  fault_moves e place (Going o s) same x = absurd x
  fault_moves e place (Ended o y) same x = subst (λ n. Leaves (flow.Fault e) l n p r stack below before now (Ended o y)) same x

  pub exhausted_moves : (place : Line) (run : Run Machine) → line ≡ place.0 → Leaves flow.Exhausted l line p r stack below before now run → Leaves (flow.ExhaustedAt place) l other p r stack below before now run
  unfolding Leaves
  exhausted_moves place (Going o s) same x = absurd x
  exhausted_moves place (Ended o y) same x = subst (λ n. Leaves flow.Exhausted l n p r stack below before now (Ended o y)) same x

-- ---- what is on top is copied

module _ (l : Limits) (line home : ℕ) (copied : Copied) (o : World) (m : Frames) (a : Activation) (below : List Activation) where
  abbrev pub CopiedOn : (pc : ℕ) → Value → List Value → Run Machine
  CopiedOn pc v st = copying_value Of plain ArrayValue array_in l line home copied v o (λ v w. at w m a pc (v ∷ st) below)

  abbrev pub CopiedTop : (pc : ℕ) → List Value → Run Machine
  CopiedTop pc values = popping values o (CopiedOn pc)

-- the value on top, and those below it
pub top_value : (depth : ℕ) (stack : List Slot) → 0 < depth → depth ≤ length stack → values_of depth stack ≡ value_of (slot_at stack (depth - 1)) ∷ values_of (depth - 1) stack
top_value zero stack h f = absurd (omega (arith, h))
top_value (suc d) stack h f = (let e : suc d - 1 ≡ d = omega arith in one_more d stack (omega (arith, f)) ∙ ap (λ k. value_of (slot_at stack k) ∷ values_of k stack) (sym e))

module _ (l : Limits) (line home : ℕ) (o : World) (m : Frames) (a : Activation) (below : List Activation) (pc : ℕ) (v : Value) (st values : List Value) (is : values ≡ v ∷ st) where
  pub nothing_copied : CopiedTop l line home NothingCopied o m a below pc values ≡ at o m a pc values below
  unfolding copying_value popping
  nothing_copied = ap (CopiedTop l line home NothingCopied o m a below pc) is ∙ ap (λ vs. at o m a pc vs below) (sym is)

module _ (l : Limits) (line : ℕ) (r : Registers) (stack : List Slot) (o : World) (m : Frames) (below : List Activation) (some : 0 < r.pc) where
  abbrev Before : Registers
  Before = record r { pc = r.pc - 1 }

  there_again : suc (r.pc - 1) ≡ r.pc
  there_again = omega (arith, some)

  abbrev Ahead : Copied → (pc : ℕ) → Run Machine
  Ahead copied pc = CopiedTop l line r.home.stamp copied o m (activation_at r stack) below pc (values_of r.depth stack)

  -- it is done as by an instruction in front of the place where the activation goes on
  pub array_copied : popping (values_of r.depth stack) o (λ v st. having (array_in v) o (λ array. copying_array l line r.home.stamp array o (λ copy w. on w m (activation_at Before stack) (ArrayValue copy ∷ st) below))) ≡ Ahead ArrayCopied r.pc
  unfolding copying_value
  array_copied = ap (Ahead ArrayCopied) there_again

  pub text_copied : popping (values_of r.depth stack) o (λ v st. copying_value Of plain ArrayValue array_in l line r.home.stamp TextCopied v o (λ v w. on w m (activation_at Before stack) (v ∷ st) below)) ≡ Ahead TextCopied r.pc
  text_copied = ap (Ahead TextCopied) there_again

-- the rows that copy what is on top
abbrev pub text_row : Limits → (line : ℕ) → Row
text_row l line o m a b = popping a.stack o (λ v st. copying_value Of plain ArrayValue array_in l line a.home TextCopied v o (λ v w. on w m a (v ∷ st) b))

abbrev pub array_row : Limits → (line : ℕ) → Row
array_row l line o m a b = popping a.stack o (λ v st. having (array_in v) o (λ array. copying_array l line a.home array o (λ copy w. on w m a (ArrayValue copy ∷ st) b)))

-- the same activation in front of that place
pub stands_before : (l : Limits) (p : Storage) (r r2 : Registers) (stack : List Slot) (below : List working.Activation) (before : Option (List ℕ)) (now : Outside) (o : World) (m : Frames) → r2.home ≡ r.home → Stands l p r stack below before now o m → Stands l p r2 stack below before now o m
stands_before l p r r2 stack below before now o m e s = record {
  stores = s.stores;
  top = record { home = subst (λ f. Leads p.frames.items m f) (sym e) s.top.home; slots = s.top.slots; arrays_lead = s.top.arrays_lead };
  others = s.others;
}

-- ---- a parameter is passed

module _ (code : CodeOf) (l : Limits) (line : ℕ) (f : CodeFormal) (r : Registers) (stack : List Slot) (below : List Activation) (v : Value) (o : World) (m : Frames) where
  abbrev pub Room : Run Machine
  Room = pushing (length stack) (values_of r.depth stack) v o (CopiedTop l line r.home.stamp (copied_for f) o m (activation_at r stack) below r.pc)

  pub passing_is : passing code l line f (activation_at r stack) below v o m ≡ admitting code m line (class_held f) v o Room
  unfolding passing pushing popping
  passing_is = refl

  -- the activation has its value then
  pub room_same : (r2 : Registers) (stack2 : List Slot) (values : List Value) → r2 ≡ record r { depth = r2.depth } → length stack2 ≡ length stack →
      CopiedTop l line r.home.stamp (copied_for f) o m (activation_at r stack) below r.pc values ≡ CopiedTop l line r2.home.stamp (copied_for f) o m (activation_at r2 stack2) below r2.pc values
  room_same r2 stack2 values e long =
      ap (λ n. popping values o (λ v st. copying_value Of plain ArrayValue array_in l line r.home.stamp (copied_for f) v o (λ v w. Going w (record { chain = act r.thunk r.home.stamp r.pc (v ∷ st) n r.stage ∷ below; memory = m })))) (sym long)
      ∙ ap (λ q. popping values o (λ v st. copying_value Of plain ArrayValue array_in l line q.home.stamp (copied_for f) v o (λ v w. Going w (record { chain = act q.thunk q.home.stamp q.pc (v ∷ st) (length stack2) q.stage ∷ below; memory = m })))) (sym e)

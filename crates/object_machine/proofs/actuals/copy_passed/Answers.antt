use Rattle.std.proofs.Common.{rules, ◌-◌, length, refl, sym, ap, ◌∙◌}
use Rattle.std.proofs.lemmas.List.{with_items_is, places}
use Rattle.frame_arena.specs.Slots.{value_of}
use Rattle.frame_arena.specs.Stacks.{slot_at, values_of}
use Rattle.object_machine.specs.declared.machine.Flow.TheVariants as flow
use Rattle.object_machine.specs.Copying.{copied_as}
use Rattle.object_machine.specs.Standing.{Obeys, activation_at, below_of}
use Rattle.object_machine.proofs.Formals.{CopiedTop, array_copied, array_row, nothing_copied, stands_before, text_copied, text_row, top_value}
use Rattle.object_machine.proofs.Going.{along, goes_on, obeys_stacks}
use Rattle.object_machine.proofs.actuals.copy_passed.Goals as goal

pub returns-in-Nothing-clause-row : goal.returns-in-Nothing-clause-row
returns-in-Nothing-clause-row c other below before now o m s =
    let l = c.args.limits.now in
    let p = c.args.storage.now in
    let r = c.args.waiting.now.registers in
    let stack = c.args.waiting.now.stack.items in
    let a = activation_at r stack in
    let top = top_value r.depth stack c.requires.some c.requires.fits in
    along l other p below before now _ r stack _ _
    (ap (λ q. CopiedTop l c.args.line.0 r.home.stamp (copied_as q) o m a (below_of below) r.pc (values_of r.depth stack)) c.in-Nothing.is
    ∙ nothing_copied l c.args.line.0 r.home.stamp o m a (below_of below) r.pc (value_of (slot_at stack (r.depth - 1))) (values_of (r.depth - 1) stack) (values_of r.depth stack) top)
    (goes_on l other p below before now r r stack stack o m r.pc (values_of r.depth stack) (length stack) s (refl, refl, refl) s.top.slots s.top.arrays_lead refl refl refl)

pub returns-in-Text-clause-row : goal.returns-in-Text-clause-row
unfolding Obeys
returns-in-Text-clause-row c other below before now o m s =
    let l = c.args.limits.now in
    let line = c.args.line.0 in
    let p = c.args.storage.now in
    let w = c.args.waiting.now in
    let r = w.registers in
    let r1 = record r { pc = r.pc - 1 } in
    let stack = w.stack.items in
    let a = activation_at r stack in
    let done = c.copy_text-flow in
    c.at_line.ensures l other done.new.storage done.new.regs _ below before now _
    (along l line _ below before now _ _ _ _ _
    (ap (λ q. CopiedTop l line r.home.stamp (copied_as q) o m a (below_of below) r.pc (values_of r.depth stack)) c.in-Text.is ∙ sym (text_copied l line r stack o m (below_of below) c.requires.waits))
    (obeys_stacks done.result l line (text_row l line) p done.new.storage r1 done.new.regs _ stack _ _ below below now now c.deref_mut.ensures.value (with_items_is w.stack done.new.stack (search (rules, places)))
    (done.ensures.row line below now) before o m (stands_before l p r r1 stack below before now o m refl s)))

pub returns-in-Array-clause-row : goal.returns-in-Array-clause-row
unfolding Obeys
returns-in-Array-clause-row c other below before now o m s =
    let l = c.args.limits.now in
    let line = c.args.line.0 in
    let p = c.args.storage.now in
    let w = c.args.waiting.now in
    let r = w.registers in
    let r1 = record r { pc = r.pc - 1 } in
    let stack = w.stack.items in
    let a = activation_at r stack in
    let done = c.copy_array-flow in
    c.at_line-in-Array.ensures l other done.new.storage done.new.regs _ below before now _
    (along l line _ below before now _ _ _ _ _
    (ap (λ q. CopiedTop l line r.home.stamp (copied_as q) o m a (below_of below) r.pc (values_of r.depth stack)) c.in-Array.is ∙ sym (array_copied l line r stack o m (below_of below) c.requires.waits))
    (obeys_stacks done.result l line (array_row l line) p done.new.storage r1 done.new.regs _ stack _ _ below below now now c.deref_mut-in-Array.ensures.value (with_items_is w.stack done.new.stack (search (rules, places)))
    (done.ensures.row line below now) before o m (stands_before l p r r1 stack below before now o m refl s)))

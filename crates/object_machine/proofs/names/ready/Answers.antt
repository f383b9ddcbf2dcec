use Rattle.std.proofs.Common.{◌∙◌, ◌<◌, ◌≤◌, ◌-◌, inl, inr, ap, sym, subst}
use Rattle.frame_arena.specs.Frames.{AllLead, Holds}
use Rattle.object_machine.specs.Operands.{AllRead, OneUnread, first_slot}
use Rattle.object_machine.proofs.names.ready.Goals as goal

pub returns-then-depth-count-clause-read : goal.returns-then-depth-count-clause-read
returns-then-depth-count-clause-read c o m source held arrays ports lead arrays_lead = inl (subst (λ n. c.args.depth < n) c.operand_count-count.ensures.count c.if-depth-count.true)

pub returns-then-read_operands-clause-read : goal.returns-then-read_operands-clause-read
returns-then-read_operands-clause-read c o m source held arrays ports lead arrays_lead =
    let p = c.args.storage.now in
    let d = c.args.depth in
    let stack = c.args.stack.now in
    let ef = sym c.deref.ensures.value in
    let holds : Holds c.deref.result.now c.deref-2.result.now m = subst (λ x. Holds c.deref.result.now x m) (sym c.deref-2.ensures.value) (subst (λ x. Holds x p.cells.items m) ef held) in
    let leading : AllLead c.deref.result.now m stack = subst (λ x. AllLead x m stack) ef lead in
    let count = c.operand_count-count.ensures.count in (
      subst (λ n. n ≤ d) count c.if-depth-count.false,
      c.first_operand-address.ensures ∙ ap (λ k. first_slot k d stack) count,
      subst (λ n. AllRead o m (d - n) d stack c.read_operands.new.stack) count (c.if-read_operands.ensures.read o m source holds arrays ports leading arrays_lead),
    )

pub returns-clause-read : goal.returns-clause-read
returns-clause-read c o m source held arrays ports lead arrays_lead =
    let p = c.args.storage.now in
    let d = c.args.depth in
    let stack = c.args.stack.now in
    let ef = sym c.deref.ensures.value in
    let holds : Holds c.deref.result.now c.deref-2.result.now m = subst (λ x. Holds c.deref.result.now x m) (sym c.deref-2.ensures.value) (subst (λ x. Holds x p.cells.items m) ef held) in
    let leading : AllLead c.deref.result.now m stack = subst (λ x. AllLead x m stack) ef lead in
    let count = c.operand_count-count.ensures.count in
    inr (subst (λ n. n ≤ d) count c.if-depth-count.false, subst (λ n. OneUnread o m (d - n) d stack) count (c.if-read_operands.ensures.read o m source holds arrays ports leading arrays_lead))

pub returns-then-read_operands-clause-leads : goal.returns-then-read_operands-clause-leads
returns-then-read_operands-clause-leads c m lead =
    let ef = c.deref.ensures.value in
    subst (λ x. AllLead x m c.read_operands.new.stack) ef (c.if-read_operands.ensures.leads m (subst (λ x. AllLead x m c.args.stack.now) (sym ef) lead))

pub returns-clause-leads : goal.returns-clause-leads
returns-clause-leads c m lead =
    let ef = c.deref.ensures.value in
    subst (λ x. AllLead x m c.read_operands.new.stack) ef (c.if-read_operands.ensures.leads m (subst (λ x. AllLead x m c.args.stack.now) (sym ef) lead))

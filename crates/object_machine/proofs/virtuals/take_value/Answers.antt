use Rattle.std.proofs.Common.{rules, to_z, of_z, w64, ◌≡◌, ◌∙◌, ap, refl}
use Rattle.sim_code.specs.Instances.{is_live}
use Rattle.sim_code.specs.Machine.{number, procedure_in}
use Rattle.frame_arena.specs.Slots.{value_of}
use Rattle.frame_arena.specs.Stacks.{slot_at, values_from, values_of}
use Rattle.object_machine.proofs.Called.{live_there, not_true}
use Rattle.object_machine.proofs.Having.{having_none, having_some}
use Rattle.object_machine.proofs.StageRows.{index_is, index_none}
use Rattle.object_machine.proofs.VirtualRows.{InHand, ValueBelow, ValuesOver, when_fails, when_holds}
use Rattle.object_machine.proofs.virtuals.take_value.Goals as goal

pub returns-in_default-clause-row : goal.returns-in_default-clause-row
returns-in_default-clause-row c cells m o go h all =
    let z = c.args.operand in
    let ez : to_z w64 (of_z w64 z) ≡ z = search rules in
    let vs = values_of c.args.depth c.args.stack.now in
    index_none z o (ValuesOver m z vs o go) (c.in_default.ensures ∙ ap number ez)

pub returns-in_default-pop_values-clause-row : goal.returns-in_default-pop_values-clause-row
returns-in_default-pop_values-clause-row c cells m o go h all =
    let z = c.args.operand in
    let ez : to_z w64 (of_z w64 z) ≡ z = search rules in
    let vs = values_of c.args.depth c.args.stack.now in
    index_is z c.in-Some.count o (ValuesOver m z vs o go) (c.in-Some.ensures ∙ ap number ez) ∙ c.in_default-pop_values.ensures.row o (λ xs rest. ValueBelow m z vs o go xs rest)

pub returns-in_default-pop-clause-row : goal.returns-in_default-pop-clause-row
returns-in_default-pop-clause-row c cells m o go h all =
    let z = c.args.operand in
    let ez : to_z w64 (of_z w64 z) ≡ z = search rules in
    let vs = values_of c.args.depth c.args.stack.now in
    index_is z c.in-Some.count o (ValuesOver m z vs o go) (c.in-Some.ensures ∙ ap number ez) ∙ c.in-Some-pop_values.ensures.row o (λ xs rest. ValueBelow m z vs o go xs rest) ∙ c.in_default-pop.ensures.row o _

pub returns-in_default-procedure_in-clause-row : goal.returns-in_default-procedure_in-clause-row
returns-in_default-procedure_in-clause-row c cells m o go h all =
    let z = c.args.operand in
    let ez : to_z w64 (of_z w64 z) ≡ z = search rules in
    let vs = values_of c.args.depth c.args.stack.now in
    let under = c.in-Some-pop.under in
    let xs = values_from c.args.stack.now c.in-Some-pop_values.at c.in-Some.count in
    let rest = values_of under c.args.stack.now in
    index_is z c.in-Some.count o (ValuesOver m z vs o go) (c.in-Some.ensures ∙ ap number ez) ∙ c.in-Some-pop_values.ensures.row o (λ xs rest. ValueBelow m z vs o go xs rest) ∙ c.in-Some-pop.ensures.row o _
    ∙ having_none (procedure_in (value_of (slot_at c.args.stack.now under))) o (λ q. InHand m z vs o go xs rest q) c.in_default-procedure_in.ensures.is

pub returns-in_default-find-clause-row : goal.returns-in_default-find-clause-row
returns-in_default-find-clause-row c cells m o go h all =
    let z = c.args.operand in
    let ez : to_z w64 (of_z w64 z) ≡ z = search rules in
    let vs = values_of c.args.depth c.args.stack.now in
    let under = c.in-Some-pop.under in
    let xs = values_from c.args.stack.now c.in-Some-pop_values.at c.in-Some.count in
    let rest = values_of under c.args.stack.now in
    let held = c.in-Some-procedure_in.procedure in
    let gone = not_true (is_live m held.parent.stamp) (c.in_default-find.ensures.gone m (c.in-Some-procedure_in.ensures.leads c.args.frames.now m (all under)) refl) in
    index_is z c.in-Some.count o (ValuesOver m z vs o go) (c.in-Some.ensures ∙ ap number ez) ∙ c.in-Some-pop_values.ensures.row o (λ xs rest. ValueBelow m z vs o go xs rest) ∙ c.in-Some-pop.ensures.row o _
    ∙ having_some (procedure_in (value_of (slot_at c.args.stack.now under))) (held.block, held.parent.stamp) o (λ q. InHand m z vs o go xs rest q) c.in-Some-procedure_in.ensures.is
    ∙ when_fails (is_live m held.parent.stamp) o (go xs rest (held.block, held.parent.stamp)) gone

pub returns-clause-row : goal.returns-clause-row
returns-clause-row c cells m o go h all =
    let z = c.args.operand in
    let ez : to_z w64 (of_z w64 z) ≡ z = search rules in
    let vs = values_of c.args.depth c.args.stack.now in
    let under = c.in-Some-pop.under in
    let xs = values_from c.args.stack.now c.in-Some-pop_values.at c.in-Some.count in
    let rest = values_of under c.args.stack.now in
    let held = c.in-Some-procedure_in.procedure in
    let live = live_there c.args.frames.now cells m c.in-Some-find._place held.parent.stamp h c.in-Some-find.ensures.there in
    index_is z c.in-Some.count o (ValuesOver m z vs o go) (c.in-Some.ensures ∙ ap number ez) ∙ c.in-Some-pop_values.ensures.row o (λ xs rest. ValueBelow m z vs o go xs rest) ∙ c.in-Some-pop.ensures.row o _
    ∙ having_some (procedure_in (value_of (slot_at c.args.stack.now under))) (held.block, held.parent.stamp) o (λ q. InHand m z vs o go xs rest q) c.in-Some-procedure_in.ensures.is
    ∙ when_holds (is_live m held.parent.stamp) o (go xs rest (held.block, held.parent.stamp)) live

pub returns-clause-leads : goal.returns-clause-leads
returns-clause-leads c cells m h all = c.in-Some-procedure_in.ensures.leads c.args.frames.now m (all c.in-Some-pop.under)

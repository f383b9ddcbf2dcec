use Rattle.std.proofs.Common.{rules, to_z, of_z, w64, ◌≡◌, ℕ, ap, sym, ◌∙◌}
use Rattle.std.proofs.lemmas.List.{with_items_is, places}
use Rattle.std.specs.Prelude.{Some, None}
use Rattle.sim_code.specs.declared.code.CodeFormal.{CodeFormal}
use Rattle.sim_code.specs.Events.{choosing, having}
use Rattle.sim_code.specs.Formals.{formal_in_hand, is_by_name, running_thunk, thunk_for}
use Rattle.sim_code.specs.Machine.{Machine, number}
use Rattle.sim_code.specs.Outcome.{Run}
use Rattle.sim_code.specs.Rows.{thunk_pushed}
use Rattle.frame_arena.specs.Stacks.{values_of}
use Rattle.object_machine.specs.Standing.{Obeys, activation_at, below_of}
use Rattle.object_machine.proofs.Going.{along, chosen, no_rule_in, obeys_stacks, other_chosen}
use Rattle.object_machine.proofs.Having.{having_none, having_some}
use Rattle.object_machine.proofs.StageRows.{index_is, index_none}
use Rattle.object_machine.proofs.actuals.pass_parameter.Goals as goal

pub returns-in_default-clause-row : goal.returns-in_default-clause-row
unfolding Obeys
returns-in_default-clause-row c code l line now eb ei et before o m s =
    let en : to_z w64 (of_z w64 c.args.formal_operand) ≡ c.args.formal_operand = search rules in
    let ev : to_z w64 (of_z w64 c.args.value) ≡ c.args.value = search rules in
    let ep : to_z w64 (of_z w64 c.args.procedure) ≡ c.args.procedure = search rules in
    let p = c.args.storage.now in
    let r = c.args.top.now.registers in
    let stack = c.args.top.now.stack.items in
    let below = c.args.below.now.items in
    let a = activation_at r stack in
    let under = below_of below in
    let Then : CodeFormal → Run Machine = λ f. choosing (is_by_name f.mode) (thunk_pushed code o m a under (thunk_for f.shape c.args.value c.args.procedure)) (running_thunk code o m a under (thunk_for f.shape c.args.value c.args.procedure)) in
    let R : ℕ → Run Machine = λ n. having (formal_in_hand code n (values_of r.depth stack)) o Then in
    no_rule_in l line p p below before now r r stack stack o m s (index_none c.args.formal_operand o R (c.in_default.ensures ∙ ap number en))

pub returns-in_default-formal_in_hand-clause-row : goal.returns-in_default-formal_in_hand-clause-row
unfolding Obeys
returns-in_default-formal_in_hand-clause-row c code l line now eb ei et before o m s =
    let en : to_z w64 (of_z w64 c.args.formal_operand) ≡ c.args.formal_operand = search rules in
    let ev : to_z w64 (of_z w64 c.args.value) ≡ c.args.value = search rules in
    let ep : to_z w64 (of_z w64 c.args.procedure) ≡ c.args.procedure = search rules in
    let p = c.args.storage.now in
    let r = c.args.top.now.registers in
    let stack = c.args.top.now.stack.items in
    let below = c.args.below.now.items in
    let a = activation_at r stack in
    let under = below_of below in
    let Then : CodeFormal → Run Machine = λ f. choosing (is_by_name f.mode) (thunk_pushed code o m a under (thunk_for f.shape c.args.value c.args.procedure)) (running_thunk code o m a under (thunk_for f.shape c.args.value c.args.procedure)) in
    let R : ℕ → Run Machine = λ n. having (formal_in_hand code n (values_of r.depth stack)) o Then in
    let n = c.in-Some.number in
    let named = index_is c.args.formal_operand n o R (c.in-Some.ensures ∙ ap number en) in
    let is : None ≡ formal_in_hand code n (values_of r.depth stack) = c.in_default-formal_in_hand.ensures.row code eb ∙ ap (λ xs. formal_in_hand code n (values_of r.depth xs)) c.deref.ensures.value in
    no_rule_in l line p p below before now r r stack stack o m s (named ∙ having_none (formal_in_hand code n (values_of r.depth stack)) o Then is)

pub returns-then-is_by_name-clause-row : goal.returns-then-is_by_name-clause-row
unfolding Obeys
returns-then-is_by_name-clause-row c code l line now eb ei et before o m s =
    let en : to_z w64 (of_z w64 c.args.formal_operand) ≡ c.args.formal_operand = search rules in
    let ev : to_z w64 (of_z w64 c.args.value) ≡ c.args.value = search rules in
    let ep : to_z w64 (of_z w64 c.args.procedure) ≡ c.args.procedure = search rules in
    let p = c.args.storage.now in
    let r = c.args.top.now.registers in
    let stack = c.args.top.now.stack.items in
    let below = c.args.below.now.items in
    let a = activation_at r stack in
    let under = below_of below in
    let Then : CodeFormal → Run Machine = λ f. choosing (is_by_name f.mode) (thunk_pushed code o m a under (thunk_for f.shape c.args.value c.args.procedure)) (running_thunk code o m a under (thunk_for f.shape c.args.value c.args.procedure)) in
    let R : ℕ → Run Machine = λ n. having (formal_in_hand code n (values_of r.depth stack)) o Then in
    let n = c.in-Some.number in
    let named = index_is c.args.formal_operand n o R (c.in-Some.ensures ∙ ap number en) in
    let f = c.in-Some-formal_in_hand.formal in
    let is : Some f ≡ formal_in_hand code n (values_of r.depth stack) = c.in-Some-formal_in_hand.ensures.row code eb ∙ ap (λ xs. formal_in_hand code n (values_of r.depth xs)) c.deref.ensures.value in
    let found = named ∙ having_some (formal_in_hand code n (values_of r.depth stack)) f o Then is in
    let ez : to_z w64 (of_z w64 c.thunk_for-operand.result) ≡ c.thunk_for-operand.result = search rules in
    let z = to_z w64 (of_z w64 c.thunk_for-operand.result) in
    let for = ap (λ z. thunk_for f.shape z c.args.procedure) (sym ev) ∙ ap (λ z. thunk_for f.shape (to_z w64 (of_z w64 c.args.value)) z) (sym ep) ∙ sym c.thunk_for-operand.ensures ∙ sym ez in
    along l line p below before now _ _ _ _ _
    (found ∙ chosen (is_by_name f.mode) _ _ (sym c.is_by_name.ensures ∙ c.if-is_by_name.true) ∙ ap (thunk_pushed code o m a under) for)
    (obeys_stacks c.push_thunk.result l line (λ o m a b. thunk_pushed code o m a b z) p p r _ _ stack _ _ below below now now c.deref_mut.ensures.value (with_items_is c.args.top.now.stack c.push_thunk.new.stack (search (rules, places)))
    (c.push_thunk.ensures.row code l line p below now et) before o m s)

pub returns-clause-row : goal.returns-clause-row
unfolding Obeys
returns-clause-row c code l line now eb ei et before o m s =
    let en : to_z w64 (of_z w64 c.args.formal_operand) ≡ c.args.formal_operand = search rules in
    let ev : to_z w64 (of_z w64 c.args.value) ≡ c.args.value = search rules in
    let ep : to_z w64 (of_z w64 c.args.procedure) ≡ c.args.procedure = search rules in
    let p = c.args.storage.now in
    let r = c.args.top.now.registers in
    let stack = c.args.top.now.stack.items in
    let below = c.args.below.now.items in
    let a = activation_at r stack in
    let under = below_of below in
    let Then : CodeFormal → Run Machine = λ f. choosing (is_by_name f.mode) (thunk_pushed code o m a under (thunk_for f.shape c.args.value c.args.procedure)) (running_thunk code o m a under (thunk_for f.shape c.args.value c.args.procedure)) in
    let R : ℕ → Run Machine = λ n. having (formal_in_hand code n (values_of r.depth stack)) o Then in
    let n = c.in-Some.number in
    let named = index_is c.args.formal_operand n o R (c.in-Some.ensures ∙ ap number en) in
    let f = c.in-Some-formal_in_hand.formal in
    let is : Some f ≡ formal_in_hand code n (values_of r.depth stack) = c.in-Some-formal_in_hand.ensures.row code eb ∙ ap (λ xs. formal_in_hand code n (values_of r.depth xs)) c.deref.ensures.value in
    let found = named ∙ having_some (formal_in_hand code n (values_of r.depth stack)) f o Then is in
    let ez : to_z w64 (of_z w64 c.thunk_for-operand.result) ≡ c.thunk_for-operand.result = search rules in
    let z = to_z w64 (of_z w64 c.thunk_for-operand.result) in
    let for = ap (λ z. thunk_for f.shape z c.args.procedure) (sym ev) ∙ ap (λ z. thunk_for f.shape (to_z w64 (of_z w64 c.args.value)) z) (sym ep) ∙ sym c.thunk_for-operand.ensures ∙ sym ez in
    along l line _ _ before now _ _ _ _ _
    (found ∙ other_chosen (is_by_name f.mode) _ _ (sym c.is_by_name.ensures ∙ c.if-is_by_name.false) ∙ ap (running_thunk code o m a under) for)
    (c.run_thunk.ensures.row code l line now ei et before o m s)

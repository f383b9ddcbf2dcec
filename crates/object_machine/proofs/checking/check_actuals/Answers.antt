use Rattle.std.proofs.Common.{rules, to_z, of_z, w64, ◌≡◌, ℕ, ap, sym, ◌∙◌}
use Rattle.std.specs.Prelude.{Some, true, slice_get}
use Rattle.sim_code.specs.declared.code.BlockKind.TheVariants as block
use Rattle.sim_code.specs.Machine.{number, procedure_in, same_kind}
use Rattle.frame_arena.specs.Slots.{value_of}
use Rattle.frame_arena.specs.Stacks.{slot_at}
use Rattle.sim_code.specs.Code.{BlockOf}
use Rattle.object_machine.specs.Checking.{held_against}
use Rattle.object_machine.specs.Standing.{Obeys, activation_at, below_of}
use Rattle.object_machine.proofs.Going.{along, no_rule_in}
use Rattle.object_machine.proofs.Having.{having_none, having_some}
use Rattle.object_machine.proofs.Jumps.{found_at, none_at}
use Rattle.object_machine.proofs.StageRows.{index_is, index_none}
use Rattle.object_machine.proofs.VirtualRows.{Held, HeldList, HeldValue, checking_is, when_fails, when_holds}
use Rattle.object_machine.proofs.checking.check_actuals.Goals as goal

pub returns-in_default-clause-row : goal.returns-in_default-clause-row
unfolding Obeys
returns-in_default-clause-row c code l line p below now eb ec el ef before o m s =
    let en : to_z w64 (of_z w64 c.args.operand) ≡ c.args.operand = search rules in
    let a = activation_at c.args.regs.now c.args.stack.now in
    let under = below_of below in
    no_rule_in l line p p below before now _ _ _ _ o m s (checking_is code o m a under line c.args.operand ∙ index_none c.args.operand o (HeldList code o m a under line) (c.in_default.ensures ∙ ap number en))

pub returns-in_default-get-clause-row : goal.returns-in_default-get-clause-row
unfolding Obeys
returns-in_default-get-clause-row c code l line p below now eb ec el ef before o m s =
    let en : to_z w64 (of_z w64 c.args.operand) ≡ c.args.operand = search rules in
    let a = activation_at c.args.regs.now c.args.stack.now in
    let under = below_of below in
    let n = c.in-Some.number in
    let named = checking_is code o m a under line c.args.operand ∙ index_is c.args.operand n o (HeldList code o m a under line) (c.in-Some.ensures ∙ ap number en) in
    no_rule_in l line p p below before now _ _ _ _ o m s (named ∙ having_none (slice_get code.actual_lists n) o _ (sym (ap (λ v. slice_get v n) el ∙ none_at c.args.lists.now n c.in_default-get.ensures.lookup.3)))

pub returns-in_default-pop-clause-row : goal.returns-in_default-pop-clause-row
unfolding Obeys
returns-in_default-pop-clause-row c code l line p below now eb ec el ef before o m s =
    let en : to_z w64 (of_z w64 c.args.operand) ≡ c.args.operand = search rules in
    let a = activation_at c.args.regs.now c.args.stack.now in
    let under = below_of below in
    let n = c.in-Some.number in
    let list = c.in-Some-get.list.now in
    let named = checking_is code o m a under line c.args.operand ∙ index_is c.args.operand n o (HeldList code o m a under line) (c.in-Some.ensures ∙ ap number en) in
    let listed = named ∙ having_some (slice_get code.actual_lists n) list o _ (sym (ap (λ v. slice_get v n) el ∙ found_at c.args.lists.now n list c.in-Some-get.ensures.lookup.3.0 c.in-Some-get.ensures.lookup.1)) in
    no_rule_in l line p p below before now _ _ _ _ o m s (listed ∙ c.in_default-pop.ensures.row o (HeldValue code o m a under line list))

pub returns-in_default-procedure_in-clause-row : goal.returns-in_default-procedure_in-clause-row
unfolding Obeys
returns-in_default-procedure_in-clause-row c code l line p below now eb ec el ef before o m s =
    let en : to_z w64 (of_z w64 c.args.operand) ≡ c.args.operand = search rules in
    let stack = c.args.stack.now in
    let a = activation_at c.args.regs.now stack in
    let under = below_of below in
    let n = c.in-Some.number in
    let list = c.in-Some-get.list.now in
    let named = checking_is code o m a under line c.args.operand ∙ index_is c.args.operand n o (HeldList code o m a under line) (c.in-Some.ensures ∙ ap number en) in
    let listed = named ∙ having_some (slice_get code.actual_lists n) list o _ (sym (ap (λ v. slice_get v n) el ∙ found_at c.args.lists.now n list c.in-Some-get.ensures.lookup.3.0 c.in-Some-get.ensures.lookup.1)) in
    let popped = listed ∙ c.in-Some-pop.ensures.row o (HeldValue code o m a under line list) in
    no_rule_in l line p p below before now _ _ _ _ o m s (popped ∙ having_none (procedure_in (value_of (slot_at stack c.in-Some-pop.at))) o _ c.in_default-procedure_in.ensures.is)

pub returns-in_default-get-2-clause-row : goal.returns-in_default-get-2-clause-row
unfolding Obeys
returns-in_default-get-2-clause-row c code l line p below now eb ec el ef before o m s =
    let en : to_z w64 (of_z w64 c.args.operand) ≡ c.args.operand = search rules in
    let stack = c.args.stack.now in
    let a = activation_at c.args.regs.now stack in
    let under = below_of below in
    let n = c.in-Some.number in
    let list = c.in-Some-get.list.now in
    let named = checking_is code o m a under line c.args.operand ∙ index_is c.args.operand n o (HeldList code o m a under line) (c.in-Some.ensures ∙ ap number en) in
    let listed = named ∙ having_some (slice_get code.actual_lists n) list o _ (sym (ap (λ v. slice_get v n) el ∙ found_at c.args.lists.now n list c.in-Some-get.ensures.lookup.3.0 c.in-Some-get.ensures.lookup.1)) in
    let popped = listed ∙ c.in-Some-pop.ensures.row o (HeldValue code o m a under line list) in
    let k : ℕ = c.in-Some-procedure_in.procedure.block in
    let held = popped ∙ having_some (procedure_in (value_of (slot_at stack c.in-Some-pop.at))) (k, c.in-Some-procedure_in.procedure.parent.stamp) o _ c.in-Some-procedure_in.ensures.is in
    no_rule_in l line p p below before now _ _ _ _ o m s (held ∙ having_none (slice_get code.blocks k) o _ (sym (ap (λ v. slice_get v k) eb ∙ none_at c.args.blocks.now k c.in_default-get-2.ensures.lookup.3)))

pub returns-then-not-same_kind-clause-row : goal.returns-then-not-same_kind-clause-row
unfolding Obeys
returns-then-not-same_kind-clause-row c code l line p below now eb ec el ef before o m s =
    let en : to_z w64 (of_z w64 c.args.operand) ≡ c.args.operand = search rules in
    let stack = c.args.stack.now in
    let a = activation_at c.args.regs.now stack in
    let under = below_of below in
    let n = c.in-Some.number in
    let list = c.in-Some-get.list.now in
    let named = checking_is code o m a under line c.args.operand ∙ index_is c.args.operand n o (HeldList code o m a under line) (c.in-Some.ensures ∙ ap number en) in
    let listed = named ∙ having_some (slice_get code.actual_lists n) list o _ (sym (ap (λ v. slice_get v n) el ∙ found_at c.args.lists.now n list c.in-Some-get.ensures.lookup.3.0 c.in-Some-get.ensures.lookup.1)) in
    let popped = listed ∙ c.in-Some-pop.ensures.row o (HeldValue code o m a under line list) in
    let k : ℕ = c.in-Some-procedure_in.procedure.block in
    let held = popped ∙ having_some (procedure_in (value_of (slot_at stack c.in-Some-pop.at))) (k, c.in-Some-procedure_in.procedure.parent.stamp) o _ c.in-Some-procedure_in.ensures.is in
    let b = c.in-Some-get-2.block.now in
    let there = held ∙ having_some (slice_get code.blocks k) b o _ (sym (ap (λ v. slice_get v k) eb ∙ found_at c.args.blocks.now k b c.in-Some-get-2.ensures.lookup.3.0 c.in-Some-get-2.ensures.lookup.1)) in
    no_rule_in l line p p below before now _ _ _ _ o m s (there ∙ when_fails (same_kind b.kind block.Procedure) o (Held code o m a under line list (k, c.in-Some-procedure_in.procedure.parent.stamp) b) (ap (λ b. same_kind b.kind block.Procedure) (sym c.block.view_is) ∙ sym c.same_kind.ensures ∙ c.if-not-same_kind.true))

pub returns-clause-row : goal.returns-clause-row
unfolding Obeys
returns-clause-row c code l line p below now eb ec el ef before o m s =
    let en : to_z w64 (of_z w64 c.args.operand) ≡ c.args.operand = search rules in
    let stack = c.args.stack.now in
    let a = activation_at c.args.regs.now stack in
    let under = below_of below in
    let n = c.in-Some.number in
    let list = c.in-Some-get.list.now in
    let named = checking_is code o m a under line c.args.operand ∙ index_is c.args.operand n o (HeldList code o m a under line) (c.in-Some.ensures ∙ ap number en) in
    let listed = named ∙ having_some (slice_get code.actual_lists n) list o _ (sym (ap (λ v. slice_get v n) el ∙ found_at c.args.lists.now n list c.in-Some-get.ensures.lookup.3.0 c.in-Some-get.ensures.lookup.1)) in
    let popped = listed ∙ c.in-Some-pop.ensures.row o (HeldValue code o m a under line list) in
    let k : ℕ = c.in-Some-procedure_in.procedure.block in
    let held = popped ∙ having_some (procedure_in (value_of (slot_at stack c.in-Some-pop.at))) (k, c.in-Some-procedure_in.procedure.parent.stamp) o _ c.in-Some-procedure_in.ensures.is in
    let b = c.in-Some-get-2.block.now in
    let there = held ∙ having_some (slice_get code.blocks k) b o _ (sym (ap (λ v. slice_get v k) eb ∙ found_at c.args.blocks.now k b c.in-Some-get-2.ensures.lookup.3.0 c.in-Some-get-2.ensures.lookup.1)) in
    let kind = when_holds (same_kind b.kind block.Procedure) o (Held code o m a under line list (k, c.in-Some-procedure_in.procedure.parent.stamp) b) (ap (λ b. same_kind b.kind block.Procedure) (sym c.block.view_is) ∙ sym c.same_kind.ensures ∙ c.if-not-same_kind.false) in
    let parent : ℕ = c.in-Some-procedure_in.procedure.parent.stamp in
    let at = c.in-Some-pop.at in
    let formals : b.formals ≡ c.deref.result.now = ap {A = BlockOf} (λ r. r.formals) (sym c.block.view_is) ∙ sym c.deref.ensures.value in
    let actuals : list ≡ c.deref-2.result.now = sym c.list.view_is ∙ sym c.deref-2.ensures.value in
    along l line p below before now _ _ _ _ _
    (there ∙ kind ∙ ap (λ xs. held_against code o m a under line parent xs list) formals ∙ ap (λ xs. held_against code o m a under line parent c.deref.result.now xs) actuals)
    (c.hold_parameters.ensures.row code l line p stack below now eb ec ef (λ m all. c.in-Some-procedure_in.ensures.leads p.frames.items m (all at)) before o m s)

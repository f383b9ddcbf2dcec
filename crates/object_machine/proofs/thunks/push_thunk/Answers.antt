use Rattle.std.proofs.Common.{rules, to_z, of_z, w64, ◌≡◌, ℕ, sym, ap, ◌∙◌}
use Rattle.std.specs.Prelude.{Some, slice_get}
use Rattle.sim_code.specs.Events.{having}
use Rattle.sim_code.specs.Machine.{Machine, ThunkValue, Value, number}
use Rattle.sim_code.specs.Outcome.{Run}
use Rattle.sim_code.specs.Rows.{pushed}
use Rattle.object_machine.specs.Standing.{Leaves, Obeys, activation_at, below_of}
use Rattle.object_machine.proofs.Going.{along, no_rule_in}
use Rattle.object_machine.proofs.Having.{having_none, having_some}
use Rattle.object_machine.proofs.Jumps.{found_at, none_at}
use Rattle.object_machine.proofs.Scalars.{off}
use Rattle.object_machine.proofs.StageRows.{index_is, index_none}
use Rattle.object_machine.proofs.thunks.push_thunk.Goals as goal

pub returns-in_default-clause-row : goal.returns-in_default-clause-row
unfolding Obeys
returns-in_default-clause-row c code l line p below now e before o m s =
    let ez : to_z w64 (of_z w64 c.args.operand) ≡ c.args.operand = search rules in
    no_rule_in l line p p below before now _ _ _ _ o m s (index_none c.args.operand o _ (c.in_default.ensures ∙ ap number ez))

pub returns-in_default-get-clause-row : goal.returns-in_default-get-clause-row
unfolding Obeys
returns-in_default-get-clause-row c code l line p below now e before o m s =
    let ez : to_z w64 (of_z w64 c.args.operand) ≡ c.args.operand = search rules in
    let a = activation_at c.args.regs.now c.args.stack.now in
    let n = c.in-Some.number in
    let K : ℕ → Run Machine = λ t. having (slice_get code.thunks t) o (λ _. pushed o m a (below_of below) (ThunkValue t a.home)) in
    no_rule_in l line p p below before now _ _ _ _ o m s
    (index_is c.args.operand n o K (c.in-Some.ensures ∙ ap number ez) ∙ having_none (slice_get code.thunks n) o _ (sym (ap (λ v. slice_get v n) e ∙ none_at c.args.thunks.now n c.in_default-get.ensures.lookup.3)))

pub returns-in_default-try_from-clause-row : goal.returns-in_default-try_from-clause-row
unfolding Obeys Leaves
returns-in_default-try_from-clause-row c code l line p below now e before o m s = tt

pub returns-then-regs-clause-row : goal.returns-then-regs-clause-row
unfolding Obeys Leaves
returns-then-regs-clause-row c code l line p below now e before o m s = tt

pub returns-clause-row : goal.returns-clause-row
unfolding Obeys
returns-clause-row c code l line p below now e before o m s =
    let ez : to_z w64 (of_z w64 c.args.operand) ≡ c.args.operand = search rules in
    let r = c.args.regs.now in
    let a = activation_at r c.args.stack.now in
    let n = c.in-Some.number in
    let j : ℕ = r.home.stamp in
    let Push : Value → Run Machine = λ v. pushed o m a (below_of below) v in
    let K : ℕ → Run Machine = λ t. having (slice_get code.thunks t) o (λ _. Push (ThunkValue t j)) in
    let short : c.in-Ok.short ≡ n = search rules in
    let slot = c.thunk_slot-slot in
    along l line p below before now _ _ _ _ _
    (index_is c.args.operand n o K (c.in-Some.ensures ∙ ap number ez)
    ∙ having_some (slice_get code.thunks n) c.in-Some-get._thunk.now o (λ _. Push (ThunkValue n j)) (sym (ap (λ v. slice_get v n) e ∙ found_at c.args.thunks.now n c.in-Some-get._thunk.now c.in-Some-get.ensures.lookup.3.0 c.in-Some-get.ensures.lookup.1))
    ∙ ap (λ k. Push (ThunkValue k j)) (sym short) ∙ ap Push (sym slot.ensures.value))
    (c.push.ensures.row l line p below before now o m s (slot.ensures.leads p.frames.items m s.top.home) (λ names. absurd (off (sym slot.ensures.no_array ∙ names))))

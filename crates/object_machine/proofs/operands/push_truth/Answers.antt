use Rattle.std.proofs.Common.{rules, to_z, of_z, w64, ◌≡◌, ◌∙◌, ap, sym, refl}
use Rattle.sim_code.specs.Events.{having}
use Rattle.sim_code.specs.Machine.{Machine, Of}
use Rattle.sim_code.specs.Outcome.{Run}
use Rattle.sim_code.specs.Rows.{pushed}
use Rattle.object_machine.specs.Standing.{Obeys, activation_at, below_of}
use Rattle.object_machine.proofs.Going.{along, none}
use Rattle.object_machine.proofs.Scalars.{scalar_leads, scalar_leads_array}
use Rattle.std.specs.Prelude.{Bool}
use Rattle.sim_code.specs.Rows.{truth_of}
use Rattle.sim_values.specs.Plain.{Truth}
use Rattle.object_machine.proofs.operands.push_truth.Goals as goal

pub returns-in_default-clause-row : goal.returns-in_default-clause-row
unfolding Obeys having
returns-in_default-clause-row c l line p below now before o m s =
    let ex : to_z w64 (of_z w64 c.args.operand) ≡ c.args.operand = search rules in
    let go : Bool → Run Machine = λ b. pushed o m (activation_at c.args.regs.now c.args.stack.now) (below_of below) (Of (Truth b)) in
    along l line p below before now _ _ _ _ _ (ap (λ y. having y o go) (sym (c.in_default.ensures ∙ ap truth_of ex))) (none l line p below before now _ c.args.regs.now _ c.args.stack.now o m s)

pub returns-clause-row : goal.returns-clause-row
unfolding Obeys having
returns-clause-row c l line p below now before o m s =
    let ex : to_z w64 (of_z w64 c.args.operand) ≡ c.args.operand = search rules in
    let go : Bool → Run Machine = λ b. pushed o m (activation_at c.args.regs.now c.args.stack.now) (below_of below) (Of (Truth b)) in
    let v = c.truth-2.ensures.value in
    along l line p below before now _ _ _ _ _ (ap (λ y. having y o go) (sym (c.in-Some.ensures ∙ ap truth_of ex)) ∙ ap (λ v. pushed o m (activation_at c.args.regs.now c.args.stack.now) (below_of below) v) (sym v))
    (c.push.ensures.row l line p below before now o m s (scalar_leads p.frames.items m c.truth-2.result (Truth c.in-Some.holds) v refl) (scalar_leads_array p.arrays.regions o.arrays c.truth-2.result (Truth c.in-Some.holds) v refl))

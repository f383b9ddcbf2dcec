use Rattle.std.proofs.Common.{rules, to_z, of_z, w64, ◌≡◌, ◌∙◌, ap, sym}
use Rattle.sim_code.specs.Events.{having}
use Rattle.sim_code.specs.Machine.{Machine}
use Rattle.sim_code.specs.Outcome.{Run}
use Rattle.sim_code.specs.Rows.{two_row}
use Rattle.object_machine.specs.Standing.{Obeys, activation_at, below_of}
use Rattle.object_machine.proofs.Going.{along, none}
use Rattle.sim_code.specs.Rows.{comparison_of}
use Rattle.sim_values.specs.declared.operators.Comparison.{Comparison}
use Rattle.sim_values.specs.declared.operators.Dyadic.TheVariants as dyadic
use Rattle.object_machine.proofs.operands.relation.Goals as goal

pub returns-in_default-clause-row : goal.returns-in_default-clause-row
unfolding Obeys having
returns-in_default-clause-row c l line p below now before o m s =
    let ex : to_z w64 (of_z w64 c.args.operand) ≡ c.args.operand = search rules in
    let go : Comparison → Run Machine = λ r. two_row o m (activation_at c.args.regs.now c.args.stack.now) (below_of below) line (dyadic.Compare r) in
    along l line p below before now _ _ _ _ _ (ap (λ y. having y o go) (sym (c.in_default.ensures ∙ ap comparison_of ex))) (none l line p below before now _ c.args.regs.now _ c.args.stack.now o m s)

pub returns-clause-row : goal.returns-clause-row
unfolding Obeys having
returns-clause-row c l line p below now before o m s =
    let ex : to_z w64 (of_z w64 c.args.operand) ≡ c.args.operand = search rules in
    let go : Comparison → Run Machine = λ r. two_row o m (activation_at c.args.regs.now c.args.stack.now) (below_of below) line (dyadic.Compare r) in
    along l line p below before now _ _ _ _ _ (ap (λ y. having y o go) (sym (c.in-Some.ensures ∙ ap comparison_of ex)))
    (c.two.ensures.row l line p below now before o m s)

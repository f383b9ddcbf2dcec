use Rattle.std.proofs.Common.{rules, ◌≡◌, ◌∙◌, ap, of_z, to_z, w64}
use Rattle.sim_code.specs.Rows.{comparison_of}
use Rattle.object_machine.specs.Standing.{Obeys}
use Rattle.object_machine.proofs.Going.{along, none}
use Rattle.object_machine.proofs.Having.{having_none, having_some}
use Rattle.object_machine.proofs.pairs.relation_of_texts.Goals as goal

pub returns-in_default-clause-row : goal.returns-in_default-clause-row
unfolding Obeys
returns-in_default-clause-row c l line p below now e before o m s =
    let en : to_z w64 (of_z w64 c.args.operand) ≡ c.args.operand = search rules in
    along l line p below before now _ _ _ _ _ (having_none (comparison_of c.args.operand) o _ (c.in_default.ensures ∙ ap comparison_of en)) (none l line p below before now _ c.args.regs.now _ c.args.stack.now o m s)

pub returns-clause-row : goal.returns-clause-row
unfolding Obeys
returns-clause-row c l line p below now e before o m s =
    let en : to_z w64 (of_z w64 c.args.operand) ≡ c.args.operand = search rules in
    along l line p below before now _ _ _ _ _ (having_some (comparison_of c.args.operand) c.in-Some.relation o _ (c.in-Some.ensures ∙ ap comparison_of en)) (c.relate.ensures.row l line p below now e before o m s)

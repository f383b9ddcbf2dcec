use Rattle.std.proofs.Common.{rules, to_z, of_z, w64, ◌≡◌, ◌∙◌, ap}
use Rattle.sim_code.specs.Machine.{number}
use Rattle.object_machine.proofs.Places.{no_level, some_level}
use Rattle.object_machine.proofs.cells.level_span.Goals as goal

pub returns-in_default-clause-row : goal.returns-in_default-clause-row
returns-in_default-clause-row c cells m a o go h leads home =
    let ex : to_z w64 (of_z w64 c.args.operand) ≡ c.args.operand = search rules in
    no_level m a c.args.operand o go (c.in_default.ensures ∙ ap number ex)

pub returns-clause-row : goal.returns-clause-row
returns-clause-row c cells m a o go h leads home =
    let ex : to_z w64 (of_z w64 c.args.operand) ≡ c.args.operand = search rules in
    some_level m a c.args.operand o go c.in-Some.level c.args.home.stamp _ (c.in-Some.ensures ∙ ap number ex) home (c.span_at_level.ensures.level cells m h leads)

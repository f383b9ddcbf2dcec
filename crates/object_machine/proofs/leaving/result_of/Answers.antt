use Rattle.std.proofs.Common.{◌∙◌, ap, sym}
use Rattle.std.specs.Prelude.{Some, None}
use Rattle.sim_code.specs.Events.{having}
use Rattle.sim_code.specs.Machine.{is_nothing}
use Rattle.frame_arena.specs.Slots.{value_of}
use Rattle.object_machine.proofs.Departures.{result_in_cell, without_result}
use Rattle.object_machine.proofs.leaving.result_of.Goals as goal

pub returns-then-is_nothing-clause-row : goal.returns-then-is_nothing-clause-row
unfolding having
returns-then-is_nothing-clause-row c b m o go e h leads =
    without_result b m c.args.home.stamp o go (ap (λ t. is_nothing t) e ∙ sym c.is_nothing.ensures ∙ c.if-is_nothing.true)

pub returns-in_default-clause-row : goal.returns-in_default-clause-row
unfolding having
returns-in_default-clause-row c b m o go e h leads =
    result_in_cell b m c.args.home.stamp o go (ap (λ t. is_nothing t) e ∙ sym c.is_nothing.ensures ∙ c.if-is_nothing.false) None (c.in_default.ensures.value m h leads)

pub returns-clause-row : goal.returns-clause-row
unfolding having
returns-clause-row c b m o go e h leads =
    result_in_cell b m c.args.home.stamp o go (ap (λ t. is_nothing t) e ∙ sym c.is_nothing.ensures ∙ c.if-is_nothing.false) (Some (value_of c.in-Some.slot)) (c.in-Some.ensures.value m h leads)

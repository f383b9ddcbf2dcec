use Rattle.std.proofs.Common.{List, ◌∙◌, refl}
use Rattle.sim_code.specs.Machine.{Machine, Value, on}
use Rattle.sim_code.specs.Outcome.{Run}
use Rattle.object_machine.specs.Standing.{Obeys, activation_at, below_of}
use Rattle.object_machine.proofs.Going.{along, top_dropped}
use Rattle.object_machine.proofs.operands.drop_top.Goals as goal

pub returns-clause-row : goal.returns-clause-row
unfolding Obeys
returns-clause-row c l line p below now before o m s =
    let go : List Value → Run Machine = λ st. on o m (activation_at c.args.regs.now c.args.stack.now) st (below_of below) in
    along l line p below before now _ _ _ _ _ (c.pop-depth.ensures.row o (λ v rest. go rest) ∙ top_dropped c.pop-depth.result c.args.stack.now o go)
    (c.settle.ensures.row l line p below before now o m c.args.stack.now _ s refl s.top.slots s.top.arrays_lead)

use Rattle.std.proofs.Common.{not, refl, ap}
use Rattle.sim_static.proofs.AssignmentSteps.{targets_in_steps}
use Rattle.sim_static.proofs.assignment.targets.Goals as goal

pub returns : goal.returns
returns c =
    targets_in_steps c.args.sign c.args.first c.args.variable c.args.ty c.args.found.now c.bars-wrong.new.found c.bars-none.new.found c.side_unless.new.found
    (not c.takes.result) (not c.args.variable) c.bars-wrong.result c.bars-none.result c.either.result c.side_unless.result
    (ap not c.takes.ensures) c.bars-wrong.ensures refl c.bars-none.ensures c.either.ensures c.side_unless.ensures

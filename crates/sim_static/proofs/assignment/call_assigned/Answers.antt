use Rattle.sim_static.proofs.AssignmentSteps.{call_assigned_in_steps}
use Rattle.sim_static.proofs.assignment.call_assigned.Goals as goal

pub returns : goal.returns
returns c =
    call_assigned_in_steps c.args.scopes.now c.args.sign c.args.first c.args.found.now c.called-outcome.new.found c.assigned_to.new.found c.args.outcome c.called-outcome.result c.assigned_to.result
    c.called-outcome.ensures c.assigned_to.ensures

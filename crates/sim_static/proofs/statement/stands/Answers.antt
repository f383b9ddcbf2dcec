use Rattle.sim_static.proofs.Tellings.{stands_in_steps}
use Rattle.sim_static.proofs.statement.stands.Goals as goal

pub returns : goal.returns
returns c =
    stands_in_steps c.args.scopes.now c.args.first c.args.found.now c.called-outcome.new.found c.call_alone.new.found c.args.outcome c.called-outcome.result tt
    c.called-outcome.ensures c.call_alone.ensures

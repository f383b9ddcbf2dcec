use Rattle.sim_types.proofs.Steps.{remote_nothing, remote_there}
use Rattle.sim_types.proofs.bindings.remote_in.Goals as goal

pub returns-in-Some : goal.returns-in-Some
returns-in-Some c =
    remote_there c.args.scopes.now c.args.extent c.args.name.now c.args.block c.in-Some.block c.args.found.now c.bars-barred.new.found c.remote_at.new.found c.has_classes.result c.bars-barred.result c.remote_at.result
    c.in-Some.is c.has_classes.ensures c.bars-barred.ensures c.remote_at.ensures

pub returns-in-None : goal.returns-in-None
returns-in-None c = remote_nothing c.args.scopes.now c.args.extent c.args.name.now c.args.block c.args.found.now c.nothing_there.result c.in-None.is c.nothing_there.ensures

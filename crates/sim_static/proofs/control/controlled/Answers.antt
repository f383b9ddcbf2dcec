use Rattle.sim_static.proofs.Tellings.{controlled_in_steps}
use Rattle.sim_static.proofs.control.controlled.Goals as goal

pub returns : goal.returns
returns c =
    controlled_in_steps c.args.scopes.now c.args.sign c.args.name.now c.args.found.now c.bound-occurrence.new.found c.simple.new.found c.bound-occurrence.result c.simple.result
    c.bound-occurrence.ensures c.simple.ensures

use Rattle.sim_types.proofs.Steps.{remote_at_in_steps}
use Rattle.sim_types.proofs.bindings.remote_at.Goals as goal

pub returns : goal.returns
returns c =
    remote_at_in_steps c.args.scopes.now c.args.extent c.args.name.now c.args.block c.args.barred _ c.attribute_in-denotation.result c.args.found.now c.remote_as.new.found c.remote_as.result c.barred_if.result
    c.attribute_in-denotation.ensures c.as_bytes.ensures.same c.remote_as.ensures c.barred_if.ensures

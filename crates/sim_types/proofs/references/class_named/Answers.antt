use Rattle.sim_types.proofs.Steps.{class_named_in_steps}
use Rattle.sim_types.proofs.references.class_named.Goals as goal

pub returns : goal.returns
returns c =
    class_named_in_steps c.args.scopes.now c.args.extent c.args.name.now c.args.found.now c.bound-occurrence.new.found c.as_class.new.found c.bound-occurrence.result c.as_class.result
    c.bound-occurrence.ensures c.as_class.ensures

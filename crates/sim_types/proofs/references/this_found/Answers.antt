use Rattle.sim_types.proofs.Steps.{this_found_in_steps}
use Rattle.sim_types.proofs.references.this_found.Goals as goal

pub returns : goal.returns
returns c =
    this_found_in_steps c.args.scopes.now c.args.extent c.args.naming c.args.token c.args.class c.args.barred c.args.block c.args.found.now c.located.new.found c.this_fits-broken.new.found c.this_value.new.found
    c.this_fits-broken.result c.either-refused.result c.this_value.result
    c.located.ensures c.this_fits-broken.ensures c.either-refused.ensures c.this_value.ensures

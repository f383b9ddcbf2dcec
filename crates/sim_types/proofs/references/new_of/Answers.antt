use Rattle.sim_types.proofs.Steps.{new_in_steps}
use Rattle.sim_types.proofs.references.new_of.Goals as goal

pub returns : goal.returns
returns c =
    new_in_steps c.args.scopes.now c.args.naming c.args.token c.args.class c.args.barred c.args.actuals c.args.found.now c.bars-wrong.new.found c.bars-only.new.found c.generated.new.found
    c.wrong_number.result c.is_only_prefix.result c.bars-wrong.result c.bars-only.result c.either-inner.result c.either-broken.result c.generated.result
    c.wrong_number.ensures c.bars-wrong.ensures c.is_only_prefix.ensures c.bars-only.ensures c.either-inner.ensures c.either-broken.ensures c.generated.ensures

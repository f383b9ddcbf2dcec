use Rattle.sim_types.proofs.Steps.{class_fits_in_steps}
use Rattle.sim_types.proofs.references.class_fits.Goals as goal

pub returns : goal.returns
returns c =
    class_fits_in_steps c.args.scopes.now c.args.token c.args.class c.args.ty c.args.found.now c.bars-other.new.found c.bars-only.new.found c.other_chain.result c.only_prefix.result c.bars-other.result c.bars-only.result c.either.result
    c.other_chain.ensures c.bars-other.ensures c.only_prefix.ensures c.bars-only.ensures c.either.ensures

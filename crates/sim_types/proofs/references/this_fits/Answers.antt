use Rattle.sim_types.proofs.Steps.{this_fits_in_steps}
use Rattle.sim_types.proofs.references.this_fits.Goals as goal

pub returns : goal.returns
returns c =
    this_fits_in_steps c.args.scopes.now c.args.extent c.args.token c.args.class c.args.block c.args.found.now c.bars-outside.new.found c.bars-only.new.found c.bars-depends.new.found
    c.is_nowhere.result c.is_only_prefix.result c.this_barred.result c.bars-outside.result c.bars-only.result c.bars-depends.result c.either-inner.result c.either.result
    c.is_nowhere.ensures c.bars-outside.ensures c.is_only_prefix.ensures c.bars-only.ensures c.this_barred.ensures c.bars-depends.ensures c.either-inner.ensures c.either.ensures

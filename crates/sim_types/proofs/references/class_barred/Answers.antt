use Rattle.sim_types.proofs.Steps.{class_barred_in_steps}
use Rattle.sim_types.proofs.references.class_barred.Goals as goal

pub returns : goal.returns
returns c =
    class_barred_in_steps c.args.scopes.now c.args.operand c.args.token c.args.occurrence c.args.found.now c.bars-wrong.new.found c.class_fits-barred.new.found
    c.is_no_reference.result c.bars-wrong.result c.class_fits-barred.result c.either-inner.result c.either.result
    c.is_no_reference.ensures c.bars-wrong.ensures c.class_fits-barred.ensures c.either-inner.ensures c.either.ensures

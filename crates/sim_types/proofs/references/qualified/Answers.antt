use Rattle.sim_types.proofs.Steps.{qualified_in_steps}
use Rattle.sim_types.proofs.references.qualified.Goals as goal

pub returns : goal.returns
returns c =
    qualified_in_steps c.args.scopes.now c.args.naming c.args.operand c.args.name.now c.args.class c.args.found.now c.class_barred-barred.new.found c.qualified_value.new.found c.class_barred-barred.result c.qualified_value.result
    c.class_barred-barred.ensures c.qualified_value.ensures

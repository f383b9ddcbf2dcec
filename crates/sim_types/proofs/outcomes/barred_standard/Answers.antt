use Rattle.sim_scope.specs.Outcomes.{standard_called}
use Rattle.sim_types.proofs.Steps.{without_type_in_steps}
use Rattle.sim_types.proofs.outcomes.barred_standard.Goals as goal

pub returns : goal.returns
returns c = without_type_in_steps (standard_called c.args.token.0 c.args.name) c.args.found.now c.standard_called.new.found c.standard_called.result c.standard_called.ensures

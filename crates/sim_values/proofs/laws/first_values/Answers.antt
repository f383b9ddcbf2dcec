use Rattle.sim_values.proofs.Worked.{of_its_kind}
use Rattle.sim_values.proofs.laws.first_values.Goals as goal

pub returns : goal.returns
returns c = record { kind = of_its_kind }

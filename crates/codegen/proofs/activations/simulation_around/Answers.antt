use Rattle.codegen.proofs.Activated.{around_some}
use Rattle.codegen.proofs.activations.simulation_around.Goals as goal

pub returns-in-Some : goal.returns-in-Some
returns-in-Some c = around_some c.args.bound.now c.args.token c.block_at.result c.simulation_of.result c.in-Some.block c.block_at.ensures c.in-Some.is c.simulation_of.ensures

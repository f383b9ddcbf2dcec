use Rattle.std.proofs.Common.{OnOk, Some, subst, sym}
use Rattle.sim_scope.specs.Building.{marked}
use Rattle.sim_scope.specs.Declare.{marks_of_standard}
use Rattle.sim_scope.specs.Runs.{Runs}
use Rattle.sim_scope.proofs.parts.standard.Goals as goal

pub returns-in-Simset : goal.returns-in-Simset
unfolding marks_of_standard
returns-in-Simset c = subst (λ z. OnOk c.brought.result (Runs marked c.args.tables.now c.brought.new.tables (marks_of_standard c.args.token.0 (Some z)))) (sym c.in-Simset.is) c.brought.ensures

pub returns-in-Simulation : goal.returns-in-Simulation
unfolding marks_of_standard
returns-in-Simulation c = subst (λ z. OnOk c.brought-in-Simulation.result (Runs marked c.args.tables.now c.brought-in-Simulation.new.tables (marks_of_standard c.args.token.0 (Some z)))) (sym c.in-Simulation.is) c.brought-in-Simulation.ensures

use Rattle.std.proofs.Common.{◌∙◌, ap}
use Rattle.std.specs.Prelude.{map}
use Rattle.sim_code.specs.Simulations.{with_place}
use Rattle.object_machine.specs.Simulating.{simulation_of}
use Rattle.object_machine.proofs.Simulations.{located_by}
use Rattle.object_machine.proofs.simulated.located.Goals as goal

pub returns-clause-is : goal.returns-clause-is
returns-clause-is c rises = ap (with_place (map simulation_of c.args.simulations.now)) (c.place_of_block.ensures.is rises) ∙ located_by c.args.stamp c.args.simulations.now

use Rattle.std.proofs.Common.{refl, ap}
use Rattle.sim_tree.specs.ProgramDerivation.{timing_derivation}
use Rattle.sim_tree.proofs.Nests as nests
use Rattle.sim_tree.proofs.nesting.timing_depth.Goals as goal

pub returns-in-Some : goal.returns-in-Some
returns-in-Some c = nests.along (ap timing_derivation c.in-Some.is) (nests.nests_alone refl c.time_depth.ensures)

pub returns-in-None : goal.returns-in-None
returns-in-None c = nests.along (ap timing_derivation c.in-None.is) nests.nests_done

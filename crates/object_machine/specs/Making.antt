-- What becomes of objects and prefixed blocks that were just entered: linkages, processes and simulation blocks.
use Rattle.std.specs.Prelude.{◌≡◌, ℕ, List}
use Rattle.sim_code.specs.Machine.{Frames}
use Rattle.sim_code.specs.Outcome.{World}
use Rattle.frame_arena.specs.declared.frames.Frame.{Frame}
use Rattle.object_machine.specs.declared.machine.Storage.{Storage}
use Rattle.object_machine.specs.Enrolling.{AllBelow, Enrolled}
use Rattle.object_machine.specs.Simulating.{AllEarlier, Simulating}

-- the linkages and the simulation blocks are those of a world
pub record Registered (frames : List Frame) (m : Frames) (p : Storage) (o : World) : Type 0 where
  pub members : Enrolled frames m p.members o.members
  pub simulations : Simulating frames m p.simulations.items o.simulations

-- they all are lower than a number
pub record AllRegisteredBelow (bound : ℕ) (o : World) : Type 0 where
  pub members : AllBelow bound o.members.instances
  pub simulations : AllEarlier bound o.simulations

-- the other parts are the same
abbrev pub SameButRegisters : (p p2 : Storage) → Type 0
SameButRegisters p p2 = p2 ≡ record p { members = p2.members; simulations = p2.simulations }

-- The simulation blocks that were entered, as the machine keeps them.
use Rattle.std.specs.Prelude.{◌≡◌, ◌≢◌, ℕ, ◌<◌, List, [], length, map, slice_get, Some}
use Rattle.sim_values.specs.declared.value.FrameRef.{FrameRef}
use Rattle.sim_code.specs.Machine.{Frames}
use Rattle.sim_code.specs.Outcome.{Simulation}
use Rattle.frame_arena.specs.declared.frames.Frame.{Frame}
use Rattle.frame_arena.specs.Frames.{Leads}
use Rattle.object_machine.specs.declared.simulated.Simulated.{Simulated}
use Rattle.object_machine.specs.Enrolling.{AllBelow, AllReach, Rises, stamps}

-- the simulation of a block
abbrev pub simulation_of : Simulated → Simulation
simulation_of s = record { block = s.block.stamp; processes = stamps s.processes.items; ended = s.ended.items; notices = s.sim.notices }

-- the instances of the blocks
abbrev pub blocks_of : List Simulated → List FrameRef
blocks_of blocks = map (λ s. s.block) blocks

-- all of them are higher than a number
abbrev pub AllAbove : (bound : ℕ) → List ℕ → Type 0
AllAbove n ns = (x a : ℕ) → slice_get ns x ≡ Some a → n < a

-- The processes that were made later have higher numbers, all lead to their frames, and each may have a notice, as the main program may. There
-- is a notice at least.
pub record IsSimulated (frames : List Frame) (m : Frames) (s : Simulated) : Type 0 where
  pub block : Leads frames m s.block
  pub lead : AllReach frames m s.processes.items
  pub rises : Rises (stamps s.processes.items)
  pub above : AllAbove s.block.stamp (stamps s.processes.items)
  pub each : length s.ended.items ≡ length s.processes.items
  pub room : length s.processes.items < s.sim.room
  pub begun : s.sim.notices ≢ []

-- The simulations are those of the blocks, of which those that were entered later have higher numbers.
pub record Simulating (frames : List Frame) (m : Frames) (blocks : List Simulated) (simulations : List Simulation) : Type 0 where
  pub is : simulations ≡ map simulation_of blocks
  pub rises : Rises (stamps (blocks_of blocks))
  pub each : (x : ℕ) (s : Simulated) → slice_get blocks x ≡ Some s → IsSimulated frames m s

-- ---- what was made before an instance

-- a block and its processes are lower than a number
pub record IsEarlier (bound : ℕ) (x : Simulation) : Type 0 where
  pub block : x.block < bound
  pub processes : AllBelow bound x.processes

abbrev pub AllEarlier : (bound : ℕ) → List Simulation → Type 0
AllEarlier n simulations = (k : ℕ) (x : Simulation) → slice_get simulations k ≡ Some x → IsEarlier n x

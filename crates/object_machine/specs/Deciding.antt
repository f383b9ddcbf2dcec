-- Who goes on after a scheduling procedure.
use Rattle.std.specs.Prelude.{◌≡◌, ℕ, List, slice_get, Some, Result, Ok, Err}
use Rattle.sim_base.specs.declared.run_error.RunError.{RunError}
use Rattle.notices.specs.declared.next.Next.{Next}
use Rattle.sim_code.specs.Events.{computing}
use Rattle.sim_code.specs.Machine.{Activation, Frames, Machine, owner}
use Rattle.sim_code.specs.Outcome.{Run, Simulation, World}
use Rattle.sim_code.specs.Scheduling.{going_to}
use Rattle.object_machine.specs.declared.simulated.Simulated.{Simulated}
use Rattle.object_machine.specs.Enrolling.{stamps}

-- the block and the processes of a simulation are those that are kept at a place
abbrev pub IsIn : List Simulated → (place : ℕ) → Simulation → Type 0
IsIn blocks place x = (s : Simulated) → slice_get blocks place ≡ Some s → (x.block ≡ s.block.stamp) × (x.processes ≡ stamps s.processes.items)

-- it was not refused
abbrev pub IsDecided : Result Next RunError → Type 0
IsDecided (Ok next) = Unit {0}
IsDecided (Err e) = ⊥

-- A procedure is refused in the world o, or who goes on does so in the world w.
abbrev pub settling : Result Next RunError → (line : ℕ) → (o w : World) → (chain : List Activation) → Frames → Simulation → Run Machine
settling answer line o w chain m x = computing line answer o (λ next. going_to owner line w chain m x next)

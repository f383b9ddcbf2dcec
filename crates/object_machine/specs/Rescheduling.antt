-- What the procedures of simulation blocks find on the operand stack, and what they make of a simulation.
use Rattle.std.specs.Prelude.{◌≡◌, ℕ, ◌≤◌, List, ◌∷◌, length, slice_get, slice_set, Option, Some, None, Result, Ok, Err}
use Rattle.sim_base.specs.declared.run_error.RunError.{RunError}
use Rattle.notices.specs.declared.next.Next.{Next}
use Rattle.notices.specs.declared.notice.Notice.{Notice}
use Rattle.notices.specs.Scheduling.{answer_of, list_after, passivated}
use Rattle.simset.specs.declared.rings.LinkageNo.{LinkageNo}
use Rattle.sim_values.specs.declared.standard.Standard.{Standard}
use Rattle.sim_code.specs.Classes.{in_process}
use Rattle.sim_code.specs.Code.{CodeOf}
use Rattle.sim_code.specs.Events.{having, no_rule}
use Rattle.sim_code.specs.Levels.{ending_process}
use Rattle.sim_code.specs.Machine.{Machine, Of, Value, link_in, on, plain}
use Rattle.sim_code.specs.Outcome.{Run, Simulation, World}
use Rattle.sim_code.specs.Rows.{decided}
use Rattle.sim_code.specs.Scheduling.{performing_simulation, pop_block}
use Rattle.sim_code.specs.Simulations.{simulation_tells, with_end}
use Rattle.standard_calls.specs.declared.came.Missing.{Missing}
use Rattle.standard_calls.specs.declared.came.Missing.TheVariants as missing
use Rattle.frame_arena.specs.declared.slot.Slot.{Slot}
use Rattle.frame_arena.specs.Stacks.{values_of}
use Rattle.object_machine.specs.declared.machine.Storage.{Storage}
use Rattle.object_machine.specs.declared.scheduling.Addressed.{Addressed}
use Rattle.object_machine.specs.declared.simulated.Simulated.{Simulated}
use Rattle.object_machine.specs.Simulating.{simulation_of}
use Rattle.object_machine.specs.Standing.{Row}

-- the simulation to whose block the link on top leads, and the values below it; or there is no rule
abbrev pub TakesBlock : Option Addressed → List Simulated → World → (depth : ℕ) → List Slot → Type 0
TakesBlock None blocks o depth stack = (go : ℕ → (ℕ × Simulation) → List Value → Run Machine) → pop_block plain link_in (values_of depth stack) o go ≡ no_rule o
TakesBlock (Some q) blocks o depth stack = (s : Simulated) → slice_get blocks q.place ≡ Some s → (go : ℕ → (ℕ × Simulation) → List Value → Run Machine) →
    pop_block plain link_in (values_of depth stack) o go ≡ go s.block.stamp (q.place, simulation_of s) (values_of q.under stack)

-- A procedure leaves these notices or is refused, and this is the answer to it. All else of the simulation stays.
pub record Reschedules (y y2 : Simulated) (r : Result (List Notice) RunError) (answer : Result Next RunError) : Type 0 where
  pub block : y2.block ≡ y.block
  pub processes : y2.processes ≡ y.processes
  pub ended : y2.ended ≡ y.ended
  pub notices : y2.sim.notices ≡ list_after y.sim.notices r
  pub answers : answer ≡ answer_of y.sim.notices r
  pub room : y.sim.room ≤ y2.sim.room

-- the linkage of a process
abbrev pub FindsLinkage : Result LinkageNo Missing → Option ℕ → Type 0
FindsLinkage (Ok x) q = q ≡ Some x.0
FindsLinkage (Err missing.NoRule) q = q ≡ None
FindsLinkage (Err missing.Memory) q = Unit {0}

-- another of its processes may be terminated, and all else of the simulation stays
pub record Ends (y y2 : Simulated) : Type 0 where
  pub block : y2.block ≡ y.block
  pub processes : y2.processes ≡ y.processes
  pub each : length y2.ended.items ≡ length y.ended.items
  pub sim : y2.sim ≡ y.sim

-- The same of the simulation at a place of the storage, where y1 is it just before the procedure. All else of the storage stays.
pub record Rescheduled (p p2 : Storage) (place : ℕ) (y y1 : Simulated) (r : Result (List Notice) RunError) (answer : Result Next RunError) : Type 0 where
  pub after : Simulated
  pub ends : Ends y y1
  pub is : Reschedules y1 after r answer
  pub left : p2.simulations.items ≡ slice_set p.simulations.items place after
  pub same : p2 ≡ record p { simulations = p2.simulations }

-- `passivate` of the simulation at a place, before which the process of an object is terminated, if it comes to its end
pub record Passivates (p p2 : Storage) (place : ℕ) (y : Simulated) (ending : Option ℕ) (answer : Result Next RunError) : Type 0 where
  pub before : Simulated
  pub end : simulation_of before ≡ with_end ending (simulation_of y)
  pub is : Rescheduled p p2 place y before (Ok (passivated y.sim.notices)) answer

-- what the row of a name of a simulation block does
abbrev pub simulation_row : CodeOf → (line : ℕ) → Standard → Row
simulation_row code line name o m a b =
    performing_simulation plain link_in (in_process code m) (ending_process code m a) name a.stack o (λ value stack. on o m a (Of value ∷ stack) b) (decided o m a b line)

-- the same of a name by which a block tells something
abbrev pub telling_row : Standard → Row
telling_row name o m a b = pop_block plain link_in a.stack o (λ k x rest. having (simulation_tells name x.1) o (λ v. on o m a (Of v ∷ rest) b))

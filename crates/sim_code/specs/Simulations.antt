-- Simulation blocks, for the meaning and the machine: which process has which number, who is terminated, and how a block sees a reference.
use Rattle.std.specs.Prelude.{ℕ, zero, suc, ℤ, pos, Bool, true, false, ◌==◌, if◌then◌else◌, List, [], ◌∷◌, ◌++◌, slice_get, slice_set, slice_index_or, Option, Some, None, Result, Ok, Err}
use Rattle.std.specs.Option.{option_map}
use Rattle.std.specs.List.{list_any, position}
use Rattle.sim_base.specs.declared.run_error.RunError.{RunError}
use Rattle.notices.specs.declared.notice.ProcessNo.{ProcessNo}
use Rattle.notices.specs.declared.activation.ProcessRef.{ProcessRef}
use Rattle.notices.specs.declared.activation.ProcessRef.TheVariants.{NoProcess, OfAnother, OfThis}
use Rattle.notices.specs.Scheduling.{current, evtime, idle, main, nextev, time}
use Rattle.simset.specs.Instances.{with_linkage}
use Rattle.simset.specs.Sets.{Link}
use Rattle.sim_values.specs.declared.standard.Standard.{Standard}
use Rattle.sim_values.specs.declared.standard.Standard.TheVariants as name
use Rattle.sim_values.specs.Plain.{Integer, MainOf, Nothing, Object, Plain, Truth}
use Rattle.sim_code.specs.Outcome.{Simulation, World}

-- ---- which names these are

-- those that a process has
abbrev pub is_process_name : Standard → Bool
is_process_name name.Idle = true
is_process_name name.Terminated = true
is_process_name name.Evtime = true
is_process_name name.Nextev = true
is_process_name _ = false

-- and those that a simulation block has
abbrev pub is_simulation_name : Standard → Bool
is_simulation_name name.Time = true
is_simulation_name name.Current = true
is_simulation_name name.Main = true
is_simulation_name name.Hold = true
is_simulation_name name.Passivate = true
is_simulation_name name.Wait = true
is_simulation_name name.Cancel = true
is_simulation_name _ = false

-- those with a parameter
abbrev pub takes_actual : Standard → Bool
takes_actual name.Hold = true
takes_actual name.Wait = true
takes_actual name.Cancel = true
takes_actual _ = false

abbrev pub actual_count : Standard → ℕ
actual_count name = if takes_actual name then 1 else 0

-- ---- the blocks

-- a simulation begins with the notice of its main program at time 0
abbrev pub begun : (block : ℕ) → Simulation
begun b = record { block = b; processes = []; ended = []; notices = record { time = pos 0; process = record { 0 = main } } ∷ [] }

abbrev pub is_of_block : (block : ℕ) → Simulation → Bool
is_of_block b x = x.block == b

-- whether a simulation block has this instance
abbrev pub is_simulated : List Simulation → (instance : ℕ) → Bool
is_simulated sims b = list_any (is_of_block b) sims

abbrev pub with_place : List Simulation → Option ℕ → Option (ℕ × Simulation)
with_place sims None = None
with_place sims (Some k) = option_map (λ x. (k, x)) (slice_get sims k)

-- the simulation of a block, with its place among all
unfoldable pub located : List Simulation → (block : ℕ) → Option (ℕ × Simulation)
located sims b = with_place sims (position (is_of_block b) sims)

abbrev pub with_simulation : World → (place : ℕ) → Simulation → World
with_simulation o k x = record o { simulations = slice_set o.simulations k x }

-- A simulation block is entered: its main program is a link, as each process is, and the current process.
abbrev pub begun_in : (is_simulation : Bool) → (block : ℕ) → World → World
begun_in false b o = o
begun_in true b o = record o { members = with_linkage b Link o.members; simulations = o.simulations ++ begun b ∷ [] }

-- a process is made
abbrev pub with_process : (object : ℕ) → Simulation → Simulation
with_process j x = record x { processes = x.processes ++ j ∷ []; ended = x.ended ++ false ∷ [] }

abbrev pub joined_at : (object : ℕ) → World → Option (ℕ × Simulation) → World
joined_at j o None = o
joined_at j o (Some x) = with_simulation o x.0 (with_process j x.1)

-- an object is made, in the simulation of the block in which its class is declared if it is a process
abbrev pub joined : (is_process : Bool) → (block object : ℕ) → World → World
joined false b j o = o
joined true b j o = joined_at j o (located o.simulations b)

-- ---- processes by their numbers

abbrev pub object_numbered : Option ℕ → Option Plain
object_numbered None = None
object_numbered (Some j) = Some (Object j)

-- the process of a number
abbrev pub process_numbered : Simulation → (number : ℕ) → Option Plain
process_numbered x zero = Some (MainOf x.block)
process_numbered x (suc n) = object_numbered (slice_get x.processes n)

-- the number of a process, if it is one of this block
abbrev pub number_in : Simulation → Plain → Option ℕ
number_in x (Object j) = option_map (λ n. suc n) (position (λ k. k == j) x.processes)
number_in x (MainOf b) = if b == x.block then Some main else None
number_in x _ = None

-- whether the process of a number is terminated, which the main program never is
abbrev pub is_ended : Simulation → (number : ℕ) → Bool
is_ended x zero = false
is_ended x (suc n) = slice_index_or x.ended n false

abbrev pub ended_at : Simulation → (number : Option ℕ) → Simulation
ended_at x None = x
ended_at x (Some n) = record x { ended = slice_set x.ended n true }

-- the process of an object becomes terminated
abbrev pub with_ended : (object : ℕ) → Simulation → Simulation
with_ended j x = ended_at x (position (λ k. k == j) x.processes)

abbrev pub with_end : (ending : Option ℕ) → Simulation → Simulation
with_end None x = x
with_end (Some j) x = with_ended j x

-- ---- references, as a simulation block sees them

abbrev pub process_by : (number : Option ℕ) → Simulation → ProcessRef
process_by None x = OfAnother
process_by (Some n) x = OfThis (record { 0 = n }) (is_ended x n)

-- Whether it names a process is told by its class; if it does, whether that is one of this block.
abbrev pub named_as : (is_process : Bool) → (number : Option ℕ) → Simulation → ProcessRef
named_as false n x = NoProcess
named_as true n x = process_by n x

abbrev pub named_if : (is_process : Option Bool) → Simulation → Plain → Option (Option ProcessRef)
named_if None x p = None
named_if (Some b) x p = Some (Some (named_as b (number_in x p) x))

-- `in_process` tells whether an object or a main program is in the class `process` of the block
abbrev pub seen : (in_process : Plain → Option Bool) → Simulation → Plain → Option (Option ProcessRef)
seen in_process x Nothing = Some None
seen in_process x (Object j) = named_if (in_process (Object j)) x (Object j)
seen in_process x (MainOf b) = named_if (in_process (MainOf b)) x (MainOf b)
seen in_process x _ = None

-- ---- what a process and a block tell

abbrev pub integer_or_error : Result ℤ RunError → Result Plain RunError
integer_or_error (Ok t) = Ok (Integer t)
integer_or_error (Err e) = Err e

abbrev pub process_after : Simulation → Option ProcessNo → Option (Result Plain RunError)
process_after x None = Some (Ok Nothing)
process_after x (Some n) = option_map Ok (process_numbered x n.0)

-- what a name of a process gives: `evtime` may be E52
abbrev pub process_tells : Standard → Simulation → (number : ℕ) → Option (Result Plain RunError)
process_tells name.Idle x n = Some (Ok (Truth (idle n x.notices)))
process_tells name.Terminated x n = Some (Ok (Truth (is_ended x n)))
process_tells name.Evtime x n = Some (integer_or_error (evtime n x.notices))
process_tells name.Nextev x n = process_after x (nextev n x.notices)
process_tells _ x n = None

-- the process of the first notice
abbrev pub process_first : Simulation → Option ProcessNo → Option Plain
process_first x None = None
process_first x (Some n) = process_numbered x n.0

abbrev pub current_process : Simulation → Option Plain
current_process x = process_first x (current x.notices)

-- what a name of a simulation block gives that gives something
abbrev pub simulation_tells : Standard → Simulation → Option Plain
simulation_tells name.Time x = Some (Integer (time x.notices))
simulation_tells name.Current x = current_process x
simulation_tells name.Main x = Some (MainOf x.block)
simulation_tells _ x = None

-- The instance that a linkage is known by stands for the main program where it is that of a simulation block.
abbrev pub named_in : List Simulation → (instance : ℕ) → Plain
named_in sims j = if is_simulated sims j then MainOf j else Object j

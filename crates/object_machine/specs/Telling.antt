-- Processes of simulation blocks, as the rows find them.
use Rattle.std.specs.Prelude.{◌≡◌, ℕ, zero, suc, ◌≤◌, false, List, Option, Some, None, Result, Ok, Err}
use Rattle.sim_base.specs.declared.run_error.RunError.{RunError}
use Rattle.notices.specs.declared.activation.ProcessRef.{ProcessRef}
use Rattle.notices.specs.declared.activation.ProcessRef.TheVariants.{NoProcess, OfAnother, OfThis}
use Rattle.sim_values.specs.declared.standard.Standard.{Standard}
use Rattle.sim_values.specs.declared.value.FrameRef.{FrameRef}
use Rattle.sim_values.specs.Plain.{MainOf, Object, Plain}
use Rattle.sim_code.specs.Machine.{Frames, Of, Value, plain}
use Rattle.sim_code.specs.Outcome.{Simulation}
use Rattle.sim_code.specs.Scheduling.{block_around}
use Rattle.sim_code.specs.Simulations.{located, number_in, process_tells}
use Rattle.standard_calls.specs.declared.came.Missing.{Missing}
use Rattle.standard_calls.specs.declared.came.Missing.TheVariants as missing
use Rattle.frame_arena.specs.declared.frames.Frame.{Frame}
use Rattle.frame_arena.specs.Arrays.{names_array}
use Rattle.frame_arena.specs.Frames.{SlotLeads}
use Rattle.frame_arena.specs.Slots.{value_of}
use Rattle.object_machine.specs.declared.processes.Number.{Number}
use Rattle.object_machine.specs.declared.processes.Number.TheVariants as number
use Rattle.object_machine.specs.declared.processes.Told.{Told}
use Rattle.object_machine.specs.declared.processes.Told.TheVariants as told

-- one thing behind the other, where each may be missing
abbrev pub bound : {A B : Type 0} → Option A → (A → Option B) → Option B
bound None f = None
bound (Some a) f = f a

-- ---- numbers

-- the number of a process, if it is one of the block
abbrev pub IsNumber : Number → Option ℕ → Type 0
IsNumber (number.Process n) q = q ≡ Some n.0
IsNumber number.Other q = q ≡ None
IsNumber number.Memory q = Unit {0}

-- the number is that of the main program or of one of so many processes
abbrev pub IsWithin : Number → (processes : ℕ) → Type 0
IsWithin (number.Process n) count = n.0 ≤ count
IsWithin _ count = Unit {0}

-- the frame of the process of a number
abbrev pub NamesProcess : Option FrameRef → (number : ℕ) → Option Plain → Type 0
NamesProcess None n q = q ≡ None
NamesProcess (Some f) zero q = q ≡ Some (MainOf f.stamp)
NamesProcess (Some f) (suc n) q = q ≡ Some (Object f.stamp)

-- ---- what is told

-- A value is told, of which the reference leads to its frame, or a run-time error; or there is no rule.
abbrev pub Tells : Told → List Frame → Frames → Option (Result Plain RunError) → Type 0
Tells (told.Value s) frames m q = (p : Plain) × (q ≡ Some (Ok p)) × (value_of s ≡ Of p) × SlotLeads frames m s × (names_array s.kind ≡ false)
Tells (told.Fault e) frames m q = q ≡ Some (Err e)
Tells told.NoRule frames m q = q ≡ None
Tells told.Memory frames m q = Unit {0}

abbrev pub told_missing : Missing → Told
told_missing missing.NoRule = told.NoRule
told_missing missing.Memory = told.Memory

-- the block of the process that a value names
abbrev pub block_of : (around : ℕ → Option ℕ) → Value → Option ℕ
block_of around v = bound (plain v) (λ p. block_around around p)

abbrev pub FindsBlock : Result ℕ Missing → Option ℕ → Type 0
FindsBlock (Ok b) q = q ≡ Some b
FindsBlock (Err missing.NoRule) q = q ≡ None
FindsBlock (Err missing.Memory) q = Unit {0}

-- what a process tells by a name that a value names
abbrev pub told_of : (around : ℕ → Option ℕ) → Standard → List Simulation → Value → Option (Result Plain RunError)
told_of around name sims v = bound (plain v) (λ p. bound (block_around around p) (λ b. bound (located sims b) (λ x. bound (number_in x.1 p) (λ n. process_tells name x.1 n))))

-- ---- how a block sees a reference

abbrev pub Sees : Result (Option ProcessRef) Missing → Option (Option ProcessRef) → Type 0
Sees (Ok p) q = q ≡ Some p
Sees (Err missing.NoRule) q = q ≡ None
Sees (Err missing.Memory) q = Unit {0}

-- a process of the block is one of so many, or the main program
abbrev pub IsOneOf : (processes : ℕ) → ProcessRef → Type 0
IsOneOf count (OfThis n ended) = n.0 ≤ count
IsOneOf count NoProcess = Unit {0}
IsOneOf count OfAnother = Unit {0}

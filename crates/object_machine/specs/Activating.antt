-- Activations, as the row finds them.
use Rattle.std.specs.Prelude.{◌≡◌, ℕ, ℤ, Bool, List, length, slice_get, Option, Some, None, Result, Ok, Err}
use Rattle.std.specs.Option.{ForSome, option_map}
use Rattle.sim_base.specs.declared.run_error.RunError.{RunError}
use Rattle.notices.specs.declared.activation.Placement.{Placement}
use Rattle.notices.specs.declared.notice.Notice.{Notice}
use Rattle.notices.specs.Scheduling.{activated}
use Rattle.sim_values.specs.Plain.{Plain}
use Rattle.sim_code.specs.Classes.{in_process}
use Rattle.sim_code.specs.Code.{CodeOf}
use Rattle.sim_code.specs.Events.{having, no_rule}
use Rattle.sim_code.specs.Machine.{Frames, Machine, Value, link_in, plain}
use Rattle.sim_code.specs.Outcome.{Run, Simulation, World}
use Rattle.sim_code.specs.Rows.{activation_of, decided}
use Rattle.sim_code.specs.Scheduling.{AtTime, Beside, Directly, Timing, WithDelay, has_operand, performing_activation, pop_operand_if}
use Rattle.standard_calls.specs.declared.came.Missing.{Missing}
use Rattle.standard_calls.specs.declared.came.Missing.TheVariants as missing
use Rattle.frame_arena.specs.declared.slot.Slot.{Slot}
use Rattle.frame_arena.specs.Slots.{value_of}
use Rattle.frame_arena.specs.Stacks.{values_of}
use Rattle.object_machine.specs.declared.activations.Activating.{Activating}
use Rattle.object_machine.specs.declared.activations.Form.{Form}
use Rattle.object_machine.specs.declared.activations.Operand.{Operand}
use Rattle.object_machine.specs.declared.activations.When.{When}
use Rattle.object_machine.specs.declared.activations.When.TheVariants as when
use Rattle.object_machine.specs.declared.simulated.Simulated.{Simulated}
use Rattle.object_machine.specs.Simulating.{simulation_of}
use Rattle.object_machine.specs.Standing.{Row}
use Rattle.object_machine.specs.Telling.{IsOneOf}

-- ---- the forms

abbrev pub timing_as : When → Timing
timing_as when.Directly = Directly
timing_as (when.AtTime prior) = AtTime prior
timing_as (when.WithDelay prior) = WithDelay prior
timing_as (when.Beside before) = Beside before

abbrev pub form_as : Form → Bool × Timing
form_as f = (f.again, timing_as f.timing)

-- ---- operands

-- the operand, if the form has one, that a value is
abbrev pub operand_in : When → Value → Option (Option Plain)
operand_in when.Directly v = Some None
operand_in _ v = option_map (λ p. Some p) (plain v)

-- the value that is the operand, and the values below it; or there is no rule
abbrev pub TakesOperand : Option Operand → When → World → (depth : ℕ) → List Slot → Type 0
TakesOperand None t o depth stack = (go : Option Plain → List Value → Run Machine) → pop_operand_if plain link_in (has_operand (timing_as t)) (values_of depth stack) o go ≡ no_rule o
TakesOperand (Some q) t o depth stack = (go : Option Plain → List Value → Run Machine) →
    pop_operand_if plain link_in (has_operand (timing_as t)) (values_of depth stack) o go ≡ having (operand_in t (value_of q.slot)) o (λ w. go w (values_of q.under stack))

-- where a notice is to be put; or there is no rule
abbrev pub Places : Result Placement Missing → Option Placement → Type 0
Places (Ok p) q = q ≡ Some p
Places (Err missing.NoRule) q = q ≡ None
Places (Err missing.Memory) q = Unit {0}

abbrev pub Decide : Type 0
Decide = World → (ℕ × Simulation) → Result (List Notice) RunError → List Value → Run Machine

-- the activation that is on the operand stack, and the simulation that does it; or there is no rule
abbrev pub TakesActivation : Result Activating Missing → List Simulated → Form → CodeOf → Frames → World → (depth : ℕ) → List Slot → Type 0
TakesActivation (Ok q) blocks f code m o depth stack = (y : Simulated) → slice_get blocks q.place ≡ Some y → (decide : Decide) →
    performing_activation plain link_in (in_process code m) f.again (timing_as f.timing) (values_of depth stack) o decide ≡ decide o (q.place, simulation_of y) (activated q.activation y.sim.notices) (values_of q.under stack)
TakesActivation (Err missing.NoRule) blocks f code m o depth stack = (decide : Decide) → performing_activation plain link_in (in_process code m) f.again (timing_as f.timing) (values_of depth stack) o decide ≡ no_rule o
TakesActivation (Err missing.Memory) blocks f code m o depth stack = Unit {0}

-- the process of an activation is one of the simulation that does it
abbrev pub IsWithinBlock : List Simulated → Activating → Type 0
IsWithinBlock blocks q = (y : Simulated) → slice_get blocks q.place ≡ Some y → ForSome q.activation.process (IsOneOf (length y.processes.items))

-- what the row of an activation does
abbrev pub activation_row : CodeOf → (line : ℕ) → ℤ → Row
activation_row code line z o m a b = having (activation_of z) o (λ f. performing_activation plain link_in (in_process code m) f.0 f.1 a.stack o (decided o m a b line))

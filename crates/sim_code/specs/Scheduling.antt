-- The procedures of SIMULATION and activations, for the meaning and the machine: what they make of the event notices, and to which process control
-- goes then.
use Rattle.std.specs.Prelude.{ℕ, zero, suc, ℤ, Bool, true, false, List, slice_get, Option, Some, None, Result, Ok}
use Rattle.sim_base.specs.declared.run_error.RunError.{RunError}
use Rattle.sim_chains.specs.Components.{give_control_to}
use Rattle.notices.specs.declared.activation.Placement.{Placement}
use Rattle.notices.specs.declared.activation.Placement.TheVariants as place
use Rattle.notices.specs.declared.activation.ProcessRef.{ProcessRef}
use Rattle.notices.specs.declared.next.Next.{Next}
use Rattle.notices.specs.declared.next.Next.TheVariants as next
use Rattle.notices.specs.declared.notice.Notice.{Notice}
use Rattle.notices.specs.Scheduling.{activated, cancelled, held, next_of, passivated}
use Rattle.sim_values.specs.declared.standard.Standard.{Standard}
use Rattle.sim_values.specs.declared.standard.Standard.TheVariants as name
use Rattle.sim_values.specs.Plain.{MainOf, Object, Plain}
use Rattle.sim_code.specs.Outcome.{Run, Simulation, World}
use Rattle.sim_code.specs.Events.{computing, having, integer_in, pop_plain, popping}
use Rattle.sim_code.specs.Instances.{Memory, State, going_below, system_head}
use Rattle.sim_code.specs.Sets.{linkage_given, linkage_named, set_effect}
use Rattle.sim_code.specs.Simulations.{current_process, located, named_in, number_in, process_tells, seen, simulation_tells, with_end, with_simulation}

-- ---- who goes on

-- The object of the process that goes on; there is none where it is the main program.
abbrev pub some_object : Option ℕ → Option (Option ℕ)
some_object None = None
some_object (Some j) = Some (Some j)

abbrev pub component_of : Simulation → (number : ℕ) → Option (Option ℕ)
component_of x zero = Some None
component_of x (suc n) = some_object (slice_get x.processes n)

module _ {C A : Type 0} (owner : A → Option ℕ) where
  -- Where the first process is as before, control stays where it is. Else its object is resumed, or the main component gets control.
  abbrev pub going_to : (line : ℕ) → World → (chain : List A) → Memory C A → Simulation → Next → Run (State C A)
  going_to line o chain m x next.Stay = going_below o chain m
  going_to line o chain m x (next.Resume p) =
      having (component_of x p.0) o (λ y.
      computing line (give_control_to owner (system_head m) (record { operating = chain; standings = m.standings }) x.block y) o (λ c.
      going_below o c.operating (record m { standings = c.standings })))

  -- The list of notices that a procedure leaves decides, or the procedure is refused. The simulation stands at a place among all.
  unfoldable pub deciding : (line : ℕ) → World → (chain : List A) → Memory C A → (ℕ × Simulation) → Result (List Notice) RunError → Run (State C A)
  deciding line o chain m x r =
      computing line r o (λ notices.
      computing line (next_of x.1.notices notices) o (λ next.
      going_to line (with_simulation o x.0 (record x.1 { notices = notices })) chain m x.1 next))

-- ---- the procedures

-- the simulation block of a process; `around` gives the encloser of an object
abbrev pub block_around : (around : ℕ → Option ℕ) → Plain → Option ℕ
block_around around (Object j) = around j
block_around around (MainOf b) = Some b
block_around around _ = None

-- what a process tells that is on top
unfoldable pub performing_process : {V S : Type 0} → (plain : V → Option Plain) → (around : ℕ → Option ℕ) → Standard → (line : ℕ) → List V → World → (Plain → List V → Run S) → Run S
performing_process plain around name line stack o go =
    pop_plain plain stack o (λ p rest.
    having (block_around around p) o (λ b.
    having (located o.simulations b) o (λ x.
    having (number_in x.1 p) o (λ n.
    having (process_tells name x.1 n) o (λ r.
    computing line r o (λ v. go v rest))))))

module _ {V S : Type 0} (plain : V → Option Plain) (link : V → Option ℕ) where
  -- the simulation of the block to which a link leads
  unfoldable pub pop_block : List V → World → ((block : ℕ) → (ℕ × Simulation) → List V → Run S) → Run S
  pop_block stack o go = popping stack o (λ v rest. having (link v) o (λ b. having (located o.simulations b) o (λ x. go b x rest)))

  -- The current process goes last into the set of a head.
  abbrev pub waiting_in : (given : Option ℕ) → World → Simulation → (World → Run S) → Run S
  waiting_in h o x go =
      having (current_process x) o (λ p.
      having (linkage_named o.members p) o (λ y.
      having (set_effect name.Into (named_in o.simulations) o.members y h) o (λ effect.
      go (record o { members = effect.members }))))

  -- A procedure of a simulation block: the block is below the actuals. Some give a value; what the others leave decides who goes on. The process
  -- that comes to its end, if it is one, is terminated before it passivates.
  unfoldable pub performing_simulation : (in_process : (block : ℕ) → Plain → Option Bool) → (ending : Option ℕ) → Standard → List V → World
      → (give : Plain → List V → Run S) → (decide : World → (ℕ × Simulation) → Result (List Notice) RunError → List V → Run S) → Run S
  performing_simulation in_process ending name.Hold stack o give decide =
      pop_plain plain stack o (λ v rest. having (integer_in v) o (λ t.
      pop_block rest o (λ b x rest. decide o x (held t x.1.notices) rest)))
  performing_simulation in_process ending name.Passivate stack o give decide =
      pop_block stack o (λ b x rest. decide o (x.0, with_end ending x.1) (Ok (passivated x.1.notices)) rest)
  performing_simulation in_process ending name.Wait stack o give decide =
      pop_plain plain stack o (λ v rest. having (linkage_given o.members v) o (λ h.
      pop_block rest o (λ b x rest. waiting_in h o x.1 (λ o. decide o x (Ok (passivated x.1.notices)) rest))))
  performing_simulation in_process ending name.Cancel stack o give decide =
      pop_plain plain stack o (λ v rest.
      pop_block rest o (λ b x rest. having (seen (in_process b) x.1 v) o (λ p. decide o x (cancelled p x.1.notices) rest)))
  performing_simulation in_process ending name stack o give decide =
      pop_block stack o (λ b x rest. having (simulation_tells name x.1) o (λ v. give v rest))

-- ---- activations

-- when the process of an activation is to go on
pub data Timing : Type 0 where
  Directly : Timing
  AtTime : (prior : Bool) → Timing
  WithDelay : (prior : Bool) → Timing
  Beside : (before : Bool) → Timing

abbrev pub has_operand : Timing → Bool
has_operand Directly = false
has_operand _ = true

abbrev pub timing_of : ℕ → Option Timing
timing_of zero = Some Directly
timing_of (suc zero) = Some (AtTime false)
timing_of (suc (suc zero)) = Some (AtTime true)
timing_of (suc (suc (suc zero))) = Some (WithDelay false)
timing_of (suc (suc (suc (suc zero)))) = Some (WithDelay true)
timing_of (suc (suc (suc (suc (suc zero))))) = Some (Beside true)
timing_of (suc (suc (suc (suc (suc (suc zero)))))) = Some (Beside false)
timing_of _ = None

abbrev pub at_time : (ℤ → Placement) → Option ℤ → Option Placement
at_time f None = None
at_time f (Some t) = Some (f t)

abbrev pub beside : (before : Bool) → Option (Option ProcessRef) → Option Placement
beside before None = None
beside true (Some y) = Some (place.Before y)
beside false (Some y) = Some (place.After y)

abbrev pub time_in : Option Plain → Option ℤ
time_in None = None
time_in (Some v) = integer_in v

abbrev pub process_in : (Plain → Option (Option ProcessRef)) → Option Plain → Option (Option ProcessRef)
process_in sees None = None
process_in sees (Some v) = sees v

-- where the notice is to be put
abbrev pub placement : Timing → (sees : Plain → Option (Option ProcessRef)) → (operand : Option Plain) → Option Placement
placement Directly sees v = Some place.Direct
placement (AtTime prior) sees v = at_time (λ t. place.At t prior) (time_in v)
placement (WithDelay prior) sees v = at_time (λ t. place.Delay t prior) (time_in v)
placement (Beside before) sees v = beside before (process_in sees v)

module _ {V S : Type 0} (plain : V → Option Plain) (link : V → Option ℕ) where
  unfoldable pub pop_operand_if : Bool → List V → World → (Option Plain → List V → Run S) → Run S
  pop_operand_if false stack o go = go None stack
  pop_operand_if true stack o go = pop_plain plain stack o (λ v rest. go (Some v) rest)

  -- the block, the process, and the operand, if there is one, which is on top
  unfoldable pub performing_activation : (in_process : (block : ℕ) → Plain → Option Bool) → (again : Bool) → Timing → List V → World
      → (decide : World → (ℕ × Simulation) → Result (List Notice) RunError → List V → Run S) → Run S
  performing_activation in_process again timing stack o decide =
      pop_operand_if (has_operand timing) stack o (λ operand rest.
      pop_plain plain rest o (λ v rest.
      pop_block plain link rest o (λ b x rest.
      having (seen (in_process b) x.1 v) o (λ p.
      having (placement timing (seen (in_process b) x.1) operand) o (λ where_to.
      decide o x (activated (record { process = p; again = again; placement = where_to }) x.1.notices) rest)))))

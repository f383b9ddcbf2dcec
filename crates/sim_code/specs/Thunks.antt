-- Parameters by name, and those of checked calls. The actual parameter is code of its own, a thunk, which is run for the frame in which the actual
-- stands: at each use of a formal parameter by name, and once at a checked call. It gives a value, or where a variable lies. The meaning and the machine use the same words.
use Rattle.std.specs.Prelude.{ℕ, zero, suc, Bool, true, false, List, [], ◌∷◌, slice_get, Option, Some, None}
use Rattle.sim_base.specs.declared.limits.Limits.{Limits}
use Rattle.sim_base.specs.declared.run_error.RunError.TheVariants.{ActualIsNoVariable}
use Rattle.sim_code.specs.declared.instr.Lined.{Lined}
use Rattle.sim_code.specs.declared.stage.Stage.TheVariants as stage
use Rattle.sim_code.specs.Code.{CodeOf}
use Rattle.sim_code.specs.Events.{having, stopping, ticking, when}
use Rattle.sim_code.specs.Instances.{is_live}
use Rattle.sim_code.specs.Machine.{Activation, Address, Frames, Machine, Value, cell, is_roomy, thunk_in, value_at, waiting}
use Rattle.sim_code.specs.Outcome.{Going, Run, RunFault, World}

-- ---- what meaning and machine share

-- goes on with where a variable lies. Where the actual parameter is none, its value is enough for some uses; for the others that is E9.
unfoldable pub locating : {S : Type 0} → (line : ℕ) → (is_place value_too : Bool) → World → Run S → Run S
locating line true value_too o r = r
locating line false true o r = r
locating line false false o r = stopping (RunFault ActualIsNoVariable line) o

-- ---- thunks on the chain

-- the value that an actual parameter gave: itself, or what is where it lies
abbrev pub value_given : World → Frames → Value → Option Value
value_given o m (Address p) = value_at o m p
value_given o m v = Some v

abbrev pub is_place : Value → Bool
is_place (Address p) = true
is_place _ = false

-- a thunk begins on top of a chain
unfoldable pub in_thunk : CodeOf → World → Frames → (thunk home : ℕ) → List Activation → Run Machine
in_thunk code o m t home below =
    when (is_live m home) o (having (slice_get code.thunks t) o (λ x. having (slice_get code.instrs x.entry) o (λ _.
    Going o (record { chain = record { thunk = Some t; home = home; pc = x.entry; stack = []; room = x.room; stage = stage.NoStage } ∷ below; memory = m }))))

-- A use of a formal parameter by name, which is in a cell, takes a tick and runs its thunk. The frame on top, which has room for what the thunk gives,
-- waits behind its instruction, which tells what is done with that.
abbrev pub using_name : CodeOf → Limits → World → Frames → Activation → List Activation → (frame cell : ℕ) → Run Machine
using_name code l o m a below j c =
    having (cell m j c) o (λ v. having (thunk_in v) o (λ t. when (is_roomy a) o (ticking l o (λ p. in_thunk code p m t.0 t.1 (waiting a a.stack ∷ below)))))

-- the instruction for which a thunk is run: the one in front of the place where the activation goes on that waits for it
abbrev pub instruction_before : CodeOf → (pc : ℕ) → Option Lined
instruction_before code zero = None
instruction_before code (suc p) = slice_get code.instrs p

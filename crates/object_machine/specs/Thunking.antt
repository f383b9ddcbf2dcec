-- Thunks, and what is done with what they give.
use Rattle.std.specs.Prelude.{◌≡◌, ℕ, ℤ, List, ◌∷◌, Option, Some, None, Result, Ok, Err}
use Rattle.sim_base.specs.declared.limits.Limits.{Limits}
use Rattle.sim_code.specs.declared.code.ThunkRecord.{ThunkRecord}
use Rattle.sim_code.specs.declared.instr.Lined.{Lined}
use Rattle.sim_code.specs.Code.{CodeOf}
use Rattle.sim_code.specs.Events.{having, no_rule, stopping}
use Rattle.sim_code.specs.Machine.{Activation, Frames, Machine, Value, at, cell, cell_at, pushing, thunk_in, waiting}
use Rattle.sim_code.specs.Outcome.{Run, RunFault, World}
use Rattle.sim_code.specs.Thunks.{in_thunk}
use Rattle.frame_arena.specs.declared.frames.Frame.{Frame}
use Rattle.frame_arena.specs.declared.slot.Slot.{Slot}
use Rattle.frame_arena.specs.Frames.{Leads}
use Rattle.frame_arena.specs.Slots.{value_of}
use Rattle.object_machine.specs.declared.machine.Activation as working
use Rattle.object_machine.specs.declared.machine.Flow.{Flow}
use Rattle.object_machine.specs.declared.machine.Flow.TheVariants as flow
use Rattle.object_machine.specs.declared.machine.Registers.{Registers}
use Rattle.object_machine.specs.declared.machine.Storage.{Storage}
use Rattle.object_machine.specs.declared.thunks.ThunkInHand.{ThunkInHand}
use Rattle.object_machine.specs.Placing.{LeadsFrom}
use Rattle.object_machine.specs.Standing.{Leaves, Outside, Stands, activation_at, below_of}

-- ---- thunks that are found

-- a thunk, and its home
abbrev pub numbers_of : Option ThunkInHand → Option (ℕ × ℕ)
numbers_of None = None
numbers_of (Some t) = Some (t.thunk, t.home.stamp)

abbrev pub IsThunk : Option ThunkInHand → Value → Type 0
IsThunk r v = numbers_of r ≡ thunk_in v

abbrev pub HomeLeads : List Frame → Frames → Option ThunkInHand → Type 0
HomeLeads frames m None = Unit {0}
HomeLeads frames m (Some t) = Leads frames m t.home

-- the thunk in a cell at a level of a frame at work
abbrev pub FindsThunk : Option ThunkInHand → List Frame → World → Frames → Activation → (level cell : ℤ) → Type 0
FindsThunk r frames o m a level c =
    HomeLeads frames m r × ((go : ℕ × ℕ → Run Machine) → cell_at m a level c o (λ j c. having (cell m j c) o (λ v. having (thunk_in v) o go)) ≡ having (numbers_of r) o go)

-- ---- a thunk begins

-- what the beginning of a thunk answers and leaves, whose home leads to its frame
unfoldable pub OpensThunk : Flow → List Lined → List ThunkRecord → (p p2 : Storage) → ThunkInHand → (r r2 : Registers) → (stack stack2 : List Slot) → (below below2 : List working.Activation) → Type 0
OpensThunk f instrs thunks p p2 t r r2 stack stack2 below below2 =
    (code : CodeOf) (l : Limits) (line : ℕ) (before : Option (List ℕ)) (now : Outside) (o : World) (m : Frames) → code.instrs ≡ instrs → code.thunks ≡ thunks →
    Stands l p r stack below before now o m → Leads p.frames.items m t.home →
    Leaves f l line p2 r2 stack2 below2 before now (in_thunk code o m t.thunk t.home.stamp (waiting (activation_at r stack) (activation_at r stack).stack ∷ below_of below))

-- ---- what a thunk gives

-- the references in what was asked for lead to their frame or array
abbrev pub AnswerLeads : Result Slot Flow → Storage → World → Frames → Type 0
AnswerLeads (Ok x) p o m = LeadsFrom p o m x
AnswerLeads (Err f) p o m = Unit {0}

-- What an instruction asked for of what its thunk gave, which goes to the activation that waits; or how the run ends.
abbrev pub Asked : Result Slot Flow → World → Frames → (waiting : Activation) → (rest : List Activation) → Run Machine → Type 0
Asked (Ok x) o m b rest run = run ≡ pushing b.room b.stack (value_of x) o (λ stack. at o m b b.pc stack rest)
Asked (Err (flow.FaultAt f place)) o m b rest run = run ≡ stopping (RunFault f place.0) o
Asked (Err flow.NoRule) o m b rest run = run ≡ no_rule o
Asked (Err flow.Memory) o m b rest run = Unit {0}
Asked (Err _) o m b rest run = ⊥

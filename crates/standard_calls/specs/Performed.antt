-- What a standard name on the running machine's stack, texts, input and output is to do.
use Rattle.std.specs.Prelude.{◌≡◌, ℕ, ◌≤◌, List, [], ◌++◌, length, Option, Some, None}
use Rattle.std.specs.Io.KnownBytes.{Appends}
use Rattle.sim_base.specs.declared.limits.Limits.{Limits}
use Rattle.sim_ports.specs.Faults.{Rose, StopsAt}
use Rattle.sim_values.specs.declared.standard.Standard.{Standard}
use Rattle.sim_values.specs.declared.value.TextVal.{TextVal}
use Rattle.sim_values.specs.Plain.{Plain}
use Rattle.sim_values.specs.Standard.{operands_of, row_of, standard_effect}
use Rattle.sim_values.specs.Store.{Store}
use Rattle.sim_values.specs.Texts.{Frame}
use Rattle.sim_code.specs.Outcome.{Run, RunFault, StorageExhausted, World}
use Rattle.sim_code.specs.Events.{computing, having, no_rule, pop_operands, stopping, taking, when}
use Rattle.sim_code.specs.Machine.{Machine, Value, plain}
use Rattle.sim_code.specs.Rows.{has_room, with_value}
use Rattle.basic_io.specs.Input.{HeldInput, left_of}
use Rattle.frame_arena.specs.declared.slot.Slot.{Slot}
use Rattle.frame_arena.specs.Stacks.{values_of}
use Rattle.standard_calls.specs.declared.names.Performed.{Performed}
use Rattle.standard_calls.specs.declared.names.Performed.TheVariants as performed

-- The texts, the image of sysin with what is held of the input, the bytes that are left of its source, the image of sysout, the bytes at
-- the sink, where they are told, and the words in use.
pub record Parts : Type 0 where
  pub frames : List Frame
  pub input : HeldInput
  pub source : List ℕ
  pub image : TextVal
  pub sink : Option (List ℕ)
  pub words : ℕ

abbrev pub parts : List Frame → HeldInput → (source : List ℕ) → (image : TextVal) → (sink : Option (List ℕ)) → (words : ℕ) → Parts
parts frames input source image sink words = record { frames = frames; input = input; source = source; image = image; sink = sink; words = words }

-- the store of these parts, in which so much was written
abbrev pub store_of : Parts → (written : List ℕ) → Store
store_of p written = record { frames = p.frames; sysin = p.input.image; endfile = p.input.endfile; left = left_of p.input.held p.source; sysout = p.image; written = written }

-- a stack with so many values
pub record Held : Type 0 where
  pub depth : ℕ
  pub slots : List Slot

abbrev pub held : ℕ → List Slot → Held
held depth slots = record { depth = depth; slots = slots }

-- a world of these parts, whose words are within the budget
pub record Agrees (l : Limits) (o : World) (now : Parts) : Type 0 where
  pub frames : o.store.frames ≡ now.frames
  pub sysin : o.store.sysin ≡ now.input.image
  pub endfile : o.store.endfile ≡ now.input.endfile
  pub left : o.store.left ≡ left_of now.input.held now.source
  pub image : o.store.sysout ≡ now.image
  pub words : o.words ≡ now.words
  pub budget : now.words ≤ l.storage

-- the world with other parts, and so many bytes more written
abbrev pub wrote : World → Parts → List ℕ → World
wrote o new bytes = record o { words = new.words; store = store_of new (o.store.written ++ bytes) }

-- A standard name on operands that are plain values. It goes on with its text operand at another position, if it moves that, and with its
-- value, if it has one.
unfoldable pub does : Limits → (line : ℕ) → Standard → List Value → World → (World → Option TextVal → Option Plain → List Value → Run Machine) → Run Machine
does l line name stack o go =
    pop_operands plain (length (operands_of (row_of name).function)) None stack o (λ vs first rest.
    having (standard_effect name vs o.store) o (λ effect.
    taking l line effect.wanted o (λ p.
    computing line effect.answer (record p { store = effect.store }) (λ value.
    go (record p { store = effect.store }) effect.moved value rest))))

-- what the machine does at a standard name: there is room for its value, and it is performed
abbrev pub standard_row : Limits → (line : ℕ) → Standard → Held → World → (World → Option TextVal → List Value → Run Machine) → Run Machine
standard_row l line name stack o go =
    when (has_room (length stack.slots) (length (values_of stack.depth stack.slots)) (length (operands_of (row_of name).function)) (row_of name).result) o
    (does l line name (values_of stack.depth stack.slots) o (λ p moved value rest. go p moved (with_value value rest)))

-- the row is this run, in whatever world these parts stand
abbrev pub RowIs : (budget : ℕ) → Standard → Held → Parts → ((line : ℕ) → World → (World → Option TextVal → List Value → Run Machine) → Run Machine) → Type 0
RowIs budget name stack old run =
    (l : Limits) (line : ℕ) (o : World) (go : World → Option TextVal → List Value → Run Machine) → l.storage ≡ budget → Agrees l o old → standard_row l line name stack o go ≡ run line o go

-- the call did what the row does, and the sink got what that writes
abbrev pub IsDone : (budget : ℕ) → Standard → Held → Parts → Parts → (moved : Option TextVal) → Held → Type 0
IsDone budget name old_stack old new moved stack =
    (bytes : List ℕ) × Appends old.sink new.sink bytes × (old.words ≤ budget → new.words ≤ budget)
    × RowIs budget name old_stack old (λ line o go. go (wrote o new bytes) moved (values_of stack.depth stack.slots))

-- The sink failed: it got some first bytes of what the row writes.
abbrev pub IsCut : (budget : ℕ) → Standard → Held → Parts → Parts → Type 0
IsCut budget name old_stack old new =
    (bytes : List ℕ) × Appends old.sink new.sink bytes
    × ((l : Limits) (line : ℕ) (o : World) → l.storage ≡ budget → Agrees l o old →
    (p : World) × (values : List Value) × (more : List ℕ)
    × (p.store.written ≡ o.store.written ++ (bytes ++ more))
    × ((go : World → Option TextVal → List Value → Run Machine) → standard_row l line name old_stack o go ≡ go p None values))

-- After a call: it is done; there is no rule; there is a run-time error, behind what was done before it; the words that it wants are not
-- left; or the sink failed. Where memory is wanting or the source failed nothing is said but that nothing was written.
abbrev pub PerformedAs : Performed → (budget : ℕ) → Standard → (old_stack : Held) → (slots : List Slot) → (old new : Parts) → Type 0
PerformedAs (performed.Depth depth) budget name old_stack slots old new = IsDone budget name old_stack old new None (held depth slots)
PerformedAs (performed.Moved depth text) budget name old_stack slots old new = IsDone budget name old_stack old new (Some text) (held depth slots)
PerformedAs performed.NoRule budget name old_stack slots old new = (new ≡ old) × RowIs budget name old_stack old (λ line o go. no_rule o)
PerformedAs (performed.Fault e) budget name old_stack slots old new =
    Appends old.sink new.sink [] × (old.words ≤ budget → new.words ≤ budget) × RowIs budget name old_stack old (λ line o go. stopping (RunFault e line) (wrote o new []))
PerformedAs (performed.Full wanted) budget name old_stack slots old new = (new ≡ old) × RowIs budget name old_stack old (λ line o go. stopping (StorageExhausted line old.words wanted) o)
PerformedAs performed.WriteFault budget name old_stack slots old new = IsCut budget name old_stack old new
PerformedAs performed.Memory budget name old_stack slots old new = Appends old.sink new.sink []
PerformedAs performed.InputFault budget name old_stack slots old new = Appends old.sink new.sink []

-- a fact about the number of values
abbrev pub IfDepth : Performed → (ℕ → Type 0) → Type 0
IfDepth (performed.Depth depth) P = P depth
IfDepth (performed.Moved depth text) P = P depth
IfDepth _ P = Unit {0}

-- a fact about a text that was moved
abbrev pub IfMoved : Performed → Type 0 → Type 0
IfMoved (performed.Moved depth text) P = P
IfMoved _ P = Unit {0}

-- a fault of the output or of the input was counted, and no other
abbrev pub PerformedFaults : Performed → (sink_before sink_now source_before source_now : ℕ) → Type 0
PerformedFaults performed.WriteFault before now source source_now = (before ≤ now) × Rose before now × (source_now ≡ source)
PerformedFaults performed.InputFault before now source source_now = (now ≡ before) × (source ≤ source_now) × Rose source source_now
PerformedFaults _ before now source source_now = (now ≡ before) × (source_now ≡ source)

-- where the output failed nothing was written after the write that failed
abbrev pub PerformedStops : {S : Type 0} → (S → Option (List ℕ)) → (S → ℕ) → S → S → Performed → Type 0
PerformedStops written faults old new performed.WriteFault = StopsAt written faults old new
PerformedStops written faults old new _ = Unit {0}

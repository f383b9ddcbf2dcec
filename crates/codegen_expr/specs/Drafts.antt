-- Code that is not yet whole.
use Rattle.std.specs.Prelude.{◌≡◌, ◌≢◌, ◌≤◌, ◌<◌, ℕ, zero, suc, max, Bool, true, false, List, [], ◌∷◌, ◌++◌, length, slice_get, slice_set, Option, Some, None}
use Rattle.sim_code.specs.declared.instr.Instr.{Instr}
use Rattle.sim_code.specs.declared.instr.Instr.TheVariants as i
use Rattle.sim_code.specs.declared.instr.Lined.{Lined}
use Rattle.sim_code.specs.Code.{CodeOf}
use Rattle.sim_code.specs.Running.{AllRun}
use Rattle.sim_code.specs.declared.code.CodeActual.{CodeActual}
use Rattle.sim_code.specs.declared.code.CodeType.{CodeType}
use Rattle.sim_code.specs.declared.code.ThunkRecord.{ThunkRecord}
use Rattle.sim_code.specs.Code as code
use Rattle.sim_scope.specs.Source.{Source}
use Rattle.codegen_expr.specs.declared.spot.Spot.{Spot}
use Rattle.codegen_expr.specs.Sites.{Site, block_number, cells_of_block, class_in, lined, prefix_of, room_of_block, types_in}

-- What is planned of a block of the code before anything is written: the number of the class whose block it is, 0 where it is that of none; how
-- many cells cost words; how many values its operand stack holds; and what each cell and temp holds at the entry.
pub record PlannedOf : Type 0 where
  pub class : ℕ
  pub cells : ℕ
  pub room : ℕ
  pub types : List CodeType

-- What is written so far: the instructions, the room on the operand stack that is enough for them, how many cells and temps are enough, and
-- whether all that was to be written is written. Where something has no code, it is not. And for each block of the code what is planned of it. And
-- the thunks so far, of which one has room for no value as long as its code is being written; and the actual parameters of checked calls.
pub record DraftOf : Type 0 where
  pub instrs : List Lined
  pub room : ℕ
  pub size : ℕ
  pub whole : Bool
  pub classes : List PlannedOf
  pub thunks : List ThunkRecord
  pub lists : List (List CodeActual)

-- one more instruction
unfoldable pub with_instr : DraftOf → Instr → (line : ℕ) → DraftOf
with_instr c x line = record { instrs = c.instrs ++ (lined x line ∷ []); room = c.room; size = c.size; whole = c.whole; classes = c.classes; thunks = c.thunks; lists = c.lists }

-- one more instruction, which may push a value on n others
unfoldable pub with_push : DraftOf → (n : ℕ) → Instr → (line : ℕ) → DraftOf
with_push c n x line = record { instrs = c.instrs ++ (lined x line ∷ []); room = max c.room (suc n); size = c.size; whole = c.whole; classes = c.classes; thunks = c.thunks; lists = c.lists }

-- the operand stack has room for a value on n others
unfoldable pub with_room : DraftOf → (n : ℕ) → DraftOf
with_room c n = record { instrs = c.instrs; room = max c.room (suc n); size = c.size; whole = c.whole; classes = c.classes; thunks = c.thunks; lists = c.lists }

-- the frame has a temp of this number
unfoldable pub with_temp : DraftOf → (temp : ℕ) → DraftOf
with_temp c temp = record { instrs = c.instrs; room = c.room; size = max c.size (suc temp); whole = c.whole; classes = c.classes; thunks = c.thunks; lists = c.lists }

-- a hole, in which an instruction is still to be written: a jump whose target is not known yet
unfoldable pub with_hole : DraftOf → DraftOf
with_hole c = record { instrs = c.instrs ++ (lined i.Halt 0 ∷ []); room = c.room; size = c.size; whole = c.whole; classes = c.classes; thunks = c.thunks; lists = c.lists }

-- an instruction in the place of a hole
unfoldable pub filled_in : DraftOf → (place : ℕ) → Instr → DraftOf
filled_in c k x = record { instrs = slice_set c.instrs k (lined x 0); room = c.room; size = c.size; whole = c.whole; classes = c.classes; thunks = c.thunks; lists = c.lists }

-- A thunk begins here. Its operand stack has room for what it gives.
unfoldable pub thunk_begun : DraftOf → DraftOf
thunk_begun c = record { instrs = c.instrs; room = 1; size = c.size; whole = c.whole; classes = c.classes; thunks = c.thunks ++ (record { entry = length c.instrs; room = 0 } ∷ []); lists = c.lists }

abbrev pub with_room_of : Option ThunkRecord → List ThunkRecord → (number room : ℕ) → List ThunkRecord
with_room_of None ts t n = ts
with_room_of (Some x) ts t n = slice_set ts t (record { entry = x.entry; room = n })

-- the code of a thunk is written, outside of which this room was enough
unfoldable pub thunk_ended : DraftOf → (number outside : ℕ) → DraftOf
thunk_ended c t n = record { instrs = c.instrs; room = n; size = c.size; whole = c.whole; classes = c.classes; thunks = with_room_of (slice_get c.thunks t) c.thunks t c.room; lists = c.lists }

-- one more list of actual parameters
unfoldable pub with_list : DraftOf → List CodeActual → DraftOf
with_list c xs = record { instrs = c.instrs; room = c.room; size = c.size; whole = c.whole; classes = c.classes; thunks = c.thunks; lists = c.lists ++ (xs ∷ []) }

-- something has no code
unfoldable pub given_up : DraftOf → DraftOf
given_up c = record { instrs = c.instrs; room = c.room; size = c.size; whole = false; classes = c.classes; thunks = c.thunks; lists = c.lists }

abbrev pub planned_or_none : Option PlannedOf → PlannedOf
planned_or_none None = record { class = 0; cells = 0; room = 0; types = [] }
planned_or_none (Some x) = x

abbrev pub planned_at : List PlannedOf → (block : ℕ) → PlannedOf
planned_at xs k = planned_or_none (slice_get xs k)

abbrev pub class_of : List PlannedOf → (block : ℕ) → ℕ
class_of xs k = (planned_at xs k).class

-- how many cells and temps the frames of a block have
abbrev pub size_of : List PlannedOf → (block : ℕ) → ℕ
size_of xs k = length (planned_at xs k).types

-- what there is in the end of what is planned
abbrev pub planned_in : Option code.BlockOf → PlannedOf
planned_in b = record { class = class_in b; cells = cells_of_block b; room = room_of_block b; types = types_in b }

-- what is planned of what stands in front of a text
abbrev pub planned_of : Source → List PlannedOf → Option ℕ → PlannedOf
planned_of s xs None = planned_or_none None
planned_of s xs (Some k) = planned_at xs (block_number s k)

unfoldable pub planned_front : Source → List PlannedOf → (text : ℕ) → PlannedOf
planned_front s xs k = planned_of s xs (prefix_of s.tables k)

-- where the own part of a text begins
abbrev pub planned_start : Source → List PlannedOf → (text : ℕ) → ℕ
planned_start s xs k = length (planned_front s xs k).types

-- a later code keeps each instruction that is not a hole
pub record Grows (code final : List Lined) : Type 0 where
  pub keeps : (k : ℕ) (x : Lined) → slice_get code k ≡ Some x → x.instr ≢ i.Halt → slice_get final k ≡ Some x

-- the last thunk whose code is being written: it has room for no value yet
abbrev pub open_if : (room number : ℕ) → (before : Option ℕ) → Option ℕ
open_if zero n o = Some n
open_if (suc r) n o = o

abbrev pub open_from : (number : ℕ) → (before : Option ℕ) → List ThunkRecord → Option ℕ
open_from n o [] = o
open_from n o (x ∷ xs) = open_from (suc n) (open_if x.room n o) xs

unfoldable pub open_thunk : List ThunkRecord → Option ℕ
open_thunk xs = open_from 0 None xs

-- a list, and a longer one that begins with it
pub record Longer {A : Type 0} (xs longer : List A) : Type 0 where
  pub more : List A
  pub front : longer ≡ xs ++ more

-- and further thunks, where the same one is being written
pub record MoreThunks (thunks later : List ThunkRecord) : Type 0 where
  pub more : List ThunkRecord
  pub front : later ≡ thunks ++ more
  pub opened : open_thunk later ≡ open_thunk thunks

-- a later list of thunks keeps each one whose code is written
pub record ThunksGrow (thunks final : List ThunkRecord) : Type 0 where
  pub keeps : (k : ℕ) (x : ThunkRecord) → slice_get thunks k ≡ Some x → x.room ≢ 0 → slice_get final k ≡ Some x

-- a code that a draft becomes in the end, for a spot: it keeps what is written, the operand stack has the room and the frame the size, and
-- another instruction follows; its thunks and its lists of actual parameters are kept; the code belongs to the thunk that is being written; and
-- its blocks are as planned
pub record Becomes (spot : Spot) (c : DraftOf) (final : CodeOf) (site : Site) : Type 0 where
  pub grows : Grows c.instrs final.instrs
  pub roomy : c.room ≤ site.room
  pub sized : c.size ≤ site.size
  pub stands : site.text ≡ spot.text
  pub temps : site.temps ≡ spot.temps
  pub taken : site.used ≡ spot.used
  pub follows : length c.instrs < length final.instrs
  pub thunked : ThunksGrow c.thunks final.thunks
  pub belongs : site.thunk ≡ open_thunk c.thunks
  pub listed : Longer c.lists final.actual_lists
  pub classed : (block : ℕ) → planned_in (slice_get final.blocks block) ≡ planned_at c.classes block

-- Behind old there is new. The draft stays whole just where all that is meant is built; and if it is whole, then whatever the code is in the
-- end, what is meant stands there in it. What is written are instructions that the machine does.
pub record Emits (spot : Spot) (old new : DraftOf) (Built : Type 0) (Here : CodeOf → Site → ℕ → ℕ → Type 0) : Type 0 where
  pub rest : List Lined
  pub front : new.instrs ≡ old.instrs ++ rest
  pub thunked : MoreThunks old.thunks new.thunks
  pub listed : Longer old.lists new.lists
  pub roomier : old.room ≤ new.room
  pub larger : old.size ≤ new.size
  pub classed : new.classes ≡ old.classes
  pub built : Built → old.whole ≡ true → new.whole ≡ true
  pub before : new.whole ≡ true → old.whole ≡ true
  pub only : new.whole ≡ true → Built
  pub fits : AllRun old.instrs → AllRun new.instrs
  pub at : new.whole ≡ true → (final : CodeOf) (site : Site) → Becomes spot new final site → Here final site (length old.instrs) (length new.instrs)

-- The parameters of objects and prefixed blocks, as the rows find them.
use Rattle.std.specs.Prelude.{ℕ, suc, List, [], ◌∷◌, Option, Some, None}
use Rattle.sim_code.specs.Machine.{Frames, Value, cell_set}
use Rattle.object_machine.specs.declared.parameters.Front.{Front}
use Rattle.object_machine.specs.Calling.{then_set}

abbrev pub front_in : Option Front → Option (ℕ × ℕ)
front_in None = None
front_in (Some f) = Some (f.cells, f.formals)

-- the memory with values in the cells of a frame, each in the one for its number; none where one has no cell
abbrev pub set_at : Frames → (frame : ℕ) → Option ℕ → Value → Option Frames
set_at m j None v = None
set_at m j (Some c) v = cell_set m j c v

abbrev pub cells_set_by : Frames → (frame : ℕ) → (place : ℕ → Option ℕ) → (number : ℕ) → List Value → Option Frames
cells_set_by m j place k [] = Some m
cells_set_by m j place k (v ∷ vs) = then_set (set_at m j (place k) v) (λ m. cells_set_by m j place (suc k) vs)

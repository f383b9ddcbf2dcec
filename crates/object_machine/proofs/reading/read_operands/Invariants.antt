use Rattle.std.proofs.Common.{◌≡◌, ◌≤◌, ℕ, List, length}
use Rattle.sim_code.specs.Machine.{Frames}
use Rattle.sim_code.specs.Outcome.{ArrayOf, World}
use Rattle.frame_arena.specs.Arrays.{AllLeadArrays, HoldsArrays}
use Rattle.frame_arena.specs.Frames.{AllLead, Holds}
use Rattle.object_machine.specs.Standing.{ports_in, ports_of}
use Rattle.object_machine.proofs.ReadOperands.{ReadTo}
use Rattle.object_machine.proofs.reading.read_operands.Given as goal

abbrev pub invariant-loop-at : goal.invariant-loop-at
invariant-loop-at l =
    (length l.stack ≡ length l.fn.stack) × (l.first ≤ l.at) × ((m : Frames) → AllLead l.frames m l.fn.stack → AllLead l.frames m l.stack)
    × ((list : List ArrayOf) → AllLeadArrays l.arrays.regions list l.fn.stack → AllLeadArrays l.arrays.regions list l.stack)
    × ((o : World) (m : Frames) (source : List ℕ) → Holds l.frames l.cells m → HoldsArrays l.arrays o.arrays → ports_in o.store ≡ ports_of l.images source → AllLead l.frames m l.fn.stack → AllLeadArrays l.arrays.regions o.arrays l.fn.stack →
    ReadTo o m l.first l.at l.fn.stack l.stack)

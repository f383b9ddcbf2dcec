use Rattle.std.proofs.Common.{◌≡◌, List, drop}
use Rattle.sim_code.specs.Code.{CodeOf}
use Rattle.sim_code.specs.Formals.{each, holders_agree}
use Rattle.sim_code.specs.Machine.{Frames}
use Rattle.frame_arena.specs.declared.slot.Slot.{Slot}
use Rattle.frame_arena.specs.Frames.{Holds, Leads}
use Rattle.object_machine.proofs.checking.all_agree.Given as goal

abbrev pub invariant-loop-at : goal.invariant-loop-at
invariant-loop-at l =
    (code : CodeOf) (cells : List Slot) (m : Frames) → code.blocks ≡ l.blocks → code.classes ≡ l.classes → Holds l.frames cells m → Leads l.frames m l.parent → Leads l.frames m l.home →
    each (holders_agree code m l.parent.stamp l.home.stamp) l.formals l.actuals ≡ each (holders_agree code m l.parent.stamp l.home.stamp) (drop l.at l.formals) (drop l.at l.actuals)

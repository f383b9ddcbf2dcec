use Rattle.std.proofs.Common.{refl}
use Rattle.std.specs.Prelude.{pos}
use Rattle.object_machine.specs.Standing.{Obeys}
use Rattle.object_machine.proofs.Scalars.{scalar_leads, scalar_leads_array}
use Rattle.sim_values.specs.Plain.{Nothing}
use Rattle.frame_arena.specs.declared.slot.Slot.{Slot}
use Rattle.frame_arena.specs.declared.slot.SlotKind.TheVariants as kind
use Rattle.object_machine.proofs.operands.push_none.Goals as goal

pub returns-clause-row : goal.returns-clause-row
unfolding Obeys
returns-clause-row c l line p below now before o m s =
    let slot : Slot = record { kind = kind.Nothing; code = 0; name = 0; more = 0; class = 0; «data» = pos 0 } in
    c.push.ensures.row l line p below before now o m s (scalar_leads p.frames.items m slot Nothing refl refl) (scalar_leads_array p.arrays.regions o.arrays slot Nothing refl refl)

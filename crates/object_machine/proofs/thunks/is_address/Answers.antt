use Rattle.std.proofs.Common.{sym, ap}
use Rattle.sim_code.specs.Thunks.{is_place}
use Rattle.frame_arena.specs.Slots.{value_by}
use Rattle.object_machine.proofs.ThunkRows.{is_no_place}
use Rattle.object_machine.proofs.thunks.is_address.Goals as goal

pub returns-in-Cell : goal.returns-in-Cell
returns-in-Cell c = ap (λ k. is_place (value_by k c.args.slot)) (sym c.in-Cell.is)

pub returns-in-Element : goal.returns-in-Element
returns-in-Element c = ap (λ k. is_place (value_by k c.args.slot)) (sym c.in-Element.is)

pub returns-in-Image : goal.returns-in-Image
returns-in-Image c = ap (λ k. is_place (value_by k c.args.slot)) (sym c.in-Image.is)

pub returns-in_default : goal.returns-in_default
returns-in_default c = is_no_place c.args.slot c.in_default.not-Cell c.in_default.not-Element c.in_default.not-Image

use Rattle.std.proofs.Common.{◌+◌, ap, sym, subst, refl, arith}
use Rattle.std.specs.Prelude.{true, slice_set}
use Rattle.sim_code.specs.Machine.{cell_set}
use Rattle.frame_arena.specs.Slots.{value_by, value_of}
use Rattle.frame_arena.specs.Frames.{HoldsAfter}
use Rattle.frame_arena.proofs.Leading.{all_lead_arrays_set, no_array_leads, no_frame_leads, set_leading}
use Rattle.frame_arena.proofs.Reading.{has_value}
use Rattle.frame_arena.proofs.Spans.{nothing_slot, span_past, span_writes}
use Rattle.frame_arena.proofs.frames.hold_in.Goals as goal

pub returns-then-cell-span-clause-holds : goal.returns-then-cell-span-clause-holds
returns-then-cell-span-clause-holds c frames m h i leads = span_past frames c.args.cells.now m c.args.span c.args.cell h i (value_of c.args.slot.now) (omega (arith, c.if-cell-span.true))

pub returns-then-cell-span-clause-leads : goal.returns-then-cell-span-clause-leads
returns-then-cell-span-clause-leads c frames m v r leads = set_leading frames m c.args.span.number r leads c.args.cell v

pub returns-then-k-cells-clause-leads : goal.returns-then-k-cells-clause-leads
returns-then-k-cells-clause-leads c frames m v r leads = set_leading frames m c.args.span.number r leads c.args.cell v

pub returns-in-Empty-clause-holds : goal.returns-in-Empty-clause-holds
returns-in-Empty-clause-holds c frames m h i leads =
    let span = c.args.span in
    subst (λ v. HoldsAfter true frames (slice_set c.args.cells.now (span.base + c.args.cell) nothing_slot) (cell_set m span.number c.args.cell v)) (sym (ap (λ k. value_by k c.args.slot.now) c.in-Empty.is))
    (span_writes frames c.args.cells.now m span c.args.cell h i nothing_slot (omega (arith, c.if-cell-span.false)) (omega (arith, c.if-k-cells.false)) (no_frame_leads frames m nothing_slot refl) refl)

pub returns-in-Empty-clause-leads : goal.returns-in-Empty-clause-leads
returns-in-Empty-clause-leads c frames m v r leads = set_leading frames m c.args.span.number r leads c.args.cell v

pub returns-in-Empty-clause-arrays : goal.returns-in-Empty-clause-arrays
returns-in-Empty-clause-arrays c regions arrays all slot =
    all_lead_arrays_set regions arrays c.args.cells.now (c.args.span.base + c.args.cell) nothing_slot (omega (arith, c.if-k-cells.false)) all (no_array_leads regions arrays nothing_slot refl)

pub returns-in_default : goal.returns-in_default
returns-in_default c = record {
  holds = λ frames m h i leads.
      span_writes frames c.args.cells.now m c.args.span c.args.cell h i c.args.slot.now (omega (arith, c.if-cell-span.false)) (omega (arith, c.if-k-cells.false)) leads (has_value _ (value_of c.args.slot.now) c.in_default.not-Empty);
  leads = λ frames m v r leads. set_leading frames m c.args.span.number r leads c.args.cell v;
  arrays = λ regions arrays all slot. all_lead_arrays_set regions arrays c.args.cells.now (c.args.span.base + c.args.cell) c.args.slot.now (omega (arith, c.if-k-cells.false)) all slot;
}

use Rattle.std.proofs.Common.{◌+◌, arith}
use Rattle.frame_arena.specs.Slots.{value_of}
use Rattle.frame_arena.specs.Frames.{frame_at}
use Rattle.frame_arena.proofs.Entries.{writes, no_write}
use Rattle.frame_arena.proofs.Leading.{set_leading, all_lead_arrays_set}
use Rattle.frame_arena.proofs.frames.set_cell.Goals as goal

pub returns-then-cell-frame-clause-holds : goal.returns-then-cell-frame-clause-holds
returns-then-cell-frame-clause-holds c m h leads slot held =
    no_write c.args.frames.now c.args.cells.now m c.in-Some.place c.args.at.stamp c.args.cell (value_of c.args.slot) h c.in-Some.ensures.there (omega (arith, c.if-cell-frame.true))

pub returns-clause-holds : goal.returns-clause-holds
returns-clause-holds c m h leads slot held =
    writes c.args.frames.now c.args.cells.now m c.in-Some.place c.args.at.stamp c.args.cell c.args.slot h c.in-Some.ensures.there (omega (arith, c.if-cell-frame.false)) (omega (arith, c.if-k-cells.false)) slot held

pub returns-then-cell-frame-clause-leads : goal.returns-then-cell-frame-clause-leads
returns-then-cell-frame-clause-leads c m v r leads = set_leading c.args.frames.now m c.args.at.stamp r leads c.args.cell v

pub returns-then-k-cells-clause-leads : goal.returns-then-k-cells-clause-leads
returns-then-k-cells-clause-leads c m v r leads = set_leading c.args.frames.now m c.args.at.stamp r leads c.args.cell v

pub returns-in_default-clause-leads : goal.returns-in_default-clause-leads
returns-in_default-clause-leads c m v r leads = set_leading c.args.frames.now m c.args.at.stamp r leads c.args.cell v

pub returns-clause-leads : goal.returns-clause-leads
returns-clause-leads c m v r leads = set_leading c.args.frames.now m c.args.at.stamp r leads c.args.cell v

pub returns-clause-arrays : goal.returns-clause-arrays
returns-clause-arrays c regions arrays all slot = all_lead_arrays_set regions arrays c.args.cells.now ((frame_at c.args.frames.now c.in-Some.place).base + c.args.cell) c.args.slot (omega (arith, c.if-k-cells.false)) all slot

use Rattle.std.proofs.Common.{◌+◌, arith}
use Rattle.frame_arena.specs.Frames.{frame_at}
use Rattle.frame_arena.proofs.Leading.{all_lead_arrays_set}
use Rattle.frame_arena.proofs.Entries.{frees, cells_written}
use Rattle.frame_arena.proofs.frames.set_free.Goals as goal

pub returns-clause-holds : goal.returns-clause-holds
returns-clause-holds c m h slot =
    frees c.args.frames.now c.args.cells.now m c.args.place c.args.cell c.args.slot h c.requires.there c.requires.free (omega (arith, c.if-cell-frame.false)) (omega (arith, c.if-k-cells.false)) slot

pub returns-clause-cells : goal.returns-clause-cells
returns-clause-cells c _ =
    let f = frame_at c.args.frames.now c.args.place in
    cells_written c.args.cells.now f.base f.cells c.args.cell c.args.slot (omega (arith, c.if-cell-frame.false)) (omega (arith, c.if-k-cells.false))

pub returns-clause-arrays : goal.returns-clause-arrays
returns-clause-arrays c regions arrays all slot = all_lead_arrays_set regions arrays c.args.cells.now ((frame_at c.args.frames.now c.args.place).base + c.args.cell) c.args.slot (omega (arith, c.if-k-cells.false)) all slot

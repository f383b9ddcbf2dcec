use Rattle.std.proofs.Common.{refl, ◌+◌, ◌∙◌, ap, sym, arith}
use Rattle.frame_arena.specs.Slots.{value_of, unless_empty}
use Rattle.frame_arena.specs.Stacks.{slot_at}
use Rattle.frame_arena.proofs.Reading.{read_here, read_none, empty_past, has_value}
use Rattle.frame_arena.proofs.frames.slot_in.Goals as goal

pub returns-then-cell-count-clause-value : goal.returns-then-cell-count-clause-value
returns-then-cell-count-clause-value c = sym (read_none c.args.cells.now c.args.base c.args.count c.args.cell (omega (arith, c.if-cell-count.true)))

pub returns-then-at-cells-clause-value : goal.returns-then-at-cells-clause-value
returns-then-at-cells-clause-value c =
    sym (read_here c.args.cells.now c.args.base c.args.count c.args.cell (omega (arith, c.if-cell-count.false)) ∙ empty_past c.args.cells.now (c.args.base + c.args.cell) (omega (arith, c.if-at-cells.true)))

pub returns-in-Empty-clause-value : goal.returns-in-Empty-clause-value
returns-in-Empty-clause-value c =
    sym (read_here c.args.cells.now c.args.base c.args.count c.args.cell (omega (arith, c.if-cell-count.false))
    ∙ ap (λ j. unless_empty j (value_of (slot_at c.args.cells.now (c.args.base + c.args.cell)))) c.in-Empty.is)

pub returns-in_default-clause-value : goal.returns-in_default-clause-value
returns-in_default-clause-value c =
    sym (read_here c.args.cells.now c.args.base c.args.count c.args.cell (omega (arith, c.if-cell-count.false))
    ∙ has_value _ (value_of (slot_at c.args.cells.now (c.args.base + c.args.cell))) c.in_default.not-Empty)

pub returns-in_default-clause-lies : goal.returns-in_default-clause-lies
returns-in_default-clause-lies c = (c.args.base + c.args.cell, refl)

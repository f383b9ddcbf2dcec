use Rattle.std.proofs.Common.{arith}
use Rattle.object_machine.proofs.Called.{fills, too_many}
use Rattle.object_machine.proofs.calling.is_filled.Goals as goal

pub returns-then-count-cells-clause-no : goal.returns-then-count-cells-clause-no
returns-then-count-cells-clause-no c off vs to e e2 = too_many vs c.args.first to (omega (arith, e, c.if-count-cells.true)) (omega (arith, e, e2, c.if-count-cells.true))

pub returns-then-first-cells-clause-no : goal.returns-then-first-cells-clause-no
returns-then-first-cells-clause-no c off vs to e e2 = too_many vs c.args.first to (grind (arith, e, c.if-count-eq0.false)) (omega (arith, e, e2, c.if-count-cells.false, c.if-first-cells.true))

pub returns-clause-yes : goal.returns-clause-yes
returns-clause-yes c on vs to e e2 = fills vs c.args.first to (omega (arith, e, e2, c.if-count-cells.false, c.if-first-cells.false))

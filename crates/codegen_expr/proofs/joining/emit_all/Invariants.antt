use Rattle.std.proofs.Common.{drop}
use Rattle.codegen_expr.proofs.Joins.{OwesAll}
use Rattle.codegen_expr.proofs.joining.emit_all.Given as goal

abbrev pub invariant-loop-item : goal.invariant-loop-item
invariant-loop-item l = OwesAll l.fn.spot l.fn.draft l.instrs l.line.0 l.draft (drop l.item-index l.instrs)

use Rattle.codegen_expr.proofs.Frames.{Counted}
use Rattle.codegen_expr.proofs.classes.origin_slot.Given as goal

abbrev pub invariant-loop-index : goal.invariant-loop-index
invariant-loop-index l = Counted l.bound l.process l.slot l.index

use Rattle.codegen_expr.proofs.Frames.{Searched}
use Rattle.codegen_expr.proofs.classes.connection_slot.Given as goal

abbrev pub invariant-loop-index : goal.invariant-loop-index
invariant-loop-index l = Searched l.bound l.frame l.connection l.slot l.index

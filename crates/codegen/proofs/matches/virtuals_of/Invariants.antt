use Rattle.codegen.proofs.Listed.{OwesVirtuals}
use Rattle.codegen.proofs.matches.virtuals_of.Given as goal

abbrev pub invariant-loop-index : goal.invariant-loop-index
invariant-loop-index l = OwesVirtuals l.bound l.virtuals.items l.index

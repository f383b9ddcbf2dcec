use Rattle.codegen.specs.EmitProgram.{NoInnerTo}
use Rattle.codegen.proofs.levels.first_inner.Given as goal

abbrev pub invariant-loop-index : goal.invariant-loop-index
invariant-loop-index l = NoInnerTo l.list l.index

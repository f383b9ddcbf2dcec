use Rattle.codegen.specs.Planning.{NoMarks}
use Rattle.codegen.proofs.plan.no_marks.Given as goal

abbrev pub invariant-loop-made : goal.invariant-loop-made
invariant-loop-made l = NoMarks l.done.items l.made

use Rattle.codegen.specs.Planning.{AreBlank}
use Rattle.codegen.proofs.plan.blanks.Given as goal

abbrev pub invariant-loop-made : goal.invariant-loop-made
invariant-loop-made l = AreBlank l.plan.items l.made

use Rattle.codegen.specs.Planning.{PlansTo}
use Rattle.codegen.proofs.plan.plan_texts.Given as goal

abbrev pub invariant-loop-index : goal.invariant-loop-index
invariant-loop-index l = PlansTo l.bound l.planning l.trees l.index

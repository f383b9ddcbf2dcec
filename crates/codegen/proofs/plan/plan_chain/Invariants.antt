use Rattle.std.proofs.Common.{vec_len}
use Rattle.codegen.proofs.PlanSteps.{GoesOn}
use Rattle.codegen.proofs.plan.plan_chain.Given as goal

abbrev pub invariant-loop-level : goal.invariant-loop-level
invariant-loop-level l = GoesOn l.bound l.fn.planning l.planning l.trees l.text l.chain.items

abbrev pub decreases-loop-level : goal.decreases-loop-level
decreases-loop-level l = vec_len l.chain

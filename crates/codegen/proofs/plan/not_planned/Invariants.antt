use Rattle.codegen.proofs.PlanSteps.{WalksTo}
use Rattle.codegen.proofs.plan.not_planned.Given as goal

abbrev pub invariant-loop-step : goal.invariant-loop-step
invariant-loop-step l = WalksTo l.bound l.text l.chain.items l.next l.step

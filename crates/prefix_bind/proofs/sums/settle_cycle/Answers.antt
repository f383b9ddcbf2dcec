use Rattle.std.proofs.Common.{subst, sym, ◌∙◌}
use Rattle.prefix_bind.specs.Sums.{SettledBut}
use Rattle.prefix_bind.proofs.Settling.{cycle_next}
use Rattle.prefix_bind.proofs.sums.settle_cycle.Goals as goal

pub loop-step-preserved : goal.loop-step-preserved
loop-step-preserved c =
    let s = c.args.scopes.now in
    subst (λ rows. SettledBut s rows c.in-Some.next) (sym c.set.ensures)
    (cycle_next s c.loop-step.rows.items c.loop-step.level c.in-Some.next c.loop-step.invariant (sym c.base_of.ensures ∙ c.in-Some.is))

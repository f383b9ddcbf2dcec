use Rattle.std.proofs.Common.{◌≤◌, List, sym, subst}
use Rattle.sim_code.specs.Machine.{Machine, Value, on}
use Rattle.sim_code.specs.Outcome.{Run}
use Rattle.object_machine.specs.Standing.{Obeys, activation_at, below_of}
use Rattle.object_machine.proofs.Going.{along}
use Rattle.object_machine.proofs.operands.two.Goals as goal

pub returns-clause-row : goal.returns-clause-row
unfolding Obeys
returns-clause-row c l line p below now before o m s =
    let go : List Value → Run Machine = λ st. on o m (activation_at c.args.regs.now c.args.stack.now) st (below_of below) in
    along l line p below before now _ _ _ _ _ (c.apply_two-applied.ensures.row line o go)
    (c.settle_applied.ensures.row l line p below before now o m c.args.stack.now _ s c.apply_two-applied.ensures.long (c.apply_two-applied.ensures.leads p.frames.items m s.top.slots) (c.apply_two-applied.ensures.leads_arrays p.arrays.regions o.arrays s.top.arrays_lead))

pub returns-clause-fits : goal.returns-clause-fits
returns-clause-fits c = c.settle_applied.ensures.fits _ (subst (λ n. c.args.regs.now.depth ≤ n) (sym c.apply_two-applied.ensures.long) c.requires.fits) c.apply_two-applied.ensures.within

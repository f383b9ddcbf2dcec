use Rattle.std.proofs.Common.{◌≤◌, List, sym, subst}
use Rattle.sim_code.specs.Machine.{Machine, Value, on}
use Rattle.sim_code.specs.Outcome.{Run}
use Rattle.object_machine.specs.Standing.{Obeys, activation_at, below_of}
use Rattle.object_machine.proofs.Going.{along}
use Rattle.object_machine.proofs.operands.swap.Goals as goal

pub returns-clause-row : goal.returns-clause-row
unfolding Obeys
returns-clause-row c l line p below now before o m s =
    let go : List Value → Run Machine = λ st. on o m (activation_at c.args.regs.now c.args.stack.now) st (below_of below) in
    along l line p below before now _ _ _ _ _ (c.swap-depth.ensures.row o go)
    (c.settle.ensures.row l line p below before now o m c.args.stack.now _ s c.swap-depth.ensures.long (c.swap-depth.ensures.leads p.frames.items m s.top.slots) (c.swap-depth.ensures.leads_arrays p.arrays.regions o.arrays s.top.arrays_lead))

pub returns-clause-fits : goal.returns-clause-fits
returns-clause-fits c = c.settle.ensures.fits _ (subst (λ n. c.args.regs.now.depth ≤ n) (sym c.swap-depth.ensures.long) c.requires.fits) c.swap-depth.ensures.within

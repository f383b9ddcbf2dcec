use Rattle.std.proofs.Common.{List, ap, refl}
use Rattle.sim_code.specs.Machine.{Machine, Value, on}
use Rattle.sim_code.specs.Outcome.{Run}
use Rattle.frame_arena.specs.Operators.{with_applied}
use Rattle.object_machine.specs.Standing.{activation_at, below_of}
use Rattle.object_machine.proofs.Going.{along, none, faults, depth_goes_on}
use Rattle.object_machine.proofs.operands.settle_applied.Goals as goal

pub returns-in-Depth-clause-row : goal.returns-in-Depth-clause-row
returns-in-Depth-clause-row c l line p below before now o m stack stack2 s e slots arrays =
    let go : List Value → Run Machine = λ st. on o m (activation_at c.args.regs.now stack) st (below_of below) in
    along l line p below before now _ _ stack2 _ _ (ap (λ d. with_applied d line stack2 o go) c.in-Depth.is)
    (depth_goes_on l line p below before now c.args.regs.now _ stack stack2 o m _ s e (refl, refl, refl) refl refl slots arrays)

pub returns-in-NoRule-clause-row : goal.returns-in-NoRule-clause-row
returns-in-NoRule-clause-row c l line p below before now o m stack stack2 s e slots arrays =
    let go : List Value → Run Machine = λ st. on o m (activation_at c.args.regs.now stack) st (below_of below) in
    along l line p below before now _ _ stack2 _ _ (ap (λ d. with_applied d line stack2 o go) c.in-NoRule.is) (none l line p below before now _ c.args.regs.now _ stack o m s)

pub returns-in-Fault-clause-row : goal.returns-in-Fault-clause-row
returns-in-Fault-clause-row c l line p below before now o m stack stack2 s e slots arrays =
    let go : List Value → Run Machine = λ st. on o m (activation_at c.args.regs.now stack) st (below_of below) in
    along l line p below before now _ _ stack2 _ _ (ap (λ d. with_applied d line stack2 o go) c.in-Fault.is) (faults l line p below before now _ _ c.args.regs.now _ stack o m s)

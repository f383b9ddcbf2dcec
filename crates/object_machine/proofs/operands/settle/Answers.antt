use Rattle.std.proofs.Common.{List, ap, refl}
use Rattle.sim_code.specs.Machine.{Machine, Value, on}
use Rattle.sim_code.specs.Outcome.{Run}
use Rattle.frame_arena.specs.Stacks.{with_values}
use Rattle.object_machine.specs.Standing.{activation_at, below_of}
use Rattle.object_machine.proofs.Going.{along, none, depth_goes_on}
use Rattle.object_machine.proofs.operands.settle.Goals as goal

pub returns-in_default-clause-row : goal.returns-in_default-clause-row
returns-in_default-clause-row c l line p below before now o m stack stack2 s e slots arrays =
    let go : List Value → Run Machine = λ st. on o m (activation_at c.args.regs.now stack) st (below_of below) in
    along l line p below before now _ _ stack2 _ _ (ap (λ d. with_values d stack2 o go) c.in_default.is) (none l line p below before now _ c.args.regs.now _ stack o m s)

pub returns-clause-row : goal.returns-clause-row
returns-clause-row c l line p below before now o m stack stack2 s e slots arrays =
    let go : List Value → Run Machine = λ st. on o m (activation_at c.args.regs.now stack) st (below_of below) in
    along l line p below before now _ _ stack2 _ _ (ap (λ d. with_values d stack2 o go) c.in-Some.is)
    (depth_goes_on l line p below before now c.args.regs.now _ stack stack2 o m _ s e (refl, refl, refl) refl refl slots arrays)

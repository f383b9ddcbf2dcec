use Rattle.std.proofs.Common.{rules, to_z, of_z, w64, ◌≡◌, ℕ, ◌∙◌, ap, sym, refl}
use Rattle.sim_code.specs.Events.{having}
use Rattle.sim_code.specs.Machine.{Machine, at, jumping}
use Rattle.sim_code.specs.Outcome.{Run}
use Rattle.frame_arena.specs.Stacks.{values_of}
use Rattle.object_machine.specs.Standing.{Obeys, activation_at, below_of}
use Rattle.object_machine.proofs.Going.{along, none, goes_on, jumps_on}
use Rattle.object_machine.proofs.control.jump.Goals as goal

pub returns-in_default-clause-row : goal.returns-in_default-clause-row
unfolding Obeys having
returns-in_default-clause-row c code l line p stack below now e before o m s =
    let ex : to_z w64 (of_z w64 c.args.operand) ≡ c.args.operand = search rules in
    let go : ℕ → Run Machine = λ q. at o m (activation_at c.args.regs.now stack) q (values_of c.args.regs.now.depth stack) (below_of below) in
    along l line p below before now _ c.args.regs.now stack _ _ (ap (λ z. jumping code c.args.regs.now.pc z o go) (sym ex) ∙ c.in_default.ensures.row code o go e) (none l line p below before now _ c.args.regs.now _ stack o m s)

pub returns-clause-row : goal.returns-clause-row
unfolding Obeys having
returns-clause-row c code l line p stack below now e before o m s =
    let ex : to_z w64 (of_z w64 c.args.operand) ≡ c.args.operand = search rules in
    let go : ℕ → Run Machine = λ q. at o m (activation_at c.args.regs.now stack) q (values_of c.args.regs.now.depth stack) (below_of below) in
    along l line p below before now _ _ stack _ _ (ap (λ z. jumping code c.args.regs.now.pc z o go) (sym ex) ∙ c.in-Some.ensures.row code o go e)
    (jumps_on l line p below before now _ stack _ (goes_on l line p below before now c.args.regs.now _ stack stack o m _ _ _ s (refl, refl, refl) s.top.slots s.top.arrays_lead refl refl refl))

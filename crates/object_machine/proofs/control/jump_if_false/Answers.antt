use Rattle.std.proofs.Common.{rules, to_z, of_z, w64, ◌≡◌, ℕ, ◌∙◌, ap, sym, refl}
use Rattle.sim_code.specs.Events.{having}
use Rattle.sim_code.specs.Machine.{Machine, at, jumping}
use Rattle.sim_code.specs.Outcome.{Run}
use Rattle.frame_arena.specs.Stacks.{values_of}
use Rattle.object_machine.specs.Standing.{Obeys, activation_at, below_of}
use Rattle.object_machine.proofs.Going.{along, none, depth_goes_on, goes_on, jumps_on, chosen, other_chosen}
use Rattle.std.proofs.Common.{◌-◌}
use Rattle.object_machine.proofs.control.jump_if_false.Goals as goal

pub returns-in_default-clause-row : goal.returns-in_default-clause-row
unfolding Obeys
returns-in_default-clause-row c code l line p below now e before o m s =
    along l line p below before now _ _ c.args.stack.now _ _ (c.in_default.ensures.row o _) (none l line p below before now _ c.args.regs.now _ c.args.stack.now o m s)

pub returns-then-holds-clause-row : goal.returns-then-holds-clause-row
unfolding Obeys
returns-then-holds-clause-row c code l line p below now e before o m s =
    along l line p below before now _ _ c.args.stack.now _ _ (c.in-Some.ensures.row o _ ∙ chosen _ _ _ c.if-holds.true)
    (depth_goes_on l line p below before now c.args.regs.now _ c.args.stack.now c.args.stack.now o m _ s refl (refl, refl, refl) refl refl s.top.slots s.top.arrays_lead)

pub returns-in_default-target-clause-row : goal.returns-in_default-target-clause-row
unfolding Obeys having
returns-in_default-target-clause-row c code l line p below now e before o m s =
    let ex : to_z w64 (of_z w64 c.args.operand) ≡ c.args.operand = search rules in
    let go : ℕ → Run Machine = λ q. at o m (activation_at c.args.regs.now c.args.stack.now) q (values_of (c.args.regs.now.depth - 1) c.args.stack.now) (below_of below) in
    along l line p below before now _ _ c.args.stack.now _ _ (c.in-Some.ensures.row o _ ∙ other_chosen _ _ _ c.if-holds.false ∙ (ap (λ z. jumping code c.args.regs.now.pc z o go) (sym ex) ∙ c.in_default-target.ensures.row code o go e))
    (none l line p below before now _ c.args.regs.now _ c.args.stack.now o m s)

pub returns-clause-row : goal.returns-clause-row
unfolding Obeys having
returns-clause-row c code l line p below now e before o m s =
    let ex : to_z w64 (of_z w64 c.args.operand) ≡ c.args.operand = search rules in
    let go : ℕ → Run Machine = λ q. at o m (activation_at c.args.regs.now c.args.stack.now) q (values_of (c.args.regs.now.depth - 1) c.args.stack.now) (below_of below) in
    along l line p below before now _ _ c.args.stack.now _ _ (c.in-Some.ensures.row o _ ∙ other_chosen _ _ _ c.if-holds.false ∙ (ap (λ z. jumping code c.args.regs.now.pc z o go) (sym ex) ∙ c.in-Some-target.ensures.row code o go e))
    (jumps_on l line p below before now _ c.args.stack.now _ (goes_on l line p below before now c.args.regs.now _ c.args.stack.now c.args.stack.now o m _ _ _ s (refl, refl, refl) s.top.slots s.top.arrays_lead refl refl refl))

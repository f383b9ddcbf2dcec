use Rattle.std.proofs.Common.{rules, ◌≡◌, List, ◌≤◌, ◌∙◌, ap, sym, subst, of_z, to_z, w64}
use Rattle.sim_code.specs.Machine.{Machine, Value, index, number, on}
use Rattle.sim_code.specs.Outcome.{Run}
use Rattle.frame_arena.specs.Arrays.{AllLeadArrays, HoldsArrays}
use Rattle.object_machine.specs.Standing.{Obeys, activation_at, below_of}
use Rattle.object_machine.proofs.Going.{along, none}
use Rattle.object_machine.proofs.Having.{having_none, having_some}
use Rattle.object_machine.proofs.arrays.element_address.Goals as goal

pub returns-in_default-clause-row : goal.returns-in_default-clause-row
unfolding Obeys index
returns-in_default-clause-row c l line p below now e before o m s =
    let en : to_z w64 (of_z w64 c.args.count) ≡ c.args.count = search rules in
    along l line p below before now _ _ _ _ _ (having_none (number c.args.count) o _ (c.in_default.ensures ∙ ap number en))
    (none l line p below before now _ c.args.regs.now _ c.args.stack.now o m s)

pub returns-clause-row : goal.returns-clause-row
unfolding Obeys index
returns-clause-row c l line p below now e before o m s =
    let en : to_z w64 (of_z w64 c.args.count) ≡ c.args.count = search rules in
    let go : List Value → Run Machine = λ st. on o m (activation_at c.args.regs.now c.args.stack.now) st (below_of below) in
    let lead = subst (λ a. AllLeadArrays a.regions o.arrays c.args.stack.now) e s.top.arrays_lead in
    along l line p below before now _ _ _ _ _
    (having_some (number c.args.count) c.in-Some.number o _ (c.in-Some.ensures ∙ ap number en)
    ∙ c.find_element-applied.ensures.row line o go (subst (λ a. HoldsArrays a o.arrays) e s.stores.arrays) lead)
    (c.settle_applied.ensures.row l line p below before now o m c.args.stack.now _ s c.find_element-applied.ensures.long (c.find_element-applied.ensures.leads p.frames.items m s.top.slots)
    (subst (λ a. AllLeadArrays a.regions o.arrays c.find_element-applied.new.stack) (sym e) (c.find_element-applied.ensures.leads_arrays o.arrays lead)))

pub returns-clause-fits : goal.returns-clause-fits
returns-clause-fits c = c.settle_applied.ensures.fits _ (subst (λ n. c.args.regs.now.depth ≤ n) (sym c.find_element-applied.ensures.long) c.requires.fits) c.find_element-applied.ensures.within

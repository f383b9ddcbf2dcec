use Rattle.std.proofs.Common.{◌-◌, ◌+◌, List, ap, subst, sym, refl, ◌∙◌}
use Rattle.sim_base.specs.declared.run_error.RunError.TheVariants.{OutsideQualification}
use Rattle.sim_code.specs.Machine.{Frames, Machine, Value, on, place_in, variable_in}
use Rattle.sim_code.specs.Outcome.{Run, World}
use Rattle.frame_arena.specs.Frames.{Holds, SlotLeads}
use Rattle.frame_arena.specs.Slots.{value_of}
use Rattle.frame_arena.specs.Stacks.{slot_at, values_of}
use Rattle.object_machine.specs.Classing.{unclassed}
use Rattle.object_machine.specs.Placing.{LeadsFrom}
use Rattle.object_machine.specs.Standing.{Obeys, activation_at, below_of}
use Rattle.object_machine.proofs.ClassRows.{Put, Stored, admitted, not_admitted, not_stored, refused, stored}
use Rattle.object_machine.proofs.Going.{along, faults, no_rule_in}
use Rattle.object_machine.proofs.Putting.{put_few, put_two}
use Rattle.object_machine.proofs.objects.qualified_put.Goals as goal

pub returns-then-regs-lt2-clause-row : goal.returns-then-regs-lt2-clause-row
unfolding Obeys
returns-then-regs-lt2-clause-row c code l line below now e1 e2 before o m s =
    let r = c.args.regs.now in
    let stack = c.args.stack.now in
    let p = c.args.storage.now in
    let K : List Value → World → Frames → Run Machine = λ st w m2. on w m2 (activation_at r stack) st (below_of below) in
    no_rule_in l line p p below before now _ _ _ _ o m s (put_few code line o m K r.depth stack c.if-regs-lt2.true)

pub returns-then-is_image-clause-row : goal.returns-then-is_image-clause-row
unfolding Obeys
returns-then-is_image-clause-row c code l line below now e1 e2 before o m s =
    let r = c.args.regs.now in
    let stack = c.args.stack.now in
    let p = c.args.storage.now in
    let K : List Value → World → Frames → Run Machine = λ st w m2. on w m2 (activation_at r stack) st (below_of below) in
    let at = r.depth - 2 in
    no_rule_in l line p p below before now _ _ _ _ o m s
    (put_two code line o m K r.depth stack c.if-regs-lt2.false c.requires.fits ∙ not_stored code line (value_of (slot_at stack (at + 1))) o m (K (values_of at stack)) (variable_in (value_of (slot_at stack at))) (c.is_image.ensures.yes c.if-is_image.true))

pub returns-in_default-clause-row : goal.returns-in_default-clause-row
unfolding Obeys
returns-in_default-clause-row c code l line below now e1 e2 before o m s =
    let r = c.args.regs.now in
    let stack = c.args.stack.now in
    let p = c.args.storage.now in
    let K : List Value → World → Frames → Run Machine = λ st w m2. on w m2 (activation_at r stack) st (below_of below) in
    let at = r.depth - 2 in
    let address = slot_at stack at in
    let value = slot_at stack (at + 1) in
    let h : Holds c.deref.result.now p.cells.items m = subst (λ x. Holds x p.cells.items m) (sym c.deref.ensures.value) s.stores.frames in
    let led : SlotLeads c.deref.result.now m value = subst (λ x. SlotLeads x m value) (sym c.deref.ensures.value) (s.top.slots (at + 1)) in
    let P : Run Machine = Put code line (value_of value) o m (K (values_of at stack)) (unclassed (place_in (value_of address))) in
    let begun = put_two code line o m K r.depth stack c.if-regs-lt2.false c.requires.fits ∙ ap (Stored code line (value_of value) o m (K (values_of at stack))) (c.is_image.ensures.no c.if-is_image.false) ∙ stored code line (value_of value) o m (K (values_of at stack)) (place_in (value_of address)) (unclassed (place_in (value_of address))) c.class_at-class.result refl c.class_at-class.ensures in
    no_rule_in l line p p below before now _ _ _ _ o m s (begun ∙ not_admitted code m line c.class_at-class.result (value_of value) o P (c.in_default.ensures.row code p.cells.items m e1 e2 h led))

pub returns-then-not-admitted-clause-row : goal.returns-then-not-admitted-clause-row
unfolding Obeys
returns-then-not-admitted-clause-row c code l line below now e1 e2 before o m s =
    let r = c.args.regs.now in
    let stack = c.args.stack.now in
    let p = c.args.storage.now in
    let K : List Value → World → Frames → Run Machine = λ st w m2. on w m2 (activation_at r stack) st (below_of below) in
    let at = r.depth - 2 in
    let address = slot_at stack at in
    let value = slot_at stack (at + 1) in
    let h : Holds c.deref.result.now p.cells.items m = subst (λ x. Holds x p.cells.items m) (sym c.deref.ensures.value) s.stores.frames in
    let led : SlotLeads c.deref.result.now m value = subst (λ x. SlotLeads x m value) (sym c.deref.ensures.value) (s.top.slots (at + 1)) in
    let P : Run Machine = Put code line (value_of value) o m (K (values_of at stack)) (unclassed (place_in (value_of address))) in
    let begun = put_two code line o m K r.depth stack c.if-regs-lt2.false c.requires.fits ∙ ap (Stored code line (value_of value) o m (K (values_of at stack))) (c.is_image.ensures.no c.if-is_image.false) ∙ stored code line (value_of value) o m (K (values_of at stack)) (place_in (value_of address)) (unclassed (place_in (value_of address))) c.class_at-class.result refl c.class_at-class.ensures in
    along l line p below before now _ _ _ _ _ (begun ∙ refused code m line c.class_at-class.result (value_of value) c.in-Some.admitted o P (c.in-Some.ensures.row code p.cells.items m e1 e2 h led) c.if-not-admitted.true)
    (faults l line p below before now OutsideQualification r r stack stack o m s)

pub returns-clause-row : goal.returns-clause-row
unfolding Obeys
returns-clause-row c code l line below now e1 e2 before o m s =
    let r = c.args.regs.now in
    let stack = c.args.stack.now in
    let p = c.args.storage.now in
    let K : List Value → World → Frames → Run Machine = λ st w m2. on w m2 (activation_at r stack) st (below_of below) in
    let at = r.depth - 2 in
    let address = slot_at stack at in
    let value = slot_at stack (at + 1) in
    let h : Holds c.deref.result.now p.cells.items m = subst (λ x. Holds x p.cells.items m) (sym c.deref.ensures.value) s.stores.frames in
    let led : SlotLeads c.deref.result.now m value = subst (λ x. SlotLeads x m value) (sym c.deref.ensures.value) (s.top.slots (at + 1)) in
    let P : Run Machine = Put code line (value_of value) o m (K (values_of at stack)) (unclassed (place_in (value_of address))) in
    let begun = put_two code line o m K r.depth stack c.if-regs-lt2.false c.requires.fits ∙ ap (Stored code line (value_of value) o m (K (values_of at stack))) (c.is_image.ensures.no c.if-is_image.false) ∙ stored code line (value_of value) o m (K (values_of at stack)) (place_in (value_of address)) (unclassed (place_in (value_of address))) c.class_at-class.result refl c.class_at-class.ensures in
    let there = c.without_class-plain_address.ensures in
    let leads : LeadsFrom p o m c.without_class-plain_address.result = subst (λ z. LeadsFrom p o m z) (sym there.same) (s.top.slots at, s.top.arrays_lead at) in
    along l line c.put_down.new.storage below before now _ _ _ _ _
    (begun ∙ admitted code m line c.class_at-class.result (value_of value) c.in-Some.admitted o P (c.in-Some.ensures.row code p.cells.items m e1 e2 h led) c.if-not-admitted.false ∙ ap (Put code line (value_of value) o m (K (values_of at stack))) (sym there.place))
    (c.put_down.ensures.row l line stack below before now o m s leads (s.top.slots (at + 1), s.top.arrays_lead (at + 1)))

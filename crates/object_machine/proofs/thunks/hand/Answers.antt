use Rattle.std.proofs.Common.{rules, ◌≡◌, length, refl, sym, subst, ap, ◌∙◌}
use Rattle.std.proofs.lemmas.List.{with_items_is, places}
use Rattle.std.specs.Prelude.{None, Some}
use Rattle.sim_code.specs.Machine.{pushing}
use Rattle.frame_arena.specs.Arrays.{AllLeadArrays}
use Rattle.frame_arena.specs.Frames.{AllLead}
use Rattle.frame_arena.specs.Slots.{value_of}
use Rattle.frame_arena.specs.Stacks.{values_of, with_values}
use Rattle.object_machine.specs.declared.machine.Flow.TheVariants as flow
use Rattle.object_machine.specs.Standing.{Leaves, activation_at, below_of}
use Rattle.object_machine.specs.Thunking.{AnswerLeads, Asked}
use Rattle.object_machine.proofs.Going.{along, no_rule_in}
use Rattle.object_machine.proofs.ThunkRows.{Behind, asked_ends, value_goes}
use Rattle.object_machine.proofs.thunks.hand.Goals as goal

pub returns-in-Err-clause-row : goal.returns-in-Err-clause-row
returns-in-Err-clause-row c l line p below before now o m run s led asked =
    let r = c.args.waiting.now.registers in
    let stack = c.args.waiting.now.stack.items in
    asked_ends l line p r stack below before now o m run s r stack c.in-Err.flow (subst (λ q. Asked q o m (activation_at r stack) (below_of below) run) c.in-Err.is asked)

pub returns-in_default-clause-row : goal.returns-in_default-clause-row
returns-in_default-clause-row c l line p below before now o m run s led asked =
    let r = c.args.waiting.now.registers in
    let stack = c.args.waiting.now.stack.items in
    let value = c.in-Ok.value in
    let given = subst (λ q. Asked q o m (activation_at r stack) (below_of below) run) c.in-Ok.is asked in
    let G = Behind l line p r stack below before now o m run s in
    let room = subst (λ xs. pushing (length xs) (values_of r.depth xs) (value_of value) o G ≡ with_values None c.push.new.stack o G) c.deref_mut.ensures.value (c.in_default.ensures.row o G) in
    no_rule_in l line p p below before now _ r _ stack o m s (given ∙ room)

pub returns-clause-row : goal.returns-clause-row
returns-clause-row c l line p below before now o m run s led asked =
    let w = c.args.waiting.now in
    let r = w.registers in
    let stack = w.stack.items in
    let value = c.in-Ok.value in
    let given = subst (λ q. Asked q o m (activation_at r stack) (below_of below) run) c.in-Ok.is asked in
    let G = Behind l line p r stack below before now o m run s in
    let depth = c.in-Some.depth in
    let here = subst (λ q. AnswerLeads q p o m) c.in-Ok.is led in
    let same = c.deref_mut.ensures.value in
    let room = subst (λ xs. pushing (length xs) (values_of r.depth xs) (value_of value) o G ≡ with_values (Some depth) c.push.new.stack o G) same (c.in-Some.ensures.row o G) in
    let slots : AllLead p.frames.items m c.push.new.stack = c.in-Some.ensures.leads p.frames.items m (subst (λ xs. AllLead p.frames.items m xs) (sym same) s.top.slots) here.0 in
    let arrays : AllLeadArrays p.arrays.regions o.arrays c.push.new.stack = c.in-Some.ensures.leads_arrays p.arrays.regions o.arrays (subst (λ xs. AllLeadArrays p.arrays.regions o.arrays xs) (sym same) s.top.arrays_lead) here.1 in
    let long : length stack ≡ length c.push.new.stack = ap length (sym same) ∙ sym c.in-Some.ensures.long in
    subst (λ xs. Leaves flow.On l line p (record r { depth = depth }) xs below before now run) (sym (with_items_is w.stack c.push.new.stack (search (rules, places))))
    (along l line p below before now _ (record r { depth = depth }) c.push.new.stack _ _ (given ∙ room)
    (value_goes l line p r stack below before now o m run s (record r { depth = depth }) c.push.new.stack refl refl refl refl long slots arrays))

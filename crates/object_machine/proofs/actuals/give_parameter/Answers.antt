use Rattle.std.proofs.Common.{rules, to_z, of_z, w64, ◌≡◌, ℕ, List, length, refl, sym, subst, ap, ◌∙◌}
use Rattle.std.proofs.lemmas.List.{with_items_is, places}
use Rattle.std.specs.Prelude.{Some, None}
use Rattle.sim_code.specs.declared.code.CodeFormal.{CodeFormal}
use Rattle.sim_code.specs.Events.{having}
use Rattle.sim_code.specs.Formals.{class_held, copied_for, formal_in_hand, passing}
use Rattle.sim_code.specs.Machine.{Machine, Value, number, plain, pushing}
use Rattle.sim_code.specs.Outcome.{Run}
use Rattle.sim_code.specs.Thunks.{value_given}
use Rattle.frame_arena.specs.Arrays.{AllLeadArrays}
use Rattle.frame_arena.specs.Frames.{AllLead, Holds, SlotLeads}
use Rattle.frame_arena.specs.Slots.{value_of}
use Rattle.frame_arena.specs.Stacks.{values_of, with_values}
use Rattle.object_machine.specs.Classing.{admits}
use Rattle.object_machine.specs.Copying.{copied_as}
use Rattle.object_machine.specs.Standing.{Stands, activation_at, below_of}
use Rattle.object_machine.proofs.ClassRows.{admitted, not_admitted, refused}
use Rattle.object_machine.proofs.Formals.{CopiedTop, Room, passing_is, room_same}
use Rattle.object_machine.proofs.Going.{along, no_rule_in, stands_with}
use Rattle.object_machine.proofs.Having.{having_none, having_some}
use Rattle.object_machine.proofs.StageRows.{index_is, index_none}
use Rattle.object_machine.proofs.ThunkRows.{fault_there}
use Rattle.object_machine.proofs.actuals.give_parameter.Goals as goal

pub returns-in_default-clause-row : goal.returns-in_default-clause-row
returns-in_default-clause-row c code other below before now o m t z eb ec s led =
    let en : to_z w64 (of_z w64 c.args.formal_operand) ≡ c.args.formal_operand = search rules in
    let l = c.args.limits.now in
    let line = c.args.line.0 in
    let p = c.args.storage.now in
    let r = c.args.waiting.now.registers in
    let stack = c.args.waiting.now.stack.items in
    let vs = values_of r.depth stack in
    let a = activation_at r stack in
    let under = below_of below in
    let v = value_of c.args.given in
    let P : CodeFormal → Value → Run Machine = λ f x. passing code l line f a under x o m in
    let F : CodeFormal → Run Machine = λ f. having (value_given o m v) o (P f) in
    let R : ℕ → Run Machine = λ n. having (formal_in_hand code n vs) o F in
    no_rule_in l other p p below before now r r stack stack o m s (index_none c.args.formal_operand o R (c.in_default.ensures ∙ ap number en))

pub returns-in_default-formal_in_hand-clause-row : goal.returns-in_default-formal_in_hand-clause-row
returns-in_default-formal_in_hand-clause-row c code other below before now o m t z eb ec s led =
    let en : to_z w64 (of_z w64 c.args.formal_operand) ≡ c.args.formal_operand = search rules in
    let l = c.args.limits.now in
    let line = c.args.line.0 in
    let p = c.args.storage.now in
    let r = c.args.waiting.now.registers in
    let stack = c.args.waiting.now.stack.items in
    let vs = values_of r.depth stack in
    let a = activation_at r stack in
    let under = below_of below in
    let v = value_of c.args.given in
    let P : CodeFormal → Value → Run Machine = λ f x. passing code l line f a under x o m in
    let F : CodeFormal → Run Machine = λ f. having (value_given o m v) o (P f) in
    let R : ℕ → Run Machine = λ n. having (formal_in_hand code n vs) o F in
    let n = c.in-Some.number in
    let named = index_is c.args.formal_operand n o R (c.in-Some.ensures ∙ ap number en) in
    let is : None ≡ formal_in_hand code n vs = c.in_default-formal_in_hand.ensures.row code eb ∙ ap (λ xs. formal_in_hand code n (values_of r.depth xs)) c.deref.ensures.value in
    no_rule_in l other p p below before now r r stack stack o m s (named ∙ having_none (formal_in_hand code n vs) o F is)

pub returns-in_default-value_given-clause-row : goal.returns-in_default-value_given-clause-row
returns-in_default-value_given-clause-row c code other below before now o m t z eb ec s led =
    let en : to_z w64 (of_z w64 c.args.formal_operand) ≡ c.args.formal_operand = search rules in
    let l = c.args.limits.now in
    let line = c.args.line.0 in
    let p = c.args.storage.now in
    let r = c.args.waiting.now.registers in
    let stack = c.args.waiting.now.stack.items in
    let vs = values_of r.depth stack in
    let a = activation_at r stack in
    let under = below_of below in
    let v = value_of c.args.given in
    let P : CodeFormal → Value → Run Machine = λ f x. passing code l line f a under x o m in
    let F : CodeFormal → Run Machine = λ f. having (value_given o m v) o (P f) in
    let R : ℕ → Run Machine = λ n. having (formal_in_hand code n vs) o F in
    let n = c.in-Some.number in
    let named = index_is c.args.formal_operand n o R (c.in-Some.ensures ∙ ap number en) in
    let f = c.in-Some-formal_in_hand.formal in
    let is : Some f ≡ formal_in_hand code n vs = c.in-Some-formal_in_hand.ensures.row code eb ∙ ap (λ xs. formal_in_hand code n (values_of r.depth xs)) c.deref.ensures.value in
    let found = named ∙ having_some (formal_in_hand code n vs) f o F is in
    no_rule_in l other p p below before now r r stack stack o m s (found ∙ having_none (value_given o m v) o (P f) (c.in_default-value_given.ensures.row l before now o m s.stores led))

pub returns-in-Some-false-clause-row : goal.returns-in-Some-false-clause-row
returns-in-Some-false-clause-row c code other below before now o m t z eb ec s led =
    let en : to_z w64 (of_z w64 c.args.formal_operand) ≡ c.args.formal_operand = search rules in
    let l = c.args.limits.now in
    let line = c.args.line.0 in
    let p = c.args.storage.now in
    let r = c.args.waiting.now.registers in
    let stack = c.args.waiting.now.stack.items in
    let vs = values_of r.depth stack in
    let a = activation_at r stack in
    let under = below_of below in
    let v = value_of c.args.given in
    let P : CodeFormal → Value → Run Machine = λ f x. passing code l line f a under x o m in
    let F : CodeFormal → Run Machine = λ f. having (value_given o m v) o (P f) in
    let R : ℕ → Run Machine = λ n. having (formal_in_hand code n vs) o F in
    let n = c.in-Some.number in
    let named = index_is c.args.formal_operand n o R (c.in-Some.ensures ∙ ap number en) in
    let f = c.in-Some-formal_in_hand.formal in
    let is : Some f ≡ formal_in_hand code n vs = c.in-Some-formal_in_hand.ensures.row code eb ∙ ap (λ xs. formal_in_hand code n (values_of r.depth xs)) c.deref.ensures.value in
    let found = named ∙ having_some (formal_in_hand code n vs) f o F is in
    let value = c.in-Some-value_given.value in
    let x = value_of value in
    let leads = c.in-Some-value_given.ensures.leads l before now o m s.stores led in
    let have = found ∙ having_some (value_given o m v) x o (P f) (c.in-Some-value_given.ensures.row l before now o m s.stores led) ∙ passing_is code l line f r stack under x o m in
    let h : Holds c.deref-2.result.now p.cells.items m = subst (λ f. Holds f p.cells.items m) (sym c.deref-2.ensures.value) s.stores.frames in
    let slot : SlotLeads c.deref-2.result.now m value = subst (λ f. SlotLeads f m value) (sym c.deref-2.ensures.value) leads.0 in
    let q = class_held f in
    let held : c.class_held.result ≡ q = c.class_held.ensures in
    let Next = Room code l line f r stack under x o m in
    along l other p below before now _ _ _ _ _
    (have ∙ refused code m line q x c.in-Some-false.field-0 o Next (subst (λ k. Some c.in-Some-false.field-0 ≡ admits code m k (plain x)) held (c.in-Some-false.ensures.row code p.cells.items m eb ec h slot)) c.in-Some-false.field-0-test)
    (fault_there l other p r stack below before now o m c.args.line s)

pub returns-in-None-clause-row : goal.returns-in-None-clause-row
returns-in-None-clause-row c code other below before now o m t z eb ec s led =
    let en : to_z w64 (of_z w64 c.args.formal_operand) ≡ c.args.formal_operand = search rules in
    let l = c.args.limits.now in
    let line = c.args.line.0 in
    let p = c.args.storage.now in
    let r = c.args.waiting.now.registers in
    let stack = c.args.waiting.now.stack.items in
    let vs = values_of r.depth stack in
    let a = activation_at r stack in
    let under = below_of below in
    let v = value_of c.args.given in
    let P : CodeFormal → Value → Run Machine = λ f x. passing code l line f a under x o m in
    let F : CodeFormal → Run Machine = λ f. having (value_given o m v) o (P f) in
    let R : ℕ → Run Machine = λ n. having (formal_in_hand code n vs) o F in
    let n = c.in-Some.number in
    let named = index_is c.args.formal_operand n o R (c.in-Some.ensures ∙ ap number en) in
    let f = c.in-Some-formal_in_hand.formal in
    let is : Some f ≡ formal_in_hand code n vs = c.in-Some-formal_in_hand.ensures.row code eb ∙ ap (λ xs. formal_in_hand code n (values_of r.depth xs)) c.deref.ensures.value in
    let found = named ∙ having_some (formal_in_hand code n vs) f o F is in
    let value = c.in-Some-value_given.value in
    let x = value_of value in
    let leads = c.in-Some-value_given.ensures.leads l before now o m s.stores led in
    let have = found ∙ having_some (value_given o m v) x o (P f) (c.in-Some-value_given.ensures.row l before now o m s.stores led) ∙ passing_is code l line f r stack under x o m in
    let h : Holds c.deref-2.result.now p.cells.items m = subst (λ f. Holds f p.cells.items m) (sym c.deref-2.ensures.value) s.stores.frames in
    let slot : SlotLeads c.deref-2.result.now m value = subst (λ f. SlotLeads f m value) (sym c.deref-2.ensures.value) leads.0 in
    let q = class_held f in
    let held : c.class_held.result ≡ q = c.class_held.ensures in
    let Next = Room code l line f r stack under x o m in
    no_rule_in l other p p below before now r r stack stack o m s
    (have ∙ not_admitted code m line q x o Next (subst (λ k. None ≡ admits code m k (plain x)) held (c.in-None.ensures.row code p.cells.items m eb ec h slot)))

pub returns-in_default-push-clause-row : goal.returns-in_default-push-clause-row
returns-in_default-push-clause-row c code other below before now o m t z eb ec s led =
    let en : to_z w64 (of_z w64 c.args.formal_operand) ≡ c.args.formal_operand = search rules in
    let l = c.args.limits.now in
    let line = c.args.line.0 in
    let p = c.args.storage.now in
    let r = c.args.waiting.now.registers in
    let stack = c.args.waiting.now.stack.items in
    let vs = values_of r.depth stack in
    let a = activation_at r stack in
    let under = below_of below in
    let v = value_of c.args.given in
    let P : CodeFormal → Value → Run Machine = λ f x. passing code l line f a under x o m in
    let F : CodeFormal → Run Machine = λ f. having (value_given o m v) o (P f) in
    let R : ℕ → Run Machine = λ n. having (formal_in_hand code n vs) o F in
    let n = c.in-Some.number in
    let named = index_is c.args.formal_operand n o R (c.in-Some.ensures ∙ ap number en) in
    let f = c.in-Some-formal_in_hand.formal in
    let is : Some f ≡ formal_in_hand code n vs = c.in-Some-formal_in_hand.ensures.row code eb ∙ ap (λ xs. formal_in_hand code n (values_of r.depth xs)) c.deref.ensures.value in
    let found = named ∙ having_some (formal_in_hand code n vs) f o F is in
    let value = c.in-Some-value_given.value in
    let x = value_of value in
    let leads = c.in-Some-value_given.ensures.leads l before now o m s.stores led in
    let have = found ∙ having_some (value_given o m v) x o (P f) (c.in-Some-value_given.ensures.row l before now o m s.stores led) ∙ passing_is code l line f r stack under x o m in
    let h : Holds c.deref-2.result.now p.cells.items m = subst (λ f. Holds f p.cells.items m) (sym c.deref-2.ensures.value) s.stores.frames in
    let slot : SlotLeads c.deref-2.result.now m value = subst (λ f. SlotLeads f m value) (sym c.deref-2.ensures.value) leads.0 in
    let q = class_held f in
    let held : c.class_held.result ≡ q = c.class_held.ensures in
    let Next = Room code l line f r stack under x o m in
    let in_class = have ∙ admitted code m line q x c.in-Some-true.field-0 o Next (subst (λ k. Some c.in-Some-true.field-0 ≡ admits code m k (plain x)) held (c.in-Some-true.ensures.row code p.cells.items m eb ec h slot)) c.in-Some-true.field-0-test in
    let G : List Value → Run Machine = CopiedTop l line r.home.stamp (copied_for f) o m a under r.pc in
    let room = subst (λ xs. pushing (length xs) (values_of r.depth xs) x o G ≡ with_values None c.push.new.stack o G) c.deref_mut.ensures.value (c.in_default-push.ensures.row o G) in
    no_rule_in l other p p below before now _ r _ stack o m s (in_class ∙ room)

pub returns-clause-row : goal.returns-clause-row
returns-clause-row c code other below before now o m t z eb ec s led =
    let en : to_z w64 (of_z w64 c.args.formal_operand) ≡ c.args.formal_operand = search rules in
    let l = c.args.limits.now in
    let line = c.args.line.0 in
    let p = c.args.storage.now in
    let r = c.args.waiting.now.registers in
    let stack = c.args.waiting.now.stack.items in
    let vs = values_of r.depth stack in
    let a = activation_at r stack in
    let under = below_of below in
    let v = value_of c.args.given in
    let P : CodeFormal → Value → Run Machine = λ f x. passing code l line f a under x o m in
    let F : CodeFormal → Run Machine = λ f. having (value_given o m v) o (P f) in
    let R : ℕ → Run Machine = λ n. having (formal_in_hand code n vs) o F in
    let n = c.in-Some.number in
    let named = index_is c.args.formal_operand n o R (c.in-Some.ensures ∙ ap number en) in
    let f = c.in-Some-formal_in_hand.formal in
    let is : Some f ≡ formal_in_hand code n vs = c.in-Some-formal_in_hand.ensures.row code eb ∙ ap (λ xs. formal_in_hand code n (values_of r.depth xs)) c.deref.ensures.value in
    let found = named ∙ having_some (formal_in_hand code n vs) f o F is in
    let value = c.in-Some-value_given.value in
    let x = value_of value in
    let leads = c.in-Some-value_given.ensures.leads l before now o m s.stores led in
    let have = found ∙ having_some (value_given o m v) x o (P f) (c.in-Some-value_given.ensures.row l before now o m s.stores led) ∙ passing_is code l line f r stack under x o m in
    let h : Holds c.deref-2.result.now p.cells.items m = subst (λ f. Holds f p.cells.items m) (sym c.deref-2.ensures.value) s.stores.frames in
    let slot : SlotLeads c.deref-2.result.now m value = subst (λ f. SlotLeads f m value) (sym c.deref-2.ensures.value) leads.0 in
    let q = class_held f in
    let held : c.class_held.result ≡ q = c.class_held.ensures in
    let Next = Room code l line f r stack under x o m in
    let in_class = have ∙ admitted code m line q x c.in-Some-true.field-0 o Next (subst (λ k. Some c.in-Some-true.field-0 ≡ admits code m k (plain x)) held (c.in-Some-true.ensures.row code p.cells.items m eb ec h slot)) c.in-Some-true.field-0-test in
    let G : List Value → Run Machine = CopiedTop l line r.home.stamp (copied_for f) o m a under r.pc in
    let depth = c.in-Some-push.depth in
    let same = c.deref_mut.ensures.value in
    let stack2 = c.push.new.stack in
    let r2 = record r { depth = depth } in
    let room = subst (λ xs. pushing (length xs) (values_of r.depth xs) x o G ≡ with_values (Some depth) stack2 o G) same (c.in-Some-push.ensures.row o G) in
    let slots : AllLead p.frames.items m stack2 = c.in-Some-push.ensures.leads p.frames.items m (subst (λ xs. AllLead p.frames.items m xs) (sym same) s.top.slots) leads.0 in
    let arrays : AllLeadArrays p.arrays.regions o.arrays stack2 = c.in-Some-push.ensures.leads_arrays p.arrays.regions o.arrays (subst (λ xs. AllLeadArrays p.arrays.regions o.arrays xs) (sym same) s.top.arrays_lead) leads.1 in
    let long : length stack2 ≡ length stack = c.in-Some-push.ensures.long ∙ ap length same in
    let items = with_items_is c.args.waiting.now.stack stack2 (search (rules, places)) in
    let stands : Stands l p r2 stack2 below before now o m = stands_with l other p below before now r r2 stack stack2 o m s refl slots arrays in
    let goes = in_class ∙ room ∙ room_same code l line f r stack under x o m r2 stack2 (values_of depth stack2) refl long ∙ ap (λ k. CopiedTop l line r.home.stamp k o m (activation_at r2 stack2) under r.pc (values_of depth stack2)) (sym c.copied_for.ensures) in
    along l other _ below before now _ _ _ _ _
    (goes ∙ ap (λ xs. CopiedTop l line r.home.stamp (copied_as c.copied_for.result) o m (activation_at r2 xs) under r.pc (values_of depth xs)) (sym items))
    (c.copy_passed.ensures.row other below before now o m (subst (λ xs. Stands l p r2 xs below before now o m) (sym items) stands))

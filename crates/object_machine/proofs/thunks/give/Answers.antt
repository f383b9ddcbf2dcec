use Rattle.std.proofs.Common.{rules, to_z, of_z, w64, ◌≡◌, ◌-◌, sym, ap, ◌∙◌}
use Rattle.std.specs.Prelude.{Some, slice_get}
use Rattle.sim_code.specs.declared.instr.Instr.TheVariants as i
use Rattle.sim_code.specs.Rows.{thunk_given}
use Rattle.frame_arena.specs.Slots.{value_of}
use Rattle.object_machine.specs.Standing.{activation_at, below_of}
use Rattle.object_machine.proofs.Going.{along, no_rule_in}
use Rattle.object_machine.proofs.Jumps.{found_at, none_at}
use Rattle.object_machine.proofs.ThunkRows.{asks_nothing, at_start, none_before, one_before}
use Rattle.object_machine.proofs.thunks.give.Goals as goal

pub returns-then-pc-eq0-clause-row : goal.returns-then-pc-eq0-clause-row
returns-then-pc-eq0-clause-row c code line below before now o m eb ei ec s led =
    let l = c.args.limits.now in
    let p = c.args.storage.now in
    let w = c.args.waiting.now in
    let r = w.registers in
    let stack = w.stack.items in
    let v = value_of c.args.given in
    no_rule_in l line p p below before now r r stack stack o m s (at_start code l line p r stack below before now o m v s c.if-pc-eq0.true)

pub returns-in_default-clause-row : goal.returns-in_default-clause-row
returns-in_default-clause-row c code line below before now o m eb ei ec s led =
    let l = c.args.limits.now in
    let p = c.args.storage.now in
    let w = c.args.waiting.now in
    let r = w.registers in
    let stack = w.stack.items in
    let v = value_of c.args.given in
    no_rule_in l line p p below before now r r stack stack o m s (none_before code l line p r stack below before now o m v s c.if-pc-eq0.false (ap (λ xs. slice_get xs (r.pc - 1)) ei ∙ none_at c.args.instrs.now (r.pc - 1) c.in_default.ensures.lookup.3))

pub returns-in-NameVal-clause-row : goal.returns-in-NameVal-clause-row
returns-in-NameVal-clause-row c code line below before now o m eb ei ec s led =
    let l = c.args.limits.now in
    let p = c.args.storage.now in
    let w = c.args.waiting.now in
    let r = w.registers in
    let stack = w.stack.items in
    let v = value_of c.args.given in
    let x = c.in-Some.asking.now in
    let there : slice_get code.instrs (r.pc - 1) ≡ Some x = ap (λ xs. slice_get xs (r.pc - 1)) ei ∙ found_at c.args.instrs.now (r.pc - 1) x c.in-Some.ensures.lookup.3.0 c.in-Some.ensures.lookup.1 in
    let ez : to_z w64 (of_z w64 c.in-NameVal.class) ≡ c.in-NameVal.class = search rules in
    let z = c.in-NameVal.level in
    let k = c.in-NameVal.cell in
    let b = activation_at r stack in
    let is = ap (λ y. thunk_given code l o m b (below_of below) v x.line.0 y) (c.in-NameVal.is ∙ ap (λ q. i.NameVal z k q) (sym ez)) in
    along l line p below before now _ _ _ _ _ (one_before code l line p r stack below before now o m v s c.if-pc-eq0.false x there ∙ is)
    (c.hand.ensures.row l line p below before now o m _ s (c.value_asked-value.ensures.leads l before now o m s.stores led) (c.value_asked-value.ensures.row code l before now o m z k eb ec s.stores led b (below_of below)))

pub returns-in-NameAddr-clause-row : goal.returns-in-NameAddr-clause-row
returns-in-NameAddr-clause-row c code line below before now o m eb ei ec s led =
    let l = c.args.limits.now in
    let p = c.args.storage.now in
    let w = c.args.waiting.now in
    let r = w.registers in
    let stack = w.stack.items in
    let v = value_of c.args.given in
    let x = c.in-Some.asking.now in
    let there : slice_get code.instrs (r.pc - 1) ≡ Some x = ap (λ xs. slice_get xs (r.pc - 1)) ei ∙ found_at c.args.instrs.now (r.pc - 1) x c.in-Some.ensures.lookup.3.0 c.in-Some.ensures.lookup.1 in
    let ez : to_z w64 (of_z w64 c.in-NameAddr.value) ≡ c.in-NameAddr.value = search rules in
    let z = c.in-NameAddr.level in
    let k = c.in-NameAddr.cell in
    let b = activation_at r stack in
    let is = ap (λ y. thunk_given code l o m b (below_of below) v x.line.0 y) (c.in-NameAddr.is ∙ ap (λ q. i.NameAddr z k q) (sym ez)) in
    along l line p below before now _ _ _ _ _ (one_before code l line p r stack below before now o m v s c.if-pc-eq0.false x there ∙ is)
    (c.hand-in-NameAddr.ensures.row l line p below before now o m _ s (c.place_asked-place.ensures.leads p o m led) (c.place_asked-place.ensures.row code l o m z k b (below_of below)))

pub returns-in-Param-clause-row : goal.returns-in-Param-clause-row
returns-in-Param-clause-row c code line below before now o m eb ei ec s led =
    let l = c.args.limits.now in
    let p = c.args.storage.now in
    let w = c.args.waiting.now in
    let r = w.registers in
    let stack = w.stack.items in
    let v = value_of c.args.given in
    let x = c.in-Some.asking.now in
    let there : slice_get code.instrs (r.pc - 1) ≡ Some x = ap (λ xs. slice_get xs (r.pc - 1)) ei ∙ found_at c.args.instrs.now (r.pc - 1) x c.in-Some.ensures.lookup.3.0 c.in-Some.ensures.lookup.1 in
    let ez : to_z w64 (of_z w64 c.in-Param.formal) ≡ c.in-Param.formal = search rules in
    let t = c.in-Param.thunk in
    let q = c.in-Param.procedure in
    let b = activation_at r stack in
    let is = ap (λ y. thunk_given code l o m b (below_of below) v x.line.0 y) (c.in-Param.is ∙ ap (λ n. i.Param n t q) (sym ez)) in
    along l line _ below before now _ _ _ _ _ (one_before code l line p r stack below before now o m v s c.if-pc-eq0.false x there ∙ is)
    (c.give_parameter.ensures.row code line below before now o m t q eb ec s led)

pub returns-in_default-instr-clause-row : goal.returns-in_default-instr-clause-row
returns-in_default-instr-clause-row c code line below before now o m eb ei ec s led =
    let l = c.args.limits.now in
    let p = c.args.storage.now in
    let w = c.args.waiting.now in
    let r = w.registers in
    let stack = w.stack.items in
    let v = value_of c.args.given in
    let x = c.in-Some.asking.now in
    let there : slice_get code.instrs (r.pc - 1) ≡ Some x = ap (λ xs. slice_get xs (r.pc - 1)) ei ∙ found_at c.args.instrs.now (r.pc - 1) x c.in-Some.ensures.lookup.3.0 c.in-Some.ensures.lookup.1 in
    no_rule_in l line p p below before now r r stack stack o m s (one_before code l line p r stack below before now o m v s c.if-pc-eq0.false x there ∙ asks_nothing code l o m (activation_at r stack) (below_of below) v x.line.0 x.instr c.in_default-instr.not-NameVal c.in_default-instr.not-NameAddr c.in_default-instr.not-Param)

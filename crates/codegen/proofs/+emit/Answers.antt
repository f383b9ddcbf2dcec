use Rattle.std.proofs.Common.{rules, of_z, to_z, w64, arith, ◌≡◌, ◌<◌, ◌≤◌, ◌+◌, ◌-◌, drop, length, sym, ap, ◌∙◌, subst, true}
use Rattle.std.proofs.lemmas.List.{drop_all}
use Rattle.sim_code.specs.declared.instr.Instr.TheVariants as i
use Rattle.codegen_expr.specs.Drafts.{filled_in, with_instr}
use Rattle.codegen.proofs.Statements as w
use Rattle.codegen.proofs.Filled as filled
use Rattle.codegen.proofs.Connected as connected
use Rattle.codegen.proofs.ForLists as lists
use Rattle.codegen.proofs.Turns as turns
use Rattle.codegen.specs.EmitConnections.{FillsAll, OwesArms}
use Rattle.codegen.specs.ForElements.{in_list, view_syntax}
use Rattle.codegen.proofs.Rest.{from_drop}
use Rattle.codegen.proofs.Views.{from_get}
use Rattle.codegen.proofs.+emit.Goals as goal

pub statement::emit_statement-returns-in_ok-end-in-Some : goal.statement::emit_statement-returns-in_ok-end-in-Some
statement::emit_statement-returns-in_ok-end-in-Some t c =
    let first : to_z w64 (of_z w64 c.in_ok-start-in-Some.start) ≡ c.in_ok-start-in-Some.start = search rules in
    let second : to_z w64 (of_z w64 c.in_ok-end-in-Some.end) ≡ c.in_ok-end-in-Some.end = search rules in
    w.write_choose c.args.bound.now c.args.spot _ _ _ _ _ _ _ _ _ _ _ _ _ _ _ _ _ _ _ _ _ c.in-If.is c.in-Some.is c.deref-in-Some.ensures c.deref-in-Some-2.ensures c.in_ok-put-in-Some.ensures c.in_ok-emit_expr-in-Some.ensures c.here-jump.ensures c.in_ok-leave_hole-in-Some.ensures c.in_ok-emit_statement-in-Some.ensures c.here-over.ensures c.in_ok-leave_hole-in-Some-2.ensures c.in_ok-start-in-Some.ensures c.in_ok-emit_statement-in-Some-2.ensures c.in_ok-end-in-Some.ensures
    (c.fill_in.ensures ∙ ap (λ z. filled_in c.emit_statement-in-Some.new.draft c.here-jump.result (i.JumpF z)) first) (c.fill_in-in-Some.ensures ∙ ap (λ z. filled_in c.fill_in.new.self c.here-over.result (i.Jump z)) second)

pub statement::emit_element_of-returns-in_ok-end-in-Step : goal.statement::emit_element_of-returns-in_ok-end-in-Step
statement::emit_element_of-returns-in_ok-end-in-Step t c =
    let first : to_z w64 (of_z w64 c.in_ok-test-in-Step.test) ≡ c.in_ok-test-in-Step.test = search rules in
    let second : to_z w64 (of_z w64 c.in_ok-end-in-Step.end) ≡ c.in_ok-end-in-Step.end = search rules in
    let holds : c.takes_values.result ≡ true = search rules in
    w.write_step c.args.bound.now c.args.spot _ _ _ _ _ _ _ _ _ _ _ _ _ _ _ _ _ _ _ _ _ _ _ _ _ _ _ _ _ _ _ c.in-Step.is c.takes_values.ensures holds c.in_ok-emit_expr-in-Step.ensures c.in_ok-emit_stored-in-Step.ensures c.in_ok-emit_expr-in-Step-2.ensures c.in_ok-test-in-Step.ensures c.in_ok-put-in-Step.ensures c.in_ok-emit_loaded-in-Step.ensures c.in_ok-emit_expr-in-Step-3.ensures c.in_ok-put-in-Step-2.ensures c.here-jump-in-Step.ensures c.in_ok-leave_hole-in-Step.ensures c.in_ok-on-in-Step.ensures c.in_ok-emit_expr-in-Step-4.ensures
    c.in_ok-push-in-Step.ensures c.in_ok-emit_loaded-in-Step-2.ensures c.line_at.ensures c.in_ok-put-in-Step-3.ensures c.in_ok-emit_stored-in-Step-2.ensures (c.in_ok-put-in-Step-4.ensures ∙ ap (λ z. with_instr c.emit_stored-in-Step.new.draft (i.Jump z) 0) first) c.in_ok-end-in-Step.ensures
    (c.fill_in-in-Step.ensures ∙ ap (λ z. filled_in c.put-in-Step-4.new.self c.here-jump-in-Step.result (i.JumpF z)) second)

pub statement::emit_statements-loop-item-init : goal.statement::emit_statements-loop-item-init
statement::emit_statements-loop-item-init t c = w.statements_all c.args.bound.now c.args.spot c.args.draft.now c.args.list.now

pub statement::emit_statements-loop-item-preserved : goal.statement::emit_statements-loop-item-preserved
statement::emit_statements-loop-item-preserved t c =
    let x = c.item-item.result in
    let i = c.loop-item.item-index in
    let xs = c.args.list.now in
    w.statements_next c.args.bound.now c.args.spot c.args.draft.now c.loop-item.draft _ xs (drop i xs) (drop (i + 1) xs) x c.loop-item.invariant (from_drop xs i x c.loop-item-test.true c.item-item.is) c.in_ok-emit_statement.ensures

pub statement::emit_statements-returns : goal.statement::emit_statements-returns
statement::emit_statements-returns t c = w.statements_none c.args.bound.now c.args.spot c.args.draft.now c.loop-item.draft c.args.list.now (drop c.loop-item.item-index c.args.list.now) c.loop-item.invariant (drop_all c.loop-item.item-index c.args.list.now c.loop-item-test.false)

pub statement::emit_each-loop-index-init : goal.statement::emit_each-loop-index-init
statement::emit_each-loop-index-init t c = lists.each_all c.args.bound.now c.args.spot c.args.draft.now c.args.target (in_list c.args.elements) c.args.body.now

pub statement::emit_each-loop-index-preserved : goal.statement::emit_each-loop-index-preserved
statement::emit_each-loop-index-preserved t c =
    let x = view_syntax c.element_at-element.result in
    let k = c.loop-index.index in
    let xs = in_list c.args.elements in
    lists.each_next c.args.bound.now c.args.spot c.args.draft.now c.loop-index.draft _ c.args.target xs (drop k xs) (drop (k + 1) xs) c.args.body.now x _ c.loop-index.invariant (from_get xs k x c.element_at-element.ensures) c.in_ok-emit_element_of.ensures

pub statement::emit_each-returns : goal.statement::emit_each-returns
statement::emit_each-returns t c =
    let k = c.loop-index.index in
    let xs = in_list c.args.elements in
    lists.each_none c.args.bound.now c.args.spot c.args.draft.now c.loop-index.draft c.args.target xs (drop k xs) c.args.body.now c.loop-index.invariant (drop_all k xs (subst (λ z. z ≤ k) c.count-index-end.ensures c.loop-index-test.false))

pub statement::emit_turns-loop-number-init : goal.statement::emit_turns-loop-number-init
statement::emit_turns-loop-number-init t c = (omega arith, turns.turns_all c.args.bound.now c.args.spot c.args.draft.now c.args.target c.args.start c.args.chain (in_list c.args.elements))

pub statement::emit_turns-loop-number-preserved : goal.statement::emit_turns-loop-number-preserved
statement::emit_turns-loop-number-preserved t c =
    let k = c.loop-number.number in
    let xs = in_list c.args.elements in
    let many = c.count-last.ensures in
    let test = c.loop-number-test.true in
    let le : k < length xs - 1 = omega (arith, test, many) in
    (omega (arith, le), turns.turns_on c.args.bound.now c.args.spot c.args.draft.now c.loop-number.draft _ c.args.target c.args.start c.args.chain k _ xs _ c.loop-number.invariant.1 le c.element_at-element.ensures c.in_ok-hole.ensures c.in_ok-emit_turn_at.ensures)

pub statement::emit_turns-returns : goal.statement::emit_turns-returns
statement::emit_turns-returns t c =
    let k = c.loop-number.number in
    let xs = in_list c.args.elements in
    let many = c.count-last.ensures in
    let test = c.loop-number-test.false in
    turns.turns_end c.args.bound.now c.args.spot c.args.draft.now c.loop-number.draft _ c.args.target c.args.start c.args.chain k _ _ xs _ c.loop-number.invariant.1 c.requires.some (omega (arith, test, many)) c.loop-number.invariant.0 (omega (arith, many)) c.element_at-element-2.ensures c.in_ok-hole-2.ensures c.in_ok-emit_turn_at-2.ensures

pub connections::emit_arms-loop-arm-init : goal.connections::emit_arms-loop-arm-init
connections::emit_arms-loop-arm-init t c =
    let xs = c.args.arms.now in
    subst (λ z. OwesArms c.args.bound.now c.args.spot c.args.draft.now xs c.args.draft.now z xs) (sym c.new-overs.ensures.items) (filled.arms_all c.args.bound.now c.args.spot c.args.draft.now xs)

pub connections::emit_arms-loop-arm-preserved : goal.connections::emit_arms-loop-arm-preserved
connections::emit_arms-loop-arm-preserved t c =
    let x = c.arm-item.result in
    let i = c.loop-arm.arm-index in
    let xs = c.args.arms.now in
    filled.arms_next c.args.bound.now c.args.spot c.args.draft.now c.loop-arm.draft _ xs (drop i xs) (drop (i + 1) xs) x c.loop-arm.overs.items _ _ c.loop-arm.invariant (from_drop xs i x c.loop-arm-test.true c.arm-item.is) c.in_ok-over.ensures c.in_ok-push.ensures.items

pub connections::emit_arms-returns : goal.connections::emit_arms-returns
connections::emit_arms-returns t c =
    let xs = c.args.arms.now in
    filled.arms_open c.args.bound.now c.args.spot c.args.draft.now c.loop-arm.draft xs (drop c.loop-arm.arm-index xs) c.loop-arm.overs.items c.loop-arm.invariant (drop_all c.loop-arm.arm-index xs c.loop-arm-test.false)

pub statement::emit_statement-returns-in_ok-end-in-Inspect : goal.statement::emit_statement-returns-in_ok-end-in-Inspect
statement::emit_statement-returns-in_ok-end-in-Inspect t c =
    let first : to_z w64 (of_z w64 c.in_ok-start-in-Inspect.start) ≡ c.in_ok-start-in-Inspect.start = search rules in
    let second : to_z w64 (of_z w64 c.in_ok-end-in-Inspect.end) ≡ c.in_ok-end-in-Inspect.end = search rules in
    w.write_connects c.args.bound.now c.args.spot _ _ _ _ _ _ _ _ _ _ _ c.in-Inspect.is c.deref-in-Inspect.ensures c.in_ok-put-in-Inspect.ensures
    (connected.write_inspect c.args.bound.now c.args.spot _ _ _ _ _ _ _ _ _ _ _ _ _ _ _ _ _ _ _ _ c.in_ok-emit_expr-in-Inspect.ensures c.in_ok-push-in-Inspect.ensures c.in_ok-push-in-Inspect-2.ensures c.in_ok-put-in-Inspect-2.ensures c.in_ok-put-in-Inspect-3.ensures c.here-jump-in-Inspect.ensures c.in_ok-leave_hole-in-Inspect.ensures c.in_ok-emit_connects-in-Inspect.ensures c.here-over-in-Inspect.ensures c.in_ok-leave_hole-in-Inspect-2.ensures c.in_ok-start-in-Inspect.ensures c.in_ok-emit_otherwise-in-Inspect.ensures c.in_ok-end-in-Inspect.ensures
    (c.fill_in-in-Inspect.ensures ∙ ap (λ z. filled_in c.emit_otherwise.new.draft c.here-jump-in-Inspect.result (i.JumpF z)) first) (c.fill_in-in-Inspect-2.ensures ∙ ap (λ z. filled_in c.fill_in-in-Inspect.new.self c.here-over-in-Inspect.result (i.Jump z)) second))

pub statement::emit_statement-returns-in_ok-end-in-InspectWhen : goal.statement::emit_statement-returns-in_ok-end-in-InspectWhen
statement::emit_statement-returns-in_ok-end-in-InspectWhen t c =
    let same : to_z w64 (of_z w64 c.in_ok-end-in-InspectWhen.end) ≡ c.in_ok-end-in-InspectWhen.end = search rules in
    let old = c.emit_otherwise-in-InspectWhen.new.draft in
    let new = c.fill_all.new.draft in
    let all = subst (λ z. FillsAll old new c.in_ok-overs-in-InspectWhen.overs.items z) same (subst (λ z. FillsAll old new z (to_z w64 (of_z w64 c.in_ok-end-in-InspectWhen.end))) c.deref-in-InspectWhen-2.ensures.value c.fill_all.ensures) in
    w.write_arms c.args.bound.now c.args.spot _ _ _ _ _ _ _ _ _ _ c.in-InspectWhen.is c.deref-in-InspectWhen.ensures.value c.in_ok-put-in-InspectWhen.ensures c.in_ok-emit_expr-in-InspectWhen.ensures
    (filled.write_arms_all c.args.bound.now c.args.spot _ _ old new _ _ _ _ c.in_ok-overs-in-InspectWhen.ensures c.in_ok-emit_otherwise-in-InspectWhen.ensures c.in_ok-end-in-InspectWhen.ensures all)

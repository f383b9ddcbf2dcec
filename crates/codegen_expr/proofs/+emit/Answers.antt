use Rattle.std.proofs.Common.{rules, of_z, to_z, w64, ◌≡◌, ◌-◌, ◌+◌, List, [], ◌∷◌, length, drop, map, ap, ◌∙◌, arith, subst}
use Rattle.std.proofs.lemmas.List.{drop_all, drop_more}
use Rattle.std.proofs.lemmas.Result.{on_ok_weaker}
use Rattle.std.specs.Prelude.{slice_index_or}
use Rattle.sim_base.specs.declared.numbering.TokenNo.{TokenNo}
use Rattle.sim_tree.specs.declared.expr.Operand.{Operand}
use Rattle.sim_tree.specs.declared.expr.Term.{Term}
use Rattle.sim_tree.specs.declared.expr.Factor.{Factor}
use Rattle.sim_tree.specs.declared.operator.Operator.TheVariants as operator
use Rattle.sim_tree.specs.SyntaxOf.{Tail, factor_syntax, operand_syntax, syntax_of, term_syntax, with_operator}
use Rattle.sim_tree.proofs.SyntaxLemmas as v
use Rattle.sim_code.specs.declared.instr.Instr.TheVariants as i
use Rattle.codegen_expr.specs.Drafts.{filled_in, with_push}
use Rattle.codegen_expr.specs.Emit.{WritesNot, WritesOperands}
use Rattle.codegen_expr.proofs.Seen as n
use Rattle.codegen_expr.proofs.Written as w
use Rattle.codegen_expr.proofs.Behind as behind
use Rattle.codegen_expr.proofs.Checked as checked
use Rattle.codegen_expr.proofs.+emit.Goals as goal

pub emit::emit_expr-returns-in_ok-end-in-If : goal.emit::emit_expr-returns-in_ok-end-in-If
emit::emit_expr-returns-in_ok-end-in-If t c =
    let first : to_z w64 (of_z w64 c.in_ok-start-in-If.start) ≡ c.in_ok-start-in-If.start = search rules in
    let second : to_z w64 (of_z w64 c.in_ok-end-in-If.end) ≡ c.in_ok-end-in-If.end = search rules in
    w.write_if c.args.bound.now c.args.spot c.args.depth _ _ _ _ _ _ _ _ _ _ _ _ _ _ _ _ _ _ _ _ c.in-If.is c.deref.ensures c.deref-in-If.ensures c.deref-in-If-2.ensures c.in_ok-emit_expr-in-If.ensures c.here-jump.ensures c.in_ok-leave_hole-in-If.ensures c.in_ok-emit_expr-in-If-2.ensures c.here-over.ensures c.in_ok-leave_hole-in-If-2.ensures c.in_ok-start-in-If.ensures c.in_ok-emit_expr-in-If-3.ensures c.in_ok-end-in-If.ensures (c.fill_in.ensures ∙ ap (λ z. filled_in c.emit_expr-in-If-2.new.draft c.here-jump.result (i.JumpF z)) first) (c.fill_in-in-If.ensures ∙ ap (λ z. filled_in c.fill_in.new.self c.here-over.result (i.Jump z)) second)

pub emit::emit_expr-returns-in-Integer : goal.emit::emit_expr-returns-in-Integer
emit::emit_expr-returns-in-Integer t c =
    let same : to_z w64 (of_z w64 c.in-Integer.value) ≡ c.in-Integer.value = search rules in
    on_ok_weaker c.push.result (λ pushed. w.write_Integer c.args.bound.now c.args.spot c.args.depth c.args.draft.now _ c.args.expr.now c.in-Integer.token c.in-Integer.value c.in-Integer.is (pushed ∙ ap (λ z. with_push c.args.draft.now c.args.depth (i.Int z) 0) same)) c.push.ensures

pub operands::emit_operands-loop-item-init : goal.operands::emit_operands-loop-item-init
operands::emit_operands-loop-item-init t c = λ steady. w.owes_all c.args.bound.now c.args.spot c.args.depth c.args.draft.now (map (with_operator c.args.operator) (map operand_syntax c.args.rest.now))

pub operands::emit_operands-loop-item-preserved : goal.operands::emit_operands-loop-item-preserved
operands::emit_operands-loop-item-preserved t c = λ steady.
    let x = c.item-item.result in
    let h = λ (xs : List Operand). map (with_operator c.args.operator) (map operand_syntax xs) in
    let i = c.loop-item.item-index in
    let xs = c.args.rest.now in
    let u : Tail = record { operator = c.args.operator; token = x.token.0; operand = syntax_of x.operand } in
    let is : h (drop i xs) ≡ u ∷ h (drop (i + 1) xs) = ap h (w.from_drop xs i x c.loop-item-test.true c.item-item.is) ∙ ap (λ z. z ∷ h (drop (i + 1) xs)) (ap (λ z. z c.args.operator) (v.syntax-operand x.token x.operand)) in
    w.owes_next c.args.bound.now c.args.spot c.args.depth c.args.draft.now c.loop-item.draft _ (h xs) (h (drop i xs)) (h (drop (i + 1) xs)) c.args.operator x.token x.operand steady (c.loop-item.invariant steady) is c.in_ok-emit_operand.ensures

pub operands::emit_operands-returns : goal.operands::emit_operands-returns
unfolding WritesOperands
operands::emit_operands-returns t c = λ steady.
    let h = λ (xs : List Operand). map (with_operator c.args.operator) (map operand_syntax xs) in
    w.owes_none c.args.bound.now c.args.spot c.args.depth c.args.draft.now c.loop-item.draft (h c.args.rest.now) (h (drop c.loop-item.item-index c.args.rest.now)) (c.loop-item.invariant steady) (ap h (drop_all c.loop-item.item-index c.args.rest.now c.loop-item-test.false))

pub operands::emit_terms-loop-item-init : goal.operands::emit_terms-loop-item-init
operands::emit_terms-loop-item-init t c = w.owes_all c.args.bound.now c.args.spot c.args.depth c.args.draft.now (map term_syntax c.args.rest.now)

pub operands::emit_terms-loop-item-preserved : goal.operands::emit_terms-loop-item-preserved
operands::emit_terms-loop-item-preserved t c =
    let x = c.item-item.result in
    let h = λ (xs : List Term). map term_syntax xs in
    let i = c.loop-item.item-index in
    let xs = c.args.rest.now in
    let u : Tail = record { operator = operator.Add x.sign; token = x.token.0; operand = syntax_of x.term } in
    let is : h (drop i xs) ≡ u ∷ h (drop (i + 1) xs) = ap h (w.from_drop xs i x c.loop-item-test.true c.item-item.is) ∙ ap (λ z. z ∷ h (drop (i + 1) xs)) (v.syntax-term x.token x.sign x.term) in
    w.owes_next c.args.bound.now c.args.spot c.args.depth c.args.draft.now c.loop-item.draft _ (h xs) (h (drop i xs)) (h (drop (i + 1) xs)) (operator.Add x.sign) x.token x.term (w.steady_Add x.sign) c.loop-item.invariant is c.in_ok-emit_operand.ensures

pub operands::emit_terms-returns : goal.operands::emit_terms-returns
operands::emit_terms-returns t c =
    let h = λ (xs : List Term). map term_syntax xs in
    w.owes_none c.args.bound.now c.args.spot c.args.depth c.args.draft.now c.loop-item.draft (h c.args.rest.now) (h (drop c.loop-item.item-index c.args.rest.now)) c.loop-item.invariant (ap h (drop_all c.loop-item.item-index c.args.rest.now c.loop-item-test.false))

pub operands::emit_factors-loop-item-init : goal.operands::emit_factors-loop-item-init
operands::emit_factors-loop-item-init t c = w.owes_all c.args.bound.now c.args.spot c.args.depth c.args.draft.now (map factor_syntax c.args.rest.now)

pub operands::emit_factors-loop-item-preserved : goal.operands::emit_factors-loop-item-preserved
operands::emit_factors-loop-item-preserved t c =
    let x = c.item-item.result in
    let h = λ (xs : List Factor). map factor_syntax xs in
    let i = c.loop-item.item-index in
    let xs = c.args.rest.now in
    let u : Tail = record { operator = operator.Multiply x.operator; token = x.token.0; operand = syntax_of x.factor } in
    let is : h (drop i xs) ≡ u ∷ h (drop (i + 1) xs) = ap h (w.from_drop xs i x c.loop-item-test.true c.item-item.is) ∙ ap (λ z. z ∷ h (drop (i + 1) xs)) (v.syntax-factor x.token x.operator x.factor) in
    w.owes_next c.args.bound.now c.args.spot c.args.depth c.args.draft.now c.loop-item.draft _ (h xs) (h (drop i xs)) (h (drop (i + 1) xs)) (operator.Multiply x.operator) x.token x.factor (w.steady_Multiply x.operator) c.loop-item.invariant is c.in_ok-emit_operand.ensures

pub operands::emit_factors-returns : goal.operands::emit_factors-returns
operands::emit_factors-returns t c =
    let h = λ (xs : List Factor). map factor_syntax xs in
    w.owes_none c.args.bound.now c.args.spot c.args.depth c.args.draft.now c.loop-item.draft (h c.args.rest.now) (h (drop c.loop-item.item-index c.args.rest.now)) c.loop-item.invariant (ap h (drop_all c.loop-item.item-index c.args.rest.now c.loop-item-test.false))

pub operands::emit_not-loop-done-init : goal.operands::emit_not-loop-done-init
operands::emit_not-loop-done-init t c =
    let ts = c.args.tokens.now in
    let none : drop (length ts - 0) ts ≡ [] = drop_all (length ts - 0) ts (omega arith) in
    w.nots_none c.args.bound.now c.args.spot c.args.depth c.args.draft.now _ (drop (length ts - 0) ts) c.args.expr.now none c.in_ok-emit_expr.ensures

pub operands::emit_not-loop-done-preserved : goal.operands::emit_not-loop-done-preserved
operands::emit_not-loop-done-preserved t c =
    let ts = c.args.tokens.now in
    let i = c.loop-done.done in
    let x = slice_index_or ts (length ts - 1 - i) (let n : TokenNo = record { 0 = 0 } in n) in
    w.nots_next c.args.bound.now c.args.spot c.args.depth c.args.draft.now c.loop-done.draft _ (drop (length ts - i) ts) (drop (length ts - (i + 1)) ts) x c.args.expr.now _ (w.from_back ts i (let n : TokenNo = record { 0 = 0 } in n) c.loop-done-test.true) c.loop-done.invariant c.line_at.ensures c.in_ok-put.ensures

pub operands::emit_not-returns : goal.operands::emit_not-returns
operands::emit_not-returns t c =
    let ts = c.args.tokens.now in
    let e : length ts - c.loop-done.done ≡ 0 = omega arith in
    subst (λ n. WritesNot c.args.bound.now c.args.spot c.args.depth c.args.draft.now c.loop-done.draft (drop n ts) c.args.expr.now) e c.loop-done.invariant

pub operands::emit_list-loop-item-init : goal.operands::emit_list-loop-item-init
operands::emit_list-loop-item-init t c = w.lists_all c.args.bound.now c.args.spot c.args.depth c.args.draft.now c.args.list.now

pub operands::emit_list-loop-item-preserved : goal.operands::emit_list-loop-item-preserved
operands::emit_list-loop-item-preserved t c =
    let x = c.item-item.result in
    let i = c.loop-item.item-index in
    let xs = c.args.list.now in
    w.lists_next c.args.bound.now c.args.spot c.args.depth c.args.draft.now c.loop-item.draft _ xs (drop i xs) (drop (i + 1) xs) c.loop-item.inside _ x c.loop-item.invariant (w.from_drop xs i x c.loop-item-test.true c.item-item.is) c.in_ok-emit_expr.ensures c.in_ok-inside.ensures

pub operands::emit_list-returns : goal.operands::emit_list-returns
operands::emit_list-returns t c = w.lists_none c.args.bound.now c.args.spot c.args.depth c.args.draft.now c.loop-item.draft c.args.list.now (drop c.loop-item.item-index c.args.list.now) c.loop-item.inside c.loop-item.invariant (drop_all c.loop-item.item-index c.args.list.now c.loop-item-test.false)

pub calls::emit_actuals-loop-index-init : goal.calls::emit_actuals-loop-index-init
calls::emit_actuals-loop-index-init t c = n.actuals_all c.args.bound.now c.args.spot c.args.depth c.args.draft.now c.args.keeps c.args.token c.args.list.now c.args.formals.now

pub calls::emit_actuals-loop-index-preserved : goal.calls::emit_actuals-loop-index-preserved
calls::emit_actuals-loop-index-preserved t c =
    let i = c.loop-index.index in
    let xs = c.args.list.now in
    let fs = c.args.formals.now in
    n.actuals_next c.args.bound.now c.args.spot c.args.depth c.args.draft.now c.loop-index.draft _ c.args.keeps c.args.token xs (drop i xs) (drop (i + 1) xs) fs (drop i fs) (drop (i + 1) fs) c.loop-index.inside _ _ _ c.loop-index.invariant (w.from_drop xs i c.index-list-index.result c.loop-index-test.true c.index-list-index.is) (drop_more fs i _ (omega (arith, c.loop-index-test.true, c.if-list-formals.false))) c.in_ok-emit_actual.ensures c.in_ok-inside.ensures

pub calls::emit_actuals-returns : goal.calls::emit_actuals-returns
calls::emit_actuals-returns t c =
    let i = c.loop-index.index in
    let xs = c.args.list.now in
    let fs = c.args.formals.now in
    n.actuals_none c.args.bound.now c.args.spot c.args.depth c.args.draft.now c.loop-index.draft c.args.keeps c.args.token xs (drop i xs) fs (drop i fs) c.loop-index.inside c.loop-index.invariant (drop_all i xs (omega (arith, c.loop-index-test.false))) (drop_all i fs (omega (arith, c.loop-index-test.false, c.if-list-formals.false)))

pub standard::emit_alone-returns-then-operands-row : goal.standard::emit_alone-returns-then-operands-row
standard::emit_alone-returns-then-operands-row t c = behind.alone_other_number c.args.bound.now c.args.spot c.args.depth c.args.draft.now _ c.args.token c.args.name c.args.operands.now _ c.in-Some.row c.standard_code.ensures c.in-Some.is c.if-operands-row.true c.give_up-then-operands-row.ensures

pub standard::emit_alone-returns : goal.standard::emit_alone-returns
standard::emit_alone-returns t c =
    on_ok_weaker c.push.result (λ pushed. behind.alone_performed c.args.bound.now c.args.spot c.args.depth c.args.draft.now _ _ c.args.token c.args.name c.args.operands.now _ c.in-Some.row _ _ c.standard_code.ensures c.in-Some.is c.if-operands-row.false c.in_ok-emit_list.ensures c.standard_instr.ensures c.line_at.ensures pushed) c.push.ensures

pub standard::emit_behind-returns-then-row-eq0 : goal.standard::emit_behind-returns-then-row-eq0
standard::emit_behind-returns-then-row-eq0 t c = behind.behind_no_operand c.args.bound.now c.args.spot c.args.depth c.args.draft.now _ c.args.token c.args.name c.args.operands.now _ c.in-Some.row c.standard_code.ensures c.in-Some.is c.if-row-eq0.true c.give_up-then-row-eq0.ensures

pub actuals::emit_parameters-loop-index-init : goal.actuals::emit_parameters-loop-index-init
actuals::emit_parameters-loop-index-init t c = checked.parameters_all c.args.bound.now c.args.spot c.args.depth c.args.draft.now c.args.token c.args.list.now

pub actuals::emit_parameters-loop-index-preserved : goal.actuals::emit_parameters-loop-index-preserved
actuals::emit_parameters-loop-index-preserved t c =
    let i = c.loop-index.index in
    let xs = c.args.list.now in
    checked.parameters_next c.args.bound.now c.args.spot c.args.depth c.args.draft.now c.loop-index.draft _ c.args.token xs (drop i xs) (drop (i + 1) xs) c.loop-index.inside _ i _ _ c.loop-index.invariant (w.from_drop xs i c.index-list-index.result c.loop-index-test.true c.index-list-index.is) c.in_ok-emit_parameter.ensures c.in_ok-inside.ensures (omega arith)

pub actuals::emit_parameters-returns : goal.actuals::emit_parameters-returns
actuals::emit_parameters-returns t c =
    let i = c.loop-index.index in
    let xs = c.args.list.now in
    checked.parameters_none c.args.bound.now c.args.spot c.args.depth c.args.draft.now c.loop-index.draft c.args.token xs (drop i xs) c.loop-index.inside i c.loop-index.invariant (drop_all i xs (omega (arith, c.loop-index-test.false)))

pub actuals::emit_parameter-returns : goal.actuals::emit_parameter-returns
actuals::emit_parameter-returns t c =
    on_ok_weaker c.push.result (λ pushed. checked.parameter_written c.args.bound.now c.args.spot c.args.depth c.args.draft.now _ _ _ c.args.token c.args.number _ _ _ c.args.expr.now c.kind_of-kind.result _ _ _ c.kind_of-kind.ensures c.is_value.ensures c.in_ok-value.ensures c.is_procedure.ensures c.in_ok-procedure.ensures c.in_ok-instr.ensures c.line_at.ensures pushed) c.push.ensures

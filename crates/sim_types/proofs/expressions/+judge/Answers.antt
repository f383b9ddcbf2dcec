use Rattle.std.proofs.Common.{◌≡◌, ◌-◌, ◌+◌, List, [], ◌∷◌, length, drop, map, refl, sym, ap, ◌∙◌, arith, subst}
use Rattle.std.proofs.lemmas.List.{drop_all}
use Rattle.sim_tree.specs.declared.expr.Operand.{Operand}
use Rattle.sim_tree.specs.declared.expr.Term.{Term}
use Rattle.sim_tree.specs.declared.expr.Factor.{Factor}
use Rattle.sim_tree.specs.declared.operator.Operator.TheVariants as operator
use Rattle.sim_tree.specs.declared.expr.Selector.{Selector}
use Rattle.sim_tree.specs.Syntax.{first_of}
use Rattle.sim_tree.specs.SyntaxOf.{Tail, factor_syntax, negated, operand_syntax, selector_syntax, term_syntax, syntax_of, with_operator}
use Rattle.sim_scope.specs.Actuals.{no_actuals}
use Rattle.sim_scope.specs.ExpressionWalk.{FindsNot}
use Rattle.std.specs.Prelude.{slice_index_or}
use Rattle.sim_tree.proofs.SyntaxLemmas as v
use Rattle.sim_types.proofs.Steps.{more-count}
use Rattle.sim_types.proofs.Walks as walk
use Rattle.sim_types.proofs.expressions.+judge.Goals as goal

pub operands-loop-item-init : goal.operands-loop-item-init
operands-loop-item-init t c =
    let h = λ (xs : List Operand). map (with_operator c.args.operator) (map operand_syntax xs) in
    walk.owes_all c.args.scopes.now c.args.extent c.args.found.now c.args.left c.args.first (h c.args.rest.now)

pub operands-loop-item-preserved : goal.operands-loop-item-preserved
operands-loop-item-preserved t c =
    let x = c.item-item.result in
    let h = λ (xs : List Operand). map (with_operator c.args.operator) (map operand_syntax xs) in
    let i = c.loop-item.item-index in
    let xs = c.args.rest.now in
    let u : Tail = record { operator = c.args.operator; token = x.token.0; operand = syntax_of x.operand } in
    let is : h (drop i xs) ≡ u ∷ h (drop (i + 1) xs) = ap h (walk.from_drop xs i x c.loop-item-test.true c.item-item.is) ∙ ap (λ z. z ∷ h (drop (i + 1) xs)) (ap (λ z. z c.args.operator) (v.syntax-operand x.token x.operand)) in
    walk.owes_next c.args.scopes.now c.args.extent c.args.found.now c.loop-item.found c.side-left.new.found c.operand-right.new.found c.two-outcome.new.found c.args.left c.loop-item.outcome c.two-outcome.result c.args.first (h xs) (h (drop i xs)) (h (drop (i + 1) xs)) u c.side-left.result c.operand-right.result
    c.loop-item.invariant is c.side-left.ensures (walk.side_as c.args.scopes.now c.args.extent c.side-left.new.found c.operand-right.new.found c.operand-right.result x.operand x.operand refl c.operand-right.ensures) c.two-outcome.ensures

pub operands-returns : goal.operands-returns
operands-returns t c =
    let h = λ (xs : List Operand). map (with_operator c.args.operator) (map operand_syntax xs) in
    walk.owes_none c.args.scopes.now c.args.extent c.args.found.now c.loop-item.found c.args.left c.loop-item.outcome c.args.first (h c.args.rest.now) (h (drop c.loop-item.item-index c.args.rest.now))
    c.loop-item.invariant (ap h (drop_all c.loop-item.item-index c.args.rest.now c.loop-item-test.false))

pub terms-loop-item-init : goal.terms-loop-item-init
terms-loop-item-init t c =
    let h = λ (xs : List Term). map term_syntax xs in
    walk.owes_all c.args.scopes.now c.args.extent c.args.found.now c.args.left c.args.first (h c.args.rest.now)

pub terms-loop-item-preserved : goal.terms-loop-item-preserved
terms-loop-item-preserved t c =
    let x = c.item-item.result in
    let h = λ (xs : List Term). map term_syntax xs in
    let i = c.loop-item.item-index in
    let xs = c.args.rest.now in
    let u : Tail = record { operator = operator.Add x.sign; token = x.token.0; operand = syntax_of x.term } in
    let is : h (drop i xs) ≡ u ∷ h (drop (i + 1) xs) = ap h (walk.from_drop xs i x c.loop-item-test.true c.item-item.is) ∙ ap (λ z. z ∷ h (drop (i + 1) xs)) (v.syntax-term x.token x.sign x.term) in
    walk.owes_next c.args.scopes.now c.args.extent c.args.found.now c.loop-item.found c.side-left.new.found c.operand-right.new.found c.two-outcome.new.found c.args.left c.loop-item.outcome c.two-outcome.result c.args.first (h xs) (h (drop i xs)) (h (drop (i + 1) xs)) u c.side-left.result c.operand-right.result
    c.loop-item.invariant is c.side-left.ensures (walk.side_as c.args.scopes.now c.args.extent c.side-left.new.found c.operand-right.new.found c.operand-right.result x.term x.term refl c.operand-right.ensures) c.two-outcome.ensures

pub terms-returns : goal.terms-returns
terms-returns t c =
    let h = λ (xs : List Term). map term_syntax xs in
    walk.owes_none c.args.scopes.now c.args.extent c.args.found.now c.loop-item.found c.args.left c.loop-item.outcome c.args.first (h c.args.rest.now) (h (drop c.loop-item.item-index c.args.rest.now))
    c.loop-item.invariant (ap h (drop_all c.loop-item.item-index c.args.rest.now c.loop-item-test.false))

pub factors-loop-item-init : goal.factors-loop-item-init
factors-loop-item-init t c =
    let h = λ (xs : List Factor). map factor_syntax xs in
    walk.owes_all c.args.scopes.now c.args.extent c.args.found.now c.args.left c.args.first (h c.args.rest.now)

pub factors-loop-item-preserved : goal.factors-loop-item-preserved
factors-loop-item-preserved t c =
    let x = c.item-item.result in
    let h = λ (xs : List Factor). map factor_syntax xs in
    let i = c.loop-item.item-index in
    let xs = c.args.rest.now in
    let u : Tail = record { operator = operator.Multiply x.operator; token = x.token.0; operand = syntax_of x.factor } in
    let is : h (drop i xs) ≡ u ∷ h (drop (i + 1) xs) = ap h (walk.from_drop xs i x c.loop-item-test.true c.item-item.is) ∙ ap (λ z. z ∷ h (drop (i + 1) xs)) (v.syntax-factor x.token x.operator x.factor) in
    walk.owes_next c.args.scopes.now c.args.extent c.args.found.now c.loop-item.found c.side-left.new.found c.operand-right.new.found c.two-outcome.new.found c.args.left c.loop-item.outcome c.two-outcome.result c.args.first (h xs) (h (drop i xs)) (h (drop (i + 1) xs)) u c.side-left.result c.operand-right.result
    c.loop-item.invariant is c.side-left.ensures (walk.side_as c.args.scopes.now c.args.extent c.side-left.new.found c.operand-right.new.found c.operand-right.result x.factor x.factor refl c.operand-right.ensures) c.two-outcome.ensures

pub factors-returns : goal.factors-returns
factors-returns t c =
    let h = λ (xs : List Factor). map factor_syntax xs in
    walk.owes_none c.args.scopes.now c.args.extent c.args.found.now c.loop-item.found c.args.left c.loop-item.outcome c.args.first (h c.args.rest.now) (h (drop c.loop-item.item-index c.args.rest.now))
    c.loop-item.invariant (ap h (drop_all c.loop-item.item-index c.args.rest.now c.loop-item-test.false))

pub actuals-loop-argument-init : goal.actuals-loop-argument-init
actuals-loop-argument-init t c = record { count = refl; owed = walk.owes_actuals c.args.scopes.now c.args.extent c.args.denotation c.args.found.now no_actuals c.args.arguments.now }

pub actuals-more-actuals-requires : goal.actuals-more-actuals-requires
actuals-more-actuals-requires t c = omega arith

pub actuals-loop-argument-preserved : goal.actuals-loop-argument-preserved
actuals-loop-argument-preserved t c =
    let x = c.argument-item.result in
    let i = c.loop-argument.argument-index in
    let xs = c.args.arguments.now in
    record {
      count = ap (λ a. a.count) c.more-actuals.ensures.is ∙ more-count c.args.scopes.now c.args.denotation c.loop-argument.actuals c.first_token.result.0 c.judge-outcome.result ∙ ap (λ n. n + 1) c.loop-argument.invariant.count;
      owed = walk.owes_more c.args.scopes.now c.args.extent c.args.denotation c.args.found.now c.loop-argument.found c.judge-outcome.new.found c.more-actuals.new.found no_actuals c.loop-argument.actuals c.more-actuals.result xs (drop i xs) (drop (i + 1) xs) x c.first_token.result c.judge-outcome.result
          c.loop-argument.invariant.owed (walk.from_drop xs i x c.loop-argument-test.true c.argument-item.is) c.judge-outcome.ensures c.first_token.ensures.first c.more-actuals.ensures;
    }

pub actuals-returns : goal.actuals-returns
actuals-returns t c =
    walk.owes_no_more c.args.scopes.now c.args.extent c.args.denotation c.args.found.now c.loop-argument.found no_actuals c.loop-argument.actuals c.args.arguments.now (drop c.loop-argument.argument-index c.args.arguments.now)
    c.loop-argument.invariant.owed (drop_all c.loop-argument.argument-index c.args.arguments.now c.loop-argument-test.false)

pub selections-loop-item-init : goal.selections-loop-item-init
selections-loop-item-init t c = walk.owes_selected c.args.scopes.now c.args.extent c.args.found.now c.args.object c.args.first (map selector_syntax c.args.rest.now)

pub selections-loop-item-preserved : goal.selections-loop-item-preserved
selections-loop-item-preserved t c =
    let x = c.item-item.result in
    let h = λ (xs : List Selector). map selector_syntax xs in
    let i = c.loop-item.item-index in
    let xs = c.args.rest.now in
    walk.owes_taken c.args.scopes.now c.args.extent c.args.found.now c.loop-item.found c.selection-outcome.new.found c.args.object c.loop-item.outcome c.selection-outcome.result c.args.first (h xs) (h (drop i xs)) (h (drop (i + 1) xs)) x
    c.loop-item.invariant (ap h (walk.from_drop xs i x c.loop-item-test.true c.item-item.is)) c.selection-outcome.ensures

pub selections-returns : goal.selections-returns
selections-returns t c =
    walk.owes_no_selected c.args.scopes.now c.args.extent c.args.found.now c.loop-item.found c.args.object c.loop-item.outcome c.args.first (map selector_syntax c.args.rest.now) (map selector_syntax (drop c.loop-item.item-index c.args.rest.now))
    c.loop-item.invariant (ap (map selector_syntax) (drop_all c.loop-item.item-index c.args.rest.now c.loop-item-test.false))

pub negated-loop-done-init : goal.negated-loop-done-init
negated-loop-done-init t c =
    let ts = c.args.tokens.now in
    let none : drop (length ts - 0) ts ≡ [] = drop_all (length ts - 0) ts (omega arith) in
    record {
      so_far = walk.no_nots c.args.scopes.now c.args.extent c.args.found.now c.judge-outcome.new.found c.judge-outcome.result c.args.expr.now (drop (length ts - 0) ts) none c.judge-outcome.ensures;
      first = walk.first_here c.args.expr.now c.first_token-first.result (drop (length ts - 0) ts) none c.first_token-first.ensures.first;
    }

pub negated-loop-done-preserved : goal.negated-loop-done-preserved
negated-loop-done-preserved t c =
    let ts = c.args.tokens.now in
    let i = c.loop-done.done in
    let x = slice_index_or ts (length ts - 1 - i) (record { 0 = 0 }) in
    let is = walk.from_back ts i (record { 0 = 0 }) c.loop-done-test.true in
    record {
      so_far = walk.one_not c.args.scopes.now c.args.extent c.args.found.now c.loop-done.found c.side-value.new.found c.one-outcome.new.found c.loop-done.outcome c.one-outcome.result c.args.expr.now (drop (length ts - i) ts) (drop (length ts - (i + 1)) ts) x c.loop-done.first c.side-value.result is
          c.loop-done.invariant.so_far c.loop-done.invariant.first c.side-value.ensures c.one-outcome.ensures;
      first = sym (ap (λ z. first_of (negated z (syntax_of c.args.expr.now))) is);
    }

pub negated-returns : goal.negated-returns
negated-returns t c =
    let ts = c.args.tokens.now in
    let e : length ts - c.loop-done.done ≡ 0 = omega arith in
    subst (λ n. FindsNot c.args.scopes.now c.args.extent c.args.found.now c.loop-done.found c.loop-done.outcome (drop n ts) c.args.expr.now) e c.loop-done.invariant.so_far

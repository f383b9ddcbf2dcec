use Rattle.std.proofs.Common.{◌≡◌, ◌-◌, drop, length, map}
use Rattle.sim_tree.specs.Syntax.{first_of}
use Rattle.sim_tree.specs.SyntaxOf.{factor_syntax, negated, operand_syntax, selector_syntax, syntax_of, term_syntax, with_operator}
use Rattle.sim_scope.specs.Actuals.{no_actuals}
use Rattle.sim_scope.specs.ExpressionWalk.{FindsNot, Owes, OwesActuals, OwesSelected}
use Rattle.sim_types.proofs.expressions.+judge.Given as goal

abbrev pub invariant-actuals-loop-argument : goal.invariant-actuals-loop-argument
invariant-actuals-loop-argument l = record {
  count : l.actuals.count ≡ l.argument-index;
  owed : OwesActuals l.scopes l.extent l.denotation l.fn.found no_actuals l.arguments l.found l.actuals (drop l.argument-index l.arguments);
}

abbrev pub invariant-selections-loop-item : goal.invariant-selections-loop-item
invariant-selections-loop-item l = OwesSelected l.scopes l.extent l.fn.found l.fn.object l.first (map selector_syntax l.rest) l.found l.outcome (map selector_syntax (drop l.item-index l.rest))

abbrev pub invariant-negated-loop-done : goal.invariant-negated-loop-done
invariant-negated-loop-done l = record {
  so_far : FindsNot l.scopes l.fn.extent l.fn.found l.found l.outcome (drop (length l.tokens - l.done) l.tokens) l.expr;
  first : l.first.0 ≡ first_of (negated (drop (length l.tokens - l.done) l.tokens) (syntax_of l.expr));
}

abbrev pub invariant-operands-loop-item : goal.invariant-operands-loop-item
invariant-operands-loop-item l = Owes l.scopes l.extent l.fn.found l.fn.left l.first (map (with_operator l.operator) (map operand_syntax l.rest)) l.found l.outcome (map (with_operator l.operator) (map operand_syntax (drop l.item-index l.rest)))

abbrev pub invariant-terms-loop-item : goal.invariant-terms-loop-item
invariant-terms-loop-item l = Owes l.scopes l.extent l.fn.found l.fn.left l.first (map term_syntax l.rest) l.found l.outcome (map term_syntax (drop l.item-index l.rest))

abbrev pub invariant-factors-loop-item : goal.invariant-factors-loop-item
invariant-factors-loop-item l = Owes l.scopes l.extent l.fn.found l.fn.left l.first (map factor_syntax l.rest) l.found l.outcome (map factor_syntax (drop l.item-index l.rest))

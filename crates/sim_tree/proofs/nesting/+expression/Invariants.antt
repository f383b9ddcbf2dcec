use denote.Param.Weighed.{most}
use Rattle.sim_tree.specs.declared.expr.Expr.{size-Expr}
use Rattle.sim_tree.specs.declared.expr.Expr.TheViews.{size-Operand, size-Term, size-Factor, size-Selector}
use Rattle.std.proofs.Common.{◌+◌, ◌*◌}
use Rattle.sim_tree.specs.Nesting.{Nests, NestsInside}
use Rattle.sim_tree.specs.Derivation.{argument, factor_derivation, operand_derivation, selector_derivation, derivation_of, term_derivation}
use Rattle.sim_tree.proofs.Nests.{SoFar}
use Rattle.sim_tree.proofs.nesting.+expression.Given as goal

abbrev pub invariant-arguments-loop-item : goal.invariant-arguments-loop-item
invariant-arguments-loop-item l = SoFar (λ x. Nests (argument (derivation_of x))) l.list l.item-index l.deepest

abbrev pub invariant-factors-loop-item : goal.invariant-factors-loop-item
invariant-factors-loop-item l = SoFar (λ x. Nests (factor_derivation x)) l.list l.item-index l.deepest

abbrev pub invariant-operands-loop-item : goal.invariant-operands-loop-item
invariant-operands-loop-item l = SoFar (λ x. NestsInside (operand_derivation x).operand) l.list l.item-index l.deepest

abbrev pub invariant-selectors-loop-item : goal.invariant-selectors-loop-item
invariant-selectors-loop-item l = SoFar (λ x. Nests (selector_derivation x)) l.list l.item-index l.deepest

abbrev pub invariant-terms-loop-item : goal.invariant-terms-loop-item
invariant-terms-loop-item l = SoFar (λ x. Nests (term_derivation x)) l.list l.item-index l.deepest

abbrev pub decreases-arguments : goal.decreases-arguments
decreases-arguments l = 8 * most size-Expr l.list.now + 7

abbrev pub decreases-expression : goal.decreases-expression
decreases-expression l = 8 * size-Expr l.expr.now + 6

abbrev pub decreases-factors : goal.decreases-factors
decreases-factors l = 8 * most size-Factor l.list.now + 2

abbrev pub decreases-inside : goal.decreases-inside
decreases-inside l = 8 * size-Expr l.expr.now + 5

abbrev pub decreases-operands : goal.decreases-operands
decreases-operands l = 8 * most size-Operand l.list.now + 2

abbrev pub decreases-selector : goal.decreases-selector
decreases-selector l = 8 * size-Selector l.selector.now + 1

abbrev pub decreases-selectors : goal.decreases-selectors
decreases-selectors l = 8 * most size-Selector l.list.now + 2

abbrev pub decreases-terms : goal.decreases-terms
decreases-terms l = 8 * most size-Term l.list.now + 2

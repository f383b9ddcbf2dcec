use Rattle.std.proofs.Common.{ℕ, ◌+◌, ◌*◌, ◌-◌, ◌<◌, ◌≤◌, length, map, List, ◌∷◌}
use Rattle.sim_tree.specs.Grammar as g
use Rattle.sim_tree.specs.Grammar.{Symbol, Once, Many, Of}
use Rattle.sim_tree.specs.Derivation.{derivation_of, item, operand_derivation, term_derivation, factor_derivation, selector_derivation}
use Rattle.sim_tree.proofs.Steps.{Leads}
use Rattle.sim_expr_parser.specs.Level.{under, below_of, operator, many}
use Rattle.sim_expr_parser.specs.Operators.{IsRead}
use Rattle.sim_expr_parser.specs.Parsing.{listed}
use Rattle.sim_expr_parser.specs.Recursion.{calls_left, calls}
use Rattle.sim_expr_parser.proofs.Steps.{Row}
use Rattle.sim_expr_parser.proofs.parser.+parser.Given as goal

abbrev pub decreases-expression : goal.decreases-expression
decreases-expression l = calls_left calls l.depth 1

abbrev pub decreases-conditional : goal.decreases-conditional
decreases-conditional l = calls_left calls l.depth 0

abbrev pub decreases-boxed : goal.decreases-boxed
decreases-boxed l = calls_left calls l.depth 2

abbrev pub decreases-argument_list : goal.decreases-argument_list
decreases-argument_list l = calls_left calls l.depth 2

abbrev pub decreases-arguments : goal.decreases-arguments
decreases-arguments l = calls_left calls l.depth 3

abbrev pub decreases-named : goal.decreases-named
decreases-named l = calls_left calls l.depth 4

abbrev pub decreases-generator : goal.decreases-generator
decreases-generator l = calls_left calls l.depth 4

abbrev pub decreases-parentheses : goal.decreases-parentheses
decreases-parentheses l = calls_left calls l.depth 3

abbrev pub decreases-primary : goal.decreases-primary
decreases-primary l = calls_left calls l.depth 5

abbrev pub decreases-selector : goal.decreases-selector
decreases-selector l = calls_left calls l.depth 4

abbrev pub decreases-selectors : goal.decreases-selectors
decreases-selectors l = calls_left calls l.depth 5

abbrev pub decreases-postfix : goal.decreases-postfix
decreases-postfix l = calls_left calls l.depth 6

abbrev pub decreases-up_to_level : goal.decreases-up_to_level
decreases-up_to_level l = calls_left calls l.depth (l.top * 5 + 2)

abbrev pub decreases-boxed_up_to_level : goal.decreases-boxed_up_to_level
decreases-boxed_up_to_level l = calls_left calls l.depth (l.top * 5 + 3)

abbrev pub decreases-raised : goal.decreases-raised
decreases-raised l = calls_left calls l.depth (l.top * 5 + 1)

abbrev pub decreases-extended : goal.decreases-extended
decreases-extended l = calls_left calls l.depth (below_of l.operators * 5 + 5)

abbrev pub decreases-operands : goal.decreases-operands
decreases-operands l = calls_left calls l.depth (under l.level * 5 + 3)

abbrev pub decreases-terms : goal.decreases-terms
decreases-terms l = calls_left calls l.depth 18

abbrev pub decreases-factors : goal.decreases-factors
decreases-factors l = calls_left calls l.depth 13

abbrev pub decreases-relation : goal.decreases-relation
decreases-relation l = calls_left calls l.depth 29

abbrev pub decreases-negation : goal.decreases-negation
decreases-negation l = calls_left calls l.depth 34

abbrev pub decreases-signed_sum : goal.decreases-signed_sum
decreases-signed_sum l = calls_left calls l.depth 19

abbrev pub invariant-raised-loop-operators : goal.invariant-raised-loop-operators
invariant-raised-loop-operators l = record {
  goes : (i : ℕ) → IsRead l.source l.depth i l.level l.top l.fn.operand l.start → IsRead l.source l.depth i l.reached l.top l.first l.at;
  within : l.at < length l.source;
  some : 1 ≤ l.reached;
  low : l.reached ≤ l.top;
}

abbrev pub decreases-raised-loop-operators : goal.decreases-raised-loop-operators
decreases-raised-loop-operators l = 14 - l.reached

abbrev pub invariant-operands-loop-next : goal.invariant-operands-loop-next
invariant-operands-loop-next l = record {
  goes : Row l.source l.depth (many l.level) l.start (map (λ o. item (under l.level) (operator l.level) (operand_derivation o)) l.rest.items) l.at;
  ahead : l.start ≤ l.at;
  within : l.at < length l.source;
}

abbrev pub decreases-operands-loop-next : goal.decreases-operands-loop-next
decreases-operands-loop-next l = length l.source - l.at

abbrev pub invariant-terms-loop-sign : goal.invariant-terms-loop-sign
invariant-terms-loop-sign l = record {
  goes : Row l.source l.depth g.NextTerm l.start (map term_derivation l.rest.items) l.at;
  ahead : l.start ≤ l.at;
  within : l.at < length l.source;
}

abbrev pub decreases-terms-loop-sign : goal.decreases-terms-loop-sign
decreases-terms-loop-sign l = length l.source - l.at

abbrev pub invariant-factors-loop-operator : goal.invariant-factors-loop-operator
invariant-factors-loop-operator l = record {
  goes : Row l.source l.depth g.NextFactor l.start (map factor_derivation l.rest.items) l.at;
  ahead : l.start ≤ l.at;
  within : l.at < length l.source;
}

abbrev pub decreases-factors-loop-operator : goal.decreases-factors-loop-operator
decreases-factors-loop-operator l = length l.source - l.at

abbrev pub invariant-selectors-loop-rest : goal.invariant-selectors-loop-rest
invariant-selectors-loop-rest l = record {
  goes : Row l.source l.depth g.Selection l.start (map selector_derivation l.rest.items) l.at;
  ahead : l.start ≤ l.at;
  within : l.at < length l.source;
}

abbrev pub decreases-selectors-loop-rest : goal.decreases-selectors-loop-rest
decreases-selectors-loop-rest l = length l.source - l.at

abbrev pub invariant-argument_list-loop-next : goal.invariant-argument_list-loop-next
invariant-argument_list-loop-next l = record {
  goes : (s : List Symbol) → Leads l.source l.depth (Of Once g.Expression ∷ Of Many g.NextArgument ∷ s) l.start (listed (map derivation_of l.list.items)) l.depth (Of Many g.NextArgument ∷ s) l.at;
  some : 0 < length l.list.items;
  ahead : l.start ≤ l.at;
  within : l.at < length l.source;
}

abbrev pub decreases-argument_list-loop-next : goal.decreases-argument_list-loop-next
decreases-argument_list-loop-next l = length l.source - l.at

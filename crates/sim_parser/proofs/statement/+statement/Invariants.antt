use Rattle.std.proofs.Common.{◌-◌, ◌<◌, ◌≤◌, length, map, List, ◌∷◌}
use Rattle.sim_tree.specs.Grammar as g
use Rattle.sim_tree.specs.Grammar.{Symbol, Many, Of}
use Rattle.sim_tree.specs.ProgramDerivation.{declaration_derivation, statement_derivation, when_derivation}
use Rattle.sim_tree.proofs.Steps.{Leads}
use Rattle.sim_expr_parser.proofs.Steps.{Row}
use Rattle.sim_expr_parser.specs.Recursion.{calls_left}
use Rattle.sim_parser.specs.Recursion.{calls}
use Rattle.sim_parser.specs.Parsing.{ReadsDeclarations, statement_list, statements_then}
use Rattle.sim_parser.proofs.statement.+statement.Given as goal

abbrev pub decreases-connected_at : goal.decreases-connected_at
decreases-connected_at l = calls_left calls l.depth 1

abbrev pub decreases-when_arm : goal.decreases-when_arm
decreases-when_arm l = calls_left calls l.depth 2

abbrev pub decreases-when_arms : goal.decreases-when_arms
decreases-when_arms l = calls_left calls l.depth 3

abbrev pub decreases-procedure : goal.decreases-procedure
decreases-procedure l = calls_left calls l.depth 1

abbrev pub decreases-class : goal.decreases-class
decreases-class l = calls_left calls l.depth 1

abbrev pub decreases-typed_declaration : goal.decreases-typed_declaration
decreases-typed_declaration l = calls_left calls l.depth 2

abbrev pub decreases-plain_declaration : goal.decreases-plain_declaration
decreases-plain_declaration l = calls_left calls l.depth 3

abbrev pub decreases-declaration : goal.decreases-declaration
decreases-declaration l = calls_left calls l.depth 4

abbrev pub decreases-declarations : goal.decreases-declarations
decreases-declarations l = calls_left calls l.depth 5

abbrev pub decreases-compound : goal.decreases-compound
decreases-compound l = calls_left calls l.depth 6

abbrev pub decreases-block_statement : goal.decreases-block_statement
decreases-block_statement l = calls_left calls l.depth 7

abbrev pub decreases-identified_statement : goal.decreases-identified_statement
decreases-identified_statement l = calls_left calls l.depth 7

abbrev pub decreases-if_statement : goal.decreases-if_statement
decreases-if_statement l = calls_left calls l.depth 2

abbrev pub decreases-while_statement : goal.decreases-while_statement
decreases-while_statement l = calls_left calls l.depth 2

abbrev pub decreases-for_statement : goal.decreases-for_statement
decreases-for_statement l = calls_left calls l.depth 2

abbrev pub decreases-inspect_statement : goal.decreases-inspect_statement
decreases-inspect_statement l = calls_left calls l.depth 4

abbrev pub decreases-begun_statement : goal.decreases-begun_statement
decreases-begun_statement l = calls_left calls l.depth 8

abbrev pub decreases-statement : goal.decreases-statement
decreases-statement l = calls_left calls l.depth 0

abbrev pub decreases-statements : goal.decreases-statements
decreases-statements l = calls_left calls l.depth 1

abbrev pub decreases-sequence_at : goal.decreases-sequence_at
decreases-sequence_at l = calls_left calls l.depth 2

abbrev pub decreases-body : goal.decreases-body
decreases-body l = calls_left calls l.depth 1

abbrev pub decreases-optional_branch : goal.decreases-optional_branch
decreases-optional_branch l = calls_left calls l.depth 1

abbrev pub invariant-statements-loop-next : goal.invariant-statements-loop-next
invariant-statements-loop-next l = record {
  goes : (s : List Symbol) → Leads l.source l.depth (statements_then s) l.start (statement_list (map statement_derivation l.list.items)) l.depth (Of Many g.NextStatement ∷ s) l.at;
  some : 0 < length l.list.items;
  ahead : l.start ≤ l.at;
  within : l.at < length l.source;
}

abbrev pub decreases-statements-loop-next : goal.decreases-statements-loop-next
decreases-statements-loop-next l = length l.source - l.at

abbrev pub invariant-when_arms-loop-arms : goal.invariant-when_arms-loop-arms
invariant-when_arms-loop-arms l = record {
  goes : Row l.source l.depth g.WhenArm l.start (map when_derivation l.arms.items) l.at;
  ahead : l.start ≤ l.at;
  within : l.at < length l.source;
}

abbrev pub decreases-when_arms-loop-arms : goal.decreases-when_arms-loop-arms
decreases-when_arms-loop-arms l = length l.source - l.at

abbrev pub invariant-declarations-loop-list : goal.invariant-declarations-loop-list
invariant-declarations-loop-list l = ReadsDeclarations l.source l.depth l.start (map declaration_derivation l.list.items) l.at

abbrev pub decreases-declarations-loop-list : goal.decreases-declarations-loop-list
decreases-declarations-loop-list l = length l.source - l.at

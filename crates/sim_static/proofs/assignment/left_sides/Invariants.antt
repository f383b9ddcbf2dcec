use Rattle.std.proofs.Common.{drop, map}
use Rattle.sim_tree.specs.SyntaxOf.{syntax_of}
use Rattle.sim_tree.specs.SyntaxOfProgram.{right_side_syntax}
use Rattle.sim_scope.specs.Assignments.{left_sides, no_lefts}
use Rattle.sim_static.specs.StatementWalk.{OwesLefts}
use Rattle.sim_static.proofs.assignment.left_sides.Given as goal

abbrev pub invariant-loop-part : goal.invariant-loop-part
invariant-loop-part l = OwesLefts l.scopes l.first l.value l.fn.found no_lefts (left_sides (syntax_of l.fn.left) (map right_side_syntax l.parts)) l.found l.sides (left_sides (syntax_of l.side) (map right_side_syntax (drop l.part-index l.parts)))

use denote.Param.Weighed.{most}
use Rattle.std.proofs.Common.{◌+◌, ◌*◌}
use Rattle.sim_tree.specs.declared.stmt.Stmt.{size-Stmt}
use Rattle.sim_tree.specs.declared.stmt.Decl.TheViews.{size-When}
use Rattle.sim_tree.specs.Nesting.{apart, Nests}
use Rattle.sim_tree.specs.ProgramDerivation.{declaration_derivation, next_statement, statement_derivation, when_derivation}
use Rattle.sim_tree.proofs.Nests.{SoFar}
use Rattle.sim_tree.proofs.nesting.+statement.Given as goal

abbrev pub invariant-arms-loop-item : goal.invariant-arms-loop-item
invariant-arms-loop-item l = SoFar (λ x. Nests (when_derivation x)) l.list l.item-index l.deepest

abbrev pub invariant-declarations-loop-item : goal.invariant-declarations-loop-item
invariant-declarations-loop-item l = SoFar (λ x. Nests (apart (declaration_derivation x))) l.list l.item-index l.deepest

abbrev pub invariant-statements-loop-item : goal.invariant-statements-loop-item
invariant-statements-loop-item l = SoFar (λ x. Nests (next_statement (statement_derivation x))) l.list l.item-index l.deepest

abbrev pub decreases-arms : goal.decreases-arms
decreases-arms l = 8 * most size-When l.list.now + 2

abbrev pub decreases-block_depth : goal.decreases-block_depth
decreases-block_depth l = 8 * goal.size-block_depth l + 4

abbrev pub decreases-branch : goal.decreases-branch
decreases-branch l = 8 * goal.size-branch l + 6

abbrev pub decreases-declaration : goal.decreases-declaration
decreases-declaration l = 8 * goal.size-declaration l + 3

abbrev pub decreases-declarations : goal.decreases-declarations
decreases-declarations l = 8 * goal.size-declarations l + 4

abbrev pub decreases-statement : goal.decreases-statement
decreases-statement l = 8 * size-Stmt l.stmt.now + 5

abbrev pub decreases-statements : goal.decreases-statements
decreases-statements l = 8 * goal.size-statements l + 7

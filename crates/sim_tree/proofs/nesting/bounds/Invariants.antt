use Rattle.sim_tree.specs.Nesting.{Nests}
use Rattle.sim_tree.specs.ProgramDerivation.{bounds_derivation}
use Rattle.sim_tree.proofs.Nests.{SoFar}
use Rattle.sim_tree.proofs.nesting.bounds.Given as goal

abbrev pub invariant-loop-item : goal.invariant-loop-item
invariant-loop-item l = SoFar (λ x. Nests (bounds_derivation x)) l.list l.item-index l.deepest

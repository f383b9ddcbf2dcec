use Rattle.sim_tree.specs.Nesting.{Nests}
use Rattle.sim_tree.specs.ProgramDerivation.{segment_derivation}
use Rattle.sim_tree.proofs.Nests.{SoFar}
use Rattle.sim_tree.proofs.nesting.segments.Given as goal

abbrev pub invariant-loop-item : goal.invariant-loop-item
invariant-loop-item l = SoFar (λ x. Nests (segment_derivation x)) l.list l.item-index l.deepest

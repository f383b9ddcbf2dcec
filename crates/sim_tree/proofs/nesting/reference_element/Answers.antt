use Rattle.std.proofs.Common.{arith, refl, ap}
use Rattle.sim_tree.specs.ProgramDerivation.{reference_element_derivation}
use Rattle.sim_tree.proofs.Nests as nests
use Rattle.sim_tree.proofs.nesting.reference_element.Goals as goal

pub returns-in-Value : goal.returns-in-Value
returns-in-Value c = nests.along (ap reference_element_derivation c.in-Value.is) c.expression.ensures

pub returns-in-While : goal.returns-in-While
returns-in-While c =
    nests.along (ap reference_element_derivation c.in-While.is) (nests.same (omega arith) (nests.followed c.expression-in-While.ensures (nests.nests_alone refl (nests.nests_leaf c.expression-in-While-2.ensures))))

use Rattle.std.proofs.Common.{arith, refl, ap}
use Rattle.sim_tree.specs.ProgramDerivation.{for_element_derivation}
use Rattle.sim_tree.proofs.Nests as nests
use Rattle.sim_tree.proofs.nesting.for_element.Goals as goal

pub returns-in-Value : goal.returns-in-Value
returns-in-Value c = nests.along (ap for_element_derivation c.in-Value.is) c.expression.ensures

pub returns-in-Step : goal.returns-in-Step
returns-in-Step c =
    nests.along (ap for_element_derivation c.in-Step.is)
    (nests.same (omega arith) (nests.followed c.expression-in-Step.ensures (nests.nests_alone refl (nests.nests_leaf (nests.followed c.expression-in-Step-2.ensures c.expression-in-Step-3.ensures)))))

pub returns-in-While : goal.returns-in-While
returns-in-While c =
    nests.along (ap for_element_derivation c.in-While.is) (nests.same (omega arith) (nests.followed c.expression-in-While.ensures (nests.nests_alone refl (nests.nests_leaf c.expression-in-While-2.ensures))))

use Rattle.std.proofs.Common.{ap}
use Rattle.sim_tree.specs.ProgramDerivation.{timing_inside}
use Rattle.sim_tree.proofs.Nests as nests
use Rattle.sim_tree.proofs.Statements as st
use Rattle.sim_tree.proofs.nesting.time_depth.Goals as goal

pub returns-in-At : goal.returns-in-At
returns-in-At c =
    nests.along (ap timing_inside c.in-At.is) (nests.nests_leaf (st.nests_time c.in-At.prior c.in-At.time c.expression.ensures))

pub returns-in-Delay : goal.returns-in-Delay
returns-in-Delay c =
    nests.along (ap timing_inside c.in-Delay.is) (nests.nests_leaf (st.nests_time c.in-Delay.prior c.in-Delay.time c.expression-in-Delay.ensures))

pub returns-in-Before : goal.returns-in-Before
returns-in-Before c = nests.along (ap timing_inside c.in-Before.is) (nests.nests_leaf c.expression-in-Before.ensures)

pub returns-in-After : goal.returns-in-After
returns-in-After c = nests.along (ap timing_inside c.in-After.is) (nests.nests_leaf c.expression-in-After.ensures)

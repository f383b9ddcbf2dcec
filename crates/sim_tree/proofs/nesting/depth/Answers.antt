use Rattle.std.proofs.Common.{refl, sym, ap}
use Rattle.sim_tree.specs.Grammar as g
use Rattle.sim_tree.specs.Reading.{done, node}
use Rattle.sim_tree.specs.ProgramDerivation.{block_derivation, prefixed}
use Rattle.sim_tree.proofs.Nests as nests
use Rattle.sim_tree.proofs.Statements as st
use Rattle.sim_tree.proofs.nesting.depth.Goals as goal

pub returns-in-Some : goal.returns-in-Some
returns-in-Some c = λ ws tree.
    let w = c.in-Some.prefix in
    let whole = st.nests_prefixed w w.arguments.items refl c.block_prefix.ensures (nests.nests_alone refl c.block_depth-block.ensures) in
    st.nests_program ws c.args.program.now c.max.result tree
    (nests.along (ap (λ z. prefixed z (node g.Compound (block_derivation c.args.program.now.block) done)) c.in-Some.is) (nests.same (sym c.max.ensures) whole))

pub returns-in-None : goal.returns-in-None
returns-in-None c = λ ws tree.
    st.nests_program ws c.args.program.now c.block_depth-block.result tree
    (nests.along (ap (λ z. prefixed z (node g.Compound (block_derivation c.args.program.now.block) done)) c.in-None.is) (nests.nests_alone refl c.block_depth-block.ensures))

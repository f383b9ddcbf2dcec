use Rattle.sim_xref.proofs.Filling.{unused_more}
use Rattle.sim_xref.proofs.rows.unused.Goals as goal

pub loop-declaration-preserved : goal.loop-declaration-preserved
loop-declaration-preserved c =
    unused_more c.args.declarations.now c.loop-declaration.declaration-index c.declaration-item.result c.loop-declaration.rows.items _ c.loop-declaration-test.true c.loop-declaration.invariant c.declaration-item.is c.in_ok-add_unused.ensures

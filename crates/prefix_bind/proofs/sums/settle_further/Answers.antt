use Rattle.std.proofs.Common.{arith, subst, sym}
use Rattle.prefix_bind.specs.Sums.{Settled}
use Rattle.prefix_bind.proofs.Settling.{set_further}
use Rattle.prefix_bind.proofs.sums.settle_further.Goals as goal

pub returns-then-levels-block_count : goal.returns-then-levels-block_count
returns-then-levels-block_count c =
    let s = c.args.scopes.now in
    subst (Settled s) (sym c.set.ensures)
    (set_further s c.args.rows.now.items c.args.block c.args.next c.args.levels c.requires.settled c.requires.behind c.requires.so c.requires.fresh (omega (arith, c.if-levels-block_count.true, c.block_count.ensures)))

use Rattle.std.proofs.Common.{subst, sym}
use Rattle.prefix_bind.specs.Sums.{Settled}
use Rattle.prefix_bind.proofs.Settling.{set_outermost}
use Rattle.prefix_bind.proofs.sums.settle_outermost.Goals as goal

pub returns : goal.returns
returns c =
    let s = c.args.scopes.now in
    subst (Settled s) (sym c.set.ensures)
    (set_outermost s c.args.rows.now.items c.args.block c.cells_at-cells.result c.has_wrong_prefix-broken.result c.requires.settled c.requires.last c.requires.inside c.cells_at-cells.ensures c.has_wrong_prefix-broken.ensures)

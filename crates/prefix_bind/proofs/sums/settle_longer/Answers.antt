use Rattle.std.proofs.Common.{◌+◌, ap, subst, sym, ◌∙◌}
use Rattle.std.specs.Prelude.{◌||◌}
use Rattle.prefix_bind.specs.Sums.{Settled}
use Rattle.prefix_bind.proofs.Settling.{set_longer}
use Rattle.prefix_bind.proofs.sums.settle_longer.Goals as goal

pub returns : goal.returns
returns c =
    let s = c.args.scopes.now in
    subst (Settled s) (sym c.set.ensures)
    (set_longer s c.args.rows.now.items c.args.block c.args.next c.args.others c.in-Some.cells c.args.broken c.either-broken.result c.requires.settled c.requires.behind c.requires.so
    (c.sum.ensures c.in-Some.cells c.in-Some.is ∙ ap (λ n. n + c.args.others) c.cells_at.ensures)
    (c.either-broken.ensures ∙ ap (λ w. w || c.args.broken) c.has_wrong_prefix.ensures))

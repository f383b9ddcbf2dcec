use Rattle.std.proofs.Common.{◌≤◌, subst}
use Rattle.codegen.proofs.Heads as w
use Rattle.codegen.proofs.records.hide_connections.Goals as goal

pub loop-index-init : goal.loop-index-init
loop-index-init c = w.hidden_all c.args.bound.now c.args.types.now.items c.args.text

pub loop-index-preserved : goal.loop-index-preserved
loop-index-preserved c = w.hidden_next c.args.bound.now c.args.types.now.items c.loop-index.types.items c.hide.new.types.items c.args.text c.loop-index.index c.in_ok-block.block c.block_count-index-end.result c.loop-index.invariant c.block_count-index-end.ensures c.loop-index-test.true c.in_ok-block.ensures c.in_ok-hide.ensures

pub returns : goal.returns
returns c =
    let k = c.loop-index.index in
    w.hidden_last c.args.bound.now c.args.types.now.items c.loop-index.types.items c.args.text k c.loop-index.invariant (subst (λ z. z ≤ k) c.block_count-index-end.ensures c.loop-index-test.false)

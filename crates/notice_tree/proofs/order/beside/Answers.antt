use Rattle.std.proofs.Common.{Bool, true, false, Some, List, ap, sym, subst}
use Rattle.notice_tree.specs.declared.node.Node.{Node}
use Rattle.notice_tree.specs.declared.spot.Aim.TheVariants.{First, Last}
use Rattle.notice_tree.specs.Held.{IsOpen, front_beside, back_beside}
use Rattle.notice_tree.proofs.PlacingLemmas.{Seeks, beside_before, beside_after}
use Rattle.notice_tree.proofs.order.beside.Goals as goal

pub returns-then-before : goal.returns-then-before
returns-then-before c = λ root l m h s found.
    let nodes : List Node = c.args.nodes.now in
    let seeks : Seeks nodes c.node_at-node.result.left (Some c.args.process) true Last c.seek.result =
    subst (λ (b : Bool). Seeks nodes c.node_at-node.result.left (Some c.args.process) b Last c.seek.result) c.if-before.true c.seek.ensures in
    subst (λ (b : Bool). IsOpen nodes c.seek.result (front_beside b c.args.process.0 m l) (back_beside b c.args.process.0 m l)) (sym c.if-before.true)
    (beside_before nodes root l c.args.process m c.seek.result c.node_at-node.result.left h s found (ap (λ (d : Node). d.left) c.node_at-node.ensures) seeks)

pub returns-else-before : goal.returns-else-before
returns-else-before c = λ root l m h s found.
    let nodes : List Node = c.args.nodes.now in
    let seeks : Seeks nodes c.node_at-node.result.right (Some c.args.process) false First c.seek-else-before.result =
    subst (λ (b : Bool). Seeks nodes c.node_at-node.result.right (Some c.args.process) b First c.seek-else-before.result) c.if-before.false c.seek-else-before.ensures in
    subst (λ (b : Bool). IsOpen nodes c.seek-else-before.result (front_beside b c.args.process.0 m l) (back_beside b c.args.process.0 m l)) (sym c.if-before.false)
    (beside_after nodes root l c.args.process m c.seek-else-before.result c.node_at-node.result.right h s found (ap (λ (d : Node). d.right) c.node_at-node.ensures) seeks)

use Rattle.std.proofs.Common.{◌≡◌, ◌+◌, ◌<◌, ◌≤◌, sym, subst, Some, List, arith}
use Rattle.notice_tree.specs.declared.node.Node.{Node}
use Rattle.notice_tree.specs.Nodes.{node_at, height_at, joined}
use Rattle.notice_tree.specs.Trees.{Branch}
use Rattle.notice_tree.specs.Balance.{AreJoined}
use Rattle.notice_tree.proofs.BalanceLemmas.{rotated_right, rotated_right_twice}
use Rattle.notice_tree.proofs.balance.rotate_right.Goals as goal

pub returns-in-Some : goal.returns-in-Some
returns-in-Some c = λ a b r m n p high.
    let nodes : List Node = c.args.nodes.now in
    let made : c.join-in-Some-2.new.nodes ≡ joined (joined (joined nodes (node_at nodes c.args.top.0).left c.args.top (node_at nodes c.in-Some.middle.0).left) (node_at nodes c.in-Some.middle.0).right c.args.process c.args.right) (Some c.args.top) c.in-Some.middle (Some c.args.process) = cc in
    let link : (node_at nodes c.args.top.0).right ≡ Some c.in-Some.middle = cc (c.in-Some.ensures.0) in
    let higher : height_at nodes (node_at nodes c.args.top.0).left + 0 < height_at nodes (node_at nodes c.args.top.0).right =
    subst (λ (d : Node). height_at nodes d.left + 0 < height_at nodes d.right) c.node_at-node.ensures c.in-Some.ensures.1 in
    subst (λ (new : List Node). AreJoined nodes new (Branch a m b) n r c.in-Some.middle) (sym made)
    (rotated_right_twice nodes c.args.top c.args.process c.in-Some.middle c.args.right a b r m n p high link higher)

pub returns-in-None : goal.returns-in-None
returns-in-None c = λ a b r m n p high.
    let nodes : List Node = c.args.nodes.now in
    let made : c.join-in-None-2.new.nodes ≡ joined (joined nodes (node_at nodes c.args.top.0).right c.args.process c.args.right) (node_at nodes c.args.top.0).left c.args.top (Some c.args.process) = cc in
    let low : height_at nodes (node_at nodes c.args.top.0).right ≤ height_at nodes (node_at nodes c.args.top.0).left =
    subst (λ (d : Node). height_at nodes d.right ≤ height_at nodes d.left) c.node_at-node.ensures (omega (arith, c.in-None.ensures)) in
    subst (λ (new : List Node). AreJoined nodes new (Branch a m b) n r c.args.top) (sym made)
    (rotated_right nodes c.args.top c.args.process c.args.right a b r m n p high low)

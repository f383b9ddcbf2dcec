use Rattle.std.proofs.Common.{◌≡◌, ◌+◌, ◌<◌, ◌≤◌, sym, subst, Some, List, arith}
use Rattle.notice_tree.specs.declared.node.Node.{Node}
use Rattle.notice_tree.specs.Nodes.{node_at, height_at, joined}
use Rattle.notice_tree.specs.Trees.{Branch}
use Rattle.notice_tree.specs.Balance.{AreJoined}
use Rattle.notice_tree.proofs.BalanceLemmas.{rotated_left, rotated_left_twice}
use Rattle.notice_tree.proofs.balance.rotate_left.Goals as goal

pub returns-in-Some : goal.returns-in-Some
returns-in-Some c = λ l b d n m p high.
    let nodes : List Node = c.args.nodes.now in
    let made : c.join-in-Some-2.new.nodes ≡ joined (joined (joined nodes c.args.left c.args.process (node_at nodes c.in-Some.middle.0).left) (node_at nodes c.in-Some.middle.0).right c.args.top (node_at nodes c.args.top.0).right) (Some c.args.process) c.in-Some.middle (Some c.args.top) = cc in
    let link : (node_at nodes c.args.top.0).left ≡ Some c.in-Some.middle = cc (c.in-Some.ensures.0) in
    let higher : height_at nodes (node_at nodes c.args.top.0).right + 0 < height_at nodes (node_at nodes c.args.top.0).left =
    subst (λ (e : Node). height_at nodes e.right + 0 < height_at nodes e.left) c.node_at-node.ensures c.in-Some.ensures.1 in
    subst (λ (new : List Node). AreJoined nodes new l n (Branch b m d) c.in-Some.middle) (sym made)
    (rotated_left_twice nodes c.args.left c.args.process c.args.top c.in-Some.middle l b d n m p high link higher)

pub returns-in-None : goal.returns-in-None
returns-in-None c = λ l b d n m p high.
    let nodes : List Node = c.args.nodes.now in
    let made : c.join-in-None-2.new.nodes ≡ joined (joined nodes c.args.left c.args.process (node_at nodes c.args.top.0).left) (Some c.args.process) c.args.top (node_at nodes c.args.top.0).right = cc in
    let low : height_at nodes (node_at nodes c.args.top.0).left ≤ height_at nodes (node_at nodes c.args.top.0).right =
    subst (λ (e : Node). height_at nodes e.left ≤ height_at nodes e.right) c.node_at-node.ensures (omega (arith, c.in-None.ensures)) in
    subst (λ (new : List Node). AreJoined nodes new l n (Branch b m d) c.args.top) (sym made)
    (rotated_left nodes c.args.left c.args.process c.args.top l b d n m p high low)

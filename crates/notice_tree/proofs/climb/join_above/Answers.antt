use Rattle.std.proofs.Common.{◌≡◌, ◌≢◌, List, Some, ◌+◌, ◌≤◌, ap, sym, ◌∙◌, subst, rules}
use Rattle.notices.specs.declared.notice.Notice.{Notice}
use Rattle.notice_tree.specs.declared.node.Node.{Node}
use Rattle.notice_tree.specs.Nodes.{node_at}
use Rattle.notice_tree.specs.Trees.{Tree, height}
use Rattle.notice_tree.specs.Balance.{AreParts, AreJoined}
use Rattle.notice_tree.proofs.ClimbLemmas.{one_up_left, one_up_right}
use Rattle.notice_tree.proofs.climb.join_above.Goals as goal

pub returns-then-eq : goal.returns-then-eq
returns-then-eq c = λ stop step way t h g.
    let nodes : List Node = c.args.nodes.now in
    let is : c.node_at-node.result.left ≡ Some c.args.from = search rules in
    let link : (node_at nodes c.args.process.0).left ≡ Some c.args.from = ap (λ (d : Node). d.left) (sym c.node_at-node.ensures) ∙ is in
    one_up_left nodes c.balance.new.nodes c.args.from c.args.process c.balance.result c.args.below stop step way t h g link
    (subst (λ (d : Node). (l r : Tree) (n : Notice) → AreParts nodes c.args.below c.args.process d.right l n r → height l ≤ height r + 2 → height r ≤ height l + 2 → AreJoined nodes c.balance.new.nodes l n r c.balance.result) c.node_at-node.ensures c.balance.ensures)

pub returns-else-eq : goal.returns-else-eq
returns-else-eq c = λ stop step way t h g.
    let nodes : List Node = c.args.nodes.now in
    let is : c.node_at-node.result.left ≢ Some c.args.from = search rules in
    let link : (node_at nodes c.args.process.0).left ≢ Some c.args.from = λ e. is (ap (λ (d : Node). d.left) c.node_at-node.ensures ∙ e) in
    one_up_right nodes c.balance-else-eq.new.nodes c.args.from c.args.process c.balance-else-eq.result c.args.below stop step way t h g link
    (subst (λ (d : Node). (l r : Tree) (n : Notice) → AreParts nodes d.left c.args.process c.args.below l n r → height l ≤ height r + 2 → height r ≤ height l + 2 → AreJoined nodes c.balance-else-eq.new.nodes l n r c.balance-else-eq.result) c.node_at-node.ensures c.balance-else-eq.ensures)

use Rattle.std.proofs.Common.{sym, subst, List}
use Rattle.notice_tree.specs.declared.node.Node.{Node}
use Rattle.notice_tree.specs.Balance.{AreJoined}
use Rattle.notice_tree.proofs.BalanceLemmas.{stays_even}
use Rattle.notice_tree.proofs.balance.balance.Goals as goal

pub returns-in-None-if_higher : goal.returns-in-None-if_higher
returns-in-None-if_higher c = λ l r n p h1 h2.
    subst (λ (new : List Node). AreJoined c.args.nodes.now new l n r c.args.process) (sym c.join.ensures)
    (stays_even c.args.nodes.now c.args.left c.args.right c.args.process l r n p c.in-None.ensures c.in-None-if_higher.ensures)

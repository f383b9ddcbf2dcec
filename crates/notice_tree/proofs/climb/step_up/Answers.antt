use Rattle.std.proofs.Common.{◌≡◌, subst}
use Rattle.notice_tree.specs.declared.node.Node.{Node}
use Rattle.notice_tree.specs.Nodes.{node_at}
use Rattle.notice_tree.proofs.ClimbLemmas.{joined_up, settled_up}
use Rattle.notice_tree.proofs.climb.step_up.Goals as goal

pub returns-then-settled : goal.returns-then-settled
returns-then-settled c = λ stop step way t h g s. settled_up c.args.nodes.now c.args.from c.args.process c.args.below stop step way t h g (s c.if-settled.true)

pub returns : goal.returns
returns c = λ stop step way t h g s.
    let new = c.join_above-root.new.nodes in
    let root = c.join_above-root.result in
    let process = c.args.process in
    joined_up c.args.nodes.now new c.args.from process root c.args.below stop step way t h c.is_as_before.result g (c.join_above-root.ensures stop step way t h g)
    (λ e. subst (λ (d : Node). (root ≡ process) × ((node_at new process.0).parent ≡ d.parent) × ((node_at new process.0).height ≡ d.height)) c.node_at-before.ensures (c.is_as_before.ensures e))

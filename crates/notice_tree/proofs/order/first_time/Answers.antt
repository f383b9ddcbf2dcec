use Rattle.std.proofs.Common.{ap, sym, ◌∙◌}
use Rattle.notice_tree.specs.declared.node.Node.{Node}
use Rattle.notice_tree.proofs.HeldLemmas.{time_held}
use Rattle.notice_tree.proofs.TreeLemmas.{no_time, first_time_is}
use Rattle.notice_tree.proofs.order.first_time.Goals as goal

pub returns-in_err-process : goal.returns-in_err-process
returns-in_err-process c = λ l h s. c.from_residual.ensures ∙ no_time l (sym (c.first_process.ensures l h s) ∙ c.in_err-process.was)

pub returns : goal.returns
returns c = λ l h s.
    first_time_is l c.in_ok-process.process c.node_at.result.time (sym (c.first_process.ensures l h s) ∙ c.in_ok-process.was)
    (ap (λ (d : Node). d.time) c.node_at.ensures ∙ time_held c.args.nodes.now c.args.root l c.in_ok-process.process.0 h s.once)

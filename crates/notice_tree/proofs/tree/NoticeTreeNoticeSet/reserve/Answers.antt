use Rattle.std.proofs.Common.{Option, List, ap, ◌∙◌}
use Rattle.notices.specs.declared.notice.Notice.{Notice}
use Rattle.notices.specs.declared.notice.ProcessNo.{ProcessNo}
use Rattle.notices.specs.Seen.{NoticeList}
use Rattle.notice_tree.specs.declared.node.Node.{Node}
use Rattle.notice_tree.specs.Trees.{in_order}
use Rattle.notice_tree.specs.Held.{tree_at}
use Rattle.notice_tree.proofs.TreeLemmas.{IsStep, IsStep-grown}
use Rattle.notice_tree.proofs.tree.NoticeTreeNoticeSet.reserve.Goals as goal

pub invariant_of-self : goal.invariant_of-self
invariant_of-self c =
    let items : List Node = c.self.inside.nodes.items in
    let root : Option ProcessNo = c.self.inside.root in
    let l : List Notice = in_order (tree_at items root) in
    let step : IsStep c.make_nodes.new.nodes.items root l =
    IsStep-grown items c.make_nodes.new.nodes.items root c.self.invariant c.make_nodes.ensures.not_lower c.make_nodes.ensures.same in
    step.is_tree

pub returns-clause-stays : goal.returns-clause-stays
returns-clause-stays c =
    let items : List Node = c.self.inside.nodes.items in
    let root : Option ProcessNo = c.self.inside.root in
    let l : List Notice = in_order (tree_at items root) in
    let step : IsStep c.make_nodes.new.nodes.items root l =
    IsStep-grown items c.make_nodes.new.nodes.items root c.self.invariant c.make_nodes.ensures.not_lower c.make_nodes.ensures.same in
    step.list ∙ ap (λ (v : NoticeList). v.notices) c.self.view_is

use Rattle.std.proofs.Common.{◌≡◌, Option, List, ap, ◌∙◌}
use Rattle.notices.specs.declared.notice.Notice.{Notice}
use Rattle.notices.specs.declared.notice.ProcessNo.{ProcessNo}
use Rattle.notices.specs.Seen.{NoticeList}
use Rattle.notices.specs.Notices.{event_time}
use Rattle.notice_tree.specs.declared.node.Node.{Node}
use Rattle.notice_tree.specs.Nodes.{node_at}
use Rattle.notice_tree.specs.Trees.{in_order}
use Rattle.notice_tree.specs.Held.{tree_at}
use Rattle.notice_tree.proofs.HeldLemmas.{time_held}
use Rattle.notice_tree.proofs.TreeLemmas.{reads}
use Rattle.notice_tree.proofs.tree.NoticeTreeNoticeSet.time_of.Goals as goal

pub returns : goal.returns
returns c =
    let items : List Node = c.self.inside.nodes.items in
    let root : Option ProcessNo = c.self.inside.root in
    let l : List Notice = in_order (tree_at items root) in
    ap (λ (d : Node). d.time) c.node_at.ensures
    ∙ reads items c.deref.result.now root (λ (k : List Notice). (node_at c.deref.result.now c.args.process.0).time ≡ event_time c.args.process.0 k) c.deref.ensures.value c.self.invariant (λ k h s. time_held c.deref.result.now root k c.args.process.0 h s.once)
    ∙ ap (λ (v : NoticeList). event_time c.args.process.0 v.notices) c.self.view_is

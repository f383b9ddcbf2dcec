use Rattle.std.proofs.Common.{◌≡◌, Option, List, ap, ◌∙◌}
use Rattle.notices.specs.declared.notice.Notice.{Notice}
use Rattle.notices.specs.declared.notice.ProcessNo.{ProcessNo}
use Rattle.notices.specs.Seen.{NoticeList}
use Rattle.notices.specs.Notices.{next_process}
use Rattle.notice_tree.specs.declared.node.Node.{Node}
use Rattle.notice_tree.specs.Trees.{in_order}
use Rattle.notice_tree.specs.Held.{tree_at}
use Rattle.notice_tree.proofs.TreeLemmas.{reads}
use Rattle.notice_tree.proofs.tree.NoticeTreeNoticeSet.next.Goals as goal

pub returns : goal.returns
returns c =
    let items : List Node = c.self.inside.nodes.items in
    let root : Option ProcessNo = c.self.inside.root in
    let l : List Notice = in_order (tree_at items root) in
    reads items c.deref.result.now root (λ (k : List Notice). c.next_process.result ≡ next_process c.args.process.0 k) c.deref.ensures.value c.self.invariant (λ k h s. c.next_process.ensures root k h s)
    ∙ ap (λ (v : NoticeList). next_process c.args.process.0 v.notices) c.self.view_is

use Rattle.std.proofs.Common.{◌≡◌, Option, List, ap, ◌∙◌, subst}
use Rattle.notices.specs.declared.notice.Notice.{Notice}
use Rattle.notices.specs.declared.notice.ProcessNo.{ProcessNo}
use Rattle.notices.specs.Seen.{NoticeList}
use Rattle.notices.specs.Notices.{first_event}
use Rattle.notices.specs.Schedule.{IsSchedule}
use Rattle.notice_tree.specs.declared.node.Node.{Node}
use Rattle.notice_tree.specs.Trees.{in_order}
use Rattle.notice_tree.specs.Held.{tree_at}
use Rattle.notice_tree.proofs.TreeLemmas.{reads}
use Rattle.notice_tree.proofs.tree.NoticeTreeNoticeSet.first.Goals as goal

pub returns-clause-first : goal.returns-clause-first
returns-clause-first c =
    let items : List Node = c.self.inside.nodes.items in
    let root : Option ProcessNo = c.self.inside.root in
    let l : List Notice = in_order (tree_at items root) in
    reads items c.deref.result.now root (λ (k : List Notice). c.first_event.result ≡ first_event k) c.deref.ensures.value c.self.invariant (λ k h s. c.first_event.ensures k h s)
    ∙ ap (λ (v : NoticeList). first_event v.notices) c.self.view_is

pub returns-clause-schedule : goal.returns-clause-schedule
returns-clause-schedule c =
    let items : List Node = c.self.inside.nodes.items in
    let root : Option ProcessNo = c.self.inside.root in
    let l : List Notice = in_order (tree_at items root) in
    subst (λ (v : NoticeList). IsSchedule v.notices v.room) c.self.view_is c.self.invariant.schedule

use Rattle.std.proofs.Common.{◌+◌, ◌^◌, ◌<◌, ◌≤◌, length, subst}
use Rattle.notices.specs.Seen.{NoticeList}
use Rattle.notice_tree.proofs.TreeLemmas.{height_low, height_enough}
use Rattle.notice_tree.proofs.tree.NoticeTree.height.Goals as goal

pub returns-clause-low : goal.returns-clause-low
returns-clause-low c =
    subst (λ (v : NoticeList). 2 ^ c.height_at.result ≤ (length v.notices + 1) ^ 2) c.self.view_is
    (height_low c.self.inside.nodes.items c.deref.result.now c.self.inside.root c.height_at.result c.deref.ensures.value c.self.invariant c.height_at.ensures)

pub returns-clause-enough : goal.returns-clause-enough
returns-clause-enough c =
    subst (λ (v : NoticeList). length v.notices < 2 ^ c.height_at.result) c.self.view_is
    (height_enough c.self.inside.nodes.items c.deref.result.now c.self.inside.root c.height_at.result c.deref.ensures.value c.self.invariant c.height_at.ensures)

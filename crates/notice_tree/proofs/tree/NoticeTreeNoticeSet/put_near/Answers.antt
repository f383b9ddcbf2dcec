use Rattle.std.proofs.Common.{◌≡◌, ◌≢◌, ◌<◌, is_some, Option, List, ◌++◌, length, take, drop, ap, sym, ◌∙◌, subst, arith, rules}
use Rattle.notices.specs.declared.notice.Notice.{Notice}
use Rattle.notices.specs.declared.notice.ProcessNo.{ProcessNo}
use Rattle.notices.specs.Seen.{NoticeList}
use Rattle.notices.specs.Notices.{has_notice, placed_near}
use Rattle.notices.proofs.ScheduleLemmas.{IsSchedule-placed_near}
use Rattle.notice_tree.specs.declared.node.Node.{Node}
use Rattle.notice_tree.specs.Nodes.{node_at}
use Rattle.notice_tree.specs.Trees.{in_order}
use Rattle.notice_tree.specs.Held.{tree_at}
use Rattle.notice_tree.proofs.HeldLemmas.{has_held}
use Rattle.notice_tree.proofs.TreeLemmas.{IsStep, IsStep-from, reads, written_back}
use Rattle.notice_tree.proofs.tree.NoticeTreeNoticeSet.put_near.Goals as goal

pub invariant_of-self : goal.invariant_of-self
invariant_of-self c =
    let items : List Node = c.self.inside.nodes.items in
    let root : Option ProcessNo = c.self.inside.root in
    let l : List Notice = in_order (tree_at items root) in
    let slice : List Node = c.deref_mut.result.now in
    let new : List Node = c.put_beside-self-inside.new.nodes in
    let link : Option ProcessNo = c.put_beside-self-inside.result in
    let same : slice ≡ items = c.deref_mut.ensures.value in
    let within : c.args.process.0 < length items = subst (λ r. c.args.process.0 < r) (sym (ap (λ (v : NoticeList). v.room) c.self.view_is)) c.requires in
    let within' : c.args.process.0 < length slice = subst (λ (k : List Node). c.args.process.0 < length k) (sym same) within in
    let other : c.args.process.0 ≢ c.args.other.0 = search (rules, c.eq.ensures) in
    let done : IsStep new link (placed_near c.args.before c.args.other.0 c.args.process.0 l) =
    IsStep-from items slice new root link (placed_near c.args.before c.args.other.0 c.args.process.0 l) same c.put_beside-self-inside.auto.nodes c.self.invariant
    (λ h s. c.put_beside-self-inside.ensures l h s within' other)
    (IsSchedule-placed_near c.args.before c.args.other.0 c.args.process.0 l (length items) c.self.invariant.schedule within) in
    let len : length new ≡ length items = c.put_beside-self-inside.auto.nodes ∙ ap length same in
    let back : take c.self.inside.nodes.len (new ++ drop (length new) items) ≡ new = written_back items new c.self.inside.nodes.len (sym c.deref_mut.ensures.len ∙ ap length same) len in
    let step : IsStep (take c.self.inside.nodes.len (new ++ drop (length new) items)) link (placed_near c.args.before c.args.other.0 c.args.process.0 l) = subst (λ (k : List Node). IsStep k link (placed_near c.args.before c.args.other.0 c.args.process.0 l)) (sym back) done in
    step.is_tree

pub returns-clause-placed : goal.returns-clause-placed
returns-clause-placed c =
    let items : List Node = c.self.inside.nodes.items in
    let root : Option ProcessNo = c.self.inside.root in
    let l : List Notice = in_order (tree_at items root) in
    let slice : List Node = c.deref_mut.result.now in
    let new : List Node = c.put_beside-self-inside.new.nodes in
    let link : Option ProcessNo = c.put_beside-self-inside.result in
    let same : slice ≡ items = c.deref_mut.ensures.value in
    let within : c.args.process.0 < length items = subst (λ r. c.args.process.0 < r) (sym (ap (λ (v : NoticeList). v.room) c.self.view_is)) c.requires in
    let within' : c.args.process.0 < length slice = subst (λ (k : List Node). c.args.process.0 < length k) (sym same) within in
    let other : c.args.process.0 ≢ c.args.other.0 = search (rules, c.eq.ensures) in
    let done : IsStep new link (placed_near c.args.before c.args.other.0 c.args.process.0 l) =
    IsStep-from items slice new root link (placed_near c.args.before c.args.other.0 c.args.process.0 l) same c.put_beside-self-inside.auto.nodes c.self.invariant
    (λ h s. c.put_beside-self-inside.ensures l h s within' other)
    (IsSchedule-placed_near c.args.before c.args.other.0 c.args.process.0 l (length items) c.self.invariant.schedule within) in
    let len : length new ≡ length items = c.put_beside-self-inside.auto.nodes ∙ ap length same in
    let back : take c.self.inside.nodes.len (new ++ drop (length new) items) ≡ new = written_back items new c.self.inside.nodes.len (sym c.deref_mut.ensures.len ∙ ap length same) len in
    let step : IsStep (take c.self.inside.nodes.len (new ++ drop (length new) items)) link (placed_near c.args.before c.args.other.0 c.args.process.0 l) = subst (λ (k : List Node). IsStep k link (placed_near c.args.before c.args.other.0 c.args.process.0 l)) (sym back) done in
    step.list ∙ ap (λ (v : NoticeList). placed_near c.args.before c.args.other.0 c.args.process.0 v.notices) c.self.view_is

pub returns-clause-not_lower : goal.returns-clause-not_lower
returns-clause-not_lower c =
    let items : List Node = c.self.inside.nodes.items in
    let root : Option ProcessNo = c.self.inside.root in
    let l : List Notice = in_order (tree_at items root) in
    let slice : List Node = c.deref_mut.result.now in
    let new : List Node = c.put_beside-self-inside.new.nodes in
    let link : Option ProcessNo = c.put_beside-self-inside.result in
    let same : slice ≡ items = c.deref_mut.ensures.value in
    let within : c.args.process.0 < length items = subst (λ r. c.args.process.0 < r) (sym (ap (λ (v : NoticeList). v.room) c.self.view_is)) c.requires in
    let within' : c.args.process.0 < length slice = subst (λ (k : List Node). c.args.process.0 < length k) (sym same) within in
    let other : c.args.process.0 ≢ c.args.other.0 = search (rules, c.eq.ensures) in
    let done : IsStep new link (placed_near c.args.before c.args.other.0 c.args.process.0 l) =
    IsStep-from items slice new root link (placed_near c.args.before c.args.other.0 c.args.process.0 l) same c.put_beside-self-inside.auto.nodes c.self.invariant
    (λ h s. c.put_beside-self-inside.ensures l h s within' other)
    (IsSchedule-placed_near c.args.before c.args.other.0 c.args.process.0 l (length items) c.self.invariant.schedule within) in
    let len : length new ≡ length items = c.put_beside-self-inside.auto.nodes ∙ ap length same in
    let back : take c.self.inside.nodes.len (new ++ drop (length new) items) ≡ new = written_back items new c.self.inside.nodes.len (sym c.deref_mut.ensures.len ∙ ap length same) len in
    let step : IsStep (take c.self.inside.nodes.len (new ++ drop (length new) items)) link (placed_near c.args.before c.args.other.0 c.args.process.0 l) = subst (λ (k : List Node). IsStep k link (placed_near c.args.before c.args.other.0 c.args.process.0 l)) (sym back) done in
    omega (arith, len, ap length back, ap (λ (v : NoticeList). v.room) c.self.view_is)

pub returns-then-eq-clause-found : goal.returns-then-eq-clause-found
returns-then-eq-clause-found c =
    let items : List Node = c.self.inside.nodes.items in
    let root : Option ProcessNo = c.self.inside.root in
    let l : List Notice = in_order (tree_at items root) in
    let has : is_some (node_at c.deref.result.now c.args.other.0).time ≡ has_notice c.args.other.0 l =
    reads items c.deref.result.now root (λ (k : List Notice). is_some (node_at c.deref.result.now c.args.other.0).time ≡ has_notice c.args.other.0 k) c.deref.ensures.value c.self.invariant
    (λ k h s. has_held c.deref.result.now root k c.args.other.0 h s.once) in
    c.is_some-found.ensures ∙ ap (λ (d : Node). is_some d.time) c.node_at.ensures ∙ has ∙ ap (λ (v : NoticeList). has_notice c.args.other.0 v.notices) c.self.view_is

pub returns-clause-found : goal.returns-clause-found
returns-clause-found c =
    let items : List Node = c.self.inside.nodes.items in
    let root : Option ProcessNo = c.self.inside.root in
    let l : List Notice = in_order (tree_at items root) in
    let has : is_some (node_at c.deref.result.now c.args.other.0).time ≡ has_notice c.args.other.0 l =
    reads items c.deref.result.now root (λ (k : List Notice). is_some (node_at c.deref.result.now c.args.other.0).time ≡ has_notice c.args.other.0 k) c.deref.ensures.value c.self.invariant
    (λ k h s. has_held c.deref.result.now root k c.args.other.0 h s.once) in
    c.is_some-found.ensures ∙ ap (λ (d : Node). is_some d.time) c.node_at.ensures ∙ has ∙ ap (λ (v : NoticeList). has_notice c.args.other.0 v.notices) c.self.view_is

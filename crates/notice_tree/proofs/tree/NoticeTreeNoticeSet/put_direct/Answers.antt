use Rattle.std.proofs.Common.{◌≡◌, ◌≢◌, ◌<◌, Option, List, [], ◌++◌, length, take, drop, ap, sym, ◌∙◌, subst, arith}
use Rattle.notices.specs.declared.notice.Notice.{Notice}
use Rattle.notices.specs.declared.notice.ProcessNo.{ProcessNo}
use Rattle.notices.specs.Seen.{NoticeList}
use Rattle.notices.specs.Notices.{placed_direct}
use Rattle.notices.proofs.ScheduleLemmas.{IsSchedule-placed_direct}
use Rattle.notice_tree.specs.declared.node.Node.{Node}
use Rattle.notice_tree.specs.Trees.{in_order}
use Rattle.notice_tree.specs.Held.{tree_at}
use Rattle.notice_tree.proofs.TreeLemmas.{IsStep, IsStep-from, written_back}
use Rattle.notice_tree.proofs.tree.NoticeTreeNoticeSet.put_direct.Goals as goal

pub invariant_of-self : goal.invariant_of-self
invariant_of-self c =
    let items : List Node = c.self.inside.nodes.items in
    let root : Option ProcessNo = c.self.inside.root in
    let l : List Notice = in_order (tree_at items root) in
    let slice : List Node = c.deref_mut.result.now in
    let new : List Node = c.put_direct-self-inside.new.nodes in
    let link : Option ProcessNo = c.put_direct-self-inside.result in
    let same : slice ≡ items = c.deref_mut.ensures.value in
    let within : c.args.process.0 < length items = subst (λ r. c.args.process.0 < r) (sym (ap (λ (v : NoticeList). v.room) c.self.view_is)) c.requires.within in
    let within' : c.args.process.0 < length slice = subst (λ (k : List Node). c.args.process.0 < length k) (sym same) within in
    let begun : l ≢ [] = λ e. c.requires.begun (ap (λ (v : NoticeList). v.notices) (sym c.self.view_is) ∙ e) in
    let done : IsStep new link (placed_direct c.args.process.0 l) =
    IsStep-from items slice new root link (placed_direct c.args.process.0 l) same c.put_direct-self-inside.auto.nodes c.self.invariant
    (λ h s. c.put_direct-self-inside.ensures l h s within' begun)
    (IsSchedule-placed_direct c.args.process.0 l (length items) c.self.invariant.schedule within) in
    let len : length new ≡ length items = c.put_direct-self-inside.auto.nodes ∙ ap length same in
    let back : take c.self.inside.nodes.len (new ++ drop (length new) items) ≡ new = written_back items new c.self.inside.nodes.len (sym c.deref_mut.ensures.len ∙ ap length same) len in
    let step : IsStep (take c.self.inside.nodes.len (new ++ drop (length new) items)) link (placed_direct c.args.process.0 l) = subst (λ (k : List Node). IsStep k link (placed_direct c.args.process.0 l)) (sym back) done in
    step.is_tree

pub returns-clause-placed : goal.returns-clause-placed
returns-clause-placed c =
    let items : List Node = c.self.inside.nodes.items in
    let root : Option ProcessNo = c.self.inside.root in
    let l : List Notice = in_order (tree_at items root) in
    let slice : List Node = c.deref_mut.result.now in
    let new : List Node = c.put_direct-self-inside.new.nodes in
    let link : Option ProcessNo = c.put_direct-self-inside.result in
    let same : slice ≡ items = c.deref_mut.ensures.value in
    let within : c.args.process.0 < length items = subst (λ r. c.args.process.0 < r) (sym (ap (λ (v : NoticeList). v.room) c.self.view_is)) c.requires.within in
    let within' : c.args.process.0 < length slice = subst (λ (k : List Node). c.args.process.0 < length k) (sym same) within in
    let begun : l ≢ [] = λ e. c.requires.begun (ap (λ (v : NoticeList). v.notices) (sym c.self.view_is) ∙ e) in
    let done : IsStep new link (placed_direct c.args.process.0 l) =
    IsStep-from items slice new root link (placed_direct c.args.process.0 l) same c.put_direct-self-inside.auto.nodes c.self.invariant
    (λ h s. c.put_direct-self-inside.ensures l h s within' begun)
    (IsSchedule-placed_direct c.args.process.0 l (length items) c.self.invariant.schedule within) in
    let len : length new ≡ length items = c.put_direct-self-inside.auto.nodes ∙ ap length same in
    let back : take c.self.inside.nodes.len (new ++ drop (length new) items) ≡ new = written_back items new c.self.inside.nodes.len (sym c.deref_mut.ensures.len ∙ ap length same) len in
    let step : IsStep (take c.self.inside.nodes.len (new ++ drop (length new) items)) link (placed_direct c.args.process.0 l) = subst (λ (k : List Node). IsStep k link (placed_direct c.args.process.0 l)) (sym back) done in
    step.list ∙ ap (λ (v : NoticeList). placed_direct c.args.process.0 v.notices) c.self.view_is

pub returns-clause-not_lower : goal.returns-clause-not_lower
returns-clause-not_lower c =
    let items : List Node = c.self.inside.nodes.items in
    let root : Option ProcessNo = c.self.inside.root in
    let l : List Notice = in_order (tree_at items root) in
    let slice : List Node = c.deref_mut.result.now in
    let new : List Node = c.put_direct-self-inside.new.nodes in
    let link : Option ProcessNo = c.put_direct-self-inside.result in
    let same : slice ≡ items = c.deref_mut.ensures.value in
    let within : c.args.process.0 < length items = subst (λ r. c.args.process.0 < r) (sym (ap (λ (v : NoticeList). v.room) c.self.view_is)) c.requires.within in
    let within' : c.args.process.0 < length slice = subst (λ (k : List Node). c.args.process.0 < length k) (sym same) within in
    let begun : l ≢ [] = λ e. c.requires.begun (ap (λ (v : NoticeList). v.notices) (sym c.self.view_is) ∙ e) in
    let done : IsStep new link (placed_direct c.args.process.0 l) =
    IsStep-from items slice new root link (placed_direct c.args.process.0 l) same c.put_direct-self-inside.auto.nodes c.self.invariant
    (λ h s. c.put_direct-self-inside.ensures l h s within' begun)
    (IsSchedule-placed_direct c.args.process.0 l (length items) c.self.invariant.schedule within) in
    let len : length new ≡ length items = c.put_direct-self-inside.auto.nodes ∙ ap length same in
    let back : take c.self.inside.nodes.len (new ++ drop (length new) items) ≡ new = written_back items new c.self.inside.nodes.len (sym c.deref_mut.ensures.len ∙ ap length same) len in
    let step : IsStep (take c.self.inside.nodes.len (new ++ drop (length new) items)) link (placed_direct c.args.process.0 l) = subst (λ (k : List Node). IsStep k link (placed_direct c.args.process.0 l)) (sym back) done in
    omega (arith, len, ap length back, ap (λ (v : NoticeList). v.room) c.self.view_is)

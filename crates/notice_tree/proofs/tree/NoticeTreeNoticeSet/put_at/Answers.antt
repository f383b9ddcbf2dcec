use Rattle.std.proofs.Common.{◌≡◌, ◌<◌, ℤ, Option, List, ◌++◌, length, take, drop, ap, sym, ◌∙◌, subst, arith, w64}
use Rattle.std.proofs.lemmas.Int.{to_z-of_z}
use Rattle.notices.specs.declared.notice.Notice.{Notice}
use Rattle.notices.specs.declared.notice.ProcessNo.{ProcessNo}
use Rattle.notices.specs.Seen.{NoticeList}
use Rattle.notices.specs.Notices.{placed_at}
use Rattle.notices.proofs.ScheduleLemmas.{IsSchedule-placed_at}
use Rattle.notice_tree.specs.declared.node.Node.{Node}
use Rattle.notice_tree.specs.Trees.{in_order}
use Rattle.notice_tree.specs.Held.{tree_at, IsHeld}
use Rattle.notice_tree.proofs.TreeLemmas.{IsStep, IsStep-from, written_back}
use Rattle.notice_tree.proofs.tree.NoticeTreeNoticeSet.put_at.Goals as goal

pub invariant_of-self : goal.invariant_of-self
invariant_of-self c =
    let items : List Node = c.self.inside.nodes.items in
    let root : Option ProcessNo = c.self.inside.root in
    let l : List Notice = in_order (tree_at items root) in
    let slice : List Node = c.deref_mut.result.now in
    let new : List Node = c.put_at-self-inside.new.nodes in
    let link : Option ProcessNo = c.put_at-self-inside.result in
    let same : slice ≡ items = c.deref_mut.ensures.value in
    let within : c.args.process.0 < length items = subst (λ r. c.args.process.0 < r) (sym (ap (λ (v : NoticeList). v.room) c.self.view_is)) c.requires in
    let within' : c.args.process.0 < length slice = subst (λ (k : List Node). c.args.process.0 < length k) (sym same) within in
    let done : IsStep new link (placed_at c.args.time c.args.prior c.args.process.0 l) =
    IsStep-from items slice new root link (placed_at c.args.time c.args.prior c.args.process.0 l) same c.put_at-self-inside.auto.nodes c.self.invariant
    (λ h s. (subst (λ (t : ℤ). IsHeld new link (placed_at t c.args.prior c.args.process.0 l)) (to_z-of_z w64 c.args.time c.ranges.time) (c.put_at-self-inside.ensures l h s within')))
    (IsSchedule-placed_at c.args.time c.args.prior c.args.process.0 l (length items) c.self.invariant.schedule within) in
    let len : length new ≡ length items = c.put_at-self-inside.auto.nodes ∙ ap length same in
    let back : take c.self.inside.nodes.len (new ++ drop (length new) items) ≡ new = written_back items new c.self.inside.nodes.len (sym c.deref_mut.ensures.len ∙ ap length same) len in
    let step : IsStep (take c.self.inside.nodes.len (new ++ drop (length new) items)) link (placed_at c.args.time c.args.prior c.args.process.0 l) = subst (λ (k : List Node). IsStep k link (placed_at c.args.time c.args.prior c.args.process.0 l)) (sym back) done in
    step.is_tree

pub returns-clause-placed : goal.returns-clause-placed
returns-clause-placed c =
    let items : List Node = c.self.inside.nodes.items in
    let root : Option ProcessNo = c.self.inside.root in
    let l : List Notice = in_order (tree_at items root) in
    let slice : List Node = c.deref_mut.result.now in
    let new : List Node = c.put_at-self-inside.new.nodes in
    let link : Option ProcessNo = c.put_at-self-inside.result in
    let same : slice ≡ items = c.deref_mut.ensures.value in
    let within : c.args.process.0 < length items = subst (λ r. c.args.process.0 < r) (sym (ap (λ (v : NoticeList). v.room) c.self.view_is)) c.requires in
    let within' : c.args.process.0 < length slice = subst (λ (k : List Node). c.args.process.0 < length k) (sym same) within in
    let done : IsStep new link (placed_at c.args.time c.args.prior c.args.process.0 l) =
    IsStep-from items slice new root link (placed_at c.args.time c.args.prior c.args.process.0 l) same c.put_at-self-inside.auto.nodes c.self.invariant
    (λ h s. (subst (λ (t : ℤ). IsHeld new link (placed_at t c.args.prior c.args.process.0 l)) (to_z-of_z w64 c.args.time c.ranges.time) (c.put_at-self-inside.ensures l h s within')))
    (IsSchedule-placed_at c.args.time c.args.prior c.args.process.0 l (length items) c.self.invariant.schedule within) in
    let len : length new ≡ length items = c.put_at-self-inside.auto.nodes ∙ ap length same in
    let back : take c.self.inside.nodes.len (new ++ drop (length new) items) ≡ new = written_back items new c.self.inside.nodes.len (sym c.deref_mut.ensures.len ∙ ap length same) len in
    let step : IsStep (take c.self.inside.nodes.len (new ++ drop (length new) items)) link (placed_at c.args.time c.args.prior c.args.process.0 l) = subst (λ (k : List Node). IsStep k link (placed_at c.args.time c.args.prior c.args.process.0 l)) (sym back) done in
    step.list ∙ ap (λ (v : NoticeList). placed_at c.args.time c.args.prior c.args.process.0 v.notices) c.self.view_is

pub returns-clause-not_lower : goal.returns-clause-not_lower
returns-clause-not_lower c =
    let items : List Node = c.self.inside.nodes.items in
    let root : Option ProcessNo = c.self.inside.root in
    let l : List Notice = in_order (tree_at items root) in
    let slice : List Node = c.deref_mut.result.now in
    let new : List Node = c.put_at-self-inside.new.nodes in
    let link : Option ProcessNo = c.put_at-self-inside.result in
    let same : slice ≡ items = c.deref_mut.ensures.value in
    let within : c.args.process.0 < length items = subst (λ r. c.args.process.0 < r) (sym (ap (λ (v : NoticeList). v.room) c.self.view_is)) c.requires in
    let within' : c.args.process.0 < length slice = subst (λ (k : List Node). c.args.process.0 < length k) (sym same) within in
    let done : IsStep new link (placed_at c.args.time c.args.prior c.args.process.0 l) =
    IsStep-from items slice new root link (placed_at c.args.time c.args.prior c.args.process.0 l) same c.put_at-self-inside.auto.nodes c.self.invariant
    (λ h s. (subst (λ (t : ℤ). IsHeld new link (placed_at t c.args.prior c.args.process.0 l)) (to_z-of_z w64 c.args.time c.ranges.time) (c.put_at-self-inside.ensures l h s within')))
    (IsSchedule-placed_at c.args.time c.args.prior c.args.process.0 l (length items) c.self.invariant.schedule within) in
    let len : length new ≡ length items = c.put_at-self-inside.auto.nodes ∙ ap length same in
    let back : take c.self.inside.nodes.len (new ++ drop (length new) items) ≡ new = written_back items new c.self.inside.nodes.len (sym c.deref_mut.ensures.len ∙ ap length same) len in
    let step : IsStep (take c.self.inside.nodes.len (new ++ drop (length new) items)) link (placed_at c.args.time c.args.prior c.args.process.0 l) = subst (λ (k : List Node). IsStep k link (placed_at c.args.time c.args.prior c.args.process.0 l)) (sym back) done in
    omega (arith, len, ap length back, ap (λ (v : NoticeList). v.room) c.self.view_is)

use Rattle.std.proofs.Common.{◌≡◌, ◌<◌, ◌^◌, ℕ, Option, None, List, length, set, ap, sym, subst, arith, rules}
use Rattle.notices.specs.declared.notice.ProcessNo.{ProcessNo}
use Rattle.notices.specs.Notices.{removed}
use Rattle.notice_tree.specs.declared.node.Node.{Node}
use Rattle.notice_tree.specs.Nodes.{node_at, vacant}
use Rattle.notice_tree.specs.Trees.{Branch, height, total, one_of, one}
use Rattle.notice_tree.specs.Balance.{AreMerged}
use Rattle.notice_tree.specs.Climb.{IsGap, IsWhole}
use Rattle.notice_tree.specs.Held.{IsHeld}
use Rattle.notice_tree.proofs.FindLemmas.{IsFound}
use Rattle.notice_tree.proofs.HeldLemmas.{find_held, once_held, total-le_room}
use Rattle.notice_tree.proofs.RemoveLemmas.{removal_gap, IsHeld-removed}
use Rattle.notice_tree.proofs.edit.remove.Goals as goal

pub returns : goal.returns
returns c = λ root l h s has.
    let nodes : List Node = c.args.nodes.now in
    let process : ProcessNo = c.args.process in
    let second : List Node = c.merge-below.new.nodes in
    let below : Option ProcessNo = c.merge-below.result in
    let short : length nodes < 2 ^ 64 = first_of (omega arith, search rules) in
    let f : IsFound nodes None process.0 l (λ v. total v h.tree) = find_held nodes root l process.0 h has in
    let is : f.notice.process ≡ process = (let make : ℕ → ProcessNo = λ k. record { 0 = k } in ap make f.is) in
    let m : AreMerged nodes second f.left f.notice f.right below =
    c.merge-below.ensures f.parent f.left f.right f.notice f.stands is f.balanced
    (λ x. omega (arith, f.totals (one_of x), once_held nodes root l h s.once x))
    (omega (arith, f.totals one, total-le_room nodes root l h s)) in
    let gap0 : IsGap (set second process.0 vacant) process below (node_at nodes process.0).parent None f.way m.tree (height (Branch f.left f.notice f.right)) =
    removal_gap nodes second root l process below h s short f m in
    let gap1 : IsGap c.write_node.new.nodes process below (node_at nodes process.0).parent None f.way m.tree (height (Branch f.left f.notice f.right)) =
    subst (λ (k : List Node). IsGap k process below (node_at nodes process.0).parent None f.way m.tree (height (Branch f.left f.notice f.right))) (sym c.write_node.ensures) gap0 in
    let gap : IsGap c.write_node.new.nodes process below c.node_at-parent.result.parent None f.way m.tree (height (Branch f.left f.notice f.right)) =
    subst (λ (d : Node). IsGap c.write_node.new.nodes process below d.parent None f.way m.tree (height (Branch f.left f.notice f.right))) (sym c.node_at-parent.ensures) gap1 in
    let whole : IsWhole (set second process.0 vacant) c.climb-root.new.nodes c.climb-root.result f.way m.tree (height (Branch f.left f.notice f.right)) =
    subst (λ (k : List Node). IsWhole k c.climb-root.new.nodes c.climb-root.result f.way m.tree (height (Branch f.left f.notice f.right))) c.write_node.ensures
    (c.climb-root.ensures f.way m.tree (height (Branch f.left f.notice f.right)) gap) in
    subst (λ (k : List Node). IsHeld k c.climb-root.result (removed process.0 l)) (sym c.hang.ensures)
    (IsHeld-removed nodes second c.climb-root.new.nodes root l process below c.climb-root.result h s f m whole)

use Rattle.std.proofs.Common.{◌≡◌, ◌<◌, ◌≤◌, ◌^◌, ◌+◌, max, Bool, true, false, not, is_some, unwrap_or, Option, Some, None, List, [], length, refl, ap, sym, ◌∙◌, subst, arith, rules}
use Rattle.std.proofs.lemmas.Bool.{true≢false}
use Rattle.notices.specs.declared.notice.ProcessNo.{ProcessNo}
use Rattle.notice_tree.specs.declared.node.Node.{Node}
use Rattle.notice_tree.specs.declared.spot.Aim.TheVariants.{First}
use Rattle.notice_tree.specs.Nodes.{node_at}
use Rattle.notice_tree.specs.Trees.{Tree, Empty, Branch, height, top, total, one, one_of, Stands}
use Rattle.notice_tree.specs.Balance.{AreParts, AreMerged}
use Rattle.notice_tree.specs.Climb.{IsGap, IsWhole}
use Rattle.notice_tree.specs.Spots.{IsSought}
use Rattle.notice_tree.proofs.StandLemmas.{one_of-self}
use Rattle.notice_tree.proofs.RemoveLemmas.{IsParted-first, IsFirst, IsFirst-sought, first_gap, AreMerged-none, merge_parts, AreMerged-joined}
use Rattle.notice_tree.proofs.edit.merge.Goals as goal

none_from : (o : Option ProcessNo) (b : Bool) → is_some o ≡ not b → b ≡ true → o ≡ None
none_from None b e t = refl
none_from (Some x) b e t = absurd (true≢false (e ∙ ap not t))

some_total : (r : Tree) (o : Option ProcessNo) (b : Bool) → top r ≡ o → is_some o ≡ not b → b ≡ false → 1 ≤ total one r
unfolding one
some_total Empty o b at e f = absurd (true≢false (sym (ap (is_some {T = ProcessNo}) at ∙ e ∙ ap not f)))
some_total (Branch l n r) o b at e f = omega arith

pub returns-then-is_none : goal.returns-then-is_none
returns-then-is_none c = λ parent l r n st is b once small.
    let nodes : List Node = c.args.nodes.now in
    let none : c.node_at-node.result.right ≡ None = none_from c.node_at-node.result.right c.is_none.result c.is_none.ensures c.if-is_none.true in
    let at : (node_at nodes c.args.process.0).right ≡ None = ap (λ (d : Node). d.right) (sym c.node_at-node.ensures) ∙ none in
    subst (λ (d : Node). AreMerged nodes nodes l n r d.left) (sym c.node_at-node.ensures) (AreMerged-none nodes parent l r n c.args.process st is b at)

pub returns : goal.returns
returns c = λ parent l r n st is b once small.
    let nodes : List Node = c.args.nodes.now in
    let second : List Node = c.climb-rest.new.nodes in
    let process : ProcessNo = c.args.process in
    let next : ProcessNo = c.unwrap_or-next.result in
    let rest : Option ProcessNo = c.climb-rest.result in
    let at : Option ProcessNo = c.seek-place.result.parent in
    let short : length nodes < 2 ^ 64 = first_of (omega arith, search rules) in
    let link : top r ≡ c.node_at-node.result.right =
    sym (subst (λ (x : ProcessNo). (node_at nodes x.0).right ≡ top r) is st.0.right) ∙ ap (λ (d : Node). d.right) (sym c.node_at-node.ensures) in
    let some : 1 ≤ total one r = some_total r c.node_at-node.result.right c.is_none.result link c.is_none.ensures c.if-is_none.false in
    let sought : IsSought nodes (Some process) First [] r c.seek-place.result =
    c.seek-place.ensures (Some process) [] r refl tt (subst (λ (x : ProcessNo). Stands nodes (Some x) r) is st.4) link (IsParted-first r) (omega (arith, small)) in
    let f : IsFirst nodes (Some process) r at = IsFirst-sought nodes (Some process) r c.seek-place.result some sought in
    let next_is : f.first.process ≡ next = sym (c.unwrap_or-next.ensures ∙ ap (λ (o : Option ProcessNo). unwrap_or o process) f.parent_is) in
    let apart : total (one_of process.0) r ≡ 0 =
    (let here : one_of process.0 n ≡ 1 = subst (λ (x : ProcessNo). one_of x.0 n ≡ 1) is (one_of-self n) in omega (arith, once process.0)) in
    let gap0 : IsGap nodes f.first.process (top f.under) (node_at nodes f.first.process.0).parent (Some process) f.way f.under (max 0 (height f.under) + 1) =
    first_gap nodes process r at f (λ x. omega (arith, once x)) apart (omega (arith, small)) short b.3 in
    let gap1 : IsGap nodes f.first.process (node_at nodes f.first.process.0).right (node_at nodes f.first.process.0).parent (Some process) f.way f.under (max 0 (height f.under) + 1) =
    subst (λ (k : Option ProcessNo). IsGap nodes f.first.process k (node_at nodes f.first.process.0).parent (Some process) f.way f.under (max 0 (height f.under) + 1)) (sym f.node.right) gap0 in
    let gap2 : IsGap nodes next (node_at nodes next.0).right (node_at nodes next.0).parent (Some process) f.way f.under (max 0 (height f.under) + 1) =
    subst (λ (x : ProcessNo). IsGap nodes x (node_at nodes x.0).right (node_at nodes x.0).parent (Some process) f.way f.under (max 0 (height f.under) + 1)) next_is gap1 in
    let gap : IsGap nodes next c.node_at-first.result.right c.node_at-first.result.parent (Some process) f.way f.under (max 0 (height f.under) + 1) =
    subst (λ (d : Node). IsGap nodes next d.right d.parent (Some process) f.way f.under (max 0 (height f.under) + 1)) (sym c.node_at-first.ensures) gap2 in
    let whole : IsWhole nodes second rest f.way f.under (max 0 (height f.under) + 1) = c.climb-rest.ensures f.way f.under (max 0 (height f.under) + 1) gap in
    let parts0 : AreParts second (node_at nodes process.0).left f.first.process rest l f.first whole.tree = merge_parts nodes second parent l r n process at rest st is b once small short f whole in
    let parts : AreParts second c.node_at-node.result.left next rest l f.first whole.tree =
    subst (λ (x : ProcessNo). AreParts second c.node_at-node.result.left x rest l f.first whole.tree) next_is
    (subst (λ (d : Node). AreParts second d.left f.first.process rest l f.first whole.tree) (sym c.node_at-node.ensures) parts0) in
    AreMerged-joined nodes second c.balance.new.nodes l r n process at rest c.balance.result b f whole
    (c.balance.ensures l whole.tree f.first parts (omega (arith, b.0, b.1, whole.low, whole.high, f.height_is)) (omega (arith, b.0, b.1, whole.low, whole.high, f.height_is)))

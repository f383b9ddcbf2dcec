use Rattle.std.proofs.Common.{◌≡◌, ◌++◌, ◌∷◌, ◌<◌, ◌^◌, ℤ, List, set, length, ap, sym, ◌∙◌, subst, arith, rules, w64}
use Rattle.std.proofs.lemmas.Int.{to_z-of_z}
use Rattle.notices.specs.declared.notice.Notice.{Notice}
use Rattle.notice_tree.specs.declared.node.Node.{Node}
use Rattle.notice_tree.specs.Nodes.{linked_at, leaf}
use Rattle.notice_tree.specs.Trees.{Empty, Branch}
use Rattle.notice_tree.specs.Held.{IsHeld}
use Rattle.notice_tree.proofs.InsertLemmas.{IsPut, IsPut-made, IsHeld-put}
use Rattle.notice_tree.proofs.edit.insert.Goals as goal

pub returns : goal.returns
returns c = λ front back o within once none room.
    let nodes : List Node = c.args.nodes.now in
    let n : Notice = record { time = c.args.time; process = c.args.process } in
    let short : length nodes < 2 ^ 64 = first_of (omega arith, search rules) in
    let alone : c.write_node.new.nodes ≡ set nodes c.args.process.0 (leaf c.args.time) =
    subst (λ (t : ℤ). c.write_node.new.nodes ≡ set nodes c.args.process.0 (leaf t)) (to_z-of_z w64 c.args.time c.ranges.time) c.write_node.ensures in
    let made : linked_at (set nodes c.args.process.0 (leaf c.args.time)) c.args.spot.parent c.args.spot.on_left c.args.process ≡ c.link.new.nodes =
    ap (λ (k : List Node). linked_at k c.args.spot.parent c.args.spot.on_left c.args.process) (sym alone) ∙ sym c.link.ensures in
    let put : IsPut nodes c.link.new.nodes c.args.spot c.args.process c.args.time o.way =
    subst (λ (k : List Node). IsPut nodes k c.args.spot c.args.process c.args.time o.way) made (IsPut-made nodes c.args.spot front back c.args.process c.args.time o within once none room short) in
    subst (λ (k : List Node). IsHeld k c.climb-root.result (front ++ n ∷ back)) (sym c.hang.ensures)
    (IsHeld-put nodes c.link.new.nodes c.climb-root.new.nodes c.args.spot front back c.args.process c.args.time c.climb-root.result o put
    (c.climb-root.ensures o.way (Branch Empty n Empty) 0 put.gap))

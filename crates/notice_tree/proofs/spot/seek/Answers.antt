use Rattle.std.proofs.Common.{◌≡◌, List, Option, Some, None, Bool, not, cond, ◌+◌, ap, sym, ◌∙◌, subst, arith, rules}
use Rattle.notices.specs.declared.notice.Notice.{Notice}
use Rattle.notices.specs.declared.notice.ProcessNo.{ProcessNo}
use Rattle.notice_tree.specs.declared.node.Node.{Node}
use Rattle.notice_tree.specs.Nodes.{node_at}
use Rattle.notice_tree.specs.Spots.{stands_in_front}
use Rattle.notice_tree.proofs.BalanceLemmas.{height-le_total}
use Rattle.notice_tree.proofs.SpotLemmas.{IsSeeking, IsSeeking-begun, IsSeeking-more, IsSeeking-ended, empty_by_top, empty_by_height}
use Rattle.notice_tree.proofs.spot.seek.Goals as goal

pub loop-step-init : goal.loop-step-init
loop-step-init c = λ stop way t ws side s is parted. IsSeeking-begun c.args.nodes.now stop c.args.aim c.args.spot c.args.link way t ws side s is parted

pub loop-step-preserved : goal.loop-step-preserved
loop-step-preserved c = λ stop way t ws side s is parted.
    let nodes : List Node = c.args.nodes.now in
    let go = c.loop-step.invariant stop way t ws side s is parted in
    let go' : IsSeeking nodes stop c.args.aim c.loop-step.spot (Some c.in-Some.process) way t c.loop-step._step =
    subst (λ (k : Option ProcessNo). IsSeeking nodes stop c.args.aim c.loop-step.spot k way t c.loop-step._step) c.in-Some.is go in
    let on_left : Bool = not c.is_in_front-on_left.result in
    let test : (n : Notice) → (node_at nodes c.in-Some.process.0).time ≡ Some n.time → on_left ≡ not (stands_in_front c.args.aim n) =
    λ n e. ap not (c.is_in_front-on_left.ensures n (ap (λ (d : Node). d.time) c.node_at-node.ensures ∙ e)) in
    let down : c.child-link.result ≡ cond on_left (node_at nodes c.in-Some.process.0).left (node_at nodes c.in-Some.process.0).right =
    c.child-link.ensures ∙ ap (λ (d : Node). cond on_left d.left d.right) c.node_at-node.ensures in
    subst (λ (k : Option ProcessNo). IsSeeking nodes stop c.args.aim (record { parent = Some c.in-Some.process; on_left = on_left }) k way t (c.loop-step._step + 1)) (sym down)
    (IsSeeking-more nodes stop c.args.aim c.loop-step.spot c.in-Some.process way t c.loop-step._step on_left go' test)

pub returns-in_default : goal.returns-in_default
returns-in_default c = λ stop way t ws side s is parted small.
    let go = c.loop-step.invariant stop way t ws side s is parted in
    let none : c.loop-step.link ≡ None = search rules in
    IsSeeking-ended c.args.nodes.now stop c.args.aim c.loop-step.spot c.loop-step.link way t c.loop-step._step go (empty_by_top go.tree (go.top_is ∙ none))

pub returns : goal.returns
returns c = λ stop way t ws side s is parted small.
    let go = c.loop-step.invariant stop way t ws side s is parted in
    IsSeeking-ended c.args.nodes.now stop c.args.aim c.loop-step.spot c.loop-step.link way t c.loop-step._step go (empty_by_height go.tree (omega (arith, go.steps, height-le_total t)))

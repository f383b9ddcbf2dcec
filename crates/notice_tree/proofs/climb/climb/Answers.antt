use Rattle.std.proofs.Common.{◌≡◌, ◌≢◌, Option, Some, None, ◌+◌, sym, ◌∙◌, subst, arith, rules}
use Rattle.notice_tree.specs.declared.node.Node.{Node}
use Rattle.notices.specs.declared.notice.ProcessNo.{ProcessNo}
use Rattle.notice_tree.proofs.ClimbLemmas.{IsClimbing, IsClimbing-begun, IsClimbing-more, IsClimbing-ended, end_by_stop, end_by_none, end_by_length, length-le_total}
use Rattle.notice_tree.proofs.climb.climb.Goals as goal

pub loop-step-init : goal.loop-step-init
loop-step-init c = λ way t h g. IsClimbing-begun c.args.nodes.now c.args.from c.args.below c.args.parent c.args.stop way t h g

pub loop-step-preserved : goal.loop-step-preserved
loop-step-preserved c = λ way t h g.
    let go = c.loop-step.invariant way t h g in
    let apart : c.loop-step.parent ≢ c.args.stop = search rules in
    let on : Some c.in-Some.process ≢ c.args.stop = λ e. apart (c.in-Some.is ∙ e) in
    let go' : IsClimbing c.args.nodes.now c.loop-step.nodes c.loop-step.from c.loop-step.below (Some c.in-Some.process) c.args.stop c.loop-step.settled way t h c.loop-step._step =
    subst (λ (p : Option ProcessNo). IsClimbing c.args.nodes.now c.loop-step.nodes c.loop-step.from c.loop-step.below p c.args.stop c.loop-step.settled way t h c.loop-step._step) c.in-Some.is go in
    subst (λ (d : Node). IsClimbing c.args.nodes.now c.step_up-stays.new.nodes c.in-Some.process (Some c.step_up-stays.result.0) d.parent c.args.stop c.step_up-stays.result.1 way t h (c.loop-step._step + 1)) (sym c.node_at-parent.ensures)
    (IsClimbing-more c.args.nodes.now c.loop-step.nodes c.step_up-stays.new.nodes c.loop-step.from c.in-Some.process c.step_up-stays.result.0 c.loop-step.below c.args.stop c.loop-step.settled c.step_up-stays.result.1 way t h c.loop-step._step on go' c.step_up-stays.ensures)

pub returns-then-eq : goal.returns-then-eq
returns-then-eq c = λ way t h g.
    let go = c.loop-step.invariant way t h g in
    let same : c.loop-step.parent ≡ c.args.stop = search rules in
    IsClimbing-ended c.args.nodes.now c.loop-step.nodes c.loop-step.from c.loop-step.below c.loop-step.parent c.args.stop c.loop-step.settled way t h c.loop-step._step go
    (end_by_stop c.loop-step.nodes c.loop-step.from c.loop-step.below c.loop-step.parent c.args.stop go.rest go.tree go.hole go.gap same)

pub returns-in_default : goal.returns-in_default
returns-in_default c = λ way t h g.
    let go = c.loop-step.invariant way t h g in
    let none : c.loop-step.parent ≡ None = search rules in
    IsClimbing-ended c.args.nodes.now c.loop-step.nodes c.loop-step.from c.loop-step.below c.loop-step.parent c.args.stop c.loop-step.settled way t h c.loop-step._step go
    (end_by_none c.loop-step.nodes c.loop-step.from c.loop-step.below c.loop-step.parent c.args.stop go.rest go.tree go.hole go.gap none)

pub returns : goal.returns
returns c = λ way t h g.
    let go = c.loop-step.invariant way t h g in
    IsClimbing-ended c.args.nodes.now c.loop-step.nodes c.loop-step.from c.loop-step.below c.loop-step.parent c.args.stop c.loop-step.settled way t h c.loop-step._step go
    (end_by_length go.rest (omega (arith, go.steps, g.small, length-le_total way)))

use Rattle.std.proofs.Common.{◌≡◌, ℤ, Some, None, ap, sym, ◌∙◌, subst, rules, w64, SFits}
use Rattle.std.proofs.lemmas.Int.{to_z-of_z}
use Rattle.notices.specs.Notices.{event_time, first_event}
use Rattle.notice_tree.specs.declared.node.Node.{Node}
use Rattle.notice_tree.proofs.HeldLemmas.{time_held}
use Rattle.notice_tree.proofs.PlacingLemmas.{no_event, event_is, event_has_time}
use Rattle.notice_tree.proofs.order.first_event.Goals as goal

pub returns-in_err-process : goal.returns-in_err-process
returns-in_err-process c = λ l h s. c.from_residual.ensures ∙ no_event l (sym (c.first_process.ensures l h s) ∙ c.in_err-process.was)

pub returns-in_err-time : goal.returns-in_err-time
returns-in_err-time c = λ l h s.
    let time : event_time c.in_ok-process.process.0 l ≡ None =
    sym (time_held c.args.nodes.now c.args.root l c.in_ok-process.process.0 h s.once) ∙ ap (λ (d : Node). d.time) (sym c.node_at.ensures) ∙ c.in_err-time.was in
    absurd (event_has_time l c.in_ok-process.process (sym (c.first_process.ensures l h s) ∙ c.in_ok-process.was) time)

pub returns : goal.returns
returns c = λ l h s.
    let time : event_time c.in_ok-process.process.0 l ≡ Some c.in_ok-time.time =
    sym (time_held c.args.nodes.now c.args.root l c.in_ok-process.process.0 h s.once) ∙ ap (λ (d : Node). d.time) (sym c.node_at.ensures) ∙ c.in_ok-time.was in
    let fits : SFits w64 c.in_ok-time.time = search rules in
    subst (λ (t : ℤ). Some (t, c.in_ok-process.process) ≡ first_event l) (sym (to_z-of_z w64 c.in_ok-time.time fits))
    (event_is l c.in_ok-process.process c.in_ok-time.time (sym (c.first_process.ensures l h s) ∙ c.in_ok-process.was) time)

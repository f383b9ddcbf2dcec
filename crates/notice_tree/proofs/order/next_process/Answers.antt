use Rattle.std.proofs.Common.{◌≡◌, ◌++◌, true, false, not, is_some, List, length, ap, sym, ◌∙◌, subst}
use Rattle.notices.specs.declared.notice.Notice.{Notice}
use Rattle.notices.specs.Notices.{has_notice, notice_of}
use Rattle.notices.specs.Schedule.{IsSchedule}
use Rattle.notice_tree.specs.declared.node.Node.{Node}
use Rattle.notice_tree.specs.Held.{IsOpen, front_beside, back_beside}
use Rattle.notice_tree.proofs.HeldLemmas.{has_held}
use Rattle.notice_tree.proofs.PlacingLemmas.{parts_beside, follower_of, next_is, no_next, IsSomeNotice, some_notice}
use Rattle.notice_tree.proofs.order.next_process.Goals as goal

pub returns-then-is_none : goal.returns-then-is_none
returns-then-is_none c = λ root l h s.
    no_next c.args.process.0 l
    (sym (has_held c.args.nodes.now root l c.args.process.0 h s.once) ∙ ap (λ (d : Node). is_some d.time) (sym c.node_at.ensures) ∙ c.is_none.ensures ∙ ap not c.if-is_none.true)

pub returns : goal.returns
returns c = λ root l h s.
    let has : has_notice c.args.process.0 l ≡ true =
    sym (has_held c.args.nodes.now root l c.args.process.0 h s.once) ∙ ap (λ (d : Node). is_some d.time) (sym c.node_at.ensures) ∙ c.is_none.ensures ∙ ap not c.if-is_none.false in
    let m : IsSomeNotice (notice_of c.args.process.0 l) = some_notice (notice_of c.args.process.0 l) has in
    let place : IsOpen c.args.nodes.now c.beside-spot.result (front_beside false c.args.process.0 m.notice l) (back_beside false c.args.process.0 m.notice l) =
    c.beside-spot.ensures root l m.notice h s m.is in
    let whole : IsSchedule (front_beside false c.args.process.0 m.notice l ++ back_beside false c.args.process.0 m.notice l) (length c.args.nodes.now) =
    subst (λ (k : List Notice). IsSchedule k (length c.args.nodes.now)) (sym (parts_beside false c.args.process.0 m.notice l m.is)) s in
    follower_of c.args.nodes.now c.beside-spot.result (front_beside false c.args.process.0 m.notice l) (back_beside false c.args.process.0 m.notice l) c.follower.result place whole c.follower.ensures
    ∙ next_is c.args.process.0 l

use Rattle.std.proofs.Common.{refl, sym, subst, ap, ◌≡◌, ◌∙◌, ◌-◌}
use Rattle.std.specs.Prelude.{false}
use Rattle.sim_chains.specs.Heads.{head_within}
use Rattle.sim_code.specs.Instances.{encloser_of, is_object_at, system_head}
use Rattle.frame_arena.specs.Frames.{Has, frame_at, is_object_as, number_in}
use Rattle.frame_arena.proofs.Enclosers.{head_first, head_is, head_up}
use Rattle.frame_arena.proofs.heads.system_head.Goals as goal

pub loop-init : goal.loop-init
loop-init c cells m h = head_first c.args.frames.now cells m h c.args.place (c.requires.there, c.requires.live, refl)

pub returns-then-not-is_object-clause-there : goal.returns-then-not-is_object-clause-there
returns-then-not-is_object-clause-there c = subst (λ k. Has c.args.frames.now k c.in-Some.encloser.stamp) c.in-Some-find.ensures.place c.in-Some-find.ensures.there

pub returns-then-not-is_object-clause-apart : goal.returns-then-not-is_object-clause-apart
returns-then-not-is_object-clause-apart c =
    subst (λ k. is_object_as (frame_at c.args.frames.now k).component ≡ false) c.in-Some-find.ensures.place (sym c.is_object.ensures ∙ c.if-not-is_object.true)

pub returns-then-not-is_object-clause-head : goal.returns-then-not-is_object-clause-head
returns-then-not-is_object-clause-head c number cells m has h =
    let fs = c.args.frames.now in
    let n = (frame_at fs c.args.place).number in
    head_is fs cells m h n n c.loop.counter c.in-Some-find.region c.in-Some.encloser.stamp
    (c.loop.invariant cells m h ∙ ap (λ at. head_within (encloser_of m) (is_object_at m) (n - c.loop.counter) (number_in at)) c.in-Some.is)
    c.loop-test.true c.in-Some-find.ensures.there (sym c.is_object.ensures ∙ c.if-not-is_object.true)
    ∙ ap (λ k. system_head m k) has.2

pub loop-preserved : goal.loop-preserved
loop-preserved c cells m h =
    let fs = c.args.frames.now in
    let n = (frame_at fs c.args.place).number in
    let region = c.in-Some-find.region in
    c.loop.invariant cells m h ∙ ap (λ at. head_within (encloser_of m) (is_object_at m) (n - c.loop.counter) (number_in at)) c.in-Some.is
    ∙ head_up fs cells m h n c.loop.counter region c.in-Some.encloser.stamp c.loop-test.true c.in-Some-find.ensures.there (sym c.is_object.ensures ∙ c.if-not-is_object.false)

use Rattle.std.proofs.Common.{◌+◌, ◌∙◌, ap, sym, refl, arith}
use Rattle.std.specs.Prelude.{Some}
use Rattle.frame_arena.specs.Frames.{frame_at}
use Rattle.frame_arena.proofs.Reading.{level_start, level_gone, level_here, level_top, level_up, no_fuel}
use Rattle.frame_arena.proofs.frames.region_at_level.Goals as goal

pub loop-init : goal.loop-init
loop-init c cells m h leads = (leads, level_start m c.args.level c.args.home.stamp)

pub returns-in_default-clause-level : goal.returns-in_default-clause-level
returns-in_default-clause-level c cells m h leads =
    let i = c.loop.invariant cells m h leads in
    sym (i.1 ∙ level_gone m c.args.home.stamp c.loop.counter c.args.level c.loop.at.stamp c.loop-test.true (c.in_default.ensures.gone m i.0 refl))

pub returns-then-frame-level-clause-level : goal.returns-then-frame-level-clause-level
returns-then-frame-level-clause-level c cells m h leads =
    let i = c.loop.invariant cells m h leads in
    let there = c.in-Some.ensures.there in
    ap (λ p. Some (frame_at c.args.frames.now p).number) (sym c.in-Some.ensures.place) ∙ ap Some there.2
    ∙ sym (i.1 ∙ level_here c.args.frames.now cells m c.in-Some.place c.loop.at.stamp c.args.home.stamp c.loop.counter c.args.level c.loop-test.true h there c.if-frame-level.true)

pub returns-in-None-clause-level : goal.returns-in-None-clause-level
returns-in-None-clause-level c cells m h leads =
    let i = c.loop.invariant cells m h leads in
    sym (i.1 ∙ level_top c.args.frames.now cells m c.in-Some.place c.loop.at.stamp c.args.home.stamp c.loop.counter c.args.level c.loop-test.true h c.in-Some.ensures.there c.if-frame-level.false c.in-None.is)

pub loop-preserved : goal.loop-preserved
loop-preserved c cells m h leads =
    let i = c.loop.invariant cells m h leads in (
      h.parents c.in-Some.place c.loop.at.stamp c.in-Some.ensures.there c.in-Some-parent.parent c.in-Some-parent.is,
      i.1 ∙ level_up c.args.frames.now cells m c.in-Some.place c.loop.at.stamp c.args.home.stamp c.loop.counter c.args.level c.in-Some-parent.parent c.loop-test.true h c.in-Some.ensures.there c.if-frame-level.false c.in-Some-parent.is,
    )

pub returns-clause-level : goal.returns-clause-level
returns-clause-level c cells m h leads =
    let i = c.loop.invariant cells m h leads in
    sym (i.1 ∙ no_fuel m c.args.home.stamp c.loop.counter c.args.level c.loop.at.stamp (omega (arith, c.loop-test.false)))

pub returns-in-Some-parent-clause-level : goal.returns-in-Some-parent-clause-level
returns-in-Some-parent-clause-level c cells m h leads =
    let i = c.loop.invariant cells m h leads in
    sym (i.1
    ∙ level_up c.args.frames.now cells m c.in-Some.place c.loop.at.stamp c.args.home.stamp c.loop.counter c.args.level c.in-Some-parent.parent c.loop-test.true h c.in-Some.ensures.there c.if-frame-level.false c.in-Some-parent.is
    ∙ no_fuel m c.args.home.stamp (c.loop.counter + 1) c.args.level c.in-Some-parent.parent.stamp (let e = c.loop.auto.counter-end in omega (arith, e)))

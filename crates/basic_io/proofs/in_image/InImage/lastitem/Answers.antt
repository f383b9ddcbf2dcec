use Rattle.std.proofs.Common.{◌≡◌, ◌<◌, ◌≤◌, true, false, sym, ap, ◌∙◌}
use Rattle.std.proofs.lemmas.Result.{err_from_is_err_and}
use Rattle.sim_values.specs.Texts.{at_position}
use Rattle.sim_values.specs.declared.value.TextVal.{TextVal}
use Rattle.basic_io.specs.Input.{HeldInput, reading}
use Rattle.basic_io.proofs.ItemRuns.{led_to_end, led_to_item, led_to_next, led_to_error, as_skipped, line_is_held, holds_next, moved_again}
use Rattle.basic_io.proofs.in_image.InImage.lastitem.Goals as goal

pub loop-self-preserved : goal.loop-self-preserved
loop-self-preserved g c =
    let source = g.I.Source.left in
    let frames = c.loop-self.texts in
    let first : HeldInput = c.args.self.now in
    let i : HeldInput = c.loop-self.self in
    let now : HeldInput = c.skip_separators.new.self in
    let inv = c.loop-self.invariant in
    let going : i.endfile ≡ false = ap (λ (x : HeldInput). x.endfile) (sym c.self.view_is) ∙ c.loop-self-test.true in
    let is = as_skipped frames i now c.skip_separators.ensures.moved c.skip_separators.ensures.endfile c.skip_separators.ensures.held in
    let beyond : now.image.length < now.image.pos = rw (← c.self-in-loop-self.view_is) c.if-self.false in
    let moved : now.image ≡ at_position i.image now.image.pos = ap (λ (t : TextVal). at_position t now.image.pos) c.skip_separators.ensures.moved in
    let same : now.image ≡ at_position first.image now.image.pos = moved_again first.image i.image now.image i.image.pos inv.same moved in
    record {
      image = c.inimage.ensures.valid;
      led = led_to_next (reading c.args.texts.now first (source c.args.input.now)) (reading c.inimage.new.texts c.inimage.new.self (source c.inimage.new.input)) frames i now (source c.loop-self.input) inv.led going is beyond c.in_ok-inimage.ensures.outcome;
      faults = c.in_ok-inimage.ensures.cause ∙ inv.faults;
      unread = λ enough.
          let before = inv.unread enough in
          let line = line_is_held frames i now before.1 going is beyond in
          (c.inimage.ensures.unread line ∙ before.0, holds_next frames c.inimage.new.texts i now c.inimage.new.self before.1 going is beyond (c.in_ok-inimage.ensures.within line));
      same = moved_again first.image now.image c.inimage.new.self.image now.image.pos same c.inimage.ensures.same;
      keeps = λ t h. c.inimage.ensures.keeps t (inv.keeps t h);
      others = λ k other. c.inimage.ensures.others k (λ e. other (e ∙ ap (λ (t : TextVal). t.text_frame) same)) ∙ inv.others k other;
    }

pub returns-in_err-inimage-clause-outcome : goal.returns-in_err-inimage-clause-outcome
returns-in_err-inimage-clause-outcome g c =
    let source = g.I.Source.left in
    let frames = c.loop-self.texts in
    let i : HeldInput = c.loop-self.self in
    let now : HeldInput = c.skip_separators.new.self in
    let p = err_from_is_err_and c.from_residual.result c.from_residual.ensures.1 in
    let going : i.endfile ≡ false = ap (λ (x : HeldInput). x.endfile) (sym c.self.view_is) ∙ c.loop-self-test.true in
    let is = as_skipped frames i now c.skip_separators.ensures.moved c.skip_separators.ensures.endfile c.skip_separators.ensures.held in
    let beyond : now.image.length < now.image.pos = rw (← c.self-in-loop-self.view_is) c.if-self.false in
    rw (p.1, p.2) (led_to_error (reading c.args.texts.now c.args.self.now (source c.args.input.now)) (reading c.inimage.new.texts c.inimage.new.self (source c.inimage.new.input)) frames i now (source c.loop-self.input) c.in_err-inimage.field-0.0 c.loop-self.invariant.led going is beyond c.in_err-inimage.ensures.outcome)

pub returns-in_err-inimage-clause-unread : goal.returns-in_err-inimage-clause-unread
returns-in_err-inimage-clause-unread g c =
    let frames = c.loop-self.texts in
    let i : HeldInput = c.loop-self.self in
    let now : HeldInput = c.skip_separators.new.self in
    let going : i.endfile ≡ false = ap (λ (x : HeldInput). x.endfile) (sym c.self.view_is) ∙ c.loop-self-test.true in
    let is = as_skipped frames i now c.skip_separators.ensures.moved c.skip_separators.ensures.endfile c.skip_separators.ensures.held in
    let beyond : now.image.length < now.image.pos = rw (← c.self-in-loop-self.view_is) c.if-self.false in
    λ enough. let before = c.loop-self.invariant.unread enough in c.inimage.ensures.unread (line_is_held frames i now before.1 going is beyond) ∙ before.0

pub returns-then-self-clause-outcome : goal.returns-then-self-clause-outcome
returns-then-self-clause-outcome g c =
    let source = g.I.Source.left in
    let frames = c.loop-self.texts in
    let i : HeldInput = c.loop-self.self in
    let now : HeldInput = c.skip_separators.new.self in
    let going : i.endfile ≡ false = ap (λ (x : HeldInput). x.endfile) (sym c.self.view_is) ∙ c.loop-self-test.true in
    let is = as_skipped frames i now c.skip_separators.ensures.moved c.skip_separators.ensures.endfile c.skip_separators.ensures.held in
    let within : now.image.pos ≤ now.image.length = rw (← c.self-in-loop-self.view_is) c.if-self.true in
    led_to_item (reading c.args.texts.now c.args.self.now (source c.args.input.now)) frames i now (source c.loop-self.input) c.loop-self.invariant.led going is within

pub returns-clause-outcome : goal.returns-clause-outcome
returns-clause-outcome g c =
    let source = g.I.Source.left in
    let i : HeldInput = c.loop-self.self in
    let ended : i.endfile ≡ true = ap (λ (x : HeldInput). x.endfile) (sym c.self.view_is) ∙ c.loop-self-test.false in
    led_to_end (reading c.args.texts.now c.args.self.now (source c.args.input.now)) c.loop-self.texts i (source c.loop-self.input) c.loop-self.invariant.led ended

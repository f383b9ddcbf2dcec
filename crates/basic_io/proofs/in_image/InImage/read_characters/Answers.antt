use Rattle.std.proofs.Common.{◌≡◌, ◌+◌, ◌-◌, ◌≤◌, suc, sym, ap, ◌∙◌, arith}
use Rattle.std.proofs.lemmas.Result.{err_from_is_err_and}
use Rattle.sim_values.specs.declared.value.TextVal.{TextVal}
use Rattle.sim_values.specs.Texts.{at_position}
use Rattle.basic_io.specs.Input.{IsTarget, reading}
use Rattle.basic_io.proofs.CharacterReads.{held_first, held_on}
use Rattle.basic_io.proofs.ItemRuns.{moved_again}
use Rattle.basic_io.proofs.TextReads.{image_stays, led_on, led_to_all, led_to_stop, not_put, target_put, target_stays}
use Rattle.basic_io.proofs.TextSteps.{put_done}
use Rattle.basic_io.proofs.in_image.InImage.read_characters.Goals as goal

pub returns-in_err-character-clause-outcome : goal.returns-in_err-character-clause-outcome
returns-in_err-character-clause-outcome g c =
    let source = g.I.Source.left in
    let p = err_from_is_err_and c.from_residual.result c.from_residual.ensures.1 in
    let next : c.args.text.length - c.loop.counter ≡ suc (c.args.text.length - (c.loop.counter + 1)) = omega (arith, c.loop-test.true) in
    rw (p.1, p.2) (led_to_stop c.args.text.length c.args.text _ _ c.loop.rest (reading c.args.texts.now c.args.self.now (source c.args.input.now)) (reading c.loop.texts c.loop.self (source c.loop.input)) (reading c.inchar.new.texts c.inchar.new.self (source c.inchar.new.input)) c.in_err-character.field-0.0 next c.loop.invariant.led c.in_err-character.ensures.outcome)

pub returns-in_err-character-clause-unread : goal.returns-in_err-character-clause-unread
returns-in_err-character-clause-unread g c =
    let next : c.args.text.length - c.loop.counter ≡ suc (c.args.text.length - (c.loop.counter + 1)) = omega (arith, c.loop-test.true) in
    λ enough. let before = c.loop.invariant.unread enough in c.inchar.ensures.unread (held_first _ _ c.loop.self next before.1).0 ∙ before.0

pub returns-in_err-putchar-clause-outcome : goal.returns-in_err-putchar-clause-outcome
returns-in_err-putchar-clause-outcome g c =
    let kept = c.loop.invariant in
    let target : IsTarget c.inchar.new.texts c.inchar.new.self.image c.loop.rest = target_stays c.loop.texts c.inchar.new.texts c.loop.self.image c.inchar.new.self.image c.loop.rest kept.target c.in_ok-character.ensures.keeps c.in_ok-character.ensures.others c.in_ok-character.ensures.same in
    let room : c.loop.rest.pos ≤ c.loop.rest.length = omega (arith, c.loop-test.true, ap (λ (t : TextVal). t.pos) kept.rest, ap (λ (t : TextVal). t.length) kept.rest) in
    absurd (not_put _ _ _ _ _ _ _ target room c.in_err-putchar.ensures.step)

pub returns-in_err-putchar-clause-unread : goal.returns-in_err-putchar-clause-unread
returns-in_err-putchar-clause-unread g c =
    let next : c.args.text.length - c.loop.counter ≡ suc (c.args.text.length - (c.loop.counter + 1)) = omega (arith, c.loop-test.true) in
    λ enough. let before = c.loop.invariant.unread enough in c.inchar.ensures.unread (held_first _ _ c.loop.self next before.1).0 ∙ before.0

pub returns-in_err-putchar-clause-valid : goal.returns-in_err-putchar-clause-valid
returns-in_err-putchar-clause-valid g c =
    let kept = c.loop.invariant in
    let target : IsTarget c.inchar.new.texts c.inchar.new.self.image c.loop.rest = target_stays c.loop.texts c.inchar.new.texts c.loop.self.image c.inchar.new.self.image c.loop.rest kept.target c.in_ok-character.ensures.keeps c.in_ok-character.ensures.others c.in_ok-character.ensures.same in
    image_stays c.inchar.new.texts c.putchar.new.self c.loop.rest.text_frame c.inchar.new.self.image c.in_ok-character.ensures.valid c.in_err-putchar.ensures.others (λ e. target.apart (sym e))

pub loop-preserved : goal.loop-preserved
loop-preserved g c =
    let source = g.I.Source.left in
    let kept = c.loop.invariant in
    let got = c.in_ok-character.ensures in
    let put = c.in_ok-putchar.ensures in
    let did = put_done _ _ _ _ _ put.step in
    let target : IsTarget c.inchar.new.texts c.inchar.new.self.image c.loop.rest = target_stays c.loop.texts c.inchar.new.texts c.loop.self.image c.inchar.new.self.image c.loop.rest kept.target got.keeps got.others got.same in
    let next : c.args.text.length - c.loop.counter ≡ suc (c.args.text.length - (c.loop.counter + 1)) = omega (arith, c.loop-test.true) in
    record {
      image = image_stays c.inchar.new.texts c.putchar.new.self c.loop.rest.text_frame c.inchar.new.self.image got.valid put.others (λ e. target.apart (sym e));
      target = target_put c.inchar.new.texts c.putchar.new.self c.inchar.new.self.image c.loop.rest c.putchar.new.t _ target did.ok did.moved put.valid;
      rest = did.moved ∙ ap (λ (t : TextVal). at_position t (t.pos + 1)) kept.rest;
      led = led_on c.args.text.length c.args.text _ _ c.loop.rest c.putchar.new.t (reading c.args.texts.now c.args.self.now (source c.args.input.now)) (reading c.loop.texts c.loop.self (source c.loop.input)) c.inchar.new.texts c.inchar.new.self (source c.inchar.new.input) c.putchar.new.self _ next kept.led got.outcome did.ok did.moved;
      faults = got.cause ∙ kept.faults;
      unread = λ enough.
          let before = kept.unread enough in
          let first = held_first _ _ c.loop.self next before.1 in
          (c.inchar.ensures.unread first.0 ∙ before.0, held_on c.loop.texts c.inchar.new.texts c.loop.self c.inchar.new.self _ _ _ next before.1 got.within);
      same = moved_again c.args.self.now.image c.loop.self.image c.inchar.new.self.image c.loop.self.image.pos kept.same got.same;
      keeps = λ t h. put.keeps t (got.keeps t (kept.keeps t h));
      others = λ j text image. put.others j (λ e. text (e ∙ ap (λ (t : TextVal). t.text_frame) kept.rest)) ∙ got.others j (λ e. image (e ∙ ap (λ (t : TextVal). t.text_frame) kept.same)) ∙ kept.others j text image;
    }

pub returns-clause-outcome : goal.returns-clause-outcome
returns-clause-outcome g c =
    let source = g.I.Source.left in
    led_to_all c.args.text.length c.args.text _ c.loop.rest (reading c.args.texts.now c.args.self.now (source c.args.input.now)) (reading c.loop.texts c.loop.self (source c.loop.input)) (omega (arith, c.loop-test.false)) c.loop.invariant.led

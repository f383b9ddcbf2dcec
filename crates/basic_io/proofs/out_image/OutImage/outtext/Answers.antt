use Rattle.std.proofs.Common.{◌≡◌, ◌+◌, ◌<◌, ℕ, List, true, nat_lt, ap, sym, ◌∙◌, subst, slice_index, arith}
use Rattle.std.proofs.lemmas.Bool.{lt-ltb}
use Rattle.sim_values.specs.declared.value.TextVal.{TextVal}
use Rattle.sim_values.specs.Images.{OutputState, outchar, outchars, outtext, with_room}
use Rattle.sim_values.specs.Texts.{Frame, at_position, characters}
use Rattle.basic_io.specs.Output.{IsAt, WritesInText, output_state, text_begun, writing}
use Rattle.basic_io.specs.Output.WritesInText.{at_its_start, inside}
use Rattle.basic_io.proofs.OutputLines.{handed_on}
use Rattle.basic_io.proofs.OutputTexts.{next_outchar, outchar_there, outchar_fault}
use Rattle.basic_io.proofs.Stopping.{stops_handed}
use Rattle.basic_io.proofs.out_image.OutImage.outtext.Goals as goal

pub returns-in_err-make_room-clause-outcome : goal.returns-in_err-make_room-clause-outcome
returns-in_err-make_room-clause-outcome g c =
    let s : OutputState = output_state c.args.texts.now c.args.self.now in
    let t : TextVal = c.args.t in
    let above : 1 < c.args.self.now.pos = omega (arith, ap (λ (image : TextVal). image.pos) c.self.view_is) in
    let begun : nat_lt 1 s.image.pos ≡ true = lt-ltb 1 c.args.self.now.pos above in
    handed_on (Unit {0}) (with_room s t.length) (outtext s t) _ (WritesInText s t) _ _ c.in_err-make_room.field-0.0 _ c.in_err-make_room.ensures.outcome
    (λ r writes. subst (WritesInText s t) (sym writes.1) (at_its_start begun writes.0)) c.from_residual.ensures.1

pub returns-in_err-outchar-clause-outcome : goal.returns-in_err-outchar-clause-outcome
returns-in_err-outchar-clause-outcome g c =
    let s : OutputState = output_state c.args.texts.now c.args.self.now in
    let t : TextVal = c.args.t in
    let k : ℕ = c.loop-place.place in
    outchar_fault (outchars k 0 t (text_begun s t)) (outtext s t) (slice_index c.characters.result.now k) (WritesInText s t) _ _ _ c.in_err-outchar.field-0.0 _ c.loop-place.invariant.there c.in_err-outchar.ensures.outcome
    (inside k c.loop-place-test.true) c.from_residual-in_err-outchar.ensures.1

pub returns-in_err-outchar-clause-stops : goal.returns-in_err-outchar-clause-stops
returns-in_err-outchar-clause-stops g c =
    stops_handed (Unit {0}) (Unit {0}) g.O.Sink.written g.O.Sink.faults _ _ _ c.in_err-outchar.field-0.0 _ c.from_residual-in_err-outchar.ensures.1 c.loop-place.invariant.steady c.in_err-outchar.ensures.stops

pub loop-place-preserved : goal.loop-place-preserved
loop-place-preserved g c =
    let s : OutputState = output_state c.args.texts.now c.args.self.now in
    let t : TextVal = c.args.t in
    let k : ℕ = c.loop-place.place in
    let before : OutputState = outchars k 0 t (text_begun s t) in
    let kept = c.loop-place.invariant in
    let put = c.in_ok-outchar.ensures in
    let read : slice_index c.characters.result.now k ≡ slice_index (characters before.frames t) k =
    ap (λ (cs : List ℕ). slice_index cs k) (c.characters.ensures.characters ∙ ap (λ (fs : List Frame). characters fs t) kept.there.frames)
    in
    let next : outchar before (slice_index c.characters.result.now k) ≡ outchars (k + 1) 0 t (text_begun s t) = ap (outchar before) read ∙ sym (next_outchar k t (text_begun s t)) in
    record {
      there = subst (λ (r : OutputState). IsAt r r.written (writing s.frames s.image (g.O.Sink.written c.args.out.now)) (writing c.outchar.new.texts c.outchar.new.self (g.O.Sink.written c.outchar.new.out))) next
          (outchar_there before (slice_index c.characters.result.now k) _ _ _ kept.there put.outcome);
      steady = put.cause ∙ kept.steady;
      valid = put.valid;
      same = put.same ∙ ap (λ (image : TextVal). at_position image c.outchar.new.self.pos) kept.same;
      keeps = λ u h. put.keeps u (kept.keeps u h);
      others = λ j other. put.others j (λ e. other (e ∙ ap (λ (image : TextVal). image.text_frame) kept.same)) ∙ kept.others j other;
    }

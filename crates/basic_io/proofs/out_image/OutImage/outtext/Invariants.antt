use Rattle.std.proofs.Common.{◌≡◌}
use Rattle.sim_values.specs.Images.{OutputState, outchars}
use Rattle.sim_values.specs.Texts.{KeepsTexts, SameBut, at_position}
use Rattle.basic_io.specs.Image.{IsImage}
use Rattle.basic_io.specs.Output.{IsAt, output_state, text_begun, writing}
use Rattle.basic_io.proofs.out_image.OutImage.outtext.Given as goal

-- the characters before the place are written
abbrev pub invariant-loop-place : goal.invariant-loop-place
invariant-loop-place g l =
    let s : OutputState = outchars l.place 0 l.t (text_begun (output_state l.fn.texts l.fn.self) l.t) in
    record {
      there : IsAt s s.written (writing l.fn.texts l.fn.self (g.O.Sink.written l.fn.out)) (writing l.texts l.self (g.O.Sink.written l.out));
      steady : g.O.Sink.faults l.out ≡ g.O.Sink.faults l.fn.out;
      valid : IsImage l.texts l.self;
      same : l.self ≡ at_position l.fn.self l.self.pos;
      keeps : KeepsTexts l.fn.texts l.texts;
      others : SameBut l.fn.self.text_frame l.fn.texts l.texts;
    }

use Rattle.std.proofs.Common.{◌<◌, refl, subst}
use Rattle.basic_io.specs.Output.{line_of, output_state}
use Rattle.object_machine.proofs.Written.{cut_line, cut_part, last_written}
use Rattle.object_machine.proofs.ending.close.Goals as goal

pub returns-in-Err-clause-cut : goal.returns-in-Err-clause-cut
returns-in-Err-clause-cut g c _ before s e e2 h =
    let s0 = output_state c.args.texts.now c.args.image.now in
    let cut = cut_line s0 _ _ c.in-Err.field-0 refl c.in-Err.ensures.outcome in
    cut_part before _ _ s.written (line_of s0) _ cut.0 h cut.1 (last_written s c.args.texts.now c.args.image.now e e2 (subst (λ i. 1 < i.pos) c.image.ensures c.if-image-le1.false))

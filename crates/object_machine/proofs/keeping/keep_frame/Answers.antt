use Rattle.std.proofs.Common.{rules, ◌≡◌, true}
use Rattle.frame_arena.specs.Frames.{frame_at}
use Rattle.object_machine.proofs.KeptFrames.{one_kept}
use Rattle.object_machine.proofs.keeping.keep_frame.Goals as goal

pub returns-clause-row : goal.returns-clause-row
returns-clause-row c cells m holds =
    let fs = c.args.frames.now in
    let passing : (frame_at fs c.in-Some.place).passing ≡ true = search rules in
    one_kept fs c.keep.new.frames cells m c.in-Some.place c.args.home.stamp c.in-Some.ensures.there holds passing (c.keep.ensures.holds cells m holds) (λ r led. c.keep.ensures.leads cells m r holds led) c.keep.ensures.chains

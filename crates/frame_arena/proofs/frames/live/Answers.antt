use Rattle.std.proofs.Common.{rules, ◌≡◌, ◌∙◌}
use Rattle.frame_arena.specs.Free.{live_frames}
use Rattle.frame_arena.proofs.Counts.{live_counts}
use Rattle.frame_arena.proofs.frames.live.Goals as goal

pub returns : goal.returns
returns c = record { instances = λ cells m h. (let e : c.count.result ≡ live_frames c.args.frames.now = search rules in e) ∙ live_counts c.args.frames.now cells m h }

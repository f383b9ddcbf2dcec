use Rattle.std.proofs.Common.{subst, sym}
use Rattle.frame_arena.specs.Frames.{Holds}
use Rattle.frame_arena.proofs.arena.Arena.live.Goals as goal

pub returns : goal.returns
returns c m h = c.live.ensures.instances c.args.self.now.cells.items m (subst (λ f. Holds f c.args.self.now.cells.items m) (sym c.deref.ensures.value) h)

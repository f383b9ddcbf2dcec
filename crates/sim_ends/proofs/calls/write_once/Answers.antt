use Rattle.sim_ends.proofs.Retries.{Keeps-Appends}
use Rattle.sim_ends.proofs.calls.write_once.Goals as goal

pub returns-in-Ok-clause-bytes : goal.returns-in-Ok-clause-bytes
returns-in-Ok-clause-bytes g c = Keeps-Appends _ _ _ _ c.loop.invariant c.in-Ok.ensures.bytes

use Rattle.sim_ends.proofs.Retries.{Keeps-Consumes}
use Rattle.sim_ends.proofs.calls.read_once.Goals as goal

pub returns-in-Ok-clause-bytes : goal.returns-in-Ok-clause-bytes
returns-in-Ok-clause-bytes g c =
    (Keeps-Consumes _ _ _ _ c.loop.invariant c.in-Ok.ensures.bytes.0, c.in-Ok.ensures.bytes.1)

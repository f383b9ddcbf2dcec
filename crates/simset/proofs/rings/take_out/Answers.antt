use Rattle.simset.proofs.Joins.{taken_out}
use Rattle.simset.proofs.Closings.{next_is, previous_is}
use Rattle.simset.proofs.rings.take_out.Goals as goal

pub returns : goal.returns
returns c =
    taken_out c.args.nodes.now c.tie.new.nodes c.tie-2.new.nodes c.args.x c.requires.joined
    (rw (← next_is c.args.nodes.now c.args.x _ c.requires.made, ← previous_is c.args.nodes.now c.args.x _ c.requires.made) at c.tie.ensures)
    c.tie-2.ensures

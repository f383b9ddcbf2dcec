use Rattle.simset.proofs.Joins.{put_behind}
use Rattle.simset.proofs.Closings.{next_is}
use Rattle.simset.proofs.rings.put_behind.Goals as goal

pub returns : goal.returns
returns c =
    put_behind c.args.nodes.now c.tie.new.nodes c.tie-2.new.nodes c.args.before c.args.x c.requires.joined c.requires.alone c.requires.apart
    c.tie.ensures
    (rw (← next_is c.args.nodes.now c.args.before _ c.requires.before_made) at c.tie-2.ensures)

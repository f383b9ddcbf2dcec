use Rattle.notice_tree.proofs.PlacingLemmas.{first_found}
use Rattle.notice_tree.proofs.order.first_process.Goals as goal

pub returns : goal.returns
returns c = λ l h s. first_found c.args.nodes.now c.args.root l c.seek-spot.result c.follower.result h s c.seek-spot.ensures c.follower.ensures

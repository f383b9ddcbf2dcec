use Rattle.notices.proofs.LawLemmas.{removed-placed_at, removed-placed_direct, removed-placed_near}
use Rattle.notices.proofs.laws.others_keep_their_order.Goals as goal

pub returns-clause-at : goal.returns-clause-at
returns-clause-at c = removed-placed_at

pub returns-clause-direct : goal.returns-clause-direct
returns-clause-direct c = removed-placed_direct

pub returns-clause-near : goal.returns-clause-near
returns-clause-near c = removed-placed_near

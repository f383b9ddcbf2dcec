use Rattle.static_rules.proofs.Answers.{decided}
use Rattle.static_rules.proofs.laws.least_of_the_first_round.Goals as goal

pub returns : goal.returns
returns c = decided

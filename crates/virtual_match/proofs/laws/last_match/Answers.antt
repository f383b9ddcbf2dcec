use Rattle.virtual_match.proofs.LastMatch.{last_found, last_matched}
use Rattle.virtual_match.proofs.laws.last_match.Goals as goal

pub returns-clause-matched : goal.returns-clause-matched
returns-clause-matched c = last_matched

pub returns-clause-found : goal.returns-clause-found
returns-clause-found c = last_found

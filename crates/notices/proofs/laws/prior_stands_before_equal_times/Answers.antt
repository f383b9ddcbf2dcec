use Rattle.notices.proofs.LawLemmas.{earlier_in_front}
use Rattle.notices.proofs.laws.prior_stands_before_equal_times.Goals as goal

pub returns : goal.returns
returns c = earlier_in_front

use Rattle.notices.proofs.LawLemmas.{later_behind}
use Rattle.notices.proofs.laws.plain_stands_after_equal_times.Goals as goal

pub returns : goal.returns
returns c = later_behind

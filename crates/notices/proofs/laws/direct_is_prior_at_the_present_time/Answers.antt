use Rattle.notices.proofs.LawLemmas.{direct_as_prior}
use Rattle.notices.proofs.laws.direct_is_prior_at_the_present_time.Goals as goal

pub returns : goal.returns
returns c = direct_as_prior

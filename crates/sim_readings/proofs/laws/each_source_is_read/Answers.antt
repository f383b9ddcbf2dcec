use Rattle.sim_readings.proofs.Places.{places_ascend}
use Rattle.sim_readings.proofs.Sources.{outcome, tokens_end}
use Rattle.sim_readings.proofs.laws.each_source_is_read.Goals as goal

pub returns-clause-outcome : goal.returns-clause-outcome
returns-clause-outcome c = λ source. let r = c.one_reading.ensures.some source in outcome source r.0 r.1

pub returns-clause-tokens : goal.returns-clause-tokens
returns-clause-tokens c = λ source ws r. tokens_end source ws r

pub returns-clause-ascend : goal.returns-clause-ascend
returns-clause-ascend c = λ source ws r. places_ascend source ws r

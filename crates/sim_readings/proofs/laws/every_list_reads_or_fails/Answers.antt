use Rattle.sim_readings.proofs.Reading.{reads_or_fails}
use Rattle.sim_readings.proofs.laws.every_list_reads_or_fails.Goals as goal

pub returns : goal.returns
returns c = λ limit ws d i n. reads_or_fails limit ws d i n

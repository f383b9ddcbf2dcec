use Rattle.sim_built.proofs.Programs.{program_built}
use Rattle.sim_built.proofs.laws.typed_programs_are_built.Goals as goal

pub returns : goal.returns
returns c = λ s ok laid full. program_built s ok laid full

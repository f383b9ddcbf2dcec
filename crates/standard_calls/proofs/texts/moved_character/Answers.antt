use Rattle.std.proofs.Common.{ap}
use Rattle.sim_values.specs.Plain.{Character}
use Rattle.sim_values.specs.Store.{valued}
use Rattle.standard_calls.proofs.Gives.{text_refused}
use Rattle.standard_calls.proofs.texts.moved_character.Goals as goal

pub returns-in-Err-clause-came : goal.returns-in-Err-clause-came
returns-in-Err-clause-came c = λ budget n vs p frames step is e. text_refused budget n vs p (valued Character) frames c.args.text c.args.answer step is e c.in-Err.error (ap (valued Character) c.in-Err.is)

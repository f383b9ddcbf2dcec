use Rattle.codegen.proofs.Worked.{same_shown}
use Rattle.codegen.proofs.laws.worked_codes.Goals as goal

pub returns : goal.returns
returns c = same_shown

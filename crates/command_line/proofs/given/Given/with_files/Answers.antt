use Rattle.command_line.specs.Given.{held}
use Rattle.command_line.proofs.WordSteps.{two_files}
use Rattle.command_line.proofs.given.Given.with_files.Goals as goal

pub returns-in_default : goal.returns-in_default
returns-in_default c = two_files (held c.args.self) c.args.files.now c.in_default.len_at_least

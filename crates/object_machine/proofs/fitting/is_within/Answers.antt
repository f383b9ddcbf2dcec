use Rattle.std.proofs.Common.{ap, ◌∙◌}
use Rattle.sim_code.specs.Classes.{levels}
use Rattle.object_machine.proofs.Fitted.{held_or, level_held}
use Rattle.object_machine.proofs.fitting.is_within.Goals as goal

pub returns-in-Some : goal.returns-in-Some
returns-in-Some c = record { row = λ code e. ap held_or (c.in-Some.ensures.row code e) ∙ level_held c.args.outer (levels code c.args.inner) }

pub returns-in-None : goal.returns-in-None
returns-in-None c = record { row = λ code e. ap held_or (c.in-None.ensures.row code e) ∙ level_held c.args.outer (levels code c.args.inner) }

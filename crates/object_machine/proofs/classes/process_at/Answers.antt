use Rattle.std.proofs.Common.{◌∙◌, ap}
use Rattle.sim_code.specs.Classes.{process_in}
use Rattle.object_machine.proofs.classes.process_at.Goals as goal

pub returns-in_default : goal.returns-in_default
returns-in_default c = record { row = λ code cells m eb ec h leads. ap (λ k. process_in code k) (c.in_default.ensures.row code cells m eb h leads) }

pub returns : goal.returns
returns c = record { row = λ code cells m eb ec h leads. c.process_class.ensures.row code eb ec ∙ ap (λ k. process_in code k) (c.in-Some.ensures.row code cells m eb h leads) }

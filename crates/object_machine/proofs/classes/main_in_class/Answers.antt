use Rattle.std.proofs.Common.{◌∙◌, ap}
use Rattle.sim_code.specs.Classes.{is_among, levels_in}
use Rattle.object_machine.proofs.classes.main_in_class.Goals as goal

pub returns-in_default : goal.returns-in_default
returns-in_default c = record { row = λ code cells m eb ec h leads. ap (λ k. is_among c.args.wanted (levels_in code k)) (c.in_default.ensures.row code cells m eb ec h leads) }

pub returns : goal.returns
returns c = record { row = λ code cells m eb ec h leads. c.is_level.ensures.row code ec ∙ ap (λ k. is_among c.args.wanted (levels_in code k)) (c.in-Some.ensures.row code cells m eb ec h leads) }

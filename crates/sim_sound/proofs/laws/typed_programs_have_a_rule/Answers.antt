use Rattle.sim_sound.proofs.Main.{never_no_rule}
use Rattle.sim_sound.proofs.laws.typed_programs_have_a_rule.Goals as goal

pub returns : goal.returns
returns c = never_no_rule

use Rattle.sim_sound.proofs.Main.{stays_sane}
use Rattle.sim_sound.proofs.laws.typed_programs_stay_sane.Goals as goal

pub returns : goal.returns
returns c = stays_sane

use Rattle.sim_sound.proofs.Main.{names_objects}
use Rattle.sim_sound.proofs.laws.typed_programs_name_objects.Goals as goal

pub returns : goal.returns
returns c = names_objects

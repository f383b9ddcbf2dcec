use Rattle.object_machine.proofs.Living.{frames_are_instances}
use Rattle.object_machine.proofs.laws.frames_are_the_live_instances.Goals as goal

pub returns : goal.returns
returns c = frames_are_instances

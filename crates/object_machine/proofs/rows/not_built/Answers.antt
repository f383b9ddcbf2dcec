use Rattle.object_machine.specs.Standing.{Leaves, Obeys}
use Rattle.object_machine.proofs.rows.not_built.Goals as goal

pub returns : goal.returns
unfolding Obeys Leaves
returns c l line does p r stack below now before o m s = tt

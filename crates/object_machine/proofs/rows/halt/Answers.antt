use Rattle.object_machine.specs.Standing.{Obeys}
use Rattle.object_machine.proofs.Going.{normal}
use Rattle.object_machine.proofs.rows.halt.Goals as goal

pub returns-clause-row : goal.returns-clause-row
unfolding Obeys
returns-clause-row c l line p r stack below now before o m s = normal l line p below before now r r stack stack o m s

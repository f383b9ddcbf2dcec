use Rattle.sim_scope.specs.Standard.{Passes}
use Rattle.sim_scope.proofs.standard.find.Given as goal

abbrev pub invariant-loop-standard : goal.invariant-loop-standard
invariant-loop-standard l = Passes l.place l.name l.table l.standard-index

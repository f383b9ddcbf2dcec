use Rattle.sim_scope.specs.Scopes.{class_formals}
use Rattle.param_modes.specs.Headings.{Gathers}
use Rattle.param_modes.proofs.heading.class_formals_among.Given as goal

abbrev pub invariant-loop-place : goal.invariant-loop-place
invariant-loop-place l = Gathers l.scopes (class_formals l.scopes l.block) l.list.items l.place

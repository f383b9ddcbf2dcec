use Rattle.sim_scope.specs.Scopes.{class_formals}
use Rattle.sim_scope.specs.Source.{source_of}
use Rattle.text_tables.specs.Making.{OwesFormals}
use Rattle.text_tables.proofs.formals.class_formals.Given as goal

abbrev pub invariant-loop-place : goal.invariant-loop-place
invariant-loop-place l = OwesFormals (source_of l.bound) (class_formals l.bound.scopes l.block) l.formals.items l.place

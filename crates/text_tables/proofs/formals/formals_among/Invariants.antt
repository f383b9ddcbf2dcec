use Rattle.sim_scope.specs.Source.{source_of}
use Rattle.text_tables.specs.Making.{OwesFormals}
use Rattle.text_tables.proofs.formals.formals_among.Given as goal

abbrev pub invariant-loop-item : goal.invariant-loop-item
invariant-loop-item l = OwesFormals (source_of l.bound) l.list l.formals.items l.item-index

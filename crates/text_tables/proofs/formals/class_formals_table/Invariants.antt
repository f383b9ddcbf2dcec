use Rattle.sim_scope.specs.Source.{source_of}
use Rattle.text_tables.specs.Making.{ClassFormals}
use Rattle.text_tables.proofs.formals.class_formals_table.Given as goal

abbrev pub invariant-loop-index : goal.invariant-loop-index
invariant-loop-index l = ClassFormals (source_of l.bound) l.table.items l.index

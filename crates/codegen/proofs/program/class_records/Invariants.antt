use Rattle.sim_scope.specs.Source.{source_of}
use Rattle.codegen.proofs.Recorded.{RecordsTo}
use Rattle.codegen.proofs.program.class_records.Given as goal

abbrev pub invariant-loop-index : goal.invariant-loop-index
invariant-loop-index l = RecordsTo (source_of l.bound) l.classes l.texts l.records.items l.index

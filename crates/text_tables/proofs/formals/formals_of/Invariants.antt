use Rattle.std.specs.Prelude.{map}
use Rattle.sim_scope.specs.Source.{source_of}
use Rattle.text_tables.specs.Making.{Passes, formals_of, items_of}
use Rattle.text_tables.proofs.formals.formals_of.Given as goal

abbrev pub invariant-loop-block : goal.invariant-loop-block
invariant-loop-block l = Passes (formals_of (source_of l.bound)) l.blocks (map items_of l.table.items) l.block-index

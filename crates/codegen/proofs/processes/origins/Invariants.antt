use Rattle.std.proofs.Common.{◌≡◌, ◌++◌, length}
use Rattle.sim_scope.specs.Source.{source_of}
use Rattle.codegen.specs.CodeStm.{origins}
use Rattle.codegen.proofs.OriginEnds.{Behind}
use Rattle.codegen.proofs.processes.origins.Given as goal

abbrev pub invariant-loop-index : goal.invariant-loop-index
invariant-loop-index l = l.found.items ++ Behind l.bound l.class (length l.bound.uses.items) l.index ≡ origins (source_of l.bound) l.class

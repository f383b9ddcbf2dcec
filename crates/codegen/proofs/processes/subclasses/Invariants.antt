use Rattle.std.proofs.Common.{◌≡◌, ◌++◌, length}
use Rattle.sim_scope.specs.Source.{source_of}
use Rattle.codegen.specs.CodeStm.{subclasses}
use Rattle.codegen.proofs.ProcessLevels.{Rest}
use Rattle.codegen.proofs.processes.subclasses.Given as goal

abbrev pub invariant-loop-index : goal.invariant-loop-index
invariant-loop-index l = l.found.items ++ Rest l.bound l.class (length l.bound.scopes.blocks) l.index ≡ subclasses (source_of l.bound) l.class

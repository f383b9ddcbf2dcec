use Rattle.std.proofs.Common.{drop}
use Rattle.codegen.specs.EmitProcesses.{OwesEnds}
use Rattle.codegen.proofs.processes.emit_ends.Given as goal

abbrev pub invariant-loop-class : goal.invariant-loop-class
invariant-loop-class l = OwesEnds l.bound l.spot l.around l.fn.draft l.classes l.draft l.overs.items (drop l.class-index l.classes)

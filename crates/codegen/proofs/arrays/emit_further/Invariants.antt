use Rattle.std.proofs.Common.{drop}
use Rattle.codegen.specs.EmitArrays.{OwesFurther}
use Rattle.codegen.proofs.arrays.emit_further.Given as goal

abbrev pub invariant-loop-index : goal.invariant-loop-index
invariant-loop-index l = OwesFurther l.bound l.spot l.fn.draft l.first (drop 1 l.names) l.draft (drop l.index l.names)

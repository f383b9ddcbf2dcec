use Rattle.std.proofs.Common.{drop}
use Rattle.codegen.specs.EmitArrays.{OwesBounds}
use Rattle.codegen.proofs.arrays.emit_bounds.Given as goal

abbrev pub invariant-loop-item : goal.invariant-loop-item
invariant-loop-item l = OwesBounds l.bound l.spot l.fn.draft l.bounds l.depth l.draft (drop l.item-index l.bounds)

use Rattle.std.proofs.Common.{drop}
use Rattle.codegen.specs.EmitArrays.{OwesArrays}
use Rattle.codegen.proofs.arrays.emit_arrays.Given as goal

abbrev pub invariant-loop-item : goal.invariant-loop-item
invariant-loop-item l = OwesArrays l.bound l.spot l.fn.draft l.list l.draft (drop l.item-index l.list)

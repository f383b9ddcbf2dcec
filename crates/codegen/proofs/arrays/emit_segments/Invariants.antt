use Rattle.std.proofs.Common.{drop}
use Rattle.codegen.specs.EmitArrays.{OwesSegments}
use Rattle.codegen.proofs.arrays.emit_segments.Given as goal

abbrev pub invariant-loop-item : goal.invariant-loop-item
invariant-loop-item l = OwesSegments l.bound l.spot l.fn.draft l.type_name l.segments l.draft (drop l.item-index l.segments)

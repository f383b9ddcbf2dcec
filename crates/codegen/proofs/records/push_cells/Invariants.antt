use Rattle.std.proofs.Common.{drop}
use Rattle.codegen.specs.EmitProgram.{OwesCells}
use Rattle.codegen.proofs.records.push_cells.Given as goal

abbrev pub invariant-loop-item : goal.invariant-loop-item
invariant-loop-item l = OwesCells l.bound l.fn.types.items l.list l.types.items (drop l.item-index l.list)

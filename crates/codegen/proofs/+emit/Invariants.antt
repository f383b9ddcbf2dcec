use Rattle.std.proofs.Common.{◌≤◌, ◌-◌, drop, length}
use Rattle.codegen.specs.Emit.{OwesStatements}
use Rattle.codegen.specs.EmitConnections.{OwesArms}
use Rattle.codegen.specs.EmitLists.{OwesEach}
use Rattle.codegen.specs.EmitShared.{OwesTurns}
use Rattle.codegen.specs.ForElements.{in_list}
use Rattle.codegen.proofs.+emit.Given as goal

abbrev pub invariant-statement::emit_statements-loop-item : goal.invariant-statement::emit_statements-loop-item
invariant-statement::emit_statements-loop-item l = OwesStatements l.bound l.spot l.fn.draft l.list l.draft (drop l.item-index l.list)

abbrev pub invariant-statement::emit_each-loop-index : goal.invariant-statement::emit_each-loop-index
invariant-statement::emit_each-loop-index l = OwesEach l.bound l.spot l.fn.draft l.target (in_list l.elements) l.body l.draft (drop l.index (in_list l.elements))

abbrev pub invariant-statement::emit_turns-loop-number : goal.invariant-statement::emit_turns-loop-number
invariant-statement::emit_turns-loop-number l = (l.number ≤ length (in_list l.elements) - 1) × OwesTurns l.bound l.spot l.fn.draft l.target (in_list l.elements) l.start l.chain l.draft l.number (drop l.number (in_list l.elements))

abbrev pub invariant-connections::emit_arms-loop-arm : goal.invariant-connections::emit_arms-loop-arm
invariant-connections::emit_arms-loop-arm l = OwesArms l.bound l.spot l.fn.draft l.arms l.draft l.overs.items (drop l.arm-index l.arms)

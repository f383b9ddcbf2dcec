use Rattle.codegen.specs.EmitProgram.{OwesHidden}
use Rattle.codegen.proofs.records.hide_connections.Given as goal

abbrev pub invariant-loop-index : goal.invariant-loop-index
invariant-loop-index l = OwesHidden l.bound l.fn.types.items l.text l.types.items l.index

use Rattle.codegen.specs.EmitProgram.{WritesTo}
use Rattle.codegen.proofs.texts.emit_texts.Given as goal

abbrev pub invariant-loop-index : goal.invariant-loop-index
invariant-loop-index l = WritesTo l.bound l.fn.written l.written l.texts l.index

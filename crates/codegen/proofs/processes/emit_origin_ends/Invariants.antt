use Rattle.std.proofs.Common.{drop}
use Rattle.codegen.specs.EmitProcesses.{OwesOrigins}
use Rattle.codegen.proofs.processes.emit_origin_ends.Given as goal

abbrev pub invariant-loop-token : goal.invariant-loop-token
invariant-loop-token l = OwesOrigins l.bound l.spot l.around l.place l.fn.draft l.tokens l.draft l.overs.items (drop l.token-index l.tokens)

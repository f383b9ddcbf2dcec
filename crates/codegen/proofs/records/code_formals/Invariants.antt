use Rattle.std.proofs.Common.{drop}
use Rattle.codegen.specs.EmitProgram.{OwesFormals}
use Rattle.codegen.proofs.records.code_formals.Given as goal

abbrev pub invariant-loop-formal : goal.invariant-loop-formal
invariant-loop-formal l = OwesFormals l.bound l.draft l.list l.formals.items (drop l.formal-index l.list)

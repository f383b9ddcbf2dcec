use Rattle.std.proofs.Common.{◌≡◌, ◌++◌}
use Rattle.generated_program.proofs.Activations.{owed}
use Rattle.generated_program.proofs.program.put_activations.Given as goal

abbrev pub invariant-loop-before : goal.invariant-loop-before
invariant-loop-before l = l.text.items ++ owed l.fn.processes l.before ≡ l.fn.text.items ++ owed l.fn.processes 0

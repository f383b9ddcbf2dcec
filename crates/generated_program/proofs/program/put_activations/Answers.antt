use Rattle.std.proofs.Common.{◌++◌, arith}
use Rattle.generated_program.proofs.Activations.{one_less, owed}
use Rattle.generated_program.proofs.program.put_activations.Goals as goal

pub loop-before-preserved : goal.loop-before-preserved
loop-before-preserved c =
    rw c.in_ok-put_activation.ensures
    (one_less c.loop-before.text.items (c.args.text.now.items ++ owed c.args.processes 0) c.args.processes c.loop-before.before (omega (arith, c.loop-before-test.true)) c.loop-before.invariant)

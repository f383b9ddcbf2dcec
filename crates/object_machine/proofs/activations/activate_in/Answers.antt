use Rattle.std.proofs.Common.{length, arith}
use Rattle.object_machine.proofs.ActivationRows.{in_room}
use Rattle.object_machine.proofs.activations.activate_in.Goals as goal

pub activate-requires-clause-within : goal.activate-requires-clause-within
activate-requires-clause-within c =
    in_room (length c.args.simulated.now.processes.items) c.reserve.new.self.room c.args.activation.process (let count = c.len-count.ensures in let room = c.in-Ok.ensures.reserved in omega (arith, count, room)) c.requires.within

use Rattle.std.proofs.Common.{arith, length-drop}
use Rattle.std.proofs.lemmas.List.{take_rest}
use Rattle.sim_ports.proofs.Transfers.{Appends-take}
use Rattle.sim_ports.proofs.writing.write_all.Goals as goal

pub loop-written-preserved : goal.loop-written-preserved
loop-written-preserved g c =
    record {
      within = omega (arith, length-drop c.loop-written.written c.args.piece.now, rw (take_rest c.args.piece.now c.loop-written.written) at c.in-Ok.ensures.bound);
      so_far = Appends-take _ _ _ c.loop-written.written c.in-Ok.count c.args.piece.now c.loop-written.invariant.so_far (rw (take_rest c.args.piece.now c.loop-written.written) at c.in-Ok.ensures.bytes);
      steady = cc (c.in-Ok.ensures.steady, c.loop-written.invariant.steady);
      room = omega (arith, c.in-Ok.ensures.room, c.loop-written.invariant.room);
    }

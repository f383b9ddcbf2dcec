use Rattle.std.proofs.Common.{◌≡◌, ◌+◌, ◌-◌, ◌≤◌, length, take}
use Rattle.std.specs.Io.KnownBytes.{Appends}
use Rattle.sim_ports.proofs.writing.write_all.Given as goal

abbrev pub invariant-loop-written : goal.invariant-loop-written
invariant-loop-written g l =
    record {
      within : l.written ≤ length l.piece;
      so_far : Appends (g.S.Sink.written l.initial.sink) (g.S.Sink.written l.sink) (take l.written l.piece);
      steady : g.S.Sink.faults l.sink ≡ g.S.Sink.faults l.initial.sink;
      room : g.S.Sink.room l.initial.sink ≤ g.S.Sink.room l.sink + l.written;
    }

abbrev pub decreases-loop-written : goal.decreases-loop-written
decreases-loop-written g l = length l.piece - l.written

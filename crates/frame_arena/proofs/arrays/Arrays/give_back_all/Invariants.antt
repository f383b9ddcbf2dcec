use Rattle.frame_arena.proofs.Giving.{Between}
use Rattle.frame_arena.proofs.arrays.Arrays.give_back_all.Given as goal

abbrev pub invariant-loop-place : goal.invariant-loop-place
invariant-loop-place l = Between l.fn.self l.self l.owner l.used l.left l.newest l.place

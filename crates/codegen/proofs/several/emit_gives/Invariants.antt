use Rattle.std.proofs.Common.{◌-◌, drop, length}
use Rattle.codegen.specs.EmitSeveral.{HasGiven, sides}
use Rattle.codegen.proofs.several.emit_gives.Given as goal

abbrev pub invariant-loop-done : goal.invariant-loop-done
invariant-loop-done l = HasGiven l.bound l.spot l.depth l.fn.draft l.draft l.values (drop (length l.rest - l.done) (sides l.left l.rest))

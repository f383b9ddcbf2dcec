use Rattle.std.proofs.Common.{drop}
use Rattle.codegen.specs.EmitSeveral.{OwesAddresses, sides}
use Rattle.codegen.proofs.several.emit_addresses.Given as goal

abbrev pub invariant-loop-done : goal.invariant-loop-done
invariant-loop-done l = OwesAddresses l.bound l.spot l.fn.draft (sides l.left l.rest) l.depth l.draft (drop l.done (sides l.left l.rest))

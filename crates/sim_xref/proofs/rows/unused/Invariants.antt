use Rattle.std.proofs.Common.{◌≡◌, take}
use Rattle.sim_xref.specs.Filling.{unused_from}
use Rattle.sim_xref.proofs.rows.unused.Given as goal

abbrev pub invariant-loop-declaration : goal.invariant-loop-declaration
invariant-loop-declaration l = l.rows.items ≡ unused_from 0 (take l.declaration-index l.declarations)

use Rattle.std.proofs.Common.{drop}
use Rattle.codegen.specs.EmitConnections.{OwesFilled}
use Rattle.codegen.proofs.connections.fill_all.Given as goal

abbrev pub invariant-loop-place : goal.invariant-loop-place
invariant-loop-place l = OwesFilled l.fn.draft l.places l.target l.draft (drop l.place-index l.places)

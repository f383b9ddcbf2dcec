use Rattle.std.proofs.Common.{drop}
use Rattle.codegen.proofs.Listed.{OwesMatches}
use Rattle.codegen.proofs.matches.matches_of.Given as goal

abbrev pub invariant-loop-declaration : goal.invariant-loop-declaration
invariant-loop-declaration l = OwesMatches l.bound l.text l.virtuals l.matches.items (drop l.declaration-index l.virtuals)

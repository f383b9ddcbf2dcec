use Rattle.std.proofs.Common.{◌≡◌, length}
use Rattle.codegen.proofs.matches.no_texts.Given as goal

abbrev pub invariant-loop-made : goal.invariant-loop-made
invariant-loop-made l = length l.texts.items ≡ l.made

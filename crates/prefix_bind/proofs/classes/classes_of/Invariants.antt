use Rattle.std.proofs.Common.{◌≡◌, ◌++◌, drop}
use Rattle.prefix_bind.specs.Classes.{classes_of}
use Rattle.prefix_bind.proofs.classes.classes_of.Given as goal

abbrev pub invariant-loop-block : goal.invariant-loop-block
invariant-loop-block l = l.classes.items ++ classes_of l.scopes (drop l.block-index l.blocks) ≡ classes_of l.scopes l.blocks

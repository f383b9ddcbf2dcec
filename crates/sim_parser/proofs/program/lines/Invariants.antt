use Rattle.std.proofs.Common.{◌≡◌, take, map}
use Rattle.sim_tree.specs.Tree.{line}
use Rattle.sim_parser.proofs.program.lines.Given as goal

abbrev pub invariant-loop-token : goal.invariant-loop-token
invariant-loop-token l = l.lines.items ≡ map line (take l.token-index l.tokens)

use Rattle.std.proofs.Common.{ℕ, ◌-◌, ◌≤◌, ◌<◌, length, map}
use Rattle.sim_tree.specs.Grammar as g
use Rattle.sim_tree.specs.ProgramDerivation.{protection_derivation}
use Rattle.sim_expr_parser.proofs.Steps.{Row}
use Rattle.sim_parser.proofs.heading.protections.Given as goal

abbrev pub invariant-loop-words : goal.invariant-loop-words
invariant-loop-words l = record {
  goes : (d : ℕ) → Row l.source d g.Protection l.start (map protection_derivation l.list.items) l.at;
  ahead : l.start ≤ l.at;
  within : l.at < length l.source;
}

abbrev pub decreases-loop-words : goal.decreases-loop-words
decreases-loop-words l = length l.source - l.at

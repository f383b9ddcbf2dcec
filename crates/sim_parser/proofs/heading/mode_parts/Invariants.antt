use Rattle.std.proofs.Common.{ℕ, ◌-◌, ◌≤◌, ◌<◌, length, map}
use Rattle.sim_tree.specs.Grammar as g
use Rattle.sim_tree.specs.ProgramDerivation.{mode_derivation}
use Rattle.sim_expr_parser.proofs.Steps.{Row}
use Rattle.sim_parser.proofs.heading.mode_parts.Given as goal

abbrev pub invariant-loop-mode : goal.invariant-loop-mode
invariant-loop-mode l = record {
  goes : (d : ℕ) → Row l.source d g.Mode l.start (map mode_derivation l.parts.items) l.at;
  ahead : l.start ≤ l.at;
  within : l.at < length l.source;
}

abbrev pub decreases-loop-mode : goal.decreases-loop-mode
decreases-loop-mode l = length l.source - l.at

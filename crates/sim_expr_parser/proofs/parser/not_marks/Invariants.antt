use Rattle.std.proofs.Common.{ℕ, ◌-◌, ◌≤◌, ◌<◌, length, map}
use Rattle.sim_tree.specs.Grammar as g
use Rattle.sim_tree.specs.Derivation.{not_mark}
use Rattle.sim_expr_parser.proofs.Steps.{Row}
use Rattle.sim_expr_parser.proofs.parser.not_marks.Given as goal

abbrev pub invariant-loop-next : goal.invariant-loop-next
invariant-loop-next l = record {
  goes : (d : ℕ) → Row l.source d g.NotSign l.start (map not_mark l.marks.items) l.at;
  ahead : l.start ≤ l.at;
  within : l.at < length l.source;
}

abbrev pub decreases-loop-next : goal.decreases-loop-next
decreases-loop-next l = length l.source - l.at

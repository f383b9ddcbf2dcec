use Rattle.std.proofs.Common.{ℕ, ◌-◌, ◌≤◌, ◌<◌, length, map}
use Rattle.sim_tree.specs.Grammar.{Part}
use Rattle.sim_tree.specs.Reading.{Forest}
use Rattle.sim_parser.specs.Fronts.{BeginsSpecified, PartEach}
use Rattle.sim_parser.proofs.HeadingSteps.{Rows}
use Rattle.sim_parser.proofs.heading.specified_list.Given as goal

abbrev pub invariant-loop-item_at : goal.invariant-loop-item_at
invariant-loop-item_at g l = record {
  goes : (d : ℕ) (n : Part) (view : g.row.T.Denot → Forest) → BeginsSpecified n → PartEach l.source d n view (goal.F-post g l.item_at) → Rows l.source d n l.start (map view l.list.items) l.at;
  some : 0 < length l.list.items;
  ahead : l.start ≤ l.at;
  within : l.at < length l.source;
}

abbrev pub decreases-loop-item_at : goal.decreases-loop-item_at
decreases-loop-item_at g l = length l.source - l.at

use Rattle.std.proofs.Common.{ℕ, ◌-◌, ◌≤◌, ◌<◌, length}
use Rattle.sim_tree.specs.Grammar.{Part, Symbol}
use Rattle.sim_tree.specs.Reading.{Forest}
use Rattle.sim_parser.specs.CommaLists.{IsFurther, ReadsEach}
use Rattle.sim_parser.proofs.ListSteps.{Listed}
use Rattle.sim_parser.proofs.lists.comma_list.Given as goal

abbrev pub invariant-loop-next : goal.invariant-loop-next
invariant-loop-next g l = record {
  goes : (d : ℕ) (item : Symbol) (next : Part) (view : g.row.T.Denot → Forest → Forest) → IsFurther item next → ReadsEach l.source d item view (goal.F-post g l.item_at) → Listed view l.source d item next l.start l.list.items l.at;
  ahead : l.start ≤ l.at;
  within : l.at < length l.source;
}

abbrev pub decreases-loop-next : goal.decreases-loop-next
decreases-loop-next g l = length l.source - l.at

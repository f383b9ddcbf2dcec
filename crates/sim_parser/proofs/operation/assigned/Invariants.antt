use Rattle.std.proofs.Common.{◌-◌, ◌≤◌, ◌<◌, length, map}
use Rattle.sim_tree.specs.Grammar as g
use Rattle.sim_tree.specs.ProgramDerivation.{assigned_derivation}
use Rattle.sim_expr_parser.proofs.Steps.{Row}
use Rattle.sim_parser.proofs.operation.assigned.Given as goal

abbrev pub invariant-loop-sign : goal.invariant-loop-sign
invariant-loop-sign l = record {
  goes : Row l.source l.depth g.Assigned l.start (map assigned_derivation l.rest.items) l.at;
  ahead : l.start ≤ l.at;
  within : l.at < length l.source;
}

abbrev pub decreases-loop-sign : goal.decreases-loop-sign
decreases-loop-sign l = length l.source - l.at

use Rattle.sim_scope.specs.Building.{marked}
use Rattle.sim_scope.specs.Declare.{of_mode_part}
use Rattle.sim_scope.specs.Runs.{Leads}
use Rattle.sim_scope.proofs.parts.mode_parts.Given as goal

abbrev pub invariant-loop-item : goal.invariant-loop-item
invariant-loop-item l = Leads marked of_mode_part l.fn.tables l.list l.tables l.item-index

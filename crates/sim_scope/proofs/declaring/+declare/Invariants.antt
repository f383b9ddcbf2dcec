use Rattle.sim_scope.specs.Building.{marked}
use Rattle.sim_scope.specs.Declare.{declaring}
use Rattle.sim_scope.specs.Runs.{Leads}
use Rattle.sim_scope.specs.Walk.{of_arm, of_declaration, of_statement}
use Rattle.sim_scope.proofs.declaring.+declare.Given as goal

abbrev pub invariant-arms-loop-item : goal.invariant-arms-loop-item
invariant-arms-loop-item l = Leads marked (of_arm declaring) l.fn.tables l.list l.tables l.item-index

abbrev pub invariant-statements-loop-item : goal.invariant-statements-loop-item
invariant-statements-loop-item l = Leads marked (of_statement declaring l.position) l.fn.tables l.list l.tables l.item-index

abbrev pub invariant-declarations-loop-item : goal.invariant-declarations-loop-item
invariant-declarations-loop-item l = Leads marked (of_declaration declaring) l.fn.tables l.list l.tables l.item-index

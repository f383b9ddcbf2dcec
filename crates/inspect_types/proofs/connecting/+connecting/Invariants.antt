use Rattle.sim_scope.specs.Runs.{Leads}
use Rattle.sim_scope.specs.Walk.{of_arm, of_declaration, of_statement}
use Rattle.inspect_types.specs.Connecting.{connecting, connections}
use Rattle.inspect_types.proofs.connecting.+connecting.Given as goal

abbrev pub invariant-arms-loop-item : goal.invariant-arms-loop-item
invariant-arms-loop-item l = Leads connecting (of_arm connections) l.fn.tables l.list l.tables l.item-index

abbrev pub invariant-statements-loop-item : goal.invariant-statements-loop-item
invariant-statements-loop-item l = Leads connecting (of_statement connections l.position) l.fn.tables l.list l.tables l.item-index

abbrev pub invariant-declarations-loop-item : goal.invariant-declarations-loop-item
invariant-declarations-loop-item l = Leads connecting (of_declaration connections) l.fn.tables l.list l.tables l.item-index

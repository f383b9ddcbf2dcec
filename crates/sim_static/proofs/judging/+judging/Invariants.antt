use Rattle.sim_scope.specs.Found.{found}
use Rattle.sim_scope.specs.Runs.{Leads}
use Rattle.sim_scope.specs.Statements.{judging}
use Rattle.sim_scope.specs.Walk.{of_arm, of_declaration, of_statement}
use Rattle.sim_static.proofs.judging.+judging.Given as goal

abbrev pub invariant-arms-loop-item : goal.invariant-arms-loop-item
invariant-arms-loop-item l = Leads found (of_arm (judging l.scopes)) l.fn.found l.list l.found l.item-index

abbrev pub invariant-statements-loop-item : goal.invariant-statements-loop-item
invariant-statements-loop-item l = Leads found (of_statement (judging l.scopes) l.position) l.fn.found l.list l.found l.item-index

abbrev pub invariant-declarations-loop-item : goal.invariant-declarations-loop-item
invariant-declarations-loop-item l = Leads found (of_declaration (judging l.scopes)) l.fn.found l.list l.found l.item-index

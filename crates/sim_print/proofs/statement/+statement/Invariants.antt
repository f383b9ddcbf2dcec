use Rattle.sim_print.specs.Laid.{Owes}
use Rattle.sim_print.specs.Spelling.{each}
use Rattle.sim_print.specs.Trees.{before_semicolon, behind_semicolon, of_arm, of_statements}
use Rattle.sim_print.proofs.statement.+statement.Given as goal

abbrev pub invariant-arms-loop-item : goal.invariant-arms-loop-item
invariant-arms-loop-item l = Owes of_arm l.fn.layout (each of_arm l.list) l.list l.layout l.item-index

abbrev pub invariant-statements-loop-item : goal.invariant-statements-loop-item
invariant-statements-loop-item l = Owes behind_semicolon l.fn.layout (of_statements l.list) l.rest l.layout l.item-index

abbrev pub invariant-declarations-loop-item : goal.invariant-declarations-loop-item
invariant-declarations-loop-item l = Owes before_semicolon l.fn.layout (each before_semicolon l.list) l.list l.layout l.item-index

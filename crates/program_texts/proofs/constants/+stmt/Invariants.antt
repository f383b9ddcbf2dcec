use Rattle.program_texts.specs.ConstantTrees.{of_arm, of_declaration, of_statement}
use Rattle.program_texts.proofs.Gathered.{Owes}
use Rattle.program_texts.proofs.constants.+stmt.Given as goal

abbrev pub invariant-arms-loop-item : goal.invariant-arms-loop-item
invariant-arms-loop-item l = Owes of_arm l.fn.list.items l.whens l.list.items l.item-index

abbrev pub invariant-statements-loop-item : goal.invariant-statements-loop-item
invariant-statements-loop-item l = Owes of_statement l.fn.list.items l.stmts l.list.items l.item-index

abbrev pub invariant-declarations-loop-item : goal.invariant-declarations-loop-item
invariant-declarations-loop-item l = Owes of_declaration l.fn.list.items l.decls l.list.items l.item-index

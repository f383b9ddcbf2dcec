use Rattle.sim_tree.proofs.Laws.{never_both, one_fault}
use Rattle.sim_tree.proofs.grammar.one_fault.Goals as goal

pub returns-clause-never_both : goal.returns-clause-never_both
returns-clause-never_both c = λ most ws d i j s f e r h. never_both most ws r h

pub returns-clause-one_fault : goal.returns-clause-one_fault
returns-clause-one_fault c = λ most ws d i s e h x y. one_fault most ws x y

use Rattle.sim_scope.proofs.Agree.{tables_named, tables_nested}
use Rattle.sim_scope.proofs.laws.tables_agree.Goals as goal

pub returns-clause-nested : goal.returns-clause-nested
returns-clause-nested c = tables_nested

pub returns-clause-named : goal.returns-clause-named
returns-clause-named c = tables_named

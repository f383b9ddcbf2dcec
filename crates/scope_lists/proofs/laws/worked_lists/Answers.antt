use Rattle.scope_lists.proofs.Worked.{worked_cycle, worked_scopes}
use Rattle.scope_lists.proofs.laws.worked_lists.Goals as goal

pub returns-clause-scopes : goal.returns-clause-scopes
returns-clause-scopes c = worked_scopes

pub returns-clause-cycle : goal.returns-clause-cycle
returns-clause-cycle c = worked_cycle

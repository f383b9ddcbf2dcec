use Rattle.scope_lists.proofs.Walks.{lists_of, same_lists}
use Rattle.scope_lists.proofs.laws.one_list_of_each.Goals as goal

pub returns-clause-there : goal.returns-clause-there
returns-clause-there c = lists_of

pub returns-clause-alone : goal.returns-clause-alone
returns-clause-alone c = same_lists

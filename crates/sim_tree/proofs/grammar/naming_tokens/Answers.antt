use Rattle.sim_tree.proofs.NamedPrograms.{names_ascend}
use Rattle.sim_tree.proofs.OwnNames.{contains_own}
use Rattle.sim_tree.proofs.grammar.naming_tokens.Goals as goal

pub returns-clause-ascend : goal.returns-clause-ascend
returns-clause-ascend c = names_ascend

pub returns-clause-own : goal.returns-clause-own
returns-clause-own c = contains_own

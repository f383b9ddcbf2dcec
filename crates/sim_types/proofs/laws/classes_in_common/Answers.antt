use Rattle.sim_types.proofs.Shared.{innermost_in_common, none_in_common}
use Rattle.sim_types.proofs.laws.classes_in_common.Goals as goal

pub returns-clause-innermost : goal.returns-clause-innermost
returns-clause-innermost c = innermost_in_common

pub returns-clause-none : goal.returns-clause-none
returns-clause-none c = none_in_common

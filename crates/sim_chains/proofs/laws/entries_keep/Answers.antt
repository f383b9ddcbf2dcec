use Rattle.sim_chains.proofs.Entries.{entered_block, entered_object, left_keeps}
use Rattle.sim_chains.proofs.laws.entries_keep.Goals as goal

pub returns-clause-block : goal.returns-clause-block
returns-clause-block g c = entered_block

pub returns-clause-object : goal.returns-clause-object
returns-clause-object g c = entered_object

pub returns-clause-left : goal.returns-clause-left
returns-clause-left g c = left_keeps

use Rattle.std.proofs.Common.{rules}
use Rattle.std.proofs.lemmas.List.{with_items_is, places}
use Rattle.object_machine.proofs.Going.{obeys_stacks}
use Rattle.object_machine.proofs.scheduling.tell_standard.Goals as goal

pub returns-clause-row : goal.returns-clause-row
returns-clause-row c l line below now =
    obeys_stacks c.tell_named.result l line _ _ _ _ _ _ c.args.top.now.stack.items _ _ _ _ _ _ c.deref_mut.ensures.value (with_items_is c.args.top.now.stack c.tell_named.new.stack (search (rules, places))) (c.tell_named.ensures.row l line below now)

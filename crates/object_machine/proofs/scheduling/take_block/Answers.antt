use Rattle.std.proofs.Common.{sym, ◌∙◌}
use Rattle.frame_arena.specs.Slots.{value_of}
use Rattle.frame_arena.specs.Stacks.{slot_at, values_of}
use Rattle.object_machine.specs.Simulating.{simulation_of}
use Rattle.object_machine.proofs.Schedules.{Linked, block_popped, linked_nowhere, linked_there, unlinked}
use Rattle.object_machine.proofs.Sights.{located_nowhere, located_there}
use Rattle.object_machine.proofs.scheduling.take_block.Goals as goal

pub returns-in_default-clause-row : goal.returns-in_default-clause-row
returns-in_default-clause-row c o rises is go = block_popped o go (values_of c.args.depth c.args.stack.now) ∙ c.in_default.ensures.row o (Linked o go)

pub returns-in_default-link_in-clause-row : goal.returns-in_default-link_in-clause-row
returns-in_default-link_in-clause-row c o rises is go =
    let stack = c.args.stack.now in
    let at = c.in-Some.under in
    let v = value_of (slot_at stack at) in
    block_popped o go (values_of c.args.depth stack) ∙ c.in-Some.ensures.row o (Linked o go) ∙ unlinked o go v (values_of at stack) (sym c.link_in.ensures ∙ c.in_default-link_in.is)

pub returns-in_default-located-clause-row : goal.returns-in_default-located-clause-row
returns-in_default-located-clause-row c o rises is go =
    let stack = c.args.stack.now in
    let at = c.in-Some.under in
    let b = c.in-Some-link_in.block in
    let v = value_of (slot_at stack at) in
    block_popped o go (values_of c.args.depth stack) ∙ c.in-Some.ensures.row o (Linked o go)
    ∙ linked_nowhere o go v (values_of at stack) b (sym c.link_in.ensures ∙ c.in-Some-link_in.is) (located_nowhere c.args.simulations.now o.simulations is b c.located.result (c.located.ensures.is rises) c.in_default-located.is)

pub returns-clause-row : goal.returns-clause-row
returns-clause-row c o rises is s there go =
    let stack = c.args.stack.now in
    let at = c.in-Some.under in
    let b = c.in-Some-link_in.block in
    let v = value_of (slot_at stack at) in
    let place = c.in-Some-located.place in
    block_popped o go (values_of c.args.depth stack) ∙ c.in-Some.ensures.row o (Linked o go)
    ∙ linked_there o go v (values_of at stack) b (sym c.link_in.ensures ∙ c.in-Some-link_in.is) place (simulation_of s) (located_there c.args.simulations.now o.simulations is b c.located.result (c.located.ensures.is rises) place s c.in-Some-located.is there)

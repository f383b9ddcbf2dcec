use Rattle.object_machine.specs.Standing.{Obeys}
use Rattle.object_machine.proofs.NameRows.{plain_name_row}
use Rattle.object_machine.proofs.names.plain_standard.Goals as goal

pub returns-clause-row : goal.returns-clause-row
unfolding Obeys
returns-clause-row c l line below now before o m s =
    let p = c.args.storage.now in
    let done = c.perform_plain-performed in
    let settled = c.settle_performed in
    plain_name_row l line p settled.new.storage below before now c.args.regs.now settled.new.regs c.args.stack.now done.new.stack o m c.args.name s c.requires.fits
    done.ensures.long (done.ensures.leads p.frames.items m s.top.slots) (done.ensures.leads_arrays p.arrays.regions o.arrays s.top.arrays_lead)
    c.requires.numbers done.result settled.result _ done.ensures.unmoved (done.ensures.row l.storage _) settled.ensures.settled

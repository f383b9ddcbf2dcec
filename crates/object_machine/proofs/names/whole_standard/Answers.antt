use Rattle.std.proofs.Common.{◌∙◌, ◌≤◌, length, sym, subst}
use Rattle.object_machine.specs.Standing.{Obeys}
use Rattle.object_machine.proofs.Going.{along, none}
use Rattle.object_machine.proofs.NameRows.{performed_row, unready_row}
use Rattle.object_machine.proofs.names.whole_standard.Goals as goal

pub returns-in_default-clause-row : goal.returns-in_default-clause-row
unfolding Obeys
returns-in_default-clause-row c line below now before o m s =
    let l = c.args.limits.now in
    let p = c.args.storage.now in
    let unready = c.in_default.ensures.read o m now.source s.stores.frames s.stores.arrays s.stores.world.image s.top.slots s.top.arrays_lead in
    along l line p below before now _ _ _ _ _ (unready_row l line c.args.name o m c.args.regs.now c.args.stack.now c.ready.new.stack below c.requires.fits unready) (none l line p below before now _ c.args.regs.now _ c.args.stack.now o m s)

pub returns-clause-row : goal.returns-clause-row
unfolding Obeys
returns-clause-row c line below now before o m s =
    let p = c.args.storage.now in
    let done = c.perform_whole-performed in
    let settled = c.settle_performed in
    let read = c.in-Some.ensures in
    performed_row c.args.limits.now line p settled.new.storage below before now now c.args.regs.now settled.new.regs c.args.stack.now c.ready.new.stack done.new.stack o m c.args.name c.from-budget.result done.new.texts p.image.input p.image.output done.new.words s
    (sym c.from-budget.ensures) (done.ensures.long ∙ read.long) (done.ensures.leads p.frames.items m (read.leads m s.top.slots)) (done.ensures.leads_arrays p.arrays.regions o.arrays (read.leads_arrays o.arrays s.top.arrays_lead))
    c.in-Some.address c.requires.fits read.long (read.read o m now.source s.stores.frames s.stores.arrays s.stores.world.image s.top.slots s.top.arrays_lead) done.result settled.result
    (done.ensures.row p.image.input now.source p.image.output now.sink) settled.ensures.settled

pub returns-clause-fits : goal.returns-clause-fits
returns-clause-fits c =
    c.settle_performed.ensures.fits (length c.perform_whole-performed.new.stack)
    (subst (λ n. c.args.regs.now.depth ≤ n) (sym (c.perform_whole-performed.ensures.long ∙ c.in-Some.ensures.long)) c.requires.fits) c.perform_whole-performed.ensures.within

pub returns-clause-valid : goal.returns-clause-valid
returns-clause-valid c =
    let keeps = c.perform_whole-performed.ensures.images in
    c.settle_performed.ensures.valid (record { input = keeps _ c.requires.images.input; output = keeps _ c.requires.images.output })

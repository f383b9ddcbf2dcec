use Rattle.std.proofs.Common.{rules, ◌≡◌, ◌≤◌, ◌<◌, ◌-◌, ◌∙◌, length, ap, refl, sym, subst, of_z, to_z, w64}
use Rattle.std.specs.Prelude.{Some, Err}
use Rattle.sim_values.specs.Plain.{Text}
use Rattle.sim_values.specs.Standard.{operands_of, row_of}
use Rattle.sim_code.specs.Machine.{operand}
use Rattle.sim_code.specs.Rows.{standard_of}
use Rattle.frame_arena.specs.Slots.{value_of}
use Rattle.frame_arena.specs.Stacks.{slot_at}
use Rattle.standard_calls.specs.declared.manner.Manner.TheVariants as manner
use Rattle.object_machine.specs.Operands.{IsNoTextIn}
use Rattle.object_machine.specs.Settled.{Settles}
use Rattle.object_machine.specs.Standing.{Leaves, Obeys}
use Rattle.object_machine.proofs.Going.{along, none}
use Rattle.object_machine.proofs.NameRows.{done_apart, few_row, for_name, not_ports, scan_name_row, unseen_row}
use Rattle.object_machine.proofs.names.quiet_standard.Goals as goal

pub returns-in-Plain-clause-row : goal.returns-in-Plain-clause-row
returns-in-Plain-clause-row c code line below now =
    let e : to_z w64 (of_z w64 c.args.operand) ≡ c.args.operand = search rules in
    for_name _ code c.args.limits.now line c.args.operand c.in-Some.name (c.in-Some.ensures ∙ ap standard_of e) (done_apart c.in-Some.name (c.in-Plain.ensures.runs (not_ports manner.Plain tt))) _ _ _ _ _ _ below now (c.plain_standard.ensures.row c.args.limits.now line below now)

pub returns-then-depth-count-clause-row : goal.returns-then-depth-count-clause-row
unfolding Obeys
returns-then-depth-count-clause-row c code line below now =
    let e : to_z w64 (of_z w64 c.args.operand) ≡ c.args.operand = search rules in
    let l = c.args.limits.now in
    let p = c.args.storage.now in
    let r = c.args.regs.now in
    for_name _ code l line c.args.operand c.in-Some.name (c.in-Some.ensures ∙ ap standard_of e) (done_apart c.in-Some.name (c.in-Scan.ensures.runs (not_ports manner.Scan tt))) _ _ _ _ _ _ below now
    (λ before o m s.
    along l line p below before now _ _ _ _ _ (few_row l line c.in-Some.name o m r c.args.stack.now below c.requires.fits (subst (λ n. r.depth < n) c.operand_count-count.ensures.count c.if-depth-count.true))
    (none l line p below before now _ r _ c.args.stack.now o m s))

pub returns-in-Ok-clause-fits : goal.returns-in-Ok-clause-fits
returns-in-Ok-clause-fits c =
    c.settle_scan.ensures.fits (length c.perform_scan-performed.new.stack)
    (subst (λ n. c.args.regs.now.depth ≤ n) (sym c.perform_scan-performed.ensures.long) c.requires.fits) c.perform_scan-performed.ensures.within

pub returns-in-Ok-clause-row : goal.returns-in-Ok-clause-row
unfolding Obeys
returns-in-Ok-clause-row c code line below now =
    let e : to_z w64 (of_z w64 c.args.operand) ≡ c.args.operand = search rules in
    let l = c.args.limits.now in
    let p = c.args.storage.now in
    let r = c.args.regs.now in
    let stack = c.args.stack.now in
    let count = c.operand_count-count.ensures.count in
    let done = c.perform_scan-performed in
    let settled = c.settle_scan in
    let seen = c.in-Ok.ensures.text.1 in
    for_name _ code l line c.args.operand c.in-Some.name (c.in-Some.ensures ∙ ap standard_of e) (done_apart c.in-Some.name (c.in-Scan.ensures.runs (not_ports manner.Scan tt))) _ _ _ _ _ _ below now
    (λ before o m s.
    let is : operand o m (value_of (slot_at stack (r.depth - length (operands_of (row_of c.in-Some.name).function)))) ≡ Some (Text c.in-Ok.text) =
    subst (λ n. operand o m (value_of (slot_at stack (r.depth - n))) ≡ Some (Text c.in-Ok.text)) count
    (c.in-Ok.ensures.is o m now.source s.stores.frames s.stores.arrays s.stores.world.image (s.top.slots _) (s.top.arrays_lead _)) in
    let settles = subst (λ n. Settles done.result settled.result (slot_at stack (r.depth - n)) (record p { texts = done.new.texts }) settled.new.storage r settled.new.regs) count settled.ensures.settled in
    scan_name_row l line p settled.new.storage below before now r settled.new.regs stack done.new.stack o m c.in-Some.name s c.requires.fits
    done.ensures.long (done.ensures.leads p.frames.items m s.top.slots) (done.ensures.leads_arrays p.arrays.regions o.arrays s.top.arrays_lead)
    done.new.texts seen.0 c.in-Ok.text (c.in-Scan.ensures.scan refl) (subst (λ n. n ≤ r.depth) count c.if-depth-count.false) seen.1 is done.result settled.result
    (done.ensures.row l.storage p.words p.image.input now.source p.image.output now.sink seen.0 seen.1) settles)

pub returns-in-Err-NoRule-clause-row : goal.returns-in-Err-NoRule-clause-row
unfolding Obeys
returns-in-Err-NoRule-clause-row c code line below now =
    let e : to_z w64 (of_z w64 c.args.operand) ≡ c.args.operand = search rules in
    let l = c.args.limits.now in
    let p = c.args.storage.now in
    let r = c.args.regs.now in
    let count = c.operand_count-count.ensures.count in
    for_name _ code l line c.args.operand c.in-Some.name (c.in-Some.ensures ∙ ap standard_of e) (done_apart c.in-Some.name (c.in-Scan.ensures.runs (not_ports manner.Scan tt))) _ _ _ _ _ _ below now
    (λ before o m s.
    let no = subst (λ n. IsNoTextIn (operand o m (value_of (slot_at c.args.stack.now (r.depth - n))))) count
    (c.in-Err-NoRule.ensures.other (ap Err c.in-Err-NoRule.field-0-is) o m now.source s.stores.frames s.stores.arrays s.stores.world.image (s.top.slots _) (s.top.arrays_lead _)) in
    along l line p below before now _ _ _ _ _
    (unseen_row l line c.in-Some.name o m r c.args.stack.now below c.requires.fits (c.in-Scan.ensures.scan refl) (subst (λ n. n ≤ r.depth) count c.if-depth-count.false) no)
    (none l line p below before now _ r _ c.args.stack.now o m s))

pub returns-in-Err-Memory-clause-row : goal.returns-in-Err-Memory-clause-row
unfolding Obeys Leaves
returns-in-Err-Memory-clause-row c code line below now before o m s = tt

pub returns-in-Whole-clause-row : goal.returns-in-Whole-clause-row
returns-in-Whole-clause-row c code line below now =
    let e : to_z w64 (of_z w64 c.args.operand) ≡ c.args.operand = search rules in
    for_name _ code c.args.limits.now line c.args.operand c.in-Some.name (c.in-Some.ensures ∙ ap standard_of e) (done_apart c.in-Some.name (c.in-Whole.ensures.runs (not_ports manner.Whole tt))) _ _ _ _ _ _ below now (c.whole_apart.ensures.row line below now)

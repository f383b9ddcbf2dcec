use Rattle.std.proofs.Common.{rules, ◌≡◌, ◌∙◌, ◌≤◌, length, ap, sym, subst, of_z, to_z, w64}
use Rattle.sim_code.specs.Rows.{standard_of}
use Rattle.sim_code.specs.Sets.{is_set_name}
use Rattle.object_machine.specs.declared.machine.Flow.TheVariants as flow
use Rattle.object_machine.specs.Standing.{Leaves, Obeys, activation_at, below_of, outside}
use Rattle.object_machine.proofs.Going.{along, chosen, none}
use Rattle.object_machine.proofs.Having.{having_none, having_some}
use Rattle.object_machine.proofs.NameRows.{apart_row, flow_ends, input_ends, name_still, performed_row, read_row, unready_row}
use Rattle.object_machine.proofs.Rowless.{without_row}
use Rattle.object_machine.proofs.ScheduledNames.{process_chosen}
use Rattle.object_machine.proofs.SetSteps.{quiet_flow, quiet_input}
use Rattle.object_machine.proofs.Taking.{name_takes}
use Rattle.object_machine.proofs.Whole.{still_same}
use Rattle.object_machine.proofs.names.standard.Goals as goal

pub returns-in_default-clause-row : goal.returns-in_default-clause-row
unfolding Obeys
returns-in_default-clause-row g c b eb =
    let w = g.O.Sink.written c.args.out.now in
    let e : to_z w64 (of_z w64 c.args.operand) ≡ c.args.operand = search rules in (
      b,
      eb,
      (
        still_same flow.NoRule w,
        λ code line below before o m s.
            along c.args.limits.now line c.args.storage.now below before (outside w b) _ _ _ _ _ (having_none (standard_of c.args.operand) o _ (c.in_default.ensures ∙ ap standard_of e))
            (none c.args.limits.now line c.args.storage.now below before (outside w b) _ c.args.regs.now _ c.args.stack.now o m s),
      ),
    )

pub returns-in_default-manner_of-clause-row : goal.returns-in_default-manner_of-clause-row
unfolding Obeys Leaves
returns-in_default-manner_of-clause-row g c b eb = (b, eb, (still_same flow.Memory (g.O.Sink.written c.args.out.now), λ code line below before o m s. tt))

pub returns-then-not-has_row-clause-row : goal.returns-then-not-has_row-clause-row
unfolding Obeys
returns-then-not-has_row-clause-row g c b eb =
    let w = g.O.Sink.written c.args.out.now in
    let e : to_z w64 (of_z w64 c.args.operand) ≡ c.args.operand = search rules in (
      b,
      eb,
      (
        still_same flow.NoRule w,
        λ code line below before o m s.
            along c.args.limits.now line c.args.storage.now below before (outside w b) _ _ _ _ _
            (having_some (standard_of c.args.operand) c.in-Some.name o _ (c.in-Some.ensures ∙ ap standard_of e) ∙ without_row code c.args.limits.now o m (activation_at c.args.regs.now c.args.stack.now) (below_of below) line c.in-Some.name (sym c.if-not-has_row.ensures))
            (none c.args.limits.now line c.args.storage.now below before (outside w b) _ c.args.regs.now _ c.args.stack.now o m s),
      ),
    )

pub returns-in_default-ready-clause-row : goal.returns-in_default-ready-clause-row
unfolding Obeys
returns-in_default-ready-clause-row g c b eb =
    let w = g.O.Sink.written c.args.out.now in
    let e : to_z w64 (of_z w64 c.args.operand) ≡ c.args.operand = search rules in (
      b,
      eb,
      (
        still_same flow.NoRule w,
        λ code line below before o m s.
            let unready = c.in_default-ready.ensures.read o m b s.stores.frames s.stores.arrays s.stores.world.image s.top.slots s.top.arrays_lead in
            along c.args.limits.now line c.args.storage.now below before (outside w b) _ _ _ _ _
            (having_some (standard_of c.args.operand) c.in-Some.name o _ (c.in-Some.ensures ∙ ap standard_of e) ∙ apart_row code c.args.limits.now line c.in-Some.name o m (activation_at c.args.regs.now c.args.stack.now) (below_of below) (record { sets = sym c.is_set_name.ensures ∙ c.if-is_set_name.false; processes = sym c.is_process_name.ensures ∙ c.if-is_process_name.false; blocks = sym c.is_simulation_name.ensures ∙ c.if-is_simulation_name.false }) ∙ unready_row c.args.limits.now line c.in-Some.name o m c.args.regs.now c.args.stack.now c.ready.new.stack below c.requires.fits unready)
            (none c.args.limits.now line c.args.storage.now below before (outside w b) _ c.args.regs.now _ c.args.stack.now o m s),
      ),
    )

pub returns-clause-row : goal.returns-clause-row
unfolding Obeys
returns-clause-row g c b eb =
    let e : to_z w64 (of_z w64 c.args.operand) ≡ c.args.operand = search rules in
    let p = c.args.storage.now in
    let l = c.args.limits.now in
    let done = c.perform-performed in
    let settled = c.settle_performed in
    let read = c.in-Some-ready.ensures in
    let now2 = done.ensures.row b eb in
    let before_it = outside (g.O.Sink.written c.args.out.now) b in
    let behind_it = outside (g.O.Sink.written done.new.out) now2.0 in (
      now2.0,
      now2.1,
      (
        name_still c.in-Some-ready.address _ _ _ _ c.from-budget.result c.in-Some.name _ _ _ _ done.result settled.result settled.ensures.settled now2.2 done.ensures.still,
        λ code line below before o m s.
            along l line settled.new.storage below before behind_it _ _ _ _ _ (having_some (standard_of c.args.operand) c.in-Some.name o _ (c.in-Some.ensures ∙ ap standard_of e) ∙ apart_row code l line c.in-Some.name o m (activation_at c.args.regs.now c.args.stack.now) (below_of below) (record { sets = sym c.is_set_name.ensures ∙ c.if-is_set_name.false; processes = sym c.is_process_name.ensures ∙ c.if-is_process_name.false; blocks = sym c.is_simulation_name.ensures ∙ c.if-is_simulation_name.false }))
            (performed_row l line p settled.new.storage below before before_it behind_it c.args.regs.now settled.new.regs c.args.stack.now c.ready.new.stack done.new.stack o m c.in-Some.name c.from-budget.result done.new.texts done.new.sysin done.new.image done.new.words s
            (sym c.from-budget.ensures) (done.ensures.long ∙ read.long) (done.ensures.leads p.frames.items m (read.leads m s.top.slots)) (done.ensures.leads_arrays p.arrays.regions o.arrays (read.leads_arrays o.arrays s.top.arrays_lead))
            c.in-Some-ready.address c.requires.fits read.long (read.read o m b s.stores.frames s.stores.arrays s.stores.world.image s.top.slots s.top.arrays_lead) done.result settled.result now2.2 settled.ensures.settled),
      ),
    )

pub returns-clause-ends : goal.returns-clause-ends
returns-clause-ends g c =
    flow_ends c.in-Some-ready.address _ _ _ _ g.O.Sink.written g.O.Sink.faults c.args.out.now c.perform-performed.new.out (g.I.Source.faults c.args.input.now) (g.I.Source.faults c.perform-performed.new.input) c.perform-performed.result c.settle_performed.result
    c.settle_performed.ensures.settled c.perform-performed.ensures.stops c.perform-performed.ensures.faults

pub returns-clause-read : goal.returns-clause-read
returns-clause-read g c =
    input_ends c.in-Some-ready.address _ _ _ _ (g.O.Sink.faults c.args.out.now) (g.O.Sink.faults c.perform-performed.new.out) (g.I.Source.faults c.args.input.now) (g.I.Source.faults c.perform-performed.new.input) c.perform-performed.result c.settle_performed.result
    c.settle_performed.ensures.settled c.perform-performed.ensures.faults

pub returns-clause-fits : goal.returns-clause-fits
returns-clause-fits g c =
    c.settle_performed.ensures.fits (length c.perform-performed.new.stack)
    (subst (λ n. c.args.regs.now.depth ≤ n) (sym (c.perform-performed.ensures.long ∙ c.in-Some-ready.ensures.long)) c.requires.fits) c.perform-performed.ensures.within

pub returns-clause-valid : goal.returns-clause-valid
returns-clause-valid g c = c.settle_performed.ensures.valid (record { input = c.perform-performed.ensures.valid_in; output = c.perform-performed.ensures.valid })

pub returns-clause-takes : goal.returns-clause-takes
returns-clause-takes g c b eb code line below =
    let e : to_z w64 (of_z w64 c.args.operand) ≡ c.args.operand = search rules in
    let r = c.args.regs.now in
    let stack = c.args.stack.now in
    let new = c.ready.new.stack in
    let read = c.in-Some-ready.ensures in
    name_takes code c.args.limits.now line c.args.storage.now r stack new below (outside (g.O.Sink.written c.args.out.now) b) c.in-Some.name c.args.input.now c.perform-performed.new.input c.from-budget.result c.args.operand (sym (c.in-Some.ensures ∙ ap standard_of e)) (record { sets = sym c.is_set_name.ensures ∙ c.if-is_set_name.false; processes = sym c.is_process_name.ensures ∙ c.if-is_process_name.false; blocks = sym c.is_simulation_name.ensures ∙ c.if-is_simulation_name.false }) (sym c.from-budget.ensures)
    (c.perform-performed.ensures.takes b eb)
    (λ before o m s.
    let is = read.read o m b s.stores.frames s.stores.arrays s.stores.world.image s.top.slots s.top.arrays_lead in
    read_row c.args.limits.now line c.in-Some.name o m r stack new below is.0 c.requires.fits read.long is.2)

pub returns-then-is_set_name-clause-row : goal.returns-then-is_set_name-clause-row
unfolding Obeys
returns-then-is_set_name-clause-row g c b eb =
    let w = g.O.Sink.written c.args.out.now in
    let e : to_z w64 (of_z w64 c.args.operand) ≡ c.args.operand = search rules in
    let l = c.args.limits.now in
    let sets = c.set_standard in (
      b,
      eb,
      (
        still_same sets.result w,
        λ code line below before o m s.
            along l line sets.new.storage below before (outside w b) _ _ _ _ _
            (having_some (standard_of c.args.operand) c.in-Some.name o _ (c.in-Some.ensures ∙ ap standard_of e) ∙ chosen (is_set_name c.in-Some.name) _ _ (sym c.is_set_name.ensures ∙ c.if-is_set_name.true))
            (sets.ensures.row l line below (outside w b) before o m s),
      ),
    )

pub returns-then-is_process_name-clause-row : goal.returns-then-is_process_name-clause-row
unfolding Obeys
returns-then-is_process_name-clause-row g c b eb =
    let w = g.O.Sink.written c.args.out.now in
    let e : to_z w64 (of_z w64 c.args.operand) ≡ c.args.operand = search rules in
    let l = c.args.limits.now in
    let told = c.process_standard in
    let p = c.args.storage.now in (
      b,
      eb,
      (
        still_same told.result w,
        λ code line below before o m s.
            along l line p below before (outside w b) _ _ _ _ _
            (having_some (standard_of c.args.operand) c.in-Some.name o _ (c.in-Some.ensures ∙ ap standard_of e) ∙ process_chosen code l line c.in-Some.name o m (activation_at c.args.regs.now c.args.stack.now) (below_of below) (sym c.is_process_name.ensures ∙ c.if-is_process_name.true))
            (told.ensures.row l line below (outside w b) before o m s),
      ),
    )

pub returns-then-is_process_name-clause-ends : goal.returns-then-is_process_name-clause-ends
returns-then-is_process_name-clause-ends g c = quiet_flow g.O.Sink.written g.O.Sink.faults c.args.out.now c.process_standard.result c.process_standard.ensures.quiet

pub returns-then-is_process_name-clause-read : goal.returns-then-is_process_name-clause-read
returns-then-is_process_name-clause-read g c = quiet_input (g.I.Source.faults c.args.input.now) c.process_standard.result c.process_standard.ensures.quiet

pub returns-then-is_simulation_name-clause-row : goal.returns-then-is_simulation_name-clause-row
unfolding Obeys Leaves
returns-then-is_simulation_name-clause-row g c b eb = (b, eb, (still_same flow.Memory (g.O.Sink.written c.args.out.now), λ code line below before o m s. tt))

pub returns-then-is_set_name-clause-ends : goal.returns-then-is_set_name-clause-ends
returns-then-is_set_name-clause-ends g c = quiet_flow g.O.Sink.written g.O.Sink.faults c.args.out.now c.set_standard.result c.set_standard.ensures.quiet

pub returns-then-is_set_name-clause-read : goal.returns-then-is_set_name-clause-read
returns-then-is_set_name-clause-read g c = quiet_input (g.I.Source.faults c.args.input.now) c.set_standard.result c.set_standard.ensures.quiet

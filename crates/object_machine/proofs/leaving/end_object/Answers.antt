use Rattle.std.proofs.Common.{◌+◌, ℕ, sym, subst, refl, arith}
use Rattle.std.specs.Prelude.{slice_get}
use Rattle.sim_code.specs.Outcome.{World}
use Rattle.frame_arena.specs.declared.frames.Component.TheVariants as component
use Rattle.frame_arena.specs.Frames.{Has, StandsAs}
use Rattle.object_machine.specs.declared.machine.Storage.{Storage}
use Rattle.object_machine.specs.declared.machine.Flow.TheVariants as flow
use Rattle.object_machine.specs.Standing.{below_of}
use Rattle.object_machine.proofs.Going.{no_rule_in, stands_tick, tick_off, tick_on}
use Rattle.object_machine.proofs.Moving.{stands_so}
use Rattle.object_machine.proofs.ObjectEnds.{not_ended}
use Rattle.object_machine.proofs.leaving.end_object.Goals as goal

pub returns-then-storage-limits-clause-row : goal.returns-then-storage-limits-clause-row
returns-then-storage-limits-clause-row c line before now o m s =
    tick_off c.args.limits.now line c.args.storage.now c.args.below.now.items before now c.args.top.now.registers c.args.top.now.stack.items o m _ s (omega (arith, c.if-storage-limits.true))

pub returns-in-Attached-clause-row : goal.returns-in-Attached-clause-row
returns-in-Attached-clause-row c line before now o m s =
    let l = c.args.limits.now in
    let p = c.args.storage.now in
    let t = c.args.top.now in
    let j : ℕ = t.registers.home.stamp in
    let below = c.args.below.now.items in
    let o1 : World = record o { ticks = o.ticks + 1 } in
    let s1 = stands_tick l line p below before now t.registers t.stack.items o m s in
    let has : Has c.deref.result.now c.args.place j = subst (λ f. Has f c.args.place j) (sym c.deref.ensures.value) c.requires.there in
    let stands = stands_so p.frames.items c.deref.result.now p.cells.items m c.args.place j c.component_at.result component.Attached s.stores.frames has c.deref.ensures.value c.component_at.ensures c.in-Attached.is in
    let d = c.end_attached in
    tick_on l line p below before now d.result d.new.storage d.new.top.registers d.new.top.stack.items d.new.below.items o _ s.stores.world (omega (arith, c.if-storage-limits.false))
    (d.ensures.row l line before now o1 m s1 stands)

pub returns-in-Resumed-clause-row : goal.returns-in-Resumed-clause-row
returns-in-Resumed-clause-row c line before now o m s =
    let l = c.args.limits.now in
    let p = c.args.storage.now in
    let t = c.args.top.now in
    let j : ℕ = t.registers.home.stamp in
    let below = c.args.below.now.items in
    let o1 : World = record o { ticks = o.ticks + 1 } in
    let s1 = stands_tick l line p below before now t.registers t.stack.items o m s in
    let has : Has c.deref.result.now c.args.place j = subst (λ f. Has f c.args.place j) (sym c.deref.ensures.value) c.requires.there in
    let stands = stands_so p.frames.items c.deref.result.now p.cells.items m c.args.place j c.component_at.result component.Resumed s.stores.frames has c.deref.ensures.value c.component_at.ensures c.in-Resumed.is in
    let d = c.end_resumed in
    tick_on l line p below before now d.result d.new.storage d.new.top.registers d.new.top.stack.items d.new.below.items o _ s.stores.world (omega (arith, c.if-storage-limits.false))
    (d.ensures.row l line before now o1 m s1 stands)

pub returns-in_default-clause-row : goal.returns-in_default-clause-row
returns-in_default-clause-row c line before now o m s =
    let l = c.args.limits.now in
    let p = c.args.storage.now in
    let t = c.args.top.now in
    let j : ℕ = t.registers.home.stamp in
    let below = c.args.below.now.items in
    let o1 : World = record o { ticks = o.ticks + 1 } in
    let p1 : Storage = record p { ticks = p.ticks + 1 } in
    let s1 = stands_tick l line p below before now t.registers t.stack.items o m s in
    let has : Has c.deref.result.now c.args.place j = subst (λ f. Has f c.args.place j) (sym c.deref.ensures.value) c.requires.there in
    let stands : StandsAs c.component_at.result (slice_get m.standings j) = stands_so p.frames.items c.deref.result.now p.cells.items m c.args.place j c.component_at.result c.component_at.result s.stores.frames has c.deref.ensures.value c.component_at.ensures refl in
    tick_on l line p below before now flow.NoRule p1 t.registers t.stack.items below o _ s.stores.world (omega (arith, c.if-storage-limits.false))
    (no_rule_in l line p1 p1 below before now t.registers t.registers t.stack.items t.stack.items o1 m s1
    (not_ended o1 m j c.component_at.result c.in_default.not-Attached c.in_default.not-Resumed stands (below_of below)))

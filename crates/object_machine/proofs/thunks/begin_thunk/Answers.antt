use Rattle.std.proofs.Common.{◌≡◌, ◌∷◌, ℕ, List, replicate, refl, sym, subst, ap, ◌∙◌}
use Rattle.std.specs.Prelude.{Some, slice_get}
use Rattle.sim_code.specs.Instances.{is_live}
use Rattle.sim_code.specs.Machine.{Activation, waiting}
use Rattle.sim_code.specs.Outcome.{Going}
use Rattle.sim_code.specs.declared.stage.Stage.TheVariants as stage
use Rattle.frame_arena.specs.Arrays.{AllLeadArrays}
use Rattle.frame_arena.specs.Frames.{AllLead, Holds, Leads}
use Rattle.frame_arena.specs.Slots.{empty_slot}
use Rattle.object_machine.specs.declared.machine.Activation as working
use Rattle.object_machine.specs.declared.machine.Storage.{Storage}
use Rattle.object_machine.specs.Standing.{AtWork, Leaves, activation_at, below_of}
use Rattle.object_machine.specs.Thunking.{OpensThunk}
use Rattle.object_machine.proofs.Called.{live_there, not_true}
use Rattle.object_machine.proofs.Going.{along, no_rule_in}
use Rattle.object_machine.proofs.Jumps.{found_at, none_at}
use Rattle.object_machine.proofs.Opened.{empty_leads, empty_leads_arrays, first_activation}
use Rattle.object_machine.proofs.ThunkRows.{begun, home_gone, no_entry, no_such_thunk, on_top_by, stands_idle}
use Rattle.object_machine.proofs.thunks.begin_thunk.Goals as goal

pub returns-in_default-clause-row : goal.returns-in_default-clause-row
unfolding OpensThunk
returns-in_default-clause-row c code l line before now o m ei et s led =
    let p = c.args.storage.now in
    let t = c.args.top.now in
    let a = activation_at t.registers t.stack.items in
    let j : ℕ = c.args.used.home.stamp in
    let gone = not_true (is_live m j) (c.in_default.ensures.gone m (subst (λ f. Leads f m c.args.used.home) (sym c.deref.ensures.value) led) refl) in
    no_rule_in l line p p c.args.below.now.items before now t.registers t.registers t.stack.items t.stack.items o m s
    (home_gone code o m c.args.used.thunk j (waiting a a.stack ∷ below_of c.args.below.now.items) gone)

pub returns-in_default-get-clause-row : goal.returns-in_default-get-clause-row
unfolding OpensThunk
returns-in_default-get-clause-row c code l line before now o m ei et s led =
    let p = c.args.storage.now in
    let t = c.args.top.now in
    let a = activation_at t.registers t.stack.items in
    let j : ℕ = c.args.used.home.stamp in
    let n : ℕ = c.args.used.thunk in
    let h : Holds c.deref.result.now p.cells.items m = subst (λ f. Holds f p.cells.items m) (sym c.deref.ensures.value) s.stores.frames in
    let live = live_there c.deref.result.now p.cells.items m c.in-Some._place j h c.in-Some.ensures.there in
    no_rule_in l line p p c.args.below.now.items before now t.registers t.registers t.stack.items t.stack.items o m s
    (no_such_thunk code o m n j (waiting a a.stack ∷ below_of c.args.below.now.items) live (ap (λ v. slice_get v n) et ∙ none_at c.args.thunks.now n c.in_default-get.ensures.lookup.3))

pub returns-in_default-get-2-clause-row : goal.returns-in_default-get-2-clause-row
unfolding OpensThunk
returns-in_default-get-2-clause-row c code l line before now o m ei et s led =
    let p = c.args.storage.now in
    let t = c.args.top.now in
    let a = activation_at t.registers t.stack.items in
    let j : ℕ = c.args.used.home.stamp in
    let n : ℕ = c.args.used.thunk in
    let h : Holds c.deref.result.now p.cells.items m = subst (λ f. Holds f p.cells.items m) (sym c.deref.ensures.value) s.stores.frames in
    let live = live_there c.deref.result.now p.cells.items m c.in-Some._place j h c.in-Some.ensures.there in
    let x = c.in-Some-get.thunk.now in
    let there : slice_get code.thunks n ≡ Some x = ap (λ v. slice_get v n) et ∙ found_at c.args.thunks.now n x c.in-Some-get.ensures.lookup.3.0 c.in-Some-get.ensures.lookup.1 in
    no_rule_in l line p p c.args.below.now.items before now t.registers t.registers t.stack.items t.stack.items o m s
    (no_entry code o m n j (waiting a a.stack ∷ below_of c.args.below.now.items) live x there (ap (λ v. slice_get v x.entry) ei ∙ none_at c.args.instrs.now x.entry c.in_default-get-2.ensures.lookup.3))

pub returns-in_default-take_idle-clause-row : goal.returns-in_default-take_idle-clause-row
unfolding OpensThunk Leaves
returns-in_default-take_idle-clause-row c code l line before now o m ei et s led = tt

pub returns-clause-row : goal.returns-clause-row
unfolding OpensThunk
returns-clause-row c code l line before now o m ei et s led =
    let p = c.args.storage.now in
    let t = c.args.top.now in
    let a = activation_at t.registers t.stack.items in
    let under : List Activation = waiting a a.stack ∷ below_of c.args.below.now.items in
    let home = c.args.used.home in
    let n : ℕ = c.args.used.thunk in
    let h : Holds c.deref.result.now p.cells.items m = subst (λ f. Holds f p.cells.items m) (sym c.deref.ensures.value) s.stores.frames in
    let live = live_there c.deref.result.now p.cells.items m c.in-Some._place home.stamp h c.in-Some.ensures.there in
    let x = c.in-Some-get.thunk.now in
    let there : slice_get code.thunks n ≡ Some x = ap (λ v. slice_get v n) et ∙ found_at c.args.thunks.now n x c.in-Some-get.ensures.lookup.3.0 c.in-Some-get.ensures.lookup.1 in
    let y = c.in-Some-get-2._entry.now in
    let entry : slice_get code.instrs x.entry ≡ Some y = ap (λ v. slice_get v x.entry) ei ∙ found_at c.args.instrs.now x.entry y c.in-Some-get-2.ensures.lookup.3.0 c.in-Some-get-2.ensures.lookup.1 in
    let room : c.in-Ok.stack.items ≡ replicate x.room empty_slot = c.in-Ok.ensures.empty in
    let next : working.Activation = record { registers = record { pc = x.entry; home = home; thunk = Some n; depth = 0; stage = stage.NoStage }; stack = c.in-Ok.stack } in
    let p2 : Storage = record p { idle = c.take_idle.new.idle } in
    let works : AtWork p2 o m next.registers next.stack.items = record {
      home = led;
      slots = subst (λ v. AllLead p.frames.items m v) (sym room) (empty_leads x.room p.frames.items m);
      arrays_lead = subst (λ v. AllLeadArrays p.arrays.regions o.arrays v) (sym room) (empty_leads_arrays x.room p.arrays.regions o.arrays);
    } in
    let first = first_activation (Some n) home.stamp home.stamp home.frame x.entry x.room stage.NoStage c.in-Ok.stack.items refl room in
    along l line p2 c.cover.new.below.items before now c.cover.result c.cover.new.top.registers c.cover.new.top.stack.items _ _
    (begun code o m n home.stamp under live x there y entry ∙ ap (λ b. Going o (record { chain = b ∷ under; memory = m })) (sym first))
    (on_top_by l line p2 next t.registers t.stack.items c.args.below.now.items c.cover.new.top c.cover.new.below.items before now o m (stands_idle l p c.take_idle.new.idle t.registers t.stack.items c.args.below.now.items before now o m s) works c.cover.result c.cover.ensures.row)

use Rattle.std.proofs.Common.{rules, to_z, of_z, w64, ◌≡◌, ◌<◌, suc, ◌∙◌, ◌∷◌, List, length, ap, sym, subst, refl, arith}
use Rattle.std.specs.Prelude.{Some, slice_get, true}
use Rattle.std.specs.Vec.{with_items}
use Rattle.std.proofs.lemmas.List.{with_items_is, places}
use Rattle.sim_values.specs.Plain.{Object}
use Rattle.sim_values.specs.Words.{instance_words}
use Rattle.sim_code.specs.Arrays.{handed_over}
use Rattle.sim_code.specs.Events.{entering}
use Rattle.sim_code.specs.Levels.{filled_by, generating, is_process_class, object_made, parameter_cell, words_of_object}
use Rattle.sim_code.specs.Machine.{Machine, Of, Value, arrays_among, first_cells, in_object, pushing, waiting}
use Rattle.sim_code.specs.Outcome.{Run}
use Rattle.frame_arena.specs.Arrays.{AllLeadArrays}
use Rattle.frame_arena.specs.Frames.{AllLead, Holds, Leads}
use Rattle.frame_arena.specs.Slots.{value_of}
use Rattle.frame_arena.specs.Stacks.{values_from, values_of}
use Rattle.object_machine.specs.declared.machine.Flow.TheVariants as flow
use Rattle.object_machine.specs.declared.machine.Registers.{Registers}
use Rattle.object_machine.specs.declared.openings.Beginning.{Beginning}
use Rattle.object_machine.specs.Making.{AllRegisteredBelow, Registered}
use Rattle.object_machine.specs.Entering.{Pays, paid}
use Rattle.object_machine.specs.Calling.{OpensWith, opened_with}
use Rattle.object_machine.specs.Preparing.{ReadyFor, with_levels}
use Rattle.object_machine.specs.Standing.{AllAtWork, AtWork, Leaves, Obeys, activation_at, below_of}
use Rattle.object_machine.proofs.Covered.{covered_by}
use Rattle.object_machine.proofs.Firsts.{pays_off}
use Rattle.object_machine.proofs.Going.{act, along, no_rule_in}
use Rattle.object_machine.proofs.Jumps.{found_at}
use Rattle.object_machine.specs.Covering.{Covers}
use Rattle.object_machine.proofs.Prepared.{ReadyAs, ready_as}
use Rattle.object_machine.proofs.Pushed.{pushes}
use Rattle.object_machine.proofs.ReadOperands.{values_count}
use Rattle.object_machine.proofs.Registrations.{all_registered, made_only, opens_registered, registered, registered_as, registered_at}
use Rattle.object_machine.proofs.Scalars.{off}
use Rattle.object_machine.proofs.Supplied.{handed_members, handed_simulations}
use Rattle.object_machine.proofs.generating.generate.Goals as goal

pub returns-in_default-clause-row : goal.returns-in_default-clause-row
unfolding Obeys
returns-in_default-clause-row c code line now eb ei ec before o m s =
    let l = c.args.limits.now in
    let p = c.args.storage.now in
    let t = c.args.top.now in
    let stack = t.stack.items in
    let under = below_of c.args.below.now.items in
    let h : Holds c.deref.result.now p.cells.items m = subst (λ f. Holds f p.cells.items m) (sym c.deref.ensures.value) s.stores.frames in
    let slots : AllLead c.deref.result.now m c.deref-2.result.now = subst (λ f. AllLead f m c.deref-2.result.now) (sym c.deref.ensures.value) (subst (λ x. AllLead p.frames.items m x) (sym c.deref-2.ensures.value) s.top.slots) in
    let ez : to_z w64 (of_z w64 c.args.class) ≡ c.args.class = search rules in
    let en : to_z w64 (of_z w64 c.args.values) ≡ c.args.values = search rules in
    no_rule_in l line p p c.args.below.now.items before now t.registers t.registers stack stack o m s
    (ap (λ x. generating code l o m (activation_at t.registers x) under line c.args.class c.args.values) (sym c.deref-2.ensures.value)
    ∙ ap (λ z. generating code l o m (activation_at t.registers c.deref-2.result.now) under line z c.args.values) (sym ez)
    ∙ ap (λ z. generating code l o m (activation_at t.registers c.deref-2.result.now) under line (to_z w64 (of_z w64 c.args.class)) z) (sym en)
    ∙ c.in_default.ensures.row code p.cells.items l o m under line eb ei ec h slots)

pub returns-in_default-get-clause-row : goal.returns-in_default-get-clause-row
unfolding Obeys Leaves
returns-in_default-get-clause-row c code line now eb ei ec before o m s = tt

pub returns-in_default-set_up-clause-row : goal.returns-in_default-set_up-clause-row
unfolding Obeys Leaves
returns-in_default-set_up-clause-row c code line now eb ei ec before o m s = tt

pub returns-in_default-make_object-clause-row : goal.returns-in_default-make_object-clause-row
unfolding Obeys Leaves
returns-in_default-make_object-clause-row c code line now eb ei ec before o m s = tt

pub returns-then-home-clause-row : goal.returns-then-home-clause-row
unfolding Obeys Leaves
returns-then-home-clause-row c code line now eb ei ec before o m s = tt

pub returns-in_default-push-clause-row : goal.returns-in_default-push-clause-row
unfolding Obeys Leaves
returns-in_default-push-clause-row c code line now eb ei ec before o m s = tt

pub returns-in_default-flow : goal.returns-in_default-flow
unfolding Obeys
returns-in_default-flow c = record {
  fits = c.requires.fits;
  others = c.requires.others;
  texts = c.pay-flow.ensures.texts;
  image = c.pay-flow.ensures.image;
  row = λ code line now eb ei ec before o m s.
      let l = c.args.limits.now in
      let p = c.args.storage.now in
      let t = c.args.top.now in
      let stack = t.stack.items in
      let under = below_of c.args.below.now.items in
      let ez : to_z w64 (of_z w64 c.args.class) ≡ c.args.class = search rules in
      let en : to_z w64 (of_z w64 c.args.values) ≡ c.args.values = search rules in
      let h : Holds c.deref.result.now p.cells.items m = subst (λ f. Holds f p.cells.items m) (sym c.deref.ensures.value) s.stores.frames in
      let slots : AllLead c.deref.result.now m c.deref-2.result.now = subst (λ f. AllLead f m c.deref-2.result.now) (sym c.deref.ensures.value) (subst (λ x. AllLead p.frames.items m x) (sym c.deref-2.ensures.value) s.top.slots) in
      let x = c.in-Some.ready in
      let b = c.in-Some-get.block.now in
      let ready : ReadyFor x code l o m t.registers stack under line c.args.class c.args.values =
      subst (λ z. ReadyFor x code l o m t.registers stack under line c.args.class z) en (subst (λ z. ReadyFor x code l o m t.registers stack under line z (to_z w64 (of_z w64 c.args.values))) ez
      (subst (λ z. ReadyFor x code l o m t.registers z under line (to_z w64 (of_z w64 c.args.class)) (to_z w64 (of_z w64 c.args.values))) c.deref-2.ensures.value (c.in-Some.ensures.row code p.cells.items l o m under line eb ei ec h slots))) in
      let there : slice_get code.blocks x.block ≡ Some b = ap (λ v. slice_get v x.block) eb ∙ found_at c.args.blocks.now x.block b c.in-Some-get.ensures.lookup.3.0 c.in-Some-get.ensures.lookup.1 in
      let ready : ReadyAs b x code l o m t.registers stack under line c.args.class c.args.values = ready_as b x code l o m t.registers stack under line c.args.class c.args.values ready there in
      let inside : x.actuals.under < length stack = subst (λ z. x.actuals.under < length z) c.deref-2.ensures.value c.in-Some.ensures.under in
      let cells : b.cells ≡ c.block.inside.cells = ap (λ b. b.cells) (sym c.block.view_is) in
      let class : c.block.inside.class ≡ b.class = ap (λ b. b.class) c.block.view_is in
      let w : c.words_instance.result ≡ words_of_object code b = c.words_instance.ensures.words ∙ ap (λ n. instance_words n c.is_process-process.result) (sym cells) ∙ ap (λ q. instance_words b.cells q) (c.is_process-process.ensures.row code ec ∙ ap (λ n. is_process_class code n) class) in
      let pays : Pays c.pay-flow.result l line (words_of_object code b) c.pay-flow.new.storage before now o m = subst (λ n. Pays c.pay-flow.result l line n c.pay-flow.new.storage before now o m) w (c.pay-flow.ensures.row line before now o m s.stores) in
      along l line c.pay-flow.new.storage c.args.below.now.items before now c.pay-flow.result t.registers stack _ _
      (ready.is ∙ pushes (length stack) (values_of x.actuals.under stack) (Of (Object (length m.instances))) o _ (subst (λ n. n < length stack) (sym (values_count x.actuals.under stack (omega (arith, inside)))) inside))
      (pays_off c.pay-flow.result l line (words_of_object code b) c.pay-flow.new.storage before now o m c.in_default-flow.not-On pays t.registers stack c.args.below.now.items _);
}

pub returns-clause-row : goal.returns-clause-row
unfolding Obeys Pays
returns-clause-row c code line now eb ei ec before o m s =
    let l = c.args.limits.now in
    let p = c.args.storage.now in
    let t = c.args.top.now in
    let stack = t.stack.items in
    let under = below_of c.args.below.now.items in
    let ez : to_z w64 (of_z w64 c.args.class) ≡ c.args.class = search rules in
    let en : to_z w64 (of_z w64 c.args.values) ≡ c.args.values = search rules in
    let h : Holds c.deref.result.now p.cells.items m = subst (λ f. Holds f p.cells.items m) (sym c.deref.ensures.value) s.stores.frames in
    let slots : AllLead c.deref.result.now m c.deref-2.result.now = subst (λ f. AllLead f m c.deref-2.result.now) (sym c.deref.ensures.value) (subst (λ x. AllLead p.frames.items m x) (sym c.deref-2.ensures.value) s.top.slots) in
    let x = c.in-Some.ready in
    let b = c.in-Some-get.block.now in
    let ready : ReadyFor x code l o m t.registers stack under line c.args.class c.args.values =
    subst (λ z. ReadyFor x code l o m t.registers stack under line c.args.class z) en (subst (λ z. ReadyFor x code l o m t.registers stack under line z (to_z w64 (of_z w64 c.args.values))) ez
    (subst (λ z. ReadyFor x code l o m t.registers z under line (to_z w64 (of_z w64 c.args.class)) (to_z w64 (of_z w64 c.args.values))) c.deref-2.ensures.value (c.in-Some.ensures.row code p.cells.items l o m under line eb ei ec h slots))) in
    let there : slice_get code.blocks x.block ≡ Some b = ap (λ v. slice_get v x.block) eb ∙ found_at c.args.blocks.now x.block b c.in-Some-get.ensures.lookup.3.0 c.in-Some-get.ensures.lookup.1 in
    let ready : ReadyAs b x code l o m t.registers stack under line c.args.class c.args.values = ready_as b x code l o m t.registers stack under line c.args.class c.args.values ready there in
    let cells : b.cells ≡ c.block.inside.cells = ap (λ b. b.cells) (sym c.block.view_is) in
    let class : c.block.inside.class ≡ b.class = ap (λ b. b.class) c.block.view_is in
    let w : c.words_instance.result ≡ words_of_object code b = c.words_instance.ensures.words ∙ ap (λ n. instance_words n c.is_process-process.result) (sym cells) ∙ ap (λ q. instance_words b.cells q) (c.is_process-process.ensures.row code ec ∙ ap (λ n. is_process_class code n) class) in
    let pays : Pays flow.On l line (words_of_object code b) c.pay-flow.new.storage before now o m = subst (λ n. Pays flow.On l line n c.pay-flow.new.storage before now o m) w (c.in-On.ensures.row line before now o m s.stores) in
    let world = paid o (words_of_object code b) in
    let p1 = c.pay-flow.new.storage in
    let p3 = c.set_up.new.storage in
    let g : Beginning = with_levels x true in
    let same = c.in-On.ensures.same refl in
    let works : AtWork p1 world m t.registers stack = subst (λ v. AtWork v world m t.registers stack) (sym same) s.top in
    let others : AllAtWork p1 world m c.args.below.now.items = subst (λ v. AllAtWork v world m c.args.below.now.items) (sym same) s.others in
    let parent : Leads p.frames.items m x.actuals.parent = subst (λ f. Leads f m x.actuals.parent) c.deref.ensures.value (c.in-Some.ensures.leads p.cells.items m h slots) in
    let leads : Leads p1.frames.items m x.actuals.parent = subst (λ v. Leads v.frames.items m x.actuals.parent) (sym same) parent in
    let next = c.in-Some-set_up.next in
    let vs = values_from stack x.actuals.at x.actuals.count in
    let o2 = handed_over (length m.instances) (arrays_among vs) world in
    let furnished : OpensWith l p1 p3 x.block b g (Some x.actuals.parent) ready.cells next before now world o2 m =
    subst (λ z. OpensWith l p1 p3 x.block b g (Some x.actuals.parent) ready.cells next before now world (handed_over (length m.instances) (arrays_among (values_from z x.actuals.at x.actuals.count)) world) m) c.deref-3.ensures.value
    (c.in-Some-set_up.ensures.row code l before now world m ready.cells t.registers eb ec pays.1 (subst (λ z. AtWork p1 world m t.registers z) (sym c.deref-3.ensures.value) works) leads
    (ap (λ z. filled_by (parameter_cell code b.class) 0 (values_from z x.actuals.at x.actuals.count) (Some (first_cells b))) c.deref-3.ensures.value ∙ ready.filled)) in
    let m2 = opened_with m x.block b g (Some x.actuals.parent) ready.cells in
    let j = x.actuals.parent.stamp in
    let o4 = object_made code b.class j (length m.instances) o2 in
    let stamp : next.registers.home.stamp ≡ length m.instances = ap (λ a. a.home) furnished.top in
    let all : AllRegisteredBelow next.registers.home.stamp o2 = registered_at (length m.instances) next.registers.home.stamp o2 (sym stamp)
    (registered_as (length m.instances) world o2 (handed_members (length m.instances) (arrays_among vs) world) (handed_simulations (length m.instances) (arrays_among vs) world) (all_registered l p1 before now world m pays.1)) in
    let p4 = c.make_object.new.storage in
    let made : Registered p3.frames.items m2 p4 o4 = subst (λ n. Registered p3.frames.items m2 p4 (object_made code b.class j n o2)) stamp (subst (λ q. Registered p3.frames.items m2 p4 (object_made code q j next.registers.home.stamp o2)) class
    (c.in-Ok.ensures.row code p3.frames.items m2 o2 eb ec (registered l p3 before now o2 m2 furnished.stores) all furnished.works.home)) in
    let joined : OpensWith l p1 p4 x.block b g (Some x.actuals.parent) ready.cells next before now world o4 m =
    opens_registered l p1 p3 p4 c.make_object.ensures.same x.block b g (Some x.actuals.parent) ready.cells next before now world o2 o4 (made_only code b.class j (length m.instances) o2) m furnished made in
    let w1 = joined.others t.registers stack works in
    let pushed = c.push.new.stack in
    let items : (with_items t.stack pushed).items ≡ pushed = with_items_is t.stack pushed (search (rules, places)) in
    let r2 : Registers = record t.registers { depth = c.in-Some-push.depth } in
    let deref : c.deref_mut.result.now ≡ stack = c.deref_mut.ensures.value in
    let object : value_of c.object.result ≡ Of (Object (length m.instances)) = c.object.ensures.value ∙ ap (λ n. Of (Object n)) (ap (λ a. a.home) furnished.top) in
    let w2 : AtWork p4 o4 m2 r2 pushed = record {
      home = w1.home;
      slots = c.push.ensures.leads p4.frames.items m2 (subst (λ z. AllLead p4.frames.items m2 z) (sym deref) w1.slots) (c.object.ensures.leads p4.frames.items m2 joined.works.home);
      arrays_lead = c.push.ensures.leads_arrays p4.arrays.regions o4.arrays (subst (λ z. AllLeadArrays p4.arrays.regions o4.arrays z) (sym deref) w1.arrays_lead) (λ names. absurd (off (sym c.object.ensures.no_array ∙ names)));
    } in
    let long : length pushed ≡ length stack = c.push.ensures.long ∙ ap length deref in
    let go : List Value → Run Machine = λ rest. entering l line (words_of_object code b) o (λ p. in_object (object_made code b.class j (length m.instances) (handed_over (length m.instances) (arrays_among vs) p)) m x.block b x.start x.actuals.parent.stamp ready.cells (waiting (activation_at t.registers stack) rest ∷ under)) in
    let row : pushing (length stack) (values_of x.actuals.under stack) (Of (Object (length m.instances))) o go ≡ go (values_of c.in-Some-push.depth pushed) =
    ap (λ v. pushing (length stack) (values_of x.actuals.under stack) v o go) (sym object) ∙ ap (λ z. pushing (length z) (values_of x.actuals.under z) (value_of c.object.result) o go) (sym deref) ∙ c.in-Some-push.ensures.row o go in
    let top = c.cover.new.top in
    let f = c.cover.result in
    along l line p4 c.cover.new.below.items before now f top.registers top.stack.items _ _ (ready.is ∙ row ∙ pays.0 _ ∙ ap (λ n. in_object o4 m x.block b x.start x.actuals.parent.stamp ready.cells (act t.registers.thunk t.registers.home.stamp (suc t.registers.pc) (values_of c.in-Some-push.depth pushed) n t.registers.stage ∷ under)) (sym long))
    (covered_by l line p1 p4 x.block b g (Some x.actuals.parent) ready.cells next r2 pushed c.args.below.now.items top c.cover.new.below.items before now world o4 m joined w2 others f
    (subst (λ z. Covers f next r2 z c.args.below.now.items top c.cover.new.below.items) items c.cover.ensures.row))

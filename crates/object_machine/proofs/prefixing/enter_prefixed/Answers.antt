use Rattle.std.proofs.Common.{rules, to_z, of_z, w64, ◌≡◌, ◌∙◌, length, ap, sym, subst, refl}
use Rattle.std.specs.Prelude.{Some, slice_get, false}
use Rattle.sim_values.specs.Words.{instance_words}
use Rattle.sim_code.specs.Arrays.{handed_over}
use Rattle.sim_code.specs.Levels.{block_begun, entering_prefixed, filled_by, parameter_cell}
use Rattle.sim_code.specs.Machine.{arrays_among, first_cells, words_of_block}
use Rattle.frame_arena.specs.Frames.{Leads}
use Rattle.frame_arena.specs.Stacks.{values_from}
use Rattle.object_machine.specs.declared.machine.Flow.TheVariants as flow
use Rattle.object_machine.specs.declared.machine.Registers.{Registers}
use Rattle.object_machine.specs.declared.openings.Beginning.{Beginning}
use Rattle.object_machine.specs.Making.{AllRegisteredBelow, Registered}
use Rattle.object_machine.specs.Entering.{Pays, paid}
use Rattle.object_machine.specs.Calling.{OpensWith, opened_with}
use Rattle.object_machine.specs.Preparing.{PrefixReady, with_levels}
use Rattle.object_machine.specs.Standing.{AllAtWork, AtWork, Leaves, Obeys, activation_at, below_of}
use Rattle.object_machine.proofs.Covered.{covered_by}
use Rattle.object_machine.proofs.Firsts.{pays_off}
use Rattle.object_machine.proofs.Going.{along, no_rule_in}
use Rattle.object_machine.proofs.Jumps.{found_at}
use Rattle.object_machine.proofs.Registrations.{all_registered, begun_only, opens_registered, registered, registered_as, registered_at}
use Rattle.object_machine.proofs.Supplied.{handed_members, handed_simulations}
use Rattle.object_machine.proofs.prefixing.enter_prefixed.Goals as goal

pub returns-in_default-clause-row : goal.returns-in_default-clause-row
unfolding Obeys
returns-in_default-clause-row c code line now eb ei ec before o m s =
    let l = c.args.limits.now in
    let p = c.args.storage.now in
    let t = c.args.top.now in
    let stack = t.stack.items in
    let under = below_of c.args.below.now.items in
    let ez : to_z w64 (of_z w64 c.args.operand) ≡ c.args.operand = search rules in
    let en : to_z w64 (of_z w64 c.args.values) ≡ c.args.values = search rules in
    no_rule_in l line p p c.args.below.now.items before now t.registers t.registers stack stack o m s
    (ap (λ x. entering_prefixed code l o m (activation_at t.registers x) under line c.args.operand c.args.values) (sym c.deref.ensures.value)
    ∙ ap (λ z. entering_prefixed code l o m (activation_at t.registers c.deref.result.now) under line z c.args.values) (sym ez)
    ∙ ap (λ z. entering_prefixed code l o m (activation_at t.registers c.deref.result.now) under line (to_z w64 (of_z w64 c.args.operand)) z) (sym en)
    ∙ c.in_default.ensures.row code l o m under line eb ei ec)

pub returns-in_default-get-clause-row : goal.returns-in_default-get-clause-row
unfolding Obeys Leaves
returns-in_default-get-clause-row c code line now eb ei ec before o m s = tt

pub returns-in_default-set_up-clause-row : goal.returns-in_default-set_up-clause-row
unfolding Obeys Leaves
returns-in_default-set_up-clause-row c code line now eb ei ec before o m s = tt

pub returns-in_default-flow : goal.returns-in_default-flow
unfolding Obeys
returns-in_default-flow c = record {
  fits = c.requires.fits;
  others = c.requires.others;
  texts = c.pay-flow.ensures.texts;
  image = c.pay-flow.ensures.image;
  row = λ code line now eb ei ec before o m s.
      let l = c.args.limits.now in
      let p = c.args.storage.now in
      let t = c.args.top.now in
      let stack = t.stack.items in
      let under = below_of c.args.below.now.items in
      let ez : to_z w64 (of_z w64 c.args.operand) ≡ c.args.operand = search rules in
      let en : to_z w64 (of_z w64 c.args.values) ≡ c.args.values = search rules in
      let x = c.in-Some.ready in
      let b = c.in-Some-get.block.now in
      let there : slice_get code.blocks x.block ≡ Some b = ap (λ v. slice_get v x.block) eb ∙ found_at c.args.blocks.now x.block b c.in-Some-get.ensures.lookup.3.0 c.in-Some-get.ensures.lookup.1 in
      let ready : PrefixReady b x code l o m t.registers stack under line c.args.operand c.args.values =
      subst (λ z. PrefixReady b x code l o m t.registers stack under line c.args.operand z) en (subst (λ z. PrefixReady b x code l o m t.registers stack under line z (to_z w64 (of_z w64 c.args.values))) ez
      (subst (λ z. PrefixReady b x code l o m t.registers z under line (to_z w64 (of_z w64 c.args.operand)) (to_z w64 (of_z w64 c.args.values))) c.deref.ensures.value (c.in-Some.ensures.row code l o m under line eb ei ec b there))) in
      let cells : b.cells ≡ c.block.inside.cells = ap (λ b. b.cells) (sym c.block.view_is) in
      let w : c.words_instance.result ≡ words_of_block b = c.words_instance.ensures.words ∙ ap (λ n. instance_words n false) (sym cells) in
      let pays : Pays c.pay-flow.result l line (words_of_block b) c.pay-flow.new.storage before now o m = subst (λ n. Pays c.pay-flow.result l line n c.pay-flow.new.storage before now o m) w (c.pay-flow.ensures.row line before now o m s.stores) in
      along l line c.pay-flow.new.storage c.args.below.now.items before now c.pay-flow.result t.registers stack _ _ ready.is
      (pays_off c.pay-flow.result l line (words_of_block b) c.pay-flow.new.storage before now o m c.in_default-flow.not-On pays t.registers stack c.args.below.now.items _);
}

pub returns-in_default-begin_block-clause-row : goal.returns-in_default-begin_block-clause-row
unfolding Obeys Leaves
returns-in_default-begin_block-clause-row c code line now eb ei ec before o m s = tt

pub returns-clause-row : goal.returns-clause-row
unfolding Obeys Pays
returns-clause-row c code line now eb ei ec before o m s =
    let l = c.args.limits.now in
    let p = c.args.storage.now in
    let t = c.args.top.now in
    let stack = t.stack.items in
    let under = below_of c.args.below.now.items in
    let ez : to_z w64 (of_z w64 c.args.operand) ≡ c.args.operand = search rules in
    let en : to_z w64 (of_z w64 c.args.values) ≡ c.args.values = search rules in
    let x = c.in-Some.ready in
    let b = c.in-Some-get.block.now in
    let there : slice_get code.blocks x.block ≡ Some b = ap (λ v. slice_get v x.block) eb ∙ found_at c.args.blocks.now x.block b c.in-Some-get.ensures.lookup.3.0 c.in-Some-get.ensures.lookup.1 in
    let ready : PrefixReady b x code l o m t.registers stack under line c.args.operand c.args.values =
    subst (λ z. PrefixReady b x code l o m t.registers stack under line c.args.operand z) en (subst (λ z. PrefixReady b x code l o m t.registers stack under line z (to_z w64 (of_z w64 c.args.values))) ez
    (subst (λ z. PrefixReady b x code l o m t.registers z under line (to_z w64 (of_z w64 c.args.operand)) (to_z w64 (of_z w64 c.args.values))) c.deref.ensures.value (c.in-Some.ensures.row code l o m under line eb ei ec b there))) in
    let cells : b.cells ≡ c.block.inside.cells = ap (λ b. b.cells) (sym c.block.view_is) in
    let w : c.words_instance.result ≡ words_of_block b = c.words_instance.ensures.words ∙ ap (λ n. instance_words n false) (sym cells) in
    let pays : Pays flow.On l line (words_of_block b) c.pay-flow.new.storage before now o m = subst (λ n. Pays flow.On l line n c.pay-flow.new.storage before now o m) w (c.in-On.ensures.row line before now o m s.stores) in
    let world = paid o (words_of_block b) in
    let p1 = c.pay-flow.new.storage in
    let p3 = c.set_up.new.storage in
    let g : Beginning = with_levels x false in
    let same = c.in-On.ensures.same refl in
    let works : AtWork p1 world m t.registers stack = subst (λ v. AtWork v world m t.registers stack) (sym same) s.top in
    let others : AllAtWork p1 world m c.args.below.now.items = subst (λ v. AllAtWork v world m c.args.below.now.items) (sym same) s.others in
    let home = t.registers.home in
    let encloser : x.actuals.parent ≡ home = c.in-Some.ensures.encloser in
    let leads : Leads p1.frames.items m x.actuals.parent = subst (λ f. Leads p1.frames.items m f) (sym encloser) works.home in
    let next = c.in-Some-set_up.next in
    let vs = values_from stack x.actuals.at x.actuals.count in
    let o2 = handed_over (length m.instances) (arrays_among vs) world in
    let furnished : OpensWith l p1 p3 x.block b g (Some home) ready.cells next before now world o2 m =
    subst (λ f. OpensWith l p1 p3 x.block b g (Some f) ready.cells next before now world o2 m) encloser
    (subst (λ z. OpensWith l p1 p3 x.block b g (Some x.actuals.parent) ready.cells next before now world (handed_over (length m.instances) (arrays_among (values_from z x.actuals.at x.actuals.count)) world) m) c.deref-2.ensures.value
    (c.in-Some-set_up.ensures.row code l before now world m ready.cells t.registers eb ec pays.1 (subst (λ z. AtWork p1 world m t.registers z) (sym c.deref-2.ensures.value) works) leads
    (ap (λ z. filled_by (parameter_cell code b.class) 0 (values_from z x.actuals.at x.actuals.count) (Some (first_cells b))) c.deref-2.ensures.value ∙ ready.filled))) in
    let m2 = opened_with m x.block b g (Some home) ready.cells in
    let class : c.block.inside.class ≡ b.class = ap (λ b. b.class) c.block.view_is in
    let o4 = block_begun code b.class (length m.instances) o2 in
    let stamp : next.registers.home.stamp ≡ length m.instances = ap (λ a. a.home) furnished.top in
    let all : AllRegisteredBelow next.registers.home.stamp o2 = registered_at (length m.instances) next.registers.home.stamp o2 (sym stamp)
    (registered_as (length m.instances) world o2 (handed_members (length m.instances) (arrays_among vs) world) (handed_simulations (length m.instances) (arrays_among vs) world) (all_registered l p1 before now world m pays.1)) in
    let p4 = c.begin_block.new.storage in
    let made : Registered p3.frames.items m2 p4 o4 = subst (λ n. Registered p3.frames.items m2 p4 (block_begun code b.class n o2)) stamp (subst (λ q. Registered p3.frames.items m2 p4 (block_begun code q next.registers.home.stamp o2)) class
    (c.in-Ok.ensures.row code p3.frames.items m2 o2 eb ec (registered l p3 before now o2 m2 furnished.stores) all furnished.works.home)) in
    let begun : OpensWith l p1 p4 x.block b g (Some home) ready.cells next before now world o4 m =
    opens_registered l p1 p3 p4 c.begin_block.ensures.same x.block b g (Some home) ready.cells next before now world o2 o4 (begun_only code b.class (length m.instances) o2) m furnished made in
    let w1 = begun.others t.registers stack works in
    let r2 : Registers = record t.registers { depth = x.actuals.under } in
    let w2 : AtWork p4 o4 m2 r2 stack = record { home = w1.home; slots = w1.slots; arrays_lead = w1.arrays_lead } in
    let top = c.cover.new.top in
    let f = c.cover.result in
    along l line p4 c.cover.new.below.items before now f top.registers top.stack.items _ _ (ready.is ∙ pays.0 _)
    (covered_by l line p1 p4 x.block b g (Some home) ready.cells next r2 stack c.args.below.now.items top c.cover.new.below.items before now world o4 m begun w2 others f c.cover.ensures.row)

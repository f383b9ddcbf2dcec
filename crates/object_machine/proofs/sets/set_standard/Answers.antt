use Rattle.std.proofs.Common.{◌≡◌, ◌∙◌, ℕ, IfSome, List, ap, refl, sym, subst}
use Rattle.std.proofs.lemmas.Option.{IfSome_then}
use Rattle.std.specs.Prelude.{map, Option, Ok, Err}
use Rattle.simset.specs.Instances.{number_of}
use Rattle.sim_values.specs.Plain.{Plain}
use Rattle.sim_code.specs.Machine.{Machine, Value, on, plain}
use Rattle.sim_code.specs.Outcome.{Run, World}
use Rattle.sim_code.specs.Rows.{with_value}
use Rattle.sim_code.specs.Simulations.{named_in}
use Rattle.sim_code.specs.Sets.{performing_set, pop_given, set_effect}
use Rattle.frame_arena.specs.Frames.{SlotLeads}
use Rattle.frame_arena.specs.Stacks.{values_of}
use Rattle.object_machine.specs.declared.machine.Members.{Members}
use Rattle.object_machine.specs.declared.machine.Storage.{Storage}
use Rattle.object_machine.specs.Enrolling.{AllReach, Rises, stamps}
use Rattle.object_machine.specs.Simulating.{blocks_of, simulation_of}
use Rattle.object_machine.specs.SetRows.{GivesSlot, TakesOwner, TakesParameter, value_by}
use Rattle.object_machine.specs.Standing.{Leaves, Obeys, activation_at, below_of}
use Rattle.object_machine.proofs.Going.{along, depth_goes_on}
use Rattle.object_machine.proofs.SetRows.{Effected, Taken, effected, missing_leaves, not_effected, performing_is, stands_sets, value_slot, with_sets}
use Rattle.object_machine.proofs.sets.set_standard.Goals as goal

pub returns-in-Err-clause-row : goal.returns-in-Err-clause-row
unfolding Obeys
returns-in-Err-clause-row c l line below now before o m s =
    let p = c.args.storage.now in
    let r = c.args.regs.now in
    let stack = c.args.stack.now in
    let under = below_of below in
    let n = c.args.name in
    let N = named_in o.simulations in
    let go : World → Option Plain → List Value → Run Machine = λ w v st. on w m (activation_at r stack) (with_value v st) under in
    let objects = c.deref.ensures.value in
    let rises : Rises (stamps c.deref.result.now) = subst (λ z. Rises (stamps z)) (sym objects) s.stores.members.rises in
    let same : o.members.instances ≡ stamps c.deref.result.now = s.stores.members.is.instances ∙ ap stamps (sym objects) in
    let takes = c.takes_linkage.ensures in
    missing_leaves l line p p below before now r r stack stack o m c.in-Err.missing c.flow_of.result _ s c.flow_of.ensures
    (λ e. performing_is n (values_of r.depth stack) o go ∙ ap (λ b. pop_given plain b (values_of r.depth stack) o (Taken n o go)) (sym takes)
    ∙ subst (λ q. TakesParameter (Err q) c.takes_linkage.result o r.depth stack) e (c.in-Err.ensures.row o rises same) (Taken n o go))

pub returns-in-Err-take_owner-clause-row : goal.returns-in-Err-take_owner-clause-row
unfolding Obeys
returns-in-Err-take_owner-clause-row c l line below now before o m s =
    let p = c.args.storage.now in
    let r = c.args.regs.now in
    let stack = c.args.stack.now in
    let under = below_of below in
    let n = c.args.name in
    let N = named_in o.simulations in
    let go : World → Option Plain → List Value → Run Machine = λ w v st. on w m (activation_at r stack) (with_value v st) under in
    let objects = c.deref.ensures.value in
    let rises : Rises (stamps c.deref.result.now) = subst (λ z. Rises (stamps z)) (sym objects) s.stores.members.rises in
    let same : o.members.instances ≡ stamps c.deref.result.now = s.stores.members.is.instances ∙ ap stamps (sym objects) in
    let takes = c.takes_linkage.ensures in
    let given = c.in-Ok.parameter in
    let taken : performing_set plain n (values_of r.depth stack) o go ≡ Taken n o go (number_of given.linkage) (values_of given.under stack) =
    performing_is n (values_of r.depth stack) o go ∙ ap (λ b. pop_given plain b (values_of r.depth stack) o (Taken n o go)) (sym takes) ∙ c.in-Ok.ensures.row o rises same (Taken n o go) in
    let objects2 = c.deref-2.ensures.value in
    let rises2 : Rises (stamps c.deref-2.result.now) = subst (λ z. Rises (stamps z)) (sym objects2) s.stores.members.rises in
    let same2 : o.members.instances ≡ stamps c.deref-2.result.now = s.stores.members.is.instances ∙ ap stamps (sym objects2) in
    let H : ℕ → List Value → Run Machine = λ x rest. Effected N o (λ w v. go w v rest) (set_effect n N o.members x (number_of given.linkage)) in
    missing_leaves l line p p below before now r r stack stack o m c.in-Err-take_owner.missing c.flow_of-in-Err-take_owner.result _ s c.flow_of-in-Err-take_owner.ensures
    (λ e. taken ∙ subst (λ q. TakesOwner (Err q) o given.under stack) e (c.in-Err-take_owner.ensures.row o rises2 same2) H)

pub returns-in-Err-value_in-clause-row : goal.returns-in-Err-value_in-clause-row
unfolding Obeys
returns-in-Err-value_in-clause-row c l line below now before o m s =
    let p = c.args.storage.now in
    let r = c.args.regs.now in
    let stack = c.args.stack.now in
    let under = below_of below in
    let n = c.args.name in
    let N = named_in o.simulations in
    let go : World → Option Plain → List Value → Run Machine = λ w v st. on w m (activation_at r stack) (with_value v st) under in
    let objects = c.deref.ensures.value in
    let rises : Rises (stamps c.deref.result.now) = subst (λ z. Rises (stamps z)) (sym objects) s.stores.members.rises in
    let same : o.members.instances ≡ stamps c.deref.result.now = s.stores.members.is.instances ∙ ap stamps (sym objects) in
    let takes = c.takes_linkage.ensures in
    let given = c.in-Ok.parameter in
    let taken : performing_set plain n (values_of r.depth stack) o go ≡ Taken n o go (number_of given.linkage) (values_of given.under stack) =
    performing_is n (values_of r.depth stack) o go ∙ ap (λ b. pop_given plain b (values_of r.depth stack) o (Taken n o go)) (sym takes) ∙ c.in-Ok.ensures.row o rises same (Taken n o go) in
    let objects2 = c.deref-2.ensures.value in
    let rises2 : Rises (stamps c.deref-2.result.now) = subst (λ z. Rises (stamps z)) (sym objects2) s.stores.members.rises in
    let same2 : o.members.instances ≡ stamps c.deref-2.result.now = s.stores.members.is.instances ∙ ap stamps (sym objects2) in
    let H : ℕ → List Value → Run Machine = λ x rest. Effected N o (λ w v. go w v rest) (set_effect n N o.members x (number_of given.linkage)) in
    let owner = c.in-Ok-take_owner.owner in
    let rest = values_of owner.under stack in
    let owned : performing_set plain n (values_of r.depth stack) o go ≡ H owner.linkage.0 rest = taken ∙ c.in-Ok-take_owner.ensures.row o rises2 same2 H in
    let came = c.perform-came.result in
    let sets = c.perform-came.new.rings.sets in
    let is = c.perform-came.ensures N o.members s.stores.members.is.sets in
    let blocks : map simulation_of c.deref-3.result.now ≡ o.simulations = ap (λ z. map simulation_of z) c.deref-3.ensures.value ∙ sym s.stores.simulations.is in
    let rises3 : Rises (stamps (blocks_of c.deref-3.result.now)) = subst (λ z. Rises (stamps (blocks_of z))) (sym c.deref-3.ensures.value) s.stores.simulations.rises in
    let same3 : o.members.instances ≡ stamps c.deref-4.result.now = s.stores.members.is.instances ∙ ap stamps (sym c.deref-4.ensures.value) in
    missing_leaves l line p _ below before now r r stack stack o m c.in-Err-value_in.missing c.flow_of-in-Err-value_in.result _ s c.flow_of-in-Err-value_in.ensures
    (λ e. owned ∙ not_effected N o (λ w v. go w v rest) came _ sets (subst (λ q. GivesSlot (Err q) came N o.members) e (subst (λ z. GivesSlot (Err c.in-Err-value_in.missing) came (named_in z) o.members) blocks (c.in-Err-value_in.ensures.is o.members rises3 same3))) is)

pub returns-in_default-clause-row : goal.returns-in_default-clause-row
unfolding Obeys Leaves
returns-in_default-clause-row c l line below now before o m s = tt

pub returns-clause-row : goal.returns-clause-row
unfolding Obeys
returns-clause-row c l line below now before o m s =
    let p = c.args.storage.now in
    let r = c.args.regs.now in
    let stack = c.args.stack.now in
    let under = below_of below in
    let n = c.args.name in
    let N = named_in o.simulations in
    let go : World → Option Plain → List Value → Run Machine = λ w v st. on w m (activation_at r stack) (with_value v st) under in
    let objects = c.deref.ensures.value in
    let rises : Rises (stamps c.deref.result.now) = subst (λ z. Rises (stamps z)) (sym objects) s.stores.members.rises in
    let same : o.members.instances ≡ stamps c.deref.result.now = s.stores.members.is.instances ∙ ap stamps (sym objects) in
    let takes = c.takes_linkage.ensures in
    let given = c.in-Ok.parameter in
    let taken : performing_set plain n (values_of r.depth stack) o go ≡ Taken n o go (number_of given.linkage) (values_of given.under stack) =
    performing_is n (values_of r.depth stack) o go ∙ ap (λ b. pop_given plain b (values_of r.depth stack) o (Taken n o go)) (sym takes) ∙ c.in-Ok.ensures.row o rises same (Taken n o go) in
    let objects2 = c.deref-2.ensures.value in
    let rises2 : Rises (stamps c.deref-2.result.now) = subst (λ z. Rises (stamps z)) (sym objects2) s.stores.members.rises in
    let same2 : o.members.instances ≡ stamps c.deref-2.result.now = s.stores.members.is.instances ∙ ap stamps (sym objects2) in
    let H : ℕ → List Value → Run Machine = λ x rest. Effected N o (λ w v. go w v rest) (set_effect n N o.members x (number_of given.linkage)) in
    let owner = c.in-Ok-take_owner.owner in
    let rest = values_of owner.under stack in
    let owned : performing_set plain n (values_of r.depth stack) o go ≡ H owner.linkage.0 rest = taken ∙ c.in-Ok-take_owner.ensures.row o rises2 same2 H in
    let came = c.perform-came.result in
    let sets = c.perform-came.new.rings.sets in
    let is = c.perform-came.ensures N o.members s.stores.members.is.sets in
    let blocks : map simulation_of c.deref-3.result.now ≡ o.simulations = ap (λ z. map simulation_of z) c.deref-3.ensures.value ∙ sym s.stores.simulations.is in
    let rises3 : Rises (stamps (blocks_of c.deref-3.result.now)) = subst (λ z. Rises (stamps (blocks_of z))) (sym c.deref-3.ensures.value) s.stores.simulations.rises in
    let same3 : o.members.instances ≡ stamps c.deref-4.result.now = s.stores.members.is.instances ∙ ap stamps (sym c.deref-4.ensures.value) in
    let value = c.in-Ok-value_in.value in
    let gives : GivesSlot (Ok value) came N o.members = subst (λ z. GivesSlot (Ok value) came (named_in z) o.members) blocks (c.in-Ok-value_in.ensures.is o.members rises3 same3) in
    let k : Members = record p.members { rings = c.perform-came.new.rings } in
    let p2 : Storage = record p { members = k } in
    let o2 = with_sets o sets in
    let K : List Value → Run Machine = λ st. on o2 m (activation_at r stack) st under in
    let reach : AllReach p.frames.items m c.deref-4.result.now = subst (λ z. AllReach p.frames.items m z) (sym c.deref-4.ensures.value) s.stores.members.lead in
    let leads : IfSome value (λ x. SlotLeads p.frames.items m x) = IfSome_then value c.in-Ok-value_in.ensures.leads (λ x f. f p.frames.items m reach) in
    along l line p2 below before now _ _ _ _ _
    (owned ∙ effected N o (λ w v. go w v rest) came _ sets gives.0 is ∙ ap K (value_slot value (value_by came N o.members) rest gives.1) ∙ c.in-Some.ensures.row o K)
    (depth_goes_on l line p2 below before now r _ stack c.put.new.stack o2 m c.in-Some.depth (stands_sets l p r stack below before now o m k s refl) c.put.ensures.long (refl, refl, refl) refl refl
    (c.put.ensures.leads p.frames.items m s.top.slots leads) (c.put.ensures.leads_arrays p.arrays.regions o.arrays s.top.arrays_lead c.in-Ok-value_in.ensures.no_array))

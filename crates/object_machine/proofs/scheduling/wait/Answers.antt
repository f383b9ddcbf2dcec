use Rattle.std.proofs.Common.{◌≡◌, ◌<◌, ◌∷◌, length, sym, subst, refl, ap, ◌∙◌}
use Rattle.std.specs.Prelude.{Err, Ok, Some, slice_get, true}
use Rattle.notices.specs.Scheduling.{passivated}
use Rattle.simset.specs.Instances.{number_of}
use Rattle.sim_values.specs.declared.standard.Standard.TheVariants as name
use Rattle.sim_code.specs.Events.{having, no_rule}
use Rattle.sim_code.specs.Machine.{owner, plain, waiting}
use Rattle.sim_code.specs.Rows.{decided}
use Rattle.sim_code.specs.Scheduling.{deciding}
use Rattle.sim_code.specs.Sets.{linkage_named, pop_given, set_effect}
use Rattle.sim_code.specs.Simulations.{current_process, named_in}
use Rattle.frame_arena.specs.Stacks.{values_of}
use Rattle.object_machine.specs.declared.machine.Members.{Members}
use Rattle.object_machine.specs.declared.machine.Storage.{Storage}
use Rattle.object_machine.specs.declared.sets.Came.TheVariants as came
use Rattle.object_machine.specs.Enrolling.{Rises, stamps}
use Rattle.object_machine.specs.Rescheduling.{FindsLinkage, simulation_row}
use Rattle.object_machine.specs.SetRows.{CameAs, TakesParameter}
use Rattle.object_machine.specs.Simulating.{simulation_of}
use Rattle.object_machine.specs.Standing.{Leaves, Obeys, activation_of, below_of}
use Rattle.object_machine.specs.Telling.{bound}
use Rattle.object_machine.proofs.Going.{along, no_rule_in}
use Rattle.object_machine.proofs.Having.{having_none, having_some}
use Rattle.object_machine.proofs.Jumps.{found_at}
use Rattle.object_machine.proofs.Rescheduled.{decided_leaves}
use Rattle.object_machine.proofs.Schedules.{block_missing, block_taken}
use Rattle.object_machine.proofs.SetRows.{effected, missing_leaves, not_effected, stands_sets, with_sets}
use Rattle.object_machine.proofs.SimulationRows.{Enter_set, Wait_by, Wait_so, wait_row, waits_so}
use Rattle.object_machine.proofs.scheduling.wait.Goals as goal

pub returns-in-Err-clause-row : goal.returns-in-Err-clause-row
unfolding Obeys
returns-in-Err-clause-row c code l line now before o m s =
    let p = c.args.storage.now in
    let t = c.args.top.now in
    let below = c.args.below.now.items in
    let a = activation_of t in
    let under = below_of below in
    let stack = t.stack.items in
    let depth = t.registers.depth in
    let objects = c.deref.ensures.value in
    let rises : Rises (stamps c.deref.result.now) = subst (λ z. Rises (stamps z)) (sym objects) s.stores.members.rises in
    let same : o.members.instances ≡ stamps c.deref.result.now = s.stores.members.is.instances ∙ ap stamps (sym objects) in
    let W = Wait_by code line o m a under in
    missing_leaves l line p p below before now t.registers t.registers stack stack o m c.in-Err.missing c.flow_of.result _ s c.flow_of.ensures
    (λ e. wait_row code line o m a under ∙ subst (λ v. pop_given plain true (values_of depth v) o W ≡ no_rule o) c.deref-2.ensures.value (subst (λ q. TakesParameter (Err q) true o depth c.deref-2.result.now) e (c.in-Err.ensures.row o rises same) W))

pub returns-in_default-clause-row : goal.returns-in_default-clause-row
unfolding Obeys
returns-in_default-clause-row c code l line now before o m s =
    let p = c.args.storage.now in
    let t = c.args.top.now in
    let below = c.args.below.now.items in
    let a = activation_of t in
    let under = below_of below in
    let stack = t.stack.items in
    let depth = t.registers.depth in
    let objects = c.deref.ensures.value in
    let rises : Rises (stamps c.deref.result.now) = subst (λ z. Rises (stamps z)) (sym objects) s.stores.members.rises in
    let same : o.members.instances ≡ stamps c.deref.result.now = s.stores.members.is.instances ∙ ap stamps (sym objects) in
    let given = c.in-Ok.parameter in
    let h = number_of given.linkage in
    let W = Wait_by code line o m a under in
    let taken : simulation_row code line name.Wait o m a under ≡ W h (values_of given.under stack) =
    wait_row code line o m a under ∙ subst (λ v. pop_given plain true (values_of depth v) o W ≡ W h (values_of given.under v)) c.deref-2.ensures.value (c.in-Ok.ensures.row o rises same W) in
    no_rule_in l line p p below before now t.registers t.registers stack stack o m s
    (taken ∙ block_missing p o m s.stores.simulations c.deref-3.result.now c.deref-4.result.now stack given.under c.deref-3.ensures.value c.deref-4.ensures.value (c.in_default.ensures.row o) (Wait_so code line o m a under h))

pub returns-in-Err-current_linkage-clause-row : goal.returns-in-Err-current_linkage-clause-row
unfolding Obeys
returns-in-Err-current_linkage-clause-row c code l line now before o m s =
    let p = c.args.storage.now in
    let t = c.args.top.now in
    let below = c.args.below.now.items in
    let a = activation_of t in
    let under = below_of below in
    let stack = t.stack.items in
    let depth = t.registers.depth in
    let objects = c.deref.ensures.value in
    let rises : Rises (stamps c.deref.result.now) = subst (λ z. Rises (stamps z)) (sym objects) s.stores.members.rises in
    let same : o.members.instances ≡ stamps c.deref.result.now = s.stores.members.is.instances ∙ ap stamps (sym objects) in
    let given = c.in-Ok.parameter in
    let h = number_of given.linkage in
    let W = Wait_by code line o m a under in
    let taken : simulation_row code line name.Wait o m a under ≡ W h (values_of given.under stack) =
    wait_row code line o m a under ∙ subst (λ v. pop_given plain true (values_of depth v) o W ≡ W h (values_of given.under v)) c.deref-2.ensures.value (c.in-Ok.ensures.row o rises same W) in
    let q = c.in-Some.block in
    let y = c.index.result.now in
    let x = simulation_of y in
    let rest = values_of q.under stack in
    let within : q.place < length p.simulations.items = subst (λ v. q.place < length v) c.deref-3.ensures.value c.in-Some.ensures.within in
    let there : slice_get p.simulations.items q.place ≡ Some y = found_at p.simulations.items q.place y within c.index.ensures in
    let objects2 = c.deref-5.ensures.value in
    let rises2 : Rises (stamps c.deref-5.result.now) = subst (λ z. Rises (stamps z)) (sym objects2) s.stores.members.rises in
    let same2 : o.members.instances ≡ stamps c.deref-5.result.now = s.stores.members.is.instances ∙ ap stamps (sym objects2) in
    let current = bound (current_process x) (λ p. linkage_named o.members p) in
    let finds : FindsLinkage c.current_linkage.result current = c.current_linkage.ensures.row o.members rises2 same2 in
    let E = Enter_set code line o m a under h (q.place, x) rest in
    let run : simulation_row code line name.Wait o m a under ≡ having current o E =
    taken ∙ block_taken p o m s.stores.simulations c.deref-3.result.now c.deref-4.result.now stack given.under q c.deref-3.ensures.value c.deref-4.ensures.value (c.in-Some.ensures.row o) y there (Wait_so code line o m a under h)
    ∙ waits_so code line o m a under h y.block.stamp (q.place, x) rest in
    missing_leaves l line p p below before now t.registers t.registers stack stack o m c.in-Err-current_linkage.missing c.flow_of-in-Err-current_linkage.result _ s c.flow_of-in-Err-current_linkage.ensures
    (λ e. run ∙ having_none current o E (sym (subst (λ k. FindsLinkage (Err k) current) e (subst (λ r. FindsLinkage r current) c.in-Err-current_linkage.is finds))))

pub returns-in-NoRule-clause-row : goal.returns-in-NoRule-clause-row
unfolding Obeys
returns-in-NoRule-clause-row c code l line now before o m s =
    let p = c.args.storage.now in
    let t = c.args.top.now in
    let below = c.args.below.now.items in
    let a = activation_of t in
    let under = below_of below in
    let stack = t.stack.items in
    let depth = t.registers.depth in
    let objects = c.deref.ensures.value in
    let rises : Rises (stamps c.deref.result.now) = subst (λ z. Rises (stamps z)) (sym objects) s.stores.members.rises in
    let same : o.members.instances ≡ stamps c.deref.result.now = s.stores.members.is.instances ∙ ap stamps (sym objects) in
    let given = c.in-Ok.parameter in
    let h = number_of given.linkage in
    let W = Wait_by code line o m a under in
    let taken : simulation_row code line name.Wait o m a under ≡ W h (values_of given.under stack) =
    wait_row code line o m a under ∙ subst (λ v. pop_given plain true (values_of depth v) o W ≡ W h (values_of given.under v)) c.deref-2.ensures.value (c.in-Ok.ensures.row o rises same W) in
    let q = c.in-Some.block in
    let y = c.index.result.now in
    let x = simulation_of y in
    let rest = values_of q.under stack in
    let within : q.place < length p.simulations.items = subst (λ v. q.place < length v) c.deref-3.ensures.value c.in-Some.ensures.within in
    let there : slice_get p.simulations.items q.place ≡ Some y = found_at p.simulations.items q.place y within c.index.ensures in
    let objects2 = c.deref-5.ensures.value in
    let rises2 : Rises (stamps c.deref-5.result.now) = subst (λ z. Rises (stamps z)) (sym objects2) s.stores.members.rises in
    let same2 : o.members.instances ≡ stamps c.deref-5.result.now = s.stores.members.is.instances ∙ ap stamps (sym objects2) in
    let current = bound (current_process x) (λ p. linkage_named o.members p) in
    let finds : FindsLinkage c.current_linkage.result current = c.current_linkage.ensures.row o.members rises2 same2 in
    let E = Enter_set code line o m a under h (q.place, x) rest in
    let run : simulation_row code line name.Wait o m a under ≡ having current o E =
    taken ∙ block_taken p o m s.stores.simulations c.deref-3.result.now c.deref-4.result.now stack given.under q c.deref-3.ensures.value c.deref-4.ensures.value (c.in-Some.ensures.row o) y there (Wait_so code line o m a under h)
    ∙ waits_so code line o m a under h y.block.stamp (q.place, x) rest in
    let link = c.in-Ok-current_linkage.link in
    let found : current ≡ Some link.0 = subst (λ r. FindsLinkage r current) c.in-Ok-current_linkage.is finds in
    let naming = named_in o.simulations in
    let effect = set_effect name.Into naming o.members link.0 h in
    let sets = c.put_last.new.rings.sets in
    let came_to : CameAs c.put_last.result naming effect o.members sets = c.put_last.ensures naming o.members s.stores.members.is.sets in
    no_rule_in l line p _ below before now t.registers t.registers stack stack o m s
    (run ∙ having_some current link.0 o E (sym found) ∙ not_effected naming o (λ w v. decided o m a under line w (q.place, x) (Ok (passivated x.notices)) rest) c.put_last.result effect sets c.in-NoRule.is came_to)

pub returns-in_default-put_last : goal.returns-in_default-put_last
unfolding Obeys Leaves
returns-in_default-put_last c = record {
  fits = c.requires.fits;
  others = c.requires.others;
  texts = refl;
  image = refl;
  row = λ code l line now before o m s. tt;
}

pub returns-in_default-passivate_at-clause-row : goal.returns-in_default-passivate_at-clause-row
unfolding Obeys Leaves
returns-in_default-passivate_at-clause-row c code l line now before o m s = tt

pub returns-clause-row : goal.returns-clause-row
unfolding Obeys
returns-clause-row c code l line now before o m s =
    let p = c.args.storage.now in
    let t = c.args.top.now in
    let below = c.args.below.now.items in
    let a = activation_of t in
    let under = below_of below in
    let stack = t.stack.items in
    let depth = t.registers.depth in
    let objects = c.deref.ensures.value in
    let rises : Rises (stamps c.deref.result.now) = subst (λ z. Rises (stamps z)) (sym objects) s.stores.members.rises in
    let same : o.members.instances ≡ stamps c.deref.result.now = s.stores.members.is.instances ∙ ap stamps (sym objects) in
    let given = c.in-Ok.parameter in
    let h = number_of given.linkage in
    let W = Wait_by code line o m a under in
    let taken : simulation_row code line name.Wait o m a under ≡ W h (values_of given.under stack) =
    wait_row code line o m a under ∙ subst (λ v. pop_given plain true (values_of depth v) o W ≡ W h (values_of given.under v)) c.deref-2.ensures.value (c.in-Ok.ensures.row o rises same W) in
    let q = c.in-Some.block in
    let y = c.index.result.now in
    let x = simulation_of y in
    let rest = values_of q.under stack in
    let within : q.place < length p.simulations.items = subst (λ v. q.place < length v) c.deref-3.ensures.value c.in-Some.ensures.within in
    let there : slice_get p.simulations.items q.place ≡ Some y = found_at p.simulations.items q.place y within c.index.ensures in
    let objects2 = c.deref-5.ensures.value in
    let rises2 : Rises (stamps c.deref-5.result.now) = subst (λ z. Rises (stamps z)) (sym objects2) s.stores.members.rises in
    let same2 : o.members.instances ≡ stamps c.deref-5.result.now = s.stores.members.is.instances ∙ ap stamps (sym objects2) in
    let current = bound (current_process x) (λ p. linkage_named o.members p) in
    let finds : FindsLinkage c.current_linkage.result current = c.current_linkage.ensures.row o.members rises2 same2 in
    let E = Enter_set code line o m a under h (q.place, x) rest in
    let run : simulation_row code line name.Wait o m a under ≡ having current o E =
    taken ∙ block_taken p o m s.stores.simulations c.deref-3.result.now c.deref-4.result.now stack given.under q c.deref-3.ensures.value c.deref-4.ensures.value (c.in-Some.ensures.row o) y there (Wait_so code line o m a under h)
    ∙ waits_so code line o m a under h y.block.stamp (q.place, x) rest in
    let link = c.in-Ok-current_linkage.link in
    let found : current ≡ Some link.0 = subst (λ r. FindsLinkage r current) c.in-Ok-current_linkage.is finds in
    let naming = named_in o.simulations in
    let effect = set_effect name.Into naming o.members link.0 h in
    let sets = c.put_last.new.rings.sets in
    let came_to : CameAs c.put_last.result naming effect o.members sets = c.put_last.ensures naming o.members s.stores.members.is.sets in
    let k : Members = record p.members { rings = c.put_last.new.rings } in
    let p1 : Storage = record p { members = k } in
    let o1 = with_sets o sets in
    let one = s.stores.simulations.each q.place y there in
    let answer = c.in-Some-passivate_at.answer in
    let done = c.in-Some-passivate_at.ensures.row y there one.rises in
    let chain = waiting a rest ∷ under in
    let d = c.decide in
    along l line d.new.storage d.new.below.items before now d.result d.new.top.registers d.new.top.stack.items _ _
    (run ∙ having_some current link.0 o E (sym found)
    ∙ effected naming o (λ w v. decided o m a under line w (q.place, x) (Ok (passivated x.notices)) rest) came.Changed effect sets tt (subst (λ r. CameAs r naming effect o.members sets) c.in-Changed.is came_to)
    ∙ ap (λ x. deciding owner line o1 chain m (q.place, x) (Ok (passivated y.sim.notices))) (sym done.end))
    (decided_leaves l line p1 c.passivate_at.new.storage t below before now o1 m (stands_sets l p t.registers stack below before now o m k s refl) q.place y done.before there (Ok (passivated y.sim.notices)) answer done.is d.result d.new.storage d.new.top d.new.below.items chain
    (λ o w x. d.ensures.row l line before now o w m x))

use Rattle.std.proofs.Common.{◌≡◌, ◌<◌, ℕ, [], sym, subst, refl, ap, ◌∙◌}
use Rattle.std.specs.Prelude.{None, slice_get}
use Rattle.sim_chains.specs.Chains.{cut_at}
use Rattle.sim_chains.specs.Components.{NoObject, TerminatedObject}
use Rattle.sim_code.specs.Instances.{system_head}
use Rattle.sim_code.specs.Machine.{owner}
use Rattle.frame_arena.specs.declared.frames.Component.TheVariants as component
use Rattle.frame_arena.specs.Frames.{Has, Holds, IsKeeping, StandsAs, frame_at}
use Rattle.object_machine.specs.Standing.{Leaves, below_of, parked}
use Rattle.object_machine.specs.Transferring.{operating}
use Rattle.object_machine.proofs.Departures.{popped_none}
use Rattle.object_machine.proofs.Moving.{stands_so}
use Rattle.object_machine.proofs.ObjectEnds.{below_is, head_keeps_none, head_not_there, main_left, no_rule_popped}
use Rattle.object_machine.proofs.Transferring.{no_cut}
use Rattle.object_machine.proofs.finishing.end_resumed.Goals as goal

pub returns-in_default-clause-row : goal.returns-in_default-clause-row
unfolding Leaves
returns-in_default-clause-row c l line before now o m s resumed = tt

pub returns-in_default-component_at-clause-row : goal.returns-in_default-component_at-clause-row
returns-in_default-component_at-clause-row c l line before now o m s resumed =
    let p = c.args.storage.now in
    let t = c.args.top.now in
    let below = c.args.below.now.items in
    let place = c.args.place in
    let j : ℕ = c.args.object in
    let head = c.in-Some.head in
    let is : head.stamp ≡ system_head m j = c.in-Some.ensures.head j p.cells.items m (subst (λ f. Has f place j) (sym c.deref.ensures.value) c.requires.there) (subst (λ f. Holds f p.cells.items m) (sym c.deref.ensures.value) s.stores.frames) in
    let there : Has p.frames.items head.frame head.stamp = subst (λ f. Has f head.frame head.stamp) c.deref.ensures.value c.in-Some.ensures.there in
    let stands : StandsAs c.component_at.result (slice_get m.standings head.stamp) = stands_so p.frames.items c.deref-2.result.now p.cells.items m head.frame head.stamp c.component_at.result c.component_at.result s.stores.frames (subst (λ f. Has f head.frame head.stamp) (sym c.deref-2.ensures.value) there) c.deref-2.ensures.value c.component_at.ensures refl in
    no_rule_popped l line p t.registers t.stack.items below below before now o m s t below p _ (head_keeps_none o m j resumed head.stamp is c.component_at.result (below_of below) c.in_default-component_at.not-Waiting stands)

pub returns-in_default-pop-clause-row : goal.returns-in_default-pop-clause-row
returns-in_default-pop-clause-row c l line before now o m s resumed =
    let p = c.args.storage.now in
    let t = c.args.top.now in
    let below = c.args.below.now.items in
    let place = c.args.place in
    let j : ℕ = c.args.object in
    let head = c.in-Some.head in
    let is : head.stamp ≡ system_head m j = c.in-Some.ensures.head j p.cells.items m (subst (λ f. Has f place j) (sym c.deref.ensures.value) c.requires.there) (subst (λ f. Holds f p.cells.items m) (sym c.deref.ensures.value) s.stores.frames) in
    let rest = c.pop.new.self.items in
    let none : below ≡ [] = popped_none below rest c.args.below.now.len c.in_default-pop.ensures.items c.in_default-pop.ensures.cases.0 c.in_default-pop.ensures.rest in
    no_rule_popped l line p t.registers t.stack.items below rest before now o m s t rest p _ (head_not_there o m j resumed head.stamp is (below_of below) (ap (λ b. cut_at owner head.stamp (below_of b)) none))

pub returns-then-not-drop_above-clause-row : goal.returns-then-not-drop_above-clause-row
returns-then-not-drop_above-clause-row c l line before now o m s resumed =
    let p = c.args.storage.now in
    let t = c.args.top.now in
    let below = c.args.below.now.items in
    let place = c.args.place in
    let j : ℕ = c.args.object in
    let head = c.in-Some.head in
    let is : head.stamp ≡ system_head m j = c.in-Some.ensures.head j p.cells.items m (subst (λ f. Has f place j) (sym c.deref.ensures.value) c.requires.there) (subst (λ f. Holds f p.cells.items m) (sym c.deref.ensures.value) s.stores.frames) in
    let rest = c.pop.new.self.items in
    let next = c.in-Some-pop.next in
    no_rule_popped l line p t.registers t.stack.items below rest before now o m s c.drop_above.new.top c.drop_above.new.below.items p _
    (head_not_there o m j resumed head.stamp is (below_of below) (ap (λ w. cut_at owner head.stamp w) (below_is l line p t.registers t.stack.items below rest before now o m s next c.in-Some-pop.ensures.items) ∙ no_cut head.stamp (operating next rest) (c.drop_above.ensures.none c.if-not-drop_above.true)))

pub stand-requires-clause-there : goal.stand-requires-clause-there
stand-requires-clause-there c = (c.take_chain-main.ensures.has c.args.place c.args.object c.requires.there).0

pub returns-clause-row : goal.returns-clause-row
returns-clause-row c l line before now o m s resumed =
    let p = c.args.storage.now in
    let t = c.args.top.now in
    let below = c.args.below.now.items in
    let place = c.args.place in
    let j : ℕ = c.args.object in
    let head = c.in-Some.head in
    let is : head.stamp ≡ system_head m j = c.in-Some.ensures.head j p.cells.items m (subst (λ f. Has f place j) (sym c.deref.ensures.value) c.requires.there) (subst (λ f. Holds f p.cells.items m) (sym c.deref.ensures.value) s.stores.frames) in
    let there : Has p.frames.items head.frame head.stamp = subst (λ f. Has f head.frame head.stamp) c.deref.ensures.value c.in-Some.ensures.there in
    let rest = c.pop.new.self.items in
    let next = c.in-Some-pop.next in
    let waits : IsKeeping p.frames.items head.frame head.stamp component.Waiting = (there, sym (ap (λ f. (frame_at f head.frame).component) c.deref-2.ensures.value) ∙ sym c.component_at.ensures ∙ c.in-Waiting.is, refl) in
    let cut = c.drop_above.ensures.cut c.if-not-drop_above.false in
    let mains : c.take_chain-main.result.items ≡ parked p.parks.items head.frame = c.take_chain-main.ensures.chain (subst (λ n. head.frame < n) (sym s.stores.parks.each) there.0) in
    main_left l line p t.registers t.stack.items below rest before now o m s c.take_chain-main.new.storage c.stand.new.storage next c.drop_above.new.top c.join_chain.new.top c.drop_above.new.below.items c.join_chain.new.below.items cut.0 c.take_chain-main.result.items c.join_chain.new.kept.items c.join_chain.result head.frame j head.stamp
    c.in-Some-pop.ensures.items resumed is waits cut.1 mains
    (c.take_chain-main.ensures.stands head.stamp l before now o m (NoObject None) there refl s.stores)
    (λ stores. c.stand.ensures.stands j l before now o _ TerminatedObject (c.take_chain-main.ensures.has place j c.requires.there) refl stores)
    c.join_chain.ensures.joins

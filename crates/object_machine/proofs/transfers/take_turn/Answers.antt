use Rattle.std.proofs.Common.{◌≡◌, ◌<◌, [], sym, subst, refl, ap, ◌∙◌}
use Rattle.sim_chains.specs.Components.{AttachedObject, ResumedObject}
use Rattle.frame_arena.specs.Frames.{Has, frame_at, is_object_as}
use Rattle.frame_arena.proofs.Changes.{off}
use Rattle.object_machine.specs.declared.machine.Flow.TheVariants as flow
use Rattle.object_machine.specs.Standing.{AllFit, parked}
use Rattle.object_machine.specs.Transferring.{operating}
use Rattle.object_machine.proofs.Exchanging.{not_exchanged}
use Rattle.object_machine.proofs.Moving.{Chain, turn_taken}
use Rattle.object_machine.proofs.transfers.take_turn.Goals as goal

pub returns-in_default-clause-row : goal.returns-in_default-clause-row
returns-in_default-clause-row c l line before now o m s is =
    let p = c.args.storage.now in
    let place = c.args.place in
    let chain = c.take_chain-chain.result.items in
    let has = c.requires.detached.0 in
    let keeps : chain ≡ parked p.parks.items place = c.take_chain-chain.ensures.chain (subst (λ n. place < n) (sym s.stores.parks.each) has.0) in
    let fit : AllFit chain = subst (λ w. AllFit w) (sym keeps) (s.stores.parks.fit place) in
    not_exchanged l line before now c.exchange-flow.result c.args.head.stamp chain (operating c.args.top.now c.args.below.now.items) c.exchange-flow.new.kept.items (operating c.exchange-flow.new.top c.exchange-flow.new.below.items)
    c.take_chain-chain.new.storage c.exchange-flow.new.top.registers c.exchange-flow.new.top.stack.items c.exchange-flow.new.below.items _ c.in_default.not-On c.exchange-flow.ensures.exchanges fit

pub keep_above-requires-clause-there : goal.keep_above-requires-clause-there
keep_above-requires-clause-there c = (c.take_chain-chain.ensures.has c.args.head.frame c.args.head.stamp c.requires.head).0

pub stand-requires-clause-there : goal.stand-requires-clause-there
stand-requires-clause-there c = (c.keep_above.ensures.has c.args.place c.args.object (c.take_chain-chain.ensures.has c.args.place c.args.object c.requires.detached.0)).0

pub returns-clause-row : goal.returns-clause-row
returns-clause-row c l line before now o m s is =
    let p = c.args.storage.now in
    let t = c.args.top.now in
    let below = c.args.below.now.items in
    let place = c.args.place in
    let j = c.args.object in
    let h = c.args.head.stamp in
    let has = c.requires.detached.0 in
    let apart : h ≡ j → ⊥ = λ e.
    let same : c.args.head.frame ≡ place = s.stores.frames.single c.args.head.frame place j (subst (λ n. Has p.frames.items c.args.head.frame n) e c.requires.head) has in
    off (sym c.requires.apart ∙ ap (λ k. is_object_as (frame_at p.frames.items k).component) same ∙ ap (λ x. is_object_as x) c.requires.detached.1) in
    let keeps : c.take_chain-chain.result.items ≡ parked p.parks.items place = c.take_chain-chain.ensures.chain (subst (λ n. place < n) (sym s.stores.parks.each) has.0) in
    let a = c.take_chain-chain.ensures.stands j l before now o m AttachedObject has refl s.stores in
    let change = c.in-On.ensures.exchanges in
    turn_taken l line p t below before now o m s place j c.requires.detached h is apart
    c.take_chain-chain.new.storage c.keep_above.new.storage c.stand.new.storage c.exchange-flow.new.kept.items c.take_chain-chain.result.items [] change.0 c.exchange-flow.new.top change.1 c.exchange-flow.new.below.items flow.On
    change.2 keeps a
    (λ work. c.keep_above.ensures.stands h l before now o _ (Chain l line p t below before now o m s) (c.take_chain-chain.ensures.has c.args.head.frame h c.requires.head) a.stores work)
    (λ standings stores. c.stand.ensures.stands j l before now o _ ResumedObject (c.keep_above.ensures.has place j (c.take_chain-chain.ensures.has place j has)) refl stores)
    (refl, change.3)

use Rattle.std.proofs.Common.{◌≡◌, ◌<◌, [], sym, subst, refl}
use Rattle.sim_chains.specs.Components.{NoObject}
use Rattle.std.specs.Prelude.{None}
use Rattle.object_machine.specs.declared.machine.Flow.TheVariants as flow
use Rattle.object_machine.specs.Standing.{AllFit, parked}
use Rattle.object_machine.specs.Transferring.{operating}
use Rattle.object_machine.proofs.Exchanging.{not_exchanged}
use Rattle.object_machine.proofs.Moving.{Chain, given_to_main}
use Rattle.object_machine.proofs.transfers.give_to_main.Goals as goal

pub returns-in_default-clause-row : goal.returns-in_default-clause-row
returns-in_default-clause-row c l line before now o m s =
    let p = c.args.storage.now in
    let place = c.args.head.frame in
    let chain = c.take_chain-chain.result.items in
    let has = c.requires.main.0 in
    let mains : chain ≡ parked p.parks.items place = c.take_chain-chain.ensures.chain (subst (λ n. place < n) (sym s.stores.parks.each) has.0) in
    let fit : AllFit chain = subst (λ w. AllFit w) (sym mains) (s.stores.parks.fit place) in
    not_exchanged l line before now c.exchange-flow.result c.args.head.stamp chain (operating c.args.top.now c.args.below.now.items) c.exchange-flow.new.kept.items (operating c.exchange-flow.new.top c.exchange-flow.new.below.items)
    c.take_chain-chain.new.storage c.exchange-flow.new.top.registers c.exchange-flow.new.top.stack.items c.exchange-flow.new.below.items _ c.in_default.not-On c.exchange-flow.ensures.exchanges fit

pub returns-clause-row : goal.returns-clause-row
returns-clause-row c l line before now o m s =
    let p = c.args.storage.now in
    let t = c.args.top.now in
    let below = c.args.below.now.items in
    let place = c.args.head.frame in
    let h = c.args.head.stamp in
    let has = c.requires.main.0 in
    let mains : c.take_chain-chain.result.items ≡ parked p.parks.items place = c.take_chain-chain.ensures.chain (subst (λ n. place < n) (sym s.stores.parks.each) has.0) in
    let a = c.take_chain-chain.ensures.stands h l before now o m (NoObject None) has refl s.stores in
    let change = c.in-On.ensures.exchanges in
    given_to_main l line p t below before now o m s place h c.requires.main
    c.take_chain-chain.new.storage c.keep_by_object.new.storage c.exchange-flow.new.kept.items c.take_chain-chain.result.items [] change.0 c.exchange-flow.new.top change.1 c.exchange-flow.new.below.items flow.On
    change.2 mains a
    (λ work. c.keep_by_object.ensures.stands l before now o _ (Chain l line p t below before now o m s) a.stores work)
    (refl, change.3)

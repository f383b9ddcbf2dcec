use Rattle.std.proofs.Common.{◌≡◌, ◌<◌, sym, subst, refl}
use Rattle.sim_chains.specs.Components.{AttachedObject}
use Rattle.object_machine.specs.Standing.{parked}
use Rattle.object_machine.proofs.Moving.{object_joined}
use Rattle.object_machine.proofs.transfers.join_object.Goals as goal

pub returns-clause-row : goal.returns-clause-row
returns-clause-row c l line before now o m s =
    let p = c.args.storage.now in
    let place = c.args.place in
    let has = c.requires.detached.0 in
    let is : c.take_chain-kept.result.items ≡ parked p.parks.items place = c.take_chain-kept.ensures.chain (subst (λ n. place < n) (sym s.stores.parks.each) has.0) in
    object_joined l line p c.args.top.now c.args.below.now.items before now o m s place c.args.object c.take_chain-kept.new.storage c.take_chain-kept.result.items c.join_chain.new.kept.items c.join_chain.new.top c.join_chain.new.below.items c.join_chain.result
    c.requires.detached is (c.take_chain-kept.ensures.stands c.args.object l before now o m AttachedObject has refl s.stores) c.join_chain.ensures.joins

use Rattle.std.proofs.Common.{rules, ◌≡◌, ◌<◌, [], length, sym, subst, ap, ◌∙◌}
use Rattle.std.specs.Prelude.{Some, slice_get}
use Rattle.std.specs.Vec.{with_items}
use Rattle.std.proofs.lemmas.List.{with_items_is, places}
use Rattle.frame_arena.proofs.Changes.{off}
use Rattle.object_machine.specs.Standing.{parked}
use Rattle.object_machine.proofs.Anew.{anew_stood, restands_in}
use Rattle.object_machine.proofs.Parks.{none_parked}
use Rattle.object_machine.proofs.kept_chains.take_chain.Goals as goal

pub returns-clause-stands : goal.returns-clause-stands
returns-clause-stands c number l before now o m standing has stands s =
    let p = c.args.storage.now in
    let place = c.args.place in
    let frames = with_items p.frames c.stand.new.frames in
    let listed : frames.items ≡ c.stand.new.frames = with_items_is p.frames c.stand.new.frames (search (rules, places)) in
    let parks = with_items p.parks c.take_park-chain.new.parks in
    let items : parks.items ≡ c.take_park-chain.new.parks = with_items_is p.parks c.take_park-chain.new.parks (search (rules, places)) in
    let first = c.deref_mut.ensures.value in
    let there : place < length c.deref_mut.result.now = subst (λ w. place < length w) (sym first) (subst (λ n. place < n) (sym s.parks.each) has.0) in
    let none : parked parks.items place ≡ [] = ap (λ w. parked w place) items ∙ c.take_park-chain.ensures.empty there in
    anew_stood l p before now o m s frames parks place number c.args.component standing
    (restands_in c.deref_mut-2.result.now c.stand.new.frames p.frames.items frames.items place c.args.component c.deref_mut-2.ensures.value listed
    (record { stacks = c.stand.ensures.stacks; holds = c.stand.ensures.holds; leads = c.stand.ensures.leads; chains = c.stand.ensures.chains; stands = c.stand.ensures.stands }))
    has stands (λ e. absurd (off (sym c.requires.free ∙ e)))
    (ap (λ w. length w) items ∙ c.take_park-chain.ensures.each ∙ ap (λ w. length w) first)
    (λ at ne. ap (λ w. parked w at) items ∙ c.take_park-chain.ensures.elsewhere at ne ∙ ap (λ w. parked w at) first)
    (λ k t q. absurd (none_parked k t (subst (λ w. slice_get w k ≡ Some t) none q))) (λ k t q. absurd (none_parked k t (subst (λ w. slice_get w k ≡ Some t) none q)))

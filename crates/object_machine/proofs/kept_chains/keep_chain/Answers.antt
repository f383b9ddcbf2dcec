use Rattle.std.proofs.Common.{rules, ◌≡◌, ◌<◌, length, map, sym, subst, ap, ◌∙◌}
use Rattle.std.specs.Prelude.{Some, slice_get}
use Rattle.std.specs.Vec.{with_items}
use Rattle.std.proofs.lemmas.List.{with_items_is, places}
use Rattle.frame_arena.specs.Frames.{Has, keeping}
use Rattle.object_machine.specs.Standing.{activation_of, parked}
use Rattle.object_machine.proofs.Anew.{anew_stood, keeping_stands, restands_in}
use Rattle.object_machine.proofs.kept_chains.keep_chain.Goals as goal

pub returns-clause-has : goal.returns-clause-has
returns-clause-has c at number h =
    let p = c.args.storage.now in
    let frames = with_items p.frames c.stand.new.frames in
    let listed : frames.items ≡ c.stand.new.frames = with_items_is p.frames c.stand.new.frames (search (rules, places)) in
    subst (λ f. Has f at number) (sym listed) (c.stand.ensures.has at number (subst (λ f. Has f at number) (sym c.deref_mut-2.ensures.value) h))

pub returns-clause-stands : goal.returns-clause-stands
returns-clause-stands c number l before now o m has s work =
    let p = c.args.storage.now in
    let place = c.args.place in
    let chain = c.args.chain.items in
    let frames = with_items p.frames c.stand.new.frames in
    let listed : frames.items ≡ c.stand.new.frames = with_items_is p.frames c.stand.new.frames (search (rules, places)) in
    let parks = with_items p.parks c.put_park.new.parks in
    let items : parks.items ≡ c.put_park.new.parks = with_items_is p.parks c.put_park.new.parks (search (rules, places)) in
    let first = c.deref_mut.ensures.value in
    let there : place < length c.deref_mut.result.now = subst (λ w. place < length w) (sym first) (subst (λ n. place < n) (sym s.parks.each) has.0) in
    let put : parked parks.items place ≡ chain = ap (λ w. parked w place) items ∙ c.put_park.ensures.chain there in
    anew_stood l p before now o m s frames parks place number c.args.component (keeping c.args.component (map activation_of chain))
    (restands_in c.deref_mut-2.result.now c.stand.new.frames p.frames.items frames.items place c.args.component c.deref_mut-2.ensures.value listed
    (record { stacks = c.stand.ensures.stacks; holds = c.stand.ensures.holds; leads = c.stand.ensures.leads; chains = c.stand.ensures.chains; stands = c.stand.ensures.stands }))
    has (keeping_stands c.args.component (map activation_of chain) c.requires.keeps) (λ e. ap (λ w. keeping c.args.component (map activation_of w)) (sym put))
    (ap (λ w. length w) items ∙ c.put_park.ensures.each ∙ ap (λ w. length w) first)
    (λ at ne. ap (λ w. parked w at) items ∙ c.put_park.ensures.elsewhere at ne ∙ ap (λ w. parked w at) first)
    (λ k t q. work k t (subst (λ w. slice_get w k ≡ Some t) put q)) (λ k t q. c.requires.fits k t (subst (λ w. slice_get w k ≡ Some t) put q))

use Rattle.std.proofs.Common.{rules, ◌≡◌, sym, refl, ◌∙◌}
use Rattle.std.specs.Vec.{with_items}
use Rattle.std.proofs.lemmas.List.{with_items_is, places}
use Rattle.frame_arena.proofs.Changes.{off}
use Rattle.object_machine.proofs.Anew.{anew_stood, restands_in}
use Rattle.object_machine.proofs.kept_chains.stand.Goals as goal

pub returns-clause-stands : goal.returns-clause-stands
returns-clause-stands c number l before now o m standing has stands s =
    let p = c.args.storage.now in
    let place = c.args.place in
    let frames = with_items p.frames c.stand.new.frames in
    let listed : frames.items ≡ c.stand.new.frames = with_items_is p.frames c.stand.new.frames (search (rules, places)) in
    anew_stood l p before now o m s frames p.parks place number c.args.component standing
    (restands_in c.deref_mut.result.now c.stand.new.frames p.frames.items frames.items place c.args.component c.deref_mut.ensures.value listed
    (record { stacks = c.stand.ensures.stacks; holds = c.stand.ensures.holds; leads = c.stand.ensures.leads; chains = c.stand.ensures.chains; stands = c.stand.ensures.stands }))
    has stands (λ e. absurd (off (sym c.requires.free ∙ e))) refl (λ at ne. refl) (s.parks.work place) (s.parks.fit place)

use Rattle.std.proofs.Common.{◌≡◌, [], ◌∷◌, ◌++◌, sym, subst, refl, ap, ◌∙◌}
use Rattle.std.proofs.lemmas.List.{get_or_default}
use Rattle.frame_arena.specs.Arrays.{ElementsLead, HoldsArrays, Lies, RegionOf, no_region, region_at}
use Rattle.frame_arena.specs.Frames.{AllLead}
use Rattle.frame_arena.proofs.ArrayCalls.{copied_is, copied_sound}
use Rattle.frame_arena.proofs.arrays.Arrays.copy.Goals as goal

pub returns-clause-holds : goal.returns-clause-holds
returns-clause-holds c arrays a h e =
    let items = c.self.inside.regions.items in
    let n = (region_at c.args.self.now.regions c.args.from).number in
    let known : Lies c.args.self.now.regions c.args.from n = (c.requires.there, c.requires.live, refl) in
    let lies = subst (λ a. Lies a.regions c.args.from n) (sym c.self.view_is) known in
    let h2 = subst (λ a. HoldsArrays a arrays) (sym c.self.view_is) h in
    let eb : c.in_ok-bounds.bounds.items ≡ (region_at items c.args.from).bounds =
    c.in_ok-bounds.ensures.items ∙ c.bounds.ensures ∙ ap {A = RegionOf} (λ r. r.bounds) (c.index.ensures ∙ get_or_default items c.args.from _ no_region lies.0) in
    let ee : c.in_ok-elements.elements.items ≡ (region_at items c.args.from).elements =
    c.in_ok-elements.ensures.items ∙ c.elements.ensures ∙ ap {A = RegionOf} (λ r. r.elements) (c.index-2.ensures ∙ get_or_default items c.args.from _ no_region lies.0) in
    subst (λ x. HoldsArrays c.enter.new.self (arrays ++ x ∷ [])) (copied_is _ arrays c.args.from n a c.args.owner c.take_free.new.self.made c.in_ok-bounds.bounds.items c.in_ok-elements.elements.items h2 lies eb ee e)
    (c.enter.ensures.holds arrays (c.in_ok-place.ensures.holds arrays h) (copied_sound _ arrays c.args.from n a c.args.owner c.take_free.new.self.made c.in_ok-bounds.bounds.items c.in_ok-elements.elements.items h2 lies eb ee))

pub returns-clause-elements : goal.returns-clause-elements
returns-clause-elements c frames m all =
    let items = c.self.inside.regions.items in
    let n = (region_at c.args.self.now.regions c.args.from).number in
    let known : Lies c.args.self.now.regions c.args.from n = (c.requires.there, c.requires.live, refl) in
    let lies = subst (λ a. Lies a.regions c.args.from n) (sym c.self.view_is) known in
    let ee : c.in_ok-elements.elements.items ≡ (region_at items c.args.from).elements =
    c.in_ok-elements.ensures.items ∙ c.elements.ensures ∙ ap {A = RegionOf} (λ r. r.elements) (c.index-2.ensures ∙ get_or_default items c.args.from _ no_region lies.0) in
    let lead = subst (λ a. ElementsLead frames m a.regions) (sym c.self.view_is) all in
    c.enter.ensures.elements frames m (c.in_ok-place.ensures.elements frames m all) (subst (λ l. AllLead frames m l) (sym ee) (λ at. lead c.args.from at))

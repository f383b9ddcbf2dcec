use Rattle.std.proofs.Common.{◌≤◌, set, sym, subst, refl, ap, ◌∙◌, rules}
use Rattle.std.proofs.lemmas.List.{get_or_default}
use Rattle.frame_arena.specs.Arrays.{ArraysOf, HoldsArrays, KeepLeading, Lies, RegionOf, no_region, owned_world}
use Rattle.frame_arena.proofs.ArrayCalls.{owned_dead, owned_none, owns_holds, owns_leads}
use Rattle.frame_arena.proofs.arrays.Arrays.hand_over.Goals as goal

pub returns-in_default-clause-holds : goal.returns-in_default-clause-holds
returns-in_default-clause-holds c o h leads = owned_dead c.args.self.now o c.args.at.stamp c.args.owner h (c.in_default.ensures.gone o.arrays leads refl)

pub returns-in_default-clause-leads : goal.returns-in_default-clause-leads
returns-in_default-clause-leads c o h = owned_none c.args.self.now o c.args.at.stamp c.args.owner

pub returns-clause-holds : goal.returns-clause-holds
returns-clause-holds c o h leads =
    let lies = subst (λ a. Lies a.regions c.in-Some.place c.args.at.stamp) (sym c.self.view_is) c.in-Some.ensures.there in
    let items = c.self.inside.regions.items in
    let above : c.self.inside.newest ≤ c.max-self-inside.result = search rules in
    let owned : c.args.owner ≤ c.max-self-inside.result = search rules in
    owns_holds _ _ o c.in-Some.place c.args.at.stamp (subst (λ a. HoldsArrays a o.arrays) (sym c.self.view_is) h) lies c.args.owner
    (ap (set items c.in-Some.place) (c.set_owner.ensures ∙ ap {A = RegionOf} (λ r. record r { owner = c.args.owner }) (c.index_mut.ensures.value ∙ get_or_default items c.in-Some.place _ no_region lies.0))) refl above owned

pub returns-clause-leads : goal.returns-clause-leads
returns-clause-leads c o h =
    let lies = subst (λ a. Lies a.regions c.in-Some.place c.args.at.stamp) (sym c.self.view_is) c.in-Some.ensures.there in
    let items = c.self.inside.regions.items in
    let b : ArraysOf = record { regions = set items c.in-Some.place c.set_owner.new.self; made = 0; newest = 0; free = 0 } in
    subst (λ a. KeepLeading a o.arrays b (owned_world o c.args.at.stamp c.args.owner).arrays) c.self.view_is
    (owns_leads _ b o c.in-Some.place c.args.at.stamp (subst (λ a. HoldsArrays a o.arrays) (sym c.self.view_is) h) lies c.args.owner
    (ap (set items c.in-Some.place) (c.set_owner.ensures ∙ ap {A = RegionOf} (λ r. record r { owner = c.args.owner }) (c.index_mut.ensures.value ∙ get_or_default items c.in-Some.place _ no_region lies.0))))

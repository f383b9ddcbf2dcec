use Rattle.std.proofs.Common.{[], false, set, sym, subst, refl, ap, ◌∙◌}
use Rattle.std.proofs.lemmas.List.{get_or_default}
use Rattle.frame_arena.specs.Arrays.{ArraysOf, HoldsArrays, KeepLeading, Lies, RegionOf, given_at, no_region, region_at}
use Rattle.frame_arena.proofs.ArrayCalls.{gives_at, gives_at_leads}
use Rattle.frame_arena.proofs.arrays.Arrays.give_back_at.Goals as goal

pub returns-clause-holds : goal.returns-clause-holds
returns-clause-holds c arrays h =
    let items = c.self.inside.regions.items in
    let n = (region_at c.args.self.now.regions c.args.place).number in
    let known : Lies c.args.self.now.regions c.args.place n = (c.requires.there, c.requires.live, refl) in
    let lies = subst (λ a. Lies a.regions c.args.place n) (sym c.self.view_is) known in
    gives_at _ _ arrays c.args.place n c.self.inside.free (subst (λ a. HoldsArrays a arrays) (sym c.self.view_is) h) lies
    (ap (set items c.args.place) (c.leave.ensures ∙ ap {A = RegionOf} (λ r. record r { live = false; next = c.self.inside.free; bounds = []; elements = [] }) (c.index_mut.ensures.value ∙ get_or_default items c.args.place _ no_region lies.0))) refl refl

pub returns-clause-leads : goal.returns-clause-leads
returns-clause-leads c arrays h =
    let items = c.self.inside.regions.items in
    let n = (region_at c.args.self.now.regions c.args.place).number in
    let known : Lies c.args.self.now.regions c.args.place n = (c.requires.there, c.requires.live, refl) in
    let lies = subst (λ a. Lies a.regions c.args.place n) (sym c.self.view_is) known in
    let b : ArraysOf = record { regions = set items c.args.place c.leave.new.self; made = 0; newest = 0; free = 0 } in
    subst (λ a. KeepLeading a arrays b (given_at arrays n)) c.self.view_is
    (gives_at_leads _ b arrays c.args.place n c.self.inside.free (subst (λ a. HoldsArrays a arrays) (sym c.self.view_is) h) lies
    (ap (set items c.args.place) (c.leave.ensures ∙ ap {A = RegionOf} (λ r. record r { live = false; next = c.self.inside.free; bounds = []; elements = [] }) (c.index_mut.ensures.value ∙ get_or_default items c.args.place _ no_region lies.0))))

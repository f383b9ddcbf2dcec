use Rattle.std.proofs.Common.{true, set, sym, subst, refl, ap, ◌∙◌}
use Rattle.std.proofs.lemmas.List.{get_or_default}
use Rattle.frame_arena.specs.Arrays.{ArraysOf, HoldsArrays, KeepLeadingAfter, Lies, RegionOf, kept_world, no_region}
use Rattle.frame_arena.proofs.ArrayCalls.{kept_none, kept_row, keeps_holds, keeps_leads}
use Rattle.frame_arena.proofs.arrays.Arrays.keep.Goals as goal

pub returns-in_default-clause-row : goal.returns-in_default-clause-row
returns-in_default-clause-row c o go = kept_row o c.args.at.stamp go

pub returns-in_default-clause-leads : goal.returns-in_default-clause-leads
returns-in_default-clause-leads c o h = kept_none c.args.self.now o c.args.at.stamp

pub returns-clause-row : goal.returns-clause-row
returns-clause-row c o go = kept_row o c.args.at.stamp go

pub returns-clause-holds : goal.returns-clause-holds
returns-clause-holds c o h leads =
    let lies = subst (λ a. Lies a.regions c.in-Some.place c.args.at.stamp) (sym c.self.view_is) c.in-Some.ensures.there in
    let items = c.self.inside.regions.items in
    keeps_holds _ _ o c.in-Some.place c.args.at.stamp (subst (λ a. HoldsArrays a o.arrays) (sym c.self.view_is) h) lies
    (ap (set items c.in-Some.place) (c.keep.ensures ∙ ap {A = RegionOf} (λ r. record r { kept = true }) (c.index_mut.ensures.value ∙ get_or_default items c.in-Some.place _ no_region lies.0))) refl refl

pub returns-clause-leads : goal.returns-clause-leads
returns-clause-leads c o h =
    let lies = subst (λ a. Lies a.regions c.in-Some.place c.args.at.stamp) (sym c.self.view_is) c.in-Some.ensures.there in
    let items = c.self.inside.regions.items in
    let b : ArraysOf = record { regions = set items c.in-Some.place c.keep.new.self; made = 0; newest = 0; free = 0 } in
    subst (λ a. KeepLeadingAfter a o.arrays b (kept_world o c.args.at.stamp)) c.self.view_is
    (keeps_leads _ b o c.in-Some.place c.args.at.stamp (subst (λ a. HoldsArrays a o.arrays) (sym c.self.view_is) h) lies
    (ap (set items c.in-Some.place) (c.keep.ensures ∙ ap {A = RegionOf} (λ r. record r { kept = true }) (c.index_mut.ensures.value ∙ get_or_default items c.in-Some.place _ no_region lies.0))))

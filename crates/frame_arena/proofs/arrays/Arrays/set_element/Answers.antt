use Rattle.std.proofs.Common.{false, ◌≡◌, ◌<◌, ◌≤◌, length, set, sym, subst, refl, ap, ◌∙◌}
use Rattle.std.proofs.lemmas.List.{get_or_default}
use Rattle.sim_code.specs.Arrays.{element_set}
use Rattle.frame_arena.specs.Arrays.{ArraysAfter, ArraysOf, ElementsLead, HoldsArrays, KeepLeadingAfter, Lies, RegionOf, no_region, region_at}
use Rattle.frame_arena.proofs.ArrayCalls.{element_past, elements_set, set_none, sets_holds, sets_leads}
use Rattle.frame_arena.proofs.Leading.{all_lead_set}
use Rattle.frame_arena.proofs.arrays.Arrays.set_element.Goals as goal

pub returns-then-index-elements-clause-holds : goal.returns-then-index-elements-clause-holds
returns-then-index-elements-clause-holds c o p h leads value =
    let place = c.in-Some.place in
    let lies = subst (λ a. Lies a.regions place c.args.at.stamp) (sym c.self.view_is) c.in-Some.ensures.there in
    let items = c.self.inside.regions.items in
    let read : c.elements.result.now ≡ (region_at items place).elements = c.elements.ensures ∙ ap {A = RegionOf} (λ r. r.elements) (c.index.ensures ∙ get_or_default items place _ no_region lies.0) in
    sets_holds _ _ o place c.args.at.stamp (subst (λ a. HoldsArrays a o.arrays) (sym c.self.view_is) h) lies c.args.index p c.args.slot (subst (λ l. c.args.index < length l) read c.if-index-elements.true) value
    (ap (set items place) (c.set.ensures ∙ ap {A = RegionOf} (λ r. record r { elements = set r.elements c.args.index c.args.slot }) (c.index_mut.ensures.value ∙ get_or_default items place _ no_region lies.0))) refl refl

pub returns-then-index-elements-clause-leads : goal.returns-then-index-elements-clause-leads
returns-then-index-elements-clause-leads c o p h =
    let place = c.in-Some.place in
    let lies = subst (λ a. Lies a.regions place c.args.at.stamp) (sym c.self.view_is) c.in-Some.ensures.there in
    let items = c.self.inside.regions.items in
    let b : ArraysOf = record { regions = set items place c.set.new.self; made = 0; newest = 0; free = 0 } in
    subst (λ a. KeepLeadingAfter a o.arrays b (element_set o c.args.at.stamp c.args.index p)) c.self.view_is
    (sets_leads _ b o place c.args.at.stamp (subst (λ a. HoldsArrays a o.arrays) (sym c.self.view_is) h) lies c.args.index p c.args.slot
    (ap (set items place) (c.set.ensures ∙ ap {A = RegionOf} (λ r. record r { elements = set r.elements c.args.index c.args.slot }) (c.index_mut.ensures.value ∙ get_or_default items place _ no_region lies.0))))

pub returns-then-index-elements-clause-elements : goal.returns-then-index-elements-clause-elements
returns-then-index-elements-clause-elements c frames m all here =
    let place = c.in-Some.place in
    let lies = subst (λ a. Lies a.regions place c.args.at.stamp) (sym c.self.view_is) c.in-Some.ensures.there in
    let items = c.self.inside.regions.items in
    let old : RegionOf = region_at items place in
    let lead = subst (λ a. ElementsLead frames m a.regions) (sym c.self.view_is) all in
    let read : c.elements.result.now ≡ old.elements = c.elements.ensures ∙ ap {A = RegionOf} (λ r. r.elements) (c.index.ensures ∙ get_or_default items place _ no_region lies.0) in
    let e : c.set.new.self ≡ record old { elements = set old.elements c.args.index c.args.slot } = c.set.ensures ∙ ap {A = RegionOf} (λ r. record r { elements = set r.elements c.args.index c.args.slot }) (c.index_mut.ensures.value ∙ get_or_default items place _ no_region lies.0) in
    subst (λ r. ElementsLead frames m (set items place r)) (sym e)
    (elements_set frames m items place (record old { elements = set old.elements c.args.index c.args.slot }) lead lies.0
    (all_lead_set frames m old.elements c.args.index c.args.slot (subst (λ l. c.args.index < length l) read c.if-index-elements.true) (λ at. lead place at) here))

pub returns-clause-holds : goal.returns-clause-holds
returns-clause-holds c o p h leads value =
    let place = c.in-Some.place in
    let lies = subst (λ a. Lies a.regions place c.args.at.stamp) (sym c.self.view_is) c.in-Some.ensures.there in
    let items = c.self.inside.regions.items in
    let read : c.elements.result.now ≡ (region_at items place).elements = c.elements.ensures ∙ ap {A = RegionOf} (λ r. r.elements) (c.index.ensures ∙ get_or_default items place _ no_region lies.0) in
    let past : length (region_at items place).elements ≤ c.args.index = subst (λ l. length l ≤ c.args.index) read c.if-index-elements.false in
    let h2 = subst (λ a. HoldsArrays a o.arrays) (sym c.self.view_is) h in
    subst (λ w. ArraysAfter false c.args.self.now w) (sym (element_past _ c.args.self.now o place c.args.at.stamp h2 lies c.args.index p past)) refl

pub returns-clause-leads : goal.returns-clause-leads
returns-clause-leads c o p h = set_none c.args.self.now o c.args.at.stamp c.args.index p

use Rattle.std.proofs.Common.{◌≡◌, ◌+◌, ◌-◌, ◌<◌, ◌≤◌, ◌^◌, ◌∷◌, length, set, sym, subst, ap, ◌∙◌, arith, refl}
use Rattle.std.proofs.lemmas.List.{get_or_default}
use Rattle.sim_values.specs.Words.{element_count}
use Rattle.sim_code.specs.Arrays.{element_place}
use Rattle.sim_code.specs.Instances.{ElementPlace}
use Rattle.sim_code.specs.Machine.{Address}
use Rattle.frame_arena.specs.Arrays.{RegionOf, array_of, no_region, region_at}
use Rattle.frame_arena.specs.Slots.{value_of}
use Rattle.frame_arena.specs.Stacks.{integers_from, slot_at, values_of}
use Rattle.frame_arena.proofs.ArrayFacts.{array_found}
use Rattle.frame_arena.proofs.Finding.{finding, placing_error, placing_ok, taking_array, taking_found, taking_gone, taking_none, taking_other}
use Rattle.frame_arena.proofs.Leading.{all_lead_arrays_set, all_lead_set, no_frame_leads}
use Rattle.frame_arena.proofs.Subscripts.{many_left, wrong_number}
use Rattle.frame_arena.proofs.Tops.{top_of, written}
use Rattle.frame_arena.proofs.arrays.Arrays.find_element.Goals as goal

pub returns-in_default-clause-row : goal.returns-in_default-clause-row
returns-in_default-clause-row c line o go h all = finding line c.args.class o go c.args.count (values_of c.args.depth c.args.stack.now) ∙ c.in_default.ensures.row o (taking_array line c.args.class o go)

pub returns-then-first-lt1-clause-row : goal.returns-then-first-lt1-clause-row
returns-then-first-lt1-clause-row c line o go h all =
    let stack = c.args.stack.now in
    let first = c.in-Some.first in
    let places = c.in-Some.ensures.places in
    let ints = integers_from stack first c.args.count in
    let v = value_of (slot_at stack (first - 1)) in
    let rest = values_of (first - 1) stack in
    let begun = finding line c.args.class o go c.args.count (values_of c.args.depth stack) ∙ c.in-Some.ensures.row o (taking_array line c.args.class o go) in
    begun ∙ taking_none line c.args.class o go ints first stack c.if-first-lt1.true

pub returns-in_default-as_array-clause-row : goal.returns-in_default-as_array-clause-row
returns-in_default-as_array-clause-row c line o go h all =
    let stack = c.args.stack.now in
    let first = c.in-Some.first in
    let places = c.in-Some.ensures.places in
    let ints = integers_from stack first c.args.count in
    let v = value_of (slot_at stack (first - 1)) in
    let rest = values_of (first - 1) stack in
    let begun = finding line c.args.class o go c.args.count (values_of c.args.depth stack) ∙ c.in-Some.ensures.row o (taking_array line c.args.class o go) in
    let top : values_of first stack ≡ v ∷ rest = top_of first stack (omega (arith, c.if-first-lt1.false)) (omega (arith, places, c.requires.fits)) in
    let on = begun ∙ ap (taking_array line c.args.class o go ints) top in
    on ∙ taking_other line c.args.class o go ints v rest c.in_default-as_array.ensures.number

pub returns-in_default-find-clause-row : goal.returns-in_default-find-clause-row
returns-in_default-find-clause-row c line o go h all =
    let stack = c.args.stack.now in
    let first = c.in-Some.first in
    let places = c.in-Some.ensures.places in
    let ints = integers_from stack first c.args.count in
    let v = value_of (slot_at stack (first - 1)) in
    let rest = values_of (first - 1) stack in
    let begun = finding line c.args.class o go c.args.count (values_of c.args.depth stack) ∙ c.in-Some.ensures.row o (taking_array line c.args.class o go) in
    let top : values_of first stack ≡ v ∷ rest = top_of first stack (omega (arith, c.if-first-lt1.false)) (omega (arith, places, c.requires.fits)) in
    let on = begun ∙ ap (taking_array line c.args.class o go ints) top in
    let array = c.in-Some-as_array.array in
    on ∙ taking_gone line c.args.class o go ints v rest array.stamp c.in-Some-as_array.ensures.number
    (c.in_default-find.ensures.gone o.arrays (c.in-Some-as_array.ensures.leads c.args.self.now.regions o.arrays (all (first - 1))) refl)

pub returns-then-bounds-count-clause-row : goal.returns-then-bounds-count-clause-row
returns-then-bounds-count-clause-row c line o go h all =
    let stack = c.args.stack.now in
    let first = c.in-Some.first in
    let places = c.in-Some.ensures.places in
    let ints = integers_from stack first c.args.count in
    let v = value_of (slot_at stack (first - 1)) in
    let rest = values_of (first - 1) stack in
    let begun = finding line c.args.class o go c.args.count (values_of c.args.depth stack) ∙ c.in-Some.ensures.row o (taking_array line c.args.class o go) in
    let top : values_of first stack ≡ v ∷ rest = top_of first stack (omega (arith, c.if-first-lt1.false)) (omega (arith, places, c.requires.fits)) in
    let on = begun ∙ ap (taking_array line c.args.class o go ints) top in
    let place = c.in-Some-find.place in
    let array = c.in-Some-as_array.array in
    let lies = c.in-Some-find.ensures.there in
    let now = c.args.self.now in
    let region : RegionOf = region_at now.regions place in
    let items = c.self.inside.regions.items in
    let same : items ≡ now.regions = ap (λ a. a.regions) c.self.view_is in
    let er : c.index-region.result.now ≡ region = c.index-region.ensures ∙ get_or_default items place _ no_region (subst (λ l. place < length l) (sym same) lies.0) ∙ ap (λ l. region_at l place) same in
    let eb : c.bounds.result.now ≡ region.bounds = c.bounds.ensures ∙ ap {A = RegionOf} (λ r. r.bounds) er in
    let there = on ∙ taking_found line c.args.class o go ints v rest array.stamp (array_of region) c.in-Some-as_array.ensures.number (array_found now o.arrays place array.stamp h lies) in
    there ∙ placing_error line c.args.class o go array.stamp ints rest (array_of region) _ (wrong_number region.bounds ints (λ e. c.if-bounds-count.true (ap length eb ∙ sym e ∙ many_left stack first c.args.count)))

pub returns-in-Err-clause-row : goal.returns-in-Err-clause-row
returns-in-Err-clause-row c line o go h all =
    let stack = c.args.stack.now in
    let first = c.in-Some.first in
    let places = c.in-Some.ensures.places in
    let ints = integers_from stack first c.args.count in
    let v = value_of (slot_at stack (first - 1)) in
    let rest = values_of (first - 1) stack in
    let begun = finding line c.args.class o go c.args.count (values_of c.args.depth stack) ∙ c.in-Some.ensures.row o (taking_array line c.args.class o go) in
    let top : values_of first stack ≡ v ∷ rest = top_of first stack (omega (arith, c.if-first-lt1.false)) (omega (arith, places, c.requires.fits)) in
    let on = begun ∙ ap (taking_array line c.args.class o go ints) top in
    let place = c.in-Some-find.place in
    let array = c.in-Some-as_array.array in
    let lies = c.in-Some-find.ensures.there in
    let now = c.args.self.now in
    let region : RegionOf = region_at now.regions place in
    let items = c.self.inside.regions.items in
    let same : items ≡ now.regions = ap (λ a. a.regions) c.self.view_is in
    let er : c.index-region.result.now ≡ region = c.index-region.ensures ∙ get_or_default items place _ no_region (subst (λ l. place < length l) (sym same) lies.0) ∙ ap (λ l. region_at l place) same in
    let eb : c.bounds.result.now ≡ region.bounds = c.bounds.ensures ∙ ap {A = RegionOf} (λ r. r.bounds) er in
    let there = on ∙ taking_found line c.args.class o go ints v rest array.stamp (array_of region) c.in-Some-as_array.ensures.number (array_found now o.arrays place array.stamp h lies) in
    let eb2 : c.bounds-2.result.now ≡ region.bounds = c.bounds-2.ensures ∙ ap {A = RegionOf} (λ r. r.bounds) er in
    let ee : c.elements.result.now ≡ region.elements = c.elements.ensures ∙ ap {A = RegionOf} (λ r. r.elements) er in
    let s = h.sound place array.stamp lies in
    let sized : length c.elements.result.now ≡ element_count c.bounds-2.result.now = ap length ee ∙ s.sized ∙ sym (ap element_count eb2) in
    let short : length c.elements.result.now ≤ 2 ^ 31 = subst (λ l. length l ≤ 2 ^ 31) (sym ee) s.short in
    let en : length region.bounds ≡ c.args.count = sym (ap length eb) ∙ c.if-bounds-count.false in
    let whole = ap (λ b. element_place b (integers_from stack first (length b))) eb2 ∙ ap (λ n. element_place region.bounds (integers_from stack first n)) en in
    there ∙ placing_error line c.args.class o go array.stamp ints rest (array_of region) c.in-Err.error (sym (c.in-Err.ensures.place sized short ∙ whole))

pub returns-in-Ok-clause-row : goal.returns-in-Ok-clause-row
returns-in-Ok-clause-row c line o go h all =
    let stack = c.args.stack.now in
    let first = c.in-Some.first in
    let places = c.in-Some.ensures.places in
    let ints = integers_from stack first c.args.count in
    let v = value_of (slot_at stack (first - 1)) in
    let rest = values_of (first - 1) stack in
    let begun = finding line c.args.class o go c.args.count (values_of c.args.depth stack) ∙ c.in-Some.ensures.row o (taking_array line c.args.class o go) in
    let top : values_of first stack ≡ v ∷ rest = top_of first stack (omega (arith, c.if-first-lt1.false)) (omega (arith, places, c.requires.fits)) in
    let on = begun ∙ ap (taking_array line c.args.class o go ints) top in
    let place = c.in-Some-find.place in
    let array = c.in-Some-as_array.array in
    let lies = c.in-Some-find.ensures.there in
    let now = c.args.self.now in
    let region : RegionOf = region_at now.regions place in
    let items = c.self.inside.regions.items in
    let same : items ≡ now.regions = ap (λ a. a.regions) c.self.view_is in
    let er : c.index-region.result.now ≡ region = c.index-region.ensures ∙ get_or_default items place _ no_region (subst (λ l. place < length l) (sym same) lies.0) ∙ ap (λ l. region_at l place) same in
    let eb : c.bounds.result.now ≡ region.bounds = c.bounds.ensures ∙ ap {A = RegionOf} (λ r. r.bounds) er in
    let there = on ∙ taking_found line c.args.class o go ints v rest array.stamp (array_of region) c.in-Some-as_array.ensures.number (array_found now o.arrays place array.stamp h lies) in
    let eb2 : c.bounds-2.result.now ≡ region.bounds = c.bounds-2.ensures ∙ ap {A = RegionOf} (λ r. r.bounds) er in
    let ee : c.elements.result.now ≡ region.elements = c.elements.ensures ∙ ap {A = RegionOf} (λ r. r.elements) er in
    let s = h.sound place array.stamp lies in
    let sized : length c.elements.result.now ≡ element_count c.bounds-2.result.now = ap length ee ∙ s.sized ∙ sym (ap element_count eb2) in
    let short : length c.elements.result.now ≤ 2 ^ 31 = subst (λ l. length l ≤ 2 ^ 31) (sym ee) s.short in
    let en : length region.bounds ≡ c.args.count = sym (ap length eb) ∙ c.if-bounds-count.false in
    let whole = ap (λ b. element_place b (integers_from stack first (length b))) eb2 ∙ ap (λ n. element_place region.bounds (integers_from stack first n)) en in
    let k = c.in-Ok.index in
    let within = c.in-Ok.ensures.within sized short in
    let m : c.min.result ≡ k = let e = c.min.ensures in omega (arith, e, within, short) in
    let slot = c.element.result in
    let value : value_of slot ≡ Address (ElementPlace array.stamp k c.args.class) = c.element.ensures.value ∙ ap (λ n. Address (ElementPlace array.stamp n c.args.class)) m in
    let d : first - 1 + 1 ≡ first = omega (arith, c.if-first-lt1.false) in
    there
    ∙ placing_ok line c.args.class o go array.stamp ints rest (array_of region) k (sym (c.in-Ok.ensures.place sized short ∙ whole))
    ∙ ap (λ w. go (w ∷ rest)) (sym value)
    ∙ ap go (sym (written (first - 1) stack slot (omega (arith, c.if-first-lt1.false, places, c.requires.fits))))
    ∙ ap (λ n. go (values_of n (set stack (first - 1) slot))) d

pub returns-in-Ok-clause-leads : goal.returns-in-Ok-clause-leads
returns-in-Ok-clause-leads c frames m all =
    let places = c.in-Some.ensures.places in
    all_lead_set frames m c.args.stack.now (c.in-Some.first - 1) c.element.result (omega (arith, c.if-first-lt1.false, places, c.requires.fits)) all (no_frame_leads frames m c.element.result c.element.ensures.no_frame)

pub returns-in-Ok-clause-leads_arrays : goal.returns-in-Ok-clause-leads_arrays
returns-in-Ok-clause-leads_arrays c arrays all =
    let places = c.in-Some.ensures.places in
    all_lead_arrays_set c.args.self.now.regions arrays c.args.stack.now (c.in-Some.first - 1) c.element.result (omega (arith, c.if-first-lt1.false, places, c.requires.fits)) all
    (c.element.ensures.leads c.args.self.now.regions arrays (c.in-Some-as_array.ensures.leads c.args.self.now.regions arrays (all (c.in-Some.first - 1))))

use Rattle.std.proofs.Common.{rules, ◌≡◌, ◌<◌, ◌≤◌, false, [], ◌∷◌, ◌++◌, length, set, sym, subst, refl, ap}
use Rattle.frame_arena.specs.Arrays.{ArraysOf, HoldsArrays, KeepLeading, region_at}
use Rattle.frame_arena.proofs.ArrayFacts.{enters_array, enters_leading}
use Rattle.frame_arena.proofs.arrays.Arrays.enter.Goals as goal

pub returns-clause-holds : goal.returns-clause-holds
returns-clause-holds c arrays h sound =
    let items = c.self.inside.regions.items in
    let there = subst (λ a. c.args.place < length a.regions) (sym c.self.view_is) c.requires.there in
    let free = subst (λ a. (region_at a.regions c.args.place).live ≡ false) (sym c.self.view_is) c.requires.free in
    let above : c.self.inside.newest ≤ c.max-self-inside.result = search rules in
    let owned : c.args.owner ≤ c.max-self-inside.result = search rules in
    enters_array _ _ arrays c.args.place _ (subst (λ a. HoldsArrays a arrays) (sym c.self.view_is) h) there free refl refl (ap (set items c.args.place) c.enter.ensures) refl above owned
    (record { plain = sound.plain; sized = sound.sized; short = sound.short })

pub returns-clause-leads : goal.returns-clause-leads
returns-clause-leads c arrays x h =
    let items = c.self.inside.regions.items in
    let there = subst (λ a. c.args.place < length a.regions) (sym c.self.view_is) c.requires.there in
    let free = subst (λ a. (region_at a.regions c.args.place).live ≡ false) (sym c.self.view_is) c.requires.free in
    let b : ArraysOf = record { regions = set items c.args.place c.enter.new.self; made = 0; newest = 0; free = 0 } in
    subst (λ a. KeepLeading a arrays b (arrays ++ x ∷ [])) c.self.view_is
    (enters_leading _ b arrays c.args.place _ (subst (λ a. HoldsArrays a arrays) (sym c.self.view_is) h) there free refl refl (ap (set items c.args.place) c.enter.ensures) x)

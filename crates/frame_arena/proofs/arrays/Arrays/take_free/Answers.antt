use Rattle.std.proofs.Common.{◌≡◌, [], ◌∷◌, ◌++◌, sym, subst, refl, ap, ◌∙◌}
use Rattle.frame_arena.specs.Arrays.{ElementsLead, HoldsArrays, RegionOf, no_region}
use Rattle.frame_arena.proofs.ArrayCalls.{elements_more}
use Rattle.frame_arena.proofs.ArrayFacts.{grows_arrays}
use Rattle.frame_arena.proofs.arrays.Arrays.take_free.Goals as goal

pub returns-clause-holds : goal.returns-clause-holds
returns-clause-holds c arrays h =
    let items = c.self.inside.regions.items in
    let e : c.push.new.self.items ≡ items ++ no_region ∷ [] = c.in_ok-push.ensures.items ∙ ap {A = RegionOf} (λ r. items ++ r ∷ []) c.new.ensures in
    grows_arrays _ _ arrays (subst (λ a. HoldsArrays a arrays) (sym c.self.view_is) h) e refl refl

pub returns-clause-elements : goal.returns-clause-elements
returns-clause-elements c frames m all =
    let items = c.self.inside.regions.items in
    let e : c.push.new.self.items ≡ items ++ no_region ∷ [] = c.in_ok-push.ensures.items ∙ ap {A = RegionOf} (λ r. items ++ r ∷ []) c.new.ensures in
    subst (λ l. ElementsLead frames m l) (sym e) (elements_more frames m items (subst (λ a. ElementsLead frames m a.regions) (sym c.self.view_is) all))

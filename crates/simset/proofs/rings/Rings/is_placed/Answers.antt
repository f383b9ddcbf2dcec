use Rattle.std.proofs.Common.{ap}
use Rattle.simset.specs.Sets.{Simset}
use Rattle.simset.proofs.Closings.{kept-view, places-on, places-off}
use Rattle.simset.proofs.rings.Rings.is_placed.Goals as goal

pub returns-clause-yes : goal.returns-clause-yes
returns-clause-yes c = places-on _ _ _ _ _ (kept-view _ _ (ap (λ (v : Simset). v.sets) c.self.view_is) c.self.invariant) c.requires c.deref.ensures.value c.has_place.ensures

pub returns-clause-no : goal.returns-clause-no
returns-clause-no c = places-off _ _ _ _ _ (kept-view _ _ (ap (λ (v : Simset). v.sets) c.self.view_is) c.self.invariant) c.requires c.deref.ensures.value c.has_place.ensures

use Rattle.std.proofs.Common.{ap, ◌∙◌}
use Rattle.simset.specs.Sets.{Simset}
use Rattle.simset.proofs.Closings.{kept-view, read-pred}
use Rattle.simset.proofs.rings.Rings.pred.Goals as goal

pub returns : goal.returns
returns c = c.numbered.ensures ∙ read-pred _ _ _ _ _ _ (kept-view _ _ (ap (λ (v : Simset). v.sets) c.self.view_is) c.self.invariant) c.requires c.deref.ensures.value c.index.ensures c.link_of.ensures

use Rattle.std.proofs.Common.{length, ap, ◌∙◌, sym}
use Rattle.simset.specs.Sets.{Simset}
use Rattle.simset.proofs.Walks.{sets_of-kept}
use Rattle.simset.proofs.Keeps.{kept-sets_of}
use Rattle.simset.proofs.Closings.{kept-view, written-out}
use Rattle.simset.proofs.rings.Rings.leave.Goals as goal

pub invariant_of-self : goal.invariant_of-self
invariant_of-self c = kept-sets_of _ _ (written-out _ _ _ _ _ _ (kept-view _ _ (ap (λ (v : Simset). v.sets) c.self.view_is) c.self.invariant) c.deref_mut.ensures.value (sym c.deref_mut.ensures.len ∙ ap length c.deref_mut.ensures.value) c.requires c.take_out.ensures)

pub returns-clause-sets : goal.returns-clause-sets
returns-clause-sets c = sets_of-kept _ _ (written-out _ _ _ _ _ _ (kept-view _ _ (ap (λ (v : Simset). v.sets) c.self.view_is) c.self.invariant) c.deref_mut.ensures.value (sym c.deref_mut.ensures.len ∙ ap length c.deref_mut.ensures.value) c.requires c.take_out.ensures)

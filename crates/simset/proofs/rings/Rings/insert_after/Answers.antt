use Rattle.std.proofs.Common.{length, ap, ◌∙◌, sym}
use Rattle.simset.specs.Sets.{Simset}
use Rattle.simset.proofs.Walks.{sets_of-kept}
use Rattle.simset.proofs.Keeps.{kept-sets_of, placed_apart}
use Rattle.simset.proofs.Closings.{kept-view, written-after, places_one}
use Rattle.simset.proofs.rings.Rings.insert_after.Goals as goal

pub put_behind-requires-clause-apart : goal.put_behind-requires-clause-apart
put_behind-requires-clause-apart c = placed_apart _ _ _ c.requires.link c.requires.outside (places_one _ _ (kept-view _ _ (ap (λ (v : Simset). v.sets) c.self.view_is) c.self.invariant).proper c.requires.placed)

pub invariant_of-self : goal.invariant_of-self
invariant_of-self c = kept-sets_of _ _ (written-after _ _ _ _ _ _ _ (kept-view _ _ (ap (λ (v : Simset). v.sets) c.self.view_is) c.self.invariant) c.deref_mut.ensures.value (sym c.deref_mut.ensures.len ∙ ap length c.deref_mut.ensures.value) c.requires.link c.requires.outside c.requires.made c.requires.placed c.put_behind.ensures)

pub returns-clause-sets : goal.returns-clause-sets
returns-clause-sets c = sets_of-kept _ _ (written-after _ _ _ _ _ _ _ (kept-view _ _ (ap (λ (v : Simset). v.sets) c.self.view_is) c.self.invariant) c.deref_mut.ensures.value (sym c.deref_mut.ensures.len ∙ ap length c.deref_mut.ensures.value) c.requires.link c.requires.outside c.requires.made c.requires.placed c.put_behind.ensures)

use Rattle.std.proofs.Common.{ap, arith}
use Rattle.simset.specs.Sets.{Simset}
use Rattle.std.proofs.Common.{refl}
use Rattle.simset.proofs.Walks.{sets_of-kept}
use Rattle.simset.proofs.Keeps.{kept-sets_of}
use Rattle.simset.proofs.Closings.{kept-view, written-push}
use Rattle.simset.proofs.rings.Rings.add.Goals as goal

pub invariant_of-self : goal.invariant_of-self
invariant_of-self c = kept-sets_of _ _ (written-push c.self.inside.nodes.items c.push_reserved.new.self.items c.args.self.now.sets _ c.args.head (kept-view _ _ (ap (λ (v : Simset). v.sets) c.self.view_is) c.self.invariant) c.push_reserved.ensures.items (omega (arith, ap (λ (v : Simset). v.room) c.self.view_is, c.requires, (kept-view _ _ (ap (λ (v : Simset). v.sets) c.self.view_is) c.self.invariant).made)) (omega (arith, c.len-number.ensures)) (omega (arith, c.len-number.ensures)) refl)

pub returns-clause-sets : goal.returns-clause-sets
returns-clause-sets c = sets_of-kept _ _ (written-push c.self.inside.nodes.items c.push_reserved.new.self.items c.args.self.now.sets _ c.args.head (kept-view _ _ (ap (λ (v : Simset). v.sets) c.self.view_is) c.self.invariant) c.push_reserved.ensures.items (omega (arith, ap (λ (v : Simset). v.room) c.self.view_is, c.requires, (kept-view _ _ (ap (λ (v : Simset). v.sets) c.self.view_is) c.self.invariant).made)) (omega (arith, c.len-number.ensures)) (omega (arith, c.len-number.ensures)) refl)

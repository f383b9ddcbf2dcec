use Rattle.std.proofs.Common.{map, sym, subst, refl}
use Rattle.std.specs.Prelude.{None, slice_get}
use Rattle.sim_chains.specs.Components.{NoObject, kept_by}
use Rattle.sim_code.specs.Machine.{owner}
use Rattle.frame_arena.specs.declared.frames.Component.TheVariants as component
use Rattle.frame_arena.specs.Frames.{Has, StandsAs}
use Rattle.frame_arena.proofs.Enclosers.{index_there}
use Rattle.object_machine.specs.Standing.{activation_of}
use Rattle.object_machine.specs.Transferring.{Anew}
use Rattle.object_machine.proofs.Moving.{kept_other, stands_so}
use Rattle.object_machine.proofs.kept_chains.keep_above.Goals as goal

pub returns-in-NoObject-clause-stands : goal.returns-in-NoObject-clause-stands
returns-in-NoObject-clause-stands c number l before now o m chain has s work =
    let p = c.args.storage.now in
    let there : Has c.deref.result.now c.args.head number = subst (λ f. Has f c.args.head number) (sym c.deref.ensures.value) has in
    let stands = stands_so p.frames.items c.deref.result.now p.cells.items m c.args.head number c.component_at.result component.NoObject s.frames there c.deref.ensures.value c.component_at.ensures c.in-NoObject.is in
    subst (λ q. Anew l p c.keep_chain.new.storage before now o m (kept_by owner q number (map activation_of c.args.above.items) (record { operating = chain; standings = m.standings })).standings) (sym (index_there m.standings number (NoObject None) (NoObject None) stands))
    (c.keep_chain.ensures.stands number l before now o m has s work)

pub returns-in_default : goal.returns-in_default
returns-in_default c = record {
  texts = c.keep_by_object.ensures.texts;
  image = c.keep_by_object.ensures.image;
  has = c.keep_by_object.ensures.has;
  stands = λ number l before now o m chain has s work.
      let p = c.args.storage.now in
      let there : Has c.deref.result.now c.args.head number = subst (λ f. Has f c.args.head number) (sym c.deref.ensures.value) has in
      let stands : StandsAs c.component_at.result (slice_get m.standings number) = stands_so p.frames.items c.deref.result.now p.cells.items m c.args.head number c.component_at.result c.component_at.result s.frames there c.deref.ensures.value c.component_at.ensures refl in
      subst (λ w. Anew l p c.keep_by_object.new.storage before now o m w.standings) (sym (kept_other c.component_at.result m.standings number (map activation_of c.args.above.items) (record { operating = chain; standings = m.standings }) c.in_default.not-NoObject stands))
      (c.keep_by_object.ensures.stands l before now o m chain s work);
}

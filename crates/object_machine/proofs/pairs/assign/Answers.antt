use Rattle.std.proofs.Common.{◌∙◌, ◌-◌, ◌+◌, List, sym, subst, refl}
use Rattle.sim_code.specs.Events.{with_texts}
use Rattle.sim_code.specs.Machine.{Machine, Value, on}
use Rattle.sim_code.specs.Outcome.{Run, World}
use Rattle.object_machine.specs.declared.machine.Flow.TheVariants as flow
use Rattle.object_machine.specs.declared.machine.Storage.{Storage}
use Rattle.object_machine.specs.Standing.{Leaves, Obeys, activation_at, below_of}
use Rattle.object_machine.proofs.Going.{along, depth_goes_on, no_rule_in}
use Rattle.object_machine.proofs.PairRows.{assigning_row, image_stays, other_assigned, refused_leaves, refused_same, stands_texts, texts_assigned, texts_refused}
use Rattle.object_machine.proofs.pairs.assign.Goals as goal

pub returns-in-Ok-clause-images : goal.returns-in-Ok-clause-images
returns-in-Ok-clause-images c image h = image_stays c.args.texts.now c.assign.new.self image c.in-Ok.ensures.shapes h

pub returns-in-Err-clause-images : goal.returns-in-Err-clause-images
returns-in-Err-clause-images c image h = image_stays c.args.texts.now c.assign.new.self image c.in-Err.ensures.shapes h

pub returns-in-Ok-clause-row : goal.returns-in-Ok-clause-row
unfolding Obeys
returns-in-Ok-clause-row c l line p p2 below now e ep before o m s =
    let r = c.args.regs.now in
    let stack = c.args.stack.now in
    let at = r.depth - 2 in
    let go : World → List Value → Run Machine = λ w st. on w m (activation_at r stack) st (below_of below) in
    let h = c.in-Texts.ensures.read in
    let new = c.assign.new.self in
    let p3 : Storage = record p { texts = new } in
    let st = stands_texts l p r stack below before now o m new s in
    subst (λ z. Leaves flow.On l line z (record r { pc = r.pc + 1; depth = at }) stack below before now (assigning_row line o m r stack below)) (sym ep)
    (along l line p3 below before now _ _ _ _ _ (texts_assigned line o go r.depth stack c.in-Texts.left c.in-Texts.right c.args.texts.now new tt h.0 c.requires.fits h.1.0 h.2.0 (s.stores.world.texts ∙ e) c.in-Ok.ensures.step)
    (depth_goes_on l line p3 below before now r _ stack stack (with_texts o new) m at st refl (refl, refl, refl) refl refl st.top.slots st.top.arrays_lead))

pub returns-in-Err-clause-row : goal.returns-in-Err-clause-row
unfolding Obeys
returns-in-Err-clause-row c l line p p2 below now e ep before o m s =
    let r = c.args.regs.now in
    let stack = c.args.stack.now in
    let go : World → List Value → Run Machine = λ w st. on w m (activation_at r stack) st (below_of below) in
    let h = c.in-Texts.ensures.read in
    let new = c.assign.new.self in
    let same = refused_same c.args.texts.now new c.in-Texts.left c.in-Texts.right c.in-Err.error c.in-Err.ensures.step in
    subst (λ z. Leaves (flow.Fault c.in-Err.error) l line z r stack below before now (assigning_row line o m r stack below)) (sym ep)
    (along l line (record p { texts = new }) below before now _ _ _ _ _ (texts_refused line o go r.depth stack c.in-Texts.left c.in-Texts.right c.args.texts.now new c.in-Err.error h.0 c.requires.fits h.1.0 h.2.0 (s.stores.world.texts ∙ e) c.in-Err.ensures.step)
    (refused_leaves l line p r stack below before now o m new c.in-Err.error s (s.stores.world.texts ∙ e ∙ sym same)))

pub returns-in-Other-clause-row : goal.returns-in-Other-clause-row
unfolding Obeys
returns-in-Other-clause-row c l line p p2 below now e ep before o m s =
    let r = c.args.regs.now in
    let stack = c.args.stack.now in
    let go : World → List Value → Run Machine = λ w st. on w m (activation_at r stack) st (below_of below) in
    no_rule_in l line p p2 below before now _ _ _ _ o m s (other_assigned line o go c.args.texts.now r.depth stack c.requires.fits c.in-Other.ensures.read)

pub returns-in-Stale-clause-row : goal.returns-in-Stale-clause-row
unfolding Obeys Leaves
returns-in-Stale-clause-row c l line p p2 below now e ep before o m s = tt

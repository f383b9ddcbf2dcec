use Rattle.std.proofs.Common.{◌∷◌, ◌∙◌, ◌-◌, ◌+◌, ◌<◌, ◌≤◌, List, length, length-set, set, ap, sym, refl, arith}
use Rattle.sim_values.specs.Operators.{two_of}
use Rattle.sim_values.specs.Plain.{Plain, Text, Truth}
use Rattle.sim_code.specs.Machine.{Machine, Of, Value, on}
use Rattle.sim_code.specs.Outcome.{Run}
use Rattle.frame_arena.specs.Stacks.{values_of}
use Rattle.object_machine.specs.Pairs.{relating_by}
use Rattle.object_machine.specs.Standing.{Leaves, Obeys, activation_at, below_of}
use Rattle.object_machine.proofs.ArrayRows.{lead_arrays_put, lead_put, put_at}
use Rattle.object_machine.proofs.Going.{along, depth_goes_on, none}
use Rattle.object_machine.proofs.PairRows.{both_related, on_texts_by, other_related}
use Rattle.object_machine.proofs.Scalars.{scalar_leads, scalar_leads_array}
use Rattle.object_machine.proofs.pairs.relate.Goals as goal

pub returns-in-Texts-clause-row : goal.returns-in-Texts-clause-row
unfolding Obeys
returns-in-Texts-clause-row c l line p below now e before o m s =
    let r = c.args.regs.now in
    let stack = c.args.stack.now in
    let at = r.depth - 2 in
    let slot = c.truth-slot.result in
    let go : Plain → List Value → Run Machine = λ z st. on o m (activation_at r stack) (Of z ∷ st) (below_of below) in
    let h = c.in-Texts.ensures.read in
    let left = c.in-Texts.left in
    let right = c.in-Texts.right in
    let b = c.related.result in
    let h0 = h.0 in
    let fits = c.requires.fits in
    let within : at < length stack = omega (arith, h0, fits) in
    let deep : at + 1 ≤ length stack = omega (arith, h0, fits) in
    let same = s.stores.world.texts ∙ e in
    along l line p below before now _ _ _ _ _
    (both_related line o (relating_by c.args.relation) (on_texts_by c.args.relation) go r.depth stack left right b h.0 c.requires.fits h.1.0 h.2.0 (ap (λ f. two_of (relating_by c.args.relation) f (Text left) (Text right)) same ∙ c.related.ensures.says)
    ∙ ap (λ v. on o m (activation_at r stack) (v ∷ values_of at stack) (below_of below)) (sym c.truth-slot.ensures.value)
    ∙ ap (λ st. on o m (activation_at r stack) st (below_of below)) (put_at (at + 1) at stack slot refl deep))
    (depth_goes_on l line p below before now r _ stack (set stack at slot) o m (at + 1) s (length-set stack at slot) (refl, refl, refl) refl refl
    (lead_put p.frames.items m stack at slot within s.top.slots (scalar_leads p.frames.items m slot (Truth b) c.truth-slot.ensures.value refl))
    (lead_arrays_put p.arrays.regions o.arrays stack at slot within s.top.arrays_lead (scalar_leads_array p.arrays.regions o.arrays slot (Truth b) c.truth-slot.ensures.value refl)))

pub returns-in-Other-clause-row : goal.returns-in-Other-clause-row
unfolding Obeys
returns-in-Other-clause-row c l line p below now e before o m s =
    let r = c.args.regs.now in
    let stack = c.args.stack.now in
    let go : Plain → List Value → Run Machine = λ z st. on o m (activation_at r stack) (Of z ∷ st) (below_of below) in
    along l line p below before now _ _ _ _ _ (other_related line o (relating_by c.args.relation) (on_texts_by c.args.relation) go c.args.texts.now r.depth stack c.requires.fits c.in-Other.ensures.read) (none l line p below before now _ r _ stack o m s)

pub returns-in-Stale-clause-row : goal.returns-in-Stale-clause-row
unfolding Obeys Leaves
returns-in-Stale-clause-row c l line p below now e before o m s = tt

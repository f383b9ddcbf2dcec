use Rattle.std.proofs.Common.{◌≡◌, ℕ, sym, subst, ap, ◌∙◌}
use Rattle.std.proofs.lemmas.Option.{same_Some}
use Rattle.std.specs.Option.{ForSome}
use Rattle.std.specs.Prelude.{length, Err, Option, Some, slice_get}
use Rattle.notices.specs.declared.activation.ProcessRef.{ProcessRef}
use Rattle.notices.specs.Scheduling.{activated}
use Rattle.sim_values.specs.Plain.{Plain}
use Rattle.sim_code.specs.Classes.{in_process}
use Rattle.sim_code.specs.Events.{having}
use Rattle.sim_code.specs.Machine.{link_in, plain}
use Rattle.sim_code.specs.Outcome.{Simulation}
use Rattle.sim_code.specs.Scheduling.{performing_activation, placement}
use Rattle.sim_code.specs.Simulations.{seen}
use Rattle.frame_arena.specs.Slots.{value_of}
use Rattle.frame_arena.specs.Stacks.{slot_at, values_of}
use Rattle.object_machine.specs.Activating.{Places, operand_in, timing_as}
use Rattle.object_machine.specs.Simulating.{simulation_of}
use Rattle.object_machine.specs.Telling.{IsOneOf, Sees, bound}
use Rattle.object_machine.proofs.ActivationRows.{At_block, At_process, Behind, There, acting_row, done_so, having_each, having_nowhere, process_popped, takes_missing, unplaced, unseen}
use Rattle.object_machine.proofs.Jumps.{found_at}
use Rattle.object_machine.proofs.SimulationRows.{block_below, block_below_missing}
use Rattle.object_machine.proofs.activations.take_activation.Goals as goal

pub returns-in_default-clause-row : goal.returns-in_default-clause-row
returns-in_default-clause-row c code cells o m blocks classes holds s leads decide =
    let t = c.args.form.timing in
    let again = c.args.form.again in
    let stack = c.args.stack.now in
    let S : ℕ → Simulation → Plain → Option (Option ProcessRef) = λ b x p. seen (in_process code m b) x p in
    let B = Behind S again t o decide in
    acting_row code m again t (values_of c.args.depth stack) o decide ∙ c.in_default.ensures.row o B

pub returns-in_default-pop-clause-row : goal.returns-in_default-pop-clause-row
returns-in_default-pop-clause-row c code cells o m blocks classes holds s leads decide =
    let t = c.args.form.timing in
    let again = c.args.form.again in
    let stack = c.args.stack.now in
    let S : ℕ → Simulation → Plain → Option (Option ProcessRef) = λ b x p. seen (in_process code m b) x p in
    let B = Behind S again t o decide in
    let under = c.in-Some.operand.under in
    let q0 = operand_in t (value_of c.in-Some.operand.slot) in
    let start : performing_activation plain link_in (in_process code m) again (timing_as t) (values_of c.args.depth stack) o decide ≡ having q0 o (λ w. B w (values_of under stack)) =
    acting_row code m again t (values_of c.args.depth stack) o decide ∙ c.in-Some.ensures.row o B in
    start ∙ having_nowhere o q0 (λ w. B w (values_of under stack)) (λ w.
    process_popped S again t o decide w (values_of under stack) ∙ c.in_default-pop.ensures.row o (At_process S again t o decide w))

pub returns-in_default-take_block-clause-row : goal.returns-in_default-take_block-clause-row
returns-in_default-take_block-clause-row c code cells o m blocks classes holds s leads decide =
    let t = c.args.form.timing in
    let again = c.args.form.again in
    let stack = c.args.stack.now in
    let S : ℕ → Simulation → Plain → Option (Option ProcessRef) = λ b x p. seen (in_process code m b) x p in
    let B = Behind S again t o decide in
    let under = c.in-Some.operand.under in
    let q0 = operand_in t (value_of c.in-Some.operand.slot) in
    let start : performing_activation plain link_in (in_process code m) again (timing_as t) (values_of c.args.depth stack) o decide ≡ having q0 o (λ w. B w (values_of under stack)) =
    acting_row code m again t (values_of c.args.depth stack) o decide ∙ c.in-Some.ensures.row o B in
    let at = c.in-Some-pop.at in
    let v = plain (value_of (slot_at stack at)) in
    let rest = values_of at stack in
    let behind : (w : Option Plain) → B w (values_of under stack) ≡ At_process S again t o decide w (value_of (slot_at stack at)) rest = λ w.
    process_popped S again t o decide w (values_of under stack) ∙ c.in-Some-pop.ensures.row o (At_process S again t o decide w) in
    start ∙ having_nowhere o q0 (λ w. B w (values_of under stack)) (λ w.
    behind w ∙ block_below_missing o v rest (At_block S again t o decide w) (c.in_default-take_block.ensures.row o s.rises s.is))

pub returns-in-Err-clause-row : goal.returns-in-Err-clause-row
returns-in-Err-clause-row c code cells o m blocks classes holds s leads =
    takes_missing c.in-Err.missing c.args.simulations.now c.args.form code m o c.args.depth c.args.stack.now (λ e decide.
    let t = c.args.form.timing in
    let again = c.args.form.again in
    let stack = c.args.stack.now in
    let S : ℕ → Simulation → Plain → Option (Option ProcessRef) = λ b x p. seen (in_process code m b) x p in
    let B = Behind S again t o decide in
    let under = c.in-Some.operand.under in
    let q0 = operand_in t (value_of c.in-Some.operand.slot) in
    let start : performing_activation plain link_in (in_process code m) again (timing_as t) (values_of c.args.depth stack) o decide ≡ having q0 o (λ w. B w (values_of under stack)) =
    acting_row code m again t (values_of c.args.depth stack) o decide ∙ c.in-Some.ensures.row o B in
    let at = c.in-Some-pop.at in
    let v = plain (value_of (slot_at stack at)) in
    let rest = values_of at stack in
    let behind : (w : Option Plain) → B w (values_of under stack) ≡ At_process S again t o decide w (value_of (slot_at stack at)) rest = λ w.
    process_popped S again t o decide w (values_of under stack) ∙ c.in-Some-pop.ensures.row o (At_process S again t o decide w) in
    let q = c.in-Some-take_block.block in
    let y = c.index-simulations-block.result in
    let x = simulation_of y in
    let rest2 = values_of q.under stack in
    let there : slice_get c.args.simulations.now q.place ≡ Some y = found_at c.args.simulations.now q.place y c.in-Some-take_block.ensures.within c.index-simulations-block.is in
    let one = s.each q.place y there in
    let all_there : performing_activation plain link_in (in_process code m) again (timing_as t) (values_of c.args.depth stack) o decide ≡ There S again t o decide q0 v y.block.stamp (q.place, x) rest2 =
    start ∙ having_each o q0 (λ w. B w (values_of under stack)) (λ w. having v o (λ p. At_block S again t o decide w p y.block.stamp (q.place, x) rest2)) (λ w.
    behind w ∙ block_below o v rest (At_block S again t o decide w) y.block.stamp (q.place, x) rest2 (c.in-Some-take_block.ensures.row o s.rises s.is y there)) in
    let sight = S y.block.stamp x in
    let sees : Sees c.seen.result (bound v sight) = c.seen.ensures.row code cells m blocks classes holds one (leads at) in
    all_there ∙ unseen S again t o decide q0 v y.block.stamp (q.place, x) rest2 (subst (λ k. Sees (Err k) (bound v sight)) e (subst (λ r. Sees r (bound v sight)) c.in-Err.is sees)))

pub returns-in-Err-place_in-clause-row : goal.returns-in-Err-place_in-clause-row
returns-in-Err-place_in-clause-row c code cells o m blocks classes holds s leads =
    takes_missing c.in-Err-place_in.missing c.args.simulations.now c.args.form code m o c.args.depth c.args.stack.now (λ e decide.
    let t = c.args.form.timing in
    let again = c.args.form.again in
    let stack = c.args.stack.now in
    let S : ℕ → Simulation → Plain → Option (Option ProcessRef) = λ b x p. seen (in_process code m b) x p in
    let B = Behind S again t o decide in
    let under = c.in-Some.operand.under in
    let q0 = operand_in t (value_of c.in-Some.operand.slot) in
    let start : performing_activation plain link_in (in_process code m) again (timing_as t) (values_of c.args.depth stack) o decide ≡ having q0 o (λ w. B w (values_of under stack)) =
    acting_row code m again t (values_of c.args.depth stack) o decide ∙ c.in-Some.ensures.row o B in
    let at = c.in-Some-pop.at in
    let v = plain (value_of (slot_at stack at)) in
    let rest = values_of at stack in
    let behind : (w : Option Plain) → B w (values_of under stack) ≡ At_process S again t o decide w (value_of (slot_at stack at)) rest = λ w.
    process_popped S again t o decide w (values_of under stack) ∙ c.in-Some-pop.ensures.row o (At_process S again t o decide w) in
    let q = c.in-Some-take_block.block in
    let y = c.index-simulations-block.result in
    let x = simulation_of y in
    let rest2 = values_of q.under stack in
    let there : slice_get c.args.simulations.now q.place ≡ Some y = found_at c.args.simulations.now q.place y c.in-Some-take_block.ensures.within c.index-simulations-block.is in
    let one = s.each q.place y there in
    let all_there : performing_activation plain link_in (in_process code m) again (timing_as t) (values_of c.args.depth stack) o decide ≡ There S again t o decide q0 v y.block.stamp (q.place, x) rest2 =
    start ∙ having_each o q0 (λ w. B w (values_of under stack)) (λ w. having v o (λ p. At_block S again t o decide w p y.block.stamp (q.place, x) rest2)) (λ w.
    behind w ∙ block_below o v rest (At_block S again t o decide w) y.block.stamp (q.place, x) rest2 (c.in-Some-take_block.ensures.row o s.rises s.is y there)) in
    let sight = S y.block.stamp x in
    let sees : Sees c.seen.result (bound v sight) = c.seen.ensures.row code cells m blocks classes holds one (leads at) in
    let z = c.in-Ok.process in
    let seen_z : bound v sight ≡ Some z = subst (λ r. Sees r (bound v sight)) c.in-Ok.is sees in
    let spot = bound q0 (λ w. placement (timing_as t) sight w) in
    let places : Places c.place_in.result spot = c.place_in.ensures.row code cells m blocks classes holds one (c.in-Some.ensures.leads c.args.frames.now m leads) in
    all_there ∙ unplaced S again t o decide q0 v y.block.stamp (q.place, x) rest2 z seen_z (subst (λ k. Places (Err k) spot) e (subst (λ r. Places r spot) c.in-Err-place_in.is places)))

pub returns-clause-within : goal.returns-clause-within
returns-clause-within c y2 there2 =
    let q = c.in-Some-take_block.block in
    let y = c.index-simulations-block.result in
    let there : slice_get c.args.simulations.now q.place ≡ Some y = found_at c.args.simulations.now q.place y c.in-Some-take_block.ensures.within c.index-simulations-block.is in
    subst (λ k. ForSome c.in-Ok.process (IsOneOf (length k.processes.items))) (same_Some _ _ (sym there ∙ there2)) c.in-Ok.ensures.within

pub returns-clause-row : goal.returns-clause-row
returns-clause-row c code cells o m blocks classes holds s leads y2 there2 decide =
    let t = c.args.form.timing in
    let again = c.args.form.again in
    let stack = c.args.stack.now in
    let S : ℕ → Simulation → Plain → Option (Option ProcessRef) = λ b x p. seen (in_process code m b) x p in
    let B = Behind S again t o decide in
    let under = c.in-Some.operand.under in
    let q0 = operand_in t (value_of c.in-Some.operand.slot) in
    let start : performing_activation plain link_in (in_process code m) again (timing_as t) (values_of c.args.depth stack) o decide ≡ having q0 o (λ w. B w (values_of under stack)) =
    acting_row code m again t (values_of c.args.depth stack) o decide ∙ c.in-Some.ensures.row o B in
    let at = c.in-Some-pop.at in
    let v = plain (value_of (slot_at stack at)) in
    let rest = values_of at stack in
    let behind : (w : Option Plain) → B w (values_of under stack) ≡ At_process S again t o decide w (value_of (slot_at stack at)) rest = λ w.
    process_popped S again t o decide w (values_of under stack) ∙ c.in-Some-pop.ensures.row o (At_process S again t o decide w) in
    let q = c.in-Some-take_block.block in
    let y = c.index-simulations-block.result in
    let x = simulation_of y in
    let rest2 = values_of q.under stack in
    let there : slice_get c.args.simulations.now q.place ≡ Some y = found_at c.args.simulations.now q.place y c.in-Some-take_block.ensures.within c.index-simulations-block.is in
    let one = s.each q.place y there in
    let all_there : performing_activation plain link_in (in_process code m) again (timing_as t) (values_of c.args.depth stack) o decide ≡ There S again t o decide q0 v y.block.stamp (q.place, x) rest2 =
    start ∙ having_each o q0 (λ w. B w (values_of under stack)) (λ w. having v o (λ p. At_block S again t o decide w p y.block.stamp (q.place, x) rest2)) (λ w.
    behind w ∙ block_below o v rest (At_block S again t o decide w) y.block.stamp (q.place, x) rest2 (c.in-Some-take_block.ensures.row o s.rises s.is y there)) in
    let sight = S y.block.stamp x in
    let sees : Sees c.seen.result (bound v sight) = c.seen.ensures.row code cells m blocks classes holds one (leads at) in
    let z = c.in-Ok.process in
    let seen_z : bound v sight ≡ Some z = subst (λ r. Sees r (bound v sight)) c.in-Ok.is sees in
    let spot = bound q0 (λ w. placement (timing_as t) sight w) in
    let places : Places c.place_in.result spot = c.place_in.ensures.row code cells m blocks classes holds one (c.in-Some.ensures.leads c.args.frames.now m leads) in
    let where_to = c.in-Ok-place_in.placement in
    all_there ∙ done_so S again t o decide q0 v y.block.stamp (q.place, x) rest2 z where_to seen_z (subst (λ r. Places r spot) c.in-Ok-place_in.is places)
    ∙ ap (λ k. decide o (q.place, simulation_of k) (activated (record { process = z; again = again; placement = where_to }) k.sim.notices) rest2) (same_Some _ _ (sym there ∙ there2))

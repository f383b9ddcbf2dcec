use Rattle.std.proofs.Common.{◌≡◌, ◌∷◌, ◌<◌, List, length, set, ◌∙◌, ap, sym, subst, refl, arith, length-set}
use Rattle.sim_code.specs.Events.{having}
use Rattle.sim_code.specs.Machine.{Machine, Value, on, place_in, value_at}
use Rattle.sim_code.specs.Outcome.{Run}
use Rattle.frame_arena.specs.Arrays.{AllLeadArrays, ElementsLead, HoldsArrays, SlotLeadsArray}
use Rattle.frame_arena.specs.Frames.{AllLead, Holds, SlotLeads}
use Rattle.frame_arena.specs.Slots.{value_of}
use Rattle.frame_arena.specs.Stacks.{slot_at, values_of}
use Rattle.object_machine.specs.Standing.{Obeys, activation_at, below_of, ports_in, ports_of}
use Rattle.object_machine.proofs.ArrayRows.{fetched_none, fetched_some, lead_arrays_put, lead_put, put_at}
use Rattle.object_machine.proofs.Going.{along, depth_goes_on, none}
use Rattle.object_machine.proofs.arrays.fetch.Goals as goal

pub returns-in_default-clause-row : goal.returns-in_default-clause-row
unfolding Obeys
returns-in_default-clause-row c l line p below now e1 e2 e3 e4 before o m s =
    let F : List Value → Value → Run Machine = λ st v. on o m (activation_at c.args.regs.now c.args.stack.now) (v ∷ st) (below_of below) in
    let go : Value → List Value → Run Machine = λ v st. having (place_in v) o (λ place. having (value_at o m place) o (F st)) in
    along l line p below before now _ _ _ _ _ (c.in_default.ensures.row o go) (none l line p below before now _ c.args.regs.now _ c.args.stack.now o m s)

pub returns-in_default-value_at-clause-row : goal.returns-in_default-value_at-clause-row
unfolding Obeys
returns-in_default-value_at-clause-row c l line p below now e1 e2 e3 e4 before o m s =
    let stack = c.args.stack.now in
    let at = c.in-Some.at in
    let F : List Value → Value → Run Machine = λ st v. on o m (activation_at c.args.regs.now stack) (v ∷ st) (below_of below) in
    let go : Value → List Value → Run Machine = λ v st. having (place_in v) o (λ place. having (value_at o m place) o (F st)) in
    let h : Holds c.args.frames.now c.args.cells.now m = subst (λ x. Holds c.args.frames.now x m) e2 (subst (λ x. Holds x p.cells.items m) e1 s.stores.frames) in
    let ha = subst (λ a. HoldsArrays a o.arrays) e3 s.stores.arrays in
    let ports = subst (λ i. ports_in o.store ≡ ports_of i now.source) e4 s.stores.world.image in
    let lead = subst (λ x. SlotLeads x m (slot_at stack at)) e1 (s.top.slots at) in
    let lead2 = subst (λ a. SlotLeadsArray a.regions o.arrays (slot_at stack at)) e3 (s.top.arrays_lead at) in
    along l line p below before now _ _ _ _ _ (c.in-Some.ensures.row o go ∙ fetched_none o m (F (values_of at stack)) (place_in (value_of (slot_at stack at))) (c.in_default-value_at.ensures.value o m now.source h ha ports lead lead2))
    (none l line p below before now _ c.args.regs.now _ stack o m s)

pub returns-clause-row : goal.returns-clause-row
unfolding Obeys
returns-clause-row c l line p below now e1 e2 e3 e4 before o m s =
    let stack = c.args.stack.now in
    let at = c.in-Some.at in
    let slot = c.in-Some-value_at.value in
    let F : List Value → Value → Run Machine = λ st v. on o m (activation_at c.args.regs.now stack) (v ∷ st) (below_of below) in
    let go : Value → List Value → Run Machine = λ v st. having (place_in v) o (λ place. having (value_at o m place) o (F st)) in
    let h : Holds c.args.frames.now c.args.cells.now m = subst (λ x. Holds c.args.frames.now x m) e2 (subst (λ x. Holds x p.cells.items m) e1 s.stores.frames) in
    let ha = subst (λ a. HoldsArrays a o.arrays) e3 s.stores.arrays in
    let ports = subst (λ i. ports_in o.store ≡ ports_of i now.source) e4 s.stores.world.image in
    let lead = subst (λ x. SlotLeads x m (slot_at stack at)) e1 (s.top.slots at) in
    let lead2 = subst (λ a. SlotLeadsArray a.regions o.arrays (slot_at stack at)) e3 (s.top.arrays_lead at) in
    let cells : AllLead c.args.frames.now m c.args.cells.now = h.links in
    let elements = subst (λ a. ElementsLead c.args.frames.now m a.regions) e3 (subst (λ x. ElementsLead x m p.arrays.regions) e1 s.stores.elements) in
    let cells2 = subst (λ x. AllLeadArrays c.args.arrays.now.regions o.arrays x) e2 (subst (λ a. AllLeadArrays a.regions o.arrays p.cells.items) e3 s.stores.cells) in
    let here : SlotLeads p.frames.items m slot = subst (λ x. SlotLeads x m slot) (sym e1) (c.in-Some-value_at.ensures.leads m cells elements) in
    let here2 : SlotLeadsArray p.arrays.regions o.arrays slot = subst (λ a. SlotLeadsArray a.regions o.arrays slot) (sym e3) (c.in-Some-value_at.ensures.leads_arrays o.arrays ha cells2) in
    let d = c.in-Some.ensures.shallower in
    let below_length : at < length stack = let f = c.requires.fits in omega (arith, d, f) in
    along l line p below before now _ _ _ _ _
    (c.in-Some.ensures.row o go ∙ fetched_some o m (F (values_of at stack)) (place_in (value_of (slot_at stack at))) (value_of slot) (c.in-Some-value_at.ensures.value o m now.source h ha ports lead lead2)
    ∙ ap (λ st. on o m (activation_at c.args.regs.now stack) st (below_of below)) (put_at c.args.regs.now.depth at stack slot d c.requires.fits))
    (depth_goes_on l line p below before now c.args.regs.now _ stack (set stack at slot) o m c.args.regs.now.depth s (length-set stack at slot) (refl, refl, refl) refl refl
    (lead_put p.frames.items m stack at slot below_length s.top.slots here) (lead_arrays_put p.arrays.regions o.arrays stack at slot below_length s.top.arrays_lead here2))

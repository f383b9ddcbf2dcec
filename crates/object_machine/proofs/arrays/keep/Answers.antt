use Rattle.std.proofs.Common.{◌∷◌, ◌+◌, List, ◌∙◌, ap, sym, subst, refl}
use Rattle.sim_code.specs.Arrays.{keeping_array}
use Rattle.sim_code.specs.Events.{having, popping}
use Rattle.sim_code.specs.Machine.{Machine, Value, array_in, on}
use Rattle.sim_code.specs.Outcome.{Run, World}
use Rattle.frame_arena.specs.Arrays.{ElementsLead, HoldsArrays, KeepLeadingAfter, SlotLeadsArray, kept_world}
use Rattle.frame_arena.specs.Slots.{value_of}
use Rattle.frame_arena.specs.Stacks.{slot_at, values_of}
use Rattle.object_machine.specs.declared.machine.Flow.TheVariants as flow
use Rattle.object_machine.specs.declared.machine.Storage.{Storage}
use Rattle.object_machine.specs.Standing.{Leaves, Obeys, activation_at, below_of}
use Rattle.object_machine.proofs.ArrayRows.{keeping, keeping_none, top_at}
use Rattle.object_machine.proofs.Going.{along, depth_goes_on, no_rule_in}
use Rattle.object_machine.proofs.Having.{having_none, having_some}
use Rattle.object_machine.proofs.arrays.keep.Goals as goal

pub returns-in_default-clause-row : goal.returns-in_default-clause-row
unfolding Obeys
returns-in_default-clause-row c l line p p2 below now e ep before o m s =
    let r = c.args.regs.now in
    let stack = c.args.stack.now in
    let kept : List Value → Value → World → Run Machine = λ st v w. on w m (activation_at r stack) (v ∷ st) (below_of below) in
    let go : Value → List Value → Run Machine = λ v st. having (array_in v) o (λ array. keeping_array array o (kept st v)) in
    no_rule_in l line p p2 below before now _ _ _ _ o m s (c.in_default.ensures.row o go)

pub returns-in_default-as_array-clause-row : goal.returns-in_default-as_array-clause-row
unfolding Obeys
returns-in_default-as_array-clause-row c l line p p2 below now e ep before o m s =
    let r = c.args.regs.now in
    let stack = c.args.stack.now in
    let kept : List Value → Value → World → Run Machine = λ st v w. on w m (activation_at r stack) (v ∷ st) (below_of below) in
    let go : Value → List Value → Run Machine = λ v st. having (array_in v) o (λ array. keeping_array array o (kept st v)) in
    no_rule_in l line p p2 below before now _ _ _ _ o m s (c.in-Some.ensures.row o go ∙ having_none (array_in (value_of (slot_at stack c.in-Some.at))) o _ c.in_default-as_array.ensures.number)

pub returns-clause-row : goal.returns-clause-row
unfolding Obeys
returns-clause-row c l line p p2 below now e ep before o m s =
    let r = c.args.regs.now in
    let stack = c.args.stack.now in
    let kept : List Value → Value → World → Run Machine = λ st v w. on w m (activation_at r stack) (v ∷ st) (below_of below) in
    let go : Value → List Value → Run Machine = λ v st. having (array_in v) o (λ array. keeping_array array o (kept st v)) in
    let at = c.in-Some.at in
    let v = value_of (slot_at stack at) in
    let array = c.in-Some-as_array.array in
    let K = kept (values_of at stack) v in
    let begun = c.in-Some.ensures.row o go ∙ having_some (array_in v) array.stamp o _ c.in-Some-as_array.ensures.number ∙ c.if-keep.ensures.row o K in
    let lead = c.in-Some-as_array.ensures.leads c.args.arrays.now.regions o.arrays (subst (λ a. SlotLeadsArray a.regions o.arrays (slot_at stack at)) e (s.top.arrays_lead at)) in
    let holds = subst (λ a. HoldsArrays a o.arrays) e s.stores.arrays in
    let elements = c.if-keep.ensures.elements p.frames.items m (subst (λ a. ElementsLead p.frames.items m a.regions) e s.stores.elements) in
    no_rule_in l line p p2 below before now _ _ _ _ o m s
    (begun ∙ having_none (kept_world o array.stamp) o K (sym (keeping_none l p r stack below before now o m c.keep.new.self array.stamp s elements (c.if-keep.ensures.holds o holds lead))))

pub returns-then-keep-clause-row : goal.returns-then-keep-clause-row
unfolding Obeys
returns-then-keep-clause-row c l line p p2 below now e ep before o m s =
    let r = c.args.regs.now in
    let stack = c.args.stack.now in
    let kept : List Value → Value → World → Run Machine = λ st v w. on w m (activation_at r stack) (v ∷ st) (below_of below) in
    let go : Value → List Value → Run Machine = λ v st. having (array_in v) o (λ array. keeping_array array o (kept st v)) in
    let at = c.in-Some.at in
    let v = value_of (slot_at stack at) in
    let array = c.in-Some-as_array.array in
    let K = kept (values_of at stack) v in
    let begun = c.in-Some.ensures.row o go ∙ having_some (array_in v) array.stamp o _ c.in-Some-as_array.ensures.number ∙ c.if-keep.ensures.row o K in
    let lead = c.in-Some-as_array.ensures.leads c.args.arrays.now.regions o.arrays (subst (λ a. SlotLeadsArray a.regions o.arrays (slot_at stack at)) e (s.top.arrays_lead at)) in
    let holds = subst (λ a. HoldsArrays a o.arrays) e s.stores.arrays in
    let elements = c.if-keep.ensures.elements p.frames.items m (subst (λ a. ElementsLead p.frames.items m a.regions) e s.stores.elements) in
    let keeps = subst (λ a. KeepLeadingAfter a o.arrays c.keep.new.self (kept_world o array.stamp)) (sym e) (c.if-keep.ensures.leads o holds) in
    let after = c.if-keep.ensures.holds o holds lead in
    let k = keeping l p r stack below before now o m c.keep.new.self array.stamp s elements after keeps in
    let p3 : Storage = record p { arrays = c.keep.new.self } in
    subst (λ x. Leaves flow.On l line x (record r { pc = r.pc + 1 }) stack below before now (popping (values_of r.depth stack) o go)) (sym ep)
    (along l line p3 below before now _ _ _ _ _ (begun ∙ having_some (kept_world o array.stamp) k.world o K (sym k.there) ∙ ap (λ st. on k.world m (activation_at r stack) st (below_of below)) (top_at r.depth at stack c.in-Some.ensures.shallower c.requires.fits))
    (depth_goes_on l line p3 below before now r _ stack stack k.world m r.depth k.stands refl (refl, refl, refl) refl refl k.stands.top.slots k.stands.top.arrays_lead))

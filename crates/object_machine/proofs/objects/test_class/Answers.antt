use Rattle.std.proofs.Common.{rules, to_z, of_z, w64, ◌≡◌, ◌∷◌, ◌<◌, ℕ, List, length, set, length-set, ap, sym, subst, refl, arith, ◌∙◌}
use Rattle.std.specs.Prelude.{Bool, Option}
use Rattle.sim_values.specs.Plain.{Plain, Truth}
use Rattle.sim_code.specs.Classes.{class_named}
use Rattle.sim_code.specs.Events.{having, pop_plain}
use Rattle.sim_code.specs.Machine.{Machine, Of, Value, on, plain}
use Rattle.sim_code.specs.Outcome.{Run}
use Rattle.frame_arena.specs.Frames.{Holds, SlotLeads}
use Rattle.frame_arena.specs.Slots.{value_of}
use Rattle.frame_arena.specs.Stacks.{slot_at, values_of}
use Rattle.object_machine.specs.Classing.{tested, tests}
use Rattle.object_machine.specs.Standing.{Obeys, activation_at, below_of}
use Rattle.object_machine.proofs.ArrayRows.{lead_arrays_put, lead_put, put_at}
use Rattle.object_machine.proofs.ClassRows.{popping_test, test_of, test_popped}
use Rattle.object_machine.proofs.Going.{along, depth_goes_on, no_rule_in}
use Rattle.object_machine.proofs.Having.{having_none, having_some}
use Rattle.object_machine.proofs.Scalars.{scalar_leads, scalar_leads_array}
use Rattle.object_machine.proofs.objects.test_class.Goals as goal

pub returns-in_default-clause-row : goal.returns-in_default-clause-row
unfolding Obeys
returns-in_default-clause-row c code l line p below now e1 e2 e3 before o m s =
    let en : to_z w64 (of_z w64 c.args.operand) ≡ c.args.operand = search rules in
    let r = c.args.regs.now in
    let stack = c.args.stack.now in
    let F : ℕ → Plain → Option Bool = λ k. tests c.args.same code m k in
    let T : Bool → List Value → Run Machine = λ h st. on o m (activation_at r stack) (Of (Truth h) ∷ st) (below_of below) in
    let R : ℕ → Run Machine = λ k. pop_plain plain (values_of r.depth stack) o (λ v st. having (F k v) o (λ h. T h st)) in
    no_rule_in l line p p below before now _ _ _ _ o m s (having_none (class_named code c.args.operand) o R (c.in_default.ensures.row code e2 ∙ ap (class_named code) en))

pub returns-in_default-pop-clause-row : goal.returns-in_default-pop-clause-row
unfolding Obeys
returns-in_default-pop-clause-row c code l line p below now e1 e2 e3 before o m s =
    let en : to_z w64 (of_z w64 c.args.operand) ≡ c.args.operand = search rules in
    let r = c.args.regs.now in
    let stack = c.args.stack.now in
    let F : ℕ → Plain → Option Bool = λ k. tests c.args.same code m k in
    let T : Bool → List Value → Run Machine = λ h st. on o m (activation_at r stack) (Of (Truth h) ∷ st) (below_of below) in
    let R : ℕ → Run Machine = λ k. pop_plain plain (values_of r.depth stack) o (λ v st. having (F k v) o (λ h. T h st)) in
    let k = c.in-Some.class in
    let named = having_some (class_named code c.args.operand) k o R (c.in-Some.ensures.row code e2 ∙ ap (class_named code) en) ∙ popping_test (values_of r.depth stack) o (F k) T in
    no_rule_in l line p p below before now _ _ _ _ o m s (named ∙ c.in_default-pop.ensures.row o (test_of o (F k) T))

pub returns-in_default-test-clause-row : goal.returns-in_default-test-clause-row
unfolding Obeys
returns-in_default-test-clause-row c code l line p below now e1 e2 e3 before o m s =
    let en : to_z w64 (of_z w64 c.args.operand) ≡ c.args.operand = search rules in
    let r = c.args.regs.now in
    let stack = c.args.stack.now in
    let F : ℕ → Plain → Option Bool = λ k. tests c.args.same code m k in
    let T : Bool → List Value → Run Machine = λ h st. on o m (activation_at r stack) (Of (Truth h) ∷ st) (below_of below) in
    let R : ℕ → Run Machine = λ k. pop_plain plain (values_of r.depth stack) o (λ v st. having (F k v) o (λ h. T h st)) in
    let k = c.in-Some.class in
    let named = having_some (class_named code c.args.operand) k o R (c.in-Some.ensures.row code e2 ∙ ap (class_named code) en) ∙ popping_test (values_of r.depth stack) o (F k) T in
    let at = c.in-Some-pop.at in
    let v = value_of (slot_at stack at) in
    let rest = values_of at stack in
    let h : Holds c.args.frames.now p.cells.items m = subst (λ x. Holds x p.cells.items m) e3 s.stores.frames in
    let led : SlotLeads c.args.frames.now m (slot_at stack at) = subst (λ x. SlotLeads x m (slot_at stack at)) e3 (s.top.slots at) in
    let popped = named ∙ c.in-Some-pop.ensures.row o (test_of o (F k) T) ∙ test_popped o (F k) T v rest in
    no_rule_in l line p p below before now _ _ _ _ o m s (popped ∙ having_none (tested (F k) (plain v)) o (λ b. T b rest) (c.in_default-test.ensures.row code p.cells.items m e1 e2 h led))

pub returns-clause-row : goal.returns-clause-row
unfolding Obeys
returns-clause-row c code l line p below now e1 e2 e3 before o m s =
    let en : to_z w64 (of_z w64 c.args.operand) ≡ c.args.operand = search rules in
    let r = c.args.regs.now in
    let stack = c.args.stack.now in
    let F : ℕ → Plain → Option Bool = λ k. tests c.args.same code m k in
    let T : Bool → List Value → Run Machine = λ h st. on o m (activation_at r stack) (Of (Truth h) ∷ st) (below_of below) in
    let R : ℕ → Run Machine = λ k. pop_plain plain (values_of r.depth stack) o (λ v st. having (F k v) o (λ h. T h st)) in
    let k = c.in-Some.class in
    let named = having_some (class_named code c.args.operand) k o R (c.in-Some.ensures.row code e2 ∙ ap (class_named code) en) ∙ popping_test (values_of r.depth stack) o (F k) T in
    let at = c.in-Some-pop.at in
    let v = value_of (slot_at stack at) in
    let rest = values_of at stack in
    let h : Holds c.args.frames.now p.cells.items m = subst (λ x. Holds x p.cells.items m) e3 s.stores.frames in
    let led : SlotLeads c.args.frames.now m (slot_at stack at) = subst (λ x. SlotLeads x m (slot_at stack at)) e3 (s.top.slots at) in
    let popped = named ∙ c.in-Some-pop.ensures.row o (test_of o (F k) T) ∙ test_popped o (F k) T v rest in
    let slot = c.truth.result in
    let holds = c.in-Some-test.holds in
    let d = c.in-Some-pop.ensures.shallower in
    let inside : at < length stack = let f = c.requires.fits in omega (arith, d, f) in
    along l line p below before now _ _ _ _ _
    (popped ∙ having_some (tested (F k) (plain v)) holds o (λ b. T b rest) (c.in-Some-test.ensures.row code p.cells.items m e1 e2 h led)
    ∙ ap (λ w. on o m (activation_at r stack) (w ∷ rest) (below_of below)) (sym c.truth.ensures.value) ∙ ap (λ st. on o m (activation_at r stack) st (below_of below)) (put_at r.depth at stack slot d c.requires.fits))
    (depth_goes_on l line p below before now r _ stack (set stack at slot) o m r.depth s (length-set stack at slot) (refl, refl, refl) refl refl
    (lead_put p.frames.items m stack at slot inside s.top.slots (scalar_leads p.frames.items m slot (Truth holds) c.truth.ensures.value refl))
    (lead_arrays_put p.arrays.regions o.arrays stack at slot inside s.top.arrays_lead (scalar_leads_array p.arrays.regions o.arrays slot (Truth holds) c.truth.ensures.value refl)))

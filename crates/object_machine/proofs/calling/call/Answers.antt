use Rattle.std.proofs.Common.{rules, to_z, of_z, w64, ◌≡◌, ℕ, List, sym, subst, ap, ◌∙◌}
use Rattle.std.specs.Prelude.{Some, slice_get}
use Rattle.sim_code.specs.Machine.{Frames, Machine, Value}
use Rattle.sim_code.specs.Outcome.{Run}
use Rattle.sim_code.specs.Rows.{entering_frame}
use Rattle.frame_arena.specs.declared.slot.Slot.{Slot}
use Rattle.frame_arena.specs.Frames.{AllLead, Holds, Leads}
use Rattle.frame_arena.specs.Stacks.{values_from, values_of}
use Rattle.object_machine.specs.Calling.{called}
use Rattle.object_machine.specs.Standing.{Leaves, Obeys, activation_at, below_of}
use Rattle.object_machine.proofs.Calls.{Blocks, enters}
use Rattle.object_machine.proofs.Going.{along, no_rule_in}
use Rattle.object_machine.proofs.Jumps.{found_at}
use Rattle.object_machine.proofs.calling.call.Goals as goal

pub returns-in_default-clause-row : goal.returns-in_default-clause-row
unfolding Obeys
returns-in_default-clause-row c code line now e e2 before o m s =
    let l = c.args.limits.now in
    let p = c.args.storage.now in
    let t = c.args.top.now in
    let stack = t.stack.items in
    let a = activation_at t.registers stack in
    let under = below_of c.args.below.now.items in
    let en : to_z w64 (of_z w64 c.args.count_operand) ≡ c.args.count_operand = search rules in
    let h : Holds c.deref.result.now p.cells.items m = subst (λ f. Holds f p.cells.items m) (sym c.deref.ensures.value) s.stores.frames in
    let slots : AllLead c.deref.result.now m c.deref-2.result.now = subst (λ f. AllLead f m c.deref-2.result.now) (sym c.deref.ensures.value) (subst (λ x. AllLead p.frames.items m x) (sym c.deref-2.ensures.value) s.top.slots) in
    let go : List Value → List Value → ℕ → Run Machine = λ vs rest j. Blocks l o m a under line code c.args.block_operand vs rest j in
    let taken = ap (λ x. called m c.args.count_operand (values_of t.registers.depth x) o go) (sym c.deref-2.ensures.value) ∙ ap (λ z. called m z (values_of t.registers.depth c.deref-2.result.now) o go) (sym en) in
    no_rule_in l line p p c.args.below.now.items before now t.registers t.registers stack stack o m s (taken ∙ c.in_default.ensures.row p.cells.items m o go h slots)

pub returns-in_default-block_of-clause-row : goal.returns-in_default-block_of-clause-row
unfolding Obeys
returns-in_default-block_of-clause-row c code line now e e2 before o m s =
    let l = c.args.limits.now in
    let p = c.args.storage.now in
    let t = c.args.top.now in
    let stack = t.stack.items in
    let a = activation_at t.registers stack in
    let under = below_of c.args.below.now.items in
    let bz = c.args.block_operand in
    let eb : to_z w64 (of_z w64 bz) ≡ bz = search rules in
    let en : to_z w64 (of_z w64 c.args.count_operand) ≡ c.args.count_operand = search rules in
    let h : Holds c.deref.result.now p.cells.items m = subst (λ f. Holds f p.cells.items m) (sym c.deref.ensures.value) s.stores.frames in
    let slots : AllLead c.deref.result.now m c.deref-2.result.now = subst (λ f. AllLead f m c.deref-2.result.now) (sym c.deref.ensures.value) (subst (λ x. AllLead p.frames.items m x) (sym c.deref-2.ensures.value) s.top.slots) in
    let go : List Value → List Value → ℕ → Run Machine = λ vs rest j. Blocks l o m a under line code bz vs rest j in
    let taken = ap (λ x. called m c.args.count_operand (values_of t.registers.depth x) o go) (sym c.deref-2.ensures.value) ∙ ap (λ z. called m z (values_of t.registers.depth c.deref-2.result.now) o go) (sym en) in
    let acts = c.in-Some.actuals in
    let vs = values_from stack acts.at acts.count in
    let rest = values_of acts.under stack in
    let j : ℕ = acts.parent.stamp in
    let found = taken ∙ c.in-Some.ensures.row p.cells.items m o go h slots ∙ ap (λ x. go (values_from x acts.at acts.count) (values_of acts.under x) j) c.deref-2.ensures.value in
    no_rule_in l line p p c.args.below.now.items before now t.registers t.registers stack stack o m s (found ∙ c.in_default-block_of.ensures.row code bz e e2 (sym eb) o (λ k b x. entering_frame l o m a under line k b j vs rest))

pub returns-in_default-try_from-clause-row : goal.returns-in_default-try_from-clause-row
unfolding Obeys Leaves
returns-in_default-try_from-clause-row c code line now e e2 before o m s = tt

pub returns-clause-row : goal.returns-clause-row
unfolding Obeys
returns-clause-row c code line now e e2 before o m s =
    let l = c.args.limits.now in
    let p = c.args.storage.now in
    let t = c.args.top.now in
    let stack = t.stack.items in
    let a = activation_at t.registers stack in
    let under = below_of c.args.below.now.items in
    let bz = c.args.block_operand in
    let eb : to_z w64 (of_z w64 bz) ≡ bz = search rules in
    let en : to_z w64 (of_z w64 c.args.count_operand) ≡ c.args.count_operand = search rules in
    let h : Holds c.deref.result.now p.cells.items m = subst (λ f. Holds f p.cells.items m) (sym c.deref.ensures.value) s.stores.frames in
    let slots : AllLead c.deref.result.now m c.deref-2.result.now = subst (λ f. AllLead f m c.deref-2.result.now) (sym c.deref.ensures.value) (subst (λ x. AllLead p.frames.items m x) (sym c.deref-2.ensures.value) s.top.slots) in
    let go : List Value → List Value → ℕ → Run Machine = λ vs rest j. Blocks l o m a under line code bz vs rest j in
    let taken = ap (λ x. called m c.args.count_operand (values_of t.registers.depth x) o go) (sym c.deref-2.ensures.value) ∙ ap (λ z. called m z (values_of t.registers.depth c.deref-2.result.now) o go) (sym en) in
    let acts = c.in-Some.actuals in
    let vs = values_from stack acts.at acts.count in
    let rest = values_of acts.under stack in
    let j : ℕ = acts.parent.stamp in
    let found = taken ∙ c.in-Some.ensures.row p.cells.items m o go h slots ∙ ap (λ x. go (values_from x acts.at acts.count) (values_of acts.under x) j) c.deref-2.ensures.value in
    let place = c.in-Some-block_of.number in
    let number : c.in-Ok.short ≡ place = search rules in
    let b = c.index-blocks-number.result in
    let there : slice_get code.blocks place ≡ Some b = ap (λ v. slice_get v place) e ∙ found_at c.args.blocks.now place b c.in-Some-block_of.ensures.within c.index-blocks-number.is in
    let leads : (cs : List Slot) (m2 : Frames) → Holds p.frames.items cs m2 → AllLead p.frames.items m2 stack → Leads p.frames.items m2 acts.parent =
    λ cs m2 holds all. subst (λ f. Leads f m2 acts.parent) c.deref.ensures.value (c.in-Some.ensures.leads cs m2 (subst (λ f. Holds f cs m2) (sym c.deref.ensures.value) holds) (subst (λ f. AllLead f m2 c.deref-2.result.now) (sym c.deref.ensures.value) (subst (λ x. AllLead p.frames.items m2 x) (sym c.deref-2.ensures.value) all))) in
    along l line c.enter_called.new.storage c.enter_called.new.below.items before now c.enter_called.result c.enter_called.new.top.registers c.enter_called.new.top.stack.items _ _
    (found ∙ enters l o m a under line code bz place c.in-Ok.short j vs rest b there (c.in-Some-block_of.ensures.row code bz e e2 (sym eb)) (sym number))
    (c.enter_called.ensures.row line now leads before o m s)

use Rattle.std.proofs.Common.{rules, to_z, of_z, w64, ◌≡◌, ◌∷◌, ◌<◌, ℕ, List, length, length-set, set, ap, sym, refl, arith, ◌∙◌}
use Rattle.std.specs.Prelude.{Some, true, false, slice_get}
use Rattle.sim_code.specs.declared.code.BlockKind.TheVariants as block
use Rattle.sim_code.specs.Events.{having, popping}
use Rattle.sim_code.specs.Formals.{procedure_of}
use Rattle.sim_code.specs.Machine.{Machine, ProcedureValue, Value, frame_in, number, on, same_kind}
use Rattle.sim_code.specs.Outcome.{Run}
use Rattle.frame_arena.specs.Slots.{value_of}
use Rattle.frame_arena.specs.Stacks.{slot_at, values_of}
use Rattle.object_machine.specs.Standing.{Leaves, Obeys, activation_at, below_of}
use Rattle.object_machine.proofs.ArrayRows.{lead_arrays_put, lead_put, put_at}
use Rattle.object_machine.proofs.Going.{along, depth_goes_on, no_rule_in}
use Rattle.object_machine.proofs.Having.{having_none, having_some}
use Rattle.object_machine.proofs.Jumps.{found_at, none_at}
use Rattle.object_machine.proofs.Scalars.{off}
use Rattle.object_machine.proofs.StageRows.{index_is, index_none}
use Rattle.object_machine.proofs.VirtualRows.{procedure_missing, procedure_other, procedure_there}
use Rattle.object_machine.proofs.virtuals.procedure_value.Goals as goal

pub returns-in_default-clause-row : goal.returns-in_default-clause-row
unfolding Obeys
returns-in_default-clause-row c code l line p below now eb before o m s =
    let en : to_z w64 (of_z w64 c.args.operand) ≡ c.args.operand = search rules in
    let r = c.args.regs.now in
    let stack = c.args.stack.now in
    let a = activation_at r stack in
    let K : ℕ → Value → List Value → Run Machine = λ k v st. having (frame_in v) o (λ j. on o m a (ProcedureValue k j ∷ st) (below_of below)) in
    let Top : ℕ → Run Machine = λ k. popping (values_of r.depth stack) o (K k) in
    let R : ℕ → Run Machine = λ k. having (procedure_of code k) o (λ _. Top k) in
    no_rule_in l line p p below before now _ _ _ _ o m s (index_none c.args.operand o R (c.in_default.ensures ∙ ap number en))

pub returns-in_default-get-clause-row : goal.returns-in_default-get-clause-row
unfolding Obeys
returns-in_default-get-clause-row c code l line p below now eb before o m s =
    let en : to_z w64 (of_z w64 c.args.operand) ≡ c.args.operand = search rules in
    let r = c.args.regs.now in
    let stack = c.args.stack.now in
    let a = activation_at r stack in
    let K : ℕ → Value → List Value → Run Machine = λ k v st. having (frame_in v) o (λ j. on o m a (ProcedureValue k j ∷ st) (below_of below)) in
    let Top : ℕ → Run Machine = λ k. popping (values_of r.depth stack) o (K k) in
    let R : ℕ → Run Machine = λ k. having (procedure_of code k) o (λ _. Top k) in
    let n = c.in-Some.number in
    let named = index_is c.args.operand n o R (c.in-Some.ensures ∙ ap number en) in
    no_rule_in l line p p below before now _ _ _ _ o m s (named ∙ procedure_missing code n o (Top n) (ap (λ v. slice_get v n) eb ∙ none_at c.args.blocks.now n c.in_default-get.ensures.lookup.3))

pub returns-then-not-same_kind-clause-row : goal.returns-then-not-same_kind-clause-row
unfolding Obeys
returns-then-not-same_kind-clause-row c code l line p below now eb before o m s =
    let en : to_z w64 (of_z w64 c.args.operand) ≡ c.args.operand = search rules in
    let r = c.args.regs.now in
    let stack = c.args.stack.now in
    let a = activation_at r stack in
    let K : ℕ → Value → List Value → Run Machine = λ k v st. having (frame_in v) o (λ j. on o m a (ProcedureValue k j ∷ st) (below_of below)) in
    let Top : ℕ → Run Machine = λ k. popping (values_of r.depth stack) o (K k) in
    let R : ℕ → Run Machine = λ k. having (procedure_of code k) o (λ _. Top k) in
    let n = c.in-Some.number in
    let named = index_is c.args.operand n o R (c.in-Some.ensures ∙ ap number en) in
    let b = c.in-Some-get.block.now in
    let found : slice_get code.blocks n ≡ Some b = ap (λ v. slice_get v n) eb ∙ found_at c.args.blocks.now n b c.in-Some-get.ensures.lookup.3.0 c.in-Some-get.ensures.lookup.1 in
    no_rule_in l line p p below before now _ _ _ _ o m s (named ∙ procedure_other code n o (Top n) b found (ap (λ b. same_kind b.kind block.Procedure) (sym c.block.view_is) ∙ sym c.same_kind.ensures ∙ c.if-not-same_kind.true))

pub returns-in_default-try_from-clause-row : goal.returns-in_default-try_from-clause-row
unfolding Obeys Leaves
returns-in_default-try_from-clause-row c code l line p below now eb before o m s = tt

pub returns-in_default-pop-clause-row : goal.returns-in_default-pop-clause-row
unfolding Obeys
returns-in_default-pop-clause-row c code l line p below now eb before o m s =
    let en : to_z w64 (of_z w64 c.args.operand) ≡ c.args.operand = search rules in
    let r = c.args.regs.now in
    let stack = c.args.stack.now in
    let a = activation_at r stack in
    let K : ℕ → Value → List Value → Run Machine = λ k v st. having (frame_in v) o (λ j. on o m a (ProcedureValue k j ∷ st) (below_of below)) in
    let Top : ℕ → Run Machine = λ k. popping (values_of r.depth stack) o (K k) in
    let R : ℕ → Run Machine = λ k. having (procedure_of code k) o (λ _. Top k) in
    let n = c.in-Some.number in
    let named = index_is c.args.operand n o R (c.in-Some.ensures ∙ ap number en) in
    let b = c.in-Some-get.block.now in
    let found : slice_get code.blocks n ≡ Some b = ap (λ v. slice_get v n) eb ∙ found_at c.args.blocks.now n b c.in-Some-get.ensures.lookup.3.0 c.in-Some-get.ensures.lookup.1 in
    let kind = ap (λ b. same_kind b.kind block.Procedure) (sym c.block.view_is) ∙ sym c.same_kind.ensures ∙ c.if-not-same_kind.false in
    let there = named ∙ procedure_there code n o (Top n) b found kind in
    no_rule_in l line p p below before now _ _ _ _ o m s (there ∙ c.in_default-pop.ensures.row o (K n))

pub returns-in_default-named-clause-row : goal.returns-in_default-named-clause-row
unfolding Obeys
returns-in_default-named-clause-row c code l line p below now eb before o m s =
    let en : to_z w64 (of_z w64 c.args.operand) ≡ c.args.operand = search rules in
    let r = c.args.regs.now in
    let stack = c.args.stack.now in
    let a = activation_at r stack in
    let K : ℕ → Value → List Value → Run Machine = λ k v st. having (frame_in v) o (λ j. on o m a (ProcedureValue k j ∷ st) (below_of below)) in
    let Top : ℕ → Run Machine = λ k. popping (values_of r.depth stack) o (K k) in
    let R : ℕ → Run Machine = λ k. having (procedure_of code k) o (λ _. Top k) in
    let n = c.in-Some.number in
    let named = index_is c.args.operand n o R (c.in-Some.ensures ∙ ap number en) in
    let b = c.in-Some-get.block.now in
    let found : slice_get code.blocks n ≡ Some b = ap (λ v. slice_get v n) eb ∙ found_at c.args.blocks.now n b c.in-Some-get.ensures.lookup.3.0 c.in-Some-get.ensures.lookup.1 in
    let kind = ap (λ b. same_kind b.kind block.Procedure) (sym c.block.view_is) ∙ sym c.same_kind.ensures ∙ c.if-not-same_kind.false in
    let there = named ∙ procedure_there code n o (Top n) b found kind in
    let at = c.in-Some-pop.at in
    let v = value_of (slot_at stack at) in
    let rest = values_of at stack in
    let popped = there ∙ c.in-Some-pop.ensures.row o (K n) in
    no_rule_in l line p p below before now _ _ _ _ o m s (popped ∙ having_none (frame_in v) o (λ j. on o m a (ProcedureValue n j ∷ rest) (below_of below)) c.in_default-named.ensures.number)

pub returns-clause-row : goal.returns-clause-row
unfolding Obeys
returns-clause-row c code l line p below now eb before o m s =
    let en : to_z w64 (of_z w64 c.args.operand) ≡ c.args.operand = search rules in
    let r = c.args.regs.now in
    let stack = c.args.stack.now in
    let a = activation_at r stack in
    let K : ℕ → Value → List Value → Run Machine = λ k v st. having (frame_in v) o (λ j. on o m a (ProcedureValue k j ∷ st) (below_of below)) in
    let Top : ℕ → Run Machine = λ k. popping (values_of r.depth stack) o (K k) in
    let R : ℕ → Run Machine = λ k. having (procedure_of code k) o (λ _. Top k) in
    let n = c.in-Some.number in
    let named = index_is c.args.operand n o R (c.in-Some.ensures ∙ ap number en) in
    let b = c.in-Some-get.block.now in
    let found : slice_get code.blocks n ≡ Some b = ap (λ v. slice_get v n) eb ∙ found_at c.args.blocks.now n b c.in-Some-get.ensures.lookup.3.0 c.in-Some-get.ensures.lookup.1 in
    let kind = ap (λ b. same_kind b.kind block.Procedure) (sym c.block.view_is) ∙ sym c.same_kind.ensures ∙ c.if-not-same_kind.false in
    let there = named ∙ procedure_there code n o (Top n) b found kind in
    let at = c.in-Some-pop.at in
    let v = value_of (slot_at stack at) in
    let rest = values_of at stack in
    let popped = there ∙ c.in-Some-pop.ensures.row o (K n) in
    let parent = c.in-Some-named.parent in
    let short : c.in-Ok.short ≡ n = search rules in
    let slot = c.procedure.result in
    let d = c.in-Some-pop.ensures.shallower in
    let inside : at < length stack = let f = c.requires.fits in omega (arith, d, f) in
    let Push : List Value → Run Machine = λ st. on o m a st (below_of below) in
    along l line p below before now _ _ _ _ _
    (popped ∙ having_some (frame_in v) parent.stamp o (λ j. Push (ProcedureValue n j ∷ rest)) c.in-Some-named.ensures.number
    ∙ ap (λ k. Push (ProcedureValue k parent.stamp ∷ rest)) (sym short) ∙ ap (λ w. Push (w ∷ rest)) (sym c.procedure.ensures.value) ∙ ap Push (put_at r.depth at stack slot d c.requires.fits))
    (depth_goes_on l line p below before now r _ stack (set stack at slot) o m r.depth s (length-set stack at slot) (refl, refl, refl) refl refl
    (lead_put p.frames.items m stack at slot inside s.top.slots (c.procedure.ensures.leads p.frames.items m (c.in-Some-named.ensures.leads p.frames.items m (s.top.slots at))))
    (lead_arrays_put p.arrays.regions o.arrays stack at slot inside s.top.arrays_lead (λ names. absurd (off (sym c.procedure.ensures.no_array ∙ names)))))

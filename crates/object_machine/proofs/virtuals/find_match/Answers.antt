use Rattle.std.proofs.Common.{rules, to_z, of_z, w64, ◌≡◌, ◌∷◌, ◌<◌, ℕ, List, length, set, length-set, ap, subst, sym, refl, arith, ◌∙◌}
use Rattle.sim_base.specs.declared.run_error.RunError.TheVariants.{AccessThroughNone, NoMatch}
use Rattle.sim_code.specs.Events.{pop_object}
use Rattle.sim_code.specs.Machine.{Machine, ProcedureValue, Value, number, on, plain}
use Rattle.sim_code.specs.Outcome.{Run}
use Rattle.sim_code.specs.Virtuals.{match_found, matching}
use Rattle.frame_arena.specs.Frames.{Holds, Leads, SlotLeads}
use Rattle.frame_arena.specs.Slots.{value_of}
use Rattle.frame_arena.specs.Stacks.{slot_at, values_of}
use Rattle.object_machine.specs.Standing.{Obeys, activation_at, below_of}
use Rattle.object_machine.proofs.ArrayRows.{lead_arrays_put, lead_put, put_at}
use Rattle.object_machine.proofs.ClassRows.{object_fits, object_leads, object_of, object_popped, popping_object, with_reference}
use Rattle.object_machine.proofs.Going.{along, depth_goes_on, faults, no_rule_in}
use Rattle.object_machine.proofs.Scalars.{off}
use Rattle.object_machine.proofs.StageRows.{index_is, index_none}
use Rattle.object_machine.proofs.VirtualRows.{match_missing, match_there, match_unknown}
use Rattle.object_machine.proofs.virtuals.find_match.Goals as goal

pub procedure-requires : goal.procedure-requires
procedure-requires c = object_fits c.reference_in.result c.in-Object.object c.in-Object.is c.reference_in.ensures.fits

pub returns-in_default-clause-row : goal.returns-in_default-clause-row
unfolding Obeys
returns-in_default-clause-row c code l line p below now eb ec ef before o m s =
    let en : to_z w64 (of_z w64 c.args.operand) ≡ c.args.operand = search rules in
    let r = c.args.regs.now in
    let stack = c.args.stack.now in
    let K : List Value → Run Machine = λ st. on o m (activation_at r stack) st (below_of below) in
    let go : ℕ → ℕ → List Value → Run Machine = λ v j st. matching line (match_found code m v j) o (λ k. K (ProcedureValue k j ∷ st)) in
    let R : ℕ → Run Machine = λ v. pop_object plain line (values_of r.depth stack) o (go v) in
    no_rule_in l line p p below before now _ _ _ _ o m s (index_none c.args.operand o R (c.in_default.ensures ∙ ap number en))

pub returns-in_default-pop-clause-row : goal.returns-in_default-pop-clause-row
unfolding Obeys
returns-in_default-pop-clause-row c code l line p below now eb ec ef before o m s =
    let en : to_z w64 (of_z w64 c.args.operand) ≡ c.args.operand = search rules in
    let r = c.args.regs.now in
    let stack = c.args.stack.now in
    let K : List Value → Run Machine = λ st. on o m (activation_at r stack) st (below_of below) in
    let go : ℕ → ℕ → List Value → Run Machine = λ v j st. matching line (match_found code m v j) o (λ k. K (ProcedureValue k j ∷ st)) in
    let R : ℕ → Run Machine = λ v. pop_object plain line (values_of r.depth stack) o (go v) in
    let v = c.in-Some.number in
    let named = index_is c.args.operand v o R (c.in-Some.ensures ∙ ap number en) ∙ popping_object line (values_of r.depth stack) o (go v) in
    no_rule_in l line p p below before now _ _ _ _ o m s (named ∙ c.in_default-pop.ensures.row o (object_of line o (go v)))

pub returns-in-Block-clause-row : goal.returns-in-Block-clause-row
unfolding Obeys
returns-in-Block-clause-row c code l line p below now eb ec ef before o m s =
    let en : to_z w64 (of_z w64 c.args.operand) ≡ c.args.operand = search rules in
    let r = c.args.regs.now in
    let stack = c.args.stack.now in
    let K : List Value → Run Machine = λ st. on o m (activation_at r stack) st (below_of below) in
    let go : ℕ → ℕ → List Value → Run Machine = λ v j st. matching line (match_found code m v j) o (λ k. K (ProcedureValue k j ∷ st)) in
    let R : ℕ → Run Machine = λ v. pop_object plain line (values_of r.depth stack) o (go v) in
    let v = c.in-Some.number in
    let named = index_is c.args.operand v o R (c.in-Some.ensures ∙ ap number en) ∙ popping_object line (values_of r.depth stack) o (go v) in
    let at = c.in-Some-pop.at in
    let top = value_of (slot_at stack at) in
    let rest = values_of at stack in
    let popped = named ∙ c.in-Some-pop.ensures.row o (object_of line o (go v)) ∙ object_popped line o (go v) c.reference_in.result top rest c.reference_in.ensures.is in
    let object = c.in-Object.object in
    let found = popped ∙ ap (λ q. with_reference q line o (λ j. go v j rest)) c.in-Object.is in
    let leads : Leads p.frames.items m object = object_leads p.frames.items m c.reference_in.result object c.in-Object.is (c.reference_in.ensures.leads p.frames.items m (s.top.slots at)) in
    let h : Holds c.args.frames.now p.cells.items m = subst (λ x. Holds x p.cells.items m) ef s.stores.frames in
    let led : Leads c.args.frames.now m object = subst (λ x. Leads x m object) ef leads in
    let slot = c.procedure.result in
    let block = c.in-Block.block in
    let d = c.in-Some-pop.ensures.shallower in
    let inside : at < length stack = let f = c.requires.fits in omega (arith, d, f) in
    along l line p below before now _ _ _ _ _
    (found ∙ match_there line (match_found code m v object.stamp) o (λ k. K (ProcedureValue k object.stamp ∷ rest)) block (c.in-Block.ensures.row code p.cells.items m eb ec h led)
    ∙ ap (λ w. K (w ∷ rest)) (sym c.procedure.ensures.value) ∙ ap K (put_at r.depth at stack slot d c.requires.fits))
    (depth_goes_on l line p below before now r _ stack (set stack at slot) o m r.depth s (length-set stack at slot) (refl, refl, refl) refl refl
    (lead_put p.frames.items m stack at slot inside s.top.slots (c.procedure.ensures.leads p.frames.items m leads))
    (lead_arrays_put p.arrays.regions o.arrays stack at slot inside s.top.arrays_lead (λ names. absurd (off (sym c.procedure.ensures.no_array ∙ names)))))

pub returns-in-NoMatch-clause-row : goal.returns-in-NoMatch-clause-row
unfolding Obeys
returns-in-NoMatch-clause-row c code l line p below now eb ec ef before o m s =
    let en : to_z w64 (of_z w64 c.args.operand) ≡ c.args.operand = search rules in
    let r = c.args.regs.now in
    let stack = c.args.stack.now in
    let K : List Value → Run Machine = λ st. on o m (activation_at r stack) st (below_of below) in
    let go : ℕ → ℕ → List Value → Run Machine = λ v j st. matching line (match_found code m v j) o (λ k. K (ProcedureValue k j ∷ st)) in
    let R : ℕ → Run Machine = λ v. pop_object plain line (values_of r.depth stack) o (go v) in
    let v = c.in-Some.number in
    let named = index_is c.args.operand v o R (c.in-Some.ensures ∙ ap number en) ∙ popping_object line (values_of r.depth stack) o (go v) in
    let at = c.in-Some-pop.at in
    let top = value_of (slot_at stack at) in
    let rest = values_of at stack in
    let popped = named ∙ c.in-Some-pop.ensures.row o (object_of line o (go v)) ∙ object_popped line o (go v) c.reference_in.result top rest c.reference_in.ensures.is in
    let object = c.in-Object.object in
    let found = popped ∙ ap (λ q. with_reference q line o (λ j. go v j rest)) c.in-Object.is in
    let h : Holds c.args.frames.now p.cells.items m = subst (λ x. Holds x p.cells.items m) ef s.stores.frames in
    let led : Leads c.args.frames.now m object = object_leads c.args.frames.now m c.reference_in.result object c.in-Object.is (c.reference_in.ensures.leads c.args.frames.now m (subst (λ x. SlotLeads x m (slot_at stack at)) ef (s.top.slots at))) in
    along l line p below before now _ _ _ _ _
    (found ∙ match_missing line (match_found code m v object.stamp) o (λ k. K (ProcedureValue k object.stamp ∷ rest)) (c.in-NoMatch.ensures.row code p.cells.items m eb ec h led))
    (faults l line p below before now NoMatch _ r _ stack o m s)

pub returns-in-NoClass-clause-row : goal.returns-in-NoClass-clause-row
unfolding Obeys
returns-in-NoClass-clause-row c code l line p below now eb ec ef before o m s =
    let en : to_z w64 (of_z w64 c.args.operand) ≡ c.args.operand = search rules in
    let r = c.args.regs.now in
    let stack = c.args.stack.now in
    let K : List Value → Run Machine = λ st. on o m (activation_at r stack) st (below_of below) in
    let go : ℕ → ℕ → List Value → Run Machine = λ v j st. matching line (match_found code m v j) o (λ k. K (ProcedureValue k j ∷ st)) in
    let R : ℕ → Run Machine = λ v. pop_object plain line (values_of r.depth stack) o (go v) in
    let v = c.in-Some.number in
    let named = index_is c.args.operand v o R (c.in-Some.ensures ∙ ap number en) ∙ popping_object line (values_of r.depth stack) o (go v) in
    let at = c.in-Some-pop.at in
    let top = value_of (slot_at stack at) in
    let rest = values_of at stack in
    let popped = named ∙ c.in-Some-pop.ensures.row o (object_of line o (go v)) ∙ object_popped line o (go v) c.reference_in.result top rest c.reference_in.ensures.is in
    let object = c.in-Object.object in
    let found = popped ∙ ap (λ q. with_reference q line o (λ j. go v j rest)) c.in-Object.is in
    let h : Holds c.args.frames.now p.cells.items m = subst (λ x. Holds x p.cells.items m) ef s.stores.frames in
    let led : Leads c.args.frames.now m object = object_leads c.args.frames.now m c.reference_in.result object c.in-Object.is (c.reference_in.ensures.leads c.args.frames.now m (subst (λ x. SlotLeads x m (slot_at stack at)) ef (s.top.slots at))) in
    no_rule_in l line p p below before now _ _ _ _ o m s
    (found ∙ match_unknown line (match_found code m v object.stamp) o (λ k. K (ProcedureValue k object.stamp ∷ rest)) (c.in-NoClass.ensures.row code p.cells.items m eb ec h led))

pub returns-in-IsNone-clause-row : goal.returns-in-IsNone-clause-row
unfolding Obeys
returns-in-IsNone-clause-row c code l line p below now eb ec ef before o m s =
    let en : to_z w64 (of_z w64 c.args.operand) ≡ c.args.operand = search rules in
    let r = c.args.regs.now in
    let stack = c.args.stack.now in
    let K : List Value → Run Machine = λ st. on o m (activation_at r stack) st (below_of below) in
    let go : ℕ → ℕ → List Value → Run Machine = λ v j st. matching line (match_found code m v j) o (λ k. K (ProcedureValue k j ∷ st)) in
    let R : ℕ → Run Machine = λ v. pop_object plain line (values_of r.depth stack) o (go v) in
    let v = c.in-Some.number in
    let named = index_is c.args.operand v o R (c.in-Some.ensures ∙ ap number en) ∙ popping_object line (values_of r.depth stack) o (go v) in
    let at = c.in-Some-pop.at in
    let rest = values_of at stack in
    let popped = named ∙ c.in-Some-pop.ensures.row o (object_of line o (go v)) ∙ object_popped line o (go v) c.reference_in.result (value_of (slot_at stack at)) rest c.reference_in.ensures.is in
    along l line p below before now _ _ _ _ _ (popped ∙ ap (λ q. with_reference q line o (λ j. go v j rest)) c.in-IsNone.is) (faults l line p below before now AccessThroughNone _ r _ stack o m s)

pub returns-in-Main-clause-row : goal.returns-in-Main-clause-row
unfolding Obeys
returns-in-Main-clause-row c code l line p below now eb ec ef before o m s =
    let en : to_z w64 (of_z w64 c.args.operand) ≡ c.args.operand = search rules in
    let r = c.args.regs.now in
    let stack = c.args.stack.now in
    let K : List Value → Run Machine = λ st. on o m (activation_at r stack) st (below_of below) in
    let go : ℕ → ℕ → List Value → Run Machine = λ v j st. matching line (match_found code m v j) o (λ k. K (ProcedureValue k j ∷ st)) in
    let R : ℕ → Run Machine = λ v. pop_object plain line (values_of r.depth stack) o (go v) in
    let v = c.in-Some.number in
    let named = index_is c.args.operand v o R (c.in-Some.ensures ∙ ap number en) ∙ popping_object line (values_of r.depth stack) o (go v) in
    let at = c.in-Some-pop.at in
    let rest = values_of at stack in
    let popped = named ∙ c.in-Some-pop.ensures.row o (object_of line o (go v)) ∙ object_popped line o (go v) c.reference_in.result (value_of (slot_at stack at)) rest c.reference_in.ensures.is in
    no_rule_in l line p p below before now _ _ _ _ o m s (popped ∙ ap (λ q. with_reference q line o (λ j. go v j rest)) c.in-Main.is)

pub returns-in-Other-clause-row : goal.returns-in-Other-clause-row
unfolding Obeys
returns-in-Other-clause-row c code l line p below now eb ec ef before o m s =
    let en : to_z w64 (of_z w64 c.args.operand) ≡ c.args.operand = search rules in
    let r = c.args.regs.now in
    let stack = c.args.stack.now in
    let K : List Value → Run Machine = λ st. on o m (activation_at r stack) st (below_of below) in
    let go : ℕ → ℕ → List Value → Run Machine = λ v j st. matching line (match_found code m v j) o (λ k. K (ProcedureValue k j ∷ st)) in
    let R : ℕ → Run Machine = λ v. pop_object plain line (values_of r.depth stack) o (go v) in
    let v = c.in-Some.number in
    let named = index_is c.args.operand v o R (c.in-Some.ensures ∙ ap number en) ∙ popping_object line (values_of r.depth stack) o (go v) in
    let at = c.in-Some-pop.at in
    let rest = values_of at stack in
    let popped = named ∙ c.in-Some-pop.ensures.row o (object_of line o (go v)) ∙ object_popped line o (go v) c.reference_in.result (value_of (slot_at stack at)) rest c.reference_in.ensures.is in
    no_rule_in l line p p below before now _ _ _ _ o m s (popped ∙ ap (λ q. with_reference q line o (λ j. go v j rest)) c.in-Other.is)

use Rattle.std.proofs.Common.{◌≡◌, length, ◌∙◌, ap, sym, subst, refl}
use Rattle.sim_code.specs.Arrays.{handed_over}
use Rattle.sim_code.specs.Machine.{arrays_by_value, filled, first_cells}
use Rattle.frame_arena.specs.Arrays.{AllLeadArrays}
use Rattle.frame_arena.specs.Stacks.{values_from}
use Rattle.object_machine.specs.declared.machine.Storage.{Storage}
use Rattle.object_machine.specs.declared.machine.Registers.{Registers}
use Rattle.object_machine.specs.Calling.{OpensWith, Supplied, opened_with}
use Rattle.object_machine.specs.Standing.{AtWork, Leaves}
use Rattle.object_machine.proofs.BlockFacts.{same_found}
use Rattle.object_machine.proofs.Covered.{covered_by}
use Rattle.object_machine.proofs.Supplied.{handed}
use Rattle.object_machine.proofs.calling.pass.Goals as goal

pub returns-then-not-supply-clause-row : goal.returns-then-not-supply-clause-row
unfolding Leaves
returns-then-not-supply-clause-row c l line before now p o m k b g parent cells ef h w others is = tt

pub returns-clause-row : goal.returns-clause-row
returns-clause-row c l line before now p o m k b g parent cells ef h w others is =
    let t = c.args.top.now in
    let stack = t.stack.items in
    let at = c.args.actuals.at in
    let count = c.args.actuals.count in
    let p2 = c.supply.new.storage in
    let w0 : AtWork p o m t.registers c.deref.result.now = subst (λ x. AtWork p o m t.registers x) (sym c.deref.ensures.value) w in
    let s0 = c.supply.ensures.row c.if-not-supply.false l before now p o m k b g parent c.args.next t.registers refl h w0 in
    let s1 : Supplied l p p2 k b g parent c.args.next before now o m (filled c.args.first (values_from stack at count) (first_cells b)) = subst (λ x. Supplied l p p2 k b g parent c.args.next before now o m (filled c.args.first (values_from x at count) (first_cells b))) c.deref.ensures.value s0 in
    let opens : OpensWith l p p2 k b g parent cells c.args.next before now o o m = subst (λ cs. OpensWith l p p2 k b g parent cs c.args.next before now o o m) (same_found (filled c.args.first (values_from stack at count) (first_cells b)) s1.cells cells s1.is is) s1.opens in
    let w1 = opens.others t.registers stack w in
    let stamp : c.args.next.registers.home.stamp ≡ length m.instances = ap (λ a. a.home) h.top in
    let lead : AllLeadArrays p2.arrays.regions o.arrays c.deref-2.result.now = subst (λ x. AllLeadArrays p2.arrays.regions o.arrays x) (sym c.deref-2.ensures.value) w1.arrays_lead in
    let p3 : Storage = record p2 { arrays = c.hand_over.new.arrays } in
    let o3 = handed_over c.args.next.registers.home.stamp (arrays_by_value c.args.formals.now (values_from c.deref-2.result.now at count)) o in
    let o2 = handed_over (length m.instances) (arrays_by_value b.formals (values_from stack at count)) o in
    let same : o3 ≡ o2 = ap (λ n. handed_over n (arrays_by_value c.args.formals.now (values_from c.deref-2.result.now at count)) o) stamp
    ∙ ap (λ x. handed_over (length m.instances) (arrays_by_value c.args.formals.now (values_from x at count)) o) c.deref-2.ensures.value
    ∙ ap (λ fs. handed_over (length m.instances) (arrays_by_value fs (values_from stack at count)) o) (sym ef) in
    let opens3 : OpensWith l p p3 k b g parent cells c.args.next before now o o2 m = subst (λ x. OpensWith l p p3 k b g parent cells c.args.next before now o x m) same
    (handed l p p2 p3 k b g parent cells c.args.next before now o m opens c.args.next.registers.home.stamp (arrays_by_value c.args.formals.now (values_from c.deref-2.result.now at count)) refl refl refl refl refl refl refl refl refl refl
    (c.hand_over.ensures.holds o opens.stores.arrays lead) (c.hand_over.ensures.leads o opens.stores.arrays lead) (c.hand_over.ensures.elements p2.frames.items (opened_with m k b g parent cells) opens.stores.elements)) in
    let r2 : Registers = record { thunk = t.registers.thunk; home = t.registers.home; pc = t.registers.pc; depth = c.args.actuals.under; stage = t.registers.stage } in
    let w2 : AtWork p o m r2 stack = record { home = w.home; slots = w.slots; arrays_lead = w.arrays_lead } in
    covered_by l line p p3 k b g parent cells c.args.next r2 stack c.args.below.now.items c.cover.new.top c.cover.new.below.items before now o o2 m opens3 (opens3.others r2 stack w2) others c.cover.result c.cover.ensures.row

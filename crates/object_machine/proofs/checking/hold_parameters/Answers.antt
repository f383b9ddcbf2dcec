use Rattle.std.proofs.Common.{refl, subst, ◌∙◌}
use Rattle.sim_base.specs.declared.run_error.RunError.TheVariants.{WrongParameter}
use Rattle.sim_code.specs.Formals.{each, holders_agree}
use Rattle.sim_code.specs.Machine.{on}
use Rattle.frame_arena.specs.Frames.{Holds, Leads}
use Rattle.object_machine.specs.Standing.{Obeys, activation_at, below_of}
use Rattle.object_machine.proofs.Fitted.{Agreed, agree_all, agree_not, agree_unknown, tested_fine, tested_wrong}
use Rattle.object_machine.proofs.Going.{along, depth_goes_on, faults, no_rule_in}
use Rattle.object_machine.proofs.checking.hold_parameters.Goals as goal

pub returns-in-Err-clause-row : goal.returns-in-Err-clause-row
unfolding Obeys
returns-in-Err-clause-row c code l line p stack below now eb ec ef led before o m s =
    let r = c.args.regs.now in
    let a = activation_at r stack in
    let fs = c.args.formals.now in
    let xs = c.args.actuals.now in
    let all = each (holders_agree code m c.args.parent.stamp r.home.stamp) fs xs in
    let A = Agreed line all o (on o m a a.stack (below_of below)) in
    along l line p below before now _ _ _ _ _ (tested_wrong code fs xs line o A c.in-Err.error (c.in-Err.ensures.row code ec)) (faults l line p below before now c.in-Err.error r r stack stack o m s)

pub returns-in-Some-true-clause-row : goal.returns-in-Some-true-clause-row
unfolding Obeys
returns-in-Some-true-clause-row c code l line p stack below now eb ec ef led before o m s =
    let r = c.args.regs.now in
    let a = activation_at r stack in
    let fs = c.args.formals.now in
    let xs = c.args.actuals.now in
    let all = each (holders_agree code m c.args.parent.stamp r.home.stamp) fs xs in
    let On = on o m a a.stack (below_of below) in
    let h : Holds c.args.frames.now p.cells.items m = subst (λ x. Holds x p.cells.items m) ef s.stores.frames in
    let parent : Leads c.args.frames.now m c.args.parent = subst (λ x. Leads x m c.args.parent) ef (led m s.top.slots) in
    let home : Leads c.args.frames.now m r.home = subst (λ x. Leads x m r.home) ef s.top.home in
    along l line p below before now _ _ _ _ _
    (tested_fine code fs xs line o (Agreed line all o On) c.fits_now.result c.in_default.not-Err (c.fits_now.ensures.row code ec) ∙ agree_all line all o On c.in-Some-true.field-0 (c.in-Some-true.ensures.row code p.cells.items m eb ec h parent home) c.in-Some-true.field-0-test)
    (depth_goes_on l line p below before now r _ stack stack o m r.depth s refl (refl, refl, refl) refl refl s.top.slots s.top.arrays_lead)

pub returns-in-Some-false-clause-row : goal.returns-in-Some-false-clause-row
unfolding Obeys
returns-in-Some-false-clause-row c code l line p stack below now eb ec ef led before o m s =
    let r = c.args.regs.now in
    let a = activation_at r stack in
    let fs = c.args.formals.now in
    let xs = c.args.actuals.now in
    let all = each (holders_agree code m c.args.parent.stamp r.home.stamp) fs xs in
    let On = on o m a a.stack (below_of below) in
    let h : Holds c.args.frames.now p.cells.items m = subst (λ x. Holds x p.cells.items m) ef s.stores.frames in
    let parent : Leads c.args.frames.now m c.args.parent = subst (λ x. Leads x m c.args.parent) ef (led m s.top.slots) in
    let home : Leads c.args.frames.now m r.home = subst (λ x. Leads x m r.home) ef s.top.home in
    along l line p below before now _ _ _ _ _
    (tested_fine code fs xs line o (Agreed line all o On) c.fits_now.result c.in_default.not-Err (c.fits_now.ensures.row code ec) ∙ agree_not line all o On c.in-Some-false.field-0 (c.in-Some-false.ensures.row code p.cells.items m eb ec h parent home) c.in-Some-false.field-0-test)
    (faults l line p below before now WrongParameter r r stack stack o m s)

pub returns-in-None-clause-row : goal.returns-in-None-clause-row
unfolding Obeys
returns-in-None-clause-row c code l line p stack below now eb ec ef led before o m s =
    let r = c.args.regs.now in
    let a = activation_at r stack in
    let fs = c.args.formals.now in
    let xs = c.args.actuals.now in
    let all = each (holders_agree code m c.args.parent.stamp r.home.stamp) fs xs in
    let On = on o m a a.stack (below_of below) in
    let h : Holds c.args.frames.now p.cells.items m = subst (λ x. Holds x p.cells.items m) ef s.stores.frames in
    let parent : Leads c.args.frames.now m c.args.parent = subst (λ x. Leads x m c.args.parent) ef (led m s.top.slots) in
    let home : Leads c.args.frames.now m r.home = subst (λ x. Leads x m r.home) ef s.top.home in
    no_rule_in l line p p below before now r r stack stack o m s
    (tested_fine code fs xs line o (Agreed line all o On) c.fits_now.result c.in_default.not-Err (c.fits_now.ensures.row code ec) ∙ agree_unknown line all o On (c.in-None.ensures.row code p.cells.items m eb ec h parent home))

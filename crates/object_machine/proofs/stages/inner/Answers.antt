use Rattle.std.proofs.Common.{rules, to_z, of_z, w64, ◌≡◌, ◌+◌, ℕ, suc, ◌∙◌, ap, sym, subst, refl, arith}
use Rattle.std.specs.Prelude.{Some}
use Rattle.sim_code.specs.Levels.{class_at_level}
use Rattle.sim_code.specs.Machine.{number}
use Rattle.sim_code.specs.declared.stage.Stage.TheVariants as stage
use Rattle.frame_arena.specs.Frames.{Holds, Leads}
use Rattle.object_machine.specs.declared.levels.Part.TheVariants as part
use Rattle.object_machine.specs.Standing.{Obeys, activation_at, below_of}
use Rattle.object_machine.proofs.BlockFacts.{same_found}
use Rattle.object_machine.proofs.Going.{along, no_rule_in, depth_goes_on, stands_with}
use Rattle.object_machine.proofs.StageRows.{begins, begins_nowhere, index_is, index_none, past_inner, to_inner}
use Rattle.object_machine.proofs.stages.inner.Goals as goal

pub returns-in_default-clause-row : goal.returns-in_default-clause-row
unfolding Obeys
returns-in_default-clause-row c code l line p stack below now eb ei ec ef before o m s =
    let ez : to_z w64 (of_z w64 c.args.operand) ≡ c.args.operand = search rules in
    no_rule_in l line p p below before now c.args.regs.now c.args.regs.now stack stack o m s (index_none c.args.operand o _ (c.in_default.ensures ∙ ap number ez))

pub returns-in_default-under_way-clause-row : goal.returns-in_default-under_way-clause-row
unfolding Obeys
returns-in_default-under_way-clause-row c code l line p stack below now eb ei ec ef before o m s =
    let ez : to_z w64 (of_z w64 c.args.operand) ≡ c.args.operand = search rules in
    let r = c.args.regs.now in
    let a = activation_at r stack in
    let under = below_of below in
    let h : Holds c.args.frames.now p.cells.items m = subst (λ f. Holds f p.cells.items m) ef s.stores.frames in
    let led : Leads c.args.frames.now m r.home = subst (λ f. Leads f m r.home) ef s.top.home in
    no_rule_in l line p p below before now r r stack stack o m s
    (index_is c.args.operand c.in-Some.level o _ (c.in-Some.ensures ∙ ap number ez) ∙ c.in_default-under_way.ensures.row code p.cells.items stack m eb ec h led o _)

pub returns-in-Some-part_of_level-clause-row : goal.returns-in-Some-part_of_level-clause-row
unfolding Obeys
returns-in-Some-part_of_level-clause-row c code l line p stack below now eb ei ec ef before o m s =
    let ez : to_z w64 (of_z w64 c.args.operand) ≡ c.args.operand = search rules in
    let r = c.args.regs.now in
    let a = activation_at r stack in
    let under = below_of below in
    let h : Holds c.args.frames.now p.cells.items m = subst (λ f. Holds f p.cells.items m) ef s.stores.frames in
    let led : Leads c.args.frames.now m r.home = subst (λ f. Leads f m r.home) ef s.top.home in
    let here = c.in-Some-under_way.ensures.row code p.cells.items stack m eb ec h led in
    let n : ℕ = c.in-Some.level in
    let e : suc n ≡ c.in-Some-under_way.here.level + 1 = (let k = here.number in omega (arith, k)) in
    let first = index_is c.args.operand n o _ (c.in-Some.ensures ∙ ap number ez) ∙ here.is o _ in
    let b = begins part.Statements (class_at_level code here.list (c.in-Some-under_way.here.level + 1)) c.in-Some-part_of_level.start (c.in-Some-part_of_level.ensures.row code here.list ec here.levels_are here.long) in
    along l line p below before now _ _ stack _ _
    (first ∙ to_inner code l o m a under n (c.in-Some-under_way.here.level + 1) c.in-Some-part_of_level.start _ b.x (ap (class_at_level code here.list) e ∙ b.there) e (same_found (Some b.x.statements) b.x.statements c.in-Some-part_of_level.start refl b.is))
    (c.go_to.ensures.row code l line p stack below now ei before o m s)

pub returns-clause-row : goal.returns-clause-row
unfolding Obeys
returns-clause-row c code l line p stack below now eb ei ec ef before o m s =
    let ez : to_z w64 (of_z w64 c.args.operand) ≡ c.args.operand = search rules in
    let r = c.args.regs.now in
    let a = activation_at r stack in
    let under = below_of below in
    let h : Holds c.args.frames.now p.cells.items m = subst (λ f. Holds f p.cells.items m) ef s.stores.frames in
    let led : Leads c.args.frames.now m r.home = subst (λ f. Leads f m r.home) ef s.top.home in
    let here = c.in-Some-under_way.ensures.row code p.cells.items stack m eb ec h led in
    let n : ℕ = c.in-Some.level in
    let e : suc n ≡ c.in-Some-under_way.here.level + 1 = (let k = here.number in omega (arith, k)) in
    let first = index_is c.args.operand n o _ (c.in-Some.ensures ∙ ap number ez) ∙ here.is o _ in
    let none = begins_nowhere part.Statements (class_at_level code here.list (c.in-Some-under_way.here.level + 1)) (c.in_default-part_of_level.ensures.row code here.list ec here.levels_are here.long) in
    let r2 = record r { stage = stage.Behind c.in-Some-under_way.here.level } in
    along l line p below before now _ _ stack _ _
    (first ∙ past_inner code l o m a under n c.in-Some-under_way.here.level _ (ap (class_at_level code here.list) e ∙ none) (sym here.number))
    (depth_goes_on l line p below before now r2 _ stack stack o m r.depth (stands_with l line p below before now r r2 stack stack o m s refl s.top.slots s.top.arrays_lead) refl (refl, refl, refl) refl refl s.top.slots s.top.arrays_lead)

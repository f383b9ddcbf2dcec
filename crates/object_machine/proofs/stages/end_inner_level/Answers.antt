use Rattle.std.proofs.Common.{◌≡◌, ◌-◌, ◌∙◌, ap, sym, subst, refl}
use Rattle.std.specs.Prelude.{Some}
use Rattle.sim_code.specs.Levels.{class_at_level}
use Rattle.frame_arena.specs.Frames.{Holds, Leads}
use Rattle.object_machine.specs.declared.levels.Part.TheVariants as part
use Rattle.object_machine.specs.Standing.{Obeys, activation_at, below_of}
use Rattle.object_machine.proofs.BlockFacts.{same_found}
use Rattle.object_machine.proofs.Going.{along, no_rule_in}
use Rattle.object_machine.proofs.StageRows.{begins, begins_nowhere, behind_inner, behind_nothing, inner_ends}
use Rattle.object_machine.proofs.stages.end_inner_level.Goals as goal

pub returns-in_default-clause-row : goal.returns-in_default-clause-row
unfolding Obeys
returns-in_default-clause-row c code l line p stack below now eb ei ec ef before o m s =
    let r = c.args.regs.now in
    let a = activation_at r stack in
    let under = below_of below in
    let h : Holds c.args.frames.now p.cells.items m = subst (λ f. Holds f p.cells.items m) ef s.stores.frames in
    let led : Leads c.args.frames.now m r.home = subst (λ f. Leads f m r.home) ef s.top.home in
    no_rule_in l line p p below before now r r stack stack o m s (inner_ends code l o m a under c.args.level c.requires.inner ∙ c.in_default.ensures.row code p.cells.items stack m eb ec h led o _)

pub returns-in_default-part_of_level-clause-row : goal.returns-in_default-part_of_level-clause-row
unfolding Obeys
returns-in_default-part_of_level-clause-row c code l line p stack below now eb ei ec ef before o m s =
    let r = c.args.regs.now in
    let a = activation_at r stack in
    let under = below_of below in
    let h : Holds c.args.frames.now p.cells.items m = subst (λ f. Holds f p.cells.items m) ef s.stores.frames in
    let led : Leads c.args.frames.now m r.home = subst (λ f. Leads f m r.home) ef s.top.home in
    let here = c.in-Some.ensures.row code p.cells.items stack m eb ec h led in
    let nowhere = begins_nowhere part.AfterInner (class_at_level code here.list (c.args.level - 1)) (c.in_default-part_of_level.ensures.row code here.list ec here.levels_are here.long) in
    no_rule_in l line p p below before now r r stack stack o m s (inner_ends code l o m a under c.args.level c.requires.inner ∙ here.is o _ ∙ behind_nothing code l o m a under here.list (c.args.level - 1) nowhere)

pub returns-clause-row : goal.returns-clause-row
unfolding Obeys
returns-clause-row c code l line p stack below now eb ei ec ef before o m s =
    let r = c.args.regs.now in
    let a = activation_at r stack in
    let under = below_of below in
    let h : Holds c.args.frames.now p.cells.items m = subst (λ f. Holds f p.cells.items m) ef s.stores.frames in
    let led : Leads c.args.frames.now m r.home = subst (λ f. Leads f m r.home) ef s.top.home in
    let here = c.in-Some.ensures.row code p.cells.items stack m eb ec h led in
    let b = begins part.AfterInner (class_at_level code here.list (c.args.level - 1)) c.in-Some-part_of_level.start (c.in-Some-part_of_level.ensures.row code here.list ec here.levels_are here.long) in
    let k : c.args.level - 1 ≡ c.in-Some.here.level - 1 = ap (λ n. n - 1) (sym here.number) in
    along l line p below before now _ _ stack _ _
    (inner_ends code l o m a under c.args.level c.requires.inner ∙ here.is o _
    ∙ behind_inner code l o m a under here.list (c.args.level - 1) (c.in-Some.here.level - 1) c.in-Some-part_of_level.start b.x b.there k (same_found (Some b.x.after_inner) b.x.after_inner c.in-Some-part_of_level.start refl b.is))
    (c.go_to.ensures.row code l line p stack below now ei before o m s)

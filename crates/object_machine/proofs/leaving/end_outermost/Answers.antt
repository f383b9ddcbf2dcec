use Rattle.std.proofs.Common.{◌≡◌, sym, ap, ◌∙◌}
use Rattle.std.specs.Prelude.{Some, slice_get}
use Rattle.sim_code.specs.declared.code.BlockKind.TheVariants as block
use Rattle.object_machine.specs.Standing.{Obeys, below_of}
use Rattle.object_machine.proofs.Going.{along, no_rule_in}
use Rattle.object_machine.proofs.Jumps.{found_at, none_at}
use Rattle.object_machine.proofs.ObjectEnds.{no_such_block, of_kind, wrong_stage}
use Rattle.object_machine.proofs.leaving.end_outermost.Goals as goal

pub returns-in_default-clause-row : goal.returns-in_default-clause-row
unfolding Obeys
returns-in_default-clause-row c code line now e before o m s =
    let l = c.args.limits.now in
    let p = c.args.storage.now in
    let t = c.args.top.now in
    no_rule_in l line p p c.args.below.now.items before now t.registers t.registers t.stack.items t.stack.items o m s
    (wrong_stage code l o m t.registers t.stack.items (below_of c.args.below.now.items) t.registers.home.stamp c.args.number c.in_default.ensures)

pub returns-in_default-get-clause-row : goal.returns-in_default-get-clause-row
unfolding Obeys
returns-in_default-get-clause-row c code line now e before o m s =
    let l = c.args.limits.now in
    let p = c.args.storage.now in
    let t = c.args.top.now in
    no_rule_in l line p p c.args.below.now.items before now t.registers t.registers t.stack.items t.stack.items o m s
    (no_such_block code l o m t.registers t.stack.items (below_of c.args.below.now.items) t.registers.home.stamp c.args.number c.in-Some.ensures.1 (ap (λ v. slice_get v c.args.number) e ∙ none_at c.args.blocks.now c.args.number c.in_default-get.ensures.lookup.3))

pub returns-in-Object-clause-row : goal.returns-in-Object-clause-row
unfolding Obeys
returns-in-Object-clause-row c code line now e before o m s =
    let l = c.args.limits.now in
    let t = c.args.top.now in
    let b = c.in-Some-get.block.now in
    let there : slice_get code.blocks c.args.number ≡ Some b = ap (λ v. slice_get v c.args.number) e ∙ found_at c.args.blocks.now c.args.number b c.in-Some-get.ensures.lookup.3.0 c.in-Some-get.ensures.lookup.1 in
    along l line c.end_object.new.storage c.end_object.new.below.items before now c.end_object.result c.end_object.new.top.registers c.end_object.new.top.stack.items _ _
    (of_kind code l o m t.registers t.stack.items (below_of c.args.below.now.items) t.registers.home.stamp c.args.number b block.Object c.in-Some.ensures.1 there (ap (λ b. b.kind) (sym c.block.view_is) ∙ c.in-Object.is))
    (c.end_object.ensures.row line before now o m s)

pub returns-in-Prefixed-clause-row : goal.returns-in-Prefixed-clause-row
unfolding Obeys
returns-in-Prefixed-clause-row c code line now e before o m s =
    let l = c.args.limits.now in
    let t = c.args.top.now in
    let b = c.in-Some-get.block.now in
    let there : slice_get code.blocks c.args.number ≡ Some b = ap (λ v. slice_get v c.args.number) e ∙ found_at c.args.blocks.now c.args.number b c.in-Some-get.ensures.lookup.3.0 c.in-Some-get.ensures.lookup.1 in
    along l line c.finish.new.storage c.finish.new.below.items before now c.finish.result c.finish.new.top.registers c.finish.new.top.stack.items _ _
    (of_kind code l o m t.registers t.stack.items (below_of c.args.below.now.items) t.registers.home.stamp c.args.number b block.Prefixed c.in-Some.ensures.1 there (ap (λ b. b.kind) (sym c.block.view_is) ∙ c.in-Prefixed.is))
    (c.finish.ensures.row l line b before now o m (ap (λ b. b.cells) (sym c.block.view_is)) s tt)

pub returns-in-SubBlock-clause-row : goal.returns-in-SubBlock-clause-row
unfolding Obeys
returns-in-SubBlock-clause-row c code line now e before o m s =
    let l = c.args.limits.now in
    let p = c.args.storage.now in
    let t = c.args.top.now in
    let b = c.in-Some-get.block.now in
    let there : slice_get code.blocks c.args.number ≡ Some b = ap (λ v. slice_get v c.args.number) e ∙ found_at c.args.blocks.now c.args.number b c.in-Some-get.ensures.lookup.3.0 c.in-Some-get.ensures.lookup.1 in
    no_rule_in l line p p c.args.below.now.items before now t.registers t.registers t.stack.items t.stack.items o m s
    (of_kind code l o m t.registers t.stack.items (below_of c.args.below.now.items) t.registers.home.stamp c.args.number b block.SubBlock c.in-Some.ensures.1 there (ap (λ b. b.kind) (sym c.block.view_is) ∙ c.in-SubBlock.is))

pub returns-in-Procedure-clause-row : goal.returns-in-Procedure-clause-row
unfolding Obeys
returns-in-Procedure-clause-row c code line now e before o m s =
    let l = c.args.limits.now in
    let p = c.args.storage.now in
    let t = c.args.top.now in
    let b = c.in-Some-get.block.now in
    let there : slice_get code.blocks c.args.number ≡ Some b = ap (λ v. slice_get v c.args.number) e ∙ found_at c.args.blocks.now c.args.number b c.in-Some-get.ensures.lookup.3.0 c.in-Some-get.ensures.lookup.1 in
    no_rule_in l line p p c.args.below.now.items before now t.registers t.registers t.stack.items t.stack.items o m s
    (of_kind code l o m t.registers t.stack.items (below_of c.args.below.now.items) t.registers.home.stamp c.args.number b block.Procedure c.in-Some.ensures.1 there (ap (λ b. b.kind) (sym c.block.view_is) ∙ c.in-Procedure.is))

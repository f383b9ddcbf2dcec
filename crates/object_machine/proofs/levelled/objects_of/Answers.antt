use Rattle.std.proofs.Common.{rules, to_z, of_z, w64, ◌≡◌, ◌-◌, ◌∙◌, ap, sym}
use Rattle.std.specs.Prelude.{Some, slice_get}
use Rattle.sim_code.specs.Classes.{class_named, class_numbered}
use Rattle.sim_code.specs.Code.{BlockOf, ClassOf}
use Rattle.object_machine.proofs.BlockFacts.{same_found}
use Rattle.object_machine.proofs.ClassRows.{numbered_at, numbered_past}
use Rattle.object_machine.proofs.Generated.{no_block_there, no_class_there, no_record_there, of_other_class, of_record, of_this_class}
use Rattle.object_machine.proofs.Jumps.{found_at, none_at}
use Rattle.object_machine.proofs.levelled.objects_of.Goals as goal

pub returns-in_default-clause-row : goal.returns-in_default-clause-row
returns-in_default-clause-row c code eb ei ec o go =
    let ez : to_z w64 (of_z w64 c.args.operand) ≡ c.args.operand = search rules in
    no_class_there code c.args.operand o go (c.in_default.ensures.row code ec ∙ ap (class_named code) ez)

pub returns-then-class-eq0-clause-row : goal.returns-then-class-eq0-clause-row
returns-then-class-eq0-clause-row c code eb ei ec o go =
    let ez : to_z w64 (of_z w64 c.args.operand) ≡ c.args.operand = search rules in
    no_record_there code c.args.operand o go c.in-Some.class (c.in-Some.ensures.row code ec ∙ ap (class_named code) ez) (ap (class_numbered code) c.if-class-eq0.true)

pub returns-in_default-get-clause-row : goal.returns-in_default-get-clause-row
returns-in_default-get-clause-row c code eb ei ec o go =
    let ez : to_z w64 (of_z w64 c.args.operand) ≡ c.args.operand = search rules in
    let at = c.in-Some.class in
    no_record_there code c.args.operand o go at (c.in-Some.ensures.row code ec ∙ ap (class_named code) ez)
    (numbered_past code at c.if-class-eq0.false (ap (λ v. slice_get v (at - 1)) ec ∙ none_at c.args.classes.now (at - 1) c.in_default-get.ensures.lookup.3))

pub returns-in_default-start_of-clause-row : goal.returns-in_default-start_of-clause-row
returns-in_default-start_of-clause-row c code eb ei ec o go =
    let ez : to_z w64 (of_z w64 c.args.operand) ≡ c.args.operand = search rules in
    let at = c.in-Some.class in
    let x = c.in-Some-get.record.now in
    let there : class_numbered code at ≡ Some x = numbered_at code at x c.if-class-eq0.false (ap (λ v. slice_get v (at - 1)) ec ∙ found_at c.args.classes.now (at - 1) x c.in-Some-get.ensures.lookup.3.0 c.in-Some-get.ensures.lookup.1) in
    of_record code c.args.operand o go at x c.record.inside.block (c.in-Some.ensures.row code ec ∙ ap (class_named code) ez) there (ap {A = ClassOf} (λ r. r.block) (sym c.record.view_is))
    ∙ c.in_default-start_of.ensures.row code eb ei ec o _

pub returns-in_default-get-2-clause-row : goal.returns-in_default-get-2-clause-row
returns-in_default-get-2-clause-row c code eb ei ec o go =
    let ez : to_z w64 (of_z w64 c.args.operand) ≡ c.args.operand = search rules in
    let at = c.in-Some.class in
    let x = c.in-Some-get.record.now in
    let there : class_numbered code at ≡ Some x = numbered_at code at x c.if-class-eq0.false (ap (λ v. slice_get v (at - 1)) ec ∙ found_at c.args.classes.now (at - 1) x c.in-Some-get.ensures.lookup.3.0 c.in-Some-get.ensures.lookup.1) in
    of_record code c.args.operand o go at x c.record.inside.block (c.in-Some.ensures.row code ec ∙ ap (class_named code) ez) there (ap {A = ClassOf} (λ r. r.block) (sym c.record.view_is))
    ∙ no_block_there code _ c.record.inside.block o _ (ap (λ v. slice_get v c.record.inside.block) eb ∙ none_at c.args.blocks.now c.record.inside.block c.in_default-get-2.ensures.lookup.3)

pub returns-then-block-class-clause-row : goal.returns-then-block-class-clause-row
returns-then-block-class-clause-row c code eb ei ec o go =
    let ez : to_z w64 (of_z w64 c.args.operand) ≡ c.args.operand = search rules in
    let at = c.in-Some.class in
    let x = c.in-Some-get.record.now in
    let b = c.in-Some-get-2.block.now in
    let there : class_numbered code at ≡ Some x = numbered_at code at x c.if-class-eq0.false (ap (λ v. slice_get v (at - 1)) ec ∙ found_at c.args.classes.now (at - 1) x c.in-Some-get.ensures.lookup.3.0 c.in-Some-get.ensures.lookup.1) in
    let block : slice_get code.blocks c.record.inside.block ≡ Some b = ap (λ v. slice_get v c.record.inside.block) eb ∙ found_at c.args.blocks.now c.record.inside.block b c.in-Some-get-2.ensures.lookup.3.0 c.in-Some-get-2.ensures.lookup.1 in
    let class = ap {A = BlockOf} (λ b. b.class) (sym c.block.view_is) in
    of_record code c.args.operand o go at x c.record.inside.block (c.in-Some.ensures.row code ec ∙ ap (class_named code) ez) there (ap {A = ClassOf} (λ r. r.block) (sym c.record.view_is))
    ∙ c.in-Some-start_of.ensures.row code eb ei ec b block o _ ∙ of_other_class code c.args.operand o go b at c.record.inside.block c.in-Some-start_of.start (λ e. c.if-block-class.true (sym class ∙ e))

pub returns-clause-row : goal.returns-clause-row
returns-clause-row c code eb ei ec b block o go =
    let ez : to_z w64 (of_z w64 c.args.operand) ≡ c.args.operand = search rules in
    let at = c.in-Some.class in
    let x = c.in-Some-get.record.now in
    let b2 = c.in-Some-get-2.block.now in
    let there : class_numbered code at ≡ Some x = numbered_at code at x c.if-class-eq0.false (ap (λ v. slice_get v (at - 1)) ec ∙ found_at c.args.classes.now (at - 1) x c.in-Some-get.ensures.lookup.3.0 c.in-Some-get.ensures.lookup.1) in
    let block2 : slice_get code.blocks c.record.inside.block ≡ Some b2 = ap (λ v. slice_get v c.record.inside.block) eb ∙ found_at c.args.blocks.now c.record.inside.block b2 c.in-Some-get-2.ensures.lookup.3.0 c.in-Some-get-2.ensures.lookup.1 in
    let same : b2 ≡ b = same_found (slice_get code.blocks c.record.inside.block) b2 b block2 block in
    let class = ap {A = BlockOf} (λ b. b.class) (sym c.block.view_is) in
    of_record code c.args.operand o go at x c.record.inside.block (c.in-Some.ensures.row code ec ∙ ap (class_named code) ez) there (ap {A = ClassOf} (λ r. r.block) (sym c.record.view_is))
    ∙ c.in-Some-start_of.ensures.row code eb ei ec b block o _ ∙ of_this_class code c.args.operand o go b at c.record.inside.block c.in-Some-start_of.start (sym (ap {A = BlockOf} (λ b. b.class) same) ∙ class ∙ c.if-block-class.false)

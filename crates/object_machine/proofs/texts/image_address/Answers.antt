use Rattle.std.proofs.Common.{rules, ℕ, ◌≡◌, ◌∙◌, ap, sym, of_z, to_z, w64}
use Rattle.sim_values.specs.Store.{image_at}
use Rattle.sim_code.specs.Events.{having}
use Rattle.sim_code.specs.Instances.{ImagePlace}
use Rattle.sim_code.specs.Machine.{Address, Machine, index, number}
use Rattle.sim_code.specs.Outcome.{Run}
use Rattle.sim_code.specs.Rows.{pushed}
use Rattle.object_machine.specs.Standing.{Obeys, activation_at, below_of}
use Rattle.object_machine.proofs.Going.{along, none}
use Rattle.object_machine.proofs.Having.{having_none, having_some}
use Rattle.object_machine.proofs.ImageRows.{image_leads, image_leads_array, no_other}
use Rattle.object_machine.proofs.texts.image_address.Goals as goal

pub returns-in_default-clause-row : goal.returns-in_default-clause-row
unfolding Obeys index
returns-in_default-clause-row c l line p below now before o m s =
    let en : to_z w64 (of_z w64 c.args.operand) ≡ c.args.operand = search rules in
    along l line p below before now _ _ _ _ _ (having_none (number c.args.operand) o _ (c.in_default.ensures ∙ ap number en)) (none l line p below before now _ c.args.regs.now _ c.args.stack.now o m s)

pub returns-then-number-eq0-clause-row : goal.returns-then-number-eq0-clause-row
unfolding Obeys index having
returns-then-number-eq0-clause-row c l line p below now before o m s =
    let en : to_z w64 (of_z w64 c.args.operand) ≡ c.args.operand = search rules in
    let n = c.in-Some.number in
    let slot = c.image.result in
    let row : ℕ → Run Machine = λ n. having (image_at o.store n) o (λ t. pushed o m (activation_at c.args.regs.now c.args.stack.now) (below_of below) (Address (ImagePlace n))) in
    along l line p below before now _ _ _ _ _
    (having_some (number c.args.operand) n o row (c.in-Some.ensures ∙ ap number en) ∙ ap row c.if-number-eq0.true ∙ ap (λ v. pushed o m (activation_at c.args.regs.now c.args.stack.now) (below_of below) v) (sym c.image.ensures.value))
    (c.push.ensures.row l line p below before now o m s (image_leads p.frames.items m slot 0 c.image.ensures.value) (image_leads_array p.arrays.regions o.arrays slot 0 c.image.ensures.value))

pub returns-then-number-eq1-clause-row : goal.returns-then-number-eq1-clause-row
unfolding Obeys index having
returns-then-number-eq1-clause-row c l line p below now before o m s =
    let en : to_z w64 (of_z w64 c.args.operand) ≡ c.args.operand = search rules in
    let n = c.in-Some.number in
    let slot = c.image-then-number-eq1.result in
    let row : ℕ → Run Machine = λ n. having (image_at o.store n) o (λ t. pushed o m (activation_at c.args.regs.now c.args.stack.now) (below_of below) (Address (ImagePlace n))) in
    along l line p below before now _ _ _ _ _
    (having_some (number c.args.operand) n o row (c.in-Some.ensures ∙ ap number en) ∙ ap row c.if-number-eq1.true ∙ ap (λ v. pushed o m (activation_at c.args.regs.now c.args.stack.now) (below_of below) v) (sym c.image-then-number-eq1.ensures.value))
    (c.push-then-number-eq1.ensures.row l line p below before now o m s (image_leads p.frames.items m slot 1 c.image-then-number-eq1.ensures.value) (image_leads_array p.arrays.regions o.arrays slot 1 c.image-then-number-eq1.ensures.value))

pub returns-clause-row : goal.returns-clause-row
unfolding Obeys index
returns-clause-row c l line p below now before o m s =
    let en : to_z w64 (of_z w64 c.args.operand) ≡ c.args.operand = search rules in
    let n = c.in-Some.number in
    along l line p below before now _ _ _ _ _
    (having_some (number c.args.operand) n o _ (c.in-Some.ensures ∙ ap number en) ∙ having_none (image_at o.store n) o _ (sym (no_other o.store n c.if-number-eq0.false c.if-number-eq1.false)))
    (none l line p below before now _ c.args.regs.now _ c.args.stack.now o m s)

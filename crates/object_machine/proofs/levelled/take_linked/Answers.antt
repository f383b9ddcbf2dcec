use Rattle.std.proofs.Common.{rules, to_z, of_z, w64, ◌≡◌, ◌∙◌, ap}
use Rattle.sim_code.specs.Machine.{number}
use Rattle.frame_arena.specs.Stacks.{values_from, values_of}
use Rattle.object_machine.proofs.Generated.{UnderValues, counted, not_counted}
use Rattle.object_machine.proofs.levelled.take_linked.Goals as goal

pub returns-in_default-clause-row : goal.returns-in_default-clause-row
returns-in_default-clause-row c cells m o go h all =
    let ez : to_z w64 (of_z w64 c.args.operand) ≡ c.args.operand = search rules in
    not_counted m c.args.operand (values_of c.args.depth c.args.stack.now) o go (c.in_default.ensures ∙ ap number ez)

pub returns-in_default-pop_values-clause-row : goal.returns-in_default-pop_values-clause-row
returns-in_default-pop_values-clause-row c cells m o go h all =
    let ez : to_z w64 (of_z w64 c.args.operand) ≡ c.args.operand = search rules in
    let vs = values_of c.args.depth c.args.stack.now in
    counted m c.args.operand vs o go c.in-Some.count (c.in-Some.ensures ∙ ap number ez) ∙ c.in_default-pop_values.ensures.row o (λ xs rest. UnderValues m c.args.operand vs o go xs rest)

pub returns-in_default-pop-clause-row : goal.returns-in_default-pop-clause-row
returns-in_default-pop-clause-row c cells m o go h all =
    let ez : to_z w64 (of_z w64 c.args.operand) ≡ c.args.operand = search rules in
    let vs = values_of c.args.depth c.args.stack.now in
    counted m c.args.operand vs o go c.in-Some.count (c.in-Some.ensures ∙ ap number ez) ∙ c.in-Some-pop_values.ensures.row o (λ xs rest. UnderValues m c.args.operand vs o go xs rest) ∙ c.in_default-pop.ensures.row o _

pub returns-in_default-encloser_in-clause-row : goal.returns-in_default-encloser_in-clause-row
returns-in_default-encloser_in-clause-row c cells m o go h all =
    let ez : to_z w64 (of_z w64 c.args.operand) ≡ c.args.operand = search rules in
    let vs = values_of c.args.depth c.args.stack.now in
    counted m c.args.operand vs o go c.in-Some.count (c.in-Some.ensures ∙ ap number ez) ∙ c.in-Some-pop_values.ensures.row o (λ xs rest. UnderValues m c.args.operand vs o go xs rest) ∙ c.in-Some-pop.ensures.row o _
    ∙ c.in_default-encloser_in.ensures.row cells m h (all c.in-Some-pop.under) o (λ j. go (values_from c.args.stack.now c.in-Some-pop_values.at c.in-Some.count) (values_of c.in-Some-pop.under c.args.stack.now) j)

pub returns-clause-row : goal.returns-clause-row
returns-clause-row c cells m o go h all =
    let ez : to_z w64 (of_z w64 c.args.operand) ≡ c.args.operand = search rules in
    let vs = values_of c.args.depth c.args.stack.now in
    counted m c.args.operand vs o go c.in-Some.count (c.in-Some.ensures ∙ ap number ez) ∙ c.in-Some-pop_values.ensures.row o (λ xs rest. UnderValues m c.args.operand vs o go xs rest) ∙ c.in-Some-pop.ensures.row o _
    ∙ (c.in-Some-encloser_in.ensures.row cells m h (all c.in-Some-pop.under)).1 o (λ j. go (values_from c.args.stack.now c.in-Some-pop_values.at c.in-Some.count) (values_of c.in-Some-pop.under c.args.stack.now) j)

pub returns-clause-leads : goal.returns-clause-leads
returns-clause-leads c cells m h all = (c.in-Some-encloser_in.ensures.row cells m h (all c.in-Some-pop.under)).0

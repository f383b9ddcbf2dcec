use Rattle.std.proofs.Common.{rules, to_z, of_z, w64, ◌≡◌, ◌∙◌, ap}
use Rattle.sim_code.specs.Machine.{number}
use Rattle.frame_arena.specs.Stacks.{values_of}
use Rattle.object_machine.proofs.PrefixRows.{no_values, some_values}
use Rattle.object_machine.proofs.levelled.take_values.Goals as goal

pub returns-in_default-clause-row : goal.returns-in_default-clause-row
returns-in_default-clause-row c o go =
    let ez : to_z w64 (of_z w64 c.args.operand) ≡ c.args.operand = search rules in
    no_values c.args.operand (values_of c.args.depth c.args.stack.now) o go (c.in_default.ensures ∙ ap number ez)

pub returns-in_default-pop_values-clause-row : goal.returns-in_default-pop_values-clause-row
returns-in_default-pop_values-clause-row c o go =
    let ez : to_z w64 (of_z w64 c.args.operand) ≡ c.args.operand = search rules in
    some_values c.args.operand (values_of c.args.depth c.args.stack.now) o go c.in-Some.count (c.in-Some.ensures ∙ ap number ez) ∙ c.in_default-pop_values.ensures.row o go

pub returns-clause-row : goal.returns-clause-row
returns-clause-row c o go =
    let ez : to_z w64 (of_z w64 c.args.operand) ≡ c.args.operand = search rules in
    some_values c.args.operand (values_of c.args.depth c.args.stack.now) o go c.in-Some.count (c.in-Some.ensures ∙ ap number ez) ∙ c.in-Some-pop_values.ensures.row o go

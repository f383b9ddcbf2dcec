use Rattle.std.proofs.Common.{rules, ◌≡◌, sym, ap, ◌∙◌, of_z, to_z, w64}
use Rattle.sim_values.specs.Operators.{a_truth, step_goes_on}
use Rattle.sim_code.specs.Machine.{plain}
use Rattle.frame_arena.specs.Operators.{answer_of_plain}
use Rattle.frame_arena.specs.Slots.{value_of}
use Rattle.frame_arena.proofs.Operands.{step_top, step_middle, step_below, step_all}
use Rattle.frame_arena.proofs.operators.step_tested.Goals as goal

pub returns-in_default-clause-answer : goal.returns-in_default-clause-answer
returns-in_default-clause-answer c = sym (step_top (value_of c.args.x) (value_of c.args.y) (value_of c.args.z) c.in_default.ensures)

pub returns-in_default-as_integer-clause-answer : goal.returns-in_default-as_integer-clause-answer
returns-in_default-as_integer-clause-answer c = sym (step_middle (value_of c.args.x) (value_of c.args.y) (value_of c.args.z) c.in-Some.limit c.in-Some.ensures c.in_default-as_integer.ensures)

pub returns-in-None-clause-answer : goal.returns-in-None-clause-answer
returns-in-None-clause-answer c =
    sym (step_below (value_of c.args.x) (value_of c.args.y) (value_of c.args.z) c.in-Some-as_integer.variable c.in-Some.limit c.in-Some.ensures c.in-Some-as_integer.ensures c.in-None.ensures)

pub returns-in-Some-as_integer-2-clause-answer : goal.returns-in-Some-as_integer-2-clause-answer
returns-in-Some-as_integer-2-clause-answer c =
    let e1 : to_z w64 (of_z w64 c.in-Some-as_integer-2.step) ≡ c.in-Some-as_integer-2.step = search rules in
    let e2 : to_z w64 (of_z w64 c.in-Some-as_integer.variable) ≡ c.in-Some-as_integer.variable = search rules in
    let e3 : to_z w64 (of_z w64 c.in-Some.limit) ≡ c.in-Some.limit = search rules in
    ap (λ v. answer_of_plain (plain v)) c.truth.ensures.value
    ∙ ap a_truth c.step_goes_on.ensures.test
    ∙ ap (λ z. a_truth (step_goes_on z (to_z w64 (of_z w64 c.in-Some-as_integer.variable)) (to_z w64 (of_z w64 c.in-Some.limit)))) e1
    ∙ ap (λ z. a_truth (step_goes_on c.in-Some-as_integer-2.step z (to_z w64 (of_z w64 c.in-Some.limit)))) e2
    ∙ ap (λ z. a_truth (step_goes_on c.in-Some-as_integer-2.step c.in-Some-as_integer.variable z)) e3
    ∙ sym (step_all (value_of c.args.x) (value_of c.args.y) (value_of c.args.z) c.in-Some-as_integer-2.step c.in-Some-as_integer.variable c.in-Some.limit c.in-Some.ensures c.in-Some-as_integer.ensures c.in-Some-as_integer-2.ensures)

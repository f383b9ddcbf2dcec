use Rattle.std.proofs.Common.{rules, ◌≡◌, sym, ap, ◌∙◌, of_z, to_z, w64}
use Rattle.std.specs.Prelude.{Ok}
use Rattle.sim_values.specs.Operators.{an_integer, calculated}
use Rattle.sim_code.specs.Machine.{plain}
use Rattle.frame_arena.specs.Operators.{answer_of_plain}
use Rattle.frame_arena.specs.Slots.{value_of}
use Rattle.frame_arena.proofs.Operands.{calculate_top, calculate_below, calculate_both}
use Rattle.frame_arena.proofs.operators.calculated.Goals as goal

pub returns-in_default-clause-answer : goal.returns-in_default-clause-answer
returns-in_default-clause-answer c = sym (calculate_top c.args.op (value_of c.args.x) (value_of c.args.y) c.in_default.ensures)

pub returns-in_default-as_integer-clause-answer : goal.returns-in_default-as_integer-clause-answer
returns-in_default-as_integer-clause-answer c = sym (calculate_below c.args.op (value_of c.args.x) (value_of c.args.y) c.in-Some.b c.in-Some.ensures c.in_default-as_integer.ensures)

pub returns-in-Ok-clause-answer : goal.returns-in-Ok-clause-answer
returns-in-Ok-clause-answer c =
    let ez : to_z w64 (of_z w64 c.in-Ok.z) ≡ c.in-Ok.z = search rules in
    let ea : to_z w64 (of_z w64 c.in-Some-as_integer.a) ≡ c.in-Some-as_integer.a = search rules in
    let eb : to_z w64 (of_z w64 c.in-Some.b) ≡ c.in-Some.b = search rules in
    ap (λ v. answer_of_plain (plain v)) c.integer.ensures.value
    ∙ ap (λ z. an_integer (Ok z)) ez
    ∙ ap an_integer c.in-Ok.ensures.result
    ∙ ap (λ z. an_integer (calculated c.args.op z (to_z w64 (of_z w64 c.in-Some.b)))) ea
    ∙ ap (λ z. an_integer (calculated c.args.op c.in-Some-as_integer.a z)) eb
    ∙ sym (calculate_both c.args.op (value_of c.args.x) (value_of c.args.y) c.in-Some-as_integer.a c.in-Some.b c.in-Some.ensures c.in-Some-as_integer.ensures)

pub returns-in-Err-clause-answer : goal.returns-in-Err-clause-answer
returns-in-Err-clause-answer c =
    let ea : to_z w64 (of_z w64 c.in-Some-as_integer.a) ≡ c.in-Some-as_integer.a = search rules in
    let eb : to_z w64 (of_z w64 c.in-Some.b) ≡ c.in-Some.b = search rules in
    ap an_integer c.in-Err.ensures.result
    ∙ ap (λ z. an_integer (calculated c.args.op z (to_z w64 (of_z w64 c.in-Some.b)))) ea
    ∙ ap (λ z. an_integer (calculated c.args.op c.in-Some-as_integer.a z)) eb
    ∙ sym (calculate_both c.args.op (value_of c.args.x) (value_of c.args.y) c.in-Some-as_integer.a c.in-Some.b c.in-Some.ensures c.in-Some-as_integer.ensures)

use Rattle.std.proofs.Common.{rules, ◌≡◌, sym, ap, ◌∙◌, of_z, to_z, w64}
use Rattle.sim_values.specs.Arithmetic.{negation_of}
use Rattle.std.specs.Prelude.{Ok}
use Rattle.sim_values.specs.Operators.{an_integer}
use Rattle.sim_code.specs.Machine.{plain}
use Rattle.frame_arena.specs.Operators.{answer_of_plain}
use Rattle.frame_arena.specs.Slots.{value_of}
use Rattle.frame_arena.proofs.Operands.{negate_bad, negate_good}
use Rattle.frame_arena.proofs.operators.negated.Goals as goal

pub returns-in_default-clause-answer : goal.returns-in_default-clause-answer
returns-in_default-clause-answer c = sym (negate_bad (value_of c.args.x) c.in_default.ensures)

pub returns-in-Ok-clause-answer : goal.returns-in-Ok-clause-answer
returns-in-Ok-clause-answer c =
    let ez : to_z w64 (of_z w64 c.in-Ok.z) ≡ c.in-Ok.z = search rules in
    let ea : to_z w64 (of_z w64 c.in-Some.a) ≡ c.in-Some.a = search rules in
    ap (λ v. answer_of_plain (plain v)) c.integer.ensures.value
    ∙ ap (λ z. an_integer (Ok z)) ez
    ∙ ap an_integer c.in-Ok.ensures.negation
    ∙ ap (λ z. an_integer (negation_of z)) ea
    ∙ sym (negate_good (value_of c.args.x) c.in-Some.a c.in-Some.ensures)

pub returns-in-Err-clause-answer : goal.returns-in-Err-clause-answer
returns-in-Err-clause-answer c =
    let ea : to_z w64 (of_z w64 c.in-Some.a) ≡ c.in-Some.a = search rules in
    ap an_integer c.in-Err.ensures.negation ∙ ap (λ z. an_integer (negation_of z)) ea ∙ sym (negate_good (value_of c.args.x) c.in-Some.a c.in-Some.ensures)

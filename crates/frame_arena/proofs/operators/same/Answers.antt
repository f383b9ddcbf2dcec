use Rattle.std.proofs.Common.{sym, ap, ◌∙◌}
use Rattle.sim_values.specs.Operators.{a_truth}
use Rattle.sim_code.specs.Machine.{plain}
use Rattle.frame_arena.specs.Operators.{answer_of_plain}
use Rattle.frame_arena.specs.Slots.{reference_to, value_of}
use Rattle.frame_arena.proofs.Operands.{same_top, same_below, same_both}
use Rattle.frame_arena.proofs.operators.same.Goals as goal

pub returns-in_default-clause-answer : goal.returns-in_default-clause-answer
returns-in_default-clause-answer c = sym (same_top (value_of c.args.x) (value_of c.args.y) c.in_default.ensures)

pub returns-in-None-clause-answer : goal.returns-in-None-clause-answer
returns-in-None-clause-answer c = sym (same_below (value_of c.args.x) (value_of c.args.y) (reference_to c.in-Some.b) c.in-Some.ensures c.in-None.ensures)

pub returns-in-Some-as_reference-clause-answer : goal.returns-in-Some-as_reference-clause-answer
returns-in-Some-as_reference-clause-answer c =
    ap (λ v. answer_of_plain (plain v)) c.truth.ensures.value
    ∙ ap a_truth c.same_referent.ensures
    ∙ sym (same_both (value_of c.args.x) (value_of c.args.y) (reference_to c.in-Some-as_reference.a) (reference_to c.in-Some.b) c.in-Some.ensures c.in-Some-as_reference.ensures)

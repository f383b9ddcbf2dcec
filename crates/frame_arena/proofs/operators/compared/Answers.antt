use Rattle.std.proofs.Common.{rules, ◌≡◌, sym, ap, ◌∙◌, of_z, to_z, w64}
use Rattle.std.specs.Ordering.{int_cmp}
use Rattle.sim_values.specs.Operators.{a_truth, holds}
use Rattle.sim_code.specs.Machine.{plain}
use Rattle.frame_arena.specs.Operators.{answer_of_plain}
use Rattle.frame_arena.specs.Slots.{value_of}
use Rattle.frame_arena.proofs.Operands.{compare_bad, compare_character_below, compare_characters, compare_integer_below, compare_integers}
use Rattle.frame_arena.proofs.operators.compared.Goals as goal

pub returns-in_default-as_integer-clause-answer : goal.returns-in_default-as_integer-clause-answer
returns-in_default-as_integer-clause-answer c = sym (compare_bad c.args.op (value_of c.args.x) (value_of c.args.y) c.in_default.ensures c.in_default-as_integer.ensures)

pub returns-in-None-clause-answer : goal.returns-in-None-clause-answer
returns-in-None-clause-answer c = sym (compare_character_below c.args.op (value_of c.args.x) (value_of c.args.y) c.in-Some.b c.in-Some.ensures c.in-None.ensures)

pub returns-in-Some-as_character-clause-answer : goal.returns-in-Some-as_character-clause-answer
returns-in-Some-as_character-clause-answer c =
    ap (λ v. answer_of_plain (plain v)) c.truth.ensures.value
    ∙ ap a_truth c.holds.ensures.result
    ∙ ap (λ r. a_truth (holds c.args.op r)) c.cmp.ensures
    ∙ sym (compare_characters c.args.op (value_of c.args.x) (value_of c.args.y) c.in-Some-as_character.a c.in-Some.b c.in-Some.ensures c.in-Some-as_character.ensures)

pub returns-in-None-as_integer-clause-answer : goal.returns-in-None-as_integer-clause-answer
returns-in-None-as_integer-clause-answer c =
    sym (compare_integer_below c.args.op (value_of c.args.x) (value_of c.args.y) c.in-Some-as_integer.b c.in-Some-as_integer.ensures c.in-None-as_integer.ensures)

pub returns-in-Some-as_integer-2-clause-answer : goal.returns-in-Some-as_integer-2-clause-answer
returns-in-Some-as_integer-2-clause-answer c =
    let ea : to_z w64 (of_z w64 c.in-Some-as_integer-2.a) ≡ c.in-Some-as_integer-2.a = search rules in
    let eb : to_z w64 (of_z w64 c.in-Some-as_integer.b) ≡ c.in-Some-as_integer.b = search rules in
    ap (λ v. answer_of_plain (plain v)) c.truth-in-Some-as_integer-2.ensures.value
    ∙ ap a_truth c.holds-in-Some-as_integer-2.ensures.result
    ∙ ap (λ r. a_truth (holds c.args.op r)) c.cmp-in-Some-as_integer-2.ensures
    ∙ ap (λ z. a_truth (holds c.args.op (int_cmp z (to_z w64 (of_z w64 c.in-Some-as_integer.b))))) ea
    ∙ ap (λ z. a_truth (holds c.args.op (int_cmp c.in-Some-as_integer-2.a z))) eb
    ∙ sym (compare_integers c.args.op (value_of c.args.x) (value_of c.args.y) c.in-Some-as_integer-2.a c.in-Some-as_integer.b c.in-Some-as_integer.ensures c.in-Some-as_integer-2.ensures)

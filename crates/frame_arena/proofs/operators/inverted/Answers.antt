use Rattle.std.proofs.Common.{sym, ap, ◌∙◌}
use Rattle.sim_code.specs.Machine.{plain}
use Rattle.frame_arena.specs.Operators.{answer_of_plain}
use Rattle.frame_arena.specs.Slots.{value_of}
use Rattle.frame_arena.proofs.Operands.{not_bad, not_good}
use Rattle.frame_arena.proofs.operators.inverted.Goals as goal

pub returns-in-Some-clause-answer : goal.returns-in-Some-clause-answer
returns-in-Some-clause-answer c = ap (λ v. answer_of_plain (plain v)) c.truth.ensures.value ∙ sym (not_good (value_of c.args.x) c.in-Some.a c.in-Some.ensures)

pub returns-in-None-clause-answer : goal.returns-in-None-clause-answer
returns-in-None-clause-answer c = sym (not_bad (value_of c.args.x) c.in-None.ensures)

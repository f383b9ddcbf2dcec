use Rattle.code_run.proofs.Ended.{has_end}
use Rattle.sim_driver.proofs.CodeAnswers.{one_answer}
use Rattle.sim_driver.proofs.executing.one_answer.Goals as goal

pub returns : goal.returns
returns c l file input small = one_answer l file input (c.one_outcome.ensures file small) (λ code. has_end code l input (c.every_code_ends.ensures code l input))

use Rattle.code_run.proofs.Ended.{has_end}
use Rattle.sim_driver.proofs.CompiledAnswers.{answer_alike, answers_as}
use Rattle.sim_driver.proofs.laws.code_is_answered_as_its_program.Goals as goal

pub returns-clause-same : goal.returns-clause-same
returns-clause-same c s code runs stands =
    answers_as s code runs (c.compiled_code_runs_as_meant.ensures s code runs.ruled runs.names_objects runs.stays_sane stands.stands) (λ l input. has_end code l input (c.every_code_ends.ensures code l input))

pub returns-clause-alike : goal.returns-clause-alike
returns-clause-alike c s code other runs one two =
    answer_alike s code other
    (answers_as s code runs (c.compiled_code_runs_as_meant.ensures s code runs.ruled runs.names_objects runs.stays_sane one.stands) (λ l input. has_end code l input (c.every_code_ends.ensures code l input)))
    (answers_as s other runs (c.compiled_code_runs_as_meant.ensures s other runs.ruled runs.names_objects runs.stays_sane two.stands) (λ l input. has_end other l input (c.every_code_ends.ensures other l input)))

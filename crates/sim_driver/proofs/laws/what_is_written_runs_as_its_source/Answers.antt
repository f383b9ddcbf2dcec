use Rattle.std.proofs.Common.{sym}
use Rattle.sim_driver.proofs.CompiledAnswers.{wrote_executable, wrote_listing}
use Rattle.sim_driver.proofs.laws.what_is_written_runs_as_its_source.Goals as goal

pub returns-clause-compiled : goal.returns-clause-compiled
returns-clause-compiled c source input l answer old new means ends writes =
    let runs = c.allowed_programs_run.ensures in
    wrote_executable c.one_tree.ensures.syntax
    (λ tokens tree s allowed. record { built = runs.built tokens tree s allowed; ruled = runs.ruled tokens tree s allowed; stays_sane = runs.stays_sane tokens tree s allowed; names_objects = runs.names_objects tokens tree s allowed })
    c.code_is_answered_as_its_program.ensures.same source input l answer old new means (sym ends) writes

pub returns-clause-listed : goal.returns-clause-listed
returns-clause-listed c source input l answer old new means ends writes =
    let runs = c.allowed_programs_run.ensures in
    wrote_listing c.one_tree.ensures.syntax
    (λ tokens tree s allowed. record { built = runs.built tokens tree s allowed; ruled = runs.ruled tokens tree s allowed; stays_sane = runs.stays_sane tokens tree s allowed; names_objects = runs.names_objects tokens tree s allowed })
    c.code_is_answered_as_its_program.ensures.same source input l answer old new means (sym ends) writes

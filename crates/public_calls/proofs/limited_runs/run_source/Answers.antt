use Rattle.public_calls.proofs.limited_runs.run_source.Goals as goal

pub compile_and_run-requires : goal.compile_and_run-requires
compile_and_run-requires c = c.in-Ok.ensures.1

use Rattle.std.proofs.Common.{Err, ap, ◌∙◌}
use Rattle.std.proofs.lemmas.Result.{err_from_is_err_and}
use Rattle.sim_scope.specs.Source.{source_of}
use Rattle.sim_run.proofs.OneEnd.{has_end}
use Rattle.sim_run.proofs.Ran.{broken_of, has_ended}
use Rattle.sim_run.proofs.Showing.{code_takes, is_ruled}
use Rattle.sim_run.proofs.running.compile_and_run.Goals as goal

pub run_code-requires : goal.run_code-requires
run_code-requires g c input =
    is_ruled (source_of c.args.bound.now) c.in-Ok.code (c.compiled_code_runs_as_meant.ensures (source_of c.args.bound.now) c.in-Ok.code c.requires.ruled c.requires.names_objects c.requires.stays_sane c.in-Ok.ensures.stands) c.args.limits.now input c.requires

pub returns-in_ok-end-in-Ok-clause-ran : goal.returns-in_ok-end-in-Ok-clause-ran
returns-in_ok-end-in-Ok-clause-ran g c bytes told =
    has_ended (source_of c.args.bound.now) c.in-Ok.code (c.compiled_code_runs_as_meant.ensures (source_of c.args.bound.now) c.in-Ok.code c.requires.ruled c.requires.names_objects c.requires.stays_sane c.in-Ok.ensures.stands) c.args.limits.now bytes c.in_ok-end-in-Ok.end _ _ (c.in_ok-end-in-Ok.ensures.ran bytes told)

pub returns-in_err-end-in-Ok-clause-broken : goal.returns-in_err-end-in-Ok-clause-broken
returns-in_err-end-in-Ok-clause-broken g c bytes told =
    let p = err_from_is_err_and c.from_residual.result c.from_residual.ensures.1 in
    broken_of c.output_grows.ensures (source_of c.args.bound.now) c.in-Ok.code (c.compiled_code_runs_as_meant.ensures (source_of c.args.bound.now) c.in-Ok.code c.requires.ruled c.requires.names_objects c.requires.stays_sane c.in-Ok.ensures.stands) (g.I.Source.faults c.args.input.now) (g.I.Source.faults c.run_code.new.input) c.args.limits.now bytes _ _ c.from_residual.result c.in_err-end-in-Ok.field-0.0 (p.1 ∙ ap Err p.2) (c.in_err-end-in-Ok.ensures.broken bytes told)

pub returns-in_ok-end-in-Ok-clause-ends : goal.returns-in_ok-end-in-Ok-clause-ends
returns-in_ok-end-in-Ok-clause-ends g c bytes = has_end (source_of c.args.bound.now) c.args.limits.now bytes c.requires (c.every_run_ends.ensures (source_of c.args.bound.now) c.args.limits.now bytes)

pub returns-in_err-end-in-Ok-clause-ends : goal.returns-in_err-end-in-Ok-clause-ends
returns-in_err-end-in-Ok-clause-ends g c bytes = has_end (source_of c.args.bound.now) c.args.limits.now bytes c.requires (c.every_run_ends.ensures (source_of c.args.bound.now) c.args.limits.now bytes)

pub returns-in-Err-clause-ends : goal.returns-in-Err-clause-ends
returns-in-Err-clause-ends g c bytes = has_end (source_of c.args.bound.now) c.args.limits.now bytes c.requires (c.every_run_ends.ensures (source_of c.args.bound.now) c.args.limits.now bytes)

pub returns-in_ok-end-in-Ok-clause-takes : goal.returns-in_ok-end-in-Ok-clause-takes
returns-in_ok-end-in-Ok-clause-takes g c bytes told never = c.run_code.ensures.takes bytes told (code_takes (source_of c.args.bound.now) c.in-Ok.code (c.compiled_code_runs_as_meant.ensures (source_of c.args.bound.now) c.in-Ok.code c.requires.ruled c.requires.names_objects c.requires.stays_sane c.in-Ok.ensures.stands) c.args.limits.now bytes never)

pub returns-in_err-end-in-Ok-clause-takes : goal.returns-in_err-end-in-Ok-clause-takes
returns-in_err-end-in-Ok-clause-takes g c bytes told never = c.run_code.ensures.takes bytes told (code_takes (source_of c.args.bound.now) c.in-Ok.code (c.compiled_code_runs_as_meant.ensures (source_of c.args.bound.now) c.in-Ok.code c.requires.ruled c.requires.names_objects c.requires.stays_sane c.in-Ok.ensures.stands) c.args.limits.now bytes never)

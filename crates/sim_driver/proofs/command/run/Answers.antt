use Rattle.sim_scope.specs.Source.{source_of}
use Rattle.sim_run.specs.declared.running.RunFailure.TheVariants.{Input, Memory, Output}
use Rattle.sim_driver.proofs.Meant.{broken_by}
use Rattle.sim_driver.proofs.command.run.Goals as goal

pub returns-in-Ok-clause-ran : goal.returns-in-Ok-clause-ran
returns-in-Ok-clause-ran g c given told = record {
  code = c.in-Ok.ran.code;
  stands = c.in-Ok.ensures.stands;
  shows = c.in-Ok.ensures.shows;
  end = c.in-Ok.ran.end;
  ran = c.in-Ok.ensures.code_ran given told;
  same = c.ending_of.ensures;
}

pub returns-in-Err-Memory-clause-begins : goal.returns-in-Err-Memory-clause-begins
returns-in-Err-Memory-clause-begins g c given told =
    broken_by (g.I.Source.faults c.args.input.now) (g.I.Source.faults c.compile_and_run.new.input) c.args.limits.now (source_of c.args.bound.now) given _ _ c.in-Err-Memory.field-0 Memory c.in-Err-Memory.field-0-is (c.in-Err-Memory.ensures.broken given told)

pub returns-in-Err-Input-clause-begins : goal.returns-in-Err-Input-clause-begins
returns-in-Err-Input-clause-begins g c given told =
    (broken_by (g.I.Source.faults c.args.input.now) (g.I.Source.faults c.compile_and_run.new.input) c.args.limits.now (source_of c.args.bound.now) given _ _ c.in-Err-Input.field-0 Input c.in-Err-Input.field-0-is (c.in-Err-Input.ensures.broken given told)).1

pub returns-in-Err-Input-clause-cut : goal.returns-in-Err-Input-clause-cut
returns-in-Err-Input-clause-cut g c given told is =
    (broken_by (g.I.Source.faults c.args.input.now) (g.I.Source.faults c.compile_and_run.new.input) c.args.limits.now (source_of c.args.bound.now) given _ _ c.in-Err-Input.field-0 Input c.in-Err-Input.field-0-is (c.in-Err-Input.ensures.broken given told)).0

pub returns-in-Err-Output-clause-begins : goal.returns-in-Err-Output-clause-begins
returns-in-Err-Output-clause-begins g c given told =
    broken_by (g.I.Source.faults c.args.input.now) (g.I.Source.faults c.compile_and_run.new.input) c.args.limits.now (source_of c.args.bound.now) given _ _ c.in-Err-Output.field-0 Output c.in-Err-Output.field-0-is (c.in-Err-Output.ensures.broken given told)

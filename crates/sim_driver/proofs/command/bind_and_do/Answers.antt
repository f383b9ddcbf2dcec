use Rattle.sim_scope.specs.Source.{source_of}
use Rattle.sim_driver.specs.declared.failure.RunFailure.TheVariants.{Input}
use Rattle.sim_driver.proofs.Meant.{binds_ok, cut_by, means_bound, rejected_does, rejected_means, takes_by, untouched_by}
use Rattle.sim_driver.proofs.command.bind_and_do.Goals as goal

pub returns-in-Ok-clause-known : goal.returns-in-Ok-clause-known
returns-in-Ok-clause-known g c given told = binds_ok c.args.command c.args.limits.now c.args.source.now given (source_of c.in-Ok.bound) c.do_bound.result c.in-Ok.ensures.0 (c.do_bound.ensures.known given told)

pub returns-in-Ok-clause-does : goal.returns-in-Ok-clause-does
returns-in-Ok-clause-does g c given meaning told means = c.do_bound.ensures.does given meaning told (means_bound c.args.command c.args.limits.now c.args.source.now given (source_of c.in-Ok.bound) c.in-Ok.ensures.0 meaning means)

pub returns-in-Err-Broken-clause-known : goal.returns-in-Err-Broken-clause-known
returns-in-Err-Broken-clause-known g c given told =
    rejected_means c.args.command c.args.limits.now c.args.source.now given c.in-Err-Broken.rule c.in-Err-Broken.line (rw c.in-Err-Broken.field-0-is at c.in-Err-Broken.ensures)

pub returns-in-Err-Broken-clause-does : goal.returns-in-Err-Broken-clause-does
returns-in-Err-Broken-clause-does g c given meaning told means =
    rw c.in-Err-Broken.field-0-is
    (rejected_does c.args.command c.args.limits.now c.args.source.now given c.in-Err-Broken.rule c.in-Err-Broken.line _ (rw c.in-Err-Broken.field-0-is at c.in-Err-Broken.ensures) meaning means)

pub returns-in-Ok-clause-cut : goal.returns-in-Ok-clause-cut
returns-in-Ok-clause-cut g c given told is =
    cut_by (g.I.Source.faults c.args.input.now) (g.I.Source.faults c.do_bound.new.input) c.args.command c.args.limits.now c.args.source.now given (source_of c.in-Ok.bound) _ _ c.do_bound.result Input c.in-Ok.ensures.0 c.do_bound.ensures.only_run is (c.do_bound.ensures.cut given told is)

pub returns-in-Ok-clause-only_run : goal.returns-in-Ok-clause-only_run
returns-in-Ok-clause-only_run g c idle = (c.do_bound.ensures.only_run idle).1

pub returns-in-Ok-clause-untouched : goal.returns-in-Ok-clause-untouched
returns-in-Ok-clause-untouched g c rule line compiles =
    untouched_by c.args.command c.args.source.now (source_of c.in-Ok.bound) rule line c.in-Ok.ensures.0 (λ idle. (c.do_bound.ensures.only_run idle).1) compiles

pub returns-in-Ok-clause-takes : goal.returns-in-Ok-clause-takes
returns-in-Ok-clause-takes g c given s told compiles never =
    takes_by c.args.command c.args.limits.now c.args.source.now given s (source_of c.in-Ok.bound) c.in-Ok.ensures.0 (λ idle. (c.do_bound.ensures.only_run idle).1) (c.do_bound.ensures.takes given told) compiles never

pub returns-in-Ok-clause-unread : goal.returns-in-Ok-clause-unread
returns-in-Ok-clause-unread g c idle = (c.do_bound.ensures.only_run idle).0

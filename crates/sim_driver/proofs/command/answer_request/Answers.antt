use Rattle.std.proofs.Common.{◌≡◌, take}
use Rattle.sim_driver.proofs.Limits.{answer_from, answer_to, cut_from, rejected_to, runnable_to}
use Rattle.sim_driver.proofs.command.answer_request.Goals as goal

pub returns-in-Ok-clause-answered : goal.returns-in-Ok-clause-answered
returns-in-Ok-clause-answered g c source given told tells is =
    let same : c.in-Ok.source.items ≡ take 1048577 source = c.in-Ok.ensures.bytes source told in
    answer_from c.args.command c.args.limits.now source c.in-Ok.source.items given same (rw c.deref.ensures.value at (c.answer_source.ensures.answered given tells is))

pub returns-in-Ok-clause-answer : goal.returns-in-Ok-clause-answer
returns-in-Ok-clause-answer g c source given answer told tells means is =
    let same : c.in-Ok.source.items ≡ take 1048577 source = c.in-Ok.ensures.bytes source told in
    c.answer_source.ensures.answer given answer tells (rw c.deref.ensures.value (answer_to c.args.command c.args.limits.now source c.in-Ok.source.items given answer same means)) is

pub returns-in-Ok-clause-prefix : goal.returns-in-Ok-clause-prefix
returns-in-Ok-clause-prefix g c source given answer told tells means =
    let same : c.in-Ok.source.items ≡ take 1048577 source = c.in-Ok.ensures.bytes source told in
    c.answer_source.ensures.prefix given answer tells (rw c.deref.ensures.value (answer_to c.args.command c.args.limits.now source c.in-Ok.source.items given answer same means))

pub returns-in-Ok-clause-cut : goal.returns-in-Ok-clause-cut
returns-in-Ok-clause-cut g c source given told tells is =
    let same : c.in-Ok.source.items ≡ take 1048577 source = c.in-Ok.ensures.bytes source told in
    cut_from (g.I.Source.faults c.args.input.now) (g.I.Source.faults c.answer_source.new.input) c.args.command c.args.limits.now source c.in-Ok.source.items given _ _ same (rw c.deref.ensures.value at (c.answer_source.ensures.cut given tells is))

pub returns-in-Ok-clause-untouched : goal.returns-in-Ok-clause-untouched
returns-in-Ok-clause-untouched g c source rule line told compiles =
    let same : c.in-Ok.source.items ≡ take 1048577 source = c.in-Ok.ensures.bytes source told in
    c.answer_source.ensures.untouched rule line (rw c.deref.ensures.value (rejected_to source c.in-Ok.source.items rule line same compiles))

pub returns-in-Ok-clause-takes : goal.returns-in-Ok-clause-takes
returns-in-Ok-clause-takes g c source given s told tells compiles never =
    let same : c.in-Ok.source.items ≡ take 1048577 source = c.in-Ok.ensures.bytes source told in
    c.answer_source.ensures.takes given s tells (rw c.deref.ensures.value (runnable_to source c.in-Ok.source.items s same compiles)) never

use Rattle.std.proofs.Common.{◌≡◌, refl, take}
use Rattle.sim_driver.specs.declared.status.Status.TheVariants.{FileFault, Memory}
use Rattle.sim_driver.proofs.CodeAnswers.{answer_from, answer_to, breaks_in, cut_from, has_answered, spells_in, wrote_nothing}
use Rattle.sim_driver.proofs.executing.exec_file.Goals as goal

pub returns-in-Ok-clause-answered : goal.returns-in-Ok-clause-answered
returns-in-Ok-clause-answered g c content given told tells is =
    let same : c.in-Ok.bytes.items ≡ take 1073741825 content = c.in-Ok.ensures.bytes content told in
    answer_from c.args.limits.now content c.in-Ok.bytes.items given same (rw c.deref.ensures.value at (c.exec_bytes.ensures.answered given tells))

pub returns-in-Ok-clause-one_answer : goal.returns-in-Ok-clause-one_answer
returns-in-Ok-clause-one_answer g c content given told small tells =
    let same : c.in-Ok.bytes.items ≡ take 1073741825 content = c.in-Ok.ensures.bytes content told in
    has_answered c.args.limits.now content given c.exec_bytes.result _ _ (c.one_answer.ensures c.args.limits.now content given small)
    (λ answer means is. c.exec_bytes.ensures.answer given answer tells (rw c.deref.ensures.value (answer_to c.args.limits.now content c.in-Ok.bytes.items given same answer means)) is)
    (λ answer means. c.exec_bytes.ensures.prefix given answer tells (rw c.deref.ensures.value (answer_to c.args.limits.now content c.in-Ok.bytes.items given same answer means)))

pub returns-in-Err-File-clause-one_answer : goal.returns-in-Err-File-clause-one_answer
returns-in-Err-File-clause-one_answer g c content given told small tells =
    wrote_nothing c.args.limits.now content given FileFault _ refl (c.one_answer.ensures c.args.limits.now content given small)

pub returns-in-Err-Memory-clause-one_answer : goal.returns-in-Err-Memory-clause-one_answer
returns-in-Err-Memory-clause-one_answer g c content given told small tells =
    wrote_nothing c.args.limits.now content given Memory _ refl (c.one_answer.ensures c.args.limits.now content given small)

pub returns-in-Ok-clause-answer : goal.returns-in-Ok-clause-answer
returns-in-Ok-clause-answer g c content given answer told tells means is =
    let same : c.in-Ok.bytes.items ≡ take 1073741825 content = c.in-Ok.ensures.bytes content told in
    c.exec_bytes.ensures.answer given answer tells (rw c.deref.ensures.value (answer_to c.args.limits.now content c.in-Ok.bytes.items given same answer means)) is

pub returns-in-Ok-clause-prefix : goal.returns-in-Ok-clause-prefix
returns-in-Ok-clause-prefix g c content given answer told tells means =
    let same : c.in-Ok.bytes.items ≡ take 1073741825 content = c.in-Ok.ensures.bytes content told in
    c.exec_bytes.ensures.prefix given answer tells (rw c.deref.ensures.value (answer_to c.args.limits.now content c.in-Ok.bytes.items given same answer means))

pub returns-in-Ok-clause-cut : goal.returns-in-Ok-clause-cut
returns-in-Ok-clause-cut g c content given told tells is =
    let same : c.in-Ok.bytes.items ≡ take 1073741825 content = c.in-Ok.ensures.bytes content told in
    cut_from c.args.limits.now content c.in-Ok.bytes.items given same (g.I.Source.faults c.args.input.now) (g.I.Source.faults c.exec_bytes.new.input) _ _ (rw c.deref.ensures.value at (c.exec_bytes.ensures.cut given tells is))

pub returns-in-Ok-clause-untouched : goal.returns-in-Ok-clause-untouched
returns-in-Ok-clause-untouched g c content rule place told breaks =
    let same : c.in-Ok.bytes.items ≡ take 1073741825 content = c.in-Ok.ensures.bytes content told in
    c.exec_bytes.ensures.untouched rule place (rw c.deref.ensures.value (breaks_in c.args.limits.now content c.in-Ok.bytes.items content same rule place breaks))

pub returns-in-Ok-clause-takes : goal.returns-in-Ok-clause-takes
returns-in-Ok-clause-takes g c content given code told tells spells never =
    let same : c.in-Ok.bytes.items ≡ take 1073741825 content = c.in-Ok.ensures.bytes content told in
    c.exec_bytes.ensures.takes given code tells (rw c.deref.ensures.value (spells_in c.args.limits.now content c.in-Ok.bytes.items given same code spells)) never

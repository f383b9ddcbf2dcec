use Rattle.std.proofs.Common.{[], refl}
use Rattle.sim_driver.proofs.Generated.{are_default, never_rose, no_text, ran_text}
use Rattle.sim_driver.proofs.command.run_generated.Goals as goal

pub returns-in-Ok-clause-no_input_fault : goal.returns-in-Ok-clause-no_input_fault
returns-in-Ok-clause-no_input_fault g c is = never_rose (c.answer_source.ensures.input_fault is)

pub returns-in-Ok-clause-runs : goal.returns-in-Ok-clause-runs
returns-in-Ok-clause-runs g c =
    ran_text c.args.processes c.without_options.result c.in-Ok.source.items c.answer_source.result _ _
    (are_default c.without_options.result c.without_options.ensures.storage c.without_options.ensures.ticks c.without_options.ensures.images.0 c.without_options.ensures.images.1)
    c.in-Ok.ensures.text
    (λ is. rw c.deref.ensures.value at (c.answer_source.ensures.answered [] refl is))
    (λ answer means is. c.answer_source.ensures.answer [] answer refl (rw c.deref.ensures.value means) is)
    (λ answer means. c.answer_source.ensures.prefix [] answer refl (rw c.deref.ensures.value means))

pub returns-in-Err-clause-runs : goal.returns-in-Err-clause-runs
returns-in-Err-clause-runs g c = no_text c.args.processes _

use Rattle.std.proofs.Common.{subst, sym, ap, ◌∙◌}
use Rattle.notices.specs.Seen.{NoticeList}
use Rattle.notices.specs.Scheduling.{HasRoom, activated, answer_of, next_of}
use Rattle.simulation.proofs.SchedulingLemmas.{answer-refused, answer-done, next_after-first}
use Rattle.simulation.proofs.sim.Sim.activate.Goals as goal

pub activate-requires-clause-within : goal.activate-requires-clause-within
activate-requires-clause-within g c = λ x e. subst (λ room. HasRoom room x) (sym (ap (λ (v : NoticeList). v.room) c.self.view_is)) (c.requires.within x e)

pub returns-in-Err-clause-answer : goal.returns-in-Err-clause-answer
returns-in-Err-clause-answer g c =
    let list = g.N.NoticeSet.notices c.self.inside.set in
    sym (answer-refused list (activated c.args.activation list) c.in-Err.error (sym c.in-Err.ensures.answer))
    ∙ ap (λ (v : NoticeList). answer_of v.notices (activated c.args.activation v.notices)) c.self.view_is

pub returns-clause-answer : goal.returns-clause-answer
returns-clause-answer g c =
    let list = g.N.NoticeSet.notices c.self.inside.set in
    c.next_after.ensures
    ∙ next_after-first list (g.N.NoticeSet.notices c.activate.new.notices) c.present-now.result c.present-now.ensures.present
    ∙ ap (next_of list) c.in_default.ensures.list
    ∙ answer-done list (activated c.args.activation list) _ (sym c.in_default.ensures.answer)
    ∙ ap (λ (v : NoticeList). answer_of v.notices (activated c.args.activation v.notices)) c.self.view_is

use Rattle.std.proofs.Common.{ap, ◌∙◌}
use Rattle.notices.specs.Seen.{NoticeList}
use Rattle.notices.specs.Scheduling.{passivated, next_of}
use Rattle.simulation.specs.Steps.{next_after}
use Rattle.simulation.proofs.SchedulingLemmas.{removed-first, next_after-first}
use Rattle.simulation.proofs.sim.Sim.passivate.Goals as goal

pub returns-clause-list : goal.returns-clause-list
returns-clause-list g c =
    c.take_out.ensures.removed
    ∙ removed-first (g.N.NoticeSet.notices c.self.inside.set) c.present.result c.present.ensures.once c.present.ensures.present
    ∙ ap (λ (v : NoticeList). passivated v.notices) c.self.view_is

pub returns-clause-answer : goal.returns-clause-answer
returns-clause-answer g c =
    let list = g.N.NoticeSet.notices c.self.inside.set in
    c.next_after.ensures
    ∙ ap (next_after c.present.result.1.0) (c.take_out.ensures.removed ∙ removed-first list c.present.result c.present.ensures.once c.present.ensures.present)
    ∙ next_after-first list (passivated list) c.present.result c.present.ensures.present
    ∙ ap (λ (v : NoticeList). next_of v.notices (passivated v.notices)) c.self.view_is

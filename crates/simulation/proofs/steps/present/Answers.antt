use Rattle.std.proofs.Common.{◌≡◌, Some, sym, ◌∙◌}
use Rattle.notices.specs.Notices.{first_event}
use Rattle.simulation.proofs.SchedulingLemmas.{first-within}
use Rattle.simulation.proofs.steps.present.Goals as goal

pub returns-clause-within : goal.returns-clause-within
returns-clause-within g c =
    let first : first_event (g.N.NoticeSet.notices c.args.notices.now) ≡ Some c.unwrap.result = sym c.first.ensures.first ∙ c.unwrap.ensures in
    first-within (g.N.NoticeSet.notices c.args.notices.now) (g.N.NoticeSet.room c.args.notices.now) c.unwrap.result c.first.ensures.schedule first

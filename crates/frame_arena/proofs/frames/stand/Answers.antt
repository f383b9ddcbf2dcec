use Rattle.std.proofs.Common.{refl}
use Rattle.frame_arena.proofs.Rooms.{rooms_kept}
use Rattle.frame_arena.proofs.Standings.{component_leads, has_kept, kept_elsewhere, stands_anew, stands_there}
use Rattle.std.specs.Prelude.{None}
use Rattle.frame_arena.proofs.Freed.{free_changed}
use Rattle.frame_arena.proofs.frames.stand.Goals as goal

pub returns-clause-holds : goal.returns-clause-holds
returns-clause-holds c cells m s stands h = stands_anew c.args.frames.now c.args.place c.requires.there c.args.component s stands cells m h c.requires.live

pub returns-clause-stacks : goal.returns-clause-stacks
returns-clause-stacks c = rooms_kept c.args.frames.now c.args.place _ c.requires.there refl refl

pub returns-clause-leads : goal.returns-clause-leads
returns-clause-leads c m standings r leads = component_leads c.args.frames.now c.args.place c.requires.there c.args.component m standings r leads

pub returns-clause-has : goal.returns-clause-has
returns-clause-has c at number h = has_kept c.args.frames.now c.args.place c.requires.there c.args.component at number h

pub returns-clause-chains : goal.returns-clause-chains
returns-clause-chains c at number d other h = kept_elsewhere c.args.frames.now c.args.place c.requires.there c.args.component at number d other h

pub returns-clause-stands : goal.returns-clause-stands
returns-clause-stands c = stands_there c.args.frames.now c.args.place c.requires.there c.args.component

pub returns-clause-lists : goal.returns-clause-lists
returns-clause-lists c heads lists h = free_changed c.args.frames.now heads lists c.args.place _ c.requires.there None h c.requires.live c.requires.live refl

use Rattle.std.proofs.Common.{refl}
use Rattle.frame_arena.proofs.Entries.{chains_kept, keeps}
use Rattle.frame_arena.proofs.Leading.{keeps_leading}
use Rattle.frame_arena.proofs.Rooms.{rooms_kept}
use Rattle.std.specs.Prelude.{None}
use Rattle.frame_arena.proofs.Freed.{free_changed}
use Rattle.frame_arena.proofs.frames.keep.Goals as goal

pub returns-clause-holds : goal.returns-clause-holds
returns-clause-holds c cells m h = keeps c.args.frames.now cells m c.args.place h c.requires.there c.requires.live

pub returns-clause-stacks : goal.returns-clause-stacks
returns-clause-stacks c = rooms_kept c.args.frames.now c.args.place _ c.requires.there refl refl

pub returns-clause-leads : goal.returns-clause-leads
returns-clause-leads c cells m r h leads = keeps_leading c.args.frames.now cells m c.args.place r h c.requires.there c.requires.live leads

pub returns-clause-chains : goal.returns-clause-chains
returns-clause-chains c = chains_kept c.args.frames.now c.args.place c.requires.there

pub returns-clause-lists : goal.returns-clause-lists
returns-clause-lists c heads lists h = free_changed c.args.frames.now heads lists c.args.place _ c.requires.there None h c.requires.live c.requires.live refl

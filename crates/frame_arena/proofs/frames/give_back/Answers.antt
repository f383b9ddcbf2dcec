use Rattle.std.proofs.Common.{arith, refl}
use Rattle.frame_arena.specs.Frames.{frame_at}
use Rattle.frame_arena.proofs.Changes.{kept_given, gives}
use Rattle.frame_arena.proofs.Leading.{gives_leading}
use Rattle.frame_arena.proofs.Rooms.{rooms_kept}
use Rattle.frame_arena.proofs.Entries.{no_some}
use Rattle.frame_arena.proofs.Freed.{free_given}
use Rattle.frame_arena.proofs.frames.give_back.Goals as goal

pub returns-then-block-heads-clause-holds : goal.returns-then-block-heads-clause-holds
returns-then-block-heads-clause-holds c cells m h = gives c.args.frames.now cells m c.args.place _ h c.requires.there c.requires.live refl refl refl

pub returns-else-block-heads-clause-holds : goal.returns-else-block-heads-clause-holds
returns-else-block-heads-clause-holds c cells m h = gives c.args.frames.now cells m c.args.place _ h c.requires.there c.requires.live refl refl refl

pub returns-then-block-heads-clause-stacks : goal.returns-then-block-heads-clause-stacks
returns-then-block-heads-clause-stacks c = rooms_kept c.args.frames.now c.args.place _ c.requires.there refl refl

pub returns-else-block-heads-clause-stacks : goal.returns-else-block-heads-clause-stacks
returns-else-block-heads-clause-stacks c = rooms_kept c.args.frames.now c.args.place _ c.requires.there refl refl

pub returns-then-block-heads-clause-leads : goal.returns-then-block-heads-clause-leads
returns-then-block-heads-clause-leads c cells m r h leads = gives_leading c.args.frames.now cells m c.args.place _ r h c.requires.there c.requires.live leads

pub returns-else-block-heads-clause-leads : goal.returns-else-block-heads-clause-leads
returns-else-block-heads-clause-leads c cells m r h leads = gives_leading c.args.frames.now cells m c.args.place _ r h c.requires.there c.requires.live leads

pub returns-then-block-heads-clause-chains : goal.returns-then-block-heads-clause-chains
returns-then-block-heads-clause-chains c = kept_given c.args.frames.now c.args.place _ c.requires.there refl

pub returns-else-block-heads-clause-chains : goal.returns-else-block-heads-clause-chains
returns-else-block-heads-clause-chains c = kept_given c.args.frames.now c.args.place _ c.requires.there refl

pub returns-then-block-heads-clause-lists : goal.returns-then-block-heads-clause-lists
returns-then-block-heads-clause-lists c lists h =
    free_given c.args.frames.now c.args.heads.now lists c.args.place _ c.requires.there (frame_at c.args.frames.now c.args.place).block refl h c.requires.live refl refl refl

pub returns-else-block-heads-clause-lists : goal.returns-else-block-heads-clause-lists
returns-else-block-heads-clause-lists c lists h =
    let below = h.blocks c.args.place c.requires.there (λ e. no_some c.args.place e) in
    let past = c.if-block-heads.false in
    absurd (omega (arith, below, past))

use Rattle.std.proofs.Common.{sym, refl, ap, ◌∙◌}
use Rattle.frame_arena.specs.Frames.{keeps_chain}
use Rattle.frame_arena.proofs.Changes.{frame_same, kept_set, off}
use Rattle.frame_arena.proofs.Entries.{enters, here_entered, leads_entered}
use Rattle.frame_arena.proofs.Rooms.{rooms_kept}
use Rattle.frame_arena.proofs.Freed.{free_entered}
use Rattle.frame_arena.proofs.frames.enter.Goals as goal

pub returns-clause-holds : goal.returns-clause-holds
returns-clause-holds c cells m h numbered parent = enters c.args.frames.now cells m c.args.place _ _ c.first_component-frame.ensures.standing h c.requires.there c.requires.free refl numbered refl refl parent

pub returns-clause-stacks : goal.returns-clause-stacks
returns-clause-stacks c = rooms_kept c.args.frames.now c.args.place _ c.requires.there refl refl

pub returns-clause-leads : goal.returns-clause-leads
returns-clause-leads c m x standing r leads = leads_entered c.args.frames.now m c.args.place _ x standing r c.requires.free leads

pub returns-clause-here : goal.returns-clause-here
returns-clause-here c = here_entered c.args.frames.now c.args.place _ c.requires.there refl

pub returns-clause-chains : goal.returns-clause-chains
returns-clause-chains c =
    kept_set c.args.frames.now c.args.place _
    (λ n x h. absurd (off (sym c.first_component-frame.ensures.other ∙ ap (λ x. keeps_chain x) (sym (ap (λ g. g.component) (frame_same c.args.frames.now c.args.place _ c.requires.there)) ∙ h.1) ∙ h.2)))

pub returns-clause-lists : goal.returns-clause-lists
returns-clause-lists c heads lists h below = free_entered c.args.frames.now heads lists c.args.place _ c.requires.there h refl below

use Rattle.std.proofs.Common.{◌≡◌, Some, sym, refl, ap, ◌∙◌, arith}
use Rattle.std.proofs.lemmas.Option.{get_or_from_slice_get}
use Rattle.frame_arena.specs.Frames.{frame_at}
use Rattle.frame_arena.proofs.Changes.{off}
use Rattle.frame_arena.proofs.Freed.{free_taken, none_free}
use Rattle.frame_arena.proofs.regions.take_free.Goals as goal
use Rattle.frame_arena.proofs.regions.take_free.Goals.{then-frame-via-then-frame, then-frame-via-else-frame+then-frame-cells, then-frame-via-else-frame+else-frame-cells+then-frame-room}

pub returns-then-place-frames-clause-lists : goal.returns-then-place-frames-clause-lists
returns-then-place-frames-clause-lists c lists h below = (
  refl,
  λ shapes.
      none_free c.args.frames.now c.args.heads.now lists c.args.block below h
      (λ place is there free own. absurd (let past = c.if-place-frames.true in omega (arith, past, is, there))),
)

pub returns-then-frame-clause-first : goal.returns-then-frame-clause-first
returns-then-frame-clause-first c place is there free shape =
    let at = get_or_from_slice_get c.args.heads.now c.args.block place 0 is in
    absurd (elim c.then-frame.branch [
      | then-frame-via-then-frame w ↦ off (sym free ∙ ap (λ z. (frame_at c.args.frames.now z).live) (sym at) ∙ w.if-frame.true)
      | then-frame-via-else-frame+then-frame-cells w ↦ w.if-frame-cells.true (ap (λ z. (frame_at c.args.frames.now z).cells) at ∙ shape.0)
      | then-frame-via-else-frame+else-frame-cells+then-frame-room w ↦ w.if-frame-room.true (ap (λ z. (frame_at c.args.frames.now z).room) at ∙ shape.1)
    ])

pub returns-then-frame-clause-lists : goal.returns-then-frame-clause-lists
returns-then-frame-clause-lists c lists h below = (
  refl,
  λ shapes.
      none_free c.args.frames.now c.args.heads.now lists c.args.block below h
      (λ place at there free own.
      elim c.then-frame.branch [
        | then-frame-via-then-frame w ↦ off (sym free ∙ ap (λ z. (frame_at c.args.frames.now z).live) (sym at) ∙ w.if-frame.true)
        | then-frame-via-else-frame+then-frame-cells w ↦ w.if-frame-cells.true (ap (λ z. (frame_at c.args.frames.now z).cells) at ∙ (shapes place there own).0)
        | then-frame-via-else-frame+else-frame-cells+then-frame-room w ↦ w.if-frame-room.true (ap (λ z. (frame_at c.args.frames.now z).room) at ∙ (shapes place there own).1)
      ]),
)

pub returns-clause-first : goal.returns-clause-first
returns-clause-first c place is there free shape = ap (λ z. Some z) (get_or_from_slice_get c.args.heads.now c.args.block place 0 is)

pub returns-clause-lists : goal.returns-clause-lists
returns-clause-lists c lists h below = free_taken c.args.frames.now c.args.heads.now lists c.args.block below h _ refl c.if-place-frames.false

use Rattle.std.proofs.Common.{◌∷◌, [], length, length-append, ap, subst, sym, arith}
use Rattle.frame_arena.specs.Arrays.{AllLeadArrays}
use Rattle.frame_arena.specs.Frames.{Holds}
use Rattle.frame_arena.specs.Slots.{empty_slot}
use Rattle.frame_arena.proofs.Growth.{grows, grows_leading}
use Rattle.frame_arena.proofs.regions.grow.Goals as goal

pub loop-preserved : goal.loop-preserved
loop-preserved c =
    let e = c.in_ok-push.ensures.items in
    let more = length-append c.loop.slots.items (empty_slot ∷ []) in
    let l = ap length e in (
      omega (arith, l, more, c.loop.invariant.0),
      λ frames m h. subst (λ l. Holds frames l m) (sym e) (grows frames c.loop.slots.items m (c.loop.invariant.1 frames m h)),
      λ regions arrays h. subst (λ l. AllLeadArrays regions arrays l) (sym e) (grows_leading c.loop.slots.items regions arrays (c.loop.invariant.2 regions arrays h)),
    )

use Rattle.std.proofs.Common.{rules, of_z, to_z, w64, ◌≡◌, ◌+◌, ◌*◌, suc, [], ◌∷◌, ◌++◌, sym, ap, ◌∙◌, arith}
use Rattle.std.specs.Prelude.{ℤ}
use Rattle.sim_code.specs.Arrays.{pairs}
use Rattle.frame_arena.specs.Stacks.{integers_from, slot_at}
use Rattle.object_machine.proofs.ArrayRows.{pairs_more}
use Rattle.object_machine.proofs.arrays.bounds_of.Goals as goal

pub loop-dimension-preserved : goal.loop-dimension-preserved
loop-dimension-preserved c =
    let stack = c.args.stack.now in
    let first = c.args.first in
    let k = c.loop-dimension.dimension in
    let e : suc k ≡ k + 1 = omega arith in
    let x : ℤ = (slot_at stack (first + 2 * k)).«data» in
    let y : ℤ = (slot_at stack (first + 2 * k + 1)).«data» in
    let ex : to_z w64 (of_z w64 x) ≡ x = search rules in
    let ey : to_z w64 (of_z w64 y) ≡ y = search rules in
    c.in_ok-push.ensures.items
    ∙ ap (λ z. c.loop-dimension.bounds.items ++ (z, to_z w64 (of_z w64 y)) ∷ []) ex
    ∙ ap (λ z. c.loop-dimension.bounds.items ++ (x, z) ∷ []) ey
    ∙ ap (λ l. l ++ ((slot_at stack (first + 2 * k)).«data», (slot_at stack (first + 2 * k + 1)).«data») ∷ []) c.loop-dimension.invariant
    ∙ sym (pairs_more stack k first)
    ∙ ap (λ n. pairs (integers_from stack first (2 * n))) e

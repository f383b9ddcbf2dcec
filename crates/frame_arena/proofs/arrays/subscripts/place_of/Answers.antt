use Rattle.std.proofs.Common.{rules, ◌≡◌, ◌+◌, ◌*◌, ℤ, get_or, sym, subst, ap, ◌∙◌, arith, of_z, to_z, w64, slice_index_or}
use Rattle.std.proofs.lemmas.List.{get_or_default}
use Rattle.std.specs.Prelude.{pos}
use Rattle.sim_values.specs.Words.{extent_of}
use Rattle.frame_arena.specs.Stacks.{slot_at}
use Rattle.frame_arena.proofs.Subscripts.{Placed, extent_short, extent_some, next_below, nowhere, outside, placed_first, placed_last, placed_next, placed_within}
use Rattle.frame_arena.proofs.arrays.subscripts.place_of.Goals as goal

pub returns-then-count-eq0-clause-place : goal.returns-then-count-eq0-clause-place
returns-then-count-eq0-clause-place c e short = sym (nowhere c.args.bounds.now c.args.stack.now c.args.first c.args.count e (omega (arith, c.if-count-eq0.true)))

pub loop-dimension-init : goal.loop-dimension-init
loop-dimension-init c e short = placed_first c.args.bounds.now c.args.stack.now c.args.first c.args.count e (λ z. omega (arith, z, c.if-count-eq0.false))

pub returns-in_default-clause-place : goal.returns-in_default-clause-place
returns-in_default-clause-place c e short =
    let bounds = c.args.bounds.now in
    let k = c.loop-dimension.dimension in
    let x : ℤ × ℤ = slice_index_or bounds k (pos 0, pos 0) in
    let e0 : to_z w64 (of_z w64 x.0) ≡ x.0 = search rules in
    let e1 : to_z w64 (of_z w64 x.1) ≡ x.1 = search rules in
    let s : ℤ = (slot_at c.args.stack.now (c.args.first + k)).«data» in
    let e2 : to_z w64 (of_z w64 s) ≡ s = search rules in
    sym (outside bounds c.args.stack.now c.args.first c.args.count c.loop-dimension.at k (c.loop-dimension.invariant e short) c.loop-dimension-test.true (to_z w64 (of_z w64 x.0), to_z w64 (of_z w64 x.1)) (to_z w64 (of_z w64 s))
    (λ d. get_or_default bounds k d (pos 0, pos 0) c.loop-dimension-test.true ∙ ap (λ z. (z, x.1)) (sym e0) ∙ ap (λ z. (to_z w64 (of_z w64 x.0), z)) (sym e1)) (sym e2) c.in_default.ensures)

pub loop-dimension-preserved : goal.loop-dimension-preserved
loop-dimension-preserved c e short =
    let bounds = c.args.bounds.now in
    let stack = c.args.stack.now in
    let first = c.args.first in
    let count = c.args.count in
    let at = c.loop-dimension.at in
    let k = c.loop-dimension.dimension in
    let p = c.loop-dimension.invariant e short in
    let more = c.loop-dimension-test.true in
    let x : ℤ × ℤ = slice_index_or bounds k (pos 0, pos 0) in
    let e0 : to_z w64 (of_z w64 x.0) ≡ x.0 = search rules in
    let e1 : to_z w64 (of_z w64 x.1) ≡ x.1 = search rules in
    let s : ℤ = (slot_at stack (first + k)).«data» in
    let e2 : to_z w64 (of_z w64 s) ≡ s = search rules in
    let b : ℤ × ℤ = (to_z w64 (of_z w64 x.0), to_z w64 (of_z w64 x.1)) in
    let i : ℤ = to_z w64 (of_z w64 s) in
    let is_b : (d : ℤ × ℤ) → get_or bounds k d ≡ b = λ d. get_or_default bounds k d (pos 0, pos 0) more ∙ ap (λ z. (z, x.1)) (sym e0) ∙ ap (λ z. (to_z w64 (of_z w64 x.0), z)) (sym e1) in
    let above = c.in-Some.above in
    let below = next_below bounds stack first count at k p more b i is_b (sym e2) above c.in-Some.ensures in
    let some = extent_some bounds stack first count at k p more b i is_b (sym e2) above c.in-Some.ensures in
    let fits = extent_short bounds stack first count at k p more b i is_b (sym e2) above c.in-Some.ensures in
    let next : c.next_place-at.result ≡ at * extent_of b + above = c.next_place-at.ensures some (omega (arith, fits, short)) (omega (arith, below, short)) in
    subst (λ n. Placed bounds stack first count n (k + 1)) (sym next) (placed_next bounds stack first count at k p more b i is_b (sym e2) above c.in-Some.ensures)

pub returns-clause-place : goal.returns-clause-place
returns-clause-place c e short = placed_last c.args.bounds.now c.args.stack.now c.args.first c.args.count c.loop-dimension.at c.loop-dimension.dimension (c.loop-dimension.invariant e short) c.loop-dimension-test.false

pub returns-clause-within : goal.returns-clause-within
returns-clause-within c e short = placed_within c.args.bounds.now c.args.stack.now c.args.first c.args.count c.loop-dimension.at c.loop-dimension.dimension (c.loop-dimension.invariant e short) c.loop-dimension-test.false

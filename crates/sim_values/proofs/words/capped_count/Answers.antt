use Rattle.std.proofs.Common.{◌+◌, ◌*◌, ◌^◌, ℕ, ℤ, pos, min, take, get_or, sym, ap, ◌∙◌, lit<}
use Rattle.std.proofs.lemmas.List.{take_more}
use Rattle.sim_values.specs.Words.{extent_of, element_count}
use Rattle.sim_values.proofs.Products.{element_count-push, min-product}
use Rattle.sim_values.proofs.words.capped_count.Goals as goal

pub loop-dimension-preserved : goal.loop-dimension-preserved
loop-dimension-preserved c =
    let i = c.loop-dimension.dimension-index in
    let dimensions = c.args.bounds.now in
    let dimension : ℤ × ℤ = get_or dimensions i (pos 0, pos 0) in
    let limit : ℕ = 2 ^ 31 + 1 in
    let counted : ℕ = element_count (take i dimensions) in
    c.min-count.ensures
    ∙ ap (λ (n : ℕ). min (n * c.capped_extent.result) limit) c.loop-dimension.invariant
    ∙ ap (λ (n : ℕ). min (min counted limit * n) limit) c.capped_extent.ensures
    ∙ min-product counted (extent_of dimension) limit (lit< tt)
    ∙ ap (λ (n : ℕ). min n limit) (sym (ap element_count (take_more dimensions i (pos 0, pos 0) c.loop-dimension-test.true) ∙ element_count-push (take i dimensions) dimension))

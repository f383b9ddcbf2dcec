use Rattle.std.proofs.Common.{zero, suc, ◌<◌, ◌^◌, ℕ, ◌*◌, ◌/◌, arith, subst, ◌∙◌, lit<}
use Rattle.sim_values.proofs.Powers.{Halved, halved-even, halved-odd, product-below, square-below}
use Rattle.sim_values.proofs.arithmetic.natural_power.Goals as goal
use Rattle.sim_values.proofs.arithmetic.natural_power.Goals.{then-rest-eq1+in_ok-power, else-rest-eq1}

root_positive : (n : ℕ) → 0 < n * n → 0 < n
root_positive zero some = some
root_positive (suc n) some = omega arith

halved-at_square : (c : goal.After-from_residual-in_err-square) → Halved c.if-rest-eq1.power c.loop-rest.square c.loop-rest.rest (c.args.base ^ c.args.exponent)
halved-at_square c =
    let kept = c.loop-rest.invariant in
    elim c.if-rest-eq1.branch [
      | then-rest-eq1+in_ok-power w ↦ halved-odd _ _ _ _ _ kept.whole kept.positive (omega arith) (w.power-is ∙ w.in_ok-power.ensures.1) (rw w.power-is (rw w.in_ok-power.ensures.1 w.in_ok-power.ensures.0))
      | else-rest-eq1 w ↦ halved-even _ _ _ _ _ kept.whole kept.positive (omega arith) w.power-is (rw w.power-is kept.fits)
    ]

halved-at_end : (c : goal.In_ok-square) → Halved c.if-rest-eq1.power c.loop-rest.square c.loop-rest.rest (c.args.base ^ c.args.exponent)
halved-at_end c =
    let kept = c.loop-rest.invariant in
    elim c.if-rest-eq1.branch [
      | then-rest-eq1+in_ok-power w ↦ halved-odd _ _ _ _ _ kept.whole kept.positive (omega arith) (w.power-is ∙ w.in_ok-power.ensures.1) (rw w.power-is (rw w.in_ok-power.ensures.1 w.in_ok-power.ensures.0))
      | else-rest-eq1 w ↦ halved-even _ _ _ _ _ kept.whole kept.positive (omega arith) w.power-is (rw w.power-is kept.fits)
    ]

pub returns-in_err-power : goal.returns-in_err-power
returns-in_err-power c =
    rw c.from_residual.ensures
    (λ small. c.in_err-power.ensures (product-below c.loop-rest.power c.loop-rest.square c.loop-rest.rest (2 ^ 64) (lit< tt) (omega arith) (rw c.loop-rest.invariant.whole small)))

pub returns-in_err-square : goal.returns-in_err-square
returns-in_err-square c =
    let kept = halved-at_square c in
    rw c.from_residual-in_err-square.ensures
    (λ small. c.in_err-square.ensures (square-below c.if-rest-eq1.power c.loop-rest.square (c.loop-rest.rest / 2) (2 ^ 64) kept.positive (lit< tt) (omega arith) (rw kept.product small)))

pub loop-rest-preserved-then-rest-ne0 : goal.loop-rest-preserved-then-rest-ne0
loop-rest-preserved-then-rest-ne0 c =
    let kept = halved-at_end c in
    let square-is = c.in_ok-square.ensures.1 in
    record {
      whole = rw square-is kept.product;
      positive = λ some. kept.positive (root_positive c.loop-rest.square (subst (λ (n : ℕ). 0 < n) square-is some));
      fits = kept.fits;
    }

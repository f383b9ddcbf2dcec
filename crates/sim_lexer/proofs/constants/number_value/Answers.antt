use Rattle.std.proofs.Common.{◌≡◌, ◌+◌, ◌≤◌, drop, get_or, arith}
use Rattle.std.proofs.lemmas.List.{at_drop_more}
use Rattle.std.specs.List.{fold}
use Rattle.sim_lexer.specs.Constants.{number_value, one_more}
use Rattle.sim_lexer.proofs.Numbers.{number-ge}
use Rattle.sim_lexer.proofs.constants.number_value.Goals as goal

-- with this digit the number is too large, and those behind it make it no smaller
pub returns-in-None : goal.returns-in-None
unfolding number_value
returns-in-None c =
    let l = c.loop-digit in
    let digits = c.args.digits.now in
    let base = c.args.base in
    let more = one_more base l.value (get_or digits l.digit-index 0) in
    let step : fold (one_more base) l.value (drop l.digit-index digits) ≡ fold (one_more base) more (drop (l.digit-index + 1) digits) =
    at_drop_more (fold (one_more base) l.value) digits l.digit-index 0 c.loop-digit-test.true in
    let grows : more ≤ fold (one_more base) more (drop (l.digit-index + 1) digits) = number-ge base more (drop (l.digit-index + 1) digits) c.requires in
    record { value = omega (arith, c.in-None.ensures.value, step, grows, l.invariant.same) }

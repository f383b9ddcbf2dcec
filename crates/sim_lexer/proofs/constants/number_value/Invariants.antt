use Rattle.std.proofs.Common.{◌≡◌, ◌<◌, ◌^◌, drop}
use Rattle.std.specs.List.{fold}
use Rattle.sim_lexer.specs.Constants.{one_more}
use Rattle.sim_lexer.proofs.constants.number_value.Given as goal

abbrev pub invariant-loop-digit : goal.invariant-loop-digit
invariant-loop-digit l = record { same : fold (one_more l.base) l.value (drop l.digit-index l.digits) ≡ fold (one_more l.base) 0 l.digits; small : l.value < 2 ^ 63 }

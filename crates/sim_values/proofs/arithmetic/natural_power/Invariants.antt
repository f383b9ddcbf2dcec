use Rattle.std.proofs.Common.{◌≡◌, ◌<◌, ◌*◌, ◌^◌}
use Rattle.sim_values.proofs.arithmetic.natural_power.Given as goal

-- what is done times what is left is the whole power, and nothing but a base of 0 makes 0
abbrev pub invariant-loop-rest : goal.invariant-loop-rest
invariant-loop-rest l = record {
  whole : l.power * l.square ^ l.rest ≡ l.base ^ l.exponent;
  positive : 0 < l.square → 0 < l.power;
  fits : l.power < 2 ^ 64;
}

abbrev pub decreases-loop-rest : goal.decreases-loop-rest
decreases-loop-rest l = l.rest

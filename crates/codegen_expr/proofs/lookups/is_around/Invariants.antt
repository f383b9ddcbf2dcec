use Rattle.std.proofs.Common.{◌≡◌, length, ◌-◌}
use Rattle.codegen_expr.specs.Built.{is_around}
use Rattle.codegen_expr.proofs.lookups.is_around.Given as goal

abbrev pub invariant-loop-step : goal.invariant-loop-step
invariant-loop-step l = is_around l.scopes (length l.scopes.blocks) l.fn.inner l.outer ≡ is_around l.scopes (length l.scopes.blocks - l.step) l.text l.outer

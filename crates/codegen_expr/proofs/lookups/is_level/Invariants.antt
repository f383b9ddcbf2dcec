use Rattle.std.proofs.Common.{◌≡◌, length, ◌-◌}
use Rattle.codegen_expr.specs.Built.{is_level}
use Rattle.codegen_expr.proofs.lookups.is_level.Given as goal

abbrev pub invariant-loop-step : goal.invariant-loop-step
invariant-loop-step l = is_level l.scopes (length l.scopes.blocks) l.text l.level ≡ is_level l.scopes (length l.scopes.blocks - l.step) l.front l.level

use Rattle.std.proofs.Common.{◌≡◌, length, ◌-◌}
use Rattle.sim_scope.specs.References.{this_of}
use Rattle.sim_types.proofs.references.this_from.Given as goal

abbrev pub invariant-loop-step : goal.invariant-loop-step
invariant-loop-step l = this_of l.scopes (length l.scopes.blocks) l.class l.fn.block ≡ this_of l.scopes (length l.scopes.blocks - l.step) l.class l.block

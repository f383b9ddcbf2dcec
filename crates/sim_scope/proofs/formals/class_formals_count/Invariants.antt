use Rattle.std.proofs.Common.{◌≡◌, ◌≤◌, ◌+◌, ◌*◌, ◌^◌, length}
use Rattle.sim_scope.specs.Scopes.{class_formals_of}
use Rattle.sim_scope.proofs.LevelsLeft.{levels_left}
use Rattle.sim_scope.proofs.formals.class_formals_count.Given as goal

abbrev pub invariant-loop-step : goal.invariant-loop-step
invariant-loop-step l =
    (l.count + length (levels_left l.scopes (length l.scopes.blocks) l.step l.block) ≡ length (class_formals_of l.scopes (length l.scopes.blocks) l.fn.block)) × (l.count ≤ l.step * 2 ^ 64)

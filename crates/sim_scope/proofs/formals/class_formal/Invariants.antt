use Rattle.std.proofs.Common.{◌≡◌, length}
use Rattle.std.specs.Prelude.{slice_get}
use Rattle.sim_scope.specs.Scopes.{class_formals_of}
use Rattle.sim_scope.proofs.LevelsLeft.{levels_left}
use Rattle.sim_scope.proofs.formals.class_formal.Given as goal

abbrev pub invariant-loop-step : goal.invariant-loop-step
invariant-loop-step l =
    (l.outer ≡ length (levels_left l.scopes (length l.scopes.blocks) l.step l.block))
    × (slice_get (levels_left l.scopes (length l.scopes.blocks) l.step l.block) l.place ≡ slice_get (class_formals_of l.scopes (length l.scopes.blocks) l.fn.block) l.place)

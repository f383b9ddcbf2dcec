use Rattle.std.proofs.Common.{◌≡◌, ◌-◌}
use Rattle.codegen_expr.specs.Sites.{frame_within}
use Rattle.codegen_expr.proofs.classes.frame_text.Given as goal

abbrev pub invariant-loop-step : goal.invariant-loop-step
invariant-loop-step l = frame_within l.text l.bound.scopes l.text ≡ frame_within (l.text - l.step) l.bound.scopes l.outer

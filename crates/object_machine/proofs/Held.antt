-- Frames that stay as they are when a procedure is called, or are kept.
use Rattle.std.proofs.Common.{◌≡◌, List, ap, ◌∙◌}
use Rattle.std.specs.Prelude.{true, false, not, ◌&&◌, if◌then◌else◌}
use Rattle.std.specs.List.{list_any}
use Rattle.sim_code.specs.Code.{BlockOf}
use Rattle.sim_code.specs.Instances.{kept_on}
use Rattle.sim_code.specs.Machine.{Activation, Frames, frames_kept, is_held, owner}

pub kept_where : (b : BlockOf) (chain : List Activation) (m : Frames) → b.class_free ≡ false → list_any is_held b.formals ≡ true → frames_kept b chain m ≡ kept_on owner chain m
kept_where b chain m free held = ap (λ f. if not f && list_any is_held b.formals then kept_on owner chain m else m) free ∙ ap (λ f. if f then kept_on owner chain m else m) held

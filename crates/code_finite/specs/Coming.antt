-- A run of code that comes to an end.
use Rattle.std.specs.Prelude.{◌≡◌, ℕ, suc, List}
use Rattle.sim_base.specs.declared.limits.Limits.{Limits}
use Rattle.sim_code.specs.Code.{CodeOf}
use Rattle.sim_code.specs.Machine.{Machine}
use Rattle.sim_code.specs.Outcome.{Ended, Ending, Going, World}
use Rattle.sim_code.specs.Rows.{mrun}

-- After some steps the run stands at a state from which its next step ends it: normally, with a run-time error, with storage exhausted, at the tick
-- limit, or where there is no rule.
pub record ComesToAnEnd (code : CodeOf) (l : Limits) (input : List ℕ) : Type 0 where
  pub steps : ℕ
  pub world : World
  pub state : Machine
  pub last : World
  pub ending : Ending
  pub come : mrun code l input steps ≡ Going world state
  pub ended : mrun code l input (suc steps) ≡ Ended last ending

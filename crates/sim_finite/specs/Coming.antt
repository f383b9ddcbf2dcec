-- A run that comes to an end.
use Rattle.std.specs.Prelude.{◌≡◌, ℕ, List}
use Rattle.sim_base.specs.declared.limits.Limits.{Limits}
use Rattle.sim_scope.specs.Source.{Source}
use Rattle.sim_code.specs.Outcome.{Ended, Ending, World}
use Rattle.sim_meaning.specs.Meaning.{run}

-- after some steps the run has ended
pub record ComesToAnEnd (s : Source) (l : Limits) (input : List ℕ) : Type 0 where
  pub steps : ℕ
  pub world : World
  pub ending : Ending
  pub ends : run s l input steps ≡ Ended world ending

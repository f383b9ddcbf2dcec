use Rattle.std.proofs.Common.{inl, inr}
use Rattle.sim_driver.proofs.speaking.write_status_line.Goals as goal

pub returns-in-Ok-clause-says : goal.returns-in-Ok-clause-says
returns-in-Ok-clause-says g c = inl c.write_line-in-Ok.ensures.says

pub returns-in-Err-clause-says : goal.returns-in-Err-clause-says
returns-in-Err-clause-says g c = inr c.write_line-in-Err.ensures.says

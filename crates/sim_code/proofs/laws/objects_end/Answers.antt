use Rattle.sim_code.proofs.Ends.{object_ends}
use Rattle.sim_code.proofs.laws.objects_end.Goals as goal

pub returns : goal.returns
returns g c = λ owner o m j top below is. object_ends _ _ owner o top below m j is

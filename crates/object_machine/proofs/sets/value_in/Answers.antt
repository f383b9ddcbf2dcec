use Rattle.std.proofs.Common.{ap, subst, sym}
use Rattle.std.specs.Prelude.{map}
use Rattle.simset.specs.Instances.{number_of}
use Rattle.sim_code.specs.Sets.{object_at}
use Rattle.sim_code.specs.Simulations.{named_in}
use Rattle.object_machine.specs.SetRows.{HasEffect, value_by}
use Rattle.object_machine.specs.Simulating.{simulation_of}
use Rattle.object_machine.proofs.sets.value_in.Goals as goal

pub returns-in-Some-clause-is : goal.returns-in-Some-clause-is
returns-in-Some-clause-is c o rises same =
    let naming = named_in (map simulation_of c.args.simulations.now) in
    (subst HasEffect (sym c.in-Linkage.is) tt, (object_at naming o (number_of c.in-Linkage.number), ap (λ c. value_by c naming o) c.in-Linkage.is, c.in-Some.ensures.is o rises same))

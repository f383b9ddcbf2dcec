use Rattle.std.proofs.Common.{ap, ◌∙◌}
use Rattle.std.specs.Prelude.{IfOk, Result, Ok, Err}
use Rattle.object_machine.specs.Standing.{parked}
use Rattle.object_machine.proofs.Parks.{parked_more}
use Rattle.object_machine.proofs.openings.reserve.Goals as goal

in_ok : {X E T : Type 0} (r : Result X E) → T → IfOk r (λ x. T)
in_ok (Ok x) t = t
in_ok (Err e) t = tt

pub returns-clause-parked : goal.returns-clause-parked
returns-clause-parked c = in_ok c.add_region.result (λ at. ap (λ w. parked w at) c.in_ok-push-2.ensures.items ∙ parked_more c.args.parks.now.items c.new-2.result c.new-2.ensures.items at)

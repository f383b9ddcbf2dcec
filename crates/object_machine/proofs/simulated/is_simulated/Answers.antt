use Rattle.std.proofs.Common.{◌∙◌, ap}
use Rattle.std.specs.Prelude.{is_some}
use Rattle.object_machine.proofs.Simulations.{simulated_by}
use Rattle.object_machine.proofs.simulated.is_simulated.Goals as goal

pub returns : goal.returns
returns c = record { is = λ rises. c.is_some.ensures ∙ ap is_some (c.place_of_block.ensures.is rises) ∙ simulated_by c.args.stamp c.args.simulations.now }

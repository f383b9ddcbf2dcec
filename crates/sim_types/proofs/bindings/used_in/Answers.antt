use Rattle.sim_types.proofs.Steps.{used_in_steps}
use Rattle.sim_types.proofs.bindings.used_in.Goals as goal

pub returns : goal.returns
returns c =
    used_in_steps c.args.token c.args.block c.args.denotation c.args.barred c.args.found.now c.located.new.found c.used_or_barred.new.found c.used_or_barred.result
    c.located.ensures c.used_or_barred.ensures

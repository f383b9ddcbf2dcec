use Rattle.sim_static.proofs.Tellings.{arm_in_steps}
use Rattle.sim_static.proofs.connection.arm_fits.Goals as goal

pub returns : goal.returns
returns c =
    arm_in_steps c.args.scopes.now c.args.found.now c.class_fits.new.found c.arm_connected.new.found c.args.token c.args.object c.args.name.now c.args.class c.class_fits.result tt
    c.class_fits.ensures c.arm_connected.ensures

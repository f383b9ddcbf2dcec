use Rattle.sim_types.proofs.Steps.{member_in_steps}
use Rattle.sim_types.proofs.references.member.Goals as goal

pub returns : goal.returns
returns c =
    member_in_steps c.args.scopes.now c.args.naming c.args.operand c.args.name.now c.args.class c.args.found.now c.class_barred-barred.new.found c.truth_value.new.found c.class_barred-barred.result c.truth_value.result
    c.class_barred-barred.ensures c.truth_value.ensures

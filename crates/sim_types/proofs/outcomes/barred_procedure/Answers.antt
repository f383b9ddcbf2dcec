use Rattle.std.specs.Prelude.{length}
use Rattle.sim_scope.specs.Outcomes.{procedure_called}
use Rattle.sim_scope.specs.Scopes.{entry_of, formals_of}
use Rattle.sim_types.proofs.Steps.{without_type_in_steps}
use Rattle.sim_types.proofs.outcomes.barred_procedure.Goals as goal

pub returns : goal.returns
returns c =
    without_type_in_steps (procedure_called c.args.token.0 (length (formals_of c.args.scopes.now c.args.declaration)) (entry_of c.args.scopes.now c.args.declaration)) c.args.found.now c.procedure_at.new.found c.procedure_at.result c.procedure_at.ensures

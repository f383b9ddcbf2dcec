use Rattle.std.proofs.Common.{◌∙◌, ap}
use Rattle.sim_scope.specs.Scopes.{binding, found_in}
use Rattle.sim_static.proofs.Tellings.{runs_class}
use Rattle.sim_static.proofs.bounds.class_of_references.Goals as goal

pub returns-in-Some : goal.returns-in-Some
returns-in-Some c =
    runs_class c.args.scopes.now c.args.found.now c.used_in.new.found c.args.class.now _ _ c.in-Some.denotation c.used_in.result
    (c.binding_and_block-denotation.ensures.denotes ∙ ap (λ n. binding c.args.scopes.now c.args.class.now.token.0 n) c.as_bytes.ensures.same)
    (c.binding_and_block-denotation.ensures.found ∙ ap (λ n. found_in c.args.scopes.now c.args.class.now.token.0 n) c.as_bytes.ensures.same)
    c.in-Some.is c.used_in.ensures

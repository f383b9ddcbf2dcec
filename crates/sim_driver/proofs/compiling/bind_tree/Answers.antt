use Rattle.std.proofs.lemmas.Result.{err_from_is_err_and}
use Rattle.sim_scope.specs.declared.bound.Bound.{Bound}
use Rattle.sim_scope.specs.Source.{source_of}
use Rattle.sim_driver.specs.Compiling.{BindsAs, CheckRejects, ChecksAs, TreeRejects}
use Rattle.sim_driver.proofs.Known.{binds_as, refusal_of, rejected_tree}
use Rattle.sim_driver.proofs.compiling.bind_tree.Goals as goal

pub returns-in_err-bound : goal.returns-in_err-bound
returns-in_err-bound c =
    let command = c.args.command in
    let tokens = c.args.tokens.now in
    let tree = c.args.tree in
    let p = err_from_is_err_and c.from_residual.result c.from_residual.ensures.1 in
    rw (p.1, p.2)
    (refusal_of c.in_err-bound.field-0.0
    (λ (b : Bound). ChecksAs tokens tree (source_of b))
    (λ (b : Bound). BindsAs command tokens tree (source_of b))
    (CheckRejects tokens tree)
    (TreeRejects command tokens tree)
    (λ rule line rejects. rejected_tree command tokens tree rule line rejects)
    c.in_err-bound.ensures)

pub returns : goal.returns
returns c =
    let tokens = c.args.tokens.now in
    let tree = c.args.tree in
    let s = source_of c.in_ok-bound.bound in
    let runs = c.allowed_programs_run.ensures in
    binds_as c.args.command tokens tree s
    (λ allowed. record { built = runs.built tokens tree s allowed; ruled = runs.ruled tokens tree s allowed; stays_sane = runs.stays_sane tokens tree s allowed; names_objects = runs.names_objects tokens tree s allowed })
    c.in_ok-bound.ensures

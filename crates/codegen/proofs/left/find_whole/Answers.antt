use Rattle.std.proofs.Common.{◌≢◌, length, arith}
use Rattle.codegen.proofs.Statements as w
use Rattle.codegen.proofs.left.find_whole.Goals as goal

pub overflow_sub-rest : goal.overflow_sub-rest
overflow_sub-rest c =
    let some : length c.in-Taken.rest.now ≢ 0 = w.some_taken c.args.bound.now c.args.spot c.args.left.now c.form_of.result c.in-Taken.primary c.in-Taken.rest c.form_of.ensures c.in-Taken.is in
    omega (arith, some)

pub bounds-rest-rest : goal.bounds-rest-rest
bounds-rest-rest c =
    let some : length c.in-Taken.rest.now ≢ 0 = w.some_taken c.args.bound.now c.args.spot c.args.left.now c.form_of.result c.in-Taken.primary c.in-Taken.rest c.form_of.ensures c.in-Taken.is in
    omega (arith, some)

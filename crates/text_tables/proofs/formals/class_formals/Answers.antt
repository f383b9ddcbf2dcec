use Rattle.std.proofs.Common.{rules, ◌≡◌, length}
use Rattle.sim_scope.specs.Scopes.{class_formals}
use Rattle.text_tables.proofs.Passing as p
use Rattle.text_tables.proofs.formals.class_formals.Goals as goal

pub returns : goal.returns
returns c =
    let many : c.in_ok-count.count ≡ length (class_formals c.args.bound.now.scopes c.args.block) = search rules in
    p.class_formals_end c.args.bound.now c.args.block c.in_ok-count.count c.loop-place.formals.items c.loop-place.place c.loop-place.invariant c.loop-place-test.false many

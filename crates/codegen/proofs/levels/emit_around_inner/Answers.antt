use Rattle.std.proofs.Common.{◌+◌, ◌-◌, arith, drop, length, length-drop, refl}
use Rattle.std.proofs.lemmas.List.{take_all}
use Rattle.codegen.proofs.ClassLevels as w
use Rattle.codegen.proofs.levels.emit_around_inner.Goals as goal

pub returns-then-is_own : goal.returns-then-is_own
returns-then-is_own c =
    let xs = c.args.list.now in
    let next = c.in-Some.inner.place + 1 in
    w.around_inner c.args.bound.now c.args.spot c.args.level c.args.draft.now _ _ _ _ xs _ _ c.first_inner.result c.in-Some.inner c.is_own.result c.in_ok-after.after c.first_inner.ensures.first c.in-Some.is c.is_own.ensures c.if-is_own.true
    c.in_ok-emit_statements.ensures refl c.in_ok-put.ensures c.in_ok-after.ensures.put c.in_ok-after.ensures.behind c.in_ok-emit_statements-2.ensures (take_all (length xs - next) (drop next xs) (omega (arith, length-drop next xs)))

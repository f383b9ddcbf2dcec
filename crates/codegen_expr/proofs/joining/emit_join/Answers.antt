use Rattle.std.proofs.Common.{refl}
use Rattle.codegen_expr.proofs.Joins as w
use Rattle.codegen_expr.proofs.joining.emit_join.Goals as goal

pub returns : goal.returns
returns c = w.join_all c.args.bound.now c.args.spot c.args.depth c.args.draft.now _ _ _ c.args.token _ _ _ _ _ _ _ _ c.in_ok-right.ensures c.in_ok-new.ensures c.in_ok-inside.ensures c.in_ok-above.ensures c.in_ok-take_temp.ensures c.in_ok-make_room.ensures c.level_of-level.ensures c.join_instrs-instrs.ensures refl c.line_at.ensures c.in_ok-emit_all.ensures

use Rattle.codegen_expr.proofs.Attributes as w
use Rattle.codegen_expr.proofs.dots.stream_of.Goals as goal

pub returns-in-Named : goal.returns-in-Named
returns-in-Named c = w.stream_named_form c.args.bound.now c.args.expr.now _ c.in-Named.name c.in-Named.arguments _ _ c.form_of.ensures c.in-Named.is c.denoted.ensures c.stream_denoted.ensures

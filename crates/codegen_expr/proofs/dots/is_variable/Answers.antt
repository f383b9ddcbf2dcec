use Rattle.codegen_expr.proofs.Attributes as w
use Rattle.codegen_expr.proofs.dots.is_variable.Goals as goal

pub returns-in-Named : goal.returns-in-Named
returns-in-Named c = w.variable_named_form c.args.bound.now c.args.expr.now _ c.in-Named.name c.in-Named.arguments _ _ c.form_of.ensures c.in-Named.is c.denoted.ensures c.is_variable_denoted.ensures

pub returns-in-Taken : goal.returns-in-Taken
returns-in-Taken c = w.variable_taken_form c.args.bound.now c.args.expr.now _ c.in-Taken.primary c.in-Taken.rest _ c.form_of.ensures c.in-Taken.is c.is_image_taken.ensures

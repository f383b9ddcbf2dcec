use Rattle.codegen_expr.proofs.ByName as w
use Rattle.codegen_expr.proofs.dots.is_declared_variable.Goals as goal

pub returns-in-Named : goal.returns-in-Named
returns-in-Named c = w.placed_named c.args.bound.now c.args.expr.now _ c.in-Named.name c.in-Named.arguments _ _ c.form_of.ensures c.in-Named.is c.denoted.ensures c.is_attribute_denoted.ensures

pub returns-in-Taken : goal.returns-in-Taken
returns-in-Taken c = w.placed_taken c.args.bound.now c.args.expr.now _ c.in-Taken.primary c.in-Taken.rest _ c.form_of.ensures c.in-Taken.is c.is_attribute_taken.ensures

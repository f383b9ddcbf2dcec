use Rattle.codegen_expr.proofs.Attributes as w
use Rattle.codegen_expr.proofs.dots.is_attribute.Goals as goal

pub returns-in-Taken : goal.returns-in-Taken
returns-in-Taken c = w.attribute_taken_form c.args.bound.now c.args.expr.now _ c.in-Taken.primary c.in-Taken.rest _ c.form_of.ensures c.in-Taken.is c.is_attribute_taken.ensures

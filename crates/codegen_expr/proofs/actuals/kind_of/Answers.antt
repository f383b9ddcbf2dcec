use Rattle.codegen_expr.specs.declared.forms.Form.TheVariants as form
use Rattle.codegen_expr.proofs.ActualKinds as w
use Rattle.codegen_expr.proofs.Attributes.{form_at}
use Rattle.codegen_expr.proofs.actuals.kind_of.Goals as goal

pub taken_kind-requires-clause-some : goal.taken_kind-requires-clause-some
taken_kind-requires-clause-some c = (form_at _ (form.Taken c.in-Taken.primary c.in-Taken.rest) c.args.expr.now c.form_of.ensures c.in-Taken.is).1

pub returns-in-Taken : goal.returns-in-Taken
returns-in-Taken c = w.kind_taken c.args.bound.now c.args.expr.now _ c.value_kind-value.result c.in-Taken.primary c.in-Taken.rest c.taken_kind.result c.value_kind-value.ensures c.form_of.ensures c.in-Taken.is c.taken_kind.ensures

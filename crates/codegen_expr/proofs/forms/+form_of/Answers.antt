use Rattle.std.proofs.Common.{rules, ◌≡◌, ◌≢◌, length, refl}
use Rattle.codegen_expr.proofs.Formed as w
use Rattle.codegen_expr.proofs.forms.+form_of.Goals as goal

pub returns-then-len-eq0-10 : goal.returns-then-len-eq0-10
returns-then-len-eq0-10 t c = w.same_Sum _ c.args.expr.now c.deref-then-len-eq0-10.result.now c.in-Sum.sign c.in-Sum.first c.in-Sum.rest c.in-Sum.rest.items c.in-Sum.is c.in-None.is c.deref-then-len-eq0-10.ensures refl (let n : length c.in-Sum.rest.items ≡ 0 = search rules in n) c.form_of-then-len-eq0-10.ensures

pub returns-in-Some : goal.returns-in-Some
returns-in-Some t c = w.signed_Sum c.args.expr.now c.in-Sum.sign c.in-Some.field-0 c.in-Sum.first c.in-Sum.rest c.in-Sum.is c.in-Some.is

pub returns-else-len-eq0-10 : goal.returns-else-len-eq0-10
returns-else-len-eq0-10 t c = w.other_Sum c.args.expr.now c.in-Sum.sign c.in-Sum.first c.in-Sum.rest c.in-Sum.rest.items c.in-Sum.is refl (let n : length c.in-Sum.rest.items ≢ 0 = search rules in n)

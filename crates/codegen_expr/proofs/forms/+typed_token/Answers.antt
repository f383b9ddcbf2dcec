use Rattle.std.proofs.Common.{arith}
use Rattle.codegen_expr.proofs.Attributes as w
use Rattle.codegen_expr.proofs.forms.+typed_token.Goals as goal

pub typed_token-requires : goal.typed_token-requires
typed_token-requires t c =
    let less = w.fewer_closings c.args.expr.now _ c.in-Closed.inner c.form_of.ensures c.in-Closed.is in
    let here = c.decreases in
    (omega (arith, less, here), tt)

pub returns-in-Closed : goal.returns-in-Closed
returns-in-Closed t c = w.typed_closed c.args.expr.now _ c.in-Closed.inner _ c.form_of.ensures c.in-Closed.is c.typed_token.ensures

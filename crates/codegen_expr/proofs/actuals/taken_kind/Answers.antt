use Rattle.std.proofs.Common.{refl, sym, ◌∙◌}
use Rattle.codegen_expr.proofs.ActualKinds as w
use Rattle.codegen_expr.proofs.actuals.taken_kind.Goals as goal

pub returns-then-len-eq0 : goal.returns-then-len-eq0
returns-then-len-eq0 c =
    w.taken_alone c.args.bound.now c.args.rest.now _ c.index-rest-rest.result c.args.value c.in-Dot.token c.in-Dot.name c.in-Dot.arguments _ c.denoted_kind.result c.requires.some refl c.index-rest-rest.is c.in-Dot.is (sym c.in-Dot.arguments.ok.0 ∙ sym c.len.ensures ∙ c.if-len-eq0.true) c.denoted.ensures c.denoted_kind.ensures

use Rattle.std.proofs.Common.{map, ap, ◌∙◌}
use Rattle.sim_scope.specs.Source.{source_of}
use Rattle.sim_tree.specs.Syntax.{expressions}
use Rattle.sim_tree.specs.SyntaxOf.{syntax_of}
use Rattle.sim_meaning.specs.Closing.{is_attribute_denoted}
use Rattle.codegen_expr.proofs.Attributes as w
use Rattle.codegen_expr.proofs.dots.takes_attribute.Goals as goal

pub returns-in-Dot : goal.returns-in-Dot
returns-in-Dot c =
    w.attribute_dot c.args.bound.now c.args.selector.now c.in-Dot.token c.in-Dot.name c.in-Dot.arguments _ _ c.in-Dot.is c.denoted.ensures
    (c.is_attribute_denoted.ensures ∙ ap (λ z. is_attribute_denoted (source_of c.args.bound.now) c.denoted.result (expressions (map syntax_of z))) c.deref.ensures.value)

use Rattle.sim_tree.specs.SyntaxOf.{syntax_of}
use Rattle.codegen_expr.proofs.Attributes.{closings}
use Rattle.codegen_expr.proofs.forms.+typed_token.Given as goal

abbrev pub decreases-typed_token : goal.decreases-typed_token
decreases-typed_token l = closings (syntax_of l.expr.now)

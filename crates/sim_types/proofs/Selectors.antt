-- The abstract syntax of what is taken of an object.
use Rattle.std.proofs.Common.{◌≡◌, map, sym, ap, ◌∙◌}
use Rattle.std.specs.declared.alloc.Global.{Global}
use Rattle.std.specs.declared.vec.Vec.{Vec}
use Rattle.sim_base.specs.declared.numbering.TokenNo.{TokenNo}
use Rattle.sim_tree.specs.declared.expr.Identifier.{Identifier}
use Rattle.sim_tree.specs.declared.expr.Expr.{Expr}
use Rattle.sim_tree.specs.declared.expr.Expr.TheOpen.{Selector-F}
use Rattle.sim_tree.specs.declared.expr.Expr.TheFolds.{fold-roll-Selector}
use Rattle.sim_tree.specs.declared.expr.Selector.TheVariants as selector
use Rattle.sim_tree.specs.Syntax.{Expression, expressions}
use Rattle.sim_tree.specs.SyntaxOf.{Selection, Take, Cast, Tail, Operands, expr_layer, selector_layer, factor_layer, operand_layer, term_layer, syntax_of, operand_syntax, term_syntax, factor_syntax, selector_syntax}

pub syntax-Dot : (i : TokenNo) (n : Identifier) (v : Vec Expr Global) → selector_syntax (selector.Dot i n v) ≡ Take i.0 n (expressions (map syntax_of v.items))
unfolding syntax_of operand_syntax term_syntax factor_syntax selector_syntax
syntax-Dot i n v = ap selector_syntax (sym (selector.rolls-Dot i n v)) ∙ fold-roll-Selector Expression Selection Tail Operands Tail expr_layer selector_layer factor_layer operand_layer term_layer (Selector-F.Dot i n v)

pub syntax-Qua : (i : TokenNo) (c : Identifier) → selector_syntax (selector.Qua i c) ≡ Cast i.0 c
unfolding syntax_of operand_syntax term_syntax factor_syntax selector_syntax
syntax-Qua i c = ap selector_syntax (sym (selector.rolls-Qua i c)) ∙ fold-roll-Selector Expression Selection Tail Operands Tail expr_layer selector_layer factor_layer operand_layer term_layer (Selector-F.Qua i c)

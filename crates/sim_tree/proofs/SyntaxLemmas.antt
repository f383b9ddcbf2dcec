-- The abstract syntax of each node of an expression's tree.
use Rattle.std.proofs.Common.{◌≡◌, ℕ, ℤ, true, false, List, Option, map, sym, ap, ◌∙◌}
use Rattle.std.specs.declared.alloc.Global.{Global}
use Rattle.std.specs.declared.boxed.Box.{Box}
use Rattle.std.specs.declared.vec.Vec.{Vec}
use Rattle.sim_base.specs.declared.numbering.TokenNo.{TokenNo}
use Rattle.sim_tree.specs.declared.expr.Identifier.{Identifier}
use Rattle.sim_tree.specs.declared.expr.LeadingSign.{LeadingSign}
use Rattle.sim_tree.specs.declared.expr.Sign.{Sign}
use Rattle.sim_tree.specs.declared.expr.Multiplication.{Multiplication}
use Rattle.sim_tree.specs.declared.expr.Relation.{Relation}
use Rattle.sim_tree.specs.declared.expr.Membership.{Membership}
use Rattle.sim_tree.specs.declared.expr.Expr.{Expr}
use Rattle.sim_tree.specs.declared.expr.Expr.TheVariants as e
use Rattle.sim_tree.specs.declared.expr.Expr.TheOpen.{Expr-F}
use Rattle.sim_tree.specs.declared.expr.Expr.TheFolds.{fold-roll-Expr, fold-roll-Operand, fold-roll-Term, fold-roll-Factor}
use Rattle.sim_tree.specs.declared.expr.Expr.TheViews.{roll-Operand, roll-Term, roll-Factor}
use Rattle.sim_tree.specs.declared.expr.Operand.{Operand}
use Rattle.sim_tree.specs.declared.expr.Term.{Term}
use Rattle.sim_tree.specs.declared.expr.Factor.{Factor}
use Rattle.sim_tree.specs.declared.expr.Selector.{Selector}
use Rattle.sim_tree.specs.declared.operator.Operator.TheVariants as o
use Rattle.sim_tree.specs.Syntax.{Expression, If, Binary, Member, Constant, IntegerValue, CharacterValue, TextValue, BooleanValue, NoObject, NoText, Named, This, New, Parentheses, expressions}
use Rattle.sim_tree.specs.SyntaxOf.{Selection, Tail, Operands, chain, with_operator, negated, signed, selected, expr_layer, selector_layer, factor_layer, operand_layer, term_layer, syntax_of, operand_syntax, term_syntax, factor_syntax, selector_syntax}

pub syntax-If : (i : TokenNo) (a b c : Box Expr Global) → syntax_of (e.If i a b c) ≡ If i.0 (syntax_of a.value) (syntax_of b.value) (syntax_of c.value)
unfolding syntax_of operand_syntax term_syntax factor_syntax selector_syntax
syntax-If i a b c = ap syntax_of (sym (e.rolls-If i a b c)) ∙ fold-roll-Expr Expression Selection Tail Operands Tail expr_layer selector_layer factor_layer operand_layer term_layer (Expr-F.If i a b c)

pub syntax-OrElse : (a : Box Expr Global) (v : Vec Operand Global) → syntax_of (e.OrElse a v) ≡ chain (syntax_of a.value) (map (with_operator o.OrElse) (map operand_syntax v.items))
unfolding syntax_of operand_syntax term_syntax factor_syntax selector_syntax
syntax-OrElse a v = ap syntax_of (sym (e.rolls-OrElse a v)) ∙ fold-roll-Expr Expression Selection Tail Operands Tail expr_layer selector_layer factor_layer operand_layer term_layer (Expr-F.OrElse a v)

pub syntax-AndThen : (a : Box Expr Global) (v : Vec Operand Global) → syntax_of (e.AndThen a v) ≡ chain (syntax_of a.value) (map (with_operator o.AndThen) (map operand_syntax v.items))
unfolding syntax_of operand_syntax term_syntax factor_syntax selector_syntax
syntax-AndThen a v = ap syntax_of (sym (e.rolls-AndThen a v)) ∙ fold-roll-Expr Expression Selection Tail Operands Tail expr_layer selector_layer factor_layer operand_layer term_layer (Expr-F.AndThen a v)

pub syntax-Eqv : (a : Box Expr Global) (v : Vec Operand Global) → syntax_of (e.Eqv a v) ≡ chain (syntax_of a.value) (map (with_operator o.Equivalent) (map operand_syntax v.items))
unfolding syntax_of operand_syntax term_syntax factor_syntax selector_syntax
syntax-Eqv a v = ap syntax_of (sym (e.rolls-Eqv a v)) ∙ fold-roll-Expr Expression Selection Tail Operands Tail expr_layer selector_layer factor_layer operand_layer term_layer (Expr-F.Eqv a v)

pub syntax-Imp : (a : Box Expr Global) (v : Vec Operand Global) → syntax_of (e.Imp a v) ≡ chain (syntax_of a.value) (map (with_operator o.Implies) (map operand_syntax v.items))
unfolding syntax_of operand_syntax term_syntax factor_syntax selector_syntax
syntax-Imp a v = ap syntax_of (sym (e.rolls-Imp a v)) ∙ fold-roll-Expr Expression Selection Tail Operands Tail expr_layer selector_layer factor_layer operand_layer term_layer (Expr-F.Imp a v)

pub syntax-Or : (a : Box Expr Global) (v : Vec Operand Global) → syntax_of (e.Or a v) ≡ chain (syntax_of a.value) (map (with_operator o.Or) (map operand_syntax v.items))
unfolding syntax_of operand_syntax term_syntax factor_syntax selector_syntax
syntax-Or a v = ap syntax_of (sym (e.rolls-Or a v)) ∙ fold-roll-Expr Expression Selection Tail Operands Tail expr_layer selector_layer factor_layer operand_layer term_layer (Expr-F.Or a v)

pub syntax-And : (a : Box Expr Global) (v : Vec Operand Global) → syntax_of (e.And a v) ≡ chain (syntax_of a.value) (map (with_operator o.And) (map operand_syntax v.items))
unfolding syntax_of operand_syntax term_syntax factor_syntax selector_syntax
syntax-And a v = ap syntax_of (sym (e.rolls-And a v)) ∙ fold-roll-Expr Expression Selection Tail Operands Tail expr_layer selector_layer factor_layer operand_layer term_layer (Expr-F.And a v)

pub syntax-Not : (v : Vec TokenNo Global) (a : Box Expr Global) → syntax_of (e.Not v a) ≡ negated v.items (syntax_of a.value)
unfolding syntax_of operand_syntax term_syntax factor_syntax selector_syntax
syntax-Not v a = ap syntax_of (sym (e.rolls-Not v a)) ∙ fold-roll-Expr Expression Selection Tail Operands Tail expr_layer selector_layer factor_layer operand_layer term_layer (Expr-F.Not v a)

pub syntax-Related : (a : Box Expr Global) (i : TokenNo) (r : Relation) (b : Box Expr Global) → syntax_of (e.Related a i r b) ≡ Binary (o.Relate r) i.0 (syntax_of a.value) (syntax_of b.value)
unfolding syntax_of operand_syntax term_syntax factor_syntax selector_syntax
syntax-Related a i r b = ap syntax_of (sym (e.rolls-Related a i r b)) ∙ fold-roll-Expr Expression Selection Tail Operands Tail expr_layer selector_layer factor_layer operand_layer term_layer (Expr-F.Related a i r b)

pub syntax-Member : (a : Box Expr Global) (i : TokenNo) (r : Membership) (x : Identifier) → syntax_of (e.Member a i r x) ≡ Member r i.0 (syntax_of a.value) x
unfolding syntax_of operand_syntax term_syntax factor_syntax selector_syntax
syntax-Member a i r x = ap syntax_of (sym (e.rolls-Member a i r x)) ∙ fold-roll-Expr Expression Selection Tail Operands Tail expr_layer selector_layer factor_layer operand_layer term_layer (Expr-F.Member a i r x)

pub syntax-Concatenation : (a : Box Expr Global) (v : Vec Operand Global) → syntax_of (e.Concatenation a v) ≡ chain (syntax_of a.value) (map (with_operator o.Concatenate) (map operand_syntax v.items))
unfolding syntax_of operand_syntax term_syntax factor_syntax selector_syntax
syntax-Concatenation a v = ap syntax_of (sym (e.rolls-Concatenation a v)) ∙ fold-roll-Expr Expression Selection Tail Operands Tail expr_layer selector_layer factor_layer operand_layer term_layer (Expr-F.Concatenation a v)

pub syntax-Sum : (s : Option LeadingSign) (a : Box Expr Global) (v : Vec Term Global) → syntax_of (e.Sum s a v) ≡ chain (signed s (syntax_of a.value)) (map term_syntax v.items)
unfolding syntax_of operand_syntax term_syntax factor_syntax selector_syntax
syntax-Sum s a v = ap syntax_of (sym (e.rolls-Sum s a v)) ∙ fold-roll-Expr Expression Selection Tail Operands Tail expr_layer selector_layer factor_layer operand_layer term_layer (Expr-F.Sum s a v)

pub syntax-Product : (a : Box Expr Global) (v : Vec Factor Global) → syntax_of (e.Product a v) ≡ chain (syntax_of a.value) (map factor_syntax v.items)
unfolding syntax_of operand_syntax term_syntax factor_syntax selector_syntax
syntax-Product a v = ap syntax_of (sym (e.rolls-Product a v)) ∙ fold-roll-Expr Expression Selection Tail Operands Tail expr_layer selector_layer factor_layer operand_layer term_layer (Expr-F.Product a v)

pub syntax-Power : (a : Box Expr Global) (v : Vec Operand Global) → syntax_of (e.Power a v) ≡ chain (syntax_of a.value) (map (with_operator o.Power) (map operand_syntax v.items))
unfolding syntax_of operand_syntax term_syntax factor_syntax selector_syntax
syntax-Power a v = ap syntax_of (sym (e.rolls-Power a v)) ∙ fold-roll-Expr Expression Selection Tail Operands Tail expr_layer selector_layer factor_layer operand_layer term_layer (Expr-F.Power a v)

pub syntax-Postfix : (a : Box Expr Global) (v : Vec Selector Global) → syntax_of (e.Postfix a v) ≡ selected (syntax_of a.value) (map selector_syntax v.items)
unfolding syntax_of operand_syntax term_syntax factor_syntax selector_syntax
syntax-Postfix a v = ap syntax_of (sym (e.rolls-Postfix a v)) ∙ fold-roll-Expr Expression Selection Tail Operands Tail expr_layer selector_layer factor_layer operand_layer term_layer (Expr-F.Postfix a v)

pub syntax-Integer : (i : TokenNo) (n : ℤ) → syntax_of (e.Integer i n) ≡ Constant (IntegerValue n) i.0
unfolding syntax_of operand_syntax term_syntax factor_syntax selector_syntax
syntax-Integer i n = ap syntax_of (sym (e.rolls-Integer i n)) ∙ fold-roll-Expr Expression Selection Tail Operands Tail expr_layer selector_layer factor_layer operand_layer term_layer (Expr-F.Integer i n)

pub syntax-Character : (i : TokenNo) (n : ℕ) → syntax_of (e.Character i n) ≡ Constant (CharacterValue n) i.0
unfolding syntax_of operand_syntax term_syntax factor_syntax selector_syntax
syntax-Character i n = ap syntax_of (sym (e.rolls-Character i n)) ∙ fold-roll-Expr Expression Selection Tail Operands Tail expr_layer selector_layer factor_layer operand_layer term_layer (Expr-F.Character i n)

pub syntax-Text : (i : TokenNo) (n : List ℕ) → syntax_of (e.Text i n) ≡ Constant (TextValue n) i.0
unfolding syntax_of operand_syntax term_syntax factor_syntax selector_syntax
syntax-Text i n = ap syntax_of (sym (e.rolls-Text i n)) ∙ fold-roll-Expr Expression Selection Tail Operands Tail expr_layer selector_layer factor_layer operand_layer term_layer (Expr-F.Text i n)

pub syntax-True : (i : TokenNo) → syntax_of (e.True i) ≡ Constant (BooleanValue true) i.0
unfolding syntax_of operand_syntax term_syntax factor_syntax selector_syntax
syntax-True i = ap syntax_of (sym (e.rolls-True i)) ∙ fold-roll-Expr Expression Selection Tail Operands Tail expr_layer selector_layer factor_layer operand_layer term_layer (Expr-F.True i)

pub syntax-False : (i : TokenNo) → syntax_of (e.False i) ≡ Constant (BooleanValue false) i.0
unfolding syntax_of operand_syntax term_syntax factor_syntax selector_syntax
syntax-False i = ap syntax_of (sym (e.rolls-False i)) ∙ fold-roll-Expr Expression Selection Tail Operands Tail expr_layer selector_layer factor_layer operand_layer term_layer (Expr-F.False i)

pub syntax-NoObject : (i : TokenNo) → syntax_of (e.NoObject i) ≡ Constant NoObject i.0
unfolding syntax_of operand_syntax term_syntax factor_syntax selector_syntax
syntax-NoObject i = ap syntax_of (sym (e.rolls-NoObject i)) ∙ fold-roll-Expr Expression Selection Tail Operands Tail expr_layer selector_layer factor_layer operand_layer term_layer (Expr-F.NoObject i)

pub syntax-Notext : (i : TokenNo) → syntax_of (e.Notext i) ≡ Constant NoText i.0
unfolding syntax_of operand_syntax term_syntax factor_syntax selector_syntax
syntax-Notext i = ap syntax_of (sym (e.rolls-Notext i)) ∙ fold-roll-Expr Expression Selection Tail Operands Tail expr_layer selector_layer factor_layer operand_layer term_layer (Expr-F.Notext i)

pub syntax-Named : (x : Identifier) (v : Vec Expr Global) → syntax_of (e.Named x v) ≡ Named x (expressions (map syntax_of v.items))
unfolding syntax_of operand_syntax term_syntax factor_syntax selector_syntax
syntax-Named x v = ap syntax_of (sym (e.rolls-Named x v)) ∙ fold-roll-Expr Expression Selection Tail Operands Tail expr_layer selector_layer factor_layer operand_layer term_layer (Expr-F.Named x v)

pub syntax-This : (i : TokenNo) (x : Identifier) → syntax_of (e.This i x) ≡ This i.0 x
unfolding syntax_of operand_syntax term_syntax factor_syntax selector_syntax
syntax-This i x = ap syntax_of (sym (e.rolls-This i x)) ∙ fold-roll-Expr Expression Selection Tail Operands Tail expr_layer selector_layer factor_layer operand_layer term_layer (Expr-F.This i x)

pub syntax-New : (i : TokenNo) (x : Identifier) (v : Vec Expr Global) → syntax_of (e.New i x v) ≡ New i.0 x (expressions (map syntax_of v.items))
unfolding syntax_of operand_syntax term_syntax factor_syntax selector_syntax
syntax-New i x v = ap syntax_of (sym (e.rolls-New i x v)) ∙ fold-roll-Expr Expression Selection Tail Operands Tail expr_layer selector_layer factor_layer operand_layer term_layer (Expr-F.New i x v)

pub syntax-Parentheses : (i : TokenNo) (a : Box Expr Global) → syntax_of (e.Parentheses i a) ≡ Parentheses i.0 (syntax_of a.value)
unfolding syntax_of operand_syntax term_syntax factor_syntax selector_syntax
syntax-Parentheses i a = ap syntax_of (sym (e.rolls-Parentheses i a)) ∙ fold-roll-Expr Expression Selection Tail Operands Tail expr_layer selector_layer factor_layer operand_layer term_layer (Expr-F.Parentheses i a)

pub syntax-operand : (i : TokenNo) (a : Expr) → operand_syntax (roll-Operand (record { token = i; operand = a })) ≡ (λ x. let t : Tail = record { operator = x; token = i.0; operand = syntax_of a } in t)
unfolding syntax_of operand_syntax term_syntax factor_syntax selector_syntax
syntax-operand i a = fold-roll-Operand Expression Selection Tail Operands Tail expr_layer selector_layer factor_layer operand_layer term_layer (record { token = i; operand = a })

pub syntax-term : (i : TokenNo) (s : Sign) (a : Expr) → term_syntax (roll-Term (record { token = i; sign = s; term = a })) ≡ record { operator = o.Add s; token = i.0; operand = syntax_of a }
unfolding syntax_of operand_syntax term_syntax factor_syntax selector_syntax
syntax-term i s a = fold-roll-Term Expression Selection Tail Operands Tail expr_layer selector_layer factor_layer operand_layer term_layer (record { token = i; sign = s; term = a })

pub syntax-factor : (i : TokenNo) (s : Multiplication) (a : Expr) → factor_syntax (roll-Factor (record { token = i; operator = s; factor = a })) ≡ record { operator = o.Multiply s; token = i.0; operand = syntax_of a }
unfolding syntax_of operand_syntax term_syntax factor_syntax selector_syntax
syntax-factor i s a = fold-roll-Factor Expression Selection Tail Operands Tail expr_layer selector_layer factor_layer operand_layer term_layer (record { token = i; operator = s; factor = a })

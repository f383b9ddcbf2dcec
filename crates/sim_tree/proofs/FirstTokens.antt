-- The first token of an expression's tree.
use Rattle.std.proofs.Common.{◌≡◌, ℕ, List, [], ◌∷◌, Option, Some, None, refl, sym, ap, ◌∙◌, map, ℤ}
use Rattle.std.specs.Prelude.{slice_get}
use Rattle.std.specs.declared.alloc.Global.{Global}
use Rattle.std.specs.declared.boxed.Box.{Box}
use Rattle.std.specs.declared.vec.Vec.{Vec}
use Rattle.sim_base.specs.declared.numbering.TokenNo.{TokenNo}
use Rattle.sim_tree.specs.declared.expr.LeadingSign.{LeadingSign}
use Rattle.sim_tree.specs.declared.expr.Identifier.{Identifier}
use Rattle.sim_tree.specs.declared.expr.Relation.{Relation}
use Rattle.sim_tree.specs.declared.expr.Membership.{Membership}
use Rattle.sim_tree.specs.declared.expr.Expr.{Expr}
use Rattle.sim_tree.specs.declared.expr.Expr.TheVariants as e
use Rattle.sim_tree.specs.declared.expr.Operand.{Operand}
use Rattle.sim_tree.specs.declared.expr.Term.{Term}
use Rattle.sim_tree.specs.declared.expr.Factor.{Factor}
use Rattle.sim_tree.specs.declared.expr.Selector.{Selector}
use Rattle.sim_tree.proofs.SyntaxLemmas as v
use Rattle.sim_tree.specs.Syntax.{Expression, Binary, Dot, Qua, first_of}
use Rattle.sim_tree.specs.SyntaxOf.{Tail, Selection, Take, Cast, chain, selected, negated, signed, syntax_of, FirstIs, with_operator, operand_syntax, term_syntax, factor_syntax, selector_syntax}
use Rattle.sim_tree.specs.declared.operator.Operator.TheVariants as o

pub first-chain : (e : Expression) (ts : List Tail) → first_of (chain e ts) ≡ first_of e
first-chain e [] = refl
first-chain e (t ∷ ts) = first-chain (Binary t.operator t.token e t.operand) ts

pub first-selected : (e : Expression) (ss : List Selection) → first_of (selected e ss) ≡ first_of e
first-selected e [] = refl
first-selected e (Take i name args ∷ ss) = first-selected (Dot i e name args) ss
first-selected e (Cast i class ∷ ss) = first-selected (Qua i e class) ss

pub first-If : (x : Expr) (i : TokenNo) (a b c : Box Expr Global) → x ≡ e.If i a b c → FirstIs i x
unfolding FirstIs
first-If x i a b c is = sym (ap (λ z. first_of (syntax_of z)) is ∙ ap first_of (v.syntax-If i a b c))

pub first-Integer : (x : Expr) (i : TokenNo) (n : ℤ) → x ≡ e.Integer i n → FirstIs i x
unfolding FirstIs
first-Integer x i n is = sym (ap (λ z. first_of (syntax_of z)) is ∙ ap first_of (v.syntax-Integer i n))

pub first-Character : (x : Expr) (i : TokenNo) (n : ℕ) → x ≡ e.Character i n → FirstIs i x
unfolding FirstIs
first-Character x i n is = sym (ap (λ z. first_of (syntax_of z)) is ∙ ap first_of (v.syntax-Character i n))

pub first-Text : (x : Expr) (i : TokenNo) (n : List ℕ) → x ≡ e.Text i n → FirstIs i x
unfolding FirstIs
first-Text x i n is = sym (ap (λ z. first_of (syntax_of z)) is ∙ ap first_of (v.syntax-Text i n))

pub first-True : (x : Expr) (i : TokenNo) → x ≡ e.True i → FirstIs i x
unfolding FirstIs
first-True x i is = sym (ap (λ z. first_of (syntax_of z)) is ∙ ap first_of (v.syntax-True i))

pub first-False : (x : Expr) (i : TokenNo) → x ≡ e.False i → FirstIs i x
unfolding FirstIs
first-False x i is = sym (ap (λ z. first_of (syntax_of z)) is ∙ ap first_of (v.syntax-False i))

pub first-NoObject : (x : Expr) (i : TokenNo) → x ≡ e.NoObject i → FirstIs i x
unfolding FirstIs
first-NoObject x i is = sym (ap (λ z. first_of (syntax_of z)) is ∙ ap first_of (v.syntax-NoObject i))

pub first-Notext : (x : Expr) (i : TokenNo) → x ≡ e.Notext i → FirstIs i x
unfolding FirstIs
first-Notext x i is = sym (ap (λ z. first_of (syntax_of z)) is ∙ ap first_of (v.syntax-Notext i))

pub first-Named : (x : Expr) (y : Identifier) (l : Vec Expr Global) → x ≡ e.Named y l → FirstIs y.token x
unfolding FirstIs
first-Named x y l is = sym (ap (λ z. first_of (syntax_of z)) is ∙ ap first_of (v.syntax-Named y l))

pub first-This : (x : Expr) (i : TokenNo) (y : Identifier) → x ≡ e.This i y → FirstIs i x
unfolding FirstIs
first-This x i y is = sym (ap (λ z. first_of (syntax_of z)) is ∙ ap first_of (v.syntax-This i y))

pub first-New : (x : Expr) (i : TokenNo) (y : Identifier) (l : Vec Expr Global) → x ≡ e.New i y l → FirstIs i x
unfolding FirstIs
first-New x i y l is = sym (ap (λ z. first_of (syntax_of z)) is ∙ ap first_of (v.syntax-New i y l))

pub first-Parentheses : (x : Expr) (i : TokenNo) (a : Box Expr Global) → x ≡ e.Parentheses i a → FirstIs i x
unfolding FirstIs
first-Parentheses x i a is = sym (ap (λ z. first_of (syntax_of z)) is ∙ ap first_of (v.syntax-Parentheses i a))

pub first-OrElse : (x y : Expr) (t : TokenNo) (a : Box Expr Global) (l : Vec Operand Global) → x ≡ e.OrElse a l → y ≡ a.value → FirstIs t y → FirstIs t x
unfolding FirstIs
first-OrElse x y t a l is same h = h ∙ ap (λ z. first_of (syntax_of z)) same ∙ sym (ap (λ z. first_of (syntax_of z)) is ∙ ap first_of (v.syntax-OrElse a l) ∙ first-chain (syntax_of a.value) (map (with_operator o.OrElse) (map operand_syntax l.items)))

pub first-AndThen : (x y : Expr) (t : TokenNo) (a : Box Expr Global) (l : Vec Operand Global) → x ≡ e.AndThen a l → y ≡ a.value → FirstIs t y → FirstIs t x
unfolding FirstIs
first-AndThen x y t a l is same h = h ∙ ap (λ z. first_of (syntax_of z)) same ∙ sym (ap (λ z. first_of (syntax_of z)) is ∙ ap first_of (v.syntax-AndThen a l) ∙ first-chain (syntax_of a.value) (map (with_operator o.AndThen) (map operand_syntax l.items)))

pub first-Eqv : (x y : Expr) (t : TokenNo) (a : Box Expr Global) (l : Vec Operand Global) → x ≡ e.Eqv a l → y ≡ a.value → FirstIs t y → FirstIs t x
unfolding FirstIs
first-Eqv x y t a l is same h = h ∙ ap (λ z. first_of (syntax_of z)) same ∙ sym (ap (λ z. first_of (syntax_of z)) is ∙ ap first_of (v.syntax-Eqv a l) ∙ first-chain (syntax_of a.value) (map (with_operator o.Equivalent) (map operand_syntax l.items)))

pub first-Imp : (x y : Expr) (t : TokenNo) (a : Box Expr Global) (l : Vec Operand Global) → x ≡ e.Imp a l → y ≡ a.value → FirstIs t y → FirstIs t x
unfolding FirstIs
first-Imp x y t a l is same h = h ∙ ap (λ z. first_of (syntax_of z)) same ∙ sym (ap (λ z. first_of (syntax_of z)) is ∙ ap first_of (v.syntax-Imp a l) ∙ first-chain (syntax_of a.value) (map (with_operator o.Implies) (map operand_syntax l.items)))

pub first-Or : (x y : Expr) (t : TokenNo) (a : Box Expr Global) (l : Vec Operand Global) → x ≡ e.Or a l → y ≡ a.value → FirstIs t y → FirstIs t x
unfolding FirstIs
first-Or x y t a l is same h = h ∙ ap (λ z. first_of (syntax_of z)) same ∙ sym (ap (λ z. first_of (syntax_of z)) is ∙ ap first_of (v.syntax-Or a l) ∙ first-chain (syntax_of a.value) (map (with_operator o.Or) (map operand_syntax l.items)))

pub first-And : (x y : Expr) (t : TokenNo) (a : Box Expr Global) (l : Vec Operand Global) → x ≡ e.And a l → y ≡ a.value → FirstIs t y → FirstIs t x
unfolding FirstIs
first-And x y t a l is same h = h ∙ ap (λ z. first_of (syntax_of z)) same ∙ sym (ap (λ z. first_of (syntax_of z)) is ∙ ap first_of (v.syntax-And a l) ∙ first-chain (syntax_of a.value) (map (with_operator o.And) (map operand_syntax l.items)))

pub first-Concatenation : (x y : Expr) (t : TokenNo) (a : Box Expr Global) (l : Vec Operand Global) → x ≡ e.Concatenation a l → y ≡ a.value → FirstIs t y → FirstIs t x
unfolding FirstIs
first-Concatenation x y t a l is same h = h ∙ ap (λ z. first_of (syntax_of z)) same ∙ sym (ap (λ z. first_of (syntax_of z)) is ∙ ap first_of (v.syntax-Concatenation a l) ∙ first-chain (syntax_of a.value) (map (with_operator o.Concatenate) (map operand_syntax l.items)))

pub first-Power : (x y : Expr) (t : TokenNo) (a : Box Expr Global) (l : Vec Operand Global) → x ≡ e.Power a l → y ≡ a.value → FirstIs t y → FirstIs t x
unfolding FirstIs
first-Power x y t a l is same h = h ∙ ap (λ z. first_of (syntax_of z)) same ∙ sym (ap (λ z. first_of (syntax_of z)) is ∙ ap first_of (v.syntax-Power a l) ∙ first-chain (syntax_of a.value) (map (with_operator o.Power) (map operand_syntax l.items)))

pub first-Product : (x y : Expr) (t : TokenNo) (a : Box Expr Global) (l : Vec Factor Global) → x ≡ e.Product a l → y ≡ a.value → FirstIs t y → FirstIs t x
unfolding FirstIs
first-Product x y t a l is same h = h ∙ ap (λ z. first_of (syntax_of z)) same ∙ sym (ap (λ z. first_of (syntax_of z)) is ∙ ap first_of (v.syntax-Product a l) ∙ first-chain (syntax_of a.value) (map factor_syntax l.items))

pub first-Postfix : (x y : Expr) (t : TokenNo) (a : Box Expr Global) (l : Vec Selector Global) → x ≡ e.Postfix a l → y ≡ a.value → FirstIs t y → FirstIs t x
unfolding FirstIs
first-Postfix x y t a l is same h = h ∙ ap (λ z. first_of (syntax_of z)) same ∙ sym (ap (λ z. first_of (syntax_of z)) is ∙ ap first_of (v.syntax-Postfix a l) ∙ first-selected (syntax_of a.value) (map selector_syntax l.items))

pub first-Related : (x y : Expr) (t : TokenNo) (a : Box Expr Global) (i : TokenNo) (r : Relation) (b : Box Expr Global) → x ≡ e.Related a i r b → y ≡ a.value → FirstIs t y → FirstIs t x
unfolding FirstIs
first-Related x y t a i r b is same h = h ∙ ap (λ z. first_of (syntax_of z)) same ∙ sym (ap (λ z. first_of (syntax_of z)) is ∙ ap first_of (v.syntax-Related a i r b))

pub first-Member : (x y : Expr) (t : TokenNo) (a : Box Expr Global) (i : TokenNo) (r : Membership) (c : Identifier) → x ≡ e.Member a i r c → y ≡ a.value → FirstIs t y → FirstIs t x
unfolding FirstIs
first-Member x y t a i r c is same h = h ∙ ap (λ z. first_of (syntax_of z)) same ∙ sym (ap (λ z. first_of (syntax_of z)) is ∙ ap first_of (v.syntax-Member a i r c))

pub first-Not : (x : Expr) (t : TokenNo) (l : Vec TokenNo Global) (a : Box Expr Global) (ts : List TokenNo) → x ≡ e.Not l a → ts ≡ l.items → slice_get ts 0 ≡ Some t → FirstIs t x
unfolding FirstIs
first-Not x t l a ts is same h = sym (ap (λ z. first_of (syntax_of z)) is ∙ ap first_of (v.syntax-Not l a) ∙ ap (λ z. first_of (negated z (syntax_of a.value))) (sym same) ∙ go ts h)
  where
    go : (ts : List TokenNo) → slice_get ts 0 ≡ Some t → first_of (negated ts (syntax_of a.value)) ≡ t.0
    go [] h = absurd (cc)
    go (u ∷ us) h = let same : u ≡ t = cc in ap (λ z. z.0) same

pub first-NotNone : (x y : Expr) (t : TokenNo) (l : Vec TokenNo Global) (a : Box Expr Global) (ts : List TokenNo) → x ≡ e.Not l a → ts ≡ l.items → slice_get ts 0 ≡ None → y ≡ a.value → FirstIs t y → FirstIs t x
unfolding FirstIs
first-NotNone x y t l a ts is there none same h =
    h ∙ ap (λ z. first_of (syntax_of z)) same ∙ sym (ap (λ z. first_of (syntax_of z)) is ∙ ap first_of (v.syntax-Not l a) ∙ ap (λ z. first_of (negated z (syntax_of a.value))) (sym there) ∙ go ts none)
  where
    go : (ts : List TokenNo) → slice_get ts 0 ≡ None → first_of (negated ts (syntax_of a.value)) ≡ first_of (syntax_of a.value)
    go [] h = refl
    go (u ∷ us) h = absurd (cc)

pub first-Signed : (x : Expr) (s : LeadingSign) (o : Option LeadingSign) (a : Box Expr Global) (l : Vec Term Global) → x ≡ e.Sum o a l → o ≡ Some s → FirstIs s.token x
unfolding FirstIs
first-Signed x s o a l is some = sym (ap (λ z. first_of (syntax_of z)) is ∙ ap first_of (v.syntax-Sum o a l) ∙ first-chain (signed o (syntax_of a.value)) (map term_syntax l.items) ∙ ap (λ z. first_of (signed z (syntax_of a.value))) some)

pub first-Unsigned : (x y : Expr) (t : TokenNo) (o : Option LeadingSign) (a : Box Expr Global) (l : Vec Term Global) → x ≡ e.Sum o a l → o ≡ None → y ≡ a.value → FirstIs t y → FirstIs t x
unfolding FirstIs
first-Unsigned x y t o a l is none same h = h ∙ ap (λ z. first_of (syntax_of z)) same ∙ sym (ap (λ z. first_of (syntax_of z)) is ∙ ap first_of (v.syntax-Sum o a l) ∙ first-chain (signed o (syntax_of a.value)) (map term_syntax l.items) ∙ ap (λ z. first_of (signed z (syntax_of a.value))) none)

pub ruleset firsts = (first-If, first-Integer, first-Character, first-Text, first-True, first-False, first-NoObject, first-Notext, first-Named, first-This, first-New, first-Parentheses, first-OrElse, first-AndThen, first-Eqv, first-Imp, first-Or, first-And, first-Concatenation, first-Power, first-Product, first-Postfix, first-Related, first-Member, first-Not, first-NotNone, first-Signed, first-Unsigned)

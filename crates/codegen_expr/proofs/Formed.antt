-- What expressions are behind levels of operators that have no operator.
use Rattle.std.proofs.Common.{◌≡◌, ◌≢◌, ℕ, ℤ, List, [], ◌∷◌, length, map, Bor, Option, Some, None, refl, sym, ap, ◌∙◌, subst, arith}
use Rattle.std.specs.declared.alloc.Global.{Global}
use Rattle.std.specs.declared.boxed.Box.{Box}
use Rattle.std.specs.declared.vec.Vec.{Vec}
use Rattle.sim_base.specs.declared.numbering.TokenNo.{TokenNo}
use Rattle.sim_tree.specs.declared.expr.Expr.{Expr}
use Rattle.sim_tree.specs.declared.expr.Expr.TheVariants as e
use Rattle.sim_tree.specs.declared.expr.Factor.{Factor}
use Rattle.sim_tree.specs.declared.expr.Identifier.{Identifier}
use Rattle.sim_tree.specs.declared.expr.LeadingSign.{LeadingSign}
use Rattle.sim_tree.specs.declared.expr.Membership.{Membership}
use Rattle.sim_tree.specs.declared.expr.Operand.{Operand}
use Rattle.sim_tree.specs.declared.expr.Relation.{Relation}
use Rattle.sim_tree.specs.declared.expr.Selector.{Selector}
use Rattle.sim_tree.specs.declared.expr.Term.{Term}
use Rattle.sim_tree.specs.declared.operator.Operator.{Operator}
use Rattle.sim_tree.specs.declared.operator.Operator.TheVariants as o
use Rattle.sim_tree.specs.Syntax.{Binary, Constant, Dot, Expression, If, Member, Named, New, Not, Parentheses, Qua, Signed, This, expressions, naming}
use Rattle.sim_tree.specs.SyntaxOf.{Cast, NamingIs, Selection, Tail, Take, chain, factor_syntax, negated, operand_syntax, selected, selector_syntax, signed, syntax_of, term_syntax, with_operator}
use Rattle.sim_tree.proofs.SyntaxLemmas as v
use Rattle.sim_meaning.specs.Closing.{typed_token}
use Rattle.codegen_expr.specs.declared.forms.Form.{Form}
use Rattle.codegen_expr.specs.declared.forms.Form.TheVariants as form
use Rattle.codegen_expr.specs.Forms.{FormIs, FindsForm, IsNew, IsOther}

chain_other : (x : Expression) (t : Tail) (ts : List Tail) → IsOther (chain x (t ∷ ts))
chain_other x t [] = tt
chain_other x t (u ∷ us) = chain_other (Binary t.operator t.token x t.operand) u us

-- an expression is what any other with the same syntax is
same : (r : Form) (a x : Expr) → syntax_of a ≡ syntax_of x → FindsForm r x → FindsForm r a
unfolding FindsForm
same r a x is f = subst (FormIs r) (sym is) f

none : (a : Expr) (y : Expression) → syntax_of a ≡ y → IsOther y → FindsForm form.Other a
unfolding FindsForm
none a y is other = subst IsOther (sym is) other

chained : (a x : Expr) (k : Operator) (l : List Operand) → syntax_of a ≡ chain (syntax_of x) (map (with_operator k) (map operand_syntax l)) → length l ≡ 0 → syntax_of a ≡ syntax_of x
chained a x k [] is n = is
chained a x k (t ∷ ts) is n = absurd (omega (arith, n))

unchained : (a x : Expr) (k : Operator) (l : List Operand) → syntax_of a ≡ chain (syntax_of x) (map (with_operator k) (map operand_syntax l)) → length l ≢ 0 → FindsForm form.Other a
unchained a x k [] is n = absurd (n refl)
unchained a x k (t ∷ ts) is n = none a _ is (chain_other (syntax_of x) (with_operator k (operand_syntax t)) (map (with_operator k) (map operand_syntax ts)))

pub same_OrElse : (r : Form) (a x : Expr) (p : Box Expr Global) (l : Vec Operand Global) (ts : List Operand) → a ≡ e.OrElse p l → x ≡ p.value → ts ≡ l.items → length ts ≡ 0 → FindsForm r x → FindsForm r a
same_OrElse r a x p l ts is ex et n f = same r a x (chained a x o.OrElse ts (ap syntax_of is ∙ v.syntax-OrElse p l ∙ ap (λ z. chain (syntax_of z) (map (with_operator o.OrElse) (map operand_syntax l.items))) (sym ex) ∙ ap (λ z. chain (syntax_of x) (map (with_operator o.OrElse) (map operand_syntax z))) (sym et)) n) f

pub other_OrElse : (a : Expr) (p : Box Expr Global) (l : Vec Operand Global) (ts : List Operand) → a ≡ e.OrElse p l → ts ≡ l.items → length ts ≢ 0 → FindsForm form.Other a
other_OrElse a p l ts is et n = unchained a p.value o.OrElse ts (ap syntax_of is ∙ v.syntax-OrElse p l ∙ ap (λ z. chain (syntax_of p.value) (map (with_operator o.OrElse) (map operand_syntax z))) (sym et)) n

pub same_AndThen : (r : Form) (a x : Expr) (p : Box Expr Global) (l : Vec Operand Global) (ts : List Operand) → a ≡ e.AndThen p l → x ≡ p.value → ts ≡ l.items → length ts ≡ 0 → FindsForm r x → FindsForm r a
same_AndThen r a x p l ts is ex et n f = same r a x (chained a x o.AndThen ts (ap syntax_of is ∙ v.syntax-AndThen p l ∙ ap (λ z. chain (syntax_of z) (map (with_operator o.AndThen) (map operand_syntax l.items))) (sym ex) ∙ ap (λ z. chain (syntax_of x) (map (with_operator o.AndThen) (map operand_syntax z))) (sym et)) n) f

pub other_AndThen : (a : Expr) (p : Box Expr Global) (l : Vec Operand Global) (ts : List Operand) → a ≡ e.AndThen p l → ts ≡ l.items → length ts ≢ 0 → FindsForm form.Other a
other_AndThen a p l ts is et n = unchained a p.value o.AndThen ts (ap syntax_of is ∙ v.syntax-AndThen p l ∙ ap (λ z. chain (syntax_of p.value) (map (with_operator o.AndThen) (map operand_syntax z))) (sym et)) n

pub same_Eqv : (r : Form) (a x : Expr) (p : Box Expr Global) (l : Vec Operand Global) (ts : List Operand) → a ≡ e.Eqv p l → x ≡ p.value → ts ≡ l.items → length ts ≡ 0 → FindsForm r x → FindsForm r a
same_Eqv r a x p l ts is ex et n f = same r a x (chained a x o.Equivalent ts (ap syntax_of is ∙ v.syntax-Eqv p l ∙ ap (λ z. chain (syntax_of z) (map (with_operator o.Equivalent) (map operand_syntax l.items))) (sym ex) ∙ ap (λ z. chain (syntax_of x) (map (with_operator o.Equivalent) (map operand_syntax z))) (sym et)) n) f

pub other_Eqv : (a : Expr) (p : Box Expr Global) (l : Vec Operand Global) (ts : List Operand) → a ≡ e.Eqv p l → ts ≡ l.items → length ts ≢ 0 → FindsForm form.Other a
other_Eqv a p l ts is et n = unchained a p.value o.Equivalent ts (ap syntax_of is ∙ v.syntax-Eqv p l ∙ ap (λ z. chain (syntax_of p.value) (map (with_operator o.Equivalent) (map operand_syntax z))) (sym et)) n

pub same_Imp : (r : Form) (a x : Expr) (p : Box Expr Global) (l : Vec Operand Global) (ts : List Operand) → a ≡ e.Imp p l → x ≡ p.value → ts ≡ l.items → length ts ≡ 0 → FindsForm r x → FindsForm r a
same_Imp r a x p l ts is ex et n f = same r a x (chained a x o.Implies ts (ap syntax_of is ∙ v.syntax-Imp p l ∙ ap (λ z. chain (syntax_of z) (map (with_operator o.Implies) (map operand_syntax l.items))) (sym ex) ∙ ap (λ z. chain (syntax_of x) (map (with_operator o.Implies) (map operand_syntax z))) (sym et)) n) f

pub other_Imp : (a : Expr) (p : Box Expr Global) (l : Vec Operand Global) (ts : List Operand) → a ≡ e.Imp p l → ts ≡ l.items → length ts ≢ 0 → FindsForm form.Other a
other_Imp a p l ts is et n = unchained a p.value o.Implies ts (ap syntax_of is ∙ v.syntax-Imp p l ∙ ap (λ z. chain (syntax_of p.value) (map (with_operator o.Implies) (map operand_syntax z))) (sym et)) n

pub same_Or : (r : Form) (a x : Expr) (p : Box Expr Global) (l : Vec Operand Global) (ts : List Operand) → a ≡ e.Or p l → x ≡ p.value → ts ≡ l.items → length ts ≡ 0 → FindsForm r x → FindsForm r a
same_Or r a x p l ts is ex et n f = same r a x (chained a x o.Or ts (ap syntax_of is ∙ v.syntax-Or p l ∙ ap (λ z. chain (syntax_of z) (map (with_operator o.Or) (map operand_syntax l.items))) (sym ex) ∙ ap (λ z. chain (syntax_of x) (map (with_operator o.Or) (map operand_syntax z))) (sym et)) n) f

pub other_Or : (a : Expr) (p : Box Expr Global) (l : Vec Operand Global) (ts : List Operand) → a ≡ e.Or p l → ts ≡ l.items → length ts ≢ 0 → FindsForm form.Other a
other_Or a p l ts is et n = unchained a p.value o.Or ts (ap syntax_of is ∙ v.syntax-Or p l ∙ ap (λ z. chain (syntax_of p.value) (map (with_operator o.Or) (map operand_syntax z))) (sym et)) n

pub same_And : (r : Form) (a x : Expr) (p : Box Expr Global) (l : Vec Operand Global) (ts : List Operand) → a ≡ e.And p l → x ≡ p.value → ts ≡ l.items → length ts ≡ 0 → FindsForm r x → FindsForm r a
same_And r a x p l ts is ex et n f = same r a x (chained a x o.And ts (ap syntax_of is ∙ v.syntax-And p l ∙ ap (λ z. chain (syntax_of z) (map (with_operator o.And) (map operand_syntax l.items))) (sym ex) ∙ ap (λ z. chain (syntax_of x) (map (with_operator o.And) (map operand_syntax z))) (sym et)) n) f

pub other_And : (a : Expr) (p : Box Expr Global) (l : Vec Operand Global) (ts : List Operand) → a ≡ e.And p l → ts ≡ l.items → length ts ≢ 0 → FindsForm form.Other a
other_And a p l ts is et n = unchained a p.value o.And ts (ap syntax_of is ∙ v.syntax-And p l ∙ ap (λ z. chain (syntax_of p.value) (map (with_operator o.And) (map operand_syntax z))) (sym et)) n

pub same_Concatenation : (r : Form) (a x : Expr) (p : Box Expr Global) (l : Vec Operand Global) (ts : List Operand) → a ≡ e.Concatenation p l → x ≡ p.value → ts ≡ l.items → length ts ≡ 0 → FindsForm r x → FindsForm r a
same_Concatenation r a x p l ts is ex et n f = same r a x (chained a x o.Concatenate ts (ap syntax_of is ∙ v.syntax-Concatenation p l ∙ ap (λ z. chain (syntax_of z) (map (with_operator o.Concatenate) (map operand_syntax l.items))) (sym ex) ∙ ap (λ z. chain (syntax_of x) (map (with_operator o.Concatenate) (map operand_syntax z))) (sym et)) n) f

pub other_Concatenation : (a : Expr) (p : Box Expr Global) (l : Vec Operand Global) (ts : List Operand) → a ≡ e.Concatenation p l → ts ≡ l.items → length ts ≢ 0 → FindsForm form.Other a
other_Concatenation a p l ts is et n = unchained a p.value o.Concatenate ts (ap syntax_of is ∙ v.syntax-Concatenation p l ∙ ap (λ z. chain (syntax_of p.value) (map (with_operator o.Concatenate) (map operand_syntax z))) (sym et)) n

pub same_Power : (r : Form) (a x : Expr) (p : Box Expr Global) (l : Vec Operand Global) (ts : List Operand) → a ≡ e.Power p l → x ≡ p.value → ts ≡ l.items → length ts ≡ 0 → FindsForm r x → FindsForm r a
same_Power r a x p l ts is ex et n f = same r a x (chained a x o.Power ts (ap syntax_of is ∙ v.syntax-Power p l ∙ ap (λ z. chain (syntax_of z) (map (with_operator o.Power) (map operand_syntax l.items))) (sym ex) ∙ ap (λ z. chain (syntax_of x) (map (with_operator o.Power) (map operand_syntax z))) (sym et)) n) f

pub other_Power : (a : Expr) (p : Box Expr Global) (l : Vec Operand Global) (ts : List Operand) → a ≡ e.Power p l → ts ≡ l.items → length ts ≢ 0 → FindsForm form.Other a
other_Power a p l ts is et n = unchained a p.value o.Power ts (ap syntax_of is ∙ v.syntax-Power p l ∙ ap (λ z. chain (syntax_of p.value) (map (with_operator o.Power) (map operand_syntax z))) (sym et)) n

pub same_Product : (r : Form) (a x : Expr) (p : Box Expr Global) (l : Vec Factor Global) (ts : List Factor) → a ≡ e.Product p l → x ≡ p.value → ts ≡ l.items → length ts ≡ 0 → FindsForm r x → FindsForm r a
same_Product r a x p l [] is ex et n f = same r a x (ap syntax_of is ∙ v.syntax-Product p l ∙ ap (λ z. chain (syntax_of z) (map factor_syntax l.items)) (sym ex) ∙ ap (λ z. chain (syntax_of x) (map factor_syntax z)) (sym et)) f
same_Product r a x p l (t ∷ ts) is ex et n f = absurd (omega (arith, n))

pub other_Product : (a : Expr) (p : Box Expr Global) (l : Vec Factor Global) (ts : List Factor) → a ≡ e.Product p l → ts ≡ l.items → length ts ≢ 0 → FindsForm form.Other a
other_Product a p l [] is et n = absurd (n refl)
other_Product a p l (t ∷ ts) is et n = none a _ (ap syntax_of is ∙ v.syntax-Product p l ∙ ap (λ z. chain (syntax_of p.value) (map factor_syntax z)) (sym et)) (chain_other (syntax_of p.value) (factor_syntax t) (map factor_syntax ts))

pub same_Sum : (r : Form) (a x : Expr) (m : Option LeadingSign) (p : Box Expr Global) (l : Vec Term Global) (ts : List Term) → a ≡ e.Sum m p l → m ≡ None → x ≡ p.value → ts ≡ l.items → length ts ≡ 0 → FindsForm r x → FindsForm r a
same_Sum r a x m p l [] is em ex et n f = same r a x (ap syntax_of is ∙ v.syntax-Sum m p l ∙ ap (λ z. chain (signed z (syntax_of p.value)) (map term_syntax l.items)) em ∙ ap (λ z. chain (syntax_of z) (map term_syntax l.items)) (sym ex) ∙ ap (λ z. chain (syntax_of x) (map term_syntax z)) (sym et)) f
same_Sum r a x m p l (t ∷ ts) is em ex et n f = absurd (omega (arith, n))

pub other_Sum : (a : Expr) (m : Option LeadingSign) (p : Box Expr Global) (l : Vec Term Global) (ts : List Term) → a ≡ e.Sum m p l → ts ≡ l.items → length ts ≢ 0 → FindsForm form.Other a
other_Sum a m p l [] is et n = absurd (n refl)
other_Sum a m p l (t ∷ ts) is et n = none a _ (ap syntax_of is ∙ v.syntax-Sum m p l ∙ ap (λ z. chain (signed m (syntax_of p.value)) (map term_syntax z)) (sym et)) (chain_other (signed m (syntax_of p.value)) (term_syntax t) (map term_syntax ts))

signed_other : (k : LeadingSign) (x : Expression) (ts : List Tail) → IsOther (chain (signed (Some k) x) ts)
signed_other k x [] = tt
signed_other k x (t ∷ ts) = chain_other (signed (Some k) x) t ts

pub signed_Sum : (a : Expr) (m : Option LeadingSign) (k : LeadingSign) (p : Box Expr Global) (l : Vec Term Global) → a ≡ e.Sum m p l → m ≡ Some k → FindsForm form.Other a
signed_Sum a m k p l is em = none a _ (ap syntax_of is ∙ v.syntax-Sum m p l ∙ ap (λ z. chain (signed z (syntax_of p.value)) (map term_syntax l.items)) em) (signed_other k (syntax_of p.value) (map term_syntax l.items))

pub same_Postfix : (r : Form) (a x : Expr) (p : Box Expr Global) (l : Vec Selector Global) (ts : List Selector) → a ≡ e.Postfix p l → x ≡ p.value → ts ≡ l.items → length ts ≡ 0 → FindsForm r x → FindsForm r a
same_Postfix r a x p l [] is ex et n f = same r a x (ap syntax_of is ∙ v.syntax-Postfix p l ∙ ap (λ z. selected (syntax_of z) (map selector_syntax l.items)) (sym ex) ∙ ap (λ z. selected (syntax_of x) (map selector_syntax z)) (sym et)) f
same_Postfix r a x p l (t ∷ ts) is ex et n f = absurd (omega (arith, n))

pub taken_Postfix : (a : Expr) (p : Bor Expr) (q : Box Expr Global) (l : Vec Selector Global) (ts : Bor (List Selector)) → a ≡ e.Postfix q l → p.now ≡ q.value → ts.now ≡ l.items → length ts.now ≢ 0 → FindsForm (form.Taken p ts) a
unfolding FindsForm
taken_Postfix a p q l ts is ep et n = (ap syntax_of is ∙ v.syntax-Postfix q l ∙ ap (λ z. selected (syntax_of z) (map selector_syntax l.items)) (sym ep) ∙ ap (λ z. selected (syntax_of p.now) (map selector_syntax z)) (sym et), n)

pub same_Not : (r : Form) (a x : Expr) (p : Box Expr Global) (l : Vec TokenNo Global) (ts : List TokenNo) → a ≡ e.Not l p → x ≡ p.value → ts ≡ l.items → length ts ≡ 0 → FindsForm r x → FindsForm r a
same_Not r a x p l [] is ex et n f = same r a x (ap syntax_of is ∙ v.syntax-Not l p ∙ ap (λ z. negated l.items (syntax_of z)) (sym ex) ∙ ap (λ z. negated z (syntax_of x)) (sym et)) f
same_Not r a x p l (t ∷ ts) is ex et n f = absurd (omega (arith, n))

pub other_Not : (a : Expr) (p : Box Expr Global) (l : Vec TokenNo Global) (ts : List TokenNo) → a ≡ e.Not l p → ts ≡ l.items → length ts ≢ 0 → FindsForm form.Other a
other_Not a p l [] is et n = absurd (n refl)
other_Not a p l (t ∷ ts) is et n = none a _ (ap syntax_of is ∙ v.syntax-Not l p ∙ ap (λ z. negated z (syntax_of p.value)) (sym et)) tt

pub is_Named : (a : Expr) (x : Bor Identifier) (l : Vec Expr Global) (ts : Bor (List Expr)) → a ≡ e.Named x.now l → ts.now ≡ l.items → FindsForm (form.Named x ts) a
unfolding FindsForm
is_Named a x l ts is et = ap syntax_of is ∙ v.syntax-Named x.now l ∙ ap (λ z. Named x.now (expressions (map syntax_of z))) (sym et)

pub other_If : (a : Expr) (t : TokenNo) (p q u : Box Expr Global) → a ≡ e.If t p q u → FindsForm form.Other a
other_If a t p q u is = none a _ (ap syntax_of is ∙ v.syntax-If t p q u) tt

pub other_Related : (a : Expr) (p : Box Expr Global) (t : TokenNo) (k : Relation) (q : Box Expr Global) → a ≡ e.Related p t k q → FindsForm form.Other a
other_Related a p t k q is = none a _ (ap syntax_of is ∙ v.syntax-Related p t k q) tt

pub other_Member : (a : Expr) (p : Box Expr Global) (t : TokenNo) (k : Membership) (x : Identifier) → a ≡ e.Member p t k x → FindsForm form.Other a
other_Member a p t k x is = none a _ (ap syntax_of is ∙ v.syntax-Member p t k x) tt

pub other_Integer : (a : Expr) (t : TokenNo) (z : ℤ) → a ≡ e.Integer t z → FindsForm form.Other a
other_Integer a t z is = none a _ (ap syntax_of is ∙ v.syntax-Integer t z) tt

pub other_Character : (a : Expr) (t : TokenNo) (z : ℕ) → a ≡ e.Character t z → FindsForm form.Other a
other_Character a t z is = none a _ (ap syntax_of is ∙ v.syntax-Character t z) tt

pub other_Text : (a : Expr) (t : TokenNo) (z : List ℕ) → a ≡ e.Text t z → FindsForm form.Other a
other_Text a t z is = none a _ (ap syntax_of is ∙ v.syntax-Text t z) tt

pub other_True : (a : Expr) (t : TokenNo) → a ≡ e.True t → FindsForm form.Other a
other_True a t is = none a _ (ap syntax_of is ∙ v.syntax-True t) tt

pub other_False : (a : Expr) (t : TokenNo) → a ≡ e.False t → FindsForm form.Other a
other_False a t is = none a _ (ap syntax_of is ∙ v.syntax-False t) tt

pub other_NoObject : (a : Expr) (t : TokenNo) → a ≡ e.NoObject t → FindsForm form.Other a
other_NoObject a t is = none a _ (ap syntax_of is ∙ v.syntax-NoObject t) tt

pub other_Notext : (a : Expr) (t : TokenNo) → a ≡ e.Notext t → FindsForm form.Other a
other_Notext a t is = none a _ (ap syntax_of is ∙ v.syntax-Notext t) tt

pub other_This : (a : Expr) (t : TokenNo) (x : Identifier) → a ≡ e.This t x → FindsForm form.Other a
other_This a t x is = none a _ (ap syntax_of is ∙ v.syntax-This t x) tt

pub new_New : (a : Expr) (t : TokenNo) (x : Identifier) (l : Vec Expr Global) → a ≡ e.New t x l → FindsForm form.New a
unfolding FindsForm
new_New a t x l is = subst IsNew (sym (ap syntax_of is ∙ v.syntax-New t x l)) tt

pub closed_Parentheses : (a : Expr) (t : TokenNo) (q : Box Expr Global) (p : Bor Expr) → a ≡ e.Parentheses t q → p.now ≡ q.value → FindsForm (form.Closed p) a
unfolding FindsForm
closed_Parentheses a t q p is ep = (t.0, ap syntax_of is ∙ v.syntax-Parentheses t q ∙ ap (λ z. Parentheses t.0 (syntax_of z)) (sym ep))

-- ---- tokens

typed_other : (x : Expression) → IsOther x → naming x ≡ typed_token x
typed_other (If i c a b) h = refl
typed_other (Binary op i a b) h = refl
typed_other (Not i a) h = refl
typed_other (Signed k i a) h = refl
typed_other (Member m i a k) h = refl
typed_other (Dot i a k args) h = absurd h
typed_other (Qua i a k) h = absurd h
typed_other (Constant l i) h = refl
typed_other (Named k args) h = absurd h
typed_other (This i k) h = refl
typed_other (New i k args) h = absurd h
typed_other (Parentheses i a) h = absurd h

typed_selected : (x : Expression) (t : Selection) (ts : List Selection) → naming (selected x (t ∷ ts)) ≡ typed_token (selected x (t ∷ ts))
typed_selected x (Take i y args) [] = refl
typed_selected x (Cast i y) [] = refl
typed_selected x (Take i y args) (u ∷ us) = typed_selected (Dot i x y args) u us
typed_selected x (Cast i y) (u ∷ us) = typed_selected (Qua i x y) u us

as_named : (r : TokenNo) (x : Expr) (y : Expression) → syntax_of x ≡ y → naming y ≡ typed_token y → NamingIs r x → r.0 ≡ typed_token (syntax_of x)
unfolding NamingIs
as_named r x y is same f = f ∙ subst (λ z. naming z ≡ typed_token z) (sym is) same

pub token_closed : (c : Form) (x : Expr) (p : Bor Expr) (r : TokenNo) → FindsForm c x → c ≡ form.Closed p → r.0 ≡ typed_token (syntax_of p.now) → r.0 ≡ typed_token (syntax_of x)
unfolding FindsForm
token_closed c x p r f is f2 = let g : FormIs (form.Closed p) (syntax_of x) = subst (λ z. FormIs z (syntax_of x)) is f in f2 ∙ sym (ap typed_token g.1)

pub token_named : (c : Form) (x : Expr) (k : Bor Identifier) (l : Bor (List Expr)) (r : TokenNo) → FindsForm c x → c ≡ form.Named k l → NamingIs r x → r.0 ≡ typed_token (syntax_of x)
unfolding FindsForm
token_named c x k l r f is h = as_named r x _ (subst (λ z. FormIs z (syntax_of x)) is f) refl h

taken : (x : Expr) (p : Expression) (l : List Selector) (r : TokenNo) → syntax_of x ≡ selected p (map selector_syntax l) → length l ≢ 0 → NamingIs r x → r.0 ≡ typed_token (syntax_of x)
taken x p [] r is n h = absurd (n refl)
taken x p (t ∷ ts) r is n h = as_named r x _ is (typed_selected p (selector_syntax t) (map selector_syntax ts)) h

pub token_taken : (c : Form) (x : Expr) (p : Bor Expr) (l : Bor (List Selector)) (r : TokenNo) → FindsForm c x → c ≡ form.Taken p l → NamingIs r x → r.0 ≡ typed_token (syntax_of x)
unfolding FindsForm
token_taken c x p l r f is h = let g : FormIs (form.Taken p l) (syntax_of x) = subst (λ z. FormIs z (syntax_of x)) is f in taken x (syntax_of p.now) l.now r g.0 g.1 h

typed_new : (x : Expression) → IsNew x → naming x ≡ typed_token x
typed_new (If i c a b) h = absurd h
typed_new (Binary op i a b) h = absurd h
typed_new (Not i a) h = absurd h
typed_new (Signed k i a) h = absurd h
typed_new (Member m i a k) h = absurd h
typed_new (Dot i a k args) h = absurd h
typed_new (Qua i a k) h = absurd h
typed_new (Constant l i) h = absurd h
typed_new (Named k args) h = absurd h
typed_new (This i k) h = absurd h
typed_new (New i k args) h = refl
typed_new (Parentheses i a) h = absurd h

pub token_new : (c : Form) (x : Expr) (r : TokenNo) → FindsForm c x → c ≡ form.New → NamingIs r x → r.0 ≡ typed_token (syntax_of x)
unfolding FindsForm
token_new c x r f is h = as_named r x (syntax_of x) refl (typed_new (syntax_of x) (subst (λ z. FormIs z (syntax_of x)) is f)) h

pub token_other : (c : Form) (x : Expr) (r : TokenNo) → FindsForm c x → c ≡ form.Other → NamingIs r x → r.0 ≡ typed_token (syntax_of x)
unfolding FindsForm
token_other c x r f is h = as_named r x (syntax_of x) refl (typed_other (syntax_of x) (subst (λ z. FormIs z (syntax_of x)) is f)) h

-- ---- an expression and the one that it is

pub level_OrElse : (a x : Expr) (p : Box Expr Global) (l : Vec Operand Global) (ts : List Operand) → a ≡ e.OrElse p l → x ≡ p.value → ts ≡ l.items → length ts ≡ 0 → syntax_of a ≡ syntax_of x
level_OrElse a x p l ts is ex et n = chained a x o.OrElse ts (ap syntax_of is ∙ v.syntax-OrElse p l ∙ ap (λ z. chain (syntax_of z) (map (with_operator o.OrElse) (map operand_syntax l.items))) (sym ex) ∙ ap (λ z. chain (syntax_of x) (map (with_operator o.OrElse) (map operand_syntax z))) (sym et)) n

pub level_AndThen : (a x : Expr) (p : Box Expr Global) (l : Vec Operand Global) (ts : List Operand) → a ≡ e.AndThen p l → x ≡ p.value → ts ≡ l.items → length ts ≡ 0 → syntax_of a ≡ syntax_of x
level_AndThen a x p l ts is ex et n = chained a x o.AndThen ts (ap syntax_of is ∙ v.syntax-AndThen p l ∙ ap (λ z. chain (syntax_of z) (map (with_operator o.AndThen) (map operand_syntax l.items))) (sym ex) ∙ ap (λ z. chain (syntax_of x) (map (with_operator o.AndThen) (map operand_syntax z))) (sym et)) n

pub level_Eqv : (a x : Expr) (p : Box Expr Global) (l : Vec Operand Global) (ts : List Operand) → a ≡ e.Eqv p l → x ≡ p.value → ts ≡ l.items → length ts ≡ 0 → syntax_of a ≡ syntax_of x
level_Eqv a x p l ts is ex et n = chained a x o.Equivalent ts (ap syntax_of is ∙ v.syntax-Eqv p l ∙ ap (λ z. chain (syntax_of z) (map (with_operator o.Equivalent) (map operand_syntax l.items))) (sym ex) ∙ ap (λ z. chain (syntax_of x) (map (with_operator o.Equivalent) (map operand_syntax z))) (sym et)) n

pub level_Imp : (a x : Expr) (p : Box Expr Global) (l : Vec Operand Global) (ts : List Operand) → a ≡ e.Imp p l → x ≡ p.value → ts ≡ l.items → length ts ≡ 0 → syntax_of a ≡ syntax_of x
level_Imp a x p l ts is ex et n = chained a x o.Implies ts (ap syntax_of is ∙ v.syntax-Imp p l ∙ ap (λ z. chain (syntax_of z) (map (with_operator o.Implies) (map operand_syntax l.items))) (sym ex) ∙ ap (λ z. chain (syntax_of x) (map (with_operator o.Implies) (map operand_syntax z))) (sym et)) n

pub level_Or : (a x : Expr) (p : Box Expr Global) (l : Vec Operand Global) (ts : List Operand) → a ≡ e.Or p l → x ≡ p.value → ts ≡ l.items → length ts ≡ 0 → syntax_of a ≡ syntax_of x
level_Or a x p l ts is ex et n = chained a x o.Or ts (ap syntax_of is ∙ v.syntax-Or p l ∙ ap (λ z. chain (syntax_of z) (map (with_operator o.Or) (map operand_syntax l.items))) (sym ex) ∙ ap (λ z. chain (syntax_of x) (map (with_operator o.Or) (map operand_syntax z))) (sym et)) n

pub level_And : (a x : Expr) (p : Box Expr Global) (l : Vec Operand Global) (ts : List Operand) → a ≡ e.And p l → x ≡ p.value → ts ≡ l.items → length ts ≡ 0 → syntax_of a ≡ syntax_of x
level_And a x p l ts is ex et n = chained a x o.And ts (ap syntax_of is ∙ v.syntax-And p l ∙ ap (λ z. chain (syntax_of z) (map (with_operator o.And) (map operand_syntax l.items))) (sym ex) ∙ ap (λ z. chain (syntax_of x) (map (with_operator o.And) (map operand_syntax z))) (sym et)) n

pub level_Concatenation : (a x : Expr) (p : Box Expr Global) (l : Vec Operand Global) (ts : List Operand) → a ≡ e.Concatenation p l → x ≡ p.value → ts ≡ l.items → length ts ≡ 0 → syntax_of a ≡ syntax_of x
level_Concatenation a x p l ts is ex et n = chained a x o.Concatenate ts (ap syntax_of is ∙ v.syntax-Concatenation p l ∙ ap (λ z. chain (syntax_of z) (map (with_operator o.Concatenate) (map operand_syntax l.items))) (sym ex) ∙ ap (λ z. chain (syntax_of x) (map (with_operator o.Concatenate) (map operand_syntax z))) (sym et)) n

pub level_Power : (a x : Expr) (p : Box Expr Global) (l : Vec Operand Global) (ts : List Operand) → a ≡ e.Power p l → x ≡ p.value → ts ≡ l.items → length ts ≡ 0 → syntax_of a ≡ syntax_of x
level_Power a x p l ts is ex et n = chained a x o.Power ts (ap syntax_of is ∙ v.syntax-Power p l ∙ ap (λ z. chain (syntax_of z) (map (with_operator o.Power) (map operand_syntax l.items))) (sym ex) ∙ ap (λ z. chain (syntax_of x) (map (with_operator o.Power) (map operand_syntax z))) (sym et)) n

pub level_Product : (a x : Expr) (p : Box Expr Global) (l : Vec Factor Global) (ts : List Factor) → a ≡ e.Product p l → x ≡ p.value → ts ≡ l.items → length ts ≡ 0 → syntax_of a ≡ syntax_of x
level_Product a x p l [] is ex et n = ap syntax_of is ∙ v.syntax-Product p l ∙ ap (λ z. chain (syntax_of z) (map factor_syntax l.items)) (sym ex) ∙ ap (λ z. chain (syntax_of x) (map factor_syntax z)) (sym et)
level_Product a x p l (t ∷ ts) is ex et n = absurd (omega (arith, n))

pub level_Sum : (a x : Expr) (m : Option LeadingSign) (p : Box Expr Global) (l : Vec Term Global) (ts : List Term) → a ≡ e.Sum m p l → m ≡ None → x ≡ p.value → ts ≡ l.items → length ts ≡ 0 → syntax_of a ≡ syntax_of x
level_Sum a x m p l [] is em ex et n = ap syntax_of is ∙ v.syntax-Sum m p l ∙ ap (λ z. chain (signed z (syntax_of p.value)) (map term_syntax l.items)) em ∙ ap (λ z. chain (syntax_of z) (map term_syntax l.items)) (sym ex) ∙ ap (λ z. chain (syntax_of x) (map term_syntax z)) (sym et)
level_Sum a x m p l (t ∷ ts) is em ex et n = absurd (omega (arith, n))

pub level_Postfix : (a x : Expr) (p : Box Expr Global) (l : Vec Selector Global) (ts : List Selector) → a ≡ e.Postfix p l → x ≡ p.value → ts ≡ l.items → length ts ≡ 0 → syntax_of a ≡ syntax_of x
level_Postfix a x p l [] is ex et n = ap syntax_of is ∙ v.syntax-Postfix p l ∙ ap (λ z. selected (syntax_of z) (map selector_syntax l.items)) (sym ex) ∙ ap (λ z. selected (syntax_of x) (map selector_syntax z)) (sym et)
level_Postfix a x p l (t ∷ ts) is ex et n = absurd (omega (arith, n))

pub level_Not : (a x : Expr) (p : Box Expr Global) (l : Vec TokenNo Global) (ts : List TokenNo) → a ≡ e.Not l p → x ≡ p.value → ts ≡ l.items → length ts ≡ 0 → syntax_of a ≡ syntax_of x
level_Not a x p l [] is ex et n = ap syntax_of is ∙ v.syntax-Not l p ∙ ap (λ z. negated l.items (syntax_of z)) (sym ex) ∙ ap (λ z. negated z (syntax_of x)) (sym et)
level_Not a x p l (t ∷ ts) is ex et n = absurd (omega (arith, n))

pub ruleset formed = (same_OrElse, other_OrElse, same_AndThen, other_AndThen, same_Eqv, other_Eqv, same_Imp, other_Imp, same_Or, other_Or, same_And, other_And, same_Concatenation, other_Concatenation, same_Power, other_Power, same_Product, other_Product, same_Sum, other_Sum, signed_Sum, same_Postfix, taken_Postfix, same_Not, other_Not, is_Named, other_If, other_Related, other_Member, other_Integer, other_Character, other_Text, other_True, other_False, other_NoObject, other_Notext, other_This, new_New, closed_Parentheses, token_closed, token_named, token_taken, token_new, token_other)

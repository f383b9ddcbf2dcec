-- The token that names an expression's tree.
use Rattle.std.proofs.Common.{◌≡◌, ℕ, ◌-◌, length, suc, arith, Bor, List, [], ◌∷◌, Option, Some, None, refl, sym, ap, ◌∙◌, map, ℤ}
use Rattle.std.specs.Prelude.{slice_get}
use Rattle.std.specs.Option.{option_copied}
use Rattle.std.specs.declared.alloc.Global.{Global}
use Rattle.std.specs.declared.boxed.Box.{Box}
use Rattle.std.specs.declared.vec.Vec.{Vec}
use Rattle.sim_base.specs.declared.numbering.TokenNo.{TokenNo}
use Rattle.sim_tree.specs.declared.expr.LeadingSign.{LeadingSign}
use Rattle.sim_tree.specs.declared.expr.Identifier.{Identifier}
use Rattle.sim_tree.specs.declared.expr.Relation.{Relation}
use Rattle.sim_tree.specs.declared.expr.Membership.{Membership}
use Rattle.sim_tree.specs.declared.expr.Expr.{Expr}
use Rattle.sim_tree.specs.declared.expr.Expr.TheVariants as e
use Rattle.sim_tree.specs.declared.expr.Expr.TheOpen.{Selector-F}
use Rattle.sim_tree.specs.declared.expr.Expr.TheFolds.{fold-roll-Selector}
use Rattle.sim_tree.specs.declared.expr.Selector.TheVariants as w
use Rattle.sim_tree.specs.declared.expr.Operand.{Operand}
use Rattle.sim_tree.specs.declared.expr.Term.{Term}
use Rattle.sim_tree.specs.declared.expr.Factor.{Factor}
use Rattle.sim_tree.specs.declared.expr.Selector.{Selector}
use Rattle.sim_tree.proofs.SyntaxLemmas as v
use Rattle.sim_tree.specs.Syntax.{Expression, Binary, Dot, Qua, naming}
use Rattle.sim_tree.specs.SyntaxOf.{Tail, Selection, Operands, Take, Cast, chain, selected, negated, signed, syntax_of, NamingIs, SelectorIs, selecting, with_operator, operand_syntax, term_syntax, factor_syntax, selector_syntax, expr_layer, selector_layer, factor_layer, operand_layer, term_layer}
use Rattle.sim_tree.specs.declared.operator.Operator.{Operator}
use Rattle.sim_tree.specs.declared.operator.Operator.TheVariants as o

pub selector-Dot : (x : Selector) (i : TokenNo) (y : Identifier) (l : Vec Expr Global) → x ≡ w.Dot i y l → SelectorIs i x
unfolding SelectorIs selector_syntax
selector-Dot x i y l is = sym (ap (λ z. selecting (selector_syntax z)) (is ∙ sym (w.rolls-Dot i y l)) ∙ ap selecting (fold-roll-Selector Expression Selection Tail Operands Tail expr_layer selector_layer factor_layer operand_layer term_layer (Selector-F.Dot i y l)))

pub selector-Qua : (x : Selector) (i : TokenNo) (y : Identifier) → x ≡ w.Qua i y → SelectorIs i x
unfolding SelectorIs selector_syntax
selector-Qua x i y is = sym (ap (λ z. selecting (selector_syntax z)) (is ∙ sym (w.rolls-Qua i y)) ∙ ap selecting (fold-roll-Selector Expression Selection Tail Operands Tail expr_layer selector_layer factor_layer operand_layer term_layer (Selector-F.Qua i y)))

-- the last element of a list
abbrev Last : {A : Type 0} → List A → A → Type 0
Last [] y = ⊥
Last (x ∷ []) y = x ≡ y
Last (x ∷ z ∷ zs) y = Last (z ∷ zs) y

last_is : {A : Type 0} (xs : List A) (y : A) → slice_get xs (length xs - 1) ≡ Some y → Last xs y
last_is [] y e = absurd (cc)
last_is (x ∷ []) y e = let z : x ≡ y = cc in z
last_is (x ∷ z ∷ zs) y e = let n : length (x ∷ z ∷ zs) - 1 ≡ suc (length (z ∷ zs) - 1) = omega arith in last_is (z ∷ zs) y (sym (ap (slice_get (x ∷ z ∷ zs)) n) ∙ e)

none_is : {A : Type 0} (xs : List A) → slice_get xs (length xs - 1) ≡ None → xs ≡ []
none_is [] e = refl
none_is (x ∷ []) e = absurd (cc)
none_is (x ∷ z ∷ zs) e =
    let n : length (x ∷ z ∷ zs) - 1 ≡ suc (length (z ∷ zs) - 1) = omega arith in let h : z ∷ zs ≡ [] = none_is (z ∷ zs) (sym (ap (slice_get (x ∷ z ∷ zs)) n) ∙ e) in absurd (no_cons h)
  where
    no_cons : z ∷ zs ≡ [] → ⊥
    no_cons h = cc

last_map : {A B : Type 0} (f : A → B) (xs : List A) (y : A) → Last xs y → Last (map f xs) (f y)
last_map f [] y h = absurd h
last_map f (x ∷ []) y h = ap f h
last_map f (x ∷ z ∷ zs) y h = last_map f (z ∷ zs) y h

-- the last element of the items that a call of `last` gave
found_last : {A : Type 0} (xs ys : List A) (r : Option (Bor A)) (b : Bor A) → ys ≡ xs → option_copied r ≡ slice_get ys (length ys - 1) → r ≡ Some b → Last xs b.now
found_last xs ys r b same found some =
    let e : slice_get ys (length ys - 1) ≡ Some b.now = sym found ∙ ap option_copied some in last_is xs b.now (ap (λ z. slice_get z (length z - 1)) (sym same) ∙ e)

found_none : {A : Type 0} (xs ys : List A) (r : Option (Bor A)) → ys ≡ xs → option_copied r ≡ slice_get ys (length ys - 1) → r ≡ None → xs ≡ []
found_none xs ys r same found none = let e : slice_get ys (length ys - 1) ≡ None = sym found ∙ ap option_copied none in none_is xs (ap (λ z. slice_get z (length z - 1)) (sym same) ∙ e)

chain_last : (e : Expression) (xs : List Tail) (y : Tail) → Last xs y → naming (chain e xs) ≡ y.token
chain_last e [] y h = absurd h
chain_last e (x ∷ []) y h = ap (λ (z : Tail). z.token) h
chain_last e (x ∷ z ∷ zs) y h = chain_last (Binary x.operator x.token e x.operand) (z ∷ zs) y h

selected_last : (e : Expression) (xs : List Selection) (y : Selection) → Last xs y → naming (selected e xs) ≡ selecting y
selected_last e [] y h = absurd h
selected_last e (Take i name args ∷ []) y h = ap selecting h
selected_last e (Cast i class ∷ []) y h = ap selecting h
selected_last e (Take i name args ∷ z ∷ zs) y h = selected_last (Dot i e name args) (z ∷ zs) y h
selected_last e (Cast i class ∷ z ∷ zs) y h = selected_last (Qua i e class) (z ∷ zs) y h

operand_token : (op : Operator) (y : Operand) → (with_operator op (operand_syntax y)).token ≡ y.token.0
operand_token op y = ap (λ (f : Operands). (f op).token) (v.syntax-operand y.token y.operand)

operands_last : (x : Expr) (op : Operator) (e : Expression) (xs ys : List Operand) (r : Option (Bor Operand)) (b : Bor Operand) → syntax_of x ≡ chain e (map (with_operator op) (map operand_syntax xs))
    → ys ≡ xs → option_copied r ≡ slice_get ys (length ys - 1) → r ≡ Some b → NamingIs b.now.token x
unfolding NamingIs
operands_last x op e xs ys r b is same found some =
    let last = last_map (with_operator op) (map operand_syntax xs) (operand_syntax b.now) (last_map operand_syntax xs b.now (found_last xs ys r b same found some)) in
    sym (ap naming is ∙ chain_last e (map (with_operator op) (map operand_syntax xs)) (with_operator op (operand_syntax b.now)) last ∙ operand_token op b.now)

operands_none : (x z : Expr) (t : TokenNo) (op : Operator) (e : Expression) (xs ys : List Operand) (r : Option (Bor Operand)) → syntax_of x ≡ chain e (map (with_operator op) (map operand_syntax xs))
    → ys ≡ xs → option_copied r ≡ slice_get ys (length ys - 1) → r ≡ None → syntax_of z ≡ e → NamingIs t z → NamingIs t x
unfolding NamingIs
operands_none x z t op e xs ys r is same found none first h =
    h ∙ ap naming first ∙ sym (ap naming is ∙ ap (λ l. naming (chain e (map (with_operator op) (map operand_syntax l)))) (found_none xs ys r same found none))

pub naming-OrElse-last : (x : Expr) (a : Box Expr Global) (l : Vec Operand Global) (ys : List Operand) (r : Option (Bor Operand)) (b : Bor Operand) → x ≡ e.OrElse a l → ys ≡ l.items
    → option_copied r ≡ slice_get ys (length ys - 1) → r ≡ Some b → NamingIs b.now.token x
naming-OrElse-last x a l ys r b is same found some = operands_last x o.OrElse (syntax_of a.value) l.items ys r b (ap syntax_of is ∙ v.syntax-OrElse a l) same found some

pub naming-OrElse-none : (x z : Expr) (t : TokenNo) (a : Box Expr Global) (l : Vec Operand Global) (ys : List Operand) (r : Option (Bor Operand)) → x ≡ e.OrElse a l → ys ≡ l.items
    → option_copied r ≡ slice_get ys (length ys - 1) → r ≡ None → z ≡ a.value → NamingIs t z → NamingIs t x
naming-OrElse-none x z t a l ys r is same found none first h = operands_none x z t o.OrElse (syntax_of a.value) l.items ys r (ap syntax_of is ∙ v.syntax-OrElse a l) same found none (ap syntax_of first) h

pub naming-AndThen-last : (x : Expr) (a : Box Expr Global) (l : Vec Operand Global) (ys : List Operand) (r : Option (Bor Operand)) (b : Bor Operand) → x ≡ e.AndThen a l → ys ≡ l.items
    → option_copied r ≡ slice_get ys (length ys - 1) → r ≡ Some b → NamingIs b.now.token x
naming-AndThen-last x a l ys r b is same found some = operands_last x o.AndThen (syntax_of a.value) l.items ys r b (ap syntax_of is ∙ v.syntax-AndThen a l) same found some

pub naming-AndThen-none : (x z : Expr) (t : TokenNo) (a : Box Expr Global) (l : Vec Operand Global) (ys : List Operand) (r : Option (Bor Operand)) → x ≡ e.AndThen a l → ys ≡ l.items
    → option_copied r ≡ slice_get ys (length ys - 1) → r ≡ None → z ≡ a.value → NamingIs t z → NamingIs t x
naming-AndThen-none x z t a l ys r is same found none first h = operands_none x z t o.AndThen (syntax_of a.value) l.items ys r (ap syntax_of is ∙ v.syntax-AndThen a l) same found none (ap syntax_of first) h

pub naming-Eqv-last : (x : Expr) (a : Box Expr Global) (l : Vec Operand Global) (ys : List Operand) (r : Option (Bor Operand)) (b : Bor Operand) → x ≡ e.Eqv a l → ys ≡ l.items
    → option_copied r ≡ slice_get ys (length ys - 1) → r ≡ Some b → NamingIs b.now.token x
naming-Eqv-last x a l ys r b is same found some = operands_last x o.Equivalent (syntax_of a.value) l.items ys r b (ap syntax_of is ∙ v.syntax-Eqv a l) same found some

pub naming-Eqv-none : (x z : Expr) (t : TokenNo) (a : Box Expr Global) (l : Vec Operand Global) (ys : List Operand) (r : Option (Bor Operand)) → x ≡ e.Eqv a l → ys ≡ l.items
    → option_copied r ≡ slice_get ys (length ys - 1) → r ≡ None → z ≡ a.value → NamingIs t z → NamingIs t x
naming-Eqv-none x z t a l ys r is same found none first h = operands_none x z t o.Equivalent (syntax_of a.value) l.items ys r (ap syntax_of is ∙ v.syntax-Eqv a l) same found none (ap syntax_of first) h

pub naming-Imp-last : (x : Expr) (a : Box Expr Global) (l : Vec Operand Global) (ys : List Operand) (r : Option (Bor Operand)) (b : Bor Operand) → x ≡ e.Imp a l → ys ≡ l.items
    → option_copied r ≡ slice_get ys (length ys - 1) → r ≡ Some b → NamingIs b.now.token x
naming-Imp-last x a l ys r b is same found some = operands_last x o.Implies (syntax_of a.value) l.items ys r b (ap syntax_of is ∙ v.syntax-Imp a l) same found some

pub naming-Imp-none : (x z : Expr) (t : TokenNo) (a : Box Expr Global) (l : Vec Operand Global) (ys : List Operand) (r : Option (Bor Operand)) → x ≡ e.Imp a l → ys ≡ l.items
    → option_copied r ≡ slice_get ys (length ys - 1) → r ≡ None → z ≡ a.value → NamingIs t z → NamingIs t x
naming-Imp-none x z t a l ys r is same found none first h = operands_none x z t o.Implies (syntax_of a.value) l.items ys r (ap syntax_of is ∙ v.syntax-Imp a l) same found none (ap syntax_of first) h

pub naming-Or-last : (x : Expr) (a : Box Expr Global) (l : Vec Operand Global) (ys : List Operand) (r : Option (Bor Operand)) (b : Bor Operand) → x ≡ e.Or a l → ys ≡ l.items
    → option_copied r ≡ slice_get ys (length ys - 1) → r ≡ Some b → NamingIs b.now.token x
naming-Or-last x a l ys r b is same found some = operands_last x o.Or (syntax_of a.value) l.items ys r b (ap syntax_of is ∙ v.syntax-Or a l) same found some

pub naming-Or-none : (x z : Expr) (t : TokenNo) (a : Box Expr Global) (l : Vec Operand Global) (ys : List Operand) (r : Option (Bor Operand)) → x ≡ e.Or a l → ys ≡ l.items
    → option_copied r ≡ slice_get ys (length ys - 1) → r ≡ None → z ≡ a.value → NamingIs t z → NamingIs t x
naming-Or-none x z t a l ys r is same found none first h = operands_none x z t o.Or (syntax_of a.value) l.items ys r (ap syntax_of is ∙ v.syntax-Or a l) same found none (ap syntax_of first) h

pub naming-And-last : (x : Expr) (a : Box Expr Global) (l : Vec Operand Global) (ys : List Operand) (r : Option (Bor Operand)) (b : Bor Operand) → x ≡ e.And a l → ys ≡ l.items
    → option_copied r ≡ slice_get ys (length ys - 1) → r ≡ Some b → NamingIs b.now.token x
naming-And-last x a l ys r b is same found some = operands_last x o.And (syntax_of a.value) l.items ys r b (ap syntax_of is ∙ v.syntax-And a l) same found some

pub naming-And-none : (x z : Expr) (t : TokenNo) (a : Box Expr Global) (l : Vec Operand Global) (ys : List Operand) (r : Option (Bor Operand)) → x ≡ e.And a l → ys ≡ l.items
    → option_copied r ≡ slice_get ys (length ys - 1) → r ≡ None → z ≡ a.value → NamingIs t z → NamingIs t x
naming-And-none x z t a l ys r is same found none first h = operands_none x z t o.And (syntax_of a.value) l.items ys r (ap syntax_of is ∙ v.syntax-And a l) same found none (ap syntax_of first) h

pub naming-Concatenation-last : (x : Expr) (a : Box Expr Global) (l : Vec Operand Global) (ys : List Operand) (r : Option (Bor Operand)) (b : Bor Operand) → x ≡ e.Concatenation a l → ys ≡ l.items
    → option_copied r ≡ slice_get ys (length ys - 1) → r ≡ Some b → NamingIs b.now.token x
naming-Concatenation-last x a l ys r b is same found some = operands_last x o.Concatenate (syntax_of a.value) l.items ys r b (ap syntax_of is ∙ v.syntax-Concatenation a l) same found some

pub naming-Concatenation-none : (x z : Expr) (t : TokenNo) (a : Box Expr Global) (l : Vec Operand Global) (ys : List Operand) (r : Option (Bor Operand)) → x ≡ e.Concatenation a l → ys ≡ l.items
    → option_copied r ≡ slice_get ys (length ys - 1) → r ≡ None → z ≡ a.value → NamingIs t z → NamingIs t x
naming-Concatenation-none x z t a l ys r is same found none first h = operands_none x z t o.Concatenate (syntax_of a.value) l.items ys r (ap syntax_of is ∙ v.syntax-Concatenation a l) same found none (ap syntax_of first) h

pub naming-Power-last : (x : Expr) (a : Box Expr Global) (l : Vec Operand Global) (ys : List Operand) (r : Option (Bor Operand)) (b : Bor Operand) → x ≡ e.Power a l → ys ≡ l.items
    → option_copied r ≡ slice_get ys (length ys - 1) → r ≡ Some b → NamingIs b.now.token x
naming-Power-last x a l ys r b is same found some = operands_last x o.Power (syntax_of a.value) l.items ys r b (ap syntax_of is ∙ v.syntax-Power a l) same found some

pub naming-Power-none : (x z : Expr) (t : TokenNo) (a : Box Expr Global) (l : Vec Operand Global) (ys : List Operand) (r : Option (Bor Operand)) → x ≡ e.Power a l → ys ≡ l.items
    → option_copied r ≡ slice_get ys (length ys - 1) → r ≡ None → z ≡ a.value → NamingIs t z → NamingIs t x
naming-Power-none x z t a l ys r is same found none first h = operands_none x z t o.Power (syntax_of a.value) l.items ys r (ap syntax_of is ∙ v.syntax-Power a l) same found none (ap syntax_of first) h

pub naming-Product-last : (x : Expr) (a : Box Expr Global) (l : Vec Factor Global) (ys : List Factor) (r : Option (Bor Factor)) (b : Bor Factor) → x ≡ e.Product a l → ys ≡ l.items
    → option_copied r ≡ slice_get ys (length ys - 1) → r ≡ Some b → NamingIs b.now.token x
unfolding NamingIs
naming-Product-last x a l ys r b is same found some =
    let y = b.now in
    sym (ap naming (ap syntax_of is ∙ v.syntax-Product a l) ∙ chain_last (syntax_of a.value) (map factor_syntax l.items) (factor_syntax y) (last_map factor_syntax l.items y (found_last l.items ys r b same found some))
    ∙ ap (λ (z : Tail). z.token) (v.syntax-factor y.token y.operator y.factor))

pub naming-Product-none : (x z : Expr) (t : TokenNo) (a : Box Expr Global) (l : Vec Factor Global) (ys : List Factor) (r : Option (Bor Factor)) → x ≡ e.Product a l → ys ≡ l.items
    → option_copied r ≡ slice_get ys (length ys - 1) → r ≡ None → z ≡ a.value → NamingIs t z → NamingIs t x
unfolding NamingIs
naming-Product-none x z t a l ys r is same found none first h =
    h ∙ ap (λ w. naming (syntax_of w)) first
    ∙ sym (ap naming (ap syntax_of is ∙ v.syntax-Product a l) ∙ ap (λ l. naming (chain (syntax_of a.value) (map factor_syntax l))) (found_none l.items ys r same found none))

pub naming-Sum-last : (x : Expr) (s : Option LeadingSign) (a : Box Expr Global) (l : Vec Term Global) (ys : List Term) (r : Option (Bor Term)) (b : Bor Term) → x ≡ e.Sum s a l → ys ≡ l.items
    → option_copied r ≡ slice_get ys (length ys - 1) → r ≡ Some b → NamingIs b.now.token x
unfolding NamingIs
naming-Sum-last x s a l ys r b is same found some =
    let y = b.now in
    sym (ap naming (ap syntax_of is ∙ v.syntax-Sum s a l) ∙ chain_last (signed s (syntax_of a.value)) (map term_syntax l.items) (term_syntax y) (last_map term_syntax l.items y (found_last l.items ys r b same found some))
    ∙ ap (λ (z : Tail). z.token) (v.syntax-term y.token y.sign y.term))

sum_none : (x : Expr) (s : Option LeadingSign) (a : Box Expr Global) (l : Vec Term Global) (ys : List Term) (r : Option (Bor Term)) → x ≡ e.Sum s a l → ys ≡ l.items
    → option_copied r ≡ slice_get ys (length ys - 1) → r ≡ None → syntax_of x ≡ signed s (syntax_of a.value)
sum_none x s a l ys r is same found none = ap syntax_of is ∙ v.syntax-Sum s a l ∙ ap (λ l. chain (signed s (syntax_of a.value)) (map term_syntax l)) (found_none l.items ys r same found none)

pub naming-Sum-sign : (x : Expr) (s : Option LeadingSign) (y : LeadingSign) (a : Box Expr Global) (l : Vec Term Global) (ys : List Term) (r : Option (Bor Term)) → x ≡ e.Sum s a l → ys ≡ l.items
    → option_copied r ≡ slice_get ys (length ys - 1) → r ≡ None → s ≡ Some y → NamingIs y.token x
unfolding NamingIs
naming-Sum-sign x s y a l ys r is same found none some = sym (ap naming (sum_none x s a l ys r is same found none) ∙ ap (λ z. naming (signed z (syntax_of a.value))) some)

pub naming-Sum-none : (x z : Expr) (t : TokenNo) (s : Option LeadingSign) (a : Box Expr Global) (l : Vec Term Global) (ys : List Term) (r : Option (Bor Term)) → x ≡ e.Sum s a l → ys ≡ l.items
    → option_copied r ≡ slice_get ys (length ys - 1) → r ≡ None → s ≡ None → z ≡ a.value → NamingIs t z → NamingIs t x
unfolding NamingIs
naming-Sum-none x z t s a l ys r is same found none plain first h =
    h ∙ ap (λ w. naming (syntax_of w)) first ∙ sym (ap naming (sum_none x s a l ys r is same found none) ∙ ap (λ z. naming (signed z (syntax_of a.value))) plain)

pub naming-Postfix-last : (x : Expr) (t : TokenNo) (a : Box Expr Global) (l : Vec Selector Global) (ys : List Selector) (r : Option (Bor Selector)) (b : Bor Selector) → x ≡ e.Postfix a l → ys ≡ l.items
    → option_copied r ≡ slice_get ys (length ys - 1) → r ≡ Some b → SelectorIs t b.now → NamingIs t x
unfolding NamingIs SelectorIs
naming-Postfix-last x t a l ys r b is same found some h =
    h
    ∙ sym (ap naming (ap syntax_of is ∙ v.syntax-Postfix a l) ∙ selected_last (syntax_of a.value) (map selector_syntax l.items) (selector_syntax b.now) (last_map selector_syntax l.items b.now (found_last l.items ys r b same found some)))

pub naming-Postfix-none : (x z : Expr) (t : TokenNo) (a : Box Expr Global) (l : Vec Selector Global) (ys : List Selector) (r : Option (Bor Selector)) → x ≡ e.Postfix a l → ys ≡ l.items
    → option_copied r ≡ slice_get ys (length ys - 1) → r ≡ None → z ≡ a.value → NamingIs t z → NamingIs t x
unfolding NamingIs
naming-Postfix-none x z t a l ys r is same found none first h =
    h ∙ ap (λ w. naming (syntax_of w)) first
    ∙ sym (ap naming (ap syntax_of is ∙ v.syntax-Postfix a l) ∙ ap (λ l. naming (selected (syntax_of a.value) (map selector_syntax l))) (found_none l.items ys r same found none))

pub naming-If : (x : Expr) (i : TokenNo) (a b c : Box Expr Global) → x ≡ e.If i a b c → NamingIs i x
unfolding NamingIs
naming-If x i a b c is = sym (ap naming (ap syntax_of is ∙ v.syntax-If i a b c))

pub naming-Related : (x : Expr) (a : Box Expr Global) (i : TokenNo) (r : Relation) (b : Box Expr Global) → x ≡ e.Related a i r b → NamingIs i x
unfolding NamingIs
naming-Related x a i r b is = sym (ap naming (ap syntax_of is ∙ v.syntax-Related a i r b))

pub naming-Member : (x : Expr) (a : Box Expr Global) (i : TokenNo) (m : Membership) (y : Identifier) → x ≡ e.Member a i m y → NamingIs i x
unfolding NamingIs
naming-Member x a i m y is = sym (ap naming (ap syntax_of is ∙ v.syntax-Member a i m y))

pub naming-Integer : (x : Expr) (i : TokenNo) (n : ℤ) → x ≡ e.Integer i n → NamingIs i x
unfolding NamingIs
naming-Integer x i n is = sym (ap naming (ap syntax_of is ∙ v.syntax-Integer i n))

pub naming-Character : (x : Expr) (i : TokenNo) (n : ℕ) → x ≡ e.Character i n → NamingIs i x
unfolding NamingIs
naming-Character x i n is = sym (ap naming (ap syntax_of is ∙ v.syntax-Character i n))

pub naming-Text : (x : Expr) (i : TokenNo) (n : List ℕ) → x ≡ e.Text i n → NamingIs i x
unfolding NamingIs
naming-Text x i n is = sym (ap naming (ap syntax_of is ∙ v.syntax-Text i n))

pub naming-True : (x : Expr) (i : TokenNo) → x ≡ e.True i → NamingIs i x
unfolding NamingIs
naming-True x i is = sym (ap naming (ap syntax_of is ∙ v.syntax-True i))

pub naming-False : (x : Expr) (i : TokenNo) → x ≡ e.False i → NamingIs i x
unfolding NamingIs
naming-False x i is = sym (ap naming (ap syntax_of is ∙ v.syntax-False i))

pub naming-NoObject : (x : Expr) (i : TokenNo) → x ≡ e.NoObject i → NamingIs i x
unfolding NamingIs
naming-NoObject x i is = sym (ap naming (ap syntax_of is ∙ v.syntax-NoObject i))

pub naming-Notext : (x : Expr) (i : TokenNo) → x ≡ e.Notext i → NamingIs i x
unfolding NamingIs
naming-Notext x i is = sym (ap naming (ap syntax_of is ∙ v.syntax-Notext i))

pub naming-Named : (x : Expr) (y : Identifier) (l : Vec Expr Global) → x ≡ e.Named y l → NamingIs y.token x
unfolding NamingIs
naming-Named x y l is = sym (ap naming (ap syntax_of is ∙ v.syntax-Named y l))

pub naming-This : (x : Expr) (i : TokenNo) (y : Identifier) → x ≡ e.This i y → NamingIs i x
unfolding NamingIs
naming-This x i y is = sym (ap naming (ap syntax_of is ∙ v.syntax-This i y))

pub naming-New : (x : Expr) (i : TokenNo) (y : Identifier) (l : Vec Expr Global) → x ≡ e.New i y l → NamingIs i x
unfolding NamingIs
naming-New x i y l is = sym (ap naming (ap syntax_of is ∙ v.syntax-New i y l))

pub naming-Parentheses : (x : Expr) (i : TokenNo) (a : Box Expr Global) → x ≡ e.Parentheses i a → NamingIs i x
unfolding NamingIs
naming-Parentheses x i a is = sym (ap naming (ap syntax_of is ∙ v.syntax-Parentheses i a))

pub naming-Not : (x : Expr) (t : TokenNo) (l : Vec TokenNo Global) (a : Box Expr Global) (ts : List TokenNo) → x ≡ e.Not l a → ts ≡ l.items → slice_get ts 0 ≡ Some t → NamingIs t x
unfolding NamingIs
naming-Not x t l a ts is same h = sym (ap naming (ap syntax_of is ∙ v.syntax-Not l a) ∙ ap (λ z. naming (negated z (syntax_of a.value))) (sym same) ∙ go ts h)
  where
    go : (ts : List TokenNo) → slice_get ts 0 ≡ Some t → naming (negated ts (syntax_of a.value)) ≡ t.0
    go [] h = absurd (cc)
    go (u ∷ us) h = let same : u ≡ t = cc in ap (λ z. z.0) same

pub naming-Not-none : (x y : Expr) (t : TokenNo) (l : Vec TokenNo Global) (a : Box Expr Global) (ts : List TokenNo) → x ≡ e.Not l a → ts ≡ l.items → slice_get ts 0 ≡ None → y ≡ a.value → NamingIs t y → NamingIs t x
unfolding NamingIs
naming-Not-none x y t l a ts is there none same h =
    h ∙ ap (λ z. naming (syntax_of z)) same ∙ sym (ap naming (ap syntax_of is ∙ v.syntax-Not l a) ∙ ap (λ z. naming (negated z (syntax_of a.value))) (sym there) ∙ go ts none)
  where
    go : (ts : List TokenNo) → slice_get ts 0 ≡ None → naming (negated ts (syntax_of a.value)) ≡ naming (syntax_of a.value)
    go [] h = refl
    go (u ∷ us) h = absurd (cc)

pub ruleset names = (selector-Dot, selector-Qua, naming-OrElse-last, naming-OrElse-none, naming-AndThen-last, naming-AndThen-none, naming-Eqv-last, naming-Eqv-none, naming-Imp-last, naming-Imp-none, naming-Or-last, naming-Or-none, naming-And-last, naming-And-none, naming-Concatenation-last, naming-Concatenation-none, naming-Power-last, naming-Power-none, naming-Product-last, naming-Product-none, naming-Sum-last, naming-Sum-sign, naming-Sum-none, naming-Postfix-last, naming-Postfix-none, naming-If, naming-Related, naming-Member, naming-Integer, naming-Character, naming-Text, naming-True, naming-False, naming-NoObject, naming-Notext, naming-Named, naming-This, naming-New, naming-Parentheses, naming-Not, naming-Not-none)

-- The tokens of expressions, construct by construct.
use Rattle.std.proofs.Common.{◌≡◌, ◌<◌, ◌+◌, ℕ, ℤ, List, [], ◌∷◌, ◌++◌, Option, Some, None, refl, sym, ap, ◌∙◌, map, length, subst, append-nil, append_assoc}
use Rattle.std.specs.Prelude.{slice_index_or}
use Rattle.std.specs.declared.alloc.Global.{Global}
use Rattle.std.specs.declared.boxed.Box.{Box}
use Rattle.std.specs.declared.vec.Vec.{Vec}
use Rattle.sim_base.specs.Lexeme.{character, text, whole_number}
use Rattle.sim_base.specs.declared.numbering.TokenNo.{TokenNo}
use Rattle.sim_base.specs.declared.token.Lexeme.{Lexeme}
use Rattle.sim_base.specs.declared.token.TokenKind.{TokenKind}
use Rattle.sim_base.specs.declared.token.TokenKind.TheVariants as k
use Rattle.sim_tree.specs.declared.expr.Expr.{Expr}
use Rattle.sim_tree.specs.declared.expr.Expr.TheVariants as e
use Rattle.sim_tree.specs.declared.expr.Expr.TheOpen.{Selector-F}
use Rattle.sim_tree.specs.declared.expr.Expr.TheFolds.{fold-roll-Selector}
use Rattle.sim_tree.specs.declared.expr.Factor.{Factor}
use Rattle.sim_tree.specs.declared.expr.Identifier.{Identifier}
use Rattle.sim_tree.specs.declared.expr.LeadingSign.{LeadingSign}
use Rattle.sim_tree.specs.declared.expr.Membership.{Membership}
use Rattle.sim_tree.specs.declared.expr.Operand.{Operand}
use Rattle.sim_tree.specs.declared.expr.Relation.{Relation}
use Rattle.sim_tree.specs.declared.expr.Selector.{Selector}
use Rattle.sim_tree.specs.declared.expr.Selector.TheVariants as w
use Rattle.sim_tree.specs.declared.expr.Term.{Term}
use Rattle.sim_tree.specs.declared.operator.Operator.{Operator}
use Rattle.sim_tree.specs.declared.operator.Operator.TheVariants as o
use Rattle.sim_tree.specs.Derivation.{membership_kind, multiplication_kind, relation_kind, sign_kind}
use Rattle.sim_tree.specs.Syntax.{Expression, expressions}
use Rattle.sim_tree.specs.SyntaxOf.{Cast, Selection, Tail, Take, chain, expr_layer, factor_layer, factor_syntax, negated, operand_layer, operand_syntax, selected, selector_layer, selector_syntax, signed, syntax_of, term_layer, term_syntax, with_operator}
use Rattle.sim_tree.proofs.SyntaxLemmas as v
use Rattle.sim_print.specs.Laid.{LaidOut, Owes, Prints}
use Rattle.sim_print.specs.Spelling.{each}
use Rattle.sim_print.specs.Tokens.{actuals, behind_comma, expression, further_actuals, name, one, operator_kind}
use Rattle.sim_print.specs.Trees.{of_actuals, of_expr, of_factor, of_not, of_operand, of_selector, of_sign, of_term, selection_tokens}
use Rattle.sim_print.proofs.Steps.{prints_as, both, four, none, owes_all, owes_comma, owes_end, owes_from, owes_next, six, three}

tokens_at : (x : Expr) (z : Expression) → syntax_of x ≡ z → expression z ≡ of_expr x
unfolding of_expr
tokens_at x z e = ap expression (sym e)

-- the part of a tree that is in a box
boxed : (a b : LaidOut) (y z : Expr) → y ≡ z → Prints a b (of_expr y) → Prints a b (expression (syntax_of z))
unfolding of_expr
boxed a b y z e h = subst (λ w. Prints a b (of_expr w)) e h

-- ---- operators of one level

-- an operator and its right operand
abbrev tail_tokens : Tail → List Lexeme
tail_tokens t = one (operator_kind t.operator) ++ expression t.operand

in_chain : (left : Expression) (ts : List Tail) → expression (chain left ts) ≡ expression left ++ each tail_tokens ts
in_chain left [] = sym (append-nil (expression left))
in_chain left (t ∷ ts) = in_chain _ ts ∙ append_assoc (expression left) (tail_tokens t) (each tail_tokens ts)

in_operands : (op : Operator) (l : List Operand) → each tail_tokens (map (with_operator op) (map operand_syntax l)) ≡ each (of_operand (operator_kind op)) l
unfolding of_expr
in_operands op [] = refl
in_operands op (x ∷ xs) = ap (λ z. tail_tokens (z op) ++ each tail_tokens (map (with_operator op) (map operand_syntax xs))) (v.syntax-operand x.token x.operand) ∙ ap (λ z. of_operand (operator_kind op) x ++ z) (in_operands op xs)

in_terms : (l : List Term) → each tail_tokens (map term_syntax l) ≡ each of_term l
unfolding of_expr
in_terms [] = refl
in_terms (x ∷ xs) = ap (λ z. tail_tokens z ++ each tail_tokens (map term_syntax xs)) (v.syntax-term x.token x.sign x.term) ∙ ap (λ z. of_term x ++ z) (in_terms xs)

in_factors : (l : List Factor) → each tail_tokens (map factor_syntax l) ≡ each of_factor l
unfolding of_expr
in_factors [] = refl
in_factors (x ∷ xs) = ap (λ z. tail_tokens z ++ each tail_tokens (map factor_syntax xs)) (v.syntax-factor x.token x.operator x.factor) ∙ ap (λ z. of_factor x ++ z) (in_factors xs)

in_negated : (ts : List TokenNo) (x : Expression) → expression (negated ts x) ≡ each of_not ts ++ expression x
in_negated [] x = refl
in_negated (t ∷ ts) x = ap (λ z. one k.Not ++ z) (in_negated ts x)

in_signed : (m : Option LeadingSign) (x : Expression) → expression (signed m x) ≡ of_sign m ++ expression x
unfolding of_sign
in_signed None x = refl
in_signed (Some s) x = refl

in_selected : (x : Expression) (ys : List Selection) → expression (selected x ys) ≡ expression x ++ each selection_tokens ys
in_selected x [] = sym (append-nil (expression x))
in_selected x (Take i y args ∷ ys) = in_selected _ ys ∙ append_assoc (expression x) (selection_tokens (Take i y args)) (each selection_tokens ys)
in_selected x (Cast i y ∷ ys) = in_selected _ ys ∙ append_assoc (expression x) (selection_tokens (Cast i y)) (each selection_tokens ys)

level : (a b c : LaidOut) (op : Operator) (x y : Expr) (p : Box Expr Global) (l : Vec Operand Global) (ts : List Operand) → syntax_of x ≡ chain (syntax_of p.value) (map (with_operator op) (map operand_syntax l.items)) → y ≡ p.value → ts ≡ l.items
    → Prints a b (of_expr y) → Prints b c (each (of_operand (operator_kind op)) ts) → Prints a c (of_expr x)
level a b c op x y p l ts is ey et f g =
    prints_as a c _ _ (sym (in_chain (syntax_of p.value) (map (with_operator op) (map operand_syntax l.items))) ∙ tokens_at x _ is)
    (both a b c _ _ (boxed a b y p.value ey f) (prints_as b c _ _ (ap (each (of_operand (operator_kind op))) et ∙ sym (in_operands op l.items)) g))

pub print_or_else : (a b c : LaidOut) (x y : Expr) (p : Box Expr Global) (l : Vec Operand Global) (ts : List Operand) → x ≡ e.OrElse p l → y ≡ p.value → ts ≡ l.items → Prints a b (of_expr y) → Prints b c (each (of_operand k.OrElse) ts) → Prints a c (of_expr x)
print_or_else a b c x y p l ts is ey et f g = level a b c o.OrElse x y p l ts (ap syntax_of is ∙ v.syntax-OrElse p l) ey et f g

pub print_and_then : (a b c : LaidOut) (x y : Expr) (p : Box Expr Global) (l : Vec Operand Global) (ts : List Operand) → x ≡ e.AndThen p l → y ≡ p.value → ts ≡ l.items → Prints a b (of_expr y) → Prints b c (each (of_operand k.AndThen) ts) → Prints a c (of_expr x)
print_and_then a b c x y p l ts is ey et f g = level a b c o.AndThen x y p l ts (ap syntax_of is ∙ v.syntax-AndThen p l) ey et f g

pub print_eqv : (a b c : LaidOut) (x y : Expr) (p : Box Expr Global) (l : Vec Operand Global) (ts : List Operand) → x ≡ e.Eqv p l → y ≡ p.value → ts ≡ l.items → Prints a b (of_expr y) → Prints b c (each (of_operand k.Eqv) ts) → Prints a c (of_expr x)
print_eqv a b c x y p l ts is ey et f g = level a b c o.Equivalent x y p l ts (ap syntax_of is ∙ v.syntax-Eqv p l) ey et f g

pub print_imp : (a b c : LaidOut) (x y : Expr) (p : Box Expr Global) (l : Vec Operand Global) (ts : List Operand) → x ≡ e.Imp p l → y ≡ p.value → ts ≡ l.items → Prints a b (of_expr y) → Prints b c (each (of_operand k.Imp) ts) → Prints a c (of_expr x)
print_imp a b c x y p l ts is ey et f g = level a b c o.Implies x y p l ts (ap syntax_of is ∙ v.syntax-Imp p l) ey et f g

pub print_or : (a b c : LaidOut) (x y : Expr) (p : Box Expr Global) (l : Vec Operand Global) (ts : List Operand) → x ≡ e.Or p l → y ≡ p.value → ts ≡ l.items → Prints a b (of_expr y) → Prints b c (each (of_operand k.Or) ts) → Prints a c (of_expr x)
print_or a b c x y p l ts is ey et f g = level a b c o.Or x y p l ts (ap syntax_of is ∙ v.syntax-Or p l) ey et f g

pub print_and : (a b c : LaidOut) (x y : Expr) (p : Box Expr Global) (l : Vec Operand Global) (ts : List Operand) → x ≡ e.And p l → y ≡ p.value → ts ≡ l.items → Prints a b (of_expr y) → Prints b c (each (of_operand k.And) ts) → Prints a c (of_expr x)
print_and a b c x y p l ts is ey et f g = level a b c o.And x y p l ts (ap syntax_of is ∙ v.syntax-And p l) ey et f g

pub print_concatenation : (a b c : LaidOut) (x y : Expr) (p : Box Expr Global) (l : Vec Operand Global) (ts : List Operand) → x ≡ e.Concatenation p l → y ≡ p.value → ts ≡ l.items → Prints a b (of_expr y) → Prints b c (each (of_operand k.Ampersand) ts) → Prints a c (of_expr x)
print_concatenation a b c x y p l ts is ey et f g = level a b c o.Concatenate x y p l ts (ap syntax_of is ∙ v.syntax-Concatenation p l) ey et f g

pub print_power : (a b c : LaidOut) (x y : Expr) (p : Box Expr Global) (l : Vec Operand Global) (ts : List Operand) → x ≡ e.Power p l → y ≡ p.value → ts ≡ l.items → Prints a b (of_expr y) → Prints b c (each (of_operand k.Power) ts) → Prints a c (of_expr x)
print_power a b c x y p l ts is ey et f g = level a b c o.Power x y p l ts (ap syntax_of is ∙ v.syntax-Power p l) ey et f g

pub print_sum : (a b c d : LaidOut) (x y : Expr) (m : Option LeadingSign) (p : Box Expr Global) (l : Vec Term Global) (ts : List Term) → x ≡ e.Sum m p l → y ≡ p.value → ts ≡ l.items → Prints a b (of_sign m) → Prints b c (of_expr y) → Prints c d (each of_term ts) → Prints a d (of_expr x)
print_sum a b c d x y m p l ts is ey et f g h =
    prints_as a d _ _ (sym (in_chain (signed m (syntax_of p.value)) (map term_syntax l.items)) ∙ tokens_at x _ (ap syntax_of is ∙ v.syntax-Sum m p l))
    (both a c d _ _ (prints_as a c _ _ (sym (in_signed m (syntax_of p.value))) (both a b c _ _ f (boxed b c y p.value ey g))) (prints_as c d _ _ (ap (each of_term) et ∙ sym (in_terms l.items)) h))

pub print_product : (a b c : LaidOut) (x y : Expr) (p : Box Expr Global) (l : Vec Factor Global) (ts : List Factor) → x ≡ e.Product p l → y ≡ p.value → ts ≡ l.items → Prints a b (of_expr y) → Prints b c (each of_factor ts) → Prints a c (of_expr x)
print_product a b c x y p l ts is ey et f g =
    prints_as a c _ _ (sym (in_chain (syntax_of p.value) (map factor_syntax l.items)) ∙ tokens_at x _ (ap syntax_of is ∙ v.syntax-Product p l))
    (both a b c _ _ (boxed a b y p.value ey f) (prints_as b c _ _ (ap (each of_factor) et ∙ sym (in_factors l.items)) g))

pub print_not : (a b c : LaidOut) (x y : Expr) (l : Vec TokenNo Global) (p : Box Expr Global) (ts : List TokenNo) → x ≡ e.Not l p → y ≡ p.value → ts ≡ l.items → Prints a b (each of_not ts) → Prints b c (of_expr y) → Prints a c (of_expr x)
print_not a b c x y l p ts is ey et f g =
    prints_as a c _ _ (sym (in_negated l.items (syntax_of p.value)) ∙ tokens_at x _ (ap syntax_of is ∙ v.syntax-Not l p))
    (both a b c _ _ (prints_as a b _ _ (ap (each of_not) et) f) (boxed b c y p.value ey g))

-- ---- constants

pub print_integer : (a b : LaidOut) (x : Expr) (i : TokenNo) (z value : ℤ) → x ≡ e.Integer i z → value ≡ z → Prints a b (whole_number value ∷ []) → Prints a b (of_expr x)
print_integer a b x i z value is same h = prints_as a b _ _ (ap (λ u. whole_number u ∷ []) same ∙ tokens_at x _ (ap syntax_of is ∙ v.syntax-Integer i z)) h

pub print_character : (a b : LaidOut) (x : Expr) (i : TokenNo) (z : ℕ) → x ≡ e.Character i z → Prints a b (character z ∷ []) → Prints a b (of_expr x)
print_character a b x i z is h = prints_as a b _ _ (tokens_at x _ (ap syntax_of is ∙ v.syntax-Character i z)) h

pub print_text : (a b : LaidOut) (x : Expr) (i : TokenNo) (z : List ℕ) → x ≡ e.Text i z → Prints a b (text z ∷ []) → Prints a b (of_expr x)
print_text a b x i z is h = prints_as a b _ _ (tokens_at x _ (ap syntax_of is ∙ v.syntax-Text i z)) h

pub print_true : (a b : LaidOut) (x : Expr) (i : TokenNo) → x ≡ e.True i → Prints a b (one k.True) → Prints a b (of_expr x)
print_true a b x i is h = prints_as a b _ _ (tokens_at x _ (ap syntax_of is ∙ v.syntax-True i)) h

pub print_false : (a b : LaidOut) (x : Expr) (i : TokenNo) → x ≡ e.False i → Prints a b (one k.False) → Prints a b (of_expr x)
print_false a b x i is h = prints_as a b _ _ (tokens_at x _ (ap syntax_of is ∙ v.syntax-False i)) h

pub print_no_object : (a b : LaidOut) (x : Expr) (i : TokenNo) → x ≡ e.NoObject i → Prints a b (one k.None) → Prints a b (of_expr x)
print_no_object a b x i is h = prints_as a b _ _ (tokens_at x _ (ap syntax_of is ∙ v.syntax-NoObject i)) h

pub print_notext : (a b : LaidOut) (x : Expr) (i : TokenNo) → x ≡ e.Notext i → Prints a b (one k.Notext) → Prints a b (of_expr x)
print_notext a b x i is h = prints_as a b _ _ (tokens_at x _ (ap syntax_of is ∙ v.syntax-Notext i)) h

-- ---- others

pub print_if : (a b c d m n p : LaidOut) (x y z u : Expr) (i : TokenNo) (q r s : Box Expr Global) → x ≡ e.If i q r s → y ≡ q.value → z ≡ r.value → u ≡ s.value
    → Prints a b (one k.If) → Prints b c (of_expr y) → Prints c d (one k.Then) → Prints d m (of_expr z) → Prints m n (one k.Else) → Prints n p (of_expr u) → Prints a p (of_expr x)
print_if a b c d m n p x y z u i q r s is ey ez eu f g h j l t =
    prints_as a p _ _ (tokens_at x _ (ap syntax_of is ∙ v.syntax-If i q r s))
    (six a b c d m n p _ _ _ _ _ _ f (boxed b c y q.value ey g) h (boxed d m z r.value ez j) l (boxed n p u s.value eu t))

pub print_related : (a b c d : LaidOut) (x y z : Expr) (p q : Box Expr Global) (i : TokenNo) (r : Relation) → x ≡ e.Related p i r q → y ≡ p.value → z ≡ q.value
    → Prints a b (of_expr y) → Prints b c (one (relation_kind r)) → Prints c d (of_expr z) → Prints a d (of_expr x)
print_related a b c d x y z p q i r is ey ez f g h =
    prints_as a d _ _ (tokens_at x _ (ap syntax_of is ∙ v.syntax-Related p i r q)) (three a b c d _ _ _ (boxed a b y p.value ey f) g (boxed c d z q.value ez h))

pub print_member : (a b c d : LaidOut) (x y : Expr) (p : Box Expr Global) (i : TokenNo) (r : Membership) (n : Identifier) → x ≡ e.Member p i r n → y ≡ p.value
    → Prints a b (of_expr y) → Prints b c (one (membership_kind r)) → Prints c d (name n) → Prints a d (of_expr x)
print_member a b c d x y p i r n is ey f g h =
    prints_as a d _ _ (tokens_at x _ (ap syntax_of is ∙ v.syntax-Member p i r n)) (three a b c d _ _ _ (boxed a b y p.value ey f) g h)

in_selectors : (l : List Selector) → each selection_tokens (map selector_syntax l) ≡ each of_selector l
unfolding of_selector
in_selectors [] = refl
in_selectors (x ∷ xs) = ap (λ z. of_selector x ++ z) (in_selectors xs)

pub print_postfix : (a b c : LaidOut) (x y : Expr) (p : Box Expr Global) (l : Vec Selector Global) (ts : List Selector) → x ≡ e.Postfix p l → y ≡ p.value → ts ≡ l.items → Prints a b (of_expr y) → Prints b c (each of_selector ts) → Prints a c (of_expr x)
print_postfix a b c x y p l ts is ey et f g =
    prints_as a c _ _ (sym (in_selected (syntax_of p.value) (map selector_syntax l.items)) ∙ tokens_at x _ (ap syntax_of is ∙ v.syntax-Postfix p l))
    (both a b c _ _ (boxed a b y p.value ey f) (prints_as b c _ _ (ap (each of_selector) et ∙ sym (in_selectors l.items)) g))

actuals_of : (a b : LaidOut) (xs ys : List Expr) → xs ≡ ys → Prints a b (of_actuals xs) → Prints a b (actuals (expressions (map syntax_of ys)))
unfolding of_actuals
actuals_of a b xs ys e h = subst (λ z. Prints a b (of_actuals z)) e h

pub print_named : (a b c : LaidOut) (x : Expr) (n : Identifier) (l : Vec Expr Global) (ts : List Expr) → x ≡ e.Named n l → ts ≡ l.items → Prints a b (name n) → Prints b c (of_actuals ts) → Prints a c (of_expr x)
print_named a b c x n l ts is et f g = prints_as a c _ _ (tokens_at x _ (ap syntax_of is ∙ v.syntax-Named n l)) (both a b c _ _ f (actuals_of b c ts l.items et g))

pub print_this : (a b c : LaidOut) (x : Expr) (i : TokenNo) (n : Identifier) → x ≡ e.This i n → Prints a b (one k.This) → Prints b c (name n) → Prints a c (of_expr x)
print_this a b c x i n is f g = prints_as a c _ _ (tokens_at x _ (ap syntax_of is ∙ v.syntax-This i n)) (both a b c _ _ f g)

pub print_new : (a b c d : LaidOut) (x : Expr) (i : TokenNo) (n : Identifier) (l : Vec Expr Global) (ts : List Expr) → x ≡ e.New i n l → ts ≡ l.items
    → Prints a b (one k.New) → Prints b c (name n) → Prints c d (of_actuals ts) → Prints a d (of_expr x)
print_new a b c d x i n l ts is et f g h = prints_as a d _ _ (tokens_at x _ (ap syntax_of is ∙ v.syntax-New i n l)) (three a b c d _ _ _ f g (actuals_of c d ts l.items et h))

pub print_parentheses : (a b c d : LaidOut) (x y : Expr) (i : TokenNo) (p : Box Expr Global) → x ≡ e.Parentheses i p → y ≡ p.value
    → Prints a b (one k.Open) → Prints b c (of_expr y) → Prints c d (one k.Close) → Prints a d (of_expr x)
print_parentheses a b c d x y i p is ey f g h =
    prints_as a d _ _ (tokens_at x _ (ap syntax_of is ∙ v.syntax-Parentheses i p)) (three a b c d _ _ _ f (boxed b c y p.value ey g) h)

-- ---- what is taken of an object

selector-Dot : (i : TokenNo) (y : Identifier) (l : Vec Expr Global) → selector_syntax (w.Dot i y l) ≡ Take i.0 y (expressions (map syntax_of l.items))
unfolding selector_syntax syntax_of operand_syntax term_syntax factor_syntax
selector-Dot i y l = ap selector_syntax (sym (w.rolls-Dot i y l)) ∙ fold-roll-Selector Expression Selection Tail (Operator → Tail) Tail expr_layer selector_layer factor_layer operand_layer term_layer (Selector-F.Dot i y l)

selector-Qua : (i : TokenNo) (y : Identifier) → selector_syntax (w.Qua i y) ≡ Cast i.0 y
unfolding selector_syntax
selector-Qua i y = ap selector_syntax (sym (w.rolls-Qua i y)) ∙ fold-roll-Selector Expression Selection Tail (Operator → Tail) Tail expr_layer selector_layer factor_layer operand_layer term_layer (Selector-F.Qua i y)

pub print_dot : (a b c d : LaidOut) (x : Selector) (i : TokenNo) (n : Identifier) (l : Vec Expr Global) (ts : List Expr) → x ≡ w.Dot i n l → ts ≡ l.items
    → Prints a b (one k.Dot) → Prints b c (name n) → Prints c d (of_actuals ts) → Prints a d (of_selector x)
unfolding of_selector
print_dot a b c d x i n l ts is et f g h =
    prints_as a d _ _ (sym (ap (λ z. selection_tokens (selector_syntax z)) is ∙ ap selection_tokens (selector-Dot i n l))) (three a b c d _ _ _ f g (actuals_of c d ts l.items et h))

pub print_qua : (a b c : LaidOut) (x : Selector) (i : TokenNo) (n : Identifier) → x ≡ w.Qua i n → Prints a b (one k.Qua) → Prints b c (name n) → Prints a c (of_selector x)
unfolding of_selector
print_qua a b c x i n is f g =
    prints_as a c _ _ (sym (ap (λ z. selection_tokens (selector_syntax z)) is ∙ ap selection_tokens (selector-Qua i n))) (both a b c _ _ f g)

-- ---- actual parameters

in_further : (xs : List Expr) → further_actuals (expressions (map syntax_of xs)) ≡ each (behind_comma of_expr) xs ++ one k.Close
unfolding of_expr
in_further [] = refl
in_further (x ∷ xs) = ap (λ z. behind_comma of_expr x ++ z) (in_further xs) ∙ sym (append_assoc (behind_comma of_expr x) (each (behind_comma of_expr) xs) (one k.Close))

pub print_no_actuals : (a : LaidOut) (xs : List Expr) → length xs ≡ 0 → Prints a a (of_actuals xs)
unfolding of_actuals
print_no_actuals a [] e = none a
print_no_actuals a (x ∷ xs) e = absurd (cc)

actuals_from : (x : Expr) (xs ys : List Expr) → xs ≡ x ∷ ys → one k.Open ++ (of_expr x ++ (each (behind_comma of_expr) ys ++ one k.Close)) ≡ of_actuals xs
unfolding of_actuals of_expr
actuals_from x xs ys is = ap (λ z. one k.Open ++ (expression (syntax_of x) ++ z)) (sym (in_further ys)) ∙ sym (ap (λ z. actuals (expressions (map syntax_of z))) is)

pub print_actuals : (a b c d m : LaidOut) (xs ys : List Expr) (x : Expr) → xs ≡ x ∷ ys
    → Prints a b (one k.Open) → Prints b c (of_expr x) → Prints c d (each (behind_comma of_expr) ys) → Prints d m (one k.Close) → Prints a m (of_actuals xs)
print_actuals a b c d m xs ys x is f g h j = prints_as a m _ _ (actuals_from x xs ys is) (four a b c d m _ _ _ _ f g h j)

-- ---- loops

pub owes_operand : (kind : TokenKind) (a b m c : LaidOut) (t : List Lexeme) (xs : List Operand) (i : ℕ) (x : Operand) → Owes (of_operand kind) a t xs b i → i < length xs → x ≡ slice_index_or xs i x
    → Prints b m (one kind) → Prints m c (of_expr x.operand) → Owes (of_operand kind) a t xs c (i + 1)
owes_operand kind a b m c t xs i x owes le is f g = owes_next (of_operand kind) a b c t xs i x owes le is (both b m c _ _ f g)

pub owes_term : (a b m c : LaidOut) (t : List Lexeme) (xs : List Term) (i : ℕ) (x : Term) → Owes of_term a t xs b i → i < length xs → x ≡ slice_index_or xs i x
    → Prints b m (one (sign_kind x.sign)) → Prints m c (of_expr x.term) → Owes of_term a t xs c (i + 1)
owes_term a b m c t xs i x owes le is f g = owes_next of_term a b c t xs i x owes le is (both b m c _ _ f g)

pub owes_factor : (a b m c : LaidOut) (t : List Lexeme) (xs : List Factor) (i : ℕ) (x : Factor) → Owes of_factor a t xs b i → i < length xs → x ≡ slice_index_or xs i x
    → Prints b m (one (multiplication_kind x.operator)) → Prints m c (of_expr x.factor) → Owes of_factor a t xs c (i + 1)
owes_factor a b m c t xs i x owes le is f g = owes_next of_factor a b c t xs i x owes le is (both b m c _ _ f g)

pub ruleset expression_rules = (owes_all, owes_operand, owes_term, owes_factor, owes_comma, owes_next, owes_end, print_or_else, print_and_then, print_eqv, print_imp, print_or, print_and, print_concatenation, print_power, print_sum, print_product, print_not, print_integer, print_character, print_text, print_true, print_false, print_no_object, print_notext, print_if, print_related, print_member, print_postfix, print_named, print_this, print_new, print_parentheses, print_dot, print_qua, print_no_actuals, print_actuals)

-- The text constants of expressions, statements and declarations, construct by construct.
use Rattle.std.proofs.Common.{◌≡◌, ◌<◌, ◌≤◌, ◌+◌, ℕ, ℤ, List, [], ◌∷◌, ◌++◌, Option, Some, None, refl, sym, ap, ◌∙◌, map, drop, length, subst, append-nil, append_assoc}
use Rattle.std.proofs.lemmas.List.{drop_more, drop_all}
use Rattle.std.specs.Prelude.{slice_index_or, option_map}
use Rattle.std.specs.Borrow.{Bor}
use Rattle.std.specs.declared.alloc.Global.{Global}
use Rattle.std.specs.declared.boxed.Box.{Box}
use Rattle.std.specs.declared.vec.Vec.{Vec}
use Rattle.sim_base.specs.declared.byte_string.ByteString.{ByteString}
use Rattle.sim_base.specs.declared.numbering.TokenNo.{TokenNo}
use Rattle.sim_tree.specs.declared.expr.Expr.{Expr}
use Rattle.sim_tree.specs.declared.expr.Expr.TheVariants as e
use Rattle.sim_tree.specs.declared.expr.Expr.TheOpen.{Selector-F}
use Rattle.sim_tree.specs.declared.expr.Expr.TheFolds.{fold-roll-Selector}
use Rattle.sim_tree.specs.declared.expr.Factor.{Factor}
use Rattle.sim_tree.specs.declared.expr.Identifier.{Identifier}
use Rattle.sim_tree.specs.declared.expr.LeadingSign.{LeadingSign}
use Rattle.sim_tree.specs.declared.expr.Membership.{Membership}
use Rattle.sim_tree.specs.declared.expr.Operand.{Operand}
use Rattle.sim_tree.specs.declared.expr.Relation.{Relation}
use Rattle.sim_tree.specs.declared.expr.Selector.{Selector}
use Rattle.sim_tree.specs.declared.expr.Selector.TheVariants as w
use Rattle.sim_tree.specs.declared.expr.Term.{Term}
use Rattle.sim_tree.specs.declared.operator.Operator.{Operator}
use Rattle.sim_tree.specs.declared.operator.Operator.TheVariants as o
use Rattle.sim_tree.specs.declared.program.BlockPrefix.{BlockPrefix}
use Rattle.sim_tree.specs.declared.program.Program.{Program}
use Rattle.sim_tree.specs.declared.stmt.Activation.{Activation}
use Rattle.sim_tree.specs.declared.stmt.ArraySegment.{ArraySegment}
use Rattle.sim_tree.specs.declared.stmt.Assigned.{Assigned}
use Rattle.sim_tree.specs.declared.stmt.Block.{Block}
use Rattle.sim_tree.specs.declared.stmt.Bounds.{Bounds}
use Rattle.sim_tree.specs.declared.stmt.Class.{Class}
use Rattle.sim_tree.specs.declared.stmt.Constant.{Constant}
use Rattle.sim_tree.specs.declared.stmt.Constant.TheVariants as constant
use Rattle.sim_tree.specs.declared.stmt.Decl.{Decl}
use Rattle.sim_tree.specs.declared.stmt.Decl.TheVariants as d
use Rattle.sim_tree.specs.declared.stmt.ForElement.{ForElement}
use Rattle.sim_tree.specs.declared.stmt.ForElement.TheVariants as for_element
use Rattle.sim_tree.specs.declared.stmt.Procedure.{Procedure}
use Rattle.sim_tree.specs.declared.stmt.ReferenceElement.{ReferenceElement}
use Rattle.sim_tree.specs.declared.stmt.ReferenceElement.TheVariants as reference_element
use Rattle.sim_tree.specs.declared.stmt.Stmt.{Stmt}
use Rattle.sim_tree.specs.declared.stmt.Stmt.TheVariants as s
use Rattle.sim_tree.specs.declared.stmt.Timing.{Timing}
use Rattle.sim_tree.specs.declared.stmt.Timing.TheVariants as timing
use Rattle.sim_tree.specs.declared.stmt.TypeName.{TypeName}
use Rattle.sim_tree.specs.declared.stmt.Variable.{Variable}
use Rattle.sim_tree.specs.declared.stmt.When.{When}
use Rattle.sim_tree.specs.Syntax.{Declaration, Expression, Statement, declarations, expressions, statements}
use Rattle.sim_tree.specs.Syntax.{Block as BlockSyntax}
use Rattle.sim_tree.specs.SyntaxOf.{Cast, Selection, Tail, Take, chain, expr_layer, factor_layer, factor_syntax, negated, operand_layer, operand_syntax, selected, selector_layer, selector_syntax, signed, syntax_of, term_layer, term_syntax, with_operator}
use Rattle.sim_tree.specs.SyntaxOfProgram.{arms, arm_syntax, block_syntax, bound_pair_syntax, branch_syntax, declaration_syntax, element_syntax, prefix_syntax, program_syntax, reference_element_syntax, right_side_syntax, schedule_syntax, segment_syntax, statement_syntax}
use Rattle.sim_tree.proofs.SyntaxLemmas as v
use Rattle.sim_tree.proofs.ProgramSyntaxLemmas as t
use Rattle.sim_scope.specs.Runs.{each}
use Rattle.sim_meaning.specs.Constants.{TextConstant, arms_constants, block_constants, bounds_constants, declaration_constants, declarations_constants, element_constants, elements_constants, expression_constants, expressions_constants, right_constants, prefix_constants, schedule_constants, segments_constants, statement_constants, statements_constants, value_constants, variables_constants}
use Rattle.program_texts.specs.declared.constants.ConstantTree.{ConstantTree}
use Rattle.program_texts.specs.ConstantTrees.{Adds, AreConstants, constant_in, of_arm, of_assigned, of_block, of_bounds, of_branch, of_declaration, of_element, of_expr, of_factor, of_operand, of_reference_element, of_segment, of_selector, of_statement, of_term, of_timing, of_variable, selection_constants}

map-append : {A B : Type 0} (f : A → B) (xs ys : List A) → map f (xs ++ ys) ≡ map f xs ++ map f ys
map-append f [] ys = refl
map-append f (x ∷ xs) ys = ap (λ z. f x ∷ z) (map-append f xs ys)

each-map : {A B E : Type 0} (f : B → List E) (g : A → B) (h : A → List E) → ((x : A) → f (g x) ≡ h x) → (xs : List A) → each f (map g xs) ≡ each h xs
each-map f g h same [] = refl
each-map f g h same (x ∷ xs) = ap (λ z. z ++ each f (map g xs)) (same x) ∙ ap (λ z. h x ++ z) (each-map f g h same xs)

-- ---- lists of constants

adds_as : (a b : List ConstantTree) (xs ys : List TextConstant) → xs ≡ ys → Adds a b xs → Adds a b ys
adds_as a b xs ys e h = subst (Adds a b) e h

adds_none : (a : List ConstantTree) → Adds a a []
unfolding Adds
adds_none a = sym (append-nil (map constant_in a))

adds_one : (a b : List ConstantTree) (x : ConstantTree) → b ≡ a ++ (x ∷ []) → Adds a b (constant_in x ∷ [])
unfolding Adds
adds_one a b x e = ap (map constant_in) e ∙ map-append constant_in a (x ∷ [])

adds_both : (a b c : List ConstantTree) (xs ys : List TextConstant) → Adds a b xs → Adds b c ys → Adds a c (xs ++ ys)
unfolding Adds
adds_both a b c xs ys f g = g ∙ ap (λ z. z ++ ys) f ∙ append_assoc (map constant_in a) xs ys

-- ---- loops

unfoldable pub Owes : {A : Type 0} (f : A → List TextConstant) (a : List ConstantTree) → List A → (now : List ConstantTree) → (done : ℕ) → Type 0
Owes f a xs now i = (end : List ConstantTree) → Adds now end (each f (drop i xs)) → Adds a end (each f xs)

pub owes_all : {A : Type 0} (f : A → List TextConstant) (a : List ConstantTree) (xs : List A) → Owes f a xs a 0
unfolding Owes
owes_all f a xs end h = h

pub owes_next : {A : Type 0} (f : A → List TextConstant) (a b c : List ConstantTree) (xs : List A) (i : ℕ) (x : A) → Owes f a xs b i → i < length xs → x ≡ slice_index_or xs i x → Adds b c (f x) → Owes f a xs c (i + 1)
unfolding Owes
owes_next f a b c xs i x owes le is one end rest =
    let from : drop i xs ≡ x ∷ drop (i + 1) xs = drop_more xs i x le ∙ ap (λ y. y ∷ drop (i + 1) xs) (sym is) in
    owes end (adds_as b end (f x ++ each f (drop (i + 1) xs)) (each f (drop i xs)) (ap (each f) (sym from)) (adds_both b c end (f x) (each f (drop (i + 1) xs)) one rest))

-- two parts of one item
pub owes_next_two : (a b m c : List ConstantTree) (xs : List Bounds) (i : ℕ) (x : Bounds) → Owes of_bounds a xs b i → i < length xs → x ≡ slice_index_or xs i x → Adds b m (of_expr x.lower) → Adds m c (of_expr x.upper) → Owes of_bounds a xs c (i + 1)
owes_next_two a b m c xs i x owes le is one two = owes_next of_bounds a b c xs i x owes le is (adds_both b m c (of_expr x.lower) (of_expr x.upper) one two)

pub owes_end : {A : Type 0} (f : A → List TextConstant) (a b : List ConstantTree) (xs : List A) (i : ℕ) → Owes f a xs b i → length xs ≤ i → Adds a b (each f xs)
unfolding Owes
owes_end f a b xs i owes le = owes b (adds_as b b [] (each f (drop i xs)) (ap (each f) (sym (drop_all i xs le))) (adds_none b))

-- ---- expressions

constants_at : (x : Expr) (z : Expression) → syntax_of x ≡ z → expression_constants z ≡ of_expr x
unfolding of_expr
constants_at x z e = ap expression_constants (sym e)

-- the part of a tree that is in a box
boxed : (a b : List ConstantTree) (y z : Expr) → y ≡ z → Adds a b (of_expr y) → Adds a b (expression_constants (syntax_of z))
unfolding of_expr
boxed a b y z e h = subst (λ w. Adds a b (of_expr w)) e h

plainly : (a b : List ConstantTree) (x : Expr) → Adds a b (of_expr x) → Adds a b (expression_constants (syntax_of x))
unfolding of_expr
plainly a b x h = h

in_list : (es : List Expr) → each of_expr es ≡ expressions_constants (expressions (map syntax_of es))
unfolding of_expr
in_list [] = refl
in_list (x ∷ xs) = ap (λ z. of_expr x ++ z) (in_list xs)

in_chain : (left : Expression) (ts : List Tail) → expression_constants (chain left ts) ≡ expression_constants left ++ each (λ t. expression_constants t.operand) ts
in_chain left [] = sym (append-nil (expression_constants left))
in_chain left (t ∷ ts) = in_chain _ ts ∙ append_assoc (expression_constants left) (expression_constants t.operand) (each (λ t. expression_constants t.operand) ts)

in_operands : (op : Operator) (l : List Operand) → each (λ t. expression_constants t.operand) (map (with_operator op) (map operand_syntax l)) ≡ each of_operand l
unfolding of_expr
in_operands op [] = refl
in_operands op (x ∷ xs) = ap (λ z. expression_constants (z op).operand ++ each (λ t. expression_constants t.operand) (map (with_operator op) (map operand_syntax xs))) (v.syntax-operand x.token x.operand) ∙ ap (λ z. of_operand x ++ z) (in_operands op xs)

in_terms : (l : List Term) → each (λ t. expression_constants t.operand) (map term_syntax l) ≡ each of_term l
unfolding of_expr
in_terms [] = refl
in_terms (x ∷ xs) = ap (λ z. expression_constants z.operand ++ each (λ t. expression_constants t.operand) (map term_syntax xs)) (v.syntax-term x.token x.sign x.term) ∙ ap (λ z. of_term x ++ z) (in_terms xs)

in_factors : (l : List Factor) → each (λ t. expression_constants t.operand) (map factor_syntax l) ≡ each of_factor l
unfolding of_expr
in_factors [] = refl
in_factors (x ∷ xs) = ap (λ z. expression_constants z.operand ++ each (λ t. expression_constants t.operand) (map factor_syntax xs)) (v.syntax-factor x.token x.operator x.factor) ∙ ap (λ z. of_factor x ++ z) (in_factors xs)

in_negated : (ts : List TokenNo) (x : Expression) → expression_constants (negated ts x) ≡ expression_constants x
in_negated [] x = refl
in_negated (t ∷ ts) x = in_negated ts x

in_signed : (m : Option LeadingSign) (x : Expression) → expression_constants (signed m x) ≡ expression_constants x
in_signed None x = refl
in_signed (Some k) x = refl

in_selected : (x : Expression) (ys : List Selection) → expression_constants (selected x ys) ≡ expression_constants x ++ each selection_constants ys
in_selected x [] = sym (append-nil (expression_constants x))
in_selected x (Take i y args ∷ ys) = in_selected _ ys ∙ append_assoc (expression_constants x) (expressions_constants args) (each selection_constants ys)
in_selected x (Cast i y ∷ ys) = in_selected _ ys

level : (a b c : List ConstantTree) (op : Operator) (x y : Expr) (p : Box Expr Global) (l : Vec Operand Global) (ts : List Operand) → syntax_of x ≡ chain (syntax_of p.value) (map (with_operator op) (map operand_syntax l.items)) → y ≡ p.value → ts ≡ l.items → Adds a b (of_expr y) → Adds b c (each of_operand ts) → Adds a c (of_expr x)
level a b c op x y p l ts is ey et f g =
    adds_as a c _ _ (sym (in_chain (syntax_of p.value) (map (with_operator op) (map operand_syntax l.items))) ∙ constants_at x _ is)
    (adds_both a b c _ _ (boxed a b y p.value ey f) (adds_as b c _ _ (ap (each of_operand) et ∙ sym (in_operands op l.items)) g))

pub add_OrElse : (a b c : List ConstantTree) (x y : Expr) (p : Box Expr Global) (l : Vec Operand Global) (ts : List Operand) → x ≡ e.OrElse p l → y ≡ p.value → ts ≡ l.items → Adds a b (of_expr y) → Adds b c (each of_operand ts) → Adds a c (of_expr x)
add_OrElse a b c x y p l ts is ey et f g = level a b c o.OrElse x y p l ts (ap syntax_of is ∙ v.syntax-OrElse p l) ey et f g

pub add_AndThen : (a b c : List ConstantTree) (x y : Expr) (p : Box Expr Global) (l : Vec Operand Global) (ts : List Operand) → x ≡ e.AndThen p l → y ≡ p.value → ts ≡ l.items → Adds a b (of_expr y) → Adds b c (each of_operand ts) → Adds a c (of_expr x)
add_AndThen a b c x y p l ts is ey et f g = level a b c o.AndThen x y p l ts (ap syntax_of is ∙ v.syntax-AndThen p l) ey et f g

pub add_Eqv : (a b c : List ConstantTree) (x y : Expr) (p : Box Expr Global) (l : Vec Operand Global) (ts : List Operand) → x ≡ e.Eqv p l → y ≡ p.value → ts ≡ l.items → Adds a b (of_expr y) → Adds b c (each of_operand ts) → Adds a c (of_expr x)
add_Eqv a b c x y p l ts is ey et f g = level a b c o.Equivalent x y p l ts (ap syntax_of is ∙ v.syntax-Eqv p l) ey et f g

pub add_Imp : (a b c : List ConstantTree) (x y : Expr) (p : Box Expr Global) (l : Vec Operand Global) (ts : List Operand) → x ≡ e.Imp p l → y ≡ p.value → ts ≡ l.items → Adds a b (of_expr y) → Adds b c (each of_operand ts) → Adds a c (of_expr x)
add_Imp a b c x y p l ts is ey et f g = level a b c o.Implies x y p l ts (ap syntax_of is ∙ v.syntax-Imp p l) ey et f g

pub add_Or : (a b c : List ConstantTree) (x y : Expr) (p : Box Expr Global) (l : Vec Operand Global) (ts : List Operand) → x ≡ e.Or p l → y ≡ p.value → ts ≡ l.items → Adds a b (of_expr y) → Adds b c (each of_operand ts) → Adds a c (of_expr x)
add_Or a b c x y p l ts is ey et f g = level a b c o.Or x y p l ts (ap syntax_of is ∙ v.syntax-Or p l) ey et f g

pub add_And : (a b c : List ConstantTree) (x y : Expr) (p : Box Expr Global) (l : Vec Operand Global) (ts : List Operand) → x ≡ e.And p l → y ≡ p.value → ts ≡ l.items → Adds a b (of_expr y) → Adds b c (each of_operand ts) → Adds a c (of_expr x)
add_And a b c x y p l ts is ey et f g = level a b c o.And x y p l ts (ap syntax_of is ∙ v.syntax-And p l) ey et f g

pub add_Concatenation : (a b c : List ConstantTree) (x y : Expr) (p : Box Expr Global) (l : Vec Operand Global) (ts : List Operand) → x ≡ e.Concatenation p l → y ≡ p.value → ts ≡ l.items → Adds a b (of_expr y) → Adds b c (each of_operand ts) → Adds a c (of_expr x)
add_Concatenation a b c x y p l ts is ey et f g = level a b c o.Concatenate x y p l ts (ap syntax_of is ∙ v.syntax-Concatenation p l) ey et f g

pub add_Power : (a b c : List ConstantTree) (x y : Expr) (p : Box Expr Global) (l : Vec Operand Global) (ts : List Operand) → x ≡ e.Power p l → y ≡ p.value → ts ≡ l.items → Adds a b (of_expr y) → Adds b c (each of_operand ts) → Adds a c (of_expr x)
add_Power a b c x y p l ts is ey et f g = level a b c o.Power x y p l ts (ap syntax_of is ∙ v.syntax-Power p l) ey et f g

pub add_Integer : (a : List ConstantTree) (x : Expr) (i : TokenNo) (z : ℤ) → x ≡ e.Integer i z → Adds a a (of_expr x)
add_Integer a x i z is = adds_as a a [] _ (constants_at x _ (ap syntax_of is ∙ v.syntax-Integer i z)) (adds_none a)

pub add_Character : (a : List ConstantTree) (x : Expr) (i : TokenNo) (z : ℕ) → x ≡ e.Character i z → Adds a a (of_expr x)
add_Character a x i z is = adds_as a a [] _ (constants_at x _ (ap syntax_of is ∙ v.syntax-Character i z)) (adds_none a)

pub add_True : (a : List ConstantTree) (x : Expr) (i : TokenNo) → x ≡ e.True i → Adds a a (of_expr x)
add_True a x i is = adds_as a a [] _ (constants_at x _ (ap syntax_of is ∙ v.syntax-True i)) (adds_none a)

pub add_False : (a : List ConstantTree) (x : Expr) (i : TokenNo) → x ≡ e.False i → Adds a a (of_expr x)
add_False a x i is = adds_as a a [] _ (constants_at x _ (ap syntax_of is ∙ v.syntax-False i)) (adds_none a)

pub add_NoObject : (a : List ConstantTree) (x : Expr) (i : TokenNo) → x ≡ e.NoObject i → Adds a a (of_expr x)
add_NoObject a x i is = adds_as a a [] _ (constants_at x _ (ap syntax_of is ∙ v.syntax-NoObject i)) (adds_none a)

pub add_Notext : (a : List ConstantTree) (x : Expr) (i : TokenNo) → x ≡ e.Notext i → Adds a a (of_expr x)
add_Notext a x i is = adds_as a a [] _ (constants_at x _ (ap syntax_of is ∙ v.syntax-Notext i)) (adds_none a)

pub add_This : (a : List ConstantTree) (x : Expr) (i : TokenNo) (k : Identifier) → x ≡ e.This i k → Adds a a (of_expr x)
add_This a x i k is = adds_as a a [] _ (constants_at x _ (ap syntax_of is ∙ v.syntax-This i k)) (adds_none a)

pub add_Text : (a b : List ConstantTree) (x : Expr) (i : TokenNo) (z : Bor (List ℕ)) → x ≡ e.Text i z.now → b ≡ a ++ (record { token = i; value = z } ∷ []) → Adds a b (of_expr x)
add_Text a b x i z is one = adds_as a b _ _ (constants_at x _ (ap syntax_of is ∙ v.syntax-Text i z.now)) (adds_one a b (record { token = i; value = z }) one)

pub add_If : (a b c m : List ConstantTree) (x y z u : Expr) (i : TokenNo) (p q r : Box Expr Global) → x ≡ e.If i p q r → y ≡ p.value → z ≡ q.value → u ≡ r.value → Adds a b (of_expr y) → Adds b c (of_expr z) → Adds c m (of_expr u) → Adds a m (of_expr x)
add_If a b c m x y z u i p q r is ey ez eu f g h =
    adds_as a m _ _ (constants_at x _ (ap syntax_of is ∙ v.syntax-If i p q r))
    (adds_both a b m _ _ (boxed a b y p.value ey f) (adds_both b c m _ _ (boxed b c z q.value ez g) (boxed c m u r.value eu h)))

pub add_Not : (a b : List ConstantTree) (x y : Expr) (l : Vec TokenNo Global) (p : Box Expr Global) → x ≡ e.Not l p → y ≡ p.value → Adds a b (of_expr y) → Adds a b (of_expr x)
add_Not a b x y l p is ey f = adds_as a b _ _ (sym (in_negated l.items (syntax_of p.value)) ∙ constants_at x _ (ap syntax_of is ∙ v.syntax-Not l p)) (boxed a b y p.value ey f)

pub add_Related : (a b c : List ConstantTree) (x y z : Expr) (p q : Box Expr Global) (i : TokenNo) (r : Relation) → x ≡ e.Related p i r q → y ≡ p.value → z ≡ q.value → Adds a b (of_expr y) → Adds b c (of_expr z) → Adds a c (of_expr x)
add_Related a b c x y z p q i r is ey ez f g =
    adds_as a c _ _ (constants_at x _ (ap syntax_of is ∙ v.syntax-Related p i r q)) (adds_both a b c _ _ (boxed a b y p.value ey f) (boxed b c z q.value ez g))

pub add_Member : (a b : List ConstantTree) (x y : Expr) (p : Box Expr Global) (i : TokenNo) (r : Membership) (k : Identifier) → x ≡ e.Member p i r k → y ≡ p.value → Adds a b (of_expr y) → Adds a b (of_expr x)
add_Member a b x y p i r k is ey f = adds_as a b _ _ (constants_at x _ (ap syntax_of is ∙ v.syntax-Member p i r k)) (boxed a b y p.value ey f)

pub add_Sum : (a b c : List ConstantTree) (x y : Expr) (m : Option LeadingSign) (p : Box Expr Global) (l : Vec Term Global) (ts : List Term) → x ≡ e.Sum m p l → y ≡ p.value → ts ≡ l.items → Adds a b (of_expr y) → Adds b c (each of_term ts) → Adds a c (of_expr x)
add_Sum a b c x y m p l ts is ey et f g =
    adds_as a c _ _ (sym (in_chain (signed m (syntax_of p.value)) (map term_syntax l.items)) ∙ constants_at x _ (ap syntax_of is ∙ v.syntax-Sum m p l))
    (adds_both a b c _ _ (adds_as a b _ _ (sym (in_signed m (syntax_of p.value))) (boxed a b y p.value ey f)) (adds_as b c _ _ (ap (each of_term) et ∙ sym (in_terms l.items)) g))

pub add_Product : (a b c : List ConstantTree) (x y : Expr) (p : Box Expr Global) (l : Vec Factor Global) (ts : List Factor) → x ≡ e.Product p l → y ≡ p.value → ts ≡ l.items → Adds a b (of_expr y) → Adds b c (each of_factor ts) → Adds a c (of_expr x)
add_Product a b c x y p l ts is ey et f g =
    adds_as a c _ _ (sym (in_chain (syntax_of p.value) (map factor_syntax l.items)) ∙ constants_at x _ (ap syntax_of is ∙ v.syntax-Product p l))
    (adds_both a b c _ _ (boxed a b y p.value ey f) (adds_as b c _ _ (ap (each of_factor) et ∙ sym (in_factors l.items)) g))

in_selectors : (l : List Selector) → each selection_constants (map selector_syntax l) ≡ each of_selector l
unfolding of_selector
in_selectors l = each-map selection_constants selector_syntax of_selector (λ x. refl) l

pub add_Postfix : (a b c : List ConstantTree) (x y : Expr) (p : Box Expr Global) (l : Vec Selector Global) (ts : List Selector) → x ≡ e.Postfix p l → y ≡ p.value → ts ≡ l.items → Adds a b (of_expr y) → Adds b c (each of_selector ts) → Adds a c (of_expr x)
add_Postfix a b c x y p l ts is ey et f g =
    adds_as a c _ _ (sym (in_selected (syntax_of p.value) (map selector_syntax l.items)) ∙ constants_at x _ (ap syntax_of is ∙ v.syntax-Postfix p l))
    (adds_both a b c _ _ (boxed a b y p.value ey f) (adds_as b c _ _ (ap (each of_selector) et ∙ sym (in_selectors l.items)) g))

pub add_Named : (a b : List ConstantTree) (x : Expr) (k : Identifier) (l : Vec Expr Global) (ts : List Expr) → x ≡ e.Named k l → ts ≡ l.items → Adds a b (each of_expr ts) → Adds a b (of_expr x)
add_Named a b x k l ts is et f = adds_as a b _ _ (ap (each of_expr) et ∙ in_list l.items ∙ constants_at x _ (ap syntax_of is ∙ v.syntax-Named k l)) f

pub add_New : (a b : List ConstantTree) (x : Expr) (i : TokenNo) (k : Identifier) (l : Vec Expr Global) (ts : List Expr) → x ≡ e.New i k l → ts ≡ l.items → Adds a b (each of_expr ts) → Adds a b (of_expr x)
add_New a b x i k l ts is et f = adds_as a b _ _ (ap (each of_expr) et ∙ in_list l.items ∙ constants_at x _ (ap syntax_of is ∙ v.syntax-New i k l)) f

pub add_Parentheses : (a b : List ConstantTree) (x y : Expr) (i : TokenNo) (p : Box Expr Global) → x ≡ e.Parentheses i p → y ≡ p.value → Adds a b (of_expr y) → Adds a b (of_expr x)
add_Parentheses a b x y i p is ey f = adds_as a b _ _ (constants_at x _ (ap syntax_of is ∙ v.syntax-Parentheses i p)) (boxed a b y p.value ey f)

selector-Dot : (i : TokenNo) (y : Identifier) (l : Vec Expr Global) → selector_syntax (w.Dot i y l) ≡ Take i.0 y (expressions (map syntax_of l.items))
unfolding selector_syntax syntax_of operand_syntax term_syntax factor_syntax
selector-Dot i y l = ap selector_syntax (sym (w.rolls-Dot i y l)) ∙ fold-roll-Selector Expression Selection Tail (Operator → Tail) Tail expr_layer selector_layer factor_layer operand_layer term_layer (Selector-F.Dot i y l)

selector-Qua : (i : TokenNo) (y : Identifier) → selector_syntax (w.Qua i y) ≡ Cast i.0 y
unfolding selector_syntax
selector-Qua i y = ap selector_syntax (sym (w.rolls-Qua i y)) ∙ fold-roll-Selector Expression Selection Tail (Operator → Tail) Tail expr_layer selector_layer factor_layer operand_layer term_layer (Selector-F.Qua i y)

pub add_Dot : (a b : List ConstantTree) (x : Selector) (i : TokenNo) (k : Identifier) (l : Vec Expr Global) (ts : List Expr) → x ≡ w.Dot i k l → ts ≡ l.items → Adds a b (each of_expr ts) → Adds a b (of_selector x)
unfolding of_selector
add_Dot a b x i k l ts is et f = adds_as a b _ _ (ap (each of_expr) et ∙ in_list l.items ∙ sym (ap (λ z. selection_constants (selector_syntax z)) is ∙ ap selection_constants (selector-Dot i k l))) f

pub add_Qua : (a : List ConstantTree) (x : Selector) (i : TokenNo) (k : Identifier) → x ≡ w.Qua i k → Adds a a (of_selector x)
unfolding of_selector
add_Qua a x i k is = adds_as a a [] _ (sym (ap (λ z. selection_constants (selector_syntax z)) is ∙ ap selection_constants (selector-Qua i k))) (adds_none a)

-- ---- parts of statements and declarations

in_right : (l : List Assigned) → each of_assigned l ≡ right_constants (map right_side_syntax l)
unfolding of_expr
in_right [] = refl
in_right (x ∷ xs) = ap (λ z. of_expr x.value ++ z) (in_right xs)

in_elements : (l : List ForElement) → each of_element l ≡ elements_constants (map element_syntax l)
unfolding of_element
in_elements [] = refl
in_elements (x ∷ xs) = ap (λ z. of_element x ++ z) (in_elements xs)

in_reference_elements : (l : List ReferenceElement) → each of_reference_element l ≡ elements_constants (map reference_element_syntax l)
unfolding of_reference_element
in_reference_elements [] = refl
in_reference_elements (x ∷ xs) = ap (λ z. of_reference_element x ++ z) (in_reference_elements xs)

in_variables : (l : List Variable) → each of_variable l ≡ variables_constants l
unfolding of_variable
in_variables [] = refl
in_variables (x ∷ xs) = ap (λ z. of_variable x ++ z) (in_variables xs)

in_bounds : (l : List Bounds) → each of_bounds l ≡ bounds_constants (map bound_pair_syntax l)
unfolding of_expr
in_bounds [] = refl
in_bounds (x ∷ xs) = ap (λ z. of_bounds x ++ z) (in_bounds xs)

in_segments : (l : List ArraySegment) → each of_segment l ≡ segments_constants (map segment_syntax l)
in_segments [] = refl
in_segments (x ∷ xs) = ap (λ z. z ++ each of_segment xs) (in_bounds x.bounds.items) ∙ ap (λ z. bounds_constants (map bound_pair_syntax x.bounds.items) ++ z) (in_segments xs)

pub add_value : (a b : List ConstantTree) (x : ForElement) (y : Expr) → x ≡ for_element.Value y → Adds a b (of_expr y) → Adds a b (of_element x)
unfolding of_element of_expr
add_value a b x y is f = adds_as a b _ _ (sym (ap (λ z. element_constants (element_syntax z)) is)) f

pub add_step : (a b c m : List ConstantTree) (x : ForElement) (i : TokenNo) (y z u : Expr) → x ≡ for_element.Step y i z u → Adds a b (of_expr y) → Adds b c (of_expr z) → Adds c m (of_expr u) → Adds a m (of_element x)
unfolding of_element of_expr
add_step a b c m x i y z u is f g h = adds_as a m _ _ (sym (ap (λ k. element_constants (element_syntax k)) is)) (adds_both a b m _ _ f (adds_both b c m _ _ g h))

pub add_while_element : (a b c : List ConstantTree) (x : ForElement) (i : TokenNo) (y z : Expr) → x ≡ for_element.While y i z → Adds a b (of_expr y) → Adds b c (of_expr z) → Adds a c (of_element x)
unfolding of_element of_expr
add_while_element a b c x i y z is f g = adds_as a c _ _ (sym (ap (λ k. element_constants (element_syntax k)) is)) (adds_both a b c _ _ f g)

pub add_reference_value : (a b : List ConstantTree) (x : ReferenceElement) (y : Expr) → x ≡ reference_element.Value y → Adds a b (of_expr y) → Adds a b (of_reference_element x)
unfolding of_reference_element of_expr
add_reference_value a b x y is f = adds_as a b _ _ (sym (ap (λ z. element_constants (reference_element_syntax z)) is)) f

pub add_reference_while : (a b c : List ConstantTree) (x : ReferenceElement) (i : TokenNo) (y z : Expr) → x ≡ reference_element.While y i z → Adds a b (of_expr y) → Adds b c (of_expr z) → Adds a c (of_reference_element x)
unfolding of_reference_element of_expr
add_reference_while a b c x i y z is f g = adds_as a c _ _ (sym (ap (λ k. element_constants (reference_element_syntax k)) is)) (adds_both a b c _ _ f g)

pub add_no_timing : (a : List ConstantTree) (x : Option Timing) → x ≡ None → Adds a a (of_timing x)
unfolding of_timing
add_no_timing a x is = adds_as a a [] _ (sym (ap (λ z. schedule_constants (schedule_syntax z)) is)) (adds_none a)

pub add_at : (a b : List ConstantTree) (x : Option Timing) (i : TokenNo) (y : Expr) (o : Option TokenNo) → x ≡ Some (timing.At i y o) → Adds a b (of_expr y) → Adds a b (of_timing x)
unfolding of_timing of_expr
add_at a b x i y o is f = adds_as a b _ _ (sym (ap (λ z. schedule_constants (schedule_syntax z)) is)) f

pub add_delay : (a b : List ConstantTree) (x : Option Timing) (i : TokenNo) (y : Expr) (o : Option TokenNo) → x ≡ Some (timing.Delay i y o) → Adds a b (of_expr y) → Adds a b (of_timing x)
unfolding of_timing of_expr
add_delay a b x i y o is f = adds_as a b _ _ (sym (ap (λ z. schedule_constants (schedule_syntax z)) is)) f

pub add_before : (a b : List ConstantTree) (x : Option Timing) (i : TokenNo) (y : Expr) → x ≡ Some (timing.Before i y) → Adds a b (of_expr y) → Adds a b (of_timing x)
unfolding of_timing of_expr
add_before a b x i y is f = adds_as a b _ _ (sym (ap (λ z. schedule_constants (schedule_syntax z)) is)) f

pub add_after : (a b : List ConstantTree) (x : Option Timing) (i : TokenNo) (y : Expr) → x ≡ Some (timing.After i y) → Adds a b (of_expr y) → Adds a b (of_timing x)
unfolding of_timing of_expr
add_after a b x i y is f = adds_as a b _ _ (sym (ap (λ z. schedule_constants (schedule_syntax z)) is)) f

pub add_text_constant : (a b : List ConstantTree) (x : Variable) (i : TokenNo) (z : Bor (List ℕ)) → x.value ≡ Some (constant.Text i z.now) → b ≡ a ++ (record { token = i; value = z } ∷ []) → Adds a b (of_variable x)
unfolding of_variable
add_text_constant a b x i z is one = adds_as a b _ _ (sym (ap value_constants is)) (adds_one a b (record { token = i; value = z }) one)

pub add_no_constant : (a : List ConstantTree) (x : Variable) → x.value ≡ None → Adds a a (of_variable x)
unfolding of_variable
add_no_constant a x is = adds_as a a [] _ (sym (ap value_constants is)) (adds_none a)

pub add_integer_constant : (a : List ConstantTree) (x : Variable) (m : Option LeadingSign) (i : TokenNo) (z : ℤ) → x.value ≡ Some (constant.Integer m i z) → Adds a a (of_variable x)
unfolding of_variable
add_integer_constant a x m i z is = adds_as a a [] _ (sym (ap value_constants is)) (adds_none a)

pub add_character_constant : (a : List ConstantTree) (x : Variable) (i : TokenNo) (z : ℕ) → x.value ≡ Some (constant.Character i z) → Adds a a (of_variable x)
unfolding of_variable
add_character_constant a x i z is = adds_as a a [] _ (sym (ap value_constants is)) (adds_none a)

pub add_true_constant : (a : List ConstantTree) (x : Variable) (i : TokenNo) → x.value ≡ Some (constant.True i) → Adds a a (of_variable x)
unfolding of_variable
add_true_constant a x i is = adds_as a a [] _ (sym (ap value_constants is)) (adds_none a)

pub add_false_constant : (a : List ConstantTree) (x : Variable) (i : TokenNo) → x.value ≡ Some (constant.False i) → Adds a a (of_variable x)
unfolding of_variable
add_false_constant a x i is = adds_as a a [] _ (sym (ap value_constants is)) (adds_none a)

-- ---- statements

statement_at : (x : Stmt) (z : Statement) → statement_syntax x ≡ z → statement_constants z ≡ of_statement x
unfolding of_statement
statement_at x z e = ap statement_constants (sym e)

body : (a b : List ConstantTree) (y z : Stmt) → y ≡ z → Adds a b (of_statement y) → Adds a b (statement_constants (statement_syntax z))
unfolding of_statement
body a b y z e h = subst (λ w. Adds a b (of_statement w)) e h

branched : (a b : List ConstantTree) (o : Option (Box Stmt Global)) → Adds a b (of_branch o) → Adds a b (statements_constants (branch_syntax o))
unfolding of_branch
branched a b o h = h

blocked : (a b : List ConstantTree) (k : Block) → Adds a b (of_block k) → Adds a b (block_constants (block_syntax k))
unfolding of_block
blocked a b k h = h

pub add_empty : (a : List ConstantTree) (x : Stmt) (i : TokenNo) → x ≡ s.Empty i → Adds a a (of_statement x)
add_empty a x i is = adds_as a a [] _ (statement_at x _ (ap statement_syntax is ∙ t.syntax-Empty i)) (adds_none a)

pub add_inner : (a : List ConstantTree) (x : Stmt) (i : TokenNo) → x ≡ s.Inner i → Adds a a (of_statement x)
add_inner a x i is = adds_as a a [] _ (statement_at x _ (ap statement_syntax is ∙ t.syntax-Inner i)) (adds_none a)

pub add_compound : (a b : List ConstantTree) (x : Stmt) (k : Block) → x ≡ s.Block k → Adds a b (of_block k) → Adds a b (of_statement x)
add_compound a b x k is h = adds_as a b _ _ (statement_at x _ (ap statement_syntax is ∙ t.syntax-Block k)) (blocked a b k h)

pub add_prefixed : (a b c : List ConstantTree) (x : Stmt) (p : BlockPrefix) (k : Block) (es : List Expr) → x ≡ s.PrefixedBlock p k → es ≡ p.arguments.items → Adds a b (each of_expr es) → Adds b c (of_block k) → Adds a c (of_statement x)
add_prefixed a b c x p k es is ee f h =
    adds_as a c _ _ (statement_at x _ (ap statement_syntax is ∙ t.syntax-PrefixedBlock p k))
    (adds_both a b c _ _ (adds_as a b _ _ (ap (each of_expr) ee ∙ in_list p.arguments.items) f) (blocked b c k h))

pub add_call : (a b : List ConstantTree) (x : Stmt) (y : Expr) → x ≡ s.Call y → Adds a b (of_expr y) → Adds a b (of_statement x)
add_call a b x y is f = adds_as a b _ _ (statement_at x _ (ap statement_syntax is ∙ t.syntax-Call y)) (plainly a b y f)

pub add_assignment : (a b c : List ConstantTree) (x : Stmt) (y : Expr) (l : Vec Assigned Global) (rs : List Assigned) → x ≡ s.Assignment y l → rs ≡ l.items → Adds a b (of_expr y) → Adds b c (each of_assigned rs) → Adds a c (of_statement x)
add_assignment a b c x y l rs is er f g =
    adds_as a c _ _ (statement_at x _ (ap statement_syntax is ∙ t.syntax-Assignment y l))
    (adds_both a b c _ _ (plainly a b y f) (adds_as b c _ _ (ap (each of_assigned) er ∙ in_right l.items) g))

pub add_choose : (a b c m : List ConstantTree) (x z : Stmt) (i : TokenNo) (y : Expr) (q : Box Stmt Global) (o : Option (Box Stmt Global)) → x ≡ s.If i y q o → z ≡ q.value → Adds a b (of_expr y) → Adds b c (of_statement z) → Adds c m (of_branch o) → Adds a m (of_statement x)
add_choose a b c m x z i y q o is ez f g h =
    adds_as a m _ _ (statement_at x _ (ap statement_syntax is ∙ t.syntax-If i y q o))
    (adds_both a b m _ _ (plainly a b y f) (adds_both b c m _ _ (body b c z q.value ez g) (branched c m o h)))

pub add_while : (a b c : List ConstantTree) (x z : Stmt) (i : TokenNo) (y : Expr) (q : Box Stmt Global) → x ≡ s.While i y q → z ≡ q.value → Adds a b (of_expr y) → Adds b c (of_statement z) → Adds a c (of_statement x)
add_while a b c x z i y q is ez f g =
    adds_as a c _ _ (statement_at x _ (ap statement_syntax is ∙ t.syntax-While i y q)) (adds_both a b c _ _ (plainly a b y f) (body b c z q.value ez g))

pub add_for : (a b c : List ConstantTree) (x z : Stmt) (i : TokenNo) (k : Identifier) (n : TokenNo) (l : Vec ForElement Global) (es : List ForElement) (q : Box Stmt Global) → x ≡ s.For i k n l q → es ≡ l.items → z ≡ q.value → Adds a b (each of_element es) → Adds b c (of_statement z) → Adds a c (of_statement x)
add_for a b c x z i k n l es q is ee ez f g =
    adds_as a c _ _ (statement_at x _ (ap statement_syntax is ∙ t.syntax-For i k n l q))
    (adds_both a b c _ _ (adds_as a b _ _ (ap (each of_element) ee ∙ in_elements l.items) f) (body b c z q.value ez g))

pub add_for_reference : (a b c : List ConstantTree) (x z : Stmt) (i : TokenNo) (k : Identifier) (n : TokenNo) (l : Vec ReferenceElement Global) (es : List ReferenceElement) (q : Box Stmt Global) → x ≡ s.ForReference i k n l q → es ≡ l.items → z ≡ q.value → Adds a b (each of_reference_element es) → Adds b c (of_statement z) → Adds a c (of_statement x)
add_for_reference a b c x z i k n l es q is ee ez f g =
    adds_as a c _ _ (statement_at x _ (ap statement_syntax is ∙ t.syntax-ForReference i k n l q))
    (adds_both a b c _ _ (adds_as a b _ _ (ap (each of_reference_element) ee ∙ in_reference_elements l.items) f) (body b c z q.value ez g))

pub add_inspect : (a b c m : List ConstantTree) (x z : Stmt) (i : TokenNo) (y : Expr) (j : TokenNo) (q : Box Stmt Global) (k : TokenNo) (o : Option (Box Stmt Global)) → x ≡ s.Inspect i y j q k o → z ≡ q.value → Adds a b (of_expr y) → Adds b c (of_statement z) → Adds c m (of_branch o) → Adds a m (of_statement x)
add_inspect a b c m x z i y j q k o is ez f g h =
    adds_as a m _ _ (statement_at x _ (ap statement_syntax is ∙ t.syntax-Inspect i y j q k o))
    (adds_both a b m _ _ (plainly a b y f) (adds_both b c m _ _ (body b c z q.value ez g) (branched c m o h)))

in_arms : (l : List When) → each of_arm l ≡ arms_constants (arms (map arm_syntax l))
unfolding of_arm
in_arms [] = refl
in_arms (w ∷ ws) = ap (λ z. of_arm w ++ z) (in_arms ws)

pub add_inspect_when : (a b c m : List ConstantTree) (x : Stmt) (i : TokenNo) (y : Expr) (l : Vec When Global) (ws : List When) (o : Option (Box Stmt Global)) → x ≡ s.InspectWhen i y l o → ws ≡ l.items → Adds a b (of_expr y) → Adds b c (each of_arm ws) → Adds c m (of_branch o) → Adds a m (of_statement x)
add_inspect_when a b c m x i y l ws o is ew f g h =
    adds_as a m _ _ (statement_at x _ (ap statement_syntax is ∙ t.syntax-InspectWhen i y l o))
    (adds_both a b m _ _ (plainly a b y f) (adds_both b c m _ _ (adds_as b c _ _ (ap (each of_arm) ew ∙ in_arms l.items) g) (branched c m o h)))

timed : (a b : List ConstantTree) (o : Option Timing) → Adds a b (of_timing o) → Adds a b (schedule_constants (schedule_syntax o))
unfolding of_timing
timed a b o h = h

pub add_activation : (a b c : List ConstantTree) (x : Stmt) (i : TokenNo) (k : Activation) (y : Expr) (o : Option Timing) → x ≡ s.Activation i k y o → Adds a b (of_expr y) → Adds b c (of_timing o) → Adds a c (of_statement x)
add_activation a b c x i k y o is f g =
    adds_as a c _ _ (statement_at x _ (ap statement_syntax is ∙ t.syntax-Activation i k y o)) (adds_both a b c _ _ (plainly a b y f) (timed b c o g))

pub add_some : (a b : List ConstantTree) (o : Option (Box Stmt Global)) (q : Box Stmt Global) (y : Stmt) → o ≡ Some q → y ≡ q.value → Adds a b (of_statement y) → Adds a b (of_branch o)
unfolding of_branch
add_some a b o q y is same h = adds_as a b (statement_constants (statement_syntax q.value)) (of_branch o) (sym (ap (λ z. statements_constants (branch_syntax z)) is ∙ append-nil (statement_constants (statement_syntax q.value)))) (body a b y q.value same h)

pub add_no_branch : (a : List ConstantTree) (o : Option (Box Stmt Global)) → o ≡ None → Adds a a (of_branch o)
unfolding of_branch
add_no_branch a o is = adds_as a a [] (of_branch o) (sym (ap (λ z. statements_constants (branch_syntax z)) is)) (adds_none a)

in_arm : (w : When) → of_statement w.body ≡ of_arm w
unfolding of_arm of_statement
in_arm w = ap (λ z. statement_constants z.body) (sym (t.syntax-when w.token w.class w.opening w.body w.end))

pub owes_next_arm : (a b c : List ConstantTree) (xs : List When) (i : ℕ) (x : When) → Owes of_arm a xs b i → i < length xs → x ≡ slice_index_or xs i x → Adds b c (of_statement x.body) → Owes of_arm a xs c (i + 1)
owes_next_arm a b c xs i x owes le is one = owes_next of_arm a b c xs i x owes le is (adds_as b c _ _ (in_arm x) one)

-- ---- blocks and declarations

in_statements : (l : List Stmt) → each of_statement l ≡ statements_constants (statements (map statement_syntax l))
unfolding of_statement
in_statements [] = refl
in_statements (x ∷ xs) = ap (λ z. of_statement x ++ z) (in_statements xs)

in_declarations : (l : List Decl) → each of_declaration l ≡ declarations_constants (declarations (map declaration_syntax l))
unfolding of_declaration
in_declarations [] = refl
in_declarations (x ∷ xs) = ap (λ z. of_declaration x ++ z) (in_declarations xs)

pub add_block : (a b c : List ConstantTree) (k : Block) (ds : List Decl) (l : List Stmt) → ds ≡ k.declarations.items → Adds a b (each of_declaration ds) → l ≡ k.statements.items → Adds b c (each of_statement l) → Adds a c (of_block k)
unfolding of_block
add_block a b c k ds l there f same g =
    adds_as a c _ _ (sym (ap block_constants (t.syntax-block k.token k.declarations k.statements k.end)))
    (adds_both a b c _ _ (adds_as a b _ _ (ap (each of_declaration) there ∙ in_declarations k.declarations.items) f) (adds_as b c _ _ (ap (each of_statement) same ∙ in_statements k.statements.items) g))

declaration_at : (x : Decl) (z : Declaration) → declaration_syntax x ≡ z → declaration_constants z ≡ of_declaration x
unfolding of_declaration
declaration_at x z e = ap declaration_constants (sym e)

pub add_variables : (a b : List ConstantTree) (x : Decl) (n : TypeName) (l : Vec Variable Global) (vs : List Variable) → x ≡ d.Variables n l → vs ≡ l.items → Adds a b (each of_variable vs) → Adds a b (of_declaration x)
add_variables a b x n l vs is ev f = adds_as a b _ _ (ap (each of_variable) ev ∙ in_variables l.items ∙ declaration_at x _ (ap declaration_syntax is ∙ t.syntax-Variables n l)) f

pub add_arrays : (a b : List ConstantTree) (x : Decl) (n : TypeName) (i : TokenNo) (l : Vec ArraySegment Global) (ss : List ArraySegment) → x ≡ d.Arrays n i l → ss ≡ l.items → Adds a b (each of_segment ss) → Adds a b (of_declaration x)
add_arrays a b x n i l ss is es f = adds_as a b _ _ (ap (each of_segment) es ∙ in_segments l.items ∙ declaration_at x _ (ap declaration_syntax is ∙ t.syntax-Arrays n i l)) f

pub add_procedure : (a b : List ConstantTree) (x : Decl) (r : Option TypeName) (i : TokenNo) (q : Procedure) (y : Stmt) → x ≡ d.Procedure r i q → y ≡ q.body.value → Adds a b (of_statement y) → Adds a b (of_declaration x)
add_procedure a b x r i q y is same f =
    adds_as a b _ _ (declaration_at x _ (ap declaration_syntax is ∙ t.syntax-Procedure r i q ∙ t.syntax-procedure q.name q.parameters q.modes q.specifications q.body q.end r i.0)) (body a b y q.body.value same f)

pub add_class : (a b : List ConstantTree) (x : Decl) (r : Option Identifier) (i : TokenNo) (q : Class) (y : Stmt) → x ≡ d.Class r i q → y ≡ q.body.value → Adds a b (of_statement y) → Adds a b (of_declaration x)
add_class a b x r i q y is same f =
    adds_as a b _ _ (declaration_at x _ (ap declaration_syntax is ∙ t.syntax-Class r i q ∙ t.syntax-class q.name q.parameters q.modes q.specifications q.protections q.virtuals q.body q.end r i.0)) (body a b y q.body.value same f)

-- ---- programs

from_none : (a b : List ConstantTree) (xs : List TextConstant) → a ≡ [] → Adds a b xs → map constant_in b ≡ xs
unfolding Adds
from_none a b xs none h = h ∙ ap (λ z. map constant_in z ++ xs) none

pub add_program : (a b : List ConstantTree) (p : Program) (k : Block) → p.prefix ≡ None → k ≡ p.block → a ≡ [] → Adds a b (of_block k) → AreConstants p b
unfolding AreConstants program_syntax of_block
add_program a b p k none same empty f =
    from_none a b _ empty f ∙ ap (λ z. block_constants (block_syntax z)) same ∙ sym (ap (λ z. prefix_constants (option_map prefix_syntax z) ++ block_constants (block_syntax p.block)) none)

pub add_prefixed_program : (a b c : List ConstantTree) (p : Program) (x : BlockPrefix) (k : Block) (es : List Expr) → p.prefix ≡ Some x → k ≡ p.block → es ≡ x.arguments.items → a ≡ [] → Adds a b (each of_expr es) → Adds b c (of_block k) → AreConstants p c
unfolding AreConstants program_syntax of_block
add_prefixed_program a b c p x k es some same ee empty f g =
    from_none a c _ empty (adds_both a b c _ _ (adds_as a b _ _ (ap (each of_expr) ee ∙ in_list x.arguments.items) f) g)
    ∙ ap (λ z. expressions_constants (expressions (map syntax_of x.arguments.items)) ++ block_constants (block_syntax z)) same
    ∙ sym (ap (λ z. prefix_constants (option_map prefix_syntax z) ++ block_constants (block_syntax p.block)) some)

pub ruleset expression_rules = (owes_all, owes_next, owes_end, add_OrElse, add_AndThen, add_Eqv, add_Imp, add_Or, add_And, add_Concatenation, add_Power, add_Integer, add_Character, add_True, add_False, add_NoObject, add_Notext, add_This, add_Text, add_If, add_Not, add_Related, add_Member, add_Sum, add_Product, add_Postfix, add_Named, add_New, add_Parentheses, add_Dot, add_Qua)

pub ruleset part_rules = (owes_all, owes_next, owes_end, owes_next_two, add_value, add_step, add_while_element, add_reference_value, add_reference_while, add_no_timing, add_at, add_delay, add_before, add_after, add_text_constant, add_no_constant, add_integer_constant, add_character_constant, add_true_constant, add_false_constant)

pub ruleset statement_rules = (owes_all, owes_next, owes_end, owes_next_arm, add_empty, add_inner, add_compound, add_prefixed, add_call, add_assignment, add_choose, add_while, add_for, add_for_reference, add_inspect, add_inspect_when, add_activation, add_some, add_no_branch, add_block, add_variables, add_arrays, add_procedure, add_class)

pub ruleset program_rules = (add_program, add_prefixed_program)

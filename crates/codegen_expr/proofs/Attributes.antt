-- What stands before a dot, and what behind it.
use Rattle.std.proofs.Common.{◌≡◌, ◌≢◌, ◌<◌, ◌≤◌, ◌-◌, ℕ, zero, suc, Bool, true, false, List, [], ◌∷◌, length, map, drop, Bor, Option, Some, None, refl, sym, ap, ◌∙◌, subst, arith}
use Rattle.std.specs.Prelude.{slice_index_or}
use Rattle.std.specs.declared.alloc.Global.{Global}
use Rattle.std.specs.declared.vec.Vec.{Vec}
use Rattle.sim_base.specs.declared.numbering.TokenNo.{TokenNo}
use Rattle.sim_scope.specs.declared.bound.Bound.{Bound}
use Rattle.sim_scope.specs.declared.scopes.Denotation.{Denotation}
use Rattle.sim_scope.specs.Source.{Source, denoted, source_of}
use Rattle.sim_tree.specs.declared.expr.Expr.{Expr}
use Rattle.sim_tree.specs.declared.expr.Expr.TheOpen.{Selector-F}
use Rattle.sim_tree.specs.declared.expr.Expr.TheFolds.{fold-roll-Selector}
use Rattle.sim_tree.specs.declared.expr.Identifier.{Identifier}
use Rattle.sim_tree.specs.declared.expr.Selector.{Selector}
use Rattle.sim_tree.specs.declared.expr.Selector.TheVariants as w
use Rattle.sim_tree.specs.declared.operator.Operator.{Operator}
use Rattle.sim_tree.specs.Syntax.{Constant, Binary, Dot, Expression, Expressions, If, Member, Named, New, Not, Parentheses, Qua, Signed, This, expressions}
use Rattle.sim_tree.specs.SyntaxOf.{Cast, Selection, Tail, Take, expr_layer, factor_layer, factor_syntax, operand_layer, operand_syntax, selected, selector_layer, selector_syntax, syntax_of, term_layer, term_syntax}
use Rattle.sim_meaning.specs.Closing.{has_operands, is_attribute, is_attribute_denoted, is_image_behind, is_image_denoted, is_variable, is_variable_denoted, stream_denoted, stream_of, typed_token}
use Rattle.codegen_expr.specs.declared.forms.Form.{Form}
use Rattle.codegen_expr.specs.declared.forms.Form.TheVariants as form
use Rattle.codegen_expr.specs.Emit.{moves_denoted, moves_next, moves_selection, takes_attribute, takes_image}
use Rattle.codegen_expr.specs.Forms.{FindsForm, FormIs, IsNew, IsOther}

pub selector-Dot : (i : TokenNo) (y : Identifier) (l : Vec Expr Global) → selector_syntax (w.Dot i y l) ≡ Take i.0 y (expressions (map syntax_of l.items))
unfolding selector_syntax syntax_of operand_syntax term_syntax factor_syntax
selector-Dot i y l = ap selector_syntax (sym (w.rolls-Dot i y l)) ∙ fold-roll-Selector Expression Selection Tail (Operator → Tail) Tail expr_layer selector_layer factor_layer operand_layer term_layer (Selector-F.Dot i y l)

pub selector-Qua : (i : TokenNo) (y : Identifier) → selector_syntax (w.Qua i y) ≡ Cast i.0 y
unfolding selector_syntax
selector-Qua i y = ap selector_syntax (sym (w.rolls-Qua i y)) ∙ fold-roll-Selector Expression Selection Tail (Operator → Tail) Tail expr_layer selector_layer factor_layer operand_layer term_layer (Selector-F.Qua i y)

pub form_at : (f g : Form) (x : Expr) → FindsForm f x → f ≡ g → FormIs g (syntax_of x)
unfolding FindsForm
form_at f g x h is = subst (λ z. FormIs z (syntax_of x)) is h

-- ---- streams

stream_other : (s : Source) (x : Expression) → IsOther x → None ≡ stream_of s x
unfolding stream_of
stream_other s (If i c a b) h = refl
stream_other s (Binary op i a b) h = refl
stream_other s (Not i a) h = refl
stream_other s (Signed k i a) h = refl
stream_other s (Member m i a k) h = refl
stream_other s (Dot i a k args) h = refl
stream_other s (Qua i a k) h = refl
stream_other s (Constant l i) h = refl
stream_other s (Named k args) h = absurd h
stream_other s (This i k) h = refl
stream_other s (New i k args) h = absurd h
stream_other s (Parentheses i a) h = refl

pub stream_selected : (s : Source) (x : Expression) (y : Selection) (ys : List Selection) → None ≡ stream_of s (selected x (y ∷ ys))
unfolding stream_of
stream_selected s x (Take i k args) [] = refl
stream_selected s x (Cast i k) [] = refl
stream_selected s x (Take i k args) (z ∷ zs) = stream_selected s (Dot i x k args) z zs
stream_selected s x (Cast i k) (z ∷ zs) = stream_selected s (Qua i x k) z zs

pub stream_named_form : (b : Bound) (x : Expr) (f : Form) (k : Bor Identifier) (l : Bor (List Expr)) (o : Option ℕ) (u : Option Denotation) → FindsForm f x → f ≡ form.Named k l → u ≡ denoted (source_of b) k.now.token.0 → o ≡ stream_denoted u → o ≡ stream_of (source_of b) (syntax_of x)
unfolding stream_of
stream_named_form b x f k l o u h is eu eo = eo ∙ ap stream_denoted eu ∙ sym (ap (stream_of (source_of b)) (form_at f (form.Named k l) x h is))

taken_stream : (s : Source) (x : Expression) (p : Expression) (l : List Selector) → x ≡ selected p (map selector_syntax l) → length l ≢ 0 → None ≡ stream_of s x
taken_stream s x p [] is some' = absurd (some' refl)
taken_stream s x p (y ∷ ys) is some' = stream_selected s p (selector_syntax y) (map selector_syntax ys) ∙ sym (ap (stream_of s) is)

pub stream_taken_form : (b : Bound) (x : Expr) (f : Form) (p : Bor Expr) (l : Bor (List Selector)) → FindsForm f x → f ≡ form.Taken p l → None ≡ stream_of (source_of b) (syntax_of x)
stream_taken_form b x f p l h is = let g = form_at f (form.Taken p l) x h is in taken_stream (source_of b) (syntax_of x) (syntax_of p.now) l.now g.0 g.1

pub stream_closed_form : (b : Bound) (x : Expr) (f : Form) (p : Bor Expr) → FindsForm f x → f ≡ form.Closed p → None ≡ stream_of (source_of b) (syntax_of x)
unfolding stream_of
stream_closed_form b x f p h is = sym (ap (stream_of (source_of b)) (form_at f (form.Closed p) x h is).1)

stream_new : (s : Source) (x : Expression) → IsNew x → None ≡ stream_of s x
unfolding stream_of
stream_new s (If i c a b) h = absurd h
stream_new s (Binary op i a b) h = absurd h
stream_new s (Not i a) h = absurd h
stream_new s (Signed k i a) h = absurd h
stream_new s (Member m i a k) h = absurd h
stream_new s (Dot i a k args) h = absurd h
stream_new s (Qua i a k) h = absurd h
stream_new s (Constant l i) h = absurd h
stream_new s (Named k args) h = absurd h
stream_new s (This i k) h = absurd h
stream_new s (New i k args) h = refl
stream_new s (Parentheses i a) h = absurd h

pub stream_new_form : (b : Bound) (x : Expr) (f : Form) → FindsForm f x → f ≡ form.New → None ≡ stream_of (source_of b) (syntax_of x)
stream_new_form b x f h is = stream_new (source_of b) (syntax_of x) (form_at f form.New x h is)

pub stream_other_form : (b : Bound) (x : Expr) (f : Form) → FindsForm f x → f ≡ form.Other → None ≡ stream_of (source_of b) (syntax_of x)
stream_other_form b x f h is = stream_other (source_of b) (syntax_of x) (form_at f form.Other x h is)

-- ---- variables

variable_other : (s : Source) (x : Expression) → IsOther x → false ≡ is_variable s x
unfolding is_variable
variable_other s (If i c a b) h = refl
variable_other s (Binary op i a b) h = refl
variable_other s (Not i a) h = refl
variable_other s (Signed k i a) h = refl
variable_other s (Member m i a k) h = refl
variable_other s (Dot i a k args) h = absurd h
variable_other s (Qua i a k) h = refl
variable_other s (Constant l i) h = refl
variable_other s (Named k args) h = absurd h
variable_other s (This i k) h = refl
variable_other s (New i k args) h = absurd h
variable_other s (Parentheses i a) h = refl

pub variable_named_form : (b : Bound) (x : Expr) (f : Form) (k : Bor Identifier) (l : Bor (List Expr)) (o : Bool) (u : Option Denotation) → FindsForm f x → f ≡ form.Named k l → u ≡ denoted (source_of b) k.now.token.0 → o ≡ is_variable_denoted (source_of b) u (expressions (map syntax_of l.now)) → o ≡ is_variable (source_of b) (syntax_of x)
unfolding is_variable
variable_named_form b x f k l o u h is eu eo = eo ∙ ap (λ z. is_variable_denoted (source_of b) z (expressions (map syntax_of l.now))) eu ∙ sym (ap (is_variable (source_of b)) (form_at f (form.Named k l) x h is))

pub variable_taken_form : (b : Bound) (x : Expr) (f : Form) (p : Bor Expr) (l : Bor (List Selector)) (o : Bool) → FindsForm f x → f ≡ form.Taken p l → (length l.now ≢ 0 → o ≡ is_variable (source_of b) (selected (syntax_of p.now) (map selector_syntax l.now))) → o ≡ is_variable (source_of b) (syntax_of x)
variable_taken_form b x f p l o h is eo = let g = form_at f (form.Taken p l) x h is in eo g.1 ∙ sym (ap (is_variable (source_of b)) g.0)

pub variable_closed_form : (b : Bound) (x : Expr) (f : Form) (p : Bor Expr) → FindsForm f x → f ≡ form.Closed p → false ≡ is_variable (source_of b) (syntax_of x)
unfolding is_variable
variable_closed_form b x f p h is = sym (ap (is_variable (source_of b)) (form_at f (form.Closed p) x h is).1)

variable_new : (s : Source) (x : Expression) → IsNew x → false ≡ is_variable s x
unfolding is_variable
variable_new s (If i c a b) h = absurd h
variable_new s (Binary op i a b) h = absurd h
variable_new s (Not i a) h = absurd h
variable_new s (Signed k i a) h = absurd h
variable_new s (Member m i a k) h = absurd h
variable_new s (Dot i a k args) h = absurd h
variable_new s (Qua i a k) h = absurd h
variable_new s (Constant l i) h = absurd h
variable_new s (Named k args) h = absurd h
variable_new s (This i k) h = absurd h
variable_new s (New i k args) h = refl
variable_new s (Parentheses i a) h = absurd h

pub variable_new_form : (b : Bound) (x : Expr) (f : Form) → FindsForm f x → f ≡ form.New → false ≡ is_variable (source_of b) (syntax_of x)
variable_new_form b x f h is = variable_new (source_of b) (syntax_of x) (form_at f form.New x h is)

pub variable_other_form : (b : Bound) (x : Expr) (f : Form) → FindsForm f x → f ≡ form.Other → false ≡ is_variable (source_of b) (syntax_of x)
variable_other_form b x f h is = variable_other (source_of b) (syntax_of x) (form_at f form.Other x h is)

dot_stream : (s : Source) (i : ℕ) (x : Expression) (k : Identifier) (args : Expressions) → stream_of s (Dot i x k args) ≡ None
unfolding stream_of
dot_stream s i x k args = refl

qua_stream : (s : Source) (i : ℕ) (x : Expression) (k : Identifier) → stream_of s (Qua i x k) ≡ None
unfolding stream_of
qua_stream s i x k = refl

-- more is taken than one thing
variable_behind : (s : Source) (x : Expression) (y : Selection) (ys : List Selection) → stream_of s x ≡ None → false ≡ is_variable s (selected x (y ∷ ys))
unfolding is_variable
variable_behind s x (Take i k args) [] none = sym (ap (λ z. is_image_behind z (denoted s k.token.0)) none)
variable_behind s x (Cast i k) [] none = refl
variable_behind s x (Take i k args) (z ∷ zs) none = variable_behind s (Dot i x k args) z zs (dot_stream s i x k args)
variable_behind s x (Cast i k) (z ∷ zs) none = variable_behind s (Qua i x k) z zs (qua_stream s i x k)

pub image_of_several : (b : Bound) (x : Expr) (l : List Selector) → length l ≢ 1 → length l ≢ 0 → false ≡ is_variable (source_of b) (selected (syntax_of x) (map selector_syntax l))
image_of_several b x [] one some' = absurd (some' refl)
image_of_several b x (y ∷ []) one some' = absurd (one refl)
image_of_several b x (y ∷ z ∷ zs) one some' = behind (selector_syntax y)
  where
    behind : (u : Selection) → false ≡ is_variable (source_of b) (selected (syntax_of x) (u ∷ selector_syntax z ∷ map selector_syntax zs))
    behind (Take i k args) = variable_behind (source_of b) (Dot i (syntax_of x) k args) (selector_syntax z) (map selector_syntax zs) (dot_stream (source_of b) i (syntax_of x) k args)
    behind (Cast i k) = variable_behind (source_of b) (Qua i (syntax_of x) k) (selector_syntax z) (map selector_syntax zs) (qua_stream (source_of b) i (syntax_of x) k)

one_selector : (l : List Selector) (y : Selector) → length l ≡ 1 → y ≡ slice_index_or l 0 y → l ≡ y ∷ []
one_selector [] y e is = absurd (cc)
one_selector (z ∷ []) y e is = ap (λ u. u ∷ []) (sym is)
one_selector (z ∷ u ∷ us) y e is = absurd (cc)

image_at : (s : Source) (x : Expression) (i : ℕ) (k : Identifier) (args : Expressions) → is_image_behind (stream_of s x) (denoted s k.token.0) ≡ is_variable s (Dot i x k args)
unfolding is_variable
image_at s x i k args = refl

pub image_of_stream : (b : Bound) (x : Expr) (l : List Selector) (y : Selector) (i : TokenNo) (k : Identifier) (args : Vec Expr Global) (o : Option ℕ) (image : ℕ) (u : Option Denotation) (r : Bool) → length l ≡ 1 → y ≡ slice_index_or l 0 y → y ≡ w.Dot i k args → o ≡ stream_of (source_of b) (syntax_of x) → o ≡ Some image → u ≡ denoted (source_of b) k.token.0 → r ≡ is_image_denoted u → length l ≢ 0 → r ≡ is_variable (source_of b) (selected (syntax_of x) (map selector_syntax l))
image_of_stream b x l y i k args o image u r one is ey eo some eu er _ =
    let s = source_of b in
    er ∙ ap is_image_denoted eu ∙ ap (λ z. is_image_behind z (denoted s k.token.0)) (sym some ∙ eo) ∙ image_at s (syntax_of x) i.0 k (expressions (map syntax_of args.items))
    ∙ sym (ap (λ z. is_variable s (selected (syntax_of x) (map selector_syntax z))) (one_selector l y one is) ∙ ap (λ z. is_variable s (selected (syntax_of x) (z ∷ []))) (ap selector_syntax ey ∙ selector-Dot i k args))

pub image_of_no_stream : (b : Bound) (x : Expr) (l : List Selector) (y : Selector) (i : TokenNo) (k : Identifier) (args : Vec Expr Global) (o : Option ℕ) → length l ≡ 1 → y ≡ slice_index_or l 0 y → y ≡ w.Dot i k args → o ≡ stream_of (source_of b) (syntax_of x) → o ≡ None → length l ≢ 0 → false ≡ is_variable (source_of b) (selected (syntax_of x) (map selector_syntax l))
image_of_no_stream b x l y i k args o one is ey eo none _ =
    let s = source_of b in
    ap (λ z. is_image_behind z (denoted s k.token.0)) (sym none ∙ eo) ∙ image_at s (syntax_of x) i.0 k (expressions (map syntax_of args.items))
    ∙ sym (ap (λ z. is_variable s (selected (syntax_of x) (map selector_syntax z))) (one_selector l y one is) ∙ ap (λ z. is_variable s (selected (syntax_of x) (z ∷ []))) (ap selector_syntax ey ∙ selector-Dot i k args))

pub image_of_cast : (b : Bound) (x : Expr) (l : List Selector) (y : Selector) (i : TokenNo) (k : Identifier) → length l ≡ 1 → y ≡ slice_index_or l 0 y → y ≡ w.Qua i k → length l ≢ 0 → false ≡ is_variable (source_of b) (selected (syntax_of x) (map selector_syntax l))
unfolding is_variable
image_of_cast b x l y i k one is ey _ =
    let s = source_of b in
    sym (ap (λ z. is_variable s (selected (syntax_of x) (map selector_syntax z))) (one_selector l y one is) ∙ ap (λ z. is_variable s (selected (syntax_of x) (z ∷ []))) (ap selector_syntax ey ∙ selector-Qua i k))

-- ---- variables of objects

attribute_other : (s : Source) (x : Expression) → IsOther x → false ≡ is_attribute s x
unfolding is_attribute
attribute_other s (If i c a b) h = refl
attribute_other s (Binary op i a b) h = refl
attribute_other s (Not i a) h = refl
attribute_other s (Signed k i a) h = refl
attribute_other s (Member m i a k) h = refl
attribute_other s (Dot i a k args) h = absurd h
attribute_other s (Qua i a k) h = refl
attribute_other s (Constant l i) h = refl
attribute_other s (Named k args) h = refl
attribute_other s (This i k) h = refl
attribute_other s (New i k args) h = absurd h
attribute_other s (Parentheses i a) h = refl

pub attribute_named_form : (b : Bound) (x : Expr) (f : Form) (k : Bor Identifier) (l : Bor (List Expr)) → FindsForm f x → f ≡ form.Named k l → false ≡ is_attribute (source_of b) (syntax_of x)
unfolding is_attribute
attribute_named_form b x f k l h is = sym (ap (is_attribute (source_of b)) (form_at f (form.Named k l) x h is))

pub attribute_taken_form : (b : Bound) (x : Expr) (f : Form) (p : Bor Expr) (l : Bor (List Selector)) (o : Bool) → FindsForm f x → f ≡ form.Taken p l → ((y : Expression) → length l.now ≢ 0 → o ≡ is_attribute (source_of b) (selected y (map selector_syntax l.now))) → o ≡ is_attribute (source_of b) (syntax_of x)
attribute_taken_form b x f p l o h is eo = let g = form_at f (form.Taken p l) x h is in eo (syntax_of p.now) g.1 ∙ sym (ap (is_attribute (source_of b)) g.0)

pub attribute_closed_form : (b : Bound) (x : Expr) (f : Form) (p : Bor Expr) → FindsForm f x → f ≡ form.Closed p → false ≡ is_attribute (source_of b) (syntax_of x)
unfolding is_attribute
attribute_closed_form b x f p h is = sym (ap (is_attribute (source_of b)) (form_at f (form.Closed p) x h is).1)

attribute_new : (s : Source) (x : Expression) → IsNew x → false ≡ is_attribute s x
unfolding is_attribute
attribute_new s (If i c a b) h = absurd h
attribute_new s (Binary op i a b) h = absurd h
attribute_new s (Not i a) h = absurd h
attribute_new s (Signed k i a) h = absurd h
attribute_new s (Member m i a k) h = absurd h
attribute_new s (Dot i a k args) h = absurd h
attribute_new s (Qua i a k) h = absurd h
attribute_new s (Constant l i) h = absurd h
attribute_new s (Named k args) h = absurd h
attribute_new s (This i k) h = absurd h
attribute_new s (New i k args) h = refl
attribute_new s (Parentheses i a) h = absurd h

pub attribute_new_form : (b : Bound) (x : Expr) (f : Form) → FindsForm f x → f ≡ form.New → false ≡ is_attribute (source_of b) (syntax_of x)
attribute_new_form b x f h is = attribute_new (source_of b) (syntax_of x) (form_at f form.New x h is)

pub attribute_other_form : (b : Bound) (x : Expr) (f : Form) → FindsForm f x → f ≡ form.Other → false ≡ is_attribute (source_of b) (syntax_of x)
attribute_other_form b x f h is = attribute_other (source_of b) (syntax_of x) (form_at f form.Other x h is)

pub attribute_dot : (b : Bound) (y : Selector) (i : TokenNo) (k : Identifier) (args : Vec Expr Global) (u : Option Denotation) (r : Bool) → y ≡ w.Dot i k args → u ≡ denoted (source_of b) k.token.0 → r ≡ is_attribute_denoted (source_of b) u (expressions (map syntax_of args.items)) → r ≡ takes_attribute (source_of b) (selector_syntax y)
attribute_dot b y i k args u r ey eu er =
    er ∙ ap (λ z. is_attribute_denoted (source_of b) z (expressions (map syntax_of args.items))) eu ∙ sym (ap (takes_attribute (source_of b)) (ap selector_syntax ey ∙ selector-Dot i k args))

pub attribute_qua : (b : Bound) (y : Selector) (i : TokenNo) (k : Identifier) → y ≡ w.Qua i k → false ≡ takes_attribute (source_of b) (selector_syntax y)
attribute_qua b y i k ey = sym (ap (takes_attribute (source_of b)) (ap selector_syntax ey ∙ selector-Qua i k))

pub attribute_one : (s : Source) (x : Expression) (z : Selection) → takes_attribute s z ≡ is_attribute s (selected x (z ∷ []))
unfolding is_attribute
attribute_one s x (Take i k args) = refl
attribute_one s x (Cast i k) = refl

last_attribute : (s : Source) (l : List Selector) (k : ℕ) (y : Selector) (x : Expression) → suc k ≡ length l → y ≡ slice_index_or l k y → takes_attribute s (selector_syntax y) ≡ is_attribute s (selected x (map selector_syntax l))
last_attribute s [] k y x e is = absurd (omega (arith, e))
last_attribute s (z ∷ []) zero y x e is = ap (λ v. takes_attribute s (selector_syntax v)) is ∙ attribute_one s x (selector_syntax z)
last_attribute s (z ∷ []) (suc k) y x e is = absurd (omega (arith, e))
last_attribute s (z ∷ v ∷ vs) zero y x e is = absurd (omega (arith, e))
last_attribute s (z ∷ v ∷ vs) (suc k) y x e is = behind (selector_syntax z) (λ x'. last_attribute s (v ∷ vs) k y x' (omega (arith, e)) is)
  where
    behind : (u : Selection) → ((x' : Expression) → takes_attribute s (selector_syntax y) ≡ is_attribute s (selected x' (map selector_syntax (v ∷ vs)))) → takes_attribute s (selector_syntax y) ≡ is_attribute s (selected x (u ∷ map selector_syntax (v ∷ vs)))
    behind (Take i j args) rest = rest (Dot i x j args)
    behind (Cast i j) rest = rest (Qua i x j)

pub attribute_last : (b : Bound) (l : List Selector) (m : ℕ) (y : Selector) (r : Bool) → length l ≢ 0 → m ≡ length l - 1 → y ≡ slice_index_or l m y → r ≡ takes_attribute (source_of b) (selector_syntax y) → (x : Expression) → length l ≢ 0 → r ≡ is_attribute (source_of b) (selected x (map selector_syntax l))
attribute_last b l m y r some' em is er x _ = er ∙ last_attribute (source_of b) l m y x (omega (arith, em, some')) is

pub attribute_none : (b : Bound) (l : List Selector) → length l ≡ 0 → (x : Expression) → length l ≢ 0 → false ≡ is_attribute (source_of b) (selected x (map selector_syntax l))
attribute_none b l none x some' = absurd (some' none)

-- ---- what is taken

pub moves_dot : (b : Bound) (y : Selector) (i : TokenNo) (k : Identifier) (args : Vec Expr Global) (u : Option Denotation) (r : Bool) → y ≡ w.Dot i k args → u ≡ denoted (source_of b) k.token.0 → r ≡ moves_denoted u → r ≡ moves_selection (source_of b) (selector_syntax y)
moves_dot b y i k args u r ey eu er = er ∙ ap moves_denoted eu ∙ sym (ap (moves_selection (source_of b)) (ap selector_syntax ey ∙ selector-Dot i k args))

pub moves_qua : (b : Bound) (y : Selector) (i : TokenNo) (k : Identifier) → y ≡ w.Qua i k → false ≡ moves_selection (source_of b) (selector_syntax y)
moves_qua b y i k ey = sym (ap (moves_selection (source_of b)) (ap selector_syntax ey ∙ selector-Qua i k))

pub takes_dot : (b : Bound) (y : Selector) (i : TokenNo) (k : Identifier) (args : Vec Expr Global) (u : Option Denotation) (r : Bool) → y ≡ w.Dot i k args → u ≡ denoted (source_of b) k.token.0 → r ≡ is_image_denoted u → r ≡ takes_image (source_of b) (selector_syntax y)
takes_dot b y i k args u r ey eu er = er ∙ ap is_image_denoted eu ∙ sym (ap (takes_image (source_of b)) (ap selector_syntax ey ∙ selector-Dot i k args))

pub takes_qua : (b : Bound) (y : Selector) (i : TokenNo) (k : Identifier) → y ≡ w.Qua i k → false ≡ takes_image (source_of b) (selector_syntax y)
takes_qua b y i k ey = sym (ap (takes_image (source_of b)) (ap selector_syntax ey ∙ selector-Qua i k))

next_here : (s : Source) (l : List Selector) (k : ℕ) (y : Selector) → k < length l → y ≡ slice_index_or l k y → moves_selection s (selector_syntax y) ≡ moves_next s (drop k (map selector_syntax l))
next_here s [] k y le e = absurd (omega (arith, le))
next_here s (z ∷ zs) zero y le e = ap (λ u. moves_selection s (selector_syntax u)) e
next_here s (z ∷ zs) (suc k) y le e = next_here s zs k y (omega (arith, le)) e

next_past : (s : Source) (l : List Selector) (k : ℕ) → length l ≤ k → false ≡ moves_next s (drop k (map selector_syntax l))
next_past s [] zero le = refl
next_past s [] (suc k) le = refl
next_past s (z ∷ zs) zero le = absurd (omega (arith, le))
next_past s (z ∷ zs) (suc k) le = next_past s zs k (omega (arith, le))

pub moves_there : (b : Bound) (l : List Selector) (k : ℕ) (y : Selector) (r : Bool) → k < length l → y ≡ slice_index_or l k y → r ≡ moves_selection (source_of b) (selector_syntax y) → r ≡ moves_next (source_of b) (drop k (map selector_syntax l))
moves_there b l k y r le ey er = er ∙ next_here (source_of b) l k y le ey

pub moves_past : (b : Bound) (l : List Selector) (k : ℕ) → length l ≤ k → false ≡ moves_next (source_of b) (drop k (map selector_syntax l))
moves_past b l k le = next_past (source_of b) l k le

-- ---- parentheses around an expression

abbrev pub closings : Expression → ℕ
closings (Parentheses i a) = suc (closings a)
closings _ = 0

pub fewer_closings : (x : Expr) (f : Form) (p : Bor Expr) → FindsForm f x → f ≡ form.Closed p → closings (syntax_of p.now) < closings (syntax_of x)
fewer_closings x f p h is =
    let k = closings (syntax_of p.now) in
    subst (λ z. closings (syntax_of p.now) < z) (sym (ap closings (form_at f (form.Closed p) x h is).1)) (let less : k < suc k = omega arith in less)

pub typed_closed : (x : Expr) (f : Form) (p : Bor Expr) (k : ℕ) → FindsForm f x → f ≡ form.Closed p → k ≡ typed_token (syntax_of p.now) → k ≡ typed_token (syntax_of x)
typed_closed x f p k h is ek = ek ∙ sym (ap typed_token (form_at f (form.Closed p) x h is).1)

pub no_operands : (es : List Expr) → length es ≡ 0 → false ≡ has_operands (expressions (map syntax_of es))
no_operands [] none = refl
no_operands (e ∷ es) none = absurd (omega (arith, none))

pub some_operands : (es : List Expr) → length es ≢ 0 → true ≡ has_operands (expressions (map syntax_of es))
some_operands [] some' = absurd (some' refl)
some_operands (e ∷ es) some' = refl

pub ruleset dots = (no_operands, some_operands, stream_named_form, stream_taken_form, stream_closed_form, stream_other_form, stream_new_form, variable_named_form, variable_taken_form, variable_closed_form, variable_other_form, variable_new_form, image_of_several, image_of_stream, image_of_no_stream, image_of_cast, moves_dot, moves_qua, takes_dot, takes_qua, moves_there, moves_past, attribute_named_form, attribute_taken_form, attribute_closed_form, attribute_other_form, attribute_new_form, attribute_dot, attribute_qua, attribute_last, attribute_none)

-- The matches whose results left sides are.
use Rattle.std.proofs.Common.{◌≡◌, ◌≢◌, ℕ, zero, suc, Bool, true, false, List, [], ◌∷◌, length, map, Bor, Option, Some, None, refl, sym, ap, ◌∙◌}
use Rattle.sim_base.specs.declared.numbering.DeclNo.{DeclNo}
use Rattle.sim_scope.specs.declared.bound.Bound.{Bound}
use Rattle.sim_scope.specs.declared.scopes.Denotation.{Denotation}
use Rattle.sim_scope.specs.declared.types.Entry.{Entry}
use Rattle.sim_scope.specs.declared.types.SimType.{SimType}
use Rattle.sim_scope.specs.Actuals.{result_in}
use Rattle.sim_scope.specs.Calls.{match_seen, own_of}
use Rattle.sim_scope.specs.Scopes.{entry_of}
use Rattle.sim_scope.specs.Source.{Source, denoted, source_of, type_at}
use Rattle.sim_tree.specs.declared.expr.Expr.{Expr}
use Rattle.sim_tree.specs.declared.expr.Identifier.{Identifier}
use Rattle.sim_tree.specs.declared.expr.Selector.{Selector}
use Rattle.sim_tree.specs.Syntax.{Binary, Constant, Dot, Expression, If, Member, Named, New, NoMore, Not, Parentheses, Qua, Signed, This}
use Rattle.sim_tree.specs.SyntaxOf.{Cast, Selection, Take, selected, selector_syntax, syntax_of}
use Rattle.sim_meaning.specs.Closing.{is_virtual_denoted, left_type, match_if_virtual, own_match, type_of_left, typed_token}
use Rattle.sim_meaning.specs.Virtuals.{text_of_procedure}
use Rattle.codegen_expr.specs.declared.forms.Form.{Form}
use Rattle.codegen_expr.specs.declared.forms.Form.TheVariants as form
use Rattle.codegen_expr.specs.Forms.{FindsForm, IsNew, IsOther}
use Rattle.codegen.specs.EmitLeft.{FindsMatch, FindsMatchText, FindsType, own_match_if}
use Rattle.codegen.proofs.Found.{form_at, match_operands}

pub match_subscripts : (b : Bound) (x : Identifier) (n : ℕ) → n ≢ 0 → FindsMatch b x n None
unfolding FindsMatch
match_subscripts b x zero ne = absurd (ne refl)
match_subscripts b x (suc n) ne = refl

-- of an identifier alone
match_alone : (b : Bound) (x : Identifier) (n : ℕ) (u : Option Denotation) (t : Bool) (r : Option DeclNo) → n ≡ 0 → u ≡ denoted (source_of b) x.token.0 → t ≡ is_virtual_denoted (source_of b) u → r ≡ match_if_virtual t (own_of (source_of b).tables x (match_seen (source_of b).tables x)) → FindsMatch b x n r
unfolding FindsMatch own_match
match_alone b x n u t r none eu et er =
    let s = source_of b in
    let found = own_of s.tables x (match_seen s.tables x) in
    er ∙ ap (λ z. match_if_virtual z found) (et ∙ ap (is_virtual_denoted s) eu) ∙ ap (λ z. own_match_if z (match_if_virtual (is_virtual_denoted s (denoted s x.token.0)) found)) (sym none)

pub match_virtual : (b : Bound) (x : Identifier) (n : ℕ) (u : Option Denotation) (t : Bool) (m r : Option DeclNo) → n ≡ 0 → u ≡ denoted (source_of b) x.token.0 → t ≡ is_virtual_denoted (source_of b) u → t ≡ true → m ≡ match_seen b.scopes x → r ≡ own_of b.scopes x m → FindsMatch b x n r
unfolding source_of
match_virtual b x n u t m r none eu et is em er = match_alone b x n u true r none eu (sym is ∙ et) (er ∙ ap (own_of b.scopes x) em)

pub match_other : (b : Bound) (x : Identifier) (n : ℕ) (u : Option Denotation) (t : Bool) → n ≡ 0 → u ≡ denoted (source_of b) x.token.0 → t ≡ is_virtual_denoted (source_of b) u → t ≡ false → FindsMatch b x n None
match_other b x n u t none eu et is = match_alone b x n u false None none eu (sym is ∙ et) refl

pub match_text_found : (b : Bound) (x : Identifier) (n : ℕ) (d : Option DeclNo) (r : Option ℕ) → FindsMatch b x n d → r ≡ text_of_procedure (source_of b) d → FindsMatchText b x n r
unfolding FindsMatch FindsMatchText
match_text_found b x n d r f er = er ∙ ap (text_of_procedure (source_of b)) f

-- ---- types

typed_found : (b : Bound) (x : Identifier) (n : ℕ) (p : Option DeclNo) (r : Option SimType) → FindsMatch b x n p → r ≡ type_of_left (source_of b) p (type_at (source_of b) x.token.0) → FindsType b x n r
unfolding FindsMatch FindsType
typed_found b x n p r f er = er ∙ ap (λ z. type_of_left (source_of b) z (type_at (source_of b) x.token.0)) f

pub typed_by_match : (b : Bound) (x : Identifier) (n : ℕ) (p : Option DeclNo) (d : DeclNo) (e : Option Entry) (r : Option SimType) → FindsMatch b x n p → p ≡ Some d → e ≡ entry_of b.scopes d → r ≡ result_in e → FindsType b x n r
unfolding source_of
typed_by_match b x n p d e r f is ee er = typed_found b x n p r f (er ∙ ap result_in ee ∙ at ∙ ap (λ z. type_of_left (source_of b) z (type_at (source_of b) x.token.0)) (sym is))
  where
    at : result_in (entry_of b.scopes d) ≡ type_of_left (source_of b) (Some d) (type_at (source_of b) x.token.0)
    at = refl

pub typed_alone : (b : Bound) (x : Identifier) (n : ℕ) (p : Option DeclNo) (r : Option SimType) → FindsMatch b x n p → p ≡ None → r ≡ type_at (source_of b) x.token.0 → FindsType b x n r
typed_alone b x n p r f is er = typed_found b x n p r f (er ∙ ap (λ z. type_of_left (source_of b) z (type_at (source_of b) x.token.0)) (sym is))

no_match_other : (s : Source) (x : Expression) → IsOther x → None ≡ own_match s x
unfolding own_match
no_match_other s (If i c a b) h = refl
no_match_other s (Binary op i a b) h = refl
no_match_other s (Not i a) h = refl
no_match_other s (Signed k i a) h = refl
no_match_other s (Member m i a k) h = refl
no_match_other s (Dot i a k args) h = absurd h
no_match_other s (Qua i a k) h = absurd h
no_match_other s (Constant l i) h = refl
no_match_other s (Named k args) h = absurd h
no_match_other s (This i k) h = refl
no_match_other s (New i k args) h = absurd h
no_match_other s (Parentheses i a) h = absurd h

no_match_new : (s : Source) (x : Expression) → IsNew x → None ≡ own_match s x
unfolding own_match
no_match_new s (New i k args) h = refl
no_match_new s _ h = absurd h

no_match_selected : (s : Source) (x : Expression) (y : Selection) (ys : List Selection) → None ≡ own_match s (selected x (y ∷ ys))
unfolding own_match
no_match_selected s x (Take i k args) [] = refl
no_match_selected s x (Cast i k) [] = refl
no_match_selected s x (Take i k args) (z ∷ zs) = no_match_selected s (Dot i x k args) z zs
no_match_selected s x (Cast i k) (z ∷ zs) = no_match_selected s (Qua i x k) z zs

no_match_taken : (s : Source) (x p : Expression) (l : List Selector) → x ≡ selected p (map selector_syntax l) → length l ≢ 0 → None ≡ own_match s x
no_match_taken s x p [] is some' = absurd (some' refl)
no_match_taken s x p (y ∷ ys) is some' = no_match_selected s p (selector_syntax y) (map selector_syntax ys) ∙ sym (ap (own_match s) is)

-- what is the result of no match has the type at its token
typed_plain : (s : Source) (e : Expression) (token : ℕ) (r : Option SimType) → None ≡ own_match s e → token ≡ typed_token e → r ≡ type_at s token → r ≡ left_type s e
typed_plain s e token r none et er = er ∙ ap (type_at s) et ∙ ap (λ z. type_of_left s z (type_at s (typed_token e))) none

pub typed_named : (b : Bound) (x : Expr) (f : Form) (k : Bor Identifier) (l : Bor (List Expr)) (n : ℕ) (r : Option SimType) → FindsForm f x → f ≡ form.Named k l → n ≡ length l.now → FindsType b k.now n r → r ≡ left_type (source_of b) (syntax_of x)
unfolding FindsType
typed_named b x f k l n r h is en er =
    let s = source_of b in
    let here = type_at s k.now.token.0 in
    er ∙ ap (λ z. type_of_left s (own_match_if z (own_match s (Named k.now NoMore))) here) en ∙ ap (λ z. type_of_left s z here) (match_operands s k.now l.now) ∙ sym (ap (left_type s) (form_at f (form.Named k l) x h is))

pub typed_taken : (b : Bound) (x : Expr) (f : Form) (p : Bor Expr) (l : Bor (List Selector)) (token : ℕ) (r : Option SimType) → FindsForm f x → f ≡ form.Taken p l → token ≡ typed_token (syntax_of x) → r ≡ type_at (source_of b) token → r ≡ left_type (source_of b) (syntax_of x)
typed_taken b x f p l token r h is et er = let g = form_at f (form.Taken p l) x h is in typed_plain (source_of b) (syntax_of x) token r (no_match_taken (source_of b) (syntax_of x) (syntax_of p.now) l.now g.0 g.1) et er

pub typed_closed : (b : Bound) (x : Expr) (f : Form) (p : Bor Expr) (token : ℕ) (r : Option SimType) → FindsForm f x → f ≡ form.Closed p → token ≡ typed_token (syntax_of x) → r ≡ type_at (source_of b) token → r ≡ left_type (source_of b) (syntax_of x)
unfolding own_match
typed_closed b x f p token r h is et er = typed_plain (source_of b) (syntax_of x) token r none et er
  where
    none : None ≡ own_match (source_of b) (syntax_of x)
    none = sym (ap (own_match (source_of b)) (form_at f (form.Closed p) x h is).1)

pub typed_new : (b : Bound) (x : Expr) (f : Form) (token : ℕ) (r : Option SimType) → FindsForm f x → f ≡ form.New → token ≡ typed_token (syntax_of x) → r ≡ type_at (source_of b) token → r ≡ left_type (source_of b) (syntax_of x)
typed_new b x f token r h is et er = typed_plain (source_of b) (syntax_of x) token r (no_match_new (source_of b) (syntax_of x) (form_at f form.New x h is)) et er

pub typed_other : (b : Bound) (x : Expr) (f : Form) (token : ℕ) (r : Option SimType) → FindsForm f x → f ≡ form.Other → token ≡ typed_token (syntax_of x) → r ≡ type_at (source_of b) token → r ≡ left_type (source_of b) (syntax_of x)
typed_other b x f token r h is et er = typed_plain (source_of b) (syntax_of x) token r (no_match_other (source_of b) (syntax_of x) (form_at f form.Other x h is)) et er

pub ruleset own_matches = (match_subscripts, match_virtual, match_other, match_text_found, typed_by_match, typed_alone, typed_named, typed_taken, typed_closed, typed_new, typed_other)

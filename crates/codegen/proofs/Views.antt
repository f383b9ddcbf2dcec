-- The elements of a `for` list, of either sign.
use Rattle.std.proofs.Common.{◌≡◌, ◌<◌, ◌+◌, ◌-◌, ℕ, zero, suc, List, [], ◌∷◌, length, map, drop, Bor, Some, refl, sym, ap, ◌∙◌, subst, arith}
use Rattle.std.specs.Prelude.{slice_get, slice_index_or}
use Rattle.sim_base.specs.declared.numbering.TokenNo.{TokenNo}
use Rattle.sim_tree.specs.declared.expr.Expr.{Expr}
use Rattle.sim_tree.specs.declared.stmt.ForElement.{ForElement}
use Rattle.sim_tree.specs.declared.stmt.ForElement.TheVariants as fe
use Rattle.sim_tree.specs.declared.stmt.ReferenceElement.{ReferenceElement}
use Rattle.sim_tree.specs.declared.stmt.ReferenceElement.TheVariants as re
use Rattle.sim_tree.specs.Syntax as syntax
use Rattle.sim_tree.specs.SyntaxOf.{syntax_of}
use Rattle.sim_tree.specs.SyntaxOfProgram.{element_syntax, reference_element_syntax}
use Rattle.codegen.specs.declared.elements.Element.{Element}
use Rattle.codegen.specs.declared.elements.Elements.{Elements}
use Rattle.codegen.specs.declared.elements.Elements.TheVariants as elements
use Rattle.codegen.specs.ForElements.{in_list, view_syntax}

pub value_once : (x : ForElement) (e : Expr) → x ≡ fe.Value e → syntax.Once (syntax_of e) ≡ element_syntax x
value_once x e is = ap element_syntax (sym is)

pub value_step : (x : ForElement) (e : Expr) (t : TokenNo) (f g : Expr) → x ≡ fe.Step e t f g → syntax.Step (syntax_of e) t.0 (syntax_of f) (syntax_of g) ≡ element_syntax x
value_step x e t f g is = ap element_syntax (sym is)

pub value_while : (x : ForElement) (e : Expr) (t : TokenNo) (f : Expr) → x ≡ fe.While e t f → syntax.While (syntax_of e) t.0 (syntax_of f) ≡ element_syntax x
value_while x e t f is = ap element_syntax (sym is)

pub reference_once : (x : ReferenceElement) (e : Expr) → x ≡ re.Value e → syntax.Once (syntax_of e) ≡ reference_element_syntax x
reference_once x e is = ap reference_element_syntax (sym is)

pub reference_while : (x : ReferenceElement) (e : Expr) (t : TokenNo) (f : Expr) → x ≡ re.While e t f → syntax.While (syntax_of e) t.0 (syntax_of f) ≡ reference_element_syntax x
reference_while x e t f is = ap reference_element_syntax (sym is)

as_many : {A B : Type 0} (f : A → B) (xs : List A) → length (map f xs) ≡ length xs
as_many f [] = refl
as_many f (x ∷ xs) = ap suc (as_many f xs)

pub count_values : (e : Elements) (l : Bor (List ForElement)) → e ≡ elements.Values l → length l.now ≡ length (in_list e)
count_values e l is = sym (ap (λ z. length (in_list z)) is ∙ as_many element_syntax l.now)

pub count_references : (e : Elements) (l : Bor (List ReferenceElement)) → e ≡ elements.References l → length l.now ≡ length (in_list e)
count_references e l is = sym (ap (λ z. length (in_list z)) is ∙ as_many reference_element_syntax l.now)

pub within_values : (e : Elements) (l : Bor (List ForElement)) (k : ℕ) → k < length (in_list e) → e ≡ elements.Values l → k < length l.now
within_values e l k le is = subst (λ z. k < z) (sym (count_values e l is)) le

pub within_references : (e : Elements) (l : Bor (List ReferenceElement)) (k : ℕ) → k < length (in_list e) → e ≡ elements.References l → k < length l.now
within_references e l k le is = subst (λ z. k < z) (sym (count_references e l is)) le

mapped : {A B : Type 0} (f : A → B) (xs : List A) (k : ℕ) (x : A) → k < length xs → x ≡ slice_index_or xs k x → slice_get (map f xs) k ≡ Some (f x)
mapped f [] k x le is = absurd (omega (arith, le))
mapped f (y ∷ ys) zero x le is = ap (λ z. Some (f z)) (sym is)
mapped f (y ∷ ys) (suc k) x le is = mapped f ys k x (omega (arith, le)) is

pub at_values : (e : Elements) (l : Bor (List ForElement)) (k : ℕ) (x : ForElement) (r : Element) → k < length (in_list e) → e ≡ elements.Values l → x ≡ slice_index_or l.now k x → view_syntax r ≡ element_syntax x → slice_get (in_list e) k ≡ Some (view_syntax r)
at_values e l k x r le is at same = ap (λ z. slice_get (in_list z) k) is ∙ mapped element_syntax l.now k x (within_values e l k le is) at ∙ ap Some (sym same)

pub at_references : (e : Elements) (l : Bor (List ReferenceElement)) (k : ℕ) (x : ReferenceElement) (r : Element) → k < length (in_list e) → e ≡ elements.References l → x ≡ slice_index_or l.now k x → view_syntax r ≡ reference_element_syntax x → slice_get (in_list e) k ≡ Some (view_syntax r)
at_references e l k x r le is at same = ap (λ z. slice_get (in_list z) k) is ∙ mapped reference_element_syntax l.now k x (within_references e l k le is) at ∙ ap Some (sym same)

-- ---- what is left of a list

pub two_left : {A : Type 0} (xs : List A) (k : ℕ) → k < length xs - 1 → (x : A) × (y : A) × (r : List A) × (drop (suc k) xs ≡ y ∷ r) × (drop k xs ≡ x ∷ y ∷ r)
two_left [] k le = absurd (omega (arith, le))
two_left (x ∷ []) k le = absurd (omega (arith, le))
two_left (x ∷ y ∷ xs) zero le = (x, y, xs, refl, refl)
two_left (x ∷ y ∷ xs) (suc k) le = two_left (y ∷ xs) k (omega (arith, le))

pub one_left : {A : Type 0} (xs : List A) (k : ℕ) → length xs ≡ suc k → (x : A) × (drop k xs ≡ x ∷ [])
one_left [] k e = absurd (omega (arith, e))
one_left (x ∷ []) zero e = (x, refl)
one_left (x ∷ []) (suc k) e = absurd (omega (arith, e))
one_left (x ∷ y ∷ xs) zero e = absurd (omega (arith, e))
one_left (x ∷ y ∷ xs) (suc k) e = one_left (y ∷ xs) k (omega (arith, e))

same_some : {A : Type 0} (x y : A) → Some x ≡ Some y → x ≡ y
same_some x y e = cc

-- the element at a place is the first of what is left
pub from_get : {A : Type 0} (xs : List A) (k : ℕ) (x : A) → slice_get xs k ≡ Some x → drop k xs ≡ x ∷ drop (k + 1) xs
from_get xs k x e = on xs k x e ∙ ap (λ z. x ∷ drop z xs) (let next : suc k ≡ k + 1 = omega arith in next)
  where
    on : {A : Type 0} (xs : List A) (k : ℕ) (x : A) → slice_get xs k ≡ Some x → drop k xs ≡ x ∷ drop (suc k) xs
    on [] zero x e = absurd (cc)
    on [] (suc k) x e = absurd (cc)
    on (y ∷ ys) zero x e = ap (λ z. z ∷ ys) (same_some y x e)
    on (y ∷ ys) (suc k) x e = on ys k x e

pub ruleset views = (value_once, value_step, value_while, reference_once, reference_while, count_values, count_references, within_values, within_references, at_values, at_references)

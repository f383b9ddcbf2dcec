-- Places, behind levels of operators that have no operator.
use Rattle.std.proofs.Common.{suc, ◌∷◌, [], ◌≡◌, ◌≢◌, ◌-◌, Bool, drop, ℕ, ℤ, List, length, map, Option, Some, None, refl, sym, ap, ◌∙◌, subst}
use Rattle.std.specs.Prelude.{slice_index_or}
use Rattle.std.specs.declared.alloc.Global.{Global}
use Rattle.std.specs.declared.boxed.Box.{Box}
use Rattle.std.specs.declared.vec.Vec.{Vec}
use Rattle.sim_base.specs.declared.numbering.TokenNo.{TokenNo}
use Rattle.sim_tree.specs.declared.expr.Expr.{Expr}
use Rattle.sim_tree.specs.declared.expr.Expr.TheVariants as e
use Rattle.sim_tree.specs.declared.expr.Factor.{Factor}
use Rattle.sim_tree.specs.declared.expr.Identifier.{Identifier}
use Rattle.sim_tree.specs.declared.expr.LeadingSign.{LeadingSign}
use Rattle.sim_tree.specs.declared.expr.Membership.{Membership}
use Rattle.sim_tree.specs.declared.expr.Operand.{Operand}
use Rattle.sim_tree.specs.declared.expr.Relation.{Relation}
use Rattle.sim_tree.specs.declared.expr.Selector.{Selector}
use Rattle.sim_tree.specs.declared.expr.Term.{Term}
use Rattle.sim_tree.specs.Syntax.{Named, expressions}
use Rattle.sim_tree.specs.SyntaxOf.{selected, selector_syntax, syntax_of}
use Rattle.sim_tree.proofs.SyntaxLemmas as v
use Rattle.codegen_expr.specs.declared.forms.Form.TheVariants as form
use Rattle.sim_scope.specs.declared.bound.Bound.{Bound}
use Rattle.sim_scope.specs.Source.{source_of}
use Rattle.codegen_expr.specs.declared.operators.Object.{Object}
use Rattle.codegen_expr.specs.declared.spot.Spot.{Spot}
use Rattle.codegen_expr.specs.Built.{PlaceBuilt}
use Rattle.codegen_expr.specs.Drafts.{DraftOf, given_up}
use Rattle.codegen_expr.specs.Emit.{PutsPlace, WritesNamedPlace, WritesPlace, WritesStart, WritesSteps, WritesTakenPlace, moves_next}
use Rattle.codegen_expr.specs.PlaceAlone.{WritesPlaceAlone}
use Rattle.codegen_expr.proofs.Behind.{place_other_form}
use Rattle.codegen_expr.proofs.Formed as formed
use Rattle.codegen_expr.proofs.Pieces.{emits_nothing}
use Rattle.codegen_expr.proofs.Taken.{place_taken_last, taken_before, taken_place_cast, taken_place_place, taken_place_stream, taken_place_value}

module _ (b : Bound) (w : Spot) (n class : ℕ) where
  -- ---- levels without operators

  place_same_OrElse : (u d : DraftOf) (a x : Expr) (p : Box Expr Global) (l : Vec Operand Global) (ts : List Operand) → a ≡ e.OrElse p l → x ≡ p.value → ts ≡ l.items → length ts ≡ 0 → WritesPlace b w n u d class x → WritesPlace b w n u d class a
  unfolding WritesPlace
  place_same_OrElse u d a x p l ts h0 h1 h2 h3 f = subst (λ z. PutsPlace (source_of b) w n u d class z) (sym (formed.level_OrElse a x p l ts h0 h1 h2 h3)) f

  place_same_AndThen : (u d : DraftOf) (a x : Expr) (p : Box Expr Global) (l : Vec Operand Global) (ts : List Operand) → a ≡ e.AndThen p l → x ≡ p.value → ts ≡ l.items → length ts ≡ 0 → WritesPlace b w n u d class x → WritesPlace b w n u d class a
  unfolding WritesPlace
  place_same_AndThen u d a x p l ts h0 h1 h2 h3 f = subst (λ z. PutsPlace (source_of b) w n u d class z) (sym (formed.level_AndThen a x p l ts h0 h1 h2 h3)) f

  place_same_Eqv : (u d : DraftOf) (a x : Expr) (p : Box Expr Global) (l : Vec Operand Global) (ts : List Operand) → a ≡ e.Eqv p l → x ≡ p.value → ts ≡ l.items → length ts ≡ 0 → WritesPlace b w n u d class x → WritesPlace b w n u d class a
  unfolding WritesPlace
  place_same_Eqv u d a x p l ts h0 h1 h2 h3 f = subst (λ z. PutsPlace (source_of b) w n u d class z) (sym (formed.level_Eqv a x p l ts h0 h1 h2 h3)) f

  place_same_Imp : (u d : DraftOf) (a x : Expr) (p : Box Expr Global) (l : Vec Operand Global) (ts : List Operand) → a ≡ e.Imp p l → x ≡ p.value → ts ≡ l.items → length ts ≡ 0 → WritesPlace b w n u d class x → WritesPlace b w n u d class a
  unfolding WritesPlace
  place_same_Imp u d a x p l ts h0 h1 h2 h3 f = subst (λ z. PutsPlace (source_of b) w n u d class z) (sym (formed.level_Imp a x p l ts h0 h1 h2 h3)) f

  place_same_Or : (u d : DraftOf) (a x : Expr) (p : Box Expr Global) (l : Vec Operand Global) (ts : List Operand) → a ≡ e.Or p l → x ≡ p.value → ts ≡ l.items → length ts ≡ 0 → WritesPlace b w n u d class x → WritesPlace b w n u d class a
  unfolding WritesPlace
  place_same_Or u d a x p l ts h0 h1 h2 h3 f = subst (λ z. PutsPlace (source_of b) w n u d class z) (sym (formed.level_Or a x p l ts h0 h1 h2 h3)) f

  place_same_And : (u d : DraftOf) (a x : Expr) (p : Box Expr Global) (l : Vec Operand Global) (ts : List Operand) → a ≡ e.And p l → x ≡ p.value → ts ≡ l.items → length ts ≡ 0 → WritesPlace b w n u d class x → WritesPlace b w n u d class a
  unfolding WritesPlace
  place_same_And u d a x p l ts h0 h1 h2 h3 f = subst (λ z. PutsPlace (source_of b) w n u d class z) (sym (formed.level_And a x p l ts h0 h1 h2 h3)) f

  place_same_Concatenation : (u d : DraftOf) (a x : Expr) (p : Box Expr Global) (l : Vec Operand Global) (ts : List Operand) → a ≡ e.Concatenation p l → x ≡ p.value → ts ≡ l.items → length ts ≡ 0 → WritesPlace b w n u d class x → WritesPlace b w n u d class a
  unfolding WritesPlace
  place_same_Concatenation u d a x p l ts h0 h1 h2 h3 f = subst (λ z. PutsPlace (source_of b) w n u d class z) (sym (formed.level_Concatenation a x p l ts h0 h1 h2 h3)) f

  place_same_Power : (u d : DraftOf) (a x : Expr) (p : Box Expr Global) (l : Vec Operand Global) (ts : List Operand) → a ≡ e.Power p l → x ≡ p.value → ts ≡ l.items → length ts ≡ 0 → WritesPlace b w n u d class x → WritesPlace b w n u d class a
  unfolding WritesPlace
  place_same_Power u d a x p l ts h0 h1 h2 h3 f = subst (λ z. PutsPlace (source_of b) w n u d class z) (sym (formed.level_Power a x p l ts h0 h1 h2 h3)) f

  place_same_Product : (u d : DraftOf) (a x : Expr) (p : Box Expr Global) (l : Vec Factor Global) (ts : List Factor) → a ≡ e.Product p l → x ≡ p.value → ts ≡ l.items → length ts ≡ 0 → WritesPlace b w n u d class x → WritesPlace b w n u d class a
  unfolding WritesPlace
  place_same_Product u d a x p l ts h0 h1 h2 h3 f = subst (λ z. PutsPlace (source_of b) w n u d class z) (sym (formed.level_Product a x p l ts h0 h1 h2 h3)) f

  place_same_Sum : (u d : DraftOf) (a x : Expr) (m : Option LeadingSign) (p : Box Expr Global) (l : Vec Term Global) (ts : List Term) → a ≡ e.Sum m p l → m ≡ None → x ≡ p.value → ts ≡ l.items → length ts ≡ 0 → WritesPlace b w n u d class x → WritesPlace b w n u d class a
  unfolding WritesPlace
  place_same_Sum u d a x m p l ts h0 h1 h2 h3 h4 f = subst (λ z. PutsPlace (source_of b) w n u d class z) (sym (formed.level_Sum a x m p l ts h0 h1 h2 h3 h4)) f

  pub place_same_Postfix : (u d : DraftOf) (a x : Expr) (p : Box Expr Global) (l : Vec Selector Global) (ts : List Selector) → a ≡ e.Postfix p l → x ≡ p.value → ts ≡ l.items → length ts ≡ 0 → WritesPlace b w n u d class x → WritesPlace b w n u d class a
  unfolding WritesPlace
  place_same_Postfix u d a x p l ts h0 h1 h2 h3 f = subst (λ z. PutsPlace (source_of b) w n u d class z) (sym (formed.level_Postfix a x p l ts h0 h1 h2 h3)) f

  place_same_Not : (u d : DraftOf) (a x : Expr) (p : Box Expr Global) (l : Vec TokenNo Global) (ts : List TokenNo) → a ≡ e.Not l p → x ≡ p.value → ts ≡ l.items → length ts ≡ 0 → WritesPlace b w n u d class x → WritesPlace b w n u d class a
  unfolding WritesPlace
  place_same_Not u d a x p l ts h0 h1 h2 h3 f = subst (λ z. PutsPlace (source_of b) w n u d class z) (sym (formed.level_Not a x p l ts h0 h1 h2 h3)) f

  place_other_OrElse : (u d : DraftOf) (a : Expr) (p : Box Expr Global) (l : Vec Operand Global) (ts : List Operand) → a ≡ e.OrElse p l → ts ≡ l.items → length ts ≢ 0 → d ≡ given_up u → WritesPlace b w n u d class a
  place_other_OrElse u d a p l ts h0 h1 h2 ed = place_other_form b w n u d class a form.Other (formed.other_OrElse a p l ts h0 h1 h2) refl ed

  place_other_AndThen : (u d : DraftOf) (a : Expr) (p : Box Expr Global) (l : Vec Operand Global) (ts : List Operand) → a ≡ e.AndThen p l → ts ≡ l.items → length ts ≢ 0 → d ≡ given_up u → WritesPlace b w n u d class a
  place_other_AndThen u d a p l ts h0 h1 h2 ed = place_other_form b w n u d class a form.Other (formed.other_AndThen a p l ts h0 h1 h2) refl ed

  place_other_Eqv : (u d : DraftOf) (a : Expr) (p : Box Expr Global) (l : Vec Operand Global) (ts : List Operand) → a ≡ e.Eqv p l → ts ≡ l.items → length ts ≢ 0 → d ≡ given_up u → WritesPlace b w n u d class a
  place_other_Eqv u d a p l ts h0 h1 h2 ed = place_other_form b w n u d class a form.Other (formed.other_Eqv a p l ts h0 h1 h2) refl ed

  place_other_Imp : (u d : DraftOf) (a : Expr) (p : Box Expr Global) (l : Vec Operand Global) (ts : List Operand) → a ≡ e.Imp p l → ts ≡ l.items → length ts ≢ 0 → d ≡ given_up u → WritesPlace b w n u d class a
  place_other_Imp u d a p l ts h0 h1 h2 ed = place_other_form b w n u d class a form.Other (formed.other_Imp a p l ts h0 h1 h2) refl ed

  place_other_Or : (u d : DraftOf) (a : Expr) (p : Box Expr Global) (l : Vec Operand Global) (ts : List Operand) → a ≡ e.Or p l → ts ≡ l.items → length ts ≢ 0 → d ≡ given_up u → WritesPlace b w n u d class a
  place_other_Or u d a p l ts h0 h1 h2 ed = place_other_form b w n u d class a form.Other (formed.other_Or a p l ts h0 h1 h2) refl ed

  place_other_And : (u d : DraftOf) (a : Expr) (p : Box Expr Global) (l : Vec Operand Global) (ts : List Operand) → a ≡ e.And p l → ts ≡ l.items → length ts ≢ 0 → d ≡ given_up u → WritesPlace b w n u d class a
  place_other_And u d a p l ts h0 h1 h2 ed = place_other_form b w n u d class a form.Other (formed.other_And a p l ts h0 h1 h2) refl ed

  place_other_Concatenation : (u d : DraftOf) (a : Expr) (p : Box Expr Global) (l : Vec Operand Global) (ts : List Operand) → a ≡ e.Concatenation p l → ts ≡ l.items → length ts ≢ 0 → d ≡ given_up u → WritesPlace b w n u d class a
  place_other_Concatenation u d a p l ts h0 h1 h2 ed = place_other_form b w n u d class a form.Other (formed.other_Concatenation a p l ts h0 h1 h2) refl ed

  place_other_Power : (u d : DraftOf) (a : Expr) (p : Box Expr Global) (l : Vec Operand Global) (ts : List Operand) → a ≡ e.Power p l → ts ≡ l.items → length ts ≢ 0 → d ≡ given_up u → WritesPlace b w n u d class a
  place_other_Power u d a p l ts h0 h1 h2 ed = place_other_form b w n u d class a form.Other (formed.other_Power a p l ts h0 h1 h2) refl ed

  place_other_Product : (u d : DraftOf) (a : Expr) (p : Box Expr Global) (l : Vec Factor Global) (ts : List Factor) → a ≡ e.Product p l → ts ≡ l.items → length ts ≢ 0 → d ≡ given_up u → WritesPlace b w n u d class a
  place_other_Product u d a p l ts h0 h1 h2 ed = place_other_form b w n u d class a form.Other (formed.other_Product a p l ts h0 h1 h2) refl ed

  place_other_Sum : (u d : DraftOf) (a : Expr) (m : Option LeadingSign) (p : Box Expr Global) (l : Vec Term Global) (ts : List Term) → a ≡ e.Sum m p l → ts ≡ l.items → length ts ≢ 0 → d ≡ given_up u → WritesPlace b w n u d class a
  place_other_Sum u d a m p l ts h0 h1 h2 ed = place_other_form b w n u d class a form.Other (formed.other_Sum a m p l ts h0 h1 h2) refl ed

  pub place_signed_Sum : (u d : DraftOf) (a : Expr) (m : Option LeadingSign) (k : LeadingSign) (p : Box Expr Global) (l : Vec Term Global) → a ≡ e.Sum m p l → m ≡ Some k → d ≡ given_up u → WritesPlace b w n u d class a
  place_signed_Sum u d a m k p l h0 h1 ed = place_other_form b w n u d class a form.Other (formed.signed_Sum a m k p l h0 h1) refl ed

  place_other_Not : (u d : DraftOf) (a : Expr) (p : Box Expr Global) (l : Vec TokenNo Global) (ts : List TokenNo) → a ≡ e.Not l p → ts ≡ l.items → length ts ≢ 0 → d ≡ given_up u → WritesPlace b w n u d class a
  place_other_Not u d a p l ts h0 h1 h2 ed = place_other_form b w n u d class a form.Other (formed.other_Not a p l ts h0 h1 h2) refl ed

  -- ---- operands alone

  pub alone_place : (u d : DraftOf) (k : ℕ) (x : Expr) → k ≡ 0 → WritesPlace b w n u d class x → WritesPlaceAlone b w n u d class k x
  unfolding WritesPlaceAlone
  alone_place u d k x none f = ((λ _. f), (λ some'. absurd (some' none)))

  pub alone_no_place : (u d : DraftOf) (k : ℕ) (x : Expr) → k ≢ 0 → d ≡ given_up u → WritesPlaceAlone b w n u d class k x
  unfolding WritesPlaceAlone
  alone_no_place u d k x some' ed = ((λ none. absurd (some' none)), (λ _. ed))

  -- an operand of a level is the variable where no others stand beside it, and with others there is none
  on_level : {A : Type 0} (u d : DraftOf) (a x : Expr) (ts : List A) (k : ℕ) → k ≡ length ts → (length ts ≡ 0 → WritesPlace b w n u d class x → WritesPlace b w n u d class a) → (length ts ≢ 0 → d ≡ given_up u → WritesPlace b w n u d class a) → WritesPlaceAlone b w n u d class k x → WritesPlace b w n u d class a
  unfolding WritesPlaceAlone
  on_level u d a x [] k many same other f = same refl (f.0 many)
  on_level u d a x (t ∷ ts) k many same other f =
      let more : suc (length ts) ≢ 0 = λ z. cc in
      other more (f.1 (λ z. more (sym many ∙ z)))

  pub place_OrElse : (u d : DraftOf) (a x : Expr) (p : Box Expr Global) (l : Vec Operand Global) (ts : List Operand) (k : ℕ) → a ≡ e.OrElse p l → x ≡ p.value → ts ≡ l.items → k ≡ length ts → WritesPlaceAlone b w n u d class k x → WritesPlace b w n u d class a
  place_OrElse u d a x p l ts k h0 h1 h2 many f = on_level u d a x ts k many (place_same_OrElse u d a x p l ts h0 h1 h2) (place_other_OrElse u d a p l ts h0 h2) f

  pub place_AndThen : (u d : DraftOf) (a x : Expr) (p : Box Expr Global) (l : Vec Operand Global) (ts : List Operand) (k : ℕ) → a ≡ e.AndThen p l → x ≡ p.value → ts ≡ l.items → k ≡ length ts → WritesPlaceAlone b w n u d class k x → WritesPlace b w n u d class a
  place_AndThen u d a x p l ts k h0 h1 h2 many f = on_level u d a x ts k many (place_same_AndThen u d a x p l ts h0 h1 h2) (place_other_AndThen u d a p l ts h0 h2) f

  pub place_Eqv : (u d : DraftOf) (a x : Expr) (p : Box Expr Global) (l : Vec Operand Global) (ts : List Operand) (k : ℕ) → a ≡ e.Eqv p l → x ≡ p.value → ts ≡ l.items → k ≡ length ts → WritesPlaceAlone b w n u d class k x → WritesPlace b w n u d class a
  place_Eqv u d a x p l ts k h0 h1 h2 many f = on_level u d a x ts k many (place_same_Eqv u d a x p l ts h0 h1 h2) (place_other_Eqv u d a p l ts h0 h2) f

  pub place_Imp : (u d : DraftOf) (a x : Expr) (p : Box Expr Global) (l : Vec Operand Global) (ts : List Operand) (k : ℕ) → a ≡ e.Imp p l → x ≡ p.value → ts ≡ l.items → k ≡ length ts → WritesPlaceAlone b w n u d class k x → WritesPlace b w n u d class a
  place_Imp u d a x p l ts k h0 h1 h2 many f = on_level u d a x ts k many (place_same_Imp u d a x p l ts h0 h1 h2) (place_other_Imp u d a p l ts h0 h2) f

  pub place_Or : (u d : DraftOf) (a x : Expr) (p : Box Expr Global) (l : Vec Operand Global) (ts : List Operand) (k : ℕ) → a ≡ e.Or p l → x ≡ p.value → ts ≡ l.items → k ≡ length ts → WritesPlaceAlone b w n u d class k x → WritesPlace b w n u d class a
  place_Or u d a x p l ts k h0 h1 h2 many f = on_level u d a x ts k many (place_same_Or u d a x p l ts h0 h1 h2) (place_other_Or u d a p l ts h0 h2) f

  pub place_And : (u d : DraftOf) (a x : Expr) (p : Box Expr Global) (l : Vec Operand Global) (ts : List Operand) (k : ℕ) → a ≡ e.And p l → x ≡ p.value → ts ≡ l.items → k ≡ length ts → WritesPlaceAlone b w n u d class k x → WritesPlace b w n u d class a
  place_And u d a x p l ts k h0 h1 h2 many f = on_level u d a x ts k many (place_same_And u d a x p l ts h0 h1 h2) (place_other_And u d a p l ts h0 h2) f

  pub place_Concatenation : (u d : DraftOf) (a x : Expr) (p : Box Expr Global) (l : Vec Operand Global) (ts : List Operand) (k : ℕ) → a ≡ e.Concatenation p l → x ≡ p.value → ts ≡ l.items → k ≡ length ts → WritesPlaceAlone b w n u d class k x → WritesPlace b w n u d class a
  place_Concatenation u d a x p l ts k h0 h1 h2 many f = on_level u d a x ts k many (place_same_Concatenation u d a x p l ts h0 h1 h2) (place_other_Concatenation u d a p l ts h0 h2) f

  pub place_Power : (u d : DraftOf) (a x : Expr) (p : Box Expr Global) (l : Vec Operand Global) (ts : List Operand) (k : ℕ) → a ≡ e.Power p l → x ≡ p.value → ts ≡ l.items → k ≡ length ts → WritesPlaceAlone b w n u d class k x → WritesPlace b w n u d class a
  place_Power u d a x p l ts k h0 h1 h2 many f = on_level u d a x ts k many (place_same_Power u d a x p l ts h0 h1 h2) (place_other_Power u d a p l ts h0 h2) f

  pub place_Product : (u d : DraftOf) (a x : Expr) (p : Box Expr Global) (l : Vec Factor Global) (ts : List Factor) (k : ℕ) → a ≡ e.Product p l → x ≡ p.value → ts ≡ l.items → k ≡ length ts → WritesPlaceAlone b w n u d class k x → WritesPlace b w n u d class a
  place_Product u d a x p l ts k h0 h1 h2 many f = on_level u d a x ts k many (place_same_Product u d a x p l ts h0 h1 h2) (place_other_Product u d a p l ts h0 h2) f

  pub place_Not : (u d : DraftOf) (a x : Expr) (p : Box Expr Global) (l : Vec TokenNo Global) (ts : List TokenNo) (k : ℕ) → a ≡ e.Not l p → x ≡ p.value → ts ≡ l.items → k ≡ length ts → WritesPlaceAlone b w n u d class k x → WritesPlace b w n u d class a
  place_Not u d a x p l ts k h0 h1 h2 many f = on_level u d a x ts k many (place_same_Not u d a x p l ts h0 h1 h2) (place_other_Not u d a p l ts h0 h2) f

  pub place_Sum : (u d : DraftOf) (a x : Expr) (m : Option LeadingSign) (p : Box Expr Global) (l : Vec Term Global) (ts : List Term) (k : ℕ) → a ≡ e.Sum m p l → m ≡ None → x ≡ p.value → ts ≡ l.items → k ≡ length ts → WritesPlaceAlone b w n u d class k x → WritesPlace b w n u d class a
  place_Sum u d a x m p l ts k h0 none h1 h2 many f = on_level u d a x ts k many (place_same_Sum u d a x m p l ts h0 none h1 h2) (place_other_Sum u d a m p l ts h0 h2) f

  -- ---- what is no variable

  pub place_other_If : (u d : DraftOf) (a : Expr) (t : TokenNo) (p q y : Box Expr Global) → a ≡ e.If t p q y → d ≡ given_up u → WritesPlace b w n u d class a
  place_other_If u d a t p q y h0 ed = place_other_form b w n u d class a form.Other (formed.other_If a t p q y h0) refl ed

  pub place_other_Related : (u d : DraftOf) (a : Expr) (p : Box Expr Global) (t : TokenNo) (k : Relation) (q : Box Expr Global) → a ≡ e.Related p t k q → d ≡ given_up u → WritesPlace b w n u d class a
  place_other_Related u d a p t k q h0 ed = place_other_form b w n u d class a form.Other (formed.other_Related a p t k q h0) refl ed

  pub place_other_Member : (u d : DraftOf) (a : Expr) (p : Box Expr Global) (t : TokenNo) (k : Membership) (x : Identifier) → a ≡ e.Member p t k x → d ≡ given_up u → WritesPlace b w n u d class a
  place_other_Member u d a p t k x h0 ed = place_other_form b w n u d class a form.Other (formed.other_Member a p t k x h0) refl ed

  pub place_other_Integer : (u d : DraftOf) (a : Expr) (t : TokenNo) (z : ℤ) → a ≡ e.Integer t z → d ≡ given_up u → WritesPlace b w n u d class a
  place_other_Integer u d a t z h0 ed = place_other_form b w n u d class a form.Other (formed.other_Integer a t z h0) refl ed

  pub place_other_Character : (u d : DraftOf) (a : Expr) (t : TokenNo) (z : ℕ) → a ≡ e.Character t z → d ≡ given_up u → WritesPlace b w n u d class a
  place_other_Character u d a t z h0 ed = place_other_form b w n u d class a form.Other (formed.other_Character a t z h0) refl ed

  pub place_other_Text : (u d : DraftOf) (a : Expr) (t : TokenNo) (z : List ℕ) → a ≡ e.Text t z → d ≡ given_up u → WritesPlace b w n u d class a
  place_other_Text u d a t z h0 ed = place_other_form b w n u d class a form.Other (formed.other_Text a t z h0) refl ed

  pub place_other_True : (u d : DraftOf) (a : Expr) (t : TokenNo) → a ≡ e.True t → d ≡ given_up u → WritesPlace b w n u d class a
  place_other_True u d a t h0 ed = place_other_form b w n u d class a form.Other (formed.other_True a t h0) refl ed

  pub place_other_False : (u d : DraftOf) (a : Expr) (t : TokenNo) → a ≡ e.False t → d ≡ given_up u → WritesPlace b w n u d class a
  place_other_False u d a t h0 ed = place_other_form b w n u d class a form.Other (formed.other_False a t h0) refl ed

  pub place_other_NoObject : (u d : DraftOf) (a : Expr) (t : TokenNo) → a ≡ e.NoObject t → d ≡ given_up u → WritesPlace b w n u d class a
  place_other_NoObject u d a t h0 ed = place_other_form b w n u d class a form.Other (formed.other_NoObject a t h0) refl ed

  pub place_other_Notext : (u d : DraftOf) (a : Expr) (t : TokenNo) → a ≡ e.Notext t → d ≡ given_up u → WritesPlace b w n u d class a
  place_other_Notext u d a t h0 ed = place_other_form b w n u d class a form.Other (formed.other_Notext a t h0) refl ed

  pub place_other_This : (u d : DraftOf) (a : Expr) (t : TokenNo) (x : Identifier) → a ≡ e.This t x → d ≡ given_up u → WritesPlace b w n u d class a
  place_other_This u d a t x h0 ed = place_other_form b w n u d class a form.Other (formed.other_This a t x h0) refl ed

  pub place_other_New : (u d : DraftOf) (a : Expr) (t : TokenNo) (x : Identifier) (l : Vec Expr Global) → a ≡ e.New t x l → d ≡ given_up u → WritesPlace b w n u d class a
  unfolding WritesPlace PutsPlace
  place_other_New u d a t x l is ed = emits_nothing w u d _ _ (λ h. subst (PlaceBuilt (source_of b) w.text) (ap syntax_of is ∙ v.syntax-New t x l) h) ed

  pub place_is_named : (u d : DraftOf) (a : Expr) (k : Identifier) (l : Vec Expr Global) (ts : List Expr) → a ≡ e.Named k l → ts ≡ l.items → WritesNamedPlace b w n u d class k ts → WritesPlace b w n u d class a
  unfolding WritesPlace WritesNamedPlace
  place_is_named u d a k l ts is et g = subst (λ z. PutsPlace (source_of b) w n u d class z) (sym (ap syntax_of is ∙ v.syntax-Named k l ∙ ap (λ z. Named k (expressions (map syntax_of z))) (sym et))) g

  pub place_is_taken : (u c0 c d : DraftOf) (a x : Expr) (p : Box Expr Global) (l : Vec Selector Global) (ts : List Selector) (o0 o : Object) (moves : Bool) (m : ℕ) (y : Selector) → a ≡ e.Postfix p l → x ≡ p.value → ts ≡ l.items → length ts ≢ 0 → moves ≡ moves_next (source_of b) (drop 0 (map selector_syntax ts)) → WritesStart b w n u c0 moves o0 x → WritesSteps b w n c0 c o0 ts o
      → m ≡ length ts - 1 → y ≡ slice_index_or ts m y → WritesTakenPlace b w n c d class o y → WritesPlace b w n u d class a
  unfolding WritesPlace
  place_is_taken u c0 c d a x p l ts o0 o moves m y is ex et some' eo f h em ey g =
      subst (λ z. PutsPlace (source_of b) w n u d class z) (sym (ap syntax_of is ∙ v.syntax-Postfix p l ∙ ap (λ z. selected (syntax_of z) (map selector_syntax l.items)) (sym ex) ∙ ap (λ z. selected (syntax_of x) (map selector_syntax z)) (sym et)))
      (place_taken_last b w n u c d class x ts o m y some' em ey (taken_before b w n u c0 c x ts o0 o moves eo f h) g)

  pub place_is_closed : (u d : DraftOf) (a : Expr) (t : TokenNo) (p : Box Expr Global) → a ≡ e.Parentheses t p → d ≡ given_up u → WritesPlace b w n u d class a
  unfolding WritesPlace PutsPlace
  place_is_closed u d a t p is ed = emits_nothing w u d _ _ (λ h. subst (PlaceBuilt (source_of b) w.text) (ap syntax_of is ∙ v.syntax-Parentheses t p) h) ed

pub ruleset places = (place_OrElse, place_AndThen, place_Eqv, place_Imp, place_Or, place_And, place_Concatenation, place_Power, place_Product, place_Not, place_Sum, place_same_Postfix, place_signed_Sum, place_other_If, place_other_Related, place_other_Member, place_other_Integer, place_other_Character, place_other_Text, place_other_True, place_other_False, place_other_NoObject, place_other_Notext, place_other_This, place_other_New, place_is_named, place_is_taken, place_is_closed)

pub ruleset alone = (alone_place, alone_no_place)

-- where what is taken lies
pub ruleset taken_places = (taken_place_stream, taken_place_value, taken_place_place, taken_place_cast)

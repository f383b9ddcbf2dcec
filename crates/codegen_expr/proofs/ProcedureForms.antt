-- Expressions that are procedures, behind levels of operators that have no operator.
use Rattle.std.proofs.Common.{suc, ◌∷◌, [], ◌≡◌, ◌≢◌, ◌<◌, ◌-◌, Bool, drop, take, ℕ, ℤ, List, length, map, Option, Some, None, refl, sym, ap, ◌∙◌, subst, arith}
use Rattle.std.specs.Prelude.{slice_index_or}
use Rattle.std.specs.declared.alloc.Global.{Global}
use Rattle.std.specs.declared.boxed.Box.{Box}
use Rattle.std.specs.declared.vec.Vec.{Vec}
use Rattle.sim_base.specs.declared.numbering.TokenNo.{TokenNo}
use Rattle.sim_scope.specs.declared.bound.Bound.{Bound}
use Rattle.sim_scope.specs.Source.{source_of}
use Rattle.sim_tree.specs.declared.expr.Expr.{Expr}
use Rattle.sim_tree.specs.declared.expr.Expr.TheVariants as expr
use Rattle.sim_tree.specs.declared.expr.Factor.{Factor}
use Rattle.sim_tree.specs.declared.expr.Identifier.{Identifier}
use Rattle.sim_tree.specs.declared.expr.LeadingSign.{LeadingSign}
use Rattle.sim_tree.specs.declared.expr.Membership.{Membership}
use Rattle.sim_tree.specs.declared.expr.Operand.{Operand}
use Rattle.sim_tree.specs.declared.expr.Relation.{Relation}
use Rattle.sim_tree.specs.declared.expr.Selector.{Selector}
use Rattle.sim_tree.specs.declared.expr.Selector.TheVariants as selector
use Rattle.sim_tree.specs.declared.expr.Term.{Term}
use Rattle.sim_tree.specs.Syntax.{Binary, Constant, Dot, Expression, If, Member, Named, New, NoMore, Not, Parentheses, Qua, Signed, This, expressions}
use Rattle.sim_tree.specs.SyntaxOf.{Cast, Selection, Take, selected, selector_syntax, syntax_of}
use Rattle.sim_tree.proofs.SyntaxLemmas as v
use Rattle.codegen_expr.specs.declared.operators.Object.{Object}
use Rattle.codegen_expr.specs.declared.spot.Spot.{Spot}
use Rattle.codegen_expr.specs.Built.{ProcedureBuilt}
use Rattle.codegen_expr.specs.CodeExpr.{ProcedureAt}
use Rattle.codegen_expr.specs.Drafts.{DraftOf, Emits, given_up}
use Rattle.codegen_expr.specs.Emit.{PutsBefore, WritesBefore, WritesStart, WritesSteps, moves_next, moves_selection}
use Rattle.codegen_expr.specs.EmitVirtuals.{WritesProcedure, WritesProcedureAlone, WritesProcedureDot, WritesProcedureLast, WritesProcedureSeen}
use Rattle.codegen_expr.specs.Forms.{FindsForm, IsOther}
use Rattle.codegen_expr.specs.declared.forms.Form.TheVariants as form
use Rattle.codegen_expr.proofs.Attributes.{form_at, selector-Dot, selector-Qua}
use Rattle.codegen_expr.proofs.Formed as formed
use Rattle.codegen_expr.proofs.Pieces.{emits_nothing}
use Rattle.codegen_expr.proofs.Taken.{at_drop, before_gives_up, next_is, one_more, take_map, taken_before}

no_actuals : (es : List Expr) → length es ≡ 0 → expressions (map syntax_of es) ≡ NoMore
no_actuals [] none = refl
no_actuals (y ∷ ys) none = absurd (omega (arith, none))

module _ (b : Bound) (w : Spot) (n : ℕ) where
  abbrev Value' : (a c : DraftOf) → Expression → Type 0
  Value' a c e = Emits w a c (ProcedureBuilt (source_of b) w.text e) (λ final site p q. ProcedureAt (source_of b) final site n e p q)

  -- ---- the last thing that is taken of an operand

  abbrev Lasts : (a c : DraftOf) → Object → Selection → Type 0
  Lasts a c o z = (start : DraftOf) (e : Expression) → PutsBefore (source_of b) w n start a (moves_selection (source_of b) z) o e → Value' start c (selected e (z ∷ []))

  last_at : (a c : DraftOf) (o : Object) (y : Selector) (z : Selection) → selector_syntax y ≡ z → Lasts a c o z → WritesProcedureLast b w n a c o y
  unfolding WritesProcedureLast
  last_at a c o y z is f = subst (Lasts a c o) (sym is) f

  pub last_procedure : (a c : DraftOf) (o : Object) (y : Selector) (j : TokenNo) (k : Identifier) (args : Vec Expr Global) → y ≡ selector.Dot j k args → length args.items ≡ 0 → WritesProcedureDot b w n a c o k → WritesProcedureLast b w n a c o y
  unfolding WritesProcedureDot
  last_procedure a c o y j k args ey none f = last_at a c o y (Take j.0 k NoMore) (ap selector_syntax ey ∙ selector-Dot j k args ∙ ap (Take j.0 k) (no_actuals args.items none)) (λ start e before. f start e before)

  called_dot : (j : ℕ) (e : Expression) (k : Identifier) (es : List Expr) → length es ≢ 0 → ProcedureBuilt (source_of b) w.text (Dot j e k (expressions (map syntax_of es))) → ⊥
  called_dot j e k [] some' t = some' refl
  called_dot j e k (z ∷ zs) some' t = t

  pub last_called : (a c : DraftOf) (o : Object) (y : Selector) (j : TokenNo) (k : Identifier) (args : Vec Expr Global) → y ≡ selector.Dot j k args → length args.items ≢ 0 → c ≡ given_up a → WritesProcedureLast b w n a c o y
  last_called a c o y j k args ey some' ec = last_at a c o y (Take j.0 k (expressions (map syntax_of args.items))) (ap selector_syntax ey ∙ selector-Dot j k args) (λ start e before. before_gives_up b w n _ _ start a c _ o e before (called_dot j.0 e k args.items some') ec)

  pub last_cast : (a c : DraftOf) (o : Object) (y : Selector) (j : TokenNo) (k : Identifier) → y ≡ selector.Qua j k → c ≡ given_up a → WritesProcedureLast b w n a c o y
  last_cast a c o y j k ey ec = last_at a c o y (Cast j.0 k) (ap selector_syntax ey ∙ selector-Qua j k) (λ start e before. before_gives_up b w n _ _ start a c _ o e before (λ t. t) ec)

  procedure_last : (a c0 c : DraftOf) (x : Expr) (ys : List Selector) (o : Object) (m : ℕ) (y : Selector) → length ys ≢ 0 → m ≡ length ys - 1 → y ≡ slice_index_or ys m y → WritesBefore b w n a c0 o x ys → WritesProcedureLast b w n c0 c o y → Value' a c (selected (syntax_of x) (map selector_syntax ys))
  unfolding WritesBefore WritesProcedureLast
  procedure_last a c0 c x ys o m y some' em is f g =
      let s = source_of b in
      let zs = map selector_syntax ys in
      let k = length ys - 1 in
      let e = syntax_of x in
      let is' : y ≡ slice_index_or ys k y = subst (λ t. y ≡ slice_index_or ys t y) em is in
      let lt : k < length ys = omega (arith, some') in
      let f' = subst (λ t. PutsBefore s w n a c0 t o (selected e (take k zs))) (next_is b w n ys k y lt is') f in
      let all : selected (selected e (take k zs)) (selector_syntax y ∷ []) ≡ selected e zs = one_more b w n zs k (selector_syntax y) (drop (suc k) zs) e (at_drop b w n ys k y lt is') ∙ ap (selected e) (take_map b w n ys (suc k) (omega (arith, some'))) in
      subst (Value' a c) all (g a (selected e (take k zs)) f')

  -- ---- what is no procedure

  built_other : (x : Expression) → IsOther x → ProcedureBuilt (source_of b) w.text x → ⊥
  built_other (If i c a e) h t = t
  built_other (Binary op i a e) h t = t
  built_other (Not i a) h t = t
  built_other (Signed k i a) h t = t
  built_other (Member m i a k) h t = t
  built_other (Dot i a k args) h t = absurd h
  built_other (Qua i a k) h t = absurd h
  built_other (Constant l i) h t = t
  built_other (Named k args) h t = absurd h
  built_other (This i k) h t = t
  built_other (New i k args) h t = absurd h
  built_other (Parentheses i a) h t = absurd h

  none : (u d : DraftOf) (a : Expr) → FindsForm form.Other a → d ≡ given_up u → WritesProcedure b w n u d a
  unfolding WritesProcedure
  none u d a h ed = emits_nothing w u d _ _ (built_other (syntax_of a) (form_at form.Other form.Other a h refl)) ed

  pub no_If : (u d : DraftOf) (a : Expr) (t : TokenNo) (p q y : Box Expr Global) → a ≡ expr.If t p q y → d ≡ given_up u → WritesProcedure b w n u d a
  no_If u d a t p q y h0 ed = none u d a (formed.other_If a t p q y h0) ed

  pub no_Related : (u d : DraftOf) (a : Expr) (p : Box Expr Global) (t : TokenNo) (k : Relation) (q : Box Expr Global) → a ≡ expr.Related p t k q → d ≡ given_up u → WritesProcedure b w n u d a
  no_Related u d a p t k q h0 ed = none u d a (formed.other_Related a p t k q h0) ed

  pub no_Member : (u d : DraftOf) (a : Expr) (p : Box Expr Global) (t : TokenNo) (k : Membership) (x : Identifier) → a ≡ expr.Member p t k x → d ≡ given_up u → WritesProcedure b w n u d a
  no_Member u d a p t k x h0 ed = none u d a (formed.other_Member a p t k x h0) ed

  pub no_Integer : (u d : DraftOf) (a : Expr) (t : TokenNo) (z : ℤ) → a ≡ expr.Integer t z → d ≡ given_up u → WritesProcedure b w n u d a
  no_Integer u d a t z h0 ed = none u d a (formed.other_Integer a t z h0) ed

  pub no_Character : (u d : DraftOf) (a : Expr) (t : TokenNo) (z : ℕ) → a ≡ expr.Character t z → d ≡ given_up u → WritesProcedure b w n u d a
  no_Character u d a t z h0 ed = none u d a (formed.other_Character a t z h0) ed

  pub no_Text : (u d : DraftOf) (a : Expr) (t : TokenNo) (z : List ℕ) → a ≡ expr.Text t z → d ≡ given_up u → WritesProcedure b w n u d a
  no_Text u d a t z h0 ed = none u d a (formed.other_Text a t z h0) ed

  pub no_True : (u d : DraftOf) (a : Expr) (t : TokenNo) → a ≡ expr.True t → d ≡ given_up u → WritesProcedure b w n u d a
  no_True u d a t h0 ed = none u d a (formed.other_True a t h0) ed

  pub no_False : (u d : DraftOf) (a : Expr) (t : TokenNo) → a ≡ expr.False t → d ≡ given_up u → WritesProcedure b w n u d a
  no_False u d a t h0 ed = none u d a (formed.other_False a t h0) ed

  pub no_NoObject : (u d : DraftOf) (a : Expr) (t : TokenNo) → a ≡ expr.NoObject t → d ≡ given_up u → WritesProcedure b w n u d a
  no_NoObject u d a t h0 ed = none u d a (formed.other_NoObject a t h0) ed

  pub no_Notext : (u d : DraftOf) (a : Expr) (t : TokenNo) → a ≡ expr.Notext t → d ≡ given_up u → WritesProcedure b w n u d a
  no_Notext u d a t h0 ed = none u d a (formed.other_Notext a t h0) ed

  pub no_This : (u d : DraftOf) (a : Expr) (t : TokenNo) (x : Identifier) → a ≡ expr.This t x → d ≡ given_up u → WritesProcedure b w n u d a
  no_This u d a t x h0 ed = none u d a (formed.other_This a t x h0) ed

  pub no_New : (u d : DraftOf) (a : Expr) (t : TokenNo) (x : Identifier) (l : Vec Expr Global) → a ≡ expr.New t x l → d ≡ given_up u → WritesProcedure b w n u d a
  unfolding WritesProcedure
  no_New u d a t x l is ed = subst (Value' u d) (sym (ap syntax_of is ∙ v.syntax-New t x l)) (emits_nothing w u d _ _ (λ h. h) ed)

  pub no_Parentheses : (u d : DraftOf) (a : Expr) (t : TokenNo) (p : Box Expr Global) → a ≡ expr.Parentheses t p → d ≡ given_up u → WritesProcedure b w n u d a
  unfolding WritesProcedure
  no_Parentheses u d a t p is ed = subst (Value' u d) (sym (ap syntax_of is ∙ v.syntax-Parentheses t p)) (emits_nothing w u d _ _ (λ h. h) ed)

  pub no_signed_Sum : (u d : DraftOf) (a : Expr) (m : Option LeadingSign) (k : LeadingSign) (p : Box Expr Global) (l : Vec Term Global) → a ≡ expr.Sum m p l → m ≡ Some k → d ≡ given_up u → WritesProcedure b w n u d a
  no_signed_Sum u d a m k p l h0 h1 ed = none u d a (formed.signed_Sum a m k p l h0 h1) ed

  -- ---- operands alone

  pub alone_procedure : (u d : DraftOf) (k : ℕ) (x : Expr) → k ≡ 0 → WritesProcedure b w n u d x → WritesProcedureAlone b w n u d k x
  unfolding WritesProcedureAlone
  alone_procedure u d k x none' f = ((λ _. f), (λ some'. absurd (some' none')))

  pub alone_no_procedure : (u d : DraftOf) (k : ℕ) (x : Expr) → k ≢ 0 → d ≡ given_up u → WritesProcedureAlone b w n u d k x
  unfolding WritesProcedureAlone
  alone_no_procedure u d k x some' ed = ((λ none'. absurd (some' none')), (λ _. ed))

  same : (u d : DraftOf) (a x : Expr) → syntax_of a ≡ syntax_of x → WritesProcedure b w n u d x → WritesProcedure b w n u d a
  unfolding WritesProcedure
  same u d a x is f = subst (Value' u d) (sym is) f

  -- an operand of a level is the procedure where no others stand beside it, and with others there is none
  on_level : {A : Type 0} (u d : DraftOf) (a x : Expr) (ts : List A) (k : ℕ) → k ≡ length ts → (length ts ≡ 0 → syntax_of a ≡ syntax_of x) → (length ts ≢ 0 → FindsForm form.Other a) → WritesProcedureAlone b w n u d k x → WritesProcedure b w n u d a
  unfolding WritesProcedureAlone
  on_level u d a x [] k many level other f = same u d a x (level refl) (f.0 many)
  on_level u d a x (t ∷ ts) k many level other f =
      let more : suc (length ts) ≢ 0 = λ z. cc in
      none u d a (other more) (f.1 (λ z. more (sym many ∙ z)))

  pub procedure_OrElse : (u d : DraftOf) (a x : Expr) (p : Box Expr Global) (l : Vec Operand Global) (ts : List Operand) (k : ℕ) → a ≡ expr.OrElse p l → x ≡ p.value → ts ≡ l.items → k ≡ length ts → WritesProcedureAlone b w n u d k x → WritesProcedure b w n u d a
  procedure_OrElse u d a x p l ts k h0 h1 h2 many f = on_level u d a x ts k many (formed.level_OrElse a x p l ts h0 h1 h2) (formed.other_OrElse a p l ts h0 h2) f

  pub procedure_AndThen : (u d : DraftOf) (a x : Expr) (p : Box Expr Global) (l : Vec Operand Global) (ts : List Operand) (k : ℕ) → a ≡ expr.AndThen p l → x ≡ p.value → ts ≡ l.items → k ≡ length ts → WritesProcedureAlone b w n u d k x → WritesProcedure b w n u d a
  procedure_AndThen u d a x p l ts k h0 h1 h2 many f = on_level u d a x ts k many (formed.level_AndThen a x p l ts h0 h1 h2) (formed.other_AndThen a p l ts h0 h2) f

  pub procedure_Eqv : (u d : DraftOf) (a x : Expr) (p : Box Expr Global) (l : Vec Operand Global) (ts : List Operand) (k : ℕ) → a ≡ expr.Eqv p l → x ≡ p.value → ts ≡ l.items → k ≡ length ts → WritesProcedureAlone b w n u d k x → WritesProcedure b w n u d a
  procedure_Eqv u d a x p l ts k h0 h1 h2 many f = on_level u d a x ts k many (formed.level_Eqv a x p l ts h0 h1 h2) (formed.other_Eqv a p l ts h0 h2) f

  pub procedure_Imp : (u d : DraftOf) (a x : Expr) (p : Box Expr Global) (l : Vec Operand Global) (ts : List Operand) (k : ℕ) → a ≡ expr.Imp p l → x ≡ p.value → ts ≡ l.items → k ≡ length ts → WritesProcedureAlone b w n u d k x → WritesProcedure b w n u d a
  procedure_Imp u d a x p l ts k h0 h1 h2 many f = on_level u d a x ts k many (formed.level_Imp a x p l ts h0 h1 h2) (formed.other_Imp a p l ts h0 h2) f

  pub procedure_Or : (u d : DraftOf) (a x : Expr) (p : Box Expr Global) (l : Vec Operand Global) (ts : List Operand) (k : ℕ) → a ≡ expr.Or p l → x ≡ p.value → ts ≡ l.items → k ≡ length ts → WritesProcedureAlone b w n u d k x → WritesProcedure b w n u d a
  procedure_Or u d a x p l ts k h0 h1 h2 many f = on_level u d a x ts k many (formed.level_Or a x p l ts h0 h1 h2) (formed.other_Or a p l ts h0 h2) f

  pub procedure_And : (u d : DraftOf) (a x : Expr) (p : Box Expr Global) (l : Vec Operand Global) (ts : List Operand) (k : ℕ) → a ≡ expr.And p l → x ≡ p.value → ts ≡ l.items → k ≡ length ts → WritesProcedureAlone b w n u d k x → WritesProcedure b w n u d a
  procedure_And u d a x p l ts k h0 h1 h2 many f = on_level u d a x ts k many (formed.level_And a x p l ts h0 h1 h2) (formed.other_And a p l ts h0 h2) f

  pub procedure_Concatenation : (u d : DraftOf) (a x : Expr) (p : Box Expr Global) (l : Vec Operand Global) (ts : List Operand) (k : ℕ) → a ≡ expr.Concatenation p l → x ≡ p.value → ts ≡ l.items → k ≡ length ts → WritesProcedureAlone b w n u d k x → WritesProcedure b w n u d a
  procedure_Concatenation u d a x p l ts k h0 h1 h2 many f = on_level u d a x ts k many (formed.level_Concatenation a x p l ts h0 h1 h2) (formed.other_Concatenation a p l ts h0 h2) f

  pub procedure_Power : (u d : DraftOf) (a x : Expr) (p : Box Expr Global) (l : Vec Operand Global) (ts : List Operand) (k : ℕ) → a ≡ expr.Power p l → x ≡ p.value → ts ≡ l.items → k ≡ length ts → WritesProcedureAlone b w n u d k x → WritesProcedure b w n u d a
  procedure_Power u d a x p l ts k h0 h1 h2 many f = on_level u d a x ts k many (formed.level_Power a x p l ts h0 h1 h2) (formed.other_Power a p l ts h0 h2) f

  pub procedure_Product : (u d : DraftOf) (a x : Expr) (p : Box Expr Global) (l : Vec Factor Global) (ts : List Factor) (k : ℕ) → a ≡ expr.Product p l → x ≡ p.value → ts ≡ l.items → k ≡ length ts → WritesProcedureAlone b w n u d k x → WritesProcedure b w n u d a
  procedure_Product u d a x p l ts k h0 h1 h2 many f = on_level u d a x ts k many (formed.level_Product a x p l ts h0 h1 h2) (formed.other_Product a p l ts h0 h2) f

  pub procedure_Not : (u d : DraftOf) (a x : Expr) (p : Box Expr Global) (l : Vec TokenNo Global) (ts : List TokenNo) (k : ℕ) → a ≡ expr.Not l p → x ≡ p.value → ts ≡ l.items → k ≡ length ts → WritesProcedureAlone b w n u d k x → WritesProcedure b w n u d a
  procedure_Not u d a x p l ts k h0 h1 h2 many f = on_level u d a x ts k many (formed.level_Not a x p l ts h0 h1 h2) (formed.other_Not a p l ts h0 h2) f

  pub procedure_Sum : (u d : DraftOf) (a x : Expr) (m : Option LeadingSign) (p : Box Expr Global) (l : Vec Term Global) (ts : List Term) (k : ℕ) → a ≡ expr.Sum m p l → m ≡ None → x ≡ p.value → ts ≡ l.items → k ≡ length ts → WritesProcedureAlone b w n u d k x → WritesProcedure b w n u d a
  procedure_Sum u d a x m p l ts k h0 unsigned h1 h2 many f = on_level u d a x ts k many (formed.level_Sum a x m p l ts h0 unsigned h1 h2) (formed.other_Sum a m p l ts h0 h2) f

  -- ---- identifiers

  pub procedure_alone : (u d : DraftOf) (a : Expr) (k : Identifier) (l : Vec Expr Global) → a ≡ expr.Named k l → length l.items ≡ 0 → WritesProcedureSeen b w n u d k → WritesProcedure b w n u d a
  unfolding WritesProcedure WritesProcedureSeen
  procedure_alone u d a k l is none' g = subst (Value' u d) (sym (ap syntax_of is ∙ v.syntax-Named k l ∙ ap (Named k) (no_actuals l.items none'))) g

  called : (k : Identifier) (es : List Expr) → length es ≢ 0 → ProcedureBuilt (source_of b) w.text (Named k (expressions (map syntax_of es))) → ⊥
  called k [] some' t = some' refl
  called k (z ∷ zs) some' t = t

  pub procedure_called : (u d : DraftOf) (a : Expr) (k : Identifier) (l : Vec Expr Global) → a ≡ expr.Named k l → length l.items ≢ 0 → d ≡ given_up u → WritesProcedure b w n u d a
  unfolding WritesProcedure
  procedure_called u d a k l is some' ed = subst (Value' u d) (sym (ap syntax_of is ∙ v.syntax-Named k l)) (emits_nothing w u d _ _ (called k l.items some') ed)

  -- ---- what is taken of an operand

  pub procedure_of_nothing : (u d : DraftOf) (a x : Expr) (p : Box Expr Global) (l : Vec Selector Global) (ts : List Selector) → a ≡ expr.Postfix p l → x ≡ p.value → ts ≡ l.items → length ts ≡ 0 → WritesProcedure b w n u d x → WritesProcedure b w n u d a
  procedure_of_nothing u d a x p l ts h0 h1 h2 h3 f = same u d a x (formed.level_Postfix a x p l ts h0 h1 h2 h3) f

  pub procedure_taken : (u c0 c d : DraftOf) (a x : Expr) (p : Box Expr Global) (l : Vec Selector Global) (ts : List Selector) (o0 o : Object) (moves : Bool) (m : ℕ) (y : Selector) → a ≡ expr.Postfix p l → x ≡ p.value → ts ≡ l.items → length ts ≢ 0 → moves ≡ moves_next (source_of b) (drop 0 (map selector_syntax ts)) → WritesStart b w n u c0 moves o0 x → WritesSteps b w n c0 c o0 ts o
      → m ≡ length ts - 1 → y ≡ slice_index_or ts m y → WritesProcedureLast b w n c d o y → WritesProcedure b w n u d a
  unfolding WritesProcedure
  procedure_taken u c0 c d a x p l ts o0 o moves m y is ex et some' eo f h em ey g =
      subst (Value' u d) (sym (ap syntax_of is ∙ v.syntax-Postfix p l ∙ ap (λ z. selected (syntax_of z) (map selector_syntax l.items)) (sym ex) ∙ ap (λ z. selected (syntax_of x) (map selector_syntax z)) (sym et)))
      (procedure_last u c d x ts o m y some' em ey (taken_before b w n u c0 c x ts o0 o moves eo f h) g)

pub ruleset last = (last_procedure, last_called, last_cast)

pub ruleset alone = (alone_procedure, alone_no_procedure)

pub ruleset forms = (procedure_OrElse, procedure_AndThen, procedure_Eqv, procedure_Imp, procedure_Or, procedure_And, procedure_Concatenation, procedure_Power, procedure_Product, procedure_Not, procedure_Sum, no_signed_Sum, no_If, no_Related, no_Member, no_Integer, no_Character, no_Text, no_True, no_False, no_NoObject, no_Notext, no_This, no_New, no_Parentheses, procedure_alone, procedure_called, procedure_of_nothing, procedure_taken)

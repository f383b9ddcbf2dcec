-- What is told of an expression is what its judgements tell, each by itself.
use Rattle.std.proofs.Common.{◌≡◌, ℕ, Bool, true, false, List, [], ◌∷◌, ◌++◌, Option, Some, None, refl, sym, ap, ◌∙◌, append-nil, subst}
use Rattle.sim_tree.specs.declared.expr.Identifier.{Identifier}
use Rattle.sim_tree.specs.Syntax.{Binary, Constant, Dot, Expression, Expressions, If, Member, Named, New, NoMore, Not, Parentheses, Qua, Signed, Then, This, first_of}
use Rattle.sim_scope.specs.Actuals.{more, no_actuals, parameter_at, with_actual}
use Rattle.sim_scope.specs.Expressions.{actuals, judge}
use Rattle.sim_scope.specs.Found.{Broken, Event, FoundIn, Typed, Uses, fault}
use Rattle.sim_scope.specs.Judged.{gives, next, telling}
use Rattle.sim_scope.specs.Least.{faults}
use Rattle.sim_scope.specs.Outcomes.{has, in_parentheses, side, three, two}
use Rattle.sim_scope.specs.Outcomes as operators
use Rattle.sim_scope.specs.References.{as_class, class_barred, class_named, class_value, member, new_object, qualified, this_object}
use Rattle.sim_scope.specs.Runs.{each}
use Rattle.sim_scope.specs.Tables.{Tables}
use Rattle.sim_scope.specs.declared.outcome.Actuals.{Actuals}
use Rattle.sim_scope.specs.declared.outcome.Extent.{Extent}
use Rattle.sim_scope.specs.declared.scopes.Denotation.{Denotation}
use Rattle.sim_scope.specs.declared.types.SimType.{SimType}
use Rattle.sim_scope.specs.declared.types.SimType.TheVariants as t
use Rattle.sim_scope.specs.Calls.{attribute, bound, used}
use Rattle.sim_scope.specs.declared.outcome.Occurrence.{Occurrence}
use Rattle.sim_scope.specs.declared.outcome.Outcome.{Outcome}
use Rattle.sim_scope.specs.declared.outcome.Side.{Side}
use Rattle.prefix_bind.proofs.Numbers.{each-append}
use Rattle.static_rules.specs.Judgements.{ActualFor, Arms, Attribute, ComparedWith, InParentheses, Judgement, NamesClass, NewOf, Occurs, Operand, Operands, ThisOf, Used, Value, actuals_judged, attribute_of, class_of, finds, judged, names_class, occurrence, operand, outcome, tells, given}
use Rattle.static_rules.specs.Types.{attribute_as}
use Rattle.static_rules.proofs.Whats.{attribute_value, bound_value, class_value_is, operand_is, what_is}

pub faults-append : (es fs : List Event) → faults (es ++ fs) ≡ faults es ++ faults fs
faults-append [] fs = refl
faults-append (Broken token rule ∷ es) fs = ap (λ z. fault token rule ∷ z) (faults-append es fs)
faults-append (Uses token d ∷ es) fs = faults-append es fs
faults-append (FoundIn token block ∷ es) fs = faults-append es fs
faults-append (Typed token ty ∷ es) fs = faults-append es fs

-- the same rules are broken
pub record Same (s : Tables) (es : List Event) (js : List Judgement) : Type 0 where
  pub same : faults es ≡ each (finds s) js

pub none : {s : Tables} → Same s [] []
none = record { same = refl }

pub silent : {s : Tables} {es : List Event} → faults es ≡ [] → Same s es []
silent e = record { same = e }

pub one : {s : Tables} (j : Judgement) → Same s (tells s j) (j ∷ [])
unfolding finds
one {s} j = record { same = sym (append-nil (finds s j)) }

pub both : {s : Tables} {es fs : List Event} {js ks : List Judgement} → Same s es js → Same s fs ks → Same s (es ++ fs) (js ++ ks)
both {s} {es} {fs} {js} {ks} h k =
    record { same = faults-append es fs ∙ ap (λ z. z ++ faults fs) h.same ∙ ap (λ z. each (finds s) js ++ z) k.same ∙ sym (each-append (finds s) js ks) }

pub every : {s : Tables} {A : Type 0} (f : A → List Event) (g : A → List Judgement) → ((a : A) → Same s (f a) (g a)) → (xs : List A) → Same s (each f xs) (each g xs)
every f g h [] = none
every f g h (x ∷ xs) = both (h x) (every f g h xs)

module _ (s : Tables) where
  value_silent : (naming : ℕ) (barred : Bool) (ty : Option SimType) (class : Option Denotation) (type : Denotation → SimType) → faults (class_value naming barred ty class type).events ≡ []
  unfolding has telling gives
  value_silent naming true ty class type = refl
  value_silent naming false None class type = refl
  value_silent naming false (Some a) None type = refl
  value_silent naming false (Some a) (Some d) type = refl

  -- where judgements speak of what expressions are
  pub outcome_same : (e : Extent) (x : Expression) (f : Outcome → List Event) {js : List Judgement} → Same s (f (outcome s e x)) js → Same s (f (judge s e x).value) js
  outcome_same e x f {js} h = subst (λ o. Same s (f o) js) (sym (what_is s e x)) h

  pub operand_same : (e : Extent) (x : Expression) (f : Side → List Event) {js : List Judgement} → Same s (f (operand s e x)) js → Same s (f (side s (first_of x) (judge s e x).value).value) js
  operand_same e x f {js} h = subst (λ v. Same s (f v) js) (sym (operand_is s e x)) h

  pub occurrence_same : (e : Extent) (x : Identifier) (f : Occurrence → List Event) {js : List Judgement} → Same s (f (occurrence s e x)) js → Same s (f (bound s e x).value) js
  occurrence_same e x f {js} h = subst (λ o. Same s (f o) js) (sym (bound_value s e x)) h

  pub class_of_same : (e : Extent) (x : Identifier) (f : Occurrence → List Event) {js : List Judgement} → Same s (f (class_of s e x)) js → Same s (f (class_named s e x).value) js
  class_of_same e x f {js} h = subst (λ o. Same s (f o) js) (sym (class_value_is s e x)) h

  attribute_same : (e : Extent) (a : Expression) (x : Identifier) (f : Occurrence → List Event) {js : List Judgement} → Same s (f (attribute_of s e a x)) js → Same s (f (attribute s e x (first_of a) (judge s e a).value).value) js
  attribute_same e a x f {js} h = subst (λ o. Same s (f o) js) (sym (attribute_value s e x (first_of a) (judge s e a).value ∙ ap (attribute_as s e x) (what_is s e a))) h

  pub value_same : (e : Extent) (x : Expression) → Same s (side s (first_of x) (judge s e x).value).events (Value e x ∷ [])
  value_same e x = outcome_same e x (λ o. (side s (first_of x) o).events) (one (Value e x))

  more_same : (e : Extent) (d : Option Denotation) (a : Actuals) (x : Expression) → Same s (more s d a (first_of x) (outcome s e x)).events (ActualFor (parameter_at s d a.count) e x ∷ [])
  unfolding more next gives
  more_same e d a x = both (one (ActualFor (parameter_at s d a.count) e x)) none

  member_same : (e : Extent) (i : ℕ) (a : Expression) (class : Identifier) → Same s (member s i (operand s e a) class (class_of s e class)).events (ComparedWith e a class ∷ [])
  unfolding member next
  member_same e i a class = both (one (ComparedWith e a class)) (silent (value_silent i (class_barred s (operand s e a) class.token.0 (class_of s e class)).value (operand s e a).ty (class_of s e class).denotes _))

  qualified_same : (e : Extent) (i : ℕ) (a : Expression) (class : Identifier) → Same s (qualified s i (operand s e a) class (class_of s e class)).events (ComparedWith e a class ∷ [])
  unfolding qualified next
  qualified_same e i a class = both (one (ComparedWith e a class)) (silent (value_silent i (class_barred s (operand s e a) class.token.0 (class_of s e class)).value (operand s e a).ty (class_of s e class).denotes _))

  pub class_same : (e : Extent) (class : Identifier) → Same s (class_named s e class).events (names_class e class)
  unfolding class_named next
  class_same e class = both (one (Occurs e class)) (occurrence_same e class (λ o. (as_class s class.token.0 o).events) (one (NamesClass e class)))

  mutual
    unfolding judge actuals next gives has telling more with_actual

    pub expression_same : (e : Extent) (x : Expression) → Same s (judge s e x).events (judged s e x)
    expression_same e (If i c a b) =
        both (both (expression_same e c) (value_same e c)) (both (both (expression_same e a) (value_same e a)) (both (both (expression_same e b) (value_same e b))
        (operand_same e c (λ v. (three s i v (side s (first_of a) (judge s e a).value).value (side s (first_of b) (judge s e b).value).value).events)
        (operand_same e a (λ v. (three s i (operand s e c) v (side s (first_of b) (judge s e b).value).value).events) (operand_same e b (λ v. (three s i (operand s e c) (operand s e a) v).events) (one (Arms e i c a b)))))))
    expression_same e (Binary operator i a b) =
        both (both (expression_same e a) (value_same e a)) (both (both (expression_same e b) (value_same e b))
        (operand_same e a (λ v. (two operator i v (side s (first_of b) (judge s e b).value).value).events) (operand_same e b (λ v. (two operator i (operand s e a) v).events) (one (Operands e operator i a b)))))
    expression_same e (Not i a) = both (both (expression_same e a) (value_same e a)) (operand_same e a (λ v. (operators.one t.Boolean i v).events) (one (Operand e t.Boolean i a)))
    expression_same e (Signed sign i a) = both (both (expression_same e a) (value_same e a)) (operand_same e a (λ v. (operators.one t.Integer i v).events) (one (Operand e t.Integer i a)))
    expression_same e (Constant literal i) = silent refl
    expression_same e (Named x args) =
        both (one (Occurs e x)) (occurrence_same e x (λ o. (actuals s e o.denotes no_actuals args).events ++ (used s x.token.0 x o (given s e o.denotes args)).events)
        (both (actuals_same e (occurrence s e x).denotes no_actuals args) (one (Used x.token.0 x e (occurrence s e x) args))))
    expression_same e (Dot i a x args) =
        both (both (expression_same e a) (outcome_same e a (λ o. (attribute s e x (first_of a) o).events) (one (Attribute e a x))))
        (attribute_same e a x (λ o. (actuals s e o.denotes no_actuals args).events ++ (used s i x o (given s e o.denotes args)).events)
        (both (actuals_same e (attribute_of s e a x).denotes no_actuals args) (one (Used i x e (attribute_of s e a x) args))))
    expression_same e (Parentheses i a) = both (expression_same e a) (outcome_same e a (λ o. (in_parentheses s (first_of a) o).events) (one (InParentheses e a)))
    expression_same e (Member m i a class) =
        both (both (expression_same e a) (value_same e a)) (both (class_same e class)
        (operand_same e a (λ v. (member s i v class (class_named s e class).value).events) (class_of_same e class (λ o. (member s i (operand s e a) class o).events) (member_same e i a class))))
    expression_same e (Qua i a class) =
        both (both (expression_same e a) (value_same e a)) (both (class_same e class)
        (operand_same e a (λ v. (qualified s i v class (class_named s e class).value).events) (class_of_same e class (λ o. (qualified s i (operand s e a) class o).events) (qualified_same e i a class))))
    expression_same e (This i class) = both (class_same e class) (class_of_same e class (λ o. (this_object s e i class o).events) (one (ThisOf e i class)))
    expression_same e (New i class args) =
        both (class_same e class) (class_of_same e class (λ o. (actuals s e o.denotes no_actuals args).events ++ (new_object s i class o (given s e o.denotes args)).events)
        (both (actuals_same e (class_of s e class).denotes no_actuals args) (one (NewOf e i class args))))

    pub actuals_same : (e : Extent) (d : Option Denotation) (a : Actuals) (xs : Expressions) → Same s (actuals s e d a xs).events (actuals_judged s e d a.count xs)
    actuals_same e d a NoMore = none
    actuals_same e d a (Then x xs) =
        both (both (expression_same e x) (outcome_same e x (λ o. (more s d a (first_of x) o).events) (more_same e d a x))) (actuals_same e d (more s d a (first_of x) (judge s e x).value).value xs)

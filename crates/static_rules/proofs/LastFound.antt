-- What the last round finds is what breaks a clause of it.
use Rattle.static_rules.proofs.Whats.{called_value, side_value}
use Rattle.static_rules.specs.Types.{called_as}
use Rattle.std.proofs.Common.{◌≡◌, inl, inr, ℕ, Bool, true, false, if◌then◌else◌, List, [], Option, Some, None, refl, sym, ap, subst}
use Rattle.sim_base.specs.declared.numbering.DeclNo.{DeclNo}
use Rattle.sim_base.specs.declared.rule.Rule.{Rule}
use Rattle.sim_base.specs.declared.rule.Rule.TheVariants as r
use Rattle.sim_tree.specs.declared.expr.Identifier.{Identifier}
use Rattle.sim_tree.specs.declared.operator.Operator.{Operator}
use Rattle.sim_tree.specs.Syntax.{Expression, first_of}
use Rattle.sim_scope.specs.Calls.{attribute, attribute_by_value, attribute_found, attribute_in, attribute_of_type, attribute_of_value, found_as, is_barred, located, remote, remote_as, remote_at, remote_in, used_in, used_or_barred}
use Rattle.sim_scope.specs.Found.{fault}
use Rattle.sim_scope.specs.Judged.{bars, gives, next, telling}
use Rattle.sim_scope.specs.Least.{Among}
use Rattle.sim_scope.specs.Levels.{class_block, has_classes}
use Rattle.sim_scope.specs.Operators.{common_type, is_reference, is_same, operands_fit}
use Rattle.sim_scope.specs.Outcomes.{arms_fit, breaks, called, fitted, has, in_common, side, type_wanted, types_fit, value_of, valued}
use Rattle.sim_scope.specs.References.{class_barred, class_denoted, class_fits, declared_class, is_no_reference, no_class, this_block}
use Rattle.sim_scope.specs.Scopes.{binding, found_in}
use Rattle.sim_scope.specs.Standard.{is_standard_class, sysin_attribute, sysout_attribute, text_attribute, undeclared}
use Rattle.sim_scope.specs.Tables.{Tables}
use Rattle.sim_scope.specs.declared.found.Fault.{Fault}
use Rattle.sim_scope.specs.declared.outcome.Extent.{Extent}
use Rattle.sim_scope.specs.declared.outcome.Fit.{Fit}
use Rattle.sim_scope.specs.declared.outcome.Fit.TheVariants as fit
use Rattle.sim_scope.specs.declared.outcome.Outcome.{Outcome}
use Rattle.sim_scope.specs.declared.outcome.Outcome.TheVariants as is
use Rattle.sim_scope.specs.declared.scopes.Denotation.{Denotation}
use Rattle.sim_scope.specs.declared.scopes.Denotation.TheVariants as denotation
use Rattle.sim_scope.specs.declared.standard.StandardName.{StandardName}
use Rattle.sim_scope.specs.declared.standard.StandardName.TheVariants as standard
use Rattle.sim_scope.specs.declared.types.SimType.{SimType}
use Rattle.sim_scope.specs.declared.types.SimType.TheVariants as t
use Rattle.static_rules.specs.Judgements.{Arms, Attribute, ComparedWith, Judgement, NamesClass, Occurs, Operand, Operands, ThisOf, class_of, occurrence, operand, outcome, type_of}
use Rattle.static_rules.specs.LastRound as l
use Rattle.static_rules.specs.LastRound.{ActivationOutsideSimulation, BoundDependsOnItsBlock, ClassWithClasses, ControlledVariableNotSimple, DifferentChains, GoesTo, IsApplied, IsCalled, IsJudged, IsMisfit, IsMissing, IsTaken, LeftSideIsNoVariable, OnlyForPrefixing, StandardNameLeftOut, ThisOutsideItsClass, WrongKind, WrongNumber, WrongType}
use Rattle.static_rules.specs.Words.{is_stream_alone}
use Rattle.static_rules.proofs.Lists.{among_one}
use Rattle.static_rules.proofs.Parts.{ClassFault, ThisFault, class_from, from_bars, is_for_prefixing, is_outside, on_other_chain, this_for_prefixing, this_of_bound}
use Rattle.static_rules.proofs.Telling.{CallFault, called_from, from_next, is_a_stream, needs_actuals, side_faults, told_by, value_from}
use Rattle.static_rules.proofs.Tests.{not_true}

-- a fault with its clause
pub data Found (s : Tables) (js : List Judgement) : Fault → Type 0 where
  missing_found : {rule : Rule} {token : ℕ} → IsMissing s js rule token → Found s js (fault token rule)
  misfit_found : {f : Fault} → IsMisfit s js f → Found s js f
  going_found : {rule : Rule} {token : ℕ} → GoesTo s js rule token → Found s js (fault token rule)
  kind_found : {token : ℕ} → WrongKind s js token → Found s js (fault token r.WrongKind)
  type_found : {token : ℕ} → WrongType s js token → Found s js (fault token r.WrongType)
  left_found : {token : ℕ} → LeftSideIsNoVariable s js token → Found s js (fault token r.LeftSideIsNoVariable)
  number_found : {token : ℕ} → WrongNumber s js token → Found s js (fault token r.WrongNumber)
  chain_found : {token : ℕ} → DifferentChains s js token → Found s js (fault token r.DifferentChains)
  classes_found : {token : ℕ} → ClassWithClasses s js token → Found s js (fault token r.ClassWithClasses)
  this_found_outside : {token : ℕ} → ThisOutsideItsClass s js token → Found s js (fault token r.ThisOutsideItsClass)
  controlled_found : {token : ℕ} → ControlledVariableNotSimple s js token → Found s js (fault token r.ControlledVariableNotSimple)
  activation_found : {token : ℕ} → ActivationOutsideSimulation s js token → Found s js (fault token r.ActivationOutsideSimulation)
  prefixing_found : {token : ℕ} → OnlyForPrefixing s js token → Found s js (fault token r.OnlyForPrefixing)
  bound_found : {token : ℕ} → BoundDependsOnItsBlock s js token → Found s js (fault token r.BoundDependsOnItsBlock)
  name_found : {token : ℕ} → StandardNameLeftOut s js token → Found s js (fault token r.StandardNameLeftOut)

pub same_list : (y : Fault) {xs ys : List Fault} → xs ≡ ys → Among xs y → Among ys y
same_list y e h = subst (λ z. Among z y) e h

module _ (s : Tables) (js : List Judgement) where
  call_found : (o : Outcome) (y : Fault) → IsCalled s js o → CallFault s o y → Found s js y
  call_found o _ c (needs_actuals is n) = number_found (l.without_actuals c is n)
  call_found o _ c (is_a_stream is e) = name_found (l.stream_alone c is e)

  pub called_found : (o : Outcome) (y : Fault) → IsCalled s js o → Among (told_by (called s o)) y → Found s js y
  called_found o y c h = call_found o y c (called_from s o y h)

  pub taken_found : (first : ℕ) (o : Outcome) (y : Fault) → IsTaken s js first o → Among (told_by (valued s first o)) y → Found s js y
  unfolding valued
  taken_found first o y is h = elim (from_next (called s o) (value_of first) y h) [
    | inl k ↦ called_found o y (l.for_value is) k
    | inr k ↦ elim (value_from first (called_as s o) y (subst (λ z. Among (told_by (value_of first z)) y) (called_value s o) k)) [
      | inl e ↦ subst (Found s js) e.1 (kind_found (l.no_value is e.0))
      | inr e ↦ subst (Found s js) e.1 (type_found (l.no_result is e.0))
    ]
  ]

  -- ---- operands

  pub operands_found : (e : Extent) (operator : Operator) (token : ℕ) (x z : Expression) (y : Fault) → IsJudged js (Operands e operator token x z) → (a b : Option SimType) → type_of s e x ≡ a → type_of s e z ≡ b
      → Among (told_by (types_fit operator token (operand s e x) (operand s e z) a b)) y → Found s js y
  unfolding side next gives has breaks telling
  operands_found e operator token x z y j None b p q h = elim h [ ]
  operands_found e operator token x z y j (Some a) None p q h = elim h [ ]
  operands_found e operator token x z y j (Some a) (Some b) p q h = go (operands_fit operator a b) refl h
    where
      go : (f : Fit) → operands_fit operator a b ≡ f → Among (told_by (fitted token (operand s e x) (operand s e z) f)) y → Found s js y
      go (fit.Fits ty) is k = elim k [ ]
      go fit.FirstWrong is k = subst (Found s js) (among_one k) (type_found (l.first_operand j p q is))
      go fit.SecondWrong is k = subst (Found s js) (among_one k) (type_found (l.second_operand j p q is))

  pub operand_found : (e : Extent) (wanted : SimType) (token : ℕ) (x : Expression) (y : Fault) → IsJudged js (Operand e wanted token x) → (a : Option SimType) → type_of s e x ≡ a → Among (told_by (type_wanted wanted token (operand s e x) a)) y → Found s js y
  unfolding side next gives has breaks telling
  operand_found e wanted token x y j None p h = elim h [ ]
  operand_found e wanted token x y j (Some a) p h = go (is_same a wanted) refl h
    where
      go : (c : Bool) → is_same a wanted ≡ c → Among (told_by (if c then has token wanted else breaks (first_of x) r.WrongType)) y → Found s js y
      go true is k = elim k [ ]
      go false is k = subst (Found s js) (among_one k) (type_found (l.one_operand j p is))

  pub arms_found : (e : Extent) (token : ℕ) (c x z : Expression) (y : Fault) → IsJudged js (Arms e token c x z) → (a b d : Option SimType) → type_of s e c ≡ a → type_of s e x ≡ b → type_of s e z ≡ d
      → Among (told_by (arms_fit s token (operand s e c) (operand s e x) (operand s e z) a b d)) y → Found s js y
  unfolding side next gives has breaks telling
  arms_found e token c x z y j None b d p q u h = elim h [ ]
  arms_found e token c x z y j (Some a) None d p q u h = elim h [ ]
  arms_found e token c x z y j (Some a) (Some b) None p q u h = elim h [ ]
  arms_found e token c x z y j (Some a) (Some b) (Some d) p q u h = go (is_same a t.Boolean) refl h
    where
      common : is_same a t.Boolean ≡ true → (o : Option SimType) → common_type s b d ≡ o → Among (told_by (in_common token (operand s e z) o)) y → Found s js y
      common is (Some ty) same k = elim k [ ]
      common is None same k = subst (Found s js) (among_one k) (type_found (l.second_arm j p q u is same))

      go : (f : Bool) → is_same a t.Boolean ≡ f → Among (told_by (if f then in_common token (operand s e z) (common_type s b d) else breaks (first_of c) r.WrongType)) y → Found s js y
      go true is k = common is (common_type s b d) refl k
      go false is k = subst (Found s js) (among_one k) (type_found (l.condition j p q u is))

  -- ---- identifiers

  barred_used : (token : ℕ) (d : Denotation) (y : Fault) (c : Bool) → Among (told_by (used_or_barred token d c)) y → (c ≡ true) × (fault token r.BoundDependsOnItsBlock ≡ y)
  unfolding telling
  barred_used token d y true h = (refl, among_one h)
  barred_used token d y false h = elim h [ ]

  pub located_silent : (token : ℕ) (block : Option ℕ) → told_by (located token block) ≡ []
  unfolding located telling gives
  located_silent token None = refl
  located_silent token (Some block) = refl

  pub occurs_found : (e : Extent) (x : Identifier) (y : Fault) → IsJudged js (Occurs e x) → (o : Option Denotation) → binding s x.token.0 x.name ≡ o → Among (told_by (found_as s e x.token.0 x.name o)) y → Found s js y
  unfolding telling used_in
  occurs_found e x y j None at h = subst (Found s js) (among_one h) (missing_found (l.nowhere e j at))
  occurs_found e x y j (Some d) at h = elim (from_next (located x.token.0 (found_in s x.token.0 x.name)) (λ n. used_or_barred x.token.0 d (is_barred s e x.token.0 d)) y h) [
    | inl k ↦ elim (same_list y (located_silent x.token.0 (found_in s x.token.0 x.name)) k) [ ]
    | inr k ↦ (let u = barred_used x.token.0 d y (is_barred s e x.token.0 d) k in subst (Found s js) u.1 (bound_found (l.identifier_of_block j at u.0)))
  ]

  -- behind a dot
  standard_found : (x : Identifier) (y : Fault) (o : Option StandardName) → Among (told_by (attribute_found x o)) y → (o ≡ None) × (fault x.token.0 (undeclared x.name) ≡ y)
  unfolding telling
  standard_found x y None h = (refl, among_one h)
  standard_found x y (Some name) h = elim h [ ]

  module _ (e : Extent) (a : Expression) (x : Identifier) (j : IsJudged js (Attribute e a x)) (plain : is_stream_alone (outcome s e a) ≡ false) where
    remote_found : (class : DeclNo) (block : ℕ) (y : Fault) → type_of s e a ≡ Some (t.Ref class) → class_block s class ≡ Some block → (o : Option Denotation) → attribute_in s x.token.0 block x.name ≡ o → Among (told_by (remote_as s e x block o)) y → Found s js y
    unfolding telling
    remote_found class block y p q None at h = subst (Found s js) (among_one h) (missing_found (l.not_of_class e j plain p q at))
    remote_found class block y p q (Some d) at h = let u = barred_used x.token.0 d y (is_barred s e x.token.0 d) h in subst (Found s js) u.1 (bound_found (l.attribute_of_block j plain p q at u.0))

    class_found : (class : DeclNo) (y : Fault) → type_of s e a ≡ Some (t.Ref class) → (o : Option ℕ) → class_block s class ≡ o → Among (told_by (remote_in s e x o)) y → Found s js y
    unfolding gives
    class_found class y p None at h = elim h [ ]
    class_found class y p (Some block) at h = elim (from_next (bars (has_classes s block) x.token.0 r.ClassWithClasses) (remote_at s e x block) y h) [
      | inl k ↦ (let u = from_bars (has_classes s block) x.token.0 r.ClassWithClasses y k in subst (Found s js) u.1 (classes_found (l.behind_dot j plain p at u.0)))
      | inr k ↦ elim (from_next (remote_as s e x block (attribute_in s x.token.0 block x.name)) _ y k) [
        | inl n ↦ remote_found class block y p at (attribute_in s x.token.0 block x.name) refl n
        | inr n ↦ elim n [ ]
      ]
    ]

    of_type_found : (y : Fault) (o : Option SimType) → type_of s e a ≡ o → Among (told_by (attribute_of_type s e x (first_of a) o)) y → Found s js y
    unfolding remote gives telling
    of_type_found y None p h = elim h [ ]
    of_type_found y (Some t.Integer) p h = subst (Found s js) (among_one h) (type_found (l.no_attributes j plain p refl))
    of_type_found y (Some t.Boolean) p h = subst (Found s js) (among_one h) (type_found (l.no_attributes j plain p refl))
    of_type_found y (Some t.Character) p h = subst (Found s js) (among_one h) (type_found (l.no_attributes j plain p refl))
    of_type_found y (Some t.Text) p h = let u = standard_found x y (text_attribute x.name) h in subst (Found s js) u.1 (missing_found (l.not_of_text e j plain p u.0))
    of_type_found y (Some (t.Ref class)) p h = class_found class y p (class_block s class) refl h
    of_type_found y (Some t.NoneType) p h = let u = standard_found x y None h in subst (Found s js) u.1 (missing_found (l.of_none e j plain p))

    value_found : (y : Fault) → Among (told_by (attribute_by_value s e x (first_of a) (outcome s e a))) y → Found s js y
    unfolding attribute_by_value attribute_of_value
    value_found y h = elim (from_next (side s (first_of a) (outcome s e a)) (attribute_of_value s e x) y h) [
      | inl k ↦ taken_found (first_of a) (outcome s e a) y (l.as_object e j plain) (same_list y (side_faults s (first_of a) (outcome s e a)) k)
      | inr k ↦ of_type_found y (type_of s e a) refl (subst (λ v. Among (told_by (attribute_of_value s e x v)) y) (side_value s (first_of a) (outcome s e a)) k)
    ]

  pub attribute_found_at : (e : Extent) (a : Expression) (x : Identifier) (y : Fault) → IsJudged js (Attribute e a x) → (o : Outcome) → outcome s e a ≡ o → Among (told_by (attribute s e x (first_of a) o)) y → Found s js y
  unfolding attribute
  attribute_found_at e a x y j (is.Standard standard.Sysin token) at h = let u = standard_found x y (sysin_attribute x.name) h in subst (Found s js) u.1 (missing_found (l.not_of_sysin e token j at u.0))
  attribute_found_at e a x y j (is.Standard standard.Sysout token) at h = let u = standard_found x y (sysout_attribute x.name) h in subst (Found s js) u.1 (missing_found (l.not_of_sysout e token j at u.0))
  attribute_found_at e a x y j (is.Standard (standard.Procedure name) token) at h = value_found e a x j (ap is_stream_alone at) y (subst (λ o. Among (told_by (attribute_by_value s e x (first_of a) o)) y) (sym at) h)
  attribute_found_at e a x y j (is.Standard (standard.Prefix which) token) at h = value_found e a x j (ap is_stream_alone at) y (subst (λ o. Among (told_by (attribute_by_value s e x (first_of a) o)) y) (sym at) h)
  attribute_found_at e a x y j is.Refused at h = value_found e a x j (ap is_stream_alone at) y (subst (λ o. Among (told_by (attribute_by_value s e x (first_of a) o)) y) (sym at) h)
  attribute_found_at e a x y j is.NoValue at h = value_found e a x j (ap is_stream_alone at) y (subst (λ o. Among (told_by (attribute_by_value s e x (first_of a) o)) y) (sym at) h)
  attribute_found_at e a x y j is.NoValueInParentheses at h = value_found e a x j (ap is_stream_alone at) y (subst (λ o. Among (told_by (attribute_by_value s e x (first_of a) o)) y) (sym at) h)
  attribute_found_at e a x y j (is.Value ty) at h = value_found e a x j (ap is_stream_alone at) y (subst (λ o. Among (told_by (attribute_by_value s e x (first_of a) o)) y) (sym at) h)
  attribute_found_at e a x y j (is.Called ty) at h = value_found e a x j (ap is_stream_alone at) y (subst (λ o. Among (told_by (attribute_by_value s e x (first_of a) o)) y) (sym at) h)
  attribute_found_at e a x y j (is.Variable ty) at h = value_found e a x j (ap is_stream_alone at) y (subst (λ o. Among (told_by (attribute_by_value s e x (first_of a) o)) y) (sym at) h)
  attribute_found_at e a x y j (is.Constant ty) at h = value_found e a x j (ap is_stream_alone at) y (subst (λ o. Among (told_by (attribute_by_value s e x (first_of a) o)) y) (sym at) h)
  attribute_found_at e a x y j (is.Array ty) at h = value_found e a x j (ap is_stream_alone at) y (subst (λ o. Among (told_by (attribute_by_value s e x (first_of a) o)) y) (sym at) h)
  attribute_found_at e a x y j (is.Procedure d token own) at h = value_found e a x j (ap is_stream_alone at) y (subst (λ o. Among (told_by (attribute_by_value s e x (first_of a) o)) y) (sym at) h)
  attribute_found_at e a x y j is.Class at h = value_found e a x j (ap is_stream_alone at) y (subst (λ o. Among (told_by (attribute_by_value s e x (first_of a) o)) y) (sym at) h)
  attribute_found_at e a x y j (is.Barred q) at h = value_found e a x j (ap is_stream_alone at) y (subst (λ o. Among (told_by (attribute_by_value s e x (first_of a) o)) y) (sym at) h)

  -- ---- classes

  pub names_found : (e : Extent) (x : Identifier) (y : Fault) (barred : Bool) → IsJudged js (NamesClass e x) → (o : Option Denotation) → (occurrence s e x).denotes ≡ o → Among (told_by (class_denoted s x.token.0 o barred)) y → Found s js y
  unfolding gives telling
  names_found e x y barred j None at h = elim h [ ]
  names_found e x y barred j (Some (denotation.Declared d)) at h = go (class_block s d) refl h
    where
      go : (o : Option ℕ) → class_block s d ≡ o → Among (told_by (declared_class x.token.0 d barred o)) y → Found s js y
      go None is k = subst (Found s js) (among_one k) (kind_found (l.no_class j at (ap some is)))
        where
          some : Option ℕ → Bool
          some None = false
          some (Some block) = true
      go (Some block) is k = elim k [ ]
  names_found e x y barred j (Some (denotation.Standard name)) at h = go (is_standard_class name) refl h
    where
      go : (c : Bool) → is_standard_class name ≡ c → Among (told_by (if c then gives (record { denotes = Some (denotation.Standard name); barred = barred }) else no_class x.token.0)) y → Found s js y
      go true is k = elim k [ ]
      go false is k = subst (Found s js) (among_one k) (kind_found (l.no_class j at is))

  compared_found : (e : Extent) (x : Expression) (class : Identifier) (y : Fault) → ClassFault s class.token.0 (class_of s e class).denotes (type_of s e x) y → IsJudged js (ComparedWith e x class) → Found s js y
  compared_found e x class _ (on_other_chain is) j = chain_found (l.with_class j is)
  compared_found e x class _ (is_for_prefixing at is) j = prefixing_found (l.compared_with j at is)

  reference_found : (e : Extent) (x : Expression) (class : Identifier) (y : Fault) → IsJudged js (ComparedWith e x class) → (o : Option SimType) → type_of s e x ≡ o → is_no_reference o ≡ true → fault (first_of x) r.WrongType ≡ y → Found s js y
  reference_found e x class y j None p is same = absurd (cc)
  reference_found e x class y j (Some a) p is same = subst (Found s js) same (type_found (l.no_reference j p (not_true (is_reference a) is)))

  pub class_barred_found : (e : Extent) (x : Expression) (class : Identifier) (y : Fault) → IsJudged js (ComparedWith e x class) → Among (told_by (class_barred s (operand s e x) class.token.0 (class_of s e class))) y → Found s js y
  unfolding gives
  class_barred_found e x class y j h = elim (from_next (bars (is_no_reference (type_of s e x)) (operand s e x).first.0 r.WrongType) _ y h) [
    | inl k ↦ (let u = from_bars (is_no_reference (type_of s e x)) (operand s e x).first.0 r.WrongType y k in reference_found e x class y j (type_of s e x) refl u.0 u.1)
    | inr k ↦ elim (from_next (class_fits s class.token.0 (class_of s e class).denotes (type_of s e x)) _ y k) [
      | inl n ↦ compared_found e x class y (class_from s class.token.0 (class_of s e class).denotes (type_of s e x) y n) j
      | inr n ↦ elim n [ ]
    ]
  ]

  pub this_fault : (e : Extent) (token : ℕ) (class : Identifier) (d : Denotation) (y : Fault) → IsJudged js (ThisOf e token class) → (class_of s e class).denotes ≡ Some d → ThisFault s e class.token.0 d (this_block s class.token.0 d) y → Found s js y
  this_fault e token class d _ j at (is_outside none) = this_found_outside (l.outside j at none)
  this_fault e token class d _ j at (this_for_prefixing is) = prefixing_found (l.this_of j at is)
  this_fault e token class d _ j at (this_of_bound is) = bound_found (l.this_of_block j at is)

-- What breaks a clause of the last round is found by a judgement.
use Rattle.static_rules.specs.Types.{called_as}
use Rattle.std.proofs.Common.{◌≡◌, ℕ, Bool, true, false, not, if◌then◌else◌, List, [], ◌∷◌, Option, Some, None, refl, sym, ap, ◌∙◌, subst}
use Rattle.std.specs.Prelude.{◌||◌, ◌&&◌}
use Rattle.sim_base.specs.declared.numbering.DeclNo.{DeclNo}
use Rattle.sim_base.specs.declared.rule.Rule.{Rule}
use Rattle.sim_base.specs.declared.rule.Rule.TheVariants as r
use Rattle.sim_tree.specs.declared.expr.Identifier.{Identifier}
use Rattle.sim_tree.specs.declared.stmt.Assignment.{Assignment}
use Rattle.sim_tree.specs.Syntax.{Expression, Expressions, first_of}
use Rattle.sim_scope.specs.Assignments.{compared, fine, first_sign, last_value, left_sides, lefts, no_lefts, sign_agrees, takes, told, wrong}
use Rattle.sim_scope.specs.Breaks as b
use Rattle.sim_scope.specs.Calls.{attribute, attribute_by_value, attribute_found, attribute_in, attribute_missing, attribute_of_type, attribute_of_value, bound, found_as, is_barred, located, missing, remote, remote_as, remote_at, remote_in, used, used_in, used_there, used_or_barred}
use Rattle.sim_scope.specs.Found.{Broken, fault}
use Rattle.sim_scope.specs.Judged.{bars, gives, next, telling}
use Rattle.sim_scope.specs.Least.{Among, faults, here}
use Rattle.sim_scope.specs.Levels.{class_block, has_classes}
use Rattle.sim_scope.specs.Operators.{common_type, is_reference, is_same, misfit_of}
use Rattle.sim_scope.specs.Outcomes.{arms_fit, breaks, called, fitted, has, in_common, in_parentheses, one, parenthesized, side, three, two, type_wanted, types_fit, value_of, valued}
use Rattle.sim_scope.specs.References.{as_class, block_of_class, class_denoted, class_fits, declared_class, generated, is_no_reference, is_only_prefix, new_object, new_of, new_of_class, no_class, this_block, this_fits, this_object, this_of_class, wrong_number}
use Rattle.sim_scope.specs.Scopes.{found_in, is_passed_over}
use Rattle.sim_scope.specs.Standard.{is_standard_class, sysin_attribute, sysout_attribute, text_attribute, undeclared}
use Rattle.sim_scope.specs.Statements.{activates, arm_connected, arm_fits, call_alone, connected_by, constant_token, in_simulation, integer_from, needs, needs_reference, prefix_applied, prefixed_with, reference_needed, stands, starts, taken_by, type_activated, type_connected, type_needed, type_taken, value_fits, value_type, variable_events}
use Rattle.sim_scope.specs.Runs.{each}
use Rattle.sim_scope.specs.Tables.{Tables}
use Rattle.sim_scope.specs.declared.found.Fault.{Fault}
use Rattle.sim_scope.specs.declared.outcome.Actuals.{Actuals}
use Rattle.sim_scope.specs.declared.outcome.Extent.{Extent}
use Rattle.sim_scope.specs.declared.outcome.Extent.TheVariants as extent
use Rattle.sim_scope.specs.declared.outcome.LeftSides.{LeftSides}
use Rattle.sim_scope.specs.declared.outcome.Outcome.{Outcome}
use Rattle.sim_scope.specs.declared.outcome.Outcome.TheVariants as is
use Rattle.sim_scope.specs.declared.scopes.Denotation.{Denotation}
use Rattle.sim_scope.specs.declared.scopes.Denotation.TheVariants as denotation
use Rattle.sim_scope.specs.declared.standard.StandardName.{StandardName}
use Rattle.sim_scope.specs.declared.standard.StandardName.TheVariants as standard
use Rattle.sim_scope.specs.declared.types.SimType.{SimType}
use Rattle.sim_scope.specs.declared.types.SimType.TheVariants as t
use Rattle.static_rules.specs.Judgements.{Activates, ActualFor, Alone, Arm, Arms, Assigned, Attribute, ComparedWith, Controls, Declared, InParentheses, Inspects, InspectsWhen, Judgement, NamesClass, Needs, NewOf, Occurs, Operand, Operands, PrefixOf, Process, Sign, StartsFrom, TakenBy, Target, ThisOf, Used, Value, class_of, finds, given, occurrence, operand, outcome, type_of}
use Rattle.static_rules.specs.LastRound as l
use Rattle.static_rules.specs.LastRound.{ActivationOutsideSimulation, BoundDependsOnItsBlock, ClassWithClasses, ControlledVariableNotSimple, DifferentChains, GoesTo, IsApplied, IsCalled, IsJudged, IsMisfit, IsMissing, IsTaken, LeftSideIsNoVariable, OnlyForPrefixing, StandardNameLeftOut, ThisOutsideItsClass, WrongKind, WrongNumber, WrongType}
use Rattle.static_rules.specs.LeftSides.{Left, Of, WithoutKind, WithoutValue, is_called_left, left_of}
use Rattle.static_rules.specs.Words.{agrees, count_of, has_attributes, has_parameters, is_array_or_class, is_call, is_class, is_known, is_left_out, is_no_value, is_some_block, is_stream_alone, is_stream_of}
use Rattle.static_rules.proofs.Lists.{among_left, among_right, each_has, to_test}
use Rattle.static_rules.proofs.Parts.{ClassFault, ThisFault, alone_faults, class_to, connected_to, generated_faults, generated_list, is_for_prefixing, is_outside, left_list, on_other_chain, parentheses_to, rule_list, simple_faults, target_faults, this_for_prefixing, this_of_bound, this_to, to_bars, told_faults, unless_faults, variable_list}
use Rattle.static_rules.proofs.Telling.{actual_faults, applied_faults, applied_list, applied_stream, called_to, is_a_stream, kind_to, misfits, needs_actuals, no_value_to, side_faults, to_first, to_second, told_by, untyped_faults, used_faults, used_list}
use Rattle.static_rules.proofs.Whats.{bars_value, called_value, side_value}
use Rattle.static_rules.proofs.Tests.{not_false}

-- the same the other way
from_list : (y : Fault) {xs ys : List Fault} → xs ≡ ys → Among ys y → Among xs y
from_list y e h = subst (λ z. Among z y) (sym e) h

no_class_here : (x : Identifier) → Among (told_by (no_class x.token.0)) (fault x.token.0 r.WrongKind)
unfolding telling
no_class_here x = here

steps_told : (x : Expression) (m n : Bool) → (m && n) ≡ false → Among (told_by (if m then (if n then fine else wrong (first_of x) r.WrongType) else wrong (first_of x) r.WrongType)) (fault (first_of x) r.WrongType)
unfolding wrong telling
steps_told x true true e = absurd (cc)
steps_told x true false e = here
steps_told x false n e = here

no_reference_told : (s : Tables) (token : ℕ) (x : Expression) (a : SimType) → is_reference a ≡ false → Among (told_by (type_connected s token (operand s extent.Statement x) (Some a))) (fault (first_of x) r.WrongType)
unfolding side next gives wrong telling
no_reference_told s token x t.Integer e = here
no_reference_told s token x t.Boolean e = here
no_reference_told s token x t.Character e = here
no_reference_told s token x t.Text e = here
no_reference_told s token x (t.Ref class) e = absurd (cc)
no_reference_told s token x t.NoneType e = absurd (cc)

without_attributes : (s : Tables) (e : Extent) (name : Identifier) (x : Expression) (a : SimType) → has_attributes a ≡ false → Among (told_by (attribute_of_type s e name (operand s e x).first.0 (Some a))) (fault (first_of x) r.WrongType)
unfolding side next gives telling
without_attributes s e name x t.Integer is = here
without_attributes s e name x t.Boolean is = here
without_attributes s e name x t.Character is = here
without_attributes s e name x t.Text is = absurd (cc)
without_attributes s e name x (t.Ref class) is = absurd (cc)
without_attributes s e name x t.NoneType is = absurd (cc)

arms_told : (s : Tables) (e : Extent) (token : ℕ) (c x z : Expression) (y : Fault) (a m n : SimType) → type_of s e c ≡ Some a → type_of s e x ≡ Some m → type_of s e z ≡ Some n
    → Among (told_by (arms_fit s token (operand s e c) (operand s e x) (operand s e z) (Some a) (Some m) (Some n))) y → Among (told_by (three s token (operand s e c) (operand s e x) (operand s e z))) y
unfolding three
arms_told s e token c x z y a m n p q u h =
    subst (λ o. Among (told_by (arms_fit s token (operand s e c) (operand s e x) (operand s e z) o (type_of s e x) (type_of s e z))) y) (sym p)
    (subst (λ o. Among (told_by (arms_fit s token (operand s e c) (operand s e x) (operand s e z) (Some a) o (type_of s e z))) y) (sym q)
    (subst (λ o. Among (told_by (arms_fit s token (operand s e c) (operand s e x) (operand s e z) (Some a) (Some m) o)) y) (sym u) h))

module _ (s : Tables) (js : List Judgement) where
  abbrev pub All : Fault → Type 0
  All y = Among (each (finds s) js) y

  by_judgement : (j : Judgement) (y : Fault) → IsJudged js j → Among (finds s j) y → All y
  by_judgement j y is h = each_has (finds s) js is.place j y is.at h

  -- ---- values and calls

  attribute_plain : (e : Extent) (x : Identifier) (first : ℕ) (o : Outcome) → is_stream_alone o ≡ false → attribute s e x first o ≡ attribute_by_value s e x first o
  unfolding attribute
  attribute_plain e x first (is.Standard standard.Sysin token) plain = absurd (cc)
  attribute_plain e x first (is.Standard standard.Sysout token) plain = absurd (cc)
  attribute_plain e x first (is.Standard (standard.Procedure name) token) plain = refl
  attribute_plain e x first (is.Standard (standard.Prefix which) token) plain = refl
  attribute_plain e x first is.Refused plain = refl
  attribute_plain e x first is.NoValue plain = refl
  attribute_plain e x first is.NoValueInParentheses plain = refl
  attribute_plain e x first (is.Value ty) plain = refl
  attribute_plain e x first (is.Called ty) plain = refl
  attribute_plain e x first (is.Variable ty) plain = refl
  attribute_plain e x first (is.Constant ty) plain = refl
  attribute_plain e x first (is.Array ty) plain = refl
  attribute_plain e x first (is.Procedure d token own) plain = refl
  attribute_plain e x first is.Class plain = refl
  attribute_plain e x first (is.Barred q) plain = refl

  object_told : (e : Extent) (a : Expression) (x : Identifier) (y : Fault) → IsJudged js (Attribute e a x) → is_stream_alone (outcome s e a) ≡ false → Among (told_by (attribute_by_value s e x (first_of a) (outcome s e a))) y → All y
  unfolding finds
  object_told e a x y j plain h = by_judgement (Attribute e a x) y j (from_list y (ap (λ z. told_by z) (attribute_plain e x (first_of a) (outcome s e a) plain)) h)

  taken_told : (first : ℕ) (o : Outcome) (y : Fault) → IsTaken s js first o → Among (told_by (valued s first o)) y → All y
  unfolding finds attribute_by_value
  taken_told _ _ y (l.as_operand e {x = x} j) h = by_judgement (Value e x) y j (from_list y (side_faults s (first_of x) (outcome s e x)) h)
  taken_told _ _ y (l.as_object e {a = a} {x = x} j plain) h =
      object_told e a x y j plain (to_first (side s (first_of a) (outcome s e a)) (attribute_of_value s e x) y (from_list y (side_faults s (first_of a) (outcome s e a)) h))
  taken_told _ _ y (l.as_actual e {q = q} {x = x} j is) h =
      by_judgement (ActualFor q e x) y j (from_list y (actual_faults s (first_of x) q (outcome s e x))
      (subst (λ c. Among (if c then told_by (valued s (first_of x) (outcome s e x)) else b.where_true (is_left_out s q (outcome s e x)) (first_of x) r.StandardNameLeftOut) y) (sym is) h))

  called_told : (o : Outcome) (y : Fault) → IsCalled s js o → Among (told_by (called s o)) y → All y
  unfolding finds valued in_parentheses stands
  called_told o y (l.for_value {first = first} is) h = taken_told first o y is (to_first (called s o) (value_of first) y h)
  called_told _ y (l.in_parentheses e {x = x} j) h = by_judgement (InParentheses e x) y j (to_first (called s (outcome s e x)) (parenthesized (first_of x)) y h)
  called_told _ y (l.as_statement {x = x} j) h = by_judgement (Alone x) y j (to_first (called s (outcome s extent.Statement x)) (call_alone (first_of x)) y h)
  called_told _ y (l.as_left_side {sign = sign} {x = x} j is) h =
      let o : Outcome = outcome s extent.Statement x in
      by_judgement (Target sign x) y j (from_list y (target_faults s sign (first_of x) o)
      (among_left (left_list sign (first_of x) (left_of s sign o)) (subst (λ c. Among (if c then told_by (called s o) else []) y) (sym is) h)))

  kind_taken : (first : ℕ) (o : Outcome) → IsTaken s js first o → is_array_or_class (called_as s o) ≡ true → All (fault first r.WrongKind)
  unfolding valued
  kind_taken first o is e = taken_told first o (fault first r.WrongKind) is (to_second (called s o) (value_of first) (fault first r.WrongKind) (subst (λ z. Among (told_by (value_of first z)) (fault first r.WrongKind)) (sym (called_value s o)) (kind_to first (called_as s o) e)))

  value_taken : (first : ℕ) (o : Outcome) → IsTaken s js first o → is_no_value (called_as s o) ≡ true → All (fault first r.WrongType)
  unfolding valued
  value_taken first o is e = taken_told first o (fault first r.WrongType) is (to_second (called s o) (value_of first) (fault first r.WrongType) (subst (λ z. Among (told_by (value_of first z)) (fault first r.WrongType)) (sym (called_value s o)) (no_value_to first (called_as s o) e)))

  -- ---- missing

  class_told : (e : Extent) (a : Expression) (x : Identifier) (class : DeclNo) (block : ℕ) (y : Fault) → IsJudged js (Attribute e a x) → is_stream_alone (outcome s e a) ≡ false → type_of s e a ≡ Some (t.Ref class) → class_block s class ≡ Some block
      → Among (told_by (remote_in s e x (Some block))) y → All y
  unfolding attribute_by_value attribute_of_value remote
  class_told e a x class block y j plain p q h =
      object_told e a x y j plain (to_second (side s (first_of a) (outcome s e a)) (attribute_of_value s e x) y (subst (λ v. Among (told_by (attribute_of_value s e x v)) y) (sym (side_value s (first_of a) (outcome s e a)))
      (subst (λ o. Among (told_by (attribute_of_type s e x (first_of a) o)) y) (sym p) (subst (λ o. Among (told_by (remote_in s e x o)) y) (sym q) h))))

  remote_told : (e : Extent) (a : Expression) (x : Identifier) (class : DeclNo) (block : ℕ) (y : Fault) → IsJudged js (Attribute e a x) → is_stream_alone (outcome s e a) ≡ false → type_of s e a ≡ Some (t.Ref class) → class_block s class ≡ Some block
      → Among (told_by (remote_as s e x block (attribute_in s x.token.0 block x.name))) y → All y
  remote_told e a x class block y j plain p q h =
      class_told e a x class block y j plain p q (to_second (bars (has_classes s block) x.token.0 r.ClassWithClasses) (remote_at s e x block) y (to_first (remote_as s e x block (attribute_in s x.token.0 block x.name)) _ y h))

  type_told : (e : Extent) (a : Expression) (x : Identifier) (y : Fault) (ty : SimType) → IsJudged js (Attribute e a x) → is_stream_alone (outcome s e a) ≡ false → type_of s e a ≡ Some ty → Among (told_by (attribute_of_type s e x (operand s e a).first.0 (Some ty))) y → All y
  unfolding attribute_by_value attribute_of_value
  type_told e a x y ty j plain p h =
      object_told e a x y j plain (to_second (side s (first_of a) (outcome s e a)) (attribute_of_value s e x) y (subst (λ v. Among (told_by (attribute_of_value s e x v)) y) (sym (side_value s (first_of a) (outcome s e a)))
      (subst (λ o. Among (told_by (attribute_of_type s e x (first_of a) o)) y) (sym p) h)))

  standard_told : (x : Identifier) (o : Option StandardName) → o ≡ None → Among (told_by (attribute_found x o)) (fault x.token.0 (undeclared x.name))
  unfolding telling
  standard_told x o none = subst (λ z. Among (told_by (attribute_found x z)) (fault x.token.0 (undeclared x.name))) (sym none) here

  pub missing_told : (rule : Rule) (token : ℕ) → IsMissing s js rule token → All (fault token rule)
  unfolding finds bound attribute telling
  missing_told _ _ (l.nowhere e {x = x} j at) =
      let y : Fault = fault x.token.0 (missing (is_passed_over s x.token.0 x.name) x.name) in by_judgement (Occurs e x) y j (subst (λ o. Among (told_by (found_as s e x.token.0 x.name o)) y) (sym at) here)
  missing_told _ _ (l.not_of_sysin e {a = a} {x = x} token j at none) =
      let y : Fault = fault x.token.0 (undeclared x.name) in by_judgement (Attribute e a x) y j (subst (λ o. Among (told_by (attribute s e x (first_of a) o)) y) (sym at) (standard_told x (sysin_attribute x.name) none))
  missing_told _ _ (l.not_of_sysout e {a = a} {x = x} token j at none) =
      let y : Fault = fault x.token.0 (undeclared x.name) in by_judgement (Attribute e a x) y j (subst (λ o. Among (told_by (attribute s e x (first_of a) o)) y) (sym at) (standard_told x (sysout_attribute x.name) none))
  missing_told _ _ (l.not_of_text e {a = a} {x = x} j plain p none) = type_told e a x (fault x.token.0 (undeclared x.name)) t.Text j plain p (standard_told x (text_attribute x.name) none)
  missing_told _ _ (l.of_none e {a = a} {x = x} j plain p) = type_told e a x (fault x.token.0 (undeclared x.name)) t.NoneType j plain p (standard_told x None refl)
  missing_told _ _ (l.not_of_class e {a = a} {x = x} {class = class} {block = block} j plain p q none) =
      let y : Fault = fault x.token.0 (attribute_missing s block x) in remote_told e a x class block y j plain p q (subst (λ o. Among (told_by (remote_as s e x block o)) y) (sym none) here)

  -- ---- calls with actuals

  applied_told : (token : ℕ) (d : Denotation) (a : Actuals) (y : Fault) → IsApplied s js token d a → ((naming : ℕ) (x : Identifier) → x.token.0 ≡ token → Among (used_list s naming x d a false a.typed) y) → All y
  unfolding finds used
  applied_told _ d _ y (l.with_actuals naming {x = x} e {o = o} args j at some) h =
      let a : Actuals = given s e o.denotes args in
      by_judgement (Used naming x e o args) y j (subst (λ q. Among (told_by (used_there s naming x q o.barred a)) y) (sym at)
      (from_list y (used_faults s naming x d o.barred a) (subst (λ n. Among (used_list s naming x d a n a.typed) y) (sym some) (h naming x refl))))

  plain_told : (token : ℕ) (d : Denotation) (a : Actuals) (y : Fault) → IsApplied s js token d a → a.typed ≡ true → is_stream_of d ≡ false → Among (applied_list (has_parameters s d) (agrees (count_of s d) a.count) (is_known s d) token a.misfit) y → All y
  plain_told token d a y is typed plain h =
      applied_told token d a y is (λ naming x same. subst (λ c. Among (used_list s naming x d a false c) y) (sym typed) (from_list y (applied_faults s naming x.token.0 a d plain)
      (subst (λ k. Among (applied_list (has_parameters s d) (agrees (count_of s d) a.count) (is_known s d) k a.misfit) y) (sym same) h)))

  lists : (token : ℕ) (d : Denotation) (a : Actuals) (y : Fault) (takes right known : Bool) (m : Option Fault) → has_parameters s d ≡ takes → agrees (count_of s d) a.count ≡ right → is_known s d ≡ known → a.misfit ≡ m → Among (applied_list takes right known token m) y
      → Among (applied_list (has_parameters s d) (agrees (count_of s d) a.count) (is_known s d) token a.misfit) y
  lists token d a y takes right known m p q u v h =
      subst (λ c. Among (applied_list c (agrees (count_of s d) a.count) (is_known s d) token a.misfit) y) (sym p)
      (subst (λ c. Among (applied_list takes c (is_known s d) token a.misfit) y) (sym q) (subst (λ c. Among (applied_list takes right c token a.misfit) y) (sym u) (subst (λ c. Among (applied_list takes right known token c) y) (sym v) h)))

  kind_applied : (token : ℕ) (d : Denotation) (a : Actuals) → IsApplied s js token d a → a.typed ≡ true → is_stream_of d ≡ false → has_parameters s d ≡ false → All (fault token r.WrongKind)
  kind_applied token d a is typed plain p =
      let y : Fault = fault token r.WrongKind in plain_told token d a y is typed plain (lists token d a y false (agrees (count_of s d) a.count) (is_known s d) a.misfit p refl refl refl here)

  number_applied : (token : ℕ) (d : Denotation) (a : Actuals) → IsApplied s js token d a → a.typed ≡ true → is_stream_of d ≡ false → has_parameters s d ≡ true → agrees (count_of s d) a.count ≡ false → All (fault token r.WrongNumber)
  number_applied token d a is typed plain p q =
      let y : Fault = fault token r.WrongNumber in plain_told token d a y is typed plain (lists token d a y true false (is_known s d) a.misfit p q refl refl here)

  stream_applied_told : (token : ℕ) (d : Denotation) (a : Actuals) → IsApplied s js token d a → is_stream_of d ≡ true → All (fault token r.StandardNameLeftOut)
  stream_applied_told token d a is stream = applied_told token d a (fault token r.StandardNameLeftOut) is (λ naming x same. go naming x same a.typed)
    where
      go : (naming : ℕ) (x : Identifier) → x.token.0 ≡ token → (c : Bool) → Among (used_list s naming x d a false c) (fault token r.StandardNameLeftOut)
      go naming x same true = from_list (fault token r.StandardNameLeftOut) (applied_stream s naming x.token.0 a d stream) (subst (λ k. Among (fault k r.StandardNameLeftOut ∷ []) (fault token r.StandardNameLeftOut)) (sym same) here)
      go naming x same false =
          from_list (fault token r.StandardNameLeftOut) (untyped_faults s naming x.token.0 a d) (subst (λ k. Among (b.where_true (is_stream_of d) k r.StandardNameLeftOut) (fault token r.StandardNameLeftOut)) (sym same) (to_test (is_stream_of d) token r.StandardNameLeftOut stream))

  -- ---- `new`

  new_told : (e : Extent) (token : ℕ) (class : Identifier) (args : Expressions) (d : Denotation) (y : Fault) → IsJudged js (NewOf e token class args) → (class_of s e class).denotes ≡ Some d
      → Among (told_by (new_of s token class.token.0 d (class_of s e class).barred (given s e (class_of s e class).denotes args))) y → All y
  unfolding finds new_object
  new_told e token class args d y j at h =
      by_judgement (NewOf e token class args) y j (subst (λ o. Among (told_by (new_of_class s token class.token.0 o (class_of s e class).barred (given s e (class_of s e class).denotes args))) y) (sym at) h)

  number_new : (e : Extent) (token : ℕ) (class : Identifier) (args : Expressions) (d : Denotation) → IsJudged js (NewOf e token class args) → (class_of s e class).denotes ≡ Some d → wrong_number s d (given s e (class_of s e class).denotes args) ≡ true
      → All (fault class.token.0 r.WrongNumber)
  number_new e token class args d j at is =
      let a : Actuals = given s e (class_of s e class).denotes args in
      let y : Fault = fault class.token.0 r.WrongNumber in
      new_told e token class args d y j at (to_first (bars (wrong_number s d a) class.token.0 r.WrongNumber) _ y (to_bars (wrong_number s d a) class.token.0 r.WrongNumber is))

  prefixing_new : (e : Extent) (token : ℕ) (class : Identifier) (args : Expressions) (d : Denotation) → IsJudged js (NewOf e token class args) → (class_of s e class).denotes ≡ Some d → is_only_prefix s d ≡ true → All (fault class.token.0 r.OnlyForPrefixing)
  prefixing_new e token class args d j at is =
      let a : Actuals = given s e (class_of s e class).denotes args in
      let y : Fault = fault class.token.0 r.OnlyForPrefixing in
      new_told e token class args d y j at (to_second (bars (wrong_number s d a) class.token.0 r.WrongNumber) _ y (to_first (bars (is_only_prefix s d) class.token.0 r.OnlyForPrefixing) _ y (to_bars (is_only_prefix s d) class.token.0 r.OnlyForPrefixing is)))

  -- ---- misfits

  pub misfit_told : (f : Fault) → IsMisfit s js f → All f
  unfolding finds prefixed_with compared
  misfit_told f (l.in_call {token = token} {d = d} {a = a} is typed plain p q u v) = plain_told token d a f is typed plain (lists token d a f true true true (Some f) p q u v here)
  misfit_told f (l.in_generation {e = e} {token = token} {class = class} {args = args} {d = d} j at right allowed open_one typed misfit) =
      let a : Actuals = given s e (class_of s e class).denotes args in
      let barred : Bool = (class_of s e class).barred in
      let p = bars (wrong_number s d a) class.token.0 r.WrongNumber in
      let q = bars (is_only_prefix s d) class.token.0 r.OnlyForPrefixing in
      let none : (p.value || q.value || barred) ≡ false =
      ap (λ c. c || q.value || barred) (bars_value (wrong_number s d a) class.token.0 r.WrongNumber ∙ right)
      ∙ ap (λ c. false || c || barred) (bars_value (is_only_prefix s d) class.token.0 r.OnlyForPrefixing ∙ allowed) ∙ open_one in
      new_told e token class args d f j at (to_second p (λ c. next q (λ g. generated token d a (c || g || barred))) f (to_second q (λ g. generated token d a (p.value || g || barred)) f
      (from_list f (generated_faults token d a (p.value || q.value || barred)) (subst (λ c. Among (generated_list c a.typed a.misfit) f) (sym none) (subst (λ c. Among (generated_list false c a.misfit) f) (sym typed) (subst (λ m. Among (misfits m) f) (sym misfit) here))))))
  misfit_told f (l.in_prefix {token = token} {d = d} {args = args} j typed right misfit) =
      let a : Actuals = given s extent.Statement (Some d) args in
      by_judgement (PrefixOf token (Some d) args) f j (subst (λ c. Among (told_by (if c then prefix_applied s token d a else fine)) f) (sym typed)
      (subst (λ c. Among (told_by (if c then told a.misfit else wrong token r.WrongNumber)) f) (sym right) (from_list f (told_faults a.misfit) (subst (λ m. Among (misfits m) f) (sym misfit) here))))
  misfit_told f (l.in_assignment {left = left} {parts = parts} j typed misfit) =
      let a : LeftSides = (lefts s (first_sign parts) (operand s extent.Statement (last_value left parts)) no_lefts (left_sides left parts)).value in
      by_judgement (Assigned left parts) f j (subst (λ c. Among (told_by (if c then told a.misfit else fine)) f) (sym typed) (from_list f (told_faults a.misfit) (subst (λ m. Among (misfits m) f) (sym misfit) here)))

  pub going_told : (rule : Rule) (first : ℕ) → GoesTo s js rule first → All (fault first rule)
  unfolding finds taken_by activates side next gives
  going_told rule _ (l.to_controlled {a = a} {b = c} {x = x} j p is) =
      let y : Fault = fault (first_of x) rule in
      by_judgement (TakenBy (Some a) x) y j (subst (λ o. Among (told_by (type_taken s (Some a) (operand s extent.Statement x) o)) y) (sym p)
      (from_list y (unless_faults (first_of x) (misfit_of s a c)) (subst (λ o. Among (rule_list (first_of x) o) y) (sym is) here)))
  going_told rule _ (l.to_activation {process = process} {b = c} {x = x} j p is) =
      let y : Fault = fault (first_of x) rule in
      by_judgement (Process (Some process) x) y j (subst (λ o. Among (told_by (type_activated s (Some process) (operand s extent.Statement x) o)) y) (sym p)
      (from_list y (unless_faults (first_of x) (misfit_of s (t.Ref process) c)) (subst (λ o. Among (rule_list (first_of x) o) y) (sym is) here)))

  -- ---- left sides

  left_told : (sign : Assignment) (x : Expression) (o : Left) (y : Fault) → IsJudged js (Target sign x) → left_of s sign (outcome s extent.Statement x) ≡ o → Among (left_list sign (first_of x) o) y → All y
  unfolding finds
  left_told sign x o y j at h =
      let out : Outcome = outcome s extent.Statement x in
      by_judgement (Target sign x) y j (from_list y (target_faults s sign (first_of x) out) (among_right (if is_called_left s sign out then told_by (called s out) else []) (subst (λ z. Among (left_list sign (first_of x) z) y) (sym at) h)))

  -- ---- the rules

  no_class_told : (e : Extent) (x : Identifier) (d : Denotation) → IsJudged js (NamesClass e x) → (occurrence s e x).denotes ≡ Some d → is_class s d ≡ false → All (fault x.token.0 r.WrongKind)
  unfolding finds as_class
  no_class_told e x d j at is =
      let y : Fault = fault x.token.0 r.WrongKind in
      by_judgement (NamesClass e x) y j (subst (λ o. Among (told_by (class_denoted s x.token.0 o (occurrence s e x).barred)) y) (sym at) (denoted d is))
    where
      block_told : (d : DeclNo) (barred : Bool) (o : Option ℕ) → is_some_block o ≡ false → Among (told_by (declared_class x.token.0 d barred o)) (fault x.token.0 r.WrongKind)
      block_told d barred None e = no_class_here x
      block_told d barred (Some block) e = absurd (cc)

      standard_no : (name : StandardName) (barred c : Bool) → c ≡ false → Among (told_by (if c then gives (record { denotes = Some (denotation.Standard name); barred = barred }) else no_class x.token.0)) (fault x.token.0 r.WrongKind)
      standard_no name barred true e = absurd (cc)
      standard_no name barred false e = no_class_here x

      denoted : (d : Denotation) → is_class s d ≡ false → Among (told_by (class_denoted s x.token.0 (Some d) (occurrence s e x).barred)) (fault x.token.0 r.WrongKind)
      denoted (denotation.Declared d) e = block_told d (occurrence s _ x).barred (class_block s d) e
      denoted (denotation.Standard name) e = standard_no name (occurrence s _ x).barred (is_standard_class name) e

  pub kind_told : (token : ℕ) → WrongKind s js token → All (fault token r.WrongKind)
  unfolding finds in_parentheses stands
  kind_told _ (l.no_class {e = e} {x = x} {d = d} j at is) = no_class_told e x d j at is
  kind_told _ (l.no_value {first = first} {o = o} is e) = kind_taken first o is e
  kind_told _ (l.no_value_in_parentheses e {x = x} j is) =
      let o : Outcome = outcome s e x in
      let y : Fault = fault (first_of x) r.WrongKind in by_judgement (InParentheses e x) y j (to_second (called s o) (parenthesized (first_of x)) y (subst (λ z. Among (told_by (parenthesized (first_of x) z)) y) (sym (called_value s o)) (parentheses_to (first_of x) (called_as s o) is)))
  kind_told _ (l.no_statement {x = x} j is) =
      let o : Outcome = outcome s extent.Statement x in
      let y : Fault = fault (first_of x) r.WrongKind in
      by_judgement (Alone x) y j (to_second (called s o) (call_alone (first_of x)) y (subst (λ z. Among (told_by (call_alone (first_of x) z)) y) (sym (called_value s o)) (from_list y (alone_faults (first_of x) (called_as s o)) (to_test (not (is_call (called_as s o))) (first_of x) r.WrongKind (not_false (is_call (called_as s o)) is)))))
  kind_told _ (l.no_left_side {sign = sign} {x = x} j at) = left_told sign x WithoutKind (fault (first_of x) r.WrongKind) j at here
  kind_told _ (l.no_parameters {token = token} {d = d} {a = a} is typed plain p) = kind_applied token d a is typed plain p

  reference_told : (e : Extent) (x : Expression) (class : Identifier) (a : SimType) → IsJudged js (ComparedWith e x class) → type_of s e x ≡ Some a → is_reference a ≡ false → All (fault (first_of x) r.WrongType)
  unfolding finds
  reference_told e x class a j p is =
      let token : ℕ = first_of x in
      by_judgement (ComparedWith e x class) (fault token r.WrongType) j (to_first (bars (is_no_reference (type_of s e x)) token r.WrongType) _ (fault token r.WrongType) (to_bars (is_no_reference (type_of s e x)) token r.WrongType (ap is_no_reference p ∙ not_false (is_reference a) is)))

  pub type_told_by : (token : ℕ) → WrongType s js token → All (fault token r.WrongType)
  unfolding finds two one three breaks has telling gives side next needs starts fine wrong variable_events connected_by needs_reference
  type_told_by _ (l.no_result {first = first} {o = o} is e) = value_taken first o is e
  type_told_by _ (l.first_operand {e = e} {operator = operator} {token = token} {x = x} {y = z} {a = a} {b = c} j p q is) =
      let y : Fault = fault (first_of x) r.WrongType in
      by_judgement (Operands e operator token x z) y j (subst (λ o. Among (told_by (types_fit operator token (operand s e x) (operand s e z) o (type_of s e z))) y) (sym p)
      (subst (λ o. Among (told_by (types_fit operator token (operand s e x) (operand s e z) (Some a) o)) y) (sym q) (subst (λ f. Among (told_by (fitted token (operand s e x) (operand s e z) f)) y) (sym is) here)))
  type_told_by _ (l.second_operand {e = e} {operator = operator} {token = token} {x = x} {y = z} {a = a} {b = c} j p q is) =
      let y : Fault = fault (first_of z) r.WrongType in
      by_judgement (Operands e operator token x z) y j (subst (λ o. Among (told_by (types_fit operator token (operand s e x) (operand s e z) o (type_of s e z))) y) (sym p)
      (subst (λ o. Among (told_by (types_fit operator token (operand s e x) (operand s e z) (Some a) o)) y) (sym q) (subst (λ f. Among (told_by (fitted token (operand s e x) (operand s e z) f)) y) (sym is) here)))
  type_told_by _ (l.one_operand {e = e} {wanted = wanted} {a = a} {token = token} {x = x} j p is) =
      let y : Fault = fault (first_of x) r.WrongType in
      by_judgement (Operand e wanted token x) y j (subst (λ o. Among (told_by (type_wanted wanted token (operand s e x) o)) y) (sym p)
      (subst (λ c. Among (told_by (if c then has token wanted else breaks (first_of x) r.WrongType)) y) (sym is) here))
  type_told_by _ (l.condition {e = e} {token = token} {c = c} {x = x} {y = z} {a = a} {b = m} {d = n} j p q u is) =
      let y : Fault = fault (first_of c) r.WrongType in
      by_judgement (Arms e token c x z) y j (arms_told s e token c x z y a m n p q u (subst (λ f. Among (told_by (if f then in_common token (operand s e z) (common_type s m n) else breaks (first_of c) r.WrongType)) y) (sym is) here))
  type_told_by _ (l.second_arm {e = e} {token = token} {c = c} {x = x} {y = z} {a = a} {b = m} {d = n} j p q u is same) =
      let y : Fault = fault (first_of z) r.WrongType in
      by_judgement (Arms e token c x z) y j (arms_told s e token c x z y a m n p q u (subst (λ f. Among (told_by (if f then in_common token (operand s e z) (common_type s m n) else breaks (first_of c) r.WrongType)) y) (sym is)
      (subst (λ o. Among (told_by (in_common token (operand s e z) o)) y) (sym same) here)))
  type_told_by _ (l.no_attributes {e = e} {x = x} {name = name} {a = a} j plain p is) = type_told e x name (fault (first_of x) r.WrongType) a j plain p (without_attributes s e name x a is)
  type_told_by _ (l.no_reference {e = e} {x = x} {class = class} {a = a} j p is) = reference_told e x class a j p is
  type_told_by _ (l.not_needed {e = e} {wanted = wanted} {a = a} {x = x} j p is) =
      let y : Fault = fault (first_of x) r.WrongType in
      by_judgement (Needs e wanted x) y j (subst (λ o. Among (told_by (type_needed wanted (operand s e x) o)) y) (sym p) (subst (λ c. Among (told_by (if c then fine else wrong (first_of x) r.WrongType)) y) (sym is) here))
  type_told_by _ (l.left_without_value {sign = sign} {x = x} j at) = left_told sign x WithoutValue (fault (first_of x) r.WrongType) j at here
  type_told_by _ (l.sign_of_left {sign = sign} {x = x} {variable = variable} {a = a} j at is) =
      left_told sign x (Of variable a) (fault (first_of x) r.WrongType) j at (among_left (b.where_true (not variable) (first_of x) r.LeftSideIsNoVariable) (to_test (not (takes sign a)) (first_of x) r.WrongType (not_false (takes sign a) is)))
  type_told_by _ (l.sign_of_controlled {sign = sign} {x = x} {a = a} j at is) =
      let y : Fault = fault x.token.0 r.WrongType in
      let d : Option Denotation = (occurrence s extent.Statement x).denotes in
      by_judgement (Controls sign x) y j (from_list y (simple_faults sign x.token.0 s d) (subst (λ z. Among (variable_list sign x.token.0 z) y) (sym at) (to_test (not (takes sign a)) x.token.0 r.WrongType (not_false (takes sign a) is))))
  type_told_by _ (l.no_steps {a = a} {b = c} {x = x} j p is) =
      let y : Fault = fault (first_of x) r.WrongType in
      by_judgement (StartsFrom (Some a) x) y j (subst (λ o. Among (told_by (integer_from (Some a) (operand s extent.Statement x) o)) y) (sym p) (steps_told x (is_same a t.Integer) (is_same c t.Integer) is))
  type_told_by _ (l.constant_of_type {type = type} {v = v} {c = c} j at is) =
      let y : Fault = fault (constant_token c) r.WrongType in
      by_judgement (Declared type v) y j (subst (λ o. Among (faults (value_fits (value_type type) o)) y) (sym at) (subst (λ f. Among (faults (if f then [] else Broken (constant_token c) r.WrongType ∷ [])) y) (sym is) here))
  type_told_by _ (l.inspected {token = token} {x = x} {a = a} j p is) =
      let y : Fault = fault (first_of x) r.WrongType in
      by_judgement (Inspects token x) y j (subst (λ o. Among (told_by (type_connected s token (operand s extent.Statement x) o)) y) (sym p) (no_reference_told s token x a is))
  type_told_by _ (l.inspected_when {x = x} {a = a} j p is) =
      let y : Fault = fault (first_of x) r.WrongType in
      by_judgement (InspectsWhen x) y j (subst (λ o. Among (told_by (reference_needed (operand s extent.Statement x) o)) y) (sym p) (subst (λ c. Among (told_by (if c then fine else wrong (first_of x) r.WrongType)) y) (sym is) here))
  type_told_by _ (l.of_other_type {first = first} is) = going_told r.WrongType first is
  type_told_by _ (l.misfit_of_type {token = token} is) = misfit_told (fault token r.WrongType) is

  pub left_side_told : (token : ℕ) → LeftSideIsNoVariable s js token → All (fault token r.LeftSideIsNoVariable)
  unfolding finds sign_agrees wrong telling
  left_side_told _ (l.no_variable {sign = sign} {x = x} {a = a} j at) = left_told sign x (Of false a) (fault (first_of x) r.LeftSideIsNoVariable) j at (among_right (b.where_true (not (takes sign a)) (first_of x) r.WrongType) here)
  left_side_told token (l.other_sign {first = first} {sign = sign} j is) =
      let y : Fault = fault token r.LeftSideIsNoVariable in by_judgement (Sign first sign token) y j (subst (λ c. Among (told_by (if c then fine else wrong token r.LeftSideIsNoVariable)) y) (sym is) here)

  pub number_told : (token : ℕ) → WrongNumber s js token → All (fault token r.WrongNumber)
  unfolding finds prefixed_with wrong telling
  number_told token (l.without_actuals {o = o} c is n) = called_told o (fault token r.WrongNumber) c (called_to s o (fault token r.WrongNumber) (needs_actuals is n))
  number_told token (l.other_number {d = d} {a = a} is typed plain p q) = number_applied token d a is typed plain p q
  number_told _ (l.of_class {e = e} {token = token} {class = class} {args = args} {d = d} j at is) = number_new e token class args d j at is
  number_told token (l.of_prefix {d = d} {args = args} j typed is) =
      let y : Fault = fault token r.WrongNumber in
      let a : Actuals = given s extent.Statement (Some d) args in
      by_judgement (PrefixOf token (Some d) args) y j (subst (λ c. Among (told_by (if c then prefix_applied s token d a else fine)) y) (sym typed) (subst (λ c. Among (told_by (if c then told a.misfit else wrong token r.WrongNumber)) y) (sym is) here))

  compared_told : (e : Extent) (x : Expression) (class : Identifier) (y : Fault) → IsJudged js (ComparedWith e x class) → ClassFault s class.token.0 (class_of s e class).denotes (type_of s e x) y → All y
  unfolding finds
  compared_told e x class y j is =
      by_judgement (ComparedWith e x class) y j (to_second (bars (is_no_reference (type_of s e x)) (operand s e x).first.0 r.WrongType) _ y
      (to_first (class_fits s class.token.0 (class_of s e class).denotes (type_of s e x)) _ y (class_to s class.token.0 (class_of s e class).denotes (type_of s e x) y is)))

  arm_told : (token : ℕ) (x : Expression) (class : Identifier) (y : Fault) → IsJudged js (Arm token x class) → ClassFault s class.token.0 (class_of s extent.Statement class).denotes (type_of s extent.Statement x) y → All y
  unfolding finds arm_fits
  arm_told token x class y j is =
      by_judgement (Arm token x class) y j (to_first (class_fits s class.token.0 (class_of s extent.Statement class).denotes (type_of s extent.Statement x)) _ y (class_to s class.token.0 (class_of s extent.Statement class).denotes (type_of s extent.Statement x) y is))

  this_told : (e : Extent) (token : ℕ) (class : Identifier) (d : Denotation) (y : Fault) → IsJudged js (ThisOf e token class) → (class_of s e class).denotes ≡ Some d → ThisFault s e class.token.0 d (this_block s class.token.0 d) y → All y
  unfolding finds this_object
  this_told e token class d y j at is =
      let block : Option ℕ = this_block s class.token.0 d in
      by_judgement (ThisOf e token class) y j (subst (λ o. Among (told_by (this_of_class s e token class.token.0 o (class_of s e class).barred)) y) (sym at)
      (to_second (located token block) _ y (to_first (this_fits s e class.token.0 d block) _ y (this_to s e class.token.0 d block y is))))

  pub chain_told : (token : ℕ) → DifferentChains s js token → All (fault token r.DifferentChains)
  chain_told _ (l.with_class {e = e} {x = x} {class = class} j is) = compared_told e x class (fault class.token.0 r.DifferentChains) j (on_other_chain is)
  chain_told _ (l.with_arm {token = token} {x = x} {class = class} j is) = arm_told token x class (fault class.token.0 r.DifferentChains) j (on_other_chain is)
  chain_told first (l.of_other_chain is) = going_told r.DifferentChains first is
  chain_told token (l.misfit_of_chain is) = misfit_told (fault token r.DifferentChains) is

  pub classes_told : (token : ℕ) → ClassWithClasses s js token → All (fault token r.ClassWithClasses)
  unfolding finds connected_by arm_fits
  classes_told _ (l.behind_dot {e = e} {a = a} {x = x} {class = class} {block = block} j plain p q is) =
      let y : Fault = fault x.token.0 r.ClassWithClasses in
      class_told e a x class block y j plain p q (to_first (bars (has_classes s block) x.token.0 r.ClassWithClasses) (remote_at s e x block) y (to_bars (has_classes s block) x.token.0 r.ClassWithClasses is))
  classes_told token (l.by_inspection {x = x} {class = class} {block = block} j p q is) =
      let y : Fault = fault token r.ClassWithClasses in
      by_judgement (Inspects token x) y j (subst (λ o. Among (told_by (type_connected s token (operand s extent.Statement x) o)) y) (sym p) (connected_to s token block (class_block s class) q is))
  classes_told token (l.by_arm {x = x} {class = class} {d = d} {block = block} j at q is) =
      let y : Fault = fault token r.ClassWithClasses in
      by_judgement (Arm token x class) y j (to_second (class_fits s class.token.0 (class_of s extent.Statement class).denotes (type_of s extent.Statement x)) _ y
      (subst (λ o. Among (told_by (arm_connected s token o)) y) (sym at) (connected_to s token block (block_of_class s d) q is)))

  pub outside_told : (token : ℕ) → ThisOutsideItsClass s js token → All (fault token r.ThisOutsideItsClass)
  outside_told _ (l.outside {e = e} {token = token} {class = class} {d = d} j at none) = this_told e token class d (fault class.token.0 r.ThisOutsideItsClass) j at (is_outside none)

  pub controlled_told : (token : ℕ) → ControlledVariableNotSimple s js token → All (fault token r.ControlledVariableNotSimple)
  unfolding finds
  controlled_told _ (l.controlled {sign = sign} {x = x} j at) =
      let y : Fault = fault x.token.0 r.ControlledVariableNotSimple in
      by_judgement (Controls sign x) y j (from_list y (simple_faults sign x.token.0 s (occurrence s extent.Statement x).denotes) (subst (λ z. Among (variable_list sign x.token.0 z) y) (sym at) here))

  pub activation_told : (token : ℕ) → ActivationOutsideSimulation s js token → All (fault token r.ActivationOutsideSimulation)
  unfolding finds
  activation_told token (l.no_simulation j at) =
      let y : Fault = fault token r.ActivationOutsideSimulation in by_judgement (Activates token) y j (subst (λ o. Among (faults (in_simulation token o)) y) (sym at) here)

  pub prefixing_told : (token : ℕ) → OnlyForPrefixing s js token → All (fault token r.OnlyForPrefixing)
  prefixing_told _ (l.compared_with {e = e} {x = x} {class = class} j at is) = compared_told e x class (fault class.token.0 r.OnlyForPrefixing) j (is_for_prefixing at is)
  prefixing_told _ (l.when_of {token = token} {x = x} {class = class} j at is) = arm_told token x class (fault class.token.0 r.OnlyForPrefixing) j (is_for_prefixing at is)
  prefixing_told _ (l.this_of {e = e} {token = token} {class = class} {d = d} j at is) = this_told e token class d (fault class.token.0 r.OnlyForPrefixing) j at (this_for_prefixing is)
  prefixing_told _ (l.new_of {e = e} {token = token} {class = class} {args = args} {d = d} j at is) = prefixing_new e token class args d j at is

  barred_told : (token : ℕ) (d : Denotation) (c : Bool) → c ≡ true → Among (told_by (used_or_barred token d c)) (fault token r.BoundDependsOnItsBlock)
  unfolding telling
  barred_told token d true is = here
  barred_told token d false is = absurd (cc)

  pub bound_told : (token : ℕ) → BoundDependsOnItsBlock s js token → All (fault token r.BoundDependsOnItsBlock)
  unfolding finds bound used_in
  bound_told _ (l.identifier_of_block {e = e} {x = x} {d = d} j at is) =
      let y : Fault = fault x.token.0 r.BoundDependsOnItsBlock in
      by_judgement (Occurs e x) y j (subst (λ o. Among (told_by (found_as s e x.token.0 x.name o)) y) (sym at)
      (to_second (located x.token.0 (found_in s x.token.0 x.name)) (λ n. used_or_barred x.token.0 d (is_barred s e x.token.0 d)) y (barred_told x.token.0 d (is_barred s e x.token.0 d) is)))
  bound_told _ (l.attribute_of_block {e = e} {a = a} {x = x} {class = class} {block = block} {d = d} j plain p q at is) =
      let y : Fault = fault x.token.0 r.BoundDependsOnItsBlock in
      remote_told e a x class block y j plain p q (subst (λ o. Among (told_by (remote_as s e x block o)) y) (sym at) (barred_told x.token.0 d (is_barred s e x.token.0 d) is))
  bound_told _ (l.this_of_block {e = e} {token = token} {class = class} {d = d} j at is) = this_told e token class d (fault class.token.0 r.BoundDependsOnItsBlock) j at (this_of_bound is)

  pub name_told : (token : ℕ) → StandardNameLeftOut s js token → All (fault token r.StandardNameLeftOut)
  unfolding finds
  name_told token (l.stream_alone {o = o} c is stream) = called_told o (fault token r.StandardNameLeftOut) c (called_to s o (fault token r.StandardNameLeftOut) (is_a_stream is stream))
  name_told token (l.stream_applied {d = d} {a = a} is stream) = stream_applied_told token d a is stream
  name_told _ (l.passed {e = e} {q = q} {x = x} j free is) =
      let y : Fault = fault (first_of x) r.StandardNameLeftOut in
      by_judgement (ActualFor q e x) y j (from_list y (actual_faults s (first_of x) q (outcome s e x))
      (subst (λ c. Among (if c then told_by (valued s (first_of x) (outcome s e x)) else b.where_true (is_left_out s q (outcome s e x)) (first_of x) r.StandardNameLeftOut) y) (sym free) (to_test (is_left_out s q (outcome s e x)) (first_of x) r.StandardNameLeftOut is)))
  name_told token (l.misfit_of_name is) = misfit_told (fault token r.StandardNameLeftOut) is

-- What judgements of uses and statements find is what breaks a clause of the last round.
use Rattle.static_rules.specs.Types.{called_as}
use Rattle.std.proofs.Common.{◌≡◌, inl, inr, ℕ, Bool, true, false, not, if◌then◌else◌, List, [], ◌∷◌, Option, Some, None, refl, ap, ◌∙◌, subst}
use Rattle.std.specs.Prelude.{◌||◌, ◌&&◌, nat_eq}
use Rattle.sim_base.specs.declared.numbering.DeclNo.{DeclNo}
use Rattle.sim_base.specs.declared.rule.Rule.{Rule}
use Rattle.sim_base.specs.declared.rule.Rule.TheVariants as r
use Rattle.sim_tree.specs.declared.expr.Identifier.{Identifier}
use Rattle.sim_tree.specs.declared.stmt.Assignment.{Assignment}
use Rattle.sim_tree.specs.declared.stmt.Constant.{Constant}
use Rattle.sim_tree.specs.declared.stmt.TypeName.{TypeName}
use Rattle.sim_tree.specs.declared.stmt.Variable.{Variable as VariableTree}
use Rattle.sim_tree.specs.Syntax.{Expression, Expressions, RightSide, first_of}
use Rattle.sim_scope.specs.Assignments.{compared, fine, first_sign, last_value, left_sides, lefts, no_lefts, same_sign, sign_agrees, takes, target, told, wrong}
use Rattle.sim_scope.specs.Breaks as b
use Rattle.sim_scope.specs.Calls.{applied, bound, located, used, used_there}
use Rattle.sim_scope.specs.Found.{Broken}
use Rattle.sim_scope.specs.Judged.{bars, gives, next, telling}
use Rattle.sim_scope.specs.Least.{Among, faults}
use Rattle.sim_scope.specs.Levels.{class_block}
use Rattle.sim_scope.specs.Operators.{is_reference, is_same, misfit_of}
use Rattle.sim_scope.specs.Outcomes.{called, in_parentheses, one, parenthesized, side, three, two, valued}
use Rattle.sim_scope.specs.References.{as_class, block_of_class, class_fits, formal_count, generated, is_only_prefix, new_object, new_of_class, this_block, this_fits, this_object, this_of_class, this_value, wrong_number}
use Rattle.sim_scope.specs.Scopes.{binding}
use Rattle.sim_scope.specs.Statements.{activates, arm_connected, arm_fits, call_alone, connected_by, constant_token, constant_type, has_type, in_simulation, integer_from, needs, needs_reference, prefixed_with, process_at, reference_needed, stands, starts, taken_by, type_activated, type_connected, type_needed, type_taken, value_fits, value_type, variable_events}
use Rattle.sim_scope.specs.Tables.{Tables}
use Rattle.sim_scope.specs.declared.found.Fault.{Fault}
use Rattle.sim_scope.specs.declared.outcome.Actuals.{Actuals}
use Rattle.sim_scope.specs.declared.outcome.Extent.{Extent}
use Rattle.sim_scope.specs.declared.outcome.Extent.TheVariants as extent
use Rattle.sim_scope.specs.declared.outcome.LeftSides.{LeftSides}
use Rattle.sim_scope.specs.declared.outcome.Occurrence.{Occurrence}
use Rattle.sim_scope.specs.declared.outcome.Outcome.{Outcome}
use Rattle.sim_scope.specs.declared.outcome.Parameter.{Parameter}
use Rattle.sim_scope.specs.declared.scopes.Denotation.{Denotation}
use Rattle.sim_scope.specs.declared.types.SimType.{SimType}
use Rattle.sim_scope.specs.declared.types.SimType.TheVariants as t
use Rattle.static_rules.specs.Judgements.{Activates, ActualFor, Alone, Arm, Arms, Assigned, Attribute, ComparedWith, Controls, Declared, InParentheses, Inspects, InspectsWhen, Judgement, NamesClass, Needs, NewOf, Occurs, Operand, Operands, PrefixOf, Process, Sign, StartsFrom, TakenBy, Target, ThisOf, Used, Value, class_of, finds, given, occurrence, operand, outcome, type_of}
use Rattle.static_rules.specs.LastRound as l
use Rattle.static_rules.specs.LastRound.{ActivationOutsideSimulation, BoundDependsOnItsBlock, ClassWithClasses, ControlledVariableNotSimple, DifferentChains, GoesTo, IsApplied, IsCalled, IsJudged, IsMisfit, IsMissing, IsTaken, LeftSideIsNoVariable, OnlyForPrefixing, StandardNameLeftOut, ThisOutsideItsClass, WrongKind, WrongNumber, WrongType}
use Rattle.static_rules.specs.LeftSides.{Left, NotSimple, Of, Refused, Simple, Unknown, Variable, WithoutKind, WithoutValue, is_called_left, left_of, variable_of}
use Rattle.static_rules.specs.Words.{agrees, count_of, has_parameters, is_call, is_known, is_left_out, is_stream_of, is_taken}
use Rattle.static_rules.proofs.Lists.{among_either, among_one, from_test}
use Rattle.static_rules.proofs.Parts.{ClassFault, alone_faults, class_from, connected_from, from_bars, generated_faults, generated_list, is_for_prefixing, left_list, on_other_chain, parentheses_from, rule_list, simple_faults, target_faults, this_from, this_silent, unless_faults, variable_list}
use Rattle.static_rules.proofs.Telling.{actual_faults, applied_faults, applied_list, applied_stream, from_next, side_faults, told_by, untyped_faults, used_faults, used_list}
use Rattle.static_rules.proofs.Whats.{bars_value, called_value}
use Rattle.static_rules.proofs.Tests.{not_true}
use Rattle.static_rules.proofs.LastFound.{Found, activation_found, arms_found, attribute_found_at, called_found, chain_found, class_barred_found, classes_found, controlled_found, going_found, kind_found, left_found, located_silent, misfit_found, name_found, names_found, number_found, occurs_found, operand_found, operands_found, prefixing_found, same_list, taken_found, this_fault, type_found}

or_first_false : (a b : Bool) → (a || b) ≡ false → a ≡ false
or_first_false true b e = absurd (cc)
or_first_false false b e = refl

or_second_false : (a b : Bool) → (a || b) ≡ false → b ≡ false
or_second_false true b e = absurd (cc)
or_second_false false b e = e

module _ (s : Tables) (js : List Judgement) where
  -- ---- `this` and `new`

  this_found_at : (e : Extent) (token : ℕ) (class : Identifier) (y : Fault) → IsJudged js (ThisOf e token class) → (barred : Bool) (o : Option Denotation) → (class_of s e class).denotes ≡ o
      → Among (told_by (this_of_class s e token class.token.0 o barred)) y → Found s js y
  unfolding gives
  this_found_at e token class y j barred None at h = elim h [ ]
  this_found_at e token class y j barred (Some d) at h =
      let block : Option ℕ = this_block s class.token.0 d in
      elim (from_next (located token block) (λ n. next (this_fits s e class.token.0 d block) (λ b. this_value token d (b || barred))) y h) [
        | inl k ↦ elim (same_list y (located_silent s js token block) k) [ ]
        | inr k ↦ elim (from_next (this_fits s e class.token.0 d block) (λ b. this_value token d (b || barred)) y k) [
          | inl n ↦ this_fault s js e token class d y j at (this_from s e class.token.0 d block y n)
          | inr n ↦ elim (same_list y (this_silent token d _) n) [ ]
        ]
      ]

  generation_found : (e : Extent) (token : ℕ) (class : Identifier) (args : Expressions) (d : Denotation) (y : Fault) → IsJudged js (NewOf e token class args) → (class_of s e class).denotes ≡ Some d
      → (barred typed : Bool) (m : Option Fault) → (wrong_number s d (given s e (class_of s e class).denotes args) || is_only_prefix s d || (class_of s e class).barred) ≡ barred → (given s e (class_of s e class).denotes args).typed ≡ typed → (given s e (class_of s e class).denotes args).misfit ≡ m
      → Among (generated_list barred typed m) y → Found s js y
  generation_found e token class args d y j at true typed m bars_it is misfit h = elim h [ ]
  generation_found e token class args d y j at false false m bars_it is misfit h = elim h [ ]
  generation_found e token class args d y j at false true None bars_it is misfit h = elim h [ ]
  generation_found e token class args d y j at false true (Some f) bars_it is misfit h =
      let wrong_one : Bool = wrong_number s d (given s e (class_of s e class).denotes args) in
      let both_allow : (wrong_one || is_only_prefix s d) ≡ false = or_first_false (wrong_one || is_only_prefix s d) (class_of s e class).barred bars_it in
      let open_one : (class_of s e class).barred ≡ false = or_second_false (wrong_one || is_only_prefix s d) (class_of s e class).barred bars_it in
      subst (Found s js) (among_one h) (misfit_found (l.in_generation j at (or_first_false wrong_one (is_only_prefix s d) both_allow) (or_second_false wrong_one (is_only_prefix s d) both_allow) open_one is misfit))

  new_found_at : (e : Extent) (token : ℕ) (class : Identifier) (args : Expressions) (y : Fault) → IsJudged js (NewOf e token class args) → (o : Option Denotation) → (class_of s e class).denotes ≡ o
      → Among (told_by (new_of_class s token class.token.0 o (class_of s e class).barred (given s e (class_of s e class).denotes args))) y → Found s js y
  unfolding gives
  new_found_at e token class args y j None at h = elim h [ ]
  new_found_at e token class args y j (Some d) at h =
      let a : Actuals = given s e (class_of s e class).denotes args in
      let barred : Bool = (class_of s e class).barred in
      let p = bars (wrong_number s d a) class.token.0 r.WrongNumber in
      let q = bars (is_only_prefix s d) class.token.0 r.OnlyForPrefixing in
      elim (from_next p (λ c. next q (λ f. generated token d a (c || f || barred))) y h) [
        | inl k ↦ (let u = from_bars (wrong_number s d a) class.token.0 r.WrongNumber y k in subst (Found s js) u.1 (number_found (l.of_class j at u.0)))
        | inr k ↦ elim (from_next q (λ f. generated token d a (p.value || f || barred)) y k) [
          | inl n ↦ (let u = from_bars (is_only_prefix s d) class.token.0 r.OnlyForPrefixing y n in subst (Found s js) u.1 (prefixing_found (l.new_of j at u.0)))
          | inr n ↦ generation_found e token class args d y j at (wrong_number s d a || is_only_prefix s d || barred) a.typed a.misfit refl refl refl
              (same_list y (generated_faults token d a (wrong_number s d a || is_only_prefix s d || barred))
              (subst (λ c. Among (told_by (generated token d a (c || is_only_prefix s d || barred))) y) (bars_value (wrong_number s d a) class.token.0 r.WrongNumber)
              (subst (λ c. Among (told_by (generated token d a (p.value || c || barred))) y) (bars_value (is_only_prefix s d) class.token.0 r.OnlyForPrefixing) n)))
        ]
      ]

  -- ---- uses with actuals

  applied_found : (token : ℕ) (d : Denotation) (a : Actuals) (y : Fault) → IsApplied s js token d a → a.typed ≡ true → is_stream_of d ≡ false → (takes right known : Bool) (m : Option Fault) → has_parameters s d ≡ takes → agrees (count_of s d) a.count ≡ right → is_known s d ≡ known → a.misfit ≡ m
      → Among (applied_list takes right known token m) y → Found s js y
  applied_found token d a y is typed plain false right known m p q u v h = subst (Found s js) (among_one h) (kind_found (l.no_parameters is typed plain p))
  applied_found token d a y is typed plain true false known m p q u v h = subst (Found s js) (among_one h) (number_found (l.other_number is typed plain p q))
  applied_found token d a y is typed plain true true false m p q u v h = elim h [ ]
  applied_found token d a y is typed plain true true true None p q u v h = elim h [ ]
  applied_found token d a y is typed plain true true true (Some f) p q u v h = subst (Found s js) (among_one h) (misfit_found (l.in_call is typed plain p q u v))

  typed_found : (naming token : ℕ) (d : Denotation) (a : Actuals) (y : Fault) → IsApplied s js token d a → a.typed ≡ true → (c : Bool) → is_stream_of d ≡ c → Among (told_by (applied s naming token d a)) y → Found s js y
  typed_found naming token d a y is typed true stream h = subst (Found s js) (among_one (same_list y (applied_stream s naming token a d stream) h)) (name_found (l.stream_applied is stream))
  typed_found naming token d a y is typed false plain h = applied_found token d a y is typed plain (has_parameters s d) (agrees (count_of s d) a.count) (is_known s d) a.misfit refl refl refl refl (same_list y (applied_faults s naming token a d plain) h)

  used_found_at : (naming : ℕ) (x : Identifier) (e : Extent) (o : Occurrence) (args : Expressions) (y : Fault) → IsJudged js (Used naming x e o args) → (q : Option Denotation) → o.denotes ≡ q → Among (told_by (used_there s naming x q o.barred (given s e o.denotes args))) y → Found s js y
  unfolding gives
  used_found_at naming x e o args y j None at h = elim h [ ]
  used_found_at naming x e o args y j (Some d) at h = go (nat_eq (given s e o.denotes args).count 0) (given s e o.denotes args).typed refl refl (same_list y (used_faults s naming x d o.barred (given s e o.denotes args)) h)
    where
      go : (n c : Bool) → nat_eq (given s e o.denotes args).count 0 ≡ n → (given s e o.denotes args).typed ≡ c → Among (used_list s naming x d (given s e o.denotes args) n c) y → Found s js y
      go true c none typed k = elim k [ ]
      go false true some typed k = typed_found naming x.token.0 d (given s e o.denotes args) y (l.with_actuals naming e args j at some) typed (is_stream_of d) refl k
      go false false some typed k =
          let u = from_test (is_stream_of d) x.token.0 r.StandardNameLeftOut y (same_list y (untyped_faults s naming x.token.0 (given s e o.denotes args) d) k) in
          subst (Found s js) u.1 (name_found (l.stream_applied (l.with_actuals naming e args j at some) u.0))

  actual_found_at : (q : Parameter) (e : Extent) (x : Expression) (y : Fault) → IsJudged js (ActualFor q e x) → (c : Bool) → is_taken q (outcome s e x) ≡ c
      → Among (if c then told_by (valued s (first_of x) (outcome s e x)) else b.where_true (is_left_out s q (outcome s e x)) (first_of x) r.StandardNameLeftOut) y → Found s js y
  actual_found_at q e x y j true is h = taken_found s js (first_of x) (outcome s e x) y (l.as_actual e j is) h
  actual_found_at q e x y j false is h = let u = from_test (is_left_out s q (outcome s e x)) (first_of x) r.StandardNameLeftOut y h in subst (Found s js) u.1 (name_found (l.passed j is u.0))

  -- ---- statements

  needs_found : (e : Extent) (wanted : SimType) (x : Expression) (y : Fault) → IsJudged js (Needs e wanted x) → (a : Option SimType) → type_of s e x ≡ a → Among (told_by (type_needed wanted (operand s e x) a)) y → Found s js y
  unfolding side next fine wrong gives telling
  needs_found e wanted x y j None p h = elim h [ ]
  needs_found e wanted x y j (Some a) p h = go (is_same a wanted) refl h
    where
      go : (c : Bool) → is_same a wanted ≡ c → Among (told_by (if c then fine else wrong (first_of x) r.WrongType)) y → Found s js y
      go true is k = elim k [ ]
      go false is k = subst (Found s js) (among_one k) (type_found (l.not_needed j p is))

  sign_found : (first sign : Assignment) (token : ℕ) (y : Fault) → IsJudged js (Sign first sign token) → (c : Bool) → same_sign first sign ≡ c → Among (told_by (if c then fine else wrong token r.LeftSideIsNoVariable)) y → Found s js y
  unfolding fine wrong gives telling
  sign_found first sign token y j true is h = elim h [ ]
  sign_found first sign token y j false is h = subst (Found s js) (among_one h) (left_found (l.other_sign j is))

  left_found_at : (sign : Assignment) (x : Expression) (y : Fault) → IsJudged js (Target sign x) → (o : Left) → left_of s sign (outcome s extent.Statement x) ≡ o → Among (left_list sign (first_of x) o) y → Found s js y
  left_found_at sign x y j (Of variable ty) at h = elim (among_either (b.where_true (not (takes sign ty)) (first_of x) r.WrongType) (b.where_true (not variable) (first_of x) r.LeftSideIsNoVariable) y h) [
    | inl k ↦ (let u = from_test (not (takes sign ty)) (first_of x) r.WrongType y k in subst (Found s js) u.1 (type_found (l.sign_of_left j at (not_true (takes sign ty) u.0))))
    | inr k ↦ (let u = from_test (not variable) (first_of x) r.LeftSideIsNoVariable y k in subst (Found s js) u.1 (left_found (l.no_variable j (at ∙ ap (λ z. Of z ty) (not_true variable u.0)))))
  ]
  left_found_at sign x y j WithoutValue at h = subst (Found s js) (among_one h) (type_found (l.left_without_value j at))
  left_found_at sign x y j WithoutKind at h = subst (Found s js) (among_one h) (kind_found (l.no_left_side j at))
  left_found_at sign x y j Refused at h = elim h [ ]

  target_found : (sign : Assignment) (x : Expression) (y : Fault) → IsJudged js (Target sign x) → Among (told_by (target s sign (first_of x) (outcome s extent.Statement x))) y → Found s js y
  target_found sign x y j h =
      let o : Outcome = outcome s extent.Statement x in
      elim (among_either (if is_called_left s sign o then told_by (called s o) else []) (left_list sign (first_of x) (left_of s sign o)) y (same_list y (target_faults s sign (first_of x) o) h)) [
        | inl k ↦ go (is_called_left s sign o) refl k
        | inr k ↦ left_found_at sign x y j (left_of s sign o) refl k
      ]
    where
      go : (c : Bool) → is_called_left s sign (outcome s extent.Statement x) ≡ c → Among (if c then told_by (called s (outcome s extent.Statement x)) else []) y → Found s js y
      go true is k = called_found s js (outcome s extent.Statement x) y (l.as_left_side j is) k
      go false is k = elim k [ ]

  assigned_found : (left : Expression) (parts : List RightSide) (y : Fault) → IsJudged js (Assigned left parts) → (a : LeftSides) → (lefts s (first_sign parts) (operand s extent.Statement (last_value left parts)) no_lefts (left_sides left parts)).value ≡ a
      → (c : Bool) (m : Option Fault) → a.typed ≡ c → a.misfit ≡ m → Among (told_by (if c then told m else fine)) y → Found s js y
  unfolding fine wrong gives telling
  assigned_found left parts y j a at true None typed misfit h = elim h [ ]
  assigned_found left parts y j a at true (Some f) typed misfit h = subst (Found s js) (among_one h) (misfit_found (l.in_assignment j (ap (λ z. z.typed) at ∙ typed) (ap (λ z. z.misfit) at ∙ misfit)))
  assigned_found left parts y j a at false m typed misfit h = elim h [ ]

  controls_found : (sign : Assignment) (x : Identifier) (y : Fault) → IsJudged js (Controls sign x) → (o : Variable) → variable_of s (occurrence s extent.Statement x).denotes ≡ o → Among (variable_list sign x.token.0 o) y → Found s js y
  controls_found sign x y j (Simple ty) at h = let u = from_test (not (takes sign ty)) x.token.0 r.WrongType y h in subst (Found s js) u.1 (type_found (l.sign_of_controlled j at (not_true (takes sign ty) u.0)))
  controls_found sign x y j NotSimple at h = subst (Found s js) (among_one h) (controlled_found (l.controlled j at))
  controls_found sign x y j Unknown at h = elim h [ ]

  ruled_found : (first : ℕ) (y : Fault) (o : Option Rule) → ((rule : Rule) → o ≡ Some rule → GoesTo s js rule first) → Among (rule_list first o) y → Found s js y
  ruled_found first y None goes h = elim h [ ]
  ruled_found first y (Some rule) goes h = subst (Found s js) (among_one h) (going_found (goes rule refl))

  taken_by_found : (a : Option SimType) (x : Expression) (y : Fault) → IsJudged js (TakenBy a x) → (o : Option SimType) → type_of s extent.Statement x ≡ o → Among (told_by (type_taken s a (operand s extent.Statement x) o)) y → Found s js y
  unfolding side next gives fine
  taken_by_found None x y j o p h = elim h [ ]
  taken_by_found (Some a) x y j None p h = elim h [ ]
  taken_by_found (Some a) x y j (Some c) p h = ruled_found (first_of x) y (misfit_of s a c) (λ rule is. l.to_controlled j p is) (same_list y (unless_faults (first_of x) (misfit_of s a c)) h)

  process_found : (a : Option DeclNo) (x : Expression) (y : Fault) → IsJudged js (Process a x) → (o : Option SimType) → type_of s extent.Statement x ≡ o → Among (told_by (type_activated s a (operand s extent.Statement x) o)) y → Found s js y
  unfolding side next gives fine
  process_found None x y j o p h = elim h [ ]
  process_found (Some a) x y j None p h = elim h [ ]
  process_found (Some a) x y j (Some c) p h = ruled_found (first_of x) y (misfit_of s (t.Ref a) c) (λ rule is. l.to_activation j p is) (same_list y (unless_faults (first_of x) (misfit_of s (t.Ref a) c)) h)

  starts_found : (a : Option SimType) (x : Expression) (y : Fault) → IsJudged js (StartsFrom a x) → (o : Option SimType) → type_of s extent.Statement x ≡ o → Among (told_by (integer_from a (operand s extent.Statement x) o)) y → Found s js y
  unfolding side next fine wrong gives telling
  starts_found None x y j o p h = elim h [ ]
  starts_found (Some a) x y j None p h = elim h [ ]
  starts_found (Some a) x y j (Some c) p h = go (is_same a t.Integer) (is_same c t.Integer) refl refl h
    where
      go : (m n : Bool) → is_same a t.Integer ≡ m → is_same c t.Integer ≡ n → Among (told_by (if m then (if n then fine else wrong (first_of x) r.WrongType) else wrong (first_of x) r.WrongType)) y → Found s js y
      go true true q u k = elim k [ ]
      go true false q u k = subst (Found s js) (among_one k) (type_found (l.no_steps j p (ap (λ z. z && is_same c t.Integer) q ∙ u)))
      go false n q u k = subst (Found s js) (among_one k) (type_found (l.no_steps j p (ap (λ z. z && is_same c t.Integer) q)))

  declared_found : (type : TypeName) (v : VariableTree) (y : Fault) → IsJudged js (Declared type v) → (o : Option Constant) → v.value ≡ o → Among (faults (value_fits (value_type type) o)) y → Found s js y
  declared_found type v y j None at h = elim h [ ]
  declared_found type v y j (Some c) at h = go (has_type (value_type type) (constant_type c)) refl h
    where
      go : (f : Bool) → has_type (value_type type) (constant_type c) ≡ f → Among (faults (if f then [] else Broken (constant_token c) r.WrongType ∷ [])) y → Found s js y
      go true is k = elim k [ ]
      go false is k = subst (Found s js) (among_one k) (type_found (l.constant_of_type j at is))

  prefix_found : (token : ℕ) (o : Option Denotation) (args : Expressions) (y : Fault) → IsJudged js (PrefixOf token o args) → Among (told_by (prefixed_with s token o (given s extent.Statement o args))) y → Found s js y
  unfolding prefixed_with fine wrong gives telling
  prefix_found token None args y j h = elim h [ ]
  prefix_found token (Some d) args y j h = go (given s extent.Statement (Some d) args).typed (nat_eq (formal_count s d) (given s extent.Statement (Some d) args).count) (given s extent.Statement (Some d) args).misfit refl refl refl h
    where
      go : (c n : Bool) (m : Option Fault) → (given s extent.Statement (Some d) args).typed ≡ c → nat_eq (formal_count s d) (given s extent.Statement (Some d) args).count ≡ n → (given s extent.Statement (Some d) args).misfit ≡ m
          → Among (told_by (if c then (if n then told m else wrong token r.WrongNumber) else fine)) y → Found s js y
      go true true None p q u k = elim k [ ]
      go true true (Some f) p q u k = subst (Found s js) (among_one k) (misfit_found (l.in_prefix j p q u))
      go true false m p q u k = subst (Found s js) (among_one k) (number_found (l.of_prefix j p q))
      go false n m p q u k = elim k [ ]

  inspects_found : (token : ℕ) (x : Expression) (y : Fault) → IsJudged js (Inspects token x) → (o : Option SimType) → type_of s extent.Statement x ≡ o → Among (told_by (type_connected s token (operand s extent.Statement x) o)) y → Found s js y
  unfolding side next fine wrong gives telling
  inspects_found token x y j None p h = elim h [ ]
  inspects_found token x y j (Some t.Integer) p h = subst (Found s js) (among_one h) (type_found (l.inspected j p refl))
  inspects_found token x y j (Some t.Boolean) p h = subst (Found s js) (among_one h) (type_found (l.inspected j p refl))
  inspects_found token x y j (Some t.Character) p h = subst (Found s js) (among_one h) (type_found (l.inspected j p refl))
  inspects_found token x y j (Some t.Text) p h = subst (Found s js) (among_one h) (type_found (l.inspected j p refl))
  inspects_found token x y j (Some (t.Ref class)) p h = let u = connected_from s token y (class_block s class) h in subst (Found s js) u.3 (classes_found (l.by_inspection j p u.1 u.2))
  inspects_found token x y j (Some t.NoneType) p h = elim h [ ]

  when_found : (x : Expression) (y : Fault) → IsJudged js (InspectsWhen x) → (o : Option SimType) → type_of s extent.Statement x ≡ o → Among (told_by (reference_needed (operand s extent.Statement x) o)) y → Found s js y
  unfolding side next fine wrong gives telling
  when_found x y j None p h = elim h [ ]
  when_found x y j (Some a) p h = go (is_reference a) refl h
    where
      go : (c : Bool) → is_reference a ≡ c → Among (told_by (if c then fine else wrong (first_of x) r.WrongType)) y → Found s js y
      go true is k = elim k [ ]
      go false is k = subst (Found s js) (among_one k) (type_found (l.inspected_when j p is))

  arm_class_found : (token : ℕ) (x : Expression) (class : Identifier) (y : Fault) → ClassFault s class.token.0 (class_of s extent.Statement class).denotes (type_of s extent.Statement x) y → IsJudged js (Arm token x class) → Found s js y
  arm_class_found token x class _ (on_other_chain is) j = chain_found (l.with_arm j is)
  arm_class_found token x class _ (is_for_prefixing at is) j = prefixing_found (l.when_of j at is)

  arm_connected_found : (token : ℕ) (x : Expression) (class : Identifier) (y : Fault) → IsJudged js (Arm token x class) → (o : Option Denotation) → (class_of s extent.Statement class).denotes ≡ o → Among (told_by (arm_connected s token o)) y → Found s js y
  unfolding fine gives
  arm_connected_found token x class y j None at h = elim h [ ]
  arm_connected_found token x class y j (Some d) at h = let u = connected_from s token y (block_of_class s d) h in subst (Found s js) u.3 (classes_found (l.by_arm j at u.1 u.2))

  activates_found : (token : ℕ) (y : Fault) → IsJudged js (Activates token) → (o : Option DeclNo) → process_at s token ≡ o → Among (faults (in_simulation token o)) y → Found s js y
  activates_found token y j None at h = subst (Found s js) (among_one h) (activation_found (l.no_simulation j at))
  activates_found token y j (Some d) at h = elim h [ ]

  -- ---- each judgement

  pub found_by : (j : Judgement) (y : Fault) → IsJudged js j → Among (finds s j) y → Found s js y
  unfolding finds two one three bound as_class used in_parentheses this_object new_object stands needs sign_agrees compared taken_by starts variable_events connected_by needs_reference arm_fits activates
  found_by (Value e x) y j h = taken_found s js (first_of x) (outcome s e x) y (l.as_operand e j) (same_list y (side_faults s (first_of x) (outcome s e x)) h)
  found_by (Operands e operator token a c) y j h = operands_found s js e operator token a c y j (type_of s e a) (type_of s e c) refl refl h
  found_by (Operand e wanted token a) y j h = operand_found s js e wanted token a y j (type_of s e a) refl h
  found_by (Arms e token c a d) y j h = arms_found s js e token c a d y j (type_of s e c) (type_of s e a) (type_of s e d) refl refl refl h
  found_by (Occurs e x) y j h = occurs_found s js e x y j (binding s x.token.0 x.name) refl h
  found_by (Attribute e a x) y j h = attribute_found_at s js e a x y j (outcome s e a) refl h
  found_by (NamesClass e x) y j h = names_found s js e x y (occurrence s e x).barred j (occurrence s e x).denotes refl h
  found_by (Used naming x e o args) y j h = used_found_at naming x e o args y j o.denotes refl h
  found_by (ActualFor q e x) y j h = actual_found_at q e x y j (is_taken q (outcome s e x)) refl (same_list y (actual_faults s (first_of x) q (outcome s e x)) h)
  found_by (InParentheses e x) y j h = elim (from_next (called s (outcome s e x)) (parenthesized (first_of x)) y h) [
    | inl k ↦ called_found s js (outcome s e x) y (l.in_parentheses e j) k
    | inr k ↦ (let u = parentheses_from (first_of x) (called_as s (outcome s e x)) y (subst (λ z. Among (told_by (parenthesized (first_of x) z)) y) (called_value s (outcome s e x)) k) in subst (Found s js) u.1 (kind_found (l.no_value_in_parentheses e j u.0)))
  ]
  found_by (ComparedWith e x class) y j h = class_barred_found s js e x class y j h
  found_by (ThisOf e token class) y j h = this_found_at e token class y j (class_of s e class).barred (class_of s e class).denotes refl h
  found_by (NewOf e token class args) y j h = new_found_at e token class args y j (class_of s e class).denotes refl h
  found_by (Alone x) y j h = elim (from_next (called s (outcome s extent.Statement x)) (call_alone (first_of x)) y h) [
    | inl k ↦ called_found s js (outcome s extent.Statement x) y (l.as_statement j) k
    | inr k ↦ (let o : Outcome = called_as s (outcome s extent.Statement x) in
        let u = from_test (not (is_call o)) (first_of x) r.WrongKind y (same_list y (alone_faults (first_of x) o) (subst (λ z. Among (told_by (call_alone (first_of x) z)) y) (called_value s (outcome s extent.Statement x)) k)) in subst (Found s js) u.1 (kind_found (l.no_statement j (not_true (is_call o) u.0))))
  ]
  found_by (Needs e wanted x) y j h = needs_found e wanted x y j (type_of s e x) refl h
  found_by (Sign first sign token) y j h = sign_found first sign token y j (same_sign first sign) refl h
  found_by (Target sign x) y j h = target_found sign x y j h
  found_by (Assigned left parts) y j h =
      let a : LeftSides = (lefts s (first_sign parts) (operand s extent.Statement (last_value left parts)) no_lefts (left_sides left parts)).value in assigned_found left parts y j a refl a.typed a.misfit refl refl h
  found_by (Controls sign x) y j h = controls_found sign x y j (variable_of s (occurrence s extent.Statement x).denotes) refl (same_list y (simple_faults sign x.token.0 s (occurrence s extent.Statement x).denotes) h)
  found_by (TakenBy a x) y j h = taken_by_found a x y j (type_of s extent.Statement x) refl h
  found_by (StartsFrom a x) y j h = starts_found a x y j (type_of s extent.Statement x) refl h
  found_by (Declared type v) y j h = declared_found type v y j v.value refl h
  found_by (PrefixOf token d args) y j h = prefix_found token d args y j h
  found_by (Inspects token x) y j h = inspects_found token x y j (type_of s extent.Statement x) refl h
  found_by (InspectsWhen x) y j h = when_found x y j (type_of s extent.Statement x) refl h
  found_by (Arm token x class) y j h = elim (from_next (class_fits s class.token.0 (class_of s extent.Statement class).denotes (type_of s extent.Statement x)) (λ c. arm_connected s token (class_of s extent.Statement class).denotes) y h) [
    | inl k ↦ arm_class_found token x class y (class_from s class.token.0 (class_of s extent.Statement class).denotes (type_of s extent.Statement x) y k) j
    | inr k ↦ arm_connected_found token x class y j (class_of s extent.Statement class).denotes refl k
  ]
  found_by (Activates token) y j h = activates_found token y j (process_at s token) refl h
  found_by (Process a x) y j h = process_found a x y j (type_of s extent.Statement x) refl h

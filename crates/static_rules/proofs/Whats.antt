-- What is judged to be is what the definition without rules says.
use Rattle.std.proofs.Common.{◌≡◌, ◌+◌, ℕ, List, Bool, true, false, not, if◌then◌else◌, length, Option, Some, None, refl, sym, ap, ◌∙◌}
use Rattle.std.specs.Prelude.{◌||◌, ◌&&◌, nat_eq}
use Rattle.sim_base.specs.declared.numbering.DeclNo.{DeclNo}
use Rattle.sim_base.specs.declared.rule.Rule.{Rule}
use Rattle.sim_base.specs.declared.rule.Rule.TheVariants as r
use Rattle.sim_tree.specs.declared.expr.Identifier.{Identifier}
use Rattle.sim_tree.specs.declared.operator.Operator.{Operator}
use Rattle.sim_tree.specs.Syntax.{Binary, Constant, Dot, Expression, Expressions, If, Member, Named, New, NoMore, Not, Parentheses, Qua, Signed, Then, This, first_of}
use Rattle.sim_scope.specs.Actuals.{actual, array_actual, as_value, conforming, fitting, fitting_unless, has_value_alone, left_out, misfitting, more, no_actuals, parameter_at, passed_procedure, procedure_actual, procedure_fits, result_in, result_matches, same_or_misfit, standard_actual, type_matches, unspecified_procedure, value_fits, with_actual}
use Rattle.sim_scope.specs.Calls.{alone, applied, applied_untyped, attribute, attribute_by_value, attribute_count, attribute_found, attribute_in, attribute_of_value, barred_outcome, bound, declared_alone, declared_applied, element_of, formal_alone, formal_applied, found_as, is_barred, located, misfitting_or, or_barred, parameter_count, remote, remote_as, remote_in, resulting, standard_applied, typed_if, used, used_as, used_in, used_or_barred, used_there}
use Rattle.sim_scope.specs.Calls as c
use Rattle.sim_scope.specs.Expressions.{actuals, judge}
use Rattle.sim_scope.specs.Found.{Typed, lesser_of, precedes}
use Rattle.sim_scope.specs.Judged.{Judged, bars, gives, next, telling}
use Rattle.sim_scope.specs.Levels.{class_block, has_classes, on_one_chain}
use Rattle.sim_scope.specs.Operators.{common_type, is_reference, is_same, misfit_of, operands_fit, reference_misfit, wrong_type_unless}
use Rattle.sim_scope.specs.Outcomes.{arms_fit, breaks, call_of, called, fitted, has, in_common, in_parentheses, is_stream, one, parenthesized, procedure_called, side, side_of, standard_called, three, two, type_in, type_wanted, types_fit, value_of, valued, varies}
use Rattle.sim_scope.specs.References.{as_class, class_barred, class_denoted, class_fits, class_named, class_type, class_value, declared_class, generated, generates, is_no_reference, is_nowhere, is_only_prefix, member, new_object, new_of_class, no_class, only_prefix, other_chain, qualified, this_barred, this_block, this_fits, this_object, this_of_class, this_value, truth_of, wrong_number}
use Rattle.sim_scope.specs.Scopes.{binding, entry_of, formals_of}
use Rattle.sim_scope.specs.Standard.{is_standard_class, signature, sysin_attribute, sysout_attribute, text_attribute}
use Rattle.sim_scope.specs.Tables.{Tables}
use Rattle.sim_scope.specs.declared.found.Fault.{Fault}
use Rattle.sim_scope.specs.declared.outcome.Actual.{Actual}
use Rattle.sim_scope.specs.declared.outcome.Actuals.{Actuals}
use Rattle.sim_scope.specs.declared.outcome.Barred.TheVariants as bar
use Rattle.sim_scope.specs.declared.outcome.Extent.{Extent}
use Rattle.sim_scope.specs.declared.outcome.Fit.{Fit}
use Rattle.sim_scope.specs.declared.outcome.Fit.TheVariants as fit
use Rattle.sim_scope.specs.declared.outcome.Occurrence.{Occurrence}
use Rattle.sim_scope.specs.declared.outcome.Outcome.{Outcome}
use Rattle.sim_scope.specs.declared.outcome.Outcome.TheVariants as is
use Rattle.sim_scope.specs.declared.outcome.Parameter.{Parameter}
use Rattle.sim_scope.specs.declared.outcome.Parameter.TheVariants as parameter
use Rattle.sim_scope.specs.declared.outcome.Side.{Side}
use Rattle.sim_scope.specs.declared.scopes.Denotation.{Denotation}
use Rattle.sim_scope.specs.declared.scopes.Denotation.TheVariants as denotation
use Rattle.sim_scope.specs.declared.standard.Signature.{Signature}
use Rattle.sim_scope.specs.declared.standard.StandardName.{StandardName}
use Rattle.sim_scope.specs.declared.standard.StandardName.TheVariants as standard
use Rattle.sim_scope.specs.declared.types.Entry.{Entry}
use Rattle.sim_scope.specs.declared.types.Entry.TheVariants as entry
use Rattle.sim_scope.specs.declared.types.Formal.{Formal}
use Rattle.sim_scope.specs.declared.types.FormalKind.{FormalKind}
use Rattle.sim_scope.specs.declared.types.FormalKind.TheVariants as kind
use Rattle.sim_scope.specs.declared.types.SimType.{SimType}
use Rattle.sim_scope.specs.declared.types.SimType.TheVariants as t
use Rattle.static_rules.specs.Types.{Given, actual_given, alone_as, alone_given, applied_as, arms_as, array_conforms, array_given, attribute_as, attribute_of_type, called_as, class_as, class_value_as, compared_as, conforms, declared_alone_as, denoted_as, denoted_class_as, entry_result, first_needed, formal_alone_as, formal_result, found_occurrence, goes_to, goes_to_reference, in_parentheses_as, kind_conforms, new_as, none_given, occurs_as, one_more_given, operand_as, operands_as, procedure_called_as, procedure_conforms, procedure_given, procedure_kind_given, remote_occurrence, result_of, standard_called_as, standard_given, standard_kind_given, standard_occurrence, this_as, type_as_operand, typed_value, unless_barred, value_conforms, value_type, what, what_given}
use Rattle.static_rules.specs.Types as w
use Rattle.static_rules.specs.Words.{agrees, declared_count, is_simple_kind, is_typed, lacks_value, takes_parameters}

pub bars_value : (c : Bool) (token : ℕ) (rule : Rule) → (bars c token rule).value ≡ c
unfolding bars telling gives
bars_value true token rule = refl
bars_value false token rule = refl

module _ (s : Tables) where
  -- ---- values

  procedure_called_value : (token formals : ℕ) (e : Option Entry) → (procedure_called token formals e).value ≡ procedure_called_as formals e
  unfolding gives breaks telling
  procedure_called_value token formals None = refl
  procedure_called_value token formals (Some (entry.Variable ty)) = refl
  procedure_called_value token formals (Some (entry.Constant ty)) = refl
  procedure_called_value token formals (Some (entry.Array element dimensions)) = refl
  procedure_called_value token formals (Some (entry.Procedure result block)) = go (nat_eq formals 0)
    where
      go : (f : Bool) → (if f then gives (call_of result) else breaks token r.WrongNumber).value ≡ (if f then call_of result else is.Refused)
      go true = refl
      go false = refl
  procedure_called_value token formals (Some (entry.Class block)) = refl
  procedure_called_value token formals (Some (entry.Virtual result own)) = refl
  procedure_called_value token formals (Some (entry.Formal f)) = refl
  procedure_called_value token formals (Some (entry.Unspecified written)) = refl
  procedure_called_value token formals (Some (entry.Attribute name None result)) = refl
  procedure_called_value token formals (Some (entry.Attribute name (Some ty) result)) = refl

  standard_called_value : (token : ℕ) (name : StandardName) → (standard_called token name).value ≡ standard_called_as name
  unfolding gives breaks telling
  standard_called_value token name = go (is_stream name) (signature name).first
    where
      go : (f : Bool) (o : Option SimType) → (if f then breaks token r.StandardNameLeftOut else elim o as (λ _. Judged Outcome) [ None ↦ gives (call_of (signature name).result) | Some a ↦ breaks token r.WrongNumber ]).value
          ≡ (if f || first_needed o then is.Refused else call_of (signature name).result)
      go true o = refl
      go false None = refl
      go false (Some a) = refl

  pub called_value : (o : Outcome) → (called s o).value ≡ called_as s o
  unfolding called gives next
  called_value is.Refused = refl
  called_value is.NoValue = refl
  called_value is.NoValueInParentheses = refl
  called_value (is.Value ty) = refl
  called_value (is.Called ty) = refl
  called_value (is.Variable ty) = refl
  called_value (is.Constant ty) = refl
  called_value (is.Array ty) = refl
  called_value (is.Procedure d token own) = procedure_called_value token.0 (length (formals_of s d)) (entry_of s d)
  called_value (is.Standard name token) = standard_called_value token.0 name
  called_value is.Class = refl
  called_value (is.Barred (bar.Array ty)) = refl
  called_value (is.Barred bar.Class) = refl
  called_value (is.Barred (bar.Procedure d token)) = refl
  called_value (is.Barred (bar.Standard name token)) = refl

  value_of_value : (first : ℕ) (o : Outcome) → type_in (value_of first o).value ≡ value_type o
  unfolding value_of gives breaks telling
  value_of_value first is.Refused = refl
  value_of_value first is.NoValue = refl
  value_of_value first is.NoValueInParentheses = refl
  value_of_value first (is.Value ty) = refl
  value_of_value first (is.Called ty) = refl
  value_of_value first (is.Variable ty) = refl
  value_of_value first (is.Constant ty) = refl
  value_of_value first (is.Array ty) = refl
  value_of_value first (is.Procedure d token own) = refl
  value_of_value first (is.Standard name token) = refl
  value_of_value first is.Class = refl
  value_of_value first (is.Barred (bar.Array ty)) = refl
  value_of_value first (is.Barred bar.Class) = refl
  value_of_value first (is.Barred (bar.Procedure d token)) = refl
  value_of_value first (is.Barred (bar.Standard name token)) = refl

  valued_type : (first : ℕ) (o : Outcome) → type_in (valued s first o).value ≡ type_as_operand s o
  unfolding valued next
  valued_type first o = value_of_value first (called s o).value ∙ ap value_type (called_value o)

  pub side_value : (first : ℕ) (o : Outcome) → (side s first o).value ≡ side_of first (type_as_operand s o)
  unfolding side next gives
  side_value first o = ap (side_of first) (valued_type first o)

  parenthesized_value : (first : ℕ) (o : Outcome) → (parenthesized first o).value ≡ in_parentheses_as o
  unfolding parenthesized value_of gives breaks telling
  parenthesized_value first is.Refused = refl
  parenthesized_value first is.NoValue = refl
  parenthesized_value first is.NoValueInParentheses = refl
  parenthesized_value first (is.Value ty) = refl
  parenthesized_value first (is.Called ty) = refl
  parenthesized_value first (is.Variable ty) = refl
  parenthesized_value first (is.Constant ty) = refl
  parenthesized_value first (is.Array ty) = refl
  parenthesized_value first (is.Procedure d token own) = refl
  parenthesized_value first (is.Standard name token) = refl
  parenthesized_value first is.Class = refl
  parenthesized_value first (is.Barred (bar.Array ty)) = refl
  parenthesized_value first (is.Barred bar.Class) = refl
  parenthesized_value first (is.Barred (bar.Procedure d token)) = refl
  parenthesized_value first (is.Barred (bar.Standard name token)) = refl

  parentheses_value : (first : ℕ) (o : Outcome) → (in_parentheses s first o).value ≡ in_parentheses_as (called_as s o)
  unfolding in_parentheses next
  parentheses_value first o = parenthesized_value first (called s o).value ∙ ap in_parentheses_as (called_value o)

  -- ---- operators

  two_value : (operator : Operator) (token : ℕ) (x y : Side) → (two operator token x y).value ≡ operands_as (operands_fit operator) x.ty y.ty
  unfolding two gives has breaks telling
  two_value operator token x y = go x.ty y.ty
    where
      fitted_value : (f : Fit) → (fitted token x y f).value ≡ w.fitted_as f
      fitted_value (fit.Fits ty) = refl
      fitted_value fit.FirstWrong = refl
      fitted_value fit.SecondWrong = refl

      go : (a b : Option SimType) → (types_fit operator token x y a b).value ≡ operands_as (operands_fit operator) a b
      go None b = refl
      go (Some a) None = refl
      go (Some a) (Some b) = fitted_value (operands_fit operator a b)

  one_value : (wanted : SimType) (token : ℕ) (x : Side) → (one wanted token x).value ≡ operand_as wanted x.ty
  unfolding one gives has breaks telling
  one_value wanted token x = go x.ty
    where
      same : (f : Bool) → (if f then has token wanted else breaks x.first.0 r.WrongType).value ≡ (if f then is.Value wanted else is.Refused)
      same true = refl
      same false = refl

      go : (a : Option SimType) → (type_wanted wanted token x a).value ≡ operand_as wanted a
      go None = refl
      go (Some a) = same (is_same a wanted)

  three_value : (token : ℕ) (x y z : Side) → (three s token x y z).value ≡ arms_as s x.ty y.ty z.ty
  unfolding three gives has breaks telling
  three_value token x y z = go x.ty y.ty z.ty
    where
      common : (o : Option SimType) → (in_common token z o).value ≡ w.value_of_type o
      common None = refl
      common (Some ty) = refl

      branch : (f : Bool) (o : Option SimType) → (if f then in_common token z o else breaks x.first.0 r.WrongType).value ≡ (if f then w.value_of_type o else is.Refused)
      branch true o = common o
      branch false o = refl

      go : (a b d : Option SimType) → (arms_fit s token x y z a b d).value ≡ arms_as s a b d
      go None b d = refl
      go (Some a) None d = refl
      go (Some a) (Some b) None = refl
      go (Some a) (Some b) (Some d) = branch (is_same a t.Boolean) (common_type s b d)

  -- ---- identifiers

  barred_value : (token : ℕ) (d : Denotation) (f : Bool) → (used_or_barred token d f).value ≡ c.occurs (Some d) f
  unfolding telling
  barred_value token d true = refl
  barred_value token d false = refl

  found_value : (e : Extent) (token : ℕ) (name : List ℕ) (o : Option Denotation) → (found_as s e token name o).value ≡ found_occurrence s e token o
  unfolding telling used_in next
  found_value e token name None = refl
  found_value e token name (Some d) = barred_value token d (is_barred s e token d)

  pub bound_value : (e : Extent) (x : Identifier) → (bound s e x).value ≡ occurs_as s e x
  unfolding bound
  bound_value e x = found_value e x.token.0 x.name (binding s x.token.0 x.name)

  standard_value : (x : Identifier) (o : Option StandardName) → (attribute_found x o).value ≡ standard_occurrence o
  unfolding telling
  standard_value x None = refl
  standard_value x (Some name) = refl

  remote_as_value : (e : Extent) (x : Identifier) (block : ℕ) (o : Option Denotation) → (remote_as s e x block o).value ≡ found_occurrence s e x.token.0 o
  unfolding telling
  remote_as_value e x block None = refl
  remote_as_value e x block (Some d) = barred_value x.token.0 d (is_barred s e x.token.0 d)

  remote_value : (e : Extent) (x : Identifier) (o : Option ℕ) → (remote_in s e x o).value ≡ remote_occurrence s e x o
  unfolding gives next
  remote_value e x None = refl
  remote_value e x (Some block) =
      ap (λ f. c.barred_if f (remote_as s e x block (attribute_in s x.token.0 block x.name)).value) (bars_value (has_classes s block) x.token.0 r.ClassWithClasses)
      ∙ ap (c.barred_if (has_classes s block)) (remote_as_value e x block (attribute_in s x.token.0 block x.name))

  of_type_value : (e : Extent) (x : Identifier) (first : ℕ) (o : Option SimType) → (c.attribute_of_type s e x first o).value ≡ attribute_of_type s e x o
  unfolding remote gives telling
  of_type_value e x first None = refl
  of_type_value e x first (Some t.Integer) = refl
  of_type_value e x first (Some t.Boolean) = refl
  of_type_value e x first (Some t.Character) = refl
  of_type_value e x first (Some t.Text) = standard_value x (text_attribute x.name)
  of_type_value e x first (Some (t.Ref class)) = remote_value e x (class_block s class)
  of_type_value e x first (Some t.NoneType) = refl

  by_value_value : (e : Extent) (x : Identifier) (first : ℕ) (o : Outcome) → (attribute_by_value s e x first o).value ≡ attribute_of_type s e x (type_as_operand s o)
  unfolding attribute_by_value attribute_of_value next
  by_value_value e x first o = ap (λ v. (attribute_of_value s e x v).value) (side_value first o) ∙ of_type_value e x first (type_as_operand s o)

  pub attribute_value : (e : Extent) (x : Identifier) (first : ℕ) (o : Outcome) → (attribute s e x first o).value ≡ attribute_as s e x o
  unfolding attribute
  attribute_value e x first (is.Standard standard.Sysin token) = standard_value x (sysin_attribute x.name)
  attribute_value e x first (is.Standard standard.Sysout token) = standard_value x (sysout_attribute x.name)
  attribute_value e x first (is.Standard (standard.Procedure name) token) = by_value_value e x first (is.Standard (standard.Procedure name) token)
  attribute_value e x first (is.Standard (standard.Prefix which) token) = by_value_value e x first (is.Standard (standard.Prefix which) token)
  attribute_value e x first is.Refused = by_value_value e x first is.Refused
  attribute_value e x first is.NoValue = by_value_value e x first is.NoValue
  attribute_value e x first is.NoValueInParentheses = by_value_value e x first is.NoValueInParentheses
  attribute_value e x first (is.Value ty) = by_value_value e x first (is.Value ty)
  attribute_value e x first (is.Called ty) = by_value_value e x first (is.Called ty)
  attribute_value e x first (is.Variable ty) = by_value_value e x first (is.Variable ty)
  attribute_value e x first (is.Constant ty) = by_value_value e x first (is.Constant ty)
  attribute_value e x first (is.Array ty) = by_value_value e x first (is.Array ty)
  attribute_value e x first (is.Procedure d token own) = by_value_value e x first (is.Procedure d token own)
  attribute_value e x first is.Class = by_value_value e x first is.Class
  attribute_value e x first (is.Barred q) = by_value_value e x first (is.Barred q)

  as_class_value : (token : ℕ) (o : Occurrence) → (as_class s token o).value ≡ denoted_class_as s o.denotes o.barred
  unfolding as_class gives telling
  as_class_value token o = go o.denotes
    where
      block_value : (d : DeclNo) (q : Option ℕ) → (declared_class token d o.barred q).value ≡ w.declared_class_as d o.barred q
      block_value d None = refl
      block_value d (Some block) = refl

      named : (name : StandardName) (f : Bool) → (if f then gives (c.occurs (Some (denotation.Standard name)) o.barred) else no_class token).value ≡ (if f then c.occurs (Some (denotation.Standard name)) o.barred else c.nothing_there)
      named name true = refl
      named name false = refl

      go : (q : Option Denotation) → (class_denoted s token q o.barred).value ≡ denoted_class_as s q o.barred
      go None = refl
      go (Some (denotation.Declared d)) = block_value d (class_block s d)
      go (Some (denotation.Standard name)) = named name (is_standard_class name)

  pub class_value_is : (e : Extent) (x : Identifier) → (class_named s e x).value ≡ class_as s e x
  unfolding class_named next
  class_value_is e x = ap (λ o. (as_class s x.token.0 o).value) (bound_value e x) ∙ as_class_value x.token.0 (occurs_as s e x)

  -- ---- classes

  fits_value : (token : ℕ) (class : Option Denotation) (ty : Option SimType) → (class_fits s token class ty).value ≡ (other_chain s class ty || only_prefix s class)
  unfolding class_fits next gives
  fits_value token class ty =
      ap (λ f. f || (bars (only_prefix s class) token r.OnlyForPrefixing).value) (bars_value (other_chain s class ty) token r.DifferentChains)
      ∙ ap (λ f. other_chain s class ty || f) (bars_value (only_prefix s class) token r.OnlyForPrefixing)

  class_barred_value : (x : Side) (token : ℕ) (o : Occurrence) → (class_barred s x token o).value ≡ (is_no_reference x.ty || (other_chain s o.denotes x.ty || only_prefix s o.denotes) || o.barred)
  unfolding next gives
  class_barred_value x token o =
      ap (λ f. f || (class_fits s token o.denotes x.ty).value || o.barred) (bars_value (is_no_reference x.ty) x.first.0 r.WrongType)
      ∙ ap (λ f. is_no_reference x.ty || f || o.barred) (fits_value token o.denotes x.ty)

  value_in_class : (naming : ℕ) (barred : Bool) (ty : Option SimType) (class : Option Denotation) (type : Denotation → SimType) → (class_value naming barred ty class type).value ≡ class_value_as barred ty class type
  unfolding has gives telling
  value_in_class naming true ty class type = refl
  value_in_class naming false None class type = refl
  value_in_class naming false (Some a) None type = refl
  value_in_class naming false (Some a) (Some d) type = refl

  member_value : (naming : ℕ) (x : Side) (name : Identifier) (o : Occurrence) → (member s naming x name o).value ≡ compared_as s x.ty o truth_of
  unfolding member next
  member_value naming x name o = value_in_class naming (class_barred s x name.token.0 o).value x.ty o.denotes truth_of ∙ ap (λ f. class_value_as f x.ty o.denotes truth_of) (class_barred_value x name.token.0 o)

  qualified_value : (naming : ℕ) (x : Side) (name : Identifier) (o : Occurrence) → (qualified s naming x name o).value ≡ compared_as s x.ty o class_type
  unfolding qualified next
  qualified_value naming x name o = value_in_class naming (class_barred s x name.token.0 o).value x.ty o.denotes class_type ∙ ap (λ f. class_value_as f x.ty o.denotes class_type) (class_barred_value x name.token.0 o)

  this_fits_value : (e : Extent) (token : ℕ) (class : Denotation) (block : Option ℕ) → (this_fits s e token class block).value ≡ (is_nowhere block || is_only_prefix s class || this_barred s e token block)
  unfolding this_fits next gives
  this_fits_value e token class block =
      let q = bars (is_only_prefix s class) token r.OnlyForPrefixing in
      let u = bars (this_barred s e token block) token r.BoundDependsOnItsBlock in
      ap (λ f. f || q.value || u.value) (bars_value (is_nowhere block) token r.ThisOutsideItsClass)
      ∙ ap (λ f. is_nowhere block || f || u.value) (bars_value (is_only_prefix s class) token r.OnlyForPrefixing)
      ∙ ap (λ f. is_nowhere block || is_only_prefix s class || f) (bars_value (this_barred s e token block) token r.BoundDependsOnItsBlock)

  this_value_is : (naming : ℕ) (class : Denotation) (f : Bool) → (this_value naming class f).value ≡ (if f then is.Refused else is.Value (class_type class))
  unfolding has gives telling
  this_value_is naming class true = refl
  this_value_is naming class false = refl

  this_object_value : (e : Extent) (naming token : ℕ) (barred : Bool) (o : Option Denotation) → (this_of_class s e naming token o barred).value ≡ this_as s e token o barred
  unfolding next gives
  this_object_value e naming token barred None = refl
  this_object_value e naming token barred (Some class) =
      let block : Option ℕ = this_block s token class in
      this_value_is naming class ((this_fits s e token class block).value || barred) ∙ ap (λ f. if f || barred then is.Refused else is.Value (class_type class)) (this_fits_value e token class block)

  -- ---- actual parameters

  abbrev pub is_nothing : Option Fault → Bool
  is_nothing None = true
  is_nothing (Some f) = false

  abbrev pub view : Actuals → Given
  view a = record { typed = a.typed; count = a.count; fits = is_nothing a.misfit }

  abbrev one_view : Actual → Given
  one_view a = record { typed = a.typed; count = 1; fits = is_nothing a.misfit }

  lesser_nothing : (a b : Option Fault) → is_nothing (lesser_of a b) ≡ (is_nothing a && is_nothing b)
  lesser_nothing None None = refl
  lesser_nothing (Some x) None = refl
  lesser_nothing None (Some y) = refl
  lesser_nothing (Some x) (Some y) = go (precedes y x)
    where
      go : (f : Bool) → is_nothing (if f then Some y else Some x) ≡ false
      go true = refl
      go false = refl

  more_value : (a : Actuals) (x : Actual) → view (with_actual a x) ≡ one_more_given (view a) (one_view x)
  unfolding with_actual
  more_value a x = ap (λ f. record { typed = a.typed && x.typed; count = a.count + 1; fits = f }) (lesser_nothing a.misfit x.misfit)

  abbrev rule_nothing : Option Rule → Bool
  rule_nothing None = true
  rule_nothing (Some rule) = false

  unless_nothing : (f : Bool) → rule_nothing (wrong_type_unless f) ≡ f
  unless_nothing true = refl
  unless_nothing false = refl

  reference_goes : (d : DeclNo) (b : SimType) → rule_nothing (reference_misfit s d b) ≡ goes_to_reference s d b
  reference_goes d t.Integer = refl
  reference_goes d t.Boolean = refl
  reference_goes d t.Character = refl
  reference_goes d t.Text = refl
  reference_goes d (t.Ref e) = go (on_one_chain s d e)
    where
      go : (f : Bool) → rule_nothing (if f then None else Some r.DifferentChains) ≡ f
      go true = refl
      go false = refl
  reference_goes d t.NoneType = refl

  goes : (a b : SimType) → rule_nothing (misfit_of s a b) ≡ goes_to s a b
  unfolding misfit_of
  goes t.Integer b = unless_nothing (is_same t.Integer b)
  goes t.Boolean b = unless_nothing (is_same t.Boolean b)
  goes t.Character b = unless_nothing (is_same t.Character b)
  goes t.Text b = unless_nothing (is_same t.Text b)
  goes (t.Ref d) b = reference_goes d b
  goes t.NoneType b = unless_nothing (is_reference b)

  unless_view : (first : ℕ) (o : Option Rule) → one_view (fitting_unless first o) ≡ alone_given (rule_nothing o)
  unless_view first None = refl
  unless_view first (Some rule) = refl

  same_view : (first : ℕ) (wanted : Option SimType) (b : SimType) → one_view (same_or_misfit first wanted b) ≡ alone_given (type_matches wanted b)
  same_view first wanted b = go (type_matches wanted b)
    where
      go : (f : Bool) → one_view (if f then fitting else misfitting first r.WrongType) ≡ alone_given f
      go true = refl
      go false = refl

  conforming_view : (first : ℕ) (wanted : Option SimType) (b : SimType) → one_view (conforming s first wanted b) ≡ alone_given (conforms s wanted b)
  conforming_view first None b = refl
  conforming_view first (Some a) b = unless_view first (misfit_of s a b) ∙ ap alone_given (goes a b)

  value_view : (first : ℕ) (q : Parameter) (o : Option SimType) → one_view (value_fits s first q o) ≡ record { typed = is_typed o; count = 1; fits = value_conforms s q o }
  value_view first q None = refl
  value_view first parameter.Subscript (Some b) = same_view first (Some t.Integer) b
  value_view first parameter.Unspecified (Some b) = refl
  value_view first parameter.Unknown (Some b) = refl
  value_view first (parameter.Formal f) (Some b) = go f.kind
    where
      go : (k : FormalKind) → one_view (elim k as (λ _. Actual) [ kind.Simple ↦ conforming s first f.ty b | _ ↦ misfitting first r.WrongType ]) ≡ alone_given (kind_conforms s k f.ty b)
      go kind.Simple = conforming_view first f.ty b
      go kind.Array = refl
      go kind.Procedure = refl

  taken_view : (first : ℕ) (q : Parameter) (o : Outcome) → one_view (as_value s first q o).value ≡ typed_value s q o
  unfolding as_value next gives
  taken_view first q o = value_view first q (type_in (valued s first o).value) ∙ ap (λ z. record { typed = is_typed z; count = 1; fits = value_conforms s q z }) (valued_type first o)

  array_view : (first : ℕ) (o : Outcome) (element : SimType) (q : Parameter) → one_view (array_actual s first q o element).value ≡ array_given s q o element
  unfolding gives
  array_view first o element parameter.Subscript = taken_view first parameter.Subscript o
  array_view first o element (parameter.Formal f) = go f.kind
    where
      go : (k : FormalKind) → one_view (elim k as (λ _. Actual) [ kind.Array ↦ same_or_misfit first f.ty element | _ ↦ misfitting first r.WrongType ]) ≡ alone_given (array_conforms k f.ty element)
      go kind.Simple = refl
      go kind.Array = same_view first f.ty element
      go kind.Procedure = refl
  array_view first o element parameter.Unspecified = refl
  array_view first o element parameter.Unknown = refl

  procedure_fits_view : (first : ℕ) (f : Formal) (result : Option SimType) → one_view (procedure_fits s first f result) ≡ alone_given (result_matches s f.ty result)
  procedure_fits_view first f result = go (result_matches s f.ty result)
    where
      go : (b : Bool) → one_view (if b then fitting else misfitting first r.WrongType) ≡ alone_given b
      go true = refl
      go false = refl

  passed_view : (first : ℕ) (f : Formal) (e : Option Entry) → one_view (passed_procedure s first f e).value ≡ alone_given (procedure_conforms s f.ty e)
  unfolding gives telling
  passed_view first f None = procedure_fits_view first f (result_in None)
  passed_view first f (Some (entry.Variable ty)) = procedure_fits_view first f (result_in (Some (entry.Variable ty)))
  passed_view first f (Some (entry.Constant ty)) = procedure_fits_view first f (result_in (Some (entry.Constant ty)))
  passed_view first f (Some (entry.Array element dimensions)) = procedure_fits_view first f (result_in (Some (entry.Array element dimensions)))
  passed_view first f (Some (entry.Procedure result block)) = procedure_fits_view first f (result_in (Some (entry.Procedure result block)))
  passed_view first f (Some (entry.Class block)) = procedure_fits_view first f (result_in (Some (entry.Class block)))
  passed_view first f (Some (entry.Virtual result own)) = procedure_fits_view first f (result_in (Some (entry.Virtual result own)))
  passed_view first f (Some (entry.Formal g)) = procedure_fits_view first f (result_in (Some (entry.Formal g)))
  passed_view first f (Some (entry.Unspecified written)) = procedure_fits_view first f (result_in (Some (entry.Unspecified written)))
  passed_view first f (Some (entry.Attribute name ty result)) = refl

  unspecified_view : (first : ℕ) (e : Option Entry) → one_view (unspecified_procedure first e).value ≡ alone_given (not (lacks_value e))
  unfolding gives telling
  unspecified_view first None = refl
  unspecified_view first (Some (entry.Variable ty)) = refl
  unspecified_view first (Some (entry.Constant ty)) = refl
  unspecified_view first (Some (entry.Array element dimensions)) = refl
  unspecified_view first (Some (entry.Procedure result block)) = refl
  unspecified_view first (Some (entry.Class block)) = refl
  unspecified_view first (Some (entry.Virtual result own)) = refl
  unspecified_view first (Some (entry.Formal g)) = refl
  unspecified_view first (Some (entry.Unspecified written)) = refl
  unspecified_view first (Some (entry.Attribute name None (Some ty))) = refl
  unspecified_view first (Some (entry.Attribute name None None)) = refl
  unspecified_view first (Some (entry.Attribute name (Some a) None)) = refl
  unspecified_view first (Some (entry.Attribute name (Some a) (Some ty))) = refl

  procedure_view : (first : ℕ) (o : Outcome) (d : DeclNo) (q : Parameter) → one_view (procedure_actual s first q o d).value ≡ procedure_given s q o (entry_of s d)
  unfolding gives
  procedure_view first o d parameter.Subscript = taken_view first parameter.Subscript o
  procedure_view first o d parameter.Unspecified = unspecified_view first (entry_of s d)
  procedure_view first o d parameter.Unknown = refl
  procedure_view first o d (parameter.Formal f) = go f.kind
    where
      go : (k : FormalKind) → one_view (elim k as (λ _. Judged Actual) [ kind.Simple ↦ as_value s first (parameter.Formal f) o | kind.Array ↦ gives (misfitting first r.WrongType) | kind.Procedure ↦ passed_procedure s first f (entry_of s d) ]).value
          ≡ procedure_kind_given s (parameter.Formal f) k f.ty o (entry_of s d)
      go kind.Simple = taken_view first (parameter.Formal f) o
      go kind.Array = refl
      go kind.Procedure = passed_view first f (entry_of s d)

  standard_view : (first : ℕ) (o : Outcome) (x : Signature) (q : Parameter) → one_view (standard_actual s first q o x).value ≡ standard_given s q o x
  unfolding gives telling
  standard_view first o x parameter.Subscript = taken_view first parameter.Subscript o
  standard_view first o x parameter.Unspecified = go (has_value_alone x)
    where
      go : (f : Bool) → one_view (if f then gives fitting else left_out first).value ≡ alone_given f
      go true = refl
      go false = refl
  standard_view first o x parameter.Unknown = refl
  standard_view first o x (parameter.Formal f) = go f.kind
    where
      go : (k : FormalKind) → one_view (elim k as (λ _. Judged Actual) [ kind.Simple ↦ as_value s first (parameter.Formal f) o | kind.Array ↦ gives (misfitting first r.WrongType) | kind.Procedure ↦ left_out first ]).value ≡ standard_kind_given s (parameter.Formal f) k o
      go kind.Simple = taken_view first (parameter.Formal f) o
      go kind.Array = refl
      go kind.Procedure = refl

  actual_view : (first : ℕ) (q : Parameter) (o : Outcome) → one_view (actual s first q o).value ≡ actual_given s q o
  unfolding actual next gives
  actual_view first q is.Refused = taken_view first q is.Refused
  actual_view first q is.NoValue = taken_view first q is.NoValue
  actual_view first q is.NoValueInParentheses = taken_view first q is.NoValueInParentheses
  actual_view first q (is.Value ty) = taken_view first q (is.Value ty)
  actual_view first q (is.Called ty) = taken_view first q (is.Called ty)
  actual_view first q (is.Variable ty) = taken_view first q (is.Variable ty)
  actual_view first q (is.Constant ty) = taken_view first q (is.Constant ty)
  actual_view first q (is.Array ty) = array_view first (is.Array ty) ty q
  actual_view first q (is.Procedure d token own) = procedure_view first (is.Procedure d token own) d q
  actual_view first q (is.Standard name token) = go (is_stream name)
    where
      go : (f : Bool) → one_view (if f then as_value s first q (is.Standard name token) else standard_actual s first q (is.Standard name token) (signature name)).value
          ≡ (if f then typed_value s q (is.Standard name token) else standard_given s q (is.Standard name token) (signature name))
      go true = taken_view first q (is.Standard name token)
      go false = standard_view first (is.Standard name token) (signature name) q
  actual_view first q is.Class = taken_view first q is.Class
  actual_view first q (is.Barred x) = refl

  -- ---- uses

  typed_if_value : (token : ℕ) (ty : Option SimType) (o : Outcome) → (typed_if token ty o).value ≡ o
  unfolding gives telling
  typed_if_value token None o = refl
  typed_if_value token (Some ty) o = refl

  formal_value : (naming : ℕ) (f : Formal) (ty : Option SimType) (o : Outcome) → (formal_alone naming f ty o).value ≡ formal_alone_as f.kind ty o
  unfolding gives telling varies
  formal_value naming f None o = go f.kind
    where
      go : (k : FormalKind) → (elim k as (λ _. Judged Outcome) [ kind.Procedure ↦ gives o | _ ↦ gives is.Refused ]).value ≡ formal_alone_as k None o
      go kind.Simple = refl
      go kind.Array = refl
      go kind.Procedure = refl
  formal_value naming f (Some ty) o = go f.kind
    where
      go : (k : FormalKind) → (elim k as (λ _. Judged Outcome) [ kind.Simple ↦ varies naming ty | kind.Array ↦ gives (is.Array ty) | kind.Procedure ↦ telling (Typed naming ty) o ]).value ≡ formal_alone_as k (Some ty) o
      go kind.Simple = refl
      go kind.Array = refl
      go kind.Procedure = refl

  declared_value : (naming : ℕ) (x : Identifier) (d : DeclNo) (o : Option Entry) → (declared_alone s naming x d o).value ≡ declared_alone_as s naming x d o
  unfolding gives telling varies
  declared_value naming x d None = refl
  declared_value naming x d (Some (entry.Variable ty)) = refl
  declared_value naming x d (Some (entry.Constant ty)) = refl
  declared_value naming x d (Some (entry.Array element dimensions)) = refl
  declared_value naming x d (Some (entry.Procedure result block)) = typed_if_value naming result _
  declared_value naming x d (Some (entry.Class block)) = refl
  declared_value naming x d (Some (entry.Virtual result own)) = typed_if_value naming result _
  declared_value naming x d (Some (entry.Formal f)) = formal_value naming f f.ty _
  declared_value naming x d (Some (entry.Unspecified written)) = refl
  declared_value naming x d (Some (entry.Attribute name parameter result)) = typed_if_value naming result _

  alone_value : (naming : ℕ) (x : Identifier) (d : Denotation) → (alone s naming x d).value ≡ alone_as s naming x d
  unfolding alone gives
  alone_value naming x (denotation.Declared d) = declared_value naming x d (entry_of s d)
  alone_value naming x (denotation.Standard name) = go (is_standard_class name)
    where
      go : (f : Bool) → (if f then gives is.Class else typed_if naming (signature name).result (is.Standard name x.token)).value ≡ (if f then is.Class else is.Standard name x.token)
      go true = refl
      go false = typed_if_value naming (signature name).result _

  resulting_value : (naming : ℕ) (m : Option Fault) (result : Option SimType) → (resulting naming m result).value ≡ (if is_nothing m then call_of result else is.Refused)
  unfolding resulting breaks telling
  resulting_value naming None result = typed_if_value naming result (call_of result)
  resulting_value naming (Some f) result = refl

  element_value : (naming : ℕ) (m : Option Fault) (element : SimType) → (element_of naming m element).value ≡ (if is_nothing m then is.Variable element else is.Refused)
  unfolding element_of varies breaks telling
  element_value naming None element = refl
  element_value naming (Some f) element = refl

  nothing_refused : (m : Option Fault) → (if is_nothing m then is.Refused else is.Refused) ≡ is.Refused
  nothing_refused None = refl
  nothing_refused (Some f) = refl

  applied_declared : (naming token : ℕ) (d : DeclNo) (a : Actuals) (o : Option Entry) → (declared_applied naming token o (length (formals_of s d)) a).value
      ≡ (if takes_parameters o && agrees (declared_count s d o) a.count && is_nothing a.misfit then entry_result o else is.Refused)
  unfolding breaks telling gives
  applied_declared naming token d a None = refl
  applied_declared naming token d a (Some (entry.Variable ty)) = refl
  applied_declared naming token d a (Some (entry.Constant ty)) = refl
  applied_declared naming token d a (Some (entry.Array element dimensions)) = go (nat_eq dimensions a.count)
    where
      go : (f : Bool) → (if f then element_of naming a.misfit element else breaks token r.WrongNumber).value ≡ (if f && is_nothing a.misfit then is.Variable element else is.Refused)
      go true = element_value naming a.misfit element
      go false = refl
  applied_declared naming token d a (Some (entry.Procedure result block)) = go (nat_eq (length (formals_of s d)) a.count)
    where
      go : (f : Bool) → (if f then resulting naming a.misfit result else breaks token r.WrongNumber).value ≡ (if f && is_nothing a.misfit then call_of result else is.Refused)
      go true = resulting_value naming a.misfit result
      go false = refl
  applied_declared naming token d a (Some (entry.Class block)) = refl
  applied_declared naming token d a (Some (entry.Virtual result own)) = resulting_value naming a.misfit result
  applied_declared naming token d a (Some (entry.Unspecified written)) = refl
  applied_declared naming token d a (Some (entry.Attribute name parameter result)) = go (nat_eq (attribute_count parameter) a.count)
    where
      go : (f : Bool) → (if f then resulting naming a.misfit result else breaks token r.WrongNumber).value ≡ (if f && is_nothing a.misfit then call_of result else is.Refused)
      go true = resulting_value naming a.misfit result
      go false = refl
  applied_declared naming token d a (Some (entry.Formal f)) = go f.kind f.ty
    where
      go : (k : FormalKind) (ty : Option SimType) → (elim k as (λ _. Judged Outcome) [ kind.Simple ↦ breaks token r.WrongKind | kind.Array ↦ elim ty [ None ↦ gives is.Refused | Some element ↦ element_of naming a.misfit element ] | kind.Procedure ↦ resulting naming a.misfit ty ]).value
          ≡ (if not (is_simple_kind k) && true && is_nothing a.misfit then formal_result k ty else is.Refused)
      go kind.Simple ty = refl
      go kind.Array None = sym (nothing_refused a.misfit)
      go kind.Array (Some element) = element_value naming a.misfit element
      go kind.Procedure ty = resulting_value naming a.misfit ty

  applied_named : (naming token : ℕ) (name : StandardName) (a : Actuals) → (standard_applied naming token name (signature name) a).value
      ≡ (if not (is_stream name) && not (is_standard_class name) && nat_eq (parameter_count (signature name)) a.count && is_nothing a.misfit then call_of (signature name).result else is.Refused)
  unfolding breaks telling
  applied_named naming token name a = go (is_stream name) (is_standard_class name) (nat_eq (parameter_count (signature name)) a.count)
    where
      go : (p q n : Bool) → (if p then breaks token r.StandardNameLeftOut else if q then breaks token r.WrongKind else if n then resulting naming a.misfit (signature name).result else breaks token r.WrongNumber).value
          ≡ (if not p && not q && n && is_nothing a.misfit then call_of (signature name).result else is.Refused)
      go true q n = refl
      go false true n = refl
      go false false true = resulting_value naming a.misfit (signature name).result
      go false false false = refl

  applied_value : (naming token : ℕ) (d : Denotation) (a : Actuals) → (applied s naming token d a).value ≡ applied_as s d (view a)
  unfolding applied
  applied_value naming token (denotation.Declared d) a = applied_declared naming token d a (entry_of s d)
  applied_value naming token (denotation.Standard name) a = applied_named naming token name a

  untyped_value : (token : ℕ) (d : Denotation) → (applied_untyped token d).value ≡ is.Refused
  unfolding applied_untyped breaks telling gives
  untyped_value token (denotation.Declared d) = refl
  untyped_value token (denotation.Standard name) = go (is_stream name)
    where
      go : (f : Bool) → (if f then breaks token r.StandardNameLeftOut else gives is.Refused).value ≡ is.Refused
      go true = refl
      go false = refl

  used_as_value : (naming : ℕ) (x : Identifier) (d : Denotation) (a : Actuals) → (used_as s naming x d a).value ≡ w.used_as s naming x d (view a)
  used_as_value naming x d a = go (nat_eq a.count 0) a.typed
    where
      go : (n f : Bool) → (if n then alone s naming x d else if f then applied s naming x.token.0 d a else applied_untyped x.token.0 d).value ≡ (if n then alone_as s naming x d else if f then applied_as s d (view a) else is.Refused)
      go true f = alone_value naming x d
      go false true = applied_value naming x.token.0 d a
      go false false = untyped_value x.token.0 d

  denoted_value : (naming : ℕ) (x : Identifier) (barred : Bool) (a : Actuals) (o : Option Denotation) → (used_there s naming x o barred a).value ≡ denoted_as s naming x o barred (view a)
  unfolding next gives
  denoted_value naming x barred a None = refl
  denoted_value naming x true a (Some d) = ap barred_outcome (used_as_value naming x d a)
  denoted_value naming x false a (Some d) = used_as_value naming x d a

  generated_value : (naming : ℕ) (class : Denotation) (a : Actuals) (barred : Bool) → (generated naming class a barred).value ≡ (if barred then is.Refused else if a.typed && is_nothing a.misfit then is.Called (class_type class) else is.Refused)
  unfolding gives breaks telling
  generated_value naming class a true = refl
  generated_value naming class a false = go a.typed a.misfit
    where
      go : (f : Bool) (m : Option Fault) → (if f then misfitting_or m (generates naming (class_type class)) else gives is.Refused).value ≡ (if f && is_nothing m then is.Called (class_type class) else is.Refused)
      go true None = refl
      go true (Some x) = refl
      go false m = refl

  new_value : (naming token : ℕ) (barred : Bool) (a : Actuals) (o : Option Denotation) → (new_of_class s naming token o barred a).value ≡ new_as s o barred (view a)
  unfolding next gives
  new_value naming token barred a None = refl
  new_value naming token barred a (Some class) =
      let p = bars (wrong_number s class a) token r.WrongNumber in
      let q = bars (is_only_prefix s class) token r.OnlyForPrefixing in
      let is : Bool → Outcome = λ f. if f then is.Refused else if a.typed && is_nothing a.misfit then is.Called (class_type class) else is.Refused in
      generated_value naming class a (p.value || q.value || barred)
      ∙ ap (λ f. is (f || q.value || barred)) (bars_value (wrong_number s class a) token r.WrongNumber)
      ∙ ap (λ f. is (wrong_number s class a || f || barred)) (bars_value (is_only_prefix s class) token r.OnlyForPrefixing)

  -- ---- expressions

  operand_from : (e : Extent) (x : Expression) → (judge s e x).value ≡ what s e x → (side s (first_of x) (judge s e x).value).value ≡ side_of (first_of x) (type_as_operand s (what s e x))
  operand_from e x is = side_value (first_of x) (judge s e x).value ∙ ap (λ o. side_of (first_of x) (type_as_operand s o)) is

  mutual
    unfolding judge actuals what what_given next gives has telling more used this_object new_object

    pub what_is : (e : Extent) (x : Expression) → (judge s e x).value ≡ what s e x
    what_is e (If i x a b) =
        let p = operand_from e x (what_is e x) in
        let q = operand_from e a (what_is e a) in
        let u = operand_from e b (what_is e b) in
        three_value i (side s (first_of x) (judge s e x).value).value (side s (first_of a) (judge s e a).value).value (side s (first_of b) (judge s e b).value).value
        ∙ ap (λ v. arms_as s v.ty (side s (first_of a) (judge s e a).value).value.ty (side s (first_of b) (judge s e b).value).value.ty) p
        ∙ ap (λ v. arms_as s (type_as_operand s (what s e x)) v.ty (side s (first_of b) (judge s e b).value).value.ty) q
        ∙ ap (λ v. arms_as s (type_as_operand s (what s e x)) (type_as_operand s (what s e a)) v.ty) u
    what_is e (Binary operator i a b) =
        two_value operator i (side s (first_of a) (judge s e a).value).value (side s (first_of b) (judge s e b).value).value
        ∙ ap (λ v. operands_as (operands_fit operator) v.ty (side s (first_of b) (judge s e b).value).value.ty) (operand_from e a (what_is e a))
        ∙ ap (λ v. operands_as (operands_fit operator) (type_as_operand s (what s e a)) v.ty) (operand_from e b (what_is e b))
    what_is e (Not i a) = one_value t.Boolean i (side s (first_of a) (judge s e a).value).value ∙ ap (λ v. operand_as t.Boolean v.ty) (operand_from e a (what_is e a))
    what_is e (Signed sign i a) = one_value t.Integer i (side s (first_of a) (judge s e a).value).value ∙ ap (λ v. operand_as t.Integer v.ty) (operand_from e a (what_is e a))
    what_is e (Constant literal i) = refl
    what_is e (Named x args) =
        denoted_value x.token.0 x (bound s e x).value.barred (actuals s e (bound s e x).value.denotes no_actuals args).value (bound s e x).value.denotes
        ∙ ap (denoted_as s x.token.0 x (bound s e x).value.denotes (bound s e x).value.barred) (given_is e (bound s e x).value.denotes no_actuals args)
        ∙ ap (λ o. denoted_as s x.token.0 x o.denotes o.barred (what_given s e o.denotes none_given args)) (bound_value e x)
    what_is e (Dot i a x args) =
        let o : Occurrence = (attribute s e x (first_of a) (judge s e a).value).value in
        denoted_value i x o.barred (actuals s e o.denotes no_actuals args).value o.denotes
        ∙ ap (denoted_as s i x o.denotes o.barred) (given_is e o.denotes no_actuals args)
        ∙ ap (λ o. denoted_as s i x o.denotes o.barred (what_given s e o.denotes none_given args)) (attribute_value e x (first_of a) (judge s e a).value ∙ ap (attribute_as s e x) (what_is e a))
    what_is e (Parentheses i a) = parentheses_value (first_of a) (judge s e a).value ∙ ap (λ o. in_parentheses_as (called_as s o)) (what_is e a)
    what_is e (Member m i a class) =
        member_value i (side s (first_of a) (judge s e a).value).value class (class_named s e class).value
        ∙ ap (λ v. compared_as s v.ty (class_named s e class).value truth_of) (operand_from e a (what_is e a)) ∙ ap (λ o. compared_as s (type_as_operand s (what s e a)) o truth_of) (class_value_is e class)
    what_is e (Qua i a class) =
        qualified_value i (side s (first_of a) (judge s e a).value).value class (class_named s e class).value
        ∙ ap (λ v. compared_as s v.ty (class_named s e class).value class_type) (operand_from e a (what_is e a)) ∙ ap (λ o. compared_as s (type_as_operand s (what s e a)) o class_type) (class_value_is e class)
    what_is e (This i class) =
        this_object_value e i class.token.0 (class_named s e class).value.barred (class_named s e class).value.denotes ∙ ap (λ o. this_as s e class.token.0 o.denotes o.barred) (class_value_is e class)
    what_is e (New i class args) =
        let o : Occurrence = (class_named s e class).value in
        new_value i class.token.0 o.barred (actuals s e o.denotes no_actuals args).value o.denotes
        ∙ ap (new_as s o.denotes o.barred) (given_is e o.denotes no_actuals args) ∙ ap (λ o. new_as s o.denotes o.barred (what_given s e o.denotes none_given args)) (class_value_is e class)

    given_is : (e : Extent) (d : Option Denotation) (a : Actuals) (xs : Expressions) → view (actuals s e d a xs).value ≡ what_given s e d (view a) xs
    given_is e d a NoMore = refl
    given_is e d a (Then x xs) =
        let q : Parameter = parameter_at s d a.count in
        given_is e d (more s d a (first_of x) (judge s e x).value).value xs
        ∙ ap (λ g. what_given s e d g xs) (more_value a (actual s (first_of x) q (judge s e x).value).value
        ∙ ap (one_more_given (view a)) (actual_view (first_of x) q (judge s e x).value ∙ ap (actual_given s q) (what_is e x)))

  pub operand_is : (e : Extent) (x : Expression) → (side s (first_of x) (judge s e x).value).value ≡ side_of (first_of x) (type_as_operand s (what s e x))
  operand_is e x = operand_from e x (what_is e x)

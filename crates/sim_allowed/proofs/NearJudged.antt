-- The class of the type of each expression is of the level of those that are declared in the text in which it stands, or of a lesser one.
use Rattle.std.proofs.Common.{◌≡◌, ◌||◌, ℕ, Bool, true, false, Option, Some, None, refl, if◌then◌else◌}
use Rattle.std.specs.Prelude.{nat_eq, length}
use Rattle.sim_base.specs.declared.numbering.DeclNo.{DeclNo}
use Rattle.sim_base.specs.declared.rule.Rule.TheVariants as r
use Rattle.sim_scope.specs.declared.found.Fault.{Fault}
use Rattle.sim_scope.specs.declared.outcome.Actuals.{Actuals}
use Rattle.sim_scope.specs.declared.outcome.Barred.TheVariants as bar
use Rattle.sim_scope.specs.declared.outcome.Extent.{Extent}
use Rattle.sim_scope.specs.declared.outcome.Fit.{Fit}
use Rattle.sim_scope.specs.declared.outcome.Fit.TheVariants as fit
use Rattle.sim_scope.specs.declared.outcome.Occurrence.{Occurrence}
use Rattle.sim_scope.specs.declared.outcome.Outcome.{Outcome}
use Rattle.sim_scope.specs.declared.outcome.Outcome.TheVariants as is
use Rattle.sim_scope.specs.declared.outcome.Side.{Side}
use Rattle.sim_scope.specs.declared.scopes.Denotation.{Denotation}
use Rattle.sim_scope.specs.declared.scopes.Denotation.TheVariants as denotation
use Rattle.sim_scope.specs.declared.standard.StandardName.{StandardName}
use Rattle.sim_scope.specs.declared.standard.StandardName.TheVariants as found
use Rattle.sim_scope.specs.declared.types.Entry.{Entry}
use Rattle.sim_scope.specs.declared.types.Entry.TheVariants as entry
use Rattle.sim_scope.specs.declared.types.Formal.{Formal}
use Rattle.sim_scope.specs.declared.types.FormalKind.{FormalKind}
use Rattle.sim_scope.specs.declared.types.FormalKind.TheVariants as shape
use Rattle.sim_scope.specs.declared.types.SimType.{SimType}
use Rattle.sim_scope.specs.declared.types.SimType.TheVariants as t
use Rattle.sim_scope.specs.Calls.{alone, applied, applied_untyped, attribute_count, barred_outcome, declared_alone, declared_applied, element_of, formal_alone, misfitting_or, parameter_count, procedure_alone, resulting, standard_applied, typed_if, used, used_as, used_there}
use Rattle.sim_scope.specs.Found.{Typed}
use Rattle.sim_scope.specs.Judged.{Judged, bars, gives, next, telling}
use Rattle.sim_scope.specs.Operators.{alike, both_are, is_reference, is_same, literal_type, operands_fit, ordered, relates}
use Rattle.sim_scope.specs.Outcomes.{breaks, call_of, called, fitted, has, in_parentheses, is_stream, one, parenthesized, procedure_called, side, signature_called, two, type_in, type_wanted, types_fit, value_of, valued, varies}
use Rattle.sim_scope.specs.References.{class_barred, class_compared, class_type, class_value, generated, generates, is_only_prefix, member, new_object, new_of_class, qualified, this_block, this_fits, this_object, this_of_class, this_value, truth_of, wrong_number}
use Rattle.sim_scope.specs.Scopes.{entry_of, formals_of}
use Rattle.sim_scope.specs.Source.{Source}
use Rattle.sim_scope.specs.Standard.{is_standard_class, plain_or_none, plain_type, signature}
use Rattle.sim_tree.specs.declared.expr.Identifier.{Identifier}
use Rattle.sim_tree.specs.declared.expr.Relation.{Relation}
use Rattle.sim_tree.specs.declared.expr.Relation.TheVariants as relation
use Rattle.sim_tree.specs.declared.operator.Operator.{Operator}
use Rattle.sim_tree.specs.declared.operator.Operator.TheVariants as operator
use Rattle.sim_tree.specs.Syntax.{Expression, Expressions, Literal, first_of}
use Rattle.sim_tree.specs.Syntax as syntax
use Rattle.sim_values.specs.declared.standard.StandardType.{StandardType}
use Rattle.sim_values.specs.declared.standard.StandardType.TheVariants as of
use Rattle.sim_values.specs.Standard.{row_of}
use Rattle.sim_allowed.proofs.Nearness.{LowEntry, LowResult, LowType}

-- the class of the type of an outcome is of no deeper level
abbrev pub LowOutcome : Source → ℕ → Outcome → Type 0
LowOutcome s n (is.Value ty) = LowType s n ty
LowOutcome s n (is.Called ty) = LowType s n ty
LowOutcome s n (is.Variable ty) = LowType s n ty
LowOutcome s n (is.Constant ty) = LowType s n ty
LowOutcome s n (is.Array ty) = LowType s n ty
LowOutcome s n (is.Procedure d token own) = (e : Entry) → entry_of s.tables d ≡ Some e → LowEntry s n e
LowOutcome s n _ = Unit {0}

-- ---- standard names

module _ (s : Source) (n : ℕ) where
  plain_low : (ty : StandardType) → LowType s n (plain_type ty)
  plain_low of.Integer = tt
  plain_low of.Boolean = tt
  plain_low of.Character = tt
  plain_low of.Text = tt
  plain_low _ = tt

  plain_result : (o : Option StandardType) → LowResult s n (plain_or_none o)
  plain_result None = tt
  plain_result (Some ty) = plain_low ty

  pub standard_low : (name : StandardName) → LowResult s n (signature name).result
  unfolding signature
  standard_low (found.Procedure x) = plain_result (row_of x).result
  standard_low found.Sysin = tt
  standard_low found.Sysout = tt
  standard_low (found.Prefix which) = tt

  -- ---- calls and values

  call_low : (o : Option SimType) → LowResult s n o → LowOutcome s n (call_of o)
  call_low None low = tt
  call_low (Some ty) low = low

  procedure_low : (token formals : ℕ) (b : Option Entry) → ((e : Entry) → b ≡ Some e → LowEntry s n e) → LowOutcome s n (procedure_called token formals b).value
  unfolding gives breaks telling
  procedure_low token formals (Some (entry.Procedure result k)) low = go (nat_eq formals 0)
    where
      go : (c : Bool) → LowOutcome s n (if c then gives (call_of result) else breaks token r.WrongNumber).value
      go true = call_low result (low (entry.Procedure result k) refl)
      go false = tt
  procedure_low token formals (Some (entry.Virtual result own)) low = call_low result (low (entry.Virtual result own) refl)
  procedure_low token formals (Some (entry.Formal f)) low = call_low f.ty (low (entry.Formal f) refl)
  procedure_low token formals (Some (entry.Attribute name None result)) low = call_low result (low (entry.Attribute name None result) refl)
  procedure_low token formals (Some (entry.Attribute name (Some ty) result)) low = tt
  procedure_low token formals (Some (entry.Variable ty)) low = tt
  procedure_low token formals (Some (entry.Constant ty)) low = tt
  procedure_low token formals (Some (entry.Array ty dimensions)) low = tt
  procedure_low token formals (Some (entry.Class k)) low = tt
  procedure_low token formals (Some (entry.Unspecified w)) low = tt
  procedure_low token formals None low = tt

  called_low : (o : Outcome) → LowOutcome s n o → LowOutcome s n (called s.tables o).value
  unfolding called gives next breaks telling
  called_low (is.Procedure d token own) low = procedure_low token.0 (length (formals_of s.tables d)) (entry_of s.tables d) low
  called_low (is.Standard name token) low = go (is_stream name)
    where
      second : (first : Option SimType) → LowOutcome s n (elim first as (λ z. Judged Outcome) [ None ↦ gives (call_of (signature name).result) | Some a ↦ breaks token.0 r.WrongNumber ]).value
      second None = call_low (signature name).result (standard_low name)
      second (Some a) = tt

      go : (c : Bool) → LowOutcome s n (if c then breaks token.0 r.StandardNameLeftOut else signature_called token.0 (signature name)).value
      go true = tt
      go false = second (signature name).first
  called_low (is.Barred (bar.Procedure d token)) low = tt
  called_low (is.Barred (bar.Standard name token)) low = tt
  called_low (is.Barred (bar.Array ty)) low = tt
  called_low (is.Barred bar.Class) low = tt
  called_low is.Refused low = tt
  called_low is.NoValue low = tt
  called_low is.NoValueInParentheses low = tt
  called_low (is.Value ty) low = low
  called_low (is.Called ty) low = low
  called_low (is.Variable ty) low = low
  called_low (is.Constant ty) low = low
  called_low (is.Array ty) low = low
  called_low is.Class low = tt

  value_low : (first : ℕ) (o : Outcome) → LowOutcome s n o → LowOutcome s n (value_of first o).value
  unfolding value_of gives breaks telling
  value_low first is.Refused low = tt
  value_low first is.NoValue low = tt
  value_low first is.NoValueInParentheses low = tt
  value_low first (is.Value ty) low = low
  value_low first (is.Called ty) low = low
  value_low first (is.Variable ty) low = low
  value_low first (is.Constant ty) low = low
  value_low first (is.Array ty) low = tt
  value_low first (is.Procedure d token own) low = tt
  value_low first (is.Standard name token) low = tt
  value_low first is.Class low = tt
  value_low first (is.Barred (bar.Procedure d token)) low = tt
  value_low first (is.Barred (bar.Standard name token)) low = tt
  value_low first (is.Barred (bar.Array ty)) low = tt
  value_low first (is.Barred bar.Class) low = tt

  pub valued_low : (first : ℕ) (o : Outcome) → LowOutcome s n o → LowOutcome s n (valued s.tables first o).value
  unfolding valued next
  valued_low first o low = value_low first (called s.tables o).value (called_low o low)

  type_low : (o : Outcome) → LowOutcome s n o → LowResult s n (type_in o)
  type_low (is.Value ty) low = low
  type_low is.Refused low = tt
  type_low is.NoValue low = tt
  type_low is.NoValueInParentheses low = tt
  type_low (is.Called ty) low = tt
  type_low (is.Variable ty) low = tt
  type_low (is.Constant ty) low = tt
  type_low (is.Array ty) low = tt
  type_low (is.Procedure d token own) low = tt
  type_low (is.Standard name token) low = tt
  type_low is.Class low = tt
  type_low (is.Barred b) low = tt

  pub side_low : (first : ℕ) (o : Outcome) → LowOutcome s n o → LowResult s n (side s.tables first o).value.ty
  unfolding side next gives
  side_low first o low = type_low (valued s.tables first o).value (valued_low first o low)

  parenthesized_low : (first : ℕ) (o : Outcome) → LowOutcome s n o → LowOutcome s n (parenthesized first o).value
  unfolding parenthesized gives
  parenthesized_low first is.NoValue low = tt
  parenthesized_low first is.NoValueInParentheses low = tt
  parenthesized_low first is.Refused low = value_low first is.Refused low
  parenthesized_low first (is.Value ty) low = value_low first (is.Value ty) low
  parenthesized_low first (is.Called ty) low = value_low first (is.Called ty) low
  parenthesized_low first (is.Variable ty) low = value_low first (is.Variable ty) low
  parenthesized_low first (is.Constant ty) low = value_low first (is.Constant ty) low
  parenthesized_low first (is.Array ty) low = value_low first (is.Array ty) low
  parenthesized_low first (is.Procedure d token own) low = value_low first (is.Procedure d token own) low
  parenthesized_low first (is.Standard name token) low = value_low first (is.Standard name token) low
  parenthesized_low first is.Class low = value_low first is.Class low
  parenthesized_low first (is.Barred b) low = value_low first (is.Barred b) low

  pub parentheses_low : (first : ℕ) (o : Outcome) → LowOutcome s n o → LowOutcome s n (in_parentheses s.tables first o).value
  unfolding in_parentheses next
  parentheses_low first o low = parenthesized_low first (called s.tables o).value (called_low o low)

  -- ---- operators

  pub has_low : (token : ℕ) (ty : SimType) → LowType s n ty → LowOutcome s n (has token ty).value
  unfolding has telling
  has_low token ty low = low

  pub breaks_low : (token : ℕ) (rule : _) → LowOutcome s n (breaks token rule).value
  unfolding breaks telling
  breaks_low token rule = tt

  abbrev LowFit : Fit → Type 0
  LowFit (fit.Fits ty) = LowType s n ty
  LowFit fit.FirstWrong = Unit {0}
  LowFit fit.SecondWrong = Unit {0}

  both_low : (wanted result : SimType) → LowType s n result → (a b : SimType) → LowFit (both_are wanted result a b)
  both_low wanted result low a b = go (is_same a wanted) (is_same b wanted)
    where
      go : (c d : Bool) → LowFit (if c then (if d then fit.Fits result else fit.SecondWrong) else fit.FirstWrong)
      go true true = low
      go true false = tt
      go false d = tt

  ordered_low : (a b : SimType) → LowFit (ordered a b)
  ordered_low t.Integer b = both_low t.Integer t.Boolean tt t.Integer b
  ordered_low t.Character b = both_low t.Character t.Boolean tt t.Character b
  ordered_low t.Text b = both_low t.Text t.Boolean tt t.Text b
  ordered_low t.Boolean b = tt
  ordered_low (t.Ref d) b = tt
  ordered_low t.NoneType b = tt

  alike_low : (a b : SimType) → LowFit (alike a b)
  alike_low a b = of_first a
    where
      second : (c : Bool) → LowFit (if c then fit.Fits t.Boolean else fit.SecondWrong)
      second true = tt
      second false = tt

      of_first : (a : SimType) → LowFit (alike a b)
      of_first t.Text = both_low t.Text t.Boolean tt t.Text b
      of_first t.Integer = tt
      of_first t.Boolean = tt
      of_first t.Character = tt
      of_first (t.Ref d) = second (is_reference b)
      of_first t.NoneType = second (is_reference b)

  relates_low : (x : Relation) (a b : SimType) → LowFit (relates x a b)
  relates_low relation.SameReference a b = alike_low a b
  relates_low relation.OtherReference a b = alike_low a b
  relates_low _ a b = ordered_low a b

  operands_low : (o : Operator) (a b : SimType) → LowFit (operands_fit o a b)
  unfolding operands_fit
  operands_low (operator.Relate x) a b = relates_low x a b
  operands_low operator.Concatenate a b = both_low t.Text t.Text tt a b
  operands_low (operator.Add x) a b = both_low t.Integer t.Integer tt a b
  operands_low (operator.Multiply x) a b = both_low t.Integer t.Integer tt a b
  operands_low operator.Power a b = both_low t.Integer t.Integer tt a b
  operands_low _ a b = both_low t.Boolean t.Boolean tt a b

  pub two_low : (o : Operator) (i : ℕ) (y z : Side) → LowOutcome s n (two o i y z).value
  unfolding two gives
  two_low o i y z = go y.ty z.ty
    where
      of : (f : Fit) → LowFit f → LowOutcome s n (fitted i y z f).value
      of (fit.Fits ty) low = has_low i ty low
      of fit.FirstWrong low = breaks_low y.first.0 r.WrongType
      of fit.SecondWrong low = breaks_low z.first.0 r.WrongType

      go : (a b : Option SimType) → LowOutcome s n (types_fit o i y z a b).value
      go (Some a) (Some b) = of (operands_fit o a b) (operands_low o a b)
      go (Some a) None = tt
      go None b = tt

  pub one_low : (wanted : SimType) → LowType s n wanted → (i : ℕ) (y : Side) → LowOutcome s n (one wanted i y).value
  unfolding one gives
  one_low wanted low i y = go y.ty
    where
      test : (c : Bool) → LowOutcome s n (if c then has i wanted else breaks y.first.0 r.WrongType).value
      test true = has_low i wanted low
      test false = breaks_low y.first.0 r.WrongType

      go : (a : Option SimType) → LowOutcome s n (type_wanted wanted i y a).value
      go None = tt
      go (Some a) = test (is_same a wanted)

  pub literal_low : (i : ℕ) (l : Literal) → LowOutcome s n (has i (literal_type l)).value
  literal_low i (syntax.IntegerValue z) = has_low i t.Integer tt
  literal_low i (syntax.CharacterValue c) = has_low i t.Character tt
  literal_low i (syntax.TextValue bytes) = has_low i t.Text tt
  literal_low i (syntax.BooleanValue b) = has_low i t.Boolean tt
  literal_low i syntax.NoObject = has_low i t.NoneType tt
  literal_low i syntax.NoText = has_low i t.Text tt

  -- ---- what is denoted

  -- the types of what is denoted, unless it is barred
  abbrev pub LowOccurrence : Occurrence → Type 0
  LowOccurrence o = (d : DeclNo) → o.denotes ≡ Some (denotation.Declared d) → o.barred ≡ false → (e : Entry) → entry_of s.tables d ≡ Some e → LowEntry s n e

  -- and the class, where it is one
  abbrev pub LowClass : Occurrence → Type 0
  LowClass o = (d : DeclNo) → o.denotes ≡ Some (denotation.Declared d) → LowType s n (t.Ref d)

  pub no_denotation : (d : Denotation) → None ≡ Some d → ⊥
  no_denotation d e = cc

  pub no_standard : (name : StandardName) (d : DeclNo) → Some (denotation.Standard name) ≡ Some (denotation.Declared d) → ⊥
  no_standard name d e = cc

  pub same_declared : (c d : DeclNo) → Some (denotation.Declared c) ≡ Some (denotation.Declared d) → c ≡ d
  same_declared c d e = cc

  barred_low : (o : Outcome) → LowOutcome s n (barred_outcome o)
  barred_low (is.Array ty) = tt
  barred_low is.Class = tt
  barred_low (is.Procedure d token own) = tt
  barred_low (is.Standard name token) = tt
  barred_low _ = tt

  typed_low : (token : ℕ) (result : Option SimType) (o : Outcome) → LowOutcome s n o → LowOutcome s n (typed_if token result o).value
  unfolding telling gives
  typed_low token None o low = low
  typed_low token (Some ty) o low = low

  varies_low : (token : ℕ) (ty : SimType) → LowType s n ty → LowOutcome s n (varies token ty).value
  unfolding varies telling
  varies_low token ty low = low

  misfitting_low : (m : Option Fault) (j : Judged Outcome) → LowOutcome s n j.value → LowOutcome s n (misfitting_or m j).value
  misfitting_low None j low = low
  misfitting_low (Some f) j low = breaks_low f.token.0 f.rule

  resulting_low : (token : ℕ) (m : Option Fault) (result : Option SimType) → LowResult s n result → LowOutcome s n (resulting token m result).value
  unfolding resulting
  resulting_low token m result low = misfitting_low m (typed_if token result (call_of result)) (typed_low token result (call_of result) (call_low result low))

  element_low : (token : ℕ) (m : Option Fault) (ty : SimType) → LowType s n ty → LowOutcome s n (element_of token m ty).value
  unfolding element_of
  element_low token m ty low = misfitting_low m (varies token ty) (varies_low token ty low)

  module _ (naming : ℕ) (x : Identifier) (d : DeclNo) (all : (e : Entry) → entry_of s.tables d ≡ Some e → LowEntry s n e) where
    formal_low : (f : Formal) → LowResult s n f.ty → LowOutcome s n (formal_alone naming f f.ty (procedure_alone d x None)).value
    unfolding gives telling
    formal_low f low = go f.ty low
      where
        typed : (ty : SimType) → LowType s n ty → (k : FormalKind)
            → LowOutcome s n (elim k as (λ z. Judged Outcome) [ shape.Simple ↦ varies naming ty | shape.Array ↦ gives (is.Array ty) | shape.Procedure ↦ telling (Typed naming ty) (procedure_alone d x None) ]).value
        typed ty low shape.Simple = varies_low naming ty low
        typed ty low shape.Array = low
        typed ty low shape.Procedure = all

        untyped : (k : FormalKind) → LowOutcome s n (elim k as (λ z. Judged Outcome) [ shape.Procedure ↦ gives (procedure_alone d x None) | _ ↦ gives is.Refused ]).value
        untyped shape.Procedure = all
        untyped shape.Simple = tt
        untyped shape.Array = tt

        go : (o : Option SimType) → LowResult s n o → LowOutcome s n (formal_alone naming f o (procedure_alone d x None)).value
        go None low = untyped f.kind
        go (Some ty) low = typed ty low f.kind

    alone_low : (b : Option Entry) → entry_of s.tables d ≡ b → LowOutcome s n (declared_alone s.tables naming x d b).value
    unfolding gives telling
    alone_low (Some (entry.Variable ty)) at = varies_low naming ty (all (entry.Variable ty) at)
    alone_low (Some (entry.Constant ty)) at = all (entry.Constant ty) at
    alone_low (Some (entry.Array ty dimensions)) at = all (entry.Array ty dimensions) at
    alone_low (Some (entry.Procedure result k)) at = typed_low naming result _ all
    alone_low (Some (entry.Class k)) at = tt
    alone_low (Some (entry.Virtual result own)) at = typed_low naming result _ all
    alone_low (Some (entry.Attribute name parameter result)) at = typed_low naming result _ all
    alone_low (Some (entry.Formal f)) at = formal_low f (all (entry.Formal f) at)
    alone_low (Some (entry.Unspecified w)) at = tt
    alone_low None at = tt

    applied_low : (token formals : ℕ) (a : Actuals) (b : Option Entry) → entry_of s.tables d ≡ b → LowOutcome s n (declared_applied naming token b formals a).value
    unfolding gives
    applied_low token formals a (Some (entry.Procedure result k)) at = go (nat_eq formals a.count)
      where
        go : (c : Bool) → LowOutcome s n (if c then resulting naming a.misfit result else breaks token r.WrongNumber).value
        go true = resulting_low naming a.misfit result (all (entry.Procedure result k) at)
        go false = breaks_low token r.WrongNumber
    applied_low token formals a (Some (entry.Array ty dimensions)) at = go (nat_eq dimensions a.count)
      where
        go : (c : Bool) → LowOutcome s n (if c then element_of naming a.misfit ty else breaks token r.WrongNumber).value
        go true = element_low naming a.misfit ty (all (entry.Array ty dimensions) at)
        go false = breaks_low token r.WrongNumber
    applied_low token formals a (Some (entry.Virtual result own)) at = resulting_low naming a.misfit result (all (entry.Virtual result own) at)
    applied_low token formals a (Some (entry.Attribute name parameter result)) at = go (nat_eq (attribute_count parameter) a.count)
      where
        go : (c : Bool) → LowOutcome s n (if c then resulting naming a.misfit result else breaks token r.WrongNumber).value
        go true = resulting_low naming a.misfit result (all (entry.Attribute name parameter result) at)
        go false = breaks_low token r.WrongNumber
    applied_low token formals a (Some (entry.Formal f)) at = go f.kind f.ty (all (entry.Formal f) at)
      where
        element : (o : Option SimType) → LowResult s n o → LowOutcome s n (elim o as (λ z. Judged Outcome) [ None ↦ gives is.Refused | Some ty ↦ element_of naming a.misfit ty ]).value
        element None low = tt
        element (Some ty) low = element_low naming a.misfit ty low

        go : (k : FormalKind) (o : Option SimType) → LowResult s n o
            → LowOutcome s n (elim k as (λ z. Judged Outcome) [ shape.Simple ↦ breaks token r.WrongKind | shape.Array ↦ elim o as (λ z. Judged Outcome) [ None ↦ gives is.Refused | Some ty ↦ element_of naming a.misfit ty ] | shape.Procedure ↦ resulting naming a.misfit o ]).value
        go shape.Simple o low = breaks_low token r.WrongKind
        go shape.Array o low = element o low
        go shape.Procedure o low = resulting_low naming a.misfit o low
    applied_low token formals a (Some (entry.Variable ty)) at = breaks_low token r.WrongKind
    applied_low token formals a (Some (entry.Constant ty)) at = breaks_low token r.WrongKind
    applied_low token formals a (Some (entry.Class k)) at = breaks_low token r.WrongKind
    applied_low token formals a (Some (entry.Unspecified w)) at = breaks_low token r.WrongKind
    applied_low token formals a None at = breaks_low token r.WrongKind

  standard_alone_low : (naming : ℕ) (x : Identifier) (name : StandardName) → LowOutcome s n (if is_standard_class name then gives is.Class else typed_if naming (signature name).result (is.Standard name x.token)).value
  unfolding gives
  standard_alone_low naming x name = go (is_standard_class name)
    where
      go : (c : Bool) → LowOutcome s n (if c then gives is.Class else typed_if naming (signature name).result (is.Standard name x.token)).value
      go true = tt
      go false = typed_low naming (signature name).result (is.Standard name x.token) tt

  standard_applied_low : (naming token : ℕ) (name : StandardName) (a : Actuals) → LowOutcome s n (standard_applied naming token name (signature name) a).value
  standard_applied_low naming token name a = go (is_stream name) (is_standard_class name) (nat_eq (parameter_count (signature name)) a.count)
    where
      go : (b c d : Bool) → LowOutcome s n (if b then breaks token r.StandardNameLeftOut else if c then breaks token r.WrongKind else if d then resulting naming a.misfit (signature name).result else breaks token r.WrongNumber).value
      go true c d = breaks_low token r.StandardNameLeftOut
      go false true d = breaks_low token r.WrongKind
      go false false true = resulting_low naming a.misfit (signature name).result (standard_low name)
      go false false false = breaks_low token r.WrongNumber

  untyped_low : (token : ℕ) (d : Denotation) → LowOutcome s n (applied_untyped token d).value
  unfolding applied_untyped gives
  untyped_low token (denotation.Declared d) = tt
  untyped_low token (denotation.Standard name) = go (is_stream name)
    where
      go : (c : Bool) → LowOutcome s n (if c then breaks token r.StandardNameLeftOut else gives is.Refused).value
      go true = breaks_low token r.StandardNameLeftOut
      go false = tt

  pub used_low : (naming : ℕ) (x : Identifier) (o : Occurrence) (a : Actuals) → LowOccurrence o → LowOutcome s n (used s.tables naming x o a).value
  unfolding used next gives alone applied
  used_low naming x o a low = go o.denotes o.barred low
    where
      as_one : (d : Denotation) → LowOutcome s n (alone s.tables naming x d).value → LowOutcome s n (applied s.tables naming x.token.0 d a).value → LowOutcome s n (used_as s.tables naming x d a).value
      as_one d one all = pick (nat_eq a.count 0) a.typed
        where
          pick : (b c : Bool) → LowOutcome s n (if b then alone s.tables naming x d else if c then applied s.tables naming x.token.0 d a else applied_untyped x.token.0 d).value
          pick true c = one
          pick false true = all
          pick false false = untyped_low x.token.0 d

      go : (d : Option Denotation) (b : Bool) → ((c : DeclNo) → d ≡ Some (denotation.Declared c) → b ≡ false → (e : Entry) → entry_of s.tables c ≡ Some e → LowEntry s n e) → LowOutcome s n (used_there s.tables naming x d b a).value
      go None b low = tt
      go (Some d) true low = barred_low (used_as s.tables naming x d a).value
      go (Some (denotation.Declared d)) false low =
          let all = low d refl refl in
          as_one (denotation.Declared d) (alone_low naming x d all (entry_of s.tables d) refl) (applied_low naming x d all x.token.0 (length (formals_of s.tables d)) a (entry_of s.tables d) refl)
      go (Some (denotation.Standard name)) false low = as_one (denotation.Standard name) (standard_alone_low naming x name) (standard_applied_low naming x.token.0 name a)

  -- ---- classes

  compared_low : (naming token : ℕ) (y : Side) (o : Occurrence) (type : Denotation → SimType) → ((d : Denotation) → o.denotes ≡ Some d → LowType s n (type d)) → LowOutcome s n (class_compared s.tables naming y token o type).value
  unfolding next gives
  compared_low naming token y o type low = go (class_barred s.tables y token o).value y.ty o.denotes low
    where
      go : (b : Bool) (ty : Option SimType) (d : Option Denotation) → ((c : Denotation) → d ≡ Some c → LowType s n (type c)) → LowOutcome s n (class_value naming b ty d type).value
      go false (Some ty) (Some d) low = has_low naming (type d) (low d refl)
      go false (Some ty) None low = tt
      go false None d low = tt
      go true ty d low = tt

  class_type_low : (o : Occurrence) → LowClass o → (d : Denotation) → o.denotes ≡ Some d → LowType s n (class_type d)
  class_type_low o low (denotation.Declared d) e = low d e
  class_type_low o low (denotation.Standard name) e = tt

  pub member_low : (naming : ℕ) (y : Side) (x : Identifier) (o : Occurrence) → LowOutcome s n (member s.tables naming y x o).value
  unfolding member
  member_low naming y x o = compared_low naming x.token.0 y o truth_of (λ d e. tt)

  pub qualified_low : (naming : ℕ) (y : Side) (x : Identifier) (o : Occurrence) → LowClass o → LowOutcome s n (qualified s.tables naming y x o).value
  unfolding qualified
  qualified_low naming y x o low = compared_low naming x.token.0 y o class_type (class_type_low o low)

  pub this_low : (e : Extent) (naming : ℕ) (x : Identifier) (o : Occurrence) → LowClass o → LowOutcome s n (this_object s.tables e naming x o).value
  unfolding this_object next gives
  this_low e naming x o low = go o.denotes (class_type_low o low)
    where
      valued_as : (d : Denotation) (b : Bool) → LowType s n (class_type d) → LowOutcome s n (this_value naming d b).value
      valued_as d true low = tt
      valued_as d false low = has_low naming (class_type d) low

      go : (d : Option Denotation) → ((c : Denotation) → d ≡ Some c → LowType s n (class_type c)) → LowOutcome s n (this_of_class s.tables e naming x.token.0 d o.barred).value
      go None low = tt
      go (Some d) low = valued_as d ((this_fits s.tables e x.token.0 d (this_block s.tables x.token.0 d)).value || o.barred) (low d refl)

  pub new_low : (naming : ℕ) (x : Identifier) (o : Occurrence) (a : Actuals) → LowClass o → LowOutcome s n (new_object s.tables naming x o a).value
  unfolding new_object next gives telling
  new_low naming x o a low = go o.denotes (class_type_low o low)
    where
      made : (d : Denotation) (b : Bool) → LowType s n (class_type d) → LowOutcome s n (generated naming d a b).value
      made d true low = tt
      made d false low = pick a.typed
        where
          pick : (c : Bool) → LowOutcome s n (if c then misfitting_or a.misfit (generates naming (class_type d)) else gives is.Refused).value
          pick true = misfitting_low a.misfit (generates naming (class_type d)) low
          pick false = tt

      go : (d : Option Denotation) → ((c : Denotation) → d ≡ Some c → LowType s n (class_type c)) → LowOutcome s n (new_of_class s.tables naming x.token.0 d o.barred a).value
      go None low = tt
      go (Some d) low =
          let p = (bars (wrong_number s.tables d a) x.token.0 r.WrongNumber).value in
          let q = (bars (is_only_prefix s.tables d) x.token.0 r.OnlyForPrefixing).value in
          made d (p || q || o.barred) (low d refl)

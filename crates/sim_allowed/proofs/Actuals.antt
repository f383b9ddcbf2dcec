-- What actual parameters and subscripts are.
use Rattle.std.proofs.Common.{◌≡◌, ◌≤◌, inl, inr, ℕ, zero, suc, ◌+◌, Bool, true, false, List, [], ◌∷◌, length, Option, Some, None, refl, sym, ap, ◌∙◌, subst, arith, if◌then◌else◌, ◌⊎◌}
use Rattle.std.specs.Prelude.{◌&&◌, slice_get}
use Rattle.sim_base.specs.declared.numbering.DeclNo.{DeclNo}
use Rattle.sim_base.specs.declared.numbering.TokenNo.{TokenNo}
use Rattle.sim_base.specs.declared.rule.Rule.{Rule}
use Rattle.sim_base.specs.declared.rule.Rule.TheVariants as r
use Rattle.sim_scope.specs.declared.found.Fault.{Fault}
use Rattle.sim_scope.specs.declared.outcome.Actual.{Actual}
use Rattle.sim_scope.specs.declared.outcome.Actuals.{Actuals}
use Rattle.sim_scope.specs.declared.outcome.Extent.{Extent}
use Rattle.sim_scope.specs.declared.outcome.Outcome.{Outcome}
use Rattle.sim_scope.specs.declared.outcome.Outcome.TheVariants as is
use Rattle.sim_scope.specs.declared.outcome.Parameter.{Parameter}
use Rattle.sim_scope.specs.declared.outcome.Parameter.TheVariants as parameter
use Rattle.sim_scope.specs.declared.scopes.Denotation.{Denotation}
use Rattle.sim_scope.specs.declared.scopes.Denotation.TheVariants as denotation
use Rattle.sim_scope.specs.declared.standard.Signature.{Signature}
use Rattle.sim_scope.specs.declared.standard.StandardName.{StandardName}
use Rattle.sim_scope.specs.declared.types.Entry.{Entry}
use Rattle.sim_scope.specs.declared.types.Entry.TheVariants as entry
use Rattle.sim_scope.specs.declared.types.Formal.{Formal}
use Rattle.sim_scope.specs.declared.types.FormalKind.{FormalKind}
use Rattle.sim_scope.specs.declared.types.FormalKind.TheVariants as shape
use Rattle.sim_scope.specs.declared.types.Mode.{Mode}
use Rattle.sim_scope.specs.declared.types.Mode.TheVariants as mode
use Rattle.sim_scope.specs.declared.types.SimType.{SimType}
use Rattle.sim_scope.specs.declared.types.SimType.TheVariants as t
use Rattle.sim_scope.specs.Actuals.{actual, array_actual, array_fits, as_value, attribute_alone, conforming, fitting, fitting_unless, formal_or_none, left_out, misfitting, more, parameter_at, parameter_type, passed_procedure, procedure_actual, procedure_fits, result_matches, same_or_misfit, standard_actual, type_matches, typed_or_none, unspecified_procedure, unspecified_standard, value_fits, with_actual}
use Rattle.sim_scope.specs.Calls.{parameter_count}
use Rattle.sim_scope.specs.Expressions.{actuals, judge}
use Rattle.sim_scope.specs.Found.{fault, lesser, lesser_of, precedes}
use Rattle.sim_scope.specs.Judged.{Judged, gives, next, telling}
use Rattle.sim_scope.specs.Operators.{misfit_of}
use Rattle.sim_scope.specs.Outcomes.{breaks, called, is_stream, type_in, value_of, valued}
use Rattle.sim_scope.specs.Scopes.{entry_of}
use Rattle.sim_scope.specs.Source.{Source, level_of, type_at}
use Rattle.sim_scope.specs.Standard.{signature}
use Rattle.sim_tree.specs.Syntax.{Expression, Expressions, NoMore, Then, first_of}
use Rattle.sim_values.specs.declared.kind.Kind.TheVariants as kind
use Rattle.sim_meaning.specs.Closing.{is_placed, typed_token}
use Rattle.sim_meaning.specs.Levels.{qualification}
use Rattle.sim_meaning.specs.Texts.{kind_of_type}
use Rattle.sim_sound.specs.Held.{ArrayOf, Place, Simply, held_by, reference_to, text_of}
use Rattle.sim_sound.specs.Expressions.{ActualFits, ActualPassed, ActualsFit, AreIntegers, AreOf, ClassNear, DeclaredNear, ExprIs, NamedIs as PassedByName, ParameterIs, ParameterOf, ParametersAre, PlaceIs, ProcedureIs as GivesProcedure, ValueIs as ValueGiven, ValueOf, VariablePassed, passed}
use Rattle.sim_meaning.specs.Checks.{PassedProcedure, passed as passed_by, type_passed, value_passed, Passed}
use Rattle.sim_agree.specs.Facts.{IsClass, ProperFormal, ProperType, Tabled, ProperResult}
use Rattle.sim_meaning.specs.Entries.{formals_of}
use Rattle.sim_allowed.proofs.Matching.{result_itself, result_matched}
use Rattle.sim_allowed.proofs.Calls.{Valued, valued_means, call_means}
use Rattle.sim_allowed.proofs.Classes.{class_held, class_qualifies, class_row, proper_value, simply}
use Rattle.sim_allowed.proofs.Headings.{AllProper}
use Rattle.sim_allowed.proofs.Meant.{Means, ValueIs, CallsFor, Gives, IsChecked, ProcedureIs, SetIs, StandardIs, TypeThere, ValueType, VirtualIs}
use Rattle.sim_allowed.proofs.Nearness.{LowEntry, LowResult, LowType}
use Rattle.sim_allowed.proofs.NearJudged.{LowOutcome, standard_low, valued_low}
use Rattle.sim_allowed.proofs.Names.{kinds_of, parameter_kinds}
use Rattle.sim_allowed.proofs.Operators.{no_misfit, same_types}
use Rattle.sim_allowed.proofs.Said.{AllSay, next_says}

-- ---- one actual

-- How an actual fits a formal parameter, whatever its mode is: a value may be passed by name too.
abbrev pub FitsFormal : Source → Place → Expression → FormalKind → Option SimType → Type 0
FitsFormal s from e shape.Simple (Some ty) = ExprIs s from e (passed (held_by s ty)) × PassedByName s from e (kind_of_type ty)
FitsFormal s from e shape.Array (Some ty) = ExprIs s from e (ArrayOf (held_by s ty))
FitsFormal s from e shape.Procedure wanted = ProperResult s wanted → GivesProcedure s from e wanted
FitsFormal s from e kind None = Unit {0}

abbrev pub FitsAs : Source → Place → Expression → Parameter → Type 0
FitsAs s from e parameter.Subscript = ExprIs s from e (Simply kind.Integer)
FitsAs s from e (parameter.Formal f) = FitsFormal s from e f.kind f.ty
FitsAs s from e parameter.Unspecified = ParameterIs s from e
FitsAs s from e parameter.Unknown = Unit {0}

-- what is held against the formal parameter when the call is done
abbrev pub IsUnspecified : Parameter → Type 0
IsUnspecified parameter.Unspecified = Unit {0}
IsUnspecified _ = ⊥

-- The level of the classes that are declared in a text, where a place is in it; and what is of this level, or of a lesser one, is declared in it or in
-- a text around.
abbrev pub level_here : Source → Place → ℕ
level_here s from = suc (level_of s (text_of from))

abbrev pub ReachedFrom : Source → Place → Type 0
ReachedFrom s from = (d : DeclNo) (c : IsClass s d) → level_of s c.block ≤ level_here s from → DeclaredNear s from (Some c.block)

-- so the class of a type is near
class_near : (s : Source) (from : Place) → ReachedFrom s from → (d : DeclNo) → IsClass s d → LowType s (level_here s from) (t.Ref d) → ClassNear s from (Some (t.Ref d))
class_near s from reach d p low = subst (λ z. DeclaredNear s from z) (sym (class_qualifies s d p)) (reach d p (low p.block (class_row s.tables d p.block p.declares)))

pub type_near : (s : Source) (from : Place) → ReachedFrom s from → (type : SimType) → ValueType s type → LowType s (level_here s from) type → ClassNear s from (Some type)
unfolding qualification
type_near s from reach (t.Ref d) p low = class_near s from reach d p low
type_near s from reach t.Integer p low = tt
type_near s from reach t.Boolean p low = tt
type_near s from reach t.Character p low = tt
type_near s from reach t.Text p low = tt
type_near s from reach t.NoneType p low = tt

pub result_near : (s : Source) (from : Place) → ReachedFrom s from → (result : Option SimType) → ProperResult s result → LowResult s (level_here s from) result → ClassNear s from result
unfolding qualification
result_near s from reach None p low = tt
result_near s from reach (Some type) p low = type_near s from reach type (proper_value s type p) low

-- it is something, and where it is no misfit it fits
pub record ActualIs (s : Source) (from : Place) (e : Expression) (p : Parameter) (x : Actual) : Type 0 where
  pub typed : x.typed ≡ true
  pub fits : x.misfit ≡ None → FitsAs s from e p

no_fault : (f : Fault) → Some f ≡ None → ⊥
no_fault f e = cc

abbrev NoValueOf : Outcome → Type 0
NoValueOf is.NoValue = Unit {0}
NoValueOf is.NoValueInParentheses = Unit {0}
NoValueOf is.Class = Unit {0}
NoValueOf _ = ⊥

no_value : (ty : SimType) → is.Refused ≡ is.Value ty → ⊥
no_value ty e = cc

same_typed : (wanted : Option SimType) (first : ℕ) (b : SimType) → (same_or_misfit first wanted b).typed ≡ true
same_typed wanted first b = go (type_matches wanted b)
  where
    go : (m : Bool) → (if m then fitting else misfitting first r.WrongType).typed ≡ true
    go true = refl
    go false = refl

matched : (wanted : Option SimType) (first : ℕ) (b : SimType) → (same_or_misfit first wanted b).misfit ≡ None → type_matches wanted b ≡ true
matched wanted first b e = go (type_matches wanted b) refl e
  where
    go : (m : Bool) → type_matches wanted b ≡ m → (if m then fitting else misfitting first r.WrongType).misfit ≡ None → type_matches wanted b ≡ true
    go true is e = is
    go false is e = absurd (no_fault (fault first r.WrongType) e)

-- a value is passed as one of the kind of its parameter
passed_reference : (o : Option ℕ) → passed (reference_to o) ≡ Simply kind.Reference
passed_reference None = refl
passed_reference (Some k) = refl

pub passed_kind : (s : Source) (type : SimType) → passed (held_by s type) ≡ Simply (kind_of_type type)
passed_kind s t.Integer = refl
passed_kind s t.Boolean = refl
passed_kind s t.Character = refl
passed_kind s t.Text = refl
passed_kind s (t.Ref d) = passed_reference (qualification s (Some (t.Ref d)))
passed_kind s t.NoneType = refl

wanted_integer : (s : Source) (from : Place) (e : Expression) (b : SimType) → ExprIs s from e (Simply (kind_of_type b)) → type_matches (Some t.Integer) b ≡ true → ExprIs s from e (Simply kind.Integer)
wanted_integer s from e b v m = subst (λ z. ExprIs s from e (Simply (kind_of_type z))) (sym (same_types t.Integer b m)) v

wanted_array : (s : Source) (from : Place) (e : Expression) (wanted : Option SimType) (b : SimType) → ExprIs s from e (ArrayOf (held_by s b)) → type_matches wanted b ≡ true → FitsFormal s from e shape.Array wanted
wanted_array s from e None b v m = tt
wanted_array s from e (Some a) b v m = subst (λ z. ExprIs s from e (ArrayOf (held_by s z))) (sym (same_types a b m)) v

module _ (s : Source) (known : Tabled s) (from : Place) (reach : ReachedFrom s from) (e : Expression) (first : ℕ) where
  abbrev here : ℕ
  here = level_here s from

  abbrev Is : Actual → Type 0 → Type 0
  Is x P = (x.typed ≡ true) × (x.misfit ≡ None → P)

  is_actual : (p : Parameter) (x : Actual) → Is x (FitsAs s from e p) → ActualIs s from e p x
  is_actual p x a = record { typed = a.0; fits = a.1 }

  misfit_is : (rule : _) (P : Type 0) → Is (misfitting first rule) P
  misfit_is rule P = (refl, λ e. absurd (no_fault (fault first rule) e))

  -- an expression that is no array and no procedure
  value_parameter : passed_by s e ≡ value_passed s e → (b : SimType) → LowType s here b → ValueIs s from e b → PassedByName s from e (kind_of_type b) → ParameterIs s from e
  value_parameter shown b low v named = (
    subst (λ z. ParameterOf s z (ExprIs s from e) (λ k. PassedByName s from e k) (λ r. GivesProcedure s from e r)) (sym shown)
        (subst (λ z. ValueGiven z (ExprIs s from e) (λ k. PassedByName s from e k)) (sym v.typed) (simply s from e b v, named)),
    subst (λ z. ClassNear s from (type_passed z)) (sym shown) (subst (λ z. ClassNear s from z) (sym v.typed) (type_near s from reach b v.proper low)),
  )

  -- a value
  value_is : (p : Parameter) (b : SimType) → LowType s here b → (IsUnspecified p → passed_by s e ≡ value_passed s e) → ValueIs s from e b → PassedByName s from e (kind_of_type b) → ActualIs s from e p (value_fits s.tables first p (Some b))
  value_is parameter.Unknown b low shown v named = is_actual parameter.Unknown fitting (refl, λ e. tt)
  value_is parameter.Unspecified b low shown v named = is_actual parameter.Unspecified fitting (refl, λ h. value_parameter (shown tt) b low v named)
  value_is parameter.Subscript b low shown v named =
      is_actual parameter.Subscript (same_or_misfit first (Some t.Integer) b) (same_typed (Some t.Integer) first b, λ h. wanted_integer s from e b (simply s from e b v) (matched (Some t.Integer) first b h))
  value_is (parameter.Formal f) b low shown v named = is_actual (parameter.Formal f) (value_fits s.tables first (parameter.Formal f) (Some b)) (go f.kind f.ty)
    where
      held : (o : Option Rule) → (fitting_unless first o).typed ≡ true
      held None = refl
      held (Some rule) = refl

      none : (o : Option Rule) → (fitting_unless first o).misfit ≡ None → o ≡ None
      none None h = refl
      none (Some rule) h = absurd (no_fault (fault first rule) h)

      simple : (wanted : Option SimType) → Is (conforming s.tables first wanted b) (FitsFormal s from e shape.Simple wanted)
      simple None = (refl, λ h. tt)
      simple (Some a) = (
        held (misfit_of s.tables a b),
        λ h. (let same = no_misfit s.tables a b (none (misfit_of s.tables a b) h) in
            (subst (λ z. ExprIs s from e z) (ap Simply same ∙ sym (passed_kind s a)) (simply s from e b v), subst (λ z. PassedByName s from e z) same named)),
      )

      go : (k : FormalKind) (wanted : Option SimType) → Is (elim k as (λ z. Actual) [ shape.Simple ↦ conforming s.tables first wanted b | _ ↦ misfitting first r.WrongType ]) (FitsFormal s from e k wanted)
      go shape.Simple wanted = simple wanted
      go shape.Array wanted = misfit_is r.WrongType (FitsFormal s from e shape.Array wanted)
      go shape.Procedure wanted = misfit_is r.WrongType (FitsFormal s from e shape.Procedure wanted)

  -- by name a variable is passed as where it lies, anything else as a value
  unplaced_passed : is_placed s e ≡ false → (b : SimType) → ValueIs s from e b → PassedByName s from e (kind_of_type b)
  unplaced_passed free b v = subst (λ z. ActualPassed z (qualification s (type_at s (typed_token e))) (ExprIs s from e) (PlaceIs s from e) (kind_of_type b)) (sym free) (simply s from e b v)

  placed_passed : (b : SimType) → ProperType s b → PlaceIs s from e (held_by s b) → VariablePassed (qualification s (Some b)) (PlaceIs s from e) (kind_of_type b)
  unfolding qualification
  placed_passed t.Integer p lies = ((λ q. cc), lies)
  placed_passed t.Boolean p lies = ((λ q. cc), lies)
  placed_passed t.Character p lies = ((λ q. cc), lies)
  placed_passed t.Text p lies = ((λ q. cc), lies)
  placed_passed (t.Ref d) p lies = subst (λ z. VariablePassed z (PlaceIs s from e) kind.Reference) (sym (class_qualifies s d p)) (refl, subst (λ z. PlaceIs s from e z) (class_held s d p) lies)
  placed_passed t.NoneType p lies = absurd p

  variable_passed : (b : SimType) → ValueIs s from e b → ProperType s b → PlaceIs s from e (held_by s b) → PassedByName s from e (kind_of_type b)
  variable_passed b v proper place = go (is_placed s e)
    where
      go : (c : Bool) → ActualPassed c (qualification s (type_at s (typed_token e))) (ExprIs s from e) (PlaceIs s from e) (kind_of_type b)
      go false = simply s from e b v
      go true = subst (λ z. VariablePassed (qualification s z) (PlaceIs s from e) (kind_of_type b)) (sym v.typed) (placed_passed b proper place)

  passed_means : (o : Outcome) → Means true s from e o → (v : Valued s from e (valued s.tables first o).value) → PassedByName s from e (kind_of_type v.ty)
  unfolding valued next called value_of gives breaks telling
  passed_means (is.Variable ty) m v =
      let same : ty ≡ v.ty = value_type ty v.ty v.is in
      variable_passed v.ty v.value (subst (ProperType s) same m.1) (subst (λ z. PlaceIs s from e (held_by s z)) same m.2)
    where
      value_type : (a b : SimType) → is.Value a ≡ is.Value b → a ≡ b
      value_type a b e = cc
  passed_means (is.Value ty) m v = unplaced_passed m.2 v.ty v.value
  passed_means (is.Called ty) m v = unplaced_passed m.3 v.ty v.value
  passed_means (is.Constant ty) m v = unplaced_passed m.1 v.ty v.value
  passed_means (is.Procedure d token own) (inl p) v = unplaced_passed p.unplaced v.ty v.value
  passed_means (is.Procedure d token own) (inr (inl p)) v = unplaced_passed p.unplaced v.ty v.value
  passed_means (is.Procedure d token own) (inr (inr p)) v = unplaced_passed p.unplaced v.ty v.value
  passed_means (is.Standard name token) m v = unplaced_passed m.unplaced v.ty v.value
  passed_means is.NoValue m v = absurd (no_value v.ty v.is)
  passed_means is.NoValueInParentheses m v = absurd (no_value v.ty v.is)
  passed_means (is.Array ty) m v = absurd (no_value v.ty v.is)
  passed_means is.Class m v = absurd (no_value v.ty v.is)
  passed_means is.Refused m v = absurd m
  passed_means (is.Barred b) m v = absurd m

  value_actual : (p : Parameter) (o : Outcome) → LowOutcome s here o → (IsUnspecified p → passed_by s e ≡ value_passed s e) → Means true s from e o → AllSay s (as_value s.tables first p o).events → ActualIs s from e p (as_value s.tables first p o).value
  unfolding as_value next gives
  value_actual p o low shown m said =
      let v = valued_means s known from e first o m (next_says s (valued s.tables first o) (λ v. gives (value_fits s.tables first p (type_in v))) said).0 in
      subst (λ z. ActualIs s from e p (value_fits s.tables first p (type_in z))) (sym v.is) (value_is p v.ty (subst (λ z. LowOutcome s here z) v.is (valued_low s here first o low)) shown v.value (passed_means o m v))

  -- an array alone
  array_is : (p : Parameter) (b : SimType) → LowType s here b → Means true s from e (is.Array b) → AllSay s (array_actual s.tables first p (is.Array b) b).events → ActualIs s from e p (array_actual s.tables first p (is.Array b) b).value
  unfolding gives
  array_is parameter.Unknown b low m said = is_actual parameter.Unknown fitting (refl, λ e. tt)
  array_is parameter.Unspecified b low m said =
      is_actual parameter.Unspecified fitting (refl, λ h. (subst (λ z. ParameterOf s z (ExprIs s from e) (λ k. PassedByName s from e k) (λ r. GivesProcedure s from e r)) (sym m.2) m.1, subst (λ z. ClassNear s from (type_passed z)) (sym m.2) (type_near s from reach b (proper_value s b m.0) low)))
  array_is parameter.Subscript b low m said = value_actual parameter.Subscript (is.Array b) low (λ q. absurd q) m said
  array_is (parameter.Formal f) b low m said = is_actual (parameter.Formal f) (array_fits first f b) (go f.kind f.ty)
    where
      go : (k : FormalKind) (wanted : Option SimType) → Is (elim k as (λ z. Actual) [ shape.Array ↦ same_or_misfit first wanted b | _ ↦ misfitting first r.WrongType ]) (FitsFormal s from e k wanted)
      go shape.Array wanted = (same_typed wanted first b, λ h. wanted_array s from e wanted b m.1 (matched wanted first b h))
      go shape.Simple wanted = misfit_is r.WrongType (FitsFormal s from e shape.Simple wanted)
      go shape.Procedure wanted = misfit_is r.WrongType (FitsFormal s from e shape.Procedure wanted)

  -- a procedure alone, for a formal parameter
  abbrev procedure_judged : Formal → Outcome → (fits : Judged Actual) → FormalKind → Judged Actual
  procedure_judged f o fits k = (elim k as (λ z. Judged Actual) [ shape.Simple ↦ as_value s.tables first (parameter.Formal f) o | shape.Array ↦ gives (misfitting first r.WrongType) | shape.Procedure ↦ fits ])

  -- what a call without parameters gives
  called_value : (type : SimType) → TypeThere s e (Some type) → CallsFor s from e (Some type) → is_placed s e ≡ false → ExprIs s from e (Simply (kind_of_type type)) × PassedByName s from e (kind_of_type type)
  called_value type there calls free =
      let v : ValueIs s from e type = (call_means s from e (Some type) there calls false tt tt tt).0 in (simply s from e type v, unplaced_passed free type v)

  called_parameter : (result : Option SimType) → TypeThere s e result → CallsFor s from e result → is_placed s e ≡ false → ValueOf result (ExprIs s from e) (λ k. PassedByName s from e k)
  called_parameter None there calls free = tt
  called_parameter (Some type) there calls free = called_value type there calls free

  typed_proper : (result : Option SimType) → TypeThere s e result → ProperResult s result
  typed_proper None there = tt
  typed_proper (Some type) there = there.0

  abbrev LowDeclared : DeclNo → Type 0
  LowDeclared d = (x : Entry) → entry_of s.tables d ≡ Some x → LowEntry s here x

  abbrev AsPassed : Passed → Type 0
  AsPassed p = ParameterOf s p (ExprIs s from e) (λ k. PassedByName s from e k) (λ r. GivesProcedure s from e r)

  procedure_parameter : (d : DeclNo) (own : Option DeclNo) → LowDeclared d → ProcedureIs s from e d own → ParameterIs s from e
  procedure_parameter d own low p = (
    subst AsPassed (sym p.shown) (go (formals_of s p.block) refl),
    subst (λ z. ClassNear s from (type_passed z)) (sym p.shown) (result_near s from reach p.result (typed_proper p.result p.typed) (low (entry.Procedure p.result p.block) p.declared)),
  )
    where
      gives_it : GivesProcedure s from e p.result
      gives_it = p.stands p.result (result_itself s known p.result (typed_proper p.result p.typed))

      go : (fs : List Formal) → formals_of s p.block ≡ fs → AsPassed (PassedProcedure p.result (length fs))
      go [] is = (gives_it, called_parameter p.result p.typed (p.calls (subst (λ fs. ActualsFit s from NoMore fs) (sym is) tt)) p.unplaced)
      go (f ∷ fs) is = gives_it

  checked_low : (b : Option Entry) (result : Option SimType) → IsChecked b result → ((x : Entry) → b ≡ Some x → LowEntry s here x) → LowResult s here result
  checked_low (Some (entry.Virtual ty n)) result is low = subst (λ z. LowResult s here z) is (low (entry.Virtual ty n) refl)
  checked_low (Some (entry.Formal f)) result is low = subst (λ z. LowResult s here z) is.1 (low (entry.Formal f) refl)
  checked_low (Some (entry.Attribute name w given)) result is low = absurd is
  checked_low (Some (entry.Variable ty)) result is low = absurd is
  checked_low (Some (entry.Constant ty)) result is low = absurd is
  checked_low (Some (entry.Array ty n)) result is low = absurd is
  checked_low (Some (entry.Procedure ty n)) result is low = absurd is
  checked_low (Some (entry.Class n)) result is low = absurd is
  checked_low (Some (entry.Unspecified w)) result is low = absurd is
  checked_low None result is low = absurd is

  checked_parameter : (d : DeclNo) (own : Option DeclNo) → LowDeclared d → VirtualIs s from e d own → ParameterIs s from e
  checked_parameter d own low p = (
    subst AsPassed (sym p.shown) (p.stands p.result (result_itself s known p.result p.proper), called_parameter p.result p.typed p.calls p.unplaced),
    subst (λ z. ClassNear s from (type_passed z)) (sym p.shown) (result_near s from reach p.result p.proper (checked_low (entry_of s.tables d) p.result p.declared low)),
  )

  -- an attribute that has no parameter and gives a value
  attribute_parameter : (d : DeclNo) (own : Option DeclNo) → LowDeclared d → (p : SetIs s from e d own) → Is (attribute_alone first p.parameter p.result).value (ParameterIs s from e)
  unfolding telling gives
  attribute_parameter d own low p = go p.parameter refl p.result refl
    where
      value : (type : SimType) → p.parameter ≡ None → p.result ≡ Some type → ParameterIs s from e
      value type none is =
          let v : ValueIs s from e type = (call_means s from e (Some type) (subst (λ z. TypeThere s e z) is p.typed) (subst (λ z. CallsFor s from e z) is (p.calls none)) false tt tt tt).0 in
          value_parameter p.shown type (subst (λ z. LowResult s here z) is (low (entry.Attribute p.name p.parameter p.result) p.declared)) v (unplaced_passed p.unplaced type v)

      go : (w : Option SimType) → p.parameter ≡ w → (o : Option SimType) → p.result ≡ o → Is (attribute_alone first w o).value (ParameterIs s from e)
      go None none (Some type) is = (refl, λ h. value type none is)
      go None none None is = misfit_is r.StandardNameLeftOut (ParameterIs s from e)
      go (Some a) none o is = misfit_is r.StandardNameLeftOut (ParameterIs s from e)

  procedure_is : (p : Parameter) (o : Outcome) (d : DeclNo) (own : Option DeclNo) → LowDeclared d → LowOutcome s here o → Means true s from e o → ProcedureIs s from e d own ⊎ (SetIs s from e d own ⊎ VirtualIs s from e d own) → AllSay s (procedure_actual s.tables first p o d).events
      → ActualIs s from e p (procedure_actual s.tables first p o d).value
  unfolding gives telling
  procedure_is parameter.Unknown o d own all low m it said = is_actual parameter.Unknown fitting (refl, λ e. tt)
  procedure_is parameter.Unspecified o d own all low m (inl it) said =
      subst (λ z. ActualIs s from e parameter.Unspecified (unspecified_procedure first z).value) (sym it.declared) (is_actual parameter.Unspecified fitting (refl, λ h. procedure_parameter d own all it))
  procedure_is parameter.Unspecified o d own all low m (inr (inl it)) said =
      subst (λ z. ActualIs s from e parameter.Unspecified (unspecified_procedure first z).value) (sym it.declared) (is_actual parameter.Unspecified (attribute_alone first it.parameter it.result).value (attribute_parameter d own all it))
  procedure_is parameter.Unspecified o d own all low m (inr (inr it)) said = go (entry_of s.tables d) it.declared
    where
      fits : ActualIs s from e parameter.Unspecified fitting
      fits = is_actual parameter.Unspecified fitting (refl, λ h. checked_parameter d own all it)

      go : (b : Option Entry) → IsChecked b it.result → ActualIs s from e parameter.Unspecified (unspecified_procedure first b).value
      go (Some (entry.Virtual ty n)) is = fits
      go (Some (entry.Formal f)) is = fits
      go (Some (entry.Attribute name w given)) is = absurd is
      go (Some (entry.Variable ty)) is = absurd is
      go (Some (entry.Constant ty)) is = absurd is
      go (Some (entry.Array ty n)) is = absurd is
      go (Some (entry.Procedure ty n)) is = absurd is
      go (Some (entry.Class n)) is = absurd is
      go (Some (entry.Unspecified w)) is = absurd is
      go None is = absurd is
  procedure_is parameter.Subscript o d own all low m it said = value_actual parameter.Subscript o low (λ q. absurd q) m said
  procedure_is (parameter.Formal f) o d own all low m it said = go f.kind f.ty refl refl said
    where
      matches : (given : Option SimType) → ProperResult s given → Gives s from e given → Is (procedure_fits s.tables first f given) (FitsFormal s from e shape.Procedure f.ty)
      matches given proper stands = test (result_matches s.tables f.ty given) refl
        where
          test : (c : Bool) → result_matches s.tables f.ty given ≡ c → Is (if c then fitting else misfitting first r.WrongType) (FitsFormal s from e shape.Procedure f.ty)
          test true is = (refl, λ h wanted. stands f.ty (result_matched s f.ty given wanted proper is))
          test false is = misfit_is r.WrongType (FitsFormal s from e shape.Procedure f.ty)

      checked : (q : VirtualIs s from e d own) (b : Option Entry) → IsChecked b q.result → Is (passed_procedure s.tables first f b).value (FitsFormal s from e shape.Procedure f.ty)
      checked q (Some (entry.Virtual ty n)) is = subst (λ z. Is (procedure_fits s.tables first f z) (FitsFormal s from e shape.Procedure f.ty)) (sym is) (matches q.result q.proper q.stands)
      checked q (Some (entry.Formal g)) is = subst (λ z. Is (procedure_fits s.tables first f z) (FitsFormal s from e shape.Procedure f.ty)) (sym is.1) (matches q.result q.proper q.stands)
      checked q (Some (entry.Attribute name w given)) is = absurd is
      checked q (Some (entry.Variable ty)) is = absurd is
      checked q (Some (entry.Constant ty)) is = absurd is
      checked q (Some (entry.Array ty n)) is = absurd is
      checked q (Some (entry.Procedure ty n)) is = absurd is
      checked q (Some (entry.Class n)) is = absurd is
      checked q (Some (entry.Unspecified w)) is = absurd is
      checked q None is = absurd is

      passed : ProcedureIs s from e d own ⊎ (SetIs s from e d own ⊎ VirtualIs s from e d own) → Is (passed_procedure s.tables first f (entry_of s.tables d)).value (FitsFormal s from e shape.Procedure f.ty)
      passed (inl q) =
          subst (λ z. Is (passed_procedure s.tables first f z).value (FitsFormal s from e shape.Procedure f.ty)) (sym q.declared) (matches q.result (typed_proper q.result q.typed) q.stands)
      passed (inr (inl q)) =
          subst (λ z. Is (passed_procedure s.tables first f z).value (FitsFormal s from e shape.Procedure f.ty)) (sym q.declared) (misfit_is r.StandardNameLeftOut (FitsFormal s from e shape.Procedure f.ty))
      passed (inr (inr q)) = checked q (entry_of s.tables d) q.declared

      go : (k : FormalKind) (wanted : Option SimType) → f.kind ≡ k → f.ty ≡ wanted → AllSay s (procedure_judged f o (passed_procedure s.tables first f (entry_of s.tables d)) k).events → ActualIs s from e (parameter.Formal f) (procedure_judged f o (passed_procedure s.tables first f (entry_of s.tables d)) k).value
      go shape.Simple wanted same ty said = value_actual (parameter.Formal f) o low (λ q. absurd q) m said
      go shape.Array wanted same ty said = is_actual (parameter.Formal f) (misfitting first r.WrongType) (misfit_is r.WrongType (FitsFormal s from e f.kind f.ty))
      go shape.Procedure wanted same ty said =
          is_actual (parameter.Formal f) (passed_procedure s.tables first f (entry_of s.tables d)).value (subst (λ k. Is (passed_procedure s.tables first f (entry_of s.tables d)).value (FitsFormal s from e k f.ty)) (sym same) (passed it))

  -- a standard name alone
  standard_is : (p : Parameter) (name : StandardName) (token : TokenNo) → StandardIs s from e name → is_stream name ≡ false → AllSay s (standard_actual s.tables first p (is.Standard name token) (signature name)).events
      → ActualIs s from e p (standard_actual s.tables first p (is.Standard name token) (signature name)).value
  unfolding gives telling
  standard_is parameter.Unknown name token m other said = is_actual parameter.Unknown fitting (refl, λ e. tt)
  standard_is parameter.Unspecified name token m other said = is_actual parameter.Unspecified (unspecified_standard first (signature name)).value (go (signature name).first refl (signature name).result refl)
    where
      value : (type : SimType) → (signature name).first ≡ None → (signature name).result ≡ Some type → ParameterIs s from e
      value type none is =
          let v : ValueIs s from e type = (call_means s from e (Some type) (subst (λ z. TypeThere s e z) is (m.typed other)) (subst (λ z. CallsFor s from e z) is (m.calls other none)) false tt tt tt).0 in
          value_parameter m.shown type (subst (λ z. LowResult s here z) is (standard_low s here name)) v (unplaced_passed m.unplaced type v)

      go : (w : Option SimType) → (signature name).first ≡ w → (o : Option SimType) → (signature name).result ≡ o
          → Is (if (elim w as (λ z. Bool) [ Some a ↦ false | None ↦ elim o as (λ z. Bool) [ None ↦ false | Some b ↦ true ] ]) then gives fitting else left_out first).value (ParameterIs s from e)
      go None none (Some type) is = (refl, λ h. value type none is)
      go None none None is = misfit_is r.StandardNameLeftOut (ParameterIs s from e)
      go (Some a) none o is = misfit_is r.StandardNameLeftOut (ParameterIs s from e)
  standard_is parameter.Subscript name token m other said = value_actual parameter.Subscript (is.Standard name token) tt (λ q. absurd q) m said
  standard_is (parameter.Formal f) name token m other said = go f.kind refl said
    where
      go : (k : FormalKind) → f.kind ≡ k → AllSay s (procedure_judged f (is.Standard name token) (left_out first) k).events → ActualIs s from e (parameter.Formal f) (procedure_judged f (is.Standard name token) (left_out first) k).value
      go shape.Simple same said = value_actual (parameter.Formal f) (is.Standard name token) tt (λ q. absurd q) m said
      go shape.Array same said = is_actual (parameter.Formal f) (misfitting first r.WrongType) (misfit_is r.WrongType (FitsFormal s from e f.kind f.ty))
      go shape.Procedure same said = is_actual (parameter.Formal f) (misfitting first r.StandardNameLeftOut) (misfit_is r.StandardNameLeftOut (FitsFormal s from e f.kind f.ty))

  -- what is no value breaks a rule
  no_value_actual : (p : Parameter) (o : Outcome) → NoValueOf o → AllSay s (as_value s.tables first p o).events → ⊥
  unfolding as_value valued next called value_of gives breaks telling
  no_value_actual p is.NoValue q said = said.0
  no_value_actual p is.NoValueInParentheses q said = said.0
  no_value_actual p is.Class q said = said.0
  no_value_actual p _ q said = q

  pub actual_is : (p : Parameter) (o : Outcome) → LowOutcome s here o → Means true s from e o → AllSay s (actual s.tables first p o).events → ActualIs s from e p (actual s.tables first p o).value
  unfolding actual
  actual_is p (is.Array b) low m said = array_is p b low m said
  actual_is p (is.Procedure d token own) low m said = procedure_is p (is.Procedure d token own) d own low low m m said
  actual_is p (is.Standard name token) low m said = go (is_stream name) refl said
    where
      go : (b : Bool) → is_stream name ≡ b → AllSay s (if b then as_value s.tables first p (is.Standard name token) else standard_actual s.tables first p (is.Standard name token) (signature name)).events → ActualIs s from e p (if b then as_value s.tables first p (is.Standard name token) else standard_actual s.tables first p (is.Standard name token) (signature name)).value
      go true stream said = value_actual p (is.Standard name token) low (λ q. m.shown) m said
      go false other said = standard_is p name token m other said
  actual_is p is.Refused low m said = absurd m
  actual_is p is.NoValue low m said = absurd (no_value_actual p is.NoValue tt said)
  actual_is p is.NoValueInParentheses low m said = absurd (no_value_actual p is.NoValueInParentheses tt said)
  actual_is p (is.Value b) low m said = value_actual p (is.Value b) low (λ q. m.3) m said
  actual_is p (is.Called b) low m said = value_actual p (is.Called b) low (λ q. m.4) m said
  actual_is p (is.Variable b) low m said = value_actual p (is.Variable b) low (λ q. m.4) m said
  actual_is p (is.Constant b) low m said = value_actual p (is.Constant b) low (λ q. m.2) m said
  actual_is p is.Class low m said = absurd (no_value_actual p is.Class tt said)
  actual_is p (is.Barred b) low m said = absurd m

-- ---- all of them

-- what an expression is is known
abbrev pub Known : Source → Place → Extent → Expression → Type 0
Known s from x e = AllSay s (judge s.tables x e).events → Means true s from e (judge s.tables x e).value

-- and the class of its type is of no deeper level than those that are declared in the text around it
abbrev pub LowTo : Source → Place → Extent → Expression → Type 0
LowTo s from x e = LowOutcome s (level_here s from) (judge s.tables x e).value

abbrev pub AllKnown : Source → Place → Extent → Expressions → Type 0
AllKnown s from x NoMore = Unit {0}
AllKnown s from x (Then e es) = Known s from x e × LowTo s from x e × AllKnown s from x es

-- each fits the parameter at its place
abbrev pub AllFit : Source → Place → Option Denotation → (place : ℕ) → Expressions → Type 0
AllFit s from d n NoMore = Unit {0}
AllFit s from d n (Then e es) = FitsAs s from e (parameter_at s.tables d n) × AllFit s from d (n + 1) es

abbrev pub size : Expressions → ℕ
size NoMore = 0
size (Then e es) = suc (size es)

pub record AllActuals (s : Source) (from : Place) (d : Option Denotation) (es : Expressions) (a b : Actuals) : Type 0 where
  pub count : b.count ≡ a.count + size es
  pub typed : a.typed ≡ true → b.typed ≡ true
  pub fits : b.misfit ≡ None → (a.misfit ≡ None) × AllFit s from d a.count es

no_lesser : (m : Option Fault) (f : Fault) → lesser m f ≡ None → ⊥
no_lesser None f e = no_fault f e
no_lesser (Some l) f e = go (precedes f l) e
  where
    go : (b : Bool) → (if b then Some f else Some l) ≡ None → ⊥
    go true e = no_fault f e
    go false e = no_fault l e

pub neither : (a b : Option Fault) → lesser_of a b ≡ None → (a ≡ None) × (b ≡ None)
neither a None e = (e, refl)
neither a (Some f) e = absurd (no_lesser a f e)

pub both_true : (a b : Bool) → a ≡ true → b ≡ true → (a && b) ≡ true
both_true a b e f = subst (λ z. (z && b) ≡ true) (sym e) f

pub actuals_are : (s : Source) → Tabled s → (from : Place) → ReachedFrom s from → (x : Extent) (d : Option Denotation) (es : Expressions) → AllKnown s from x es → (a : Actuals) → AllSay s (actuals s.tables x d a es).events
    → AllActuals s from d es a (actuals s.tables x d a es).value
unfolding actuals next gives more with_actual
actuals_are s known from reach x d NoMore all a said = record { count = omega arith; typed = λ e. e; fits = λ e. (e, tt) }
actuals_are s known from reach x d (Then e es) all a said =
    let parts = next_says s (next (judge s.tables x e) (more s.tables d a (first_of e))) (λ b. actuals s.tables x d b es) said in
    let inner = next_says s (judge s.tables x e) (more s.tables d a (first_of e)) parts.0 in
    let o = (judge s.tables x e).value in
    let p = parameter_at s.tables d a.count in
    let own = next_says s (actual s.tables (first_of e) p o) (λ y. gives (with_actual a y)) inner.1 in
    let one = actual_is s known from reach e (first_of e) p o all.1 (all.0 inner.0) own.0 in
    let y = (actual s.tables (first_of e) p o).value in
    let b = with_actual a y in
    let rest = actuals_are s known from reach x d es all.2 b parts.1 in
    let counted = rest.count in
    record {
      count = omega (arith, counted);
      typed = λ h. rest.typed (both_true a.typed y.typed h one.typed);
      fits = λ h. (let r = rest.fits h in let m = neither a.misfit y.misfit r.0 in (m.0, (one.fits m.1, r.1)));
    }

-- ---- what they are held against

pub all_integers : (s : Source) (from : Place) (d : Option Denotation) → ((i : ℕ) → parameter_at s.tables d i ≡ parameter.Subscript) → (n : ℕ) (es : Expressions) → AllFit s from d n es → AreIntegers s from es
all_integers s from d subscripts n NoMore fit = tt
all_integers s from d subscripts n (Then e es) fit = (subst (λ p. FitsAs s from e p) (subscripts n) fit.0, all_integers s from d subscripts (n + 1) es fit.1)

-- of a call that is checked when it is done
pub all_parameters : (s : Source) (from : Place) (d : Option Denotation) → ((i : ℕ) → parameter_at s.tables d i ≡ parameter.Unspecified) → (n : ℕ) (es : Expressions) → AllFit s from d n es → ParametersAre s from es
all_parameters s from d any n NoMore fit = tt
all_parameters s from d any n (Then e es) fit = let one = subst (λ p. FitsAs s from e p) (any n) fit.0 in (one.0, one.1, all_parameters s from d any (n + 1) es fit.1)

actual_fits : (s : Source) (from : Place) (e : Expression) (m : Mode) (k : FormalKind) (ty : Option SimType) → ProperFormal s k ty → FitsFormal s from e k ty → ActualFits s m k ty (ExprIs s from e) (λ kind. PassedByName s from e kind) (λ r. GivesProcedure s from e r)
actual_fits s from e mode.ByName shape.Simple (Some ty) p a = a.1
actual_fits s from e mode.ByName shape.Simple None p a = absurd p
actual_fits s from e mode.ByName shape.Array (Some ty) p a = a
actual_fits s from e mode.ByName shape.Array None p a = absurd p
actual_fits s from e mode.ByName shape.Procedure ty p a = a p
actual_fits s from e mode.ByValue shape.Simple (Some ty) p a = a.0
actual_fits s from e mode.ByValue shape.Simple None p a = absurd p
actual_fits s from e mode.ByValue shape.Array (Some ty) p a = a
actual_fits s from e mode.ByValue shape.Array None p a = absurd p
actual_fits s from e mode.ByValue shape.Procedure ty p a = a p
actual_fits s from e mode.ByReference shape.Simple (Some ty) p a = a.0
actual_fits s from e mode.ByReference shape.Simple None p a = absurd p
actual_fits s from e mode.ByReference shape.Array (Some ty) p a = a
actual_fits s from e mode.ByReference shape.Array None p a = absurd p
actual_fits s from e mode.ByReference shape.Procedure ty p a = a p

pub all_formals : (s : Source) (from : Place) (d : Option Denotation) (n : ℕ) (es : Expressions) (fs : List Formal) → ((i : ℕ) → parameter_at s.tables d (n + i) ≡ formal_or_none (slice_get fs i)) → AllProper s fs
    → size es ≡ length fs → AllFit s from d n es → ActualsFit s from es fs
all_formals s from d n NoMore [] at proper same fit = tt
all_formals s from d n NoMore (f ∷ fs) at proper same fit = absurd (omega (arith, same))
all_formals s from d n (Then e es) [] at proper same fit = absurd (omega (arith, same))
all_formals s from d n (Then e es) (f ∷ fs) at proper same fit =
    let here : n ≡ n + 0 = omega arith in (
      actual_fits s from e f.mode f.kind f.ty proper.0 (subst (λ p. FitsAs s from e p) (ap (parameter_at s.tables d) here ∙ at 0) fit.0),
      all_formals s from d (n + 1) es fs (λ i. (let next_place : (n + 1) + i ≡ n + suc i = omega arith in ap (parameter_at s.tables d) next_place ∙ at (suc i))) proper.1 (omega (arith, same)) fit.1,
    )

-- of a standard name
abbrev AllHeld : Source → Place → (first second : Option SimType) → (place : ℕ) → Expressions → Type 0
AllHeld s from first second n NoMore = Unit {0}
AllHeld s from first second n (Then e es) = FitsAs s from e (typed_or_none (parameter_type (record { first = first; second = second; result = None }) n)) × AllHeld s from first second (n + 1) es

same_type_at : (g : Signature) (n : ℕ) → parameter_type g n ≡ parameter_type (record { first = g.first; second = g.second; result = None }) n
same_type_at g zero = refl
same_type_at g (suc zero) = refl
same_type_at g (suc (suc n)) = refl

held : (s : Source) (from : Place) (name : StandardName) (n : ℕ) (es : Expressions) → AllFit s from (Some (denotation.Standard name)) n es → AllHeld s from (signature name).first (signature name).second n es
unfolding parameter_at
held s from name n NoMore fit = tt
held s from name n (Then e es) fit = (subst (λ p. FitsAs s from e (typed_or_none p)) (same_type_at (signature name) n) fit.0, held s from name (n + 1) es fit.1)

pub all_operands : (s : Source) (from : Place) (name : StandardName) (es : Expressions) → parameter_count (signature name) ≡ size es → AllFit s from (Some (denotation.Standard name)) 0 es → AreOf s from es (kinds_of (signature name))
all_operands s from name es same fit = go (signature name).first (signature name).second es same (held s from name 0 es fit)
  where
    go : (first second : Option SimType) (es : Expressions) → (elim first as (λ z. ℕ) [ None ↦ 0 | Some a ↦ elim second as (λ z. ℕ) [ None ↦ 1 | Some b ↦ 2 ] ]) ≡ size es
        → AllHeld s from first second 0 es → AreOf s from es (parameter_kinds first second)
    go None second NoMore same fit = tt
    go None second (Then e es) same fit = absurd (omega (arith, same))
    go (Some a) None NoMore same fit = absurd (omega (arith, same))
    go (Some a) None (Then e NoMore) same fit = (subst (λ z. ExprIs s from e z) (passed_kind s a) fit.0.0, tt)
    go (Some a) None (Then e (Then f es)) same fit = absurd (omega (arith, same))
    go (Some a) (Some b) NoMore same fit = absurd (omega (arith, same))
    go (Some a) (Some b) (Then e NoMore) same fit = absurd (omega (arith, same))
    go (Some a) (Some b) (Then e (Then f NoMore)) same fit = (subst (λ z. ExprIs s from e z) (passed_kind s a) fit.0.0, (subst (λ z. ExprIs s from f z) (passed_kind s b) fit.1.0.0, tt))
    go (Some a) (Some b) (Then e (Then f (Then g es))) same fit = absurd (omega (arith, same))

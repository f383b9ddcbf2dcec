-- Which rules misfits break, and names that are not declared.
use Rattle.std.proofs.Common.{◌≡◌, ℕ, Bool, true, false, if◌then◌else◌, List, [], ◌∷◌, Option, Some, None, subst}
use Rattle.sim_base.specs.declared.numbering.DeclNo.{DeclNo}
use Rattle.sim_base.specs.declared.rule.Rule.{Rule}
use Rattle.sim_base.specs.declared.rule.Rule.TheVariants as r
use Rattle.sim_tree.specs.declared.stmt.Assignment.{Assignment}
use Rattle.sim_tree.specs.Syntax.{Expressions, NoMore, Then, first_of}
use Rattle.sim_scope.specs.Actuals.{actual, array_actual, array_fits, as_value, conforming, fitting, fitting_unless, has_value_alone, left_out, misfitting, more, no_actuals, parameter_at, passed_procedure, procedure_actual, procedure_fits, result_in, result_matches, same_or_misfit, standard_actual, type_matches, unspecified_procedure, value_fits, with_actual}
use Rattle.sim_scope.specs.Assignments.{LeftSide, fault_unless, left_side, lefts, no_lefts, types_assigned, with_left}
use Rattle.sim_scope.specs.Calls.{missing}
use Rattle.sim_scope.specs.Expressions.{actuals, judge}
use Rattle.sim_scope.specs.Found.{lesser_of, precedes}
use Rattle.sim_scope.specs.Judged.{Judged, gives, next, telling}
use Rattle.sim_scope.specs.Levels.{on_one_chain}
use Rattle.sim_scope.specs.Operators.{is_reference, is_same, misfit_of, reference_misfit, wrong_type_unless}
use Rattle.sim_scope.specs.Outcomes.{is_stream, type_in, valued}
use Rattle.sim_scope.specs.Scopes.{entry_of}
use Rattle.sim_scope.specs.Standard.{is_environment_name, is_file_or_layout, is_random_drawing, is_real_function, signature, undeclared}
use Rattle.sim_scope.specs.Tables.{Tables}
use Rattle.sim_scope.specs.declared.found.Fault.{Fault}
use Rattle.sim_scope.specs.declared.outcome.Actual.{Actual}
use Rattle.sim_scope.specs.declared.outcome.Actuals.{Actuals}
use Rattle.sim_scope.specs.declared.outcome.Extent.{Extent}
use Rattle.sim_scope.specs.declared.outcome.LeftSides.{LeftSides}
use Rattle.sim_scope.specs.declared.outcome.Outcome.{Outcome}
use Rattle.sim_scope.specs.declared.outcome.Outcome.TheVariants as is
use Rattle.sim_scope.specs.declared.outcome.Parameter.{Parameter}
use Rattle.sim_scope.specs.declared.outcome.Parameter.TheVariants as parameter
use Rattle.sim_scope.specs.declared.outcome.Side.{Side}
use Rattle.sim_scope.specs.declared.scopes.Denotation.{Denotation}
use Rattle.sim_scope.specs.declared.standard.Signature.{Signature}
use Rattle.sim_scope.specs.declared.types.Entry.{Entry}
use Rattle.sim_scope.specs.declared.types.Entry.TheVariants as entry
use Rattle.sim_scope.specs.declared.types.Formal.{Formal}
use Rattle.sim_scope.specs.declared.types.FormalKind.{FormalKind}
use Rattle.sim_scope.specs.declared.types.FormalKind.TheVariants as kind
use Rattle.sim_scope.specs.declared.types.SimType.{SimType}
use Rattle.sim_scope.specs.declared.types.SimType.TheVariants as t
use Rattle.static_rules.specs.Judgements.{given}

-- ---- the rules of misfits

pub data MisfitRule : Rule → Type 0 where
  of_type : MisfitRule r.WrongType
  of_chain : MisfitRule r.DifferentChains
  of_name : MisfitRule r.StandardNameLeftOut

abbrev pub Fine : Option Fault → Type 0
Fine None = Unit {0}
Fine (Some f) = MisfitRule f.rule

lesser_fine : (a b : Option Fault) → Fine a → Fine b → Fine (lesser_of a b)
lesser_fine a None h k = h
lesser_fine None (Some y) h k = k
lesser_fine (Some x) (Some y) h k = go (precedes y x)
  where
    go : (c : Bool) → Fine (if c then Some y else Some x)
    go true = k
    go false = h

-- of a value of another type
pub data TypeRule : Rule → Type 0 where
  another_type : TypeRule r.WrongType
  another_chain : TypeRule r.DifferentChains

abbrev Ruled : Option Rule → Type 0
Ruled None = Unit {0}
Ruled (Some rule) = TypeRule rule

wrong_ruled : (c : Bool) → Ruled (wrong_type_unless c)
wrong_ruled true = tt
wrong_ruled false = another_type

reference_ruled : (s : Tables) (c : DeclNo) (b : SimType) → Ruled (reference_misfit s c b)
reference_ruled s c t.Integer = another_type
reference_ruled s c t.Boolean = another_type
reference_ruled s c t.Character = another_type
reference_ruled s c t.Text = another_type
reference_ruled s c (t.Ref d) = go (on_one_chain s c d)
  where
    go : (f : Bool) → Ruled (if f then None else Some r.DifferentChains)
    go true = tt
    go false = another_chain
reference_ruled s c t.NoneType = tt

ruled : (s : Tables) (a b : SimType) → Ruled (misfit_of s a b)
unfolding misfit_of
ruled s t.Integer b = wrong_ruled (is_same t.Integer b)
ruled s t.Boolean b = wrong_ruled (is_same t.Boolean b)
ruled s t.Character b = wrong_ruled (is_same t.Character b)
ruled s t.Text b = wrong_ruled (is_same t.Text b)
ruled s (t.Ref c) b = reference_ruled s c b
ruled s t.NoneType b = wrong_ruled (is_reference b)

pub type_rule : (s : Tables) (a b : SimType) (rule : Rule) → misfit_of s a b ≡ Some rule → TypeRule rule
type_rule s a b rule e = subst Ruled e (ruled s a b)

as_misfit : (first : ℕ) (o : Option Rule) → Ruled o → Fine (fitting_unless first o).misfit
as_misfit first None h = tt
as_misfit first (Some _) another_type = of_type
as_misfit first (Some _) another_chain = of_chain

as_fault : (first : ℕ) (o : Option Rule) → Ruled o → Fine (fault_unless first o)
as_fault first None h = tt
as_fault first (Some _) another_type = of_type
as_fault first (Some _) another_chain = of_chain

-- ---- actual parameters

module _ (s : Tables) (first : ℕ) where
  same_fine : (wanted : Option SimType) (b : SimType) → Fine (same_or_misfit first wanted b).misfit
  same_fine wanted b = go (type_matches wanted b)
    where
      go : (c : Bool) → Fine (if c then fitting else misfitting first r.WrongType).misfit
      go true = tt
      go false = of_type

  conforming_fine : (wanted : Option SimType) (b : SimType) → Fine (conforming s first wanted b).misfit
  conforming_fine None b = of_type
  conforming_fine (Some a) b = as_misfit first (misfit_of s a b) (ruled s a b)

  value_fine : (q : Parameter) (o : Option SimType) → Fine (value_fits s first q o).misfit
  value_fine q None = tt
  value_fine parameter.Subscript (Some b) = same_fine (Some t.Integer) b
  value_fine parameter.Unspecified (Some b) = tt
  value_fine parameter.Unknown (Some b) = tt
  value_fine (parameter.Formal f) (Some b) = go f.kind
    where
      go : (k : FormalKind) → Fine (elim k as (λ _. Actual) [ kind.Simple ↦ conforming s first f.ty b | _ ↦ misfitting first r.WrongType ]).misfit
      go kind.Simple = conforming_fine f.ty b
      go kind.Array = of_type
      go kind.Procedure = of_type

  taken_fine : (q : Parameter) (o : Outcome) → Fine (as_value s first q o).value.misfit
  unfolding as_value next gives
  taken_fine q o = value_fine q (type_in (valued s first o).value)

  array_fits_fine : (f : Formal) (b : SimType) → Fine (array_fits first f b).misfit
  array_fits_fine f b = go f.kind
    where
      go : (k : FormalKind) → Fine (elim k as (λ _. Actual) [ kind.Array ↦ same_or_misfit first f.ty b | _ ↦ misfitting first r.WrongType ]).misfit
      go kind.Simple = of_type
      go kind.Array = same_fine f.ty b
      go kind.Procedure = of_type

  array_fine : (o : Outcome) (element : SimType) (q : Parameter) → Fine (array_actual s first q o element).value.misfit
  unfolding gives
  array_fine o element parameter.Subscript = taken_fine parameter.Subscript o
  array_fine o element (parameter.Formal f) = array_fits_fine f element
  array_fine o element parameter.Unspecified = tt
  array_fine o element parameter.Unknown = tt

  procedure_fits_fine : (f : Formal) (result : Option SimType) → Fine (procedure_fits s first f result).misfit
  procedure_fits_fine f result = go (result_matches s f.ty result)
    where
      go : (c : Bool) → Fine (if c then fitting else misfitting first r.WrongType).misfit
      go true = tt
      go false = of_type

  left_fine : Fine (left_out first).value.misfit
  unfolding telling
  left_fine = of_name

  passed_fine : (f : Formal) (e : Option Entry) → Fine (passed_procedure s first f e).value.misfit
  unfolding gives
  passed_fine f None = procedure_fits_fine f (result_in None)
  passed_fine f (Some (entry.Variable ty)) = procedure_fits_fine f (result_in (Some (entry.Variable ty)))
  passed_fine f (Some (entry.Constant ty)) = procedure_fits_fine f (result_in (Some (entry.Constant ty)))
  passed_fine f (Some (entry.Array element dimensions)) = procedure_fits_fine f (result_in (Some (entry.Array element dimensions)))
  passed_fine f (Some (entry.Procedure result block)) = procedure_fits_fine f (result_in (Some (entry.Procedure result block)))
  passed_fine f (Some (entry.Class block)) = procedure_fits_fine f (result_in (Some (entry.Class block)))
  passed_fine f (Some (entry.Virtual result own)) = procedure_fits_fine f (result_in (Some (entry.Virtual result own)))
  passed_fine f (Some (entry.Formal g)) = procedure_fits_fine f (result_in (Some (entry.Formal g)))
  passed_fine f (Some (entry.Unspecified written)) = procedure_fits_fine f (result_in (Some (entry.Unspecified written)))
  passed_fine f (Some (entry.Attribute name ty result)) = left_fine

  unspecified_fine : (e : Option Entry) → Fine (unspecified_procedure first e).value.misfit
  unfolding gives
  unspecified_fine None = tt
  unspecified_fine (Some (entry.Variable ty)) = tt
  unspecified_fine (Some (entry.Constant ty)) = tt
  unspecified_fine (Some (entry.Array element dimensions)) = tt
  unspecified_fine (Some (entry.Procedure result block)) = tt
  unspecified_fine (Some (entry.Class block)) = tt
  unspecified_fine (Some (entry.Virtual result own)) = tt
  unspecified_fine (Some (entry.Formal g)) = tt
  unspecified_fine (Some (entry.Unspecified written)) = tt
  unspecified_fine (Some (entry.Attribute name None (Some ty))) = tt
  unspecified_fine (Some (entry.Attribute name None None)) = left_fine
  unspecified_fine (Some (entry.Attribute name (Some a) None)) = left_fine
  unspecified_fine (Some (entry.Attribute name (Some a) (Some ty))) = left_fine

  procedure_fine : (o : Outcome) (d : DeclNo) (q : Parameter) → Fine (procedure_actual s first q o d).value.misfit
  unfolding gives
  procedure_fine o d parameter.Subscript = taken_fine parameter.Subscript o
  procedure_fine o d parameter.Unspecified = unspecified_fine (entry_of s d)
  procedure_fine o d parameter.Unknown = tt
  procedure_fine o d (parameter.Formal f) = go f.kind
    where
      go : (k : FormalKind) → Fine (elim k as (λ _. Judged Actual) [ kind.Simple ↦ as_value s first (parameter.Formal f) o | kind.Array ↦ gives (misfitting first r.WrongType) | kind.Procedure ↦ passed_procedure s first f (entry_of s d) ]).value.misfit
      go kind.Simple = taken_fine (parameter.Formal f) o
      go kind.Array = of_type
      go kind.Procedure = passed_fine f (entry_of s d)

  standard_fine : (o : Outcome) (x : Signature) (q : Parameter) → Fine (standard_actual s first q o x).value.misfit
  unfolding gives
  standard_fine o x parameter.Subscript = taken_fine parameter.Subscript o
  standard_fine o x parameter.Unspecified = go (has_value_alone x)
    where
      go : (c : Bool) → Fine (if c then gives fitting else left_out first).value.misfit
      go true = tt
      go false = left_fine
  standard_fine o x parameter.Unknown = tt
  standard_fine o x (parameter.Formal f) = go f.kind
    where
      go : (k : FormalKind) → Fine (elim k as (λ _. Judged Actual) [ kind.Simple ↦ as_value s first (parameter.Formal f) o | kind.Array ↦ gives (misfitting first r.WrongType) | kind.Procedure ↦ left_out first ]).value.misfit
      go kind.Simple = taken_fine (parameter.Formal f) o
      go kind.Array = of_type
      go kind.Procedure = left_fine

  actual_fine : (q : Parameter) (o : Outcome) → Fine (actual s first q o).value.misfit
  unfolding actual next gives
  actual_fine q is.Refused = taken_fine q is.Refused
  actual_fine q is.NoValue = taken_fine q is.NoValue
  actual_fine q is.NoValueInParentheses = taken_fine q is.NoValueInParentheses
  actual_fine q (is.Value ty) = taken_fine q (is.Value ty)
  actual_fine q (is.Called ty) = taken_fine q (is.Called ty)
  actual_fine q (is.Variable ty) = taken_fine q (is.Variable ty)
  actual_fine q (is.Constant ty) = taken_fine q (is.Constant ty)
  actual_fine q (is.Array ty) = array_fine (is.Array ty) ty q
  actual_fine q (is.Procedure d token own) = procedure_fine (is.Procedure d token own) d q
  actual_fine q (is.Standard name token) = go (is_stream name)
    where
      go : (c : Bool) → Fine (if c then as_value s first q (is.Standard name token) else standard_actual s first q (is.Standard name token) (signature name)).value.misfit
      go true = taken_fine q (is.Standard name token)
      go false = standard_fine (is.Standard name token) (signature name) q
  actual_fine q is.Class = taken_fine q is.Class
  actual_fine q (is.Barred x) = tt

given_fine : (s : Tables) (e : Extent) (d : Option Denotation) (a : Actuals) (xs : Expressions) → Fine a.misfit → Fine (actuals s e d a xs).value.misfit
unfolding actuals next gives more with_actual
given_fine s e d a NoMore h = h
given_fine s e d a (Then x xs) h =
    let o : Outcome = (judge s e x).value in
    let q : Parameter = parameter_at s d a.count in
    given_fine s e d (more s d a (first_of x) o).value xs (lesser_fine a.misfit (actual s (first_of x) q o).value.misfit h (actual_fine s (first_of x) q o))

pub given_rule : (s : Tables) (e : Extent) (d : Option Denotation) (xs : Expressions) (f : Fault) → (given s e d xs).misfit ≡ Some f → MisfitRule f.rule
given_rule s e d xs f is = subst Fine is (given_fine s e d no_actuals xs tt)

-- ---- left sides

assigned_fine : (s : Tables) (v : Side) (a b : Option SimType) → Fine (types_assigned s v a b)
assigned_fine s v None b = tt
assigned_fine s v (Some a) None = tt
assigned_fine s v (Some a) (Some b) = as_fault v.first.0 (misfit_of s a b) (ruled s a b)

lefts_fine : (s : Tables) (first : Assignment) (v : Side) (a : LeftSides) (ls : List LeftSide) → Fine a.misfit → Fine (lefts s first v a ls).value.misfit
unfolding lefts next gives with_left
lefts_fine s first v a [] h = h
lefts_fine s first v a (l ∷ ls) h =
    let x : Side = (left_side s first l).value in
    lefts_fine s first v (with_left s v a x) ls (lesser_fine a.misfit (types_assigned s v x.ty v.ty) h (assigned_fine s v x.ty v.ty))

pub lefts_rule : (s : Tables) (first : Assignment) (v : Side) (ls : List LeftSide) (f : Fault) → (lefts s first v no_lefts ls).value.misfit ≡ Some f → MisfitRule f.rule
lefts_rule s first v ls f is = subst Fine is (lefts_fine s first v no_lefts ls tt)

-- ---- names

pub data MissingRule : Rule → Type 0 where
  not_declared : MissingRule r.NotDeclared
  not_accessible : MissingRule r.NotAccessible
  real_function : MissingRule r.RealFunction
  random_drawing : MissingRule r.RandomDrawing
  file_or_layout : MissingRule r.FileOrLayout
  environment_name : MissingRule r.EnvironmentName

pub undeclared_rule : (name : List ℕ) → MissingRule (undeclared name)
unfolding undeclared
undeclared_rule name = go (is_real_function name) (is_random_drawing name) (is_file_or_layout name) (is_environment_name name)
  where
    go : (a b c d : Bool) → MissingRule (if a then r.RealFunction else if b then r.RandomDrawing else if c then r.FileOrLayout else if d then r.EnvironmentName else r.NotDeclared)
    go true b c d = real_function
    go false true c d = random_drawing
    go false false true d = file_or_layout
    go false false false true = environment_name
    go false false false false = not_declared

pub missing_rule : (passed : Bool) (name : List ℕ) → MissingRule (missing passed name)
missing_rule true name = not_accessible
missing_rule false name = undeclared_rule name

-- What an expression is, and its type where it has one, in terms of what its parts are. No rule is told here: what is not right has no type.
use Rattle.std.specs.Prelude.{ℕ, ◌+◌, Bool, true, false, not, ◌||◌, ◌&&◌, nat_eq, if◌then◌else◌, length, Option, Some, None}
use Rattle.sim_base.specs.declared.numbering.DeclNo.{DeclNo}
use Rattle.sim_tree.specs.declared.expr.Identifier.{Identifier}
use Rattle.sim_tree.specs.Syntax.{Binary, Constant, Dot, Expression, Expressions, If, Member, Named, New, NoMore, Not, Parentheses, Qua, Signed, Then, This}
use Rattle.sim_scope.specs.Actuals.{has_value_alone, parameter_at, result_in, result_matches, type_matches}
use Rattle.sim_scope.specs.Calls.{attribute_in, barred_if, barred_outcome, is_barred, is_undotted, match_seen, nothing_there, occurs, own_undotted, procedure_alone}
use Rattle.sim_scope.specs.Levels.{class_block, has_classes, on_one_chain}
use Rattle.sim_scope.specs.Operators.{common_type, is_reference, is_same, literal_type, operands_fit}
use Rattle.sim_scope.specs.Outcomes.{call_of, is_stream}
use Rattle.sim_scope.specs.References.{class_type, formal_count, is_no_reference, is_nowhere, is_only_prefix, only_prefix, other_chain, this_barred, this_block, truth_of}
use Rattle.sim_scope.specs.Scopes.{binding, entry_of, formals_of}
use Rattle.sim_scope.specs.Standard.{is_standard_class, signature, sysin_attribute, sysout_attribute, text_attribute}
use Rattle.sim_scope.specs.Tables.{Tables}
use Rattle.sim_scope.specs.declared.outcome.Barred.{Barred}
use Rattle.sim_scope.specs.declared.outcome.Barred.TheVariants as bar
use Rattle.sim_scope.specs.declared.outcome.Extent.{Extent}
use Rattle.sim_scope.specs.declared.outcome.Fit.{Fit}
use Rattle.sim_scope.specs.declared.outcome.Fit.TheVariants as fit
use Rattle.sim_scope.specs.declared.outcome.Occurrence.{Occurrence}
use Rattle.sim_scope.specs.declared.outcome.Outcome.{Outcome}
use Rattle.sim_scope.specs.declared.outcome.Outcome.TheVariants as is
use Rattle.sim_scope.specs.declared.outcome.Parameter.{Parameter}
use Rattle.sim_scope.specs.declared.outcome.Parameter.TheVariants as parameter
use Rattle.sim_scope.specs.declared.scopes.Denotation.{Denotation}
use Rattle.sim_scope.specs.declared.scopes.Denotation.TheVariants as denotation
use Rattle.sim_scope.specs.declared.standard.Signature.{Signature}
use Rattle.sim_scope.specs.declared.standard.StandardName.{StandardName}
use Rattle.sim_scope.specs.declared.standard.StandardName.TheVariants as standard
use Rattle.sim_scope.specs.declared.types.Entry.{Entry}
use Rattle.sim_scope.specs.declared.types.Entry.TheVariants as entry
use Rattle.sim_scope.specs.declared.types.FormalKind.{FormalKind}
use Rattle.sim_scope.specs.declared.types.FormalKind.TheVariants as kind
use Rattle.sim_scope.specs.declared.types.SimType.{SimType}
use Rattle.sim_scope.specs.declared.types.SimType.TheVariants as t
use Rattle.static_rules.specs.Words.{agrees, count_of, has_parameters, is_attribute, is_stream_of, is_typed, lacks_value}

-- ---- values

-- A procedure identifier or a standard name alone is a call without actuals.
abbrev pub procedure_called_as : (formals : ℕ) → Option Entry → Outcome
procedure_called_as formals (Some (entry.Procedure result block)) = if nat_eq formals 0 then call_of result else is.Refused
procedure_called_as formals (Some (entry.Virtual result own)) = call_of result
procedure_called_as formals (Some (entry.Formal f)) = call_of f.ty
procedure_called_as formals (Some (entry.Attribute name None result)) = call_of result
procedure_called_as formals _ = is.Refused

abbrev pub first_needed : Option SimType → Bool
first_needed None = false
first_needed (Some ty) = true

abbrev pub standard_called_as : StandardName → Outcome
standard_called_as name = if is_stream name || first_needed (signature name).first then is.Refused else call_of (signature name).result

abbrev pub barred_called_as : Barred → Outcome
barred_called_as (bar.Array ty) = is.Barred (bar.Array ty)
barred_called_as bar.Class = is.Barred bar.Class
barred_called_as _ = is.Refused

abbrev pub called_as : Tables → Outcome → Outcome
called_as s (is.Procedure d token own) = procedure_called_as (length (formals_of s d)) (entry_of s d)
called_as s (is.Standard name token) = standard_called_as name
called_as s (is.Barred b) = barred_called_as b
called_as s o = o

-- the type of a value
abbrev pub value_type : Outcome → Option SimType
value_type (is.Value ty) = Some ty
value_type (is.Called ty) = Some ty
value_type (is.Variable ty) = Some ty
value_type (is.Constant ty) = Some ty
value_type _ = None

-- the type that something has as an operand
abbrev pub type_as_operand : Tables → Outcome → Option SimType
type_as_operand s o = value_type (called_as s o)

abbrev pub value_of_type : Option SimType → Outcome
value_of_type None = is.Refused
value_of_type (Some ty) = is.Value ty

-- in parentheses: a value; a call without a result stays one, and is no statement
abbrev pub in_parentheses_as : Outcome → Outcome
in_parentheses_as is.NoValue = is.NoValueInParentheses
in_parentheses_as is.NoValueInParentheses = is.NoValueInParentheses
in_parentheses_as o = value_of_type (value_type o)

-- ---- operators

abbrev pub fitted_as : Fit → Outcome
fitted_as (fit.Fits ty) = is.Value ty
fitted_as fit.FirstWrong = is.Refused
fitted_as fit.SecondWrong = is.Refused

abbrev pub operands_as : (SimType → SimType → Fit) → Option SimType → Option SimType → Outcome
operands_as fits (Some a) (Some b) = fitted_as (fits a b)
operands_as fits _ _ = is.Refused

abbrev pub operand_as : (wanted : SimType) → Option SimType → Outcome
operand_as wanted None = is.Refused
operand_as wanted (Some a) = if is_same a wanted then is.Value wanted else is.Refused

abbrev pub arms_as : Tables → (condition first second : Option SimType) → Outcome
arms_as s (Some c) (Some a) (Some b) = if is_same c t.Boolean then value_of_type (common_type s a b) else is.Refused
arms_as s _ _ _ = is.Refused

-- ---- identifiers

abbrev pub found_occurrence : Tables → Extent → (token : ℕ) → Option Denotation → Occurrence
found_occurrence s e token None = nothing_there
found_occurrence s e token (Some d) = occurs (Some d) (is_barred s e token d)

abbrev pub occurs_as : Tables → Extent → Identifier → Occurrence
occurs_as s e x = found_occurrence s e x.token.0 (binding s x.token.0 x.name)

abbrev pub standard_occurrence : Option StandardName → Occurrence
standard_occurrence None = nothing_there
standard_occurrence (Some name) = occurs (Some (denotation.Standard name)) false

-- behind a dot
abbrev pub remote_occurrence : Tables → Extent → Identifier → Option ℕ → Occurrence
remote_occurrence s e x None = nothing_there
remote_occurrence s e x (Some block) = barred_if (has_classes s block) (found_occurrence s e x.token.0 (attribute_in s x.token.0 block x.name))

abbrev pub attribute_of_type : Tables → Extent → Identifier → Option SimType → Occurrence
attribute_of_type s e x (Some t.Text) = standard_occurrence (text_attribute x.name)
attribute_of_type s e x (Some (t.Ref class)) = remote_occurrence s e x (class_block s class)
attribute_of_type s e x _ = nothing_there

abbrev pub attribute_as : Tables → Extent → Identifier → (object : Outcome) → Occurrence
attribute_as s e x (is.Standard standard.Sysin token) = standard_occurrence (sysin_attribute x.name)
attribute_as s e x (is.Standard standard.Sysout token) = standard_occurrence (sysout_attribute x.name)
attribute_as s e x o = attribute_of_type s e x (type_as_operand s o)

-- a class, where the identifier denotes one
abbrev pub declared_class_as : DeclNo → (barred : Bool) → Option ℕ → Occurrence
declared_class_as d barred None = nothing_there
declared_class_as d barred (Some block) = occurs (Some (denotation.Declared d)) barred

abbrev pub denoted_class_as : Tables → Option Denotation → (barred : Bool) → Occurrence
denoted_class_as s None barred = nothing_there
denoted_class_as s (Some (denotation.Declared d)) barred = declared_class_as d barred (class_block s d)
denoted_class_as s (Some (denotation.Standard name)) barred = if is_standard_class name then occurs (Some (denotation.Standard name)) barred else nothing_there

abbrev pub class_as : Tables → Extent → Identifier → Occurrence
class_as s e x = denoted_class_as s (occurs_as s e x).denotes (occurs_as s e x).barred

-- ---- actual parameters

-- What is given: whether each actual has a type or stands alone as it may, how many there are, and whether all fit.
pub record Given : Type 0 where
  pub typed : Bool
  pub count : ℕ
  pub fits : Bool

abbrev pub none_given : Given
none_given = record { typed = true; count = 0; fits = true }

-- whether a value goes to a place of a type
abbrev pub goes_to_reference : Tables → DeclNo → SimType → Bool
goes_to_reference s c (t.Ref d) = on_one_chain s c d
goes_to_reference s c t.NoneType = true
goes_to_reference s c _ = false

abbrev pub goes_to : Tables → (wanted given : SimType) → Bool
goes_to s (t.Ref c) b = goes_to_reference s c b
goes_to s t.NoneType b = is_reference b
goes_to s a b = is_same a b

abbrev pub conforms : Tables → Option SimType → SimType → Bool
conforms s None b = false
conforms s (Some a) b = goes_to s a b

abbrev pub kind_conforms : Tables → FormalKind → Option SimType → SimType → Bool
kind_conforms s kind.Simple ty b = conforms s ty b
kind_conforms s _ ty b = false

-- a value, an array, a procedure and a standard name for a parameter
abbrev pub value_conforms : Tables → Parameter → Option SimType → Bool
value_conforms s q None = true
value_conforms s parameter.Subscript (Some b) = is_same t.Integer b
value_conforms s (parameter.Formal f) (Some b) = kind_conforms s f.kind f.ty b
value_conforms s _ (Some b) = true

abbrev pub typed_value : Tables → Parameter → Outcome → Given
typed_value s q o = record { typed = is_typed (type_as_operand s o); count = 1; fits = value_conforms s q (type_as_operand s o) }

abbrev pub alone_given : Bool → Given
alone_given fits = record { typed = true; count = 1; fits = fits }

abbrev pub array_conforms : FormalKind → Option SimType → SimType → Bool
array_conforms kind.Array ty b = type_matches ty b
array_conforms _ ty b = false

abbrev pub array_given : Tables → Parameter → Outcome → SimType → Given
array_given s parameter.Subscript o element = typed_value s parameter.Subscript o
array_given s (parameter.Formal f) o element = alone_given (array_conforms f.kind f.ty element)
array_given s _ o element = alone_given true

abbrev pub procedure_conforms : Tables → Option SimType → Option Entry → Bool
procedure_conforms s wanted e = not (is_attribute e) && result_matches s wanted (result_in e)

abbrev pub procedure_kind_given : Tables → Parameter → FormalKind → Option SimType → Outcome → Option Entry → Given
procedure_kind_given s q kind.Simple ty o e = typed_value s q o
procedure_kind_given s q kind.Array ty o e = alone_given false
procedure_kind_given s q kind.Procedure ty o e = alone_given (procedure_conforms s ty e)

abbrev pub procedure_given : Tables → Parameter → Outcome → Option Entry → Given
procedure_given s (parameter.Formal f) o e = procedure_kind_given s (parameter.Formal f) f.kind f.ty o e
procedure_given s parameter.Subscript o e = typed_value s parameter.Subscript o
procedure_given s parameter.Unspecified o e = alone_given (not (lacks_value e))
procedure_given s parameter.Unknown o e = alone_given true

abbrev pub standard_kind_given : Tables → Parameter → FormalKind → Outcome → Given
standard_kind_given s q kind.Simple o = typed_value s q o
standard_kind_given s q _ o = alone_given false

abbrev pub standard_given : Tables → Parameter → Outcome → Signature → Given
standard_given s (parameter.Formal f) o x = standard_kind_given s (parameter.Formal f) f.kind o
standard_given s parameter.Subscript o x = typed_value s parameter.Subscript o
standard_given s parameter.Unspecified o x = alone_given (has_value_alone x)
standard_given s parameter.Unknown o x = alone_given true

abbrev pub actual_given : Tables → Parameter → Outcome → Given
actual_given s q (is.Array element) = array_given s q (is.Array element) element
actual_given s q (is.Procedure d token own) = procedure_given s q (is.Procedure d token own) (entry_of s d)
actual_given s q (is.Standard name token) = if is_stream name then typed_value s q (is.Standard name token) else standard_given s q (is.Standard name token) (signature name)
actual_given s q (is.Barred b) = record { typed = false; count = 1; fits = true }
actual_given s q o = typed_value s q o

abbrev pub one_more_given : Given → Given → Given
one_more_given g x = record { typed = g.typed && x.typed; count = g.count + 1; fits = g.fits && x.fits }

-- ---- uses

abbrev pub formal_alone_as : FormalKind → Option SimType → Outcome → Outcome
formal_alone_as kind.Procedure ty o = o
formal_alone_as kind.Simple None o = is.Refused
formal_alone_as kind.Array None o = is.Refused
formal_alone_as kind.Simple (Some ty) o = is.Variable ty
formal_alone_as kind.Array (Some ty) o = is.Array ty

abbrev pub declared_alone_as : Tables → (naming : ℕ) → Identifier → DeclNo → Option Entry → Outcome
declared_alone_as s naming x d (Some (entry.Variable ty)) = is.Variable ty
declared_alone_as s naming x d (Some (entry.Constant ty)) = is.Constant ty
declared_alone_as s naming x d (Some (entry.Array element dimensions)) = is.Array element
declared_alone_as s naming x d (Some (entry.Procedure result block)) = procedure_alone d x (own_undotted s x (is_undotted naming x) (Some d))
declared_alone_as s naming x d (Some (entry.Class block)) = is.Class
declared_alone_as s naming x d (Some (entry.Virtual result own)) = procedure_alone d x (own_undotted s x (is_undotted naming x) (match_seen s x))
declared_alone_as s naming x d (Some (entry.Attribute name ty result)) = procedure_alone d x None
declared_alone_as s naming x d (Some (entry.Formal f)) = formal_alone_as f.kind f.ty (procedure_alone d x None)
declared_alone_as s naming x d (Some (entry.Unspecified written)) = is.Refused
declared_alone_as s naming x d None = is.Refused

abbrev pub alone_as : Tables → (naming : ℕ) → Identifier → Denotation → Outcome
alone_as s naming x (denotation.Declared d) = declared_alone_as s naming x d (entry_of s d)
alone_as s naming x (denotation.Standard name) = if is_standard_class name then is.Class else is.Standard name x.token

-- what a use with actual parameters or subscripts is, where these are right
abbrev pub formal_result : FormalKind → Option SimType → Outcome
formal_result kind.Simple ty = is.Refused
formal_result kind.Array None = is.Refused
formal_result kind.Array (Some ty) = is.Variable ty
formal_result kind.Procedure ty = call_of ty

abbrev pub entry_result : Option Entry → Outcome
entry_result (Some (entry.Procedure result block)) = call_of result
entry_result (Some (entry.Array element dimensions)) = is.Variable element
entry_result (Some (entry.Virtual result own)) = call_of result
entry_result (Some (entry.Attribute name ty result)) = call_of result
entry_result (Some (entry.Formal f)) = formal_result f.kind f.ty
entry_result _ = is.Refused

abbrev pub result_of : Tables → Denotation → Outcome
result_of s (denotation.Declared d) = entry_result (entry_of s d)
result_of s (denotation.Standard name) = call_of (signature name).result

abbrev pub applied_as : Tables → Denotation → Given → Outcome
applied_as s d g = if not (is_stream_of d) && has_parameters s d && agrees (count_of s d) g.count && g.fits then result_of s d else is.Refused

abbrev pub used_as : Tables → (naming : ℕ) → Identifier → Denotation → Given → Outcome
used_as s naming x d g = if nat_eq g.count 0 then alone_as s naming x d else if g.typed then applied_as s d g else is.Refused

abbrev pub unless_barred : Bool → Outcome → Outcome
unless_barred true o = barred_outcome o
unless_barred false o = o

abbrev pub denoted_as : Tables → (naming : ℕ) → Identifier → Option Denotation → (barred : Bool) → Given → Outcome
denoted_as s naming x None barred g = is.Refused
denoted_as s naming x (Some d) barred g = unless_barred barred (used_as s naming x d g)

-- ---- classes

-- a class compared with an operand, where both are known and no rule bars them
abbrev pub class_value_as : (barred : Bool) → Option SimType → Option Denotation → (Denotation → SimType) → Outcome
class_value_as false (Some ty) (Some class) type = is.Value (type class)
class_value_as _ _ _ type = is.Refused

abbrev pub compared_as : Tables → Option SimType → Occurrence → (Denotation → SimType) → Outcome
compared_as s ty o type = class_value_as (is_no_reference ty || (other_chain s o.denotes ty || only_prefix s o.denotes) || o.barred) ty o.denotes type

abbrev pub this_barred_as : Tables → Extent → (token : ℕ) → Denotation → (barred : Bool) → Option ℕ → Bool
this_barred_as s e token class barred block = is_nowhere block || is_only_prefix s class || this_barred s e token block || barred

abbrev pub this_as : Tables → Extent → (token : ℕ) → Option Denotation → (barred : Bool) → Outcome
this_as s e token None barred = is.Refused
this_as s e token (Some class) barred = if this_barred_as s e token class barred (this_block s token class) then is.Refused else is.Value (class_type class)

abbrev pub new_as : Tables → Option Denotation → (barred : Bool) → Given → Outcome
new_as s None barred g = is.Refused
new_as s (Some class) barred g =
    if (g.typed && not (nat_eq (formal_count s class) g.count)) || is_only_prefix s class || barred then is.Refused
    else if g.typed && g.fits then is.Called (class_type class) else is.Refused

-- ---- expressions

unfoldable mutual
  pub what : Tables → Extent → Expression → Outcome
  what s e (If i c a b) = arms_as s (type_as_operand s (what s e c)) (type_as_operand s (what s e a)) (type_as_operand s (what s e b))
  what s e (Binary operator i a b) = operands_as (operands_fit operator) (type_as_operand s (what s e a)) (type_as_operand s (what s e b))
  what s e (Not i a) = operand_as t.Boolean (type_as_operand s (what s e a))
  what s e (Signed sign i a) = operand_as t.Integer (type_as_operand s (what s e a))
  what s e (Constant literal i) = is.Value (literal_type literal)
  what s e (Named x args) = denoted_as s x.token.0 x (occurs_as s e x).denotes (occurs_as s e x).barred (what_given s e (occurs_as s e x).denotes none_given args)
  what s e (Dot i a x args) =
      denoted_as s i x (attribute_as s e x (what s e a)).denotes (attribute_as s e x (what s e a)).barred (what_given s e (attribute_as s e x (what s e a)).denotes none_given args)
  what s e (Parentheses i a) = in_parentheses_as (called_as s (what s e a))
  what s e (Member m i a class) = compared_as s (type_as_operand s (what s e a)) (class_as s e class) truth_of
  what s e (Qua i a class) = compared_as s (type_as_operand s (what s e a)) (class_as s e class) class_type
  what s e (This i class) = this_as s e class.token.0 (class_as s e class).denotes (class_as s e class).barred
  what s e (New i class args) = new_as s (class_as s e class).denotes (class_as s e class).barred (what_given s e (class_as s e class).denotes none_given args)

  -- the actuals of what is denoted, behind those so far
  pub what_given : Tables → Extent → Option Denotation → Given → Expressions → Given
  what_given s e d g NoMore = g
  what_given s e d g (Then x xs) = what_given s e d (one_more_given g (actual_given s (parameter_at s d g.count) (what s e x))) xs

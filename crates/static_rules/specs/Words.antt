-- Words for the rules on bodies: what expressions are as operands, actual parameters and calls.
use Rattle.std.specs.Prelude.{ℕ, Bool, true, false, not, ◌||◌, ◌&&◌, nat_eq, length, Option, Some, None}
use Rattle.sim_base.specs.declared.numbering.DeclNo.{DeclNo}
use Rattle.sim_scope.specs.Actuals.{has_value_alone}
use Rattle.sim_scope.specs.Calls.{attribute_count, parameter_count}
use Rattle.sim_scope.specs.Levels.{class_block}
use Rattle.sim_scope.specs.Outcomes.{is_stream}
use Rattle.sim_scope.specs.Scopes.{entry_of, formals_of}
use Rattle.sim_scope.specs.Standard.{is_standard_class, signature}
use Rattle.sim_scope.specs.Tables.{Tables}
use Rattle.sim_scope.specs.declared.outcome.Barred.TheVariants as bar
use Rattle.sim_scope.specs.declared.outcome.Outcome.{Outcome}
use Rattle.sim_scope.specs.declared.outcome.Outcome.TheVariants as is
use Rattle.sim_scope.specs.declared.outcome.Parameter.{Parameter}
use Rattle.sim_scope.specs.declared.outcome.Parameter.TheVariants as parameter
use Rattle.sim_scope.specs.declared.scopes.Denotation.{Denotation}
use Rattle.sim_scope.specs.declared.scopes.Denotation.TheVariants as denotation
use Rattle.sim_scope.specs.declared.standard.Signature.{Signature}
use Rattle.sim_scope.specs.declared.types.Entry.{Entry}
use Rattle.sim_scope.specs.declared.types.Entry.TheVariants as entry
use Rattle.sim_scope.specs.declared.types.FormalKind.{FormalKind}
use Rattle.sim_scope.specs.declared.types.FormalKind.TheVariants as kind
use Rattle.sim_scope.specs.declared.types.SimType.{SimType}
use Rattle.sim_scope.specs.declared.types.SimType.TheVariants as t

-- ---- values

-- `sysin` or `sysout` alone
abbrev pub is_stream_alone : Outcome → Bool
is_stream_alone (is.Standard name token) = is_stream name
is_stream_alone _ = false

abbrev pub is_array_or_class : Outcome → Bool
is_array_or_class (is.Array ty) = true
is_array_or_class is.Class = true
is_array_or_class (is.Barred (bar.Array ty)) = true
is_array_or_class (is.Barred bar.Class) = true
is_array_or_class _ = false

abbrev pub is_no_value : Outcome → Bool
is_no_value is.NoValue = true
is_no_value is.NoValueInParentheses = true
is_no_value _ = false

-- a call, a generation, or what another rule refuses
abbrev pub is_call : Outcome → Bool
is_call is.Refused = true
is_call is.NoValue = true
is_call (is.Called ty) = true
is_call (is.Barred (bar.Procedure d token)) = true
is_call (is.Barred (bar.Standard name token)) = true
is_call _ = false

-- ---- actual parameters

abbrev pub is_simple_kind : FormalKind → Bool
is_simple_kind kind.Simple = true
is_simple_kind kind.Array = false
is_simple_kind kind.Procedure = false

abbrev pub is_array_kind : FormalKind → Bool
is_array_kind kind.Simple = false
is_array_kind kind.Array = true
is_array_kind kind.Procedure = false

abbrev pub is_procedure_kind : FormalKind → Bool
is_procedure_kind kind.Simple = false
is_procedure_kind kind.Array = false
is_procedure_kind kind.Procedure = true

abbrev pub is_subscript : Parameter → Bool
is_subscript parameter.Subscript = true
is_subscript _ = false

-- a subscript, or a parameter that is a value
abbrev pub takes_value : Parameter → Bool
takes_value parameter.Subscript = true
takes_value (parameter.Formal f) = is_simple_kind f.kind
takes_value _ = false

-- An array, a procedure and a standard name may stand alone as an actual; all else is a value.
abbrev pub is_taken : Parameter → Outcome → Bool
is_taken q (is.Array element) = is_subscript q
is_taken q (is.Procedure d token own) = takes_value q
is_taken q (is.Standard name token) = is_stream name || takes_value q
is_taken q (is.Barred (bar.Array element)) = is_subscript q
is_taken q (is.Barred bar.Class) = true
is_taken q (is.Barred (bar.Procedure d token)) = takes_value q
is_taken q (is.Barred (bar.Standard name token)) = takes_value q
is_taken q _ = true

-- A standard name, and an attribute of a standard class, is not passed as a procedure. In a call of a formal procedure or a virtual it stands alone
-- only where it has a value without actuals.
abbrev pub passes_standard : Parameter → Signature → Bool
passes_standard (parameter.Formal f) x = is_procedure_kind f.kind
passes_standard parameter.Unspecified x = not (has_value_alone x)
passes_standard _ x = false

abbrev pub has_value : (parameter result : Option SimType) → Bool
has_value None (Some ty) = true
has_value _ _ = false

abbrev pub is_attribute : Option Entry → Bool
is_attribute (Some (entry.Attribute name ty result)) = true
is_attribute _ = false

abbrev pub lacks_value : Option Entry → Bool
lacks_value (Some (entry.Attribute name ty result)) = not (has_value ty result)
lacks_value _ = false

abbrev pub passes_attribute : Parameter → Option Entry → Bool
passes_attribute (parameter.Formal f) e = is_procedure_kind f.kind && is_attribute e
passes_attribute parameter.Unspecified e = lacks_value e
passes_attribute _ e = false

abbrev pub is_left_out : Tables → Parameter → Outcome → Bool
is_left_out s q (is.Procedure d token own) = passes_attribute q (entry_of s d)
is_left_out s q (is.Standard name token) = not (is_stream name) && passes_standard q (signature name)
is_left_out s q (is.Barred (bar.Procedure d token)) = passes_attribute q (entry_of s d)
is_left_out s q (is.Barred (bar.Standard name token)) = passes_standard q (signature name)
is_left_out s q _ = false

-- ---- calls with actual parameters or subscripts

abbrev pub is_stream_of : Denotation → Bool
is_stream_of (denotation.Declared d) = false
is_stream_of (denotation.Standard name) = is_stream name

-- what has parameters or subscripts
abbrev pub takes_parameters : Option Entry → Bool
takes_parameters (Some (entry.Procedure result block)) = true
takes_parameters (Some (entry.Array element dimensions)) = true
takes_parameters (Some (entry.Virtual result own)) = true
takes_parameters (Some (entry.Attribute name ty result)) = true
takes_parameters (Some (entry.Formal f)) = not (is_simple_kind f.kind)
takes_parameters _ = false

abbrev pub has_parameters : Tables → Denotation → Bool
has_parameters s (denotation.Declared d) = takes_parameters (entry_of s d)
has_parameters s (denotation.Standard name) = not (is_standard_class name)

-- How many it has. Of a formal parameter and a virtual that is known only when the program runs.
abbrev pub declared_count : Tables → DeclNo → Option Entry → Option ℕ
declared_count s d (Some (entry.Procedure result block)) = Some (length (formals_of s d))
declared_count s d (Some (entry.Array element dimensions)) = Some dimensions
declared_count s d (Some (entry.Attribute name ty result)) = Some (attribute_count ty)
declared_count s d _ = None

abbrev pub count_of : Tables → Denotation → Option ℕ
count_of s (denotation.Declared d) = declared_count s d (entry_of s d)
count_of s (denotation.Standard name) = Some (parameter_count (signature name))

abbrev pub agrees : Option ℕ → (given : ℕ) → Bool
agrees None given = true
agrees (Some wanted) given = nat_eq wanted given

-- a formal array without an element type is refused before
abbrev pub is_typed : Option SimType → Bool
is_typed None = false
is_typed (Some ty) = true

abbrev pub has_element : Option Entry → Bool
has_element (Some (entry.Formal f)) = not (is_array_kind f.kind) || is_typed f.ty
has_element _ = true

abbrev pub is_known : Tables → Denotation → Bool
is_known s (denotation.Declared d) = has_element (entry_of s d)
is_known s (denotation.Standard name) = true

-- ---- classes

abbrev pub is_some_block : Option ℕ → Bool
is_some_block None = false
is_some_block (Some block) = true

abbrev pub is_class : Tables → Denotation → Bool
is_class s (denotation.Declared d) = is_some_block (class_block s d)
is_class s (denotation.Standard name) = is_standard_class name

-- integers, booleans and characters have no attributes
abbrev pub has_attributes : SimType → Bool
has_attributes t.Text = true
has_attributes (t.Ref class) = true
has_attributes t.NoneType = true
has_attributes _ = false

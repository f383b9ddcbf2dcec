-- Actual parameters and subscripts: what each is held against, and whether it fits.
use Rattle.std.specs.Prelude.{ℕ, ◌+◌, zero, suc, Bool, true, false, ◌&&◌, if◌then◌else◌, Option, Some, None}
use Rattle.sim_base.specs.declared.numbering.DeclNo.{DeclNo}
use Rattle.sim_base.specs.declared.rule.Rule.{Rule}
use Rattle.sim_base.specs.declared.rule.Rule.TheVariants as r
use Rattle.sim_scope.specs.declared.outcome.Actual.{Actual}
use Rattle.sim_scope.specs.declared.outcome.Actuals.{Actuals}
use Rattle.sim_scope.specs.declared.outcome.Barred.{Barred}
use Rattle.sim_scope.specs.declared.outcome.Barred.TheVariants as bar
use Rattle.sim_scope.specs.declared.outcome.Outcome.{Outcome}
use Rattle.sim_scope.specs.declared.outcome.Outcome.TheVariants as is
use Rattle.sim_scope.specs.declared.outcome.Parameter.{Parameter}
use Rattle.sim_scope.specs.declared.outcome.Parameter.TheVariants as parameter
use Rattle.sim_scope.specs.declared.scopes.Denotation.{Denotation}
use Rattle.sim_scope.specs.declared.scopes.Denotation.TheVariants as denotation
use Rattle.sim_scope.specs.declared.standard.Signature.{Signature}
use Rattle.sim_scope.specs.declared.types.Entry.{Entry}
use Rattle.sim_scope.specs.declared.types.Entry.TheVariants as entry
use Rattle.sim_scope.specs.declared.types.Formal.{Formal}
use Rattle.sim_scope.specs.declared.types.FormalKind.{FormalKind}
use Rattle.sim_scope.specs.declared.types.FormalKind.TheVariants as kind
use Rattle.sim_scope.specs.declared.types.Mode.TheVariants as mode
use Rattle.sim_scope.specs.declared.types.SimType.{SimType}
use Rattle.sim_scope.specs.declared.types.SimType.TheVariants as t
use Rattle.sim_scope.specs.Found.{Broken, fault, lesser_of}
use Rattle.sim_scope.specs.Judged.{Judged, gives, next, telling}
use Rattle.sim_scope.specs.Operators.{is_same, misfit_of}
use Rattle.sim_scope.specs.Levels.{is_in_chain}
use Rattle.sim_scope.specs.Outcomes.{is_stream, type_in, valued}
use Rattle.sim_scope.specs.Scopes.{class_formal, entry_of, formal_of}
use Rattle.sim_scope.specs.Standard.{signature}
use Rattle.sim_scope.specs.Tables.{Tables}

-- What an actual is held against.
abbrev pub formal_or_none : Option Formal → Parameter
formal_or_none None = parameter.Unknown
formal_or_none (Some f) = parameter.Formal f

-- parameters of standard names are by value
abbrev pub typed_or_none : Option SimType → Parameter
typed_or_none None = parameter.Unknown
typed_or_none (Some ty) = parameter.Formal (record { mode = mode.ByValue; kind = kind.Simple; ty = Some ty })

abbrev pub parameter_type : Signature → (place : ℕ) → Option SimType
parameter_type s zero = s.first
parameter_type s (suc zero) = s.second
parameter_type s (suc (suc place)) = None

abbrev pub of_formal_procedure : FormalKind → Parameter
of_formal_procedure kind.Array = parameter.Subscript
of_formal_procedure kind.Procedure = parameter.Unspecified
of_formal_procedure kind.Simple = parameter.Unknown

abbrev pub attribute_parameter : Option SimType → (place : ℕ) → Parameter
attribute_parameter ty zero = typed_or_none ty
attribute_parameter ty (suc place) = parameter.Unknown

-- (a class has the parameters of all its levels)
abbrev pub parameter_of : Tables → DeclNo → (place : ℕ) → Option Entry → Parameter
parameter_of s d place (Some (entry.Procedure result block)) = formal_or_none (formal_of s d place)
parameter_of s d place (Some (entry.Class block)) = formal_or_none (class_formal s block place)
parameter_of s d place (Some (entry.Attribute name ty result)) = attribute_parameter ty place
parameter_of s d place (Some (entry.Array element dimensions)) = parameter.Subscript
parameter_of s d place (Some (entry.Virtual result own)) = parameter.Unspecified
parameter_of s d place (Some (entry.Formal f)) = of_formal_procedure f.kind
parameter_of s d place _ = parameter.Unknown

-- the parameter or subscript at a place of what an identifier denotes
unfoldable pub parameter_at : Tables → Option Denotation → (place : ℕ) → Parameter
parameter_at s None place = parameter.Unknown
parameter_at s (Some (denotation.Declared d)) place = parameter_of s d place (entry_of s d)
parameter_at s (Some (denotation.Standard name)) place = typed_or_none (parameter_type (signature name) place)

-- Whether an actual fits.
abbrev pub fitting : Actual
fitting = record { typed = true; misfit = None }

abbrev pub untyped : Actual
untyped = record { typed = false; misfit = None }

abbrev pub misfitting : (first : ℕ) → Rule → Actual
misfitting first rule = record { typed = true; misfit = Some (fault first rule) }

abbrev pub type_matches : Option SimType → SimType → Bool
type_matches None b = false
type_matches (Some a) b = is_same a b

abbrev pub same_or_misfit : (first : ℕ) → Option SimType → SimType → Actual
same_or_misfit first wanted b = if type_matches wanted b then fitting else misfitting first r.WrongType

abbrev pub fitting_unless : (first : ℕ) → Option Rule → Actual
fitting_unless first None = fitting
fitting_unless first (Some rule) = misfitting first rule

abbrev pub conforming : Tables → (first : ℕ) → Option SimType → SimType → Actual
conforming s first None b = misfitting first r.WrongType
conforming s first (Some a) b = fitting_unless first (misfit_of s a b)

-- S13, S16: a value, which a simple parameter has of its type, and a subscript as an integer
abbrev pub value_fits : Tables → (first : ℕ) → Parameter → Option SimType → Actual
value_fits s first p None = untyped
value_fits s first parameter.Subscript (Some b) = same_or_misfit first (Some t.Integer) b
value_fits s first (parameter.Formal f) (Some b) = (elim f.kind [ kind.Simple ↦ conforming s first f.ty b | _ ↦ misfitting first r.WrongType ])
value_fits s first _ (Some b) = fitting

unfoldable pub as_value : Tables → (first : ℕ) → Parameter → Outcome → Judged Actual
as_value s first p o = next (valued s first o) (λ v. gives (value_fits s first p (type_in v)))

-- S13: an array alone, which an array parameter has of its element type
abbrev pub array_fits : (first : ℕ) → Formal → SimType → Actual
array_fits first f b = (elim f.kind [ kind.Array ↦ same_or_misfit first f.ty b | _ ↦ misfitting first r.WrongType ])

-- a reference may be of a subclass
abbrev pub result_fits : Tables → (wanted given : SimType) → Bool
result_fits s (t.Ref c) (t.Ref d) = is_in_chain s d c
result_fits s a b = is_same a b

abbrev pub result_matches : Tables → Option SimType → Option SimType → Bool
result_matches s None None = true
result_matches s None (Some b) = false
result_matches s (Some a) None = false
result_matches s (Some a) (Some b) = result_fits s a b

abbrev pub result_in : Option Entry → Option SimType
result_in (Some (entry.Procedure result block)) = result
result_in (Some (entry.Virtual result own)) = result
result_in (Some (entry.Formal f)) = f.ty
result_in (Some (entry.Attribute name parameter result)) = result
result_in _ = None

-- S13: a procedure alone, which a procedure parameter has with the same result, or without one where it has none
abbrev pub procedure_fits : Tables → (first : ℕ) → Formal → Option SimType → Actual
procedure_fits s first f result = if result_matches s f.ty result then fitting else misfitting first r.WrongType

-- S23 is told whether or not the other actuals have types
abbrev pub left_out : (first : ℕ) → Judged Actual
left_out first = telling (Broken first r.StandardNameLeftOut) (misfitting first r.StandardNameLeftOut)

-- S23: in a call of a formal procedure or a virtual, a standard name alone has a value without actuals
abbrev pub has_value_alone : Signature → Bool
has_value_alone s = (elim s.first [ Some a ↦ false | None ↦ elim s.result [ None ↦ false | Some b ↦ true ] ])

abbrev pub unspecified_standard : (first : ℕ) → Signature → Judged Actual
unspecified_standard first s = if has_value_alone s then gives fitting else left_out first

-- S23: nor is an attribute of a standard class passed as a procedure
abbrev pub passed_procedure : Tables → (first : ℕ) → Formal → Option Entry → Judged Actual
passed_procedure s first f (Some (entry.Attribute name parameter result)) = left_out first
passed_procedure s first f e = gives (procedure_fits s first f (result_in e))

abbrev pub attribute_alone : (first : ℕ) → (parameter result : Option SimType) → Judged Actual
attribute_alone first None (Some ty) = gives fitting
attribute_alone first parameter result = left_out first

abbrev pub unspecified_procedure : (first : ℕ) → Option Entry → Judged Actual
unspecified_procedure first (Some (entry.Attribute name parameter result)) = attribute_alone first parameter result
unspecified_procedure first e = gives fitting

abbrev pub procedure_actual : Tables → (first : ℕ) → Parameter → Outcome → DeclNo → Judged Actual
procedure_actual s first (parameter.Formal f) o d =
    (elim f.kind [ kind.Simple ↦ as_value s first (parameter.Formal f) o | kind.Array ↦ gives (misfitting first r.WrongType) | kind.Procedure ↦ passed_procedure s first f (entry_of s d) ])
procedure_actual s first parameter.Subscript o d = as_value s first parameter.Subscript o
procedure_actual s first parameter.Unspecified o d = unspecified_procedure first (entry_of s d)
procedure_actual s first parameter.Unknown o d = gives fitting

-- S23: no standard name is passed as a procedure
abbrev pub standard_actual : Tables → (first : ℕ) → Parameter → Outcome → Signature → Judged Actual
standard_actual s first (parameter.Formal f) o signature =
    (elim f.kind [ kind.Simple ↦ as_value s first (parameter.Formal f) o | kind.Array ↦ gives (misfitting first r.WrongType) | kind.Procedure ↦ left_out first ])
standard_actual s first parameter.Subscript o signature = as_value s first parameter.Subscript o
standard_actual s first parameter.Unspecified o signature = unspecified_standard first signature
standard_actual s first parameter.Unknown o signature = gives fitting

-- an array is no subscript
abbrev pub array_actual : Tables → (first : ℕ) → Parameter → Outcome → SimType → Judged Actual
array_actual s first parameter.Subscript o element = as_value s first parameter.Subscript o
array_actual s first (parameter.Formal f) o element = gives (array_fits first f element)
array_actual s first _ o element = gives fitting

-- An identifier that may not stand there: what other rules say of it, but it has no type, and is not compared.
abbrev pub barred_alone : Tables → (first : ℕ) → Parameter → Barred → Judged Actual
barred_alone s first p (bar.Array element) = array_actual s first p (is.Barred (bar.Array element)) element
barred_alone s first p bar.Class = as_value s first p (is.Barred bar.Class)
barred_alone s first p (bar.Procedure d token) = procedure_actual s first p (is.Barred (bar.Procedure d token)) d
barred_alone s first p (bar.Standard name token) = standard_actual s first p (is.Barred (bar.Standard name token)) (signature name)

abbrev pub barred_actual : Tables → (first : ℕ) → Parameter → Barred → Judged Actual
barred_actual s first p b = next (barred_alone s first p b) (λ x. gives untyped)

-- An actual, with its first token. An array, a procedure and a standard name may stand alone; all else is a value.
unfoldable pub actual : Tables → (first : ℕ) → Parameter → Outcome → Judged Actual
actual s first p (is.Array element) = array_actual s first p (is.Array element) element
actual s first p (is.Procedure d token own) = procedure_actual s first p (is.Procedure d token own) d
actual s first p (is.Standard name token) =
    if is_stream name then as_value s first p (is.Standard name token)
    else standard_actual s first p (is.Standard name token) (signature name)
actual s first p (is.Barred b) = barred_actual s first p b
actual s first p o = as_value s first p o

-- All of them: how many, whether each is something, and the least misfit, which counts only then.
abbrev pub no_actuals : Actuals
no_actuals = record { typed = true; count = 0; misfit = None }

unfoldable pub with_actual : Actuals → Actual → Actuals
with_actual a x = record { typed = a.typed && x.typed; count = a.count + 1; misfit = lesser_of a.misfit x.misfit }

-- one more actual of what an identifier denotes
unfoldable pub more : Tables → Option Denotation → Actuals → (first : ℕ) → Outcome → Judged Actuals
more s d a first o = next (actual s first (parameter_at s d a.count) o) (λ x. gives (with_actual a x))

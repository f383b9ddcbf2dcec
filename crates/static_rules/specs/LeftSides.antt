-- What stands left of a sign of assignment, and what a for statement controls.
use Rattle.std.specs.Prelude.{Bool, true, false, ◌||◌, if◌then◌else◌, Option, Some, None}
use Rattle.sim_base.specs.declared.numbering.DeclNo.{DeclNo}
use Rattle.sim_tree.specs.declared.stmt.Assignment.{Assignment}
use Rattle.sim_scope.specs.Actuals.{has_value_alone}
use Rattle.sim_scope.specs.Actuals as a
use Rattle.sim_scope.specs.Assignments.{is_text_copied}
use Rattle.sim_scope.specs.Outcomes.{is_stream}
use Rattle.sim_scope.specs.Scopes.{entry_of}
use Rattle.sim_scope.specs.Standard.{signature}
use Rattle.sim_scope.specs.Tables.{Tables}
use Rattle.sim_scope.specs.declared.outcome.Barred.TheVariants as bar
use Rattle.sim_scope.specs.declared.outcome.Outcome.{Outcome}
use Rattle.sim_scope.specs.declared.outcome.Outcome.TheVariants as is
use Rattle.sim_scope.specs.declared.scopes.Denotation.{Denotation}
use Rattle.sim_scope.specs.declared.scopes.Denotation.TheVariants as denotation
use Rattle.sim_scope.specs.declared.types.Entry.{Entry}
use Rattle.sim_scope.specs.declared.types.Entry.TheVariants as entry
use Rattle.sim_scope.specs.declared.types.FormalKind.{FormalKind}
use Rattle.sim_scope.specs.declared.types.FormalKind.TheVariants as kind
use Rattle.sim_scope.specs.declared.types.Mode.{Mode}
use Rattle.sim_scope.specs.declared.types.Mode.TheVariants as mode
use Rattle.sim_scope.specs.declared.types.SimType.{SimType}
use Rattle.static_rules.specs.Types.{called_as}

-- ---- left sides

-- What stands left of a sign: something of a type, that is a variable or is none; what has no value; an array or a class; or what another rule
-- refuses.
pub data Left : Type 0 where
  Of : (variable : Bool) → SimType → Left
  WithoutValue : Left
  WithoutKind : Left
  Refused : Left

abbrev pub left_value : Assignment → Outcome → Left
left_value sign (is.Variable ty) = Of true ty
left_value sign (is.Value ty) = Of (is_text_copied sign ty) ty
left_value sign (is.Called ty) = Of (is_text_copied sign ty) ty
left_value sign (is.Constant ty) = Of false ty
left_value sign (is.Array ty) = WithoutKind
left_value sign is.Class = WithoutKind
left_value sign (is.Barred (bar.Array ty)) = WithoutKind
left_value sign (is.Barred bar.Class) = WithoutKind
left_value sign is.NoValue = WithoutValue
left_value sign is.NoValueInParentheses = WithoutValue
left_value sign _ = Refused

-- the result of the procedure in whose text the identifier stands
abbrev pub own_left : Option SimType → Left
own_left None = WithoutValue
own_left (Some ty) = Of true ty

-- a call, which is a left side only where a text is copied into its value
abbrev pub called_left : Tables → Assignment → Outcome → Option SimType → Left
called_left s sign o None = WithoutValue
called_left s sign o (Some ty) = if is_text_copied sign ty then left_value sign (called_as s o) else Of false ty

abbrev pub procedure_left : Tables → Assignment → Outcome → DeclNo → Option DeclNo → Left
procedure_left s sign o d (Some p) = own_left (a.result_in (entry_of s p))
procedure_left s sign o d None = called_left s sign o (a.result_in (entry_of s d))

abbrev pub left_of : Tables → Assignment → Outcome → Left
left_of s sign (is.Procedure d token own) = procedure_left s sign (is.Procedure d token own) d own
left_of s sign (is.Standard name token) =
    if is_stream name then left_value sign (called_as s (is.Standard name token)) else called_left s sign (is.Standard name token) (signature name).result
left_of s sign o = left_value sign o

-- whether a left side is called
abbrev pub copies_text : Assignment → Option SimType → Bool
copies_text sign None = false
copies_text sign (Some ty) = is_text_copied sign ty

abbrev pub copies_result : Tables → Assignment → DeclNo → Option DeclNo → Bool
copies_result s sign d (Some p) = false
copies_result s sign d None = copies_text sign (a.result_in (entry_of s d))

abbrev pub is_called_left : Tables → Assignment → Outcome → Bool
is_called_left s sign (is.Procedure d token own) = copies_result s sign d own
is_called_left s sign (is.Standard name token) = is_stream name || copies_text sign (signature name).result
is_called_left s sign _ = false

-- ---- controlled variables

-- What is controlled: a simple variable of a type; what is none; or what is refused before.
pub data Variable : Type 0 where
  Simple : SimType → Variable
  NotSimple : Variable
  Unknown : Variable

abbrev pub moded_variable : Mode → SimType → Variable
moded_variable mode.ByName ty = NotSimple
moded_variable _ ty = Simple ty

abbrev pub formal_variable : Mode → FormalKind → Option SimType → Variable
formal_variable m kind.Simple None = Unknown
formal_variable m kind.Simple (Some ty) = moded_variable m ty
formal_variable m _ ty = NotSimple

abbrev pub entry_variable : Option Entry → Variable
entry_variable (Some (entry.Variable ty)) = Simple ty
entry_variable (Some (entry.Formal f)) = formal_variable f.mode f.kind f.ty
entry_variable (Some (entry.Unspecified written)) = Unknown
entry_variable None = Unknown
entry_variable _ = NotSimple

abbrev pub variable_of : Tables → Option Denotation → Variable
variable_of s None = Unknown
variable_of s (Some (denotation.Standard name)) = NotSimple
variable_of s (Some (denotation.Declared d)) = entry_variable (entry_of s d)

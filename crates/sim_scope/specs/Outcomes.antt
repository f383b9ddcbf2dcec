-- What an expression is where a value is needed, and what operators make of operands.
use Rattle.std.specs.Prelude.{ℕ, Bool, true, false, nat_eq, if◌then◌else◌, length, Option, Some, None}
use Rattle.sim_base.specs.declared.rule.Rule.{Rule}
use Rattle.sim_base.specs.declared.rule.Rule.TheVariants as r
use Rattle.sim_tree.specs.declared.operator.Operator.{Operator}
use Rattle.sim_scope.specs.declared.outcome.Barred.{Barred}
use Rattle.sim_scope.specs.declared.outcome.Barred.TheVariants as bar
use Rattle.sim_scope.specs.declared.outcome.Fit.{Fit}
use Rattle.sim_scope.specs.declared.outcome.Fit.TheVariants as fit
use Rattle.sim_scope.specs.declared.outcome.Outcome.{Outcome}
use Rattle.sim_scope.specs.declared.outcome.Outcome.TheVariants as is
use Rattle.sim_scope.specs.declared.outcome.Side.{Side}
use Rattle.sim_scope.specs.declared.standard.Signature.{Signature}
use Rattle.sim_scope.specs.declared.standard.StandardName.{StandardName}
use Rattle.sim_scope.specs.declared.standard.StandardName.TheVariants as standard
use Rattle.sim_scope.specs.declared.types.Entry.{Entry}
use Rattle.sim_scope.specs.declared.types.Entry.TheVariants as entry
use Rattle.sim_scope.specs.declared.types.SimType.{SimType}
use Rattle.sim_scope.specs.declared.types.SimType.TheVariants as t
use Rattle.sim_scope.specs.Found.{Broken, Typed}
use Rattle.sim_scope.specs.Judged.{Judged, gives, next, telling}
use Rattle.sim_scope.specs.Operators.{common_type, is_same, operands_fit}
use Rattle.sim_scope.specs.Scopes.{entry_of, formals_of}
use Rattle.sim_scope.specs.Standard.{signature}
use Rattle.sim_scope.specs.Tables.{Tables}

-- a value of this type, at the token that names the expression
unfoldable pub has : (token : ℕ) → SimType → Judged Outcome
has token ty = telling (Typed token ty) (is.Value ty)

-- a variable of this type
unfoldable pub varies : (token : ℕ) → SimType → Judged Outcome
varies token ty = telling (Typed token ty) (is.Variable ty)

-- a rule is broken at a token, and the expression is nothing
unfoldable pub breaks : (token : ℕ) → Rule → Judged Outcome
breaks token rule = telling (Broken token rule) is.Refused

-- Calls without actuals.
-- what a call is
abbrev pub call_of : Option SimType → Outcome
call_of None = is.NoValue
call_of (Some ty) = is.Called ty

-- S15: a declared procedure has no parameters then. How many a formal procedure and a virtual have is judged when the program runs.
abbrev pub procedure_called : (token : ℕ) → (formals : ℕ) → Option Entry → Judged Outcome
procedure_called token formals (Some (entry.Procedure result block)) = if nat_eq formals 0 then gives (call_of result) else breaks token r.WrongNumber
procedure_called token formals (Some (entry.Virtual result own)) = gives (call_of result)
procedure_called token formals (Some (entry.Formal f)) = gives (call_of f.ty)
procedure_called token formals (Some (entry.Attribute name None result)) = gives (call_of result)
procedure_called token formals (Some (entry.Attribute name (Some ty) result)) = breaks token r.WrongNumber
procedure_called token formals _ = gives is.Refused

abbrev pub is_stream : StandardName → Bool
is_stream standard.Sysin = true
is_stream standard.Sysout = true
is_stream _ = false

abbrev pub signature_called : (token : ℕ) → Signature → Judged Outcome
signature_called token s = (elim s.first [ None ↦ gives (call_of s.result) | Some a ↦ breaks token r.WrongNumber ])

-- S23: `sysin` and `sysout` stand before a dot alone. S15: there are no parameters.
abbrev pub standard_called : (token : ℕ) → StandardName → Judged Outcome
standard_called token name = if is_stream name then breaks token r.StandardNameLeftOut else signature_called token (signature name)

-- the call of an identifier that may not stand there has no type
abbrev pub without_type : Outcome → Judged Outcome
without_type o = gives is.Refused

abbrev pub barred_called : Tables → Barred → Judged Outcome
barred_called s (bar.Procedure d token) = next (procedure_called token.0 (length (formals_of s d)) (entry_of s d)) without_type
barred_called s (bar.Standard name token) = next (standard_called token.0 name) without_type
barred_called s b = gives (is.Barred b)

-- A procedure identifier and a standard name alone are calls, where they are not passed on and not assigned to.
unfoldable pub called : Tables → Outcome → Judged Outcome
called s (is.Procedure d token own) = procedure_called token.0 (length (formals_of s d)) (entry_of s d)
called s (is.Standard name token) = standard_called token.0 name
called s (is.Barred b) = barred_called s b
called s o = gives o

-- Values.
-- S12: an array or a class is no value. S13: nor is a call without a result.
unfoldable pub value_of : (first : ℕ) → Outcome → Judged Outcome
value_of first is.Refused = gives is.Refused
value_of first is.NoValue = breaks first r.WrongType
value_of first is.NoValueInParentheses = breaks first r.WrongType
value_of first (is.Value ty) = gives (is.Value ty)
value_of first (is.Called ty) = gives (is.Value ty)
value_of first (is.Variable ty) = gives (is.Value ty)
value_of first (is.Constant ty) = gives (is.Value ty)
value_of first (is.Array ty) = breaks first r.WrongKind
value_of first is.Class = breaks first r.WrongKind
value_of first (is.Barred (bar.Array ty)) = breaks first r.WrongKind
value_of first (is.Barred bar.Class) = breaks first r.WrongKind
value_of first _ = gives is.Refused

-- what an expression is where a value is needed; its first token is given
unfoldable pub valued : Tables → (first : ℕ) → Outcome → Judged Outcome
valued s first o = next (called s o) (value_of first)

abbrev pub type_in : Outcome → Option SimType
type_in (is.Value ty) = Some ty
type_in _ = None

-- an operand: its first token, and the type of its value
abbrev pub side_of : (first : ℕ) → Option SimType → Side
side_of first ty = record { first = record { 0 = first }; ty = ty }

unfoldable pub side : Tables → (first : ℕ) → Outcome → Judged Side
side s first o = next (valued s first o) (λ v. gives (side_of first (type_in v)))

-- An expression in parentheses is a value. A call without a result in them is none, and is no statement either.
unfoldable pub parenthesized : (first : ℕ) → Outcome → Judged Outcome
parenthesized first is.NoValue = gives is.NoValueInParentheses
parenthesized first is.NoValueInParentheses = gives is.NoValueInParentheses
parenthesized first o = value_of first o

unfoldable pub in_parentheses : Tables → (first : ℕ) → Outcome → Judged Outcome
in_parentheses s first o = next (called s o) (parenthesized first)

-- Operators.
-- S13: two operands of an operator. While one has no type, the other is not judged.
abbrev pub fitted : (token : ℕ) → Side → Side → Fit → Judged Outcome
fitted token x y (fit.Fits ty) = has token ty
fitted token x y fit.FirstWrong = breaks x.first.0 r.WrongType
fitted token x y fit.SecondWrong = breaks y.first.0 r.WrongType

abbrev pub types_fit : Operator → (token : ℕ) → Side → Side → Option SimType → Option SimType → Judged Outcome
types_fit operator token x y (Some a) (Some b) = fitted token x y (operands_fit operator a b)
types_fit operator token x y _ _ = gives is.Refused

unfoldable pub two : Operator → (token : ℕ) → Side → Side → Judged Outcome
two operator token x y = types_fit operator token x y x.ty y.ty

-- S13: an operand of a type, and an expression of the same type: `not`, and a sign in front
abbrev pub type_wanted : SimType → (token : ℕ) → Side → Option SimType → Judged Outcome
type_wanted wanted token x None = gives is.Refused
type_wanted wanted token x (Some a) = if is_same a wanted then has token wanted else breaks x.first.0 r.WrongType

unfoldable pub one : SimType → (token : ℕ) → Side → Judged Outcome
one wanted token x = type_wanted wanted token x x.ty

-- S13: a condition, and two arms with a common type; else the second arm is wrong
abbrev pub in_common : (token : ℕ) → Side → Option SimType → Judged Outcome
in_common token y (Some ty) = has token ty
in_common token y None = breaks y.first.0 r.WrongType

abbrev pub arms_fit : Tables → (token : ℕ) → (c x y : Side) → (condition first second : Option SimType) → Judged Outcome
arms_fit s token c x y (Some b) (Some p) (Some q) =
    if is_same b t.Boolean then in_common token y (common_type s p q) else breaks c.first.0 r.WrongType
arms_fit s token c x y _ _ _ = gives is.Refused

unfoldable pub three : Tables → (token : ℕ) → (condition first second : Side) → Judged Outcome
three s token c x y = arms_fit s token c x y c.ty x.ty y.ty

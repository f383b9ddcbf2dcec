-- Assignments. In `a := b := e` each left side is compared with the last expression. What is judged first does not matter for the answer; so
-- the last expression is.
use Rattle.std.specs.Prelude.{ℕ, Bool, true, false, ◌||◌, ◌&&◌, not, if◌then◌else◌, List, [], ◌∷◌, Option, Some, None}
use Rattle.sim_base.specs.declared.numbering.DeclNo.{DeclNo}
use Rattle.sim_base.specs.declared.rule.Rule.{Rule}
use Rattle.sim_base.specs.declared.rule.Rule.TheVariants as r
use Rattle.sim_tree.specs.declared.stmt.Assignment.{Assignment}
use Rattle.sim_tree.specs.declared.stmt.Assignment.TheVariants as assignment
use Rattle.sim_tree.specs.Syntax.{Expression, RightSide, first_of}
use Rattle.sim_scope.specs.declared.found.Fault.{Fault}
use Rattle.sim_scope.specs.declared.outcome.Barred.TheVariants as bar
use Rattle.sim_scope.specs.declared.outcome.Extent.TheVariants.{Statement}
use Rattle.sim_scope.specs.declared.outcome.LeftSides.{LeftSides}
use Rattle.sim_scope.specs.declared.outcome.Outcome.{Outcome}
use Rattle.sim_scope.specs.declared.outcome.Outcome.TheVariants as is
use Rattle.sim_scope.specs.declared.outcome.Side.{Side}
use Rattle.sim_scope.specs.declared.standard.StandardName.{StandardName}
use Rattle.sim_scope.specs.declared.types.SimType.{SimType}
use Rattle.sim_scope.specs.declared.types.SimType.TheVariants as t
use Rattle.sim_scope.specs.Actuals.{result_in}
use Rattle.sim_scope.specs.Expressions.{judge, judge_side}
use Rattle.sim_scope.specs.Found.{Broken, fault, lesser_of}
use Rattle.sim_scope.specs.Judged.{Judged, bars, gives, next, telling}
use Rattle.sim_scope.specs.Operators.{misfit_of}
use Rattle.sim_scope.specs.Outcomes.{called, is_stream, side_of}
use Rattle.sim_scope.specs.Scopes.{entry_of}
use Rattle.sim_scope.specs.Standard.{signature}
use Rattle.sim_scope.specs.Tables.{Tables}

-- what is judged for its events alone
abbrev pub Nothing : Type 0
Nothing = Unit {0}

unfoldable pub fine : Judged Nothing
fine = gives tt

unfoldable pub wrong : (token : ℕ) → Rule → Judged Nothing
wrong token rule = telling (Broken token rule) tt

-- Left sides.
-- a left side with the sign behind it
pub record LeftSide : Type 0 where
  pub sign : Assignment
  pub token : ℕ
  pub target : Expression

abbrev pub left_sides : Expression → List RightSide → List LeftSide
left_sides e [] = []
left_sides e (p ∷ ps) = record { sign = p.sign; token = p.token; target = e } ∷ left_sides p.value ps

-- the expression whose value is assigned
abbrev pub last_value : Expression → List RightSide → Expression
last_value e [] = e
last_value e (p ∷ ps) = last_value p.value ps

-- a left side that is none
unfoldable pub no_target : (first : ℕ) → Rule → Judged Side
no_target first rule = telling (Broken first rule) (side_of first None)

-- `:=` assigns values and texts, `:-` references and texts
abbrev pub takes : Assignment → SimType → Bool
takes assignment.Value (t.Ref d) = false
takes assignment.Value t.NoneType = false
takes assignment.Value _ = true
takes assignment.Reference (t.Ref d) = true
takes assignment.Reference t.NoneType = true
takes assignment.Reference t.Text = true
takes assignment.Reference _ = false

-- S13: the sign takes the type of the left side. S14: it is a variable. Both are judged of that left side alone, whatever the other parts are.
abbrev pub side_unless : (first : ℕ) → SimType → (barred : Bool) → Judged Side
side_unless first ty true = gives (side_of first None)
side_unless first ty false = gives (side_of first (Some ty))

unfoldable pub targets : Assignment → (first : ℕ) → (variable : Bool) → SimType → Judged Side
targets sign first variable ty =
    next (bars (not (takes sign ty)) first r.WrongType) (λ a. next (bars (not variable) first r.LeftSideIsNoVariable) (λ b. side_unless first ty (a || b)))

-- before `:=` any text value is a left side
abbrev pub is_text_copied : Assignment → SimType → Bool
is_text_copied assignment.Value t.Text = true
is_text_copied sign ty = false

abbrev pub value_assigned : Assignment → (first : ℕ) → SimType → Judged Side
value_assigned sign first ty = targets sign first (is_text_copied sign ty) ty

-- A left side is a variable, and no declared constant. S12, S13: an array, a class or a call without a result is none.
unfoldable pub assigned_to : Assignment → (first : ℕ) → Outcome → Judged Side
assigned_to sign first (is.Variable ty) = targets sign first true ty
assigned_to sign first (is.Value ty) = value_assigned sign first ty
assigned_to sign first (is.Called ty) = value_assigned sign first ty
assigned_to sign first (is.Constant ty) = targets sign first false ty
assigned_to sign first (is.Array ty) = no_target first r.WrongKind
assigned_to sign first is.Class = no_target first r.WrongKind
assigned_to sign first (is.Barred (bar.Array ty)) = no_target first r.WrongKind
assigned_to sign first (is.Barred bar.Class) = no_target first r.WrongKind
assigned_to sign first is.NoValue = no_target first r.WrongType
assigned_to sign first is.NoValueInParentheses = no_target first r.WrongType
assigned_to sign first _ = gives (side_of first None)

unfoldable pub call_assigned : Tables → Assignment → (first : ℕ) → Outcome → Judged Side
call_assigned s sign first o = next (called s o) (assigned_to sign first)

-- the value of a call as a left side
abbrev pub result_assigned : Tables → Assignment → (first : ℕ) → Outcome → Option SimType → Judged Side
result_assigned s sign first o None = no_target first r.WrongType
result_assigned s sign first o (Some ty) =
    if is_text_copied sign ty then call_assigned s sign first o else targets sign first false ty

-- In the text of a typed procedure its identifier alone is its result. In the text of a match it is the result of the match, of its own type;
-- what the identifier denotes, and the type at its token, are the virtual's.
abbrev pub own_result : Assignment → (first : ℕ) → Option SimType → Judged Side
own_result sign first None = no_target first r.WrongType
own_result sign first (Some ty) = targets sign first true ty

abbrev pub procedure_assigned : Tables → Assignment → (first : ℕ) → Outcome → DeclNo → Option DeclNo → Judged Side
procedure_assigned s sign first o d (Some p) = own_result sign first (result_in (entry_of s p))
procedure_assigned s sign first o d None = result_assigned s sign first o (result_in (entry_of s d))

abbrev pub standard_assigned : Tables → Assignment → (first : ℕ) → Outcome → StandardName → Judged Side
standard_assigned s sign first o name =
    if is_stream name then call_assigned s sign first o else result_assigned s sign first o (signature name).result

-- a left side, with its first token
unfoldable pub target : Tables → Assignment → (first : ℕ) → Outcome → Judged Side
target s sign first (is.Procedure d token own) = procedure_assigned s sign first (is.Procedure d token own) d own
target s sign first (is.Standard name token) = standard_assigned s sign first (is.Standard name token) name
target s sign first o = assigned_to sign first o

-- S14: all signs of a statement are the same; it is broken at each one that is not the first one
abbrev pub same_sign : Assignment → Assignment → Bool
same_sign assignment.Value assignment.Value = true
same_sign assignment.Reference assignment.Reference = true
same_sign a b = false

unfoldable pub sign_agrees : (first sign : Assignment) → (token : ℕ) → Judged Nothing
sign_agrees first sign token = if same_sign first sign then fine else wrong token r.LeftSideIsNoVariable

abbrev pub left_side : Tables → (first : Assignment) → LeftSide → Judged Side
left_side s first l =
    next (sign_agrees first l.sign l.token) (λ n. next (judge s Statement l.target) (target s l.sign (first_of l.target)))

-- Types. S13: the value has the type of the left side. S16: or lies on one chain with it.
abbrev pub fault_unless : (first : ℕ) → Option Rule → Option Fault
fault_unless first None = None
fault_unless first (Some rule) = Some (fault first rule)

abbrev pub types_assigned : Tables → (v : Side) → Option SimType → Option SimType → Option Fault
types_assigned s v (Some a) (Some b) = fault_unless v.first.0 (misfit_of s a b)
types_assigned s v _ _ = None

abbrev pub is_typed : Option SimType → Bool
is_typed None = false
is_typed (Some ty) = true

-- one more left side among those so far
unfoldable pub with_left : Tables → (v : Side) → LeftSides → (x : Side) → LeftSides
with_left s v a x = record { typed = a.typed && is_typed x.ty; misfit = lesser_of a.misfit (types_assigned s v x.ty v.ty) }

unfoldable pub lefts : Tables → (first : Assignment) → (v : Side) → LeftSides → List LeftSide → Judged LeftSides
lefts s first v a [] = gives a
lefts s first v a (l ∷ ls) = next (left_side s first l) (λ x. lefts s first v (with_left s v a x) ls)

-- the types are compared where all parts have one
abbrev pub told : Option Fault → Judged Nothing
told None = fine
told (Some f) = wrong f.token.0 f.rule

unfoldable pub compared : LeftSides → Judged Nothing
compared a = if a.typed then told a.misfit else fine

abbrev pub first_sign : List RightSide → Assignment
first_sign [] = assignment.Value
first_sign (p ∷ ps) = p.sign

abbrev pub no_lefts : LeftSides
no_lefts = record { typed = true; misfit = None }

unfoldable pub assigned : Tables → Expression → List RightSide → Judged Nothing
assigned s left parts =
    next (judge_side s Statement (last_value left parts)) (λ v. next (lefts s (first_sign parts) v no_lefts (left_sides left parts)) compared)

-- What is judged in the bodies of a program: each expression by what its parts are, each statement by what its expressions are. A judgement stands
-- by itself: it says which rule is broken where, whatever else is judged.
use Rattle.std.specs.Prelude.{ℕ, ◌+◌, List, [], ◌∷◌, ◌++◌, Option, Some, None}
use Rattle.sim_base.specs.declared.numbering.DeclNo.{DeclNo}
use Rattle.sim_tree.specs.declared.expr.Identifier.{Identifier}
use Rattle.sim_tree.specs.declared.operator.Operator.{Operator}
use Rattle.sim_tree.specs.declared.stmt.Assignment.{Assignment}
use Rattle.sim_tree.specs.declared.stmt.TypeName.{TypeName}
use Rattle.sim_tree.specs.declared.stmt.Variable.{Variable}
use Rattle.sim_tree.specs.Syntax.{After, Arrayed, At, Before, Binary, BoundPair, Constant, Delay, Dot, Element, Expression, Expressions, If, Member, Named, New, NoMore, Not, Now, Once, Parentheses, Prefix, Program, Qua, RightSide, Schedule, Signed, Step, Then, This, While, first_of}
use Rattle.sim_scope.specs.Actuals.{actual, no_actuals, parameter_at}
use Rattle.sim_scope.specs.Assignments.{LeftSide, compared, first_sign, last_value, left_sides, lefts, no_lefts, sign_agrees, target}
use Rattle.sim_scope.specs.Calls.{attribute, bound, used}
use Rattle.sim_scope.specs.Expressions.{actuals}
use Rattle.sim_scope.specs.Found.{Event}
use Rattle.sim_scope.specs.Least.{faults}
use Rattle.sim_scope.specs.Outcomes.{in_parentheses, one, side, side_of, three, two}
use Rattle.sim_scope.specs.References.{as_class, class_barred, new_object, this_object}
use Rattle.sim_scope.specs.Runs.{each}
use Rattle.sim_scope.specs.Statements.{activates, arm_fits, connected_by, controlled, in_simulation, needs, needs_reference, prefix_at, prefixed_with, process_at, simple, stands, starts, taken_by, variable_events}
use Rattle.sim_scope.specs.Tables.{Tables}
use Rattle.sim_scope.specs.Walk.{Visit, program_events}
use Rattle.sim_scope.specs.declared.found.Fault.{Fault}
use Rattle.sim_scope.specs.declared.outcome.Actuals.{Actuals}
use Rattle.sim_scope.specs.declared.outcome.Extent.{Extent}
use Rattle.sim_scope.specs.declared.outcome.Extent.TheVariants as extent
use Rattle.sim_scope.specs.declared.outcome.Occurrence.{Occurrence}
use Rattle.sim_scope.specs.declared.outcome.Outcome.{Outcome}
use Rattle.sim_scope.specs.declared.outcome.Parameter.{Parameter}
use Rattle.sim_scope.specs.declared.outcome.Side.{Side}
use Rattle.sim_scope.specs.declared.scopes.Denotation.{Denotation}
use Rattle.sim_scope.specs.declared.types.SimType.{SimType}
use Rattle.sim_scope.specs.declared.types.SimType.TheVariants as t
use Rattle.static_rules.specs.Types.{attribute_as, class_as, occurs_as, type_as_operand, what}

pub data Judgement : Type 0 where
  -- Expressions.
  -- an expression is taken as a value
  Value : Extent → Expression → Judgement
  -- two operands, one operand of a type, and the condition and the arms of a conditional expression; the token is that of the operator
  Operands : Extent → Operator → (token : ℕ) → (first second : Expression) → Judgement
  Operand : Extent → (wanted : SimType) → (token : ℕ) → Expression → Judgement
  Arms : Extent → (token : ℕ) → (condition first second : Expression) → Judgement
  -- an identifier occurs; it stands behind the dot of an object; it names a class
  Occurs : Extent → Identifier → Judgement
  Attribute : Extent → (object : Expression) → Identifier → Judgement
  NamesClass : Extent → Identifier → Judgement
  -- what an identifier denotes is used with actual parameters or subscripts, or with none
  Used : (token : ℕ) → Identifier → Extent → Occurrence → Expressions → Judgement
  -- an actual for a parameter
  ActualFor : Parameter → Extent → Expression → Judgement
  -- an expression in parentheses
  InParentheses : Extent → Expression → Judgement
  -- a class behind `is`, `in` or `qua`, behind `this`, and behind `new`
  ComparedWith : Extent → Expression → Identifier → Judgement
  ThisOf : Extent → (token : ℕ) → Identifier → Judgement
  NewOf : Extent → (token : ℕ) → Identifier → Expressions → Judgement
  -- Statements.
  -- an expression that is a statement
  Alone : Expression → Judgement
  -- an expression that has to be of a type
  Needs : Extent → (wanted : SimType) → Expression → Judgement
  -- a sign of an assignment, beside the first one; a left side; all parts of the assignment
  Sign : (first sign : Assignment) → (token : ℕ) → Judgement
  Target : Assignment → Expression → Judgement
  Assigned : (left : Expression) → List RightSide → Judgement
  -- a controlled variable; a value that it takes, and the first one of steps
  Controls : Assignment → Identifier → Judgement
  TakenBy : Option SimType → Expression → Judgement
  StartsFrom : Option SimType → Expression → Judgement
  -- a variable that is declared, with the value of a constant
  Declared : TypeName → Variable → Judgement
  -- the prefix of a block with its actuals
  PrefixOf : (token : ℕ) → Option Denotation → Expressions → Judgement
  -- an object that is inspected, and a class behind `when`
  Inspects : (token : ℕ) → Expression → Judgement
  InspectsWhen : Expression → Judgement
  Arm : (token : ℕ) → (object : Expression) → (class : Identifier) → Judgement
  -- an activation, and each process in it
  Activates : (token : ℕ) → Judgement
  Process : Option DeclNo → Expression → Judgement

-- what an expression is, and what it is as an operand
abbrev pub outcome : Tables → Extent → Expression → Outcome
outcome s e x = what s e x

-- the type that it has as an operand, where it has one
abbrev pub type_of : Tables → Extent → Expression → Option SimType
type_of s e x = type_as_operand s (what s e x)

abbrev pub operand : Tables → Extent → Expression → Side
operand s e x = side_of (first_of x) (type_of s e x)

-- what an identifier denotes where it occurs, and behind a dot
abbrev pub occurrence : Tables → Extent → Identifier → Occurrence
occurrence s e x = occurs_as s e x

abbrev pub attribute_of : Tables → Extent → Expression → Identifier → Occurrence
attribute_of s e a x = attribute_as s e x (what s e a)

abbrev pub class_of : Tables → Extent → Identifier → Occurrence
class_of s e x = class_as s e x

-- the actuals of what is denoted
abbrev pub given : Tables → Extent → Option Denotation → Expressions → Actuals
given s e d args = (actuals s e d no_actuals args).value

-- what a judgement tells
abbrev pub tells : Tables → Judgement → List Event
tells s (Value e x) = (side s (first_of x) (outcome s e x)).events
tells s (Operands e operator token a b) = (two operator token (operand s e a) (operand s e b)).events
tells s (Operand e wanted token a) = (one wanted token (operand s e a)).events
tells s (Arms e token c a b) = (three s token (operand s e c) (operand s e a) (operand s e b)).events
tells s (Occurs e x) = (bound s e x).events
tells s (Attribute e a x) = (attribute s e x (first_of a) (outcome s e a)).events
tells s (NamesClass e x) = (as_class s x.token.0 (occurrence s e x)).events
tells s (Used token x e o args) = (used s token x o (given s e o.denotes args)).events
tells s (ActualFor p e x) = (actual s (first_of x) p (outcome s e x)).events
tells s (InParentheses e x) = (in_parentheses s (first_of x) (outcome s e x)).events
tells s (ComparedWith e x class) = (class_barred s (operand s e x) class.token.0 (class_of s e class)).events
tells s (ThisOf e token class) = (this_object s e token class (class_of s e class)).events
tells s (NewOf e token class args) = (new_object s token class (class_of s e class) (given s e (class_of s e class).denotes args)).events
tells s (Alone x) = (stands s (first_of x) (outcome s extent.Statement x)).events
tells s (Needs e wanted x) = (needs wanted (operand s e x)).events
tells s (Sign first sign token) = (sign_agrees first sign token).events
tells s (Target sign x) = (target s sign (first_of x) (outcome s extent.Statement x)).events
tells s (Assigned left parts) = (compared (lefts s (first_sign parts) (operand s extent.Statement (last_value left parts)) no_lefts (left_sides left parts)).value).events
tells s (Controls sign x) = (simple s sign x.token.0 (occurrence s extent.Statement x).denotes).events
tells s (TakenBy a x) = (taken_by s a (operand s extent.Statement x)).events
tells s (StartsFrom a x) = (starts a (operand s extent.Statement x)).events
tells s (Declared type v) = variable_events type v
tells s (PrefixOf token d args) = (prefixed_with s token d (given s extent.Statement d args)).events
tells s (Inspects token x) = (connected_by s token (operand s extent.Statement x)).events
tells s (InspectsWhen x) = (needs_reference (operand s extent.Statement x)).events
tells s (Arm token x class) = (arm_fits s token (operand s extent.Statement x) class (class_of s extent.Statement class)).events
tells s (Activates token) = in_simulation token (process_at s token)
tells s (Process process x) = (activates s process (operand s extent.Statement x)).events

-- the rules that it tells to be broken
unfoldable pub finds : Tables → Judgement → List Fault
finds s j = faults (tells s j)

-- ---- expressions

abbrev pub names_class : Extent → Identifier → List Judgement
names_class e class = Occurs e class ∷ NamesClass e class ∷ []

abbrev mutual
  pub judged : Tables → Extent → Expression → List Judgement
  judged s e (If i c a b) =
      (judged s e c ++ (Value e c ∷ [])) ++ ((judged s e a ++ (Value e a ∷ [])) ++ ((judged s e b ++ (Value e b ∷ [])) ++ (Arms e i c a b ∷ [])))
  judged s e (Binary operator i a b) = (judged s e a ++ (Value e a ∷ [])) ++ ((judged s e b ++ (Value e b ∷ [])) ++ (Operands e operator i a b ∷ []))
  judged s e (Not i a) = (judged s e a ++ (Value e a ∷ [])) ++ (Operand e t.Boolean i a ∷ [])
  judged s e (Signed sign i a) = (judged s e a ++ (Value e a ∷ [])) ++ (Operand e t.Integer i a ∷ [])
  judged s e (Constant literal i) = []
  judged s e (Named x args) =
      (Occurs e x ∷ []) ++ (actuals_judged s e (occurrence s e x).denotes 0 args ++ (Used x.token.0 x e (occurrence s e x) args ∷ []))
  judged s e (Dot i a x args) =
      (judged s e a ++ (Attribute e a x ∷ [])) ++ (actuals_judged s e (attribute_of s e a x).denotes 0 args ++ (Used i x e (attribute_of s e a x) args ∷ []))
  judged s e (Parentheses i a) = judged s e a ++ (InParentheses e a ∷ [])
  judged s e (Member m i a class) = (judged s e a ++ (Value e a ∷ [])) ++ (names_class e class ++ (ComparedWith e a class ∷ []))
  judged s e (Qua i a class) = (judged s e a ++ (Value e a ∷ [])) ++ (names_class e class ++ (ComparedWith e a class ∷ []))
  judged s e (This i class) = names_class e class ++ (ThisOf e i class ∷ [])
  judged s e (New i class args) = names_class e class ++ (actuals_judged s e (class_of s e class).denotes 0 args ++ (NewOf e i class args ∷ []))

  -- the actuals of what is denoted, from a place on
  pub actuals_judged : Tables → Extent → Option Denotation → (place : ℕ) → Expressions → List Judgement
  actuals_judged s e d place NoMore = []
  actuals_judged s e d place (Then x xs) = (judged s e x ++ (ActualFor (parameter_at s d place) e x ∷ [])) ++ actuals_judged s e d (place + 1) xs

-- an expression that is taken as a value, and one of a type
abbrev pub value_judged : Tables → Extent → Expression → List Judgement
value_judged s e x = judged s e x ++ (Value e x ∷ [])

abbrev pub required_judged : Tables → Extent → SimType → Expression → List Judgement
required_judged s e wanted x = value_judged s e x ++ (Needs e wanted x ∷ [])

-- ---- statements and declarations

abbrev pub left_judged : Tables → (first : Assignment) → LeftSide → List Judgement
left_judged s first l = (Sign first l.sign l.token ∷ []) ++ (judged s extent.Statement l.target ++ (Target l.sign l.target ∷ []))

abbrev pub assignment_judged : Tables → Expression → List RightSide → List Judgement
assignment_judged s left parts =
    value_judged s extent.Statement (last_value left parts) ++ (each (left_judged s (first_sign parts)) (left_sides left parts) ++ (Assigned left parts ∷ []))

abbrev pub taken_judged : Tables → Option SimType → Expression → List Judgement
taken_judged s a x = value_judged s extent.Statement x ++ (TakenBy a x ∷ [])

abbrev pub element_judged : Tables → Option SimType → Element → List Judgement
element_judged s a (Once value) = taken_judged s a value
element_judged s a (Step start i step limit) =
    (value_judged s extent.Statement start ++ (StartsFrom a start ∷ [])) ++ (required_judged s extent.Statement t.Integer step ++ required_judged s extent.Statement t.Integer limit)
element_judged s a (While value i condition) = taken_judged s a value ++ required_judged s extent.Statement t.Boolean condition

abbrev pub control_judged : Tables → Identifier → Assignment → List Element → List Judgement
control_judged s x sign es = (Occurs extent.Statement x ∷ Controls sign x ∷ []) ++ each (element_judged s (controlled s sign x).value) es

abbrev pub prefixed_judged : Tables → Identifier → Expressions → (begin : ℕ) → List Judgement
prefixed_judged s class arguments begin = actuals_judged s extent.Statement (prefix_at s begin) 0 arguments ++ (PrefixOf class.token.0 (prefix_at s begin) arguments ∷ [])

abbrev pub program_prefix_judged : Tables → Option Prefix → (begin : ℕ) → List Judgement
program_prefix_judged s None begin = []
program_prefix_judged s (Some p) begin = prefixed_judged s p.class p.arguments begin

abbrev pub arm_judged : (token : ℕ) → (object : Expression) → (class : Identifier) → List Judgement
arm_judged token object class = names_class extent.Statement class ++ (Arm token object class ∷ [])

abbrev pub process_judged : Tables → Option DeclNo → Expression → List Judgement
process_judged s process x = value_judged s extent.Statement x ++ (Process process x ∷ [])

abbrev pub schedule_judged : Tables → Option DeclNo → Schedule → List Judgement
schedule_judged s process Now = []
schedule_judged s process (At i time prior) = required_judged s extent.Statement t.Integer time
schedule_judged s process (Delay i time prior) = required_judged s extent.Statement t.Integer time
schedule_judged s process (Before i other) = process_judged s process other
schedule_judged s process (After i other) = process_judged s process other

abbrev pub declared_judged : TypeName → Variable → List Judgement
declared_judged type v = Declared type v ∷ []

abbrev pub pair_judged : Tables → BoundPair → List Judgement
pair_judged s b = required_judged s extent.Bound t.Integer b.lower ++ required_judged s extent.Bound t.Integer b.upper

abbrev pub array_judged : Tables → Arrayed → List Judgement
array_judged s a = each (pair_judged s) a.bounds

-- what the parts of a program are judged by
unfoldable pub judgements : Tables → Visit Judgement
judgements s = record {
  program = program_prefix_judged s;
  block = λ begin. [];
  prefixed = prefixed_judged s;
  procedure = λ result token h. [];
  class = λ prefix token h i. [];
  connected = λ opening. [];
  leave = λ end. [];
  variables = λ type vs. each (declared_judged type) vs;
  arrays = λ type segments. each (array_judged s) segments;
  inner = λ p token. [];
  call = λ x. judged s extent.Statement x ++ (Alone x ∷ []);
  assign = assignment_judged s;
  condition = required_judged s extent.Statement t.Boolean;
  control = λ x sign token es. control_judged s x sign es;
  inspect = λ token object. value_judged s extent.Statement object ++ (Inspects token object ∷ []);
  inspect_when = λ token object classes. (value_judged s extent.Statement object ++ (InspectsWhen object ∷ [])) ++ each (arm_judged token object) classes;
  arm = λ class. [];
  activate = λ token word process schedule. (Activates token ∷ []) ++ (process_judged s (process_at s token) process ++ schedule_judged s (process_at s token) schedule);
}

-- all that is judged in a program
unfoldable pub all_judged : Tables → Program → List Judgement
all_judged s p = program_events (judgements s) p

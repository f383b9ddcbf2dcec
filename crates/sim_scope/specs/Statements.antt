-- The rules on statements and declarations: what their expressions have to be. Round 3 is the walk over a program with these leaves.
use Rattle.std.specs.Prelude.{ℕ, zero, suc, Bool, false, nat_eq, if◌then◌else◌, List, [], ◌∷◌, ◌++◌, length, Option, Some, None, slice_get}
use Rattle.std.specs.Option.{option_or}
use Rattle.sim_base.specs.declared.numbering.DeclNo.{DeclNo}
use Rattle.sim_base.specs.declared.rule.Rule.{Rule}
use Rattle.sim_base.specs.declared.rule.Rule.TheVariants as r
use Rattle.sim_tree.specs.declared.expr.Identifier.{Identifier}
use Rattle.sim_tree.specs.declared.expr.LeadingSign.{LeadingSign}
use Rattle.sim_tree.specs.declared.stmt.Assignment.{Assignment}
use Rattle.sim_tree.specs.declared.stmt.Constant.{Constant}
use Rattle.sim_tree.specs.declared.stmt.Constant.TheVariants as constant
use Rattle.sim_tree.specs.declared.stmt.TypeName.{TypeName}
use Rattle.sim_tree.specs.declared.stmt.TypeName.TheVariants as type_name
use Rattle.sim_tree.specs.declared.stmt.Variable.{Variable}
use Rattle.sim_tree.specs.Syntax.{Expression, Expressions, Prefix, Schedule, Now, At, Delay, Before, After, RightSide, Element, Once, Step, While, BoundPair, Arrayed, first_of}
use Rattle.sim_scope.specs.declared.outcome.Barred.TheVariants as bar
use Rattle.sim_scope.specs.declared.outcome.Extent.{Extent}
use Rattle.sim_scope.specs.declared.outcome.Extent.TheVariants.{Statement, Bound}
use Rattle.sim_scope.specs.declared.outcome.Actuals.{Actuals}
use Rattle.sim_scope.specs.declared.outcome.Occurrence.{Occurrence}
use Rattle.sim_scope.specs.declared.outcome.Outcome.{Outcome}
use Rattle.sim_scope.specs.declared.outcome.Outcome.TheVariants as is
use Rattle.sim_scope.specs.declared.outcome.Side.{Side}
use Rattle.sim_scope.specs.declared.scopes.Denotation.{Denotation}
use Rattle.sim_scope.specs.declared.scopes.Denotation.TheVariants as denotation
use Rattle.sim_scope.specs.declared.standard.StandardName.{StandardName}
use Rattle.sim_scope.specs.declared.standard.StandardName.TheVariants as standard
use Rattle.sim_scope.specs.declared.types.Entry.{Entry}
use Rattle.sim_scope.specs.declared.types.Entry.TheVariants as entry
use Rattle.sim_scope.specs.declared.types.FormalKind.{FormalKind}
use Rattle.sim_scope.specs.declared.types.FormalKind.TheVariants as kind
use Rattle.sim_scope.specs.declared.types.Mode.{Mode}
use Rattle.sim_scope.specs.declared.types.Mode.TheVariants as mode
use Rattle.sim_scope.specs.declared.types.SimType.{SimType}
use Rattle.sim_scope.specs.declared.types.SimType.TheVariants as t
use Rattle.sim_scope.specs.declared.types.StandardPrefix.{StandardPrefix}
use Rattle.sim_scope.specs.declared.types.StandardPrefix.TheVariants as standard_prefix
use Rattle.sim_scope.specs.Access.{block_at, encloser}
use Rattle.sim_scope.specs.Actuals.{no_actuals}
use Rattle.sim_scope.specs.Assignments.{Nothing, assigned, fine, takes, told, wrong}
use Rattle.sim_scope.specs.Calls.{bound, used_in}
use Rattle.sim_scope.specs.Expressions.{actuals, judge, judge_side}
use Rattle.sim_scope.specs.Found.{Event, Broken, Typed, Uses}
use Rattle.sim_scope.specs.Judged.{Judged, gives, next, telling}
use Rattle.sim_scope.specs.Levels.{class_block, has_classes, level_beyond, owner_of_level, simulation_level_of}
use Rattle.sim_scope.specs.Operators.{is_reference, is_same, misfit_of}
use Rattle.sim_scope.specs.Outcomes.{called}
use Rattle.sim_scope.specs.References.{block_of_class, class_fits, class_named, formal_count}
use Rattle.sim_scope.specs.Runs.{each}
use Rattle.sim_scope.specs.Scopes.{binding, entry_of, found_in}
use Rattle.sim_scope.specs.Tables.{BlockOf, Tables}
use Rattle.sim_scope.specs.Walk.{Visit}

-- S13: an operand of a type
abbrev pub type_needed : SimType → Side → Option SimType → Judged Nothing
type_needed wanted x None = fine
type_needed wanted x (Some a) = if is_same a wanted then fine else wrong x.first.0 r.WrongType

unfoldable pub needs : SimType → Side → Judged Nothing
needs wanted x = type_needed wanted x x.ty

unfoldable pub required : Tables → Extent → SimType → Expression → List Event
required s e wanted x = (next (judge_side s e x) (needs wanted)).events

-- S12: a call stands alone
abbrev pub call_alone : (first : ℕ) → Outcome → Judged Nothing
call_alone first is.Refused = fine
call_alone first is.NoValue = fine
call_alone first (is.Called ty) = fine
call_alone first (is.Barred (bar.Procedure d token)) = fine
call_alone first (is.Barred (bar.Standard name token)) = fine
call_alone first _ = wrong first r.WrongKind

unfoldable pub stands : Tables → (first : ℕ) → Outcome → Judged Nothing
stands s first o = next (called s o) (call_alone first)

unfoldable pub call_events : Tables → Expression → List Event
call_events s x = (next (judge s Statement x) (stands s (first_of x))).events

unfoldable pub assignment_events : Tables → Expression → List RightSide → List Event
assignment_events s left parts = (assigned s left parts).events

-- For statements.
-- S19: the controlled variable is a simple variable and no name parameter. S13: its type goes with the sign.
abbrev pub variable_controlled : Assignment → (token : ℕ) → SimType → Judged (Option SimType)
variable_controlled sign token ty = if takes sign ty then telling (Typed token ty) (Some ty) else telling (Broken token r.WrongType) None

abbrev pub not_simple : (token : ℕ) → Judged (Option SimType)
not_simple token = telling (Broken token r.ControlledVariableNotSimple) None

abbrev pub moded_controlled : Assignment → (token : ℕ) → Mode → SimType → Judged (Option SimType)
moded_controlled sign token mode.ByName ty = not_simple token
moded_controlled sign token m ty = variable_controlled sign token ty

abbrev pub formal_controlled : Assignment → (token : ℕ) → Mode → FormalKind → Option SimType → Judged (Option SimType)
formal_controlled sign token m kind.Simple None = gives None
formal_controlled sign token m kind.Simple (Some ty) = moded_controlled sign token m ty
formal_controlled sign token m k ty = not_simple token

abbrev pub entry_controlled : Assignment → (token : ℕ) → Option Entry → Judged (Option SimType)
entry_controlled sign token (Some (entry.Variable ty)) = variable_controlled sign token ty
entry_controlled sign token (Some (entry.Formal f)) = formal_controlled sign token f.mode f.kind f.ty
entry_controlled sign token (Some (entry.Unspecified written)) = gives None
entry_controlled sign token None = gives None
entry_controlled sign token _ = not_simple token

unfoldable pub simple : Tables → Assignment → (token : ℕ) → Option Denotation → Judged (Option SimType)
simple s sign token None = gives None
simple s sign token (Some (denotation.Standard name)) = not_simple token
simple s sign token (Some (denotation.Declared d)) = entry_controlled sign token (entry_of s d)

unfoldable pub controlled : Tables → Assignment → Identifier → Judged (Option SimType)
controlled s sign x = next (bound s Statement x) (λ o. simple s sign x.token.0 o.denotes)

-- S13, S16: a value of the type of the controlled variable
abbrev pub told_unless : (first : ℕ) → Option Rule → Judged Nothing
told_unless first None = fine
told_unless first (Some rule) = wrong first rule

abbrev pub type_taken : Tables → Option SimType → Side → Option SimType → Judged Nothing
type_taken s (Some a) x (Some b) = told_unless x.first.0 (misfit_of s a b)
type_taken s a x b = fine

unfoldable pub taken_by : Tables → Option SimType → Side → Judged Nothing
taken_by s a x = type_taken s a x x.ty

-- S13: a step element is over an integer variable, from an integer on
abbrev pub integer_from : Option SimType → Side → Option SimType → Judged Nothing
integer_from (Some a) x (Some b) = if is_same a t.Integer then (if is_same b t.Integer then fine else wrong x.first.0 r.WrongType) else wrong x.first.0 r.WrongType
integer_from a x b = fine

unfoldable pub starts : Option SimType → Side → Judged Nothing
starts a x = integer_from a x x.ty

unfoldable pub first_value : Tables → Option SimType → Expression → List Event
first_value s a x = (next (judge_side s Statement x) (taken_by s a)).events

unfoldable pub first_step : Tables → Option SimType → Expression → List Event
first_step s a x = (next (judge_side s Statement x) (starts a)).events

abbrev pub element_events : Tables → Option SimType → Element → List Event
element_events s a (Once value) = first_value s a value
element_events s a (Step start i step limit) = first_step s a start ++ (required s Statement t.Integer step ++ required s Statement t.Integer limit)
element_events s a (While value i condition) = first_value s a value ++ required s Statement t.Boolean condition

unfoldable pub control_events : Tables → Identifier → Assignment → List Element → List Event
control_events s x sign es = (controlled s sign x).events ++ each (element_events s (controlled s sign x).value) es

-- Declarations.
-- The class in the `ref( )` of a declaration is used. That it is one that may stand there was judged before (S7). In specifications and virtual
-- parts it is no use.
abbrev pub class_used : Tables → Identifier → Option Denotation → List Event
class_used s class None = []
class_used s class (Some d) = (used_in class.token.0 (found_in s class.token.0 class.name) d false).events

unfoldable pub class_events : Tables → Identifier → List Event
class_events s class = class_used s class (binding s class.token.0 class.name)

abbrev pub type_events : Tables → TypeName → List Event
type_events s (type_name.Integer i) = []
type_events s (type_name.Boolean i) = []
type_events s (type_name.Character i) = []
type_events s (type_name.Text i) = []
type_events s (type_name.Reference i class) = class_events s class

abbrev pub result_events : Tables → Option TypeName → List Event
result_events s None = []
result_events s (Some type) = type_events s type

-- S13: the value of a constant has the declared type
abbrev pub value_type : TypeName → Option SimType
value_type (type_name.Integer i) = Some t.Integer
value_type (type_name.Boolean i) = Some t.Boolean
value_type (type_name.Character i) = Some t.Character
value_type (type_name.Text i) = Some t.Text
value_type (type_name.Reference i class) = None

abbrev pub constant_type : Constant → SimType
constant_type (constant.Integer sign i n) = t.Integer
constant_type (constant.Character i c) = t.Character
constant_type (constant.Text i bytes) = t.Text
constant_type (constant.True i) = t.Boolean
constant_type (constant.False i) = t.Boolean

abbrev pub signed_token : Option LeadingSign → ℕ → ℕ
signed_token None i = i
signed_token (Some sign) i = sign.token.0

abbrev pub constant_token : Constant → ℕ
constant_token (constant.Integer sign i n) = signed_token sign i.0
constant_token (constant.Character i c) = i.0
constant_token (constant.Text i bytes) = i.0
constant_token (constant.True i) = i.0
constant_token (constant.False i) = i.0

abbrev pub has_type : Option SimType → SimType → Bool
has_type None b = false
has_type (Some a) b = is_same a b

abbrev pub constant_fits : Option SimType → Constant → List Event
constant_fits a c = if has_type a (constant_type c) then [] else Broken (constant_token c) r.WrongType ∷ []

abbrev pub value_fits : Option SimType → Option Constant → List Event
value_fits a None = []
value_fits a (Some c) = constant_fits a c

unfoldable pub variable_events : TypeName → Variable → List Event
variable_events type v = value_fits (value_type type) v.value

-- S13: bounds are integers
abbrev pub pair_events : Tables → BoundPair → List Event
pair_events s b = required s Bound t.Integer b.lower ++ required s Bound t.Integer b.upper

abbrev pub array_events : Tables → Arrayed → List Event
array_events s a = each (pair_events s) a.bounds

-- Prefixes. What the prefix of a block denotes, as the first round found it.
abbrev pub class_denoted : Option DeclNo → Option Denotation
class_denoted None = None
class_denoted (Some d) = Some (denotation.Declared d)

abbrev pub prefix_in : Tables → Option BlockOf → Option Denotation
prefix_in s None = None
prefix_in s (Some row) = (elim row.standard [ None ↦ class_denoted (owner_of_level s row.base) | Some which ↦ Some (denotation.Standard (standard.Prefix which)) ])

abbrev pub prefix_of_block : Tables → Option ℕ → Option Denotation
prefix_of_block s None = None
prefix_of_block s (Some block) = prefix_in s (slice_get s.blocks block)

-- the prefix of the block in which a token stands
unfoldable pub prefix_at : Tables → (token : ℕ) → Option Denotation
prefix_at s token = prefix_of_block s (block_at s token)

abbrev pub prefix_used : (token : ℕ) → Option Denotation → Judged (Option Denotation)
prefix_used token None = gives None
prefix_used token (Some d) = telling (Uses token d) (Some d)

-- S15: there are as many actuals as the levels of the prefix have parameters
abbrev pub prefix_applied : Tables → (token : ℕ) → Denotation → Actuals → Judged Nothing
prefix_applied s token class a = if nat_eq (formal_count s class) a.count then told a.misfit else wrong token r.WrongNumber

unfoldable pub prefixed_with : Tables → (token : ℕ) → Option Denotation → Actuals → Judged Nothing
prefixed_with s token None a = fine
prefixed_with s token (Some class) a = if a.typed then prefix_applied s token class a else fine

-- the prefix of a block, which begins at a token, with its actual parameters
unfoldable pub prefixed_events : Tables → Identifier → Expressions → (begin : ℕ) → List Event
prefixed_events s class arguments begin =
    (next (prefix_used class.token.0 (prefix_at s begin)) (λ d. next (actuals s Statement d no_actuals arguments) (prefixed_with s class.token.0 d))).events

unfoldable pub program_prefix_events : Tables → Option Prefix → (begin : ℕ) → List Event
program_prefix_events s None begin = []
program_prefix_events s (Some p) begin = prefixed_events s p.class p.arguments begin

-- the prefix of a class, whose identifier stands at a token
unfoldable pub class_prefix_events : Tables → Option Identifier → (token : ℕ) → List Event
class_prefix_events s None token = []
class_prefix_events s (Some prefix) token = (prefix_used prefix.token.0 (prefix_at s token)).events

-- Connections. S13: a reference is connected. S17: its class, or that of an arm, has no class at any level; this is judged at `inspect`, and of
-- an arm whatever is inspected.
abbrev pub class_connected : Tables → (token : ℕ) → Option ℕ → Judged Nothing
class_connected s token None = fine
class_connected s token (Some block) = if has_classes s block then wrong token r.ClassWithClasses else fine

abbrev pub type_connected : Tables → (token : ℕ) → Side → Option SimType → Judged Nothing
type_connected s token x None = fine
type_connected s token x (Some (t.Ref class)) = class_connected s token (class_block s class)
type_connected s token x (Some t.NoneType) = fine
type_connected s token x (Some _) = wrong x.first.0 r.WrongType

unfoldable pub connected_by : Tables → (token : ℕ) → Side → Judged Nothing
connected_by s token x = type_connected s token x x.ty

unfoldable pub inspect_events : Tables → (token : ℕ) → Expression → List Event
inspect_events s token object = (next (judge_side s Statement object) (connected_by s token)).events

abbrev pub arm_connected : Tables → (token : ℕ) → Option Denotation → Judged Nothing
arm_connected s token None = fine
arm_connected s token (Some class) = class_connected s token (block_of_class s class)

-- S16: the class of an arm lies on one chain with the object. S21: it is not only for prefixing.
unfoldable pub arm_fits : Tables → (token : ℕ) → Side → Identifier → Occurrence → Judged Nothing
arm_fits s token x name o = next (class_fits s name.token.0 o.denotes x.ty) (λ b. arm_connected s token o.denotes)

abbrev pub reference_needed : Side → Option SimType → Judged Nothing
reference_needed x None = fine
reference_needed x (Some ty) = if is_reference ty then fine else wrong x.first.0 r.WrongType

unfoldable pub needs_reference : Side → Judged Nothing
needs_reference x = reference_needed x x.ty

unfoldable pub arm_events : Tables → (token : ℕ) → Side → Identifier → List Event
arm_events s token x class = (next (class_named s Statement class) (arm_fits s token x class)).events

unfoldable pub inspect_when_events : Tables → (token : ℕ) → Expression → List Identifier → List Event
inspect_when_events s token object classes =
    (next (judge_side s Statement object) needs_reference).events ++ each (arm_events s token (judge_side s Statement object).value) classes

-- Activation. The level of `simulation` of the innermost of so many blocks, from one outward, that has one.
unfoldable pub simulation_of : Tables → ℕ → (block : ℕ) → Option ℕ
simulation_of s zero block = None
simulation_of s (suc more) block =
    option_or (simulation_level_of s (length s.blocks) block) (level_beyond (λ b. simulation_of s more b) (encloser s block))

abbrev pub process_in : Option BlockOf → Option DeclNo
process_in None = None
process_in (Some row) = slice_get row.brought 3

abbrev pub process_of : Tables → Option ℕ → Option DeclNo
process_of s None = None
process_of s (Some level) = process_in (slice_get s.blocks level)

-- the class `process` of the nearest simulation around a token
unfoldable pub process_at : Tables → (token : ℕ) → Option DeclNo
process_at s token = process_of s (level_beyond (λ b. simulation_of s (length s.blocks) b) (block_at s token))

-- S20: there is one
abbrev pub in_simulation : (token : ℕ) → Option DeclNo → List Event
in_simulation token None = Broken token r.ActivationOutsideSimulation ∷ []
in_simulation token (Some process) = []

-- S13, S16: the operand is a reference on one chain with it
abbrev pub type_activated : Tables → Option DeclNo → Side → Option SimType → Judged Nothing
type_activated s (Some process) x (Some ty) = told_unless x.first.0 (misfit_of s (t.Ref process) ty)
type_activated s process x ty = fine

unfoldable pub activates : Tables → Option DeclNo → Side → Judged Nothing
activates s process x = type_activated s process x x.ty

unfoldable pub process_events : Tables → Option DeclNo → Expression → List Event
process_events s process e = (next (judge_side s Statement e) (activates s process)).events

abbrev pub schedule_events : Tables → Option DeclNo → Schedule → List Event
schedule_events s process Now = []
schedule_events s process (At i time prior) = required s Statement t.Integer time
schedule_events s process (Delay i time prior) = required s Statement t.Integer time
schedule_events s process (Before i other) = process_events s process other
schedule_events s process (After i other) = process_events s process other

unfoldable pub activate_events : Tables → (token : ℕ) → Expression → Schedule → List Event
activate_events s token process schedule =
    in_simulation token (process_at s token) ++ (process_events s (process_at s token) process ++ schedule_events s (process_at s token) schedule)

-- What the parts of a program break, use and are.
unfoldable pub judging : Tables → Visit Event
judging s = record {
  program = program_prefix_events s;
  block = λ begin. [];
  prefixed = prefixed_events s;
  procedure = λ result token h. result_events s result;
  class = λ prefix token h i. class_prefix_events s prefix h.name.token.0;
  connected = λ do_token. [];
  arm = λ class. [];
  leave = λ end. [];
  variables = λ type vs. type_events s type ++ each (variable_events type) vs;
  arrays = λ type segments. type_events s type ++ each (array_events s) segments;
  inner = λ p token. [];
  call = call_events s;
  assign = assignment_events s;
  condition = required s Statement t.Boolean;
  control = λ x sign token es. control_events s x sign es;
  inspect = inspect_events s;
  inspect_when = inspect_when_events s;
  activate = λ token word process schedule. activate_events s token process schedule;
}

-- What the statements and declarations of a program tell of a token is told once.
use Rattle.std.proofs.Common.{Bool, List, None, Option, Some, [], arith, false, if◌then◌else◌, refl, true, ℕ, ◌++◌, ◌+◌, ◌<◌, ◌∷◌, ◌≡◌, ◌≤◌}
use Rattle.std.proofs.lemmas.Bool.Decides.{nat_tests}
use Rattle.std.specs.Prelude.{nat_eq}
use Rattle.sim_base.specs.declared.numbering.DeclNo.{DeclNo}
use Rattle.sim_base.specs.declared.rule.Rule.{Rule}
use Rattle.sim_base.specs.declared.rule.Rule.TheVariants as r
use Rattle.sim_scope.specs.declared.outcome.Extent.TheVariants as extent
use Rattle.sim_scope.specs.declared.outcome.Side.{Side}
use Rattle.sim_scope.specs.declared.scopes.Denotation.{Denotation}
use Rattle.sim_scope.specs.declared.scopes.Denotation.TheVariants as denotation
use Rattle.sim_scope.specs.declared.types.Entry.{Entry}
use Rattle.sim_scope.specs.declared.types.Entry.TheVariants as entry
use Rattle.sim_scope.specs.declared.types.FormalKind.{FormalKind}
use Rattle.sim_scope.specs.declared.types.FormalKind.TheVariants as shape
use Rattle.sim_scope.specs.declared.types.Mode.{Mode}
use Rattle.sim_scope.specs.declared.types.Mode.TheVariants as mode
use Rattle.sim_scope.specs.declared.types.Position.{Position}
use Rattle.sim_scope.specs.declared.types.Position.TheVariants.{ClassBody, ClassStatement, Inside}
use Rattle.sim_scope.specs.declared.types.SimType.{SimType}
use Rattle.sim_scope.specs.declared.types.SimType.TheVariants as t
use Rattle.sim_scope.specs.Assignments.{fine, takes, wrong, told as misfit_told}
use Rattle.sim_scope.specs.Calls.{bound, used_in}
use Rattle.sim_scope.specs.Expressions.{judge_side, actuals}
use Rattle.sim_scope.specs.Found.{Broken, Event, Typed, Uses}
use Rattle.sim_scope.specs.Judged.{gives, next, telling}
use Rattle.sim_scope.specs.Operators.{is_reference, is_same, misfit_of}
use Rattle.sim_scope.specs.Runs.{each}
use Rattle.sim_scope.specs.Levels.{class_block, has_classes}
use Rattle.sim_scope.specs.References.{block_of_class, class_fits, class_named, formal_count}
use Rattle.sim_scope.specs.Scopes.{binding, entry_of, found_in}
use Rattle.sim_scope.specs.Statements.{activate_events, activates, arm_connected, arm_events, arm_fits, array_events, class_connected, class_events, class_prefix_events, class_used, connected_by, constant_token, constant_type, control_events, controlled, element_events, entry_controlled, first_step, first_value, formal_controlled, has_type, in_simulation, inspect_events, inspect_when_events, integer_from, judging, moded_controlled, needs_reference, not_simple, pair_events, process_at, process_events, program_prefix_events, reference_needed, required, result_events, schedule_events, simple, starts, taken_by, told_unless, type_activated, type_connected, type_events, type_taken, value_fits, value_type, variable_controlled, variable_events, prefix_at, prefix_used, prefix_applied, prefixed_events, prefixed_with}
use Rattle.sim_scope.specs.Tables.{Tables}
use Rattle.sim_scope.specs.Walk.{begin_of, arm_classes, arms_events, block_events, class_events as class_body_events, declaration_events, declarations_events, program_events, statement_events, statements_events, whole_events}
use Rattle.sim_tree.specs.declared.expr.Identifier.{Identifier}
use Rattle.sim_tree.specs.declared.stmt.Assignment.{Assignment}
use Rattle.sim_tree.specs.declared.stmt.Constant.{Constant}
use Rattle.sim_tree.specs.declared.stmt.TypeName.{TypeName}
use Rattle.sim_tree.specs.declared.stmt.TypeName.TheVariants as type_name
use Rattle.sim_tree.specs.declared.stmt.Variable.{Variable}
use Rattle.sim_tree.specs.Order.{Ascends, Behind, Spot, Token, in_block, in_arms, in_bounds, in_declaration, in_declarations, in_each, in_element, in_expression, in_name, in_result, in_schedule, in_segment, in_statement, in_statements, in_type, in_variable, in_prefix, tokens}
use Rattle.sim_tree.specs.Syntax.{Also, Arms, Arrayed, Arrays, Begin, Block, BoundPair, Declaration, Declarations, DeclareClass, DeclareProcedure, Element, Expression, Heading, NoArm, NoDeclaration, NoStatement, Prefix, Program, Schedule, Statement, Statements, Variables, When, With, Expressions}
use Rattle.sim_tree.specs.Syntax as syntax
use Rattle.sim_allowed.proofs.Counts.{About, Binding, Silent, Typing, binding_then_silent, bound_binds, class_binds, class_fits_silent, here, silent_break, silent_next, silent_none, told, told_both, typing_one, typing_silent, used_in_binds, binding_one}
use Rattle.sim_allowed.proofs.Nowhere.{nowhere}
use Rattle.sim_allowed.proofs.StartOrder.{in_start, in_whole}
use Rattle.sim_allowed.proofs.Told.{any_of}
use Rattle.sim_allowed.proofs.ToldProgram.{Fills, among, assign_fills, call_fills, fills_both, fills_end, fills_more, fills_names, fills_silent, fills_then, required_fills, side_fills, actuals_fill}
use Rattle.sim_tree.specs.Named.{all_named}
use Rattle.sim_scope.specs.Actuals.{no_actuals}
use Rattle.sim_scope.specs.declared.outcome.Actuals.{Actuals}
use Rattle.sim_scope.specs.declared.found.Fault.{Fault}

-- ---- for statements

variable_types : (sign : Assignment) (token : ℕ) (ty : SimType) → Typing token (variable_controlled sign token ty).events
unfolding telling
variable_types sign token ty = go (takes sign ty)
  where
    go : (b : Bool) → Typing token (if b then telling (Typed token ty) (Some ty) else telling (Broken token r.WrongType) None).events
    go true = typing_one token ty
    go false = typing_silent token (Broken token r.WrongType ∷ []) (silent_break token r.WrongType)

not_simple_types : (token : ℕ) → Typing token (not_simple token).events
unfolding telling
not_simple_types token = typing_silent token (Broken token r.ControlledVariableNotSimple ∷ []) (silent_break token r.ControlledVariableNotSimple)

moded_types : (sign : Assignment) (token : ℕ) (m : Mode) (ty : SimType) → Typing token (moded_controlled sign token m ty).events
moded_types sign token mode.ByName ty = not_simple_types token
moded_types sign token mode.ByValue ty = variable_types sign token ty
moded_types sign token mode.ByReference ty = variable_types sign token ty

formal_types : (sign : Assignment) (token : ℕ) (m : Mode) (k : FormalKind) (w : Option SimType) → Typing token (formal_controlled sign token m k w).events
unfolding gives
formal_types sign token m shape.Simple None = typing_silent token [] silent_none
formal_types sign token m shape.Simple (Some ty) = moded_types sign token m ty
formal_types sign token m shape.Array w = not_simple_types token
formal_types sign token m shape.Procedure w = not_simple_types token

entry_types : (sign : Assignment) (token : ℕ) (e : Option Entry) → Typing token (entry_controlled sign token e).events
unfolding gives
entry_types sign token None = typing_silent token [] silent_none
entry_types sign token (Some (entry.Variable ty)) = variable_types sign token ty
entry_types sign token (Some (entry.Formal f)) = formal_types sign token f.mode f.kind f.ty
entry_types sign token (Some (entry.Unspecified w)) = typing_silent token [] silent_none
entry_types sign token (Some (entry.Attribute name parameter result)) = not_simple_types token
entry_types sign token (Some (entry.Constant ty)) = not_simple_types token
entry_types sign token (Some (entry.Array e n)) = not_simple_types token
entry_types sign token (Some (entry.Procedure result b)) = not_simple_types token
entry_types sign token (Some (entry.Class b)) = not_simple_types token
entry_types sign token (Some (entry.Virtual result own)) = not_simple_types token

simple_types : (s : Tables) (sign : Assignment) (token : ℕ) (o : Option Denotation) → Typing token (simple s sign token o).events
unfolding simple gives
simple_types s sign token None = typing_silent token [] silent_none
simple_types s sign token (Some (denotation.Standard name)) = not_simple_types token
simple_types s sign token (Some (denotation.Declared d)) = entry_types sign token (entry_of s d)

binding_and_typing : (i : ℕ) (us ts : List Event) (l : List Spot) → Binding i us → Typing i ts → Fills (us ++ ts) l (Token i ∷ l)
unfolding Fills Binding Typing
binding_and_typing i us ts l h j k t = let a = told_both k t us ts in let b = h k t in let c = j k t in let d = any_of k t i in omega (arith, a, b, c, d)

controlled_fills : (s : Tables) (sign : Assignment) (x : Identifier) (l : List Spot) → Fills (controlled s sign x).events l (in_name x l)
unfolding controlled next
controlled_fills s sign x l =
    let o = (bound s extent.Statement x).value.denotes in
    binding_and_typing x.token.0 (bound s extent.Statement x).events (simple s sign x.token.0 o).events l (bound_binds s extent.Statement x) (simple_types s sign x.token.0 o)

taken_silent : (s : Tables) (a : Option SimType) (x : Side) → Silent (taken_by s a x).events
unfolding taken_by fine wrong telling gives
taken_silent s a x = go a x.ty
  where
    told : (o : Option Rule) → Silent (told_unless x.first.0 o).events
    told None = silent_none
    told (Some rule) = silent_break x.first.0 rule

    go : (a b : Option SimType) → Silent (type_taken s a x b).events
    go None b = silent_none
    go (Some a) None = silent_none
    go (Some a) (Some b) = told (misfit_of s a b)

started_silent : (a : Option SimType) (x : Side) → Silent (starts a x).events
unfolding starts fine wrong telling gives
started_silent a x = go a x.ty
  where
    same : (m n : Bool) → Silent (if m then (if n then fine else wrong x.first.0 r.WrongType) else wrong x.first.0 r.WrongType).events
    same true true = silent_none
    same true false = silent_break x.first.0 r.WrongType
    same false n = silent_break x.first.0 r.WrongType

    go : (a b : Option SimType) → Silent (integer_from a x b).events
    go None b = silent_none
    go (Some a) None = silent_none
    go (Some a) (Some b) = same (is_same a t.Integer) (is_same b t.Integer)

value_fills : (s : Tables) (a : Option SimType) (e : Expression) (l : List Spot) → Fills (first_value s a e) l (in_expression e l)
unfolding first_value next
value_fills s a e l = fills_then (judge_side s extent.Statement e).events (taken_by s a (judge_side s extent.Statement e).value).events l (in_expression e l) (side_fills s extent.Statement e l) (taken_silent s a (judge_side s extent.Statement e).value)

step_fills : (s : Tables) (a : Option SimType) (e : Expression) (l : List Spot) → Fills (first_step s a e) l (in_expression e l)
unfolding first_step next
step_fills s a e l = fills_then (judge_side s extent.Statement e).events (starts a (judge_side s extent.Statement e).value).events l (in_expression e l) (side_fills s extent.Statement e l) (started_silent a (judge_side s extent.Statement e).value)

element_fills : (s : Tables) (a : Option SimType) (e : Element) (l : List Spot) → Fills (element_events s a e) l (in_element e l)
element_fills s a (syntax.Once e) l = value_fills s a e l
element_fills s a (syntax.While e i c) l =
    fills_both (first_value s a e) (required s extent.Statement t.Boolean c) l (in_expression c l) (in_expression e (in_expression c l)) (value_fills s a e (in_expression c l)) (required_fills s extent.Statement t.Boolean c l)
element_fills s a (syntax.Step e i b c) l =
    fills_both (first_step s a e) (required s extent.Statement t.Integer b ++ required s extent.Statement t.Integer c) l (in_expression b (in_expression c l)) (in_expression e (in_expression b (in_expression c l)))
    (step_fills s a e (in_expression b (in_expression c l)))
    (fills_both (required s extent.Statement t.Integer b) (required s extent.Statement t.Integer c) l (in_expression c l) (in_expression b (in_expression c l))
    (required_fills s extent.Statement t.Integer b (in_expression c l)) (required_fills s extent.Statement t.Integer c l))

-- each of a list
each_fills : {A : Type 0} (f : A → List Event) (g : A → List Spot → List Spot) → ((x : A) (l : List Spot) → Fills (f x) l (g x l)) → (xs : List A) (l : List Spot) → Fills (each f xs) l (in_each g xs l)
each_fills f g one [] l = fills_silent [] l silent_none
each_fills f g one (x ∷ xs) l = fills_both (f x) (each f xs) l (in_each g xs l) (g x (in_each g xs l)) (one x (in_each g xs l)) (each_fills f g one xs l)

control_fills : (s : Tables) (x : Identifier) (sign : Assignment) (es : List Element) (l : List Spot) → Fills (control_events s x sign es) l (in_name x (in_each in_element es l))
unfolding control_events
control_fills s x sign es l =
    let a = (controlled s sign x).value in
    fills_both (controlled s sign x).events (each (element_events s a) es) l (in_each in_element es l) (in_name x (in_each in_element es l)) (controlled_fills s sign x (in_each in_element es l)) (each_fills (element_events s a) in_element (element_fills s a) es l)

-- ---- activations

activates_silent : (s : Tables) (process : Option DeclNo) (x : Side) → Silent (activates s process x).events
unfolding activates fine wrong telling gives
activates_silent s process x = go process x.ty
  where
    told : (o : Option Rule) → Silent (told_unless x.first.0 o).events
    told None = silent_none
    told (Some rule) = silent_break x.first.0 rule

    go : (o : Option DeclNo) (w : Option SimType) → Silent (type_activated s o x w).events
    go None w = silent_none
    go (Some d) None = silent_none
    go (Some d) (Some ty) = told (misfit_of s (t.Ref d) ty)

process_fills : (s : Tables) (process : Option DeclNo) (e : Expression) (l : List Spot) → Fills (process_events s process e) l (in_expression e l)
unfolding process_events next
process_fills s process e l = fills_then (judge_side s extent.Statement e).events (activates s process (judge_side s extent.Statement e).value).events l (in_expression e l) (side_fills s extent.Statement e l) (activates_silent s process (judge_side s extent.Statement e).value)

schedule_fills : (s : Tables) (process : Option DeclNo) (x : Schedule) (l : List Spot) → Fills (schedule_events s process x) l (in_schedule x l)
schedule_fills s process syntax.Now l = fills_silent [] l silent_none
schedule_fills s process (syntax.At i e prior) l = required_fills s extent.Statement t.Integer e l
schedule_fills s process (syntax.Delay i e prior) l = required_fills s extent.Statement t.Integer e l
schedule_fills s process (syntax.Before i e) l = process_fills s process e l
schedule_fills s process (syntax.After i e) l = process_fills s process e l

activate_fills : (s : Tables) (i : ℕ) (e : Expression) (schedule : Schedule) (l : List Spot) → Fills (activate_events s i e schedule) l (Token i ∷ in_expression e (in_schedule schedule l))
unfolding activate_events
activate_fills s i e schedule l =
    let o = process_at s i in
    let m = in_schedule schedule l in
    fills_more (in_simulation i o ++ (process_events s o e ++ schedule_events s o schedule)) i l (in_expression e m)
    (fills_both (in_simulation i o) (process_events s o e ++ schedule_events s o schedule) l (in_expression e m) (in_expression e m) (fills_silent (in_simulation i o) (in_expression e m) (outside o))
    (fills_both (process_events s o e) (schedule_events s o schedule) l m (in_expression e m) (process_fills s o e m) (schedule_fills s o schedule l)))
  where
    outside : (o : Option DeclNo) → Silent (in_simulation i o)
    outside None = silent_break i r.ActivationOutsideSimulation
    outside (Some d) = silent_none

-- ---- declarations

constant_silent : (type : TypeName) (v : Variable) → Silent (variable_events type v)
unfolding variable_events
constant_silent type v = go v.value
  where
    fits : (c : Constant) (b : Bool) → Silent (if b then [] else Broken (constant_token c) r.WrongType ∷ [])
    fits c true = silent_none
    fits c false = silent_break (constant_token c) r.WrongType

    go : (o : Option Constant) → Silent (value_fits (value_type type) o)
    go None = silent_none
    go (Some c) = fits c (has_type (value_type type) (constant_type c))

variable_fills : (type : TypeName) (v : Variable) (l : List Spot) → Fills (variable_events type v) l (in_variable v l)
variable_fills type v l = fills_more (variable_events type v) v.name.token.0 l l (fills_silent (variable_events type v) l (constant_silent type v))

variables_fill : (type : TypeName) (vs : List Variable) (l : List Spot) → Fills (each (variable_events type) vs) l (in_each in_variable vs l)
variables_fill type [] l = fills_silent [] l silent_none
variables_fill type (v ∷ vs) l = fills_both (variable_events type v) (each (variable_events type) vs) l (in_each in_variable vs l) (in_variable v (in_each in_variable vs l)) (variable_fills type v (in_each in_variable vs l)) (variables_fill type vs l)

-- a type uses its class
binding_fills : (i : ℕ) (es : List Event) (l : List Spot) → Binding i es → Fills es l (Token i ∷ l)
unfolding Fills Binding
binding_fills i es l h k t = let a = h k t in let d = any_of k t i in omega (arith, a, d)

class_fills_name : (s : Tables) (class : Identifier) (l : List Spot) → Fills (class_events s class) l (in_name class l)
unfolding class_events
class_fills_name s class l = go (binding s class.token.0 class.name) refl
  where
    go : (d : Option Denotation) → binding s class.token.0 class.name ≡ d → Fills (class_used s class d) l (in_name class l)
    go None e = fills_more [] class.token.0 l l (fills_silent [] l silent_none)
    go (Some d) e =
        binding_fills class.token.0 (used_in class.token.0 (found_in s class.token.0 class.name) d false).events l (used_in_binds class.token.0 (found_in s class.token.0 class.name) d false (λ is. nowhere s class.token.0 class.name d e is))

type_fills : (s : Tables) (type : TypeName) (l : List Spot) → Fills (type_events s type) l (in_type type l)
type_fills s (type_name.Integer i) l = fills_silent [] l silent_none
type_fills s (type_name.Boolean i) l = fills_silent [] l silent_none
type_fills s (type_name.Character i) l = fills_silent [] l silent_none
type_fills s (type_name.Text i) l = fills_silent [] l silent_none
type_fills s (type_name.Reference i class) l = class_fills_name s class l

-- a prefix is used
prefix_fills : (s : Tables) (prefix : Option Identifier) (token : ℕ) (l : List Spot) → Fills (class_prefix_events s prefix token) l (in_prefix prefix l)
unfolding class_prefix_events telling gives
prefix_fills s None token l = fills_silent [] l silent_none
prefix_fills s (Some class) token l = go (prefix_at s token)
  where
    go : (o : Option Denotation) → Fills (prefix_used class.token.0 o).events l (in_name class l)
    go None = fills_more [] class.token.0 l l (fills_silent [] l silent_none)
    go (Some d) = binding_fills class.token.0 (Uses class.token.0 d ∷ []) l (binding_one class.token.0 d)

-- and that of a block, with its actual parameters
with_silent : (s : Tables) (token : ℕ) (d : Option Denotation) (a : Actuals) → Silent (prefixed_with s token d a).events
unfolding prefixed_with fine wrong telling gives
with_silent s token None a = silent_none
with_silent s token (Some class) a = typed a.typed
  where
    misfit : (m : Option Fault) → Silent (misfit_told m).events
    misfit None = silent_none
    misfit (Some f) = silent_break f.token.0 f.rule

    counted : (b : Bool) → Silent (if b then misfit_told a.misfit else wrong token r.WrongNumber).events
    counted true = misfit a.misfit
    counted false = silent_break token r.WrongNumber

    typed : (b : Bool) → Silent (if b then prefix_applied s token class a else fine).events
    typed true = counted (nat_eq (formal_count s class) a.count)
    typed false = silent_none

block_prefix_fills : (s : Tables) (class : Identifier) (es : Expressions) (begin : ℕ) (l : List Spot) → Fills (prefixed_events s class es begin) l (in_expression (syntax.Named class es) l)
unfolding prefixed_events next gives telling
block_prefix_fills s class es begin l = go (prefix_at s begin)
  where
    given : (d : Option Denotation) → Fills ((actuals s extent.Statement d no_actuals es).events ++ (prefixed_with s class.token.0 d (actuals s extent.Statement d no_actuals es).value).events) l (tokens (all_named es []) l)
    given d =
        fills_then (actuals s extent.Statement d no_actuals es).events (prefixed_with s class.token.0 d (actuals s extent.Statement d no_actuals es).value).events l (tokens (all_named es []) l) (actuals_fill s extent.Statement d no_actuals es l)
        (with_silent s class.token.0 d (actuals s extent.Statement d no_actuals es).value)

    go : (o : Option Denotation) → Fills (next (prefix_used class.token.0 o) (λ d. next (actuals s extent.Statement d no_actuals es) (prefixed_with s class.token.0 d))).events l (in_expression (syntax.Named class es) l)
    go None = fills_more _ class.token.0 l (tokens (all_named es []) l) (given None)
    go (Some d) =
        fills_both (Uses class.token.0 d ∷ []) _ l (tokens (all_named es []) l) (Token class.token.0 ∷ tokens (all_named es []) l) (binding_fills class.token.0 (Uses class.token.0 d ∷ []) (tokens (all_named es []) l) (binding_one class.token.0 d)) (given (Some d))

result_fills : (s : Tables) (result : Option TypeName) (l : List Spot) → Fills (result_events s result) l (in_result result l)
result_fills s None l = fills_silent [] l silent_none
result_fills s (Some type) l = type_fills s type l

pair_fills : (s : Tables) (b : BoundPair) (l : List Spot) → Fills (pair_events s b) l (in_bounds b l)
pair_fills s b l =
    fills_both (required s extent.Bound t.Integer b.lower) (required s extent.Bound t.Integer b.upper) l (in_expression b.upper l) (in_expression b.lower (in_expression b.upper l))
    (required_fills s extent.Bound t.Integer b.lower (in_expression b.upper l)) (required_fills s extent.Bound t.Integer b.upper l)

segment_fills : (s : Tables) (a : Arrayed) (l : List Spot) → Fills (array_events s a) l (in_segment a l)
segment_fills s a l = fills_names a.names (each (pair_events s) a.bounds) l (in_each in_bounds a.bounds l) (each_fills (pair_events s) in_bounds (pair_fills s) a.bounds l)

-- ---- connections

connected_silent : (s : Tables) (token : ℕ) (o : Option ℕ) → Silent (class_connected s token o).events
unfolding fine wrong telling gives
connected_silent s token None = silent_none
connected_silent s token (Some block) = go (has_classes s block)
  where
    go : (b : Bool) → Silent (if b then wrong token r.ClassWithClasses else fine).events
    go true = silent_break token r.ClassWithClasses
    go false = silent_none

object_silent : (s : Tables) (token : ℕ) (x : Side) → Silent (connected_by s token x).events
unfolding connected_by fine wrong telling gives
object_silent s token x = go x.ty
  where
    go : (a : Option SimType) → Silent (type_connected s token x a).events
    go None = silent_none
    go (Some (t.Ref class)) = connected_silent s token (class_block s class)
    go (Some t.NoneType) = silent_none
    go (Some t.Integer) = silent_break x.first.0 r.WrongType
    go (Some t.Boolean) = silent_break x.first.0 r.WrongType
    go (Some t.Character) = silent_break x.first.0 r.WrongType
    go (Some t.Text) = silent_break x.first.0 r.WrongType

reference_silent : (x : Side) → Silent (needs_reference x).events
unfolding needs_reference fine wrong telling gives
reference_silent x = go x.ty
  where
    same : (b : Bool) → Silent (if b then fine else wrong x.first.0 r.WrongType).events
    same true = silent_none
    same false = silent_break x.first.0 r.WrongType

    go : (a : Option SimType) → Silent (reference_needed x a).events
    go None = silent_none
    go (Some ty) = same (is_reference ty)

arm_silent : (s : Tables) (token : ℕ) (o : Option Denotation) → Silent (arm_connected s token o).events
unfolding fine gives
arm_silent s token None = silent_none
arm_silent s token (Some class) = connected_silent s token (block_of_class s class)

arm_binds : (s : Tables) (token : ℕ) (x : Side) (class : Identifier) → Binding class.token.0 (arm_events s token x class)
unfolding arm_events arm_fits next
arm_binds s token x class =
    let o = (class_named s extent.Statement class).value in
    let fits = class_fits s class.token.0 o.denotes x.ty in
    binding_then_silent class.token.0 (class_named s extent.Statement class).events (fits.events ++ (arm_connected s token o.denotes).events) (class_binds s extent.Statement class)
    (silent_next fits (λ b. arm_connected s token o.denotes) (class_fits_silent s class.token.0 o.denotes x.ty) (arm_silent s token o.denotes))

inspect_fills : (s : Tables) (token : ℕ) (e : Expression) (l : List Spot) → Fills (inspect_events s token e) l (in_expression e l)
unfolding inspect_events next
inspect_fills s token e l = fills_then (judge_side s extent.Statement e).events (connected_by s token (judge_side s extent.Statement e).value).events l (in_expression e l) (side_fills s extent.Statement e l) (object_silent s token (judge_side s extent.Statement e).value)

-- the classes of arms, and then what is in them
beside_arm : (c j : ℕ) (names body first : List Event) (others : List Event) (l m n : List Spot) → Binding c first → Fills body (Behind j ∷ m) n → ((k : About) (t : ℕ) → (told k t names + told k t others) + among t l ≤ among t m)
    → (k : About) (t : ℕ) → (told k t (first ++ names) + told k t ((body ++ []) ++ others)) + among t l ≤ here t c + among t n
unfolding Binding Fills told
beside_arm c j names body first others l m n using fills rest k t =
    let a = told_both k t first names in let b = told_both k t (body ++ []) others in let d = told_both k t body [] in
    let e = using k t in let f = fills k t in let g = rest k t in let p = any_of k t c in omega (arith, a, b, d, e, f, g, p)

-- an object, the classes of arms with what is in them, and the rest
when_fills : (xs names arms rest : List Event) (l m n o : List Spot) → Fills xs n o → ((k : About) (t : ℕ) → (told k t names + told k t arms) + among t m ≤ among t n) → Fills rest l m → Fills ((xs ++ names) ++ (arms ++ rest)) l o
unfolding Fills
when_fills xs names arms rest l m n o f g h k t =
    let a = told_both k t (xs ++ names) (arms ++ rest) in let b = told_both k t xs names in let c = told_both k t arms rest in
    let d = f k t in let e = g k t in let p = h k t in omega (arith, a, b, c, d, e, p)

object_fills : (s : Tables) (i : ℕ) (e : Expression) (classes : List Identifier) (arms rest : List Event) (l m n : List Spot)
    → ((k : About) (t : ℕ) → (told k t (each (arm_events s i (judge_side s extent.Statement e).value) classes) + told k t arms) + among t m ≤ among t n) → Fills rest l m → Fills (inspect_when_events s i e classes ++ (arms ++ rest)) l (in_expression e n)
unfolding inspect_when_events next
object_fills s i e classes arms rest l m n inside last =
    let x = (judge_side s extent.Statement e).value in
    when_fills ((judge_side s extent.Statement e).events ++ (needs_reference x).events) (each (arm_events s i x) classes) arms rest l m n (in_expression e n)
    (fills_then (judge_side s extent.Statement e).events (needs_reference x).events n (in_expression e n) (side_fills s extent.Statement e n) (reference_silent x)) inside last

-- a name with formal parameters, and a body
headed_fills : (h : Heading) (end : ℕ) (es : List Event) (l m : List Spot) → Fills es (Behind end ∷ l) m → Fills (es ++ []) l (Token h.name.token.0 ∷ in_each in_name h.formals m)
headed_fills h end es l m body =
    fills_more (es ++ []) h.name.token.0 l (in_each in_name h.formals m) (fills_names h.formals (es ++ []) l m (fills_end (es ++ []) end l m (fills_then es [] (Behind end ∷ l) m body silent_none)))

-- ---- statements

module _ (s : Tables) where
  mutual
    unfolding judging told class_prefix_events

    statement_fills : (q : Position) (a : Statement) → (l : List Spot) → Fills (statement_events (judging s) q a) l (in_statement a l)
    statement_fills q (syntax.Empty i) l = fills_silent [] l silent_none
    statement_fills ClassBody (syntax.Compound b) l = class_fills b l
    statement_fills ClassStatement (syntax.Compound b) l = block_fills b l
    statement_fills Inside (syntax.Compound b) l = block_fills b l
    statement_fills q (syntax.Inner i) l = fills_more [] i l l (fills_silent [] l silent_none)
    statement_fills q (syntax.Call e) l = call_fills s e l
    statement_fills q (syntax.Assign e parts) l = assign_fills s e parts l
    statement_fills q (syntax.Choose i c a b) l =
        let v = judging s in
        fills_both (required s extent.Statement t.Boolean c) (statement_events v Inside a ++ statements_events v Inside b) l (in_statement a (in_statements b l)) (in_expression c (in_statement a (in_statements b l)))
        (required_fills s extent.Statement t.Boolean c (in_statement a (in_statements b l)))
        (fills_both (statement_events v Inside a) (statements_events v Inside b) l (in_statements b l) (in_statement a (in_statements b l)) (statement_fills Inside a (in_statements b l)) (statements_fill Inside b l))
    statement_fills q (syntax.Repeat i c a) l =
        let v = judging s in
        fills_both (required s extent.Statement t.Boolean c) (statement_events v Inside a) l (in_statement a l) (in_expression c (in_statement a l)) (required_fills s extent.Statement t.Boolean c (in_statement a l)) (statement_fills Inside a l)
    statement_fills q (syntax.For i x sign j es a) l =
        let v = judging s in
        fills_both (control_events s x sign es) (statement_events v Inside a) l (in_statement a l) (in_name x (in_each in_element es (in_statement a l))) (control_fills s x sign es (in_statement a l)) (statement_fills Inside a l)
    statement_fills q (syntax.Inspect i e j a end b) l =
        let v = judging s in
        let u = Behind end ∷ in_statements b l in
        fills_both (inspect_events s i e) (statement_events v Inside a ++ statements_events v Inside b) l (Token j ∷ in_statement a u) (in_expression e (Token j ∷ in_statement a u)) (inspect_fills s i e (Token j ∷ in_statement a u))
        (fills_more (statement_events v Inside a ++ statements_events v Inside b) j l (in_statement a u)
        (fills_both (statement_events v Inside a) (statements_events v Inside b) l (in_statements b l) (in_statement a u) (fills_end (statement_events v Inside a) end (in_statements b l) (in_statement a u) (statement_fills Inside a u)) (statements_fill Inside b l)))
    statement_fills q (syntax.InspectWhen i e whens b) l =
        let v = judging s in
        let m = in_statements b l in
        object_fills s i e (arm_classes whens) (arms_events v whens) (statements_events v Inside b) l m (in_arms whens m) (arms_fill i (judge_side s extent.Statement e).value whens m) (statements_fill Inside b l)
    statement_fills q (syntax.Prefixed class es b) l =
        fills_both (prefixed_events s class es (begin_of b)) (whole_events (judging s) b) l (in_block b l) (in_expression (syntax.Named class es) (in_block b l)) (block_prefix_fills s class es (begin_of b) (in_block b l)) (whole_fills b l)
    statement_fills q (syntax.Activate i word e schedule) l = activate_fills s i e schedule l

    arms_fill : (i : ℕ) (x : Side) (whens : Arms) → (l : List Spot) (k : About) (t : ℕ) → (told k t (each (arm_events s i x) (arm_classes whens)) + told k t (arms_events (judging s) whens)) + among t l ≤ among t (in_arms whens l)
    arms_fill i x NoArm l k t = omega arith
    arms_fill i x (When n class j a end more) l k t =
        let u = in_arms more l in
        beside_arm class.token.0 end (each (arm_events s i x) (arm_classes more)) (statement_events (judging s) Inside a) (arm_events s i x class) (arms_events (judging s) more) l u (Token j ∷ in_statement a (Behind end ∷ u))
        (arm_binds s i x class) (fills_more (statement_events (judging s) Inside a) j (Behind end ∷ u) (in_statement a (Behind end ∷ u)) (statement_fills Inside a (Behind end ∷ u))) (arms_fill i x more l) k t

    statements_fill : (q : Position) (ss : Statements) → (l : List Spot) → Fills (statements_events (judging s) q ss) l (in_statements ss l)
    statements_fill q NoStatement l = fills_silent [] l silent_none
    statements_fill q (Also a more) l =
        let v = judging s in
        fills_both (statement_events v q a) (statements_events v q more) l (in_statements more l) (in_statement a (in_statements more l)) (statement_fills q a (in_statements more l)) (statements_fill q more l)

    whole_fills : (b : Block) → (l : List Spot) → Fills (whole_events (judging s) b) l (in_block b l)
    whole_fills (Begin i ds ss end) l =
        let v = judging s in
        let u = Behind end ∷ l in
        let events = declarations_events v ds ++ (statements_events v Inside ss ++ []) in
        fills_more events i l (in_declarations ds (in_statements ss u))
        (fills_end events end l (in_declarations ds (in_statements ss u))
        (fills_both (declarations_events v ds) (statements_events v Inside ss ++ []) u (in_statements ss u) (in_declarations ds (in_statements ss u)) (declarations_fill ds (in_statements ss u))
        (fills_then (statements_events v Inside ss) [] u (in_statements ss u) (statements_fill Inside ss u) silent_none)))

    block_fills : (b : Block) → (l : List Spot) → Fills (block_events (judging s) b) l (in_block b l)
    block_fills (Begin i NoDeclaration ss end) l =
        let v = judging s in
        fills_more (statements_events v Inside ss) i l (in_statements ss (Behind end ∷ l)) (fills_end (statements_events v Inside ss) end l (in_statements ss (Behind end ∷ l)) (statements_fill Inside ss (Behind end ∷ l)))
    block_fills (Begin i (With d ds) ss end) l =
        let v = judging s in
        let u = Behind end ∷ l in
        fills_more ((declarations_events v (With d ds) ++ statements_events v Inside ss) ++ []) i l (in_declarations (With d ds) (in_statements ss u))
        (fills_end ((declarations_events v (With d ds) ++ statements_events v Inside ss) ++ []) end l (in_declarations (With d ds) (in_statements ss u))
        (fills_then (declarations_events v (With d ds) ++ statements_events v Inside ss) [] u (in_declarations (With d ds) (in_statements ss u))
        (fills_both (declarations_events v (With d ds)) (statements_events v Inside ss) u (in_statements ss u) (in_declarations (With d ds) (in_statements ss u))
        (fills_both (declaration_events v d) (declarations_events v ds) (in_statements ss u) (in_declarations ds (in_statements ss u)) (in_declaration d (in_declarations ds (in_statements ss u))) (declaration_fills d (in_declarations ds (in_statements ss u))) (declarations_fill ds (in_statements ss u)))
        (statements_fill Inside ss u)) silent_none))

    -- the body of a class
    class_fills : (b : Block) → (l : List Spot) → Fills (class_body_events (judging s) b) l (in_block b l)
    class_fills (Begin i ds ss end) l =
        let v = judging s in
        let u = Behind end ∷ l in
        let es = declarations_events v ds ++ statements_events v ClassStatement ss in
        fills_more es i l (in_declarations ds (in_statements ss u))
        (fills_end es end l (in_declarations ds (in_statements ss u))
        (fills_both (declarations_events v ds) (statements_events v ClassStatement ss) u (in_statements ss u) (in_declarations ds (in_statements ss u)) (declarations_fill ds (in_statements ss u)) (statements_fill ClassStatement ss u)))

    declarations_fill : (ds : Declarations) → (l : List Spot) → Fills (declarations_events (judging s) ds) l (in_declarations ds l)
    declarations_fill NoDeclaration l = fills_silent [] l silent_none
    declarations_fill (With d ds) l =
        let v = judging s in
        fills_both (declaration_events v d) (declarations_events v ds) l (in_declarations ds l) (in_declaration d (in_declarations ds l)) (declaration_fills d (in_declarations ds l)) (declarations_fill ds l)

    declaration_fills : (d : Declaration) → (l : List Spot) → Fills (declaration_events (judging s) d) l (in_declaration d l)
    declaration_fills (Variables type vs) l =
        let u = in_each in_variable vs l in
        fills_both (type_events s type) (each (variable_events type) vs) l u (in_type type u) (type_fills s type u) (variables_fill type vs l)
    declaration_fills (Arrays type i segments) l =
        let u = in_each in_segment segments l in
        fills_both (type_events s type) (each (array_events s) segments) l u (in_type type u) (type_fills s type u) (each_fills (array_events s) in_segment (segment_fills s) segments l)
    declaration_fills (DeclareProcedure result i h a end) l =
        let v = judging s in
        let u = Behind end ∷ l in
        let m = in_each in_name h.formals (in_statement a u) in
        fills_both (result_events s result) (statement_events v Inside a ++ []) l (Token h.name.token.0 ∷ m) (in_result result (Token h.name.token.0 ∷ m)) (result_fills s result (Token h.name.token.0 ∷ m)) (headed_fills h end (statement_events v Inside a) l (in_statement a u) (statement_fills Inside a u))
    declaration_fills (DeclareClass prefix i h interface a end) l =
        let v = judging s in
        let u = Behind end ∷ l in
        let m = in_each in_name h.formals (in_statement a u) in
        fills_both (class_prefix_events s prefix h.name.token.0) (statement_events v ClassBody a ++ []) l (Token h.name.token.0 ∷ m) (in_prefix prefix (Token h.name.token.0 ∷ m)) (prefix_fills s prefix h.name.token.0 (Token h.name.token.0 ∷ m)) (headed_fills h end (statement_events v ClassBody a) l (in_statement a u) (statement_fills ClassBody a u))

  start_fills : (o : Option Prefix) (b : Block) → Fills (program_prefix_events s o (begin_of b) ++ whole_events (judging s) b) [] (in_start o (in_block b []))
  unfolding program_prefix_events
  start_fills None b = whole_fills b []
  start_fills (Some x) b =
      fills_both (prefixed_events s x.class x.arguments (begin_of b)) (whole_events (judging s) b) [] (in_block b []) (in_expression (syntax.Named x.class x.arguments) (in_block b [])) (block_prefix_fills s x.class x.arguments (begin_of b) (in_block b [])) (whole_fills b [])

  pub program_fills : (p : Program) → Fills (program_events (judging s) p) [] (in_whole p)
  unfolding judging program_events
  program_fills p = start_fills p.prefix p.block

-- ---- each token stands once

few : (i t : ℕ) (l : List Spot) → Ascends i l → (among t l ≤ 1) × (t < i → among t l ≡ 0)
few i t [] a = (omega arith, λ h. refl)
few i t (Token x ∷ l) a = go (few (x + 1) t l a.1) (nat_eq t x) refl
  where
    go : (among t l ≤ 1) × (t < x + 1 → among t l ≡ 0) → (b : Bool) → nat_eq t x ≡ b → ((if b then 1 else 0) + among t l ≤ 1) × (t < i → (if b then 1 else 0) + among t l ≡ 0)
    go rest true e =
        let same : t ≡ x = grind (arith, nat_tests, e) in
        let none = rest.1 (omega (arith, same)) in
        let low = a.0 in (omega (arith, none), λ h. absurd (omega (arith, h, same, low)))
    go rest false e =
        let low = a.0 in let one = rest.0 in
        (omega (arith, one), λ h. (let none = rest.1 (omega (arith, h, low)) in omega (arith, none)))
few i t (Behind x ∷ l) a = let rest = few x t l a.1 in let low = a.0 in (rest.0, λ h. rest.1 (omega (arith, low, h)))

pub told_once : (s : Tables) (p : Program) → Ascends 0 (in_whole p) → (k : About) (t : ℕ) → told k t (program_events (judging s) p) ≤ 1
unfolding Fills
told_once s p order k t = let a = program_fills s p k t in let b = few 0 t (in_whole p) order in let c = b.0 in omega (arith, a, c)

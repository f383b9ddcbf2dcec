-- The last round, construct by construct.
use Rattle.std.proofs.Common.{◌≡◌, ◌<◌, ℕ, Bool, List, [], ◌∷◌, ◌++◌, Option, Some, None, refl, sym, ap, ◌∙◌, map, length}
use Rattle.std.specs.Prelude.{false, option_map}
use Rattle.std.specs.declared.alloc.Global.{Global}
use Rattle.std.specs.declared.boxed.Box.{Box}
use Rattle.std.specs.declared.vec.Vec.{Vec}
use Rattle.sim_base.specs.declared.numbering.DeclNo.{DeclNo}
use Rattle.sim_base.specs.declared.numbering.TokenNo.{TokenNo}
use Rattle.sim_tree.specs.declared.expr.Expr.{Expr}
use Rattle.sim_tree.specs.declared.expr.Identifier.{Identifier}
use Rattle.sim_tree.specs.declared.program.BlockPrefix.{BlockPrefix}
use Rattle.sim_tree.specs.declared.stmt.Activation.{Activation}
use Rattle.sim_tree.specs.declared.stmt.ArraySegment.{ArraySegment}
use Rattle.sim_tree.specs.declared.stmt.Assigned.{Assigned}
use Rattle.sim_tree.specs.declared.stmt.Assignment.{Assignment}
use Rattle.sim_tree.specs.declared.stmt.Assignment.TheVariants as assignment
use Rattle.sim_tree.specs.declared.stmt.Block.{Block}
use Rattle.sim_tree.specs.declared.stmt.Bounds.{Bounds}
use Rattle.sim_tree.specs.declared.stmt.Class.{Class}
use Rattle.sim_tree.specs.declared.stmt.Decl.{Decl}
use Rattle.sim_tree.specs.declared.stmt.Decl.TheVariants as d
use Rattle.sim_tree.specs.declared.stmt.ForElement.{ForElement}
use Rattle.sim_tree.specs.declared.stmt.ForElement.TheVariants as for_element
use Rattle.sim_tree.specs.declared.stmt.Procedure.{Procedure}
use Rattle.sim_tree.specs.declared.stmt.ReferenceElement.{ReferenceElement}
use Rattle.sim_tree.specs.declared.stmt.ReferenceElement.TheVariants as reference_element
use Rattle.sim_tree.specs.declared.stmt.Stmt.{Stmt}
use Rattle.sim_tree.specs.declared.stmt.Stmt.TheVariants as s
use Rattle.sim_tree.specs.declared.stmt.Timing.{Timing}
use Rattle.sim_tree.specs.declared.stmt.Timing.TheVariants as timing
use Rattle.sim_tree.specs.declared.stmt.TypeName.{TypeName}
use Rattle.sim_tree.specs.declared.stmt.Variable.{Variable}
use Rattle.sim_tree.specs.declared.stmt.When.{When}
use Rattle.sim_tree.specs.Syntax.{Element, expressions}
use Rattle.sim_tree.specs.SyntaxOf.{FirstIs, syntax_of}
use Rattle.sim_tree.specs.SyntaxOfProgram.{Arm, arm_syntax, arms, bound_pair_syntax, element_syntax, prefix_syntax, reference_element_syntax, right_side_syntax, schedule_syntax, segment_syntax, timing_syntax}
use Rattle.sim_tree.proofs.ProgramSyntaxLemmas.{syntax-when}
use Rattle.sim_scope.specs.declared.outcome.Actuals.{Actuals}
use Rattle.sim_scope.specs.declared.outcome.Extent.{Extent}
use Rattle.sim_scope.specs.declared.outcome.Extent.TheVariants as extent
use Rattle.sim_scope.specs.declared.outcome.Occurrence.{Occurrence}
use Rattle.sim_scope.specs.declared.outcome.Outcome.{Outcome}
use Rattle.sim_scope.specs.declared.outcome.Side.{Side}
use Rattle.sim_scope.specs.declared.scopes.Denotation.{Denotation}
use Rattle.sim_scope.specs.declared.types.Position.{Position}
use Rattle.sim_scope.specs.declared.types.Position.TheVariants.{ClassBody, Inside}
use Rattle.sim_scope.specs.declared.types.SimType.{SimType}
use Rattle.sim_scope.specs.declared.types.SimType.TheVariants as type
use Rattle.sim_scope.specs.Assignments.{Nothing}
use Rattle.sim_scope.specs.Calls.{bound, used_in}
use Rattle.sim_scope.specs.Actuals.{no_actuals}
use Rattle.sim_scope.specs.ExpressionWalk.{Finds, FindsActuals, FindsSide}
use Rattle.sim_scope.specs.Expressions.{actuals, judge, judge_side}
use Rattle.sim_scope.specs.Found.{Findings, found}
use Rattle.sim_scope.specs.Judged.{Judged, Judges, next}
use Rattle.sim_scope.specs.Outcomes.{called}
use Rattle.sim_scope.specs.References.{class_fits, class_named}
use Rattle.sim_scope.specs.Runs.{Runs, each}
use Rattle.sim_scope.specs.Statements.{activate_events, activates, arm_connected, arm_events, arm_fits, array_events, assignment_events, call_alone, class_events, class_prefix_events, class_used, connected_by, call_events, control_events, controlled, element_events, first_step, first_value, in_simulation, inspect_events, inspect_when_events, judging, needs, needs_reference, pair_events, prefix_at, prefix_used, prefixed_events, prefixed_with, process_at, process_events, program_prefix_events, required, result_events, schedule_events, simple, stands, starts, taken_by, type_events, variable_events}
use Rattle.sim_scope.specs.Scopes.{binding, found_in}
use Rattle.sim_scope.specs.Tables.{Tables}
use Rattle.sim_scope.specs.Walk.{arm_classes, of_statement, of_branch, of_arm, of_block, of_whole, of_declaration}
use Rattle.sim_scope.proofs.Walks.{runs_both, runs_as, runs_none, leads_all, leads_next, leads_end, run_empty, run_block, run_block_of_class, run_body_of_class, run_prefixed, run_inner, run_call, run_assignment, run_if, run_while, run_for, run_for_reference, run_inspect, run_inspect_when, run_activation, run_some, run_no_branch, run_arm, run_compound, run_whole_block, run_whole, run_class_body, run_variables, run_arrays, run_procedure, run_class}
use Rattle.sim_static.specs.StatementWalk.{of_activation, of_arm_class, of_class_prefix, of_inspect, of_inspect_when, of_prefix, of_process, of_program_prefix, of_timing, of_assignment, of_call, of_element, of_first_step, of_first_value, of_pair, of_reference_element, of_required, of_segment}
use Rattle.sim_types.proofs.Steps.{judges_as, judges_next}

pub ruleset loops = (leads_all, leads_next, leads_end)

-- What is judged for its events.
runs_judged : {A : Type 0} (f g : Findings) (x : A) (j : Judged A) → Judges f g x j → Runs found f g j.events
unfolding Runs
runs_judged f g x j h = h.finds

pub stands_in_steps : (t : Tables) (i : TokenNo) (f g h : Findings) (o u : Outcome) (n : Nothing) → Judges f g u (called t o) → Judges g h n (call_alone i.0 u) → Judges f h n (stands t i.0 o)
unfolding stands
stands_in_steps t i f g h o u n one two = judges_next (called t o) (call_alone i.0) one two

pub controlled_in_steps : (t : Tables) (sign : Assignment) (x : Identifier) (f g h : Findings) (o : Occurrence) (a : Option SimType) → Judges f g o (bound t extent.Statement x) → Judges g h a (simple t sign x.token.0 o.denotes) → Judges f h a (controlled t sign x)
unfolding controlled
controlled_in_steps t sign x f g h o a one two = judges_next (bound t extent.Statement x) (λ o. simple t sign x.token.0 o.denotes) one two

pub tell_required : (t : Tables) (m : Extent) (f g h : Findings) (w : SimType) (e : Expr) (x : Side) (n : Nothing) → FindsSide t m f g x e → Judges g h n (needs w x) → Runs found f h (of_required t m w e)
unfolding FindsSide of_required required
tell_required t m f g h w e x n one two = runs_judged f h n _ (judges_next (judge_side t m (syntax_of e)) (needs w) one two)

pub tell_call : (t : Tables) (f g h : Findings) (e : Expr) (o : Outcome) (i : TokenNo) (n : Nothing) → Finds t extent.Statement f g o e → FirstIs i e → Judges g h n (stands t i.0 o) → Runs found f h (of_call t e)
unfolding Finds FirstIs of_call call_events
tell_call t f g h e o i n one first two =
    runs_judged f h n _ (judges_as (judges_next (judge t extent.Statement (syntax_of e)) (stands t i.0) one two) (ap (λ z. next (judge t extent.Statement (syntax_of e)) (stands t z)) first))

-- For statements.
pub tell_first_value : (t : Tables) (f g h : Findings) (a : Option SimType) (e : Expr) (x : Side) (n : Nothing) → FindsSide t extent.Statement f g x e → Judges g h n (taken_by t a x) → Runs found f h (of_first_value t a e)
unfolding FindsSide of_first_value first_value
tell_first_value t f g h a e x n one two = runs_judged f h n _ (judges_next (judge_side t extent.Statement (syntax_of e)) (taken_by t a) one two)

pub tell_first_step : (t : Tables) (f g h : Findings) (a : Option SimType) (e : Expr) (x : Side) (n : Nothing) → FindsSide t extent.Statement f g x e → Judges g h n (starts a x) → Runs found f h (of_first_step t a e)
unfolding FindsSide of_first_step first_step
tell_first_step t f g h a e x n one two = runs_judged f h n _ (judges_next (judge_side t extent.Statement (syntax_of e)) (starts a) one two)

pub tell_once : (t : Tables) (f g : Findings) (a : Option SimType) (x : ForElement) (e : Expr) → x ≡ for_element.Value e → Runs found f g (of_first_value t a e) → Runs found f g (of_element t a x)
unfolding of_element of_first_value
tell_once t f g a x e is h = runs_as found f g _ _ (ap (λ z. element_events t a (element_syntax z)) (sym is)) h

pub tell_step : (t : Tables) (f g h k : Findings) (a : Option SimType) (x : ForElement) (e y z : Expr) (i : TokenNo) → x ≡ for_element.Step e i y z → Runs found f g (of_first_step t a e)
    → Runs found g h (of_required t extent.Statement type.Integer y) → Runs found h k (of_required t extent.Statement type.Integer z) → Runs found f k (of_element t a x)
unfolding of_element of_first_step of_required
tell_step t f g h k a x e y z i is one two three =
    runs_as found f k _ _ (ap (λ w. element_events t a (element_syntax w)) (sym is)) (runs_both found f g k _ _ one (runs_both found g h k _ _ two three))

pub tell_while_element : (t : Tables) (f g h : Findings) (a : Option SimType) (x : ForElement) (e y : Expr) (i : TokenNo) → x ≡ for_element.While e i y → Runs found f g (of_first_value t a e)
    → Runs found g h (of_required t extent.Statement type.Boolean y) → Runs found f h (of_element t a x)
unfolding of_element of_first_value of_required
tell_while_element t f g h a x e y i is one two =
    runs_as found f h _ _ (ap (λ w. element_events t a (element_syntax w)) (sym is)) (runs_both found f g h _ _ one two)

pub tell_reference_once : (t : Tables) (f g : Findings) (a : Option SimType) (x : ReferenceElement) (e : Expr) → x ≡ reference_element.Value e → Runs found f g (of_first_value t a e) → Runs found f g (of_reference_element t a x)
unfolding of_reference_element of_first_value
tell_reference_once t f g a x e is h = runs_as found f g _ _ (ap (λ z. element_events t a (reference_element_syntax z)) (sym is)) h

pub tell_reference_while : (t : Tables) (f g h : Findings) (a : Option SimType) (x : ReferenceElement) (e y : Expr) (i : TokenNo) → x ≡ reference_element.While e i y → Runs found f g (of_first_value t a e)
    → Runs found g h (of_required t extent.Statement type.Boolean y) → Runs found f h (of_reference_element t a x)
unfolding of_reference_element of_first_value of_required
tell_reference_while t f g h a x e y i is one two =
    runs_as found f h _ _ (ap (λ w. element_events t a (reference_element_syntax w)) (sym is)) (runs_both found f g h _ _ one two)

pub ruleset elements = (tell_once, tell_step, tell_while_element, tell_reference_once, tell_reference_while)

each-elements : (t : Tables) (a : Option SimType) (l : List ForElement) → each (of_element t a) l ≡ each (element_events t a) (map element_syntax l)
unfolding of_element
each-elements t a [] = refl
each-elements t a (x ∷ xs) = ap (λ z. element_events t a (element_syntax x) ++ z) (each-elements t a xs)

each-reference-elements : (t : Tables) (a : Option SimType) (l : List ReferenceElement) → each (of_reference_element t a) l ≡ each (element_events t a) (map reference_element_syntax l)
unfolding of_reference_element
each-reference-elements t a [] = refl
each-reference-elements t a (x ∷ xs) = ap (λ z. element_events t a (reference_element_syntax x) ++ z) (each-reference-elements t a xs)

controls : (t : Tables) (f g h : Findings) (sign : Assignment) (x : Identifier) (a : Option SimType) (es : List Element) → Judges f g a (controlled t sign x) → Runs found g h (each (element_events t a) es) → Runs found f h (control_events t x sign es)
unfolding control_events
controls t f g h sign x a es one two =
    runs_both found f g h _ _ (runs_judged f g a _ one) (runs_as found g h _ _ (ap (λ z. each (element_events t z) es) one.is) two)

pub tell_control : (t : Tables) (f g h : Findings) (x : Identifier) (a : Option SimType) (l : List ForElement) → Judges f g a (controlled t assignment.Value x) → Runs found g h (each (of_element t a) l)
    → Runs found f h (control_events t x assignment.Value (map element_syntax l))
tell_control t f g h x a l one two = controls t f g h assignment.Value x a (map element_syntax l) one (runs_as found g h _ _ (each-elements t a l) two)

pub tell_reference_control : (t : Tables) (f g h : Findings) (x : Identifier) (a : Option SimType) (l : List ReferenceElement) → Judges f g a (controlled t assignment.Reference x) → Runs found g h (each (of_reference_element t a) l)
    → Runs found f h (control_events t x assignment.Reference (map reference_element_syntax l))
tell_reference_control t f g h x a l one two = controls t f g h assignment.Reference x a (map reference_element_syntax l) one (runs_as found g h _ _ (each-reference-elements t a l) two)

-- Bounds.
pub tell_pair : (t : Tables) (f g h : Findings) (b : Bounds) → Runs found f g (of_required t extent.Bound type.Integer b.lower) → Runs found g h (of_required t extent.Bound type.Integer b.upper) → Runs found f h (of_pair t b)
unfolding of_pair of_required
tell_pair t f g h b one two = runs_both found f g h _ _ one two

each-pairs : (t : Tables) (l : List Bounds) → each (of_pair t) l ≡ each (pair_events t) (map bound_pair_syntax l)
unfolding of_pair
each-pairs t [] = refl
each-pairs t (x ∷ xs) = ap (λ z. pair_events t (bound_pair_syntax x) ++ z) (each-pairs t xs)

pub tell_segment : (t : Tables) (f g : Findings) (a : ArraySegment) (l : List Bounds) → l ≡ a.bounds.items → Runs found f g (each (of_pair t) l) → Runs found f g (of_segment t a)
unfolding of_segment
tell_segment t f g a l same h = runs_as found f g _ _ (each-pairs t l ∙ ap (λ z. each (pair_events t) (map bound_pair_syntax z)) same) h

each-segments : (t : Tables) (l : List ArraySegment) → each (of_segment t) l ≡ each (array_events t) (map segment_syntax l)
unfolding of_segment
each-segments t [] = refl
each-segments t (x ∷ xs) = ap (λ z. array_events t (segment_syntax x) ++ z) (each-segments t xs)

-- Prefixes.
pub tell_prefix : (t : Tables) (f g h k : Findings) (p : BlockPrefix) (i : TokenNo) (d : Option Denotation) (l : List Expr) (a : Actuals) (n : Nothing) → Judges f g d (prefix_used p.class.token.0 (prefix_at t i.0)) → l ≡ p.arguments.items
    → FindsActuals t extent.Statement g h d no_actuals a l → Judges h k n (prefixed_with t p.class.token.0 d a) → Runs found f k (of_prefix t p i.0)
unfolding FindsActuals of_prefix prefixed_events
tell_prefix t f g h k p i d l a n one same two three =
    let K = λ (xs : List Expr) (d : Option Denotation). next (actuals t extent.Statement d no_actuals (expressions (map syntax_of xs))) (prefixed_with t p.class.token.0 d) in
    runs_judged f k n _ (judges_next (prefix_used p.class.token.0 (prefix_at t i.0)) (K p.arguments.items) one
    (judges_as (judges_next (actuals t extent.Statement d no_actuals (expressions (map syntax_of l))) (prefixed_with t p.class.token.0 d) two three) (ap (λ xs. K xs d) same)))

pub tell_program_prefix : (t : Tables) (f g : Findings) (o : Option BlockPrefix) (p : BlockPrefix) (i : TokenNo) → o ≡ Some p → Runs found f g (of_prefix t p i.0) → Runs found f g (of_program_prefix t o i.0)
unfolding of_prefix of_program_prefix program_prefix_events
tell_program_prefix t f g o p i is h = runs_as found f g _ _ (ap (λ z. program_prefix_events t (option_map prefix_syntax z) i.0) (sym is)) h

pub tell_no_program_prefix : (t : Tables) (f : Findings) (o : Option BlockPrefix) (i : TokenNo) → o ≡ None → Runs found f f (of_program_prefix t o i.0)
unfolding of_program_prefix program_prefix_events
tell_no_program_prefix t f o i is = runs_as found f f [] _ (ap (λ z. program_prefix_events t (option_map prefix_syntax z) i.0) (sym is)) (runs_none found f)

pub ruleset program_prefixes = (tell_program_prefix, tell_no_program_prefix)

pub tell_class_prefix : (t : Tables) (f g : Findings) (o : Option Identifier) (x : Identifier) (i : TokenNo) (d : Option Denotation) → o ≡ Some x → Judges f g d (prefix_used x.token.0 (prefix_at t i.0)) → Runs found f g (of_class_prefix t o i.0)
unfolding of_class_prefix class_prefix_events
tell_class_prefix t f g o x i d is h = runs_as found f g _ _ (ap (λ z. class_prefix_events t z i.0) (sym is)) (runs_judged f g d _ h)

pub tell_no_class_prefix : (t : Tables) (f : Findings) (o : Option Identifier) (i : TokenNo) → o ≡ None → Runs found f f (of_class_prefix t o i.0)
unfolding of_class_prefix class_prefix_events
tell_no_class_prefix t f o i is = runs_as found f f [] _ (ap (λ z. class_prefix_events t z i.0) (sym is)) (runs_none found f)

pub ruleset class_prefixes = (tell_class_prefix, tell_no_class_prefix)

-- Connections.
pub tell_object : (t : Tables) (f g h : Findings) (i : TokenNo) (e : Expr) (x : Side) (n : Nothing) → FindsSide t extent.Statement f g x e → Judges g h n (connected_by t i.0 x) → Runs found f h (of_inspect t i.0 e)
unfolding FindsSide of_inspect inspect_events
tell_object t f g h i e x n one two = runs_judged f h n _ (judges_next (judge_side t extent.Statement (syntax_of e)) (connected_by t i.0) one two)

pub arm_in_steps : (t : Tables) (f g h : Findings) (i : TokenNo) (x : Side) (c : Identifier) (o : Occurrence) (b : Bool) (n : Nothing) → Judges f g b (class_fits t c.token.0 o.denotes x.ty) → Judges g h n (arm_connected t i.0 o.denotes)
    → Judges f h n (arm_fits t i.0 x c o)
unfolding arm_fits
arm_in_steps t f g h i x c o b n one two = judges_next (class_fits t c.token.0 o.denotes x.ty) (λ b. arm_connected t i.0 o.denotes) one two

pub tell_arm_class : (t : Tables) (f g h : Findings) (i : TokenNo) (x : Side) (w : When) (d : Occurrence) (n : Nothing) → Judges f g d (class_named t extent.Statement w.class) → Judges g h n (arm_fits t i.0 x w.class d)
    → Runs found f h (of_arm_class t i.0 x w)
unfolding of_arm_class arm_events
tell_arm_class t f g h i x w d n one two = runs_judged f h n _ (judges_next (class_named t extent.Statement w.class) (arm_fits t i.0 x w.class) one two)

each-arm-classes : (t : Tables) (i : ℕ) (x : Side) (l : List When) → each (of_arm_class t i x) l ≡ each (arm_events t i x) (arm_classes (arms (map arm_syntax l)))
unfolding of_arm_class
each-arm-classes t i x [] = refl
each-arm-classes t i x (w ∷ ws) =
    ap (λ z. arm_events t i x w.class ++ z) (each-arm-classes t i x ws)
    ∙ ap (λ (a : Arm). arm_events t i x a.class ++ each (arm_events t i x) (arm_classes (arms (map arm_syntax ws)))) (sym (syntax-when w.token w.class w.opening w.body w.end))

pub tell_classes : (t : Tables) (f g h k : Findings) (i : TokenNo) (e : Expr) (x : Side) (n : Nothing) (l : List When) → FindsSide t extent.Statement f g x e → Judges g h n (needs_reference x) → Runs found h k (each (of_arm_class t i.0 x) l)
    → Runs found f k (of_inspect_when t i.0 e l)
unfolding FindsSide of_inspect_when inspect_when_events
tell_classes t f g h k i e x n l one two three =
    runs_both found f h k _ _ (runs_judged f h n _ (judges_next (judge_side t extent.Statement (syntax_of e)) needs_reference one two))
    (runs_as found h k _ _ (each-arm-classes t i.0 x l ∙ ap (λ z. each (arm_events t i.0 z) (arm_classes (arms (map arm_syntax l)))) one.is) three)

-- Activations.
pub tell_process : (t : Tables) (f g h : Findings) (d : Option DeclNo) (e : Expr) (x : Side) (n : Nothing) → FindsSide t extent.Statement f g x e → Judges g h n (activates t d x) → Runs found f h (of_process t d e)
unfolding FindsSide of_process process_events
tell_process t f g h d e x n one two = runs_judged f h n _ (judges_next (judge_side t extent.Statement (syntax_of e)) (activates t d) one two)

pub tell_at : (t : Tables) (f g : Findings) (d : Option DeclNo) (o : Option Timing) (z : Timing) (i : TokenNo) (e : Expr) (p : Option TokenNo) → o ≡ Some z → z ≡ timing.At i e p → Runs found f g (of_required t extent.Statement type.Integer e) → Runs found f g (of_timing t d o)
unfolding of_timing of_required
tell_at t f g d o z i e p is what h = runs_as found f g _ _ (ap (λ w. schedule_events t d (timing_syntax w)) (sym what) ∙ ap (λ w. schedule_events t d (schedule_syntax w)) (sym is)) h

pub tell_delay : (t : Tables) (f g : Findings) (d : Option DeclNo) (o : Option Timing) (z : Timing) (i : TokenNo) (e : Expr) (p : Option TokenNo) → o ≡ Some z → z ≡ timing.Delay i e p → Runs found f g (of_required t extent.Statement type.Integer e) → Runs found f g (of_timing t d o)
unfolding of_timing of_required
tell_delay t f g d o z i e p is what h = runs_as found f g _ _ (ap (λ w. schedule_events t d (timing_syntax w)) (sym what) ∙ ap (λ w. schedule_events t d (schedule_syntax w)) (sym is)) h

pub tell_before : (t : Tables) (f g : Findings) (d : Option DeclNo) (o : Option Timing) (z : Timing) (i : TokenNo) (e : Expr) → o ≡ Some z → z ≡ timing.Before i e → Runs found f g (of_process t d e) → Runs found f g (of_timing t d o)
unfolding of_timing of_process
tell_before t f g d o z i e is what h = runs_as found f g _ _ (ap (λ w. schedule_events t d (timing_syntax w)) (sym what) ∙ ap (λ w. schedule_events t d (schedule_syntax w)) (sym is)) h

pub tell_after : (t : Tables) (f g : Findings) (d : Option DeclNo) (o : Option Timing) (z : Timing) (i : TokenNo) (e : Expr) → o ≡ Some z → z ≡ timing.After i e → Runs found f g (of_process t d e) → Runs found f g (of_timing t d o)
unfolding of_timing of_process
tell_after t f g d o z i e is what h = runs_as found f g _ _ (ap (λ w. schedule_events t d (timing_syntax w)) (sym what) ∙ ap (λ w. schedule_events t d (schedule_syntax w)) (sym is)) h

pub tell_now : (t : Tables) (f : Findings) (d : Option DeclNo) (o : Option Timing) → o ≡ None → Runs found f f (of_timing t d o)
unfolding of_timing
tell_now t f d o is = runs_as found f f [] _ (ap (λ w. schedule_events t d (schedule_syntax w)) (sym is)) (runs_none found f)

pub ruleset timings = (tell_at, tell_delay, tell_before, tell_after, tell_now)

pub tell_activated : (t : Tables) (f g h k : Findings) (i : TokenNo) (e : Expr) (z : Option Timing) (d : Option DeclNo) → d ≡ process_at t i.0 → Runs found f g (in_simulation i.0 d) → Runs found g h (of_process t d e) → Runs found h k (of_timing t d z)
    → Runs found f k (of_activation t i.0 e z)
unfolding of_process of_timing of_activation activate_events
tell_activated t f g h k i e z d is one two three =
    runs_as found f k _ _ (ap (λ d. in_simulation i.0 d ++ (process_events t d (syntax_of e) ++ schedule_events t d (schedule_syntax z))) is)
    (runs_both found f g k _ _ one (runs_both found g h k _ _ two three))

-- Statements.
pub tell_prefixed : (t : Tables) (b m c : Findings) (p : Position) (x : Stmt) (q : BlockPrefix) (k : Block) → x ≡ s.PrefixedBlock q k → Runs found b m (of_prefix t q k.token.0) → Runs found m c (of_whole (judging t) k) → Runs found b c (of_statement (judging t) p x)
unfolding judging of_prefix
tell_prefixed t b m c p x q k is f h = run_prefixed found (judging t) b m c p x q k is f h

pub tell_inner : (t : Tables) (b : Findings) (p : Position) (x : Stmt) (i : TokenNo) → x ≡ s.Inner i → Runs found b b (of_statement (judging t) p x)
unfolding judging
tell_inner t b p x i is = run_inner found (judging t) b b p x i is (runs_none found b)

pub tell_called : (t : Tables) (b c : Findings) (p : Position) (x : Stmt) (e : Expr) → x ≡ s.Call e → Runs found b c (of_call t e) → Runs found b c (of_statement (judging t) p x)
unfolding judging of_call
tell_called t b c p x e is h = run_call found (judging t) b c p x e is h

pub tell_assigned : (t : Tables) (b c : Findings) (p : Position) (x : Stmt) (e : Expr) (v : Vec Assigned Global) (l : List Assigned) → x ≡ s.Assignment e v → l ≡ v.items → Runs found b c (of_assignment t e l) → Runs found b c (of_statement (judging t) p x)
unfolding judging of_assignment
tell_assigned t b c p x e v l is same h =
    run_assignment found (judging t) b c p x e v is (runs_as found b c _ _ (ap (λ z. assignment_events t (syntax_of e) (map right_side_syntax z)) same) h)

pub tell_activation : (t : Tables) (b c : Findings) (p : Position) (x : Stmt) (i : TokenNo) (w : Activation) (e : Expr) (z : Option Timing) → x ≡ s.Activation i w e z → Runs found b c (of_activation t i.0 e z) → Runs found b c (of_statement (judging t) p x)
unfolding judging of_activation
tell_activation t b c p x i w e z is h = run_activation found (judging t) b c p x i w e z is h

pub tell_if : (t : Tables) (b n m c : Findings) (p : Position) (x y : Stmt) (i : TokenNo) (e : Expr) (a : Box Stmt Global) (o : Option (Box Stmt Global)) → x ≡ s.If i e a o → Runs found b n (of_required t extent.Statement type.Boolean e)
    → y ≡ a.value → Runs found n m (of_statement (judging t) Inside y) → Runs found m c (of_branch (judging t) o) → Runs found b c (of_statement (judging t) p x)
unfolding judging of_required
tell_if t b n m c p x y i e a o is f same g h = run_if found (judging t) b n m c p x y i e a o is f same g h

pub tell_while : (t : Tables) (b n c : Findings) (p : Position) (x y : Stmt) (i : TokenNo) (e : Expr) (a : Box Stmt Global) → x ≡ s.While i e a → Runs found b n (of_required t extent.Statement type.Boolean e)
    → y ≡ a.value → Runs found n c (of_statement (judging t) Inside y) → Runs found b c (of_statement (judging t) p x)
unfolding judging of_required
tell_while t b n c p x y i e a is f same g = run_while found (judging t) b n c p x y i e a is f same g

pub tell_for : (t : Tables) (b n c : Findings) (p : Position) (x y : Stmt) (i : TokenNo) (q : Identifier) (j : TokenNo) (v : Vec ForElement Global) (l : List ForElement) (a : Box Stmt Global) → x ≡ s.For i q j v a → l ≡ v.items
    → Runs found b n (control_events t q assignment.Value (map element_syntax l)) → y ≡ a.value → Runs found n c (of_statement (judging t) Inside y) → Runs found b c (of_statement (judging t) p x)
unfolding judging
tell_for t b n c p x y i q j v l a is list f same g =
    run_for found (judging t) b n c p x y i q j v a is (runs_as found b n _ _ (ap (λ z. control_events t q assignment.Value (map element_syntax z)) list) f) same g

pub tell_for_reference : (t : Tables) (b n c : Findings) (p : Position) (x y : Stmt) (i : TokenNo) (q : Identifier) (j : TokenNo) (v : Vec ReferenceElement Global) (l : List ReferenceElement) (a : Box Stmt Global) → x ≡ s.ForReference i q j v a → l ≡ v.items
    → Runs found b n (control_events t q assignment.Reference (map reference_element_syntax l)) → y ≡ a.value → Runs found n c (of_statement (judging t) Inside y) → Runs found b c (of_statement (judging t) p x)
unfolding judging
tell_for_reference t b n c p x y i q j v l a is list f same g =
    run_for_reference found (judging t) b n c p x y i q j v a is (runs_as found b n _ _ (ap (λ z. control_events t q assignment.Reference (map reference_element_syntax z)) list) f) same g

pub tell_inspect : (t : Tables) (b k m c : Findings) (p : Position) (x y : Stmt) (i : TokenNo) (e : Expr) (j : TokenNo) (a : Box Stmt Global) (f : TokenNo) (w : Option (Box Stmt Global)) → x ≡ s.Inspect i e j a f w
    → Runs found b k (of_inspect t i.0 e) → y ≡ a.value → Runs found k m (of_statement (judging t) Inside y) → Runs found m c (of_branch (judging t) w) → Runs found b c (of_statement (judging t) p x)
unfolding judging of_inspect
tell_inspect t b k m c p x y i e j a f w is one same g h =
    run_inspect found (judging t) b k k m m c p x y i e j a f w is one (runs_none found k) same g (runs_none found m) h

pub tell_inspect_when : (t : Tables) (b k m c : Findings) (p : Position) (x : Stmt) (l ls : List When) (i : TokenNo) (e : Expr) (a : Vec When Global) (w : Option (Box Stmt Global)) → x ≡ s.InspectWhen i e a w → ls ≡ a.items
    → Runs found b k (of_inspect_when t i.0 e ls) → l ≡ a.items → Runs found k m (each (of_arm (judging t)) l) → Runs found m c (of_branch (judging t) w) → Runs found b c (of_statement (judging t) p x)
unfolding judging of_inspect_when
tell_inspect_when t b k m c p x l ls i e a w is list one same g h =
    run_inspect_when found (judging t) b k m c p x l i e a w is
    (runs_as found b k _ _ (ap (λ z. inspect_when_events t i.0 (syntax_of e) (arm_classes (arms (map arm_syntax z)))) list) one) same g h

pub tell_arm : (t : Tables) (b c : Findings) (w : When) → Runs found b c (of_statement (judging t) Inside w.body) → Runs found b c (of_arm (judging t) w)
unfolding judging
tell_arm t b c w g = run_arm found (judging t) b b b c c w (runs_none found b) (runs_none found b) g (runs_none found c)

-- Blocks.
pub tell_block : (t : Tables) (b n c : Findings) (k : Block) (ds fs : List Decl) (l : List Stmt) → fs ≡ k.declarations.items → 0 < length fs → ds ≡ k.declarations.items → Runs found b n (each (of_declaration (judging t)) ds)
    → l ≡ k.statements.items → Runs found n c (each (of_statement (judging t) Inside) l) → Runs found b c (of_block (judging t) k)
unfolding judging
tell_block t b n c k ds fs l there some same f also_ g =
    run_whole_block found (judging t) b b n c c k ds fs l there some (runs_none found b) same f also_ g (runs_none found c)

pub tell_whole : (t : Tables) (b n c : Findings) (k : Block) (ds : List Decl) (l : List Stmt) → ds ≡ k.declarations.items → Runs found b n (each (of_declaration (judging t)) ds) → l ≡ k.statements.items
    → Runs found n c (each (of_statement (judging t) Inside) l) → Runs found b c (of_whole (judging t) k)
unfolding judging
tell_whole t b n c k ds l same f also_ g = run_whole found (judging t) b n c c k ds l same f also_ g (runs_none found c)

-- Declarations.
pub runs_class : (t : Tables) (f g : Findings) (class : Identifier) (d : Option Denotation) (o : Option ℕ) (e : Denotation) (x : Occurrence) → d ≡ binding t class.token.0 class.name → o ≡ found_in t class.token.0 class.name → d ≡ Some e
    → Judges f g x (used_in class.token.0 o e false) → Runs found f g (class_events t class)
unfolding class_events
runs_class t f g class d o e x denotes at is h =
    runs_as found f g _ _
    (ap (λ z. (used_in class.token.0 z e false).events) at ∙ ap (class_used t class) (sym is ∙ denotes))
    (runs_judged f g x (used_in class.token.0 o e false) h)

pub runs_no_class : (t : Tables) (f : Findings) (class : Identifier) (d : Option Denotation) → d ≡ binding t class.token.0 class.name → d ≡ None → Runs found f f (class_events t class)
unfolding class_events
runs_no_class t f class d denotes is = runs_as found f f [] _ (ap (class_used t class) (sym is ∙ denotes)) (runs_none found f)

pub runs_nothing : (f : Findings) → Runs found f f []
runs_nothing f = runs_none found f

pub ruleset classes = (runs_class, runs_no_class, runs_nothing)

pub tell_variables : (t : Tables) (b m c : Findings) (x : Decl) (n : TypeName) (v : Vec Variable Global) (l : List Variable) → x ≡ d.Variables n v → l ≡ v.items → Runs found b m (type_events t n) → Runs found m c (each (variable_events n) l)
    → Runs found b c (of_declaration (judging t) x)
unfolding judging
tell_variables t b m c x n v l is same class h =
    run_variables found (judging t) b c x n v is (runs_both found b m c _ _ class (runs_as found m c _ _ (ap (each (variable_events n)) same) h))

pub tell_arrays : (t : Tables) (b m c : Findings) (x : Decl) (n : TypeName) (i : TokenNo) (v : Vec ArraySegment Global) (l : List ArraySegment) → x ≡ d.Arrays n i v → l ≡ v.items → Runs found b m (type_events t n) → Runs found m c (each (of_segment t) l)
    → Runs found b c (of_declaration (judging t) x)
unfolding judging
tell_arrays t b m c x n i v l is same class h =
    run_arrays found (judging t) b c x n i v is
    (runs_both found b m c _ _ class (runs_as found m c _ _ (each-segments t l ∙ ap (λ z. each (array_events t) (map segment_syntax z)) same) h))

pub tell_procedure : (t : Tables) (b m c : Findings) (x : Decl) (r : Option TypeName) (i : TokenNo) (q : Procedure) (y : Stmt) → x ≡ d.Procedure r i q → y ≡ q.body.value → Runs found b m (result_events t r) → Runs found m c (of_statement (judging t) Inside y)
    → Runs found b c (of_declaration (judging t) x)
unfolding judging
tell_procedure t b m c x r i q y is same class h = run_procedure found (judging t) b m c c x r i q y is class same h (runs_none found c)

pub tell_class : (t : Tables) (b m c : Findings) (x : Decl) (r : Option Identifier) (i : TokenNo) (q : Class) (y : Stmt) → x ≡ d.Class r i q → Runs found b m (of_class_prefix t r q.name.token.0) → y ≡ q.body.value
    → Runs found m c (of_statement (judging t) ClassBody y) → Runs found b c (of_declaration (judging t) x)
unfolding judging of_class_prefix
tell_class t b m c x r i q y is f same h = run_class found (judging t) b m c c x r i q y is f same h (runs_none found c)

pub ruleset tellings = (run_empty, run_block, run_block_of_class, run_body_of_class, run_some, run_no_branch, run_compound, run_class_body, leads_all, leads_next, leads_end, tell_prefixed, tell_inner, tell_called, tell_assigned, tell_activation, tell_if, tell_while, tell_for, tell_for_reference, tell_inspect, tell_inspect_when, tell_arm, tell_block, tell_whole, tell_variables, tell_arrays, tell_procedure, tell_class)

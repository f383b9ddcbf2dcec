-- What is told of a program in the last round is what its judgements tell, each by itself.
use Rattle.std.proofs.Common.{◌≡◌, ℕ, false, List, [], ◌∷◌, ◌++◌, Option, Some, None, refl}
use Rattle.sim_base.specs.declared.numbering.DeclNo.{DeclNo}
use Rattle.sim_tree.specs.declared.expr.Identifier.{Identifier}
use Rattle.sim_tree.specs.declared.stmt.Assignment.{Assignment}
use Rattle.sim_tree.specs.declared.stmt.TypeName.{TypeName}
use Rattle.sim_tree.specs.declared.stmt.TypeName.TheVariants as type_name
use Rattle.sim_tree.specs.Syntax.{Activate, After, Also, Arms, Arrayed, Arrays, Assign, At, Before, Begin, Block, BoundPair, Call, Choose, Compound, Declaration, Declarations, DeclareClass, DeclareProcedure, Delay, Element, Empty, Expression, Expressions, For, Inner, Inspect, InspectWhen, NoArm, NoDeclaration, NoStatement, Now, Once, Prefix, Prefixed, Program, Repeat, RightSide, Schedule, Statement, Statements, Step, Variables, When, While, With, first_of}
use Rattle.sim_scope.specs.Actuals.{no_actuals}
use Rattle.sim_scope.specs.Assignments.{LeftSide, assigned, compared, first_sign, last_value, left_side, left_sides, lefts, no_lefts, target, with_left}
use Rattle.sim_scope.specs.Calls.{located, used_in}
use Rattle.sim_scope.specs.Expressions.{actuals, judge}
use Rattle.sim_scope.specs.Judged.{gives, next, telling}
use Rattle.sim_scope.specs.Least.{faults}
use Rattle.sim_scope.specs.Outcomes.{side}
use Rattle.sim_scope.specs.Runs.{each}
use Rattle.sim_scope.specs.Scopes.{binding, found_in}
use Rattle.sim_scope.specs.Statements.{activate_events, activates, arm_events, arm_fits, array_events, assignment_events, call_events, class_events, class_prefix_events, class_used, connected_by, control_events, controlled, element_events, first_step, first_value, inspect_events, inspect_when_events, judging, needs, needs_reference, pair_events, prefix_at, prefix_used, prefixed_events, prefixed_with, process_at, process_events, program_prefix_events, required, result_events, schedule_events, simple, stands, starts, taken_by, type_events, variable_events}
use Rattle.sim_scope.specs.Tables.{Tables}
use Rattle.sim_scope.specs.Walk.{arms_events, block_events, class_events as class_body_events, declaration_events, declarations_events, program_events, statement_events, statements_events, whole_events}
use Rattle.sim_scope.specs.declared.outcome.Extent.{Extent}
use Rattle.sim_scope.specs.declared.outcome.Extent.TheVariants as extent
use Rattle.sim_scope.specs.declared.outcome.LeftSides.{LeftSides}
use Rattle.sim_scope.specs.declared.outcome.Side.{Side}
use Rattle.sim_scope.specs.declared.scopes.Denotation.{Denotation}
use Rattle.sim_scope.specs.declared.types.Position.{Position}
use Rattle.sim_scope.specs.declared.types.Position.TheVariants.{ClassBody, ClassStatement, Inside}
use Rattle.sim_scope.specs.declared.types.SimType.{SimType}
use Rattle.sim_scope.specs.declared.types.SimType.TheVariants as t
use Rattle.static_rules.specs.Judgements.{Activates, Alone, Arm, Assigned, Controls, Declared, Inspects, InspectsWhen, Needs, Occurs, PrefixOf, Process, Sign, StartsFrom, TakenBy, Target, actuals_judged, all_judged, arm_judged, array_judged, assignment_judged, control_judged, declared_judged, element_judged, finds, judged, judgements, left_judged, operand, pair_judged, prefixed_judged, process_judged, program_prefix_judged, required_judged, schedule_judged, taken_judged, value_judged}
use Rattle.static_rules.proofs.Expressions.{Same, actuals_same, both, class_of_same, class_same, every, expression_same, none, occurrence_same, one, operand_same, outcome_same, silent, value_same}

module _ (s : Tables) where
  -- ---- expressions in statements

  required_same : (e : Extent) (wanted : SimType) (x : Expression) → Same s (required s e wanted x) (required_judged s e wanted x)
  unfolding required next
  required_same e wanted x = both (both (expression_same s e x) (value_same s e x)) (operand_same s e x (λ v. (needs wanted v).events) (one (Needs e wanted x)))

  call_same : (x : Expression) → Same s (call_events s x) (judged s extent.Statement x ++ (Alone x ∷ []))
  unfolding call_events next
  call_same x = both (expression_same s extent.Statement x) (outcome_same s extent.Statement x (λ o. (stands s (first_of x) o).events) (one (Alone x)))

  left_same : (first : Assignment) (l : LeftSide) → Same s (left_side s first l).events (left_judged s first l)
  unfolding next
  left_same first l = both (one (Sign first l.sign l.token)) (both (expression_same s extent.Statement l.target) (outcome_same s extent.Statement l.target (λ o. (target s l.sign (first_of l.target) o).events) (one (Target l.sign l.target))))

  lefts_same : (first : Assignment) (v : Side) (a : LeftSides) (ls : List LeftSide) → Same s (lefts s first v a ls).events (each (left_judged s first) ls)
  unfolding lefts next gives
  lefts_same first v a [] = none
  lefts_same first v a (l ∷ ls) = both (left_same first l) (lefts_same first v (with_left s v a (left_side s first l).value) ls)

  assignment_same : (left : Expression) (parts : List RightSide) → Same s (assignment_events s left parts) (assignment_judged s left parts)
  unfolding assignment_events assigned next
  assignment_same left parts =
      both (both (expression_same s extent.Statement (last_value left parts)) (value_same s extent.Statement (last_value left parts)))
      (both (lefts_same (first_sign parts) (side s (first_of (last_value left parts)) (judge s extent.Statement (last_value left parts)).value).value no_lefts (left_sides left parts))
      (operand_same s extent.Statement (last_value left parts) (λ v. (compared (lefts s (first_sign parts) v no_lefts (left_sides left parts)).value).events) (one (Assigned left parts))))

  taken_same : (a : Option SimType) (x : Expression) → Same s (first_value s a x) (taken_judged s a x)
  unfolding first_value next
  taken_same a x = both (both (expression_same s extent.Statement x) (value_same s extent.Statement x)) (operand_same s extent.Statement x (λ v. (taken_by s a v).events) (one (TakenBy a x)))

  starts_same : (a : Option SimType) (x : Expression) → Same s (first_step s a x) (value_judged s extent.Statement x ++ (StartsFrom a x ∷ []))
  unfolding first_step next
  starts_same a x = both (both (expression_same s extent.Statement x) (value_same s extent.Statement x)) (operand_same s extent.Statement x (λ v. (starts a v).events) (one (StartsFrom a x)))

  element_same : (a : Option SimType) (x : Element) → Same s (element_events s a x) (element_judged s a x)
  element_same a (Once value) = taken_same a value
  element_same a (Step start i step limit) = both (starts_same a start) (both (required_same extent.Statement t.Integer step) (required_same extent.Statement t.Integer limit))
  element_same a (While value i condition) = both (taken_same a value) (required_same extent.Statement t.Boolean condition)

  controlled_same : (sign : Assignment) (x : Identifier) → Same s (controlled s sign x).events (Occurs extent.Statement x ∷ Controls sign x ∷ [])
  unfolding controlled next
  controlled_same sign x = both (one (Occurs extent.Statement x)) (occurrence_same s extent.Statement x (λ o. (simple s sign x.token.0 o.denotes).events) (one (Controls sign x)))

  control_same : (x : Identifier) (sign : Assignment) (es : List Element) → Same s (control_events s x sign es) (control_judged s x sign es)
  unfolding control_events
  control_same x sign es = both (controlled_same sign x) (every (element_events s (controlled s sign x).value) (element_judged s (controlled s sign x).value) (element_same (controlled s sign x).value) es)

  -- ---- declarations

  used_silent : (token : ℕ) (block : Option ℕ) (d : Denotation) → faults (used_in token block d false).events ≡ []
  unfolding used_in located next telling gives
  used_silent token None d = refl
  used_silent token (Some block) d = refl

  class_silent : (class : Identifier) (o : Option Denotation) → faults (class_used s class o) ≡ []
  class_silent class None = refl
  class_silent class (Some d) = used_silent class.token.0 (found_in s class.token.0 class.name) d

  type_silent : (type : TypeName) → faults (type_events s type) ≡ []
  unfolding class_events
  type_silent (type_name.Integer i) = refl
  type_silent (type_name.Boolean i) = refl
  type_silent (type_name.Character i) = refl
  type_silent (type_name.Text i) = refl
  type_silent (type_name.Reference i class) = class_silent class (binding s class.token.0 class.name)

  result_silent : (type : Option TypeName) → faults (result_events s type) ≡ []
  result_silent None = refl
  result_silent (Some type) = type_silent type

  variables_same : (type : TypeName) → Same s (type_events s type) []
  variables_same type = silent (type_silent type)

  pair_same : (b : BoundPair) → Same s (pair_events s b) (pair_judged s b)
  pair_same b = both (required_same extent.Bound t.Integer b.lower) (required_same extent.Bound t.Integer b.upper)

  array_same : (a : Arrayed) → Same s (array_events s a) (array_judged s a)
  array_same a = every (pair_events s) (pair_judged s) pair_same a.bounds

  -- ---- prefixes

  prefix_silent : (token : ℕ) (o : Option Denotation) → faults (prefix_used token o).events ≡ []
  unfolding gives telling
  prefix_silent token None = refl
  prefix_silent token (Some d) = refl

  prefix_same : (token : ℕ) (arguments : Expressions) (o : Option Denotation) → Same s (next (prefix_used token o) (λ d. next (actuals s extent.Statement d no_actuals arguments) (prefixed_with s token d))).events (actuals_judged s extent.Statement o 0 arguments ++ (PrefixOf token o arguments ∷ []))
  unfolding next gives telling
  prefix_same token arguments None = both (actuals_same s extent.Statement None no_actuals arguments) (one (PrefixOf token None arguments))
  prefix_same token arguments (Some d) =
      both (silent {es = (prefix_used token (Some d)).events} (prefix_silent token (Some d))) (both (actuals_same s extent.Statement (Some d) no_actuals arguments) (one (PrefixOf token (Some d) arguments)))

  prefixed_same : (class : Identifier) (arguments : Expressions) (begin : ℕ) → Same s (prefixed_events s class arguments begin) (prefixed_judged s class arguments begin)
  unfolding prefixed_events
  prefixed_same class arguments begin = prefix_same class.token.0 arguments (prefix_at s begin)

  program_prefix_same : (o : Option Prefix) (begin : ℕ) → Same s (program_prefix_events s o begin) (program_prefix_judged s o begin)
  unfolding program_prefix_events
  program_prefix_same None begin = none
  program_prefix_same (Some p) begin = prefixed_same p.class p.arguments begin

  class_prefix_same : (o : Option Identifier) (token : ℕ) → Same s (class_prefix_events s o token) []
  unfolding class_prefix_events
  class_prefix_same None token = none
  class_prefix_same (Some class) token = silent (prefix_silent class.token.0 (prefix_at s token))

  -- ---- connections and activations

  inspect_same : (token : ℕ) (x : Expression) → Same s (inspect_events s token x) (value_judged s extent.Statement x ++ (Inspects token x ∷ []))
  unfolding inspect_events next
  inspect_same token x = both (both (expression_same s extent.Statement x) (value_same s extent.Statement x)) (operand_same s extent.Statement x (λ v. (connected_by s token v).events) (one (Inspects token x)))

  arm_same : (token : ℕ) (x : Expression) (class : Identifier) → Same s (arm_events s token (operand s extent.Statement x) class) (arm_judged token x class)
  unfolding arm_events next
  arm_same token x class = both (class_same s extent.Statement class) (class_of_same s extent.Statement class (λ o. (arm_fits s token (operand s extent.Statement x) class o).events) (one (Arm token x class)))

  when_same : (token : ℕ) (x : Expression) (classes : List Identifier) → Same s (inspect_when_events s token x classes) ((value_judged s extent.Statement x ++ (InspectsWhen x ∷ [])) ++ each (arm_judged token x) classes)
  unfolding inspect_when_events next
  when_same token x classes =
      both (both (both (expression_same s extent.Statement x) (value_same s extent.Statement x)) (operand_same s extent.Statement x (λ v. (needs_reference v).events) (one (InspectsWhen x))))
      (operand_same s extent.Statement x (λ v. each (arm_events s token v) classes) (every (arm_events s token (operand s extent.Statement x)) (arm_judged token x) (arm_same token x) classes))

  process_same : (process : Option DeclNo) (x : Expression) → Same s (process_events s process x) (process_judged s process x)
  unfolding process_events next
  process_same process x = both (both (expression_same s extent.Statement x) (value_same s extent.Statement x)) (operand_same s extent.Statement x (λ v. (activates s process v).events) (one (Process process x)))

  schedule_same : (process : Option DeclNo) (x : Schedule) → Same s (schedule_events s process x) (schedule_judged s process x)
  schedule_same process Now = none
  schedule_same process (At i time prior) = required_same extent.Statement t.Integer time
  schedule_same process (Delay i time prior) = required_same extent.Statement t.Integer time
  schedule_same process (Before i other) = process_same process other
  schedule_same process (After i other) = process_same process other

  activate_same : (token : ℕ) (x : Expression) (schedule : Schedule) → Same s (activate_events s token x schedule) ((Activates token ∷ []) ++ (process_judged s (process_at s token) x ++ schedule_judged s (process_at s token) schedule))
  unfolding activate_events
  activate_same token x schedule = both (one (Activates token)) (both (process_same (process_at s token) x) (schedule_same (process_at s token) schedule))

  -- ---- the walk

  mutual
    unfolding judging judgements

    statement_same : (p : Position) (a : Statement) → Same s (statement_events (judging s) p a) (statement_events (judgements s) p a)
    statement_same p (Empty i) = none
    statement_same ClassBody (Compound b) = class_body_same b
    statement_same ClassStatement (Compound b) = block_same b
    statement_same Inside (Compound b) = block_same b
    statement_same p (Prefixed x args (Begin i ds ss e)) = both (prefixed_same x args i) (whole_same (Begin i ds ss e))
    statement_same p (Inner i) = none
    statement_same p (Call x) = call_same x
    statement_same p (Assign left rest) = assignment_same left rest
    statement_same p (Choose i c a rest) = both (required_same extent.Statement t.Boolean c) (both (statement_same Inside a) (statements_same Inside rest))
    statement_same p (Repeat i c a) = both (required_same extent.Statement t.Boolean c) (statement_same Inside a)
    statement_same p (For i x sign j es a) = both (control_same x sign es) (statement_same Inside a)
    statement_same p (Inspect i object d a e rest) = both (inspect_same i object) (both none (both (statement_same Inside a) (both none (statements_same Inside rest))))
    statement_same p (InspectWhen i object whens rest) = both (when_same i object _) (both (arms_same whens) (statements_same Inside rest))
    statement_same p (Activate i word process schedule) = activate_same i process schedule

    statements_same : (p : Position) (ss : Statements) → Same s (statements_events (judging s) p ss) (statements_events (judgements s) p ss)
    statements_same p NoStatement = none
    statements_same p (Also a ss) = both (statement_same p a) (statements_same p ss)

    arms_same : (a : Arms) → Same s (arms_events (judging s) a) (arms_events (judgements s) a)
    arms_same NoArm = none
    arms_same (When i x d a e others) = both (both none (both none (both (statement_same Inside a) none))) (arms_same others)

    block_same : (b : Block) → Same s (block_events (judging s) b) (block_events (judgements s) b)
    block_same (Begin i NoDeclaration ss e) = statements_same Inside ss
    block_same (Begin i (With d ds) ss e) = both none (both (both (both (declaration_same d) (declarations_same ds)) (statements_same Inside ss)) none)

    whole_same : (b : Block) → Same s (whole_events (judging s) b) (whole_events (judgements s) b)
    whole_same (Begin i ds ss e) = both (declarations_same ds) (both (statements_same Inside ss) none)

    class_body_same : (b : Block) → Same s (class_body_events (judging s) b) (class_body_events (judgements s) b)
    class_body_same (Begin i ds ss e) = both (declarations_same ds) (statements_same ClassStatement ss)

    declarations_same : (ds : Declarations) → Same s (declarations_events (judging s) ds) (declarations_events (judgements s) ds)
    declarations_same NoDeclaration = none
    declarations_same (With d ds) = both (declaration_same d) (declarations_same ds)

    declaration_same : (d : Declaration) → Same s (declaration_events (judging s) d) (declaration_events (judgements s) d)
    declaration_same (Variables type vs) = both (variables_same type) (every (variable_events type) (declared_judged type) (λ v. one (Declared type v)) vs)
    declaration_same (Arrays type i segments) = both (variables_same type) (every (array_events s) (array_judged s) array_same segments)
    declaration_same (DeclareProcedure result i h body e) = both (silent (result_silent result)) (both (statement_same Inside body) none)
    declaration_same (DeclareClass prefix i h interface body e) = both (class_prefix_same prefix h.name.token.0) (both (statement_same ClassBody body) none)

  begun : (o : Option Prefix) (b : Block) → Same s (program_events (judging s) (record { prefix = o; block = b })) (program_events (judgements s) (record { prefix = o; block = b }))
  unfolding program_events judging judgements
  begun o (Begin i ds ss e) = both (program_prefix_same o i) (whole_same (Begin i ds ss e))

  pub program_same : (p : Program) → faults (program_events (judging s) p) ≡ each (finds s) (all_judged s p)
  unfolding all_judged
  program_same p = (begun p.prefix p.block).same

-- What each operator does.
use Rattle.std.proofs.Common.{◌≡◌, ℕ, Bool, true, false, List, [], ◌∷◌, ◌++◌, length, Option, Some, None, inl, inr, refl, ◌∙◌}
use Rattle.std.specs.Prelude.{not, ◌&&◌, ◌*◌, ◌==◌, pos, if◌then◌else◌, Result, Ok, Err}
use Rattle.sim_base.specs.declared.limits.Limits.{Limits}
use Rattle.sim_base.specs.declared.run_error.RunError.{RunError}
use Rattle.sim_chains.specs.Components.{call, detach, give_control_to, resume, Components, NoObject, Standing}
use Rattle.sim_scope.specs.Scopes.{class_formals}
use Rattle.sim_scope.specs.Source.{Source, block_around, line_at}
use Rattle.sim_tree.specs.Syntax.{Also, Arms, Begin, Block, Element, Expression, Expressions, NoArm, NoDeclaration, NoStatement, Statement, Statements, When, With}
use Rattle.sim_tree.specs.Syntax as syntax
use Rattle.sim_values.specs.Plain.{Character, Integer, Nothing, Object, Plain, Text, Truth, MainOf}
use Rattle.sim_values.specs.declared.value.TextVal.{TextVal}
use Rattle.sim_values.specs.Store.{image_at, with_image}
use Rattle.sim_values.specs.Texts.{same_text}
use Rattle.sim_code.specs.Outcome.{ArrayOf, Run, World, Simulation}
use Rattle.sim_code.specs.Events.{computing, having, image_moved, text_val}
use Rattle.sim_code.specs.Arrays.{element, element_set_in, live_array, pairs}
use Rattle.sim_code.specs.Instances.{CellPlace, ElementPlace, ImagePlace, Place, entered, encloser_of, going_below, is_live, kept_on, system_head}
use Rattle.sim_code.specs.Transfers.{Calling, Detaching, Resuming, Transfer, component_in, transferred, transferring}
use Rattle.notices.specs.declared.next.Next.TheVariants as next
use Rattle.notices.specs.declared.next.Next.{Next}
use Rattle.notices.specs.declared.notice.Notice.{Notice}
use Rattle.notices.specs.Scheduling.{next_of}
use Rattle.sim_code.specs.Simulations.{located, with_simulation}
use Rattle.sim_code.specs.Scheduling.{component_of, deciding, going_to}
use Rattle.sim_meaning.specs.Connections.{arm_tried, arms_tried, connected, object_connected}
use Rattle.sim_meaning.specs.Levels.{class_at, end_line, has_procedure, in_process, is_in, levels, stands_in, text_at}
use Rattle.sim_meaning.specs.Objects.{cells_of_levels, filled_in, origins, generated, inner_done, is_member, object_entered, prefix_done, putting_reference, decided, words_of_object}
use Rattle.sim_meaning.specs.Entries.{filled_behind, first_cells, formals_of, is_held, new_instance, words_of_cells}
use Rattle.sim_meaning.specs.Meaning.{has_result, called, do_op, is_called_so, procedure_entered, sub_block_entered, value_called, formal_in_hand, is_by_name, parameter_begun}
use Rattle.sim_code.specs.Formals.{each as each_pair}
use Rattle.sim_meaning.specs.Closing.{close_parameters, class_parameters, is_procedure_kind}
use Rattle.sim_meaning.specs.Checks.{agrees, all_fit, all_passed, fits, passed}
use Rattle.sim_meaning.specs.Pending.{ActivateOp, Activation, Actual, ActualOf, Address, AgainOp, ArrayOp, AttributeOf, AttributeOp, BackOp, BlockOp, BranchOp, CallOf, CallOp, CallValueOp, Cell, CheckOp, ChooseOp, CloseOp, Configuration, ConnectOp, Connection, CopyOf, CopyOp, DeclareOp, Do, DropOp, Either, ElementOf, ElementOp, ElementsOp, EndObject, EndPrefixed, EndProcedure, EndProcessOp, EnterOp, Eval, Exec, Execs, FetchOp, FitsOf, FitsOp, GiveOp, Given, Held, IfOp, ImageOf, InnerOp, Instances, Item, JoinOp, Joined, KeepOp, KeptOf, Key, Level, LevelOp, Link, MemberOf, MemberOp, NamedOf, NamedOp, NewOf, NewOp, NotNoneOf, NotNoneOp, ObjectOp, Of, One, OneOp, Op, PastOp, PlaceOf, PrefixedOp, ProcedureValue, ProcessOf, ProcessOp, QuaOf, QuaOp, QualifiedElementOf, QualifiedElementOp, QualifiedPlaceOf, RaiseOp, ReferOp, RemoteCallOf, SelfOp, SetOf, SetOp, ShareOp, SimulationOf, SimulationOp, StandardOf, StandardOp, StepOp, StepTestOp, StoreOp, SwapOp, Target, Term, TestOp, ToAddress, ToCell, ToNamed, ToPlace, ToReference, ToReferenceAt, ToText, ToTextAt, ToTextOf, TransferOf, TransferOp, Two, TwoOp, NoMeaning, Val, ValueAt, VirtualOp, WhenOp, WhileElementOp, actual_in, array_in, cell, cell_made, cell_set, instance_in, owner, place_in, plain, procedure_in, variable_in, OriginOf, OriginOp, Origin, ProcedureOf, ProcedureOp, RemoteProcedureOf, MatchOf, CheckedOf, ParameterOp, ForParameter}
use Rattle.sim_meaning.specs.Pending as pending
use Rattle.sim_meaning.specs.Statements as statement
use Rattle.sim_scope.specs.Assignments.{last_value, left_sides}
use Rattle.std.specs.List.{list_any}
use Rattle.sim_meaning.specs.Statements.{leaves, lefts, assigned, begin_of, compound, elements, entered_at, exec, execs, inner_begun, levels_of_instance, looping, prefix_begun, activated, simulation_home}
use Rattle.sim_meaning.specs.Steps.{eval, put_back, putting, stored, value_at, count_of}
use Rattle.sim_meaning.specs.Texts.{BlockText, ProcedureText, is_class_free}
use Rattle.sim_meaning.specs.Virtuals.{match_at}
use Rattle.sim_meaning.specs.Texts as texts
use Rattle.code_finite.proofs.Lifts.{Goes, assigning_goes, choosing_goes, computing_goes, copying_goes, counting_goes, entering_goes, finding_goes, having_goes, having_knows, integers_goes, joining_goes, keeping_goes, linkage_goes, making_goes, many_goes, matching_goes, none, object_goes, one_goes, performing_goes, plain_goes, popping_goes, qualifying_goes, reference_goes, when_knows, step_goes, stops, ticking_goes, truth_goes, two_goes, when_goes, suiting_goes}
use Rattle.code_finite.proofs.Scheduling.{activation_goes, process_goes, simulation_goes}
use Rattle.closed_actuals.specs.Evaluations.{Adds, BeginsEvaluation, Enters, Generates, Schedules, Transfers, by_activation, by_end, by_procedure, new_object, of_name, of_parameter, prefixed_block, procedure, procedure_in_hand, schedules, schedules_main, sub_block, adds_level, adds_nothing, adds_operator, calls, detaches, resumes}
use Rattle.closed_actuals.proofs.Adding.{branch_adds, declarations_adds, declarations_own, dropping_adds, each_adds, finding_adds, four_operators, lefts_adds, level_adds, levels_own, one_operator, operand_adds, parameters_adds, reading_adds, three_operators, two_operators}
use Rattle.closed_actuals.proofs.Does.{Alike, Does, act, alike_same, begins, cell_alike, enters, generates, kept_alike, made_alike, own_end, own_operator, transfers, works}

-- ---- stores

module _ (P : World → Configuration → Type 0) where
  set_goes : (n k : ℕ) (v : Plain) (a : Option ArrayOf) (old : Option Plain) (o : World) (f : World → Run Configuration) → ((p : World) → p.ticks ≡ o.ticks → Goes P (f p)) → Goes P (having (element_set_in o n k v a old) o f)
  unfolding having
  set_goes n k v (Some a) (Some old) o f x = x _ refl
  set_goes n k v (Some a) None o f x = none P o
  set_goes n k v None old o f x = none P o

  moved_goes : (n : ℕ) (image t : Option TextVal) (o : World) (f : World → Run Configuration) → ((p : World) → p.ticks ≡ o.ticks → Goes P (f p)) → Goes P (having (image_moved o n image t) o f)
  unfolding having
  moved_goes n None t o f x = none P o
  moved_goes n (Some image) None o f x = none P o
  moved_goes n (Some image) (Some t) o f x = by_same (same_text image t)
    where
      by_same : (b : Bool) → Goes P (having (if b then Some (record o { store = with_image o.store n t }) else None) o f)
      by_same true = x _ refl
      by_same false = none P o

  pub putting_goes : (p : Place Key (Option ℕ)) (v : Val) (o : World) (m : Instances) (f : World → Instances → Run Configuration) → ((q : World) (n : Instances) → q.ticks ≡ o.ticks → Alike m n → Goes P (f q n)) → Goes P (putting p v o m f)
  unfolding putting
  putting_goes (CellPlace j key None) v o m f x = having_knows P (cell_set m j key v) o _ (λ n is. x o n refl (cell_alike m j key v n is))
  putting_goes (CellPlace j key (Some k)) v o m f x = none P o
  putting_goes (ElementPlace a n None) v o m f x = having_goes P (plain v) o _ (λ p. set_goes a n p (live_array o a) (element o a n) o _ (λ q same. x q m same (alike_same m)))
  putting_goes (ElementPlace a n (Some k)) v o m f x = none P o
  putting_goes (ImagePlace n) v o m f x = having_goes P (plain v) o _ (λ p. moved_goes n (image_at o.store n) (text_val p) o _ (λ q same. x q m same (alike_same m)))

  pub back_goes : (v : Val) (t : TextVal) (o : World) (m : Instances) (f : World → Instances → Run Configuration) → ((q : World) (n : Instances) → q.ticks ≡ o.ticks → Alike m n → Goes P (f q n)) → Goes P (put_back v t o m f)
  unfolding put_back
  back_goes (Address p) t o m f x = putting_goes p (Of (Text t)) o m f x
  back_goes (Of p) t o m f x = x o m refl (alike_same m)
  back_goes (Link j) t o m f x = x o m refl (alike_same m)
  back_goes (pending.ArrayValue a) t o m f x = x o m refl (alike_same m)
  back_goes (ProcedureValue k j) t o m f x = x o m refl (alike_same m)
  back_goes (Actual j p e) t o m f x = x o m refl (alike_same m)

  pub putting_reference_goes : (s : Source) (line : ℕ) (p : Place Key (Option ℕ)) (v : Plain) (o : World) (m : Instances) (f : World → Instances → Run Configuration) → ((q : World) (n : Instances) → q.ticks ≡ o.ticks → Alike m n → Goes P (f q n)) → Goes P (putting_reference s line p v o m f)
  unfolding putting_reference
  putting_reference_goes s line (CellPlace j key None) v o m f x = none P o
  putting_reference_goes s line (CellPlace j key (Some k)) v o m f x = qualifying_goes P line (stands_in s m k) v o _ (having_knows P (cell_set m j key (Of v)) o _ (λ n is. x o n refl (cell_alike m j key (Of v) n is)))
  putting_reference_goes s line (ElementPlace a n None) v o m f x = none P o
  putting_reference_goes s line (ElementPlace a n (Some k)) v o m f x = qualifying_goes P line (stands_in s m k) v o _ (set_goes a n v (live_array o a) (element o a n) o _ (λ q same. x q m same (alike_same m)))
  putting_reference_goes s line (ImagePlace n) v o m f x = none P o

-- ---- operators

module _ (op : Op) (s : Source) (l : Limits) (o : World) (m : Instances) (i : ℕ) (w : List Item) (vals : List Val) (rest : List Activation) where
  abbrev D : World → Configuration → Type 0
  D _ c = Does op m i w rest c

  abbrev Shows : Run Configuration → Type 0
  Shows r = Goes D r

  on : {v : List Item} {vals : List Val} → Adds w v → D o (record { chain = act i v vals ∷ rest; memory = m })
  on a = works (alike_same m) a

  eval_does : (t : Term) → Shows (eval o m i w vals rest t)
  eval_does (Given p) = on adds_nothing
  eval_does (Cell j key) = having_goes D (cell m j key) o _ (λ v. on adds_nothing)
  eval_does (PlaceOf j key) = on adds_nothing
  eval_does (ImageOf n) = on adds_nothing
  eval_does (One op line a) = on two_operators
  eval_does (Two op line a b) = on three_operators
  eval_does (Joined line a b) = on three_operators
  eval_does (Either c a b) = on two_operators
  eval_does (ElementOf line a ts) = on (adds_operator (each_adds ts one_operator))
  eval_does (ValueAt a) = on two_operators
  eval_does (CopyOf line a) = on two_operators
  eval_does (CallOf j k ts line) = on (each_adds ts one_operator)
  eval_does (StandardOf name ts line) = on (each_adds ts one_operator)
  eval_does (NewOf j k ts line) = on (each_adds ts one_operator)
  eval_does (AttributeOf k key class line a) = on two_operators
  eval_does (RemoteCallOf a k ts line) = on (adds_operator (adds_operator (each_adds ts one_operator)))
  eval_does (QualifiedPlaceOf j key k) = on adds_nothing
  eval_does (QualifiedElementOf line k a ts) = on (adds_operator (each_adds ts one_operator))
  eval_does (MemberOf member k a) = on two_operators
  eval_does (QuaOf k line a) = on two_operators
  eval_does (FitsOf k line a) = on two_operators
  eval_does (KeptOf a) = on two_operators
  eval_does (NotNoneOf line a) = on two_operators
  eval_does (TransferOf t line a) = on two_operators
  eval_does (SetOf name ts) = on (each_adds ts one_operator)
  eval_does (ProcessOf name line a) = on two_operators
  eval_does (SimulationOf j name ts line) = on (each_adds ts one_operator)
  eval_does (OriginOf k token line a) = on two_operators
  eval_does (ProcedureOf j k) = on one_operator
  eval_does (RemoteProcedureOf a k line) = on three_operators
  eval_does (MatchOf a v line) = on two_operators
  eval_does (CheckedOf a leaves home es line) =
      when_goes D (home == i) o _ (on (adds_operator (adds_operator (parameters_adds 0 line es one_operator))))
  eval_does (ActualOf j p e) = on adds_nothing
  eval_does (NamedOf j key wanted) = on one_operator
  eval_does NoMeaning = none D o

  store_does : (t : Target) → Shows (stored o m i w vals rest t)
  store_does (ToCell j key) = popping_goes D vals o _ (λ v vals. having_knows D (cell_set m j key v) o _ (λ n is. works (cell_alike m j key v n is) adds_nothing))
  store_does ToAddress =
      popping_goes D vals o _ (λ v vals. popping_goes D vals o _ (λ p vals. having_goes D (variable_in p) o _ (λ p. putting_goes D p v o m _ (λ q n _ kept. works kept adds_nothing))))
  store_does (ToText line) = assigning_goes D plain line vals o _ (λ p vals _. on adds_nothing)
  store_does (ToTextOf j key line) = assigning_goes D plain line vals o _ (λ p vals _. on adds_nothing)
  store_does (ToReference line) = on one_operator
  store_does (ToNamed k line) = on two_operators
  store_does (ToPlace a) = on three_operators
  store_does (ToTextAt a line) = assigning_goes D plain line vals o _ (λ p vals _. on adds_nothing)
  store_does (ToReferenceAt a line) = on three_operators

  -- entries
  block_does : Enters op → (k line : ℕ) (x : Option texts.Text) → Shows (sub_block_entered s l o m i w vals rest k line x)
  block_does by k line None = none D o
  block_does by k line (Some (BlockText begin ds ss)) = entering_goes D l line _ o _ (λ p _ _. enters by m _ (inl refl) (alike_same m) (declarations_own s _ (length m.instances) ds (own_operator (own_end refl refl))))
  block_does by k line (Some (ProcedureText result h a)) = none D o
  block_does by k line (Some _) = none D o

  procedure_does : Enters op → (vals : List Val) (k line : ℕ) (values : List Val) (j : ℕ) → is_live m j ≡ true → (x : Option texts.Text) → Shows (procedure_entered s l o m i w vals rest k line values j x)
  procedure_does by vals k line values j lives None = none D o
  procedure_does by vals k line values j lives (Some (BlockText begin ds ss)) = none D o
  procedure_does by vals k line values j lives (Some (ProcedureText result h a)) =
      having_goes D (filled_behind result values (first_cells s k (ProcedureText result h a))) o _ (λ filled. entering_goes D l line (words_of_cells (first_cells s k (ProcedureText result h a))) o _ (λ p _ _.
      by_kept (not (is_class_free s k) && list_any is_held (formals_of s k)) filled))
    where
      by_kept : (b : Bool) (filled : List Held)
          → D o (record { chain = act (length (if b then kept_on owner (act i w vals ∷ rest) m else m).instances) (Do (Exec a) ∷ EndProcedure (has_result result) ∷ []) [] ∷ act i w vals ∷ rest; memory = entered (if b then kept_on owner (act i w vals ∷ rest) m else m) (new_instance s k (Some j) filled) (NoObject None) })
      by_kept false filled = enters by m _ (inr lives) (alike_same m) (own_operator (own_end refl refl))
      by_kept true filled = let kept = kept_alike (act i w vals ∷ rest) m in enters by (kept_on owner (act i w vals ∷ rest) m) _ (inr lives) kept (own_operator (own_end refl refl))
  procedure_does by vals k line values j lives (Some _) = none D o

  call_does : Enters op → (k n line : ℕ) → Shows (called s l o m i w vals rest k n line)
  call_does by k n line =
      many_goes D n [] vals o _ (λ values vals. popping_goes D vals o _ (λ v vals. having_goes D (instance_in v) o _ (λ j. when_knows D (is_live m j) o _ (λ lives. procedure_does by vals k line values j lives (texts.text s k)))))

  value_does : Enters op → (n : ℕ) (leaves : Bool) (line : ℕ) → Shows (value_called s l o m i w vals rest n leaves line)
  value_does by n leaves line =
      many_goes D n [] vals o _ (λ values vals. popping_goes D vals o _ (λ v vals. having_goes D (procedure_in v) o _ (λ q. when_knows D (is_live m q.1) o _ (λ lives. when_goes D (is_called_so s q.0 n leaves) o _ (procedure_does by vals q.0 line values q.1 lives (texts.text s q.0))))))

  -- an actual parameter of a call that is checked is passed as it stands, or its evaluation begins
  parameter_does : BeginsEvaluation op → (n : ℕ) (e : Expression) (line : ℕ) → Shows (parameter_begun s o m i w vals rest n e line)
  parameter_does by n e line =
      having_goes D (formal_in_hand s n vals) o _ (λ f. when_goes D (fits s f (passed s e)) o _ (choosing_goes D (is_by_name f.mode) _ _ (on adds_nothing) (begins by i (is_procedure_kind f.kind) e (ForParameter n line))))

  check_does : (es : Expressions) (line : ℕ) → Shows (do_op s l o m i w vals rest (CheckOp es line))
  check_does es line =
      popping_goes D vals o _ (λ v more. having_goes D (procedure_in v) o _ (λ q. counting_goes D line (length (formals_of s q.0)) (count_of es) o _ (
      suiting_goes D line (all_fit s (formals_of s q.0) (all_passed s es)) o _ (
      having_goes D (each_pair (agrees s m q.1 i) (formals_of s q.0) (all_passed s es)) o _ (λ agree. suiting_goes D line agree o _ (on adds_nothing))))))

  object_does : Generates op → (vals : List Val) (k line : ℕ) (values : List Val) (j : ℕ) → is_live m j ≡ true → (xs : List Level) → Shows (object_entered s l o m i w vals rest k line values j xs)
  object_does by vals k line values j lives xs =
      having_goes D (filled_in values (Some (cells_of_levels s xs ++ origins xs)) (class_formals s.tables k)) o _ (λ filled. entering_goes D l line (words_of_object s k (cells_of_levels s xs)) o _ (λ p _ _. generates by _ (inr lives) (levels_own xs EndObject refl refl)))

  generation_does : Generates op → (k n line : ℕ) → Shows (generated s l o m i w vals rest k n line)
  generation_does by k n line =
      many_goes D n [] vals o _ (λ values vals. popping_goes D vals o _ (λ v vals. having_goes D (instance_in v) o _ (λ j. when_knows D (is_live m j) o _ (λ lives. having_goes D (levels s k) o _ (λ xs.
      object_does by vals k line values j lives xs)))))

  prefix_does : Enters op → (k n line : ℕ) → Shows (prefix_done s l o m i w vals rest k n line)
  prefix_does by k n line =
      many_goes D n [] vals o _ (λ values vals. having_goes D (levels s k) o _ (λ xs.
      having_goes D (filled_in values (Some (cells_of_levels s xs)) (class_formals s.tables k)) o _ (λ filled. entering_goes D l line (words_of_cells (cells_of_levels s xs)) o _ (λ p _ _.
      enters by m _ (inl refl) (alike_same m) (levels_own xs EndPrefixed refl refl)))))

  -- statements
  compound_does : (b : Block) (p : World) → Shows (compound s p m i w vals rest b)
  compound_does (Begin token NoDeclaration ss end) p = on one_operator
  compound_does (Begin token (With d ds) ss end) p = by_block (block_around s token)
    where
      by_block : (k : Option ℕ) → Shows (entered_at p m i w vals rest k (line_at s token))
      by_block None = none D p
      by_block (Some k) = on one_operator

  exec_does : (a : Statement) → Shows (exec s l o m i w vals rest a)
  exec_does (syntax.Empty token) = on adds_nothing
  exec_does (syntax.Compound b) = ticking_goes D l o _ (λ p _ _. compound_does b p)
  exec_does (syntax.Prefixed class es b) = ticking_goes D l o _ (λ p _ _. by_block p (block_around s (begin_of b)))
    where
      by_block : (p : World) (k : Option ℕ) → Shows (prefix_begun s p m i w vals rest class es k)
      by_block p None = none D p
      by_block p (Some k) = on (each_adds (close_parameters s m i (line_at s class.token.0) es (class_parameters s (Some k))) one_operator)
  exec_does (syntax.Inner token) = ticking_goes D l o _ (λ p _ _. by_level p (block_around s token))
    where
      by_level : (p : World) (k : Option ℕ) → Shows (inner_begun s p m i w vals rest k)
      by_level p None = none D p
      by_level p (Some k) = having_goes D (levels_of_instance s (text_at m i)) p _ (λ xs. on one_operator)
  exec_does (syntax.Call e) = ticking_goes D l o _ (λ p _ _. on (adds_operator (dropping_adds (leaves s e) w)))
  exec_does (syntax.Assign left rs) = ticking_goes D l o _ (λ p _ _. by_lefts p (lefts s m i (left_sides left rs)) refl (last_value left rs))
    where
      by_lefts : (p : World) (x : Option statement.Lefts) → lefts s m i (left_sides left rs) ≡ x → (e : Expression) → Shows (assigned s p m i w vals rest x e)
      by_lefts p None is e = none D p
      by_lefts p (Some x) is e = on (lefts_adds s m i (left_sides left rs) x is two_operators)
  exec_does (syntax.Choose token c a b) = ticking_goes D l o _ (λ p _ _. on two_operators)
  exec_does (syntax.Repeat token c a) = ticking_goes D l o _ (λ p _ _. on one_operator)
  exec_does (syntax.For token x sign assign es a) = ticking_goes D l o _ (λ p _ _. by_target p _)
    where
      by_target : (p : World) (t : Option Target) → Shows (looping p m i w vals rest t es a)
      by_target p None = none D p
      by_target p (Some t) = on one_operator
  exec_does (syntax.Inspect token object opening a end other) = ticking_goes D l o _ (λ p _ _. on two_operators)
  exec_does (syntax.InspectWhen token object arms other) = ticking_goes D l o _ (λ p _ _. on two_operators)
  exec_does (syntax.Activate token word process schedule) = ticking_goes D l o _ (λ p _ _. by_block p (simulation_home s m i token))
    where
      by_block : (p : World) (b : Option ℕ) → Shows (activated s p m i w vals rest b token word process schedule)
      by_block p None = none D p
      by_block p (Some b) = on (adds_operator (adds_operator (operand_adds s m i schedule one_operator)))

  execs_does : (ss : Statements) → Shows (execs o m i w vals rest ss)
  execs_does NoStatement = on adds_nothing
  execs_does (Also a more) = on two_operators

  -- connections
  connected_does : (k : ℕ) (p : Plain) (vals : List Val) (a : Statement) → Shows (connected o m i w vals rest k p a)
  connected_does k p vals a = having_knows D (cell_made m i (Connection k) (Of p)) o _ (λ made is. works (made_alike m i (Connection k) (Of p) made is) two_operators)

  inspect_does : (vals : List Val) (k : ℕ) (a : Statement) (other : Statements) (p : Plain) → Shows (object_connected o m i w vals rest k a other p)
  inspect_does vals k a other (Object j) = connected_does k (Object j) vals a
  inspect_does vals k a other (MainOf b) = connected_does k (MainOf b) vals a
  inspect_does vals k a other Nothing = on one_operator
  inspect_does vals k a other (Integer z) = none D o
  inspect_does vals k a other (Truth b) = none D o
  inspect_does vals k a other (Character c) = none D o
  inspect_does vals k a other (Text t) = none D o

  arm_does : (vals : List Val) (fits : Bool) (k : ℕ) (p : Plain) (a : Statement) (more : Arms) (other : Statements) → Shows (arm_tried o m i w vals rest fits k p a more other)
  arm_does vals true k p a more other = connected_does k p vals a
  arm_does vals false k p a more other = on one_operator

  arms_does : (vals : List Val) (arms : Arms) (other : Statements) (p : Plain) → Shows (arms_tried s o m i w vals rest arms other p)
  arms_does vals (When token class opening a end more) other (Object j) =
      having_goes D (class_at s class.token.0) o _ (λ k. arm_does vals (stands_in s m k (Object j)) opening (Object j) a more other)
  arms_does vals (When token class opening a end more) other (MainOf b) =
      having_goes D (class_at s class.token.0) o _ (λ k. arm_does vals (stands_in s m k (MainOf b)) opening (MainOf b) a more other)
  arms_does vals NoArm other (Object j) = on one_operator
  arms_does vals NoArm other (MainOf b) = on one_operator
  arms_does vals NoArm other Nothing = on one_operator
  arms_does vals (When token class opening a end more) other Nothing = on one_operator
  arms_does vals NoArm other (Integer z) = none D o
  arms_does vals NoArm other (Truth b) = none D o
  arms_does vals NoArm other (Character c) = none D o
  arms_does vals NoArm other (Text t) = none D o
  arms_does vals (When token class opening a end more) other (Integer z) = none D o
  arms_does vals (When token class opening a end more) other (Truth b) = none D o
  arms_does vals (When token class opening a end more) other (Character c) = none D o
  arms_does vals (When token class opening a end more) other (Text t) = none D o

  -- transfers of control
  abbrev Before : List Val → Components Activation
  Before vals = record { operating = act i w vals ∷ rest; standings = m.standings }

  below_does : (p : World) (vals : List Val) (operating : List Activation) (standings : List (Standing Activation)) → Transfers owner (system_head m) (Before vals) op (record { operating = operating; standings = standings })
      → Shows (going_below p operating (record m { standings = standings }))
  below_does p vals [] standings moved = tt
  below_does p vals (a ∷ below) standings moved = transfers moved

  moved_does : (p : World) (line : ℕ) (vals : List Val) (r : Result (Components Activation) RunError) → ((c : Components Activation) → r ≡ Ok c → Transfers owner (system_head m) (Before vals) op c)
      → Shows (computing line r p (λ c. going_below p c.operating (record m { standings = c.standings })))
  unfolding computing
  moved_does p line vals (Ok c) moved = below_does p vals c.operating c.standings (moved c refl)
  moved_does p line vals (Err e) moved = stops D _ p

  -- so does scheduling, or control stays where it is
  next_does : Schedules op → (vals : List Val) (line : ℕ) (p : World) (x : Simulation) (next : Next) → Shows (going_to owner line p (act i w vals ∷ rest) m x next)
  next_does by vals line p x next.Stay = on adds_nothing
  next_does by vals line p x (next.Resume n) =
      having_goes D (component_of x n.0) p _ (λ y. moved_does p line vals _ (by_process y))
    where
      by_process : (y : Option ℕ) (c : Components Activation) → give_control_to owner (system_head m) (Before vals) x.block y ≡ Ok c → Transfers owner (system_head m) (Before vals) op c
      by_process None c ok = schedules_main by x.block ok
      by_process (Some y) c ok = schedules by y ok

  decided_does : Schedules op → (line : ℕ) (p : World) (x : ℕ × Simulation) (r : Result (List Notice) RunError) (vals : List Val) → Shows (decided m i w rest line p x r vals)
  unfolding deciding
  decided_does by line p x r vals =
      computing_goes D line r p _ (λ notices. computing_goes D line (next_of x.1.notices notices) p _ (λ next.
      next_does by vals line (with_simulation p x.0 (record x.1 { notices = notices })) x.1 next))

  inner_does : (xs : List Level) → Shows (inner_done o m i w vals rest xs)
  inner_does [] = on adds_nothing
  inner_does (x ∷ xs) = on (level_adds x xs (adds_level adds_nothing))

  elements_does : (t : Target) (es : List Element) (a : Statement) → Shows (elements s l o m i w vals rest t es a)
  elements_does t [] a = on adds_nothing
  elements_does t (syntax.Once e ∷ es) a = ticking_goes D l o _ (λ p _ _. on (finding_adds t four_operators))
  elements_does t (syntax.While e token c ∷ es) a = on two_operators
  elements_does t (syntax.Step first token step limit ∷ es) a = on (adds_operator four_operators)

  give_does : (v : Val) (ts : List Target) → Shows (do_op s l o m i w vals rest (GiveOp v ts))
  give_does v [] = on adds_nothing
  give_does v (t ∷ ts) = on two_operators

module _ (s : Source) (l : Limits) (o : World) (m : Instances) (i : ℕ) (w : List Item) (vals : List Val) (rest : List Activation) where
  abbrev Each : Op → World → Configuration → Type 0
  Each op _ c = Does op m i w rest c

  abbrev Placed : List Val → Components Activation
  Placed vals = record { operating = act i w vals ∷ rest; standings = m.standings }

  just : {op : Op} {v : List Item} {vals : List Val} → Adds w v → Each op o (record { chain = act i v vals ∷ rest; memory = m })
  just a = works (alike_same m) a

  transfer_does : (vals : List Val) (t : Transfer) (line : ℕ) (p : Plain) → Goes (Each (TransferOp t line)) (transferring owner t line o (act i w vals ∷ rest) m p)
  unfolding transferring
  transfer_does vals t line p = by_value p
    where
      by_transfer : (t : Transfer) (y : Option ℕ) (r : Result (Components Activation) RunError) → transferred owner t (system_head m) (Placed vals) y ≡ Some r → (c : Components Activation) → r ≡ Ok c → Transfers owner (system_head m) (Placed vals) (TransferOp t line) c
      by_transfer Detaching None r is c ok = absurd (cc)
      by_transfer Detaching (Some x) r is c ok = detaches x (let same : detach owner (system_head m) (Placed vals) x ≡ r = cc in same ∙ ok)
      by_transfer Calling y r is c ok = calls y (let same : call (Placed vals) y ≡ r = cc in same ∙ ok)
      by_transfer Resuming y r is c ok = resumes y (let same : resume owner (system_head m) (Placed vals) y ≡ r = cc in same ∙ ok)

      by_component : (y : Option (Option ℕ)) → Goes (Each (TransferOp t line)) (having y o (λ y. having (transferred owner t (system_head m) (Placed vals) y) o (λ r. computing line r o (λ c. going_below o c.operating (record m { standings = c.standings })))))
      by_component y = having_goes (Each (TransferOp t line)) y o _ (λ y. having_knows (Each (TransferOp t line)) (transferred owner t (system_head m) (Placed vals) y) o _ (λ r is. moved_does (TransferOp t line) s l o m i w vals rest o line vals r (by_transfer t y r is)))

      by_value : (p : Plain) → Goes (Each (TransferOp t line)) (transferring owner t line o (act i w vals ∷ rest) m p)
      by_value (MainOf b) = stops (Each (TransferOp t line)) _ o
      by_value (Object j) = by_component (component_in (Object j))
      by_value Nothing = by_component (component_in Nothing)
      by_value (Integer z) = by_component (component_in (Integer z))
      by_value (Truth b) = by_component (component_in (Truth b))
      by_value (Character c) = by_component (component_in (Character c))
      by_value (Text x) = by_component (component_in (Text x))

  pub op_does : (op : Op) → Goes (Each op) (do_op s l o m i w vals rest op)
  op_does (Eval t) = eval_does (Eval t) s l o m i w vals rest t
  op_does (OneOp op line) = one_goes (Each (OneOp op line)) plain op line vals o _ (λ z vals. just adds_nothing)
  op_does (TwoOp op line) = two_goes (Each (TwoOp op line)) plain op line vals o _ (λ z vals. just adds_nothing)
  op_does (IfOp a b) = truth_goes (Each (IfOp a b)) plain vals o _ (λ c vals. choosing_goes (Each (IfOp a b)) c _ _ (just two_operators) (just one_operator))
  op_does (JoinOp line) = joining_goes (Each (JoinOp line)) plain l line vals o _ (λ z p vals _. just adds_nothing)
  op_does (ElementOp n line) = finding_goes (Each (ElementOp n line)) plain array_in n line vals o _ (λ a k vals. just adds_nothing)
  op_does FetchOp = popping_goes (Each FetchOp) vals o _ (λ v vals. having_goes (Each FetchOp) (place_in v) o _ (λ p. having_goes (Each FetchOp) (value_at o m p) o _ (λ v. just adds_nothing)))
  op_does (CopyOp line) = popping_goes (Each (CopyOp line)) vals o _ (λ v vals. having_goes (Each (CopyOp line)) (array_in v) o _ (λ a. copying_goes (Each (CopyOp line)) l line i a o _ (λ n p _. just adds_nothing)))
  op_does (CallOp k n line) = call_does (CallOp k n line) s l o m i w vals rest procedure k n line
  op_does (StandardOp name line) = performing_goes (Each (StandardOp name line)) put_back Alike alike_same (back_goes (Each (StandardOp name line))) _ l line name vals o m _ (λ p n value vals _ kept. works kept adds_nothing)
  op_does (NewOp k n line) = generation_does (NewOp k n line) s l o m i w vals rest new_object k n line
  op_does (AttributeOp k key class line) = object_goes (Each (AttributeOp k key class line)) plain line vals o _ (λ j vals. when_goes (Each (AttributeOp k key class line)) (is_in s m k j) o _ (just adds_nothing))
  op_does (ObjectOp k line) = object_goes (Each (ObjectOp k line)) plain line vals o _ (λ j vals. when_goes (Each (ObjectOp k line)) (has_procedure s m k j) o _ (just adds_nothing))
  op_does (QualifiedElementOp n line k) = finding_goes (Each (QualifiedElementOp n line k)) plain array_in n line vals o _ (λ a k vals. just adds_nothing)
  op_does (MemberOp member k) = plain_goes (Each (MemberOp member k)) plain vals o _ (λ p vals. having_goes (Each (MemberOp member k)) (is_member s m member k p) o _ (λ b. just adds_nothing))
  op_does (QuaOp k line) = reference_goes (Each (QuaOp k line)) plain line vals o _ (λ p vals. qualifying_goes (Each (QuaOp k line)) line (stands_in s m k) p o _ (just adds_nothing))
  op_does (FitsOp k line) = plain_goes (Each (FitsOp k line)) plain vals o _ (λ p vals. qualifying_goes (Each (FitsOp k line)) line (stands_in s m k) p o _ (just adds_nothing))
  op_does KeepOp = popping_goes (Each KeepOp) vals o _ (λ v vals. having_goes (Each KeepOp) (array_in v) o _ (λ a. keeping_goes (Each KeepOp) a o _ (λ p _. just adds_nothing)))
  op_does (NotNoneOp line) = reference_goes (Each (NotNoneOp line)) plain line vals o _ (λ p vals. just adds_nothing)
  op_does (TransferOp t line) = plain_goes (Each (TransferOp t line)) plain vals o _ (λ p vals. transfer_does vals t line p)
  op_does (SetOp name) = linkage_goes (Each (SetOp name)) plain name vals o _ (λ p value vals _. just adds_nothing)
  op_does (ProcessOp name line) = process_goes (Each (ProcessOp name line)) plain (encloser_of m) name line vals o _ (λ p vals. just adds_nothing)
  op_does (SimulationOp name line) =
      simulation_goes (Each (SimulationOp name line)) plain instance_in (in_process s m) o (decided m i w rest line) (λ p x r vals _. decided_does (SimulationOp name line) s l o m i w vals rest by_procedure line p x r vals) None name vals _ (λ p vals. just adds_nothing)
  op_does (VirtualOp v line) = object_goes (Each (VirtualOp v line)) plain line vals o _ (λ j vals. matching_goes (Each (VirtualOp v line)) line (match_at s m v j) o _ (λ k. just adds_nothing))
  op_does (OriginOp k token line) =
      object_goes (Each (OriginOp k token line)) plain line vals o _ (λ j vals. when_goes (Each (OriginOp k token line)) (is_in s m k j) o _ (having_knows (Each (OriginOp k token line)) (cell_set m j Origin (Of (Integer (pos token)))) o _ (λ n is.
      works (cell_alike m j Origin (Of (Integer (pos token))) n is) adds_nothing)))
  op_does (ProcedureOp k) = popping_goes (Each (ProcedureOp k)) vals o _ (λ v vals. having_goes (Each (ProcedureOp k)) (instance_in v) o _ (λ j. just adds_nothing))
  op_does (CheckOp es line) = check_does (CheckOp es line) s l o m i w vals rest es line
  op_does (ParameterOp n e line) = parameter_does (ParameterOp n e line) s l o m i w vals rest of_parameter n e line
  op_does (CallValueOp n leaves line) = value_does (CallValueOp n leaves line) s l o m i w vals rest procedure_in_hand n leaves line
  op_does (NamedOp j key wanted) =
      having_goes (Each (NamedOp j key wanted)) (cell m j key) o _ (λ v. having_goes (Each (NamedOp j key wanted)) (actual_in v) o _ (λ a. when_goes (Each (NamedOp j key wanted)) (is_live m a.home) o _ (ticking_goes (Each (NamedOp j key wanted)) l o _ (λ p _ _. begins of_name a.home a.as_procedure a.expression wanted))))
  op_does (CloseOp p e) = just one_operator
  op_does DropOp = popping_goes (Each DropOp) vals o _ (λ v vals. just adds_nothing)
  op_does AgainOp = popping_goes (Each AgainOp) vals o _ (λ v vals. just adds_nothing)
  op_does SwapOp = popping_goes (Each SwapOp) vals o _ (λ v vals. popping_goes (Each SwapOp) vals o _ (λ u vals. just adds_nothing))
  op_does (StoreOp t) = store_does (StoreOp t) s l o m i w vals rest t
  op_does (ShareOp ts) = popping_goes (Each (ShareOp ts)) vals o _ (λ v vals. just one_operator)
  op_does (GiveOp v ts) = give_does (GiveOp v ts) s l o m i w vals rest v ts
  op_does (ReferOp line) =
      plain_goes (Each (ReferOp line)) plain vals o _ (λ p vals. popping_goes (Each (ReferOp line)) vals o _ (λ v vals. having_goes (Each (ReferOp line)) (place_in v) o _ (λ a. putting_reference_goes (Each (ReferOp line)) s line a p o m _ (λ q n _ kept. works kept adds_nothing))))
  op_does (ArrayOp kind n line) = integers_goes (Each (ArrayOp kind n line)) plain (2 * n) [] vals o _ (λ bounds vals. making_goes (Each (ArrayOp kind n line)) l line i kind (pairs bounds) o _ (λ n p _. just adds_nothing))
  op_does (Exec a) = exec_does (Exec a) s l o m i w vals rest a
  op_does (Execs ss) = execs_does (Execs ss) s l o m i w vals rest ss
  op_does (EnterOp k line) = block_does (EnterOp k line) s l o m i w vals rest sub_block k line (texts.text s k)
  op_does (PrefixedOp k n line) = prefix_does (PrefixedOp k n line) s l o m i w vals rest prefixed_block k n line
  op_does (DeclareOp ds) = just (declarations_adds s m i ds adds_nothing)
  op_does (LevelOp k) = just adds_nothing
  op_does (InnerOp xs) = inner_does (InnerOp xs) s l o m i w vals rest xs
  op_does SelfOp = just adds_nothing
  op_does EndProcessOp = having_goes (Each EndProcessOp) (encloser_of m i) o _ (λ b. having_goes (Each EndProcessOp) (located o.simulations b) o _ (λ x. having_goes (Each EndProcessOp) (end_line s m i) o _ (λ line. decided_does EndProcessOp s l o m i w vals rest by_end line o _ _ vals)))
  op_does (BlockOp b) = just adds_nothing
  op_does (ActivateOp again timing line) = activation_goes (Each (ActivateOp again timing line)) plain instance_in (in_process s m) o (decided m i w rest line) (λ p x r vals _. decided_does (ActivateOp again timing line) s l o m i w vals rest by_activation line p x r vals) again timing vals
  op_does (ConnectOp k a other) = plain_goes (Each (ConnectOp k a other)) plain vals o _ (λ p vals. inspect_does (ConnectOp k a other) s l o m i w vals rest vals k a other p)
  op_does (WhenOp arms other) = plain_goes (Each (WhenOp arms other)) plain vals o _ (λ p vals. arms_does (WhenOp arms other) s l o m i w vals rest vals arms other p)
  op_does (ChooseOp a b) = truth_goes (Each (ChooseOp a b)) plain vals o _ (λ c vals. choosing_goes (Each (ChooseOp a b)) c _ _ (just (adds_operator (branch_adds b w))) (just one_operator))
  op_does (TestOp c a) = ticking_goes (Each (TestOp c a)) l o _ (λ p _ _. just two_operators)
  op_does (BranchOp a again) = truth_goes (Each (BranchOp a again)) plain vals o _ (λ c vals. choosing_goes (Each (BranchOp a again)) c _ _ (just two_operators) (just adds_nothing))
  op_does (BackOp op) = just one_operator
  op_does PastOp = just adds_nothing
  op_does (ElementsOp t es a) = elements_does (ElementsOp t es a) s l o m i w vals rest t es a
  op_does (WhileElementOp t e c a) = ticking_goes (Each (WhileElementOp t e c a)) l o _ (λ p _ _. just (finding_adds t four_operators))
  op_does (StepTestOp t line step limit a) = ticking_goes (Each (StepTestOp t line step limit a)) l o _ (λ p _ _. just (reading_adds t three_operators))
  op_does (StepOp line) = step_goes (Each (StepOp line)) plain line vals o _ (λ b vals. just adds_nothing)
  op_does (RaiseOp t line step limit a) = just (adds_operator (adds_operator (reading_adds t three_operators)))

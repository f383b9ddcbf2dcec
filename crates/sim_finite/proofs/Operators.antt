-- What is pending leads to less, or to a tick.
use Rattle.std.proofs.Common.{◌≡◌, ◌≤◌, ◌<◌, ℕ, suc, ◌+◌, Bool, true, false, List, [], ◌∷◌, ◌++◌, length, Option, Some, None, refl, ap, ◌∙◌, arith, subst}
use Rattle.std.specs.Prelude.{◌*◌, ◌==◌, pos, slice_get, if◌then◌else◌, Result, Ok, Err}
use Rattle.sim_base.specs.declared.limits.Limits.{Limits}
use Rattle.sim_base.specs.declared.numbering.DeclNo.{DeclNo}
use Rattle.sim_base.specs.declared.run_error.RunError.{RunError}
use Rattle.sim_chains.specs.Chains.{Cut, cut_at}
use Rattle.sim_chains.specs.Components.{AttachedObject, Components, DetachedObject, NoObject, ResumedObject, Standing, TerminatedObject}
use Rattle.simset.specs.Sets.{Linkage}
use Rattle.sim_scope.specs.Scopes.{class_formals}
use Rattle.sim_scope.specs.Source.{Source, block_around, line_at}
use Rattle.sim_tree.specs.declared.expr.Identifier.{Identifier}
use Rattle.sim_tree.specs.Syntax.{Also, Arms, Arrayed, Arrays, Begin, Block, BoundPair, Declarations, DeclareClass, DeclareProcedure, Element, Expression, Expressions, NoArm, NoDeclaration, NoMore, NoStatement, Statement, Statements, Then, Variables, When, With}
use Rattle.sim_tree.specs.Syntax as syntax
use Rattle.sim_values.specs.declared.operators.Calculation.TheVariants as calculation
use Rattle.sim_values.specs.declared.operators.Dyadic.TheVariants as dyadic
use Rattle.sim_values.specs.declared.kind.Kind.{Kind}
use Rattle.sim_values.specs.Plain.{Character, Integer, Nothing, Object, Plain, Text, Truth, MainOf}
use Rattle.sim_values.specs.declared.value.TextVal.{TextVal}
use Rattle.sim_values.specs.Store.{image_at, with_image}
use Rattle.sim_values.specs.Texts.{same_text}
use Rattle.sim_code.specs.Outcome.{ArrayOf, Run, World, Simulation}
use Rattle.sim_code.specs.Events.{computing, having, image_moved, text_val, ticking}
use Rattle.sim_code.specs.Arrays.{element, element_set_in, giving_back, handed_over, live_array, owned_by, pairs}
use Rattle.sim_code.specs.Instances.{CellPlace, ElementPlace, ImagePlace, Instance, Place, cells_of, cells_put, encloser_of, ended_as, given, given_in, going_below, is_given_at_end, is_live, live, main_goes_on, object_ended, system_head, with_instance}
use Rattle.sim_code.specs.Sets.{enrolled}
use Rattle.sim_code.specs.Transfers.{Transfer, component_in, transferred, transferring}
use Rattle.notices.specs.declared.next.Next.TheVariants as next
use Rattle.notices.specs.declared.next.Next.{Next}
use Rattle.notices.specs.declared.notice.Notice.{Notice}
use Rattle.notices.specs.Scheduling.{next_of}
use Rattle.sim_code.specs.Simulations.{begun_in, joined, joined_at, located, with_simulation}
use Rattle.sim_code.specs.Scheduling.{component_of, deciding, going_to}
use Rattle.sim_meaning.specs.Connections.{arm_tried, arms_tried, connected, object_connected}
use Rattle.sim_meaning.specs.Levels.{class_at, end_line, has_procedure, in_process, is_in, is_process_text, is_simulation_text, levels, linkage_of_text, stands_in, text_at}
use Rattle.sim_meaning.specs.Objects.{cells_of_levels, filled_in, origins, generated, inner_done, is_member, object_entered, prefix_done, prefixed_entered, putting_reference, with_inner, arrays_given, decided, no_line, process_begun, process_done, words_of_object}
use Rattle.sim_meaning.specs.Entries.{arrays_among, arrays_by_value, arrays_declared, arrays_of, bounds_of, filled_behind, first_array, further_arrays, segments_of, first_cells, formals_of, words_of_cells}
use Rattle.sim_meaning.specs.Meaning.{admitted, called, do_op, is_called_so, evaluated, is_place, leaving, procedure_entered, sub_block_entered, value_called, value_given, formal_in_hand, is_by_name, parameter_begun}
use Rattle.sim_code.specs.Thunks.{locating}
use Rattle.sim_code.specs.Formals.{each as each_pair}
use Rattle.sim_meaning.specs.Checks.{agrees, all_fit, all_passed, copied_for, fits, passed}
use Rattle.sim_meaning.specs.Attributes.{parameter_qualification}
use Rattle.sim_meaning.specs.Pending.{ActivateOp, Activation, Actual, ActualOf, Address, AgainOp, ArrayOp, AttributeOf, AttributeOp, BackOp, BlockOp, BranchOp, CallOf, CallOp, CallValueOp, Cell, CheckOp, ChooseOp, CloseOp, Configuration, ConnectOp, Connection, CopyOf, CopyOp, DeclareOp, Do, DropOp, Either, ElementOf, ElementOp, ElementsOp, EndLevel, EndPrefixed, EndProcessOp, EnterOp, Eval, Exec, Execs, FetchOp, FitsOf, FitsOp, ForPlace, ForValue, Further, GiveOp, Given, Held, IfOp, ImageOf, InnerOp, Instances, Item, JoinOp, Joined, KeepOp, KeptOf, Key, Level, LevelOp, Link, MemberOf, MemberOp, NamedOf, NamedOp, NewOf, NewOp, NoTerm, NotNoneOf, NotNoneOp, ObjectOp, Of, One, OneOp, Op, PastOp, PlaceOf, PrefixedOp, ProcedureValue, ProcessOf, ProcessOp, QuaOf, QuaOp, QualifiedElementOf, QualifiedElementOp, QualifiedPlaceOf, RaiseOp, ReferOp, RemoteCallOf, SelfOp, SetOf, SetOp, ShareOp, SimulationOf, SimulationOp, StandardOf, StandardOp, StepOp, StepTestOp, StoreOp, SwapOp, Target, Term, Terms, TestOp, ToAddress, ToCell, ToNamed, ToPlace, ToReference, ToReferenceAt, ToText, ToTextAt, ToTextOf, TransferOf, TransferOp, Two, TwoOp, NoMeaning, Use, Val, ValueAt, VirtualOp, WhenOp, WhileElementOp, actual_in, array_in, cell, cell_made, cell_set, instance_in, made_in, owner, place_in, plain, procedure_in, put_in, variable_in, OriginOf, OriginOp, Origin, ProcedureOf, ProcedureOp, RemoteProcedureOf, MatchOf, CheckedOf, ParameterOp, ForParameter}
use Rattle.sim_meaning.specs.Pending as pending
use Rattle.sim_meaning.specs.Statements as statement
use Rattle.sim_meaning.specs.Statements.{assigned, begin_of, compound, elements, entered_at, exec, execs, first_branch, inner_begun, levels_of_instance, looping, prefix_begun, raised, reading, activated, simulation_home}
use Rattle.sim_meaning.specs.Steps.{count, each, eval, put_back, putting, stored, value_at, count_of, parameters}
use Rattle.sim_meaning.specs.Texts.{BlockText, ProcedureText, declared_at, kind_named}
use Rattle.sim_meaning.specs.Virtuals.{match_at}
use Rattle.sim_meaning.specs.Texts as texts
use Rattle.sim_finite.proofs.Closing.{close_small, close_passed_small}
use Rattle.code_finite.proofs.Lifts.{Goes, assigning_goes, choosing_goes, computing_goes, copying_goes, counting_goes, entering_goes, finding_goes, having_goes, having_knows, integers_goes, joining_goes, keeping_goes, linkage_goes, making_goes, many_goes, matching_goes, none, object_goes, one_goes, performing_goes, plain_goes, popping_goes, qualifying_goes, reference_goes, step_goes, stops, ticking_goes, truth_goes, two_goes, when_goes, copied_goes, suiting_goes}
use Rattle.code_finite.proofs.Scheduling.{activation_goes, process_goes, simulation_goes}
use Rattle.code_finite.proofs.Transfers.{NotMore, NotMoreIn, transfer_small, given_small}
use Rattle.sim_finite.proofs.Weights.{Lower, activation_weight, arms_weight, bounds_weight, chain_weight, declarations_weight, elements_weight, expression_weight, kept_weight, levels_weight, lighter, names_weight, op_weight, segments_weight, standings_weight, statements_weight, target_weight, term_weight, terms_weight, ticked, work_weight, expressions_weight}

-- ---- worlds with the same ticks

back_ticks : (b : Bool) (o : World) (j words : ℕ) → (if b then giving_back o j words else o).ticks ≡ o.ticks
unfolding giving_back
back_ticks true o j words = refl
back_ticks false o j words = refl

handed_ticks : (owner : ℕ) (arrays : List ℕ) (o : World) → (handed_over owner arrays o).ticks ≡ o.ticks
unfolding handed_over
handed_ticks owner [] o = refl
handed_ticks owner (n ∷ rest) o = handed_ticks owner rest _ ∙ owned_ticks (slice_get o.arrays n)
  where
    owned_ticks : (a : Option ArrayOf) → (owned_by owner a o n).ticks ≡ o.ticks
    owned_ticks None = refl
    owned_ticks (Some a) = refl

enrolled_ticks : (object : ℕ) (linkage : Option Linkage) (o : World) → (enrolled object linkage o).ticks ≡ o.ticks
enrolled_ticks object None o = refl
enrolled_ticks object (Some linkage) o = refl

pub begun_ticks : (is_simulation : Bool) (block : ℕ) (o : World) → (begun_in is_simulation block o).ticks ≡ o.ticks
begun_ticks false b o = refl
begun_ticks true b o = refl

joined_ticks : (is_process : Bool) (block object : ℕ) (o : World) → (joined is_process block object o).ticks ≡ o.ticks
joined_ticks false b j o = refl
joined_ticks true b j o = at_place (located o.simulations b)
  where
    at_place : (x : Option (ℕ × Simulation)) → (joined_at j o x).ticks ≡ o.ticks
    at_place None = refl
    at_place (Some x) = refl

-- ---- memories that keep the same chains

put_kept : (m : Instances) (j : ℕ) (x : Option (Instance (List Held))) (cells : Option (List Held)) (n : Instances) → cells_put m j x cells ≡ Some n → kept_weight n ≡ kept_weight m
put_kept m j (Some x) (Some cells) n is = let same : n ≡ with_instance m j (record x { cells = cells }) = cc in ap kept_weight same
put_kept m j (Some x) None n is = absurd (cc)
put_kept m j None (Some cells) n is = absurd (cc)
put_kept m j None None n is = absurd (cc)

cell_kept : (m : Instances) (j : ℕ) (key : Key) (v : Val) (n : Instances) → cell_set m j key v ≡ Some n → kept_weight n ≡ kept_weight m
cell_kept m j key v n is = put_kept m j (live m j) (put_in (cells_of m j) key v) n is

made_kept : (m : Instances) (j : ℕ) (key : Key) (v : Val) (n : Instances) → cell_made m j key v ≡ Some n → kept_weight n ≡ kept_weight m
made_kept m j key v n is = put_kept m j (live m j) (made_in (cells_of m j) key v) n is

given_kept : (m : Instances) (j : ℕ) (x : Option (Instance (List Held))) → kept_weight (given_in m j x) ≡ kept_weight m
given_kept m j None = refl
given_kept m j (Some x) = refl

left_kept : (b : Bool) (m : Instances) (j : ℕ) → kept_weight (if b then given m j else m) ≡ kept_weight m
left_kept true m j = given_kept m j (slice_get m.instances j)
left_kept false m j = refl

module _ (P : World → Configuration → Type 0) where
  set_goes : (n k : ℕ) (v : Plain) (a : Option ArrayOf) (old : Option Plain) (o : World) (f : World → Run Configuration) → ((p : World) → p.ticks ≡ o.ticks → Goes P (f p)) → Goes P (having (element_set_in o n k v a old) o f)
  unfolding having
  set_goes n k v (Some a) (Some old) o f x = x _ refl
  set_goes n k v (Some a) None o f x = none P o
  set_goes n k v None old o f x = none P o

  moved_goes : (n : ℕ) (image t : Option TextVal) (o : World) (f : World → Run Configuration) → ((p : World) → p.ticks ≡ o.ticks → Goes P (f p)) → Goes P (having (image_moved o n image t) o f)
  unfolding having
  moved_goes n None t o f x = none P o
  moved_goes n (Some image) None o f x = none P o
  moved_goes n (Some image) (Some t) o f x = by_same (same_text image t)
    where
      by_same : (b : Bool) → Goes P (having (if b then Some (record o { store = with_image o.store n t }) else None) o f)
      by_same true = x _ refl
      by_same false = none P o

  pub putting_goes : (p : Place Key (Option ℕ)) (v : Val) (o : World) (m : Instances) (f : World → Instances → Run Configuration) → ((q : World) (n : Instances) → q.ticks ≡ o.ticks → kept_weight n ≡ kept_weight m → Goes P (f q n)) → Goes P (putting p v o m f)
  unfolding putting
  putting_goes (CellPlace j key None) v o m f x = having_knows P (cell_set m j key v) o _ (λ n is. x o n refl (cell_kept m j key v n is))
  putting_goes (CellPlace j key (Some k)) v o m f x = none P o
  putting_goes (ElementPlace a n None) v o m f x = having_goes P (plain v) o _ (λ p. set_goes a n p (live_array o a) (element o a n) o _ (λ q same. x q m same refl))
  putting_goes (ElementPlace a n (Some k)) v o m f x = none P o
  putting_goes (ImagePlace n) v o m f x = having_goes P (plain v) o _ (λ p. moved_goes n (image_at o.store n) (text_val p) o _ (λ q same. x q m same refl))

  pub back_goes : (v : Val) (t : TextVal) (o : World) (m : Instances) (f : World → Instances → Run Configuration) → ((q : World) (n : Instances) → q.ticks ≡ o.ticks → kept_weight n ≡ kept_weight m → Goes P (f q n)) → Goes P (put_back v t o m f)
  unfolding put_back
  back_goes (Address p) t o m f x = putting_goes p (Of (Text t)) o m f x
  back_goes (Of p) t o m f x = x o m refl refl
  back_goes (Link j) t o m f x = x o m refl refl
  back_goes (pending.ArrayValue a) t o m f x = x o m refl refl
  back_goes (ProcedureValue k j) t o m f x = x o m refl refl
  back_goes (Actual j p e) t o m f x = x o m refl refl

  pub putting_reference_goes : (s : Source) (line : ℕ) (p : Place Key (Option ℕ)) (v : Plain) (o : World) (m : Instances) (f : World → Instances → Run Configuration) → ((q : World) (n : Instances) → q.ticks ≡ o.ticks → kept_weight n ≡ kept_weight m → Goes P (f q n)) → Goes P (putting_reference s line p v o m f)
  unfolding putting_reference
  putting_reference_goes s line (CellPlace j key None) v o m f x = none P o
  putting_reference_goes s line (CellPlace j key (Some k)) v o m f x = qualifying_goes P line (stands_in s m k) v o _ (having_knows P (cell_set m j key (Of v)) o _ (λ n is. x o n refl (cell_kept m j key (Of v) n is)))
  putting_reference_goes s line (ElementPlace a n None) v o m f x = none P o
  putting_reference_goes s line (ElementPlace a n (Some k)) v o m f x = qualifying_goes P line (stands_in s m k) v o _ (set_goes a n v (live_array o a) (element o a n) o _ (λ q same. x q m same refl))
  putting_reference_goes s line (ImagePlace n) v o m f x = none P o

-- ---- what is pending of operands, and of a controlled variable

each_weight : (ts : Terms) (w : List Item) → work_weight (each ts w) ≡ terms_weight ts + work_weight w
each_weight NoTerm w = omega arith
each_weight (Further t ts) w = omega (arith, each_weight ts w)

parameters_weight : (n line : ℕ) (es : Expressions) (w : List Item) → 3 + work_weight (parameters n line es w) ≤ expressions_weight es + work_weight w
parameters_weight n line NoMore w = omega arith
parameters_weight n line (Then e es) w = omega (arith, parameters_weight (suc n) line es w)

reading_weight : (t : Target) (w : List Item) → work_weight (reading t w) ≤ target_weight t + work_weight w
reading_weight (ToCell j key) w = omega arith
reading_weight ToAddress w = omega arith
reading_weight (ToText line) w = omega arith
reading_weight (ToTextOf j key line) w = omega arith
reading_weight (ToReference line) w = omega arith
reading_weight (ToNamed k line) w = omega arith
reading_weight (ToPlace a) w = omega arith
reading_weight (ToTextAt a line) w = omega arith
reading_weight (ToReferenceAt a line) w = omega arith

branch_weight : (b : Statements) (w : List Item) → work_weight (first_branch b w) ≤ 1 + work_weight w
branch_weight NoStatement w = omega arith
branch_weight (Also a more) w = omega arith

-- ---- the entry of a prefixed block takes a tick

module _ (P : World → Configuration → Type 0) where
  pub prefixed_goes : (s : Source) (l : Limits) (o : World) (m : Instances) (rest : List Activation) (k line : ℕ) (values : List Val) (encloser : Option ℕ) (end : Item) (xs : List Level) → ((p : World) (c : Configuration) → o.ticks < p.ticks → p.ticks ≤ l.ticks → P p c) → Goes P (prefixed_entered s l o m rest k line values encloser end xs)
  prefixed_goes s l o m rest k line values encloser end xs x =
      having_goes P (filled_in values (Some (cells_of_levels s xs)) (class_formals s.tables k)) o _ (λ filled. entering_goes P l line (words_of_cells (cells_of_levels s xs)) o _ (λ p more most.
      let same = begun_ticks (is_simulation_text s k) (length m.instances) (arrays_given (length m.instances) values p) ∙ handed_ticks (length m.instances) (arrays_among values) p in x _ _ (omega (arith, more, same)) (omega (arith, most, same))))

-- ---- what is pending of levels

inner_weight : (last : Bool) (xs : List Level) (w : List Item) → work_weight (with_inner last xs w) ≤ levels_weight xs + work_weight w
inner_weight true xs w = omega arith
inner_weight false xs w = omega arith

done_weight : (process : Bool) (w : List Item) → work_weight (process_done process w) ≤ 1 + work_weight w
done_weight true w = omega arith
done_weight false w = omega arith

begun_weight : (process : Bool) (line : ℕ) (w : List Item) → work_weight (process_begun process line w) ≤ 2 + work_weight w
begun_weight true line w = omega arith
begun_weight false line w = omega arith

further_some : (s : Source) (i : ℕ) (first : DeclNo) (x : Identifier) (xs : List Identifier) (w : List Item) (d : DeclNo) → declared_at s x.token.0 ≡ Some d → work_weight (further_arrays s i first (x ∷ xs) w) ≡ 3 + work_weight (further_arrays s i first xs w)
further_some s i first x xs w d e = rw e (omega arith)

further_none : (s : Source) (i : ℕ) (first : DeclNo) (x : Identifier) (xs : List Identifier) (w : List Item) → declared_at s x.token.0 ≡ None → work_weight (further_arrays s i first (x ∷ xs) w) ≡ 2 + work_weight (further_arrays s i first xs w)
further_none s i first x xs w e = rw e (omega arith)

further_weight : (s : Source) (i : ℕ) (first : DeclNo) (xs : List Identifier) (w : List Item) → work_weight (further_arrays s i first xs w) ≤ names_weight xs + work_weight w
further_weight s i first [] w = omega arith
further_weight s i first (x ∷ xs) w = by_declared (declared_at s x.token.0) refl (further_weight s i first xs w)
  where
    by_declared : (o : Option DeclNo) → declared_at s x.token.0 ≡ o → work_weight (further_arrays s i first xs w) ≤ names_weight xs + work_weight w → work_weight (further_arrays s i first (x ∷ xs) w) ≤ 3 + names_weight xs + work_weight w
    by_declared None e less = omega (arith, further_none s i first x xs w e, less)
    by_declared (Some d) e less = omega (arith, further_some s i first x xs w d e, less)

first_weight : (s : Source) (i : ℕ) (d : Option DeclNo) (xs : List Identifier) (w : List Item) → work_weight (first_array s i d xs w) ≤ 1 + names_weight xs + work_weight w
first_weight s i None xs w = omega arith
first_weight s i (Some d) xs w = omega (arith, further_weight s i d xs w)

arrays_weight : (s : Source) (i : ℕ) (kind : Kind) (n : ℕ) (xs : List Identifier) (w : List Item) → work_weight (arrays_of s i kind n xs w) ≤ names_weight xs + work_weight w
arrays_weight s i kind n [] w = omega arith
arrays_weight s i kind n (x ∷ xs) w = omega (arith, first_weight s i (declared_at s x.token.0) xs w)

bounds_small : (s : Source) (m : Instances) (i : ℕ) (bs : List BoundPair) (w : List Item) → work_weight (bounds_of s m i bs w) ≤ bounds_weight bs + work_weight w
bounds_small s m i [] w = omega arith
bounds_small s m i (b ∷ bs) w = omega (arith, close_small s m i b.lower, close_small s m i b.upper, bounds_small s m i bs w)

segments_small : (s : Source) (m : Instances) (i : ℕ) (kind : Kind) (xs : List Arrayed) (w : List Item) → work_weight (segments_of s m i kind xs w) ≤ segments_weight xs + work_weight w
segments_small s m i kind [] w = omega arith
segments_small s m i kind (a ∷ more) w =
    let last = segments_of s m i kind more w in
    omega (arith, bounds_small s m i a.bounds (arrays_of s i kind (length a.bounds) a.names last), arrays_weight s i kind (length a.bounds) a.names last, segments_small s m i kind more w)

declarations_small : (s : Source) (m : Instances) (i : ℕ) (ds : Declarations) (w : List Item) → work_weight (arrays_declared s m i ds w) ≤ declarations_weight ds + work_weight w
declarations_small s m i NoDeclaration w = omega arith
declarations_small s m i (With (Variables type vs) ds) w = declarations_small s m i ds w
declarations_small s m i (With (Arrays type token segments) ds) w =
    omega (arith, segments_small s m i (kind_named type) segments (arrays_declared s m i ds w), declarations_small s m i ds w)
declarations_small s m i (With (DeclareProcedure result token h a end) ds) w = declarations_small s m i ds w
declarations_small s m i (With (DeclareClass prefix token h interface a end) ds) w = declarations_small s m i ds w

-- ---- operators

module _ (s : Source) (l : Limits) (o : World) (m : Instances) (i : ℕ) (w : List Item) (vals : List Val) (rest : List Activation) where
  -- from where this much is pending beside the work behind it
  abbrev From : ℕ → World → Configuration → Type 0
  From n = Lower l o.ticks (n + work_weight w + chain_weight rest + kept_weight m)

  abbrev Falls : ℕ → Run Configuration → Type 0
  Falls n r = Goes (From n) r

  eval_falls : (t : Term) → Falls (term_weight t) (eval o m i w vals rest t)
  eval_falls (Given p) = lighter refl (omega arith)
  eval_falls (Cell j key) = having_goes (From 1) (cell m j key) o _ (λ v. lighter refl (omega arith))
  eval_falls (PlaceOf j key) = lighter refl (omega arith)
  eval_falls (ImageOf n) = lighter refl (omega arith)
  eval_falls (One op line a) = lighter refl (omega arith)
  eval_falls (Two op line a b) = lighter refl (omega arith)
  eval_falls (Joined line a b) = lighter refl (omega arith)
  eval_falls (Either c a b) = lighter refl (omega arith)
  eval_falls (ElementOf line a ts) = lighter refl (omega (arith, each_weight ts (Do (ElementOp (count ts) line) ∷ w)))
  eval_falls (ValueAt a) = lighter refl (omega arith)
  eval_falls (CopyOf line a) = lighter refl (omega arith)
  eval_falls (CallOf j k ts line) = lighter refl (omega (arith, each_weight ts (Do (CallOp k (count ts) line) ∷ w)))
  eval_falls (StandardOf name ts line) = lighter refl (omega (arith, each_weight ts (Do (StandardOp name line) ∷ w)))
  eval_falls (NewOf j k ts line) = lighter refl (omega (arith, each_weight ts (Do (NewOp k (count ts) line) ∷ w)))
  eval_falls (AttributeOf k key class line a) = lighter refl (omega arith)
  eval_falls (RemoteCallOf a k ts line) = lighter refl (omega (arith, each_weight ts (Do (CallOp k (count ts) line) ∷ w)))
  eval_falls (QualifiedPlaceOf j key k) = lighter refl (omega arith)
  eval_falls (QualifiedElementOf line k a ts) = lighter refl (omega (arith, each_weight ts (Do (QualifiedElementOp (count ts) line k) ∷ w)))
  eval_falls (MemberOf member k a) = lighter refl (omega arith)
  eval_falls (QuaOf k line a) = lighter refl (omega arith)
  eval_falls (FitsOf k line a) = lighter refl (omega arith)
  eval_falls (KeptOf a) = lighter refl (omega arith)
  eval_falls (NotNoneOf line a) = lighter refl (omega arith)
  eval_falls (TransferOf t line a) = lighter refl (omega arith)
  eval_falls (SetOf name ts) = lighter refl (omega (arith, each_weight ts (Do (SetOp name) ∷ w)))
  eval_falls (ProcessOf name line a) = lighter refl (omega arith)
  eval_falls (SimulationOf j name ts line) = lighter refl (omega (arith, each_weight ts (Do (SimulationOp name line) ∷ w)))
  eval_falls (OriginOf k token line a) = lighter refl (omega arith)
  eval_falls (ProcedureOf j k) = lighter refl (omega arith)
  eval_falls (RemoteProcedureOf a k line) = lighter refl (omega arith)
  eval_falls (MatchOf a v line) = lighter refl (omega arith)
  eval_falls (CheckedOf a leaves home es line) =
      when_goes (From (3 + (term_weight a + expressions_weight es))) (home == i) o _ (lighter refl (omega (arith, parameters_weight 0 line es (Do (CallValueOp (count_of es) leaves line) ∷ w))))
  eval_falls (ActualOf j p e) = lighter refl (omega arith)
  eval_falls (NamedOf j key wanted) = lighter refl (omega arith)
  eval_falls NoMeaning = none (From 1) o

  store_falls : (t : Target) → Falls (target_weight t) (stored o m i w vals rest t)
  store_falls (ToCell j key) = popping_goes (From 1) vals o _ (λ v vals. having_knows (From 1) (cell_set m j key v) o _ (λ n is. lighter refl (omega (arith, cell_kept m j key v n is))))
  store_falls ToAddress =
      popping_goes (From 1) vals o _ (λ v vals. popping_goes (From 1) vals o _ (λ p vals. having_goes (From 1) (variable_in p) o _ (λ p. putting_goes (From 1) p v o m _ (λ q n same still. lighter same (omega (arith, still))))))
  store_falls (ToText line) = assigning_goes (From 1) plain line vals o _ (λ p vals same. lighter same (omega arith))
  store_falls (ToTextOf j key line) = assigning_goes (From 1) plain line vals o _ (λ p vals same. lighter same (omega arith))
  store_falls (ToReference line) = lighter refl (omega arith)
  store_falls (ToNamed k line) = lighter refl (omega arith)
  store_falls (ToPlace a) = lighter refl (omega arith)
  store_falls (ToTextAt a line) = assigning_goes (From (3 + term_weight a)) plain line vals o _ (λ p vals same. lighter same (omega arith))
  store_falls (ToReferenceAt a line) = lighter refl (omega arith)

  -- an entry takes a tick
  block_falls : (k line : ℕ) (x : Option texts.Text) → Falls 1 (sub_block_entered s l o m i w vals rest k line x)
  block_falls k line None = none (From 1) o
  block_falls k line (Some (BlockText begin ds ss)) = entering_goes (From 1) l line _ o _ (λ p more most. ticked (omega (arith, more)) most)
  block_falls k line (Some (ProcedureText result h a)) = none (From 1) o
  block_falls k line (Some _) = none (From 1) o

  procedure_falls : (vals : List Val) (k line : ℕ) (values : List Val) (j : ℕ) (x : Option texts.Text) → Falls 1 (procedure_entered s l o m i w vals rest k line values j x)
  procedure_falls vals k line values j None = none (From 1) o
  procedure_falls vals k line values j (Some (BlockText begin ds ss)) = none (From 1) o
  procedure_falls vals k line values j (Some (ProcedureText result h a)) =
      having_goes (From 1) (filled_behind result values (first_cells s k (ProcedureText result h a))) o _ (λ filled. entering_goes (From 1) l line (words_of_cells (first_cells s k (ProcedureText result h a))) o _ (λ p more most.
      let same = handed_ticks (length m.instances) (arrays_by_value (formals_of s k) values) p in ticked (omega (arith, more, same)) (omega (arith, most, same))))
  procedure_falls vals k line values j (Some _) = none (From 1) o

  call_falls : (k n line : ℕ) → Falls 1 (called s l o m i w vals rest k n line)
  call_falls k n line =
      many_goes (From 1) n [] vals o _ (λ values vals. popping_goes (From 1) vals o _ (λ v vals. having_goes (From 1) (instance_in v) o _ (λ j. when_goes (From 1) (is_live m j) o _ (procedure_falls vals k line values j (texts.text s k)))))

  value_falls : (n : ℕ) (leaves : Bool) (line : ℕ) → Falls 1 (value_called s l o m i w vals rest n leaves line)
  value_falls n leaves line =
      many_goes (From 1) n [] vals o _ (λ values vals. popping_goes (From 1) vals o _ (λ v vals. having_goes (From 1) (procedure_in v) o _ (λ q. when_goes (From 1) (is_live m q.1) o _ (when_goes (From 1) (is_called_so s q.0 n leaves) o _ (procedure_falls vals q.0 line values q.1 (texts.text s q.0))))))

  -- an actual parameter of a call that is checked is passed as it stands, or its evaluation begins
  parameter_falls : (n : ℕ) (e : Expression) (line : ℕ) → Falls (3 + expression_weight e) (parameter_begun s o m i w vals rest n e line)
  parameter_falls n e line =
      having_goes (From (3 + expression_weight e)) (formal_in_hand s n vals) o _ (λ f. when_goes (From (3 + expression_weight e)) (fits s f (passed s e)) o _ (choosing_goes (From (3 + expression_weight e)) (is_by_name f.mode) _ _ (lighter refl (omega arith)) (lighter refl (omega arith))))

  check_falls : (es : Expressions) (line : ℕ) → Falls 1 (do_op s l o m i w vals rest (CheckOp es line))
  check_falls es line =
      popping_goes (From 1) vals o _ (λ v more. having_goes (From 1) (procedure_in v) o _ (λ q. counting_goes (From 1) line (length (formals_of s q.0)) (count_of es) o _ (
      suiting_goes (From 1) line (all_fit s (formals_of s q.0) (all_passed s es)) o _ (
      having_goes (From 1) (each_pair (agrees s m q.1 i) (formals_of s q.0) (all_passed s es)) o _ (λ agree. suiting_goes (From 1) line agree o _ (lighter refl (omega arith)))))))

  -- so do the entries of objects and of prefixed blocks
  object_falls : (vals : List Val) (k line : ℕ) (values : List Val) (j : ℕ) (xs : List Level) → Falls 1 (object_entered s l o m i w vals rest k line values j xs)
  object_falls vals k line values j xs =
      having_goes (From 1) (filled_in values (Some (cells_of_levels s xs ++ origins xs)) (class_formals s.tables k)) o _ (λ filled. entering_goes (From 1) l line (words_of_object s k (cells_of_levels s xs)) o _ (λ p more most.
      let n = length m.instances in
      let same = joined_ticks (is_process_text s k) j n (enrolled n (linkage_of_text s k) (arrays_given n values p)) ∙ enrolled_ticks n (linkage_of_text s k) (arrays_given n values p) ∙ handed_ticks n (arrays_among values) p in ticked (omega (arith, more, same)) (omega (arith, most, same))))

  generation_falls : (k n line : ℕ) → Falls 1 (generated s l o m i w vals rest k n line)
  generation_falls k n line =
      many_goes (From 1) n [] vals o _ (λ values vals. popping_goes (From 1) vals o _ (λ v vals. having_goes (From 1) (instance_in v) o _ (λ j. when_goes (From 1) (is_live m j) o _ (having_goes (From 1) (levels s k) o _ (λ xs.
      object_falls vals k line values j xs)))))

  prefix_falls : (k n line : ℕ) → Falls 1 (prefix_done s l o m i w vals rest k n line)
  prefix_falls k n line =
      many_goes (From 1) n [] vals o _ (λ values vals. having_goes (From 1) (levels s k) o _ (λ xs.
      prefixed_goes (From 1) s l o m (record { instance = i; work = w; values = vals } ∷ rest) k line values (Some i) EndPrefixed xs (λ p c more most. ticked more most)))

  -- a statement that is not empty takes a tick
  compound_falls : (b : Block) (p : World) → o.ticks < p.ticks → p.ticks ≤ l.ticks → Falls 1 (compound s p m i w vals rest b)
  compound_falls (Begin token NoDeclaration ss end) p lt le = ticked lt le
  compound_falls (Begin token (With d ds) ss end) p lt le = by_block (block_around s token)
    where
      by_block : (k : Option ℕ) → Falls 1 (entered_at p m i w vals rest k (line_at s token))
      by_block None = none (From 1) p
      by_block (Some k) = ticked lt le

  exec_falls : (a : Statement) → Falls 1 (exec s l o m i w vals rest a)
  exec_falls (syntax.Empty token) = lighter refl (omega arith)
  exec_falls (syntax.Compound b) = ticking_goes (From 1) l o _ (λ p more most. compound_falls b p (omega (arith, more)) most)
  exec_falls (syntax.Prefixed class es b) = ticking_goes (From 1) l o _ (λ p more most. by_block p (omega (arith, more)) most (block_around s (begin_of b)))
    where
      by_block : (p : World) → o.ticks < p.ticks → p.ticks ≤ l.ticks → (k : Option ℕ) → Falls 1 (prefix_begun s p m i w vals rest class es k)
      by_block p lt le None = none (From 1) p
      by_block p lt le (Some k) = ticked lt le
  exec_falls (syntax.Inner token) = ticking_goes (From 1) l o _ (λ p more most. by_level p (omega (arith, more)) most (block_around s token))
    where
      by_level : (p : World) → o.ticks < p.ticks → p.ticks ≤ l.ticks → (k : Option ℕ) → Falls 1 (inner_begun s p m i w vals rest k)
      by_level p lt le None = none (From 1) p
      by_level p lt le (Some k) = having_goes (From 1) (levels_of_instance s (text_at m i)) p _ (λ xs. ticked lt le)
  exec_falls (syntax.Call e) = ticking_goes (From 1) l o _ (λ p more most. ticked (omega (arith, more)) most)
  exec_falls (syntax.Assign left rs) = ticking_goes (From 1) l o _ (λ p more most. by_lefts p (omega (arith, more)) most _ _)
    where
      by_lefts : (p : World) → o.ticks < p.ticks → p.ticks ≤ l.ticks → (x : Option statement.Lefts) (e : Expression) → Falls 1 (assigned s p m i w vals rest x e)
      by_lefts p lt le None e = none (From 1) p
      by_lefts p lt le (Some x) e = ticked lt le
  exec_falls (syntax.Choose token c a b) = ticking_goes (From 1) l o _ (λ p more most. ticked (omega (arith, more)) most)
  exec_falls (syntax.Repeat token c a) = ticking_goes (From 1) l o _ (λ p more most. ticked (omega (arith, more)) most)
  exec_falls (syntax.For token x sign assign es a) = ticking_goes (From 1) l o _ (λ p more most. by_target p (omega (arith, more)) most _)
    where
      by_target : (p : World) → o.ticks < p.ticks → p.ticks ≤ l.ticks → (t : Option Target) → Falls 1 (looping p m i w vals rest t es a)
      by_target p lt le None = none (From 1) p
      by_target p lt le (Some t) = ticked lt le
  exec_falls (syntax.Inspect token object opening a end other) = ticking_goes (From 1) l o _ (λ p more most. ticked (omega (arith, more)) most)
  exec_falls (syntax.InspectWhen token object arms other) = ticking_goes (From 1) l o _ (λ p more most. ticked (omega (arith, more)) most)
  exec_falls (syntax.Activate token word process schedule) = ticking_goes (From 1) l o _ (λ p more most. by_block p (omega (arith, more)) most (simulation_home s m i token))
    where
      by_block : (p : World) → o.ticks < p.ticks → p.ticks ≤ l.ticks → (b : Option ℕ) → Falls 1 (activated s p m i w vals rest b token word process schedule)
      by_block p lt le None = none (From 1) p
      by_block p lt le (Some b) = ticked lt le

  execs_falls : (ss : Statements) → Falls (statements_weight ss) (execs o m i w vals rest ss)
  execs_falls NoStatement = lighter refl (omega arith)
  execs_falls (Also a more) = lighter refl (omega arith)

  -- connections: one arm is left less, or a statement is begun
  connected_falls : (n k : ℕ) (p : Plain) (vals : List Val) (a : Statement) → 3 ≤ n → Falls n (connected o m i w vals rest k p a)
  connected_falls n k p vals a h = having_knows (From n) (cell_made m i (Connection k) (Of p)) o _ (λ made is. lighter refl (omega (arith, h, made_kept m i (Connection k) (Of p) made is)))

  inspect_falls : (vals : List Val) (k : ℕ) (a : Statement) (other : Statements) (p : Plain) → Falls (3 + statements_weight other) (object_connected o m i w vals rest k a other p)
  inspect_falls vals k a other (Object j) = connected_falls (3 + statements_weight other) k (Object j) vals a (omega arith)
  inspect_falls vals k a other (MainOf b) = connected_falls (3 + statements_weight other) k (MainOf b) vals a (omega arith)
  inspect_falls vals k a other Nothing = lighter refl (omega arith)
  inspect_falls vals k a other (Integer z) = none (From (3 + statements_weight other)) o
  inspect_falls vals k a other (Truth b) = none (From (3 + statements_weight other)) o
  inspect_falls vals k a other (Character c) = none (From (3 + statements_weight other)) o
  inspect_falls vals k a other (Text t) = none (From (3 + statements_weight other)) o

  arm_falls : (vals : List Val) (fits : Bool) (k : ℕ) (p : Plain) (a : Statement) (more : Arms) (other : Statements) → Falls (3 + ((1 + arms_weight more) + statements_weight other)) (arm_tried o m i w vals rest fits k p a more other)
  arm_falls vals true k p a more other = connected_falls (3 + ((1 + arms_weight more) + statements_weight other)) k p vals a (omega arith)
  arm_falls vals false k p a more other = lighter refl (omega arith)

  arms_falls : (vals : List Val) (arms : Arms) (other : Statements) (p : Plain) → Falls (3 + (arms_weight arms + statements_weight other)) (arms_tried s o m i w vals rest arms other p)
  arms_falls vals (When token class opening a end more) other (Object j) =
      having_goes (From (3 + ((1 + arms_weight more) + statements_weight other))) (class_at s class.token.0) o _ (λ k. arm_falls vals (stands_in s m k (Object j)) opening (Object j) a more other)
  arms_falls vals (When token class opening a end more) other (MainOf b) =
      having_goes (From (3 + ((1 + arms_weight more) + statements_weight other))) (class_at s class.token.0) o _ (λ k. arm_falls vals (stands_in s m k (MainOf b)) opening (MainOf b) a more other)
  arms_falls vals NoArm other (Object j) = lighter refl (omega arith)
  arms_falls vals NoArm other (MainOf b) = lighter refl (omega arith)
  arms_falls vals NoArm other Nothing = lighter refl (omega arith)
  arms_falls vals (When token class opening a end more) other Nothing = lighter refl (omega arith)
  arms_falls vals NoArm other (Integer z) = none (From (3 + (0 + statements_weight other))) o
  arms_falls vals NoArm other (Truth b) = none (From (3 + (0 + statements_weight other))) o
  arms_falls vals NoArm other (Character c) = none (From (3 + (0 + statements_weight other))) o
  arms_falls vals NoArm other (Text t) = none (From (3 + (0 + statements_weight other))) o
  arms_falls vals (When token class opening a end more) other (Integer z) = none (From (3 + ((1 + arms_weight more) + statements_weight other))) o
  arms_falls vals (When token class opening a end more) other (Truth b) = none (From (3 + ((1 + arms_weight more) + statements_weight other))) o
  arms_falls vals (When token class opening a end more) other (Character c) = none (From (3 + ((1 + arms_weight more) + statements_weight other))) o
  arms_falls vals (When token class opening a end more) other (Text t) = none (From (3 + ((1 + arms_weight more) + statements_weight other))) o

  -- a transfer of control
  below_falls : (p : World) → p.ticks ≡ o.ticks → (operating : List Activation) (standings : List (Standing Activation)) → chain_weight operating + standings_weight standings ≤ work_weight w + chain_weight rest + kept_weight m → Falls 1 (going_below p operating (record m { standings = standings }))
  below_falls p same [] standings less = tt
  below_falls p same (a ∷ below) standings less = lighter same (omega (arith, less))

  moved_falls : (p : World) → p.ticks ≡ o.ticks → (line : ℕ) (r : Result (Components Activation) RunError) → NotMore activation_weight (work_weight w + chain_weight rest + kept_weight m) r → Falls 1 (computing line r p (λ c. going_below p c.operating (record m { standings = c.standings })))
  unfolding computing
  moved_falls p same line (Ok c) less = below_falls p same c.operating c.standings less
  moved_falls p same line (Err e) less = stops (From 1) _ p

  transfer_falls : (vals : List Val) (t : Transfer) (line : ℕ) (p : Plain) → Falls 1 (transferring owner t line o (record { instance = i; work = w; values = vals } ∷ rest) m p)
  unfolding transferring
  transfer_falls vals t line p = by_value p
    where
      by_component : (y : Option (Option ℕ)) → Falls 1 (having y o (λ y. having (transferred owner t (system_head m) (record { operating = record { instance = i; work = w; values = vals } ∷ rest; standings = m.standings }) y) o (λ r. computing line r o (λ c. going_below o c.operating (record m { standings = c.standings })))))
      by_component y = having_goes (From 1) y o _ (λ y. having_knows (From 1) (transferred owner t (system_head m) _ y) o _ (λ r is. moved_falls o refl line r (subst (NotMoreIn activation_weight (work_weight w + chain_weight rest + kept_weight m)) is (transfer_small owner activation_weight t (system_head m) _ y))))

      by_value : (p : Plain) → Falls 1 (transferring owner t line o (record { instance = i; work = w; values = vals } ∷ rest) m p)
      by_value (MainOf b) = stops (From 1) _ o
      by_value (Object j) = by_component (component_in (Object j))
      by_value Nothing = by_component (component_in Nothing)
      by_value (Integer z) = by_component (component_in (Integer z))
      by_value (Truth b) = by_component (component_in (Truth b))
      by_value (Character c) = by_component (component_in (Character c))
      by_value (Text x) = by_component (component_in (Text x))

  -- so does scheduling, or control stays where it is
  next_falls : (vals : List Val) (line : ℕ) (p : World) → p.ticks ≡ o.ticks → (x : Simulation) (next : Next) → Falls 1 (going_to owner line p (record { instance = i; work = w; values = vals } ∷ rest) m x next)
  next_falls vals line p same x next.Stay = lighter same (omega arith)
  next_falls vals line p same x (next.Resume n) =
      having_goes (From 1) (component_of x n.0) p _ (λ y. moved_falls p same line _ (given_small owner activation_weight (system_head m) (record { operating = record { instance = i; work = w; values = vals } ∷ rest; standings = m.standings }) x.block y))

  decided_falls : (line : ℕ) (p : World) (x : ℕ × Simulation) (r : Result (List Notice) RunError) (vals : List Val) → p.ticks ≡ o.ticks → Falls 1 (decided m i w rest line p x r vals)
  unfolding deciding
  decided_falls line p x r vals same =
      computing_goes (From 1) line r p _ (λ notices. computing_goes (From 1) line (next_of x.1.notices notices) p _ (λ next.
      next_falls vals line (with_simulation p x.0 (record x.1 { notices = notices })) same x.1 next))

  inner_falls : (xs : List Level) → Falls (levels_weight xs) (inner_done o m i w vals rest xs)
  inner_falls [] = lighter refl (omega arith)
  inner_falls (x ∷ xs) =
      let behind = process_done x.process (EndLevel x.text ∷ w) in
      let inside = with_inner x.inner_last xs behind in
      lighter refl (omega (arith, begun_weight x.process no_line (Do (Execs x.statements) ∷ inside), inner_weight x.inner_last xs behind, done_weight x.process (EndLevel x.text ∷ w)))

  elements_falls : (t : Target) (es : List Element) (a : Statement) → Falls (elements_weight t es) (elements s l o m i w vals rest t es a)
  elements_falls t [] a = lighter refl (omega arith)
  elements_falls t (syntax.Once e ∷ es) a = ticking_goes (From 1) l o _ (λ p more most. ticked (omega (arith, more)) most)
  elements_falls t (syntax.While e token c ∷ es) a = lighter refl (omega arith)
  elements_falls t (syntax.Step first token step limit ∷ es) a = lighter refl (omega (arith, close_small s m i first, close_small s m i step))

  give_falls : (v : Val) (ts : List Target) → Falls (op_weight (GiveOp v ts)) (do_op s l o m i w vals rest (GiveOp v ts))
  give_falls v [] = lighter refl (omega arith)
  give_falls v (t ∷ ts) = lighter refl (omega arith)

  raise_falls : (t : Target) (line : ℕ) (step limit : Expression) (a : Statement) → Falls (7 + (expression_weight step + (target_weight t + target_weight t))) (raised s o m i w vals rest t line step limit a)
  raise_falls t line step limit a = lighter refl (omega (arith, close_small s m i step, reading_weight t (Do (TwoOp (dyadic.Calculate calculation.Add) line) ∷ Do (StoreOp t) ∷ Do (BackOp (StepTestOp t line step limit a)) ∷ w)))

  pub op_falls : (op : Op) → Falls (op_weight op) (do_op s l o m i w vals rest op)
  op_falls (Eval t) = eval_falls t
  op_falls (OneOp op line) = one_goes (From 1) plain op line vals o _ (λ z vals. lighter refl (omega arith))
  op_falls (TwoOp op line) = two_goes (From 1) plain op line vals o _ (λ z vals. lighter refl (omega arith))
  op_falls (IfOp a b) = truth_goes (From (op_weight (IfOp a b))) plain vals o _ (λ c vals. choosing_goes (From (op_weight (IfOp a b))) c _ _ (lighter refl (omega arith)) (lighter refl (omega arith)))
  op_falls (JoinOp line) = joining_goes (From 1) plain l line vals o _ (λ z p vals same. lighter same (omega arith))
  op_falls (ElementOp n line) = finding_goes (From 1) plain array_in n line vals o _ (λ a k vals. lighter refl (omega arith))
  op_falls FetchOp = popping_goes (From 1) vals o _ (λ v vals. having_goes (From 1) (place_in v) o _ (λ p. having_goes (From 1) (value_at o m p) o _ (λ v. lighter refl (omega arith))))
  op_falls (CopyOp line) = popping_goes (From 1) vals o _ (λ v vals. having_goes (From 1) (array_in v) o _ (λ a. copying_goes (From 1) l line i a o _ (λ n p same. lighter same (omega arith))))
  op_falls (CallOp k n line) = call_falls k n line
  op_falls (StandardOp name line) = performing_goes (From 1) put_back (λ m n. kept_weight n ≡ kept_weight m) (λ m. refl) (back_goes (From 1)) _ l line name vals o m _ (λ p n value vals same still. lighter same (omega (arith, still)))
  op_falls (NewOp k n line) = generation_falls k n line
  op_falls (AttributeOp k key class line) = object_goes (From 1) plain line vals o _ (λ j vals. when_goes (From 1) (is_in s m k j) o _ (lighter refl (omega arith)))
  op_falls (ObjectOp k line) = object_goes (From 1) plain line vals o _ (λ j vals. when_goes (From 1) (has_procedure s m k j) o _ (lighter refl (omega arith)))
  op_falls (QualifiedElementOp n line k) = finding_goes (From 1) plain array_in n line vals o _ (λ a k vals. lighter refl (omega arith))
  op_falls (MemberOp member k) = plain_goes (From 1) plain vals o _ (λ p vals. having_goes (From 1) (is_member s m member k p) o _ (λ b. lighter refl (omega arith)))
  op_falls (QuaOp k line) = reference_goes (From 1) plain line vals o _ (λ p vals. qualifying_goes (From 1) line (stands_in s m k) p o _ (lighter refl (omega arith)))
  op_falls (FitsOp k line) = plain_goes (From 1) plain vals o _ (λ p vals. qualifying_goes (From 1) line (stands_in s m k) p o _ (lighter refl (omega arith)))
  op_falls KeepOp = popping_goes (From 1) vals o _ (λ v vals. having_goes (From 1) (array_in v) o _ (λ a. keeping_goes (From 1) a o _ (λ p same. lighter same (omega arith))))
  op_falls (NotNoneOp line) = reference_goes (From 1) plain line vals o _ (λ p vals. lighter refl (omega arith))
  op_falls (TransferOp t line) = plain_goes (From 1) plain vals o _ (λ p vals. transfer_falls vals t line p)
  op_falls (SetOp name) = linkage_goes (From 1) plain name vals o _ (λ p value vals same. lighter same (omega arith))
  op_falls (ProcessOp name line) = process_goes (From 1) plain (encloser_of m) name line vals o _ (λ p vals. lighter refl (omega arith))
  op_falls (SimulationOp name line) =
      simulation_goes (From 1) plain instance_in (in_process s m) o (decided m i w rest line) (decided_falls line) None name vals _ (λ p vals. lighter refl (omega arith))
  op_falls (VirtualOp v line) = object_goes (From 1) plain line vals o _ (λ j vals. matching_goes (From 1) line (match_at s m v j) o _ (λ k. lighter refl (omega arith)))
  op_falls (OriginOp k token line) =
      object_goes (From 1) plain line vals o _ (λ j vals. when_goes (From 1) (is_in s m k j) o _ (having_knows (From 1) (cell_set m j Origin (Of (Integer (pos token)))) o _ (λ n is.
      lighter refl (omega (arith, cell_kept m j Origin (Of (Integer (pos token))) n is)))))
  op_falls (ProcedureOp k) = popping_goes (From 1) vals o _ (λ v vals. having_goes (From 1) (instance_in v) o _ (λ j. lighter refl (omega arith)))
  op_falls (CheckOp es line) = check_falls es line
  op_falls (ParameterOp n e line) = parameter_falls n e line
  op_falls (CallValueOp n leaves line) = value_falls n leaves line
  op_falls (NamedOp j key wanted) =
      having_goes (From 0) (cell m j key) o _ (λ v. having_goes (From 0) (actual_in v) o _ (λ a. when_goes (From 0) (is_live m a.home) o _ (ticking_goes (From 0) l o _ (λ p more most. ticked (omega (arith, more)) most))))
  op_falls (CloseOp p e) = lighter refl (omega (arith, close_passed_small p s m i e))
  op_falls DropOp = popping_goes (From 1) vals o _ (λ v vals. lighter refl (omega arith))
  op_falls AgainOp = popping_goes (From 1) vals o _ (λ v vals. lighter refl (omega arith))
  op_falls SwapOp = popping_goes (From 1) vals o _ (λ v vals. popping_goes (From 1) vals o _ (λ u vals. lighter refl (omega arith)))
  op_falls (StoreOp t) = store_falls t
  op_falls (ShareOp ts) = popping_goes (From (op_weight (ShareOp ts))) vals o _ (λ v vals. lighter refl (omega arith))
  op_falls (GiveOp v ts) = give_falls v ts
  op_falls (ReferOp line) =
      plain_goes (From 1) plain vals o _ (λ p vals. popping_goes (From 1) vals o _ (λ v vals. having_goes (From 1) (place_in v) o _ (λ a. putting_reference_goes (From 1) s line a p o m _ (λ q n same still. lighter same (omega (arith, still))))))
  op_falls (ArrayOp kind n line) = integers_goes (From 1) plain (2 * n) [] vals o _ (λ bounds vals. making_goes (From 1) l line i kind (pairs bounds) o _ (λ n p same. lighter same (omega arith)))
  op_falls (Exec a) = exec_falls a
  op_falls (Execs ss) = execs_falls ss
  op_falls (EnterOp k line) = block_falls k line (texts.text s k)
  op_falls (PrefixedOp k n line) = prefix_falls k n line
  op_falls (DeclareOp ds) = lighter refl (omega (arith, declarations_small s m i ds w))
  op_falls (LevelOp k) = lighter refl (omega arith)
  op_falls (InnerOp xs) = inner_falls xs
  op_falls SelfOp = lighter refl (omega arith)
  op_falls EndProcessOp = having_goes (From 1) (encloser_of m i) o _ (λ b. having_goes (From 1) (located o.simulations b) o _ (λ x. having_goes (From 1) (end_line s m i) o _ (λ line. decided_falls line o _ _ vals refl)))
  op_falls (BlockOp b) = lighter refl (omega arith)
  op_falls (ActivateOp again timing line) = activation_goes (From 1) plain instance_in (in_process s m) o (decided m i w rest line) (decided_falls line) again timing vals
  op_falls (ConnectOp k a other) = plain_goes (From (3 + statements_weight other)) plain vals o _ (λ p vals. inspect_falls vals k a other p)
  op_falls (WhenOp arms other) = plain_goes (From (3 + (arms_weight arms + statements_weight other))) plain vals o _ (λ p vals. arms_falls vals arms other p)
  op_falls (ChooseOp a b) =
      truth_goes (From (op_weight (ChooseOp a b))) plain vals o _ (λ c vals. choosing_goes (From (op_weight (ChooseOp a b))) c _ _ (lighter refl (omega (arith, branch_weight b w))) (lighter refl (omega arith)))
  op_falls (TestOp c a) = ticking_goes (From 1) l o _ (λ p more most. ticked (omega (arith, more)) most)
  op_falls (BranchOp a again) = truth_goes (From (op_weight (BranchOp a again))) plain vals o _ (λ c vals. choosing_goes (From (op_weight (BranchOp a again))) c _ _ (lighter refl (omega arith)) (lighter refl (omega arith)))
  op_falls (BackOp op) = lighter refl (omega arith)
  op_falls PastOp = lighter refl (omega arith)
  op_falls (ElementsOp t es a) = elements_falls t es a
  op_falls (WhileElementOp t e c a) = ticking_goes (From 1) l o _ (λ p more most. ticked (omega (arith, more)) most)
  op_falls (StepTestOp t line step limit a) = ticking_goes (From 1) l o _ (λ p more most. ticked (omega (arith, more)) most)
  op_falls (StepOp line) = step_goes (From 1) plain line vals o _ (λ b vals. lighter refl (omega arith))
  op_falls (RaiseOp t line step limit a) = raise_falls t line step limit a

-- ---- ends

-- an instance ends, and the one below goes on
pub leaving_falls : (s : Source) (l : Limits) (o : World) (m : Instances) (i n : ℕ) (rest : List Activation) (v : Option Val) → Goes (Lower l o.ticks (1 + n + chain_weight rest + kept_weight m)) (leaving s rest v i o m)
unfolding leaving
leaving_falls s l o m i n [] v = none (Lower l o.ticks (1 + n + 0 + kept_weight m)) o
leaving_falls s l o m i n (a ∷ rest) v = lighter (back_ticks (is_given_at_end m i) o i _) (omega (arith, left_kept (is_given_at_end m i) m i))

-- the evaluation of an actual parameter by name ends, and what is below gets what it asked for
module _ (P : World → Configuration → Type 0) where
  locating_goes : (line : ℕ) (place value_too : Bool) (o : World) (r : Run Configuration) → Goes P r → Goes P (locating line place value_too o r)
  unfolding locating
  locating_goes line true value_too o r x = x
  locating_goes line false true o r x = x
  locating_goes line false false o r x = stops P _ o

  admitted_goes : (s : Source) (m : Instances) (class : Option ℕ) (line : ℕ) (v : Val) (o : World) (r : Run Configuration) → Goes P r → Goes P (admitted s m class line v o r)
  admitted_goes s m None line v o r x = x
  admitted_goes s m (Some k) line v o r x = having_goes P (plain v) o _ (λ p. qualifying_goes P line (stands_in s m k) p o _ x)

pub evaluated_falls : (s : Source) (l : Limits) (o : World) (m : Instances) (n : ℕ) (rest : List Activation) (wanted : Use) (v : Val) → Goes (Lower l o.ticks (1 + n + chain_weight rest + kept_weight m)) (evaluated s l o m rest wanted v)
evaluated_falls s l o m n [] wanted v = none (Lower l o.ticks (1 + n + 0 + kept_weight m)) o
evaluated_falls s l o m n (a ∷ rest) (ForValue class line) v =
    having_goes (Lower l o.ticks (1 + n + chain_weight (a ∷ rest) + kept_weight m)) (value_given o m v) o _ (λ u. admitted_goes (Lower l o.ticks (1 + n + chain_weight (a ∷ rest) + kept_weight m)) s m class line u o _ (lighter refl (omega arith)))
evaluated_falls s l o m n (a ∷ rest) (ForPlace value_too line) v = locating_goes (Lower l o.ticks (1 + n + chain_weight (a ∷ rest) + kept_weight m)) line (is_place v) value_too o _ (lighter refl (omega arith))
evaluated_falls s l o m n (a ∷ rest) (ForParameter number line) v =
    let P = Lower l o.ticks (1 + n + chain_weight (a ∷ rest) + kept_weight m) in
    having_goes P (formal_in_hand s number a.values) o _ (λ f. having_goes P (value_given o m v) o _ (λ u.
    admitted_goes P s m (parameter_qualification s f.kind f.ty) line u o _ (copied_goes P Of plain pending.ArrayValue array_in l line a.instance (copied_for f) u o _ (λ v p same. lighter same (omega arith)))))

-- an object ends, and what is below goes on
pub object_ended_falls : (s : Source) (l : Limits) (o : World) (m : Instances) (i n : ℕ) (rest : List Activation) → Goes (Lower l o.ticks (1 + n + chain_weight rest + kept_weight m)) (ticking l o (λ p. object_ended owner p m i rest))
unfolding object_ended
object_ended_falls s l o m i n rest = ticking_goes (Lower l o.ticks (1 + n + chain_weight rest + kept_weight m)) l o _ (λ p more most. by_standing p (omega (arith, more)) most (slice_get m.standings i) rest)
  where
    by_main : (p : World) → o.ticks < p.ticks → p.ticks ≤ l.ticks → (s : ℕ) (k : Option (Cut Activation)) (x : Option (Standing Activation)) → Goes (Lower l o.ticks (1 + n + chain_weight rest + kept_weight m)) (main_goes_on owner p m i s k x)
    by_main p lt le s None x = tt
    by_main p lt le s (Some k) None = tt
    by_main p lt le s (Some k) (Some (NoObject None)) = tt
    by_main p lt le s (Some k) (Some (NoObject (Some []))) = ticked lt le
    by_main p lt le s (Some k) (Some (NoObject (Some (a ∷ main)))) = ticked lt le
    by_main p lt le s (Some k) (Some AttachedObject) = tt
    by_main p lt le s (Some k) (Some (DetachedObject chain)) = tt
    by_main p lt le s (Some k) (Some ResumedObject) = tt
    by_main p lt le s (Some k) (Some TerminatedObject) = tt

    by_standing : (p : World) → o.ticks < p.ticks → p.ticks ≤ l.ticks → (x : Option (Standing Activation)) (below : List Activation) → Goes (Lower l o.ticks (1 + n + chain_weight rest + kept_weight m)) (ended_as owner p m i below x)
    by_standing p lt le (Some AttachedObject) [] = tt
    by_standing p lt le (Some AttachedObject) (a ∷ below) = ticked lt le
    by_standing p lt le None below = tt
    by_standing p lt le (Some (NoObject main)) below = tt
    by_standing p lt le (Some (DetachedObject chain)) below = tt
    by_standing p lt le (Some ResumedObject) below = by_main p lt le (system_head m i) (cut_at owner (system_head m i) below) (slice_get m.standings (system_head m i))
    by_standing p lt le (Some TerminatedObject) below = tt

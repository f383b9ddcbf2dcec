-- Where control has come to what is pending, the machine follows the program: both make a step, or the program one that shows nothing.
use Rattle.std.proofs.Common.{◌≡◌, ◌<◌, ℕ, List, [], ◌∷◌, length, refl, sym, ap, ◌∙◌, subst, arith, Bool, true}
use Rattle.std.specs.Prelude.{pos, ◌==◌, if◌then◌else◌}
use Rattle.sim_base.specs.declared.limits.Limits.{Limits}
use Rattle.sim_scope.specs.Source.{Source, level_of}
use Rattle.sim_tree.specs.Syntax.{Also, Element, NoStatement, Statement, Statements, Expressions}
use Rattle.sim_tree.specs.Syntax as syntax
use Rattle.sim_values.specs.declared.standard.Standard.{Standard}
use Rattle.sim_code.specs.declared.instr.Instr.TheVariants as i
use Rattle.sim_code.specs.Code.{CodeOf}
use Rattle.sim_code.specs.Events.{no_rule, when}
use Rattle.sim_code.specs.Outcome.{Ended, Going, NoRule, World}
use Rattle.sim_code.specs.Machine.{Frames, Machine, Value}
use Rattle.sim_code.specs.Machine as machine
use Rattle.sim_code.specs.Rows.{mstep, on_top}
use Rattle.sim_code.proofs.Simulation.{Alike, unruled}
use Rattle.sim_meaning.specs.Meaning.{do_op, has_result, step}
use Rattle.sim_meaning.specs.Pending.{Activation, ActualOf, AgainOp, ArrayOp, AttributeOf, AttributeOp, BackOp, BranchOp, CallOf, CallOp, Cell, ChooseOp, Configuration, ConnectOp, CopyOf, CopyOp, DeclareOp, Do, DropOp, Either, ElementOf, ElementOp, ElementsOp, EndBlock, EndLevel, EndObject, EndPrefixed, EndProcedure, EndProgram, EnterOp, Eval, Exec, Execs, FetchOp, FitsOf, FitsOp, GiveOp, Given, IfOp, ImageOf, Instances, Item, JoinOp, Joined, KeepOp, KeptOf, MemberOf, MemberOp, NewOf, NewOp, NotNoneOf, NotNoneOp, ObjectOp, One, OneOp, Op, PastOp, PlaceOf, PrefixedOp, QuaOf, QuaOp, QualifiedElementOf, QualifiedElementOp, QualifiedPlaceOf, RaiseOp, ReferOp, RemoteCallOf, SetOf, SelfOp, SetOp, ShareOp, StandardOf, StandardOp, StepOp, StepTestOp, StoreOp, SwapOp, Target, Term, Terms, TestOp, ToAddress, ToCell, ToPlace, ToReference, ToReferenceAt, ToText, ToTextAt, ToTextOf, TransferOf, TransferOp, Two, TwoOp, NoMeaning, Val, ValueAt, WhenOp, WhileElementOp, ActivateOp, BlockOp, ProcessOf, ProcessOp, SimulationOf, SimulationOp, VirtualOp, CheckOp, CallValueOp, CloseOp, EndEvaluation, NamedOf, NamedOp, ToNamed, CheckedOf, MatchOf, OriginOf, OriginOp, ParameterOp, ProcedureOf, ProcedureOp, RemoteProcedureOf}
use Rattle.sim_meaning.specs.Entries.{arrays_declared}
use Rattle.sim_meaning.specs.Steps.{count, count_of, go, parameters}
use Rattle.sim_meaning.specs.Sane.{AllLead, NamesOn, Sane, SaneOn}
use Rattle.codegen.specs.Compiled.{Compiled}
use Rattle.sim_relate.proofs.Assigns as assigns
use Rattle.sim_relate.proofs.Calls as calls
use Rattle.sim_relate.proofs.Checked as checked
use Rattle.sim_relate.proofs.Connections as connections
use Rattle.sim_relate.proofs.Ends as ends
use Rattle.sim_relate.proofs.Entries as entries
use Rattle.sim_relate.proofs.Evaluations as evaluations
use Rattle.sim_relate.proofs.Here.{Here, act, at_row, goes, here_at, state_at, there_of, with_values}
use Rattle.sim_relate.proofs.DeclaredArrays.{arrays_at}
use Rattle.sim_relate.proofs.Fitting as fitting
use Rattle.sim_relate.proofs.Fixed as fixed
use Rattle.sim_relate.proofs.Generated as generated
use Rattle.sim_relate.proofs.Joins as joins
use Rattle.sim_relate.proofs.Stages as stages
use Rattle.sim_relate.proofs.Living.{reached}
use Rattle.sim_relate.proofs.Loops as loops
use Rattle.sim_relate.proofs.Operators as operators
use Rattle.sim_relate.proofs.Origins as origins
use Rattle.sim_relate.proofs.Passed as passed
use Rattle.sim_relate.proofs.Pending.{each_pends, pends}
use Rattle.sim_relate.proofs.PrefixedEntries as prefixed
use Rattle.sim_relate.proofs.ProcessEnds as process_ends
use Rattle.sim_relate.proofs.Quiet.{arrays_weight, each_weight, weight}
use Rattle.sim_relate.proofs.Quiet as quiet_steps
use Rattle.sim_relate.proofs.Known.{Any, FixedOf, Kind, LinkTo, Located, Low, Named, OwnerOf, Refers, anys, given, low_same, more_at, owner_of, site_at, text_gives, Runs, Spot, Settled, LinkOf}
use Rattle.sim_relate.proofs.Relation.{BeginsAt, ChainAt, ChainNow, InStage, NowAt, OpAt, StandingsAt, StateAt, StateNow, StoreAt, WorkAt, WithInnerIs, declares, inner_here, inner_last, stays, with_inner, ends_process}
use Rattle.sim_relate.proofs.References as references
use Rattle.sim_relate.proofs.Settle.{as_act}
use Rattle.sim_relate.proofs.Sets as sets
use Rattle.sim_relate.proofs.Simulations as simulations
use Rattle.sim_relate.proofs.Statements as statements
use Rattle.sim_relate.proofs.Transfers as transfers
use Rattle.sim_relate.proofs.Ranked.{InEach, Meets, at_once, in_steps}
use Rattle.sim_relate.proofs.Ranked as ranked
use Rattle.sim_relate.proofs.Tops.{here_top, now_flag, top_is_free}
use Rattle.sim_relate.proofs.Trees.{FetchesAt}
use Rattle.sim_relate.proofs.Virtuals as virtuals
use Rattle.sim_relate.proofs.Waiting.{NoValue, Wait, gets_free, given_by, suspended_by}

-- a step of both, one of the program that is by a rule and which several of the machine follow, or one of the program alone that leaves less to be
-- taken apart
pub data MovesNow (s : Source) (code : CodeOf) (l : Limits) (o : World) (c : Configuration) (x : Machine) : Type 0 where
  both : Alike (StateAt s code) (step s l o c) (mstep code l o x) → MovesNow s code l o c x
  several : (((p : World) → step s l o c ≡ Ended p NoRule → ⊥) → Meets (mstep code l) (InEach (StateAt s code)) (step s l o c) o x) → MovesNow s code l o c x
  quiet : (c' : Configuration) → step s l o c ≡ Going o c' → StateAt s code c' x → weight s c' < weight s c → MovesNow s code l o c x

module _ (s : Source) (code : CodeOf) (compiled : Compiled s code) (l : Limits) (o : World) (m : Instances) (inst : ℕ) (w : List Item) (vals : List Val) (rest : List Activation) (fs : Frames) (t : ℕ) (b : Runs) (pc : ℕ) (stack : List Value) (below : List machine.Activation) (ks : List Kind) (here : Here s code m fs inst rest t b ks vals stack) (u q : ℕ) (ks' : List Kind) (low : Settled s code t b u) (k : WorkAt s code m fs (λ v. ChainAt s code m fs rest v below) inst t b u w q ks') where
  abbrev Below : Wait → Type 0
  Below v = ChainAt s code m fs rest v below

  abbrev machine_here : Machine
  machine_here = record { chain = act inst pc stack b ∷ below; memory = fs }

  abbrev Follows : Op → Type 0
  Follows op = BeginsAt s code m fs inst (site_at t b u) op pc q ks ks' → MovesNow s code l o (record { chain = record { instance = inst; work = Do op ∷ w; values = vals } ∷ rest; memory = m }) machine_here

  -- where the work alone has changed
  stands_so : (x : List Item) → WorkAt s code m fs Below inst t b u x pc ks → StateAt s code (record { chain = record { instance = inst; work = x; values = vals } ∷ rest; memory = m }) machine_here
  stands_so x a = state_at s code u pc (there_of s code here) a refl

  -- a call begins with the link to the instance in which the procedure is declared
  link : (j c : ℕ) (ts : Terms) (line : ℕ) → OpAt s code m fs inst (site_at t b u) (Eval (CallOf j c ts line)) pc q ks ks' → Alike (StateAt s code) (do_op s l o m inst w vals rest (Eval (CallOf j c ts line))) (on_top code l o fs (act inst pc stack b) below)
  link j c ts line a =
      let x = a.0 in
      let p = x.procedure in
      let reaches = x.reaches in
      let is = (x.link).is in
      let out : ks' ≡ given (has_result p.result) ks = a.1 ∙ ap (λ g. given g ks) (ap text_gives p.is) in
      at_row s code l o fs (act inst pc stack b) below _ (i.Link (pos (level_of s x.text))) is.line x.x is.is
      (operators.at_frame s code l o m inst w vals rest fs t b pc stack below ks here o (level_of s x.text) j _ _ (reached s m inst x.text j here.lives reaches)
      (operators.pushes s code l o m inst w vals rest fs t b pc stack below ks here o (machine.Link j) _ _ (x.link).fits
      (goes s code u x.x (with_values s code here (more_at (record { instance = j; is_val = refl; is_value = refl; stands = reaches.stands }) here.values))
      (each_pends s code m fs Below inst t b u low (Do (CallOp c (count ts) line) ∷ w) ts x.x x.y (LinkTo x.text ∷ ks) x.actuals
      (pends s code m fs Below inst t b u low w (CallOp c (count ts) line) x.y q (anys (count ts) (LinkTo x.text ∷ ks)) ks' (record { link = LinkTo x.text; text = x.text; links = refl; procedure = p; is = x.call; as_many = x.as_many; left = ks; fits = (x.link).fits; «in» = refl; out = out }) k))
      (is.is).on)))

  -- an object too
  new_link : (j c : ℕ) (ts : Terms) (line : ℕ) → OpAt s code m fs inst (site_at t b u) (Eval (NewOf j c ts line)) pc q ks ks' → Alike (StateAt s code) (do_op s l o m inst w vals rest (Eval (NewOf j c ts line))) (on_top code l o fs (act inst pc stack b) below)
  new_link j c ts line a =
      let x = a.0 in
      let reaches = x.reaches in
      let is = (x.link).is in
      at_row s code l o fs (act inst pc stack b) below _ (i.Link (pos (level_of s x.text))) is.line x.x is.is
      (operators.at_frame s code l o m inst w vals rest fs t b pc stack below ks here o (level_of s x.text) j _ _ (reached s m inst x.text j here.lives reaches)
      (operators.pushes s code l o m inst w vals rest fs t b pc stack below ks here o (machine.Link j) _ _ (x.link).fits
      (goes s code u x.x (with_values s code here (more_at (record { instance = j; is_val = refl; is_value = refl; stands = reaches.stands }) here.values))
      (each_pends s code m fs Below inst t b u low (Do (NewOp c (count ts) line) ∷ w) ts x.x x.y (LinkTo x.text ∷ ks) x.actuals
      (pends s code m fs Below inst t b u low w (NewOp c (count ts) line) x.y q (anys (count ts) (LinkTo x.text ∷ ks)) ks' (record { text = x.text; is = x.new; stands_in = x.stands_in; class = x.class; left = ks; fits = (x.link).fits; «in» = refl; out = a.1 }) k))
      (is.is).on)))

  -- and the name of a simulation block
  simulation_link : (j : ℕ) (name : Standard) (ts : Terms) (line : ℕ) → OpAt s code m fs inst (site_at t b u) (Eval (SimulationOf j name ts line)) pc q ks ks' → Alike (StateAt s code) (do_op s l o m inst w vals rest (Eval (SimulationOf j name ts line))) (on_top code l o fs (act inst pc stack b) below)
  simulation_link j name ts line a =
      let x = a.0 in
      let reaches = x.reaches in
      let is = (x.link).is in
      at_row s code l o fs (act inst pc stack b) below _ (i.Link (pos (level_of s x.text))) is.line x.x is.is
      (operators.at_frame s code l o m inst w vals rest fs t b pc stack below ks here o (level_of s x.text) j _ _ (reached s m inst x.text j here.lives reaches)
      (operators.pushes s code l o m inst w vals rest fs t b pc stack below ks here o (machine.Link j) _ _ (x.link).fits
      (goes s code u x.x (with_values s code here (more_at (refl, refl) here.values))
      (each_pends s code m fs Below inst t b u low (Do (SimulationOp name line) ∷ w) ts x.x x.y (LinkOf j ∷ ks) x.actuals
      (pends s code m fs Below inst t b u low w (SimulationOp name line) x.y q (anys (count ts) (LinkOf j ∷ ks)) ks' (record { many = count ts; is = x.is; text = x.text; block = j; reaches = reaches; left = ks; «in» = refl; out = a.1 }) k))
      (is.is).on)))

  -- and a procedure as a value
  procedure_link : (j c : ℕ) → OpAt s code m fs inst (site_at t b u) (Eval (ProcedureOf j c)) pc q ks ks' → Alike (StateAt s code) (do_op s l o m inst w vals rest (Eval (ProcedureOf j c))) (on_top code l o fs (act inst pc stack b) below)
  procedure_link j c a =
      let x = a.0 in
      let reaches = x.reaches in
      let is = (x.link).is in
      at_row s code l o fs (act inst pc stack b) below _ (i.Link (pos (level_of s x.text))) is.line x.x is.is
      (operators.at_frame s code l o m inst w vals rest fs t b pc stack below ks here o (level_of s x.text) j _ _ (reached s m inst x.text j here.lives reaches)
      (operators.pushes s code l o m inst w vals rest fs t b pc stack below ks here o (machine.Link j) _ _ (x.link).fits
      (goes s code u x.x (with_values s code here (more_at (record { instance = j; is_val = refl; is_value = refl; stands = reaches.stands }) here.values))
      (pends s code m fs Below inst t b u low w (ProcedureOp c) x.x q (LinkTo x.text ∷ ks) ks' (record { is = x.value; text = x.text; procedure = x.procedure; left = ks; link = LinkTo x.text; links = refl; «in» = refl; out = a.1 }) k)
      (is.is).on)))

  -- a call of a procedure as a value stands in the instance that does it
  checked_begins : (x : Term) (leaves : Bool) (home : ℕ) (es : Expressions) (line : ℕ) → home ≡ inst
      → do_op s l o m inst w vals rest (Eval (CheckedOf x leaves home es line)) ≡ go o m inst (Do (Eval x) ∷ Do (CheckOp es line) ∷ parameters 0 line es (Do (CallValueOp (count_of es) leaves line) ∷ w)) vals rest
  unfolding when
  checked_begins x leaves home es line e = let same : (home == inst) ≡ true = grind (arith, e) in ap (λ b. if b then go o m inst (Do (Eval x) ∷ Do (CheckOp es line) ∷ parameters 0 line es (Do (CallValueOp (count_of es) leaves line) ∷ w)) vals rest else no_rule o) same

  -- a step that is followed at once, or in several steps
  followed : {op : Op} → ranked.Follows (mstep code l) (StateAt s code) (do_op s l o m inst w vals rest op) o machine_here → MovesNow s code l o (record { chain = record { instance = inst; work = Do op ∷ w; values = vals } ∷ rest; memory = m }) machine_here
  followed (at_once a) = both a
  followed (in_steps a) = several (λ ruled. a)

  eval_moves : (x : Term) → Follows (Eval x)
  unfolding no_rule
  eval_moves (Given v) a = both (operators.constant s code l o m inst w vals rest fs t b pc stack below ks here u q ks' low k compiled.texts v a)
  eval_moves (Cell j key) a = both (operators.variable s code l o m inst w vals rest fs t b pc stack below ks here u q ks' low k j key a)
  eval_moves (One op line x) a = quiet _ refl (stands_so _ (quiet_steps.one_opened s code m fs Below inst t b u low w pc q ks ks' k op line x a)) (omega arith)
  eval_moves (Two op line x y) a = quiet _ refl (stands_so _ (quiet_steps.two_opened s code m fs Below inst t b u low w pc q ks ks' k op line x y a)) (omega arith)
  eval_moves (Either c x y) a = quiet _ refl (stands_so _ (quiet_steps.either_opened s code m fs Below inst t b u low w pc q ks ks' k c x y a)) (omega arith)
  eval_moves (ElementOf line x ts) a = quiet _ refl (stands_so _ (quiet_steps.element_opened s code m fs Below inst t b u low w pc q ks ks' k line x ts a)) (omega arith)
  eval_moves (ValueAt x) a = quiet _ refl (stands_so _ (quiet_steps.value_opened s code m fs Below inst t b u low w pc q ks ks' k x a)) (omega arith)
  eval_moves (CopyOf line x) a = quiet _ refl (stands_so _ (quiet_steps.copy_opened s code m fs Below inst t b u low w pc q ks ks' k line x a)) (omega arith)
  eval_moves (CallOf j c ts line) a = both (link j c ts line a)
  eval_moves (StandardOf name ts line) a =
      let e = each_weight s m inst ts (Do (StandardOp name line) ∷ w) refl in
      quiet _ refl (stands_so _ (quiet_steps.standard_opened s code m fs Below inst t b u low w pc q ks ks' k name ts line a)) (omega (arith, e))
  eval_moves (PlaceOf j key) a = both (operators.place s code l o m inst w vals rest fs t b pc stack below ks here u q ks' low k j key a)
  eval_moves (ImageOf n) a = both (operators.image s code l o m inst w vals rest fs t b pc stack below ks here u q ks' low k n a)
  eval_moves (Joined line x y) a = quiet _ refl (stands_so _ (quiet_steps.joined_opened s code m fs Below inst t b u low w pc q ks ks' k line x y a)) (omega arith)
  eval_moves (NewOf j c ts line) a = both (new_link j c ts line a)
  eval_moves (QualifiedPlaceOf j key c) a = both (references.qualified_place s code compiled l o m inst w vals rest fs t b pc stack below ks here u q ks' low k j key c a)
  eval_moves (AttributeOf text key class line x) a = quiet _ refl (stands_so _ (quiet_steps.attribute_opened s code m fs Below inst t b u low w pc q ks ks' k text key class line x a)) (omega arith)
  eval_moves (RemoteCallOf x c ts line) a = quiet _ refl (stands_so _ (quiet_steps.remote_opened s code m fs Below inst t b u low w pc q ks ks' k x c ts line a)) (omega arith)
  eval_moves (OriginOf c token line x) a = quiet _ refl (stands_so _ (quiet_steps.origin_opened s code m fs Below inst t b u low w pc q ks ks' k c token line x a)) (omega arith)
  eval_moves (ProcedureOf j c) a = both (procedure_link j c a)
  eval_moves (RemoteProcedureOf x c line) a = quiet _ refl (stands_so _ (quiet_steps.remote_procedure_opened s code m fs Below inst t b u low w pc q ks ks' k x c line a)) (omega arith)
  eval_moves (MatchOf x v line) a = quiet _ refl (stands_so _ (quiet_steps.match_opened s code m fs Below inst t b u low w pc q ks ks' k x v line a)) (omega arith)
  eval_moves (CheckedOf x leaves home es line) a =
      quiet _ (checked_begins x leaves home es line (a.0).here) (stands_so _ (quiet_steps.checked_opened s code m fs Below inst t b u low w pc q ks ks' k x leaves home es line a)) (omega arith)
  eval_moves (QualifiedElementOf line c x ts) a = quiet _ refl (stands_so _ (quiet_steps.qualified_element_opened s code m fs Below inst t b u low w pc q ks ks' k line c x ts a)) (omega arith)
  eval_moves (MemberOf member c x) a = quiet _ refl (stands_so _ (quiet_steps.member_opened s code m fs Below inst t b u low w pc q ks ks' k member c x a)) (omega arith)
  eval_moves (QuaOf c line x) a = quiet _ refl (stands_so _ (quiet_steps.qua_opened s code m fs Below inst t b u low w pc q ks ks' k c line x a)) (omega arith)
  eval_moves (FitsOf c line x) a = quiet _ refl (stands_so _ (quiet_steps.fits_opened s code m fs Below inst t b u low w pc q ks ks' k c line x a)) (omega arith)
  eval_moves (KeptOf x) a = quiet _ refl (stands_so _ (quiet_steps.kept_opened s code m fs Below inst t b u low w pc q ks ks' k x a)) (omega arith)
  eval_moves (NotNoneOf line x) a = quiet _ refl (stands_so _ (quiet_steps.not_none_opened s code m fs Below inst t b u low w pc q ks ks' k line x a)) (omega arith)
  eval_moves (TransferOf way line x) a = quiet _ refl (stands_so _ (quiet_steps.transfer_opened s code m fs Below inst t b u low w pc q ks ks' k way line x a)) (omega arith)
  eval_moves (SetOf name ts) a =
      let e = each_weight s m inst ts (Do (SetOp name) ∷ w) refl in
      quiet _ refl (stands_so _ (quiet_steps.set_opened s code m fs Below inst t b u low w pc q ks ks' k name ts a)) (omega (arith, e))
  eval_moves (ProcessOf name line x) a = quiet _ refl (stands_so _ (quiet_steps.process_opened s code m fs Below inst t b u low w pc q ks ks' k name line x a)) (omega arith)
  eval_moves (SimulationOf j name ts line) a = both (simulation_link j name ts line a)
  eval_moves (ActualOf home as_procedure e) a = followed (passed.passed s code l o m inst w vals rest fs t b pc stack below ks here u q ks' low k home as_procedure e a)
  eval_moves (NamedOf j key wanted) a = quiet _ refl (stands_so _ (quiet_steps.named_opened s code m fs Below inst t b u low w pc q ks ks' k j key wanted a)) (omega arith)
  eval_moves NoMeaning a = both unruled

  statement_moves : (x : Statement) → Follows (Exec x)
  statement_moves (syntax.Empty token) a = quiet _ refl (stands_so w (quiet_steps.empty_begun s code m fs Below inst t b u low w pc q ks ks' k token a)) (omega arith)
  statement_moves (syntax.Compound x) a = both (statements.compound_statement s code l compiled.agrees o m inst w vals rest fs t b pc stack below ks here u q ks' low k x a)
  statement_moves (syntax.Call e) a = both (statements.call_statement s code l compiled.agrees o m inst w vals rest fs t b pc stack below ks here u q ks' low k e a)
  statement_moves (syntax.Assign left rs) a = both (statements.assign_statement s code l compiled.agrees o m inst w vals rest fs t b pc stack below ks here u q ks' low k left rs a)
  statement_moves (syntax.Choose token c x y) a = both (statements.choose_statement s code l compiled.agrees o m inst w vals rest fs t b pc stack below ks here u q ks' low k token c x y a)
  statement_moves (syntax.Repeat token c x) a = both (statements.repeat_statement s code l compiled.agrees o m inst w vals rest fs t b pc stack below ks here u q ks' low k token c x a)
  statement_moves (syntax.For token x sign assign es y) a = both (loops.for_statement s code l compiled.agrees o m inst w vals rest fs t b pc stack below ks here u q ks' low k token x sign assign es y a)
  statement_moves (syntax.Prefixed class es x) a = both (statements.prefixed_statement s code l compiled.agrees o m inst w vals rest fs t b pc stack below ks here u q ks' low k class es x a)
  statement_moves (syntax.Inner token) a = absurd (a.0)
  statement_moves (syntax.Inspect token e opening x end other) a = both (statements.inspect_statement s code l compiled.agrees o m inst w vals rest fs t b pc stack below ks here u q ks' low k token e opening x end other a)
  statement_moves (syntax.InspectWhen token e arms other) a = both (statements.inspect_when_statement s code l compiled.agrees o m inst w vals rest fs t b pc stack below ks here u q ks' low k token e arms other a)
  statement_moves (syntax.Activate token word e schedule) a = both (statements.activate_statement s code l compiled.agrees o m inst w vals rest fs t b pc stack below ks here u q ks' low k token word e schedule a)

  elements_move : (x : Target) (es : List Element) (y : Statement) → Follows (ElementsOp x es y)
  elements_move x [] y a = quiet _ refl (stands_so w (loops.none_rests s code l compiled.agrees o m inst w vals rest fs t b pc stack below ks here u q ks' low k x y a)) (omega arith)
  elements_move x (syntax.Once e ∷ es) y a = both (loops.once s code l compiled.agrees o m inst w vals rest fs t b pc stack below ks here u q ks' low k x e es y a)
  elements_move x (syntax.While e token c ∷ es) y a = quiet _ refl (stands_so _ (loops.while_rests s code l compiled.agrees o m inst w vals rest fs t b pc stack below ks here u q ks' low k x e token c es y a)) (omega arith)
  elements_move x (syntax.Step first token by limit ∷ es) y a = quiet _ refl (stands_so _ (loops.step_rests s code l compiled.agrees o m inst w vals rest fs t b pc stack below ks here u q ks' low k x first token by limit es y a)) (omega arith)

  -- the arrays of a level are declared
  declare_moves : (ds : syntax.Declarations) → Follows (DeclareOp ds)
  declare_moves ds a =
      let e = arrays_weight s m inst ds w in
      quiet _ refl (stands_so _ (subst (λ z. WorkAt s code m fs Below inst t b u (arrays_declared s m inst ds w) pc z) (sym a.1)
      (arrays_at s code compiled.agrees m fs Below inst t b u low here.stands here.lives w ds pc q a.0 (subst (λ z. WorkAt s code m fs Below inst t b u w q z) a.2 k)))) (omega (arith, e))

  fetch_moves : (kind : Kind) (left : List Kind) → FetchesAt s code (site_at t b u) (length left) kind pc q → ks ≡ kind ∷ left → ks' ≡ anys 1 left → MovesNow s code l o (record { chain = record { instance = inst; work = Do FetchOp ∷ w; values = vals } ∷ rest; memory = m }) machine_here
  fetch_moves Any left is e out = both (assigns.fetch_any s code l o m inst w vals rest fs t b pc stack below ks here u q ks' low k left is e out)
  fetch_moves Named left is e out = both (assigns.fetch_by_name s code l o m inst w vals rest fs t b pc stack below ks here u q ks' low k left is e out)
  fetch_moves Located left is e out = both (assigns.fetch_place s code l o m inst w vals rest fs t b pc stack below ks here u q ks' low k left is e out)
  fetch_moves (Refers class) left is e out = both (assigns.fetch_reference s code l o m inst w vals rest fs t b pc stack below ks here u q ks' low k class left is e out)
  fetch_moves (FixedOf d) left is e out = followed (fixed.fetch_constant s code compiled l o m inst w vals rest fs t b pc stack below ks here u q ks' low k d left e out is)
  fetch_moves (LinkTo text) left is e out = absurd is
  fetch_moves (OwnerOf text) left is e out = absurd is
  fetch_moves (LinkOf j) left is e out = absurd is

  -- one line for each operator
  op_moves : (op : Op) → Follows op
  op_moves (Eval x) a = eval_moves x a
  op_moves (OneOp op line) a = both (operators.one s code l o m inst w vals rest fs t b pc stack below ks here u q ks' low k op line a)
  op_moves (TwoOp op line) a = both (operators.two s code l o m inst w vals rest fs t b pc stack below ks here u q ks' low k op line a)
  op_moves (IfOp x y) a = both (operators.choice s code l o m inst w vals rest fs t b pc stack below ks here u q ks' low k x y a)
  op_moves (ElementOp n line) a = both (operators.element_op s code l o m inst w vals rest fs t b pc stack below ks here u q ks' low k n line a)
  op_moves FetchOp a = fetch_moves a.kind a.left a.fetches a.«in» a.out
  op_moves (CopyOp line) a = both (operators.copy s code l o m inst w vals rest fs t b pc stack below ks here u q ks' low k line a)
  op_moves (CallOp c n line) a = both (entries.call s code compiled l o m inst w vals rest fs t b pc stack below ks here u q ks' low k c n line a)
  op_moves (StandardOp name line) a = both (calls.standard s code l o m inst w vals rest fs t b pc stack below ks here u q ks' low k name line a)
  op_moves (JoinOp line) a = several (λ ruled. joins.join s code l o m inst w vals rest fs t b pc stack below ks here u q ks' low k line a)
  op_moves DropOp a = both (operators.drop s code l o m inst w vals rest fs t b pc stack below ks here u q ks' low k a)
  op_moves AgainOp a = both (operators.again s code l o m inst w vals rest fs t b pc stack below ks here u q ks' low k a)
  op_moves (StoreOp (ToReference line)) a = quiet _ refl (stands_so _ (quiet_steps.reference_stored s code m fs Below inst t b u low w pc q ks ks' k line a)) (omega arith)
  op_moves (StoreOp (ToNamed c line)) a = quiet _ refl (stands_so _ (quiet_steps.named_stored s code m fs Below inst t b u low w pc q ks ks' k c line a)) (omega arith)
  op_moves (StoreOp (ToPlace x)) a = quiet _ refl (stands_so _ (quiet_steps.place_stored s code m fs Below inst t b u low w pc q ks ks' k x a)) (omega arith)
  op_moves (StoreOp (ToReferenceAt x line)) a = quiet _ refl (stands_so _ (quiet_steps.reference_place_stored s code m fs Below inst t b u low w pc q ks ks' k x line a)) (omega arith)
  op_moves (StoreOp (ToCell j key)) a = both (assigns.to_cell s code l o m inst w vals rest fs t b pc stack below ks here u q ks' low k j key a)
  op_moves (StoreOp ToAddress) a = both (assigns.to_address s code l o m inst w vals rest fs t b pc stack below ks here u q ks' low k a)
  op_moves (StoreOp (ToText line)) a = both (assigns.to_text s code l o m inst w vals rest fs t b pc stack below ks here u q ks' low k line a.0 a.1)
  op_moves (StoreOp (ToTextOf j key line)) a = both (assigns.to_text s code l o m inst w vals rest fs t b pc stack below ks here u q ks' low k line a.0 a.1)
  op_moves (StoreOp (ToTextAt x line)) a = both (assigns.to_text s code l o m inst w vals rest fs t b pc stack below ks here u q ks' low k line a.0 a.1)
  op_moves (ShareOp ts) a = both (assigns.share s code l o m inst w vals rest fs t b pc stack below ks here u q ks' low k ts a)
  op_moves (GiveOp v []) a = quiet _ refl (stands_so w (quiet_steps.nothing_given s code m fs Below inst t b u low w pc q ks ks' k v a)) (omega arith)
  op_moves (GiveOp v (x ∷ ts)) a = both (assigns.give s code l o m inst w vals rest fs t b pc stack below ks here u q ks' low k v x ts a)
  op_moves (ArrayOp kind n line) a = both (entries.array s code compiled l o m inst w vals rest fs t b pc stack below ks here u q ks' low k kind n line a)
  op_moves (Exec x) a = statement_moves x a
  op_moves (Execs NoStatement) a = quiet _ refl (stands_so w (quiet_steps.none_begun s code m fs Below inst t b u low w pc q ks ks' k a)) (omega arith)
  op_moves (Execs (Also x more)) a = quiet _ refl (stands_so _ (quiet_steps.also_begun s code m fs Below inst t b u low w pc q ks ks' k x more a)) (omega arith)
  op_moves (EnterOp c line) a = both (entries.enter s code compiled l o m inst w vals rest fs t b pc stack below ks here u q ks' low k c line a)
  op_moves (ChooseOp x y) a = both (statements.chosen_statement s code l compiled.agrees o m inst w vals rest fs t b pc stack below ks here u q ks' low k x y a)
  op_moves (TestOp c x) a = both (statements.test s code l compiled.agrees o m inst w vals rest fs t b pc stack below ks here u q ks' low k c x a)
  op_moves (BranchOp x next) a = both (statements.branch s code l compiled.agrees o m inst w vals rest fs t b pc stack below ks here u q ks' low k x next a)
  op_moves (BackOp op) a = both (statements.back s code l compiled.agrees o m inst w vals rest fs t b pc stack below ks here u q ks' low k op a)
  op_moves PastOp a = both (operators.past s code l o m inst w vals rest fs t b pc stack below ks here u q ks' low k a)
  op_moves (ElementsOp x es y) a = elements_move x es y a
  op_moves (WhileElementOp x e c y) a = both (loops.while_element s code l compiled.agrees o m inst w vals rest fs t b pc stack below ks here u q ks' low k x e c y a)
  op_moves (StepTestOp x line by limit y) a = both (loops.step_tested s code l compiled.agrees o m inst w vals rest fs t b pc stack below ks here u q ks' low k x line by limit y a)
  op_moves (StepOp line) a = both (loops.step_test_op s code l compiled.agrees o m inst w vals rest fs t b pc stack below ks here u q ks' low k line a)
  op_moves (RaiseOp x line by limit y) a = quiet _ refl (stands_so _ (loops.raise_rests s code l compiled.agrees o m inst w vals rest fs t b pc stack below ks here u q ks' low k x line by limit y a)) (omega arith)
  op_moves (NewOp c n line) a = both (generated.new_op s code compiled l o m inst w vals rest fs t b pc stack below ks here u q ks' low k c n line a)
  op_moves (PrefixedOp c n line) a = both (prefixed.prefixed_op s code compiled l o m inst w vals rest fs t b pc stack below ks here u q ks' low k c n line a)
  op_moves (AttributeOp text key class line) a = both (references.attribute s code compiled l o m inst w vals rest fs t b pc stack below ks here u q ks' low k text key class line a)
  op_moves (ObjectOp c line) a = both (references.object s code compiled l o m inst w vals rest fs t b pc stack below ks here u q ks' low k c line a)
  op_moves (VirtualOp v line) a = both (virtuals.virtual s code compiled l o m inst w vals rest fs t b pc stack below ks here u q ks' low k v line a)
  op_moves (OriginOp c token line) a = several (λ ruled. origins.keeps_origin s code compiled l o m inst w vals rest fs t b pc stack below ks here u q ks' low k c token line a ruled)
  op_moves (ProcedureOp c) a = both (checked.procedure s code compiled l o m inst w vals rest fs t b pc stack below ks here u q ks' low k c a)
  op_moves (CheckOp es line) a = both (checked.check s code compiled l o m inst w vals rest fs t b pc stack below ks here u q ks' low k es line a)
  op_moves (ParameterOp n e line) a = several (λ ruled. checked.parameter s code compiled l o m inst w vals rest fs t b pc stack below ks here u q ks' low k n e line a ruled)
  op_moves (CallValueOp n leaves line) a = both (checked.call_value s code compiled l o m inst w vals rest fs t b pc stack below ks here u q ks' low k n leaves line a)
  op_moves (NamedOp j key wanted) a = both (evaluations.use_name s code compiled l o m inst w vals rest fs t b pc stack below ks here u q ks' low k j key wanted a)
  op_moves (CloseOp as_procedure e) a = quiet _ refl (stands_so _ (evaluations.closes s code compiled l o m inst w vals rest fs t b pc stack below ks here u q ks' low k as_procedure e a)) (omega arith)
  op_moves (QualifiedElementOp n line c) a = both (references.qualified_element s code compiled l o m inst w vals rest fs t b pc stack below ks here u q ks' low k n line c a)
  op_moves (MemberOp member c) a = both (references.member s code compiled l o m inst w vals rest fs t b pc stack below ks here u q ks' low k member c a)
  op_moves (QuaOp c line) a = both (references.qua s code compiled l o m inst w vals rest fs t b pc stack below ks here u q ks' low k c line a)
  op_moves (FitsOp c line) a = followed (fitting.fits s code compiled l o m inst w vals rest fs t b pc stack below ks here u q ks' low k c line a)
  op_moves KeepOp a = both (references.keep s code compiled l o m inst w vals rest fs t b pc stack below ks here u q ks' low k a)
  op_moves (NotNoneOp line) a = both (references.not_none s code compiled l o m inst w vals rest fs t b pc stack below ks here u q ks' low k line a)
  op_moves (TransferOp way line) a = both (transfers.transfer s code compiled l o m inst w vals rest fs t b pc stack below ks here u q ks' low k way line a)
  op_moves (SetOp name) a = both (sets.set_op s code l o m inst w vals rest fs t b pc stack below ks here u q ks' low k name a)
  op_moves (ProcessOp name line) a = both (simulations.process_op s code compiled l o m inst w vals rest fs t b pc stack below ks here u q ks' low k name line a)
  op_moves (SimulationOp name line) a = both (simulations.simulation_op s code compiled l o m inst w vals rest fs t b pc stack below ks here u q ks' low k name line a)
  op_moves SelfOp a = both (simulations.self_op s code compiled l o m inst w vals rest fs t b pc stack below ks here u q ks' low k a)
  op_moves (BlockOp j) a = both (simulations.block_op s code compiled l o m inst w vals rest fs t b pc stack below ks here u q ks' low k j a)
  op_moves (ActivateOp again timing line) a = both (simulations.activate_op s code compiled l o m inst w vals rest fs t b pc stack below ks here u q ks' low k again timing line a)
  op_moves SwapOp a = both (references.swap s code compiled l o m inst w vals rest fs t b pc stack below ks here u q ks' low k a)
  op_moves (ReferOp line) a = both (references.refer s code compiled l o m inst w vals rest fs t b pc stack below ks here u q ks' low k line a)
  op_moves (ConnectOp c x other) a = followed (connections.connect_op s code compiled l o m inst w vals rest fs t b pc stack below ks here u q ks' low k c x other a)
  op_moves (WhenOp arms other) a = followed (connections.when_op s code compiled l o m inst w vals rest fs t b pc stack below ks here u q ks' low k arms other a)
  op_moves (DeclareOp ds) a = declare_moves ds a
  op_moves _ a = absurd a

module _ (s : Source) (code : CodeOf) (compiled : Compiled s code) (l : Limits) (o : World) where
  abbrev Moves : Configuration → Machine → Type 0
  Moves c x = MovesNow s code l o c x

  stage_moves : (m : Instances) (inst : ℕ) (w : List Item) (vals : List Val) (rest : List Activation) (fs : Frames) (t : ℕ) (b : Runs) (c : Spot) (pc : ℕ) (stack : List Value) (below : List machine.Activation) (ks : List Kind) (here : Here s code m fs inst rest t b ks vals stack) (u q : ℕ) (ks' : List Kind) (low : Low s code t b u) (op : Op)
      → InStage s code (BeginsAt s code m fs inst (site_at t b u)) (site_at t b u) op b c pc q ks ks' → WorkAt s code m fs (λ v. ChainAt s code m fs rest v below) inst c.text c.runs c.used w q ks'
      → Moves (record { chain = record { instance = inst; work = Do op ∷ w; values = vals } ∷ rest; memory = m }) (record { chain = act inst pc stack b ∷ below; memory = fs })
  stage_moves m inst w vals rest fs t b c pc stack below ks here u q ks' low op (stays a calm same) k = op_moves s code compiled l o m inst w vals rest fs t b pc stack below ks here u q ks' (record { at = low; calm = calm }) (subst (λ z. WorkAt s code m fs (λ v. ChainAt s code m fs rest v below) inst z.text z.runs z.used w q ks') same k) op a
  stage_moves m inst w vals rest fs t b c pc stack below ks here u q ks' low op (declares level e a) k =
      subst (λ z. Moves (record { chain = record { instance = inst; work = Do z ∷ w; values = vals } ∷ rest; memory = m }) (record { chain = act inst pc stack b ∷ below; memory = fs })) (sym e)
      (both (stages.declared s code l compiled o m inst w vals rest fs t b pc stack below ks here u q ks' low level c a k))
  stage_moves m inst w vals rest fs t b c pc stack below ks here u q ks' low op (inner_last xs e a) k =
      subst (λ z. Moves (record { chain = record { instance = inst; work = Do z ∷ w; values = vals } ∷ rest; memory = m }) (record { chain = act inst pc stack b ∷ below; memory = fs })) (sym e)
      (both (stages.inner_done s code l compiled o m inst w vals rest fs t b pc stack below ks here u q ks' low xs c a k))
  stage_moves m inst w vals rest fs t b c pc stack below ks here u q ks' low op (inner_here token e a) k =
      subst (λ z. Moves (record { chain = record { instance = inst; work = Do z ∷ w; values = vals } ∷ rest; memory = m }) (record { chain = act inst pc stack b ∷ below; memory = fs })) (sym e)
      (both (stages.inner_statement s code l compiled o m inst w vals rest fs t b pc stack below ks here u q ks' low token c a k))
  stage_moves m inst w vals rest fs t b c pc stack below ks here u q ks' low op (with_inner ss e a) k =
      subst (λ z. Moves (record { chain = record { instance = inst; work = Do z ∷ w; values = vals } ∷ rest; memory = m }) (record { chain = act inst pc stack b ∷ below; memory = fs })) (sym e)
      (by ss a)
    where
      by : (ss : Statements) → WithInnerIs s code (site_at t b u) b c ss pc q ks ks' → Moves (record { chain = record { instance = inst; work = Do (Execs ss) ∷ w; values = vals } ∷ rest; memory = m }) (record { chain = act inst pc stack b ∷ below; memory = fs })
      by NoStatement a = absurd (a.is)
      by (Also x more) a =
          quiet _ refl (state_at s code u pc (there_of s code here)
          (stages.with_inner_begun s code l compiled o m inst w vals rest fs t b pc stack below ks here u q ks' low x more c a k) refl) (omega arith)
  stage_moves m inst w vals rest fs t b c pc stack below ks here u q ks' low op (ends_process e a) k =
      subst (λ z. Moves (record { chain = record { instance = inst; work = Do z ∷ w; values = vals } ∷ rest; memory = m }) (record { chain = act inst pc stack b ∷ below; memory = fs })) (sym e)
      (several (λ ruled. process_ends.process_ends s code compiled l o m inst w vals rest fs t b pc stack below ks here u q ks' c a k ruled))

  work_moves : (m : Instances) (inst : ℕ) (work : List Item) (vals : List Val) (rest : List Activation) (fs : Frames) (t : ℕ) (b : Runs) (pc : ℕ) (stack : List Value) (below : List machine.Activation) (ks : List Kind) (used : ℕ) → Here s code m fs inst rest t b ks vals stack → AllLead s o m vals → NowAt s code m fs (λ v. ChainAt s code m fs rest v below) inst t b used work pc ks
      → Moves (record { chain = record { instance = inst; work = work; values = vals } ∷ rest; memory = m }) (record { chain = act inst pc stack b ∷ below; memory = fs })
  work_moves m inst [] vals rest fs t b pc stack below ks used here leads a = absurd a
  work_moves m inst (Do op ∷ w) vals rest fs t b pc stack below ks used here leads a =
      let frame = a.5 in
      stage_moves m inst w vals rest fs a.3 b a.4 pc stack below ks (here_at s code frame here) a.0 a.1 a.2 (low_same s code a.3 t b a.0 frame a.7) op a.8 a.9
  work_moves m inst (EndBlock ∷ w) vals rest fs t b pc stack below ks used here leads a = both (ends.end_block s code compiled l o m inst w vals rest fs t b pc stack below ks here used a)
  work_moves m inst (EndProcedure leaves ∷ w) vals rest fs t b pc stack below ks used here leads a = both (ends.end_procedure s code compiled l o m inst w vals rest fs t b pc stack below ks here used leaves a)
  work_moves m inst (EndProgram ∷ w) vals rest fs t b pc stack below ks used here leads a = both (ends.end_program s code compiled l o m inst w vals rest fs t b pc stack below ks here used a)
  work_moves m inst (EndObject ∷ w) vals rest fs t b pc stack below ks used here leads a = both (ends.end_object s code compiled l o m inst w vals rest fs t b pc stack below ks here used a)
  work_moves m inst (EndPrefixed ∷ w) vals rest fs t b pc stack below ks used here leads a = both (ends.end_prefixed s code compiled l o m inst w vals rest fs t b pc stack below ks here used a)
  work_moves m inst (EndEvaluation wanted ∷ w) vals rest fs t b pc stack below ks used here leads a = both (evaluations.end_evaluation s code compiled l o m inst w vals rest fs t b pc stack below ks here wanted leads a)
  work_moves m inst (EndLevel level ∷ w) vals rest fs t b pc stack below ks used here leads a = both (stages.end_level s code l compiled o m inst w vals rest fs t b pc stack below ks here level a.0 a.1 a.2 a.3)

  chain_moves : (m : Instances) (chain : List Activation) (fs : Frames) (acts : List machine.Activation) → StoreAt s code m fs → StandingsAt s code m fs → SaneOn m chain → NamesOn s o m chain → ChainNow s code m fs chain acts → Moves (record { chain = chain; memory = m }) (record { chain = acts; memory = fs })
  chain_moves m [] fs [] store parked sane names c = both (entries.first_alike s code compiled l o m fs store parked)
  chain_moves m [] fs (y ∷ below) store parked sane names c = absurd (cc (c.is))
  chain_moves m (a ∷ rest) fs [] store parked sane names c = absurd c
  chain_moves m (a ∷ rest) fs (y ∷ below) store parked sane names c =
      let flag = now_flag s code m fs (λ v. ChainAt s code m fs rest v below) a.instance c.text c.block c.used a.work y.pc _ c.goes in
      let Work : (t : ℕ) → Runs → (used p : ℕ) → List Kind → Type 0 = λ t b used p ks. NowAt s code m fs (λ v. ChainAt s code m fs rest v below) a.instance t b used a.work p ks in
      let here = here_top s code m fs a rest y Work c flag store parked sane names.0 in
      subst (λ z. Moves (record { chain = a ∷ rest; memory = m }) (record { chain = z ∷ below; memory = fs })) (sym (as_act s code l y a.instance c.block c.base c.home c.room c.stage))
      (work_moves m a.instance a.work a.values rest fs c.text c.block y.pc y.stack below c.kinds c.used here names.1
      (subst (λ g. NowAt s code m fs (λ v. ChainAt s code m fs rest v below) a.instance c.text c.block c.used a.work y.pc (given_by g c.kinds)) (gets_free (suspended_by m (owner_of c.block.thunk a.instance)) NoValue c.gets (top_is_free s code m fs a rest y Work c flag sane) c.gets_is) c.goes))

  pub moves_now : (c : Configuration) (x : Machine) → Sane c → NamesOn s o c.memory c.chain → StateNow s code c x → MovesNow s code l o c x
  moves_now c x sane names a = chain_moves c.memory c.chain x.memory x.chain a.store a.parked sane names a.chain

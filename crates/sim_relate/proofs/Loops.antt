-- `for` lists.
use Rattle.std.proofs.Common.{◌≡◌, ◌≤◌, ℕ, suc, Bool, true, false, List, [], ◌∷◌, length, refl, sym, subst, arith, Option, Some, None, ap, ◌∙◌}
use Rattle.sim_base.specs.declared.limits.Limits.{Limits}
use Rattle.sim_base.specs.declared.numbering.DeclNo.{DeclNo}
use Rattle.sim_scope.specs.declared.scopes.Denotation.{Denotation}
use Rattle.sim_scope.specs.declared.scopes.Denotation.TheVariants as denotation
use Rattle.sim_scope.specs.declared.types.Entry.{Entry}
use Rattle.sim_scope.specs.declared.types.Entry.TheVariants as entry
use Rattle.sim_scope.specs.declared.types.FormalKind.{FormalKind}
use Rattle.sim_scope.specs.declared.types.FormalKind.TheVariants as shape
use Rattle.sim_scope.specs.declared.types.Mode.{Mode}
use Rattle.sim_scope.specs.declared.types.Mode.TheVariants as mode
use Rattle.sim_scope.specs.Scopes.{entry_of}
use Rattle.sim_scope.specs.Source.{Source, denoted, line_at, level_of}
use Rattle.sim_tree.specs.declared.expr.Identifier.{Identifier}
use Rattle.sim_tree.specs.declared.stmt.Assignment.{Assignment}
use Rattle.sim_tree.specs.declared.stmt.Assignment.TheVariants as assignment
use Rattle.sim_tree.specs.Syntax.{Element, Expression, Expressions, NoMore, Statement, Then}
use Rattle.sim_tree.specs.Syntax as syntax
use Rattle.sim_values.specs.declared.operators.Calculation.TheVariants as calculation
use Rattle.sim_values.specs.declared.operators.Dyadic.TheVariants as dyadic
use Rattle.sim_values.specs.Operators.{step_test}
use Rattle.sim_values.specs.Plain.{Character, Integer, Nothing, Object, Plain, Text, Truth, MainOf}
use Rattle.sim_code.specs.declared.instr.Instr.TheVariants as i
use Rattle.sim_code.specs.Code.{CodeOf}
use Rattle.sim_code.specs.Outcome.{Going, Run, World}
use Rattle.sim_code.specs.Events.{answering, computing, having, testing_step, ticking}
use Rattle.sim_code.specs.Machine.{Frames, Machine, Value}
use Rattle.sim_code.specs.Machine as machine
use Rattle.sim_code.specs.Rows.{on_top}
use Rattle.sim_code.proofs.Lifts.{alike_no_rule}
use Rattle.sim_code.proofs.Simulation.{Alike}
use Rattle.sim_meaning.specs.Attributes.{connection_at}
use Rattle.sim_meaning.specs.Closing.{Left, LeftAddress, LeftCell, close, close_place, is_text, left_found, left_variable, match_left, named_left, own_match, reference_place}
use Rattle.sim_meaning.specs.Meaning.{do_op}
use Rattle.sim_meaning.specs.Pending.{Activation, AgainOp, BackOp, BranchOp, Cell, Configuration, Do, ElementsOp, Eval, Exec, Instances, Item, Op, RaiseOp, StepOp, StepTestOp, StoreOp, Target, Term, ToCell, ToPlace, ToReferenceAt, ToTextAt, ToTextOf, ValueAt, TwoOp, Val, WhileElementOp, plain, Key, ToTextOf}
use Rattle.sim_meaning.specs.Pending as meaning
use Rattle.sim_meaning.specs.Statements.{controlled, controlled_left, finding, looping, reading}
use Rattle.sim_meaning.specs.Steps.{go}
use Rattle.sim_meaning.specs.Texts.{text}
use Rattle.codegen_expr.specs.Sites.{Inside, Is, Site, HasCell, Pushes, slot_of}
use Rattle.codegen_expr.specs.CodeExpr.{ExprAt, PlaceAt, ConnectedAt, ExprsAt, NamedPlaceAt, PlaceBehindAt, ThroughAt}
use Rattle.codegen.specs.Agrees.{Agrees}
use Rattle.codegen.specs.CodeFor.{OfCell, OfPlace, OfReference, PutsAt, TakesValues, variable_of, variable_stored, ElementsAt, ForAt, ListAt, LoadsVariable, OneElementAt, SharedAt, StoresVariable, Variable, is_empty, GivesVariable, assigned_by}
use Rattle.sim_meaning.specs.Virtuals.{text_of_procedure}
use Rattle.codegen.specs.CodeLeft.{ToNamed, ToNamedReference, ToNamedText, AtAddress, AtAttribute, InCell, NoPlace, Stored, ToReference, ToResult, ToText, stored_declared, stored_element, stored_formal, stored_found, stored_left, stored_match, stored_named, stored_result, stored_variable}
use Rattle.codegen.specs.CodeStm.{StmAt}
use Rattle.sim_relate.proofs.Closing.{place_at, reference_at}
use Rattle.sim_relate.proofs.Frames.{same_frame}
use Rattle.sim_relate.proofs.Trees.{FetchIs, FetchesAt}
use Rattle.sim_relate.proofs.Known.{Named, Finds, FixedOf, IsRead, LinkTo, Located, OwnerOf, Refers, gives, kind_read, leaves_kind, left_kind, place_kind, place_target, read_kind, reads, reads_kind, Any, HandAt, Kind, StackAt, anys, more_at, plain_at, site_at, variable_target, Runs, spot, Settled, LinkOf}
use Rattle.sim_relate.proofs.Operations.{StoreIs}
use Rattle.sim_relate.proofs.Relation.{BeginsAt, CellVariableIs, ChainAt, ComesTo, OpAt, PlaceVariableIs, StateAt, TurnOf, VariableIs, WorkAt, over, stays, straight, there, turning}
use Rattle.sim_relate.proofs.Hands.{hand_plain}
use Rattle.sim_relate.proofs.Here.{Here, act, at_row, goes, kinds_as, there_of}
use Rattle.sim_relate.proofs.Lefts.{CellFound, LeftFits, left_match, left_named}
use Rattle.sim_relate.proofs.Living.{reach_found}
use Rattle.sim_relate.proofs.Operators.{onward, same_plain}
use Rattle.sim_relate.proofs.Pending.{evals, pends}
use Rattle.sim_relate.proofs.Statements.{closing, ticks}
use Rattle.std.specs.Prelude.{pos}

-- the test of a step element has no error, so that its line does not matter
module _ (S M : Type 0) (R : S → M → Type 0) (line line' : ℕ) (o : World) (r : Plain → Run S) (q : Plain → Run M) (a : (z : Plain) → Alike R (r z) (q z)) where
  any_line : (x y z : Plain) → Alike R (answering line (step_test x y z) o r) (answering line' (step_test x y z) o q)
  unfolding step_test answering having computing
  any_line (Integer x) (Integer y) (Integer z) = a _
  any_line (Truth x) (Integer y) (Integer z) = alike_no_rule S M R o
  any_line (Character x) (Integer y) (Integer z) = alike_no_rule S M R o
  any_line (Text x) (Integer y) (Integer z) = alike_no_rule S M R o
  any_line (Object x) (Integer y) (Integer z) = alike_no_rule S M R o
  any_line (MainOf x) (Integer y) (Integer z) = alike_no_rule S M R o
  any_line Nothing (Integer y) (Integer z) = alike_no_rule S M R o
  any_line x (Truth y) (Integer z) = alike_no_rule S M R o
  any_line x (Character y) (Integer z) = alike_no_rule S M R o
  any_line x (Text y) (Integer z) = alike_no_rule S M R o
  any_line x (Object y) (Integer z) = alike_no_rule S M R o
  any_line x (MainOf y) (Integer z) = alike_no_rule S M R o
  any_line x Nothing (Integer z) = alike_no_rule S M R o
  any_line x y (Truth z) = alike_no_rule S M R o
  any_line x y (Character z) = alike_no_rule S M R o
  any_line x y (Text z) = alike_no_rule S M R o
  any_line x y (Object z) = alike_no_rule S M R o
  any_line x y (MainOf z) = alike_no_rule S M R o
  any_line x y Nothing = alike_no_rule S M R o

-- elements with other turns
module _ (s : Source) (code : CodeOf) (site : Site) (n : ℕ) (v : Variable) where
  one_as : (e : Element) (A B : ℕ → ℕ → Type 0) → ((p q : ℕ) → A p q → B p q) → (p q : ℕ) → OneElementAt s code site n v e A p q → OneElementAt s code site n v e B p q
  one_as (syntax.Once e) A B f p q a = record { x = a.x; z = a.z; tick = a.tick; given = a.given; turn = f a.z q a.turn }
  one_as (syntax.While e token c) A B f p q a = record { x = a.x; z = a.z; u = a.u; b = a.b; w = a.w; tick = a.tick; given = a.given; test = a.test; jump = a.jump; leads = a.leads; turn = f a.b a.w a.turn; back = a.back; behind = a.behind }
  one_as (syntax.Step start token step limit) A B f p q x = record {
    a = x.a;
    b = x.b;
    t = x.t;
    c = x.c;
    d = x.d;
    e = x.e;
    f = x.f;
    g = x.g;
    h = x.h;
    j = x.j;
    k = x.k;
    l = x.l;
    m = x.m;
    w = x.w;
    takes = x.takes;
    first = x.first;
    stored = x.stored;
    first_step = x.first_step;
    tick = x.tick;
    variable = x.variable;
    last = x.last;
    test = x.test;
    jump = x.jump;
    leads = x.leads;
    turn = f x.g x.h x.turn;
    next_step = x.next_step;
    again = x.again;
    old = x.old;
    sum = x.sum;
    raised = x.raised;
    back = x.back;
    behind = x.behind;
  }

  elements_as : (es : List Element) (A B : ℕ → ℕ → ℕ → Type 0) → ((k p q : ℕ) → A k p q → B k p q) → (k p q : ℕ) → ElementsAt s code site n v k es A p q → ElementsAt s code site n v k es B p q
  elements_as [] A B f k p q a = a
  elements_as (e ∷ es) A B f k p q a = (a.0, one_as e (A k) (B k) (f k) p a.0 a.1, elements_as es A B f (suc k) a.0 q a.2)

module _ (s : Source) (code : CodeOf) (l : Limits) (agrees : Agrees s) (o : World) (m : Instances) (inst : ℕ) (w : List Item) (vals : List Val) (rest : List Activation) (fs : Frames) (t : ℕ) (b : Runs) (pc : ℕ) (stack : List Value) (below : List machine.Activation) (ks : List Kind) (here : Here s code m fs inst rest t b ks vals stack) (u q : ℕ) (ks' : List Kind) (low : Settled s code t b u) (k : WorkAt s code m fs (λ v. ChainAt s code m fs rest v below) inst t b u w q ks') where
  abbrev R : Configuration → Machine → Type 0
  R = StateAt s code

  abbrev a_top : machine.Activation
  a_top = act inst pc stack b

  abbrev Follows : Op → Type 0
  Follows op = OpAt s code m fs inst (site_at t b u) op pc q ks ks' → Alike R (do_op s l o m inst w vals rest op) (on_top code l o fs a_top below)

  abbrev Rests : List Item → ℕ → List Kind → Type 0
  Rests x p before = WorkAt s code m fs (λ v. ChainAt s code m fs rest v below) inst t b u x p before

  -- this place in the code, as the words of statements have it
  puts : (x : List Item) (op : Op) (p p' : ℕ) (before behind : List Kind) → OpAt s code m fs inst (site_at t b u) op p p' before behind → Rests x p' behind → Rests (Do op ∷ x) p before
  puts x op p p' before behind a r = pends s code m fs (λ v. ChainAt s code m fs rest v below) inst t b u low x op p p' before behind a r

  closes : (x : List Item) (e : Expression) (p p' : ℕ) (before : List Kind) → ExprAt s code (site_at t b u) (length before) e p p' → Rests x p' (Any ∷ before) → Rests (Do (Eval (close s m inst e)) ∷ x) p before
  closes x e p p' before a r = closing s code l agrees o m inst w vals rest fs t b pc stack below ks here u q ks' low k x e p p' before a r

  moves_on : {p : World} (x : List Item) (place : ℕ) {next : ℕ} → Rests x place ks → place ≡ next → Alike R (go p m inst x vals rest) (Going p (record { chain = act inst next stack b ∷ below; memory = fs }))
  moves_on x place r e = goes s code u place (there_of s code here) r e

  a_tick : (r : World → Run Configuration) (p : ℕ) → Is code i.Tick pc p → ((x : World) → Alike R (r x) (Going x (record { chain = act inst p stack b ∷ below; memory = fs }))) → Alike R (ticking l o r) (on_top code l o fs a_top below)
  a_tick r p a f = ticks s code l agrees o m inst w vals rest fs t b pc stack below ks here u q ks' low k r p a f

  -- the value of its cell
  puts_cell : (z : ℕ) (key : Key) (assigned : Option ℕ) (x : Target) (v : CellVariableIs s code m inst z key assigned x) (y : List Item) (p p' : ℕ) (before : List Kind) → Pushes code (site_at t b u) (length before) (i.Load (pos (level_of s z)) (pos (slot_of s code z key))) p p' → Rests y p' (Any ∷ before) → Rests (Do (Eval (Cell v.instance key)) ∷ y) p before
  puts_cell z key assigned x v y p p' before a r = evals s code m fs (λ v. ChainAt s code m fs rest v below) inst t b u low y (Cell v.instance key) p p' before (record { text = z; load = a; reaches = v.reaches; own = v.own; has = v.has; varies = v.varies }, refl) r

  -- what lies at a place that is found now
  fetched_kind : (kind : Kind) → IsRead kind → (n z p' : ℕ) → Is code i.Fetch z p' → FetchesAt s code (site_at t b u) n kind z p'
  fetched_kind Any r n z p' is = is
  fetched_kind Located r n z p' is = is
  fetched_kind Named r n z p' is = is
  fetched_kind (LinkTo text) r n z p' is = absurd r
  fetched_kind (OwnerOf text) r n z p' is = absurd r
  fetched_kind (LinkOf j) r n z p' is = absurd r
  fetched_kind (Refers class) r n z p' is = absurd r
  fetched_kind (FixedOf d) r n z p' is = absurd r

  fetch_is : (a : Term) → reads s a ≡ true → (n z p' : ℕ) → Is code i.Fetch z p' → FetchIs s code (site_at t b u) n (gives s a) (place_kind s a) z p'
  fetch_is a h n z p' is = read_by (gives s a) (place_kind s a) h
    where
      read_by : (g : Bool) (o : Option Kind) → reads_kind g o ≡ true → FetchIs s code (site_at t b u) n g o z p'
      read_by true None e = record { kind = Any; left = λ ks. refl; fetches = is }
      read_by false None e = absurd (cc)
      read_by g (Some kind) e = record { kind = kind; left = λ ks. refl; fetches = fetched_kind kind (read_kind kind e) n z p' is }

  puts_place : (e : Expression) (assigned : Option ℕ) (x : Target) (v : PlaceVariableIs s code m inst (site_at t b u) e assigned x) (y : List Item) (p z p' : ℕ) (before : List Kind) → PlaceAt s code (site_at t b u) (length before) 0 e p z → Is code i.Fetch z p' → Rests y p' (Any ∷ before) → Rests (Do (Eval (ValueAt v.place)) ∷ y) p before
  puts_place e assigned x v y p z p' before a f r =
      let c = v.anew u (length before) p z a in
      puts y (Eval (ValueAt v.place)) p p' before (Any ∷ before) ((z, c.0, fetch_is v.place c.1 (length before) z p' f), refl) r

  -- the value goes to a place that is found now
  place_put : (e : Expression) (assigned : Option ℕ) (x : Target) (v : PlaceVariableIs s code m inst (site_at t b u) e assigned x) (p p' : ℕ) (before : List Kind) (h : PutsAt code (PlaceAt s code (site_at t b u) (suc (length before)) 0 e) (Is code i.Put) p p') → StoreIs s code m inst (site_at t b u) (ToPlace v.place) p p' (Any ∷ before) before
  place_put e assigned x v p p' before h =
      let c = v.anew u (suc (length before)) p h.x h.place in
      (left_kind (place_kind s v.place), kind_read s v.place c.1, record { x = h.x; y = h.y; place = c.0; is_place = λ ks. leaves_kind s v.place ks c.1; under = h.under; put = h.put; «in» = refl })

  -- the controlled variable is given a value, and read
  stores_it : (v : Variable) (x : Target) → VariableIs s code m inst (site_at t b u) v x → (p p' : ℕ) (before : List Kind) → TakesValues v → StoresVariable s code (site_at t b u) (length before) v p p' → StoreIs s code m inst (site_at t b u) x p p' (Any ∷ before) before
  stores_it (OfCell z key None) x v p p' before takes a =
      subst (λ y. StoreIs s code m inst (site_at t b u) y p p' (Any ∷ before) before) (sym v.is) (record { text = z; is = a; reaches = v.reaches; own = v.own; has = v.has; varies = v.varies; declared = v.declared }, refl)
  stores_it (OfCell z key (Some line)) x v p p' before takes a = absurd (cc)
  stores_it (OfPlace e None) x v p p' before takes a =
      subst (λ y. StoreIs s code m inst (site_at t b u) y p p' (Any ∷ before) before) (sym v.is) (place_put e None x v p p' before a)
  stores_it (OfPlace e (Some line)) x v p p' before takes a = absurd (cc)
  stores_it (OfReference e line) x v p p' before takes a = absurd takes

  reads_it : (v : Variable) (x : Target) → VariableIs s code m inst (site_at t b u) v x → (y : List Item) (p p' : ℕ) (before : List Kind) → TakesValues v → LoadsVariable s code (site_at t b u) (length before) v p p' → Rests y p' (Any ∷ before) → Rests (reading x y) p before
  reads_it (OfCell z key None) x v y p p' before takes a r = subst (λ c. Rests (reading c y) p before) (sym v.is) (puts_cell z key None x v y p p' before a r)
  reads_it (OfCell z key (Some line)) x v y p p' before takes a r = absurd (cc)
  reads_it (OfPlace e None) x v y p p' before takes a r = subst (λ c. Rests (reading c y) p before) (sym v.is) (puts_place e None x v y p a.0 p' before a.1 a.2 r)
  reads_it (OfPlace e (Some line)) x v y p p' before takes a r = absurd (cc)
  reads_it (OfReference e line) x v y p p' before takes a r = absurd takes

  -- the value of an element goes to it
  gives_it : (v : Variable) (x : Target) → VariableIs s code m inst (site_at t b u) v x → (e : Expression) (y : List Item) (p p' : ℕ) (before : List Kind) → GivesVariable s code (site_at t b u) (length before) v e p p' → Rests y p' before → Rests (finding x (Do (Eval (close s m inst e)) ∷ Do (StoreOp x) ∷ y)) p before
  gives_it (OfCell z key None) x v e y p p' before a r =
      subst (λ c. Rests (finding c (Do (Eval (close s m inst e)) ∷ Do (StoreOp c) ∷ y)) p before) (sym v.is)
      (closes (Do (StoreOp (ToCell v.instance key)) ∷ y) e p a.0 before a.1 (puts y (StoreOp (ToCell v.instance key)) a.0 p' (Any ∷ before) before (record { text = z; is = a.2; reaches = v.reaches; own = v.own; has = v.has; varies = v.varies; declared = v.declared }, refl) r))
  gives_it (OfCell z key (Some line)) x v e y p p' before a r =
      subst (λ c. Rests (finding c (Do (Eval (close s m inst e)) ∷ Do (StoreOp c) ∷ y)) p before) (sym v.is)
      (puts_cell z key (Some line) x v (Do (Eval (close s m inst e)) ∷ Do (StoreOp (ToTextOf v.instance key line)) ∷ y) p a.0 before a.2
      (closes (Do (StoreOp (ToTextOf v.instance key line)) ∷ y) e a.0 a.1 (Any ∷ before) a.3 (puts y (StoreOp (ToTextOf v.instance key line)) a.1 p' (Any ∷ Any ∷ before) before (a.4, refl) r)))
  gives_it (OfPlace f None) x v e y p p' before a r =
      subst (λ c. Rests (finding c (Do (Eval (close s m inst e)) ∷ Do (StoreOp c) ∷ y)) p before) (sym v.is)
      (closes (Do (StoreOp (ToPlace v.place)) ∷ y) e p a.0 before a.1 (puts y (StoreOp (ToPlace v.place)) a.0 p' (Any ∷ before) before (place_put f None x v a.0 p' before a.2) r))
  gives_it (OfPlace f (Some line)) x v e y p p' before a r =
      let h = a.2 in
      subst (λ c. Rests (finding c (Do (Eval (close s m inst e)) ∷ Do (StoreOp c) ∷ y)) p before) (sym v.is)
      (puts_place f (Some line) x v (Do (Eval (close s m inst e)) ∷ Do (StoreOp (ToTextAt v.place line)) ∷ y) p h.0 a.0 before h.1 h.2
      (closes (Do (StoreOp (ToTextAt v.place line)) ∷ y) e a.0 a.1 (Any ∷ before) a.3 (puts y (StoreOp (ToTextAt v.place line)) a.1 p' (Any ∷ Any ∷ before) before (a.4, refl) r)))
  gives_it (OfReference f line) x v e y p p' before a r =
      let h = a.2 in
      let c = v.anew u (suc (length before)) a.0 h.x h.place in
      subst (λ c. Rests (finding c (Do (Eval (close s m inst e)) ∷ Do (StoreOp c) ∷ y)) p before) (sym v.is)
      (closes (Do (StoreOp (ToReferenceAt v.place line)) ∷ y) e p a.0 before a.1 (puts y (StoreOp (ToReferenceAt v.place line)) a.0 p' (Any ∷ before) before (c.class, c.is_class, record { x = h.x; y = h.y; place = c.term; is_place = c.leaves; under = h.under; put = h.put; «in» = refl }) r))

  -- ---- steps of elements

  pub once : (x : Target) (e : Expression) (es : List Element) (a : Statement) → Follows (ElementsOp x (syntax.Once e ∷ es) a)
  once x e es a h =
      let f = h.elements in
      let g = f.1 in
      a_tick _ g.x g.tick (λ p. moves_on _ g.x
      (gives_it h.variable x h.v e (Do (Exec a) ∷ Do (ElementsOp x es a) ∷ w) g.x g.z ks g.given
      (puts (Do (ElementsOp x es a) ∷ w) (Exec a) g.z f.0 ks ks (g.turn, refl)
      (puts w (ElementsOp x es a) f.0 q ks ks' (record { variable = h.variable; v = h.v; number = suc h.number; elements = f.2; out = h.out }) k))) refl)

  pub while_element : (x : Target) (e c : Expression) (a : Statement) → Follows (WhileElementOp x e c a)
  while_element x e c a h =
      let g = h.element in
      a_tick _ g.x g.tick (λ p. moves_on _ g.x
      (gives_it h.variable x h.v e (Do (Eval (close s m inst c)) ∷ Do (BranchOp a (BackOp (WhileElementOp x e c a))) ∷ w) g.x g.z ks g.given
      (closes (Do (BranchOp a (BackOp (WhileElementOp x e c a))) ∷ w) c g.z g.u ks g.test
      (puts w (BranchOp a (BackOp (WhileElementOp x e c a))) g.u q (Any ∷ ks) ks (record {
        z = g.b;
        w = g.w;
        jump = g.jump;
        leads = g.leads;
        turn = g.turn;
        next = record { t = pc; x = q; u = g.x; jump = g.back; back = g.behind; tick = g.tick; next = record { variable = h.variable; v = h.v; element = g; out = refl } };
        «in» = refl;
      }) (rests_out h.out)))) refl)
    where
      rests_out : ks' ≡ ks → Rests w q ks
      rests_out e = subst (λ z. Rests w q z) e k

  pub step_tested : (x : Target) (line : ℕ) (step limit : Expression) (a : Statement) → Follows (StepTestOp x line step limit a)
  step_tested x line step limit a h =
      let r = h.0 in
      let g = r.element in
      let e = h.2 in
      a_tick _ g.c (subst (λ z. Is code i.Tick z g.c) h.1 g.tick) (λ p. moves_on _ g.c
      (subst (λ z. Rests (reading x (Do (Eval (close s m inst limit)) ∷ Do (StepOp line) ∷ Do (BranchOp a (RaiseOp x line step limit a)) ∷ w)) g.c z) (sym e)
      (reads_it r.variable x r.v (Do (Eval (close s m inst limit)) ∷ Do (StepOp line) ∷ Do (BranchOp a (RaiseOp x line step limit a)) ∷ w) g.c g.d (anys 1 ks') g.takes g.variable
      (closes (Do (StepOp line) ∷ Do (BranchOp a (RaiseOp x line step limit a)) ∷ w) limit g.d g.e (anys 2 ks') g.last
      (puts (Do (BranchOp a (RaiseOp x line step limit a)) ∷ w) (StepOp line) g.e g.f (anys 3 ks') (anys 1 ks') (record { line = g.test.line; works = record { is = g.test.is; left = ks'; «in» = refl; out = refl } })
      (puts w (BranchOp a (RaiseOp x line step limit a)) g.f q (anys 1 ks') ks' (record { z = g.g; w = g.h; jump = g.jump; leads = g.leads; turn = g.turn; next = (r, refl, refl); «in» = refl }) k))))) refl)

  step_alike : (line line' : ℕ) (left : List Kind) → StackAt (HandAt s code m) (anys 3 left) vals stack → ks' ≡ anys 1 left → q ≡ suc pc
      → Alike R (testing_step plain line vals o (λ b vals. go o m inst w (meaning.Of b ∷ vals) rest)) (testing_step machine.plain line' stack o (λ b stack. machine.on o fs a_top (machine.Of b ∷ stack) below))
  unfolding testing_step
  step_alike line line' left h out place =
      hand_plain Configuration Machine R Val Value (HandAt s code m) plain machine.plain same_plain (anys 2 left) vals stack o _ _ h
      (λ z vals1 stack1 h1. hand_plain Configuration Machine R Val Value (HandAt s code m) plain machine.plain same_plain (anys 1 left) vals1 stack1 o _ _ h1
      (λ y vals2 stack2 h2. hand_plain Configuration Machine R Val Value (HandAt s code m) plain machine.plain same_plain left vals2 stack2 o
      (λ x rest'. answering line (step_test x y z) o (λ b. go o m inst w (meaning.Of b ∷ rest') rest)) (λ x rest'. answering line' (step_test x y z) o (λ b. machine.on o fs a_top (machine.Of b ∷ rest') below)) h2
      (λ x vals3 stack3 h3. any_line Configuration Machine R line line' o _ _ (λ v. onward s code l o m inst w vals rest fs t b pc stack below ks here u q ks' low k (more_at plain_at h3) out place) x y z)))

  pub step_test_op : (line : ℕ) → Follows (StepOp line)
  step_test_op line a = at_row s code l o fs a_top below _ i.StepTest a.line q a.works.is (step_alike line a.line a.works.left (kinds_as s code a.works.«in» here.values) a.works.out a.works.is.on)

  -- after a turn
  pub raise_rests : (x : Target) (line : ℕ) (step limit : Expression) (a : Statement) → OpAt s code m fs inst (site_at t b u) (RaiseOp x line step limit a) pc q ks ks'
      → Rests (Do (Eval (close s m inst step)) ∷ Do AgainOp ∷ reading x (Do (TwoOp (dyadic.Calculate calculation.Add) line) ∷ Do (StoreOp x) ∷ Do (BackOp (StepTestOp x line step limit a)) ∷ w)) pc ks
  raise_rests x line step limit a h =
      let r = h.0 in
      let g = r.element in
      let tail = Do (BackOp (StepTestOp x line step limit a)) ∷ w in
      let sums = Do (TwoOp (dyadic.Calculate calculation.Add) line) ∷ Do (StoreOp x) ∷ tail in
      subst (λ z. Rests (Do (Eval (close s m inst step)) ∷ Do AgainOp ∷ reading x sums) pc z) (sym h.2)
      (subst (λ p. Rests (Do (Eval (close s m inst step)) ∷ Do AgainOp ∷ reading x sums) p ks') h.1
      (closes (Do AgainOp ∷ reading x sums) step g.h g.j ks' g.next_step
      (puts (reading x sums) AgainOp g.j g.k (anys 1 ks') (anys 2 ks') (record { is = g.again; left = ks'; «in» = refl; out = refl })
      (reads_it r.variable x r.v sums g.k g.l (anys 2 ks') g.takes g.old
      (puts (Do (StoreOp x) ∷ tail) (TwoOp (dyadic.Calculate calculation.Add) line) g.l g.m (anys 3 ks') (anys 2 ks') (record { is = g.sum; left = anys 1 ks'; «in» = refl; out = refl })
      (puts tail (StoreOp x) g.m g.w (anys 2 ks') (anys 1 ks') (stores_it r.variable x r.v g.m g.w (anys 1 ks') g.takes g.raised)
      (puts w (BackOp (StepTestOp x line step limit a)) g.w q (anys 1 ks') ks' (record { t = g.t; x = q; u = g.c; jump = g.back; back = g.behind; tick = g.tick; next = (r, refl, refl) }) k)))))))

  pub while_rests : (x : Target) (e : Expression) (token : ℕ) (c : Expression) (es : List Element) (a : Statement) → OpAt s code m fs inst (site_at t b u) (ElementsOp x (syntax.While e token c ∷ es) a) pc q ks ks' → Rests (Do (WhileElementOp x e c a) ∷ Do (ElementsOp x es a) ∷ w) pc ks
  while_rests x e token c es a h =
      let f = h.elements in
      puts (Do (ElementsOp x es a) ∷ w) (WhileElementOp x e c a) pc f.0 ks ks (record { variable = h.variable; v = h.v; element = f.1; out = refl }) (puts w (ElementsOp x es a) f.0 q ks ks' (record { variable = h.variable; v = h.v; number = suc h.number; elements = f.2; out = h.out }) k)

  pub step_rests : (x : Target) (first : Expression) (token : ℕ) (step limit : Expression) (es : List Element) (a : Statement) → OpAt s code m fs inst (site_at t b u) (ElementsOp x (syntax.Step first token step limit ∷ es) a) pc q ks ks'
      → Rests (Do (Eval (close s m inst first)) ∷ Do (StoreOp x) ∷ Do (Eval (close s m inst step)) ∷ Do (StepTestOp x (line_at s token) step limit a) ∷ Do (ElementsOp x es a) ∷ w) pc ks
  step_rests x first token step limit es a h =
      let f = h.elements in
      let g = f.1 in
      let tail = Do (ElementsOp x es a) ∷ w in
      closes (Do (StoreOp x) ∷ Do (Eval (close s m inst step)) ∷ Do (StepTestOp x (line_at s token) step limit a) ∷ tail) first pc g.a ks g.first
      (puts (Do (Eval (close s m inst step)) ∷ Do (StepTestOp x (line_at s token) step limit a) ∷ tail) (StoreOp x) g.a g.b (Any ∷ ks) ks (stores_it h.variable x h.v g.a g.b ks g.takes g.stored)
      (closes (Do (StepTestOp x (line_at s token) step limit a) ∷ tail) step g.b g.t ks g.first_step
      (puts tail (StepTestOp x (line_at s token) step limit a) g.t f.0 (Any ∷ ks) ks (record { variable = h.variable; v = h.v; start = first; at = pc; element = g }, refl, refl)
      (puts w (ElementsOp x es a) f.0 q ks ks' (record { variable = h.variable; v = h.v; number = suc h.number; elements = f.2; out = h.out }) k))))

  pub none_rests : (x : Target) (a : Statement) → OpAt s code m fs inst (site_at t b u) (ElementsOp x [] a) pc q ks ks' → Rests w pc ks
  none_rests x a h = subst (λ p. Rests w p ks) h.elements (subst (λ z. Rests w q z) h.out k)

  -- ---- the statement

  -- the elements stand where control comes to, with the turns of the statement
  pub record ListIs (v : Variable) (es : List Element) (a : Statement) (p p' : ℕ) : Type 0 where
    pub at : ℕ
    pub comes : ComesTo s code fs inst t b u (length ks) at p
    pub elements : ElementsAt s code (site_at t b u) (length ks) v 0 es (λ n. TurnOf s code (site_at t b u) (length ks) a) at p'

  shared : (v : Variable) (es : List Element) (a : Statement) (p p' : ℕ) → SharedAt s code (site_at t b u) (length ks) v es (λ site. StmAt s code site (length ks) a) p p' → ListIs v es a p p'
  shared v es a p p' h = record {
    at = h.first;
    comes = over h.over h.leads (there refl);
    elements = elements_as s code (site_at t b u) (length ks) v es _ (λ n. TurnOf s code (site_at t b u) (length ks) a) (λ n x y turn. turning (record {
      temp = h.temp;
      number = n;
      start = h.start;
      ticked = h.u;
      done = h.d;
      first = h.first;
      returns = h.returns;
      unused = h.outside;
      is_temp = record { behind = omega (arith, (low.at).low, h.outside); within = h.within };
      turn = turn;
      tick = h.tick;
      body = h.body;
      back = h.back;
    })) 0 h.first p' h.elements;
  }

  plainly : (v : Variable) (es : List Element) (a : Statement) (p p' : ℕ) → ElementsAt s code (site_at t b u) (length ks) v 0 es (λ n. StmAt s code (site_at t b u) (length ks) a) p p' → ListIs v es a p p'
  plainly v es a p p' h = record { at = p; comes = there refl; elements = elements_as s code (site_at t b u) (length ks) v es _ (λ n. TurnOf s code (site_at t b u) (length ks) a) (λ n x y turn. straight turn) 0 p p' h }

  list_is : (v : Variable) (empty : Bool) (es : List Element) (a : Statement) (p p' : ℕ) → ListAt s code (site_at t b u) (length ks) v empty es (λ site. StmAt s code site (length ks) a) p p' → ListIs v es a p p'
  list_is v true [] a p p' h = plainly v [] a p p' h
  list_is v false [] a p p' h = shared v [] a p p' h
  list_is v true (e ∷ []) a p p' h = plainly v (e ∷ []) a p p' (p', h, refl)
  list_is v false (e ∷ []) a p p' h = plainly v (e ∷ []) a p p' (p', h, refl)
  list_is v true (e ∷ f ∷ es) a p p' h = plainly v (e ∷ f ∷ es) a p p' h
  list_is v false (e ∷ f ∷ es) a p p' h = shared v (e ∷ f ∷ es) a p p' h

  looped_by : (p : World) (v : Variable) (x : Target) (es : List Element) (a : Statement) (y : ℕ) → VariableIs s code m inst (site_at t b u) v x → ListAt s code (site_at t b u) (length ks) v (is_empty a) es (λ site. StmAt s code site (length ks) a) y q → ks' ≡ ks
      → Alike R (go p m inst (Do (ElementsOp x es a) ∷ w) vals rest) (Going p (record { chain = act inst y stack b ∷ below; memory = fs }))
  looped_by p v x es a y h list e =
      let r = list_is v (is_empty a) es a y q list in
      let same : u ≤ u = omega arith in
      moves_on (Do (ElementsOp x es a) ∷ w) y
      (r.at, u, q, ks', t, spot t b u, same_frame s t, r.comes, same, low.at, stays (record { variable = v; v = h; number = 0; elements = r.elements; out = e }) low.calm refl, k) refl

  -- the variable that is meant
  pub record MeantIs (v : Variable) (meant : Option Target) : Type 0 where
    pub target : Target
    pub is : meant ≡ Some target
    pub variable : VariableIs s code m inst (site_at t b u) v target

  looped : (p : World) (v : Variable) (o : Option Target) (es : List Element) (a : Statement) (y : ℕ) → MeantIs v o → ListAt s code (site_at t b u) (length ks) v (is_empty a) es (λ site. StmAt s code site (length ks) a) y q → ks' ≡ ks
      → Alike R (looping p m inst w vals rest o es a) (Going p (record { chain = act inst y stack b ∷ below; memory = fs }))
  looped p v o es a y h list e =
      subst (λ z. Alike R (looping p m inst w vals rest z es a) (Going p (record { chain = act inst y stack b ∷ below; memory = fs }))) (sym h.is) (looped_by p v h.target es a y h.variable list e)

  reaching_here : (z : ℕ) → Inside s.tables t z → Finds s m inst z
  reaching_here z ins = reach_found s m inst t z agrees here.stands here.lives ins

  -- a cell, or an attribute of a connected object
  meant_cell : (z : ℕ) (key : meaning.Key) (by : Option ℕ) (x : Left) → CellFound s code m inst t b u agrees reaching_here z key x → HasCell s z key → (o : Left → Option Target) → ((j : ℕ) → o (LeftCell j key) ≡ Some (variable_target by j key)) → MeantIs (OfCell z key by) (o x)
  meant_cell z key by x f has o e = record {
    target = variable_target by f.instance key;
    is = ap o f.is ∙ e f.instance;
    variable = record { instance = f.instance; is = refl; reaches = f.reaches; own = f.own; has = has; varies = f.varies; declared = f.declared };
  }

  meant_place : (e : Expression) (by : Option ℕ) (o : Left → Option Target) → ((a : Term) → o (LeftAddress a) ≡ Some (place_target by a)) → MeantIs (OfPlace e by) (o (LeftAddress (close_place s m inst e)))
  meant_place e by o is = record {
    target = place_target by (close_place s m inst e);
    is = is (close_place s m inst e);
    variable = record { place = close_place s m inst e; is = refl; anew = λ u' n p q a. place_at s code m inst (site_at t b u') agrees reaching_here None e n p q a };
  }

  meant_reference : (e : Expression) (line : ℕ) → MeantIs (OfReference e line) (Some (ToReferenceAt (reference_place s m inst e) line))
  meant_reference e line = record {
    target = ToReferenceAt (reference_place s m inst e) line;
    is = refl;
    variable = record { place = reference_place s m inst e; is = refl; anew = λ u' n p q a. let r = reference_at s code m inst (site_at t b u') agrees reaching_here e n p q a in record { class = r.class; is_class = r.is_class; term = (r.place).term; leaves = (r.place).leaves } };
  }

  -- an identifier alone is no attribute
  abbrev NoAttribute : Stored → Type 0
  NoAttribute (AtAttribute e) = ⊥
  NoAttribute _ = Unit {0}

  element_alone : (d : DeclNo) (es : Expressions) (line : ℕ) → NoAttribute (stored_element d es line)
  element_alone d NoMore line = tt
  element_alone d (Then e es) line = tt

  variable_alone : (d : DeclNo) (es : Expressions) → NoAttribute (stored_variable s d es)
  variable_alone d NoMore = tt
  variable_alone d (Then e es) = tt

  formal_alone : (d : DeclNo) (x : Expression) (line : ℕ) (by : Mode) (kind : FormalKind) → NoAttribute (stored_formal s x d NoMore line by kind)
  formal_alone d x line mode.ByName shape.Simple = tt
  formal_alone d x line mode.ByName shape.Array = tt
  formal_alone d x line mode.ByName shape.Procedure = tt
  formal_alone d x line mode.ByValue shape.Simple = variable_alone d NoMore
  formal_alone d x line mode.ByValue shape.Array = element_alone d NoMore line
  formal_alone d x line mode.ByValue shape.Procedure = tt
  formal_alone d x line mode.ByReference shape.Simple = variable_alone d NoMore
  formal_alone d x line mode.ByReference shape.Array = element_alone d NoMore line
  formal_alone d x line mode.ByReference shape.Procedure = tt

  result_alone : (z : ℕ) (es : Expressions) → NoAttribute (stored_result z es)
  result_alone z NoMore = tt
  result_alone z (Then e es) = tt

  declared_alone : (d : DeclNo) (x : Expression) (line : ℕ) (o : Option Entry) → NoAttribute (stored_declared s x d NoMore line o)
  declared_alone d x line (Some (entry.Variable type)) = variable_alone d NoMore
  declared_alone d x line (Some (entry.Constant type)) = tt
  declared_alone d x line (Some (entry.Array element dimensions)) = element_alone d NoMore line
  declared_alone d x line (Some (entry.Formal f)) = formal_alone d x line f.mode f.kind
  declared_alone d x line (Some (entry.Procedure result z)) = result_alone z NoMore
  declared_alone d x line (Some (entry.Class block)) = tt
  declared_alone d x line (Some (entry.Virtual result own)) = tt
  declared_alone d x line (Some (entry.Unspecified written)) = tt
  declared_alone d x line (Some (entry.Attribute name parameter result)) = tt
  declared_alone d x line None = tt

  named_alone : (u : Option Denotation) (x : Expression) (line : ℕ) → NoAttribute (stored_named s x u NoMore line)
  named_alone (Some (denotation.Declared d)) x line = declared_alone d x line (entry_of s.tables d)
  named_alone (Some (denotation.Standard name)) x line = tt
  named_alone None x line = tt

  match_alone : (o : Option ℕ) (x : Stored) → NoAttribute x → NoAttribute (stored_match o x)
  match_alone None x n = n
  match_alone (Some z) x n = tt

  module _ (p : World) (es : List Element) (a : Statement) (y : ℕ) (by : Option ℕ) (target : Left → Option Target) (cells : (j : ℕ) (key : meaning.Key) → target (LeftCell j key) ≡ Some (variable_target by j key)) (places : (x : Term) → target (LeftAddress x) ≡ Some (place_target by x)) (e : ks' ≡ ks) where
    abbrev Loops : Left → Type 0
    Loops x = Alike R (looping p m inst w vals rest (target x) es a) (Going p (record { chain = act inst y stack b ∷ below; memory = fs }))

    looped_stored : (x : Stored) (v : Left) → NoAttribute x → LeftFits s code m inst t b u agrees reaching_here x v → ForAt s code (site_at t b u) (length ks) (variable_stored x by) (is_empty a) es (λ site. StmAt s code site (length ks) a) y q → Loops v
    looped_stored (InCell z key) v n fit h = let g = h.0 in looped p (OfCell z key by) (target v) es a y (meant_cell z key by v (fit g.0 g.1) g.1 target (λ j. cells j key)) h.1 e
    looped_stored (AtAttribute x) v n fit h = absurd n
    looped_stored (AtAddress d xs line) v n fit h = absurd h
    looped_stored (ToReference x line) v n fit h = absurd h
    looped_stored (ToText x line) v n fit h = absurd h
    looped_stored (ToResult z line) v n fit h = absurd h
    looped_stored (ToNamed d line) v n fit h = absurd h
    looped_stored (ToNamedText d line) v n fit h = absurd h
    looped_stored (ToNamedReference d class line) v n fit h = absurd h
    looped_stored NoPlace v n fit h = absurd h

    looped_found : (c : Option ℕ) (x : Expression) (st : Stored) (v : Left) → NoAttribute st → (c ≡ None → LeftFits s code m inst t b u agrees reaching_here st v) → ForAt s code (site_at t b u) (length ks) (variable_stored (stored_found c x st) by) (is_empty a) es (λ site. StmAt s code site (length ks) a) y q → Loops (left_found c (close_place s m inst x) v)
    looped_found None x st v n fit h = looped_stored st v n (fit refl) h
    looped_found (Some z) x st v n fit h = looped p (OfPlace x by) (target (LeftAddress (close_place s m inst x))) es a y (meant_place x by target places) h.1 e

    looped_named : (x : Identifier) → ForAt s code (site_at t b u) (length ks) (variable_stored (stored_left s (syntax.Named x NoMore)) by) (is_empty a) es (λ site. StmAt s code site (length ks) a) y q → Loops (left_variable s m inst (syntax.Named x NoMore))
    looped_named x h =
        let line = line_at s x.token.0 in
        let whole : Expression = syntax.Named x NoMore in
        looped_found (connection_at s x.token.0) whole (stored_match (text_of_procedure s (own_match s whole)) (stored_named s whole (denoted s x.token.0) NoMore line)) (match_left s m inst (text_of_procedure s (own_match s whole)) (named_left s m inst line (denoted s x.token.0) NoMore))
        (match_alone (text_of_procedure s (own_match s whole)) _ (named_alone (denoted s x.token.0) whole line))
        (λ none. left_match s code m inst t b u agrees reaching_here (text_of_procedure s (own_match s whole)) _ _ (left_named s code m inst t b u agrees reaching_here (denoted s x.token.0) whole NoMore line (λ n p q a.
        subst (λ o. ThroughAt o (λ k. PlaceBehindAt s code line 0 (denoted s x.token.0) NoMore (ConnectedAt s code (site_at t b u) n k) (ExprsAt s code (site_at t b u) (suc n) NoMore)) (NamedPlaceAt s code (site_at t b u) n line 0 (denoted s x.token.0) NoMore (ExprsAt s code (site_at t b u) (suc n) NoMore)) p q) none a))) h

  looped_left : (p : World) (g : Bool) (sign : Assignment) (line : ℕ) (x : Identifier) (es : List Element) (a : Statement) (y : ℕ) → ForAt s code (site_at t b u) (length ks) (variable_of s line (syntax.Named x NoMore) (assigned_by g sign line)) (is_empty a) es (λ site. StmAt s code site (length ks) a) y q → ks' ≡ ks
      → Alike R (looping p m inst w vals rest (controlled g sign line (controlled_left g sign s m inst (syntax.Named x NoMore))) es a) (Going p (record { chain = act inst y stack b ∷ below; memory = fs }))
  looped_left p true assignment.Value line x es a y h e = looped_named p es a y (Some line) (controlled true assignment.Value line) (λ j key. refl) (λ z. refl) e x h
  looped_left p true assignment.Reference line x es a y h e = looped_named p es a y None (controlled true assignment.Reference line) (λ j key. refl) (λ z. refl) e x h
  looped_left p false assignment.Value line x es a y h e = looped_named p es a y None (controlled false assignment.Value line) (λ j key. refl) (λ z. refl) e x h
  looped_left p false assignment.Reference line x es a y h e = looped p (OfReference (syntax.Named x NoMore) line) (Some (ToReferenceAt (reference_place s m inst (syntax.Named x NoMore)) line)) es a y (meant_reference (syntax.Named x NoMore) line) h.1 e

  pub for_statement : (token : ℕ) (x : Identifier) (sign : Assignment) (assign : ℕ) (es : List Element) (a : Statement) → BeginsAt s code m fs inst (site_at t b u) (Exec (syntax.For token x sign assign es a)) pc q ks ks' → Alike R (do_op s l o m inst w vals rest (Exec (syntax.For token x sign assign es a))) (on_top code l o fs a_top below)
  for_statement token x sign assign es a h =
      let y = h.0 in
      a_tick _ y.0 y.1 (λ p. looped_left p (is_text s (syntax.Named x NoMore)) sign (line_at s assign) x es a y.0 y.2 h.1)

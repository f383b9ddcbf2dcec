-- Steps of the program that the machine makes no step for, and how many of them there can be in a row.
use Rattle.std.proofs.Common.{◌≡◌, ℕ, suc, List, [], ◌∷◌, length, Option, refl, sym, ap, ◌∙◌, subst, arith, Bool}
use Rattle.sim_scope.specs.Source.{Source}
use Rattle.sim_tree.specs.Syntax.{Also, Arrayed, Arrays, BoundPair, Declarations, DeclareClass, DeclareProcedure, Element, NoDeclaration, NoStatement, Statement, Statements, Variables, With, Expressions, NoMore, Then}
use Rattle.sim_tree.specs.declared.expr.Identifier.{Identifier}
use Rattle.sim_tree.specs.Syntax as syntax
use Rattle.sim_tree.specs.declared.expr.Membership.{Membership}
use Rattle.sim_values.specs.declared.operators.Dyadic.{Dyadic}
use Rattle.sim_values.specs.declared.operators.Monadic.{Monadic}
use Rattle.sim_values.specs.declared.kind.Kind.{Kind as ElementKind}
use Rattle.sim_values.specs.declared.standard.Standard.{Standard}
use Rattle.sim_code.specs.Code.{CodeOf}
use Rattle.sim_code.specs.Machine.{Frames}
use Rattle.sim_code.specs.Transfers.{Transfer}
use Rattle.sim_meaning.specs.Closing.{close, close_passed}
use Rattle.sim_meaning.specs.Entries.{arrays_declared, arrays_of, bounds_of, segments_of}
use Rattle.sim_meaning.specs.Pending.{Activation, CloseOp, DeclareOp, ForPlace, ForValue, NamedOf, NamedOp, ToNamed, Use, AttributeOf, AttributeOp, CallOp, FitsOf, FitsOp, KeepOp, KeptOf, Key, MemberOf, MemberOp, NotNoneOf, NotNoneOp, ObjectOp, QuaOf, QuaOp, QualifiedElementOf, QualifiedElementOp, ReferOp, RemoteCallOf, SetOf, SetOp, StoreOp, SwapOp, ToAddress, ToPlace, ToReference, ToReferenceAt, CallOf, Cell, Configuration, CopyOf, CopyOp, Do, Either, ElementOf, ElementOp, ElementsOp, Eval, Exec, Execs, FetchOp, Further, GiveOp, Given, IfOp, ImageOf, Instances, Item, JoinOp, Joined, NoTerm, One, OneOp, Op, PlaceOf, RaiseOp, StandardOf, StandardOp, Target, Term, Terms, TransferOf, TransferOp, Two, TwoOp, Val, ValueAt, ProcessOf, ProcessOp, VirtualOp, CheckOp, CallValueOp, CheckedOf, ForParameter, MatchOf, OriginOf, OriginOp, ParameterOp, ProcedureOp, RemoteProcedureOf}
use Rattle.sim_meaning.specs.Steps.{count, each, count_of, parameters}
use Rattle.sim_meaning.specs.Texts.{kind_named, text}
use Rattle.sim_relate.proofs.Pending.{anys_more, each_pends, each_reads, evals, pends}
use Rattle.sim_relate.proofs.Known.{Any, Kind, OwnerOf, Refers, given, leaves_as, leaving, text_gives, anys, site_at, AllRead, Runs, Settled}
use Rattle.sim_relate.proofs.Trees.{OperandAt, AllPassAt}
use Rattle.sim_relate.proofs.Operations.{of_class}
use Rattle.sim_relate.proofs.Relation.{BeginsAt, OpAt, WorkAt, straight}
use Rattle.sim_relate.proofs.Waiting.{Wait, kind_used}

-- ---- how much is taken apart before the next step of both

abbrev mutual
  -- a closed tree, before its first value
  pub opened : Term → ℕ
  opened (Given p) = 0
  opened (Cell j key) = 0
  opened (One op line a) = suc (opened a)
  opened (Two op line a b) = suc (opened a)
  opened (Either c a b) = suc (opened c)
  opened (ElementOf line a ts) = suc (opened a)
  opened (ValueAt a) = suc (opened a)
  opened (CopyOf line a) = suc (opened a)
  opened (CallOf j k ts line) = 0
  opened (StandardOf name ts line) = suc (opened_first ts)
  opened (PlaceOf j key) = 0
  opened (ImageOf image) = 0
  opened (Joined line a b) = suc (opened a)
  opened (AttributeOf text key class line a) = suc (opened a)
  opened (RemoteCallOf a k ts line) = suc (opened a)
  opened (QualifiedElementOf line k a ts) = suc (opened a)
  opened (MemberOf member k a) = suc (opened a)
  opened (QuaOf k line a) = suc (opened a)
  opened (FitsOf k line a) = suc (opened a)
  opened (KeptOf a) = suc (opened a)
  opened (NotNoneOf line a) = suc (opened a)
  opened (TransferOf t line a) = suc (opened a)
  opened (SetOf name ts) = suc (opened_first ts)
  opened (OriginOf k token line a) = suc (opened a)
  opened (RemoteProcedureOf a k line) = suc (opened a)
  opened (MatchOf a v line) = suc (opened a)
  opened (CheckedOf a leaves home es line) = suc (opened a)
  opened (ProcessOf name line a) = suc (opened a)
  opened (NamedOf j key wanted) = 1
  opened _ = 0

  pub opened_first : Terms → ℕ
  opened_first NoTerm = 0
  opened_first (Further t ts) = opened t

-- statements, before so much else
abbrev pub begun : Statement → ℕ → ℕ
begun (syntax.Empty token) rest = suc rest
begun _ rest = 0

abbrev pub begun_all : Statements → ℕ → ℕ
begun_all NoStatement rest = suc rest
begun_all (Also a more) rest = suc (begun a (begun_all more rest))

abbrev pub elements_begun : Source → Instances → ℕ → List Element → ℕ → ℕ
elements_begun s m i [] rest = suc rest
elements_begun s m i (syntax.Once e ∷ es) rest = 0
elements_begun s m i (syntax.While e token c ∷ es) rest = 1
elements_begun s m i (syntax.Step first token step limit ∷ es) rest = suc (opened (close s m i first))

abbrev pub given_left : List Target → ℕ → ℕ
given_left [] rest = suc rest
given_left (t ∷ ts) rest = 0

-- a reference, and a variable that is found anew
abbrev pub stored_first : Target → ℕ
stored_first (ToReference line) = 1
stored_first (ToNamed k line) = 1
stored_first (ToPlace a) = suc (opened a)
stored_first (ToReferenceAt a line) = suc (opened a)
stored_first _ = 0

-- the arrays of declarations
abbrev pub bounds_begun : Source → Instances → ℕ → List BoundPair → ℕ → ℕ
bounds_begun s m i [] rest = rest
bounds_begun s m i (b ∷ bs) rest = opened (close s m i b.lower)

abbrev pub names_begun : List Identifier → ℕ → ℕ
names_begun [] rest = rest
names_begun (x ∷ xs) rest = 0

abbrev pub segments_begun : Source → Instances → ℕ → List Arrayed → ℕ → ℕ
segments_begun s m i [] rest = rest
segments_begun s m i (a ∷ more) rest = bounds_begun s m i a.bounds (names_begun a.names (segments_begun s m i more rest))

abbrev pub arrays_begun : Source → Instances → ℕ → Declarations → ℕ → ℕ
arrays_begun s m i NoDeclaration rest = rest
arrays_begun s m i (With (Variables type vs) ds) rest = arrays_begun s m i ds rest
arrays_begun s m i (With (Arrays type token segments) ds) rest = segments_begun s m i segments (arrays_begun s m i ds rest)
arrays_begun s m i (With (DeclareProcedure result token h a end) ds) rest = arrays_begun s m i ds rest
arrays_begun s m i (With (DeclareClass prefix token h interface a end) ds) rest = arrays_begun s m i ds rest

abbrev pub op_weight : Source → Instances → ℕ → Op → ℕ → ℕ
op_weight s m i (Eval t) rest = opened t
op_weight s m i (Exec a) rest = begun a rest
op_weight s m i (Execs ss) rest = begun_all ss rest
op_weight s m i (GiveOp v ts) rest = given_left ts rest
op_weight s m i (StoreOp t) rest = stored_first t
op_weight s m i (ElementsOp t es a) rest = elements_begun s m i es rest
op_weight s m i (CloseOp as_procedure e) rest = suc (opened (close_passed as_procedure s m i e))
op_weight s m i (DeclareOp ds) rest = suc (arrays_begun s m i ds rest)
op_weight s m i (RaiseOp t line step limit a) rest = suc (opened (close s m i step))
op_weight s m i _ rest = 0

abbrev pub work_weight : Source → Instances → ℕ → List Item → ℕ
work_weight s m i [] = 0
work_weight s m i (Do op ∷ w) = op_weight s m i op (work_weight s m i w)
work_weight s m i (_ ∷ w) = 0

abbrev pub chain_weight : Source → Instances → List Activation → ℕ
chain_weight s m [] = 0
chain_weight s m (a ∷ rest) = work_weight s m a.instance a.work

abbrev pub weight : Source → Configuration → ℕ
weight s c = chain_weight s c.memory c.chain

-- what declarations begin with
segments_weight : (s : Source) (m : Instances) (i : ℕ) (kind : ElementKind) (xs : List Arrayed) (w : List Item) → work_weight s m i (segments_of s m i kind xs w) ≡ segments_begun s m i xs (work_weight s m i w)
segments_weight s m i kind [] w = refl
segments_weight s m i kind (a ∷ more) w = by (length a.bounds) a.bounds a.names (segments_weight s m i kind more w)
  where
    by : (n : ℕ) (bs : List BoundPair) (xs : List Identifier) → work_weight s m i (segments_of s m i kind more w) ≡ segments_begun s m i more (work_weight s m i w) → work_weight s m i (bounds_of s m i bs (arrays_of s i kind n xs (segments_of s m i kind more w))) ≡ bounds_begun s m i bs (names_begun xs (segments_begun s m i more (work_weight s m i w)))
    by n (b ∷ bs) xs e = refl
    by n [] (x ∷ xs) e = refl
    by n [] [] e = e

pub arrays_weight : (s : Source) (m : Instances) (i : ℕ) (ds : Declarations) (w : List Item) → work_weight s m i (arrays_declared s m i ds w) ≡ arrays_begun s m i ds (work_weight s m i w)
arrays_weight s m i NoDeclaration w = refl
arrays_weight s m i (With (Variables type vs) ds) w = arrays_weight s m i ds w
arrays_weight s m i (With (Arrays type token segments) ds) w = segments_weight s m i (kind_named type) segments (arrays_declared s m i ds w) ∙ ap (segments_begun s m i segments) (arrays_weight s m i ds w)
arrays_weight s m i (With (DeclareProcedure result token h a end) ds) w = arrays_weight s m i ds w
arrays_weight s m i (With (DeclareClass prefix token h interface a end) ds) w = arrays_weight s m i ds w

-- operands in front of an operator that has an instruction
pub each_weight : (s : Source) (m : Instances) (i : ℕ) (ts : Terms) (w : List Item) → work_weight s m i w ≡ 0 → work_weight s m i (each ts w) ≡ opened_first ts
each_weight s m i NoTerm w e = e
each_weight s m i (Further t ts) w e = refl

-- ---- what is pending then

module _ (s : Source) (code : CodeOf) (m : Instances) (fs : Frames) (Below : Wait → Type 0) (inst t : ℕ) (b : Runs) (u : ℕ) (low : Settled s code t b u) (w : List Item) (p q : ℕ) (ks ks' : List Kind) (k : WorkAt s code m fs Below inst t b u w q ks') where
  abbrev Pends : List Item → ℕ → List Kind → Type 0
  Pends x place before = WorkAt s code m fs Below inst t b u x place before

  -- where the work alone has changed
  abbrev Becomes : List Item → Op → Type 0
  Becomes x op = OpAt s code m fs inst (site_at t b u) op p q ks ks' → Pends x p ks

  puts : (x : List Item) (op : Op) (y z : ℕ) (before behind : List Kind) → OpAt s code m fs inst (site_at t b u) op y z before behind → Pends x z behind → Pends (Do op ∷ x) y before
  puts x op y z before behind a r = pends s code m fs Below inst t b u low x op y z before behind a r

  -- the work that is left, where nothing has been done
  left_over : q ≡ p → ks' ≡ ks → Pends w p ks
  left_over e f = subst (λ z. Pends w z ks) e (subst (λ z. Pends w q z) f k)

  pub one_opened : (op : Monadic) (line : ℕ) (x : Term) → Becomes (Do (Eval x) ∷ Do (OneOp op line) ∷ w) (Eval (One op line x))
  one_opened op line x a =
      let y = a.0 in
      evals s code m fs Below inst t b u low (Do (OneOp op line) ∷ w) x p y.0 ks y.1 (puts w (OneOp op line) y.0 q (Any ∷ ks) ks' (record { is = y.2; left = ks; «in» = refl; out = a.1 }) k)

  pub two_opened : (op : Dyadic) (line : ℕ) (x z : Term) → Becomes (Do (Eval x) ∷ Do (Eval z) ∷ Do (TwoOp op line) ∷ w) (Eval (Two op line x z))
  two_opened op line x z a =
      let y = a.0 in
      evals s code m fs Below inst t b u low (Do (Eval z) ∷ Do (TwoOp op line) ∷ w) x p y.0 ks y.2
      (evals s code m fs Below inst t b u low (Do (TwoOp op line) ∷ w) z y.0 y.1 (Any ∷ ks) y.3 (puts w (TwoOp op line) y.1 q (Any ∷ Any ∷ ks) ks' (record { is = y.4; left = ks; «in» = refl; out = a.1 }) k))

  pub either_opened : (c x z : Term) → Becomes (Do (Eval c) ∷ Do (IfOp x z) ∷ w) (Eval (Either c x z))
  either_opened c x z a =
      let y = a.0 in
      evals s code m fs Below inst t b u low (Do (IfOp x z) ∷ w) c p y.y ks y.test
      (puts w (IfOp x z) y.y q (Any ∷ ks) ks' (record { left = ks; choice = record { z = y.z; w = y.w; x = y.x; jump = y.jump; leads = y.leads; first = y.first; over = y.over; past = y.past; second = y.second }; «in» = refl; out = a.1 }) k)

  pub element_opened : (line : ℕ) (x : Term) (ts : Terms) → Becomes (Do (Eval x) ∷ each ts (Do (ElementOp (count ts) line) ∷ w)) (Eval (ElementOf line x ts))
  element_opened line x ts a =
      let y = a.0 in
      evals s code m fs Below inst t b u low (each ts (Do (ElementOp (count ts) line) ∷ w)) x p y.0 ks y.2
      (each_pends s code m fs Below inst t b u low (Do (ElementOp (count ts) line) ∷ w) ts y.0 y.1 (Any ∷ ks) y.3
      (puts w (ElementOp (count ts) line) y.1 q (anys (count ts) (Any ∷ ks)) ks' (record { is = y.4; left = ks; «in» = anys_more (count ts) ks; out = a.1 }) k))

  -- an operand in front of an operator
  opens : (x : Term) (op : Op) (y : ℕ) → OperandAt s code m inst (site_at t b u) (length ks) x p y → OpAt s code m fs inst (site_at t b u) op y q (Any ∷ ks) ks' → Pends (Do (Eval x) ∷ Do op ∷ w) p ks
  opens x op y a c = evals s code m fs Below inst t b u low (Do op ∷ w) x p y ks a (puts w op y q (Any ∷ ks) ks' c k)

  pub value_opened : (x : Term) → Becomes (Do (Eval x) ∷ Do FetchOp ∷ w) (Eval (ValueAt x))
  value_opened x a =
      let y = a.0 in
      let f = y.2 in
      puts (Do FetchOp ∷ w) (Eval x) p y.0 ks (f.kind ∷ ks) (y.1, leaves_as s x ks (f.kind ∷ ks) (sym (f.left ks))) (puts w FetchOp y.0 q (f.kind ∷ ks) ks' (record { kind = f.kind; left = ks; fetches = f.fetches; «in» = refl; out = a.1 }) k)

  pub copy_opened : (line : ℕ) (x : Term) → Becomes (Do (Eval x) ∷ Do (CopyOp line) ∷ w) (Eval (CopyOf line x))
  copy_opened line x a =
      let y = a.0 in
      evals s code m fs Below inst t b u low (Do (CopyOp line) ∷ w) x p y.0 ks y.1 (puts w (CopyOp line) y.0 q (Any ∷ ks) ks' (record { is = y.2; left = ks; «in» = refl; out = a.1 }) k)

  pub standard_opened : (name : Standard) (ts : Terms) (line : ℕ) → Becomes (each ts (Do (StandardOp name line) ∷ w)) (Eval (StandardOf name ts line))
  standard_opened name ts line a =
      let y = a.0 in
      each_reads s code m fs Below inst t b u low (Do (StandardOp name line) ∷ w) ts 0 p y.0 ks ks refl y.1
      (λ ks2 r. puts w (StandardOp name line) y.0 q ks2 ks' (record { left = ks; many = count ts; is = y.2; «in» = subst (λ n. AllRead n ks2 ks) (omega arith) r; out = a.1 }) k)

  pub joined_opened : (line : ℕ) (x z : Term) → Becomes (Do (Eval x) ∷ Do (Eval z) ∷ Do (JoinOp line) ∷ w) (Eval (Joined line x z))
  joined_opened line x z a =
      let y = a.0 in
      evals s code m fs Below inst t b u low (Do (Eval z) ∷ Do (JoinOp line) ∷ w) x p y.0 ks y.2
      (evals s code m fs Below inst t b u low (Do (JoinOp line) ∷ w) z y.0 y.1 (Any ∷ ks) y.3 (puts w (JoinOp line) y.1 q (Any ∷ Any ∷ ks) ks' (record { left = ks; joins = y.4; «in» = refl; out = a.1 }) k))

  -- ---- what objects have

  pub attribute_opened : (text : ℕ) (key : Key) (class : Option ℕ) (line : ℕ) (x : Term) → Becomes (Do (Eval x) ∷ Do (AttributeOp text key class line) ∷ w) (Eval (AttributeOf text key class line x))
  attribute_opened text key class line x a = let y = a.0 in opens x (AttributeOp text key class line) y.0 y.1 (record { left = ks; found = y.2; «in» = refl; out = a.1 })

  pub remote_opened : (x : Term) (c : ℕ) (ts : Terms) (line : ℕ) → Becomes (Do (Eval x) ∷ Do (ObjectOp c line) ∷ each ts (Do (CallOp c (count ts) line) ∷ w)) (Eval (RemoteCallOf x c ts line))
  remote_opened x c ts line a =
      let y = a.0 in
      let behind = each ts (Do (CallOp c (count ts) line) ∷ w) in
      evals s code m fs Below inst t b u low (Do (ObjectOp c line) ∷ behind) x p y.x ks y.object
      (puts behind (ObjectOp c line) y.x y.y (Any ∷ ks) (OwnerOf y.text ∷ ks) (record { is = y.there; text = y.text; around = (y.procedure).stands_in; left = ks; «in» = refl; out = refl })
      (each_pends s code m fs Below inst t b u low (Do (CallOp c (count ts) line) ∷ w) ts y.y y.z (OwnerOf y.text ∷ ks) y.actuals
      (puts w (CallOp c (count ts) line) y.z q (anys (count ts) (OwnerOf y.text ∷ ks)) ks' (record { text = y.text; procedure = y.procedure; is = y.call; as_many = y.as_many; left = ks; fits = y.fits; link = OwnerOf y.text; links = refl; «in» = refl; out = a.1 ∙ ap (λ g. given g ks) (ap text_gives (y.procedure).is) }) k)))

  pub origin_opened : (c token line : ℕ) (x : Term) → Becomes (Do (Eval x) ∷ Do (OriginOp c token line) ∷ w) (Eval (OriginOf c token line x))
  origin_opened c token line x a = let y = a.0 in opens x (OriginOp c token line) y.0 y.1 (record { left = ks; is = y.2; «in» = refl; out = a.1 })

  -- ---- procedures as values

  pub remote_procedure_opened : (x : Term) (c line : ℕ) → Becomes (Do (Eval x) ∷ Do (ObjectOp c line) ∷ Do (ProcedureOp c) ∷ w) (Eval (RemoteProcedureOf x c line))
  remote_procedure_opened x c line a =
      let y = a.0 in
      evals s code m fs Below inst t b u low (Do (ObjectOp c line) ∷ Do (ProcedureOp c) ∷ w) x p y.x ks y.object
      (puts (Do (ProcedureOp c) ∷ w) (ObjectOp c line) y.x y.y (Any ∷ ks) (OwnerOf y.text ∷ ks) (record { is = y.there; text = y.text; around = (y.procedure).stands_in; left = ks; «in» = refl; out = refl })
      (puts w (ProcedureOp c) y.y q (OwnerOf y.text ∷ ks) ks' (record { is = y.value; text = y.text; procedure = y.procedure; left = ks; link = OwnerOf y.text; links = refl; «in» = refl; out = a.1 }) k))

  pub match_opened : (x : Term) (v line : ℕ) → Becomes (Do (Eval x) ∷ Do (VirtualOp v line) ∷ w) (Eval (MatchOf x v line))
  match_opened x v line a = let y = a.0 in opens x (VirtualOp v line) y.x y.object (record { is = y.found; declared = y.declared; left = ks; «in» = refl; out = a.1 })

  -- the actual parameters of a call that is checked
  parameters_pend : (after : List Item) (was number line : ℕ) (es : Expressions) (y z : ℕ) (before : List Kind) → AllPassAt s code (site_at t b u) (length before) was number line es y z → Pends after z (anys (count_of es) before) → Pends (parameters number line es after) y before
  parameters_pend after was number line NoMore y z before a r = subst (λ place. Pends after place before) a r
  parameters_pend after was number line (Then e es) y z before a r =
      puts (parameters (suc number) line es after) (ParameterOp number e line) y a.0 before (Any ∷ before) (record { was = was; passes = a.1; out = refl })
      (parameters_pend after was (suc number) line es a.0 z (Any ∷ before) a.2 (subst (λ place. Pends after z place) (sym (anys_more (count_of es) before)) r))

  pub checked_opened : (x : Term) (leaves : Bool) (home : ℕ) (es : Expressions) (line : ℕ) → Becomes (Do (Eval x) ∷ Do (CheckOp es line) ∷ parameters 0 line es (Do (CallValueOp (count_of es) leaves line) ∷ w)) (Eval (CheckedOf x leaves home es line))
  checked_opened x leaves home es line a =
      let y = a.0 in
      let called = Do (CallValueOp (count_of es) leaves line) ∷ w in
      evals s code m fs Below inst t b u low (Do (CheckOp es line) ∷ parameters 0 line es called) x p y.x ks y.procedure
      (puts (parameters 0 line es called) (CheckOp es line) y.x y.y (Any ∷ ks) (Any ∷ ks) (record { is = y.check; left = ks; «in» = refl; out = refl })
      (parameters_pend called y.was 0 line es y.y y.z (Any ∷ ks) y.passes
      (puts w (CallValueOp (count_of es) leaves line) y.z q (anys (count_of es) (Any ∷ ks)) ks' (record { is = y.called; left = ks; fits = y.fits; «in» = anys_more (count_of es) ks; out = a.1 }) k)))

  pub qualified_element_opened : (line c : ℕ) (x : Term) (ts : Terms) → Becomes (Do (Eval x) ∷ each ts (Do (QualifiedElementOp (count ts) line c) ∷ w)) (Eval (QualifiedElementOf line c x ts))
  qualified_element_opened line c x ts a =
      let y = a.0 in
      let e = y.4 in
      evals s code m fs Below inst t b u low (each ts (Do (QualifiedElementOp (count ts) line c) ∷ w)) x p y.0 ks y.2
      (each_pends s code m fs Below inst t b u low (Do (QualifiedElementOp (count ts) line c) ∷ w) ts y.0 y.1 (Any ∷ ks) y.3
      (puts w (QualifiedElementOp (count ts) line c) y.1 q (anys (count ts) (Any ∷ ks)) ks' (record { is = e.1; is_class = e.0; left = ks; «in» = anys_more (count ts) ks; out = a.1 }) k))

  pub member_opened : (member : Membership) (c : ℕ) (x : Term) → Becomes (Do (Eval x) ∷ Do (MemberOp member c) ∷ w) (Eval (MemberOf member c x))
  member_opened member c x a = let y = a.0 in let e = y.2 in let z = e.1 in opens x (MemberOp member c) y.0 y.1 (e.0, record { line = z.line; works = record { is = z.is; left = ks; «in» = refl; out = a.1 } })

  pub qua_opened : (c line : ℕ) (x : Term) → Becomes (Do (Eval x) ∷ Do (QuaOp c line) ∷ w) (Eval (QuaOf c line x))
  qua_opened c line x a = let y = a.0 in let e = y.2 in opens x (QuaOp c line) y.0 y.1 (e.0, record { is = e.1; left = ks; «in» = refl; out = a.1 })

  pub fits_opened : (c line : ℕ) (x : Term) → Becomes (Do (Eval x) ∷ Do (FitsOp c line) ∷ w) (Eval (FitsOf c line x))
  fits_opened c line x a = let y = a.0 in opens x (FitsOp c line) y.0 y.1 (record { left = ks; fits = y.2; «in» = refl; out = a.1 })

  pub kept_opened : (x : Term) → Becomes (Do (Eval x) ∷ Do KeepOp ∷ w) (Eval (KeptOf x))
  kept_opened x a = let y = a.0 in let z = y.2 in opens x KeepOp y.0 y.1 (record { line = z.line; works = record { is = z.is; left = ks; «in» = refl; out = a.1 } })

  -- ---- transfers of control

  pub not_none_opened : (line : ℕ) (x : Term) → Becomes (Do (Eval x) ∷ Do (NotNoneOp line) ∷ w) (Eval (NotNoneOf line x))
  not_none_opened line x a = let y = a.0 in opens x (NotNoneOp line) y.0 y.1 (record { is = y.2; left = ks; «in» = refl; out = a.1 })

  pub transfer_opened : (way : Transfer) (line : ℕ) (x : Term) → Becomes (Do (Eval x) ∷ Do (TransferOp way line) ∷ w) (Eval (TransferOf way line x))
  transfer_opened way line x a = let y = a.0 in opens x (TransferOp way line) y.0 y.1 (record { is = y.2; left = ks; «in» = refl; out = a.1 })

  pub process_opened : (name : Standard) (line : ℕ) (x : Term) → Becomes (Do (Eval x) ∷ Do (ProcessOp name line) ∷ w) (Eval (ProcessOf name line x))
  process_opened name line x a = let y = a.0 in opens x (ProcessOp name line) y.0 y.1 (record { is = y.2; left = ks; «in» = refl; out = a.1 })

  -- ---- parameters by name

  used_leaves : (j : ℕ) (key : Key) (wanted : Use) → leaving s (NamedOf j key wanted) ks ≡ kind_used wanted ∷ ks
  used_leaves j key (ForValue class line) = refl
  used_leaves j key (ForPlace value_too line) = refl
  used_leaves j key (ForParameter number line) = refl

  pub named_opened : (j : ℕ) (key : Key) (wanted : Use) → Becomes (Do (NamedOp j key wanted) ∷ w) (Eval (NamedOf j key wanted))
  named_opened j key wanted a = puts w (NamedOp j key wanted) p q ks ks' (record { is = a.0; out = a.1 ∙ used_leaves j key wanted }) k

  -- ---- sets

  pub set_opened : (name : Standard) (ts : Terms) → Becomes (each ts (Do (SetOp name) ∷ w)) (Eval (SetOf name ts))
  set_opened name ts a =
      let y = a.0 in
      each_pends s code m fs Below inst t b u low (Do (SetOp name) ∷ w) ts p y.0 ks y.1 (puts w (SetOp name) y.0 q (anys (count ts) ks) ks' (record { left = ks; many = count ts; is = y.2; «in» = refl; out = a.1 }) k)

  -- ---- stores

  -- a reference goes where its address leads
  pub reference_stored : (line : ℕ) → Becomes (Do (ReferOp line) ∷ w) (StoreOp (ToReference line))
  reference_stored line a = puts w (ReferOp line) p q ks ks' a k

  -- and so to where a parameter by name lies, when it is held against the class of that
  pub named_stored : (c line : ℕ) → Becomes (Do (FitsOp c line) ∷ Do (ReferOp line) ∷ w) (StoreOp (ToNamed c line))
  named_stored c line a = puts (Do (ReferOp line) ∷ w) (FitsOp c line) p a.x ks ks a.fits (puts w (ReferOp line) a.x q ks ks' a.put k)

  -- a variable is found anew
  pub place_stored : (x : Term) → Becomes (Do (Eval x) ∷ Do SwapOp ∷ Do (StoreOp ToAddress) ∷ w) (StoreOp (ToPlace x))
  place_stored x h =
      let kind = h.0 in
      let a = h.2 in
      subst (λ z. Pends (Do (Eval x) ∷ Do SwapOp ∷ Do (StoreOp ToAddress) ∷ w) p z) (sym a.«in»)
      (puts (Do SwapOp ∷ Do (StoreOp ToAddress) ∷ w) (Eval x) p a.x (Any ∷ ks') (kind ∷ Any ∷ ks') (a.place, a.is_place (Any ∷ ks'))
      (puts (Do (StoreOp ToAddress) ∷ w) SwapOp a.x a.y (kind ∷ Any ∷ ks') (Any ∷ kind ∷ ks') (record { is = a.under; first = kind; left = ks'; «in» = refl; out = refl })
      (puts w (StoreOp ToAddress) a.y q (Any ∷ kind ∷ ks') ks' (a.put, record { place = kind; reads = h.1; «in» = refl }) k)))

  pub reference_place_stored : (x : Term) (line : ℕ) → Becomes (Do (Eval x) ∷ Do SwapOp ∷ Do (ReferOp line) ∷ w) (StoreOp (ToReferenceAt x line))
  reference_place_stored x line h =
      let c = h.0 in
      let a = h.2 in
      subst (λ z. Pends (Do (Eval x) ∷ Do SwapOp ∷ Do (ReferOp line) ∷ w) p z) (sym a.«in»)
      (puts (Do SwapOp ∷ Do (ReferOp line) ∷ w) (Eval x) p a.x (Any ∷ ks') (Refers c ∷ Any ∷ ks') (a.place, a.is_place (Any ∷ ks'))
      (puts (Do (ReferOp line) ∷ w) SwapOp a.x a.y (Refers c ∷ Any ∷ ks') (Any ∷ Refers c ∷ ks') (record { is = a.under; first = Refers c; left = ks'; «in» = refl; out = refl })
      (puts w (ReferOp line) a.y q (Any ∷ Refers c ∷ ks') ks' (record { is = a.put; place = Refers c; refers = of_class h.1; left = ks'; «in» = refl; out = refl }) k)))

  -- ---- statements

  pub none_begun : Becomes w (Execs NoStatement)
  none_begun a = left_over a.0 a.1

  pub also_begun : (x : Statement) (more : Statements) → Becomes (Do (Exec x) ∷ Do (Execs more) ∷ w) (Execs (Also x more))
  also_begun x more a =
      let y = a.0 in
      puts (Do (Execs more) ∷ w) (Exec x) p y.0 ks ks (straight y.1, refl) (puts w (Execs more) y.0 q ks ks' (y.2, a.1) k)

  pub empty_begun : (token : ℕ) → BeginsAt s code m fs inst (site_at t b u) (Exec (syntax.Empty token)) p q ks ks' → Pends w p ks
  empty_begun token a = left_over a.0 a.1

  pub nothing_given : (v : Val) → Becomes w (GiveOp v [])
  nothing_given v a = left_over (a.gives).0 (a.gives).1

-- Each step of a typed program has a rule.
use Rattle.std.proofs.Common.{◌≡◌, ◌≢◌, ℕ, zero, suc, List, [], ◌∷◌, length, None, refl, sym, subst}
use Rattle.sim_base.specs.declared.limits.Limits.{Limits}
use Rattle.sim_base.specs.declared.numbering.DeclNo.{DeclNo}
use Rattle.sim_scope.specs.Source.{Source}
use Rattle.sim_values.specs.declared.kind.Kind.{Kind}
use Rattle.sim_values.specs.declared.kind.Kind.TheVariants as kind
use Rattle.sim_code.specs.Outcome.{Ended, Ending, Going, NoRule, Normal, Run, World, after, next}
use Rattle.sim_meaning.specs.Meaning.{do_chain, do_item, do_op, do_work, opening, run, step, sub_block_entered}
use Rattle.sim_meaning.specs.Sane.{NamesObjects, NamesOn, Sane, StaysSane}
use Rattle.sim_meaning.specs.Pending.{CloseOp, NamedOp, ActivateOp, Activation, AgainOp, ArrayOp, AttributeOp, BackOp, BlockOp, BranchOp, CallOp, ChooseOp, Configuration, ConnectOp, CopyOp, DeclareOp, Do, DropOp, ElementOp, ElementsOp, EndBlock, EndEvaluation, EndLevel, EndObject, EndPrefixed, EndProcedure, EndProcessOp, EndProgram, EnterOp, Eval, Exec, Execs, FetchOp, FitsOp, GiveOp, IfOp, InnerOp, Instances, Item, JoinOp, KeepOp, LevelOp, MemberOp, NewOp, NotNoneOp, ObjectOp, OneOp, Op, PastOp, PrefixedOp, ProcessOp, QuaOp, QualifiedElementOp, RaiseOp, ReferOp, SelfOp, SetOp, SimulationOp, ShareOp, StandardOp, StepOp, StepTestOp, StoreOp, SwapOp, TestOp, TransferOp, TwoOp, Val, WhenOp, WhileElementOp, VirtualOp, CheckOp, CallValueOp, OriginOp, ProcedureOp, ParameterOp}
use Rattle.sim_sound.specs.Held.{Simply}
use Rattle.sim_sound.specs.Typed.{Typed}
use Rattle.sim_sound.proofs.Cells.{site_whole}
use Rattle.sim_sound.proofs.Connections.{connect_goes, when_goes}
use Rattle.sim_sound.proofs.Ends.{leaves, object_ends, procedure_ends}
use Rattle.sim_sound.proofs.Beginning.{first_goes}
use Rattle.sim_sound.proofs.Entering.{block_entered, called_goes}
use Rattle.sim_sound.proofs.Evals.{IsFine, Work, goes_on}
use Rattle.sim_sound.proofs.Keeping.{fine_sane}
use Rattle.sim_sound.proofs.EvaluationEnds.{evaluation_ends}
use Rattle.sim_sound.proofs.Evaluations.{named_op}
use Rattle.sim_sound.proofs.Later.{All, live_less, seated_later}
use Rattle.sim_sound.proofs.Lifts.{Goes, stops}
use Rattle.sim_sound.proofs.Moves.{later_there, operates_first}
use Rattle.sim_sound.proofs.Naming.{fine_names}
use Rattle.sim_sound.proofs.Objects.{declare_goes, inner_goes, level_goes, new_goes, prefixed_goes}
use Rattle.sim_sound.proofs.Operators.{close_op, again_op, array_op, attribute_op, copy_op, drop_op, element_op, eval_op, fetch_op, fits_op, give_op, if_op, join_op, keep_op, member_op, not_none_op, object_op, one_op, past_op, qua_op, qualified_element_op, refer_op, share_op, standard_op, step_op, store_op, swap_op, two_op, origin_op}
use Rattle.sim_sound.proofs.Running.{Begun, ChainFine, Fine, Headed, Operates, Placed, StoreFine, WorkFine, opens, own_seat, runs}
use Rattle.sim_sound.proofs.ProcessWork.{block_op, end_process_op, process_op, self_op}
use Rattle.sim_sound.proofs.SetWork.{set_op}
use Rattle.sim_sound.proofs.SimulationWork.{activate_op, simulation_op}
use Rattle.sim_sound.proofs.Sound.{OpFine}
use Rattle.sim_sound.proofs.Values.{HandsFine, Kinds, Marks, Takes, Value, see}
use Rattle.sim_sound.proofs.Transfers.{transfer_op}
use Rattle.sim_sound.proofs.Virtuals.{call_value_op, check_op, procedure_op, virtual_op}
use Rattle.sim_sound.proofs.Statements.{branch_goes, choose_goes, elements_goes, exec_goes, execs_goes, raise_goes, step_goes, test_goes, while_goes}
use Rattle.sim_sound.proofs.Operating.{store_there, work_there}
use Rattle.sim_sound.proofs.Parameters.{parameter_op}

module _ (s : Source) (ok : Typed s) (l : Limits) (o : World) (g : Marks) (long : length g.sights ≡ length o.arrays) where
  module _ (m : Instances) (i t : ℕ) (rest : List Activation) (top : Operates g.beneath g.seat m i rest) (w : List Item) (vals : List Val) where
    abbrev Wk : List Item → List DeclNo → List Kinds → Type 0
    Wk w todo ks = Work s o g long m i t rest top w todo ks

    abbrev Bg : List DeclNo → Type 0
    Bg todo = Begun s (see g o) m i t todo

    abbrev Hd : List Kinds → Type 0
    Hd ks = HandsFine s (see g o) m i ks vals

    abbrev Stepped : Op → Type 0
    Stepped op = Goes (IsFine s) (do_op s l o m i w vals rest op)

    -- a statement, or part of one: all arrays are made
    ready : (todo todo' : List DeclNo) (before behind : List Kinds) (X : Type 0) → todo ≡ [] → todo' ≡ [] → behind ≡ before → Bg todo → Hd before → Wk w todo' behind → (Bg [] → Hd before → Wk w [] before → X) → X
    ready todo todo' before behind X e f q b h work go =
        go (subst Bg e b) h (subst (λ z. Wk w [] z) q (subst (λ z. Wk w z behind) f work))

    -- where a value waits
    waiting : (k : Kind) (todo todo' : List DeclNo) (before behind : List Kinds) (X : Type 0) → todo ≡ [] → todo' ≡ [] → before ≡ Value (Simply k) ∷ behind → Bg todo → Hd before → Wk w todo' behind → (Bg [] → Hd (Value (Simply k) ∷ behind) → Wk w [] behind → X) → X
    waiting k todo todo' before behind X e f q b h work go = go (subst Bg e b) (subst Hd q h) (subst (λ z. Wk w z behind) f work)

    op_goes : (op : Op) (todo todo' : List DeclNo) (before behind : List Kinds) → OpFine s (see g o) m i t op todo todo' before behind → Bg todo → Hd before → Wk w todo' behind → Stepped op
    op_goes (Eval x) todo todo' before behind a b h work = eval_op s ok l o g long m i t rest top w vals todo todo' before behind b h work x a
    op_goes (OneOp op line) todo todo' before behind a b h work = one_op s ok l o g long m i t rest top w vals todo todo' before behind b h work op line a
    op_goes (TwoOp op line) todo todo' before behind a b h work = two_op s ok l o g long m i t rest top w vals todo todo' before behind b h work op line a
    op_goes (IfOp x y) todo todo' before behind a b h work = if_op s ok l o g long m i t rest top w vals todo todo' before behind b h work x y a
    op_goes (ElementOp n line) todo todo' before behind a b h work = element_op s ok l o g long m i t rest top w vals todo todo' before behind b h work n line a
    op_goes FetchOp todo todo' before behind a b h work = fetch_op s ok l o g long m i t rest top w vals todo todo' before behind b h work a
    op_goes (JoinOp line) todo todo' before behind a b h work = join_op s ok l o g long m i t rest top w vals todo todo' before behind b h work line a
    op_goes (CopyOp line) todo todo' before behind a b h work = copy_op s ok l o g long m i t rest top w vals todo todo' before behind b h work line a
    op_goes (CallOp k n line) todo todo' before behind a b h work = called_goes s ok l o g long m i t rest top w vals k n line todo before behind a.0 b h (subst (λ z. Wk w z behind) a.1 work)
    op_goes (StandardOp name line) todo todo' before behind a b h work = standard_op s ok l o g long m i t rest top w vals todo todo' before behind b h work name line a
    -- objects and references
    op_goes (NewOp k n line) todo todo' before behind a b h work = new_goes s ok l o g long m i t rest top w vals k n line todo before behind a.0 b h (subst (λ z. Wk w z behind) a.1 work)
    op_goes (AttributeOp u key class line) todo todo' before behind a b h work = attribute_op s ok l o g long m i t rest top w vals todo todo' before behind b h work u key class line a
    op_goes (ObjectOp k line) todo todo' before behind a b h work = object_op s ok l o g long m i t rest top w vals todo todo' before behind b h work k line a
    op_goes (QualifiedElementOp n line c) todo todo' before behind a b h work = qualified_element_op s ok l o g long m i t rest top w vals todo todo' before behind b h work n line c a
    op_goes (MemberOp member c) todo todo' before behind a b h work = member_op s ok l o g long m i t rest top w vals todo todo' before behind b h work member c a
    op_goes (QuaOp c line) todo todo' before behind a b h work = qua_op s ok l o g long m i t rest top w vals todo todo' before behind b h work c line a
    op_goes (FitsOp c line) todo todo' before behind a b h work = fits_op s ok l o g long m i t rest top w vals todo todo' before behind b h work c line a
    -- parameters by name
    op_goes (NamedOp e key wanted) todo todo' before behind a b h work = named_op s ok l o g long m i t rest top w vals todo before b h e key wanted todo' behind a work
    op_goes (CloseOp p e) todo todo' before behind a b h work = close_op s ok l o g long m i t rest top w vals todo todo' before behind b h work p e a
    op_goes KeepOp todo todo' before behind a b h work = keep_op s ok l o g long m i t rest top w vals todo todo' before behind b h work a
    op_goes (NotNoneOp line) todo todo' before behind a b h work = not_none_op s ok l o g long m i t rest top w vals todo todo' before behind b h work line a
    op_goes (SetOp name) todo todo' before behind a b h work = set_op s ok l o g long m i t rest top w vals todo todo' before behind b h work name a
    op_goes (TransferOp x line) todo todo' before behind a b h work = transfer_op s ok l o g long m i t rest top w vals todo todo' before behind b h work x line a
    op_goes (ProcessOp name line) todo todo' before behind a b h work = process_op s ok l o g long m i t rest top w vals todo todo' before behind b h work name line a
    op_goes (SimulationOp name line) todo todo' before behind a b h work = simulation_op s ok l o g long m i t rest top w vals todo todo' before behind b h work name line a
    op_goes (VirtualOp v line) todo todo' before behind a b h work = virtual_op s ok l o g long m i t rest top w vals todo todo' before behind b h work v line a
    op_goes (OriginOp k token line) todo todo' before behind a b h work = origin_op s ok l o g long m i t rest top w vals todo todo' before behind b h work k token line a
    op_goes (ProcedureOp k) todo todo' before behind a b h work = procedure_op s ok l o g long m i t rest top w vals todo todo' before behind b h work k a
    op_goes (CheckOp es line) todo todo' before behind a b h work = check_op s ok l o g long m i t rest top w vals todo todo' before behind b h work es line a
    op_goes (ParameterOp n e line) todo todo' before behind a b h work = parameter_op s ok l o g long m i t rest top w vals todo todo' before behind b h work n e line a
    op_goes (CallValueOp n leaves line) todo todo' before behind a b h work = call_value_op s ok l o g long m i t rest top w vals todo todo' before behind b h work n leaves line a
    -- values in hand, and assignments
    op_goes DropOp todo todo' before behind a b h work = drop_op s ok l o g long m i t rest top w vals todo todo' before behind b h work a
    op_goes AgainOp todo todo' before behind a b h work = again_op s ok l o g long m i t rest top w vals todo todo' before behind b h work a
    op_goes SwapOp todo todo' before behind a b h work = swap_op s ok l o g long m i t rest top w vals todo todo' before behind b h work a
    op_goes (StoreOp x) todo todo' before behind a b h work = store_op s ok l o g long m i t rest top w vals todo todo' before behind b h work x a
    op_goes (ShareOp ts) todo todo' before behind a b h work = share_op s ok l o g long m i t rest top w vals todo todo' before behind b h work ts a
    op_goes (GiveOp v ts) todo todo' before behind a b h work = give_op s ok l o g long m i t rest top w vals todo todo' before behind b h work v ts a
    op_goes (ReferOp line) todo todo' before behind a b h work = refer_op s ok l o g long m i t rest top w vals todo todo' before behind b h work line a
    op_goes (ArrayOp k n line) todo todo' before behind a b h work = array_op s ok l o g long m i t rest top w vals todo todo' before behind b h work k n line a
    -- statements
    op_goes (Exec x) todo todo' before behind a b h work =
        let y = a.3 in
        ready todo todo' before behind (Stepped (Exec x)) a.0 a.1 a.2 b h work (λ b h work. exec_goes s ok l o g long m i t rest top w vals before b h work y.0 y.1 x y.2)
    op_goes (Execs ss) todo todo' before behind a b h work =
        let y = a.3 in
        ready todo todo' before behind (Stepped (Execs ss)) a.0 a.1 a.2 b h work (λ b h work. execs_goes s ok l o g long m i t rest top w vals before b h work y.0 y.1 ss y.2)
    op_goes (EnterOp k line) todo todo' before behind a b h work =
        let y = a.3 in
        let x = y.2 in
        ready todo todo' before behind (Stepped (EnterOp k line)) a.0 a.1 a.2 b h work (λ b h work.
        subst (λ z. Goes (IsFine s) (sub_block_entered s l o m i w vals rest k line z)) (sym x.4)
        (block_entered s ok l o g long m i t rest top w vals k line y.0 x.1 x.2 x.3 before x.4 x.0 (site_whole s (see g o) m i t y.0 b y.1) b h work))
    op_goes (DeclareOp ds) todo todo' before behind a b h work = declare_goes s ok l o g long m i t rest top w vals ds todo todo' before behind a.0 a.1 a.2 b h work
    op_goes (LevelOp k) todo todo' before behind a b h work = level_goes s ok l o g long m i t rest top w vals k todo todo' before behind a.0 a.1 b h work
    op_goes (InnerOp xs) todo todo' before behind a b h work =
        ready todo todo' before behind (Stepped (InnerOp xs)) a.0 a.1 a.2 b h work (λ b h work. inner_goes s ok l o g long m i t rest top w vals xs before a.3 b h work)
    op_goes SelfOp todo todo' before behind a b h work = self_op s ok l o g long m i t rest top w vals todo todo' before behind b h work a
    op_goes EndProcessOp todo todo' before behind a b h work = end_process_op s ok l o g long m i t rest top w vals todo todo' before behind b h work a
    op_goes (BlockOp e) todo todo' before behind a b h work = block_op s ok l o g long m i t rest top w vals todo todo' before behind b h work e a
    op_goes (ActivateOp again timing line) todo todo' before behind a b h work = activate_op s ok l o g long m i t rest top w vals todo todo' before behind b h work again timing line a
    op_goes (ConnectOp k x other) todo todo' before behind a b h work =
        let y = a.2 in
        let z = y.2 in
        connect_goes s ok l o g long m i t rest top w behind (subst Bg a.0 b) (subst (λ q. Wk w q behind) a.1 work) k x other y.0 y.1 z.0 z.2 z.3 vals (subst Hd z.1 h)
    op_goes (WhenOp arms other) todo todo' before behind a b h work =
        let y = a.3 in
        let z = y.2 in
        when_goes s ok l o g long m i t rest top w behind (subst Bg a.0 b) (subst (λ q. Wk w q behind) a.1 work) arms other y.0 y.1 z.0 z.1 vals (subst Hd a.2 h)
    op_goes (ChooseOp x y) todo todo' before behind a b h work =
        let z = a.3 in
        let c = z.2 in
        waiting kind.Boolean todo todo' before behind (Stepped (ChooseOp x y)) a.0 a.1 a.2 b h work (λ b h work. choose_goes s ok l o g long m i t rest top w vals behind b h work z.0 z.1 x y c.0 c.1)
    op_goes (TestOp c x) todo todo' before behind a b h work =
        let y = a.3 in
        let z = y.2 in
        ready todo todo' before behind (Stepped (TestOp c x)) a.0 a.1 a.2 b h work (λ b h work. test_goes s ok l o g long m i t rest top w vals before b h work y.0 y.1 c x z.0 z.1)
    op_goes (BranchOp x again) todo todo' before behind a b h work =
        let y = a.3 in
        waiting kind.Boolean todo todo' before behind (Stepped (BranchOp x again)) a.0 a.1 a.2 b h work (λ b h work. branch_goes s ok l o g long m i t rest top w vals behind b h work y.0 y.1 x again y.2 a.4)
    op_goes (BackOp op) todo todo' before behind a b h work = goes_on s o g long m i t rest top (Do op ∷ w) vals todo before b h (todo', behind, a, work)
    op_goes PastOp todo todo' before behind a b h work = past_op s ok l o g long m i t rest top w vals todo todo' before behind b h work a
    -- `for` lists
    op_goes (ElementsOp x es c) todo todo' before behind a b h work =
        let y = a.3 in
        let z = y.2 in
        ready todo todo' before behind (Stepped (ElementsOp x es c)) a.0 a.1 a.2 b h work (λ b h work. elements_goes s ok l o g long m i t rest top w vals before b h work y.0 y.1 x es c z.0 z.1 z.2 z.3)
    op_goes (WhileElementOp x e c d) todo todo' before behind a b h work =
        let y = a.3 in
        let z = y.2 in
        ready todo todo' before behind (Stepped (WhileElementOp x e c d)) a.0 a.1 a.2 b h work (λ b h work. while_goes s ok l o g long m i t rest top w vals before b h work y.0 y.1 x e c d z.0 z.1 z.2 z.3 z.4)
    op_goes (StepTestOp x line f e c) todo todo' before behind a b h work =
        let y = a.3 in
        let z = y.2 in
        waiting kind.Integer todo todo' before behind (Stepped (StepTestOp x line f e c)) a.0 a.1 a.2 b h work (λ b h work.
        step_goes s ok l o g long m i t rest top (Do DropOp ∷ w) vals (Value (Simply kind.Integer) ∷ behind) b h ([], behind, (Value (Simply kind.Integer), refl, refl), work) y.0 y.1 x line f e c behind refl z.0 z.1 z.2 z.3 w work)
    op_goes (StepOp line) todo todo' before behind a b h work = step_op s ok l o g long m i t rest top w vals todo todo' before behind b h work line a
    op_goes (RaiseOp x line f e c) todo todo' before behind a b h work =
        let y = a.3 in
        let z = y.2 in
        ready todo todo' before behind (Stepped (RaiseOp x line f e c)) a.0 a.1 a.2 b h work (λ b h work. raise_goes s ok l o g long m i t rest top w vals before b h work y.0 y.1 x line f e c z.0 z.1 z.2 z.3)
    op_goes (PrefixedOp k n line) todo todo' before behind a b h work = prefixed_goes s ok l o g long m i t rest top w vals k n line before behind a.2 (subst Bg a.0 b) h (subst (λ z. Wk w z behind) a.1 work)

    item_goes : (x : Item) (todo : List DeclNo) (ks : List Kinds) → Bg todo → Hd ks → Wk (x ∷ w) todo ks → Goes (IsFine s) (do_item s l o m i w vals rest x)
    item_goes (Do op) todo ks b h a = op_goes op todo a.0 ks a.1 a.2 b h a.3
    item_goes EndBlock todo ks b h a = leaves s ok l o g long m i t todo b b.own rest top (a.2).1 a.0 None None tt a.1
    item_goes (EndProcedure leaves') todo ks b h a = procedure_ends s ok l o g long m i t todo b b.own leaves' w vals rest top (a.9).1 a.0 a.1 a.2 a.3 a.4 a.5 a.6 a.7 a.8
    item_goes (EndLevel k) todo ks b h a = goes_on s o g long m i t rest top w vals todo ks b h a
    item_goes EndObject todo ks b h a = object_ends s ok l o g long m i t todo b b.own w vals rest top (a.7).1 a.0 a.1 a.2 a.3 a.4 a.5 a.6
    item_goes EndPrefixed todo ks b h a = leaves s ok l o g long m i t todo b b.own rest top (a.2).1 a.0 None None tt a.1
    item_goes (EndEvaluation wanted) todo ks b h a = evaluation_ends s ok l o g long m i t rest top w vals todo ks b h wanted a
    item_goes EndProgram todo ks b h a = stops (IsFine s) Normal o (λ e. cc)

  work_goes : (m : Instances) (i t : ℕ) (rest : List Activation) (top : Operates g.beneath g.seat m i rest) (vals : List Val) (work : List Item) (todo : List DeclNo) (ks : List Kinds) → Begun s (see g o) m i t todo → HandsFine s (see g o) m i ks vals → Work s o g long m i t rest top work todo ks → Goes (IsFine s) (do_work s l o m i vals rest work)
  work_goes m i t rest top vals [] todo ks b h a = absurd a
  work_goes m i t rest top vals (x ∷ w) todo ks b h a = item_goes m i t rest top w vals x todo ks b h a

module _ (s : Source) (ok : Typed s) (l : Limits) (o : World) (g : Marks) (long : length g.sights ≡ length o.arrays) where
  chain_goes : (m : Instances) (chain : List Activation) → StoreFine s (see g o) m → Placed m chain → Headed m chain → ChainFine s (see g o) m chain (Takes None) → Goes (IsFine s) (do_chain s l o m chain)
  chain_goes m [] store placed headed c = absurd c
  chain_goes m (a ∷ rest) store placed headed c =
      let before = live_less m a.instance (c.here).now (c.here).lives in
      let q = c.seat in
      let there : Marks = record g { seat = q } in
      work_goes s ok l o there long m a.instance c.of_text rest (operates_first g.beneath q m a rest before c.stands_on c.seated placed headed) a.values a.work c.todo c.kinds
      (record { store = store_there s (see g o) q m store; here = c.here; own = c.own; works = seated_later s (see g o) m (see there o) m All (later_there s (see g o) q m) q a.instance tt c.works })
      (subst (λ z. HandsFine s (see there o) m a.instance c.kinds z) (sym c.shown) c.hands)
      (work_there s (see g o) q m rest a.instance c.of_text a.work c.todo c.kinds (subst (λ z. WorkFine s (see there o) m (λ v. ChainFine s (see g o) m rest v) (rest ≡ []) a.instance c.of_text a.work c.todo z) (sym c.expects) c.goes))

  -- a step from where there is a rule leads to where there is one, or to an end
  pub fine_step : (c : Configuration) → Fine s (see g o) c → Goes (IsFine s) (step s l o c)
  fine_step c (opens none empty stand unseen unnoted unmade unscheduled) = subst (λ z. Goes (IsFine s) (do_chain s l o c.memory z)) (sym none) (first_goes s ok l o g long c.memory empty stand unseen unnoted unmade unscheduled)
  fine_step c (runs store placed headed f) = chain_goes c.memory c.chain store placed headed f

next_goes : (s : Source) → Typed s → (l : Limits) (r : Run Configuration) → Goes (IsFine s) r → Goes (IsFine s) (next (step s l) r)
next_goes s ok l (Going o c) f = fine_step s ok l o f.0 f.1 c f.2
next_goes s ok l (Ended o e) f = f

after_goes : (s : Source) → Typed s → (l : Limits) (n : ℕ) (r : Run Configuration) → Goes (IsFine s) r → Goes (IsFine s) (after (step s l) n r)
after_goes s ok l zero r f = f
after_goes s ok l (suc n) r f = after_goes s ok l n (next (step s l) r) (next_goes s ok l r f)

-- how a run ends that ends
pub no_end : (s : Source) (r : Run Configuration) (o : World) (e : Ending) → r ≡ Ended o e → Goes (IsFine s) r → e ≢ NoRule
no_end s r o e is f = subst (Goes (IsFine s)) is f

opened : (s : Source) → Typed s → (l : Limits) (input : List ℕ) (n : ℕ) → Goes (IsFine s) (run s l input n)
opened s ok l input n = after_goes s ok l n (opening s l input) (record { sights = []; beneath = []; waiting = λ j. Takes None; seat = own_seat 0 }, refl, opens refl refl refl refl refl refl refl)

-- a typed program never comes to where there is no rule
pub never_no_rule : (s : Source) → Typed s → (l : Limits) (input : List ℕ) (n : ℕ) (o : World) → run s l input n ≡ Ended o NoRule → ⊥
never_no_rule s ok l input n o is = no_end s (run s l input n) o NoRule is (opened s ok l input n) refl

-- ---- each configuration is sane

sane_on : (s : Source) (r : Run Configuration) (o : World) (c : Configuration) → r ≡ Going o c → Goes (IsFine s) r → Sane c
sane_on s r o c is f = let x = subst (Goes (IsFine s)) is f in fine_sane s (see x.0 o) c x.2

pub stays_sane : (s : Source) → Typed s → StaysSane s
stays_sane s ok l input n o c is = sane_on s (run s l input n) o c is (opened s ok l input n)

-- ---- references name objects

named_on : (s : Source) → Typed s → (r : Run Configuration) (o : World) (c : Configuration) → r ≡ Going o c → Goes (IsFine s) r → NamesOn s o c.memory c.chain
named_on s ok r o c is f = let x = subst (Goes (IsFine s)) is f in fine_names s ok o x.0 c x.2

pub names_objects : (s : Source) → Typed s → NamesObjects s
names_objects s ok l input n o c is = named_on s ok (run s l input n) o c is (opened s ok l input n)

-- Trees are taken apart, and operators do what they do, in an instance.
use Rattle.std.proofs.Common.{◌≡◌, ◌<◌, ℕ, zero, suc, true, false, arith, List, [], ◌∷◌, length, Option, Some, None, refl, sym, ap, ◌∙◌, subst}
use Rattle.sim_base.specs.declared.numbering.DeclNo.{DeclNo}
use Rattle.sim_scope.specs.declared.types.Formal.{Formal}
use Rattle.sim_scope.specs.Access.{encloser}
use Rattle.sim_scope.specs.Source.{Source, block_of}
use Rattle.sim_values.specs.declared.kind.Kind.TheVariants as kind
use Rattle.sim_code.specs.Instances.{CellPlace, ImagePlace}
use Rattle.sim_code.specs.Outcome.{World}
use Rattle.std.specs.Prelude.{◌+◌, if◌then◌else◌, ◌==◌}
use Rattle.sim_meaning.specs.Attributes.{attribute_formals}
use Rattle.sim_meaning.specs.Entries.{formals_of}
use Rattle.sim_meaning.specs.Closing.{class_parameters}
use Rattle.sim_meaning.specs.Pending.{Actual, ActualOf, NamedOf, NamedOp, EndBlock, EndEvaluation, EndLevel, EndObject, EndPrefixed, EndProcedure, EndProgram, evaluates, is_evaluation, owner, SetOf, SetOp, ProcessOf, ProcessOp, SimulationOf, SimulationOp, Activation, Address, AttributeOf, AttributeOp, CallOf, CallOp, Cell, cell, Configuration, CopyOf, CopyOp, Do, Either, ElementOf, ElementOp, Eval, FetchOp, FitsOf, FitsOp, Further, Given, IfOp, ImageOf, Instances, Item, Joined, JoinOp, KeepOp, KeptOf, Link, MemberOf, MemberOp, NewOf, NewOp, NoTerm, NotNoneOf, NotNoneOp, ObjectOp, Of, One, OneOp, PlaceOf, PrefixedOp, QualifiedElementOf, QualifiedElementOp, QualifiedPlaceOf, QuaOf, QuaOp, RemoteCallOf, StandardOf, StandardOp, Term, Terms, TransferOf, TransferOp, Two, TwoOp, NoMeaning, Val, ValueAt, VirtualOp, CheckOp, CallValueOp, CheckedOf, MatchOf, OriginOf, OriginOp, ProcedureOf, RemoteProcedureOf, ProcedureOp}
use Rattle.sim_meaning.specs.Steps.{count, each, eval, go, count_of, parameters}
use Rattle.sim_sound.specs.Held.{ByName, ArrayOf, Refers, Simply, Procedure, Place}
use Rattle.sim_sound.specs.Typed.{Typed}
use Rattle.sim_sound.proofs.Cells.{target_lies, cell_found}
use Rattle.sim_sound.proofs.Lifts.{Goes, had, whens}
use Rattle.sim_sound.proofs.Fitting.{plain_val, val_fits}
use Rattle.sim_sound.proofs.Moves.{placed_as}
use Rattle.sim_sound.proofs.Running.{Begun, ChainFine, Fine, Operates, WorkFine, footing, idle, idle_work, runs, seat_on}
use Rattle.sim_sound.proofs.Sound.{PrefixedAt, set_operands, GivesResult, IntegersFine, OperandsFine, Site, TermFine, TermsFine, class_kinds, component_kind, formal_kinds, given, integers, onto, pushed, simple, parameter_of, for_formals}
use Rattle.sim_sound.proofs.Values.{Near, Stands, at_itself, near_below, AllArrays, ObjectIn, AddressOf, Copied, HandsFine, ImageAddress, Kinds, Lasting, LinkTo, Marks, ProcedureIn, ReferenceAddress, Value, Waits, see, Checked, NewObject}
use Rattle.sim_sound.proofs.Heads.{headed_as}
use Rattle.sim_sound.specs.Expressions.{ParametersAre}
use Rattle.sim_sound.proofs.Lists.{equal_numbers}
use Rattle.sim_tree.specs.Syntax.{Expression, Expressions, NoMore, Then}
use Rattle.sim_scope.specs.declared.types.SimType.{SimType}

-- the last item of pending work is that of its seat
pub idle_evaluates : (n : ℕ) → 0 < n → evaluates (idle_work n) ≡ true
idle_evaluates zero some = absurd (omega (arith, some))
idle_evaluates (suc n) some = refl

last_seat : (x : Item) (w : List Item) (n : ℕ) → is_evaluation x ≡ false → w ≡ [] → n ≡ 0 → evaluates (x ∷ w) ≡ evaluates (idle_work n)
last_seat x w n plain last own = ap (λ z. evaluates (x ∷ z)) last ∙ plain ∙ sym (ap (λ z. evaluates (idle_work z)) own)

pub work_seat : (s : Source) (o : AllArrays) (m : Instances) (Below : Waits → Type 0) (Outermost : Type 0) (j t : ℕ) (w : List Item) (todo : List DeclNo) (before : List Kinds) → WorkFine s o m Below Outermost j t w todo before → evaluates w ≡ evaluates (idle_work (o.seat).evaluations)
work_seat s o m Below Outermost j t [] todo before a = absurd a
work_seat s o m Below Outermost j t (Do op ∷ []) todo before a = absurd a.3
work_seat s o m Below Outermost j t (Do op ∷ x ∷ w) todo before a = work_seat s o m Below Outermost j t (x ∷ w) a.0 a.1 a.3
work_seat s o m Below Outermost j t (EndBlock ∷ w) todo before a = last_seat EndBlock w (o.seat).evaluations refl (a.2).0 (a.2).1
work_seat s o m Below Outermost j t (EndProcedure leaves ∷ w) todo before a = last_seat (EndProcedure leaves) w (o.seat).evaluations refl (a.9).0 (a.9).1
work_seat s o m Below Outermost j t (EndLevel k ∷ []) todo before a = absurd a
work_seat s o m Below Outermost j t (EndLevel k ∷ x ∷ w) todo before a = work_seat s o m Below Outermost j t (x ∷ w) todo before a
work_seat s o m Below Outermost j t (EndObject ∷ w) todo before a = last_seat EndObject w (o.seat).evaluations refl (a.7).0 (a.7).1
work_seat s o m Below Outermost j t (EndPrefixed ∷ w) todo before a = last_seat EndPrefixed w (o.seat).evaluations refl (a.2).0 (a.2).1
work_seat s o m Below Outermost j t (EndProgram ∷ w) todo before a = last_seat EndProgram w (o.seat).evaluations refl (a.2).0 (a.2).1
work_seat s o m Below Outermost j t (EndEvaluation wanted ∷ w) todo before a = ap (λ z. evaluates (EndEvaluation wanted ∷ z)) a.0 ∙ sym (idle_evaluates (o.seat).evaluations a.1)

-- the configurations that are fine
abbrev pub IsFine : Source → World → Configuration → Type 0
IsFine s o c = (g : Marks) × (length g.sights ≡ length o.arrays) × Fine s (see g o) c

module _ (s : Source) (o : World) (g : Marks) (long : length g.sights ≡ length o.arrays) (m : Instances) (i t : ℕ) (rest : List Activation) (top : Operates g.beneath g.seat m i rest) where
  abbrev pub Rest : Waits → Type 0
  Rest v = ChainFine s (see g o) m rest v

  abbrev pub Work : List Item → List DeclNo → List Kinds → Type 0
  Work w todo ks = WorkFine s (see g o) m Rest (rest ≡ []) i t w todo ks

  abbrev pub Hands : List Kinds → List Val → Type 0
  Hands ks vals = HandsFine s (see g o) m i ks vals

  -- its work tells whether it is an evaluation
  pub work_owner : (w : List Item) (vals : List Val) (todo : List DeclNo) (ks : List Kinds) → Work w todo ks → owner (record { instance = i; work = w; values = vals }) ≡ owner (idle g.seat i)
  work_owner w vals todo ks work = ap (λ z. if z then None else Some i) (work_seat s (see g o) m Rest (rest ≡ []) i t w todo ks work)

  -- the instance goes on
  pub goes_on : (w : List Item) (vals : List Val) (todo : List DeclNo) (ks : List Kinds) → Begun s (see g o) m i t todo → Hands ks vals → Work w todo ks → IsFine s o (record { chain = record { instance = i; work = w; values = vals } ∷ rest; memory = m })
  goes_on w vals todo ks b h work =
      let act : Activation = record { instance = i; work = w; values = vals } in
      let same = work_owner w vals todo ks work in (
        g,
        long,
        runs b.store (placed_as m (idle g.seat i) act rest same top.placed) (headed_as m (idle g.seat i) act rest same top.headed) (record {
          of_text = t;
          todo = todo;
          here = b.here;
          own = b.own;
          stands_on = λ j is. top.stands_on j (sym same ∙ is);
          seat = g.seat;
          seated = ap (λ u. seat_on u (footing None rest)) same ∙ top.seated;
          works = b.works;
          vals = vals;
          shown = refl;
          kinds = ks;
          hands = h;
          expected = ks;
          expects = refl;
          goes = work;
        }),
      )

  -- operands one after the other
  integers_more : (n : ℕ) (ks : List Kinds) → integers n (Value (Simply kind.Integer) ∷ ks) ≡ Value (Simply kind.Integer) ∷ integers n ks
  integers_more zero ks = refl
  integers_more (suc n) ks = ap (λ z. Value (Simply kind.Integer) ∷ z) (integers_more n ks)

  each_integers : (ts : Terms) (w : List Item) (todo : List DeclNo) (ks : List Kinds) → IntegersFine s m i t todo ts → Work w todo (integers (count ts) ks) → Work (each ts w) todo ks
  each_integers NoTerm w todo ks a h = h
  each_integers (Further x xs) w todo ks a h =
      (todo, Value (Simply kind.Integer) ∷ ks, (simple kind.Integer, a.0, refl, refl), each_integers xs w todo (Value (Simply kind.Integer) ∷ ks) a.1 (subst (λ z. Work w todo z) (sym (integers_more (count xs) ks)) h))

  each_fine : (ts : Terms) (hs : List (Option Kinds)) (w : List Item) (todo : List DeclNo) (ks : List Kinds) → TermsFine s m i t todo ts hs → Work w todo (onto hs ks) → Work (each ts w) todo ks
  each_fine NoTerm hs w todo ks a h = subst (λ z. Work w todo (onto z ks)) a h
  each_fine (Further x xs) hs w todo ks a h =
      (todo, a.0 ∷ ks, (Some a.0, a.3, refl, refl), each_fine xs a.1 w todo (a.0 ∷ ks) a.4 (subst (λ z. Work w todo (onto z ks)) a.2 h))

  each_operand : (ts : Terms) (xs : List Kinds) (w : List Item) (todo : List DeclNo) (ks : List Kinds) → OperandsFine s m i t todo ts xs → Work w todo (pushed xs ks) → Work (each ts w) todo ks
  each_operand NoTerm xs w todo ks a h = subst (λ z. Work w todo (pushed z ks)) a h
  each_operand (Further y ys) xs w todo ks a h =
      (todo, a.0 ∷ ks, (Some a.0, a.3, refl, refl), each_operand ys a.1 w todo (a.0 ∷ ks) a.4 (subst (λ z. Work w todo (pushed z ks)) a.2 h))

  many : (ts : Terms) (hs : List (Option Kinds)) (todo : List DeclNo) → TermsFine s m i t todo ts hs → count ts ≡ length hs
  many NoTerm hs todo a = ap length (sym a)
  many (Further x xs) hs todo a = ap suc (many xs a.1 todo a.4) ∙ ap length (sym a.2)

  formals_many : (fs : List Formal) → length (formal_kinds s fs) ≡ length fs
  formals_many [] = refl
  formals_many (f ∷ fs) = ap suc (formals_many fs)

  class_many : (fs : List Formal) → length (class_kinds s fs) ≡ length fs
  class_many [] = refl
  class_many (f ∷ fs) = ap suc (class_many fs)

  -- the actuals of a call, behind the instance in which the procedure is declared
  call_work : (k : ℕ) (ts : Terms) (line around : ℕ) (r : Option Kinds) (w : List Item) (todo : List DeclNo) (ks : List Kinds) → ProcedureIn s k around → GivesResult s k r → TermsFine s m i t todo ts (formal_kinds s (formals_of s k)) → Work w todo (given r ks) → Work (each ts (Do (CallOp k (count ts) line) ∷ w)) todo (LinkTo around ∷ ks)
  call_work k ts line around r w todo ks procedure gives actuals work =
      each_fine ts (formal_kinds s (formals_of s k)) (Do (CallOp k (count ts) line) ∷ w) todo (LinkTo around ∷ ks) actuals (
        todo,
        given r ks,
        (
          record {
            around = around;
            procedure = procedure;
            left = ks;
            «in» = refl;
            count = many ts (formal_kinds s (formals_of s k)) todo actuals ∙ formals_many (formals_of s k);
            gives = r;
            result = gives;
            out = refl;
          },
          refl,
        ),
        work,
      )

  -- the actual parameters of the prefix of a block
  pub prefix_work : (k : ℕ) (ts : Terms) (line around : ℕ) (w : List Item) (ks : List Kinds) → Site s m i around → encloser s.tables k ≡ Some around → PrefixedAt s k → TermsFine s m i t [] ts (class_kinds s (class_parameters s (Some k))) → Work w [] ks → Work (each ts (Do (PrefixedOp k (count ts) line) ∷ w)) [] ks
  prefix_work k ts line around w ks site stands block actuals work =
      each_fine ts (class_kinds s (class_parameters s (Some k))) (Do (PrefixedOp k (count ts) line) ∷ w) [] ks actuals (
        [],
        ks,
        (
          refl,
          refl,
          record {
            around = around;
            site = site;
            stands_in = stands;
            block = block;
            «in» = refl;
            count = many ts (class_kinds s (class_parameters s (Some k))) [] actuals ∙ class_many (class_parameters s (Some k));
          },
        ),
        work,
      )

  -- the actual parameters of a procedure that conforms to them, from the one of a number
  parameters_work : (es : Expressions) (q : Option SimType) (ks : List Kinds) (line : ℕ) (todo : List DeclNo) (w : List Item) (from : Place) → Stands s m i from → (n : ℕ) (more : Expressions) → ((k : ℕ) (e : Expression) → parameter_of k more ≡ Some e → parameter_of (n + k) es ≡ Some e) → ParametersAre s from more → Work w todo (for_formals (n + count_of more) (Checked es q ∷ ks)) → Work (parameters n line more w) todo (for_formals n (Checked es q ∷ ks))
  parameters_work es q ks line todo w from at n NoMore all typed work = let same : n + 0 ≡ n = omega arith in subst (λ z. Work w todo (for_formals z (Checked es q ∷ ks))) same work
  parameters_work es q ks line todo w from at n (Then e more) all typed work =
      let same : n + suc (count_of more) ≡ suc n + count_of more = omega arith in
      let here : n + 0 ≡ n = omega arith in (
        todo,
        for_formals (suc n) (Checked es q ∷ ks),
        (record { actuals = es; result = q; left = ks; is = ap (λ z. parameter_of z es) (sym here) ∙ all 0 e refl; from = from; stands = at; typed = (typed.0, typed.1); «in» = refl; out = refl }, refl),
        parameters_work es q ks line todo w from at (suc n) more (λ k x is. let further : suc n + k ≡ n + suc k = omega arith in ap (λ z. parameter_of z es) further ∙ all (suc k) x is) typed.2 (subst (λ z. Work w todo (for_formals z (Checked es q ∷ ks))) same work),
      )

  pub eval_goes : Typed s → (x : Term) (r : Option Kinds) (w : List Item) (vals : List Val) (todo : List DeclNo) (ks : List Kinds) → Begun s (see g o) m i t todo → Hands ks vals → TermFine s m i t todo x r → Work w todo (given r ks) → Goes (IsFine s) (eval o m i w vals rest x)
  eval_goes ok (Given p) r w vals todo ks b h a work =
      goes_on w (Of p ∷ vals) todo (Value a.0 ∷ ks) b (plain_val s (see g o) m i a.0 p a.2, h) (subst (λ z. Work w todo (given z ks)) (sym a.1) work)
  eval_goes ok (Cell e key) r w vals todo ks b h a work =
      let v = cell_found s ok (see g o) m i t todo e key a.0 b a.2 in
      let c = a.1 in
      had (IsFine s) (cell m e key) v.0 o (λ v. go o m i w (v ∷ vals) rest) v.1 (goes_on w (v.0 ∷ vals) todo (Value c.0 ∷ ks) b (val_fits s ok (see g o) m b.store i a.0 c.0 v.0 c.1 v.2, h) (subst (λ z. Work w todo (given z ks)) (sym c.2) work))
  eval_goes ok (One op line x) r w vals todo ks b h a work =
      let k = a.0 in
      goes_on (Do (Eval x) ∷ Do (OneOp op line) ∷ w) vals todo ks b h
      (todo, Value (Simply k) ∷ ks, (simple k, a.3, refl, refl), (todo, Value (Simply k) ∷ ks, (k, ks, a.1, refl, refl, refl), subst (λ z. Work w todo (given z ks)) (sym a.2) work))
  eval_goes ok (Two op line x y) r w vals todo ks b h a work =
      let k = a.0 in
      let v = a.1 in
      goes_on (Do (Eval x) ∷ Do (Eval y) ∷ Do (TwoOp op line) ∷ w) vals todo ks b h (
        todo,
        Value (Simply k) ∷ ks,
        (simple k, a.4, refl, refl),
        (
          todo,
          Value (Simply k) ∷ Value (Simply k) ∷ ks,
          (simple k, a.5, refl, refl),
          (todo, Value (Simply v) ∷ ks, (k, v, ks, a.2, refl, refl, refl), subst (λ z. Work w todo (given z ks)) (sym a.3) work),
        ),
      )
  eval_goes ok (Either c x y) r w vals todo ks b h a work =
      goes_on (Do (Eval c) ∷ Do (IfOp x y) ∷ w) vals todo ks b h (
        todo,
        Value (Simply kind.Boolean) ∷ ks,
        (simple kind.Boolean, a.2, refl, refl),
        (todo, a.0 ∷ ks, (a.0, ks, subst (TermFine s m i t todo x) (sym a.1) a.3, subst (TermFine s m i t todo y) (sym a.1) a.4, refl, refl, refl), subst (λ z. Work w todo (given z ks)) (sym a.1) work),
      )
  eval_goes ok (ElementOf line x ts) r w vals todo ks b h a work =
      let k = a.0 in
      goes_on (Do (Eval x) ∷ each ts (Do (ElementOp (count ts) line) ∷ w)) vals todo ks b h (
        todo,
        Value (ArrayOf k) ∷ ks,
        (Some (Value (ArrayOf k)), a.2, refl, refl),
        each_integers ts (Do (ElementOp (count ts) line) ∷ w) todo (Value (ArrayOf k) ∷ ks) a.3
            (todo, AddressOf k ∷ ks, (k, ks, refl, refl, refl), subst (λ z. Work w todo (given z ks)) (sym a.1) work),
      )
  eval_goes ok (ValueAt x) r w vals todo ks b h a work =
      let k = a.0 in
      goes_on (Do (Eval x) ∷ Do FetchOp ∷ w) vals todo ks b h (
        todo,
        a.1 ∷ ks,
        (Some a.1, a.4, refl, refl),
        (todo, Value k ∷ ks, (k, a.1, ks, a.2, refl, refl, refl), subst (λ z. Work w todo (given z ks)) (sym a.3) work),
      )
  eval_goes ok (PlaceOf e key) r w vals todo ks b h a work =
      goes_on w (Address (CellPlace e key None) ∷ vals) todo (AddressOf a.0 ∷ ks) b (target_lies s (see g o) m i e key a.0 b.store a.2, h) (subst (λ z. Work w todo (given z ks)) (sym a.1) work)
  eval_goes ok (ImageOf n) r w vals todo ks b h a work =
      goes_on w (Address (ImagePlace n) ∷ vals) todo (ImageAddress ∷ ks) b (a.1, h) (subst (λ z. Work w todo (given z ks)) (sym a.0) work)
  eval_goes ok (Joined line x y) r w vals todo ks b h a work =
      goes_on (Do (Eval x) ∷ Do (Eval y) ∷ Do (JoinOp line) ∷ w) vals todo ks b h (
        todo,
        Value (Simply kind.Text) ∷ ks,
        (simple kind.Text, a.1, refl, refl),
        (
          todo,
          Value (Simply kind.Text) ∷ Value (Simply kind.Text) ∷ ks,
          (simple kind.Text, a.2, refl, refl),
          (todo, Value (Simply kind.Text) ∷ ks, (ks, refl, refl, refl), subst (λ z. Work w todo (given z ks)) (sym a.0) work),
        ),
      )
  eval_goes ok (CopyOf line x) r w vals todo ks b h a work =
      let k = a.0 in
      goes_on (Do (Eval x) ∷ Do (CopyOp line) ∷ w) vals todo ks b h (
        todo,
        Value (ArrayOf k) ∷ ks,
        (Some (Value (ArrayOf k)), a.2, refl, refl),
        (todo, Copied k ∷ ks, (k, ks, Copied k, refl, refl, refl, refl), subst (λ z. Work w todo (given z ks)) (sym a.1) work),
      )
  eval_goes ok (CallOf e k ts line) r w vals todo ks b h a work =
      goes_on (each ts (Do (CallOp k (count ts) line) ∷ w)) (Link e ∷ vals) todo (LinkTo a.around ∷ ks) b ((a.near, a.whole), h)
      (call_work k ts line a.around r w todo ks a.procedure a.gives a.actuals work)
  eval_goes ok (StandardOf name ts line) r w vals todo ks b h a work =
      goes_on (each ts (Do (StandardOp name line) ∷ w)) vals todo ks b h
      (each_operand ts a.2 (Do (StandardOp name line) ∷ w) todo ks a.4
      (todo, given r ks, (ks, a.2, a.0, a.3, refl, ap (λ z. given z ks) (sym a.1), refl), work))
  -- what objects have
  eval_goes ok (NewOf e k ts line) r w vals todo ks b h a work =
      goes_on (each ts (Do (NewOp k (count ts) line) ∷ w)) (Link e ∷ vals) todo (LinkTo a.around ∷ ks) b ((a.near, a.whole), h)
      (each_fine ts (class_kinds s (class_parameters s (Some k))) (Do (NewOp k (count ts) line) ∷ w) todo (LinkTo a.around ∷ ks) a.actuals (
        todo,
        a.kinds ∷ ks,
        (
          record {
            around = a.around;
            class = a.class;
            left = ks;
            «in» = refl;
            count = many ts (class_kinds s (class_parameters s (Some k))) todo a.actuals ∙ class_many (class_parameters s (Some k));
            kinds = a.kinds;
            made = a.made;
            out = refl;
          },
          refl,
        ),
        subst (λ z. Work w todo (given z ks)) (sym a.gives) work,
      ))
  eval_goes ok (AttributeOf u key class line x) r w vals todo ks b h a work =
      goes_on (Do (Eval x) ∷ Do (AttributeOp u key class line) ∷ w) vals todo ks b h (
        todo,
        Value (Refers a.0) ∷ ks,
        (Some (Value (Refers a.0)), a.6, refl, refl),
        (todo, a.2 ∷ ks, (a.0, a.1, a.2, ks, a.3, a.4, refl, refl, refl), subst (λ z. Work w todo (given z ks)) (sym a.5) work),
      )
  eval_goes ok (RemoteCallOf x k ts line) r w vals todo ks b h a work =
      goes_on (Do (Eval x) ∷ Do (ObjectOp k line) ∷ each ts (Do (CallOp k (count ts) line) ∷ w)) vals todo ks b h (
        todo,
        Value (Refers a.0) ∷ ks,
        (Some (Value (Refers a.0)), a.6, refl, refl),
        (
          todo,
          LinkTo a.1 ∷ ks,
          (a.0, a.1, ks, a.2, a.3, (a.4).stands_in, refl, refl, refl),
          call_work k ts line a.1 r w todo ks a.4 a.5 a.7 work,
        ),
      )
  eval_goes ok (QualifiedPlaceOf e key c) r w vals todo ks b h a work =
      goes_on w (Address (CellPlace e key (Some c)) ∷ vals) todo (ReferenceAddress c ∷ ks) b ((refl, target_lies s (see g o) m i e key (Refers c) b.store a.1), h) (subst (λ z. Work w todo (given z ks)) (sym a.0) work)
  eval_goes ok (QualifiedElementOf line c x ts) r w vals todo ks b h a work =
      goes_on (Do (Eval x) ∷ each ts (Do (QualifiedElementOp (count ts) line c) ∷ w)) vals todo ks b h (
        todo,
        Value (ArrayOf (Refers c)) ∷ ks,
        (Some (Value (ArrayOf (Refers c))), a.1, refl, refl),
        each_integers ts (Do (QualifiedElementOp (count ts) line c) ∷ w) todo (Value (ArrayOf (Refers c)) ∷ ks) a.2
            (todo, ReferenceAddress c ∷ ks, (ks, refl, refl, refl), subst (λ z. Work w todo (given z ks)) (sym a.0) work),
      )
  eval_goes ok (MemberOf member c x) r w vals todo ks b h a work =
      goes_on (Do (Eval x) ∷ Do (MemberOp member c) ∷ w) vals todo ks b h (
        todo,
        Value (Simply kind.Reference) ∷ ks,
        (simple kind.Reference, a.1, refl, refl),
        (todo, Value (Simply kind.Boolean) ∷ ks, (ks, refl, refl, refl), subst (λ z. Work w todo (given z ks)) (sym a.0) work),
      )
  eval_goes ok (QuaOf c line x) r w vals todo ks b h a work =
      let y = a.0 in
      goes_on (Do (Eval x) ∷ Do (QuaOp c line) ∷ w) vals todo ks b h (
        todo,
        Value (Simply kind.Reference) ∷ ks,
        (simple kind.Reference, a.1, refl, refl),
        (todo, Value y.0 ∷ ks, (y.0, ks, y.1, refl, refl, refl), subst (λ z. Work w todo (given z ks)) (sym y.2) work),
      )
  eval_goes ok (FitsOf c line x) r w vals todo ks b h a work =
      let y = a.0 in
      goes_on (Do (Eval x) ∷ Do (FitsOp c line) ∷ w) vals todo ks b h (
        todo,
        Value (Simply kind.Reference) ∷ ks,
        (simple kind.Reference, a.1, refl, refl),
        (todo, Value y.0 ∷ ks, (y.0, ks, y.1, refl, refl, refl), subst (λ z. Work w todo (given z ks)) (sym y.2) work),
      )
  eval_goes ok (KeptOf x) r w vals todo ks b h a work =
      goes_on (Do (Eval x) ∷ Do KeepOp ∷ w) vals todo ks b h (
        todo,
        Value (ArrayOf a.0) ∷ ks,
        (Some (Value (ArrayOf a.0)), a.2, refl, refl),
        (todo, Lasting a.0 ∷ ks, (a.0, ks, refl, refl, refl), subst (λ z. Work w todo (given z ks)) (sym a.1) work),
      )
  eval_goes ok (NotNoneOf line x) r w vals todo ks b h a work =
      goes_on (Do (Eval x) ∷ Do (NotNoneOp line) ∷ w) vals todo ks b h (
        todo,
        Value a.0 ∷ ks,
        (Some (Value a.0), a.4, refl, refl),
        (todo, a.1 ∷ ks, (a.0, a.1, ks, a.2, refl, refl, refl), subst (λ z. Work w todo (given z ks)) (sym a.3) work),
      )
  eval_goes ok (TransferOf x line a) r w vals todo ks b h f work =
      goes_on (Do (Eval a) ∷ Do (TransferOp x line) ∷ w) vals todo ks b h
      (todo, component_kind x ∷ ks, (Some (component_kind x), f.1, refl, refl), (todo, ks, (refl, refl), subst (λ z. Work w todo (given z ks)) (sym f.0) work))
  eval_goes ok (SetOf name ts) r w vals todo ks b h a work =
      goes_on (each ts (Do (SetOp name) ∷ w)) vals todo ks b h
      (each_fine ts (set_operands s name a.0) (Do (SetOp name) ∷ w) todo ks a.4
      (todo, given r ks, (a.0, a.1, ks, a.2, refl, ap (λ z. given z ks) (sym a.3), refl), work))
  eval_goes ok (ProcessOf name line x) r w vals todo ks b h a work =
      let y = a.0 in
      goes_on (Do (Eval x) ∷ Do (ProcessOp name line) ∷ w) vals todo ks b h (
        todo,
        ObjectIn ((y.there).linkage + 3) ∷ ks,
        (Some (ObjectIn ((y.there).linkage + 3)), a.4, refl, refl),
        (todo, given r ks, (y, a.1, ks, a.2, refl, ap (λ z. given z ks) (sym a.3), refl), work),
      )
  eval_goes ok (SimulationOf e name ts line) r w vals todo ks b h a work =
      let y = a.0 in
      let c = a.4 in
      goes_on (each ts (Do (SimulationOp name line) ∷ w)) (Link e ∷ vals) todo (LinkTo (block_of s y.declaration) ∷ ks) b ((c.near, c.whole), h)
      (each_fine ts (formal_kinds s (attribute_formals y.parameter)) (Do (SimulationOp name line) ∷ w) todo (LinkTo (block_of s y.declaration) ∷ ks) a.5
      (todo, given r ks, (y, a.1, ks, a.2, c.simulates, refl, ap (λ z. given z ks) (sym a.3), refl), work))
  eval_goes ok (OriginOf k token line x) r w vals todo ks b h a work =
      goes_on (Do (Eval x) ∷ Do (OriginOp k token line) ∷ w) vals todo ks b h (
        todo,
        NewObject k ∷ ks,
        (Some (NewObject k), a.3, refl, refl),
        (todo, given r ks, (a.0, ks, a.1, refl, ap (λ z. given z ks) (sym a.2), refl), work),
      )
  -- procedures as values, and their calls
  eval_goes ok (ProcedureOf e k) r w vals todo ks b h a work =
      let q = a.4 in
      goes_on (Do (ProcedureOp k) ∷ w) (Link e ∷ vals) todo (LinkTo a.0 ∷ ks) b ((a.1, a.2), h)
      (todo, given r ks, (a.0, Value (Procedure q.0), ks, a.3, (q.0, q.1, refl), refl, ap (λ z. given z ks) (sym q.2), refl), work)
  eval_goes ok (RemoteProcedureOf x k line) r w vals todo ks b h a work =
      let q = a.5 in
      goes_on (Do (Eval x) ∷ Do (ObjectOp k line) ∷ Do (ProcedureOp k) ∷ w) vals todo ks b h (
        todo,
        Value (Refers a.0) ∷ ks,
        (Some (Value (Refers a.0)), a.6, refl, refl),
        (
          todo,
          LinkTo a.1 ∷ ks,
          (a.0, a.1, ks, a.2, a.3, (a.4).stands_in, refl, refl, refl),
          (todo, given r ks, (a.1, Value (Procedure q.0), ks, a.4, (q.0, q.1, refl), refl, ap (λ z. given z ks) (sym q.2), refl), work),
        ),
      )
  eval_goes ok (MatchOf x v line) r w vals todo ks b h a work =
      goes_on (Do (Eval x) ∷ Do (VirtualOp v line) ∷ w) vals todo ks b h (
        todo,
        Value (Refers a.0) ∷ ks,
        (Some (Value (Refers a.0)), a.4, refl, refl),
        (todo, given r ks, (a.0, a.1, ks, a.2, refl, ap (λ z. given z ks) (sym a.3), refl), work),
      )
  eval_goes ok (CheckedOf x leaves home es line) r w vals todo ks b h a work =
      whens (IsFine s) (home == i) o (go o m i (Do (Eval x) ∷ Do (CheckOp es line) ∷ parameters 0 line es (Do (CallValueOp (count_of es) leaves line) ∷ w)) vals rest) (equal_numbers home i a.5)
      (goes_on (Do (Eval x) ∷ Do (CheckOp es line) ∷ parameters 0 line es (Do (CallValueOp (count_of es) leaves line) ∷ w)) vals todo ks b h (
        todo,
        Value (Procedure a.0) ∷ ks,
        (Some (Value (Procedure a.0)), a.6, refl, refl),
        (
          todo,
          Checked es a.0 ∷ ks,
          (a.0, ks, a.7, a.8, a.9, refl, refl, refl),
          parameters_work es a.0 ks line todo (Do (CallValueOp (count_of es) leaves line) ∷ w) a.7 a.8 0 es (λ k e is. let same : 0 + k ≡ k = omega arith in ap (λ z. parameter_of z es) same ∙ is) a.9
              (todo, given r ks, (es, a.0, a.1, ks, a.2, a.4, refl, (let same : 0 + count_of es ≡ count_of es = omega arith in ap (λ z. for_formals z (Checked es a.0 ∷ ks)) same), ap (λ z. given z ks) (sym a.3), refl), work),
        ),
      ))
  -- parameters by name
  eval_goes ok (ActualOf home p e) r w vals todo ks b h a work =
      goes_on w (Actual home p e ∷ vals) todo (Value (ByName a.0) ∷ ks) b (record { near = subst (λ z. Near (see g o) m i z) (sym a.2) (near_below at_itself); from = a.1; stands = subst (λ z. Stands s m z a.1) (sym a.2) a.4; typed = a.5 }, h)
      (subst (λ z. Work w todo (given z ks)) (sym a.3) work)
  eval_goes ok (NamedOf e key wanted) r w vals todo ks b h a work =
      goes_on (Do (NamedOp e key wanted) ∷ w) vals todo ks b h (todo, a.1 ∷ ks, (a.0, a.1, a.2, a.4, refl, refl), subst (λ z. Work w todo (given z ks)) (sym a.3) work)
  eval_goes ok NoMeaning r w vals todo ks b h a work = absurd a

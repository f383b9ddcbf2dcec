-- What is related stays so in later stores.
use Rattle.std.proofs.Common.{◌≡◌, ◌+◌, ◌<◌, ◌≤◌, ℕ, suc, Bool, List, [], ◌∷◌, length, Option, Some, None, refl, sym, ap, subst, ◌∙◌, arith}
use Rattle.std.specs.Prelude.{if◌then◌else◌, slice_get}
use Rattle.sim_chains.specs.Components.{AttachedObject, DetachedObject, NoObject, ResumedObject, Standing, TerminatedObject}
use Rattle.sim_scope.specs.Source.{Source, level_of}
use Rattle.sim_values.specs.Plain.{Character, Integer, Nothing, Object, Plain, Text, Truth, MainOf}
use Rattle.sim_code.proofs.Lifts.{Both}
use Rattle.sim_code.specs.declared.stage.Stage.{Stage}
use Rattle.sim_code.specs.Code.{BlockOf, CodeOf}
use Rattle.sim_code.specs.Machine.{Frames, Value}
use Rattle.sim_code.specs.Machine as machine
use Rattle.sim_meaning.specs.Pending.{Activation, ActualOf, AttributeOf, BackOp, BranchOp, CallOf, Cell, CopyOf, Do, Either, ElementOf, ElementsOp, EndBlock, EndEvaluation, EndLevel, EndObject, EndPrefixed, EndProcedure, EndProgram, Eval, FitsOf, Further, Given, GiveOp, IfOp, ImageOf, Instances, Item, Joined, KeptOf, Key, MemberOf, NamedOf, NamedOp, NewOf, NoTerm, NotNoneOf, One, Op, PlaceOf, QuaOf, QualifiedElementOf, QualifiedPlaceOf, RaiseOp, RemoteCallOf, SetOf, ShareOp, StandardOf, StepTestOp, StoreOp, Target, Term, Terms, ToAddress, ToCell, ToNamed, ToPlace, ToReference, ToReferenceAt, ToText, ToTextAt, ToTextOf, TransferOf, Two, NoMeaning, Val, ValueAt, WhileElementOp, BlockOp, ProcessOf, SimulationOf, SimulationOp, ActivateOp, Use, evaluates, is_evaluation, owner, OriginOf, ProcedureOf, RemoteProcedureOf, MatchOf, CheckedOf}
use Rattle.sim_meaning.specs.Sane.{OwnerOf, OwnersKept, OwnersKeptOf, OwnersOf}
use Rattle.codegen_expr.specs.Sites.{Site, class_number, expression_temps, frame_text, own_end}
use Rattle.codegen.specs.CodeFor.{OfCell, OfPlace, OfReference, Variable}
use Rattle.sim_relate.proofs.Known.{Any, Every, FixedOf, HandAt, Keeps, Kind, Later, LinkTo, Located, Low, Named, NamedAt, OwnerOf as OwnerKind, PlaceIs, Reaches, Refers, RefersAt, Runs, Spot, StackAt, Stands, is_frame_in_use, is_some, low_same, more_at, named_place, named_reference, named_value, none_at, owner_of, placed, refers_cell, refers_element, site_at, LinkOf}
use Rattle.sim_relate.proofs.Trees.{CellPlaceIs, GivenIs, OperandAt, ReadsAt, TermAt, TermsAt, UseIs}
use Rattle.sim_relate.proofs.Values.{value_later}
use Rattle.sim_relate.proofs.Waiting.{GetsIs, NoValue, OfName, Wait, demand, suspended, suspended_by, suspended_in, value_if}
use Rattle.sim_relate.proofs.Operations.{GivesIs, PlaceStoreIs, StoreIs, TargetAt}
use Rattle.sim_relate.proofs.Relation.{AtLevel, Bottom, ChainAt, ChainOn, Changed, ComesTo, DeclaredTo, EndAt, InStage, LevelEnds, ObjectIs, OpAt, StandingAt, StandingsAt, VariableIs, WorkAt, at_level, declares, inner_here, inner_last, over, returning, stays, there, to_first, to_next, with_inner, ends_process}

end_later : (s : Source) (code : CodeOf) (Below Below' : Wait → Type 0) → ((v : Wait) → Below v → Below' v) → (t : ℕ) (b : Runs) (x : Item) (w : List Item) (p : ℕ) (ks : List Kind) → EndAt s code Below t b x w p ks → EndAt s code Below' t b x w p ks
end_later s code Below Below' f t b (Do op) w p ks a = absurd a
end_later s code Below Below' f t b EndBlock w p ks a = (a.0, let x = a.1 in record { base = x.base; last = x.last; at = x.at; heads = x.heads; none = x.none; below = f NoValue x.below })
end_later s code Below Below' f t b (EndProcedure v) w p ks a =
    record { result = a.result; heading = a.heading; body = a.body; is = a.is; same = a.same; ends = let x = a.ends in record { base = x.base; last = x.last; at = x.at; heads = x.heads; none = x.none; below = f (value_if v) x.below } }
end_later s code Below Below' f t b EndProgram w p ks a = record { base = a.base; first = a.first; last = a.last; at = a.at; none = a.none; below = f NoValue a.below }
end_later s code Below Below' f t b EndObject w p ks a =
    record { levels = a.levels; not_first = a.not_first; was = a.was; block = a.block; found = a.found; ends = let x = a.ends in record { base = x.base; last = x.last; at = x.at; heads = x.heads; none = x.none; below = f NoValue x.below } }
end_later s code Below Below' f t b EndPrefixed w p ks a =
    record { levels = a.levels; not_first = a.not_first; was = a.was; block = a.block; found = a.found; ends = let x = a.ends in record { base = x.base; last = x.last; at = x.at; heads = x.heads; none = x.none; below = f NoValue x.below } }
end_later s code Below Below' f t b (EndEvaluation wanted) w p ks a =
    record { number = a.number; is_thunk = a.is_thunk; alone = a.alone; last = a.last; at = a.at; kind = a.kind; given = a.given; one = a.one; below = f (OfName wanted) a.below }
end_later s code Below Below' f t b _ w p ks a = absurd a

-- the temps of the statements of an instance that are in use; an evaluation has none
abbrev pub TempsKept : Source → CodeOf → Frames → Frames → (inst t : ℕ) → Runs → (used : ℕ) → Type 0
TempsKept s code fs fs' inst t b used = b.thunk ≡ None → (c : ℕ) → own_end s code (frame_text s t) + expression_temps ≤ c → c < length b.block.types → c < used → placed fs' inst c ≡ placed fs inst c

-- the same where the work behind an operator goes on
module _ (s : Source) (code : CodeOf) (fs fs' : Frames) (inst : ℕ) where
  abbrev SpotKept : Spot → Type 0
  SpotKept c = TempsKept s code fs fs' inst c.text c.runs c.used

  -- at the start of a level no temp of statements is in use
  level_kept : (b : Runs) (k : ℕ) (block : BlockOf) (stage : Stage) → frame_text s k ≡ k → (c : Spot) → c ≡ at_level s code b k block stage → SpotKept c
  level_kept b k block stage f c e = subst (λ z. SpotKept z) (sym e) (λ frame n behind within in_use.
      let low : own_end s code k + expression_temps ≤ n = subst (λ z. own_end s code z + expression_temps ≤ n) f behind in
      let high : n < own_end s code k + expression_temps = in_use in
      absurd (omega (arith, low, high)))

  declared_kept : (b : Runs) (place : ℕ) (c : Spot) (q : ℕ) → DeclaredTo s code b place c q → SpotKept c
  declared_kept b place c q (to_next x) = level_kept b x.text x.block _ (x.level).frame c x.goes_on
  declared_kept b place c q (to_first x) = level_kept b x.text x.block _ (x.level).frame c x.goes_on

  inner_kept : (v : ℕ) (b : Runs) (u : ℕ) (c : Spot) (place after : ℕ) (ks ks' : List Kind) → AtLevel s code (site_at v b u) b c place after ks ks' → TempsKept s code fs fs' inst v b u → SpotKept c
  inner_kept v b u c place after ks ks' x keeps = subst (λ z. SpotKept z) (sym x.goes_on) keeps

  stage_kept : (Stays : Op → (p q : ℕ) → (before behind : List Kind) → Type 0) (v : ℕ) (b : Runs) (u : ℕ) (op : Op) (c : Spot) (p q : ℕ) (ks ks' : List Kind) → InStage s code Stays (site_at v b u) op b c p q ks ks' → TempsKept s code fs fs' inst v b u → SpotKept c
  stage_kept Stays v b u op c p q ks ks' (stays a calm g) keeps = subst (λ z. SpotKept z) (sym g) keeps
  stage_kept Stays v b u op c p q ks ks' (declares k e a) keeps = declared_kept b a.place c q a.to
  stage_kept Stays v b u op c p q ks ks' (inner_last xs e a) keeps = inner_kept v b u c a.place q ks ks' a.at keeps
  stage_kept Stays v b u op c p q ks ks' (inner_here token e a) keeps = inner_kept v b u c a.place q ks ks' a.at keeps
  stage_kept Stays v b u op c p q ks ks' (with_inner ss e a) keeps = inner_kept v b u c a.place a.after ks ks' a.at keeps
  stage_kept Stays v b u op c p q ks ks' (ends_process e a) keeps = subst (λ z. SpotKept z) (sym a.goes_on) keeps

  ended_kept : (b : Runs) (c : Spot) (p q : ℕ) (ks : List Kind) → LevelEnds s code b c p q ks → SpotKept c
  ended_kept b c p q ks x = level_kept b x.text x.block _ (x.level).frame c x.goes_on

module _ (s : Source) (code : CodeOf) (m m' : Instances) (e : Later s m m') where
  reaches_later : (from t u j : ℕ) → Stands s m from t → Reaches s m from u j → Reaches s m' from u j
  reaches_later from t u j st r = record { found = e.same (level_of s u) from t st ∙ r.found; stands = e.stands j u r.stands }

  refers_later : (k : ℕ) (v : Val) (x : Value) → RefersAt s code m k v x → RefersAt s code m' k v x
  refers_later k _ _ (refers_cell {j} {t} st own has varies declared) = refers_cell (e.stands j t st) own has varies declared
  refers_later k _ _ refers_element = refers_element

  place_is_later : (v : Val) (x : Value) → PlaceIs s code m v x → PlaceIs s code m' v x
  place_is_later v x h = record { instance = h.instance; text = h.text; key = h.key; is_val = h.is_val; is_value = h.is_value; stands = e.stands h.instance h.text h.stands; own = h.own; has = h.has; varies = h.varies; declared = h.declared }

  named_later : (v : Val) (x : Value) → NamedAt s code m v x → NamedAt s code m' v x
  named_later v x (named_value h) = named_value (value_later s code m m' e v x h)
  named_later v x (named_place h) = named_place (place_is_later v x h)
  named_later v x (named_reference k c h) = named_reference k c (refers_later k v x h)

  pub hand_later : (k : Kind) (v : Val) (x : Value) → HandAt s code m k v x → HandAt s code m' k v x
  hand_later Any v x h = value_later s code m m' e v x h
  hand_later Located v x h = place_is_later v x h
  hand_later Named v x h = named_later v x h
  hand_later (LinkTo u) v x h = record { instance = h.instance; is_val = h.is_val; is_value = h.is_value; stands = e.stands h.instance u h.stands }
  hand_later (LinkOf j) v x h = h
  hand_later (OwnerKind u) v x h = record { instance = h.instance; is_val = h.is_val; is_value = h.is_value; stands = e.stands h.instance u h.stands }
  hand_later (Refers k) v x h = refers_later k v x h
  hand_later (FixedOf d) v x h = record { instance = h.instance; text = h.text; is_val = h.is_val; is_value = h.is_value; stands = e.stands h.instance h.text h.stands; own = h.own; has = h.has; fixed = h.fixed }

  pub stack_later : (ks : List Kind) (vals : List Val) (stack : List Value) → StackAt (HandAt s code m) ks vals stack → StackAt (HandAt s code m') ks vals stack
  stack_later _ _ _ none_at = none_at
  stack_later _ _ _ (more_at {k} {ks} {v} {vals} {x} {stack} h more) = more_at (hand_later k v x h) (stack_later ks vals stack more)

  module _ (inst t : ℕ) (st : Stands s m inst t) where
    given_later : (site : Site) (n : ℕ) (v : Plain) (p q : ℕ) → GivenIs s code m inst site n v p q → GivenIs s code m' inst site n v p q
    given_later site n (Integer z) p q a = a
    given_later site n (Truth c) p q a = a
    given_later site n (Character c) p q a = a
    given_later site n (Text x) p q a = a
    given_later site n (Object j) p q a = record { text = a.text; push = a.push; reaches = reaches_later inst t a.text j st a.reaches }
    given_later site n (MainOf x) p q a = absurd a
    given_later site n Nothing p q a = a

    place_later : (site : Site) (n j : ℕ) (key : Key) (class p q : ℕ) → CellPlaceIs s code m inst site n j key class p q → CellPlaceIs s code m' inst site n j key class p q
    place_later site n j key class p q a = record { text = a.text; address = a.address; reaches = reaches_later inst t a.text j st a.reaches; own = a.own; has = a.has; varies = a.varies; declared = a.declared }

    use_later : (site : Site) (n j : ℕ) (key : Key) (wanted : Use) (p q : ℕ) → UseIs s code m inst site n j key wanted p q → UseIs s code m' inst site n j key wanted p q
    use_later site n j key wanted p q a = record { text = a.text; use_is = a.use_is; fits = a.fits; reaches = reaches_later inst t a.text j st a.reaches; own = a.own; has = a.has; varies = a.varies; classed = a.classed; is_use = a.is_use }

    mutual
      pub term_later : (site : Site) (n : ℕ) (x : Term) (p q : ℕ) → TermAt s code m inst site n x p q → TermAt s code m' inst site n x p q
      term_later site n (Given v) p q a = given_later site n v p q a
      term_later site n (Cell j key) p q a = record { text = a.text; load = a.load; reaches = reaches_later inst t a.text j st a.reaches; own = a.own; has = a.has; varies = a.varies }
      term_later site n (One op line x) p q a = (a.0, (term_later site n x p a.0 (a.1).0, (a.1).1), a.2)
      term_later site n (Two op line x y) p q a = (a.0, a.1, (term_later site n x p a.0 (a.2).0, (a.2).1), (term_later site (suc n) y a.0 a.1 (a.3).0, (a.3).1), a.4)
      term_later site n (Either c x y) p q a = record {
        y = a.y;
        z = a.z;
        w = a.w;
        x = a.x;
        test = (term_later site n c p a.y (a.test).0, (a.test).1);
        jump = a.jump;
        leads = a.leads;
        first = (term_later site n x a.z a.w (a.first).0, (a.first).1);
        over = a.over;
        past = a.past;
        second = (term_later site n y a.x q (a.second).0, (a.second).1);
      }
      term_later site n (ElementOf line x ts) p q a = (a.0, a.1, (term_later site n x p a.0 (a.2).0, (a.2).1), terms_later site (suc n) ts a.0 a.1 a.3, a.4)
      term_later site n (ValueAt x) p q a = (a.0, term_later site n x p a.0 a.1, a.2)
      term_later site n (CopyOf line x) p q a = (a.0, (term_later site n x p a.0 (a.1).0, (a.1).1), a.2)
      term_later site n (CallOf j k ts line) p q a = record {
        text = a.text;
        x = a.x;
        y = a.y;
        link = a.link;
        reaches = reaches_later inst t a.text j st a.reaches;
        actuals = terms_later site (suc n) ts a.x a.y a.actuals;
        call = a.call;
        procedure = a.procedure;
        as_many = a.as_many;
      }
      term_later site n (StandardOf name ts line) p q a = (a.0, reads_later site n ts p a.0 a.1, a.2)
      term_later site n (PlaceOf j key) p q a = place_later site n j key 0 p q a
      term_later site n (ImageOf image) p q a = a
      term_later site n (Joined line x y) p q a = (a.0, a.1, (term_later site n x p a.0 (a.2).0, (a.2).1), (term_later site (suc n) y a.0 a.1 (a.3).0, (a.3).1), a.4)
      term_later site n (NewOf j k ts line) p q a = record {
        text = a.text;
        x = a.x;
        y = a.y;
        link = a.link;
        reaches = reaches_later inst t a.text j st a.reaches;
        actuals = terms_later site (suc n) ts a.x a.y a.actuals;
        new = a.new;
        stands_in = a.stands_in;
        class = a.class;
      }
      term_later site n (AttributeOf text key class line x) p q a = (a.0, (term_later site n x p a.0 (a.1).0, (a.1).1), a.2)
      term_later site n (RemoteCallOf x k ts line) p q a = record {
        text = a.text;
        x = a.x;
        y = a.y;
        z = a.z;
        object = (term_later site n x p a.x (a.object).0, (a.object).1);
        fits = a.fits;
        there = a.there;
        actuals = terms_later site (suc n) ts a.y a.z a.actuals;
        call = a.call;
        procedure = a.procedure;
        as_many = a.as_many;
      }
      term_later site n (QualifiedPlaceOf j key k) p q a = (a.0, place_later site n j key (class_number s code k) p q a.1)
      term_later site n (QualifiedElementOf line k x ts) p q a = (a.0, a.1, (term_later site n x p a.0 (a.2).0, (a.2).1), terms_later site (suc n) ts a.0 a.1 a.3, a.4)
      term_later site n (MemberOf member k x) p q a = (a.0, (term_later site n x p a.0 (a.1).0, (a.1).1), a.2)
      term_later site n (QuaOf k line x) p q a = (a.0, (term_later site n x p a.0 (a.1).0, (a.1).1), a.2)
      term_later site n (FitsOf k line x) p q a = (a.0, (term_later site n x p a.0 (a.1).0, (a.1).1), a.2)
      term_later site n (KeptOf x) p q a = (a.0, (term_later site n x p a.0 (a.1).0, (a.1).1), a.2)
      term_later site n (NotNoneOf line x) p q a = (a.0, (term_later site n x p a.0 (a.1).0, (a.1).1), a.2)
      term_later site n (TransferOf t line x) p q a = (a.0, (term_later site n x p a.0 (a.1).0, (a.1).1), a.2)
      term_later site n (SetOf name ts) p q a = (a.0, terms_later site n ts p a.0 a.1, a.2)
      term_later site n (ProcessOf name line x) p q a = (a.0, (term_later site n x p a.0 (a.1).0, (a.1).1), a.2)
      term_later site n (SimulationOf j name ts line) p q a = record {
        text = a.text;
        x = a.x;
        y = a.y;
        link = a.link;
        reaches = reaches_later inst t a.text j st a.reaches;
        actuals = terms_later site (suc n) ts a.x a.y a.actuals;
        is = a.is;
      }
      term_later site n (OriginOf k token line x) p q a = (a.0, (term_later site n x p a.0 (a.1).0, (a.1).1), a.2)
      term_later site n (ProcedureOf j k) p q a = record { text = a.text; x = a.x; link = a.link; reaches = reaches_later inst t a.text j st a.reaches; value = a.value; procedure = a.procedure }
      term_later site n (RemoteProcedureOf x k line) p q a = record {
        text = a.text;
        x = a.x;
        y = a.y;
        object = (term_later site n x p a.x (a.object).0, (a.object).1);
        there = a.there;
        value = a.value;
        procedure = a.procedure;
      }
      term_later site n (MatchOf x v line) p q a = record { x = a.x; object = (term_later site n x p a.x (a.object).0, (a.object).1); declared = a.declared; found = a.found }
      term_later site n (CheckedOf x leaves home es line) p q a = record {
        x = a.x;
        y = a.y;
        z = a.z;
        was = a.was;
        here = a.here;
        procedure = (term_later site n x p a.x (a.procedure).0, (a.procedure).1);
        fits = a.fits;
        check = a.check;
        passes = a.passes;
        called = a.called;
      }
      term_later site n (ActualOf home as_procedure x) p q a = a
      term_later site n (NamedOf j key wanted) p q a = use_later site n j key wanted p q a
      term_later site n NoMeaning p q a = a

      pub terms_later : (site : Site) (n : ℕ) (xs : Terms) (p q : ℕ) → TermsAt s code m inst site n xs p q → TermsAt s code m' inst site n xs p q
      terms_later site n NoTerm p q a = a
      terms_later site n (Further x xs) p q a = (a.0, (term_later site n x p a.0 (a.1).0, (a.1).1), terms_later site (suc n) xs a.0 q a.2)

      pub reads_later : (site : Site) (n : ℕ) (xs : Terms) (p q : ℕ) → ReadsAt s code m inst site n xs p q → ReadsAt s code m' inst site n xs p q
      reads_later site n NoTerm p q a = a
      reads_later site n (Further x xs) p q a = (a.0, (term_later site n x p a.0 (a.1).0, (a.1).1), reads_later site (suc n) xs a.0 q a.2)

    operand_later : (site : Site) (n : ℕ) (x : Term) (p q : ℕ) → OperandAt s code m inst site n x p q → OperandAt s code m' inst site n x p q
    operand_later site n x p q a = (term_later site n x p q a.0, a.1)

    target_later : (site : Site) (x : Target) (p q : ℕ) (ks ks' : List Kind) → TargetAt s code m inst site x p q ks ks' → TargetAt s code m' inst site x p q ks ks'
    target_later site (ToCell j key) p q ks ks' a = (let c = a.0 in record { text = c.text; is = c.is; reaches = reaches_later inst t c.text j st c.reaches; own = c.own; has = c.has; varies = c.varies; declared = c.declared }, a.1)
    target_later site ToAddress p q ks ks' a = a
    target_later site (ToText line) p q ks ks' a = a
    target_later site (ToTextOf j key line) p q ks ks' a = a
    target_later site (ToReference line) p q ks ks' a = a
    target_later site (ToNamed k line) p q ks ks' a = a
    target_later site _ p q ks ks' a = absurd a

    place_stored : (site : Site) (x : Term) (kind : Kind) (Put : ℕ → ℕ → Type 0) (p q : ℕ) (ks ks' : List Kind) → PlaceStoreIs s code m inst site x kind Put p q ks ks' → PlaceStoreIs s code m' inst site x kind Put p q ks ks'
    place_stored site x kind Put p q ks ks' a = record { x = a.x; y = a.y; place = term_later site (suc (length ks')) x p a.x a.place; is_place = a.is_place; under = a.under; put = a.put; «in» = a.«in» }

    store_later : (site : Site) (x : Target) (p q : ℕ) (ks ks' : List Kind) → StoreIs s code m inst site x p q ks ks' → StoreIs s code m' inst site x p q ks ks'
    store_later site (ToPlace x) p q ks ks' a = (a.0, a.1, place_stored site x a.0 _ p q ks ks' a.2)
    store_later site (ToTextAt x line) p q ks ks' a = a
    store_later site (ToReferenceAt x line) p q ks ks' a = (a.0, a.1, place_stored site x (Refers a.0) _ p q ks ks' a.2)
    store_later site (ToCell j key) p q ks ks' a = target_later site (ToCell j key) p q ks ks' a
    store_later site ToAddress p q ks ks' a = a
    store_later site (ToText line) p q ks ks' a = a
    store_later site (ToTextOf j key line) p q ks ks' a = a
    store_later site (ToReference line) p q ks ks' a = a
    store_later site (ToNamed k line) p q ks ks' a = a

    gives_later : (site : Site) (temp : ℕ) (ts : List Target) (p q : ℕ) (ks ks' : List Kind) → GivesIs s code m inst site temp ts p q ks ks' → GivesIs s code m' inst site temp ts p q ks ks'
    gives_later site temp [] p q ks ks' a = a
    gives_later site temp (x ∷ xs) p q ks ks' a = (a.0, a.1, a.2, a.3, target_later site x a.0 a.1 (Any ∷ ks) a.2 a.4, gives_later site temp xs a.1 q a.2 ks' a.5)

    variable_later : (site : Site) (v : Variable) (x : Target) → VariableIs s code m inst site v x → VariableIs s code m' inst site v x
    variable_later site (OfCell text key assigned) x v = record { instance = v.instance; is = v.is; reaches = reaches_later inst t text v.instance st v.reaches; own = v.own; has = v.has; varies = v.varies; declared = v.declared }
    variable_later site (OfPlace y assigned) x v = record { place = v.place; is = v.is; anew = λ u n p q h. let r = v.anew u n p q h in (term_later (record site { used = u }) n v.place p q r.0, r.1) }
    variable_later site (OfReference y line) x v = record { place = v.place; is = v.is; anew = λ u n p q h. let r = v.anew u n p q h in record { class = r.class; is_class = r.is_class; term = term_later (record site { used = u }) n v.place p q r.term; leaves = r.leaves } }

    module _ (fs fs' : Frames) (text : ℕ) where
      pub op_later : (b : Runs) (used : ℕ) → Low s code text b used → TempsKept s code fs fs' inst text b used → (op : Op) (p q : ℕ) (ks ks' : List Kind) → OpAt s code m fs inst (site_at text b used) op p q ks ks' → OpAt s code m' fs' inst (site_at text b used) op p q ks ks'
      op_later b used low keeps (Eval x) p q ks ks' a = (term_later (site_at text b used) (length ks) x p q a.0, a.1)
      op_later b used low keeps (IfOp x y) p q ks ks' a =
          let c = a.choice in
          record {
            left = a.left;
            choice = record {
              z = c.z;
              w = c.w;
              x = c.x;
              jump = c.jump;
              leads = c.leads;
              first = operand_later (site_at text b used) (length a.left) x c.z c.w c.first;
              over = c.over;
              past = c.past;
              second = operand_later (site_at text b used) (length a.left) y c.x q c.second;
            };
            «in» = a.«in»;
            out = a.out;
          }
      op_later b used low keeps (StoreOp x) p q ks ks' a = store_later (site_at text b used) x p q ks ks' a
      op_later b used low keeps (ShareOp ts) p q ks ks' a = record {
        temp = a.temp;
        unused = a.unused;
        is_temp = a.is_temp;
        x = a.x;
        left = a.left;
        kept = a.kept;
        gives = gives_later (record (site_at text b used) { used = suc a.temp }) a.temp ts a.x q a.left ks' a.gives;
        «in» = a.«in»;
      }
      op_later b used low keeps (GiveOp v ts) p q ks ks' a = record {
        temp = a.temp;
        x = a.x;
        like = value_later s code m m' e v a.x a.like;
        last = a.last;
        is_temp = a.is_temp;
        holds =
            let lt : a.temp < used = let e = a.last in omega (arith, e) in
            keeps (is_frame_in_use s code text b used a.temp low a.last a.is_temp.within) a.temp a.is_temp.behind a.is_temp.within lt ∙ a.holds;
        gives = gives_later (site_at text b used) a.temp ts p q ks ks' a.gives;
      }
      op_later b used low keeps (BranchOp x next) p q ks ks' a = record { z = a.z; w = a.w; jump = a.jump; leads = a.leads; turn = a.turn; next = op_later b used low keeps next a.w q ks' ks' a.next; «in» = a.«in» }
      op_later b used low keeps (BackOp op) p q ks ks' a = record { t = a.t; x = a.x; u = a.u; jump = a.jump; back = a.back; tick = a.tick; next = op_later b used low keeps op a.t q ks ks' a.next }
      op_later b used low keeps (ElementsOp x es y) p q ks ks' a = record { variable = a.variable; v = variable_later (site_at text b used) a.variable x a.v; number = a.number; elements = a.elements; out = a.out }
      op_later b used low keeps (WhileElementOp x f c y) p q ks ks' a = record { variable = a.variable; v = variable_later (site_at text b used) a.variable x a.v; element = a.element; out = a.out }
      op_later b used low keeps (StepTestOp x line f c y) p q ks ks' a = (let r = a.0 in record { variable = r.variable; v = variable_later (site_at text b used) r.variable x r.v; start = r.start; at = r.at; element = r.element }, a.1, a.2)
      op_later b used low keeps (RaiseOp x line f c y) p q ks ks' a = (let r = a.0 in record { variable = r.variable; v = variable_later (site_at text b used) r.variable x r.v; start = r.start; at = r.at; element = r.element }, a.1, a.2)
      op_later b used low keeps (SimulationOp name line) p q ks ks' a = record { many = a.many; is = a.is; text = a.text; block = a.block; reaches = reaches_later inst t a.text a.block st a.reaches; left = a.left; «in» = a.«in»; out = a.out }
      op_later b used low keeps (ActivateOp again timing line) p q ks ks' a = record { is = a.is; text = a.text; block = a.block; reaches = reaches_later inst t a.text a.block st a.reaches; «in» = a.«in» }
      op_later b used low keeps (NamedOp j key wanted) p q ks ks' a = record { is = use_later (site_at text b used) (length ks) j key wanted p q a.is; out = a.out }
      op_later b used low keeps (BlockOp j) p q ks ks' a = record { text = a.text; link = a.link; reaches = reaches_later inst t a.text j st a.reaches; out = a.out }
      op_later b used low keeps _ p q ks ks' a = a

      comes_later : (b : Runs) (used : ℕ) → TempsKept s code fs fs' inst text b used → (n q p : ℕ) → ComesTo s code fs inst text b used n q p → ComesTo s code fs' inst text b used n q p
      comes_later b used keeps n q _ (there e) = there e
      comes_later b used keeps n q _ (over {p} {p'} jump ahead more) = over jump ahead (comes_later b used keeps n q p' more)
      comes_later b used keeps n q _ (returning {p} {p'} r more) =
          returning (record { temp = r.temp; number = r.number; first = r.first; returns = r.returns; was = r.was; frame = r.frame; «in_use» = r.«in_use»; is_temp = r.is_temp; holds = keeps r.frame r.temp r.is_temp.behind r.is_temp.within r.«in_use» ∙ r.holds; leads = r.leads; back = r.back }) (comes_later b used keeps n q p' more)

      stage_later : (b : Runs) (used : ℕ) → Low s code text b used → TempsKept s code fs fs' inst text b used → (op : Op) (c : Spot) (p q : ℕ) (ks ks' : List Kind) → InStage s code (OpAt s code m fs inst (site_at text b used)) (site_at text b used) op b c p q ks ks' → InStage s code (OpAt s code m' fs' inst (site_at text b used)) (site_at text b used) op b c p q ks ks'
      stage_later b used low keeps op c p q ks ks' (stays a calm g) = stays (op_later b used low keeps op p q ks ks' a) calm g
      stage_later b used low keeps op c p q ks ks' (declares k e a) = declares k e a
      stage_later b used low keeps op c p q ks ks' (inner_last xs e a) = inner_last xs e a
      stage_later b used low keeps op c p q ks ks' (inner_here token e a) = inner_here token e a
      stage_later b used low keeps op c p q ks ks' (with_inner ss e a) = with_inner ss e a
      stage_later b used low keeps op c p q ks ks' (ends_process e a) = ends_process e a

module _ (s : Source) (code : CodeOf) (m m' : Instances) (e : Later s m m') (inst : ℕ) (fs fs' : Frames) (Below Below' : Wait → Type 0) (f : (v : Wait) → Below v → Below' v) where
  -- the work of an instance, at whatever level it goes on
  module _ (home : ℕ) (st : Stands s m inst home) where
    rest_later : (t : ℕ) (b : Runs) (used : ℕ) → TempsKept s code fs fs' inst t b used → (w : List Item) (p : ℕ) (ks : List Kind) → WorkAt s code m fs Below inst t b used w p ks → WorkAt s code m' fs' Below' inst t b used w p ks
    rest_later t b used keeps [] p ks a = a
    rest_later t b used keeps (Do op ∷ w) p ks a =
        let le = a.8 in
        let c = a.5 in
        let fewer : TempsKept s code fs fs' inst a.4 b a.1 = λ frame n behind within lt. keeps frame n (subst (λ z. own_end s code z + expression_temps ≤ n) (a.6).frame behind) within (omega (arith, lt, le)) in (
          a.0,
          a.1,
          a.2,
          a.3,
          a.4,
          a.5,
          a.6,
          comes_later s code m m' e inst home st fs fs' t b used keeps (length ks) a.0 p a.7,
          a.8,
          a.9,
          stage_later s code m m' e inst home st fs fs' a.4 b a.1 (low_same s code a.4 t b a.1 a.6 a.9) fewer op c a.0 a.2 ks a.3 a.10,
          rest_later c.text c.runs c.used (stage_kept s code fs fs' inst (OpAt s code m fs inst (site_at a.4 b a.1)) a.4 b a.1 op c a.0 a.2 ks a.3 a.10 fewer) w a.2 a.3 a.11,
        )
    rest_later t b used keeps (EndBlock ∷ w) p ks a = (a.0, comes_later s code m m' e inst home st fs fs' t b used keeps (length ks) a.0 p a.1, end_later s code Below Below' f (frame_text s t) b EndBlock w a.0 ks a.2)
    rest_later t b used keeps (EndProcedure v ∷ w) p ks a = (a.0, comes_later s code m m' e inst home st fs fs' t b used keeps (length ks) a.0 p a.1, end_later s code Below Below' f (frame_text s t) b (EndProcedure v) w a.0 ks a.2)
    rest_later t b used keeps (EndProgram ∷ w) p ks a = (a.0, comes_later s code m m' e inst home st fs fs' t b used keeps (length ks) a.0 p a.1, end_later s code Below Below' f (frame_text s t) b EndProgram w a.0 ks a.2)
    rest_later t b used keeps (EndObject ∷ w) p ks a = (a.0, comes_later s code m m' e inst home st fs fs' t b used keeps (length ks) a.0 p a.1, end_later s code Below Below' f (frame_text s t) b EndObject w a.0 ks a.2)
    rest_later t b used keeps (EndPrefixed ∷ w) p ks a = (a.0, comes_later s code m m' e inst home st fs fs' t b used keeps (length ks) a.0 p a.1, end_later s code Below Below' f (frame_text s t) b EndPrefixed w a.0 ks a.2)
    rest_later t b used keeps (EndEvaluation wanted ∷ w) p ks a = (a.0, comes_later s code m m' e inst home st fs fs' t b used keeps (length ks) a.0 p a.1, end_later s code Below Below' f (frame_text s t) b (EndEvaluation wanted) w a.0 ks a.2)
    rest_later t b used keeps (EndLevel k ∷ w) p ks a =
        let c = a.2 in
        (a.0, a.1, a.2, comes_later s code m m' e inst home st fs fs' t b used keeps (length ks) a.0 p a.3, a.4, rest_later c.text c.runs c.used (ended_kept s code fs fs' inst b c a.0 a.1 ks a.4) w a.1 [] a.5)

  pub work_later : (t : ℕ) → Stands s m inst t → (b : Runs) (used : ℕ) → TempsKept s code fs fs' inst t b used → (w : List Item) (p : ℕ) (ks : List Kind) → WorkAt s code m fs Below inst t b used w p ks → WorkAt s code m' fs' Below' inst t b used w p ks
  work_later t st b used keeps w p ks a = rest_later t st t b used keeps w p ks a

-- ---- which activations are evaluations

module _ (s : Source) (code : CodeOf) where
  -- control stays in the evaluation, or in the instance
  pub stage_thunk : (Stays : Op → (p q : ℕ) → (before behind : List Kind) → Type 0) (site : Site) (op : Op) (b : Runs) (c : Spot) (p q : ℕ) (ks ks' : List Kind) → InStage s code Stays site op b c p q ks ks' → c.runs.thunk ≡ b.thunk
  stage_thunk Stays site op b c p q ks ks' (stays a calm g) = ap (λ z. z.runs.thunk) g
  stage_thunk Stays site op b c p q ks ks' (declares k e a) = by_place a.to
    where
      by_place : DeclaredTo s code b a.place c q → c.runs.thunk ≡ b.thunk
      by_place (to_next x) = ap (λ z. z.runs.thunk) x.goes_on
      by_place (to_first x) = ap (λ z. z.runs.thunk) x.goes_on
  stage_thunk Stays site op b c p q ks ks' (inner_last xs e a) = ap (λ z. z.runs.thunk) (a.at).goes_on
  stage_thunk Stays site op b c p q ks ks' (inner_here token e a) = ap (λ z. z.runs.thunk) (a.at).goes_on
  stage_thunk Stays site op b c p q ks ks' (with_inner ss e a) = ap (λ z. z.runs.thunk) (a.at).goes_on
  stage_thunk Stays site op b c p q ks ks' (ends_process e a) = ap (λ z. z.runs.thunk) a.goes_on

  -- the work of an evaluation ends as such
  pub behind_op : (w : List Item) (x : Item) (b : Bool) → (w ≡ [] → ⊥) → evaluates w ≡ b → evaluates (x ∷ w) ≡ b
  behind_op [] x b some e = absurd (some refl)
  behind_op (y ∷ w) x b some e = e

  pub last_is : (w : List Item) (x : Item) (b : Bool) → w ≡ [] → is_evaluation x ≡ b → evaluates (x ∷ w) ≡ b
  last_is w x b e f = ap (λ z. evaluates (x ∷ z)) e ∙ f

  pub work_some : (m : Instances) (fs : Frames) (Below : Wait → Type 0) (inst t : ℕ) (b : Runs) (used : ℕ) (w : List Item) (p : ℕ) (ks : List Kind) → WorkAt s code m fs Below inst t b used w p ks → w ≡ [] → ⊥
  work_some m fs Below inst t b used [] p ks a e = a
  work_some m fs Below inst t b used (x ∷ w) p ks a e = absurd (cc)

  pub work_flag : (m : Instances) (fs : Frames) (Below : Wait → Type 0) (inst t : ℕ) (b : Runs) (used : ℕ) (w : List Item) (p : ℕ) (ks : List Kind) → WorkAt s code m fs Below inst t b used w p ks → evaluates w ≡ is_some b.thunk
  work_flag m fs Below inst t b used [] p ks a = absurd a
  work_flag m fs Below inst t b used (Do op ∷ w) p ks a =
      let c = a.5 in
      behind_op w (Do op) (is_some b.thunk) (work_some m fs Below inst c.text c.runs c.used w a.2 a.3 a.11) (work_flag m fs Below inst c.text c.runs c.used w a.2 a.3 a.11 ∙ ap is_some (stage_thunk (OpAt s code m fs inst (site_at a.4 b a.1)) (site_at a.4 b a.1) op b c a.0 a.2 ks a.3 a.10))
  work_flag m fs Below inst t b used (EndBlock ∷ w) p ks a = let x = (a.2).1 in last_is w EndBlock (is_some b.thunk) (x.base).1 (sym (ap is_some (x.base).0))
  work_flag m fs Below inst t b used (EndProcedure v ∷ w) p ks a = let x = (a.2).ends in last_is w (EndProcedure v) (is_some b.thunk) (x.base).1 (sym (ap is_some (x.base).0))
  work_flag m fs Below inst t b used (EndProgram ∷ w) p ks a = let x = a.2 in last_is w EndProgram (is_some b.thunk) (x.base).1 (sym (ap is_some (x.base).0))
  work_flag m fs Below inst t b used (EndObject ∷ w) p ks a = let x = (a.2).ends in last_is w EndObject (is_some b.thunk) (x.base).1 (sym (ap is_some (x.base).0))
  work_flag m fs Below inst t b used (EndPrefixed ∷ w) p ks a = let x = (a.2).ends in last_is w EndPrefixed (is_some b.thunk) (x.base).1 (sym (ap is_some (x.base).0))
  work_flag m fs Below inst t b used (EndEvaluation wanted ∷ w) p ks a = let x = a.2 in last_is w (EndEvaluation wanted) (is_some b.thunk) x.alone (sym (ap is_some x.is_thunk))
  work_flag m fs Below inst t b used (EndLevel k ∷ w) p ks a =
      let c = a.2 in
      behind_op w (EndLevel k) (is_some b.thunk) (work_some m fs Below inst c.text c.runs c.used w a.1 [] a.5) (work_flag m fs Below inst c.text c.runs c.used w a.1 [] a.5 ∙ ap (λ z. is_some z.runs.thunk) (a.4).goes_on)

  pub owner_if : (o : Option ℕ) (f : Bool) (j : ℕ) → f ≡ is_some o → (if f then None else Some j) ≡ owner_of o j
  owner_if None f j e = ap (λ z. if z then None else Some j) e
  owner_if (Some n) f j e = ap (λ z. if z then None else Some j) e

  -- who stands on a chain, on both sides
  pub owner_is : (b : Runs) (inst : ℕ) (w : List Item) (vals : List Val) → evaluates w ≡ is_some b.thunk → owner (record { instance = inst; work = w; values = vals }) ≡ owner_of b.thunk inst
  owner_is b inst w vals e = owner_if b.thunk (evaluates w) inst e

  module _ (Ground : Wait → List machine.Activation → Type 0) (m : Instances) (fs : Frames) (a : Activation) (rest : List Activation) (v : Wait) (x : machine.Activation) (below : List machine.Activation) (c : ChainOn s code Ground m fs (a ∷ rest) v (x ∷ below)) where
    pub top_flag : evaluates a.work ≡ is_some c.block.thunk
    top_flag = work_flag m fs (λ w. ChainOn s code Ground m fs rest w below) a.instance c.text c.block c.used a.work x.pc _ c.goes

    pub top_owner : owner a ≡ owner_of c.block.thunk a.instance
    top_owner = owner_if c.block.thunk (evaluates a.work) a.instance top_flag

    by_thunk : (o : Option ℕ) (j : ℕ) → machine.owner (record { thunk = o; home = j; pc = x.pc; stack = x.stack; room = x.room; stage = x.stage }) ≡ owner_of o j
    by_thunk None j = refl
    by_thunk (Some n) j = refl

    pub frame_owner : machine.owner x ≡ owner_of c.block.thunk a.instance
    frame_owner = by_thunk x.thunk x.home ∙ ap (λ z. owner_of z x.home) c.base ∙ ap (owner_of c.block.thunk) c.home

    -- both sides tell the same
    pub same_owner : machine.owner x ≡ owner a
    same_owner = frame_owner ∙ sym top_owner

pub of_owner : (Of : ℕ → Type 0) (o : Option ℕ) (j : ℕ) → o ≡ Some j → OwnerOf Of o → Of j
of_owner Of None j e a = absurd (cc (e))
of_owner Of (Some k) j e a = let same : k ≡ j = cc (e) in subst Of same a

-- an activation on a chain, which may get what it did not get before
pub top_later : (s : Source) (code : CodeOf) (m m' : Instances) (fs fs' : Frames) (e : Later s m m') (Ground Ground' : Wait → List machine.Activation → Type 0) (a : Activation) (rest : List Activation) (v v' : Wait) (x : machine.Activation) (below : List machine.Activation) (c : ChainOn s code Ground m fs (a ∷ rest) v (x ∷ below)) → TempsKept s code fs fs' a.instance c.text c.block c.used
    → GetsIs (suspended_by m' (owner_of c.block.thunk a.instance)) v' c.gets → ((w : Wait) → ChainOn s code Ground m fs rest w below → ChainOn s code Ground' m' fs' rest w below) → ChainOn s code Ground' m' fs' (a ∷ rest) v' (x ∷ below)
top_later s code m m' fs fs' e Ground Ground' a rest v v' x below c kept gets f = record {
  home = c.home;
  text = c.text;
  block = c.block;
  base = c.base;
  found = c.found;
  stands = e.stands a.instance c.text c.stands;
  own = e.texts a.instance c.block.own c.own;
  roomy = c.roomy;
  room = c.room;
  stage = c.stage;
  kinds = c.kinds;
  values = stack_later s code m m' e c.kinds a.values x.stack c.values;
  gets = c.gets;
  gets_is = gets;
  fits = c.fits;
  asked = c.asked;
  used = c.used;
  goes = work_later s code m m' e a.instance fs fs' (λ w. ChainOn s code Ground m fs rest w below) (λ w. ChainOn s code Ground' m' fs' rest w below) f c.text c.stands c.block c.used kept a.work x.pc _ c.goes;
}

module _ (s : Source) (code : CodeOf) (m m' : Instances) (fs fs' : Frames) (e : Later s m m') (Of : ℕ → Type 0) (k : Keeps s code m fs fs' Of) (same : (j : ℕ) → Of j → suspended m' j ≡ suspended m j) where
  same_by : (o : Option ℕ) → OwnerOf Of o → suspended_by m' o ≡ suspended_by m o
  same_by None all = refl
  same_by (Some j) all = same j all

  pub chain_on_later : (Ground Ground' : Wait → List machine.Activation → Type 0) → ((v : Wait) (below : List machine.Activation) → Ground v below → Ground' v below) → (chain : List Activation) → OwnersOf Of chain → (v : Wait) (below : List machine.Activation) → ChainOn s code Ground m fs chain v below → ChainOn s code Ground' m' fs' chain v below
  chain_on_later Ground Ground' g [] all v below c = g v below c
  chain_on_later Ground Ground' g (a ∷ rest) all v [] c = absurd c
  chain_on_later Ground Ground' g (a ∷ rest) all v (x ∷ below) c =
      let own = top_owner s code Ground m fs a rest v x below c in
      top_later s code m m' fs fs' e Ground Ground' a rest v v x below c
      (λ frame n behind within lt. k.temps a.instance c.text n c.block.block (of_owner Of (owner a) a.instance (own ∙ ap (λ z. owner_of z a.instance) frame) all.0) c.stands c.found (record { behind = behind; within = within }))
      (subst (λ z. GetsIs z v c.gets) (sym (same_by (owner_of c.block.thunk a.instance) (subst (OwnerOf Of) own all.0))) c.gets_is) (λ w b. chain_on_later Ground Ground' g rest all.1 w below b)

  pub chain_later : (chain : List Activation) → OwnersOf Of chain → (v : Wait) (below : List machine.Activation) → ChainAt s code m fs chain v below → ChainAt s code m' fs' chain v below
  chain_later chain all v below c = chain_on_later (Bottom s code NoValue) (Bottom s code NoValue) (λ w b g. g) chain all v below c

  object_later : (j : ℕ) → ObjectIs s code m j → ObjectIs s code m' j
  object_later j x = record { own = x.own; is = e.texts j x.own x.is; class = x.class }

  -- the chains that are kept
  standing_later : (j : ℕ) (x : Standing Activation) (y : Standing machine.Activation) → OwnersKeptOf Of x → StandingAt s code m fs j x y → StandingAt s code m' fs' j x y
  standing_later j (NoObject None) (NoObject None) all a = a
  standing_later j (NoObject (Some chain)) (NoObject (Some below)) all a = chain_on_later (Bottom s code (demand NoValue chain)) (Bottom s code (demand NoValue chain)) (λ w b g. g) chain all NoValue below a
  standing_later j AttachedObject AttachedObject all a = object_later j a
  standing_later j (DetachedObject chain) (DetachedObject below) all a = (object_later j a.0, chain_later chain all NoValue below a.1)
  standing_later j ResumedObject ResumedObject all a = object_later j a
  standing_later j TerminatedObject TerminatedObject all a = a
  standing_later j _ _ all a = absurd a

  pub both_later : (j : ℕ) (x : Option (Standing Activation)) (y : Option (Standing machine.Activation)) → ((z : Standing Activation) → x ≡ Some z → OwnersKeptOf Of z) → Both (StandingAt s code m fs j) x y → Both (StandingAt s code m' fs' j) x y
  both_later j None None o a = a
  both_later j None (Some y) o a = absurd a
  both_later j (Some x) None o a = absurd a
  both_later j (Some x) (Some y) o a = standing_later j x y (o x refl) a

-- the chains behind a step that makes no instance
module _ (s : Source) (code : CodeOf) {Of : ℕ → Type 0} {m m' : Instances} {fs fs' : Frames} (x : Changed s code Of m fs m' fs') where
  pub suspended_same : (j : ℕ) → suspended m' j ≡ suspended m j
  suspended_same j = ap (λ z. suspended_in z j) x.standings

  pub suspended_by_same : (o : Option ℕ) → suspended_by m' o ≡ suspended_by m o
  suspended_by_same None = refl
  suspended_by_same (Some j) = suspended_same j

  pub chain_changed : (chain : List Activation) → OwnersOf Of chain → (v : Wait) (below : List machine.Activation) → ChainAt s code m fs chain v below → ChainAt s code m' fs' chain v below
  chain_changed chain all v below c = chain_later s code m m' fs fs' x.later Of x.keeps (λ j of. suspended_same j) chain all v below c

  pub parked_changed : OwnersKept Of m → StandingsAt s code m fs → StandingsAt s code m' fs'
  parked_changed all a = record {
    each = λ j.
        subst (λ z. Both (StandingAt s code m' fs' j) (slice_get z j) (slice_get fs'.standings j)) (sym x.standings)
        (subst (λ z. Both (StandingAt s code m' fs' j) (slice_get m.standings j) (slice_get z j)) (sym x.frame_standings)
        (both_later s code m m' fs fs' x.later Of x.keeps (λ j of. suspended_same j) j (slice_get m.standings j) (slice_get fs.standings j) (λ z is. all j z is) (a.each j)));
    counted = ap length x.standings ∙ a.counted ∙ sym x.as_many;
  }

  -- a step, and another one behind it
  pub changed_twice : {m2 : Instances} {fs2 : Frames} → Changed s code Of m' fs' m2 fs2 → Changed s code Of m fs m2 fs2
  changed_twice y = record {
    store = y.store;
    later = record { texts = λ j own e. (y.later).texts j own ((x.later).texts j own e); stands = λ j t st. (y.later).stands j t ((x.later).stands j t st); same = λ level j t st. (y.later).same level j t ((x.later).stands j t st) ∙ (x.later).same level j t st };
    keeps = record { temps = λ j t c b of st found temp. (y.keeps).temps j t c b of ((x.later).stands j t st) found temp ∙ (x.keeps).temps j t c b of st found temp };
    standings = y.standings ∙ x.standings;
    frame_standings = y.frame_standings ∙ x.frame_standings;
    as_many = y.as_many ∙ x.as_many;
  }

-- each chain is one of any instances
owner_every : (o : Option ℕ) → OwnerOf Every o
owner_every None = tt
owner_every (Some j) = tt

pub all_every : (chain : List Activation) → OwnersOf Every chain
all_every [] = tt
all_every (a ∷ rest) = (owner_every (owner a), all_every rest)

pub kept_every : (m : Instances) → OwnersKept Every m
kept_every m j (NoObject None) e = tt
kept_every m j (NoObject (Some chain)) e = all_every chain
kept_every m j AttachedObject e = tt
kept_every m j (DetachedObject chain) e = all_every chain
kept_every m j ResumedObject e = tt
kept_every m j TerminatedObject e = tt

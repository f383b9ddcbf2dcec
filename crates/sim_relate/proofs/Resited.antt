-- A closed tree has the same code where other temps are in use.
use Rattle.std.proofs.Common.{ℕ, suc, Bool, true, false, Option, Some, None}
use Rattle.sim_scope.specs.Source.{Source}
use Rattle.sim_tree.specs.Syntax.{Expression, Expressions, NoMore, Then}
use Rattle.sim_values.specs.declared.standard.Standard.{Standard}
use Rattle.sim_values.specs.declared.value.TextVal.{TextVal}
use Rattle.sim_values.specs.Plain.{Character, Integer, Nothing, Object, Plain, Text, Truth, MainOf}
use Rattle.sim_code.specs.declared.instr.Instr.{Instr}
use Rattle.sim_code.specs.Code.{CodeOf}
use Rattle.sim_meaning.specs.Pending.{ActualOf, AttributeOf, CallOf, Cell, CopyOf, Either, ElementOf, FitsOf, Further, Given, ImageOf, Instances, Joined, KeptOf, Key, MemberOf, NamedOf, NewOf, NoTerm, NotNoneOf, One, PlaceOf, ProcessOf, QuaOf, QualifiedElementOf, QualifiedPlaceOf, RemoteCallOf, SetOf, SimulationOf, StandardOf, Term, Terms, TransferOf, Two, NoMeaning, ValueAt, OriginOf, ProcedureOf, RemoteProcedureOf, MatchOf, CheckedOf}
use Rattle.sim_meaning.specs.Checks.{passed}
use Rattle.sim_meaning.specs.Texts.{constant_of}
use Rattle.codegen_expr.specs.Sites.{Pushes, Site}
use Rattle.codegen_expr.specs.CodeExpr.{GivenAt, HeldAt, PastThunkAt, PlainAt, StandardIs, ThunkIfAt, is_procedure, is_value}
use Rattle.sim_relate.proofs.Known.{Any, FixedOf, Kind, LinkOf, LinkTo, Located, Named, OwnerOf, Refers, ActualCode}
use Rattle.sim_relate.proofs.Trees.{AllPassAt, CellPlaceIs, OriginIs, PassesIs, FetchesAt, GivenIs, ReadsAt, TermAt, TermsAt, TextIs, empty, listed}

module _ (s : Source) (code : CodeOf) (m : Instances) (inst : ℕ) (site : Site) (u : ℕ) where
  abbrev other : Site
  other = record site { used = u }

  pushed : (n : ℕ) (x : Instr) (p q : ℕ) → Pushes code site n x p q → Pushes code other n x p q
  pushed n x p q a = record { is = a.is; fits = a.fits }

  plain_sited : (n : ℕ) (v : Plain) (p q : ℕ) → PlainAt s code site n v p q → PlainAt s code other n v p q
  plain_sited n (Integer z) p q a = pushed n _ p q a
  plain_sited n (Truth true) p q a = pushed n _ p q a
  plain_sited n (Truth false) p q a = pushed n _ p q a
  plain_sited n (Character c) p q a = (a.0, pushed n _ p q a.1)
  plain_sited n (Text x) p q a = (a.0, pushed n _ p q a.1)
  plain_sited n (Object j) p q a = absurd a
  plain_sited n (MainOf x) p q a = absurd a
  plain_sited n Nothing p q a = absurd a

  constant_sited : (n : ℕ) (v : Option Plain) (p q : ℕ) → GivenAt s code site n v p q → GivenAt s code other n v p q
  constant_sited n None p q a = absurd a
  constant_sited n (Some v) p q a = plain_sited n v p q a

  text_sited : (n : ℕ) (x : TextVal) (p q : ℕ) → TextIs s code site n x p q → TextIs s code other n x p q
  text_sited n x p q (listed c a) = listed c (pushed n _ p q a)
  text_sited n x p q (empty e a) = empty e (pushed n _ p q a)

  given_sited : (n : ℕ) (v : Plain) (p q : ℕ) → GivenIs s code m inst site n v p q → GivenIs s code m inst other n v p q
  given_sited n (Integer z) p q a = plain_sited n (Integer z) p q a
  given_sited n (Truth c) p q a = plain_sited n (Truth c) p q a
  given_sited n (Character c) p q a = plain_sited n (Character c) p q a
  given_sited n (Text x) p q a = text_sited n x p q a
  given_sited n (Object j) p q a = record { text = a.text; push = pushed n _ p q a.push; reaches = a.reaches }
  given_sited n (MainOf x) p q a = absurd a
  given_sited n Nothing p q a = pushed n _ p q a

  place_sited : (n j : ℕ) (key : Key) (class p q : ℕ) → CellPlaceIs s code m inst site n j key class p q → CellPlaceIs s code m inst other n j key class p q
  place_sited n j key class p q a = record { text = a.text; address = pushed n _ p q a.address; reaches = a.reaches; own = a.own; has = a.has; varies = a.varies; declared = a.declared }

  fetches_sited : (n : ℕ) (k : Kind) (p q : ℕ) → FetchesAt s code site n k p q → FetchesAt s code other n k p q
  fetches_sited n Any p q a = a
  fetches_sited n Named p q a = a
  fetches_sited n Located p q a = a
  fetches_sited n (Refers k) p q a = a
  fetches_sited n (FixedOf d) p q a = record { x = a.x; dropped = a.dropped; value = constant_sited n (constant_of s (record { 0 = d })) a.x q a.value }
  fetches_sited n (LinkTo t) p q a = absurd a
  fetches_sited n (OwnerOf t) p q a = absurd a
  fetches_sited n (LinkOf j) p q a = absurd a

  standard_sited : (n line : ℕ) (name : Standard) (many p q : ℕ) → StandardIs code site n line name many p q → StandardIs code other n line name many p q
  standard_sited n line name many p q a = record { as_many = a.as_many; number = a.number; numbered = a.numbered; is = a.is; fits = a.fits }

  held_sited : (n line class p q : ℕ) → HeldAt s code site n line class p q → HeldAt s code other n line class p q
  held_sited n line class p q a = record { x = a.x; y = a.y; z = a.z; within = a.within; address = pushed (suc n) _ p a.x a.address; under = a.under; put = a.put; again = pushed n _ a.z q a.again }

  -- the code of a thunk has an operand stack of its own, and is closed at a site with so much in use
  past_sited : (was number : ℕ) (Gives : Site → ℕ → ℕ → Type 0) (p q : ℕ) → PastThunkAt code site number (λ inner x y. Gives (record inner { used = was }) x y) p q → PastThunkAt code other number (λ inner x y. Gives (record inner { used = was }) x y) p q
  past_sited was number Gives p q a = record { x = a.x; y = a.y; room = a.room; over = a.over; past = a.past; there = a.there; later = a.later; given = a.given; end = a.end }

  thunk_sited : (b : Bool) (was number : ℕ) (Gives : Site → ℕ → ℕ → Type 0) (p q : ℕ) → ThunkIfAt b code site number (λ inner x y. Gives (record inner { used = was }) x y) p q → ThunkIfAt b code other number (λ inner x y. Gives (record inner { used = was }) x y) p q
  thunk_sited true was number Gives p q a = past_sited was number Gives p q a
  thunk_sited false was number Gives p q a = a

  passes_sited : (n was number line : ℕ) (e : Expression) (p q : ℕ) → PassesIs s code site n was number line e p q → PassesIs s code other n was number line e p q
  passes_sited n was number line e p q a = record {
    x = a.x;
    y = a.y;
    value_thunk = a.value_thunk;
    procedure_thunk = a.procedure_thunk;
    value = thunk_sited (is_value (passed s e)) was a.value_thunk (λ inner x y. ActualCode s code inner false e x y) p a.x a.value;
    procedure = thunk_sited (is_procedure (passed s e)) was a.procedure_thunk (λ inner x y. ActualCode s code inner true e x y) a.x a.y a.procedure;
    passes = a.passes;
    fits = a.fits;
  }

  all_sited : (n was number line : ℕ) (es : Expressions) (p q : ℕ) → AllPassAt s code site n was number line es p q → AllPassAt s code other n was number line es p q
  all_sited n was number line NoMore p q a = a
  all_sited n was number line (Then e es) p q a = (a.0, passes_sited n was number line e p a.0 a.1, all_sited (suc n) was (suc number) line es a.0 q a.2)

  origin_sited : (n k token line p q : ℕ) → OriginIs s code site n k token line p q → OriginIs s code other n k token line p q
  origin_sited n k token line p q a = record {
    x = a.x;
    y = a.y;
    z = a.z;
    again = pushed (suc n) _ p a.x a.again;
    address = a.address;
    pushed = pushed (suc (suc n)) _ a.y a.z a.pushed;
    put = a.put;
    own = a.own;
    has = a.has;
  }

  mutual
    pub term_sited : (n : ℕ) (x : Term) (p q : ℕ) → TermAt s code m inst site n x p q → TermAt s code m inst other n x p q
    term_sited n (Given v) p q a = given_sited n v p q a
    term_sited n (Cell j key) p q a = record { text = a.text; load = pushed n _ p q a.load; reaches = a.reaches; own = a.own; has = a.has; varies = a.varies }
    term_sited n (One op line x) p q a = (a.0, (term_sited n x p a.0 (a.1).0, (a.1).1), a.2)
    term_sited n (Two op line x y) p q a = (a.0, a.1, (term_sited n x p a.0 (a.2).0, (a.2).1), (term_sited (suc n) y a.0 a.1 (a.3).0, (a.3).1), a.4)
    term_sited n (Either c x y) p q a = record {
      y = a.y;
      z = a.z;
      w = a.w;
      x = a.x;
      test = (term_sited n c p a.y (a.test).0, (a.test).1);
      jump = a.jump;
      leads = a.leads;
      first = (term_sited n x a.z a.w (a.first).0, (a.first).1);
      over = a.over;
      past = a.past;
      second = (term_sited n y a.x q (a.second).0, (a.second).1);
    }
    term_sited n (ElementOf line x ts) p q a = (a.0, a.1, (term_sited n x p a.0 (a.2).0, (a.2).1), terms_sited (suc n) ts a.0 a.1 a.3, a.4)
    term_sited n (ValueAt x) p q a = (a.0, term_sited n x p a.0 a.1, let f = a.2 in record { kind = f.kind; left = f.left; fetches = fetches_sited n f.kind a.0 q f.fetches })
    term_sited n (CopyOf line x) p q a = (a.0, (term_sited n x p a.0 (a.1).0, (a.1).1), a.2)
    term_sited n (CallOf j k ts line) p q a = record {
      text = a.text;
      x = a.x;
      y = a.y;
      link = pushed n _ p a.x a.link;
      reaches = a.reaches;
      actuals = terms_sited (suc n) ts a.x a.y a.actuals;
      call = a.call;
      procedure = a.procedure;
      as_many = a.as_many;
    }
    term_sited n (StandardOf name ts line) p q a = (a.0, reads_sited n ts p a.0 a.1, standard_sited n line name _ a.0 q a.2)
    term_sited n (PlaceOf j key) p q a = place_sited n j key 0 p q a
    term_sited n (ImageOf image) p q a = (a.0, pushed n _ p q a.1)
    term_sited n (Joined line x y) p q a =
        (a.0, a.1, (term_sited n x p a.0 (a.2).0, (a.2).1), (term_sited (suc n) y a.0 a.1 (a.3).0, (a.3).1), let j = a.4 in record { within = j.within; room = j.room; joins = j.joins })
    term_sited n (NewOf j k ts line) p q a = record {
      text = a.text;
      x = a.x;
      y = a.y;
      link = pushed n _ p a.x a.link;
      reaches = a.reaches;
      actuals = terms_sited (suc n) ts a.x a.y a.actuals;
      new = a.new;
      stands_in = a.stands_in;
      class = a.class;
    }
    term_sited n (AttributeOf text key class line x) p q a = (a.0, (term_sited n x p a.0 (a.1).0, (a.1).1), a.2)
    term_sited n (RemoteCallOf x k ts line) p q a = record {
      text = a.text;
      x = a.x;
      y = a.y;
      z = a.z;
      object = (term_sited n x p a.x (a.object).0, (a.object).1);
      fits = a.fits;
      there = a.there;
      actuals = terms_sited (suc n) ts a.y a.z a.actuals;
      call = a.call;
      procedure = a.procedure;
      as_many = a.as_many;
    }
    term_sited n (QualifiedPlaceOf j key k) p q a = (a.0, place_sited n j key _ p q a.1)
    term_sited n (QualifiedElementOf line k x ts) p q a = (a.0, a.1, (term_sited n x p a.0 (a.2).0, (a.2).1), terms_sited (suc n) ts a.0 a.1 a.3, a.4)
    term_sited n (MemberOf member k x) p q a = (a.0, (term_sited n x p a.0 (a.1).0, (a.1).1), a.2)
    term_sited n (QuaOf k line x) p q a = (a.0, (term_sited n x p a.0 (a.1).0, (a.1).1), a.2)
    term_sited n (FitsOf k line x) p q a = (a.0, (term_sited n x p a.0 (a.1).0, (a.1).1), let f = a.2 in record { is_class = f.is_class; held = held_sited n line _ a.0 q f.held })
    term_sited n (KeptOf x) p q a = (a.0, (term_sited n x p a.0 (a.1).0, (a.1).1), a.2)
    term_sited n (NotNoneOf line x) p q a = (a.0, (term_sited n x p a.0 (a.1).0, (a.1).1), a.2)
    term_sited n (TransferOf t line x) p q a = (a.0, (term_sited n x p a.0 (a.1).0, (a.1).1), a.2)
    term_sited n (SetOf name ts) p q a = (a.0, terms_sited n ts p a.0 a.1, a.2)
    term_sited n (ProcessOf name line x) p q a = (a.0, (term_sited n x p a.0 (a.1).0, (a.1).1), a.2)
    term_sited n (SimulationOf j name ts line) p q a = record { text = a.text; x = a.x; y = a.y; link = pushed n _ p a.x a.link; reaches = a.reaches; actuals = terms_sited (suc n) ts a.x a.y a.actuals; is = a.is }
    term_sited n (OriginOf k token line x) p q a = (a.0, (term_sited n x p a.0 (a.1).0, (a.1).1), origin_sited n k token line a.0 q a.2)
    term_sited n (ProcedureOf j k) p q a = record { text = a.text; x = a.x; link = pushed n _ p a.x a.link; reaches = a.reaches; value = a.value; procedure = a.procedure }
    term_sited n (RemoteProcedureOf x k line) p q a = record {
      text = a.text;
      x = a.x;
      y = a.y;
      object = (term_sited n x p a.x (a.object).0, (a.object).1);
      there = a.there;
      value = a.value;
      procedure = a.procedure;
    }
    term_sited n (MatchOf x v line) p q a = record { x = a.x; object = (term_sited n x p a.x (a.object).0, (a.object).1); declared = a.declared; found = a.found }
    term_sited n (CheckedOf x leaves home es line) p q a = record {
      x = a.x;
      y = a.y;
      z = a.z;
      was = a.was;
      here = a.here;
      procedure = (term_sited n x p a.x (a.procedure).0, (a.procedure).1);
      fits = a.fits;
      check = a.check;
      passes = all_sited (suc n) a.was 0 line es a.y a.z a.passes;
      called = a.called;
    }
    term_sited n (ActualOf home as_procedure x) p q a =
        let z = a.thunk in
        record { was = a.was; here = a.here; thunk = record { z = z.z; number = z.number; past = past_sited a.was z.number (λ inner u v. ActualCode s code inner as_procedure x u v) p z.z z.past; thunk = pushed n _ z.z q z.thunk } }
    term_sited n (NamedOf j key wanted) p q a = record { text = a.text; use_is = a.use_is; fits = a.fits; reaches = a.reaches; own = a.own; has = a.has; varies = a.varies; classed = a.classed; is_use = a.is_use }
    term_sited n NoMeaning p q a = a

    terms_sited : (n : ℕ) (xs : Terms) (p q : ℕ) → TermsAt s code m inst site n xs p q → TermsAt s code m inst other n xs p q
    terms_sited n NoTerm p q a = a
    terms_sited n (Further x xs) p q a = (a.0, (term_sited n x p a.0 (a.1).0, (a.1).1), terms_sited (suc n) xs a.0 q a.2)

    reads_sited : (n : ℕ) (xs : Terms) (p q : ℕ) → ReadsAt s code m inst site n xs p q → ReadsAt s code m inst other n xs p q
    reads_sited n NoTerm p q a = a
    reads_sited n (Further x xs) p q a = (a.0, (term_sited n x p a.0 (a.1).0, (a.1).1), reads_sited (suc n) xs a.0 q a.2)

-- What is fine stays so in later stores.
use Rattle.std.proofs.Common.{◌≡◌, ◌<◌, ℕ, suc, Bool, true, false, List, [], ◌∷◌, length, map, Option, Some, None, inl, inr, ⊎_elim, refl, sym, ap, ◌∙◌, subst, arith}
use Rattle.std.specs.Prelude.{slice_get, ◌&&◌, not, if◌then◌else◌}
use Rattle.sim_base.specs.declared.numbering.DeclNo.{DeclNo}
use Rattle.sim_chains.specs.Components.{AttachedObject, DetachedObject, NoObject, ResumedObject, Standing, TerminatedObject}
use Rattle.sim_scope.specs.Levels.{has_level}
use Rattle.sim_scope.specs.declared.types.SimType.{SimType}
use Rattle.sim_scope.specs.Source.{Source}
use Rattle.sim_values.specs.declared.kind.Kind.{Kind}
use Rattle.sim_values.specs.Plain.{Character, Integer, MainOf, Nothing, Object, Plain, Text, Truth}
use Rattle.sim_code.specs.Instances.{CellPlace, ElementPlace, ImagePlace, Instance, ends_in, live, unless_given}
use Rattle.sim_code.specs.Instances as instances
use Rattle.sim_tree.specs.Syntax.{Expression}
use Rattle.sim_meaning.specs.Pending.{Actual, ActualOf, CloseOp, EndEvaluation, NamedOf, NamedOp, ToNamed, evaluates, owner, SetOf, Activation, Address, ArrayValue, AttributeOf, BackOp, BlockOp, BranchOp, CallOf, Cell, ChooseOp, ConnectOp, CopyOf, Declared, Do, Either, ElementOf, ElementsOp, EndBlock, EndLevel, EndObject, EndPrefixed, EndProcedure, EndProgram, EnterOp, Eval, Exec, Execs, FitsOf, Further, Given, GiveOp, Held, IfOp, ImageOf, InnerOp, Instances, Item, Joined, KeptOf, Key, Level, Link, MemberOf, NewOf, NoTerm, NotNoneOf, Of, One, Op, PlaceOf, PrefixedOp, ProcedureValue, ProcessOf, QuaOf, QualifiedElementOf, QualifiedPlaceOf, RaiseOp, RemoteCallOf, ShareOp, SimulationOf, StandardOf, StepTestOp, StoreOp, Target, Term, Terms, TestOp, ToAddress, ToCell, ToPlace, ToReference, ToReferenceAt, ToText, ToTextAt, ToTextOf, TransferOf, Two, NoMeaning, Val, ValueAt, WhenOp, WhileElementOp, held, CheckOp, CheckedOf, ForParameter, ForPlace, ForValue, MatchOf, OriginOf, ParameterOp, ProcedureOf, RemoteProcedureOf, Use}
use Rattle.sim_meaning.specs.Attributes.{is_connection}
use Rattle.sim_meaning.specs.Levels.{has_levels, is_class}
use Rattle.sim_meaning.specs.Texts.{text}
use Rattle.sim_sound.specs.Held.{ArrayOf, ByName, Holds, Place, Refers, Simply, key_holds, Procedure}
use Rattle.sim_sound.proofs.Lists.{same_some, there_is}
use Rattle.sim_sound.proofs.Prefixes.{LevelOf}
use Rattle.sim_sound.proofs.Running.{Last, ActFine, AllKeptSeats, AllSeats, ChainFine, ChainOn, Expected, Footing, IsRelease, KeptSeats, NoObjectStands, ObjectStands, SeatOf, SeatedFor, Shown, StandsFine, StandsOn, WorkFine, awaited, evaluation_seat, footing, is_resumed, own_seat, resumes, seat_on, Serves}
use Rattle.sim_sound.proofs.Sound.{BlockIn, CellIs, IntegersFine, LevelsFine, OpFine, OperandsFine, Site, Sited, StoreOpFine, TargetFine, TargetsFine, TermFine, TermsFine, VariableFine, array_stored, in_connection, in_instance, own_made, value_stored}
use Rattle.sim_sound.proofs.Values.{ActualFine, Beneath, CellLies, PlaceFine, Seat, Stands, Whichever, at_itself, at_seat, in_bound, in_text, near_below, near_staying, one_lower, ObjectIn, AddressOf, AllArrays, ArrayFine, CellFine, CellTarget, CellsFine, Component, Copied, CopyFine, DeepFine, ElementFine, Enclosed, Generated, HandFine, HandsFine, ImageAddress, InstanceFine, KeptFine, KeyAmong, Kinds, Knows, Lasting, Lasts, LinkTo, MainIn, NamesObject, Near, ObjectOf, Outward, PlainFine, Present, ReferenceAddress, ReferenceFine, Simulates, StandsFor, Stays, Suspended, Takes, ValFine, Value, Waits, MadeOf, alone, connected, key_of, no_further, one_out, outward, own_text, staying, within, Checked, ForFormal, HeldDeep, NewObject, ProcedureFine, Passes}

-- an instance that is as it was, but for values of cells, and cells of connections that are new; and it may be kept now
pub record Grown (x y : Instance (List Held)) : Type 0 where
  pub text : y.text ≡ x.text
  pub level : y.level ≡ x.level
  pub encloser : y.encloser ≡ x.encloser
  pub passing : y.passing ≡ x.passing
  pub kept : x.kept ≡ true → y.kept ≡ true
  pub keys : (key : Key) → KeyAmong key (map key_of x.cells) → KeyAmong key (map key_of y.cells)
  pub holds : (key : Key) → held key y.cells ≡ None → held key x.cells ≡ None

pub as_it_was : (x : Instance (List Held)) → Grown x x
as_it_was x = record { text = refl; level = refl; encloser = refl; passing = refl; kept = λ k. k; keys = λ key a. a; holds = λ key a. a }

pub record StillThere (m : Instances) (j : ℕ) (x : Instance (List Held)) : Type 0 where
  pub now : Instance (List Held)
  pub lives : live m j ≡ Some now
  pub grown : Grown x now

-- What the instances know is still there, but for what one knows that is given back. `Apart` says that it is not that one.
pub record Later (s : Source) (o : AllArrays) (m : Instances) (o' : AllArrays) (m' : Instances) (Apart : ℕ → Type 0) : Type 0 where
  pub arrays : (j : ℕ) (h : Holds) (a : ℕ) → Apart j → ArrayFine o m j h a → ArrayFine o' m' j h a
  pub elements : (j : ℕ) (h : Holds) (a n : ℕ) → Apart j → ElementFine o m j h a n → ElementFine o' m' j h a n
  pub kept : (h : Holds) (a : ℕ) → KeptFine o h a → KeptFine o' h a
  pub there : (j : ℕ) (x : Instance (List Held)) → Apart j → live m j ≡ Some x → StillThere m' j x
  pub stays : (j : ℕ) → Stays m j → Apart j
  pub apart : (j e : ℕ) → Apart j → Knows m j e → Apart e
  pub near : (j e : ℕ) → Apart j → Near o m j e → Apart e
  pub nears : (j e : ℕ) → Apart j → Near o m j e → Near o' m' j e
  pub beneath : (j : ℕ) (x : Option ℕ) → slice_get o.beneath j ≡ Some x → slice_get o'.beneath j ≡ Some x
  pub objects : (j : ℕ) → ObjectStands m j → ObjectStands m' j
  pub nobody : (j : ℕ) → NoObjectStands m j → NoObjectStands m' j

-- the copies in hand of an instance that have fewer values below them than d
abbrev pub Copies : AllArrays → AllArrays → (j d : ℕ) → Type 0
Copies o o' j d = (e : ℕ) (h : Holds) (a : ℕ) → e < d → CopyFine o j e h a → CopyFine o' j e h a

-- those of all seats
abbrev pub AllCopies : AllArrays → AllArrays → Type 0
AllCopies o o' = (q : Seat) (j d : ℕ) → Copies (at_seat o q) (at_seat o' q) j d

-- it waits for the same as a system head, and is a resumed object if it was one
abbrev pub Steady : AllArrays → Instances → AllArrays → Instances → ℕ → Type 0
Steady o m o' m' j = (o'.waiting j ≡ o.waiting j) × (resumes m' j ≡ resumes m j)

pub awaited_same : (f g : ℕ → Waits) (u : Option ℕ) (v : Waits) → ((j : ℕ) → u ≡ Some j → g j ≡ f j) → awaited g u v ≡ awaited f u v
awaited_same f g u (Takes x) e = refl
awaited_same f g u (Passes number formal) e = refl
awaited_same f g u (Generated i k) e = refl
awaited_same f g None Suspended e = refl
awaited_same f g (Some j) Suspended e = e j refl

-- ---- seats

-- what is looked at from another seat
pub near_seat : (o : AllArrays) (q : Seat) (m : Instances) (j e : ℕ) → Near o m j e → Near (at_seat o q) m j e
near_seat o q m j e (near_staying a) = near_staying a
near_seat o q m j e (near_below a) = near_below (further j a)
  where
    further : (j : ℕ) → Beneath o m j e → Beneath (at_seat o q) m j e
    further _ at_itself = at_itself
    further j (one_lower {k = k} ends is a) = one_lower ends is (further k a)

pub near_unseat : (o : AllArrays) (q : Seat) (m : Instances) (j e : ℕ) → Near (at_seat o q) m j e → Near o m j e
near_unseat o q m j e (near_staying a) = near_staying a
near_unseat o q m j e (near_below a) = near_below (further j a)
  where
    further : (j : ℕ) → Beneath (at_seat o q) m j e → Beneath o m j e
    further _ at_itself = at_itself
    further j (one_lower {k = k} ends is a) = one_lower ends is (further k a)

pub array_seat : (o : AllArrays) (q : Seat) (m : Instances) (j : ℕ) (h : Holds) (a : ℕ) → ArrayFine o m j h a → ArrayFine (at_seat o q) m j h a
array_seat o q m j h a f = record { it = f.it; lives = f.lives; known = f.known; owned = ⊎_elim (λ k. inl k) (λ n. inr (near_seat o q m j (f.it).owner n)) f.owned; count = f.count }

array_unseat : (o : AllArrays) (q : Seat) (m : Instances) (j : ℕ) (h : Holds) (a : ℕ) → ArrayFine (at_seat o q) m j h a → ArrayFine o m j h a
array_unseat o q m j h a f = record { it = f.it; lives = f.lives; known = f.known; owned = ⊎_elim (λ k. inl k) (λ n. inr (near_unseat o q m j (f.it).owner n)) f.owned; count = f.count }

element_seat : (o : AllArrays) (q : Seat) (m : Instances) (j : ℕ) (h : Holds) (a n : ℕ) → ElementFine o m j h a n → ElementFine (at_seat o q) m j h a n
unfolding array_seat
element_seat o q m j h a n f = record { array = array_seat o q m j h a f.array; there = f.there }

element_unseat : (o : AllArrays) (q : Seat) (m : Instances) (j : ℕ) (h : Holds) (a n : ℕ) → ElementFine (at_seat o q) m j h a n → ElementFine o m j h a n
unfolding array_unseat
element_unseat o q m j h a n f = record { array = array_unseat o q m j h a f.array; there = f.there }

kept_seat : (o : AllArrays) (q : Seat) (h : Holds) (a : ℕ) → KeptFine o h a → KeptFine (at_seat o q) h a
kept_seat o q h a f = record { it = f.it; lives = f.lives; known = f.known; keeps = f.keeps; count = f.count }

kept_unseat : (o : AllArrays) (q : Seat) (h : Holds) (a : ℕ) → KeptFine (at_seat o q) h a → KeptFine o h a
kept_unseat o q h a f = record { it = f.it; lives = f.lives; known = f.known; keeps = f.keeps; count = f.count }

pub later_seat : (s : Source) (o : AllArrays) (m : Instances) (o' : AllArrays) (m' : Instances) (Apart : ℕ → Type 0) → Later s o m o' m' Apart → (q : Seat) → Later s (at_seat o q) m (at_seat o' q) m' Apart
later_seat s o m o' m' Apart e q = record {
  arrays = λ j h a ok x. array_seat o' q m' j h a (e.arrays j h a ok (array_unseat o q m j h a x));
  elements = λ j h a n ok x. element_seat o' q m' j h a n (e.elements j h a n ok (element_unseat o q m j h a n x));
  kept = λ h a x. kept_seat o' q h a (e.kept h a (kept_unseat o q h a x));
  there = e.there;
  stays = e.stays;
  apart = e.apart;
  near = λ j k ok a. e.near j k ok (near_unseat o q m j k a);
  nears = λ j k ok a. near_seat o' q m' j k (e.nears j k ok (near_unseat o q m j k a));
  beneath = e.beneath;
  objects = e.objects;
  nobody = e.nobody;
}

-- a seat of an instance's own
pub seat_owner : (u : Option ℕ) (f : Footing) (q : Seat) → seat_on u f ≡ Some q → q.evaluations ≡ 0 → u ≡ Some q.owner
seat_owner (Some j) f q e none = ap (λ z. Some z.owner) (same_some (Some (own_seat j)) (own_seat j) q refl e)
seat_owner None f q e none = absurd (by_parts f.seat f.next e)
  where
    by_parts : (x : Option Seat) (y : Option ℕ) → evaluation_seat x y ≡ Some q → ⊥
    by_parts None y e = cc
    by_parts (Some p) None e = cc
    by_parts (Some p) (Some j) e = let is : suc p.evaluations ≡ q.evaluations = ap (λ z. z.evaluations) (same_some (evaluation_seat (Some p) (Some j)) _ q refl e) in omega (arith, is, none)

pub owner_is : (a : Activation) (j : ℕ) → owner a ≡ Some j → a.instance ≡ j
owner_is a j e = by_flag (evaluates a.work) e
  where
    by_flag : (b : Bool) → (if b then None else Some a.instance) ≡ Some j → a.instance ≡ j
    by_flag true e = absurd (cc)
    by_flag false e = cc

pub seat_is : (Is : Seat → Type 0) (x : Option Seat) (q : Seat) → x ≡ Some q → SeatOf Is x → Is q
seat_is Is x q e a = subst (SeatOf Is) e a

-- ---- instances

stands_grown : (s : Source) (x y : Instance (List Held)) → Grown x y → (t : ℕ) → StandsFor s x t → StandsFor s y t
stands_grown s x y g t (own_text at) = own_text (subst (λ z. LevelOf s z t) (sym g.text) at)
stands_grown s x y g t (connected {u = u} is around there a) = connected is around (g.keys _ there) (stands_grown s x y g u a)

-- what is not given back at its end
pub kept_stays : (passing k k' : Bool) → (k ≡ true → k' ≡ true) → (passing && not k) ≡ false → (passing && not k') ≡ false
kept_stays false k k' f e = refl
kept_stays true true k' f e = ap not (f refl)
kept_stays true false k' f e = absurd (cc)

pub flags_grown : (x y : Instance (List Held)) → Grown x y → (x.passing && not x.kept) ≡ false → (y.passing && not y.kept) ≡ false
flags_grown x y g e = ap (λ z. z && not y.kept) g.passing ∙ kept_stays x.passing x.kept y.kept g.kept e

-- and what is
pub flags_were : (x y : Instance (List Held)) → Grown x y → (y.passing && not y.kept) ≡ true → (x.passing && not x.kept) ≡ true
flags_were x y g e = by_flag (x.passing && not x.kept) refl
  where
    by_flag : (b : Bool) → (x.passing && not x.kept) ≡ b → b ≡ true
    by_flag true f = refl
    by_flag false f = absurd (let no = flags_grown x y g f in cc)

module _ (s : Source) (o : AllArrays) (m : Instances) (o' : AllArrays) (m' : Instances) (Apart : ℕ → Type 0) (e : Later s o m o' m' Apart) where
  pub stays_later : (j : ℕ) → Stays m j → Stays m' j
  stays_later j a = let y = e.there j a.now (e.stays j a) a.lives in record { now = y.now; lives = y.lives; stays = flags_grown a.now y.now y.grown a.stays }

  outward_later : (j k : ℕ) → Apart j → Outward m j k → Outward m' j k
  outward_later j _ ok no_further = no_further
  outward_later j k ok (one_out {f = f} {x = x} lives is path) =
      let y = e.there j x ok lives in
      one_out y.lives ((y.grown).encloser ∙ is) (outward_later f k (e.apart j f ok (outward (one_out lives is no_further))) path)

  pub knows_later : (j k : ℕ) → Apart j → Knows m j k → Knows m' j k
  knows_later j k ok (staying a) = staying (stays_later k a)
  knows_later j k ok (outward a) = outward (outward_later j k ok a)

  pub stands_on_later : (j : ℕ) (x : Instance (List Held)) (under : Option ℕ) → Apart j → live m j ≡ Some x → StandsOn o.beneath m j under → StandsOn o'.beneath m' j under
  stands_on_later j x under ok lives on passing =
      let y = e.there j x ok lives in
      e.beneath j under (on (ap ends_in lives ∙ flags_were x y.now y.grown (sym (ap ends_in y.lives) ∙ passing)))

  pub present_later : (j t : ℕ) (todo : List DeclNo) → Apart j → Present s m j t todo → Present s m' j t todo
  present_later j t todo ok p =
      let y = e.there j p.now ok p.lives in
      record {
        now = y.now;
        lives = y.lives;
        stands = stands_grown s p.now y.now y.grown t p.stands;
        words = p.words;
        has_text = ap (text s) (y.grown).text ∙ p.has_text;
        made = λ u at d k holds there none. p.made u (subst (λ z. LevelOf s z u) (y.grown).text at) d k holds there ((y.grown).holds (Declared d.0) none);
      }

  pub own_later : (j t : ℕ) (todo : List DeclNo) (ok : Apart j) (p : Present s m j t todo) → ((present_later j t todo ok p).now).text ≡ (p.now).text
  unfolding present_later
  own_later j t todo ok p = ((e.there j p.now ok p.lives).grown).text

  pub object_later : (j class : ℕ) → ObjectOf s m j class → ObjectOf s m' j class
  object_later j class p =
      let y = e.there j p.now (e.stays j (record { now = p.now; lives = p.lives; stays = p.stays })) p.lives in
      record {
        now = y.now;
        lives = y.lives;
        object = ap (λ z. has_levels (text s z)) (y.grown).text ∙ p.object;
        levels = ap (λ z. has_level s.tables z class) (y.grown).text ∙ p.levels;
        stays = flags_grown p.now y.now y.grown p.stays;
        words = p.words;
        has_text = ap (text s) (y.grown).text ∙ p.has_text;
        made = λ u at d k holds there none. p.made u (subst (λ z. LevelOf s z u) (y.grown).text at) d k holds there ((y.grown).holds (Declared d.0) none);
      }

  made_later : (n c : ℕ) → MadeOf s m n c → MadeOf s m' n c
  unfolding object_later
  made_later n c a = record {
    object = object_later n c a.object;
    proper = ap (λ z. is_class (text s z)) ((e.there n (a.object).now (e.stays n (record { now = (a.object).now; lives = (a.object).lives; stays = (a.object).stays })) (a.object).lives).grown).text ∙ a.proper;
  }

  pub lasts_later : (j u : ℕ) → Lasts s m j u → Lasts s m' j u
  lasts_later j u p =
      let y = e.there j p.now (e.stays j (record { now = p.now; lives = p.lives; stays = p.stays })) p.lives in
      record { now = y.now; lives = y.lives; solid = ap (λ z. is_connection (text s z)) (y.grown).text ∙ p.solid; level = subst (λ z. LevelOf s z u) (sym (y.grown).text) p.level; stays = flags_grown p.now y.now y.grown p.stays }

  pub simulates_later : (b k : ℕ) → Simulates s m b k → Simulates s m' b k
  simulates_later b k p = record { lasts = lasts_later b k p.lasts; simulates = p.simulates }

  pub main_later : (b class : ℕ) → MainIn s m b class → MainIn s m' b class
  main_later b class p = record { level = p.level; block = simulates_later b p.level p.block; levels = p.levels }

  -- ---- values and cells

  reference_later : (c : ℕ) (p : Plain) → ReferenceFine s m c p → ReferenceFine s m' c p
  reference_later c Nothing a = a
  reference_later c (Object i) a = object_later i c a
  reference_later c (MainOf i) a = main_later i c a
  reference_later c _ a = absurd a

  names_later : (p : Plain) → NamesObject s m p → NamesObject s m' p
  names_later (Object i) a = (a.0, object_later i a.0 a.1)
  names_later (MainOf i) a = (a.0, simulates_later i a.0 a.1)
  names_later _ a = a

  pub plain_later : (h : Holds) (p : Plain) → PlainFine s m h p → PlainFine s m' h p
  plain_later (Simply k) p a = (a.0, names_later p a.1)
  plain_later (Refers c) p a = reference_later c p a
  plain_later (ArrayOf h) p a = absurd a
  plain_later (Procedure r) p a = absurd a
  plain_later (ByName h) p a = absurd a

  stands_later : (j : ℕ) (from : Place) → Apart j → Stands s m j from → Stands s m' j from
  stands_later j _ ok (in_text {u = u} whole) = in_text (present_later j u [] ok whole)
  stands_later j _ ok (in_bound {t = t} {todo = todo} p own at ready solid) = in_bound (present_later j t todo ok p) (own_later j t todo ok p ∙ own) at ready solid

  pub actual_later : (j : ℕ) → Apart j → (h : Holds) (home : ℕ) (p : Bool) (x : Expression) → ActualFine s o m j h home p x → ActualFine s o' m' j h home p x
  actual_later j ok h home p x a = record { near = e.nears j home ok a.near; from = a.from; stands = stands_later home a.from (e.near j home ok a.near) a.stands; typed = a.typed }

  pub procedure_later : (j : ℕ) → Apart j → (r : Option SimType) (k n : ℕ) → ProcedureFine s o m j r k n → ProcedureFine s o' m' j r k n
  procedure_later j ok r k n a = record { around = a.around; near = e.nears j n ok a.near; whole = present_later n a.around [] (e.near j n ok a.near) a.whole; procedure = a.procedure; gives = a.gives }

  pub val_later : (j : ℕ) → Apart j → (h : Holds) (v : Val) → ValFine s o m j h v → ValFine s o' m' j h v
  val_later j ok (Simply k) (Of p) a = (a.0, names_later p a.1)
  val_later j ok (Refers c) (Of p) a = reference_later c p a
  val_later j ok (ArrayOf h) (ArrayValue n) a = e.arrays j h n ok a
  val_later j ok (Procedure r) (ProcedureValue k n) a = procedure_later j ok r k n a
  val_later j ok (ByName h) (Actual home p x) a = actual_later j ok h home p x a
  val_later j ok (Simply k) _ a = absurd a
  val_later j ok (Refers c) _ a = absurd a
  val_later j ok (ArrayOf h) _ a = absurd a
  val_later j ok (Procedure r) _ a = absurd a
  val_later j ok (ByName h) _ a = absurd a

  cell_later : (j : ℕ) → Apart j → (h : Option Holds) (v : Option Val) → CellFine s o m j h v → CellFine s o' m' j h v
  cell_later j ok None v a = a
  cell_later j ok (Some (Simply k)) None a = a
  cell_later j ok (Some (Refers c)) None a = a
  cell_later j ok (Some (Procedure r)) None a = a
  cell_later j ok (Some (ByName k)) None a = a
  cell_later j ok (Some (ArrayOf k)) None a = a
  cell_later j ok (Some h) (Some v) a = val_later j ok h v a

  pub cells_later : (j t : ℕ) → Apart j → (hs : List Held) → CellsFine s o m j t hs → CellsFine s o' m' j t hs
  cells_later j t ok [] a = a
  cells_later j t ok (h ∷ hs) a = (cell_later j ok (key_holds s t h.key) h.value a.0, cells_later j t ok hs a.1)

  -- ---- an instance that is not changed

  pub enclosed_later : (j t : ℕ) (out : Option ℕ) → Apart j → Enclosed s o m j t out → Enclosed s o' m' j t out
  enclosed_later j t out ok (alone is around) = alone is around
  enclosed_later j t out ok (within {e = n} {u = u} is around less near whole) = within is around less (e.nears j n ok near) (present_later n u [] (e.near j n ok near) whole)

  pub instance_later : (j : ℕ) (x : Instance (List Held)) → Apart j → InstanceFine s o m j x → InstanceFine s o' m' j x
  instance_later j x ok f = record { level = f.level; solid = f.solid; keys = f.keys; holds = f.holds; cells = cells_later j x.text ok x.cells f.cells; ends = f.ends; origins = f.origins; out = enclosed_later j x.text x.encloser ok f.out }

  -- ---- what is in hand, and what is pending

  pub cell_target_later : (j : ℕ) → Apart j → (n : ℕ) (key : Key) (h : Holds) → CellTarget s m j n key h → CellTarget s m' j n key h
  cell_target_later j ok n key h a = record { around = a.around; todo = a.todo; near = knows_later j n ok a.near; here = present_later n a.around a.todo (e.apart j n ok a.near) a.here; ready = a.ready; holds = a.holds; there = a.there }

  lies_later : (j : ℕ) → Apart j → (n : ℕ) (key : Key) (h : Holds) → CellLies s o m j n key h → CellLies s o' m' j n key h
  lies_later j ok n key h a = record { around = a.around; todo = a.todo; near = e.nears j n ok a.near; here = present_later n a.around a.todo (e.near j n ok a.near) a.here; ready = a.ready; holds = a.holds; there = a.there }

  place_later : (j : ℕ) → Apart j → (k : Kind) (p : instances.Place Key (Option ℕ)) → PlaceFine s o m j k p → PlaceFine s o' m' j k p
  place_later j ok k (ElementPlace n i None) a = (a.0, e.elements j (Simply k) n i ok a.1)
  place_later j ok k (ElementPlace n i (Some c)) a = (a.0, e.elements j (Refers c) n i ok a.1)
  place_later j ok k (CellPlace n key None) a = (a.0, lies_later j ok n key (Simply k) a.1)
  place_later j ok k (CellPlace n key (Some c)) a = (a.0, lies_later j ok n key (Refers c) a.1)
  place_later j ok k (ImagePlace n) a = a

  pub hand_later : (j : ℕ) → Apart j → (k : Kinds) (v : Val) → HandFine s o m j k v → HandFine s o' m' j k v
  hand_later j ok (Value h) v a = val_later j ok h v a
  hand_later j ok (AddressOf h) (Address (ElementPlace n i None)) a = e.elements j h n i ok a
  hand_later j ok (AddressOf h) (Address (CellPlace n key None)) a = lies_later j ok n key h a
  hand_later j ok (AddressOf h) (Address (ElementPlace n i (Some c))) a = absurd a
  hand_later j ok (AddressOf h) (Address (CellPlace n key (Some c))) a = absurd a
  hand_later j ok (AddressOf h) (Address (ImagePlace n)) a = absurd a
  hand_later j ok (AddressOf h) _ a = absurd a
  hand_later j ok (ReferenceAddress c) (Address (ElementPlace n i (Some k))) a = (a.0, e.elements j (Refers c) n i ok a.1)
  hand_later j ok (ReferenceAddress c) (Address (CellPlace n key (Some k))) a = (a.0, lies_later j ok n key (Refers c) a.1)
  hand_later j ok (ReferenceAddress c) (Address (ElementPlace n i None)) a = absurd a
  hand_later j ok (ReferenceAddress c) (Address (CellPlace n key None)) a = absurd a
  hand_later j ok (ReferenceAddress c) (Address (ImagePlace n)) a = absurd a
  hand_later j ok (ReferenceAddress c) _ a = absurd a
  hand_later j ok (LinkTo u) (Link n) a = (knows_later j n ok a.0, present_later n u [] (e.apart j n ok a.0) a.1)
  hand_later j ok (LinkTo u) _ a = absurd a
  hand_later j ok ImageAddress (Address (ImagePlace n)) a = a
  hand_later j ok ImageAddress (Address (CellPlace n key c)) a = absurd a
  hand_later j ok ImageAddress (Address (ElementPlace n i c)) a = absurd a
  hand_later j ok ImageAddress _ a = absurd a
  hand_later j ok (Lasting h) (ArrayValue n) a = e.kept h n a
  hand_later j ok (Lasting h) _ a = absurd a
  hand_later j ok (Copied k) v a = absurd a
  hand_later j ok Component (Of (Object n)) a = (a.0, object_later n a.0 a.1)
  hand_later j ok Component (Of (MainOf n)) a = (a.0, simulates_later n a.0 a.1)
  hand_later j ok Component (Of Nothing) a = absurd a
  hand_later j ok Component (Of (Integer z)) a = absurd a
  hand_later j ok Component (Of (Truth z)) a = absurd a
  hand_later j ok Component (Of (Character z)) a = absurd a
  hand_later j ok Component (Of (Text z)) a = absurd a
  hand_later j ok Component _ a = absurd a
  hand_later j ok (ObjectIn c) (Of (Object n)) a = object_later n c a
  hand_later j ok (ObjectIn c) (Of (MainOf n)) a = main_later n c a
  hand_later j ok (ObjectIn c) (Of Nothing) a = absurd a
  hand_later j ok (ObjectIn c) (Of (Integer z)) a = absurd a
  hand_later j ok (ObjectIn c) (Of (Truth z)) a = absurd a
  hand_later j ok (ObjectIn c) (Of (Character z)) a = absurd a
  hand_later j ok (ObjectIn c) (Of (Text z)) a = absurd a
  hand_later j ok (ObjectIn c) _ a = absurd a
  hand_later j ok (NewObject c) (Of (Object n)) a = made_later n c a
  hand_later j ok (NewObject c) (Of (MainOf n)) a = absurd a
  hand_later j ok (NewObject c) (Of Nothing) a = absurd a
  hand_later j ok (NewObject c) (Of (Integer z)) a = absurd a
  hand_later j ok (NewObject c) (Of (Truth z)) a = absurd a
  hand_later j ok (NewObject c) (Of (Character z)) a = absurd a
  hand_later j ok (NewObject c) (Of (Text z)) a = absurd a
  hand_later j ok (NewObject c) _ a = absurd a
  hand_later j ok (Checked es r) (ProcedureValue k n) a = (procedure_later j ok r k n a.0, a.1)
  hand_later j ok (Checked es r) _ a = absurd a
  hand_later j ok (ForFormal number) v a = absurd a
  hand_later j ok (Whichever b k) (Address p) a = place_later j ok k p a
  hand_later j ok (Whichever true k) (Of p) a = (a.0, names_later p a.1)
  hand_later j ok (Whichever false k) (Of p) a = absurd a
  hand_later j ok (Whichever true k) _ a = absurd a
  hand_later j ok (Whichever false k) _ a = absurd a

  pub held_later : (j : ℕ) → Apart j → (d : ℕ) → Copies o o' j (suc d) → (k : Kinds) (v : Val) → HeldDeep s o m j d k v → HeldDeep s o' m' j d k v
  held_later j ok d c (Copied k) (ArrayValue a) f = c d k a (omega arith) f
  held_later j ok d c (Copied k) (Of p) f = absurd f
  held_later j ok d c (Copied k) (Link z) f = absurd f
  held_later j ok d c (Copied k) (Address z) f = absurd f
  held_later j ok d c (Copied k) (ProcedureValue z y) f = absurd f
  held_later j ok d c (Copied k) (Actual z p y) f = absurd f
  held_later j ok d c (ForFormal number) v f = absurd f
  held_later j ok d c (Value h) v f = val_later j ok h v f
  held_later j ok d c (AddressOf k) v f = hand_later j ok (AddressOf k) v f
  held_later j ok d c (ReferenceAddress k) v f = hand_later j ok (ReferenceAddress k) v f
  held_later j ok d c ImageAddress v f = hand_later j ok ImageAddress v f
  held_later j ok d c (LinkTo u) v f = hand_later j ok (LinkTo u) v f
  held_later j ok d c (Lasting h) v f = hand_later j ok (Lasting h) v f
  held_later j ok d c Component v f = hand_later j ok Component v f
  held_later j ok d c (ObjectIn k) v f = hand_later j ok (ObjectIn k) v f
  held_later j ok d c (NewObject k) v f = hand_later j ok (NewObject k) v f
  held_later j ok d c (Checked es r) v f = hand_later j ok (Checked es r) v f
  held_later j ok d c (Whichever b k) v f = hand_later j ok (Whichever b k) v f

  pub deep_later : (j : ℕ) → Apart j → (d : List Val) → Copies o o' j (suc (length d)) → (k : Kinds) (v : Val) → DeepFine s o m j d k v → DeepFine s o' m' j d k v
  deep_later j ok d c (ForFormal number) v f = record { formal = f.formal; is = f.is; kinds = f.kinds; hand = f.hand; fine = held_later j ok (length d) c f.kinds v f.fine }
  deep_later j ok d c (Copied k) (ArrayValue a) f = c (length d) k a (omega arith) f
  deep_later j ok d c (Copied k) (Of p) f = absurd f
  deep_later j ok d c (Copied k) (Link z) f = absurd f
  deep_later j ok d c (Copied k) (Address z) f = absurd f
  deep_later j ok d c (Copied k) (ProcedureValue z y) f = absurd f
  deep_later j ok d c (Copied k) (Actual z p y) f = absurd f
  deep_later j ok d c (Value h) v f = val_later j ok h v f
  deep_later j ok d c (AddressOf k) v f = hand_later j ok (AddressOf k) v f
  deep_later j ok d c (ReferenceAddress k) v f = hand_later j ok (ReferenceAddress k) v f
  deep_later j ok d c ImageAddress v f = hand_later j ok ImageAddress v f
  deep_later j ok d c (LinkTo u) v f = hand_later j ok (LinkTo u) v f
  deep_later j ok d c (Lasting h) v f = hand_later j ok (Lasting h) v f
  deep_later j ok d c Component v f = hand_later j ok Component v f
  deep_later j ok d c (ObjectIn k) v f = hand_later j ok (ObjectIn k) v f
  deep_later j ok d c (NewObject k) v f = hand_later j ok (NewObject k) v f
  deep_later j ok d c (Checked es r) v f = hand_later j ok (Checked es r) v f
  deep_later j ok d c (Whichever b k) v f = hand_later j ok (Whichever b k) v f

  pub hands_later : (j : ℕ) → Apart j → (ks : List Kinds) (vs : List Val) → Copies o o' j (length vs) → HandsFine s o m j ks vs → HandsFine s o' m' j ks vs
  hands_later j ok [] [] c a = a
  hands_later j ok [] (v ∷ vs) c a = absurd a
  hands_later j ok (k ∷ ks) [] c a = absurd a
  hands_later j ok (k ∷ ks) (v ∷ vs) c a = (deep_later j ok vs c k v a.0, hands_later j ok ks vs (λ d x n less f. c d x n (omega (arith, less)) f) a.1)

  module _ (j t : ℕ) (ok : Apart j) where
    read_later : (todo : List DeclNo) (n : ℕ) (key : Key) (h : Holds) → CellIs s m j t todo n key h → CellIs s m' j t todo n key h
    read_later todo n key h (in_instance c) = in_instance (cell_target_later j ok n key h c)
    read_later todo n key h (own_made is same level holds there free) = own_made is same level holds there free
    read_later todo n key h (in_connection {c = c} knows whole is same holds) = in_connection (knows_later j n ok knows) (present_later n c [] (e.apart j n ok knows) whole) is same holds

    block_later : (b k : ℕ) → BlockIn s m j b k → BlockIn s m' j b k
    block_later b k a = record { near = knows_later j b ok a.near; whole = present_later b k [] (e.apart j b ok a.near) a.whole; simulates = a.simulates }

    mutual
      pub term_later : (todo : List DeclNo) (x : Term) (g : Option Kinds) → TermFine s m j t todo x g → TermFine s m' j t todo x g
      term_later todo (Given p) g a = (a.0, a.1, plain_later a.0 p a.2)
      term_later todo (Cell n key) g a = (a.0, a.1, read_later todo n key a.0 a.2)
      term_later todo (One op line x) g a = (a.0, a.1, a.2, term_later todo x _ a.3)
      term_later todo (Two op line x y) g a = (a.0, a.1, a.2, a.3, term_later todo x _ a.4, term_later todo y _ a.5)
      term_later todo (Either c x y) g a = (a.0, a.1, term_later todo c _ a.2, term_later todo x g a.3, term_later todo y g a.4)
      term_later todo (ElementOf line x ts) g a = (a.0, a.1, term_later todo x _ a.2, integers_later todo ts a.3)
      term_later todo (ValueAt x) g a = (a.0, a.1, a.2, a.3, term_later todo x _ a.4)
      term_later todo (PlaceOf n key) g a = (a.0, a.1, cell_target_later j ok n key a.0 a.2)
      term_later todo (ImageOf n) g a = a
      term_later todo (Joined line x y) g a = (a.0, term_later todo x _ a.1, term_later todo y _ a.2)
      term_later todo (CopyOf line x) g a = (a.0, a.1, term_later todo x _ a.2)
      term_later todo (CallOf n k ts line) g a = record {
        around = a.around;
        near = knows_later j n ok a.near;
        whole = present_later n a.around [] (e.apart j n ok a.near) a.whole;
        procedure = a.procedure;
        gives = a.gives;
        actuals = terms_later todo ts _ a.actuals;
      }
      term_later todo (StandardOf name ts line) g a = (a.0, a.1, a.2, a.3, operands_later todo ts a.2 a.4)
      term_later todo (NewOf n k ts line) g a = record {
        around = a.around;
        near = knows_later j n ok a.near;
        whole = present_later n a.around [] (e.apart j n ok a.near) a.whole;
        class = a.class;
        kinds = a.kinds;
        made = a.made;
        gives = a.gives;
        actuals = terms_later todo ts _ a.actuals;
      }
      term_later todo (AttributeOf u key class line x) g a = (a.0, a.1, a.2, a.3, a.4, a.5, term_later todo x _ a.6)
      term_later todo (RemoteCallOf x k ts line) g a = (a.0, a.1, a.2, a.3, a.4, a.5, term_later todo x _ a.6, terms_later todo ts _ a.7)
      term_later todo (QualifiedPlaceOf n key c) g a = (a.0, cell_target_later j ok n key (Refers c) a.1)
      term_later todo (QualifiedElementOf line c x ts) g a = (a.0, term_later todo x _ a.1, integers_later todo ts a.2)
      term_later todo (MemberOf member c x) g a = (a.0, term_later todo x _ a.1)
      term_later todo (QuaOf c line x) g a = (a.0, term_later todo x _ a.1)
      term_later todo (FitsOf c line x) g a = (a.0, term_later todo x _ a.1)
      term_later todo (KeptOf x) g a = (a.0, a.1, term_later todo x _ a.2)
      term_later todo (NotNoneOf line x) g a = (a.0, a.1, a.2, a.3, term_later todo x _ a.4)
      term_later todo (SetOf name ts) g a = (a.0, a.1, a.2, a.3, terms_later todo ts _ a.4)
      term_later todo (ProcessOf name line x) g a = (a.0, a.1, a.2, a.3, term_later todo x _ a.4)
      term_later todo (SimulationOf n name ts line) g a = (a.0, a.1, a.2, a.3, block_later n _ a.4, terms_later todo ts _ a.5)
      term_later todo (OriginOf k token line x) g a = (a.0, a.1, a.2, term_later todo x _ a.3)
      term_later todo (ProcedureOf n k) g a = (a.0, knows_later j n ok a.1, present_later n a.0 [] (e.apart j n ok a.1) a.2, a.3, a.4)
      term_later todo (RemoteProcedureOf x k line) g a = (a.0, a.1, a.2, a.3, a.4, a.5, term_later todo x _ a.6)
      term_later todo (MatchOf x v line) g a = (a.0, a.1, a.2, a.3, term_later todo x _ a.4)
      term_later todo (CheckedOf x leaves home es line) g a = (a.0, a.1, a.2, a.3, a.4, a.5, term_later todo x _ a.6, a.7, stands_later j a.7 ok a.8, a.9)
      term_later todo (TransferOf z line x) g a = (a.0, term_later todo x _ a.1)
      term_later todo (ActualOf n p x) g a = (a.0, a.1, a.2, a.3, stands_later j a.1 ok a.4, a.5)
      term_later todo (NamedOf n key wanted) g a = (a.0, a.1, a.2, a.3, read_later todo n key (ByName a.0) a.4)
      term_later todo NoMeaning g a = absurd a

      pub integers_later : (todo : List DeclNo) (ts : Terms) → IntegersFine s m j t todo ts → IntegersFine s m' j t todo ts
      integers_later todo NoTerm a = a
      integers_later todo (Further x xs) a = (term_later todo x _ a.0, integers_later todo xs a.1)

      operands_later : (todo : List DeclNo) (ts : Terms) (xs : List Kinds) → OperandsFine s m j t todo ts xs → OperandsFine s m' j t todo ts xs
      operands_later todo NoTerm xs a = a
      operands_later todo (Further y ys) xs a = (a.0, a.1, a.2, term_later todo y _ a.3, operands_later todo ys a.1 a.4)

      pub terms_later : (todo : List DeclNo) (ts : Terms) (hs : List (Option Kinds)) → TermsFine s m j t todo ts hs → TermsFine s m' j t todo ts hs
      terms_later todo NoTerm hs a = a
      terms_later todo (Further x xs) hs a = (a.0, a.1, a.2, term_later todo x _ a.3, terms_later todo xs a.1 a.4)

    target_later : (x : Target) (k : Holds) (before behind : List Kinds) → TargetFine s m j t x k before behind → TargetFine s m' j t x k before behind
    target_later (ToCell n key) k before behind a = (cell_target_later j ok n key k a.0, a.1)
    target_later ToAddress k before behind a = a
    target_later (ToText line) k before behind a = a
    target_later (ToTextOf n key line) k before behind a = a
    target_later (ToReference line) k before behind a = a
    target_later (ToNamed c line) k before behind a = a
    target_later (ToPlace x) k before behind a = (a.0, a.1, term_later [] x _ a.2, a.3)
    target_later (ToTextAt x line) k before behind a = a
    target_later (ToReferenceAt x line) k before behind a = (a.0, a.1, a.2, term_later [] x _ a.3)

    targets_later : (ts : List Target) (k : Holds) (before behind : List Kinds) → TargetsFine s m j t ts k before behind → TargetsFine s m' j t ts k before behind
    targets_later [] k before behind a = a
    targets_later (x ∷ xs) k before behind a = (a.0, target_later x k before a.0 a.1, targets_later xs k a.0 behind a.2)

    variable_later : (x : Target) (k : Kind) → VariableFine s m j t x k → VariableFine s m' j t x k
    variable_later (ToCell n key) k a = cell_target_later j ok n key (Simply k) a
    variable_later ToAddress k a = a
    variable_later (ToText line) k a = a
    variable_later (ToTextOf n key line) k a = (cell_target_later j ok n key (Simply k) a.0, a.1)
    variable_later (ToReference line) k a = a
    variable_later (ToNamed c line) k a = a
    variable_later (ToPlace x) k a = (a.0, a.1, term_later [] x _ a.2)
    variable_later (ToTextAt x line) k a = (term_later [] x _ a.0, a.1)
    variable_later (ToReferenceAt x line) k a = (a.0, a.1, term_later [] x _ a.2)

    stored_later : (todo todo' : List DeclNo) (x : Target) (before behind : List Kinds) → StoreOpFine s o m j t todo todo' x before behind → StoreOpFine s o' m' j t todo todo' x before behind
    stored_later todo todo' x before behind (value_stored k next is a none same) = value_stored k next is (target_later x (Simply k) next behind a) none same
    stored_later todo todo' x before behind (array_stored a) = array_stored a

    site_later : (u : ℕ) → Site s m j u → Site s m' j u
    site_later u a = let y = e.there j a.now ok a.lives in record { now = y.now; lives = y.lives; stands = stands_grown s a.now y.now y.grown u a.stands }

    sited_later : (Is Is' : ℕ → Type 0) → ((u : ℕ) → Is u → Is' u) → Sited s m j Is → Sited s m' j Is'
    sited_later Is Is' f a = (a.0, site_later a.0 a.1, f a.0 a.2)

    levels_later : (xs : List Level) → LevelsFine s m j t xs → LevelsFine s m' j t xs
    levels_later [] a = a
    levels_later (x ∷ xs) a = (site_later x.text a.0, a.1, a.2, levels_later xs a.3)

    pub op_later : (op : Op) (todo todo' : List DeclNo) (before behind : List Kinds) → OpFine s o m j t op todo todo' before behind → OpFine s o' m' j t op todo todo' before behind
    op_later (Eval x) todo todo' before behind a = (a.0, term_later todo x a.0 a.1, a.2, a.3)
    op_later (IfOp x y) todo todo' before behind a = (a.0, a.1, term_later todo x _ a.2, term_later todo y _ a.3, a.4, a.5, a.6)
    op_later (StoreOp x) todo todo' before behind a = stored_later todo todo' x before behind a
    op_later (ShareOp ts) todo todo' before behind a = (a.0, a.1, a.2, targets_later ts (Simply a.0) a.1 behind a.3, a.4, a.5)
    op_later (GiveOp v ts) todo todo' before behind a = (a.0, val_later j ok (Simply a.0) v a.1, targets_later ts (Simply a.0) before behind a.2, a.3, a.4)
    op_later (BranchOp x next) todo todo' before behind a = (a.0, a.1, a.2, sited_later _ _ (λ u z. z) a.3, op_later next [] [] behind behind a.4)
    op_later (BackOp op) todo todo' before behind a = op_later op todo todo' before behind a
    op_later (ElementsOp x es y) todo todo' before behind a = (a.0, a.1, a.2, sited_later _ _ (λ u r. (r.0, variable_later x r.0 r.1, r.2, r.3)) a.3)
    op_later (WhileElementOp x f c y) todo todo' before behind a = (a.0, a.1, a.2, sited_later _ _ (λ u r. (r.0, variable_later x r.0 r.1, r.2, r.3, r.4)) a.3)
    op_later (StepTestOp x line f c y) todo todo' before behind a = (a.0, a.1, a.2, sited_later _ _ (λ u r. (variable_later x _ r.0, r.1, r.2, r.3)) a.3)
    op_later (RaiseOp x line f c y) todo todo' before behind a = (a.0, a.1, a.2, sited_later _ _ (λ u r. (variable_later x _ r.0, r.1, r.2, r.3)) a.3)
    op_later (NamedOp n key wanted) todo todo' before behind a = (a.0, a.1, a.2, read_later todo n key (ByName a.0) a.3, a.4, a.5)
    op_later (CloseOp p x) todo todo' before behind a = (a.0, a.1, stands_later j a.1 ok a.2, a.3, a.4, a.5)
    op_later (CheckOp es line) todo todo' before behind a = (a.0, a.1, a.2, stands_later j a.2 ok a.3, a.4, a.5, a.6, a.7)
    op_later (ParameterOp n x line) todo todo' before behind a =
        let p = a.0 in (record { actuals = p.actuals; result = p.result; left = p.left; is = p.is; from = p.from; stands = stands_later j p.from ok p.stands; typed = p.typed; «in» = p.«in»; out = p.out }, a.1)
    op_later (Exec x) todo todo' before behind a = (a.0, a.1, a.2, sited_later _ _ (λ u z. z) a.3)
    op_later (Execs x) todo todo' before behind a = (a.0, a.1, a.2, sited_later _ _ (λ u z. z) a.3)
    op_later (EnterOp k line) todo todo' before behind a = (a.0, a.1, a.2, sited_later _ _ (λ u z. z) a.3)
    op_later (BlockOp b) todo todo' before behind a = (a.0, block_later b a.0 a.1, a.2, a.3)
    op_later (InnerOp xs) todo todo' before behind a = (a.0, a.1, a.2, levels_later xs a.3)
    op_later (ConnectOp k x other) todo todo' before behind a = (a.0, a.1, sited_later _ _ (λ u z. z) a.2)
    op_later (WhenOp arms other) todo todo' before behind a = (a.0, a.1, a.2, sited_later _ _ (λ u z. z) a.3)
    op_later (ChooseOp x y) todo todo' before behind a = (a.0, a.1, a.2, sited_later _ _ (λ u z. z) a.3)
    op_later (TestOp c x) todo todo' before behind a = (a.0, a.1, a.2, sited_later _ _ (λ u z. z) a.3)
    op_later (PrefixedOp k n line) todo todo' before behind a = let p = a.2 in (a.0, a.1, record { around = p.around; site = site_later p.around p.site; stands_in = p.stands_in; block = p.block; «in» = p.«in»; count = p.count })
    op_later _ todo todo' before behind a = a

    module _ (seats : o'.seat ≡ o.seat) where
      serves_later : (Below Below' : Waits → Type 0) → ((v : Waits) → Below v → Below' v) → (wanted : Use) (x : Kinds) → Serves s Below wanted x → Serves s Below' wanted x
      serves_later Below Below' f (ForValue class line) x a = (a.0, a.1, a.2, a.3, f _ a.4)
      serves_later Below Below' f (ForPlace value_too line) x a = (a.0, a.1, a.2, a.3, f _ a.4)
      serves_later Below Below' f (ForParameter number line) x a = record { formal = a.formal; by_value = a.by_value; means = a.means; is = a.is; gives = a.gives; below = f _ a.below }

      last_later : (w : List Item) → Last o w → Last o' w
      last_later w a = (a.0, ap (λ q. q.evaluations) seats ∙ a.1)

      pub work_later : ((o.seat).evaluations ≡ 0 → resumes m' j ≡ resumes m j) → (Outermost Outermost' : Type 0) → (Outermost → Outermost') → (Below Below' : Waits → Type 0) → ((v : Waits) → Below v → Below' v) → (w : List Item) (todo : List DeclNo) (before : List Kinds) → WorkFine s o m Below Outermost j t w todo before → WorkFine s o' m' Below' Outermost' j t w todo before
      work_later same Outermost Outermost' h Below Below' f [] todo before a = a
      work_later same Outermost Outermost' h Below Below' f (Do op ∷ w) todo before a = (a.0, a.1, op_later op todo a.0 before a.1 a.2, work_later same Outermost Outermost' h Below Below' f w a.0 a.1 a.3)
      work_later same Outermost Outermost' h Below Below' f (EndBlock ∷ w) todo before a = (e.nobody j a.0, f _ a.1, last_later w a.2)
      work_later same Outermost Outermost' h Below Below' f (EndProcedure leaves ∷ w) todo before a = (a.0, a.1, a.2, a.3, a.4, a.5, a.6, e.nobody j a.7, f _ a.8, last_later w a.9)
      work_later same Outermost Outermost' h Below Below' f (EndLevel k ∷ w) todo before a = work_later same Outermost Outermost' h Below Below' f w todo before a
      work_later same Outermost Outermost' h Below Below' f (EndObject ∷ w) todo before a = (a.0, a.1, a.2, e.objects j a.3, a.4, subst (λ b. IsRelease b j t a.4) (sym (same (a.7).1)) a.5, f a.4 a.6, last_later w a.7)
      work_later same Outermost Outermost' h Below Below' f (EndPrefixed ∷ w) todo before a = (e.nobody j a.0, f _ a.1, last_later w a.2)
      work_later same Outermost Outermost' h Below Below' f (EndProgram ∷ w) todo before a = (e.nobody j a.0, h a.1, last_later w a.2)
      work_later same Outermost Outermost' h Below Below' f (EndEvaluation wanted ∷ w) todo before a = (a.0, subst (λ q. 0 < q.evaluations) (sym seats) a.1, a.2, a.3, serves_later Below Below' f wanted a.2 a.4)

  pub seated_later : (q : Seat) (j : ℕ) → Apart q.owner → SeatedFor o m q j → SeatedFor o' m' q j
  seated_later q j ok a = record { near = e.nears q.owner j ok a.near; through = e.nears q.owner q.lower ok a.through; lower = e.nears q.lower j (e.near q.owner q.lower ok a.through) a.lower }

-- an activation, which waits for the same, on what is below it then
module _ (s : Source) (o : AllArrays) (m : Instances) (o' : AllArrays) (m' : Instances) (Apart : ℕ → Type 0) (e : Later s o m o' m' Apart) where
  pub act_later : (a : Activation) (on on' : Footing) → on ≡ on' → SeatOf (λ q. Apart q.owner) (seat_on (owner a) on) → ((j : ℕ) → owner a ≡ Some j → resumes m' j ≡ resumes m j) → SeatOf (λ q. Apart a.instance → (d : ℕ) → Copies (at_seat o q) (at_seat o' q) a.instance d) (seat_on (owner a) on) → (v v' : Waits) → v ≡ v' → (Outermost Outermost' : Type 0) → (Outermost → Outermost') → (Below Below' : Waits → Type 0) → ((v : Waits) → Below v → Below' v) → ActFine s o m a on v Below Outermost → ActFine s o' m' a on' v' Below' Outermost'
  unfolding present_later
  act_later a on on' foot apart steady copies v v' same Outermost Outermost' h Below Below' f c =
      let q = c.seat in
      let owned : Apart q.owner = seat_is (λ q. Apart q.owner) (seat_on (owner a) on) q c.seated apart in
      let ok : Apart a.instance = e.near q.owner a.instance owned (c.works).near in
      let y = e.there a.instance (c.here).now ok (c.here).lives in
      let up = later_seat s o m o' m' Apart e q in
      record {
        of_text = c.of_text;
        todo = c.todo;
        here = present_later s o m o' m' Apart e a.instance c.of_text c.todo ok c.here;
        own = (y.grown).text ∙ c.own;
        stands_on = λ j is.
            (let here = owner_is a j is in
            subst (λ z. StandsOn o'.beneath m' j z.under) foot (stands_on_later s o m o' m' Apart e j (c.here).now on.under (subst Apart here ok) (ap (live m) (sym here) ∙ (c.here).lives) (c.stands_on j is)));
        seat = q;
        seated = ap (seat_on (owner a)) (sym foot) ∙ c.seated;
        works = seated_later s o m o' m' Apart e q a.instance owned c.works;
        vals = c.vals;
        shown = subst (λ z. Shown s z a.values c.vals) same c.shown;
        kinds = c.kinds;
        hands = hands_later s (at_seat o q) m (at_seat o' q) m' Apart up a.instance ok c.kinds c.vals (seat_is (λ q. Apart a.instance → (d : ℕ) → Copies (at_seat o q) (at_seat o' q) a.instance d) (seat_on (owner a) on) q c.seated copies ok (length c.vals)) c.hands;
        expected = c.expected;
        expects = subst (λ z. Expected s z c.kinds c.expected) same c.expects;
        goes = work_later s (at_seat o q) m (at_seat o' q) m' Apart up a.instance c.of_text ok refl (λ none. let own = seat_owner (owner a) on q c.seated none in let here = owner_is a q.owner own in ap (resumes m') here ∙ steady q.owner own ∙ ap (resumes m) (sym here)) Outermost Outermost' h Below Below' f a.work c.todo c.expected c.goes;
      }

-- how each instance stands
abbrev pub AllStand : Source → AllArrays → Instances → Type 0
AllStand s o m = (j : ℕ) (x : Standing Activation) → slice_get m.standings j ≡ Some x → StandsFine s o m j x

-- The instances on a chain are others than the one that is given back. What has a seat keeps the copies that it has in hand; and an instance's own
-- waits for the same as a system head, and is a resumed object if it was one.
module _ (s : Source) (o : AllArrays) (m : Instances) (o' : AllArrays) (m' : Instances) (Apart : ℕ → Type 0) (e : Later s o m o' m' Apart) (Keeps : Seat → Type 0) (all : (q : Seat) (j d : ℕ) → Keeps q → Apart j → Copies (at_seat o q) (at_seat o' q) j d) (steady : (j : ℕ) → Keeps (own_seat j) → Steady o m o' m' j) where
  steady_on : (u : Option ℕ) (f : Footing) → SeatOf Keeps (seat_on u f) → (j : ℕ) → u ≡ Some j → Steady o m o' m' j
  steady_on None f k j is = absurd (cc)
  steady_on (Some i) f k j is = subst (Steady o m o' m') (same_some (Some i) i j refl is) (steady i k)

  copies_on : (i : ℕ) (x : Option Seat) → SeatOf Keeps x → SeatOf (λ q. Apart i → (d : ℕ) → Copies (at_seat o q) (at_seat o' q) i d) x
  copies_on i None k = k
  copies_on i (Some q) k = λ ok d. all q i d k ok

  pub chain_later : (floor : Option ℕ) (Ground Ground' : Waits → Type 0) → ((v : Waits) → Ground v → Ground' v) → (Outermost : List Activation → Type 0) (chain : List Activation) → AllSeats (λ q. Apart q.owner) floor chain → AllSeats Keeps floor chain → (v : Waits) → ChainOn s o m floor Ground Outermost chain v → ChainOn s o' m' floor Ground' Outermost chain v
  chain_later floor Ground Ground' grounds Outermost [] apart keeps v c = grounds v c
  chain_later floor Ground Ground' grounds Outermost (a ∷ rest) apart keeps v c =
      let on = footing floor rest in
      let z = steady_on (owner a) on keeps.0 in
      act_later s o m o' m' Apart e a on on refl apart.0 (λ j is. (z j is).1) (copies_on a.instance (seat_on (owner a) on) keeps.0) (awaited o.waiting (owner a) v) (awaited o'.waiting (owner a) v) (sym (awaited_same o.waiting o'.waiting (owner a) v (λ j is. (z j is).0))) (Outermost rest) (Outermost rest) (λ q. q) (λ w. ChainOn s o m floor Ground Outermost rest w) (λ w. ChainOn s o' m' floor Ground' Outermost rest w)
      (λ w b. chain_later floor Ground Ground' grounds Outermost rest apart.1 keeps.1 w b) c

  -- the operating chain
  pub fine_later : (chain : List Activation) → AllSeats (λ q. Apart q.owner) None chain → AllSeats Keeps None chain → (v : Waits) → ChainFine s o m chain v → ChainFine s o' m' chain v
  fine_later chain apart keeps v c = chain_later None (λ v. ⊥) (λ v. ⊥) (λ v a. a) (λ rest. rest ≡ []) chain apart keeps v c

  -- what a system head waits for is noted as before
  pub standing_later : (j : ℕ) (x : Standing Activation) → o'.waiting j ≡ o.waiting j → KeptSeats (λ q. Apart q.owner) j x → KeptSeats Keeps j x → StandsFine s o m j x → StandsFine s o' m' j x
  standing_later j (NoObject None) same apart keeps a = tt
  standing_later j (NoObject (Some chain)) same apart keeps a =
      chain_later (Some j) (λ v. awaited o.waiting (Some j) v ≡ o.waiting j) (λ v. awaited o'.waiting (Some j) v ≡ o'.waiting j) (λ v is. awaited_same o.waiting o'.waiting (Some j) v (λ i at. subst (λ z. o'.waiting z ≡ o.waiting z) (same_some (Some j) j i refl at) same) ∙ is ∙ sym same) (λ rest. ⊥) chain apart keeps (Takes None) a
  standing_later j AttachedObject same apart keeps a = tt
  standing_later j (DetachedObject chain) same apart keeps a = record {
    stays = stays_later s o m o' m' Apart e j a.stays;
    last = a.last;
    fine = chain_later None (λ v. v ≡ Takes None) (λ v. v ≡ Takes None) (λ v is. is) (λ rest. ⊥) chain apart keeps (Takes None) a.fine;
  }
  standing_later j ResumedObject same apart keeps a = stays_later s o m o' m' Apart e j a
  standing_later j TerminatedObject same apart keeps a = tt

  pub kept_later : m'.standings ≡ m.standings → o'.waiting ≡ o.waiting → AllKeptSeats (λ q. Apart q.owner) m → AllKeptSeats Keeps m → AllStand s o m → AllStand s o' m'
  kept_later same waits apart keeps f j x is =
      let was : slice_get m.standings j ≡ Some x = ap (λ z. slice_get z j) (sym same) ∙ is in
      standing_later j x (ap (λ z. z j) waits) (apart j x was) (keeps j x was) (f j x was)

-- ---- a step that gives nothing back

pub seats_map : (P Q : Seat → Type 0) → ((q : Seat) → P q → Q q) → (floor : Option ℕ) (chain : List Activation) → AllSeats P floor chain → AllSeats Q floor chain
seats_map P Q f floor [] a = tt
seats_map P Q f floor (x ∷ rest) a = (by_seat (seat_on (owner x) (footing floor rest)) a.0, seats_map P Q f floor rest a.1)
  where
    by_seat : (u : Option Seat) → SeatOf P u → SeatOf Q u
    by_seat None a = a
    by_seat (Some q) a = f q a

pub all_seats : (P : Seat → Type 0) → ((q : Seat) → P q) → (floor : Option ℕ) (chain : List Activation) → AllSeats P floor chain
all_seats P f floor [] = tt
all_seats P f floor (a ∷ rest) = (by_seat (seat_on (owner a) (footing floor rest)), all_seats P f floor rest)
  where
    by_seat : (u : Option Seat) → SeatOf P u
    by_seat None = tt
    by_seat (Some q) = f q

pub kept_seats_map : (P Q : Seat → Type 0) → ((q : Seat) → P q → Q q) → (j : ℕ) (x : Standing Activation) → KeptSeats P j x → KeptSeats Q j x
kept_seats_map P Q f j (NoObject None) a = tt
kept_seats_map P Q f j (NoObject (Some chain)) a = seats_map P Q f (Some j) chain a
kept_seats_map P Q f j AttachedObject a = tt
kept_seats_map P Q f j (DetachedObject chain) a = seats_map P Q f None chain a
kept_seats_map P Q f j ResumedObject a = tt
kept_seats_map P Q f j TerminatedObject a = tt

-- all instances are apart from none
abbrev pub All : ℕ → Type 0
All j = Unit {0}

abbrev pub AnySeat : Seat → Type 0
AnySeat q = Unit {0}

pub all_apart : (floor : Option ℕ) (chain : List Activation) → AllSeats AnySeat floor chain
all_apart floor chain = all_seats AnySeat (λ q. tt) floor chain

pub standing_apart : (j : ℕ) (x : Standing Activation) → KeptSeats AnySeat j x
standing_apart j (NoObject None) = tt
standing_apart j (NoObject (Some chain)) = all_apart (Some j) chain
standing_apart j AttachedObject = tt
standing_apart j (DetachedObject chain) = all_apart None chain
standing_apart j ResumedObject = tt
standing_apart j TerminatedObject = tt

-- where all stands as it did
pub steady_same : (o : AllArrays) (m : Instances) (o' : AllArrays) (m' : Instances) → m'.standings ≡ m.standings → o'.waiting ≡ o.waiting → (j : ℕ) → Steady o m o' m' j
steady_same o m o' m' same waits j = (ap (λ z. z j) waits, ap (λ z. is_resumed (slice_get z j)) same)

-- where no copy in hand is changed
pub kept_all : (s : Source) (o : AllArrays) (m : Instances) (o' : AllArrays) (m' : Instances) → Later s o m o' m' All → m'.standings ≡ m.standings → o'.waiting ≡ o.waiting → AllCopies o o' → AllStand s o m → AllStand s o' m'
kept_all s o m o' m' e same waits copies f = kept_later s o m o' m' All e AnySeat (λ q j d k ok. copies q j d) (λ j k. steady_same o m o' m' same waits j) same waits (λ j x is. standing_apart j x) (λ j x is. standing_apart j x) f

-- one after the other
pub later_then : (s : Source) (o : AllArrays) (m : Instances) (o' : AllArrays) (m' : Instances) (o'' : AllArrays) (m'' : Instances) → Later s o m o' m' All → Later s o' m' o'' m'' All → Later s o m o'' m'' All
later_then s o m o' m' o'' m'' e f = record {
  arrays = λ j k a ok x. f.arrays j k a tt (e.arrays j k a tt x);
  elements = λ j k a n ok x. f.elements j k a n tt (e.elements j k a n tt x);
  kept = λ h a x. f.kept h a (e.kept h a x);
  there = λ j x ok lives. (let y = e.there j x tt lives in let z = f.there j y.now tt y.lives in record { now = z.now; lives = z.lives; grown = grown_then x y.now z.now y.grown z.grown });
  stays = λ j a. tt;
  apart = λ j k a b. tt;
  near = λ j k a b. tt;
  nears = λ j k ok x. f.nears j k tt (e.nears j k tt x);
  beneath = λ j x is. f.beneath j x (e.beneath j x is);
  objects = λ j a. f.objects j (e.objects j a);
  nobody = λ j a. f.nobody j (e.nobody j a);
}
  where
    grown_then : (x y z : Instance (List Held)) → Grown x y → Grown y z → Grown x z
    grown_then x y z a b = record {
      text = b.text ∙ a.text;
      level = b.level ∙ a.level;
      encloser = b.encloser ∙ a.encloser;
      passing = b.passing ∙ a.passing;
      kept = λ k. b.kept (a.kept k);
      keys = λ key k. b.keys key (a.keys key k);
      holds = λ key h. a.holds key (b.holds key h);
    }

pub later_none : (s : Source) (o : AllArrays) (m : Instances) → Later s o m o m All
later_none s o m = record {
  arrays = λ j k a ok x. x;
  elements = λ j k a n ok x. x;
  kept = λ h a x. x;
  there = λ j x ok lives. record { now = x; lives = lives; grown = as_it_was x };
  stays = λ j a. tt;
  apart = λ j k a b. tt;
  near = λ j k a b. tt;
  nears = λ j k ok x. x;
  beneath = λ j x is. is;
  objects = λ j a. a;
  nobody = λ j a. a;
}

-- ---- what lives has a number

unless_there : (x : Option (Instance (List Held))) (it : Instance (List Held)) → unless_given x ≡ Some it → (y : Instance (List Held)) × (x ≡ Some y)
unless_there None it e = absurd (cc)
unless_there (Some y) it e = (y, refl)

pub live_less : (m : Instances) (j : ℕ) (x : Instance (List Held)) → live m j ≡ Some x → j < length m.instances
live_less m j x e = let y = unless_there (slice_get m.instances j) x e in there_is m.instances j y.0 y.1

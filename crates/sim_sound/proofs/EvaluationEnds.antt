-- The evaluation of an actual parameter by name ends: what asked for it goes on with what it gets.
use Rattle.std.proofs.Common.{Bool, ◌≡◌, ◌<◌, ℕ, true, false, List, [], ◌∷◌, length, Option, Some, None, inl, inr, ⊎_elim, refl, sym, ap, ◌∙◌, subst}
use Rattle.sim_base.specs.declared.limits.Limits.{Limits}
use Rattle.sim_base.specs.declared.numbering.DeclNo.{DeclNo}
use Rattle.sim_scope.specs.declared.types.FormalKind.{FormalKind}
use Rattle.sim_scope.specs.declared.types.FormalKind.TheVariants as shape
use Rattle.sim_scope.specs.declared.types.Mode.{Mode}
use Rattle.sim_scope.specs.declared.types.Mode.TheVariants as mode
use Rattle.sim_scope.specs.declared.types.SimType.{SimType}
use Rattle.sim_scope.specs.declared.types.SimType.TheVariants as type
use Rattle.sim_scope.specs.Source.{Source}
use Rattle.sim_values.specs.declared.kind.Kind.{Kind}
use Rattle.sim_values.specs.declared.kind.Kind.TheVariants as kind
use Rattle.sim_values.specs.Plain.{Character, Integer, MainOf, Nothing, Object, Plain, Text, Truth, kind_of}
use Rattle.sim_values.specs.Texts.{copy}
use Rattle.sim_code.specs.Arrays.{added, copying_array}
use Rattle.sim_code.specs.Events.{having, making_text, qualifying, text_val}
use Rattle.sim_code.specs.Formals.{copying_value}
use Rattle.sim_code.specs.Instances.{CellPlace, ElementPlace, ImagePlace}
use Rattle.sim_code.specs.Outcome.{ArrayOf as OneArray, Run, World}
use Rattle.sim_meaning.specs.Attributes.{parameter_qualification}
use Rattle.sim_meaning.specs.Checks.{copied_as, copied_for}
use Rattle.sim_meaning.specs.Entries.{is_array_by_value}
use Rattle.sim_meaning.specs.Levels.{qualification, stands_in}
use Rattle.sim_meaning.specs.Meaning.{admitted, do_item, evaluated, formal_in_hand, is_by_name, passing, value_given}
use Rattle.sim_meaning.specs.Pending.{Activation, Actual, Address, ArrayValue, Configuration, EndEvaluation, ForParameter, ForPlace, ForValue, Instances, Item, Key, Link, Of, ProcedureValue, Use, Val, array_in, plain}
use Rattle.sim_meaning.specs.Steps.{go}
use Rattle.sim_meaning.specs.Texts.{kind_of_type}
use Rattle.sim_sound.specs.Held.{ArrayOf, ByName, Holds, Procedure, Refers, Simply, actual_means, formal_holds, held_by, reference_to}
use Rattle.sim_sound.specs.Typed.{Typed}
use Rattle.sim_sound.proofs.ArrayEvents.{NewArray, copied_array, copied_fine}
use Rattle.sim_sound.proofs.Cells.{val_up}
use Rattle.sim_sound.proofs.Evals.{IsFine, Work, goes_on}
use Rattle.sim_sound.proofs.Evaluations.{given_near, goes_on_with, no_owner}
use Rattle.sim_sound.proofs.Fitting.{plain_val}
use Rattle.sim_sound.proofs.Heads.{headed_without}
use Rattle.sim_sound.proofs.Later.{All, live_less, near_seat, seated_later}
use Rattle.sim_sound.proofs.Lifts.{Goes, any_popped, had, making_goes, ran}
use Rattle.sim_sound.proofs.Lists.{same_some}
use Rattle.sim_sound.proofs.Moves.{later_there, operates_first, placed_without}
use Rattle.sim_sound.proofs.Operating.{store_there, work_there}
use Rattle.sim_sound.proofs.Operators.{array_goes}
use Rattle.sim_sound.proofs.References.{held_reference_goes}
use Rattle.sim_sound.proofs.Running.{Begun, ChainFine, Headed, Operates, Placed, Serves, TakesFor, WorkFine, idle}
use Rattle.sim_sound.proofs.Sound.{Comes, Gets, Gives, GivesKind}
use Rattle.sim_sound.proofs.Uses.{kind_given, use_goes}
use Rattle.sim_sound.proofs.Values.{AddressOf, AllArrays, ArrayFine, CellLies, Copied, DeepFine, ElementFine, ForFormal, HandFine, HandsFine, HeldDeep, Hidden, Kinds, Marks, Near, Passes, PlainFine, ReferenceAddress, Seat, ValFine, Value, Whichever, at_seat, hand_of, in_hand, see}

-- ---- what it gets, as the activation has it

module _ (s : Source) (o : AllArrays) (q : Seat) (m : Instances) (j : ℕ) where
  array_seat : (h : Holds) (a : ℕ) → ArrayFine o m j h a → ArrayFine (at_seat o q) m j h a
  array_seat h a x = record { it = x.it; lives = x.lives; known = x.known; owned = ⊎_elim (λ k. inl k) (λ w. inr (near_seat o q m j (x.it).owner w)) x.owned; count = x.count }

  val_seat : (h : Holds) (v : Val) → ValFine s o m j h v → ValFine s (at_seat o q) m j h v
  val_seat (Simply k) (Of p) a = a
  val_seat (Refers c) (Of p) a = a
  val_seat (ArrayOf h) (ArrayValue n) a = array_seat h n a
  val_seat (Procedure r) (ProcedureValue k e) a = record { around = a.around; near = near_seat o q m j e a.near; whole = a.whole; procedure = a.procedure; gives = a.gives }
  val_seat (ByName h) (Actual home p e) a = record { near = near_seat o q m j home a.near; from = a.from; stands = a.stands; typed = a.typed }
  val_seat (Simply k) _ a = absurd a
  val_seat (Refers c) _ a = absurd a
  val_seat (ArrayOf h) _ a = absurd a
  val_seat (Procedure r) _ a = absurd a
  val_seat (ByName h) _ a = absurd a

  element_seat : (h : Holds) (a n : ℕ) → ElementFine o m j h a n → ElementFine (at_seat o q) m j h a n
  element_seat h a n f =
      let x = f.array in
      record { array = record { it = x.it; lives = x.lives; known = x.known; owned = ⊎_elim (λ k. inl k) (λ w. inr (near_seat o q m j (x.it).owner w)) x.owned; count = x.count }; there = f.there }

  cell_seat : (e : ℕ) (key : Key) (h : Holds) → CellLies s o m j e key h → CellLies s (at_seat o q) m j e key h
  cell_seat e key h c = record { around = c.around; todo = c.todo; near = near_seat o q m j e c.near; here = c.here; ready = c.ready; holds = c.holds; there = c.there }

  place_seat : (value_too : Bool) (k : Kind) (v : Val) → HandFine s o m j (Whichever value_too k) v → HandFine s (at_seat o q) m j (Whichever value_too k) v
  place_seat value_too k (Address (ElementPlace a n None)) f = (f.0, element_seat (Simply k) a n f.1)
  place_seat value_too k (Address (CellPlace e key None)) f = (f.0, cell_seat e key (Simply k) f.1)
  place_seat value_too k (Address (ElementPlace a n (Some c))) f = (f.0, element_seat (Refers c) a n f.1)
  place_seat value_too k (Address (CellPlace e key (Some c))) f = (f.0, cell_seat e key (Refers c) f.1)
  place_seat value_too k (Address (ImagePlace n)) f = absurd f
  place_seat true k (Of p) f = f
  place_seat false k (Of p) f = absurd f
  place_seat value_too k _ f = absurd f

  -- a use gets a value, or one of whichever kind
  abbrev IsGot : Kinds → Type 0
  IsGot (Value h) = Unit {0}
  IsGot (Whichever value_too k) = Unit {0}
  IsGot _ = ⊥

  got_seat : (y : Kinds) (d : List Val) (v : Val) → IsGot y → HandFine s o m j y v → DeepFine s (at_seat o q) m j d y v
  got_seat (Value h) d v is f = val_seat h v f
  got_seat (Whichever value_too k) d v is f = place_seat value_too k v f
  got_seat _ d v is f = absurd is

  comes_got : (h : Holds) (y : Kinds) → Comes s h (Some y) → IsGot y
  comes_got h y a = subst IsGot (let same : Value a.0 ≡ y = let e = a.2 in cc in same) tt

  gets_got : (h : Holds) (wanted : Use) (y : Kinds) → Gets s h wanted y → IsGot y
  gets_got (Simply k) (ForValue None line) y a = comes_got (Simply k) y a
  gets_got (Simply k) (ForValue (Some c) line) y a = comes_got (Refers c) y a.1
  gets_got (Simply k) (ForPlace value_too line) y a = subst IsGot (sym a) tt
  gets_got (Simply k) (ForParameter number line) y a = absurd a
  gets_got (ArrayOf h) (ForValue None line) y a = subst IsGot (sym a) tt
  gets_got (ArrayOf h) (ForValue (Some c) line) y a = absurd a
  gets_got (ArrayOf h) (ForPlace value_too line) y a = absurd a
  gets_got (ArrayOf h) (ForParameter number line) y a = absurd a
  gets_got (Procedure r) (ForValue None line) y a = comes_got (Procedure r) y a
  gets_got (Procedure r) (ForValue (Some c) line) y a = absurd a
  gets_got (Procedure r) (ForPlace value_too line) y a = absurd a
  gets_got (Procedure r) (ForParameter number line) y a = absurd a
  gets_got (Refers c) wanted y a = absurd a
  gets_got (ByName h) wanted y a = absurd a

-- what was given is no copy
kind_hand : (s : Source) (o : AllArrays) (m : Instances) (j : ℕ) (d : List Val) (k : Kind) (x : Kinds) (v : Val) → GivesKind k x → DeepFine s o m j d x v → HandFine s o m j x v
kind_hand s o m j d k (Value h) v is f = f
kind_hand s o m j d k (AddressOf h) v is f = f
kind_hand s o m j d k (ReferenceAddress c) v is f = f
kind_hand s o m j d k (Whichever value_too k') v is f = f
kind_hand s o m j d k _ v is f = absurd is

pub given_hand : (s : Source) (o : AllArrays) (m : Instances) (j : ℕ) (d : List Val) (h : Holds) (x : Kinds) (v : Val) → Gives h x → DeepFine s o m j d x v → HandFine s o m j x v
given_hand s o m j d (Simply k) x v is f = kind_hand s o m j d k x v is f
given_hand s o m j d (ArrayOf h) x v is f = subst (λ z. HandFine s o m j z v) (sym is) (subst (λ z. DeepFine s o m j d z v) is f)
given_hand s o m j d (Procedure r) x v is f = subst (λ z. HandFine s o m j z v) (sym is) (subst (λ z. DeepFine s o m j d z v) is f)
given_hand s o m j d (Refers c) x v is f = absurd is
given_hand s o m j d (ByName h) x v is f = absurd is

-- ---- what is passed for a formal parameter

-- what is in hand for one that is no name
plain_hand : (s : Source) (q : Mode) → is_by_name q ≡ false → (ty : SimType) → in_hand (is_array_by_value q shape.Simple) (formal_holds s q shape.Simple (Some ty)) ≡ Some (Value (held_by s ty))
plain_hand s mode.ByValue is ty = refl
plain_hand s mode.ByReference is ty = refl
plain_hand s mode.ByName is ty = absurd (cc)

procedure_hand : (s : Source) (q : Mode) → is_by_name q ≡ false → (ty : Option SimType) → in_hand (is_array_by_value q shape.Procedure) (formal_holds s q shape.Procedure ty) ≡ Some (Value (Procedure ty))
procedure_hand s mode.ByValue is ty = refl
procedure_hand s mode.ByReference is ty = refl
procedure_hand s mode.ByName is ty = absurd (cc)

module _ (s : Source) (ok : Typed s) (l : Limits) (o : World) (g : Marks) (long : length g.sights ≡ length o.arrays) (m : Instances) (i t : ℕ) (a : Activation) (rest : List Activation) (top : Operates g.beneath g.seat m i (a ∷ rest)) (some : 0 < (g.seat).evaluations) (todo : List DeclNo) (b : Begun s (see g o) m i t todo) (n line : ℕ) (x : Kinds) (c : TakesFor s (λ v. ChainFine s (see g o) m (a ∷ rest) v) n x) where
  abbrev below : ChainFine s (see g o) m (a ∷ rest) (Passes n c.formal)
  below = c.below

  -- the activation below, where it operates
  abbrev there : Marks
  there = record g { seat = below.seat }

  placed : Placed m (a ∷ rest)
  placed = placed_without m (idle g.seat i) (a ∷ rest) (no_owner s o g long m i t a rest top some todo b) top.placed

  headed : Headed m (a ∷ rest)
  headed = headed_without m (idle g.seat i) (a ∷ rest) (no_owner s o g long m i t a rest top some todo b) top.headed

  operates : Operates there.beneath there.seat m a.instance rest
  operates = operates_first g.beneath below.seat m a rest (live_less m a.instance (below.here).now (below.here).lives) below.stands_on below.seated placed headed

  begun : Begun s (see there o) m a.instance below.of_text below.todo
  begun = record { store = store_there s (see g o) below.seat m b.store; here = below.here; own = below.own; works = seated_later s (see g o) m (see there o) m All (later_there s (see g o) below.seat m) below.seat a.instance tt below.works }

  work : Work s o there long m a.instance below.of_text rest operates a.work below.todo (ForFormal n ∷ below.kinds)
  work = work_there s (see g o) below.seat m rest a.instance below.of_text a.work below.todo (ForFormal n ∷ below.kinds) (subst (λ z. WorkFine s (see there o) m (λ v. ChainFine s (see g o) m rest v) (rest ≡ []) a.instance below.of_text a.work below.todo z) (sym below.expects) below.goes)

  found : formal_in_hand s n a.values ≡ Some c.formal
  found = ap (formal_in_hand s n) (below.shown).0 ∙ (below.shown).1

  abbrev next : Val → World → Run Configuration
  next v p = go p m a.instance a.work (v ∷ a.values) rest

  -- it goes on with a value that is held as the formal parameter asks for it
  passes : (k : Kinds) (v : Val) → hand_of s c.formal ≡ Some k → HeldDeep s (see there o) m a.instance (length below.vals) k v → IsFine s o (record { chain = record { instance = a.instance; work = a.work; values = v ∷ a.values } ∷ rest; memory = m })
  passes k v hand fine =
      subst (λ z. IsFine s o (record { chain = record { instance = a.instance; work = a.work; values = v ∷ z } ∷ rest; memory = m })) (sym (below.shown).0)
      (goes_on s o there long m a.instance below.of_text rest operates a.work (v ∷ below.vals) below.todo (ForFormal n ∷ below.kinds) begun (record { formal = c.formal; is = (below.shown).1; kinds = k; hand = hand; fine = fine }, below.hands) work)

  near : Near (see g o) m a.instance i
  near = given_near s o g long m i t a rest top some todo b

  -- ---- of a value

  text_passed : (p : Plain) → hand_of s c.formal ≡ Some (Value (Simply kind.Text)) → kind_of p ≡ kind.Text → Goes (IsFine s) (having (plain (Of p)) o (λ p. having (text_val p) o (λ t. making_text l line (copy o.store.frames t) o (λ t p. next (Of (Text t)) p))))
  text_passed (Text t) hand is =
      had (IsFine s) (Some (Text t)) (Text t) o (λ p. having (text_val p) o (λ t. making_text l line (copy o.store.frames t) o (λ t p. next (Of (Text t)) p))) refl
      (had (IsFine s) (Some t) t o (λ t. making_text l line (copy o.store.frames t) o (λ t p. next (Of (Text t)) p)) refl
      (making_goes (IsFine s) s (see there o) m a.instance l line (copy o.store.frames t) o (λ t p. next (Of (Text t)) p) (λ t' w' z. passes (Value (Simply kind.Text)) (Of (Text z)) hand (refl, tt))))
  text_passed Nothing hand is = absurd (cc)
  text_passed (Integer z) hand is = absurd (cc)
  text_passed (Truth z) hand is = absurd (cc)
  text_passed (Character z) hand is = absurd (cc)
  text_passed (Object z) hand is = absurd (cc)
  text_passed (MainOf z) hand is = absurd (cc)

  value_passed : (ty : SimType) (p : Plain) → hand_of s c.formal ≡ Some (Value (held_by s ty)) → PlainFine s m (held_by s ty) p → IsFine s o (record { chain = record { instance = a.instance; work = a.work; values = Of p ∷ a.values } ∷ rest; memory = m })
  value_passed ty p hand fine = passes (Value (held_by s ty)) (Of p) hand (plain_val s (see there o) m a.instance (held_by s ty) p fine)

  plain_passed : (q : Mode) (ty : SimType) (p : Plain) → hand_of s c.formal ≡ Some (Value (held_by s ty)) → PlainFine s m (held_by s ty) p → Goes (IsFine s) (copying_value Of plain ArrayValue array_in l line a.instance (copied_as q shape.Simple (Some ty)) (Of p) o next)
  unfolding copying_value
  plain_passed mode.ByValue type.Text p hand fine = text_passed p hand fine.0
  plain_passed mode.ByValue type.Integer p hand fine = value_passed type.Integer p hand fine
  plain_passed mode.ByValue type.Boolean p hand fine = value_passed type.Boolean p hand fine
  plain_passed mode.ByValue type.Character p hand fine = value_passed type.Character p hand fine
  plain_passed mode.ByValue type.NoneType p hand fine = value_passed type.NoneType p hand fine
  plain_passed mode.ByValue (type.Ref d) p hand fine = value_passed (type.Ref d) p hand fine
  plain_passed mode.ByReference ty p hand fine = value_passed ty p hand fine
  plain_passed mode.ByName ty p hand fine = value_passed ty p hand fine

  unqualified : (ty : SimType) → qualification s (Some ty) ≡ None → held_by s ty ≡ Simply (kind_of_type ty)
  unqualified type.Integer is = refl
  unqualified type.Boolean is = refl
  unqualified type.Character is = refl
  unqualified type.Text is = refl
  unqualified type.NoneType is = refl
  unqualified (type.Ref d) is = ap reference_to is

  qualified_held : (ty : SimType) (k : ℕ) → qualification s (Some ty) ≡ Some k → (held_by s ty ≡ Refers k) × (kind_of_type ty ≡ kind.Reference)
  unfolding qualification
  qualified_held type.Integer k is = absurd (cc)
  qualified_held type.Boolean k is = absurd (cc)
  qualified_held type.Character k is = absurd (cc)
  qualified_held type.Text k is = absurd (cc)
  qualified_held type.NoneType k is = absurd (cc)
  qualified_held (type.Ref d) k is = (ap reference_to is, refl)

  type_admitted : (ty : SimType) (class : Option ℕ) → qualification s (Some ty) ≡ class → (p : Plain) → PlainFine s m (Simply (kind_of_type ty)) p → (r : Run Configuration) → (PlainFine s m (held_by s ty) p → Goes (IsFine s) r) → Goes (IsFine s) (admitted s m class line (Of p) o r)
  type_admitted ty None is p fine r go = go (subst (λ z. PlainFine s m z p) (sym (unqualified ty is)) fine)
  type_admitted ty (Some k) is p fine r go =
      let q = qualified_held ty k is in
      had (IsFine s) (plain (Of p)) p o (λ q. qualifying line (stands_in s m k) q o r) refl
      (held_reference_goes (IsFine s) s m ok k line p o r (subst (λ z. PlainFine s m (Simply z) p) q.1 fine) (λ in_class. go (subst (λ z. PlainFine s m z p) (sym q.0) in_class)))

  -- ---- of an array or a procedure

  array_there : (h : Holds) (y : ℕ) → ValFine s (see g o) m i (ArrayOf h) (ArrayValue y) → ValFine s (see there o) m a.instance (ArrayOf h) (ArrayValue y)
  array_there h y f = val_seat s (see g o) below.seat m a.instance (ArrayOf h) (ArrayValue y) (val_up s (see g o) m a.instance i near (ArrayOf h) (ArrayValue y) f)

  copy_passed : (h : Holds) → hand_of s c.formal ≡ Some (Copied h) → (t' w' : ℕ) (y : OneArray) → NewArray s m a.instance h y → IsFine s (added (ran o t' w') y) (record { chain = record { instance = a.instance; work = a.work; values = ArrayValue (length o.arrays) ∷ a.values } ∷ rest; memory = m })
  copy_passed h hand t' w' y new =
      subst (λ z. IsFine s (added (ran o t' w') y) (record { chain = record { instance = a.instance; work = a.work; values = ArrayValue (length o.arrays) ∷ z } ∷ rest; memory = m })) (sym (below.shown).0)
      (array_goes s ok l o there long m a.instance below.of_text rest operates a.work below.vals below.todo below.todo below.kinds (ForFormal n ∷ below.kinds) begun below.hands work (Hidden h there.seat (length below.vals)) (ForFormal n) below.vals below.kinds below.hands t' w' y new
      (record { formal = c.formal; is = (below.shown).1; kinds = Copied h; hand = hand; fine = copied_fine s (see there o) m a.instance (length below.vals) h y long new }) work)

  array_passed : (q : Mode) → is_by_name q ≡ false → (ty : SimType) (v : Val) → ((k : Kinds) → in_hand (is_array_by_value q shape.Array) (formal_holds s q shape.Array (Some ty)) ≡ Some k → hand_of s c.formal ≡ Some k) → ValFine s (see g o) m i (ArrayOf (held_by s ty)) v → Goes (IsFine s) (having (value_given o m v) o (λ v. copying_value Of plain ArrayValue array_in l line a.instance (copied_as q shape.Array (Some ty)) v o next))
  unfolding copying_value
  array_passed mode.ByValue is ty (ArrayValue y) hand f =
      had (IsFine s) (Some (ArrayValue y)) (ArrayValue y) o (λ v. having (array_in v) o (λ a'. copying_array l line a.instance a' o (λ c p. next (ArrayValue c) p))) refl
      (had (IsFine s) (Some y) y o (λ a'. copying_array l line a.instance a' o (λ c p. next (ArrayValue c) p)) refl
      (copied_array (IsFine s) l line a.instance (held_by s ty) y o there (λ c p. next (ArrayValue c) p) s m begun.store (array_there (held_by s ty) y f) (λ t' w' z new. copy_passed (held_by s ty) (hand (Copied (held_by s ty)) refl) t' w' z new)))
  array_passed mode.ByReference is ty (ArrayValue y) hand f = had (IsFine s) (Some (ArrayValue y)) (ArrayValue y) o (λ v. next v o) refl (passes (Value (ArrayOf (held_by s ty))) (ArrayValue y) (hand (Value (ArrayOf (held_by s ty))) refl) (array_there (held_by s ty) y f))
  array_passed mode.ByName is ty v hand f = absurd (cc)
  array_passed q is ty (Of z) hand f = absurd f
  array_passed q is ty (Link z) hand f = absurd f
  array_passed q is ty (Address z) hand f = absurd f
  array_passed q is ty (ProcedureValue z y) hand f = absurd f
  array_passed q is ty (Actual z p y) hand f = absurd f

  procedure_passed : (q : Mode) → is_by_name q ≡ false → (ty : Option SimType) (v : Val) → hand_of s c.formal ≡ Some (Value (Procedure ty)) → ValFine s (see g o) m i (Procedure ty) v → Goes (IsFine s) (having (value_given o m v) o (λ v. copying_value Of plain ArrayValue array_in l line a.instance (copied_as q shape.Procedure ty) v o next))
  unfolding copying_value
  procedure_passed mode.ByValue is ty (ProcedureValue k e) hand f = had (IsFine s) (Some (ProcedureValue k e)) (ProcedureValue k e) o (λ v. next v o) refl (passes (Value (Procedure ty)) (ProcedureValue k e) hand (val_seat s (see g o) below.seat m a.instance (Procedure ty) (ProcedureValue k e) (val_up s (see g o) m a.instance i near (Procedure ty) (ProcedureValue k e) f)))
  procedure_passed mode.ByReference is ty (ProcedureValue k e) hand f = had (IsFine s) (Some (ProcedureValue k e)) (ProcedureValue k e) o (λ v. next v o) refl (passes (Value (Procedure ty)) (ProcedureValue k e) hand (val_seat s (see g o) below.seat m a.instance (Procedure ty) (ProcedureValue k e) (val_up s (see g o) m a.instance i near (Procedure ty) (ProcedureValue k e) f)))
  procedure_passed mode.ByName is ty v hand f = absurd (cc)
  procedure_passed q is ty (Of z) hand f = absurd f
  procedure_passed q is ty (Link z) hand f = absurd f
  procedure_passed q is ty (Address z) hand f = absurd f
  procedure_passed q is ty (ArrayValue z) hand f = absurd f
  procedure_passed q is ty (Actual z p y) hand f = absurd f

  -- ---- of either

  by_kind : (q : Mode) (k : FormalKind) (ty : Option SimType) (v : Val) → is_by_name q ≡ false → (means : Holds) → actual_means s k ty ≡ Some means → Gives means x → ((y : Kinds) → in_hand (is_array_by_value q k) (formal_holds s q k ty) ≡ Some y → hand_of s c.formal ≡ Some y) → HandFine s (see g o) m i x v
      → Goes (IsFine s) (having (value_given o m v) o (λ v. admitted s m (parameter_qualification s k ty) line v o (copying_value Of plain ArrayValue array_in l line a.instance (copied_as q k ty) v o next)))
  by_kind q shape.Simple (Some ty) v is means of gives hand f =
      let same : means ≡ Simply (kind_of_type ty) = same_some (Some means) means (Simply (kind_of_type ty)) refl (sym of) in
      let w = kind_given s ok o g m b.store i (kind_of_type ty) x v (subst (λ z. Gives z x) same gives) f in
      had (IsFine s) (value_given o m v) (Of w.0) o (λ v. admitted s m (qualification s (Some ty)) line v o (copying_value Of plain ArrayValue array_in l line a.instance (copied_as q shape.Simple (Some ty)) v o next)) w.1
      (type_admitted ty (qualification s (Some ty)) refl w.0 w.2 (copying_value Of plain ArrayValue array_in l line a.instance (copied_as q shape.Simple (Some ty)) (Of w.0) o next) (λ fine. plain_passed q ty w.0 (hand (Value (held_by s ty)) (plain_hand s q is ty)) fine))
  by_kind q shape.Array (Some ty) v is means of gives hand f =
      let same : means ≡ ArrayOf (held_by s ty) = same_some (Some means) means (ArrayOf (held_by s ty)) refl (sym of) in
      let kinds : x ≡ Value (ArrayOf (held_by s ty)) = subst (λ z. Gives z x) same gives in
      array_passed q is ty v hand (subst (λ z. HandFine s (see g o) m i z v) kinds f)
  by_kind q shape.Procedure ty v is means of gives hand f =
      let same : means ≡ Procedure ty = same_some (Some means) means (Procedure ty) refl (sym of) in
      let kinds : x ≡ Value (Procedure ty) = subst (λ z. Gives z x) same gives in
      procedure_passed q is ty v (hand (Value (Procedure ty)) (procedure_hand s q is ty)) (subst (λ z. HandFine s (see g o) m i z v) kinds f)
  by_kind q shape.Simple None v is means of gives hand f = absurd (cc)
  by_kind q shape.Array None v is means of gives hand f = absurd (cc)

  pub passed_on : (v : Val) → HandFine s (see g o) m i x v → Goes (IsFine s) (evaluated s l o m (a ∷ rest) (ForParameter n line) v)
  unfolding copied_for
  passed_on v f =
      had (IsFine s) (formal_in_hand s n a.values) c.formal o (λ f. having (value_given o m v) o (λ v. passing s l m a.instance f line v o next)) found
      (by_kind (c.formal).mode (c.formal).kind (c.formal).ty v c.by_value c.means c.is c.gives (λ y e. e) f)

-- ---- the end

module _ (s : Source) (ok : Typed s) (l : Limits) (o : World) (g : Marks) (long : length g.sights ≡ length o.arrays) (m : Instances) (i t : ℕ) where
  ends_on : (rest : List Activation) (top : Operates g.beneath g.seat m i rest) (todo : List DeclNo) (b : Begun s (see g o) m i t todo) (x : Kinds) (wanted : Use) (v : Val) → DeepFine s (see g o) m i [] x v → 0 < (g.seat).evaluations → Serves s (λ v. ChainFine s (see g o) m rest v) wanted x → Goes (IsFine s) (evaluated s l o m rest wanted v)
  ends_on [] top todo b x (ForValue class line) v deep some c = absurd c.4
  ends_on [] top todo b x (ForPlace value_too line) v deep some c = absurd c.4
  ends_on [] top todo b x (ForParameter n line) v deep some c = absurd c.below
  ends_on (a ∷ rest) top todo b x (ForValue class line) v deep some c =
      use_goes s ok o g m b.store i (IsFine s) a.instance (given_near s o g long m i t a rest top some todo b) (λ v. go o m a.instance a.work (v ∷ a.values) rest) c.0 v x (ForValue class line) c.2 c.1 c.3 (given_hand s (see g o) m i [] c.0 x v c.1 deep) (λ v hand.
      goes_on_with s o g long m i t a rest top some todo b c.2 c.4 v (λ d. got_seat s (see g o) (c.4).seat m a.instance c.2 d v (gets_got s (see g o) (c.4).seat m a.instance c.0 (ForValue class line) c.2 c.3) hand))
  ends_on (a ∷ rest) top todo b x (ForPlace value_too line) v deep some c =
      use_goes s ok o g m b.store i (IsFine s) a.instance (given_near s o g long m i t a rest top some todo b) (λ v. go o m a.instance a.work (v ∷ a.values) rest) c.0 v x (ForPlace value_too line) c.2 c.1 c.3 (given_hand s (see g o) m i [] c.0 x v c.1 deep) (λ v hand.
      goes_on_with s o g long m i t a rest top some todo b c.2 c.4 v (λ d. got_seat s (see g o) (c.4).seat m a.instance c.2 d v (gets_got s (see g o) (c.4).seat m a.instance c.0 (ForPlace value_too line) c.2 c.3) hand))
  ends_on (a ∷ rest) top todo b x (ForParameter n line) v deep some c = passed_on s ok l o g long m i t a rest top some todo b n line x c v (given_hand s (see g o) m i [] c.means x v c.gives deep)

  pub evaluation_ends : (rest : List Activation) (top : Operates g.beneath g.seat m i rest) (w : List Item) (vals : List Val) (todo : List DeclNo) (ks : List Kinds) → Begun s (see g o) m i t todo → HandsFine s (see g o) m i ks vals → (wanted : Use) → Work s o g long m i t rest top (EndEvaluation wanted ∷ w) todo ks → Goes (IsFine s) (do_item s l o m i w vals rest (EndEvaluation wanted))
  evaluation_ends rest top w vals todo ks b h wanted a =
      any_popped (IsFine s) s (see g o) m i a.2 [] vals o (λ v vs. evaluated s l o m rest wanted v) (subst (λ z. HandsFine s (see g o) m i z vals) a.3 h) (λ v vs is deep more.
      ends_on rest top todo b a.2 wanted v (subst (λ z. DeepFine s (see g o) m i z a.2 v) (none_left vs more) deep) a.1 a.4)
    where
      none_left : (vs : List Val) → HandsFine s (see g o) m i [] vs → vs ≡ []
      none_left [] more = refl
      none_left (v ∷ vs) more = absurd more

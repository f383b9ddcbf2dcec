-- The arrays that go over to the instance of a procedure or a class: of a procedure those that are copies, of a class all.
use Rattle.std.proofs.Common.{◌≡◌, ℕ, suc, ◌<◌, Bool, true, false, List, [], ◌∷◌, length, Option, Some, None, inl, refl, sym, ap, ◌∙◌, subst, arith}
use Rattle.std.specs.Prelude.{◌||◌, if◌then◌else◌, slice_get, slice_set}
use Rattle.std.specs.List.{list_any}
use Rattle.sim_base.specs.declared.numbering.DeclNo.{DeclNo}
use Rattle.sim_scope.specs.declared.types.Formal.{Formal}
use Rattle.sim_scope.specs.declared.types.FormalKind.{FormalKind}
use Rattle.sim_scope.specs.declared.types.FormalKind.TheVariants as shape
use Rattle.sim_scope.specs.declared.types.Mode.{Mode}
use Rattle.sim_scope.specs.declared.types.Mode.TheVariants as mode
use Rattle.sim_scope.specs.declared.types.SimType.{SimType}
use Rattle.sim_scope.specs.declared.types.SimType.TheVariants as t
use Rattle.sim_scope.specs.Source.{Source}
use Rattle.sim_code.specs.Arrays.{handed_over, owned_by}
use Rattle.sim_scope.specs.Scopes.{entry_of}
use Rattle.sim_meaning.specs.Texts.{kind_of_type}
use Rattle.sim_code.specs.Outcome.{ArrayOf as OneArray, World}
use Rattle.sim_meaning.specs.Entries.{arrays_among, arrays_by_value, is_array_by_value, is_held, with_array_of}
use Rattle.sim_meaning.specs.Levels.{qualification}
use Rattle.sim_meaning.specs.Pending.{Address, ArrayValue, Instances, Link, Of, ProcedureValue, Actual, Val}
use Rattle.sim_sound.specs.Held.{Among, ArrayOf, ByName, Holds, Refers, Simply, entry_holds, first, formal_holds, held_by, later, reference_to, Procedure}
use Rattle.sim_sound.specs.Typed.{FormalsAre}
use Rattle.sim_sound.proofs.Cells.{plain_anywhere, val_up}
use Rattle.sim_sound.proofs.Changes.{ElementsFine, given_copy, given_elements, given_is, given_later, given_long, given_world, handed_copy, handed_elements, handed_is, handed_later, handed_long, handed_over_array, handed_world}
use Rattle.sim_sound.proofs.FirstCells.{ActualsAre, SomeDeep, SomeFine, ValsFine}
use Rattle.sim_sound.proofs.Later.{All, Later, array_seat, hand_later, later_none, later_seat, later_then, val_later}
use Rattle.sim_sound.proofs.Sound.{class_kinds, formal_kinds, holds_of, kept_kinds}
use Rattle.sim_sound.proofs.Values.{ObjectIn, AddressOf, AllArrays, Component, Copied, CopyFine, HeldDeep, ImageAddress, IsPlain, KeptFine, Kinds, Lasting, LinkTo, Marks, Near, Open, ReferenceAddress, Seat, Sight, ValFine, Value, Whichever, at_seat, see, in_hand, Checked, ForFormal, NewObject}

-- what is handed over is arrays alone
owned_same : (n a : ℕ) (x : Option OneArray) (o p : World) → o.arrays ≡ p.arrays → (owned_by n x o a).arrays ≡ (owned_by n x p a).arrays
owned_same n a None o p e = e
owned_same n a (Some b) o p e = ap (λ z. slice_set z a (record b { owner = n })) e

pub handed_same : (n : ℕ) (ns : List ℕ) (o p : World) → o.arrays ≡ p.arrays → (handed_over n ns o).arrays ≡ (handed_over n ns p).arrays
unfolding handed_over
handed_same n [] o p e = e
handed_same n (a ∷ ns) o p e = handed_same n ns (owned_by n (slice_get o.arrays a) o a) (owned_by n (slice_get p.arrays a) p a) (owned_same n a (slice_get o.arrays a) o p e ∙ ap (λ z. (owned_by n (slice_get z a) p a).arrays) e)

-- the linkages and the simulation blocks stay as they are
owned_members : (n a : ℕ) (x : Option OneArray) (o : World) → (owned_by n x o a).members ≡ o.members
owned_members n a None o = refl
owned_members n a (Some x) o = refl

pub handed_members : (n : ℕ) (ns : List ℕ) (o : World) → (handed_over n ns o).members ≡ o.members
unfolding handed_over
handed_members n [] o = refl
handed_members n (a ∷ ns) o = handed_members n ns (owned_by n (slice_get o.arrays a) o a) ∙ owned_members n a (slice_get o.arrays a) o

owned_simulations : (n a : ℕ) (x : Option OneArray) (o : World) → (owned_by n x o a).simulations ≡ o.simulations
owned_simulations n a None o = refl
owned_simulations n a (Some x) o = refl

pub handed_simulations : (n : ℕ) (ns : List ℕ) (o : World) → (handed_over n ns o).simulations ≡ o.simulations
unfolding handed_over
handed_simulations n [] o = refl
handed_simulations n (a ∷ ns) o = handed_simulations n ns (owned_by n (slice_get o.arrays a) o a) ∙ owned_simulations n a (slice_get o.arrays a) o

-- ---- what is in hand for a formal parameter, and what its cell holds

-- a value; an array, a procedure or an actual by name, whose instance the new one may know; a copy; an array that is kept
pub data HandsTo (Known : Type 0) : (by_value : Bool) → Option Kinds → Option Holds → Type 0 where
  as_value : {h : Holds} → IsPlain h → HandsTo Known false (Some (Value h)) (Some h)
  as_known : {h : Holds} → Known → HandsTo Known false (Some (Value h)) (Some h)
  as_copy : {h : Holds} → HandsTo Known true (Some (Copied h)) (Some (ArrayOf h))
  as_kept : {h : Holds} → HandsTo Known false (Some (Lasting h)) (Some (ArrayOf h))

abbrev pub AllHandTo : Source → (Known : Type 0) → List Formal → List (Option Kinds) → Type 0
AllHandTo s Known [] [] = Unit {0}
AllHandTo s Known [] (x ∷ xs) = ⊥
AllHandTo s Known (f ∷ fs) [] = ⊥
AllHandTo s Known (f ∷ fs) (x ∷ xs) = HandsTo Known (is_array_by_value f.mode f.kind) x (formal_holds s f.mode f.kind f.ty) × AllHandTo s Known fs xs

reference_plain : (c : Option ℕ) → IsPlain (reference_to c)
reference_plain None = tt
reference_plain (Some k) = tt

pub held_plain : (s : Source) (type : SimType) → IsPlain (held_by s type)
held_plain s (t.Ref d) = reference_plain (qualification s (Some (t.Ref d)))
held_plain s t.Integer = tt
held_plain s t.Boolean = tt
held_plain s t.Character = tt
held_plain s t.Text = tt
held_plain s t.NoneType = tt

-- of a procedure, which knows what its arrays by reference need
formal_hands : (s : Source) (Known : Type 0) (f : Mode) (g : FormalKind) (ty : Option SimType) (h : Holds) → formal_holds s f g ty ≡ Some h → (is_held (record { mode = f; kind = g; ty = ty }) ≡ true → Known) → HandsTo Known (is_array_by_value f g) (in_hand (is_array_by_value f g) (formal_holds s f g ty)) (formal_holds s f g ty)
formal_hands s Known mode.ByValue shape.Simple (Some type) h e k = as_value (held_plain s type)
formal_hands s Known mode.ByReference shape.Simple (Some type) h e k = as_value (held_plain s type)
formal_hands s Known mode.ByValue shape.Array (Some type) h e k = as_copy
formal_hands s Known mode.ByReference shape.Array (Some type) h e k = as_known (k refl)
formal_hands s Known mode.ByValue shape.Procedure ty h e k = as_known (k refl)
formal_hands s Known mode.ByReference shape.Procedure ty h e k = as_known (k refl)
formal_hands s Known mode.ByName shape.Simple (Some type) h e k = as_known (k refl)
formal_hands s Known mode.ByName shape.Array (Some type) h e k = as_known (k refl)
formal_hands s Known mode.ByName shape.Procedure ty h e k = as_known (k refl)
formal_hands s Known mode.ByValue shape.Simple None h e k = absurd (cc)
formal_hands s Known mode.ByReference shape.Simple None h e k = absurd (cc)
formal_hands s Known mode.ByValue shape.Array None h e k = absurd (cc)
formal_hands s Known mode.ByReference shape.Array None h e k = absurd (cc)
formal_hands s Known mode.ByName shape.Simple None h e k = absurd (cc)
formal_hands s Known mode.ByName shape.Array None h e k = absurd (cc)

-- of a class, whose arrays by reference are kept
class_hands : (s : Source) (Known : Type 0) (f : Mode) (g : FormalKind) (ty : Option SimType) (h : Holds) → formal_holds s f g ty ≡ Some h → ((k : Holds) → formal_holds s f g ty ≡ Some (ByName k) → ⊥) → ((r : Option SimType) → formal_holds s f g ty ≡ Some (Procedure r) → ⊥) → HandsTo Known (is_array_by_value f g) (kept_kinds f g (in_hand (is_array_by_value f g) (formal_holds s f g ty))) (formal_holds s f g ty)
class_hands s Known mode.ByValue shape.Simple (Some type) h e nameless none = as_value (held_plain s type)
class_hands s Known mode.ByReference shape.Simple (Some type) h e nameless none = as_value (held_plain s type)
class_hands s Known mode.ByValue shape.Array (Some type) h e nameless none = as_copy
class_hands s Known mode.ByReference shape.Array (Some type) h e nameless none = as_kept
class_hands s Known mode.ByValue shape.Procedure ty h e nameless none = absurd (none ty refl)
class_hands s Known mode.ByReference shape.Procedure ty h e nameless none = absurd (none ty refl)
class_hands s Known mode.ByName shape.Simple (Some type) h e nameless none = absurd (nameless (Simply (kind_of_type type)) refl)
class_hands s Known mode.ByName shape.Array (Some type) h e nameless none = absurd (nameless (ArrayOf (held_by s type)) refl)
class_hands s Known mode.ByName shape.Procedure ty h e nameless none = absurd (nameless (Procedure ty) refl)
class_hands s Known mode.ByValue shape.Simple None h e nameless none = absurd (cc)
class_hands s Known mode.ByReference shape.Simple None h e nameless none = absurd (cc)
class_hands s Known mode.ByValue shape.Array None h e nameless none = absurd (cc)
class_hands s Known mode.ByReference shape.Array None h e nameless none = absurd (cc)
class_hands s Known mode.ByName shape.Simple None h e nameless none = absurd (cc)
class_hands s Known mode.ByName shape.Array None h e nameless none = absurd (cc)

-- where one of them is held, what holds it is known
either_first : (p q : Bool) → p ≡ true → (p || q) ≡ true
either_first true q e = refl
either_first false q e = absurd (cc)

either_second : (p q : Bool) → q ≡ true → (p || q) ≡ true
either_second true q e = refl
either_second false q e = e

pub formals_hand : (s : Source) (Known : Type 0) (ds : List DeclNo) (fs : List Formal) → FormalsAre s ds fs → (list_any is_held fs ≡ true → Known) → AllHandTo s Known fs (formal_kinds s fs)
formals_hand s Known [] [] a k = tt
formals_hand s Known [] (f ∷ fs) a k = absurd a
formals_hand s Known (d ∷ ds) [] a k = absurd a
formals_hand s Known (d ∷ ds) (f ∷ fs) a k = (
  formal_hands s Known f.mode f.kind f.ty a.0 a.2 (λ e. k (either_first (is_held f) (list_any is_held fs) e)),
  formals_hand s Known ds fs a.3 (λ e. k (either_second (is_held f) (list_any is_held fs) e)),
)

pub classes_hand : (s : Source) (Known : Type 0) (ds : List DeclNo) (fs : List Formal) → FormalsAre s ds fs → ((d : DeclNo) (k : Holds) → Among d ds → entry_holds s true (entry_of s.tables d) ≡ Some (ByName k) → ⊥) → ((d : DeclNo) (r : Option SimType) → Among d ds → entry_holds s true (entry_of s.tables d) ≡ Some (Procedure r) → ⊥) → AllHandTo s Known fs (class_kinds s fs)
classes_hand s Known [] [] a nameless none = tt
classes_hand s Known [] (f ∷ fs) a nameless none = absurd a
classes_hand s Known (d ∷ ds) [] a nameless none = absurd a
classes_hand s Known (d ∷ ds) (f ∷ fs) a nameless none = (
  class_hands s Known f.mode f.kind f.ty a.0 a.2 (λ k e. nameless d k first (ap (entry_holds s true) a.1 ∙ e)) (λ r e. none d r first (ap (entry_holds s true) a.1 ∙ e)),
  classes_hand s Known ds fs a.3 (λ e k z. nameless e k (later z)) (λ e r z. none e r (later z)),
)

-- ---- they are handed over, from the instance i to the new one n among the instances then

abbrev pub marks_of : Marks → List Sight → Marks
marks_of b g = record b { sights = g }

-- what is noted of the instances before it is entered, and behind
module _ (s : Source) (m m' : Instances) (i n : ℕ) (lt : i < n) (noted noted' : Marks) (enter : (g : List Sight) (o : World) → Later s (see (marks_of noted g) o) m (see (marks_of noted' g) o) m' All) where
  abbrev pub Before : List Sight → World → AllArrays
  Before g o = see (marks_of noted g) o

  abbrev pub Behind : List Sight → World → AllArrays
  Behind g o = see (marks_of noted' g) o

  -- the other one is there for as long as the new one
  abbrev pub Outlives : Type 0
  Outlives = (g : List Sight) (o : World) → Near (Behind g o) m' n i

  -- what is left after that: the values are those of the new instance, and the copies that have fewer values below them stay
  pub record Handed (o : World) (g : List Sight) (d : ℕ) (o' : World) (Values : AllArrays → Type 0) : Type 0 where
    pub sights : List Sight
    pub long : length sights ≡ length o'.arrays
    pub later : (b : Marks) (mm : Instances) → Later s (see (marks_of b g) o) mm (see (marks_of b sights) o') mm All
    pub copies : (q : Seat) (j e : ℕ) (h : Holds) (a : ℕ) → (q ≡ noted.seat → e < d) → CopyFine (at_seat (Before g o) q) j e h a → CopyFine (at_seat (Before sights o') q) j e h a
    pub elements : ElementsFine s (Before g o) m → ElementsFine s (Before sights o') m
    pub values : Values (Behind sights o')

  -- one array is handed over, and the actuals above it stay
  module _ (o : World) (g : List Sight) (d : ℕ) (Now : AllArrays) (e0 : Later s (Before g o) m Now m All) (copies : (e : ℕ) (k : Holds) (a : ℕ) → d < e → CopyFine (Before g o) i e k a → CopyFine Now i e k a) where
    deep_moved : (e : ℕ) → d < e → (x : Kinds) (v : Val) → HeldDeep s (Before g o) m i e x v → HeldDeep s Now m i e x v
    deep_moved e less (Copied k) (ArrayValue a) f = copies e k a less f
    deep_moved e less (Copied k) (Of p) f = absurd f
    deep_moved e less (Copied k) (Link z) f = absurd f
    deep_moved e less (Copied k) (Address z) f = absurd f
    deep_moved e less (Copied k) (ProcedureValue z y) f = absurd f
    deep_moved e less (Copied k) (Actual home p z) f = absurd f
    deep_moved e less (Value h) v f = val_later s (Before g o) m Now m All e0 i tt h v f
    deep_moved e less (AddressOf k) v f = hand_later s (Before g o) m Now m All e0 i tt (AddressOf k) v f
    deep_moved e less (ReferenceAddress k) v f = hand_later s (Before g o) m Now m All e0 i tt (ReferenceAddress k) v f
    deep_moved e less ImageAddress v f = hand_later s (Before g o) m Now m All e0 i tt ImageAddress v f
    deep_moved e less (LinkTo u) v f = hand_later s (Before g o) m Now m All e0 i tt (LinkTo u) v f
    deep_moved e less (Lasting h) v f = hand_later s (Before g o) m Now m All e0 i tt (Lasting h) v f
    deep_moved e less Component v f = hand_later s (Before g o) m Now m All e0 i tt Component v f
    deep_moved e less (ObjectIn c) v f = hand_later s (Before g o) m Now m All e0 i tt (ObjectIn c) v f
    deep_moved e less (NewObject c) v f = hand_later s (Before g o) m Now m All e0 i tt (NewObject c) v f
    deep_moved e less (Checked es q) v f = hand_later s (Before g o) m Now m All e0 i tt (Checked es q) v f
    deep_moved e less (ForFormal number) v f = absurd f
    deep_moved e less (Whichever b k) v f = hand_later s (Before g o) m Now m All e0 i tt (Whichever b k) v f

    some_moved : (e : ℕ) → d < e → (x : Option Kinds) (v : Val) → SomeDeep s (Before g o) m i e x v → SomeDeep s Now m i e x v
    some_moved e less None v f = f
    some_moved e less (Some x) v f = deep_moved e less x v f

    actuals_moved : (e : ℕ) → d < e → (xs : List (Option Kinds)) (vs : List Val) → ActualsAre s (Before g o) m i e xs vs → ActualsAre s Now m i e xs vs
    actuals_moved e less [] [] a = a
    actuals_moved e less [] (v ∷ vs) a = absurd a
    actuals_moved e less (x ∷ xs) [] a = absurd a
    actuals_moved e less (x ∷ xs) (v ∷ vs) a = (some_moved e less x v a.0, actuals_moved (suc e) (omega (arith, less)) xs vs a.1)

  -- and then the arrays of these numbers, which are among the other actuals
  module _ (fs : List Formal) (vs : List Val) (ns : List ℕ) (o : World) (g : List Sight) (d : ℕ) where
    abbrev Rest : World → List Sight → Type 0
    Rest p z = Handed p z (suc d) (handed_over n ns p) (λ y. (kk : ℕ) → ValsFine s y m' n kk (holds_of s fs) vs)

    abbrev Whole : Option Holds → Val → List ℕ → Type 0
    Whole h v ns = Handed o g d (handed_over n ns o) (λ z. (kk : ℕ) → SomeFine s z m' n kk h v × ValsFine s z m' n kk (holds_of s fs) vs)

    -- a value that is no copy
    other_value : (h : Holds) (v : Val) → ((z : List Sight) (p : World) → Later s (Before g o) m (Before z p) m All → ValFine s (Behind z p) m' n h v) → Rest o g → Whole (Some h) v ns
    other_value h v up r = record {
      sights = r.sights;
      long = r.long;
      later = r.later;
      copies = λ q j e k a less c. r.copies q j e k a (λ same. let x = less same in omega (arith, x)) c;
      elements = r.elements;
      values = λ kk. (up r.sights (handed_over n ns o) (r.later noted m), r.values kk);
    }

    -- the sights in which a copy is open
    abbrev opened : ℕ → Holds → List Sight
    opened a0 h = slice_set g a0 (Open h)

    copy_handed : (h : Holds) (a0 : ℕ) (copy : CopyFine (Before g o) i d h a0) → Rest (handed_world o (marks_of noted g) m i d h a0 copy n) (opened a0 h) → Whole (Some (ArrayOf h)) (ArrayValue a0) (a0 ∷ ns)
    unfolding handed_over
    copy_handed h a0 copy r =
        let now = handed_world o (marks_of noted g) m i d h a0 copy n in
        let end = handed_over n ns now in
        let of : (b : Marks) → CopyFine (see (marks_of (record b { seat = noted.seat }) g) o) i d h a0 = λ b. record { it = copy.it; lives = copy.lives; hidden = copy.hidden; owned = copy.owned; count = copy.count } in
        subst (λ w. Handed o g d (handed_over n ns w) (λ z. (kk : ℕ) → SomeFine s z m' n kk (Some (ArrayOf h)) (ArrayValue a0) × ValsFine s z m' n kk (holds_of s fs) vs)) (sym (handed_is o (marks_of noted g) m i d h a0 copy n)) (record {
          sights = r.sights;
          long = r.long;
          later = λ b mm. later_then s (see (marks_of b g) o) mm (see (marks_of b (opened a0 h)) now) mm (see (marks_of b r.sights) end) mm (later_seat s (see (marks_of (record b { seat = noted.seat }) g) o) mm (see (marks_of (record b { seat = noted.seat }) (opened a0 h)) now) mm All (handed_later o (marks_of (record b { seat = noted.seat }) g) mm i d h a0 (of b) n s) b.seat) (r.later b mm);
          copies = λ q j e kd a less c. r.copies q j e kd a (λ same. let x = less same in omega (arith, x)) (handed_copy o (marks_of noted g) m i d h a0 copy n q j e kd a (λ here same. let x = less here in omega (arith, x, same)) c);
          elements = λ all. r.elements (handed_elements o (marks_of noted g) m i d h a0 copy n s all);
          values = λ kk. ((r.later noted' m').arrays n h a0 tt (array_seat (see (marks_of (record noted' { seat = noted.seat }) (opened a0 h)) now) noted'.seat m' n h a0 (handed_over_array o (marks_of (record noted' { seat = noted.seat }) g) m i d h a0 (of noted') n m')), r.values kk);
        })

    by_kind : Rest o g → ((h : Holds) (a0 : ℕ) (copy : CopyFine (Before g o) i d h a0) → Rest (handed_world o (marks_of noted g) m i d h a0 copy n) (opened a0 h))
        → (b : Bool) (x : Option Kinds) (h : Option Holds) (v : Val) → HandsTo Outlives b x h → SomeDeep s (Before g o) m i d x v
        → Whole h v (if b then with_array_of v ns else ns)
    by_kind r copied false _ _ v (as_value {h = h} plain) f =
        other_value h v (λ z p e. plain_anywhere s (Behind z p) m' i n h v plain (val_later s (Before z p) m (Behind z p) m' All (enter z p) i tt h v (val_later s (Before g o) m (Before z p) m All e i tt h v f))) r
    by_kind r copied false _ _ v (as_known {h = h} outlives) f =
        other_value h v (λ z p e. val_up s (Behind z p) m' n i (outlives z p) h v (val_later s (Before z p) m (Behind z p) m' All (enter z p) i tt h v (val_later s (Before g o) m (Before z p) m All e i tt h v f))) r
    by_kind r copied true _ _ (ArrayValue a0) (as_copy {h = h}) f = copy_handed h a0 f (copied h a0 f)
    by_kind r copied true _ _ (Of p) as_copy f = absurd f
    by_kind r copied true _ _ (Link z) as_copy f = absurd f
    by_kind r copied true _ _ (Address z) as_copy f = absurd f
    by_kind r copied true _ _ (ProcedureValue z y) as_copy f = absurd f
    by_kind r copied true _ _ (Actual home p z) as_copy f = absurd f
    by_kind r copied false _ _ (ArrayValue a0) (as_kept {h = h}) f =
        other_value (ArrayOf h) (ArrayValue a0) (λ z p e. let k = e.kept h a0 f in record { it = k.it; lives = k.lives; known = k.known; owned = inl k.keeps; count = k.count }) r
    by_kind r copied false _ _ (Of p) as_kept f = absurd f
    by_kind r copied false _ _ (Link z) as_kept f = absurd f
    by_kind r copied false _ _ (Address z) as_kept f = absurd f
    by_kind r copied false _ _ (ProcedureValue z y) as_kept f = absurd f
    by_kind r copied false _ _ (Actual home p z) as_kept f = absurd f

    kept_handed : (h : Holds) (a0 : ℕ) (kept : KeptFine (Before g o) h a0) → Rest (given_world o (marks_of noted g) m h a0 kept n) g → Whole (Some (ArrayOf h)) (ArrayValue a0) (a0 ∷ ns)
    unfolding handed_over
    kept_handed h a0 kept r =
        let now = given_world o (marks_of noted g) m h a0 kept n in
        let end = handed_over n ns now in
        let of : (b : Marks) → KeptFine (see (marks_of b g) o) h a0 = λ b. record { it = kept.it; lives = kept.lives; known = kept.known; keeps = kept.keeps; count = kept.count } in
        subst (λ w. Handed o g d (handed_over n ns w) (λ z. (kk : ℕ) → SomeFine s z m' n kk (Some (ArrayOf h)) (ArrayValue a0) × ValsFine s z m' n kk (holds_of s fs) vs)) (sym (given_is o (marks_of noted g) m h a0 kept n)) (record {
          sights = r.sights;
          long = r.long;
          later = λ b mm. later_then s (see (marks_of b g) o) mm (see (marks_of b g) now) mm (see (marks_of b r.sights) end) mm (given_later o (marks_of b g) mm h a0 (of b) n s) (r.later b mm);
          copies = λ q j e kd a less c. r.copies q j e kd a (λ same. let x = less same in omega (arith, x)) (given_copy o (marks_of noted g) m h a0 kept n q j e kd a c);
          elements = λ all. r.elements (given_elements o (marks_of noted g) m h a0 kept n s all);
          values = λ kk. (let k = (r.later noted m).kept h a0 ((given_later o (marks_of noted g) m h a0 kept n s).kept h a0 kept) in record { it = k.it; lives = k.lives; known = k.known; owned = inl k.keeps; count = k.count }, r.values kk);
        })

    no_array : (h : Holds) (v : Val) → IsPlain h → ValFine s (Before g o) m i h v → with_array_of v ns ≡ ns
    no_array (Simply k) (Of p) is f = refl
    no_array (Refers c) (Of p) is f = refl
    no_array (Simply k) _ is f = absurd f
    no_array (Refers c) _ is f = absurd f
    no_array (ArrayOf k) v is f = absurd is
    no_array (Procedure q) v is f = absurd is
    no_array (ByName k) v is f = absurd is

    -- all arrays among the actuals of a class go over
    by_class : Rest o g → ((h : Holds) (a0 : ℕ) (copy : CopyFine (Before g o) i d h a0) → Rest (handed_world o (marks_of noted g) m i d h a0 copy n) (opened a0 h))
        → ((h : Holds) (a0 : ℕ) (kept : KeptFine (Before g o) h a0) → Rest (given_world o (marks_of noted g) m h a0 kept n) g) → (b : Bool) (x : Option Kinds) (h : Option Holds) (v : Val) → HandsTo ⊥ b x h → SomeDeep s (Before g o) m i d x v
        → Whole h v (with_array_of v ns)
    by_class r copied kept false _ _ v (as_value {h = h} plain) f =
        subst (λ z. Whole (Some h) v z) (sym (no_array h v plain f)) (other_value h v (λ z p e. plain_anywhere s (Behind z p) m' i n h v plain (val_later s (Before z p) m (Behind z p) m' All (enter z p) i tt h v (val_later s (Before g o) m (Before z p) m All e i tt h v f))) r)
    by_class r copied kept false _ _ v (as_known knows) f = absurd knows
    by_class r copied kept true _ _ (ArrayValue a0) (as_copy {h = h}) f = copy_handed h a0 f (copied h a0 f)
    by_class r copied kept true _ _ (Of p) as_copy f = absurd f
    by_class r copied kept true _ _ (Link z) as_copy f = absurd f
    by_class r copied kept true _ _ (Address z) as_copy f = absurd f
    by_class r copied kept true _ _ (ProcedureValue z y) as_copy f = absurd f
    by_class r copied kept true _ _ (Actual home p z) as_copy f = absurd f
    by_class r copied kept false _ _ (ArrayValue a0) (as_kept {h = h}) f = kept_handed h a0 f (kept h a0 f)
    by_class r copied kept false _ _ (Of p) as_kept f = absurd f
    by_class r copied kept false _ _ (Link z) as_kept f = absurd f
    by_class r copied kept false _ _ (Address z) as_kept f = absurd f
    by_class r copied kept false _ _ (ProcedureValue z y) as_kept f = absurd f
    by_class r copied kept false _ _ (Actual home p z) as_kept f = absurd f

  -- of the actuals above a copy that is handed over
  past_copy : (o : World) (g : List Sight) (d : ℕ) (h : Holds) (a0 : ℕ) (copy : CopyFine (Before g o) i d h a0) (xs : List (Option Kinds)) (vs : List Val) → ActualsAre s (Before g o) m i (suc d) xs vs
      → ActualsAre s (Before (slice_set g a0 (Open h)) (handed_world o (marks_of noted g) m i d h a0 copy n)) m i (suc d) xs vs
  past_copy o g d h a0 copy xs vs a =
      actuals_moved o g d (Before (slice_set g a0 (Open h)) (handed_world o (marks_of noted g) m i d h a0 copy n)) (handed_later o (marks_of noted g) m i d h a0 copy n s) (λ e k b less f. handed_copy o (marks_of noted g) m i d h a0 copy n noted.seat i e k b (λ q same. omega (arith, same, less)) f) (suc d) (omega arith) xs vs a

  pub hand_all : (fs : List Formal) (xs : List (Option Kinds)) → AllHandTo s Outlives fs xs → (vs : List Val) (o : World) (g : List Sight) → length g ≡ length o.arrays → (d : ℕ) → ActualsAre s (Before g o) m i d xs vs → Handed o g d (handed_over n (arrays_by_value fs vs) o) (λ z. (kk : ℕ) → ValsFine s z m' n kk (holds_of s fs) vs)
  unfolding handed_over
  hand_all [] [] b [] o g long d a = record { sights = g; long = long; later = λ b mm. later_none s (see (marks_of b g) o) mm; copies = λ q j e k a less c. c; elements = λ all. all; values = λ kk. tt }
  hand_all [] [] b (v ∷ vs) o g long d a = absurd a
  hand_all [] (x ∷ xs) b vs o g long d a = absurd b
  hand_all (f ∷ fs) [] b vs o g long d a = absurd b
  hand_all (f ∷ fs) (x ∷ xs) b [] o g long d a = absurd a
  hand_all (f ∷ fs) (x ∷ xs) b (v ∷ vs) o g long d a =
      by_kind fs vs (arrays_by_value fs vs) o g d (hand_all fs xs b.1 vs o g long (suc d) a.1)
      (λ h a0 copy. hand_all fs xs b.1 vs (handed_world o (marks_of noted g) m i d h a0 copy n) (slice_set g a0 (Open h)) (handed_long o (marks_of noted g) m i d h a0 copy n long) (suc d) (past_copy o g d h a0 copy xs vs a.1))
      (is_array_by_value f.mode f.kind) x (formal_holds s f.mode f.kind f.ty) v b.0 a.0

  pub hand_every : (fs : List Formal) (xs : List (Option Kinds)) → AllHandTo s ⊥ fs xs → (vs : List Val) (o : World) (g : List Sight) → length g ≡ length o.arrays → (d : ℕ) → ActualsAre s (Before g o) m i d xs vs → Handed o g d (handed_over n (arrays_among vs) o) (λ z. (kk : ℕ) → ValsFine s z m' n kk (holds_of s fs) vs)
  unfolding handed_over
  hand_every [] [] b [] o g long d a = record { sights = g; long = long; later = λ b mm. later_none s (see (marks_of b g) o) mm; copies = λ q j e k a less c. c; elements = λ all. all; values = λ kk. tt }
  hand_every [] [] b (v ∷ vs) o g long d a = absurd a
  hand_every [] (x ∷ xs) b vs o g long d a = absurd b
  hand_every (f ∷ fs) [] b vs o g long d a = absurd b
  hand_every (f ∷ fs) (x ∷ xs) b [] o g long d a = absurd a
  hand_every (f ∷ fs) (x ∷ xs) b (v ∷ vs) o g long d a =
      by_class fs vs (arrays_among vs) o g d (hand_every fs xs b.1 vs o g long (suc d) a.1)
      (λ h a0 copy. hand_every fs xs b.1 vs (handed_world o (marks_of noted g) m i d h a0 copy n) (slice_set g a0 (Open h)) (handed_long o (marks_of noted g) m i d h a0 copy n long) (suc d) (past_copy o g d h a0 copy xs vs a.1))
      (λ h a0 kept. hand_every fs xs b.1 vs (given_world o (marks_of noted g) m h a0 kept n) g (given_long o (marks_of noted g) m h a0 kept n long) (suc d) (actuals_moved o g d (Before g (given_world o (marks_of noted g) m h a0 kept n)) (given_later o (marks_of noted g) m h a0 kept n s) (λ e k y less f. given_copy o (marks_of noted g) m h a0 kept n noted.seat i e k y f) (suc d) (omega arith) xs vs a.1))
      (is_array_by_value f.mode f.kind) x (formal_holds s f.mode f.kind f.ty) v b.0 a.0

-- What a use of a parameter by name gets of what the evaluation of its actual gave.
use Rattle.std.proofs.Common.{◌≡◌, ℕ, Bool, true, false, Option, Some, None, inl, inr, ⊎_elim, refl, sym, ap, ◌∙◌, subst}
use Rattle.sim_base.specs.declared.run_error.RunError.TheVariants.{ActualIsNoVariable}
use Rattle.sim_scope.specs.Source.{Source}
use Rattle.sim_values.specs.declared.kind.Kind.{Kind}
use Rattle.sim_values.specs.declared.kind.Kind.TheVariants as kind
use Rattle.sim_values.specs.Plain.{Plain}
use Rattle.sim_code.specs.Events.{qualifying, having, no_rule}
use Rattle.sim_code.specs.Instances.{CellPlace, ElementPlace, ImagePlace}
use Rattle.sim_code.specs.Outcome.{Run, RunFault, World}
use Rattle.sim_code.specs.Thunks.{locating}
use Rattle.sim_meaning.specs.Levels.{stands_in}
use Rattle.sim_meaning.specs.Meaning.{admitted, is_place, value_given}
use Rattle.sim_meaning.specs.Pending.{Configuration, Use, Address, ForPlace, ForValue, Instances, Key, Of, Val, plain, Actual, ArrayValue, ForParameter, Link, ProcedureValue}
use Rattle.sim_meaning.specs.Steps.{of_plain}
use Rattle.sim_sound.specs.Held.{ArrayOf, ByName, Fits, Holds, IsOfKind, Refers, Simply, Procedure, result_type}
use Rattle.sim_sound.specs.Typed.{Typed}
use Rattle.sim_sound.proofs.Cells.{lies_cell, val_up}
use Rattle.sim_sound.proofs.Fitting.{plain_fits, val_fits}
use Rattle.sim_sound.proofs.Lifts.{Goes, had, stops}
use Rattle.sim_sound.proofs.Moves.{near_then}
use Rattle.sim_sound.proofs.Names.{element_there}
use Rattle.sim_sound.proofs.References.{held_reference_goes}
use Rattle.sim_sound.proofs.Running.{StoreFine}
use Rattle.sim_sound.proofs.Sound.{Gets, Gives, Comes, GetsKind, GivesKind}
use Rattle.sim_sound.proofs.Values.{IsPlain, AddressOf, AllArrays, ArrayFine, CellLies, ElementFine, HandFine, Kinds, Marks, Near, PlainFine, ReferenceAddress, ValFine, Value, Whichever, see, ProcedureFine}
use Rattle.sim_scope.specs.declared.types.SimType.{SimType}
use Rattle.sim_sound.proofs.Results.{results_then}

-- ---- what was given, for the instance that uses it

module _ (s : Source) (o : AllArrays) (m : Instances) (i j : ℕ) (near : Near o m i j) where
  abbrev array_up : (h : Holds) (a : ℕ) → ArrayFine o m j h a → ArrayFine o m i h a
  array_up h a f = record { it = f.it; lives = f.lives; known = f.known; owned = ⊎_elim (λ k. inl k) (λ w. inr (near_then o m i j (f.it).owner near w)) f.owned; count = f.count }

  element_up : (h : Holds) (a n : ℕ) → ElementFine o m j h a n → ElementFine o m i h a n
  element_up h a n f = record { array = array_up h a f.array; there = f.there }

  cell_up : (e : ℕ) (key : Key) (h : Holds) → CellLies s o m j e key h → CellLies s o m i e key h
  cell_up e key h c = record { around = c.around; todo = c.todo; near = near_then o m i j e near c.near; here = c.here; ready = c.ready; holds = c.holds; there = c.there }

  -- a place is one of whichever kind
  place_up : (value_too : Bool) (k : Kind) (v : Val) → HandFine s o m j (Whichever value_too k) v → HandFine s o m i (Whichever value_too k) v
  place_up value_too k (Address (ElementPlace a n None)) f = (f.0, element_up (Simply k) a n f.1)
  place_up value_too k (Address (CellPlace e key None)) f = (f.0, cell_up e key (Simply k) f.1)
  place_up value_too k (Address (ElementPlace a n (Some c))) f = (f.0, element_up (Refers c) a n f.1)
  place_up value_too k (Address (CellPlace e key (Some c))) f = (f.0, cell_up e key (Refers c) f.1)
  place_up value_too k (Address (ImagePlace n)) f = absurd f
  place_up true k (Of p) f = f
  place_up false k (Of p) f = absurd f
  place_up value_too k _ f = absurd f

-- ---- what lies somewhere, or is given

-- a plain value that is held
plain_held : (s : Source) (o : AllArrays) (m : Instances) (i : ℕ) (h : Holds) (v : Val) → IsPlain h → ValFine s o m i h v → (p : Plain) × (v ≡ Of p) × PlainFine s m h p
plain_held s o m i (Simply k) (Of p) is a = (p, refl, a)
plain_held s o m i (Refers c) (Of p) is a = (p, refl, a)
plain_held s o m i (Simply k) _ is a = absurd a
plain_held s o m i (Refers c) _ is a = absurd a
plain_held s o m i (ArrayOf h) v is a = absurd is
plain_held s o m i (Procedure k) v is a = absurd is
plain_held s o m i (ByName k) v is a = absurd is

module _ (s : Source) (ok : Typed s) (o : World) (g : Marks) (m : Instances) (store : StoreFine s (see g o) m) (j : ℕ) where
  -- a value of a kind that comes of a value
  abbrev pub Given : Kind → Val → Type 0
  Given k v = (p : Plain) × (value_given o m v ≡ Some (Of p)) × PlainFine s m (Simply k) p

  of_kind : (h : Holds) (k : Kind) (p : Plain) → Fits s h (Simply k) → PlainFine s m h p → PlainFine s m (Simply k) p
  of_kind h k p fits fine = plain_fits s ok (see g o) m store h (Simply k) p fits fine

  element_given : (h : Holds) (k : Kind) (a n : ℕ) (class : Option ℕ) → Fits s h (Simply k) → ElementFine (see g o) m j h a n → Given k (Address (ElementPlace a n class))
  element_given h k a n class fits f = let x = element_there s g o m j a n h store f in (x.0, ap of_plain x.1, of_kind h k x.0 fits x.2)

  cell_given : (h : Holds) (k : Kind) (e : ℕ) (key : Key) (class : Option ℕ) → IsPlain h → Fits s h (Simply k) → CellLies s (see g o) m j e key h → Given k (Address (CellPlace e key class))
  cell_given h k e key class plain fits c =
      let x = lies_cell s (see g o) m j e key h store c in
      let y = plain_held s (see g o) m e h x.0 plain x.2 in
      (y.0, x.1 ∙ ap Some y.1, of_kind h k y.0 fits y.2)

  value_held : (h : Holds) (k : Kind) (v : Val) → IsOfKind h k → ValFine s (see g o) m j h v → Given k v
  value_held (Simply k') k (Of p) is a = (p, refl, of_kind (Simply k') k p is a)
  value_held (Refers c) k (Of p) is a = (p, refl, of_kind (Refers c) k p is a)
  value_held (Simply k') k _ is a = absurd a
  value_held (Refers c) k _ is a = absurd a
  value_held (ArrayOf h) k v is a = absurd is
  value_held (Procedure k') k v is a = absurd is
  value_held (ByName k') k v is a = absurd is

  place_given : (k : Kind) (v : Val) → HandFine s (see g o) m j (Whichever true k) v → Given k v
  place_given k (Address (ElementPlace a n None)) f = element_given (Simply k) k a n None refl f.1
  place_given k (Address (CellPlace e key None)) f = cell_given (Simply k) k e key None tt refl f.1
  place_given k (Address (ElementPlace a n (Some c))) f = element_given (Refers c) k a n (Some c) (sym f.0) f.1
  place_given k (Address (CellPlace e key (Some c))) f = cell_given (Refers c) k e key (Some c) tt (sym f.0) f.1
  place_given k (Address (ImagePlace n)) f = absurd f
  place_given k (Of p) f = (p, refl, f)
  place_given k _ f = absurd f

  -- ---- what an evaluation gave, as one of whichever kind

  value_whichever : (h : Holds) (k : Kind) (v : Val) → IsOfKind h k → ValFine s (see g o) m j h v → HandFine s (see g o) m j (Whichever true k) v
  value_whichever (Simply k') k (Of p) is a = of_kind (Simply k') k p is a
  value_whichever (Refers c) k (Of p) is a = of_kind (Refers c) k p is a
  value_whichever (Simply k') k _ is a = absurd a
  value_whichever (Refers c) k _ is a = absurd a
  value_whichever (ArrayOf h) k v is a = absurd is
  value_whichever (Procedure k') k v is a = absurd is
  value_whichever (ByName k') k v is a = absurd is

  address_whichever : (h : Holds) (k : Kind) (v : Val) → h ≡ Simply k → (k ≡ kind.Reference → ⊥) → HandFine s (see g o) m j (AddressOf h) v → HandFine s (see g o) m j (Whichever true k) v
  address_whichever h k (Address (ElementPlace a n None)) is other f = (other, subst (λ z. ElementFine (see g o) m j z a n) is f)
  address_whichever h k (Address (CellPlace e key None)) is other f = (other, subst (λ z. CellLies s (see g o) m j e key z) is f)
  address_whichever h k (Address (ElementPlace a n (Some c))) is other f = absurd f
  address_whichever h k (Address (CellPlace e key (Some c))) is other f = absurd f
  address_whichever h k (Address (ImagePlace n)) is other f = absurd f
  address_whichever h k _ is other f = absurd f

  reference_whichever : (c : ℕ) (k : Kind) (v : Val) → k ≡ kind.Reference → HandFine s (see g o) m j (ReferenceAddress c) v → HandFine s (see g o) m j (Whichever true k) v
  reference_whichever c k (Address (ElementPlace a n (Some q))) is f = (is, subst (λ z. ElementFine (see g o) m j (Refers z) a n) (sym f.0) f.1)
  reference_whichever c k (Address (CellPlace e key (Some q))) is f = (is, subst (λ z. CellLies s (see g o) m j e key (Refers z)) (sym f.0) f.1)
  reference_whichever c k (Address (ElementPlace a n None)) is f = absurd f
  reference_whichever c k (Address (CellPlace e key None)) is f = absurd f
  reference_whichever c k (Address (ImagePlace n)) is f = absurd f
  reference_whichever c k _ is f = absurd f

  value_enough : (value_too : Bool) (k : Kind) (v : Val) → HandFine s (see g o) m j (Whichever value_too k) v → HandFine s (see g o) m j (Whichever true k) v
  value_enough true k v f = f
  value_enough false k (Address p) f = f
  value_enough false k _ f = absurd f

  given_whichever : (k : Kind) (x : Kinds) (v : Val) → GivesKind k x → HandFine s (see g o) m j x v → HandFine s (see g o) m j (Whichever true k) v
  given_whichever k (Value h) v is f = value_whichever h k v is f
  given_whichever k (AddressOf h) v is f = address_whichever h k v is.0 is.1 f
  given_whichever k (ReferenceAddress c) v is f = reference_whichever c k v is f
  given_whichever k (Whichever value_too k') v is f = subst (λ z. HandFine s (see g o) m j (Whichever true z) v) is (value_enough value_too k' v f)
  given_whichever k _ v is f = absurd is

  pub kind_given : (k : Kind) (x : Kinds) (v : Val) → GivesKind k x → HandFine s (see g o) m j x v → Given k v
  kind_given k x v is f = place_given k v (given_whichever k x v is f)

  place_alone : (k : Kind) (v : Val) → is_place v ≡ true → HandFine s (see g o) m j (Whichever true k) v → HandFine s (see g o) m j (Whichever false k) v
  place_alone k (Address p) is f = f
  place_alone k (Of p) is f = absurd (cc)
  place_alone k _ is f = absurd f

  -- ---- the use goes on with it, for the instance i

  module _ (P : World → Configuration → Type 0) (i : ℕ) (near : Near (see g o) m i j) (k : Kind) (v : Val) (r : Val → Run Configuration) where
    abbrev GoesOn : Kinds → Type 0
    GoesOn y = (v : Val) → HandFine s (see g o) m i y v → Goes P (r v)

    value_admitted : (class : Option ℕ) (line : ℕ) (y : Kinds) (p : Plain) → GetsKind s k (ForValue class line) y → PlainFine s m (Simply k) p → GoesOn y → Goes P (admitted s m class line (Of p) o (r (Of p)))
    value_admitted None line y p gets fine go =
        let same : Value gets.0 ≡ y = let e = gets.2 in cc in
        go (Of p) (subst (λ z. HandFine s (see g o) m i z (Of p)) same (val_fits s ok (see g o) m store i (Simply k) gets.0 (Of p) gets.1 fine))
    value_admitted (Some c) line y p gets fine go =
        let x = gets.1 in
        let same : Value x.0 ≡ y = let e = x.2 in cc in
        had P (plain (Of p)) p o (λ q. qualifying line (stands_in s m c) q o (r (Of p))) refl
        (held_reference_goes P s m ok c line p o (r (Of p)) (subst (λ z. PlainFine s m (Simply z) p) gets.0 fine) (λ in_class.
        go (Of p) (subst (λ z. HandFine s (see g o) m i z (Of p)) same (val_fits s ok (see g o) m store i (Refers c) x.0 (Of p) x.1 in_class))))

    place_located : (value_too : Bool) (line : ℕ) (at : Bool) → is_place v ≡ at → HandFine s (see g o) m j (Whichever true k) v → GoesOn (Whichever value_too k) → Goes P (locating line at value_too o (r v))
    unfolding locating
    place_located true line true is f go = go v (place_up s (see g o) m i j near true k v f)
    place_located true line false is f go = go v (place_up s (see g o) m i j near true k v f)
    place_located false line true is f go = go v (place_up s (see g o) m i j near false k v (place_alone k v is f))
    place_located false line false is f go = stops P (RunFault ActualIsNoVariable line) o (λ h. cc)

    -- what is done with what was given
    abbrev pub used : Use → Run Configuration
    used (ForValue class line) = having (value_given o m v) o (λ v. admitted s m class line v o (r v))
    used (ForPlace value_too line) = locating line (is_place v) value_too o (r v)
    used (ForParameter number line) = no_rule o

    kind_goes : (x : Kinds) (wanted : Use) (y : Kinds) → GivesKind k x → GetsKind s k wanted y → HandFine s (see g o) m j x v → GoesOn y → Goes P (used wanted)
    kind_goes x (ForValue class line) y gives gets f go =
        let w = place_given k v (given_whichever k x v gives f) in
        had P (value_given o m v) (Of w.0) o (λ v. admitted s m class line v o (r v)) w.1 (value_admitted class line y w.0 gets w.2 go)
    kind_goes x (ForPlace value_too line) y gives gets f go = place_located value_too line (is_place v) refl (given_whichever k x v gives f) (λ v f. go v (subst (λ z. HandFine s (see g o) m i z v) (sym gets) f))
    kind_goes x (ForParameter number line) y gives gets f go = absurd gets

  -- and so of an array or a procedure, which is used as it is
  module _ (P : World → Configuration → Type 0) (i : ℕ) (near : Near (see g o) m i j) (r : Val → Run Configuration) where
    abbrev Going_on : Kinds → Type 0
    Going_on y = (v : Val) → HandFine s (see g o) m i y v → Goes P (r v)

    abbrev pub used_as : Val → Use → Run Configuration
    used_as v (ForValue class line) = having (value_given o m v) o (λ v. admitted s m class line v o (r v))
    used_as v (ForPlace value_too line) = locating line (is_place v) value_too o (r v)
    used_as v (ForParameter number line) = no_rule o

    array_used : (h : Holds) (v : Val) (y : Kinds) → y ≡ Value (ArrayOf h) → ValFine s (see g o) m j (ArrayOf h) v → Going_on y → Goes P (having (value_given o m v) o r)
    array_used h (ArrayValue n) y is f go = had P (Some (ArrayValue n)) (ArrayValue n) o r refl (go (ArrayValue n) (subst (λ z. HandFine s (see g o) m i z (ArrayValue n)) (sym is) (val_up s (see g o) m i j near (ArrayOf h) (ArrayValue n) f)))
    array_used h (Of z) y is f go = absurd f
    array_used h (Link z) y is f go = absurd f
    array_used h (Address z) y is f go = absurd f
    array_used h (ProcedureValue z q) y is f go = absurd f
    array_used h (Actual z p q) y is f go = absurd f

    -- one that gives what fits
    procedure_fits : (q : Option SimType) (h : Holds) (k e : ℕ) → Fits s (Procedure q) h → ProcedureFine s (see g o) m i q k e → ValFine s (see g o) m i h (ProcedureValue k e)
    procedure_fits q (Procedure q') k e fits f = record { around = f.around; near = f.near; whole = f.whole; procedure = f.procedure; gives = results_then s ok (result_type s k) q q' f.gives fits }
    procedure_fits q (Simply z) k e fits f = absurd fits
    procedure_fits q (Refers z) k e fits f = absurd fits
    procedure_fits q (ArrayOf z) k e fits f = absurd fits
    procedure_fits q (ByName z) k e fits f = absurd fits

    procedure_used : (q : Option SimType) (v : Val) (y : Kinds) → Comes s (Procedure q) (Some y) → ValFine s (see g o) m j (Procedure q) v → Going_on y → Goes P (having (value_given o m v) o r)
    procedure_used q (ProcedureValue k e) y gets f go =
        let same : Value gets.0 ≡ y = let z = gets.2 in cc in
        had P (Some (ProcedureValue k e)) (ProcedureValue k e) o r refl
        (go (ProcedureValue k e) (subst (λ z. HandFine s (see g o) m i z (ProcedureValue k e)) same (procedure_fits q gets.0 k e gets.1 (val_up s (see g o) m i j near (Procedure q) (ProcedureValue k e) f))))
    procedure_used q (Of z) y gets f go = absurd f
    procedure_used q (Link z) y gets f go = absurd f
    procedure_used q (Address z) y gets f go = absurd f
    procedure_used q (ArrayValue z) y gets f go = absurd f
    procedure_used q (Actual z p x) y gets f go = absurd f

    pub use_goes : (h : Holds) (v : Val) (x : Kinds) (wanted : Use) (y : Kinds) → Gives h x → Gets s h wanted y → HandFine s (see g o) m j x v → Going_on y → Goes P (used_as v wanted)
    use_goes (Simply k) v x (ForValue class line) y gives gets f go = kind_goes P i near k v r x (ForValue class line) y gives gets f go
    use_goes (Simply k) v x (ForPlace value_too line) y gives gets f go = kind_goes P i near k v r x (ForPlace value_too line) y gives gets f go
    use_goes (Simply k) v x (ForParameter number line) y gives gets f go = absurd gets
    use_goes (ArrayOf h) v x (ForValue None line) y gives gets f go = array_used h v y gets (subst (λ z. HandFine s (see g o) m j z v) gives f) go
    use_goes (ArrayOf h) v x (ForValue (Some c) line) y gives gets f go = absurd gets
    use_goes (ArrayOf h) v x (ForPlace value_too line) y gives gets f go = absurd gets
    use_goes (ArrayOf h) v x (ForParameter number line) y gives gets f go = absurd gets
    use_goes (Procedure q) v x (ForValue None line) y gives gets f go = procedure_used q v y gets (subst (λ z. HandFine s (see g o) m j z v) gives f) go
    use_goes (Procedure q) v x (ForValue (Some c) line) y gives gets f go = absurd gets
    use_goes (Procedure q) v x (ForPlace value_too line) y gives gets f go = absurd gets
    use_goes (Procedure q) v x (ForParameter number line) y gives gets f go = absurd gets
    use_goes (Refers c) v x wanted y gives gets f go = absurd gives
    use_goes (ByName h) v x wanted y gives gets f go = absurd gives

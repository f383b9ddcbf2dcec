-- The events of objects and references go on: what is found in an object, what is held against a class.
use Rattle.std.proofs.Common.{◌≡◌, ℕ, Bool, true, false, List, ◌∷◌, Some, refl, sym, subst}
use Rattle.std.specs.Prelude.{if◌then◌else◌}
use Rattle.sim_base.specs.declared.run_error.RunError.TheVariants.{AccessThroughNone, OutsideQualification}
use Rattle.sim_scope.specs.Source.{Source}
use Rattle.sim_values.specs.declared.kind.Kind.TheVariants as kind
use Rattle.sim_values.specs.Plain.{Character, Integer, MainOf, Nothing, Object, Plain, Text, Truth, kind_of}
use Rattle.sim_code.specs.Events.{having, not_nothing, pop_object, pop_plain, pop_reference, qualifying, referring, stopping}
use Rattle.sim_code.specs.Outcome.{Run, RunFault, World}
use Rattle.sim_meaning.specs.Pending.{Address, ArrayValue, Instances, Link, Of, ProcedureValue, Actual, Val, plain}
use Rattle.sim_sound.specs.Held.{Refers, Simply}
use Rattle.sim_meaning.specs.Levels.{stands_in}
use Rattle.sim_sound.specs.Typed.{Typed}
use Rattle.sim_sound.proofs.Fitting.{main_of_class, of_class}
use Rattle.sim_sound.proofs.Lifts.{Goes, any_popped, had, known_popped, stops}
use Rattle.sim_sound.proofs.Values.{AllArrays, HandsFine, Kinds, MainIn, ObjectOf, PlainFine, ReferenceFine, ValFine, Value, NewObject, MadeOf, HandFine}

module _ {S : Type 0} (P : World → S → Type 0) where
  by_test : (b : Bool) (line : ℕ) (o : World) (r : Run S) → (b ≡ true → Goes P r) → Goes P (if b then r else stopping (RunFault OutsideQualification line) o)
  by_test true line o r x = x refl
  by_test false line o r x = stops P (RunFault OutsideQualification line) o (λ h. cc)

  -- a reference that is held against a class goes on where it is none, or names something in the class
  pub qualified_goes : (line : ℕ) (test : Plain → Bool) (p : Plain) (o : World) (r : Run S) → kind_of p ≡ kind.Reference → (p ≡ Nothing → Goes P r) → ((j : ℕ) → p ≡ Object j → test (Object j) ≡ true → Goes P r) → ((b : ℕ) → p ≡ MainOf b → test (MainOf b) ≡ true → Goes P r) → Goes P (qualifying line test p o r)
  unfolding qualifying
  qualified_goes line test (Object j) o r is none some main = by_test (test (Object j)) line o r (λ e. some j refl e)
  qualified_goes line test (MainOf b) o r is none some main = by_test (test (MainOf b)) line o r (λ e. main b refl e)
  qualified_goes line test Nothing o r is none some main = none refl
  qualified_goes line test (Integer z) o r is none some main = absurd (cc)
  qualified_goes line test (Truth z) o r is none some main = absurd (cc)
  qualified_goes line test (Character z) o r is none some main = absurd (cc)
  qualified_goes line test (Text z) o r is none some main = absurd (cc)

  -- the object that a reference names, where it names no main program
  referred_goes : (line : ℕ) (p : Plain) (o : World) (f : ℕ → Run S) → kind_of p ≡ kind.Reference → ((j : ℕ) → p ≡ Object j → Goes P (f j)) → ((b : ℕ) → p ≡ MainOf b → ⊥) → Goes P (referring line p o f)
  unfolding referring
  referred_goes line (Object j) o f is x other = x j refl
  referred_goes line (MainOf b) o f is x other = absurd (other b refl)
  referred_goes line Nothing o f is x other = stops P (RunFault AccessThroughNone line) o (λ h. cc)
  referred_goes line (Integer z) o f is x other = absurd (cc)
  referred_goes line (Truth z) o f is x other = absurd (cc)
  referred_goes line (Character z) o f is x other = absurd (cc)
  referred_goes line (Text z) o f is x other = absurd (cc)

  -- a reference that is not none
  some_goes : (line : ℕ) (p : Plain) (o : World) (r : Run S) → kind_of p ≡ kind.Reference → ((p ≡ Nothing → ⊥) → Goes P r) → Goes P (not_nothing line p o r)
  unfolding not_nothing
  some_goes line (Object j) o r is x = x (λ e. cc)
  some_goes line (MainOf b) o r is x = x (λ e. cc)
  some_goes line Nothing o r is x = stops P (RunFault AccessThroughNone line) o (λ h. cc)
  some_goes line (Integer z) o r is x = absurd (cc)
  some_goes line (Truth z) o r is x = absurd (cc)
  some_goes line (Character z) o r is x = absurd (cc)
  some_goes line (Text z) o r is x = absurd (cc)

  module _ (s : Source) (a : AllArrays) (m : Instances) (i : ℕ) where
    reference_kind : (c : ℕ) (p : Plain) → ReferenceFine s m c p → kind_of p ≡ kind.Reference
    reference_kind c (Object j) h = refl
    reference_kind c (MainOf b) h = refl
    reference_kind c Nothing h = refl
    reference_kind c (Integer z) h = absurd h
    reference_kind c (Truth z) h = absurd h
    reference_kind c (Character z) h = absurd h
    reference_kind c (Text z) h = absurd h

    reference_is : (c : ℕ) (v : Val) (o : World) (f : Plain → Run S) → ValFine s a m i (Refers c) v → ((p : Plain) → ReferenceFine s m c p → Goes P (f p)) → Goes P (having (plain v) o f)
    reference_is c (Of p) o f h x = had P (Some p) p o f refl (x p h)
    reference_is c (Link z) o f h x = absurd h
    reference_is c (Address z) o f h x = absurd h
    reference_is c (ArrayValue z) o f h x = absurd h
    reference_is c (ProcedureValue z y) o f h x = absurd h
    reference_is c (Actual home pr z) o f h x = absurd h

    -- a reference of a class
    pub reference_popped : (c : ℕ) (ks : List Kinds) (vals : List Val) (o : World) (f : Plain → List Val → Run S) → HandsFine s a m i (Value (Refers c) ∷ ks) vals → ((p : Plain) (rest : List Val) → ReferenceFine s m c p → HandsFine s a m i ks rest → Goes P (f p rest)) → Goes P (pop_plain plain vals o f)
    unfolding pop_plain
    reference_popped c ks vals o f h x = any_popped P s a m i (Value (Refers c)) ks vals o (λ v rest. having (plain v) o (λ p. f p rest)) h (λ v rest is here more. reference_is c v o (λ p. f p rest) here (λ p e. x p rest e more))

    -- the object of a class of which no main program is
    pub object_popped : (c line : ℕ) (ks : List Kinds) (vals : List Val) (o : World) (f : ℕ → List Val → Run S) → ((b : ℕ) → MainIn s m b c → ⊥) → HandsFine s a m i (Value (Refers c) ∷ ks) vals → ((j : ℕ) (rest : List Val) → ObjectOf s m j c → HandsFine s a m i ks rest → Goes P (f j rest)) → Goes P (pop_object plain line vals o f)
    unfolding pop_object
    object_popped c line ks vals o f other h x =
        reference_popped c ks vals o (λ p rest. referring line p o (λ j. f j rest)) h (λ p rest e more.
        referred_goes line p o (λ j. f j rest) (reference_kind c p e) (λ j is. x j rest (subst (ReferenceFine s m c) is e) more) (λ b is. other b (subst (ReferenceFine s m c) is e)))

    -- a new object of a class
    pub new_popped : (c line : ℕ) (ks : List Kinds) (vals : List Val) (o : World) (f : ℕ → List Val → Run S) → HandsFine s a m i (NewObject c ∷ ks) vals → ((j : ℕ) (rest : List Val) → MadeOf s m j c → HandsFine s a m i ks rest → Goes P (f j rest)) → Goes P (pop_object plain line vals o f)
    unfolding pop_object pop_plain
    new_popped c line ks vals o f h x = any_popped P s a m i (NewObject c) ks vals o (λ v rest. having (plain v) o (λ p. referring line p o (λ j. f j rest))) h (λ v rest is here more. by_value v rest here more)
      where
        by_value : (v : Val) (rest : List Val) → HandFine s a m i (NewObject c) v → HandsFine s a m i ks rest → Goes P (having (plain v) o (λ p. referring line p o (λ j. f j rest)))
        by_value (Of (Object j)) rest e more = had P (Some (Object j)) (Object j) o (λ p. referring line p o (λ j. f j rest)) refl (referred_goes line (Object j) o (λ j. f j rest) refl (λ n is. x n rest (subst (λ z. MadeOf s m z c) (let same : j ≡ n = cc in same) e) more) (λ b is. cc))
        by_value (Of Nothing) rest e more = absurd e
        by_value (Of (MainOf b)) rest e more = absurd e
        by_value (Of (Integer z)) rest e more = absurd e
        by_value (Of (Truth z)) rest e more = absurd e
        by_value (Of (Character z)) rest e more = absurd e
        by_value (Of (Text z)) rest e more = absurd e
        by_value (Link z) rest e more = absurd e
        by_value (Address z) rest e more = absurd e
        by_value (ArrayValue z) rest e more = absurd e
        by_value (ProcedureValue z y) rest e more = absurd e
        by_value (Actual z pr y) rest e more = absurd e

    -- a reference of a class, and any one, that is not none
    pub some_popped : (c line : ℕ) (ks : List Kinds) (vals : List Val) (o : World) (f : Plain → List Val → Run S) → HandsFine s a m i (Value (Refers c) ∷ ks) vals → ((p : Plain) (rest : List Val) → ReferenceFine s m c p → (p ≡ Nothing → ⊥) → HandsFine s a m i ks rest → Goes P (f p rest)) → Goes P (pop_reference plain line vals o f)
    unfolding pop_reference
    some_popped c line ks vals o f h x =
        reference_popped c ks vals o (λ p rest. not_nothing line p o (f p rest)) h (λ p rest e more. some_goes line p o (f p rest) (reference_kind c p e) (λ some. x p rest e some more))

    pub any_some_popped : (line : ℕ) (ks : List Kinds) (vals : List Val) (o : World) (f : Plain → List Val → Run S) → HandsFine s a m i (Value (Simply kind.Reference) ∷ ks) vals → ((p : Plain) (rest : List Val) → PlainFine s m (Simply kind.Reference) p → (p ≡ Nothing → ⊥) → HandsFine s a m i ks rest → Goes P (f p rest)) → Goes P (pop_reference plain line vals o f)
    unfolding pop_reference
    any_some_popped line ks vals o f h x =
        known_popped P s a m i kind.Reference ks vals o (λ p rest. not_nothing line p o (f p rest)) h (λ p rest e more. some_goes line p o (f p rest) e.0 (λ some. x p rest e some more))

-- ---- a reference that is held against a class

module _ {S : Type 0} (P : World → S → Type 0) (s : Source) (m : Instances) where
  -- it goes on as a reference of the class
  pub held_reference_goes : Typed s → (c line : ℕ) (p : Plain) (o : World) (r : Run S) → PlainFine s m (Simply kind.Reference) p → (ReferenceFine s m c p → Goes P r) → Goes P (qualifying line (stands_in s m c) p o r)
  unfolding stands_in
  held_reference_goes ok c line p o r fine go =
      qualified_goes P line (stands_in s m c) p o r fine.0 (λ e. go (subst (ReferenceFine s m c) (sym e) tt))
      (λ j e is.
      let y : PlainFine s m (Simply kind.Reference) (Object j) = subst (PlainFine s m (Simply kind.Reference)) e fine in
      go (subst (ReferenceFine s m c) (sym e) (of_class s m j (y.1).0 c (y.1).1 is)))
      (λ b e is.
      let y : PlainFine s m (Simply kind.Reference) (MainOf b) = subst (PlainFine s m (Simply kind.Reference)) e fine in
      go (subst (ReferenceFine s m c) (sym e) (main_of_class s m ok b (y.1).0 c (y.1).1 is)))

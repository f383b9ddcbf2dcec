-- New arrays, copies and elements.
use Rattle.std.proofs.Common.{◌≡◌, ℕ, zero, suc, ◌+◌, ◌*◌, ◌<◌, Bool, true, false, List, [], ◌∷◌, ◌++◌, length, Some, None, inr, refl, sym, ap, ◌∙◌, subst, arith}
use Rattle.std.specs.Prelude.{ℤ, pos, ◌-ℤ◌, ◌+ℤ◌, int_le, not, ◌&&◌, Ok, Err, if◌then◌else◌, replicate, slice_get}
use Rattle.std.proofs.lemmas.Int.{ints}
use Rattle.sim_base.specs.declared.limits.Limits.{Limits}
use Rattle.sim_base.specs.declared.run_error.RunError.TheVariants.{SubscriptOutOfBounds, WrongNumberOfSubscripts}
use Rattle.sim_scope.specs.Source.{Source}
use Rattle.sim_values.specs.declared.kind.Kind.{Kind}
use Rattle.sim_values.specs.declared.kind.Kind.TheVariants as kind
use Rattle.sim_values.specs.Plain.{Plain, initial, kind_of}
use Rattle.sim_values.specs.Words.{array_words, count_from, element_count, extent_of}
use Rattle.sim_code.specs.Outcome.{ArrayOf as OneArray, Run, World}
use Rattle.sim_code.specs.Arrays.{added, are_inside, as_many, copying_array, element_place, finding_element, is_inside, live_array, making_array, place_from, unless_given, words_of_array}
use Rattle.sim_code.specs.Events.{computing, having, popping, taking}
use Rattle.sim_meaning.specs.Pending.{Actual, Address, ArrayValue, Instances, Link, Of, ProcedureValue, Val, array_in, plain}
use Rattle.sim_sound.specs.Held.{ArrayOf, ByName, Holds, IsOfKind, Refers, Simply, Procedure}
use Rattle.sim_sound.proofs.Running.{StoreFine}
use Rattle.sim_sound.proofs.Sound.{integers}
use Rattle.sim_sound.proofs.Values.{AllArrays, ArrayFine, CopyFine, ElementFine, HandsFine, Hidden, Kinds, Marks, NamesObject, Near, Open, PlainFine, Sight, ValFine, Value, at_itself, near_below, see}
use Rattle.sim_sound.proofs.Changes.{more}
use Rattle.sim_sound.proofs.Lifts.{Goes, any_popped, computed, had, integers_popped, ran, took}
use Rattle.sim_sound.proofs.Lists.{append_at}

-- ---- places

both_true : (p q : Bool) → (p && q) ≡ true → (p ≡ true) × (q ≡ true)
both_true true true e = (refl, refl)
both_true true false e = absurd (cc)
both_true false q e = absurd (cc)

room_for : (lower upper i : ℤ) → int_le lower i ≡ true → int_le i upper ≡ true → count_from (i -ℤ lower) < count_from ((upper -ℤ lower) +ℤ pos 1)
room_for lower upper i h h2 = grind (arith, ints, h, h2)

above_room : (b : ℤ × ℤ) (i : ℤ) → is_inside b i ≡ true → count_from (i -ℤ b.0) < extent_of b
above_room b i h = let e = both_true (int_le b.0 i) (int_le i b.1) h in room_for b.0 b.1 i e.0 e.1

times_suc : (n e : ℕ) → suc n * e ≡ e + n * e
times_suc n e = grind arith

times_zero : (e : ℕ) → 0 * e ≡ 0
times_zero e = grind arith

times_more : (at off n e : ℕ) → at < n → off < e → at * e + off < n * e
times_more at off zero e h g = absurd (omega (arith, h))
times_more zero off (suc n) e h g =
    let z : 0 + off < e + n * e = omega (arith, g) in
    subst (λ x. 0 * e + off < x) (sym (times_suc n e)) (subst (λ x. x + off < e + n * e) (sym (times_zero e)) z)
times_more (suc at) off (suc n) e h g =
    let y : at * e + off < n * e = times_more at off n e (omega (arith, h)) g in
    let z : (e + at * e) + off < e + n * e = omega (arith, y) in
    subst (λ x. suc at * e + off < x) (sym (times_suc n e)) (subst (λ x. x + off < e + n * e) (sym (times_suc at e)) z)

times_times : (n a b : ℕ) → n * (a * b) ≡ (n * a) * b
times_times n a b = grind arith

times_one : (n : ℕ) → n * 1 ≡ n
times_one n = omega arith

place_under : (bs : List (ℤ × ℤ)) (is : List ℤ) (at n : ℕ) → as_many bs is ≡ true → are_inside bs is ≡ true → at < n → place_from at bs is < n * element_count bs
place_under [] [] at n m h lt = subst (λ x. at < x) (sym (times_one n)) lt
place_under [] (i ∷ is) at n m h lt = absurd (cc)
place_under (b ∷ bs) [] at n m h lt = absurd (cc)
place_under (b ∷ bs) (i ∷ is) at n m h lt =
    let e = both_true (is_inside b i) (are_inside bs is) h in
    subst (λ x. place_from (at * extent_of b + count_from (i -ℤ b.0)) bs is < x) (sym (times_times n (extent_of b) (element_count bs)))
    (place_under bs is (at * extent_of b + count_from (i -ℤ b.0)) (n * extent_of b) m e.1 (times_more at (count_from (i -ℤ b.0)) n (extent_of b) lt (above_room b i e.0)))

place_ok : (bs : List (ℤ × ℤ)) (is : List ℤ) (many inside : Bool) (n : ℕ) → as_many bs is ≡ many → are_inside bs is ≡ inside → (if not many then Err WrongNumberOfSubscripts else if inside then Ok (place_from 0 bs is) else Err SubscriptOutOfBounds) ≡ Ok n → n < element_count bs
place_ok bs is false inside n m h e = absurd (cc)
place_ok bs is true false n m h e = absurd (cc)
place_ok bs is true true n m h e =
    let f : place_from 0 bs is ≡ n = cc in
    let one : element_count bs ≡ 1 * element_count bs = omega arith in
    subst (λ x. x < element_count bs) f (subst (λ x. place_from 0 bs is < x) (sym one) (place_under bs is 0 1 m h (omega arith)))

pub place_there : (bs : List (ℤ × ℤ)) (is : List ℤ) (n : ℕ) → element_place bs is ≡ Ok n → n < element_count bs
unfolding element_place
place_there bs is n e = place_ok bs is (as_many bs is) (are_inside bs is) n refl refl e

-- ---- new arrays

all_same : (n : ℕ) (v : Plain) (i : ℕ) (p : Plain) → slice_get (replicate n v) i ≡ Some p → v ≡ p
all_same zero v i p e = absurd (cc)
all_same (suc n) v zero p e = cc
all_same (suc n) v (suc i) p e = all_same n v i p e

as_long : (n : ℕ) (v : Plain) → length (replicate n v) ≡ n
as_long zero v = refl
as_long (suc n) v = ap suc (as_long n v)

pub initial_is : (k : Kind) → kind_of (initial k) ≡ k
initial_is kind.Integer = refl
initial_is kind.Boolean = refl
initial_is kind.Character = refl
initial_is kind.Text = refl
initial_is kind.Reference = refl

initial_known : (s : Source) (m : Instances) (k : Kind) → NamesObject s m (initial k)
initial_known s m kind.Integer = tt
initial_known s m kind.Boolean = tt
initial_known s m kind.Character = tt
initial_known s m kind.Text = tt
initial_known s m kind.Reference = tt

-- the initial value of a kind is held by what is of the kind
pub initial_fine : (s : Source) (m : Instances) (h : Holds) (k : Kind) → IsOfKind h k → PlainFine s m h (initial k)
initial_fine s m (Simply j) k is = (initial_is k ∙ sym is, initial_known s m k)
initial_fine s m (Refers c) k is = subst (λ z. PlainFine s m (Refers c) (initial z)) is tt
initial_fine s m (ArrayOf h) k is = absurd is
initial_fine s m (Procedure r) k is = absurd is
initial_fine s m (ByName h) k is = absurd is

-- a new array of an instance
pub record NewArray (s : Source) (m : Instances) (j : ℕ) (h : Holds) (x : OneArray) : Type 0 where
  pub owned : x.owner ≡ j
  pub back : x.given_back ≡ false
  pub elements : (i : ℕ) (p : Plain) → slice_get x.elements i ≡ Some p → PlainFine s m h p
  pub count : length x.elements ≡ element_count x.bounds

lives_if : (x : OneArray) (b : Bool) → b ≡ false → (if b then None else Some x) ≡ Some x
lives_if x true e = absurd (cc)
lives_if x false e = refl

sight_at : (o : AllArrays) (z : Sight) (x : OneArray) → length o.sights ≡ length o.real → slice_get (more o z x).sights (length o.real) ≡ Some z
sight_at o z x e = ap (slice_get (o.sights ++ z ∷ [])) (sym e) ∙ append_at o.sights z

pub added_fine : (s : Source) (o : AllArrays) (m : Instances) (j : ℕ) (h : Holds) (x : OneArray) → length o.sights ≡ length o.real → NewArray s m j h x → ArrayFine (more o (Open h) x) m j h (length o.real)
added_fine s o m j h x e f = record {
  it = x;
  lives = ap unless_given (append_at o.real x) ∙ lives_if x x.given_back f.back;
  known = sight_at o (Open h) x e;
  owned = inr (subst (Near (more o (Open h) x) m j) (sym f.owned) (near_below at_itself));
  count = f.count;
}

pub copied_fine : (s : Source) (o : AllArrays) (m : Instances) (j d : ℕ) (h : Holds) (x : OneArray) → length o.sights ≡ length o.real → NewArray s m j h x → CopyFine (more o (Hidden h o.seat d) x) j d h (length o.real)
copied_fine s o m j d h x e f = record { it = x; lives = ap unless_given (append_at o.real x) ∙ lives_if x x.given_back f.back; hidden = sight_at o (Hidden h o.seat d) x e; owned = f.owned; count = f.count }

module _ {S : Type 0} (P : World → S → Type 0) where
  pub made_array : (l : Limits) (line owner : ℕ) (k : Kind) (bounds : List (ℤ × ℤ)) (o : World) (f : ℕ → World → Run S) (s : Source) (m : Instances) (h : Holds) → IsOfKind h k → ((t w : ℕ) (x : OneArray) → NewArray s m owner h x → Goes P (f (length o.arrays) (added (ran o t w) x))) → Goes P (making_array l line owner k bounds o f)
  unfolding making_array
  made_array l line owner k bounds o f s m h is go =
      let x : OneArray = record { bounds = bounds; elements = replicate (element_count bounds) (initial k); owner = owner; kept = false; given_back = false } in
      computed P line (array_words bounds) o (λ wanted. taking l line wanted o (λ p. f (length p.arrays) (added p x))) (λ wanted e.
      took P l line wanted o (λ p. f (length p.arrays) (added p x)) (λ t w.
      go t w x (record { owned = refl; back = refl; elements = λ i p d. subst (PlainFine s m h) (all_same (element_count bounds) (initial k) i p d) (initial_fine s m h k is); count = as_long (element_count bounds) (initial k) })))

  pub copied_array : (l : Limits) (line owner : ℕ) (h : Holds) (array : ℕ) (o : World) (g : Marks) (f : ℕ → World → Run S) (s : Source) (m : Instances) → StoreFine s (see g o) m → ArrayFine (see g o) m owner h array → ((t w : ℕ) (x : OneArray) → NewArray s m owner h x → Goes P (f (length o.arrays) (added (ran o t w) x))) → Goes P (copying_array l line owner array o f)
  unfolding copying_array
  copied_array l line owner h array o g f s m store y go =
      let x : OneArray = record { bounds = (y.it).bounds; elements = (y.it).elements; owner = owner; kept = false; given_back = false } in
      had P (live_array o array) y.it o (λ a. taking l line (words_of_array a) o (λ p. f (length p.arrays) (added p (record { bounds = a.bounds; elements = a.elements; owner = owner; kept = false; given_back = false })))) y.lives (
      took P l line (words_of_array y.it) o (λ p. f (length p.arrays) (added p x)) (λ t w.
      go t w x (record { owned = refl; back = refl; elements = λ i p e. store.elements array i y.it (Open h) p y.lives y.known e; count = y.count })))

  -- the array in hand
  pub array_is : (s : Source) (a : AllArrays) (m : Instances) (j : ℕ) (h : Holds) (v : Val) (o : World) (f : ℕ → Run S) → ValFine s a m j (ArrayOf h) v → ((n : ℕ) → ArrayFine a m j h n → v ≡ ArrayValue n → Goes P (f n)) → Goes P (having (array_in v) o f)
  array_is s a m j h (ArrayValue n) o f y x = had P (Some n) n o f refl (x n y refl)
  array_is s a m j h (Of i) o f y x = absurd y
  array_is s a m j h (Link i) o f y x = absurd y
  array_is s a m j h (Address i) o f y x = absurd y
  array_is s a m j h (ProcedureValue t i) o f y x = absurd y
  array_is s a m j h (Actual t pr z) o f y x = absurd y

  pub found_element : (s : Source) (m : Instances) (j : ℕ) (h : Holds) (n line : ℕ) (left : List Kinds) (vals : List Val) (o : World) (g : Marks) (f : ℕ → ℕ → List Val → Run S) → HandsFine s (see g o) m j (integers n (Value (ArrayOf h) ∷ left)) vals → ((array index : ℕ) (rest : List Val) → ElementFine (see g o) m j h array index → HandsFine s (see g o) m j left rest → Goes P (f array index rest)) → Goes P (finding_element plain array_in n line vals o f)
  unfolding finding_element
  found_element s m j h n line left vals o g f hands go =
      integers_popped P s (see g o) m j n (Value (ArrayOf h) ∷ left) [] vals o (λ subscripts rest. popping rest o (λ v rest. having (array_in v) o (λ array. having (live_array o array) o (λ a. computing line (element_place a.bounds subscripts) o (λ index. f array index rest))))) hands (λ zs rest more.
      any_popped P s (see g o) m j (Value (ArrayOf h)) left rest o (λ v rest. having (array_in v) o (λ array. having (live_array o array) o (λ a. computing line (element_place a.bounds zs) o (λ index. f array index rest)))) more (λ v rest is here most.
      array_is s (see g o) m j h v o (λ array. having (live_array o array) o (λ a. computing line (element_place a.bounds zs) o (λ index. f array index rest))) here (λ array fine same.
      had P (live_array o array) fine.it o (λ a. computing line (element_place a.bounds zs) o (λ index. f array index rest)) fine.lives (
      computed P line (element_place (fine.it).bounds zs) o (λ index. f array index rest) (λ index e.
      go array index rest (record { array = fine; there = subst (λ x. index < x) (sym fine.count) (place_there (fine.it).bounds zs index e) }) most)))))

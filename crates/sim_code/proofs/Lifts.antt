-- What both sides do alike leaves them alike: one lemma for each word of the events.
use Rattle.std.proofs.Common.{◌≡◌, ℕ, ◌+◌, List, [], ◌∷◌, length, Option, Some, None, Bool, true, false, refl, sym, subst}
use Rattle.std.specs.Prelude.{ℤ, nat_lt, Result, Ok, Err, if◌then◌else◌}
use Rattle.sim_base.specs.declared.limits.Limits.{Limits}
use Rattle.sim_base.specs.declared.run_error.RunError.{RunError}
use Rattle.sim_values.specs.Operators.{Answer}
use Rattle.sim_values.specs.Plain.{Plain}
use Rattle.sim_values.specs.Words.{array_words, is_exhausted}
use Rattle.sim_values.specs.declared.kind.Kind.{Kind}
use Rattle.sim_code.specs.Outcome.{ArrayOf, Ending, Run, World}
use Rattle.sim_code.specs.Events.{answering, choosing, computing, entering, having, no_rule, stopping, taking, ticking, when}
use Rattle.sim_code.specs.Arrays.{copying_array, live_array, making_array}
use Rattle.sim_code.proofs.Simulation.{Alike, ended, unruled}

-- both are there, and related, or neither is
abbrev pub Both : {A B : Type 0} → (A → B → Type 0) → Option A → Option B → Type 0
Both P None None = Unit {0}
Both P None (Some b) = ⊥
Both P (Some a) None = ⊥
Both P (Some a) (Some b) = P a b

-- two lists of values, one by one
abbrev pub EachAt : {V X : Type 0} → (V → X → Type 0) → List V → List X → Type 0
EachAt W [] [] = Unit {0}
EachAt W [] (x ∷ xs) = ⊥
EachAt W (v ∷ vs) [] = ⊥
EachAt W (v ∷ vs) (x ∷ xs) = W v x × EachAt W vs xs

module _ (S M : Type 0) (R : S → M → Type 0) where
  pub alike_stopping : (e : Ending) (o : World) → Alike R (stopping e o) (stopping e o)
  unfolding stopping
  alike_stopping e o = ended

  pub alike_no_rule : (o : World) → Alike R (no_rule o) (no_rule o)
  unfolding no_rule
  alike_no_rule o = ended

  pub alike_if : (b : Bool) (r r' : Run S) (q q' : Run M) → Alike R r q → Alike R r' q' → Alike R (if b then r else r') (if b then q else q')
  alike_if true r r' q q' a a' = a
  alike_if false r r' q q' a a' = a'

  pub alike_choosing : (b : Bool) (r r' : Run S) (q q' : Run M) → Alike R r q → Alike R r' q' → Alike R (choosing b r r') (choosing b q q')
  unfolding choosing
  alike_choosing b r r' q q' a a' = alike_if b r r' q q' a a'

  pub alike_when : (b : Bool) (o : World) (r : Run S) (q : Run M) → Alike R r q → Alike R (when b o r) (when b o q)
  unfolding when
  alike_when b o r q a = alike_if b r (no_rule o) q (no_rule o) a (alike_no_rule o)

  pub alike_ticking : (l : Limits) (o : World) (r : World → Run S) (q : World → Run M) → ((p : World) → Alike R (r p) (q p)) → Alike R (ticking l o r) (ticking l o q)
  unfolding ticking
  alike_ticking l o r q a = alike_if (nat_lt o.ticks l.ticks) _ _ _ _ (a (record o { ticks = o.ticks + 1 })) (alike_stopping _ o)

  pub alike_taking : (l : Limits) (line wanted : ℕ) (o : World) (r : World → Run S) (q : World → Run M) → ((p : World) → Alike R (r p) (q p)) → Alike R (taking l line wanted o r) (taking l line wanted o q)
  unfolding taking
  alike_taking l line wanted o r q a = alike_if (is_exhausted l.storage o.words wanted) _ _ _ _ (alike_stopping _ o) (a (record o { words = o.words + wanted }))

  pub alike_entering : (l : Limits) (line line' wanted wanted' : ℕ) (o : World) (r : World → Run S) (q : World → Run M) → line' ≡ line → wanted' ≡ wanted → ((p : World) → Alike R (r p) (q p)) → Alike R (entering l line wanted o r) (entering l line' wanted' o q)
  unfolding entering
  alike_entering l line line' wanted wanted' o r q el e a =
      subst (λ n. Alike R (ticking l o (λ p. taking l line wanted p r)) (ticking l o (λ p. taking l line' n p q))) (sym e)
      (subst (λ n. Alike R (ticking l o (λ p. taking l line wanted p r)) (ticking l o (λ p. taking l n wanted p q))) (sym el)
      (alike_ticking l o (λ p. taking l line wanted p r) (λ p. taking l line wanted p q) (λ p. alike_taking l line wanted p r q a)))

  pub alike_computing : (A : Type 0) (line : ℕ) (x : Result A RunError) (o : World) (r : A → Run S) (q : A → Run M) → ((z : A) → Alike R (r z) (q z)) → Alike R (computing line x o r) (computing line x o q)
  unfolding computing
  alike_computing A line (Ok z) o r q a = a z
  alike_computing A line (Err e) o r q a = alike_stopping _ o

  pub alike_having : (A B : Type 0) (P : A → B → Type 0) (x : Option A) (y : Option B) (o : World) (r : A → Run S) (q : B → Run M) → Both P x y → ((a : A) (b : B) → x ≡ Some a → y ≡ Some b → P a b → Alike R (r a) (q b)) → Alike R (having x o r) (having y o q)
  unfolding having
  alike_having A B P None None o r q h a = alike_no_rule o
  alike_having A B P None (Some y) o r q h a = absurd h
  alike_having A B P (Some x) None o r q h a = absurd h
  alike_having A B P (Some x) (Some y) o r q h a = a x y refl refl h

  -- where the second has what goes with what the first has
  pub alike_leads : (A B : Type 0) (x : Option A) (y : Option B) (o : World) (r : A → Run S) (q : B → Run M) → ((a : A) → x ≡ Some a → (b : B) × (y ≡ Some b) × Alike R (r a) (q b)) → Alike R (having x o r) (having y o q)
  unfolding having no_rule
  alike_leads A B None y o r q f = unruled
  alike_leads A B (Some a) y o r q f = let z = f a refl in subst (λ y. Alike R (r a) (having y o q)) (sym z.1) z.2

  -- where the first has something the second goes on alike
  pub alike_first : (A : Type 0) (x : Option A) (o : World) (r : A → Run S) (q : Run M) → ((a : A) → x ≡ Some a → Alike R (r a) q) → Alike R (having x o r) q
  unfolding having no_rule
  alike_first A None o r q f = unruled
  alike_first A (Some a) o r q f = f a refl

  pub alike_passes : (b : Bool) (o : World) (r : Run S) (q : Run M) → (b ≡ true → Alike R r q) → Alike R (when b o r) q
  unfolding when no_rule
  alike_passes true o r q f = f refl
  alike_passes false o r q f = unruled

  pub alike_unruled : (o : World) (q : Run M) → Alike R (no_rule o) q
  unfolding no_rule
  alike_unruled o q = unruled

  pub alike_same : (A : Type 0) (x : Option A) (o : World) (r : A → Run S) (q : A → Run M) → ((a : A) → Alike R (r a) (q a)) → Alike R (having x o r) (having x o q)
  unfolding having
  alike_same A None o r q a = alike_no_rule o
  alike_same A (Some x) o r q a = a x

  pub alike_equal : (A : Type 0) (x y : Option A) (o : World) (r : A → Run S) (q : A → Run M) → x ≡ y → ((a : A) → Alike R (r a) (q a)) → Alike R (having x o r) (having y o q)
  alike_equal A x y o r q e a = subst (λ y. Alike R (having x o r) (having y o q)) e (alike_same A x o r q a)

  -- where the second has something for sure
  pub alike_found : (B : Type 0) (y : Option B) (b : B) (o : World) (r : Run S) (q : B → Run M) → y ≡ Some b → Alike R r (q b) → Alike R r (having y o q)
  unfolding having
  alike_found B y b o r q e a = subst (λ y. Alike R r (having y o q)) (sym e) a

  pub alike_answering : (line : ℕ) (x : Answer) (o : World) (r : Plain → Run S) (q : Plain → Run M) → ((z : Plain) → Alike R (r z) (q z)) → Alike R (answering line x o r) (answering line x o q)
  unfolding answering
  alike_answering line x o r q a = alike_same (Result Plain RunError) x o (λ y. computing line y o r) (λ y. computing line y o q) (λ y. alike_computing Plain line y o r q a)

  pub alike_making : (l : Limits) (line owner : ℕ) (kind : Kind) (bounds : List (ℤ × ℤ)) (o : World) (r : ℕ → World → Run S) (q : ℕ → World → Run M) → ((n : ℕ) (p : World) → Alike R (r n p) (q n p)) → Alike R (making_array l line owner kind bounds o r) (making_array l line owner kind bounds o q)
  unfolding making_array
  alike_making l line owner kind bounds o r q a =
      alike_computing ℕ line (array_words bounds) o _ _ (λ wanted. alike_taking l line wanted o _ _ (λ p. a (length p.arrays) _))

  pub alike_copying : (l : Limits) (line owner array : ℕ) (o : World) (r : ℕ → World → Run S) (q : ℕ → World → Run M) → ((n : ℕ) (p : World) → Alike R (r n p) (q n p)) → Alike R (copying_array l line owner array o r) (copying_array l line owner array o q)
  unfolding copying_array
  alike_copying l line owner array o r q a = alike_same ArrayOf (live_array o array) o _ _ (λ x. alike_taking l line _ o _ _ (λ p. a (length p.arrays) _))

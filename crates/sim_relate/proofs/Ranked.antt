-- Two machines that show the same, where each step of the one is matched by the other. The second may make steps of its own that show
-- nothing: the relation has a rank, which says how many of them are to come.
use Rattle.std.proofs.Common.{◌≡◌, ◌⊎◌, ℕ, zero, suc, ◌<◌, ◌≤◌, None, inl, inr, refl, sym, ap, subst, ◌∙◌, arith}
use Rattle.sim_code.specs.Outcome.{Ended, Ending, Going, NoRule, Run, World, after}
use Rattle.sim_code.specs.Events.{no_rule, stopping}
use Rattle.sim_code.proofs.Simulation.{Alike}
use Rattle.sim_code.proofs.Simulation as simple
use Rattle.sim_relate.specs.SameRuns.{seen, seen_world}

-- Two runs that are alike, by a relation that may speak of the world that both have.
pub data AlikeIn {S M : Type 0} (R : World → S → M → Type 0) : Run S → Run M → Type 0 where
  going : {o : World} {s : S} {m : M} → R o s m → AlikeIn R (Going o s) (Going o m)
  ended : {o : World} {e : Ending} → AlikeIn R (Ended o e) (Ended o e)

-- The same relation in each world, where the first has a rule.
abbrev pub InEach : {S M : Type 0} → (S → M → Type 0) → World → S → M → Type 0
InEach R o s m = R s m

pub simply : {S M : Type 0} {R : S → M → Type 0} {r : Run S} {q : Run M} → ((o : World) → r ≡ Ended o NoRule → ⊥) → Alike R r q → AlikeIn (InEach R) r q
simply ruled (simple.going a) = going a
simply ruled simple.ended = ended
simply ruled (simple.unruled {o}) = absurd (ruled o refl)

-- both have no rule, or stop
pub both_no_rule : {S M : Type 0} {R : World → S → M → Type 0} (o : World) → AlikeIn R (no_rule o) (no_rule o)
unfolding no_rule
both_no_rule o = ended

pub both_stopping : {S M : Type 0} {R : World → S → M → Type 0} (e : Ending) (o : World) → AlikeIn R (stopping e o) (stopping e o)
unfolding stopping
both_stopping e o = ended

-- The second machine is alike, or still has steps of its own that change nothing of what is seen.
pub data Catches {S M : Type 0} (g : World → M → Run M) (R : World → S → M → Type 0) (r : Run S) : Run M → Type 0 where
  caught : {q : Run M} → AlikeIn R r q → Catches g R r q
  lags : {o o' : World} {m m' : M} → g o m ≡ Going o' m' → seen_world o None ≡ seen_world o' None → Catches g R r (Going o' m') → Catches g R r (Going o m)

-- It makes some steps that leave the world, and then the one that is matched.
pub data Meets {S M : Type 0} (g : World → M → Run M) (R : World → S → M → Type 0) (r : Run S) (o : World) : M → Type 0 where
  meets : {m : M} → Catches g R r (g o m) → Meets g R r o m
  first : {m m' : M} → g o m ≡ Going o m' → Meets g R r o m' → Meets g R r o m

-- A step of the first is followed at once, or in several steps.
pub data Follows {S M : Type 0} (g : World → M → Run M) (R : S → M → Type 0) (r : Run S) (o : World) (m : M) : Type 0 where
  at_once : Alike R r (g o m) → Follows g R r o m
  in_steps : Meets g (InEach R) r o m → Follows g R r o m

-- what is so of where the first comes to may be added to the relation
module _ {S M : Type 0} (R Q : World → S → M → Type 0) where
  alike_as : (r : Run S) (q : Run M) → ((o : World) (s : S) (m : M) → r ≡ Going o s → R o s m → Q o s m) → AlikeIn R r q → AlikeIn Q r q
  alike_as _ _ map (going {o = o} {s = s} {m = m} a) = going (map o s m refl a)
  alike_as _ _ map ended = ended

module _ {S M : Type 0} (g : World → M → Run M) (R Q : World → S → M → Type 0) (r : Run S) (map : (o : World) (s : S) (m : M) → r ≡ Going o s → R o s m → Q o s m) where
  catches_as : (q : Run M) → Catches g R r q → Catches g Q r q
  catches_as q (caught a) = caught (alike_as R Q r q map a)
  catches_as _ (lags {o' = o'} {m' = m'} e same more) = lags e same (catches_as (Going o' m') more)

  pub meets_as : (o : World) (m : M) → Meets g R r o m → Meets g Q r o m
  meets_as o m (meets a) = meets (catches_as (g o m) a)
  meets_as o m (first {m' = m'} e more) = first e (meets_as o m' more)

module _ (S M : Type 0) (f : World → S → Run S) (g : World → M → Run M) (R : ℕ → World → S → M → Type 0) (weight : S → ℕ) where
  -- related, whatever the rank
  abbrev pub Related : World → S → M → Type 0
  Related o s m = (k : ℕ) × R k o s m

  -- one step of both, or of the first and several of the second; a step of the first alone that shows nothing and lowers its weight; one
  -- of the second alone that lowers the rank
  pub data Moves (n : ℕ) (o : World) (s : S) (m : M) : Type 0 where
    Both : Meets g Related (f o s) o m → Moves n o s m
    Quiet : (s' : S) → f o s ≡ Going o s' → Related o s' m → weight s' < weight s → Moves n o s m
    Slow : (m' : M) (k : ℕ) → g o m ≡ Going o m' → R k o s m' → k < n → Moves n o s m

  abbrev pub Simulates : Type 0
  Simulates = (n : ℕ) (o : World) (s : S) (m : M) → R n o s m → Moves n o s m

  ended_stays : (n : ℕ) (o : World) (e : Ending) → seen (after f n (Ended o e)) ≡ seen (after g 0 (Ended o e))
  ended_stays zero o e = refl
  ended_stays (suc n) o e = ended_stays n o e

  ended_stays' : (n : ℕ) (o : World) (e : Ending) → seen (after g n (Ended o e)) ≡ seen (after f 0 (Ended o e))
  ended_stays' zero o e = refl
  ended_stays' (suc n) o e = ended_stays' n o e

  alike_seen : (r : Run S) (q : Run M) → AlikeIn Related r q → seen q ≡ seen r
  alike_seen _ _ (going h) = refl
  alike_seen _ _ ended = refl

  catches_seen : (r : Run S) (q : Run M) → Catches g Related r q → seen q ≡ seen r
  catches_seen r q (caught a) = alike_seen r q a
  catches_seen r _ (lags {o' = o'} {m' = m'} e same more) = same ∙ catches_seen r (Going o' m') more

  -- what a moment of the first is seen as, and of the second
  abbrev Shows : ℕ → Run S → Run M → Type 0
  Shows n r q = (k : ℕ) × (seen (after g k q) ≡ seen (after f n r))

  abbrev Only : ℕ → Run S → Run M → Type 0
  Only k r q = (n : ℕ) × (seen (after g k q) ≡ seen (after f n r))

  forth_meets : (n : ℕ) (o : World) (s : S) (m : M) → ((r : Run S) (q : Run M) → Catches g Related r q → Shows n r q) → Meets g Related (f o s) o m → Shows (suc n) (Going o s) (Going o m)
  forth_meets n o s m ih (meets a) = let x = ih (f o s) (g o m) a in (suc x.0, x.1)
  forth_meets n o s m ih (first {m' = m'} e more) = let x = forth_meets n o s m' ih more in (suc x.0, ap (λ r. seen (after g x.0 r)) e ∙ x.1)

  forth_turn : (n rank : ℕ) (o : World) (s : S) (m : M) → ((r : Run S) (q : Run M) → Catches g Related r q → Shows n r q) → ((m' : M) (k : ℕ) → R k o s m' → k < rank → Shows (suc n) (Going o s) (Going o m')) → Moves rank o s m → Shows (suc n) (Going o s) (Going o m)
  forth_turn n rank o s m ih go (Both a) = forth_meets n o s m ih a
  forth_turn n rank o s m ih go (Quiet s' e h' lt) = let x = ih (Going o s') (Going o m) (caught (going h')) in (x.0, x.1 ∙ ap (λ r. seen (after f n r)) (sym e))
  forth_turn n rank o s m ih go (Slow m' k e h' lt) = let x = go m' k h' lt in (suc x.0, ap (λ r. seen (after g x.0 r)) e ∙ x.1)

  forth_inner : (n : ℕ) (o : World) (s : S) → ((k : ℕ) (m : M) → R k o s m → Moves k o s m) → ((r : Run S) (q : Run M) → Catches g Related r q → Shows n r q) → (w k : ℕ) (m : M) → R k o s m → k ≤ w → Shows (suc n) (Going o s) (Going o m)
  forth_inner n o s sim ih zero k m h le = forth_turn n k o s m ih (λ m' k' h' lt. absurd (omega (arith, le, lt))) (sim k m h)
  forth_inner n o s sim ih (suc w) k m h le = forth_turn n k o s m ih (λ m' k' h' lt. forth_inner n o s sim ih w k' m' h' (omega (arith, le, lt))) (sim k m h)

  forth_alike : Simulates → (n : ℕ) → ((r : Run S) (q : Run M) → Catches g Related r q → Shows n r q) → (r : Run S) (q : Run M) → AlikeIn Related r q → Shows (suc n) r q
  forth_alike sim n ih _ _ (going {o} {s} {m} h) = forth_inner n o s (λ k m' h'. sim k o s m' h') ih h.0 h.0 m h.1 (omega arith)
  forth_alike sim n ih _ _ (ended {o} {e}) = (0, sym (ended_stays (suc n) o e))

  forth_catches : (n : ℕ) (r : Run S) → ((q : Run M) → AlikeIn Related r q → Shows n r q) → (q : Run M) → Catches g Related r q → Shows n r q
  forth_catches n r f q (caught a) = f q a
  forth_catches n r f _ (lags {o' = o'} {m' = m'} e same more) = let x = forth_catches n r f (Going o' m') more in (suc x.0, ap (λ r. seen (after g x.0 r)) e ∙ x.1)

  pub forth : Simulates → (n : ℕ) (r : Run S) (q : Run M) → Catches g Related r q → Shows n r q
  forth sim zero r q a = (0, catches_seen r q a)
  forth sim (suc n) r q a = forth_catches (suc n) r (λ q b. forth_alike sim n (forth sim n) r q b) q a

  -- ---- a step of the second, from a moment that is seen as one of the first

  -- it shows nothing, or what the next step of the first shows
  pub record Shown (k : ℕ) (r : Run S) (q : Run M) : Type 0 where
    pub at : ℕ
    pub here : seen (after g k q) ≡ seen (after f at r)
    pub next : (seen (after g (suc k) q) ≡ seen (after g k q)) ⊎ (seen (after g (suc k) q) ≡ seen (after f (suc at) r))

  -- what is shown of the moments after some steps
  abbrev ShownAt : ℕ → Type 0
  ShownAt k = (r : Run S) (q : Run M) → Catches g Related r q → Shown k r q

  -- a step of the second goes before
  second_on : (k : ℕ) (r : Run S) (o : World) (m : M) (q : Run M) → g o m ≡ q → Shown k r q → Shown (suc k) r (Going o m)
  second_on k r o m q e x = record {
    at = x.at;
    here = ap (λ z. seen (after g k z)) e ∙ x.here;
    next = subst (λ z. (seen (after g (suc k) z) ≡ seen (after g k z)) ⊎ (seen (after g (suc k) z) ≡ seen (after f (suc x.at) r))) (sym e) x.next;
  }

  -- a step of the first goes before
  first_on : (k : ℕ) (o : World) (s : S) (r : Run S) (q : Run M) → f o s ≡ r → Shown k r q → Shown k (Going o s) q
  first_on k o s r q e x = record {
    at = suc x.at;
    here = x.here ∙ ap (λ z. seen (after f x.at z)) (sym e);
    next = subst (λ z. (seen (after g (suc k) q) ≡ seen (after g k q)) ⊎ (seen (after g (suc k) q) ≡ seen (after f (suc x.at) z))) (sym e) x.next;
  }

  -- a step that shows nothing, of runs that are seen the same
  nothing_shown : (r : Run S) (o : World) (m : M) (q : Run M) → seen_world o None ≡ seen r → g o m ≡ q → seen q ≡ seen_world o None → Shown 0 r (Going o m)
  nothing_shown r o m q same e still = record { at = 0; here = same; next = inl (ap seen e ∙ still) }

  shown_meets : (o : World) (s : S) (k : ℕ) (m : M) → ((j : ℕ) → j < k → ShownAt j) → Meets g Related (f o s) o m → Shown k (Going o s) (Going o m)
  shown_meets o s zero m ih (meets a) = record { at = 0; here = refl; next = inr (catches_seen (f o s) (g o m) a) }
  shown_meets o s zero m ih (first {m' = m'} e more) = nothing_shown (Going o s) o m (Going o m') refl e refl
  shown_meets o s (suc k) m ih (meets a) = first_on (suc k) o s (f o s) (Going o m) refl (second_on k (f o s) o m (g o m) refl (ih k (omega arith) (f o s) (g o m) a))
  shown_meets o s (suc k) m ih (first {m' = m'} e more) = second_on k (Going o s) o m (Going o m') e (shown_meets o s k m' (λ j le. ih j (omega (arith, le))) more)

  shown_slow : (k n : ℕ) (o : World) (s : S) (m m' : M) → ((j : ℕ) → j < k → ShownAt j) → g o m ≡ Going o m' → R n o s m' → Shown k (Going o s) (Going o m)
  shown_slow zero n o s m m' ih e h = nothing_shown (Going o s) o m (Going o m') refl e refl
  shown_slow (suc k) n o s m m' ih e h = second_on k (Going o s) o m (Going o m') e (ih k (omega arith) (Going o s) (Going o m') (caught (going (n, h))))

  shown_turn : (k rank : ℕ) (o : World) (s : S) (m : M) → ((j : ℕ) → j < k → ShownAt j) → ((s' : S) → Related o s' m → weight s' < weight s → Shown k (Going o s') (Going o m)) → Moves rank o s m → Shown k (Going o s) (Going o m)
  shown_turn k rank o s m ih go (Both a) = shown_meets o s k m ih a
  shown_turn k rank o s m ih go (Quiet s' e h' lt) = first_on k o s (Going o s') (Going o m) e (go s' h' lt)
  shown_turn k rank o s m ih go (Slow m' n e h' lt) = shown_slow k n o s m m' ih e h'

  shown_inner : (k : ℕ) (o : World) (m : M) → ((n : ℕ) (s : S) → R n o s m → Moves n o s m) → ((j : ℕ) → j < k → ShownAt j) → (w : ℕ) (s : S) → Related o s m → weight s ≤ w → Shown k (Going o s) (Going o m)
  shown_inner k o m sim ih zero s h le = shown_turn k h.0 o s m ih (λ s' h' lt. absurd (omega (arith, le, lt))) (sim h.0 s h.1)
  shown_inner k o m sim ih (suc w) s h le = shown_turn k h.0 o s m ih (λ s' h' lt. shown_inner k o m sim ih w s' h' (omega (arith, le, lt))) (sim h.0 s h.1)

  shown_alike : Simulates → (k : ℕ) → ((j : ℕ) → j < k → ShownAt j) → (r : Run S) (q : Run M) → AlikeIn Related r q → Shown k r q
  shown_alike sim k ih _ _ (going {o} {s} {m} h) = shown_inner k o m (λ n s' h'. sim n o s' m h') ih (weight s) s h (omega arith)
  shown_alike sim k ih _ _ (ended {o} {e}) = record { at = 0; here = ended_stays' k o e; next = inl (ended_stays' (suc k) o e ∙ sym (ended_stays' k o e)) }

  shown_catches : Simulates → (k : ℕ) → ((j : ℕ) → j < k → ShownAt j) → ShownAt k
  shown_catches sim k ih r q (caught a) = shown_alike sim k ih r q a
  shown_catches sim zero ih r _ (lags {o = o} {o' = o'} {m = m} {m' = m'} e same more) = nothing_shown r o m (Going o' m') (same ∙ catches_seen r (Going o' m') more) e (sym same)
  shown_catches sim (suc k) ih r _ (lags {o = o} {o' = o'} {m = m} {m' = m'} e same more) = second_on k r o m (Going o' m') e (ih k (omega arith) r (Going o' m') more)

  shown_below : Simulates → (k j : ℕ) → j < k → ShownAt j
  shown_below sim zero j less = absurd (let e : ⊥ = omega (arith, less) in e)
  shown_below sim (suc k) j less = shown_catches sim j (λ i lower. shown_below sim k i (omega (arith, less, lower)))

  pub shown_step : Simulates → (k : ℕ) (r : Run S) (q : Run M) → Catches g Related r q → Shown k r q
  shown_step sim k = shown_catches sim k (shown_below sim k)

  -- so each moment of the second is one of the first
  pub only : Simulates → (k : ℕ) (r : Run S) (q : Run M) → Catches g Related r q → Only k r q
  only sim k r q a = let x = shown_step sim k r q a in (x.at, x.here)

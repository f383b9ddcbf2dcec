-- What both sides do alike with values in hand: one lemma for each word of the events that takes some.
use Rattle.std.proofs.Common.{◌≡◌, ℕ, zero, suc, List, [], ◌∷◌, length, Option, Some, Bool, refl, ap, subst}
use Rattle.std.specs.Prelude.{ℤ}
use Rattle.sim_values.specs.declared.operators.Dyadic.{Dyadic}
use Rattle.sim_values.specs.declared.operators.Monadic.{Monadic}
use Rattle.sim_values.specs.declared.value.TextVal.{TextVal}
use Rattle.sim_values.specs.Operators.{one_of, two_of}
use Rattle.sim_values.specs.Plain.{Plain}
use Rattle.sim_code.specs.Outcome.{ArrayOf, Run, World}
use Rattle.sim_code.specs.Events.{answering, applying_one, applying_two, having, integer_in, pop_integers, pop_many, pop_plain, pop_truth, popping, truth_in, assigning, pop_text, text_val, with_texts, pop_operands}
use Rattle.sim_code.specs.Arrays.{element_place, finding_element, live_array}
use Rattle.sim_code.proofs.Lifts.{EachAt, alike_answering, alike_computing, alike_equal, alike_same, Both}
use Rattle.sim_code.proofs.Simulation.{Alike}
use Rattle.sim_relate.proofs.Known.{Any, Kind, StackAt, anys, more_at, none_at, AllRead, IsRead}
use Rattle.sim_values.specs.Texts.{assign}

pub stack_length : {V X : Type 0} {W : Kind → V → X → Type 0} (ks : List Kind) (vals : List V) (stack : List X) → StackAt W ks vals stack → length ks ≡ length stack
stack_length _ _ _ none_at = refl
stack_length _ _ _ (more_at {ks = ks} {vals = vals} {stack = stack} w h) = ap suc (stack_length ks vals stack h)

module _ (S M : Type 0) (R : S → M → Type 0) (V X : Type 0) (W : Kind → V → X → Type 0) (plain : V → Option Plain) (plain' : X → Option Plain) (same : (v : V) (x : X) → W Any v x → plain v ≡ plain' x) where
  -- alike with what is left
  abbrev pub Goes : {A : Type 0} → List Kind → (A → List V → Run S) → (A → List X → Run M) → Type 0
  Goes {A} left r q = (z : A) (vals : List V) (stack : List X) → StackAt W left vals stack → Alike R (r z vals) (q z stack)

  pub hand_popping : (k : Kind) (left : List Kind) (vals : List V) (stack : List X) (o : World) (r : V → List V → Run S) (q : X → List X → Run M) → StackAt W (k ∷ left) vals stack
      → ((v : V) (x : X) (vals' : List V) (stack' : List X) → vals ≡ v ∷ vals' → stack ≡ x ∷ stack' → W k v x → StackAt W left vals' stack' → Alike R (r v vals') (q x stack')) → Alike R (popping vals o r) (popping stack o q)
  unfolding popping
  hand_popping k left _ _ o r q (more_at {v = v} {vals = vals} {x = x} {stack = stack} w h) a = a v x vals stack refl refl w h

  pub hand_plain : (left : List Kind) (vals : List V) (stack : List X) (o : World) (r : Plain → List V → Run S) (q : Plain → List X → Run M) → StackAt W (anys 1 left) vals stack → Goes left r q → Alike R (pop_plain plain vals o r) (pop_plain plain' stack o q)
  unfolding pop_plain
  hand_plain left vals stack o r q h a =
      hand_popping Any left vals stack o (λ v rest. having (plain v) o (λ p. r p rest)) (λ x rest. having (plain' x) o (λ p. q p rest)) h
      (λ v x vals' stack' ev ex w h'. alike_equal S M R Plain (plain v) (plain' x) o (λ p. r p vals') (λ p. q p stack') (same v x w) (λ p. a p vals' stack' h'))

  pub hand_truth : (left : List Kind) (vals : List V) (stack : List X) (o : World) (r : Bool → List V → Run S) (q : Bool → List X → Run M) → StackAt W (anys 1 left) vals stack → Goes left r q → Alike R (pop_truth plain vals o r) (pop_truth plain' stack o q)
  unfolding pop_truth
  hand_truth left vals stack o r q h a =
      hand_plain left vals stack o (λ v rest. having (truth_in v) o (λ b. r b rest)) (λ v rest. having (truth_in v) o (λ b. q b rest)) h
      (λ p vals' stack' h'. alike_same S M R Bool (truth_in p) o (λ b. r b vals') (λ b. q b stack') (λ b. a b vals' stack' h'))

  pub hand_one : (op : Monadic) (line : ℕ) (left : List Kind) (vals : List V) (stack : List X) (o : World) (r : Plain → List V → Run S) (q : Plain → List X → Run M) → StackAt W (anys 1 left) vals stack → Goes left r q → Alike R (applying_one plain op line vals o r) (applying_one plain' op line stack o q)
  unfolding applying_one
  hand_one op line left vals stack o r q h a =
      hand_plain left vals stack o (λ x rest. answering line (one_of op x) o (λ z. r z rest)) (λ x rest. answering line (one_of op x) o (λ z. q z rest)) h
      (λ p vals' stack' h'. alike_answering S M R line (one_of op p) o (λ z. r z vals') (λ z. q z stack') (λ z. a z vals' stack' h'))

  pub hand_two : (op : Dyadic) (line : ℕ) (left : List Kind) (vals : List V) (stack : List X) (o : World) (r : Plain → List V → Run S) (q : Plain → List X → Run M) → StackAt W (anys 2 left) vals stack → Goes left r q → Alike R (applying_two plain op line vals o r) (applying_two plain' op line stack o q)
  unfolding applying_two
  hand_two op line left vals stack o r q h a =
      hand_plain (anys 1 left) vals stack o _ _ h
      (λ y vals1 stack1 h1. hand_plain left vals1 stack1 o (λ x rest. answering line (two_of op o.store.frames x y) o (λ z. r z rest)) (λ x rest. answering line (two_of op o.store.frames x y) o (λ z. q z rest)) h1
      (λ x vals2 stack2 h2. alike_answering S M R line (two_of op o.store.frames x y) o (λ z. r z vals2) (λ z. q z stack2) (λ z. a z vals2 stack2 h2)))

  pub hand_integers : (m : ℕ) (left : List Kind) (got : List ℤ) (vals : List V) (stack : List X) (o : World) (r : List ℤ → List V → Run S) (q : List ℤ → List X → Run M) → StackAt W (anys m left) vals stack → Goes left r q → Alike R (pop_integers plain m got vals o r) (pop_integers plain' m got stack o q)
  unfolding pop_integers
  hand_integers zero left got vals stack o r q h a = a got vals stack h
  hand_integers (suc m) left got vals stack o r q h a =
      hand_plain (anys m left) vals stack o (λ v rest. having (integer_in v) o (λ z. pop_integers plain m (z ∷ got) rest o r)) (λ v rest. having (integer_in v) o (λ z. pop_integers plain' m (z ∷ got) rest o q)) h
      (λ p vals' stack' h'. alike_same S M R ℤ (integer_in p) o (λ z. pop_integers plain m (z ∷ got) vals' o r) (λ z. pop_integers plain' m (z ∷ got) stack' o q) (λ z. hand_integers m left (z ∷ got) vals' stack' o r q h' a))

  -- as many values of either side
  pub hand_many : (m : ℕ) (left : List Kind) (got : List V) (got' : List X) (vals : List V) (stack : List X) (o : World) (r : List V → List V → Run S) (q : List X → List X → Run M) → StackAt W (anys m left) vals stack → EachAt (W Any) got got'
      → ((values : List V) (values' : List X) (vals' : List V) (stack' : List X) → EachAt (W Any) values values' → StackAt W left vals' stack' → Alike R (r values vals') (q values' stack')) → Alike R (pop_many m got vals o r) (pop_many m got' stack o q)
  unfolding pop_many
  hand_many zero left got got' vals stack o r q h g a = a got got' vals stack g h
  hand_many (suc m) left got got' _ _ o r q (more_at {v = v} {vals = vals} {x = x} {stack = stack} w h) g a = hand_many m left (v ∷ got) (x ∷ got') vals stack o r q h (w, g) a

  -- a text
  pub hand_text : (left : List Kind) (vals : List V) (stack : List X) (o : World) (r : TextVal → List V → Run S) (q : TextVal → List X → Run M) → StackAt W (anys 1 left) vals stack → Goes left r q → Alike R (pop_text plain vals o r) (pop_text plain' stack o q)
  unfolding pop_text
  hand_text left vals stack o r q h a =
      hand_plain left vals stack o (λ v rest. having (text_val v) o (λ t. r t rest)) (λ v rest. having (text_val v) o (λ t. q t rest)) h
      (λ p vals' stack' h'. alike_same S M R TextVal (text_val p) o (λ t. r t vals') (λ t. q t stack') (λ t. a t vals' stack' h'))

  pub hand_assigning : (line : ℕ) (left : List Kind) (vals : List V) (stack : List X) (o : World) (r : World → List V → Run S) (q : World → List X → Run M) → StackAt W (anys 2 left) vals stack → Goes left r q → Alike R (assigning plain line vals o r) (assigning plain' line stack o q)
  unfolding assigning
  hand_assigning line left vals stack o r q h a =
      hand_text (anys 1 left) vals stack o _ _ h
      (λ y vals1 stack1 h1. hand_text left vals1 stack1 o _ _ h1
      (λ x vals2 stack2 h2. alike_computing S M R (Unit {0}) line (assign o.store.frames x y).answer o _ _ (λ done. a (with_texts o (assign o.store.frames x y).frames) vals2 stack2 h2)))

  -- an array and as many subscripts
  pub hand_finding : (array_in : V → Option ℕ) (array_in' : X → Option ℕ) → ((v : V) (x : X) → W Any v x → array_in v ≡ array_in' x) → (m line : ℕ) (left : List Kind) (vals : List V) (stack : List X) (o : World) (r : ℕ → ℕ → List V → Run S) (q : ℕ → ℕ → List X → Run M) → StackAt W (anys m (Any ∷ left)) vals stack
      → ((array index : ℕ) (vals' : List V) (stack' : List X) → StackAt W left vals' stack' → Alike R (r array index vals') (q array index stack')) → Alike R (finding_element plain array_in m line vals o r) (finding_element plain' array_in' m line stack o q)
  unfolding finding_element
  hand_finding array_in array_in' found m line left vals stack o r q h a =
      hand_integers m (Any ∷ left) [] vals stack o _ _ h
      (λ subscripts vals1 stack1 h1. hand_popping Any left vals1 stack1 o _ _ h1
      (λ v x vals2 stack2 ev ex w h2. alike_equal S M R ℕ (array_in v) (array_in' x) o _ _ (found v x w)
      (λ array. alike_same S M R ArrayOf (live_array o array) o _ _
      (λ b. alike_computing S M R ℕ line (element_place b.bounds subscripts) o _ _ (λ index. a array index vals2 stack2 h2)))))

-- operands of a standard name, which may be addresses
module _ (S M : Type 0) (R : S → M → Type 0) (V X : Type 0) (W : Kind → V → X → Type 0) (read : V → Option Plain) (read' : X → Option Plain) (same : (k : Kind) → IsRead k → (v : V) (x : X) → W k v x → read v ≡ read' x) where
  -- the operand that a name may move
  abbrev pub FirstAt : V → X → Type 0
  FirstAt v x = (k : Kind) × IsRead k × W k v x

  pub hand_operands : (n : ℕ) (ks left : List Kind) (first : Option V) (first' : Option X) (vals : List V) (stack : List X) (o : World) (r : List Plain → Option V → List V → Run S) (q : List Plain → Option X → List X → Run M) → Both FirstAt first first' → AllRead n ks left → StackAt W ks vals stack
      → ((ps : List Plain) (f : Option V) (f' : Option X) (vals' : List V) (stack' : List X) → Both FirstAt f f' → StackAt W left vals' stack' → Alike R (r ps f vals') (q ps f' stack')) → Alike R (pop_operands read n first vals o r) (pop_operands read' n first' stack o q)
  unfolding pop_operands popping
  hand_operands zero ks left first first' vals stack o r q f a h g = g [] first first' vals stack f (subst (λ z. StackAt W z vals stack) a h)
  hand_operands (suc n) [] left first first' vals stack o r q f a h g = absurd a
  hand_operands (suc n) (k ∷ ks) left first first' _ _ o r q f a (more_at {v = v} {vals = vals} {x = x} {stack = stack} w h) g =
      alike_equal S M R Plain (read v) (read' x) o _ _ (same k a.0 v x w)
      (λ p. hand_operands n ks left (Some v) (Some x) vals stack o _ _ (k, a.0, w) a.1 h (λ ps f f' vals' stack' b hs. g (p ∷ ps) f f' vals' stack' b hs))

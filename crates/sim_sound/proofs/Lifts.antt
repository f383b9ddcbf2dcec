-- What each event goes on with, where its operands are fine.
use Rattle.std.proofs.Common.{◌≡◌, ◌≢◌, ℕ, zero, suc, Bool, true, false, List, [], ◌∷◌, Option, Some, None, refl, sym, subst}
use Rattle.std.specs.Prelude.{ℤ, ◌+◌, Result, Ok, Err, if◌then◌else◌, nat_lt}
use Rattle.sim_base.specs.declared.limits.Limits.{Limits}
use Rattle.sim_base.specs.declared.run_error.RunError.{RunError}
use Rattle.sim_values.specs.declared.kind.Kind.{Kind}
use Rattle.sim_values.specs.declared.kind.Kind.TheVariants as kind
use Rattle.sim_values.specs.declared.operators.Dyadic.{Dyadic}
use Rattle.sim_values.specs.declared.operators.Dyadic.TheVariants as dyadic
use Rattle.sim_values.specs.declared.operators.Monadic.{Monadic}
use Rattle.sim_values.specs.declared.operators.Monadic.TheVariants as monadic
use Rattle.sim_values.specs.declared.value.TextVal.{TextVal}
use Rattle.sim_values.specs.Operators.{Answer, an_integer, calculate, compare, compare_as_texts, connect, one_of, same_objects, same_texts, step_test, two_of}
use Rattle.sim_values.specs.Plain.{Character, Integer, MainOf, Nothing, Object, Plain, Text, Truth, kind_of}
use Rattle.sim_values.specs.Texts.{Frame, assign, concatenated, Making}
use Rattle.sim_values.specs.Words.{is_exhausted}
use Rattle.sim_values.specs.Store.{Store}
use Rattle.sim_code.specs.Outcome.{Ended, Ending, Going, NoRule, Run, RunFault, StorageExhausted, TickLimit, World}
use Rattle.sim_code.specs.Events.{answering, applying_one, applying_two, assigning, choosing, computing, entering, having, integer_in, joining, making_text, pop_integers, pop_plain, pop_text, pop_truth, popping, stopping, taking, testing_step, text_val, ticking, truth_in, when, with_texts}
use Rattle.sim_meaning.specs.Pending.{Address, ArrayValue, Instances, Link, Of, ProcedureValue, Actual, Val, plain}
use Rattle.sim_scope.specs.Source.{Source}
use Rattle.sim_sound.specs.Held.{Simply}
use Rattle.sim_sound.specs.Expressions.{TwoKinds}
use Rattle.sim_sound.proofs.Sound.{OneKinds, integers}
use Rattle.sim_sound.proofs.Values.{AllArrays, DeepFine, HandsFine, Kinds, PlainFine, ValFine, Value}

abbrev pub Goes : {S : Type 0} → (P : World → S → Type 0) → Run S → Type 0
Goes P (Going o c) = P o c
Goes P (Ended o e) = e ≢ NoRule

-- the world after ticks and words
abbrev pub ran : World → (ticks words : ℕ) → World
ran o t w = record o { ticks = t; words = w }

module _ {S : Type 0} (P : World → S → Type 0) where
  pub goes_if : (b : Bool) (r q : Run S) → Goes P r → Goes P q → Goes P (if b then r else q)
  goes_if true r q x y = x
  goes_if false r q x y = y

  pub stops : (e : Ending) (o : World) → e ≢ NoRule → Goes P (stopping e o)
  unfolding stopping
  stops e o h = h

  pub ticked : (l : Limits) (o : World) (f : World → Run S) → ((t w : ℕ) → Goes P (f (ran o t w))) → Goes P (ticking l o f)
  unfolding ticking
  ticked l o f x = goes_if (nat_lt o.ticks l.ticks) (f (record o { ticks = o.ticks + 1 })) (stopping (TickLimit l.ticks) o) (x (o.ticks + 1) o.words) (stops (TickLimit l.ticks) o (λ e. cc))

  pub took : (l : Limits) (line wanted : ℕ) (o : World) (f : World → Run S) → ((t w : ℕ) → Goes P (f (ran o t w))) → Goes P (taking l line wanted o f)
  unfolding taking
  took l line wanted o f x = goes_if (is_exhausted l.storage o.words wanted) (stopping (StorageExhausted line o.words wanted) o) (f (record o { words = o.words + wanted })) (stops (StorageExhausted line o.words wanted) o (λ e. cc)) (x o.ticks (o.words + wanted))

  pub enters : (l : Limits) (line wanted : ℕ) (o : World) (f : World → Run S) → ((t w : ℕ) → Goes P (f (ran o t w))) → Goes P (entering l line wanted o f)
  unfolding entering
  enters l line wanted o f x = ticked l o (λ p. taking l line wanted p f) (λ t w. took l line wanted (ran o t w) f x)

  pub had : {A : Type 0} (x : Option A) (a : A) (o : World) (f : A → Run S) → x ≡ Some a → Goes P (f a) → Goes P (having x o f)
  unfolding having
  had None a o f e g = absurd (cc)
  had (Some b) a o f e g = subst (λ z. Goes P (f z)) (let h : a ≡ b = cc in h) g

  pub whens : (b : Bool) (o : World) (r : Run S) → b ≡ true → Goes P r → Goes P (when b o r)
  unfolding when
  whens true o r e x = x
  whens false o r e x = absurd (cc)

  pub computed : {A : Type 0} (line : ℕ) (r : Result A RunError) (o : World) (f : A → Run S) → ((a : A) → r ≡ Ok a → Goes P (f a)) → Goes P (computing line r o f)
  unfolding computing
  computed line (Ok a) o f x = x a refl
  computed line (Err e) o f x = stops (RunFault e line) o (λ h. cc)

  pub chosen : (b : Bool) (r q : Run S) → Goes P r → Goes P q → Goes P (choosing b r q)
  unfolding choosing
  chosen b r q x y = goes_if b r q x y

  pub popped : (v : Val) (rest : List Val) (o : World) (f : Val → List Val → Run S) → Goes P (f v rest) → Goes P (popping (v ∷ rest) o f)
  unfolding popping
  popped v rest o f x = x

  -- ---- values in hand of an instance

  module _ (s : Source) (a : AllArrays) (m : Instances) (j : ℕ) where
    -- whatever is on top
    pub any_popped : (k : Kinds) (ks : List Kinds) (vals : List Val) (o : World) (f : Val → List Val → Run S) → HandsFine s a m j (k ∷ ks) vals → ((v : Val) (rest : List Val) → vals ≡ v ∷ rest → DeepFine s a m j rest k v → HandsFine s a m j ks rest → Goes P (f v rest)) → Goes P (popping vals o f)
    any_popped k ks [] o f h x = absurd h
    any_popped k ks (v ∷ rest) o f h x = popped v rest o f (x v rest refl h.0 h.1)

    simple_is : (k : Kind) (v : Val) (o : World) (f : Plain → Run S) → ValFine s a m j (Simply k) v → ((p : Plain) → PlainFine s m (Simply k) p → Goes P (f p)) → Goes P (having (plain v) o f)
    simple_is k (Of p) o f h x = had (Some p) p o f refl (x p h)
    simple_is k (Link i) o f h x = absurd h
    simple_is k (Address i) o f h x = absurd h
    simple_is k (ArrayValue i) o f h x = absurd h
    simple_is k (ProcedureValue t i) o f h x = absurd h
    simple_is k (Actual home pr t) o f h x = absurd h

    -- a value of a kind, and the object that it names
    pub known_popped : (k : Kind) (ks : List Kinds) (vals : List Val) (o : World) (f : Plain → List Val → Run S) → HandsFine s a m j (Value (Simply k) ∷ ks) vals → ((p : Plain) (rest : List Val) → PlainFine s m (Simply k) p → HandsFine s a m j ks rest → Goes P (f p rest)) → Goes P (pop_plain plain vals o f)
    unfolding pop_plain
    known_popped k ks vals o f h x = any_popped (Value (Simply k)) ks vals o (λ v rest. having (plain v) o (λ p. f p rest)) h (λ v rest is here more. simple_is k v o (λ p. f p rest) here (λ p e. x p rest e more))

    pub plain_popped : (k : Kind) (ks : List Kinds) (vals : List Val) (o : World) (f : Plain → List Val → Run S) → HandsFine s a m j (Value (Simply k) ∷ ks) vals → ((p : Plain) (rest : List Val) → kind_of p ≡ k → HandsFine s a m j ks rest → Goes P (f p rest)) → Goes P (pop_plain plain vals o f)
    plain_popped k ks vals o f h x = known_popped k ks vals o f h (λ p rest e more. x p rest e.0 more)

    pub truth_popped : (ks : List Kinds) (vals : List Val) (o : World) (f : Bool → List Val → Run S) → HandsFine s a m j (Value (Simply kind.Boolean) ∷ ks) vals → ((b : Bool) (rest : List Val) → HandsFine s a m j ks rest → Goes P (f b rest)) → Goes P (pop_truth plain vals o f)
    unfolding pop_truth
    truth_popped ks vals o f h x = plain_popped kind.Boolean ks vals o (λ v rest. having (truth_in v) o (λ b. f b rest)) h (λ p rest e more. is_truth p rest e (λ b. x b rest more))
      where
        is_truth : (p : Plain) (rest : List Val) → kind_of p ≡ kind.Boolean → ((b : Bool) → Goes P (f b rest)) → Goes P (having (truth_in p) o (λ b. f b rest))
        is_truth (Truth b) rest e y = had (Some b) b o (λ b. f b rest) refl (y b)
        is_truth (Integer z) rest e y = absurd (cc)
        is_truth (Character z) rest e y = absurd (cc)
        is_truth (Text z) rest e y = absurd (cc)
        is_truth (Object z) rest e y = absurd (cc)
        is_truth (MainOf z) rest e y = absurd (cc)
        is_truth Nothing rest e y = absurd (cc)

    pub integers_popped : (n : ℕ) (ks : List Kinds) (got : List ℤ) (vals : List Val) (o : World) (f : List ℤ → List Val → Run S) → HandsFine s a m j (integers n ks) vals → ((zs : List ℤ) (rest : List Val) → HandsFine s a m j ks rest → Goes P (f zs rest)) → Goes P (pop_integers plain n got vals o f)
    unfolding pop_integers
    integers_popped zero ks got vals o f h x = x got vals h
    integers_popped (suc n) ks got vals o f h x =
        plain_popped kind.Integer (integers n ks) vals o (λ v rest. having (integer_in v) o (λ z. pop_integers plain n (z ∷ got) rest o f)) h (λ p rest e more. is_integer p rest e (λ z. integers_popped n ks (z ∷ got) rest o f more x))
      where
        is_integer : (p : Plain) (rest : List Val) → kind_of p ≡ kind.Integer → ((z : ℤ) → Goes P (pop_integers plain n (z ∷ got) rest o f)) → Goes P (having (integer_in p) o (λ z. pop_integers plain n (z ∷ got) rest o f))
        is_integer (Integer z) rest e y = had (Some z) z o (λ z. pop_integers plain n (z ∷ got) rest o f) refl (y z)
        is_integer (Truth b) rest e y = absurd (cc)
        is_integer (Character z) rest e y = absurd (cc)
        is_integer (Text z) rest e y = absurd (cc)
        is_integer (Object z) rest e y = absurd (cc)
        is_integer (MainOf z) rest e y = absurd (cc)
        is_integer Nothing rest e y = absurd (cc)

  -- ---- operators

  -- an answer is there, and its value is of this kind
  abbrev AnswerIs : Kind → Answer → Type 0
  AnswerIs k None = ⊥
  AnswerIs k (Some (Ok p)) = kind_of p ≡ k
  AnswerIs k (Some (Err e)) = Unit {0}

  answered : (line : ℕ) (k : Kind) (x : Answer) (o : World) (f : Plain → Run S) → AnswerIs k x → ((p : Plain) → kind_of p ≡ k → Goes P (f p)) → Goes P (answering line x o f)
  unfolding answering having computing
  answered line k None o f h x = absurd h
  answered line k (Some (Ok p)) o f h x = x p h
  answered line k (Some (Err e)) o f h x = stops (RunFault e line) o (λ h. cc)

  integer_is : (r : Result ℤ RunError) → AnswerIs kind.Integer (an_integer r)
  integer_is (Ok z) = refl
  integer_is (Err e) = tt

  pub data Shape : Plain → Kind → Type 0 where
    an_int : (z : ℤ) → Shape (Integer z) kind.Integer
    a_bool : (b : Bool) → Shape (Truth b) kind.Boolean
    a_char : (c : ℕ) → Shape (Character c) kind.Character
    a_text : (t : TextVal) → Shape (Text t) kind.Text
    an_object : (z : ℕ) → Shape (Object z) kind.Reference
    a_main : (z : ℕ) → Shape (MainOf z) kind.Reference
    no_object : Shape Nothing kind.Reference

  pub shape : (p : Plain) (k : Kind) → kind_of p ≡ k → Shape p k
  shape (Integer z) k e = subst (Shape (Integer z)) e (an_int z)
  shape (Truth z) k e = subst (Shape (Truth z)) e (a_bool z)
  shape (Character z) k e = subst (Shape (Character z)) e (a_char z)
  shape (Text z) k e = subst (Shape (Text z)) e (a_text z)
  shape (Object z) k e = subst (Shape (Object z)) e (an_object z)
  shape (MainOf z) k e = subst (Shape (MainOf z)) e (a_main z)
  shape Nothing k e = subst (Shape Nothing) e no_object

  one_is : (op : Monadic) (k : Kind) (p : Plain) → OneKinds op k → kind_of p ≡ k → AnswerIs k (one_of op p)
  unfolding one_of
  one_is monadic.Negate k (Integer z) a e = subst (λ k. AnswerIs k (one_of monadic.Negate (Integer z))) (sym a) (integer_is _)
  one_is monadic.Not k (Truth b) a e = sym a
  one_is monadic.Negate k (Truth b) a e = absurd (cc)
  one_is monadic.Negate k (Character b) a e = absurd (cc)
  one_is monadic.Negate k (Text b) a e = absurd (cc)
  one_is monadic.Negate k (Object b) a e = absurd (cc)
  one_is monadic.Negate k (MainOf b) a e = absurd (cc)
  one_is monadic.Negate k Nothing a e = absurd (cc)
  one_is monadic.Not k (Integer b) a e = absurd (cc)
  one_is monadic.Not k (Character b) a e = absurd (cc)
  one_is monadic.Not k (Text b) a e = absurd (cc)
  one_is monadic.Not k (Object b) a e = absurd (cc)
  one_is monadic.Not k (MainOf b) a e = absurd (cc)
  one_is monadic.Not k Nothing a e = absurd (cc)

  two_shaped : (op : Dyadic) (k v : Kind) (store : Store) {x y : Plain} → TwoKinds op k v → Shape x k → Shape y k → AnswerIs v (two_of op store.frames x y)
  unfolding two_of calculate compare compare_as_texts connect same_objects same_texts
  two_shaped (dyadic.Calculate c) kind.Integer v store a (an_int x) (an_int y) = subst (λ v. AnswerIs v (two_of (dyadic.Calculate c) store.frames (Integer x) (Integer y))) (sym a.1) (integer_is _)
  two_shaped (dyadic.Calculate c) kind.Boolean v store a _ _ = absurd (cc)
  two_shaped (dyadic.Calculate c) kind.Character v store a _ _ = absurd (cc)
  two_shaped (dyadic.Calculate c) kind.Text v store a _ _ = absurd (cc)
  two_shaped (dyadic.Calculate c) kind.Reference v store a _ _ = absurd (cc)
  two_shaped (dyadic.Compare r) kind.Integer v store a (an_int x) (an_int y) = sym a.1
  two_shaped (dyadic.Compare r) kind.Character v store a (a_char x) (a_char y) = sym a.1
  two_shaped (dyadic.Compare r) kind.Boolean v store a _ _ = absurd a.0
  two_shaped (dyadic.Compare r) kind.Text v store a _ _ = absurd a.0
  two_shaped (dyadic.Compare r) kind.Reference v store a _ _ = absurd a.0
  two_shaped (dyadic.Connect c) kind.Boolean v store a (a_bool x) (a_bool y) = sym a.1
  two_shaped (dyadic.Connect c) kind.Integer v store a _ _ = absurd (cc)
  two_shaped (dyadic.Connect c) kind.Character v store a _ _ = absurd (cc)
  two_shaped (dyadic.Connect c) kind.Text v store a _ _ = absurd (cc)
  two_shaped (dyadic.Connect c) kind.Reference v store a _ _ = absurd (cc)
  two_shaped (dyadic.CompareTexts r) kind.Text v store a (a_text x) (a_text y) = sym a.1
  two_shaped (dyadic.CompareTexts r) kind.Boolean v store a _ _ = absurd (cc)
  two_shaped (dyadic.CompareTexts r) kind.Integer v store a _ _ = absurd (cc)
  two_shaped (dyadic.CompareTexts r) kind.Character v store a _ _ = absurd (cc)
  two_shaped (dyadic.CompareTexts r) kind.Reference v store a _ _ = absurd (cc)
  two_shaped dyadic.SameObject kind.Reference v store a (an_object x) (an_object y) = sym a.1
  two_shaped dyadic.SameObject kind.Reference v store a (an_object x) no_object = sym a.1
  two_shaped dyadic.SameObject kind.Reference v store a (an_object x) (a_main y) = sym a.1
  two_shaped dyadic.SameObject kind.Reference v store a (a_main x) (an_object y) = sym a.1
  two_shaped dyadic.SameObject kind.Reference v store a (a_main x) (a_main y) = sym a.1
  two_shaped dyadic.SameObject kind.Reference v store a (a_main x) no_object = sym a.1
  two_shaped dyadic.SameObject kind.Reference v store a no_object (an_object y) = sym a.1
  two_shaped dyadic.SameObject kind.Reference v store a no_object (a_main y) = sym a.1
  two_shaped dyadic.SameObject kind.Reference v store a no_object no_object = sym a.1
  two_shaped dyadic.SameObject kind.Boolean v store a _ _ = absurd (cc)
  two_shaped dyadic.SameObject kind.Integer v store a _ _ = absurd (cc)
  two_shaped dyadic.SameObject kind.Character v store a _ _ = absurd (cc)
  two_shaped dyadic.SameObject kind.Text v store a _ _ = absurd (cc)
  two_shaped dyadic.SameText kind.Text v store a (a_text x) (a_text y) = sym a.1
  two_shaped dyadic.SameText kind.Boolean v store a _ _ = absurd (cc)
  two_shaped dyadic.SameText kind.Integer v store a _ _ = absurd (cc)
  two_shaped dyadic.SameText kind.Character v store a _ _ = absurd (cc)
  two_shaped dyadic.SameText kind.Reference v store a _ _ = absurd (cc)

  step_shaped : {x y z : Plain} → Shape x kind.Integer → Shape y kind.Integer → Shape z kind.Integer → AnswerIs kind.Boolean (step_test x y z)
  unfolding step_test
  step_shaped (an_int x) (an_int y) (an_int z) = refl

  module _ (s : Source) (a : AllArrays) (m : Instances) (j : ℕ) where
    pub one_applied : (op : Monadic) (k : Kind) (line : ℕ) (ks : List Kinds) (vals : List Val) (o : World) (f : Plain → List Val → Run S) → OneKinds op k → HandsFine s a m j (Value (Simply k) ∷ ks) vals → ((p : Plain) (rest : List Val) → kind_of p ≡ k → HandsFine s a m j ks rest → Goes P (f p rest)) → Goes P (applying_one plain op line vals o f)
    unfolding applying_one
    one_applied op k line ks vals o f is h x = plain_popped s a m j k ks vals o (λ p rest. answering line (one_of op p) o (λ z. f z rest)) h (λ p rest e more. answered line k (one_of op p) o (λ z. f z rest) (one_is op k p is e) (λ z e. x z rest e more))

    pub two_applied : (op : Dyadic) (k v : Kind) (line : ℕ) (ks : List Kinds) (vals : List Val) (o : World) (f : Plain → List Val → Run S) → TwoKinds op k v → HandsFine s a m j (Value (Simply k) ∷ Value (Simply k) ∷ ks) vals → ((p : Plain) (rest : List Val) → kind_of p ≡ v → HandsFine s a m j ks rest → Goes P (f p rest)) → Goes P (applying_two plain op line vals o f)
    unfolding applying_two
    two_applied op k v line ks vals o f is h x =
        plain_popped s a m j k (Value (Simply k) ∷ ks) vals o (λ y rest. pop_plain plain rest o (λ x rest. answering line (two_of op o.store.frames x y) o (λ z. f z rest))) h (λ q rest e more.
        plain_popped s a m j k ks rest o (λ x rest. answering line (two_of op o.store.frames x q) o (λ z. f z rest)) more (λ p rest d most.
        answered line v (two_of op o.store.frames p q) o (λ z. f z rest) (two_shaped op k v o.store is (shape p k d) (shape q k e)) (λ z e. x z rest e most)))

    pub text_popped : (ks : List Kinds) (vals : List Val) (o : World) (f : TextVal → List Val → Run S) → HandsFine s a m j (Value (Simply kind.Text) ∷ ks) vals → ((x : TextVal) (rest : List Val) → HandsFine s a m j ks rest → Goes P (f x rest)) → Goes P (pop_text plain vals o f)
    unfolding pop_text
    text_popped ks vals o f h x = plain_popped s a m j kind.Text ks vals o (λ v rest. having (text_val v) o (λ z. f z rest)) h (λ p rest e more. is_text p rest (shape p kind.Text e) (λ z. x z rest more))
      where
        is_text : (p : Plain) (rest : List Val) → Shape p kind.Text → ((z : TextVal) → Goes P (f z rest)) → Goes P (having (text_val p) o (λ z. f z rest))
        is_text _ rest (a_text z) y = had (Some z) z o (λ z. f z rest) refl (y z)

    -- a text is assigned to another one
    pub assigning_goes : (line : ℕ) (ks : List Kinds) (vals : List Val) (o : World) (f : World → List Val → Run S) → HandsFine s a m j (Value (Simply kind.Text) ∷ Value (Simply kind.Text) ∷ ks) vals → ((frames : List Frame) (rest : List Val) → HandsFine s a m j ks rest → Goes P (f (with_texts o frames) rest)) → Goes P (assigning plain line vals o f)
    unfolding assigning
    assigning_goes line ks vals o f h go =
        text_popped (Value (Simply kind.Text) ∷ ks) vals o (λ right rest. pop_text plain rest o (λ left rest. computing line (assign o.store.frames left right).answer o (λ done. f (with_texts o (assign o.store.frames left right).frames) rest))) h (λ y rest more.
        text_popped ks rest o (λ left rest. computing line (assign o.store.frames left y).answer o (λ done. f (with_texts o (assign o.store.frames left y).frames) rest)) more (λ x rest most.
        computed line (assign o.store.frames x y).answer o (λ done. f (with_texts o (assign o.store.frames x y).frames) rest) (λ z e. go (assign o.store.frames x y).frames rest most)))

    -- `&`
    pub making_goes : (l : Limits) (line : ℕ) (making : Making) (o : World) (f : TextVal → World → Run S) → ((t w : ℕ) (z : TextVal) → Goes P (f z (with_texts (ran o t w) making.frames))) → Goes P (making_text l line making o f)
    unfolding making_text
    making_goes l line making o f go =
        took l line making.wanted o (λ p. computing line making.answer (with_texts p making.frames) (λ z. f z (with_texts p making.frames))) (λ t w.
        computed line making.answer (with_texts (ran o t w) making.frames) (λ z. f z (with_texts (ran o t w) making.frames)) (λ z e. go t w z))

    pub joining_goes : (l : Limits) (line : ℕ) (ks : List Kinds) (vals : List Val) (o : World) (f : Plain → World → List Val → Run S) → HandsFine s a m j (Value (Simply kind.Text) ∷ Value (Simply kind.Text) ∷ ks) vals → ((z : TextVal) (t w : ℕ) (frames : List Frame) (rest : List Val) → HandsFine s a m j ks rest → Goes P (f (Text z) (with_texts (ran o t w) frames) rest)) → Goes P (joining plain l line vals o f)
    unfolding joining making_text
    joining_goes l line ks vals o f h go =
        text_popped (Value (Simply kind.Text) ∷ ks) vals o (λ y rest. pop_text plain rest o (λ x rest. taking l line 0 o (λ p. made x y p rest))) h (λ y rest more.
        text_popped ks rest o (λ x rest. taking l line 0 o (λ p. made x y p rest)) more (λ x rest most.
        took l line 0 o (λ p. made x y p rest) (λ t w.
        took l line (concatenated o.store.frames x y).wanted (ran o t w) (λ p. computing line (concatenated o.store.frames x y).answer (with_texts p (concatenated o.store.frames x y).frames) (λ z. f (Text z) (with_texts p (concatenated o.store.frames x y).frames) rest)) (λ t' w'.
        computed line (concatenated o.store.frames x y).answer (with_texts (ran o t' w') (concatenated o.store.frames x y).frames) (λ z. f (Text z) (with_texts (ran o t' w') (concatenated o.store.frames x y).frames) rest) (λ z e. go z t' w' (concatenated o.store.frames x y).frames rest most)))))
      where
        made : (x y : TextVal) (p : World) (rest : List Val) → Run S
        made x y p rest = making_text l line (concatenated p.store.frames x y) p (λ z p. f (Text z) p rest)

    pub step_applied : (line : ℕ) (ks : List Kinds) (vals : List Val) (o : World) (f : Plain → List Val → Run S) → HandsFine s a m j (integers 3 ks) vals → ((p : Plain) (rest : List Val) → kind_of p ≡ kind.Boolean → HandsFine s a m j ks rest → Goes P (f p rest)) → Goes P (testing_step plain line vals o f)
    unfolding testing_step
    step_applied line ks vals o f h go =
        plain_popped s a m j kind.Integer (integers 2 ks) vals o (λ z rest. pop_plain plain rest o (λ y rest. pop_plain plain rest o (λ x rest. answering line (step_test x y z) o (λ b. f b rest)))) h (λ z rest ez more.
        plain_popped s a m j kind.Integer (integers 1 ks) rest o (λ y rest. pop_plain plain rest o (λ x rest. answering line (step_test x y z) o (λ b. f b rest))) more (λ y rest ey most.
        plain_popped s a m j kind.Integer ks rest o (λ x rest. answering line (step_test x y z) o (λ b. f b rest)) most (λ x rest ex all.
        answered line kind.Boolean (step_test x y z) o (λ b. f b rest) (step_shaped (shape x kind.Integer ex) (shape y kind.Integer ey) (shape z kind.Integer ez)) (λ b e. go b rest e all))))

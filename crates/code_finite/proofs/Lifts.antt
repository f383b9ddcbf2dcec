-- What each event goes on with, for runs of code and of the meaning: the ticks are as they were, or there is one more.
use Rattle.std.proofs.Common.{◌≡◌, ◌≤◌, ◌<◌, ℕ, zero, suc, ◌+◌, Bool, true, false, List, [], ◌∷◌, Option, Some, None, refl, sym, ◌∙◌, arith, subst}
use Rattle.std.proofs.lemmas.Bool.Decides.{nat_tests}
use Rattle.std.specs.Prelude.{ℤ, ◌==◌, nat_lt, Result, Ok, Err, if◌then◌else◌}
use Rattle.sim_base.specs.declared.limits.Limits.{Limits}
use Rattle.sim_base.specs.declared.run_error.RunError.{RunError}
use Rattle.sim_values.specs.declared.kind.Kind.{Kind}
use Rattle.sim_values.specs.declared.operators.Dyadic.{Dyadic}
use Rattle.sim_values.specs.declared.operators.Monadic.{Monadic}
use Rattle.sim_values.specs.declared.standard.Standard.{Standard}
use Rattle.sim_values.specs.declared.value.TextVal.{TextVal}
use Rattle.sim_values.specs.Operators.{Answer}
use Rattle.sim_values.specs.Plain.{Character, Integer, MainOf, Nothing, Object, Plain, Text, Truth}
use Rattle.sim_values.specs.Words.{array_words, is_exhausted}
use Rattle.sim_code.specs.Outcome.{Ended, Ending, Going, Run, World}
use Rattle.sim_values.specs.Texts.{Making, assign, concatenated, copy}
use Rattle.sim_code.specs.Formals.{ArrayCopied, Copied, NothingCopied, TextCopied, copying_value, suiting}
use Rattle.sim_code.specs.Events.{answering, applying_one, applying_two, assigning, choosing, computing, entering, having, integer_in, joining, making_text, no_rule, not_nothing, performing, pop_integers, pop_many, pop_object, pop_operands, pop_plain, pop_reference, pop_text, pop_truth, popping, putting_back, qualifying, referring, stopping, taking, testing_step, text_val, ticking, truth_in, when, with_texts}
use Rattle.sim_code.specs.Simulations.{named_in}
use Rattle.sim_code.specs.Virtuals.{counting, matching}
use Rattle.sim_code.specs.Sets.{linkage_given, linkage_named, performing_set, pop_given, set_effect, takes_linkage}
use Rattle.sim_code.specs.Arrays.{copying_array, finding_element, keeping_array, live_array, making_array, words_of_array}

-- where it goes on, this holds
abbrev pub Goes : {S : Type 0} → (P : World → S → Type 0) → Run S → Type 0
Goes P (Going o c) = P o c
Goes P (Ended o e) = Unit {0}

pub goes_with : {S : Type 0} (P Q : World → S → Type 0) (r : Run S) → ((o : World) (c : S) → P o c → Q o c) → Goes P r → Goes Q r
goes_with P Q (Going o c) f x = f o c x
goes_with P Q (Ended o e) f x = tt

module _ {S : Type 0} (P : World → S → Type 0) where
  pub goes_if : (b : Bool) (r q : Run S) → (b ≡ true → Goes P r) → Goes P q → Goes P (if b then r else q)
  goes_if true r q x y = x refl
  goes_if false r q x y = y

  pub stops : (e : Ending) (o : World) → Goes P (stopping e o)
  unfolding stopping
  stops e o = tt

  pub none : (o : World) → Goes P (no_rule o)
  unfolding no_rule
  none o = tt

  below : (a b : ℕ) → nat_lt a b ≡ true → a < b
  below a b h = grind (arith, nat_tests)

  pub ticking_goes : (l : Limits) (o : World) (f : World → Run S) → ((p : World) → p.ticks ≡ suc o.ticks → p.ticks ≤ l.ticks → Goes P (f p)) → Goes P (ticking l o f)
  unfolding ticking
  ticking_goes l o f x =
      goes_if (nat_lt o.ticks l.ticks) (f (record o { ticks = o.ticks + 1 })) (stopping _ o) (λ h. x (record o { ticks = o.ticks + 1 }) (omega arith) (omega (arith, below o.ticks l.ticks h))) (stops _ o)

  pub taking_goes : (l : Limits) (line wanted : ℕ) (o : World) (f : World → Run S) → ((p : World) → p.ticks ≡ o.ticks → Goes P (f p)) → Goes P (taking l line wanted o f)
  unfolding taking
  taking_goes l line wanted o f x = goes_if (is_exhausted l.storage o.words wanted) (stopping _ o) (f (record o { words = o.words + wanted })) (λ _. stops _ o) (x (record o { words = o.words + wanted }) refl)

  pub entering_goes : (l : Limits) (line wanted : ℕ) (o : World) (f : World → Run S) → ((p : World) → p.ticks ≡ suc o.ticks → p.ticks ≤ l.ticks → Goes P (f p)) → Goes P (entering l line wanted o f)
  unfolding entering
  entering_goes l line wanted o f x =
      ticking_goes l o _ (λ p more most. taking_goes l line wanted p f (λ q same. x q (same ∙ more) (subst (λ n. n ≤ l.ticks) (sym same) most)))

  pub having_goes : {A : Type 0} (x : Option A) (o : World) (f : A → Run S) → ((a : A) → Goes P (f a)) → Goes P (having x o f)
  unfolding having
  having_goes None o f x = none o
  having_goes (Some a) o f x = x a

  pub having_knows : {A : Type 0} (x : Option A) (o : World) (f : A → Run S) → ((a : A) → x ≡ Some a → Goes P (f a)) → Goes P (having x o f)
  unfolding having
  having_knows None o f x = none o
  having_knows (Some a) o f x = x a refl

  pub when_knows : (b : Bool) (o : World) (r : Run S) → (b ≡ true → Goes P r) → Goes P (when b o r)
  unfolding when
  when_knows b o r x = goes_if b r (no_rule o) x (none o)

  pub when_goes : (b : Bool) (o : World) (r : Run S) → Goes P r → Goes P (when b o r)
  when_goes b o r x = when_knows b o r (λ _. x)

  pub computing_goes : {A : Type 0} (line : ℕ) (r : Result A RunError) (o : World) (f : A → Run S) → ((a : A) → Goes P (f a)) → Goes P (computing line r o f)
  unfolding computing
  computing_goes line (Ok a) o f x = x a
  computing_goes line (Err e) o f x = stops _ o

  pub qualifying_goes : (line : ℕ) (is_in : Plain → Bool) (p : Plain) (o : World) (r : Run S) → Goes P r → Goes P (qualifying line is_in p o r)
  unfolding qualifying
  qualifying_goes line is_in (Object j) o r x = goes_if (is_in (Object j)) r (stopping _ o) (λ _. x) (stops _ o)
  qualifying_goes line is_in (MainOf b) o r x = goes_if (is_in (MainOf b)) r (stopping _ o) (λ _. x) (stops _ o)
  qualifying_goes line is_in Nothing o r x = x
  qualifying_goes line is_in (Integer z) o r x = none o
  qualifying_goes line is_in (Truth b) o r x = none o
  qualifying_goes line is_in (Character c) o r x = none o
  qualifying_goes line is_in (Text t) o r x = none o

  referring_goes : (line : ℕ) (p : Plain) (o : World) (f : ℕ → Run S) → ((j : ℕ) → Goes P (f j)) → Goes P (referring line p o f)
  unfolding referring
  referring_goes line (Object j) o f x = x j
  referring_goes line (MainOf b) o f x = none o
  referring_goes line Nothing o f x = stops _ o
  referring_goes line (Integer z) o f x = none o
  referring_goes line (Truth b) o f x = none o
  referring_goes line (Character c) o f x = none o
  referring_goes line (Text t) o f x = none o

  not_nothing_goes : (line : ℕ) (p : Plain) (o : World) (r : Run S) → Goes P r → Goes P (not_nothing line p o r)
  unfolding not_nothing
  not_nothing_goes line (Object j) o r x = x
  not_nothing_goes line (MainOf b) o r x = x
  not_nothing_goes line Nothing o r x = stops _ o
  not_nothing_goes line (Integer z) o r x = none o
  not_nothing_goes line (Truth b) o r x = none o
  not_nothing_goes line (Character c) o r x = none o
  not_nothing_goes line (Text t) o r x = none o

  pub choosing_goes : (b : Bool) (r q : Run S) → Goes P r → Goes P q → Goes P (choosing b r q)
  unfolding choosing
  choosing_goes b r q x y = goes_if b r q (λ _. x) y

  pub matching_goes : (line : ℕ) (found : Option (Option ℕ)) (o : World) (f : ℕ → Run S) → ((k : ℕ) → Goes P (f k)) → Goes P (matching line found o f)
  unfolding matching having
  matching_goes line None o f x = none o
  matching_goes line (Some None) o f x = stops _ o
  matching_goes line (Some (Some k)) o f x = x k

  pub counting_goes : (line formals actuals : ℕ) (o : World) (r : Run S) → Goes P r → Goes P (counting line formals actuals o r)
  unfolding counting
  counting_goes line formals actuals o r x = choosing_goes (formals == actuals) r _ x (stops _ o)

  pub suiting_goes : (line : ℕ) (fits : Bool) (o : World) (r : Run S) → Goes P r → Goes P (suiting line fits o r)
  unfolding suiting
  suiting_goes line fits o r x = choosing_goes fits r _ x (stops _ o)

  making_text_goes : (l : Limits) (line : ℕ) (making : Making) (o : World) (f : TextVal → World → Run S) → ((t : TextVal) (p : World) → p.ticks ≡ o.ticks → Goes P (f t p)) → Goes P (making_text l line making o f)
  unfolding making_text
  making_text_goes l line making o f x = taking_goes l line making.wanted o _ (λ p same. computing_goes line making.answer (with_texts p making.frames) _ (λ t. x t (with_texts p making.frames) same))

  module _ {V : Type 0} where
    pub popping_goes : (stack : List V) (o : World) (f : V → List V → Run S) → ((v : V) (rest : List V) → Goes P (f v rest)) → Goes P (popping stack o f)
    unfolding popping
    popping_goes [] o f x = none o
    popping_goes (v ∷ rest) o f x = x v rest

    pub many_goes : (n : ℕ) (got stack : List V) (o : World) (f : List V → List V → Run S) → ((vs rest : List V) → Goes P (f vs rest)) → Goes P (pop_many n got stack o f)
    unfolding pop_many
    many_goes zero got stack o f x = x got stack
    many_goes (suc n) got [] o f x = none o
    many_goes (suc n) got (v ∷ rest) o f x = many_goes n (v ∷ got) rest o f x

    operands_goes : (read : V → Option Plain) (n : ℕ) (first : Option V) (stack : List V) (o : World) (f : List Plain → Option V → List V → Run S) → ((ps : List Plain) (first : Option V) (rest : List V) → Goes P (f ps first rest)) → Goes P (pop_operands read n first stack o f)
    unfolding pop_operands
    operands_goes read zero first stack o f x = x [] first stack
    operands_goes read (suc n) first stack o f x = popping_goes stack o _ (λ v rest. having_goes (read v) o _ (λ p. operands_goes read n (Some v) rest o _ (λ ps first rest. x (p ∷ ps) first rest)))

    module _ {M : Type 0} (put : V → TextVal → World → M → (World → M → Run S) → Run S) (Kept : M → M → Type 0) (still : (m : M) → Kept m m) where
      -- where putting a text back goes on, it leaves the ticks, and this holds of the memory before and behind
      abbrev pub Puts : Type 0
      Puts = (v : V) (t : TextVal) (o : World) (m : M) (f : World → M → Run S) → ((p : World) (n : M) → p.ticks ≡ o.ticks → Kept m n → Goes P (f p n)) → Goes P (put v t o m f)

      back_goes : Puts → (first : Option V) (moved : Option TextVal) (o : World) (m : M) (f : World → M → Run S) → ((p : World) (n : M) → p.ticks ≡ o.ticks → Kept m n → Goes P (f p n)) → Goes P (putting_back put first moved o m f)
      unfolding putting_back
      back_goes puts (Some v) (Some t) o m f x = puts v t o m f x
      back_goes puts (Some v) None o m f x = x o m refl (still m)
      back_goes puts None (Some t) o m f x = x o m refl (still m)
      back_goes puts None None o m f x = x o m refl (still m)

      pub performing_goes : Puts → (read : World → M → V → Option Plain) (l : Limits) (line : ℕ) (name : Standard) (stack : List V) (o : World) (m : M) (f : World → M → Option Plain → List V → Run S)
          → ((p : World) (n : M) (value : Option Plain) (rest : List V) → p.ticks ≡ o.ticks → Kept m n → Goes P (f p n value rest)) → Goes P (performing read put l line name stack o m f)
      unfolding performing
      performing_goes puts read l line name stack o m f x =
          operands_goes (read o m) _ None stack o _ (λ vs first rest. having_goes _ o _ (λ effect. taking_goes l line _ o _ (λ p same. computing_goes line effect.answer _ _ (λ value.
          back_goes puts first effect.moved (record p { store = effect.store }) m _ (λ q n more kept. x q n value rest (more ∙ same) kept)))))

    module _ (plain : V → Option Plain) where
      pub plain_goes : (stack : List V) (o : World) (f : Plain → List V → Run S) → ((p : Plain) (rest : List V) → Goes P (f p rest)) → Goes P (pop_plain plain stack o f)
      unfolding pop_plain
      plain_goes stack o f x = popping_goes stack o _ (λ v rest. having_goes (plain v) o _ (λ p. x p rest))

      given_goes : (takes : Bool) (stack : List V) (o : World) (f : Option ℕ → List V → Run S) → ((x : Option ℕ) (rest : List V) → Goes P (f x rest)) → Goes P (pop_given plain takes stack o f)
      unfolding pop_given
      given_goes false stack o f x = x None stack
      given_goes true stack o f x = plain_goes stack o _ (λ p rest. having_goes (linkage_given o.members p) o _ (λ y. x y rest))

      pub linkage_goes : (name : Standard) (stack : List V) (o : World) (f : World → Option Plain → List V → Run S) → ((p : World) (value : Option Plain) (rest : List V) → p.ticks ≡ o.ticks → Goes P (f p value rest)) → Goes P (performing_set plain name stack o f)
      unfolding performing_set
      linkage_goes name stack o f x =
          given_goes (takes_linkage name) stack o _ (λ given rest. plain_goes rest o _ (λ p rest. having_goes (linkage_named o.members p) o _ (λ y.
          having_goes (set_effect name (named_in o.simulations) o.members y given) o _ (λ effect. x (record o { members = effect.members }) effect.value rest refl))))

      pub object_goes : (line : ℕ) (stack : List V) (o : World) (f : ℕ → List V → Run S) → ((j : ℕ) (rest : List V) → Goes P (f j rest)) → Goes P (pop_object plain line stack o f)
      unfolding pop_object
      object_goes line stack o f x = plain_goes stack o _ (λ p rest. referring_goes line p o _ (λ j. x j rest))

      pub reference_goes : (line : ℕ) (stack : List V) (o : World) (f : Plain → List V → Run S) → ((p : Plain) (rest : List V) → Goes P (f p rest)) → Goes P (pop_reference plain line stack o f)
      unfolding pop_reference
      reference_goes line stack o f x = plain_goes stack o _ (λ p rest. not_nothing_goes line p o _ (x p rest))

      pub truth_goes : (stack : List V) (o : World) (f : Bool → List V → Run S) → ((b : Bool) (rest : List V) → Goes P (f b rest)) → Goes P (pop_truth plain stack o f)
      unfolding pop_truth
      truth_goes stack o f x = plain_goes stack o _ (λ p rest. having_goes (truth_in p) o _ (λ b. x b rest))

      pub integers_goes : (n : ℕ) (got : List ℤ) (stack : List V) (o : World) (f : List ℤ → List V → Run S) → ((zs : List ℤ) (rest : List V) → Goes P (f zs rest)) → Goes P (pop_integers plain n got stack o f)
      unfolding pop_integers
      integers_goes zero got stack o f x = x got stack
      integers_goes (suc n) got stack o f x = plain_goes stack o _ (λ p rest. having_goes (integer_in p) o _ (λ z. integers_goes n (z ∷ got) rest o f x))

      answering_goes : (line : ℕ) (answer : Answer) (o : World) (f : Plain → Run S) → ((p : Plain) → Goes P (f p)) → Goes P (answering line answer o f)
      unfolding answering
      answering_goes line answer o f x = having_goes answer o _ (λ r. computing_goes line r o f x)

      pub one_goes : (op : Monadic) (line : ℕ) (stack : List V) (o : World) (f : Plain → List V → Run S) → ((p : Plain) (rest : List V) → Goes P (f p rest)) → Goes P (applying_one plain op line stack o f)
      unfolding applying_one
      one_goes op line stack o f x = plain_goes stack o _ (λ p rest. answering_goes line _ o _ (λ z. x z rest))

      pub two_goes : (op : Dyadic) (line : ℕ) (stack : List V) (o : World) (f : Plain → List V → Run S) → ((p : Plain) (rest : List V) → Goes P (f p rest)) → Goes P (applying_two plain op line stack o f)
      unfolding applying_two
      two_goes op line stack o f x = plain_goes stack o _ (λ p rest. plain_goes rest o _ (λ q rest. answering_goes line _ o _ (λ z. x z rest)))

      pub step_goes : (line : ℕ) (stack : List V) (o : World) (f : Plain → List V → Run S) → ((p : Plain) (rest : List V) → Goes P (f p rest)) → Goes P (testing_step plain line stack o f)
      unfolding testing_step
      step_goes line stack o f x = plain_goes stack o _ (λ p rest. plain_goes rest o _ (λ q rest. plain_goes rest o _ (λ r rest. answering_goes line _ o _ (λ z. x z rest))))

      text_goes : (stack : List V) (o : World) (f : TextVal → List V → Run S) → ((t : TextVal) (rest : List V) → Goes P (f t rest)) → Goes P (pop_text plain stack o f)
      unfolding pop_text
      text_goes stack o f x = plain_goes stack o _ (λ p rest. having_goes (text_val p) o _ (λ t. x t rest))

      pub assigning_goes : (line : ℕ) (stack : List V) (o : World) (f : World → List V → Run S) → ((p : World) (rest : List V) → p.ticks ≡ o.ticks → Goes P (f p rest)) → Goes P (assigning plain line stack o f)
      unfolding assigning
      assigning_goes line stack o f x = text_goes stack o _ (λ right rest. text_goes rest o _ (λ left rest. computing_goes line _ o _ (λ done. x (with_texts o (assign o.store.frames left right).frames) rest refl)))

      pub joining_goes : (l : Limits) (line : ℕ) (stack : List V) (o : World) (f : Plain → World → List V → Run S) → ((z : Plain) (p : World) (rest : List V) → p.ticks ≡ o.ticks → Goes P (f z p rest)) → Goes P (joining plain l line stack o f)
      unfolding joining
      joining_goes l line stack o f x = text_goes stack o _ (λ b rest. text_goes rest o _ (λ a rest. taking_goes l line 0 o _ (λ p same. making_text_goes l line (concatenated p.store.frames a b) p _ (λ t q more. x _ q rest (more ∙ same)))))

      pub finding_goes : (array_in : V → Option ℕ) (n line : ℕ) (stack : List V) (o : World) (f : ℕ → ℕ → List V → Run S) → ((a k : ℕ) (rest : List V) → Goes P (f a k rest)) → Goes P (finding_element plain array_in n line stack o f)
      unfolding finding_element
      finding_goes array_in n line stack o f x =
          integers_goes n [] stack o _ (λ zs rest. popping_goes rest o _ (λ v rest. having_goes (array_in v) o _ (λ a. having_goes (live_array o a) o _ (λ it. computing_goes line _ o _ (λ k. x a k rest)))))

  pub making_goes : (l : Limits) (line owner : ℕ) (kind : Kind) (bounds : List (ℤ × ℤ)) (o : World) (f : ℕ → World → Run S) → ((n : ℕ) (p : World) → p.ticks ≡ o.ticks → Goes P (f n p)) → Goes P (making_array l line owner kind bounds o f)
  unfolding making_array
  making_goes l line owner kind bounds o f x = computing_goes line (array_words bounds) o _ (λ wanted. taking_goes l line wanted o _ (λ p same. x _ _ same))

  pub copying_goes : (l : Limits) (line owner array : ℕ) (o : World) (f : ℕ → World → Run S) → ((n : ℕ) (p : World) → p.ticks ≡ o.ticks → Goes P (f n p)) → Goes P (copying_array l line owner array o f)
  unfolding copying_array
  copying_goes l line owner array o f x = having_goes (live_array o array) o _ (λ a. taking_goes l line (words_of_array a) o _ (λ p same. x _ _ same))

  pub keeping_goes : (array : ℕ) (o : World) (f : World → Run S) → ((p : World) → p.ticks ≡ o.ticks → Goes P (f p)) → Goes P (keeping_array array o f)
  unfolding keeping_array
  keeping_goes array o f x = having_goes (live_array o array) o _ (λ a. x _ refl)

  pub copied_goes : {V : Type 0} (of : Plain → V) (plain : V → Option Plain) (array : ℕ → V) (array_in : V → Option ℕ) (l : Limits) (line owner : ℕ) (c : Copied) (v : V) (o : World) (f : V → World → Run S) → ((v : V) (p : World) → p.ticks ≡ o.ticks → Goes P (f v p)) → Goes P (copying_value of plain array array_in l line owner c v o f)
  unfolding copying_value
  copied_goes of plain array array_in l line owner NothingCopied v o f x = x v o refl
  copied_goes of plain array array_in l line owner TextCopied v o f x =
      having_goes (plain v) o _ (λ p. having_goes (text_val p) o _ (λ t. making_text_goes l line (copy o.store.frames t) o _ (λ t p same. x (of (Text t)) p same)))
  copied_goes of plain array array_in l line owner ArrayCopied v o f x =
      having_goes (array_in v) o _ (λ a. copying_goes l line owner a o _ (λ n p same. x (array n) p same))

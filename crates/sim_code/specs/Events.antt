-- The events of a run, each as a word that gets what goes on behind it. The steps of the meaning and the rows of the machine are put
-- together of the same words.
use Rattle.std.specs.Prelude.{ℕ, zero, suc, ◌+◌, ◌-◌, Bool, nat_lt, if◌then◌else◌, ℤ, List, [], ◌∷◌, length, Option, Some, None, Result, Ok, Err}
use Rattle.sim_base.specs.declared.limits.Limits.{Limits}
use Rattle.sim_base.specs.declared.run_error.RunError.{RunError}
use Rattle.sim_base.specs.declared.run_error.RunError.TheVariants.{AccessThroughNone, OutsideQualification}
use Rattle.sim_values.specs.declared.operators.Dyadic.{Dyadic}
use Rattle.sim_values.specs.declared.operators.Monadic.{Monadic}
use Rattle.sim_values.specs.declared.standard.Standard.{Standard}
use Rattle.sim_values.specs.declared.value.TextVal.{TextVal}
use Rattle.sim_values.specs.Operators.{Answer, one_of, step_test, two_of}
use Rattle.sim_values.specs.Plain.{Plain, Integer, Truth, Text, Object, MainOf, Nothing}
use Rattle.sim_values.specs.Standard.{operands_of, row_of, standard_effect}
use Rattle.sim_values.specs.Store.{closing_store, image_at, with_frames, with_image}
use Rattle.sim_values.specs.Texts.{Frame, Making, assign, concatenated, same_text}
use Rattle.sim_values.specs.Words.{is_exhausted}
use Rattle.sim_code.specs.Outcome.{World, Ending, RunFault, StorageExhausted, TickLimit, NoRule, Run, Ended}

-- ---- ends

-- The run ends, but where there is no rule: what stands in the image of sysout is written.
unfoldable pub stopping : {S : Type 0} → Ending → World → Run S
stopping e o = Ended (record o { store = closing_store o.store }) e

unfoldable pub no_rule : {S : Type 0} → World → Run S
no_rule o = Ended o NoRule

-- ---- ticks and words

-- one tick, or the tick limit
unfoldable pub ticking : {S : Type 0} → Limits → World → (World → Run S) → Run S
ticking l o go = if nat_lt o.ticks l.ticks then go (record o { ticks = o.ticks + 1 }) else stopping (TickLimit l.ticks) o

-- words of storage, or exhausted storage
unfoldable pub taking : {S : Type 0} → Limits → (line wanted : ℕ) → World → (World → Run S) → Run S
taking l line wanted o go =
    if is_exhausted l.storage o.words wanted then stopping (StorageExhausted line o.words wanted) o else go (record o { words = o.words + wanted })

-- an entry takes its tick and then its words
unfoldable pub entering : {S : Type 0} → Limits → (line wanted : ℕ) → World → (World → Run S) → Run S
entering l line wanted o go = ticking l o (λ p. taking l line wanted p go)

-- words that are given back
abbrev pub returning : World → ℕ → World
returning o words = record o { words = o.words - words }

-- ---- what may be missing or refused

-- goes on with what is there, or there is no rule
unfoldable pub having : {A S : Type 0} → Option A → World → (A → Run S) → Run S
having None o go = no_rule o
having (Some a) o go = go a

-- goes on where the test holds, or there is no rule
unfoldable pub when : {S : Type 0} → Bool → World → Run S → Run S
when b o r = if b then r else no_rule o

-- goes on with a result, or ends with its error
unfoldable pub computing : {A S : Type 0} → (line : ℕ) → Result A RunError → World → (A → Run S) → Run S
computing line (Ok a) o go = go a
computing line (Err e) o go = stopping (RunFault e line) o

-- a choice
unfoldable pub choosing : {S : Type 0} → Bool → Run S → Run S → Run S
choosing b r q = if b then r else q

-- ---- values in hand, the last one first

unfoldable pub popping : {V S : Type 0} → List V → World → (V → List V → Run S) → Run S
popping [] o go = no_rule o
popping (v ∷ rest) o go = go v rest

-- as many values, in the order in which they came
unfoldable pub pop_many : {V S : Type 0} → ℕ → List V → List V → World → (List V → List V → Run S) → Run S
pop_many zero got stack o go = go got stack
pop_many (suc n) got [] o go = no_rule o
pop_many (suc n) got (v ∷ rest) o go = pop_many n (v ∷ got) rest o go

-- The values in hand of the meaning are others than those of the machine; `plain` tells of each which plain value it is, if it is one.
unfoldable pub pop_plain : {V S : Type 0} → (plain : V → Option Plain) → List V → World → (Plain → List V → Run S) → Run S
pop_plain plain stack o go = popping stack o (λ v rest. having (plain v) o (λ p. go p rest))

abbrev pub truth_in : Plain → Option Bool
truth_in (Truth b) = Some b
truth_in _ = None

abbrev pub integer_in : Plain → Option ℤ
integer_in (Integer z) = Some z
integer_in _ = None

-- a truth value
unfoldable pub pop_truth : {V S : Type 0} → (plain : V → Option Plain) → List V → World → (Bool → List V → Run S) → Run S
pop_truth plain stack o go = pop_plain plain stack o (λ v rest. having (truth_in v) o (λ b. go b rest))

-- as many integers, in the order in which they came
unfoldable pub pop_integers : {V S : Type 0} → (plain : V → Option Plain) → ℕ → List ℤ → List V → World → (List ℤ → List V → Run S) → Run S
pop_integers plain zero got stack o go = go got stack
pop_integers plain (suc n) got stack o go = pop_plain plain stack o (λ v rest. having (integer_in v) o (λ z. pop_integers plain n (z ∷ got) rest o go))

abbrev pub text_val : Plain → Option TextVal
text_val (Text t) = Some t
text_val _ = None

-- a text
unfoldable pub pop_text : {V S : Type 0} → (plain : V → Option Plain) → List V → World → (TextVal → List V → Run S) → Run S
pop_text plain stack o go = pop_plain plain stack o (λ v rest. having (text_val v) o (λ t. go t rest))

-- ---- references

-- the object that a reference names; E6 for none
unfoldable pub referring : {S : Type 0} → (line : ℕ) → Plain → World → (ℕ → Run S) → Run S
referring line (Object j) o go = go j
referring line Nothing o go = stopping (RunFault AccessThroughNone line) o
referring line _ o go = no_rule o

unfoldable pub pop_object : {V S : Type 0} → (plain : V → Option Plain) → (line : ℕ) → List V → World → (ℕ → List V → Run S) → Run S
pop_object plain line stack o go = pop_plain plain stack o (λ v rest. referring line v o (λ j. go j rest))

-- the reference itself, to an object or a main program; E6 for none
unfoldable pub not_nothing : {S : Type 0} → (line : ℕ) → Plain → World → Run S → Run S
not_nothing line (Object j) o r = r
not_nothing line (MainOf b) o r = r
not_nothing line Nothing o r = stopping (RunFault AccessThroughNone line) o
not_nothing line _ o r = no_rule o

unfoldable pub pop_reference : {V S : Type 0} → (plain : V → Option Plain) → (line : ℕ) → List V → World → (Plain → List V → Run S) → Run S
pop_reference plain line stack o go = pop_plain plain stack o (λ v rest. not_nothing line v o (go v rest))

-- goes on where a reference is none, or where what it names passes the test of a qualification; else E7
unfoldable pub qualifying : {S : Type 0} → (line : ℕ) → (is_in : Plain → Bool) → Plain → World → Run S → Run S
qualifying line is_in (Object j) o r = if is_in (Object j) then r else stopping (RunFault OutsideQualification line) o
qualifying line is_in (MainOf b) o r = if is_in (MainOf b) then r else stopping (RunFault OutsideQualification line) o
qualifying line is_in Nothing o r = r
qualifying line is_in _ o r = no_rule o

-- ---- operators

-- there is no rule for operands of a wrong kind
unfoldable pub answering : {S : Type 0} → (line : ℕ) → Answer → World → (Plain → Run S) → Run S
answering line answer o go = having answer o (λ r. computing line r o go)

unfoldable pub applying_one : {V S : Type 0} → (plain : V → Option Plain) → Monadic → (line : ℕ) → List V → World → (Plain → List V → Run S) → Run S
applying_one plain op line stack o go = pop_plain plain stack o (λ x rest. answering line (one_of op x) o (λ z. go z rest))

unfoldable pub applying_two : {V S : Type 0} → (plain : V → Option Plain) → Dyadic → (line : ℕ) → List V → World → (Plain → List V → Run S) → Run S
applying_two plain op line stack o go =
    pop_plain plain stack o (λ y rest. pop_plain plain rest o (λ x rest. answering line (two_of op o.store.frames x y) o (λ z. go z rest)))

-- the test of a step element on its step, its variable and its limit
unfoldable pub testing_step : {V S : Type 0} → (plain : V → Option Plain) → (line : ℕ) → List V → World → (Plain → List V → Run S) → Run S
testing_step plain line stack o go =
    pop_plain plain stack o (λ z rest. pop_plain plain rest o (λ y rest. pop_plain plain rest o (λ x rest. answering line (step_test x y z) o (λ b. go b rest))))

-- ---- standard names

-- A text operand may be an address, and then is the text that is there when the name is performed. So the operands are read in a memory M.
-- They come last one first, and with them where the first one, which a name may move, came from.
unfoldable pub pop_operands : {V S : Type 0} → (read : V → Option Plain) → ℕ → (first : Option V) → List V → World → (List Plain → Option V → List V → Run S) → Run S
pop_operands read zero first stack o go = go [] first stack
pop_operands read (suc n) first stack o go =
    popping stack o (λ v rest. having (read v) o (λ p. pop_operands read n (Some v) rest o (λ ps first rest. go (p ∷ ps) first rest)))

-- what an operand read at an address is: a text, or nothing
abbrev pub only_text : Option Plain → Option Plain
only_text (Some (Text t)) = Some (Text t)
only_text _ = None

-- a text with another position is put back to where it came from
unfoldable pub putting_back : {V M S : Type 0} → (put : V → TextVal → World → M → (World → M → Run S) → Run S) → (first : Option V) → (moved : Option TextVal) → World → M → (World → M → Run S) → Run S
putting_back put (Some v) (Some t) o m go = put v t o m go
putting_back put _ _ o m go = go o m

-- A standard name does what it does to the texts and images, with the words of a text that it makes, and puts its text operand back where
-- it has moved that. It goes on with its value, if it has one.
unfoldable pub performing : {V M S : Type 0} → (read : World → M → V → Option Plain) → (put : V → TextVal → World → M → (World → M → Run S) → Run S)
    → Limits → (line : ℕ) → Standard → List V → World → M → (World → M → Option Plain → List V → Run S) → Run S
performing read put l line name stack o m go =
    pop_operands (read o m) (length (operands_of (row_of name).function)) None stack o (λ vs first rest.
    having (standard_effect name vs o.store) o (λ effect.
    taking l line effect.wanted o (λ p.
    computing line effect.answer (record p { store = effect.store }) (λ value.
    putting_back put first effect.moved (record p { store = effect.store }) m (λ p m. go p m value rest)))))

-- ---- texts

abbrev pub with_texts : World → List Frame → World
with_texts o frames = record o { store = with_frames o.store frames }

-- `left := right`, with the right text on top
unfoldable pub assigning : {V S : Type 0} → (plain : V → Option Plain) → (line : ℕ) → List V → World → (World → List V → Run S) → Run S
assigning plain line stack o go =
    pop_text plain stack o (λ right rest. pop_text plain rest o (λ left rest.
    computing line (assign o.store.frames left right).answer o (λ done. go (with_texts o (assign o.store.frames left right).frames) rest)))

-- a text is made, with its words
unfoldable pub making_text : {S : Type 0} → Limits → (line : ℕ) → Making → World → (TextVal → World → Run S) → Run S
making_text l line making o go = taking l line making.wanted o (λ p. computing line making.answer (with_texts p making.frames) (λ t. go t (with_texts p making.frames)))

-- `a & b`: the lengths of both texts are found as `length` finds them, which asks for no words; then the new text is made
unfoldable pub joining : {V S : Type 0} → (plain : V → Option Plain) → Limits → (line : ℕ) → List V → World → (Plain → World → List V → Run S) → Run S
joining plain l line stack o go =
    pop_text plain stack o (λ b rest. pop_text plain rest o (λ a rest. taking l line 0 o (λ p. making_text l line (concatenated p.store.frames a b) p (λ t p. go (Text t) p rest))))

-- ---- images

-- the image of sysin, 0, or of sysout, 1
abbrev pub text_of : Option TextVal → Option Plain
text_of None = None
text_of (Some t) = Some (Text t)

abbrev pub image_value : World → ℕ → Option Plain
image_value o n = text_of (image_at o.store n)

-- an image moved to the position of a text that is that image; none where it is another text
abbrev pub image_moved : World → ℕ → (image moved : Option TextVal) → Option World
image_moved o n (Some image) (Some t) = if same_text image t then Some (record o { store = with_image o.store n t }) else None
image_moved o n _ _ = None

abbrev pub image_set : World → ℕ → Plain → Option World
image_set o n p = image_moved o n (image_at o.store n) (text_val p)

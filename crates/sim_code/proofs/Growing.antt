-- Each event of a run leaves what is written, and may write more.
use Rattle.std.proofs.Common.{◌≡◌, ℕ, zero, suc, ◌+◌, List, [], ◌∷◌, ◌++◌, length, Option, Some, None, Bool, true, false, refl, sym, subst, ap, ◌∙◌, arith, append_assoc, append-nil}
use Rattle.std.specs.Prelude.{ℤ, nat_lt, slice_index, Result, Ok, Err, if◌then◌else◌}
use Rattle.sim_base.specs.declared.limits.Limits.{Limits}
use Rattle.sim_base.specs.declared.run_error.RunError.{RunError}
use Rattle.sim_base.specs.declared.run_error.RunError.TheVariants.{FieldTooLong}
use Rattle.sim_values.specs.declared.operators.Dyadic.{Dyadic}
use Rattle.sim_values.specs.declared.operators.Monadic.{Monadic}
use Rattle.sim_values.specs.declared.standard.Standard.{Standard}
use Rattle.sim_values.specs.declared.standard.Standard.TheVariants as name
use Rattle.sim_values.specs.declared.value.TextVal.{TextVal}
use Rattle.sim_values.specs.declared.kind.Kind.{Kind}
use Rattle.sim_values.specs.Operators.{Answer, one_of, step_test, two_of}
use Rattle.sim_values.specs.Images.{OutputState, is_used_up, all_placed, integer_field, last_image, outchar, outchars, outimage, outint, outtext, placed, with_room}
use Rattle.sim_values.specs.Plain.{Plain, Integer, Truth, Character, Text, Object, MainOf, Nothing}
use Rattle.sim_values.specs.Standard.{Function, applied, elsewhere, of_character, of_integer, of_integers, of_nothing, of_text, of_text_and_character, of_text_and_integer, of_text_and_integers, operands_of, row_of, standard_effect, take_character, take_integer, take_nothing, take_text}
use Rattle.sim_values.specs.Store.{Effect, Store, output_of, writes}
use Rattle.sim_values.specs.Texts.{assign, characters}
use Rattle.sim_values.specs.Words.{array_words, is_exhausted}
use Rattle.sim_code.specs.Outcome.{ArrayOf, Ending, Ended, Going, Run, World, after, next}
use Rattle.sim_code.specs.Events.{answering, applying_one, applying_two, assigning, choosing, computing, entering, having, integer_in, no_rule, not_nothing, performing, pop_integers, pop_many, pop_object, pop_operands, pop_plain, pop_reference, pop_text, pop_truth, popping, putting_back, referring, stopping, taking, testing_step, text_val, ticking, truth_in, when, with_texts}
use Rattle.sim_code.specs.Arrays.{copying_array, element_place, finding_element, keeping_array, live_array, making_array}
use Rattle.sim_code.specs.Simulations.{named_in}
use Rattle.sim_code.specs.Sets.{SetEffect, linkage_given, linkage_named, performing_set, pop_given, set_effect, takes_linkage}
use Rattle.sim_code.specs.Growing.{Grown, written}

-- ---- lists that grow

pub grown_same : (xs : List ℕ) → Grown xs xs
grown_same xs = ([], sym (append-nil xs))

pub grown_then : (xs ys zs : List ℕ) → Grown xs ys → Grown ys zs → Grown xs zs
grown_then xs ys zs f g = (f.0 ++ g.0, g.1 ∙ ap (λ l. l ++ g.0) f.1 ∙ append_assoc xs f.0 g.0)

-- ---- output

abbrev Longer : OutputState → OutputState → Type 0
Longer s t = Grown s.written t.written

line_longer : (s : OutputState) → Longer s (outimage s)
line_longer s = (_, refl)

longer_if : (b : Bool) (s t u : OutputState) → Longer s t → Longer s u → Longer s (if b then t else u)
longer_if true s t u f g = f
longer_if false s t u f g = g

same_longer : (s : OutputState) → Longer s s
same_longer s = grown_same s.written

last_longer : (s : OutputState) → Longer s (last_image s)
last_longer s = longer_if (nat_lt 1 s.image.pos) s (outimage s) s (line_longer s) (same_longer s)

room_longer : (s : OutputState) (n : ℕ) → Longer s (with_room s n)
room_longer s n = longer_if (nat_lt (s.image.length + 1) (s.image.pos + n)) s (outimage s) s (line_longer s) (same_longer s)

outchar_longer : (s : OutputState) (c : ℕ) → Longer s (outchar s c)
outchar_longer s c = longer_if (is_used_up s.image) s (outimage s) s (line_longer s) (same_longer s)

outchars_longer : (n k : ℕ) (t : TextVal) (s : OutputState) → Longer s (outchars n k t s)
outchars_longer zero k t s = same_longer s
outchars_longer (suc n) k t s =
    let next : OutputState = outchar s (slice_index (characters s.frames t) k) in
    grown_then s.written next.written (outchars n (suc k) t next).written (outchar_longer s (slice_index (characters s.frames t) k)) (outchars_longer n (suc k) t next)

outtext_longer : (s : OutputState) (t : TextVal) → Longer s (outtext s t)
outtext_longer s t =
    let first : OutputState = if nat_lt 1 s.image.pos then with_room s t.length else s in
    grown_then s.written first.written (outtext s t).written (longer_if (nat_lt 1 s.image.pos) s (with_room s t.length) s (room_longer s t.length) (same_longer s)) (outchars_longer t.length 0 t first)

placed_same : (s : OutputState) (cs : List ℕ) → (all_placed s cs).written ≡ s.written
placed_same s [] = refl
placed_same s (c ∷ cs) = placed_same (placed s c) cs

-- ---- what a standard name does

abbrev Lasting : Store → Effect → Type 0
Lasting s e = Grown s.written e.store.written

still : (s : Store) → Grown s.written s.written
still s = grown_same s.written

written_lasts : (s : Store) (r : Result OutputState RunError) → ((o : OutputState) → r ≡ Ok o → Longer (output_of s) o) → Lasting s (writes r s)
written_lasts s (Ok o) h = h o refl
written_lasts s (Err e) h = still s

ok_same : (p o : OutputState) (r : Result OutputState RunError) → r ≡ Ok p → r ≡ Ok o → p ≡ o
ok_same p o r f h = cc

output_lasts : (s : Store) (o : OutputState) → Longer (output_of s) o → Lasting s (writes (Ok o) s)
output_lasts s o h = h

chosen : (b : Bool) (e : RunError) (o p : OutputState) → (if b then Err e else Ok p) ≡ Ok o → p ≡ o
chosen true e o p h = absurd (cc)
chosen false e o p h = ok_same p o (Ok p) refl h

outint_lasts : (s : Store) (i w : ℤ) → Lasting s (writes (outint (output_of s) i w) s)
outint_lasts s i w = written_lasts s (outint (output_of s) i w) (λ o is.
    let field : List ℕ = integer_field i w in
    let room : OutputState = with_room (output_of s) (length field) in
    let at : all_placed room field ≡ o = chosen (nat_lt s.sysout.length (length field)) FieldTooLong o (all_placed room field) is in
    subst (λ p. Longer (output_of s) p) at (subst (λ l. Grown s.written l) (sym (placed_same room field)) (room_longer (output_of s) (length field))))

-- a function that leaves what is written
abbrev Leaves : Function → Type 0
Leaves (of_nothing f) = (s : Store) → Lasting s (f s)
Leaves (of_integer f) = (i : ℤ) (s : Store) → Lasting s (f i s)
Leaves (of_integers f) = (i j : ℤ) (s : Store) → Lasting s (f i j s)
Leaves (of_character f) = (c : ℕ) (s : Store) → Lasting s (f c s)
Leaves (of_text f) = (t : TextVal) (s : Store) → Lasting s (f t s)
Leaves (of_text_and_integer f) = (t : TextVal) (i : ℤ) (s : Store) → Lasting s (f t i s)
Leaves (of_text_and_integers f) = (t : TextVal) (i j : ℤ) (s : Store) → Lasting s (f t i j s)
Leaves (of_text_and_character f) = (t : TextVal) (c : ℕ) (s : Store) → Lasting s (f t c s)
Leaves elsewhere = Unit {0}

abbrev If : Store → Option Effect → Type 0
If s None = Unit {0}
If s (Some e) = Lasting s e

took_nothing : (s : Store) (vs : List Plain) (e : Effect) → Lasting s e → If s (take_nothing vs e)
unfolding take_nothing
took_nothing s [] e h = h
took_nothing s (v ∷ vs) e h = tt

took_integer : (s : Store) (vs : List Plain) (go : ℤ → List Plain → Option Effect) → ((i : ℤ) (rest : List Plain) → If s (go i rest)) → If s (take_integer vs go)
unfolding take_integer
took_integer s [] go h = tt
took_integer s (Integer z ∷ rest) go h = h z rest
took_integer s (Truth b ∷ rest) go h = tt
took_integer s (Character c ∷ rest) go h = tt
took_integer s (Text t ∷ rest) go h = tt
took_integer s (Object j ∷ rest) go h = tt
took_integer s (MainOf b ∷ rest) go h = tt
took_integer s (Nothing ∷ rest) go h = tt

took_character : (s : Store) (vs : List Plain) (go : ℕ → List Plain → Option Effect) → ((c : ℕ) (rest : List Plain) → If s (go c rest)) → If s (take_character vs go)
unfolding take_character
took_character s [] go h = tt
took_character s (Integer z ∷ rest) go h = tt
took_character s (Truth b ∷ rest) go h = tt
took_character s (Character c ∷ rest) go h = h c rest
took_character s (Text t ∷ rest) go h = tt
took_character s (Object j ∷ rest) go h = tt
took_character s (MainOf b ∷ rest) go h = tt
took_character s (Nothing ∷ rest) go h = tt

took_text : (s : Store) (vs : List Plain) (go : TextVal → List Plain → Option Effect) → ((t : TextVal) (rest : List Plain) → If s (go t rest)) → If s (take_text vs go)
unfolding take_text
took_text s [] go h = tt
took_text s (Integer z ∷ rest) go h = tt
took_text s (Truth b ∷ rest) go h = tt
took_text s (Character c ∷ rest) go h = tt
took_text s (Text t ∷ rest) go h = h t rest
took_text s (Object j ∷ rest) go h = tt
took_text s (MainOf b ∷ rest) go h = tt
took_text s (Nothing ∷ rest) go h = tt

applied_lasts : (f : Function) (vs : List Plain) (s : Store) → Leaves f → If s (applied f vs s)
applied_lasts (of_nothing f) vs s h = took_nothing s vs (f s) (h s)
applied_lasts (of_integer f) vs s h = took_integer s vs _ (λ i rest. took_nothing s rest (f i s) (h i s))
applied_lasts (of_integers f) vs s h = took_integer s vs _ (λ j rest. took_integer s rest _ (λ i rest. took_nothing s rest (f i j s) (h i j s)))
applied_lasts (of_character f) vs s h = took_character s vs _ (λ c rest. took_nothing s rest (f c s) (h c s))
applied_lasts (of_text f) vs s h = took_text s vs _ (λ t rest. took_nothing s rest (f t s) (h t s))
applied_lasts (of_text_and_integer f) vs s h = took_integer s vs _ (λ i rest. took_text s rest _ (λ t rest. took_nothing s rest (f t i s) (h t i s)))
applied_lasts (of_text_and_integers f) vs s h = took_integer s vs _ (λ n rest. took_integer s rest _ (λ i rest. took_text s rest _ (λ t rest. took_nothing s rest (f t i n s) (h t i n s))))
applied_lasts (of_text_and_character f) vs s h = took_character s vs _ (λ c rest. took_text s rest _ (λ t rest. took_nothing s rest (f t c s) (h t c s)))
applied_lasts elsewhere vs s h = tt

names_leave : (n : Standard) → Leaves (row_of n).function
unfolding row_of
names_leave name.Abs = λ _. still
names_leave name.Sign = λ _. still
names_leave name.Min = λ _ _. still
names_leave name.Max = λ _ _. still
names_leave name.Mod = λ _ _. still
names_leave name.Rem = λ _ _. still
names_leave name.Maxint = still
names_leave name.Minint = still
names_leave name.Char = λ _. still
names_leave name.Rank = λ _. still
names_leave name.Isochar = λ _. still
names_leave name.Isorank = λ _. still
names_leave name.Digit = λ _. still
names_leave name.Letter = λ _. still
names_leave name.Blanks = λ _. still
names_leave name.Copy = λ _. still
names_leave name.Upcase = λ _. still
names_leave name.Lowcase = λ _. still
names_leave name.TextConstant = λ _. still
names_leave name.TextStart = λ _. still
names_leave name.TextLength = λ _. still
names_leave name.TextPos = λ _. still
names_leave name.TextMore = λ _. still
names_leave name.TextMain = λ _. still
names_leave name.TextSetpos = λ _ _. still
names_leave name.TextGetchar = λ _. still
names_leave name.TextPutchar = λ _ _. still
names_leave name.TextSub = λ _ _ _. still
names_leave name.TextStrip = λ _. still
names_leave name.TextGetint = λ _. still
names_leave name.TextPutint = λ _ _. still
names_leave name.Inimage = still
names_leave name.Inchar = still
names_leave name.Inint = still
names_leave name.Intext = λ _. still
names_leave name.Lastitem = still
names_leave name.Endfile = still
names_leave name.Outimage = λ s. line_longer (output_of s)
names_leave name.Outchar = λ c s. outchar_longer (output_of s) c
names_leave name.Outtext = λ t s. outtext_longer (output_of s) t
names_leave name.Outint = λ i w s. outint_lasts s i w
names_leave name.Image = tt
names_leave name.Pos = tt
names_leave name.Setpos = tt
names_leave name.More = tt
names_leave name.Length = tt
names_leave name.Detach = tt
names_leave name.Call = tt
names_leave name.Resume = tt
names_leave name.Suc = tt
names_leave name.Pred = tt
names_leave name.Prev = tt
names_leave name.Out = tt
names_leave name.Follow = tt
names_leave name.Precede = tt
names_leave name.Into = tt
names_leave name.First = tt
names_leave name.Last = tt
names_leave name.Empty = tt
names_leave name.Cardinal = tt
names_leave name.Clear = tt
names_leave name.Idle = tt
names_leave name.Terminated = tt
names_leave name.Evtime = tt
names_leave name.Nextev = tt
names_leave name.Time = tt
names_leave name.Current = tt
names_leave name.Main = tt
names_leave name.Hold = tt
names_leave name.Passivate = tt
names_leave name.Wait = tt
names_leave name.Cancel = tt

effect_lasts : (n : Standard) (vs : List Plain) (s : Store) → If s (standard_effect n vs s)
unfolding standard_effect
effect_lasts n vs s = applied_lasts (row_of n).function vs s (names_leave n)

-- ---- events

-- what is written of the run begins with this
pub record Grows {S : Type 0} (first : List ℕ) (r : Run S) : Type 0 where
  pub more : Grown first (written r)

module _ (S : Type 0) where
  pub grows_no_rule : (o : World) → Grows {S = S} o.store.written (no_rule o)
  unfolding no_rule
  grows_no_rule o = record { more = grown_same o.store.written }

  pub grows_stopping : (e : Ending) (o : World) → Grows {S = S} o.store.written (stopping e o)
  unfolding stopping
  grows_stopping e o = record { more = last_longer (output_of o.store) }

  pub grows_if : (b : Bool) (o : World) (r q : Run S) → Grows o.store.written r → Grows o.store.written q → Grows o.store.written (if b then r else q)
  grows_if true o r q h g = h
  grows_if false o r q h g = g

  pub grows_choosing : (b : Bool) (o : World) (r q : Run S) → Grows o.store.written r → Grows o.store.written q → Grows o.store.written (choosing b r q)
  unfolding choosing
  grows_choosing b o r q h g = grows_if b o r q h g

  pub grows_when : (b : Bool) (o : World) (r : Run S) → Grows o.store.written r → Grows o.store.written (when b o r)
  unfolding when
  grows_when b o r h = grows_if b o r (no_rule o) h (grows_no_rule o)

  pub grows_ticking : (l : Limits) (o : World) (go : World → Run S) → ((p : World) → Grows p.store.written (go p)) → Grows o.store.written (ticking l o go)
  unfolding ticking
  grows_ticking l o go h = grows_if (nat_lt o.ticks l.ticks) o _ _ (h (record o { ticks = o.ticks + 1 })) (grows_stopping _ o)

  pub grows_taking : (l : Limits) (line wanted : ℕ) (o : World) (go : World → Run S) → ((p : World) → p.store ≡ o.store → Grows p.store.written (go p)) → Grows o.store.written (taking l line wanted o go)
  unfolding taking
  grows_taking l line wanted o go h = grows_if (is_exhausted l.storage o.words wanted) o _ _ (grows_stopping _ o) (h (record o { words = o.words + wanted }) refl)

  pub grows_entering : (l : Limits) (line wanted : ℕ) (o : World) (go : World → Run S) → ((p : World) → Grows p.store.written (go p)) → Grows o.store.written (entering l line wanted o go)
  unfolding entering
  grows_entering l line wanted o go h = grows_ticking l o _ (λ p. grows_taking l line wanted p go (λ q _. h q))

  pub grows_having : (A : Type 0) (x : Option A) (o : World) (go : A → Run S) → ((a : A) → x ≡ Some a → Grows o.store.written (go a)) → Grows o.store.written (having x o go)
  unfolding having
  grows_having A None o go h = grows_no_rule o
  grows_having A (Some a) o go h = h a refl

  pub grows_computing : (A : Type 0) (line : ℕ) (x : Result A RunError) (o : World) (go : A → Run S) → ((a : A) → Grows o.store.written (go a)) → Grows o.store.written (computing line x o go)
  unfolding computing
  grows_computing A line (Ok a) o go h = h a
  grows_computing A line (Err e) o go h = grows_stopping _ o

  pub grows_answering : (line : ℕ) (x : Answer) (o : World) (go : Plain → Run S) → ((z : Plain) → Grows o.store.written (go z)) → Grows o.store.written (answering line x o go)
  unfolding answering
  grows_answering line x o go h = grows_having (Result Plain RunError) x o _ (λ r _. grows_computing Plain line r o go h)

  pub grows_making : (l : Limits) (line owner : ℕ) (kind : Kind) (bounds : List (ℤ × ℤ)) (o : World) (go : ℕ → World → Run S) → ((n : ℕ) (p : World) → Grows p.store.written (go n p)) → Grows o.store.written (making_array l line owner kind bounds o go)
  unfolding making_array
  grows_making l line owner kind bounds o go h = grows_computing ℕ line (array_words bounds) o _ (λ wanted. grows_taking l line wanted o _ (λ p _. h (length p.arrays) _))

  pub grows_copying : (l : Limits) (line owner array : ℕ) (o : World) (go : ℕ → World → Run S) → ((n : ℕ) (p : World) → Grows p.store.written (go n p)) → Grows o.store.written (copying_array l line owner array o go)
  unfolding copying_array
  grows_copying l line owner array o go h = grows_having ArrayOf (live_array o array) o _ (λ x _. grows_taking l line _ o _ (λ p _. h (length p.arrays) _))

  pub grows_keeping : (array : ℕ) (o : World) (go : World → Run S) → ((p : World) → Grows p.store.written (go p)) → Grows o.store.written (keeping_array array o go)
  unfolding keeping_array
  grows_keeping array o go h = grows_having ArrayOf (live_array o array) o _ (λ x _. h _)

  module _ (V : Type 0) (plain : V → Option Plain) where
    pub grows_popping : (vals : List V) (o : World) (go : V → List V → Run S) → ((v : V) (rest : List V) → Grows o.store.written (go v rest)) → Grows o.store.written (popping vals o go)
    unfolding popping
    grows_popping [] o go h = grows_no_rule o
    grows_popping (v ∷ rest) o go h = h v rest

    pub grows_many : (n : ℕ) (got vals : List V) (o : World) (go : List V → List V → Run S) → ((values rest : List V) → Grows o.store.written (go values rest)) → Grows o.store.written (pop_many n got vals o go)
    unfolding pop_many
    grows_many zero got vals o go h = h got vals
    grows_many (suc n) got [] o go h = grows_no_rule o
    grows_many (suc n) got (v ∷ vals) o go h = grows_many n (v ∷ got) vals o go h

    pub grows_plain : (vals : List V) (o : World) (go : Plain → List V → Run S) → ((p : Plain) (rest : List V) → Grows o.store.written (go p rest)) → Grows o.store.written (pop_plain plain vals o go)
    unfolding pop_plain
    grows_plain vals o go h = grows_popping vals o _ (λ v rest. grows_having Plain (plain v) o _ (λ p _. h p rest))

    pub grows_truth : (vals : List V) (o : World) (go : Bool → List V → Run S) → ((b : Bool) (rest : List V) → Grows o.store.written (go b rest)) → Grows o.store.written (pop_truth plain vals o go)
    unfolding pop_truth
    grows_truth vals o go h = grows_plain vals o _ (λ p rest. grows_having Bool (truth_in p) o _ (λ b _. h b rest))

    pub grows_integers : (n : ℕ) (got : List ℤ) (vals : List V) (o : World) (go : List ℤ → List V → Run S) → ((values : List ℤ) (rest : List V) → Grows o.store.written (go values rest)) → Grows o.store.written (pop_integers plain n got vals o go)
    unfolding pop_integers
    grows_integers zero got vals o go h = h got vals
    grows_integers (suc n) got vals o go h = grows_plain vals o _ (λ p rest. grows_having ℤ (integer_in p) o _ (λ z _. grows_integers n (z ∷ got) rest o go h))

    pub grows_text : (vals : List V) (o : World) (go : TextVal → List V → Run S) → ((t : TextVal) (rest : List V) → Grows o.store.written (go t rest)) → Grows o.store.written (pop_text plain vals o go)
    unfolding pop_text
    grows_text vals o go h = grows_plain vals o _ (λ p rest. grows_having TextVal (text_val p) o _ (λ t _. h t rest))

    grows_referring : (line : ℕ) (p : Plain) (o : World) (go : ℕ → Run S) → ((j : ℕ) → Grows o.store.written (go j)) → Grows o.store.written (referring line p o go)
    unfolding referring
    grows_referring line (Object j) o go h = h j
    grows_referring line (MainOf b) o go h = grows_no_rule o
    grows_referring line Nothing o go h = grows_stopping _ o
    grows_referring line (Integer z) o go h = grows_no_rule o
    grows_referring line (Truth b) o go h = grows_no_rule o
    grows_referring line (Character c) o go h = grows_no_rule o
    grows_referring line (Text t) o go h = grows_no_rule o

    pub grows_object : (line : ℕ) (vals : List V) (o : World) (go : ℕ → List V → Run S) → ((j : ℕ) (rest : List V) → Grows o.store.written (go j rest)) → Grows o.store.written (pop_object plain line vals o go)
    unfolding pop_object
    grows_object line vals o go h = grows_plain vals o _ (λ p rest. grows_referring line p o _ (λ j. h j rest))

    grows_not_nothing : (line : ℕ) (p : Plain) (o : World) (r : Run S) → Grows o.store.written r → Grows o.store.written (not_nothing line p o r)
    unfolding not_nothing
    grows_not_nothing line (Object j) o r h = h
    grows_not_nothing line (MainOf b) o r h = h
    grows_not_nothing line Nothing o r h = grows_stopping _ o
    grows_not_nothing line (Integer z) o r h = grows_no_rule o
    grows_not_nothing line (Truth b) o r h = grows_no_rule o
    grows_not_nothing line (Character c) o r h = grows_no_rule o
    grows_not_nothing line (Text t) o r h = grows_no_rule o

    pub grows_reference : (line : ℕ) (vals : List V) (o : World) (go : Plain → List V → Run S) → ((v : Plain) (rest : List V) → Grows o.store.written (go v rest)) → Grows o.store.written (pop_reference plain line vals o go)
    unfolding pop_reference
    grows_reference line vals o go h = grows_plain vals o _ (λ v rest. grows_not_nothing line v o _ (h v rest))

    grows_given : (takes : Bool) (vals : List V) (o : World) (go : Option ℕ → List V → Run S) → ((x : Option ℕ) (rest : List V) → Grows o.store.written (go x rest)) → Grows o.store.written (pop_given plain takes vals o go)
    unfolding pop_given
    grows_given false vals o go h = h None vals
    grows_given true vals o go h = grows_plain vals o _ (λ p rest. grows_having (Option ℕ) (linkage_given o.members p) o _ (λ x _. h x rest))

    pub grows_set : (name : Standard) (vals : List V) (o : World) (go : World → Option Plain → List V → Run S) → ((p : World) (value : Option Plain) (rest : List V) → Grows p.store.written (go p value rest)) → Grows o.store.written (performing_set plain name vals o go)
    unfolding performing_set
    grows_set name vals o go h =
        grows_given (takes_linkage name) vals o _ (λ given rest. grows_plain rest o _ (λ p rest. grows_having ℕ (linkage_named o.members p) o _ (λ x _.
        grows_having SetEffect (set_effect name (named_in o.simulations) o.members x given) o _ (λ effect _. h (record o { members = effect.members }) effect.value rest))))

    pub grows_assigning : (line : ℕ) (vals : List V) (o : World) (go : World → List V → Run S) → ((p : World) (rest : List V) → Grows p.store.written (go p rest)) → Grows o.store.written (assigning plain line vals o go)
    unfolding assigning
    grows_assigning line vals o go h = grows_text vals o _ (λ right rest. grows_text rest o _ (λ left rest. grows_computing (Unit {0}) line (assign o.store.frames left right).answer o _ (λ done. h (with_texts o (assign o.store.frames left right).frames) rest)))

    pub grows_one : (op : Monadic) (line : ℕ) (vals : List V) (o : World) (go : Plain → List V → Run S) → ((p : Plain) (rest : List V) → Grows o.store.written (go p rest)) → Grows o.store.written (applying_one plain op line vals o go)
    unfolding applying_one
    grows_one op line vals o go h = grows_plain vals o _ (λ x rest. grows_answering line (one_of op x) o _ (λ z. h z rest))

    pub grows_two : (op : Dyadic) (line : ℕ) (vals : List V) (o : World) (go : Plain → List V → Run S) → ((p : Plain) (rest : List V) → Grows o.store.written (go p rest)) → Grows o.store.written (applying_two plain op line vals o go)
    unfolding applying_two
    grows_two op line vals o go h = grows_plain vals o _ (λ y rest. grows_plain rest o _ (λ x rest. grows_answering line (two_of op o.store.frames x y) o _ (λ z. h z rest)))

    pub grows_step : (line : ℕ) (vals : List V) (o : World) (go : Plain → List V → Run S) → ((p : Plain) (rest : List V) → Grows o.store.written (go p rest)) → Grows o.store.written (testing_step plain line vals o go)
    unfolding testing_step
    grows_step line vals o go h = grows_plain vals o _ (λ z rest. grows_plain rest o _ (λ y rest. grows_plain rest o _ (λ x rest. grows_answering line (step_test x y z) o _ (λ b. h b rest))))

    pub grows_finding : (array_in : V → Option ℕ) (n line : ℕ) (vals : List V) (o : World) (go : ℕ → ℕ → List V → Run S) → ((array index : ℕ) (rest : List V) → Grows o.store.written (go array index rest)) → Grows o.store.written (finding_element plain array_in n line vals o go)
    unfolding finding_element
    grows_finding array_in n line vals o go h = grows_integers n [] vals o _ (λ subscripts rest. grows_popping rest o _ (λ v rest. grows_having ℕ (array_in v) o _ (λ array _. grows_having ArrayOf (live_array o array) o _ (λ a _. grows_computing ℕ line (element_place a.bounds subscripts) o _ (λ index. h array index rest)))))

  -- a standard name, whose operands are read in a memory, and which may put a text back there
  module _ (V M : Type 0) (read : World → M → V → Option Plain) (put : V → TextVal → World → M → (World → M → Run S) → Run S)
      (puts : (v : V) (t : TextVal) (o : World) (m : M) (go : World → M → Run S) → ((o : World) (m : M) → Grows o.store.written (go o m)) → Grows o.store.written (put v t o m go)) where
    grows_operands : (tell : V → Option Plain) (n : ℕ) (first : Option V) (vals : List V) (o : World) (go : List Plain → Option V → List V → Run S) → ((values : List Plain) (first : Option V) (rest : List V) → Grows o.store.written (go values first rest)) → Grows o.store.written (pop_operands tell n first vals o go)
    unfolding pop_operands
    grows_operands tell zero first vals o go h = h [] first vals
    grows_operands tell (suc n) first vals o go h = grows_popping V (λ _. None) vals o _ (λ v rest. grows_having Plain (tell v) o _ (λ p _. grows_operands tell n (Some v) rest o _ (λ ps first rest. h (p ∷ ps) first rest)))

    grows_back : (first : Option V) (moved : Option TextVal) (o : World) (m : M) (go : World → M → Run S) → ((o : World) (m : M) → Grows o.store.written (go o m)) → Grows o.store.written (putting_back put first moved o m go)
    unfolding putting_back
    grows_back None None o m go h = h o m
    grows_back None (Some t) o m go h = h o m
    grows_back (Some v) None o m go h = h o m
    grows_back (Some v) (Some t) o m go h = puts v t o m go h

    performed : (line : ℕ) (o p : World) (effect : Effect) (first : Option V) (m : M) (go : World → M → Option Plain → Run S) → p.store ≡ o.store → Lasting o.store effect
        → ((p : World) (m : M) (value : Option Plain) → Grows p.store.written (go p m value))
        → Grows p.store.written (computing line effect.answer (record p { store = effect.store }) (λ value. putting_back put first effect.moved (record p { store = effect.store }) m (λ p m. go p m value)))
    performed line o p effect first m go same lasts h =
        let q : World = record p { store = effect.store } in
        let run : Run S = computing line effect.answer q (λ value. putting_back put first effect.moved q m (λ p m. go p m value)) in
        let start : Grown p.store.written effect.store.written = subst (λ (s : Store). Grown s.written effect.store.written) (sym same) lasts in
        let later : Grows effect.store.written run = grows_computing (Option Plain) line effect.answer q _ (λ value. grows_back first effect.moved q m _ (λ p m. h p m value)) in
        record { more = grown_then p.store.written effect.store.written (written run) start later.more }

    pub grows_performing : (l : Limits) (line : ℕ) (n : Standard) (vals : List V) (o : World) (m : M) (go : World → M → Option Plain → List V → Run S)
        → ((p : World) (m : M) (value : Option Plain) (rest : List V) → Grows p.store.written (go p m value rest)) → Grows o.store.written (performing read put l line n vals o m go)
    unfolding performing
    grows_performing l line n vals o m go h =
        grows_operands (read o m) (length (operands_of (row_of n).function)) None vals o _ (λ ps first rest. grows_having Effect (standard_effect n ps o.store) o _
        (λ effect is. grows_taking l line effect.wanted o _ (λ p same. performed line o p effect first m (λ p m value. go p m value rest) same (subst (If o.store) is (effect_lasts n ps o.store)) (λ p m value. h p m value rest))))

-- ---- steps

-- a run that each step lengthens
pub after_grows : (S : Type 0) (step : World → S → Run S) → ((o : World) (s : S) → Grows o.store.written (step o s)) → (k : ℕ) (r : Run S) → Grown (written r) (written (after step k r))
after_grows S step h zero r = grown_same (written r)
after_grows S step h (suc k) (Going o s) = grown_then o.store.written (written (step o s)) (written (after step k (step o s))) (h o s).more (after_grows S step h k (step o s))
after_grows S step h (suc k) (Ended o e) = after_grows S step h k (Ended o e)

pub after_more : (S : Type 0) (step : World → S → Run S) (n k : ℕ) (r : Run S) → after step (n + k) r ≡ after step k (after step n r)
after_more S step zero k r = let e : 0 + k ≡ k = omega arith in ap (λ n. after step n r) e
after_more S step (suc n) k r = let e : suc n + k ≡ suc (n + k) = omega arith in ap (λ n. after step n r) e ∙ after_more S step n k (next step r)

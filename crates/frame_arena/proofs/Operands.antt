-- What operators make of values of which the kinds are known, and what a stack has on top.
use Rattle.std.proofs.Common.{◌≡◌, ℕ, zero, suc, ◌-◌, ◌+◌, ◌<◌, ◌≤◌, List, [], ◌∷◌, length, sym, refl, ap, ◌∙◌, arith}
use Rattle.std.specs.Prelude.{ℤ, Bool, true, not, Option, Some, None, Err}
use Rattle.std.specs.Ordering.{nat_cmp, int_cmp}
use Rattle.sim_base.specs.declared.run_error.RunError.{RunError}
use Rattle.sim_values.specs.declared.operators.Calculation.{Calculation}
use Rattle.sim_values.specs.declared.operators.Comparison.{Comparison}
use Rattle.sim_values.specs.declared.operators.Connective.{Connective}
use Rattle.sim_values.specs.declared.operators.Dyadic.{Dyadic}
use Rattle.sim_values.specs.declared.operators.Monadic.{Monadic}
use Rattle.sim_values.specs.declared.operators.Monadic.TheVariants as monadic
use Rattle.sim_values.specs.Arithmetic.{negation_of}
use Rattle.sim_values.specs.Operators.{Answer, Reference, ToMain, ToNothing, ToObject, a_truth, an_integer, calculate, calculated, compare, connect, connected, holds, one_of, same_objects, same_reference, step_goes_on, step_test, two_of, with_character, with_integer, with_reference, with_truth}
use Rattle.sim_values.specs.Plain.{Plain, Integer, Truth, Character, Text, Object, MainOf, Nothing}
use Rattle.sim_code.specs.Outcome.{World, Run, RunFault}
use Rattle.sim_code.specs.Events.{answering, applying_one, applying_two, computing, having, integer_in, no_rule, pop_plain, popping, stopping, testing_step, truth_in}
use Rattle.sim_code.specs.Machine.{Machine, Value, Of, Link, Address, ArrayValue, ProcedureValue, ThunkValue, plain}
use Rattle.frame_arena.specs.declared.slot.Slot.{Slot}
use Rattle.frame_arena.specs.Operators.{answer_by, answer_of_plain, on_one, on_three, on_two}
use Rattle.frame_arena.specs.Slots.{character_in, character_of, integer_of, is_plain, reference_in, reference_of, truth_of, value_of}
use Rattle.frame_arena.specs.Stacks.{slot_at, values_of}
use Rattle.frame_arena.proofs.Changes.{off}
use Rattle.frame_arena.proofs.Entries.{no_some}
use Rattle.frame_arena.proofs.Tops.{none_held, top_of}

abbrev or_else : {A : Type 0} → A → Option A → A
or_else a None = a
or_else a (Some b) = b

abbrev pub reference_value : Reference → Value
reference_value ToNothing = Of Nothing
reference_value (ToObject i) = Of (Object i)
reference_value (ToMain i) = Of (MainOf i)

-- ---- a value by its kind

pub integer_is : (v : Value) (x : ℤ) → Some x ≡ integer_of v → v ≡ Of (Integer x)
integer_is (Of (Integer z)) x h = ap (λ m. Of (Integer (or_else x m))) (sym h)
integer_is (Of (Truth b)) x h = absurd (no_some x (sym h))
integer_is (Of (Character c)) x h = absurd (no_some x (sym h))
integer_is (Of (Text t)) x h = absurd (no_some x (sym h))
integer_is (Of (Object i)) x h = absurd (no_some x (sym h))
integer_is (Of (MainOf i)) x h = absurd (no_some x (sym h))
integer_is (Of Nothing) x h = absurd (no_some x (sym h))
integer_is (Link j) x h = absurd (no_some x (sym h))
integer_is (Address p) x h = absurd (no_some x (sym h))
integer_is (ArrayValue a) x h = absurd (no_some x (sym h))
integer_is (ProcedureValue k j) x h = absurd (no_some x (sym h))
integer_is (ThunkValue k j) x h = absurd (no_some x (sym h))

not_integer : (v : Value) (f : Plain → Answer) → None ≡ integer_of v → ((p : Plain) → None ≡ integer_in p → f p ≡ None) → answer_by (plain v) f ≡ None
not_integer (Of p) f h g = g p h
not_integer (Link j) f h g = refl
not_integer (Address p) f h g = refl
not_integer (ArrayValue a) f h g = refl
not_integer (ProcedureValue k j) f h g = refl
not_integer (ThunkValue k j) f h g = refl

dull_integer : (p : Plain) (f : ℤ → Answer) → None ≡ integer_in p → with_integer p f ≡ None
dull_integer (Integer z) f h = absurd (no_some z h)
dull_integer (Truth b) f h = refl
dull_integer (Character c) f h = refl
dull_integer (Text t) f h = refl
dull_integer (Object i) f h = refl
dull_integer (MainOf i) f h = refl
dull_integer Nothing f h = refl

pub truth_is : (v : Value) (x : Bool) → Some x ≡ truth_of v → v ≡ Of (Truth x)
truth_is (Of (Integer z)) x h = absurd (no_some x (sym h))
truth_is (Of (Truth b)) x h = ap (λ m. Of (Truth (or_else x m))) (sym h)
truth_is (Of (Character c)) x h = absurd (no_some x (sym h))
truth_is (Of (Text t)) x h = absurd (no_some x (sym h))
truth_is (Of (Object i)) x h = absurd (no_some x (sym h))
truth_is (Of (MainOf i)) x h = absurd (no_some x (sym h))
truth_is (Of Nothing) x h = absurd (no_some x (sym h))
truth_is (Link j) x h = absurd (no_some x (sym h))
truth_is (Address p) x h = absurd (no_some x (sym h))
truth_is (ArrayValue a) x h = absurd (no_some x (sym h))
truth_is (ProcedureValue k j) x h = absurd (no_some x (sym h))
truth_is (ThunkValue k j) x h = absurd (no_some x (sym h))

not_truth : (v : Value) (f : Plain → Answer) → None ≡ truth_of v → ((p : Plain) → None ≡ truth_in p → f p ≡ None) → answer_by (plain v) f ≡ None
not_truth (Of p) f h g = g p h
not_truth (Link j) f h g = refl
not_truth (Address p) f h g = refl
not_truth (ArrayValue a) f h g = refl
not_truth (ProcedureValue k j) f h g = refl
not_truth (ThunkValue k j) f h g = refl

dull_truth : (p : Plain) (f : Bool → Answer) → None ≡ truth_in p → with_truth p f ≡ None
dull_truth (Integer z) f h = refl
dull_truth (Truth b) f h = absurd (no_some b h)
dull_truth (Character c) f h = refl
dull_truth (Text t) f h = refl
dull_truth (Object i) f h = refl
dull_truth (MainOf i) f h = refl
dull_truth Nothing f h = refl

pub character_is : (v : Value) (x : ℕ) → Some x ≡ character_of v → v ≡ Of (Character x)
character_is (Of (Integer z)) x h = absurd (no_some x (sym h))
character_is (Of (Truth b)) x h = absurd (no_some x (sym h))
character_is (Of (Character c)) x h = ap (λ m. Of (Character (or_else x m))) (sym h)
character_is (Of (Text t)) x h = absurd (no_some x (sym h))
character_is (Of (Object i)) x h = absurd (no_some x (sym h))
character_is (Of (MainOf i)) x h = absurd (no_some x (sym h))
character_is (Of Nothing) x h = absurd (no_some x (sym h))
character_is (Link j) x h = absurd (no_some x (sym h))
character_is (Address p) x h = absurd (no_some x (sym h))
character_is (ArrayValue a) x h = absurd (no_some x (sym h))
character_is (ProcedureValue k j) x h = absurd (no_some x (sym h))
character_is (ThunkValue k j) x h = absurd (no_some x (sym h))

not_character : (v : Value) (f : Plain → Answer) → None ≡ character_of v → ((p : Plain) → None ≡ character_in p → f p ≡ None) → answer_by (plain v) f ≡ None
not_character (Of p) f h g = g p h
not_character (Link j) f h g = refl
not_character (Address p) f h g = refl
not_character (ArrayValue a) f h g = refl
not_character (ProcedureValue k j) f h g = refl
not_character (ThunkValue k j) f h g = refl

dull_character : (p : Plain) (f : ℕ → Answer) → None ≡ character_in p → with_character p f ≡ None
dull_character (Integer z) f h = refl
dull_character (Truth b) f h = refl
dull_character (Character c) f h = absurd (no_some c h)
dull_character (Text t) f h = refl
dull_character (Object i) f h = refl
dull_character (MainOf i) f h = refl
dull_character Nothing f h = refl

pub reference_is : (v : Value) (x : Reference) → Some x ≡ reference_of v → v ≡ reference_value x
reference_is (Of (Integer z)) x h = absurd (no_some x (sym h))
reference_is (Of (Truth b)) x h = absurd (no_some x (sym h))
reference_is (Of (Character c)) x h = absurd (no_some x (sym h))
reference_is (Of (Text t)) x h = absurd (no_some x (sym h))
reference_is (Of (Object i)) x h = ap (λ m. reference_value (or_else x m)) (sym h)
reference_is (Of (MainOf i)) x h = ap (λ m. reference_value (or_else x m)) (sym h)
reference_is (Of Nothing) x h = ap (λ m. reference_value (or_else x m)) (sym h)
reference_is (Link j) x h = absurd (no_some x (sym h))
reference_is (Address p) x h = absurd (no_some x (sym h))
reference_is (ArrayValue a) x h = absurd (no_some x (sym h))
reference_is (ProcedureValue k j) x h = absurd (no_some x (sym h))
reference_is (ThunkValue k j) x h = absurd (no_some x (sym h))

not_reference : (v : Value) (f : Plain → Answer) → None ≡ reference_of v → ((p : Plain) → None ≡ reference_in p → f p ≡ None) → answer_by (plain v) f ≡ None
not_reference (Of p) f h g = g p h
not_reference (Link j) f h g = refl
not_reference (Address p) f h g = refl
not_reference (ArrayValue a) f h g = refl
not_reference (ProcedureValue k j) f h g = refl
not_reference (ThunkValue k j) f h g = refl

dull_reference : (p : Plain) (f : Reference → Answer) → None ≡ reference_in p → with_reference p f ≡ None
dull_reference (Integer z) f h = refl
dull_reference (Truth b) f h = refl
dull_reference (Character c) f h = refl
dull_reference (Text t) f h = refl
dull_reference (Object i) f h = absurd (no_some (ToObject i) h)
dull_reference (MainOf i) f h = absurd (no_some (ToMain i) h)
dull_reference Nothing f h = absurd (no_some ToNothing h)

dull_under : (m : Option Plain) (f : Plain → Answer) → ((p : Plain) → f p ≡ None) → answer_by m f ≡ None
dull_under None f h = refl
dull_under (Some p) f h = h p

-- ---- two integers

pub calculate_top : (op : Calculation) (x y : Value) → None ≡ integer_of y → on_two (calculate op) x y ≡ None
unfolding calculate
calculate_top op x y h =
    not_integer y (λ q. answer_by (plain x) (λ p. calculate op p q)) h
    (λ q hq. dull_under (plain x) (λ p. calculate op p q) (λ p. dull_integer q (λ b. with_integer p (λ a. an_integer (calculated op a b))) hq))

pub calculate_below : (op : Calculation) (x y : Value) (b : ℤ) → Some b ≡ integer_of y → None ≡ integer_of x → on_two (calculate op) x y ≡ None
unfolding calculate
calculate_below op x y b hy h =
    ap (on_two (calculate op) x) (integer_is y b hy) ∙ not_integer x (λ p. calculate op p (Integer b)) h (λ p hp. dull_integer p (λ a. an_integer (calculated op a b)) hp)

pub calculate_both : (op : Calculation) (x y : Value) (a b : ℤ) → Some b ≡ integer_of y → Some a ≡ integer_of x → on_two (calculate op) x y ≡ an_integer (calculated op a b)
unfolding calculate
calculate_both op x y a b hy hx =
    ap (on_two (calculate op) x) (integer_is y b hy) ∙ ap (λ v. on_two (calculate op) v (Of (Integer b))) (integer_is x a hx)

-- ---- comparisons

pub compare_bad : (op : Comparison) (x y : Value) → None ≡ character_of y → None ≡ integer_of y → on_two (compare op) x y ≡ None
unfolding compare
compare_bad op x (Of (Integer z)) h h2 = absurd (no_some z h2)
compare_bad op x (Of (Truth b)) h h2 = dull_under (plain x) (λ p. compare op p (Truth b)) (λ p. refl)
compare_bad op x (Of (Character c)) h h2 = absurd (no_some c h)
compare_bad op x (Of (Text t)) h h2 = dull_under (plain x) (λ p. compare op p (Text t)) (λ p. refl)
compare_bad op x (Of (Object i)) h h2 = dull_under (plain x) (λ p. compare op p (Object i)) (λ p. refl)
compare_bad op x (Of (MainOf i)) h h2 = dull_under (plain x) (λ p. compare op p (MainOf i)) (λ p. refl)
compare_bad op x (Of Nothing) h h2 = dull_under (plain x) (λ p. compare op p Nothing) (λ p. refl)
compare_bad op x (Link j) h h2 = refl
compare_bad op x (Address p) h h2 = refl
compare_bad op x (ArrayValue a) h h2 = refl
compare_bad op x (ProcedureValue k j) h h2 = refl
compare_bad op x (ThunkValue k j) h h2 = refl

pub compare_character_below : (op : Comparison) (x y : Value) (b : ℕ) → Some b ≡ character_of y → None ≡ character_of x → on_two (compare op) x y ≡ None
unfolding compare
compare_character_below op x y b hy h =
    ap (on_two (compare op) x) (character_is y b hy) ∙ not_character x (λ p. compare op p (Character b)) h (λ p hp. dull_character p (λ a. a_truth (holds op (nat_cmp a b))) hp)

pub compare_characters : (op : Comparison) (x y : Value) (a b : ℕ) → Some b ≡ character_of y → Some a ≡ character_of x → on_two (compare op) x y ≡ a_truth (holds op (nat_cmp a b))
unfolding compare
compare_characters op x y a b hy hx =
    ap (on_two (compare op) x) (character_is y b hy) ∙ ap (λ v. on_two (compare op) v (Of (Character b))) (character_is x a hx)

pub compare_integer_below : (op : Comparison) (x y : Value) (b : ℤ) → Some b ≡ integer_of y → None ≡ integer_of x → on_two (compare op) x y ≡ None
unfolding compare
compare_integer_below op x y b hy h =
    ap (on_two (compare op) x) (integer_is y b hy) ∙ not_integer x (λ p. compare op p (Integer b)) h (λ p hp. dull_integer p (λ a. a_truth (holds op (int_cmp a b))) hp)

pub compare_integers : (op : Comparison) (x y : Value) (a b : ℤ) → Some b ≡ integer_of y → Some a ≡ integer_of x → on_two (compare op) x y ≡ a_truth (holds op (int_cmp a b))
unfolding compare
compare_integers op x y a b hy hx =
    ap (on_two (compare op) x) (integer_is y b hy) ∙ ap (λ v. on_two (compare op) v (Of (Integer b))) (integer_is x a hx)

-- ---- two truth values

pub connect_top : (op : Connective) (x y : Value) → None ≡ truth_of y → on_two (connect op) x y ≡ None
unfolding connect
connect_top op x y h =
    not_truth y (λ q. answer_by (plain x) (λ p. connect op p q)) h
    (λ q hq. dull_under (plain x) (λ p. connect op p q) (λ p. dull_truth q (λ b. with_truth p (λ a. a_truth (connected op a b))) hq))

pub connect_below : (op : Connective) (x y : Value) (b : Bool) → Some b ≡ truth_of y → None ≡ truth_of x → on_two (connect op) x y ≡ None
unfolding connect
connect_below op x y b hy h =
    ap (on_two (connect op) x) (truth_is y b hy) ∙ not_truth x (λ p. connect op p (Truth b)) h (λ p hp. dull_truth p (λ a. a_truth (connected op a b)) hp)

pub connect_both : (op : Connective) (x y : Value) (a b : Bool) → Some b ≡ truth_of y → Some a ≡ truth_of x → on_two (connect op) x y ≡ a_truth (connected op a b)
unfolding connect
connect_both op x y a b hy hx =
    ap (on_two (connect op) x) (truth_is y b hy) ∙ ap (λ v. on_two (connect op) v (Of (Truth b))) (truth_is x a hx)

-- ---- two references

pub same_top : (x y : Value) → None ≡ reference_of y → on_two same_objects x y ≡ None
unfolding same_objects
same_top x y h =
    not_reference y (λ q. answer_by (plain x) (λ p. same_objects p q)) h
    (λ q hq. dull_under (plain x) (λ p. same_objects p q) (λ p. dull_reference q (λ b. with_reference p (λ a. a_truth (same_reference a b))) hq))

same_under : (x : Value) (b : Reference) → None ≡ reference_of x → on_two same_objects x (reference_value b) ≡ None
unfolding same_objects
same_under x ToNothing h = not_reference x (λ p. same_objects p Nothing) h (λ p hp. dull_reference p (λ a. a_truth (same_reference a ToNothing)) hp)
same_under x (ToObject i) h = not_reference x (λ p. same_objects p (Object i)) h (λ p hp. dull_reference p (λ a. a_truth (same_reference a (ToObject i))) hp)
same_under x (ToMain i) h = not_reference x (λ p. same_objects p (MainOf i)) h (λ p hp. dull_reference p (λ a. a_truth (same_reference a (ToMain i))) hp)

pub same_below : (x y : Value) (b : Reference) → Some b ≡ reference_of y → None ≡ reference_of x → on_two same_objects x y ≡ None
same_below x y b hy h = ap (on_two same_objects x) (reference_is y b hy) ∙ same_under x b h

same_of : (a b : Reference) → on_two same_objects (reference_value a) (reference_value b) ≡ a_truth (same_reference a b)
unfolding same_objects
same_of ToNothing ToNothing = refl
same_of ToNothing (ToObject j) = refl
same_of ToNothing (ToMain j) = refl
same_of (ToObject i) ToNothing = refl
same_of (ToObject i) (ToObject j) = refl
same_of (ToObject i) (ToMain j) = refl
same_of (ToMain i) ToNothing = refl
same_of (ToMain i) (ToObject j) = refl
same_of (ToMain i) (ToMain j) = refl

pub same_both : (x y : Value) (a b : Reference) → Some b ≡ reference_of y → Some a ≡ reference_of x → on_two same_objects x y ≡ a_truth (same_reference a b)
same_both x y a b hy hx =
    ap (on_two same_objects x) (reference_is y b hy) ∙ ap (λ v. on_two same_objects v (reference_value b)) (reference_is x a hx) ∙ same_of a b

-- ---- one operand

pub negate_bad : (x : Value) → None ≡ integer_of x → on_one (one_of monadic.Negate) x ≡ None
unfolding one_of
negate_bad x h = not_integer x (one_of monadic.Negate) h (λ p hp. dull_integer p (λ a. an_integer (negation_of a)) hp)

pub negate_good : (x : Value) (a : ℤ) → Some a ≡ integer_of x → on_one (one_of monadic.Negate) x ≡ an_integer (negation_of a)
unfolding one_of
negate_good x a h = ap (on_one (one_of monadic.Negate)) (integer_is x a h)

pub not_bad : (x : Value) → None ≡ truth_of x → on_one (one_of monadic.Not) x ≡ None
unfolding one_of
not_bad x h = not_truth x (one_of monadic.Not) h (λ p hp. dull_truth p (λ a. a_truth (not a)) hp)

pub not_good : (x : Value) (a : Bool) → Some a ≡ truth_of x → on_one (one_of monadic.Not) x ≡ a_truth (not a)
unfolding one_of
not_good x a h = ap (on_one (one_of monadic.Not)) (truth_is x a h)

-- ---- the test of a step element

pub step_top : (x y z : Value) → None ≡ integer_of z → on_three step_test x y z ≡ None
unfolding step_test
step_top x y z h =
    not_integer z (λ r. answer_by (plain y) (λ q. answer_by (plain x) (λ p. step_test p q r))) h
    (λ r hr. dull_under (plain y) (λ q. answer_by (plain x) (λ p. step_test p q r)) (λ q.
    dull_under (plain x) (λ p. step_test p q r) (λ p. dull_integer r (λ limit. with_integer q (λ c. with_integer p (λ delta. a_truth (step_goes_on delta c limit)))) hr)))

pub step_middle : (x y z : Value) (limit : ℤ) → Some limit ≡ integer_of z → None ≡ integer_of y → on_three step_test x y z ≡ None
unfolding step_test
step_middle x y z limit hz h =
    ap (on_three step_test x y) (integer_is z limit hz)
    ∙ not_integer y (λ q. answer_by (plain x) (λ p. step_test p q (Integer limit))) h
    (λ q hq. dull_under (plain x) (λ p. step_test p q (Integer limit)) (λ p. dull_integer q (λ c. with_integer p (λ delta. a_truth (step_goes_on delta c limit))) hq))

pub step_below : (x y z : Value) (c limit : ℤ) → Some limit ≡ integer_of z → Some c ≡ integer_of y → None ≡ integer_of x → on_three step_test x y z ≡ None
unfolding step_test
step_below x y z c limit hz hy h =
    ap (on_three step_test x y) (integer_is z limit hz)
    ∙ ap (λ v. on_three step_test x v (Of (Integer limit))) (integer_is y c hy)
    ∙ not_integer x (λ p. step_test p (Integer c) (Integer limit)) h (λ p hp. dull_integer p (λ delta. a_truth (step_goes_on delta c limit)) hp)

pub step_all : (x y z : Value) (delta c limit : ℤ) → Some limit ≡ integer_of z → Some c ≡ integer_of y → Some delta ≡ integer_of x → on_three step_test x y z ≡ a_truth (step_goes_on delta c limit)
unfolding step_test
step_all x y z delta c limit hz hy hx =
    ap (on_three step_test x y) (integer_is z limit hz)
    ∙ ap (λ v. on_three step_test x v (Of (Integer limit))) (integer_is y c hy)
    ∙ ap (λ v. on_three step_test v (Of (Integer c)) (Of (Integer limit))) (integer_is x delta hx)

-- ---- values taken from a stack

pub two_at : (depth : ℕ) (stack : List Slot) → 2 ≤ depth → depth ≤ length stack → values_of depth stack ≡ value_of (slot_at stack (depth - 2 + 1)) ∷ value_of (slot_at stack (depth - 2)) ∷ values_of (depth - 2) stack
two_at depth stack h h2 =
    let e : depth - 1 ≡ depth - 2 + 1 = omega (arith, h) in
    let e2 : depth - 1 - 1 ≡ depth - 2 = omega (arith, h) in
    top_of depth stack (omega (arith, h)) h2
    ∙ ap (λ l. value_of (slot_at stack (depth - 1)) ∷ l) (top_of (depth - 1) stack (omega (arith, h)) (omega (arith, h2)))
    ∙ ap (λ n. value_of (slot_at stack n) ∷ value_of (slot_at stack (depth - 1 - 1)) ∷ values_of (depth - 1 - 1) stack) e
    ∙ ap (λ n. value_of (slot_at stack (depth - 2 + 1)) ∷ value_of (slot_at stack n) ∷ values_of n stack) e2

pub three_at : (depth : ℕ) (stack : List Slot) → 3 ≤ depth → depth ≤ length stack →
    values_of depth stack ≡ value_of (slot_at stack (depth - 3 + 2)) ∷ value_of (slot_at stack (depth - 3 + 1)) ∷ value_of (slot_at stack (depth - 3)) ∷ values_of (depth - 3) stack
three_at depth stack h h2 =
    let e : depth - 1 ≡ depth - 3 + 2 = omega (arith, h) in
    let e1 : depth - 1 - 2 + 1 ≡ depth - 3 + 1 = omega (arith, h) in
    let e2 : depth - 1 - 2 ≡ depth - 3 = omega (arith, h) in
    top_of depth stack (omega (arith, h)) h2
    ∙ ap (λ l. value_of (slot_at stack (depth - 1)) ∷ l) (two_at (depth - 1) stack (omega (arith, h)) (omega (arith, h2)))
    ∙ ap (λ n. value_of (slot_at stack n) ∷ value_of (slot_at stack (depth - 1 - 2 + 1)) ∷ value_of (slot_at stack (depth - 1 - 2)) ∷ values_of (depth - 1 - 2) stack) e
    ∙ ap (λ n. value_of (slot_at stack (depth - 3 + 2)) ∷ value_of (slot_at stack n) ∷ value_of (slot_at stack (depth - 1 - 2)) ∷ values_of (depth - 1 - 2) stack) e1
    ∙ ap (λ n. value_of (slot_at stack (depth - 3 + 2)) ∷ value_of (slot_at stack (depth - 3 + 1)) ∷ value_of (slot_at stack n) ∷ values_of n stack) e2

module _ (line : ℕ) (o : World) (go : List Value → Run Machine) where
  -- what was computed is put in the place of the operands
  pub answer_value : (v : Value) (rest : List Value) → is_plain v ≡ true → answering line (answer_of_plain (plain v)) o (λ z. go (Of z ∷ rest)) ≡ go (v ∷ rest)
  unfolding answering having computing
  answer_value (Of p) rest h = refl
  answer_value (Link j) rest h = absurd (off h)
  answer_value (Address p) rest h = absurd (off h)
  answer_value (ArrayValue a) rest h = absurd (off h)
  answer_value (ProcedureValue k j) rest h = absurd (off h)
  answer_value (ThunkValue k j) rest h = absurd (off h)

  pub answer_none : (rest : List Value) → answering line None o (λ z. go (Of z ∷ rest)) ≡ no_rule o
  unfolding answering having
  answer_none rest = refl

  pub answer_error : (e : RunError) (rest : List Value) → answering line (Some (Err e)) o (λ z. go (Of z ∷ rest)) ≡ stopping (RunFault e line) o
  unfolding answering having computing
  answer_error e rest = refl

  one_in : (op : Monadic) (p : Option Plain) (rest : List Value) → having p o (λ x. answering line (one_of op x) o (λ z. go (Of z ∷ rest))) ≡ answering line (answer_by p (one_of op)) o (λ z. go (Of z ∷ rest))
  unfolding having answering
  one_in op None rest = refl
  one_in op (Some x) rest = refl

  pub one_on : (op : Monadic) (v : Value) (rest : List Value) → applying_one plain op line (v ∷ rest) o (λ z rest. go (Of z ∷ rest)) ≡ answering line (on_one (one_of op) v) o (λ z. go (Of z ∷ rest))
  unfolding applying_one pop_plain popping
  one_on op v rest = one_in op (plain v) rest

  pub one_none : (op : Monadic) (depth : ℕ) (stack : List Slot) → depth < 1 → applying_one plain op line (values_of depth stack) o (λ z rest. go (Of z ∷ rest)) ≡ no_rule o
  unfolding applying_one pop_plain popping
  one_none op zero stack h = ap (λ l. applying_one plain op line l o (λ z rest. go (Of z ∷ rest))) (none_held stack)
  one_none op (suc n) stack h = absurd (omega (arith, h))

  two_in : (op : Dyadic) (q p : Option Plain) (rest : List Value) →
      having q o (λ y. having p o (λ x. answering line (two_of op o.store.frames x y) o (λ z. go (Of z ∷ rest))))
      ≡ answering line (answer_by q (λ y. answer_by p (λ x. two_of op o.store.frames x y))) o (λ z. go (Of z ∷ rest))
  unfolding having answering
  two_in op None p rest = refl
  two_in op (Some y) None rest = refl
  two_in op (Some y) (Some x) rest = refl

  pub two_on : (op : Dyadic) (v w : Value) (rest : List Value) → applying_two plain op line (v ∷ w ∷ rest) o (λ z rest. go (Of z ∷ rest)) ≡ answering line (on_two (two_of op o.store.frames) w v) o (λ z. go (Of z ∷ rest))
  unfolding applying_two pop_plain popping
  two_on op v w rest = two_in op (plain v) (plain w) rest

  two_alone_in : (op : Dyadic) (q : Option Plain) → having q o (λ y. pop_plain plain [] o (λ x rest. answering line (two_of op o.store.frames x y) o (λ z. go (Of z ∷ rest)))) ≡ no_rule o
  unfolding having pop_plain popping
  two_alone_in op None = refl
  two_alone_in op (Some y) = refl

  two_alone : (op : Dyadic) (v : Value) → applying_two plain op line (v ∷ []) o (λ z rest. go (Of z ∷ rest)) ≡ no_rule o
  unfolding applying_two pop_plain popping
  two_alone op v = two_alone_in op (plain v)

  two_none : (op : Dyadic) → applying_two plain op line [] o (λ z rest. go (Of z ∷ rest)) ≡ no_rule o
  unfolding applying_two pop_plain popping
  two_none op = refl

  two_held : (op : Dyadic) (stack : List Slot) → applying_two plain op line (values_of 1 stack) o (λ z rest. go (Of z ∷ rest)) ≡ no_rule o
  two_held op [] = two_none op
  two_held op (x ∷ xs) = two_alone op (value_of x)

  pub two_few : (op : Dyadic) (depth : ℕ) (stack : List Slot) → depth < 2 → applying_two plain op line (values_of depth stack) o (λ z rest. go (Of z ∷ rest)) ≡ no_rule o
  two_few op zero stack h = ap (λ l. applying_two plain op line l o (λ z rest. go (Of z ∷ rest))) (none_held stack) ∙ two_none op
  two_few op (suc zero) stack h = two_held op stack
  two_few op (suc (suc n)) stack h = absurd (omega (arith, h))

  three_in : (r q p : Option Plain) (rest : List Value) →
      having r o (λ z. having q o (λ y. having p o (λ x. answering line (step_test x y z) o (λ b. go (Of b ∷ rest)))))
      ≡ answering line (answer_by r (λ z. answer_by q (λ y. answer_by p (λ x. step_test x y z)))) o (λ b. go (Of b ∷ rest))
  unfolding having answering
  three_in None q p rest = refl
  three_in (Some z) None p rest = refl
  three_in (Some z) (Some y) None rest = refl
  three_in (Some z) (Some y) (Some x) rest = refl

  pub three_on : (v w u : Value) (rest : List Value) → testing_step plain line (v ∷ w ∷ u ∷ rest) o (λ z rest. go (Of z ∷ rest)) ≡ answering line (on_three step_test u w v) o (λ z. go (Of z ∷ rest))
  unfolding testing_step pop_plain popping
  three_on v w u rest = three_in (plain v) (plain w) (plain u) rest

  three_none : testing_step plain line [] o (λ z rest. go (Of z ∷ rest)) ≡ no_rule o
  unfolding testing_step pop_plain popping
  three_none = refl

  three_one_in : (r : Option Plain) → having r o (λ z. pop_plain plain [] o (λ y rest. pop_plain plain rest o (λ x rest. answering line (step_test x y z) o (λ b. go (Of b ∷ rest))))) ≡ no_rule o
  unfolding having pop_plain popping
  three_one_in None = refl
  three_one_in (Some z) = refl

  three_one : (v : Value) → testing_step plain line (v ∷ []) o (λ z rest. go (Of z ∷ rest)) ≡ no_rule o
  unfolding testing_step pop_plain popping
  three_one v = three_one_in (plain v)

  three_two_in : (r q : Option Plain) → having r o (λ z. having q o (λ y. pop_plain plain [] o (λ x rest. answering line (step_test x y z) o (λ b. go (Of b ∷ rest))))) ≡ no_rule o
  unfolding having pop_plain popping
  three_two_in None q = refl
  three_two_in (Some z) None = refl
  three_two_in (Some z) (Some y) = refl

  three_two : (v w : Value) → testing_step plain line (v ∷ w ∷ []) o (λ z rest. go (Of z ∷ rest)) ≡ no_rule o
  unfolding testing_step pop_plain popping
  three_two v w = three_two_in (plain v) (plain w)

  three_held : (stack : List Slot) → testing_step plain line (values_of 1 stack) o (λ z rest. go (Of z ∷ rest)) ≡ no_rule o
  three_held [] = three_none
  three_held (x ∷ xs) = three_one (value_of x)

  three_held_two : (stack : List Slot) → testing_step plain line (values_of 2 stack) o (λ z rest. go (Of z ∷ rest)) ≡ no_rule o
  three_held_two [] = three_none
  three_held_two (x ∷ []) = three_one (value_of x)
  three_held_two (x ∷ y ∷ rest) = three_two (value_of y) (value_of x)

  pub three_few : (depth : ℕ) (stack : List Slot) → depth < 3 → testing_step plain line (values_of depth stack) o (λ z rest. go (Of z ∷ rest)) ≡ no_rule o
  three_few zero stack h = ap (λ l. testing_step plain line l o (λ z rest. go (Of z ∷ rest))) (none_held stack) ∙ three_none
  three_few (suc zero) stack h = three_held stack
  three_few (suc (suc zero)) stack h = three_held_two stack
  three_few (suc (suc (suc n))) stack h = absurd (omega (arith, h))

-- The operators on plain values: what each makes of operands of its kinds, and one table of the operators of two operands,
-- one of those of one operand.
use Rattle.std.specs.Prelude.{ℕ, ℤ, pos, Bool, true, false, not, ◌&&◌, ◌||◌, ◌==◌, int_le, ◌-ℤ◌, ◌*ℤ◌, List, Option, Some, None, Result, Ok, Err, if◌then◌else◌}
use Rattle.std.specs.Ordering.{nat_cmp, int_cmp}
use Rattle.std.specs.declared.cmp.Ordering.{Ordering}
use Rattle.std.specs.declared.cmp.Ordering.TheVariants as order
use Rattle.sim_base.specs.declared.run_error.RunError.{RunError}
use Rattle.sim_values.specs.Arithmetic.{sum_of, difference_of, product_of, quotient_of, power_of, negation_of}
use Rattle.sim_values.specs.Plain.{Plain, Integer, Truth, Character, Text, Object, MainOf, Nothing}
use Rattle.sim_values.specs.Texts.{Frame, compare_texts, same_text}
use Rattle.sim_values.specs.declared.value.TextVal.{TextVal}
use Rattle.sim_values.specs.declared.operators.Calculation.{Calculation}
use Rattle.sim_values.specs.declared.operators.Calculation.TheVariants as calculation
use Rattle.sim_values.specs.declared.operators.Comparison.{Comparison}
use Rattle.sim_values.specs.declared.operators.Comparison.TheVariants as comparison
use Rattle.sim_values.specs.declared.operators.Connective.{Connective}
use Rattle.sim_values.specs.declared.operators.Connective.TheVariants as connective
use Rattle.sim_values.specs.declared.operators.Dyadic.{Dyadic}
use Rattle.sim_values.specs.declared.operators.Dyadic.TheVariants as dyadic
use Rattle.sim_values.specs.declared.operators.Monadic.{Monadic}
use Rattle.sim_values.specs.declared.operators.Monadic.TheVariants as monadic

-- ---- on bare values

-- two integers to an integer, or a run-time error
abbrev pub calculated : Calculation → ℤ → ℤ → Result ℤ RunError
calculated calculation.Add a b = sum_of a b
calculated calculation.Subtract a b = difference_of a b
calculated calculation.Multiply a b = product_of a b
calculated calculation.Divide a b = quotient_of a b
calculated calculation.Power a b = power_of a b

-- whether a comparison holds of two values that stand in this order
abbrev pub holds : Comparison → Ordering → Bool
holds comparison.Less order.Less = true
holds comparison.Less order.Equal = false
holds comparison.Less order.Greater = false
holds comparison.LessOrEqual order.Less = true
holds comparison.LessOrEqual order.Equal = true
holds comparison.LessOrEqual order.Greater = false
holds comparison.Equal order.Less = false
holds comparison.Equal order.Equal = true
holds comparison.Equal order.Greater = false
holds comparison.GreaterOrEqual order.Less = false
holds comparison.GreaterOrEqual order.Equal = true
holds comparison.GreaterOrEqual order.Greater = true
holds comparison.Greater order.Less = false
holds comparison.Greater order.Equal = false
holds comparison.Greater order.Greater = true
holds comparison.NotEqual order.Less = true
holds comparison.NotEqual order.Equal = false
holds comparison.NotEqual order.Greater = true

-- two truth values to one
abbrev pub connected : Connective → Bool → Bool → Bool
connected connective.And a b = a && b
connected connective.Or a b = a || b
connected connective.Implies a b = not a || b
connected connective.Equivalent a b = if a then b else not b

-- the test of a step element, on unbounded integers: delta * (c - limit) <= 0
abbrev pub step_goes_on : (delta c limit : ℤ) → Bool
step_goes_on delta c limit = int_le (delta *ℤ (c -ℤ limit)) (pos 0)

-- ---- on plain values

-- what an operator answers: nothing where an operand is of another kind, else its value or its run-time error
abbrev pub Answer : Type 0
Answer = Option (Result Plain RunError)

abbrev pub a_truth : Bool → Answer
a_truth b = Some (Ok (Truth b))

abbrev pub an_integer : Result ℤ RunError → Answer
an_integer (Ok z) = Some (Ok (Integer z))
an_integer (Err e) = Some (Err e)

-- One operand at a time. Of two operands the second one is on top of a stack: one of a wrong kind decides alone.
abbrev pub with_integer : Plain → (ℤ → Answer) → Answer
with_integer (Integer z) f = f z
with_integer _ f = None

abbrev pub with_truth : Plain → (Bool → Answer) → Answer
with_truth (Truth b) f = f b
with_truth _ f = None

abbrev pub with_character : Plain → (ℕ → Answer) → Answer
with_character (Character c) f = f c
with_character _ f = None

abbrev pub with_text : Plain → (TextVal → Answer) → Answer
with_text (Text t) f = f t
with_text _ f = None

-- what a reference names: an instance, the main program of one, or nothing
pub data Reference : Type 0 where
  ToNothing : Reference
  ToObject : (instance : ℕ) → Reference
  ToMain : (block : ℕ) → Reference

abbrev pub with_reference : Plain → (Reference → Answer) → Answer
with_reference (Object i) f = f (ToObject i)
with_reference (MainOf i) f = f (ToMain i)
with_reference Nothing f = f ToNothing
with_reference _ f = None

abbrev pub same_reference : Reference → Reference → Bool
same_reference ToNothing ToNothing = true
same_reference (ToObject i) (ToObject j) = i == j
same_reference (ToMain i) (ToMain j) = i == j
same_reference _ _ = false

-- two integers to an integer
unfoldable pub calculate : Calculation → Plain → Plain → Answer
calculate c x y = with_integer y (λ b. with_integer x (λ a. an_integer (calculated c a b)))

-- two integers or two characters to a truth value
unfoldable pub compare : Comparison → Plain → Plain → Answer
compare r x (Character b) = with_character x (λ a. a_truth (holds r (nat_cmp a b)))
compare r x y = with_integer y (λ b. with_integer x (λ a. a_truth (holds r (int_cmp a b))))

-- two texts to a truth value
unfoldable pub compare_as_texts : Comparison → List Frame → Plain → Plain → Answer
compare_as_texts r frames x y = with_text y (λ b. with_text x (λ a. a_truth (holds r (compare_texts frames a b))))

-- two truth values to one
unfoldable pub connect : Connective → Plain → Plain → Answer
connect c x y = with_truth y (λ b. with_truth x (λ a. a_truth (connected c a b)))

-- `==`
unfoldable pub same_objects : Plain → Plain → Answer
same_objects x y = with_reference y (λ b. with_reference x (λ a. a_truth (same_reference a b)))

unfoldable pub same_texts : Plain → Plain → Answer
same_texts x y = with_text y (λ b. with_text x (λ a. a_truth (same_text a b)))

-- the operators of two operands, over the frames of all texts
unfoldable pub two_of : Dyadic → List Frame → Plain → Plain → Answer
two_of (dyadic.Calculate c) frames x y = calculate c x y
two_of (dyadic.Compare r) frames x y = compare r x y
two_of (dyadic.CompareTexts r) frames x y = compare_as_texts r frames x y
two_of (dyadic.Connect c) frames x y = connect c x y
two_of dyadic.SameObject frames x y = same_objects x y
two_of dyadic.SameText frames x y = same_texts x y

-- the operators of one operand
unfoldable pub one_of : Monadic → Plain → Answer
one_of monadic.Negate x = with_integer x (λ a. an_integer (negation_of a))
one_of monadic.Not x = with_truth x (λ a. a_truth (not a))

-- the test of a step element: the step, the controlled variable and the limit, which is on top
unfoldable pub step_test : (delta c limit : Plain) → Answer
step_test x y z = with_integer z (λ limit. with_integer y (λ c. with_integer x (λ delta. a_truth (step_goes_on delta c limit))))

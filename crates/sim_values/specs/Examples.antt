-- Worked rows: each operator on operands of its kinds and of others, each standard name with what it gives, the store with which
-- a run begins and that with which it ends.
use Rattle.std.specs.Prelude.{◌≡◌, ℕ, ◌-◌, ◌^◌, pos, neg_ℤ, Bool, true, false, List, [], ◌∷◌, ◌++◌, map, Option, Some, None, Result, Ok, Err, codes, replicate}
use Rattle.sim_base.specs.declared.run_error.RunError.{RunError}
use Rattle.sim_base.specs.declared.run_error.RunError.TheVariants as fault
use Rattle.sim_values.specs.Operators.{Answer, one_of, step_test, two_of}
use Rattle.sim_values.specs.Plain.{Plain, Integer, Truth, Character, Text, Object, MainOf, Nothing}
use Rattle.sim_values.specs.Standard.{on_image, standard_effect}
use Rattle.sim_values.specs.Store.{Effect, Store, closing_store, first_store, image_at, with_frames, with_image}
use Rattle.sim_values.specs.Texts.{Frame, assign, constant_text, join, notext, refused}
use Rattle.sim_values.specs.declared.value.TextVal.{TextVal}
use Rattle.sim_values.specs.declared.operators.Calculation.{Calculation}
use Rattle.sim_values.specs.declared.operators.Calculation.TheVariants as calculation
use Rattle.sim_values.specs.declared.operators.Comparison.{Comparison}
use Rattle.sim_values.specs.declared.operators.Comparison.TheVariants as comparison
use Rattle.sim_values.specs.declared.operators.Connective.{Connective}
use Rattle.sim_values.specs.declared.operators.Connective.TheVariants as connective
use Rattle.sim_values.specs.declared.operators.Dyadic.TheVariants as dyadic
use Rattle.sim_values.specs.declared.operators.Monadic.TheVariants as monadic
use Rattle.sim_values.specs.declared.standard.Standard.{Standard}
use Rattle.sim_values.specs.declared.standard.Standard.TheVariants as name

-- ---- the texts that there are in every row

abbrev pub whole : ℕ → Plain
whole n = Integer (pos n)

abbrev pub minus : ℕ → Plain
minus n = Integer (neg_ℤ (pos n))

abbrev pub frame : List ℕ → Bool → Frame
frame bytes constant = record { bytes = bytes; constant = constant }

abbrev pub text_at : (frame start length position : ℕ) → TextVal
text_at frame start length position = record { text_frame = frame; start = start; length = length; pos = position }

-- A constant of three characters, a number with blanks around it, and one that is outside the range; then the images of sysin, which
-- is used up, and of sysout, in which two characters stand.
abbrev pub others : List ℕ → List ℕ → List ℕ → List Frame
others number sysin sysout = frame (codes "aZ1") true ∷ frame number false ∷ frame (codes "9223372036854775808") true ∷ frame sysin false ∷ frame sysout false ∷ []

abbrev pub texts : List Frame
texts = others (codes " -42x ") (codes "12  ") (codes "ab    ")

abbrev pub constant : TextVal
constant = text_at 0 1 3 1

abbrev pub number : TextVal
number = text_at 1 1 6 1

abbrev pub great_number : TextVal
great_number = text_at 2 1 19 1

abbrev pub sysin : (position : ℕ) → TextVal
sysin position = text_at 3 1 4 position

abbrev pub sysout : (position : ℕ) → TextVal
sysout position = text_at 4 1 6 position

-- ---- operators

abbrev pub value : Plain → Answer
value v = Some (Ok v)

abbrev pub error : RunError → Answer
error e = Some (Err e)

abbrev pub calculating : Calculation → Plain → Plain → Answer
calculating c x y = two_of (dyadic.Calculate c) texts x y

-- what the six relations give, from `<` to `<>`
abbrev pub relations : List Comparison
relations = comparison.Less ∷ comparison.LessOrEqual ∷ comparison.Equal ∷ comparison.GreaterOrEqual ∷ comparison.Greater ∷ comparison.NotEqual ∷ []

abbrev pub comparing : Plain → Plain → List Answer
comparing x y = map (λ r. two_of (dyadic.Compare r) texts x y) relations

abbrev pub comparing_texts : Plain → Plain → List Answer
comparing_texts x y = map (λ r. two_of (dyadic.CompareTexts r) texts x y) relations

abbrev pub given : List Bool → List Answer
given bs = map (λ b. value (Truth b)) bs

abbrev pub of_less : List Answer
of_less = given (true ∷ true ∷ false ∷ false ∷ false ∷ true ∷ [])

abbrev pub of_equal : List Answer
of_equal = given (false ∷ true ∷ true ∷ true ∷ false ∷ false ∷ [])

abbrev pub of_greater : List Answer
of_greater = given (false ∷ false ∷ false ∷ true ∷ true ∷ true ∷ [])

abbrev pub of_others : List Answer
of_others = None ∷ None ∷ None ∷ None ∷ None ∷ None ∷ []

-- what a connective gives of true and true, true and false, false and true, false and false
abbrev pub connecting : Connective → List Answer
connecting c = two_of (dyadic.Connect c) texts (Truth true) (Truth true) ∷ two_of (dyadic.Connect c) texts (Truth true) (Truth false) ∷ two_of (dyadic.Connect c) texts (Truth false) (Truth true) ∷ two_of (dyadic.Connect c) texts (Truth false) (Truth false) ∷ []

-- Each operator with its value, its errors, and operands of other kinds on either side.
pub record WorkedOperators : Type 0 where
  -- `+`, `-`, `*`
  pub sum : calculating calculation.Add (whole 3) (minus 5) ≡ value (minus 2)
  pub sum_too_great : calculating calculation.Add (whole (2 ^ 63 - 1)) (whole 1) ≡ error fault.IntegerOverflow
  pub sum_of_a_truth : calculating calculation.Add (Truth true) (whole 1) ≡ None
  pub sum_with_a_character : calculating calculation.Add (whole 1) (Character 65) ≡ None
  pub difference : calculating calculation.Subtract (whole 3) (whole 5) ≡ value (minus 2)
  pub difference_too_small : calculating calculation.Subtract (minus (2 ^ 63)) (whole 1) ≡ error fault.IntegerOverflow
  pub difference_from_none : calculating calculation.Subtract Nothing (whole 1) ≡ None
  pub product : calculating calculation.Multiply (minus 3) (whole 5) ≡ value (minus 15)
  pub product_too_great : calculating calculation.Multiply (minus (2 ^ 63)) (minus 1) ≡ error fault.IntegerOverflow
  pub product_with_a_text : calculating calculation.Multiply (whole 3) (Text constant) ≡ None
  -- `//` cuts toward zero
  pub quotient_of_a_negative : calculating calculation.Divide (minus 7) (whole 2) ≡ value (minus 3)
  pub quotient_by_a_negative : calculating calculation.Divide (whole 7) (minus 2) ≡ value (minus 3)
  pub quotient_by_zero : calculating calculation.Divide (whole 7) (whole 0) ≡ error fault.ZeroDivisor
  pub quotient_too_great : calculating calculation.Divide (minus (2 ^ 63)) (minus 1) ≡ error fault.IntegerOverflow
  pub quotient_of_an_object : calculating calculation.Divide (Object 0) (whole 0) ≡ None
  -- `**`
  pub power : calculating calculation.Power (minus 2) (whole 63) ≡ value (minus (2 ^ 63))
  pub power_too_great : calculating calculation.Power (whole 2) (whole 63) ≡ error fault.IntegerOverflow
  pub power_of_zero : calculating calculation.Power (whole 0) (whole 3) ≡ value (whole 0)
  pub zero_to_zero : calculating calculation.Power (whole 0) (whole 0) ≡ error fault.BadExponent
  pub one_to_a_negative : calculating calculation.Power (whole 1) (minus 1) ≡ error fault.BadExponent
  pub power_of_a_character : calculating calculation.Power (Character 2) (whole 2) ≡ None
  -- relations of integers, of characters by their codes, and of no other kinds
  pub less : comparing (minus 4) (whole 3) ≡ of_less
  pub equal : comparing (whole 3) (whole 3) ≡ of_equal
  pub greater : comparing (whole 4) (whole 3) ≡ of_greater
  pub character_less : comparing (Character 65) (Character 97) ≡ of_less
  pub character_equal : comparing (Character 97) (Character 97) ≡ of_equal
  pub character_greater : comparing (Character 255) (Character 97) ≡ of_greater
  pub character_and_integer : comparing (Character 65) (whole 65) ≡ of_others
  pub integer_and_character : comparing (whole 65) (Character 65) ≡ of_others
  pub truths_in_no_order : comparing (Truth false) (Truth true) ≡ of_others
  pub texts_by_their_own : comparing (Text constant) (Text constant) ≡ of_others
  -- relations of texts: a proper prefix is less, and positions do not matter
  pub text_less : comparing_texts (Text (text_at 0 1 2 1)) (Text constant) ≡ of_less
  pub text_equal : comparing_texts (Text (text_at 1 1 1 1)) (Text (text_at 1 6 1 2)) ≡ of_equal
  pub text_greater : comparing_texts (Text constant) (Text number) ≡ of_greater
  pub text_and_character : comparing_texts (Text constant) (Character 97) ≡ of_others
  pub integers_are_no_texts : comparing_texts (whole 1) (Text constant) ≡ of_others
  -- logical operators
  pub conjunction : connecting connective.And ≡ given (true ∷ false ∷ false ∷ false ∷ [])
  pub disjunction : connecting connective.Or ≡ given (true ∷ true ∷ true ∷ false ∷ [])
  pub implication : connecting connective.Implies ≡ given (true ∷ false ∷ true ∷ true ∷ [])
  pub equivalence : connecting connective.Equivalent ≡ given (true ∷ false ∷ false ∷ true ∷ [])
  pub conjunction_of_integers : two_of (dyadic.Connect connective.And) texts (whole 1) (Truth true) ≡ None
  pub disjunction_with_none : two_of (dyadic.Connect connective.Or) texts (Truth true) Nothing ≡ None
  -- `==` of references
  pub same_object : two_of dyadic.SameObject texts (Object 3) (Object 3) ≡ value (Truth true)
  pub other_object : two_of dyadic.SameObject texts (Object 3) (Object 4) ≡ value (Truth false)
  pub object_and_none : two_of dyadic.SameObject texts (Object 0) Nothing ≡ value (Truth false)
  pub none_and_object : two_of dyadic.SameObject texts Nothing (Object 0) ≡ value (Truth false)
  pub none_and_none : two_of dyadic.SameObject texts Nothing Nothing ≡ value (Truth true)
  pub same_main : two_of dyadic.SameObject texts (MainOf 3) (MainOf 3) ≡ value (Truth true)
  pub other_main : two_of dyadic.SameObject texts (MainOf 3) (MainOf 4) ≡ value (Truth false)
  pub main_and_object : two_of dyadic.SameObject texts (MainOf 3) (Object 3) ≡ value (Truth false)
  pub none_and_main : two_of dyadic.SameObject texts Nothing (MainOf 0) ≡ value (Truth false)
  pub object_and_integer : two_of dyadic.SameObject texts (Object 1) (whole 1) ≡ None
  pub text_and_object : two_of dyadic.SameObject texts (Text constant) (Object 1) ≡ None
  -- `==` of texts: frame, start and length; any two of length 0
  pub same_but_position : two_of dyadic.SameText texts (Text number) (Text (text_at 1 1 6 7)) ≡ value (Truth true)
  pub other_start : two_of dyadic.SameText texts (Text (text_at 1 1 1 1)) (Text (text_at 1 6 1 1)) ≡ value (Truth false)
  pub other_length : two_of dyadic.SameText texts (Text constant) (Text (text_at 0 1 2 1)) ≡ value (Truth false)
  pub other_frame : two_of dyadic.SameText texts (Text constant) (Text (text_at 1 1 3 1)) ≡ value (Truth false)
  pub both_of_length_0 : two_of dyadic.SameText texts (Text notext) (Text (text_at 1 3 0 1)) ≡ value (Truth true)
  pub text_and_none : two_of dyadic.SameText texts (Text notext) Nothing ≡ None
  pub none_and_text : two_of dyadic.SameText texts Nothing (Text notext) ≡ None
  -- one operand
  pub negation : one_of monadic.Negate (whole 7) ≡ value (minus 7)
  pub negation_too_great : one_of monadic.Negate (minus (2 ^ 63)) ≡ error fault.IntegerOverflow
  pub negation_of_a_truth : one_of monadic.Negate (Truth true) ≡ None
  pub not_true : one_of monadic.Not (Truth true) ≡ value (Truth false)
  pub not_false : one_of monadic.Not (Truth false) ≡ value (Truth true)
  pub not_of_an_integer : one_of monadic.Not (whole 0) ≡ None

-- The test of a step element: the step, the controlled variable, the limit. It has no range.
pub record WorkedSteps : Type 0 where
  pub rising : step_test (whole 2) (whole 9) (whole 10) ≡ value (Truth true)
  pub at_the_limit : step_test (whole 2) (whole 10) (whole 10) ≡ value (Truth true)
  pub past_the_limit : step_test (whole 2) (whole 11) (whole 10) ≡ value (Truth false)
  pub falling : step_test (minus 1) (whole 9) (minus 9) ≡ value (Truth true)
  pub fallen : step_test (minus 1) (minus 10) (minus 9) ≡ value (Truth false)
  pub no_step : step_test (whole 0) (whole 11) (whole 10) ≡ value (Truth true)
  pub far_past : step_test (whole (2 ^ 63 - 1)) (whole (2 ^ 63 - 1)) (minus (2 ^ 63)) ≡ value (Truth false)
  pub far_before : step_test (minus (2 ^ 63)) (whole (2 ^ 63 - 1)) (minus (2 ^ 63)) ≡ value (Truth true)
  pub step_of_another_kind : step_test (Truth true) (whole 1) (whole 2) ≡ None
  pub variable_of_another_kind : step_test (whole 1) (Character 1) (whole 2) ≡ None
  pub limit_of_another_kind : step_test (whole 1) (whole 1) Nothing ≡ None

-- ---- standard names

-- the store of every row: two lines are left of the input, and one was written
abbrev pub store : Store
store = record { frames = texts; sysin = sysin 5; endfile = false; left = codes "34\n5"; sysout = sysout 3; written = codes "x\n" }

-- what a name does with its operands, which are written here in the order of the source
abbrev pub of_none : Standard → Option Effect
of_none n = standard_effect n [] store

abbrev pub of_one : Standard → Plain → Option Effect
of_one n x = standard_effect n (x ∷ []) store

abbrev pub of_two : Standard → (first second : Plain) → Option Effect
of_two n x y = standard_effect n (y ∷ x ∷ []) store

abbrev pub of_three : Standard → (first second third : Plain) → Option Effect
of_three n x y z = standard_effect n (z ∷ y ∷ x ∷ []) store

-- an effect: a value, an error, or neither, and what has become of the store and of the position
abbrev pub effect : (wanted : ℕ) → Store → Option TextVal → Result (Option Plain) RunError → Option Effect
effect wanted s moved answer = Some (record { wanted = wanted; store = s; moved = moved; answer = answer })

abbrev pub gives : Plain → Option Effect
gives v = effect 0 store None (Ok (Some v))

abbrev pub fails : RunError → Option Effect
fails e = effect 0 store None (Err e)

-- a refusal of a name that moves the position of its text, which it leaves
abbrev pub fails_on : TextVal → RunError → Option Effect
fails_on t e = effect 0 store (Some t) (Err e)

-- the store with other characters in the frame of the number
abbrev pub with_number : List ℕ → Store
with_number bytes = record { frames = others bytes (codes "12  ") (codes "ab    "); sysin = sysin 5; endfile = false; left = codes "34\n5"; sysout = sysout 3; written = codes "x\n" }

-- with one frame more
abbrev pub with_one_more : List ℕ → Store
with_one_more bytes = record { frames = texts ++ (frame bytes false ∷ []); sysin = sysin 5; endfile = false; left = codes "34\n5"; sysout = sysout 3; written = codes "x\n" }

-- with another image of the input
abbrev pub read_to : List ℕ → (position : ℕ) → Bool → (left : List ℕ) → Store
read_to image position endfile left = record { frames = others (codes " -42x ") image (codes "ab    "); sysin = sysin position; endfile = endfile; left = left; sysout = sysout 3; written = codes "x\n" }

-- with another image of the output
abbrev pub written_to : List ℕ → (position : ℕ) → (written : List ℕ) → Store
written_to image position written = record { frames = others (codes " -42x ") (codes "12  ") image; sysin = sysin 5; endfile = false; left = codes "34\n5"; sysout = sysout position; written = written }

-- Integers and characters.
pub record WorkedNumbers : Type 0 where
  pub absolute : of_one name.Abs (minus 7) ≡ gives (whole 7)
  pub absolute_too_great : of_one name.Abs (minus (2 ^ 63)) ≡ fails fault.IntegerOverflow
  pub absolute_of_another_kind : of_one name.Abs (Truth true) ≡ None
  pub absolute_of_nothing : of_none name.Abs ≡ None
  pub absolute_of_two : of_two name.Abs (whole 1) (whole 2) ≡ None
  pub sign_below_zero : of_one name.Sign (minus 7) ≡ gives (minus 1)
  pub sign_of_zero : of_one name.Sign (whole 0) ≡ gives (whole 0)
  pub sign_above_zero : of_one name.Sign (whole 7) ≡ gives (whole 1)
  pub least : of_two name.Min (whole 3) (minus 2) ≡ gives (minus 2)
  pub least_is_first : of_two name.Min (minus 2) (whole 3) ≡ gives (minus 2)
  pub least_of_another_kind : of_two name.Min (Character 3) (whole 2) ≡ None
  pub greatest : of_two name.Max (whole 3) (minus 2) ≡ gives (whole 3)
  pub greatest_is_second : of_two name.Max (minus 2) (whole 3) ≡ gives (whole 3)
  pub modulus_of_a_negative : of_two name.Mod (minus 7) (whole 2) ≡ gives (whole 1)
  pub modulus_by_a_negative : of_two name.Mod (whole 7) (minus 2) ≡ gives (minus 1)
  pub modulus_without_rest : of_two name.Mod (minus 8) (whole 2) ≡ gives (whole 0)
  pub modulus_by_zero : of_two name.Mod (whole 7) (whole 0) ≡ fails fault.ZeroDivisor
  pub remainder_of_a_negative : of_two name.Rem (minus 7) (whole 2) ≡ gives (minus 1)
  pub remainder_by_a_negative : of_two name.Rem (whole 7) (minus 2) ≡ gives (whole 1)
  pub remainder_by_zero : of_two name.Rem (whole 7) (whole 0) ≡ fails fault.ZeroDivisor
  pub greatest_integer : of_none name.Maxint ≡ gives (whole 9223372036854775807)
  pub least_integer : of_none name.Minint ≡ gives (minus 9223372036854775808)
  pub character : of_one name.Char (whole 65) ≡ gives (Character 65)
  pub character_too_great : of_one name.Char (whole 256) ≡ fails fault.NoSuchCharacter
  pub character_below_zero : of_one name.Char (minus 1) ≡ fails fault.NoSuchCharacter
  pub code : of_one name.Rank (Character 65) ≡ gives (whole 65)
  pub code_of_another_kind : of_one name.Rank (whole 65) ≡ None
  pub last_character : of_one name.Isochar (whole 255) ≡ gives (Character 255)
  pub no_character : of_one name.Isochar (whole 256) ≡ fails fault.NoSuchCharacter
  pub last_code : of_one name.Isorank (Character 255) ≡ gives (whole 255)
  pub first_digit : of_one name.Digit (Character 48) ≡ gives (Truth true)
  pub last_digit : of_one name.Digit (Character 57) ≡ gives (Truth true)
  pub below_the_digits : of_one name.Digit (Character 47) ≡ gives (Truth false)
  pub above_the_digits : of_one name.Digit (Character 58) ≡ gives (Truth false)
  pub great_letter : of_one name.Letter (Character 90) ≡ gives (Truth true)
  pub small_letter : of_one name.Letter (Character 97) ≡ gives (Truth true)
  pub between_the_letters : of_one name.Letter (Character 91) ≡ gives (Truth false)
  pub digit_is_no_letter : of_one name.Letter (Character 48) ≡ gives (Truth false)

-- Texts. A new one of up to 8 characters takes three words, and one of none takes no words and no frame.
pub record WorkedTexts : Type 0 where
  pub blank : of_one name.Blanks (whole 2) ≡ effect 3 (with_one_more (codes "  ")) None (Ok (Some (Text (text_at 5 1 2 1))))
  pub blank_of_none : of_one name.Blanks (whole 0) ≡ gives (Text notext)
  pub blank_below_zero : of_one name.Blanks (minus 1) ≡ fails fault.NegativeLength
  pub copied : of_one name.Copy (Text (text_at 0 2 2 3)) ≡ effect 3 (with_one_more (codes "Z1")) None (Ok (Some (Text (text_at 5 1 2 1))))
  pub copied_of_another_kind : of_one name.Copy (Character 65) ≡ None
  pub great_letters : of_one name.Upcase (Text (text_at 1 2 5 3)) ≡ effect 0 (with_number (codes " -42X ")) None (Ok (Some (Text (text_at 1 2 5 1))))
  pub great_letters_of_a_constant : of_one name.Upcase (Text constant) ≡ fails fault.TextIsConstant
  pub great_letters_of_none : of_one name.Upcase (Text notext) ≡ gives (Text notext)
  pub small_letters : of_one name.Lowcase (Text number) ≡ gives (Text number)
  pub small_letters_of_a_constant : of_one name.Lowcase (Text constant) ≡ fails fault.TextIsConstant
  pub constant_is : of_one name.TextConstant (Text constant) ≡ gives (Truth true)
  pub notext_is_constant : of_one name.TextConstant (Text (text_at 1 3 0 1)) ≡ gives (Truth true)
  pub number_is_no_constant : of_one name.TextConstant (Text number) ≡ gives (Truth false)
  pub start : of_one name.TextStart (Text (text_at 1 3 2 1)) ≡ gives (whole 3)
  pub length : of_one name.TextLength (Text (text_at 1 3 2 1)) ≡ gives (whole 2)
  pub position : of_one name.TextPos (Text (text_at 1 3 2 2)) ≡ gives (whole 2)
  pub more_at_the_last : of_one name.TextMore (Text (text_at 1 3 2 2)) ≡ gives (Truth true)
  pub no_more_behind_it : of_one name.TextMore (Text (text_at 1 3 2 3)) ≡ gives (Truth false)
  pub whole_frame : of_one name.TextMain (Text (text_at 1 3 2 2)) ≡ gives (Text number)
  pub whole_frame_of_none : of_one name.TextMain (Text (text_at 1 3 0 1)) ≡ gives (Text notext)
  pub position_set : of_two name.TextSetpos (Text number) (whole 6) ≡ effect 0 store (Some (text_at 1 1 6 6)) (Ok None)
  pub position_set_outside : of_two name.TextSetpos (Text number) (whole 0) ≡ effect 0 store (Some (text_at 1 1 6 7)) (Ok None)
  pub position_set_below_zero : of_two name.TextSetpos (Text number) (minus 1) ≡ effect 0 store (Some (text_at 1 1 6 7)) (Ok None)
  pub position_set_too_far : of_two name.TextSetpos (Text number) (whole 8) ≡ effect 0 store (Some (text_at 1 1 6 7)) (Ok None)
  pub position_set_by_another_kind : of_two name.TextSetpos (Text number) (Text number) ≡ None
  pub character_got : of_one name.TextGetchar (Text (text_at 1 1 6 5)) ≡ effect 0 store (Some (text_at 1 1 6 6)) (Ok (Some (Character 120)))
  pub character_got_behind : of_one name.TextGetchar (Text (text_at 1 1 6 7)) ≡ fails_on (text_at 1 1 6 7) fault.GetcharPastEnd
  pub character_put : of_two name.TextPutchar (Text (text_at 1 1 6 6)) (Character 33) ≡ effect 0 (with_number (codes " -42x!")) (Some (text_at 1 1 6 7)) (Ok None)
  pub character_put_behind : of_two name.TextPutchar (Text (text_at 0 1 3 4)) (Character 33) ≡ fails_on (text_at 0 1 3 4) fault.PutcharPastEnd
  pub character_put_into_a_constant : of_two name.TextPutchar (Text constant) (Character 33) ≡ fails_on constant fault.TextIsConstant
  pub integer_is_no_character : of_two name.TextPutchar (Text number) (whole 33) ≡ None
  pub part : of_three name.TextSub (Text number) (whole 2) (whole 3) ≡ gives (Text (text_at 1 2 3 1))
  pub part_of_a_part : of_three name.TextSub (Text (text_at 1 2 3 1)) (whole 3) (whole 1) ≡ gives (Text (text_at 1 4 1 1))
  pub part_of_none : of_three name.TextSub (Text number) (whole 7) (whole 0) ≡ gives (Text notext)
  pub part_past_the_end : of_three name.TextSub (Text number) (whole 2) (whole 6) ≡ fails fault.SubtextOutOfRange
  pub part_from_zero : of_three name.TextSub (Text number) (whole 0) (whole 1) ≡ fails fault.SubtextOutOfRange
  pub part_below_zero : of_three name.TextSub (Text number) (whole 1) (minus 1) ≡ fails fault.SubtextOutOfRange
  pub without_trailing_blanks : of_one name.TextStrip (Text number) ≡ gives (Text (text_at 1 1 5 1))
  pub without_any_characters : of_one name.TextStrip (Text (text_at 1 6 1 1)) ≡ gives (Text notext)
  pub integer_got : of_one name.TextGetint (Text number) ≡ effect 0 store (Some (text_at 1 1 6 5)) (Ok (Some (minus 42)))
  pub no_integer_got : of_one name.TextGetint (Text constant) ≡ fails_on constant fault.NoIntegerItem
  pub great_integer_got : of_one name.TextGetint (Text great_number) ≡ fails_on great_number fault.IntegerItemTooLarge
  pub integer_put : of_two name.TextPutint (Text number) (minus 42) ≡ effect 0 (with_number (codes "   -42")) (Some (text_at 1 1 6 7)) (Ok None)
  pub integer_put_too_long : of_two name.TextPutint (Text (text_at 1 2 3 1)) (minus 427) ≡ effect 0 (with_number (codes " ***x ")) (Some (text_at 1 2 3 4)) (Ok None)
  pub integer_put_into_none : of_two name.TextPutint (Text notext) (whole 1) ≡ fails_on notext fault.PutintOnNotext
  pub integer_put_into_a_constant : of_two name.TextPutint (Text constant) (whole 1) ≡ fails_on constant fault.TextIsConstant

-- what names do on the input and the output where other lines are left, the image is another or the end was met
abbrev pub from : Standard → Store → Option Effect
from n s = standard_effect n [] s

abbrev pub at_end : Store
at_end = read_to (25 ∷ codes "   ") 1 true []

-- The input and the output. The image of the input has four places, that of the output six.
pub record WorkedImages : Type 0 where
  pub line_read : of_none name.Inimage ≡ effect 0 (read_to (codes "34  ") 1 false (codes "5")) None (Ok None)
  pub last_line_read : from name.Inimage (read_to (codes "34  ") 1 false (codes "5")) ≡ effect 0 (read_to (codes "5   ") 1 false []) None (Ok None)
  pub end_read : from name.Inimage (read_to (codes "5   ") 1 false []) ≡ effect 0 at_end None (Ok None)
  pub read_at_the_end : from name.Inimage at_end ≡ effect 0 at_end None (Err fault.InputAtEnd)
  pub longest_line_read : from name.Inimage (read_to (codes "12  ") 5 false (codes "abcd\n")) ≡ effect 0 (read_to (codes "abcd") 1 false []) None (Ok None)
  pub line_too_long : from name.Inimage (read_to (codes "12  ") 5 false (codes "abcde\n")) ≡ effect 0 (read_to (codes "12  ") 5 false (codes "abcde\n")) None (Err fault.InputLineTooLong)
  pub character_of_the_next_line : of_none name.Inchar ≡ effect 0 (read_to (codes "34  ") 2 false (codes "5")) None (Ok (Some (Character 51)))
  pub character_of_the_image : from name.Inchar (read_to (codes "34  ") 4 false (codes "5")) ≡ effect 0 (read_to (codes "34  ") 5 false (codes "5")) None (Ok (Some (Character 32)))
  pub character_past_the_end : from name.Inchar (read_to (25 ∷ codes "   ") 5 true []) ≡ effect 0 (read_to (25 ∷ codes "   ") 5 true []) None (Err fault.InputAtEnd)
  pub integer_of_the_next_line : of_none name.Inint ≡ effect 0 (read_to (codes "34  ") 3 false (codes "5")) None (Ok (Some (whole 34)))
  pub integer_behind_it : from name.Inint (read_to (codes "34  ") 3 false (codes " \n-5")) ≡ effect 0 (read_to (codes "-5  ") 3 false []) None (Ok (Some (minus 5)))
  pub no_integer : from name.Inint (read_to (codes " x  ") 1 false (codes "5")) ≡ effect 0 (read_to (codes " x  ") 2 false (codes "5")) None (Err fault.NoIntegerItem)
  pub no_integer_before_the_end : from name.Inint (read_to (codes "5   ") 2 false []) ≡ effect 0 at_end None (Err fault.NoItemBeforeEnd)
  pub text_read : of_one name.Intext (whole 3) ≡ effect 3 (record { frames = others (codes " -42x ") (codes "34  ") (codes "ab    ") ++ (frame (codes "34 ") false ∷ []); sysin = sysin 4; endfile = false; left = codes "5"; sysout = sysout 3; written = codes "x\n" }) None (Ok (Some (Text (text_at 5 1 3 1))))
  pub text_read_of_none : of_one name.Intext (whole 0) ≡ gives (Text notext)
  pub text_read_below_zero : of_one name.Intext (minus 1) ≡ fails fault.NegativeLength
  pub not_the_last_item : of_none name.Lastitem ≡ effect 0 (read_to (codes "34  ") 1 false (codes "5")) None (Ok (Some (Truth false)))
  pub the_last_item : from name.Lastitem (read_to (codes "5   ") 2 false []) ≡ effect 0 at_end None (Ok (Some (Truth true)))
  pub before_the_end : of_none name.Endfile ≡ gives (Truth false)
  pub the_end : from name.Endfile at_end ≡ effect 0 at_end None (Ok (Some (Truth true)))
  pub line_written : of_none name.Outimage ≡ effect 0 (written_to (codes "      ") 1 (codes "x\nab\n")) None (Ok None)
  pub empty_line_written : from name.Outimage (written_to (codes "      ") 1 (codes "x\n")) ≡ effect 0 (written_to (codes "      ") 1 (codes "x\n\n")) None (Ok None)
  pub character_written : of_one name.Outchar (Character 33) ≡ effect 0 (written_to (codes "ab!   ") 4 (codes "x\n")) None (Ok None)
  pub character_written_behind : standard_effect name.Outchar (Character 33 ∷ []) (written_to (codes "abcdef") 7 (codes "x\n")) ≡ effect 0 (written_to (codes "!     ") 2 (codes "x\nabcdef\n")) None (Ok None)
  pub integer_is_not_written_so : of_one name.Outchar (whole 33) ≡ None
  pub text_written : of_one name.Outtext (Text constant) ≡ effect 0 (written_to (codes "abaZ1 ") 6 (codes "x\n")) None (Ok None)
  pub text_written_on_the_next_line : of_one name.Outtext (Text number) ≡ effect 0 (written_to (codes " -42x ") 7 (codes "x\nab\n")) None (Ok None)
  pub integer_written : of_two name.Outint (whole 42) (whole 4) ≡ effect 0 (written_to (codes "ab  42") 7 (codes "x\n")) None (Ok None)
  pub integer_written_as_it_is : of_two name.Outint (minus 42) (whole 0) ≡ effect 0 (written_to (codes "ab-42 ") 6 (codes "x\n")) None (Ok None)
  pub integer_written_to_the_left : of_two name.Outint (whole 7) (minus 3) ≡ effect 0 (written_to (codes "ab7   ") 6 (codes "x\n")) None (Ok None)
  pub integer_written_in_stars : of_two name.Outint (whole 12345) (whole 3) ≡ effect 0 (written_to (codes "ab*** ") 6 (codes "x\n")) None (Ok None)
  pub integer_written_on_the_next_line : of_two name.Outint (whole 7) (whole 5) ≡ effect 0 (written_to (codes "    7 ") 6 (codes "x\nab\n")) None (Ok None)
  pub integer_written_in_the_whole_image : of_two name.Outint (whole 7) (whole 6) ≡ effect 0 (written_to (codes "     7") 7 (codes "x\nab\n")) None (Ok None)
  pub field_too_long : of_two name.Outint (whole 7) (whole 7) ≡ fails fault.FieldTooLong
  -- names of both images are text names on one; names elsewhere have no effect here
  pub image_elsewhere : of_none name.Image ≡ None
  pub image_of_sysin : image_at store 0 ≡ Some (sysin 5)
  pub image_of_sysout : image_at store 1 ≡ Some (sysout 3)
  pub no_other_image : image_at store 2 ≡ None
  pub sysin_moved : with_image store 0 (sysin 2) ≡ read_to (codes "12  ") 2 false (codes "34\n5")
  pub sysout_moved : with_image store 1 (sysout 6) ≡ written_to (codes "ab    ") 6 (codes "x\n")
  pub position_of_an_image : on_image name.Pos ≡ Some name.TextPos
  pub position_set_of_an_image : on_image name.Setpos ≡ Some name.TextSetpos
  pub more_of_an_image : on_image name.More ≡ Some name.TextMore
  pub length_of_an_image : on_image name.Length ≡ Some name.TextLength
  pub no_other_of_an_image : on_image name.TextPos ≡ None
  pub elsewhere : map of_none (name.Pos ∷ name.Setpos ∷ name.More ∷ name.Length ∷ name.Detach ∷ name.Call ∷ name.Resume ∷ name.Suc ∷ name.Pred ∷ name.Prev ∷ name.Out ∷ name.Follow ∷ name.Precede ∷ name.Into ∷ name.First ∷ name.Last ∷ name.Empty ∷ name.Cardinal ∷ name.Clear ∷ name.Idle ∷ name.Terminated ∷ name.Evtime ∷ name.Nextev ∷ name.Time ∷ name.Current ∷ name.Main ∷ name.Hold ∷ name.Passivate ∷ name.Wait ∷ name.Cancel ∷ []) ≡ replicate 30 None

-- ---- the store of a run at its start and at its end

-- two constants, images of three and five places, one line of input
abbrev pub begun : Store
begun = first_store (codes "hi" ∷ codes "" ∷ []) 3 5 (codes "7\n")

abbrev pub begun_frames : List ℕ → List Frame
begun_frames image = frame (codes "hi") true ∷ frame (codes "") true ∷ frame (codes "   ") false ∷ frame image false ∷ []

abbrev pub after_a_character : Store
after_a_character = record { frames = begun_frames (codes "!    "); sysin = text_at 2 1 3 4; endfile = false; left = codes "7\n"; sysout = text_at 3 1 5 2; written = codes "x\n" }

-- The constants come first, each a frame, then the images; the image of the input is used up. At the end what stands before the position is written.
pub record WorkedStores : Type 0 where
  pub first : begun ≡ record { frames = begun_frames (codes "     "); sysin = text_at 2 1 3 4; endfile = false; left = codes "7\n"; sysout = text_at 3 1 5 1; written = [] }
  pub without_constants : first_store [] 1 1 [] ≡ record { frames = frame (codes " ") false ∷ frame (codes " ") false ∷ []; sysin = text_at 0 1 1 2; endfile = false; left = []; sysout = text_at 1 1 1 1; written = [] }
  pub constant_of_a_frame : constant_text texts 2 ≡ great_number
  pub closed_at_position_1 : closing_store begun ≡ begun
  pub closed_behind_a_character : closing_store after_a_character ≡ record { frames = begun_frames (codes "     "); sysin = text_at 2 1 3 4; endfile = false; left = codes "7\n"; sysout = text_at 3 1 5 1; written = codes "x\n!\n" }
  pub closed_behind_blanks : closing_store (written_to (codes "      ") 3 (codes "x\n")) ≡ written_to (codes "      ") 1 (codes "x\n\n")
  pub closed_with_what_stands_there : closing_store (written_to (codes "abcdef") 1 (codes "x\n")) ≡ written_to (codes "abcdef") 1 (codes "x\n")

-- ---- calls one after another

abbrev pub Call : Type 0
Call = Standard × List Plain

abbrev pub left_by : Option Effect → Store → Store
left_by None s = s
left_by (Some e) s = e.store

abbrev pub answer_in : Option Effect → Option (Result (Option Plain) RunError)
answer_in None = None
answer_in (Some e) = Some e.answer

-- the store that calls leave, and what each of them answers
abbrev pub store_after : Store → List Call → Store
store_after s [] = s
store_after s (call ∷ calls) = store_after (left_by (standard_effect call.0 call.1 s) s) calls

abbrev pub answers_after : Store → List Call → List (Option (Result (Option Plain) RunError))
answers_after s [] = []
answers_after s (call ∷ calls) = answer_in (standard_effect call.0 call.1 s) ∷ answers_after (left_by (standard_effect call.0 call.1 s) s) calls

abbrev pub done : Option (Result (Option Plain) RunError)
done = Some (Ok None)

abbrev pub a_value : Plain → Option (Result (Option Plain) RunError)
a_value v = Some (Ok (Some v))

-- outint(12345,3); outchar('.'); outint(7,0); outchar('.'); outint(7,-3); outchar('.'); outimage
abbrev pub fields : List Call
fields = (name.Outint, whole 3 ∷ whole 12345 ∷ []) ∷ (name.Outchar, Character 46 ∷ []) ∷ (name.Outint, whole 0 ∷ whole 7 ∷ []) ∷ (name.Outchar, Character 46 ∷ []) ∷ (name.Outint, minus 3 ∷ whole 7 ∷ []) ∷ (name.Outchar, Character 46 ∷ []) ∷ (name.Outimage, []) ∷ []

-- integers are read and written until there is none, and then one line more is asked for
abbrev pub items : List Call
items = (name.Lastitem, []) ∷ (name.Inint, []) ∷ (name.Lastitem, []) ∷ (name.Inint, []) ∷ (name.Lastitem, []) ∷ (name.Inint, []) ∷ (name.Lastitem, []) ∷ (name.Endfile, []) ∷ (name.Inimage, []) ∷ []

abbrev pub item_answers : List (Option (Result (Option Plain) RunError))
item_answers = a_value (Truth false) ∷ a_value (whole 12) ∷ a_value (Truth false) ∷ a_value (minus 5) ∷ a_value (Truth false) ∷ a_value (whole 7) ∷ a_value (Truth true) ∷ a_value (Truth true) ∷ Some (Err fault.InputAtEnd) ∷ []

-- t :- blanks(8); t.putint(-42); u :- t.sub(6, 3); u := "x"
abbrev pub before_assignment : Store
before_assignment = store_after (first_store (codes "x" ∷ codes "AB" ∷ []) 80 132 []) ((name.Blanks, whole 8 ∷ []) ∷ (name.TextPutint, minus 42 ∷ Text (text_at 4 1 8 1) ∷ []) ∷ [])

abbrev pub behind_assignment : Store
behind_assignment = with_frames before_assignment (assign before_assignment.frames (text_at 4 6 3 1) (text_at 0 1 1 1)).frames

-- outtext(t); outchar('|'); outint(t.pos, 2); outchar('|'); outtext(copy(t.strip) & "AB"); outimage
abbrev pub before_joining : Store
before_joining = store_after behind_assignment ((name.Outtext, Text (text_at 4 1 8 9) ∷ []) ∷ (name.Outchar, Character 124 ∷ []) ∷ (name.Outint, whole 2 ∷ whole 9 ∷ []) ∷ (name.Outchar, Character 124 ∷ []) ∷ (name.Copy, Text (text_at 4 1 6 1) ∷ []) ∷ [])

abbrev pub behind_joining : Store
behind_joining = with_frames before_joining (join before_joining.frames (text_at 5 1 6 1) (text_at 1 1 2 1)).frames

pub record WorkedCalls : Type 0 where
  pub fields_written : (store_after (first_store [] 80 132 []) fields).written ≡ codes "***.7.7  .\n"
  pub fields_done : answers_after (first_store [] 80 132 []) fields ≡ replicate 7 done
  pub items_read : answers_after (first_store [] 80 132 (codes "12 -5\n  7")) items ≡ item_answers
  pub texts_written : (store_after behind_joining ((name.Outtext, Text (text_at 6 1 8 1) ∷ []) ∷ (name.Outimage, []) ∷ [])).written ≡ codes "     x  | 9|     xAB\n"
  pub strip_of_it : standard_effect name.TextStrip (Text (text_at 4 1 8 9) ∷ []) behind_assignment ≡ effect 0 behind_assignment None (Ok (Some (Text (text_at 4 1 6 1))))
  pub too_long_before_constant : assign texts constant number ≡ refused texts constant fault.TextTooLong
  pub assigned_to_a_constant : assign texts constant (text_at 1 1 3 1) ≡ refused texts constant fault.TextIsConstant

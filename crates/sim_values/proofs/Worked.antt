-- The worked rows, computed.
use Rattle.std.proofs.Common.{◌≡◌, refl}
use Rattle.sim_values.specs.Operators.{calculate, compare, compare_as_texts, connect, same_objects, same_texts, two_of, one_of, step_test}
use Rattle.sim_values.specs.Standard.{take_integer, take_character, take_text, take_nothing, row_of, standard_effect}
use Rattle.std.specs.Fmt.{digits}
use Rattle.sim_values.specs.Plain.{initial, kind_of}
use Rattle.sim_values.specs.declared.kind.Kind.{Kind}
use Rattle.sim_values.specs.declared.kind.Kind.TheVariants as kind
use Rattle.sim_values.specs.Examples.{WorkedOperators, WorkedSteps, WorkedNumbers, WorkedTexts, WorkedImages, WorkedStores, WorkedCalls}

pub operators : WorkedOperators
unfolding calculate compare compare_as_texts connect same_objects same_texts two_of one_of step_test
operators = record {
  sum = refl;
  sum_too_great = refl;
  sum_of_a_truth = refl;
  sum_with_a_character = refl;
  difference = refl;
  difference_too_small = refl;
  difference_from_none = refl;
  product = refl;
  product_too_great = refl;
  product_with_a_text = refl;
  quotient_of_a_negative = refl;
  quotient_by_a_negative = refl;
  quotient_by_zero = refl;
  quotient_too_great = refl;
  quotient_of_an_object = refl;
  power = refl;
  power_too_great = refl;
  power_of_zero = refl;
  zero_to_zero = refl;
  one_to_a_negative = refl;
  power_of_a_character = refl;
  less = refl;
  equal = refl;
  greater = refl;
  character_less = refl;
  character_equal = refl;
  character_greater = refl;
  character_and_integer = refl;
  integer_and_character = refl;
  truths_in_no_order = refl;
  texts_by_their_own = refl;
  text_less = refl;
  text_equal = refl;
  text_greater = refl;
  text_and_character = refl;
  integers_are_no_texts = refl;
  conjunction = refl;
  disjunction = refl;
  implication = refl;
  equivalence = refl;
  conjunction_of_integers = refl;
  disjunction_with_none = refl;
  same_object = refl;
  other_object = refl;
  object_and_none = refl;
  none_and_object = refl;
  none_and_none = refl;
  same_main = refl;
  other_main = refl;
  main_and_object = refl;
  none_and_main = refl;
  object_and_integer = refl;
  text_and_object = refl;
  same_but_position = refl;
  other_start = refl;
  other_length = refl;
  other_frame = refl;
  both_of_length_0 = refl;
  text_and_none = refl;
  none_and_text = refl;
  negation = refl;
  negation_too_great = refl;
  negation_of_a_truth = refl;
  not_true = refl;
  not_false = refl;
  not_of_an_integer = refl;
}

pub steps : WorkedSteps
unfolding step_test
steps = record {
  rising = refl;
  at_the_limit = refl;
  past_the_limit = refl;
  falling = refl;
  fallen = refl;
  no_step = refl;
  far_past = refl;
  far_before = refl;
  step_of_another_kind = refl;
  variable_of_another_kind = refl;
  limit_of_another_kind = refl;
}

pub numbers : WorkedNumbers
unfolding digits take_integer take_character take_text take_nothing row_of standard_effect
numbers = record {
  absolute = refl;
  absolute_too_great = refl;
  absolute_of_another_kind = refl;
  absolute_of_nothing = refl;
  absolute_of_two = refl;
  sign_below_zero = refl;
  sign_of_zero = refl;
  sign_above_zero = refl;
  least = refl;
  least_is_first = refl;
  least_of_another_kind = refl;
  greatest = refl;
  greatest_is_second = refl;
  modulus_of_a_negative = refl;
  modulus_by_a_negative = refl;
  modulus_without_rest = refl;
  modulus_by_zero = refl;
  remainder_of_a_negative = refl;
  remainder_by_a_negative = refl;
  remainder_by_zero = refl;
  greatest_integer = refl;
  least_integer = refl;
  character = refl;
  character_too_great = refl;
  character_below_zero = refl;
  code = refl;
  code_of_another_kind = refl;
  last_character = refl;
  no_character = refl;
  last_code = refl;
  first_digit = refl;
  last_digit = refl;
  below_the_digits = refl;
  above_the_digits = refl;
  great_letter = refl;
  small_letter = refl;
  between_the_letters = refl;
  digit_is_no_letter = refl;
}

pub texts : WorkedTexts
unfolding digits take_integer take_character take_text take_nothing row_of standard_effect
texts = record {
  blank = refl;
  blank_of_none = refl;
  blank_below_zero = refl;
  copied = refl;
  copied_of_another_kind = refl;
  great_letters = refl;
  great_letters_of_a_constant = refl;
  great_letters_of_none = refl;
  small_letters = refl;
  small_letters_of_a_constant = refl;
  constant_is = refl;
  notext_is_constant = refl;
  number_is_no_constant = refl;
  start = refl;
  length = refl;
  position = refl;
  more_at_the_last = refl;
  no_more_behind_it = refl;
  whole_frame = refl;
  whole_frame_of_none = refl;
  position_set = refl;
  position_set_outside = refl;
  position_set_below_zero = refl;
  position_set_too_far = refl;
  position_set_by_another_kind = refl;
  character_got = refl;
  character_got_behind = refl;
  character_put = refl;
  character_put_behind = refl;
  character_put_into_a_constant = refl;
  integer_is_no_character = refl;
  part = refl;
  part_of_a_part = refl;
  part_of_none = refl;
  part_past_the_end = refl;
  part_from_zero = refl;
  part_below_zero = refl;
  without_trailing_blanks = refl;
  without_any_characters = refl;
  integer_got = refl;
  no_integer_got = refl;
  great_integer_got = refl;
  integer_put = refl;
  integer_put_too_long = refl;
  integer_put_into_none = refl;
  integer_put_into_a_constant = refl;
}

pub images : WorkedImages
unfolding digits take_integer take_character take_text take_nothing row_of standard_effect
images = record {
  line_read = refl;
  last_line_read = refl;
  end_read = refl;
  read_at_the_end = refl;
  longest_line_read = refl;
  line_too_long = refl;
  character_of_the_next_line = refl;
  character_of_the_image = refl;
  character_past_the_end = refl;
  integer_of_the_next_line = refl;
  integer_behind_it = refl;
  no_integer = refl;
  no_integer_before_the_end = refl;
  text_read = refl;
  text_read_of_none = refl;
  text_read_below_zero = refl;
  not_the_last_item = refl;
  the_last_item = refl;
  before_the_end = refl;
  the_end = refl;
  line_written = refl;
  empty_line_written = refl;
  character_written = refl;
  character_written_behind = refl;
  integer_is_not_written_so = refl;
  text_written = refl;
  text_written_on_the_next_line = refl;
  integer_written = refl;
  integer_written_as_it_is = refl;
  integer_written_to_the_left = refl;
  integer_written_in_stars = refl;
  integer_written_on_the_next_line = refl;
  integer_written_in_the_whole_image = refl;
  field_too_long = refl;
  image_elsewhere = refl;
  image_of_sysin = refl;
  image_of_sysout = refl;
  no_other_image = refl;
  sysin_moved = refl;
  sysout_moved = refl;
  position_of_an_image = refl;
  position_set_of_an_image = refl;
  more_of_an_image = refl;
  length_of_an_image = refl;
  no_other_of_an_image = refl;
  elsewhere = refl;
}

pub stores : WorkedStores
stores = record {
  first = refl;
  without_constants = refl;
  constant_of_a_frame = refl;
  closed_at_position_1 = refl;
  closed_behind_a_character = refl;
  closed_behind_blanks = refl;
  closed_with_what_stands_there = refl;
}

pub calls : WorkedCalls
unfolding digits take_integer take_character take_text take_nothing row_of standard_effect
calls = record {
  fields_written = refl;
  fields_done = refl;
  items_read = refl;
  texts_written = refl;
  strip_of_it = refl;
  too_long_before_constant = refl;
  assigned_to_a_constant = refl;
}

pub of_its_kind : (k : Kind) → kind_of (initial k) ≡ k
of_its_kind kind.Integer = refl
of_its_kind kind.Boolean = refl
of_its_kind kind.Character = refl
of_its_kind kind.Text = refl
of_its_kind kind.Reference = refl

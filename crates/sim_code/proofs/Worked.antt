-- Small codes, run by the machine's table.
use Rattle.std.proofs.Common.{refl}
use Rattle.std.specs.Fmt.{digits}
use Rattle.sim_code.specs.Arrays.{element_place, making_array, copying_array, keeping_array, finding_element, giving_back, handed_over}
use Rattle.sim_code.specs.Events.{stopping, no_rule, ticking, taking, entering, having, when, computing, choosing, popping, pop_many, pop_plain, pop_truth, pop_integers, pop_operands, pop_text, answering, applying_one, applying_two, testing_step, performing, putting_back, assigning, making_text, joining}
use Rattle.sim_code.specs.Instances.{at_level, kept_on, object_ended, system_head}
use Rattle.sim_code.specs.Machine.{pushing, index, level as level_of_machine, cell_at, jumping, block_at, own_block, leaving, with_result}
use Rattle.sim_code.specs.Rows.{put_back, putting}
use Rattle.sim_values.specs.Operators.{calculate, compare, compare_as_texts, connect, same_objects, same_texts, two_of, one_of, step_test}
use Rattle.sim_values.specs.Standard.{take_integer, take_character, take_text, take_nothing, row_of, standard_effect}
use Rattle.sim_code.specs.Examples.{Worked}
use Rattle.sim_code.specs.Classes.{levels, process_class}
use Rattle.sim_code.specs.Levels.{leading, levelled, objects_of, own_levels, parameter_cell}
use Rattle.sim_code.specs.Events.{not_nothing, pop_object, pop_reference, referring}
use Rattle.sim_code.specs.ClassExamples.{Worked as WorkedClasses}
use Rattle.sim_code.specs.CoroutineExamples.{Worked as WorkedCoroutines}
use Rattle.sim_code.specs.Transfers.{transferring}
use Rattle.simset.specs.Sets.{cardinal_of, clear, follow, head_of, into, out, precede, pred_of, prev_of, suc_of}
use Rattle.sim_code.specs.Levels.{ending_process, linkage_with}
use Rattle.sim_code.specs.Sets.{performing_set, pop_given}
use Rattle.sim_code.specs.SetExamples.{Worked as WorkedSets}
use Rattle.sim_code.specs.SimulationExamples.{Worked as WorkedSimulations}
use Rattle.sim_code.specs.VirtualExamples.{Worked as WorkedVirtuals}
use Rattle.sim_code.specs.FormalExamples.{Worked as WorkedFormals}
use Rattle.sim_code.specs.Formals.{copying_value, each, formal_in_hand, passing, suiting}
use Rattle.sim_code.specs.Thunks.{in_thunk, locating}
use Rattle.sim_code.specs.Virtuals.{counting, match_found, matching}
use Rattle.sim_code.specs.Simulations.{located}
use Rattle.sim_code.specs.Scheduling.{deciding, performing_activation, performing_process, performing_simulation, pop_block, pop_operand_if}

pub worked : Worked
unfolding digits element_place making_array copying_array keeping_array finding_element giving_back handed_over stopping no_rule ticking taking entering having when computing choosing popping pop_many pop_plain pop_truth pop_integers pop_operands pop_text answering applying_one applying_two testing_step performing putting_back assigning making_text joining at_level kept_on pushing index level_of_machine cell_at jumping block_at own_block leaving with_result putting put_back calculate compare compare_as_texts connect same_objects same_texts two_of one_of step_test take_integer take_character take_text take_nothing row_of standard_effect
worked = record {
  arithmetic_done = refl;
  jumps_done = refl;
  block_left = refl;
  no_words_left = refl;
  no_ticks_left = refl;
  result_given = refl;
  copy_apart = refl;
  step_tested = refl;
  address_moved = refl;
  text_assigned = refl;
  image_moved = refl;
  not_an_image = refl;
  no_third_image = refl;
  no_such_cell = refl;
  without_value = refl;
  without_room = refl;
  without_tick = refl;
  past_the_end = refl;
}

pub worked_classes : WorkedClasses
unfolding digits element_place making_array copying_array keeping_array finding_element giving_back handed_over stopping no_rule ticking taking entering having when computing choosing popping pop_many pop_plain pop_truth pop_integers pop_operands pop_text answering applying_one applying_two testing_step performing putting_back assigning making_text joining at_level kept_on pushing index level_of_machine cell_at jumping block_at own_block leaving with_result putting put_back calculate compare compare_as_texts connect same_objects same_texts two_of one_of step_test take_integer take_character take_text take_nothing row_of standard_effect levels pop_object referring pop_reference not_nothing parameter_cell leading levelled objects_of own_levels object_ended linkage_with process_class
worked_classes = record {
  outermost_first = refl;
  without_prefix = refl;
  in_front_of_itself = refl;
  prefix_not_there = refl;
  not_there = refl;
  exact = refl;
  not_exact = refl;
  inside = refl;
  outside = refl;
  beside = refl;
  broken = refl;
  no_class_of_a_block = refl;
  none_is_in_none = refl;
  none_may_stand = refl;
  no_reference = refl;
  through_reference = refl;
  through_none = refl;
  is_none = refl;
  no_such_class = refl;
  no_such_attribute = refl;
  no_class_tested = refl;
  of_no_class = refl;
  own_parameter = refl;
  parameter_of_prefix = refl;
  levels_done = refl;
  no_words_for_object = refl;
  end_takes_a_tick = refl;
  prefixed_done = refl;
  inner_too_early = refl;
  end_too_early = refl;
  declared_twice = refl;
  no_second_level = refl;
  no_declarations = refl;
  value_missing = refl;
  no_level_ends = refl;
}

pub worked_coroutines : WorkedCoroutines
unfolding digits element_place making_array copying_array keeping_array finding_element giving_back handed_over stopping no_rule ticking taking entering having when computing choosing popping pop_many pop_plain pop_truth pop_integers pop_operands pop_text answering applying_one applying_two testing_step performing putting_back assigning making_text joining at_level kept_on pushing index level_of_machine cell_at jumping block_at own_block leaving with_result putting put_back calculate compare compare_as_texts connect same_objects same_texts two_of one_of step_test take_integer take_character take_text take_nothing row_of standard_effect levels pop_object referring pop_reference not_nothing parameter_cell leading levelled objects_of own_levels object_ended transferring system_head linkage_with
worked_coroutines = record {
  both_end = refl;
  terminated = refl;
  value_kept = refl;
  not_operating = refl;
  ended_object = refl;
  no_object_detached = refl;
  no_object_called = refl;
  none_no_component = refl;
  through_none = refl;
  none_untested = refl;
  calls_itself = refl;
  ends_resumed = refl;
  resumed_too_late = refl;
  no_object_resumed = refl;
  none_not_resumed = refl;
  in_turn = refl;
  resumed_calls_itself = refl;
  system_away = refl;
}

pub worked_sets : WorkedSets
unfolding digits element_place making_array copying_array keeping_array finding_element giving_back handed_over stopping no_rule ticking taking entering having when computing choosing popping pop_many pop_plain pop_truth pop_integers pop_operands pop_text answering applying_one applying_two testing_step performing putting_back assigning making_text joining at_level kept_on pushing index level_of_machine cell_at jumping block_at own_block leaving with_result putting put_back calculate compare compare_as_texts connect same_objects same_texts two_of one_of step_test take_integer take_character take_text take_nothing row_of standard_effect levels pop_object referring pop_reference not_nothing parameter_cell leading levelled objects_of own_levels object_ended transferring system_head linkage_with pop_given performing_set head_of suc_of pred_of prev_of cardinal_of out follow precede into clear
worked_sets = record {
  of_linkage = refl;
  with_link_in_front = refl;
  of_head_itself = refl;
  with_head_in_front = refl;
  no_linkage = refl;
  without_levels = refl;
  number_of_object = refl;
  no_number = refl;
  none_given = refl;
  linkage_as_given = refl;
  other_given = refl;
  first_is_object = refl;
  before_is_head = refl;
  none_after = refl;
  number_of_links = refl;
  in_and_out_done = refl;
  placed_done = refl;
  other_object = refl;
  no_head = refl;
  no_link = refl;
  no_object = refl;
  no_head_given = refl;
  no_linkage_given = refl;
}

pub worked_simulations : WorkedSimulations
unfolding digits element_place making_array copying_array keeping_array finding_element giving_back handed_over stopping no_rule ticking taking entering having when computing choosing popping pop_many pop_plain pop_truth pop_integers pop_operands pop_text answering applying_one applying_two testing_step performing putting_back assigning making_text joining at_level kept_on pushing index level_of_machine cell_at jumping block_at own_block leaving with_result putting put_back calculate compare compare_as_texts connect same_objects same_texts two_of one_of step_test take_integer take_character take_text take_nothing row_of standard_effect levels pop_object referring pop_reference not_nothing parameter_cell leading levelled objects_of own_levels object_ended transferring system_head linkage_with pop_given performing_set head_of suc_of pred_of prev_of cardinal_of out follow precede into clear process_class located performing_process performing_simulation performing_activation pop_block pop_operand_if deciding ending_process
worked_simulations = record {
  process_of_block = refl;
  process_of_none = refl;
  processes_are_links = refl;
  main_is_process = refl;
  main_is_no_link = refl;
  main_in_link = refl;
  main_not_below = refl;
  no_main_of_process = refl;
  time_goes_on = refl;
  process_first = refl;
  behind_equal_times = refl;
  placed_beside = refl;
  current_moved = refl;
  none_left = refl;
  none_left_but_main = refl;
  none_left_at_end = refl;
  time_too_large = refl;
  no_event_time = refl;
  no_process = refl;
  terminated_at_end = refl;
  second_end = refl;
  main_not_called = refl;
  main_not_resumed = refl;
  main_not_detached = refl;
  process_in_set = refl;
  main_in_set = refl;
  other_block = refl;
  no_simulation_block = refl;
}

pub worked_virtuals : WorkedVirtuals
unfolding digits element_place making_array copying_array keeping_array finding_element giving_back handed_over stopping no_rule ticking taking entering having when computing choosing popping pop_many pop_plain pop_truth pop_integers pop_operands pop_text answering applying_one applying_two testing_step performing putting_back assigning making_text joining at_level kept_on pushing index level_of_machine cell_at jumping block_at own_block leaving with_result putting put_back calculate compare compare_as_texts connect same_objects same_texts two_of one_of step_test take_integer take_character take_text take_nothing row_of standard_effect levels pop_object referring pop_reference not_nothing parameter_cell leading levelled objects_of own_levels object_ended linkage_with process_class matching counting match_found suiting each
worked_virtuals = record {
  object_decides = refl;
  none_first = refl;
  one_too_many = refl;
  one_too_few = refl;
  value_handed_in = refl;
  entry_takes_a_tick = refl;
  entry_takes_words = refl;
  wrong_type = refl;
  nothing_in_hand = refl;
  nothing_checked = refl;
  no_such_list = refl;
  of_no_class = refl;
}

pub worked_formals : WorkedFormals
unfolding digits element_place making_array copying_array keeping_array finding_element giving_back handed_over stopping no_rule ticking taking entering having when computing choosing popping pop_many pop_plain pop_truth pop_integers pop_operands pop_text answering applying_one applying_two testing_step performing putting_back assigning making_text joining at_level kept_on pushing index level_of_machine cell_at jumping block_at own_block leaving with_result putting put_back calculate compare compare_as_texts connect same_objects same_texts two_of one_of step_test take_integer take_character take_text take_nothing row_of standard_effect levels pop_object referring pop_reference not_nothing parameter_cell leading levelled objects_of own_levels object_ended linkage_with process_class matching counting match_found suiting each copying_value formal_in_hand passing in_thunk locating
worked_formals = record {
  integer_passed = refl;
  name_passed = refl;
  text_copied = refl;
  copy_takes_words = refl;
  array_copied = refl;
  procedure_passed = refl;
  reference_held = refl;
  type_checked = refl;
  greater_within = refl;
  no_lesser_within = refl;
  no_room_for_value = refl;
  no_room_for_named = refl;
  no_class_named = refl;
  no_such_parameter = refl;
  nothing_in_hand = refl;
  no_procedure_value = refl;
  class_inside = refl;
  class_outside = refl;
  class_beside = refl;
  none_anywhere = refl;
  same_elements = refl;
  other_elements = refl;
  result_inside = refl;
  result_outside = refl;
  no_result_wanted = refl;
  called_alone = refl;
  not_called_alone = refl;
  array_no_value = refl;
  nothing_no_value = refl;
  value_no_procedure = refl;
  number_first = refl;
  then_types = refl;
  all_right = refl;
  one_object = refl;
  other_object = refl;
  none_of_no_object = refl;
  without_class = refl;
  class_missing = refl;
}

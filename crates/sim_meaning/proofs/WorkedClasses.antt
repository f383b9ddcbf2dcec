-- Worked programs with classes, computed by their meaning.
use Rattle.std.proofs.Common.{refl}
use Rattle.std.specs.Fmt.{digits}
use Rattle.sim_code.specs.Arrays.{element_place, making_array, copying_array, keeping_array, finding_element, giving_back, handed_over}
use Rattle.sim_code.specs.Events.{not_nothing, pop_object, pop_reference, qualifying, referring, stopping, no_rule, ticking, taking, entering, having, when, computing, choosing, popping, pop_many, pop_plain, pop_truth, pop_integers, pop_operands, pop_text, answering, applying_one, applying_two, testing_step, performing, putting_back, assigning, making_text, joining}
use Rattle.sim_code.specs.Instances.{at_level, kept_on, object_ended}
use Rattle.sim_code.specs.Machine.{pushing, index, level as level_of_machine, cell_at, jumping, block_at, own_block, leaving, with_result}
use Rattle.sim_code.specs.Rows.{put_back, putting}
use Rattle.sim_meaning.specs.Attributes.{connection_at, own_attribute, transfer_at}
use Rattle.sim_meaning.specs.Levels.{belongs, class_at, has_procedure, is_in, is_of, levels, levels_of, linkage_of_text, process_class, qualification, is_process_itself, is_process_text, stands_in}
use Rattle.sim_meaning.specs.Closing.{by_name, is_attribute, is_text, home_of, is_variable, stream_of, own_result, own_match, result_meant}
use Rattle.sim_meaning.specs.Entries.{first_cells}
use Rattle.sim_meaning.specs.Meaning.{leaving as leaving_of_meaning}
use Rattle.sim_meaning.specs.Constants.{constants_of, text_constant, text_constants}
use Rattle.sim_scope.specs.Calls.{is_inside}
use Rattle.sim_meaning.specs.Steps.{put_back as back_of_steps, putting as putting_of_steps}
use Rattle.sim_meaning.specs.Texts.{standard_texts, text, is_class_free, declared_at, constant_of}
use Rattle.sim_values.specs.Operators.{calculate, compare, compare_as_texts, connect, same_objects, same_texts, two_of, one_of, step_test}
use Rattle.sim_values.specs.Standard.{take_integer, take_character, take_text, take_nothing, row_of, standard_effect}
use Rattle.sim_scope.specs.Building.{default_mode, mode_allowed, marked}
use Rattle.sim_scope.specs.Declare.{class_prefix_marks, prefixed_marks, prefix_marks, standard_marks, marks_of_standard, type_named, result_named, mode_named, first_of_procedure, first_of_class, variable_marks, array_marks, parameter_marks, moded_marks, specified_marks, headed_marks, procedure_marks, class_marks, virtual_name_marks, program_marks, inner_marks, declaring, of_segment, of_mode_part, of_specification, of_specifier, of_virtual, of_heading, declared_by, declarations_of, qualified_marks, qualified_result}
use Rattle.sim_scope.specs.Runs.{run as run_of_runs}
use Rattle.sim_scope.specs.Access.{encloser, block_at as block_at_of_scopes, accessible, protects, is_kind, some_around_of, some_around}
use Rattle.sim_scope.specs.Levels.{base, class_block, has_level, is_simulation_block, some_level_of}
use Rattle.sim_scope.specs.Scopes.{class_formals, shows_detach, class_formals_of, found_in, if_found, lookup, shown as shown_of_scopes, searched, declaration_from, binding, entry_of, formals_of, formal_of, result_of, brought_by, level_shows, shown_of, is_detach, ends_search, outward, virtual_of, represented, standard_at}
use Rattle.sim_scope.specs.Source.{source_of, found_at, denoted, type_at, line_at, level_of, block_of, block_around}
use Rattle.sim_scope.specs.Standard.{standard_prefix, standard_name, text_attribute, sysin_attribute, sysout_attribute, signature, undeclared}
use Rattle.sim_scope.specs.Walk.{program_events, of_statement, of_branch, of_arm, of_block, of_whole, of_class_body, of_declaration}
use Rattle.sim_scope.specs.Along.{first_along}
use Rattle.sim_scope.specs.References.{is_this, this_block, this_of}
use Rattle.sim_scope.specs.Tables.{with_entry_at}
use Rattle.sim_meaning.specs.Objects.{putting_reference}
use Rattle.std.specs.Prelude.{◌≡◌, codes}
use Rattle.sim_base.specs.declared.run_error.RunError.TheVariants.{AccessThroughNone, OutsideQualification}
use Rattle.sim_code.specs.Outcome.{Normal, RunFault, StorageExhausted}
use Rattle.sim_meaning.specs.Examples.{limits, seen, shows}
use Rattle.sim_meaning.specs.ClassExamples.{WorkedClasses, access_through_none, actual_outside, attributes_of_each_kind, chained_objects, class_in_class, connected_attributes, inspections, levels_in_turn, memberships, objects_without_end, outside_qualification, parameters_of_levels, prefixed_blocks, references_passed_on}

inner_by_levels : seen levels_in_turn (limits 1000 1000) 1000 ≡ shows (codes "a1 b1 c b2 a2  2 1\n") 17 12 Normal
unfolding is_process_itself by_name digits element_place making_array copying_array keeping_array finding_element giving_back handed_over stopping no_rule ticking taking entering having when computing choosing popping pop_many pop_plain pop_truth pop_integers pop_operands pop_text answering applying_one applying_two testing_step performing putting_back assigning making_text joining at_level kept_on pushing index level_of_machine cell_at jumping block_at own_block leaving with_result putting put_back is_text home_of first_cells leaving_of_meaning constants_of putting_of_steps back_of_steps text_constants text_constant is_variable stream_of own_result own_match result_meant is_inside text is_class_free declared_at constant_of calculate compare compare_as_texts connect same_objects same_texts two_of one_of step_test take_integer take_character take_text take_nothing row_of standard_effect default_mode mode_allowed marked type_named result_named mode_named first_of_procedure first_of_class variable_marks array_marks parameter_marks moded_marks specified_marks headed_marks procedure_marks class_marks virtual_name_marks program_marks inner_marks declaring of_segment of_mode_part of_specification of_specifier of_virtual of_heading declared_by declarations_of run_of_runs lookup shown_of_scopes encloser searched block_at_of_scopes declaration_from binding entry_of formals_of formal_of result_of source_of denoted type_at line_at level_of block_of block_around standard_name text_attribute sysin_attribute sysout_attribute signature undeclared program_events of_statement of_branch of_arm of_block of_whole of_class_body of_declaration accessible protects is_kind some_around_of some_around base brought_by level_shows shown_of is_detach ends_search outward virtual_of represented standard_at qualified_marks qualified_result connection_at transfer_at found_at is_attribute qualification class_prefix_marks prefixed_marks prefix_marks standard_marks marks_of_standard standard_prefix standard_texts class_block has_level is_simulation_block some_level_of shows_detach class_formals class_formals_of found_in if_found object_ended pop_object qualifying referring belongs class_at is_in is_of levels levels_of first_along is_this this_block this_of with_entry_at putting_reference own_attribute linkage_of_text process_class is_process_text stands_in pop_reference not_nothing
inner_by_levels = refl

storage_exhausted : seen objects_without_end (limits 1000 2000) 6000 ≡ shows (codes "") 997 995 (StorageExhausted 6 995 6)
unfolding is_process_itself by_name digits element_place making_array copying_array keeping_array finding_element giving_back handed_over stopping no_rule ticking taking entering having when computing choosing popping pop_many pop_plain pop_truth pop_integers pop_operands pop_text answering applying_one applying_two testing_step performing putting_back assigning making_text joining at_level kept_on pushing index level_of_machine cell_at jumping block_at own_block leaving with_result putting put_back is_text home_of first_cells leaving_of_meaning constants_of putting_of_steps back_of_steps text_constants text_constant is_variable stream_of own_result own_match result_meant is_inside text is_class_free declared_at constant_of calculate compare compare_as_texts connect same_objects same_texts two_of one_of step_test take_integer take_character take_text take_nothing row_of standard_effect default_mode mode_allowed marked type_named result_named mode_named first_of_procedure first_of_class variable_marks array_marks parameter_marks moded_marks specified_marks headed_marks procedure_marks class_marks virtual_name_marks program_marks inner_marks declaring of_segment of_mode_part of_specification of_specifier of_virtual of_heading declared_by declarations_of run_of_runs lookup shown_of_scopes encloser searched block_at_of_scopes declaration_from binding entry_of formals_of formal_of result_of source_of denoted type_at line_at level_of block_of block_around standard_name text_attribute sysin_attribute sysout_attribute signature undeclared program_events of_statement of_branch of_arm of_block of_whole of_class_body of_declaration accessible protects is_kind some_around_of some_around base brought_by level_shows shown_of is_detach ends_search outward virtual_of represented standard_at qualified_marks qualified_result connection_at transfer_at found_at is_attribute qualification class_prefix_marks prefixed_marks prefix_marks standard_marks marks_of_standard standard_prefix standard_texts class_block has_level is_simulation_block some_level_of shows_detach class_formals class_formals_of found_in if_found object_ended pop_object qualifying referring belongs class_at is_in is_of levels levels_of first_along is_this this_block this_of with_entry_at putting_reference own_attribute linkage_of_text process_class is_process_text stands_in pop_reference not_nothing
storage_exhausted = refl

connected_by_class : seen inspections (limits 1000 1000) 1000 ≡ shows (codes "  1  3none\n") 21 15 Normal
unfolding is_process_itself by_name digits element_place making_array copying_array keeping_array finding_element giving_back handed_over stopping no_rule ticking taking entering having when computing choosing popping pop_many pop_plain pop_truth pop_integers pop_operands pop_text answering applying_one applying_two testing_step performing putting_back assigning making_text joining at_level kept_on pushing index level_of_machine cell_at jumping block_at own_block leaving with_result putting put_back is_text home_of first_cells leaving_of_meaning constants_of putting_of_steps back_of_steps text_constants text_constant is_variable stream_of own_result own_match result_meant is_inside text is_class_free declared_at constant_of calculate compare compare_as_texts connect same_objects same_texts two_of one_of step_test take_integer take_character take_text take_nothing row_of standard_effect default_mode mode_allowed marked type_named result_named mode_named first_of_procedure first_of_class variable_marks array_marks parameter_marks moded_marks specified_marks headed_marks procedure_marks class_marks virtual_name_marks program_marks inner_marks declaring of_segment of_mode_part of_specification of_specifier of_virtual of_heading declared_by declarations_of run_of_runs lookup shown_of_scopes encloser searched block_at_of_scopes declaration_from binding entry_of formals_of formal_of result_of source_of denoted type_at line_at level_of block_of block_around standard_name text_attribute sysin_attribute sysout_attribute signature undeclared program_events of_statement of_branch of_arm of_block of_whole of_class_body of_declaration accessible protects is_kind some_around_of some_around base brought_by level_shows shown_of is_detach ends_search outward virtual_of represented standard_at qualified_marks qualified_result connection_at transfer_at found_at is_attribute qualification class_prefix_marks prefixed_marks prefix_marks standard_marks marks_of_standard standard_prefix standard_texts class_block has_level is_simulation_block some_level_of shows_detach class_formals class_formals_of found_in if_found object_ended pop_object qualifying referring belongs class_at is_in is_of levels levels_of first_along is_this this_block this_of with_entry_at putting_reference own_attribute linkage_of_text process_class is_process_text stands_in pop_reference not_nothing
connected_by_class = refl

none_before_actuals : seen access_through_none (limits 1000 1000) 1000 ≡ shows (codes "f1\n") 13 17 (RunFault AccessThroughNone 9)
unfolding is_process_itself by_name digits element_place making_array copying_array keeping_array finding_element giving_back handed_over stopping no_rule ticking taking entering having when computing choosing popping pop_many pop_plain pop_truth pop_integers pop_operands pop_text answering applying_one applying_two testing_step performing putting_back assigning making_text joining at_level kept_on pushing index level_of_machine cell_at jumping block_at own_block leaving with_result putting put_back is_text home_of first_cells leaving_of_meaning constants_of putting_of_steps back_of_steps text_constants text_constant is_variable stream_of own_result own_match result_meant is_inside text is_class_free declared_at constant_of calculate compare compare_as_texts connect same_objects same_texts two_of one_of step_test take_integer take_character take_text take_nothing row_of standard_effect default_mode mode_allowed marked type_named result_named mode_named first_of_procedure first_of_class variable_marks array_marks parameter_marks moded_marks specified_marks headed_marks procedure_marks class_marks virtual_name_marks program_marks inner_marks declaring of_segment of_mode_part of_specification of_specifier of_virtual of_heading declared_by declarations_of run_of_runs lookup shown_of_scopes encloser searched block_at_of_scopes declaration_from binding entry_of formals_of formal_of result_of source_of denoted type_at line_at level_of block_of block_around standard_name text_attribute sysin_attribute sysout_attribute signature undeclared program_events of_statement of_branch of_arm of_block of_whole of_class_body of_declaration accessible protects is_kind some_around_of some_around base brought_by level_shows shown_of is_detach ends_search outward virtual_of represented standard_at qualified_marks qualified_result connection_at transfer_at found_at is_attribute qualification class_prefix_marks prefixed_marks prefix_marks standard_marks marks_of_standard standard_prefix standard_texts class_block has_level is_simulation_block some_level_of shows_detach class_formals class_formals_of found_in if_found object_ended pop_object qualifying referring belongs class_at has_procedure is_in is_of levels levels_of first_along is_this this_block this_of with_entry_at putting_reference own_attribute linkage_of_text process_class is_process_text stands_in pop_reference not_nothing
none_before_actuals = refl

reference_outside : seen outside_qualification (limits 1000 1000) 1000 ≡ shows (codes " 3\n") 13 15 (RunFault OutsideQualification 7)
unfolding is_process_itself by_name digits element_place making_array copying_array keeping_array finding_element giving_back handed_over stopping no_rule ticking taking entering having when computing choosing popping pop_many pop_plain pop_truth pop_integers pop_operands pop_text answering applying_one applying_two testing_step performing putting_back assigning making_text joining at_level kept_on pushing index level_of_machine cell_at jumping block_at own_block leaving with_result putting put_back is_text home_of first_cells leaving_of_meaning constants_of putting_of_steps back_of_steps text_constants text_constant is_variable stream_of own_result own_match result_meant is_inside text is_class_free declared_at constant_of calculate compare compare_as_texts connect same_objects same_texts two_of one_of step_test take_integer take_character take_text take_nothing row_of standard_effect default_mode mode_allowed marked type_named result_named mode_named first_of_procedure first_of_class variable_marks array_marks parameter_marks moded_marks specified_marks headed_marks procedure_marks class_marks virtual_name_marks program_marks inner_marks declaring of_segment of_mode_part of_specification of_specifier of_virtual of_heading declared_by declarations_of run_of_runs lookup shown_of_scopes encloser searched block_at_of_scopes declaration_from binding entry_of formals_of formal_of result_of source_of denoted type_at line_at level_of block_of block_around standard_name text_attribute sysin_attribute sysout_attribute signature undeclared program_events of_statement of_branch of_arm of_block of_whole of_class_body of_declaration accessible protects is_kind some_around_of some_around base brought_by level_shows shown_of is_detach ends_search outward virtual_of represented standard_at qualified_marks qualified_result connection_at transfer_at found_at is_attribute qualification class_prefix_marks prefixed_marks prefix_marks standard_marks marks_of_standard standard_prefix standard_texts class_block has_level is_simulation_block some_level_of shows_detach class_formals class_formals_of found_in if_found object_ended pop_object qualifying referring belongs class_at is_in is_of levels levels_of first_along is_this this_block this_of with_entry_at putting_reference own_attribute linkage_of_text process_class is_process_text stands_in pop_reference not_nothing
reference_outside = refl

actual_checked_at_once : seen actual_outside (limits 1000 1000) 1000 ≡ shows (codes "") 5 9 (RunFault OutsideQualification 7)
unfolding is_process_itself by_name digits element_place making_array copying_array keeping_array finding_element giving_back handed_over stopping no_rule ticking taking entering having when computing choosing popping pop_many pop_plain pop_truth pop_integers pop_operands pop_text answering applying_one applying_two testing_step performing putting_back assigning making_text joining at_level kept_on pushing index level_of_machine cell_at jumping block_at own_block leaving with_result putting put_back is_text home_of first_cells leaving_of_meaning constants_of putting_of_steps back_of_steps text_constants text_constant is_variable stream_of own_result own_match result_meant is_inside text is_class_free declared_at constant_of calculate compare compare_as_texts connect same_objects same_texts two_of one_of step_test take_integer take_character take_text take_nothing row_of standard_effect default_mode mode_allowed marked type_named result_named mode_named first_of_procedure first_of_class variable_marks array_marks parameter_marks moded_marks specified_marks headed_marks procedure_marks class_marks virtual_name_marks program_marks inner_marks declaring of_segment of_mode_part of_specification of_specifier of_virtual of_heading declared_by declarations_of run_of_runs lookup shown_of_scopes encloser searched block_at_of_scopes declaration_from binding entry_of formals_of formal_of result_of source_of denoted type_at line_at level_of block_of block_around standard_name text_attribute sysin_attribute sysout_attribute signature undeclared program_events of_statement of_branch of_arm of_block of_whole of_class_body of_declaration accessible protects is_kind some_around_of some_around base brought_by level_shows shown_of is_detach ends_search outward virtual_of represented standard_at qualified_marks qualified_result connection_at transfer_at found_at is_attribute qualification class_prefix_marks prefixed_marks prefix_marks standard_marks marks_of_standard standard_prefix standard_texts class_block has_level is_simulation_block some_level_of shows_detach class_formals class_formals_of found_in if_found object_ended pop_object qualifying referring belongs class_at is_in is_of levels levels_of first_along is_this this_block this_of with_entry_at putting_reference own_attribute linkage_of_text process_class is_process_text stands_in pop_reference not_nothing
actual_checked_at_once = refl

classes_compared : seen memberships (limits 1000 1000) 1000 ≡ shows (codes "1!\n") 10 11 (RunFault AccessThroughNone 7)
unfolding is_process_itself by_name digits element_place making_array copying_array keeping_array finding_element giving_back handed_over stopping no_rule ticking taking entering having when computing choosing popping pop_many pop_plain pop_truth pop_integers pop_operands pop_text answering applying_one applying_two testing_step performing putting_back assigning making_text joining at_level kept_on pushing index level_of_machine cell_at jumping block_at own_block leaving with_result putting put_back is_text home_of first_cells leaving_of_meaning constants_of putting_of_steps back_of_steps text_constants text_constant is_variable stream_of own_result own_match result_meant is_inside text is_class_free declared_at constant_of calculate compare compare_as_texts connect same_objects same_texts two_of one_of step_test take_integer take_character take_text take_nothing row_of standard_effect default_mode mode_allowed marked type_named result_named mode_named first_of_procedure first_of_class variable_marks array_marks parameter_marks moded_marks specified_marks headed_marks procedure_marks class_marks virtual_name_marks program_marks inner_marks declaring of_segment of_mode_part of_specification of_specifier of_virtual of_heading declared_by declarations_of run_of_runs lookup shown_of_scopes encloser searched block_at_of_scopes declaration_from binding entry_of formals_of formal_of result_of source_of denoted type_at line_at level_of block_of block_around standard_name text_attribute sysin_attribute sysout_attribute signature undeclared program_events of_statement of_branch of_arm of_block of_whole of_class_body of_declaration accessible protects is_kind some_around_of some_around base brought_by level_shows shown_of is_detach ends_search outward virtual_of represented standard_at qualified_marks qualified_result connection_at transfer_at found_at is_attribute qualification class_prefix_marks prefixed_marks prefix_marks standard_marks marks_of_standard standard_prefix standard_texts class_block has_level is_simulation_block some_level_of shows_detach class_formals class_formals_of found_in if_found object_ended pop_object qualifying referring belongs class_at is_in is_of levels levels_of first_along is_this this_block this_of with_entry_at putting_reference own_attribute linkage_of_text process_class is_process_text stands_in pop_reference not_nothing
classes_compared = refl

two_levels : seen parameters_of_levels (limits 1000 1000) 1000 ≡ shows (codes " 2 5 2\n") 12 29 Normal
unfolding is_process_itself by_name digits element_place making_array copying_array keeping_array finding_element giving_back handed_over stopping no_rule ticking taking entering having when computing choosing popping pop_many pop_plain pop_truth pop_integers pop_operands pop_text answering applying_one applying_two testing_step performing putting_back assigning making_text joining at_level kept_on pushing index level_of_machine cell_at jumping block_at own_block leaving with_result putting put_back is_text home_of first_cells leaving_of_meaning constants_of putting_of_steps back_of_steps text_constants text_constant is_variable stream_of own_result own_match result_meant is_inside text is_class_free declared_at constant_of calculate compare compare_as_texts connect same_objects same_texts two_of one_of step_test take_integer take_character take_text take_nothing row_of standard_effect default_mode mode_allowed marked type_named result_named mode_named first_of_procedure first_of_class variable_marks array_marks parameter_marks moded_marks specified_marks headed_marks procedure_marks class_marks virtual_name_marks program_marks inner_marks declaring of_segment of_mode_part of_specification of_specifier of_virtual of_heading declared_by declarations_of run_of_runs lookup shown_of_scopes encloser searched block_at_of_scopes declaration_from binding entry_of formals_of formal_of result_of source_of denoted type_at line_at level_of block_of block_around standard_name text_attribute sysin_attribute sysout_attribute signature undeclared program_events of_statement of_branch of_arm of_block of_whole of_class_body of_declaration accessible protects is_kind some_around_of some_around base brought_by level_shows shown_of is_detach ends_search outward virtual_of represented standard_at qualified_marks qualified_result connection_at transfer_at found_at is_attribute qualification class_prefix_marks prefixed_marks prefix_marks standard_marks marks_of_standard standard_prefix standard_texts class_block has_level is_simulation_block some_level_of shows_detach class_formals class_formals_of found_in if_found object_ended pop_object qualifying referring belongs class_at is_in is_of levels levels_of first_along is_this this_block this_of with_entry_at putting_reference own_attribute linkage_of_text process_class is_process_text stands_in pop_reference not_nothing
two_levels = refl

block_with_prefix : seen prefixed_blocks (limits 1000 1000) 1000 ≡ shows (codes " 16 16  1\n") 21 18 Normal
unfolding is_process_itself by_name digits element_place making_array copying_array keeping_array finding_element giving_back handed_over stopping no_rule ticking taking entering having when computing choosing popping pop_many pop_plain pop_truth pop_integers pop_operands pop_text answering applying_one applying_two testing_step performing putting_back assigning making_text joining at_level kept_on pushing index level_of_machine cell_at jumping block_at own_block leaving with_result putting put_back is_text home_of first_cells leaving_of_meaning constants_of putting_of_steps back_of_steps text_constants text_constant is_variable stream_of own_result own_match result_meant is_inside text is_class_free declared_at constant_of calculate compare compare_as_texts connect same_objects same_texts two_of one_of step_test take_integer take_character take_text take_nothing row_of standard_effect default_mode mode_allowed marked type_named result_named mode_named first_of_procedure first_of_class variable_marks array_marks parameter_marks moded_marks specified_marks headed_marks procedure_marks class_marks virtual_name_marks program_marks inner_marks declaring of_segment of_mode_part of_specification of_specifier of_virtual of_heading declared_by declarations_of run_of_runs lookup shown_of_scopes encloser searched block_at_of_scopes declaration_from binding entry_of formals_of formal_of result_of source_of denoted type_at line_at level_of block_of block_around standard_name text_attribute sysin_attribute sysout_attribute signature undeclared program_events of_statement of_branch of_arm of_block of_whole of_class_body of_declaration accessible protects is_kind some_around_of some_around base brought_by level_shows shown_of is_detach ends_search outward virtual_of represented standard_at qualified_marks qualified_result connection_at transfer_at found_at is_attribute qualification class_prefix_marks prefixed_marks prefix_marks standard_marks marks_of_standard standard_prefix standard_texts class_block has_level is_simulation_block some_level_of shows_detach class_formals class_formals_of found_in if_found object_ended pop_object qualifying referring belongs class_at is_in is_of levels levels_of first_along is_this this_block this_of with_entry_at putting_reference own_attribute linkage_of_text process_class is_process_text stands_in pop_reference not_nothing
block_with_prefix = refl

object_connected : seen connected_attributes (limits 1000 1000) 1000 ≡ shows (codes " 1 2 3 3 4\n") 21 12 Normal
unfolding is_process_itself by_name digits element_place making_array copying_array keeping_array finding_element giving_back handed_over stopping no_rule ticking taking entering having when computing choosing popping pop_many pop_plain pop_truth pop_integers pop_operands pop_text answering applying_one applying_two testing_step performing putting_back assigning making_text joining at_level kept_on pushing index level_of_machine cell_at jumping block_at own_block leaving with_result putting put_back is_text home_of first_cells leaving_of_meaning constants_of putting_of_steps back_of_steps text_constants text_constant is_variable stream_of own_result own_match result_meant is_inside text is_class_free declared_at constant_of calculate compare compare_as_texts connect same_objects same_texts two_of one_of step_test take_integer take_character take_text take_nothing row_of standard_effect default_mode mode_allowed marked type_named result_named mode_named first_of_procedure first_of_class variable_marks array_marks parameter_marks moded_marks specified_marks headed_marks procedure_marks class_marks virtual_name_marks program_marks inner_marks declaring of_segment of_mode_part of_specification of_specifier of_virtual of_heading declared_by declarations_of run_of_runs lookup shown_of_scopes encloser searched block_at_of_scopes declaration_from binding entry_of formals_of formal_of result_of source_of denoted type_at line_at level_of block_of block_around standard_name text_attribute sysin_attribute sysout_attribute signature undeclared program_events of_statement of_branch of_arm of_block of_whole of_class_body of_declaration accessible protects is_kind some_around_of some_around base brought_by level_shows shown_of is_detach ends_search outward virtual_of represented standard_at qualified_marks qualified_result connection_at transfer_at found_at is_attribute qualification class_prefix_marks prefixed_marks prefix_marks standard_marks marks_of_standard standard_prefix standard_texts class_block has_level is_simulation_block some_level_of shows_detach class_formals class_formals_of found_in if_found object_ended pop_object qualifying referring belongs class_at is_in is_of levels levels_of first_along is_this this_block this_of with_entry_at putting_reference own_attribute linkage_of_text process_class is_process_text stands_in pop_reference not_nothing
object_connected = refl

three_objects : seen chained_objects (limits 1000 1000) 1000 ≡ shows (codes "  6 43\n") 34 23 Normal
unfolding is_process_itself by_name digits element_place making_array copying_array keeping_array finding_element giving_back handed_over stopping no_rule ticking taking entering having when computing choosing popping pop_many pop_plain pop_truth pop_integers pop_operands pop_text answering applying_one applying_two testing_step performing putting_back assigning making_text joining at_level kept_on pushing index level_of_machine cell_at jumping block_at own_block leaving with_result putting put_back is_text home_of first_cells leaving_of_meaning constants_of putting_of_steps back_of_steps text_constants text_constant is_variable stream_of own_result own_match result_meant is_inside text is_class_free declared_at constant_of calculate compare compare_as_texts connect same_objects same_texts two_of one_of step_test take_integer take_character take_text take_nothing row_of standard_effect default_mode mode_allowed marked type_named result_named mode_named first_of_procedure first_of_class variable_marks array_marks parameter_marks moded_marks specified_marks headed_marks procedure_marks class_marks virtual_name_marks program_marks inner_marks declaring of_segment of_mode_part of_specification of_specifier of_virtual of_heading declared_by declarations_of run_of_runs lookup shown_of_scopes encloser searched block_at_of_scopes declaration_from binding entry_of formals_of formal_of result_of source_of denoted type_at line_at level_of block_of block_around standard_name text_attribute sysin_attribute sysout_attribute signature undeclared program_events of_statement of_branch of_arm of_block of_whole of_class_body of_declaration accessible protects is_kind some_around_of some_around base brought_by level_shows shown_of is_detach ends_search outward virtual_of represented standard_at qualified_marks qualified_result connection_at transfer_at found_at is_attribute qualification class_prefix_marks prefixed_marks prefix_marks standard_marks marks_of_standard standard_prefix standard_texts class_block has_level is_simulation_block some_level_of shows_detach class_formals class_formals_of found_in if_found object_ended pop_object qualifying referring belongs class_at is_in is_of levels levels_of first_along is_this this_block this_of with_entry_at putting_reference own_attribute linkage_of_text process_class is_process_text stands_in pop_reference not_nothing
three_objects = refl

references_and_arrays : seen references_passed_on (limits 1000 1000) 1000 ≡ shows (codes " 7 8\n") 26 28 (RunFault OutsideQualification 9)
unfolding is_process_itself by_name digits element_place making_array copying_array keeping_array finding_element giving_back handed_over stopping no_rule ticking taking entering having when computing choosing popping pop_many pop_plain pop_truth pop_integers pop_operands pop_text answering applying_one applying_two testing_step performing putting_back assigning making_text joining at_level kept_on pushing index level_of_machine cell_at jumping block_at own_block leaving with_result putting put_back is_text home_of first_cells leaving_of_meaning constants_of putting_of_steps back_of_steps text_constants text_constant is_variable stream_of own_result own_match result_meant is_inside text is_class_free declared_at constant_of calculate compare compare_as_texts connect same_objects same_texts two_of one_of step_test take_integer take_character take_text take_nothing row_of standard_effect default_mode mode_allowed marked type_named result_named mode_named first_of_procedure first_of_class variable_marks array_marks parameter_marks moded_marks specified_marks headed_marks procedure_marks class_marks virtual_name_marks program_marks inner_marks declaring of_segment of_mode_part of_specification of_specifier of_virtual of_heading declared_by declarations_of run_of_runs lookup shown_of_scopes encloser searched block_at_of_scopes declaration_from binding entry_of formals_of formal_of result_of source_of denoted type_at line_at level_of block_of block_around standard_name text_attribute sysin_attribute sysout_attribute signature undeclared program_events of_statement of_branch of_arm of_block of_whole of_class_body of_declaration accessible protects is_kind some_around_of some_around base brought_by level_shows shown_of is_detach ends_search outward virtual_of represented standard_at qualified_marks qualified_result connection_at transfer_at found_at is_attribute qualification class_prefix_marks prefixed_marks prefix_marks standard_marks marks_of_standard standard_prefix standard_texts class_block has_level is_simulation_block some_level_of shows_detach class_formals class_formals_of found_in if_found object_ended pop_object qualifying referring belongs class_at has_procedure is_in is_of levels levels_of first_along is_this this_block this_of with_entry_at putting_reference own_attribute linkage_of_text process_class is_process_text stands_in pop_reference not_nothing
references_and_arrays = refl

attributes : seen attributes_of_each_kind (limits 1000 1000) 1000 ≡ shows (codes "b 7 5 3 0   |\n") 25 43 Normal
unfolding is_process_itself by_name digits element_place making_array copying_array keeping_array finding_element giving_back handed_over stopping no_rule ticking taking entering having when computing choosing popping pop_many pop_plain pop_truth pop_integers pop_operands pop_text answering applying_one applying_two testing_step performing putting_back assigning making_text joining at_level kept_on pushing index level_of_machine cell_at jumping block_at own_block leaving with_result putting put_back is_text home_of first_cells leaving_of_meaning constants_of putting_of_steps back_of_steps text_constants text_constant is_variable stream_of own_result own_match result_meant is_inside text is_class_free declared_at constant_of calculate compare compare_as_texts connect same_objects same_texts two_of one_of step_test take_integer take_character take_text take_nothing row_of standard_effect default_mode mode_allowed marked type_named result_named mode_named first_of_procedure first_of_class variable_marks array_marks parameter_marks moded_marks specified_marks headed_marks procedure_marks class_marks virtual_name_marks program_marks inner_marks declaring of_segment of_mode_part of_specification of_specifier of_virtual of_heading declared_by declarations_of run_of_runs lookup shown_of_scopes encloser searched block_at_of_scopes declaration_from binding entry_of formals_of formal_of result_of source_of denoted type_at line_at level_of block_of block_around standard_name text_attribute sysin_attribute sysout_attribute signature undeclared program_events of_statement of_branch of_arm of_block of_whole of_class_body of_declaration accessible protects is_kind some_around_of some_around base brought_by level_shows shown_of is_detach ends_search outward virtual_of represented standard_at qualified_marks qualified_result connection_at transfer_at found_at is_attribute qualification class_prefix_marks prefixed_marks prefix_marks standard_marks marks_of_standard standard_prefix standard_texts class_block has_level is_simulation_block some_level_of shows_detach class_formals class_formals_of found_in if_found object_ended pop_object qualifying referring belongs class_at is_in is_of levels levels_of first_along is_this this_block this_of with_entry_at putting_reference own_attribute linkage_of_text process_class is_process_text stands_in pop_reference not_nothing
attributes = refl

classes_inside : seen class_in_class (limits 1000 1000) 1000 ≡ shows (codes "  6 40  1\n") 22 23 Normal
unfolding is_process_itself by_name digits element_place making_array copying_array keeping_array finding_element giving_back handed_over stopping no_rule ticking taking entering having when computing choosing popping pop_many pop_plain pop_truth pop_integers pop_operands pop_text answering applying_one applying_two testing_step performing putting_back assigning making_text joining at_level kept_on pushing index level_of_machine cell_at jumping block_at own_block leaving with_result putting put_back is_text home_of first_cells leaving_of_meaning constants_of putting_of_steps back_of_steps text_constants text_constant is_variable stream_of own_result own_match result_meant is_inside text is_class_free declared_at constant_of calculate compare compare_as_texts connect same_objects same_texts two_of one_of step_test take_integer take_character take_text take_nothing row_of standard_effect default_mode mode_allowed marked type_named result_named mode_named first_of_procedure first_of_class variable_marks array_marks parameter_marks moded_marks specified_marks headed_marks procedure_marks class_marks virtual_name_marks program_marks inner_marks declaring of_segment of_mode_part of_specification of_specifier of_virtual of_heading declared_by declarations_of run_of_runs lookup shown_of_scopes encloser searched block_at_of_scopes declaration_from binding entry_of formals_of formal_of result_of source_of denoted type_at line_at level_of block_of block_around standard_name text_attribute sysin_attribute sysout_attribute signature undeclared program_events of_statement of_branch of_arm of_block of_whole of_class_body of_declaration accessible protects is_kind some_around_of some_around base brought_by level_shows shown_of is_detach ends_search outward virtual_of represented standard_at qualified_marks qualified_result connection_at transfer_at found_at is_attribute qualification class_prefix_marks prefixed_marks prefix_marks standard_marks marks_of_standard standard_prefix standard_texts class_block has_level is_simulation_block some_level_of shows_detach class_formals class_formals_of found_in if_found object_ended pop_object qualifying referring belongs class_at is_in is_of levels levels_of first_along is_this this_block this_of with_entry_at putting_reference own_attribute linkage_of_text process_class is_process_text stands_in pop_reference not_nothing
classes_inside = refl

pub worked_classes : WorkedClasses
worked_classes = record {
  inner_by_levels = inner_by_levels;
  storage_exhausted = storage_exhausted;
  connected_by_class = connected_by_class;
  none_before_actuals = none_before_actuals;
  reference_outside = reference_outside;
  actual_checked_at_once = actual_checked_at_once;
  classes_compared = classes_compared;
  two_levels = two_levels;
  block_with_prefix = block_with_prefix;
  object_connected = object_connected;
  three_objects = three_objects;
  references_and_arrays = references_and_arrays;
  attributes = attributes;
  classes_inside = classes_inside;
}

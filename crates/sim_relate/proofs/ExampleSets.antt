-- The code of a program with a set stands for it: `simset` in front of its block, and the classes that it brings.
use Rattle.std.proofs.Common.{Bool, true, ◌≡◌, ◌<◌, ◌≤◌, ℕ, zero, suc, [], Option, Some, None, refl, ap, ◌∙◌, subst, arith, false, sym}
use Rattle.std.specs.Prelude.{pos, slice_get}
use Rattle.sim_scope.specs.declared.types.StandardClass.{StandardClass}
use Rattle.sim_scope.specs.declared.types.StandardClass.TheVariants as standard
use Rattle.sim_scope.specs.declared.types.SimType.{SimType}
use Rattle.sim_meaning.specs.Texts.{Text, text, is_class_free, declared_at, constant_of, standard_texts, StandardText}
use Rattle.codegen_expr.specs.Sites.{LevelOf, Site, block_number, innermost, itself, slot_of, is_connected, prefix_of, outer as beyond, frame_text, hidden_in, block_in_front, class_number}
use Rattle.codegen.specs.Agrees.{Agrees, Ends, PrefixThere, is_prefixed, before, last as one_level}
use Rattle.codegen.specs.Compiled.{CodeHas, Compiled}
use Rattle.sim_relate.proofs.Placed.{ins, push}
use Rattle.std.specs.Fmt.{digits}
use Rattle.sim_code.specs.Arrays.{element_place, making_array, copying_array, keeping_array, finding_element, giving_back, handed_over}
use Rattle.sim_code.specs.Events.{stopping, no_rule, ticking, taking, entering, having, when, computing, choosing, popping, pop_many, pop_plain, pop_truth, pop_integers, pop_operands, pop_text, answering, applying_one, applying_two, testing_step, performing, putting_back, assigning, making_text, joining, pop_object, qualifying, referring}
use Rattle.sim_code.specs.Instances.{at_level, kept_on, object_ended}
use Rattle.sim_code.specs.Machine.{pushing, index, level as level_of_machine, cell_at, jumping, block_at, own_block, leaving, with_result}
use Rattle.sim_code.specs.Rows.{putting, put_back}
use Rattle.sim_meaning.specs.Closing.{is_text, home_of, stream_of, is_variable, is_attribute, own_result, result_meant, own_match, by_name, is_placed}
use Rattle.sim_meaning.specs.Entries.{first_cells, numbers_of}
use Rattle.sim_meaning.specs.Meaning.{leaving as leaving_of_meaning}
use Rattle.sim_meaning.specs.Constants.{constants_of, text_constants, text_constant}
use Rattle.sim_meaning.specs.Steps.{putting as putting_of_steps, put_back as back_of_steps}
use Rattle.sim_values.specs.Operators.{calculate, compare, compare_as_texts, connect, same_objects, same_texts, two_of, one_of, step_test}
use Rattle.sim_values.specs.Standard.{take_integer, take_character, take_text, take_nothing, row_of, standard_effect}
use Rattle.sim_scope.specs.Building.{default_mode, mode_allowed, marked}
use Rattle.sim_scope.specs.Declare.{brings_class, brought_marks, provides_attribute, type_named, result_named, mode_named, first_of_procedure, first_of_class, variable_marks, array_marks, parameter_marks, moded_marks, specified_marks, headed_marks, procedure_marks, class_marks, virtual_name_marks, program_marks, inner_marks, declaring, of_segment, of_mode_part, of_specification, of_specifier, of_virtual, of_heading, declared_by, declarations_of, qualified_marks, qualified_result, class_prefix_marks, prefixed_marks, prefix_marks, standard_marks, marks_of_standard}
use Rattle.sim_scope.specs.Runs.{run as run_of_runs}
use Rattle.sim_scope.specs.Access.{encloser, block_at as block_at_of_scopes, accessible, protects, is_kind, some_around_of, some_around, names_hidden, protector_of, protector, hides, opens, is_open}
use Rattle.sim_scope.specs.Levels.{base, some_level_of, has_level, holds_class, has_classes, has_standard, is_simulation_block, is_for_prefixing, simulation_level_of, class_block, is_in_chain, on_one_chain, shared_level_of, shared_class}
use Rattle.sim_scope.specs.Scopes.{lookup, shown as shown_of_scopes, searched, declaration_from, binding, entry_of, formals_of, formal_of, result_of, brought_by, level_shows, shown_of, is_detach, ends_search, outward, virtual_of, represented, standard_at, shows_detach, if_found, found_in, is_passed_over, class_formals_of, class_formals, class_formal, formals_in}
use Rattle.sim_scope.specs.Source.{source_of, denoted, type_at, line_at, level_of, block_of, block_around, found_at}
use Rattle.sim_scope.specs.Standard.{standard_name, text_attribute, sysin_attribute, sysout_attribute, signature, is_real_function, is_random_drawing, is_file_or_layout, is_environment_name, undeclared, standard_prefix}
use Rattle.sim_scope.specs.Walk.{program_events, of_statement, of_branch, of_arm, of_block, of_whole, of_class_body, of_declaration}
use Rattle.sim_meaning.specs.Attributes.{connection_at, is_connection, own_attribute, transfer_at}
use Rattle.sim_meaning.specs.Levels.{has_levels, is_class, levels_of, levels, is_in, is_of, has_procedure, belongs, class_at, qualification, is_process_text, is_process_itself}
use Rattle.sim_scope.specs.Assignments.{fine, wrong, no_target, targets, assigned_to, call_assigned, target, sign_agrees, with_left, lefts, compared, assigned}
use Rattle.sim_scope.specs.Found.{precedes, found}
use Rattle.sim_relate.proofs.ExampleTables.{all_at, all_of, apart, not_both, not_some, once_at, any_virtual, no_virtual, none_matched}
use Rattle.sim_scope.specs.declared.types.Formal.{Formal}
use Rattle.sim_scope.specs.Calls.{is_inside}
use Rattle.sim_scope.specs.Along.{first_along}
use Rattle.sim_scope.specs.References.{is_this, this_block, this_of}
use Rattle.sim_scope.specs.Tables.{with_entry_at}
use Rattle.sim_meaning.specs.Objects.{putting_reference}
use Rattle.sim_relate.specs.Examples.{own_set, own_set_code, the_head, the_link, the_linkage, the_program, the_row}
use Rattle.sim_scope.specs.declared.types.Entry.{Entry}
use Rattle.sim_scope.specs.declared.types.Entry.TheVariants as entry
use Rattle.sim_code.specs.declared.instr.Instr.TheVariants as i

abbrev outer : Site
outer = record { text = 0; room = 6; temps = 1; used = 4; size = 1; thunk = None }

abbrev inner : Site
inner = record { text = 4; room = 6; temps = 0; used = 3; size = 0; thunk = None }

lt_0_1 : 0 < 1
lt_0_1 = omega arith

lt_0_2 : 0 < 2
lt_0_2 = omega arith

lt_0_3 : 0 < 3
lt_0_3 = omega arith

lt_0_4 : 0 < 4
lt_0_4 = omega arith

lt_0_6 : 0 < 6
lt_0_6 = omega arith

lt_1_6 : 1 < 6
lt_1_6 = omega arith

lt_1_31 : 1 < 31
lt_1_31 = omega arith

lt_2_3 : 2 < 3
lt_2_3 = omega arith

lt_2_4 : 2 < 4
lt_2_4 = omega arith

lt_2_31 : 2 < 31
lt_2_31 = omega arith

lt_4_5 : 4 < 5
lt_4_5 = omega arith

lt_14_31 : 14 < 31
lt_14_31 = omega arith

lt_15_31 : 15 < 31
lt_15_31 = omega arith

lt_16_31 : 16 < 31
lt_16_31 = omega arith

lt_17_31 : 17 < 31
lt_17_31 = omega arith

lt_18_31 : 18 < 31
lt_18_31 = omega arith

lt_19_31 : 19 < 31
lt_19_31 = omega arith

lt_20_31 : 20 < 31
lt_20_31 = omega arith

lt_21_31 : 21 < 31
lt_21_31 = omega arith

lt_22_31 : 22 < 31
lt_22_31 = omega arith

lt_23_31 : 23 < 31
lt_23_31 = omega arith

lt_24_31 : 24 < 31
lt_24_31 = omega arith

lt_25_31 : 25 < 31
lt_25_31 = omega arith

lt_30_31 : 30 < 31
lt_30_31 = omega arith

le_0_6 : 0 ≤ 6
le_0_6 = omega arith

le_6_6 : 6 ≤ 6
le_6_6 = omega arith

abbrev Has : ℕ → Option Text → Type 0
Has k None = Unit {0}
Has k (Some x) = CodeHas own_set own_set_code k x (slice_get own_set_code.blocks (block_number own_set k))

program_stands : Has 0 (text own_set 0)
unfolding is_process_itself own_match by_name is_placed digits element_place making_array copying_array keeping_array finding_element giving_back handed_over stopping no_rule ticking taking entering having when computing choosing popping pop_many pop_plain pop_truth pop_integers pop_operands pop_text answering applying_one applying_two testing_step performing at_level kept_on pushing index level_of_machine cell_at jumping block_at own_block leaving with_result putting is_text home_of first_cells leaving_of_meaning constants_of text_constants putting_of_steps text is_class_free declared_at constant_of calculate compare compare_as_texts connect same_objects same_texts two_of one_of step_test take_integer take_character take_text take_nothing row_of standard_effect default_mode mode_allowed marked type_named result_named mode_named first_of_procedure first_of_class variable_marks array_marks parameter_marks moded_marks specified_marks headed_marks procedure_marks class_marks virtual_name_marks program_marks inner_marks declaring of_segment of_mode_part of_specification of_specifier of_virtual of_heading declared_by declarations_of run_of_runs lookup shown_of_scopes encloser searched block_at_of_scopes declaration_from binding entry_of formals_of formal_of result_of source_of denoted type_at line_at level_of block_of block_around standard_name text_attribute sysin_attribute sysout_attribute signature is_real_function is_random_drawing is_file_or_layout is_environment_name undeclared program_events of_statement of_branch of_arm of_block of_whole of_class_body of_declaration block_number slot_of accessible protects is_kind some_around_of some_around base brought_by level_shows shown_of is_detach ends_search outward virtual_of represented standard_at qualified_marks qualified_result connection_at own_attribute transfer_at levels_of levels is_in is_of has_procedure belongs class_at qualification stream_of is_variable is_attribute own_result result_meant standard_texts text_constant found_at shows_detach if_found found_in is_passed_over class_formals_of class_formals class_formal some_level_of has_level holds_class has_classes has_standard is_simulation_block is_for_prefixing simulation_level_of class_block is_in_chain on_one_chain shared_level_of shared_class names_hidden protector_of protector hides opens is_open fine wrong no_target targets assigned_to call_assigned target sign_agrees with_left lefts compared assigned precedes found is_connected prefix_of frame_text hidden_in block_in_front class_number putting_back assigning making_text joining put_back back_of_steps is_inside class_prefix_marks prefixed_marks prefix_marks standard_marks marks_of_standard standard_prefix object_ended pop_object qualifying referring first_along is_this this_block this_of with_entry_at putting_reference brings_class provides_attribute brought_marks is_process_text
program_stands = record { heads = record { is_kind = refl; level = refl; cells = refl; class_free = refl; gives = refl; formals = refl; temps = []; types = refl; counted = refl; roomy = le_0_6 }; alone = refl; class = the_program; is = record { numbered = refl; of_block = refl; prefix = refl; lower = lt_0_1; process = refl }; enter = record { at = refl; on = refl }; level = record { place = 0; placed = refl; x = 1; y = 2; declared_there = lt_1_31; declared = refl; next = ins own_set_code (i.NextDecl (pos 0)) 0 1 refl; stated_there = lt_2_31; stop = 14; stated = record { x = 13; statements = (7, (3, ins own_set_code (i.Tick) 0 2 refl, (4, record { address = push own_set_code outer 0 (i.Addr (pos 1) (pos 0) (pos 5)) 0 3 lt_0_6 refl; inside = itself; within = lt_0_1 }, (6, record { x = 5; y = 5; link = push own_set_code outer 1 (i.Link (pos 1)) 0 4 lt_1_6 refl; inside = itself; actuals = refl; new = record { at = refl; on = refl } }, record { at = refl; on = refl }))), (13, (8, 13, ins own_set_code (i.Tick) 0 7 refl, (refl, (12, (11, (refl, record { x = 9; y = 10; z = 10; named = record { is_name = refl; as_many = refl; leaves = refl }; object = (refl, record { load = push own_set_code outer 0 (i.Load (pos 1) (pos 0)) 0 8 lt_0_6 refl; inside = itself; within = lt_0_1 }); there = record { at = refl; on = refl }; actuals = refl; number = 59; numbered = refl; done = record { at = refl; on = refl } }), (12, push own_set_code outer 1 (i.Int (pos 2)) 0 11 lt_1_6 refl, refl)), record { as_many = refl; number = 40; numbered = refl; is = record { at = refl; on = refl }; fits = λ e. absurd (cc) })), refl), refl)); inner = ins own_set_code (i.Inner (pos 0)) 0 13 refl; on = refl }; behind_there = lt_14_31; last = 15; ends = ins own_set_code (i.EndLevel (pos 0)) 0 14 refl } }

linkage_stands : Has 1 (text own_set 1)
unfolding is_process_itself own_match by_name is_placed digits element_place making_array copying_array keeping_array finding_element giving_back handed_over stopping no_rule ticking taking entering having when computing choosing popping pop_many pop_plain pop_truth pop_integers pop_operands pop_text answering applying_one applying_two testing_step performing at_level kept_on pushing index level_of_machine cell_at jumping block_at own_block leaving with_result putting is_text home_of first_cells leaving_of_meaning constants_of text_constants putting_of_steps text is_class_free declared_at constant_of calculate compare compare_as_texts connect same_objects same_texts two_of one_of step_test take_integer take_character take_text take_nothing row_of standard_effect default_mode mode_allowed marked type_named result_named mode_named first_of_procedure first_of_class variable_marks array_marks parameter_marks moded_marks specified_marks headed_marks procedure_marks class_marks virtual_name_marks program_marks inner_marks declaring of_segment of_mode_part of_specification of_specifier of_virtual of_heading declared_by declarations_of run_of_runs lookup shown_of_scopes encloser searched block_at_of_scopes declaration_from binding entry_of formals_of formal_of result_of source_of denoted type_at line_at level_of block_of block_around standard_name text_attribute sysin_attribute sysout_attribute signature is_real_function is_random_drawing is_file_or_layout is_environment_name undeclared program_events of_statement of_branch of_arm of_block of_whole of_class_body of_declaration block_number slot_of accessible protects is_kind some_around_of some_around base brought_by level_shows shown_of is_detach ends_search outward virtual_of represented standard_at qualified_marks qualified_result connection_at own_attribute transfer_at levels_of levels is_in is_of has_procedure belongs class_at qualification stream_of is_variable is_attribute own_result result_meant standard_texts text_constant found_at shows_detach if_found found_in is_passed_over class_formals_of class_formals class_formal some_level_of has_level holds_class has_classes has_standard is_simulation_block is_for_prefixing simulation_level_of class_block is_in_chain on_one_chain shared_level_of shared_class names_hidden protector_of protector hides opens is_open fine wrong no_target targets assigned_to call_assigned target sign_agrees with_left lefts compared assigned precedes found is_connected prefix_of frame_text hidden_in block_in_front class_number putting_back assigning making_text joining put_back back_of_steps is_inside class_prefix_marks prefixed_marks prefix_marks standard_marks marks_of_standard standard_prefix object_ended pop_object qualifying referring first_along is_this this_block this_of with_entry_at putting_reference brings_class provides_attribute brought_marks is_process_text
linkage_stands = record { heads = record { is_kind = refl; level = refl; cells = refl; class_free = refl; gives = refl; formals = refl; temps = []; types = refl; counted = refl; roomy = le_0_6 }; marked = refl; class = the_linkage; is = record { numbered = refl; of_block = refl; prefix = refl; lower = lt_0_2; process = refl }; level = record { place = 0; placed = refl; x = 15; y = 16; declared_there = lt_15_31; declared = refl; next = ins own_set_code (i.NextDecl (pos 0)) 0 15 refl; stated_there = lt_16_31; stop = 17; stated = record { x = 16; statements = refl; inner = ins own_set_code (i.Inner (pos 0)) 0 16 refl; on = refl }; behind_there = lt_17_31; last = 18; ends = ins own_set_code (i.EndLevel (pos 0)) 0 17 refl } }

link_stands : Has 2 (text own_set 2)
unfolding is_process_itself own_match by_name is_placed digits element_place making_array copying_array keeping_array finding_element giving_back handed_over stopping no_rule ticking taking entering having when computing choosing popping pop_many pop_plain pop_truth pop_integers pop_operands pop_text answering applying_one applying_two testing_step performing at_level kept_on pushing index level_of_machine cell_at jumping block_at own_block leaving with_result putting is_text home_of first_cells leaving_of_meaning constants_of text_constants putting_of_steps text is_class_free declared_at constant_of calculate compare compare_as_texts connect same_objects same_texts two_of one_of step_test take_integer take_character take_text take_nothing row_of standard_effect default_mode mode_allowed marked type_named result_named mode_named first_of_procedure first_of_class variable_marks array_marks parameter_marks moded_marks specified_marks headed_marks procedure_marks class_marks virtual_name_marks program_marks inner_marks declaring of_segment of_mode_part of_specification of_specifier of_virtual of_heading declared_by declarations_of run_of_runs lookup shown_of_scopes encloser searched block_at_of_scopes declaration_from binding entry_of formals_of formal_of result_of source_of denoted type_at line_at level_of block_of block_around standard_name text_attribute sysin_attribute sysout_attribute signature is_real_function is_random_drawing is_file_or_layout is_environment_name undeclared program_events of_statement of_branch of_arm of_block of_whole of_class_body of_declaration block_number slot_of accessible protects is_kind some_around_of some_around base brought_by level_shows shown_of is_detach ends_search outward virtual_of represented standard_at qualified_marks qualified_result connection_at own_attribute transfer_at levels_of levels is_in is_of has_procedure belongs class_at qualification stream_of is_variable is_attribute own_result result_meant standard_texts text_constant found_at shows_detach if_found found_in is_passed_over class_formals_of class_formals class_formal some_level_of has_level holds_class has_classes has_standard is_simulation_block is_for_prefixing simulation_level_of class_block is_in_chain on_one_chain shared_level_of shared_class names_hidden protector_of protector hides opens is_open fine wrong no_target targets assigned_to call_assigned target sign_agrees with_left lefts compared assigned precedes found is_connected prefix_of frame_text hidden_in block_in_front class_number putting_back assigning making_text joining put_back back_of_steps is_inside class_prefix_marks prefixed_marks prefix_marks standard_marks marks_of_standard standard_prefix object_ended pop_object qualifying referring first_along is_this this_block this_of with_entry_at putting_reference brings_class provides_attribute brought_marks is_process_text
link_stands = record { heads = record { is_kind = refl; level = refl; cells = refl; class_free = refl; gives = refl; formals = refl; temps = []; types = refl; counted = refl; roomy = le_6_6 }; marked = refl; class = the_link; is = record { numbered = refl; of_block = refl; prefix = refl; lower = lt_2_3; process = refl }; level = record { place = 1; placed = refl; x = 18; y = 19; declared_there = lt_18_31; declared = refl; next = ins own_set_code (i.NextDecl (pos 1)) 0 18 refl; stated_there = lt_19_31; stop = 20; stated = record { x = 19; statements = refl; inner = ins own_set_code (i.Inner (pos 1)) 0 19 refl; on = refl }; behind_there = lt_20_31; last = 21; ends = ins own_set_code (i.EndLevel (pos 1)) 0 20 refl } }

head_stands : Has 3 (text own_set 3)
unfolding is_process_itself own_match by_name is_placed digits element_place making_array copying_array keeping_array finding_element giving_back handed_over stopping no_rule ticking taking entering having when computing choosing popping pop_many pop_plain pop_truth pop_integers pop_operands pop_text answering applying_one applying_two testing_step performing at_level kept_on pushing index level_of_machine cell_at jumping block_at own_block leaving with_result putting is_text home_of first_cells leaving_of_meaning constants_of text_constants putting_of_steps text is_class_free declared_at constant_of calculate compare compare_as_texts connect same_objects same_texts two_of one_of step_test take_integer take_character take_text take_nothing row_of standard_effect default_mode mode_allowed marked type_named result_named mode_named first_of_procedure first_of_class variable_marks array_marks parameter_marks moded_marks specified_marks headed_marks procedure_marks class_marks virtual_name_marks program_marks inner_marks declaring of_segment of_mode_part of_specification of_specifier of_virtual of_heading declared_by declarations_of run_of_runs lookup shown_of_scopes encloser searched block_at_of_scopes declaration_from binding entry_of formals_of formal_of result_of source_of denoted type_at line_at level_of block_of block_around standard_name text_attribute sysin_attribute sysout_attribute signature is_real_function is_random_drawing is_file_or_layout is_environment_name undeclared program_events of_statement of_branch of_arm of_block of_whole of_class_body of_declaration block_number slot_of accessible protects is_kind some_around_of some_around base brought_by level_shows shown_of is_detach ends_search outward virtual_of represented standard_at qualified_marks qualified_result connection_at own_attribute transfer_at levels_of levels is_in is_of has_procedure belongs class_at qualification stream_of is_variable is_attribute own_result result_meant standard_texts text_constant found_at shows_detach if_found found_in is_passed_over class_formals_of class_formals class_formal some_level_of has_level holds_class has_classes has_standard is_simulation_block is_for_prefixing simulation_level_of class_block is_in_chain on_one_chain shared_level_of shared_class names_hidden protector_of protector hides opens is_open fine wrong no_target targets assigned_to call_assigned target sign_agrees with_left lefts compared assigned precedes found is_connected prefix_of frame_text hidden_in block_in_front class_number putting_back assigning making_text joining put_back back_of_steps is_inside class_prefix_marks prefixed_marks prefix_marks standard_marks marks_of_standard standard_prefix object_ended pop_object qualifying referring first_along is_this this_block this_of with_entry_at putting_reference brings_class provides_attribute brought_marks is_process_text
head_stands = record { heads = record { is_kind = refl; level = refl; cells = refl; class_free = refl; gives = refl; formals = refl; temps = []; types = refl; counted = refl; roomy = le_6_6 }; marked = refl; class = the_head; is = record { numbered = refl; of_block = refl; prefix = refl; lower = lt_2_4; process = refl }; level = record { place = 1; placed = refl; x = 21; y = 22; declared_there = lt_21_31; declared = refl; next = ins own_set_code (i.NextDecl (pos 1)) 0 21 refl; stated_there = lt_22_31; stop = 23; stated = record { x = 22; statements = refl; inner = ins own_set_code (i.Inner (pos 1)) 0 22 refl; on = refl }; behind_there = lt_23_31; last = 24; ends = ins own_set_code (i.EndLevel (pos 1)) 0 23 refl } }

row_stands : Has 4 (text own_set 4)
unfolding is_process_itself own_match by_name is_placed digits element_place making_array copying_array keeping_array finding_element giving_back handed_over stopping no_rule ticking taking entering having when computing choosing popping pop_many pop_plain pop_truth pop_integers pop_operands pop_text answering applying_one applying_two testing_step performing at_level kept_on pushing index level_of_machine cell_at jumping block_at own_block leaving with_result putting is_text home_of first_cells leaving_of_meaning constants_of text_constants putting_of_steps text is_class_free declared_at constant_of calculate compare compare_as_texts connect same_objects same_texts two_of one_of step_test take_integer take_character take_text take_nothing row_of standard_effect default_mode mode_allowed marked type_named result_named mode_named first_of_procedure first_of_class variable_marks array_marks parameter_marks moded_marks specified_marks headed_marks procedure_marks class_marks virtual_name_marks program_marks inner_marks declaring of_segment of_mode_part of_specification of_specifier of_virtual of_heading declared_by declarations_of run_of_runs lookup shown_of_scopes encloser searched block_at_of_scopes declaration_from binding entry_of formals_of formal_of result_of source_of denoted type_at line_at level_of block_of block_around standard_name text_attribute sysin_attribute sysout_attribute signature is_real_function is_random_drawing is_file_or_layout is_environment_name undeclared program_events of_statement of_branch of_arm of_block of_whole of_class_body of_declaration block_number slot_of accessible protects is_kind some_around_of some_around base brought_by level_shows shown_of is_detach ends_search outward virtual_of represented standard_at qualified_marks qualified_result connection_at own_attribute transfer_at levels_of levels is_in is_of has_procedure belongs class_at qualification stream_of is_variable is_attribute own_result result_meant standard_texts text_constant found_at shows_detach if_found found_in is_passed_over class_formals_of class_formals class_formal some_level_of has_level holds_class has_classes has_standard is_simulation_block is_for_prefixing simulation_level_of class_block is_in_chain on_one_chain shared_level_of shared_class names_hidden protector_of protector hides opens is_open fine wrong no_target targets assigned_to call_assigned target sign_agrees with_left lefts compared assigned precedes found is_connected prefix_of frame_text hidden_in block_in_front class_number putting_back assigning making_text joining put_back back_of_steps is_inside class_prefix_marks prefixed_marks prefix_marks standard_marks marks_of_standard standard_prefix object_ended pop_object qualifying referring first_along is_this this_block this_of with_entry_at putting_reference brings_class provides_attribute brought_marks is_process_text
row_stands = record { heads = record { is_kind = refl; level = refl; cells = refl; class_free = refl; gives = refl; formals = refl; temps = []; types = refl; counted = refl; roomy = le_6_6 }; marked = refl; class = the_row; is = record { numbered = refl; of_block = refl; prefix = refl; lower = lt_4_5; process = refl }; level = record { place = 2; placed = refl; x = 24; y = 25; declared_there = lt_24_31; declared = refl; next = ins own_set_code (i.NextDecl (pos 2)) 0 24 refl; stated_there = lt_25_31; stop = 30; stated = record { x = 29; statements = (29, (26, 29, ins own_set_code (i.Tick) 0 25 refl, (refl, record { x = 27; y = 28; z = 28; named = record { is_name = refl; as_many = refl; leaves = refl }; object = record { push = push own_set_code inner 0 (i.This (pos 2)) 0 26 lt_0_6 refl; inside = itself }; there = record { at = refl; on = refl }; actuals = refl; number = 60; numbered = refl; done = record { at = refl; on = refl } }), refl), refl); inner = ins own_set_code (i.Inner (pos 2)) 0 29 refl; on = refl }; behind_there = lt_30_31; last = 31; ends = ins own_set_code (i.EndLevel (pos 2)) 0 30 refl } }

no_more : (k : ℕ) → Has (suc (suc (suc (suc (suc k))))) (text own_set (suc (suc (suc (suc (suc k))))))
unfolding is_process_itself own_match by_name is_placed digits element_place making_array copying_array keeping_array finding_element giving_back handed_over stopping no_rule ticking taking entering having when computing choosing popping pop_many pop_plain pop_truth pop_integers pop_operands pop_text answering applying_one applying_two testing_step performing at_level kept_on pushing index level_of_machine cell_at jumping block_at own_block leaving with_result putting is_text home_of first_cells leaving_of_meaning constants_of text_constants putting_of_steps text is_class_free declared_at constant_of calculate compare compare_as_texts connect same_objects same_texts two_of one_of step_test take_integer take_character take_text take_nothing row_of standard_effect default_mode mode_allowed marked type_named result_named mode_named first_of_procedure first_of_class variable_marks array_marks parameter_marks moded_marks specified_marks headed_marks procedure_marks class_marks virtual_name_marks program_marks inner_marks declaring of_segment of_mode_part of_specification of_specifier of_virtual of_heading declared_by declarations_of run_of_runs lookup shown_of_scopes encloser searched block_at_of_scopes declaration_from binding entry_of formals_of formal_of result_of source_of denoted type_at line_at level_of block_of block_around standard_name text_attribute sysin_attribute sysout_attribute signature is_real_function is_random_drawing is_file_or_layout is_environment_name undeclared program_events of_statement of_branch of_arm of_block of_whole of_class_body of_declaration block_number slot_of accessible protects is_kind some_around_of some_around base brought_by level_shows shown_of is_detach ends_search outward virtual_of represented standard_at qualified_marks qualified_result connection_at own_attribute transfer_at levels_of levels is_in is_of has_procedure belongs class_at qualification stream_of is_variable is_attribute own_result result_meant standard_texts text_constant found_at shows_detach if_found found_in is_passed_over class_formals_of class_formals class_formal some_level_of has_level holds_class has_classes has_standard is_simulation_block is_for_prefixing simulation_level_of class_block is_in_chain on_one_chain shared_level_of shared_class names_hidden protector_of protector hides opens is_open fine wrong no_target targets assigned_to call_assigned target sign_agrees with_left lefts compared assigned precedes found is_connected prefix_of frame_text hidden_in block_in_front class_number putting_back assigning making_text joining put_back back_of_steps is_inside class_prefix_marks prefixed_marks prefix_marks standard_marks marks_of_standard standard_prefix object_ended pop_object qualifying referring first_along is_this this_block this_of with_entry_at putting_reference brings_class provides_attribute brought_marks
no_more k = tt

each_stands : (k : ℕ) → Has k (text own_set k)
each_stands zero = program_stands
each_stands (suc zero) = linkage_stands
each_stands (suc (suc zero)) = link_stands
each_stands (suc (suc (suc zero))) = head_stands
each_stands (suc (suc (suc (suc zero)))) = row_stands
each_stands (suc (suc (suc (suc (suc k))))) = no_more k

same_some : (o : Option ℕ) (a b : ℕ) → o ≡ Some a → o ≡ Some b → a ≡ b
same_some o a b e f = cc

same_class : (o : Option Entry) (a b : ℕ) → o ≡ Some (entry.Class a) → o ≡ Some (entry.Class b) → a ≡ b
same_class o a b e f = cc

around_one : encloser own_set.tables 1 ≡ Some 0
unfolding is_process_itself own_match by_name is_placed digits element_place making_array copying_array keeping_array finding_element giving_back handed_over stopping no_rule ticking taking entering having when computing choosing popping pop_many pop_plain pop_truth pop_integers pop_operands pop_text answering applying_one applying_two testing_step performing at_level kept_on pushing index level_of_machine cell_at jumping block_at own_block leaving with_result putting is_text home_of first_cells leaving_of_meaning constants_of text_constants putting_of_steps text is_class_free declared_at constant_of calculate compare compare_as_texts connect same_objects same_texts two_of one_of step_test take_integer take_character take_text take_nothing row_of standard_effect default_mode mode_allowed marked type_named result_named mode_named first_of_procedure first_of_class variable_marks array_marks parameter_marks moded_marks specified_marks headed_marks procedure_marks class_marks virtual_name_marks program_marks inner_marks declaring of_segment of_mode_part of_specification of_specifier of_virtual of_heading declared_by declarations_of run_of_runs lookup shown_of_scopes encloser searched block_at_of_scopes declaration_from binding entry_of formals_of formal_of result_of source_of denoted type_at line_at level_of block_of block_around standard_name text_attribute sysin_attribute sysout_attribute signature is_real_function is_random_drawing is_file_or_layout is_environment_name undeclared program_events of_statement of_branch of_arm of_block of_whole of_class_body of_declaration block_number slot_of accessible protects is_kind some_around_of some_around base brought_by level_shows shown_of is_detach ends_search outward virtual_of represented standard_at qualified_marks qualified_result connection_at own_attribute transfer_at levels_of levels is_in is_of has_procedure belongs class_at qualification stream_of is_variable is_attribute own_result result_meant standard_texts text_constant found_at shows_detach if_found found_in is_passed_over class_formals_of class_formals class_formal some_level_of has_level holds_class has_classes has_standard is_simulation_block is_for_prefixing simulation_level_of class_block is_in_chain on_one_chain shared_level_of shared_class names_hidden protector_of protector hides opens is_open fine wrong no_target targets assigned_to call_assigned target sign_agrees with_left lefts compared assigned precedes found is_connected prefix_of frame_text hidden_in block_in_front class_number putting_back assigning making_text joining put_back back_of_steps is_inside class_prefix_marks prefixed_marks prefix_marks standard_marks marks_of_standard standard_prefix object_ended pop_object qualifying referring first_along is_this this_block this_of with_entry_at putting_reference brings_class provides_attribute brought_marks
around_one = refl

around_two : encloser own_set.tables 2 ≡ Some 0
unfolding is_process_itself own_match by_name is_placed digits element_place making_array copying_array keeping_array finding_element giving_back handed_over stopping no_rule ticking taking entering having when computing choosing popping pop_many pop_plain pop_truth pop_integers pop_operands pop_text answering applying_one applying_two testing_step performing at_level kept_on pushing index level_of_machine cell_at jumping block_at own_block leaving with_result putting is_text home_of first_cells leaving_of_meaning constants_of text_constants putting_of_steps text is_class_free declared_at constant_of calculate compare compare_as_texts connect same_objects same_texts two_of one_of step_test take_integer take_character take_text take_nothing row_of standard_effect default_mode mode_allowed marked type_named result_named mode_named first_of_procedure first_of_class variable_marks array_marks parameter_marks moded_marks specified_marks headed_marks procedure_marks class_marks virtual_name_marks program_marks inner_marks declaring of_segment of_mode_part of_specification of_specifier of_virtual of_heading declared_by declarations_of run_of_runs lookup shown_of_scopes encloser searched block_at_of_scopes declaration_from binding entry_of formals_of formal_of result_of source_of denoted type_at line_at level_of block_of block_around standard_name text_attribute sysin_attribute sysout_attribute signature is_real_function is_random_drawing is_file_or_layout is_environment_name undeclared program_events of_statement of_branch of_arm of_block of_whole of_class_body of_declaration block_number slot_of accessible protects is_kind some_around_of some_around base brought_by level_shows shown_of is_detach ends_search outward virtual_of represented standard_at qualified_marks qualified_result connection_at own_attribute transfer_at levels_of levels is_in is_of has_procedure belongs class_at qualification stream_of is_variable is_attribute own_result result_meant standard_texts text_constant found_at shows_detach if_found found_in is_passed_over class_formals_of class_formals class_formal some_level_of has_level holds_class has_classes has_standard is_simulation_block is_for_prefixing simulation_level_of class_block is_in_chain on_one_chain shared_level_of shared_class names_hidden protector_of protector hides opens is_open fine wrong no_target targets assigned_to call_assigned target sign_agrees with_left lefts compared assigned precedes found is_connected prefix_of frame_text hidden_in block_in_front class_number putting_back assigning making_text joining put_back back_of_steps is_inside class_prefix_marks prefixed_marks prefix_marks standard_marks marks_of_standard standard_prefix object_ended pop_object qualifying referring first_along is_this this_block this_of with_entry_at putting_reference brings_class provides_attribute brought_marks
around_two = refl

around_three : encloser own_set.tables 3 ≡ Some 0
unfolding is_process_itself own_match by_name is_placed digits element_place making_array copying_array keeping_array finding_element giving_back handed_over stopping no_rule ticking taking entering having when computing choosing popping pop_many pop_plain pop_truth pop_integers pop_operands pop_text answering applying_one applying_two testing_step performing at_level kept_on pushing index level_of_machine cell_at jumping block_at own_block leaving with_result putting is_text home_of first_cells leaving_of_meaning constants_of text_constants putting_of_steps text is_class_free declared_at constant_of calculate compare compare_as_texts connect same_objects same_texts two_of one_of step_test take_integer take_character take_text take_nothing row_of standard_effect default_mode mode_allowed marked type_named result_named mode_named first_of_procedure first_of_class variable_marks array_marks parameter_marks moded_marks specified_marks headed_marks procedure_marks class_marks virtual_name_marks program_marks inner_marks declaring of_segment of_mode_part of_specification of_specifier of_virtual of_heading declared_by declarations_of run_of_runs lookup shown_of_scopes encloser searched block_at_of_scopes declaration_from binding entry_of formals_of formal_of result_of source_of denoted type_at line_at level_of block_of block_around standard_name text_attribute sysin_attribute sysout_attribute signature is_real_function is_random_drawing is_file_or_layout is_environment_name undeclared program_events of_statement of_branch of_arm of_block of_whole of_class_body of_declaration block_number slot_of accessible protects is_kind some_around_of some_around base brought_by level_shows shown_of is_detach ends_search outward virtual_of represented standard_at qualified_marks qualified_result connection_at own_attribute transfer_at levels_of levels is_in is_of has_procedure belongs class_at qualification stream_of is_variable is_attribute own_result result_meant standard_texts text_constant found_at shows_detach if_found found_in is_passed_over class_formals_of class_formals class_formal some_level_of has_level holds_class has_classes has_standard is_simulation_block is_for_prefixing simulation_level_of class_block is_in_chain on_one_chain shared_level_of shared_class names_hidden protector_of protector hides opens is_open fine wrong no_target targets assigned_to call_assigned target sign_agrees with_left lefts compared assigned precedes found is_connected prefix_of frame_text hidden_in block_in_front class_number putting_back assigning making_text joining put_back back_of_steps is_inside class_prefix_marks prefixed_marks prefix_marks standard_marks marks_of_standard standard_prefix object_ended pop_object qualifying referring first_along is_this this_block this_of with_entry_at putting_reference brings_class provides_attribute brought_marks
around_three = refl

around_four : encloser own_set.tables 4 ≡ Some 0
unfolding is_process_itself own_match by_name is_placed digits element_place making_array copying_array keeping_array finding_element giving_back handed_over stopping no_rule ticking taking entering having when computing choosing popping pop_many pop_plain pop_truth pop_integers pop_operands pop_text answering applying_one applying_two testing_step performing at_level kept_on pushing index level_of_machine cell_at jumping block_at own_block leaving with_result putting is_text home_of first_cells leaving_of_meaning constants_of text_constants putting_of_steps text is_class_free declared_at constant_of calculate compare compare_as_texts connect same_objects same_texts two_of one_of step_test take_integer take_character take_text take_nothing row_of standard_effect default_mode mode_allowed marked type_named result_named mode_named first_of_procedure first_of_class variable_marks array_marks parameter_marks moded_marks specified_marks headed_marks procedure_marks class_marks virtual_name_marks program_marks inner_marks declaring of_segment of_mode_part of_specification of_specifier of_virtual of_heading declared_by declarations_of run_of_runs lookup shown_of_scopes encloser searched block_at_of_scopes declaration_from binding entry_of formals_of formal_of result_of source_of denoted type_at line_at level_of block_of block_around standard_name text_attribute sysin_attribute sysout_attribute signature is_real_function is_random_drawing is_file_or_layout is_environment_name undeclared program_events of_statement of_branch of_arm of_block of_whole of_class_body of_declaration block_number slot_of accessible protects is_kind some_around_of some_around base brought_by level_shows shown_of is_detach ends_search outward virtual_of represented standard_at qualified_marks qualified_result connection_at own_attribute transfer_at levels_of levels is_in is_of has_procedure belongs class_at qualification stream_of is_variable is_attribute own_result result_meant standard_texts text_constant found_at shows_detach if_found found_in is_passed_over class_formals_of class_formals class_formal some_level_of has_level holds_class has_classes has_standard is_simulation_block is_for_prefixing simulation_level_of class_block is_in_chain on_one_chain shared_level_of shared_class names_hidden protector_of protector hides opens is_open fine wrong no_target targets assigned_to call_assigned target sign_agrees with_left lefts compared assigned precedes found is_connected prefix_of frame_text hidden_in block_in_front class_number putting_back assigning making_text joining put_back back_of_steps is_inside class_prefix_marks prefixed_marks prefix_marks standard_marks marks_of_standard standard_prefix object_ended pop_object qualifying referring first_along is_this this_block this_of with_entry_at putting_reference brings_class provides_attribute brought_marks
around_four = refl

levels_one : level_of own_set 1 ≡ suc (level_of own_set 0)
unfolding is_process_itself own_match by_name is_placed digits element_place making_array copying_array keeping_array finding_element giving_back handed_over stopping no_rule ticking taking entering having when computing choosing popping pop_many pop_plain pop_truth pop_integers pop_operands pop_text answering applying_one applying_two testing_step performing at_level kept_on pushing index level_of_machine cell_at jumping block_at own_block leaving with_result putting is_text home_of first_cells leaving_of_meaning constants_of text_constants putting_of_steps text is_class_free declared_at constant_of calculate compare compare_as_texts connect same_objects same_texts two_of one_of step_test take_integer take_character take_text take_nothing row_of standard_effect default_mode mode_allowed marked type_named result_named mode_named first_of_procedure first_of_class variable_marks array_marks parameter_marks moded_marks specified_marks headed_marks procedure_marks class_marks virtual_name_marks program_marks inner_marks declaring of_segment of_mode_part of_specification of_specifier of_virtual of_heading declared_by declarations_of run_of_runs lookup shown_of_scopes encloser searched block_at_of_scopes declaration_from binding entry_of formals_of formal_of result_of source_of denoted type_at line_at level_of block_of block_around standard_name text_attribute sysin_attribute sysout_attribute signature is_real_function is_random_drawing is_file_or_layout is_environment_name undeclared program_events of_statement of_branch of_arm of_block of_whole of_class_body of_declaration block_number slot_of accessible protects is_kind some_around_of some_around base brought_by level_shows shown_of is_detach ends_search outward virtual_of represented standard_at qualified_marks qualified_result connection_at own_attribute transfer_at levels_of levels is_in is_of has_procedure belongs class_at qualification stream_of is_variable is_attribute own_result result_meant standard_texts text_constant found_at shows_detach if_found found_in is_passed_over class_formals_of class_formals class_formal some_level_of has_level holds_class has_classes has_standard is_simulation_block is_for_prefixing simulation_level_of class_block is_in_chain on_one_chain shared_level_of shared_class names_hidden protector_of protector hides opens is_open fine wrong no_target targets assigned_to call_assigned target sign_agrees with_left lefts compared assigned precedes found is_connected prefix_of frame_text hidden_in block_in_front class_number putting_back assigning making_text joining put_back back_of_steps is_inside class_prefix_marks prefixed_marks prefix_marks standard_marks marks_of_standard standard_prefix object_ended pop_object qualifying referring first_along is_this this_block this_of with_entry_at putting_reference brings_class provides_attribute brought_marks
levels_one = refl

levels_two : level_of own_set 2 ≡ suc (level_of own_set 0)
unfolding is_process_itself own_match by_name is_placed digits element_place making_array copying_array keeping_array finding_element giving_back handed_over stopping no_rule ticking taking entering having when computing choosing popping pop_many pop_plain pop_truth pop_integers pop_operands pop_text answering applying_one applying_two testing_step performing at_level kept_on pushing index level_of_machine cell_at jumping block_at own_block leaving with_result putting is_text home_of first_cells leaving_of_meaning constants_of text_constants putting_of_steps text is_class_free declared_at constant_of calculate compare compare_as_texts connect same_objects same_texts two_of one_of step_test take_integer take_character take_text take_nothing row_of standard_effect default_mode mode_allowed marked type_named result_named mode_named first_of_procedure first_of_class variable_marks array_marks parameter_marks moded_marks specified_marks headed_marks procedure_marks class_marks virtual_name_marks program_marks inner_marks declaring of_segment of_mode_part of_specification of_specifier of_virtual of_heading declared_by declarations_of run_of_runs lookup shown_of_scopes encloser searched block_at_of_scopes declaration_from binding entry_of formals_of formal_of result_of source_of denoted type_at line_at level_of block_of block_around standard_name text_attribute sysin_attribute sysout_attribute signature is_real_function is_random_drawing is_file_or_layout is_environment_name undeclared program_events of_statement of_branch of_arm of_block of_whole of_class_body of_declaration block_number slot_of accessible protects is_kind some_around_of some_around base brought_by level_shows shown_of is_detach ends_search outward virtual_of represented standard_at qualified_marks qualified_result connection_at own_attribute transfer_at levels_of levels is_in is_of has_procedure belongs class_at qualification stream_of is_variable is_attribute own_result result_meant standard_texts text_constant found_at shows_detach if_found found_in is_passed_over class_formals_of class_formals class_formal some_level_of has_level holds_class has_classes has_standard is_simulation_block is_for_prefixing simulation_level_of class_block is_in_chain on_one_chain shared_level_of shared_class names_hidden protector_of protector hides opens is_open fine wrong no_target targets assigned_to call_assigned target sign_agrees with_left lefts compared assigned precedes found is_connected prefix_of frame_text hidden_in block_in_front class_number putting_back assigning making_text joining put_back back_of_steps is_inside class_prefix_marks prefixed_marks prefix_marks standard_marks marks_of_standard standard_prefix object_ended pop_object qualifying referring first_along is_this this_block this_of with_entry_at putting_reference brings_class provides_attribute brought_marks
levels_two = refl

levels_three : level_of own_set 3 ≡ suc (level_of own_set 0)
unfolding is_process_itself own_match by_name is_placed digits element_place making_array copying_array keeping_array finding_element giving_back handed_over stopping no_rule ticking taking entering having when computing choosing popping pop_many pop_plain pop_truth pop_integers pop_operands pop_text answering applying_one applying_two testing_step performing at_level kept_on pushing index level_of_machine cell_at jumping block_at own_block leaving with_result putting is_text home_of first_cells leaving_of_meaning constants_of text_constants putting_of_steps text is_class_free declared_at constant_of calculate compare compare_as_texts connect same_objects same_texts two_of one_of step_test take_integer take_character take_text take_nothing row_of standard_effect default_mode mode_allowed marked type_named result_named mode_named first_of_procedure first_of_class variable_marks array_marks parameter_marks moded_marks specified_marks headed_marks procedure_marks class_marks virtual_name_marks program_marks inner_marks declaring of_segment of_mode_part of_specification of_specifier of_virtual of_heading declared_by declarations_of run_of_runs lookup shown_of_scopes encloser searched block_at_of_scopes declaration_from binding entry_of formals_of formal_of result_of source_of denoted type_at line_at level_of block_of block_around standard_name text_attribute sysin_attribute sysout_attribute signature is_real_function is_random_drawing is_file_or_layout is_environment_name undeclared program_events of_statement of_branch of_arm of_block of_whole of_class_body of_declaration block_number slot_of accessible protects is_kind some_around_of some_around base brought_by level_shows shown_of is_detach ends_search outward virtual_of represented standard_at qualified_marks qualified_result connection_at own_attribute transfer_at levels_of levels is_in is_of has_procedure belongs class_at qualification stream_of is_variable is_attribute own_result result_meant standard_texts text_constant found_at shows_detach if_found found_in is_passed_over class_formals_of class_formals class_formal some_level_of has_level holds_class has_classes has_standard is_simulation_block is_for_prefixing simulation_level_of class_block is_in_chain on_one_chain shared_level_of shared_class names_hidden protector_of protector hides opens is_open fine wrong no_target targets assigned_to call_assigned target sign_agrees with_left lefts compared assigned precedes found is_connected prefix_of frame_text hidden_in block_in_front class_number putting_back assigning making_text joining put_back back_of_steps is_inside class_prefix_marks prefixed_marks prefix_marks standard_marks marks_of_standard standard_prefix object_ended pop_object qualifying referring first_along is_this this_block this_of with_entry_at putting_reference brings_class provides_attribute brought_marks
levels_three = refl

levels_four : level_of own_set 4 ≡ suc (level_of own_set 0)
unfolding is_process_itself own_match by_name is_placed digits element_place making_array copying_array keeping_array finding_element giving_back handed_over stopping no_rule ticking taking entering having when computing choosing popping pop_many pop_plain pop_truth pop_integers pop_operands pop_text answering applying_one applying_two testing_step performing at_level kept_on pushing index level_of_machine cell_at jumping block_at own_block leaving with_result putting is_text home_of first_cells leaving_of_meaning constants_of text_constants putting_of_steps text is_class_free declared_at constant_of calculate compare compare_as_texts connect same_objects same_texts two_of one_of step_test take_integer take_character take_text take_nothing row_of standard_effect default_mode mode_allowed marked type_named result_named mode_named first_of_procedure first_of_class variable_marks array_marks parameter_marks moded_marks specified_marks headed_marks procedure_marks class_marks virtual_name_marks program_marks inner_marks declaring of_segment of_mode_part of_specification of_specifier of_virtual of_heading declared_by declarations_of run_of_runs lookup shown_of_scopes encloser searched block_at_of_scopes declaration_from binding entry_of formals_of formal_of result_of source_of denoted type_at line_at level_of block_of block_around standard_name text_attribute sysin_attribute sysout_attribute signature is_real_function is_random_drawing is_file_or_layout is_environment_name undeclared program_events of_statement of_branch of_arm of_block of_whole of_class_body of_declaration block_number slot_of accessible protects is_kind some_around_of some_around base brought_by level_shows shown_of is_detach ends_search outward virtual_of represented standard_at qualified_marks qualified_result connection_at own_attribute transfer_at levels_of levels is_in is_of has_procedure belongs class_at qualification stream_of is_variable is_attribute own_result result_meant standard_texts text_constant found_at shows_detach if_found found_in is_passed_over class_formals_of class_formals class_formal some_level_of has_level holds_class has_classes has_standard is_simulation_block is_for_prefixing simulation_level_of class_block is_in_chain on_one_chain shared_level_of shared_class names_hidden protector_of protector hides opens is_open fine wrong no_target targets assigned_to call_assigned target sign_agrees with_left lefts compared assigned precedes found is_connected prefix_of frame_text hidden_in block_in_front class_number putting_back assigning making_text joining put_back back_of_steps is_inside class_prefix_marks prefixed_marks prefix_marks standard_marks marks_of_standard standard_prefix object_ended pop_object qualifying referring first_along is_this this_block this_of with_entry_at putting_reference brings_class provides_attribute brought_marks
levels_four = refl

around_none : (u : ℕ) → encloser own_set.tables 0 ≡ Some u → ⊥
unfolding is_process_itself own_match by_name is_placed digits element_place making_array copying_array keeping_array finding_element giving_back handed_over stopping no_rule ticking taking entering having when computing choosing popping pop_many pop_plain pop_truth pop_integers pop_operands pop_text answering applying_one applying_two testing_step performing at_level kept_on pushing index level_of_machine cell_at jumping block_at own_block leaving with_result putting is_text home_of first_cells leaving_of_meaning constants_of text_constants putting_of_steps text is_class_free declared_at constant_of calculate compare compare_as_texts connect same_objects same_texts two_of one_of step_test take_integer take_character take_text take_nothing row_of standard_effect default_mode mode_allowed marked type_named result_named mode_named first_of_procedure first_of_class variable_marks array_marks parameter_marks moded_marks specified_marks headed_marks procedure_marks class_marks virtual_name_marks program_marks inner_marks declaring of_segment of_mode_part of_specification of_specifier of_virtual of_heading declared_by declarations_of run_of_runs lookup shown_of_scopes encloser searched block_at_of_scopes declaration_from binding entry_of formals_of formal_of result_of source_of denoted type_at line_at level_of block_of block_around standard_name text_attribute sysin_attribute sysout_attribute signature is_real_function is_random_drawing is_file_or_layout is_environment_name undeclared program_events of_statement of_branch of_arm of_block of_whole of_class_body of_declaration block_number slot_of accessible protects is_kind some_around_of some_around base brought_by level_shows shown_of is_detach ends_search outward virtual_of represented standard_at qualified_marks qualified_result connection_at own_attribute transfer_at levels_of levels is_in is_of has_procedure belongs class_at qualification stream_of is_variable is_attribute own_result result_meant standard_texts text_constant found_at shows_detach if_found found_in is_passed_over class_formals_of class_formals class_formal some_level_of has_level holds_class has_classes has_standard is_simulation_block is_for_prefixing simulation_level_of class_block is_in_chain on_one_chain shared_level_of shared_class names_hidden protector_of protector hides opens is_open fine wrong no_target targets assigned_to call_assigned target sign_agrees with_left lefts compared assigned precedes found is_connected prefix_of frame_text hidden_in block_in_front class_number putting_back assigning making_text joining put_back back_of_steps is_inside class_prefix_marks prefixed_marks prefix_marks standard_marks marks_of_standard standard_prefix object_ended pop_object qualifying referring first_along is_this this_block this_of with_entry_at putting_reference brings_class provides_attribute brought_marks
around_none u e = cc

around_past : (t u : ℕ) → encloser own_set.tables (suc (suc (suc (suc (suc t))))) ≡ Some u → ⊥
unfolding is_process_itself own_match by_name is_placed digits element_place making_array copying_array keeping_array finding_element giving_back handed_over stopping no_rule ticking taking entering having when computing choosing popping pop_many pop_plain pop_truth pop_integers pop_operands pop_text answering applying_one applying_two testing_step performing at_level kept_on pushing index level_of_machine cell_at jumping block_at own_block leaving with_result putting is_text home_of first_cells leaving_of_meaning constants_of text_constants putting_of_steps text is_class_free declared_at constant_of calculate compare compare_as_texts connect same_objects same_texts two_of one_of step_test take_integer take_character take_text take_nothing row_of standard_effect default_mode mode_allowed marked type_named result_named mode_named first_of_procedure first_of_class variable_marks array_marks parameter_marks moded_marks specified_marks headed_marks procedure_marks class_marks virtual_name_marks program_marks inner_marks declaring of_segment of_mode_part of_specification of_specifier of_virtual of_heading declared_by declarations_of run_of_runs lookup shown_of_scopes encloser searched block_at_of_scopes declaration_from binding entry_of formals_of formal_of result_of source_of denoted type_at line_at level_of block_of block_around standard_name text_attribute sysin_attribute sysout_attribute signature is_real_function is_random_drawing is_file_or_layout is_environment_name undeclared program_events of_statement of_branch of_arm of_block of_whole of_class_body of_declaration block_number slot_of accessible protects is_kind some_around_of some_around base brought_by level_shows shown_of is_detach ends_search outward virtual_of represented standard_at qualified_marks qualified_result connection_at own_attribute transfer_at levels_of levels is_in is_of has_procedure belongs class_at qualification stream_of is_variable is_attribute own_result result_meant standard_texts text_constant found_at shows_detach if_found found_in is_passed_over class_formals_of class_formals class_formal some_level_of has_level holds_class has_classes has_standard is_simulation_block is_for_prefixing simulation_level_of class_block is_in_chain on_one_chain shared_level_of shared_class names_hidden protector_of protector hides opens is_open fine wrong no_target targets assigned_to call_assigned target sign_agrees with_left lefts compared assigned precedes found is_connected prefix_of frame_text hidden_in block_in_front class_number putting_back assigning making_text joining put_back back_of_steps is_inside class_prefix_marks prefixed_marks prefix_marks standard_marks marks_of_standard standard_prefix object_ended pop_object qualifying referring first_along is_this this_block this_of with_entry_at putting_reference brings_class provides_attribute brought_marks
around_past t u e = cc

levels_agree : (t u : ℕ) → encloser own_set.tables t ≡ Some u → level_of own_set t ≡ suc (level_of own_set u)
levels_agree zero u e = absurd (around_none u e)
levels_agree (suc zero) u e = levels_one ∙ ap (λ k. suc (level_of own_set k)) (same_some (encloser own_set.tables 1) 0 u around_one e)
levels_agree (suc (suc zero)) u e = levels_two ∙ ap (λ k. suc (level_of own_set k)) (same_some (encloser own_set.tables 2) 0 u around_two e)
levels_agree (suc (suc (suc zero))) u e = levels_three ∙ ap (λ k. suc (level_of own_set k)) (same_some (encloser own_set.tables 3) 0 u around_three e)
levels_agree (suc (suc (suc (suc zero)))) u e = levels_four ∙ ap (λ k. suc (level_of own_set k)) (same_some (encloser own_set.tables 4) 0 u around_four e)
levels_agree (suc (suc (suc (suc (suc t))))) u e = absurd (around_past t u e)

nested : (t u : ℕ) → encloser own_set.tables t ≡ Some u → u < t
nested zero u e = absurd (around_none u e)
nested (suc zero) u e = subst (λ z. z < 1) (same_some (encloser own_set.tables 1) 0 u around_one e) lt_0_1
nested (suc (suc zero)) u e = subst (λ z. z < 2) (same_some (encloser own_set.tables 2) 0 u around_two e) lt_0_2
nested (suc (suc (suc zero))) u e = subst (λ z. z < 3) (same_some (encloser own_set.tables 3) 0 u around_three e) lt_0_3
nested (suc (suc (suc (suc zero)))) u e = subst (λ z. z < 4) (same_some (encloser own_set.tables 4) 0 u around_four e) lt_0_4
nested (suc (suc (suc (suc (suc t))))) u e = absurd (around_past t u e)

no_procedure : (n : ℕ) (result : Option SimType) (k : ℕ) → entry_of own_set.tables (record { 0 = n }) ≡ Some (entry.Procedure result k) → ⊥
unfolding is_process_itself own_match by_name is_placed digits element_place making_array copying_array keeping_array finding_element giving_back handed_over stopping no_rule ticking taking entering having when computing choosing popping pop_many pop_plain pop_truth pop_integers pop_operands pop_text answering applying_one applying_two testing_step performing at_level kept_on pushing index level_of_machine cell_at jumping block_at own_block leaving with_result putting is_text home_of first_cells leaving_of_meaning constants_of text_constants putting_of_steps text is_class_free declared_at constant_of calculate compare compare_as_texts connect same_objects same_texts two_of one_of step_test take_integer take_character take_text take_nothing row_of standard_effect default_mode mode_allowed marked type_named result_named mode_named first_of_procedure first_of_class variable_marks array_marks parameter_marks moded_marks specified_marks headed_marks procedure_marks class_marks virtual_name_marks program_marks inner_marks declaring of_segment of_mode_part of_specification of_specifier of_virtual of_heading declared_by declarations_of run_of_runs lookup shown_of_scopes encloser searched block_at_of_scopes declaration_from binding entry_of formals_of formal_of result_of source_of denoted type_at line_at level_of block_of block_around standard_name text_attribute sysin_attribute sysout_attribute signature is_real_function is_random_drawing is_file_or_layout is_environment_name undeclared program_events of_statement of_branch of_arm of_block of_whole of_class_body of_declaration block_number slot_of accessible protects is_kind some_around_of some_around base brought_by level_shows shown_of is_detach ends_search outward virtual_of represented standard_at qualified_marks qualified_result connection_at own_attribute transfer_at levels_of levels is_in is_of has_procedure belongs class_at qualification stream_of is_variable is_attribute own_result result_meant standard_texts text_constant found_at shows_detach if_found found_in is_passed_over class_formals_of class_formals class_formal some_level_of has_level holds_class has_classes has_standard is_simulation_block is_for_prefixing simulation_level_of class_block is_in_chain on_one_chain shared_level_of shared_class names_hidden protector_of protector hides opens is_open fine wrong no_target targets assigned_to call_assigned target sign_agrees with_left lefts compared assigned precedes found is_connected prefix_of frame_text hidden_in block_in_front class_number putting_back assigning making_text joining put_back back_of_steps is_inside class_prefix_marks prefixed_marks prefix_marks standard_marks marks_of_standard standard_prefix object_ended pop_object qualifying referring first_along is_this this_block this_of with_entry_at putting_reference brings_class provides_attribute brought_marks
no_procedure zero result k e = cc
no_procedure (suc zero) result k e = cc
no_procedure (suc (suc zero)) result k e = cc
no_procedure (suc (suc (suc zero))) result k e = cc
no_procedure (suc (suc (suc (suc zero)))) result k e = cc
no_procedure (suc (suc (suc (suc (suc zero))))) result k e = cc
no_procedure (suc (suc (suc (suc (suc (suc zero)))))) result k e = cc
no_procedure (suc (suc (suc (suc (suc (suc (suc zero))))))) result k e = cc
no_procedure (suc (suc (suc (suc (suc (suc (suc (suc zero)))))))) result k e = cc
no_procedure (suc (suc (suc (suc (suc (suc (suc (suc (suc zero))))))))) result k e = cc
no_procedure (suc (suc (suc (suc (suc (suc (suc (suc (suc (suc zero)))))))))) result k e = cc
no_procedure (suc (suc (suc (suc (suc (suc (suc (suc (suc (suc (suc zero))))))))))) result k e = cc
no_procedure (suc (suc (suc (suc (suc (suc (suc (suc (suc (suc (suc (suc zero)))))))))))) result k e = cc
no_procedure (suc (suc (suc (suc (suc (suc (suc (suc (suc (suc (suc (suc (suc zero))))))))))))) result k e = cc
no_procedure (suc (suc (suc (suc (suc (suc (suc (suc (suc (suc (suc (suc (suc (suc zero)))))))))))))) result k e = cc
no_procedure (suc (suc (suc (suc (suc (suc (suc (suc (suc (suc (suc (suc (suc (suc (suc zero))))))))))))))) result k e = cc
no_procedure (suc (suc (suc (suc (suc (suc (suc (suc (suc (suc (suc (suc (suc (suc (suc (suc zero)))))))))))))))) result k e = cc
no_procedure (suc (suc (suc (suc (suc (suc (suc (suc (suc (suc (suc (suc (suc (suc (suc (suc (suc n))))))))))))))))) result k e = cc

entry_one : entry_of own_set.tables (record { 0 = 0 }) ≡ Some (entry.Class 1)
unfolding is_process_itself own_match by_name is_placed digits element_place making_array copying_array keeping_array finding_element giving_back handed_over stopping no_rule ticking taking entering having when computing choosing popping pop_many pop_plain pop_truth pop_integers pop_operands pop_text answering applying_one applying_two testing_step performing at_level kept_on pushing index level_of_machine cell_at jumping block_at own_block leaving with_result putting is_text home_of first_cells leaving_of_meaning constants_of text_constants putting_of_steps text is_class_free declared_at constant_of calculate compare compare_as_texts connect same_objects same_texts two_of one_of step_test take_integer take_character take_text take_nothing row_of standard_effect default_mode mode_allowed marked type_named result_named mode_named first_of_procedure first_of_class variable_marks array_marks parameter_marks moded_marks specified_marks headed_marks procedure_marks class_marks virtual_name_marks program_marks inner_marks declaring of_segment of_mode_part of_specification of_specifier of_virtual of_heading declared_by declarations_of run_of_runs lookup shown_of_scopes encloser searched block_at_of_scopes declaration_from binding entry_of formals_of formal_of result_of source_of denoted type_at line_at level_of block_of block_around standard_name text_attribute sysin_attribute sysout_attribute signature is_real_function is_random_drawing is_file_or_layout is_environment_name undeclared program_events of_statement of_branch of_arm of_block of_whole of_class_body of_declaration block_number slot_of accessible protects is_kind some_around_of some_around base brought_by level_shows shown_of is_detach ends_search outward virtual_of represented standard_at qualified_marks qualified_result connection_at own_attribute transfer_at levels_of levels is_in is_of has_procedure belongs class_at qualification stream_of is_variable is_attribute own_result result_meant standard_texts text_constant found_at shows_detach if_found found_in is_passed_over class_formals_of class_formals class_formal some_level_of has_level holds_class has_classes has_standard is_simulation_block is_for_prefixing simulation_level_of class_block is_in_chain on_one_chain shared_level_of shared_class names_hidden protector_of protector hides opens is_open fine wrong no_target targets assigned_to call_assigned target sign_agrees with_left lefts compared assigned precedes found is_connected prefix_of frame_text hidden_in block_in_front class_number putting_back assigning making_text joining put_back back_of_steps is_inside class_prefix_marks prefixed_marks prefix_marks standard_marks marks_of_standard standard_prefix object_ended pop_object qualifying referring first_along is_this this_block this_of with_entry_at putting_reference brings_class provides_attribute brought_marks
entry_one = refl

class_one : encloser own_set.tables 1 ≡ Some (block_of own_set (record { 0 = 0 }))
unfolding is_process_itself own_match by_name is_placed digits element_place making_array copying_array keeping_array finding_element giving_back handed_over stopping no_rule ticking taking entering having when computing choosing popping pop_many pop_plain pop_truth pop_integers pop_operands pop_text answering applying_one applying_two testing_step performing at_level kept_on pushing index level_of_machine cell_at jumping block_at own_block leaving with_result putting is_text home_of first_cells leaving_of_meaning constants_of text_constants putting_of_steps text is_class_free declared_at constant_of calculate compare compare_as_texts connect same_objects same_texts two_of one_of step_test take_integer take_character take_text take_nothing row_of standard_effect default_mode mode_allowed marked type_named result_named mode_named first_of_procedure first_of_class variable_marks array_marks parameter_marks moded_marks specified_marks headed_marks procedure_marks class_marks virtual_name_marks program_marks inner_marks declaring of_segment of_mode_part of_specification of_specifier of_virtual of_heading declared_by declarations_of run_of_runs lookup shown_of_scopes encloser searched block_at_of_scopes declaration_from binding entry_of formals_of formal_of result_of source_of denoted type_at line_at level_of block_of block_around standard_name text_attribute sysin_attribute sysout_attribute signature is_real_function is_random_drawing is_file_or_layout is_environment_name undeclared program_events of_statement of_branch of_arm of_block of_whole of_class_body of_declaration block_number slot_of accessible protects is_kind some_around_of some_around base brought_by level_shows shown_of is_detach ends_search outward virtual_of represented standard_at qualified_marks qualified_result connection_at own_attribute transfer_at levels_of levels is_in is_of has_procedure belongs class_at qualification stream_of is_variable is_attribute own_result result_meant standard_texts text_constant found_at shows_detach if_found found_in is_passed_over class_formals_of class_formals class_formal some_level_of has_level holds_class has_classes has_standard is_simulation_block is_for_prefixing simulation_level_of class_block is_in_chain on_one_chain shared_level_of shared_class names_hidden protector_of protector hides opens is_open fine wrong no_target targets assigned_to call_assigned target sign_agrees with_left lefts compared assigned precedes found is_connected prefix_of frame_text hidden_in block_in_front class_number putting_back assigning making_text joining put_back back_of_steps is_inside class_prefix_marks prefixed_marks prefix_marks standard_marks marks_of_standard standard_prefix object_ended pop_object qualifying referring first_along is_this this_block this_of with_entry_at putting_reference brings_class provides_attribute brought_marks
class_one = refl

entry_two : entry_of own_set.tables (record { 0 = 1 }) ≡ Some (entry.Class 2)
unfolding is_process_itself own_match by_name is_placed digits element_place making_array copying_array keeping_array finding_element giving_back handed_over stopping no_rule ticking taking entering having when computing choosing popping pop_many pop_plain pop_truth pop_integers pop_operands pop_text answering applying_one applying_two testing_step performing at_level kept_on pushing index level_of_machine cell_at jumping block_at own_block leaving with_result putting is_text home_of first_cells leaving_of_meaning constants_of text_constants putting_of_steps text is_class_free declared_at constant_of calculate compare compare_as_texts connect same_objects same_texts two_of one_of step_test take_integer take_character take_text take_nothing row_of standard_effect default_mode mode_allowed marked type_named result_named mode_named first_of_procedure first_of_class variable_marks array_marks parameter_marks moded_marks specified_marks headed_marks procedure_marks class_marks virtual_name_marks program_marks inner_marks declaring of_segment of_mode_part of_specification of_specifier of_virtual of_heading declared_by declarations_of run_of_runs lookup shown_of_scopes encloser searched block_at_of_scopes declaration_from binding entry_of formals_of formal_of result_of source_of denoted type_at line_at level_of block_of block_around standard_name text_attribute sysin_attribute sysout_attribute signature is_real_function is_random_drawing is_file_or_layout is_environment_name undeclared program_events of_statement of_branch of_arm of_block of_whole of_class_body of_declaration block_number slot_of accessible protects is_kind some_around_of some_around base brought_by level_shows shown_of is_detach ends_search outward virtual_of represented standard_at qualified_marks qualified_result connection_at own_attribute transfer_at levels_of levels is_in is_of has_procedure belongs class_at qualification stream_of is_variable is_attribute own_result result_meant standard_texts text_constant found_at shows_detach if_found found_in is_passed_over class_formals_of class_formals class_formal some_level_of has_level holds_class has_classes has_standard is_simulation_block is_for_prefixing simulation_level_of class_block is_in_chain on_one_chain shared_level_of shared_class names_hidden protector_of protector hides opens is_open fine wrong no_target targets assigned_to call_assigned target sign_agrees with_left lefts compared assigned precedes found is_connected prefix_of frame_text hidden_in block_in_front class_number putting_back assigning making_text joining put_back back_of_steps is_inside class_prefix_marks prefixed_marks prefix_marks standard_marks marks_of_standard standard_prefix object_ended pop_object qualifying referring first_along is_this this_block this_of with_entry_at putting_reference brings_class provides_attribute brought_marks
entry_two = refl

class_two : encloser own_set.tables 2 ≡ Some (block_of own_set (record { 0 = 1 }))
unfolding is_process_itself own_match by_name is_placed digits element_place making_array copying_array keeping_array finding_element giving_back handed_over stopping no_rule ticking taking entering having when computing choosing popping pop_many pop_plain pop_truth pop_integers pop_operands pop_text answering applying_one applying_two testing_step performing at_level kept_on pushing index level_of_machine cell_at jumping block_at own_block leaving with_result putting is_text home_of first_cells leaving_of_meaning constants_of text_constants putting_of_steps text is_class_free declared_at constant_of calculate compare compare_as_texts connect same_objects same_texts two_of one_of step_test take_integer take_character take_text take_nothing row_of standard_effect default_mode mode_allowed marked type_named result_named mode_named first_of_procedure first_of_class variable_marks array_marks parameter_marks moded_marks specified_marks headed_marks procedure_marks class_marks virtual_name_marks program_marks inner_marks declaring of_segment of_mode_part of_specification of_specifier of_virtual of_heading declared_by declarations_of run_of_runs lookup shown_of_scopes encloser searched block_at_of_scopes declaration_from binding entry_of formals_of formal_of result_of source_of denoted type_at line_at level_of block_of block_around standard_name text_attribute sysin_attribute sysout_attribute signature is_real_function is_random_drawing is_file_or_layout is_environment_name undeclared program_events of_statement of_branch of_arm of_block of_whole of_class_body of_declaration block_number slot_of accessible protects is_kind some_around_of some_around base brought_by level_shows shown_of is_detach ends_search outward virtual_of represented standard_at qualified_marks qualified_result connection_at own_attribute transfer_at levels_of levels is_in is_of has_procedure belongs class_at qualification stream_of is_variable is_attribute own_result result_meant standard_texts text_constant found_at shows_detach if_found found_in is_passed_over class_formals_of class_formals class_formal some_level_of has_level holds_class has_classes has_standard is_simulation_block is_for_prefixing simulation_level_of class_block is_in_chain on_one_chain shared_level_of shared_class names_hidden protector_of protector hides opens is_open fine wrong no_target targets assigned_to call_assigned target sign_agrees with_left lefts compared assigned precedes found is_connected prefix_of frame_text hidden_in block_in_front class_number putting_back assigning making_text joining put_back back_of_steps is_inside class_prefix_marks prefixed_marks prefix_marks standard_marks marks_of_standard standard_prefix object_ended pop_object qualifying referring first_along is_this this_block this_of with_entry_at putting_reference brings_class provides_attribute brought_marks
class_two = refl

entry_three : entry_of own_set.tables (record { 0 = 2 }) ≡ Some (entry.Class 3)
unfolding is_process_itself own_match by_name is_placed digits element_place making_array copying_array keeping_array finding_element giving_back handed_over stopping no_rule ticking taking entering having when computing choosing popping pop_many pop_plain pop_truth pop_integers pop_operands pop_text answering applying_one applying_two testing_step performing at_level kept_on pushing index level_of_machine cell_at jumping block_at own_block leaving with_result putting is_text home_of first_cells leaving_of_meaning constants_of text_constants putting_of_steps text is_class_free declared_at constant_of calculate compare compare_as_texts connect same_objects same_texts two_of one_of step_test take_integer take_character take_text take_nothing row_of standard_effect default_mode mode_allowed marked type_named result_named mode_named first_of_procedure first_of_class variable_marks array_marks parameter_marks moded_marks specified_marks headed_marks procedure_marks class_marks virtual_name_marks program_marks inner_marks declaring of_segment of_mode_part of_specification of_specifier of_virtual of_heading declared_by declarations_of run_of_runs lookup shown_of_scopes encloser searched block_at_of_scopes declaration_from binding entry_of formals_of formal_of result_of source_of denoted type_at line_at level_of block_of block_around standard_name text_attribute sysin_attribute sysout_attribute signature is_real_function is_random_drawing is_file_or_layout is_environment_name undeclared program_events of_statement of_branch of_arm of_block of_whole of_class_body of_declaration block_number slot_of accessible protects is_kind some_around_of some_around base brought_by level_shows shown_of is_detach ends_search outward virtual_of represented standard_at qualified_marks qualified_result connection_at own_attribute transfer_at levels_of levels is_in is_of has_procedure belongs class_at qualification stream_of is_variable is_attribute own_result result_meant standard_texts text_constant found_at shows_detach if_found found_in is_passed_over class_formals_of class_formals class_formal some_level_of has_level holds_class has_classes has_standard is_simulation_block is_for_prefixing simulation_level_of class_block is_in_chain on_one_chain shared_level_of shared_class names_hidden protector_of protector hides opens is_open fine wrong no_target targets assigned_to call_assigned target sign_agrees with_left lefts compared assigned precedes found is_connected prefix_of frame_text hidden_in block_in_front class_number putting_back assigning making_text joining put_back back_of_steps is_inside class_prefix_marks prefixed_marks prefix_marks standard_marks marks_of_standard standard_prefix object_ended pop_object qualifying referring first_along is_this this_block this_of with_entry_at putting_reference brings_class provides_attribute brought_marks
entry_three = refl

class_three : encloser own_set.tables 3 ≡ Some (block_of own_set (record { 0 = 2 }))
unfolding is_process_itself own_match by_name is_placed digits element_place making_array copying_array keeping_array finding_element giving_back handed_over stopping no_rule ticking taking entering having when computing choosing popping pop_many pop_plain pop_truth pop_integers pop_operands pop_text answering applying_one applying_two testing_step performing at_level kept_on pushing index level_of_machine cell_at jumping block_at own_block leaving with_result putting is_text home_of first_cells leaving_of_meaning constants_of text_constants putting_of_steps text is_class_free declared_at constant_of calculate compare compare_as_texts connect same_objects same_texts two_of one_of step_test take_integer take_character take_text take_nothing row_of standard_effect default_mode mode_allowed marked type_named result_named mode_named first_of_procedure first_of_class variable_marks array_marks parameter_marks moded_marks specified_marks headed_marks procedure_marks class_marks virtual_name_marks program_marks inner_marks declaring of_segment of_mode_part of_specification of_specifier of_virtual of_heading declared_by declarations_of run_of_runs lookup shown_of_scopes encloser searched block_at_of_scopes declaration_from binding entry_of formals_of formal_of result_of source_of denoted type_at line_at level_of block_of block_around standard_name text_attribute sysin_attribute sysout_attribute signature is_real_function is_random_drawing is_file_or_layout is_environment_name undeclared program_events of_statement of_branch of_arm of_block of_whole of_class_body of_declaration block_number slot_of accessible protects is_kind some_around_of some_around base brought_by level_shows shown_of is_detach ends_search outward virtual_of represented standard_at qualified_marks qualified_result connection_at own_attribute transfer_at levels_of levels is_in is_of has_procedure belongs class_at qualification stream_of is_variable is_attribute own_result result_meant standard_texts text_constant found_at shows_detach if_found found_in is_passed_over class_formals_of class_formals class_formal some_level_of has_level holds_class has_classes has_standard is_simulation_block is_for_prefixing simulation_level_of class_block is_in_chain on_one_chain shared_level_of shared_class names_hidden protector_of protector hides opens is_open fine wrong no_target targets assigned_to call_assigned target sign_agrees with_left lefts compared assigned precedes found is_connected prefix_of frame_text hidden_in block_in_front class_number putting_back assigning making_text joining put_back back_of_steps is_inside class_prefix_marks prefixed_marks prefix_marks standard_marks marks_of_standard standard_prefix object_ended pop_object qualifying referring first_along is_this this_block this_of with_entry_at putting_reference brings_class provides_attribute brought_marks
class_three = refl

entry_four : entry_of own_set.tables (record { 0 = 15 }) ≡ Some (entry.Class 4)
unfolding is_process_itself own_match by_name is_placed digits element_place making_array copying_array keeping_array finding_element giving_back handed_over stopping no_rule ticking taking entering having when computing choosing popping pop_many pop_plain pop_truth pop_integers pop_operands pop_text answering applying_one applying_two testing_step performing at_level kept_on pushing index level_of_machine cell_at jumping block_at own_block leaving with_result putting is_text home_of first_cells leaving_of_meaning constants_of text_constants putting_of_steps text is_class_free declared_at constant_of calculate compare compare_as_texts connect same_objects same_texts two_of one_of step_test take_integer take_character take_text take_nothing row_of standard_effect default_mode mode_allowed marked type_named result_named mode_named first_of_procedure first_of_class variable_marks array_marks parameter_marks moded_marks specified_marks headed_marks procedure_marks class_marks virtual_name_marks program_marks inner_marks declaring of_segment of_mode_part of_specification of_specifier of_virtual of_heading declared_by declarations_of run_of_runs lookup shown_of_scopes encloser searched block_at_of_scopes declaration_from binding entry_of formals_of formal_of result_of source_of denoted type_at line_at level_of block_of block_around standard_name text_attribute sysin_attribute sysout_attribute signature is_real_function is_random_drawing is_file_or_layout is_environment_name undeclared program_events of_statement of_branch of_arm of_block of_whole of_class_body of_declaration block_number slot_of accessible protects is_kind some_around_of some_around base brought_by level_shows shown_of is_detach ends_search outward virtual_of represented standard_at qualified_marks qualified_result connection_at own_attribute transfer_at levels_of levels is_in is_of has_procedure belongs class_at qualification stream_of is_variable is_attribute own_result result_meant standard_texts text_constant found_at shows_detach if_found found_in is_passed_over class_formals_of class_formals class_formal some_level_of has_level holds_class has_classes has_standard is_simulation_block is_for_prefixing simulation_level_of class_block is_in_chain on_one_chain shared_level_of shared_class names_hidden protector_of protector hides opens is_open fine wrong no_target targets assigned_to call_assigned target sign_agrees with_left lefts compared assigned precedes found is_connected prefix_of frame_text hidden_in block_in_front class_number putting_back assigning making_text joining put_back back_of_steps is_inside class_prefix_marks prefixed_marks prefix_marks standard_marks marks_of_standard standard_prefix object_ended pop_object qualifying referring first_along is_this this_block this_of with_entry_at putting_reference brings_class provides_attribute brought_marks
entry_four = refl

class_four : encloser own_set.tables 4 ≡ Some (block_of own_set (record { 0 = 15 }))
unfolding is_process_itself own_match by_name is_placed digits element_place making_array copying_array keeping_array finding_element giving_back handed_over stopping no_rule ticking taking entering having when computing choosing popping pop_many pop_plain pop_truth pop_integers pop_operands pop_text answering applying_one applying_two testing_step performing at_level kept_on pushing index level_of_machine cell_at jumping block_at own_block leaving with_result putting is_text home_of first_cells leaving_of_meaning constants_of text_constants putting_of_steps text is_class_free declared_at constant_of calculate compare compare_as_texts connect same_objects same_texts two_of one_of step_test take_integer take_character take_text take_nothing row_of standard_effect default_mode mode_allowed marked type_named result_named mode_named first_of_procedure first_of_class variable_marks array_marks parameter_marks moded_marks specified_marks headed_marks procedure_marks class_marks virtual_name_marks program_marks inner_marks declaring of_segment of_mode_part of_specification of_specifier of_virtual of_heading declared_by declarations_of run_of_runs lookup shown_of_scopes encloser searched block_at_of_scopes declaration_from binding entry_of formals_of formal_of result_of source_of denoted type_at line_at level_of block_of block_around standard_name text_attribute sysin_attribute sysout_attribute signature is_real_function is_random_drawing is_file_or_layout is_environment_name undeclared program_events of_statement of_branch of_arm of_block of_whole of_class_body of_declaration block_number slot_of accessible protects is_kind some_around_of some_around base brought_by level_shows shown_of is_detach ends_search outward virtual_of represented standard_at qualified_marks qualified_result connection_at own_attribute transfer_at levels_of levels is_in is_of has_procedure belongs class_at qualification stream_of is_variable is_attribute own_result result_meant standard_texts text_constant found_at shows_detach if_found found_in is_passed_over class_formals_of class_formals class_formal some_level_of has_level holds_class has_classes has_standard is_simulation_block is_for_prefixing simulation_level_of class_block is_in_chain on_one_chain shared_level_of shared_class names_hidden protector_of protector hides opens is_open fine wrong no_target targets assigned_to call_assigned target sign_agrees with_left lefts compared assigned precedes found is_connected prefix_of frame_text hidden_in block_in_front class_number putting_back assigning making_text joining put_back back_of_steps is_inside class_prefix_marks prefixed_marks prefix_marks standard_marks marks_of_standard standard_prefix object_ended pop_object qualifying referring first_along is_this this_block this_of with_entry_at putting_reference brings_class provides_attribute brought_marks
class_four = refl

-- which declarations are those of classes
abbrev is_class_there : ℕ → Bool
is_class_there zero = true
is_class_there (suc zero) = true
is_class_there (suc (suc zero)) = true
is_class_there (suc (suc (suc (suc (suc (suc (suc (suc (suc (suc (suc (suc (suc (suc (suc zero))))))))))))))) = true
is_class_there _ = false

no_class : (n k : ℕ) → is_class_there n ≡ false → entry_of own_set.tables (record { 0 = n }) ≡ Some (entry.Class k) → ⊥
unfolding is_process_itself own_match by_name is_placed digits element_place making_array copying_array keeping_array finding_element giving_back handed_over stopping no_rule ticking taking entering having when computing choosing popping pop_many pop_plain pop_truth pop_integers pop_operands pop_text answering applying_one applying_two testing_step performing at_level kept_on pushing index level_of_machine cell_at jumping block_at own_block leaving with_result putting is_text home_of first_cells leaving_of_meaning constants_of text_constants putting_of_steps text is_class_free declared_at constant_of calculate compare compare_as_texts connect same_objects same_texts two_of one_of step_test take_integer take_character take_text take_nothing row_of standard_effect default_mode mode_allowed marked type_named result_named mode_named first_of_procedure first_of_class variable_marks array_marks parameter_marks moded_marks specified_marks headed_marks procedure_marks class_marks virtual_name_marks program_marks inner_marks declaring of_segment of_mode_part of_specification of_specifier of_virtual of_heading declared_by declarations_of run_of_runs lookup shown_of_scopes encloser searched block_at_of_scopes declaration_from binding entry_of formals_of formal_of result_of source_of denoted type_at line_at level_of block_of block_around standard_name text_attribute sysin_attribute sysout_attribute signature is_real_function is_random_drawing is_file_or_layout is_environment_name undeclared program_events of_statement of_branch of_arm of_block of_whole of_class_body of_declaration block_number slot_of accessible protects is_kind some_around_of some_around base brought_by level_shows shown_of is_detach ends_search outward virtual_of represented standard_at qualified_marks qualified_result connection_at own_attribute transfer_at levels_of levels is_in is_of has_procedure belongs class_at qualification stream_of is_variable is_attribute own_result result_meant standard_texts text_constant found_at shows_detach if_found found_in is_passed_over class_formals_of class_formals class_formal some_level_of has_level holds_class has_classes has_standard is_simulation_block is_for_prefixing simulation_level_of class_block is_in_chain on_one_chain shared_level_of shared_class names_hidden protector_of protector hides opens is_open fine wrong no_target targets assigned_to call_assigned target sign_agrees with_left lefts compared assigned precedes found is_connected prefix_of frame_text hidden_in block_in_front class_number putting_back assigning making_text joining put_back back_of_steps is_inside class_prefix_marks prefixed_marks prefix_marks standard_marks marks_of_standard standard_prefix object_ended pop_object qualifying referring first_along is_this this_block this_of with_entry_at putting_reference brings_class provides_attribute brought_marks
no_class zero k c e = absurd (cc (c))
no_class (suc zero) k c e = absurd (cc (c))
no_class (suc (suc zero)) k c e = absurd (cc (c))
no_class (suc (suc (suc zero))) k c e = cc (e)
no_class (suc (suc (suc (suc zero)))) k c e = cc (e)
no_class (suc (suc (suc (suc (suc zero))))) k c e = cc (e)
no_class (suc (suc (suc (suc (suc (suc zero)))))) k c e = cc (e)
no_class (suc (suc (suc (suc (suc (suc (suc zero))))))) k c e = cc (e)
no_class (suc (suc (suc (suc (suc (suc (suc (suc zero)))))))) k c e = cc (e)
no_class (suc (suc (suc (suc (suc (suc (suc (suc (suc zero))))))))) k c e = cc (e)
no_class (suc (suc (suc (suc (suc (suc (suc (suc (suc (suc zero)))))))))) k c e = cc (e)
no_class (suc (suc (suc (suc (suc (suc (suc (suc (suc (suc (suc zero))))))))))) k c e = cc (e)
no_class (suc (suc (suc (suc (suc (suc (suc (suc (suc (suc (suc (suc zero)))))))))))) k c e = cc (e)
no_class (suc (suc (suc (suc (suc (suc (suc (suc (suc (suc (suc (suc (suc zero))))))))))))) k c e = cc (e)
no_class (suc (suc (suc (suc (suc (suc (suc (suc (suc (suc (suc (suc (suc (suc zero)))))))))))))) k c e = cc (e)
no_class (suc (suc (suc (suc (suc (suc (suc (suc (suc (suc (suc (suc (suc (suc (suc zero))))))))))))))) k c e = absurd (cc (c))
no_class (suc (suc (suc (suc (suc (suc (suc (suc (suc (suc (suc (suc (suc (suc (suc (suc zero)))))))))))))))) k c e = cc (e)
no_class (suc (suc (suc (suc (suc (suc (suc (suc (suc (suc (suc (suc (suc (suc (suc (suc (suc n))))))))))))))))) k c e = cc (e)

classes_there : (n k : ℕ) → entry_of own_set.tables (record { 0 = n }) ≡ Some (entry.Class k) → encloser own_set.tables k ≡ Some (block_of own_set (record { 0 = n }))
classes_there zero k e = subst (λ z. encloser own_set.tables z ≡ Some (block_of own_set (record { 0 = 0 }))) (same_class (entry_of own_set.tables (record { 0 = 0 })) 1 k entry_one e) class_one
classes_there (suc zero) k e = subst (λ z. encloser own_set.tables z ≡ Some (block_of own_set (record { 0 = 1 }))) (same_class (entry_of own_set.tables (record { 0 = 1 })) 2 k entry_two e) class_two
classes_there (suc (suc zero)) k e = subst (λ z. encloser own_set.tables z ≡ Some (block_of own_set (record { 0 = 2 }))) (same_class (entry_of own_set.tables (record { 0 = 2 })) 3 k entry_three e) class_three
classes_there (suc (suc (suc zero))) k e = absurd (no_class 3 k refl e)
classes_there (suc (suc (suc (suc zero)))) k e = absurd (no_class 4 k refl e)
classes_there (suc (suc (suc (suc (suc zero))))) k e = absurd (no_class 5 k refl e)
classes_there (suc (suc (suc (suc (suc (suc zero)))))) k e = absurd (no_class 6 k refl e)
classes_there (suc (suc (suc (suc (suc (suc (suc zero))))))) k e = absurd (no_class 7 k refl e)
classes_there (suc (suc (suc (suc (suc (suc (suc (suc zero)))))))) k e = absurd (no_class 8 k refl e)
classes_there (suc (suc (suc (suc (suc (suc (suc (suc (suc zero))))))))) k e = absurd (no_class 9 k refl e)
classes_there (suc (suc (suc (suc (suc (suc (suc (suc (suc (suc zero)))))))))) k e = absurd (no_class 10 k refl e)
classes_there (suc (suc (suc (suc (suc (suc (suc (suc (suc (suc (suc zero))))))))))) k e = absurd (no_class 11 k refl e)
classes_there (suc (suc (suc (suc (suc (suc (suc (suc (suc (suc (suc (suc zero)))))))))))) k e = absurd (no_class 12 k refl e)
classes_there (suc (suc (suc (suc (suc (suc (suc (suc (suc (suc (suc (suc (suc zero))))))))))))) k e = absurd (no_class 13 k refl e)
classes_there (suc (suc (suc (suc (suc (suc (suc (suc (suc (suc (suc (suc (suc (suc zero)))))))))))))) k e = absurd (no_class 14 k refl e)
classes_there (suc (suc (suc (suc (suc (suc (suc (suc (suc (suc (suc (suc (suc (suc (suc zero))))))))))))))) k e = subst (λ z. encloser own_set.tables z ≡ Some (block_of own_set (record { 0 = 15 }))) (same_class (entry_of own_set.tables (record { 0 = 15 })) 4 k entry_four e) class_four
classes_there (suc (suc (suc (suc (suc (suc (suc (suc (suc (suc (suc (suc (suc (suc (suc (suc zero)))))))))))))))) k e = absurd (no_class 16 k refl e)
classes_there (suc (suc (suc (suc (suc (suc (suc (suc (suc (suc (suc (suc (suc (suc (suc (suc (suc n))))))))))))))))) k e = absurd (no_class (suc (suc (suc (suc (suc (suc (suc (suc (suc (suc (suc (suc (suc (suc (suc (suc (suc n))))))))))))))))) k refl e)

none_connected : (k : ℕ) → is_connected own_set.tables k ≡ false
unfolding is_process_itself own_match by_name is_placed digits element_place making_array copying_array keeping_array finding_element giving_back handed_over stopping no_rule ticking taking entering having when computing choosing popping pop_many pop_plain pop_truth pop_integers pop_operands pop_text answering applying_one applying_two testing_step performing at_level kept_on pushing index level_of_machine cell_at jumping block_at own_block leaving with_result putting is_text home_of first_cells leaving_of_meaning constants_of text_constants putting_of_steps text is_class_free declared_at constant_of calculate compare compare_as_texts connect same_objects same_texts two_of one_of step_test take_integer take_character take_text take_nothing row_of standard_effect default_mode mode_allowed marked type_named result_named mode_named first_of_procedure first_of_class variable_marks array_marks parameter_marks moded_marks specified_marks headed_marks procedure_marks class_marks virtual_name_marks program_marks inner_marks declaring of_segment of_mode_part of_specification of_specifier of_virtual of_heading declared_by declarations_of run_of_runs lookup shown_of_scopes encloser searched block_at_of_scopes declaration_from binding entry_of formals_of formal_of result_of source_of denoted type_at line_at level_of block_of block_around standard_name text_attribute sysin_attribute sysout_attribute signature is_real_function is_random_drawing is_file_or_layout is_environment_name undeclared program_events of_statement of_branch of_arm of_block of_whole of_class_body of_declaration block_number slot_of accessible protects is_kind some_around_of some_around base brought_by level_shows shown_of is_detach ends_search outward virtual_of represented standard_at qualified_marks qualified_result connection_at own_attribute transfer_at levels_of levels is_in is_of has_procedure belongs class_at qualification stream_of is_variable is_attribute own_result result_meant standard_texts text_constant found_at shows_detach if_found found_in is_passed_over class_formals_of class_formals class_formal some_level_of has_level holds_class has_classes has_standard is_simulation_block is_for_prefixing simulation_level_of class_block is_in_chain on_one_chain shared_level_of shared_class names_hidden protector_of protector hides opens is_open fine wrong no_target targets assigned_to call_assigned target sign_agrees with_left lefts compared assigned precedes found is_connected prefix_of frame_text hidden_in block_in_front class_number putting_back assigning making_text joining put_back back_of_steps is_inside class_prefix_marks prefixed_marks prefix_marks standard_marks marks_of_standard standard_prefix object_ended pop_object qualifying referring first_along is_this this_block this_of with_entry_at putting_reference brings_class provides_attribute brought_marks
none_connected zero = refl
none_connected (suc zero) = refl
none_connected (suc (suc zero)) = refl
none_connected (suc (suc (suc zero))) = refl
none_connected (suc (suc (suc (suc zero)))) = refl
none_connected (suc (suc (suc (suc (suc k))))) = refl

no_connection : (k : ℕ) → is_connection (text own_set k) ≡ false
unfolding is_process_itself own_match by_name is_placed digits element_place making_array copying_array keeping_array finding_element giving_back handed_over stopping no_rule ticking taking entering having when computing choosing popping pop_many pop_plain pop_truth pop_integers pop_operands pop_text answering applying_one applying_two testing_step performing at_level kept_on pushing index level_of_machine cell_at jumping block_at own_block leaving with_result putting is_text home_of first_cells leaving_of_meaning constants_of text_constants putting_of_steps text is_class_free declared_at constant_of calculate compare compare_as_texts connect same_objects same_texts two_of one_of step_test take_integer take_character take_text take_nothing row_of standard_effect default_mode mode_allowed marked type_named result_named mode_named first_of_procedure first_of_class variable_marks array_marks parameter_marks moded_marks specified_marks headed_marks procedure_marks class_marks virtual_name_marks program_marks inner_marks declaring of_segment of_mode_part of_specification of_specifier of_virtual of_heading declared_by declarations_of run_of_runs lookup shown_of_scopes encloser searched block_at_of_scopes declaration_from binding entry_of formals_of formal_of result_of source_of denoted type_at line_at level_of block_of block_around standard_name text_attribute sysin_attribute sysout_attribute signature is_real_function is_random_drawing is_file_or_layout is_environment_name undeclared program_events of_statement of_branch of_arm of_block of_whole of_class_body of_declaration block_number slot_of accessible protects is_kind some_around_of some_around base brought_by level_shows shown_of is_detach ends_search outward virtual_of represented standard_at qualified_marks qualified_result connection_at own_attribute transfer_at levels_of levels is_in is_of has_procedure belongs class_at qualification stream_of is_variable is_attribute own_result result_meant standard_texts text_constant found_at shows_detach if_found found_in is_passed_over class_formals_of class_formals class_formal some_level_of has_level holds_class has_classes has_standard is_simulation_block is_for_prefixing simulation_level_of class_block is_in_chain on_one_chain shared_level_of shared_class names_hidden protector_of protector hides opens is_open fine wrong no_target targets assigned_to call_assigned target sign_agrees with_left lefts compared assigned precedes found is_connected prefix_of frame_text hidden_in block_in_front class_number putting_back assigning making_text joining put_back back_of_steps is_inside class_prefix_marks prefixed_marks prefix_marks standard_marks marks_of_standard standard_prefix object_ended pop_object qualifying referring first_along is_this this_block this_of with_entry_at putting_reference brings_class provides_attribute brought_marks
no_connection zero = refl
no_connection (suc zero) = refl
no_connection (suc (suc zero)) = refl
no_connection (suc (suc (suc zero))) = refl
no_connection (suc (suc (suc (suc zero)))) = refl
no_connection (suc (suc (suc (suc (suc k))))) = refl

no_prefix : prefix_of own_set.tables 0 ≡ None
unfolding is_process_itself own_match by_name is_placed digits element_place making_array copying_array keeping_array finding_element giving_back handed_over stopping no_rule ticking taking entering having when computing choosing popping pop_many pop_plain pop_truth pop_integers pop_operands pop_text answering applying_one applying_two testing_step performing at_level kept_on pushing index level_of_machine cell_at jumping block_at own_block leaving with_result putting is_text home_of first_cells leaving_of_meaning constants_of text_constants putting_of_steps text is_class_free declared_at constant_of calculate compare compare_as_texts connect same_objects same_texts two_of one_of step_test take_integer take_character take_text take_nothing row_of standard_effect default_mode mode_allowed marked type_named result_named mode_named first_of_procedure first_of_class variable_marks array_marks parameter_marks moded_marks specified_marks headed_marks procedure_marks class_marks virtual_name_marks program_marks inner_marks declaring of_segment of_mode_part of_specification of_specifier of_virtual of_heading declared_by declarations_of run_of_runs lookup shown_of_scopes encloser searched block_at_of_scopes declaration_from binding entry_of formals_of formal_of result_of source_of denoted type_at line_at level_of block_of block_around standard_name text_attribute sysin_attribute sysout_attribute signature is_real_function is_random_drawing is_file_or_layout is_environment_name undeclared program_events of_statement of_branch of_arm of_block of_whole of_class_body of_declaration block_number slot_of accessible protects is_kind some_around_of some_around base brought_by level_shows shown_of is_detach ends_search outward virtual_of represented standard_at qualified_marks qualified_result connection_at own_attribute transfer_at levels_of levels is_in is_of has_procedure belongs class_at qualification stream_of is_variable is_attribute own_result result_meant standard_texts text_constant found_at shows_detach if_found found_in is_passed_over class_formals_of class_formals class_formal some_level_of has_level holds_class has_classes has_standard is_simulation_block is_for_prefixing simulation_level_of class_block is_in_chain on_one_chain shared_level_of shared_class names_hidden protector_of protector hides opens is_open fine wrong no_target targets assigned_to call_assigned target sign_agrees with_left lefts compared assigned precedes found is_connected prefix_of frame_text hidden_in block_in_front class_number putting_back assigning making_text joining put_back back_of_steps is_inside class_prefix_marks prefixed_marks prefix_marks standard_marks marks_of_standard standard_prefix object_ended pop_object qualifying referring first_along is_this this_block this_of with_entry_at putting_reference brings_class provides_attribute brought_marks
no_prefix = refl

linkage_alone : prefix_of own_set.tables 1 ≡ None
unfolding is_process_itself own_match by_name is_placed digits element_place making_array copying_array keeping_array finding_element giving_back handed_over stopping no_rule ticking taking entering having when computing choosing popping pop_many pop_plain pop_truth pop_integers pop_operands pop_text answering applying_one applying_two testing_step performing at_level kept_on pushing index level_of_machine cell_at jumping block_at own_block leaving with_result putting is_text home_of first_cells leaving_of_meaning constants_of text_constants putting_of_steps text is_class_free declared_at constant_of calculate compare compare_as_texts connect same_objects same_texts two_of one_of step_test take_integer take_character take_text take_nothing row_of standard_effect default_mode mode_allowed marked type_named result_named mode_named first_of_procedure first_of_class variable_marks array_marks parameter_marks moded_marks specified_marks headed_marks procedure_marks class_marks virtual_name_marks program_marks inner_marks declaring of_segment of_mode_part of_specification of_specifier of_virtual of_heading declared_by declarations_of run_of_runs lookup shown_of_scopes encloser searched block_at_of_scopes declaration_from binding entry_of formals_of formal_of result_of source_of denoted type_at line_at level_of block_of block_around standard_name text_attribute sysin_attribute sysout_attribute signature is_real_function is_random_drawing is_file_or_layout is_environment_name undeclared program_events of_statement of_branch of_arm of_block of_whole of_class_body of_declaration block_number slot_of accessible protects is_kind some_around_of some_around base brought_by level_shows shown_of is_detach ends_search outward virtual_of represented standard_at qualified_marks qualified_result connection_at own_attribute transfer_at levels_of levels is_in is_of has_procedure belongs class_at qualification stream_of is_variable is_attribute own_result result_meant standard_texts text_constant found_at shows_detach if_found found_in is_passed_over class_formals_of class_formals class_formal some_level_of has_level holds_class has_classes has_standard is_simulation_block is_for_prefixing simulation_level_of class_block is_in_chain on_one_chain shared_level_of shared_class names_hidden protector_of protector hides opens is_open fine wrong no_target targets assigned_to call_assigned target sign_agrees with_left lefts compared assigned precedes found is_connected prefix_of frame_text hidden_in block_in_front class_number putting_back assigning making_text joining put_back back_of_steps is_inside class_prefix_marks prefixed_marks prefix_marks standard_marks marks_of_standard standard_prefix object_ended pop_object qualifying referring first_along is_this this_block this_of with_entry_at putting_reference brings_class provides_attribute brought_marks
linkage_alone = refl

in_front_two : prefix_of own_set.tables 2 ≡ Some 1
unfolding is_process_itself own_match by_name is_placed digits element_place making_array copying_array keeping_array finding_element giving_back handed_over stopping no_rule ticking taking entering having when computing choosing popping pop_many pop_plain pop_truth pop_integers pop_operands pop_text answering applying_one applying_two testing_step performing at_level kept_on pushing index level_of_machine cell_at jumping block_at own_block leaving with_result putting is_text home_of first_cells leaving_of_meaning constants_of text_constants putting_of_steps text is_class_free declared_at constant_of calculate compare compare_as_texts connect same_objects same_texts two_of one_of step_test take_integer take_character take_text take_nothing row_of standard_effect default_mode mode_allowed marked type_named result_named mode_named first_of_procedure first_of_class variable_marks array_marks parameter_marks moded_marks specified_marks headed_marks procedure_marks class_marks virtual_name_marks program_marks inner_marks declaring of_segment of_mode_part of_specification of_specifier of_virtual of_heading declared_by declarations_of run_of_runs lookup shown_of_scopes encloser searched block_at_of_scopes declaration_from binding entry_of formals_of formal_of result_of source_of denoted type_at line_at level_of block_of block_around standard_name text_attribute sysin_attribute sysout_attribute signature is_real_function is_random_drawing is_file_or_layout is_environment_name undeclared program_events of_statement of_branch of_arm of_block of_whole of_class_body of_declaration block_number slot_of accessible protects is_kind some_around_of some_around base brought_by level_shows shown_of is_detach ends_search outward virtual_of represented standard_at qualified_marks qualified_result connection_at own_attribute transfer_at levels_of levels is_in is_of has_procedure belongs class_at qualification stream_of is_variable is_attribute own_result result_meant standard_texts text_constant found_at shows_detach if_found found_in is_passed_over class_formals_of class_formals class_formal some_level_of has_level holds_class has_classes has_standard is_simulation_block is_for_prefixing simulation_level_of class_block is_in_chain on_one_chain shared_level_of shared_class names_hidden protector_of protector hides opens is_open fine wrong no_target targets assigned_to call_assigned target sign_agrees with_left lefts compared assigned precedes found is_connected prefix_of frame_text hidden_in block_in_front class_number putting_back assigning making_text joining put_back back_of_steps is_inside class_prefix_marks prefixed_marks prefix_marks standard_marks marks_of_standard standard_prefix object_ended pop_object qualifying referring first_along is_this this_block this_of with_entry_at putting_reference brings_class provides_attribute brought_marks
in_front_two = refl

in_front_three : prefix_of own_set.tables 3 ≡ Some 1
unfolding is_process_itself own_match by_name is_placed digits element_place making_array copying_array keeping_array finding_element giving_back handed_over stopping no_rule ticking taking entering having when computing choosing popping pop_many pop_plain pop_truth pop_integers pop_operands pop_text answering applying_one applying_two testing_step performing at_level kept_on pushing index level_of_machine cell_at jumping block_at own_block leaving with_result putting is_text home_of first_cells leaving_of_meaning constants_of text_constants putting_of_steps text is_class_free declared_at constant_of calculate compare compare_as_texts connect same_objects same_texts two_of one_of step_test take_integer take_character take_text take_nothing row_of standard_effect default_mode mode_allowed marked type_named result_named mode_named first_of_procedure first_of_class variable_marks array_marks parameter_marks moded_marks specified_marks headed_marks procedure_marks class_marks virtual_name_marks program_marks inner_marks declaring of_segment of_mode_part of_specification of_specifier of_virtual of_heading declared_by declarations_of run_of_runs lookup shown_of_scopes encloser searched block_at_of_scopes declaration_from binding entry_of formals_of formal_of result_of source_of denoted type_at line_at level_of block_of block_around standard_name text_attribute sysin_attribute sysout_attribute signature is_real_function is_random_drawing is_file_or_layout is_environment_name undeclared program_events of_statement of_branch of_arm of_block of_whole of_class_body of_declaration block_number slot_of accessible protects is_kind some_around_of some_around base brought_by level_shows shown_of is_detach ends_search outward virtual_of represented standard_at qualified_marks qualified_result connection_at own_attribute transfer_at levels_of levels is_in is_of has_procedure belongs class_at qualification stream_of is_variable is_attribute own_result result_meant standard_texts text_constant found_at shows_detach if_found found_in is_passed_over class_formals_of class_formals class_formal some_level_of has_level holds_class has_classes has_standard is_simulation_block is_for_prefixing simulation_level_of class_block is_in_chain on_one_chain shared_level_of shared_class names_hidden protector_of protector hides opens is_open fine wrong no_target targets assigned_to call_assigned target sign_agrees with_left lefts compared assigned precedes found is_connected prefix_of frame_text hidden_in block_in_front class_number putting_back assigning making_text joining put_back back_of_steps is_inside class_prefix_marks prefixed_marks prefix_marks standard_marks marks_of_standard standard_prefix object_ended pop_object qualifying referring first_along is_this this_block this_of with_entry_at putting_reference brings_class provides_attribute brought_marks
in_front_three = refl

in_front_four : prefix_of own_set.tables 4 ≡ Some 3
unfolding is_process_itself own_match by_name is_placed digits element_place making_array copying_array keeping_array finding_element giving_back handed_over stopping no_rule ticking taking entering having when computing choosing popping pop_many pop_plain pop_truth pop_integers pop_operands pop_text answering applying_one applying_two testing_step performing at_level kept_on pushing index level_of_machine cell_at jumping block_at own_block leaving with_result putting is_text home_of first_cells leaving_of_meaning constants_of text_constants putting_of_steps text is_class_free declared_at constant_of calculate compare compare_as_texts connect same_objects same_texts two_of one_of step_test take_integer take_character take_text take_nothing row_of standard_effect default_mode mode_allowed marked type_named result_named mode_named first_of_procedure first_of_class variable_marks array_marks parameter_marks moded_marks specified_marks headed_marks procedure_marks class_marks virtual_name_marks program_marks inner_marks declaring of_segment of_mode_part of_specification of_specifier of_virtual of_heading declared_by declarations_of run_of_runs lookup shown_of_scopes encloser searched block_at_of_scopes declaration_from binding entry_of formals_of formal_of result_of source_of denoted type_at line_at level_of block_of block_around standard_name text_attribute sysin_attribute sysout_attribute signature is_real_function is_random_drawing is_file_or_layout is_environment_name undeclared program_events of_statement of_branch of_arm of_block of_whole of_class_body of_declaration block_number slot_of accessible protects is_kind some_around_of some_around base brought_by level_shows shown_of is_detach ends_search outward virtual_of represented standard_at qualified_marks qualified_result connection_at own_attribute transfer_at levels_of levels is_in is_of has_procedure belongs class_at qualification stream_of is_variable is_attribute own_result result_meant standard_texts text_constant found_at shows_detach if_found found_in is_passed_over class_formals_of class_formals class_formal some_level_of has_level holds_class has_classes has_standard is_simulation_block is_for_prefixing simulation_level_of class_block is_in_chain on_one_chain shared_level_of shared_class names_hidden protector_of protector hides opens is_open fine wrong no_target targets assigned_to call_assigned target sign_agrees with_left lefts compared assigned precedes found is_connected prefix_of frame_text hidden_in block_in_front class_number putting_back assigning making_text joining put_back back_of_steps is_inside class_prefix_marks prefixed_marks prefix_marks standard_marks marks_of_standard standard_prefix object_ended pop_object qualifying referring first_along is_this this_block this_of with_entry_at putting_reference brings_class provides_attribute brought_marks
in_front_four = refl

none_past : (k : ℕ) → prefix_of own_set.tables (suc (suc (suc (suc (suc k))))) ≡ None
unfolding is_process_itself own_match by_name is_placed digits element_place making_array copying_array keeping_array finding_element giving_back handed_over stopping no_rule ticking taking entering having when computing choosing popping pop_many pop_plain pop_truth pop_integers pop_operands pop_text answering applying_one applying_two testing_step performing at_level kept_on pushing index level_of_machine cell_at jumping block_at own_block leaving with_result putting is_text home_of first_cells leaving_of_meaning constants_of text_constants putting_of_steps text is_class_free declared_at constant_of calculate compare compare_as_texts connect same_objects same_texts two_of one_of step_test take_integer take_character take_text take_nothing row_of standard_effect default_mode mode_allowed marked type_named result_named mode_named first_of_procedure first_of_class variable_marks array_marks parameter_marks moded_marks specified_marks headed_marks procedure_marks class_marks virtual_name_marks program_marks inner_marks declaring of_segment of_mode_part of_specification of_specifier of_virtual of_heading declared_by declarations_of run_of_runs lookup shown_of_scopes encloser searched block_at_of_scopes declaration_from binding entry_of formals_of formal_of result_of source_of denoted type_at line_at level_of block_of block_around standard_name text_attribute sysin_attribute sysout_attribute signature is_real_function is_random_drawing is_file_or_layout is_environment_name undeclared program_events of_statement of_branch of_arm of_block of_whole of_class_body of_declaration block_number slot_of accessible protects is_kind some_around_of some_around base brought_by level_shows shown_of is_detach ends_search outward virtual_of represented standard_at qualified_marks qualified_result connection_at own_attribute transfer_at levels_of levels is_in is_of has_procedure belongs class_at qualification stream_of is_variable is_attribute own_result result_meant standard_texts text_constant found_at shows_detach if_found found_in is_passed_over class_formals_of class_formals class_formal some_level_of has_level holds_class has_classes has_standard is_simulation_block is_for_prefixing simulation_level_of class_block is_in_chain on_one_chain shared_level_of shared_class names_hidden protector_of protector hides opens is_open fine wrong no_target targets assigned_to call_assigned target sign_agrees with_left lefts compared assigned precedes found is_connected prefix_of frame_text hidden_in block_in_front class_number putting_back assigning making_text joining put_back back_of_steps is_inside class_prefix_marks prefixed_marks prefix_marks standard_marks marks_of_standard standard_prefix object_ended pop_object qualifying referring first_along is_this this_block this_of with_entry_at putting_reference brings_class provides_attribute brought_marks
none_past k = refl

prefix_two : PrefixThere own_set 2 1
unfolding is_process_itself own_match by_name is_placed digits element_place making_array copying_array keeping_array finding_element giving_back handed_over stopping no_rule ticking taking entering having when computing choosing popping pop_many pop_plain pop_truth pop_integers pop_operands pop_text answering applying_one applying_two testing_step performing at_level kept_on pushing index level_of_machine cell_at jumping block_at own_block leaving with_result putting is_text home_of first_cells leaving_of_meaning constants_of text_constants putting_of_steps text is_class_free declared_at constant_of calculate compare compare_as_texts connect same_objects same_texts two_of one_of step_test take_integer take_character take_text take_nothing row_of standard_effect default_mode mode_allowed marked type_named result_named mode_named first_of_procedure first_of_class variable_marks array_marks parameter_marks moded_marks specified_marks headed_marks procedure_marks class_marks virtual_name_marks program_marks inner_marks declaring of_segment of_mode_part of_specification of_specifier of_virtual of_heading declared_by declarations_of run_of_runs lookup shown_of_scopes encloser searched block_at_of_scopes declaration_from binding entry_of formals_of formal_of result_of source_of denoted type_at line_at level_of block_of block_around standard_name text_attribute sysin_attribute sysout_attribute signature is_real_function is_random_drawing is_file_or_layout is_environment_name undeclared program_events of_statement of_branch of_arm of_block of_whole of_class_body of_declaration block_number slot_of accessible protects is_kind some_around_of some_around base brought_by level_shows shown_of is_detach ends_search outward virtual_of represented standard_at qualified_marks qualified_result connection_at own_attribute transfer_at levels_of levels is_in is_of has_procedure belongs class_at qualification stream_of is_variable is_attribute own_result result_meant standard_texts text_constant found_at shows_detach if_found found_in is_passed_over class_formals_of class_formals class_formal some_level_of has_level holds_class has_classes has_standard is_simulation_block is_for_prefixing simulation_level_of class_block is_in_chain on_one_chain shared_level_of shared_class names_hidden protector_of protector hides opens is_open fine wrong no_target targets assigned_to call_assigned target sign_agrees with_left lefts compared assigned precedes found is_connected prefix_of frame_text hidden_in block_in_front class_number putting_back assigning making_text joining put_back back_of_steps is_inside class_prefix_marks prefixed_marks prefix_marks standard_marks marks_of_standard standard_prefix object_ended pop_object qualifying referring first_along is_this this_block this_of with_entry_at putting_reference brings_class provides_attribute brought_marks
prefix_two = record { has = refl; class = refl; level = refl; around = λ u e. record { around = 0; is = refl; level = subst (λ z. LevelOf own_set.tables (frame_text own_set 0) (frame_text own_set z)) (same_some (encloser own_set.tables 1) 0 u around_one e) innermost } }

prefix_three : PrefixThere own_set 3 1
unfolding is_process_itself own_match by_name is_placed digits element_place making_array copying_array keeping_array finding_element giving_back handed_over stopping no_rule ticking taking entering having when computing choosing popping pop_many pop_plain pop_truth pop_integers pop_operands pop_text answering applying_one applying_two testing_step performing at_level kept_on pushing index level_of_machine cell_at jumping block_at own_block leaving with_result putting is_text home_of first_cells leaving_of_meaning constants_of text_constants putting_of_steps text is_class_free declared_at constant_of calculate compare compare_as_texts connect same_objects same_texts two_of one_of step_test take_integer take_character take_text take_nothing row_of standard_effect default_mode mode_allowed marked type_named result_named mode_named first_of_procedure first_of_class variable_marks array_marks parameter_marks moded_marks specified_marks headed_marks procedure_marks class_marks virtual_name_marks program_marks inner_marks declaring of_segment of_mode_part of_specification of_specifier of_virtual of_heading declared_by declarations_of run_of_runs lookup shown_of_scopes encloser searched block_at_of_scopes declaration_from binding entry_of formals_of formal_of result_of source_of denoted type_at line_at level_of block_of block_around standard_name text_attribute sysin_attribute sysout_attribute signature is_real_function is_random_drawing is_file_or_layout is_environment_name undeclared program_events of_statement of_branch of_arm of_block of_whole of_class_body of_declaration block_number slot_of accessible protects is_kind some_around_of some_around base brought_by level_shows shown_of is_detach ends_search outward virtual_of represented standard_at qualified_marks qualified_result connection_at own_attribute transfer_at levels_of levels is_in is_of has_procedure belongs class_at qualification stream_of is_variable is_attribute own_result result_meant standard_texts text_constant found_at shows_detach if_found found_in is_passed_over class_formals_of class_formals class_formal some_level_of has_level holds_class has_classes has_standard is_simulation_block is_for_prefixing simulation_level_of class_block is_in_chain on_one_chain shared_level_of shared_class names_hidden protector_of protector hides opens is_open fine wrong no_target targets assigned_to call_assigned target sign_agrees with_left lefts compared assigned precedes found is_connected prefix_of frame_text hidden_in block_in_front class_number putting_back assigning making_text joining put_back back_of_steps is_inside class_prefix_marks prefixed_marks prefix_marks standard_marks marks_of_standard standard_prefix object_ended pop_object qualifying referring first_along is_this this_block this_of with_entry_at putting_reference brings_class provides_attribute brought_marks
prefix_three = record { has = refl; class = refl; level = refl; around = λ u e. record { around = 0; is = refl; level = subst (λ z. LevelOf own_set.tables (frame_text own_set 0) (frame_text own_set z)) (same_some (encloser own_set.tables 1) 0 u around_one e) innermost } }

prefix_four : PrefixThere own_set 4 3
unfolding is_process_itself own_match by_name is_placed digits element_place making_array copying_array keeping_array finding_element giving_back handed_over stopping no_rule ticking taking entering having when computing choosing popping pop_many pop_plain pop_truth pop_integers pop_operands pop_text answering applying_one applying_two testing_step performing at_level kept_on pushing index level_of_machine cell_at jumping block_at own_block leaving with_result putting is_text home_of first_cells leaving_of_meaning constants_of text_constants putting_of_steps text is_class_free declared_at constant_of calculate compare compare_as_texts connect same_objects same_texts two_of one_of step_test take_integer take_character take_text take_nothing row_of standard_effect default_mode mode_allowed marked type_named result_named mode_named first_of_procedure first_of_class variable_marks array_marks parameter_marks moded_marks specified_marks headed_marks procedure_marks class_marks virtual_name_marks program_marks inner_marks declaring of_segment of_mode_part of_specification of_specifier of_virtual of_heading declared_by declarations_of run_of_runs lookup shown_of_scopes encloser searched block_at_of_scopes declaration_from binding entry_of formals_of formal_of result_of source_of denoted type_at line_at level_of block_of block_around standard_name text_attribute sysin_attribute sysout_attribute signature is_real_function is_random_drawing is_file_or_layout is_environment_name undeclared program_events of_statement of_branch of_arm of_block of_whole of_class_body of_declaration block_number slot_of accessible protects is_kind some_around_of some_around base brought_by level_shows shown_of is_detach ends_search outward virtual_of represented standard_at qualified_marks qualified_result connection_at own_attribute transfer_at levels_of levels is_in is_of has_procedure belongs class_at qualification stream_of is_variable is_attribute own_result result_meant standard_texts text_constant found_at shows_detach if_found found_in is_passed_over class_formals_of class_formals class_formal some_level_of has_level holds_class has_classes has_standard is_simulation_block is_for_prefixing simulation_level_of class_block is_in_chain on_one_chain shared_level_of shared_class names_hidden protector_of protector hides opens is_open fine wrong no_target targets assigned_to call_assigned target sign_agrees with_left lefts compared assigned precedes found is_connected prefix_of frame_text hidden_in block_in_front class_number putting_back assigning making_text joining put_back back_of_steps is_inside class_prefix_marks prefixed_marks prefix_marks standard_marks marks_of_standard standard_prefix object_ended pop_object qualifying referring first_along is_this this_block this_of with_entry_at putting_reference brings_class provides_attribute brought_marks
prefix_four = record { has = refl; class = refl; level = refl; around = λ u e. record { around = 0; is = refl; level = subst (λ z. LevelOf own_set.tables (frame_text own_set 0) (frame_text own_set z)) (same_some (encloser own_set.tables 3) 0 u around_three e) innermost } }

prefixes_there : (k front : ℕ) → prefix_of own_set.tables k ≡ Some front → PrefixThere own_set k front
prefixes_there zero front e = absurd (not_some (prefix_of own_set.tables 0) front no_prefix e)
prefixes_there (suc zero) front e = absurd (not_some (prefix_of own_set.tables 1) front linkage_alone e)
prefixes_there (suc (suc zero)) front e = subst (PrefixThere own_set 2) (same_some (prefix_of own_set.tables 2) 1 front in_front_two e) prefix_two
prefixes_there (suc (suc (suc zero))) front e = subst (PrefixThere own_set 3) (same_some (prefix_of own_set.tables 3) 1 front in_front_three e) prefix_three
prefixes_there (suc (suc (suc (suc zero)))) front e = subst (PrefixThere own_set 4) (same_some (prefix_of own_set.tables 4) 3 front in_front_four e) prefix_four
prefixes_there (suc (suc (suc (suc (suc k))))) front e = absurd (not_some (prefix_of own_set.tables (suc (suc (suc (suc (suc k)))))) front (none_past k) e)

levels_end : (k : ℕ) → Ends own_set.tables 5 k
levels_end zero = one_level no_prefix
levels_end (suc zero) = one_level linkage_alone
levels_end (suc (suc zero)) = before in_front_two (one_level linkage_alone)
levels_end (suc (suc (suc zero))) = before in_front_three (one_level linkage_alone)
levels_end (suc (suc (suc (suc zero)))) = before in_front_four (before in_front_three (one_level linkage_alone))
levels_end (suc (suc (suc (suc (suc k))))) = one_level (none_past k)

owners : (k : ℕ) → all_of (λ d. block_of own_set d ≡ k) (numbers_of own_set k)
unfolding is_process_itself own_match by_name is_placed digits element_place making_array copying_array keeping_array finding_element giving_back handed_over stopping no_rule ticking taking entering having when computing choosing popping pop_many pop_plain pop_truth pop_integers pop_operands pop_text answering applying_one applying_two testing_step performing at_level kept_on pushing index level_of_machine cell_at jumping block_at own_block leaving with_result putting is_text home_of first_cells leaving_of_meaning constants_of text_constants putting_of_steps text is_class_free declared_at constant_of calculate compare compare_as_texts connect same_objects same_texts two_of one_of step_test take_integer take_character take_text take_nothing row_of standard_effect default_mode mode_allowed marked type_named result_named mode_named first_of_procedure first_of_class variable_marks array_marks parameter_marks moded_marks specified_marks headed_marks procedure_marks class_marks virtual_name_marks program_marks inner_marks declaring of_segment of_mode_part of_specification of_specifier of_virtual of_heading declared_by declarations_of run_of_runs lookup shown_of_scopes encloser searched block_at_of_scopes declaration_from binding entry_of formals_of formal_of result_of source_of denoted type_at line_at level_of block_of block_around standard_name text_attribute sysin_attribute sysout_attribute signature is_real_function is_random_drawing is_file_or_layout is_environment_name undeclared program_events of_statement of_branch of_arm of_block of_whole of_class_body of_declaration block_number slot_of accessible protects is_kind some_around_of some_around base brought_by level_shows shown_of is_detach ends_search outward virtual_of represented standard_at qualified_marks qualified_result connection_at own_attribute transfer_at levels_of levels is_in is_of has_procedure belongs class_at qualification stream_of is_variable is_attribute own_result result_meant standard_texts text_constant found_at shows_detach if_found found_in is_passed_over class_formals_of class_formals class_formal some_level_of has_level holds_class has_classes has_standard is_simulation_block is_for_prefixing simulation_level_of class_block is_in_chain on_one_chain shared_level_of shared_class names_hidden protector_of protector hides opens is_open fine wrong no_target targets assigned_to call_assigned target sign_agrees with_left lefts compared assigned precedes found is_connected prefix_of frame_text hidden_in block_in_front class_number putting_back assigning making_text joining put_back back_of_steps is_inside class_prefix_marks prefixed_marks prefix_marks standard_marks marks_of_standard standard_prefix object_ended pop_object qualifying referring first_along is_this this_block this_of with_entry_at putting_reference brings_class provides_attribute brought_marks
owners zero = (refl, (refl, tt))
owners (suc zero) = (refl, (refl, (refl, tt)))
owners (suc (suc zero)) = (refl, (refl, (refl, (refl, tt))))
owners (suc (suc (suc zero))) = (refl, (refl, (refl, (refl, (refl, tt)))))
owners (suc (suc (suc (suc zero)))) = tt
owners (suc (suc (suc (suc (suc k))))) = tt

listed_once : (k : ℕ) → apart (numbers_of own_set k)
unfolding is_process_itself own_match by_name is_placed digits element_place making_array copying_array keeping_array finding_element giving_back handed_over stopping no_rule ticking taking entering having when computing choosing popping pop_many pop_plain pop_truth pop_integers pop_operands pop_text answering applying_one applying_two testing_step performing at_level kept_on pushing index level_of_machine cell_at jumping block_at own_block leaving with_result putting is_text home_of first_cells leaving_of_meaning constants_of text_constants putting_of_steps text is_class_free declared_at constant_of calculate compare compare_as_texts connect same_objects same_texts two_of one_of step_test take_integer take_character take_text take_nothing row_of standard_effect default_mode mode_allowed marked type_named result_named mode_named first_of_procedure first_of_class variable_marks array_marks parameter_marks moded_marks specified_marks headed_marks procedure_marks class_marks virtual_name_marks program_marks inner_marks declaring of_segment of_mode_part of_specification of_specifier of_virtual of_heading declared_by declarations_of run_of_runs lookup shown_of_scopes encloser searched block_at_of_scopes declaration_from binding entry_of formals_of formal_of result_of source_of denoted type_at line_at level_of block_of block_around standard_name text_attribute sysin_attribute sysout_attribute signature is_real_function is_random_drawing is_file_or_layout is_environment_name undeclared program_events of_statement of_branch of_arm of_block of_whole of_class_body of_declaration block_number slot_of accessible protects is_kind some_around_of some_around base brought_by level_shows shown_of is_detach ends_search outward virtual_of represented standard_at qualified_marks qualified_result connection_at own_attribute transfer_at levels_of levels is_in is_of has_procedure belongs class_at qualification stream_of is_variable is_attribute own_result result_meant standard_texts text_constant found_at shows_detach if_found found_in is_passed_over class_formals_of class_formals class_formal some_level_of has_level holds_class has_classes has_standard is_simulation_block is_for_prefixing simulation_level_of class_block is_in_chain on_one_chain shared_level_of shared_class names_hidden protector_of protector hides opens is_open fine wrong no_target targets assigned_to call_assigned target sign_agrees with_left lefts compared assigned precedes found is_connected prefix_of frame_text hidden_in block_in_front class_number putting_back assigning making_text joining put_back back_of_steps is_inside class_prefix_marks prefixed_marks prefix_marks standard_marks marks_of_standard standard_prefix object_ended pop_object qualifying referring first_along is_this this_block this_of with_entry_at putting_reference brings_class provides_attribute brought_marks
listed_once zero = ((refl, tt), (tt, tt))
listed_once (suc zero) = ((refl, (refl, tt)), ((refl, tt), (tt, tt)))
listed_once (suc (suc zero)) = ((refl, (refl, (refl, tt))), ((refl, (refl, tt)), ((refl, tt), (tt, tt))))
listed_once (suc (suc (suc zero))) = ((refl, (refl, (refl, (refl, tt)))), ((refl, (refl, (refl, tt))), ((refl, (refl, tt)), ((refl, tt), (tt, tt)))))
listed_once (suc (suc (suc (suc zero)))) = tt
listed_once (suc (suc (suc (suc (suc k))))) = tt

formal_rows : (k : ℕ) → all_of (λ d. (x : Formal) × (entry_of own_set.tables d ≡ Some (entry.Formal x))) (formals_in (slice_get own_set.tables.blocks k))
unfolding is_process_itself own_match by_name is_placed digits element_place making_array copying_array keeping_array finding_element giving_back handed_over stopping no_rule ticking taking entering having when computing choosing popping pop_many pop_plain pop_truth pop_integers pop_operands pop_text answering applying_one applying_two testing_step performing at_level kept_on pushing index level_of_machine cell_at jumping block_at own_block leaving with_result putting is_text home_of first_cells leaving_of_meaning constants_of text_constants putting_of_steps text is_class_free declared_at constant_of calculate compare compare_as_texts connect same_objects same_texts two_of one_of step_test take_integer take_character take_text take_nothing row_of standard_effect default_mode mode_allowed marked type_named result_named mode_named first_of_procedure first_of_class variable_marks array_marks parameter_marks moded_marks specified_marks headed_marks procedure_marks class_marks virtual_name_marks program_marks inner_marks declaring of_segment of_mode_part of_specification of_specifier of_virtual of_heading declared_by declarations_of run_of_runs lookup shown_of_scopes encloser searched block_at_of_scopes declaration_from binding entry_of formals_of formal_of result_of source_of denoted type_at line_at level_of block_of block_around standard_name text_attribute sysin_attribute sysout_attribute signature is_real_function is_random_drawing is_file_or_layout is_environment_name undeclared program_events of_statement of_branch of_arm of_block of_whole of_class_body of_declaration block_number slot_of accessible protects is_kind some_around_of some_around base brought_by level_shows shown_of is_detach ends_search outward virtual_of represented standard_at qualified_marks qualified_result connection_at own_attribute transfer_at levels_of levels is_in is_of has_procedure belongs class_at qualification stream_of is_variable is_attribute own_result result_meant standard_texts text_constant found_at shows_detach if_found found_in is_passed_over class_formals_of class_formals class_formal some_level_of has_level holds_class has_classes has_standard is_simulation_block is_for_prefixing simulation_level_of class_block is_in_chain on_one_chain shared_level_of shared_class names_hidden protector_of protector hides opens is_open fine wrong no_target targets assigned_to call_assigned target sign_agrees with_left lefts compared assigned precedes found is_connected prefix_of frame_text hidden_in block_in_front class_number putting_back assigning making_text joining put_back back_of_steps is_inside class_prefix_marks prefixed_marks prefix_marks standard_marks marks_of_standard standard_prefix object_ended pop_object qualifying referring first_along is_this this_block this_of with_entry_at putting_reference brings_class provides_attribute brought_marks
formal_rows zero = tt
formal_rows (suc zero) = tt
formal_rows (suc (suc zero)) = tt
formal_rows (suc (suc (suc zero))) = tt
formal_rows (suc (suc (suc (suc zero)))) = tt
formal_rows (suc (suc (suc (suc (suc k))))) = tt

prefixed_there : (k : ℕ) → is_prefixed own_set.tables k ≡ true → (has_levels (text own_set k) ≡ true) × (is_class (text own_set k) ≡ false)
unfolding is_process_itself own_match by_name is_placed digits element_place making_array copying_array keeping_array finding_element giving_back handed_over stopping no_rule ticking taking entering having when computing choosing popping pop_many pop_plain pop_truth pop_integers pop_operands pop_text answering applying_one applying_two testing_step performing at_level kept_on pushing index level_of_machine cell_at jumping block_at own_block leaving with_result putting is_text home_of first_cells leaving_of_meaning constants_of text_constants putting_of_steps text is_class_free declared_at constant_of calculate compare compare_as_texts connect same_objects same_texts two_of one_of step_test take_integer take_character take_text take_nothing row_of standard_effect default_mode mode_allowed marked type_named result_named mode_named first_of_procedure first_of_class variable_marks array_marks parameter_marks moded_marks specified_marks headed_marks procedure_marks class_marks virtual_name_marks program_marks inner_marks declaring of_segment of_mode_part of_specification of_specifier of_virtual of_heading declared_by declarations_of run_of_runs lookup shown_of_scopes encloser searched block_at_of_scopes declaration_from binding entry_of formals_of formal_of result_of source_of denoted type_at line_at level_of block_of block_around standard_name text_attribute sysin_attribute sysout_attribute signature is_real_function is_random_drawing is_file_or_layout is_environment_name undeclared program_events of_statement of_branch of_arm of_block of_whole of_class_body of_declaration block_number slot_of accessible protects is_kind some_around_of some_around base brought_by level_shows shown_of is_detach ends_search outward virtual_of represented standard_at qualified_marks qualified_result connection_at own_attribute transfer_at levels_of levels is_in is_of has_procedure belongs class_at qualification stream_of is_variable is_attribute own_result result_meant standard_texts text_constant found_at shows_detach if_found found_in is_passed_over class_formals_of class_formals class_formal some_level_of has_level holds_class has_classes has_standard is_simulation_block is_for_prefixing simulation_level_of class_block is_in_chain on_one_chain shared_level_of shared_class names_hidden protector_of protector hides opens is_open fine wrong no_target targets assigned_to call_assigned target sign_agrees with_left lefts compared assigned precedes found is_connected prefix_of frame_text hidden_in block_in_front class_number putting_back assigning making_text joining put_back back_of_steps is_inside class_prefix_marks prefixed_marks prefix_marks standard_marks marks_of_standard standard_prefix object_ended pop_object qualifying referring first_along is_this this_block this_of with_entry_at putting_reference brings_class provides_attribute brought_marks is_prefixed
prefixed_there zero e = (refl, refl)
prefixed_there (suc zero) e = absurd (cc (e))
prefixed_there (suc (suc zero)) e = absurd (cc (e))
prefixed_there (suc (suc (suc zero))) e = absurd (cc (e))
prefixed_there (suc (suc (suc (suc zero)))) e = absurd (cc (e))
prefixed_there (suc (suc (suc (suc (suc k))))) e = absurd (cc (e))

no_process : (k : ℕ) → text own_set k ≡ Some (StandardText standard.Process) → ⊥
unfolding is_process_itself own_match by_name is_placed digits element_place making_array copying_array keeping_array finding_element giving_back handed_over stopping no_rule ticking taking entering having when computing choosing popping pop_many pop_plain pop_truth pop_integers pop_operands pop_text answering applying_one applying_two testing_step performing at_level kept_on pushing index level_of_machine cell_at jumping block_at own_block leaving with_result putting is_text home_of first_cells leaving_of_meaning constants_of text_constants putting_of_steps text is_class_free declared_at constant_of calculate compare compare_as_texts connect same_objects same_texts two_of one_of step_test take_integer take_character take_text take_nothing row_of standard_effect default_mode mode_allowed marked type_named result_named mode_named first_of_procedure first_of_class variable_marks array_marks parameter_marks moded_marks specified_marks headed_marks procedure_marks class_marks virtual_name_marks program_marks inner_marks declaring of_segment of_mode_part of_specification of_specifier of_virtual of_heading declared_by declarations_of run_of_runs lookup shown_of_scopes encloser searched block_at_of_scopes declaration_from binding entry_of formals_of formal_of result_of source_of denoted type_at line_at level_of block_of block_around standard_name text_attribute sysin_attribute sysout_attribute signature is_real_function is_random_drawing is_file_or_layout is_environment_name undeclared program_events of_statement of_branch of_arm of_block of_whole of_class_body of_declaration block_number slot_of accessible protects is_kind some_around_of some_around base brought_by level_shows shown_of is_detach ends_search outward virtual_of represented standard_at qualified_marks qualified_result connection_at own_attribute transfer_at levels_of levels is_in is_of has_procedure belongs class_at qualification stream_of is_variable is_attribute own_result result_meant standard_texts text_constant found_at shows_detach if_found found_in is_passed_over class_formals_of class_formals class_formal some_level_of has_level holds_class has_classes has_standard is_simulation_block is_for_prefixing simulation_level_of class_block is_in_chain on_one_chain shared_level_of shared_class names_hidden protector_of protector hides opens is_open fine wrong no_target targets assigned_to call_assigned target sign_agrees with_left lefts compared assigned precedes found is_connected prefix_of frame_text hidden_in block_in_front class_number putting_back assigning making_text joining put_back back_of_steps is_inside class_prefix_marks prefixed_marks prefix_marks standard_marks marks_of_standard standard_prefix object_ended pop_object qualifying referring first_along is_this this_block this_of with_entry_at putting_reference brings_class provides_attribute brought_marks
no_process zero e = cc (e)
no_process (suc zero) e = cc (e)
no_process (suc (suc zero)) e = cc (e)
no_process (suc (suc (suc zero))) e = cc (e)
no_process (suc (suc (suc (suc zero)))) e = cc (e)
no_process (suc (suc (suc (suc (suc k))))) e = cc (e)

program_plain : (which : StandardClass) → text own_set 0 ≡ Some (StandardText which) → ⊥
unfolding is_process_itself own_match by_name is_placed digits element_place making_array copying_array keeping_array finding_element giving_back handed_over stopping no_rule ticking taking entering having when computing choosing popping pop_many pop_plain pop_truth pop_integers pop_operands pop_text answering applying_one applying_two testing_step performing at_level kept_on pushing index level_of_machine cell_at jumping block_at own_block leaving with_result putting is_text home_of first_cells leaving_of_meaning constants_of text_constants putting_of_steps text is_class_free declared_at constant_of calculate compare compare_as_texts connect same_objects same_texts two_of one_of step_test take_integer take_character take_text take_nothing row_of standard_effect default_mode mode_allowed marked type_named result_named mode_named first_of_procedure first_of_class variable_marks array_marks parameter_marks moded_marks specified_marks headed_marks procedure_marks class_marks virtual_name_marks program_marks inner_marks declaring of_segment of_mode_part of_specification of_specifier of_virtual of_heading declared_by declarations_of run_of_runs lookup shown_of_scopes encloser searched block_at_of_scopes declaration_from binding entry_of formals_of formal_of result_of source_of denoted type_at line_at level_of block_of block_around standard_name text_attribute sysin_attribute sysout_attribute signature is_real_function is_random_drawing is_file_or_layout is_environment_name undeclared program_events of_statement of_branch of_arm of_block of_whole of_class_body of_declaration block_number slot_of accessible protects is_kind some_around_of some_around base brought_by level_shows shown_of is_detach ends_search outward virtual_of represented standard_at qualified_marks qualified_result connection_at own_attribute transfer_at levels_of levels is_in is_of has_procedure belongs class_at qualification stream_of is_variable is_attribute own_result result_meant standard_texts text_constant found_at shows_detach if_found found_in is_passed_over class_formals_of class_formals class_formal some_level_of has_level holds_class has_classes has_standard is_simulation_block is_for_prefixing simulation_level_of class_block is_in_chain on_one_chain shared_level_of shared_class names_hidden protector_of protector hides opens is_open fine wrong no_target targets assigned_to call_assigned target sign_agrees with_left lefts compared assigned precedes found is_connected prefix_of frame_text hidden_in block_in_front class_number putting_back assigning making_text joining put_back back_of_steps is_inside class_prefix_marks prefixed_marks prefix_marks standard_marks marks_of_standard standard_prefix object_ended pop_object qualifying referring first_along is_this this_block this_of with_entry_at putting_reference brings_class provides_attribute brought_marks
program_plain which e = cc (e)

only_program : (k : ℕ) → is_prefixed own_set.tables (suc k) ≡ true → ⊥
unfolding is_process_itself own_match by_name is_placed digits element_place making_array copying_array keeping_array finding_element giving_back handed_over stopping no_rule ticking taking entering having when computing choosing popping pop_many pop_plain pop_truth pop_integers pop_operands pop_text answering applying_one applying_two testing_step performing at_level kept_on pushing index level_of_machine cell_at jumping block_at own_block leaving with_result putting is_text home_of first_cells leaving_of_meaning constants_of text_constants putting_of_steps text is_class_free declared_at constant_of calculate compare compare_as_texts connect same_objects same_texts two_of one_of step_test take_integer take_character take_text take_nothing row_of standard_effect default_mode mode_allowed marked type_named result_named mode_named first_of_procedure first_of_class variable_marks array_marks parameter_marks moded_marks specified_marks headed_marks procedure_marks class_marks virtual_name_marks program_marks inner_marks declaring of_segment of_mode_part of_specification of_specifier of_virtual of_heading declared_by declarations_of run_of_runs lookup shown_of_scopes encloser searched block_at_of_scopes declaration_from binding entry_of formals_of formal_of result_of source_of denoted type_at line_at level_of block_of block_around standard_name text_attribute sysin_attribute sysout_attribute signature is_real_function is_random_drawing is_file_or_layout is_environment_name undeclared program_events of_statement of_branch of_arm of_block of_whole of_class_body of_declaration block_number slot_of accessible protects is_kind some_around_of some_around base brought_by level_shows shown_of is_detach ends_search outward virtual_of represented standard_at qualified_marks qualified_result connection_at own_attribute transfer_at levels_of levels is_in is_of has_procedure belongs class_at qualification stream_of is_variable is_attribute own_result result_meant standard_texts text_constant found_at shows_detach if_found found_in is_passed_over class_formals_of class_formals class_formal some_level_of has_level holds_class has_classes has_standard is_simulation_block is_for_prefixing simulation_level_of class_block is_in_chain on_one_chain shared_level_of shared_class names_hidden protector_of protector hides opens is_open fine wrong no_target targets assigned_to call_assigned target sign_agrees with_left lefts compared assigned precedes found is_connected prefix_of frame_text hidden_in block_in_front class_number putting_back assigning making_text joining put_back back_of_steps is_inside class_prefix_marks prefixed_marks prefix_marks standard_marks marks_of_standard standard_prefix object_ended pop_object qualifying referring first_along is_this this_block this_of with_entry_at putting_reference brings_class provides_attribute brought_marks is_prefixed
only_program zero e = cc (e)
only_program (suc zero) e = cc (e)
only_program (suc (suc zero)) e = cc (e)
only_program (suc (suc (suc zero))) e = cc (e)
only_program (suc (suc (suc (suc k)))) e = cc (e)

blocks_plain : (k u : ℕ) (which : StandardClass) → is_prefixed own_set.tables k ≡ true → LevelOf own_set.tables k u → text own_set u ≡ Some (StandardText which) → ⊥
blocks_plain zero _ which p innermost e = program_plain which e
blocks_plain zero u which p (beyond {u = front} f more) e = not_some (prefix_of own_set.tables 0) front no_prefix f
blocks_plain (suc k) u which p level e = only_program k p

no_virtuals : any_virtual own_set.tables.declarations ≡ false
unfolding is_process_itself own_match by_name is_placed digits element_place making_array copying_array keeping_array finding_element giving_back handed_over stopping no_rule ticking taking entering having when computing choosing popping pop_many pop_plain pop_truth pop_integers pop_operands pop_text answering applying_one applying_two testing_step performing at_level kept_on pushing index level_of_machine cell_at jumping block_at own_block leaving with_result putting is_text home_of first_cells leaving_of_meaning constants_of text_constants putting_of_steps text is_class_free declared_at constant_of calculate compare compare_as_texts connect same_objects same_texts two_of one_of step_test take_integer take_character take_text take_nothing row_of standard_effect default_mode mode_allowed marked type_named result_named mode_named first_of_procedure first_of_class variable_marks array_marks parameter_marks moded_marks specified_marks headed_marks procedure_marks class_marks virtual_name_marks program_marks inner_marks declaring of_segment of_mode_part of_specification of_specifier of_virtual of_heading declared_by declarations_of run_of_runs lookup shown_of_scopes encloser searched block_at_of_scopes declaration_from binding entry_of formals_of formal_of result_of source_of denoted type_at line_at level_of block_of block_around standard_name text_attribute sysin_attribute sysout_attribute signature is_real_function is_random_drawing is_file_or_layout is_environment_name undeclared program_events of_statement of_branch of_arm of_block of_whole of_class_body of_declaration block_number slot_of accessible protects is_kind some_around_of some_around base brought_by level_shows shown_of is_detach ends_search outward virtual_of represented standard_at qualified_marks qualified_result connection_at own_attribute transfer_at levels_of levels is_in is_of has_procedure belongs class_at qualification stream_of is_variable is_attribute own_result result_meant standard_texts text_constant found_at shows_detach if_found found_in is_passed_over class_formals_of class_formals class_formal some_level_of has_level holds_class has_classes has_standard is_simulation_block is_for_prefixing simulation_level_of class_block is_in_chain on_one_chain shared_level_of shared_class names_hidden protector_of protector hides opens is_open fine wrong no_target targets assigned_to call_assigned target sign_agrees with_left lefts compared assigned precedes found is_connected prefix_of frame_text hidden_in block_in_front class_number putting_back assigning making_text joining put_back back_of_steps is_inside class_prefix_marks prefixed_marks prefix_marks standard_marks marks_of_standard standard_prefix object_ended pop_object qualifying referring first_along is_this this_block this_of with_entry_at putting_reference brings_class provides_attribute brought_marks
no_virtuals = refl

agree : Agrees own_set
unfolding is_process_itself own_match by_name is_placed digits element_place making_array copying_array keeping_array finding_element giving_back handed_over stopping no_rule ticking taking entering having when computing choosing popping pop_many pop_plain pop_truth pop_integers pop_operands pop_text answering applying_one applying_two testing_step performing at_level kept_on pushing index level_of_machine cell_at jumping block_at own_block leaving with_result putting is_text home_of first_cells leaving_of_meaning constants_of text_constants putting_of_steps text is_class_free declared_at constant_of calculate compare compare_as_texts connect same_objects same_texts two_of one_of step_test take_integer take_character take_text take_nothing row_of standard_effect default_mode mode_allowed marked type_named result_named mode_named first_of_procedure first_of_class variable_marks array_marks parameter_marks moded_marks specified_marks headed_marks procedure_marks class_marks virtual_name_marks program_marks inner_marks declaring of_segment of_mode_part of_specification of_specifier of_virtual of_heading declared_by declarations_of run_of_runs lookup shown_of_scopes encloser searched block_at_of_scopes declaration_from binding entry_of formals_of formal_of result_of source_of denoted type_at line_at level_of block_of block_around standard_name text_attribute sysin_attribute sysout_attribute signature is_real_function is_random_drawing is_file_or_layout is_environment_name undeclared program_events of_statement of_branch of_arm of_block of_whole of_class_body of_declaration block_number slot_of accessible protects is_kind some_around_of some_around base brought_by level_shows shown_of is_detach ends_search outward virtual_of represented standard_at qualified_marks qualified_result connection_at own_attribute transfer_at levels_of levels is_in is_of has_procedure belongs class_at qualification stream_of is_variable is_attribute own_result result_meant standard_texts text_constant found_at shows_detach if_found found_in is_passed_over class_formals_of class_formals class_formal some_level_of has_level holds_class has_classes has_standard is_simulation_block is_for_prefixing simulation_level_of class_block is_in_chain on_one_chain shared_level_of shared_class names_hidden protector_of protector hides opens is_open fine wrong no_target targets assigned_to call_assigned target sign_agrees with_left lefts compared assigned precedes found is_connected prefix_of frame_text hidden_in block_in_front class_number putting_back assigning making_text joining put_back back_of_steps is_inside class_prefix_marks prefixed_marks prefix_marks standard_marks marks_of_standard standard_prefix object_ended pop_object qualifying referring first_along is_this this_block this_of with_entry_at putting_reference brings_class provides_attribute brought_marks
agree = record {
  outermost = refl;
  as_many = refl;
  connected = λ k. none_connected k ∙ sym (no_connection k);
  nesting = nested;
  levels = λ t u e c. levels_agree t u e;
  same_level = λ t u e c. absurd (not_both (is_connected own_set.tables t) c (none_connected t));
  begun = λ k c. absurd (not_both (is_connected own_set.tables k) c (none_connected k));
  prefixes = prefixes_there;
  prefixed = prefixed_there;
  ends = levels_end;
  owned = λ k n d e. all_at (λ d. block_of own_set d ≡ k) (numbers_of own_set k) (owners k) n d e;
  once = λ k n m d e h. once_at (numbers_of own_set k) (listed_once k) n m d e h;
  formals = λ k n d e. all_at (λ d. (x : Formal) × (entry_of own_set.tables d ≡ Some (entry.Formal x))) (formals_in (slice_get own_set.tables.blocks k)) (formal_rows k) n d e;
  classes = λ d k e. classes_there d.0 k e;
  procedures = λ d result k e. absurd (no_procedure d.0 result k e);
  processes = λ k e. absurd (no_process k e);
  blocks = blocks_plain;
  standards = λ j k which e f level. absurd (no_process k f);
  matches = λ v k text is levels e. absurd (no_virtual own_set no_virtuals v is);
}

pub own_set_compiled : Compiled own_set own_set_code
unfolding is_process_itself own_match by_name is_placed digits element_place making_array copying_array keeping_array finding_element giving_back handed_over stopping no_rule ticking taking entering having when computing choosing popping pop_many pop_plain pop_truth pop_integers pop_operands pop_text answering applying_one applying_two testing_step performing at_level kept_on pushing index level_of_machine cell_at jumping block_at own_block leaving with_result putting is_text home_of first_cells leaving_of_meaning constants_of text_constants putting_of_steps text is_class_free declared_at constant_of calculate compare compare_as_texts connect same_objects same_texts two_of one_of step_test take_integer take_character take_text take_nothing row_of standard_effect default_mode mode_allowed marked type_named result_named mode_named first_of_procedure first_of_class variable_marks array_marks parameter_marks moded_marks specified_marks headed_marks procedure_marks class_marks virtual_name_marks program_marks inner_marks declaring of_segment of_mode_part of_specification of_specifier of_virtual of_heading declared_by declarations_of run_of_runs lookup shown_of_scopes encloser searched block_at_of_scopes declaration_from binding entry_of formals_of formal_of result_of source_of denoted type_at line_at level_of block_of block_around standard_name text_attribute sysin_attribute sysout_attribute signature is_real_function is_random_drawing is_file_or_layout is_environment_name undeclared program_events of_statement of_branch of_arm of_block of_whole of_class_body of_declaration block_number slot_of accessible protects is_kind some_around_of some_around base brought_by level_shows shown_of is_detach ends_search outward virtual_of represented standard_at qualified_marks qualified_result connection_at own_attribute transfer_at levels_of levels is_in is_of has_procedure belongs class_at qualification stream_of is_variable is_attribute own_result result_meant standard_texts text_constant found_at shows_detach if_found found_in is_passed_over class_formals_of class_formals class_formal some_level_of has_level holds_class has_classes has_standard is_simulation_block is_for_prefixing simulation_level_of class_block is_in_chain on_one_chain shared_level_of shared_class names_hidden protector_of protector hides opens is_open fine wrong no_target targets assigned_to call_assigned target sign_agrees with_left lefts compared assigned precedes found is_connected prefix_of frame_text hidden_in block_in_front class_number putting_back assigning making_text joining put_back back_of_steps is_inside class_prefix_marks prefixed_marks prefix_marks standard_marks marks_of_standard standard_prefix object_ended pop_object qualifying referring first_along is_this this_block this_of with_entry_at putting_reference brings_class provides_attribute brought_marks
own_set_compiled = record { agrees = agree; texts = refl; each = λ k x e. subst (Has k) e (each_stands k); matches = λ k x levels e. none_matched own_set own_set_code no_virtuals refl k x e; as_many = refl }

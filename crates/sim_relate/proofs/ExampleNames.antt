-- The code of a program that hands a parameter by name on stands for it.
use Rattle.std.proofs.Common.{true, length, ◌≡◌, ◌<◌, ◌≤◌, ℕ, zero, suc, [], Option, Some, None, refl, ap, ◌∙◌, subst, arith, false, sym}
use Rattle.std.specs.Prelude.{pos, slice_get}
use Rattle.sim_scope.specs.declared.types.StandardClass.{StandardClass}
use Rattle.sim_scope.specs.declared.types.StandardClass.TheVariants as standard
use Rattle.sim_scope.specs.declared.types.SimType.{SimType}
use Rattle.sim_meaning.specs.Texts.{Text, text, is_class_free, declared_at, constant_of, standard_texts, StandardText}
use Rattle.codegen_expr.specs.Sites.{Inside, Site, block_number, further, itself, slot_of, is_connected, prefix_of, frame_text, hidden_in, block_in_front, class_number}
use Rattle.codegen.specs.Agrees.{Agrees, Ends, ProcedureThere, is_prefixed, last as one_level}
use Rattle.codegen.specs.Compiled.{CodeHas, Compiled}
use Rattle.sim_relate.proofs.Placed.{ahead, ins, push}
use Rattle.std.specs.Fmt.{digits}
use Rattle.sim_code.specs.Arrays.{element_place, making_array, copying_array, keeping_array, finding_element, giving_back, handed_over}
use Rattle.sim_code.specs.Events.{stopping, no_rule, ticking, taking, entering, having, when, computing, choosing, popping, pop_many, pop_plain, pop_truth, pop_integers, pop_operands, pop_text, answering, applying_one, applying_two, testing_step, performing, putting_back, assigning, making_text, joining, pop_object, qualifying, referring}
use Rattle.sim_code.specs.Instances.{at_level, kept_on, object_ended}
use Rattle.sim_code.specs.Machine.{pushing, index, level as level_of_machine, cell_at, jumping, block_at, own_block, leaving, with_result}
use Rattle.sim_code.specs.Rows.{putting, put_back}
use Rattle.sim_meaning.specs.Closing.{is_text, home_of, stream_of, is_variable, is_attribute, own_result, result_meant, own_match, by_name, is_placed}
use Rattle.sim_meaning.specs.Entries.{first_cells, numbers_of}
use Rattle.sim_meaning.specs.Meaning.{leaving as leaving_of_meaning}
use Rattle.sim_meaning.specs.Constants.{constants_of, text_constants, text_constant}
use Rattle.sim_meaning.specs.Steps.{putting as putting_of_steps, put_back as back_of_steps}
use Rattle.sim_values.specs.Operators.{calculate, compare, compare_as_texts, connect, same_objects, same_texts, two_of, one_of, step_test}
use Rattle.sim_values.specs.Standard.{take_integer, take_character, take_text, take_nothing, row_of, standard_effect}
use Rattle.sim_scope.specs.Building.{default_mode, mode_allowed, marked}
use Rattle.sim_scope.specs.Declare.{brings_class, brought_marks, provides_attribute, type_named, result_named, mode_named, first_of_procedure, first_of_class, variable_marks, array_marks, parameter_marks, moded_marks, specified_marks, headed_marks, procedure_marks, class_marks, virtual_name_marks, program_marks, inner_marks, declaring, of_segment, of_mode_part, of_specification, of_specifier, of_virtual, of_heading, declared_by, declarations_of, qualified_marks, qualified_result, class_prefix_marks, prefixed_marks, prefix_marks, standard_marks, marks_of_standard}
use Rattle.sim_scope.specs.Runs.{run as run_of_runs}
use Rattle.sim_scope.specs.Access.{encloser, block_at as block_at_of_scopes, accessible, protects, is_kind, some_around_of, some_around, names_hidden, protector_of, protector, hides, opens, is_open}
use Rattle.sim_scope.specs.Levels.{base, some_level_of, has_level, holds_class, has_classes, has_standard, is_simulation_block, is_for_prefixing, simulation_level_of, class_block, is_in_chain, on_one_chain, shared_level_of, shared_class}
use Rattle.sim_scope.specs.Scopes.{lookup, shown as shown_of_scopes, searched, declaration_from, binding, entry_of, formals_of, formal_of, result_of, brought_by, level_shows, shown_of, is_detach, ends_search, outward, virtual_of, represented, standard_at, shows_detach, if_found, found_in, is_passed_over, class_formals_of, class_formals, class_formal, formals_in}
use Rattle.sim_scope.specs.Source.{source_of, denoted, type_at, line_at, level_of, block_of, block_around, found_at}
use Rattle.sim_scope.specs.Standard.{standard_name, text_attribute, sysin_attribute, sysout_attribute, signature, is_real_function, is_random_drawing, is_file_or_layout, is_environment_name, undeclared, standard_prefix}
use Rattle.sim_scope.specs.Walk.{program_events, of_statement, of_branch, of_arm, of_block, of_whole, of_class_body, of_declaration}
use Rattle.sim_meaning.specs.Attributes.{connection_at, is_connection, own_attribute, transfer_at}
use Rattle.sim_meaning.specs.Levels.{has_levels, is_class, levels_of, levels, is_in, is_of, has_procedure, belongs, class_at, qualification, is_process_text, is_process_itself}
use Rattle.sim_scope.specs.Assignments.{fine, wrong, no_target, targets, assigned_to, call_assigned, target, sign_agrees, with_left, lefts, compared, assigned}
use Rattle.sim_scope.specs.Found.{precedes, found}
use Rattle.sim_relate.proofs.ExampleTables.{all_at, all_of, apart, not_both, not_some, once_at, any_virtual, no_virtual, none_matched}
use Rattle.sim_scope.specs.declared.types.Formal.{Formal}
use Rattle.sim_scope.specs.Calls.{is_inside}
use Rattle.sim_scope.specs.Along.{first_along}
use Rattle.sim_scope.specs.References.{is_this, this_block, this_of}
use Rattle.sim_scope.specs.Tables.{with_entry_at}
use Rattle.sim_meaning.specs.Objects.{putting_reference}
use Rattle.sim_relate.specs.Examples.{handed_on_code}
use Rattle.sim_scope.specs.declared.types.Entry.{Entry}
use Rattle.sim_scope.specs.declared.types.Entry.TheVariants as entry
use Rattle.sim_code.specs.declared.instr.Instr.TheVariants as i
use Rattle.sim_meaning.specs.NameExamples.{handed_on}
use Rattle.sim_scope.specs.declared.types.SimType.{SimType}

-- the sites of the program, and of the procedures
abbrev outer : Site
outer = record { text = 0; room = 6; temps = 1; used = 4; size = 1; thunk = None }

abbrev shows : Site
shows = record { text = 1; room = 6; temps = 1; used = 4; size = 1; thunk = None }

abbrev throughs : Site
throughs = record { text = 2; room = 6; temps = 1; used = 4; size = 1; thunk = None }

lt_0_1 : 0 < 1
lt_0_1 = omega arith

le_0_6 : 0 ≤ 6
le_0_6 = omega arith

lt_0_6 : 0 < 6
lt_0_6 = omega arith

lt_1_6 : 1 < 6
lt_1_6 = omega arith

lt_1_42 : 1 < 42
lt_1_42 = omega arith

lt_2_6 : 2 < 6
lt_2_6 = omega arith

lt_6_42 : 6 < 42
lt_6_42 = omega arith

lt_15_18 : 15 < 18
lt_15_18 = omega arith

lt_18_42 : 18 < 42
lt_18_42 = omega arith

lt_22_42 : 22 < 42
lt_22_42 = omega arith

lt_27_30 : 27 < 30
lt_27_30 = omega arith

lt_30_42 : 30 < 42
lt_30_42 = omega arith

lt_34_39 : 34 < 39
lt_34_39 = omega arith

lt_39_42 : 39 < 42
lt_39_42 = omega arith

lt_0_2 : 0 < 2
lt_0_2 = omega arith

abbrev Has : ℕ → Option Text → Type 0
Has k None = Unit {0}
Has k (Some x) = CodeHas handed_on handed_on_code k x (slice_get handed_on_code.blocks (block_number handed_on k))

around_one : encloser handed_on.tables 1 ≡ Some 0
unfolding is_process_itself own_match by_name is_placed digits element_place making_array copying_array keeping_array finding_element giving_back handed_over stopping no_rule ticking taking entering having when computing choosing popping pop_many pop_plain pop_truth pop_integers pop_operands pop_text answering applying_one applying_two testing_step performing at_level kept_on pushing index level_of_machine cell_at jumping block_at own_block leaving with_result putting is_text home_of first_cells leaving_of_meaning constants_of text_constants putting_of_steps text is_class_free declared_at constant_of calculate compare compare_as_texts connect same_objects same_texts two_of one_of step_test take_integer take_character take_text take_nothing row_of standard_effect default_mode mode_allowed marked type_named result_named mode_named first_of_procedure first_of_class variable_marks array_marks parameter_marks moded_marks specified_marks headed_marks procedure_marks class_marks virtual_name_marks program_marks inner_marks declaring of_segment of_mode_part of_specification of_specifier of_virtual of_heading declared_by declarations_of run_of_runs lookup shown_of_scopes encloser searched block_at_of_scopes declaration_from binding entry_of formals_of formal_of result_of source_of denoted type_at line_at level_of block_of block_around standard_name text_attribute sysin_attribute sysout_attribute signature is_real_function is_random_drawing is_file_or_layout is_environment_name undeclared program_events of_statement of_branch of_arm of_block of_whole of_class_body of_declaration block_number slot_of accessible protects is_kind some_around_of some_around base brought_by level_shows shown_of is_detach ends_search outward virtual_of represented standard_at qualified_marks qualified_result connection_at own_attribute transfer_at levels_of levels is_in is_of has_procedure belongs class_at qualification stream_of is_variable is_attribute own_result result_meant standard_texts text_constant found_at shows_detach if_found found_in is_passed_over class_formals_of class_formals class_formal some_level_of has_level holds_class has_classes has_standard is_simulation_block is_for_prefixing simulation_level_of class_block is_in_chain on_one_chain shared_level_of shared_class names_hidden protector_of protector hides opens is_open fine wrong no_target targets assigned_to call_assigned target sign_agrees with_left lefts compared assigned precedes found is_connected prefix_of frame_text hidden_in block_in_front class_number putting_back assigning making_text joining put_back back_of_steps is_inside class_prefix_marks prefixed_marks prefix_marks standard_marks marks_of_standard standard_prefix object_ended pop_object qualifying referring first_along is_this this_block this_of with_entry_at putting_reference brings_class provides_attribute brought_marks is_process_text
around_one = refl

levels_one : level_of handed_on 1 ≡ suc (level_of handed_on 0)
unfolding is_process_itself own_match by_name is_placed digits element_place making_array copying_array keeping_array finding_element giving_back handed_over stopping no_rule ticking taking entering having when computing choosing popping pop_many pop_plain pop_truth pop_integers pop_operands pop_text answering applying_one applying_two testing_step performing at_level kept_on pushing index level_of_machine cell_at jumping block_at own_block leaving with_result putting is_text home_of first_cells leaving_of_meaning constants_of text_constants putting_of_steps text is_class_free declared_at constant_of calculate compare compare_as_texts connect same_objects same_texts two_of one_of step_test take_integer take_character take_text take_nothing row_of standard_effect default_mode mode_allowed marked type_named result_named mode_named first_of_procedure first_of_class variable_marks array_marks parameter_marks moded_marks specified_marks headed_marks procedure_marks class_marks virtual_name_marks program_marks inner_marks declaring of_segment of_mode_part of_specification of_specifier of_virtual of_heading declared_by declarations_of run_of_runs lookup shown_of_scopes encloser searched block_at_of_scopes declaration_from binding entry_of formals_of formal_of result_of source_of denoted type_at line_at level_of block_of block_around standard_name text_attribute sysin_attribute sysout_attribute signature is_real_function is_random_drawing is_file_or_layout is_environment_name undeclared program_events of_statement of_branch of_arm of_block of_whole of_class_body of_declaration block_number slot_of accessible protects is_kind some_around_of some_around base brought_by level_shows shown_of is_detach ends_search outward virtual_of represented standard_at qualified_marks qualified_result connection_at own_attribute transfer_at levels_of levels is_in is_of has_procedure belongs class_at qualification stream_of is_variable is_attribute own_result result_meant standard_texts text_constant found_at shows_detach if_found found_in is_passed_over class_formals_of class_formals class_formal some_level_of has_level holds_class has_classes has_standard is_simulation_block is_for_prefixing simulation_level_of class_block is_in_chain on_one_chain shared_level_of shared_class names_hidden protector_of protector hides opens is_open fine wrong no_target targets assigned_to call_assigned target sign_agrees with_left lefts compared assigned precedes found is_connected prefix_of frame_text hidden_in block_in_front class_number putting_back assigning making_text joining put_back back_of_steps is_inside class_prefix_marks prefixed_marks prefix_marks standard_marks marks_of_standard standard_prefix object_ended pop_object qualifying referring first_along is_this this_block this_of with_entry_at putting_reference brings_class provides_attribute brought_marks is_process_text
levels_one = refl

around_two : encloser handed_on.tables 2 ≡ Some 0
unfolding is_process_itself own_match by_name is_placed digits element_place making_array copying_array keeping_array finding_element giving_back handed_over stopping no_rule ticking taking entering having when computing choosing popping pop_many pop_plain pop_truth pop_integers pop_operands pop_text answering applying_one applying_two testing_step performing at_level kept_on pushing index level_of_machine cell_at jumping block_at own_block leaving with_result putting is_text home_of first_cells leaving_of_meaning constants_of text_constants putting_of_steps text is_class_free declared_at constant_of calculate compare compare_as_texts connect same_objects same_texts two_of one_of step_test take_integer take_character take_text take_nothing row_of standard_effect default_mode mode_allowed marked type_named result_named mode_named first_of_procedure first_of_class variable_marks array_marks parameter_marks moded_marks specified_marks headed_marks procedure_marks class_marks virtual_name_marks program_marks inner_marks declaring of_segment of_mode_part of_specification of_specifier of_virtual of_heading declared_by declarations_of run_of_runs lookup shown_of_scopes encloser searched block_at_of_scopes declaration_from binding entry_of formals_of formal_of result_of source_of denoted type_at line_at level_of block_of block_around standard_name text_attribute sysin_attribute sysout_attribute signature is_real_function is_random_drawing is_file_or_layout is_environment_name undeclared program_events of_statement of_branch of_arm of_block of_whole of_class_body of_declaration block_number slot_of accessible protects is_kind some_around_of some_around base brought_by level_shows shown_of is_detach ends_search outward virtual_of represented standard_at qualified_marks qualified_result connection_at own_attribute transfer_at levels_of levels is_in is_of has_procedure belongs class_at qualification stream_of is_variable is_attribute own_result result_meant standard_texts text_constant found_at shows_detach if_found found_in is_passed_over class_formals_of class_formals class_formal some_level_of has_level holds_class has_classes has_standard is_simulation_block is_for_prefixing simulation_level_of class_block is_in_chain on_one_chain shared_level_of shared_class names_hidden protector_of protector hides opens is_open fine wrong no_target targets assigned_to call_assigned target sign_agrees with_left lefts compared assigned precedes found is_connected prefix_of frame_text hidden_in block_in_front class_number putting_back assigning making_text joining put_back back_of_steps is_inside class_prefix_marks prefixed_marks prefix_marks standard_marks marks_of_standard standard_prefix object_ended pop_object qualifying referring first_along is_this this_block this_of with_entry_at putting_reference brings_class provides_attribute brought_marks is_process_text
around_two = refl

levels_two : level_of handed_on 2 ≡ suc (level_of handed_on 0)
unfolding is_process_itself own_match by_name is_placed digits element_place making_array copying_array keeping_array finding_element giving_back handed_over stopping no_rule ticking taking entering having when computing choosing popping pop_many pop_plain pop_truth pop_integers pop_operands pop_text answering applying_one applying_two testing_step performing at_level kept_on pushing index level_of_machine cell_at jumping block_at own_block leaving with_result putting is_text home_of first_cells leaving_of_meaning constants_of text_constants putting_of_steps text is_class_free declared_at constant_of calculate compare compare_as_texts connect same_objects same_texts two_of one_of step_test take_integer take_character take_text take_nothing row_of standard_effect default_mode mode_allowed marked type_named result_named mode_named first_of_procedure first_of_class variable_marks array_marks parameter_marks moded_marks specified_marks headed_marks procedure_marks class_marks virtual_name_marks program_marks inner_marks declaring of_segment of_mode_part of_specification of_specifier of_virtual of_heading declared_by declarations_of run_of_runs lookup shown_of_scopes encloser searched block_at_of_scopes declaration_from binding entry_of formals_of formal_of result_of source_of denoted type_at line_at level_of block_of block_around standard_name text_attribute sysin_attribute sysout_attribute signature is_real_function is_random_drawing is_file_or_layout is_environment_name undeclared program_events of_statement of_branch of_arm of_block of_whole of_class_body of_declaration block_number slot_of accessible protects is_kind some_around_of some_around base brought_by level_shows shown_of is_detach ends_search outward virtual_of represented standard_at qualified_marks qualified_result connection_at own_attribute transfer_at levels_of levels is_in is_of has_procedure belongs class_at qualification stream_of is_variable is_attribute own_result result_meant standard_texts text_constant found_at shows_detach if_found found_in is_passed_over class_formals_of class_formals class_formal some_level_of has_level holds_class has_classes has_standard is_simulation_block is_for_prefixing simulation_level_of class_block is_in_chain on_one_chain shared_level_of shared_class names_hidden protector_of protector hides opens is_open fine wrong no_target targets assigned_to call_assigned target sign_agrees with_left lefts compared assigned precedes found is_connected prefix_of frame_text hidden_in block_in_front class_number putting_back assigning making_text joining put_back back_of_steps is_inside class_prefix_marks prefixed_marks prefix_marks standard_marks marks_of_standard standard_prefix object_ended pop_object qualifying referring first_along is_this this_block this_of with_entry_at putting_reference brings_class provides_attribute brought_marks is_process_text
levels_two = refl

inside_two : Inside handed_on.tables 2 0
inside_two = further {t = 2} {u = 0} around_two itself

program_stands : Has 0 (text handed_on 0)
unfolding is_process_itself own_match by_name is_placed digits element_place making_array copying_array keeping_array finding_element giving_back handed_over stopping no_rule ticking taking entering having when computing choosing popping pop_many pop_plain pop_truth pop_integers pop_operands pop_text answering applying_one applying_two testing_step performing at_level kept_on pushing index level_of_machine cell_at jumping block_at own_block leaving with_result putting is_text home_of first_cells leaving_of_meaning constants_of text_constants putting_of_steps text is_class_free declared_at constant_of calculate compare compare_as_texts connect same_objects same_texts two_of one_of step_test take_integer take_character take_text take_nothing row_of standard_effect default_mode mode_allowed marked type_named result_named mode_named first_of_procedure first_of_class variable_marks array_marks parameter_marks moded_marks specified_marks headed_marks procedure_marks class_marks virtual_name_marks program_marks inner_marks declaring of_segment of_mode_part of_specification of_specifier of_virtual of_heading declared_by declarations_of run_of_runs lookup shown_of_scopes encloser searched block_at_of_scopes declaration_from binding entry_of formals_of formal_of result_of source_of denoted type_at line_at level_of block_of block_around standard_name text_attribute sysin_attribute sysout_attribute signature is_real_function is_random_drawing is_file_or_layout is_environment_name undeclared program_events of_statement of_branch of_arm of_block of_whole of_class_body of_declaration block_number slot_of accessible protects is_kind some_around_of some_around base brought_by level_shows shown_of is_detach ends_search outward virtual_of represented standard_at qualified_marks qualified_result connection_at own_attribute transfer_at levels_of levels is_in is_of has_procedure belongs class_at qualification stream_of is_variable is_attribute own_result result_meant standard_texts text_constant found_at shows_detach if_found found_in is_passed_over class_formals_of class_formals class_formal some_level_of has_level holds_class has_classes has_standard is_simulation_block is_for_prefixing simulation_level_of class_block is_in_chain on_one_chain shared_level_of shared_class names_hidden protector_of protector hides opens is_open fine wrong no_target targets assigned_to call_assigned target sign_agrees with_left lefts compared assigned precedes found is_connected prefix_of frame_text hidden_in block_in_front class_number putting_back assigning making_text joining put_back back_of_steps is_inside class_prefix_marks prefixed_marks prefix_marks standard_marks marks_of_standard standard_prefix object_ended pop_object qualifying referring first_along is_this this_block this_of with_entry_at putting_reference brings_class provides_attribute brought_marks is_process_text
program_stands = record { heads = record { is_kind = refl; level = refl; cells = refl; class_free = refl; gives = refl; formals = refl; temps = []; types = refl; counted = refl; roomy = le_0_6 }; start = 22; enter = record { at = refl; on = refl }; body = record { there = lt_22_42; stop = 41; body = (22, refl, (25, (23, ins handed_on_code (i.Tick) 0 22 refl, (itself, lt_0_1, (24, push handed_on_code outer 0 (i.Int (pos 4)) 0 23 lt_0_6 refl, ins handed_on_code (i.Store (pos 1) (pos 0)) 0 24 refl))), (32, (26, 32, ins handed_on_code (i.Tick) 0 25 refl, (refl, record { x = 27; y = 31; link = push handed_on_code outer 0 (i.Link (pos 1)) 0 26 lt_0_6 refl; inside = itself; actuals = (31, record { z = 30; number = 1; past = record { x = 28; y = 29; room = 6; over = ins handed_on_code (i.Jump (pos 30)) 0 27 refl; past = ahead handed_on_code 27 30 lt_27_30 lt_30_42; there = refl; later = λ n e. absurd (cc (e)); given = record { address = push handed_on_code (record outer { thunk = Some 1 }) 0 (i.Addr (pos 1) (pos 0) (pos 0)) 0 28 lt_0_6 refl; inside = itself; within = lt_0_1 }; end = ins handed_on_code (i.EndThunk) 0 29 refl }; thunk = push handed_on_code outer 1 (i.Thunk (pos 1)) 0 30 lt_1_6 refl }, refl); call = record { at = refl; on = refl } }), refl), (41, (33, 41, ins handed_on_code (i.Tick) 0 32 refl, (refl, record { x = 34; y = 40; link = push handed_on_code outer 0 (i.Link (pos 1)) 0 33 lt_0_6 refl; inside = itself; actuals = (40, record { z = 39; number = 2; past = record { x = 35; y = 38; room = 6; over = ins handed_on_code (i.Jump (pos 39)) 0 34 refl; past = ahead handed_on_code 34 39 lt_34_39 lt_39_42; there = refl; later = λ n e. absurd (cc (e)); given = (36, 37, (refl, record { load = push handed_on_code (record outer { thunk = Some 2 }) 0 (i.Load (pos 1) (pos 0)) 0 35 lt_0_6 refl; inside = itself; within = lt_0_1 }), push handed_on_code (record outer { thunk = Some 2 }) 1 (i.Int (pos 1)) 0 36 lt_1_6 refl, record { at = refl; on = refl }); end = ins handed_on_code (i.EndThunk) 0 38 refl }; thunk = push handed_on_code outer 1 (i.Thunk (pos 2)) 0 39 lt_1_6 refl }, refl); call = record { at = refl; on = refl } }), refl), refl)))); last = 42; ends = ins handed_on_code (i.EndLevel (pos 0)) 0 41 refl } }

show_stands : Has 1 (text handed_on 1)
unfolding is_process_itself own_match by_name is_placed digits element_place making_array copying_array keeping_array finding_element giving_back handed_over stopping no_rule ticking taking entering having when computing choosing popping pop_many pop_plain pop_truth pop_integers pop_operands pop_text answering applying_one applying_two testing_step performing at_level kept_on pushing index level_of_machine cell_at jumping block_at own_block leaving with_result putting is_text home_of first_cells leaving_of_meaning constants_of text_constants putting_of_steps text is_class_free declared_at constant_of calculate compare compare_as_texts connect same_objects same_texts two_of one_of step_test take_integer take_character take_text take_nothing row_of standard_effect default_mode mode_allowed marked type_named result_named mode_named first_of_procedure first_of_class variable_marks array_marks parameter_marks moded_marks specified_marks headed_marks procedure_marks class_marks virtual_name_marks program_marks inner_marks declaring of_segment of_mode_part of_specification of_specifier of_virtual of_heading declared_by declarations_of run_of_runs lookup shown_of_scopes encloser searched block_at_of_scopes declaration_from binding entry_of formals_of formal_of result_of source_of denoted type_at line_at level_of block_of block_around standard_name text_attribute sysin_attribute sysout_attribute signature is_real_function is_random_drawing is_file_or_layout is_environment_name undeclared program_events of_statement of_branch of_arm of_block of_whole of_class_body of_declaration block_number slot_of accessible protects is_kind some_around_of some_around base brought_by level_shows shown_of is_detach ends_search outward virtual_of represented standard_at qualified_marks qualified_result connection_at own_attribute transfer_at levels_of levels is_in is_of has_procedure belongs class_at qualification stream_of is_variable is_attribute own_result result_meant standard_texts text_constant found_at shows_detach if_found found_in is_passed_over class_formals_of class_formals class_formal some_level_of has_level holds_class has_classes has_standard is_simulation_block is_for_prefixing simulation_level_of class_block is_in_chain on_one_chain shared_level_of shared_class names_hidden protector_of protector hides opens is_open fine wrong no_target targets assigned_to call_assigned target sign_agrees with_left lefts compared assigned precedes found is_connected prefix_of frame_text hidden_in block_in_front class_number putting_back assigning making_text joining put_back back_of_steps is_inside class_prefix_marks prefixed_marks prefix_marks standard_marks marks_of_standard standard_prefix object_ended pop_object qualifying referring first_along is_this this_block this_of with_entry_at putting_reference brings_class provides_attribute brought_marks is_process_text
show_stands = record { heads = record { is_kind = refl; level = refl; cells = refl; class_free = refl; gives = refl; formals = refl; temps = []; types = refl; counted = refl; roomy = le_0_6 }; body = record { there = lt_1_42; stop = 5; body = (2, 5, ins handed_on_code (i.Tick) 0 1 refl, (refl, (4, (3, (refl, record { use_is = record { at = refl; on = refl }; fits = lt_0_6; inside = itself; within = lt_0_1 }), (4, push handed_on_code shows 1 (i.Int (pos 3)) 0 3 lt_1_6 refl, refl)), record { as_many = refl; number = 40; numbered = refl; is = record { at = refl; on = refl }; fits = λ e. absurd (cc) })), refl); last = 6; ends = ins handed_on_code (i.Return) 0 5 refl } }

through_stands : Has 2 (text handed_on 2)
unfolding is_process_itself own_match by_name is_placed digits element_place making_array copying_array keeping_array finding_element giving_back handed_over stopping no_rule ticking taking entering having when computing choosing popping pop_many pop_plain pop_truth pop_integers pop_operands pop_text answering applying_one applying_two testing_step performing at_level kept_on pushing index level_of_machine cell_at jumping block_at own_block leaving with_result putting is_text home_of first_cells leaving_of_meaning constants_of text_constants putting_of_steps text is_class_free declared_at constant_of calculate compare compare_as_texts connect same_objects same_texts two_of one_of step_test take_integer take_character take_text take_nothing row_of standard_effect default_mode mode_allowed marked type_named result_named mode_named first_of_procedure first_of_class variable_marks array_marks parameter_marks moded_marks specified_marks headed_marks procedure_marks class_marks virtual_name_marks program_marks inner_marks declaring of_segment of_mode_part of_specification of_specifier of_virtual of_heading declared_by declarations_of run_of_runs lookup shown_of_scopes encloser searched block_at_of_scopes declaration_from binding entry_of formals_of formal_of result_of source_of denoted type_at line_at level_of block_of block_around standard_name text_attribute sysin_attribute sysout_attribute signature is_real_function is_random_drawing is_file_or_layout is_environment_name undeclared program_events of_statement of_branch of_arm of_block of_whole of_class_body of_declaration block_number slot_of accessible protects is_kind some_around_of some_around base brought_by level_shows shown_of is_detach ends_search outward virtual_of represented standard_at qualified_marks qualified_result connection_at own_attribute transfer_at levels_of levels is_in is_of has_procedure belongs class_at qualification stream_of is_variable is_attribute own_result result_meant standard_texts text_constant found_at shows_detach if_found found_in is_passed_over class_formals_of class_formals class_formal some_level_of has_level holds_class has_classes has_standard is_simulation_block is_for_prefixing simulation_level_of class_block is_in_chain on_one_chain shared_level_of shared_class names_hidden protector_of protector hides opens is_open fine wrong no_target targets assigned_to call_assigned target sign_agrees with_left lefts compared assigned precedes found is_connected prefix_of frame_text hidden_in block_in_front class_number putting_back assigning making_text joining put_back back_of_steps is_inside class_prefix_marks prefixed_marks prefix_marks standard_marks marks_of_standard standard_prefix object_ended pop_object qualifying referring first_along is_this this_block this_of with_entry_at putting_reference brings_class provides_attribute brought_marks is_process_text
through_stands = record { heads = record { is_kind = refl; level = refl; cells = refl; class_free = refl; gives = refl; formals = refl; temps = []; types = refl; counted = refl; roomy = le_0_6 }; body = record { there = lt_6_42; stop = 20; body = (7, ins handed_on_code (i.Tick) 0 6 refl, (13, (8, ins handed_on_code (i.Tick) 0 7 refl, (9, record { use_is = record { at = refl; on = refl }; fits = lt_0_6; inside = itself; within = lt_0_1 }, (12, (10, 11, (refl, record { use_is = record { at = refl; on = refl }; fits = lt_1_6; inside = itself; within = lt_0_1 }), push handed_on_code throughs 2 (i.Int (pos 1)) 0 10 lt_2_6 refl, record { at = refl; on = refl }), ins handed_on_code (i.Put) 0 12 refl))), (20, (14, 20, ins handed_on_code (i.Tick) 0 13 refl, (refl, record { x = 15; y = 19; link = push handed_on_code throughs 0 (i.Link (pos 1)) 0 14 lt_0_6 refl; inside = inside_two; actuals = (19, record { z = 18; number = 0; past = record { x = 16; y = 17; room = 6; over = ins handed_on_code (i.Jump (pos 18)) 0 15 refl; past = ahead handed_on_code 15 18 lt_15_18 lt_18_42; there = refl; later = λ n e. absurd (cc (e)); given = record { use_is = record { at = refl; on = refl }; fits = lt_0_6; inside = itself; within = lt_0_1 }; end = ins handed_on_code (i.EndThunk) 0 17 refl }; thunk = push handed_on_code throughs 1 (i.Thunk (pos 0)) 0 18 lt_1_6 refl }, refl); call = record { at = refl; on = refl } }), refl), refl))); last = 21; ends = ins handed_on_code (i.Return) 0 20 refl } }

no_more : (k : ℕ) → Has (suc (suc (suc k))) (text handed_on (suc (suc (suc k))))
unfolding is_process_itself own_match by_name is_placed digits element_place making_array copying_array keeping_array finding_element giving_back handed_over stopping no_rule ticking taking entering having when computing choosing popping pop_many pop_plain pop_truth pop_integers pop_operands pop_text answering applying_one applying_two testing_step performing at_level kept_on pushing index level_of_machine cell_at jumping block_at own_block leaving with_result putting is_text home_of first_cells leaving_of_meaning constants_of text_constants putting_of_steps text is_class_free declared_at constant_of calculate compare compare_as_texts connect same_objects same_texts two_of one_of step_test take_integer take_character take_text take_nothing row_of standard_effect default_mode mode_allowed marked type_named result_named mode_named first_of_procedure first_of_class variable_marks array_marks parameter_marks moded_marks specified_marks headed_marks procedure_marks class_marks virtual_name_marks program_marks inner_marks declaring of_segment of_mode_part of_specification of_specifier of_virtual of_heading declared_by declarations_of run_of_runs lookup shown_of_scopes encloser searched block_at_of_scopes declaration_from binding entry_of formals_of formal_of result_of source_of denoted type_at line_at level_of block_of block_around standard_name text_attribute sysin_attribute sysout_attribute signature is_real_function is_random_drawing is_file_or_layout is_environment_name undeclared program_events of_statement of_branch of_arm of_block of_whole of_class_body of_declaration block_number slot_of accessible protects is_kind some_around_of some_around base brought_by level_shows shown_of is_detach ends_search outward virtual_of represented standard_at qualified_marks qualified_result connection_at own_attribute transfer_at levels_of levels is_in is_of has_procedure belongs class_at qualification stream_of is_variable is_attribute own_result result_meant standard_texts text_constant found_at shows_detach if_found found_in is_passed_over class_formals_of class_formals class_formal some_level_of has_level holds_class has_classes has_standard is_simulation_block is_for_prefixing simulation_level_of class_block is_in_chain on_one_chain shared_level_of shared_class names_hidden protector_of protector hides opens is_open fine wrong no_target targets assigned_to call_assigned target sign_agrees with_left lefts compared assigned precedes found is_connected prefix_of frame_text hidden_in block_in_front class_number putting_back assigning making_text joining put_back back_of_steps is_inside class_prefix_marks prefixed_marks prefix_marks standard_marks marks_of_standard standard_prefix object_ended pop_object qualifying referring first_along is_this this_block this_of with_entry_at putting_reference brings_class provides_attribute brought_marks is_process_text
no_more k = tt

each_stands : (k : ℕ) → Has k (text handed_on k)
each_stands zero = program_stands
each_stands (suc zero) = show_stands
each_stands (suc (suc zero)) = through_stands
each_stands (suc (suc (suc k))) = no_more k

same_some : (o : Option ℕ) (a b : ℕ) → o ≡ Some a → o ≡ Some b → a ≡ b
same_some o a b e f = cc

around_none : (u : ℕ) → encloser handed_on.tables 0 ≡ Some u → ⊥
unfolding is_process_itself own_match by_name is_placed digits element_place making_array copying_array keeping_array finding_element giving_back handed_over stopping no_rule ticking taking entering having when computing choosing popping pop_many pop_plain pop_truth pop_integers pop_operands pop_text answering applying_one applying_two testing_step performing at_level kept_on pushing index level_of_machine cell_at jumping block_at own_block leaving with_result putting is_text home_of first_cells leaving_of_meaning constants_of text_constants putting_of_steps text is_class_free declared_at constant_of calculate compare compare_as_texts connect same_objects same_texts two_of one_of step_test take_integer take_character take_text take_nothing row_of standard_effect default_mode mode_allowed marked type_named result_named mode_named first_of_procedure first_of_class variable_marks array_marks parameter_marks moded_marks specified_marks headed_marks procedure_marks class_marks virtual_name_marks program_marks inner_marks declaring of_segment of_mode_part of_specification of_specifier of_virtual of_heading declared_by declarations_of run_of_runs lookup shown_of_scopes encloser searched block_at_of_scopes declaration_from binding entry_of formals_of formal_of result_of source_of denoted type_at line_at level_of block_of block_around standard_name text_attribute sysin_attribute sysout_attribute signature is_real_function is_random_drawing is_file_or_layout is_environment_name undeclared program_events of_statement of_branch of_arm of_block of_whole of_class_body of_declaration block_number slot_of accessible protects is_kind some_around_of some_around base brought_by level_shows shown_of is_detach ends_search outward virtual_of represented standard_at qualified_marks qualified_result connection_at own_attribute transfer_at levels_of levels is_in is_of has_procedure belongs class_at qualification stream_of is_variable is_attribute own_result result_meant standard_texts text_constant found_at shows_detach if_found found_in is_passed_over class_formals_of class_formals class_formal some_level_of has_level holds_class has_classes has_standard is_simulation_block is_for_prefixing simulation_level_of class_block is_in_chain on_one_chain shared_level_of shared_class names_hidden protector_of protector hides opens is_open fine wrong no_target targets assigned_to call_assigned target sign_agrees with_left lefts compared assigned precedes found is_connected prefix_of frame_text hidden_in block_in_front class_number putting_back assigning making_text joining put_back back_of_steps is_inside class_prefix_marks prefixed_marks prefix_marks standard_marks marks_of_standard standard_prefix object_ended pop_object qualifying referring first_along is_this this_block this_of with_entry_at putting_reference brings_class provides_attribute brought_marks is_process_text
around_none u e = cc

around_past : (t u : ℕ) → encloser handed_on.tables (suc (suc (suc t))) ≡ Some u → ⊥
unfolding is_process_itself own_match by_name is_placed digits element_place making_array copying_array keeping_array finding_element giving_back handed_over stopping no_rule ticking taking entering having when computing choosing popping pop_many pop_plain pop_truth pop_integers pop_operands pop_text answering applying_one applying_two testing_step performing at_level kept_on pushing index level_of_machine cell_at jumping block_at own_block leaving with_result putting is_text home_of first_cells leaving_of_meaning constants_of text_constants putting_of_steps text is_class_free declared_at constant_of calculate compare compare_as_texts connect same_objects same_texts two_of one_of step_test take_integer take_character take_text take_nothing row_of standard_effect default_mode mode_allowed marked type_named result_named mode_named first_of_procedure first_of_class variable_marks array_marks parameter_marks moded_marks specified_marks headed_marks procedure_marks class_marks virtual_name_marks program_marks inner_marks declaring of_segment of_mode_part of_specification of_specifier of_virtual of_heading declared_by declarations_of run_of_runs lookup shown_of_scopes encloser searched block_at_of_scopes declaration_from binding entry_of formals_of formal_of result_of source_of denoted type_at line_at level_of block_of block_around standard_name text_attribute sysin_attribute sysout_attribute signature is_real_function is_random_drawing is_file_or_layout is_environment_name undeclared program_events of_statement of_branch of_arm of_block of_whole of_class_body of_declaration block_number slot_of accessible protects is_kind some_around_of some_around base brought_by level_shows shown_of is_detach ends_search outward virtual_of represented standard_at qualified_marks qualified_result connection_at own_attribute transfer_at levels_of levels is_in is_of has_procedure belongs class_at qualification stream_of is_variable is_attribute own_result result_meant standard_texts text_constant found_at shows_detach if_found found_in is_passed_over class_formals_of class_formals class_formal some_level_of has_level holds_class has_classes has_standard is_simulation_block is_for_prefixing simulation_level_of class_block is_in_chain on_one_chain shared_level_of shared_class names_hidden protector_of protector hides opens is_open fine wrong no_target targets assigned_to call_assigned target sign_agrees with_left lefts compared assigned precedes found is_connected prefix_of frame_text hidden_in block_in_front class_number putting_back assigning making_text joining put_back back_of_steps is_inside class_prefix_marks prefixed_marks prefix_marks standard_marks marks_of_standard standard_prefix object_ended pop_object qualifying referring first_along is_this this_block this_of with_entry_at putting_reference brings_class provides_attribute brought_marks is_process_text
around_past t u e = cc

levels_agree : (t u : ℕ) → encloser handed_on.tables t ≡ Some u → level_of handed_on t ≡ suc (level_of handed_on u)
levels_agree zero u e = absurd (around_none u e)
levels_agree (suc zero) u e = levels_one ∙ ap (λ k. suc (level_of handed_on k)) (same_some (encloser handed_on.tables 1) 0 u around_one e)
levels_agree (suc (suc zero)) u e = levels_two ∙ ap (λ k. suc (level_of handed_on k)) (same_some (encloser handed_on.tables 2) 0 u around_two e)
levels_agree (suc (suc (suc t))) u e = absurd (around_past t u e)

the_show : ProcedureThere handed_on (record { 0 = 0 }) None 1
unfolding is_process_itself own_match by_name is_placed digits element_place making_array copying_array keeping_array finding_element giving_back handed_over stopping no_rule ticking taking entering having when computing choosing popping pop_many pop_plain pop_truth pop_integers pop_operands pop_text answering applying_one applying_two testing_step performing at_level kept_on pushing index level_of_machine cell_at jumping block_at own_block leaving with_result putting is_text home_of first_cells leaving_of_meaning constants_of text_constants putting_of_steps text is_class_free declared_at constant_of calculate compare compare_as_texts connect same_objects same_texts two_of one_of step_test take_integer take_character take_text take_nothing row_of standard_effect default_mode mode_allowed marked type_named result_named mode_named first_of_procedure first_of_class variable_marks array_marks parameter_marks moded_marks specified_marks headed_marks procedure_marks class_marks virtual_name_marks program_marks inner_marks declaring of_segment of_mode_part of_specification of_specifier of_virtual of_heading declared_by declarations_of run_of_runs lookup shown_of_scopes encloser searched block_at_of_scopes declaration_from binding entry_of formals_of formal_of result_of source_of denoted type_at line_at level_of block_of block_around standard_name text_attribute sysin_attribute sysout_attribute signature is_real_function is_random_drawing is_file_or_layout is_environment_name undeclared program_events of_statement of_branch of_arm of_block of_whole of_class_body of_declaration block_number slot_of accessible protects is_kind some_around_of some_around base brought_by level_shows shown_of is_detach ends_search outward virtual_of represented standard_at qualified_marks qualified_result connection_at own_attribute transfer_at levels_of levels is_in is_of has_procedure belongs class_at qualification stream_of is_variable is_attribute own_result result_meant standard_texts text_constant found_at shows_detach if_found found_in is_passed_over class_formals_of class_formals class_formal some_level_of has_level holds_class has_classes has_standard is_simulation_block is_for_prefixing simulation_level_of class_block is_in_chain on_one_chain shared_level_of shared_class names_hidden protector_of protector hides opens is_open fine wrong no_target targets assigned_to call_assigned target sign_agrees with_left lefts compared assigned precedes found is_connected prefix_of frame_text hidden_in block_in_front class_number putting_back assigning making_text joining put_back back_of_steps is_inside class_prefix_marks prefixed_marks prefix_marks standard_marks marks_of_standard standard_prefix object_ended pop_object qualifying referring first_along is_this this_block this_of with_entry_at putting_reference brings_class provides_attribute brought_marks is_process_text
the_show = record { given = _; heading = _; body = _; is = refl; around = refl; same = refl }

entry_show : entry_of handed_on.tables (record { 0 = 0 }) ≡ Some (entry.Procedure None 1)
unfolding is_process_itself own_match by_name is_placed digits element_place making_array copying_array keeping_array finding_element giving_back handed_over stopping no_rule ticking taking entering having when computing choosing popping pop_many pop_plain pop_truth pop_integers pop_operands pop_text answering applying_one applying_two testing_step performing at_level kept_on pushing index level_of_machine cell_at jumping block_at own_block leaving with_result putting is_text home_of first_cells leaving_of_meaning constants_of text_constants putting_of_steps text is_class_free declared_at constant_of calculate compare compare_as_texts connect same_objects same_texts two_of one_of step_test take_integer take_character take_text take_nothing row_of standard_effect default_mode mode_allowed marked type_named result_named mode_named first_of_procedure first_of_class variable_marks array_marks parameter_marks moded_marks specified_marks headed_marks procedure_marks class_marks virtual_name_marks program_marks inner_marks declaring of_segment of_mode_part of_specification of_specifier of_virtual of_heading declared_by declarations_of run_of_runs lookup shown_of_scopes encloser searched block_at_of_scopes declaration_from binding entry_of formals_of formal_of result_of source_of denoted type_at line_at level_of block_of block_around standard_name text_attribute sysin_attribute sysout_attribute signature is_real_function is_random_drawing is_file_or_layout is_environment_name undeclared program_events of_statement of_branch of_arm of_block of_whole of_class_body of_declaration block_number slot_of accessible protects is_kind some_around_of some_around base brought_by level_shows shown_of is_detach ends_search outward virtual_of represented standard_at qualified_marks qualified_result connection_at own_attribute transfer_at levels_of levels is_in is_of has_procedure belongs class_at qualification stream_of is_variable is_attribute own_result result_meant standard_texts text_constant found_at shows_detach if_found found_in is_passed_over class_formals_of class_formals class_formal some_level_of has_level holds_class has_classes has_standard is_simulation_block is_for_prefixing simulation_level_of class_block is_in_chain on_one_chain shared_level_of shared_class names_hidden protector_of protector hides opens is_open fine wrong no_target targets assigned_to call_assigned target sign_agrees with_left lefts compared assigned precedes found is_connected prefix_of frame_text hidden_in block_in_front class_number putting_back assigning making_text joining put_back back_of_steps is_inside class_prefix_marks prefixed_marks prefix_marks standard_marks marks_of_standard standard_prefix object_ended pop_object qualifying referring first_along is_this this_block this_of with_entry_at putting_reference brings_class provides_attribute brought_marks is_process_text
entry_show = refl

the_through : ProcedureThere handed_on (record { 0 = 2 }) None 2
unfolding is_process_itself own_match by_name is_placed digits element_place making_array copying_array keeping_array finding_element giving_back handed_over stopping no_rule ticking taking entering having when computing choosing popping pop_many pop_plain pop_truth pop_integers pop_operands pop_text answering applying_one applying_two testing_step performing at_level kept_on pushing index level_of_machine cell_at jumping block_at own_block leaving with_result putting is_text home_of first_cells leaving_of_meaning constants_of text_constants putting_of_steps text is_class_free declared_at constant_of calculate compare compare_as_texts connect same_objects same_texts two_of one_of step_test take_integer take_character take_text take_nothing row_of standard_effect default_mode mode_allowed marked type_named result_named mode_named first_of_procedure first_of_class variable_marks array_marks parameter_marks moded_marks specified_marks headed_marks procedure_marks class_marks virtual_name_marks program_marks inner_marks declaring of_segment of_mode_part of_specification of_specifier of_virtual of_heading declared_by declarations_of run_of_runs lookup shown_of_scopes encloser searched block_at_of_scopes declaration_from binding entry_of formals_of formal_of result_of source_of denoted type_at line_at level_of block_of block_around standard_name text_attribute sysin_attribute sysout_attribute signature is_real_function is_random_drawing is_file_or_layout is_environment_name undeclared program_events of_statement of_branch of_arm of_block of_whole of_class_body of_declaration block_number slot_of accessible protects is_kind some_around_of some_around base brought_by level_shows shown_of is_detach ends_search outward virtual_of represented standard_at qualified_marks qualified_result connection_at own_attribute transfer_at levels_of levels is_in is_of has_procedure belongs class_at qualification stream_of is_variable is_attribute own_result result_meant standard_texts text_constant found_at shows_detach if_found found_in is_passed_over class_formals_of class_formals class_formal some_level_of has_level holds_class has_classes has_standard is_simulation_block is_for_prefixing simulation_level_of class_block is_in_chain on_one_chain shared_level_of shared_class names_hidden protector_of protector hides opens is_open fine wrong no_target targets assigned_to call_assigned target sign_agrees with_left lefts compared assigned precedes found is_connected prefix_of frame_text hidden_in block_in_front class_number putting_back assigning making_text joining put_back back_of_steps is_inside class_prefix_marks prefixed_marks prefix_marks standard_marks marks_of_standard standard_prefix object_ended pop_object qualifying referring first_along is_this this_block this_of with_entry_at putting_reference brings_class provides_attribute brought_marks is_process_text
the_through = record { given = _; heading = _; body = _; is = refl; around = refl; same = refl }

entry_through : entry_of handed_on.tables (record { 0 = 2 }) ≡ Some (entry.Procedure None 2)
unfolding is_process_itself own_match by_name is_placed digits element_place making_array copying_array keeping_array finding_element giving_back handed_over stopping no_rule ticking taking entering having when computing choosing popping pop_many pop_plain pop_truth pop_integers pop_operands pop_text answering applying_one applying_two testing_step performing at_level kept_on pushing index level_of_machine cell_at jumping block_at own_block leaving with_result putting is_text home_of first_cells leaving_of_meaning constants_of text_constants putting_of_steps text is_class_free declared_at constant_of calculate compare compare_as_texts connect same_objects same_texts two_of one_of step_test take_integer take_character take_text take_nothing row_of standard_effect default_mode mode_allowed marked type_named result_named mode_named first_of_procedure first_of_class variable_marks array_marks parameter_marks moded_marks specified_marks headed_marks procedure_marks class_marks virtual_name_marks program_marks inner_marks declaring of_segment of_mode_part of_specification of_specifier of_virtual of_heading declared_by declarations_of run_of_runs lookup shown_of_scopes encloser searched block_at_of_scopes declaration_from binding entry_of formals_of formal_of result_of source_of denoted type_at line_at level_of block_of block_around standard_name text_attribute sysin_attribute sysout_attribute signature is_real_function is_random_drawing is_file_or_layout is_environment_name undeclared program_events of_statement of_branch of_arm of_block of_whole of_class_body of_declaration block_number slot_of accessible protects is_kind some_around_of some_around base brought_by level_shows shown_of is_detach ends_search outward virtual_of represented standard_at qualified_marks qualified_result connection_at own_attribute transfer_at levels_of levels is_in is_of has_procedure belongs class_at qualification stream_of is_variable is_attribute own_result result_meant standard_texts text_constant found_at shows_detach if_found found_in is_passed_over class_formals_of class_formals class_formal some_level_of has_level holds_class has_classes has_standard is_simulation_block is_for_prefixing simulation_level_of class_block is_in_chain on_one_chain shared_level_of shared_class names_hidden protector_of protector hides opens is_open fine wrong no_target targets assigned_to call_assigned target sign_agrees with_left lefts compared assigned precedes found is_connected prefix_of frame_text hidden_in block_in_front class_number putting_back assigning making_text joining put_back back_of_steps is_inside class_prefix_marks prefixed_marks prefix_marks standard_marks marks_of_standard standard_prefix object_ended pop_object qualifying referring first_along is_this this_block this_of with_entry_at putting_reference brings_class provides_attribute brought_marks is_process_text
entry_through = refl

no_procedure_1 : (result : Option SimType) (k : ℕ) → entry_of handed_on.tables (record { 0 = 1 }) ≡ Some (entry.Procedure result k) → ⊥
unfolding is_process_itself own_match by_name is_placed digits element_place making_array copying_array keeping_array finding_element giving_back handed_over stopping no_rule ticking taking entering having when computing choosing popping pop_many pop_plain pop_truth pop_integers pop_operands pop_text answering applying_one applying_two testing_step performing at_level kept_on pushing index level_of_machine cell_at jumping block_at own_block leaving with_result putting is_text home_of first_cells leaving_of_meaning constants_of text_constants putting_of_steps text is_class_free declared_at constant_of calculate compare compare_as_texts connect same_objects same_texts two_of one_of step_test take_integer take_character take_text take_nothing row_of standard_effect default_mode mode_allowed marked type_named result_named mode_named first_of_procedure first_of_class variable_marks array_marks parameter_marks moded_marks specified_marks headed_marks procedure_marks class_marks virtual_name_marks program_marks inner_marks declaring of_segment of_mode_part of_specification of_specifier of_virtual of_heading declared_by declarations_of run_of_runs lookup shown_of_scopes encloser searched block_at_of_scopes declaration_from binding entry_of formals_of formal_of result_of source_of denoted type_at line_at level_of block_of block_around standard_name text_attribute sysin_attribute sysout_attribute signature is_real_function is_random_drawing is_file_or_layout is_environment_name undeclared program_events of_statement of_branch of_arm of_block of_whole of_class_body of_declaration block_number slot_of accessible protects is_kind some_around_of some_around base brought_by level_shows shown_of is_detach ends_search outward virtual_of represented standard_at qualified_marks qualified_result connection_at own_attribute transfer_at levels_of levels is_in is_of has_procedure belongs class_at qualification stream_of is_variable is_attribute own_result result_meant standard_texts text_constant found_at shows_detach if_found found_in is_passed_over class_formals_of class_formals class_formal some_level_of has_level holds_class has_classes has_standard is_simulation_block is_for_prefixing simulation_level_of class_block is_in_chain on_one_chain shared_level_of shared_class names_hidden protector_of protector hides opens is_open fine wrong no_target targets assigned_to call_assigned target sign_agrees with_left lefts compared assigned precedes found is_connected prefix_of frame_text hidden_in block_in_front class_number putting_back assigning making_text joining put_back back_of_steps is_inside class_prefix_marks prefixed_marks prefix_marks standard_marks marks_of_standard standard_prefix object_ended pop_object qualifying referring first_along is_this this_block this_of with_entry_at putting_reference brings_class provides_attribute brought_marks is_process_text
no_procedure_1 result k e = cc

no_procedure_3 : (result : Option SimType) (k : ℕ) → entry_of handed_on.tables (record { 0 = 3 }) ≡ Some (entry.Procedure result k) → ⊥
unfolding is_process_itself own_match by_name is_placed digits element_place making_array copying_array keeping_array finding_element giving_back handed_over stopping no_rule ticking taking entering having when computing choosing popping pop_many pop_plain pop_truth pop_integers pop_operands pop_text answering applying_one applying_two testing_step performing at_level kept_on pushing index level_of_machine cell_at jumping block_at own_block leaving with_result putting is_text home_of first_cells leaving_of_meaning constants_of text_constants putting_of_steps text is_class_free declared_at constant_of calculate compare compare_as_texts connect same_objects same_texts two_of one_of step_test take_integer take_character take_text take_nothing row_of standard_effect default_mode mode_allowed marked type_named result_named mode_named first_of_procedure first_of_class variable_marks array_marks parameter_marks moded_marks specified_marks headed_marks procedure_marks class_marks virtual_name_marks program_marks inner_marks declaring of_segment of_mode_part of_specification of_specifier of_virtual of_heading declared_by declarations_of run_of_runs lookup shown_of_scopes encloser searched block_at_of_scopes declaration_from binding entry_of formals_of formal_of result_of source_of denoted type_at line_at level_of block_of block_around standard_name text_attribute sysin_attribute sysout_attribute signature is_real_function is_random_drawing is_file_or_layout is_environment_name undeclared program_events of_statement of_branch of_arm of_block of_whole of_class_body of_declaration block_number slot_of accessible protects is_kind some_around_of some_around base brought_by level_shows shown_of is_detach ends_search outward virtual_of represented standard_at qualified_marks qualified_result connection_at own_attribute transfer_at levels_of levels is_in is_of has_procedure belongs class_at qualification stream_of is_variable is_attribute own_result result_meant standard_texts text_constant found_at shows_detach if_found found_in is_passed_over class_formals_of class_formals class_formal some_level_of has_level holds_class has_classes has_standard is_simulation_block is_for_prefixing simulation_level_of class_block is_in_chain on_one_chain shared_level_of shared_class names_hidden protector_of protector hides opens is_open fine wrong no_target targets assigned_to call_assigned target sign_agrees with_left lefts compared assigned precedes found is_connected prefix_of frame_text hidden_in block_in_front class_number putting_back assigning making_text joining put_back back_of_steps is_inside class_prefix_marks prefixed_marks prefix_marks standard_marks marks_of_standard standard_prefix object_ended pop_object qualifying referring first_along is_this this_block this_of with_entry_at putting_reference brings_class provides_attribute brought_marks is_process_text
no_procedure_3 result k e = cc

no_procedure_4 : (result : Option SimType) (k : ℕ) → entry_of handed_on.tables (record { 0 = 4 }) ≡ Some (entry.Procedure result k) → ⊥
unfolding is_process_itself own_match by_name is_placed digits element_place making_array copying_array keeping_array finding_element giving_back handed_over stopping no_rule ticking taking entering having when computing choosing popping pop_many pop_plain pop_truth pop_integers pop_operands pop_text answering applying_one applying_two testing_step performing at_level kept_on pushing index level_of_machine cell_at jumping block_at own_block leaving with_result putting is_text home_of first_cells leaving_of_meaning constants_of text_constants putting_of_steps text is_class_free declared_at constant_of calculate compare compare_as_texts connect same_objects same_texts two_of one_of step_test take_integer take_character take_text take_nothing row_of standard_effect default_mode mode_allowed marked type_named result_named mode_named first_of_procedure first_of_class variable_marks array_marks parameter_marks moded_marks specified_marks headed_marks procedure_marks class_marks virtual_name_marks program_marks inner_marks declaring of_segment of_mode_part of_specification of_specifier of_virtual of_heading declared_by declarations_of run_of_runs lookup shown_of_scopes encloser searched block_at_of_scopes declaration_from binding entry_of formals_of formal_of result_of source_of denoted type_at line_at level_of block_of block_around standard_name text_attribute sysin_attribute sysout_attribute signature is_real_function is_random_drawing is_file_or_layout is_environment_name undeclared program_events of_statement of_branch of_arm of_block of_whole of_class_body of_declaration block_number slot_of accessible protects is_kind some_around_of some_around base brought_by level_shows shown_of is_detach ends_search outward virtual_of represented standard_at qualified_marks qualified_result connection_at own_attribute transfer_at levels_of levels is_in is_of has_procedure belongs class_at qualification stream_of is_variable is_attribute own_result result_meant standard_texts text_constant found_at shows_detach if_found found_in is_passed_over class_formals_of class_formals class_formal some_level_of has_level holds_class has_classes has_standard is_simulation_block is_for_prefixing simulation_level_of class_block is_in_chain on_one_chain shared_level_of shared_class names_hidden protector_of protector hides opens is_open fine wrong no_target targets assigned_to call_assigned target sign_agrees with_left lefts compared assigned precedes found is_connected prefix_of frame_text hidden_in block_in_front class_number putting_back assigning making_text joining put_back back_of_steps is_inside class_prefix_marks prefixed_marks prefix_marks standard_marks marks_of_standard standard_prefix object_ended pop_object qualifying referring first_along is_this this_block this_of with_entry_at putting_reference brings_class provides_attribute brought_marks is_process_text
no_procedure_4 result k e = cc

no_procedure_past : (n : ℕ) (result : Option SimType) (k : ℕ) → entry_of handed_on.tables (record { 0 = (suc (suc (suc (suc (suc n))))) }) ≡ Some (entry.Procedure result k) → ⊥
unfolding is_process_itself own_match by_name is_placed digits element_place making_array copying_array keeping_array finding_element giving_back handed_over stopping no_rule ticking taking entering having when computing choosing popping pop_many pop_plain pop_truth pop_integers pop_operands pop_text answering applying_one applying_two testing_step performing at_level kept_on pushing index level_of_machine cell_at jumping block_at own_block leaving with_result putting is_text home_of first_cells leaving_of_meaning constants_of text_constants putting_of_steps text is_class_free declared_at constant_of calculate compare compare_as_texts connect same_objects same_texts two_of one_of step_test take_integer take_character take_text take_nothing row_of standard_effect default_mode mode_allowed marked type_named result_named mode_named first_of_procedure first_of_class variable_marks array_marks parameter_marks moded_marks specified_marks headed_marks procedure_marks class_marks virtual_name_marks program_marks inner_marks declaring of_segment of_mode_part of_specification of_specifier of_virtual of_heading declared_by declarations_of run_of_runs lookup shown_of_scopes encloser searched block_at_of_scopes declaration_from binding entry_of formals_of formal_of result_of source_of denoted type_at line_at level_of block_of block_around standard_name text_attribute sysin_attribute sysout_attribute signature is_real_function is_random_drawing is_file_or_layout is_environment_name undeclared program_events of_statement of_branch of_arm of_block of_whole of_class_body of_declaration block_number slot_of accessible protects is_kind some_around_of some_around base brought_by level_shows shown_of is_detach ends_search outward virtual_of represented standard_at qualified_marks qualified_result connection_at own_attribute transfer_at levels_of levels is_in is_of has_procedure belongs class_at qualification stream_of is_variable is_attribute own_result result_meant standard_texts text_constant found_at shows_detach if_found found_in is_passed_over class_formals_of class_formals class_formal some_level_of has_level holds_class has_classes has_standard is_simulation_block is_for_prefixing simulation_level_of class_block is_in_chain on_one_chain shared_level_of shared_class names_hidden protector_of protector hides opens is_open fine wrong no_target targets assigned_to call_assigned target sign_agrees with_left lefts compared assigned precedes found is_connected prefix_of frame_text hidden_in block_in_front class_number putting_back assigning making_text joining put_back back_of_steps is_inside class_prefix_marks prefixed_marks prefix_marks standard_marks marks_of_standard standard_prefix object_ended pop_object qualifying referring first_along is_this this_block this_of with_entry_at putting_reference brings_class provides_attribute brought_marks is_process_text
no_procedure_past n result k e = cc

same_result : (o : Option Entry) (r r' : Option SimType) (k k' : ℕ) → o ≡ Some (entry.Procedure r k) → o ≡ Some (entry.Procedure r' k') → (r ≡ r') × (k ≡ k')
same_result o r r' k k' e f = (cc, cc)

procedures_there : (n : ℕ) (result : Option SimType) (k : ℕ) → entry_of handed_on.tables (record { 0 = n }) ≡ Some (entry.Procedure result k) → ProcedureThere handed_on (record { 0 = n }) result k
procedures_there zero result k e =
    let same = same_result (entry_of handed_on.tables (record { 0 = 0 })) None result 1 k entry_show e in
    subst (λ r. ProcedureThere handed_on (record { 0 = 0 }) r k) same.0 (subst (λ j. ProcedureThere handed_on (record { 0 = 0 }) None j) same.1 the_show)
procedures_there (suc zero) result k e = absurd (no_procedure_1 result k e)
procedures_there (suc (suc zero)) result k e =
    let same = same_result (entry_of handed_on.tables (record { 0 = 2 })) None result 2 k entry_through e in
    subst (λ r. ProcedureThere handed_on (record { 0 = 2 }) r k) same.0 (subst (λ j. ProcedureThere handed_on (record { 0 = 2 }) None j) same.1 the_through)
procedures_there (suc (suc (suc zero))) result k e = absurd (no_procedure_3 result k e)
procedures_there (suc (suc (suc (suc zero)))) result k e = absurd (no_procedure_4 result k e)
procedures_there (suc (suc (suc (suc (suc n))))) result k e = absurd (no_procedure_past n result k e)

none_connected : (k : ℕ) → is_connected handed_on.tables k ≡ false
unfolding is_process_itself own_match by_name is_placed digits element_place making_array copying_array keeping_array finding_element giving_back handed_over stopping no_rule ticking taking entering having when computing choosing popping pop_many pop_plain pop_truth pop_integers pop_operands pop_text answering applying_one applying_two testing_step performing at_level kept_on pushing index level_of_machine cell_at jumping block_at own_block leaving with_result putting is_text home_of first_cells leaving_of_meaning constants_of text_constants putting_of_steps text is_class_free declared_at constant_of calculate compare compare_as_texts connect same_objects same_texts two_of one_of step_test take_integer take_character take_text take_nothing row_of standard_effect default_mode mode_allowed marked type_named result_named mode_named first_of_procedure first_of_class variable_marks array_marks parameter_marks moded_marks specified_marks headed_marks procedure_marks class_marks virtual_name_marks program_marks inner_marks declaring of_segment of_mode_part of_specification of_specifier of_virtual of_heading declared_by declarations_of run_of_runs lookup shown_of_scopes encloser searched block_at_of_scopes declaration_from binding entry_of formals_of formal_of result_of source_of denoted type_at line_at level_of block_of block_around standard_name text_attribute sysin_attribute sysout_attribute signature is_real_function is_random_drawing is_file_or_layout is_environment_name undeclared program_events of_statement of_branch of_arm of_block of_whole of_class_body of_declaration block_number slot_of accessible protects is_kind some_around_of some_around base brought_by level_shows shown_of is_detach ends_search outward virtual_of represented standard_at qualified_marks qualified_result connection_at own_attribute transfer_at levels_of levels is_in is_of has_procedure belongs class_at qualification stream_of is_variable is_attribute own_result result_meant standard_texts text_constant found_at shows_detach if_found found_in is_passed_over class_formals_of class_formals class_formal some_level_of has_level holds_class has_classes has_standard is_simulation_block is_for_prefixing simulation_level_of class_block is_in_chain on_one_chain shared_level_of shared_class names_hidden protector_of protector hides opens is_open fine wrong no_target targets assigned_to call_assigned target sign_agrees with_left lefts compared assigned precedes found is_connected prefix_of frame_text hidden_in block_in_front class_number putting_back assigning making_text joining put_back back_of_steps is_inside class_prefix_marks prefixed_marks prefix_marks standard_marks marks_of_standard standard_prefix object_ended pop_object qualifying referring first_along is_this this_block this_of with_entry_at putting_reference brings_class provides_attribute brought_marks is_process_text
none_connected zero = refl
none_connected (suc zero) = refl
none_connected (suc (suc zero)) = refl
none_connected (suc (suc (suc k))) = refl

no_connection : (k : ℕ) → is_connection (text handed_on k) ≡ false
unfolding is_process_itself own_match by_name is_placed digits element_place making_array copying_array keeping_array finding_element giving_back handed_over stopping no_rule ticking taking entering having when computing choosing popping pop_many pop_plain pop_truth pop_integers pop_operands pop_text answering applying_one applying_two testing_step performing at_level kept_on pushing index level_of_machine cell_at jumping block_at own_block leaving with_result putting is_text home_of first_cells leaving_of_meaning constants_of text_constants putting_of_steps text is_class_free declared_at constant_of calculate compare compare_as_texts connect same_objects same_texts two_of one_of step_test take_integer take_character take_text take_nothing row_of standard_effect default_mode mode_allowed marked type_named result_named mode_named first_of_procedure first_of_class variable_marks array_marks parameter_marks moded_marks specified_marks headed_marks procedure_marks class_marks virtual_name_marks program_marks inner_marks declaring of_segment of_mode_part of_specification of_specifier of_virtual of_heading declared_by declarations_of run_of_runs lookup shown_of_scopes encloser searched block_at_of_scopes declaration_from binding entry_of formals_of formal_of result_of source_of denoted type_at line_at level_of block_of block_around standard_name text_attribute sysin_attribute sysout_attribute signature is_real_function is_random_drawing is_file_or_layout is_environment_name undeclared program_events of_statement of_branch of_arm of_block of_whole of_class_body of_declaration block_number slot_of accessible protects is_kind some_around_of some_around base brought_by level_shows shown_of is_detach ends_search outward virtual_of represented standard_at qualified_marks qualified_result connection_at own_attribute transfer_at levels_of levels is_in is_of has_procedure belongs class_at qualification stream_of is_variable is_attribute own_result result_meant standard_texts text_constant found_at shows_detach if_found found_in is_passed_over class_formals_of class_formals class_formal some_level_of has_level holds_class has_classes has_standard is_simulation_block is_for_prefixing simulation_level_of class_block is_in_chain on_one_chain shared_level_of shared_class names_hidden protector_of protector hides opens is_open fine wrong no_target targets assigned_to call_assigned target sign_agrees with_left lefts compared assigned precedes found is_connected prefix_of frame_text hidden_in block_in_front class_number putting_back assigning making_text joining put_back back_of_steps is_inside class_prefix_marks prefixed_marks prefix_marks standard_marks marks_of_standard standard_prefix object_ended pop_object qualifying referring first_along is_this this_block this_of with_entry_at putting_reference brings_class provides_attribute brought_marks is_process_text
no_connection zero = refl
no_connection (suc zero) = refl
no_connection (suc (suc zero)) = refl
no_connection (suc (suc (suc k))) = refl

no_prefix : (k : ℕ) → prefix_of handed_on.tables k ≡ None
unfolding is_process_itself own_match by_name is_placed digits element_place making_array copying_array keeping_array finding_element giving_back handed_over stopping no_rule ticking taking entering having when computing choosing popping pop_many pop_plain pop_truth pop_integers pop_operands pop_text answering applying_one applying_two testing_step performing at_level kept_on pushing index level_of_machine cell_at jumping block_at own_block leaving with_result putting is_text home_of first_cells leaving_of_meaning constants_of text_constants putting_of_steps text is_class_free declared_at constant_of calculate compare compare_as_texts connect same_objects same_texts two_of one_of step_test take_integer take_character take_text take_nothing row_of standard_effect default_mode mode_allowed marked type_named result_named mode_named first_of_procedure first_of_class variable_marks array_marks parameter_marks moded_marks specified_marks headed_marks procedure_marks class_marks virtual_name_marks program_marks inner_marks declaring of_segment of_mode_part of_specification of_specifier of_virtual of_heading declared_by declarations_of run_of_runs lookup shown_of_scopes encloser searched block_at_of_scopes declaration_from binding entry_of formals_of formal_of result_of source_of denoted type_at line_at level_of block_of block_around standard_name text_attribute sysin_attribute sysout_attribute signature is_real_function is_random_drawing is_file_or_layout is_environment_name undeclared program_events of_statement of_branch of_arm of_block of_whole of_class_body of_declaration block_number slot_of accessible protects is_kind some_around_of some_around base brought_by level_shows shown_of is_detach ends_search outward virtual_of represented standard_at qualified_marks qualified_result connection_at own_attribute transfer_at levels_of levels is_in is_of has_procedure belongs class_at qualification stream_of is_variable is_attribute own_result result_meant standard_texts text_constant found_at shows_detach if_found found_in is_passed_over class_formals_of class_formals class_formal some_level_of has_level holds_class has_classes has_standard is_simulation_block is_for_prefixing simulation_level_of class_block is_in_chain on_one_chain shared_level_of shared_class names_hidden protector_of protector hides opens is_open fine wrong no_target targets assigned_to call_assigned target sign_agrees with_left lefts compared assigned precedes found is_connected prefix_of frame_text hidden_in block_in_front class_number putting_back assigning making_text joining put_back back_of_steps is_inside class_prefix_marks prefixed_marks prefix_marks standard_marks marks_of_standard standard_prefix object_ended pop_object qualifying referring first_along is_this this_block this_of with_entry_at putting_reference brings_class provides_attribute brought_marks is_process_text
no_prefix zero = refl
no_prefix (suc zero) = refl
no_prefix (suc (suc zero)) = refl
no_prefix (suc (suc (suc k))) = refl

owners : (k : ℕ) → all_of (λ d. block_of handed_on d ≡ k) (numbers_of handed_on k)
unfolding is_process_itself own_match by_name is_placed digits element_place making_array copying_array keeping_array finding_element giving_back handed_over stopping no_rule ticking taking entering having when computing choosing popping pop_many pop_plain pop_truth pop_integers pop_operands pop_text answering applying_one applying_two testing_step performing at_level kept_on pushing index level_of_machine cell_at jumping block_at own_block leaving with_result putting is_text home_of first_cells leaving_of_meaning constants_of text_constants putting_of_steps text is_class_free declared_at constant_of calculate compare compare_as_texts connect same_objects same_texts two_of one_of step_test take_integer take_character take_text take_nothing row_of standard_effect default_mode mode_allowed marked type_named result_named mode_named first_of_procedure first_of_class variable_marks array_marks parameter_marks moded_marks specified_marks headed_marks procedure_marks class_marks virtual_name_marks program_marks inner_marks declaring of_segment of_mode_part of_specification of_specifier of_virtual of_heading declared_by declarations_of run_of_runs lookup shown_of_scopes encloser searched block_at_of_scopes declaration_from binding entry_of formals_of formal_of result_of source_of denoted type_at line_at level_of block_of block_around standard_name text_attribute sysin_attribute sysout_attribute signature is_real_function is_random_drawing is_file_or_layout is_environment_name undeclared program_events of_statement of_branch of_arm of_block of_whole of_class_body of_declaration block_number slot_of accessible protects is_kind some_around_of some_around base brought_by level_shows shown_of is_detach ends_search outward virtual_of represented standard_at qualified_marks qualified_result connection_at own_attribute transfer_at levels_of levels is_in is_of has_procedure belongs class_at qualification stream_of is_variable is_attribute own_result result_meant standard_texts text_constant found_at shows_detach if_found found_in is_passed_over class_formals_of class_formals class_formal some_level_of has_level holds_class has_classes has_standard is_simulation_block is_for_prefixing simulation_level_of class_block is_in_chain on_one_chain shared_level_of shared_class names_hidden protector_of protector hides opens is_open fine wrong no_target targets assigned_to call_assigned target sign_agrees with_left lefts compared assigned precedes found is_connected prefix_of frame_text hidden_in block_in_front class_number putting_back assigning making_text joining put_back back_of_steps is_inside class_prefix_marks prefixed_marks prefix_marks standard_marks marks_of_standard standard_prefix object_ended pop_object qualifying referring first_along is_this this_block this_of with_entry_at putting_reference brings_class provides_attribute brought_marks is_process_text
owners zero = (refl, (refl, (refl, tt)))
owners (suc zero) = (refl, tt)
owners (suc (suc zero)) = (refl, tt)
owners (suc (suc (suc k))) = tt

listed_once : (k : ℕ) → apart (numbers_of handed_on k)
unfolding is_process_itself own_match by_name is_placed digits element_place making_array copying_array keeping_array finding_element giving_back handed_over stopping no_rule ticking taking entering having when computing choosing popping pop_many pop_plain pop_truth pop_integers pop_operands pop_text answering applying_one applying_two testing_step performing at_level kept_on pushing index level_of_machine cell_at jumping block_at own_block leaving with_result putting is_text home_of first_cells leaving_of_meaning constants_of text_constants putting_of_steps text is_class_free declared_at constant_of calculate compare compare_as_texts connect same_objects same_texts two_of one_of step_test take_integer take_character take_text take_nothing row_of standard_effect default_mode mode_allowed marked type_named result_named mode_named first_of_procedure first_of_class variable_marks array_marks parameter_marks moded_marks specified_marks headed_marks procedure_marks class_marks virtual_name_marks program_marks inner_marks declaring of_segment of_mode_part of_specification of_specifier of_virtual of_heading declared_by declarations_of run_of_runs lookup shown_of_scopes encloser searched block_at_of_scopes declaration_from binding entry_of formals_of formal_of result_of source_of denoted type_at line_at level_of block_of block_around standard_name text_attribute sysin_attribute sysout_attribute signature is_real_function is_random_drawing is_file_or_layout is_environment_name undeclared program_events of_statement of_branch of_arm of_block of_whole of_class_body of_declaration block_number slot_of accessible protects is_kind some_around_of some_around base brought_by level_shows shown_of is_detach ends_search outward virtual_of represented standard_at qualified_marks qualified_result connection_at own_attribute transfer_at levels_of levels is_in is_of has_procedure belongs class_at qualification stream_of is_variable is_attribute own_result result_meant standard_texts text_constant found_at shows_detach if_found found_in is_passed_over class_formals_of class_formals class_formal some_level_of has_level holds_class has_classes has_standard is_simulation_block is_for_prefixing simulation_level_of class_block is_in_chain on_one_chain shared_level_of shared_class names_hidden protector_of protector hides opens is_open fine wrong no_target targets assigned_to call_assigned target sign_agrees with_left lefts compared assigned precedes found is_connected prefix_of frame_text hidden_in block_in_front class_number putting_back assigning making_text joining put_back back_of_steps is_inside class_prefix_marks prefixed_marks prefix_marks standard_marks marks_of_standard standard_prefix object_ended pop_object qualifying referring first_along is_this this_block this_of with_entry_at putting_reference brings_class provides_attribute brought_marks is_process_text
listed_once zero = ((refl, (refl, tt)), ((refl, tt), (tt, tt)))
listed_once (suc zero) = (tt, tt)
listed_once (suc (suc zero)) = (tt, tt)
listed_once (suc (suc (suc k))) = tt

formal_rows : (k : ℕ) → all_of (λ d. (x : Formal) × (entry_of handed_on.tables d ≡ Some (entry.Formal x))) (formals_in (slice_get handed_on.tables.blocks k))
unfolding is_process_itself own_match by_name is_placed digits element_place making_array copying_array keeping_array finding_element giving_back handed_over stopping no_rule ticking taking entering having when computing choosing popping pop_many pop_plain pop_truth pop_integers pop_operands pop_text answering applying_one applying_two testing_step performing at_level kept_on pushing index level_of_machine cell_at jumping block_at own_block leaving with_result putting is_text home_of first_cells leaving_of_meaning constants_of text_constants putting_of_steps text is_class_free declared_at constant_of calculate compare compare_as_texts connect same_objects same_texts two_of one_of step_test take_integer take_character take_text take_nothing row_of standard_effect default_mode mode_allowed marked type_named result_named mode_named first_of_procedure first_of_class variable_marks array_marks parameter_marks moded_marks specified_marks headed_marks procedure_marks class_marks virtual_name_marks program_marks inner_marks declaring of_segment of_mode_part of_specification of_specifier of_virtual of_heading declared_by declarations_of run_of_runs lookup shown_of_scopes encloser searched block_at_of_scopes declaration_from binding entry_of formals_of formal_of result_of source_of denoted type_at line_at level_of block_of block_around standard_name text_attribute sysin_attribute sysout_attribute signature is_real_function is_random_drawing is_file_or_layout is_environment_name undeclared program_events of_statement of_branch of_arm of_block of_whole of_class_body of_declaration block_number slot_of accessible protects is_kind some_around_of some_around base brought_by level_shows shown_of is_detach ends_search outward virtual_of represented standard_at qualified_marks qualified_result connection_at own_attribute transfer_at levels_of levels is_in is_of has_procedure belongs class_at qualification stream_of is_variable is_attribute own_result result_meant standard_texts text_constant found_at shows_detach if_found found_in is_passed_over class_formals_of class_formals class_formal some_level_of has_level holds_class has_classes has_standard is_simulation_block is_for_prefixing simulation_level_of class_block is_in_chain on_one_chain shared_level_of shared_class names_hidden protector_of protector hides opens is_open fine wrong no_target targets assigned_to call_assigned target sign_agrees with_left lefts compared assigned precedes found is_connected prefix_of frame_text hidden_in block_in_front class_number putting_back assigning making_text joining put_back back_of_steps is_inside class_prefix_marks prefixed_marks prefix_marks standard_marks marks_of_standard standard_prefix object_ended pop_object qualifying referring first_along is_this this_block this_of with_entry_at putting_reference brings_class provides_attribute brought_marks is_process_text
formal_rows zero = tt
formal_rows (suc zero) = ((_, refl), tt)
formal_rows (suc (suc zero)) = ((_, refl), tt)
formal_rows (suc (suc (suc k))) = tt

no_class : (n k : ℕ) → entry_of handed_on.tables (record { 0 = n }) ≡ Some (entry.Class k) → ⊥
unfolding is_process_itself own_match by_name is_placed digits element_place making_array copying_array keeping_array finding_element giving_back handed_over stopping no_rule ticking taking entering having when computing choosing popping pop_many pop_plain pop_truth pop_integers pop_operands pop_text answering applying_one applying_two testing_step performing at_level kept_on pushing index level_of_machine cell_at jumping block_at own_block leaving with_result putting is_text home_of first_cells leaving_of_meaning constants_of text_constants putting_of_steps text is_class_free declared_at constant_of calculate compare compare_as_texts connect same_objects same_texts two_of one_of step_test take_integer take_character take_text take_nothing row_of standard_effect default_mode mode_allowed marked type_named result_named mode_named first_of_procedure first_of_class variable_marks array_marks parameter_marks moded_marks specified_marks headed_marks procedure_marks class_marks virtual_name_marks program_marks inner_marks declaring of_segment of_mode_part of_specification of_specifier of_virtual of_heading declared_by declarations_of run_of_runs lookup shown_of_scopes encloser searched block_at_of_scopes declaration_from binding entry_of formals_of formal_of result_of source_of denoted type_at line_at level_of block_of block_around standard_name text_attribute sysin_attribute sysout_attribute signature is_real_function is_random_drawing is_file_or_layout is_environment_name undeclared program_events of_statement of_branch of_arm of_block of_whole of_class_body of_declaration block_number slot_of accessible protects is_kind some_around_of some_around base brought_by level_shows shown_of is_detach ends_search outward virtual_of represented standard_at qualified_marks qualified_result connection_at own_attribute transfer_at levels_of levels is_in is_of has_procedure belongs class_at qualification stream_of is_variable is_attribute own_result result_meant standard_texts text_constant found_at shows_detach if_found found_in is_passed_over class_formals_of class_formals class_formal some_level_of has_level holds_class has_classes has_standard is_simulation_block is_for_prefixing simulation_level_of class_block is_in_chain on_one_chain shared_level_of shared_class names_hidden protector_of protector hides opens is_open fine wrong no_target targets assigned_to call_assigned target sign_agrees with_left lefts compared assigned precedes found is_connected prefix_of frame_text hidden_in block_in_front class_number putting_back assigning making_text joining put_back back_of_steps is_inside class_prefix_marks prefixed_marks prefix_marks standard_marks marks_of_standard standard_prefix object_ended pop_object qualifying referring first_along is_this this_block this_of with_entry_at putting_reference brings_class provides_attribute brought_marks is_process_text
no_class zero k e = cc
no_class (suc zero) k e = cc
no_class (suc (suc zero)) k e = cc
no_class (suc (suc (suc zero))) k e = cc
no_class (suc (suc (suc (suc zero)))) k e = cc
no_class (suc (suc (suc (suc (suc n))))) k e = cc

nested : (t u : ℕ) → encloser handed_on.tables t ≡ Some u → u < t
nested zero u e = absurd (around_none u e)
nested (suc zero) u e = subst (λ z. z < 1) (same_some (encloser handed_on.tables 1) 0 u around_one e) lt_0_1
nested (suc (suc zero)) u e = subst (λ z. z < 2) (same_some (encloser handed_on.tables 2) 0 u around_two e) lt_0_2
nested (suc (suc (suc t))) u e = absurd (around_past t u e)

none_prefixed : (k : ℕ) → is_prefixed handed_on.tables k ≡ false
unfolding is_prefixed own_match by_name is_placed digits element_place making_array copying_array keeping_array finding_element giving_back handed_over stopping no_rule ticking taking entering having when computing choosing popping pop_many pop_plain pop_truth pop_integers pop_operands pop_text answering applying_one applying_two testing_step performing at_level kept_on pushing index level_of_machine cell_at jumping block_at own_block leaving with_result putting is_text home_of first_cells leaving_of_meaning constants_of text_constants putting_of_steps text is_class_free declared_at constant_of calculate compare compare_as_texts connect same_objects same_texts two_of one_of step_test take_integer take_character take_text take_nothing row_of standard_effect default_mode mode_allowed marked type_named result_named mode_named first_of_procedure first_of_class variable_marks array_marks parameter_marks moded_marks specified_marks headed_marks procedure_marks class_marks virtual_name_marks program_marks inner_marks declaring of_segment of_mode_part of_specification of_specifier of_virtual of_heading declared_by declarations_of run_of_runs lookup shown_of_scopes encloser searched block_at_of_scopes declaration_from binding entry_of formals_of formal_of result_of source_of denoted type_at line_at level_of block_of block_around standard_name text_attribute sysin_attribute sysout_attribute signature is_real_function is_random_drawing is_file_or_layout is_environment_name undeclared program_events of_statement of_branch of_arm of_block of_whole of_class_body of_declaration block_number slot_of accessible protects is_kind some_around_of some_around base brought_by level_shows shown_of is_detach ends_search outward virtual_of represented standard_at qualified_marks qualified_result connection_at own_attribute transfer_at levels_of levels is_in is_of has_procedure belongs class_at qualification stream_of is_variable is_attribute own_result result_meant standard_texts text_constant found_at shows_detach if_found found_in is_passed_over class_formals_of class_formals class_formal some_level_of has_level holds_class has_classes has_standard is_simulation_block is_for_prefixing simulation_level_of class_block is_in_chain on_one_chain shared_level_of shared_class names_hidden protector_of protector hides opens is_open fine wrong no_target targets assigned_to call_assigned target sign_agrees with_left lefts compared assigned precedes found is_connected prefix_of frame_text hidden_in block_in_front class_number putting_back assigning making_text joining put_back back_of_steps is_inside class_prefix_marks prefixed_marks prefix_marks standard_marks marks_of_standard standard_prefix object_ended pop_object qualifying referring first_along is_this this_block this_of with_entry_at putting_reference brings_class provides_attribute brought_marks is_process_text
none_prefixed zero = refl
none_prefixed (suc zero) = refl
none_prefixed (suc (suc zero)) = refl
none_prefixed (suc (suc (suc k))) = refl

prefixed_there : (k : ℕ) → is_prefixed handed_on.tables k ≡ true → (has_levels (text handed_on k) ≡ true) × (is_class (text handed_on k) ≡ false)
prefixed_there k e = absurd (not_both (is_prefixed handed_on.tables k) e (none_prefixed k))

no_standard : (k : ℕ) (which : StandardClass) → text handed_on k ≡ Some (StandardText which) → ⊥
unfolding is_process_itself own_match by_name is_placed digits element_place making_array copying_array keeping_array finding_element giving_back handed_over stopping no_rule ticking taking entering having when computing choosing popping pop_many pop_plain pop_truth pop_integers pop_operands pop_text answering applying_one applying_two testing_step performing at_level kept_on pushing index level_of_machine cell_at jumping block_at own_block leaving with_result putting is_text home_of first_cells leaving_of_meaning constants_of text_constants putting_of_steps text is_class_free declared_at constant_of calculate compare compare_as_texts connect same_objects same_texts two_of one_of step_test take_integer take_character take_text take_nothing row_of standard_effect default_mode mode_allowed marked type_named result_named mode_named first_of_procedure first_of_class variable_marks array_marks parameter_marks moded_marks specified_marks headed_marks procedure_marks class_marks virtual_name_marks program_marks inner_marks declaring of_segment of_mode_part of_specification of_specifier of_virtual of_heading declared_by declarations_of run_of_runs lookup shown_of_scopes encloser searched block_at_of_scopes declaration_from binding entry_of formals_of formal_of result_of source_of denoted type_at line_at level_of block_of block_around standard_name text_attribute sysin_attribute sysout_attribute signature is_real_function is_random_drawing is_file_or_layout is_environment_name undeclared program_events of_statement of_branch of_arm of_block of_whole of_class_body of_declaration block_number slot_of accessible protects is_kind some_around_of some_around base brought_by level_shows shown_of is_detach ends_search outward virtual_of represented standard_at qualified_marks qualified_result connection_at own_attribute transfer_at levels_of levels is_in is_of has_procedure belongs class_at qualification stream_of is_variable is_attribute own_result result_meant standard_texts text_constant found_at shows_detach if_found found_in is_passed_over class_formals_of class_formals class_formal some_level_of has_level holds_class has_classes has_standard is_simulation_block is_for_prefixing simulation_level_of class_block is_in_chain on_one_chain shared_level_of shared_class names_hidden protector_of protector hides opens is_open fine wrong no_target targets assigned_to call_assigned target sign_agrees with_left lefts compared assigned precedes found is_connected prefix_of frame_text hidden_in block_in_front class_number putting_back assigning making_text joining put_back back_of_steps is_inside class_prefix_marks prefixed_marks prefix_marks standard_marks marks_of_standard standard_prefix object_ended pop_object qualifying referring first_along is_this this_block this_of with_entry_at putting_reference brings_class provides_attribute brought_marks is_process_text
no_standard zero which e = cc (e)
no_standard (suc zero) which e = cc (e)
no_standard (suc (suc zero)) which e = cc (e)
no_standard (suc (suc (suc k))) which e = cc (e)

no_virtuals : any_virtual handed_on.tables.declarations ≡ false
unfolding is_process_itself own_match by_name is_placed digits element_place making_array copying_array keeping_array finding_element giving_back handed_over stopping no_rule ticking taking entering having when computing choosing popping pop_many pop_plain pop_truth pop_integers pop_operands pop_text answering applying_one applying_two testing_step performing at_level kept_on pushing index level_of_machine cell_at jumping block_at own_block leaving with_result putting is_text home_of first_cells leaving_of_meaning constants_of text_constants putting_of_steps text is_class_free declared_at constant_of calculate compare compare_as_texts connect same_objects same_texts two_of one_of step_test take_integer take_character take_text take_nothing row_of standard_effect default_mode mode_allowed marked type_named result_named mode_named first_of_procedure first_of_class variable_marks array_marks parameter_marks moded_marks specified_marks headed_marks procedure_marks class_marks virtual_name_marks program_marks inner_marks declaring of_segment of_mode_part of_specification of_specifier of_virtual of_heading declared_by declarations_of run_of_runs lookup shown_of_scopes encloser searched block_at_of_scopes declaration_from binding entry_of formals_of formal_of result_of source_of denoted type_at line_at level_of block_of block_around standard_name text_attribute sysin_attribute sysout_attribute signature is_real_function is_random_drawing is_file_or_layout is_environment_name undeclared program_events of_statement of_branch of_arm of_block of_whole of_class_body of_declaration block_number slot_of accessible protects is_kind some_around_of some_around base brought_by level_shows shown_of is_detach ends_search outward virtual_of represented standard_at qualified_marks qualified_result connection_at own_attribute transfer_at levels_of levels is_in is_of has_procedure belongs class_at qualification stream_of is_variable is_attribute own_result result_meant standard_texts text_constant found_at shows_detach if_found found_in is_passed_over class_formals_of class_formals class_formal some_level_of has_level holds_class has_classes has_standard is_simulation_block is_for_prefixing simulation_level_of class_block is_in_chain on_one_chain shared_level_of shared_class names_hidden protector_of protector hides opens is_open fine wrong no_target targets assigned_to call_assigned target sign_agrees with_left lefts compared assigned precedes found is_connected prefix_of frame_text hidden_in block_in_front class_number putting_back assigning making_text joining put_back back_of_steps is_inside class_prefix_marks prefixed_marks prefix_marks standard_marks marks_of_standard standard_prefix object_ended pop_object qualifying referring first_along is_this this_block this_of with_entry_at putting_reference brings_class provides_attribute brought_marks is_process_text
no_virtuals = refl

ends_there : (k : ℕ) → Ends handed_on.tables 3 k
ends_there k = one_level {n = 2} {k = k} (no_prefix k)

three_texts : length handed_on.tables.blocks ≡ 3
unfolding is_process_itself own_match by_name is_placed digits element_place making_array copying_array keeping_array finding_element giving_back handed_over stopping no_rule ticking taking entering having when computing choosing popping pop_many pop_plain pop_truth pop_integers pop_operands pop_text answering applying_one applying_two testing_step performing at_level kept_on pushing index level_of_machine cell_at jumping block_at own_block leaving with_result putting is_text home_of first_cells leaving_of_meaning constants_of text_constants putting_of_steps text is_class_free declared_at constant_of calculate compare compare_as_texts connect same_objects same_texts two_of one_of step_test take_integer take_character take_text take_nothing row_of standard_effect default_mode mode_allowed marked type_named result_named mode_named first_of_procedure first_of_class variable_marks array_marks parameter_marks moded_marks specified_marks headed_marks procedure_marks class_marks virtual_name_marks program_marks inner_marks declaring of_segment of_mode_part of_specification of_specifier of_virtual of_heading declared_by declarations_of run_of_runs lookup shown_of_scopes encloser searched block_at_of_scopes declaration_from binding entry_of formals_of formal_of result_of source_of denoted type_at line_at level_of block_of block_around standard_name text_attribute sysin_attribute sysout_attribute signature is_real_function is_random_drawing is_file_or_layout is_environment_name undeclared program_events of_statement of_branch of_arm of_block of_whole of_class_body of_declaration block_number slot_of accessible protects is_kind some_around_of some_around base brought_by level_shows shown_of is_detach ends_search outward virtual_of represented standard_at qualified_marks qualified_result connection_at own_attribute transfer_at levels_of levels is_in is_of has_procedure belongs class_at qualification stream_of is_variable is_attribute own_result result_meant standard_texts text_constant found_at shows_detach if_found found_in is_passed_over class_formals_of class_formals class_formal some_level_of has_level holds_class has_classes has_standard is_simulation_block is_for_prefixing simulation_level_of class_block is_in_chain on_one_chain shared_level_of shared_class names_hidden protector_of protector hides opens is_open fine wrong no_target targets assigned_to call_assigned target sign_agrees with_left lefts compared assigned precedes found is_connected prefix_of frame_text hidden_in block_in_front class_number putting_back assigning making_text joining put_back back_of_steps is_inside class_prefix_marks prefixed_marks prefix_marks standard_marks marks_of_standard standard_prefix object_ended pop_object qualifying referring first_along is_this this_block this_of with_entry_at putting_reference brings_class provides_attribute brought_marks is_process_text
three_texts = refl

agree : Agrees handed_on
unfolding is_process_itself own_match by_name is_placed digits element_place making_array copying_array keeping_array finding_element giving_back handed_over stopping no_rule ticking taking entering having when computing choosing popping pop_many pop_plain pop_truth pop_integers pop_operands pop_text answering applying_one applying_two testing_step performing at_level kept_on pushing index level_of_machine cell_at jumping block_at own_block leaving with_result putting is_text home_of first_cells leaving_of_meaning constants_of text_constants putting_of_steps text is_class_free declared_at constant_of calculate compare compare_as_texts connect same_objects same_texts two_of one_of step_test take_integer take_character take_text take_nothing row_of standard_effect default_mode mode_allowed marked type_named result_named mode_named first_of_procedure first_of_class variable_marks array_marks parameter_marks moded_marks specified_marks headed_marks procedure_marks class_marks virtual_name_marks program_marks inner_marks declaring of_segment of_mode_part of_specification of_specifier of_virtual of_heading declared_by declarations_of run_of_runs lookup shown_of_scopes encloser searched block_at_of_scopes declaration_from binding entry_of formals_of formal_of result_of source_of denoted type_at line_at level_of block_of block_around standard_name text_attribute sysin_attribute sysout_attribute signature is_real_function is_random_drawing is_file_or_layout is_environment_name undeclared program_events of_statement of_branch of_arm of_block of_whole of_class_body of_declaration block_number slot_of accessible protects is_kind some_around_of some_around base brought_by level_shows shown_of is_detach ends_search outward virtual_of represented standard_at qualified_marks qualified_result connection_at own_attribute transfer_at levels_of levels is_in is_of has_procedure belongs class_at qualification stream_of is_variable is_attribute own_result result_meant standard_texts text_constant found_at shows_detach if_found found_in is_passed_over class_formals_of class_formals class_formal some_level_of has_level holds_class has_classes has_standard is_simulation_block is_for_prefixing simulation_level_of class_block is_in_chain on_one_chain shared_level_of shared_class names_hidden protector_of protector hides opens is_open fine wrong no_target targets assigned_to call_assigned target sign_agrees with_left lefts compared assigned precedes found is_connected prefix_of frame_text hidden_in block_in_front class_number putting_back assigning making_text joining put_back back_of_steps is_inside class_prefix_marks prefixed_marks prefix_marks standard_marks marks_of_standard standard_prefix object_ended pop_object qualifying referring first_along is_this this_block this_of with_entry_at putting_reference brings_class provides_attribute brought_marks is_process_text
agree = record {
  outermost = refl;
  as_many = refl;
  connected = λ k. none_connected k ∙ sym (no_connection k);
  nesting = nested;
  levels = λ t u e c. levels_agree t u e;
  same_level = λ t u e c. absurd (not_both (is_connected handed_on.tables t) c (none_connected t));
  begun = λ k c. absurd (not_both (is_connected handed_on.tables k) c (none_connected k));
  prefixes = λ k front e. absurd (not_some (prefix_of handed_on.tables k) front (no_prefix k) e);
  prefixed = prefixed_there;
  ends = λ k. subst (λ n. Ends handed_on.tables n k) (sym three_texts) (ends_there k);
  owned = λ k n d e. all_at (λ d. block_of handed_on d ≡ k) (numbers_of handed_on k) (owners k) n d e;
  once = λ k n m d e h. once_at (numbers_of handed_on k) (listed_once k) n m d e h;
  formals = λ k n d e. all_at (λ d. (x : Formal) × (entry_of handed_on.tables d ≡ Some (entry.Formal x))) (formals_in (slice_get handed_on.tables.blocks k)) (formal_rows k) n d e;
  classes = λ d k e. absurd (no_class d.0 k e);
  procedures = λ d result k e. procedures_there d.0 result k e;
  processes = λ k e. absurd (no_standard k standard.Process e);
  blocks = λ k u which p level e. no_standard u which e;
  standards = λ j k which e f level. absurd (no_standard j which e);
  matches = λ v k text is levels e. absurd (no_virtual handed_on no_virtuals v is);
}

pub handed_on_compiled : Compiled handed_on handed_on_code
unfolding is_process_itself own_match by_name is_placed digits element_place making_array copying_array keeping_array finding_element giving_back handed_over stopping no_rule ticking taking entering having when computing choosing popping pop_many pop_plain pop_truth pop_integers pop_operands pop_text answering applying_one applying_two testing_step performing at_level kept_on pushing index level_of_machine cell_at jumping block_at own_block leaving with_result putting is_text home_of first_cells leaving_of_meaning constants_of text_constants putting_of_steps text is_class_free declared_at constant_of calculate compare compare_as_texts connect same_objects same_texts two_of one_of step_test take_integer take_character take_text take_nothing row_of standard_effect default_mode mode_allowed marked type_named result_named mode_named first_of_procedure first_of_class variable_marks array_marks parameter_marks moded_marks specified_marks headed_marks procedure_marks class_marks virtual_name_marks program_marks inner_marks declaring of_segment of_mode_part of_specification of_specifier of_virtual of_heading declared_by declarations_of run_of_runs lookup shown_of_scopes encloser searched block_at_of_scopes declaration_from binding entry_of formals_of formal_of result_of source_of denoted type_at line_at level_of block_of block_around standard_name text_attribute sysin_attribute sysout_attribute signature is_real_function is_random_drawing is_file_or_layout is_environment_name undeclared program_events of_statement of_branch of_arm of_block of_whole of_class_body of_declaration block_number slot_of accessible protects is_kind some_around_of some_around base brought_by level_shows shown_of is_detach ends_search outward virtual_of represented standard_at qualified_marks qualified_result connection_at own_attribute transfer_at levels_of levels is_in is_of has_procedure belongs class_at qualification stream_of is_variable is_attribute own_result result_meant standard_texts text_constant found_at shows_detach if_found found_in is_passed_over class_formals_of class_formals class_formal some_level_of has_level holds_class has_classes has_standard is_simulation_block is_for_prefixing simulation_level_of class_block is_in_chain on_one_chain shared_level_of shared_class names_hidden protector_of protector hides opens is_open fine wrong no_target targets assigned_to call_assigned target sign_agrees with_left lefts compared assigned precedes found is_connected prefix_of frame_text hidden_in block_in_front class_number putting_back assigning making_text joining put_back back_of_steps is_inside class_prefix_marks prefixed_marks prefix_marks standard_marks marks_of_standard standard_prefix object_ended pop_object qualifying referring first_along is_this this_block this_of with_entry_at putting_reference brings_class provides_attribute brought_marks is_process_text
handed_on_compiled = record { agrees = agree; texts = refl; each = λ k x e. subst (Has k) e (each_stands k); matches = λ k x levels e. none_matched handed_on handed_on_code no_virtuals refl k x e; as_many = refl }

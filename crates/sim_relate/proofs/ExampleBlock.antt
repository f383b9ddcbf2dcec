-- The code of a sub-block with arrays, of an assignment to several left sides and of a choice stands for its program.
use Rattle.std.proofs.Common.{true, ◌≡◌, ◌<◌, ◌≤◌, ℕ, zero, suc, [], ◌∷◌, Option, Some, None, refl, ap, ◌∙◌, subst, arith, false, sym}
use Rattle.std.specs.Prelude.{pos, slice_get}
use Rattle.sim_scope.specs.declared.types.StandardClass.{StandardClass}
use Rattle.sim_scope.specs.declared.types.StandardClass.TheVariants as standard
use Rattle.sim_scope.specs.declared.types.Entry.TheVariants as entry
use Rattle.sim_scope.specs.declared.types.SimType.{SimType}
use Rattle.sim_code.specs.declared.code.CodeType.TheVariants as type
use Rattle.sim_code.specs.declared.instr.Instr.TheVariants as i
use Rattle.sim_meaning.specs.Examples.{sub_block}
use Rattle.sim_meaning.specs.Texts.{Text, StandardText}
use Rattle.codegen_expr.specs.Sites.{Site, block_number, further, itself, slot_of}
use Rattle.codegen.specs.Agrees.{Agrees, is_prefixed, last as one_level}
use Rattle.codegen.specs.Compiled.{CodeHas, Compiled}
use Rattle.sim_relate.specs.Examples.{sub_block_apart}
use Rattle.sim_relate.proofs.Placed.{ahead, ins, push}
use Rattle.std.specs.Fmt.{digits}
use Rattle.sim_code.specs.Arrays.{element_place, making_array, copying_array, keeping_array, finding_element, giving_back, handed_over}
use Rattle.sim_code.specs.Events.{stopping, no_rule, ticking, taking, entering, having, when, computing, choosing, popping, pop_many, pop_plain, pop_truth, pop_integers, pop_operands, pop_text, answering, applying_one, applying_two, testing_step, performing}
use Rattle.sim_code.specs.Instances.{at_level, kept_on}
use Rattle.sim_code.specs.Machine.{pushing, index, level as level_of_machine, cell_at, jumping, block_at, own_block, leaving, with_result}
use Rattle.sim_code.specs.Rows.{putting}
use Rattle.sim_meaning.specs.Closing.{is_text, home_of, own_match, by_name, is_placed}
use Rattle.sim_meaning.specs.Entries.{first_cells}
use Rattle.sim_meaning.specs.Meaning.{leaving as leaving_of_meaning}
use Rattle.sim_meaning.specs.Constants.{constants_of, text_constants}
use Rattle.sim_meaning.specs.Steps.{putting as putting_of_steps}
use Rattle.sim_meaning.specs.Texts.{text, is_class_free, declared_at, constant_of}
use Rattle.sim_values.specs.Operators.{calculate, compare, compare_as_texts, connect, same_objects, same_texts, two_of, one_of, step_test}
use Rattle.sim_values.specs.Standard.{take_integer, take_character, take_text, take_nothing, row_of, standard_effect}
use Rattle.sim_scope.specs.Building.{default_mode, mode_allowed, marked}
use Rattle.sim_scope.specs.Declare.{type_named, result_named, mode_named, first_of_procedure, first_of_class, variable_marks, array_marks, parameter_marks, moded_marks, specified_marks, headed_marks, procedure_marks, class_marks, virtual_name_marks, program_marks, inner_marks, declaring, of_segment, of_mode_part, of_specification, of_specifier, of_virtual, of_heading, declared_by, declarations_of, qualified_marks, qualified_result}
use Rattle.sim_scope.specs.Runs.{run as run_of_runs}
use Rattle.sim_scope.specs.Access.{encloser, block_at as block_at_of_scopes, accessible, protects, is_kind, some_around_of, some_around}
use Rattle.sim_scope.specs.Levels.{base}
use Rattle.sim_scope.specs.Scopes.{lookup, shown as shown_of_scopes, searched, declaration_from, binding, entry_of, formals_of, formal_of, result_of, brought_by, level_shows, shown_of, is_detach, ends_search, outward, virtual_of, represented, standard_at}
use Rattle.sim_scope.specs.Source.{source_of, denoted, type_at, line_at, level_of, block_of, block_around}
use Rattle.sim_scope.specs.Standard.{standard_name, text_attribute, sysin_attribute, sysout_attribute, signature, is_real_function, is_random_drawing, is_file_or_layout, is_environment_name, undeclared}
use Rattle.sim_scope.specs.Walk.{program_events, of_statement, of_branch, of_arm, of_block, of_whole, of_class_body, of_declaration}
use Rattle.sim_meaning.specs.Attributes.{connection_at, own_attribute, transfer_at}
use Rattle.sim_meaning.specs.Levels.{has_levels, is_class, levels_of, levels, is_in, is_of, has_procedure, belongs, class_at, qualification, is_process_itself}
use Rattle.sim_meaning.specs.Closing.{stream_of, is_variable, is_attribute, own_result, result_meant}
use Rattle.sim_meaning.specs.Texts.{standard_texts}
use Rattle.sim_meaning.specs.Constants.{text_constant}
use Rattle.sim_scope.specs.Source.{found_at}
use Rattle.sim_scope.specs.Scopes.{shows_detach, if_found, found_in, is_passed_over, class_formals_of, class_formals, class_formal}
use Rattle.sim_scope.specs.Levels.{some_level_of, has_level, holds_class, has_classes, has_standard, is_simulation_block, is_for_prefixing, simulation_level_of, class_block, is_in_chain, on_one_chain, shared_level_of, shared_class}
use Rattle.sim_scope.specs.Access.{names_hidden, protector_of, protector, hides, opens, is_open}
use Rattle.sim_scope.specs.Assignments.{fine, wrong, no_target, targets, assigned_to, call_assigned, target, sign_agrees, with_left, lefts, compared, assigned}
use Rattle.sim_scope.specs.Found.{precedes, found}
use Rattle.codegen_expr.specs.Sites.{is_connected, prefix_of, frame_text, hidden_in, block_in_front, class_number}
use Rattle.sim_meaning.specs.Attributes.{is_connection}
use Rattle.sim_meaning.specs.Entries.{numbers_of}
use Rattle.sim_relate.proofs.ExampleTables.{all_at, all_of, apart, not_both, not_some, once_at, any_virtual, no_virtual, none_matched}
use Rattle.sim_scope.specs.Scopes.{formals_in}
use Rattle.sim_scope.specs.declared.types.Formal.{Formal}

abbrev outer : Site
outer = record { text = 0; room = 6; temps = 2; used = 5; size = 6; thunk = None }

abbrev inner : Site
inner = record { text = 1; room = 6; temps = 2; used = 5; size = 2; thunk = None }

lt_0_1 : 0 < 1
lt_0_1 = omega arith

lt_0_2 : 0 < 2
lt_0_2 = omega arith

le_0_6 : 0 ≤ 6
le_0_6 = omega arith

lt_0_6 : 0 < 6
lt_0_6 = omega arith

lt_1_2 : 1 < 2
lt_1_2 = omega arith

lt_1_6 : 1 < 6
lt_1_6 = omega arith

lt_1_62 : 1 < 62
lt_1_62 = omega arith

lt_5_6 : 5 < 6
lt_5_6 = omega arith

lt_2_6 : 2 < 6
lt_2_6 = omega arith

lt_14_21 : 14 < 21
lt_14_21 = omega arith

lt_20_22 : 20 < 22
lt_20_22 = omega arith

lt_21_62 : 21 < 62
lt_21_62 = omega arith

lt_22_28 : 22 < 28
lt_22_28 = omega arith

lt_22_62 : 22 < 62
lt_22_62 = omega arith

lt_27_32 : 27 < 32
lt_27_32 = omega arith

lt_28_62 : 28 < 62
lt_28_62 = omega arith

lt_32_62 : 32 < 62
lt_32_62 = omega arith

lt_35_62 : 35 < 62
lt_35_62 = omega arith

le_5_5 : 5 ≤ 5
le_5_5 = omega arith

abbrev Has : ℕ → Option Text → Type 0
Has k None = Unit {0}
Has k (Some x) = CodeHas sub_block sub_block_apart k x (slice_get sub_block_apart.blocks (block_number sub_block k))

program_stands : Has 0 (text sub_block 0)
unfolding is_process_itself own_match by_name is_placed digits element_place making_array copying_array keeping_array finding_element giving_back handed_over stopping no_rule ticking taking entering having when computing choosing popping pop_many pop_plain pop_truth pop_integers pop_operands pop_text answering applying_one applying_two testing_step performing at_level kept_on pushing index level_of_machine cell_at jumping block_at own_block leaving with_result putting is_text home_of first_cells leaving_of_meaning constants_of text_constants putting_of_steps text is_class_free declared_at constant_of calculate compare compare_as_texts connect same_objects same_texts two_of one_of step_test take_integer take_character take_text take_nothing row_of standard_effect default_mode mode_allowed marked type_named result_named mode_named first_of_procedure first_of_class variable_marks array_marks parameter_marks moded_marks specified_marks headed_marks procedure_marks class_marks virtual_name_marks program_marks inner_marks declaring of_segment of_mode_part of_specification of_specifier of_virtual of_heading declared_by declarations_of run_of_runs lookup shown_of_scopes encloser searched block_at_of_scopes declaration_from binding entry_of formals_of formal_of result_of source_of denoted type_at line_at level_of block_of block_around standard_name text_attribute sysin_attribute sysout_attribute signature is_real_function is_random_drawing is_file_or_layout is_environment_name undeclared program_events of_statement of_branch of_arm of_block of_whole of_class_body of_declaration block_number slot_of accessible protects is_kind some_around_of some_around base brought_by level_shows shown_of is_detach ends_search outward virtual_of represented standard_at qualified_marks qualified_result connection_at own_attribute transfer_at levels_of levels is_in is_of has_procedure belongs class_at qualification stream_of is_variable is_attribute own_result result_meant standard_texts text_constant found_at shows_detach if_found found_in is_passed_over class_formals_of class_formals class_formal some_level_of has_level holds_class has_classes has_standard is_simulation_block is_for_prefixing simulation_level_of class_block is_in_chain on_one_chain shared_level_of shared_class names_hidden protector_of protector hides opens is_open fine wrong no_target targets assigned_to call_assigned target sign_agrees with_left lefts compared assigned precedes found is_connected prefix_of frame_text hidden_in block_in_front class_number
program_stands = record { heads = record { is_kind = refl; level = refl; cells = refl; class_free = refl; gives = refl; formals = refl; temps = type.Nothing ∷ type.Nothing ∷ type.Nothing ∷ type.Nothing ∷ []; types = refl; counted = refl; roomy = le_0_6 }; start = 1; enter = record { at = refl; on = refl }; body = record { there = lt_1_62; stop = 34; body = (1, refl, (8, (2, ins sub_block_apart (i.Tick) 0 1 refl, (itself, lt_0_2, (itself, lt_1_2, record { x = 3; y = 4; temp = 5; behind = le_5_5; within = lt_5_6; value = push sub_block_apart outer 0 (i.Int (pos 2)) 0 2 lt_0_6 refl; kept = ins sub_block_apart (i.Store (pos 1) (pos 5)) 0 3 refl; gives = (5, 6, push sub_block_apart outer 0 (i.Load (pos 1) (pos 5)) 0 4 lt_0_6 refl, ins sub_block_apart (i.Store (pos 1) (pos 1)) 0 5 refl, (7, 8, push sub_block_apart outer 0 (i.Load (pos 1) (pos 5)) 0 6 lt_0_6 refl, ins sub_block_apart (i.Store (pos 1) (pos 0)) 0 7 refl, refl)) }))), (10, (9, ins sub_block_apart (i.Tick) 0 8 refl, (refl, record { at = refl; on = refl })), (32, (11, ins sub_block_apart (i.Tick) 0 10 refl, record { y = 22; z = 23; w = 27; x = 28; test = record { y = 14; z = 15; w = 20; x = 21; test = (12, 13, (refl, record { load = push sub_block_apart outer 0 (i.Load (pos 1) (pos 0)) 0 11 lt_0_6 refl; inside = itself; within = lt_0_2 }), push sub_block_apart outer 1 (i.Int (pos 2)) 0 12 lt_1_6 refl, record { at = refl; on = refl }); jump = ins sub_block_apart (i.JumpF (pos 21)) 0 14 refl; leads = ahead sub_block_apart 14 21 lt_14_21 lt_21_62; first = (18, 19, (16, 17, (refl, record { load = push sub_block_apart outer 0 (i.Load (pos 1) (pos 1)) 0 15 lt_0_6 refl; inside = itself; within = lt_1_2 }), (refl, record { load = push sub_block_apart outer 1 (i.Load (pos 1) (pos 0)) 0 16 lt_1_6 refl; inside = itself; within = lt_0_2 }), record { at = refl; on = refl }), push sub_block_apart outer 1 (i.Int (pos 1)) 0 18 lt_1_6 refl, record { at = refl; on = refl }); over = ins sub_block_apart (i.Jump (pos 22)) 0 20 refl; past = ahead sub_block_apart 20 22 lt_20_22 lt_22_62; second = push sub_block_apart outer 0 (i.Bool (pos 0)) 0 21 lt_0_6 refl }; jump = ins sub_block_apart (i.JumpF (pos 28)) 0 22 refl; leads = ahead sub_block_apart 22 28 lt_22_28 lt_28_62; first = (24, 27, ins sub_block_apart (i.Tick) 0 23 refl, (refl, (26, (25, (refl, record { load = push sub_block_apart outer 0 (i.Load (pos 1) (pos 0)) 0 24 lt_0_6 refl; inside = itself; within = lt_0_2 }), (26, push sub_block_apart outer 1 (i.Int (pos 2)) 0 25 lt_1_6 refl, refl)), record { as_many = refl; number = 40; numbered = refl; is = record { at = refl; on = refl }; fits = λ e. absurd (cc) })), refl); over = ins sub_block_apart (i.Jump (pos 32)) 0 27 refl; past = ahead sub_block_apart 27 32 lt_27_32 lt_32_62; second = (32, (29, 32, ins sub_block_apart (i.Tick) 0 28 refl, (refl, (31, (30, push sub_block_apart outer 0 (i.Int (pos 0)) 0 29 lt_0_6 refl, (31, push sub_block_apart outer 1 (i.Int (pos 2)) 0 30 lt_1_6 refl, refl)), record { as_many = refl; number = 40; numbered = refl; is = record { at = refl; on = refl }; fits = λ e. absurd (cc) })), refl), refl) }), (34, (33, 34, ins sub_block_apart (i.Tick) 0 32 refl, (refl, (33, refl, record { as_many = refl; number = 37; numbered = refl; is = record { at = refl; on = refl }; fits = λ e. absurd (cc) })), refl), refl))))); last = 35; ends = ins sub_block_apart (i.EndLevel (pos 0)) 0 34 refl } }

block_stands : Has 1 (text sub_block 1)
unfolding is_process_itself own_match by_name is_placed digits element_place making_array copying_array keeping_array finding_element giving_back handed_over stopping no_rule ticking taking entering having when computing choosing popping pop_many pop_plain pop_truth pop_integers pop_operands pop_text answering applying_one applying_two testing_step performing at_level kept_on pushing index level_of_machine cell_at jumping block_at own_block leaving with_result putting is_text home_of first_cells leaving_of_meaning constants_of text_constants putting_of_steps text is_class_free declared_at constant_of calculate compare compare_as_texts connect same_objects same_texts two_of one_of step_test take_integer take_character take_text take_nothing row_of standard_effect default_mode mode_allowed marked type_named result_named mode_named first_of_procedure first_of_class variable_marks array_marks parameter_marks moded_marks specified_marks headed_marks procedure_marks class_marks virtual_name_marks program_marks inner_marks declaring of_segment of_mode_part of_specification of_specifier of_virtual of_heading declared_by declarations_of run_of_runs lookup shown_of_scopes encloser searched block_at_of_scopes declaration_from binding entry_of formals_of formal_of result_of source_of denoted type_at line_at level_of block_of block_around standard_name text_attribute sysin_attribute sysout_attribute signature is_real_function is_random_drawing is_file_or_layout is_environment_name undeclared program_events of_statement of_branch of_arm of_block of_whole of_class_body of_declaration block_number slot_of accessible protects is_kind some_around_of some_around base brought_by level_shows shown_of is_detach ends_search outward virtual_of represented standard_at qualified_marks qualified_result connection_at own_attribute transfer_at levels_of levels is_in is_of has_procedure belongs class_at qualification stream_of is_variable is_attribute own_result result_meant standard_texts text_constant found_at shows_detach if_found found_in is_passed_over class_formals_of class_formals class_formal some_level_of has_level holds_class has_classes has_standard is_simulation_block is_for_prefixing simulation_level_of class_block is_in_chain on_one_chain shared_level_of shared_class names_hidden protector_of protector hides opens is_open fine wrong no_target targets assigned_to call_assigned target sign_agrees with_left lefts compared assigned precedes found is_connected prefix_of frame_text hidden_in block_in_front class_number
block_stands = record { heads = record { is_kind = refl; level = refl; cells = refl; class_free = refl; gives = refl; formals = refl; temps = []; types = refl; counted = refl; roomy = le_0_6 }; body = record { there = lt_35_62; stop = 61; body = (43, (43, (39, (36, 37, (refl, record { load = push sub_block_apart inner 0 (i.Load (pos 1) (pos 0)) 0 35 lt_0_6 refl; inside = further refl itself; within = lt_0_2 }), push sub_block_apart inner 1 (i.Int (pos 3)) 0 36 lt_1_6 refl, (38, 39, lt_0_1, lt_0_6, record { at = refl; on = refl }, (lt_0_2, refl, ins sub_block_apart (i.Store (pos 2) (pos 0)) 0 38 refl), refl)), (43, (40, 41, push sub_block_apart inner 0 (i.Int (pos 1)) 0 39 lt_0_6 refl, (refl, record { load = push sub_block_apart inner 1 (i.Load (pos 1) (pos 1)) 0 40 lt_1_6 refl; inside = further refl itself; within = lt_1_2 }), (42, 43, lt_0_1, lt_0_6, record { at = refl; on = refl }, (lt_1_2, refl, ins sub_block_apart (i.Store (pos 2) (pos 1)) 0 42 refl), refl)), refl)), refl), (54, (44, ins sub_block_apart (i.Tick) 0 43 refl, (47, record { x = 45; y = 46; array = record { load = push sub_block_apart inner 0 (i.Load (pos 2) (pos 0)) 0 44 lt_0_6 refl; inside = itself; within = lt_0_2 }; subscripts = (46, push sub_block_apart inner 1 (i.Int (pos 3)) 0 45 lt_1_6 refl, refl); found = record { at = refl; on = refl } }, (53, (51, 52, (refl, (50, record { x = 48; y = 49; array = record { load = push sub_block_apart inner 1 (i.Load (pos 2) (pos 1)) 0 47 lt_1_6 refl; inside = itself; within = lt_1_2 }; subscripts = (49, push sub_block_apart inner 2 (i.Int (pos 2)) 0 48 lt_2_6 refl, refl); found = record { at = refl; on = refl } }, ins sub_block_apart (i.Fetch) 0 50 refl)), push sub_block_apart inner 2 (i.Int (pos 5)) 0 51 lt_2_6 refl, record { at = refl; on = refl }), ins sub_block_apart (i.Put) 0 53 refl))), (61, (55, 61, ins sub_block_apart (i.Tick) 0 54 refl, (refl, (60, (59, (refl, (58, record { x = 56; y = 57; array = record { load = push sub_block_apart inner 0 (i.Load (pos 2) (pos 0)) 0 55 lt_0_6 refl; inside = itself; within = lt_0_2 }; subscripts = (57, push sub_block_apart inner 1 (i.Int (pos 3)) 0 56 lt_1_6 refl, refl); found = record { at = refl; on = refl } }, ins sub_block_apart (i.Fetch) 0 58 refl)), (60, push sub_block_apart inner 1 (i.Int (pos 3)) 0 59 lt_1_6 refl, refl)), record { as_many = refl; number = 40; numbered = refl; is = record { at = refl; on = refl }; fits = λ e. absurd (cc) })), refl), refl))); last = 62; ends = ins sub_block_apart (i.Leave) 0 61 refl } }

no_more : (k : ℕ) → Has (suc (suc k)) (text sub_block (suc (suc k)))
unfolding is_process_itself own_match by_name is_placed digits element_place making_array copying_array keeping_array finding_element giving_back handed_over stopping no_rule ticking taking entering having when computing choosing popping pop_many pop_plain pop_truth pop_integers pop_operands pop_text answering applying_one applying_two testing_step performing at_level kept_on pushing index level_of_machine cell_at jumping block_at own_block leaving with_result putting is_text home_of first_cells leaving_of_meaning constants_of text_constants putting_of_steps text is_class_free declared_at constant_of calculate compare compare_as_texts connect same_objects same_texts two_of one_of step_test take_integer take_character take_text take_nothing row_of standard_effect default_mode mode_allowed marked type_named result_named mode_named first_of_procedure first_of_class variable_marks array_marks parameter_marks moded_marks specified_marks headed_marks procedure_marks class_marks virtual_name_marks program_marks inner_marks declaring of_segment of_mode_part of_specification of_specifier of_virtual of_heading declared_by declarations_of run_of_runs lookup shown_of_scopes encloser searched block_at_of_scopes declaration_from binding entry_of formals_of formal_of result_of source_of denoted type_at line_at level_of block_of block_around standard_name text_attribute sysin_attribute sysout_attribute signature is_real_function is_random_drawing is_file_or_layout is_environment_name undeclared program_events of_statement of_branch of_arm of_block of_whole of_class_body of_declaration block_number slot_of accessible protects is_kind some_around_of some_around base brought_by level_shows shown_of is_detach ends_search outward virtual_of represented standard_at qualified_marks qualified_result connection_at own_attribute transfer_at levels_of levels is_in is_of has_procedure belongs class_at qualification stream_of is_variable is_attribute own_result result_meant standard_texts text_constant found_at shows_detach if_found found_in is_passed_over class_formals_of class_formals class_formal some_level_of has_level holds_class has_classes has_standard is_simulation_block is_for_prefixing simulation_level_of class_block is_in_chain on_one_chain shared_level_of shared_class names_hidden protector_of protector hides opens is_open fine wrong no_target targets assigned_to call_assigned target sign_agrees with_left lefts compared assigned precedes found is_connected prefix_of frame_text hidden_in block_in_front class_number
no_more k = tt

each_stands : (k : ℕ) → Has k (text sub_block k)
each_stands zero = program_stands
each_stands (suc zero) = block_stands
each_stands (suc (suc k)) = no_more k

same_some : (o : Option ℕ) (a b : ℕ) → o ≡ Some a → o ≡ Some b → a ≡ b
same_some o a b e f = cc

around_one : encloser sub_block.tables 1 ≡ Some 0
unfolding is_process_itself own_match by_name is_placed digits element_place making_array copying_array keeping_array finding_element giving_back handed_over stopping no_rule ticking taking entering having when computing choosing popping pop_many pop_plain pop_truth pop_integers pop_operands pop_text answering applying_one applying_two testing_step performing at_level kept_on pushing index level_of_machine cell_at jumping block_at own_block leaving with_result putting is_text home_of first_cells leaving_of_meaning constants_of text_constants putting_of_steps text is_class_free declared_at constant_of calculate compare compare_as_texts connect same_objects same_texts two_of one_of step_test take_integer take_character take_text take_nothing row_of standard_effect default_mode mode_allowed marked type_named result_named mode_named first_of_procedure first_of_class variable_marks array_marks parameter_marks moded_marks specified_marks headed_marks procedure_marks class_marks virtual_name_marks program_marks inner_marks declaring of_segment of_mode_part of_specification of_specifier of_virtual of_heading declared_by declarations_of run_of_runs lookup shown_of_scopes encloser searched block_at_of_scopes declaration_from binding entry_of formals_of formal_of result_of source_of denoted type_at line_at level_of block_of block_around standard_name text_attribute sysin_attribute sysout_attribute signature is_real_function is_random_drawing is_file_or_layout is_environment_name undeclared program_events of_statement of_branch of_arm of_block of_whole of_class_body of_declaration block_number slot_of accessible protects is_kind some_around_of some_around base brought_by level_shows shown_of is_detach ends_search outward virtual_of represented standard_at qualified_marks qualified_result connection_at own_attribute transfer_at levels_of levels is_in is_of has_procedure belongs class_at qualification stream_of is_variable is_attribute own_result result_meant standard_texts text_constant found_at shows_detach if_found found_in is_passed_over class_formals_of class_formals class_formal some_level_of has_level holds_class has_classes has_standard is_simulation_block is_for_prefixing simulation_level_of class_block is_in_chain on_one_chain shared_level_of shared_class names_hidden protector_of protector hides opens is_open fine wrong no_target targets assigned_to call_assigned target sign_agrees with_left lefts compared assigned precedes found is_connected prefix_of frame_text hidden_in block_in_front class_number
around_one = refl

levels_one : level_of sub_block 1 ≡ suc (level_of sub_block 0)
unfolding is_process_itself own_match by_name is_placed digits element_place making_array copying_array keeping_array finding_element giving_back handed_over stopping no_rule ticking taking entering having when computing choosing popping pop_many pop_plain pop_truth pop_integers pop_operands pop_text answering applying_one applying_two testing_step performing at_level kept_on pushing index level_of_machine cell_at jumping block_at own_block leaving with_result putting is_text home_of first_cells leaving_of_meaning constants_of text_constants putting_of_steps text is_class_free declared_at constant_of calculate compare compare_as_texts connect same_objects same_texts two_of one_of step_test take_integer take_character take_text take_nothing row_of standard_effect default_mode mode_allowed marked type_named result_named mode_named first_of_procedure first_of_class variable_marks array_marks parameter_marks moded_marks specified_marks headed_marks procedure_marks class_marks virtual_name_marks program_marks inner_marks declaring of_segment of_mode_part of_specification of_specifier of_virtual of_heading declared_by declarations_of run_of_runs lookup shown_of_scopes encloser searched block_at_of_scopes declaration_from binding entry_of formals_of formal_of result_of source_of denoted type_at line_at level_of block_of block_around standard_name text_attribute sysin_attribute sysout_attribute signature is_real_function is_random_drawing is_file_or_layout is_environment_name undeclared program_events of_statement of_branch of_arm of_block of_whole of_class_body of_declaration block_number slot_of accessible protects is_kind some_around_of some_around base brought_by level_shows shown_of is_detach ends_search outward virtual_of represented standard_at qualified_marks qualified_result connection_at own_attribute transfer_at levels_of levels is_in is_of has_procedure belongs class_at qualification stream_of is_variable is_attribute own_result result_meant standard_texts text_constant found_at shows_detach if_found found_in is_passed_over class_formals_of class_formals class_formal some_level_of has_level holds_class has_classes has_standard is_simulation_block is_for_prefixing simulation_level_of class_block is_in_chain on_one_chain shared_level_of shared_class names_hidden protector_of protector hides opens is_open fine wrong no_target targets assigned_to call_assigned target sign_agrees with_left lefts compared assigned precedes found is_connected prefix_of frame_text hidden_in block_in_front class_number
levels_one = refl

around_none : (u : ℕ) → encloser sub_block.tables 0 ≡ Some u → ⊥
unfolding is_process_itself own_match by_name is_placed digits element_place making_array copying_array keeping_array finding_element giving_back handed_over stopping no_rule ticking taking entering having when computing choosing popping pop_many pop_plain pop_truth pop_integers pop_operands pop_text answering applying_one applying_two testing_step performing at_level kept_on pushing index level_of_machine cell_at jumping block_at own_block leaving with_result putting is_text home_of first_cells leaving_of_meaning constants_of text_constants putting_of_steps text is_class_free declared_at constant_of calculate compare compare_as_texts connect same_objects same_texts two_of one_of step_test take_integer take_character take_text take_nothing row_of standard_effect default_mode mode_allowed marked type_named result_named mode_named first_of_procedure first_of_class variable_marks array_marks parameter_marks moded_marks specified_marks headed_marks procedure_marks class_marks virtual_name_marks program_marks inner_marks declaring of_segment of_mode_part of_specification of_specifier of_virtual of_heading declared_by declarations_of run_of_runs lookup shown_of_scopes encloser searched block_at_of_scopes declaration_from binding entry_of formals_of formal_of result_of source_of denoted type_at line_at level_of block_of block_around standard_name text_attribute sysin_attribute sysout_attribute signature is_real_function is_random_drawing is_file_or_layout is_environment_name undeclared program_events of_statement of_branch of_arm of_block of_whole of_class_body of_declaration block_number slot_of accessible protects is_kind some_around_of some_around base brought_by level_shows shown_of is_detach ends_search outward virtual_of represented standard_at qualified_marks qualified_result connection_at own_attribute transfer_at levels_of levels is_in is_of has_procedure belongs class_at qualification stream_of is_variable is_attribute own_result result_meant standard_texts text_constant found_at shows_detach if_found found_in is_passed_over class_formals_of class_formals class_formal some_level_of has_level holds_class has_classes has_standard is_simulation_block is_for_prefixing simulation_level_of class_block is_in_chain on_one_chain shared_level_of shared_class names_hidden protector_of protector hides opens is_open fine wrong no_target targets assigned_to call_assigned target sign_agrees with_left lefts compared assigned precedes found is_connected prefix_of frame_text hidden_in block_in_front class_number
around_none u e = cc

around_past : (t u : ℕ) → encloser sub_block.tables (suc (suc t)) ≡ Some u → ⊥
unfolding is_process_itself own_match by_name is_placed digits element_place making_array copying_array keeping_array finding_element giving_back handed_over stopping no_rule ticking taking entering having when computing choosing popping pop_many pop_plain pop_truth pop_integers pop_operands pop_text answering applying_one applying_two testing_step performing at_level kept_on pushing index level_of_machine cell_at jumping block_at own_block leaving with_result putting is_text home_of first_cells leaving_of_meaning constants_of text_constants putting_of_steps text is_class_free declared_at constant_of calculate compare compare_as_texts connect same_objects same_texts two_of one_of step_test take_integer take_character take_text take_nothing row_of standard_effect default_mode mode_allowed marked type_named result_named mode_named first_of_procedure first_of_class variable_marks array_marks parameter_marks moded_marks specified_marks headed_marks procedure_marks class_marks virtual_name_marks program_marks inner_marks declaring of_segment of_mode_part of_specification of_specifier of_virtual of_heading declared_by declarations_of run_of_runs lookup shown_of_scopes encloser searched block_at_of_scopes declaration_from binding entry_of formals_of formal_of result_of source_of denoted type_at line_at level_of block_of block_around standard_name text_attribute sysin_attribute sysout_attribute signature is_real_function is_random_drawing is_file_or_layout is_environment_name undeclared program_events of_statement of_branch of_arm of_block of_whole of_class_body of_declaration block_number slot_of accessible protects is_kind some_around_of some_around base brought_by level_shows shown_of is_detach ends_search outward virtual_of represented standard_at qualified_marks qualified_result connection_at own_attribute transfer_at levels_of levels is_in is_of has_procedure belongs class_at qualification stream_of is_variable is_attribute own_result result_meant standard_texts text_constant found_at shows_detach if_found found_in is_passed_over class_formals_of class_formals class_formal some_level_of has_level holds_class has_classes has_standard is_simulation_block is_for_prefixing simulation_level_of class_block is_in_chain on_one_chain shared_level_of shared_class names_hidden protector_of protector hides opens is_open fine wrong no_target targets assigned_to call_assigned target sign_agrees with_left lefts compared assigned precedes found is_connected prefix_of frame_text hidden_in block_in_front class_number
around_past t u e = cc

levels_agree : (t u : ℕ) → encloser sub_block.tables t ≡ Some u → level_of sub_block t ≡ suc (level_of sub_block u)
levels_agree zero u e = absurd (around_none u e)
levels_agree (suc zero) u e = levels_one ∙ ap (λ k. suc (level_of sub_block k)) (same_some (encloser sub_block.tables 1) 0 u around_one e)
levels_agree (suc (suc t)) u e = absurd (around_past t u e)

no_procedure : (n : ℕ) (result : Option SimType) (k : ℕ) → entry_of sub_block.tables (record { 0 = n }) ≡ Some (entry.Procedure result k) → ⊥
unfolding is_process_itself own_match by_name is_placed digits element_place making_array copying_array keeping_array finding_element giving_back handed_over stopping no_rule ticking taking entering having when computing choosing popping pop_many pop_plain pop_truth pop_integers pop_operands pop_text answering applying_one applying_two testing_step performing at_level kept_on pushing index level_of_machine cell_at jumping block_at own_block leaving with_result putting is_text home_of first_cells leaving_of_meaning constants_of text_constants putting_of_steps text is_class_free declared_at constant_of calculate compare compare_as_texts connect same_objects same_texts two_of one_of step_test take_integer take_character take_text take_nothing row_of standard_effect default_mode mode_allowed marked type_named result_named mode_named first_of_procedure first_of_class variable_marks array_marks parameter_marks moded_marks specified_marks headed_marks procedure_marks class_marks virtual_name_marks program_marks inner_marks declaring of_segment of_mode_part of_specification of_specifier of_virtual of_heading declared_by declarations_of run_of_runs lookup shown_of_scopes encloser searched block_at_of_scopes declaration_from binding entry_of formals_of formal_of result_of source_of denoted type_at line_at level_of block_of block_around standard_name text_attribute sysin_attribute sysout_attribute signature is_real_function is_random_drawing is_file_or_layout is_environment_name undeclared program_events of_statement of_branch of_arm of_block of_whole of_class_body of_declaration block_number slot_of accessible protects is_kind some_around_of some_around base brought_by level_shows shown_of is_detach ends_search outward virtual_of represented standard_at qualified_marks qualified_result connection_at own_attribute transfer_at levels_of levels is_in is_of has_procedure belongs class_at qualification stream_of is_variable is_attribute own_result result_meant standard_texts text_constant found_at shows_detach if_found found_in is_passed_over class_formals_of class_formals class_formal some_level_of has_level holds_class has_classes has_standard is_simulation_block is_for_prefixing simulation_level_of class_block is_in_chain on_one_chain shared_level_of shared_class names_hidden protector_of protector hides opens is_open fine wrong no_target targets assigned_to call_assigned target sign_agrees with_left lefts compared assigned precedes found is_connected prefix_of frame_text hidden_in block_in_front class_number
no_procedure zero result k e = cc
no_procedure (suc zero) result k e = cc
no_procedure (suc (suc zero)) result k e = cc
no_procedure (suc (suc (suc zero))) result k e = cc
no_procedure (suc (suc (suc (suc n)))) result k e = cc

none_connected : (k : ℕ) → is_connected sub_block.tables k ≡ false
unfolding is_process_itself own_match by_name is_placed digits element_place making_array copying_array keeping_array finding_element giving_back handed_over stopping no_rule ticking taking entering having when computing choosing popping pop_many pop_plain pop_truth pop_integers pop_operands pop_text answering applying_one applying_two testing_step performing at_level kept_on pushing index level_of_machine cell_at jumping block_at own_block leaving with_result putting is_text home_of first_cells leaving_of_meaning constants_of text_constants putting_of_steps text is_class_free declared_at constant_of calculate compare compare_as_texts connect same_objects same_texts two_of one_of step_test take_integer take_character take_text take_nothing row_of standard_effect default_mode mode_allowed marked type_named result_named mode_named first_of_procedure first_of_class variable_marks array_marks parameter_marks moded_marks specified_marks headed_marks procedure_marks class_marks virtual_name_marks program_marks inner_marks declaring of_segment of_mode_part of_specification of_specifier of_virtual of_heading declared_by declarations_of run_of_runs lookup shown_of_scopes encloser searched block_at_of_scopes declaration_from binding entry_of formals_of formal_of result_of source_of denoted type_at line_at level_of block_of block_around standard_name text_attribute sysin_attribute sysout_attribute signature is_real_function is_random_drawing is_file_or_layout is_environment_name undeclared program_events of_statement of_branch of_arm of_block of_whole of_class_body of_declaration block_number slot_of accessible protects is_kind some_around_of some_around base brought_by level_shows shown_of is_detach ends_search outward virtual_of represented standard_at qualified_marks qualified_result connection_at own_attribute transfer_at levels_of levels is_in is_of has_procedure belongs class_at qualification stream_of is_variable is_attribute own_result result_meant standard_texts text_constant found_at shows_detach if_found found_in is_passed_over class_formals_of class_formals class_formal some_level_of has_level holds_class has_classes has_standard is_simulation_block is_for_prefixing simulation_level_of class_block is_in_chain on_one_chain shared_level_of shared_class names_hidden protector_of protector hides opens is_open fine wrong no_target targets assigned_to call_assigned target sign_agrees with_left lefts compared assigned precedes found is_connected prefix_of frame_text hidden_in block_in_front class_number
none_connected zero = refl
none_connected (suc zero) = refl
none_connected (suc (suc k)) = refl

no_connection : (k : ℕ) → is_connection (text sub_block k) ≡ false
unfolding is_process_itself own_match by_name is_placed digits element_place making_array copying_array keeping_array finding_element giving_back handed_over stopping no_rule ticking taking entering having when computing choosing popping pop_many pop_plain pop_truth pop_integers pop_operands pop_text answering applying_one applying_two testing_step performing at_level kept_on pushing index level_of_machine cell_at jumping block_at own_block leaving with_result putting is_text home_of first_cells leaving_of_meaning constants_of text_constants putting_of_steps text is_class_free declared_at constant_of calculate compare compare_as_texts connect same_objects same_texts two_of one_of step_test take_integer take_character take_text take_nothing row_of standard_effect default_mode mode_allowed marked type_named result_named mode_named first_of_procedure first_of_class variable_marks array_marks parameter_marks moded_marks specified_marks headed_marks procedure_marks class_marks virtual_name_marks program_marks inner_marks declaring of_segment of_mode_part of_specification of_specifier of_virtual of_heading declared_by declarations_of run_of_runs lookup shown_of_scopes encloser searched block_at_of_scopes declaration_from binding entry_of formals_of formal_of result_of source_of denoted type_at line_at level_of block_of block_around standard_name text_attribute sysin_attribute sysout_attribute signature is_real_function is_random_drawing is_file_or_layout is_environment_name undeclared program_events of_statement of_branch of_arm of_block of_whole of_class_body of_declaration block_number slot_of accessible protects is_kind some_around_of some_around base brought_by level_shows shown_of is_detach ends_search outward virtual_of represented standard_at qualified_marks qualified_result connection_at own_attribute transfer_at levels_of levels is_in is_of has_procedure belongs class_at qualification stream_of is_variable is_attribute own_result result_meant standard_texts text_constant found_at shows_detach if_found found_in is_passed_over class_formals_of class_formals class_formal some_level_of has_level holds_class has_classes has_standard is_simulation_block is_for_prefixing simulation_level_of class_block is_in_chain on_one_chain shared_level_of shared_class names_hidden protector_of protector hides opens is_open fine wrong no_target targets assigned_to call_assigned target sign_agrees with_left lefts compared assigned precedes found is_connected prefix_of frame_text hidden_in block_in_front class_number
no_connection zero = refl
no_connection (suc zero) = refl
no_connection (suc (suc k)) = refl

no_prefix : (k : ℕ) → prefix_of sub_block.tables k ≡ None
unfolding is_process_itself own_match by_name is_placed digits element_place making_array copying_array keeping_array finding_element giving_back handed_over stopping no_rule ticking taking entering having when computing choosing popping pop_many pop_plain pop_truth pop_integers pop_operands pop_text answering applying_one applying_two testing_step performing at_level kept_on pushing index level_of_machine cell_at jumping block_at own_block leaving with_result putting is_text home_of first_cells leaving_of_meaning constants_of text_constants putting_of_steps text is_class_free declared_at constant_of calculate compare compare_as_texts connect same_objects same_texts two_of one_of step_test take_integer take_character take_text take_nothing row_of standard_effect default_mode mode_allowed marked type_named result_named mode_named first_of_procedure first_of_class variable_marks array_marks parameter_marks moded_marks specified_marks headed_marks procedure_marks class_marks virtual_name_marks program_marks inner_marks declaring of_segment of_mode_part of_specification of_specifier of_virtual of_heading declared_by declarations_of run_of_runs lookup shown_of_scopes encloser searched block_at_of_scopes declaration_from binding entry_of formals_of formal_of result_of source_of denoted type_at line_at level_of block_of block_around standard_name text_attribute sysin_attribute sysout_attribute signature is_real_function is_random_drawing is_file_or_layout is_environment_name undeclared program_events of_statement of_branch of_arm of_block of_whole of_class_body of_declaration block_number slot_of accessible protects is_kind some_around_of some_around base brought_by level_shows shown_of is_detach ends_search outward virtual_of represented standard_at qualified_marks qualified_result connection_at own_attribute transfer_at levels_of levels is_in is_of has_procedure belongs class_at qualification stream_of is_variable is_attribute own_result result_meant standard_texts text_constant found_at shows_detach if_found found_in is_passed_over class_formals_of class_formals class_formal some_level_of has_level holds_class has_classes has_standard is_simulation_block is_for_prefixing simulation_level_of class_block is_in_chain on_one_chain shared_level_of shared_class names_hidden protector_of protector hides opens is_open fine wrong no_target targets assigned_to call_assigned target sign_agrees with_left lefts compared assigned precedes found is_connected prefix_of frame_text hidden_in block_in_front class_number
no_prefix zero = refl
no_prefix (suc zero) = refl
no_prefix (suc (suc k)) = refl

owners : (k : ℕ) → all_of (λ d. block_of sub_block d ≡ k) (numbers_of sub_block k)
unfolding is_process_itself own_match by_name is_placed digits element_place making_array copying_array keeping_array finding_element giving_back handed_over stopping no_rule ticking taking entering having when computing choosing popping pop_many pop_plain pop_truth pop_integers pop_operands pop_text answering applying_one applying_two testing_step performing at_level kept_on pushing index level_of_machine cell_at jumping block_at own_block leaving with_result putting is_text home_of first_cells leaving_of_meaning constants_of text_constants putting_of_steps text is_class_free declared_at constant_of calculate compare compare_as_texts connect same_objects same_texts two_of one_of step_test take_integer take_character take_text take_nothing row_of standard_effect default_mode mode_allowed marked type_named result_named mode_named first_of_procedure first_of_class variable_marks array_marks parameter_marks moded_marks specified_marks headed_marks procedure_marks class_marks virtual_name_marks program_marks inner_marks declaring of_segment of_mode_part of_specification of_specifier of_virtual of_heading declared_by declarations_of run_of_runs lookup shown_of_scopes encloser searched block_at_of_scopes declaration_from binding entry_of formals_of formal_of result_of source_of denoted type_at line_at level_of block_of block_around standard_name text_attribute sysin_attribute sysout_attribute signature is_real_function is_random_drawing is_file_or_layout is_environment_name undeclared program_events of_statement of_branch of_arm of_block of_whole of_class_body of_declaration block_number slot_of accessible protects is_kind some_around_of some_around base brought_by level_shows shown_of is_detach ends_search outward virtual_of represented standard_at qualified_marks qualified_result connection_at own_attribute transfer_at levels_of levels is_in is_of has_procedure belongs class_at qualification stream_of is_variable is_attribute own_result result_meant standard_texts text_constant found_at shows_detach if_found found_in is_passed_over class_formals_of class_formals class_formal some_level_of has_level holds_class has_classes has_standard is_simulation_block is_for_prefixing simulation_level_of class_block is_in_chain on_one_chain shared_level_of shared_class names_hidden protector_of protector hides opens is_open fine wrong no_target targets assigned_to call_assigned target sign_agrees with_left lefts compared assigned precedes found is_connected prefix_of frame_text hidden_in block_in_front class_number
owners zero = (refl, (refl, tt))
owners (suc zero) = (refl, (refl, tt))
owners (suc (suc k)) = tt

listed_once : (k : ℕ) → apart (numbers_of sub_block k)
unfolding is_process_itself own_match by_name is_placed digits element_place making_array copying_array keeping_array finding_element giving_back handed_over stopping no_rule ticking taking entering having when computing choosing popping pop_many pop_plain pop_truth pop_integers pop_operands pop_text answering applying_one applying_two testing_step performing at_level kept_on pushing index level_of_machine cell_at jumping block_at own_block leaving with_result putting is_text home_of first_cells leaving_of_meaning constants_of text_constants putting_of_steps text is_class_free declared_at constant_of calculate compare compare_as_texts connect same_objects same_texts two_of one_of step_test take_integer take_character take_text take_nothing row_of standard_effect default_mode mode_allowed marked type_named result_named mode_named first_of_procedure first_of_class variable_marks array_marks parameter_marks moded_marks specified_marks headed_marks procedure_marks class_marks virtual_name_marks program_marks inner_marks declaring of_segment of_mode_part of_specification of_specifier of_virtual of_heading declared_by declarations_of run_of_runs lookup shown_of_scopes encloser searched block_at_of_scopes declaration_from binding entry_of formals_of formal_of result_of source_of denoted type_at line_at level_of block_of block_around standard_name text_attribute sysin_attribute sysout_attribute signature is_real_function is_random_drawing is_file_or_layout is_environment_name undeclared program_events of_statement of_branch of_arm of_block of_whole of_class_body of_declaration block_number slot_of accessible protects is_kind some_around_of some_around base brought_by level_shows shown_of is_detach ends_search outward virtual_of represented standard_at qualified_marks qualified_result connection_at own_attribute transfer_at levels_of levels is_in is_of has_procedure belongs class_at qualification stream_of is_variable is_attribute own_result result_meant standard_texts text_constant found_at shows_detach if_found found_in is_passed_over class_formals_of class_formals class_formal some_level_of has_level holds_class has_classes has_standard is_simulation_block is_for_prefixing simulation_level_of class_block is_in_chain on_one_chain shared_level_of shared_class names_hidden protector_of protector hides opens is_open fine wrong no_target targets assigned_to call_assigned target sign_agrees with_left lefts compared assigned precedes found is_connected prefix_of frame_text hidden_in block_in_front class_number
listed_once zero = ((refl, tt), (tt, tt))
listed_once (suc zero) = ((refl, tt), (tt, tt))
listed_once (suc (suc k)) = tt

formal_rows : (k : ℕ) → all_of (λ d. (x : Formal) × (entry_of sub_block.tables d ≡ Some (entry.Formal x))) (formals_in (slice_get sub_block.tables.blocks k))
unfolding is_process_itself own_match by_name is_placed digits element_place making_array copying_array keeping_array finding_element giving_back handed_over stopping no_rule ticking taking entering having when computing choosing popping pop_many pop_plain pop_truth pop_integers pop_operands pop_text answering applying_one applying_two testing_step performing at_level kept_on pushing index level_of_machine cell_at jumping block_at own_block leaving with_result putting is_text home_of first_cells leaving_of_meaning constants_of text_constants putting_of_steps text is_class_free declared_at constant_of calculate compare compare_as_texts connect same_objects same_texts two_of one_of step_test take_integer take_character take_text take_nothing row_of standard_effect default_mode mode_allowed marked type_named result_named mode_named first_of_procedure first_of_class variable_marks array_marks parameter_marks moded_marks specified_marks headed_marks procedure_marks class_marks virtual_name_marks program_marks inner_marks declaring of_segment of_mode_part of_specification of_specifier of_virtual of_heading declared_by declarations_of run_of_runs lookup shown_of_scopes encloser searched block_at_of_scopes declaration_from binding entry_of formals_of formal_of result_of source_of denoted type_at line_at level_of block_of block_around standard_name text_attribute sysin_attribute sysout_attribute signature is_real_function is_random_drawing is_file_or_layout is_environment_name undeclared program_events of_statement of_branch of_arm of_block of_whole of_class_body of_declaration block_number slot_of accessible protects is_kind some_around_of some_around base brought_by level_shows shown_of is_detach ends_search outward virtual_of represented standard_at qualified_marks qualified_result connection_at own_attribute transfer_at levels_of levels is_in is_of has_procedure belongs class_at qualification stream_of is_variable is_attribute own_result result_meant standard_texts text_constant found_at shows_detach if_found found_in is_passed_over class_formals_of class_formals class_formal some_level_of has_level holds_class has_classes has_standard is_simulation_block is_for_prefixing simulation_level_of class_block is_in_chain on_one_chain shared_level_of shared_class names_hidden protector_of protector hides opens is_open fine wrong no_target targets assigned_to call_assigned target sign_agrees with_left lefts compared assigned precedes found is_connected prefix_of frame_text hidden_in block_in_front class_number
formal_rows zero = tt
formal_rows (suc zero) = tt
formal_rows (suc (suc k)) = tt

no_class : (n k : ℕ) → entry_of sub_block.tables (record { 0 = n }) ≡ Some (entry.Class k) → ⊥
unfolding is_process_itself own_match by_name is_placed digits element_place making_array copying_array keeping_array finding_element giving_back handed_over stopping no_rule ticking taking entering having when computing choosing popping pop_many pop_plain pop_truth pop_integers pop_operands pop_text answering applying_one applying_two testing_step performing at_level kept_on pushing index level_of_machine cell_at jumping block_at own_block leaving with_result putting is_text home_of first_cells leaving_of_meaning constants_of text_constants putting_of_steps text is_class_free declared_at constant_of calculate compare compare_as_texts connect same_objects same_texts two_of one_of step_test take_integer take_character take_text take_nothing row_of standard_effect default_mode mode_allowed marked type_named result_named mode_named first_of_procedure first_of_class variable_marks array_marks parameter_marks moded_marks specified_marks headed_marks procedure_marks class_marks virtual_name_marks program_marks inner_marks declaring of_segment of_mode_part of_specification of_specifier of_virtual of_heading declared_by declarations_of run_of_runs lookup shown_of_scopes encloser searched block_at_of_scopes declaration_from binding entry_of formals_of formal_of result_of source_of denoted type_at line_at level_of block_of block_around standard_name text_attribute sysin_attribute sysout_attribute signature is_real_function is_random_drawing is_file_or_layout is_environment_name undeclared program_events of_statement of_branch of_arm of_block of_whole of_class_body of_declaration block_number slot_of accessible protects is_kind some_around_of some_around base brought_by level_shows shown_of is_detach ends_search outward virtual_of represented standard_at qualified_marks qualified_result connection_at own_attribute transfer_at levels_of levels is_in is_of has_procedure belongs class_at qualification stream_of is_variable is_attribute own_result result_meant standard_texts text_constant found_at shows_detach if_found found_in is_passed_over class_formals_of class_formals class_formal some_level_of has_level holds_class has_classes has_standard is_simulation_block is_for_prefixing simulation_level_of class_block is_in_chain on_one_chain shared_level_of shared_class names_hidden protector_of protector hides opens is_open fine wrong no_target targets assigned_to call_assigned target sign_agrees with_left lefts compared assigned precedes found is_connected prefix_of frame_text hidden_in block_in_front class_number
no_class zero k e = cc
no_class (suc zero) k e = cc
no_class (suc (suc zero)) k e = cc
no_class (suc (suc (suc zero))) k e = cc
no_class (suc (suc (suc (suc n)))) k e = cc

nested : (t u : ℕ) → encloser sub_block.tables t ≡ Some u → u < t
nested zero u e = absurd (around_none u e)
nested (suc zero) u e = subst (λ z. z < 1) (same_some (encloser sub_block.tables 1) 0 u around_one e) lt_0_1
nested (suc (suc t)) u e = absurd (around_past t u e)

prefixed_there : (k : ℕ) → is_prefixed sub_block.tables k ≡ true → (has_levels (text sub_block k) ≡ true) × (is_class (text sub_block k) ≡ false)
unfolding is_process_itself own_match by_name is_placed digits element_place making_array copying_array keeping_array finding_element giving_back handed_over stopping no_rule ticking taking entering having when computing choosing popping pop_many pop_plain pop_truth pop_integers pop_operands pop_text answering applying_one applying_two testing_step performing at_level kept_on pushing index level_of_machine cell_at jumping block_at own_block leaving with_result putting is_text home_of first_cells leaving_of_meaning constants_of text_constants putting_of_steps text is_class_free declared_at constant_of calculate compare compare_as_texts connect same_objects same_texts two_of one_of step_test take_integer take_character take_text take_nothing row_of standard_effect default_mode mode_allowed marked type_named result_named mode_named first_of_procedure first_of_class variable_marks array_marks parameter_marks moded_marks specified_marks headed_marks procedure_marks class_marks virtual_name_marks program_marks inner_marks declaring of_segment of_mode_part of_specification of_specifier of_virtual of_heading declared_by declarations_of run_of_runs lookup shown_of_scopes encloser searched block_at_of_scopes declaration_from binding entry_of formals_of formal_of result_of source_of denoted type_at line_at level_of block_of block_around standard_name text_attribute sysin_attribute sysout_attribute signature is_real_function is_random_drawing is_file_or_layout is_environment_name undeclared program_events of_statement of_branch of_arm of_block of_whole of_class_body of_declaration block_number slot_of accessible protects is_kind some_around_of some_around base brought_by level_shows shown_of is_detach ends_search outward virtual_of represented standard_at qualified_marks qualified_result connection_at own_attribute transfer_at levels_of levels is_in is_of has_procedure belongs class_at qualification stream_of is_variable is_attribute own_result result_meant standard_texts text_constant found_at shows_detach if_found found_in is_passed_over class_formals_of class_formals class_formal some_level_of has_level holds_class has_classes has_standard is_simulation_block is_for_prefixing simulation_level_of class_block is_in_chain on_one_chain shared_level_of shared_class names_hidden protector_of protector hides opens is_open fine wrong no_target targets assigned_to call_assigned target sign_agrees with_left lefts compared assigned precedes found is_connected prefix_of frame_text hidden_in block_in_front class_number is_prefixed
prefixed_there zero e = absurd (cc (e))
prefixed_there (suc zero) e = absurd (cc (e))
prefixed_there (suc (suc k)) e = absurd (cc (e))

no_standard : (k : ℕ) (which : StandardClass) → text sub_block k ≡ Some (StandardText which) → ⊥
unfolding is_process_itself own_match by_name is_placed digits element_place making_array copying_array keeping_array finding_element giving_back handed_over stopping no_rule ticking taking entering having when computing choosing popping pop_many pop_plain pop_truth pop_integers pop_operands pop_text answering applying_one applying_two testing_step performing at_level kept_on pushing index level_of_machine cell_at jumping block_at own_block leaving with_result putting is_text home_of first_cells leaving_of_meaning constants_of text_constants putting_of_steps text is_class_free declared_at constant_of calculate compare compare_as_texts connect same_objects same_texts two_of one_of step_test take_integer take_character take_text take_nothing row_of standard_effect default_mode mode_allowed marked type_named result_named mode_named first_of_procedure first_of_class variable_marks array_marks parameter_marks moded_marks specified_marks headed_marks procedure_marks class_marks virtual_name_marks program_marks inner_marks declaring of_segment of_mode_part of_specification of_specifier of_virtual of_heading declared_by declarations_of run_of_runs lookup shown_of_scopes encloser searched block_at_of_scopes declaration_from binding entry_of formals_of formal_of result_of source_of denoted type_at line_at level_of block_of block_around standard_name text_attribute sysin_attribute sysout_attribute signature is_real_function is_random_drawing is_file_or_layout is_environment_name undeclared program_events of_statement of_branch of_arm of_block of_whole of_class_body of_declaration block_number slot_of accessible protects is_kind some_around_of some_around base brought_by level_shows shown_of is_detach ends_search outward virtual_of represented standard_at qualified_marks qualified_result connection_at own_attribute transfer_at levels_of levels is_in is_of has_procedure belongs class_at qualification stream_of is_variable is_attribute own_result result_meant standard_texts text_constant found_at shows_detach if_found found_in is_passed_over class_formals_of class_formals class_formal some_level_of has_level holds_class has_classes has_standard is_simulation_block is_for_prefixing simulation_level_of class_block is_in_chain on_one_chain shared_level_of shared_class names_hidden protector_of protector hides opens is_open fine wrong no_target targets assigned_to call_assigned target sign_agrees with_left lefts compared assigned precedes found is_connected prefix_of frame_text hidden_in block_in_front class_number
no_standard zero which e = cc (e)
no_standard (suc zero) which e = cc (e)
no_standard (suc (suc k)) which e = cc (e)

no_virtuals : any_virtual sub_block.tables.declarations ≡ false
unfolding is_process_itself own_match by_name is_placed digits element_place making_array copying_array keeping_array finding_element giving_back handed_over stopping no_rule ticking taking entering having when computing choosing popping pop_many pop_plain pop_truth pop_integers pop_operands pop_text answering applying_one applying_two testing_step performing at_level kept_on pushing index level_of_machine cell_at jumping block_at own_block leaving with_result putting is_text home_of first_cells leaving_of_meaning constants_of text_constants putting_of_steps text is_class_free declared_at constant_of calculate compare compare_as_texts connect same_objects same_texts two_of one_of step_test take_integer take_character take_text take_nothing row_of standard_effect default_mode mode_allowed marked type_named result_named mode_named first_of_procedure first_of_class variable_marks array_marks parameter_marks moded_marks specified_marks headed_marks procedure_marks class_marks virtual_name_marks program_marks inner_marks declaring of_segment of_mode_part of_specification of_specifier of_virtual of_heading declared_by declarations_of run_of_runs lookup shown_of_scopes encloser searched block_at_of_scopes declaration_from binding entry_of formals_of formal_of result_of source_of denoted type_at line_at level_of block_of block_around standard_name text_attribute sysin_attribute sysout_attribute signature is_real_function is_random_drawing is_file_or_layout is_environment_name undeclared program_events of_statement of_branch of_arm of_block of_whole of_class_body of_declaration block_number slot_of accessible protects is_kind some_around_of some_around base brought_by level_shows shown_of is_detach ends_search outward virtual_of represented standard_at qualified_marks qualified_result connection_at own_attribute transfer_at levels_of levels is_in is_of has_procedure belongs class_at qualification stream_of is_variable is_attribute own_result result_meant standard_texts text_constant found_at shows_detach if_found found_in is_passed_over class_formals_of class_formals class_formal some_level_of has_level holds_class has_classes has_standard is_simulation_block is_for_prefixing simulation_level_of class_block is_in_chain on_one_chain shared_level_of shared_class names_hidden protector_of protector hides opens is_open fine wrong no_target targets assigned_to call_assigned target sign_agrees with_left lefts compared assigned precedes found is_connected prefix_of frame_text hidden_in block_in_front class_number
no_virtuals = refl

agree : Agrees sub_block
unfolding is_process_itself own_match by_name is_placed digits element_place making_array copying_array keeping_array finding_element giving_back handed_over stopping no_rule ticking taking entering having when computing choosing popping pop_many pop_plain pop_truth pop_integers pop_operands pop_text answering applying_one applying_two testing_step performing at_level kept_on pushing index level_of_machine cell_at jumping block_at own_block leaving with_result putting is_text home_of first_cells leaving_of_meaning constants_of text_constants putting_of_steps text is_class_free declared_at constant_of calculate compare compare_as_texts connect same_objects same_texts two_of one_of step_test take_integer take_character take_text take_nothing row_of standard_effect default_mode mode_allowed marked type_named result_named mode_named first_of_procedure first_of_class variable_marks array_marks parameter_marks moded_marks specified_marks headed_marks procedure_marks class_marks virtual_name_marks program_marks inner_marks declaring of_segment of_mode_part of_specification of_specifier of_virtual of_heading declared_by declarations_of run_of_runs lookup shown_of_scopes encloser searched block_at_of_scopes declaration_from binding entry_of formals_of formal_of result_of source_of denoted type_at line_at level_of block_of block_around standard_name text_attribute sysin_attribute sysout_attribute signature is_real_function is_random_drawing is_file_or_layout is_environment_name undeclared program_events of_statement of_branch of_arm of_block of_whole of_class_body of_declaration block_number slot_of accessible protects is_kind some_around_of some_around base brought_by level_shows shown_of is_detach ends_search outward virtual_of represented standard_at qualified_marks qualified_result connection_at own_attribute transfer_at levels_of levels is_in is_of has_procedure belongs class_at qualification stream_of is_variable is_attribute own_result result_meant standard_texts text_constant found_at shows_detach if_found found_in is_passed_over class_formals_of class_formals class_formal some_level_of has_level holds_class has_classes has_standard is_simulation_block is_for_prefixing simulation_level_of class_block is_in_chain on_one_chain shared_level_of shared_class names_hidden protector_of protector hides opens is_open fine wrong no_target targets assigned_to call_assigned target sign_agrees with_left lefts compared assigned precedes found is_connected prefix_of frame_text hidden_in block_in_front class_number
agree = record {
  outermost = refl;
  as_many = refl;
  connected = λ k. none_connected k ∙ sym (no_connection k);
  nesting = nested;
  levels = λ t u e c. levels_agree t u e;
  same_level = λ t u e c. absurd (not_both (is_connected sub_block.tables t) c (none_connected t));
  begun = λ k c. absurd (not_both (is_connected sub_block.tables k) c (none_connected k));
  prefixes = λ k front e. absurd (not_some (prefix_of sub_block.tables k) front (no_prefix k) e);
  prefixed = prefixed_there;
  ends = λ k. one_level (no_prefix k);
  owned = λ k n d e. all_at (λ d. block_of sub_block d ≡ k) (numbers_of sub_block k) (owners k) n d e;
  once = λ k n m d e h. once_at (numbers_of sub_block k) (listed_once k) n m d e h;
  formals = λ k n d e. all_at (λ d. (x : Formal) × (entry_of sub_block.tables d ≡ Some (entry.Formal x))) (formals_in (slice_get sub_block.tables.blocks k)) (formal_rows k) n d e;
  classes = λ d k e. absurd (no_class d.0 k e);
  procedures = λ d result k e. absurd (no_procedure d.0 result k e);
  processes = λ k e. absurd (no_standard k standard.Process e);
  blocks = λ k u which p level e. no_standard u which e;
  standards = λ j k which e f level. absurd (no_standard j which e);
  matches = λ v k text is levels e. absurd (no_virtual sub_block no_virtuals v is);
}

pub sub_block_compiled : Compiled sub_block sub_block_apart
unfolding is_process_itself own_match by_name is_placed digits element_place making_array copying_array keeping_array finding_element giving_back handed_over stopping no_rule ticking taking entering having when computing choosing popping pop_many pop_plain pop_truth pop_integers pop_operands pop_text answering applying_one applying_two testing_step performing at_level kept_on pushing index level_of_machine cell_at jumping block_at own_block leaving with_result putting is_text home_of first_cells leaving_of_meaning constants_of text_constants putting_of_steps text is_class_free declared_at constant_of calculate compare compare_as_texts connect same_objects same_texts two_of one_of step_test take_integer take_character take_text take_nothing row_of standard_effect default_mode mode_allowed marked type_named result_named mode_named first_of_procedure first_of_class variable_marks array_marks parameter_marks moded_marks specified_marks headed_marks procedure_marks class_marks virtual_name_marks program_marks inner_marks declaring of_segment of_mode_part of_specification of_specifier of_virtual of_heading declared_by declarations_of run_of_runs lookup shown_of_scopes encloser searched block_at_of_scopes declaration_from binding entry_of formals_of formal_of result_of source_of denoted type_at line_at level_of block_of block_around standard_name text_attribute sysin_attribute sysout_attribute signature is_real_function is_random_drawing is_file_or_layout is_environment_name undeclared program_events of_statement of_branch of_arm of_block of_whole of_class_body of_declaration block_number slot_of accessible protects is_kind some_around_of some_around base brought_by level_shows shown_of is_detach ends_search outward virtual_of represented standard_at qualified_marks qualified_result connection_at own_attribute transfer_at levels_of levels is_in is_of has_procedure belongs class_at qualification stream_of is_variable is_attribute own_result result_meant standard_texts text_constant found_at shows_detach if_found found_in is_passed_over class_formals_of class_formals class_formal some_level_of has_level holds_class has_classes has_standard is_simulation_block is_for_prefixing simulation_level_of class_block is_in_chain on_one_chain shared_level_of shared_class names_hidden protector_of protector hides opens is_open fine wrong no_target targets assigned_to call_assigned target sign_agrees with_left lefts compared assigned precedes found is_connected prefix_of frame_text hidden_in block_in_front class_number
sub_block_compiled = record { agrees = agree; texts = refl; each = λ k x e. subst (Has k) e (each_stands k); matches = λ k x levels e. none_matched sub_block sub_block_apart no_virtuals refl k x e; as_many = refl }

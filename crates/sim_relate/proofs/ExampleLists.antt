-- The code of a `for` list of three kinds of elements stands for its program.
use Rattle.std.proofs.Common.{true, ◌≡◌, ◌<◌, ◌≤◌, ℕ, zero, suc, [], ◌∷◌, Option, Some, None, refl, sym, ap, ◌∙◌, subst, arith, false}
use Rattle.std.specs.Prelude.{pos, slice_get}
use Rattle.sim_base.specs.declared.numbering.DeclNo.{DeclNo}
use Rattle.sim_scope.specs.declared.types.StandardClass.{StandardClass}
use Rattle.sim_scope.specs.declared.types.StandardClass.TheVariants as standard
use Rattle.sim_scope.specs.declared.types.Entry.TheVariants as entry
use Rattle.sim_scope.specs.declared.types.SimType.{SimType}
use Rattle.sim_code.specs.declared.code.CodeType.TheVariants as type
use Rattle.sim_code.specs.declared.instr.Instr.TheVariants as i
use Rattle.sim_meaning.specs.Examples.{for_list}
use Rattle.sim_meaning.specs.Texts.{Text, StandardText}
use Rattle.codegen_expr.specs.Sites.{Site, block_number, itself, slot_of}
use Rattle.codegen.specs.Agrees.{Agrees, ProcedureThere, is_prefixed, last as one_level}
use Rattle.codegen.specs.Compiled.{CodeHas, Compiled}
use Rattle.codegen.specs.Examples.{for_list_code}
use Rattle.sim_relate.proofs.Placed.{ahead, ins, push}
use Rattle.std.specs.Fmt.{digits}
use Rattle.sim_code.specs.Arrays.{element_place, making_array, copying_array, keeping_array, finding_element, giving_back, handed_over}
use Rattle.sim_code.specs.Events.{stopping, no_rule, ticking, taking, entering, having, when, computing, choosing, popping, pop_many, pop_plain, pop_truth, pop_integers, pop_operands, pop_text, answering, applying_one, applying_two, testing_step, performing}
use Rattle.sim_code.specs.Instances.{at_level, kept_on}
use Rattle.sim_code.specs.Machine.{pushing, index, level as level_of_machine, cell_at, jumping, block_at, own_block, leaving, with_result}
use Rattle.sim_code.specs.Rows.{putting}
use Rattle.sim_meaning.specs.Closing.{is_text, home_of, own_match, by_name, is_placed}
use Rattle.sim_meaning.specs.Entries.{first_cells}
use Rattle.sim_meaning.specs.Meaning.{leaving as leaving_of_meaning}
use Rattle.sim_meaning.specs.Constants.{constants_of, text_constants}
use Rattle.sim_meaning.specs.Steps.{putting as putting_of_steps}
use Rattle.sim_meaning.specs.Texts.{text, is_class_free, declared_at, constant_of}
use Rattle.sim_values.specs.Operators.{calculate, compare, compare_as_texts, connect, same_objects, same_texts, two_of, one_of, step_test}
use Rattle.sim_values.specs.Standard.{take_integer, take_character, take_text, take_nothing, row_of, standard_effect}
use Rattle.sim_scope.specs.Building.{default_mode, mode_allowed, marked}
use Rattle.sim_scope.specs.Declare.{type_named, result_named, mode_named, first_of_procedure, first_of_class, variable_marks, array_marks, parameter_marks, moded_marks, specified_marks, headed_marks, procedure_marks, class_marks, virtual_name_marks, program_marks, inner_marks, declaring, of_segment, of_mode_part, of_specification, of_specifier, of_virtual, of_heading, declared_by, declarations_of, qualified_marks, qualified_result}
use Rattle.sim_scope.specs.Runs.{run as run_of_runs}
use Rattle.sim_scope.specs.Access.{encloser, block_at as block_at_of_scopes, accessible, protects, is_kind, some_around_of, some_around}
use Rattle.sim_scope.specs.Levels.{base}
use Rattle.sim_scope.specs.Scopes.{lookup, shown as shown_of_scopes, searched, declaration_from, binding, entry_of, formals_of, formal_of, result_of, brought_by, level_shows, shown_of, is_detach, ends_search, outward, virtual_of, represented, standard_at}
use Rattle.sim_scope.specs.Source.{source_of, denoted, type_at, line_at, level_of, block_of, block_around}
use Rattle.sim_scope.specs.Standard.{standard_name, text_attribute, sysin_attribute, sysout_attribute, signature, is_real_function, is_random_drawing, is_file_or_layout, is_environment_name, undeclared}
use Rattle.sim_scope.specs.Walk.{program_events, of_statement, of_branch, of_arm, of_block, of_whole, of_class_body, of_declaration}
use Rattle.sim_meaning.specs.Attributes.{connection_at, own_attribute, transfer_at}
use Rattle.sim_meaning.specs.Levels.{has_levels, is_class, levels_of, levels, is_in, is_of, has_procedure, belongs, class_at, qualification, is_process_itself}
use Rattle.sim_meaning.specs.Closing.{stream_of, is_variable, is_attribute, own_result, result_meant}
use Rattle.sim_meaning.specs.Texts.{standard_texts}
use Rattle.sim_meaning.specs.Constants.{text_constant}
use Rattle.sim_scope.specs.Source.{found_at}
use Rattle.sim_scope.specs.Scopes.{shows_detach, if_found, found_in, is_passed_over, class_formals_of, class_formals, class_formal}
use Rattle.sim_scope.specs.Levels.{some_level_of, has_level, holds_class, has_classes, has_standard, is_simulation_block, is_for_prefixing, simulation_level_of, class_block, is_in_chain, on_one_chain, shared_level_of, shared_class}
use Rattle.sim_scope.specs.Access.{names_hidden, protector_of, protector, hides, opens, is_open}
use Rattle.sim_scope.specs.Assignments.{fine, wrong, no_target, targets, assigned_to, call_assigned, target, sign_agrees, with_left, lefts, compared, assigned}
use Rattle.sim_scope.specs.Found.{precedes, found}
use Rattle.codegen_expr.specs.Sites.{is_connected, prefix_of, frame_text, hidden_in, block_in_front, class_number}
use Rattle.sim_meaning.specs.Attributes.{is_connection}
use Rattle.sim_meaning.specs.Entries.{numbers_of}
use Rattle.sim_relate.proofs.ExampleTables.{all_at, all_of, apart, not_both, not_some, once_at, any_virtual, no_virtual, none_matched}
use Rattle.sim_scope.specs.Scopes.{formals_in}
use Rattle.sim_scope.specs.declared.types.Formal.{Formal}

-- the sites of the program, and of what the list of elements shares
abbrev outer : Site
outer = record { text = 0; room = 6; temps = 1; used = 4; size = 5; thunk = None }

abbrev inner : Site
inner = record { text = 0; room = 6; temps = 1; used = 5; size = 5; thunk = None }

lt_0_1 : 0 < 1
lt_0_1 = omega arith

le_0_6 : 0 ≤ 6
le_0_6 = omega arith

lt_0_6 : 0 < 6
lt_0_6 = omega arith

lt_4_5 : 4 < 5
lt_4_5 = omega arith

lt_1_6 : 1 < 6
lt_1_6 = omega arith

lt_1_59 : 1 < 59
lt_1_59 = omega arith

lt_2_6 : 2 < 6
lt_2_6 = omega arith

lt_2_18 : 2 < 18
lt_2_18 = omega arith

lt_10_12 : 10 < 12
lt_10_12 = omega arith

lt_11_30 : 11 < 30
lt_11_30 = omega arith

lt_12_59 : 12 < 59
lt_12_59 = omega arith

lt_15_17 : 15 < 17
lt_15_17 = omega arith

lt_16_43 : 16 < 43
lt_16_43 = omega arith

lt_17_55 : 17 < 55
lt_17_55 = omega arith

lt_17_59 : 17 < 59
lt_17_59 = omega arith

lt_18_59 : 18 < 59
lt_18_59 = omega arith

lt_26_37 : 26 < 37
lt_26_37 = omega arith

lt_30_59 : 30 < 59
lt_30_59 = omega arith

lt_37_59 : 37 < 59
lt_37_59 = omega arith

lt_43_59 : 43 < 59
lt_43_59 = omega arith

lt_51_56 : 51 < 56
lt_51_56 = omega arith

lt_55_59 : 55 < 59
lt_55_59 = omega arith

lt_56_59 : 56 < 59
lt_56_59 = omega arith

le_4_4 : 4 ≤ 4
le_4_4 = omega arith

le_3_29 : 3 ≤ 29
le_3_29 = omega arith

le_3_42 : 3 ≤ 42
le_3_42 = omega arith

le_3_54 : 3 ≤ 54
le_3_54 = omega arith

le_22_36 : 22 ≤ 36
le_22_36 = omega arith

le_43_55 : 43 ≤ 55
le_43_55 = omega arith

abbrev Has : ℕ → Option Text → Type 0
Has k None = Unit {0}
Has k (Some x) = CodeHas for_list for_list_code k x (slice_get for_list_code.blocks (block_number for_list k))

program_stands : Has 0 (text for_list 0)
unfolding is_process_itself own_match by_name is_placed digits element_place making_array copying_array keeping_array finding_element giving_back handed_over stopping no_rule ticking taking entering having when computing choosing popping pop_many pop_plain pop_truth pop_integers pop_operands pop_text answering applying_one applying_two testing_step performing at_level kept_on pushing index level_of_machine cell_at jumping block_at own_block leaving with_result putting is_text home_of first_cells leaving_of_meaning constants_of text_constants putting_of_steps text is_class_free declared_at constant_of calculate compare compare_as_texts connect same_objects same_texts two_of one_of step_test take_integer take_character take_text take_nothing row_of standard_effect default_mode mode_allowed marked type_named result_named mode_named first_of_procedure first_of_class variable_marks array_marks parameter_marks moded_marks specified_marks headed_marks procedure_marks class_marks virtual_name_marks program_marks inner_marks declaring of_segment of_mode_part of_specification of_specifier of_virtual of_heading declared_by declarations_of run_of_runs lookup shown_of_scopes encloser searched block_at_of_scopes declaration_from binding entry_of formals_of formal_of result_of source_of denoted type_at line_at level_of block_of block_around standard_name text_attribute sysin_attribute sysout_attribute signature is_real_function is_random_drawing is_file_or_layout is_environment_name undeclared program_events of_statement of_branch of_arm of_block of_whole of_class_body of_declaration block_number slot_of accessible protects is_kind some_around_of some_around base brought_by level_shows shown_of is_detach ends_search outward virtual_of represented standard_at qualified_marks qualified_result connection_at own_attribute transfer_at levels_of levels is_in is_of has_procedure belongs class_at qualification stream_of is_variable is_attribute own_result result_meant standard_texts text_constant found_at shows_detach if_found found_in is_passed_over class_formals_of class_formals class_formal some_level_of has_level holds_class has_classes has_standard is_simulation_block is_for_prefixing simulation_level_of class_block is_in_chain on_one_chain shared_level_of shared_class names_hidden protector_of protector hides opens is_open fine wrong no_target targets assigned_to call_assigned target sign_agrees with_left lefts compared assigned precedes found is_connected prefix_of frame_text hidden_in block_in_front class_number
program_stands = record { heads = record { is_kind = refl; level = refl; cells = refl; class_free = refl; gives = refl; formals = refl; temps = type.Nothing ∷ type.Nothing ∷ type.Nothing ∷ type.Nothing ∷ []; types = refl; counted = refl; roomy = le_0_6 }; start = 1; enter = record { at = refl; on = refl }; body = record { there = lt_1_59; stop = 58; body = (1, refl, (56, (2, ins for_list_code (i.Tick) 0 1 refl, ((itself, lt_0_1), record { temp = 4; outside = le_4_4; within = lt_4_5; returns = 30 ∷ 43 ∷ 55 ∷ []; as_many = refl; start = 3; u = 4; d = 7; first = 18; over = ins for_list_code (i.Jump (pos 18)) 0 2 refl; leads = ahead for_list_code 2 18 lt_2_18 lt_18_59; tick = ins for_list_code (i.Tick) 0 3 refl; body = (4, 7, ins for_list_code (i.Tick) 0 3 refl, (refl, (6, (5, (refl, record { load = push for_list_code inner 0 (i.Load (pos 1) (pos 0)) 0 4 lt_0_6 refl; inside = itself; within = lt_0_1 }), (6, push for_list_code inner 1 (i.Int (pos 3)) 0 5 lt_1_6 refl, refl)), record { as_many = refl; number = 40; numbered = refl; is = record { at = refl; on = refl }; fits = λ e. absurd (cc) })), refl); back = (12, record { a = 8; b = 9; c = 10; d = 11; kept = push for_list_code outer 0 (i.Load (pos 1) (pos 4)) 0 7 lt_0_6 refl; number_pushed = push for_list_code outer 1 (i.Int (pos 0)) 0 8 lt_1_6 refl; equal = ins for_list_code (i.Rel (pos 2)) 0 9 refl; other = ins for_list_code (i.JumpF (pos 12)) 0 10 refl; leads = ahead for_list_code 10 12 lt_10_12 lt_12_59; jump = ins for_list_code (i.Jump (pos 30)) 0 11 refl; there = ahead for_list_code 11 30 lt_11_30 lt_30_59 }, (17, record { a = 13; b = 14; c = 15; d = 16; kept = push for_list_code outer 0 (i.Load (pos 1) (pos 4)) 0 12 lt_0_6 refl; number_pushed = push for_list_code outer 1 (i.Int (pos 1)) 0 13 lt_1_6 refl; equal = ins for_list_code (i.Rel (pos 2)) 0 14 refl; other = ins for_list_code (i.JumpF (pos 17)) 0 15 refl; leads = ahead for_list_code 15 17 lt_15_17 lt_17_59; jump = ins for_list_code (i.Jump (pos 43)) 0 16 refl; there = ahead for_list_code 16 43 lt_16_43 lt_43_59 }, (ins for_list_code (i.Jump (pos 55)) 0 17 refl, ahead for_list_code 17 55 lt_17_55 lt_55_59))); elements = (37, record { a = 19; b = 20; t = 22; c = 23; d = 24; e = 25; f = 26; g = 27; h = 30; j = 32; k = 33; l = 34; m = 35; w = 36; takes = refl; first = push for_list_code outer 0 (i.Int (pos 3)) 0 18 lt_0_6 refl; stored = ins for_list_code (i.Store (pos 1) (pos 0)) 0 19 refl; first_step = (21, push for_list_code outer 0 (i.Int (pos 1)) 0 20 lt_0_6 refl, record { at = refl; on = refl }); tick = ins for_list_code (i.Tick) 0 22 refl; variable = push for_list_code outer 1 (i.Load (pos 1) (pos 0)) 0 23 lt_1_6 refl; last = push for_list_code outer 2 (i.Int (pos 1)) 0 24 lt_2_6 refl; test = ins for_list_code (i.StepTest) 0 25 refl; jump = ins for_list_code (i.JumpF (pos 37)) 0 26 refl; leads = ahead for_list_code 26 37 lt_26_37 lt_37_59; turn = record { x = 28; y = 29; pushed = push for_list_code outer 0 (i.Int (pos 0)) 0 27 lt_0_6 refl; kept = ins for_list_code (i.Store (pos 1) (pos 4)) 0 28 refl; jump = ins for_list_code (i.Jump (pos 3)) 0 29 refl; behind = le_3_29; returns_here = refl }; next_step = (31, push for_list_code outer 0 (i.Int (pos 1)) 0 30 lt_0_6 refl, record { at = refl; on = refl }); again = push for_list_code outer 1 (i.Dup) 0 32 lt_1_6 refl; old = push for_list_code outer 2 (i.Load (pos 1) (pos 0)) 0 33 lt_2_6 refl; sum = record { at = refl; on = refl }; raised = ins for_list_code (i.Store (pos 1) (pos 0)) 0 35 refl; back = ins for_list_code (i.Jump (pos 22)) 0 36 refl; behind = le_22_36 }, (43, record { x = 38; z = 40; tick = ins for_list_code (i.Tick) 0 37 refl; given = (39, push for_list_code outer 0 (i.Int (pos 10)) 0 38 lt_0_6 refl, ins for_list_code (i.Store (pos 1) (pos 0)) 0 39 refl); turn = record { x = 41; y = 42; pushed = push for_list_code outer 0 (i.Int (pos 1)) 0 40 lt_0_6 refl; kept = ins for_list_code (i.Store (pos 1) (pos 4)) 0 41 refl; jump = ins for_list_code (i.Jump (pos 3)) 0 42 refl; behind = le_3_42; returns_here = refl } }, (56, record { x = 44; z = 48; u = 51; b = 52; w = 55; tick = ins for_list_code (i.Tick) 0 43 refl; given = (47, (45, 46, (refl, record { load = push for_list_code outer 0 (i.Load (pos 1) (pos 0)) 0 44 lt_0_6 refl; inside = itself; within = lt_0_1 }), push for_list_code outer 1 (i.Int (pos 1)) 0 45 lt_1_6 refl, record { at = refl; on = refl }), ins for_list_code (i.Store (pos 1) (pos 0)) 0 47 refl); test = (49, 50, (refl, record { load = push for_list_code outer 0 (i.Load (pos 1) (pos 0)) 0 48 lt_0_6 refl; inside = itself; within = lt_0_1 }), push for_list_code outer 1 (i.Int (pos 13)) 0 49 lt_1_6 refl, record { at = refl; on = refl }); jump = ins for_list_code (i.JumpF (pos 56)) 0 51 refl; leads = ahead for_list_code 51 56 lt_51_56 lt_56_59; turn = record { x = 53; y = 54; pushed = push for_list_code outer 0 (i.Int (pos 2)) 0 52 lt_0_6 refl; kept = ins for_list_code (i.Store (pos 1) (pos 4)) 0 53 refl; jump = ins for_list_code (i.Jump (pos 3)) 0 54 refl; behind = le_3_54; returns_here = refl }; back = ins for_list_code (i.Jump (pos 43)) 0 55 refl; behind = le_43_55 }, refl))) })), (58, (57, 58, ins for_list_code (i.Tick) 0 56 refl, (refl, (57, refl, record { as_many = refl; number = 37; numbered = refl; is = record { at = refl; on = refl }; fits = λ e. absurd (cc) })), refl), refl))); last = 59; ends = ins for_list_code (i.EndLevel (pos 0)) 0 58 refl } }

no_more : (k : ℕ) → Has (suc k) (text for_list (suc k))
unfolding is_process_itself own_match by_name is_placed digits element_place making_array copying_array keeping_array finding_element giving_back handed_over stopping no_rule ticking taking entering having when computing choosing popping pop_many pop_plain pop_truth pop_integers pop_operands pop_text answering applying_one applying_two testing_step performing at_level kept_on pushing index level_of_machine cell_at jumping block_at own_block leaving with_result putting is_text home_of first_cells leaving_of_meaning constants_of text_constants putting_of_steps text is_class_free declared_at constant_of calculate compare compare_as_texts connect same_objects same_texts two_of one_of step_test take_integer take_character take_text take_nothing row_of standard_effect default_mode mode_allowed marked type_named result_named mode_named first_of_procedure first_of_class variable_marks array_marks parameter_marks moded_marks specified_marks headed_marks procedure_marks class_marks virtual_name_marks program_marks inner_marks declaring of_segment of_mode_part of_specification of_specifier of_virtual of_heading declared_by declarations_of run_of_runs lookup shown_of_scopes encloser searched block_at_of_scopes declaration_from binding entry_of formals_of formal_of result_of source_of denoted type_at line_at level_of block_of block_around standard_name text_attribute sysin_attribute sysout_attribute signature is_real_function is_random_drawing is_file_or_layout is_environment_name undeclared program_events of_statement of_branch of_arm of_block of_whole of_class_body of_declaration block_number slot_of accessible protects is_kind some_around_of some_around base brought_by level_shows shown_of is_detach ends_search outward virtual_of represented standard_at qualified_marks qualified_result connection_at own_attribute transfer_at levels_of levels is_in is_of has_procedure belongs class_at qualification stream_of is_variable is_attribute own_result result_meant standard_texts text_constant found_at shows_detach if_found found_in is_passed_over class_formals_of class_formals class_formal some_level_of has_level holds_class has_classes has_standard is_simulation_block is_for_prefixing simulation_level_of class_block is_in_chain on_one_chain shared_level_of shared_class names_hidden protector_of protector hides opens is_open fine wrong no_target targets assigned_to call_assigned target sign_agrees with_left lefts compared assigned precedes found is_connected prefix_of frame_text hidden_in block_in_front class_number
no_more k = tt

each_stands : (k : ℕ) → Has k (text for_list k)
each_stands zero = program_stands
each_stands (suc k) = no_more k

alone : (t u : ℕ) → encloser for_list.tables t ≡ Some u → level_of for_list t ≡ suc (level_of for_list u)
unfolding is_process_itself own_match by_name is_placed digits element_place making_array copying_array keeping_array finding_element giving_back handed_over stopping no_rule ticking taking entering having when computing choosing popping pop_many pop_plain pop_truth pop_integers pop_operands pop_text answering applying_one applying_two testing_step performing at_level kept_on pushing index level_of_machine cell_at jumping block_at own_block leaving with_result putting is_text home_of first_cells leaving_of_meaning constants_of text_constants putting_of_steps text is_class_free declared_at constant_of calculate compare compare_as_texts connect same_objects same_texts two_of one_of step_test take_integer take_character take_text take_nothing row_of standard_effect default_mode mode_allowed marked type_named result_named mode_named first_of_procedure first_of_class variable_marks array_marks parameter_marks moded_marks specified_marks headed_marks procedure_marks class_marks virtual_name_marks program_marks inner_marks declaring of_segment of_mode_part of_specification of_specifier of_virtual of_heading declared_by declarations_of run_of_runs lookup shown_of_scopes encloser searched block_at_of_scopes declaration_from binding entry_of formals_of formal_of result_of source_of denoted type_at line_at level_of block_of block_around standard_name text_attribute sysin_attribute sysout_attribute signature is_real_function is_random_drawing is_file_or_layout is_environment_name undeclared program_events of_statement of_branch of_arm of_block of_whole of_class_body of_declaration block_number slot_of accessible protects is_kind some_around_of some_around base brought_by level_shows shown_of is_detach ends_search outward virtual_of represented standard_at qualified_marks qualified_result connection_at own_attribute transfer_at levels_of levels is_in is_of has_procedure belongs class_at qualification stream_of is_variable is_attribute own_result result_meant standard_texts text_constant found_at shows_detach if_found found_in is_passed_over class_formals_of class_formals class_formal some_level_of has_level holds_class has_classes has_standard is_simulation_block is_for_prefixing simulation_level_of class_block is_in_chain on_one_chain shared_level_of shared_class names_hidden protector_of protector hides opens is_open fine wrong no_target targets assigned_to call_assigned target sign_agrees with_left lefts compared assigned precedes found is_connected prefix_of frame_text hidden_in block_in_front class_number
alone zero u e = absurd (cc)
alone (suc t) u e = absurd (cc)

no_procedure : (n : ℕ) (result : Option SimType) (k : ℕ) → (d : DeclNo) → d.0 ≡ n → entry_of for_list.tables d ≡ Some (entry.Procedure result k) → ProcedureThere for_list d result k
unfolding is_process_itself own_match by_name is_placed digits element_place making_array copying_array keeping_array finding_element giving_back handed_over stopping no_rule ticking taking entering having when computing choosing popping pop_many pop_plain pop_truth pop_integers pop_operands pop_text answering applying_one applying_two testing_step performing at_level kept_on pushing index level_of_machine cell_at jumping block_at own_block leaving with_result putting is_text home_of first_cells leaving_of_meaning constants_of text_constants putting_of_steps text is_class_free declared_at constant_of calculate compare compare_as_texts connect same_objects same_texts two_of one_of step_test take_integer take_character take_text take_nothing row_of standard_effect default_mode mode_allowed marked type_named result_named mode_named first_of_procedure first_of_class variable_marks array_marks parameter_marks moded_marks specified_marks headed_marks procedure_marks class_marks virtual_name_marks program_marks inner_marks declaring of_segment of_mode_part of_specification of_specifier of_virtual of_heading declared_by declarations_of run_of_runs lookup shown_of_scopes encloser searched block_at_of_scopes declaration_from binding entry_of formals_of formal_of result_of source_of denoted type_at line_at level_of block_of block_around standard_name text_attribute sysin_attribute sysout_attribute signature is_real_function is_random_drawing is_file_or_layout is_environment_name undeclared program_events of_statement of_branch of_arm of_block of_whole of_class_body of_declaration block_number slot_of accessible protects is_kind some_around_of some_around base brought_by level_shows shown_of is_detach ends_search outward virtual_of represented standard_at qualified_marks qualified_result connection_at own_attribute transfer_at levels_of levels is_in is_of has_procedure belongs class_at qualification stream_of is_variable is_attribute own_result result_meant standard_texts text_constant found_at shows_detach if_found found_in is_passed_over class_formals_of class_formals class_formal some_level_of has_level holds_class has_classes has_standard is_simulation_block is_for_prefixing simulation_level_of class_block is_in_chain on_one_chain shared_level_of shared_class names_hidden protector_of protector hides opens is_open fine wrong no_target targets assigned_to call_assigned target sign_agrees with_left lefts compared assigned precedes found is_connected prefix_of frame_text hidden_in block_in_front class_number
no_procedure zero result k d is e = absurd (let same : entry_of for_list.tables (record { 0 = 0 }) ≡ Some (entry.Procedure result k) = ap (λ n. entry_of for_list.tables (record { 0 = n })) (sym is) ∙ e in cc)
no_procedure (suc n) result k d is e = absurd (let same : entry_of for_list.tables (record { 0 = suc n }) ≡ Some (entry.Procedure result k) = ap (λ n. entry_of for_list.tables (record { 0 = n })) (sym is) ∙ e in cc)

none_connected : (k : ℕ) → is_connected for_list.tables k ≡ false
unfolding is_process_itself own_match by_name is_placed digits element_place making_array copying_array keeping_array finding_element giving_back handed_over stopping no_rule ticking taking entering having when computing choosing popping pop_many pop_plain pop_truth pop_integers pop_operands pop_text answering applying_one applying_two testing_step performing at_level kept_on pushing index level_of_machine cell_at jumping block_at own_block leaving with_result putting is_text home_of first_cells leaving_of_meaning constants_of text_constants putting_of_steps text is_class_free declared_at constant_of calculate compare compare_as_texts connect same_objects same_texts two_of one_of step_test take_integer take_character take_text take_nothing row_of standard_effect default_mode mode_allowed marked type_named result_named mode_named first_of_procedure first_of_class variable_marks array_marks parameter_marks moded_marks specified_marks headed_marks procedure_marks class_marks virtual_name_marks program_marks inner_marks declaring of_segment of_mode_part of_specification of_specifier of_virtual of_heading declared_by declarations_of run_of_runs lookup shown_of_scopes encloser searched block_at_of_scopes declaration_from binding entry_of formals_of formal_of result_of source_of denoted type_at line_at level_of block_of block_around standard_name text_attribute sysin_attribute sysout_attribute signature is_real_function is_random_drawing is_file_or_layout is_environment_name undeclared program_events of_statement of_branch of_arm of_block of_whole of_class_body of_declaration block_number slot_of accessible protects is_kind some_around_of some_around base brought_by level_shows shown_of is_detach ends_search outward virtual_of represented standard_at qualified_marks qualified_result connection_at own_attribute transfer_at levels_of levels is_in is_of has_procedure belongs class_at qualification stream_of is_variable is_attribute own_result result_meant standard_texts text_constant found_at shows_detach if_found found_in is_passed_over class_formals_of class_formals class_formal some_level_of has_level holds_class has_classes has_standard is_simulation_block is_for_prefixing simulation_level_of class_block is_in_chain on_one_chain shared_level_of shared_class names_hidden protector_of protector hides opens is_open fine wrong no_target targets assigned_to call_assigned target sign_agrees with_left lefts compared assigned precedes found is_connected prefix_of frame_text hidden_in block_in_front class_number
none_connected zero = refl
none_connected (suc k) = refl

no_connection : (k : ℕ) → is_connection (text for_list k) ≡ false
unfolding is_process_itself own_match by_name is_placed digits element_place making_array copying_array keeping_array finding_element giving_back handed_over stopping no_rule ticking taking entering having when computing choosing popping pop_many pop_plain pop_truth pop_integers pop_operands pop_text answering applying_one applying_two testing_step performing at_level kept_on pushing index level_of_machine cell_at jumping block_at own_block leaving with_result putting is_text home_of first_cells leaving_of_meaning constants_of text_constants putting_of_steps text is_class_free declared_at constant_of calculate compare compare_as_texts connect same_objects same_texts two_of one_of step_test take_integer take_character take_text take_nothing row_of standard_effect default_mode mode_allowed marked type_named result_named mode_named first_of_procedure first_of_class variable_marks array_marks parameter_marks moded_marks specified_marks headed_marks procedure_marks class_marks virtual_name_marks program_marks inner_marks declaring of_segment of_mode_part of_specification of_specifier of_virtual of_heading declared_by declarations_of run_of_runs lookup shown_of_scopes encloser searched block_at_of_scopes declaration_from binding entry_of formals_of formal_of result_of source_of denoted type_at line_at level_of block_of block_around standard_name text_attribute sysin_attribute sysout_attribute signature is_real_function is_random_drawing is_file_or_layout is_environment_name undeclared program_events of_statement of_branch of_arm of_block of_whole of_class_body of_declaration block_number slot_of accessible protects is_kind some_around_of some_around base brought_by level_shows shown_of is_detach ends_search outward virtual_of represented standard_at qualified_marks qualified_result connection_at own_attribute transfer_at levels_of levels is_in is_of has_procedure belongs class_at qualification stream_of is_variable is_attribute own_result result_meant standard_texts text_constant found_at shows_detach if_found found_in is_passed_over class_formals_of class_formals class_formal some_level_of has_level holds_class has_classes has_standard is_simulation_block is_for_prefixing simulation_level_of class_block is_in_chain on_one_chain shared_level_of shared_class names_hidden protector_of protector hides opens is_open fine wrong no_target targets assigned_to call_assigned target sign_agrees with_left lefts compared assigned precedes found is_connected prefix_of frame_text hidden_in block_in_front class_number
no_connection zero = refl
no_connection (suc k) = refl

no_prefix : (k : ℕ) → prefix_of for_list.tables k ≡ None
unfolding is_process_itself own_match by_name is_placed digits element_place making_array copying_array keeping_array finding_element giving_back handed_over stopping no_rule ticking taking entering having when computing choosing popping pop_many pop_plain pop_truth pop_integers pop_operands pop_text answering applying_one applying_two testing_step performing at_level kept_on pushing index level_of_machine cell_at jumping block_at own_block leaving with_result putting is_text home_of first_cells leaving_of_meaning constants_of text_constants putting_of_steps text is_class_free declared_at constant_of calculate compare compare_as_texts connect same_objects same_texts two_of one_of step_test take_integer take_character take_text take_nothing row_of standard_effect default_mode mode_allowed marked type_named result_named mode_named first_of_procedure first_of_class variable_marks array_marks parameter_marks moded_marks specified_marks headed_marks procedure_marks class_marks virtual_name_marks program_marks inner_marks declaring of_segment of_mode_part of_specification of_specifier of_virtual of_heading declared_by declarations_of run_of_runs lookup shown_of_scopes encloser searched block_at_of_scopes declaration_from binding entry_of formals_of formal_of result_of source_of denoted type_at line_at level_of block_of block_around standard_name text_attribute sysin_attribute sysout_attribute signature is_real_function is_random_drawing is_file_or_layout is_environment_name undeclared program_events of_statement of_branch of_arm of_block of_whole of_class_body of_declaration block_number slot_of accessible protects is_kind some_around_of some_around base brought_by level_shows shown_of is_detach ends_search outward virtual_of represented standard_at qualified_marks qualified_result connection_at own_attribute transfer_at levels_of levels is_in is_of has_procedure belongs class_at qualification stream_of is_variable is_attribute own_result result_meant standard_texts text_constant found_at shows_detach if_found found_in is_passed_over class_formals_of class_formals class_formal some_level_of has_level holds_class has_classes has_standard is_simulation_block is_for_prefixing simulation_level_of class_block is_in_chain on_one_chain shared_level_of shared_class names_hidden protector_of protector hides opens is_open fine wrong no_target targets assigned_to call_assigned target sign_agrees with_left lefts compared assigned precedes found is_connected prefix_of frame_text hidden_in block_in_front class_number
no_prefix zero = refl
no_prefix (suc k) = refl

owners : (k : ℕ) → all_of (λ d. block_of for_list d ≡ k) (numbers_of for_list k)
unfolding is_process_itself own_match by_name is_placed digits element_place making_array copying_array keeping_array finding_element giving_back handed_over stopping no_rule ticking taking entering having when computing choosing popping pop_many pop_plain pop_truth pop_integers pop_operands pop_text answering applying_one applying_two testing_step performing at_level kept_on pushing index level_of_machine cell_at jumping block_at own_block leaving with_result putting is_text home_of first_cells leaving_of_meaning constants_of text_constants putting_of_steps text is_class_free declared_at constant_of calculate compare compare_as_texts connect same_objects same_texts two_of one_of step_test take_integer take_character take_text take_nothing row_of standard_effect default_mode mode_allowed marked type_named result_named mode_named first_of_procedure first_of_class variable_marks array_marks parameter_marks moded_marks specified_marks headed_marks procedure_marks class_marks virtual_name_marks program_marks inner_marks declaring of_segment of_mode_part of_specification of_specifier of_virtual of_heading declared_by declarations_of run_of_runs lookup shown_of_scopes encloser searched block_at_of_scopes declaration_from binding entry_of formals_of formal_of result_of source_of denoted type_at line_at level_of block_of block_around standard_name text_attribute sysin_attribute sysout_attribute signature is_real_function is_random_drawing is_file_or_layout is_environment_name undeclared program_events of_statement of_branch of_arm of_block of_whole of_class_body of_declaration block_number slot_of accessible protects is_kind some_around_of some_around base brought_by level_shows shown_of is_detach ends_search outward virtual_of represented standard_at qualified_marks qualified_result connection_at own_attribute transfer_at levels_of levels is_in is_of has_procedure belongs class_at qualification stream_of is_variable is_attribute own_result result_meant standard_texts text_constant found_at shows_detach if_found found_in is_passed_over class_formals_of class_formals class_formal some_level_of has_level holds_class has_classes has_standard is_simulation_block is_for_prefixing simulation_level_of class_block is_in_chain on_one_chain shared_level_of shared_class names_hidden protector_of protector hides opens is_open fine wrong no_target targets assigned_to call_assigned target sign_agrees with_left lefts compared assigned precedes found is_connected prefix_of frame_text hidden_in block_in_front class_number
owners zero = (refl, tt)
owners (suc k) = tt

listed_once : (k : ℕ) → apart (numbers_of for_list k)
unfolding is_process_itself own_match by_name is_placed digits element_place making_array copying_array keeping_array finding_element giving_back handed_over stopping no_rule ticking taking entering having when computing choosing popping pop_many pop_plain pop_truth pop_integers pop_operands pop_text answering applying_one applying_two testing_step performing at_level kept_on pushing index level_of_machine cell_at jumping block_at own_block leaving with_result putting is_text home_of first_cells leaving_of_meaning constants_of text_constants putting_of_steps text is_class_free declared_at constant_of calculate compare compare_as_texts connect same_objects same_texts two_of one_of step_test take_integer take_character take_text take_nothing row_of standard_effect default_mode mode_allowed marked type_named result_named mode_named first_of_procedure first_of_class variable_marks array_marks parameter_marks moded_marks specified_marks headed_marks procedure_marks class_marks virtual_name_marks program_marks inner_marks declaring of_segment of_mode_part of_specification of_specifier of_virtual of_heading declared_by declarations_of run_of_runs lookup shown_of_scopes encloser searched block_at_of_scopes declaration_from binding entry_of formals_of formal_of result_of source_of denoted type_at line_at level_of block_of block_around standard_name text_attribute sysin_attribute sysout_attribute signature is_real_function is_random_drawing is_file_or_layout is_environment_name undeclared program_events of_statement of_branch of_arm of_block of_whole of_class_body of_declaration block_number slot_of accessible protects is_kind some_around_of some_around base brought_by level_shows shown_of is_detach ends_search outward virtual_of represented standard_at qualified_marks qualified_result connection_at own_attribute transfer_at levels_of levels is_in is_of has_procedure belongs class_at qualification stream_of is_variable is_attribute own_result result_meant standard_texts text_constant found_at shows_detach if_found found_in is_passed_over class_formals_of class_formals class_formal some_level_of has_level holds_class has_classes has_standard is_simulation_block is_for_prefixing simulation_level_of class_block is_in_chain on_one_chain shared_level_of shared_class names_hidden protector_of protector hides opens is_open fine wrong no_target targets assigned_to call_assigned target sign_agrees with_left lefts compared assigned precedes found is_connected prefix_of frame_text hidden_in block_in_front class_number
listed_once zero = (tt, tt)
listed_once (suc k) = tt

formal_rows : (k : ℕ) → all_of (λ d. (x : Formal) × (entry_of for_list.tables d ≡ Some (entry.Formal x))) (formals_in (slice_get for_list.tables.blocks k))
unfolding is_process_itself own_match by_name is_placed digits element_place making_array copying_array keeping_array finding_element giving_back handed_over stopping no_rule ticking taking entering having when computing choosing popping pop_many pop_plain pop_truth pop_integers pop_operands pop_text answering applying_one applying_two testing_step performing at_level kept_on pushing index level_of_machine cell_at jumping block_at own_block leaving with_result putting is_text home_of first_cells leaving_of_meaning constants_of text_constants putting_of_steps text is_class_free declared_at constant_of calculate compare compare_as_texts connect same_objects same_texts two_of one_of step_test take_integer take_character take_text take_nothing row_of standard_effect default_mode mode_allowed marked type_named result_named mode_named first_of_procedure first_of_class variable_marks array_marks parameter_marks moded_marks specified_marks headed_marks procedure_marks class_marks virtual_name_marks program_marks inner_marks declaring of_segment of_mode_part of_specification of_specifier of_virtual of_heading declared_by declarations_of run_of_runs lookup shown_of_scopes encloser searched block_at_of_scopes declaration_from binding entry_of formals_of formal_of result_of source_of denoted type_at line_at level_of block_of block_around standard_name text_attribute sysin_attribute sysout_attribute signature is_real_function is_random_drawing is_file_or_layout is_environment_name undeclared program_events of_statement of_branch of_arm of_block of_whole of_class_body of_declaration block_number slot_of accessible protects is_kind some_around_of some_around base brought_by level_shows shown_of is_detach ends_search outward virtual_of represented standard_at qualified_marks qualified_result connection_at own_attribute transfer_at levels_of levels is_in is_of has_procedure belongs class_at qualification stream_of is_variable is_attribute own_result result_meant standard_texts text_constant found_at shows_detach if_found found_in is_passed_over class_formals_of class_formals class_formal some_level_of has_level holds_class has_classes has_standard is_simulation_block is_for_prefixing simulation_level_of class_block is_in_chain on_one_chain shared_level_of shared_class names_hidden protector_of protector hides opens is_open fine wrong no_target targets assigned_to call_assigned target sign_agrees with_left lefts compared assigned precedes found is_connected prefix_of frame_text hidden_in block_in_front class_number
formal_rows zero = tt
formal_rows (suc k) = tt

no_class : (n k : ℕ) → entry_of for_list.tables (record { 0 = n }) ≡ Some (entry.Class k) → ⊥
unfolding is_process_itself own_match by_name is_placed digits element_place making_array copying_array keeping_array finding_element giving_back handed_over stopping no_rule ticking taking entering having when computing choosing popping pop_many pop_plain pop_truth pop_integers pop_operands pop_text answering applying_one applying_two testing_step performing at_level kept_on pushing index level_of_machine cell_at jumping block_at own_block leaving with_result putting is_text home_of first_cells leaving_of_meaning constants_of text_constants putting_of_steps text is_class_free declared_at constant_of calculate compare compare_as_texts connect same_objects same_texts two_of one_of step_test take_integer take_character take_text take_nothing row_of standard_effect default_mode mode_allowed marked type_named result_named mode_named first_of_procedure first_of_class variable_marks array_marks parameter_marks moded_marks specified_marks headed_marks procedure_marks class_marks virtual_name_marks program_marks inner_marks declaring of_segment of_mode_part of_specification of_specifier of_virtual of_heading declared_by declarations_of run_of_runs lookup shown_of_scopes encloser searched block_at_of_scopes declaration_from binding entry_of formals_of formal_of result_of source_of denoted type_at line_at level_of block_of block_around standard_name text_attribute sysin_attribute sysout_attribute signature is_real_function is_random_drawing is_file_or_layout is_environment_name undeclared program_events of_statement of_branch of_arm of_block of_whole of_class_body of_declaration block_number slot_of accessible protects is_kind some_around_of some_around base brought_by level_shows shown_of is_detach ends_search outward virtual_of represented standard_at qualified_marks qualified_result connection_at own_attribute transfer_at levels_of levels is_in is_of has_procedure belongs class_at qualification stream_of is_variable is_attribute own_result result_meant standard_texts text_constant found_at shows_detach if_found found_in is_passed_over class_formals_of class_formals class_formal some_level_of has_level holds_class has_classes has_standard is_simulation_block is_for_prefixing simulation_level_of class_block is_in_chain on_one_chain shared_level_of shared_class names_hidden protector_of protector hides opens is_open fine wrong no_target targets assigned_to call_assigned target sign_agrees with_left lefts compared assigned precedes found is_connected prefix_of frame_text hidden_in block_in_front class_number
no_class zero k e = cc
no_class (suc n) k e = cc

nested : (t u : ℕ) → encloser for_list.tables t ≡ Some u → u < t
unfolding is_process_itself own_match by_name is_placed digits element_place making_array copying_array keeping_array finding_element giving_back handed_over stopping no_rule ticking taking entering having when computing choosing popping pop_many pop_plain pop_truth pop_integers pop_operands pop_text answering applying_one applying_two testing_step performing at_level kept_on pushing index level_of_machine cell_at jumping block_at own_block leaving with_result putting is_text home_of first_cells leaving_of_meaning constants_of text_constants putting_of_steps text is_class_free declared_at constant_of calculate compare compare_as_texts connect same_objects same_texts two_of one_of step_test take_integer take_character take_text take_nothing row_of standard_effect default_mode mode_allowed marked type_named result_named mode_named first_of_procedure first_of_class variable_marks array_marks parameter_marks moded_marks specified_marks headed_marks procedure_marks class_marks virtual_name_marks program_marks inner_marks declaring of_segment of_mode_part of_specification of_specifier of_virtual of_heading declared_by declarations_of run_of_runs lookup shown_of_scopes encloser searched block_at_of_scopes declaration_from binding entry_of formals_of formal_of result_of source_of denoted type_at line_at level_of block_of block_around standard_name text_attribute sysin_attribute sysout_attribute signature is_real_function is_random_drawing is_file_or_layout is_environment_name undeclared program_events of_statement of_branch of_arm of_block of_whole of_class_body of_declaration block_number slot_of accessible protects is_kind some_around_of some_around base brought_by level_shows shown_of is_detach ends_search outward virtual_of represented standard_at qualified_marks qualified_result connection_at own_attribute transfer_at levels_of levels is_in is_of has_procedure belongs class_at qualification stream_of is_variable is_attribute own_result result_meant standard_texts text_constant found_at shows_detach if_found found_in is_passed_over class_formals_of class_formals class_formal some_level_of has_level holds_class has_classes has_standard is_simulation_block is_for_prefixing simulation_level_of class_block is_in_chain on_one_chain shared_level_of shared_class names_hidden protector_of protector hides opens is_open fine wrong no_target targets assigned_to call_assigned target sign_agrees with_left lefts compared assigned precedes found is_connected prefix_of frame_text hidden_in block_in_front class_number
nested zero u e = absurd (cc)
nested (suc t) u e = absurd (cc)

prefixed_there : (k : ℕ) → is_prefixed for_list.tables k ≡ true → (has_levels (text for_list k) ≡ true) × (is_class (text for_list k) ≡ false)
unfolding is_process_itself own_match by_name is_placed digits element_place making_array copying_array keeping_array finding_element giving_back handed_over stopping no_rule ticking taking entering having when computing choosing popping pop_many pop_plain pop_truth pop_integers pop_operands pop_text answering applying_one applying_two testing_step performing at_level kept_on pushing index level_of_machine cell_at jumping block_at own_block leaving with_result putting is_text home_of first_cells leaving_of_meaning constants_of text_constants putting_of_steps text is_class_free declared_at constant_of calculate compare compare_as_texts connect same_objects same_texts two_of one_of step_test take_integer take_character take_text take_nothing row_of standard_effect default_mode mode_allowed marked type_named result_named mode_named first_of_procedure first_of_class variable_marks array_marks parameter_marks moded_marks specified_marks headed_marks procedure_marks class_marks virtual_name_marks program_marks inner_marks declaring of_segment of_mode_part of_specification of_specifier of_virtual of_heading declared_by declarations_of run_of_runs lookup shown_of_scopes encloser searched block_at_of_scopes declaration_from binding entry_of formals_of formal_of result_of source_of denoted type_at line_at level_of block_of block_around standard_name text_attribute sysin_attribute sysout_attribute signature is_real_function is_random_drawing is_file_or_layout is_environment_name undeclared program_events of_statement of_branch of_arm of_block of_whole of_class_body of_declaration block_number slot_of accessible protects is_kind some_around_of some_around base brought_by level_shows shown_of is_detach ends_search outward virtual_of represented standard_at qualified_marks qualified_result connection_at own_attribute transfer_at levels_of levels is_in is_of has_procedure belongs class_at qualification stream_of is_variable is_attribute own_result result_meant standard_texts text_constant found_at shows_detach if_found found_in is_passed_over class_formals_of class_formals class_formal some_level_of has_level holds_class has_classes has_standard is_simulation_block is_for_prefixing simulation_level_of class_block is_in_chain on_one_chain shared_level_of shared_class names_hidden protector_of protector hides opens is_open fine wrong no_target targets assigned_to call_assigned target sign_agrees with_left lefts compared assigned precedes found is_connected prefix_of frame_text hidden_in block_in_front class_number is_prefixed
prefixed_there zero e = absurd (cc (e))
prefixed_there (suc k) e = absurd (cc (e))

no_standard : (k : ℕ) (which : StandardClass) → text for_list k ≡ Some (StandardText which) → ⊥
unfolding is_process_itself own_match by_name is_placed digits element_place making_array copying_array keeping_array finding_element giving_back handed_over stopping no_rule ticking taking entering having when computing choosing popping pop_many pop_plain pop_truth pop_integers pop_operands pop_text answering applying_one applying_two testing_step performing at_level kept_on pushing index level_of_machine cell_at jumping block_at own_block leaving with_result putting is_text home_of first_cells leaving_of_meaning constants_of text_constants putting_of_steps text is_class_free declared_at constant_of calculate compare compare_as_texts connect same_objects same_texts two_of one_of step_test take_integer take_character take_text take_nothing row_of standard_effect default_mode mode_allowed marked type_named result_named mode_named first_of_procedure first_of_class variable_marks array_marks parameter_marks moded_marks specified_marks headed_marks procedure_marks class_marks virtual_name_marks program_marks inner_marks declaring of_segment of_mode_part of_specification of_specifier of_virtual of_heading declared_by declarations_of run_of_runs lookup shown_of_scopes encloser searched block_at_of_scopes declaration_from binding entry_of formals_of formal_of result_of source_of denoted type_at line_at level_of block_of block_around standard_name text_attribute sysin_attribute sysout_attribute signature is_real_function is_random_drawing is_file_or_layout is_environment_name undeclared program_events of_statement of_branch of_arm of_block of_whole of_class_body of_declaration block_number slot_of accessible protects is_kind some_around_of some_around base brought_by level_shows shown_of is_detach ends_search outward virtual_of represented standard_at qualified_marks qualified_result connection_at own_attribute transfer_at levels_of levels is_in is_of has_procedure belongs class_at qualification stream_of is_variable is_attribute own_result result_meant standard_texts text_constant found_at shows_detach if_found found_in is_passed_over class_formals_of class_formals class_formal some_level_of has_level holds_class has_classes has_standard is_simulation_block is_for_prefixing simulation_level_of class_block is_in_chain on_one_chain shared_level_of shared_class names_hidden protector_of protector hides opens is_open fine wrong no_target targets assigned_to call_assigned target sign_agrees with_left lefts compared assigned precedes found is_connected prefix_of frame_text hidden_in block_in_front class_number
no_standard zero which e = cc (e)
no_standard (suc k) which e = cc (e)

no_virtuals : any_virtual for_list.tables.declarations ≡ false
unfolding is_process_itself own_match by_name is_placed digits element_place making_array copying_array keeping_array finding_element giving_back handed_over stopping no_rule ticking taking entering having when computing choosing popping pop_many pop_plain pop_truth pop_integers pop_operands pop_text answering applying_one applying_two testing_step performing at_level kept_on pushing index level_of_machine cell_at jumping block_at own_block leaving with_result putting is_text home_of first_cells leaving_of_meaning constants_of text_constants putting_of_steps text is_class_free declared_at constant_of calculate compare compare_as_texts connect same_objects same_texts two_of one_of step_test take_integer take_character take_text take_nothing row_of standard_effect default_mode mode_allowed marked type_named result_named mode_named first_of_procedure first_of_class variable_marks array_marks parameter_marks moded_marks specified_marks headed_marks procedure_marks class_marks virtual_name_marks program_marks inner_marks declaring of_segment of_mode_part of_specification of_specifier of_virtual of_heading declared_by declarations_of run_of_runs lookup shown_of_scopes encloser searched block_at_of_scopes declaration_from binding entry_of formals_of formal_of result_of source_of denoted type_at line_at level_of block_of block_around standard_name text_attribute sysin_attribute sysout_attribute signature is_real_function is_random_drawing is_file_or_layout is_environment_name undeclared program_events of_statement of_branch of_arm of_block of_whole of_class_body of_declaration block_number slot_of accessible protects is_kind some_around_of some_around base brought_by level_shows shown_of is_detach ends_search outward virtual_of represented standard_at qualified_marks qualified_result connection_at own_attribute transfer_at levels_of levels is_in is_of has_procedure belongs class_at qualification stream_of is_variable is_attribute own_result result_meant standard_texts text_constant found_at shows_detach if_found found_in is_passed_over class_formals_of class_formals class_formal some_level_of has_level holds_class has_classes has_standard is_simulation_block is_for_prefixing simulation_level_of class_block is_in_chain on_one_chain shared_level_of shared_class names_hidden protector_of protector hides opens is_open fine wrong no_target targets assigned_to call_assigned target sign_agrees with_left lefts compared assigned precedes found is_connected prefix_of frame_text hidden_in block_in_front class_number
no_virtuals = refl

agree : Agrees for_list
unfolding is_process_itself own_match by_name is_placed digits element_place making_array copying_array keeping_array finding_element giving_back handed_over stopping no_rule ticking taking entering having when computing choosing popping pop_many pop_plain pop_truth pop_integers pop_operands pop_text answering applying_one applying_two testing_step performing at_level kept_on pushing index level_of_machine cell_at jumping block_at own_block leaving with_result putting is_text home_of first_cells leaving_of_meaning constants_of text_constants putting_of_steps text is_class_free declared_at constant_of calculate compare compare_as_texts connect same_objects same_texts two_of one_of step_test take_integer take_character take_text take_nothing row_of standard_effect default_mode mode_allowed marked type_named result_named mode_named first_of_procedure first_of_class variable_marks array_marks parameter_marks moded_marks specified_marks headed_marks procedure_marks class_marks virtual_name_marks program_marks inner_marks declaring of_segment of_mode_part of_specification of_specifier of_virtual of_heading declared_by declarations_of run_of_runs lookup shown_of_scopes encloser searched block_at_of_scopes declaration_from binding entry_of formals_of formal_of result_of source_of denoted type_at line_at level_of block_of block_around standard_name text_attribute sysin_attribute sysout_attribute signature is_real_function is_random_drawing is_file_or_layout is_environment_name undeclared program_events of_statement of_branch of_arm of_block of_whole of_class_body of_declaration block_number slot_of accessible protects is_kind some_around_of some_around base brought_by level_shows shown_of is_detach ends_search outward virtual_of represented standard_at qualified_marks qualified_result connection_at own_attribute transfer_at levels_of levels is_in is_of has_procedure belongs class_at qualification stream_of is_variable is_attribute own_result result_meant standard_texts text_constant found_at shows_detach if_found found_in is_passed_over class_formals_of class_formals class_formal some_level_of has_level holds_class has_classes has_standard is_simulation_block is_for_prefixing simulation_level_of class_block is_in_chain on_one_chain shared_level_of shared_class names_hidden protector_of protector hides opens is_open fine wrong no_target targets assigned_to call_assigned target sign_agrees with_left lefts compared assigned precedes found is_connected prefix_of frame_text hidden_in block_in_front class_number
agree = record {
  outermost = refl;
  as_many = refl;
  connected = λ k. none_connected k ∙ sym (no_connection k);
  nesting = nested;
  levels = λ t u e c. alone t u e;
  same_level = λ t u e c. absurd (not_both (is_connected for_list.tables t) c (none_connected t));
  begun = λ k c. absurd (not_both (is_connected for_list.tables k) c (none_connected k));
  prefixes = λ k front e. absurd (not_some (prefix_of for_list.tables k) front (no_prefix k) e);
  prefixed = prefixed_there;
  ends = λ k. one_level (no_prefix k);
  owned = λ k n d e. all_at (λ d. block_of for_list d ≡ k) (numbers_of for_list k) (owners k) n d e;
  once = λ k n m d e h. once_at (numbers_of for_list k) (listed_once k) n m d e h;
  formals = λ k n d e. all_at (λ d. (x : Formal) × (entry_of for_list.tables d ≡ Some (entry.Formal x))) (formals_in (slice_get for_list.tables.blocks k)) (formal_rows k) n d e;
  classes = λ d k e. absurd (no_class d.0 k e);
  procedures = λ d result k e. no_procedure d.0 result k d refl e;
  processes = λ k e. absurd (no_standard k standard.Process e);
  blocks = λ k u which p level e. no_standard u which e;
  standards = λ j k which e f level. absurd (no_standard j which e);
  matches = λ v k text is levels e. absurd (no_virtual for_list no_virtuals v is);
}

pub for_list_compiled : Compiled for_list for_list_code
unfolding is_process_itself own_match by_name is_placed digits element_place making_array copying_array keeping_array finding_element giving_back handed_over stopping no_rule ticking taking entering having when computing choosing popping pop_many pop_plain pop_truth pop_integers pop_operands pop_text answering applying_one applying_two testing_step performing at_level kept_on pushing index level_of_machine cell_at jumping block_at own_block leaving with_result putting is_text home_of first_cells leaving_of_meaning constants_of text_constants putting_of_steps text is_class_free declared_at constant_of calculate compare compare_as_texts connect same_objects same_texts two_of one_of step_test take_integer take_character take_text take_nothing row_of standard_effect default_mode mode_allowed marked type_named result_named mode_named first_of_procedure first_of_class variable_marks array_marks parameter_marks moded_marks specified_marks headed_marks procedure_marks class_marks virtual_name_marks program_marks inner_marks declaring of_segment of_mode_part of_specification of_specifier of_virtual of_heading declared_by declarations_of run_of_runs lookup shown_of_scopes encloser searched block_at_of_scopes declaration_from binding entry_of formals_of formal_of result_of source_of denoted type_at line_at level_of block_of block_around standard_name text_attribute sysin_attribute sysout_attribute signature is_real_function is_random_drawing is_file_or_layout is_environment_name undeclared program_events of_statement of_branch of_arm of_block of_whole of_class_body of_declaration block_number slot_of accessible protects is_kind some_around_of some_around base brought_by level_shows shown_of is_detach ends_search outward virtual_of represented standard_at qualified_marks qualified_result connection_at own_attribute transfer_at levels_of levels is_in is_of has_procedure belongs class_at qualification stream_of is_variable is_attribute own_result result_meant standard_texts text_constant found_at shows_detach if_found found_in is_passed_over class_formals_of class_formals class_formal some_level_of has_level holds_class has_classes has_standard is_simulation_block is_for_prefixing simulation_level_of class_block is_in_chain on_one_chain shared_level_of shared_class names_hidden protector_of protector hides opens is_open fine wrong no_target targets assigned_to call_assigned target sign_agrees with_left lefts compared assigned precedes found is_connected prefix_of frame_text hidden_in block_in_front class_number
for_list_compiled = record { agrees = agree; texts = refl; each = λ k x e. subst (Has k) e (each_stands k); matches = λ k x levels e. none_matched for_list for_list_code no_virtuals refl k x e; as_many = refl }

-- The code of a program with texts stands for it: attributes by address and by value, `:-` and `:=`, a constant, and `&`.
use Rattle.std.proofs.Common.{true, ◌≡◌, ◌<◌, ◌≤◌, ℕ, zero, suc, [], ◌∷◌, Option, Some, None, refl, sym, ap, ◌∙◌, subst, arith, false}
use Rattle.std.specs.Prelude.{codes, pos, slice_get}
use Rattle.sim_base.specs.declared.numbering.DeclNo.{DeclNo}
use Rattle.sim_scope.specs.declared.types.StandardClass.{StandardClass}
use Rattle.sim_scope.specs.declared.types.StandardClass.TheVariants as standard
use Rattle.sim_scope.specs.declared.types.Entry.TheVariants as entry
use Rattle.sim_scope.specs.declared.types.SimType.{SimType}
use Rattle.sim_code.specs.declared.code.CodeType.TheVariants as type
use Rattle.sim_code.specs.declared.instr.Instr.TheVariants as i
use Rattle.sim_meaning.specs.TextExamples.{parts}
use Rattle.sim_meaning.specs.Texts.{Text, StandardText}
use Rattle.codegen_expr.specs.Sites.{Site, block_number, itself, slot_of}
use Rattle.codegen.specs.Agrees.{Agrees, ProcedureThere, is_prefixed, last as one_level}
use Rattle.codegen.specs.Compiled.{CodeHas, Compiled}
use Rattle.sim_relate.specs.Examples.{parts_code}
use Rattle.sim_relate.proofs.Placed.{ins, push}
use Rattle.std.specs.Fmt.{digits}
use Rattle.sim_code.specs.Arrays.{element_place, making_array, copying_array, keeping_array, finding_element, giving_back, handed_over}
use Rattle.sim_code.specs.Events.{stopping, no_rule, ticking, taking, entering, having, when, computing, choosing, popping, pop_many, pop_plain, pop_truth, pop_integers, pop_operands, pop_text, answering, applying_one, applying_two, testing_step, performing}
use Rattle.sim_code.specs.Instances.{at_level, kept_on}
use Rattle.sim_code.specs.Machine.{pushing, index, level as level_of_machine, cell_at, jumping, block_at, own_block, leaving, with_result}
use Rattle.sim_code.specs.Rows.{putting}
use Rattle.sim_meaning.specs.Closing.{is_text, home_of, is_variable, stream_of, own_result, own_match, by_name, is_placed}
use Rattle.sim_meaning.specs.Entries.{first_cells}
use Rattle.sim_meaning.specs.Meaning.{leaving as leaving_of_meaning}
use Rattle.sim_meaning.specs.Constants.{constants_of, text_constant, text_constants}
use Rattle.sim_meaning.specs.Steps.{putting as putting_of_steps}
use Rattle.sim_meaning.specs.Texts.{text, is_class_free, declared_at, constant_of}
use Rattle.sim_values.specs.Operators.{calculate, compare, compare_as_texts, connect, same_objects, same_texts, two_of, one_of, step_test}
use Rattle.sim_values.specs.Standard.{take_integer, take_character, take_text, take_nothing, row_of, standard_effect}
use Rattle.sim_scope.specs.Building.{default_mode, mode_allowed, marked}
use Rattle.sim_scope.specs.Declare.{type_named, result_named, mode_named, first_of_procedure, first_of_class, variable_marks, array_marks, parameter_marks, moded_marks, specified_marks, headed_marks, procedure_marks, class_marks, virtual_name_marks, program_marks, inner_marks, declaring, of_segment, of_mode_part, of_specification, of_specifier, of_virtual, of_heading, declared_by, declarations_of, qualified_marks, qualified_result}
use Rattle.sim_scope.specs.Runs.{run as run_of_runs}
use Rattle.sim_scope.specs.Access.{encloser, block_at as block_at_of_scopes, accessible, protects, is_kind, some_around_of, some_around}
use Rattle.sim_scope.specs.Levels.{base}
use Rattle.sim_scope.specs.Scopes.{lookup, shown as shown_of_scopes, searched, declaration_from, binding, entry_of, formals_of, formal_of, result_of, brought_by, level_shows, shown_of, is_detach, ends_search, outward, virtual_of, represented, standard_at}
use Rattle.sim_scope.specs.Source.{source_of, denoted, type_at, line_at, level_of, block_of, block_around}
use Rattle.sim_scope.specs.Standard.{standard_name, text_attribute, sysin_attribute, sysout_attribute, signature, is_real_function, is_random_drawing, is_file_or_layout, is_environment_name, undeclared}
use Rattle.sim_scope.specs.Walk.{program_events, of_statement, of_branch, of_arm, of_block, of_whole, of_class_body, of_declaration}
use Rattle.sim_meaning.specs.Attributes.{connection_at, own_attribute, transfer_at}
use Rattle.sim_meaning.specs.Levels.{has_levels, is_class, levels_of, levels, is_in, is_of, has_procedure, belongs, class_at, qualification, is_process_itself}
use Rattle.sim_meaning.specs.Closing.{is_attribute, result_meant}
use Rattle.sim_meaning.specs.Texts.{standard_texts}
use Rattle.sim_scope.specs.Source.{found_at}
use Rattle.sim_scope.specs.Scopes.{shows_detach, if_found, found_in, is_passed_over, class_formals_of, class_formals, class_formal}
use Rattle.sim_scope.specs.Levels.{some_level_of, has_level, holds_class, has_classes, has_standard, is_simulation_block, is_for_prefixing, simulation_level_of, class_block, is_in_chain, on_one_chain, shared_level_of, shared_class}
use Rattle.sim_scope.specs.Access.{names_hidden, protector_of, protector, hides, opens, is_open}
use Rattle.sim_scope.specs.Assignments.{fine, wrong, no_target, targets, assigned_to, call_assigned, target, sign_agrees, with_left, lefts, compared, assigned}
use Rattle.sim_scope.specs.Found.{precedes, found}
use Rattle.codegen_expr.specs.Sites.{is_connected, prefix_of, frame_text, hidden_in, block_in_front, class_number}
use Rattle.sim_meaning.specs.Attributes.{is_connection}
use Rattle.sim_meaning.specs.Entries.{numbers_of}
use Rattle.sim_relate.proofs.ExampleTables.{all_at, all_of, apart, not_both, not_some, once_at, any_virtual, no_virtual, none_matched}
use Rattle.sim_scope.specs.Scopes.{formals_in}
use Rattle.sim_scope.specs.declared.types.Formal.{Formal}

abbrev outer : Site
outer = record { text = 0; room = 6; temps = 2; used = 5; size = 5; thunk = None }

lt_0_2 : 0 < 2
lt_0_2 = omega arith

lt_0_6 : 0 < 6
lt_0_6 = omega arith

lt_1_2 : 1 < 2
lt_1_2 = omega arith

lt_1_6 : 1 < 6
lt_1_6 = omega arith

lt_1_74 : 1 < 74
lt_1_74 = omega arith

lt_2_6 : 2 < 6
lt_2_6 = omega arith

lt_4_5 : 4 < 5
lt_4_5 = omega arith

lt_124_256 : 124 < 256
lt_124_256 = omega arith

le_0_6 : 0 ≤ 6
le_0_6 = omega arith

le_2_2 : 2 ≤ 2
le_2_2 = omega arith

abbrev Has : ℕ → Option Text → Type 0
Has k None = Unit {0}
Has k (Some x) = CodeHas parts parts_code k x (slice_get parts_code.blocks (block_number parts k))

program_stands : Has 0 (text parts 0)
unfolding is_process_itself own_match by_name is_placed digits element_place making_array copying_array keeping_array finding_element giving_back handed_over stopping no_rule ticking taking entering having when computing choosing popping pop_many pop_plain pop_truth pop_integers pop_operands pop_text answering applying_one applying_two testing_step performing at_level kept_on pushing index level_of_machine cell_at jumping block_at own_block leaving with_result putting is_text home_of first_cells leaving_of_meaning constants_of text_constants text_constant is_variable stream_of own_result putting_of_steps text is_class_free declared_at constant_of calculate compare compare_as_texts connect same_objects same_texts two_of one_of step_test take_integer take_character take_text take_nothing row_of standard_effect default_mode mode_allowed marked type_named result_named mode_named first_of_procedure first_of_class variable_marks array_marks parameter_marks moded_marks specified_marks headed_marks procedure_marks class_marks virtual_name_marks program_marks inner_marks declaring of_segment of_mode_part of_specification of_specifier of_virtual of_heading declared_by declarations_of run_of_runs lookup shown_of_scopes encloser searched block_at_of_scopes declaration_from binding entry_of formals_of formal_of result_of source_of denoted type_at line_at level_of block_of block_around standard_name text_attribute sysin_attribute sysout_attribute signature is_real_function is_random_drawing is_file_or_layout is_environment_name undeclared program_events of_statement of_branch of_arm of_block of_whole of_class_body of_declaration block_number slot_of accessible protects is_kind some_around_of some_around base brought_by level_shows shown_of is_detach ends_search outward virtual_of represented standard_at qualified_marks qualified_result connection_at own_attribute transfer_at levels_of levels is_in is_of has_procedure belongs class_at qualification is_attribute result_meant standard_texts found_at shows_detach if_found found_in is_passed_over class_formals_of class_formals class_formal some_level_of has_level holds_class has_classes has_standard is_simulation_block is_for_prefixing simulation_level_of class_block is_in_chain on_one_chain shared_level_of shared_class names_hidden protector_of protector hides opens is_open fine wrong no_target targets assigned_to call_assigned target sign_agrees with_left lefts compared assigned precedes found is_connected prefix_of frame_text hidden_in block_in_front class_number
program_stands = record { heads = record { is_kind = refl; level = refl; cells = refl; class_free = refl; gives = refl; formals = refl; temps = type.Nothing ∷ type.Nothing ∷ type.Nothing ∷ []; types = refl; counted = refl; roomy = le_0_6 }; start = 1; enter = record { at = refl; on = refl }; body = record { there = lt_1_74; stop = 73; body = (1, refl, (5, (2, ins parts_code (i.Tick) 0 1 refl, (itself, lt_0_2, (4, (refl, (3, (3, push parts_code outer 0 (i.Int (pos 8)) 0 2 lt_0_6 refl, refl), record { as_many = refl; number = 14; numbered = refl; is = record { at = refl; on = refl }; fits = λ e. lt_0_6 })), ins parts_code (i.Store (pos 1) (pos 0)) 0 4 refl))), (10, (6, 10, ins parts_code (i.Tick) 0 5 refl, (refl, (7, 9, record { address = push parts_code outer 0 (i.Addr (pos 1) (pos 0) (pos 0)) 0 6 lt_0_6 refl; inside = itself; within = lt_0_2 }, (9, (8, push parts_code outer 1 (i.Int (pos 42)) 0 7 lt_1_6 refl, record { at = refl; on = refl }), refl), record { as_many = refl; number = 30; numbered = refl; is = record { at = refl; on = refl }; fits = λ e. absurd (cc) })), refl), (16, (11, ins parts_code (i.Tick) 0 10 refl, (itself, lt_1_2, (15, (refl, (12, 14, (refl, record { load = push parts_code outer 0 (i.Load (pos 1) (pos 0)) 0 11 lt_0_6 refl; inside = itself; within = lt_0_2 }), (13, push parts_code outer 1 (i.Int (pos 6)) 0 12 lt_1_6 refl, (14, push parts_code outer 2 (i.Int (pos 3)) 0 13 lt_2_6 refl, refl)), record { as_many = refl; number = 27; numbered = refl; is = record { at = refl; on = refl }; fits = λ e. lt_0_6 })), ins parts_code (i.Store (pos 1) (pos 1)) 0 15 refl))), (20, (17, ins parts_code (i.Tick) 0 16 refl, (18, (refl, record { load = push parts_code outer 0 (i.Load (pos 1) (pos 1)) 0 17 lt_0_6 refl; inside = itself; within = lt_1_2 }), (19, (record { bytes = codes "x"; listed = refl; whole = refl }, push parts_code outer 1 (i.TextK (pos 0)) 0 18 lt_1_6 refl), record { at = refl; on = refl }))), (23, (21, 23, ins parts_code (i.Tick) 0 20 refl, (refl, (22, (22, (refl, record { load = push parts_code outer 0 (i.Load (pos 1) (pos 0)) 0 21 lt_0_6 refl; inside = itself; within = lt_0_2 }), refl), record { as_many = refl; number = 39; numbered = refl; is = record { at = refl; on = refl }; fits = λ e. absurd (cc) })), refl), (26, (24, 26, ins parts_code (i.Tick) 0 23 refl, (refl, (25, (25, (lt_124_256, push parts_code outer 0 (i.Char (pos 124)) 0 24 lt_0_6 refl), refl), record { as_many = refl; number = 38; numbered = refl; is = record { at = refl; on = refl }; fits = λ e. absurd (cc) })), refl), (31, (27, 31, ins parts_code (i.Tick) 0 26 refl, (refl, (30, (29, (refl, (28, 28, (refl, record { load = push parts_code outer 0 (i.Load (pos 1) (pos 0)) 0 27 lt_0_6 refl; inside = itself; within = lt_0_2 }), refl, record { as_many = refl; number = 21; numbered = refl; is = record { at = refl; on = refl }; fits = λ e. lt_0_6 })), (30, push parts_code outer 1 (i.Int (pos 2)) 0 29 lt_1_6 refl, refl)), record { as_many = refl; number = 40; numbered = refl; is = record { at = refl; on = refl }; fits = λ e. absurd (cc) })), refl), (34, (32, 34, ins parts_code (i.Tick) 0 31 refl, (refl, (33, (33, (lt_124_256, push parts_code outer 0 (i.Char (pos 124)) 0 32 lt_0_6 refl), refl), record { as_many = refl; number = 38; numbered = refl; is = record { at = refl; on = refl }; fits = λ e. absurd (cc) })), refl), (71, (35, 71, ins parts_code (i.Tick) 0 34 refl, (refl, (70, (70, record { x = 38; y = 39; within = lt_4_5; left = (refl, (37, (37, (refl, (36, 36, (refl, record { load = push parts_code outer 0 (i.Load (pos 1) (pos 0)) 0 35 lt_0_6 refl; inside = itself; within = lt_0_2 }), refl, record { as_many = refl; number = 28; numbered = refl; is = record { at = refl; on = refl }; fits = λ e. lt_0_6 })), refl), record { as_many = refl; number = 15; numbered = refl; is = record { at = refl; on = refl }; fits = λ e. lt_0_6 })); right = (record { bytes = codes "AB"; listed = refl; whole = refl }, push parts_code outer 1 (i.TextK (pos 1)) 0 38 lt_1_6 refl); room = lt_2_6; joins = (40, record { at = refl; on = refl }, (41, record { at = refl; on = refl }, (42, record { at = refl; on = refl }, (43, record { at = refl; on = refl }, (44, record { at = refl; on = refl }, (45, record { at = refl; on = refl }, (46, record { at = refl; on = refl }, (47, record { at = refl; on = refl }, (48, record { at = refl; on = refl }, (49, record { at = refl; on = refl }, (50, record { at = refl; on = refl }, (51, record { at = refl; on = refl }, (52, record { at = refl; on = refl }, (53, record { at = refl; on = refl }, (54, record { at = refl; on = refl }, (55, record { at = refl; on = refl }, (56, record { at = refl; on = refl }, (57, record { at = refl; on = refl }, (58, record { at = refl; on = refl }, (59, record { at = refl; on = refl }, (60, record { at = refl; on = refl }, (61, record { at = refl; on = refl }, (62, record { at = refl; on = refl }, (63, record { at = refl; on = refl }, (64, record { at = refl; on = refl }, (65, record { at = refl; on = refl }, (66, record { at = refl; on = refl }, (67, record { at = refl; on = refl }, (68, record { at = refl; on = refl }, (69, record { at = refl; on = refl }, (70, record { at = refl; on = refl }, refl))))))))))))))))))))))))))))))) }, refl), record { as_many = refl; number = 39; numbered = refl; is = record { at = refl; on = refl }; fits = λ e. absurd (cc) })), refl), (73, (72, 73, ins parts_code (i.Tick) 0 71 refl, (refl, (72, refl, record { as_many = refl; number = 37; numbered = refl; is = record { at = refl; on = refl }; fits = λ e. absurd (cc) })), refl), refl))))))))))); last = 74; ends = ins parts_code (i.EndLevel (pos 0)) 0 73 refl } }

no_more : (k : ℕ) → Has (suc k) (text parts (suc k))
unfolding is_process_itself own_match by_name is_placed digits element_place making_array copying_array keeping_array finding_element giving_back handed_over stopping no_rule ticking taking entering having when computing choosing popping pop_many pop_plain pop_truth pop_integers pop_operands pop_text answering applying_one applying_two testing_step performing at_level kept_on pushing index level_of_machine cell_at jumping block_at own_block leaving with_result putting is_text home_of first_cells leaving_of_meaning constants_of text_constants text_constant is_variable stream_of own_result putting_of_steps text is_class_free declared_at constant_of calculate compare compare_as_texts connect same_objects same_texts two_of one_of step_test take_integer take_character take_text take_nothing row_of standard_effect default_mode mode_allowed marked type_named result_named mode_named first_of_procedure first_of_class variable_marks array_marks parameter_marks moded_marks specified_marks headed_marks procedure_marks class_marks virtual_name_marks program_marks inner_marks declaring of_segment of_mode_part of_specification of_specifier of_virtual of_heading declared_by declarations_of run_of_runs lookup shown_of_scopes encloser searched block_at_of_scopes declaration_from binding entry_of formals_of formal_of result_of source_of denoted type_at line_at level_of block_of block_around standard_name text_attribute sysin_attribute sysout_attribute signature is_real_function is_random_drawing is_file_or_layout is_environment_name undeclared program_events of_statement of_branch of_arm of_block of_whole of_class_body of_declaration block_number slot_of accessible protects is_kind some_around_of some_around base brought_by level_shows shown_of is_detach ends_search outward virtual_of represented standard_at qualified_marks qualified_result connection_at own_attribute transfer_at levels_of levels is_in is_of has_procedure belongs class_at qualification is_attribute result_meant standard_texts found_at shows_detach if_found found_in is_passed_over class_formals_of class_formals class_formal some_level_of has_level holds_class has_classes has_standard is_simulation_block is_for_prefixing simulation_level_of class_block is_in_chain on_one_chain shared_level_of shared_class names_hidden protector_of protector hides opens is_open fine wrong no_target targets assigned_to call_assigned target sign_agrees with_left lefts compared assigned precedes found is_connected prefix_of frame_text hidden_in block_in_front class_number
no_more k = tt

each_stands : (k : ℕ) → Has k (text parts k)
each_stands zero = program_stands
each_stands (suc k) = no_more k

alone : (t u : ℕ) → encloser parts.tables t ≡ Some u → level_of parts t ≡ suc (level_of parts u)
unfolding is_process_itself own_match by_name is_placed digits element_place making_array copying_array keeping_array finding_element giving_back handed_over stopping no_rule ticking taking entering having when computing choosing popping pop_many pop_plain pop_truth pop_integers pop_operands pop_text answering applying_one applying_two testing_step performing at_level kept_on pushing index level_of_machine cell_at jumping block_at own_block leaving with_result putting is_text home_of first_cells leaving_of_meaning constants_of text_constants text_constant is_variable stream_of own_result putting_of_steps text is_class_free declared_at constant_of calculate compare compare_as_texts connect same_objects same_texts two_of one_of step_test take_integer take_character take_text take_nothing row_of standard_effect default_mode mode_allowed marked type_named result_named mode_named first_of_procedure first_of_class variable_marks array_marks parameter_marks moded_marks specified_marks headed_marks procedure_marks class_marks virtual_name_marks program_marks inner_marks declaring of_segment of_mode_part of_specification of_specifier of_virtual of_heading declared_by declarations_of run_of_runs lookup shown_of_scopes encloser searched block_at_of_scopes declaration_from binding entry_of formals_of formal_of result_of source_of denoted type_at line_at level_of block_of block_around standard_name text_attribute sysin_attribute sysout_attribute signature is_real_function is_random_drawing is_file_or_layout is_environment_name undeclared program_events of_statement of_branch of_arm of_block of_whole of_class_body of_declaration block_number slot_of accessible protects is_kind some_around_of some_around base brought_by level_shows shown_of is_detach ends_search outward virtual_of represented standard_at qualified_marks qualified_result connection_at own_attribute transfer_at levels_of levels is_in is_of has_procedure belongs class_at qualification is_attribute result_meant standard_texts found_at shows_detach if_found found_in is_passed_over class_formals_of class_formals class_formal some_level_of has_level holds_class has_classes has_standard is_simulation_block is_for_prefixing simulation_level_of class_block is_in_chain on_one_chain shared_level_of shared_class names_hidden protector_of protector hides opens is_open fine wrong no_target targets assigned_to call_assigned target sign_agrees with_left lefts compared assigned precedes found is_connected prefix_of frame_text hidden_in block_in_front class_number
alone zero u e = absurd (cc)
alone (suc t) u e = absurd (cc)

no_procedure : (n : ℕ) (result : Option SimType) (k : ℕ) → (d : DeclNo) → d.0 ≡ n → entry_of parts.tables d ≡ Some (entry.Procedure result k) → ProcedureThere parts d result k
unfolding is_process_itself own_match by_name is_placed digits element_place making_array copying_array keeping_array finding_element giving_back handed_over stopping no_rule ticking taking entering having when computing choosing popping pop_many pop_plain pop_truth pop_integers pop_operands pop_text answering applying_one applying_two testing_step performing at_level kept_on pushing index level_of_machine cell_at jumping block_at own_block leaving with_result putting is_text home_of first_cells leaving_of_meaning constants_of text_constants text_constant is_variable stream_of own_result putting_of_steps text is_class_free declared_at constant_of calculate compare compare_as_texts connect same_objects same_texts two_of one_of step_test take_integer take_character take_text take_nothing row_of standard_effect default_mode mode_allowed marked type_named result_named mode_named first_of_procedure first_of_class variable_marks array_marks parameter_marks moded_marks specified_marks headed_marks procedure_marks class_marks virtual_name_marks program_marks inner_marks declaring of_segment of_mode_part of_specification of_specifier of_virtual of_heading declared_by declarations_of run_of_runs lookup shown_of_scopes encloser searched block_at_of_scopes declaration_from binding entry_of formals_of formal_of result_of source_of denoted type_at line_at level_of block_of block_around standard_name text_attribute sysin_attribute sysout_attribute signature is_real_function is_random_drawing is_file_or_layout is_environment_name undeclared program_events of_statement of_branch of_arm of_block of_whole of_class_body of_declaration block_number slot_of accessible protects is_kind some_around_of some_around base brought_by level_shows shown_of is_detach ends_search outward virtual_of represented standard_at qualified_marks qualified_result connection_at own_attribute transfer_at levels_of levels is_in is_of has_procedure belongs class_at qualification is_attribute result_meant standard_texts found_at shows_detach if_found found_in is_passed_over class_formals_of class_formals class_formal some_level_of has_level holds_class has_classes has_standard is_simulation_block is_for_prefixing simulation_level_of class_block is_in_chain on_one_chain shared_level_of shared_class names_hidden protector_of protector hides opens is_open fine wrong no_target targets assigned_to call_assigned target sign_agrees with_left lefts compared assigned precedes found is_connected prefix_of frame_text hidden_in block_in_front class_number
no_procedure zero result k d is e = absurd (let same : entry_of parts.tables (record { 0 = 0 }) ≡ Some (entry.Procedure result k) = ap (λ n. entry_of parts.tables (record { 0 = n })) (sym is) ∙ e in cc)
no_procedure (suc zero) result k d is e = absurd (let same : entry_of parts.tables (record { 0 = 1 }) ≡ Some (entry.Procedure result k) = ap (λ n. entry_of parts.tables (record { 0 = n })) (sym is) ∙ e in cc)
no_procedure (suc (suc n)) result k d is e = absurd (let same : entry_of parts.tables (record { 0 = suc (suc n) }) ≡ Some (entry.Procedure result k) = ap (λ n. entry_of parts.tables (record { 0 = n })) (sym is) ∙ e in cc)

none_connected : (k : ℕ) → is_connected parts.tables k ≡ false
unfolding is_process_itself own_match by_name is_placed digits element_place making_array copying_array keeping_array finding_element giving_back handed_over stopping no_rule ticking taking entering having when computing choosing popping pop_many pop_plain pop_truth pop_integers pop_operands pop_text answering applying_one applying_two testing_step performing at_level kept_on pushing index level_of_machine cell_at jumping block_at own_block leaving with_result putting is_text home_of first_cells leaving_of_meaning constants_of text_constants text_constant is_variable stream_of own_result putting_of_steps text is_class_free declared_at constant_of calculate compare compare_as_texts connect same_objects same_texts two_of one_of step_test take_integer take_character take_text take_nothing row_of standard_effect default_mode mode_allowed marked type_named result_named mode_named first_of_procedure first_of_class variable_marks array_marks parameter_marks moded_marks specified_marks headed_marks procedure_marks class_marks virtual_name_marks program_marks inner_marks declaring of_segment of_mode_part of_specification of_specifier of_virtual of_heading declared_by declarations_of run_of_runs lookup shown_of_scopes encloser searched block_at_of_scopes declaration_from binding entry_of formals_of formal_of result_of source_of denoted type_at line_at level_of block_of block_around standard_name text_attribute sysin_attribute sysout_attribute signature is_real_function is_random_drawing is_file_or_layout is_environment_name undeclared program_events of_statement of_branch of_arm of_block of_whole of_class_body of_declaration block_number slot_of accessible protects is_kind some_around_of some_around base brought_by level_shows shown_of is_detach ends_search outward virtual_of represented standard_at qualified_marks qualified_result connection_at own_attribute transfer_at levels_of levels is_in is_of has_procedure belongs class_at qualification is_attribute result_meant standard_texts found_at shows_detach if_found found_in is_passed_over class_formals_of class_formals class_formal some_level_of has_level holds_class has_classes has_standard is_simulation_block is_for_prefixing simulation_level_of class_block is_in_chain on_one_chain shared_level_of shared_class names_hidden protector_of protector hides opens is_open fine wrong no_target targets assigned_to call_assigned target sign_agrees with_left lefts compared assigned precedes found is_connected prefix_of frame_text hidden_in block_in_front class_number
none_connected zero = refl
none_connected (suc k) = refl

no_connection : (k : ℕ) → is_connection (text parts k) ≡ false
unfolding is_process_itself own_match by_name is_placed digits element_place making_array copying_array keeping_array finding_element giving_back handed_over stopping no_rule ticking taking entering having when computing choosing popping pop_many pop_plain pop_truth pop_integers pop_operands pop_text answering applying_one applying_two testing_step performing at_level kept_on pushing index level_of_machine cell_at jumping block_at own_block leaving with_result putting is_text home_of first_cells leaving_of_meaning constants_of text_constants text_constant is_variable stream_of own_result putting_of_steps text is_class_free declared_at constant_of calculate compare compare_as_texts connect same_objects same_texts two_of one_of step_test take_integer take_character take_text take_nothing row_of standard_effect default_mode mode_allowed marked type_named result_named mode_named first_of_procedure first_of_class variable_marks array_marks parameter_marks moded_marks specified_marks headed_marks procedure_marks class_marks virtual_name_marks program_marks inner_marks declaring of_segment of_mode_part of_specification of_specifier of_virtual of_heading declared_by declarations_of run_of_runs lookup shown_of_scopes encloser searched block_at_of_scopes declaration_from binding entry_of formals_of formal_of result_of source_of denoted type_at line_at level_of block_of block_around standard_name text_attribute sysin_attribute sysout_attribute signature is_real_function is_random_drawing is_file_or_layout is_environment_name undeclared program_events of_statement of_branch of_arm of_block of_whole of_class_body of_declaration block_number slot_of accessible protects is_kind some_around_of some_around base brought_by level_shows shown_of is_detach ends_search outward virtual_of represented standard_at qualified_marks qualified_result connection_at own_attribute transfer_at levels_of levels is_in is_of has_procedure belongs class_at qualification is_attribute result_meant standard_texts found_at shows_detach if_found found_in is_passed_over class_formals_of class_formals class_formal some_level_of has_level holds_class has_classes has_standard is_simulation_block is_for_prefixing simulation_level_of class_block is_in_chain on_one_chain shared_level_of shared_class names_hidden protector_of protector hides opens is_open fine wrong no_target targets assigned_to call_assigned target sign_agrees with_left lefts compared assigned precedes found is_connected prefix_of frame_text hidden_in block_in_front class_number
no_connection zero = refl
no_connection (suc k) = refl

no_prefix : (k : ℕ) → prefix_of parts.tables k ≡ None
unfolding is_process_itself own_match by_name is_placed digits element_place making_array copying_array keeping_array finding_element giving_back handed_over stopping no_rule ticking taking entering having when computing choosing popping pop_many pop_plain pop_truth pop_integers pop_operands pop_text answering applying_one applying_two testing_step performing at_level kept_on pushing index level_of_machine cell_at jumping block_at own_block leaving with_result putting is_text home_of first_cells leaving_of_meaning constants_of text_constants text_constant is_variable stream_of own_result putting_of_steps text is_class_free declared_at constant_of calculate compare compare_as_texts connect same_objects same_texts two_of one_of step_test take_integer take_character take_text take_nothing row_of standard_effect default_mode mode_allowed marked type_named result_named mode_named first_of_procedure first_of_class variable_marks array_marks parameter_marks moded_marks specified_marks headed_marks procedure_marks class_marks virtual_name_marks program_marks inner_marks declaring of_segment of_mode_part of_specification of_specifier of_virtual of_heading declared_by declarations_of run_of_runs lookup shown_of_scopes encloser searched block_at_of_scopes declaration_from binding entry_of formals_of formal_of result_of source_of denoted type_at line_at level_of block_of block_around standard_name text_attribute sysin_attribute sysout_attribute signature is_real_function is_random_drawing is_file_or_layout is_environment_name undeclared program_events of_statement of_branch of_arm of_block of_whole of_class_body of_declaration block_number slot_of accessible protects is_kind some_around_of some_around base brought_by level_shows shown_of is_detach ends_search outward virtual_of represented standard_at qualified_marks qualified_result connection_at own_attribute transfer_at levels_of levels is_in is_of has_procedure belongs class_at qualification is_attribute result_meant standard_texts found_at shows_detach if_found found_in is_passed_over class_formals_of class_formals class_formal some_level_of has_level holds_class has_classes has_standard is_simulation_block is_for_prefixing simulation_level_of class_block is_in_chain on_one_chain shared_level_of shared_class names_hidden protector_of protector hides opens is_open fine wrong no_target targets assigned_to call_assigned target sign_agrees with_left lefts compared assigned precedes found is_connected prefix_of frame_text hidden_in block_in_front class_number
no_prefix zero = refl
no_prefix (suc k) = refl

owners : (k : ℕ) → all_of (λ d. block_of parts d ≡ k) (numbers_of parts k)
unfolding is_process_itself own_match by_name is_placed digits element_place making_array copying_array keeping_array finding_element giving_back handed_over stopping no_rule ticking taking entering having when computing choosing popping pop_many pop_plain pop_truth pop_integers pop_operands pop_text answering applying_one applying_two testing_step performing at_level kept_on pushing index level_of_machine cell_at jumping block_at own_block leaving with_result putting is_text home_of first_cells leaving_of_meaning constants_of text_constants text_constant is_variable stream_of own_result putting_of_steps text is_class_free declared_at constant_of calculate compare compare_as_texts connect same_objects same_texts two_of one_of step_test take_integer take_character take_text take_nothing row_of standard_effect default_mode mode_allowed marked type_named result_named mode_named first_of_procedure first_of_class variable_marks array_marks parameter_marks moded_marks specified_marks headed_marks procedure_marks class_marks virtual_name_marks program_marks inner_marks declaring of_segment of_mode_part of_specification of_specifier of_virtual of_heading declared_by declarations_of run_of_runs lookup shown_of_scopes encloser searched block_at_of_scopes declaration_from binding entry_of formals_of formal_of result_of source_of denoted type_at line_at level_of block_of block_around standard_name text_attribute sysin_attribute sysout_attribute signature is_real_function is_random_drawing is_file_or_layout is_environment_name undeclared program_events of_statement of_branch of_arm of_block of_whole of_class_body of_declaration block_number slot_of accessible protects is_kind some_around_of some_around base brought_by level_shows shown_of is_detach ends_search outward virtual_of represented standard_at qualified_marks qualified_result connection_at own_attribute transfer_at levels_of levels is_in is_of has_procedure belongs class_at qualification is_attribute result_meant standard_texts found_at shows_detach if_found found_in is_passed_over class_formals_of class_formals class_formal some_level_of has_level holds_class has_classes has_standard is_simulation_block is_for_prefixing simulation_level_of class_block is_in_chain on_one_chain shared_level_of shared_class names_hidden protector_of protector hides opens is_open fine wrong no_target targets assigned_to call_assigned target sign_agrees with_left lefts compared assigned precedes found is_connected prefix_of frame_text hidden_in block_in_front class_number
owners zero = (refl, (refl, tt))
owners (suc k) = tt

listed_once : (k : ℕ) → apart (numbers_of parts k)
unfolding is_process_itself own_match by_name is_placed digits element_place making_array copying_array keeping_array finding_element giving_back handed_over stopping no_rule ticking taking entering having when computing choosing popping pop_many pop_plain pop_truth pop_integers pop_operands pop_text answering applying_one applying_two testing_step performing at_level kept_on pushing index level_of_machine cell_at jumping block_at own_block leaving with_result putting is_text home_of first_cells leaving_of_meaning constants_of text_constants text_constant is_variable stream_of own_result putting_of_steps text is_class_free declared_at constant_of calculate compare compare_as_texts connect same_objects same_texts two_of one_of step_test take_integer take_character take_text take_nothing row_of standard_effect default_mode mode_allowed marked type_named result_named mode_named first_of_procedure first_of_class variable_marks array_marks parameter_marks moded_marks specified_marks headed_marks procedure_marks class_marks virtual_name_marks program_marks inner_marks declaring of_segment of_mode_part of_specification of_specifier of_virtual of_heading declared_by declarations_of run_of_runs lookup shown_of_scopes encloser searched block_at_of_scopes declaration_from binding entry_of formals_of formal_of result_of source_of denoted type_at line_at level_of block_of block_around standard_name text_attribute sysin_attribute sysout_attribute signature is_real_function is_random_drawing is_file_or_layout is_environment_name undeclared program_events of_statement of_branch of_arm of_block of_whole of_class_body of_declaration block_number slot_of accessible protects is_kind some_around_of some_around base brought_by level_shows shown_of is_detach ends_search outward virtual_of represented standard_at qualified_marks qualified_result connection_at own_attribute transfer_at levels_of levels is_in is_of has_procedure belongs class_at qualification is_attribute result_meant standard_texts found_at shows_detach if_found found_in is_passed_over class_formals_of class_formals class_formal some_level_of has_level holds_class has_classes has_standard is_simulation_block is_for_prefixing simulation_level_of class_block is_in_chain on_one_chain shared_level_of shared_class names_hidden protector_of protector hides opens is_open fine wrong no_target targets assigned_to call_assigned target sign_agrees with_left lefts compared assigned precedes found is_connected prefix_of frame_text hidden_in block_in_front class_number
listed_once zero = ((refl, tt), (tt, tt))
listed_once (suc k) = tt

formal_rows : (k : ℕ) → all_of (λ d. (x : Formal) × (entry_of parts.tables d ≡ Some (entry.Formal x))) (formals_in (slice_get parts.tables.blocks k))
unfolding is_process_itself own_match by_name is_placed digits element_place making_array copying_array keeping_array finding_element giving_back handed_over stopping no_rule ticking taking entering having when computing choosing popping pop_many pop_plain pop_truth pop_integers pop_operands pop_text answering applying_one applying_two testing_step performing at_level kept_on pushing index level_of_machine cell_at jumping block_at own_block leaving with_result putting is_text home_of first_cells leaving_of_meaning constants_of text_constants text_constant is_variable stream_of own_result putting_of_steps text is_class_free declared_at constant_of calculate compare compare_as_texts connect same_objects same_texts two_of one_of step_test take_integer take_character take_text take_nothing row_of standard_effect default_mode mode_allowed marked type_named result_named mode_named first_of_procedure first_of_class variable_marks array_marks parameter_marks moded_marks specified_marks headed_marks procedure_marks class_marks virtual_name_marks program_marks inner_marks declaring of_segment of_mode_part of_specification of_specifier of_virtual of_heading declared_by declarations_of run_of_runs lookup shown_of_scopes encloser searched block_at_of_scopes declaration_from binding entry_of formals_of formal_of result_of source_of denoted type_at line_at level_of block_of block_around standard_name text_attribute sysin_attribute sysout_attribute signature is_real_function is_random_drawing is_file_or_layout is_environment_name undeclared program_events of_statement of_branch of_arm of_block of_whole of_class_body of_declaration block_number slot_of accessible protects is_kind some_around_of some_around base brought_by level_shows shown_of is_detach ends_search outward virtual_of represented standard_at qualified_marks qualified_result connection_at own_attribute transfer_at levels_of levels is_in is_of has_procedure belongs class_at qualification is_attribute result_meant standard_texts found_at shows_detach if_found found_in is_passed_over class_formals_of class_formals class_formal some_level_of has_level holds_class has_classes has_standard is_simulation_block is_for_prefixing simulation_level_of class_block is_in_chain on_one_chain shared_level_of shared_class names_hidden protector_of protector hides opens is_open fine wrong no_target targets assigned_to call_assigned target sign_agrees with_left lefts compared assigned precedes found is_connected prefix_of frame_text hidden_in block_in_front class_number
formal_rows zero = tt
formal_rows (suc k) = tt

no_class : (n k : ℕ) → entry_of parts.tables (record { 0 = n }) ≡ Some (entry.Class k) → ⊥
unfolding is_process_itself own_match by_name is_placed digits element_place making_array copying_array keeping_array finding_element giving_back handed_over stopping no_rule ticking taking entering having when computing choosing popping pop_many pop_plain pop_truth pop_integers pop_operands pop_text answering applying_one applying_two testing_step performing at_level kept_on pushing index level_of_machine cell_at jumping block_at own_block leaving with_result putting is_text home_of first_cells leaving_of_meaning constants_of text_constants text_constant is_variable stream_of own_result putting_of_steps text is_class_free declared_at constant_of calculate compare compare_as_texts connect same_objects same_texts two_of one_of step_test take_integer take_character take_text take_nothing row_of standard_effect default_mode mode_allowed marked type_named result_named mode_named first_of_procedure first_of_class variable_marks array_marks parameter_marks moded_marks specified_marks headed_marks procedure_marks class_marks virtual_name_marks program_marks inner_marks declaring of_segment of_mode_part of_specification of_specifier of_virtual of_heading declared_by declarations_of run_of_runs lookup shown_of_scopes encloser searched block_at_of_scopes declaration_from binding entry_of formals_of formal_of result_of source_of denoted type_at line_at level_of block_of block_around standard_name text_attribute sysin_attribute sysout_attribute signature is_real_function is_random_drawing is_file_or_layout is_environment_name undeclared program_events of_statement of_branch of_arm of_block of_whole of_class_body of_declaration block_number slot_of accessible protects is_kind some_around_of some_around base brought_by level_shows shown_of is_detach ends_search outward virtual_of represented standard_at qualified_marks qualified_result connection_at own_attribute transfer_at levels_of levels is_in is_of has_procedure belongs class_at qualification is_attribute result_meant standard_texts found_at shows_detach if_found found_in is_passed_over class_formals_of class_formals class_formal some_level_of has_level holds_class has_classes has_standard is_simulation_block is_for_prefixing simulation_level_of class_block is_in_chain on_one_chain shared_level_of shared_class names_hidden protector_of protector hides opens is_open fine wrong no_target targets assigned_to call_assigned target sign_agrees with_left lefts compared assigned precedes found is_connected prefix_of frame_text hidden_in block_in_front class_number
no_class zero k e = cc
no_class (suc zero) k e = cc
no_class (suc (suc n)) k e = cc

nested : (t u : ℕ) → encloser parts.tables t ≡ Some u → u < t
unfolding is_process_itself own_match by_name is_placed digits element_place making_array copying_array keeping_array finding_element giving_back handed_over stopping no_rule ticking taking entering having when computing choosing popping pop_many pop_plain pop_truth pop_integers pop_operands pop_text answering applying_one applying_two testing_step performing at_level kept_on pushing index level_of_machine cell_at jumping block_at own_block leaving with_result putting is_text home_of first_cells leaving_of_meaning constants_of text_constants text_constant is_variable stream_of own_result putting_of_steps text is_class_free declared_at constant_of calculate compare compare_as_texts connect same_objects same_texts two_of one_of step_test take_integer take_character take_text take_nothing row_of standard_effect default_mode mode_allowed marked type_named result_named mode_named first_of_procedure first_of_class variable_marks array_marks parameter_marks moded_marks specified_marks headed_marks procedure_marks class_marks virtual_name_marks program_marks inner_marks declaring of_segment of_mode_part of_specification of_specifier of_virtual of_heading declared_by declarations_of run_of_runs lookup shown_of_scopes encloser searched block_at_of_scopes declaration_from binding entry_of formals_of formal_of result_of source_of denoted type_at line_at level_of block_of block_around standard_name text_attribute sysin_attribute sysout_attribute signature is_real_function is_random_drawing is_file_or_layout is_environment_name undeclared program_events of_statement of_branch of_arm of_block of_whole of_class_body of_declaration block_number slot_of accessible protects is_kind some_around_of some_around base brought_by level_shows shown_of is_detach ends_search outward virtual_of represented standard_at qualified_marks qualified_result connection_at own_attribute transfer_at levels_of levels is_in is_of has_procedure belongs class_at qualification is_attribute result_meant standard_texts found_at shows_detach if_found found_in is_passed_over class_formals_of class_formals class_formal some_level_of has_level holds_class has_classes has_standard is_simulation_block is_for_prefixing simulation_level_of class_block is_in_chain on_one_chain shared_level_of shared_class names_hidden protector_of protector hides opens is_open fine wrong no_target targets assigned_to call_assigned target sign_agrees with_left lefts compared assigned precedes found is_connected prefix_of frame_text hidden_in block_in_front class_number
nested zero u e = absurd (cc)
nested (suc t) u e = absurd (cc)

prefixed_there : (k : ℕ) → is_prefixed parts.tables k ≡ true → (has_levels (text parts k) ≡ true) × (is_class (text parts k) ≡ false)
unfolding is_process_itself own_match by_name is_placed digits element_place making_array copying_array keeping_array finding_element giving_back handed_over stopping no_rule ticking taking entering having when computing choosing popping pop_many pop_plain pop_truth pop_integers pop_operands pop_text answering applying_one applying_two testing_step performing at_level kept_on pushing index level_of_machine cell_at jumping block_at own_block leaving with_result putting is_text home_of first_cells leaving_of_meaning constants_of text_constants text_constant is_variable stream_of own_result putting_of_steps text is_class_free declared_at constant_of calculate compare compare_as_texts connect same_objects same_texts two_of one_of step_test take_integer take_character take_text take_nothing row_of standard_effect default_mode mode_allowed marked type_named result_named mode_named first_of_procedure first_of_class variable_marks array_marks parameter_marks moded_marks specified_marks headed_marks procedure_marks class_marks virtual_name_marks program_marks inner_marks declaring of_segment of_mode_part of_specification of_specifier of_virtual of_heading declared_by declarations_of run_of_runs lookup shown_of_scopes encloser searched block_at_of_scopes declaration_from binding entry_of formals_of formal_of result_of source_of denoted type_at line_at level_of block_of block_around standard_name text_attribute sysin_attribute sysout_attribute signature is_real_function is_random_drawing is_file_or_layout is_environment_name undeclared program_events of_statement of_branch of_arm of_block of_whole of_class_body of_declaration block_number slot_of accessible protects is_kind some_around_of some_around base brought_by level_shows shown_of is_detach ends_search outward virtual_of represented standard_at qualified_marks qualified_result connection_at own_attribute transfer_at levels_of levels is_in is_of has_procedure belongs class_at qualification is_attribute result_meant standard_texts found_at shows_detach if_found found_in is_passed_over class_formals_of class_formals class_formal some_level_of has_level holds_class has_classes has_standard is_simulation_block is_for_prefixing simulation_level_of class_block is_in_chain on_one_chain shared_level_of shared_class names_hidden protector_of protector hides opens is_open fine wrong no_target targets assigned_to call_assigned target sign_agrees with_left lefts compared assigned precedes found is_connected prefix_of frame_text hidden_in block_in_front class_number is_prefixed
prefixed_there zero e = absurd (cc (e))
prefixed_there (suc k) e = absurd (cc (e))

no_standard : (k : ℕ) (which : StandardClass) → text parts k ≡ Some (StandardText which) → ⊥
unfolding is_process_itself own_match by_name is_placed digits element_place making_array copying_array keeping_array finding_element giving_back handed_over stopping no_rule ticking taking entering having when computing choosing popping pop_many pop_plain pop_truth pop_integers pop_operands pop_text answering applying_one applying_two testing_step performing at_level kept_on pushing index level_of_machine cell_at jumping block_at own_block leaving with_result putting is_text home_of first_cells leaving_of_meaning constants_of text_constants text_constant is_variable stream_of own_result putting_of_steps text is_class_free declared_at constant_of calculate compare compare_as_texts connect same_objects same_texts two_of one_of step_test take_integer take_character take_text take_nothing row_of standard_effect default_mode mode_allowed marked type_named result_named mode_named first_of_procedure first_of_class variable_marks array_marks parameter_marks moded_marks specified_marks headed_marks procedure_marks class_marks virtual_name_marks program_marks inner_marks declaring of_segment of_mode_part of_specification of_specifier of_virtual of_heading declared_by declarations_of run_of_runs lookup shown_of_scopes encloser searched block_at_of_scopes declaration_from binding entry_of formals_of formal_of result_of source_of denoted type_at line_at level_of block_of block_around standard_name text_attribute sysin_attribute sysout_attribute signature is_real_function is_random_drawing is_file_or_layout is_environment_name undeclared program_events of_statement of_branch of_arm of_block of_whole of_class_body of_declaration block_number slot_of accessible protects is_kind some_around_of some_around base brought_by level_shows shown_of is_detach ends_search outward virtual_of represented standard_at qualified_marks qualified_result connection_at own_attribute transfer_at levels_of levels is_in is_of has_procedure belongs class_at qualification is_attribute result_meant standard_texts found_at shows_detach if_found found_in is_passed_over class_formals_of class_formals class_formal some_level_of has_level holds_class has_classes has_standard is_simulation_block is_for_prefixing simulation_level_of class_block is_in_chain on_one_chain shared_level_of shared_class names_hidden protector_of protector hides opens is_open fine wrong no_target targets assigned_to call_assigned target sign_agrees with_left lefts compared assigned precedes found is_connected prefix_of frame_text hidden_in block_in_front class_number
no_standard zero which e = cc (e)
no_standard (suc k) which e = cc (e)

no_virtuals : any_virtual parts.tables.declarations ≡ false
unfolding is_process_itself own_match by_name is_placed digits element_place making_array copying_array keeping_array finding_element giving_back handed_over stopping no_rule ticking taking entering having when computing choosing popping pop_many pop_plain pop_truth pop_integers pop_operands pop_text answering applying_one applying_two testing_step performing at_level kept_on pushing index level_of_machine cell_at jumping block_at own_block leaving with_result putting is_text home_of first_cells leaving_of_meaning constants_of text_constants text_constant is_variable stream_of own_result putting_of_steps text is_class_free declared_at constant_of calculate compare compare_as_texts connect same_objects same_texts two_of one_of step_test take_integer take_character take_text take_nothing row_of standard_effect default_mode mode_allowed marked type_named result_named mode_named first_of_procedure first_of_class variable_marks array_marks parameter_marks moded_marks specified_marks headed_marks procedure_marks class_marks virtual_name_marks program_marks inner_marks declaring of_segment of_mode_part of_specification of_specifier of_virtual of_heading declared_by declarations_of run_of_runs lookup shown_of_scopes encloser searched block_at_of_scopes declaration_from binding entry_of formals_of formal_of result_of source_of denoted type_at line_at level_of block_of block_around standard_name text_attribute sysin_attribute sysout_attribute signature is_real_function is_random_drawing is_file_or_layout is_environment_name undeclared program_events of_statement of_branch of_arm of_block of_whole of_class_body of_declaration block_number slot_of accessible protects is_kind some_around_of some_around base brought_by level_shows shown_of is_detach ends_search outward virtual_of represented standard_at qualified_marks qualified_result connection_at own_attribute transfer_at levels_of levels is_in is_of has_procedure belongs class_at qualification is_attribute result_meant standard_texts found_at shows_detach if_found found_in is_passed_over class_formals_of class_formals class_formal some_level_of has_level holds_class has_classes has_standard is_simulation_block is_for_prefixing simulation_level_of class_block is_in_chain on_one_chain shared_level_of shared_class names_hidden protector_of protector hides opens is_open fine wrong no_target targets assigned_to call_assigned target sign_agrees with_left lefts compared assigned precedes found is_connected prefix_of frame_text hidden_in block_in_front class_number
no_virtuals = refl

agree : Agrees parts
unfolding is_process_itself own_match by_name is_placed digits element_place making_array copying_array keeping_array finding_element giving_back handed_over stopping no_rule ticking taking entering having when computing choosing popping pop_many pop_plain pop_truth pop_integers pop_operands pop_text answering applying_one applying_two testing_step performing at_level kept_on pushing index level_of_machine cell_at jumping block_at own_block leaving with_result putting is_text home_of first_cells leaving_of_meaning constants_of text_constants text_constant is_variable stream_of own_result putting_of_steps text is_class_free declared_at constant_of calculate compare compare_as_texts connect same_objects same_texts two_of one_of step_test take_integer take_character take_text take_nothing row_of standard_effect default_mode mode_allowed marked type_named result_named mode_named first_of_procedure first_of_class variable_marks array_marks parameter_marks moded_marks specified_marks headed_marks procedure_marks class_marks virtual_name_marks program_marks inner_marks declaring of_segment of_mode_part of_specification of_specifier of_virtual of_heading declared_by declarations_of run_of_runs lookup shown_of_scopes encloser searched block_at_of_scopes declaration_from binding entry_of formals_of formal_of result_of source_of denoted type_at line_at level_of block_of block_around standard_name text_attribute sysin_attribute sysout_attribute signature is_real_function is_random_drawing is_file_or_layout is_environment_name undeclared program_events of_statement of_branch of_arm of_block of_whole of_class_body of_declaration block_number slot_of accessible protects is_kind some_around_of some_around base brought_by level_shows shown_of is_detach ends_search outward virtual_of represented standard_at qualified_marks qualified_result connection_at own_attribute transfer_at levels_of levels is_in is_of has_procedure belongs class_at qualification is_attribute result_meant standard_texts found_at shows_detach if_found found_in is_passed_over class_formals_of class_formals class_formal some_level_of has_level holds_class has_classes has_standard is_simulation_block is_for_prefixing simulation_level_of class_block is_in_chain on_one_chain shared_level_of shared_class names_hidden protector_of protector hides opens is_open fine wrong no_target targets assigned_to call_assigned target sign_agrees with_left lefts compared assigned precedes found is_connected prefix_of frame_text hidden_in block_in_front class_number
agree = record {
  outermost = refl;
  as_many = refl;
  connected = λ k. none_connected k ∙ sym (no_connection k);
  nesting = nested;
  levels = λ t u e c. alone t u e;
  same_level = λ t u e c. absurd (not_both (is_connected parts.tables t) c (none_connected t));
  begun = λ k c. absurd (not_both (is_connected parts.tables k) c (none_connected k));
  prefixes = λ k front e. absurd (not_some (prefix_of parts.tables k) front (no_prefix k) e);
  prefixed = prefixed_there;
  ends = λ k. one_level (no_prefix k);
  owned = λ k n d e. all_at (λ d. block_of parts d ≡ k) (numbers_of parts k) (owners k) n d e;
  once = λ k n m d e h. once_at (numbers_of parts k) (listed_once k) n m d e h;
  formals = λ k n d e. all_at (λ d. (x : Formal) × (entry_of parts.tables d ≡ Some (entry.Formal x))) (formals_in (slice_get parts.tables.blocks k)) (formal_rows k) n d e;
  classes = λ d k e. absurd (no_class d.0 k e);
  procedures = λ d result k e. no_procedure d.0 result k d refl e;
  processes = λ k e. absurd (no_standard k standard.Process e);
  blocks = λ k u which p level e. no_standard u which e;
  standards = λ j k which e f level. absurd (no_standard j which e);
  matches = λ v k text is levels e. absurd (no_virtual parts no_virtuals v is);
}

pub parts_compiled : Compiled parts parts_code
unfolding is_process_itself own_match by_name is_placed digits element_place making_array copying_array keeping_array finding_element giving_back handed_over stopping no_rule ticking taking entering having when computing choosing popping pop_many pop_plain pop_truth pop_integers pop_operands pop_text answering applying_one applying_two testing_step performing at_level kept_on pushing index level_of_machine cell_at jumping block_at own_block leaving with_result putting is_text home_of first_cells leaving_of_meaning constants_of text_constants text_constant is_variable stream_of own_result putting_of_steps text is_class_free declared_at constant_of calculate compare compare_as_texts connect same_objects same_texts two_of one_of step_test take_integer take_character take_text take_nothing row_of standard_effect default_mode mode_allowed marked type_named result_named mode_named first_of_procedure first_of_class variable_marks array_marks parameter_marks moded_marks specified_marks headed_marks procedure_marks class_marks virtual_name_marks program_marks inner_marks declaring of_segment of_mode_part of_specification of_specifier of_virtual of_heading declared_by declarations_of run_of_runs lookup shown_of_scopes encloser searched block_at_of_scopes declaration_from binding entry_of formals_of formal_of result_of source_of denoted type_at line_at level_of block_of block_around standard_name text_attribute sysin_attribute sysout_attribute signature is_real_function is_random_drawing is_file_or_layout is_environment_name undeclared program_events of_statement of_branch of_arm of_block of_whole of_class_body of_declaration block_number slot_of accessible protects is_kind some_around_of some_around base brought_by level_shows shown_of is_detach ends_search outward virtual_of represented standard_at qualified_marks qualified_result connection_at own_attribute transfer_at levels_of levels is_in is_of has_procedure belongs class_at qualification is_attribute result_meant standard_texts found_at shows_detach if_found found_in is_passed_over class_formals_of class_formals class_formal some_level_of has_level holds_class has_classes has_standard is_simulation_block is_for_prefixing simulation_level_of class_block is_in_chain on_one_chain shared_level_of shared_class names_hidden protector_of protector hides opens is_open fine wrong no_target targets assigned_to call_assigned target sign_agrees with_left lefts compared assigned precedes found is_connected prefix_of frame_text hidden_in block_in_front class_number
parts_compiled = record { agrees = agree; texts = refl; each = λ k x e. subst (Has k) e (each_stands k); matches = λ k x levels e. none_matched parts parts_code no_virtuals refl k x e; as_many = refl }

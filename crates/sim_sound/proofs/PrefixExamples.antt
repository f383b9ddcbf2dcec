-- A program with a prefix is typed: a class with a class inside, `inner`, attributes of the prefix in the class and in an object of it, a reference
-- to it that is one to the prefix, `in`.
use Rattle.std.proofs.Common.{◌≡◌, ℕ, zero, suc, [], ◌∷◌, false, length, Option, Some, None, refl, sym, subst, arith}
use Rattle.std.specs.Prelude.{slice_get}
use Rattle.sim_base.specs.declared.numbering.DeclNo.{DeclNo}
use Rattle.sim_scope.specs.declared.types.StandardClass.TheVariants as standard
use Rattle.sim_scope.specs.declared.types.Entry.TheVariants as entry
use Rattle.sim_scope.specs.declared.types.SimType.{SimType}
use Rattle.sim_values.specs.declared.kind.Kind.TheVariants as kind
use Rattle.sim_meaning.specs.ClassExamples.{class_in_class}
use Rattle.sim_meaning.specs.Entries.{numbers_of}
use Rattle.sim_sound.specs.Held.{Among, ArrayOf, Holds, IsFormal, Seen, Simply, entry_holds, first, further, itself, later}
use Rattle.sim_sound.specs.Typed.{ClassThere, ConstantHas, Ends, PrefixTyped, ProcedureThere, Typed, as_block, outermost, prefixed, stands}
use Rattle.sim_sound.proofs.Examples.{integer_apart, none_named, no_procedures, NoSetProcedure, NoSetText, RowHolds, TextHolds, no_set_procedure, no_set_text, none_among, number, row_holds, text_holds, true_never, no_virtual}
use Rattle.std.specs.Fmt.{digits}
use Rattle.sim_code.specs.Arrays.{element_place, making_array, copying_array, keeping_array, finding_element, giving_back, handed_over}
use Rattle.sim_code.specs.Events.{pop_object, qualifying, referring, stopping, no_rule, ticking, taking, entering, having, when, computing, choosing, popping, pop_many, pop_plain, pop_truth, pop_integers, pop_operands, pop_text, answering, applying_one, applying_two, testing_step, performing, putting_back, assigning, making_text, joining}
use Rattle.sim_code.specs.Instances.{at_level, kept_on, object_ended}
use Rattle.sim_code.specs.Machine.{pushing, index, level as level_of_machine, cell_at, jumping, block_at, own_block, leaving, with_result}
use Rattle.sim_code.specs.Rows.{put_back, putting}
use Rattle.sim_meaning.specs.Attributes.{connection_at, transfer_at, own_attribute}
use Rattle.sim_meaning.specs.Levels.{belongs, class_at, is_in, is_of, levels, levels_of, qualification}
use Rattle.sim_meaning.specs.Closing.{is_attribute, is_text, home_of, is_variable, stream_of, own_result, own_match, result_meant}
use Rattle.sim_meaning.specs.Entries.{first_cells}
use Rattle.sim_meaning.specs.Meaning.{leaving as leaving_of_meaning}
use Rattle.sim_meaning.specs.Constants.{constants_of, text_constant, text_constants}
use Rattle.sim_scope.specs.Calls.{is_inside}
use Rattle.sim_meaning.specs.Steps.{put_back as back_of_steps, putting as putting_of_steps}
use Rattle.sim_meaning.specs.Texts.{standard_texts, text, is_class_free, declared_at, constant_of}
use Rattle.sim_values.specs.Operators.{calculate, compare, compare_as_texts, connect, same_objects, same_texts, two_of, one_of, step_test}
use Rattle.sim_values.specs.Standard.{take_integer, take_character, take_text, take_nothing, row_of, standard_effect}
use Rattle.sim_scope.specs.Building.{default_mode, mode_allowed, marked}
use Rattle.sim_scope.specs.Declare.{class_prefix_marks, prefixed_marks, prefix_marks, standard_marks, marks_of_standard, type_named, result_named, mode_named, first_of_procedure, first_of_class, variable_marks, array_marks, parameter_marks, moded_marks, specified_marks, headed_marks, procedure_marks, class_marks, virtual_name_marks, program_marks, inner_marks, declaring, of_segment, of_mode_part, of_specification, of_specifier, of_virtual, of_heading, declared_by, declarations_of, qualified_marks, qualified_result}
use Rattle.sim_scope.specs.Runs.{run as run_of_runs}
use Rattle.sim_scope.specs.Access.{encloser, block_at as block_at_of_scopes, accessible, protects, is_kind, some_around_of, some_around}
use Rattle.sim_scope.specs.Levels.{base, class_block, has_level, is_for_prefixing, is_simulation_block, some_level_of}
use Rattle.sim_scope.specs.Scopes.{class_formals, shows_detach, class_formals_of, found_in, if_found, lookup, shown as shown_of_scopes, searched, declaration_from, binding, entry_of, formals_of, formal_of, result_of, brought_by, level_shows, shown_of, is_detach, ends_search, outward, virtual_of, represented, standard_at}
use Rattle.sim_scope.specs.Source.{source_of, found_at, denoted, type_at, line_at, level_of, block_of, block_around}
use Rattle.sim_scope.specs.Standard.{standard_prefix, standard_name, text_attribute, sysin_attribute, sysout_attribute, signature, undeclared}
use Rattle.sim_scope.specs.Walk.{program_events, of_statement, of_branch, of_arm, of_block, of_whole, of_class_body, of_declaration}
use Rattle.sim_scope.specs.Along.{first_along}
use Rattle.sim_scope.specs.References.{is_this, this_block, this_of}
use Rattle.sim_scope.specs.Tables.{with_entry_at}
use Rattle.sim_meaning.specs.Objects.{putting_reference}

q_rows : (n : ℕ) → RowHolds class_in_class (slice_get class_in_class.tables.declarations n) (number n)
unfolding digits element_place making_array copying_array keeping_array finding_element giving_back handed_over stopping no_rule ticking taking entering having when computing choosing popping pop_many pop_plain pop_truth pop_integers pop_operands pop_text answering applying_one applying_two testing_step performing putting_back assigning making_text joining at_level kept_on pushing index level_of_machine cell_at jumping block_at own_block leaving with_result putting put_back is_text home_of first_cells leaving_of_meaning constants_of putting_of_steps back_of_steps text_constants text_constant is_variable stream_of own_result own_match result_meant is_inside text is_class_free declared_at constant_of calculate compare compare_as_texts connect same_objects same_texts two_of one_of step_test take_integer take_character take_text take_nothing row_of standard_effect default_mode mode_allowed marked type_named result_named mode_named first_of_procedure first_of_class variable_marks array_marks parameter_marks moded_marks specified_marks headed_marks procedure_marks class_marks virtual_name_marks program_marks inner_marks declaring of_segment of_mode_part of_specification of_specifier of_virtual of_heading declared_by declarations_of run_of_runs lookup shown_of_scopes encloser searched block_at_of_scopes declaration_from binding entry_of formals_of formal_of result_of source_of denoted type_at line_at level_of block_of block_around standard_name text_attribute sysin_attribute sysout_attribute signature undeclared program_events of_statement of_branch of_arm of_block of_whole of_class_body of_declaration accessible protects is_kind some_around_of some_around base brought_by level_shows shown_of is_detach ends_search outward virtual_of represented standard_at qualified_marks qualified_result connection_at transfer_at found_at is_attribute qualification class_prefix_marks prefixed_marks prefix_marks standard_marks marks_of_standard standard_prefix standard_texts class_block has_level is_simulation_block some_level_of shows_detach class_formals class_formals_of found_in if_found object_ended pop_object qualifying referring belongs class_at is_in is_of levels levels_of first_along is_this this_block this_of with_entry_at putting_reference own_attribute
q_rows zero = first
q_rows (suc zero) = first
q_rows (suc (suc zero)) = later first
q_rows (suc (suc (suc zero))) = first
q_rows (suc (suc (suc (suc zero)))) = later first
q_rows (suc (suc (suc (suc (suc zero))))) = later (later first)
q_rows (suc (suc (suc (suc (suc (suc zero)))))) = later first
q_rows (suc (suc (suc (suc (suc (suc (suc zero))))))) = later (later first)
q_rows (suc (suc (suc (suc (suc (suc (suc (suc n)))))))) = tt

-- ---- what is seen

q_in_block : Seen class_in_class 0 0
unfolding digits element_place making_array copying_array keeping_array finding_element giving_back handed_over stopping no_rule ticking taking entering having when computing choosing popping pop_many pop_plain pop_truth pop_integers pop_operands pop_text answering applying_one applying_two testing_step performing putting_back assigning making_text joining at_level kept_on pushing index level_of_machine cell_at jumping block_at own_block leaving with_result putting put_back is_text home_of first_cells leaving_of_meaning constants_of putting_of_steps back_of_steps text_constants text_constant is_variable stream_of own_result own_match result_meant is_inside text is_class_free declared_at constant_of calculate compare compare_as_texts connect same_objects same_texts two_of one_of step_test take_integer take_character take_text take_nothing row_of standard_effect default_mode mode_allowed marked type_named result_named mode_named first_of_procedure first_of_class variable_marks array_marks parameter_marks moded_marks specified_marks headed_marks procedure_marks class_marks virtual_name_marks program_marks inner_marks declaring of_segment of_mode_part of_specification of_specifier of_virtual of_heading declared_by declarations_of run_of_runs lookup shown_of_scopes encloser searched block_at_of_scopes declaration_from binding entry_of formals_of formal_of result_of source_of denoted type_at line_at level_of block_of block_around standard_name text_attribute sysin_attribute sysout_attribute signature undeclared program_events of_statement of_branch of_arm of_block of_whole of_class_body of_declaration accessible protects is_kind some_around_of some_around base brought_by level_shows shown_of is_detach ends_search outward virtual_of represented standard_at qualified_marks qualified_result connection_at transfer_at found_at is_attribute qualification class_prefix_marks prefixed_marks prefix_marks standard_marks marks_of_standard standard_prefix standard_texts class_block has_level is_simulation_block some_level_of shows_detach class_formals class_formals_of found_in if_found object_ended pop_object qualifying referring belongs class_at is_in is_of levels levels_of first_along is_this this_block this_of with_entry_at putting_reference own_attribute
q_in_block = record { found = 0; around = itself; instance = refl; level = refl }

q_in_outer : Seen class_in_class 1 1
unfolding digits element_place making_array copying_array keeping_array finding_element giving_back handed_over stopping no_rule ticking taking entering having when computing choosing popping pop_many pop_plain pop_truth pop_integers pop_operands pop_text answering applying_one applying_two testing_step performing putting_back assigning making_text joining at_level kept_on pushing index level_of_machine cell_at jumping block_at own_block leaving with_result putting put_back is_text home_of first_cells leaving_of_meaning constants_of putting_of_steps back_of_steps text_constants text_constant is_variable stream_of own_result own_match result_meant is_inside text is_class_free declared_at constant_of calculate compare compare_as_texts connect same_objects same_texts two_of one_of step_test take_integer take_character take_text take_nothing row_of standard_effect default_mode mode_allowed marked type_named result_named mode_named first_of_procedure first_of_class variable_marks array_marks parameter_marks moded_marks specified_marks headed_marks procedure_marks class_marks virtual_name_marks program_marks inner_marks declaring of_segment of_mode_part of_specification of_specifier of_virtual of_heading declared_by declarations_of run_of_runs lookup shown_of_scopes encloser searched block_at_of_scopes declaration_from binding entry_of formals_of formal_of result_of source_of denoted type_at line_at level_of block_of block_around standard_name text_attribute sysin_attribute sysout_attribute signature undeclared program_events of_statement of_branch of_arm of_block of_whole of_class_body of_declaration accessible protects is_kind some_around_of some_around base brought_by level_shows shown_of is_detach ends_search outward virtual_of represented standard_at qualified_marks qualified_result connection_at transfer_at found_at is_attribute qualification class_prefix_marks prefixed_marks prefix_marks standard_marks marks_of_standard standard_prefix standard_texts class_block has_level is_simulation_block some_level_of shows_detach class_formals class_formals_of found_in if_found object_ended pop_object qualifying referring belongs class_at is_in is_of levels levels_of first_along is_this this_block this_of with_entry_at putting_reference own_attribute
q_in_outer = record { found = 1; around = itself; instance = refl; level = refl }

q_in_cell : Seen class_in_class 2 2
unfolding digits element_place making_array copying_array keeping_array finding_element giving_back handed_over stopping no_rule ticking taking entering having when computing choosing popping pop_many pop_plain pop_truth pop_integers pop_operands pop_text answering applying_one applying_two testing_step performing putting_back assigning making_text joining at_level kept_on pushing index level_of_machine cell_at jumping block_at own_block leaving with_result putting put_back is_text home_of first_cells leaving_of_meaning constants_of putting_of_steps back_of_steps text_constants text_constant is_variable stream_of own_result own_match result_meant is_inside text is_class_free declared_at constant_of calculate compare compare_as_texts connect same_objects same_texts two_of one_of step_test take_integer take_character take_text take_nothing row_of standard_effect default_mode mode_allowed marked type_named result_named mode_named first_of_procedure first_of_class variable_marks array_marks parameter_marks moded_marks specified_marks headed_marks procedure_marks class_marks virtual_name_marks program_marks inner_marks declaring of_segment of_mode_part of_specification of_specifier of_virtual of_heading declared_by declarations_of run_of_runs lookup shown_of_scopes encloser searched block_at_of_scopes declaration_from binding entry_of formals_of formal_of result_of source_of denoted type_at line_at level_of block_of block_around standard_name text_attribute sysin_attribute sysout_attribute signature undeclared program_events of_statement of_branch of_arm of_block of_whole of_class_body of_declaration accessible protects is_kind some_around_of some_around base brought_by level_shows shown_of is_detach ends_search outward virtual_of represented standard_at qualified_marks qualified_result connection_at transfer_at found_at is_attribute qualification class_prefix_marks prefixed_marks prefix_marks standard_marks marks_of_standard standard_prefix standard_texts class_block has_level is_simulation_block some_level_of shows_detach class_formals class_formals_of found_in if_found object_ended pop_object qualifying referring belongs class_at is_in is_of levels levels_of first_along is_this this_block this_of with_entry_at putting_reference own_attribute
q_in_cell = record { found = 2; around = itself; instance = refl; level = refl }

q_outside_cell : encloser class_in_class.tables 2 ≡ Some 1
unfolding digits element_place making_array copying_array keeping_array finding_element giving_back handed_over stopping no_rule ticking taking entering having when computing choosing popping pop_many pop_plain pop_truth pop_integers pop_operands pop_text answering applying_one applying_two testing_step performing putting_back assigning making_text joining at_level kept_on pushing index level_of_machine cell_at jumping block_at own_block leaving with_result putting put_back is_text home_of first_cells leaving_of_meaning constants_of putting_of_steps back_of_steps text_constants text_constant is_variable stream_of own_result own_match result_meant is_inside text is_class_free declared_at constant_of calculate compare compare_as_texts connect same_objects same_texts two_of one_of step_test take_integer take_character take_text take_nothing row_of standard_effect default_mode mode_allowed marked type_named result_named mode_named first_of_procedure first_of_class variable_marks array_marks parameter_marks moded_marks specified_marks headed_marks procedure_marks class_marks virtual_name_marks program_marks inner_marks declaring of_segment of_mode_part of_specification of_specifier of_virtual of_heading declared_by declarations_of run_of_runs lookup shown_of_scopes encloser searched block_at_of_scopes declaration_from binding entry_of formals_of formal_of result_of source_of denoted type_at line_at level_of block_of block_around standard_name text_attribute sysin_attribute sysout_attribute signature undeclared program_events of_statement of_branch of_arm of_block of_whole of_class_body of_declaration accessible protects is_kind some_around_of some_around base brought_by level_shows shown_of is_detach ends_search outward virtual_of represented standard_at qualified_marks qualified_result connection_at transfer_at found_at is_attribute qualification class_prefix_marks prefixed_marks prefix_marks standard_marks marks_of_standard standard_prefix standard_texts class_block has_level is_simulation_block some_level_of shows_detach class_formals class_formals_of found_in if_found object_ended pop_object qualifying referring belongs class_at is_in is_of levels levels_of first_along is_this this_block this_of with_entry_at putting_reference own_attribute
q_outside_cell = refl

q_around_cell : Seen class_in_class 2 1
unfolding digits element_place making_array copying_array keeping_array finding_element giving_back handed_over stopping no_rule ticking taking entering having when computing choosing popping pop_many pop_plain pop_truth pop_integers pop_operands pop_text answering applying_one applying_two testing_step performing putting_back assigning making_text joining at_level kept_on pushing index level_of_machine cell_at jumping block_at own_block leaving with_result putting put_back is_text home_of first_cells leaving_of_meaning constants_of putting_of_steps back_of_steps text_constants text_constant is_variable stream_of own_result own_match result_meant is_inside text is_class_free declared_at constant_of calculate compare compare_as_texts connect same_objects same_texts two_of one_of step_test take_integer take_character take_text take_nothing row_of standard_effect default_mode mode_allowed marked type_named result_named mode_named first_of_procedure first_of_class variable_marks array_marks parameter_marks moded_marks specified_marks headed_marks procedure_marks class_marks virtual_name_marks program_marks inner_marks declaring of_segment of_mode_part of_specification of_specifier of_virtual of_heading declared_by declarations_of run_of_runs lookup shown_of_scopes encloser searched block_at_of_scopes declaration_from binding entry_of formals_of formal_of result_of source_of denoted type_at line_at level_of block_of block_around standard_name text_attribute sysin_attribute sysout_attribute signature undeclared program_events of_statement of_branch of_arm of_block of_whole of_class_body of_declaration accessible protects is_kind some_around_of some_around base brought_by level_shows shown_of is_detach ends_search outward virtual_of represented standard_at qualified_marks qualified_result connection_at transfer_at found_at is_attribute qualification class_prefix_marks prefixed_marks prefix_marks standard_marks marks_of_standard standard_prefix standard_texts class_block has_level is_simulation_block some_level_of shows_detach class_formals class_formals_of found_in if_found object_ended pop_object qualifying referring belongs class_at is_in is_of levels levels_of first_along is_this this_block this_of with_entry_at putting_reference own_attribute
q_around_cell = record { found = 1; around = further {t = 2} {u = 1} q_outside_cell itself; instance = refl; level = refl }

-- what the prefix declares, from inside the class
q_in_prefix : Seen class_in_class 3 1
unfolding digits element_place making_array copying_array keeping_array finding_element giving_back handed_over stopping no_rule ticking taking entering having when computing choosing popping pop_many pop_plain pop_truth pop_integers pop_operands pop_text answering applying_one applying_two testing_step performing putting_back assigning making_text joining at_level kept_on pushing index level_of_machine cell_at jumping block_at own_block leaving with_result putting put_back is_text home_of first_cells leaving_of_meaning constants_of putting_of_steps back_of_steps text_constants text_constant is_variable stream_of own_result own_match result_meant is_inside text is_class_free declared_at constant_of calculate compare compare_as_texts connect same_objects same_texts two_of one_of step_test take_integer take_character take_text take_nothing row_of standard_effect default_mode mode_allowed marked type_named result_named mode_named first_of_procedure first_of_class variable_marks array_marks parameter_marks moded_marks specified_marks headed_marks procedure_marks class_marks virtual_name_marks program_marks inner_marks declaring of_segment of_mode_part of_specification of_specifier of_virtual of_heading declared_by declarations_of run_of_runs lookup shown_of_scopes encloser searched block_at_of_scopes declaration_from binding entry_of formals_of formal_of result_of source_of denoted type_at line_at level_of block_of block_around standard_name text_attribute sysin_attribute sysout_attribute signature undeclared program_events of_statement of_branch of_arm of_block of_whole of_class_body of_declaration accessible protects is_kind some_around_of some_around base brought_by level_shows shown_of is_detach ends_search outward virtual_of represented standard_at qualified_marks qualified_result connection_at transfer_at found_at is_attribute qualification class_prefix_marks prefixed_marks prefix_marks standard_marks marks_of_standard standard_prefix standard_texts class_block has_level is_simulation_block some_level_of shows_detach class_formals class_formals_of found_in if_found object_ended pop_object qualifying referring belongs class_at is_in is_of levels levels_of first_along is_this this_block this_of with_entry_at putting_reference own_attribute
q_in_prefix = record { found = 3; around = itself; instance = refl; level = refl }

-- ---- the block

q_made : (d : DeclNo) (k : Holds) → Among d (numbers_of class_in_class 0) → entry_holds class_in_class false (entry_of class_in_class.tables d) ≡ Some (ArrayOf k) → Among d []
unfolding digits element_place making_array copying_array keeping_array finding_element giving_back handed_over stopping no_rule ticking taking entering having when computing choosing popping pop_many pop_plain pop_truth pop_integers pop_operands pop_text answering applying_one applying_two testing_step performing putting_back assigning making_text joining at_level kept_on pushing index level_of_machine cell_at jumping block_at own_block leaving with_result putting put_back is_text home_of first_cells leaving_of_meaning constants_of putting_of_steps back_of_steps text_constants text_constant is_variable stream_of own_result own_match result_meant is_inside text is_class_free declared_at constant_of calculate compare compare_as_texts connect same_objects same_texts two_of one_of step_test take_integer take_character take_text take_nothing row_of standard_effect default_mode mode_allowed marked type_named result_named mode_named first_of_procedure first_of_class variable_marks array_marks parameter_marks moded_marks specified_marks headed_marks procedure_marks class_marks virtual_name_marks program_marks inner_marks declaring of_segment of_mode_part of_specification of_specifier of_virtual of_heading declared_by declarations_of run_of_runs lookup shown_of_scopes encloser searched block_at_of_scopes declaration_from binding entry_of formals_of formal_of result_of source_of denoted type_at line_at level_of block_of block_around standard_name text_attribute sysin_attribute sysout_attribute signature undeclared program_events of_statement of_branch of_arm of_block of_whole of_class_body of_declaration accessible protects is_kind some_around_of some_around base brought_by level_shows shown_of is_detach ends_search outward virtual_of represented standard_at qualified_marks qualified_result connection_at transfer_at found_at is_attribute qualification class_prefix_marks prefixed_marks prefix_marks standard_marks marks_of_standard standard_prefix standard_texts class_block has_level is_simulation_block some_level_of shows_detach class_formals class_formals_of found_in if_found object_ended pop_object qualifying referring belongs class_at is_in is_of levels levels_of first_along is_this this_block this_of with_entry_at putting_reference own_attribute
q_made d k first e = absurd (cc)
q_made d k (later first) e = absurd (cc)
q_made d k (later (later first)) e = absurd (cc)
q_made d k (later (later (later a))) e = a

q_block : TextHolds class_in_class 0 (text class_in_class 0)
unfolding digits element_place making_array copying_array keeping_array finding_element giving_back handed_over stopping no_rule ticking taking entering having when computing choosing popping pop_many pop_plain pop_truth pop_integers pop_operands pop_text answering applying_one applying_two testing_step performing putting_back assigning making_text joining at_level kept_on pushing index level_of_machine cell_at jumping block_at own_block leaving with_result putting put_back is_text home_of first_cells leaving_of_meaning constants_of putting_of_steps back_of_steps text_constants text_constant is_variable stream_of own_result own_match result_meant is_inside text is_class_free declared_at constant_of calculate compare compare_as_texts connect same_objects same_texts two_of one_of step_test take_integer take_character take_text take_nothing row_of standard_effect default_mode mode_allowed marked type_named result_named mode_named first_of_procedure first_of_class variable_marks array_marks parameter_marks moded_marks specified_marks headed_marks procedure_marks class_marks virtual_name_marks program_marks inner_marks declaring of_segment of_mode_part of_specification of_specifier of_virtual of_heading declared_by declarations_of run_of_runs lookup shown_of_scopes encloser searched block_at_of_scopes declaration_from binding entry_of formals_of formal_of result_of source_of denoted type_at line_at level_of block_of block_around standard_name text_attribute sysin_attribute sysout_attribute signature undeclared program_events of_statement of_branch of_arm of_block of_whole of_class_body of_declaration accessible protects is_kind some_around_of some_around base brought_by level_shows shown_of is_detach ends_search outward virtual_of represented standard_at qualified_marks qualified_result connection_at transfer_at found_at is_attribute qualification class_prefix_marks prefixed_marks prefix_marks standard_marks marks_of_standard standard_prefix standard_texts class_block has_level is_simulation_block some_level_of shows_detach class_formals class_formals_of found_in if_found object_ended pop_object qualifying referring belongs class_at is_in is_of levels levels_of first_along is_this this_block this_of with_entry_at putting_reference own_attribute is_for_prefixing
q_block = record {
  no_formals = (tt, (tt, (tt, tt)));
  arrays = tt;
  distinct = tt;
  made = q_made;
  own = λ d a. absurd (none_among d a);
  statements = (
    (kind.Reference, ((refl, record { class = 1; qualified = refl; at = (refl, q_in_block) }), tt), (record { declaration = number 6; denotes = refl; class = 3; declares = refl; single = refl; process = λ e. absurd (cc); seen = q_in_block; actuals = (refl, tt) }, refl)),
    (((refl, record { class = 3; is = refl }, (refl, q_in_block)), (None, (((refl, refl, refl), refl), (refl, (refl, tt))), refl), tt), ((None, (((refl, refl, refl), refl), tt), refl), tt)),
  );
}

-- ---- the prefix

q_outer_parameters : (d : DeclNo) → Among d (numbers_of class_in_class 1) → IsFormal (entry_of class_in_class.tables d) → Among d (class_formals class_in_class.tables 1)
unfolding digits element_place making_array copying_array keeping_array finding_element giving_back handed_over stopping no_rule ticking taking entering having when computing choosing popping pop_many pop_plain pop_truth pop_integers pop_operands pop_text answering applying_one applying_two testing_step performing putting_back assigning making_text joining at_level kept_on pushing index level_of_machine cell_at jumping block_at own_block leaving with_result putting put_back is_text home_of first_cells leaving_of_meaning constants_of putting_of_steps back_of_steps text_constants text_constant is_variable stream_of own_result own_match result_meant is_inside text is_class_free declared_at constant_of calculate compare compare_as_texts connect same_objects same_texts two_of one_of step_test take_integer take_character take_text take_nothing row_of standard_effect default_mode mode_allowed marked type_named result_named mode_named first_of_procedure first_of_class variable_marks array_marks parameter_marks moded_marks specified_marks headed_marks procedure_marks class_marks virtual_name_marks program_marks inner_marks declaring of_segment of_mode_part of_specification of_specifier of_virtual of_heading declared_by declarations_of run_of_runs lookup shown_of_scopes encloser searched block_at_of_scopes declaration_from binding entry_of formals_of formal_of result_of source_of denoted type_at line_at level_of block_of block_around standard_name text_attribute sysin_attribute sysout_attribute signature undeclared program_events of_statement of_branch of_arm of_block of_whole of_class_body of_declaration accessible protects is_kind some_around_of some_around base brought_by level_shows shown_of is_detach ends_search outward virtual_of represented standard_at qualified_marks qualified_result connection_at transfer_at found_at is_attribute qualification class_prefix_marks prefixed_marks prefix_marks standard_marks marks_of_standard standard_prefix standard_texts class_block has_level is_simulation_block some_level_of shows_detach class_formals class_formals_of found_in if_found object_ended pop_object qualifying referring belongs class_at is_in is_of levels levels_of first_along is_this this_block this_of with_entry_at putting_reference own_attribute
q_outer_parameters d first f = first
q_outer_parameters d (later first) f = absurd f
q_outer_parameters d (later (later first)) f = absurd f
q_outer_parameters d (later (later (later a))) f = absurd (none_among d a)

q_outer_constants : (d : DeclNo) (type : SimType) → Among d (numbers_of class_in_class 1) → entry_of class_in_class.tables d ≡ Some (entry.Constant type) → ConstantHas class_in_class d type
unfolding digits element_place making_array copying_array keeping_array finding_element giving_back handed_over stopping no_rule ticking taking entering having when computing choosing popping pop_many pop_plain pop_truth pop_integers pop_operands pop_text answering applying_one applying_two testing_step performing putting_back assigning making_text joining at_level kept_on pushing index level_of_machine cell_at jumping block_at own_block leaving with_result putting put_back is_text home_of first_cells leaving_of_meaning constants_of putting_of_steps back_of_steps text_constants text_constant is_variable stream_of own_result own_match result_meant is_inside text is_class_free declared_at constant_of calculate compare compare_as_texts connect same_objects same_texts two_of one_of step_test take_integer take_character take_text take_nothing row_of standard_effect default_mode mode_allowed marked type_named result_named mode_named first_of_procedure first_of_class variable_marks array_marks parameter_marks moded_marks specified_marks headed_marks procedure_marks class_marks virtual_name_marks program_marks inner_marks declaring of_segment of_mode_part of_specification of_specifier of_virtual of_heading declared_by declarations_of run_of_runs lookup shown_of_scopes encloser searched block_at_of_scopes declaration_from binding entry_of formals_of formal_of result_of source_of denoted type_at line_at level_of block_of block_around standard_name text_attribute sysin_attribute sysout_attribute signature undeclared program_events of_statement of_branch of_arm of_block of_whole of_class_body of_declaration accessible protects is_kind some_around_of some_around base brought_by level_shows shown_of is_detach ends_search outward virtual_of represented standard_at qualified_marks qualified_result connection_at transfer_at found_at is_attribute qualification class_prefix_marks prefixed_marks prefix_marks standard_marks marks_of_standard standard_prefix standard_texts class_block has_level is_simulation_block some_level_of shows_detach class_formals class_formals_of found_in if_found object_ended pop_object qualifying referring belongs class_at is_in is_of levels levels_of first_along is_this this_block this_of with_entry_at putting_reference own_attribute
q_outer_constants d type first e = absurd (cc)
q_outer_constants d type (later first) e = absurd (cc)
q_outer_constants d type (later (later first)) e = absurd (cc)
q_outer_constants d type (later (later (later a))) e = absurd (none_among d a)

q_outer_arrays : (d : DeclNo) (element : SimType) (dimensions : ℕ) → Among d (numbers_of class_in_class 1) → entry_of class_in_class.tables d ≡ Some (entry.Array element dimensions) → Among d []
unfolding digits element_place making_array copying_array keeping_array finding_element giving_back handed_over stopping no_rule ticking taking entering having when computing choosing popping pop_many pop_plain pop_truth pop_integers pop_operands pop_text answering applying_one applying_two testing_step performing putting_back assigning making_text joining at_level kept_on pushing index level_of_machine cell_at jumping block_at own_block leaving with_result putting put_back is_text home_of first_cells leaving_of_meaning constants_of putting_of_steps back_of_steps text_constants text_constant is_variable stream_of own_result own_match result_meant is_inside text is_class_free declared_at constant_of calculate compare compare_as_texts connect same_objects same_texts two_of one_of step_test take_integer take_character take_text take_nothing row_of standard_effect default_mode mode_allowed marked type_named result_named mode_named first_of_procedure first_of_class variable_marks array_marks parameter_marks moded_marks specified_marks headed_marks procedure_marks class_marks virtual_name_marks program_marks inner_marks declaring of_segment of_mode_part of_specification of_specifier of_virtual of_heading declared_by declarations_of run_of_runs lookup shown_of_scopes encloser searched block_at_of_scopes declaration_from binding entry_of formals_of formal_of result_of source_of denoted type_at line_at level_of block_of block_around standard_name text_attribute sysin_attribute sysout_attribute signature undeclared program_events of_statement of_branch of_arm of_block of_whole of_class_body of_declaration accessible protects is_kind some_around_of some_around base brought_by level_shows shown_of is_detach ends_search outward virtual_of represented standard_at qualified_marks qualified_result connection_at transfer_at found_at is_attribute qualification class_prefix_marks prefixed_marks prefix_marks standard_marks marks_of_standard standard_prefix standard_texts class_block has_level is_simulation_block some_level_of shows_detach class_formals class_formals_of found_in if_found object_ended pop_object qualifying referring belongs class_at is_in is_of levels levels_of first_along is_this this_block this_of with_entry_at putting_reference own_attribute
q_outer_arrays d element dimensions first e = absurd (cc)
q_outer_arrays d element dimensions (later first) e = absurd (cc)
q_outer_arrays d element dimensions (later (later first)) e = absurd (cc)
q_outer_arrays d element dimensions (later (later (later a))) e = absurd (none_among d a)

q_apart_two : Among (number 1) (number 2 ∷ number 5 ∷ []) → ⊥
q_apart_two (later (later a)) = none_among (number 1) a

q_apart_one : Among (number 2) (number 5 ∷ []) → ⊥
q_apart_one (later a) = none_among (number 2) a

q_outer : TextHolds class_in_class 1 (text class_in_class 1)
unfolding digits element_place making_array copying_array keeping_array finding_element giving_back handed_over stopping no_rule ticking taking entering having when computing choosing popping pop_many pop_plain pop_truth pop_integers pop_operands pop_text answering applying_one applying_two testing_step performing putting_back assigning making_text joining at_level kept_on pushing index level_of_machine cell_at jumping block_at own_block leaving with_result putting put_back is_text home_of first_cells leaving_of_meaning constants_of putting_of_steps back_of_steps text_constants text_constant is_variable stream_of own_result own_match result_meant is_inside text is_class_free declared_at constant_of calculate compare compare_as_texts connect same_objects same_texts two_of one_of step_test take_integer take_character take_text take_nothing row_of standard_effect default_mode mode_allowed marked type_named result_named mode_named first_of_procedure first_of_class variable_marks array_marks parameter_marks moded_marks specified_marks headed_marks procedure_marks class_marks virtual_name_marks program_marks inner_marks declaring of_segment of_mode_part of_specification of_specifier of_virtual of_heading declared_by declarations_of run_of_runs lookup shown_of_scopes encloser searched block_at_of_scopes declaration_from binding entry_of formals_of formal_of result_of source_of denoted type_at line_at level_of block_of block_around standard_name text_attribute sysin_attribute sysout_attribute signature undeclared program_events of_statement of_branch of_arm of_block of_whole of_class_body of_declaration accessible protects is_kind some_around_of some_around base brought_by level_shows shown_of is_detach ends_search outward virtual_of represented standard_at qualified_marks qualified_result connection_at transfer_at found_at is_attribute qualification class_prefix_marks prefixed_marks prefix_marks standard_marks marks_of_standard standard_prefix standard_texts class_block has_level is_simulation_block some_level_of shows_detach class_formals class_formals_of found_in if_found object_ended pop_object qualifying referring belongs class_at is_in is_of levels levels_of first_along is_this this_block this_of with_entry_at putting_reference own_attribute is_for_prefixing
q_outer = record {
  formals = (Simply kind.Integer, refl, refl, tt);
  parameters = q_outer_parameters;
  different = (q_apart_two, (q_apart_one, ((λ a. none_among (number 5) a), tt)));
  not_by_name = λ d k a e. none_named class_in_class d k (numbers_of class_in_class 1) (tt, (tt, (tt, tt))) a e;
  no_procedure = λ d r a e. no_procedures class_in_class d r (numbers_of class_in_class 1) (tt, (tt, (tt, tt))) a e;
  constants = q_outer_constants;
  arrays = tt;
  distinct = tt;
  made = q_outer_arrays;
  own = λ d a. absurd (none_among d a);
  statements = (
    (kind.Reference, ((refl, record { class = 2; qualified = refl; at = (refl, q_in_outer) }), tt), (record { declaration = number 2; denotes = refl; class = 2; declares = refl; single = refl; process = λ e. absurd (cc); seen = q_in_outer; actuals = (refl, tt) }, refl)),
    ((None, (((refl, refl, refl), refl), ((refl, (2, refl, refl, (refl, (2, refl, refl, (refl, q_in_outer))))), (refl, tt))), refl), ((refl, refl), tt)),
  );
  stays = refl;
}

-- ---- the class inside

q_cell_parameters : (d : DeclNo) → Among d (numbers_of class_in_class 2) → IsFormal (entry_of class_in_class.tables d) → Among d (class_formals class_in_class.tables 2)
unfolding digits element_place making_array copying_array keeping_array finding_element giving_back handed_over stopping no_rule ticking taking entering having when computing choosing popping pop_many pop_plain pop_truth pop_integers pop_operands pop_text answering applying_one applying_two testing_step performing putting_back assigning making_text joining at_level kept_on pushing index level_of_machine cell_at jumping block_at own_block leaving with_result putting put_back is_text home_of first_cells leaving_of_meaning constants_of putting_of_steps back_of_steps text_constants text_constant is_variable stream_of own_result own_match result_meant is_inside text is_class_free declared_at constant_of calculate compare compare_as_texts connect same_objects same_texts two_of one_of step_test take_integer take_character take_text take_nothing row_of standard_effect default_mode mode_allowed marked type_named result_named mode_named first_of_procedure first_of_class variable_marks array_marks parameter_marks moded_marks specified_marks headed_marks procedure_marks class_marks virtual_name_marks program_marks inner_marks declaring of_segment of_mode_part of_specification of_specifier of_virtual of_heading declared_by declarations_of run_of_runs lookup shown_of_scopes encloser searched block_at_of_scopes declaration_from binding entry_of formals_of formal_of result_of source_of denoted type_at line_at level_of block_of block_around standard_name text_attribute sysin_attribute sysout_attribute signature undeclared program_events of_statement of_branch of_arm of_block of_whole of_class_body of_declaration accessible protects is_kind some_around_of some_around base brought_by level_shows shown_of is_detach ends_search outward virtual_of represented standard_at qualified_marks qualified_result connection_at transfer_at found_at is_attribute qualification class_prefix_marks prefixed_marks prefix_marks standard_marks marks_of_standard standard_prefix standard_texts class_block has_level is_simulation_block some_level_of shows_detach class_formals class_formals_of found_in if_found object_ended pop_object qualifying referring belongs class_at is_in is_of levels levels_of first_along is_this this_block this_of with_entry_at putting_reference own_attribute
q_cell_parameters d first f = first
q_cell_parameters d (later first) f = absurd f
q_cell_parameters d (later (later a)) f = absurd (none_among d a)

q_cell_constants : (d : DeclNo) (type : SimType) → Among d (numbers_of class_in_class 2) → entry_of class_in_class.tables d ≡ Some (entry.Constant type) → ConstantHas class_in_class d type
unfolding digits element_place making_array copying_array keeping_array finding_element giving_back handed_over stopping no_rule ticking taking entering having when computing choosing popping pop_many pop_plain pop_truth pop_integers pop_operands pop_text answering applying_one applying_two testing_step performing putting_back assigning making_text joining at_level kept_on pushing index level_of_machine cell_at jumping block_at own_block leaving with_result putting put_back is_text home_of first_cells leaving_of_meaning constants_of putting_of_steps back_of_steps text_constants text_constant is_variable stream_of own_result own_match result_meant is_inside text is_class_free declared_at constant_of calculate compare compare_as_texts connect same_objects same_texts two_of one_of step_test take_integer take_character take_text take_nothing row_of standard_effect default_mode mode_allowed marked type_named result_named mode_named first_of_procedure first_of_class variable_marks array_marks parameter_marks moded_marks specified_marks headed_marks procedure_marks class_marks virtual_name_marks program_marks inner_marks declaring of_segment of_mode_part of_specification of_specifier of_virtual of_heading declared_by declarations_of run_of_runs lookup shown_of_scopes encloser searched block_at_of_scopes declaration_from binding entry_of formals_of formal_of result_of source_of denoted type_at line_at level_of block_of block_around standard_name text_attribute sysin_attribute sysout_attribute signature undeclared program_events of_statement of_branch of_arm of_block of_whole of_class_body of_declaration accessible protects is_kind some_around_of some_around base brought_by level_shows shown_of is_detach ends_search outward virtual_of represented standard_at qualified_marks qualified_result connection_at transfer_at found_at is_attribute qualification class_prefix_marks prefixed_marks prefix_marks standard_marks marks_of_standard standard_prefix standard_texts class_block has_level is_simulation_block some_level_of shows_detach class_formals class_formals_of found_in if_found object_ended pop_object qualifying referring belongs class_at is_in is_of levels levels_of first_along is_this this_block this_of with_entry_at putting_reference own_attribute
q_cell_constants d type first e = absurd (cc)
q_cell_constants d type (later first) e = absurd (cc)
q_cell_constants d type (later (later a)) e = absurd (none_among d a)

q_cell_arrays : (d : DeclNo) (element : SimType) (dimensions : ℕ) → Among d (numbers_of class_in_class 2) → entry_of class_in_class.tables d ≡ Some (entry.Array element dimensions) → Among d []
unfolding digits element_place making_array copying_array keeping_array finding_element giving_back handed_over stopping no_rule ticking taking entering having when computing choosing popping pop_many pop_plain pop_truth pop_integers pop_operands pop_text answering applying_one applying_two testing_step performing putting_back assigning making_text joining at_level kept_on pushing index level_of_machine cell_at jumping block_at own_block leaving with_result putting put_back is_text home_of first_cells leaving_of_meaning constants_of putting_of_steps back_of_steps text_constants text_constant is_variable stream_of own_result own_match result_meant is_inside text is_class_free declared_at constant_of calculate compare compare_as_texts connect same_objects same_texts two_of one_of step_test take_integer take_character take_text take_nothing row_of standard_effect default_mode mode_allowed marked type_named result_named mode_named first_of_procedure first_of_class variable_marks array_marks parameter_marks moded_marks specified_marks headed_marks procedure_marks class_marks virtual_name_marks program_marks inner_marks declaring of_segment of_mode_part of_specification of_specifier of_virtual of_heading declared_by declarations_of run_of_runs lookup shown_of_scopes encloser searched block_at_of_scopes declaration_from binding entry_of formals_of formal_of result_of source_of denoted type_at line_at level_of block_of block_around standard_name text_attribute sysin_attribute sysout_attribute signature undeclared program_events of_statement of_branch of_arm of_block of_whole of_class_body of_declaration accessible protects is_kind some_around_of some_around base brought_by level_shows shown_of is_detach ends_search outward virtual_of represented standard_at qualified_marks qualified_result connection_at transfer_at found_at is_attribute qualification class_prefix_marks prefixed_marks prefix_marks standard_marks marks_of_standard standard_prefix standard_texts class_block has_level is_simulation_block some_level_of shows_detach class_formals class_formals_of found_in if_found object_ended pop_object qualifying referring belongs class_at is_in is_of levels levels_of first_along is_this this_block this_of with_entry_at putting_reference own_attribute
q_cell_arrays d element dimensions first e = absurd (cc)
q_cell_arrays d element dimensions (later first) e = absurd (cc)
q_cell_arrays d element dimensions (later (later a)) e = absurd (none_among d a)

q_apart : Among (number 3) (number 4 ∷ []) → ⊥
q_apart (later a) = none_among (number 3) a

q_cell : TextHolds class_in_class 2 (text class_in_class 2)
unfolding digits element_place making_array copying_array keeping_array finding_element giving_back handed_over stopping no_rule ticking taking entering having when computing choosing popping pop_many pop_plain pop_truth pop_integers pop_operands pop_text answering applying_one applying_two testing_step performing putting_back assigning making_text joining at_level kept_on pushing index level_of_machine cell_at jumping block_at own_block leaving with_result putting put_back is_text home_of first_cells leaving_of_meaning constants_of putting_of_steps back_of_steps text_constants text_constant is_variable stream_of own_result own_match result_meant is_inside text is_class_free declared_at constant_of calculate compare compare_as_texts connect same_objects same_texts two_of one_of step_test take_integer take_character take_text take_nothing row_of standard_effect default_mode mode_allowed marked type_named result_named mode_named first_of_procedure first_of_class variable_marks array_marks parameter_marks moded_marks specified_marks headed_marks procedure_marks class_marks virtual_name_marks program_marks inner_marks declaring of_segment of_mode_part of_specification of_specifier of_virtual of_heading declared_by declarations_of run_of_runs lookup shown_of_scopes encloser searched block_at_of_scopes declaration_from binding entry_of formals_of formal_of result_of source_of denoted type_at line_at level_of block_of block_around standard_name text_attribute sysin_attribute sysout_attribute signature undeclared program_events of_statement of_branch of_arm of_block of_whole of_class_body of_declaration accessible protects is_kind some_around_of some_around base brought_by level_shows shown_of is_detach ends_search outward virtual_of represented standard_at qualified_marks qualified_result connection_at transfer_at found_at is_attribute qualification class_prefix_marks prefixed_marks prefix_marks standard_marks marks_of_standard standard_prefix standard_texts class_block has_level is_simulation_block some_level_of shows_detach class_formals class_formals_of found_in if_found object_ended pop_object qualifying referring belongs class_at is_in is_of levels levels_of first_along is_this this_block this_of with_entry_at putting_reference own_attribute
q_cell = record {
  formals = (Simply kind.Integer, refl, refl, tt);
  parameters = q_cell_parameters;
  different = (q_apart, ((λ a. none_among (number 4) a), tt));
  not_by_name = λ d k a e. none_named class_in_class d k (numbers_of class_in_class 2) (tt, (tt, tt)) a e;
  no_procedure = λ d r a e. no_procedures class_in_class d r (numbers_of class_in_class 2) (tt, (tt, tt)) a e;
  constants = q_cell_constants;
  arrays = tt;
  distinct = tt;
  made = q_cell_arrays;
  own = λ d a. absurd (none_among d a);
  statements = (
    (kind.Reference, ((refl, record { class = 2; qualified = refl; at = (refl, q_in_cell) }), tt), (itself, refl)),
    ((kind.Integer, ((integer_apart, (refl, q_in_cell)), tt), (kind.Integer, kind.Integer, (refl, refl), refl, (refl, q_in_cell), (refl, q_around_cell))), tt),
  );
  stays = refl;
}

-- ---- the class with the prefix

q_more_none : (d : DeclNo) → Among d (numbers_of class_in_class 3) → ⊥
unfolding digits element_place making_array copying_array keeping_array finding_element giving_back handed_over stopping no_rule ticking taking entering having when computing choosing popping pop_many pop_plain pop_truth pop_integers pop_operands pop_text answering applying_one applying_two testing_step performing putting_back assigning making_text joining at_level kept_on pushing index level_of_machine cell_at jumping block_at own_block leaving with_result putting put_back is_text home_of first_cells leaving_of_meaning constants_of putting_of_steps back_of_steps text_constants text_constant is_variable stream_of own_result own_match result_meant is_inside text is_class_free declared_at constant_of calculate compare compare_as_texts connect same_objects same_texts two_of one_of step_test take_integer take_character take_text take_nothing row_of standard_effect default_mode mode_allowed marked type_named result_named mode_named first_of_procedure first_of_class variable_marks array_marks parameter_marks moded_marks specified_marks headed_marks procedure_marks class_marks virtual_name_marks program_marks inner_marks declaring of_segment of_mode_part of_specification of_specifier of_virtual of_heading declared_by declarations_of run_of_runs lookup shown_of_scopes encloser searched block_at_of_scopes declaration_from binding entry_of formals_of formal_of result_of source_of denoted type_at line_at level_of block_of block_around standard_name text_attribute sysin_attribute sysout_attribute signature undeclared program_events of_statement of_branch of_arm of_block of_whole of_class_body of_declaration accessible protects is_kind some_around_of some_around base brought_by level_shows shown_of is_detach ends_search outward virtual_of represented standard_at qualified_marks qualified_result connection_at transfer_at found_at is_attribute qualification class_prefix_marks prefixed_marks prefix_marks standard_marks marks_of_standard standard_prefix standard_texts class_block has_level is_simulation_block some_level_of shows_detach class_formals class_formals_of found_in if_found object_ended pop_object qualifying referring belongs class_at is_in is_of levels levels_of first_along is_this this_block this_of with_entry_at putting_reference own_attribute
q_more_none d a = none_among d a

q_more : TextHolds class_in_class 3 (text class_in_class 3)
unfolding digits element_place making_array copying_array keeping_array finding_element giving_back handed_over stopping no_rule ticking taking entering having when computing choosing popping pop_many pop_plain pop_truth pop_integers pop_operands pop_text answering applying_one applying_two testing_step performing putting_back assigning making_text joining at_level kept_on pushing index level_of_machine cell_at jumping block_at own_block leaving with_result putting put_back is_text home_of first_cells leaving_of_meaning constants_of putting_of_steps back_of_steps text_constants text_constant is_variable stream_of own_result own_match result_meant is_inside text is_class_free declared_at constant_of calculate compare compare_as_texts connect same_objects same_texts two_of one_of step_test take_integer take_character take_text take_nothing row_of standard_effect default_mode mode_allowed marked type_named result_named mode_named first_of_procedure first_of_class variable_marks array_marks parameter_marks moded_marks specified_marks headed_marks procedure_marks class_marks virtual_name_marks program_marks inner_marks declaring of_segment of_mode_part of_specification of_specifier of_virtual of_heading declared_by declarations_of run_of_runs lookup shown_of_scopes encloser searched block_at_of_scopes declaration_from binding entry_of formals_of formal_of result_of source_of denoted type_at line_at level_of block_of block_around standard_name text_attribute sysin_attribute sysout_attribute signature undeclared program_events of_statement of_branch of_arm of_block of_whole of_class_body of_declaration accessible protects is_kind some_around_of some_around base brought_by level_shows shown_of is_detach ends_search outward virtual_of represented standard_at qualified_marks qualified_result connection_at transfer_at found_at is_attribute qualification class_prefix_marks prefixed_marks prefix_marks standard_marks marks_of_standard standard_prefix standard_texts class_block has_level is_simulation_block some_level_of shows_detach class_formals class_formals_of found_in if_found object_ended pop_object qualifying referring belongs class_at is_in is_of levels levels_of first_along is_this this_block this_of with_entry_at putting_reference own_attribute is_for_prefixing
q_more = record {
  formals = (Simply kind.Integer, refl, refl, tt);
  parameters = λ d a f. absurd (q_more_none d a);
  different = tt;
  not_by_name = λ d k a e. q_more_none d a;
  no_procedure = λ d r a e. q_more_none d a;
  constants = λ d type a e. absurd (q_more_none d a);
  arrays = tt;
  distinct = tt;
  made = λ d element dimensions a e. absurd (q_more_none d a);
  own = λ d a. absurd (none_among d a);
  statements = (
    (kind.Integer, ((integer_apart, (refl, q_in_prefix)), tt), refl),
    (
      (kind.Reference, ((refl, record { class = 2; qualified = refl; at = (refl, q_in_prefix) }), tt), (record { declaration = number 2; denotes = refl; class = 2; declares = refl; single = refl; process = λ e. absurd (cc); seen = q_in_prefix; actuals = (refl, tt) }, refl)),
      ((None, (((refl, refl, refl), refl), ((refl, (2, refl, refl, (refl, q_in_prefix))), (refl, tt))), refl), ((kind.Reference, ((refl, record { class = 2; qualified = refl; at = (refl, q_in_prefix) }), tt), (refl, (2, refl, refl, (refl, q_in_prefix)))), tt)),
    ),
  );
  stays = refl;
}

q_texts : (k : ℕ) → TextHolds class_in_class k (text class_in_class k)
unfolding digits element_place making_array copying_array keeping_array finding_element giving_back handed_over stopping no_rule ticking taking entering having when computing choosing popping pop_many pop_plain pop_truth pop_integers pop_operands pop_text answering applying_one applying_two testing_step performing putting_back assigning making_text joining at_level kept_on pushing index level_of_machine cell_at jumping block_at own_block leaving with_result putting put_back is_text home_of first_cells leaving_of_meaning constants_of putting_of_steps back_of_steps text_constants text_constant is_variable stream_of own_result own_match result_meant is_inside text is_class_free declared_at constant_of calculate compare compare_as_texts connect same_objects same_texts two_of one_of step_test take_integer take_character take_text take_nothing row_of standard_effect default_mode mode_allowed marked type_named result_named mode_named first_of_procedure first_of_class variable_marks array_marks parameter_marks moded_marks specified_marks headed_marks procedure_marks class_marks virtual_name_marks program_marks inner_marks declaring of_segment of_mode_part of_specification of_specifier of_virtual of_heading declared_by declarations_of run_of_runs lookup shown_of_scopes encloser searched block_at_of_scopes declaration_from binding entry_of formals_of formal_of result_of source_of denoted type_at line_at level_of block_of block_around standard_name text_attribute sysin_attribute sysout_attribute signature undeclared program_events of_statement of_branch of_arm of_block of_whole of_class_body of_declaration accessible protects is_kind some_around_of some_around base brought_by level_shows shown_of is_detach ends_search outward virtual_of represented standard_at qualified_marks qualified_result connection_at transfer_at found_at is_attribute qualification class_prefix_marks prefixed_marks prefix_marks standard_marks marks_of_standard standard_prefix standard_texts class_block has_level is_simulation_block some_level_of shows_detach class_formals class_formals_of found_in if_found object_ended pop_object qualifying referring belongs class_at is_in is_of levels levels_of first_along is_this this_block this_of with_entry_at putting_reference own_attribute
q_texts zero = q_block
q_texts (suc zero) = q_outer
q_texts (suc (suc zero)) = q_cell
q_texts (suc (suc (suc zero))) = q_more
q_texts (suc (suc (suc (suc k)))) = tt

-- ---- the tables

q_levels : (t u : ℕ) → encloser class_in_class.tables t ≡ Some u → level_of class_in_class t ≡ suc (level_of class_in_class u)
unfolding digits element_place making_array copying_array keeping_array finding_element giving_back handed_over stopping no_rule ticking taking entering having when computing choosing popping pop_many pop_plain pop_truth pop_integers pop_operands pop_text answering applying_one applying_two testing_step performing putting_back assigning making_text joining at_level kept_on pushing index level_of_machine cell_at jumping block_at own_block leaving with_result putting put_back is_text home_of first_cells leaving_of_meaning constants_of putting_of_steps back_of_steps text_constants text_constant is_variable stream_of own_result own_match result_meant is_inside text is_class_free declared_at constant_of calculate compare compare_as_texts connect same_objects same_texts two_of one_of step_test take_integer take_character take_text take_nothing row_of standard_effect default_mode mode_allowed marked type_named result_named mode_named first_of_procedure first_of_class variable_marks array_marks parameter_marks moded_marks specified_marks headed_marks procedure_marks class_marks virtual_name_marks program_marks inner_marks declaring of_segment of_mode_part of_specification of_specifier of_virtual of_heading declared_by declarations_of run_of_runs lookup shown_of_scopes encloser searched block_at_of_scopes declaration_from binding entry_of formals_of formal_of result_of source_of denoted type_at line_at level_of block_of block_around standard_name text_attribute sysin_attribute sysout_attribute signature undeclared program_events of_statement of_branch of_arm of_block of_whole of_class_body of_declaration accessible protects is_kind some_around_of some_around base brought_by level_shows shown_of is_detach ends_search outward virtual_of represented standard_at qualified_marks qualified_result connection_at transfer_at found_at is_attribute qualification class_prefix_marks prefixed_marks prefix_marks standard_marks marks_of_standard standard_prefix standard_texts class_block has_level is_simulation_block some_level_of shows_detach class_formals class_formals_of found_in if_found object_ended pop_object qualifying referring belongs class_at is_in is_of levels levels_of first_along is_this this_block this_of with_entry_at putting_reference own_attribute
q_levels zero u e = absurd (cc)
q_levels (suc zero) u e = let f : 0 ≡ u = cc in subst (λ z. level_of class_in_class 1 ≡ suc (level_of class_in_class z)) f refl
q_levels (suc (suc zero)) u e = let f : 1 ≡ u = cc in subst (λ z. level_of class_in_class 2 ≡ suc (level_of class_in_class z)) f refl
q_levels (suc (suc (suc zero))) u e = let f : 0 ≡ u = cc in subst (λ z. level_of class_in_class 3 ≡ suc (level_of class_in_class z)) f refl
q_levels (suc (suc (suc (suc t)))) u e = absurd (cc)

q_procedures : (n : ℕ) (result : Option SimType) (k : ℕ) → entry_of class_in_class.tables (number n) ≡ Some (entry.Procedure result k) → ProcedureThere class_in_class (number n) k
unfolding digits element_place making_array copying_array keeping_array finding_element giving_back handed_over stopping no_rule ticking taking entering having when computing choosing popping pop_many pop_plain pop_truth pop_integers pop_operands pop_text answering applying_one applying_two testing_step performing putting_back assigning making_text joining at_level kept_on pushing index level_of_machine cell_at jumping block_at own_block leaving with_result putting put_back is_text home_of first_cells leaving_of_meaning constants_of putting_of_steps back_of_steps text_constants text_constant is_variable stream_of own_result own_match result_meant is_inside text is_class_free declared_at constant_of calculate compare compare_as_texts connect same_objects same_texts two_of one_of step_test take_integer take_character take_text take_nothing row_of standard_effect default_mode mode_allowed marked type_named result_named mode_named first_of_procedure first_of_class variable_marks array_marks parameter_marks moded_marks specified_marks headed_marks procedure_marks class_marks virtual_name_marks program_marks inner_marks declaring of_segment of_mode_part of_specification of_specifier of_virtual of_heading declared_by declarations_of run_of_runs lookup shown_of_scopes encloser searched block_at_of_scopes declaration_from binding entry_of formals_of formal_of result_of source_of denoted type_at line_at level_of block_of block_around standard_name text_attribute sysin_attribute sysout_attribute signature undeclared program_events of_statement of_branch of_arm of_block of_whole of_class_body of_declaration accessible protects is_kind some_around_of some_around base brought_by level_shows shown_of is_detach ends_search outward virtual_of represented standard_at qualified_marks qualified_result connection_at transfer_at found_at is_attribute qualification class_prefix_marks prefixed_marks prefix_marks standard_marks marks_of_standard standard_prefix standard_texts class_block has_level is_simulation_block some_level_of shows_detach class_formals class_formals_of found_in if_found object_ended pop_object qualifying referring belongs class_at is_in is_of levels levels_of first_along is_this this_block this_of with_entry_at putting_reference own_attribute
q_procedures zero result k e = absurd (cc)
q_procedures (suc zero) result k e = absurd (cc)
q_procedures (suc (suc zero)) result k e = absurd (cc)
q_procedures (suc (suc (suc zero))) result k e = absurd (cc)
q_procedures (suc (suc (suc (suc zero)))) result k e = absurd (cc)
q_procedures (suc (suc (suc (suc (suc zero))))) result k e = absurd (cc)
q_procedures (suc (suc (suc (suc (suc (suc zero)))))) result k e = absurd (cc)
q_procedures (suc (suc (suc (suc (suc (suc (suc zero))))))) result k e = absurd (cc)
q_procedures (suc (suc (suc (suc (suc (suc (suc (suc n)))))))) result k e = absurd (cc)

q_outer_there : ClassThere class_in_class (number 0) 1
unfolding digits element_place making_array copying_array keeping_array finding_element giving_back handed_over stopping no_rule ticking taking entering having when computing choosing popping pop_many pop_plain pop_truth pop_integers pop_operands pop_text answering applying_one applying_two testing_step performing putting_back assigning making_text joining at_level kept_on pushing index level_of_machine cell_at jumping block_at own_block leaving with_result putting put_back is_text home_of first_cells leaving_of_meaning constants_of putting_of_steps back_of_steps text_constants text_constant is_variable stream_of own_result own_match result_meant is_inside text is_class_free declared_at constant_of calculate compare compare_as_texts connect same_objects same_texts two_of one_of step_test take_integer take_character take_text take_nothing row_of standard_effect default_mode mode_allowed marked type_named result_named mode_named first_of_procedure first_of_class variable_marks array_marks parameter_marks moded_marks specified_marks headed_marks procedure_marks class_marks virtual_name_marks program_marks inner_marks declaring of_segment of_mode_part of_specification of_specifier of_virtual of_heading declared_by declarations_of run_of_runs lookup shown_of_scopes encloser searched block_at_of_scopes declaration_from binding entry_of formals_of formal_of result_of source_of denoted type_at line_at level_of block_of block_around standard_name text_attribute sysin_attribute sysout_attribute signature undeclared program_events of_statement of_branch of_arm of_block of_whole of_class_body of_declaration accessible protects is_kind some_around_of some_around base brought_by level_shows shown_of is_detach ends_search outward virtual_of represented standard_at qualified_marks qualified_result connection_at transfer_at found_at is_attribute qualification class_prefix_marks prefixed_marks prefix_marks standard_marks marks_of_standard standard_prefix standard_texts class_block has_level is_simulation_block some_level_of shows_detach class_formals class_formals_of found_in if_found object_ended pop_object qualifying referring belongs class_at is_in is_of levels levels_of first_along is_this this_block this_of with_entry_at putting_reference own_attribute
q_outer_there = record { is = refl; around = refl }

q_cell_there : ClassThere class_in_class (number 2) 2
unfolding digits element_place making_array copying_array keeping_array finding_element giving_back handed_over stopping no_rule ticking taking entering having when computing choosing popping pop_many pop_plain pop_truth pop_integers pop_operands pop_text answering applying_one applying_two testing_step performing putting_back assigning making_text joining at_level kept_on pushing index level_of_machine cell_at jumping block_at own_block leaving with_result putting put_back is_text home_of first_cells leaving_of_meaning constants_of putting_of_steps back_of_steps text_constants text_constant is_variable stream_of own_result own_match result_meant is_inside text is_class_free declared_at constant_of calculate compare compare_as_texts connect same_objects same_texts two_of one_of step_test take_integer take_character take_text take_nothing row_of standard_effect default_mode mode_allowed marked type_named result_named mode_named first_of_procedure first_of_class variable_marks array_marks parameter_marks moded_marks specified_marks headed_marks procedure_marks class_marks virtual_name_marks program_marks inner_marks declaring of_segment of_mode_part of_specification of_specifier of_virtual of_heading declared_by declarations_of run_of_runs lookup shown_of_scopes encloser searched block_at_of_scopes declaration_from binding entry_of formals_of formal_of result_of source_of denoted type_at line_at level_of block_of block_around standard_name text_attribute sysin_attribute sysout_attribute signature undeclared program_events of_statement of_branch of_arm of_block of_whole of_class_body of_declaration accessible protects is_kind some_around_of some_around base brought_by level_shows shown_of is_detach ends_search outward virtual_of represented standard_at qualified_marks qualified_result connection_at transfer_at found_at is_attribute qualification class_prefix_marks prefixed_marks prefix_marks standard_marks marks_of_standard standard_prefix standard_texts class_block has_level is_simulation_block some_level_of shows_detach class_formals class_formals_of found_in if_found object_ended pop_object qualifying referring belongs class_at is_in is_of levels levels_of first_along is_this this_block this_of with_entry_at putting_reference own_attribute
q_cell_there = record { is = refl; around = refl }

q_more_there : ClassThere class_in_class (number 6) 3
unfolding digits element_place making_array copying_array keeping_array finding_element giving_back handed_over stopping no_rule ticking taking entering having when computing choosing popping pop_many pop_plain pop_truth pop_integers pop_operands pop_text answering applying_one applying_two testing_step performing putting_back assigning making_text joining at_level kept_on pushing index level_of_machine cell_at jumping block_at own_block leaving with_result putting put_back is_text home_of first_cells leaving_of_meaning constants_of putting_of_steps back_of_steps text_constants text_constant is_variable stream_of own_result own_match result_meant is_inside text is_class_free declared_at constant_of calculate compare compare_as_texts connect same_objects same_texts two_of one_of step_test take_integer take_character take_text take_nothing row_of standard_effect default_mode mode_allowed marked type_named result_named mode_named first_of_procedure first_of_class variable_marks array_marks parameter_marks moded_marks specified_marks headed_marks procedure_marks class_marks virtual_name_marks program_marks inner_marks declaring of_segment of_mode_part of_specification of_specifier of_virtual of_heading declared_by declarations_of run_of_runs lookup shown_of_scopes encloser searched block_at_of_scopes declaration_from binding entry_of formals_of formal_of result_of source_of denoted type_at line_at level_of block_of block_around standard_name text_attribute sysin_attribute sysout_attribute signature undeclared program_events of_statement of_branch of_arm of_block of_whole of_class_body of_declaration accessible protects is_kind some_around_of some_around base brought_by level_shows shown_of is_detach ends_search outward virtual_of represented standard_at qualified_marks qualified_result connection_at transfer_at found_at is_attribute qualification class_prefix_marks prefixed_marks prefix_marks standard_marks marks_of_standard standard_prefix standard_texts class_block has_level is_simulation_block some_level_of shows_detach class_formals class_formals_of found_in if_found object_ended pop_object qualifying referring belongs class_at is_in is_of levels levels_of first_along is_this this_block this_of with_entry_at putting_reference own_attribute
q_more_there = record { is = refl; around = refl }

q_classes : (n : ℕ) (k : ℕ) → entry_of class_in_class.tables (number n) ≡ Some (entry.Class k) → ClassThere class_in_class (number n) k
unfolding digits element_place making_array copying_array keeping_array finding_element giving_back handed_over stopping no_rule ticking taking entering having when computing choosing popping pop_many pop_plain pop_truth pop_integers pop_operands pop_text answering applying_one applying_two testing_step performing putting_back assigning making_text joining at_level kept_on pushing index level_of_machine cell_at jumping block_at own_block leaving with_result putting put_back is_text home_of first_cells leaving_of_meaning constants_of putting_of_steps back_of_steps text_constants text_constant is_variable stream_of own_result own_match result_meant is_inside text is_class_free declared_at constant_of calculate compare compare_as_texts connect same_objects same_texts two_of one_of step_test take_integer take_character take_text take_nothing row_of standard_effect default_mode mode_allowed marked type_named result_named mode_named first_of_procedure first_of_class variable_marks array_marks parameter_marks moded_marks specified_marks headed_marks procedure_marks class_marks virtual_name_marks program_marks inner_marks declaring of_segment of_mode_part of_specification of_specifier of_virtual of_heading declared_by declarations_of run_of_runs lookup shown_of_scopes encloser searched block_at_of_scopes declaration_from binding entry_of formals_of formal_of result_of source_of denoted type_at line_at level_of block_of block_around standard_name text_attribute sysin_attribute sysout_attribute signature undeclared program_events of_statement of_branch of_arm of_block of_whole of_class_body of_declaration accessible protects is_kind some_around_of some_around base brought_by level_shows shown_of is_detach ends_search outward virtual_of represented standard_at qualified_marks qualified_result connection_at transfer_at found_at is_attribute qualification class_prefix_marks prefixed_marks prefix_marks standard_marks marks_of_standard standard_prefix standard_texts class_block has_level is_simulation_block some_level_of shows_detach class_formals class_formals_of found_in if_found object_ended pop_object qualifying referring belongs class_at is_in is_of levels levels_of first_along is_this this_block this_of with_entry_at putting_reference own_attribute
q_classes zero k e = let b : 1 ≡ k = cc in subst (λ z. ClassThere class_in_class (number 0) z) b q_outer_there
q_classes (suc zero) k e = absurd (cc)
q_classes (suc (suc zero)) k e = let b : 2 ≡ k = cc in subst (λ z. ClassThere class_in_class (number 2) z) b q_cell_there
q_classes (suc (suc (suc zero))) k e = absurd (cc)
q_classes (suc (suc (suc (suc zero)))) k e = absurd (cc)
q_classes (suc (suc (suc (suc (suc zero))))) k e = absurd (cc)
q_classes (suc (suc (suc (suc (suc (suc zero)))))) k e = let b : 3 ≡ k = cc in subst (λ z. ClassThere class_in_class (number 6) z) b q_more_there
q_classes (suc (suc (suc (suc (suc (suc (suc zero))))))) k e = absurd (cc)
q_classes (suc (suc (suc (suc (suc (suc (suc (suc n)))))))) k e = absurd (cc)

q_free : (t u : ℕ) → encloser class_in_class.tables t ≡ Some u → is_class_free class_in_class t ≡ false → is_class_free class_in_class u ≡ false
unfolding digits element_place making_array copying_array keeping_array finding_element giving_back handed_over stopping no_rule ticking taking entering having when computing choosing popping pop_many pop_plain pop_truth pop_integers pop_operands pop_text answering applying_one applying_two testing_step performing putting_back assigning making_text joining at_level kept_on pushing index level_of_machine cell_at jumping block_at own_block leaving with_result putting put_back is_text home_of first_cells leaving_of_meaning constants_of putting_of_steps back_of_steps text_constants text_constant is_variable stream_of own_result own_match result_meant is_inside text is_class_free declared_at constant_of calculate compare compare_as_texts connect same_objects same_texts two_of one_of step_test take_integer take_character take_text take_nothing row_of standard_effect default_mode mode_allowed marked type_named result_named mode_named first_of_procedure first_of_class variable_marks array_marks parameter_marks moded_marks specified_marks headed_marks procedure_marks class_marks virtual_name_marks program_marks inner_marks declaring of_segment of_mode_part of_specification of_specifier of_virtual of_heading declared_by declarations_of run_of_runs lookup shown_of_scopes encloser searched block_at_of_scopes declaration_from binding entry_of formals_of formal_of result_of source_of denoted type_at line_at level_of block_of block_around standard_name text_attribute sysin_attribute sysout_attribute signature undeclared program_events of_statement of_branch of_arm of_block of_whole of_class_body of_declaration accessible protects is_kind some_around_of some_around base brought_by level_shows shown_of is_detach ends_search outward virtual_of represented standard_at qualified_marks qualified_result connection_at transfer_at found_at is_attribute qualification class_prefix_marks prefixed_marks prefix_marks standard_marks marks_of_standard standard_prefix standard_texts class_block has_level is_simulation_block some_level_of shows_detach class_formals class_formals_of found_in if_found object_ended pop_object qualifying referring belongs class_at is_in is_of levels levels_of first_along is_this this_block this_of with_entry_at putting_reference own_attribute
q_free zero u around e = absurd (cc)
q_free (suc zero) u around e = let f : 0 ≡ u = cc in subst (λ z. is_class_free class_in_class z ≡ false) f refl
q_free (suc (suc zero)) u around e = let f : 1 ≡ u = cc in subst (λ z. is_class_free class_in_class z ≡ false) f refl
q_free (suc (suc (suc zero))) u around e = let f : 0 ≡ u = cc in subst (λ z. is_class_free class_in_class z ≡ false) f refl
q_free (suc (suc (suc (suc t)))) u around e = absurd (cc)

q_prefix : PrefixTyped class_in_class 3 1
unfolding digits element_place making_array copying_array keeping_array finding_element giving_back handed_over stopping no_rule ticking taking entering having when computing choosing popping pop_many pop_plain pop_truth pop_integers pop_operands pop_text answering applying_one applying_two testing_step performing putting_back assigning making_text joining at_level kept_on pushing index level_of_machine cell_at jumping block_at own_block leaving with_result putting put_back is_text home_of first_cells leaving_of_meaning constants_of putting_of_steps back_of_steps text_constants text_constant is_variable stream_of own_result own_match result_meant is_inside text is_class_free declared_at constant_of calculate compare compare_as_texts connect same_objects same_texts two_of one_of step_test take_integer take_character take_text take_nothing row_of standard_effect default_mode mode_allowed marked type_named result_named mode_named first_of_procedure first_of_class variable_marks array_marks parameter_marks moded_marks specified_marks headed_marks procedure_marks class_marks virtual_name_marks program_marks inner_marks declaring of_segment of_mode_part of_specification of_specifier of_virtual of_heading declared_by declarations_of run_of_runs lookup shown_of_scopes encloser searched block_at_of_scopes declaration_from binding entry_of formals_of formal_of result_of source_of denoted type_at line_at level_of block_of block_around standard_name text_attribute sysin_attribute sysout_attribute signature undeclared program_events of_statement of_branch of_arm of_block of_whole of_class_body of_declaration accessible protects is_kind some_around_of some_around base brought_by level_shows shown_of is_detach ends_search outward virtual_of represented standard_at qualified_marks qualified_result connection_at transfer_at found_at is_attribute qualification class_prefix_marks prefixed_marks prefix_marks standard_marks marks_of_standard standard_prefix standard_texts class_block has_level is_simulation_block some_level_of shows_detach class_formals class_formals_of found_in if_found object_ended pop_object qualifying referring belongs class_at is_in is_of levels levels_of first_along is_this this_block this_of with_entry_at putting_reference own_attribute
q_prefix = record { has = refl; prefix = refl; outer = 0; outer_prefix = 0; around = stands {k = 3} {u = 0} refl refl; around_prefix = refl; solid = refl; declared = refl }

q_prefixed : (k b : ℕ) → base class_in_class.tables k ≡ Some b → PrefixTyped class_in_class k b
unfolding digits element_place making_array copying_array keeping_array finding_element giving_back handed_over stopping no_rule ticking taking entering having when computing choosing popping pop_many pop_plain pop_truth pop_integers pop_operands pop_text answering applying_one applying_two testing_step performing putting_back assigning making_text joining at_level kept_on pushing index level_of_machine cell_at jumping block_at own_block leaving with_result putting put_back is_text home_of first_cells leaving_of_meaning constants_of putting_of_steps back_of_steps text_constants text_constant is_variable stream_of own_result own_match result_meant is_inside text is_class_free declared_at constant_of calculate compare compare_as_texts connect same_objects same_texts two_of one_of step_test take_integer take_character take_text take_nothing row_of standard_effect default_mode mode_allowed marked type_named result_named mode_named first_of_procedure first_of_class variable_marks array_marks parameter_marks moded_marks specified_marks headed_marks procedure_marks class_marks virtual_name_marks program_marks inner_marks declaring of_segment of_mode_part of_specification of_specifier of_virtual of_heading declared_by declarations_of run_of_runs lookup shown_of_scopes encloser searched block_at_of_scopes declaration_from binding entry_of formals_of formal_of result_of source_of denoted type_at line_at level_of block_of block_around standard_name text_attribute sysin_attribute sysout_attribute signature undeclared program_events of_statement of_branch of_arm of_block of_whole of_class_body of_declaration accessible protects is_kind some_around_of some_around base brought_by level_shows shown_of is_detach ends_search outward virtual_of represented standard_at qualified_marks qualified_result connection_at transfer_at found_at is_attribute qualification class_prefix_marks prefixed_marks prefix_marks standard_marks marks_of_standard standard_prefix standard_texts class_block has_level is_simulation_block some_level_of shows_detach class_formals class_formals_of found_in if_found object_ended pop_object qualifying referring belongs class_at is_in is_of levels levels_of first_along is_this this_block this_of with_entry_at putting_reference own_attribute
q_prefixed zero b e = absurd (cc)
q_prefixed (suc zero) b e = absurd (cc)
q_prefixed (suc (suc zero)) b e = absurd (cc)
q_prefixed (suc (suc (suc zero))) b e = let f : 1 ≡ b = cc in subst (PrefixTyped class_in_class 3) f q_prefix
q_prefixed (suc (suc (suc (suc k)))) b e = absurd (cc)

q_apart_from : (k b u : ℕ) (d : DeclNo) → base class_in_class.tables k ≡ Some b → Among d (numbers_of class_in_class u) → Among d (numbers_of class_in_class k) → ⊥
unfolding digits element_place making_array copying_array keeping_array finding_element giving_back handed_over stopping no_rule ticking taking entering having when computing choosing popping pop_many pop_plain pop_truth pop_integers pop_operands pop_text answering applying_one applying_two testing_step performing putting_back assigning making_text joining at_level kept_on pushing index level_of_machine cell_at jumping block_at own_block leaving with_result putting put_back is_text home_of first_cells leaving_of_meaning constants_of putting_of_steps back_of_steps text_constants text_constant is_variable stream_of own_result own_match result_meant is_inside text is_class_free declared_at constant_of calculate compare compare_as_texts connect same_objects same_texts two_of one_of step_test take_integer take_character take_text take_nothing row_of standard_effect default_mode mode_allowed marked type_named result_named mode_named first_of_procedure first_of_class variable_marks array_marks parameter_marks moded_marks specified_marks headed_marks procedure_marks class_marks virtual_name_marks program_marks inner_marks declaring of_segment of_mode_part of_specification of_specifier of_virtual of_heading declared_by declarations_of run_of_runs lookup shown_of_scopes encloser searched block_at_of_scopes declaration_from binding entry_of formals_of formal_of result_of source_of denoted type_at line_at level_of block_of block_around standard_name text_attribute sysin_attribute sysout_attribute signature undeclared program_events of_statement of_branch of_arm of_block of_whole of_class_body of_declaration accessible protects is_kind some_around_of some_around base brought_by level_shows shown_of is_detach ends_search outward virtual_of represented standard_at qualified_marks qualified_result connection_at transfer_at found_at is_attribute qualification class_prefix_marks prefixed_marks prefix_marks standard_marks marks_of_standard standard_prefix standard_texts class_block has_level is_simulation_block some_level_of shows_detach class_formals class_formals_of found_in if_found object_ended pop_object qualifying referring belongs class_at is_in is_of levels levels_of first_along is_this this_block this_of with_entry_at putting_reference own_attribute
q_apart_from zero b u d e a f = absurd (cc)
q_apart_from (suc zero) b u d e a f = absurd (cc)
q_apart_from (suc (suc zero)) b u d e a f = absurd (cc)
q_apart_from (suc (suc (suc zero))) b u d e a f = q_more_none d f
q_apart_from (suc (suc (suc (suc k)))) b u d e a f = absurd (cc)

q_many : length class_in_class.tables.blocks ≡ 4
unfolding digits element_place making_array copying_array keeping_array finding_element giving_back handed_over stopping no_rule ticking taking entering having when computing choosing popping pop_many pop_plain pop_truth pop_integers pop_operands pop_text answering applying_one applying_two testing_step performing putting_back assigning making_text joining at_level kept_on pushing index level_of_machine cell_at jumping block_at own_block leaving with_result putting put_back is_text home_of first_cells leaving_of_meaning constants_of putting_of_steps back_of_steps text_constants text_constant is_variable stream_of own_result own_match result_meant is_inside text is_class_free declared_at constant_of calculate compare compare_as_texts connect same_objects same_texts two_of one_of step_test take_integer take_character take_text take_nothing row_of standard_effect default_mode mode_allowed marked type_named result_named mode_named first_of_procedure first_of_class variable_marks array_marks parameter_marks moded_marks specified_marks headed_marks procedure_marks class_marks virtual_name_marks program_marks inner_marks declaring of_segment of_mode_part of_specification of_specifier of_virtual of_heading declared_by declarations_of run_of_runs lookup shown_of_scopes encloser searched block_at_of_scopes declaration_from binding entry_of formals_of formal_of result_of source_of denoted type_at line_at level_of block_of block_around standard_name text_attribute sysin_attribute sysout_attribute signature undeclared program_events of_statement of_branch of_arm of_block of_whole of_class_body of_declaration accessible protects is_kind some_around_of some_around base brought_by level_shows shown_of is_detach ends_search outward virtual_of represented standard_at qualified_marks qualified_result connection_at transfer_at found_at is_attribute qualification class_prefix_marks prefixed_marks prefix_marks standard_marks marks_of_standard standard_prefix standard_texts class_block has_level is_simulation_block some_level_of shows_detach class_formals class_formals_of found_in if_found object_ended pop_object qualifying referring belongs class_at is_in is_of levels levels_of first_along is_this this_block this_of with_entry_at putting_reference own_attribute
q_many = refl

q_alone : (k : ℕ) → (3 ≡ k → ⊥) → base class_in_class.tables k ≡ None
unfolding digits element_place making_array copying_array keeping_array finding_element giving_back handed_over stopping no_rule ticking taking entering having when computing choosing popping pop_many pop_plain pop_truth pop_integers pop_operands pop_text answering applying_one applying_two testing_step performing putting_back assigning making_text joining at_level kept_on pushing index level_of_machine cell_at jumping block_at own_block leaving with_result putting put_back is_text home_of first_cells leaving_of_meaning constants_of putting_of_steps back_of_steps text_constants text_constant is_variable stream_of own_result own_match result_meant is_inside text is_class_free declared_at constant_of calculate compare compare_as_texts connect same_objects same_texts two_of one_of step_test take_integer take_character take_text take_nothing row_of standard_effect default_mode mode_allowed marked type_named result_named mode_named first_of_procedure first_of_class variable_marks array_marks parameter_marks moded_marks specified_marks headed_marks procedure_marks class_marks virtual_name_marks program_marks inner_marks declaring of_segment of_mode_part of_specification of_specifier of_virtual of_heading declared_by declarations_of run_of_runs lookup shown_of_scopes encloser searched block_at_of_scopes declaration_from binding entry_of formals_of formal_of result_of source_of denoted type_at line_at level_of block_of block_around standard_name text_attribute sysin_attribute sysout_attribute signature undeclared program_events of_statement of_branch of_arm of_block of_whole of_class_body of_declaration accessible protects is_kind some_around_of some_around base brought_by level_shows shown_of is_detach ends_search outward virtual_of represented standard_at qualified_marks qualified_result connection_at transfer_at found_at is_attribute qualification class_prefix_marks prefixed_marks prefix_marks standard_marks marks_of_standard standard_prefix standard_texts class_block has_level is_simulation_block some_level_of shows_detach class_formals class_formals_of found_in if_found object_ended pop_object qualifying referring belongs class_at is_in is_of levels levels_of first_along is_this this_block this_of with_entry_at putting_reference own_attribute
q_alone zero other = refl
q_alone (suc zero) other = refl
q_alone (suc (suc zero)) other = refl
q_alone (suc (suc (suc zero))) other = absurd (other refl)
q_alone (suc (suc (suc (suc k)))) other = refl

q_with_prefix : base class_in_class.tables 3 ≡ Some 1
unfolding digits element_place making_array copying_array keeping_array finding_element giving_back handed_over stopping no_rule ticking taking entering having when computing choosing popping pop_many pop_plain pop_truth pop_integers pop_operands pop_text answering applying_one applying_two testing_step performing putting_back assigning making_text joining at_level kept_on pushing index level_of_machine cell_at jumping block_at own_block leaving with_result putting put_back is_text home_of first_cells leaving_of_meaning constants_of putting_of_steps back_of_steps text_constants text_constant is_variable stream_of own_result own_match result_meant is_inside text is_class_free declared_at constant_of calculate compare compare_as_texts connect same_objects same_texts two_of one_of step_test take_integer take_character take_text take_nothing row_of standard_effect default_mode mode_allowed marked type_named result_named mode_named first_of_procedure first_of_class variable_marks array_marks parameter_marks moded_marks specified_marks headed_marks procedure_marks class_marks virtual_name_marks program_marks inner_marks declaring of_segment of_mode_part of_specification of_specifier of_virtual of_heading declared_by declarations_of run_of_runs lookup shown_of_scopes encloser searched block_at_of_scopes declaration_from binding entry_of formals_of formal_of result_of source_of denoted type_at line_at level_of block_of block_around standard_name text_attribute sysin_attribute sysout_attribute signature undeclared program_events of_statement of_branch of_arm of_block of_whole of_class_body of_declaration accessible protects is_kind some_around_of some_around base brought_by level_shows shown_of is_detach ends_search outward virtual_of represented standard_at qualified_marks qualified_result connection_at transfer_at found_at is_attribute qualification class_prefix_marks prefixed_marks prefix_marks standard_marks marks_of_standard standard_prefix standard_texts class_block has_level is_simulation_block some_level_of shows_detach class_formals class_formals_of found_in if_found object_ended pop_object qualifying referring belongs class_at is_in is_of levels levels_of first_along is_this this_block this_of with_entry_at putting_reference own_attribute
q_with_prefix = refl

q_few : (k : ℕ) → Ends class_in_class.tables 4 k
q_few zero = outermost (q_alone 0 (λ e. cc))
q_few (suc zero) = outermost (q_alone 1 (λ e. cc))
q_few (suc (suc zero)) = outermost (q_alone 2 (λ e. cc))
q_few (suc (suc (suc zero))) = prefixed {b = 1} q_with_prefix (outermost (q_alone 1 (λ e. cc)))
q_few (suc (suc (suc (suc k)))) = outermost (q_alone (suc (suc (suc (suc k)))) (λ e. cc))

q_ends : (k : ℕ) → Ends class_in_class.tables (length class_in_class.tables.blocks) k
q_ends k = subst (λ n. Ends class_in_class.tables n k) (sym q_many) (q_few k)

q_no_set : (k : ℕ) → NoSetText (text class_in_class k)
unfolding digits element_place making_array copying_array keeping_array finding_element giving_back handed_over stopping no_rule ticking taking entering having when computing choosing popping pop_many pop_plain pop_truth pop_integers pop_operands pop_text answering applying_one applying_two testing_step performing putting_back assigning making_text joining at_level kept_on pushing index level_of_machine cell_at jumping block_at own_block leaving with_result putting put_back is_text home_of first_cells leaving_of_meaning constants_of putting_of_steps back_of_steps text_constants text_constant is_variable stream_of own_result own_match result_meant is_inside text is_class_free declared_at constant_of calculate compare compare_as_texts connect same_objects same_texts two_of one_of step_test take_integer take_character take_text take_nothing row_of standard_effect default_mode mode_allowed marked type_named result_named mode_named first_of_procedure first_of_class variable_marks array_marks parameter_marks moded_marks specified_marks headed_marks procedure_marks class_marks virtual_name_marks program_marks inner_marks declaring of_segment of_mode_part of_specification of_specifier of_virtual of_heading declared_by declarations_of run_of_runs lookup shown_of_scopes encloser searched block_at_of_scopes declaration_from binding entry_of formals_of formal_of result_of source_of denoted type_at line_at level_of block_of block_around standard_name text_attribute sysin_attribute sysout_attribute signature undeclared program_events of_statement of_branch of_arm of_block of_whole of_class_body of_declaration accessible protects is_kind some_around_of some_around base brought_by level_shows shown_of is_detach ends_search outward virtual_of represented standard_at qualified_marks qualified_result connection_at transfer_at found_at is_attribute qualification class_prefix_marks prefixed_marks prefix_marks standard_marks marks_of_standard standard_prefix standard_texts class_block has_level is_simulation_block some_level_of shows_detach class_formals class_formals_of found_in if_found object_ended pop_object qualifying referring belongs class_at is_in is_of levels levels_of first_along is_this this_block this_of with_entry_at putting_reference own_attribute
q_no_set zero = tt
q_no_set (suc zero) = tt
q_no_set (suc (suc zero)) = tt
q_no_set (suc (suc (suc zero))) = tt
q_no_set (suc (suc (suc (suc k)))) = tt

q_no_simulation : (k : ℕ) → is_simulation_block class_in_class.tables k ≡ false
unfolding digits element_place making_array copying_array keeping_array finding_element giving_back handed_over stopping no_rule ticking taking entering having when computing choosing popping pop_many pop_plain pop_truth pop_integers pop_operands pop_text answering applying_one applying_two testing_step performing putting_back assigning making_text joining at_level kept_on pushing index level_of_machine cell_at jumping block_at own_block leaving with_result putting put_back is_text home_of first_cells leaving_of_meaning constants_of putting_of_steps back_of_steps text_constants text_constant is_variable stream_of own_result own_match result_meant is_inside text is_class_free declared_at constant_of calculate compare compare_as_texts connect same_objects same_texts two_of one_of step_test take_integer take_character take_text take_nothing row_of standard_effect default_mode mode_allowed marked type_named result_named mode_named first_of_procedure first_of_class variable_marks array_marks parameter_marks moded_marks specified_marks headed_marks procedure_marks class_marks virtual_name_marks program_marks inner_marks declaring of_segment of_mode_part of_specification of_specifier of_virtual of_heading declared_by declarations_of run_of_runs lookup shown_of_scopes encloser searched block_at_of_scopes declaration_from binding entry_of formals_of formal_of result_of source_of denoted type_at line_at level_of block_of block_around standard_name text_attribute sysin_attribute sysout_attribute signature undeclared program_events of_statement of_branch of_arm of_block of_whole of_class_body of_declaration accessible protects is_kind some_around_of some_around base brought_by level_shows shown_of is_detach ends_search outward virtual_of represented standard_at qualified_marks qualified_result connection_at transfer_at found_at is_attribute qualification class_prefix_marks prefixed_marks prefix_marks standard_marks marks_of_standard standard_prefix standard_texts class_block has_level is_simulation_block some_level_of shows_detach class_formals class_formals_of found_in if_found object_ended pop_object qualifying referring belongs class_at is_in is_of levels levels_of first_along is_this this_block this_of with_entry_at putting_reference own_attribute
q_no_simulation zero = refl
q_no_simulation (suc zero) = refl
q_no_simulation (suc (suc zero)) = refl
q_no_simulation (suc (suc (suc zero))) = refl
q_no_simulation (suc (suc (suc (suc k)))) = refl

q_no_attribute : (n : ℕ) → NoSetProcedure (entry_of class_in_class.tables (number n))
unfolding digits element_place making_array copying_array keeping_array finding_element giving_back handed_over stopping no_rule ticking taking entering having when computing choosing popping pop_many pop_plain pop_truth pop_integers pop_operands pop_text answering applying_one applying_two testing_step performing putting_back assigning making_text joining at_level kept_on pushing index level_of_machine cell_at jumping block_at own_block leaving with_result putting put_back is_text home_of first_cells leaving_of_meaning constants_of putting_of_steps back_of_steps text_constants text_constant is_variable stream_of own_result own_match result_meant is_inside text is_class_free declared_at constant_of calculate compare compare_as_texts connect same_objects same_texts two_of one_of step_test take_integer take_character take_text take_nothing row_of standard_effect default_mode mode_allowed marked type_named result_named mode_named first_of_procedure first_of_class variable_marks array_marks parameter_marks moded_marks specified_marks headed_marks procedure_marks class_marks virtual_name_marks program_marks inner_marks declaring of_segment of_mode_part of_specification of_specifier of_virtual of_heading declared_by declarations_of run_of_runs lookup shown_of_scopes encloser searched block_at_of_scopes declaration_from binding entry_of formals_of formal_of result_of source_of denoted type_at line_at level_of block_of block_around standard_name text_attribute sysin_attribute sysout_attribute signature undeclared program_events of_statement of_branch of_arm of_block of_whole of_class_body of_declaration accessible protects is_kind some_around_of some_around base brought_by level_shows shown_of is_detach ends_search outward virtual_of represented standard_at qualified_marks qualified_result connection_at transfer_at found_at is_attribute qualification class_prefix_marks prefixed_marks prefix_marks standard_marks marks_of_standard standard_prefix standard_texts class_block has_level is_simulation_block some_level_of shows_detach class_formals class_formals_of found_in if_found object_ended pop_object qualifying referring belongs class_at is_in is_of levels levels_of first_along is_this this_block this_of with_entry_at putting_reference own_attribute
q_no_attribute zero = tt
q_no_attribute (suc zero) = tt
q_no_attribute (suc (suc zero)) = tt
q_no_attribute (suc (suc (suc zero))) = tt
q_no_attribute (suc (suc (suc (suc zero)))) = tt
q_no_attribute (suc (suc (suc (suc (suc zero))))) = tt
q_no_attribute (suc (suc (suc (suc (suc (suc zero)))))) = tt
q_no_attribute (suc (suc (suc (suc (suc (suc (suc zero))))))) = tt
q_no_attribute (suc (suc (suc (suc (suc (suc (suc (suc n)))))))) = tt

pub q_typed : Typed class_in_class
unfolding digits element_place making_array copying_array keeping_array finding_element giving_back handed_over stopping no_rule ticking taking entering having when computing choosing popping pop_many pop_plain pop_truth pop_integers pop_operands pop_text answering applying_one applying_two testing_step performing putting_back assigning making_text joining at_level kept_on pushing index level_of_machine cell_at jumping block_at own_block leaving with_result putting put_back is_text home_of first_cells leaving_of_meaning constants_of putting_of_steps back_of_steps text_constants text_constant is_variable stream_of own_result own_match result_meant is_inside text is_class_free declared_at constant_of calculate compare compare_as_texts connect same_objects same_texts two_of one_of step_test take_integer take_character take_text take_nothing row_of standard_effect default_mode mode_allowed marked type_named result_named mode_named first_of_procedure first_of_class variable_marks array_marks parameter_marks moded_marks specified_marks headed_marks procedure_marks class_marks virtual_name_marks program_marks inner_marks declaring of_segment of_mode_part of_specification of_specifier of_virtual of_heading declared_by declarations_of run_of_runs lookup shown_of_scopes encloser searched block_at_of_scopes declaration_from binding entry_of formals_of formal_of result_of source_of denoted type_at line_at level_of block_of block_around standard_name text_attribute sysin_attribute sysout_attribute signature undeclared program_events of_statement of_branch of_arm of_block of_whole of_class_body of_declaration accessible protects is_kind some_around_of some_around base brought_by level_shows shown_of is_detach ends_search outward virtual_of represented standard_at qualified_marks qualified_result connection_at transfer_at found_at is_attribute qualification class_prefix_marks prefixed_marks prefix_marks standard_marks marks_of_standard standard_prefix standard_texts class_block has_level is_simulation_block some_level_of shows_detach class_formals class_formals_of found_in if_found object_ended pop_object qualifying referring belongs class_at is_in is_of levels levels_of first_along is_this this_block this_of with_entry_at putting_reference own_attribute
q_typed = record {
  starts = as_block refl;
  some_block = omega arith;
  outermost = refl;
  levels = λ t u solid e. q_levels t u e;
  listed = λ d row h e holds. row_holds class_in_class (slice_get class_in_class.tables.declarations d.0) d row e (q_rows d.0);
  procedures = λ d result k e. q_procedures d.0 result k e;
  classes = λ d k e. q_classes d.0 k e;
  texts = λ k x e. text_holds class_in_class k (text class_in_class k) x e (q_texts k);
  not_class_free = q_free;
  prefixes = record { prefixed_by = λ k b solid e. q_prefixed k b e; ends = λ k solid. q_ends k; apart = λ k b u d solid e level a f. q_apart_from k b u d e a f };
  set_classes = λ k which e. absurd (no_set_text (text class_in_class k) which (q_no_set k) e);
  virtuals = λ v result own e. absurd (no_virtual (entry_of class_in_class.tables v) result own (q_no_attribute v.0) e);
  matches = λ v result own k match e found. absurd (no_virtual (entry_of class_in_class.tables v) result own (q_no_attribute v.0) e);
  set_procedures = λ d name parameter result e named. absurd (no_set_procedure (entry_of class_in_class.tables d) name parameter result (q_no_attribute d.0) e);
  simulations = λ k e. absurd (true_never (is_simulation_block class_in_class.tables k) (q_no_simulation k) e);
  processes = λ c k solid e is. absurd (no_set_text (text class_in_class k) standard.Process (q_no_set k) is);
  simulation_procedures = λ d name parameter result e named. absurd (no_set_procedure (entry_of class_in_class.tables d) name parameter result (q_no_attribute d.0) e);
  bare = λ d row which at is. absurd (no_set_text (text class_in_class row.block) which (q_no_set row.block) is);
  no_set_block = λ k u which class es ds ss e at is. no_set_text (text class_in_class u) which (q_no_set u) is;
}

-- A program with prefixed blocks is typed: a class with a parameter, a procedure and `inner`, and two blocks with it for a prefix, the first of which uses
-- its attributes.
use Rattle.std.proofs.Common.{◌≡◌, ℕ, zero, suc, [], ◌∷◌, false, true, length, Option, Some, None, refl, sym, subst, arith}
use Rattle.std.specs.Prelude.{slice_get}
use Rattle.sim_base.specs.declared.numbering.DeclNo.{DeclNo}
use Rattle.sim_scope.specs.declared.types.StandardClass.TheVariants as standard
use Rattle.sim_scope.specs.declared.types.Entry.TheVariants as entry
use Rattle.sim_scope.specs.declared.types.SimType.{SimType}
use Rattle.sim_values.specs.declared.kind.Kind.TheVariants as kind
use Rattle.sim_meaning.specs.ClassExamples.{prefixed_blocks}
use Rattle.sim_meaning.specs.Entries.{numbers_of}
use Rattle.sim_sound.specs.Held.{Among, ArrayOf, Holds, IsFormal, Seen, Simply, entry_holds, first, further, itself, later}
use Rattle.sim_sound.specs.Typed.{ClassThere, ConstantHas, Ends, PrefixTyped, ProcedureThere, Typed, as_block, outermost, prefixed, stands}
use Rattle.sim_sound.proofs.Examples.{integer_apart, none_named, no_procedures, NoSetProcedure, NoSetText, RowHolds, TextHolds, no_set_procedure, no_set_text, none_among, number, row_holds, text_holds, true_never, no_virtual}
use Rattle.std.specs.Fmt.{digits}
use Rattle.sim_code.specs.Arrays.{element_place, making_array, copying_array, keeping_array, finding_element, giving_back, handed_over}
use Rattle.sim_code.specs.Events.{pop_object, qualifying, referring, stopping, no_rule, ticking, taking, entering, having, when, computing, choosing, popping, pop_many, pop_plain, pop_truth, pop_integers, pop_operands, pop_text, answering, applying_one, applying_two, testing_step, performing, putting_back, assigning, making_text, joining}
use Rattle.sim_code.specs.Instances.{at_level, kept_on, object_ended}
use Rattle.sim_code.specs.Machine.{pushing, index, level as level_of_machine, cell_at, jumping, block_at, own_block, leaving, with_result}
use Rattle.sim_code.specs.Rows.{put_back, putting}
use Rattle.sim_meaning.specs.Attributes.{connection_at, transfer_at, own_attribute}
use Rattle.sim_meaning.specs.Levels.{belongs, class_at, is_in, is_of, levels, levels_of, qualification}
use Rattle.sim_meaning.specs.Closing.{is_attribute, is_text, home_of, is_variable, stream_of, own_result, own_match, result_meant}
use Rattle.sim_meaning.specs.Entries.{first_cells}
use Rattle.sim_meaning.specs.Meaning.{leaving as leaving_of_meaning}
use Rattle.sim_meaning.specs.Constants.{constants_of, text_constant, text_constants}
use Rattle.sim_scope.specs.Calls.{is_inside}
use Rattle.sim_meaning.specs.Steps.{put_back as back_of_steps, putting as putting_of_steps}
use Rattle.sim_meaning.specs.Texts.{standard_texts, text, is_class_free, declared_at, constant_of}
use Rattle.sim_values.specs.Operators.{calculate, compare, compare_as_texts, connect, same_objects, same_texts, two_of, one_of, step_test}
use Rattle.sim_values.specs.Standard.{take_integer, take_character, take_text, take_nothing, row_of, standard_effect}
use Rattle.sim_scope.specs.Building.{default_mode, mode_allowed, marked}
use Rattle.sim_scope.specs.Declare.{class_prefix_marks, prefixed_marks, prefix_marks, standard_marks, marks_of_standard, type_named, result_named, mode_named, first_of_procedure, first_of_class, variable_marks, array_marks, parameter_marks, moded_marks, specified_marks, headed_marks, procedure_marks, class_marks, virtual_name_marks, program_marks, inner_marks, declaring, of_segment, of_mode_part, of_specification, of_specifier, of_virtual, of_heading, declared_by, declarations_of, qualified_marks, qualified_result}
use Rattle.sim_scope.specs.Runs.{run as run_of_runs}
use Rattle.sim_scope.specs.Access.{encloser, block_at as block_at_of_scopes, accessible, protects, is_kind, some_around_of, some_around}
use Rattle.sim_scope.specs.Levels.{base, class_block, has_level, is_simulation_block, some_level_of}
use Rattle.sim_scope.specs.Scopes.{class_formals, shows_detach, class_formals_of, found_in, if_found, lookup, shown as shown_of_scopes, searched, declaration_from, binding, entry_of, formals_of, formal_of, result_of, brought_by, level_shows, shown_of, is_detach, ends_search, outward, virtual_of, represented, standard_at}
use Rattle.sim_scope.specs.Source.{source_of, found_at, denoted, type_at, line_at, level_of, block_of, block_around}
use Rattle.sim_scope.specs.Standard.{standard_prefix, standard_name, text_attribute, sysin_attribute, sysout_attribute, signature, undeclared}
use Rattle.sim_scope.specs.Walk.{program_events, of_statement, of_branch, of_arm, of_block, of_whole, of_class_body, of_declaration}
use Rattle.sim_scope.specs.Along.{first_along}
use Rattle.sim_scope.specs.References.{is_this, this_block, this_of}
use Rattle.sim_scope.specs.Tables.{with_entry_at}
use Rattle.sim_meaning.specs.Objects.{putting_reference}

b_rows : (n : ℕ) → RowHolds prefixed_blocks (slice_get prefixed_blocks.tables.declarations n) (number n)
unfolding digits element_place making_array copying_array keeping_array finding_element giving_back handed_over stopping no_rule ticking taking entering having when computing choosing popping pop_many pop_plain pop_truth pop_integers pop_operands pop_text answering applying_one applying_two testing_step performing putting_back assigning making_text joining at_level kept_on pushing index level_of_machine cell_at jumping block_at own_block leaving with_result putting put_back is_text home_of first_cells leaving_of_meaning constants_of putting_of_steps back_of_steps text_constants text_constant is_variable stream_of own_result own_match result_meant is_inside text is_class_free declared_at constant_of calculate compare compare_as_texts connect same_objects same_texts two_of one_of step_test take_integer take_character take_text take_nothing row_of standard_effect default_mode mode_allowed marked type_named result_named mode_named first_of_procedure first_of_class variable_marks array_marks parameter_marks moded_marks specified_marks headed_marks procedure_marks class_marks virtual_name_marks program_marks inner_marks declaring of_segment of_mode_part of_specification of_specifier of_virtual of_heading declared_by declarations_of run_of_runs lookup shown_of_scopes encloser searched block_at_of_scopes declaration_from binding entry_of formals_of formal_of result_of source_of denoted type_at line_at level_of block_of block_around standard_name text_attribute sysin_attribute sysout_attribute signature undeclared program_events of_statement of_branch of_arm of_block of_whole of_class_body of_declaration accessible protects is_kind some_around_of some_around base brought_by level_shows shown_of is_detach ends_search outward virtual_of represented standard_at qualified_marks qualified_result connection_at transfer_at found_at is_attribute qualification class_prefix_marks prefixed_marks prefix_marks standard_marks marks_of_standard standard_prefix standard_texts class_block has_level is_simulation_block some_level_of shows_detach class_formals class_formals_of found_in if_found object_ended pop_object qualifying referring belongs class_at is_in is_of levels levels_of first_along is_this this_block this_of with_entry_at putting_reference own_attribute
b_rows zero = first
b_rows (suc zero) = first
b_rows (suc (suc zero)) = later first
b_rows (suc (suc (suc zero))) = later (later first)
b_rows (suc (suc (suc (suc zero)))) = first
b_rows (suc (suc (suc (suc (suc zero))))) = later first
b_rows (suc (suc (suc (suc (suc (suc zero)))))) = first
b_rows (suc (suc (suc (suc (suc (suc (suc n))))))) = tt

-- ---- what is seen

b_around_procedure : encloser prefixed_blocks.tables 2 ≡ Some 1
unfolding digits element_place making_array copying_array keeping_array finding_element giving_back handed_over stopping no_rule ticking taking entering having when computing choosing popping pop_many pop_plain pop_truth pop_integers pop_operands pop_text answering applying_one applying_two testing_step performing putting_back assigning making_text joining at_level kept_on pushing index level_of_machine cell_at jumping block_at own_block leaving with_result putting put_back is_text home_of first_cells leaving_of_meaning constants_of putting_of_steps back_of_steps text_constants text_constant is_variable stream_of own_result own_match result_meant is_inside text is_class_free declared_at constant_of calculate compare compare_as_texts connect same_objects same_texts two_of one_of step_test take_integer take_character take_text take_nothing row_of standard_effect default_mode mode_allowed marked type_named result_named mode_named first_of_procedure first_of_class variable_marks array_marks parameter_marks moded_marks specified_marks headed_marks procedure_marks class_marks virtual_name_marks program_marks inner_marks declaring of_segment of_mode_part of_specification of_specifier of_virtual of_heading declared_by declarations_of run_of_runs lookup shown_of_scopes encloser searched block_at_of_scopes declaration_from binding entry_of formals_of formal_of result_of source_of denoted type_at line_at level_of block_of block_around standard_name text_attribute sysin_attribute sysout_attribute signature undeclared program_events of_statement of_branch of_arm of_block of_whole of_class_body of_declaration accessible protects is_kind some_around_of some_around base brought_by level_shows shown_of is_detach ends_search outward virtual_of represented standard_at qualified_marks qualified_result connection_at transfer_at found_at is_attribute qualification class_prefix_marks prefixed_marks prefix_marks standard_marks marks_of_standard standard_prefix standard_texts class_block has_level is_simulation_block some_level_of shows_detach class_formals class_formals_of found_in if_found object_ended pop_object qualifying referring belongs class_at is_in is_of levels levels_of first_along is_this this_block this_of with_entry_at putting_reference own_attribute
b_around_procedure = refl

b_around_block : encloser prefixed_blocks.tables 3 ≡ Some 0
unfolding digits element_place making_array copying_array keeping_array finding_element giving_back handed_over stopping no_rule ticking taking entering having when computing choosing popping pop_many pop_plain pop_truth pop_integers pop_operands pop_text answering applying_one applying_two testing_step performing putting_back assigning making_text joining at_level kept_on pushing index level_of_machine cell_at jumping block_at own_block leaving with_result putting put_back is_text home_of first_cells leaving_of_meaning constants_of putting_of_steps back_of_steps text_constants text_constant is_variable stream_of own_result own_match result_meant is_inside text is_class_free declared_at constant_of calculate compare compare_as_texts connect same_objects same_texts two_of one_of step_test take_integer take_character take_text take_nothing row_of standard_effect default_mode mode_allowed marked type_named result_named mode_named first_of_procedure first_of_class variable_marks array_marks parameter_marks moded_marks specified_marks headed_marks procedure_marks class_marks virtual_name_marks program_marks inner_marks declaring of_segment of_mode_part of_specification of_specifier of_virtual of_heading declared_by declarations_of run_of_runs lookup shown_of_scopes encloser searched block_at_of_scopes declaration_from binding entry_of formals_of formal_of result_of source_of denoted type_at line_at level_of block_of block_around standard_name text_attribute sysin_attribute sysout_attribute signature undeclared program_events of_statement of_branch of_arm of_block of_whole of_class_body of_declaration accessible protects is_kind some_around_of some_around base brought_by level_shows shown_of is_detach ends_search outward virtual_of represented standard_at qualified_marks qualified_result connection_at transfer_at found_at is_attribute qualification class_prefix_marks prefixed_marks prefix_marks standard_marks marks_of_standard standard_prefix standard_texts class_block has_level is_simulation_block some_level_of shows_detach class_formals class_formals_of found_in if_found object_ended pop_object qualifying referring belongs class_at is_in is_of levels levels_of first_along is_this this_block this_of with_entry_at putting_reference own_attribute
b_around_block = refl

b_in_class : Seen prefixed_blocks 1 1
unfolding digits element_place making_array copying_array keeping_array finding_element giving_back handed_over stopping no_rule ticking taking entering having when computing choosing popping pop_many pop_plain pop_truth pop_integers pop_operands pop_text answering applying_one applying_two testing_step performing putting_back assigning making_text joining at_level kept_on pushing index level_of_machine cell_at jumping block_at own_block leaving with_result putting put_back is_text home_of first_cells leaving_of_meaning constants_of putting_of_steps back_of_steps text_constants text_constant is_variable stream_of own_result own_match result_meant is_inside text is_class_free declared_at constant_of calculate compare compare_as_texts connect same_objects same_texts two_of one_of step_test take_integer take_character take_text take_nothing row_of standard_effect default_mode mode_allowed marked type_named result_named mode_named first_of_procedure first_of_class variable_marks array_marks parameter_marks moded_marks specified_marks headed_marks procedure_marks class_marks virtual_name_marks program_marks inner_marks declaring of_segment of_mode_part of_specification of_specifier of_virtual of_heading declared_by declarations_of run_of_runs lookup shown_of_scopes encloser searched block_at_of_scopes declaration_from binding entry_of formals_of formal_of result_of source_of denoted type_at line_at level_of block_of block_around standard_name text_attribute sysin_attribute sysout_attribute signature undeclared program_events of_statement of_branch of_arm of_block of_whole of_class_body of_declaration accessible protects is_kind some_around_of some_around base brought_by level_shows shown_of is_detach ends_search outward virtual_of represented standard_at qualified_marks qualified_result connection_at transfer_at found_at is_attribute qualification class_prefix_marks prefixed_marks prefix_marks standard_marks marks_of_standard standard_prefix standard_texts class_block has_level is_simulation_block some_level_of shows_detach class_formals class_formals_of found_in if_found object_ended pop_object qualifying referring belongs class_at is_in is_of levels levels_of first_along is_this this_block this_of with_entry_at putting_reference own_attribute
b_in_class = record { found = 1; around = itself; instance = refl; level = refl }

b_in_procedure : Seen prefixed_blocks 2 2
unfolding digits element_place making_array copying_array keeping_array finding_element giving_back handed_over stopping no_rule ticking taking entering having when computing choosing popping pop_many pop_plain pop_truth pop_integers pop_operands pop_text answering applying_one applying_two testing_step performing putting_back assigning making_text joining at_level kept_on pushing index level_of_machine cell_at jumping block_at own_block leaving with_result putting put_back is_text home_of first_cells leaving_of_meaning constants_of putting_of_steps back_of_steps text_constants text_constant is_variable stream_of own_result own_match result_meant is_inside text is_class_free declared_at constant_of calculate compare compare_as_texts connect same_objects same_texts two_of one_of step_test take_integer take_character take_text take_nothing row_of standard_effect default_mode mode_allowed marked type_named result_named mode_named first_of_procedure first_of_class variable_marks array_marks parameter_marks moded_marks specified_marks headed_marks procedure_marks class_marks virtual_name_marks program_marks inner_marks declaring of_segment of_mode_part of_specification of_specifier of_virtual of_heading declared_by declarations_of run_of_runs lookup shown_of_scopes encloser searched block_at_of_scopes declaration_from binding entry_of formals_of formal_of result_of source_of denoted type_at line_at level_of block_of block_around standard_name text_attribute sysin_attribute sysout_attribute signature undeclared program_events of_statement of_branch of_arm of_block of_whole of_class_body of_declaration accessible protects is_kind some_around_of some_around base brought_by level_shows shown_of is_detach ends_search outward virtual_of represented standard_at qualified_marks qualified_result connection_at transfer_at found_at is_attribute qualification class_prefix_marks prefixed_marks prefix_marks standard_marks marks_of_standard standard_prefix standard_texts class_block has_level is_simulation_block some_level_of shows_detach class_formals class_formals_of found_in if_found object_ended pop_object qualifying referring belongs class_at is_in is_of levels levels_of first_along is_this this_block this_of with_entry_at putting_reference own_attribute
b_in_procedure = record { found = 2; around = itself; instance = refl; level = refl }

b_from_procedure : Seen prefixed_blocks 2 1
unfolding digits element_place making_array copying_array keeping_array finding_element giving_back handed_over stopping no_rule ticking taking entering having when computing choosing popping pop_many pop_plain pop_truth pop_integers pop_operands pop_text answering applying_one applying_two testing_step performing putting_back assigning making_text joining at_level kept_on pushing index level_of_machine cell_at jumping block_at own_block leaving with_result putting put_back is_text home_of first_cells leaving_of_meaning constants_of putting_of_steps back_of_steps text_constants text_constant is_variable stream_of own_result own_match result_meant is_inside text is_class_free declared_at constant_of calculate compare compare_as_texts connect same_objects same_texts two_of one_of step_test take_integer take_character take_text take_nothing row_of standard_effect default_mode mode_allowed marked type_named result_named mode_named first_of_procedure first_of_class variable_marks array_marks parameter_marks moded_marks specified_marks headed_marks procedure_marks class_marks virtual_name_marks program_marks inner_marks declaring of_segment of_mode_part of_specification of_specifier of_virtual of_heading declared_by declarations_of run_of_runs lookup shown_of_scopes encloser searched block_at_of_scopes declaration_from binding entry_of formals_of formal_of result_of source_of denoted type_at line_at level_of block_of block_around standard_name text_attribute sysin_attribute sysout_attribute signature undeclared program_events of_statement of_branch of_arm of_block of_whole of_class_body of_declaration accessible protects is_kind some_around_of some_around base brought_by level_shows shown_of is_detach ends_search outward virtual_of represented standard_at qualified_marks qualified_result connection_at transfer_at found_at is_attribute qualification class_prefix_marks prefixed_marks prefix_marks standard_marks marks_of_standard standard_prefix standard_texts class_block has_level is_simulation_block some_level_of shows_detach class_formals class_formals_of found_in if_found object_ended pop_object qualifying referring belongs class_at is_in is_of levels levels_of first_along is_this this_block this_of with_entry_at putting_reference own_attribute
b_from_procedure = record { found = 1; around = further {t = 2} {u = 1} b_around_procedure itself; instance = refl; level = refl }

b_in_block : Seen prefixed_blocks 3 3
unfolding digits element_place making_array copying_array keeping_array finding_element giving_back handed_over stopping no_rule ticking taking entering having when computing choosing popping pop_many pop_plain pop_truth pop_integers pop_operands pop_text answering applying_one applying_two testing_step performing putting_back assigning making_text joining at_level kept_on pushing index level_of_machine cell_at jumping block_at own_block leaving with_result putting put_back is_text home_of first_cells leaving_of_meaning constants_of putting_of_steps back_of_steps text_constants text_constant is_variable stream_of own_result own_match result_meant is_inside text is_class_free declared_at constant_of calculate compare compare_as_texts connect same_objects same_texts two_of one_of step_test take_integer take_character take_text take_nothing row_of standard_effect default_mode mode_allowed marked type_named result_named mode_named first_of_procedure first_of_class variable_marks array_marks parameter_marks moded_marks specified_marks headed_marks procedure_marks class_marks virtual_name_marks program_marks inner_marks declaring of_segment of_mode_part of_specification of_specifier of_virtual of_heading declared_by declarations_of run_of_runs lookup shown_of_scopes encloser searched block_at_of_scopes declaration_from binding entry_of formals_of formal_of result_of source_of denoted type_at line_at level_of block_of block_around standard_name text_attribute sysin_attribute sysout_attribute signature undeclared program_events of_statement of_branch of_arm of_block of_whole of_class_body of_declaration accessible protects is_kind some_around_of some_around base brought_by level_shows shown_of is_detach ends_search outward virtual_of represented standard_at qualified_marks qualified_result connection_at transfer_at found_at is_attribute qualification class_prefix_marks prefixed_marks prefix_marks standard_marks marks_of_standard standard_prefix standard_texts class_block has_level is_simulation_block some_level_of shows_detach class_formals class_formals_of found_in if_found object_ended pop_object qualifying referring belongs class_at is_in is_of levels levels_of first_along is_this this_block this_of with_entry_at putting_reference own_attribute
b_in_block = record { found = 3; around = itself; instance = refl; level = refl }

b_outside_block : Seen prefixed_blocks 3 0
unfolding digits element_place making_array copying_array keeping_array finding_element giving_back handed_over stopping no_rule ticking taking entering having when computing choosing popping pop_many pop_plain pop_truth pop_integers pop_operands pop_text answering applying_one applying_two testing_step performing putting_back assigning making_text joining at_level kept_on pushing index level_of_machine cell_at jumping block_at own_block leaving with_result putting put_back is_text home_of first_cells leaving_of_meaning constants_of putting_of_steps back_of_steps text_constants text_constant is_variable stream_of own_result own_match result_meant is_inside text is_class_free declared_at constant_of calculate compare compare_as_texts connect same_objects same_texts two_of one_of step_test take_integer take_character take_text take_nothing row_of standard_effect default_mode mode_allowed marked type_named result_named mode_named first_of_procedure first_of_class variable_marks array_marks parameter_marks moded_marks specified_marks headed_marks procedure_marks class_marks virtual_name_marks program_marks inner_marks declaring of_segment of_mode_part of_specification of_specifier of_virtual of_heading declared_by declarations_of run_of_runs lookup shown_of_scopes encloser searched block_at_of_scopes declaration_from binding entry_of formals_of formal_of result_of source_of denoted type_at line_at level_of block_of block_around standard_name text_attribute sysin_attribute sysout_attribute signature undeclared program_events of_statement of_branch of_arm of_block of_whole of_class_body of_declaration accessible protects is_kind some_around_of some_around base brought_by level_shows shown_of is_detach ends_search outward virtual_of represented standard_at qualified_marks qualified_result connection_at transfer_at found_at is_attribute qualification class_prefix_marks prefixed_marks prefix_marks standard_marks marks_of_standard standard_prefix standard_texts class_block has_level is_simulation_block some_level_of shows_detach class_formals class_formals_of found_in if_found object_ended pop_object qualifying referring belongs class_at is_in is_of levels levels_of first_along is_this this_block this_of with_entry_at putting_reference own_attribute
b_outside_block = record { found = 0; around = further {t = 3} {u = 0} b_around_block itself; instance = refl; level = refl }

-- what the prefix declares, from inside the block
b_in_prefix : Seen prefixed_blocks 3 1
unfolding digits element_place making_array copying_array keeping_array finding_element giving_back handed_over stopping no_rule ticking taking entering having when computing choosing popping pop_many pop_plain pop_truth pop_integers pop_operands pop_text answering applying_one applying_two testing_step performing putting_back assigning making_text joining at_level kept_on pushing index level_of_machine cell_at jumping block_at own_block leaving with_result putting put_back is_text home_of first_cells leaving_of_meaning constants_of putting_of_steps back_of_steps text_constants text_constant is_variable stream_of own_result own_match result_meant is_inside text is_class_free declared_at constant_of calculate compare compare_as_texts connect same_objects same_texts two_of one_of step_test take_integer take_character take_text take_nothing row_of standard_effect default_mode mode_allowed marked type_named result_named mode_named first_of_procedure first_of_class variable_marks array_marks parameter_marks moded_marks specified_marks headed_marks procedure_marks class_marks virtual_name_marks program_marks inner_marks declaring of_segment of_mode_part of_specification of_specifier of_virtual of_heading declared_by declarations_of run_of_runs lookup shown_of_scopes encloser searched block_at_of_scopes declaration_from binding entry_of formals_of formal_of result_of source_of denoted type_at line_at level_of block_of block_around standard_name text_attribute sysin_attribute sysout_attribute signature undeclared program_events of_statement of_branch of_arm of_block of_whole of_class_body of_declaration accessible protects is_kind some_around_of some_around base brought_by level_shows shown_of is_detach ends_search outward virtual_of represented standard_at qualified_marks qualified_result connection_at transfer_at found_at is_attribute qualification class_prefix_marks prefixed_marks prefix_marks standard_marks marks_of_standard standard_prefix standard_texts class_block has_level is_simulation_block some_level_of shows_detach class_formals class_formals_of found_in if_found object_ended pop_object qualifying referring belongs class_at is_in is_of levels levels_of first_along is_this this_block this_of with_entry_at putting_reference own_attribute
b_in_prefix = record { found = 3; around = itself; instance = refl; level = refl }

-- ---- the program

b_made : (d : DeclNo) (k : Holds) → Among d (numbers_of prefixed_blocks 0) → entry_holds prefixed_blocks false (entry_of prefixed_blocks.tables d) ≡ Some (ArrayOf k) → Among d []
unfolding digits element_place making_array copying_array keeping_array finding_element giving_back handed_over stopping no_rule ticking taking entering having when computing choosing popping pop_many pop_plain pop_truth pop_integers pop_operands pop_text answering applying_one applying_two testing_step performing putting_back assigning making_text joining at_level kept_on pushing index level_of_machine cell_at jumping block_at own_block leaving with_result putting put_back is_text home_of first_cells leaving_of_meaning constants_of putting_of_steps back_of_steps text_constants text_constant is_variable stream_of own_result own_match result_meant is_inside text is_class_free declared_at constant_of calculate compare compare_as_texts connect same_objects same_texts two_of one_of step_test take_integer take_character take_text take_nothing row_of standard_effect default_mode mode_allowed marked type_named result_named mode_named first_of_procedure first_of_class variable_marks array_marks parameter_marks moded_marks specified_marks headed_marks procedure_marks class_marks virtual_name_marks program_marks inner_marks declaring of_segment of_mode_part of_specification of_specifier of_virtual of_heading declared_by declarations_of run_of_runs lookup shown_of_scopes encloser searched block_at_of_scopes declaration_from binding entry_of formals_of formal_of result_of source_of denoted type_at line_at level_of block_of block_around standard_name text_attribute sysin_attribute sysout_attribute signature undeclared program_events of_statement of_branch of_arm of_block of_whole of_class_body of_declaration accessible protects is_kind some_around_of some_around base brought_by level_shows shown_of is_detach ends_search outward virtual_of represented standard_at qualified_marks qualified_result connection_at transfer_at found_at is_attribute qualification class_prefix_marks prefixed_marks prefix_marks standard_marks marks_of_standard standard_prefix standard_texts class_block has_level is_simulation_block some_level_of shows_detach class_formals class_formals_of found_in if_found object_ended pop_object qualifying referring belongs class_at is_in is_of levels levels_of first_along is_this this_block this_of with_entry_at putting_reference own_attribute
b_made d k first e = absurd (cc)
b_made d k (later first) e = absurd (cc)
b_made d k (later (later a)) e = a

b_program : TextHolds prefixed_blocks 0 (text prefixed_blocks 0)
unfolding digits element_place making_array copying_array keeping_array finding_element giving_back handed_over stopping no_rule ticking taking entering having when computing choosing popping pop_many pop_plain pop_truth pop_integers pop_operands pop_text answering applying_one applying_two testing_step performing putting_back assigning making_text joining at_level kept_on pushing index level_of_machine cell_at jumping block_at own_block leaving with_result putting put_back is_text home_of first_cells leaving_of_meaning constants_of putting_of_steps back_of_steps text_constants text_constant is_variable stream_of own_result own_match result_meant is_inside text is_class_free declared_at constant_of calculate compare compare_as_texts connect same_objects same_texts two_of one_of step_test take_integer take_character take_text take_nothing row_of standard_effect default_mode mode_allowed marked type_named result_named mode_named first_of_procedure first_of_class variable_marks array_marks parameter_marks moded_marks specified_marks headed_marks procedure_marks class_marks virtual_name_marks program_marks inner_marks declaring of_segment of_mode_part of_specification of_specifier of_virtual of_heading declared_by declarations_of run_of_runs lookup shown_of_scopes encloser searched block_at_of_scopes declaration_from binding entry_of formals_of formal_of result_of source_of denoted type_at line_at level_of block_of block_around standard_name text_attribute sysin_attribute sysout_attribute signature undeclared program_events of_statement of_branch of_arm of_block of_whole of_class_body of_declaration accessible protects is_kind some_around_of some_around base brought_by level_shows shown_of is_detach ends_search outward virtual_of represented standard_at qualified_marks qualified_result connection_at transfer_at found_at is_attribute qualification class_prefix_marks prefixed_marks prefix_marks standard_marks marks_of_standard standard_prefix standard_texts class_block has_level is_simulation_block some_level_of shows_detach class_formals class_formals_of found_in if_found object_ended pop_object qualifying referring belongs class_at is_in is_of levels levels_of first_along is_this this_block this_of with_entry_at putting_reference own_attribute
b_program = record {
  no_formals = (tt, (tt, tt));
  arrays = tt;
  distinct = tt;
  made = b_made;
  own = λ d a. absurd (none_among d a);
  statements = (
    record { number = 3; around = refl; stands_in = refl; class = _; arguments = _; declarations = _; statements = _; is = refl; actuals = (refl, tt) },
    (record { number = 4; around = refl; stands_in = refl; class = _; arguments = _; declarations = _; statements = _; is = refl; actuals = (refl, tt) }, ((None, (((refl, refl, refl), refl), tt), refl), tt)),
  );
}

-- ---- the class

b_parameters : (d : DeclNo) → Among d (numbers_of prefixed_blocks 1) → IsFormal (entry_of prefixed_blocks.tables d) → Among d (class_formals prefixed_blocks.tables 1)
unfolding digits element_place making_array copying_array keeping_array finding_element giving_back handed_over stopping no_rule ticking taking entering having when computing choosing popping pop_many pop_plain pop_truth pop_integers pop_operands pop_text answering applying_one applying_two testing_step performing putting_back assigning making_text joining at_level kept_on pushing index level_of_machine cell_at jumping block_at own_block leaving with_result putting put_back is_text home_of first_cells leaving_of_meaning constants_of putting_of_steps back_of_steps text_constants text_constant is_variable stream_of own_result own_match result_meant is_inside text is_class_free declared_at constant_of calculate compare compare_as_texts connect same_objects same_texts two_of one_of step_test take_integer take_character take_text take_nothing row_of standard_effect default_mode mode_allowed marked type_named result_named mode_named first_of_procedure first_of_class variable_marks array_marks parameter_marks moded_marks specified_marks headed_marks procedure_marks class_marks virtual_name_marks program_marks inner_marks declaring of_segment of_mode_part of_specification of_specifier of_virtual of_heading declared_by declarations_of run_of_runs lookup shown_of_scopes encloser searched block_at_of_scopes declaration_from binding entry_of formals_of formal_of result_of source_of denoted type_at line_at level_of block_of block_around standard_name text_attribute sysin_attribute sysout_attribute signature undeclared program_events of_statement of_branch of_arm of_block of_whole of_class_body of_declaration accessible protects is_kind some_around_of some_around base brought_by level_shows shown_of is_detach ends_search outward virtual_of represented standard_at qualified_marks qualified_result connection_at transfer_at found_at is_attribute qualification class_prefix_marks prefixed_marks prefix_marks standard_marks marks_of_standard standard_prefix standard_texts class_block has_level is_simulation_block some_level_of shows_detach class_formals class_formals_of found_in if_found object_ended pop_object qualifying referring belongs class_at is_in is_of levels levels_of first_along is_this this_block this_of with_entry_at putting_reference own_attribute
b_parameters d first f = first
b_parameters d (later first) f = absurd f
b_parameters d (later (later first)) f = absurd f
b_parameters d (later (later (later a))) f = absurd (none_among d a)

b_constants : (d : DeclNo) (type : SimType) → Among d (numbers_of prefixed_blocks 1) → entry_of prefixed_blocks.tables d ≡ Some (entry.Constant type) → ConstantHas prefixed_blocks d type
unfolding digits element_place making_array copying_array keeping_array finding_element giving_back handed_over stopping no_rule ticking taking entering having when computing choosing popping pop_many pop_plain pop_truth pop_integers pop_operands pop_text answering applying_one applying_two testing_step performing putting_back assigning making_text joining at_level kept_on pushing index level_of_machine cell_at jumping block_at own_block leaving with_result putting put_back is_text home_of first_cells leaving_of_meaning constants_of putting_of_steps back_of_steps text_constants text_constant is_variable stream_of own_result own_match result_meant is_inside text is_class_free declared_at constant_of calculate compare compare_as_texts connect same_objects same_texts two_of one_of step_test take_integer take_character take_text take_nothing row_of standard_effect default_mode mode_allowed marked type_named result_named mode_named first_of_procedure first_of_class variable_marks array_marks parameter_marks moded_marks specified_marks headed_marks procedure_marks class_marks virtual_name_marks program_marks inner_marks declaring of_segment of_mode_part of_specification of_specifier of_virtual of_heading declared_by declarations_of run_of_runs lookup shown_of_scopes encloser searched block_at_of_scopes declaration_from binding entry_of formals_of formal_of result_of source_of denoted type_at line_at level_of block_of block_around standard_name text_attribute sysin_attribute sysout_attribute signature undeclared program_events of_statement of_branch of_arm of_block of_whole of_class_body of_declaration accessible protects is_kind some_around_of some_around base brought_by level_shows shown_of is_detach ends_search outward virtual_of represented standard_at qualified_marks qualified_result connection_at transfer_at found_at is_attribute qualification class_prefix_marks prefixed_marks prefix_marks standard_marks marks_of_standard standard_prefix standard_texts class_block has_level is_simulation_block some_level_of shows_detach class_formals class_formals_of found_in if_found object_ended pop_object qualifying referring belongs class_at is_in is_of levels levels_of first_along is_this this_block this_of with_entry_at putting_reference own_attribute
b_constants d type first e = absurd (cc)
b_constants d type (later first) e = absurd (cc)
b_constants d type (later (later first)) e = absurd (cc)
b_constants d type (later (later (later a))) e = absurd (none_among d a)

b_arrays : (d : DeclNo) (element : SimType) (dimensions : ℕ) → Among d (numbers_of prefixed_blocks 1) → entry_of prefixed_blocks.tables d ≡ Some (entry.Array element dimensions) → Among d []
unfolding digits element_place making_array copying_array keeping_array finding_element giving_back handed_over stopping no_rule ticking taking entering having when computing choosing popping pop_many pop_plain pop_truth pop_integers pop_operands pop_text answering applying_one applying_two testing_step performing putting_back assigning making_text joining at_level kept_on pushing index level_of_machine cell_at jumping block_at own_block leaving with_result putting put_back is_text home_of first_cells leaving_of_meaning constants_of putting_of_steps back_of_steps text_constants text_constant is_variable stream_of own_result own_match result_meant is_inside text is_class_free declared_at constant_of calculate compare compare_as_texts connect same_objects same_texts two_of one_of step_test take_integer take_character take_text take_nothing row_of standard_effect default_mode mode_allowed marked type_named result_named mode_named first_of_procedure first_of_class variable_marks array_marks parameter_marks moded_marks specified_marks headed_marks procedure_marks class_marks virtual_name_marks program_marks inner_marks declaring of_segment of_mode_part of_specification of_specifier of_virtual of_heading declared_by declarations_of run_of_runs lookup shown_of_scopes encloser searched block_at_of_scopes declaration_from binding entry_of formals_of formal_of result_of source_of denoted type_at line_at level_of block_of block_around standard_name text_attribute sysin_attribute sysout_attribute signature undeclared program_events of_statement of_branch of_arm of_block of_whole of_class_body of_declaration accessible protects is_kind some_around_of some_around base brought_by level_shows shown_of is_detach ends_search outward virtual_of represented standard_at qualified_marks qualified_result connection_at transfer_at found_at is_attribute qualification class_prefix_marks prefixed_marks prefix_marks standard_marks marks_of_standard standard_prefix standard_texts class_block has_level is_simulation_block some_level_of shows_detach class_formals class_formals_of found_in if_found object_ended pop_object qualifying referring belongs class_at is_in is_of levels levels_of first_along is_this this_block this_of with_entry_at putting_reference own_attribute
b_arrays d element dimensions first e = absurd (cc)
b_arrays d element dimensions (later first) e = absurd (cc)
b_arrays d element dimensions (later (later first)) e = absurd (cc)
b_arrays d element dimensions (later (later (later a))) e = absurd (none_among d a)

b_apart_two : Among (number 1) (number 2 ∷ number 3 ∷ []) → ⊥
unfolding digits element_place making_array copying_array keeping_array finding_element giving_back handed_over stopping no_rule ticking taking entering having when computing choosing popping pop_many pop_plain pop_truth pop_integers pop_operands pop_text answering applying_one applying_two testing_step performing putting_back assigning making_text joining at_level kept_on pushing index level_of_machine cell_at jumping block_at own_block leaving with_result putting put_back is_text home_of first_cells leaving_of_meaning constants_of putting_of_steps back_of_steps text_constants text_constant is_variable stream_of own_result own_match result_meant is_inside text is_class_free declared_at constant_of calculate compare compare_as_texts connect same_objects same_texts two_of one_of step_test take_integer take_character take_text take_nothing row_of standard_effect default_mode mode_allowed marked type_named result_named mode_named first_of_procedure first_of_class variable_marks array_marks parameter_marks moded_marks specified_marks headed_marks procedure_marks class_marks virtual_name_marks program_marks inner_marks declaring of_segment of_mode_part of_specification of_specifier of_virtual of_heading declared_by declarations_of run_of_runs lookup shown_of_scopes encloser searched block_at_of_scopes declaration_from binding entry_of formals_of formal_of result_of source_of denoted type_at line_at level_of block_of block_around standard_name text_attribute sysin_attribute sysout_attribute signature undeclared program_events of_statement of_branch of_arm of_block of_whole of_class_body of_declaration accessible protects is_kind some_around_of some_around base brought_by level_shows shown_of is_detach ends_search outward virtual_of represented standard_at qualified_marks qualified_result connection_at transfer_at found_at is_attribute qualification class_prefix_marks prefixed_marks prefix_marks standard_marks marks_of_standard standard_prefix standard_texts class_block has_level is_simulation_block some_level_of shows_detach class_formals class_formals_of found_in if_found object_ended pop_object qualifying referring belongs class_at is_in is_of levels levels_of first_along is_this this_block this_of with_entry_at putting_reference own_attribute
b_apart_two (later (later a)) = none_among (number 1) a

b_apart_one : Among (number 2) (number 3 ∷ []) → ⊥
unfolding digits element_place making_array copying_array keeping_array finding_element giving_back handed_over stopping no_rule ticking taking entering having when computing choosing popping pop_many pop_plain pop_truth pop_integers pop_operands pop_text answering applying_one applying_two testing_step performing putting_back assigning making_text joining at_level kept_on pushing index level_of_machine cell_at jumping block_at own_block leaving with_result putting put_back is_text home_of first_cells leaving_of_meaning constants_of putting_of_steps back_of_steps text_constants text_constant is_variable stream_of own_result own_match result_meant is_inside text is_class_free declared_at constant_of calculate compare compare_as_texts connect same_objects same_texts two_of one_of step_test take_integer take_character take_text take_nothing row_of standard_effect default_mode mode_allowed marked type_named result_named mode_named first_of_procedure first_of_class variable_marks array_marks parameter_marks moded_marks specified_marks headed_marks procedure_marks class_marks virtual_name_marks program_marks inner_marks declaring of_segment of_mode_part of_specification of_specifier of_virtual of_heading declared_by declarations_of run_of_runs lookup shown_of_scopes encloser searched block_at_of_scopes declaration_from binding entry_of formals_of formal_of result_of source_of denoted type_at line_at level_of block_of block_around standard_name text_attribute sysin_attribute sysout_attribute signature undeclared program_events of_statement of_branch of_arm of_block of_whole of_class_body of_declaration accessible protects is_kind some_around_of some_around base brought_by level_shows shown_of is_detach ends_search outward virtual_of represented standard_at qualified_marks qualified_result connection_at transfer_at found_at is_attribute qualification class_prefix_marks prefixed_marks prefix_marks standard_marks marks_of_standard standard_prefix standard_texts class_block has_level is_simulation_block some_level_of shows_detach class_formals class_formals_of found_in if_found object_ended pop_object qualifying referring belongs class_at is_in is_of levels levels_of first_along is_this this_block this_of with_entry_at putting_reference own_attribute
b_apart_one (later a) = none_among (number 2) a

b_class : TextHolds prefixed_blocks 1 (text prefixed_blocks 1)
unfolding digits element_place making_array copying_array keeping_array finding_element giving_back handed_over stopping no_rule ticking taking entering having when computing choosing popping pop_many pop_plain pop_truth pop_integers pop_operands pop_text answering applying_one applying_two testing_step performing putting_back assigning making_text joining at_level kept_on pushing index level_of_machine cell_at jumping block_at own_block leaving with_result putting put_back is_text home_of first_cells leaving_of_meaning constants_of putting_of_steps back_of_steps text_constants text_constant is_variable stream_of own_result own_match result_meant is_inside text is_class_free declared_at constant_of calculate compare compare_as_texts connect same_objects same_texts two_of one_of step_test take_integer take_character take_text take_nothing row_of standard_effect default_mode mode_allowed marked type_named result_named mode_named first_of_procedure first_of_class variable_marks array_marks parameter_marks moded_marks specified_marks headed_marks procedure_marks class_marks virtual_name_marks program_marks inner_marks declaring of_segment of_mode_part of_specification of_specifier of_virtual of_heading declared_by declarations_of run_of_runs lookup shown_of_scopes encloser searched block_at_of_scopes declaration_from binding entry_of formals_of formal_of result_of source_of denoted type_at line_at level_of block_of block_around standard_name text_attribute sysin_attribute sysout_attribute signature undeclared program_events of_statement of_branch of_arm of_block of_whole of_class_body of_declaration accessible protects is_kind some_around_of some_around base brought_by level_shows shown_of is_detach ends_search outward virtual_of represented standard_at qualified_marks qualified_result connection_at transfer_at found_at is_attribute qualification class_prefix_marks prefixed_marks prefix_marks standard_marks marks_of_standard standard_prefix standard_texts class_block has_level is_simulation_block some_level_of shows_detach class_formals class_formals_of found_in if_found object_ended pop_object qualifying referring belongs class_at is_in is_of levels levels_of first_along is_this this_block this_of with_entry_at putting_reference own_attribute
b_class = record {
  formals = (Simply kind.Integer, refl, refl, tt);
  parameters = b_parameters;
  different = (b_apart_two, (b_apart_one, ((λ a. none_among (number 3) a), tt)));
  not_by_name = λ d k a e. none_named prefixed_blocks d k (numbers_of prefixed_blocks 1) (tt, (tt, (tt, tt))) a e;
  no_procedure = λ d r a e. no_procedures prefixed_blocks d r (numbers_of prefixed_blocks 1) (tt, (tt, (tt, tt))) a e;
  constants = b_constants;
  arrays = tt;
  distinct = tt;
  made = b_arrays;
  own = λ d a. absurd (none_among d a);
  statements = ((kind.Integer, ((integer_apart, (refl, b_in_class)), tt), (refl, b_in_class)), ((refl, refl), ((None, (((refl, refl, refl), refl), ((refl, b_in_class), (refl, tt))), refl), tt)));
  stays = refl;
}

b_procedure : TextHolds prefixed_blocks 2 (text prefixed_blocks 2)
unfolding digits element_place making_array copying_array keeping_array finding_element giving_back handed_over stopping no_rule ticking taking entering having when computing choosing popping pop_many pop_plain pop_truth pop_integers pop_operands pop_text answering applying_one applying_two testing_step performing putting_back assigning making_text joining at_level kept_on pushing index level_of_machine cell_at jumping block_at own_block leaving with_result putting put_back is_text home_of first_cells leaving_of_meaning constants_of putting_of_steps back_of_steps text_constants text_constant is_variable stream_of own_result own_match result_meant is_inside text is_class_free declared_at constant_of calculate compare compare_as_texts connect same_objects same_texts two_of one_of step_test take_integer take_character take_text take_nothing row_of standard_effect default_mode mode_allowed marked type_named result_named mode_named first_of_procedure first_of_class variable_marks array_marks parameter_marks moded_marks specified_marks headed_marks procedure_marks class_marks virtual_name_marks program_marks inner_marks declaring of_segment of_mode_part of_specification of_specifier of_virtual of_heading declared_by declarations_of run_of_runs lookup shown_of_scopes encloser searched block_at_of_scopes declaration_from binding entry_of formals_of formal_of result_of source_of denoted type_at line_at level_of block_of block_around standard_name text_attribute sysin_attribute sysout_attribute signature undeclared program_events of_statement of_branch of_arm of_block of_whole of_class_body of_declaration accessible protects is_kind some_around_of some_around base brought_by level_shows shown_of is_detach ends_search outward virtual_of represented standard_at qualified_marks qualified_result connection_at transfer_at found_at is_attribute qualification class_prefix_marks prefixed_marks prefix_marks standard_marks marks_of_standard standard_prefix standard_texts class_block has_level is_simulation_block some_level_of shows_detach class_formals class_formals_of found_in if_found object_ended pop_object qualifying referring belongs class_at is_in is_of levels levels_of first_along is_this this_block this_of with_entry_at putting_reference own_attribute
b_procedure = record { result = tt; formals = (Simply kind.Integer, refl, refl, tt); near = λ around e. (tt, tt); body = (kind.Integer, ((integer_apart, (refl, b_from_procedure)), tt), (kind.Integer, kind.Integer, (refl, refl), refl, (refl, b_from_procedure), (refl, b_in_procedure))) }

-- ---- the prefixed blocks

b_no_parameters : (d : DeclNo) → Among d (numbers_of prefixed_blocks 3) → IsFormal (entry_of prefixed_blocks.tables d) → Among d (class_formals prefixed_blocks.tables 3)
unfolding digits element_place making_array copying_array keeping_array finding_element giving_back handed_over stopping no_rule ticking taking entering having when computing choosing popping pop_many pop_plain pop_truth pop_integers pop_operands pop_text answering applying_one applying_two testing_step performing putting_back assigning making_text joining at_level kept_on pushing index level_of_machine cell_at jumping block_at own_block leaving with_result putting put_back is_text home_of first_cells leaving_of_meaning constants_of putting_of_steps back_of_steps text_constants text_constant is_variable stream_of own_result own_match result_meant is_inside text is_class_free declared_at constant_of calculate compare compare_as_texts connect same_objects same_texts two_of one_of step_test take_integer take_character take_text take_nothing row_of standard_effect default_mode mode_allowed marked type_named result_named mode_named first_of_procedure first_of_class variable_marks array_marks parameter_marks moded_marks specified_marks headed_marks procedure_marks class_marks virtual_name_marks program_marks inner_marks declaring of_segment of_mode_part of_specification of_specifier of_virtual of_heading declared_by declarations_of run_of_runs lookup shown_of_scopes encloser searched block_at_of_scopes declaration_from binding entry_of formals_of formal_of result_of source_of denoted type_at line_at level_of block_of block_around standard_name text_attribute sysin_attribute sysout_attribute signature undeclared program_events of_statement of_branch of_arm of_block of_whole of_class_body of_declaration accessible protects is_kind some_around_of some_around base brought_by level_shows shown_of is_detach ends_search outward virtual_of represented standard_at qualified_marks qualified_result connection_at transfer_at found_at is_attribute qualification class_prefix_marks prefixed_marks prefix_marks standard_marks marks_of_standard standard_prefix standard_texts class_block has_level is_simulation_block some_level_of shows_detach class_formals class_formals_of found_in if_found object_ended pop_object qualifying referring belongs class_at is_in is_of levels levels_of first_along is_this this_block this_of with_entry_at putting_reference own_attribute
b_no_parameters d first f = absurd f
b_no_parameters d (later a) f = absurd (none_among d a)

b_no_constants : (d : DeclNo) (type : SimType) → Among d (numbers_of prefixed_blocks 3) → entry_of prefixed_blocks.tables d ≡ Some (entry.Constant type) → ConstantHas prefixed_blocks d type
unfolding digits element_place making_array copying_array keeping_array finding_element giving_back handed_over stopping no_rule ticking taking entering having when computing choosing popping pop_many pop_plain pop_truth pop_integers pop_operands pop_text answering applying_one applying_two testing_step performing putting_back assigning making_text joining at_level kept_on pushing index level_of_machine cell_at jumping block_at own_block leaving with_result putting put_back is_text home_of first_cells leaving_of_meaning constants_of putting_of_steps back_of_steps text_constants text_constant is_variable stream_of own_result own_match result_meant is_inside text is_class_free declared_at constant_of calculate compare compare_as_texts connect same_objects same_texts two_of one_of step_test take_integer take_character take_text take_nothing row_of standard_effect default_mode mode_allowed marked type_named result_named mode_named first_of_procedure first_of_class variable_marks array_marks parameter_marks moded_marks specified_marks headed_marks procedure_marks class_marks virtual_name_marks program_marks inner_marks declaring of_segment of_mode_part of_specification of_specifier of_virtual of_heading declared_by declarations_of run_of_runs lookup shown_of_scopes encloser searched block_at_of_scopes declaration_from binding entry_of formals_of formal_of result_of source_of denoted type_at line_at level_of block_of block_around standard_name text_attribute sysin_attribute sysout_attribute signature undeclared program_events of_statement of_branch of_arm of_block of_whole of_class_body of_declaration accessible protects is_kind some_around_of some_around base brought_by level_shows shown_of is_detach ends_search outward virtual_of represented standard_at qualified_marks qualified_result connection_at transfer_at found_at is_attribute qualification class_prefix_marks prefixed_marks prefix_marks standard_marks marks_of_standard standard_prefix standard_texts class_block has_level is_simulation_block some_level_of shows_detach class_formals class_formals_of found_in if_found object_ended pop_object qualifying referring belongs class_at is_in is_of levels levels_of first_along is_this this_block this_of with_entry_at putting_reference own_attribute
b_no_constants d type first e = absurd (cc)
b_no_constants d type (later a) e = absurd (none_among d a)

b_no_arrays : (d : DeclNo) (element : SimType) (dimensions : ℕ) → Among d (numbers_of prefixed_blocks 3) → entry_of prefixed_blocks.tables d ≡ Some (entry.Array element dimensions) → Among d []
unfolding digits element_place making_array copying_array keeping_array finding_element giving_back handed_over stopping no_rule ticking taking entering having when computing choosing popping pop_many pop_plain pop_truth pop_integers pop_operands pop_text answering applying_one applying_two testing_step performing putting_back assigning making_text joining at_level kept_on pushing index level_of_machine cell_at jumping block_at own_block leaving with_result putting put_back is_text home_of first_cells leaving_of_meaning constants_of putting_of_steps back_of_steps text_constants text_constant is_variable stream_of own_result own_match result_meant is_inside text is_class_free declared_at constant_of calculate compare compare_as_texts connect same_objects same_texts two_of one_of step_test take_integer take_character take_text take_nothing row_of standard_effect default_mode mode_allowed marked type_named result_named mode_named first_of_procedure first_of_class variable_marks array_marks parameter_marks moded_marks specified_marks headed_marks procedure_marks class_marks virtual_name_marks program_marks inner_marks declaring of_segment of_mode_part of_specification of_specifier of_virtual of_heading declared_by declarations_of run_of_runs lookup shown_of_scopes encloser searched block_at_of_scopes declaration_from binding entry_of formals_of formal_of result_of source_of denoted type_at line_at level_of block_of block_around standard_name text_attribute sysin_attribute sysout_attribute signature undeclared program_events of_statement of_branch of_arm of_block of_whole of_class_body of_declaration accessible protects is_kind some_around_of some_around base brought_by level_shows shown_of is_detach ends_search outward virtual_of represented standard_at qualified_marks qualified_result connection_at transfer_at found_at is_attribute qualification class_prefix_marks prefixed_marks prefix_marks standard_marks marks_of_standard standard_prefix standard_texts class_block has_level is_simulation_block some_level_of shows_detach class_formals class_formals_of found_in if_found object_ended pop_object qualifying referring belongs class_at is_in is_of levels levels_of first_along is_this this_block this_of with_entry_at putting_reference own_attribute
b_no_arrays d element dimensions first e = absurd (cc)
b_no_arrays d element dimensions (later a) e = absurd (none_among d a)

b_block : TextHolds prefixed_blocks 3 (text prefixed_blocks 3)
unfolding digits element_place making_array copying_array keeping_array finding_element giving_back handed_over stopping no_rule ticking taking entering having when computing choosing popping pop_many pop_plain pop_truth pop_integers pop_operands pop_text answering applying_one applying_two testing_step performing putting_back assigning making_text joining at_level kept_on pushing index level_of_machine cell_at jumping block_at own_block leaving with_result putting put_back is_text home_of first_cells leaving_of_meaning constants_of putting_of_steps back_of_steps text_constants text_constant is_variable stream_of own_result own_match result_meant is_inside text is_class_free declared_at constant_of calculate compare compare_as_texts connect same_objects same_texts two_of one_of step_test take_integer take_character take_text take_nothing row_of standard_effect default_mode mode_allowed marked type_named result_named mode_named first_of_procedure first_of_class variable_marks array_marks parameter_marks moded_marks specified_marks headed_marks procedure_marks class_marks virtual_name_marks program_marks inner_marks declaring of_segment of_mode_part of_specification of_specifier of_virtual of_heading declared_by declarations_of run_of_runs lookup shown_of_scopes encloser searched block_at_of_scopes declaration_from binding entry_of formals_of formal_of result_of source_of denoted type_at line_at level_of block_of block_around standard_name text_attribute sysin_attribute sysout_attribute signature undeclared program_events of_statement of_branch of_arm of_block of_whole of_class_body of_declaration accessible protects is_kind some_around_of some_around base brought_by level_shows shown_of is_detach ends_search outward virtual_of represented standard_at qualified_marks qualified_result connection_at transfer_at found_at is_attribute qualification class_prefix_marks prefixed_marks prefix_marks standard_marks marks_of_standard standard_prefix standard_texts class_block has_level is_simulation_block some_level_of shows_detach class_formals class_formals_of found_in if_found object_ended pop_object qualifying referring belongs class_at is_in is_of levels levels_of first_along is_this this_block this_of with_entry_at putting_reference own_attribute
b_block = record {
  formals = (Simply kind.Integer, refl, refl, tt);
  parameters = b_no_parameters;
  different = ((λ a. none_among (number 6) a), tt);
  not_by_name = λ d k a e. none_named prefixed_blocks d k (numbers_of prefixed_blocks 3) (tt, tt) a e;
  no_procedure = λ d r a e. no_procedures prefixed_blocks d r (numbers_of prefixed_blocks 3) (tt, tt) a e;
  constants = b_no_constants;
  arrays = tt;
  distinct = tt;
  made = b_no_arrays;
  own = λ d a. absurd (none_among d a);
  statements = (
    (kind.Integer, ((integer_apart, (refl, b_outside_block)), tt), refl),
    (
      (None, (tt, b_in_prefix, ((refl, b_outside_block), tt)), refl),
      ((None, (tt, b_in_prefix, (refl, tt)), refl), ((kind.Integer, ((integer_apart, (refl, b_in_block)), tt), (refl, b_in_prefix)), ((None, (((refl, refl, refl), refl), ((refl, b_in_block), (refl, tt))), refl), tt))),
    ),
  );
  stays = refl;
}

b_empty : (d : DeclNo) → Among d (numbers_of prefixed_blocks 4) → ⊥
unfolding digits element_place making_array copying_array keeping_array finding_element giving_back handed_over stopping no_rule ticking taking entering having when computing choosing popping pop_many pop_plain pop_truth pop_integers pop_operands pop_text answering applying_one applying_two testing_step performing putting_back assigning making_text joining at_level kept_on pushing index level_of_machine cell_at jumping block_at own_block leaving with_result putting put_back is_text home_of first_cells leaving_of_meaning constants_of putting_of_steps back_of_steps text_constants text_constant is_variable stream_of own_result own_match result_meant is_inside text is_class_free declared_at constant_of calculate compare compare_as_texts connect same_objects same_texts two_of one_of step_test take_integer take_character take_text take_nothing row_of standard_effect default_mode mode_allowed marked type_named result_named mode_named first_of_procedure first_of_class variable_marks array_marks parameter_marks moded_marks specified_marks headed_marks procedure_marks class_marks virtual_name_marks program_marks inner_marks declaring of_segment of_mode_part of_specification of_specifier of_virtual of_heading declared_by declarations_of run_of_runs lookup shown_of_scopes encloser searched block_at_of_scopes declaration_from binding entry_of formals_of formal_of result_of source_of denoted type_at line_at level_of block_of block_around standard_name text_attribute sysin_attribute sysout_attribute signature undeclared program_events of_statement of_branch of_arm of_block of_whole of_class_body of_declaration accessible protects is_kind some_around_of some_around base brought_by level_shows shown_of is_detach ends_search outward virtual_of represented standard_at qualified_marks qualified_result connection_at transfer_at found_at is_attribute qualification class_prefix_marks prefixed_marks prefix_marks standard_marks marks_of_standard standard_prefix standard_texts class_block has_level is_simulation_block some_level_of shows_detach class_formals class_formals_of found_in if_found object_ended pop_object qualifying referring belongs class_at is_in is_of levels levels_of first_along is_this this_block this_of with_entry_at putting_reference own_attribute
b_empty d a = none_among d a

b_other : TextHolds prefixed_blocks 4 (text prefixed_blocks 4)
unfolding digits element_place making_array copying_array keeping_array finding_element giving_back handed_over stopping no_rule ticking taking entering having when computing choosing popping pop_many pop_plain pop_truth pop_integers pop_operands pop_text answering applying_one applying_two testing_step performing putting_back assigning making_text joining at_level kept_on pushing index level_of_machine cell_at jumping block_at own_block leaving with_result putting put_back is_text home_of first_cells leaving_of_meaning constants_of putting_of_steps back_of_steps text_constants text_constant is_variable stream_of own_result own_match result_meant is_inside text is_class_free declared_at constant_of calculate compare compare_as_texts connect same_objects same_texts two_of one_of step_test take_integer take_character take_text take_nothing row_of standard_effect default_mode mode_allowed marked type_named result_named mode_named first_of_procedure first_of_class variable_marks array_marks parameter_marks moded_marks specified_marks headed_marks procedure_marks class_marks virtual_name_marks program_marks inner_marks declaring of_segment of_mode_part of_specification of_specifier of_virtual of_heading declared_by declarations_of run_of_runs lookup shown_of_scopes encloser searched block_at_of_scopes declaration_from binding entry_of formals_of formal_of result_of source_of denoted type_at line_at level_of block_of block_around standard_name text_attribute sysin_attribute sysout_attribute signature undeclared program_events of_statement of_branch of_arm of_block of_whole of_class_body of_declaration accessible protects is_kind some_around_of some_around base brought_by level_shows shown_of is_detach ends_search outward virtual_of represented standard_at qualified_marks qualified_result connection_at transfer_at found_at is_attribute qualification class_prefix_marks prefixed_marks prefix_marks standard_marks marks_of_standard standard_prefix standard_texts class_block has_level is_simulation_block some_level_of shows_detach class_formals class_formals_of found_in if_found object_ended pop_object qualifying referring belongs class_at is_in is_of levels levels_of first_along is_this this_block this_of with_entry_at putting_reference own_attribute
b_other = record {
  formals = (Simply kind.Integer, refl, refl, tt);
  parameters = λ d a f. absurd (b_empty d a);
  different = tt;
  not_by_name = λ d k a e. b_empty d a;
  no_procedure = λ d r a e. b_empty d a;
  constants = λ d type a e. absurd (b_empty d a);
  arrays = tt;
  distinct = tt;
  made = λ d element dimensions a e. absurd (b_empty d a);
  own = λ d a. absurd (none_among d a);
  statements = tt;
  stays = refl;
}

b_texts : (k : ℕ) → TextHolds prefixed_blocks k (text prefixed_blocks k)
unfolding digits element_place making_array copying_array keeping_array finding_element giving_back handed_over stopping no_rule ticking taking entering having when computing choosing popping pop_many pop_plain pop_truth pop_integers pop_operands pop_text answering applying_one applying_two testing_step performing putting_back assigning making_text joining at_level kept_on pushing index level_of_machine cell_at jumping block_at own_block leaving with_result putting put_back is_text home_of first_cells leaving_of_meaning constants_of putting_of_steps back_of_steps text_constants text_constant is_variable stream_of own_result own_match result_meant is_inside text is_class_free declared_at constant_of calculate compare compare_as_texts connect same_objects same_texts two_of one_of step_test take_integer take_character take_text take_nothing row_of standard_effect default_mode mode_allowed marked type_named result_named mode_named first_of_procedure first_of_class variable_marks array_marks parameter_marks moded_marks specified_marks headed_marks procedure_marks class_marks virtual_name_marks program_marks inner_marks declaring of_segment of_mode_part of_specification of_specifier of_virtual of_heading declared_by declarations_of run_of_runs lookup shown_of_scopes encloser searched block_at_of_scopes declaration_from binding entry_of formals_of formal_of result_of source_of denoted type_at line_at level_of block_of block_around standard_name text_attribute sysin_attribute sysout_attribute signature undeclared program_events of_statement of_branch of_arm of_block of_whole of_class_body of_declaration accessible protects is_kind some_around_of some_around base brought_by level_shows shown_of is_detach ends_search outward virtual_of represented standard_at qualified_marks qualified_result connection_at transfer_at found_at is_attribute qualification class_prefix_marks prefixed_marks prefix_marks standard_marks marks_of_standard standard_prefix standard_texts class_block has_level is_simulation_block some_level_of shows_detach class_formals class_formals_of found_in if_found object_ended pop_object qualifying referring belongs class_at is_in is_of levels levels_of first_along is_this this_block this_of with_entry_at putting_reference own_attribute
b_texts zero = b_program
b_texts (suc zero) = b_class
b_texts (suc (suc zero)) = b_procedure
b_texts (suc (suc (suc zero))) = b_block
b_texts (suc (suc (suc (suc zero)))) = b_other
b_texts (suc (suc (suc (suc (suc k))))) = tt

-- ---- the tables

b_levels : (t u : ℕ) → encloser prefixed_blocks.tables t ≡ Some u → level_of prefixed_blocks t ≡ suc (level_of prefixed_blocks u)
unfolding digits element_place making_array copying_array keeping_array finding_element giving_back handed_over stopping no_rule ticking taking entering having when computing choosing popping pop_many pop_plain pop_truth pop_integers pop_operands pop_text answering applying_one applying_two testing_step performing putting_back assigning making_text joining at_level kept_on pushing index level_of_machine cell_at jumping block_at own_block leaving with_result putting put_back is_text home_of first_cells leaving_of_meaning constants_of putting_of_steps back_of_steps text_constants text_constant is_variable stream_of own_result own_match result_meant is_inside text is_class_free declared_at constant_of calculate compare compare_as_texts connect same_objects same_texts two_of one_of step_test take_integer take_character take_text take_nothing row_of standard_effect default_mode mode_allowed marked type_named result_named mode_named first_of_procedure first_of_class variable_marks array_marks parameter_marks moded_marks specified_marks headed_marks procedure_marks class_marks virtual_name_marks program_marks inner_marks declaring of_segment of_mode_part of_specification of_specifier of_virtual of_heading declared_by declarations_of run_of_runs lookup shown_of_scopes encloser searched block_at_of_scopes declaration_from binding entry_of formals_of formal_of result_of source_of denoted type_at line_at level_of block_of block_around standard_name text_attribute sysin_attribute sysout_attribute signature undeclared program_events of_statement of_branch of_arm of_block of_whole of_class_body of_declaration accessible protects is_kind some_around_of some_around base brought_by level_shows shown_of is_detach ends_search outward virtual_of represented standard_at qualified_marks qualified_result connection_at transfer_at found_at is_attribute qualification class_prefix_marks prefixed_marks prefix_marks standard_marks marks_of_standard standard_prefix standard_texts class_block has_level is_simulation_block some_level_of shows_detach class_formals class_formals_of found_in if_found object_ended pop_object qualifying referring belongs class_at is_in is_of levels levels_of first_along is_this this_block this_of with_entry_at putting_reference own_attribute
b_levels zero u e = absurd (cc)
b_levels (suc zero) u e = let f : 0 ≡ u = cc in subst (λ z. level_of prefixed_blocks 1 ≡ suc (level_of prefixed_blocks z)) f refl
b_levels (suc (suc zero)) u e = let f : 1 ≡ u = cc in subst (λ z. level_of prefixed_blocks 2 ≡ suc (level_of prefixed_blocks z)) f refl
b_levels (suc (suc (suc zero))) u e = let f : 0 ≡ u = cc in subst (λ z. level_of prefixed_blocks 3 ≡ suc (level_of prefixed_blocks z)) f refl
b_levels (suc (suc (suc (suc zero)))) u e = let f : 0 ≡ u = cc in subst (λ z. level_of prefixed_blocks 4 ≡ suc (level_of prefixed_blocks z)) f refl
b_levels (suc (suc (suc (suc (suc t))))) u e = absurd (cc)

b_procedure_there : ProcedureThere prefixed_blocks (number 3) 2
unfolding digits element_place making_array copying_array keeping_array finding_element giving_back handed_over stopping no_rule ticking taking entering having when computing choosing popping pop_many pop_plain pop_truth pop_integers pop_operands pop_text answering applying_one applying_two testing_step performing putting_back assigning making_text joining at_level kept_on pushing index level_of_machine cell_at jumping block_at own_block leaving with_result putting put_back is_text home_of first_cells leaving_of_meaning constants_of putting_of_steps back_of_steps text_constants text_constant is_variable stream_of own_result own_match result_meant is_inside text is_class_free declared_at constant_of calculate compare compare_as_texts connect same_objects same_texts two_of one_of step_test take_integer take_character take_text take_nothing row_of standard_effect default_mode mode_allowed marked type_named result_named mode_named first_of_procedure first_of_class variable_marks array_marks parameter_marks moded_marks specified_marks headed_marks procedure_marks class_marks virtual_name_marks program_marks inner_marks declaring of_segment of_mode_part of_specification of_specifier of_virtual of_heading declared_by declarations_of run_of_runs lookup shown_of_scopes encloser searched block_at_of_scopes declaration_from binding entry_of formals_of formal_of result_of source_of denoted type_at line_at level_of block_of block_around standard_name text_attribute sysin_attribute sysout_attribute signature undeclared program_events of_statement of_branch of_arm of_block of_whole of_class_body of_declaration accessible protects is_kind some_around_of some_around base brought_by level_shows shown_of is_detach ends_search outward virtual_of represented standard_at qualified_marks qualified_result connection_at transfer_at found_at is_attribute qualification class_prefix_marks prefixed_marks prefix_marks standard_marks marks_of_standard standard_prefix standard_texts class_block has_level is_simulation_block some_level_of shows_detach class_formals class_formals_of found_in if_found object_ended pop_object qualifying referring belongs class_at is_in is_of levels levels_of first_along is_this this_block this_of with_entry_at putting_reference own_attribute
b_procedure_there = record { given = _; heading = _; body = _; is = refl; around = refl; owned = refl }

b_procedures : (n : ℕ) (result : Option SimType) (k : ℕ) → entry_of prefixed_blocks.tables (number n) ≡ Some (entry.Procedure result k) → ProcedureThere prefixed_blocks (number n) k
unfolding digits element_place making_array copying_array keeping_array finding_element giving_back handed_over stopping no_rule ticking taking entering having when computing choosing popping pop_many pop_plain pop_truth pop_integers pop_operands pop_text answering applying_one applying_two testing_step performing putting_back assigning making_text joining at_level kept_on pushing index level_of_machine cell_at jumping block_at own_block leaving with_result putting put_back is_text home_of first_cells leaving_of_meaning constants_of putting_of_steps back_of_steps text_constants text_constant is_variable stream_of own_result own_match result_meant is_inside text is_class_free declared_at constant_of calculate compare compare_as_texts connect same_objects same_texts two_of one_of step_test take_integer take_character take_text take_nothing row_of standard_effect default_mode mode_allowed marked type_named result_named mode_named first_of_procedure first_of_class variable_marks array_marks parameter_marks moded_marks specified_marks headed_marks procedure_marks class_marks virtual_name_marks program_marks inner_marks declaring of_segment of_mode_part of_specification of_specifier of_virtual of_heading declared_by declarations_of run_of_runs lookup shown_of_scopes encloser searched block_at_of_scopes declaration_from binding entry_of formals_of formal_of result_of source_of denoted type_at line_at level_of block_of block_around standard_name text_attribute sysin_attribute sysout_attribute signature undeclared program_events of_statement of_branch of_arm of_block of_whole of_class_body of_declaration accessible protects is_kind some_around_of some_around base brought_by level_shows shown_of is_detach ends_search outward virtual_of represented standard_at qualified_marks qualified_result connection_at transfer_at found_at is_attribute qualification class_prefix_marks prefixed_marks prefix_marks standard_marks marks_of_standard standard_prefix standard_texts class_block has_level is_simulation_block some_level_of shows_detach class_formals class_formals_of found_in if_found object_ended pop_object qualifying referring belongs class_at is_in is_of levels levels_of first_along is_this this_block this_of with_entry_at putting_reference own_attribute
b_procedures zero result k e = absurd (cc)
b_procedures (suc zero) result k e = absurd (cc)
b_procedures (suc (suc zero)) result k e = absurd (cc)
b_procedures (suc (suc (suc zero))) result k e = let f : 2 ≡ k = cc in subst (λ z. ProcedureThere prefixed_blocks (number 3) z) f b_procedure_there
b_procedures (suc (suc (suc (suc zero)))) result k e = absurd (cc)
b_procedures (suc (suc (suc (suc (suc zero))))) result k e = absurd (cc)
b_procedures (suc (suc (suc (suc (suc (suc zero)))))) result k e = absurd (cc)
b_procedures (suc (suc (suc (suc (suc (suc (suc n))))))) result k e = absurd (cc)

b_class_there : ClassThere prefixed_blocks (number 0) 1
unfolding digits element_place making_array copying_array keeping_array finding_element giving_back handed_over stopping no_rule ticking taking entering having when computing choosing popping pop_many pop_plain pop_truth pop_integers pop_operands pop_text answering applying_one applying_two testing_step performing putting_back assigning making_text joining at_level kept_on pushing index level_of_machine cell_at jumping block_at own_block leaving with_result putting put_back is_text home_of first_cells leaving_of_meaning constants_of putting_of_steps back_of_steps text_constants text_constant is_variable stream_of own_result own_match result_meant is_inside text is_class_free declared_at constant_of calculate compare compare_as_texts connect same_objects same_texts two_of one_of step_test take_integer take_character take_text take_nothing row_of standard_effect default_mode mode_allowed marked type_named result_named mode_named first_of_procedure first_of_class variable_marks array_marks parameter_marks moded_marks specified_marks headed_marks procedure_marks class_marks virtual_name_marks program_marks inner_marks declaring of_segment of_mode_part of_specification of_specifier of_virtual of_heading declared_by declarations_of run_of_runs lookup shown_of_scopes encloser searched block_at_of_scopes declaration_from binding entry_of formals_of formal_of result_of source_of denoted type_at line_at level_of block_of block_around standard_name text_attribute sysin_attribute sysout_attribute signature undeclared program_events of_statement of_branch of_arm of_block of_whole of_class_body of_declaration accessible protects is_kind some_around_of some_around base brought_by level_shows shown_of is_detach ends_search outward virtual_of represented standard_at qualified_marks qualified_result connection_at transfer_at found_at is_attribute qualification class_prefix_marks prefixed_marks prefix_marks standard_marks marks_of_standard standard_prefix standard_texts class_block has_level is_simulation_block some_level_of shows_detach class_formals class_formals_of found_in if_found object_ended pop_object qualifying referring belongs class_at is_in is_of levels levels_of first_along is_this this_block this_of with_entry_at putting_reference own_attribute
b_class_there = record { is = refl; around = refl }

b_classes : (n : ℕ) (k : ℕ) → entry_of prefixed_blocks.tables (number n) ≡ Some (entry.Class k) → ClassThere prefixed_blocks (number n) k
unfolding digits element_place making_array copying_array keeping_array finding_element giving_back handed_over stopping no_rule ticking taking entering having when computing choosing popping pop_many pop_plain pop_truth pop_integers pop_operands pop_text answering applying_one applying_two testing_step performing putting_back assigning making_text joining at_level kept_on pushing index level_of_machine cell_at jumping block_at own_block leaving with_result putting put_back is_text home_of first_cells leaving_of_meaning constants_of putting_of_steps back_of_steps text_constants text_constant is_variable stream_of own_result own_match result_meant is_inside text is_class_free declared_at constant_of calculate compare compare_as_texts connect same_objects same_texts two_of one_of step_test take_integer take_character take_text take_nothing row_of standard_effect default_mode mode_allowed marked type_named result_named mode_named first_of_procedure first_of_class variable_marks array_marks parameter_marks moded_marks specified_marks headed_marks procedure_marks class_marks virtual_name_marks program_marks inner_marks declaring of_segment of_mode_part of_specification of_specifier of_virtual of_heading declared_by declarations_of run_of_runs lookup shown_of_scopes encloser searched block_at_of_scopes declaration_from binding entry_of formals_of formal_of result_of source_of denoted type_at line_at level_of block_of block_around standard_name text_attribute sysin_attribute sysout_attribute signature undeclared program_events of_statement of_branch of_arm of_block of_whole of_class_body of_declaration accessible protects is_kind some_around_of some_around base brought_by level_shows shown_of is_detach ends_search outward virtual_of represented standard_at qualified_marks qualified_result connection_at transfer_at found_at is_attribute qualification class_prefix_marks prefixed_marks prefix_marks standard_marks marks_of_standard standard_prefix standard_texts class_block has_level is_simulation_block some_level_of shows_detach class_formals class_formals_of found_in if_found object_ended pop_object qualifying referring belongs class_at is_in is_of levels levels_of first_along is_this this_block this_of with_entry_at putting_reference own_attribute
b_classes zero k e = let f : 1 ≡ k = cc in subst (λ z. ClassThere prefixed_blocks (number 0) z) f b_class_there
b_classes (suc zero) k e = absurd (cc)
b_classes (suc (suc zero)) k e = absurd (cc)
b_classes (suc (suc (suc zero))) k e = absurd (cc)
b_classes (suc (suc (suc (suc zero)))) k e = absurd (cc)
b_classes (suc (suc (suc (suc (suc zero))))) k e = absurd (cc)
b_classes (suc (suc (suc (suc (suc (suc zero)))))) k e = absurd (cc)
b_classes (suc (suc (suc (suc (suc (suc (suc n))))))) k e = absurd (cc)

b_free : (t u : ℕ) → encloser prefixed_blocks.tables t ≡ Some u → is_class_free prefixed_blocks t ≡ false → is_class_free prefixed_blocks u ≡ false
unfolding digits element_place making_array copying_array keeping_array finding_element giving_back handed_over stopping no_rule ticking taking entering having when computing choosing popping pop_many pop_plain pop_truth pop_integers pop_operands pop_text answering applying_one applying_two testing_step performing putting_back assigning making_text joining at_level kept_on pushing index level_of_machine cell_at jumping block_at own_block leaving with_result putting put_back is_text home_of first_cells leaving_of_meaning constants_of putting_of_steps back_of_steps text_constants text_constant is_variable stream_of own_result own_match result_meant is_inside text is_class_free declared_at constant_of calculate compare compare_as_texts connect same_objects same_texts two_of one_of step_test take_integer take_character take_text take_nothing row_of standard_effect default_mode mode_allowed marked type_named result_named mode_named first_of_procedure first_of_class variable_marks array_marks parameter_marks moded_marks specified_marks headed_marks procedure_marks class_marks virtual_name_marks program_marks inner_marks declaring of_segment of_mode_part of_specification of_specifier of_virtual of_heading declared_by declarations_of run_of_runs lookup shown_of_scopes encloser searched block_at_of_scopes declaration_from binding entry_of formals_of formal_of result_of source_of denoted type_at line_at level_of block_of block_around standard_name text_attribute sysin_attribute sysout_attribute signature undeclared program_events of_statement of_branch of_arm of_block of_whole of_class_body of_declaration accessible protects is_kind some_around_of some_around base brought_by level_shows shown_of is_detach ends_search outward virtual_of represented standard_at qualified_marks qualified_result connection_at transfer_at found_at is_attribute qualification class_prefix_marks prefixed_marks prefix_marks standard_marks marks_of_standard standard_prefix standard_texts class_block has_level is_simulation_block some_level_of shows_detach class_formals class_formals_of found_in if_found object_ended pop_object qualifying referring belongs class_at is_in is_of levels levels_of first_along is_this this_block this_of with_entry_at putting_reference own_attribute
b_free zero u around e = absurd (cc)
b_free (suc zero) u around e = let f : 0 ≡ u = cc in subst (λ z. is_class_free prefixed_blocks z ≡ false) f refl
b_free (suc (suc zero)) u around e = absurd (cc)
b_free (suc (suc (suc zero))) u around e = let f : 0 ≡ u = cc in subst (λ z. is_class_free prefixed_blocks z ≡ false) f refl
b_free (suc (suc (suc (suc zero)))) u around e = let f : 0 ≡ u = cc in subst (λ z. is_class_free prefixed_blocks z ≡ false) f refl
b_free (suc (suc (suc (suc (suc t))))) u around e = absurd (cc)

b_prefix_block : PrefixTyped prefixed_blocks 3 1
unfolding digits element_place making_array copying_array keeping_array finding_element giving_back handed_over stopping no_rule ticking taking entering having when computing choosing popping pop_many pop_plain pop_truth pop_integers pop_operands pop_text answering applying_one applying_two testing_step performing putting_back assigning making_text joining at_level kept_on pushing index level_of_machine cell_at jumping block_at own_block leaving with_result putting put_back is_text home_of first_cells leaving_of_meaning constants_of putting_of_steps back_of_steps text_constants text_constant is_variable stream_of own_result own_match result_meant is_inside text is_class_free declared_at constant_of calculate compare compare_as_texts connect same_objects same_texts two_of one_of step_test take_integer take_character take_text take_nothing row_of standard_effect default_mode mode_allowed marked type_named result_named mode_named first_of_procedure first_of_class variable_marks array_marks parameter_marks moded_marks specified_marks headed_marks procedure_marks class_marks virtual_name_marks program_marks inner_marks declaring of_segment of_mode_part of_specification of_specifier of_virtual of_heading declared_by declarations_of run_of_runs lookup shown_of_scopes encloser searched block_at_of_scopes declaration_from binding entry_of formals_of formal_of result_of source_of denoted type_at line_at level_of block_of block_around standard_name text_attribute sysin_attribute sysout_attribute signature undeclared program_events of_statement of_branch of_arm of_block of_whole of_class_body of_declaration accessible protects is_kind some_around_of some_around base brought_by level_shows shown_of is_detach ends_search outward virtual_of represented standard_at qualified_marks qualified_result connection_at transfer_at found_at is_attribute qualification class_prefix_marks prefixed_marks prefix_marks standard_marks marks_of_standard standard_prefix standard_texts class_block has_level is_simulation_block some_level_of shows_detach class_formals class_formals_of found_in if_found object_ended pop_object qualifying referring belongs class_at is_in is_of levels levels_of first_along is_this this_block this_of with_entry_at putting_reference own_attribute
b_prefix_block = record { has = refl; prefix = refl; outer = 0; outer_prefix = 0; around = stands {k = 3} {u = 0} refl refl; around_prefix = refl; solid = refl; declared = refl }

b_prefix_other : PrefixTyped prefixed_blocks 4 1
unfolding digits element_place making_array copying_array keeping_array finding_element giving_back handed_over stopping no_rule ticking taking entering having when computing choosing popping pop_many pop_plain pop_truth pop_integers pop_operands pop_text answering applying_one applying_two testing_step performing putting_back assigning making_text joining at_level kept_on pushing index level_of_machine cell_at jumping block_at own_block leaving with_result putting put_back is_text home_of first_cells leaving_of_meaning constants_of putting_of_steps back_of_steps text_constants text_constant is_variable stream_of own_result own_match result_meant is_inside text is_class_free declared_at constant_of calculate compare compare_as_texts connect same_objects same_texts two_of one_of step_test take_integer take_character take_text take_nothing row_of standard_effect default_mode mode_allowed marked type_named result_named mode_named first_of_procedure first_of_class variable_marks array_marks parameter_marks moded_marks specified_marks headed_marks procedure_marks class_marks virtual_name_marks program_marks inner_marks declaring of_segment of_mode_part of_specification of_specifier of_virtual of_heading declared_by declarations_of run_of_runs lookup shown_of_scopes encloser searched block_at_of_scopes declaration_from binding entry_of formals_of formal_of result_of source_of denoted type_at line_at level_of block_of block_around standard_name text_attribute sysin_attribute sysout_attribute signature undeclared program_events of_statement of_branch of_arm of_block of_whole of_class_body of_declaration accessible protects is_kind some_around_of some_around base brought_by level_shows shown_of is_detach ends_search outward virtual_of represented standard_at qualified_marks qualified_result connection_at transfer_at found_at is_attribute qualification class_prefix_marks prefixed_marks prefix_marks standard_marks marks_of_standard standard_prefix standard_texts class_block has_level is_simulation_block some_level_of shows_detach class_formals class_formals_of found_in if_found object_ended pop_object qualifying referring belongs class_at is_in is_of levels levels_of first_along is_this this_block this_of with_entry_at putting_reference own_attribute
b_prefix_other = record { has = refl; prefix = refl; outer = 0; outer_prefix = 0; around = stands {k = 4} {u = 0} refl refl; around_prefix = refl; solid = refl; declared = refl }

b_prefixed : (k b : ℕ) → base prefixed_blocks.tables k ≡ Some b → PrefixTyped prefixed_blocks k b
unfolding digits element_place making_array copying_array keeping_array finding_element giving_back handed_over stopping no_rule ticking taking entering having when computing choosing popping pop_many pop_plain pop_truth pop_integers pop_operands pop_text answering applying_one applying_two testing_step performing putting_back assigning making_text joining at_level kept_on pushing index level_of_machine cell_at jumping block_at own_block leaving with_result putting put_back is_text home_of first_cells leaving_of_meaning constants_of putting_of_steps back_of_steps text_constants text_constant is_variable stream_of own_result own_match result_meant is_inside text is_class_free declared_at constant_of calculate compare compare_as_texts connect same_objects same_texts two_of one_of step_test take_integer take_character take_text take_nothing row_of standard_effect default_mode mode_allowed marked type_named result_named mode_named first_of_procedure first_of_class variable_marks array_marks parameter_marks moded_marks specified_marks headed_marks procedure_marks class_marks virtual_name_marks program_marks inner_marks declaring of_segment of_mode_part of_specification of_specifier of_virtual of_heading declared_by declarations_of run_of_runs lookup shown_of_scopes encloser searched block_at_of_scopes declaration_from binding entry_of formals_of formal_of result_of source_of denoted type_at line_at level_of block_of block_around standard_name text_attribute sysin_attribute sysout_attribute signature undeclared program_events of_statement of_branch of_arm of_block of_whole of_class_body of_declaration accessible protects is_kind some_around_of some_around base brought_by level_shows shown_of is_detach ends_search outward virtual_of represented standard_at qualified_marks qualified_result connection_at transfer_at found_at is_attribute qualification class_prefix_marks prefixed_marks prefix_marks standard_marks marks_of_standard standard_prefix standard_texts class_block has_level is_simulation_block some_level_of shows_detach class_formals class_formals_of found_in if_found object_ended pop_object qualifying referring belongs class_at is_in is_of levels levels_of first_along is_this this_block this_of with_entry_at putting_reference own_attribute
b_prefixed zero b e = absurd (cc)
b_prefixed (suc zero) b e = absurd (cc)
b_prefixed (suc (suc zero)) b e = absurd (cc)
b_prefixed (suc (suc (suc zero))) b e = let f : 1 ≡ b = cc in subst (PrefixTyped prefixed_blocks 3) f b_prefix_block
b_prefixed (suc (suc (suc (suc zero)))) b e = let f : 1 ≡ b = cc in subst (PrefixTyped prefixed_blocks 4) f b_prefix_other
b_prefixed (suc (suc (suc (suc (suc k))))) b e = absurd (cc)

b_apart_block : (u : ℕ) (d : DeclNo) → has_level prefixed_blocks.tables 1 u ≡ true → Among d (numbers_of prefixed_blocks u) → Among d (numbers_of prefixed_blocks 3) → ⊥
unfolding digits element_place making_array copying_array keeping_array finding_element giving_back handed_over stopping no_rule ticking taking entering having when computing choosing popping pop_many pop_plain pop_truth pop_integers pop_operands pop_text answering applying_one applying_two testing_step performing putting_back assigning making_text joining at_level kept_on pushing index level_of_machine cell_at jumping block_at own_block leaving with_result putting put_back is_text home_of first_cells leaving_of_meaning constants_of putting_of_steps back_of_steps text_constants text_constant is_variable stream_of own_result own_match result_meant is_inside text is_class_free declared_at constant_of calculate compare compare_as_texts connect same_objects same_texts two_of one_of step_test take_integer take_character take_text take_nothing row_of standard_effect default_mode mode_allowed marked type_named result_named mode_named first_of_procedure first_of_class variable_marks array_marks parameter_marks moded_marks specified_marks headed_marks procedure_marks class_marks virtual_name_marks program_marks inner_marks declaring of_segment of_mode_part of_specification of_specifier of_virtual of_heading declared_by declarations_of run_of_runs lookup shown_of_scopes encloser searched block_at_of_scopes declaration_from binding entry_of formals_of formal_of result_of source_of denoted type_at line_at level_of block_of block_around standard_name text_attribute sysin_attribute sysout_attribute signature undeclared program_events of_statement of_branch of_arm of_block of_whole of_class_body of_declaration accessible protects is_kind some_around_of some_around base brought_by level_shows shown_of is_detach ends_search outward virtual_of represented standard_at qualified_marks qualified_result connection_at transfer_at found_at is_attribute qualification class_prefix_marks prefixed_marks prefix_marks standard_marks marks_of_standard standard_prefix standard_texts class_block has_level is_simulation_block some_level_of shows_detach class_formals class_formals_of found_in if_found object_ended pop_object qualifying referring belongs class_at is_in is_of levels levels_of first_along is_this this_block this_of with_entry_at putting_reference own_attribute
b_apart_block zero d level a f = absurd (cc)
b_apart_block (suc zero) _ level (later (later (later a))) first = none_among (number 6) a
b_apart_block (suc zero) d level a (later f) = none_among d f
b_apart_block (suc (suc zero)) d level a f = absurd (cc)
b_apart_block (suc (suc (suc zero))) d level a f = absurd (cc)
b_apart_block (suc (suc (suc (suc zero)))) d level a f = absurd (cc)
b_apart_block (suc (suc (suc (suc (suc k))))) d level a f = none_among d a

b_apart_from : (k b u : ℕ) (d : DeclNo) → base prefixed_blocks.tables k ≡ Some b → has_level prefixed_blocks.tables b u ≡ true → Among d (numbers_of prefixed_blocks u) → Among d (numbers_of prefixed_blocks k) → ⊥
unfolding digits element_place making_array copying_array keeping_array finding_element giving_back handed_over stopping no_rule ticking taking entering having when computing choosing popping pop_many pop_plain pop_truth pop_integers pop_operands pop_text answering applying_one applying_two testing_step performing putting_back assigning making_text joining at_level kept_on pushing index level_of_machine cell_at jumping block_at own_block leaving with_result putting put_back is_text home_of first_cells leaving_of_meaning constants_of putting_of_steps back_of_steps text_constants text_constant is_variable stream_of own_result own_match result_meant is_inside text is_class_free declared_at constant_of calculate compare compare_as_texts connect same_objects same_texts two_of one_of step_test take_integer take_character take_text take_nothing row_of standard_effect default_mode mode_allowed marked type_named result_named mode_named first_of_procedure first_of_class variable_marks array_marks parameter_marks moded_marks specified_marks headed_marks procedure_marks class_marks virtual_name_marks program_marks inner_marks declaring of_segment of_mode_part of_specification of_specifier of_virtual of_heading declared_by declarations_of run_of_runs lookup shown_of_scopes encloser searched block_at_of_scopes declaration_from binding entry_of formals_of formal_of result_of source_of denoted type_at line_at level_of block_of block_around standard_name text_attribute sysin_attribute sysout_attribute signature undeclared program_events of_statement of_branch of_arm of_block of_whole of_class_body of_declaration accessible protects is_kind some_around_of some_around base brought_by level_shows shown_of is_detach ends_search outward virtual_of represented standard_at qualified_marks qualified_result connection_at transfer_at found_at is_attribute qualification class_prefix_marks prefixed_marks prefix_marks standard_marks marks_of_standard standard_prefix standard_texts class_block has_level is_simulation_block some_level_of shows_detach class_formals class_formals_of found_in if_found object_ended pop_object qualifying referring belongs class_at is_in is_of levels levels_of first_along is_this this_block this_of with_entry_at putting_reference own_attribute
b_apart_from zero b u d e level a f = absurd (cc)
b_apart_from (suc zero) b u d e level a f = absurd (cc)
b_apart_from (suc (suc zero)) b u d e level a f = absurd (cc)
b_apart_from (suc (suc (suc zero))) b u d e level a f = let same : b ≡ 1 = cc in b_apart_block u d (subst (λ z. has_level prefixed_blocks.tables z u ≡ true) same level) a f
b_apart_from (suc (suc (suc (suc zero)))) b u d e level a f = b_empty d f
b_apart_from (suc (suc (suc (suc (suc k))))) b u d e level a f = absurd (cc)

b_many : length prefixed_blocks.tables.blocks ≡ 5
unfolding digits element_place making_array copying_array keeping_array finding_element giving_back handed_over stopping no_rule ticking taking entering having when computing choosing popping pop_many pop_plain pop_truth pop_integers pop_operands pop_text answering applying_one applying_two testing_step performing putting_back assigning making_text joining at_level kept_on pushing index level_of_machine cell_at jumping block_at own_block leaving with_result putting put_back is_text home_of first_cells leaving_of_meaning constants_of putting_of_steps back_of_steps text_constants text_constant is_variable stream_of own_result own_match result_meant is_inside text is_class_free declared_at constant_of calculate compare compare_as_texts connect same_objects same_texts two_of one_of step_test take_integer take_character take_text take_nothing row_of standard_effect default_mode mode_allowed marked type_named result_named mode_named first_of_procedure first_of_class variable_marks array_marks parameter_marks moded_marks specified_marks headed_marks procedure_marks class_marks virtual_name_marks program_marks inner_marks declaring of_segment of_mode_part of_specification of_specifier of_virtual of_heading declared_by declarations_of run_of_runs lookup shown_of_scopes encloser searched block_at_of_scopes declaration_from binding entry_of formals_of formal_of result_of source_of denoted type_at line_at level_of block_of block_around standard_name text_attribute sysin_attribute sysout_attribute signature undeclared program_events of_statement of_branch of_arm of_block of_whole of_class_body of_declaration accessible protects is_kind some_around_of some_around base brought_by level_shows shown_of is_detach ends_search outward virtual_of represented standard_at qualified_marks qualified_result connection_at transfer_at found_at is_attribute qualification class_prefix_marks prefixed_marks prefix_marks standard_marks marks_of_standard standard_prefix standard_texts class_block has_level is_simulation_block some_level_of shows_detach class_formals class_formals_of found_in if_found object_ended pop_object qualifying referring belongs class_at is_in is_of levels levels_of first_along is_this this_block this_of with_entry_at putting_reference own_attribute
b_many = refl

b_alone : (k : ℕ) → (3 ≡ k → ⊥) → (4 ≡ k → ⊥) → base prefixed_blocks.tables k ≡ None
unfolding digits element_place making_array copying_array keeping_array finding_element giving_back handed_over stopping no_rule ticking taking entering having when computing choosing popping pop_many pop_plain pop_truth pop_integers pop_operands pop_text answering applying_one applying_two testing_step performing putting_back assigning making_text joining at_level kept_on pushing index level_of_machine cell_at jumping block_at own_block leaving with_result putting put_back is_text home_of first_cells leaving_of_meaning constants_of putting_of_steps back_of_steps text_constants text_constant is_variable stream_of own_result own_match result_meant is_inside text is_class_free declared_at constant_of calculate compare compare_as_texts connect same_objects same_texts two_of one_of step_test take_integer take_character take_text take_nothing row_of standard_effect default_mode mode_allowed marked type_named result_named mode_named first_of_procedure first_of_class variable_marks array_marks parameter_marks moded_marks specified_marks headed_marks procedure_marks class_marks virtual_name_marks program_marks inner_marks declaring of_segment of_mode_part of_specification of_specifier of_virtual of_heading declared_by declarations_of run_of_runs lookup shown_of_scopes encloser searched block_at_of_scopes declaration_from binding entry_of formals_of formal_of result_of source_of denoted type_at line_at level_of block_of block_around standard_name text_attribute sysin_attribute sysout_attribute signature undeclared program_events of_statement of_branch of_arm of_block of_whole of_class_body of_declaration accessible protects is_kind some_around_of some_around base brought_by level_shows shown_of is_detach ends_search outward virtual_of represented standard_at qualified_marks qualified_result connection_at transfer_at found_at is_attribute qualification class_prefix_marks prefixed_marks prefix_marks standard_marks marks_of_standard standard_prefix standard_texts class_block has_level is_simulation_block some_level_of shows_detach class_formals class_formals_of found_in if_found object_ended pop_object qualifying referring belongs class_at is_in is_of levels levels_of first_along is_this this_block this_of with_entry_at putting_reference own_attribute
b_alone zero other last = refl
b_alone (suc zero) other last = refl
b_alone (suc (suc zero)) other last = refl
b_alone (suc (suc (suc zero))) other last = absurd (other refl)
b_alone (suc (suc (suc (suc zero)))) other last = absurd (last refl)
b_alone (suc (suc (suc (suc (suc k))))) other last = refl

b_base_block : base prefixed_blocks.tables 3 ≡ Some 1
unfolding digits element_place making_array copying_array keeping_array finding_element giving_back handed_over stopping no_rule ticking taking entering having when computing choosing popping pop_many pop_plain pop_truth pop_integers pop_operands pop_text answering applying_one applying_two testing_step performing putting_back assigning making_text joining at_level kept_on pushing index level_of_machine cell_at jumping block_at own_block leaving with_result putting put_back is_text home_of first_cells leaving_of_meaning constants_of putting_of_steps back_of_steps text_constants text_constant is_variable stream_of own_result own_match result_meant is_inside text is_class_free declared_at constant_of calculate compare compare_as_texts connect same_objects same_texts two_of one_of step_test take_integer take_character take_text take_nothing row_of standard_effect default_mode mode_allowed marked type_named result_named mode_named first_of_procedure first_of_class variable_marks array_marks parameter_marks moded_marks specified_marks headed_marks procedure_marks class_marks virtual_name_marks program_marks inner_marks declaring of_segment of_mode_part of_specification of_specifier of_virtual of_heading declared_by declarations_of run_of_runs lookup shown_of_scopes encloser searched block_at_of_scopes declaration_from binding entry_of formals_of formal_of result_of source_of denoted type_at line_at level_of block_of block_around standard_name text_attribute sysin_attribute sysout_attribute signature undeclared program_events of_statement of_branch of_arm of_block of_whole of_class_body of_declaration accessible protects is_kind some_around_of some_around base brought_by level_shows shown_of is_detach ends_search outward virtual_of represented standard_at qualified_marks qualified_result connection_at transfer_at found_at is_attribute qualification class_prefix_marks prefixed_marks prefix_marks standard_marks marks_of_standard standard_prefix standard_texts class_block has_level is_simulation_block some_level_of shows_detach class_formals class_formals_of found_in if_found object_ended pop_object qualifying referring belongs class_at is_in is_of levels levels_of first_along is_this this_block this_of with_entry_at putting_reference own_attribute
b_base_block = refl

b_base_other : base prefixed_blocks.tables 4 ≡ Some 1
unfolding digits element_place making_array copying_array keeping_array finding_element giving_back handed_over stopping no_rule ticking taking entering having when computing choosing popping pop_many pop_plain pop_truth pop_integers pop_operands pop_text answering applying_one applying_two testing_step performing putting_back assigning making_text joining at_level kept_on pushing index level_of_machine cell_at jumping block_at own_block leaving with_result putting put_back is_text home_of first_cells leaving_of_meaning constants_of putting_of_steps back_of_steps text_constants text_constant is_variable stream_of own_result own_match result_meant is_inside text is_class_free declared_at constant_of calculate compare compare_as_texts connect same_objects same_texts two_of one_of step_test take_integer take_character take_text take_nothing row_of standard_effect default_mode mode_allowed marked type_named result_named mode_named first_of_procedure first_of_class variable_marks array_marks parameter_marks moded_marks specified_marks headed_marks procedure_marks class_marks virtual_name_marks program_marks inner_marks declaring of_segment of_mode_part of_specification of_specifier of_virtual of_heading declared_by declarations_of run_of_runs lookup shown_of_scopes encloser searched block_at_of_scopes declaration_from binding entry_of formals_of formal_of result_of source_of denoted type_at line_at level_of block_of block_around standard_name text_attribute sysin_attribute sysout_attribute signature undeclared program_events of_statement of_branch of_arm of_block of_whole of_class_body of_declaration accessible protects is_kind some_around_of some_around base brought_by level_shows shown_of is_detach ends_search outward virtual_of represented standard_at qualified_marks qualified_result connection_at transfer_at found_at is_attribute qualification class_prefix_marks prefixed_marks prefix_marks standard_marks marks_of_standard standard_prefix standard_texts class_block has_level is_simulation_block some_level_of shows_detach class_formals class_formals_of found_in if_found object_ended pop_object qualifying referring belongs class_at is_in is_of levels levels_of first_along is_this this_block this_of with_entry_at putting_reference own_attribute
b_base_other = refl

b_few : (k : ℕ) → Ends prefixed_blocks.tables 5 k
b_few zero = outermost (b_alone 0 (λ e. cc) (λ e. cc))
b_few (suc zero) = outermost (b_alone 1 (λ e. cc) (λ e. cc))
b_few (suc (suc zero)) = outermost (b_alone 2 (λ e. cc) (λ e. cc))
b_few (suc (suc (suc zero))) = prefixed {b = 1} b_base_block (outermost (b_alone 1 (λ e. cc) (λ e. cc)))
b_few (suc (suc (suc (suc zero)))) = prefixed {b = 1} b_base_other (outermost (b_alone 1 (λ e. cc) (λ e. cc)))
b_few (suc (suc (suc (suc (suc k))))) = outermost (b_alone (suc (suc (suc (suc (suc k))))) (λ e. cc) (λ e. cc))

b_ends : (k : ℕ) → Ends prefixed_blocks.tables (length prefixed_blocks.tables.blocks) k
b_ends k = subst (λ n. Ends prefixed_blocks.tables n k) (sym b_many) (b_few k)

b_no_set : (k : ℕ) → NoSetText (text prefixed_blocks k)
unfolding digits element_place making_array copying_array keeping_array finding_element giving_back handed_over stopping no_rule ticking taking entering having when computing choosing popping pop_many pop_plain pop_truth pop_integers pop_operands pop_text answering applying_one applying_two testing_step performing putting_back assigning making_text joining at_level kept_on pushing index level_of_machine cell_at jumping block_at own_block leaving with_result putting put_back is_text home_of first_cells leaving_of_meaning constants_of putting_of_steps back_of_steps text_constants text_constant is_variable stream_of own_result own_match result_meant is_inside text is_class_free declared_at constant_of calculate compare compare_as_texts connect same_objects same_texts two_of one_of step_test take_integer take_character take_text take_nothing row_of standard_effect default_mode mode_allowed marked type_named result_named mode_named first_of_procedure first_of_class variable_marks array_marks parameter_marks moded_marks specified_marks headed_marks procedure_marks class_marks virtual_name_marks program_marks inner_marks declaring of_segment of_mode_part of_specification of_specifier of_virtual of_heading declared_by declarations_of run_of_runs lookup shown_of_scopes encloser searched block_at_of_scopes declaration_from binding entry_of formals_of formal_of result_of source_of denoted type_at line_at level_of block_of block_around standard_name text_attribute sysin_attribute sysout_attribute signature undeclared program_events of_statement of_branch of_arm of_block of_whole of_class_body of_declaration accessible protects is_kind some_around_of some_around base brought_by level_shows shown_of is_detach ends_search outward virtual_of represented standard_at qualified_marks qualified_result connection_at transfer_at found_at is_attribute qualification class_prefix_marks prefixed_marks prefix_marks standard_marks marks_of_standard standard_prefix standard_texts class_block has_level is_simulation_block some_level_of shows_detach class_formals class_formals_of found_in if_found object_ended pop_object qualifying referring belongs class_at is_in is_of levels levels_of first_along is_this this_block this_of with_entry_at putting_reference own_attribute
b_no_set zero = tt
b_no_set (suc zero) = tt
b_no_set (suc (suc zero)) = tt
b_no_set (suc (suc (suc zero))) = tt
b_no_set (suc (suc (suc (suc zero)))) = tt
b_no_set (suc (suc (suc (suc (suc k))))) = tt

b_no_simulation : (k : ℕ) → is_simulation_block prefixed_blocks.tables k ≡ false
unfolding digits element_place making_array copying_array keeping_array finding_element giving_back handed_over stopping no_rule ticking taking entering having when computing choosing popping pop_many pop_plain pop_truth pop_integers pop_operands pop_text answering applying_one applying_two testing_step performing putting_back assigning making_text joining at_level kept_on pushing index level_of_machine cell_at jumping block_at own_block leaving with_result putting put_back is_text home_of first_cells leaving_of_meaning constants_of putting_of_steps back_of_steps text_constants text_constant is_variable stream_of own_result own_match result_meant is_inside text is_class_free declared_at constant_of calculate compare compare_as_texts connect same_objects same_texts two_of one_of step_test take_integer take_character take_text take_nothing row_of standard_effect default_mode mode_allowed marked type_named result_named mode_named first_of_procedure first_of_class variable_marks array_marks parameter_marks moded_marks specified_marks headed_marks procedure_marks class_marks virtual_name_marks program_marks inner_marks declaring of_segment of_mode_part of_specification of_specifier of_virtual of_heading declared_by declarations_of run_of_runs lookup shown_of_scopes encloser searched block_at_of_scopes declaration_from binding entry_of formals_of formal_of result_of source_of denoted type_at line_at level_of block_of block_around standard_name text_attribute sysin_attribute sysout_attribute signature undeclared program_events of_statement of_branch of_arm of_block of_whole of_class_body of_declaration accessible protects is_kind some_around_of some_around base brought_by level_shows shown_of is_detach ends_search outward virtual_of represented standard_at qualified_marks qualified_result connection_at transfer_at found_at is_attribute qualification class_prefix_marks prefixed_marks prefix_marks standard_marks marks_of_standard standard_prefix standard_texts class_block has_level is_simulation_block some_level_of shows_detach class_formals class_formals_of found_in if_found object_ended pop_object qualifying referring belongs class_at is_in is_of levels levels_of first_along is_this this_block this_of with_entry_at putting_reference own_attribute
b_no_simulation zero = refl
b_no_simulation (suc zero) = refl
b_no_simulation (suc (suc zero)) = refl
b_no_simulation (suc (suc (suc zero))) = refl
b_no_simulation (suc (suc (suc (suc zero)))) = refl
b_no_simulation (suc (suc (suc (suc (suc k))))) = refl

b_no_attribute : (n : ℕ) → NoSetProcedure (entry_of prefixed_blocks.tables (number n))
unfolding digits element_place making_array copying_array keeping_array finding_element giving_back handed_over stopping no_rule ticking taking entering having when computing choosing popping pop_many pop_plain pop_truth pop_integers pop_operands pop_text answering applying_one applying_two testing_step performing putting_back assigning making_text joining at_level kept_on pushing index level_of_machine cell_at jumping block_at own_block leaving with_result putting put_back is_text home_of first_cells leaving_of_meaning constants_of putting_of_steps back_of_steps text_constants text_constant is_variable stream_of own_result own_match result_meant is_inside text is_class_free declared_at constant_of calculate compare compare_as_texts connect same_objects same_texts two_of one_of step_test take_integer take_character take_text take_nothing row_of standard_effect default_mode mode_allowed marked type_named result_named mode_named first_of_procedure first_of_class variable_marks array_marks parameter_marks moded_marks specified_marks headed_marks procedure_marks class_marks virtual_name_marks program_marks inner_marks declaring of_segment of_mode_part of_specification of_specifier of_virtual of_heading declared_by declarations_of run_of_runs lookup shown_of_scopes encloser searched block_at_of_scopes declaration_from binding entry_of formals_of formal_of result_of source_of denoted type_at line_at level_of block_of block_around standard_name text_attribute sysin_attribute sysout_attribute signature undeclared program_events of_statement of_branch of_arm of_block of_whole of_class_body of_declaration accessible protects is_kind some_around_of some_around base brought_by level_shows shown_of is_detach ends_search outward virtual_of represented standard_at qualified_marks qualified_result connection_at transfer_at found_at is_attribute qualification class_prefix_marks prefixed_marks prefix_marks standard_marks marks_of_standard standard_prefix standard_texts class_block has_level is_simulation_block some_level_of shows_detach class_formals class_formals_of found_in if_found object_ended pop_object qualifying referring belongs class_at is_in is_of levels levels_of first_along is_this this_block this_of with_entry_at putting_reference own_attribute
b_no_attribute zero = tt
b_no_attribute (suc zero) = tt
b_no_attribute (suc (suc zero)) = tt
b_no_attribute (suc (suc (suc zero))) = tt
b_no_attribute (suc (suc (suc (suc zero)))) = tt
b_no_attribute (suc (suc (suc (suc (suc zero))))) = tt
b_no_attribute (suc (suc (suc (suc (suc (suc zero)))))) = tt
b_no_attribute (suc (suc (suc (suc (suc (suc (suc n))))))) = tt

pub b_typed : Typed prefixed_blocks
unfolding digits element_place making_array copying_array keeping_array finding_element giving_back handed_over stopping no_rule ticking taking entering having when computing choosing popping pop_many pop_plain pop_truth pop_integers pop_operands pop_text answering applying_one applying_two testing_step performing putting_back assigning making_text joining at_level kept_on pushing index level_of_machine cell_at jumping block_at own_block leaving with_result putting put_back is_text home_of first_cells leaving_of_meaning constants_of putting_of_steps back_of_steps text_constants text_constant is_variable stream_of own_result own_match result_meant is_inside text is_class_free declared_at constant_of calculate compare compare_as_texts connect same_objects same_texts two_of one_of step_test take_integer take_character take_text take_nothing row_of standard_effect default_mode mode_allowed marked type_named result_named mode_named first_of_procedure first_of_class variable_marks array_marks parameter_marks moded_marks specified_marks headed_marks procedure_marks class_marks virtual_name_marks program_marks inner_marks declaring of_segment of_mode_part of_specification of_specifier of_virtual of_heading declared_by declarations_of run_of_runs lookup shown_of_scopes encloser searched block_at_of_scopes declaration_from binding entry_of formals_of formal_of result_of source_of denoted type_at line_at level_of block_of block_around standard_name text_attribute sysin_attribute sysout_attribute signature undeclared program_events of_statement of_branch of_arm of_block of_whole of_class_body of_declaration accessible protects is_kind some_around_of some_around base brought_by level_shows shown_of is_detach ends_search outward virtual_of represented standard_at qualified_marks qualified_result connection_at transfer_at found_at is_attribute qualification class_prefix_marks prefixed_marks prefix_marks standard_marks marks_of_standard standard_prefix standard_texts class_block has_level is_simulation_block some_level_of shows_detach class_formals class_formals_of found_in if_found object_ended pop_object qualifying referring belongs class_at is_in is_of levels levels_of first_along is_this this_block this_of with_entry_at putting_reference own_attribute
b_typed = record {
  starts = as_block refl;
  some_block = omega arith;
  outermost = refl;
  levels = λ t u solid e. b_levels t u e;
  listed = λ d row h e holds. row_holds prefixed_blocks (slice_get prefixed_blocks.tables.declarations d.0) d row e (b_rows d.0);
  procedures = λ d result k e. b_procedures d.0 result k e;
  classes = λ d k e. b_classes d.0 k e;
  texts = λ k x e. text_holds prefixed_blocks k (text prefixed_blocks k) x e (b_texts k);
  not_class_free = b_free;
  prefixes = record { prefixed_by = λ k b solid e. b_prefixed k b e; ends = λ k solid. b_ends k; apart = λ k b u d solid e level a f. b_apart_from k b u d e level a f };
  set_classes = λ k which e. absurd (no_set_text (text prefixed_blocks k) which (b_no_set k) e);
  virtuals = λ v result own e. absurd (no_virtual (entry_of prefixed_blocks.tables v) result own (b_no_attribute v.0) e);
  matches = λ v result own k match e found. absurd (no_virtual (entry_of prefixed_blocks.tables v) result own (b_no_attribute v.0) e);
  set_procedures = λ d name parameter result e named. absurd (no_set_procedure (entry_of prefixed_blocks.tables d) name parameter result (b_no_attribute d.0) e);
  simulations = λ k e. absurd (true_never (is_simulation_block prefixed_blocks.tables k) (b_no_simulation k) e);
  processes = λ c k solid e is. absurd (no_set_text (text prefixed_blocks k) standard.Process (b_no_set k) is);
  simulation_procedures = λ d name parameter result e named. absurd (no_set_procedure (entry_of prefixed_blocks.tables d) name parameter result (b_no_attribute d.0) e);
  bare = λ d row which at is. absurd (no_set_text (text prefixed_blocks row.block) which (b_no_set row.block) is);
  no_set_block = λ k u which class es ds ss e at is. no_set_text (text prefixed_blocks u) which (b_no_set u) is;
}

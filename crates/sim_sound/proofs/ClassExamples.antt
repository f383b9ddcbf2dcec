-- A program with a class is typed: an array and a procedure as attributes, an object that is generated, a call behind a dot, `none`.
use Rattle.std.proofs.Common.{◌≡◌, ℕ, zero, suc, [], ◌∷◌, false, Option, Some, None, refl, subst, arith}
use Rattle.std.specs.Prelude.{slice_get}
use Rattle.sim_base.specs.declared.numbering.DeclNo.{DeclNo}
use Rattle.sim_scope.specs.declared.types.StandardClass.TheVariants as standard
use Rattle.sim_scope.specs.declared.types.Entry.TheVariants as entry
use Rattle.sim_scope.specs.declared.types.SimType.{SimType}
use Rattle.sim_scope.specs.declared.types.SimType.TheVariants as sim_type
use Rattle.sim_values.specs.declared.kind.Kind.TheVariants as kind
use Rattle.sim_meaning.specs.ClassExamples.{access_through_none}
use Rattle.sim_meaning.specs.Entries.{numbers_of}
use Rattle.sim_sound.specs.Held.{Among, ArrayOf, Holds, IsFormal, Simply, entry_holds, first, itself, later}
use Rattle.sim_sound.specs.Typed.{ClassThere, ConstantHas, ProcedureThere, Typed, as_block}
use Rattle.sim_sound.proofs.Examples.{integer_apart, none_named, no_procedures, NoSetProcedure, NoSetText, RowHolds, TextHolds, no_set_procedure, no_set_text, none_among, number, row_holds, text_holds, true_never, no_virtual}
use Rattle.std.specs.Fmt.{digits}
use Rattle.sim_code.specs.Arrays.{element_place, making_array, copying_array, keeping_array, finding_element, giving_back, handed_over}
use Rattle.sim_code.specs.Events.{pop_object, qualifying, referring, stopping, no_rule, ticking, taking, entering, having, when, computing, choosing, popping, pop_many, pop_plain, pop_truth, pop_integers, pop_operands, pop_text, answering, applying_one, applying_two, testing_step, performing, putting_back, assigning, making_text, joining}
use Rattle.sim_code.specs.Instances.{at_level, kept_on, object_ended}
use Rattle.sim_code.specs.Machine.{pushing, index, level as level_of_machine, cell_at, jumping, block_at, own_block, leaving, with_result}
use Rattle.sim_code.specs.Rows.{put_back, putting}
use Rattle.sim_meaning.specs.Attributes.{connection_at, transfer_at, own_attribute}
use Rattle.sim_meaning.specs.Levels.{belongs, class_at, is_in, is_of, levels, levels_of, qualification}
use Rattle.sim_meaning.specs.Closing.{is_attribute, is_text, home_of, is_variable, stream_of, own_result, own_match, result_meant}
use Rattle.sim_meaning.specs.Entries.{first_cells}
use Rattle.sim_meaning.specs.Meaning.{leaving as leaving_of_meaning}
use Rattle.sim_meaning.specs.Constants.{constants_of, text_constant, text_constants}
use Rattle.sim_scope.specs.Calls.{is_inside}
use Rattle.sim_meaning.specs.Steps.{put_back as back_of_steps, putting as putting_of_steps}
use Rattle.sim_meaning.specs.Texts.{standard_texts, text, is_class_free, declared_at, constant_of}
use Rattle.sim_values.specs.Operators.{calculate, compare, compare_as_texts, connect, same_objects, same_texts, two_of, one_of, step_test}
use Rattle.sim_values.specs.Standard.{take_integer, take_character, take_text, take_nothing, row_of, standard_effect}
use Rattle.sim_scope.specs.Building.{default_mode, mode_allowed, marked}
use Rattle.sim_scope.specs.Declare.{class_prefix_marks, prefixed_marks, prefix_marks, standard_marks, marks_of_standard, type_named, result_named, mode_named, first_of_procedure, first_of_class, variable_marks, array_marks, parameter_marks, moded_marks, specified_marks, headed_marks, procedure_marks, class_marks, virtual_name_marks, program_marks, inner_marks, declaring, of_segment, of_mode_part, of_specification, of_specifier, of_virtual, of_heading, declared_by, declarations_of, qualified_marks, qualified_result}
use Rattle.sim_scope.specs.Runs.{run as run_of_runs}
use Rattle.sim_scope.specs.Access.{encloser, block_at as block_at_of_scopes, accessible, protects, is_kind, some_around_of, some_around}
use Rattle.sim_scope.specs.Levels.{base, class_block, has_level, is_for_prefixing, is_simulation_block, some_level_of}
use Rattle.sim_scope.specs.Scopes.{class_formals, shows_detach, class_formals_of, found_in, if_found, lookup, shown as shown_of_scopes, searched, declaration_from, binding, entry_of, formals_of, formal_of, result_of, brought_by, level_shows, shown_of, is_detach, ends_search, outward, virtual_of, represented, standard_at}
use Rattle.sim_scope.specs.Source.{source_of, found_at, denoted, type_at, line_at, level_of, block_of, block_around}
use Rattle.sim_scope.specs.Standard.{standard_prefix, standard_name, text_attribute, sysin_attribute, sysout_attribute, signature, undeclared}
use Rattle.sim_scope.specs.Walk.{program_events, of_statement, of_branch, of_arm, of_block, of_whole, of_class_body, of_declaration}
use Rattle.sim_scope.specs.Along.{first_along}
use Rattle.sim_scope.specs.References.{is_this, this_block, this_of}
use Rattle.sim_scope.specs.Tables.{with_entry_at}
use Rattle.sim_meaning.specs.Objects.{putting_reference}
use Rattle.sim_sound.proofs.Unprefixed.{unprefixed}

c_rows : (n : ℕ) → RowHolds access_through_none (slice_get access_through_none.tables.declarations n) (number n)
unfolding digits element_place making_array copying_array keeping_array finding_element giving_back handed_over stopping no_rule ticking taking entering having when computing choosing popping pop_many pop_plain pop_truth pop_integers pop_operands pop_text answering applying_one applying_two testing_step performing putting_back assigning making_text joining at_level kept_on pushing index level_of_machine cell_at jumping block_at own_block leaving with_result putting put_back is_text home_of first_cells leaving_of_meaning constants_of putting_of_steps back_of_steps text_constants text_constant is_variable stream_of own_result own_match result_meant is_inside text is_class_free declared_at constant_of calculate compare compare_as_texts connect same_objects same_texts two_of one_of step_test take_integer take_character take_text take_nothing row_of standard_effect default_mode mode_allowed marked type_named result_named mode_named first_of_procedure first_of_class variable_marks array_marks parameter_marks moded_marks specified_marks headed_marks procedure_marks class_marks virtual_name_marks program_marks inner_marks declaring of_segment of_mode_part of_specification of_specifier of_virtual of_heading declared_by declarations_of run_of_runs lookup shown_of_scopes encloser searched block_at_of_scopes declaration_from binding entry_of formals_of formal_of result_of source_of denoted type_at line_at level_of block_of block_around standard_name text_attribute sysin_attribute sysout_attribute signature undeclared program_events of_statement of_branch of_arm of_block of_whole of_class_body of_declaration accessible protects is_kind some_around_of some_around base brought_by level_shows shown_of is_detach ends_search outward virtual_of represented standard_at qualified_marks qualified_result connection_at transfer_at found_at is_attribute qualification class_prefix_marks prefixed_marks prefix_marks standard_marks marks_of_standard standard_prefix standard_texts class_block has_level is_simulation_block some_level_of shows_detach class_formals class_formals_of found_in if_found object_ended pop_object qualifying referring belongs class_at is_in is_of levels levels_of first_along is_this this_block this_of with_entry_at putting_reference own_attribute
c_rows zero = first
c_rows (suc zero) = later first
c_rows (suc (suc zero)) = first
c_rows (suc (suc (suc zero))) = later first
c_rows (suc (suc (suc (suc zero)))) = first
c_rows (suc (suc (suc (suc (suc zero))))) = later (later first)
c_rows (suc (suc (suc (suc (suc (suc n)))))) = tt

c_made : (d : DeclNo) (k : Holds) → Among d (numbers_of access_through_none 0) → entry_holds access_through_none false (entry_of access_through_none.tables d) ≡ Some (ArrayOf k) → Among d []
unfolding digits element_place making_array copying_array keeping_array finding_element giving_back handed_over stopping no_rule ticking taking entering having when computing choosing popping pop_many pop_plain pop_truth pop_integers pop_operands pop_text answering applying_one applying_two testing_step performing putting_back assigning making_text joining at_level kept_on pushing index level_of_machine cell_at jumping block_at own_block leaving with_result putting put_back is_text home_of first_cells leaving_of_meaning constants_of putting_of_steps back_of_steps text_constants text_constant is_variable stream_of own_result own_match result_meant is_inside text is_class_free declared_at constant_of calculate compare compare_as_texts connect same_objects same_texts two_of one_of step_test take_integer take_character take_text take_nothing row_of standard_effect default_mode mode_allowed marked type_named result_named mode_named first_of_procedure first_of_class variable_marks array_marks parameter_marks moded_marks specified_marks headed_marks procedure_marks class_marks virtual_name_marks program_marks inner_marks declaring of_segment of_mode_part of_specification of_specifier of_virtual of_heading declared_by declarations_of run_of_runs lookup shown_of_scopes encloser searched block_at_of_scopes declaration_from binding entry_of formals_of formal_of result_of source_of denoted type_at line_at level_of block_of block_around standard_name text_attribute sysin_attribute sysout_attribute signature undeclared program_events of_statement of_branch of_arm of_block of_whole of_class_body of_declaration accessible protects is_kind some_around_of some_around base brought_by level_shows shown_of is_detach ends_search outward virtual_of represented standard_at qualified_marks qualified_result connection_at transfer_at found_at is_attribute qualification class_prefix_marks prefixed_marks prefix_marks standard_marks marks_of_standard standard_prefix standard_texts class_block has_level is_simulation_block some_level_of shows_detach class_formals class_formals_of found_in if_found object_ended pop_object qualifying referring belongs class_at is_in is_of levels levels_of first_along is_this this_block this_of with_entry_at putting_reference own_attribute
c_made d k first e = absurd (cc)
c_made d k (later first) e = absurd (cc)
c_made d k (later (later first)) e = absurd (cc)
c_made d k (later (later (later a))) e = a

c_outer : TextHolds access_through_none 0 (text access_through_none 0)
unfolding digits element_place making_array copying_array keeping_array finding_element giving_back handed_over stopping no_rule ticking taking entering having when computing choosing popping pop_many pop_plain pop_truth pop_integers pop_operands pop_text answering applying_one applying_two testing_step performing putting_back assigning making_text joining at_level kept_on pushing index level_of_machine cell_at jumping block_at own_block leaving with_result putting put_back is_text home_of first_cells leaving_of_meaning constants_of putting_of_steps back_of_steps text_constants text_constant is_variable stream_of own_result own_match result_meant is_inside text is_class_free declared_at constant_of calculate compare compare_as_texts connect same_objects same_texts two_of one_of step_test take_integer take_character take_text take_nothing row_of standard_effect default_mode mode_allowed marked type_named result_named mode_named first_of_procedure first_of_class variable_marks array_marks parameter_marks moded_marks specified_marks headed_marks procedure_marks class_marks virtual_name_marks program_marks inner_marks declaring of_segment of_mode_part of_specification of_specifier of_virtual of_heading declared_by declarations_of run_of_runs lookup shown_of_scopes encloser searched block_at_of_scopes declaration_from binding entry_of formals_of formal_of result_of source_of denoted type_at line_at level_of block_of block_around standard_name text_attribute sysin_attribute sysout_attribute signature undeclared program_events of_statement of_branch of_arm of_block of_whole of_class_body of_declaration accessible protects is_kind some_around_of some_around base brought_by level_shows shown_of is_detach ends_search outward virtual_of represented standard_at qualified_marks qualified_result connection_at transfer_at found_at is_attribute qualification class_prefix_marks prefixed_marks prefix_marks standard_marks marks_of_standard standard_prefix standard_texts class_block has_level is_simulation_block some_level_of shows_detach class_formals class_formals_of found_in if_found object_ended pop_object qualifying referring belongs class_at is_in is_of levels levels_of first_along is_this this_block this_of with_entry_at putting_reference own_attribute is_for_prefixing
c_outer = record {
  no_formals = (tt, (tt, (tt, tt)));
  arrays = tt;
  distinct = tt;
  made = c_made;
  own = λ d a. absurd (none_among d a);
  statements = (
    (kind.Reference, ((refl, record { class = 2; qualified = refl; at = (refl, record { found = 0; around = itself; instance = refl; level = refl }) }), tt), (record { declaration = number 1; denotes = refl; class = 2; declares = refl; single = refl; process = λ e. absurd (cc); seen = record { found = 0; around = itself; instance = refl; level = refl }; actuals = tt }, refl)),
    ((None, (tt, (2, refl, refl, (refl, record { found = 0; around = itself; instance = refl; level = refl })), ((refl, record { found = 0; around = itself; instance = refl; level = refl }, tt), tt)), refl), ((kind.Reference, ((refl, record { class = 2; qualified = refl; at = (refl, record { found = 0; around = itself; instance = refl; level = refl }) }), tt), refl), ((None, (tt, (2, refl, refl, (refl, record { found = 0; around = itself; instance = refl; level = refl })), ((refl, record { found = 0; around = itself; instance = refl; level = refl }, tt), tt)), refl), tt))),
  );
}

c_function : TextHolds access_through_none 1 (text access_through_none 1)
unfolding digits element_place making_array copying_array keeping_array finding_element giving_back handed_over stopping no_rule ticking taking entering having when computing choosing popping pop_many pop_plain pop_truth pop_integers pop_operands pop_text answering applying_one applying_two testing_step performing putting_back assigning making_text joining at_level kept_on pushing index level_of_machine cell_at jumping block_at own_block leaving with_result putting put_back is_text home_of first_cells leaving_of_meaning constants_of putting_of_steps back_of_steps text_constants text_constant is_variable stream_of own_result own_match result_meant is_inside text is_class_free declared_at constant_of calculate compare compare_as_texts connect same_objects same_texts two_of one_of step_test take_integer take_character take_text take_nothing row_of standard_effect default_mode mode_allowed marked type_named result_named mode_named first_of_procedure first_of_class variable_marks array_marks parameter_marks moded_marks specified_marks headed_marks procedure_marks class_marks virtual_name_marks program_marks inner_marks declaring of_segment of_mode_part of_specification of_specifier of_virtual of_heading declared_by declarations_of run_of_runs lookup shown_of_scopes encloser searched block_at_of_scopes declaration_from binding entry_of formals_of formal_of result_of source_of denoted type_at line_at level_of block_of block_around standard_name text_attribute sysin_attribute sysout_attribute signature undeclared program_events of_statement of_branch of_arm of_block of_whole of_class_body of_declaration accessible protects is_kind some_around_of some_around base brought_by level_shows shown_of is_detach ends_search outward virtual_of represented standard_at qualified_marks qualified_result connection_at transfer_at found_at is_attribute qualification class_prefix_marks prefixed_marks prefix_marks standard_marks marks_of_standard standard_prefix standard_texts class_block has_level is_simulation_block some_level_of shows_detach class_formals class_formals_of found_in if_found object_ended pop_object qualifying referring belongs class_at is_in is_of levels levels_of first_along is_this this_block this_of with_entry_at putting_reference own_attribute
c_function = record { result = refl; formals = tt; near = λ around e. tt; body = ((None, (((refl, refl, refl), refl), ((_, refl, refl), tt)), refl), ((kind.Integer, ((integer_apart, (refl, itself)), tt), refl), tt)) }

c_parameters : (d : DeclNo) → Among d (numbers_of access_through_none 2) → IsFormal (entry_of access_through_none.tables d) → Among d (class_formals access_through_none.tables 2)
unfolding digits element_place making_array copying_array keeping_array finding_element giving_back handed_over stopping no_rule ticking taking entering having when computing choosing popping pop_many pop_plain pop_truth pop_integers pop_operands pop_text answering applying_one applying_two testing_step performing putting_back assigning making_text joining at_level kept_on pushing index level_of_machine cell_at jumping block_at own_block leaving with_result putting put_back is_text home_of first_cells leaving_of_meaning constants_of putting_of_steps back_of_steps text_constants text_constant is_variable stream_of own_result own_match result_meant is_inside text is_class_free declared_at constant_of calculate compare compare_as_texts connect same_objects same_texts two_of one_of step_test take_integer take_character take_text take_nothing row_of standard_effect default_mode mode_allowed marked type_named result_named mode_named first_of_procedure first_of_class variable_marks array_marks parameter_marks moded_marks specified_marks headed_marks procedure_marks class_marks virtual_name_marks program_marks inner_marks declaring of_segment of_mode_part of_specification of_specifier of_virtual of_heading declared_by declarations_of run_of_runs lookup shown_of_scopes encloser searched block_at_of_scopes declaration_from binding entry_of formals_of formal_of result_of source_of denoted type_at line_at level_of block_of block_around standard_name text_attribute sysin_attribute sysout_attribute signature undeclared program_events of_statement of_branch of_arm of_block of_whole of_class_body of_declaration accessible protects is_kind some_around_of some_around base brought_by level_shows shown_of is_detach ends_search outward virtual_of represented standard_at qualified_marks qualified_result connection_at transfer_at found_at is_attribute qualification class_prefix_marks prefixed_marks prefix_marks standard_marks marks_of_standard standard_prefix standard_texts class_block has_level is_simulation_block some_level_of shows_detach class_formals class_formals_of found_in if_found object_ended pop_object qualifying referring belongs class_at is_in is_of levels levels_of first_along is_this this_block this_of with_entry_at putting_reference own_attribute
c_parameters d first f = absurd f
c_parameters d (later first) f = absurd f
c_parameters d (later (later a)) f = absurd (none_among d a)

c_constants : (d : DeclNo) (type : SimType) → Among d (numbers_of access_through_none 2) → entry_of access_through_none.tables d ≡ Some (entry.Constant type) → ConstantHas access_through_none d type
unfolding digits element_place making_array copying_array keeping_array finding_element giving_back handed_over stopping no_rule ticking taking entering having when computing choosing popping pop_many pop_plain pop_truth pop_integers pop_operands pop_text answering applying_one applying_two testing_step performing putting_back assigning making_text joining at_level kept_on pushing index level_of_machine cell_at jumping block_at own_block leaving with_result putting put_back is_text home_of first_cells leaving_of_meaning constants_of putting_of_steps back_of_steps text_constants text_constant is_variable stream_of own_result own_match result_meant is_inside text is_class_free declared_at constant_of calculate compare compare_as_texts connect same_objects same_texts two_of one_of step_test take_integer take_character take_text take_nothing row_of standard_effect default_mode mode_allowed marked type_named result_named mode_named first_of_procedure first_of_class variable_marks array_marks parameter_marks moded_marks specified_marks headed_marks procedure_marks class_marks virtual_name_marks program_marks inner_marks declaring of_segment of_mode_part of_specification of_specifier of_virtual of_heading declared_by declarations_of run_of_runs lookup shown_of_scopes encloser searched block_at_of_scopes declaration_from binding entry_of formals_of formal_of result_of source_of denoted type_at line_at level_of block_of block_around standard_name text_attribute sysin_attribute sysout_attribute signature undeclared program_events of_statement of_branch of_arm of_block of_whole of_class_body of_declaration accessible protects is_kind some_around_of some_around base brought_by level_shows shown_of is_detach ends_search outward virtual_of represented standard_at qualified_marks qualified_result connection_at transfer_at found_at is_attribute qualification class_prefix_marks prefixed_marks prefix_marks standard_marks marks_of_standard standard_prefix standard_texts class_block has_level is_simulation_block some_level_of shows_detach class_formals class_formals_of found_in if_found object_ended pop_object qualifying referring belongs class_at is_in is_of levels levels_of first_along is_this this_block this_of with_entry_at putting_reference own_attribute
c_constants d type first e = absurd (cc)
c_constants d type (later first) e = absurd (cc)
c_constants d type (later (later a)) e = absurd (none_among d a)

c_arrays : (d : DeclNo) (element : SimType) (dimensions : ℕ) → Among d (numbers_of access_through_none 2) → entry_of access_through_none.tables d ≡ Some (entry.Array element dimensions) → Among d (number 2 ∷ [])
unfolding digits element_place making_array copying_array keeping_array finding_element giving_back handed_over stopping no_rule ticking taking entering having when computing choosing popping pop_many pop_plain pop_truth pop_integers pop_operands pop_text answering applying_one applying_two testing_step performing putting_back assigning making_text joining at_level kept_on pushing index level_of_machine cell_at jumping block_at own_block leaving with_result putting put_back is_text home_of first_cells leaving_of_meaning constants_of putting_of_steps back_of_steps text_constants text_constant is_variable stream_of own_result own_match result_meant is_inside text is_class_free declared_at constant_of calculate compare compare_as_texts connect same_objects same_texts two_of one_of step_test take_integer take_character take_text take_nothing row_of standard_effect default_mode mode_allowed marked type_named result_named mode_named first_of_procedure first_of_class variable_marks array_marks parameter_marks moded_marks specified_marks headed_marks procedure_marks class_marks virtual_name_marks program_marks inner_marks declaring of_segment of_mode_part of_specification of_specifier of_virtual of_heading declared_by declarations_of run_of_runs lookup shown_of_scopes encloser searched block_at_of_scopes declaration_from binding entry_of formals_of formal_of result_of source_of denoted type_at line_at level_of block_of block_around standard_name text_attribute sysin_attribute sysout_attribute signature undeclared program_events of_statement of_branch of_arm of_block of_whole of_class_body of_declaration accessible protects is_kind some_around_of some_around base brought_by level_shows shown_of is_detach ends_search outward virtual_of represented standard_at qualified_marks qualified_result connection_at transfer_at found_at is_attribute qualification class_prefix_marks prefixed_marks prefix_marks standard_marks marks_of_standard standard_prefix standard_texts class_block has_level is_simulation_block some_level_of shows_detach class_formals class_formals_of found_in if_found object_ended pop_object qualifying referring belongs class_at is_in is_of levels levels_of first_along is_this this_block this_of with_entry_at putting_reference own_attribute
c_arrays d element dimensions first e = first
c_arrays d element dimensions (later first) e = absurd (cc)
c_arrays d element dimensions (later (later a)) e = absurd (none_among d a)

c_apart : Among (number 2) (number 3 ∷ []) → ⊥
c_apart (later a) = none_among (number 2) a

c_own : (d : DeclNo) → Among d (number 2 ∷ []) → Among d (numbers_of access_through_none 2)
unfolding digits element_place making_array copying_array keeping_array finding_element giving_back handed_over stopping no_rule ticking taking entering having when computing choosing popping pop_many pop_plain pop_truth pop_integers pop_operands pop_text answering applying_one applying_two testing_step performing putting_back assigning making_text joining at_level kept_on pushing index level_of_machine cell_at jumping block_at own_block leaving with_result putting put_back is_text home_of first_cells leaving_of_meaning constants_of putting_of_steps back_of_steps text_constants text_constant is_variable stream_of own_result own_match result_meant is_inside text is_class_free declared_at constant_of calculate compare compare_as_texts connect same_objects same_texts two_of one_of step_test take_integer take_character take_text take_nothing row_of standard_effect default_mode mode_allowed marked type_named result_named mode_named first_of_procedure first_of_class variable_marks array_marks parameter_marks moded_marks specified_marks headed_marks procedure_marks class_marks virtual_name_marks program_marks inner_marks declaring of_segment of_mode_part of_specification of_specifier of_virtual of_heading declared_by declarations_of run_of_runs lookup shown_of_scopes encloser searched block_at_of_scopes declaration_from binding entry_of formals_of formal_of result_of source_of denoted type_at line_at level_of block_of block_around standard_name text_attribute sysin_attribute sysout_attribute signature undeclared program_events of_statement of_branch of_arm of_block of_whole of_class_body of_declaration accessible protects is_kind some_around_of some_around base brought_by level_shows shown_of is_detach ends_search outward virtual_of represented standard_at qualified_marks qualified_result connection_at transfer_at found_at is_attribute qualification class_prefix_marks prefixed_marks prefix_marks standard_marks marks_of_standard standard_prefix standard_texts class_block has_level is_simulation_block some_level_of shows_detach class_formals class_formals_of found_in if_found object_ended pop_object qualifying referring belongs class_at is_in is_of levels levels_of first_along is_this this_block this_of with_entry_at putting_reference own_attribute
c_own d first = first
c_own d (later a) = absurd (none_among d a)

c_class : TextHolds access_through_none 2 (text access_through_none 2)
unfolding digits element_place making_array copying_array keeping_array finding_element giving_back handed_over stopping no_rule ticking taking entering having when computing choosing popping pop_many pop_plain pop_truth pop_integers pop_operands pop_text answering applying_one applying_two testing_step performing putting_back assigning making_text joining at_level kept_on pushing index level_of_machine cell_at jumping block_at own_block leaving with_result putting put_back is_text home_of first_cells leaving_of_meaning constants_of putting_of_steps back_of_steps text_constants text_constant is_variable stream_of own_result own_match result_meant is_inside text is_class_free declared_at constant_of calculate compare compare_as_texts connect same_objects same_texts two_of one_of step_test take_integer take_character take_text take_nothing row_of standard_effect default_mode mode_allowed marked type_named result_named mode_named first_of_procedure first_of_class variable_marks array_marks parameter_marks moded_marks specified_marks headed_marks procedure_marks class_marks virtual_name_marks program_marks inner_marks declaring of_segment of_mode_part of_specification of_specifier of_virtual of_heading declared_by declarations_of run_of_runs lookup shown_of_scopes encloser searched block_at_of_scopes declaration_from binding entry_of formals_of formal_of result_of source_of denoted type_at line_at level_of block_of block_around standard_name text_attribute sysin_attribute sysout_attribute signature undeclared program_events of_statement of_branch of_arm of_block of_whole of_class_body of_declaration accessible protects is_kind some_around_of some_around base brought_by level_shows shown_of is_detach ends_search outward virtual_of represented standard_at qualified_marks qualified_result connection_at transfer_at found_at is_attribute qualification class_prefix_marks prefixed_marks prefix_marks standard_marks marks_of_standard standard_prefix standard_texts class_block has_level is_simulation_block some_level_of shows_detach class_formals class_formals_of found_in if_found object_ended pop_object qualifying referring belongs class_at is_in is_of levels levels_of first_along is_this this_block this_of with_entry_at putting_reference own_attribute
c_class = record {
  formals = tt;
  parameters = c_parameters;
  different = (c_apart, ((λ a. none_among (number 3) a), tt));
  not_by_name = λ d k a e. none_named access_through_none d k (numbers_of access_through_none 2) (tt, (tt, tt)) a e;
  no_procedure = λ d r a e. no_procedures access_through_none d r (numbers_of access_through_none 2) (tt, (tt, tt)) a e;
  constants = c_constants;
  arrays = (Simply kind.Integer, refl, ((refl, refl, tt), tt, tt, (record { declaration = number 2; at = refl; element = sim_type.Integer; dimensions = 1; is = refl; holds = refl }, tt), tt), tt);
  distinct = ((λ a. none_among (number 2) a), tt);
  made = c_arrays;
  own = c_own;
  statements = tt;
  stays = refl;
}

c_procedure : TextHolds access_through_none 3 (text access_through_none 3)
unfolding digits element_place making_array copying_array keeping_array finding_element giving_back handed_over stopping no_rule ticking taking entering having when computing choosing popping pop_many pop_plain pop_truth pop_integers pop_operands pop_text answering applying_one applying_two testing_step performing putting_back assigning making_text joining at_level kept_on pushing index level_of_machine cell_at jumping block_at own_block leaving with_result putting put_back is_text home_of first_cells leaving_of_meaning constants_of putting_of_steps back_of_steps text_constants text_constant is_variable stream_of own_result own_match result_meant is_inside text is_class_free declared_at constant_of calculate compare compare_as_texts connect same_objects same_texts two_of one_of step_test take_integer take_character take_text take_nothing row_of standard_effect default_mode mode_allowed marked type_named result_named mode_named first_of_procedure first_of_class variable_marks array_marks parameter_marks moded_marks specified_marks headed_marks procedure_marks class_marks virtual_name_marks program_marks inner_marks declaring of_segment of_mode_part of_specification of_specifier of_virtual of_heading declared_by declarations_of run_of_runs lookup shown_of_scopes encloser searched block_at_of_scopes declaration_from binding entry_of formals_of formal_of result_of source_of denoted type_at line_at level_of block_of block_around standard_name text_attribute sysin_attribute sysout_attribute signature undeclared program_events of_statement of_branch of_arm of_block of_whole of_class_body of_declaration accessible protects is_kind some_around_of some_around base brought_by level_shows shown_of is_detach ends_search outward virtual_of represented standard_at qualified_marks qualified_result connection_at transfer_at found_at is_attribute qualification class_prefix_marks prefixed_marks prefix_marks standard_marks marks_of_standard standard_prefix standard_texts class_block has_level is_simulation_block some_level_of shows_detach class_formals class_formals_of found_in if_found object_ended pop_object qualifying referring belongs class_at is_in is_of levels levels_of first_along is_this this_block this_of with_entry_at putting_reference own_attribute
c_procedure = record { result = tt; formals = (Simply kind.Integer, refl, refl, tt); near = λ around e. (tt, tt); body = (None, (((refl, refl, refl), refl), ((refl, record { found = 3; around = itself; instance = refl; level = refl }), (refl, tt))), refl) }

c_texts : (k : ℕ) → TextHolds access_through_none k (text access_through_none k)
unfolding digits element_place making_array copying_array keeping_array finding_element giving_back handed_over stopping no_rule ticking taking entering having when computing choosing popping pop_many pop_plain pop_truth pop_integers pop_operands pop_text answering applying_one applying_two testing_step performing putting_back assigning making_text joining at_level kept_on pushing index level_of_machine cell_at jumping block_at own_block leaving with_result putting put_back is_text home_of first_cells leaving_of_meaning constants_of putting_of_steps back_of_steps text_constants text_constant is_variable stream_of own_result own_match result_meant is_inside text is_class_free declared_at constant_of calculate compare compare_as_texts connect same_objects same_texts two_of one_of step_test take_integer take_character take_text take_nothing row_of standard_effect default_mode mode_allowed marked type_named result_named mode_named first_of_procedure first_of_class variable_marks array_marks parameter_marks moded_marks specified_marks headed_marks procedure_marks class_marks virtual_name_marks program_marks inner_marks declaring of_segment of_mode_part of_specification of_specifier of_virtual of_heading declared_by declarations_of run_of_runs lookup shown_of_scopes encloser searched block_at_of_scopes declaration_from binding entry_of formals_of formal_of result_of source_of denoted type_at line_at level_of block_of block_around standard_name text_attribute sysin_attribute sysout_attribute signature undeclared program_events of_statement of_branch of_arm of_block of_whole of_class_body of_declaration accessible protects is_kind some_around_of some_around base brought_by level_shows shown_of is_detach ends_search outward virtual_of represented standard_at qualified_marks qualified_result connection_at transfer_at found_at is_attribute qualification class_prefix_marks prefixed_marks prefix_marks standard_marks marks_of_standard standard_prefix standard_texts class_block has_level is_simulation_block some_level_of shows_detach class_formals class_formals_of found_in if_found object_ended pop_object qualifying referring belongs class_at is_in is_of levels levels_of first_along is_this this_block this_of with_entry_at putting_reference own_attribute
c_texts zero = c_outer
c_texts (suc zero) = c_function
c_texts (suc (suc zero)) = c_class
c_texts (suc (suc (suc zero))) = c_procedure
c_texts (suc (suc (suc (suc k)))) = tt

c_levels : (t u : ℕ) → encloser access_through_none.tables t ≡ Some u → level_of access_through_none t ≡ suc (level_of access_through_none u)
unfolding digits element_place making_array copying_array keeping_array finding_element giving_back handed_over stopping no_rule ticking taking entering having when computing choosing popping pop_many pop_plain pop_truth pop_integers pop_operands pop_text answering applying_one applying_two testing_step performing putting_back assigning making_text joining at_level kept_on pushing index level_of_machine cell_at jumping block_at own_block leaving with_result putting put_back is_text home_of first_cells leaving_of_meaning constants_of putting_of_steps back_of_steps text_constants text_constant is_variable stream_of own_result own_match result_meant is_inside text is_class_free declared_at constant_of calculate compare compare_as_texts connect same_objects same_texts two_of one_of step_test take_integer take_character take_text take_nothing row_of standard_effect default_mode mode_allowed marked type_named result_named mode_named first_of_procedure first_of_class variable_marks array_marks parameter_marks moded_marks specified_marks headed_marks procedure_marks class_marks virtual_name_marks program_marks inner_marks declaring of_segment of_mode_part of_specification of_specifier of_virtual of_heading declared_by declarations_of run_of_runs lookup shown_of_scopes encloser searched block_at_of_scopes declaration_from binding entry_of formals_of formal_of result_of source_of denoted type_at line_at level_of block_of block_around standard_name text_attribute sysin_attribute sysout_attribute signature undeclared program_events of_statement of_branch of_arm of_block of_whole of_class_body of_declaration accessible protects is_kind some_around_of some_around base brought_by level_shows shown_of is_detach ends_search outward virtual_of represented standard_at qualified_marks qualified_result connection_at transfer_at found_at is_attribute qualification class_prefix_marks prefixed_marks prefix_marks standard_marks marks_of_standard standard_prefix standard_texts class_block has_level is_simulation_block some_level_of shows_detach class_formals class_formals_of found_in if_found object_ended pop_object qualifying referring belongs class_at is_in is_of levels levels_of first_along is_this this_block this_of with_entry_at putting_reference own_attribute
c_levels zero u e = absurd (cc)
c_levels (suc zero) u e = let f : 0 ≡ u = cc in subst (λ z. level_of access_through_none 1 ≡ suc (level_of access_through_none z)) f refl
c_levels (suc (suc zero)) u e = let f : 0 ≡ u = cc in subst (λ z. level_of access_through_none 2 ≡ suc (level_of access_through_none z)) f refl
c_levels (suc (suc (suc zero))) u e = let f : 2 ≡ u = cc in subst (λ z. level_of access_through_none 3 ≡ suc (level_of access_through_none z)) f refl
c_levels (suc (suc (suc (suc t)))) u e = absurd (cc)

f_there : ProcedureThere access_through_none (number 0) 1
unfolding digits element_place making_array copying_array keeping_array finding_element giving_back handed_over stopping no_rule ticking taking entering having when computing choosing popping pop_many pop_plain pop_truth pop_integers pop_operands pop_text answering applying_one applying_two testing_step performing putting_back assigning making_text joining at_level kept_on pushing index level_of_machine cell_at jumping block_at own_block leaving with_result putting put_back is_text home_of first_cells leaving_of_meaning constants_of putting_of_steps back_of_steps text_constants text_constant is_variable stream_of own_result own_match result_meant is_inside text is_class_free declared_at constant_of calculate compare compare_as_texts connect same_objects same_texts two_of one_of step_test take_integer take_character take_text take_nothing row_of standard_effect default_mode mode_allowed marked type_named result_named mode_named first_of_procedure first_of_class variable_marks array_marks parameter_marks moded_marks specified_marks headed_marks procedure_marks class_marks virtual_name_marks program_marks inner_marks declaring of_segment of_mode_part of_specification of_specifier of_virtual of_heading declared_by declarations_of run_of_runs lookup shown_of_scopes encloser searched block_at_of_scopes declaration_from binding entry_of formals_of formal_of result_of source_of denoted type_at line_at level_of block_of block_around standard_name text_attribute sysin_attribute sysout_attribute signature undeclared program_events of_statement of_branch of_arm of_block of_whole of_class_body of_declaration accessible protects is_kind some_around_of some_around base brought_by level_shows shown_of is_detach ends_search outward virtual_of represented standard_at qualified_marks qualified_result connection_at transfer_at found_at is_attribute qualification class_prefix_marks prefixed_marks prefix_marks standard_marks marks_of_standard standard_prefix standard_texts class_block has_level is_simulation_block some_level_of shows_detach class_formals class_formals_of found_in if_found object_ended pop_object qualifying referring belongs class_at is_in is_of levels levels_of first_along is_this this_block this_of with_entry_at putting_reference own_attribute
f_there = record { given = _; heading = _; body = _; is = refl; around = refl; owned = refl }

p_there : ProcedureThere access_through_none (number 3) 3
unfolding digits element_place making_array copying_array keeping_array finding_element giving_back handed_over stopping no_rule ticking taking entering having when computing choosing popping pop_many pop_plain pop_truth pop_integers pop_operands pop_text answering applying_one applying_two testing_step performing putting_back assigning making_text joining at_level kept_on pushing index level_of_machine cell_at jumping block_at own_block leaving with_result putting put_back is_text home_of first_cells leaving_of_meaning constants_of putting_of_steps back_of_steps text_constants text_constant is_variable stream_of own_result own_match result_meant is_inside text is_class_free declared_at constant_of calculate compare compare_as_texts connect same_objects same_texts two_of one_of step_test take_integer take_character take_text take_nothing row_of standard_effect default_mode mode_allowed marked type_named result_named mode_named first_of_procedure first_of_class variable_marks array_marks parameter_marks moded_marks specified_marks headed_marks procedure_marks class_marks virtual_name_marks program_marks inner_marks declaring of_segment of_mode_part of_specification of_specifier of_virtual of_heading declared_by declarations_of run_of_runs lookup shown_of_scopes encloser searched block_at_of_scopes declaration_from binding entry_of formals_of formal_of result_of source_of denoted type_at line_at level_of block_of block_around standard_name text_attribute sysin_attribute sysout_attribute signature undeclared program_events of_statement of_branch of_arm of_block of_whole of_class_body of_declaration accessible protects is_kind some_around_of some_around base brought_by level_shows shown_of is_detach ends_search outward virtual_of represented standard_at qualified_marks qualified_result connection_at transfer_at found_at is_attribute qualification class_prefix_marks prefixed_marks prefix_marks standard_marks marks_of_standard standard_prefix standard_texts class_block has_level is_simulation_block some_level_of shows_detach class_formals class_formals_of found_in if_found object_ended pop_object qualifying referring belongs class_at is_in is_of levels levels_of first_along is_this this_block this_of with_entry_at putting_reference own_attribute
p_there = record { given = _; heading = _; body = _; is = refl; around = refl; owned = refl }

a_there : ClassThere access_through_none (number 1) 2
unfolding digits element_place making_array copying_array keeping_array finding_element giving_back handed_over stopping no_rule ticking taking entering having when computing choosing popping pop_many pop_plain pop_truth pop_integers pop_operands pop_text answering applying_one applying_two testing_step performing putting_back assigning making_text joining at_level kept_on pushing index level_of_machine cell_at jumping block_at own_block leaving with_result putting put_back is_text home_of first_cells leaving_of_meaning constants_of putting_of_steps back_of_steps text_constants text_constant is_variable stream_of own_result own_match result_meant is_inside text is_class_free declared_at constant_of calculate compare compare_as_texts connect same_objects same_texts two_of one_of step_test take_integer take_character take_text take_nothing row_of standard_effect default_mode mode_allowed marked type_named result_named mode_named first_of_procedure first_of_class variable_marks array_marks parameter_marks moded_marks specified_marks headed_marks procedure_marks class_marks virtual_name_marks program_marks inner_marks declaring of_segment of_mode_part of_specification of_specifier of_virtual of_heading declared_by declarations_of run_of_runs lookup shown_of_scopes encloser searched block_at_of_scopes declaration_from binding entry_of formals_of formal_of result_of source_of denoted type_at line_at level_of block_of block_around standard_name text_attribute sysin_attribute sysout_attribute signature undeclared program_events of_statement of_branch of_arm of_block of_whole of_class_body of_declaration accessible protects is_kind some_around_of some_around base brought_by level_shows shown_of is_detach ends_search outward virtual_of represented standard_at qualified_marks qualified_result connection_at transfer_at found_at is_attribute qualification class_prefix_marks prefixed_marks prefix_marks standard_marks marks_of_standard standard_prefix standard_texts class_block has_level is_simulation_block some_level_of shows_detach class_formals class_formals_of found_in if_found object_ended pop_object qualifying referring belongs class_at is_in is_of levels levels_of first_along is_this this_block this_of with_entry_at putting_reference own_attribute
a_there = record { is = refl; around = refl }

c_procedures : (n : ℕ) (result : Option SimType) (k : ℕ) → entry_of access_through_none.tables (number n) ≡ Some (entry.Procedure result k) → ProcedureThere access_through_none (number n) k
unfolding digits element_place making_array copying_array keeping_array finding_element giving_back handed_over stopping no_rule ticking taking entering having when computing choosing popping pop_many pop_plain pop_truth pop_integers pop_operands pop_text answering applying_one applying_two testing_step performing putting_back assigning making_text joining at_level kept_on pushing index level_of_machine cell_at jumping block_at own_block leaving with_result putting put_back is_text home_of first_cells leaving_of_meaning constants_of putting_of_steps back_of_steps text_constants text_constant is_variable stream_of own_result own_match result_meant is_inside text is_class_free declared_at constant_of calculate compare compare_as_texts connect same_objects same_texts two_of one_of step_test take_integer take_character take_text take_nothing row_of standard_effect default_mode mode_allowed marked type_named result_named mode_named first_of_procedure first_of_class variable_marks array_marks parameter_marks moded_marks specified_marks headed_marks procedure_marks class_marks virtual_name_marks program_marks inner_marks declaring of_segment of_mode_part of_specification of_specifier of_virtual of_heading declared_by declarations_of run_of_runs lookup shown_of_scopes encloser searched block_at_of_scopes declaration_from binding entry_of formals_of formal_of result_of source_of denoted type_at line_at level_of block_of block_around standard_name text_attribute sysin_attribute sysout_attribute signature undeclared program_events of_statement of_branch of_arm of_block of_whole of_class_body of_declaration accessible protects is_kind some_around_of some_around base brought_by level_shows shown_of is_detach ends_search outward virtual_of represented standard_at qualified_marks qualified_result connection_at transfer_at found_at is_attribute qualification class_prefix_marks prefixed_marks prefix_marks standard_marks marks_of_standard standard_prefix standard_texts class_block has_level is_simulation_block some_level_of shows_detach class_formals class_formals_of found_in if_found object_ended pop_object qualifying referring belongs class_at is_in is_of levels levels_of first_along is_this this_block this_of with_entry_at putting_reference own_attribute
c_procedures zero result k e = let b : 1 ≡ k = cc in subst (λ z. ProcedureThere access_through_none (number 0) z) b f_there
c_procedures (suc zero) result k e = absurd (cc)
c_procedures (suc (suc zero)) result k e = absurd (cc)
c_procedures (suc (suc (suc zero))) result k e = let b : 3 ≡ k = cc in subst (λ z. ProcedureThere access_through_none (number 3) z) b p_there
c_procedures (suc (suc (suc (suc zero)))) result k e = absurd (cc)
c_procedures (suc (suc (suc (suc (suc zero))))) result k e = absurd (cc)
c_procedures (suc (suc (suc (suc (suc (suc n)))))) result k e = absurd (cc)

c_classes : (n : ℕ) (k : ℕ) → entry_of access_through_none.tables (number n) ≡ Some (entry.Class k) → ClassThere access_through_none (number n) k
unfolding digits element_place making_array copying_array keeping_array finding_element giving_back handed_over stopping no_rule ticking taking entering having when computing choosing popping pop_many pop_plain pop_truth pop_integers pop_operands pop_text answering applying_one applying_two testing_step performing putting_back assigning making_text joining at_level kept_on pushing index level_of_machine cell_at jumping block_at own_block leaving with_result putting put_back is_text home_of first_cells leaving_of_meaning constants_of putting_of_steps back_of_steps text_constants text_constant is_variable stream_of own_result own_match result_meant is_inside text is_class_free declared_at constant_of calculate compare compare_as_texts connect same_objects same_texts two_of one_of step_test take_integer take_character take_text take_nothing row_of standard_effect default_mode mode_allowed marked type_named result_named mode_named first_of_procedure first_of_class variable_marks array_marks parameter_marks moded_marks specified_marks headed_marks procedure_marks class_marks virtual_name_marks program_marks inner_marks declaring of_segment of_mode_part of_specification of_specifier of_virtual of_heading declared_by declarations_of run_of_runs lookup shown_of_scopes encloser searched block_at_of_scopes declaration_from binding entry_of formals_of formal_of result_of source_of denoted type_at line_at level_of block_of block_around standard_name text_attribute sysin_attribute sysout_attribute signature undeclared program_events of_statement of_branch of_arm of_block of_whole of_class_body of_declaration accessible protects is_kind some_around_of some_around base brought_by level_shows shown_of is_detach ends_search outward virtual_of represented standard_at qualified_marks qualified_result connection_at transfer_at found_at is_attribute qualification class_prefix_marks prefixed_marks prefix_marks standard_marks marks_of_standard standard_prefix standard_texts class_block has_level is_simulation_block some_level_of shows_detach class_formals class_formals_of found_in if_found object_ended pop_object qualifying referring belongs class_at is_in is_of levels levels_of first_along is_this this_block this_of with_entry_at putting_reference own_attribute
c_classes zero k e = absurd (cc)
c_classes (suc zero) k e = let b : 2 ≡ k = cc in subst (λ z. ClassThere access_through_none (number 1) z) b a_there
c_classes (suc (suc zero)) k e = absurd (cc)
c_classes (suc (suc (suc zero))) k e = absurd (cc)
c_classes (suc (suc (suc (suc zero)))) k e = absurd (cc)
c_classes (suc (suc (suc (suc (suc zero))))) k e = absurd (cc)
c_classes (suc (suc (suc (suc (suc (suc n)))))) k e = absurd (cc)

c_free : (t u : ℕ) → encloser access_through_none.tables t ≡ Some u → is_class_free access_through_none t ≡ false → is_class_free access_through_none u ≡ false
unfolding digits element_place making_array copying_array keeping_array finding_element giving_back handed_over stopping no_rule ticking taking entering having when computing choosing popping pop_many pop_plain pop_truth pop_integers pop_operands pop_text answering applying_one applying_two testing_step performing putting_back assigning making_text joining at_level kept_on pushing index level_of_machine cell_at jumping block_at own_block leaving with_result putting put_back is_text home_of first_cells leaving_of_meaning constants_of putting_of_steps back_of_steps text_constants text_constant is_variable stream_of own_result own_match result_meant is_inside text is_class_free declared_at constant_of calculate compare compare_as_texts connect same_objects same_texts two_of one_of step_test take_integer take_character take_text take_nothing row_of standard_effect default_mode mode_allowed marked type_named result_named mode_named first_of_procedure first_of_class variable_marks array_marks parameter_marks moded_marks specified_marks headed_marks procedure_marks class_marks virtual_name_marks program_marks inner_marks declaring of_segment of_mode_part of_specification of_specifier of_virtual of_heading declared_by declarations_of run_of_runs lookup shown_of_scopes encloser searched block_at_of_scopes declaration_from binding entry_of formals_of formal_of result_of source_of denoted type_at line_at level_of block_of block_around standard_name text_attribute sysin_attribute sysout_attribute signature undeclared program_events of_statement of_branch of_arm of_block of_whole of_class_body of_declaration accessible protects is_kind some_around_of some_around base brought_by level_shows shown_of is_detach ends_search outward virtual_of represented standard_at qualified_marks qualified_result connection_at transfer_at found_at is_attribute qualification class_prefix_marks prefixed_marks prefix_marks standard_marks marks_of_standard standard_prefix standard_texts class_block has_level is_simulation_block some_level_of shows_detach class_formals class_formals_of found_in if_found object_ended pop_object qualifying referring belongs class_at is_in is_of levels levels_of first_along is_this this_block this_of with_entry_at putting_reference own_attribute
c_free zero u around e = absurd (cc)
c_free (suc zero) u around e = absurd (cc)
c_free (suc (suc zero)) u around e = let f : 0 ≡ u = cc in subst (λ z. is_class_free access_through_none z ≡ false) f refl
c_free (suc (suc (suc zero))) u around e = absurd (cc)
c_free (suc (suc (suc (suc t)))) u around e = absurd (cc)

c_unprefixed : (k : ℕ) → base access_through_none.tables k ≡ None
unfolding digits element_place making_array copying_array keeping_array finding_element giving_back handed_over stopping no_rule ticking taking entering having when computing choosing popping pop_many pop_plain pop_truth pop_integers pop_operands pop_text answering applying_one applying_two testing_step performing putting_back assigning making_text joining at_level kept_on pushing index level_of_machine cell_at jumping block_at own_block leaving with_result putting put_back is_text home_of first_cells leaving_of_meaning constants_of putting_of_steps back_of_steps text_constants text_constant is_variable stream_of own_result own_match result_meant is_inside text is_class_free declared_at constant_of calculate compare compare_as_texts connect same_objects same_texts two_of one_of step_test take_integer take_character take_text take_nothing row_of standard_effect default_mode mode_allowed marked type_named result_named mode_named first_of_procedure first_of_class variable_marks array_marks parameter_marks moded_marks specified_marks headed_marks procedure_marks class_marks virtual_name_marks program_marks inner_marks declaring of_segment of_mode_part of_specification of_specifier of_virtual of_heading declared_by declarations_of run_of_runs lookup shown_of_scopes encloser searched block_at_of_scopes declaration_from binding entry_of formals_of formal_of result_of source_of denoted type_at line_at level_of block_of block_around standard_name text_attribute sysin_attribute sysout_attribute signature undeclared program_events of_statement of_branch of_arm of_block of_whole of_class_body of_declaration accessible protects is_kind some_around_of some_around base brought_by level_shows shown_of is_detach ends_search outward virtual_of represented standard_at qualified_marks qualified_result connection_at transfer_at found_at is_attribute qualification class_prefix_marks prefixed_marks prefix_marks standard_marks marks_of_standard standard_prefix standard_texts class_block has_level is_simulation_block some_level_of shows_detach class_formals class_formals_of found_in if_found object_ended pop_object qualifying referring belongs class_at is_in is_of levels levels_of first_along is_this this_block this_of with_entry_at putting_reference own_attribute
c_unprefixed zero = refl
c_unprefixed (suc zero) = refl
c_unprefixed (suc (suc zero)) = refl
c_unprefixed (suc (suc (suc zero))) = refl
c_unprefixed (suc (suc (suc (suc k)))) = refl

c_no_set : (k : ℕ) → NoSetText (text access_through_none k)
unfolding digits element_place making_array copying_array keeping_array finding_element giving_back handed_over stopping no_rule ticking taking entering having when computing choosing popping pop_many pop_plain pop_truth pop_integers pop_operands pop_text answering applying_one applying_two testing_step performing putting_back assigning making_text joining at_level kept_on pushing index level_of_machine cell_at jumping block_at own_block leaving with_result putting put_back is_text home_of first_cells leaving_of_meaning constants_of putting_of_steps back_of_steps text_constants text_constant is_variable stream_of own_result own_match result_meant is_inside text is_class_free declared_at constant_of calculate compare compare_as_texts connect same_objects same_texts two_of one_of step_test take_integer take_character take_text take_nothing row_of standard_effect default_mode mode_allowed marked type_named result_named mode_named first_of_procedure first_of_class variable_marks array_marks parameter_marks moded_marks specified_marks headed_marks procedure_marks class_marks virtual_name_marks program_marks inner_marks declaring of_segment of_mode_part of_specification of_specifier of_virtual of_heading declared_by declarations_of run_of_runs lookup shown_of_scopes encloser searched block_at_of_scopes declaration_from binding entry_of formals_of formal_of result_of source_of denoted type_at line_at level_of block_of block_around standard_name text_attribute sysin_attribute sysout_attribute signature undeclared program_events of_statement of_branch of_arm of_block of_whole of_class_body of_declaration accessible protects is_kind some_around_of some_around base brought_by level_shows shown_of is_detach ends_search outward virtual_of represented standard_at qualified_marks qualified_result connection_at transfer_at found_at is_attribute qualification class_prefix_marks prefixed_marks prefix_marks standard_marks marks_of_standard standard_prefix standard_texts class_block has_level is_simulation_block some_level_of shows_detach class_formals class_formals_of found_in if_found object_ended pop_object qualifying referring belongs class_at is_in is_of levels levels_of first_along is_this this_block this_of with_entry_at putting_reference own_attribute
c_no_set zero = tt
c_no_set (suc zero) = tt
c_no_set (suc (suc zero)) = tt
c_no_set (suc (suc (suc zero))) = tt
c_no_set (suc (suc (suc (suc k)))) = tt

c_no_simulation : (k : ℕ) → is_simulation_block access_through_none.tables k ≡ false
unfolding digits element_place making_array copying_array keeping_array finding_element giving_back handed_over stopping no_rule ticking taking entering having when computing choosing popping pop_many pop_plain pop_truth pop_integers pop_operands pop_text answering applying_one applying_two testing_step performing putting_back assigning making_text joining at_level kept_on pushing index level_of_machine cell_at jumping block_at own_block leaving with_result putting put_back is_text home_of first_cells leaving_of_meaning constants_of putting_of_steps back_of_steps text_constants text_constant is_variable stream_of own_result own_match result_meant is_inside text is_class_free declared_at constant_of calculate compare compare_as_texts connect same_objects same_texts two_of one_of step_test take_integer take_character take_text take_nothing row_of standard_effect default_mode mode_allowed marked type_named result_named mode_named first_of_procedure first_of_class variable_marks array_marks parameter_marks moded_marks specified_marks headed_marks procedure_marks class_marks virtual_name_marks program_marks inner_marks declaring of_segment of_mode_part of_specification of_specifier of_virtual of_heading declared_by declarations_of run_of_runs lookup shown_of_scopes encloser searched block_at_of_scopes declaration_from binding entry_of formals_of formal_of result_of source_of denoted type_at line_at level_of block_of block_around standard_name text_attribute sysin_attribute sysout_attribute signature undeclared program_events of_statement of_branch of_arm of_block of_whole of_class_body of_declaration accessible protects is_kind some_around_of some_around base brought_by level_shows shown_of is_detach ends_search outward virtual_of represented standard_at qualified_marks qualified_result connection_at transfer_at found_at is_attribute qualification class_prefix_marks prefixed_marks prefix_marks standard_marks marks_of_standard standard_prefix standard_texts class_block has_level is_simulation_block some_level_of shows_detach class_formals class_formals_of found_in if_found object_ended pop_object qualifying referring belongs class_at is_in is_of levels levels_of first_along is_this this_block this_of with_entry_at putting_reference own_attribute
c_no_simulation zero = refl
c_no_simulation (suc zero) = refl
c_no_simulation (suc (suc zero)) = refl
c_no_simulation (suc (suc (suc zero))) = refl
c_no_simulation (suc (suc (suc (suc k)))) = refl

c_no_attribute : (n : ℕ) → NoSetProcedure (entry_of access_through_none.tables (number n))
unfolding digits element_place making_array copying_array keeping_array finding_element giving_back handed_over stopping no_rule ticking taking entering having when computing choosing popping pop_many pop_plain pop_truth pop_integers pop_operands pop_text answering applying_one applying_two testing_step performing putting_back assigning making_text joining at_level kept_on pushing index level_of_machine cell_at jumping block_at own_block leaving with_result putting put_back is_text home_of first_cells leaving_of_meaning constants_of putting_of_steps back_of_steps text_constants text_constant is_variable stream_of own_result own_match result_meant is_inside text is_class_free declared_at constant_of calculate compare compare_as_texts connect same_objects same_texts two_of one_of step_test take_integer take_character take_text take_nothing row_of standard_effect default_mode mode_allowed marked type_named result_named mode_named first_of_procedure first_of_class variable_marks array_marks parameter_marks moded_marks specified_marks headed_marks procedure_marks class_marks virtual_name_marks program_marks inner_marks declaring of_segment of_mode_part of_specification of_specifier of_virtual of_heading declared_by declarations_of run_of_runs lookup shown_of_scopes encloser searched block_at_of_scopes declaration_from binding entry_of formals_of formal_of result_of source_of denoted type_at line_at level_of block_of block_around standard_name text_attribute sysin_attribute sysout_attribute signature undeclared program_events of_statement of_branch of_arm of_block of_whole of_class_body of_declaration accessible protects is_kind some_around_of some_around base brought_by level_shows shown_of is_detach ends_search outward virtual_of represented standard_at qualified_marks qualified_result connection_at transfer_at found_at is_attribute qualification class_prefix_marks prefixed_marks prefix_marks standard_marks marks_of_standard standard_prefix standard_texts class_block has_level is_simulation_block some_level_of shows_detach class_formals class_formals_of found_in if_found object_ended pop_object qualifying referring belongs class_at is_in is_of levels levels_of first_along is_this this_block this_of with_entry_at putting_reference own_attribute
c_no_attribute zero = tt
c_no_attribute (suc zero) = tt
c_no_attribute (suc (suc zero)) = tt
c_no_attribute (suc (suc (suc zero))) = tt
c_no_attribute (suc (suc (suc (suc zero)))) = tt
c_no_attribute (suc (suc (suc (suc (suc zero))))) = tt
c_no_attribute (suc (suc (suc (suc (suc (suc n)))))) = tt

pub c_typed : Typed access_through_none
unfolding digits element_place making_array copying_array keeping_array finding_element giving_back handed_over stopping no_rule ticking taking entering having when computing choosing popping pop_many pop_plain pop_truth pop_integers pop_operands pop_text answering applying_one applying_two testing_step performing putting_back assigning making_text joining at_level kept_on pushing index level_of_machine cell_at jumping block_at own_block leaving with_result putting put_back is_text home_of first_cells leaving_of_meaning constants_of putting_of_steps back_of_steps text_constants text_constant is_variable stream_of own_result own_match result_meant is_inside text is_class_free declared_at constant_of calculate compare compare_as_texts connect same_objects same_texts two_of one_of step_test take_integer take_character take_text take_nothing row_of standard_effect default_mode mode_allowed marked type_named result_named mode_named first_of_procedure first_of_class variable_marks array_marks parameter_marks moded_marks specified_marks headed_marks procedure_marks class_marks virtual_name_marks program_marks inner_marks declaring of_segment of_mode_part of_specification of_specifier of_virtual of_heading declared_by declarations_of run_of_runs lookup shown_of_scopes encloser searched block_at_of_scopes declaration_from binding entry_of formals_of formal_of result_of source_of denoted type_at line_at level_of block_of block_around standard_name text_attribute sysin_attribute sysout_attribute signature undeclared program_events of_statement of_branch of_arm of_block of_whole of_class_body of_declaration accessible protects is_kind some_around_of some_around base brought_by level_shows shown_of is_detach ends_search outward virtual_of represented standard_at qualified_marks qualified_result connection_at transfer_at found_at is_attribute qualification class_prefix_marks prefixed_marks prefix_marks standard_marks marks_of_standard standard_prefix standard_texts class_block has_level is_simulation_block some_level_of shows_detach class_formals class_formals_of found_in if_found object_ended pop_object qualifying referring belongs class_at is_in is_of levels levels_of first_along is_this this_block this_of with_entry_at putting_reference own_attribute
c_typed = record {
  starts = as_block refl;
  some_block = omega arith;
  outermost = refl;
  levels = λ t u solid e. c_levels t u e;
  listed = λ d row h e holds. row_holds access_through_none (slice_get access_through_none.tables.declarations d.0) d row e (c_rows d.0);
  procedures = λ d result k e. c_procedures d.0 result k e;
  classes = λ d k e. c_classes d.0 k e;
  texts = λ k x e. text_holds access_through_none k (text access_through_none k) x e (c_texts k);
  not_class_free = c_free;
  prefixes = unprefixed access_through_none (omega arith) (λ k solid. c_unprefixed k);
  set_classes = λ k which e. absurd (no_set_text (text access_through_none k) which (c_no_set k) e);
  virtuals = λ v result own e. absurd (no_virtual (entry_of access_through_none.tables v) result own (c_no_attribute v.0) e);
  matches = λ v result own k match e found. absurd (no_virtual (entry_of access_through_none.tables v) result own (c_no_attribute v.0) e);
  set_procedures = λ d name parameter result e named. absurd (no_set_procedure (entry_of access_through_none.tables d) name parameter result (c_no_attribute d.0) e);
  simulations = λ k e. absurd (true_never (is_simulation_block access_through_none.tables k) (c_no_simulation k) e);
  processes = λ c k solid e is. absurd (no_set_text (text access_through_none k) standard.Process (c_no_set k) is);
  simulation_procedures = λ d name parameter result e named. absurd (no_set_procedure (entry_of access_through_none.tables d) name parameter result (c_no_attribute d.0) e);
  bare = λ d row which at is. absurd (no_set_text (text access_through_none row.block) which (c_no_set row.block) is);
  no_set_block = λ k u which class es ds ss e at is. no_set_text (text access_through_none u) which (c_no_set u) is;
}

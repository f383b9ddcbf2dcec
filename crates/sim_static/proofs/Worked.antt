-- Small sources, judged by the static rules.
use Rattle.std.proofs.Common.{◌≡◌, Bool, true, false, Some, refl, ap, ◌∙◌, if◌then◌else◌}
use Rattle.std.specs.Prelude.{nat_eq}
use Rattle.std.specs.List.{list_any}
use Rattle.std.specs.Str.{bytes_eq}
use Rattle.sim_base.specs.declared.rule.Rule.TheVariants as r
use Rattle.sim_tree.specs.declared.expr.Identifier.{Identifier}
use Rattle.sim_scope.specs.declared.types.Entry.{Entry}
use Rattle.sim_scope.specs.Breaks.{again_breaks, at, counting_breaks, row_breaks, where_true}
use Rattle.sim_scope.specs.Building.{BuildingOf}
use Rattle.sim_scope.specs.Scopes.{declared_in}
use Rattle.sim_scope.specs.Tables.{BlockOf}
use Rattle.sim_scope.specs.Access.{accessible, block_at, encloser, hides, is_kind, is_open, names_hidden, opens, protector, protector_of, protects, some_around, some_around_of}
use Rattle.sim_scope.specs.Along.{first_along, some_along}
use Rattle.sim_scope.specs.Actuals.{actual, as_value, more, parameter_at, with_actual}
use Rattle.sim_scope.specs.Assignments.{assigned, assigned_to, call_assigned, compared, fine, lefts, no_target, sign_agrees, target, targets, with_left, wrong}
use Rattle.sim_scope.specs.Breaks.{all_breaks, breaks, broken_by}
use Rattle.sim_scope.specs.Building.{default_mode, marked, mode_allowed}
use Rattle.sim_scope.specs.Calls.{alone, applied, applied_untyped, attribute, attribute_by_value, attribute_in, attribute_missing, attribute_of_value, bound, element_of, is_barred, is_inside, located, remote, resulting, used, used_in, match_seen, own_of, through_connection}
use Rattle.sim_scope.specs.Declare.{array_marks, brings_class, brought_marks, class_marks, class_prefix_marks, declared_by, declaring, first_of_class, first_of_procedure, headed_marks, inner_marks, marks_of_standard, mode_named, moded_marks, parameter_marks, prefix_marks, prefixed_marks, procedure_marks, program_marks, protected_marks, provides_attribute, qualified_marks, qualified_result, result_named, specified_marks, standard_marks, type_named, variable_marks, virtual_name_marks}
use Rattle.sim_scope.specs.Expressions.{actuals, judge}
use Rattle.sim_scope.specs.Found.{found, precedes}
use Rattle.sim_scope.specs.Judged.{bars, gives, next, telling}
use Rattle.sim_scope.specs.Levels.{base, class_block, has_classes, has_level, has_standard, holds_class, is_for_prefixing, is_in_chain, is_simulation_block, on_one_chain, shared_class, simulation_level_of, some_level_of}
use Rattle.sim_scope.specs.Operators.{common_type, misfit_of, operands_fit}
use Rattle.sim_scope.specs.Outcomes.{breaks as breaks_outcomes, called, has, in_parentheses, one, parenthesized, side, three, two, value_of, valued, varies}
use Rattle.sim_scope.specs.References.{as_class, class_fits, class_named, is_only_prefix, is_this, member, new_object, qualified, this_barred, this_block, this_fits, this_object, this_of}
use Rattle.sim_scope.specs.Runs.{run}
use Rattle.sim_scope.specs.Scopes.{binding, brought_by, class_formal, class_formals, class_formals_of, declaration_from, ends_search, entry_of, formal_of, formals_of, found_in, if_found, is_detach, is_passed_over, level_shows, lookup, outward, represented, searched, shown, shown_of, standard_at, virtual_of, shows_detach}
use Rattle.sim_scope.specs.Standard.{is_environment_name, is_file_or_layout, is_random_drawing, is_real_function, is_standard_class, signature, standard_name, standard_prefix, sysin_attribute, sysout_attribute, text_attribute, undeclared}
use Rattle.sim_values.specs.Standard.{row_of}
use Rattle.sim_scope.specs.Statements.{activate_events, activates, arm_events, arm_fits, assignment_events, call_events, class_events, class_prefix_events, connected_by, control_events, controlled, first_step, first_value, inspect_events, inspect_when_events, judging, needs, needs_reference, prefix_at, prefixed_events, prefixed_with, process_at, process_events, program_prefix_events, required, simple, simulation_of, stands, starts, taken_by, variable_events}
use Rattle.sim_scope.specs.Tables.{with_base_at, with_entry_at, with_standard_at}
use Rattle.sim_scope.specs.Walk.{program_events}
use Rattle.prefix_bind.specs.Cells.{cells_of}
use Rattle.prefix_bind.specs.Prefixes.{block_prefixed, deepest, faults_of, has_wrong_prefix, is_in_own_chain, least_of, level_cells, level_cells_of, level_prefixed, noted, prefix_faults, prefix_of, prefixed, row_faults}
use Rattle.virtual_match.specs.Matching.{match_faults, match_of, name_of, virtual_for}
use Rattle.virtual_match.specs.Protections.{protection_faults, second_faults}
use Rattle.virtual_match.specs.Qualifying.{class_written, entry_to, qualification_faults, qualified as qualified_qualifying, with_qualification}
use Rattle.inspect_types.specs.Connecting.{connected, connecting, connections}
use Rattle.sim_static.specs.Check.{answer, completed, judged}
use Rattle.sim_static.specs.Examples.{Bodies, Classes, Declared, LeftOut, Objects, Places, Results, Together, WorkedRules}

-- a new identifier in a row of a block
new : (x : Identifier) (e : Entry) (old : BuildingOf) (row : BlockOf) (b : Bool) → list_any (bytes_eq x.name) row.names ≡ false → nat_eq old.own 65535 ≡ b
    → row_breaks old x e (Some row) ≡ where_true b x.token.0 r.TooManyDeclarations
new x e old row b is many =
    ap (λ c. if c then again_breaks old x e (declared_in (Some row) x.name) else counting_breaks old x) is ∙ ap (λ c. where_true c x.token.0 r.TooManyDeclarations) many

declared_rules : Declared
unfolding accessible block_at encloser hides is_kind is_open names_hidden opens protector protector_of protects some_around some_around_of first_along some_along actual as_value more parameter_at with_actual assigned assigned_to call_assigned compared fine lefts no_target sign_agrees target targets with_left wrong all_breaks breaks broken_by default_mode marked mode_allowed alone applied attribute attribute_by_value attribute_in attribute_missing attribute_of_value bound element_of is_barred is_inside located remote resulting used used_in array_marks brings_class brought_marks class_marks class_prefix_marks declared_by declaring first_of_class first_of_procedure headed_marks inner_marks marks_of_standard mode_named moded_marks parameter_marks prefix_marks prefixed_marks procedure_marks program_marks protected_marks provides_attribute qualified_marks qualified_result result_named specified_marks standard_marks type_named variable_marks virtual_name_marks actuals judge found precedes gives next telling base class_block has_classes has_level has_standard holds_class is_for_prefixing is_in_chain is_simulation_block on_one_chain shared_class simulation_level_of some_level_of common_type misfit_of operands_fit breaks_outcomes called has in_parentheses one parenthesized side three two value_of valued varies as_class class_named is_only_prefix is_this member new_object qualified this_barred this_block this_object this_of run binding brought_by class_formal class_formals class_formals_of declaration_from ends_search entry_of formal_of formals_of found_in if_found is_detach is_passed_over level_shows lookup outward represented searched shown shown_of standard_at virtual_of row_of is_environment_name is_file_or_layout is_random_drawing is_real_function is_standard_class signature standard_name standard_prefix sysin_attribute sysout_attribute text_attribute undeclared activate_events activates arm_events arm_fits assignment_events call_events class_events class_prefix_events connected_by control_events controlled first_step first_value inspect_events inspect_when_events judging needs needs_reference prefix_at prefixed_events prefixed_with process_at process_events program_prefix_events required simple simulation_of stands starts taken_by variable_events with_base_at with_entry_at with_standard_at program_events cells_of block_prefixed deepest faults_of has_wrong_prefix is_in_own_chain least_of level_cells level_cells_of level_prefixed noted prefix_faults prefix_of prefixed row_faults match_faults match_of name_of virtual_for protection_faults second_faults class_written entry_to qualification_faults qualified_qualifying with_qualification connected connecting connections answer completed judged applied_untyped bars class_fits match_seen own_of shows_detach this_fits through_connection
declared_rules = record {
  twice = refl;
  once = refl;
  unspecified = refl;
  specified_once = refl;
  procedure_by_value = refl;
  integer_by_value = refl;
  too_deep = refl;
  deep = refl;
  too_large = refl;
  large = refl;
  too_many = λ x e old row is many. new x e old row true is (ap (λ n. nat_eq n 65535) many);
  many = λ x e old row is many. new x e old row false is (ap (λ n. nat_eq n 65535) many);
}

body_rules : Bodies
unfolding accessible block_at encloser hides is_kind is_open names_hidden opens protector protector_of protects some_around some_around_of first_along some_along actual as_value more parameter_at with_actual assigned assigned_to call_assigned compared fine lefts no_target sign_agrees target targets with_left wrong all_breaks breaks broken_by default_mode marked mode_allowed alone applied attribute attribute_by_value attribute_in attribute_missing attribute_of_value bound element_of is_barred is_inside located remote resulting used used_in array_marks brings_class brought_marks class_marks class_prefix_marks declared_by declaring first_of_class first_of_procedure headed_marks inner_marks marks_of_standard mode_named moded_marks parameter_marks prefix_marks prefixed_marks procedure_marks program_marks protected_marks provides_attribute qualified_marks qualified_result result_named specified_marks standard_marks type_named variable_marks virtual_name_marks actuals judge found precedes gives next telling base class_block has_classes has_level has_standard holds_class is_for_prefixing is_in_chain is_simulation_block on_one_chain shared_class simulation_level_of some_level_of common_type misfit_of operands_fit breaks_outcomes called has in_parentheses one parenthesized side three two value_of valued varies as_class class_named is_only_prefix is_this member new_object qualified this_barred this_block this_object this_of run binding brought_by class_formal class_formals class_formals_of declaration_from ends_search entry_of formal_of formals_of found_in if_found is_detach is_passed_over level_shows lookup outward represented searched shown shown_of standard_at virtual_of row_of is_environment_name is_file_or_layout is_random_drawing is_real_function is_standard_class signature standard_name standard_prefix sysin_attribute sysout_attribute text_attribute undeclared activate_events activates arm_events arm_fits assignment_events call_events class_events class_prefix_events connected_by control_events controlled first_step first_value inspect_events inspect_when_events judging needs needs_reference prefix_at prefixed_events prefixed_with process_at process_events program_prefix_events required simple simulation_of stands starts taken_by variable_events with_base_at with_entry_at with_standard_at program_events cells_of block_prefixed deepest faults_of has_wrong_prefix is_in_own_chain least_of level_cells level_cells_of level_prefixed noted prefix_faults prefix_of prefixed row_faults match_faults match_of name_of virtual_for protection_faults second_faults class_written entry_to qualification_faults qualified_qualifying with_qualification connected connecting connections answer completed judged applied_untyped bars class_fits match_seen own_of shows_detach this_fits through_connection
body_rules = record {
  undeclared = refl;
  declared = refl;
  no_array = refl;
  an_array = refl;
  wrong_operand = refl;
  right_operand = refl;
  to_a_constant = refl;
  to_a_variable = refl;
  two_for_one = refl;
  none_for_one = refl;
  one_for_one = refl;
  wrong_actual = refl;
  an_array_controlled = refl;
  a_variable_controlled = refl;
  a_variable_as_bound = refl;
  a_constant_as_bound = refl;
  a_standard_name_passed = refl;
  a_procedure_passed = refl;
  a_stream_alone = refl;
}

class_rules : Classes
unfolding accessible block_at encloser hides is_kind is_open names_hidden opens protector protector_of protects some_around some_around_of first_along some_along actual as_value more parameter_at with_actual assigned assigned_to call_assigned compared fine lefts no_target sign_agrees target targets with_left wrong all_breaks breaks broken_by default_mode marked mode_allowed alone applied attribute attribute_by_value attribute_in attribute_missing attribute_of_value bound element_of is_barred is_inside located remote resulting used used_in array_marks brings_class brought_marks class_marks class_prefix_marks declared_by declaring first_of_class first_of_procedure headed_marks inner_marks marks_of_standard mode_named moded_marks parameter_marks prefix_marks prefixed_marks procedure_marks program_marks protected_marks provides_attribute qualified_marks qualified_result result_named specified_marks standard_marks type_named variable_marks virtual_name_marks actuals judge found precedes gives next telling base class_block has_classes has_level has_standard holds_class is_for_prefixing is_in_chain is_simulation_block on_one_chain shared_class simulation_level_of some_level_of common_type misfit_of operands_fit breaks_outcomes called has in_parentheses one parenthesized side three two value_of valued varies as_class class_named is_only_prefix is_this member new_object qualified this_barred this_block this_object this_of run binding brought_by class_formal class_formals class_formals_of declaration_from ends_search entry_of formal_of formals_of found_in if_found is_detach is_passed_over level_shows lookup outward represented searched shown shown_of standard_at virtual_of row_of is_environment_name is_file_or_layout is_random_drawing is_real_function is_standard_class signature standard_name standard_prefix sysin_attribute sysout_attribute text_attribute undeclared activate_events activates arm_events arm_fits assignment_events call_events class_events class_prefix_events connected_by control_events controlled first_step first_value inspect_events inspect_when_events judging needs needs_reference prefix_at prefixed_events prefixed_with process_at process_events program_prefix_events required simple simulation_of stands starts taken_by variable_events with_base_at with_entry_at with_standard_at program_events cells_of block_prefixed deepest faults_of has_wrong_prefix is_in_own_chain least_of level_cells level_cells_of level_prefixed noted prefix_faults prefix_of prefixed row_faults match_faults match_of name_of virtual_for protection_faults second_faults class_written entry_to qualification_faults qualified_qualifying with_qualification connected connecting connections answer completed judged applied_untyped bars class_fits match_seen own_of shows_detach this_fits through_connection
class_rules = record {
  no_prefix = refl;
  a_prefix = refl;
  its_own_prefix = refl;
  a_chain_of_prefixes = refl;
  inner_alone = refl;
  an_inner = refl;
  no_qualification = refl;
  a_qualification = refl;
  an_attribute_of_the_connected = refl;
  no_match = refl;
  a_match = refl;
  no_attribute = refl;
  an_attribute = refl;
  not_protected = refl;
  not_accessible = refl;
  accessible = refl;
  another_chain = refl;
  the_same_class = refl;
  class_with_classes = refl;
  class_without = refl;
  seen_inside = refl;
  seen_in_an_arm = refl;
  this_outside = refl;
  this_inside = refl;
  no_simulation = refl;
  a_simulation = refl;
  only_a_prefix = refl;
  a_generation = refl;
}

rules_together : Together
unfolding accessible block_at encloser hides is_kind is_open names_hidden opens protector protector_of protects some_around some_around_of first_along some_along actual as_value more parameter_at with_actual assigned assigned_to call_assigned compared fine lefts no_target sign_agrees target targets with_left wrong all_breaks breaks broken_by default_mode marked mode_allowed alone applied attribute attribute_by_value attribute_in attribute_missing attribute_of_value bound element_of is_barred is_inside located remote resulting used used_in array_marks brings_class brought_marks class_marks class_prefix_marks declared_by declaring first_of_class first_of_procedure headed_marks inner_marks marks_of_standard mode_named moded_marks parameter_marks prefix_marks prefixed_marks procedure_marks program_marks protected_marks provides_attribute qualified_marks qualified_result result_named specified_marks standard_marks type_named variable_marks virtual_name_marks actuals judge found precedes gives next telling base class_block has_classes has_level has_standard holds_class is_for_prefixing is_in_chain is_simulation_block on_one_chain shared_class simulation_level_of some_level_of common_type misfit_of operands_fit breaks_outcomes called has in_parentheses one parenthesized side three two value_of valued varies as_class class_named is_only_prefix is_this member new_object qualified this_barred this_block this_object this_of run binding brought_by class_formal class_formals class_formals_of declaration_from ends_search entry_of formal_of formals_of found_in if_found is_detach is_passed_over level_shows lookup outward represented searched shown shown_of standard_at virtual_of row_of is_environment_name is_file_or_layout is_random_drawing is_real_function is_standard_class signature standard_name standard_prefix sysin_attribute sysout_attribute text_attribute undeclared activate_events activates arm_events arm_fits assignment_events call_events class_events class_prefix_events connected_by control_events controlled first_step first_value inspect_events inspect_when_events judging needs needs_reference prefix_at prefixed_events prefixed_with process_at process_events program_prefix_events required simple simulation_of stands starts taken_by variable_events with_base_at with_entry_at with_standard_at program_events cells_of block_prefixed deepest faults_of has_wrong_prefix is_in_own_chain least_of level_cells level_cells_of level_prefixed noted prefix_faults prefix_of prefixed row_faults match_faults match_of name_of virtual_for protection_faults second_faults class_written entry_to qualification_faults qualified_qualifying with_qualification connected connecting connections answer completed judged applied_untyped bars class_fits match_seen own_of shows_detach this_fits through_connection
rules_together = record {
  kind_and_bound = refl;
  number_and_classes = refl;
  classes_and_name = refl;
  sign_and_constant = refl;
  sign_alone = refl;
  stream_with_untyped = refl;
  arm_with_classes = refl;
  classes_of_simset = refl;
  constant_of_no_class = refl;
  unknown_virtual = refl;
}

result_rules : Results
unfolding accessible block_at encloser hides is_kind is_open names_hidden opens protector protector_of protects some_around some_around_of first_along some_along actual as_value more parameter_at with_actual assigned assigned_to call_assigned compared fine lefts no_target sign_agrees target targets with_left wrong all_breaks breaks broken_by default_mode marked mode_allowed alone applied attribute attribute_by_value attribute_in attribute_missing attribute_of_value bound element_of is_barred is_inside located remote resulting used used_in array_marks brings_class brought_marks class_marks class_prefix_marks declared_by declaring first_of_class first_of_procedure headed_marks inner_marks marks_of_standard mode_named moded_marks parameter_marks prefix_marks prefixed_marks procedure_marks program_marks protected_marks provides_attribute qualified_marks qualified_result result_named specified_marks standard_marks type_named variable_marks virtual_name_marks actuals judge found precedes gives next telling base class_block has_classes has_level has_standard holds_class is_for_prefixing is_in_chain is_simulation_block on_one_chain shared_class simulation_level_of some_level_of common_type misfit_of operands_fit breaks_outcomes called has in_parentheses one parenthesized side three two value_of valued varies as_class class_named is_only_prefix is_this member new_object qualified this_barred this_block this_object this_of run binding brought_by class_formal class_formals class_formals_of declaration_from ends_search entry_of formal_of formals_of found_in if_found is_detach is_passed_over level_shows lookup outward represented searched shown shown_of standard_at virtual_of row_of is_environment_name is_file_or_layout is_random_drawing is_real_function is_standard_class signature standard_name standard_prefix sysin_attribute sysout_attribute text_attribute undeclared activate_events activates arm_events arm_fits assignment_events call_events class_events class_prefix_events connected_by control_events controlled first_step first_value inspect_events inspect_when_events judging needs needs_reference prefix_at prefixed_events prefixed_with process_at process_events program_prefix_events required simple simulation_of stands starts taken_by variable_events with_base_at with_entry_at with_standard_at program_events cells_of block_prefixed deepest faults_of has_wrong_prefix is_in_own_chain least_of level_cells level_cells_of level_prefixed noted prefix_faults prefix_of prefixed row_faults match_faults match_of name_of virtual_for protection_faults second_faults class_written entry_to qualification_faults qualified_qualifying with_qualification connected connecting connections answer completed judged applied_untyped bars class_fits match_seen own_of shows_detach this_fits through_connection
result_rules = record { another_class = refl; its_class = refl; through_a_connection = refl }

object_rules : Objects
unfolding accessible block_at encloser hides is_kind is_open names_hidden opens protector protector_of protects some_around some_around_of first_along some_along actual as_value more parameter_at with_actual assigned assigned_to call_assigned compared fine lefts no_target sign_agrees target targets with_left wrong all_breaks breaks broken_by default_mode marked mode_allowed alone applied attribute attribute_by_value attribute_in attribute_missing attribute_of_value bound element_of is_barred is_inside located remote resulting used used_in array_marks brings_class brought_marks class_marks class_prefix_marks declared_by declaring first_of_class first_of_procedure headed_marks inner_marks marks_of_standard mode_named moded_marks parameter_marks prefix_marks prefixed_marks procedure_marks program_marks protected_marks provides_attribute qualified_marks qualified_result result_named specified_marks standard_marks type_named variable_marks virtual_name_marks actuals judge found precedes gives next telling base class_block has_classes has_level has_standard holds_class is_for_prefixing is_in_chain is_simulation_block on_one_chain shared_class simulation_level_of some_level_of common_type misfit_of operands_fit breaks_outcomes called has in_parentheses one parenthesized side three two value_of valued varies as_class class_named is_only_prefix is_this member new_object qualified this_barred this_block this_object this_of run binding brought_by class_formal class_formals class_formals_of declaration_from ends_search entry_of formal_of formals_of found_in if_found is_detach is_passed_over level_shows lookup outward represented searched shown shown_of standard_at virtual_of row_of is_environment_name is_file_or_layout is_random_drawing is_real_function is_standard_class signature standard_name standard_prefix sysin_attribute sysout_attribute text_attribute undeclared activate_events activates arm_events arm_fits assignment_events call_events class_events class_prefix_events connected_by control_events controlled first_step first_value inspect_events inspect_when_events judging needs needs_reference prefix_at prefixed_events prefixed_with process_at process_events program_prefix_events required simple simulation_of stands starts taken_by variable_events with_base_at with_entry_at with_standard_at program_events cells_of block_prefixed deepest faults_of has_wrong_prefix is_in_own_chain least_of level_cells level_cells_of level_prefixed noted prefix_faults prefix_of prefixed row_faults match_faults match_of name_of virtual_for protection_faults second_faults class_written entry_to qualification_faults qualified_qualifying with_qualification connected connecting connections answer completed judged applied_untyped bars class_fits match_seen own_of shows_detach this_fits through_connection
object_rules = record {
  block_of_link = refl;
  class_of_link = refl;
  detach_outside = refl;
  detach_inside = refl;
  detach_of_nothing = refl;
  detach_further_out = refl;
  hidden_further_in = refl;
  protected_further_in = refl;
  a_number_connected = refl;
  prefix_with_actuals = refl;
  arm_of_another_chain = refl;
  arm_of_a_subclass = refl;
  no_process = refl;
  remote_class_with_classes = refl;
  virtual_called = refl;
}

left_out_rules : LeftOut
unfolding accessible block_at encloser hides is_kind is_open names_hidden opens protector protector_of protects some_around some_around_of first_along some_along actual as_value more parameter_at with_actual assigned assigned_to call_assigned compared fine lefts no_target sign_agrees target targets with_left wrong all_breaks breaks broken_by default_mode marked mode_allowed alone applied attribute attribute_by_value attribute_in attribute_missing attribute_of_value bound element_of is_barred is_inside located remote resulting used used_in array_marks brings_class brought_marks class_marks class_prefix_marks declared_by declaring first_of_class first_of_procedure headed_marks inner_marks marks_of_standard mode_named moded_marks parameter_marks prefix_marks prefixed_marks procedure_marks program_marks protected_marks provides_attribute qualified_marks qualified_result result_named specified_marks standard_marks type_named variable_marks virtual_name_marks actuals judge found precedes gives next telling base class_block has_classes has_level has_standard holds_class is_for_prefixing is_in_chain is_simulation_block on_one_chain shared_class simulation_level_of some_level_of common_type misfit_of operands_fit breaks_outcomes called has in_parentheses one parenthesized side three two value_of valued varies as_class class_named is_only_prefix is_this member new_object qualified this_barred this_block this_object this_of run binding brought_by class_formal class_formals class_formals_of declaration_from ends_search entry_of formal_of formals_of found_in if_found is_detach is_passed_over level_shows lookup outward represented searched shown shown_of standard_at virtual_of row_of is_environment_name is_file_or_layout is_random_drawing is_real_function is_standard_class signature standard_name standard_prefix sysin_attribute sysout_attribute text_attribute undeclared activate_events activates arm_events arm_fits assignment_events call_events class_events class_prefix_events connected_by control_events controlled first_step first_value inspect_events inspect_when_events judging needs needs_reference prefix_at prefixed_events prefixed_with process_at process_events program_prefix_events required simple simulation_of stands starts taken_by variable_events with_base_at with_entry_at with_standard_at program_events cells_of block_prefixed deepest faults_of has_wrong_prefix is_in_own_chain least_of level_cells level_cells_of level_prefixed noted prefix_faults prefix_of prefixed row_faults match_faults match_of name_of virtual_for protection_faults second_faults class_written entry_to qualification_faults qualified_qualifying with_qualification connected connecting connections answer completed judged applied_untyped bars class_fits match_seen own_of shows_detach this_fits through_connection
left_out_rules = record {
  real_function = refl;
  own_real_function = refl;
  drawing = refl;
  own_drawing = refl;
  layout = refl;
  own_layout = refl;
  environment = refl;
  own_environment = refl;
}

place_rules : Places
unfolding accessible block_at encloser hides is_kind is_open names_hidden opens protector protector_of protects some_around some_around_of first_along some_along actual as_value more parameter_at with_actual assigned assigned_to call_assigned compared fine lefts no_target sign_agrees target targets with_left wrong all_breaks breaks broken_by default_mode marked mode_allowed alone applied attribute attribute_by_value attribute_in attribute_missing attribute_of_value bound element_of is_barred is_inside located remote resulting used used_in array_marks brings_class brought_marks class_marks class_prefix_marks declared_by declaring first_of_class first_of_procedure headed_marks inner_marks marks_of_standard mode_named moded_marks parameter_marks prefix_marks prefixed_marks procedure_marks program_marks protected_marks provides_attribute qualified_marks qualified_result result_named specified_marks standard_marks type_named variable_marks virtual_name_marks actuals judge found precedes gives next telling base class_block has_classes has_level has_standard holds_class is_for_prefixing is_in_chain is_simulation_block on_one_chain shared_class simulation_level_of some_level_of common_type misfit_of operands_fit breaks_outcomes called has in_parentheses one parenthesized side three two value_of valued varies as_class class_named is_only_prefix is_this member new_object qualified this_barred this_block this_object this_of run binding brought_by class_formal class_formals class_formals_of declaration_from ends_search entry_of formal_of formals_of found_in if_found is_detach is_passed_over level_shows lookup outward represented searched shown shown_of standard_at virtual_of is_environment_name is_file_or_layout is_random_drawing is_real_function is_standard_class signature standard_name standard_prefix sysin_attribute sysout_attribute text_attribute undeclared activate_events activates arm_events arm_fits assignment_events call_events class_events class_prefix_events connected_by control_events controlled first_step first_value inspect_events inspect_when_events judging needs needs_reference prefix_at prefixed_events prefixed_with process_at process_events program_prefix_events required simple simulation_of stands starts taken_by variable_events with_base_at with_entry_at with_standard_at program_events cells_of block_prefixed deepest faults_of has_wrong_prefix is_in_own_chain least_of level_cells level_cells_of level_prefixed noted prefix_faults prefix_of prefixed row_faults match_faults match_of name_of virtual_for protection_faults second_faults class_written entry_to qualification_faults qualified_qualifying with_qualification connected connecting connections answer completed judged applied_untyped bars class_fits match_seen own_of shows_detach this_fits through_connection
place_rules = record { connected = (refl, refl); inherited = refl; object = (refl, refl, refl) }

pub worked : WorkedRules
worked = record { declared = declared_rules; bodies = body_rules; classes = class_rules; together = rules_together; results = result_rules; objects = object_rules; places = place_rules; left_out = left_out_rules }

-- The lists of two small programs, computed.
use Rattle.std.proofs.Common.{Some, sym}
use Rattle.scope_lists.specs.Example.{WorkedCycle, WorkedScopes, class_with_prefix, cycle, tables_of}
use Rattle.scope_lists.specs.Lists.{Lists}
use Rattle.scope_lists.proofs.Denoted.{binding_same, found_same, shown_same}
use Rattle.scope_lists.proofs.Exist.{made, trail}
use Rattle.scope_lists.proofs.Walks.{lists_of, same_lists}
use Rattle.std.specs.Prelude.{codes}
use Rattle.sim_scope.specs.Access.{accessible, block_at, encloser, is_kind, protects}
use Rattle.sim_scope.specs.Along.{first_along}
use Rattle.sim_scope.specs.Building.{marked}
use Rattle.sim_scope.specs.Declare.{array_marks, class_marks, class_prefix_marks, declared_by, declaring, first_of_class, first_of_procedure, headed_marks, marks_of_standard, parameter_marks, prefix_marks, procedure_marks, program_marks, qualified_marks, qualified_result, result_named, standard_marks, type_named, variable_marks}
use Rattle.sim_scope.specs.Levels.{base, class_block}
use Rattle.sim_scope.specs.Runs.{run}
use Rattle.sim_scope.specs.Scopes.{binding, brought_by, declaration_from, ends_search, entry_of, found_in, if_found, is_detach, level_shows, lookup, outward, represented, searched, shown, shown_of, shows_detach, standard_at, virtual_of}
use Rattle.sim_scope.specs.Standard.{standard_name, standard_prefix}
use Rattle.sim_scope.specs.Tables.{with_base_at, with_standard_at}
use Rattle.sim_scope.specs.Walk.{program_events}
use Rattle.prefix_bind.specs.Prefixes.{block_prefixed, deepest, level_prefixed, prefix_of, prefixed}

pub worked_scopes : (l : Lists (tables_of class_with_prefix)) → WorkedScopes l
unfolding made trail lists_of is_kind prefixed declared_by program_events declaring run marked base encloser block_at level_prefixed block_prefixed deepest prefix_of with_base_at with_standard_at class_block array_marks class_marks class_prefix_marks first_of_class first_of_procedure headed_marks marks_of_standard parameter_marks prefix_marks procedure_marks program_marks qualified_marks qualified_result result_named standard_marks type_named variable_marks standard_name standard_prefix lookup shown shown_of level_shows brought_by accessible protects entry_of binding declaration_from searched outward ends_search is_detach shows_detach represented virtual_of standard_at found_in first_along if_found
worked_scopes l = record {
  levels = (same_lists (tables_of class_with_prefix) l (lists_of (tables_of class_with_prefix)) 2).0;
  around_x = (same_lists (tables_of class_with_prefix) l (lists_of (tables_of class_with_prefix)) 3).1;
  not_in_procedure = sym (shown_same (tables_of class_with_prefix) l (Some 17) (codes "x") 3);
  in_class = sym (shown_same (tables_of class_with_prefix) l (Some 17) (codes "x") 2);
  found_x = sym (found_same (tables_of class_with_prefix) l 17 (codes "x"));
  denoted = sym (binding_same (tables_of class_with_prefix) l 17 (codes "x"));
}

pub worked_cycle : (l : Lists (tables_of cycle)) → WorkedCycle l
unfolding made trail lists_of is_kind prefixed declared_by program_events declaring run marked base encloser block_at level_prefixed block_prefixed deepest prefix_of with_base_at with_standard_at class_block array_marks class_marks class_prefix_marks first_of_class first_of_procedure headed_marks marks_of_standard parameter_marks prefix_marks procedure_marks program_marks qualified_marks qualified_result result_named standard_marks type_named variable_marks standard_name standard_prefix lookup shown shown_of level_shows brought_by accessible protects entry_of first_along
worked_cycle l = record {
  first = (same_lists (tables_of cycle) l (lists_of (tables_of cycle)) 1).0;
  second = (same_lists (tables_of cycle) l (lists_of (tables_of cycle)) 2).0;
}

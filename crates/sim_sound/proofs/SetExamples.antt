-- A program with a set is typed: `simset` in front, which brings the classes of sets.
use Rattle.std.proofs.Common.{◌≡◌, ◌<◌, ℕ, zero, suc, List, [], ◌∷◌, length, true, false, Option, Some, None, refl, subst, arith}
use Rattle.std.specs.Prelude.{slice_get}
use Rattle.sim_base.specs.declared.numbering.DeclNo.{DeclNo}
use Rattle.sim_scope.specs.declared.scopes.Declaration.{Declaration}
use Rattle.sim_scope.specs.declared.types.Entry.{Entry}
use Rattle.sim_scope.specs.declared.types.Entry.TheVariants as entry
use Rattle.sim_scope.specs.declared.types.StandardClass.{StandardClass}
use Rattle.sim_scope.specs.declared.types.StandardClass.TheVariants as standard
use Rattle.sim_scope.specs.Source.{Source}
use Rattle.sim_tree.specs.declared.expr.Identifier.{Identifier}
use Rattle.sim_tree.specs.Syntax.{Declarations, Expressions, Statements}
use Rattle.sim_values.specs.declared.kind.Kind.TheVariants as kind
use Rattle.sim_meaning.specs.Texts.{PrefixedText, StandardText, Text}
use Rattle.sim_code.specs.Simulations.{is_simulation_name}
use Rattle.sim_sound.specs.Held.{Among, Holds, IsFormal, Seen, entry_holds, first, itself, later}
use Rattle.sim_sound.specs.SetProgram.{link_in_set}
use Rattle.sim_sound.specs.Typed.{ClassThere, Distinct, IsAttribute, PrefixTyped, Prefixes, SetClassThere, SetClasses, SetProcedureThere, Typed, as_prefixed, stands}
use Rattle.sim_sound.proofs.Acyclic.{prefixes_from}
use Rattle.sim_sound.proofs.Examples.{none_named, no_procedures, TextHolds, none_among, number, text_holds, true_never}
use Rattle.sim_sound.proofs.Lists.{no_some}
use Rattle.sim_sound.proofs.Prefixes.{LevelOf, level_is, prefix_level, same_level}
use Rattle.sim_meaning.specs.Entries.{numbers_of}
use Rattle.std.specs.Fmt.{digits}
use Rattle.sim_code.specs.Arrays.{element_place, making_array, copying_array, keeping_array, finding_element, giving_back, handed_over}
use Rattle.sim_code.specs.Events.{pop_object, qualifying, referring, stopping, no_rule, ticking, taking, entering, having, when, computing, choosing, popping, pop_many, pop_plain, pop_truth, pop_integers, pop_operands, pop_text, answering, applying_one, applying_two, testing_step, performing, putting_back, assigning, making_text, joining}
use Rattle.sim_code.specs.Instances.{at_level, kept_on, object_ended}
use Rattle.sim_code.specs.Machine.{pushing, index, level as level_of_machine, cell_at, jumping, block_at, own_block, leaving, with_result}
use Rattle.sim_code.specs.Rows.{put_back, putting}
use Rattle.sim_meaning.specs.Attributes.{connection_at, transfer_at, own_attribute}
use Rattle.sim_meaning.specs.Levels.{belongs, class_at, is_in, is_of, levels, levels_of, qualification}
use Rattle.sim_meaning.specs.Closing.{is_attribute, is_text, home_of, is_variable, stream_of, own_result, own_match, result_meant}
use Rattle.sim_meaning.specs.Entries.{first_cells}
use Rattle.sim_meaning.specs.Meaning.{leaving as leaving_of_meaning}
use Rattle.sim_meaning.specs.Constants.{constants_of, text_constant, text_constants}
use Rattle.sim_scope.specs.Calls.{is_inside}
use Rattle.sim_meaning.specs.Steps.{put_back as back_of_steps, putting as putting_of_steps}
use Rattle.sim_meaning.specs.Texts.{standard_texts, text, is_class_free, declared_at, constant_of}
use Rattle.sim_values.specs.Operators.{calculate, compare, compare_as_texts, connect, same_objects, same_texts, two_of, one_of, step_test}
use Rattle.sim_values.specs.Standard.{take_integer, take_character, take_text, take_nothing, row_of, standard_effect}
use Rattle.sim_scope.specs.Building.{default_mode, mode_allowed, marked}
use Rattle.sim_scope.specs.Declare.{brings_class, brought_marks, provides_attribute, class_prefix_marks, prefixed_marks, prefix_marks, standard_marks, marks_of_standard, type_named, result_named, mode_named, first_of_procedure, first_of_class, variable_marks, array_marks, parameter_marks, moded_marks, specified_marks, headed_marks, procedure_marks, class_marks, virtual_name_marks, program_marks, inner_marks, declaring, of_segment, of_mode_part, of_specification, of_specifier, of_virtual, of_heading, declared_by, declarations_of, qualified_marks, qualified_result}
use Rattle.sim_scope.specs.Runs.{run as run_of_runs}
use Rattle.sim_scope.specs.Access.{encloser, block_at as block_at_of_scopes, accessible, protects, is_kind, some_around_of, some_around}
use Rattle.sim_scope.specs.Levels.{base, class_block, has_level, is_for_prefixing, is_simulation_block, some_level_of}
use Rattle.sim_scope.specs.Scopes.{class_formals, shows_detach, class_formals_of, found_in, if_found, lookup, shown as shown_of_scopes, searched, declaration_from, binding, entry_of, formals_of, formal_of, result_of, brought_by, level_shows, shown_of, is_detach, ends_search, outward, virtual_of, represented, standard_at}
use Rattle.sim_scope.specs.Source.{source_of, found_at, denoted, type_at, line_at, level_of, block_of, block_around}
use Rattle.sim_scope.specs.Standard.{standard_prefix, standard_name, text_attribute, sysin_attribute, sysout_attribute, signature, undeclared}
use Rattle.sim_scope.specs.Walk.{program_events, of_statement, of_branch, of_arm, of_block, of_whole, of_class_body, of_declaration}
use Rattle.sim_scope.specs.Along.{first_along}
use Rattle.sim_scope.specs.References.{is_this, this_block, this_of}
use Rattle.sim_scope.specs.Tables.{with_entry_at}
use Rattle.sim_meaning.specs.Objects.{putting_reference}

-- ---- lists of declarations

-- variables and procedures of SIMSET
abbrev IsSimple : Option Entry → Type 0
IsSimple (Some (entry.Variable type)) = Unit {0}
IsSimple (Some (entry.Attribute name parameter result)) = Unit {0}
IsSimple _ = ⊥

abbrev AllSimple : Source → List DeclNo → Type 0
AllSimple s [] = Unit {0}
AllSimple s (d ∷ ds) = IsSimple (entry_of s.tables d) × AllSimple s ds

simple_among : (s : Source) (d : DeclNo) (ds : List DeclNo) → AllSimple s ds → Among d ds → IsSimple (entry_of s.tables d)
simple_among s d [] a b = elim b [ ]
simple_among s _ (e ∷ ds) a first = a.0
simple_among s d (e ∷ ds) a (later b) = simple_among s d ds a.1 b

not_formal : (e : Option Entry) → IsSimple e → IsFormal e → ⊥
not_formal (Some (entry.Variable type)) a f = f
not_formal (Some (entry.Attribute name parameter result)) a f = f
not_formal (Some (entry.Formal g)) a f = a
not_formal None a f = a
not_formal (Some _) a f = a

-- their numbers rise
abbrev Above : ℕ → List DeclNo → Type 0
Above n [] = Unit {0}
Above n (d ∷ ds) = (n < d.0) × Above n ds

abbrev Rising : List DeclNo → Type 0
Rising [] = Unit {0}
Rising (d ∷ ds) = Above d.0 ds × Rising ds

not_above : (d : DeclNo) (n : ℕ) (ds : List DeclNo) → d.0 ≡ n → Above n ds → Among d ds → ⊥
not_above d n [] e a b = elim b [ ]
not_above _ n (c ∷ ds) e a first = let less = a.0 in omega (arith, less, e)
not_above d n (c ∷ ds) e a (later b) = not_above d n ds e a.1 b

rising_distinct : (ds : List DeclNo) → Rising ds → Distinct ds
rising_distinct [] a = tt
rising_distinct (d ∷ ds) a = (not_above d d.0 ds refl a.0, rising_distinct ds a.1)

-- they stand in one block
abbrev AllIn : Source → ℕ → List DeclNo → Type 0
AllIn s k [] = Unit {0}
AllIn s k (d ∷ ds) = (block_of s d ≡ k) × AllIn s k ds

in_block : (s : Source) (k : ℕ) (d : DeclNo) (ds : List DeclNo) → AllIn s k ds → Among d ds → block_of s d ≡ k
in_block s k d [] a b = elim b [ ]
in_block s k _ (e ∷ ds) a first = a.0
in_block s k d (e ∷ ds) a (later b) = in_block s k d ds a.1 b

-- what has a cell is listed
abbrev Listed : Source → ℕ → DeclNo → Option Holds → Type 0
Listed s k d None = Unit {0}
Listed s k d (Some h) = Among d (numbers_of s k)

abbrev RowListed : Source → Option Declaration → DeclNo → Type 0
RowListed s None d = Unit {0}
RowListed s (Some row) d = Listed s row.block d (entry_holds s true (Some row.entry))

listed_as : (s : Source) (k : ℕ) (d : DeclNo) (x : Option Holds) (h : Holds) → x ≡ Some h → Listed s k d x → Among d (numbers_of s k)
listed_as s k d None h e a = absurd (cc)
listed_as s k d (Some g) h e a = a

row_listed : (s : Source) (o : Option Declaration) (d : DeclNo) (row : Declaration) (h : Holds) → o ≡ Some row → entry_holds s true (Some row.entry) ≡ Some h → RowListed s o d → Among d (numbers_of s row.block)
row_listed s o d row h e f a = listed_as s row.block d (entry_holds s true (Some row.entry)) h f (subst (λ z. RowListed s z d) e a)

-- ---- entries and texts

abbrev EntryThere : Source → DeclNo → Option Entry → Type 0
EntryThere s d (Some (entry.Attribute name parameter result)) = SetProcedureThere s d name parameter result × (is_simulation_name name ≡ false)
EntryThere s d (Some (entry.Class k)) = ClassThere s d k
EntryThere s d (Some (entry.Procedure result k)) = ⊥
EntryThere s d (Some (entry.Virtual result own)) = ⊥
EntryThere s d _ = Unit {0}

abbrev SetText : Source → ℕ → Option Text → Type 0
SetText s k (Some (StandardText which)) = SetClassThere s k which
SetText s k _ = Unit {0}

-- the classes of sets declare nothing else
abbrev TextBare : Option Text → Option Entry → Type 0
TextBare (Some (StandardText which)) e = IsAttribute e
TextBare _ e = Unit {0}

abbrev RowBare : Source → Option Declaration → Type 0
RowBare s None = Unit {0}
RowBare s (Some row) = TextBare (text s row.block) (Some row.entry)

row_bare : (s : Source) (o : Option Declaration) (row : Declaration) (which : StandardClass) → o ≡ Some row → text s row.block ≡ Some (StandardText which) → RowBare s o → IsAttribute (Some row.entry)
row_bare s o row which e is a = subst (λ z. TextBare z (Some row.entry)) is (subst (RowBare s) e a)

abbrev OtherText : Option Text → Type 0
OtherText (Some (StandardText standard.Process)) = ⊥
OtherText _ = Unit {0}

-- a text that has no prefix is its only level
alone_level : (s : Source) {k u : ℕ} → base s.tables k ≡ None → LevelOf s k u → u ≡ k
alone_level s none same_level = refl
alone_level s {k = k} none (prefix_level {b = b} e at) = absurd (no_some (base s.tables k) b none e)

y_rows : (n : ℕ) → RowListed link_in_set (slice_get link_in_set.tables.declarations n) (number n)
unfolding digits element_place making_array copying_array keeping_array finding_element giving_back handed_over stopping no_rule ticking taking entering having when computing choosing popping pop_many pop_plain pop_truth pop_integers pop_operands pop_text answering applying_one applying_two testing_step performing putting_back assigning making_text joining at_level kept_on pushing index level_of_machine cell_at jumping block_at own_block leaving with_result putting put_back is_text home_of first_cells leaving_of_meaning constants_of putting_of_steps back_of_steps text_constants text_constant is_variable stream_of own_result own_match result_meant is_inside text is_class_free declared_at constant_of calculate compare compare_as_texts connect same_objects same_texts two_of one_of step_test take_integer take_character take_text take_nothing row_of standard_effect default_mode mode_allowed marked type_named result_named mode_named first_of_procedure first_of_class variable_marks array_marks parameter_marks moded_marks specified_marks headed_marks procedure_marks class_marks virtual_name_marks program_marks inner_marks declaring of_segment of_mode_part of_specification of_specifier of_virtual of_heading declared_by declarations_of run_of_runs lookup shown_of_scopes encloser searched block_at_of_scopes declaration_from binding entry_of formals_of formal_of result_of source_of denoted type_at line_at level_of block_of block_around standard_name text_attribute sysin_attribute sysout_attribute signature undeclared program_events of_statement of_branch of_arm of_block of_whole of_class_body of_declaration accessible protects is_kind some_around_of some_around base brought_by level_shows shown_of is_detach ends_search outward virtual_of represented standard_at qualified_marks qualified_result connection_at transfer_at found_at is_attribute qualification class_prefix_marks prefixed_marks prefix_marks standard_marks marks_of_standard standard_prefix standard_texts class_block has_level is_simulation_block some_level_of shows_detach class_formals class_formals_of found_in if_found object_ended pop_object qualifying referring belongs class_at is_in is_of levels levels_of first_along is_this this_block this_of with_entry_at putting_reference own_attribute brought_marks brings_class provides_attribute
y_rows zero = tt
y_rows (suc zero) = tt
y_rows (suc (suc zero)) = tt
y_rows (suc (suc (suc zero))) = tt
y_rows (suc (suc (suc (suc zero)))) = tt
y_rows (suc (suc (suc (suc (suc zero))))) = tt
y_rows (suc (suc (suc (suc (suc (suc zero)))))) = tt
y_rows (suc (suc (suc (suc (suc (suc (suc zero))))))) = tt
y_rows (suc (suc (suc (suc (suc (suc (suc (suc zero)))))))) = tt
y_rows (suc (suc (suc (suc (suc (suc (suc (suc (suc zero))))))))) = tt
y_rows (suc (suc (suc (suc (suc (suc (suc (suc (suc (suc zero)))))))))) = tt
y_rows (suc (suc (suc (suc (suc (suc (suc (suc (suc (suc (suc zero))))))))))) = tt
y_rows (suc (suc (suc (suc (suc (suc (suc (suc (suc (suc (suc (suc zero)))))))))))) = tt
y_rows (suc (suc (suc (suc (suc (suc (suc (suc (suc (suc (suc (suc (suc zero))))))))))))) = tt
y_rows (suc (suc (suc (suc (suc (suc (suc (suc (suc (suc (suc (suc (suc (suc zero)))))))))))))) = tt
y_rows (suc (suc (suc (suc (suc (suc (suc (suc (suc (suc (suc (suc (suc (suc (suc zero))))))))))))))) = first
y_rows (suc (suc (suc (suc (suc (suc (suc (suc (suc (suc (suc (suc (suc (suc (suc (suc zero)))))))))))))))) = later first
y_rows (suc (suc (suc (suc (suc (suc (suc (suc (suc (suc (suc (suc (suc (suc (suc (suc (suc n))))))))))))))))) = tt

y_seen : Seen link_in_set 0 0
unfolding digits element_place making_array copying_array keeping_array finding_element giving_back handed_over stopping no_rule ticking taking entering having when computing choosing popping pop_many pop_plain pop_truth pop_integers pop_operands pop_text answering applying_one applying_two testing_step performing putting_back assigning making_text joining at_level kept_on pushing index level_of_machine cell_at jumping block_at own_block leaving with_result putting put_back is_text home_of first_cells leaving_of_meaning constants_of putting_of_steps back_of_steps text_constants text_constant is_variable stream_of own_result own_match result_meant is_inside text is_class_free declared_at constant_of calculate compare compare_as_texts connect same_objects same_texts two_of one_of step_test take_integer take_character take_text take_nothing row_of standard_effect default_mode mode_allowed marked type_named result_named mode_named first_of_procedure first_of_class variable_marks array_marks parameter_marks moded_marks specified_marks headed_marks procedure_marks class_marks virtual_name_marks program_marks inner_marks declaring of_segment of_mode_part of_specification of_specifier of_virtual of_heading declared_by declarations_of run_of_runs lookup shown_of_scopes encloser searched block_at_of_scopes declaration_from binding entry_of formals_of formal_of result_of source_of denoted type_at line_at level_of block_of block_around standard_name text_attribute sysin_attribute sysout_attribute signature undeclared program_events of_statement of_branch of_arm of_block of_whole of_class_body of_declaration accessible protects is_kind some_around_of some_around base brought_by level_shows shown_of is_detach ends_search outward virtual_of represented standard_at qualified_marks qualified_result connection_at transfer_at found_at is_attribute qualification class_prefix_marks prefixed_marks prefix_marks standard_marks marks_of_standard standard_prefix standard_texts class_block has_level is_simulation_block some_level_of shows_detach class_formals class_formals_of found_in if_found object_ended pop_object qualifying referring belongs class_at is_in is_of levels levels_of first_along is_this this_block this_of with_entry_at putting_reference own_attribute brought_marks brings_class provides_attribute
y_seen = record { found = 0; around = itself; instance = refl; level = refl }

-- ---- the texts

y_block : TextHolds link_in_set 0 (text link_in_set 0)
unfolding digits element_place making_array copying_array keeping_array finding_element giving_back handed_over stopping no_rule ticking taking entering having when computing choosing popping pop_many pop_plain pop_truth pop_integers pop_operands pop_text answering applying_one applying_two testing_step performing putting_back assigning making_text joining at_level kept_on pushing index level_of_machine cell_at jumping block_at own_block leaving with_result putting put_back is_text home_of first_cells leaving_of_meaning constants_of putting_of_steps back_of_steps text_constants text_constant is_variable stream_of own_result own_match result_meant is_inside text is_class_free declared_at constant_of calculate compare compare_as_texts connect same_objects same_texts two_of one_of step_test take_integer take_character take_text take_nothing row_of standard_effect default_mode mode_allowed marked type_named result_named mode_named first_of_procedure first_of_class variable_marks array_marks parameter_marks moded_marks specified_marks headed_marks procedure_marks class_marks virtual_name_marks program_marks inner_marks declaring of_segment of_mode_part of_specification of_specifier of_virtual of_heading declared_by declarations_of run_of_runs lookup shown_of_scopes encloser searched block_at_of_scopes declaration_from binding entry_of formals_of formal_of result_of source_of denoted type_at line_at level_of block_of block_around standard_name text_attribute sysin_attribute sysout_attribute signature undeclared program_events of_statement of_branch of_arm of_block of_whole of_class_body of_declaration accessible protects is_kind some_around_of some_around base brought_by level_shows shown_of is_detach ends_search outward virtual_of represented standard_at qualified_marks qualified_result connection_at transfer_at found_at is_attribute qualification class_prefix_marks prefixed_marks prefix_marks standard_marks marks_of_standard standard_prefix standard_texts class_block has_level is_simulation_block some_level_of shows_detach class_formals class_formals_of found_in if_found object_ended pop_object qualifying referring belongs class_at is_in is_of levels levels_of first_along is_this this_block this_of with_entry_at putting_reference own_attribute brought_marks brings_class provides_attribute is_for_prefixing
y_block = record {
  formals = tt;
  parameters = λ d a f. absurd (not_formal (entry_of link_in_set.tables d) (simple_among link_in_set d (numbers_of link_in_set 0) (tt, (tt, tt)) a) f);
  different = rising_distinct (numbers_of link_in_set 0) ((omega arith, tt), (tt, tt));
  not_by_name = λ d k a e. none_named link_in_set d k (numbers_of link_in_set 0) (tt, (tt, tt)) a e;
  no_procedure = λ d r a e. no_procedures link_in_set d r (numbers_of link_in_set 0) (tt, (tt, tt)) a e;
  constants = λ d type a e. absurd (subst IsSimple e (simple_among link_in_set d (numbers_of link_in_set 0) (tt, (tt, tt)) a));
  arrays = tt;
  distinct = tt;
  made = λ d element dimensions a e. absurd (subst IsSimple e (simple_among link_in_set d (numbers_of link_in_set 0) (tt, (tt, tt)) a));
  own = λ d a. absurd (none_among d a);
  statements = (
    (kind.Reference, ((refl, record { class = 3; qualified = refl; at = (refl, y_seen) }), tt), (record { declaration = number 2; denotes = refl; class = 3; declares = refl; single = refl; process = λ e. absurd (cc); seen = y_seen; actuals = tt }, refl)),
    (
      (kind.Reference, ((refl, record { class = 2; qualified = refl; at = (refl, y_seen) }), tt), (record { declaration = number 1; denotes = refl; class = 2; declares = refl; single = refl; process = λ e. absurd (cc); seen = y_seen; actuals = tt }, refl)),
      ((None, (refl, tt, (2, refl, refl, (refl, y_seen)), ((refl, y_seen), tt)), refl), ((kind.Reference, ((refl, record { class = 2; qualified = refl; at = (refl, y_seen) }), tt), (refl, refl, (3, refl, refl, (refl, y_seen)), tt)), tt)),
    ),
  );
  stays = refl;
}

y_linkage : TextHolds link_in_set 1 (text link_in_set 1)
unfolding digits element_place making_array copying_array keeping_array finding_element giving_back handed_over stopping no_rule ticking taking entering having when computing choosing popping pop_many pop_plain pop_truth pop_integers pop_operands pop_text answering applying_one applying_two testing_step performing putting_back assigning making_text joining at_level kept_on pushing index level_of_machine cell_at jumping block_at own_block leaving with_result putting put_back is_text home_of first_cells leaving_of_meaning constants_of putting_of_steps back_of_steps text_constants text_constant is_variable stream_of own_result own_match result_meant is_inside text is_class_free declared_at constant_of calculate compare compare_as_texts connect same_objects same_texts two_of one_of step_test take_integer take_character take_text take_nothing row_of standard_effect default_mode mode_allowed marked type_named result_named mode_named first_of_procedure first_of_class variable_marks array_marks parameter_marks moded_marks specified_marks headed_marks procedure_marks class_marks virtual_name_marks program_marks inner_marks declaring of_segment of_mode_part of_specification of_specifier of_virtual of_heading declared_by declarations_of run_of_runs lookup shown_of_scopes encloser searched block_at_of_scopes declaration_from binding entry_of formals_of formal_of result_of source_of denoted type_at line_at level_of block_of block_around standard_name text_attribute sysin_attribute sysout_attribute signature undeclared program_events of_statement of_branch of_arm of_block of_whole of_class_body of_declaration accessible protects is_kind some_around_of some_around base brought_by level_shows shown_of is_detach ends_search outward virtual_of represented standard_at qualified_marks qualified_result connection_at transfer_at found_at is_attribute qualification class_prefix_marks prefixed_marks prefix_marks standard_marks marks_of_standard standard_prefix standard_texts class_block has_level is_simulation_block some_level_of shows_detach class_formals class_formals_of found_in if_found object_ended pop_object qualifying referring belongs class_at is_in is_of levels levels_of first_along is_this this_block this_of with_entry_at putting_reference own_attribute brought_marks brings_class provides_attribute
y_linkage = record {
  formals = tt;
  parameters = λ d a f. absurd (not_formal (entry_of link_in_set.tables d) (simple_among link_in_set d (numbers_of link_in_set 1) (tt, (tt, (tt, tt))) a) f);
  different = rising_distinct (numbers_of link_in_set 1) ((omega arith, (omega arith, tt)), ((omega arith, tt), (tt, tt)));
  not_by_name = λ d k a e. none_named link_in_set d k (numbers_of link_in_set 1) (tt, (tt, (tt, tt))) a e;
  no_procedure = λ d r a e. no_procedures link_in_set d r (numbers_of link_in_set 1) (tt, (tt, (tt, tt))) a e;
  constants = λ d type a e. absurd (subst IsSimple e (simple_among link_in_set d (numbers_of link_in_set 1) (tt, (tt, (tt, tt))) a));
  arrays = tt;
  distinct = tt;
  made = λ d element dimensions a e. absurd (subst IsSimple e (simple_among link_in_set d (numbers_of link_in_set 1) (tt, (tt, (tt, tt))) a));
  own = λ d a. absurd (none_among d a);
  statements = tt;
  stays = refl;
}

y_link : TextHolds link_in_set 2 (text link_in_set 2)
unfolding digits element_place making_array copying_array keeping_array finding_element giving_back handed_over stopping no_rule ticking taking entering having when computing choosing popping pop_many pop_plain pop_truth pop_integers pop_operands pop_text answering applying_one applying_two testing_step performing putting_back assigning making_text joining at_level kept_on pushing index level_of_machine cell_at jumping block_at own_block leaving with_result putting put_back is_text home_of first_cells leaving_of_meaning constants_of putting_of_steps back_of_steps text_constants text_constant is_variable stream_of own_result own_match result_meant is_inside text is_class_free declared_at constant_of calculate compare compare_as_texts connect same_objects same_texts two_of one_of step_test take_integer take_character take_text take_nothing row_of standard_effect default_mode mode_allowed marked type_named result_named mode_named first_of_procedure first_of_class variable_marks array_marks parameter_marks moded_marks specified_marks headed_marks procedure_marks class_marks virtual_name_marks program_marks inner_marks declaring of_segment of_mode_part of_specification of_specifier of_virtual of_heading declared_by declarations_of run_of_runs lookup shown_of_scopes encloser searched block_at_of_scopes declaration_from binding entry_of formals_of formal_of result_of source_of denoted type_at line_at level_of block_of block_around standard_name text_attribute sysin_attribute sysout_attribute signature undeclared program_events of_statement of_branch of_arm of_block of_whole of_class_body of_declaration accessible protects is_kind some_around_of some_around base brought_by level_shows shown_of is_detach ends_search outward virtual_of represented standard_at qualified_marks qualified_result connection_at transfer_at found_at is_attribute qualification class_prefix_marks prefixed_marks prefix_marks standard_marks marks_of_standard standard_prefix standard_texts class_block has_level is_simulation_block some_level_of shows_detach class_formals class_formals_of found_in if_found object_ended pop_object qualifying referring belongs class_at is_in is_of levels levels_of first_along is_this this_block this_of with_entry_at putting_reference own_attribute brought_marks brings_class provides_attribute
y_link = record {
  formals = tt;
  parameters = λ d a f. absurd (not_formal (entry_of link_in_set.tables d) (simple_among link_in_set d (numbers_of link_in_set 2) (tt, (tt, (tt, (tt, tt)))) a) f);
  different = rising_distinct (numbers_of link_in_set 2) ((omega arith, (omega arith, (omega arith, tt))), ((omega arith, (omega arith, tt)), ((omega arith, tt), (tt, tt))));
  not_by_name = λ d k a e. none_named link_in_set d k (numbers_of link_in_set 2) (tt, (tt, (tt, (tt, tt)))) a e;
  no_procedure = λ d r a e. no_procedures link_in_set d r (numbers_of link_in_set 2) (tt, (tt, (tt, (tt, tt)))) a e;
  constants = λ d type a e. absurd (subst IsSimple e (simple_among link_in_set d (numbers_of link_in_set 2) (tt, (tt, (tt, (tt, tt)))) a));
  arrays = tt;
  distinct = tt;
  made = λ d element dimensions a e. absurd (subst IsSimple e (simple_among link_in_set d (numbers_of link_in_set 2) (tt, (tt, (tt, (tt, tt)))) a));
  own = λ d a. absurd (none_among d a);
  statements = tt;
  stays = refl;
}

y_head : TextHolds link_in_set 3 (text link_in_set 3)
unfolding digits element_place making_array copying_array keeping_array finding_element giving_back handed_over stopping no_rule ticking taking entering having when computing choosing popping pop_many pop_plain pop_truth pop_integers pop_operands pop_text answering applying_one applying_two testing_step performing putting_back assigning making_text joining at_level kept_on pushing index level_of_machine cell_at jumping block_at own_block leaving with_result putting put_back is_text home_of first_cells leaving_of_meaning constants_of putting_of_steps back_of_steps text_constants text_constant is_variable stream_of own_result own_match result_meant is_inside text is_class_free declared_at constant_of calculate compare compare_as_texts connect same_objects same_texts two_of one_of step_test take_integer take_character take_text take_nothing row_of standard_effect default_mode mode_allowed marked type_named result_named mode_named first_of_procedure first_of_class variable_marks array_marks parameter_marks moded_marks specified_marks headed_marks procedure_marks class_marks virtual_name_marks program_marks inner_marks declaring of_segment of_mode_part of_specification of_specifier of_virtual of_heading declared_by declarations_of run_of_runs lookup shown_of_scopes encloser searched block_at_of_scopes declaration_from binding entry_of formals_of formal_of result_of source_of denoted type_at line_at level_of block_of block_around standard_name text_attribute sysin_attribute sysout_attribute signature undeclared program_events of_statement of_branch of_arm of_block of_whole of_class_body of_declaration accessible protects is_kind some_around_of some_around base brought_by level_shows shown_of is_detach ends_search outward virtual_of represented standard_at qualified_marks qualified_result connection_at transfer_at found_at is_attribute qualification class_prefix_marks prefixed_marks prefix_marks standard_marks marks_of_standard standard_prefix standard_texts class_block has_level is_simulation_block some_level_of shows_detach class_formals class_formals_of found_in if_found object_ended pop_object qualifying referring belongs class_at is_in is_of levels levels_of first_along is_this this_block this_of with_entry_at putting_reference own_attribute brought_marks brings_class provides_attribute
y_head = record {
  formals = tt;
  parameters = λ d a f. absurd (not_formal (entry_of link_in_set.tables d) (simple_among link_in_set d (numbers_of link_in_set 3) (tt, (tt, (tt, (tt, (tt, tt))))) a) f);
  different = rising_distinct (numbers_of link_in_set 3) ((omega arith, (omega arith, (omega arith, (omega arith, tt)))), ((omega arith, (omega arith, (omega arith, tt))), ((omega arith, (omega arith, tt)), ((omega arith, tt), (tt, tt)))));
  not_by_name = λ d k a e. none_named link_in_set d k (numbers_of link_in_set 3) (tt, (tt, (tt, (tt, (tt, tt))))) a e;
  no_procedure = λ d r a e. no_procedures link_in_set d r (numbers_of link_in_set 3) (tt, (tt, (tt, (tt, (tt, tt))))) a e;
  constants = λ d type a e. absurd (subst IsSimple e (simple_among link_in_set d (numbers_of link_in_set 3) (tt, (tt, (tt, (tt, (tt, tt))))) a));
  arrays = tt;
  distinct = tt;
  made = λ d element dimensions a e. absurd (subst IsSimple e (simple_among link_in_set d (numbers_of link_in_set 3) (tt, (tt, (tt, (tt, (tt, tt))))) a));
  own = λ d a. absurd (none_among d a);
  statements = tt;
  stays = refl;
}

y_texts : (k : ℕ) → TextHolds link_in_set k (text link_in_set k)
unfolding digits element_place making_array copying_array keeping_array finding_element giving_back handed_over stopping no_rule ticking taking entering having when computing choosing popping pop_many pop_plain pop_truth pop_integers pop_operands pop_text answering applying_one applying_two testing_step performing putting_back assigning making_text joining at_level kept_on pushing index level_of_machine cell_at jumping block_at own_block leaving with_result putting put_back is_text home_of first_cells leaving_of_meaning constants_of putting_of_steps back_of_steps text_constants text_constant is_variable stream_of own_result own_match result_meant is_inside text is_class_free declared_at constant_of calculate compare compare_as_texts connect same_objects same_texts two_of one_of step_test take_integer take_character take_text take_nothing row_of standard_effect default_mode mode_allowed marked type_named result_named mode_named first_of_procedure first_of_class variable_marks array_marks parameter_marks moded_marks specified_marks headed_marks procedure_marks class_marks virtual_name_marks program_marks inner_marks declaring of_segment of_mode_part of_specification of_specifier of_virtual of_heading declared_by declarations_of run_of_runs lookup shown_of_scopes encloser searched block_at_of_scopes declaration_from binding entry_of formals_of formal_of result_of source_of denoted type_at line_at level_of block_of block_around standard_name text_attribute sysin_attribute sysout_attribute signature undeclared program_events of_statement of_branch of_arm of_block of_whole of_class_body of_declaration accessible protects is_kind some_around_of some_around base brought_by level_shows shown_of is_detach ends_search outward virtual_of represented standard_at qualified_marks qualified_result connection_at transfer_at found_at is_attribute qualification class_prefix_marks prefixed_marks prefix_marks standard_marks marks_of_standard standard_prefix standard_texts class_block has_level is_simulation_block some_level_of shows_detach class_formals class_formals_of found_in if_found object_ended pop_object qualifying referring belongs class_at is_in is_of levels levels_of first_along is_this this_block this_of with_entry_at putting_reference own_attribute brought_marks brings_class provides_attribute
y_texts zero = y_block
y_texts (suc zero) = y_linkage
y_texts (suc (suc zero)) = y_link
y_texts (suc (suc (suc zero))) = y_head
y_texts (suc (suc (suc (suc k)))) = tt

-- ---- the tables

y_levels : (t u : ℕ) → encloser link_in_set.tables t ≡ Some u → level_of link_in_set t ≡ suc (level_of link_in_set u)
unfolding digits element_place making_array copying_array keeping_array finding_element giving_back handed_over stopping no_rule ticking taking entering having when computing choosing popping pop_many pop_plain pop_truth pop_integers pop_operands pop_text answering applying_one applying_two testing_step performing putting_back assigning making_text joining at_level kept_on pushing index level_of_machine cell_at jumping block_at own_block leaving with_result putting put_back is_text home_of first_cells leaving_of_meaning constants_of putting_of_steps back_of_steps text_constants text_constant is_variable stream_of own_result own_match result_meant is_inside text is_class_free declared_at constant_of calculate compare compare_as_texts connect same_objects same_texts two_of one_of step_test take_integer take_character take_text take_nothing row_of standard_effect default_mode mode_allowed marked type_named result_named mode_named first_of_procedure first_of_class variable_marks array_marks parameter_marks moded_marks specified_marks headed_marks procedure_marks class_marks virtual_name_marks program_marks inner_marks declaring of_segment of_mode_part of_specification of_specifier of_virtual of_heading declared_by declarations_of run_of_runs lookup shown_of_scopes encloser searched block_at_of_scopes declaration_from binding entry_of formals_of formal_of result_of source_of denoted type_at line_at level_of block_of block_around standard_name text_attribute sysin_attribute sysout_attribute signature undeclared program_events of_statement of_branch of_arm of_block of_whole of_class_body of_declaration accessible protects is_kind some_around_of some_around base brought_by level_shows shown_of is_detach ends_search outward virtual_of represented standard_at qualified_marks qualified_result connection_at transfer_at found_at is_attribute qualification class_prefix_marks prefixed_marks prefix_marks standard_marks marks_of_standard standard_prefix standard_texts class_block has_level is_simulation_block some_level_of shows_detach class_formals class_formals_of found_in if_found object_ended pop_object qualifying referring belongs class_at is_in is_of levels levels_of first_along is_this this_block this_of with_entry_at putting_reference own_attribute brought_marks brings_class provides_attribute
y_levels zero u e = absurd (cc)
y_levels (suc zero) u e = let f : 0 ≡ u = cc in subst (λ z. level_of link_in_set 1 ≡ suc (level_of link_in_set z)) f refl
y_levels (suc (suc zero)) u e = let f : 0 ≡ u = cc in subst (λ z. level_of link_in_set 2 ≡ suc (level_of link_in_set z)) f refl
y_levels (suc (suc (suc zero))) u e = let f : 0 ≡ u = cc in subst (λ z. level_of link_in_set 3 ≡ suc (level_of link_in_set z)) f refl
y_levels (suc (suc (suc (suc t)))) u e = absurd (cc)

y_classes : SetClasses link_in_set 1
unfolding digits element_place making_array copying_array keeping_array finding_element giving_back handed_over stopping no_rule ticking taking entering having when computing choosing popping pop_many pop_plain pop_truth pop_integers pop_operands pop_text answering applying_one applying_two testing_step performing putting_back assigning making_text joining at_level kept_on pushing index level_of_machine cell_at jumping block_at own_block leaving with_result putting put_back is_text home_of first_cells leaving_of_meaning constants_of putting_of_steps back_of_steps text_constants text_constant is_variable stream_of own_result own_match result_meant is_inside text is_class_free declared_at constant_of calculate compare compare_as_texts connect same_objects same_texts two_of one_of step_test take_integer take_character take_text take_nothing row_of standard_effect default_mode mode_allowed marked type_named result_named mode_named first_of_procedure first_of_class variable_marks array_marks parameter_marks moded_marks specified_marks headed_marks procedure_marks class_marks virtual_name_marks program_marks inner_marks declaring of_segment of_mode_part of_specification of_specifier of_virtual of_heading declared_by declarations_of run_of_runs lookup shown_of_scopes encloser searched block_at_of_scopes declaration_from binding entry_of formals_of formal_of result_of source_of denoted type_at line_at level_of block_of block_around standard_name text_attribute sysin_attribute sysout_attribute signature undeclared program_events of_statement of_branch of_arm of_block of_whole of_class_body of_declaration accessible protects is_kind some_around_of some_around base brought_by level_shows shown_of is_detach ends_search outward virtual_of represented standard_at qualified_marks qualified_result connection_at transfer_at found_at is_attribute qualification class_prefix_marks prefixed_marks prefix_marks standard_marks marks_of_standard standard_prefix standard_texts class_block has_level is_simulation_block some_level_of shows_detach class_formals class_formals_of found_in if_found object_ended pop_object qualifying referring belongs class_at is_in is_of levels levels_of first_along is_this this_block this_of with_entry_at putting_reference own_attribute brought_marks brings_class provides_attribute
y_classes = record { linkage_is = refl; link_is = refl; head_is = refl; first = refl; link_prefix = refl; head_prefix = refl }

y_entries : (n : ℕ) → EntryThere link_in_set (number n) (entry_of link_in_set.tables (number n))
unfolding digits element_place making_array copying_array keeping_array finding_element giving_back handed_over stopping no_rule ticking taking entering having when computing choosing popping pop_many pop_plain pop_truth pop_integers pop_operands pop_text answering applying_one applying_two testing_step performing putting_back assigning making_text joining at_level kept_on pushing index level_of_machine cell_at jumping block_at own_block leaving with_result putting put_back is_text home_of first_cells leaving_of_meaning constants_of putting_of_steps back_of_steps text_constants text_constant is_variable stream_of own_result own_match result_meant is_inside text is_class_free declared_at constant_of calculate compare compare_as_texts connect same_objects same_texts two_of one_of step_test take_integer take_character take_text take_nothing row_of standard_effect default_mode mode_allowed marked type_named result_named mode_named first_of_procedure first_of_class variable_marks array_marks parameter_marks moded_marks specified_marks headed_marks procedure_marks class_marks virtual_name_marks program_marks inner_marks declaring of_segment of_mode_part of_specification of_specifier of_virtual of_heading declared_by declarations_of run_of_runs lookup shown_of_scopes encloser searched block_at_of_scopes declaration_from binding entry_of formals_of formal_of result_of source_of denoted type_at line_at level_of block_of block_around standard_name text_attribute sysin_attribute sysout_attribute signature undeclared program_events of_statement of_branch of_arm of_block of_whole of_class_body of_declaration accessible protects is_kind some_around_of some_around base brought_by level_shows shown_of is_detach ends_search outward virtual_of represented standard_at qualified_marks qualified_result connection_at transfer_at found_at is_attribute qualification class_prefix_marks prefixed_marks prefix_marks standard_marks marks_of_standard standard_prefix standard_texts class_block has_level is_simulation_block some_level_of shows_detach class_formals class_formals_of found_in if_found object_ended pop_object qualifying referring belongs class_at is_in is_of levels levels_of first_along is_this this_block this_of with_entry_at putting_reference own_attribute brought_marks brings_class provides_attribute
y_entries zero = record { is = refl; around = refl }
y_entries (suc zero) = record { is = refl; around = refl }
y_entries (suc (suc zero)) = record { is = refl; around = refl }
y_entries (suc (suc (suc zero))) = (record { linkage = 1; classes = y_classes; place = 0; placed = refl; declared = refl; parameter_is = tt; result_is = refl; of_process = λ e. absurd (cc) }, refl)
y_entries (suc (suc (suc (suc zero)))) = (record { linkage = 1; classes = y_classes; place = 0; placed = refl; declared = refl; parameter_is = tt; result_is = refl; of_process = λ e. absurd (cc) }, refl)
y_entries (suc (suc (suc (suc (suc zero))))) = (record { linkage = 1; classes = y_classes; place = 0; placed = refl; declared = refl; parameter_is = tt; result_is = refl; of_process = λ e. absurd (cc) }, refl)
y_entries (suc (suc (suc (suc (suc (suc zero)))))) = (record { linkage = 1; classes = y_classes; place = 1; placed = refl; declared = refl; parameter_is = tt; result_is = tt; of_process = λ e. absurd (cc) }, refl)
y_entries (suc (suc (suc (suc (suc (suc (suc zero))))))) = (record { linkage = 1; classes = y_classes; place = 1; placed = refl; declared = refl; parameter_is = refl; result_is = tt; of_process = λ e. absurd (cc) }, refl)
y_entries (suc (suc (suc (suc (suc (suc (suc (suc zero)))))))) = (record { linkage = 1; classes = y_classes; place = 1; placed = refl; declared = refl; parameter_is = refl; result_is = tt; of_process = λ e. absurd (cc) }, refl)
y_entries (suc (suc (suc (suc (suc (suc (suc (suc (suc zero))))))))) = (record { linkage = 1; classes = y_classes; place = 1; placed = refl; declared = refl; parameter_is = refl; result_is = tt; of_process = λ e. absurd (cc) }, refl)
y_entries (suc (suc (suc (suc (suc (suc (suc (suc (suc (suc zero)))))))))) = (record { linkage = 1; classes = y_classes; place = 2; placed = refl; declared = refl; parameter_is = tt; result_is = refl; of_process = λ e. absurd (cc) }, refl)
y_entries (suc (suc (suc (suc (suc (suc (suc (suc (suc (suc (suc zero))))))))))) = (record { linkage = 1; classes = y_classes; place = 2; placed = refl; declared = refl; parameter_is = tt; result_is = refl; of_process = λ e. absurd (cc) }, refl)
y_entries (suc (suc (suc (suc (suc (suc (suc (suc (suc (suc (suc (suc zero)))))))))))) = (record { linkage = 1; classes = y_classes; place = 2; placed = refl; declared = refl; parameter_is = tt; result_is = refl; of_process = λ e. absurd (cc) }, refl)
y_entries (suc (suc (suc (suc (suc (suc (suc (suc (suc (suc (suc (suc (suc zero))))))))))))) = (record { linkage = 1; classes = y_classes; place = 2; placed = refl; declared = refl; parameter_is = tt; result_is = refl; of_process = λ e. absurd (cc) }, refl)
y_entries (suc (suc (suc (suc (suc (suc (suc (suc (suc (suc (suc (suc (suc (suc zero)))))))))))))) = (record { linkage = 1; classes = y_classes; place = 2; placed = refl; declared = refl; parameter_is = tt; result_is = tt; of_process = λ e. absurd (cc) }, refl)
y_entries (suc (suc (suc (suc (suc (suc (suc (suc (suc (suc (suc (suc (suc (suc (suc zero))))))))))))))) = tt
y_entries (suc (suc (suc (suc (suc (suc (suc (suc (suc (suc (suc (suc (suc (suc (suc (suc zero)))))))))))))))) = tt
y_entries (suc (suc (suc (suc (suc (suc (suc (suc (suc (suc (suc (suc (suc (suc (suc (suc (suc n))))))))))))))))) = tt

y_bare : (n : ℕ) → RowBare link_in_set (slice_get link_in_set.tables.declarations n)
unfolding digits element_place making_array copying_array keeping_array finding_element giving_back handed_over stopping no_rule ticking taking entering having when computing choosing popping pop_many pop_plain pop_truth pop_integers pop_operands pop_text answering applying_one applying_two testing_step performing putting_back assigning making_text joining at_level kept_on pushing index level_of_machine cell_at jumping block_at own_block leaving with_result putting put_back is_text home_of first_cells leaving_of_meaning constants_of putting_of_steps back_of_steps text_constants text_constant is_variable stream_of own_result own_match result_meant is_inside text is_class_free declared_at constant_of calculate compare compare_as_texts connect same_objects same_texts two_of one_of step_test take_integer take_character take_text take_nothing row_of standard_effect default_mode mode_allowed marked type_named result_named mode_named first_of_procedure first_of_class variable_marks array_marks parameter_marks moded_marks specified_marks headed_marks procedure_marks class_marks virtual_name_marks program_marks inner_marks declaring of_segment of_mode_part of_specification of_specifier of_virtual of_heading declared_by declarations_of run_of_runs lookup shown_of_scopes encloser searched block_at_of_scopes declaration_from binding entry_of formals_of formal_of result_of source_of denoted type_at line_at level_of block_of block_around standard_name text_attribute sysin_attribute sysout_attribute signature undeclared program_events of_statement of_branch of_arm of_block of_whole of_class_body of_declaration accessible protects is_kind some_around_of some_around base brought_by level_shows shown_of is_detach ends_search outward virtual_of represented standard_at qualified_marks qualified_result connection_at transfer_at found_at is_attribute qualification class_prefix_marks prefixed_marks prefix_marks standard_marks marks_of_standard standard_prefix standard_texts class_block has_level is_simulation_block some_level_of shows_detach class_formals class_formals_of found_in if_found object_ended pop_object qualifying referring belongs class_at is_in is_of levels levels_of first_along is_this this_block this_of with_entry_at putting_reference own_attribute brought_marks brings_class provides_attribute
y_bare zero = tt
y_bare (suc zero) = tt
y_bare (suc (suc zero)) = tt
y_bare (suc (suc (suc zero))) = tt
y_bare (suc (suc (suc (suc zero)))) = tt
y_bare (suc (suc (suc (suc (suc zero))))) = tt
y_bare (suc (suc (suc (suc (suc (suc zero)))))) = tt
y_bare (suc (suc (suc (suc (suc (suc (suc zero))))))) = tt
y_bare (suc (suc (suc (suc (suc (suc (suc (suc zero)))))))) = tt
y_bare (suc (suc (suc (suc (suc (suc (suc (suc (suc zero))))))))) = tt
y_bare (suc (suc (suc (suc (suc (suc (suc (suc (suc (suc zero)))))))))) = tt
y_bare (suc (suc (suc (suc (suc (suc (suc (suc (suc (suc (suc zero))))))))))) = tt
y_bare (suc (suc (suc (suc (suc (suc (suc (suc (suc (suc (suc (suc zero)))))))))))) = tt
y_bare (suc (suc (suc (suc (suc (suc (suc (suc (suc (suc (suc (suc (suc zero))))))))))))) = tt
y_bare (suc (suc (suc (suc (suc (suc (suc (suc (suc (suc (suc (suc (suc (suc zero)))))))))))))) = tt
y_bare (suc (suc (suc (suc (suc (suc (suc (suc (suc (suc (suc (suc (suc (suc (suc zero))))))))))))))) = tt
y_bare (suc (suc (suc (suc (suc (suc (suc (suc (suc (suc (suc (suc (suc (suc (suc (suc zero)))))))))))))))) = tt
y_bare (suc (suc (suc (suc (suc (suc (suc (suc (suc (suc (suc (suc (suc (suc (suc (suc (suc n))))))))))))))))) = tt

y_no_simulation : (k : ℕ) → is_simulation_block link_in_set.tables k ≡ false
unfolding digits element_place making_array copying_array keeping_array finding_element giving_back handed_over stopping no_rule ticking taking entering having when computing choosing popping pop_many pop_plain pop_truth pop_integers pop_operands pop_text answering applying_one applying_two testing_step performing putting_back assigning making_text joining at_level kept_on pushing index level_of_machine cell_at jumping block_at own_block leaving with_result putting put_back is_text home_of first_cells leaving_of_meaning constants_of putting_of_steps back_of_steps text_constants text_constant is_variable stream_of own_result own_match result_meant is_inside text is_class_free declared_at constant_of calculate compare compare_as_texts connect same_objects same_texts two_of one_of step_test take_integer take_character take_text take_nothing row_of standard_effect default_mode mode_allowed marked type_named result_named mode_named first_of_procedure first_of_class variable_marks array_marks parameter_marks moded_marks specified_marks headed_marks procedure_marks class_marks virtual_name_marks program_marks inner_marks declaring of_segment of_mode_part of_specification of_specifier of_virtual of_heading declared_by declarations_of run_of_runs lookup shown_of_scopes encloser searched block_at_of_scopes declaration_from binding entry_of formals_of formal_of result_of source_of denoted type_at line_at level_of block_of block_around standard_name text_attribute sysin_attribute sysout_attribute signature undeclared program_events of_statement of_branch of_arm of_block of_whole of_class_body of_declaration accessible protects is_kind some_around_of some_around base brought_by level_shows shown_of is_detach ends_search outward virtual_of represented standard_at qualified_marks qualified_result connection_at transfer_at found_at is_attribute qualification class_prefix_marks prefixed_marks prefix_marks standard_marks marks_of_standard standard_prefix standard_texts class_block has_level is_simulation_block some_level_of shows_detach class_formals class_formals_of found_in if_found object_ended pop_object qualifying referring belongs class_at is_in is_of levels levels_of first_along is_this this_block this_of with_entry_at putting_reference own_attribute brought_marks brings_class provides_attribute
y_no_simulation zero = refl
y_no_simulation (suc zero) = refl
y_no_simulation (suc (suc zero)) = refl
y_no_simulation (suc (suc (suc zero))) = refl
y_no_simulation (suc (suc (suc (suc k)))) = refl

y_no_process : (k : ℕ) → OtherText (text link_in_set k)
unfolding digits element_place making_array copying_array keeping_array finding_element giving_back handed_over stopping no_rule ticking taking entering having when computing choosing popping pop_many pop_plain pop_truth pop_integers pop_operands pop_text answering applying_one applying_two testing_step performing putting_back assigning making_text joining at_level kept_on pushing index level_of_machine cell_at jumping block_at own_block leaving with_result putting put_back is_text home_of first_cells leaving_of_meaning constants_of putting_of_steps back_of_steps text_constants text_constant is_variable stream_of own_result own_match result_meant is_inside text is_class_free declared_at constant_of calculate compare compare_as_texts connect same_objects same_texts two_of one_of step_test take_integer take_character take_text take_nothing row_of standard_effect default_mode mode_allowed marked type_named result_named mode_named first_of_procedure first_of_class variable_marks array_marks parameter_marks moded_marks specified_marks headed_marks procedure_marks class_marks virtual_name_marks program_marks inner_marks declaring of_segment of_mode_part of_specification of_specifier of_virtual of_heading declared_by declarations_of run_of_runs lookup shown_of_scopes encloser searched block_at_of_scopes declaration_from binding entry_of formals_of formal_of result_of source_of denoted type_at line_at level_of block_of block_around standard_name text_attribute sysin_attribute sysout_attribute signature undeclared program_events of_statement of_branch of_arm of_block of_whole of_class_body of_declaration accessible protects is_kind some_around_of some_around base brought_by level_shows shown_of is_detach ends_search outward virtual_of represented standard_at qualified_marks qualified_result connection_at transfer_at found_at is_attribute qualification class_prefix_marks prefixed_marks prefix_marks standard_marks marks_of_standard standard_prefix standard_texts class_block has_level is_simulation_block some_level_of shows_detach class_formals class_formals_of found_in if_found object_ended pop_object qualifying referring belongs class_at is_in is_of levels levels_of first_along is_this this_block this_of with_entry_at putting_reference own_attribute brought_marks brings_class provides_attribute
y_no_process zero = tt
y_no_process (suc zero) = tt
y_no_process (suc (suc zero)) = tt
y_no_process (suc (suc (suc zero))) = tt
y_no_process (suc (suc (suc (suc k)))) = tt

y_set_texts : (k : ℕ) → SetText link_in_set k (text link_in_set k)
unfolding digits element_place making_array copying_array keeping_array finding_element giving_back handed_over stopping no_rule ticking taking entering having when computing choosing popping pop_many pop_plain pop_truth pop_integers pop_operands pop_text answering applying_one applying_two testing_step performing putting_back assigning making_text joining at_level kept_on pushing index level_of_machine cell_at jumping block_at own_block leaving with_result putting put_back is_text home_of first_cells leaving_of_meaning constants_of putting_of_steps back_of_steps text_constants text_constant is_variable stream_of own_result own_match result_meant is_inside text is_class_free declared_at constant_of calculate compare compare_as_texts connect same_objects same_texts two_of one_of step_test take_integer take_character take_text take_nothing row_of standard_effect default_mode mode_allowed marked type_named result_named mode_named first_of_procedure first_of_class variable_marks array_marks parameter_marks moded_marks specified_marks headed_marks procedure_marks class_marks virtual_name_marks program_marks inner_marks declaring of_segment of_mode_part of_specification of_specifier of_virtual of_heading declared_by declarations_of run_of_runs lookup shown_of_scopes encloser searched block_at_of_scopes declaration_from binding entry_of formals_of formal_of result_of source_of denoted type_at line_at level_of block_of block_around standard_name text_attribute sysin_attribute sysout_attribute signature undeclared program_events of_statement of_branch of_arm of_block of_whole of_class_body of_declaration accessible protects is_kind some_around_of some_around base brought_by level_shows shown_of is_detach ends_search outward virtual_of represented standard_at qualified_marks qualified_result connection_at transfer_at found_at is_attribute qualification class_prefix_marks prefixed_marks prefix_marks standard_marks marks_of_standard standard_prefix standard_texts class_block has_level is_simulation_block some_level_of shows_detach class_formals class_formals_of found_in if_found object_ended pop_object qualifying referring belongs class_at is_in is_of levels levels_of first_along is_this this_block this_of with_entry_at putting_reference own_attribute brought_marks brings_class provides_attribute
y_set_texts zero = tt
y_set_texts (suc zero) = record { linkage = 1; classes = y_classes; place = 0; placed = refl; is = refl }
y_set_texts (suc (suc zero)) = record { linkage = 1; classes = y_classes; place = 1; placed = refl; is = refl }
y_set_texts (suc (suc (suc zero))) = record { linkage = 1; classes = y_classes; place = 2; placed = refl; is = refl }
y_set_texts (suc (suc (suc (suc k)))) = tt

y_free : (t u : ℕ) → encloser link_in_set.tables t ≡ Some u → is_class_free link_in_set t ≡ false → is_class_free link_in_set u ≡ false
unfolding digits element_place making_array copying_array keeping_array finding_element giving_back handed_over stopping no_rule ticking taking entering having when computing choosing popping pop_many pop_plain pop_truth pop_integers pop_operands pop_text answering applying_one applying_two testing_step performing putting_back assigning making_text joining at_level kept_on pushing index level_of_machine cell_at jumping block_at own_block leaving with_result putting put_back is_text home_of first_cells leaving_of_meaning constants_of putting_of_steps back_of_steps text_constants text_constant is_variable stream_of own_result own_match result_meant is_inside text is_class_free declared_at constant_of calculate compare compare_as_texts connect same_objects same_texts two_of one_of step_test take_integer take_character take_text take_nothing row_of standard_effect default_mode mode_allowed marked type_named result_named mode_named first_of_procedure first_of_class variable_marks array_marks parameter_marks moded_marks specified_marks headed_marks procedure_marks class_marks virtual_name_marks program_marks inner_marks declaring of_segment of_mode_part of_specification of_specifier of_virtual of_heading declared_by declarations_of run_of_runs lookup shown_of_scopes encloser searched block_at_of_scopes declaration_from binding entry_of formals_of formal_of result_of source_of denoted type_at line_at level_of block_of block_around standard_name text_attribute sysin_attribute sysout_attribute signature undeclared program_events of_statement of_branch of_arm of_block of_whole of_class_body of_declaration accessible protects is_kind some_around_of some_around base brought_by level_shows shown_of is_detach ends_search outward virtual_of represented standard_at qualified_marks qualified_result connection_at transfer_at found_at is_attribute qualification class_prefix_marks prefixed_marks prefix_marks standard_marks marks_of_standard standard_prefix standard_texts class_block has_level is_simulation_block some_level_of shows_detach class_formals class_formals_of found_in if_found object_ended pop_object qualifying referring belongs class_at is_in is_of levels levels_of first_along is_this this_block this_of with_entry_at putting_reference own_attribute brought_marks brings_class provides_attribute
y_free zero u around e = absurd (cc)
y_free (suc zero) u around e = let f : 0 ≡ u = cc in subst (λ z. is_class_free link_in_set z ≡ false) f refl
y_free (suc (suc zero)) u around e = let f : 0 ≡ u = cc in subst (λ z. is_class_free link_in_set z ≡ false) f refl
y_free (suc (suc (suc zero))) u around e = let f : 0 ≡ u = cc in subst (λ z. is_class_free link_in_set z ≡ false) f refl
y_free (suc (suc (suc (suc t)))) u around e = absurd (cc)

y_link_prefix : PrefixTyped link_in_set 2 1
unfolding digits element_place making_array copying_array keeping_array finding_element giving_back handed_over stopping no_rule ticking taking entering having when computing choosing popping pop_many pop_plain pop_truth pop_integers pop_operands pop_text answering applying_one applying_two testing_step performing putting_back assigning making_text joining at_level kept_on pushing index level_of_machine cell_at jumping block_at own_block leaving with_result putting put_back is_text home_of first_cells leaving_of_meaning constants_of putting_of_steps back_of_steps text_constants text_constant is_variable stream_of own_result own_match result_meant is_inside text is_class_free declared_at constant_of calculate compare compare_as_texts connect same_objects same_texts two_of one_of step_test take_integer take_character take_text take_nothing row_of standard_effect default_mode mode_allowed marked type_named result_named mode_named first_of_procedure first_of_class variable_marks array_marks parameter_marks moded_marks specified_marks headed_marks procedure_marks class_marks virtual_name_marks program_marks inner_marks declaring of_segment of_mode_part of_specification of_specifier of_virtual of_heading declared_by declarations_of run_of_runs lookup shown_of_scopes encloser searched block_at_of_scopes declaration_from binding entry_of formals_of formal_of result_of source_of denoted type_at line_at level_of block_of block_around standard_name text_attribute sysin_attribute sysout_attribute signature undeclared program_events of_statement of_branch of_arm of_block of_whole of_class_body of_declaration accessible protects is_kind some_around_of some_around base brought_by level_shows shown_of is_detach ends_search outward virtual_of represented standard_at qualified_marks qualified_result connection_at transfer_at found_at is_attribute qualification class_prefix_marks prefixed_marks prefix_marks standard_marks marks_of_standard standard_prefix standard_texts class_block has_level is_simulation_block some_level_of shows_detach class_formals class_formals_of found_in if_found object_ended pop_object qualifying referring belongs class_at is_in is_of levels levels_of first_along is_this this_block this_of with_entry_at putting_reference own_attribute brought_marks brings_class provides_attribute
y_link_prefix = record { has = refl; prefix = refl; outer = 0; outer_prefix = 0; around = stands {k = 2} {u = 0} refl refl; around_prefix = refl; solid = refl; declared = refl }

y_head_prefix : PrefixTyped link_in_set 3 1
unfolding digits element_place making_array copying_array keeping_array finding_element giving_back handed_over stopping no_rule ticking taking entering having when computing choosing popping pop_many pop_plain pop_truth pop_integers pop_operands pop_text answering applying_one applying_two testing_step performing putting_back assigning making_text joining at_level kept_on pushing index level_of_machine cell_at jumping block_at own_block leaving with_result putting put_back is_text home_of first_cells leaving_of_meaning constants_of putting_of_steps back_of_steps text_constants text_constant is_variable stream_of own_result own_match result_meant is_inside text is_class_free declared_at constant_of calculate compare compare_as_texts connect same_objects same_texts two_of one_of step_test take_integer take_character take_text take_nothing row_of standard_effect default_mode mode_allowed marked type_named result_named mode_named first_of_procedure first_of_class variable_marks array_marks parameter_marks moded_marks specified_marks headed_marks procedure_marks class_marks virtual_name_marks program_marks inner_marks declaring of_segment of_mode_part of_specification of_specifier of_virtual of_heading declared_by declarations_of run_of_runs lookup shown_of_scopes encloser searched block_at_of_scopes declaration_from binding entry_of formals_of formal_of result_of source_of denoted type_at line_at level_of block_of block_around standard_name text_attribute sysin_attribute sysout_attribute signature undeclared program_events of_statement of_branch of_arm of_block of_whole of_class_body of_declaration accessible protects is_kind some_around_of some_around base brought_by level_shows shown_of is_detach ends_search outward virtual_of represented standard_at qualified_marks qualified_result connection_at transfer_at found_at is_attribute qualification class_prefix_marks prefixed_marks prefix_marks standard_marks marks_of_standard standard_prefix standard_texts class_block has_level is_simulation_block some_level_of shows_detach class_formals class_formals_of found_in if_found object_ended pop_object qualifying referring belongs class_at is_in is_of levels levels_of first_along is_this this_block this_of with_entry_at putting_reference own_attribute brought_marks brings_class provides_attribute
y_head_prefix = record { has = refl; prefix = refl; outer = 0; outer_prefix = 0; around = stands {k = 3} {u = 0} refl refl; around_prefix = refl; solid = refl; declared = refl }

y_prefixed : (k b : ℕ) → base link_in_set.tables k ≡ Some b → PrefixTyped link_in_set k b
unfolding digits element_place making_array copying_array keeping_array finding_element giving_back handed_over stopping no_rule ticking taking entering having when computing choosing popping pop_many pop_plain pop_truth pop_integers pop_operands pop_text answering applying_one applying_two testing_step performing putting_back assigning making_text joining at_level kept_on pushing index level_of_machine cell_at jumping block_at own_block leaving with_result putting put_back is_text home_of first_cells leaving_of_meaning constants_of putting_of_steps back_of_steps text_constants text_constant is_variable stream_of own_result own_match result_meant is_inside text is_class_free declared_at constant_of calculate compare compare_as_texts connect same_objects same_texts two_of one_of step_test take_integer take_character take_text take_nothing row_of standard_effect default_mode mode_allowed marked type_named result_named mode_named first_of_procedure first_of_class variable_marks array_marks parameter_marks moded_marks specified_marks headed_marks procedure_marks class_marks virtual_name_marks program_marks inner_marks declaring of_segment of_mode_part of_specification of_specifier of_virtual of_heading declared_by declarations_of run_of_runs lookup shown_of_scopes encloser searched block_at_of_scopes declaration_from binding entry_of formals_of formal_of result_of source_of denoted type_at line_at level_of block_of block_around standard_name text_attribute sysin_attribute sysout_attribute signature undeclared program_events of_statement of_branch of_arm of_block of_whole of_class_body of_declaration accessible protects is_kind some_around_of some_around base brought_by level_shows shown_of is_detach ends_search outward virtual_of represented standard_at qualified_marks qualified_result connection_at transfer_at found_at is_attribute qualification class_prefix_marks prefixed_marks prefix_marks standard_marks marks_of_standard standard_prefix standard_texts class_block has_level is_simulation_block some_level_of shows_detach class_formals class_formals_of found_in if_found object_ended pop_object qualifying referring belongs class_at is_in is_of levels levels_of first_along is_this this_block this_of with_entry_at putting_reference own_attribute brought_marks brings_class provides_attribute
y_prefixed zero b e = absurd (cc)
y_prefixed (suc zero) b e = absurd (cc)
y_prefixed (suc (suc zero)) b e = let f : 1 ≡ b = cc in subst (PrefixTyped link_in_set 2) f y_link_prefix
y_prefixed (suc (suc (suc zero))) b e = let f : 1 ≡ b = cc in subst (PrefixTyped link_in_set 3) f y_head_prefix
y_prefixed (suc (suc (suc (suc k)))) b e = absurd (cc)

y_acyclic : (k b : ℕ) → base link_in_set.tables k ≡ Some b → has_level link_in_set.tables b k ≡ false
unfolding digits element_place making_array copying_array keeping_array finding_element giving_back handed_over stopping no_rule ticking taking entering having when computing choosing popping pop_many pop_plain pop_truth pop_integers pop_operands pop_text answering applying_one applying_two testing_step performing putting_back assigning making_text joining at_level kept_on pushing index level_of_machine cell_at jumping block_at own_block leaving with_result putting put_back is_text home_of first_cells leaving_of_meaning constants_of putting_of_steps back_of_steps text_constants text_constant is_variable stream_of own_result own_match result_meant is_inside text is_class_free declared_at constant_of calculate compare compare_as_texts connect same_objects same_texts two_of one_of step_test take_integer take_character take_text take_nothing row_of standard_effect default_mode mode_allowed marked type_named result_named mode_named first_of_procedure first_of_class variable_marks array_marks parameter_marks moded_marks specified_marks headed_marks procedure_marks class_marks virtual_name_marks program_marks inner_marks declaring of_segment of_mode_part of_specification of_specifier of_virtual of_heading declared_by declarations_of run_of_runs lookup shown_of_scopes encloser searched block_at_of_scopes declaration_from binding entry_of formals_of formal_of result_of source_of denoted type_at line_at level_of block_of block_around standard_name text_attribute sysin_attribute sysout_attribute signature undeclared program_events of_statement of_branch of_arm of_block of_whole of_class_body of_declaration accessible protects is_kind some_around_of some_around base brought_by level_shows shown_of is_detach ends_search outward virtual_of represented standard_at qualified_marks qualified_result connection_at transfer_at found_at is_attribute qualification class_prefix_marks prefixed_marks prefix_marks standard_marks marks_of_standard standard_prefix standard_texts class_block has_level is_simulation_block some_level_of shows_detach class_formals class_formals_of found_in if_found object_ended pop_object qualifying referring belongs class_at is_in is_of levels levels_of first_along is_this this_block this_of with_entry_at putting_reference own_attribute brought_marks brings_class provides_attribute
y_acyclic zero b e = absurd (cc)
y_acyclic (suc zero) b e = absurd (cc)
y_acyclic (suc (suc zero)) b e = let f : 1 ≡ b = cc in subst (λ z. has_level link_in_set.tables z 2 ≡ false) f refl
y_acyclic (suc (suc (suc zero))) b e = let f : 1 ≡ b = cc in subst (λ z. has_level link_in_set.tables z 3 ≡ false) f refl
y_acyclic (suc (suc (suc (suc k)))) b e = absurd (cc)

y_owned : (k : ℕ) → AllIn link_in_set k (numbers_of link_in_set k)
unfolding digits element_place making_array copying_array keeping_array finding_element giving_back handed_over stopping no_rule ticking taking entering having when computing choosing popping pop_many pop_plain pop_truth pop_integers pop_operands pop_text answering applying_one applying_two testing_step performing putting_back assigning making_text joining at_level kept_on pushing index level_of_machine cell_at jumping block_at own_block leaving with_result putting put_back is_text home_of first_cells leaving_of_meaning constants_of putting_of_steps back_of_steps text_constants text_constant is_variable stream_of own_result own_match result_meant is_inside text is_class_free declared_at constant_of calculate compare compare_as_texts connect same_objects same_texts two_of one_of step_test take_integer take_character take_text take_nothing row_of standard_effect default_mode mode_allowed marked type_named result_named mode_named first_of_procedure first_of_class variable_marks array_marks parameter_marks moded_marks specified_marks headed_marks procedure_marks class_marks virtual_name_marks program_marks inner_marks declaring of_segment of_mode_part of_specification of_specifier of_virtual of_heading declared_by declarations_of run_of_runs lookup shown_of_scopes encloser searched block_at_of_scopes declaration_from binding entry_of formals_of formal_of result_of source_of denoted type_at line_at level_of block_of block_around standard_name text_attribute sysin_attribute sysout_attribute signature undeclared program_events of_statement of_branch of_arm of_block of_whole of_class_body of_declaration accessible protects is_kind some_around_of some_around base brought_by level_shows shown_of is_detach ends_search outward virtual_of represented standard_at qualified_marks qualified_result connection_at transfer_at found_at is_attribute qualification class_prefix_marks prefixed_marks prefix_marks standard_marks marks_of_standard standard_prefix standard_texts class_block has_level is_simulation_block some_level_of shows_detach class_formals class_formals_of found_in if_found object_ended pop_object qualifying referring belongs class_at is_in is_of levels levels_of first_along is_this this_block this_of with_entry_at putting_reference own_attribute brought_marks brings_class provides_attribute
y_owned zero = (refl, (refl, tt))
y_owned (suc zero) = (refl, (refl, (refl, tt)))
y_owned (suc (suc zero)) = (refl, (refl, (refl, (refl, tt))))
y_owned (suc (suc (suc zero))) = (refl, (refl, (refl, (refl, (refl, tt)))))
y_owned (suc (suc (suc (suc k)))) = tt

y_some : 0 < length link_in_set.tables.blocks
unfolding digits element_place making_array copying_array keeping_array finding_element giving_back handed_over stopping no_rule ticking taking entering having when computing choosing popping pop_many pop_plain pop_truth pop_integers pop_operands pop_text answering applying_one applying_two testing_step performing putting_back assigning making_text joining at_level kept_on pushing index level_of_machine cell_at jumping block_at own_block leaving with_result putting put_back is_text home_of first_cells leaving_of_meaning constants_of putting_of_steps back_of_steps text_constants text_constant is_variable stream_of own_result own_match result_meant is_inside text is_class_free declared_at constant_of calculate compare compare_as_texts connect same_objects same_texts two_of one_of step_test take_integer take_character take_text take_nothing row_of standard_effect default_mode mode_allowed marked type_named result_named mode_named first_of_procedure first_of_class variable_marks array_marks parameter_marks moded_marks specified_marks headed_marks procedure_marks class_marks virtual_name_marks program_marks inner_marks declaring of_segment of_mode_part of_specification of_specifier of_virtual of_heading declared_by declarations_of run_of_runs lookup shown_of_scopes encloser searched block_at_of_scopes declaration_from binding entry_of formals_of formal_of result_of source_of denoted type_at line_at level_of block_of block_around standard_name text_attribute sysin_attribute sysout_attribute signature undeclared program_events of_statement of_branch of_arm of_block of_whole of_class_body of_declaration accessible protects is_kind some_around_of some_around base brought_by level_shows shown_of is_detach ends_search outward virtual_of represented standard_at qualified_marks qualified_result connection_at transfer_at found_at is_attribute qualification class_prefix_marks prefixed_marks prefix_marks standard_marks marks_of_standard standard_prefix standard_texts class_block has_level is_simulation_block some_level_of shows_detach class_formals class_formals_of found_in if_found object_ended pop_object qualifying referring belongs class_at is_in is_of levels levels_of first_along is_this this_block this_of with_entry_at putting_reference own_attribute brought_marks brings_class provides_attribute
y_some = omega arith

y_prefixes : Prefixes link_in_set
y_prefixes = prefixes_from link_in_set (λ k b solid e. y_prefixed k b e) (λ k b solid e. y_acyclic k b e) y_some (λ k d a. in_block link_in_set k d (numbers_of link_in_set k) (y_owned k) a)

y_first : base link_in_set.tables 0 ≡ None
unfolding digits element_place making_array copying_array keeping_array finding_element giving_back handed_over stopping no_rule ticking taking entering having when computing choosing popping pop_many pop_plain pop_truth pop_integers pop_operands pop_text answering applying_one applying_two testing_step performing putting_back assigning making_text joining at_level kept_on pushing index level_of_machine cell_at jumping block_at own_block leaving with_result putting put_back is_text home_of first_cells leaving_of_meaning constants_of putting_of_steps back_of_steps text_constants text_constant is_variable stream_of own_result own_match result_meant is_inside text is_class_free declared_at constant_of calculate compare compare_as_texts connect same_objects same_texts two_of one_of step_test take_integer take_character take_text take_nothing row_of standard_effect default_mode mode_allowed marked type_named result_named mode_named first_of_procedure first_of_class variable_marks array_marks parameter_marks moded_marks specified_marks headed_marks procedure_marks class_marks virtual_name_marks program_marks inner_marks declaring of_segment of_mode_part of_specification of_specifier of_virtual of_heading declared_by declarations_of run_of_runs lookup shown_of_scopes encloser searched block_at_of_scopes declaration_from binding entry_of formals_of formal_of result_of source_of denoted type_at line_at level_of block_of block_around standard_name text_attribute sysin_attribute sysout_attribute signature undeclared program_events of_statement of_branch of_arm of_block of_whole of_class_body of_declaration accessible protects is_kind some_around_of some_around base brought_by level_shows shown_of is_detach ends_search outward virtual_of represented standard_at qualified_marks qualified_result connection_at transfer_at found_at is_attribute qualification class_prefix_marks prefixed_marks prefix_marks standard_marks marks_of_standard standard_prefix standard_texts class_block has_level is_simulation_block some_level_of shows_detach class_formals class_formals_of found_in if_found object_ended pop_object qualifying referring belongs class_at is_in is_of levels levels_of first_along is_this this_block this_of with_entry_at putting_reference own_attribute brought_marks brings_class provides_attribute
y_first = refl

y_no_block : (k : ℕ) (class : Identifier) (es : Expressions) (ds : Declarations) (ss : Statements) → text link_in_set k ≡ Some (PrefixedText class es ds ss) → k ≡ 0
unfolding digits element_place making_array copying_array keeping_array finding_element giving_back handed_over stopping no_rule ticking taking entering having when computing choosing popping pop_many pop_plain pop_truth pop_integers pop_operands pop_text answering applying_one applying_two testing_step performing putting_back assigning making_text joining at_level kept_on pushing index level_of_machine cell_at jumping block_at own_block leaving with_result putting put_back is_text home_of first_cells leaving_of_meaning constants_of putting_of_steps back_of_steps text_constants text_constant is_variable stream_of own_result own_match result_meant is_inside text is_class_free declared_at constant_of calculate compare compare_as_texts connect same_objects same_texts two_of one_of step_test take_integer take_character take_text take_nothing row_of standard_effect default_mode mode_allowed marked type_named result_named mode_named first_of_procedure first_of_class variable_marks array_marks parameter_marks moded_marks specified_marks headed_marks procedure_marks class_marks virtual_name_marks program_marks inner_marks declaring of_segment of_mode_part of_specification of_specifier of_virtual of_heading declared_by declarations_of run_of_runs lookup shown_of_scopes encloser searched block_at_of_scopes declaration_from binding entry_of formals_of formal_of result_of source_of denoted type_at line_at level_of block_of block_around standard_name text_attribute sysin_attribute sysout_attribute signature undeclared program_events of_statement of_branch of_arm of_block of_whole of_class_body of_declaration accessible protects is_kind some_around_of some_around base brought_by level_shows shown_of is_detach ends_search outward virtual_of represented standard_at qualified_marks qualified_result connection_at transfer_at found_at is_attribute qualification class_prefix_marks prefixed_marks prefix_marks standard_marks marks_of_standard standard_prefix standard_texts class_block has_level is_simulation_block some_level_of shows_detach class_formals class_formals_of found_in if_found object_ended pop_object qualifying referring belongs class_at is_in is_of levels levels_of first_along is_this this_block this_of with_entry_at putting_reference own_attribute brought_marks brings_class provides_attribute
y_no_block zero class es ds ss e = refl
y_no_block (suc zero) class es ds ss e = absurd (cc)
y_no_block (suc (suc zero)) class es ds ss e = absurd (cc)
y_no_block (suc (suc (suc zero))) class es ds ss e = absurd (cc)
y_no_block (suc (suc (suc (suc k)))) class es ds ss e = absurd (cc)

y_no_class : (which : StandardClass) → text link_in_set 0 ≡ Some (StandardText which) → ⊥
unfolding digits element_place making_array copying_array keeping_array finding_element giving_back handed_over stopping no_rule ticking taking entering having when computing choosing popping pop_many pop_plain pop_truth pop_integers pop_operands pop_text answering applying_one applying_two testing_step performing putting_back assigning making_text joining at_level kept_on pushing index level_of_machine cell_at jumping block_at own_block leaving with_result putting put_back is_text home_of first_cells leaving_of_meaning constants_of putting_of_steps back_of_steps text_constants text_constant is_variable stream_of own_result own_match result_meant is_inside text is_class_free declared_at constant_of calculate compare compare_as_texts connect same_objects same_texts two_of one_of step_test take_integer take_character take_text take_nothing row_of standard_effect default_mode mode_allowed marked type_named result_named mode_named first_of_procedure first_of_class variable_marks array_marks parameter_marks moded_marks specified_marks headed_marks procedure_marks class_marks virtual_name_marks program_marks inner_marks declaring of_segment of_mode_part of_specification of_specifier of_virtual of_heading declared_by declarations_of run_of_runs lookup shown_of_scopes encloser searched block_at_of_scopes declaration_from binding entry_of formals_of formal_of result_of source_of denoted type_at line_at level_of block_of block_around standard_name text_attribute sysin_attribute sysout_attribute signature undeclared program_events of_statement of_branch of_arm of_block of_whole of_class_body of_declaration accessible protects is_kind some_around_of some_around base brought_by level_shows shown_of is_detach ends_search outward virtual_of represented standard_at qualified_marks qualified_result connection_at transfer_at found_at is_attribute qualification class_prefix_marks prefixed_marks prefix_marks standard_marks marks_of_standard standard_prefix standard_texts class_block has_level is_simulation_block some_level_of shows_detach class_formals class_formals_of found_in if_found object_ended pop_object qualifying referring belongs class_at is_in is_of levels levels_of first_along is_this this_block this_of with_entry_at putting_reference own_attribute brought_marks brings_class provides_attribute
y_no_class which e = cc

y_block_alone : (k u : ℕ) (which : StandardClass) → k ≡ 0 → LevelOf link_in_set k u → text link_in_set u ≡ Some (StandardText which) → ⊥
y_block_alone k u which e at is =
    let same : u ≡ 0 = alone_level link_in_set y_first (subst (λ z. LevelOf link_in_set z u) e at) in
    y_no_class which (subst (λ z. text link_in_set z ≡ Some (StandardText which)) same is)

pub y_typed : Typed link_in_set
unfolding digits element_place making_array copying_array keeping_array finding_element giving_back handed_over stopping no_rule ticking taking entering having when computing choosing popping pop_many pop_plain pop_truth pop_integers pop_operands pop_text answering applying_one applying_two testing_step performing putting_back assigning making_text joining at_level kept_on pushing index level_of_machine cell_at jumping block_at own_block leaving with_result putting put_back is_text home_of first_cells leaving_of_meaning constants_of putting_of_steps back_of_steps text_constants text_constant is_variable stream_of own_result own_match result_meant is_inside text is_class_free declared_at constant_of calculate compare compare_as_texts connect same_objects same_texts two_of one_of step_test take_integer take_character take_text take_nothing row_of standard_effect default_mode mode_allowed marked type_named result_named mode_named first_of_procedure first_of_class variable_marks array_marks parameter_marks moded_marks specified_marks headed_marks procedure_marks class_marks virtual_name_marks program_marks inner_marks declaring of_segment of_mode_part of_specification of_specifier of_virtual of_heading declared_by declarations_of run_of_runs lookup shown_of_scopes encloser searched block_at_of_scopes declaration_from binding entry_of formals_of formal_of result_of source_of denoted type_at line_at level_of block_of block_around standard_name text_attribute sysin_attribute sysout_attribute signature undeclared program_events of_statement of_branch of_arm of_block of_whole of_class_body of_declaration accessible protects is_kind some_around_of some_around base brought_by level_shows shown_of is_detach ends_search outward virtual_of represented standard_at qualified_marks qualified_result connection_at transfer_at found_at is_attribute qualification class_prefix_marks prefixed_marks prefix_marks standard_marks marks_of_standard standard_prefix standard_texts class_block has_level is_simulation_block some_level_of shows_detach class_formals class_formals_of found_in if_found object_ended pop_object qualifying referring belongs class_at is_in is_of levels levels_of first_along is_this this_block this_of with_entry_at putting_reference own_attribute brought_marks brings_class provides_attribute
y_typed = record {
  starts = as_prefixed refl refl refl;
  some_block = y_some;
  outermost = refl;
  levels = λ t u solid e. y_levels t u e;
  listed = λ d row h e holds. row_listed link_in_set (slice_get link_in_set.tables.declarations d.0) d row h e holds (y_rows d.0);
  procedures = λ d result k e. absurd (subst (EntryThere link_in_set d) e (y_entries d.0));
  classes = λ d k e. subst (EntryThere link_in_set d) e (y_entries d.0);
  set_classes = λ k which e. subst (SetText link_in_set k) e (y_set_texts k);
  virtuals = λ v result own e. absurd (subst (EntryThere link_in_set v) e (y_entries v.0));
  matches = λ v result own k match e found. absurd (subst (EntryThere link_in_set v) e (y_entries v.0));
  set_procedures = λ d name parameter result e named. (subst (EntryThere link_in_set d) e (y_entries d.0)).0;
  texts = λ k x e. text_holds link_in_set k (text link_in_set k) x e (y_texts k);
  not_class_free = y_free;
  prefixes = y_prefixes;
  simulations = λ k e. absurd (true_never (is_simulation_block link_in_set.tables k) (y_no_simulation k) e);
  processes = λ c k solid e is. absurd (subst OtherText is (y_no_process k));
  simulation_procedures = λ d name parameter result e named. absurd (true_never (is_simulation_name name) (subst (EntryThere link_in_set d) e (y_entries d.0)).1 named);
  bare = λ d row which at is. row_bare link_in_set (slice_get link_in_set.tables.declarations d.0) row which at is (y_bare d.0);
  no_set_block = λ k u which class es ds ss e level is. y_block_alone k u which (y_no_block k class es ds ss e) (level_is link_in_set k u level) is;
}

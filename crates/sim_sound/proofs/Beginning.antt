-- The program's block is entered, which may have a prefix that gives no level.
use Rattle.std.proofs.Common.{List, None, Some, [], ap, arith, inr, length, map, refl, subst, sym, true, ℕ, ◌∙◌, ◌∷◌, ◌≡◌, Bool, false}
use Rattle.std.specs.Prelude.{slice_get, slice_index_or, ◌==◌}
use Rattle.sim_base.specs.declared.limits.Limits.{Limits}
use Rattle.sim_base.specs.declared.numbering.DeclNo.{DeclNo}
use Rattle.sim_chains.specs.Chains.{times_on}
use Rattle.sim_chains.specs.Components.{NoObject, Standing}
use Rattle.sim_chains.specs.WellFormed.{is_object, over_kept}
use Rattle.simset.specs.Instances.{Memberships}
use Rattle.simset.specs.Sets.{Head}
use Rattle.sim_scope.specs.Scopes.{class_formals}
use Rattle.sim_scope.specs.Source.{Source, line_at}
use Rattle.sim_tree.specs.declared.expr.Identifier.{Identifier}
use Rattle.sim_tree.specs.Syntax.{Declarations, Expressions, Statements}
use Rattle.sim_code.specs.Events.{entering}
use Rattle.sim_code.specs.Instances.{Instance, entered, live}
use Rattle.sim_code.specs.Instances as instances
use Rattle.sim_code.specs.Outcome.{Run, Simulation, World}
use Rattle.sim_meaning.specs.Attributes.{is_connection}
use Rattle.sim_meaning.specs.Entries.{first_cells, in_instance, new_instance, words_of_cells}
use Rattle.sim_meaning.specs.Levels.{has_levels, is_class, is_simulation_text, levels}
use Rattle.sim_meaning.specs.Meaning.{block_work, first_step, program_entered}
use Rattle.sim_meaning.specs.Objects.{attributes_from, block_begun, cells_of_levels, levels_work}
use Rattle.sim_meaning.specs.Pending.{Activation, Configuration, Declared, Do, EndProgram, Held, Instances, Level, PastOp, held, owner}
use Rattle.sim_meaning.specs.Texts.{BlockText, PrefixedText, text}
use Rattle.sim_sound.specs.Held.{Among}
use Rattle.sim_sound.specs.Typed.{Starts, Typed, arrays_of_block, as_block, as_prefixed}
use Rattle.sim_sound.proofs.ClassCells.{Waiting, none_waits}
use Rattle.sim_sound.proofs.ClassLevels.{arrays_of_levels, cells_are, levels_are}
use Rattle.sim_sound.proofs.Entering.{begun_new, block_begun as plain_begun, block_works, enters_fine, same_arrays, stands_new}
use Rattle.sim_sound.proofs.Evals.{IsFine}
use Rattle.sim_sound.proofs.LevelWork.{cells_wait, keys, level_list, level_numbers, made, works}
use Rattle.sim_sound.proofs.Joining.{begun_members, begun_simulations, block_arrays, block_blocks, block_linked, block_members, block_started}
use Rattle.sim_sound.proofs.Lifts.{Goes, enters, had, ran, whens}
use Rattle.sim_sound.proofs.Lists.{no_some}
use Rattle.sim_sound.proofs.Members.{MembersFine, no_members}
use Rattle.sim_sound.proofs.Simulated.{SimulationsFine}
use Rattle.sim_sound.proofs.Moves.{ending_there, on_top}
use Rattle.sim_sound.proofs.Running.{Begun, ChainFine, Headed, Placed, StoreFine, WorkFine, places}
use Rattle.sim_sound.proofs.Sound.{PrefixedAt}
use Rattle.sim_sound.proofs.Values.{AllArrays, CellsFine, Enclosed, Marks, Sight, alone, key_of, see}

module _ (s : Source) (ok : Typed s) (l : Limits) (o : World) (marks : Marks) (long : length marks.sights ≡ length o.arrays) (m : Instances) (none : m.instances ≡ []) (nobody : m.standings ≡ []) (unseen : marks.sights ≡ []) (unnoted : marks.beneath ≡ []) (unmade : o.members ≡ no_members) (unscheduled : o.simulations ≡ []) where
  nothing_seen : (a : ℕ) (x : Sight) → slice_get [] a ≡ Some x → ⊥
  nothing_seen a x e = cc

  nothing_kept : (j : ℕ) (x : Standing Activation) → slice_get [] j ≡ Some x → ⊥
  nothing_kept j x e = cc

  no_instance : (j : ℕ) (y : Instance (List Held)) → live m j ≡ Some y → ⊥
  no_instance j y e = no_some (live m j) y (ap (λ z. instances.unless_given (slice_get z j)) none) e

  no_number : (n j : ℕ) → slice_get [] n ≡ Some j → ⊥
  no_number n j e = cc

  no_set : (h : ℕ) (xs : List ℕ) → slice_get [] h ≡ Some (Head xs) → ⊥
  no_set h xs e = cc

  members : MembersFine s o.members m
  members = subst (λ q. MembersFine s q m) (sym unmade) (record {
    same = refl;
    there = λ n j e. absurd (no_number n j e);
    made = λ j y e k c at. absurd (no_instance j y e);
    mains = λ j k y e is at. absurd (no_instance j y e);
    together = λ h xs e x at. absurd (no_set h xs e);
  })

  no_block : (n : ℕ) (x : Simulation) → slice_get [] n ≡ Some x → ⊥
  no_block n x e = cc

  simulations : SimulationsFine s o.simulations m
  simulations = subst (λ q. SimulationsFine s q m) (sym unscheduled) (record {
    each = λ n x e. absurd (no_block n x e);
    there = λ j k y e is at. absurd (no_instance j y e);
    joined = λ j u y e is at. absurd (no_instance j y e);
  })

  store : StoreFine s (see marks o) m
  store = record {
    instances = λ j y e. absurd (no_instance j y e);
    elements = λ a i it x p l is at. absurd (nothing_seen a x (sym (ap (λ z. slice_get z a) unseen) ∙ is));
    kept = λ j x is. absurd (nothing_kept j x (sym (ap (λ z. slice_get z j) nobody) ∙ is));
    noted = ap length unnoted ∙ sym (ap length none);
    members = members;
    simulations = simulations;
  }

  nowhere : (j : ℕ) → places m [] j ≡ 0
  nowhere j = let none = ap (over_kept (times_on owner j)) nobody in omega (arith, none)

  placed : Placed m []
  placed = record {
    once = λ j. (let gone = nowhere j in omega (arith, gone));
    made = λ j less. nowhere j;
    ended = λ j is. nowhere j;
    all = λ j is. (let y = ending_there m j is in absurd (no_instance j y.0 y.1));
    as_many = ap length nobody ∙ sym (ap length none);
  }

  nobody_at : (x : ℕ) → slice_index_or m.standings x (NoObject None) ≡ NoObject None
  nobody_at x = ap (λ z. slice_index_or z x (NoObject None)) nobody

  headed : Headed m []
  headed = record {
    outer = ap is_object (nobody_at 0);
    resumed = λ x e. absurd (let none = nobody_at x in cc);
    main = λ x main e. absurd (let none = nobody_at x in cc);
  }

  -- ---- a block

  module _ (begin : ℕ) (ds : Declarations) (ss : Statements) (is : text s 0 ≡ Some (BlockText begin ds ss)) where
    abbrev hs : List Held
    hs = first_cells s 0 (BlockText begin ds ss)

    abbrev after_first : Instances
    after_first = entered m (new_instance s 0 None hs) (NoObject None)

    out : Enclosed s (on_top (see marks o) (length m.instances) None o.members o.simulations) after_first (length m.instances) 0 None
    out = alone refl ok.outermost

    block_goes : Goes (IsFine s) (program_entered s l o m (Some (BlockText begin ds ss)))
    block_goes =
        enters (IsFine s) l (line_at s begin) (words_of_cells hs) o (λ p. in_instance s p m 0 None hs (λ now. Do PastOp ∷ block_work s now (length m.instances) ds ss EndProgram) []) (λ t' w'.
        enters_fine s ok o marks long m 0 None hs (NoObject None) (arrays_of_block s ds) tt (Do PastOp ∷ block_work s after_first (length m.instances) ds ss EndProgram) [] o None refl store placed headed (inr refl) (plain_begun s ok (see marks o) m 0 None begin ds ss is None store out)
        (arrays_of_block s ds, [], (refl, refl), block_works s ok (see marks o) m 0 None begin ds ss is None store out (λ q. ChainFine s (on_top (see marks o) (length m.instances) None o.members o.simulations) after_first [] q) ([] ≡ []) EndProgram ((None, stands_new m (new_instance s 0 None hs) (NoObject None) placed.as_many), refl, (refl, refl))))

  -- ---- a prefixed block

  module _ (class : Identifier) (es : Expressions) (ds : Declarations) (ss : Statements) (is : text s 0 ≡ Some (PrefixedText class es ds ss)) (no_formals : class_formals s.tables 0 ≡ []) where
    has : has_levels (text s 0) ≡ true
    has = ap has_levels is

    abbrev xs : List Level
    xs = level_list s ok 0 has

    abbrev first_ones : List Held
    first_ones = attributes_from s (level_numbers s ok 0 has)

    abbrev cells : List Held
    cells = cells_of_levels s xs

    abbrev Then : Instances
    Then = entered m (new_instance s 0 None cells) (NoObject None)

    abbrev N : ℕ
    N = length m.instances

    -- it may be a simulation block
    abbrev linkages : Memberships
    linkages = begun_members (is_simulation_text s 0) N o.members

    abbrev blocks : List Simulation
    blocks = begun_simulations (is_simulation_text s 0) N o.simulations

    abbrev P : World
    P = record o { members = linkages; simulations = blocks }

    abbrev V : AllArrays
    V = on_top (see marks o) (length m.instances) None linkages blocks

    abbrev block : PrefixedAt s 0
    block = record { class = class; arguments = es; declarations = ds; statements = ss; is = is }

    cells_same : cells ≡ first_ones
    cells_same = cells_are s xs

    waits : Waiting s V Then (length m.instances) 0 [] first_ones
    waits = subst (λ f. Waiting s V Then (length m.instances) 0 f first_ones) no_formals (cells_wait s ok 0 has V Then (length m.instances))

    fine : CellsFine s V Then (length m.instances) 0 cells
    fine = subst (CellsFine s V Then (length m.instances) 0) (sym cells_same) (none_waits s V Then (length m.instances) 0 first_ones waits)

    nothing_formal : (d : DeclNo) → Among d [] → ⊥
    nothing_formal d a = elim a [ ]

    same_keys : map key_of cells ≡ map key_of first_ones
    same_keys = ap (map key_of) cells_same

    got : (d : DeclNo) → Among d (class_formals s.tables 0) → held (Declared d.0) cells ≡ None → ⊥
    got d a e = nothing_formal d (subst (Among d) no_formals a)

    begun : Begun s V Then (length m.instances) 0 (arrays_of_levels s xs)
    begun =
        begun_new s ok (see marks o) m 0 None cells (NoObject None) (PrefixedText class es ds ss) is (ap is_connection is) None linkages blocks store tt (keys s ok 0 has cells same_keys got) (λ class. absurd (let z : ◌≡◌ {A = Bool} true false = sym class ∙ ap is_class is in cc)) fine (alone refl ok.outermost) (arrays_of_levels s xs) (made s ok 0 has cells same_keys got)
        (block_linked s ok o marks m store 0 None cells (NoObject None) has None block) (block_started s ok o marks m store 0 None cells (NoObject None) has None block)

    pending : WorkFine s V Then (λ q. ChainFine s V Then [] q) (◌≡◌ {A = List Activation} [] []) (length m.instances) 0 (levels_work xs EndProgram) (arrays_of_levels s xs) []
    pending = works s ok V Then (length m.instances) 0 has (arrays_of_levels s xs) begun (λ q. ChainFine s V Then [] q) (◌≡◌ {A = List Activation} [] []) EndProgram ((None, stands_new m (new_instance s 0 None cells) (NoObject None) placed.as_many), refl, (refl, refl))

    abbrev Entered : World → Run Configuration
    Entered p = in_instance s (block_begun s 0 N p) m 0 None cells (λ now. Do PastOp ∷ levels_work xs EndProgram) []

    prefixed_goes : Goes (IsFine s) (program_entered s l o m (Some (PrefixedText class es ds ss)))
    prefixed_goes =
        had (IsFine s) (levels s 0) xs o (λ xs. entering l (line_at s class.token.0) (words_of_cells (cells_of_levels s xs)) o (λ p. in_instance s (block_begun s 0 N p) m 0 None (cells_of_levels s xs) (λ now. Do PastOp ∷ levels_work xs EndProgram) [])) (levels_are s ok 0 has)
        (enters (IsFine s) l (line_at s class.token.0) (words_of_cells cells) o Entered (λ t' w'.
        same_arrays P (block_begun s 0 N (ran o t' w')) _ (sym (block_arrays s 0 N (ran o t' w'))) (sym (block_members s 0 N (ran o t' w'))) (sym (block_blocks s 0 N (ran o t' w')))
        (enters_fine s ok P marks long m 0 None cells (NoObject None) (arrays_of_levels s xs) tt (Do PastOp ∷ levels_work xs EndProgram) [] o None refl store placed headed (inr refl) begun (arrays_of_levels s xs, [], (refl, refl), pending))))

  program_goes : Starts s → Goes (IsFine s) (program_entered s l o m (text s 0))
  program_goes (as_block {begin = begin} {ds = ds} {ss = ss} is) = subst (λ z. Goes (IsFine s) (program_entered s l o m z)) (sym is) (block_goes begin ds ss is)
  program_goes (as_prefixed {class = class} {es = es} {ds = ds} {ss = ss} is first no_formals) = subst (λ z. Goes (IsFine s) (program_entered s l o m z)) (sym is) (prefixed_goes class es ds ss is no_formals)

  pub first_goes : Goes (IsFine s) (first_step s l o m)
  first_goes =
      let zero_long : (length m.instances == 0) ≡ true = ap (λ z. length z == 0) none in
      whens (IsFine s) (length m.instances == 0) o (program_entered s l o m (text s 0)) zero_long (program_goes ok.starts)

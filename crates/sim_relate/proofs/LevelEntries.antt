-- The entry of an object or a prefixed block: the cells of all levels, filled with the actual parameters, and where its work begins.
use Rattle.std.proofs.Common.{◌+◌, ◌≡◌, ◌≢◌, ◌≤◌, ℕ, Bool, true, false, List, [], ◌∷◌, length, map, Option, Some, None, refl, sym, ap, ◌∙◌, subst, arith}
use Rattle.std.proofs.lemmas.List.{length-map}
use Rattle.std.specs.Prelude.{◌==◌, pos, slice_get}
use Rattle.sim_base.specs.declared.limits.Limits.{Limits}
use Rattle.sim_base.specs.declared.numbering.DeclNo.{DeclNo}
use Rattle.sim_chains.specs.Components.{Standing}
use Rattle.sim_scope.specs.Access.{encloser}
use Rattle.sim_scope.specs.Scopes.{class_formals}
use Rattle.sim_scope.specs.Source.{Source}
use Rattle.sim_tree.specs.Syntax.{Begin, Block, Prefix}
use Rattle.sim_values.specs.Words.{instance_words}
use Rattle.sim_code.specs.declared.code.BlockKind.{BlockKind}
use Rattle.sim_code.specs.declared.code.BlockKind.TheVariants as block_kind
use Rattle.sim_code.specs.declared.code.CodeType.TheVariants as type
use Rattle.sim_code.specs.declared.instr.Instr.TheVariants as i
use Rattle.sim_code.specs.declared.instr.Lined.{Lined}
use Rattle.sim_code.specs.declared.stage.Stage.TheVariants as stage
use Rattle.sim_code.specs.Arrays.{handed_over}
use Rattle.sim_code.specs.Classes as classes
use Rattle.sim_code.specs.Code.{BlockOf, ClassOf, CodeOf}
use Rattle.sim_code.specs.Events.{entering, having, no_rule, when}
use Rattle.sim_code.specs.Instances.{Instance, entered}
use Rattle.sim_code.specs.Levels.{class_at_level, filled_by, leading, levelled, parameter_cell, supplied}
use Rattle.sim_code.specs.Machine.{Cells, Frames, Machine, Value, same_kind}
use Rattle.sim_code.specs.Machine as machine
use Rattle.sim_code.specs.Outcome.{Going, Run, World}
use Rattle.sim_code.proofs.Lifts.{EachAt, alike_entering, alike_found}
use Rattle.sim_code.proofs.Simulation.{Alike, going, unruled}
use Rattle.sim_meaning.specs.Attributes.{is_connection}
use Rattle.sim_meaning.specs.Entries.{arrays_among, new_instance}
use Rattle.sim_meaning.specs.Levels.{has_levels, level_made, levels, levels_made, levels_of, text_at, text_in}
use Rattle.sim_meaning.specs.Objects.{arrays_given, cells_of_levels, filled_in, levels_work}
use Rattle.sim_meaning.specs.Pending.{Activation, Configuration, Held, Instances, Item, Level, Val}
use Rattle.sim_meaning.specs.Texts.{Text, is_class_free, program_texts, text}
use Rattle.codegen_expr.specs.Sites.{expression_temps, Is, LevelOf, block_number, class_number, frame_text, is_connected, own_end}
use Rattle.codegen.specs.Agrees.{Agrees}
use Rattle.codegen.specs.Compiled.{Compiled, RecordOf}
use Rattle.sim_relate.proofs.Actuals.{among_same, each_length}
use Rattle.sim_relate.proofs.ClassLevels.{later_block, levels_numbers, levels_solid, number_is}
use Rattle.sim_relate.proofs.ClassTexts.{ClassHas}
use Rattle.sim_relate.proofs.Ends.{chosen}
use Rattle.sim_relate.proofs.Entering.{chain_entered, enters, instance_of, later_fs, later_m, new_frame, parked_entered}
use Rattle.sim_relate.proofs.FirstCells.{all_attributes, attributes_count, made_cells}
use Rattle.sim_relate.proofs.Known.{HasClass, Runs, Stands, ValAt}
use Rattle.sim_relate.proofs.Laying.{laid}
use Rattle.sim_relate.proofs.LevelCells.{CellsOf, Fills, FormalCell, FormalCells, MayFill, fill, fills, no_fill}
use Rattle.sim_relate.proofs.LevelCode.{LevelCode, level_code, levels_frame, made_of, none_made}
use Rattle.sim_relate.proofs.LevelFormals.{formal_cell, formals_many}
use Rattle.sim_relate.proofs.LevelLists.{levels_some}
use Rattle.sim_relate.proofs.Lists.{append_at, there_get}
use Rattle.sim_relate.proofs.ObjectWork.{levels_pend}
use Rattle.sim_relate.proofs.Reach.{equal_numbers, if_true, levels_no_connection, stands_level}
use Rattle.sim_relate.proofs.Relation.{at_level, ChainAt, EndAt, Laid, StandingAt, StandingsAt, StateAt, StoreAt, WorkAt}
use Rattle.sim_relate.proofs.Stores.{new_inside}
use Rattle.sim_relate.proofs.Waiting.{NoValue, suspends}

-- ---- what code says of a class or a prefixed block

module _ (s : Source) (code : CodeOf) (compiled : Compiled s code) where
  -- the first text is the program's
  first_has : (p : Option Prefix) (b : Block) → is_connection (slice_get (program_texts p b) 0) ≡ false
  first_has None (Begin token ds ss end) = refl
  first_has (Some p) (Begin token ds ss end) = refl

  -- what stands in another text is not the program's block
  pub not_first : (k u : ℕ) → has_levels (text s k) ≡ true → encloser s.tables k ≡ Some u → block_number s k ≢ 0
  unfolding text
  not_first k u h e =
      later_block s code compiled k h (first_has s.program.prefix s.program.block)
      (λ zero_is. (let none = compiled.agrees.outermost in let inside = ap (encloser s.tables) (sym zero_is) ∙ e in absurd (cc (none, inside))))

  -- how its frames are laid out
  pub levels_laid : (k : ℕ) → has_levels (text s k) ≡ true → Laid s code k
  levels_laid k h = by (text s k) refl h
    where
      by : (o : Option Text) → text s k ≡ o → has_levels o ≡ true → Laid s code k
      by None e h = absurd (cc)
      by (Some x) e h = laid s code compiled k x e (levels_no_connection (Some x) h)

same_kinds : (k : BlockKind) → same_kind k k ≡ true
same_kinds block_kind.SubBlock = refl
same_kinds block_kind.Procedure = refl
same_kinds block_kind.Object = refl
same_kinds block_kind.Prefixed = refl

-- ---- the entry

module _ (s : Source) (code : CodeOf) (compiled : Compiled s code) (l : Limits) (o : World) (m : Instances) (fs : Frames) (store : StoreAt s code m fs) (parked : StandingsAt s code m fs) where
  abbrev Related : Configuration → Machine → Type 0
  Related = StateAt s code

  module _ (g line : ℕ) (x : ClassHas s code g) (values : List Val) (values' : List Value) (each : EachAt (ValAt s code m) values values') (j around : ℕ) (stands_in : encloser s.tables g ≡ Some around) (link : Stands s m j around) (of_class : HasClass s g) (all : List Level → List Held) (all_there : (xs : List Level) → levels_made s (levels_of s g) ≡ Some xs → CellsOf s code m g (all xs) (machine.first_cells x.block)) where
    tables : Agrees s
    tables = compiled.agrees

    connected : is_connected s.tables g ≡ false
    connected = levels_solid s code compiled g x.levels

    own : frame_text s g ≡ g
    own = levels_frame s code compiled g x.levels

    abbrev new_block : BlockOf
    new_block = x.block

    abbrev heads : RecordOf s code g x.kind type.Nothing new_block
    heads = x.has.heads

    laid_here : Laid s code g
    laid_here = levels_laid s code compiled g x.levels

    abbrev attributes : List Held
    attributes = all_attributes s code m compiled (levels_laid s code compiled) g

    abbrev formals : List DeclNo
    formals = class_formals s.tables g

    number_here : class_number s code g ≡ new_block.class
    number_here = number_is s code compiled g x

    first_long : length (machine.first_cells new_block) ≡ length new_block.types
    first_long = length-map new_block.types machine.first_value

    abbrev parameter : ℕ → Option ℕ
    parameter = parameter_cell code new_block.class

    formals_here : FormalCells s code g parameter 0 formals
    formals_here k m' d is at =
        let same : k ≡ m' = omega (arith, at) in
        subst (λ z. FormalCell s code g parameter z d) same (subst (λ z. FormalCell s code g (parameter_cell code z) k d) number_here (formal_cell s code compiled g x.levels k d is))

    filling : (xs : List Level) → levels_made s (levels_of s g) ≡ Some xs → MayFill s code m g parameter values values' formals 0 (all xs) (machine.first_cells new_block)
    filling xs made = fill s code m g laid_here parameter (length new_block.types) (λ v key level has. laid_here.fits v key new_block level has x.found) values values' formals 0 (all xs) (machine.first_cells new_block) each (all_there xs made) formals_here first_long

    words : (process : Bool) → instance_words new_block.cells process ≡ instance_words (length attributes) process
    words process = ap (λ n. instance_words n process) (attributes_count s code m compiled (levels_laid s code compiled) g x)

    worlds_same : (p : World) → handed_over (length fs.instances) (machine.arrays_among values') p ≡ arrays_given (length m.instances) values p
    worlds_same p =
        ap (λ z. handed_over (length fs.instances) z p) (among_same s code m values values' each) ∙ ap (λ n. handed_over n (arrays_among values) p) (sym store.as_many)

    in_world : (p p' : World) (c : Configuration) (y : Machine) → p' ≡ p → Related c y → Alike Related (Going p c) (Going p' y)
    in_world p p' c y e z = subst (λ v. Alike Related (Going p c) (Going v y)) (sym e) (going z)

    -- Whether it is a process, what else happens to the world, how it stands as a component, what is below on the chain, and its end.
    module _ (process frame_process : Bool) (processes : frame_process ≡ process) (grow frame_grow : World → World) (grown : (p : World) → frame_grow p ≡ grow p) (end : Item) (standing : Standing Activation) (frame_standing : Standing machine.Activation) (plain : suspends standing ≡ None) (chain : List Activation) (under : List machine.Activation)
        (stands_alike : (m' : Instances) (fs' : Frames) (number : ℕ) → text_at m' number ≡ Some g → StandingAt s code m' fs' number standing frame_standing) (under_there : ChainAt s code m fs chain NoValue under)
        (ends : (m' : Instances) (fs' : Frames) → ChainAt s code m' fs' chain NoValue under → (block : BlockOf) (limit temps t p last : ℕ) → Is code (i.EndLevel (pos 0)) p last → EndAt s code (λ v. ChainAt s code m' fs' chain v under) t (record { own = g; thunk = None; room = new_block.room; limit = limit; temps = temps; block = block; stage = stage.Behind 0 }) end [] p []) where
      -- what the machine does when the cells are filled
      abbrev pub Fresh : (start : ℕ) → Cells → Run Machine
      Fresh start cells =
          entering l line (instance_words new_block.cells frame_process) o (λ p.
          machine.in_new (frame_grow (handed_over (length fs.instances) (machine.arrays_among values') p)) fs (block_number s g) new_block start (stage.Declaring 0) frame_standing (Some j) cells under)

      abbrev From : List Level → List Held → Option (List Held) → Run Configuration
      From xs hs filled =
          having filled o (λ filled.
          entering l line (instance_words (length hs) process) o (λ p.
          Going (grow (arrays_given (length m.instances) values p)) (record { chain = record { instance = length m.instances; work = levels_work xs end; values = [] } ∷ chain; memory = entered m (new_instance s g (Some j) filled) standing })))

      module _ (Goes : BlockOf → (start : ℕ) → Run Machine) (follows : (start : ℕ) (cells : Cells) (y : Run Configuration) → supplied code new_block.class new_block values' ≡ Some cells → Alike Related y (Fresh start cells) → Alike Related y (Goes new_block start)) where
        abbrev Levelled : Run Machine
        Levelled = levelled code x.kind (block_number s g) o Goes

        -- it is made of its levels
        module _ (k0 : ℕ) (more : List ℕ) (x0 : Level) (xs : List Level) (levels_are : levels_of s g ≡ k0 ∷ more) (first_made : level_made s k0 (text s k0) ≡ Some x0) (rest_made : levels_made s more ≡ Some xs) where
          abbrev runs : Runs
          runs = record { own = g; thunk = None; room = new_block.room; limit = new_block.room; temps = own_end s code g; block = new_block; stage = stage.NoStage }

          enough_room : new_block.room ≤ new_block.room
          enough_room = omega arith

          outermost : LevelCode s code compiled runs k0 0 x0
          outermost = level_code s code compiled runs new_block x.found enough_room x.levels of_class refl k0 0 x0 (ap (λ z. slice_get z 0) levels_are) first_made

          abbrev begins : Runs
          begins = (at_level s code runs k0 outermost.block (stage.Declaring 0)).runs

          module _ (r : Fills s code m g parameter values values' formals 0 (all (x0 ∷ xs)) (machine.first_cells new_block)) where
            abbrev new : Instance (List Held)
            new = new_instance s g (Some j) r.now

            abbrev frame : Instance Cells
            frame = new_frame s code (block_number s g) new_block (Some j) r.frame

            abbrev new_m : Instances
            new_m = later_m s code m fs store new frame standing frame_standing plain

            abbrev new_fs : Frames
            new_fs = later_fs s code m fs store new frame standing frame_standing plain

            pending : WorkAt s code new_m new_fs (λ v. ChainAt s code new_m new_fs chain v under) (length m.instances) k0 begins (own_end s code k0 + expression_temps) (levels_work (x0 ∷ xs) end) outermost.class.declarations []
            pending =
                levels_pend s code compiled new_m new_fs (λ v. ChainAt s code new_m new_fs chain v under) (length m.instances) runs new_block x.found enough_room x.levels of_class refl end k0 more x0 xs outermost levels_are rest_made
                (λ p last at. ends new_m new_fs (chain_entered s code m fs store new frame standing frame_standing plain chain NoValue under under_there) outermost.block outermost.block.room (own_end s code k0) (frame_text s k0) p last at)

            stands_own : Stands s new_m (length m.instances) g
            stands_own = new_inside s m g j around new standing (sym own) refl refl (ap (encloser s.tables) own ∙ stands_in) link

            stands_first : Stands s new_m (length m.instances) k0
            stands_first =
                stands_level s new_m tables (length m.instances) g k0 stands_own
                (subst (λ z. LevelOf s.tables z (frame_text s k0)) (sym own) (subst (LevelOf s.tables g) (sym outermost.level.frame) outermost.level.level))

            entered_state : Related (record { chain = record { instance = length m.instances; work = levels_work (x0 ∷ xs) end; values = [] } ∷ chain; memory = new_m }) (record { chain = record { thunk = None; home = length fs.instances; pc = outermost.class.declarations; stack = []; room = new_block.room; stage = stage.Declaring 0 } ∷ under; memory = new_fs })
            entered_state =
                let pair = instance_of s code m g x.kind type.Nothing new_block heads x.found (x.passes (is_class_free s g)) own (levels_solid s code compiled g x.levels) laid_here (Some j) r.now r.frame r.at (r.long ∙ first_long) in
                enters s code m fs store new frame standing frame_standing plain (parked_entered s code m fs store new frame standing frame_standing plain (stands_alike new_m new_fs (length m.instances) (ap text_in (append_at m.instances new))) parked) chain under k0 begins refl pair
                (ap (λ z. slice_get code.blocks (block_number s z)) outermost.level.frame ∙ outermost.level.found) stands_first stands_own refl outermost.level.roomy (levels_work (x0 ∷ xs) end) (own_end s code k0 + expression_temps) outermost.class.declarations pending

            supplied_is : supplied code new_block.class new_block values' ≡ Some r.frame
            supplied_is =
                let many = each_length s code m values values' each in
                let c = r.as_many in
                let f = formals_many s code compiled g x connected in
                let same : length values' ≡ length new_block.formals = omega (arith, many, c, f) in
                if_true (length values' == length new_block.formals) (filled_by parameter 0 values' (Some (machine.first_cells new_block))) None (equal_numbers (length values') (length new_block.formals) same) ∙ r.is_frame

            -- the block that is entered, and where its levels begin
            levelled_alike : (y : Run Configuration) → Alike Related y (Goes new_block outermost.class.declarations) → Alike Related y Levelled
            unfolding levelled leading when
            levelled_alike y h =
                alike_found Configuration Machine Related BlockOf (slice_get code.blocks (block_number s g)) new_block o y _ x.found
                (chosen (λ z. Alike Related y z) (same_kind new_block.kind x.kind) _ (no_rule o) (ap (λ z. same_kind z x.kind) heads.is_kind ∙ same_kinds x.kind)
                (alike_found Configuration Machine Related (List ℕ) (classes.levels code new_block.class) (map (class_number s code) (levels_of s g)) o y _ (ap (classes.levels code) (sym number_here) ∙ levels_numbers s code compiled g x.levels)
                (alike_found Configuration Machine Related ClassOf (class_at_level code (map (class_number s code) (levels_of s g)) 0) outermost.class o y _ (ap (λ z. class_at_level code (map (class_number s code) z) 0) levels_are ∙ outermost.level.numbered)
                (let lead = there_get code.instrs outermost.class.declarations outermost.declared_there in alike_found Configuration Machine Related Lined (slice_get code.instrs outermost.class.declarations) lead.0 o y _ lead.1 h))))

            enters_so : Alike Related (entering l line (instance_words (length attributes) process) o (λ p. Going (grow (arrays_given (length m.instances) values p)) (record { chain = record { instance = length m.instances; work = levels_work (x0 ∷ xs) end; values = [] } ∷ chain; memory = new_m }))) Levelled
            enters_so =
                levelled_alike _
                (follows outermost.class.declarations r.frame _ supplied_is
                (alike_entering Configuration Machine Related l line line (instance_words (length attributes) process) (instance_words new_block.cells frame_process) o _ _ refl (ap (instance_words new_block.cells) processes ∙ words process) (λ p. in_world _ _ _ _ (ap frame_grow (worlds_same p) ∙ grown (arrays_given (length m.instances) values p)) entered_state)))

          from_filling : MayFill s code m g parameter values values' formals 0 (all (x0 ∷ xs)) (machine.first_cells new_block) → Alike Related (From (x0 ∷ xs) attributes (filled_in values (Some (all (x0 ∷ xs))) formals)) Levelled
          unfolding having no_rule
          from_filling (no_fill e) = subst (λ z. Alike Related (From (x0 ∷ xs) attributes z) Levelled) (sym e) unruled
          from_filling (fills r) = subst (λ z. Alike Related (From (x0 ∷ xs) attributes z) Levelled) (sym r.is) (enters_so r)

          made_alike : levels_made s (levels_of s g) ≡ Some (x0 ∷ xs) → Alike Related (From (x0 ∷ xs) (cells_of_levels s (x0 ∷ xs)) (filled_in values (Some (all (x0 ∷ xs))) formals)) Levelled
          made_alike made =
              subst (λ z. Alike Related (From (x0 ∷ xs) z (filled_in values (Some (all (x0 ∷ xs))) formals)) Levelled) (sym (made_cells s (levels_of s g) (x0 ∷ xs) made)) (from_filling (filling (x0 ∷ xs) made))

        none_there : levels_of s g ≡ [] → ⊥
        none_there e = let some = levels_some s tables g connected in let many = ap length e in omega (arith, some, many)

        by_levels : (levels_there : Option (List Level)) → levels_made s (levels_of s g) ≡ levels_there → Alike Related (having levels_there o (λ xs. From xs (cells_of_levels s xs) (filled_in values (Some (all xs)) formals))) Levelled
        unfolding having no_rule
        by_levels None e = unruled
        by_levels (Some []) e = absurd (none_there (none_made s (levels_of s g) e))
        by_levels (Some (x0 ∷ xs)) e = let p = made_of s (levels_of s g) x0 xs e in made_alike p.number p.more x0 xs p.is p.first p.rest e

        pub entry_alike : Alike Related (having (levels s g) o (λ xs. From xs (cells_of_levels s xs) (filled_in values (Some (all xs)) formals))) Levelled
        unfolding levels
        entry_alike = by_levels (levels_made s (levels_of s g)) refl

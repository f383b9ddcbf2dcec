-- The entry of a program whose block has a prefix: the prefix gives no level, so that the block is its only one.
use Rattle.std.proofs.Common.{◌+◌, ◌≡◌, ◌<◌, ◌≤◌, ℕ, Bool, false, List, [], ◌∷◌, length, Option, Some, None, refl, sym, ap, ◌∙◌, subst, arith, true}
use Rattle.std.proofs.lemmas.List.{length-map}
use Rattle.std.proofs.lemmas.Option.{slice_get_within}
use Rattle.std.specs.Prelude.{pos, slice_get}
use Rattle.sim_base.specs.declared.limits.Limits.{Limits}
use Rattle.sim_chains.specs.Components.{NoObject}
use Rattle.sim_scope.specs.Access.{encloser}
use Rattle.sim_scope.specs.Source.{Source, line_at}
use Rattle.sim_tree.specs.declared.expr.Identifier.{Identifier}
use Rattle.sim_tree.specs.Syntax.{Declarations, Expressions, Statements}
use Rattle.sim_values.specs.Words.{instance_words}
use Rattle.sim_code.specs.declared.code.BlockKind.TheVariants as block_kind
use Rattle.sim_code.specs.declared.code.CodeType.TheVariants as type
use Rattle.sim_code.specs.declared.instr.Instr.TheVariants as i
use Rattle.sim_code.specs.declared.instr.Lined.{Lined}
use Rattle.sim_code.specs.declared.stage.Stage.TheVariants as stage
use Rattle.sim_code.specs.Classes.{class_numbered}
use Rattle.sim_code.specs.Code.{BlockOf, ClassOf, CodeOf}
use Rattle.sim_code.specs.Events.{entering, having, no_rule}
use Rattle.sim_code.specs.Instances.{Instance}
use Rattle.sim_code.specs.Levels.{block_begun as block_begun_of_code}
use Rattle.sim_code.specs.Machine.{Cells, Frames, Machine, first_value, words_of_block}
use Rattle.sim_code.specs.Machine as machine
use Rattle.sim_code.specs.Outcome.{Going, Run, World}
use Rattle.sim_code.specs.Rows as rows
use Rattle.sim_code.proofs.Lifts.{alike_entering}
use Rattle.sim_code.proofs.Simulation.{Alike, going, unruled}
use Rattle.sim_meaning.specs.Entries.{in_instance, new_instance, words_of_cells}
use Rattle.sim_meaning.specs.Levels.{has_levels, level_made, levels, levels_made, levels_of, is_class}
use Rattle.sim_meaning.specs.Meaning.{program_entered}
use Rattle.sim_meaning.specs.Objects.{block_begun, cells_of_levels, levels_work}
use Rattle.sim_meaning.specs.Pending.{Configuration, Do, EndProgram, Held, Instances, Level, PastOp}
use Rattle.sim_meaning.specs.Texts.{PrefixedText, is_class_free, text}
use Rattle.codegen_expr.specs.Sites.{expression_temps, block_number, class_in, class_number, frame_text, lined, own_end}
use Rattle.codegen.specs.Compiled.{Compiled, PrefixedProgramOf}
use Rattle.sim_relate.proofs.ClassLevels.{levels_solid}
use Rattle.sim_relate.proofs.ClassTexts.{ClassHas, class_has}
use Rattle.sim_relate.proofs.Entering.{enters, instance_of, later_fs, later_m, new_frame, parked_entered, program_alike}
use Rattle.sim_relate.proofs.FirstCells.{all_attributes, attributes_count, block_cells_of, made_cells}
use Rattle.sim_relate.proofs.Known.{Low, HasClass, Runs, Stands, is_process_in}
use Rattle.sim_relate.proofs.LevelCode.{LevelCode, level_code, levels_frame, made_of, none_made}
use Rattle.sim_relate.proofs.LevelEntries.{levels_laid}
use Rattle.sim_relate.proofs.LevelLists.{levels_first}
use Rattle.sim_relate.proofs.Linkages.{block_same}
use Rattle.sim_relate.proofs.ObjectWork.{levels_pend}
use Rattle.sim_relate.proofs.OfClass.{alone_ordinary, alone_owns, process_is}
use Rattle.sim_relate.proofs.Pending.{pends}
use Rattle.sim_relate.proofs.Reach.{same_some}
use Rattle.sim_relate.proofs.Relation.{at_level, ChainAt, StandingsAt, StateAt, StoreAt, WorkAt}
use Rattle.sim_relate.proofs.Stores.{new_outermost}
use Rattle.sim_relate.proofs.Waiting.{Wait}

-- the program's block may be a simulation block
prefixed_begun : (code : CodeOf) (b : BlockOf) → b.kind ≡ block_kind.Prefixed → (p : World) → rows.program_begun code b p ≡ block_begun_of_code code b.class 0 p
prefixed_begun code b e p = rw e refl

module _ (s : Source) (code : CodeOf) (compiled : Compiled s code) (l : Limits) (o : World) where
  abbrev R : Configuration → Machine → Type 0
  R = StateAt s code

  -- what both sides do
  abbrev Begins : (m : Instances) → (line : ℕ) → List Level → Run Configuration
  Begins m line xs =
      entering l line (words_of_cells (cells_of_levels s xs)) o (λ p. in_instance s (block_begun s 0 (length m.instances) p) m 0 None (cells_of_levels s xs) (λ now. Do PastOp ∷ levels_work xs EndProgram) [])

  abbrev FrameBegins : Frames → Run Machine
  FrameBegins fs = rows.program_block code o (λ b z x. entering l x.line.0 (words_of_block b) o (λ p. machine.in_new (rows.program_begun code b p) fs 0 b b.entry z (NoObject None) None (machine.first_cells b) []))

  module _ (m : Instances) (fs : Frames) (store : StoreAt s code m fs) (parked : StandingsAt s code m fs) (empty : length m.instances ≡ 0) (line : ℕ) (ds : Declarations) (ss : Statements) (x : ClassHas s code 0) (h : PrefixedProgramOf s code line ds ss x.block) where
    abbrev attributes : List Held
    attributes = all_attributes s code m compiled (levels_laid s code compiled) 0

    abbrev cells : Cells
    cells = machine.first_cells x.block

    abbrev new : Instance (List Held)
    new = new_instance s 0 None attributes

    abbrev frame : Instance Cells
    frame = new_frame s code (block_number s 0) x.block None cells

    abbrev new_m : Instances
    new_m = later_m s code m fs store new frame (NoObject None) (NoObject None) refl

    abbrev new_fs : Frames
    new_fs = later_fs s code m fs store new frame (NoObject None) (NoObject None) refl

    own : frame_text s 0 ≡ 0
    own = levels_frame s code compiled 0 x.levels

    words : words_of_block x.block ≡ words_of_cells attributes
    words = ap (λ n. instance_words n false) (attributes_count s code m compiled (levels_laid s code compiled) 0 x)

    stands : Stands s new_m (length m.instances) 0
    stands = new_outermost s m 0 new (NoObject None) (sym own) refl refl (ap (encloser s.tables) own ∙ compiled.agrees.outermost)

    abbrev runs : Runs
    runs = record { own = 0; thunk = None; room = x.block.room; limit = x.block.room; temps = own_end s code 0; block = x.block; stage = stage.NoStage }

    abbrev Below : Wait → Type 0
    Below v = ChainAt s code new_m new_fs [] v []

    enough_room : x.block.room ≤ x.block.room
    enough_room = omega arith

    ordinary : (process : Bool) → is_process_in s 0 ≡ process → is_process_in s 0 ≡ false
    ordinary false e = e
    ordinary true e = let class : is_class (text s 0) ≡ true = ap is_class (process_is (text s 0) e) in absurd (x.not_first (x.of_class class) refl)

    of_class : HasClass s 0
    of_class = alone_owns s 0 h.alone (ordinary (is_process_in s 0) refl)

    levels_are : levels_of s 0 ≡ 0 ∷ []
    levels_are = levels_first s compiled.agrees 0 h.alone (levels_solid s code compiled 0 x.levels)

    -- the block is the only level
    module _ (x0 : Level) (xs : List Level) (first_made : level_made s 0 (text s 0) ≡ Some x0) (rest_made : levels_made s [] ≡ Some xs) where
      outermost : LevelCode s code compiled runs 0 0 x0
      outermost = level_code s code compiled runs x.block x.found enough_room x.levels of_class refl 0 0 x0 (ap (λ z. slice_get z 0) levels_are) first_made

      abbrev begins : Runs
      begins = (at_level s code runs 0 outermost.block (stage.Declaring 0)).runs

      same_block : outermost.block ≡ x.block
      same_block = same_some (slice_get code.blocks (block_number s 0)) outermost.block x.block outermost.level.found x.found

      -- where its declarations begin
      same_start : h.class.declarations ≡ outermost.class.declarations
      unfolding class_number
      same_start =
          let number : class_number s code 0 ≡ x.block.class = ap class_in x.found in
          ap (λ (z : ClassOf). z.declarations) (same_some (class_numbered code x.block.class) h.class outermost.class h.is.numbered (sym (ap (class_numbered code) number) ∙ outermost.level.numbered))

      pending : WorkAt s code new_m new_fs Below (length m.instances) 0 begins (own_end s code 0 + expression_temps) (levels_work (x0 ∷ xs) EndProgram) outermost.class.declarations []
      pending =
          levels_pend s code compiled new_m new_fs Below (length m.instances) runs x.block x.found enough_room x.levels of_class refl EndProgram 0 [] x0 xs outermost levels_are rest_made
          (λ p last at. record { base = (refl, refl); first = own; last = last; at = at; none = refl; below = record { still = refl; is = refl } })

      low : Low s code 0 begins (own_end s code 0 + expression_temps)
      low = let same = ap (own_end s code) own in record { low = omega (arith, same); temps = sym same; full = λ n e. absurd (cc (e)) }

      -- a jump leads there
      work : WorkAt s code new_m new_fs Below (length m.instances) 0 begins (own_end s code 0 + expression_temps) (Do PastOp ∷ levels_work (x0 ∷ xs) EndProgram) x.block.entry []
      work =
          let start = h.class.declarations in
          let next = (h.enter).on in
          let ahead : x.block.entry < start = omega (arith, next) in
          pends s code new_m new_fs Below (length m.instances) 0 begins (own_end s code 0 + expression_temps) (record { at = low; calm = refl }) (levels_work (x0 ∷ xs) EndProgram) PastOp x.block.entry start [] []
          (start, record { line = line; is = h.enter }, record { forward = ahead; there = (h.level).declared_there }, refl)
          (subst (λ z. WorkAt s code new_m new_fs Below (length m.instances) 0 begins (own_end s code 0 + expression_temps) (levels_work (x0 ∷ xs) EndProgram) z []) (sym same_start) pending)

      entered_state : R (record { chain = record { instance = length m.instances; work = Do PastOp ∷ levels_work (x0 ∷ xs) EndProgram; values = [] } ∷ []; memory = new_m }) (record { chain = record { thunk = None; home = length fs.instances; pc = x.block.entry; stack = []; room = x.block.room; stage = stage.Declaring 0 } ∷ []; memory = new_fs })
      entered_state =
          let pair = instance_of s code m 0 x.kind type.Nothing x.block x.has.heads x.found (x.passes (is_class_free s 0)) own (levels_solid s code compiled 0 x.levels) (levels_laid s code compiled 0 x.levels) None attributes cells (block_cells_of s code m compiled (levels_laid s code compiled) 0 x (alone_ordinary s 0 h.alone (ordinary (is_process_in s 0) refl))) (length-map x.block.types first_value) in
          enters s code m fs store new frame (NoObject None) (NoObject None) refl (parked_entered s code m fs store new frame (NoObject None) (NoObject None) refl tt parked) [] [] 0 begins refl pair
          (ap (λ z. slice_get code.blocks (block_number s z)) own ∙ outermost.level.found) stands stands refl outermost.level.roomy (Do PastOp ∷ levels_work (x0 ∷ xs) EndProgram) (own_end s code 0 + expression_temps) x.block.entry work

      abbrev entered : Configuration
      entered = record { chain = record { instance = length m.instances; work = Do PastOp ∷ levels_work (x0 ∷ xs) EndProgram; values = [] } ∷ []; memory = new_m }

      abbrev entered_frame : Machine
      entered_frame = record { chain = record { thunk = None; home = length fs.instances; pc = x.block.entry; stack = []; room = x.block.room; stage = stage.Declaring 0 } ∷ []; memory = new_fs }

      made_alike : levels_made s (levels_of s 0) ≡ Some (x0 ∷ xs) → Alike R (Begins m line (x0 ∷ xs)) (FrameBegins fs)
      unfolding block_number
      made_alike made =
          program_alike s code o x.block x.found (stage.Declaring 0) (ap rows.first_stage (h.heads).is_kind) (slice_get_within code.instrs x.block.entry _ (h.enter).at) _ _ (λ y ey.
          subst (λ z. Alike R (entering l line (words_of_cells z) o (λ p. in_instance s (block_begun s 0 (length m.instances) p) m 0 None z (λ now. Do PastOp ∷ levels_work (x0 ∷ xs) EndProgram) [])) (entering l y.line.0 (words_of_block x.block) o (λ p. machine.in_new (rows.program_begun code x.block p) fs 0 x.block x.block.entry (stage.Declaring 0) (NoObject None) None cells []))) (sym (made_cells s (levels_of s 0) (x0 ∷ xs) made))
          (alike_entering Configuration Machine R l line y.line.0 (words_of_cells attributes) (words_of_block x.block) o _ _ (same_line y ey (h.enter).at) words (λ p. subst (λ z. Alike R (Going (block_begun s 0 (length m.instances) p) entered) (Going z entered_frame)) (sym (begun_same p)) (going entered_state))))
        where
          begun_same : (p : World) → rows.program_begun code x.block p ≡ block_begun s 0 (length m.instances) p
          begun_same p = prefixed_begun code x.block (h.heads).is_kind p ∙ block_same s code compiled 0 x 0 p ∙ ap (λ n. block_begun s 0 n p) (sym empty)

          same_line : (y : Lined) → slice_get code.instrs x.block.entry ≡ Some y → slice_get code.instrs x.block.entry ≡ Some (lined (i.Jump (pos h.class.declarations)) line) → y.line.0 ≡ line
          same_line y e f = let same : y ≡ lined (i.Jump (pos h.class.declarations)) line = cc in ap (λ z. z.line.0) same

    none_there : levels_of s 0 ≡ [] → ⊥
    none_there e = let one = levels_are in absurd (cc (one, e))

    by_levels : (made : Option (List Level)) → levels_made s (levels_of s 0) ≡ made → Alike R (having made o (λ xs. Begins m line xs)) (FrameBegins fs)
    unfolding having no_rule
    by_levels None e = unruled
    by_levels (Some []) e = absurd (none_there (none_made s (levels_of s 0) e))
    by_levels (Some (x0 ∷ xs)) e =
        let p = made_of s (levels_of s 0) x0 xs e in
        let is = sym levels_are ∙ p.is in
        let number : p.number ≡ 0 = cc (is) in
        let more : p.more ≡ [] = cc (is) in
        made_alike x0 xs (subst (λ z. level_made s z (text s z) ≡ Some x0) number p.first) (subst (λ z. levels_made s z ≡ Some xs) more p.rest) e

  -- both enter the program's block
  pub first_prefixed : (m : Instances) (fs : Frames) → StoreAt s code m fs → StandingsAt s code m fs → length m.instances ≡ 0 → (class : Identifier) (es : Expressions) (ds : Declarations) (ss : Statements) → text s 0 ≡ Some (PrefixedText class es ds ss) → (b : BlockOf) → slice_get code.blocks 0 ≡ Some b → PrefixedProgramOf s code (line_at s class.token.0) ds ss b
      → Alike R (program_entered s l o m (Some (PrefixedText class es ds ss))) (FrameBegins fs)
  unfolding levels block_number
  first_prefixed m fs store parked empty class es ds ss is b found h =
      let x = class_has s code compiled 0 (ap has_levels is) in
      by_levels m fs store parked empty (line_at s class.token.0) ds ss x (subst (λ z. PrefixedProgramOf s code (line_at s class.token.0) ds ss z) (same_some (slice_get code.blocks 0) b x.block found x.found) h) (levels_made s (levels_of s 0)) refl

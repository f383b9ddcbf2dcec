-- The entry of sub-blocks, procedures and the program's block.
use Rattle.std.proofs.Common.{◌≡◌, ◌<◌, ◌≤◌, ◌+◌, ◌*◌, ℕ, zero, suc, Bool, true, false, List, [], ◌∷◌, ◌++◌, length, map, Option, Some, None, refl, sym, ap, ◌∙◌, subst, arith}
use Rattle.std.proofs.lemmas.Option.{slice_get_within}
use Rattle.std.specs.Prelude.{◌==◌, if◌then◌else◌, nat_lt, pos, slice_get}
use Rattle.sim_base.specs.declared.limits.Limits.{Limits}
use Rattle.sim_chains.specs.Components.{NoObject}
use Rattle.sim_scope.specs.Access.{encloser}
use Rattle.sim_scope.specs.Source.{Source, line_at}
use Rattle.sim_tree.specs.declared.stmt.TypeName.{TypeName}
use Rattle.sim_tree.specs.Syntax.{Declarations, Heading, Statement, Statements}
use Rattle.sim_values.specs.declared.kind.Kind.{Kind as TypeKind}
use Rattle.sim_values.specs.declared.kind.Kind.TheVariants as type_kind
use Rattle.sim_values.specs.Words.{instance_words}
use Rattle.sim_code.specs.declared.code.BlockKind.TheVariants as block_kind
use Rattle.sim_code.specs.declared.code.BlockKind.{BlockKind}
use Rattle.sim_code.specs.declared.code.CodeType.{CodeType}
use Rattle.sim_code.specs.declared.code.CodeType.TheVariants as type
use Rattle.sim_code.specs.declared.stage.Stage.TheVariants as stage
use Rattle.sim_code.specs.declared.instr.Instr.TheVariants as i
use Rattle.sim_code.specs.declared.instr.Lined.{Lined}
use Rattle.sim_code.specs.Code.{BlockOf, CodeOf}
use Rattle.sim_code.specs.Outcome.{Going, Run, World}
use Rattle.sim_code.specs.Events.{entering, having, no_rule, when}
use Rattle.sim_code.specs.Arrays.{handed_over, pairs}
use Rattle.sim_code.specs.Instances.{Instance, is_live}
use Rattle.sim_code.specs.Machine.{Cells, Frames, Machine, Value, frames_kept, in_frame, is_nothing, joined, number, same_kind, waiting, words_of_block}
use Rattle.sim_code.specs.Machine as machine
use Rattle.sim_code.specs.Rows.{on_top}
use Rattle.sim_code.specs.Rows as rows
use Rattle.sim_code.proofs.Lifts.{EachAt, alike_entering, alike_found, alike_making, alike_when}
use Rattle.sim_code.proofs.Simulation.{Alike, going, unruled}
use Rattle.sim_meaning.specs.Entries.{arrays_by_value, cells_from, filled_behind, first_cells, formals_of, instances_kept, new_instance, numbers_of, passes, with_result, words_of_cells}
use Rattle.sim_meaning.specs.Levels.{has_levels}
use Rattle.sim_meaning.specs.Meaning.{block_work, do_op, first_step, has_result, procedure_entered, program_entered, sub_block_entered}
use Rattle.sim_meaning.specs.Pending.{Activation, ArrayOp, ArrayValue, CallOp, Configuration, Do, EndBlock, EndProcedure, EndProgram, EnterOp, Exec, Execs, Held, Instances, Item, Op, PastOp, Val, instance_in, plain}
use Rattle.sim_meaning.specs.Steps.{go}
use Rattle.sim_meaning.specs.Texts.{BlockText, ClassText, ConnectionText, PrefixedText, ProcedureText, StandardText, Text, is_class_free, text}
use Rattle.sim_meaning.specs.Sane.{Lives, lives_alone}
use Rattle.codegen_expr.specs.Sites.{expression_temps, At, block_in_front, block_number, cells_in, cells_of_block, frame_text, hidden_in, lined, own_cells, own_end, own_part}
use Rattle.codegen.specs.Agrees.{Agrees}
use Rattle.codegen.specs.CodeArrays.{ArraysAt, element_number}
use Rattle.codegen.specs.CodeStm.{StmsAt}
use Rattle.codegen.specs.Compiled.{Compiled, ProcedureTextOf, ProgramOf, RecordOf, TextCode, code_formal, parameters_of, site_of, type_of_cell, type_of_name}
use Rattle.sim_relate.proofs.Parameters.{formals_vary, result_vary}
use Rattle.sim_relate.proofs.Actuals.{arrays_same, behind_result, both_kept, counted_many, each_length}
use Rattle.sim_relate.proofs.Carried.{all_every, chain_changed, kept_every, parked_changed}
use Rattle.sim_relate.proofs.DeclaredArrays.{arrays_at}
use Rattle.sim_relate.proofs.Ends.{chosen}
use Rattle.sim_relate.proofs.Entering.{block_alike, chain_entered, chain_owners, code_there, enters, first_none, first_size, first_text, first_typed, frame_there, front_is, instance_at, later_fs, later_m, new_frame, parked_entered, solid_there, program_alike, text_there}
use Rattle.sim_relate.proofs.Formals.{formals_fit}
use Rattle.sim_relate.proofs.Hands.{hand_integers, hand_popping, stack_length}
use Rattle.sim_relate.proofs.Here.{Here, act, at_row, goes, kinds_as, with_values}
use Rattle.sim_relate.proofs.Laying.{laid}
use Rattle.sim_relate.proofs.Living.{new_lives, new_lives_inside}
use Rattle.sim_relate.proofs.Pending.{ends_at, pends}
use Rattle.sim_relate.proofs.PrefixedProgram.{first_prefixed}
use Rattle.sim_relate.proofs.Known.{Low, Named, actual_at, Any, Every, FixedOf, HandAt, IsLink, Kind, LinkTo, Located, OwnerOf, Refers, Runs, StackAt, Stands, ValAt, anys, array_at, element_at, given, image_at, link_at, more_at, plain_at, site_at, Settled, LinkOf, procedure_at}
use Rattle.sim_relate.proofs.Waiting.{NoValue, Wait, gets_any, given_by, value_if, GetsIs}
use Rattle.sim_relate.proofs.Operations.{CallOpIs}
use Rattle.sim_relate.proofs.Relation.{ChainAt, Changed, EndAt, OpAt, StandingsAt, StateAt, StoreAt, WorkAt, straight}
use Rattle.sim_relate.proofs.Slots.{HeldAt, Typed, VaryFirst, Written, cells_at, cells_filled_behind, cells_fit, key_of, machine_fills, put_behind, put_from, put_length, result_at, results}
use Rattle.sim_relate.proofs.Stores.{is_live_same, new_inside, new_outermost}
use Rattle.sim_relate.proofs.Thunks.{AskedAt}
use Rattle.sim_relate.proofs.Values.{instance_later}

no_around : (o : Option ℕ) (u : ℕ) → o ≡ None → o ≡ Some u → ⊥
no_around o u e f = cc

-- the code of a text that is a procedure
pub procedure_code : (s : Source) (code : CodeOf) (k : ℕ) (result : Option TypeName) (h : Heading) (a : Statement) (b : BlockOf) → TextCode s code k (ProcedureText result h a) b → ProcedureTextOf s code k result a b
procedure_code s code zero result h a b x = x
procedure_code s code (suc k) result h a b x = x

-- the code of a block that has no levels runs at no stage
abbrev pub plainly : Source → CodeOf → (text : ℕ) → BlockOf → Runs
plainly s code k b = record { own = k; thunk = None; room = b.room; limit = b.room; temps = own_end s code k; block = b; stage = stage.NoStage }

module _ (s : Source) (code : CodeOf) (agrees : Agrees s) where
  pub words_same : (k : ℕ) (x : Text) (b : BlockOf) → text s k ≡ Some x → has_levels (Some x) ≡ false → own_cells s k x ≡ first_cells s k x → b.cells ≡ cells_of_block (block_in_front s code k) + length (cells_in s k (text s k)) → words_of_block b ≡ words_of_cells (first_cells s k x)
  words_same k x b is single own c =
      let none : cells_of_block (block_in_front s code k) ≡ 0 = ap cells_of_block (front_is s code agrees k (ap has_levels is ∙ single)) in
      let count : length (cells_in s k (text s k)) ≡ length (first_cells s k x) = ap (λ z. length (cells_in s k z)) is ∙ ap length own in
      let same : b.cells ≡ length (first_cells s k x) = omega (arith, c, none, count) in
      ap (λ n. instance_words n false) same

  pub used_low : (k : ℕ) (b : BlockOf) → frame_text s k ≡ k → Low s code k (plainly s code k b) (own_end s code k + expression_temps)
  used_low k b own = let same = ap (own_end s code) own in record { low = omega (arith, same); temps = sym same; full = λ n e. absurd (cc (e)) }

  -- the first cells of a block, and of a procedure
  pub block_first : (m : Instances) (k begin : ℕ) (ds : Declarations) (ss : Statements) (kind : BlockKind) (result : CodeType) (b : BlockOf) → text s k ≡ Some (BlockText begin ds ss) → RecordOf s code k kind result b → HeldAt s code m (first_cells s k (BlockText begin ds ss)) (machine.first_cells b)
  unfolding first_cells
  block_first m k begin ds ss kind result b is heads =
      let rest : List CodeType = map type_of_cell (hidden_in s k) ++ heads.temps in
      let typed : machine.first_cells b ≡ Typed s rest (cells_from s (numbers_of s k)) = first_typed s code agrees k (ap has_levels is) kind result b heads ∙ ap (λ z. Typed s rest (cells_in s k z)) is in
      subst (λ z. HeldAt s code m (cells_from s (numbers_of s k)) z) (sym typed) (cells_at s code m rest (numbers_of s k))

  pub procedure_first : (m : Instances) (k : ℕ) (type : Option TypeName) (h : Heading) (a : Statement) (kind : BlockKind) (result : CodeType) (b : BlockOf) → text s k ≡ Some (ProcedureText type h a) → RecordOf s code k kind result b → HeldAt s code m (first_cells s k (ProcedureText type h a)) (machine.first_cells b)
  unfolding first_cells
  procedure_first m k type h a kind result b is heads =
      let rest : List CodeType = map type_of_cell (hidden_in s k) ++ heads.temps in
      let hs : List Held = cells_from s (numbers_of s k) in
      let typed : machine.first_cells b ≡ Typed s rest (with_result type hs) = first_typed s code agrees k (ap has_levels is) kind result b heads ∙ ap (λ z. Typed s rest (cells_in s k z)) is in
      subst (λ z. HeldAt s code m (with_result type hs) z) (sym typed) (result_at s code m rest type hs hs (cells_at s code m rest (numbers_of s k)))

-- ---- the work of a block that is entered

module _ (s : Source) (code : CodeOf) (compiled : Compiled s code) (m : Instances) (fs : Frames) (Below : Wait → Type 0) (j k : ℕ) (b : BlockOf) (stands : Stands s m j k) (own : frame_text s k ≡ k) (lives : Lives m j) where
  pub block_pends : (ds : Declarations) (ss : Statements) (end : Item) (p y q : ℕ) → ArraysAt s code (site_of s code k b) ds p y → StmsAt s code (site_of s code k b) 0 ss y q → WorkAt s code m fs Below j k (plainly s code k b) (own_end s code k + expression_temps) (end ∷ []) q []
      → WorkAt s code m fs Below j k (plainly s code k b) (own_end s code k + expression_temps) (block_work s m j ds ss end) p []
  block_pends ds ss end p y q arrays stms ends =
      let low : Settled s code k (plainly s code k b) (own_end s code k + expression_temps) = record { at = used_low s code compiled.agrees k b own; calm = refl } in
      arrays_at s code compiled.agrees m fs Below j k (plainly s code k b) (own_end s code k + expression_temps) low stands lives (Do (Execs ss) ∷ end ∷ []) ds p y arrays (pends s code m fs Below j k (plainly s code k b) (own_end s code k + expression_temps) low (end ∷ []) (Execs ss) y q [] [] (stms, refl) ends)

-- a block without a prefix is no simulation block
plain_begun : (code : CodeOf) (b : BlockOf) → b.kind ≡ block_kind.SubBlock → (p : World) → rows.program_begun code b p ≡ p
plain_begun code b e p = rw e refl

module _ (s : Source) (code : CodeOf) (compiled : Compiled s code) (l : Limits) (o : World) where
  abbrev R : Configuration → Machine → Type 0
  R = StateAt s code

  -- ---- the first step

  first_block : (m : Instances) (fs : Frames) → StoreAt s code m fs → StandingsAt s code m fs → (begin : ℕ) (ds : Declarations) (ss : Statements) → text s 0 ≡ Some (BlockText begin ds ss) → (b : BlockOf) → slice_get code.blocks 0 ≡ Some b → ProgramOf s code begin ds ss b
      → Alike R (program_entered s l o m (Some (BlockText begin ds ss))) (rows.program_block code o (λ b z x. entering l x.line.0 (words_of_block b) o (λ p. machine.in_new (rows.program_begun code b p) fs 0 b b.entry z (NoObject None) None (machine.first_cells b) [])))
  unfolding block_number frame_text
  first_block m fs a parked begin ds ss is b found h =
      let heads = h.heads in
      let body = h.body in
      let agrees = compiled.agrees in
      let cells = first_cells s 0 (BlockText begin ds ss) in
      program_alike s code o b found stage.NoStage (ap rows.first_stage heads.is_kind) (slice_get_within code.instrs b.entry _ (h.enter).at) _ _ (λ x ex.
      alike_entering Configuration Machine R l (line_at s begin) x.line.0 (words_of_cells cells) (words_of_block b) o _ _ (same_line x ex (h.enter).at) (words_same s code agrees 0 (BlockText begin ds ss) b is refl refl heads.cells) (λ p.
      let new = new_instance s 0 None cells in
      let frame = new_frame s code 0 b None (machine.first_cells b) in
      let m' = later_m s code m fs a new frame (NoObject None) (NoObject None) refl in
      let fs' = later_fs s code m fs a new frame (NoObject None) (NoObject None) refl in
      let stands : Stands s m' (length m.instances) 0 = new_outermost s m 0 new (NoObject None) refl refl refl agrees.outermost in
      let lives : Lives m' (length m.instances) = lives_alone (new_lives m new (NoObject None) refl) refl in
      let Below : Wait → Type 0 = λ v. ChainAt s code m' fs' [] v [] in
      let low : Settled s code 0 (plainly s code 0 b) (own_end s code 0 + expression_temps) = record { at = used_low s code agrees 0 b refl; calm = refl } in
      let single : has_levels (text s 0) ≡ false = ap has_levels is in
      let room : b.room ≤ b.room = omega arith in
      let next = (h.enter).on in
      let start = body.there in
      let ahead : b.entry < h.start = omega (arith, next) in
      let work = block_pends s code compiled m' fs' Below (length m.instances) 0 b stands refl lives ds ss EndProgram h.start (body.body).0 body.stop (body.body).1 (body.body).2
      (ends_at s code m' fs' Below (length m.instances) 0 (plainly s code 0 b) (own_end s code 0 + expression_temps) EndProgram [] body.stop [] (record { base = (refl, refl); first = refl; last = body.last; at = body.ends; none = refl; below = record { still = refl; is = refl } })) in
      let pair = instance_at s code agrees 0 single block_kind.SubBlock type.Nothing b heads m found (ap (λ z. passes z (is_class_free s 0)) is) refl (solid_there s agrees 0 (BlockText begin ds ss) is refl) (laid s code compiled 0 (BlockText begin ds ss) is refl) None cells (machine.first_cells b) (block_first s code agrees m 0 begin ds ss block_kind.SubBlock type.Nothing b is heads) (ap (λ z. map key_of (cells_in s 0 z)) (sym is)) (first_size s code agrees 0 single block_kind.SubBlock type.Nothing b heads) (first_none s code agrees 0 single block_kind.SubBlock type.Nothing b heads) in
      subst (λ z. Alike R (Going p _) (Going z _)) (sym (plain_begun code b heads.is_kind p)) (going (enters s code m fs a new frame (NoObject None) (NoObject None) refl (parked_entered s code m fs a new frame (NoObject None) (NoObject None) refl tt parked) [] [] 0 (plainly s code 0 b) refl pair
      found stands stands refl room (Do PastOp ∷ block_work s m' (length m.instances) ds ss EndProgram) (own_end s code 0 + expression_temps) b.entry
      (pends s code m' fs' Below (length m.instances) 0 (plainly s code 0 b) (own_end s code 0 + expression_temps) low (block_work s m' (length m.instances) ds ss EndProgram) PastOp b.entry h.start [] []
      (h.start, record { line = line_at s begin; is = h.enter }, record { forward = ahead; there = start }, refl) work)))))
    where
      same_line : (x : Lined) → slice_get code.instrs b.entry ≡ Some x → slice_get code.instrs b.entry ≡ Some (lined (i.Jump (pos h.start)) (line_at s begin)) → x.line.0 ≡ line_at s begin
      same_line x e f = let same : x ≡ lined (i.Jump (pos h.start)) (line_at s begin) = cc in ap (λ z. z.line.0) same

  pub when_equal : (b b' : Bool) (r : Run Configuration) (q : Run Machine) → b' ≡ b → Alike R r q → Alike R (when b o r) (when b' o q)
  when_equal b b' r q e h = subst (λ c. Alike R (when b o r) (when c o q)) (sym e) (alike_when Configuration Machine R b o r q h)

  when_so : (c : Bool) (r : Run Configuration) (q : Run Machine) → (c ≡ true → Alike R r q) → Alike R (when c o r) (when c o q)
  unfolding when no_rule
  when_so true r q h = h refl
  when_so false r q h = unruled

  -- before the first step there is no instance
  when_empty : (n n' : ℕ) (r : Run Configuration) (q : Run Machine) → n' ≡ n → (n ≡ 0 → Alike R r q) → Alike R (when (n == 0) o r) (when (n' == 0) o q)
  when_empty n n' r q e h = subst (λ z. Alike R (when (n == 0) o r) (when (z == 0) o q)) (sym e) (when_so (n == 0) r q (λ f. h (grind (arith, f))))

  first_some : (m : Instances) (fs : Frames) → StoreAt s code m fs → StandingsAt s code m fs → length m.instances ≡ 0 → (x : Text) → text s 0 ≡ Some x → Alike R (program_entered s l o m (Some x)) (rows.program_block code o (λ b z x. entering l x.line.0 (words_of_block b) o (λ p. machine.in_new (rows.program_begun code b p) fs 0 b b.entry z (NoObject None) None (machine.first_cells b) [])))
  unfolding block_number no_rule
  first_some m fs a parked empty (BlockText begin ds ss) is = let c = code_there s code compiled 0 (BlockText begin ds ss) is refl in first_block m fs a parked begin ds ss is c.block c.found c.has
  first_some m fs a parked empty (ProcedureText result h body) is = unruled
  first_some m fs a parked empty (ClassText prefix h ds ss) is = unruled
  first_some m fs a parked empty (PrefixedText class arguments ds ss) is = let c = code_there s code compiled 0 (PrefixedText class arguments ds ss) is refl in first_prefixed s code compiled l o m fs a parked empty class arguments ds ss is c.block c.found c.has
  first_some m fs a parked empty ConnectionText is = unruled
  first_some m fs a parked empty (StandardText which) is = unruled

  -- both enter the program's block
  pub first_alike : (m : Instances) (fs : Frames) → StoreAt s code m fs → StandingsAt s code m fs → Alike R (first_step s l o m) (rows.first_step code l o fs)
  unfolding text
  first_alike m fs a parked =
      let x = first_text s.program.prefix s.program.block in
      when_empty (length m.instances) (length fs.instances) (program_entered s l o m (text s 0)) _ (sym a.as_many)
      (λ empty. subst (λ z. Alike R (program_entered s l o m z) (rows.program_block code o (λ b z x. entering l x.line.0 (words_of_block b) o (λ p. machine.in_new (rows.program_begun code b p) fs 0 b b.entry z (NoObject None) None (machine.first_cells b) [])))) (sym x.1) (first_some m fs a parked empty x.0 x.1))

-- ---- entries from an instance

module _ (s : Source) (code : CodeOf) (compiled : Compiled s code) (l : Limits) (o : World) (m : Instances) (inst : ℕ) (w : List Item) (vals : List Val) (rest : List Activation) (fs : Frames) (t : ℕ) (b : Runs) (pc : ℕ) (stack : List Value) (below : List machine.Activation) (ks : List Kind) (here : Here s code m fs inst rest t b ks vals stack) (u q : ℕ) (ks' : List Kind) (low : Settled s code t b u) (work : WorkAt s code m fs (λ v. ChainAt s code m fs rest v below) inst t b u w q ks') where
  abbrev Related : Configuration → Machine → Type 0
  Related = StateAt s code

  abbrev top : machine.Activation
  top = act inst pc stack b

  abbrev pub Follows : Op → Type 0
  Follows op = OpAt s code m fs inst (site_at t b u) op pc q ks ks' → Alike Related (do_op s l o m inst w vals rest op) (on_top code l o fs top below)

  -- the instance waits, with what is left in its hand
  pub waits : (v : Wait) (left : List Kind) (vals2 : List Val) (stack2 : List Value) → StackAt (HandAt s code m) left vals2 stack2 → (gets_any v ≡ true → length left < b.limit) → AskedAt s code v (suc pc) → ks' ≡ given_by v left → q ≡ suc pc → ChainAt s code m fs (record { instance = inst; work = w; values = vals2 } ∷ rest) v (waiting top stack2 ∷ below)
  waits v left vals2 stack2 h fits asked e place = let roomy = here.roomy in record {
    home = refl;
    text = t;
    block = b;
    base = refl;
    found = here.found;
    stands = here.stands;
    own = here.own;
    roomy = here.roomy;
    room = refl;
    stage = refl;
    kinds = left;
    values = h;
    gets = v;
    gets_is = subst (λ z. GetsIs z v v) (sym here.free) refl;
    fits = λ yes. (let less = fits yes in omega (arith, less, roomy));
    asked = asked;
    used = u;
    goes = subst (λ z. WorkAt s code m fs (λ v. ChainAt s code m fs rest v below) inst t b u w (suc pc) z) e (subst (λ z. WorkAt s code m fs (λ v. ChainAt s code m fs rest v below) inst t b u w z ks') place work);
  }

  -- for a value, or for none
  asked_value : (leaves : Bool) (p : ℕ) → AskedAt s code (value_if leaves) p
  asked_value true p = tt
  asked_value false p = tt

  value_given : (leaves : Bool) (left : List Kind) → given leaves left ≡ given_by (value_if leaves) left
  value_given true left = refl
  value_given false left = refl

  pub waits_value : (leaves : Bool) (left : List Kind) (vals2 : List Val) (stack2 : List Value) → StackAt (HandAt s code m) left vals2 stack2 → (gets_any (value_if leaves) ≡ true → length left < b.limit) → ks' ≡ given leaves left → q ≡ suc pc → ChainAt s code m fs (record { instance = inst; work = w; values = vals2 } ∷ rest) (value_if leaves) (waiting top stack2 ∷ below)
  waits_value leaves left vals2 stack2 h fits e place = waits (value_if leaves) left vals2 stack2 h fits (asked_value leaves (suc pc)) (e ∙ value_given leaves left) place

  -- ---- sub-blocks

  enter_block : (k line : ℕ) (begin : ℕ) (ds : Declarations) (ss : Statements) → text s (suc k) ≡ Some (BlockText begin ds ss) → At code (i.Enter (pos (block_number s (suc k)))) line pc q → encloser s.tables (suc k) ≡ Some t → ks' ≡ ks → Alike Related (sub_block_entered s l o m inst w vals rest (suc k) line (Some (BlockText begin ds ss))) (on_top code l o fs top below)
  enter_block k line begin ds ss is at around e =
      let agrees = compiled.agrees in
      let own = frame_there s agrees (suc k) (BlockText begin ds ss) is refl in
      let c = code_there s code compiled (suc k) (BlockText begin ds ss) is refl in
      let new_block = c.block in
      let h = c.has in
      let heads = h.heads in
      let body = h.body in
      let single : has_levels (text s (suc k)) ≡ false = ap has_levels is in
      let room : new_block.room ≤ new_block.room = omega arith in
      let cells = first_cells s (suc k) (BlockText begin ds ss) in
      at_row s code l o fs top below _ (i.Enter (pos (block_number s (suc k)))) line q at
      (block_alike s code o block_kind.SubBlock (block_number s (suc k)) new_block c.found (ap (λ z. same_kind z block_kind.SubBlock) heads.is_kind) body.there _ _ (λ x ex.
      alike_entering Configuration Machine Related l line line (words_of_cells cells) (words_of_block new_block) o _ _ refl (words_same s code agrees (suc k) (BlockText begin ds ss) new_block is refl refl heads.cells) (λ p.
      let new = new_instance s (suc k) (Some inst) cells in
      let frame = new_frame s code (block_number s (suc k)) new_block (Some inst) (machine.first_cells new_block) in
      let m' = later_m s code m fs here.store new frame (NoObject None) (NoObject None) refl in
      let fs' = later_fs s code m fs here.store new frame (NoObject None) (NoObject None) refl in
      let chain : List Activation = record { instance = inst; work = w; values = vals } ∷ rest in
      let under : List machine.Activation = waiting top stack ∷ below in
      let Below : Wait → Type 0 = λ v. ChainAt s code m' fs' chain v under in
      let stands : Stands s m' (length m.instances) (suc k) = new_inside s m (suc k) inst t new (NoObject None) (sym own) refl refl (ap (encloser s.tables) own ∙ around) here.stands in
      let lives : Lives m' (length m.instances) = new_lives_inside m new (NoObject None) refl inst refl here.lives in
      let waiting_chain = chain_entered s code m fs here.store new frame (NoObject None) (NoObject None) refl chain NoValue under (waits NoValue ks vals stack here.values (λ no. absurd (cc)) tt e at.on) in
      let pair = instance_at s code agrees (suc k) single block_kind.SubBlock type.Nothing new_block heads m c.found (ap (λ z. passes z (is_class_free s (suc k))) is) own (solid_there s agrees (suc k) (BlockText begin ds ss) is refl) (laid s code compiled (suc k) (BlockText begin ds ss) is refl) (Some inst) cells (machine.first_cells new_block) (block_first s code agrees m (suc k) begin ds ss block_kind.SubBlock type.Nothing new_block is heads) (ap (λ z. map key_of (cells_in s (suc k) z)) (sym is)) (first_size s code agrees (suc k) single block_kind.SubBlock type.Nothing new_block heads) (first_none s code agrees (suc k) single block_kind.SubBlock type.Nothing new_block heads) in
      going (enters s code m fs here.store new frame (NoObject None) (NoObject None) refl (parked_entered s code m fs here.store new frame (NoObject None) (NoObject None) refl tt here.parked) chain under (suc k) (plainly s code (suc k) new_block) refl pair
      (ap (λ z. slice_get code.blocks (block_number s z)) own ∙ c.found) stands stands refl room (block_work s m' (length m.instances) ds ss EndBlock) (own_end s code (suc k) + expression_temps) new_block.entry
      (block_pends s code compiled m' fs' Below (length m.instances) (suc k) new_block stands own lives ds ss EndBlock new_block.entry (body.body).0 body.stop (body.body).1 (body.body).2
      (ends_at s code m' fs' Below (length m.instances) (suc k) (plainly s code (suc k) new_block) (own_end s code (suc k) + expression_temps) EndBlock [] body.stop []
      (subst (λ z. EndAt s code Below z (plainly s code (suc k) new_block) EndBlock [] body.stop []) (sym own) (record { begin = begin; declarations = ds; statements = ss; is = is }, record { base = (refl, refl); last = body.last; at = body.ends; heads = heads; none = refl; below = waiting_chain }))))))))

  enter_some : (k line : ℕ) (x : Text) → text s k ≡ Some x → At code (i.Enter (pos (block_number s k))) line pc q → encloser s.tables k ≡ Some t → ks' ≡ ks → Alike Related (sub_block_entered s l o m inst w vals rest k line (Some x)) (on_top code l o fs top below)
  unfolding no_rule
  enter_some zero line x is at around e = absurd (no_around (encloser s.tables 0) t compiled.agrees.outermost around)
  enter_some (suc k) line (BlockText begin ds ss) is at around e = enter_block k line begin ds ss is at around e
  enter_some (suc k) line (ProcedureText result h body) is at around e = unruled
  enter_some (suc k) line (ClassText prefix h ds ss) is at around e = unruled
  enter_some (suc k) line (PrefixedText class arguments ds ss) is at around e = unruled
  enter_some (suc k) line ConnectionText is at around e = unruled
  enter_some (suc k) line (StandardText which) is at around e = unruled

  pub enter : (k line : ℕ) → Follows (EnterOp k line)
  enter k line a =
      let x = text_there s k t compiled.agrees a.1 in
      subst (λ z. Alike Related (sub_block_entered s l o m inst w vals rest k line z) (on_top code l o fs top below)) (sym x.1) (enter_some k line x.0 x.1 a.0 a.1 a.2)

  -- ---- procedures

  pub found_left : (A : Type 0) (x : Option A) (a : A) (r : A → Run Configuration) (p : Run Machine) → x ≡ Some a → Alike Related (r a) p → Alike Related (having x o r) p
  unfolding having
  found_left A x a r p e h = subst (λ z. Alike Related (having z o r) p) (sym e) h

  -- a procedure whose actual parameters are in hand, with what is left
  module _ (k line : ℕ) (result : Option TypeName) (heading : Heading) (body : Statement) (is : text s k ≡ Some (ProcedureText result heading body)) (new_block : BlockOf) (found : slice_get code.blocks (block_number s k) ≡ Some new_block) (h : ProcedureTextOf s code k result body new_block) (j around : ℕ) (in_text : encloser s.tables k ≡ Some around) (link : Stands s m j around) (values : List Val) (values' : List Value) (each : EachAt (ValAt s code m) values values') (many : length values ≡ length (formals_of s k)) (vals2 : List Val) (stack2 : List Value) (waiting_here : ChainAt s code m fs (record { instance = inst; work = w; values = vals2 } ∷ rest) (value_if (has_result result)) (waiting top stack2 ∷ below)) where
    abbrev cells : List Held
    cells = first_cells s k (ProcedureText result heading body)

    abbrev chain : List Activation
    chain = record { instance = inst; work = w; values = vals2 } ∷ rest

    abbrev under : List machine.Activation
    under = waiting top stack2 ∷ below

    abbrev cells' : Cells
    cells' = put_from (results result) values' (machine.first_cells new_block)

    agrees : Agrees s
    agrees = compiled.agrees

    own : frame_text s k ≡ k
    own = frame_there s agrees k (ProcedureText result heading body) is refl

    first_here : HeldAt s code m cells (machine.first_cells new_block)
    first_here = procedure_first s code agrees m k result heading body block_kind.Procedure (type_of_name result) new_block is h.heads

    vary : VaryFirst s (results result + length values) cells
    unfolding first_cells
    vary = result_vary s result (length values) (cells_from s (numbers_of s k)) (subst (λ n. VaryFirst s n (cells_from s (numbers_of s k))) (sym many) (formals_vary s agrees k))

    cells_written : Written s code m (filled_behind result values cells) cells cells'
    cells_written =
        let fit = formals_fit s k result heading body in
        let le : results result + length values ≤ length cells = omega (arith, fit, many) in
        cells_filled_behind s code m result values values' cells (machine.first_cells new_block) first_here each le vary

    machine_fills_too : machine.filled (if is_nothing new_block.result_type then 0 else 1) values' (machine.first_cells new_block) ≡ Some cells'
    machine_fills_too =
        let fit = formals_fit s k result heading body in
        let n = each_length s code m values values' each in
        let more = cells_fit s code m cells (machine.first_cells new_block) first_here in
        let le : results result + length values' ≤ length (machine.first_cells new_block) = omega (arith, fit, many, n, more) in
        ap (λ c. machine.filled c values' (machine.first_cells new_block)) (ap (λ z. if is_nothing z then 0 else 1) (h.heads).gives ∙ behind_result result) ∙ machine_fills (results result) values' (machine.first_cells new_block) le

    abbrev kept_m : Instances
    kept_m = instances_kept s k chain m

    abbrev kept_fs : Frames
    kept_fs = frames_kept new_block (top ∷ below) fs

    own_parameters : parameters_of s k (text s k) ≡ formals_of s k
    own_parameters = ap (parameters_of s k) is

    kept : Changed s code Every m fs kept_m kept_fs
    kept = both_kept s code m fs here.store chain (top ∷ below) (chain_owners s code m fs chain (value_if (has_result result)) under waiting_here) k block_kind.Procedure (type_of_name result) new_block h.heads own_parameters

    abbrev new : Instance (List Held)
    new = new_instance s k (Some j) cells_written.now

    abbrev frame : Instance Cells
    frame = new_frame s code (block_number s k) new_block (Some j) cells'

    state_entered : Related (record { chain = record { instance = length kept_m.instances; work = Do (Exec body) ∷ EndProcedure (has_result result) ∷ []; values = [] } ∷ chain; memory = later_m s code kept_m kept_fs kept.store new frame (NoObject None) (NoObject None) refl }) (record { chain = record { thunk = None; home = length kept_fs.instances; pc = new_block.entry; stack = []; room = new_block.room; stage = stage.NoStage } ∷ under; memory = later_fs s code kept_m kept_fs kept.store new frame (NoObject None) (NoObject None) refl })
    state_entered =
        let heads = h.heads in
        let single : has_levels (text s k) ≡ false = ap has_levels is in
        let room : new_block.room ≤ new_block.room = omega arith in
        let code_body = h.body in
        let m' = later_m s code kept_m kept_fs kept.store new frame (NoObject None) (NoObject None) refl in
        let fs' = later_fs s code kept_m kept_fs kept.store new frame (NoObject None) (NoObject None) refl in
        let Below : Wait → Type 0 = λ v. ChainAt s code m' fs' chain v under in
        let out = (kept.later).stands j around link in
        let stands : Stands s m' (length kept_m.instances) k = new_inside s kept_m k j around new (NoObject None) (sym own) refl refl (ap (encloser s.tables) own ∙ in_text) out in
        let chain_kept = chain_changed s code kept chain (all_every chain) (value_if (has_result result)) under waiting_here in
        let parked_kept = parked_changed s code kept (kept_every m) here.parked in
        let chain_there = chain_entered s code kept_m kept_fs kept.store new frame (NoObject None) (NoObject None) refl chain (value_if (has_result result)) under chain_kept in
        let size : length cells' ≡ length new_block.types = put_length (results result) values' (machine.first_cells new_block) ∙ first_size s code agrees k single block_kind.Procedure (type_of_name result) new_block heads in
        let n = each_length s code m values values' each in
        let fit = formals_fit s k result heading body in
        let count : length (cells_in s k (text s k)) ≡ length cells = ap (λ z. length (cells_in s k z)) is in
        let none : (c : ℕ) → length (cells_in s k (text s k)) ≤ c → c < length (own_part s k) → joined (slice_get cells' c) ≡ None = λ c le lt.
        (let past : results result + length values' ≤ c = omega (arith, le, n, fit, many, count) in
        ap joined (put_behind (results result) values' (machine.first_cells new_block) c past) ∙ first_none s code agrees k single block_kind.Procedure (type_of_name result) new_block heads c le lt) in
        let pair = instance_later s code m kept_m kept.later new frame (instance_at s code agrees k single block_kind.Procedure (type_of_name result) new_block heads m found (ap (λ z. passes z (is_class_free s k)) is) own (solid_there s agrees k (ProcedureText result heading body) is refl) (laid s code compiled k (ProcedureText result heading body) is refl) (Some j) cells_written.now cells' cells_written.at (cells_written.keys ∙ ap (λ z. map key_of (cells_in s k z)) (sym is)) size none) in
        let used = own_end s code k + expression_temps in
        let low' : Settled s code k (plainly s code k new_block) used = record { at = used_low s code agrees k new_block own; calm = refl } in
        enters s code kept_m kept_fs kept.store new frame (NoObject None) (NoObject None) refl (parked_entered s code kept_m kept_fs kept.store new frame (NoObject None) (NoObject None) refl tt parked_kept) chain under k (plainly s code k new_block) refl pair (ap (λ z. slice_get code.blocks (block_number s z)) own ∙ found) stands stands refl room (Do (Exec body) ∷ EndProcedure (has_result result) ∷ []) used new_block.entry
        (pends s code m' fs' Below (length kept_m.instances) k (plainly s code k new_block) used low' (EndProcedure (has_result result) ∷ []) (Exec body) new_block.entry code_body.stop [] [] (straight code_body.body, refl)
        (ends_at s code m' fs' Below (length kept_m.instances) k (plainly s code k new_block) used (EndProcedure (has_result result)) [] code_body.stop []
        (subst (λ z. EndAt s code Below z (plainly s code k new_block) (EndProcedure (has_result result)) [] code_body.stop []) (sym own) (record { result = result; heading = heading; body = body; is = is; same = refl; ends = record { base = (refl, refl); last = code_body.last; at = code_body.ends; heads = heads; none = refl; below = chain_there } }))))

    worlds_same : (p : World) → handed_over (length fs.instances) (machine.arrays_by_value new_block.formals values') p ≡ handed_over (length m.instances) (arrays_by_value (formals_of s k) values) p
    worlds_same p =
        let heads = h.heads in
        ap (λ z. handed_over (length fs.instances) (machine.arrays_by_value z values') p) (heads.formals ∙ ap (map (code_formal s code)) own_parameters) ∙ ap (λ z. handed_over (length fs.instances) z p) (arrays_same s code m (formals_of s k) values values' each) ∙ ap (λ n. handed_over n (arrays_by_value (formals_of s k) values) p) (sym (here.store).as_many)

    in_same_world : (p p' : World) (c : Configuration) (x : Machine) → p' ≡ p → Related c x → Alike Related (Going p c) (Going p' x)
    in_same_world p p' c x e r = subst (λ z. Alike Related (Going p c) (Going z x)) (sym e) (going r)

    pub procedure_enters : Alike Related (procedure_entered s l o m inst w vals2 rest k line values j (Some (ProcedureText result heading body)))
        (machine.block_at code block_kind.Procedure (pos (block_number s k)) o (λ n b x. having (machine.filled (if is_nothing b.result_type then 0 else 1) values' (machine.first_cells b)) o (λ cells. entering l line (words_of_block b) o (λ p. in_frame (handed_over (length fs.instances) (machine.arrays_by_value b.formals values') p) (frames_kept b (top ∷ below) fs) n b (Some j) cells (waiting top stack2 ∷ below)))))
    procedure_enters =
        let heads = h.heads in
        block_alike s code o block_kind.Procedure (block_number s k) new_block found (ap (λ z. same_kind z block_kind.Procedure) heads.is_kind) (h.body).there _ _ (λ x ex.
        found_left (List Held) (filled_behind result values cells) cells_written.now _ _ cells_written.is
        (alike_found Configuration Machine Related Cells (machine.filled (if is_nothing new_block.result_type then 0 else 1) values' (machine.first_cells new_block)) cells' o _ _ machine_fills_too
        (alike_entering Configuration Machine Related l line line (words_of_cells cells) (words_of_block new_block) o _ _ refl (words_same s code agrees k (ProcedureText result heading body) new_block is refl refl heads.cells) (λ p.
        in_same_world _ _ _ _ (worlds_same p) state_entered))))

  pub by_equal : (A : Type 0) (x y : A) (f : A → Run Configuration) (q : Run Machine) → x ≡ y → Alike Related (f y) q → Alike Related (f x) q
  by_equal A x y f q e h = subst (λ z. Alike Related (f z) q) (sym e) h

  -- a link of either kind, to an instance of the text around
  pub record LinkFound (text : ℕ) (v : Val) (x : Value) : Type 0 where
    pub instance : ℕ
    pub is_val : instance_in v ≡ Some instance
    pub is_value : machine.frame_in x ≡ Some instance
    pub stands : Stands s m instance text

  pub link_found : (k : Kind) (text : ℕ) → IsLink k text → (v : Val) (x : Value) → HandAt s code m k v x → LinkFound text v x
  link_found (LinkTo u) text e v x h = record { instance = h.instance; is_val = ap instance_in h.is_val; is_value = ap machine.frame_in h.is_value; stands = subst (λ z. Stands s m h.instance z) e h.stands }
  link_found (OwnerOf u) text e v x h = record { instance = h.instance; is_val = ap instance_in h.is_val; is_value = ap machine.frame_in h.is_value; stands = subst (λ z. Stands s m h.instance z) e h.stands }
  link_found Any text e v x h = absurd e
  link_found Located text e v x h = absurd e
  link_found (Refers k) text e v x h = absurd e
  link_found (FixedOf d) text e v x h = absurd e
  link_found (LinkOf j) text e v x h = absurd e
  link_found Named text e v x h = absurd e

  called_at : (k n line : ℕ) (a : CallOpIs s code (site_at t b u) k n line pc q ks ks') → (values : List Val) (values' : List Value) → EachAt (ValAt s code m) values values' → length values ≡ n → (v : Val) (x : Value) (vals2 : List Val) (stack2 : List Value) → LinkFound a.text v x → StackAt (HandAt s code m) a.left vals2 stack2
      → Alike Related (having (instance_in v) o (λ j. when (is_live m j) o (procedure_entered s l o m inst w vals2 rest k line values j (text s k))))
      (having (machine.frame_in x) o (λ parent. when (is_live fs parent) o (machine.block_at code block_kind.Procedure (pos (block_number s k)) o (λ n b x. having (machine.filled (if is_nothing b.result_type then 0 else 1) values' (machine.first_cells b)) o (λ cells. entering l line (words_of_block b) o (λ p. in_frame (handed_over (length fs.instances) (machine.arrays_by_value b.formals values') p) (frames_kept b (top ∷ below) fs) n b (Some parent) cells (waiting top stack2 ∷ below)))))))
  called_at k n line a values values' each counted v x vals2 stack2 link h =
      let j = link.instance in
      let p = a.procedure in
      let c = code_there s code compiled k (ProcedureText p.result p.heading p.body) p.is refl in
      let has = procedure_code s code k p.result p.heading p.body c.block c.has in
      let under = waits_value (has_result p.result) a.left vals2 stack2 h (λ _. a.fits) a.out (a.is).on in
      found_left ℕ (instance_in v) j _ _ link.is_val
      (alike_found Configuration Machine Related ℕ (machine.frame_in x) j o _ _ link.is_value
      (when_equal s code compiled l o (is_live m j) (is_live fs j) _ _ (sym (is_live_same s code m fs here.store j))
      (by_equal (Option Text) (text s k) (Some (ProcedureText p.result p.heading p.body)) (λ z. procedure_entered s l o m inst w vals2 rest k line values j z) _ p.is
      (procedure_enters k line p.result p.heading p.body p.is c.block c.found has j a.text p.stands_in link.stands values values' each (counted ∙ a.as_many) vals2 stack2 under))))

  pub call_row : (n : ℕ) (r : Run Configuration) (go : ℕ → Run Machine) → Alike Related r (go n) → Alike Related r (machine.index (pos n) o go)
  unfolding machine.index
  call_row n r go h = alike_found Configuration Machine Related ℕ (number (pos n)) n o r go refl h

  some_row : (n : ℕ) (r : Run Configuration) (q : Run Machine) → 0 < n → Alike Related r q → Alike Related r (when (nat_lt 0 n) o q)
  unfolding when
  some_row n r q some h = let less : nat_lt 0 n ≡ true = grind (arith, some) in chosen (λ z. Alike Related r z) (nat_lt 0 n) q (no_rule o) less h

  pub same_hand : (v : Val) (x : Value) → HandAt s code m Any v x → plain v ≡ machine.plain x
  same_hand _ _ plain_at = refl
  same_hand _ _ link_at = refl
  same_hand _ _ array_at = refl
  same_hand _ _ element_at = refl
  same_hand _ _ image_at = refl
  same_hand _ _ (actual_at h) = refl
  same_hand _ _ (procedure_at h) = refl

  pub call : (k n line : ℕ) → Follows (CallOp k n line)
  call k n line a =
      at_row s code l o fs top below _ (i.Call (pos (block_number s k)) (pos n)) line q a.is
      (call_row n _ _
      (counted_many Configuration Machine Related (HandAt s code m) n n (a.link ∷ a.left) [] [] vals stack o _ _ (kinds_as s code a.«in» here.values) tt (omega arith) (λ values values' vals1 stack1 each counted h1.
      hand_popping Configuration Machine Related Val Value (HandAt s code m) plain machine.plain same_hand a.link a.left vals1 stack1 o _ _ h1 (λ v x vals2 stack2 ev ex link h2.
      called_at k n line a values values' each counted v x vals2 stack2 (link_found a.link a.text a.links v x link) h2))))

  -- ---- arrays

  element_kind_is : (kind : TypeKind) → rows.element_kind (element_number kind) ≡ Some kind
  element_kind_is type_kind.Integer = refl
  element_kind_is type_kind.Boolean = refl
  element_kind_is type_kind.Character = refl
  element_kind_is type_kind.Text = refl
  element_kind_is type_kind.Reference = refl

  array_pushed : (left : List Kind) (vals2 : List Val) (stack2 : List Value) (p : World) (array : ℕ) → StackAt (HandAt s code m) left vals2 stack2 → length left < b.limit → ks' ≡ anys 1 left → q ≡ suc pc → Alike Related (go p m inst w (ArrayValue array ∷ vals2) rest) (machine.pushing b.room stack2 (machine.ArrayValue array) p (λ stack. machine.on p fs top stack below))
  unfolding machine.pushing when
  array_pushed left vals2 stack2 p array h fits e place =
      let n = stack_length left vals2 stack2 h in
      let roomy = here.roomy in
      let less : nat_lt (length stack2) b.room ≡ true = grind (arith, n, fits, roomy) in
      chosen (λ z. Alike Related (go p m inst w (ArrayValue array ∷ vals2) rest) z) (nat_lt (length stack2) b.room) _ (no_rule p) less
      (goes s code u q (with_values s code here (more_at array_at h)) (subst (λ z. WorkAt s code m fs (λ v. ChainAt s code m fs rest v below) inst t b u w q z) e work) place)

  pub array : (kind : TypeKind) (n line : ℕ) → Follows (ArrayOp kind n line)
  array kind n line a =
      at_row s code l o fs top below _ (i.Array (element_number kind) (pos n)) line q a.is
      (alike_found Configuration Machine Related TypeKind (rows.element_kind (element_number kind)) kind o _ _ (element_kind_is kind)
      (call_row n _ _
      (some_row n _ _ a.some
      (hand_integers Configuration Machine Related Val Value (HandAt s code m) plain machine.plain same_hand (2 * n) a.left [] vals stack o _ _ (kinds_as s code a.«in» here.values) (λ bounds vals2 stack2 h.
      alike_making Configuration Machine Related l line inst kind (pairs bounds) o _ _ (λ array p. array_pushed a.left vals2 stack2 p array h a.fits a.out (a.is).on))))))

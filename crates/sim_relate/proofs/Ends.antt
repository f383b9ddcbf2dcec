-- The ends of blocks, of procedures, of objects and of the program.
use Rattle.std.proofs.Common.{◌≡◌, ◌<◌, ◌+◌, ◌++◌, ℕ, Bool, true, false, List, [], ◌∷◌, length, Option, Some, None, refl, sym, ap, ◌∙◌, subst, arith}
use Rattle.std.specs.Prelude.{◌==◌, if◌then◌else◌, nat_lt, pos, slice_get}
use Rattle.sim_base.specs.declared.limits.Limits.{Limits}
use Rattle.sim_scope.specs.Source.{Source}
use Rattle.sim_tree.specs.declared.stmt.TypeName.{TypeName}
use Rattle.sim_tree.specs.declared.stmt.TypeName.TheVariants as type_name
use Rattle.sim_tree.specs.Syntax.{Heading, Statement}
use Rattle.sim_values.specs.Words.{instance_words}
use Rattle.sim_code.specs.declared.code.BlockKind.{BlockKind}
use Rattle.sim_code.specs.declared.code.BlockKind.TheVariants as block_kind
use Rattle.sim_code.specs.declared.instr.Instr.TheVariants as i
use Rattle.sim_code.specs.Code.{BlockOf, CodeOf}
use Rattle.sim_code.specs.Outcome.{Going, Normal, Run, World}
use Rattle.sim_chains.specs.Components.{AttachedObject, DetachedObject, NoObject, ResumedObject, Standing, TerminatedObject}
use Rattle.sim_code.specs.declared.stage.Stage.TheVariants as stage
use Rattle.sim_code.specs.Levels.{ended_by_kind, level_ended, outermost_ended, same_stage}
use Rattle.sim_code.specs.Events.{choosing, having, no_rule, stopping, when}
use Rattle.sim_code.specs.Arrays.{giving_back}
use Rattle.sim_code.specs.Instances.{Instance, ended_as, given, is_given_at_end, object_ended}
use Rattle.sim_code.specs.Machine.{Frames, Machine, Value, frames_left, is_nothing, own_block, pushing, same_kind, text_in, with_result, words_of_block}
use Rattle.sim_code.specs.Machine as machine
use Rattle.sim_code.specs.Rows.{on_top}
use Rattle.sim_code.proofs.Lifts.{Both, alike_found, alike_having, alike_no_rule, alike_stopping, alike_ticking}
use Rattle.sim_code.proofs.Simulation.{Alike, ended, going}
use Rattle.sim_meaning.specs.Meaning.{do_item, has_result, instances_left, leaving, text_of, words_of_text, world_left}
use Rattle.sim_meaning.specs.Levels.{has_levels, is_class, text_at}
use Rattle.sim_meaning.specs.Levels as meaning_levels
use Rattle.sim_meaning.specs.Pending.{Activation, Configuration, EndBlock, EndObject, EndPrefixed, EndProcedure, EndProgram, Held, Instances, Item, Result, Val, cell}
use Rattle.sim_meaning.specs.Pending as meaning
use Rattle.sim_meaning.specs.Texts.{BlockText, ClassText, ConnectionText, PrefixedText, ProcedureText, StandardText, Text, is_class_free, text}
use Rattle.sim_meaning.specs.Entries.{first_cells, passes}
use Rattle.codegen_expr.specs.Sites.{HasCell, block_in_front, block_number, block_of_text, cells_in, cells_of_block, frame_text, hidden_in, own_cells, own_part, place_of, prefix_of, slot_of, types_in}
use Rattle.codegen.specs.Agrees.{Agrees}
use Rattle.codegen.specs.Compiled.{Compiled, type_of_name}
use Rattle.sim_relate.proofs.Carried.{all_every, chain_changed, kept_every, parked_changed}
use Rattle.sim_relate.proofs.Frames.{frame_idem, frame_level, stands_same}
use Rattle.sim_relate.proofs.Hands.{stack_length}
use Rattle.sim_relate.proofs.Heads.{given_standings}
use Rattle.sim_relate.proofs.Here.{Here, act, act_owner, at_row}
use Rattle.sim_relate.proofs.ClassLevels.{class_levels}
use Rattle.sim_relate.proofs.ClassTexts.{class_has}
use Rattle.sim_relate.proofs.Reach.{alone, other_numbers}
use Rattle.sim_relate.proofs.Known.{Every, HandAt, Kind, Runs, Stands, ValAt, is_some, more_at, owner_of}
use Rattle.sim_relate.proofs.Relation.{ChainAt, Changed, EndAt, EndIs, IsBase, OutermostEnds, StandingAt, StandingsAt, StateAt, StoreAt, WorkAt}
use Rattle.sim_relate.proofs.Components.{attached_ends, resumed_ends}
use Rattle.sim_relate.proofs.Values.{value_later}
use Rattle.sim_relate.proofs.Waiting.{AValue, GetsIs, NoValue, Wait, gets_any, gets_given, given_by, given_one, kind_by, suspended_by, value_if}
use Rattle.sim_relate.proofs.Stores.{cell_read, frame_number, given_at_end_same, given_long, keeps_given, later_given, never_given, own_levels, store_given, unchanged}

pub chosen : {A : Type 0} (P : A → Type 0) (b : Bool) (x y : A) → b ≡ true → P x → P (if b then x else y)
chosen P true x y e h = h
chosen P false x y e h = absurd (cc)

pub left_out : {A : Type 0} (P : A → Type 0) (b : Bool) (x y : A) → b ≡ false → P y → P (if b then x else y)
left_out P true x y e h = absurd (cc)
left_out P false x y e h = h

-- ---- the text of an instance

pub text_of_is : (m : Instances) (j : ℕ) (x : Instance (List Held)) → slice_get m.instances j ≡ Some x → text_of m j ≡ x.text
text_of_is m j x e = rw e

text_of_own : (m : Instances) (j own : ℕ) → text_at m j ≡ Some own → text_of m j ≡ own
text_of_own m j own e = by (slice_get m.instances j) refl e
  where
    by : (o : Option (Instance (List Held))) → slice_get m.instances j ≡ o → meaning_levels.text_in o ≡ Some own → text_of m j ≡ own
    by None f g = absurd (cc)
    by (Some x) f g = let same : x.text ≡ own = cc (g) in text_of_is m j x f ∙ same

-- what has no levels has nothing in front of it
no_front : (s : Source) → Agrees s → (k : ℕ) → has_levels (text s k) ≡ false → prefix_of s.tables k ≡ None
no_front s agrees k h = by (prefix_of s.tables k) refl
  where
    by : (o : Option ℕ) → prefix_of s.tables k ≡ o → prefix_of s.tables k ≡ None
    by None e = e
    by (Some u) e = let has = (agrees.prefixes k u e).has in absurd (cc (h, has))

-- what has levels is not given back
levels_stay : (x : Option Text) (free : Bool) → has_levels x ≡ true → passes x free ≡ false
levels_stay None free h = absurd (cc)
levels_stay (Some (BlockText begin ds ss)) free h = absurd (cc)
levels_stay (Some (ProcedureText result h' a)) free h = absurd (cc)
levels_stay (Some (ClassText prefix h' ds ss)) free h = refl
levels_stay (Some (PrefixedText class arguments ds ss)) free h = refl
levels_stay (Some ConnectionText) free h = absurd (cc)
levels_stay (Some (StandardText which)) free h = refl

-- the program's block is no class
first_plain : (s : Source) (code : CodeOf) → Compiled s code → is_class (text s 0) ≡ false
first_plain s code compiled = by (is_class (text s 0)) refl
  where
    by : (c : Bool) → is_class (text s 0) ≡ c → is_class (text s 0) ≡ false
    by false e = e
    by true e = let x = class_has s code compiled 0 (class_levels s code compiled 0 e) in absurd (x.not_first (x.of_class e) refl)

-- the words of a text are those of its block
pub words_agree : (s : Source) (code : CodeOf) (t : ℕ) (b : BlockOf) (x : Text) → text s t ≡ Some x → own_cells s t x ≡ first_cells s t x → block_in_front s code t ≡ None → b.cells ≡ cells_of_block (block_in_front s code t) + length (cells_in s t (text s t)) → words_of_text s t (text s t) ≡ words_of_block b
words_agree s code t b x e own front c =
    let none : cells_of_block (block_in_front s code t) ≡ 0 = ap cells_of_block front in
    let count : length (cells_in s t (text s t)) ≡ length (first_cells s t x) = ap (λ z. length (cells_in s t z)) e ∙ ap length own in
    let same : b.cells ≡ length (first_cells s t x) = omega (arith, c, none, count) in
    ap (words_of_text s t) e ∙ ap (λ n. instance_words n false) (sym same)

-- the result of a procedure is the first cell
pub result_slot : (s : Source) (code : CodeOf) (t : ℕ) (type : TypeName) (h : Heading) (a : Statement) → text s t ≡ Some (ProcedureText (Some type) h a) → block_in_front s code t ≡ None → slot_of s code t Result ≡ 0
unfolding slot_of first_cells
result_slot s code t type h a e front =
    let first : place_of Result (own_part s t) ≡ 0 = ap (λ z. place_of Result (cells_in s t z ++ hidden_in s t)) e in
    let start : length (types_in (block_in_front s code t)) ≡ 0 = ap (λ z. length (types_in z)) front in
    omega (arith, first, start)

pub result_there : (s : Source) (t : ℕ) (type : TypeName) (h : Heading) (a : Statement) → text s t ≡ Some (ProcedureText (Some type) h a) → HasCell s t Result
unfolding first_cells
result_there s t type h a e =
    let first : place_of Result (own_part s t) ≡ 0 = ap (λ z. place_of Result (cells_in s t z ++ hidden_in s t)) e in
    let some : 0 < length (cells_in s t (Some (ProcedureText (Some type) h a)) ++ hidden_in s t) = omega arith in
    let more : 0 < length (own_part s t) = subst (λ z. 0 < length (cells_in s t z ++ hidden_in s t)) (sym e) some in
    omega (arith, first, more)

pub is_typed : (type : TypeName) → is_nothing (type_of_name (Some type)) ≡ false
is_typed (type_name.Integer token) = refl
is_typed (type_name.Boolean token) = refl
is_typed (type_name.Character token) = refl
is_typed (type_name.Text token) = refl
is_typed (type_name.Reference token class) = refl

module _ (s : Source) (code : CodeOf) where
  abbrev R : Configuration → Machine → Type 0
  R = StateAt s code

  -- ---- a value for what waits for one

  module _ (m : Instances) (fs : Frames) (y : Activation) (rest : List Activation) (wait : Wait) (x : machine.Activation) (below : List machine.Activation) where
    pub room_given : ChainAt s code m fs (y ∷ rest) wait (x ∷ below) → gets_any wait ≡ true → nat_lt (length x.stack) x.room ≡ true
    room_given c any =
        let n = stack_length c.kinds y.values x.stack c.values in
        let got = gets_given (suspended_by m (owner_of c.block.thunk y.instance)) wait c.gets any c.gets_is in
        let fits = c.fits (ap gets_any got.0 ∙ any) in
        let room = c.room in
        grind (arith, n, fits, room)

    pub chain_given : (v : Val) (z : Value) → ChainAt s code m fs (y ∷ rest) wait (x ∷ below) → gets_any wait ≡ true → HandAt s code m (kind_by wait) v z → ChainAt s code m fs (record { instance = y.instance; work = y.work; values = v ∷ y.values } ∷ rest) NoValue (record x { stack = z ∷ x.stack } ∷ below)
    chain_given v z c any h =
        let got = gets_given (suspended_by m (owner_of c.block.thunk y.instance)) wait c.gets any c.gets_is in
        let kinds : given_by c.gets c.kinds ≡ kind_by wait ∷ c.kinds = ap (λ g. given_by g c.kinds) got.0 ∙ given_one wait c.kinds any in
        record {
          home = c.home;
          text = c.text;
          block = c.block;
          base = c.base;
          found = c.found;
          stands = c.stands;
          own = c.own;
          roomy = c.roomy;
          room = c.room;
          stage = c.stage;
          kinds = kind_by wait ∷ c.kinds;
          values = more_at h c.values;
          gets = NoValue;
          gets_is = subst (λ z. GetsIs z NoValue NoValue) (sym got.1) refl;
          fits = λ no. absurd (cc);
          asked = tt;
          used = c.used;
          goes = subst (λ g. WorkAt s code m fs (λ v. ChainAt s code m fs rest v below) y.instance c.text c.block c.used y.work x.pc g) kinds c.goes;
        }

  -- ---- the stores behind an end

  left_alike : (m : Instances) (fs : Frames) → StoreAt s code m fs → (j : ℕ) (b b' : Bool) → b' ≡ b → Changed s code Every m fs (if b then given m j else m) (if b' then given fs j else fs)
  left_alike m fs a j true true e = record { store = store_given s code m fs a j; later = later_given s m j; keeps = keeps_given s code m fs j; standings = given_standings m j (slice_get m.instances j); frame_standings = given_standings fs j (slice_get fs.instances j); as_many = given_long s m j }
  left_alike m fs a j true false e = absurd (cc)
  left_alike m fs a j false true e = absurd (cc)
  left_alike m fs a j false false e = unchanged s code m fs a

  pub stores_left : (m : Instances) (fs : Frames) → StoreAt s code m fs → (j : ℕ) → Changed s code Every m fs (instances_left j m) (frames_left j fs)
  stores_left m fs a j = left_alike m fs a j (is_given_at_end m j) (is_given_at_end fs j) (sym (given_at_end_same s code m fs a j))

  pub worlds_left : (o : World) (m : Instances) (fs : Frames) → StoreAt s code m fs → (j t : ℕ) (b : BlockOf) → text_of m j ≡ t → words_of_text s t (text s t) ≡ words_of_block b → machine.world_left b j o fs ≡ world_left s j o m
  worlds_left o m fs a j t b is words =
      let same : words_of_block b ≡ words_of_text s (text_of m j) (text s (text_of m j)) = sym words ∙ ap (λ k. words_of_text s k (text s k)) (sym is) in
      ap (λ f. if f then giving_back o j (words_of_block b) else o) (sym (given_at_end_same s code m fs a j)) ∙ ap (λ n. if is_given_at_end m j then giving_back o j n else o) same

  module _ (o : World) (m : Instances) (fs : Frames) (a : StoreAt s code m fs) (parked : StandingsAt s code m fs) (j : ℕ) (b : BlockOf) (worlds : machine.world_left b j o fs ≡ world_left s j o m) where
    chain_left : (rest : List Activation) (v : Wait) (below : List machine.Activation) → ChainAt s code m fs rest v below → ChainAt s code (instances_left j m) (frames_left j fs) rest v below
    chain_left rest v below c = chain_changed s code (stores_left m fs a j) rest (all_every rest) v below c

    parked_left : StandingsAt s code (instances_left j m) (frames_left j fs)
    parked_left = parked_changed s code (stores_left m fs a j) (kept_every m) parked

    in_world : (c : Configuration) (x : Machine) → R c x → Alike R (Going (world_left s j o m) c) (Going (machine.world_left b j o fs) x)
    in_world c x h = subst (λ z. Alike R (Going (world_left s j o m) c) (Going z x)) (sym worlds) (going h)

    -- control goes on below, with no value
    pub leave_still : (rest : List Activation) (below : List machine.Activation) → ChainAt s code m fs rest NoValue below → Alike R (leaving s rest None j o m) (machine.leaving b below None j o fs)
    unfolding leaving machine.leaving
    leave_still [] [] c = alike_no_rule Configuration Machine R o
    leave_still [] (x ∷ below) c = absurd (cc (c.is))
    leave_still (y ∷ rest) [] c = absurd c
    leave_still (y ∷ rest) (x ∷ below) c = in_world _ _ (record { chain = chain_left (y ∷ rest) NoValue (x ∷ below) c; store = (stores_left m fs a j).store; parked = parked_left })

    -- with a value
    pub leave_value : (v : Val) (z : Value) → ValAt s code m v z → (rest : List Activation) (below : List machine.Activation) → ChainAt s code m fs rest AValue below → Alike R (leaving s rest (Some v) j o m) (machine.leaving b below (Some z) j o fs)
    unfolding leaving machine.leaving pushing when
    leave_value v z w [] [] c = alike_no_rule Configuration Machine R o
    leave_value v z w [] (x ∷ below) c = absurd (cc (c.is))
    leave_value v z w (y ∷ rest) [] c = absurd c
    leave_value v z w (y ∷ rest) (x ∷ below) c =
        let k = chain_left (y ∷ rest) AValue (x ∷ below) c in
        let less : nat_lt (length x.stack) x.room ≡ true = room_given (instances_left j m) (frames_left j fs) y rest AValue x below k refl in
        chosen (λ q. Alike R (Going (world_left s j o m) (record { chain = record { instance = y.instance; work = y.work; values = v ∷ y.values } ∷ rest; memory = instances_left j m })) q) (nat_lt (length x.stack) x.room) _ (no_rule o) less
        (in_world _ _ (record { chain = chain_given (instances_left j m) (frames_left j fs) y rest AValue x below v z k refl (value_later s code m (instances_left j m) (stores_left m fs a j).later v z w); store = (stores_left m fs a j).store; parked = parked_left }))

module _ (s : Source) (code : CodeOf) (compiled : Compiled s code) (l : Limits) (o : World) (m : Instances) (inst : ℕ) (w : List Item) (vals : List Val) (rest : List Activation) (fs : Frames) (t : ℕ) (b : Runs) (pc : ℕ) (stack : List Value) (below : List machine.Activation) (ks : List Kind) (here : Here s code m fs inst rest t b ks vals stack) (used : ℕ) where
  abbrev Related : Configuration → Machine → Type 0
  Related = StateAt s code

  abbrev top : machine.Activation
  top = act inst pc stack b

  -- what an end's lemma says
  abbrev pub EndFollows : Item → Type 0
  EndFollows x = EndAt s code (λ v. ChainAt s code m fs rest v below) (frame_text s t) b x w pc ks → Alike Related (do_item s l o m inst w vals rest x) (on_top code l o fs top below)

  number_here : text_in (slice_get fs.instances inst) ≡ Some (block_number s b.own)
  number_here = frame_number s code m fs here.store inst b.own here.own

  -- a text that is no class is the own text of the instance
  own_is : is_class (text s (frame_text s t)) ≡ false → b.own ≡ frame_text s t
  own_is c = alone s compiled.agrees b.own (frame_text s t) c (own_levels s code m fs here.store inst b.own t here.own here.stands)

  text_here : is_class (text s (frame_text s t)) ≡ false → text_of m inst ≡ frame_text s t
  text_here c = text_of_own m inst b.own here.own ∙ own_is c

  front_here : has_levels (text s (frame_text s t)) ≡ false → block_in_front s code (frame_text s t) ≡ None
  unfolding block_in_front
  front_here h = ap (block_of_text s code) (no_front s compiled.agrees (frame_text s t) h)

  frame_own : frame_text s (frame_text s t) ≡ frame_text s t
  frame_own = frame_idem s compiled.agrees t

  frame_stands : Stands s m inst (frame_text s t)
  frame_stands = stands_same s m inst (frame_text s t) t (record { frame = frame_own; level = frame_level s compiled.agrees t }) here.stands

  own_alike : IsBase s code b w → is_class (text s (frame_text s t)) ≡ false → (k : BlockKind) (r : Run Configuration) (go : BlockOf → Run Machine) → same_kind b.block.kind k ≡ true → Alike Related r (go b.block) → Alike Related r (own_block code k fs top o go)
  unfolding own_block when
  own_alike base c k r go e h =
      alike_found Configuration Machine Related ℕ (machine.owner top) inst o r _ (act_owner inst pc stack b base.0)
      (alike_found Configuration Machine Related ℕ (text_in (slice_get fs.instances inst)) (block_number s (frame_text s t)) o r _ (number_here ∙ ap (λ k. Some (block_number s k)) (own_is c))
      (alike_found Configuration Machine Related BlockOf (slice_get code.blocks (block_number s (frame_text s t))) b.block o r _ here.found
      (chosen (λ q. Alike Related r q) (same_kind b.block.kind k) (go b.block) (no_rule o) e h)))

  pub end_block : EndFollows EndBlock
  end_block a =
      let x = a.1 in
      let plain = ap is_class (a.0).is in
      at_row s code l o fs top below _ i.Leave x.at.line x.last x.at.is
      (own_alike x.base plain block_kind.SubBlock _ _ (ap (λ z. same_kind z block_kind.SubBlock) (x.heads).is_kind)
      (leave_still s code o m fs here.store here.parked inst b.block (worlds_left s code o m fs here.store inst (frame_text s t) b.block (text_here plain) (words_agree s code (frame_text s t) b.block _ (a.0).is refl (front_here (ap has_levels (a.0).is)) (x.heads).cells)) rest below x.below))

  result_alike : (r : Run Configuration) (go : Option Value → Run Machine) → is_nothing b.block.result_type ≡ false → Alike Related r (having (machine.cell fs inst 0) o (λ v. go (Some v))) → Alike Related r (with_result b.block fs inst o go)
  unfolding with_result
  result_alike r go e h = left_out (λ q. Alike Related r q) (is_nothing b.block.result_type) (go None) (having (machine.cell fs inst 0) o (λ v. go (Some v))) e h

  no_result_alike : (r : Run Configuration) (go : Option Value → Run Machine) → is_nothing b.block.result_type ≡ true → Alike Related r (go None) → Alike Related r (with_result b.block fs inst o go)
  unfolding with_result
  no_result_alike r go e h = chosen (λ q. Alike Related r q) (is_nothing b.block.result_type) (go None) (having (machine.cell fs inst 0) o (λ v. go (Some v))) e h

  end_typed : (type : TypeName) (h : Heading) (body : Statement) → text s (frame_text s t) ≡ Some (ProcedureText (Some type) h body) → EndIs s code i.Return block_kind.Procedure (type_of_name (Some type)) (frame_text s t) (IsBase s code b w) b.block pc ks (ChainAt s code m fs rest AValue below) → Alike Related (do_item s l o m inst w vals rest (EndProcedure true)) (on_top code l o fs top below)
  end_typed type h body is x =
      at_row s code l o fs top below _ i.Return x.at.line x.last x.at.is
      (own_alike x.base (ap is_class is) block_kind.Procedure _ _ (ap (λ z. same_kind z block_kind.Procedure) (x.heads).is_kind)
      (result_alike _ _ (ap is_nothing (x.heads).gives ∙ is_typed type)
      (alike_having Configuration Machine Related Val Value (ValAt s code m) (cell m inst Result) (machine.cell fs inst 0) o _ _
      (subst (λ c. Both (ValAt s code m) (cell m inst Result) (machine.cell fs inst c)) (result_slot s code (frame_text s t) type h body is (front_here (ap has_levels is))) (cell_read s code m fs inst (frame_text s t) Result here.store frame_stands frame_own (result_there s (frame_text s t) type h body is) refl))
      (λ v z ev ez vz. leave_value s code o m fs here.store here.parked inst b.block (worlds_left s code o m fs here.store inst (frame_text s t) b.block (text_here (ap is_class is)) (words_agree s code (frame_text s t) b.block _ is refl (front_here (ap has_levels is)) (x.heads).cells)) v z vz rest below x.below))))

  end_untyped : (h : Heading) (body : Statement) → text s (frame_text s t) ≡ Some (ProcedureText None h body) → EndIs s code i.Return block_kind.Procedure (type_of_name None) (frame_text s t) (IsBase s code b w) b.block pc ks (ChainAt s code m fs rest NoValue below) → Alike Related (do_item s l o m inst w vals rest (EndProcedure false)) (on_top code l o fs top below)
  end_untyped h body is x =
      at_row s code l o fs top below _ i.Return x.at.line x.last x.at.is
      (own_alike x.base (ap is_class is) block_kind.Procedure _ _ (ap (λ z. same_kind z block_kind.Procedure) (x.heads).is_kind)
      (no_result_alike _ _ (ap is_nothing (x.heads).gives)
      (leave_still s code o m fs here.store here.parked inst b.block (worlds_left s code o m fs here.store inst (frame_text s t) b.block (text_here (ap is_class is)) (words_agree s code (frame_text s t) b.block _ is refl (front_here (ap has_levels is)) (x.heads).cells)) rest below x.below)))

  end_of : (leaves : Bool) (result : Option TypeName) (h : Heading) (body : Statement) → has_result result ≡ leaves → text s (frame_text s t) ≡ Some (ProcedureText result h body) → EndIs s code i.Return block_kind.Procedure (type_of_name result) (frame_text s t) (IsBase s code b w) b.block pc ks (ChainAt s code m fs rest (value_if leaves) below) → Alike Related (do_item s l o m inst w vals rest (EndProcedure leaves)) (on_top code l o fs top below)
  end_of true (Some type) h body e is x = end_typed type h body is x
  end_of false None h body e is x = end_untyped h body is x
  end_of true None h body e is x = absurd (cc)
  end_of false (Some type) h body e is x = absurd (cc)

  pub end_procedure : (leaves : Bool) → EndFollows (EndProcedure leaves)
  end_procedure leaves a = end_of leaves a.result a.heading a.body a.same a.is a.ends

  -- the end of level 0, by the number of the block
  level_alike : b.thunk ≡ None → (r : Run Configuration) → Alike Related r (choosing (block_number s b.own == 0) (stopping Normal o) (outermost_ended code l o fs top below inst (block_number s b.own))) → Alike Related r (machine.index (pos 0) o (λ n. level_ended code l o fs top below n))
  unfolding machine.index
  level_alike base r h =
      alike_found Configuration Machine Related ℕ (machine.number (pos 0)) 0 o r _ refl
      (alike_found Configuration Machine Related ℕ (machine.owner top) inst o _ _ (act_owner inst pc stack b base)
      (alike_found Configuration Machine Related ℕ (text_in (slice_get fs.instances inst)) (block_number s b.own) o _ _ number_here h))

  first_number : b.own ≡ 0 → (block_number s b.own == 0) ≡ true
  unfolding block_number
  first_number e = ap (λ k. block_number s k == 0) e

  pub end_program : EndFollows EndProgram
  unfolding choosing
  end_program a =
      let first : b.own ≡ 0 = own_is (ap (λ k. is_class (text s k)) a.first ∙ first_plain s code compiled) ∙ a.first in
      at_row s code l o fs top below _ (i.EndLevel (pos 0)) a.at.line a.last a.at.is
      (level_alike (a.base).0 _ (chosen (λ q. Alike Related (stopping Normal o) q) (block_number s b.own == 0) (stopping Normal o) _ (first_number first) (alike_stopping Configuration Machine Related Normal o)))

  -- ---- the end of an object

  module _ (p : World) where
    ended_alike : b.thunk ≡ None → (x : Option (Standing Activation)) (y : Option (Standing machine.Activation)) → slice_get m.standings inst ≡ x → Both (StandingAt s code m fs inst) x y → ChainAt s code m fs rest NoValue below → Alike Related (ended_as meaning.owner p m inst rest x) (ended_as machine.owner p fs inst below y)
    ended_alike base None None e b c = ended
    ended_alike base None (Some y) e b c = absurd b
    ended_alike base (Some x) None e b c = absurd b
    ended_alike base (Some AttachedObject) (Some AttachedObject) e b c = attached_ends s code compiled p m fs here.store here.parked inst rest below c e
    ended_alike base (Some ResumedObject) (Some ResumedObject) e b c = resumed_ends s code compiled p m fs here.store here.parked inst rest below c [] vals refl (here.formed [] vals (sym (ap is_some base))) e
    ended_alike base (Some (NoObject None)) (Some (NoObject None)) e b c = ended
    ended_alike base (Some (NoObject (Some x))) (Some (NoObject (Some y))) e b c = ended
    ended_alike base (Some (DetachedObject x)) (Some (DetachedObject y)) e b c = ended
    ended_alike base (Some TerminatedObject) (Some TerminatedObject) e b c = ended
    ended_alike base (Some _) (Some _) e b c = absurd b

  outermost_alike : (kind : BlockKind) (r : Run Configuration) (a : OutermostEnds s code kind b (IsBase s code b w) pc ks (ChainAt s code m fs rest NoValue below)) → Alike Related r (ended_by_kind l o fs below inst a.block kind) → Alike Related r (on_top code l o fs top below)
  unfolding choosing when
  outermost_alike kind r a h =
      let x = a.ends in
      at_row s code l o fs top below _ (i.EndLevel (pos 0)) x.at.line x.last x.at.is
      (level_alike (x.base).0 _ (left_out (λ q. Alike Related r q) (block_number s b.own == 0) (stopping Normal o) _ (other_numbers (block_number s b.own) 0 a.not_first)
      (chosen (λ q. Alike Related r q) (same_stage b.stage (stage.Behind 0)) _ (no_rule o) (ap (λ z. same_stage z (stage.Behind 0)) a.was)
      (alike_found Configuration Machine Related BlockOf (slice_get code.blocks (block_number s b.own)) a.block o r _ a.found
      (subst (λ z. Alike Related r (ended_by_kind l o fs below inst a.block z)) (sym (x.heads).is_kind) h)))))

  pub end_object : EndFollows EndObject
  unfolding object_ended
  end_object a = outermost_alike block_kind.Object _ a (alike_ticking Configuration Machine Related l o _ _ (λ p. ended_alike p ((a.ends).base).0 (slice_get m.standings inst) (slice_get fs.standings inst) refl (here.parked.each inst) a.ends.below))

  -- A prefixed block is never given back, and neither are its words.
  pub end_prefixed : EndFollows EndPrefixed
  end_prefixed a =
      let stays = never_given s code m fs here.store inst b.own here.own (levels_stay (text s b.own) (is_class_free s b.own) a.levels) in
      let frame_stays = sym (given_at_end_same s code m fs here.store inst) ∙ stays in
      outermost_alike block_kind.Prefixed _ a
      (leave_still s code o m fs here.store here.parked inst a.block
      (ap (λ f. if f then giving_back o inst (words_of_block a.block) else o) frame_stays ∙ sym (ap (λ f. if f then giving_back o inst (words_of_text s (text_of m inst) (text s (text_of m inst))) else o) stays)) rest below a.ends.below)

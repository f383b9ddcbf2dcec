-- What entries of all kinds have in common.
use Rattle.std.proofs.Common.{◌≡◌, ◌<◌, ◌≤◌, ◌+◌, ℕ, true, false, List, [], ◌∷◌, ◌++◌, length, map, Option, Some, None, refl, sym, ap, ◌∙◌, subst, arith, length-append}
use Rattle.std.proofs.lemmas.List.{length-map}
use Rattle.sim_meaning.specs.Attributes.{is_connection}
use Rattle.std.proofs.lemmas.Option.{slice_get_within}
use Rattle.std.specs.Prelude.{pos, slice_get}
use Rattle.sim_scope.specs.Access.{around, encloser}
use Rattle.sim_scope.specs.Source.{Source}
use Rattle.sim_scope.specs.Tables.{BlockOf as ScopeOf}
use Rattle.sim_tree.specs.Syntax.{Begin, Block, Prefix}
use Rattle.sim_chains.specs.Components.{Standing}
use Rattle.sim_chains.proofs.Counts.{past}
use Rattle.sim_code.specs.declared.code.BlockKind.{BlockKind}
use Rattle.sim_code.specs.declared.code.CodeType.{CodeType}
use Rattle.sim_code.specs.declared.instr.Lined.{Lined}
use Rattle.sim_code.specs.declared.stage.Stage.{Stage}
use Rattle.sim_code.specs.Code.{BlockOf, CodeOf}
use Rattle.sim_code.specs.Outcome.{Run, World}
use Rattle.sim_code.specs.Events.{having, no_rule, when}
use Rattle.sim_code.specs.Instances.{Instance, entered}
use Rattle.sim_code.specs.Machine.{Cells, Frames, Machine, block_at, first_value, joined, number, same_kind}
use Rattle.sim_code.specs.Machine as machine
use Rattle.sim_code.specs.Rows.{first_stage, program_block}
use Rattle.sim_code.proofs.Lifts.{alike_found, alike_no_rule}
use Rattle.sim_code.proofs.Simulation.{Alike}
use Rattle.sim_meaning.specs.Entries.{new_instance, passes}
use Rattle.sim_meaning.specs.Levels.{has_levels, is_process_class, is_process_itself, is_standard_text, text_in}
use Rattle.sim_meaning.specs.Pending.{Activation, Configuration, Held, Instances, Item, Key, held}
use Rattle.sim_meaning.specs.Texts.{BlockText, ClassText, ConnectionText, PrefixedText, ProcedureText, StandardText, Text, is_class_free, program_texts, text}
use Rattle.codegen_expr.specs.Sites.{HasCell, LevelOf, block_in_front, block_number, block_of_text, cells_in, frame_text, hidden_in, innermost, is_connected, outer, own_part, place_of, prefix_of, slot_of, start_of, types_in}
use Rattle.codegen.specs.Agrees.{Agrees}
use Rattle.codegen.specs.Compiled.{CodeHas, Compiled, RecordOf, TextCode, type_of_cell}
use Rattle.sim_relate.proofs.Carried.{same_owner, all_every, both_later, chain_later, kept_every}
use Rattle.sim_relate.proofs.Chains.{work_below}
use Rattle.sim_relate.proofs.Ends.{chosen, left_out}
use Rattle.sim_relate.proofs.Known.{owner_of, Every, Runs, SlotAt, Stands, is_fixed, none_at}
use Rattle.sim_relate.proofs.Relation.{Bottom, ChainAt, InstanceAt, Laid, StandingAt, StandingsAt, StateAt, StoreAt, WorkAt}
use Rattle.sim_relate.proofs.Waiting.{NoValue, Wait, suspended_by, GetsIs, gives_value, suspended_entered, suspends}
use Rattle.sim_relate.proofs.Slots.{HeldAt, Typed, empty_behind, key_of, types_split}
use Rattle.sim_relate.proofs.Frames.{frame_self}
use Rattle.sim_relate.proofs.Layouts.{cells_by_key, declared_there, hidden_empty}
use Rattle.sim_relate.proofs.LevelCells.{CellsOf}
use Rattle.sim_relate.proofs.Lists.{append_at, append_both, there_get}
use Rattle.sim_relate.proofs.Reach.{same_some}
use Rattle.sim_relate.proofs.Stores.{SameOwners, keeps_entered, later_entered, store_entered}

-- ---- texts and blocks that are there

around_some : (o : Option ScopeOf) (u : ℕ) → around o ≡ Some u → (x : ScopeOf) × (o ≡ Some x)
around_some None u e = absurd (cc)
around_some (Some x) u e = (x, refl)

-- a text that stands in another is there
pub text_there : (s : Source) (k u : ℕ) → Agrees s → encloser s.tables k ≡ Some u → (x : Text) × (text s k ≡ Some x)
unfolding encloser text
text_there s k u a e =
    let x = around_some (slice_get s.tables.blocks k) u e in
    let lt = slice_get_within s.tables.blocks k x.0 x.1 in
    let n = a.as_many in
    let more : k < length (program_texts s.program.prefix s.program.block) = omega (arith, lt, n) in
    there_get (program_texts s.program.prefix s.program.block) k more

-- the first text is that of the program
pub first_text : (p : Option Prefix) (b : Block) → (x : Text) × (slice_get (program_texts p b) 0 ≡ Some x)
first_text None (Begin token ds ss end) = (BlockText token ds ss, refl)
first_text (Some p) (Begin token ds ss end) = (PrefixedText p.class p.arguments ds ss, refl)

-- the block of a text
pub record Coded (s : Source) (code : CodeOf) (k : ℕ) (x : Text) (o : Option BlockOf) : Type 0 where
  pub block : BlockOf
  pub found : o ≡ Some block
  pub has : TextCode s code k x block

coded : (s : Source) (code : CodeOf) (k : ℕ) (x : Text) (o : Option BlockOf) → is_connection (Some x) ≡ false → CodeHas s code k x o → Coded s code k x o
coded s code k ConnectionText o e h = absurd (cc)
coded s code k (BlockText begin ds ss) None e h = absurd h
coded s code k (BlockText begin ds ss) (Some b) e h = record { block = b; found = refl; has = h }
coded s code k _ None e h = absurd h
coded s code k _ (Some b) e h = record { block = b; found = refl; has = h }

pub code_there : (s : Source) (code : CodeOf) → Compiled s code → (k : ℕ) (x : Text) → text s k ≡ Some x → is_connection (Some x) ≡ false → Coded s code k x (slice_get code.blocks (block_number s k))
code_there s code c k x e own = coded s code k x (slice_get code.blocks (block_number s k)) own (c.each k x e)

pub solid_there : (s : Source) → Agrees s → (k : ℕ) (x : Text) → text s k ≡ Some x → is_connection (Some x) ≡ false → is_connected s.tables k ≡ false
solid_there s a k x e own = a.connected k ∙ ap is_connection e ∙ own

-- a text that is no connection has frames of its own
pub frame_there : (s : Source) → Agrees s → (k : ℕ) (x : Text) → text s k ≡ Some x → is_connection (Some x) ≡ false → frame_text s k ≡ k
frame_there s a k x e own = frame_self s a k (a.connected k ∙ ap is_connection e ∙ own)

-- ---- what is below on a chain

module _ (s : Source) (code : CodeOf) where
  pub chain_owners : (m : Instances) (fs : Frames) (chain : List Activation) (v : Wait) (below : List machine.Activation) → ChainAt s code m fs chain v below → SameOwners s code chain below
  chain_owners m fs [] v [] c = tt
  chain_owners m fs [] v (x ∷ below) c = absurd (cc (c.is))
  chain_owners m fs (a ∷ rest) v [] c = absurd c
  chain_owners m fs (a ∷ rest) v (x ∷ below) c =
      let k = work_below s code m fs (λ w. ChainAt s code m fs rest w below) a.instance c.text c.block c.used a.work x.pc _ c.goes in
      (same_owner s code (Bottom s code NoValue) m fs a rest v x below c, chain_owners m fs rest (gives_value a.work) below k)

  -- ---- blocks that are entered

  abbrev R : Configuration → Machine → Type 0
  R = StateAt s code

  pub block_alike : (o : World) (kind : BlockKind) (n : ℕ) (b : BlockOf) → slice_get code.blocks n ≡ Some b → same_kind b.kind kind ≡ true → b.entry < length code.instrs → (r : Run Configuration) (go : ℕ → BlockOf → Lined → Run Machine) → ((x : Lined) → slice_get code.instrs b.entry ≡ Some x → Alike R r (go n b x)) → Alike R r (block_at code kind (pos n) o go)
  unfolding block_at machine.index when
  block_alike o kind n b found is lt r go h =
      let x = there_get code.instrs b.entry lt in
      alike_found Configuration Machine R ℕ (number (pos n)) n o r _ refl
      (alike_found Configuration Machine R BlockOf (slice_get code.blocks n) b o r _ found
      (chosen (λ q. Alike R r q) (same_kind b.kind kind) (having (slice_get code.instrs b.entry) o (λ x. go n b x)) (no_rule o) is
      (alike_found Configuration Machine R Lined (slice_get code.instrs b.entry) x.0 o r _ x.1 (h x.0 x.1))))

  pub program_alike : (o : World) (b : BlockOf) → slice_get code.blocks 0 ≡ Some b → (z : Stage) → first_stage b.kind ≡ Some z → b.entry < length code.instrs → (r : Run Configuration) (go : BlockOf → Stage → Lined → Run Machine) → ((x : Lined) → slice_get code.instrs b.entry ≡ Some x → Alike R r (go b z x)) → Alike R r (program_block code o go)
  program_alike o b found z is lt r go h =
      let x = there_get code.instrs b.entry lt in
      alike_found Configuration Machine R BlockOf (slice_get code.blocks 0) b o r _ found
      (alike_found Configuration Machine R Stage (first_stage b.kind) z o r _ is
      (alike_found Configuration Machine R Lined (slice_get code.instrs b.entry) x.0 o r _ x.1 (h x.0 x.1)))

  pub block_refused : (o : World) (kind : BlockKind) (n : ℕ) (b : BlockOf) → slice_get code.blocks n ≡ Some b → same_kind b.kind kind ≡ false → (go : ℕ → BlockOf → Lined → Run Machine) → Alike R (no_rule o) (block_at code kind (pos n) o go)
  unfolding block_at machine.index when
  block_refused o kind n b found is go =
      alike_found Configuration Machine R ℕ (number (pos n)) n o (no_rule o) _ refl
      (alike_found Configuration Machine R BlockOf (slice_get code.blocks n) b o (no_rule o) _ found
      (left_out (λ q. Alike R (no_rule o) q) (same_kind b.kind kind) (having (slice_get code.instrs b.entry) o (λ x. go n b x)) (no_rule o) is (alike_no_rule Configuration Machine R o)))

  -- ---- new instances

  -- the frame of a block
  abbrev pub new_frame : (number : ℕ) → BlockOf → (parent : Option ℕ) → Cells → Instance Cells
  new_frame n b parent cells = record { text = n; level = b.level; encloser = parent; cells = cells; passing = machine.passes b.kind b.class_free; kept = false; given_back = false }

  -- an instance and its frame, whose cells stand for each other
  pub instance_of : (m : Instances) (k : ℕ) (kind : BlockKind) (result : CodeType) (b : BlockOf) → RecordOf s code k kind result b → slice_get code.blocks (block_number s k) ≡ Some b → passes (text s k) (is_class_free s k) ≡ machine.passes kind (is_class_free s k) → frame_text s k ≡ k → is_connected s.tables k ≡ false → Laid s code k → (e : Option ℕ) (hs : List Held) (cells : Cells) → CellsOf s code m k hs cells → length cells ≡ length b.types
      → InstanceAt s code m (new_instance s k e hs) (new_frame (block_number s k) b e cells)
  instance_of m k kind result b heads found free own solid laid e hs cells at size = record {
    number = refl;
    level = heads.level;
    encloser = refl;
    passing = ap (λ z. machine.passes z b.class_free) heads.is_kind ∙ ap (machine.passes kind) heads.class_free ∙ sym free;
    passes_so = refl;
    kept = refl;
    given_back = refl;
    own = own;
    solid = solid;
    laid = laid;
    cells = at.cells;
    there = at.there;
    size = λ b' f. size ∙ ap (λ z. length (z.types)) (same_some (slice_get code.blocks (block_number s k)) b b' found f);
  }

  -- ---- texts that have no levels

  module _ (agrees : Agrees s) (k : ℕ) (single : has_levels (text s k) ≡ false) where
    no_prefix : prefix_of s.tables k ≡ None
    no_prefix = by (prefix_of s.tables k) refl
      where
        by : (o : Option ℕ) → prefix_of s.tables k ≡ o → prefix_of s.tables k ≡ None
        by None e = e
        by (Some u) e = let has = (agrees.prefixes k u e).has in absurd (cc (has, single))

    pub front_is : block_in_front s code k ≡ None
    unfolding block_in_front
    front_is = ap (block_of_text s code) no_prefix

    slot_is : (key : Key) → slot_of s code k key ≡ place_of key (own_part s k)
    unfolding slot_of
    slot_is key = let none : start_of s code k ≡ 0 = ap (λ z. length (types_in z)) front_is in omega (arith, none)

    only_level : (t : ℕ) → LevelOf s.tables k t → k ≡ t
    only_level t innermost = refl
    only_level t (outer e level) = let none = no_prefix in absurd (cc (e, none))

    -- nor is it `process` itself
    itself : is_process_itself s k ≡ false
    unfolding is_process_itself
    itself = by (text s k) single
      where
        by : (o : Option Text) → has_levels o ≡ false → is_standard_text is_process_class o ≡ false
        by None e = refl
        by (Some (BlockText begin ds ss)) e = refl
        by (Some (ProcedureText result h a)) e = refl
        by (Some (ClassText prefix h ds ss)) e = refl
        by (Some (PrefixedText class arguments ds ss)) e = refl
        by (Some ConnectionText) e = refl
        by (Some (StandardText which)) e = absurd (cc (e))

    cells_alone : (m : Instances) (hs : List Held) (cells : Cells) → HeldAt s code m hs cells → map key_of hs ≡ map key_of (cells_in s k (text s k)) → ((c : ℕ) → length (cells_in s k (text s k)) ≤ c → c < length (own_part s k) → joined (slice_get cells c) ≡ None) → CellsOf s code m k hs cells
    cells_alone m hs cells at keys none = record {
      cells = λ t key level has. (let same = only_level t level in
          subst (λ z. SlotAt s code m (is_fixed s key) key (held key hs) (joined (slice_get cells (slot_of s code z key)))) same
          (subst (λ z. SlotAt s code m (is_fixed s key) key (held key hs) (joined (slice_get cells z))) (sym (slot_is key)) (cells_by_key s agrees k hs keys code m cells at (λ key has f le. none (place_of key (own_part s k)) le has) key (subst (λ z. HasCell s z key) (sym same) has) (λ origin. itself))));
      there = λ t key level has d. declared_there s agrees k hs keys key (subst (λ z. HasCell s z key) (sym (only_level t level)) has) d (λ origin. itself);
    }

    module _ (kind : BlockKind) (result : CodeType) (b : BlockOf) (heads : RecordOf s code k kind result b) where
      flat_types : b.types ≡ map type_of_cell (own_part s k) ++ heads.temps
      flat_types = heads.types ∙ ap (λ z. types_in z ++ (map type_of_cell (own_part s k) ++ heads.temps)) front_is

      split_types : b.types ≡ map type_of_cell (cells_in s k (text s k)) ++ (map type_of_cell (hidden_in s k) ++ heads.temps)
      split_types = flat_types ∙ types_split (cells_in s k (text s k)) (hidden_in s k) heads.temps

      pub first_size : length (machine.first_cells b) ≡ length b.types
      first_size = length-map b.types first_value

      -- what code says of the cells, with what stands behind them
      pub first_typed : machine.first_cells b ≡ Typed s (map type_of_cell (hidden_in s k) ++ heads.temps) (cells_in s k (text s k))
      first_typed = ap (map first_value) split_types

      pub first_none : (c : ℕ) → length (cells_in s k (text s k)) ≤ c → c < length (own_part s k) → joined (slice_get (machine.first_cells b) c) ≡ None
      first_none c le lt = ap (λ z. joined (slice_get (map first_value z) c)) flat_types ∙ empty_behind (cells_in s k (text s k)) (hidden_in s k) heads.temps c (hidden_empty s k itself) le lt

      pub instance_at : (m : Instances) → slice_get code.blocks (block_number s k) ≡ Some b → passes (text s k) (is_class_free s k) ≡ machine.passes kind (is_class_free s k) → frame_text s k ≡ k → is_connected s.tables k ≡ false → Laid s code k → (e : Option ℕ) (hs : List Held) (cells : Cells) → HeldAt s code m hs cells → map key_of hs ≡ map key_of (cells_in s k (text s k)) → length cells ≡ length b.types
          → ((c : ℕ) → length (cells_in s k (text s k)) ≤ c → c < length (own_part s k) → joined (slice_get cells c) ≡ None) → InstanceAt s code m (new_instance s k e hs) (new_frame (block_number s k) b e cells)
      instance_at m found free own solid laid e hs cells at keys size none = instance_of m k kind result b heads found free own solid laid e hs cells (cells_alone m hs cells at keys none) size

  -- ---- a new instance on top

  module _ (m : Instances) (fs : Frames) (a : StoreAt s code m fs) (x : Instance (List Held)) (y : Instance Cells) (p : Standing Activation) (r : Standing machine.Activation) (free : suspends p ≡ None) where
    abbrev pub later_m : Instances
    later_m = entered m x p

    abbrev pub later_fs : Frames
    later_fs = entered fs y r

    pub chain_entered : (chain : List Activation) (v : Wait) (below : List machine.Activation) → ChainAt s code m fs chain v below → ChainAt s code later_m later_fs chain v below
    chain_entered chain v below c = chain_later s code m later_m fs later_fs (later_entered s m x p) Every (keeps_entered s code m fs a.as_many y r) (λ j of. suspended_entered m x p free j) chain (all_every chain) v below c

    pub parked_entered : StandingAt s code later_m later_fs (length m.instances) p r → StandingsAt s code m fs → StandingsAt s code later_m later_fs
    parked_entered new old = record {
      each =
          append_both (StandingAt s code later_m later_fs) m.standings fs.standings p r
          (λ j. both_later s code m later_m fs later_fs (later_entered s m x p) Every (keeps_entered s code m fs a.as_many y r) (λ j of. suspended_entered m x p free j) j (slice_get m.standings j) (slice_get fs.standings j) (λ z is. kept_every m j z is) (old.each j))
          (subst (λ n. StandingAt s code later_m later_fs n p r) (sym old.counted) new);
      counted = length-append m.standings (p ∷ []) ∙ ap (λ n. n + 1) old.counted ∙ sym (length-append m.instances (x ∷ []));
    }

    pub enters : StandingsAt s code later_m later_fs → (chain : List Activation) (below : List machine.Activation) (k : ℕ) (b : Runs) → b.thunk ≡ None → InstanceAt s code m x y → slice_get code.blocks (block_number s (frame_text s k)) ≡ Some b.block → Stands s later_m (length m.instances) k → Stands s later_m (length m.instances) x.text → x.text ≡ b.own → b.limit ≤ b.room → (w : List Item) (used pc : ℕ)
        → WorkAt s code later_m later_fs (λ v. ChainAt s code later_m later_fs chain v below) (length m.instances) k b used w pc []
        → R (record { chain = record { instance = length m.instances; work = w; values = [] } ∷ chain; memory = later_m }) (record { chain = record { thunk = None; home = length fs.instances; pc = pc; stack = []; room = b.room; stage = b.stage } ∷ below; memory = later_fs })
    enters parked chain below k b base pair found stands own is_own roomy w used pc work = record {
      chain = record {
        home = sym a.as_many;
        text = k;
        block = b;
        base = sym base;
        found = found;
        stands = stands;
        own = ap text_in (append_at m.instances x) ∙ ap Some is_own;
        roomy = roomy;
        room = refl;
        stage = refl;
        kinds = [];
        values = none_at;
        gets = NoValue;
        gets_is = subst (λ z. GetsIs z NoValue NoValue) (sym none_waits) refl;
        fits = λ no. absurd (cc);
        asked = tt;
        used = used;
        goes = work;
      };
      store = store_entered s code m fs a x y p r pair own;
      parked = parked;
    }
      where
        -- a new instance waits for no main component
        none_waits : suspended_by later_m (owner_of b.thunk (length m.instances)) ≡ None
        none_waits =
            let one = length-append m.standings (p ∷ []) in
            let other = length-append m.instances (x ∷ []) in
            let counted = parked.counted in
            ap (λ z. suspended_by later_m (owner_of z (length m.instances))) base ∙ suspended_entered m x p free (length m.instances) ∙ ap suspends (past m.standings (length m.instances) (omega (arith, one, other, counted)))

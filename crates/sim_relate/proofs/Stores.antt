-- Both stores alike: reading, writing, entries, ends, and instances that are kept.
use Rattle.std.proofs.Common.{◌≡◌, ◌≢◌, ◌⊎◌, inl, inr, ℕ, zero, suc, ◌+◌, ◌<◌, ◌≤◌, List, [], ◌∷◌, ◌++◌, length, Option, Some, None, Bool, true, false, ⊎_elim, refl, sym, ap, ◌∙◌, subst, arith, length-append}
use Rattle.std.proofs.lemmas.Bool.{cases_eq}
use Rattle.std.proofs.lemmas.List.{length-set}
use Rattle.std.proofs.lemmas.Option.{slice_get_within}
use Rattle.std.specs.Prelude.{◌==◌, ◌&&◌, not, if◌then◌else◌, nat_lt, slice_get, slice_set}
use Rattle.sim_chains.specs.Components.{Standing}
use Rattle.sim_scope.specs.Access.{encloser}
use Rattle.sim_scope.specs.Source.{Source, level_of}
use Rattle.sim_code.specs.Code.{BlockOf, CodeOf}
use Rattle.sim_code.specs.Instances.{Instance, at_level, cells_in as cells_of_live, cells_put, ends_in, entered, found_at, given, given_in, is_given_at_end, is_live, is_live_in, kept_at, kept_further, kept_on, level_within, live, outward, unless_given, with_instance}
use Rattle.sim_code.specs.Machine.{Cells, Frames, Value, joined}
use Rattle.sim_code.specs.Machine as machine
use Rattle.sim_code.proofs.Lifts.{Both}
use Rattle.sim_meaning.specs.Entries.{passes}
use Rattle.sim_meaning.specs.Levels.{text_at, text_in}
use Rattle.sim_meaning.specs.Pending.{Activation, Held, Instances, Key, Val, held, same_key}
use Rattle.sim_meaning.specs.Pending as meaning
use Rattle.sim_meaning.specs.Sane.{Lives, Other}
use Rattle.sim_meaning.specs.Texts.{is_class_free, text}
use Rattle.codegen_expr.specs.Sites.{HasCell, LevelOf, block_number, expression_temps, frame_text, innermost, own_end, place_of, slot_of}
use Rattle.sim_relate.proofs.Frames.{bool_cases}
use Rattle.sim_relate.proofs.Heads.{Heads, Same, both_found, both_heads, entered_same, given_both, given_same, heads_refl, is_live_at, kept_same, later_all, later_heads, later_itself, set_self}
use Rattle.sim_relate.proofs.Layouts.{less_or}
use Rattle.sim_relate.proofs.Lists.{append_at, append_before, append_both, both_as, same_length, set_both, set_other, set_same, there_get}
use Rattle.sim_relate.proofs.Living.{lives_now}
use Rattle.sim_relate.proofs.Reach.{if_true, is_there, same_some}
use Rattle.sim_relate.proofs.Known.{Low, Every, InTemps, IsTemp, Keeps, Later, Rooted, Runs, SlotAt, Stands, ValAt, fixed_value, inside, is_declared, is_fixed, outermost, placed, placed_in, unenclosed}
use Rattle.sim_relate.proofs.Relation.{Changed, InstanceAt, StoreAt}
use Rattle.sim_relate.proofs.Values.{instance_later, pair_later}
use Rattle.sim_relate.proofs.Slots.{less_true, put_in, same_is, same_self, set_in}

-- ---- frames after a value is put into a cell of one of them

module _ (fs : Frames) (j : ℕ) (y : Instance Cells) (lives : live fs j ≡ Some y) (c : ℕ) (v : Value) where
  abbrev frame_put : Instance Cells
  frame_put = record y { cells = slice_set y.cells c (Some v) }

  abbrev frames_put : Frames
  frames_put = with_instance fs j frame_put

  frame_set : c < length y.cells → machine.cell_set fs j c v ≡ Some frames_put
  frame_set fits =
      ap (λ z. cells_put fs j z (machine.put_in (cells_of_live z) c v)) lives ∙
      ap (cells_put fs j (Some y)) (if_true (nat_lt c (length y.cells)) (Some (slice_set y.cells c (Some v))) None (less_true c (length y.cells) fits))

  frame_there : slice_get fs.instances j ≡ Some y
  frame_there = (is_live_at (slice_get fs.instances j) y lives).there

  put_here : (d : ℕ) → placed frames_put j d ≡ joined (slice_get (slice_set y.cells c (Some v)) d)
  put_here d = ap (λ z. placed_in z d) (set_same fs.instances j y frame_put frame_there)

  placed_other : (k d : ℕ) → (k ≡ j → d ≢ c) → placed frames_put k d ≡ placed fs k d
  placed_other k d apart =
      ⊎_elim
      (λ same.
      ap (λ z. placed frames_put z d) same ∙ put_here d ∙ ap joined (set_other y.cells c d (Some v) (apart same)) ∙ sym (ap (λ z. placed_in z d) frame_there) ∙ ap (λ z. placed fs z d) (sym same))
      (λ other. ap (λ z. placed_in z d) (set_other fs.instances j k frame_put other))
      (cases_eq k j)

  placed_holds : c < length y.cells → placed frames_put j c ≡ Some v
  placed_holds fits = let x = there_get y.cells c fits in put_here c ∙ ap joined (set_same y.cells c x.0 (Some v) x.1)

-- ---- both stores

-- behind a temp that is taken
pub low_behind : (s : Source) (code : CodeOf) (t : ℕ) (b : Runs) (u temp : ℕ) → b.thunk ≡ None → Low s code t b u → own_end s code (frame_text s t) + expression_temps ≤ temp → Low s code t b (suc temp)
low_behind s code t b u temp frame low behind = record { low = omega (arith, behind); temps = low.temps; full = λ n e. absurd (cc (e, frame)) }

-- a temp of statements is one of the temps
in_temps : (s : Source) (code : CodeOf) (u c : ℕ) (b : BlockOf) → IsTemp s code u c b → InTemps s code u c b
in_temps s code u c b a = let behind = a.behind in record { behind = omega (arith, behind); within = a.within }

module _ (s : Source) (code : CodeOf) where
  pub instance_kept : {m : Instances} {x : Instance (List Held)} {y : Instance Cells} → InstanceAt s code m x y → InstanceAt s code m (record x { kept = true }) (record y { kept = true })
  instance_kept a = record { number = a.number; level = a.level; encloser = a.encloser; passing = a.passing; passes_so = a.passes_so; kept = refl; given_back = a.given_back; own = a.own; solid = a.solid; laid = a.laid; cells = a.cells; there = a.there; size = a.size }

  pub instance_given : {m : Instances} {x : Instance (List Held)} {y : Instance Cells} → InstanceAt s code m x y → InstanceAt s code m (record x { given_back = true }) (record y { given_back = true })
  instance_given a = record { number = a.number; level = a.level; encloser = a.encloser; passing = a.passing; passes_so = a.passes_so; kept = a.kept; given_back = refl; own = a.own; solid = a.solid; laid = a.laid; cells = a.cells; there = a.there; size = a.size }

  -- each instance still stands for its own text
  all_heads : (m m' : Instances) → ((k : ℕ) → Both Heads (slice_get m.instances k) (slice_get m'.instances k)) → ((j : ℕ) (x : Instance (List Held)) → slice_get m.instances j ≡ Some x → Stands s m j x.text) → (j : ℕ) (x : Instance (List Held)) → slice_get m'.instances j ≡ Some x → Stands s m' j x.text
  all_heads m m' both all j x e = back (slice_get m.instances j) refl (subst (λ z. Both Heads (slice_get m.instances j) z) e (both j))
    where
      back : (o : Option (Instance (List Held))) → slice_get m.instances j ≡ o → Both Heads (slice_get m.instances j) (Some x) → Stands s m' j x.text
      back None eo b = absurd (subst (λ z. Both Heads z (Some x)) eo b)
      back (Some y) eo b =
          let h : Heads y x = subst (λ z. Both Heads z (Some x)) eo b in
          subst (λ z. Stands s m' j z) (sym h.text) ((later_all s m m' both).stands j y.text (all j y eo))

  pub store_put : {m : Instances} {fs : Frames} → StoreAt s code m fs → (j : ℕ) (old x : Instance (List Held)) (y : Instance Cells) → slice_get m.instances j ≡ Some old → Heads old x → InstanceAt s code m x y → StoreAt s code (with_instance m j x) (with_instance fs j y)
  store_put {m} {fs} a j old x y there h p =
      let both : (k : ℕ) → Both Heads (slice_get m.instances k) (slice_get (with_instance m j x).instances k) = λ k. set_self Heads heads_refl m.instances j old x there h k in
      let later = later_all s m (with_instance m j x) both in
      record {
        as_many = length-set m.instances j x ∙ a.as_many ∙ sym (length-set fs.instances j y);
        at = set_both (λ k. InstanceAt s code (with_instance m j x)) m.instances fs.instances j x y (λ k. pair_later s code m (with_instance m j x) later (slice_get m.instances k) (slice_get fs.instances k) (a.at k)) (instance_later s code m (with_instance m j x) later x y p);
        all = all_heads m (with_instance m j x) both a.all;
      }

  slot_both : (m : Instances) (f : Bool) (key : Key) (v : Option Val) (c : Option Value) → f ≡ false → SlotAt s code m f key v c → Both (ValAt s code m) v c
  slot_both m true key v c e a = absurd (cc)
  slot_both m false key v c e a = a

  module _ (m : Instances) (fs : Frames) (a : StoreAt s code m fs) where
    pub live_pair : (j : ℕ) → Both (InstanceAt s code m) (live m j) (live fs j)
    live_pair j = given_both (InstanceAt s code m) (λ x y i. i.given_back) (slice_get m.instances j) (slice_get fs.instances j) (a.at j)

    -- an instance that stands for a text, and its frame
    pub record Framed (j t : ℕ) : Type 0 where
      pub now : Instance (List Held)
      pub lives : live m j ≡ Some now
      pub frame : Instance Cells
      pub frame_lives : live fs j ≡ Some frame
      pub pair : InstanceAt s code m now frame
      pub of_levels : LevelOf s.tables now.text (frame_text s t)

    pub framed : {j t : ℕ} → Stands s m j t → (now : Instance (List Held)) → live m j ≡ Some now → Framed j t
    framed {j} {t} st now lives =
        let x = is_there s m st in
        let same : x.now ≡ now = same_some (slice_get m.instances j) x.now now x.is (is_live_at (slice_get m.instances j) now lives).there in
        let y = both_found (InstanceAt s code m) (live m j) (live fs j) now lives (live_pair j) in
        record { now = now; lives = lives; frame = y.it; frame_lives = y.is; pair = y.related; of_levels = subst (λ z. LevelOf s.tables z.text (frame_text s t)) same x.levels }

    -- its level
    level_is : (j t : ℕ) (f : Framed j t) → frame_text s t ≡ t → LevelOf s.tables f.now.text t
    level_is j t f own = subst (LevelOf s.tables f.now.text) own f.of_levels

    -- the slot of a cell is one of the frame
    slot_fits : (j t : ℕ) (key : Key) (f : Framed j t) → LevelOf s.tables f.now.text t → HasCell s t key → slot_of s code t key < length f.frame.cells
    slot_fits j t key f level has =
        let p = f.pair in
        let b = (p.laid).block in
        let fits = (p.laid).fits t key b.0 level has b.1 in
        let size = p.size b.0 b.1 in
        omega (arith, fits, size)

    -- reading a cell
    cell_live_read : (j t : ℕ) (key : Key) → Framed j t → frame_text s t ≡ t → HasCell s t key → is_fixed s key ≡ false → Both (ValAt s code m) (meaning.cell m j key) (machine.cell fs j (slot_of s code t key))
    cell_live_read j t key f own has varies =
        both_as (ValAt s code m) (held key f.now.cells) (meaning.cell m j key) (joined (slice_get f.frame.cells (slot_of s code t key))) (machine.cell fs j (slot_of s code t key))
        (ap (λ z. meaning.value_in (cells_of_live z) key) f.lives)
        (ap (λ z. machine.value_in (cells_of_live z) (slot_of s code t key)) f.frame_lives)
        (slot_both m (is_fixed s key) key _ _ varies ((f.pair).cells t key (level_is j t f own) has))

    -- of an instance that was given back neither side has cells
    pub cell_here_read : (j t : ℕ) (key : Key) → Stands s m j t → frame_text s t ≡ t → HasCell s t key → is_fixed s key ≡ false → Both (ValAt s code m) (meaning.cell m j key) (machine.cell fs j (slot_of s code t key))
    cell_here_read j t key st own has varies = read_pair (live m j) (live fs j) refl refl (live_pair j)
      where
        read_pair : (x : Option (Instance (List Held))) (y : Option (Instance Cells)) → live m j ≡ x → live fs j ≡ y → Both (InstanceAt s code m) x y → Both (ValAt s code m) (meaning.cell m j key) (machine.cell fs j (slot_of s code t key))
        read_pair None None ex ey p = both_as (ValAt s code m) None (meaning.cell m j key) None (machine.cell fs j (slot_of s code t key)) (ap (λ z. meaning.value_in (cells_of_live z) key) ex) (ap (λ z. machine.value_in (cells_of_live z) (slot_of s code t key)) ey) tt
        read_pair None (Some y) ex ey p = absurd p
        read_pair (Some x) None ex ey p = absurd p
        read_pair (Some x) (Some y) ex ey p = cell_live_read j t key (framed st x ex) own has varies

    -- what a constant's cell holds, if it is there
    pub fixed_read : (j t : ℕ) (key : Key) → Stands s m j t → frame_text s t ≡ t → HasCell s t key → is_fixed s key ≡ true → (meaning.cell m j key ≡ None) ⊎ (meaning.cell m j key ≡ fixed_value s key)
    unfolding framed
    fixed_read j t key st own has fixed = read_one (live m j) refl
      where
        fixed_slot : (f : Bool) (v : Option Val) (c : Option Value) → f ≡ true → SlotAt s code m f key v c → (v ≡ None) ⊎ (v ≡ fixed_value s key)
        fixed_slot true v c e a = a
        fixed_slot false v c e a = absurd (cc)

        read_one : (x : Option (Instance (List Held))) → live m j ≡ x → (meaning.cell m j key ≡ None) ⊎ (meaning.cell m j key ≡ fixed_value s key)
        read_one None ex = inl (ap (λ z. meaning.value_in (cells_of_live z) key) ex)
        read_one (Some x) ex =
            let f = framed st x ex in
            let there : meaning.cell m j key ≡ held key x.cells = ap (λ z. meaning.value_in (cells_of_live z) key) ex in
            ⊎_elim (λ e. inl (there ∙ e)) (λ e. inr (there ∙ e)) (fixed_slot (is_fixed s key) (held key x.cells) _ fixed ((f.pair).cells t key (subst (LevelOf s.tables x.text) own f.of_levels) has))

    -- writing a cell
    record Wrote (o : Option Instances) (j t : ℕ) (key : Key) (y : Value) : Type 0 where
      now : Instances
      frames : Frames
      is : o ≡ Some now
      is_frames : machine.cell_set fs j (slot_of s code t key) y ≡ Some frames
      changed : Changed s code Every m fs now frames

    -- other cells of an instance: one has another value, and all others are as they were
    module _ (j t : ℕ) (key : Key) (v : Val) (y : Value) (st : Stands s m j t) (f : Framed j t) (own : frame_text s t ≡ t) (has : HasCell s t key) (varies : is_fixed s key ≡ false) (w : ValAt s code m v y) (cells : List Held) (here : held key cells ≡ Some v) (others : (k : Key) → same_key key k ≡ false → held k cells ≡ held k f.now.cells) (stay : (k : Key) → place_of k f.now.cells < length f.now.cells → place_of k cells < length cells) where
      abbrev slot : ℕ
      slot = slot_of s code t key

      abbrev new : Instance (List Held)
      new = record f.now { cells = cells }

      abbrev new_frame : Instance Cells
      new_frame = frame_put fs j f.frame f.frame_lives slot y

      levelled : LevelOf s.tables f.now.text t
      levelled = level_is j t f own

      fits : slot < length f.frame.cells
      fits = slot_fits j t key f levelled has

      slot_written : (f2 : Bool) (k : Key) → f2 ≡ false → (a : Option Val) (c : Option Value) → a ≡ Some v → c ≡ Some y → SlotAt s code m f2 k a c
      slot_written true k e a c ea ec = absurd (cc)
      slot_written false k e a c ea ec = subst (λ z. Both (ValAt s code m) z c) (sym ea) (subst (λ z. Both (ValAt s code m) (Some v) z) (sym ec) w)

      cells_then : (u : ℕ) (k : Key) → LevelOf s.tables f.now.text u → HasCell s u k → SlotAt s code m (is_fixed s k) k (held k cells) (joined (slice_get (slice_set f.frame.cells slot (Some y)) (slot_of s code u k)))
      cells_then u k levels hask =
          bool_cases (same_key key k)
          (λ e. let same : key ≡ k = same_is key k e in
          let texts : t ≡ u = ((f.pair).laid).one_level t u k levelled levels (subst (HasCell s t) same has) hask in
          let place : slot_of s code u k ≡ slot = sym (ap (λ z. slot_of s code z k) texts) ∙ sym (ap (slot_of s code t) same) in
          let x = there_get f.frame.cells slot fits in
          slot_written (is_fixed s k) k (ap (is_fixed s) (sym same) ∙ varies) _ _ (ap (λ z. held z cells) (sym same) ∙ here) (ap (λ c. joined (slice_get (slice_set f.frame.cells slot (Some y)) c)) place ∙ ap joined (set_same f.frame.cells slot x.0 (Some y) x.1)))
          (λ e. let apart : slot_of s code u k ≢ slot = λ at. (let same : key ≡ k = ((f.pair).laid).one_key t u key k levelled levels has hask (sym at) in let yes : same_key key k ≡ true = ap (same_key key) (sym same) ∙ same_self key in let no : ⊥ = absurd (cc (e, yes)) in no) in
          subst (λ z. SlotAt s code m (is_fixed s k) k z (joined (slice_get (slice_set f.frame.cells slot (Some y)) (slot_of s code u k)))) (sym (others k e))
          (subst (λ z. SlotAt s code m (is_fixed s k) k (held k f.now.cells) (joined z)) (sym (set_other f.frame.cells slot (slot_of s code u k) (Some y) apart)) ((f.pair).cells u k levels hask)))

      pair_then : InstanceAt s code m new new_frame
      pair_then =
          let p = f.pair in
          let long = length-set f.frame.cells slot (Some y) in
          record {
            number = p.number;
            level = p.level;
            encloser = p.encloser;
            passing = p.passing;
            passes_so = p.passes_so;
            kept = p.kept;
            given_back = p.given_back;
            own = p.own;
            solid = p.solid;
            laid = p.laid;
            cells = cells_then;
            there = λ u k levels hask d. stay k (p.there u k levels hask d);
            size = λ b e. long ∙ p.size b e;
          }

      -- no temp of the instance is the cell's slot
      past : (u c : ℕ) (b : BlockOf) → Stands s m j u → slice_get code.blocks (block_number s (frame_text s u)) ≡ Some b → IsTemp s code u c b → c ≢ slot
      past u c b stands found temp e =
          let x = is_there s m stands in
          let same : x.now ≡ f.now = same_some (slice_get m.instances j) x.now f.now x.is (is_live_at (slice_get m.instances j) f.now f.lives).there in
          let levels : LevelOf s.tables f.now.text (frame_text s u) = subst (λ z. LevelOf s.tables z.text (frame_text s u)) same x.levels in
          ((f.pair).laid).apart t u c key b levelled levels has found (in_temps s code u c b temp) (sym e)

      changed_then : Changed s code Every m fs (with_instance m j new) (frames_put fs j f.frame f.frame_lives slot y)
      changed_then =
          let there = is_live_at (slice_get m.instances j) f.now f.lives in
          let heads : Heads f.now new = record { text = refl; level = refl; encloser = refl } in
          record {
            store = store_put a j f.now new new_frame there.there heads pair_then;
            standings = refl;
            frame_standings = refl;
            as_many = length-set m.instances j new;
            later = later_all s m (with_instance m j new) (λ k. set_self Heads heads_refl m.instances j f.now new there.there heads k);
            keeps = record {
              temps = λ k u c b _ stands found temp.
                  placed_other fs j f.frame f.frame_lives slot y k c
                  (λ same. past u c b (subst (λ z. Stands s m z u) same stands) found temp);
            };
          }

    store_write : (j t : ℕ) (key : Key) (v : Val) (y : Value) → Stands s m j t → Framed j t → frame_text s t ≡ t → HasCell s t key → is_fixed s key ≡ false → is_declared key ≡ true → ValAt s code m v y → Wrote (meaning.cell_set m j key v) j t key y
    store_write j t key v y st f own has varies declared w =
        let is = level_is j t f own in
        let there = (f.pair).there t key is has declared in
        let x = set_in key v f.now.cells there in
        record {
          now = with_instance m j (record f.now { cells = x.now });
          frames = frames_put fs j f.frame f.frame_lives (slot_of s code t key) y;
          is = ap (λ z. cells_put m j z (meaning.put_in (cells_of_live z) key v)) f.lives ∙ ap (cells_put m j (Some f.now)) x.is;
          is_frames = frame_set fs j f.frame f.frame_lives (slot_of s code t key) y (slot_fits j t key f is has);
          changed = changed_then j t key v y st f own has varies w x.now x.here x.others (λ k lt. let e = x.places k in let n = x.long in omega (arith, lt, e, n));
        }

    -- a cell that need not have been there
    store_made : (j t : ℕ) (key : Key) (v : Val) (y : Value) → Stands s m j t → Framed j t → frame_text s t ≡ t → HasCell s t key → is_fixed s key ≡ false → ValAt s code m v y → Wrote (meaning.cell_made m j key v) j t key y
    store_made j t key v y st f own has varies w =
        let is = level_is j t f own in
        let x = put_in key v f.now.cells in
        record {
          now = with_instance m j (record f.now { cells = meaning.held_put key v f.now.cells });
          frames = frames_put fs j f.frame f.frame_lives (slot_of s code t key) y;
          is = ap (λ z. cells_put m j z (meaning.made_in (cells_of_live z) key v)) f.lives;
          is_frames = frame_set fs j f.frame f.frame_lives (slot_of s code t key) y (slot_fits j t key f is has);
          changed = changed_then j t key v y st f own has varies w (meaning.held_put key v f.now.cells) x.here x.others x.stay;
        }

    -- what lies in the frame of an instance that lives is in its cells
    pub placed_here : (j c : ℕ) → Lives m j → machine.cell fs j c ≡ placed fs j c
    placed_here j c lives =
        let now = lives_now m j lives in
        let y = both_found (InstanceAt s code m) (live m j) (live fs j) now.0 now.1 (live_pair j) in
        ap (λ z. placed_in z c) (y.is ∙ sym (is_live_at (slice_get fs.instances j) y.it y.is).there)

    -- writing a temp
    set_right : (P : Instance (List Held) → Instance Cells → Type 0) (xs : List (Instance (List Held))) (ys : List (Instance Cells)) (j : ℕ) (x : Instance (List Held)) (y : Instance Cells) → ((k : ℕ) → Both P (slice_get xs k) (slice_get ys k)) → slice_get xs j ≡ Some x → P x y → (k : ℕ) → Both P (slice_get xs k) (slice_get (slice_set ys j y) k)
    set_right P [] [] j x y all e p k = tt
    set_right P [] (b ∷ ys) j x y all e p k = absurd (all 0)
    set_right P (b ∷ xs) [] j x y all e p k = absurd (all 0)
    set_right P (b ∷ xs) (c ∷ ys) zero x y all e p zero = let same : b ≡ x = cc in subst (λ z. P z y) (sym same) p
    set_right P (b ∷ xs) (c ∷ ys) zero x y all e p (suc k) = all (suc k)
    set_right P (b ∷ xs) (c ∷ ys) (suc j) x y all e p zero = all 0
    set_right P (b ∷ xs) (c ∷ ys) (suc j) x y all e p (suc k) = set_right P xs ys j x y (λ k. all (suc k)) e p k

    -- temps of statements are as they were, but maybe those of some instances
    record WroteTemp (Of : ℕ → Type 0) (j temp : ℕ) (y : Value) : Type 0 where
      frames : Frames
      is : machine.cell_set fs j temp y ≡ Some frames
      changed : Changed s code Of m fs m frames
      holds : placed frames j temp ≡ Some y
      others : (c : ℕ) → c ≢ temp → placed frames j c ≡ placed fs j c

    store_temp : (Of : ℕ → Type 0) (j t temp : ℕ) (y : Value) (b : BlockOf) → Framed j t → slice_get code.blocks (block_number s (frame_text s t)) ≡ Some b → InTemps s code t temp b → ((u c : ℕ) (z : BlockOf) → Of j → Stands s m j u → slice_get code.blocks (block_number s (frame_text s u)) ≡ Some z → IsTemp s code u c z → c ≢ temp) → WroteTemp Of j temp y
    store_temp Of j t temp y b f found in_temps apart =
        let p = f.pair in
        let cs = f.frame.cells in
        let whole = (p.laid).block in
        let size = p.size whole.0 whole.1 in
        let longer = (p.laid).longer (frame_text s t) b whole.0 f.of_levels found whole.1 in
        let within = in_temps.within in
        let lt : temp < length cs = omega (arith, within, size, longer) in
        let new : Instance Cells = frame_put fs j f.frame f.frame_lives temp y in
        let long = length-set cs temp (Some y) in
        let pair : InstanceAt s code m f.now new = record {
          number = p.number;
          level = p.level;
          encloser = p.encloser;
          passing = p.passing;
          passes_so = p.passes_so;
          kept = p.kept;
          given_back = p.given_back;
          own = p.own;
          solid = p.solid;
          laid = p.laid;
          cells = λ u k levels hask. subst (λ z. SlotAt s code m (is_fixed s k) k (held k f.now.cells) (joined z)) (sym (set_other cs temp (slot_of s code u k) (Some y) ((p.laid).apart u t temp k b levels f.of_levels hask found in_temps))) (p.cells u k levels hask);
          there = p.there;
          size = λ b e. long ∙ p.size b e;
        } in
        let there = is_live_at (slice_get m.instances j) f.now f.lives in
        let others = placed_other fs j f.frame f.frame_lives temp y in
        record {
          frames = frames_put fs j f.frame f.frame_lives temp y;
          is = frame_set fs j f.frame f.frame_lives temp y lt;
          changed = record {
            store = record { as_many = a.as_many ∙ sym (length-set fs.instances j new); at = set_right (InstanceAt s code m) m.instances fs.instances j f.now new a.at there.there pair; all = a.all };
            later = later_itself s m;
            keeps = record { temps = λ k u c z of st found temp. others k c (λ same. apart u c z (subst Of same of) (subst (λ i. Stands s m i u) same st) found temp) };
            standings = refl;
            frame_standings = refl;
            as_many = refl;
          };
          holds = placed_holds fs j f.frame f.frame_lives temp y lt;
          others = λ c apart. others j c (λ _. apart);
        }

    -- no temp of the statements of an instance is one of its expressions
    scratch_apart : (j t temp : ℕ) (b : BlockOf) → Framed j t → slice_get code.blocks (block_number s (frame_text s t)) ≡ Some b → own_end s code (frame_text s t) ≤ temp → temp < own_end s code (frame_text s t) + expression_temps → temp < length b.types → (u c : ℕ) (z : BlockOf) → Stands s m j u → slice_get code.blocks (block_number s (frame_text s u)) ≡ Some z → IsTemp s code u c z → c ≢ temp
    scratch_apart j t temp b f found low high within u c z st there is_temp e =
        let x = is_there s m st in
        let same : x.now ≡ f.now = same_some (slice_get m.instances j) x.now f.now x.is (is_live_at (slice_get m.instances j) f.now f.lives).there in
        let levels : LevelOf s.tables f.now.text (frame_text s u) = subst (λ z. LevelOf s.tables z.text (frame_text s u)) same x.levels in
        ((f.pair).laid).temps_apart t u temp c b z f.of_levels levels found there low high within is_temp (sym e)

    -- ---- texts

    -- an instance stands for its own text
    pub own_stands : (j own : ℕ) → text_at m j ≡ Some own → Stands s m j own
    own_stands j own e = by_text (slice_get m.instances j) refl e
      where
        by_text : (o : Option (Instance (List Held))) → slice_get m.instances j ≡ o → text_in o ≡ Some own → Stands s m j own
        by_text None eo e = absurd (cc)
        by_text (Some x) eo e = let same : x.text ≡ own = cc in subst (Stands s m j) same (a.all j x eo)

    own_numbers : (own : ℕ) (x : Option (Instance (List Held))) (y : Option (Instance Cells)) → Both (InstanceAt s code m) x y → text_in x ≡ Some own → machine.text_in y ≡ Some (block_number s own)
    own_numbers own None None b e = absurd (cc)
    own_numbers own None (Some y) b e = absurd b
    own_numbers own (Some x) None b e = absurd b
    own_numbers own (Some x) (Some y) b e = let same : x.text ≡ own = cc in ap Some b.number ∙ ap (λ z. Some (block_number s z)) same

    -- and its frame has the number of that
    pub frame_number : (j own : ℕ) → text_at m j ≡ Some own → machine.text_in (slice_get fs.instances j) ≡ Some (block_number s own)
    frame_number j own e = own_numbers own (slice_get m.instances j) (slice_get fs.instances j) (a.at j) e

    -- its text has frames of its own
    own_frame_in : (own : ℕ) (x : Option (Instance (List Held))) (y : Option (Instance Cells)) → Both (InstanceAt s code m) x y → text_in x ≡ Some own → frame_text s own ≡ own
    own_frame_in own None None b e = absurd (cc)
    own_frame_in own None (Some y) b e = absurd b
    own_frame_in own (Some x) None b e = absurd b
    own_frame_in own (Some x) (Some y) b e = let same : x.text ≡ own = cc in subst (λ z. frame_text s z ≡ z) same b.own

    pub own_frame_at : (j own : ℕ) → text_at m j ≡ Some own → frame_text s own ≡ own
    own_frame_at j own e = own_frame_in own (slice_get m.instances j) (slice_get fs.instances j) (a.at j) e

    -- what an instance stands for is one of its levels
    pub own_levels : (j own t : ℕ) → text_at m j ≡ Some own → Stands s m j t → LevelOf s.tables own (frame_text s t)
    own_levels j own t e st =
        let x = is_there s m st in
        let same : x.now.text ≡ own = (let is : Some x.now.text ≡ Some own = sym (ap text_in x.is) ∙ e in cc (is)) in
        subst (λ z. LevelOf s.tables z (frame_text s t)) same x.levels

    -- ---- flags

    passing_by : (own : ℕ) (x : Option (Instance (List Held))) (y : Option (Instance Cells)) → Both (InstanceAt s code m) x y → text_in x ≡ Some own → passes (text s own) (is_class_free s own) ≡ false → ends_in (unless_given x) ≡ false
    passing_by own None y b e free = refl
    passing_by own (Some x) None b e free = absurd b
    passing_by own (Some x) (Some y) b e free = by x.given_back
      where
        same : x.text ≡ own
        same = cc (e)

        by : (g : Bool) → ends_in (if g then None else Some x) ≡ false
        by true = refl
        by false = ap (λ z. z && not x.kept) (b.passes_so ∙ ap (λ z. passes (text s z) (is_class_free s z)) same ∙ free)

    -- an instance with levels is not given back at its end
    pub never_given : (j own : ℕ) → text_at m j ≡ Some own → passes (text s own) (is_class_free s own) ≡ false → is_given_at_end m j ≡ false
    never_given j own e free = passing_by own (slice_get m.instances j) (slice_get fs.instances j) (a.at j) e free

    same_flags : (x : Option (Instance (List Held))) (y : Option (Instance Cells)) → Both (InstanceAt s code m) x y → ends_in x ≡ ends_in y
    same_flags None None b = refl
    same_flags None (Some y) b = absurd b
    same_flags (Some x) None b = absurd b
    same_flags (Some x) (Some y) b = ap (λ z. z && not x.kept) (sym b.passing) ∙ ap (λ z. y.passing && not z) (sym b.kept)

    pub given_at_end_same : (j : ℕ) → is_given_at_end m j ≡ is_given_at_end fs j
    given_at_end_same j = same_flags (live m j) (live fs j) (live_pair j)

    same_life : (x : Option (Instance (List Held))) (y : Option (Instance Cells)) → Both (InstanceAt s code m) x y → is_live_in x ≡ is_live_in y
    same_life None None b = refl
    same_life None (Some y) b = absurd b
    same_life (Some x) None b = absurd b
    same_life (Some x) (Some y) b = refl

    pub is_live_same : (j : ℕ) → is_live m j ≡ is_live fs j
    is_live_same j = same_life (live m j) (live fs j) (live_pair j)

    -- ---- entries

    later_new : (x : Instance (List Held)) (p : Standing Activation) → Later s m (entered m x p)
    later_new x p = later_heads s m (entered m x p) (λ k y e. both_found Heads (slice_get m.instances k) (slice_get (entered m x p).instances k) y e (both_heads (slice_get m.instances k) (slice_get (entered m x p).instances k) (entered_same m x p k (slice_get_within m.instances k y e))))

    pub store_entered : (x : Instance (List Held)) (y : Instance Cells) (p : Standing Activation) (q : Standing machine.Activation) → InstanceAt s code m x y → Stands s (entered m x p) (length m.instances) x.text → StoreAt s code (entered m x p) (entered fs y q)
    store_entered x y p q pair st = record {
      as_many = length-append m.instances (x ∷ []) ∙ ap (λ n. n + 1) a.as_many ∙ sym (length-append fs.instances (y ∷ []));
      at = append_both (λ k. InstanceAt s code (entered m x p)) m.instances fs.instances x y (λ k. pair_later s code m (entered m x p) (later_new x p) (slice_get m.instances k) (slice_get fs.instances k) (a.at k)) (instance_later s code m (entered m x p) (later_new x p) x y pair);
      all = λ j z e. less_or j (length m.instances)
          (λ lt. (later_new x p).stands j z.text (a.all j z (sym (append_before m.instances x j lt) ∙ e)))
          (λ le. let n = slice_get_within (m.instances ++ x ∷ []) j z e in
          let long = length-append m.instances (x ∷ []) in
          let last : j ≡ length m.instances = omega (arith, le, n, long) in
          let same : x ≡ z = same_some (slice_get (m.instances ++ x ∷ []) (length m.instances)) x z (append_at m.instances x) (ap (slice_get (m.instances ++ x ∷ [])) (sym last) ∙ e) in
          subst (λ k. Stands s (entered m x p) k z.text) (sym last) (subst (λ k. Stands s (entered m x p) (length m.instances) (k.text)) same st));
    }

    -- ---- ends

    given_pair : (i : ℕ) (x : Option (Instance (List Held))) (y : Option (Instance Cells)) → slice_get m.instances i ≡ x → Both (InstanceAt s code m) x y → StoreAt s code (given_in m i x) (given_in fs i y)
    given_pair i None None e b = a
    given_pair i None (Some y) e b = absurd b
    given_pair i (Some x) None e b = absurd b
    given_pair i (Some x) (Some y) e b = store_put a i x (record x { given_back = true }) (record y { given_back = true }) e (record { text = refl; level = refl; encloser = refl }) (instance_given b)

    pub store_given : (i : ℕ) → StoreAt s code (given m i) (given fs i)
    store_given i = given_pair i (slice_get m.instances i) (slice_get fs.instances i) refl (a.at i)

  -- ---- instances that are kept

  -- the activations of both chains belong to the same instances, or are evaluations
  abbrev pub SameOwners : List Activation → List machine.Activation → Type 0
  SameOwners [] [] = Unit {0}
  SameOwners [] (x ∷ below) = ⊥
  SameOwners (c ∷ rest) [] = ⊥
  SameOwners (c ∷ rest) (x ∷ below) = (machine.owner x ≡ meaning.owner c) × SameOwners rest below

  abbrev KeptAlike : (Instances → Instances) → (Frames → Frames) → Type 0
  KeptAlike go go' = (m : Instances) (fs : Frames) → StoreAt s code m fs → StoreAt s code (go m) (go' fs)

  kept_flag : (go : Instances → Instances) (go' : Frames → Frames) → KeptAlike go go' → (m : Instances) (fs : Frames) → StoreAt s code m fs → (j : ℕ) (x : Instance (List Held)) (y : Instance Cells) → slice_get m.instances j ≡ Some x → InstanceAt s code m x y → (b b' : Bool) → b' ≡ b
      → StoreAt s code (if b then go (with_instance m j (record x { kept = true })) else m) (if b' then go' (with_instance fs j (record y { kept = true })) else fs)
  kept_flag go go' f m fs a j x y ex p true true e = f _ _ (store_put a j x (record x { kept = true }) (record y { kept = true }) ex (record { text = refl; level = refl; encloser = refl }) (instance_kept p))
  kept_flag go go' f m fs a j x y ex p true false e = absurd (cc)
  kept_flag go go' f m fs a j x y ex p false true e = absurd (cc)
  kept_flag go go' f m fs a j x y ex p false false e = a

  kept_pair : (go : Instances → Instances) (go' : Frames → Frames) → KeptAlike go go' → (m : Instances) (fs : Frames) → StoreAt s code m fs → (j : ℕ) (x : Option (Instance (List Held))) (y : Option (Instance Cells)) → slice_get m.instances j ≡ x → Both (InstanceAt s code m) x y → StoreAt s code (kept_further go m j x) (kept_further go' fs j y)
  kept_pair go go' f m fs a j None None e b = a
  kept_pair go go' f m fs a j None (Some y) e b = absurd b
  kept_pair go go' f m fs a j (Some x) None e b = absurd b
  kept_pair go go' f m fs a j (Some x) (Some y) e b = kept_flag go go' f m fs a j x y e b x.passing y.passing b.passing

  kept_one : (go : Instances → Instances) (go' : Frames → Frames) → KeptAlike go go' → (o : Option ℕ) (m : Instances) (fs : Frames) → StoreAt s code m fs → StoreAt s code (kept_at go m o) (kept_at go' fs o)
  kept_one go go' f None m fs a = f m fs a
  kept_one go go' f (Some j) m fs a = kept_pair go go' f m fs a j (slice_get m.instances j) (slice_get fs.instances j) refl (a.at j)

  pub store_kept : (chain : List Activation) (below : List machine.Activation) → SameOwners chain below → KeptAlike (kept_on meaning.owner chain) (kept_on machine.owner below)
  unfolding kept_on
  store_kept [] [] e m fs a = a
  store_kept [] (x ∷ below) e m fs a = absurd e
  store_kept (c ∷ rest) [] e m fs a = absurd e
  store_kept (c ∷ rest) (x ∷ below) e m fs a =
      subst (λ o. StoreAt s code (kept_at (kept_on meaning.owner rest) m (meaning.owner c)) (kept_at (kept_on machine.owner below) fs o)) (sym e.0) (kept_one (kept_on meaning.owner rest) (kept_on machine.owner below) (store_kept rest below e.1) (meaning.owner c) m fs a)

-- ---- what later stores keep

module _ (s : Source) (m : Instances) where
  pub later_entered : (x : Instance (List Held)) (p : Standing Activation) → Later s m (entered m x p)
  later_entered x p = later_heads s m (entered m x p) (λ k y e. both_found Heads (slice_get m.instances k) (slice_get (entered m x p).instances k) y e (both_heads (slice_get m.instances k) (slice_get (entered m x p).instances k) (entered_same m x p k (slice_get_within m.instances k y e))))

  pub given_long : (i : ℕ) → length (given m i).instances ≡ length m.instances
  given_long i = sym (same_length Same m.instances (given m i).instances (given_same m i))

  pub kept_long : (chain : List Activation) → length (kept_on meaning.owner chain m).instances ≡ length m.instances
  kept_long chain = sym (same_length Same m.instances (kept_on meaning.owner chain m).instances (λ k. kept_same meaning.owner k chain m))

  pub later_given : (i : ℕ) → Later s m (given m i)
  later_given i = later_all s m (given m i) (λ k. both_heads (slice_get m.instances k) (slice_get (given m i).instances k) (given_same m i k))

  pub later_kept : (chain : List Activation) → Later s m (kept_on meaning.owner chain m)
  later_kept chain = later_all s m (kept_on meaning.owner chain m) (λ k. both_heads (slice_get m.instances k) (slice_get (kept_on meaning.owner chain m).instances k) (kept_same meaning.owner k chain m))

  -- ---- a new instance

  new_levels : (t : ℕ) (x : Instance (List Held)) → x.text ≡ frame_text s t → LevelOf s.tables x.text (frame_text s t)
  new_levels t x text = subst (LevelOf s.tables x.text) text innermost

  pub new_outermost : (t : ℕ) (x : Instance (List Held)) (p : Standing Activation) → x.text ≡ frame_text s t → x.level ≡ level_of s t → x.encloser ≡ None → encloser s.tables (frame_text s t) ≡ None → Stands s (entered m x p) (length m.instances) t
  new_outermost t x p text level alone around = outermost (append_at m.instances x) (new_levels t x text) level (subst (Rooted (entered m x p)) (sym alone) unenclosed) around

  pub new_inside : (t e u : ℕ) (x : Instance (List Held)) (p : Standing Activation) → x.text ≡ frame_text s t → x.level ≡ level_of s t → x.encloser ≡ Some e → encloser s.tables (frame_text s t) ≡ Some u → Stands s m e u → Stands s (entered m x p) (length m.instances) t
  new_inside t e u x p text level out around st =
      let y = is_there s m st in
      inside (append_at m.instances x) (new_levels t x text) level out around (slice_get_within m.instances e y.now y.is) ((later_entered x p).stands e u st)

module _ (s : Source) (code : CodeOf) (m : Instances) where
  -- frames with the same cells
  same_cell : (x y : Option (Instance Cells)) (c : ℕ) → Both Same x y → placed_in y c ≡ placed_in x c
  same_cell None None c b = refl
  same_cell None (Some y) c b = absurd b
  same_cell (Some x) None c b = absurd b
  same_cell (Some x) (Some y) c b = ap (λ z. joined (slice_get z c)) b.cells

  keeps_same : (fs fs' : Frames) → ((k : ℕ) → Both Same (slice_get fs.instances k) (slice_get fs'.instances k)) → Keeps s code m fs fs' Every
  keeps_same fs fs' all = record { temps = λ j t c b of st found temp. same_cell (slice_get fs.instances j) (slice_get fs'.instances j) c (all j) }

  -- an instance of the meaning has its number within the list
  pub keeps_entered : (fs : Frames) → length m.instances ≡ length fs.instances → (y : Instance Cells) (q : Standing machine.Activation) → Keeps s code m fs (entered fs y q) Every
  keeps_entered fs n y q = record { temps = λ j t c b of st found temp. let x = is_there s m st in let lt = slice_get_within m.instances j x.now x.is in same_cell (slice_get fs.instances j) (slice_get (entered fs y q).instances j) c (entered_same fs y q j (omega (arith, lt, n))) }

  pub keeps_given : (fs : Frames) (i : ℕ) → Keeps s code m fs (given fs i) Every
  keeps_given fs i = keeps_same fs (given fs i) (λ k. given_same fs i k)

  pub keeps_kept : (fs : Frames) (below : List machine.Activation) → Keeps s code m fs (kept_on machine.owner below fs) Every
  keeps_kept fs below = keeps_same fs (kept_on machine.owner below fs) (λ k. kept_same machine.owner k below fs)

-- ---- both stores read and written

-- a cell that can be written is there
there_in : (fs fs' : Frames) (j c : ℕ) (v : Value) (x : Option (Instance Cells)) → cells_put fs j x (machine.put_in (cells_of_live x) c v) ≡ Some fs' → machine.has_cell_in (cells_of_live x) c ≡ true
there_in fs fs' j c v None e = absurd (cc (e))
there_in fs fs' j c v (Some x) e = by (nat_lt c (length x.cells)) e
  where
    by : (b : Bool) → cells_put fs j (Some x) (if b then Some (slice_set x.cells c (Some v)) else None) ≡ Some fs' → b ≡ true
    by true e = refl
    by false e = absurd (cc (e))

pub set_there : (fs fs' : Frames) (j c : ℕ) (v : Value) → machine.cell_set fs j c v ≡ Some fs' → machine.has_cell fs j c ≡ true
set_there fs fs' j c v e = there_in fs fs' j c v (live fs j) e

module _ (s : Source) (code : CodeOf) where
  pub unchanged : (m : Instances) (fs : Frames) → StoreAt s code m fs → Changed s code Every m fs m fs
  unchanged m fs a = record { store = a; later = later_itself s m; keeps = record { temps = λ j t c b of st found temp. refl }; standings = refl; frame_standings = refl; as_many = refl }

  found_alike : (m : Instances) (level j : ℕ) (look look' : ℕ → Option ℕ) → ((k : ℕ) → look' k ≡ look k) → (x : Option (Instance (List Held))) (y : Option (Instance Cells)) → Both (InstanceAt s code m) x y → found_at level look' j y ≡ found_at level look j x
  found_alike m level j look look' e None None b = refl
  found_alike m level j look look' e None (Some y) b = absurd b
  found_alike m level j look look' e (Some x) None b = absurd b
  found_alike m level j look look' e (Some x) (Some y) b =
      ap (λ l. if l == level then Some j else outward look' y.encloser) b.level ∙ ap (λ o. if x.level == level then Some j else outward look' o) b.encloser ∙ ap (λ o. if x.level == level then Some j else o) (out x.encloser)
    where
      out : (o : Option ℕ) → outward look' o ≡ outward look o
      out None = refl
      out (Some k) = e k

  within_alike : {m : Instances} {fs : Frames} → StoreAt s code m fs → (n level j : ℕ) → level_within n fs level j ≡ level_within n m level j
  within_alike {m} {fs} a zero level j = refl
  within_alike {m} {fs} a (suc n) level j = found_alike m level j (level_within n m level) (level_within n fs level) (within_alike a n level) (live m j) (live fs j) (live_pair s code m fs a j)

  pub levels_same : {m : Instances} {fs : Frames} → StoreAt s code m fs → (level j : ℕ) → at_level fs level j ≡ at_level m level j
  unfolding at_level
  levels_same a level j = within_alike a (suc j) level j

  pub cell_read : (m : Instances) (fs : Frames) (j u : ℕ) (key : Key) → StoreAt s code m fs → Stands s m j u → frame_text s u ≡ u → HasCell s u key → is_fixed s key ≡ false → Both (ValAt s code m) (meaning.cell m j key) (machine.cell fs j (slot_of s code u key))
  cell_read m fs j u key a st own has varies = cell_here_read s code m fs a j u key st own has varies

  -- a cell of an instance that lives is one of its frame
  pub cell_there : (m : Instances) (fs : Frames) (j u : ℕ) (key : Key) → StoreAt s code m fs → Stands s m j u → (x : Instance (List Held)) → live m j ≡ Some x → frame_text s u ≡ u → HasCell s u key → machine.has_cell fs j (slot_of s code u key) ≡ true
  cell_there m fs j u key a st x lives own has =
      let f = framed s code m fs a st x lives in
      let slot = slot_of s code u key in
      ap (λ z. machine.has_cell_in (cells_of_live z) slot) f.frame_lives ∙ less_true slot (length f.frame.cells) (slot_fits s code m fs a j u key f (level_is s code m fs a j u f own) has)

  pub constant_read : (m : Instances) (fs : Frames) (j u : ℕ) (key : Key) → StoreAt s code m fs → Stands s m j u → frame_text s u ≡ u → HasCell s u key → is_fixed s key ≡ true → (meaning.cell m j key ≡ None) ⊎ (meaning.cell m j key ≡ fixed_value s key)
  constant_read m fs j u key a st own has fixed = fixed_read s code m fs a j u key st own has fixed

  pub cell_write : (m : Instances) (fs : Frames) (j u : ℕ) (key : Key) (v : Val) (x : Value) → StoreAt s code m fs → Stands s m j u → frame_text s u ≡ u → HasCell s u key → is_fixed s key ≡ false → is_declared key ≡ true → ValAt s code m v x → Both (Changed s code Every m fs) (meaning.cell_set m j key v) (machine.cell_set fs j (slot_of s code u key) x)
  cell_write m fs j u key v x a st own has varies declared w = write_pair (live m j) (live fs j) refl refl (live_pair s code m fs a j)
    where
      write_pair : (y : Option (Instance (List Held))) (z : Option (Instance Cells)) → live m j ≡ y → live fs j ≡ z → Both (InstanceAt s code m) y z → Both (Changed s code Every m fs) (meaning.cell_set m j key v) (machine.cell_set fs j (slot_of s code u key) x)
      write_pair None None ey ez p =
          both_as (Changed s code Every m fs) None (meaning.cell_set m j key v) None (machine.cell_set fs j (slot_of s code u key) x)
          (ap (λ z. cells_put m j z (meaning.put_in (cells_of_live z) key v)) ey) (ap (λ z. cells_put fs j z (machine.put_in (cells_of_live z) (slot_of s code u key) x)) ez) tt
      write_pair None (Some z) ey ez p = absurd p
      write_pair (Some y) None ey ez p = absurd p
      write_pair (Some y) (Some z) ey ez p =
          let r = store_write s code m fs a j u key v x st (framed s code m fs a st y ey) own has varies declared w in
          both_as (Changed s code Every m fs) (Some r.now) (meaning.cell_set m j key v) (Some r.frames) (machine.cell_set fs j (slot_of s code u key) x) r.is r.is_frames r.changed

  -- the cell of a connection gets its object
  pub record CellMade (m : Instances) (fs : Frames) (j u : ℕ) (key : Key) (v : Val) (x : Value) : Type 0 where
    pub now : Instances
    pub frames : Frames
    pub is : meaning.cell_made m j key v ≡ Some now
    pub is_frames : machine.cell_set fs j (slot_of s code u key) x ≡ Some frames
    pub changed : Changed s code Every m fs now frames

  pub cell_made_alike : (m : Instances) (fs : Frames) (j u : ℕ) (key : Key) (v : Val) (x : Value) → StoreAt s code m fs → Stands s m j u → Lives m j → frame_text s u ≡ u → HasCell s u key → is_fixed s key ≡ false → ValAt s code m v x → CellMade m fs j u key v x
  cell_made_alike m fs j u key v x a st lives own has varies w =
      let now = lives_now m j lives in
      let r = store_made s code m fs a j u key v x st (framed s code m fs a st now.0 now.1) own has varies w in
      record { now = r.now; frames = r.frames; is = r.is; is_frames = r.is_frames; changed = r.changed }

  -- A temp of an instance that lives is written: what lies there then is what is read.
  pub record TempWritten (Of : ℕ → Type 0) (m : Instances) (fs : Frames) (inst temp : ℕ) (x : Value) : Type 0 where
    pub frames : Frames
    pub is : machine.cell_set fs inst temp x ≡ Some frames
    pub changed : Changed s code Of m fs m frames
    pub holds : placed frames inst temp ≡ Some x
    pub others : (c : ℕ) → c ≢ temp → placed frames inst c ≡ placed fs inst c
    pub reads : machine.cell frames inst temp ≡ Some x
    pub reads_others : (c : ℕ) → c ≢ temp → machine.cell frames inst c ≡ machine.cell fs inst c

  read_then : (Of : ℕ → Type 0) (m : Instances) (fs : Frames) (inst temp : ℕ) (x : Value) (a : StoreAt s code m fs) → Lives m inst → WroteTemp s code m fs a Of inst temp x → TempWritten Of m fs inst temp x
  read_then Of m fs inst temp x a lives r =
      let reads = placed_here s code m r.frames (r.changed).store inst in
      record {
        frames = r.frames;
        is = r.is;
        changed = r.changed;
        holds = r.holds;
        others = r.others;
        reads = reads temp lives ∙ r.holds;
        reads_others = λ c apart. reads c lives ∙ r.others c apart ∙ sym (placed_here s code m fs a inst c lives);
      }

  -- one of statements, which other instances do not know
  pub temp_written : (m : Instances) (fs : Frames) (inst t : ℕ) (b : Runs) (temp : ℕ) (x : Value) → StoreAt s code m fs → Stands s m inst t → Lives m inst → slice_get code.blocks (block_number s (frame_text s t)) ≡ Some b.block → own_end s code (frame_text s t) + expression_temps ≤ temp → temp < length b.block.types → TempWritten (Other inst) m fs inst temp x
  temp_written m fs inst t b temp x a st lives found behind within =
      let now = lives_now m inst lives in
      read_then (Other inst) m fs inst temp x a lives
      (store_temp s code m fs a (Other inst) inst t temp x b.block (framed s code m fs a st now.0 now.1) found (record { behind = omega (arith, behind); within = within }) (λ u c z other st' there is_temp. absurd (other refl)))

  -- one of expressions, which no statement counts on
  pub scratch_written : (m : Instances) (fs : Frames) (inst t : ℕ) (b : Runs) (temp : ℕ) (x : Value) → StoreAt s code m fs → Stands s m inst t → Lives m inst → slice_get code.blocks (block_number s (frame_text s t)) ≡ Some b.block → own_end s code (frame_text s t) ≤ temp → temp < own_end s code (frame_text s t) + expression_temps → temp < length b.block.types → TempWritten Every m fs inst temp x
  scratch_written m fs inst t b temp x a st lives found low high within =
      let now = lives_now m inst lives in
      let f = framed s code m fs a st now.0 now.1 in
      read_then Every m fs inst temp x a lives
      (store_temp s code m fs a Every inst t temp x b.block f found (record { behind = low; within = within }) (λ u c z every st' there is_temp. scratch_apart s code m fs a inst t temp b.block f found low high within u c z st' there is_temp))

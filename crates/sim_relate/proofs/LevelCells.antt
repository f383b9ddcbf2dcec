-- The cells of an instance with levels, and those of its frame: each has its slot in the part of its level. Parameters fill them.
use Rattle.std.proofs.Common.{◌≡◌, ◌≢◌, ◌<◌, ◌+◌, ℕ, suc, true, false, List, [], ◌∷◌, length, Option, Some, None, refl, sym, ap, ◌∙◌, subst, arith}
use Rattle.std.proofs.lemmas.List.{length-set}
use Rattle.std.specs.Prelude.{nat_lt, slice_get, slice_set}
use Rattle.sim_base.specs.declared.numbering.DeclNo.{DeclNo}
use Rattle.sim_scope.specs.Source.{Source}
use Rattle.sim_code.specs.Code.{CodeOf}
use Rattle.sim_code.specs.Levels.{filled_by, put_at}
use Rattle.sim_code.specs.Machine.{Cells, Value, joined}
use Rattle.sim_code.proofs.Lifts.{EachAt}
use Rattle.sim_meaning.specs.Objects.{filled_in}
use Rattle.sim_meaning.specs.Pending.{Declared, Held, Instances, Key, Val, held, held_set, same_key}
use Rattle.codegen_expr.specs.Sites.{HasCell, LevelOf, place_of, slot_of}
use Rattle.sim_relate.proofs.Frames.{bool_cases}
use Rattle.sim_relate.proofs.Known.{SlotAt, ValAt, is_declared, is_fixed}
use Rattle.sim_relate.proofs.Lists.{set_other, set_same, there_get}
use Rattle.sim_relate.proofs.Reach.{if_true}
use Rattle.sim_relate.proofs.Relation.{Laid}
use Rattle.sim_relate.proofs.Slots.{less_true, same_is, same_self, set_in, slot_with}

module _ (s : Source) (code : CodeOf) where
  -- where a formal parameter has its cell, and that this is no constant's
  pub record FormalCell (own : ℕ) (place : ℕ → Option ℕ) (n : ℕ) (d : DeclNo) : Type 0 where
    pub level : ℕ
    pub is_level : LevelOf s.tables own level
    pub has : HasCell s level (Declared d.0)
    pub slot : place n ≡ Some (slot_of s code level (Declared d.0))
    pub varies : is_fixed s (Declared d.0) ≡ false

  abbrev pub FormalCells : (own : ℕ) → (place : ℕ → Option ℕ) → (n : ℕ) → List DeclNo → Type 0
  FormalCells own place n ds = (k i : ℕ) (d : DeclNo) → slice_get ds k ≡ Some d → i ≡ n + k → FormalCell own place i d

module _ (s : Source) (code : CodeOf) (m : Instances) where
  -- each cell of each level, by its key; those that are declared are there
  pub record CellsOf (own : ℕ) (hs : List Held) (frame : Cells) : Type 0 where
    pub cells : (t : ℕ) (key : Key) → LevelOf s.tables own t → HasCell s t key → SlotAt s code m (is_fixed s key) key (held key hs) (joined (slice_get frame (slot_of s code t key)))
    pub there : (t : ℕ) (key : Key) → LevelOf s.tables own t → HasCell s t key → is_declared key ≡ true → place_of key hs < length hs

  -- ---- a value in the cell of a key, and in its slot

  pub record FilledOne (own : ℕ) (key : Key) (v : Val) (hs : List Held) (frame : Cells) : Type 0 where
    pub now : List Held
    pub is : held_set key v hs ≡ Some now
    pub at : CellsOf own now frame

  module _ (own t : ℕ) (key : Key) (v : Val) (y : Value) (hs : List Held) (frame : Cells) (laid : Laid s code own) (a : CellsOf own hs frame) (level : LevelOf s.tables own t) (has : HasCell s t key) (varies : is_fixed s key ≡ false) (declared : is_declared key ≡ true) (w : ValAt s code m v y) (within : slot_of s code t key < length frame) where
    abbrev later : Cells
    later = slice_set frame (slot_of s code t key) (Some y)

    here : (now : List Held) → held key now ≡ Some v → SlotAt s code m (is_fixed s key) key (held key now) (joined (slice_get later (slot_of s code t key)))
    here now is =
        let old = there_get frame (slot_of s code t key) within in
        let read = set_same frame (slot_of s code t key) old.0 (Some y) old.1 in
        subst (λ z. SlotAt s code m (is_fixed s key) key z (joined (slice_get later (slot_of s code t key)))) (sym is)
        (subst (λ z. SlotAt s code m (is_fixed s key) key (Some v) (joined z)) (sym read) (slot_with s code m (is_fixed s key) key v y varies w))

    elsewhere : (u : ℕ) (k : Key) → LevelOf s.tables own u → HasCell s u k → same_key key k ≡ false → slot_of s code u k ≢ slot_of s code t key
    elsewhere u k lev h e f =
        let same : key ≡ k = laid.one_key t u key k level lev has h (sym f) in
        let yes : same_key key k ≡ true = subst (λ z. same_key key z ≡ true) same (same_self key) in
        absurd (cc (yes, e))

    by_key : (u : ℕ) (k : Key) → LevelOf s.tables own u → HasCell s u k → (now : List Held) → held key now ≡ Some v → ((k : Key) → same_key key k ≡ false → held k now ≡ held k hs) → SlotAt s code m (is_fixed s k) k (held k now) (joined (slice_get later (slot_of s code u k)))
    by_key u k lev h now is others =
        bool_cases (same_key key k)
        (λ e. let same = same_is key k e in
        let same_level : t ≡ u = laid.one_level t u key level lev has (subst (λ z. HasCell s u z) (sym same) h) in
        subst (λ z. SlotAt s code m (is_fixed s z) z (held z now) (joined (slice_get later (slot_of s code u z)))) same
        (subst (λ z. SlotAt s code m (is_fixed s key) key (held key now) (joined (slice_get later (slot_of s code z key)))) same_level (here now is)))
        (λ e. subst (λ z. SlotAt s code m (is_fixed s k) k z (joined (slice_get later (slot_of s code u k)))) (sym (others k e))
        (subst (λ z. SlotAt s code m (is_fixed s k) k (held k hs) (joined z)) (sym (set_other frame (slot_of s code t key) (slot_of s code u k) (Some y) (elsewhere u k lev h e))) (a.cells u k lev h)))

    pub fill_one : FilledOne own key v hs later
    fill_one =
        let x = set_in key v hs (a.there t key level has declared) in
        record {
          now = x.now;
          is = x.is;
          at = record {
            cells = λ u k lev h. by_key u k lev h x.now x.here x.others;
            there = λ u k lev h dec. (let p = x.places k in let n = x.long in let lt = a.there u k lev h dec in omega (arith, p, n, lt));
          };
        }

  -- ---- all parameters

  pub record Fills (own : ℕ) (place : ℕ → Option ℕ) (vs : List Val) (ys : List Value) (ds : List DeclNo) (n : ℕ) (hs : List Held) (cells : Cells) : Type 0 where
    pub now : List Held
    pub frame : Cells
    pub is : filled_in vs (Some hs) ds ≡ Some now
    pub is_frame : filled_by place n ys (Some cells) ≡ Some frame
    pub at : CellsOf own now frame
    pub long : length frame ≡ length cells
    pub as_many : length vs ≡ length ds

  pub data MayFill (own : ℕ) (place : ℕ → Option ℕ) (vs : List Val) (ys : List Value) (ds : List DeclNo) (n : ℕ) (hs : List Held) (cells : Cells) : Type 0 where
    no_fill : filled_in vs (Some hs) ds ≡ None → MayFill own place vs ys ds n hs cells
    fills : Fills own place vs ys ds n hs cells → MayFill own place vs ys ds n hs cells

  module _ (own : ℕ) (laid : Laid s code own) (place : ℕ → Option ℕ) (size : ℕ) (fits : (t : ℕ) (key : Key) → LevelOf s.tables own t → HasCell s t key → slot_of s code t key < size) where
    fill_on : (v : Val) (y : Value) (vs : List Val) (ys : List Value) (d : DeclNo) (ds : List DeclNo) (n : ℕ) (hs : List Held) (cells : Cells) (f : FormalCell s code own place n d) (x : FilledOne own (Declared d.0) v hs (slice_set cells (slot_of s code f.level (Declared d.0)) (Some y))) → slot_of s code f.level (Declared d.0) < length cells
        → MayFill own place vs ys ds (suc n) x.now (slice_set cells (slot_of s code f.level (Declared d.0)) (Some y)) → MayFill own place (v ∷ vs) (y ∷ ys) (d ∷ ds) n hs cells
    fill_on v y vs ys d ds n hs cells f x lt (no_fill e) = no_fill (ap (λ z. filled_in vs z ds) x.is ∙ e)
    fill_on v y vs ys d ds n hs cells f x lt (fills r) =
        let slot = slot_of s code f.level (Declared d.0) in
        let put : put_at (place n) y cells ≡ Some (slice_set cells slot (Some y)) = ap (λ z. put_at z y cells) f.slot ∙ if_true (nat_lt slot (length cells)) (Some (slice_set cells slot (Some y))) None (less_true slot (length cells) lt) in
        fills (record {
          now = r.now;
          frame = r.frame;
          is = ap (λ z. filled_in vs z ds) x.is ∙ r.is;
          is_frame = ap (filled_by place (suc n) ys) put ∙ r.is_frame;
          at = r.at;
          long = r.long ∙ length-set cells slot (Some y);
          as_many = ap suc r.as_many;
        })

    pub fill : (vs : List Val) (ys : List Value) (ds : List DeclNo) (n : ℕ) (hs : List Held) (cells : Cells) → EachAt (ValAt s code m) vs ys → CellsOf own hs cells → FormalCells s code own place n ds → length cells ≡ size → MayFill own place vs ys ds n hs cells
    fill [] [] [] n hs cells e a stand long = fills (record { now = hs; frame = cells; is = refl; is_frame = refl; at = a; long = refl; as_many = refl })
    fill [] (y ∷ ys) ds n hs cells e a stand long = absurd e
    fill (v ∷ vs) [] ds n hs cells e a stand long = absurd e
    fill [] [] (d ∷ ds) n hs cells e a stand long = no_fill refl
    fill (v ∷ vs) (y ∷ ys) [] n hs cells e a stand long = no_fill refl
    fill (v ∷ vs) (y ∷ ys) (d ∷ ds) n hs cells e a stand long =
        let first : n ≡ n + 0 = omega arith in
        let f = stand 0 n d refl first in
        let slot = slot_of s code f.level (Declared d.0) in
        let within = fits f.level (Declared d.0) f.is_level f.has in
        let lt : slot < length cells = omega (arith, within, long) in
        let x = fill_one own f.level (Declared d.0) v y hs cells laid a f.is_level f.has f.varies refl e.0 lt in
        fill_on v y vs ys d ds n hs cells f x lt
        (fill vs ys ds (suc n) x.now (slice_set cells slot (Some y)) e.1 x.at (λ k i c is at. stand (suc k) i c is (next i k at)) (length-set cells slot (Some y) ∙ long))
      where
        next : (i k : ℕ) → i ≡ suc n + k → i ≡ n + suc k
        next i k e = omega (arith, e)

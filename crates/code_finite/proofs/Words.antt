-- What each word of the machine goes on with: the ticks are as they were, and the chains that are kept.
use Rattle.std.proofs.Common.{◌≡◌, ℕ, zero, suc, ◌∷◌, [], List, Bool, true, false, Option, Some, None, refl, ap, ◌∙◌}
use Rattle.std.specs.Prelude.{ℤ, pos, negsuc, nat_lt, slice_get, if◌then◌else◌}
use Rattle.sim_values.specs.Plain.{Plain, Text}
use Rattle.sim_values.specs.Store.{image_at, with_image}
use Rattle.sim_values.specs.Texts.{same_text}
use Rattle.sim_values.specs.declared.value.TextVal.{TextVal}
use Rattle.simset.specs.Sets.{Linkage}
use Rattle.sim_code.specs.declared.code.BlockKind.{BlockKind}
use Rattle.sim_code.specs.declared.instr.Lined.{Lined}
use Rattle.sim_code.specs.declared.stage.Stage.{Stage}
use Rattle.sim_code.specs.Arrays.{element, element_set_in, giving_back, handed_over, live_array, owned_by}
use Rattle.sim_code.specs.Classes.{admitting, class_named, class_of, levels_in, may_stand, qualifying}
use Rattle.sim_code.specs.Code.{BlockOf, CodeOf}
use Rattle.sim_code.specs.Events.{having, image_moved, text_val, when}
use Rattle.sim_code.specs.Instances.{CellPlace, ElementPlace, ImagePlace, Instance, Place, at_level, cells_of, cells_put, given, given_in, live, with_instance}
use Rattle.sim_code.specs.Levels.{leading, levelled, objects_of, own_levels, same_stage}
use Rattle.sim_code.specs.Machine.{Activation, Address, ArrayValue, Cells, Frames, Link, Machine, Of, ProcedureValue, ThunkValue, Value, block_at, cell, cell_at, cell_set, index, is_there, is_tick, jumping, level, number, own_block, owner, plain, pushing, pushing_any, put_in, same_kind, with_result}
use Rattle.sim_code.specs.Outcome.{ArrayOf, Run, Simulation, World}
use Rattle.sim_code.specs.Rows.{class_at, no_class, put_back, putting, qualified, storing, without_class}
use Rattle.sim_code.specs.Sets.{enrolled}
use Rattle.sim_code.specs.Simulations.{begun_in, joined, joined_at, located}
use Rattle.sim_code.specs.Thunks.{locating}
use Rattle.code_finite.proofs.Lifts.{Goes, choosing_goes, goes_if, having_goes, having_knows, none, stops, when_goes}
use Rattle.code_finite.proofs.Weights.{kept_weight}

-- ---- worlds with the same ticks

pub back_ticks : (b : Bool) (o : World) (j words : ℕ) → (if b then giving_back o j words else o).ticks ≡ o.ticks
unfolding giving_back
back_ticks true o j words = refl
back_ticks false o j words = refl

pub handed_ticks : (owner : ℕ) (arrays : List ℕ) (o : World) → (handed_over owner arrays o).ticks ≡ o.ticks
unfolding handed_over
handed_ticks owner [] o = refl
handed_ticks owner (n ∷ rest) o = handed_ticks owner rest _ ∙ owned_ticks (slice_get o.arrays n)
  where
    owned_ticks : (a : Option ArrayOf) → (owned_by owner a o n).ticks ≡ o.ticks
    owned_ticks None = refl
    owned_ticks (Some a) = refl

pub enrolled_ticks : (object : ℕ) (linkage : Option Linkage) (o : World) → (enrolled object linkage o).ticks ≡ o.ticks
enrolled_ticks object None o = refl
enrolled_ticks object (Some linkage) o = refl

pub begun_ticks : (is_simulation : Bool) (block : ℕ) (o : World) → (begun_in is_simulation block o).ticks ≡ o.ticks
begun_ticks false b o = refl
begun_ticks true b o = refl

pub joined_ticks : (is_process : Bool) (block object : ℕ) (o : World) → (joined is_process block object o).ticks ≡ o.ticks
joined_ticks false b j o = refl
joined_ticks true b j o = at_place (located o.simulations b)
  where
    at_place : (x : Option (ℕ × Simulation)) → (joined_at j o x).ticks ≡ o.ticks
    at_place None = refl
    at_place (Some x) = refl

-- ---- frames that keep the same chains

module _ (code : CodeOf) where
  put_kept : (m : Frames) (j : ℕ) (x : Option (Instance Cells)) (cells : Option Cells) (n : Frames) → cells_put m j x cells ≡ Some n → kept_weight code n ≡ kept_weight code m
  put_kept m j (Some x) (Some cells) n is = let same : n ≡ with_instance m j (record x { cells = cells }) = cc in ap (kept_weight code) same
  put_kept m j (Some x) None n is = absurd (cc)
  put_kept m j None (Some cells) n is = absurd (cc)
  put_kept m j None None n is = absurd (cc)

  pub cell_kept : (m : Frames) (j c : ℕ) (v : Value) (n : Frames) → cell_set m j c v ≡ Some n → kept_weight code n ≡ kept_weight code m
  cell_kept m j c v n is = put_kept m j (live m j) (put_in (cells_of m j) c v) n is

  given_kept : (m : Frames) (j : ℕ) (x : Option (Instance Cells)) → kept_weight code (given_in m j x) ≡ kept_weight code m
  given_kept m j None = refl
  given_kept m j (Some x) = refl

  pub left_kept : (b : Bool) (m : Frames) (j : ℕ) → kept_weight code (if b then given m j else m) ≡ kept_weight code m
  left_kept true m j = given_kept m j (slice_get m.instances j)
  left_kept false m j = refl

-- ---- the words

module _ (P : World → Machine → Type 0) where
  pub pushing_goes : (room : ℕ) (stack : List Value) (v : Value) (o : World) (f : List Value → Run Machine) → ((s : List Value) → Goes P (f s)) → Goes P (pushing room stack v o f)
  unfolding pushing
  pushing_goes room stack v o f x = when_goes P _ o _ (x _)

  pub any_goes : (room : ℕ) (stack : List Value) (v : Option Value) (o : World) (f : List Value → Run Machine) → ((s : List Value) → Goes P (f s)) → Goes P (pushing_any room stack v o f)
  any_goes room stack None o f x = x stack
  any_goes room stack (Some v) o f x = pushing_goes room stack v o f x

  pub index_goes : (z : ℤ) (o : World) (f : ℕ → Run Machine) → ((n : ℕ) → Goes P (f n)) → Goes P (index z o f)
  unfolding index
  index_goes z o f x = having_goes P (number z) o _ x

  pub level_goes : (m : Frames) (a : Activation) (z : ℤ) (o : World) (f : ℕ → Run Machine) → ((n : ℕ) → Goes P (f n)) → Goes P (level m a z o f)
  unfolding level
  level_goes m a z o f x = index_goes z o _ (λ l. having_goes P (at_level m l a.home) o _ x)

  pub cell_goes : (m : Frames) (a : Activation) (l c : ℤ) (o : World) (f : ℕ → ℕ → Run Machine) → ((j c : ℕ) → Goes P (f j c)) → Goes P (cell_at m a l c o f)
  unfolding cell_at
  cell_goes m a l c o f x = level_goes m a l o _ (λ j. index_goes c o _ (λ c. x j c))

  pub when_knows : (b : Bool) (o : World) (r : Run Machine) → (b ≡ true → Goes P r) → Goes P (when b o r)
  unfolding when
  when_knows b o r x = goes_if P b r _ x (none P o)

  pub jumping_goes : (code : CodeOf) (pc : ℕ) (z : ℤ) (o : World) (f : ℕ → Run Machine)
      → ((q : ℕ) → (if nat_lt pc q then is_there (slice_get code.instrs q) else is_tick (slice_get code.instrs q)) ≡ true → Goes P (f q)) → Goes P (jumping code pc z o f)
  unfolding jumping
  jumping_goes code pc z o f x = index_goes z o _ (λ q. when_knows _ o _ (x q))

  pub block_goes : (code : CodeOf) (kind : BlockKind) (z : ℤ) (o : World) (f : ℕ → BlockOf → Lined → Run Machine) → ((k : ℕ) (b : BlockOf) (x : Lined) → Goes P (f k b x)) → Goes P (block_at code kind z o f)
  unfolding block_at
  block_goes code kind z o f x = index_goes z o _ (λ k. having_goes P _ o _ (λ b. when_goes P (same_kind b.kind kind) o _ (having_goes P _ o _ (λ y. x k b y))))

  pub own_goes : (code : CodeOf) (kind : BlockKind) (m : Frames) (a : Activation) (o : World) (f : BlockOf → Run Machine) → ((b : BlockOf) → Goes P (f b)) → Goes P (own_block code kind m a o f)
  unfolding own_block
  own_goes code kind m a o f x = having_goes P (owner a) o _ (λ j. having_goes P _ o _ (λ k. having_goes P _ o _ (λ b. when_goes P (same_kind b.kind kind) o _ (x b))))

  pub result_goes : (b : BlockOf) (m : Frames) (j : ℕ) (o : World) (f : Option Value → Run Machine) → ((v : Option Value) → Goes P (f v)) → Goes P (with_result b m j o f)
  unfolding with_result
  result_goes b m j o f x = goes_if P _ _ _ (λ _. x None) (having_goes P (cell m j 0) o _ (λ v. x (Some v)))

  pub leading_goes : (code : CodeOf) (q : ℕ) (o : World) (r : Run Machine) → Goes P r → Goes P (leading code q o r)
  unfolding leading
  leading_goes code q o r x = having_goes P _ o _ (λ _. x)

  pub levelled_goes : (code : CodeOf) (kind : BlockKind) (k : ℕ) (o : World) (f : BlockOf → ℕ → Run Machine) → ((b : BlockOf) (start : ℕ) → Goes P (f b start)) → Goes P (levelled code kind k o f)
  unfolding levelled
  levelled_goes code kind k o f x =
      having_goes P _ o _ (λ b. when_goes P _ o _ (having_goes P _ o _ (λ cs. having_goes P _ o _ (λ y. leading_goes code y.declarations o _ (x b y.declarations)))))

  pub objects_goes : (code : CodeOf) (z : ℤ) (o : World) (f : ℕ → BlockOf → ℕ → Run Machine) → ((k : ℕ) (b : BlockOf) (start : ℕ) → Goes P (f k b start)) → Goes P (objects_of code z o f)
  unfolding objects_of
  objects_goes code z o f x = having_goes P _ o _ (λ c. having_goes P _ o _ (λ y. levelled_goes code _ y.block o _ (λ b start. when_goes P _ o _ (x y.block b start))))

  -- the levels of a frame, which is at this stage
  pub own_levels_goes : (code : CodeOf) (m : Frames) (a : Activation) (s : Stage) (o : World) (f : List ℕ → Run Machine)
      → (same_stage a.stage s ≡ true → (j : ℕ) (cs : List ℕ) → levels_in code (class_of code m j) ≡ Some cs → Goes P (f cs)) → Goes P (own_levels code m a s o f)
  unfolding own_levels
  own_levels_goes code m a s o f x = when_knows (same_stage a.stage s) o _ (λ here. having_goes P (owner a) o _ (λ j. having_knows P _ o _ (λ cs is. x here j cs is)))

  pub qualified_goes : (code : CodeOf) (z : ℤ) (o : World) (f : ℕ → Run Machine) → ((q : ℕ) → Goes P (f q)) → Goes P (qualified code z o f)
  qualified_goes code (pos zero) o f x = having_goes P (no_class (pos zero)) o _ (λ _. x 0)
  qualified_goes code (pos (suc n)) o f x = having_goes P (class_named code (pos (suc n))) o f x
  qualified_goes code (negsuc n) o f x = having_goes P (class_named code (negsuc n)) o f x

  pub qualifying_goes : (line : ℕ) (holds : Option Bool) (o : World) (r : Run Machine) → Goes P r → Goes P (qualifying line holds o r)
  qualifying_goes line holds o r x = having_goes P holds o _ (λ b. choosing_goes P b r _ x (stops P _ o))

  pub admitting_goes : (code : CodeOf) (m : Frames) (line class : ℕ) (v : Value) (o : World) (r : Run Machine) → Goes P r → Goes P (admitting code m line class v o r)
  admitting_goes code m line zero v o r x = x
  admitting_goes code m line (suc c) v o r x = qualifying_goes line (may_stand code m (suc c) (plain v)) o r x

  pub locating_goes : (line : ℕ) (place value_too : Bool) (o : World) (r : Run Machine) → Goes P r → Goes P (locating line place value_too o r)
  unfolding locating
  locating_goes line true value_too o r x = x
  locating_goes line false true o r x = x
  locating_goes line false false o r x = stops P _ o

  set_goes : (n k : ℕ) (v : Plain) (a : Option ArrayOf) (old : Option Plain) (o : World) (f : World → Run Machine) → ((p : World) → p.ticks ≡ o.ticks → Goes P (f p)) → Goes P (having (element_set_in o n k v a old) o f)
  unfolding having
  set_goes n k v (Some a) (Some old) o f x = x _ refl
  set_goes n k v (Some a) None o f x = none P o
  set_goes n k v None old o f x = none P o

  moved_goes : (n : ℕ) (image t : Option TextVal) (o : World) (f : World → Run Machine) → ((p : World) → p.ticks ≡ o.ticks → Goes P (f p)) → Goes P (having (image_moved o n image t) o f)
  unfolding having
  moved_goes n None t o f x = none P o
  moved_goes n (Some image) None o f x = none P o
  moved_goes n (Some image) (Some t) o f x = by_same (same_text image t)
    where
      by_same : (b : Bool) → Goes P (having (if b then Some (record o { store = with_image o.store n t }) else None) o f)
      by_same true = x _ refl
      by_same false = none P o

  module _ (code : CodeOf) where
    -- where the run goes on with such a world and such frames
    abbrev pub Still : World → Frames → (World → Frames → Run Machine) → Type 0
    Still o m f = (q : World) (n : Frames) → q.ticks ≡ o.ticks → kept_weight code n ≡ kept_weight code m → Goes P (f q n)

    putting_goes : (p : Place ℕ ℕ) (v : Value) (o : World) (m : Frames) (f : World → Frames → Run Machine) → Still o m f → Goes P (putting p v o m f)
    unfolding putting
    putting_goes (CellPlace j c zero) v o m f x = having_knows P (cell_set m j c v) o _ (λ n is. x o n refl (cell_kept code m j c v n is))
    putting_goes (CellPlace j c (suc k)) v o m f x = none P o
    putting_goes (ElementPlace a n zero) v o m f x = having_goes P (plain v) o _ (λ p. set_goes a n p (live_array o a) (element o a n) o _ (λ q same. x q m same refl))
    putting_goes (ElementPlace a n (suc k)) v o m f x = none P o
    putting_goes (ImagePlace n) v o m f x = having_goes P (plain v) o _ (λ p. moved_goes n (image_at o.store n) (text_val p) o _ (λ q same. x q m same refl))

    pub storing_goes : (line : ℕ) (p : Place ℕ ℕ) (v : Value) (o : World) (m : Frames) (f : World → Frames → Run Machine) → Still o m f → Goes P (storing code line p v o m f)
    storing_goes line p v o m f x = admitting_goes code m line (class_at p) v o _ (putting_goes (without_class p) v o m f x)

    pub back_goes : (v : Value) (t : TextVal) (o : World) (m : Frames) (f : World → Frames → Run Machine) → Still o m f → Goes P (put_back v t o m f)
    unfolding put_back
    back_goes (Of p) t o m f x = x o m refl refl
    back_goes (Link j) t o m f x = x o m refl refl
    back_goes (Address p) t o m f x = putting_goes p (Of (Text t)) o m f x
    back_goes (ArrayValue a) t o m f x = x o m refl refl
    back_goes (ProcedureValue k j) t o m f x = x o m refl refl
    back_goes (ThunkValue t j) u o m f x = x o m refl refl

-- What a call of a procedure puts into its frame.
use Rattle.std.proofs.Common.{◌≡◌, ℕ, zero, suc, ◌+◌, ◌-◌, ◌<◌, ◌≤◌, List, [], ◌∷◌, ◌++◌, length, sym, refl, ap, ◌∙◌, arith}
use Rattle.std.specs.Prelude.{ℤ, Bool, true, false, nat_lt, if◌then◌else◌, Option, Some, None, slice_set}
use Rattle.sim_values.specs.declared.value.FrameRef.{FrameRef}
use Rattle.sim_code.specs.Code.{BlockOf}
use Rattle.sim_code.specs.Events.{having, no_rule, pop_many, popping, when}
use Rattle.sim_code.specs.Instances.{Instance, cells_in, cells_put, is_live, is_live_in, live, unless_given}
use Rattle.sim_code.specs.Machine.{Cells, Frames, Machine, Value, cell_set, filled, frame_in, index, number, passes, put_in}
use Rattle.sim_code.specs.Outcome.{Run, World}
use Rattle.frame_arena.specs.declared.frames.Frame.{Frame}
use Rattle.frame_arena.specs.declared.slot.Slot.{Slot}
use Rattle.frame_arena.specs.Frames.{Has, Holds, HoldsAfter, Leads, LeadsAfter, number_in}
use Rattle.frame_arena.specs.Slots.{value_of}
use Rattle.frame_arena.specs.Stacks.{slot_at, values_from}
use Rattle.object_machine.specs.declared.openings.Beginning.{Beginning}
use Rattle.object_machine.specs.Calling.{Filled, Fills, called, cells_set_from, opened_with, then_set}
use Rattle.object_machine.proofs.Departures.{get_last}
use Rattle.object_machine.proofs.Scalars.{off}

-- ---- the frame that a slot names

pub not_true : (b : Bool) → (b ≡ true → ⊥) → b ≡ false
not_true true h = absurd (h refl)
not_true false h = refl

pub live_there : (fs : List Frame) (cells : List Slot) (m : Frames) (place number : ℕ) → Holds fs cells m → Has fs place number → is_live m number ≡ true
live_there fs cells m place number h has = ap (λ x. is_live_in (unless_given x)) (h.known place number has)

module _ (m : Frames) (v : Value) (o : World) (go : ℕ → Run Machine) where
  abbrev Named : Option ℕ → Run Machine
  Named q = having q o (λ parent. when (is_live m parent) o (go parent))

  pub names_none : None ≡ frame_in v → Named (frame_in v) ≡ no_rule o
  unfolding having
  names_none e = ap (λ q. Named q) (sym e)

  pub names_gone : (j : ℕ) → Some j ≡ frame_in v → is_live m j ≡ false → Named (frame_in v) ≡ no_rule o
  unfolding having when
  names_gone j e h = ap (λ q. Named q) (sym e) ∙ ap (λ c. when c o (go j)) h

  pub names_frame : (j : ℕ) → Some j ≡ frame_in v → is_live m j ≡ true → Named (frame_in v) ≡ go j
  unfolding having when
  names_frame j e h = ap (λ q. Named q) (sym e) ∙ ap (λ c. when c o (go j)) h

-- ---- filling, one value after the other

pub record FilledTo (frames : List Frame) (cells : List Slot) (m : Frames) (j first : ℕ) (stack : List Slot) (at count done : ℕ) : Type 0 where
  pub memory : Frames
  pub rest : cells_set_from m j first (values_from stack at count) ≡ cells_set_from memory j (first + done) (values_from stack (at + done) (count - done))
  pub holds : Holds frames cells memory
  pub leads : (r : FrameRef) → Leads frames m r → Leads frames memory r

module _ (frames : List Frame) (m : Frames) (j first : ℕ) (stack : List Slot) (at count : ℕ) where
  pub none_filled : (cells : List Slot) → Holds frames cells m → FilledTo frames cells m j first stack at count 0
  none_filled cells h = record {
    memory = m;
    rest =
        let e : first ≡ first + 0 = omega arith in
        let e2 : at ≡ at + 0 = omega arith in
        let e3 : count ≡ count - 0 = omega arith in
        ap (λ n. cells_set_from m j n (values_from stack at count)) e ∙ ap (λ n. cells_set_from m j (first + 0) (values_from stack n count)) e2 ∙ ap (λ n. cells_set_from m j (first + 0) (values_from stack (at + 0) n)) e3;
    holds = h;
    leads = λ r led. led;
  }

  pub all_filled : (cells : List Slot) (done : ℕ) → count ≤ done → FilledTo frames cells m j first stack at count done → Filled frames cells m (cells_set_from m j first (values_from stack at count))
  all_filled cells done h f = record {
    memory = f.memory;
    is =
        let e : count - done ≡ 0 = omega (arith, h) in
        f.rest ∙ ap (λ n. cells_set_from f.memory j (first + done) (values_from stack (at + done) n)) e;
    holds = f.holds;
    leads = f.leads;
  }

  module _ (cells cells2 : List Slot) (done : ℕ) (more : done < count) (f : FilledTo frames cells m j first stack at count done) where
    step_rest : (m3 : Frames) → cell_set f.memory j (first + done) (value_of (slot_at stack (at + done))) ≡ Some m3 →
        cells_set_from m j first (values_from stack at count) ≡ cells_set_from m3 j (first + (done + 1)) (values_from stack (at + (done + 1)) (count - (done + 1)))
    step_rest m3 is =
        let left : count - done ≡ suc (count - (done + 1)) = omega (arith, more) in
        let e : suc (first + done) ≡ first + (done + 1) = omega arith in
        let e2 : suc (at + done) ≡ at + (done + 1) = omega arith in
        let n : ℕ = count - (done + 1) in
        f.rest
        ∙ ap (λ n. cells_set_from f.memory j (first + done) (values_from stack (at + done) n)) left
        ∙ ap (λ q. then_set q (λ m. cells_set_from m j (suc (first + done)) (values_from stack (suc (at + done)) n))) is
        ∙ ap (λ k. cells_set_from m3 j k (values_from stack (suc (at + done)) n)) e
        ∙ ap (λ k. cells_set_from m3 j (first + (done + 1)) (values_from stack k n)) e2

    one_filled : (q : Option Frames) → cell_set f.memory j (first + done) (value_of (slot_at stack (at + done))) ≡ q → HoldsAfter true frames cells2 q → ((r : FrameRef) → Leads frames f.memory r → LeadsAfter frames q r) →
        FilledTo frames cells2 m j first stack at count (done + 1)
    one_filled None is h leads = absurd (off (sym h))
    one_filled (Some m3) is h leads = record { memory = m3; rest = step_rest m3 is; holds = h.1; leads = λ r led. leads r (f.leads r led) }

    pub one_more : (v : Value) → v ≡ value_of (slot_at stack (at + done)) → HoldsAfter true frames cells2 (cell_set f.memory j (first + done) v) → ((r : FrameRef) → Leads frames f.memory r → LeadsAfter frames (cell_set f.memory j (first + done) v) r) →
        FilledTo frames cells2 m j first stack at count (done + 1)
    one_more v e h leads = one_filled (cell_set f.memory j (first + done) v) (ap (λ v. cell_set f.memory j (first + done) v) (sym e)) h leads

-- ---- the cells of a new frame

set_last : {X : Type 0} (xs : List X) (x y : X) → slice_set (xs ++ x ∷ []) (length xs) y ≡ xs ++ y ∷ []
set_last [] x y = refl
set_last (z ∷ zs) x y = ap (λ w. z ∷ w) (set_last zs x y)

module _ (m : Frames) (k : ℕ) (b : BlockOf) (g : Beginning) (parent : Option FrameRef) where
  abbrev with_cells_of : Cells → Instance Cells
  with_cells_of cells = record { text = k; level = b.level; encloser = number_in parent; cells = cells; passing = passes b.kind b.class_free; kept = false; given_back = false }

  live_last : (cells : Cells) → live (opened_with m k b g parent cells) (length m.instances) ≡ Some (with_cells_of cells)
  live_last cells = ap (λ x. unless_given x) (get_last m.instances (with_cells_of cells))

  abbrev pub opened_if : Option Cells → Option Frames
  opened_if None = None
  opened_if (Some cells) = Some (opened_with m k b g parent cells)

  put_last : (cells : Cells) (q : Option Cells) → cells_put (opened_with m k b g parent cells) (length m.instances) (Some (with_cells_of cells)) q ≡ opened_if q
  put_last cells None = refl
  put_last cells (Some cells2) = ap (λ w. Some (record { instances = w; standings = (opened_with m k b g parent cells).standings })) (set_last m.instances (with_cells_of cells) (with_cells_of cells2))

  pub set_in_last : (cells : Cells) (c : ℕ) (v : Value) → cell_set (opened_with m k b g parent cells) (length m.instances) c v ≡ opened_if (put_in (Some cells) c v)
  set_in_last cells c v =
      ap (λ x. cells_put (opened_with m k b g parent cells) (length m.instances) x (put_in (cells_in x) c v)) (live_last cells) ∙ put_last cells (put_in (Some cells) c v)

  by_test : (vs : List Value) (c : ℕ) (cells2 : Cells) (q : Option Cells) (t : Bool) → cells_set_from (opened_with m k b g parent cells2) (length m.instances) (suc c) vs ≡ opened_if q →
      then_set (opened_if (if t then Some cells2 else None)) (λ m2. cells_set_from m2 (length m.instances) (suc c) vs) ≡ opened_if (if t then q else None)
  by_test vs c cells2 q true e = e
  by_test vs c cells2 q false e = refl

  pub filled_last : (vs : List Value) (c : ℕ) (cells : Cells) → cells_set_from (opened_with m k b g parent cells) (length m.instances) c vs ≡ opened_if (filled c vs cells)
  filled_last [] c cells = refl
  filled_last (v ∷ vs) c cells =
      ap (λ q. then_set q (λ m2. cells_set_from m2 (length m.instances) (suc c) vs)) (set_in_last cells c v)
      ∙ by_test vs c (slice_set cells c (Some v)) (filled (suc c) vs (slice_set cells c (Some v))) (nat_lt c (length cells)) (filled_last vs (suc c) (slice_set cells c (Some v)))

  -- the cells of the frame that was filled
  pub record Cellular (q : Option Cells) (filled_memory : Frames) : Type 0 where
    pub cells : Cells
    pub is : q ≡ Some cells
    pub memory : opened_with m k b g parent cells ≡ filled_memory

  pub cellular : (q : Option Cells) (m2 : Frames) → opened_if q ≡ Some m2 → Cellular q m2
  cellular None m2 e = absurd (cc)
  cellular (Some cells) m2 e = record { cells = cells; is = refl; memory = some_memory e }
    where
      out : Option Frames → Frames
      out None = m
      out (Some w) = w

      some_memory : Some (opened_with m k b g parent cells) ≡ Some m2 → opened_with m k b g parent cells ≡ m2
      some_memory e = ap (λ w. out w) e

-- ---- as many values as there are cells fill them, and no more do

pub set_long : (cells : Cells) (c : ℕ) (x : Option Value) → length (slice_set cells c x) ≡ length cells
set_long [] c x = refl
set_long (y ∷ ys) zero x = refl
set_long (y ∷ ys) (suc c) x = ap suc (set_long ys c x)

pub fills : (vs : List Value) (c : ℕ) (cells : Cells) → c + length vs ≤ length cells → Fills (filled c vs cells)
fills [] c cells h = record { cells = cells; is = refl }
fills (v ∷ vs) c cells h =
    let lt : nat_lt c (length cells) ≡ true = grind (arith, h) in
    let f = fills vs (suc c) (slice_set cells c (Some v)) (omega (arith, h, set_long cells c (Some v))) in
    record { cells = f.cells; is = ap (λ t. if t then filled (suc c) vs (slice_set cells c (Some v)) else None) lt ∙ f.is }

either_none : (t : Bool) (q : Option Cells) → q ≡ None → (if t then q else None) ≡ None
either_none true q e = e
either_none false q e = refl

pub too_many : (vs : List Value) (c : ℕ) (cells : Cells) → 0 < length vs → length cells < c + length vs → filled c vs cells ≡ None
too_many [] c cells h h2 = absurd (omega (arith, h))
too_many (v ∷ []) c cells h h2 =
    let lt : nat_lt c (length cells) ≡ false = grind (arith, h2) in
    ap (λ t. if t then Some (slice_set cells c (Some v)) else None) lt
too_many (v ∷ w ∷ vs) c cells h h2 = either_none (nat_lt c (length cells)) _ (too_many (w ∷ vs) (suc c) (slice_set cells c (Some v)) (omega arith) (omega (arith, h2, set_long cells c (Some v))))

pub values_long : (stack : List Slot) (at count : ℕ) → length (values_from stack at count) ≡ count
values_long stack at zero = refl
values_long stack at (suc n) = ap suc (values_long stack (suc at) n)

pub none_fills : (vs : List Value) (c : ℕ) (cells : Cells) → length vs ≡ 0 → Fills (filled c vs cells)
none_fills [] c cells e = record { cells = cells; is = refl }
none_fills (v ∷ vs) c cells e = absurd (omega (arith, e))

-- ---- what a call finds on the operand stack

module _ (m : Frames) (z : ℤ) (values : List Value) (o : World) (go : List Value → List Value → ℕ → Run Machine) where
  abbrev pub Below : List Value → List Value → Run Machine
  Below vs stack = popping stack o (λ v stack. having (frame_in v) o (λ parent. when (is_live m parent) o (go vs stack parent)))

  abbrev pub Counted : ℕ → Run Machine
  Counted n = pop_many n [] values o (λ vs stack. Below vs stack)

  pub no_count : None ≡ number z → called m z values o go ≡ no_rule o
  unfolding index having
  no_count e = ap (λ q. having q o (λ n. Counted n)) (sym e)

  pub some_count : (n : ℕ) → Some n ≡ number z → called m z values o go ≡ Counted n
  unfolding index having
  some_count n e = ap (λ q. having q o (λ n. Counted n)) (sym e)

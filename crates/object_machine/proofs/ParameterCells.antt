-- The parameters of objects and prefixed blocks.
use Rattle.std.proofs.Common.{◌≡◌, ℕ, zero, suc, ◌+◌, ◌-◌, ◌<◌, ◌≤◌, ◌⊎◌, inl, inr, List, [], ◌∷◌, length, sym, subst, refl, ap, ◌∙◌, arith}
use Rattle.std.specs.Prelude.{true, false, nat_lt, if◌then◌else◌, Option, Some, None, slice_get, slice_set}
use Rattle.sim_values.specs.declared.value.FrameRef.{FrameRef}
use Rattle.sim_code.specs.Code.{BlockOf, ClassOf, CodeOf}
use Rattle.sim_code.specs.Classes.{block_in_record, class_numbered}
use Rattle.sim_code.specs.Levels.{extent, filled_by, in_front, own_or_outer, parameter_by, parameter_cell, parameter_within, put_at}
use Rattle.sim_code.specs.Machine.{Cells, Frames, Value, cell_set}
use Rattle.frame_arena.specs.declared.frames.Frame.{Frame}
use Rattle.frame_arena.specs.declared.slot.Slot.{Slot}
use Rattle.frame_arena.specs.Frames.{Holds, HoldsAfter, Leads, LeadsAfter}
use Rattle.frame_arena.specs.Slots.{value_of}
use Rattle.frame_arena.specs.Stacks.{slot_at, values_from}
use Rattle.object_machine.specs.declared.openings.Beginning.{Beginning}
use Rattle.object_machine.specs.Calling.{Filled, Fills, opened_with, then_set}
use Rattle.object_machine.specs.Parameters.{cells_set_by, set_at}
use Rattle.object_machine.proofs.Called.{opened_if, set_in_last, set_long}
use Rattle.object_machine.proofs.Scalars.{off}

-- ---- what a class has from its prefix

pub front_missing : (code : CodeOf) (p : ℕ) → class_numbered code (suc p) ≡ None → in_front code (suc p) ≡ None
front_missing code p e = ap (λ x. extent (block_in_record code x)) e

pub front_of_block : (code : CodeOf) (p : ℕ) (x : ClassOf) (q : Option BlockOf) → class_numbered code (suc p) ≡ Some x → slice_get code.blocks x.block ≡ q → in_front code (suc p) ≡ extent q
front_of_block code p x q e e2 = ap (λ x. extent (block_in_record code x)) e ∙ ap extent e2

-- ---- the cell of a parameter

pub cell_first : (code : CodeOf) (class number : ℕ) → parameter_cell code class number ≡ parameter_within (class - 0) code class number
unfolding parameter_cell
cell_first code class number = let e : class ≡ class - 0 = omega arith in ap (λ n. parameter_within n code class number) e

pub cell_over : (code : CodeOf) (class counter at number : ℕ) → class ≤ counter → parameter_within (class - counter) code at number ≡ None
cell_over code class counter at number h = let e : class - counter ≡ 0 = omega (arith, h) in ap (λ n. parameter_within n code at number) e

module _ (code : CodeOf) (class counter at number : ℕ) (within : counter < class) where
  one_out : (q : Option ClassOf) → class_numbered code at ≡ q → parameter_within (class - counter) code at number ≡ parameter_by (λ p. parameter_within (class - (counter + 1)) code p number) code number q
  one_out q e =
      let n : class - counter ≡ suc (class - (counter + 1)) = omega (arith, within) in
      ap (λ n. parameter_within n code at number) n ∙ ap (λ x. parameter_by (λ p. parameter_within (class - (counter + 1)) code p number) code number x) e

  pub cell_none : class_numbered code at ≡ None → parameter_within (class - counter) code at number ≡ None
  cell_none e = one_out None e

  pub cell_no_front : (x : ClassOf) → class_numbered code at ≡ Some x → in_front code x.prefix ≡ None → parameter_within (class - counter) code at number ≡ None
  cell_no_front x e h = one_out (Some x) e ∙ ap (λ f. own_or_outer (parameter_within (class - (counter + 1)) code x.prefix number) number f) h

  pub cell_own : (x : ClassOf) (cells formals : ℕ) → class_numbered code at ≡ Some x → in_front code x.prefix ≡ Some (cells, formals) → formals ≤ number → parameter_within (class - counter) code at number ≡ Some (cells + (number - formals))
  cell_own x cells formals e h n =
      let lt : nat_lt number formals ≡ false = grind (arith, n) in
      one_out (Some x) e ∙ ap (λ f. own_or_outer (parameter_within (class - (counter + 1)) code x.prefix number) number f) h
      ∙ ap (λ b. if b then parameter_within (class - (counter + 1)) code x.prefix number else Some (cells + (number - formals))) lt

  pub cell_outer : (x : ClassOf) (cells formals : ℕ) → class_numbered code at ≡ Some x → in_front code x.prefix ≡ Some (cells, formals) → number < formals → parameter_within (class - counter) code at number ≡ parameter_within (class - (counter + 1)) code x.prefix number
  cell_outer x cells formals e h n =
      let lt : nat_lt number formals ≡ true = grind (arith, n) in
      one_out (Some x) e ∙ ap (λ f. own_or_outer (parameter_within (class - (counter + 1)) code x.prefix number) number f) h
      ∙ ap (λ b. if b then parameter_within (class - (counter + 1)) code x.prefix number else Some (cells + (number - formals))) lt

-- ---- all parameters

-- a number has a cell
pub record Placed (place : ℕ → Option ℕ) (long number : ℕ) : Type 0 where
  pub cell : ℕ
  pub is : place number ≡ Some cell
  pub within : cell < long

below_or : (a b : ℕ) → a ≤ b → (a ≡ b) ⊎ (a < b)
below_or zero zero h = inl refl
below_or zero (suc b) h = inr (omega arith)
below_or (suc a) zero h = absurd (omega (arith, h))
below_or (suc a) (suc b) h = elim (below_or a b (omega (arith, h))) [ inl e ↦ inl (ap suc e) | inr e ↦ inr (omega (arith, e)) ]

module _ (place : ℕ → Option ℕ) where
  pub all_placed : (vs : List Value) (from : ℕ) (to : Cells) → ((k : ℕ) → from ≤ k → k < from + length vs → Placed place (length to) k) → Fills (filled_by place from vs (Some to))
  all_placed [] from to h = record { cells = to; is = refl }
  all_placed (v ∷ vs) from to h =
      let p = h from (omega arith) (omega arith) in
      let lt : nat_lt p.cell (length to) ≡ true = (let w = p.within in grind (arith, w)) in
      let to2 : Cells = slice_set to p.cell (Some v) in
      let long : length to2 ≡ length to = set_long to p.cell (Some v) in
      let rest = all_placed vs (suc from) to2 (λ k above below. let q = h k (omega (arith, above)) (omega (arith, below)) in record { cell = q.cell; is = q.is; within = subst (λ n. q.cell < n) (sym long) q.within }) in
      record {
        cells = rest.cells;
        is = ap (λ c. filled_by place (suc from) vs (put_at c v to)) p.is ∙ ap (λ b. filled_by place (suc from) vs (if b then Some to2 else None)) lt ∙ rest.is;
      }

  none_placed : (vs : List Value) (from : ℕ) → filled_by place from vs None ≡ None
  none_placed [] from = refl
  none_placed (v ∷ vs) from = refl

  pub one_unplaced : (vs : List Value) (from bad : ℕ) (to : Cells) → ((k : ℕ) → from ≤ k → k < bad → Placed place (length to) k) → from ≤ bad → bad < from + length vs → ((v : Value) (to2 : Cells) → length to2 ≡ length to → put_at (place bad) v to2 ≡ None) →
      filled_by place from vs (Some to) ≡ None
  one_unplaced [] from bad to h above below none = absurd (omega (arith, above, below))
  one_unplaced (v ∷ vs) from bad to h above below none =
      elim (below_or from bad above) [
        | inl e ↦ ap (λ k. filled_by place (suc from) vs (put_at (place k) v to)) e ∙ ap (λ q. filled_by place (suc from) vs q) (none v to refl) ∙ none_placed vs (suc from)
        | inr lt ↦
            let p = h from (omega arith) lt in
            let inside : nat_lt p.cell (length to) ≡ true = (let w = p.within in grind (arith, w)) in
            let to2 : Cells = slice_set to p.cell (Some v) in
            let long : length to2 ≡ length to = set_long to p.cell (Some v) in
            ap (λ c. filled_by place (suc from) vs (put_at c v to)) p.is ∙ ap (λ b. filled_by place (suc from) vs (if b then Some to2 else None)) inside
            ∙ one_unplaced vs (suc from) bad to2 (λ k above below. let q = h k (omega (arith, above)) below in record { cell = q.cell; is = q.is; within = subst (λ n. q.cell < n) (sym long) q.within })
            (omega (arith, lt)) (omega (arith, below)) (λ v to3 e. none v to3 (e ∙ long))
      ]

pub put_nowhere : (place : Option ℕ) (v : Value) (to : Cells) → place ≡ None → put_at place v to ≡ None
put_nowhere place v to e = ap (λ c. put_at c v to) e

pub put_past : (place : Option ℕ) (cell : ℕ) (v : Value) (to : Cells) → place ≡ Some cell → length to ≤ cell → put_at place v to ≡ None
put_past place cell v to e h =
    let lt : nat_lt cell (length to) ≡ false = grind (arith, h) in
    ap (λ c. put_at c v to) e ∙ ap (λ b. if b then Some (slice_set to cell (Some v)) else None) lt

-- ---- one value after the other

pub record FilledBy (frames : List Frame) (cells : List Slot) (m : Frames) (j : ℕ) (place : ℕ → Option ℕ) (stack : List Slot) (at count done : ℕ) : Type 0 where
  pub memory : Frames
  pub rest : cells_set_by m j place 0 (values_from stack at count) ≡ cells_set_by memory j place done (values_from stack (at + done) (count - done))
  pub holds : Holds frames cells memory
  pub leads : (r : FrameRef) → Leads frames m r → Leads frames memory r

module _ (frames : List Frame) (m : Frames) (j : ℕ) (place : ℕ → Option ℕ) (stack : List Slot) (at count : ℕ) where
  pub none_filled_by : (cells : List Slot) → Holds frames cells m → FilledBy frames cells m j place stack at count 0
  none_filled_by cells h = record {
    memory = m;
    rest =
        let e2 : at ≡ at + 0 = omega arith in
        let e3 : count ≡ count - 0 = omega arith in
        ap (λ n. cells_set_by m j place 0 (values_from stack n count)) e2 ∙ ap (λ n. cells_set_by m j place 0 (values_from stack (at + 0) n)) e3;
    holds = h;
    leads = λ r led. led;
  }

  pub all_filled_by : (cells : List Slot) (done : ℕ) → count ≤ done → FilledBy frames cells m j place stack at count done → Filled frames cells m (cells_set_by m j place 0 (values_from stack at count))
  all_filled_by cells done h f = record {
    memory = f.memory;
    is =
        let e : count - done ≡ 0 = omega (arith, h) in
        f.rest ∙ ap (λ n. cells_set_by f.memory j place done (values_from stack (at + done) n)) e;
    holds = f.holds;
    leads = f.leads;
  }

  module _ (cells cells2 : List Slot) (done : ℕ) (more : done < count) (f : FilledBy frames cells m j place stack at count done) (cell : ℕ) (there : place done ≡ Some cell) where
    step_by : (m3 : Frames) → cell_set f.memory j cell (value_of (slot_at stack (at + done))) ≡ Some m3 →
        cells_set_by m j place 0 (values_from stack at count) ≡ cells_set_by m3 j place (done + 1) (values_from stack (at + (done + 1)) (count - (done + 1)))
    step_by m3 is =
        let left : count - done ≡ suc (count - (done + 1)) = omega (arith, more) in
        let e : suc done ≡ done + 1 = omega arith in
        let e2 : suc (at + done) ≡ at + (done + 1) = omega arith in
        let n : ℕ = count - (done + 1) in
        f.rest
        ∙ ap (λ n. cells_set_by f.memory j place done (values_from stack (at + done) n)) left
        ∙ ap (λ c. then_set (set_at f.memory j c (value_of (slot_at stack (at + done)))) (λ m. cells_set_by m j place (suc done) (values_from stack (suc (at + done)) n))) there
        ∙ ap (λ q. then_set q (λ m. cells_set_by m j place (suc done) (values_from stack (suc (at + done)) n))) is
        ∙ ap (λ k. cells_set_by m3 j place k (values_from stack (suc (at + done)) n)) e
        ∙ ap (λ k. cells_set_by m3 j place (done + 1) (values_from stack k n)) e2

    one_by : (q : Option Frames) → cell_set f.memory j cell (value_of (slot_at stack (at + done))) ≡ q → HoldsAfter true frames cells2 q → ((r : FrameRef) → Leads frames f.memory r → LeadsAfter frames q r) →
        FilledBy frames cells2 m j place stack at count (done + 1)
    one_by None is h leads = absurd (off (sym h))
    one_by (Some m3) is h leads = record { memory = m3; rest = step_by m3 is; holds = h.1; leads = λ r led. leads r (f.leads r led) }

    pub one_more_by : (v : Value) → v ≡ value_of (slot_at stack (at + done)) → HoldsAfter true frames cells2 (cell_set f.memory j cell v) → ((r : FrameRef) → Leads frames f.memory r → LeadsAfter frames (cell_set f.memory j cell v) r) →
        FilledBy frames cells2 m j place stack at count (done + 1)
    one_more_by v e h leads = one_by (cell_set f.memory j cell v) (ap (λ v. cell_set f.memory j cell v) (sym e)) h leads

-- ---- the cells of a new frame

module _ (m : Frames) (k : ℕ) (b : BlockOf) (g : Beginning) (parent : Option FrameRef) (place : ℕ → Option ℕ) where
  then_rest : (vs : List Value) (n : ℕ) (q : Option Cells) → ((cells : Cells) → cells_set_by (opened_with m k b g parent cells) (length m.instances) place n vs ≡ opened_if m k b g parent (filled_by place n vs (Some cells))) →
      then_set (opened_if m k b g parent q) (λ m2. cells_set_by m2 (length m.instances) place n vs) ≡ opened_if m k b g parent (filled_by place n vs q)
  then_rest vs n None h = ap (λ q. opened_if m k b g parent q) (none_left vs)
    where
      none_left : (vs : List Value) → None ≡ filled_by place n vs None
      none_left [] = refl
      none_left (v ∷ vs) = refl
  then_rest vs n (Some cells) h = h cells

  set_at_last : (cells : Cells) (c : Option ℕ) (v : Value) → set_at (opened_with m k b g parent cells) (length m.instances) c v ≡ opened_if m k b g parent (put_at c v cells)
  set_at_last cells None v = refl
  set_at_last cells (Some c) v = set_in_last m k b g parent cells c v

  pub filled_by_last : (vs : List Value) (n : ℕ) (cells : Cells) → cells_set_by (opened_with m k b g parent cells) (length m.instances) place n vs ≡ opened_if m k b g parent (filled_by place n vs (Some cells))
  filled_by_last [] n cells = refl
  filled_by_last (v ∷ vs) n cells =
      ap (λ q. then_set q (λ m2. cells_set_by m2 (length m.instances) place (suc n) vs)) (set_at_last cells (place n) v)
      ∙ then_rest vs (suc n) (put_at (place n) v cells) (λ cells. filled_by_last vs (suc n) cells)

-- the same for a number that is not 0
pub front_missing_at : (code : CodeOf) (p : ℕ) → (p ≡ 0 → ⊥) → class_numbered code p ≡ None → in_front code p ≡ None
front_missing_at code zero h e = absurd (h refl)
front_missing_at code (suc p) h e = front_missing code p e

pub front_of_block_at : (code : CodeOf) (p : ℕ) (x : ClassOf) (q : Option BlockOf) → (p ≡ 0 → ⊥) → class_numbered code p ≡ Some x → slice_get code.blocks x.block ≡ q → in_front code p ≡ extent q
front_of_block_at code zero x q h e e2 = absurd (h refl)
front_of_block_at code (suc p) x q h e e2 = front_of_block code p x q e e2

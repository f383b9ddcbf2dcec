-- What a frame that goes on top leaves.
use Rattle.std.proofs.Common.{◌≡◌, ℕ, zero, suc, ◌+◌, ◌≤◌, List, [], ◌∷◌, ◌++◌, length, sym, subst, refl, ap, ◌∙◌, arith}
use Rattle.std.specs.Prelude.{Option, Some, None, slice_get}
use Rattle.sim_base.specs.declared.limits.Limits.{Limits}
use Rattle.sim_values.specs.declared.value.FrameRef.{FrameRef}
use Rattle.sim_code.specs.Code.{BlockOf}
use Rattle.sim_code.specs.Machine.{Cells, Frames, Machine, first_cells, in_new, waiting}
use Rattle.sim_code.specs.Outcome.{Run, World}
use Rattle.frame_arena.specs.declared.slot.Slot.{Slot}
use Rattle.frame_arena.specs.Frames.{number_in, stands_first}
use Rattle.frame_arena.specs.Stacks.{values_of}
use Rattle.object_machine.specs.declared.openings.Beginning.{Beginning}
use Rattle.object_machine.specs.declared.machine.Storage.{Storage}
use Rattle.object_machine.specs.declared.machine.Registers.{Registers}
use Rattle.object_machine.specs.declared.machine.Activation as working
use Rattle.object_machine.specs.declared.machine.Flow.{Flow}
use Rattle.object_machine.specs.declared.machine.Flow.TheVariants as flow
use Rattle.object_machine.specs.Covering.{Covers}
use Rattle.object_machine.specs.Calling.{OpensWith, opened_with}
use Rattle.object_machine.specs.Entering.{Opens}
use Rattle.object_machine.specs.Standing.{AllAtWork, AllFit, AtWork, Leaves, Outside, activation_at, activation_of, below_of}
use Rattle.object_machine.proofs.BlockFacts.{same_found}
use Rattle.object_machine.proofs.Departures.{below_more}
use Rattle.object_machine.proofs.Going.{act}

-- a frame that goes on behind its instruction
abbrev pub behind : working.Activation → Registers
behind u = record { thunk = u.registers.thunk; home = u.registers.home; pc = u.registers.pc + 1; depth = u.registers.depth; stage = u.registers.stage }

abbrev pub under_of : working.Activation → working.Activation
under_of u = record { registers = behind u; stack = u.stack }

-- what is true of all those below and of one more
pub all_more : {X : Type 0} (P : X → Type 0) (xs : List X) (x : X) → ((k : ℕ) (u : X) → slice_get xs k ≡ Some u → P u) → P x → (k : ℕ) (u : X) → slice_get (xs ++ x ∷ []) k ≡ Some u → P u
all_more P [] x h hx zero u e = subst P (same_found (Some x) x u refl e) hx
all_more P [] x h hx (suc k) u e = absurd (cc)
all_more P (y ∷ ys) x h hx zero u e = h zero u e
all_more P (y ∷ ys) x h hx (suc k) u e = all_more P ys x (λ k u e. h (suc k) u e) hx k u e

pub more_fit : (below below2 : List working.Activation) (t : working.Activation) → below2 ≡ below ++ t ∷ [] → AllFit below → t.registers.depth ≤ length t.stack.items → AllFit below2
more_fit below below2 t e fit one = subst (λ w. AllFit w) (sym e) (all_more (λ u. u.registers.depth ≤ length u.stack.items) below t fit one)

-- a frame with its first values
pub opens_first : (l : Limits) (p p2 : Storage) (k : ℕ) (b : BlockOf) (g : Beginning) (parent : Option FrameRef) (t : working.Activation) (before : Option (List ℕ)) (now : Outside) (o : World) (m : Frames) → Opens l p p2 k b g parent t before now o m → OpensWith l p p2 k b g parent (first_cells b) t before now o o m
opens_first l p p2 k b g parent t before now o m h = record { stores = h.stores; top = h.top; works = h.works; others = h.others }

module _ (l : Limits) (line : ℕ) (p p2 : Storage) (k : ℕ) (b : BlockOf) (g : Beginning) (parent : Option FrameRef) (cells : Cells) (next : working.Activation) (r : Registers) (stack : List Slot) (below : List working.Activation) (top : working.Activation) (below2 : List working.Activation) (before : Option (List ℕ)) (now : Outside) (o o2 : World) (m : Frames) where
  abbrev pub Entered : Run Machine
  Entered = in_new o2 m k b g.start g.stage (stands_first g.object) (number_in parent) cells (waiting (activation_at r stack) (values_of r.depth stack) ∷ below_of below)

  module _ (h : OpensWith l p p2 k b g parent cells next before now o o2 m) (w : AtWork p2 o2 (opened_with m k b g parent cells) r stack) (s : AllAtWork p o m below) where
    still : (t : working.Activation) → t.registers ≡ record r { pc = r.pc + 1 } → t.stack.items ≡ stack → AtWork p2 o2 (opened_with m k b g parent cells) t.registers t.stack.items
    still t e e2 =
        let r2 : Registers = record r { pc = r.pc + 1 } in
        let w2 : AtWork p2 o2 (opened_with m k b g parent cells) r2 stack = record { home = w.home; slots = w.slots; arrays_lead = w.arrays_lead } in
        subst (λ q. AtWork p2 o2 (opened_with m k b g parent cells) q t.stack.items) (sym e) (subst (λ x. AtWork p2 o2 (opened_with m k b g parent cells) r2 x) (sym e2) w2)

    waits : (t : working.Activation) → t.registers ≡ record r { pc = r.pc + 1 } → t.stack.items ≡ stack → activation_of t ≡ waiting (activation_at r stack) (values_of r.depth stack)
    waits t e e2 =
        let r2 : Registers = record r { pc = r.pc + 1 } in
        ap (λ q. activation_at q t.stack.items) e ∙ ap (λ x. activation_at r2 x) e2 ∙ ap (λ n. act r.thunk r.home.stamp n (values_of r.depth stack) (length stack) r.stage) (let n : r.pc + 1 ≡ suc r.pc = omega arith in n)

    covered : Covers flow.On next r stack below top below2 → Leaves flow.On l line p2 top.registers top.stack.items below2 before now Entered
    unfolding Leaves
    covered c =
        let t = c.1.0 in
        let there = c.1.1 in
        let regs = c.1.2 in
        let items = c.1.3 in
        let chain : below_of below2 ≡ waiting (activation_at r stack) (values_of r.depth stack) ∷ below_of below =
        ap (λ w. below_of w) there ∙ below_more below t ∙ ap (λ a. a ∷ below_of below) (waits t regs items) in
        let first : activation_of top ≡ record { thunk = None; home = length m.instances; pc = g.start; stack = []; room = b.room; stage = g.stage } = ap (λ u. activation_of u) c.0 ∙ h.top in (
          ap (λ a. a ∷ (waiting (activation_at r stack) (values_of r.depth stack) ∷ below_of below)) (sym first) ∙ ap (λ w. activation_of top ∷ w) (sym chain),
          record {
            stores = h.stores;
            top = subst (λ u. AtWork p2 o2 (opened_with m k b g parent cells) u.registers u.stack.items) (sym c.0) h.works;
            others = subst (λ w. AllAtWork p2 o2 (opened_with m k b g parent cells) w) (sym there)
                (all_more (λ u. AtWork p2 o2 (opened_with m k b g parent cells) u.registers u.stack.items) below t (λ n u e. h.others u.registers u.stack.items (s n u e)) (still t regs items));
          },
        )

    pub covered_by : (f : Flow) → Covers f next r stack below top below2 → Leaves f l line p2 top.registers top.stack.items below2 before now Entered
    unfolding Leaves
    covered_by flow.On c = covered c
    covered_by flow.Jumped c = absurd c
    covered_by flow.Normal c = absurd c
    covered_by flow.NoRule c = absurd c
    covered_by flow.TickLimit c = absurd c
    covered_by flow.Exhausted c = absurd c
    covered_by (flow.ExhaustedAt place) c = absurd c
    covered_by (flow.Fault e) c = absurd c
    covered_by (flow.FaultAt e place) c = absurd c
    covered_by flow.Memory c = tt
    covered_by flow.WriteFault c = elim c [ ]
    covered_by flow.InputFault c = elim c [ ]

-- Rows of parameters by name.
use Rattle.std.proofs.Common.{◌≡◌, ℕ, zero, suc, ◌+◌, ◌-◌, ◌<◌, ◌≤◌, List, [], ◌∷◌, ◌++◌, length, sym, subst, refl, ap, ◌∙◌, arith}
use Rattle.std.specs.Prelude.{Bool, true, false, nat_lt, ℤ, Option, Some, None, Err, IfSome, slice_get}
use Rattle.std.specs.declared.alloc.Global.{Global}
use Rattle.std.specs.declared.vec.Vec.{Vec}
use Rattle.sim_base.specs.declared.limits.Limits.{Limits}
use Rattle.sim_base.specs.declared.numbering.Line.{Line}
use Rattle.sim_base.specs.declared.run_error.RunError.TheVariants.{ActualIsNoVariable, OutsideQualification}
use Rattle.sim_code.specs.declared.code.ThunkRecord.{ThunkRecord}
use Rattle.sim_code.specs.declared.instr.Instr.{Instr}
use Rattle.sim_code.specs.declared.instr.Instr.TheVariants as i
use Rattle.sim_code.specs.declared.instr.Lined.{Lined}
use Rattle.sim_code.specs.declared.stage.Stage.TheVariants as stage
use Rattle.sim_code.specs.Code.{CodeOf}
use Rattle.sim_code.specs.Events.{having, no_rule, popping, stopping, when}
use Rattle.sim_code.specs.Instances.{is_live}
use Rattle.sim_code.specs.Machine.{Activation, Address, ArrayValue, Frames, Link, Machine, Of, ProcedureValue, ThunkValue, Value, at, is_roomy, place_in, thunk_in, waiting}
use Rattle.sim_code.specs.Outcome.{Going, Run, RunFault, World}
use Rattle.sim_code.specs.Rows.{row, thunk_ended, thunk_given}
use Rattle.sim_code.specs.Thunks.{in_thunk, instruction_before, is_place, locating, value_given}
use Rattle.frame_arena.specs.declared.frames.Frame.{Frame}
use Rattle.frame_arena.specs.declared.slot.Slot.{Slot}
use Rattle.frame_arena.specs.declared.slot.SlotKind.{SlotKind}
use Rattle.frame_arena.specs.declared.slot.SlotKind.TheVariants as k
use Rattle.frame_arena.specs.Arrays.{AllLeadArrays, RegionOf, SlotLeadsArray}
use Rattle.frame_arena.specs.Frames.{AllLead, Leads, SlotLeads}
use Rattle.frame_arena.specs.Slots.{count_of, value_by, value_of}
use Rattle.frame_arena.specs.Stacks.{values_of}
use Rattle.sim_code.specs.Outcome.{ArrayOf}
use Rattle.object_machine.specs.Arrayed.{value_there}
use Rattle.object_machine.specs.Covering.{Covers}
use Rattle.object_machine.specs.FrameEnds.{ValueLeads}
use Rattle.object_machine.specs.Standing.{AllAtWork, AtWork, Leaves, Outside, Stands, activation_at, activation_of, below_of}
use Rattle.object_machine.specs.Thunking.{Asked, HomeLeads}
use Rattle.object_machine.specs.declared.machine.Storage.{Storage}
use Rattle.object_machine.specs.declared.machine.Registers.{Registers}
use Rattle.object_machine.specs.declared.machine.Activation as working
use Rattle.object_machine.specs.declared.machine.Flow.{Flow}
use Rattle.object_machine.specs.declared.machine.Flow.TheVariants as flow
use Rattle.object_machine.specs.declared.thunks.ThunkInHand.{ThunkInHand}
use Rattle.object_machine.proofs.Covered.{all_more}
use Rattle.object_machine.proofs.Departures.{below_more, get_last}
use Rattle.object_machine.proofs.Going.{act, goes_on}
use Rattle.object_machine.proofs.Having.{having_none, having_some}
use Rattle.object_machine.proofs.Parks.{get_front}
use Rattle.object_machine.proofs.ReadOperands.{values_count}
use Rattle.object_machine.proofs.VirtualRows.{when_fails, when_holds}

-- ---- the thunk that a slot has

pub thunk_is : (s : Slot) → s.kind ≡ k.Thunk → Some (s.more, count_of s.«data») ≡ thunk_in (value_of s)
thunk_is s e = ap (λ j. thunk_in (value_by j s)) (sym e)

other_by : (j : SlotKind) (s : Slot) → (j ≡ k.Thunk → ⊥) → None ≡ thunk_in (value_by j s)
other_by k.Empty s h = refl
other_by k.Integer s h = refl
other_by k.Truth s h = refl
other_by k.Character s h = refl
other_by k.Text s h = refl
other_by k.Nothing s h = refl
other_by k.Object s h = refl
other_by k.Main s h = refl
other_by k.Link s h = refl
other_by k.Cell s h = refl
other_by k.Element s h = refl
other_by k.Image s h = refl
other_by k.Array s h = refl
other_by k.Procedure s h = refl
other_by k.Thunk s h = absurd (h refl)

pub no_thunk : (s : Slot) → (s.kind ≡ k.Thunk → ⊥) → None ≡ thunk_in (value_of s)
no_thunk s h = other_by s.kind s h

pub home_leads : (r : Option ThunkInHand) (fs : List Frame) (m : Frames) (s : Slot) → IfSome r (λ t. (frames : List Frame) (m : Frames) → SlotLeads frames m s → Leads frames m t.home) → SlotLeads fs m s → HomeLeads fs m r
home_leads None fs m s h led = tt
home_leads (Some t) fs m s h led = h fs m led

-- ---- a thunk begins

-- an operand stack has room for one more value where it is not full
pub roomy : (r : Registers) (stack : List Slot) → r.depth ≤ length stack → r.depth < length stack → is_roomy (activation_at r stack) ≡ true
roomy r stack fits free = let e = values_count r.depth stack fits in let n : nat_lt (length (values_of r.depth stack)) (length stack) ≡ true = grind (arith, e, free) in n

pub full : (r : Registers) (stack : List Slot) → r.depth ≤ length stack → length stack ≤ r.depth → is_roomy (activation_at r stack) ≡ false
full r stack fits filled = let e = values_count r.depth stack fits in let n : nat_lt (length (values_of r.depth stack)) (length stack) ≡ false = grind (arith, e, filled) in n

module _ (code : CodeOf) (o : World) (m : Frames) (t home : ℕ) (below : List Activation) where
  abbrev Begun_at : ThunkRecord → Run Machine
  Begun_at x = Going o (record { chain = act (Some t) home x.entry [] x.room stage.NoStage ∷ below; memory = m })

  abbrev Entry : ThunkRecord → Run Machine
  Entry x = having (slice_get code.instrs x.entry) o (λ _. Begun_at x)

  abbrev Found : Run Machine
  Found = having (slice_get code.thunks t) o (λ x. Entry x)

  pub home_gone : is_live m home ≡ false → in_thunk code o m t home below ≡ no_rule o
  unfolding in_thunk
  home_gone e = when_fails (is_live m home) o Found e

  missing_where : (b : Bool) → slice_get code.thunks t ≡ None → when b o Found ≡ no_rule o
  missing_where true e = when_holds true o Found refl ∙ having_none (slice_get code.thunks t) o (λ x. Entry x) (sym e)
  missing_where false e = when_fails false o Found refl

  pub thunk_missing : slice_get code.thunks t ≡ None → in_thunk code o m t home below ≡ no_rule o
  unfolding in_thunk
  thunk_missing e = missing_where (is_live m home) e

  module _ (live : is_live m home ≡ true) where
    pub no_such_thunk : slice_get code.thunks t ≡ None → in_thunk code o m t home below ≡ no_rule o
    unfolding in_thunk
    no_such_thunk e = when_holds (is_live m home) o Found live ∙ having_none (slice_get code.thunks t) o (λ x. Entry x) (sym e)

    module _ (x : ThunkRecord) (there : slice_get code.thunks t ≡ Some x) where
      thunk_there : in_thunk code o m t home below ≡ Entry x
      unfolding in_thunk
      thunk_there = when_holds (is_live m home) o Found live ∙ having_some (slice_get code.thunks t) x o (λ x. Entry x) (sym there)

      pub no_entry : slice_get code.instrs x.entry ≡ None → in_thunk code o m t home below ≡ no_rule o
      no_entry e = thunk_there ∙ having_none (slice_get code.instrs x.entry) o (λ _. Begun_at x) (sym e)

      pub begun : (y : Lined) → slice_get code.instrs x.entry ≡ Some y → in_thunk code o m t home below ≡ Begun_at x
      begun y e = thunk_there ∙ having_some (slice_get code.instrs x.entry) y o (λ _. Begun_at x) (sym e)

-- which operand stacks are idle does not matter
pub stands_idle : (l : Limits) (p : Storage) (idle : Vec (Vec Slot Global) Global) (r : Registers) (stack : List Slot) (below : List working.Activation) (before : Option (List ℕ)) (now : Outside) (o : World) (m : Frames) →
    Stands l p r stack below before now o m → Stands l (record p { idle = idle }) r stack below before now o m
stands_idle l p idle r stack below before now o m s = record {
  stores = record {
    world = record { ticks = s.stores.world.ticks; words = s.stores.world.words; texts = s.stores.world.texts; image = s.stores.world.image; written = s.stores.world.written };
    budget = s.stores.budget;
    frames = s.stores.frames;
    entered = s.stores.entered;
    arrays = s.stores.arrays;
    cells = s.stores.cells;
    elements = s.stores.elements;
    parks = s.stores.parks;
    members = s.stores.members;
    simulations = s.stores.simulations;
  };
  top = s.top;
  others = s.others;
}

-- it goes on top of the chain
module _ (l : Limits) (line : ℕ) (p : Storage) (next : working.Activation) (r : Registers) (stack : List Slot) (below : List working.Activation) (top : working.Activation) (below2 : List working.Activation) (before : Option (List ℕ)) (now : Outside) (o : World) (m : Frames)
    (s : Stands l p r stack below before now o m) (w : AtWork p o m next.registers next.stack.items) where
  abbrev pub OnTop : Run Machine
  OnTop = Going o (record { chain = activation_of next ∷ waiting (activation_at r stack) (values_of r.depth stack) ∷ below_of below; memory = m })

  still : (t : working.Activation) → t.registers ≡ record r { pc = r.pc + 1 } → t.stack.items ≡ stack → AtWork p o m t.registers t.stack.items
  still t e e2 =
      let r2 : Registers = record r { pc = r.pc + 1 } in
      let w2 : AtWork p o m r2 stack = record { home = s.top.home; slots = s.top.slots; arrays_lead = s.top.arrays_lead } in
      subst (λ q. AtWork p o m q t.stack.items) (sym e) (subst (λ x. AtWork p o m r2 x) (sym e2) w2)

  waits : (t : working.Activation) → t.registers ≡ record r { pc = r.pc + 1 } → t.stack.items ≡ stack → activation_of t ≡ waiting (activation_at r stack) (values_of r.depth stack)
  waits t e e2 =
      let r2 : Registers = record r { pc = r.pc + 1 } in
      ap (λ q. activation_at q t.stack.items) e ∙ ap (λ x. activation_at r2 x) e2 ∙ ap (λ n. act r.thunk r.home.stamp n (values_of r.depth stack) (length stack) r.stage) (let n : r.pc + 1 ≡ suc r.pc = omega arith in n)

  on_top : Covers flow.On next r stack below top below2 → Leaves flow.On l line p top.registers top.stack.items below2 before now OnTop
  unfolding Leaves
  on_top c =
      let t = c.1.0 in
      let there = c.1.1 in
      let under = waiting (activation_at r stack) (values_of r.depth stack) in
      let chain : below_of below2 ≡ under ∷ below_of below = ap (λ w. below_of w) there ∙ below_more below t ∙ ap (λ a. a ∷ below_of below) (waits t c.1.2 c.1.3) in
      let first : activation_of top ≡ activation_of next = ap (λ u. activation_of u) c.0 in (
        ap (λ a. a ∷ (under ∷ below_of below)) (sym first) ∙ ap (λ w. activation_of top ∷ w) (sym chain),
        record {
          stores = s.stores;
          top = subst (λ u. AtWork p o m u.registers u.stack.items) (sym c.0) w;
          others = subst (λ w. AllAtWork p o m w) (sym there) (all_more (λ u. AtWork p o m u.registers u.stack.items) below t s.others (still t c.1.2 c.1.3));
        },
      )

  pub on_top_by : (f : Flow) → Covers f next r stack below top below2 → Leaves f l line p top.registers top.stack.items below2 before now OnTop
  unfolding Leaves
  on_top_by flow.On c = on_top c
  on_top_by flow.Jumped c = absurd c
  on_top_by flow.Normal c = absurd c
  on_top_by flow.NoRule c = absurd c
  on_top_by flow.TickLimit c = absurd c
  on_top_by flow.Exhausted c = absurd c
  on_top_by (flow.ExhaustedAt place) c = absurd c
  on_top_by (flow.Fault e) c = absurd c
  on_top_by (flow.FaultAt e place) c = absurd c
  on_top_by flow.Memory c = tt
  on_top_by flow.WriteFault c = elim c [ ]
  on_top_by flow.InputFault c = elim c [ ]

-- ---- what a thunk gives

place_by : (j : SlotKind) (s : Slot) → (j ≡ k.Cell → ⊥) → (j ≡ k.Element → ⊥) → (j ≡ k.Image → ⊥) → false ≡ is_place (value_by j s)
place_by k.Empty s h1 h2 h3 = refl
place_by k.Integer s h1 h2 h3 = refl
place_by k.Truth s h1 h2 h3 = refl
place_by k.Character s h1 h2 h3 = refl
place_by k.Text s h1 h2 h3 = refl
place_by k.Nothing s h1 h2 h3 = refl
place_by k.Object s h1 h2 h3 = refl
place_by k.Main s h1 h2 h3 = refl
place_by k.Link s h1 h2 h3 = refl
place_by k.Cell s h1 h2 h3 = absurd (h1 refl)
place_by k.Element s h1 h2 h3 = absurd (h2 refl)
place_by k.Image s h1 h2 h3 = absurd (h3 refl)
place_by k.Array s h1 h2 h3 = refl
place_by k.Procedure s h1 h2 h3 = refl
place_by k.Thunk s h1 h2 h3 = refl

pub is_no_place : (s : Slot) → (s.kind ≡ k.Cell → ⊥) → (s.kind ≡ k.Element → ⊥) → (s.kind ≡ k.Image → ⊥) → false ≡ is_place (value_of s)
is_no_place s h1 h2 h3 = place_by s.kind s h1 h2 h3

module _ (o : World) (m : Frames) where
  pub given_there : (v : Value) → is_place v ≡ true → value_there o m (place_in v) ≡ value_given o m v
  given_there (Address p) e = refl
  given_there (Of x) e = absurd (cc)
  given_there (Link j) e = absurd (cc)
  given_there (ArrayValue a) e = absurd (cc)
  given_there (ProcedureValue b j) e = absurd (cc)
  given_there (ThunkValue t j) e = absurd (cc)

  pub given_itself : (v : Value) → is_place v ≡ false → Some v ≡ value_given o m v
  given_itself (Address p) e = absurd (cc)
  given_itself (Of x) e = refl
  given_itself (Link j) e = refl
  given_itself (ArrayValue a) e = refl
  given_itself (ProcedureValue b j) e = refl
  given_itself (ThunkValue t j) e = refl

pub both_lead : (fs : List Frame) (m : Frames) (regions : List RegionOf) (arrays : List ArrayOf) (v : Option Slot) → IfSome v (λ s. SlotLeads fs m s) → IfSome v (λ s. SlotLeadsArray regions arrays s) → ValueLeads fs m regions arrays v
both_lead fs m regions arrays None h h2 = tt
both_lead fs m regions arrays (Some s) h h2 = (h, h2)

-- where a variable lies, or its value
module _ (line : ℕ) (o : World) (r : Run Machine) where
  pub either_will_do : (b : Bool) → locating line b true o r ≡ r
  unfolding locating
  either_will_do true = refl
  either_will_do false = refl

  pub place_will_do : (b c : Bool) → b ≡ true → locating line b c o r ≡ r
  unfolding locating
  place_will_do b c e = ap (λ b. locating line b c o r) e

  pub no_variable : (b : Bool) → b ≡ false → locating line b false o r ≡ stopping (RunFault ActualIsNoVariable line) o
  unfolding locating
  no_variable b e = ap (λ b. locating line b false o r) e

-- an instruction that runs no thunk asks for nothing
pub asks_nothing : (code : CodeOf) (l : Limits) (o : World) (m : Frames) (b : Activation) (rest : List Activation) (v : Value) (line : ℕ) (x : Instr) → ((z c class : ℤ) → x ≡ i.NameVal z c class → ⊥) → ((z c value : ℤ) → x ≡ i.NameAddr z c value → ⊥) → ((n t p : ℤ) → x ≡ i.Param n t p → ⊥) →
    thunk_given code l o m b rest v line x ≡ no_rule o
asks_nothing code l o m b rest v line (i.NameVal z c class) h h2 h3 = absurd (h z c class refl)
asks_nothing code l o m b rest v line (i.NameAddr z c value) h h2 h3 = absurd (h2 z c value refl)
asks_nothing code l o m b rest v line (i.Param n t p) h h2 h3 = absurd (h3 n t p refl)
asks_nothing code l o m b rest v line _ h h2 h3 = refl

-- ---- it goes to the activation that waits

pub before_is : (code : CodeOf) (n : ℕ) → (n ≡ 0 → ⊥) → instruction_before code n ≡ slice_get code.instrs (n - 1)
before_is code zero h = absurd (h refl)
before_is code (suc n) h = let e : n ≡ suc n - 1 = omega arith in ap (λ n. slice_get code.instrs n) e

module _ (code : CodeOf) (l : Limits) (line : ℕ) (p : Storage) (r : Registers) (stack : List Slot) (below : List working.Activation) (before : Option (List ℕ)) (now : Outside) (o : World) (m : Frames) (v : Value) (s : Stands l p r stack below before now o m) where
  abbrev pub Handed : Run Machine
  Handed = thunk_ended code l o m v (activation_at r stack ∷ below_of below)

  abbrev pub Given : Lined → Run Machine
  Given x = thunk_given code l o m (activation_at r stack) (below_of below) v x.line.0 x.instr

  pub at_start : r.pc ≡ 0 → Handed ≡ no_rule o
  at_start e = having_none (instruction_before code r.pc) o Given (sym (ap (instruction_before code) e))

  module _ (some : r.pc ≡ 0 → ⊥) where
    pub none_before : slice_get code.instrs (r.pc - 1) ≡ None → Handed ≡ no_rule o
    none_before e = having_none (instruction_before code r.pc) o Given (sym (before_is code r.pc some ∙ e))

    pub one_before : (x : Lined) → slice_get code.instrs (r.pc - 1) ≡ Some x → Handed ≡ Given x
    one_before x e = having_some (instruction_before code r.pc) x o Given (sym (before_is code r.pc some ∙ e))

-- ---- what was asked for goes to the activation that waits

module _ (l : Limits) (line : ℕ) (p : Storage) (r : Registers) (stack : List Slot) (below : List working.Activation) (before : Option (List ℕ)) (now : Outside) (o : World) (m : Frames) (run : Run Machine) (s : Stands l p r stack below before now o m) where
  module _ (r2 : Registers) (stack2 : List Slot) where
    pub asked_ends : (f : Flow) → Asked (Err f) o m (activation_at r stack) (below_of below) run → Leaves f l line p r2 stack2 below before now run
    unfolding Leaves no_rule stopping
    asked_ends flow.On h = absurd h
    asked_ends flow.Jumped h = absurd h
    asked_ends flow.Normal h = absurd h
    asked_ends flow.NoRule h = subst (λ q. Leaves flow.NoRule l line p r2 stack2 below before now q) (sym h) (refl, s.stores.world.written)
    asked_ends flow.TickLimit h = absurd h
    asked_ends flow.Exhausted h = absurd h
    asked_ends (flow.ExhaustedAt place) h = absurd h
    asked_ends (flow.Fault e) h = absurd h
    asked_ends (flow.FaultAt e place) h = subst (λ q. Leaves (flow.FaultAt e place) l line p r2 stack2 below before now q) (sym h) (refl, (o, s.stores.world, refl))
    asked_ends flow.Memory h = tt
    asked_ends flow.WriteFault h = absurd h
    asked_ends flow.InputFault h = absurd h

  abbrev pub Behind : List Value → Run Machine
  Behind values = at o m (activation_at r stack) r.pc values (below_of below)

  pub value_goes : (r2 : Registers) (stack2 : List Slot) → r2.home ≡ r.home → r2.stage ≡ r.stage → r2.thunk ≡ r.thunk → r.pc ≡ r2.pc → length stack ≡ length stack2 → AllLead p.frames.items m stack2 → AllLeadArrays p.arrays.regions o.arrays stack2 →
      Leaves flow.On l line p r2 stack2 below before now (Behind (values_of r2.depth stack2))
  value_goes r2 stack2 home stage thunk pc long slots arrays = goes_on l line p below before now r r2 stack stack2 o m r.pc (values_of r2.depth stack2) (length stack) s (home, stage, thunk) slots arrays pc refl long

-- an error of the instruction that asked
pub fault_there : (l : Limits) (line : ℕ) (p : Storage) (r : Registers) (stack : List Slot) (below : List working.Activation) (before : Option (List ℕ)) (now : Outside) (o : World) (m : Frames) (place : Line) → Stands l p r stack below before now o m →
    Leaves (flow.FaultAt OutsideQualification place) l line p r stack below before now (stopping (RunFault OutsideQualification place.0) o)
unfolding Leaves stopping
fault_there l line p r stack below before now o m place s = (refl, (o, s.stores.world, refl))

-- ---- a thunk ends

module _ (l : Limits) (line : ℕ) (p : Storage) (r : Registers) (stack : List Slot) (below rest : List working.Activation) (next : working.Activation) (before : Option (List ℕ)) (now : Outside) (o : World) (m : Frames) (e : below ≡ rest ++ next ∷ []) where
  -- the machine without the top one
  pub waiting_stands : Stands l p r stack below before now o m → Stands l p next.registers next.stack.items rest before now o m
  waiting_stands s = record {
    stores = s.stores;
    top = s.others (length rest) next (subst (λ w. slice_get w (length rest) ≡ Some next) (sym e) (get_last rest next));
    others = λ k u there. s.others k u (subst (λ w. slice_get w k ≡ Some u) (sym e) (get_front rest (next ∷ []) k u there));
  }

  pub ends_onto : (code : CodeOf) (v : Value) → thunk_ended code l o m v (below_of below) ≡ thunk_ended code l o m v (activation_of next ∷ below_of rest)
  ends_onto code v = ap (λ w. thunk_ended code l o m v w) (ap (λ w. below_of w) e ∙ below_more rest next)

module _ (code : CodeOf) (l : Limits) (o : World) (m : Frames) (r : Registers) (stack : List Slot) (below : List Activation) (line : ℕ) where
  abbrev pub EndsWith : Value → List Value → Run Machine
  EndsWith v rest = thunk_ended code l o m v below

  abbrev pub Ending : Run Machine
  Ending = popping (values_of r.depth stack) o EndsWith

  pub no_thunk_ends : r.thunk ≡ None → row code l o m (activation_at r stack) below line i.EndThunk ≡ no_rule o
  no_thunk_ends e = having_none r.thunk o (λ _. Ending) (sym e)

  pub thunk_ends : (t : ℕ) → r.thunk ≡ Some t → row code l o m (activation_at r stack) below line i.EndThunk ≡ Ending
  thunk_ends t e = having_some r.thunk t o (λ _. Ending) (sym e)

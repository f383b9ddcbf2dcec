-- Levels, cells and writes into them.
use Rattle.std.proofs.Common.{◌≡◌, ℕ, ◌+◌, ◌≤◌, List, length, length-set, sym, subst, refl, ap, ◌∙◌}
use Rattle.std.proofs.lemmas.Option.{slice_get_within}
use Rattle.std.specs.Prelude.{ℤ, true, false, nat_lt, Option, Some, None}
use Rattle.sim_values.specs.declared.value.FrameRef.{FrameRef}
use Rattle.sim_base.specs.declared.limits.Limits.{Limits}
use Rattle.sim_chains.specs.Components.{Standing}
use Rattle.sim_code.specs.Instances.{Instance, at_level, cells_in, cells_of, cells_put, is_live, is_live_in, live, unless_given}
use Rattle.sim_code.specs.Events.{having, no_rule}
use Rattle.sim_code.specs.Machine.{Activation, Cells, Frames, Machine, Value, cell_at, cell_set, has_cell, has_cell_in, index, level, number, on, put_in}
use Rattle.sim_code.specs.Outcome.{ArrayOf, World, Run}
use Rattle.frame_arena.specs.declared.frames.Frame.{Frame}
use Rattle.frame_arena.specs.declared.frames.Span.{Span}
use Rattle.frame_arena.specs.declared.slot.Slot.{Slot}
use Rattle.frame_arena.specs.Arrays.{AllLeadArrays, ElementsLead, HoldsArrays, RegionOf, SlotLeadsArray}
use Rattle.frame_arena.specs.Frames.{AllLead, Has, Holds, HoldsAfter, IsSpan, Leads, LeadsAfter, SlotLeads, frame_at}
use Rattle.frame_arena.specs.Stacks.{slot_at, values_of}
use Rattle.frame_arena.proofs.Reading.{cell_count}
use Rattle.object_machine.specs.declared.machine.Storage.{Storage}
use Rattle.object_machine.specs.declared.machine.Registers.{Registers}
use Rattle.object_machine.specs.declared.machine.Activation as working
use Rattle.object_machine.specs.declared.machine.Flow.TheVariants as flow
use Rattle.object_machine.specs.Placing.{IsPlaced, placed_in}
use Rattle.object_machine.specs.Enrolling.{Enrolled}
use Rattle.object_machine.specs.Simulating.{Simulating}
use Rattle.object_machine.specs.Standing.{Leaves, Outside, Parks, SameBut, Stands, Works, activation_at, below_of, ports_of}
use Rattle.object_machine.proofs.Going.{Stays, moved_behind}
use Rattle.object_machine.proofs.Linkages.{enrolled_in}
use Rattle.object_machine.proofs.Simulations.{simulating_in}
use Rattle.object_machine.proofs.Parks.{parks_later}
use Rattle.object_machine.proofs.Scalars.{off}

-- a frame that is there is led to
pub has_leads : (fs : List Frame) (cells : List Slot) (m : Frames) (f : FrameRef) → Holds fs cells m → Has fs f.frame f.stamp → Leads fs m f
has_leads fs cells m f h has = (slice_get_within m.instances f.stamp _ (h.known f.frame f.stamp has), λ _. has)

-- ---- levels

module _ (m : Frames) (a : Activation) (z : ℤ) (o : World) (go : ℕ → Run Machine) where
  pub no_level : None ≡ number z → level m a z o go ≡ having {A = ℕ} None o go
  unfolding level index having
  no_level e = ap (λ n. having n o (λ l. having (at_level m l a.home) o go)) (sym e)

  pub some_level : (n h : ℕ) (r : Option ℕ) → Some n ≡ number z → a.home ≡ h → r ≡ at_level m n h → level m a z o go ≡ having r o go
  unfolding level index having
  some_level n h r e e2 e3 = ap (λ n. having n o (λ l. having (at_level m l a.home) o go)) (sym e) ∙ ap (λ j. having (at_level m n j) o go) e2 ∙ ap (λ q. having q o go) (sym e3)

-- ---- a cell of a level

module _ (m : Frames) (a : Activation) (z c : ℤ) (o : World) (go : ℕ → ℕ → Run Machine) where
  abbrev pub Then : ℕ → Run Machine
  Then j = index c o (λ c. go j c)

  pub no_frame : level m a z o Then ≡ having {A = ℕ} None o Then → cell_at m a z c o go ≡ no_rule o
  unfolding cell_at having
  no_frame e = e

  pub no_number : (j : ℕ) → level m a z o Then ≡ having (Some j) o Then → None ≡ number c → cell_at m a z c o go ≡ no_rule o
  unfolding cell_at having index
  no_number j e n = e ∙ ap (λ k. having k o (λ c. go j c)) (sym n)

  pub at_cell : (j k : ℕ) → level m a z o Then ≡ having (Some j) o Then → Some k ≡ number c → cell_at m a z c o go ≡ go j k
  unfolding cell_at having index
  at_cell j k e n = e ∙ ap (λ k. having k o (λ c. go j c)) (sym n)

  -- a cell that the frame has, or has not
  pub not_in_frame : (j : ℕ) (go2 : ℕ → Run Machine) → level m a z o Then ≡ having (Some j) o Then → Then j ≡ having None o go2 → cell_at m a z c o go ≡ no_rule o
  unfolding cell_at having
  not_in_frame j go2 e e2 = e ∙ e2

  pub in_frame : (j k : ℕ) (go2 : ℕ → Run Machine) → level m a z o Then ≡ having (Some j) o Then → Then j ≡ having (Some k) o go2 → cell_at m a z c o go ≡ go2 k
  unfolding cell_at having
  in_frame j k go2 e e2 = e ∙ e2

-- ---- the cells of a frame

module _ (fs : List Frame) (cells : List Slot) (m : Frames) (h : Holds fs cells m) where
  pub cells_counted : (span : Span) → IsSpan fs span → (c : ℕ) → has_cell m span.number c ≡ nat_lt c span.cells
  cells_counted span is c =
      let f = frame_at fs span.region in
      ap (λ x. has_cell_in (cells_in (unless_given x)) c) (h.known span.region span.number is.has) ∙ ap (nat_lt c) (cell_count cells f.base f.cells ∙ is.cells)

cells_gone : (x : Option (Instance Cells)) (c : ℕ) → (is_live_in x ≡ true → ⊥) → has_cell_in (cells_in x) c ≡ false
cells_gone None c gone = refl
cells_gone (Some x) c gone = absurd (gone refl)

pub no_cells : (m : Frames) (j c : ℕ) → (is_live m j ≡ true → ⊥) → has_cell m j c ≡ false
no_cells m j c gone = cells_gone (live m j) c gone

none_found : (r : Option ℕ) (o : World) (go : ℕ → Run Machine) → ((n : ℕ) → go n ≡ no_rule o) → having r o go ≡ no_rule o
unfolding having
none_found None o go none = refl
none_found (Some n) o go none = none n

-- whatever the index, there is no rule
pub never : (z : ℤ) (o : World) (go : ℕ → Run Machine) → ((n : ℕ) → go n ≡ no_rule o) → index z o go ≡ no_rule o
unfolding index
never z o go none = none_found (number z) o go none

-- ---- what a slot among all is led to

pub led_at : (fs : List Frame) (m : Frames) (slots : List Slot) (s : Slot) → AllLead fs m slots → (k : ℕ) × (s ≡ slot_at slots k) → SlotLeads fs m s
led_at fs m slots s all lies = subst (λ z. SlotLeads fs m z) (sym lies.1) (all lies.0)

pub led_array_at : (regions : List RegionOf) (arrays : List ArrayOf) (slots : List Slot) (s : Slot) → AllLeadArrays regions arrays slots → (k : ℕ) × (s ≡ slot_at slots k) → SlotLeadsArray regions arrays s
led_array_at regions arrays slots s all lies = subst (λ z. SlotLeadsArray regions arrays z) (sym lies.1) (all lies.0)

-- ---- a write

pub lead_later : (fs fs2 : List Frame) (m m2 : Frames) → ((r : FrameRef) → Leads fs m r → Leads fs2 m2 r) → (slots : List Slot) → AllLead fs m slots → AllLead fs2 m2 slots
lead_later fs fs2 m m2 later slots all at names = later _ (all at names)

put_count : (m : Frames) (j : ℕ) (x : Option (Instance Cells)) (cells : Option Cells) (m2 : Frames) → cells_put m j x cells ≡ Some m2 → length m2.instances ≡ length m.instances
put_count m j (Some x) (Some cells) m2 e = sym (ap count e) ∙ length-set m.instances j (record x { cells = cells })
  where
    count : Option Frames → ℕ
    count None = 0
    count (Some m) = length m.instances
put_count m j (Some x) None m2 e = absurd (cc)
put_count m j None cells m2 e = absurd (cc)

pub set_count : (m : Frames) (j c : ℕ) (v : Value) (m2 : Frames) → cell_set m j c v ≡ Some m2 → length m2.instances ≡ length m.instances
set_count m j c v m2 e = put_count m j (live m j) (put_in (cells_of m j) c v) m2 e

put_standings : (m : Frames) (j : ℕ) (x : Option (Instance Cells)) (cells : Option Cells) (m2 : Frames) → cells_put m j x cells ≡ Some m2 → m2.standings ≡ m.standings
put_standings m j (Some x) (Some cells) m2 e = sym (ap standings e)
  where
    standings : Option Frames → List (Standing Activation)
    standings None = m.standings
    standings (Some w) = w.standings
put_standings m j (Some x) None m2 e = absurd (cc)
put_standings m j None cells m2 e = absurd (cc)

set_standings : (m : Frames) (j c : ℕ) (v : Value) (m2 : Frames) → cell_set m j c v ≡ Some m2 → m2.standings ≡ m.standings
set_standings m j c v m2 e = put_standings m j (live m j) (put_in (cells_of m j) c v) m2 e

works_written : (fs : List Frame) (m m2 : Frames) (regions : List RegionOf) (arrays : List ArrayOf) → ((f : FrameRef) → Leads fs m f → Leads fs m2 f) → (q q2 : Registers) (slots : List Slot) → q2.home ≡ q.home →
    Works fs m regions arrays q slots → Works fs m2 regions arrays q2 slots
works_written fs m m2 regions arrays later q q2 slots e x = record {
  home = later q2.home (subst (λ f. Leads fs m f) (sym e) x.home);
  slots = lead_later fs fs m m2 later slots x.slots;
  arrays_lead = x.arrays_lead;
}

module _ (l : Limits) (line : ℕ) (p p2 : Storage) (same : SameBut p p2) (below : List working.Activation) (before : Option (List ℕ)) (now : Outside) (r r2 : Registers) (stack : List Slot) (o : World) (m : Frames) where
  stands_written : (m2 : Frames) → Stands l p r stack below before now o m → r2.home ≡ r.home →
      Holds p.frames.items p2.cells.items m2 → AllLeadArrays p.arrays.regions o.arrays p2.cells.items → length m2.instances ≡ length m.instances → m2.standings ≡ m.standings → ((f : FrameRef) → Leads p.frames.items m f → Leads p.frames.items m2 f) →
      Stands l p2 r2 stack below before now o m2
  stands_written m2 s e h arrays count standings later = record {
    stores = record {
      world = record {
        ticks = s.stores.world.ticks ∙ sym same.ticks;
        words = s.stores.world.words ∙ sym same.words;
        texts = s.stores.world.texts ∙ sym same.texts;
        image = s.stores.world.image ∙ ap (λ i. ports_of i now.source) (sym same.image);
        written = s.stores.world.written;
      };
      budget = subst (λ n. n ≤ l.storage) (sym same.words) s.stores.budget;
      frames = subst (λ v. Holds v.items p2.cells.items m2) (sym same.frames) h;
      entered = same.entered ∙ s.stores.entered ∙ sym count;
      arrays = subst (λ a. HoldsArrays a o.arrays) (sym same.arrays) s.stores.arrays;
      cells = subst (λ a. AllLeadArrays a.regions o.arrays p2.cells.items) (sym same.arrays) arrays;
      elements = subst (λ v. ElementsLead v.items m2 p2.arrays.regions) (sym same.frames) (subst (λ a. ElementsLead p.frames.items m2 a.regions) (sym same.arrays) (λ place at names. later _ (s.stores.elements place at names)));
      parks = subst (λ v. Parks v.items p2.parks.items m2 p2.arrays.regions o.arrays) (sym same.frames) (subst (λ v. Parks p.frames.items v.items m2 p2.arrays.regions o.arrays) (sym same.parks) (subst (λ a. Parks p.frames.items p.parks.items m2 a.regions o.arrays) (sym same.arrays)
          (parks_later p.frames.items p.parks.items m m2 p.arrays.regions p.arrays.regions o.arrays o.arrays standings (λ q slots x. works_written p.frames.items m m2 p.arrays.regions o.arrays later q q slots refl x) s.stores.parks)));
      members = subst (λ v. Enrolled v.items m2 p2.members o.members) (sym same.frames) (enrolled_in p.frames.items p.frames.items m m2 p.members o.members p2.members same.members later s.stores.members);
      simulations = subst (λ v. Simulating v.items m2 p2.simulations.items o.simulations) (sym same.frames) (simulating_in p.frames.items p.frames.items m m2 p.simulations.items o.simulations p2.simulations.items (ap (λ v. v.items) same.simulations) later s.stores.simulations);
    };
    top = subst (λ v. Works v.items m2 p2.arrays.regions o.arrays r2 stack) (sym same.frames) (subst (λ a. Works p.frames.items m2 a.regions o.arrays r2 stack) (sym same.arrays) (works_written p.frames.items m m2 p.arrays.regions o.arrays later r r2 stack e s.top));
    others = λ k t there. subst (λ v. Works v.items m2 p2.arrays.regions o.arrays t.registers t.stack.items) (sym same.frames) (subst (λ a. Works p.frames.items m2 a.regions o.arrays t.registers t.stack.items) (sym same.arrays)
        (works_written p.frames.items m m2 p.arrays.regions o.arrays later t.registers t.registers t.stack.items refl (s.others k t there)));
  }

  pub write_on : (j c depth : ℕ) (v : Value) (q : Option Frames) → cell_set m j c v ≡ q → HoldsAfter true p.frames.items p2.cells.items q → ((f : FrameRef) → Leads p.frames.items m f → LeadsAfter p.frames.items q f) →
      AllLeadArrays p.arrays.regions o.arrays p2.cells.items → Stands l p r stack below before now o m → Stays r r2 → r2.pc ≡ r.pc + 1 → r2.depth ≡ depth →
      Leaves flow.On l line p2 r2 stack below before now (having q o (λ m. on o m (activation_at r stack) (values_of depth stack) (below_of below)))
  unfolding having Leaves
  write_on j c depth v None e h leads arrays s e1 e2 e3 = absurd (off (sym h))
  write_on j c depth v (Some m2) e h leads arrays s e1 e2 e3 =
      let t = stands_written m2 s e1.0 h.1 arrays (set_count m j c v m2 e) (set_standings m j c v m2 e) leads in
      (moved_behind r r2 stack depth below e1 e2 e3, t)

  -- a value is in the cell where an address leads
  pub cell_placed : (address value : Slot) (j c : ℕ) (v : Value) (q : Option Frames) → cell_set m j c v ≡ q → HoldsAfter true p.frames.items p2.cells.items q → ((f : FrameRef) → Leads p.frames.items m f → LeadsAfter p.frames.items q f) →
      AllLeadArrays p.arrays.regions o.arrays p2.cells.items → Stands l p r stack below before now o m → ((go : World → Frames → Run Machine) → placed_in o m address value go ≡ having (cell_set m j c v) o (λ n. go o n)) → r2.home ≡ r.home →
      IsPlaced l p2 r2 stack below before now o m address value
  unfolding having
  cell_placed address value j c v None e h leads arrays s is e1 = absurd (off (sym h))
  cell_placed address value j c v (Some m2) e h leads arrays s is e1 = record {
    world = o;
    memory = m2;
    is = λ go. is go ∙ ap (λ w. having w o (λ n. go o n)) e;
    stands = stands_written m2 s e1 h.1 arrays (set_count m j c v m2 e) (set_standings m j c v m2 e) leads;
  }

  pub cell_not_placed : (cells : List Slot) (q : Option Frames) → HoldsAfter false p.frames.items cells q → (go : Frames → Run Machine) → having q o go ≡ no_rule o
  unfolding having
  cell_not_placed cells None h go = refl
  cell_not_placed cells (Some m2) h go = absurd (off h.0)

  pub write_off : (cells : List Slot) (q : Option Frames) (go : Frames → Run Machine) → HoldsAfter false p.frames.items cells q → Stands l p r stack below before now o m → Leaves flow.NoRule l line p2 r2 stack below before now (having q o go)
  unfolding having no_rule Leaves
  write_off cells None go h s = (refl, s.stores.world.written)
  write_off cells (Some m2) go h s = absurd (off h.0)

-- A new frame that gets its actual parameters.
use Rattle.std.proofs.Common.{◌≡◌, ℕ, ◌≤◌, List, [], ◌∷◌, length, length-append, sym, subst, refl, ap, ◌∙◌}
use Rattle.std.specs.Prelude.{Option, Some, None, slice_get}
use Rattle.sim_base.specs.declared.limits.Limits.{Limits}
use Rattle.sim_values.specs.declared.value.FrameRef.{FrameRef}
use Rattle.sim_code.specs.Arrays.{handed_over, owned_by}
use Rattle.sim_code.specs.Code.{BlockOf}
use Rattle.sim_code.specs.Machine.{Cells, Frames, Value, filled, first_cells}
use Rattle.sim_code.specs.Outcome.{ArrayOf, World}
use Rattle.frame_arena.specs.declared.frames.Frame.{Frame}
use Rattle.frame_arena.specs.declared.slot.Slot.{Slot}
use Rattle.frame_arena.specs.Arrays.{AllLeadArrays, ElementsLead, HoldsArrays, KeepLeading, RegionOf}
use Rattle.frame_arena.specs.Frames.{Holds, Leads}
use Rattle.object_machine.specs.declared.openings.Beginning.{Beginning}
use Rattle.object_machine.specs.declared.machine.Storage.{Storage}
use Rattle.object_machine.specs.declared.machine.Registers.{Registers}
use Rattle.object_machine.specs.declared.machine.Activation as working
use Rattle.object_machine.specs.Calling.{Filled, OpensWith, Supplied, cells_set_from, opened_with}
use Rattle.object_machine.specs.Entering.{Opens, opened}
use Rattle.object_machine.specs.Enrolling.{Enrolled}
use Rattle.object_machine.specs.Simulating.{Simulating}
use Rattle.object_machine.specs.Standing.{AtWork, InWorld, Outside, Parks, SameBut, Works, ports_of}
use Rattle.sim_code.specs.Levels.{filled_by}
use Rattle.object_machine.specs.Parameters.{cells_set_by}
use Rattle.object_machine.proofs.ParameterCells.{filled_by_last}
use Rattle.object_machine.proofs.Called.{cellular, filled_last}
use Rattle.object_machine.proofs.Linkages.{enrolled_in}
use Rattle.object_machine.proofs.Simulations.{simulating_in}
use Rattle.object_machine.proofs.Parks.{parks_later}
use Rattle.object_machine.proofs.Places.{lead_later}

works_on : (fs : List Frame) (m m2 : Frames) (regions : List RegionOf) (arrays : List ArrayOf) → ((f : FrameRef) → Leads fs m f → Leads fs m2 f) → (r : Registers) (slots : List Slot) → Works fs m regions arrays r slots → Works fs m2 regions arrays r slots
works_on fs m m2 regions arrays later r slots w = record { home = later r.home w.home; slots = lead_later fs fs m m2 later slots w.slots; arrays_lead = w.arrays_lead }

module _ (l : Limits) (p p1 p2 : Storage) (same : SameBut p1 p2) (k : ℕ) (b : BlockOf) (g : Beginning) (parent : Option FrameRef) (t : working.Activation) (before : Option (List ℕ)) (now : Outside) (o : World) (m : Frames) (h : Opens l p p1 k b g parent t before now o m) where
  with_cells : (cells : Cells) → Holds p1.frames.items p2.cells.items (opened_with m k b g parent cells) → ((r : FrameRef) → Leads p1.frames.items (opened m k b g parent) r → Leads p1.frames.items (opened_with m k b g parent cells) r) → AllLeadArrays p1.arrays.regions o.arrays p2.cells.items →
      OpensWith l p p2 k b g parent cells t before now o o m
  with_cells cells holds leads arrays =
      let m2 = opened_with m k b g parent cells in
      let s = h.stores in
      let still : (r : Registers) (stack : List Slot) → AtWork p1 o (opened m k b g parent) r stack → AtWork p2 o m2 r stack = λ r stack w.
      subst (λ v. Works v.items m2 p2.arrays.regions o.arrays r stack) (sym same.frames) (subst (λ a. Works p1.frames.items m2 a.regions o.arrays r stack) (sym same.arrays) (works_on p1.frames.items (opened m k b g parent) m2 p1.arrays.regions o.arrays leads r stack w)) in
      record {
        stores = record {
          world = record { ticks = s.world.ticks ∙ sym same.ticks; words = s.world.words ∙ sym same.words; texts = s.world.texts ∙ sym same.texts; image = s.world.image ∙ ap (λ i. ports_of i now.source) (sym same.image); written = s.world.written };
          budget = subst (λ n. n ≤ l.storage) (sym same.words) s.budget;
          frames = subst (λ v. Holds v.items p2.cells.items m2) (sym same.frames) holds;
          entered = same.entered ∙ s.entered ∙ length-append m.instances (_ ∷ []) ∙ sym (length-append m.instances (_ ∷ []));
          arrays = subst (λ a. HoldsArrays a o.arrays) (sym same.arrays) s.arrays;
          cells = subst (λ a. AllLeadArrays a.regions o.arrays p2.cells.items) (sym same.arrays) arrays;
          elements = subst (λ v. ElementsLead v.items m2 p2.arrays.regions) (sym same.frames) (subst (λ a. ElementsLead p1.frames.items m2 a.regions) (sym same.arrays) (λ place at names. leads _ (s.elements place at names)));
          parks = subst (λ v. Parks v.items p2.parks.items m2 p2.arrays.regions o.arrays) (sym same.frames) (subst (λ v. Parks p1.frames.items v.items m2 p2.arrays.regions o.arrays) (sym same.parks) (subst (λ a. Parks p1.frames.items p1.parks.items m2 a.regions o.arrays) (sym same.arrays)
              (parks_later p1.frames.items p1.parks.items (opened m k b g parent) m2 p1.arrays.regions p1.arrays.regions o.arrays o.arrays refl (λ r stack w. works_on p1.frames.items (opened m k b g parent) m2 p1.arrays.regions o.arrays leads r stack w) s.parks)));
          members = subst (λ v. Enrolled v.items m2 p2.members o.members) (sym same.frames) (enrolled_in p1.frames.items p1.frames.items (opened m k b g parent) m2 p1.members o.members p2.members same.members leads s.members);
          simulations = subst (λ v. Simulating v.items m2 p2.simulations.items o.simulations) (sym same.frames) (simulating_in p1.frames.items p1.frames.items (opened m k b g parent) m2 p1.simulations.items o.simulations p2.simulations.items (ap (λ v. v.items) same.simulations) leads s.simulations);
        };
        top = h.top;
        works = still t.registers t.stack.items h.works;
        others = λ r stack w. still r stack (h.others r stack w);
      }

  pub supplied : (cs : List Slot) → p2.cells.items ≡ cs → (first : ℕ) (vs : List Value) → Filled p1.frames.items cs (opened m k b g parent) (cells_set_from (opened m k b g parent) t.registers.home.stamp first vs) → AllLeadArrays p1.arrays.regions o.arrays cs →
      Supplied l p p2 k b g parent t before now o m (filled first vs (first_cells b))
  supplied cs is first vs f arrays =
      let stamp : length m.instances ≡ t.registers.home.stamp = sym (ap (λ a. a.home) h.top) in
      let c = cellular m k b g parent (filled first vs (first_cells b)) f.memory (sym (filled_last m k b g parent vs first (first_cells b)) ∙ ap (λ j. cells_set_from (opened m k b g parent) j first vs) stamp ∙ f.is) in
      record {
        cells = c.cells;
        is = c.is;
        opens = with_cells c.cells (subst (λ x. Holds p1.frames.items x (opened_with m k b g parent c.cells)) (sym is) (subst (λ w. Holds p1.frames.items cs w) (sym c.memory) f.holds))
            (λ r q. subst (λ w. Leads p1.frames.items w r) (sym c.memory) (f.leads r q)) (subst (λ x. AllLeadArrays p1.arrays.regions o.arrays x) (sym is) arrays);
      }

  -- the same of what has levels
  pub supplied_by : (cs : List Slot) → p2.cells.items ≡ cs → (place : ℕ → Option ℕ) (vs : List Value) → Filled p1.frames.items cs (opened m k b g parent) (cells_set_by (opened m k b g parent) t.registers.home.stamp place 0 vs) → AllLeadArrays p1.arrays.regions o.arrays cs →
      Supplied l p p2 k b g parent t before now o m (filled_by place 0 vs (Some (first_cells b)))
  supplied_by cs is place vs f arrays =
      let stamp : length m.instances ≡ t.registers.home.stamp = sym (ap (λ a. a.home) h.top) in
      let c = cellular m k b g parent (filled_by place 0 vs (Some (first_cells b))) f.memory (sym (filled_by_last m k b g parent place vs 0 (first_cells b)) ∙ ap (λ j. cells_set_by (opened m k b g parent) j place 0 vs) stamp ∙ f.is) in
      record {
        cells = c.cells;
        is = c.is;
        opens = with_cells c.cells (subst (λ x. Holds p1.frames.items x (opened_with m k b g parent c.cells)) (sym is) (subst (λ w. Holds p1.frames.items cs w) (sym c.memory) f.holds))
            (λ r q. subst (λ w. Leads p1.frames.items w r) (sym c.memory) (f.leads r q)) (subst (λ x. AllLeadArrays p1.arrays.regions o.arrays x) (sym is) arrays);
      }

-- ---- arrays that go over

owned_in : (p : Storage) (before : Option (List ℕ)) (now : Outside) (owner n : ℕ) (q : Option ArrayOf) (o : World) → InWorld p before now o → InWorld p before now (owned_by owner q o n)
owned_in p before now owner n None o i = i
owned_in p before now owner n (Some a) o i = record { ticks = i.ticks; words = i.words; texts = i.texts; image = i.image; written = i.written }

handed_in : (p : Storage) (before : Option (List ℕ)) (now : Outside) (owner : ℕ) (ns : List ℕ) (o : World) → InWorld p before now o → InWorld p before now (handed_over owner ns o)
unfolding handed_over
handed_in p before now owner [] o i = i
handed_in p before now owner (n ∷ rest) o i = handed_in p before now owner rest (owned_by owner (slice_get o.arrays n) o n) (owned_in p before now owner n (slice_get o.arrays n) o i)

owned_members : (owner n : ℕ) (q : Option ArrayOf) (o : World) → (owned_by owner q o n).members ≡ o.members
owned_members owner n None o = refl
owned_members owner n (Some a) o = refl

pub handed_members : (owner : ℕ) (ns : List ℕ) (o : World) → (handed_over owner ns o).members ≡ o.members
unfolding handed_over
handed_members owner [] o = refl
handed_members owner (n ∷ rest) o = handed_members owner rest (owned_by owner (slice_get o.arrays n) o n) ∙ owned_members owner n (slice_get o.arrays n) o

owned_simulations : (owner n : ℕ) (q : Option ArrayOf) (o : World) → (owned_by owner q o n).simulations ≡ o.simulations
owned_simulations owner n None o = refl
owned_simulations owner n (Some a) o = refl

pub handed_simulations : (owner : ℕ) (ns : List ℕ) (o : World) → (handed_over owner ns o).simulations ≡ o.simulations
unfolding handed_over
handed_simulations owner [] o = refl
handed_simulations owner (n ∷ rest) o = handed_simulations owner rest (owned_by owner (slice_get o.arrays n) o n) ∙ owned_simulations owner n (slice_get o.arrays n) o

module _ (l : Limits) (p p2 p3 : Storage) (k : ℕ) (b : BlockOf) (g : Beginning) (parent : Option FrameRef) (cells : Cells) (t : working.Activation) (before : Option (List ℕ)) (now : Outside) (o : World) (m : Frames) (h : OpensWith l p p2 k b g parent cells t before now o o m) where
  pub handed : (owner : ℕ) (ns : List ℕ) → p3.frames ≡ p2.frames → p3.parks ≡ p2.parks → p3.cells ≡ p2.cells → p3.entered ≡ p2.entered → p3.texts ≡ p2.texts → p3.image ≡ p2.image → p3.members ≡ p2.members → p3.simulations ≡ p2.simulations → p3.ticks ≡ p2.ticks → p3.words ≡ p2.words →
      HoldsArrays p3.arrays (handed_over owner ns o).arrays → KeepLeading p2.arrays o.arrays p3.arrays (handed_over owner ns o).arrays → ElementsLead p2.frames.items (opened_with m k b g parent cells) p3.arrays.regions →
      OpensWith l p p3 k b g parent cells t before now o (handed_over owner ns o) m
  handed owner ns ef ep ec en et ei eb es ek ew holds keeps elements =
      let o2 = handed_over owner ns o in
      let m2 = opened_with m k b g parent cells in
      let i = handed_in p2 before now owner ns o h.stores.world in
      let still : (r : Registers) (stack : List Slot) → AtWork p2 o m2 r stack → AtWork p3 o2 m2 r stack = λ r stack w.
      subst (λ v. Works v.items m2 p3.arrays.regions o2.arrays r stack) (sym ef) (record { home = w.home; slots = w.slots; arrays_lead = λ at names. keeps _ (w.arrays_lead at names) }) in
      record {
        stores = record {
          world = record { ticks = i.ticks ∙ sym ek; words = i.words ∙ sym ew; texts = i.texts ∙ sym et; image = i.image ∙ ap (λ i. ports_of i now.source) (sym ei); written = i.written };
          budget = subst (λ n. n ≤ l.storage) (sym ew) h.stores.budget;
          frames = subst (λ v. Holds v.items p3.cells.items m2) (sym ef) (subst (λ v. Holds p2.frames.items v.items m2) (sym ec) h.stores.frames);
          entered = en ∙ h.stores.entered;
          arrays = holds;
          cells = subst (λ v. AllLeadArrays p3.arrays.regions o2.arrays v.items) (sym ec) (λ at names. keeps _ (h.stores.cells at names));
          elements = subst (λ v. ElementsLead v.items m2 p3.arrays.regions) (sym ef) elements;
          parks = subst (λ v. Parks v.items p3.parks.items m2 p3.arrays.regions o2.arrays) (sym ef) (subst (λ v. Parks p2.frames.items v.items m2 p3.arrays.regions o2.arrays) (sym ep)
              (parks_later p2.frames.items p2.parks.items m2 m2 p2.arrays.regions p3.arrays.regions o.arrays o2.arrays refl (λ r stack w. record { home = w.home; slots = w.slots; arrays_lead = λ at names. keeps _ (w.arrays_lead at names) }) h.stores.parks));
          members = subst (λ v. Enrolled v.items m2 p3.members o2.members) (sym ef) (subst (λ v. Enrolled p2.frames.items m2 v o2.members) (sym eb) (subst (λ q. Enrolled p2.frames.items m2 p2.members q) (sym (handed_members owner ns o)) h.stores.members));
          simulations = subst (λ v. Simulating v.items m2 p3.simulations.items o2.simulations) (sym ef) (subst (λ v. Simulating p2.frames.items m2 v.items o2.simulations) (sym es) (subst (λ q. Simulating p2.frames.items m2 p2.simulations.items q) (sym (handed_simulations owner ns o)) h.stores.simulations));
        };
        top = h.top;
        works = still t.registers t.stack.items h.works;
        others = λ r stack w. still r stack (h.others r stack w);
      }

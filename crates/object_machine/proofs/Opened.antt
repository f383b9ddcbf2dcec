-- A new frame stands in the parts.
use Rattle.std.proofs.Common.{◌≡◌, ℕ, zero, suc, ◌+◌, ◌≤◌, List, [], ◌∷◌, length, length-append, replicate, sym, subst, refl, ap, ◌∙◌}
use Rattle.std.specs.Prelude.{false, Option, None}
use Rattle.sim_base.specs.declared.limits.Limits.{Limits}
use Rattle.sim_values.specs.declared.value.FrameRef.{FrameRef}
use Rattle.sim_code.specs.declared.stage.Stage.{Stage}
use Rattle.sim_code.specs.Code.{BlockOf}
use Rattle.sim_code.specs.Machine.{Frames, first_cells, passes}
use Rattle.sim_code.specs.Outcome.{ArrayOf, World}
use Rattle.frame_arena.specs.declared.frames.Frame.{Frame}
use Rattle.frame_arena.specs.declared.slot.Slot.{Slot}
use Rattle.frame_arena.specs.Arrays.{AllLeadArrays, ElementsLead, HoldsArrays, RegionOf, names_array}
use Rattle.frame_arena.specs.Frames.{AllLead, Holds, KeptBefore, Leads, keeping, names_frame, number_in}
use Rattle.frame_arena.specs.Slots.{empty_slot}
use Rattle.frame_arena.specs.Stacks.{slot_at, values_of}
use Rattle.object_machine.specs.declared.openings.Beginning.{Beginning}
use Rattle.object_machine.specs.declared.machine.Storage.{Storage}
use Rattle.object_machine.specs.declared.machine.Registers.{Registers}
use Rattle.object_machine.specs.declared.machine.Activation as working
use Rattle.object_machine.specs.Standing.{Outside, Stores, Works, activation_at, activation_of, parked, ports_of}
use Rattle.object_machine.specs.Entering.{Opens, opened}
use Rattle.object_machine.proofs.Going.{act}
use Rattle.object_machine.proofs.Linkages.{enrolled_in}
use Rattle.object_machine.proofs.Simulations.{simulating_in}
use Rattle.object_machine.proofs.Parks.{get_front, parks_kept}
use Rattle.object_machine.proofs.Places.{lead_later}
use Rattle.object_machine.proofs.Scalars.{off}

-- a stack with no value in it
pub empty_stack : (n q : ℕ) → slot_at (replicate n empty_slot) q ≡ empty_slot
empty_stack zero q = refl
empty_stack (suc n) zero = refl
empty_stack (suc n) (suc q) = empty_stack n q

pub empty_leads : (n : ℕ) (fs : List Frame) (m : Frames) → AllLead fs m (replicate n empty_slot)
empty_leads n fs m q names = absurd (off (sym (ap (λ s. names_frame s.kind) (empty_stack n q)) ∙ names))

pub empty_leads_arrays : (n : ℕ) (regions : List RegionOf) (arrays : List ArrayOf) → AllLeadArrays regions arrays (replicate n empty_slot)
empty_leads_arrays n regions arrays q names = absurd (off (sym (ap (λ s. names_array s.kind) (empty_stack n q)) ∙ names))

values_none : (stack : List Slot) → values_of 0 stack ≡ []
values_none [] = refl
values_none (x ∷ xs) = refl

long_replicate : (n : ℕ) → length (replicate n empty_slot) ≡ n
long_replicate zero = refl
long_replicate (suc n) = ap suc (long_replicate n)

pub first_activation : (thunk : Option ℕ) (number count region entry room : ℕ) (stage : Stage) (stack : List Slot) → number ≡ count → stack ≡ replicate room empty_slot →
    activation_at (record { thunk = thunk; home = record { frame = region; stamp = number }; pc = entry; depth = 0; stage = stage }) stack ≡ record { thunk = thunk; home = count; pc = entry; stack = []; room = room; stage = stage }
first_activation thunk number count region entry room stage stack e s =
    ap (λ h. act thunk h entry (values_of 0 stack) (length stack) stage) e
    ∙ ap (λ v. act thunk count entry v (length stack) stage) (values_none stack)
    ∙ ap (λ n. act thunk count entry [] n stage) (ap length s ∙ long_replicate room)

module _ (l : Limits) (p p2 : Storage) (k : ℕ) (b : BlockOf) (g : Beginning) (parent : Option FrameRef) (t : working.Activation) (before : Option (List ℕ)) (now : Outside) (o : World) (m : Frames) (s : Stores l p before now o m) where
  pub opens : p2.arrays ≡ p.arrays → p2.texts ≡ p.texts → p2.image ≡ p.image → p2.members ≡ p.members → p2.simulations ≡ p.simulations → p2.ticks ≡ p.ticks → p2.words ≡ p.words → p2.entered ≡ p.entered + 1 →
      length p2.parks.items ≡ length p2.frames.items → ((at : ℕ) → parked p2.parks.items at ≡ parked p.parks.items at) → KeptBefore p.frames.items p2.frames.items →
      Holds p2.frames.items p2.cells.items (opened m k b g parent) → ((r : FrameRef) → Leads p.frames.items m r → Leads p2.frames.items (opened m k b g parent) r) →
      AllLeadArrays p.arrays.regions o.arrays p2.cells.items →
      Leads p2.frames.items (opened m k b g parent) t.registers.home → AllLead p2.frames.items (opened m k b g parent) t.stack.items → AllLeadArrays p.arrays.regions o.arrays t.stack.items →
      activation_of t ≡ record { thunk = None; home = length m.instances; pc = g.start; stack = []; room = b.room; stage = g.stage } → Opens l p p2 k b g parent t before now o m
  opens ea et ei eb es ek ew en each same before_kept h leads cells home slots arrays top =
      let works : (r : Registers) (stack : List Slot) → Works p.frames.items m p.arrays.regions o.arrays r stack → Works p2.frames.items (opened m k b g parent) p2.arrays.regions o.arrays r stack = λ r stack w.
      subst (λ a. Works p2.frames.items (opened m k b g parent) a.regions o.arrays r stack) (sym ea)
      (record { home = leads r.home w.home; slots = lead_later p.frames.items p2.frames.items m (opened m k b g parent) leads stack w.slots; arrays_lead = w.arrays_lead }) in
      let count = length-append m.instances (record { text = k; level = b.level; encloser = number_in parent; cells = first_cells b; passing = passes b.kind b.class_free; kept = false; given_back = false } ∷ []) in
      record {
        stores = record {
          world = record { ticks = s.world.ticks ∙ sym ek; words = s.world.words ∙ sym ew; texts = s.world.texts ∙ sym et; image = s.world.image ∙ ap (λ i. ports_of i now.source) (sym ei); written = s.world.written };
          budget = subst (λ n. n ≤ l.storage) (sym ew) s.budget;
          frames = h;
          entered = en ∙ ap (λ n. n + 1) s.entered ∙ sym count;
          arrays = subst (λ a. HoldsArrays a o.arrays) (sym ea) s.arrays;
          cells = subst (λ a. AllLeadArrays a.regions o.arrays p2.cells.items) (sym ea) cells;
          elements = subst (λ a. ElementsLead p2.frames.items (opened m k b g parent) a.regions) (sym ea) (λ place at names. leads _ (s.elements place at names));
          parks = parks_kept p.frames.items p2.frames.items p.parks.items p2.parks.items m (opened m k b g parent) p.arrays.regions p2.arrays.regions o.arrays o.arrays each same before_kept
              (λ place n c chain d e. get_front m.standings (_ ∷ []) n (keeping c chain) e) works s.parks;
          members = enrolled_in p.frames.items p2.frames.items m (opened m k b g parent) p.members o.members p2.members eb leads s.members;
          simulations = simulating_in p.frames.items p2.frames.items m (opened m k b g parent) p.simulations.items o.simulations p2.simulations.items (ap (λ v. v.items) es) leads s.simulations;
        };
        top = top;
        works = subst (λ a. Works p2.frames.items (opened m k b g parent) a.regions o.arrays t.registers t.stack.items) (sym ea) (record { home = home; slots = slots; arrays_lead = arrays });
        others = works;
      }

  -- the same where the regions and the cells are told
  pub opens_from : (fs : List Frame) (cs : List Slot) → p2.frames.items ≡ fs → p2.cells.items ≡ cs →
      p2.arrays ≡ p.arrays → p2.texts ≡ p.texts → p2.image ≡ p.image → p2.members ≡ p.members → p2.simulations ≡ p.simulations → p2.ticks ≡ p.ticks → p2.words ≡ p.words → p2.entered ≡ p.entered + 1 →
      Holds fs cs (opened m k b g parent) → ((r : FrameRef) → Leads p.frames.items m r → Leads fs (opened m k b g parent) r) →
      AllLeadArrays p.arrays.regions o.arrays cs →
      Leads fs (opened m k b g parent) t.registers.home → AllLead fs (opened m k b g parent) t.stack.items → AllLeadArrays p.arrays.regions o.arrays t.stack.items →
      length p2.parks.items ≡ length fs → ((at : ℕ) → parked p2.parks.items at ≡ parked p.parks.items at) → KeptBefore p.frames.items fs →
      activation_of t ≡ record { thunk = None; home = length m.instances; pc = g.start; stack = []; room = b.room; stage = g.stage } → Opens l p p2 k b g parent t before now o m
  opens_from fs cs ef ec ea et ei eb es ek ew en h leads cells home slots arrays each same before_kept top =
      opens ea et ei eb es ek ew en
      (each ∙ ap (λ f. length f) (sym ef)) same (subst (λ f. KeptBefore p.frames.items f) (sym ef) before_kept)
      (subst (λ f. Holds f p2.cells.items (opened m k b g parent)) (sym ef) (subst (λ x. Holds fs x (opened m k b g parent)) (sym ec) h))
      (λ r q. subst (λ f. Leads f (opened m k b g parent) r) (sym ef) (leads r q))
      (subst (λ x. AllLeadArrays p.arrays.regions o.arrays x) (sym ec) cells)
      (subst (λ f. Leads f (opened m k b g parent) t.registers.home) (sym ef) home)
      (subst (λ f. AllLead f (opened m k b g parent) t.stack.items) (sym ef) slots) arrays top

pub for_block : (l : Limits) (p p2 : Storage) (k : ℕ) (b b2 : BlockOf) (g : Beginning) (parent : Option FrameRef) (t : working.Activation) (before : Option (List ℕ)) (now : Outside) (o : World) (m : Frames) → b ≡ b2 →
    Opens l p p2 k b g parent t before now o m → Opens l p p2 k b2 g parent t before now o m
for_block l p p2 k b b2 g parent t before now o m e h = subst (λ b. Opens l p p2 k b g parent t before now o m) e h

-- Frames that are kept from the top of the chain down.
use Rattle.std.proofs.Common.{◌≡◌, ℕ, suc, ◌-◌, ◌<◌, true, false, List, [], ◌∷◌, length, length-set, map, refl, sym, subst, ap, ◌∙◌}
use Rattle.std.proofs.lemmas.List.{reverse-append}
use Rattle.std.proofs.Math.Seq.{take-suc}
use Rattle.std.specs.Prelude.{Option, Some, None, if◌then◌else◌, reverse, slice_get, slice_index_or, take}
use Rattle.sim_values.specs.declared.value.FrameRef.{FrameRef}
use Rattle.sim_base.specs.declared.limits.Limits.{Limits}
use Rattle.sim_code.specs.Instances.{Instance, kept_at, kept_further, kept_on, with_instance}
use Rattle.sim_code.specs.Machine.{Activation, Cells, Frames, owner}
use Rattle.sim_code.specs.Outcome.{World}
use Rattle.frame_arena.specs.declared.frames.Frame.{Frame}
use Rattle.frame_arena.specs.declared.slot.Slot.{Slot}
use Rattle.frame_arena.specs.Frames.{Has, Holds, KeptBefore, Leads, frame_at, instance_of, rooms}
use Rattle.object_machine.specs.Keeping.{KeepsOne, KeptIn, owner_at}
use Rattle.object_machine.specs.declared.keeping.Kept.{Kept}
use Rattle.object_machine.specs.declared.keeping.Kept.TheVariants as result
use Rattle.object_machine.specs.declared.machine.Activation as working
use Rattle.object_machine.specs.declared.machine.Registers.{Registers}
use Rattle.object_machine.specs.declared.machine.Storage.{Storage}
use Rattle.object_machine.specs.Standing.{AtWork, Outside, Stores, activation_at, activation_of, below_of}
use Rattle.object_machine.proofs.Linkages.{enrolled_later}
use Rattle.object_machine.proofs.Parks.{parks_kept, rooms_count}
use Rattle.object_machine.proofs.Places.{lead_later}
use Rattle.object_machine.proofs.Simulations.{simulating_later}

-- ---- one frame

pub kept_same : (fs : List Frame) (cells : List Slot) (m : Frames) → Holds fs cells m → KeptIn fs fs cells m m
kept_same fs cells m h = record { holds = h; leads = λ r led. led; chains = λ place number c k. k; count = refl; standings = refl }

pub kept_then : (fs fs2 fs3 : List Frame) (cells : List Slot) (m m2 m3 : Frames) → KeptIn fs fs2 cells m m2 → KeptIn fs2 fs3 cells m2 m3 → KeptIn fs fs3 cells m m3
kept_then fs fs2 fs3 cells m m2 m3 a b = record { holds = b.holds; leads = λ r led. b.leads r (a.leads r led); chains = λ place number c k. a.chains place number c (b.chains place number c k); count = b.count ∙ a.count; standings = b.standings ∙ a.standings }

further_is : (m : Frames) (j : ℕ) (x : Instance Cells) (go : Frames → Frames) → slice_get m.instances j ≡ Some x → x.passing ≡ true → kept_at go m (Some j) ≡ go (with_instance m j (record x { kept = true }))
further_is m j x go there passing = ap (kept_further go m j) there ∙ ap (λ b. if b then go (with_instance m j (record x { kept = true })) else m) passing

ends_is : (m : Frames) (j : ℕ) (x : Instance Cells) (go : Frames → Frames) → slice_get m.instances j ≡ Some x → x.passing ≡ false → kept_at go m (Some j) ≡ m
ends_is m j x go there passing = ap (kept_further go m j) there ∙ ap (λ b. if b then go (with_instance m j (record x { kept = true })) else m) passing

-- the frame in a region passes
module _ (fs fs2 : List Frame) (cells : List Slot) (m : Frames) (place j : ℕ) (has : Has fs place j) (holds : Holds fs cells m) where
  pub one_kept : (frame_at fs place).passing ≡ true
      → Holds fs2 cells (with_instance m (frame_at fs place).number (record (instance_of cells (frame_at fs place)) { kept = true }))
      → ((r : FrameRef) → Leads fs m r → Leads fs2 (with_instance m (frame_at fs place).number (record (instance_of cells (frame_at fs place)) { kept = true })) r)
      → KeptBefore fs fs2 → KeepsOne result.Further fs fs2 cells m (Some j)
  one_kept passing held led chains =
      let x = instance_of cells (frame_at fs place) in
      let it = record x { kept = true } in (
        with_instance m (frame_at fs place).number it,
        record { holds = held; leads = led; chains = chains; count = length-set m.instances (frame_at fs place).number it; standings = refl },
        λ go. further_is m j x go (holds.known place j has) passing ∙ ap (λ n. go (with_instance m n it)) (sym has.2),
      )

  pub one_ends : (frame_at fs place).passing ≡ false → KeepsOne result.Ends fs fs cells m (Some j)
  one_ends passing = (refl, λ go. ends_is m j (instance_of cells (frame_at fs place)) go (holds.known place j has) passing)

-- ---- one activation

frame_owns : (r : Registers) → r.thunk ≡ None → owner_at r ≡ Some r.home.stamp
frame_owns r e = ap (λ t. owner (record (activation_at r []) { thunk = t })) e

thunk_owns : (r : Registers) (t : ℕ) → r.thunk ≡ Some t → owner_at r ≡ None
thunk_owns r t e = ap (λ t. owner (record (activation_at r []) { thunk = t })) e

pub frame_kept : (k : Kept) (fs fs2 : List Frame) (cells : List Slot) (m : Frames) (r : Registers) → r.thunk ≡ None → KeepsOne k fs fs2 cells m (Some r.home.stamp) → KeepsOne k fs fs2 cells m (owner_at r)
frame_kept k fs fs2 cells m r e kept = subst (KeepsOne k fs fs2 cells m) (sym (frame_owns r e)) kept

pub thunk_passed : (fs : List Frame) (cells : List Slot) (m : Frames) (r : Registers) (t : ℕ) → r.thunk ≡ Some t → Holds fs cells m → KeepsOne result.Further fs fs cells m (owner_at r)
thunk_passed fs cells m r t e holds = (m, kept_same fs cells m holds, λ go. ap (kept_at go m) (thunk_owns r t e))

-- ---- the chain

-- what is left of the chain below an index
abbrev left_of : List working.Activation → ℕ → List Activation
left_of below at = below_of (take at below)

-- The frames down to an index are kept, and those below it are still to be.
abbrev pub KeptDown : (fs fs2 : List Frame) → Registers → (below : List working.Activation) → (at : ℕ) → Type 0
KeptDown fs fs2 top below at =
    (cells : List Slot) (m : Frames) (a : Activation) → owner a ≡ owner_at top → Holds fs cells m → (m2 : Frames) × KeptIn fs fs2 cells m m2 × (kept_on owner (a ∷ below_of below) m ≡ kept_on owner (left_of below at) m2)

-- All of them were.
abbrev pub KeptAll : (fs fs2 : List Frame) → Registers → (below : List working.Activation) → Type 0
KeptAll fs fs2 top below = (cells : List Slot) (m : Frames) (a : Activation) → owner a ≡ owner_at top → Holds fs cells m → KeptIn fs fs2 cells m (kept_on owner (a ∷ below_of below) m)

kept_next : (chain : List Activation) (a : Activation) (m : Frames) (owned : Option ℕ) → owner a ≡ owned → kept_on owner (a ∷ chain) m ≡ kept_at (kept_on owner chain) m owned
unfolding kept_on
kept_next chain a m owned e = ap (kept_at (kept_on owner chain) m) e

left_next : (below : List working.Activation) (at : ℕ) (none : working.Activation) → at < length below → left_of below (suc at) ≡ activation_of (slice_index_or below at none) ∷ left_of below at
left_next below at none less = ap (λ l. map activation_of (reverse l)) (take-suc below at none less) ∙ ap (map activation_of) (reverse-append (take at below) (slice_index_or below at none ∷ []))

take_all : (below : List working.Activation) → take (length below) below ≡ below
take_all [] = refl
take_all (t ∷ below) = ap (λ l. t ∷ l) (take_all below)

module _ (fs : List Frame) (top : Registers) (below : List working.Activation) where
  -- the top one is first
  pub top_kept : (fs2 : List Frame) → ((cells : List Slot) (m : Frames) → Holds fs cells m → KeepsOne result.Further fs fs2 cells m (owner_at top)) → KeptDown fs fs2 top below (length below)
  top_kept fs2 one cells m a own holds =
      let k = one cells m holds in
      (k.0, k.1, kept_next (below_of below) a m (owner_at top) own ∙ k.2 (kept_on owner (below_of below)) ∙ ap (λ l. kept_on owner (below_of l) k.0) (sym (take_all below)))

  pub top_ends : (fs2 : List Frame) → ((cells : List Slot) (m : Frames) → Holds fs cells m → KeepsOne result.Ends fs fs2 cells m (owner_at top)) → KeptAll fs fs2 top below
  top_ends fs2 one cells m a own holds =
      let k = one cells m holds in
      subst (KeptIn fs fs2 cells m) (sym (kept_next (below_of below) a m (owner_at top) own ∙ k.1 (kept_on owner (below_of below)))) (subst (λ z. KeptIn fs z cells m m) (sym k.0) (kept_same fs cells m holds))

  module _ (fs2 fs3 : List Frame) (at : ℕ) (none : working.Activation) (less : at < length below) (down : KeptDown fs fs2 top below (suc at)) where
    -- the one whose turn it is
    abbrev turn : Registers
    turn = (slice_index_or below at none).registers

    turned : (m2 : Frames) → kept_on owner (left_of below (suc at)) m2 ≡ kept_at (kept_on owner (left_of below at)) m2 (owner_at turn)
    turned m2 = ap (λ l. kept_on owner l m2) (left_next below at none less) ∙ kept_next (left_of below at) (activation_of (slice_index_or below at none)) m2 (owner_at turn) refl

    pub next_kept : ((cells : List Slot) (m : Frames) → Holds fs2 cells m → KeepsOne result.Further fs2 fs3 cells m (owner_at turn)) → KeptDown fs fs3 top below at
    next_kept one cells m a own holds =
        let d = down cells m a own holds in
        let k = one cells d.0 (d.1).holds in
        (k.0, kept_then fs fs2 fs3 cells m d.0 k.0 d.1 k.1, d.2 ∙ turned d.0 ∙ k.2 (kept_on owner (left_of below at)))

    pub next_ends : ((cells : List Slot) (m : Frames) → Holds fs2 cells m → KeepsOne result.Ends fs2 fs3 cells m (owner_at turn)) → KeptAll fs fs3 top below
    next_ends one cells m a own holds =
        let d = down cells m a own holds in
        let k = one cells d.0 (d.1).holds in
        subst (KeptIn fs fs3 cells m) (sym (d.2 ∙ turned d.0 ∙ k.1 (kept_on owner (left_of below at)))) (subst (λ z. KeptIn fs z cells m d.0) (sym k.0) d.1)

  -- and none is left
  pub none_left : (fs2 : List Frame) (at : ℕ) → at ≡ 0 → KeptDown fs fs2 top below at → KeptAll fs fs2 top below
  unfolding kept_on
  none_left fs2 at e down cells m a own holds =
      let d = down cells m a own holds in
      subst (KeptIn fs fs2 cells m) (sym (d.2 ∙ ap (λ n. kept_on owner (left_of below n) d.0) e)) d.1

-- ---- the parts of the machine

module _ (l : Limits) (p : Storage) (before : Option (List ℕ)) (now : Outside) (o : World) (m m2 : Frames) where
  -- all that was at work is so still
  pub works_kept : (p2 : Storage) → p2 ≡ record p { frames = p2.frames } → KeptIn p.frames.items p2.frames.items p.cells.items m m2 → (r : Registers) (stack : List Slot) → AtWork p o m r stack → AtWork p2 o m2 r stack
  works_kept p2 same k r stack w =
      subst (λ z. AtWork z o m2 r stack) (sym same)
      (record { home = k.leads r.home w.home; slots = lead_later p.frames.items p2.frames.items m m2 k.leads stack w.slots; arrays_lead = w.arrays_lead })

  pub stores_kept : (p2 : Storage) → p2 ≡ record p { frames = p2.frames } → rooms p2.frames.items ≡ rooms p.frames.items → KeptIn p.frames.items p2.frames.items p.cells.items m m2 → Stores l p before now o m → Stores l p2 before now o m2
  stores_kept p2 same long k s =
      subst (λ z. Stores l z before now o m2) (sym same)
      (record {
        world = record { ticks = s.world.ticks; words = s.world.words; texts = s.world.texts; image = s.world.image; written = s.world.written };
        budget = s.budget;
        frames = k.holds;
        entered = s.entered ∙ sym k.count;
        arrays = s.arrays;
        cells = s.cells;
        elements = λ at n names. k.leads _ (s.elements at n names);
        parks = parks_kept p.frames.items p2.frames.items p.parks.items p.parks.items m m2 p.arrays.regions p.arrays.regions o.arrays o.arrays (s.parks.each ∙ rooms_count p.frames.items p2.frames.items long) (λ at. refl) k.chains
            (λ place n c chain d e. ap (λ z. slice_get z n) k.standings ∙ e)
            (λ r stack w. record { home = k.leads r.home w.home; slots = lead_later p.frames.items p2.frames.items m m2 k.leads stack w.slots; arrays_lead = w.arrays_lead }) s.parks;
        members = enrolled_later p.frames.items p2.frames.items m m2 p.members o.members k.leads s.members;
        simulations = simulating_later p.frames.items p2.frames.items m m2 p.simulations.items o.simulations k.leads s.simulations;
      })

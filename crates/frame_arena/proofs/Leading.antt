-- References lead after a change.
use Rattle.std.proofs.Common.{◌≡◌, ℕ, ◌<◌, inl, inr, List, length, set, sym, subst, refl, length-set, ap, ◌∙◌}
use Rattle.std.proofs.lemmas.Option.{slice_get_within}
use Rattle.std.specs.Prelude.{true, false, Option, Some, None}
use Rattle.sim_values.specs.declared.value.FrameRef.{FrameRef}
use Rattle.sim_code.specs.Outcome.{ArrayOf}
use Rattle.sim_code.specs.Instances.{Instance, cells_of, cells_put, given, live, with_instance}
use Rattle.sim_code.specs.Machine.{Cells, Frames, Value, cell_set, put_in}
use Rattle.frame_arena.specs.declared.slot.Slot.{Slot}
use Rattle.frame_arena.specs.declared.frames.Frame.{Frame}
use Rattle.frame_arena.specs.Arrays.{AllLeadArrays, RegionOf, SlotLeadsArray, names_array}
use Rattle.frame_arena.specs.Frames.{AllLead, Has, Holds, Leads, LeadsAfter, SlotLeads, frame_at, instance_of, names_frame}
use Rattle.frame_arena.specs.Stacks.{slot_at}
use Rattle.frame_arena.proofs.Reading.{live_of}
use Rattle.frame_arena.proofs.Changes.{given_is, leads_given, off, same_or_not}
use Rattle.frame_arena.proofs.Entries.{kept_by, leads_written, live_within, written_elsewhere, written_here}

-- ---- a slot is written into a list

module _ (P : Slot → Type 0) where
  pub all_set : (slots : List Slot) (at : ℕ) (s : Slot) → at < length slots → ((q : ℕ) → P (slot_at slots q)) → P s → (q : ℕ) → P (slot_at (set slots at s) q)
  all_set slots at s h all here q =
      elim (same_or_not q at) [
        | inl e ↦ subst P (sym (ap (slot_at (set slots at s)) e ∙ written_here slots at s h)) here
        | inr ne ↦ subst P (sym (written_elsewhere slots at q s ne)) (all q)
      ]

pub all_lead_set : (frames : List Frame) (m : Frames) (slots : List Slot) (at : ℕ) (s : Slot) → at < length slots → AllLead frames m slots → SlotLeads frames m s → AllLead frames m (set slots at s)
all_lead_set frames m slots at s h all here = all_set (λ z. SlotLeads frames m z) slots at s h all here

pub all_lead_arrays_set : (regions : List RegionOf) (arrays : List ArrayOf) (slots : List Slot) (at : ℕ) (s : Slot) → at < length slots → AllLeadArrays regions arrays slots → SlotLeadsArray regions arrays s →
    AllLeadArrays regions arrays (set slots at s)
all_lead_arrays_set regions arrays slots at s h all here = all_set (λ z. SlotLeadsArray regions arrays z) slots at s h all here

pub no_frame_leads : (frames : List Frame) (m : Frames) (s : Slot) → names_frame s.kind ≡ false → SlotLeads frames m s
no_frame_leads frames m s e names = absurd (off (sym e ∙ names))

pub no_array_leads : (regions : List RegionOf) (arrays : List ArrayOf) (s : Slot) → names_array s.kind ≡ false → SlotLeadsArray regions arrays s
no_array_leads regions arrays s e names = absurd (off (sym e ∙ names))

-- ---- a frame is given back, or kept

pub gives_leading : (fs : List Frame) (cells : List Slot) (m : Frames) (place : ℕ) (f : Frame) (r : FrameRef) → Holds fs cells m → place < length fs → (frame_at fs place).live ≡ true →
    Leads fs m r → Leads (set fs place f) (given m (frame_at fs place).number) r
gives_leading fs cells m place f r h there on leads =
    let has : Has fs place (frame_at fs place).number = (there, on, refl) in
    let e = h.known place (frame_at fs place).number has in
    subst (λ m2. Leads (set fs place f) m2 r) (sym (given_is m (frame_at fs place).number _ e))
    (leads_given fs cells m place (frame_at fs place).number f _ r h has e leads)

pub keeps_leading : (fs : List Frame) (cells : List Slot) (m : Frames) (place : ℕ) (r : FrameRef) → Holds fs cells m → place < length fs → (frame_at fs place).live ≡ true → Leads fs m r →
    Leads (set fs place (record (frame_at fs place) { kept = true })) (with_instance m (frame_at fs place).number (record (instance_of cells (frame_at fs place)) { kept = true })) r
keeps_leading fs cells m place r h there on leads =
    let old : Frame = frame_at fs place in
    let f : Frame = record old { kept = true } in
    let has : Has fs place old.number = (there, on, refl) in
    let x : Instance Cells = instance_of cells old in
    let below = slice_get_within m.instances old.number x (h.known place old.number has) in
    let w = leads_written fs m old.number x (record x { kept = true }) r (live_of fs cells m place old.number h has) below leads in (
      w.0,
      λ o.
          let hq = w.1 o in
          (subst (λ l. r.frame < l) (sym (length-set fs place f)) hq.0, kept_by (λ g. g.live) fs place f r.frame there refl ∙ hq.1, kept_by (λ g. g.number) fs place f r.frame there refl ∙ hq.2),
    )

-- ---- a write into a cell

module _ (fs : List Frame) (m : Frames) (j : ℕ) (r : FrameRef) (leads : Leads fs m r) where
  put_leading : (x : Option (Instance Cells)) (cells : Option Cells) → live m j ≡ x → LeadsAfter fs (cells_put m j x cells) r
  put_leading None cells e = tt
  put_leading (Some x) None e = tt
  put_leading (Some x) (Some cells) e = leads_written fs m j x (record x { cells = cells }) r e (live_within m j x e) leads

  pub set_leading : (c : ℕ) (v : Value) → LeadsAfter fs (cell_set m j c v) r
  set_leading c v = put_leading (live m j) (put_in (cells_of m j) c v) refl

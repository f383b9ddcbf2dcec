-- More cells and more regions.
use Rattle.std.proofs.Common.{◌≡◌, ℕ, zero, suc, ◌+◌, ◌<◌, ◌≤◌, inl, inr, List, [], ◌∷◌, ◌++◌, length, length-append, sym, subst, refl, ap, ◌∙◌, arith}
use Rattle.std.specs.Prelude.{false, Some, slice_get}
use Rattle.sim_values.specs.declared.value.FrameRef.{FrameRef}
use Rattle.sim_code.specs.Machine.{Frames}
use Rattle.frame_arena.specs.declared.slot.Slot.{Slot}
use Rattle.frame_arena.specs.declared.frames.Frame.{Frame}
use Rattle.frame_arena.specs.Slots.{cell_value, empty_slot}
use Rattle.frame_arena.specs.Stacks.{slot_at}
use Rattle.sim_code.specs.Outcome.{ArrayOf}
use Rattle.frame_arena.specs.Arrays.{AllLeadArrays, RegionOf, SlotLeadsArray}
use Rattle.frame_arena.specs.Frames.{Apart, Has, Holds, Leads, SlotLeads, cells_at, KeptBefore, StandsAs, frame_at, instance_of}
use Rattle.frame_arena.proofs.Changes.{off, same_or_not}

grown_at : (cells : List Slot) (q : ℕ) → slot_at (cells ++ empty_slot ∷ []) q ≡ slot_at cells q
grown_at [] zero = refl
grown_at [] (suc q) = refl
grown_at (x ∷ xs) zero = refl
grown_at (x ∷ xs) (suc q) = grown_at xs q

grown_cells : (cells : List Slot) (base count : ℕ) → cells_at (cells ++ empty_slot ∷ []) base count ≡ cells_at cells base count
grown_cells cells base zero = refl
grown_cells cells base (suc n) =
    ap (λ z. cell_value z ∷ cells_at (cells ++ empty_slot ∷ []) (suc base) n) (grown_at cells base)
    ∙ ap (λ l. cell_value (slot_at cells base) ∷ l) (grown_cells cells (suc base) n)

-- a cell more, without a value
pub grows : (fs : List Frame) (cells : List Slot) (m : Frames) → Holds fs cells m → Holds fs (cells ++ empty_slot ∷ []) m
grows fs cells m h = record {
  known = λ q n hq. h.known q n hq ∙ ap (λ l. Some (record (instance_of cells (frame_at fs q)) { cells = l })) (sym (grown_cells cells (frame_at fs q).base (frame_at fs q).cells));
  found = h.found;
  standings = h.standings;
  counted = h.counted;
  single = h.single;
  parents = h.parents;
  links = λ at. subst (λ z. SlotLeads fs m z) (sym (grown_at cells at)) (h.links at);
  within = λ q hq. let old = h.within q hq in let l = length-append cells (empty_slot ∷ []) in omega (arith, old, l);
  apart = h.apart;
}

pub frame_before : (fs : List Frame) (f : Frame) (q : ℕ) → q < length fs → frame_at (fs ++ f ∷ []) q ≡ frame_at fs q
frame_before [] f q h = absurd (omega (arith, h))
frame_before (x ∷ xs) f zero h = refl
frame_before (x ∷ xs) f (suc q) h = frame_before xs f q (omega (arith, h))

pub frame_last : (fs : List Frame) (f : Frame) → frame_at (fs ++ f ∷ []) (length fs) ≡ f
frame_last [] f = refl
frame_last (x ∷ xs) f = frame_last xs f

pub longer : (fs : List Frame) (f : Frame) → length (fs ++ f ∷ []) ≡ length fs + 1
longer fs f = length-append fs (f ∷ [])

module _ (fs : List Frame) (f : Frame) (free : f.live ≡ false) where
  has_old : (q n : ℕ) → Has (fs ++ f ∷ []) q n → Has fs q n
  has_old q n h =
      elim (same_or_not q (length fs)) [
        | inl e ↦ absurd (off (sym free ∙ ap (λ g. g.live) (sym (frame_last fs f)) ∙ ap (λ z. (frame_at (fs ++ f ∷ []) z).live) (sym e) ∙ h.1))
        | inr ne ↦
            let l = longer fs f in
            let below : q < length fs = omega (arith, h.0, l, ne) in
            (below, sym (ap (λ g. g.live) (frame_before fs f q below)) ∙ h.1, sym (ap (λ g. g.number) (frame_before fs f q below)) ∙ h.2)
      ]

  has_more : (q n : ℕ) → Has fs q n → Has (fs ++ f ∷ []) q n
  has_more q n h =
      let l = longer fs f in
      (omega (arith, h.0, l), ap (λ g. g.live) (frame_before fs f q h.0) ∙ h.1, ap (λ g. g.number) (frame_before fs f q h.0) ∙ h.2)

  pub leads_more : (m : Frames) (r : FrameRef) → Leads fs m r → Leads (fs ++ f ∷ []) m r
  leads_more m r leads = (leads.0, λ on. has_more r.frame r.stamp (leads.1 on))

  pub kept_more : KeptBefore fs (fs ++ f ∷ [])
  kept_more q n c h =
      let was = has_old q n h.0 in
      (was, sym (ap (λ g. g.component) (frame_before fs f q was.0)) ∙ h.1, h.2)

turned : (f g : Frame) → Apart f g → Apart g f
turned f g h = elim h [ inl a ↦ inr a | inr a ↦ inl a ]

-- a free region more, behind all others
pub adds : (fs : List Frame) (old cells : List Slot) (m : Frames) (f : Frame) → Holds fs old m → Holds fs cells m → f.live ≡ false → f.base ≡ length old → f.base + f.cells ≤ length cells → Holds (fs ++ f ∷ []) cells m
adds fs old cells m f ho h free base inside =
    let away : (q : ℕ) → q < length fs → Apart (frame_at fs q) f = λ q hq. let w = ho.within q hq in inl (omega (arith, w, base)) in
    let below : (q : ℕ) → (q ≡ length fs → ⊥) → q < length (fs ++ f ∷ []) → q < length fs = λ q ne hq. let l = longer fs f in omega (arith, ne, hq, l) in
    record {
      known = λ q n hq.
          let was = has_old fs f free q n hq in
          h.known q n was ∙ ap (λ g. Some (instance_of cells g)) (sym (frame_before fs f q was.0));
      found = λ n on. let at = h.found n on in (at.0, has_more fs f free at.0 n at.1);
      standings = λ q n hq.
          let was = has_old fs f free q n hq in
          subst (λ g. StandsAs g.component (slice_get m.standings n)) (sym (frame_before fs f q was.0)) (h.standings q n was);
      counted = h.counted;
      single = λ p q n hp hq. h.single p q n (has_old fs f free p n hp) (has_old fs f free q n hq);
      parents = λ q n hq r up.
          let was = has_old fs f free q n hq in
          leads_more fs f free m r (h.parents q n was r (sym (ap (λ g. g.parent) (frame_before fs f q was.0)) ∙ up));
      links = λ at names. leads_more fs f free m _ (h.links at names);
      within = λ q hq.
          elim (same_or_not q (length fs)) [
            | inl e ↦ subst (λ g. g.base + g.cells ≤ length cells) (sym (ap (frame_at (fs ++ f ∷ [])) e ∙ frame_last fs f)) inside
            | inr ne ↦ subst (λ g. g.base + g.cells ≤ length cells) (sym (frame_before fs f q (below q ne hq))) (h.within q (below q ne hq))
          ];
      apart = λ p q hp hq d.
          elim (same_or_not p (length fs)) [
            | inl e ↦ elim (same_or_not q (length fs)) [
              | inl e2 ↦ absurd (d (e ∙ sym e2))
              | inr ne2 ↦
                  subst (λ g. Apart g (frame_at (fs ++ f ∷ []) q)) (sym (ap (frame_at (fs ++ f ∷ [])) e ∙ frame_last fs f))
                  (subst (λ g. Apart f g) (sym (frame_before fs f q (below q ne2 hq))) (turned (frame_at fs q) f (away q (below q ne2 hq))))
            ]
            | inr ne ↦ elim (same_or_not q (length fs)) [
              | inl e2 ↦
                  subst (λ g. Apart g (frame_at (fs ++ f ∷ []) q)) (sym (frame_before fs f p (below p ne hp)))
                  (subst (λ g. Apart (frame_at fs p) g) (sym (ap (frame_at (fs ++ f ∷ [])) e2 ∙ frame_last fs f)) (away p (below p ne hp)))
              | inr ne2 ↦
                  subst (λ g. Apart g (frame_at (fs ++ f ∷ []) q)) (sym (frame_before fs f p (below p ne hp)))
                  (subst (λ g. Apart (frame_at fs p) g) (sym (frame_before fs f q (below q ne2 hq))) (h.apart p q (below p ne hp) (below q ne2 hq) d))
            ]
          ];
    }

-- the new slots name no array
pub grows_leading : (cells : List Slot) (regions : List RegionOf) (arrays : List ArrayOf) → AllLeadArrays regions arrays cells → AllLeadArrays regions arrays (cells ++ empty_slot ∷ [])
grows_leading cells regions arrays all q = subst (λ s. SlotLeadsArray regions arrays s) (sym (grown_at cells q)) (all q)

-- A frame that stands otherwise as a component.
use Rattle.std.proofs.Common.{◌≡◌, ℕ, ◌<◌, inl, inr, List, length, set, sym, subst, refl, length-set, ap, ◌∙◌, arith}
use Rattle.std.proofs.lemmas.Option.{slice_get_within}
use Rattle.std.specs.Prelude.{true, Some, slice_get}
use Rattle.sim_values.specs.declared.value.FrameRef.{FrameRef}
use Rattle.sim_chains.specs.Components.{Standing}
use Rattle.sim_code.specs.Machine.{Activation, Frames}
use Rattle.frame_arena.specs.declared.slot.Slot.{Slot}
use Rattle.frame_arena.specs.declared.frames.Component.{Component}
use Rattle.frame_arena.specs.declared.frames.Frame.{Frame}
use Rattle.frame_arena.specs.Frames.{Has, Holds, IsKeeping, Leads, StandsAs, frame_at, instance_of}
use Rattle.frame_arena.proofs.Changes.{apart_kept, base_kept, cells_kept, frame_other, frame_same, get_set_other, get_set_same, same_or_not}
use Rattle.frame_arena.proofs.Entries.{kept_by}

module _ (fs : List Frame) (place : ℕ) (there : place < length fs) (c : Component) where
  changed : Frame
  changed = record (frame_at fs place) { component = c }

  was : (q n : ℕ) → Has (set fs place changed) q n → Has fs q n
  unfolding changed
  was q n hq = (subst (λ l. q < l) (length-set fs place changed) hq.0, sym (kept_by (λ g. g.live) fs place changed q there refl) ∙ hq.1, sym (kept_by (λ g. g.number) fs place changed q there refl) ∙ hq.2)

  pub has_kept : (q n : ℕ) → Has fs q n → Has (set fs place (record (frame_at fs place) { component = c })) q n
  unfolding changed
  has_kept q n hq = (subst (λ l. q < l) (sym (length-set fs place changed)) hq.0, kept_by (λ g. g.live) fs place changed q there refl ∙ hq.1, kept_by (λ g. g.number) fs place changed q there refl ∙ hq.2)

  pub component_leads : (m : Frames) (standings : List (Standing Activation)) (r : FrameRef) → Leads fs m r → Leads (set fs place (record (frame_at fs place) { component = c })) (record m { standings = standings }) r
  unfolding changed
  component_leads m standings r leads = (leads.0, λ on. has_kept r.frame r.stamp (leads.1 on))

  -- at other places nothing is changed
  pub kept_elsewhere : (q n : ℕ) (d : Component) → (q ≡ place → ⊥) → IsKeeping (set fs place (record (frame_at fs place) { component = c })) q n d → IsKeeping fs q n d
  unfolding changed
  kept_elsewhere q n d ne h = (was q n h.0, sym (ap (λ g. g.component) (frame_other fs place changed q ne)) ∙ h.1, h.2)

  pub stands_there : (frame_at (set fs place (record (frame_at fs place) { component = c })) place).component ≡ c
  unfolding changed
  stands_there = ap (λ g. g.component) (frame_same fs place changed there)

  pub stands_anew : (s : Standing Activation) → StandsAs c (Some s) → (cells : List Slot) (m : Frames) → Holds fs cells m → (frame_at fs place).live ≡ true →
      Holds (set fs place (record (frame_at fs place) { component = c })) cells (record m { standings = set m.standings (frame_at fs place).number s })
  unfolding changed
  stands_anew s stands cells m h on =
      let j : ℕ = (frame_at fs place).number in
      let below : j < length m.standings = subst (λ l. j < l) (sym h.counted) (slice_get_within m.instances j _ (h.known place j (there, on, refl))) in
      record {
        known = λ q n hq.
            h.known q n (was q n hq)
            ∙ elim (same_or_not q place) [
              | inl p ↦ ap (λ z. Some (instance_of cells (frame_at fs z))) p ∙ ap (λ g. Some (instance_of cells g)) (sym (ap (frame_at (set fs place changed)) p ∙ frame_same fs place changed there))
              | inr ne ↦ ap (λ g. Some (instance_of cells g)) (sym (frame_other fs place changed q ne))
            ];
        found = λ n on. let at = h.found n on in (at.0, has_kept at.0 n at.1);
        standings = λ q n hq.
            elim (same_or_not q place) [
              | inl p ↦
                  let nj : n ≡ j = sym (was q n hq).2 ∙ ap (λ z. (frame_at fs z).number) p in
                  subst (λ g. StandsAs g.component (slice_get (set m.standings j s) n)) (sym (ap (frame_at (set fs place changed)) p ∙ frame_same fs place changed there))
                  (subst (λ v. StandsAs c v) (sym (ap (slice_get (set m.standings j s)) nj ∙ get_set_same m.standings j s below)) stands)
              | inr ne ↦
                  subst (λ g. StandsAs g.component (slice_get (set m.standings j s) n)) (sym (frame_other fs place changed q ne))
                  (subst (λ v. StandsAs (frame_at fs q).component v) (sym (get_set_other m.standings n j s (λ e. ne (h.single q place n (was q n hq) (there, on, sym e))))) (h.standings q n (was q n hq)))
            ];
        counted = length-set m.standings j s ∙ h.counted;
        single = λ p q n hp hq. h.single p q n (was p n hp) (was q n hq);
        parents = λ q n hq r up. component_leads m (set m.standings j s) r (h.parents q n (was q n hq) r (sym (kept_by (λ g. g.parent) fs place changed q there refl) ∙ up));
        links = λ at names. component_leads m (set m.standings j s) _ (h.links at names);
        within = λ q hq.
            let o = h.within q (subst (λ l. q < l) (length-set fs place changed) hq) in
            let b = base_kept fs place changed q there refl in
            let c = cells_kept fs place changed q there refl in
            omega (arith, o, b, c);
        apart = λ p q hp hq d.
            apart_kept (frame_at fs p) (frame_at fs q) (frame_at (set fs place changed) p) (frame_at (set fs place changed) q) (base_kept fs place changed p there refl) (cells_kept fs place changed p there refl) (base_kept fs place changed q there refl) (cells_kept fs place changed q there refl)
            (h.apart p q (subst (λ l. p < l) (length-set fs place changed) hp) (subst (λ l. q < l) (length-set fs place changed) hq) d);
      }

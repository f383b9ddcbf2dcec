-- What a change of a region makes of the machine's memory.
use Rattle.std.proofs.Common.{◌≡◌, ℕ, zero, suc, ◌<◌, ◌⊎◌, inl, inr, List, [], ◌∷◌, length, set, sym, subst, refl, length-set, ap, ◌∙◌, arith, get_or-set_same, get_or-set_other}
use Rattle.std.proofs.lemmas.Option.{slice_get_within}
use Rattle.std.specs.Prelude.{Bool, true, false, Some, None, slice_get}
use Rattle.sim_values.specs.declared.value.FrameRef.{FrameRef}
use Rattle.sim_code.specs.Instances.{Instance, given, given_in, is_live, is_live_in, live, unless_given, with_instance}
use Rattle.sim_code.specs.Machine.{Cells, Frames}
use Rattle.frame_arena.specs.declared.slot.Slot.{Slot}
use Rattle.frame_arena.specs.declared.frames.Component.{Component}
use Rattle.frame_arena.specs.declared.frames.Frame.{Frame}
use Rattle.frame_arena.specs.Frames.{Apart, Has, Holds, Leads, KeptBefore, IsKeeping, StandsAs, frame_at, instance_of, no_frame}

-- ---- lists and numbers

pub same_or_not : (a b : ℕ) → (a ≡ b) ⊎ (a ≡ b → ⊥)
same_or_not zero zero = inl refl
same_or_not zero (suc b) = inr (λ e. omega (arith, e))
same_or_not (suc a) zero = inr (λ e. omega (arith, e))
same_or_not (suc a) (suc b) = elim (same_or_not a b) [ inl e ↦ inl (ap suc e) | inr n ↦ inr (λ e. n (omega (arith, e))) ]

abbrev truth_type : Bool → Type 0
truth_type true = Unit {0}
truth_type false = ⊥

pub off : false ≡ true → ⊥
off e = subst truth_type (sym e) tt

module _ {X : Type 0} where
  pub get_set_same : (xs : List X) (i : ℕ) (x : X) → i < length xs → slice_get (set xs i x) i ≡ Some x
  get_set_same [] i x h = absurd (omega (arith, h))
  get_set_same (y ∷ ys) zero x h = refl
  get_set_same (y ∷ ys) (suc i) x h = get_set_same ys i x (omega (arith, h))

  pub get_set_other : (xs : List X) (i j : ℕ) (x : X) → (i ≡ j → ⊥) → slice_get (set xs j x) i ≡ slice_get xs i
  get_set_other [] i j x h = refl
  get_set_other (y ∷ ys) zero zero x h = absurd (h refl)
  get_set_other (y ∷ ys) zero (suc j) x h = refl
  get_set_other (y ∷ ys) (suc i) zero x h = refl
  get_set_other (y ∷ ys) (suc i) (suc j) x h = get_set_other ys i j x (λ e. h (ap suc e))

-- ---- one frame is changed

module _ (fs : List Frame) (place : ℕ) (f : Frame) where
  pub frame_same : place < length fs → frame_at (set fs place f) place ≡ f
  frame_same h = get_or-set_same fs place f no_frame h

  pub frame_other : (q : ℕ) → (q ≡ place → ⊥) → frame_at (set fs place f) q ≡ frame_at fs q
  frame_other q h = get_or-set_other fs place q f no_frame h

  pub has_from : (q n : ℕ) → (q ≡ place → ⊥) → Has (set fs place f) q n → Has fs q n
  has_from q n h e = (subst (λ l. q < l) (length-set fs place f) e.0, sym (ap (λ g. g.live) (frame_other q h)) ∙ e.1, sym (ap (λ g. g.number) (frame_other q h)) ∙ e.2)

  pub has_to : (q n : ℕ) → (q ≡ place → ⊥) → Has fs q n → Has (set fs place f) q n
  has_to q n h e = (subst (λ l. q < l) (sym (length-set fs place f)) e.0, ap (λ g. g.live) (frame_other q h) ∙ e.1, ap (λ g. g.number) (frame_other q h) ∙ e.2)

  pub base_kept : (q : ℕ) → place < length fs → f.base ≡ (frame_at fs place).base → (frame_at (set fs place f) q).base ≡ (frame_at fs q).base
  base_kept q h e =
      elim (same_or_not q place) [
        | inl s ↦ subst (λ p. (frame_at (set fs place f) p).base ≡ (frame_at fs p).base) (sym s) (ap (λ g. g.base) (frame_same h) ∙ e)
        | inr n ↦ ap (λ g. g.base) (frame_other q n)
      ]

  pub cells_kept : (q : ℕ) → place < length fs → f.cells ≡ (frame_at fs place).cells → (frame_at (set fs place f) q).cells ≡ (frame_at fs q).cells
  cells_kept q h e =
      elim (same_or_not q place) [
        | inl s ↦ subst (λ p. (frame_at (set fs place f) p).cells ≡ (frame_at fs p).cells) (sym s) (ap (λ g. g.cells) (frame_same h) ∙ e)
        | inr n ↦ ap (λ g. g.cells) (frame_other q n)
      ]

  -- where the frame that is changed keeps no chain, or did so before
  pub kept_set : ((n : ℕ) (c : Component) → IsKeeping (set fs place f) place n c → IsKeeping fs place n c) → KeptBefore fs (set fs place f)
  kept_set here q n c h =
      elim (same_or_not q place) [
        | inl e ↦ subst (λ z. IsKeeping fs z n c) (sym e) (here n c (subst (λ z. IsKeeping (set fs place f) z n c) e h))
        | inr ne ↦ (has_from q n ne h.0, sym (ap (λ g. g.component) (frame_other q ne)) ∙ h.1, h.2)
      ]

-- regions stay apart
pub apart_kept : (f g f2 g2 : Frame) → f2.base ≡ f.base → f2.cells ≡ f.cells → g2.base ≡ g.base → g2.cells ≡ g.cells → Apart f g → Apart f2 g2
apart_kept f g f2 g2 a b c d h = elim h [ inl e ↦ inl (omega (arith, a, b, c, d, e)) | inr e ↦ inr (omega (arith, a, b, c, d, e)) ]

-- ---- a frame is given back

module _ (m : Frames) (j : ℕ) (x : Instance Cells) where
  pub given_is : slice_get m.instances j ≡ Some x → given m j ≡ with_instance m j (record x { given_back = true })
  given_is e = ap (given_in m j) e

  gone_now : slice_get m.instances j ≡ Some x → live (with_instance m j (record x { given_back = true })) j ≡ None
  gone_now e = ap unless_given (get_set_same m.instances j (record x { given_back = true }) (slice_get_within m.instances j x e))

  pub live_other : (y : Instance Cells) (n : ℕ) → (n ≡ j → ⊥) → live (with_instance m j y) n ≡ live m n
  live_other y n h = ap unless_given (get_set_other m.instances n j y h)

pub leads_given : (fs : List Frame) (cells : List Slot) (m : Frames) (place j : ℕ) (f : Frame) (x : Instance Cells) (r : FrameRef) → Holds fs cells m → Has fs place j → slice_get m.instances j ≡ Some x →
    Leads fs m r → Leads (set fs place f) (with_instance m j (record x { given_back = true })) r
leads_given fs cells m place j f x r h has e leads = (
  subst (λ l. r.stamp < l) (sym (length-set m.instances j (record x { given_back = true }))) leads.0,
  λ on.
      let ne : r.stamp ≡ j → ⊥ = λ s. off (sym (ap is_live_in (gone_now m j x e)) ∙ ap (is_live (with_instance m j (record x { given_back = true }))) (sym s) ∙ on) in
      let old : Has fs r.frame r.stamp = leads.1 (sym (ap is_live_in (live_other m j x (record x { given_back = true }) r.stamp ne)) ∙ on) in
      has_to fs place f r.frame r.stamp (λ p. ne (sym old.2 ∙ ap (λ q. (frame_at fs q).number) p ∙ has.2)) old,
)

found_given : (fs : List Frame) (cells : List Slot) (m : Frames) (place j : ℕ) (f : Frame) (x : Instance Cells) (n : ℕ) → Holds fs cells m → Has fs place j → slice_get m.instances j ≡ Some x →
    is_live (with_instance m j (record x { given_back = true })) n ≡ true → (at : ℕ) × Has (set fs place f) at n
found_given fs cells m place j f x n h has e on =
    let y : Instance Cells = record x { given_back = true } in
    let ne : n ≡ j → ⊥ = λ s. off (sym (ap is_live_in (gone_now m j x e)) ∙ ap (is_live (with_instance m j y)) (sym s) ∙ on) in
    let was = h.found n (sym (ap is_live_in (live_other m j x y n ne)) ∙ on) in
    (was.0, has_to fs place f was.0 n (λ p. ne (sym was.1.2 ∙ ap (λ q. (frame_at fs q).number) p ∙ has.2)) was.1)

gives_in : (fs : List Frame) (cells : List Slot) (m : Frames) (place j : ℕ) (f : Frame) (x : Instance Cells) → Holds fs cells m → Has fs place j → slice_get m.instances j ≡ Some x →
    f.live ≡ false → f.base ≡ (frame_at fs place).base → f.cells ≡ (frame_at fs place).cells → Holds (set fs place f) cells (with_instance m j (record x { given_back = true }))
gives_in fs cells m place j f x h has e free b0 c0 =
    let ne : (q n : ℕ) → Has (set fs place f) q n → q ≡ place → ⊥ = λ q n hq p. off (sym free ∙ sym (ap (λ g. g.live) (frame_same fs place f has.0)) ∙ ap (λ z. (frame_at (set fs place f) z).live) (sym p) ∙ hq.1) in
    let was : (q n : ℕ) → Has (set fs place f) q n → Has fs q n = λ q n hq. has_from fs place f q n (ne q n hq) hq in
    record {
      known = λ q n hq.
          get_set_other m.instances n j _ (λ s. ne q n hq (h.single q place n (was q n hq) (has.0, has.1, has.2 ∙ sym s)))
          ∙ h.known q n (was q n hq)
          ∙ ap (λ g. Some (instance_of cells g)) (sym (frame_other fs place f q (ne q n hq)));
      found = λ n on. found_given fs cells m place j f x n h has e on;
      standings = λ q n hq. subst (λ g. StandsAs g.component (slice_get m.standings n)) (sym (frame_other fs place f q (ne q n hq))) (h.standings q n (was q n hq));
      counted = h.counted ∙ sym (length-set m.instances j _);
      single = λ p q n hp hq. h.single p q n (was p n hp) (was q n hq);
      parents = λ q n hq r up. leads_given fs cells m place j f x r h has e (h.parents q n (was q n hq) r (sym (ap (λ g. g.parent) (frame_other fs place f q (ne q n hq))) ∙ up));
      links = λ at names. leads_given fs cells m place j f x _ h has e (h.links at names);
      within = λ q hq.
          let old = h.within q (subst (λ l. q < l) (length-set fs place f) hq) in
          let b = base_kept fs place f q has.0 b0 in
          let c = cells_kept fs place f q has.0 c0 in
          omega (arith, old, b, c);
      apart = λ p q hp hq d.
          apart_kept (frame_at fs p) (frame_at fs q) (frame_at (set fs place f) p) (frame_at (set fs place f) q) (base_kept fs place f p has.0 b0) (cells_kept fs place f p has.0 c0) (base_kept fs place f q has.0 b0) (cells_kept fs place f q has.0 c0)
          (h.apart p q (subst (λ l. p < l) (length-set fs place f) hp) (subst (λ l. q < l) (length-set fs place f) hq) d);
    }

pub gives : (fs : List Frame) (cells : List Slot) (m : Frames) (place : ℕ) (f : Frame) → Holds fs cells m → place < length fs → (frame_at fs place).live ≡ true →
    f.live ≡ false → f.base ≡ (frame_at fs place).base → f.cells ≡ (frame_at fs place).cells → Holds (set fs place f) cells (given m (frame_at fs place).number)
gives fs cells m place f h there on free b0 c0 =
    let has : Has fs place (frame_at fs place).number = (there, on, refl) in
    let e = h.known place (frame_at fs place).number has in
    subst (λ m2. Holds (set fs place f) cells m2) (sym (given_is m (frame_at fs place).number _ e))
    (gives_in fs cells m place (frame_at fs place).number f _ h has e free b0 c0)

pub kept_given : (fs : List Frame) (place : ℕ) (f : Frame) → place < length fs → f.live ≡ false → KeptBefore fs (set fs place f)
kept_given fs place f there free = kept_set fs place f (λ n c h. absurd (off (sym free ∙ sym (ap (λ g. g.live) (frame_same fs place f there)) ∙ h.0.1)))

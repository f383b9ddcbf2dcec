-- An entry into a region that is free, and writes into cells.
use Rattle.std.proofs.Common.{◌≡◌, ℕ, zero, suc, ◌+◌, ◌<◌, ◌≤◌, ◌⊎◌, inl, inr, List, [], ◌∷◌, ◌++◌, length, length-append, set, sym, subst, refl, length-set, ap, ◌∙◌, arith, get_or-set_same, get_or-set_other}
use Rattle.std.proofs.lemmas.Option.{slice_get_within}
use Rattle.std.specs.Prelude.{true, false, Option, Some, None, slice_get, nat_lt, if◌then◌else◌}
use Rattle.sim_values.specs.declared.value.FrameRef.{FrameRef}
use Rattle.sim_chains.specs.Components.{Standing}
use Rattle.sim_code.specs.Instances.{Instance, cells_in, cells_put, entered, is_live, is_live_in, live, unless_given, with_instance}
use Rattle.sim_code.specs.Machine.{Activation, Cells, Frames, Value, cell_set, put_in}
use Rattle.frame_arena.specs.declared.slot.Slot.{Slot}
use Rattle.frame_arena.specs.declared.frames.Frame.{Frame}
use Rattle.frame_arena.specs.Slots.{cell_value, empty_slot, value_of}
use Rattle.frame_arena.specs.Stacks.{slot_at}
use Rattle.frame_arena.specs.Frames.{Apart, KeptBefore, Has, Holds, HoldsAfter, Leads, SlotLeads, cells_at, StandsAs, empty_memory, frame_at, instance_of}
use Rattle.frame_arena.proofs.Reading.{cell_count, live_of}
use Rattle.frame_arena.proofs.Changes.{apart_kept, base_kept, cells_kept, frame_other, frame_same, get_set_other, get_set_same, has_from, has_to, kept_set, live_other, off, same_or_not}

-- ---- an entry

module _ {X : Type 0} where
  pub get_old : (xs ys : List X) (n : ℕ) → n < length xs → slice_get (xs ++ ys) n ≡ slice_get xs n
  get_old [] ys n h = absurd (omega (arith, h))
  get_old (x ∷ xs) ys zero h = refl
  get_old (x ∷ xs) ys (suc n) h = get_old xs ys n (omega (arith, h))

  pub get_new : (xs : List X) (y : X) → slice_get (xs ++ y ∷ []) (length xs) ≡ Some y
  get_new [] y = refl
  get_new (x ∷ xs) y = get_new xs y

below_live : (xs : List (Instance Cells)) (n : ℕ) → is_live_in (unless_given (slice_get xs n)) ≡ true → n < length xs
below_live [] n on = absurd (off on)
below_live (x ∷ xs) zero on = omega arith
below_live (x ∷ xs) (suc n) on = let less = below_live xs n on in omega (arith, less)

live_old : (m : Frames) (x : Instance Cells) (s : Standing Activation) (n : ℕ) → n < length m.instances → live (entered m x s) n ≡ live m n
live_old m x s n h = ap unless_given (get_old m.instances (x ∷ []) n h)

known_below : (fs : List Frame) (cells : List Slot) (m : Frames) (q n : ℕ) → Holds fs cells m → Has fs q n → n < length m.instances
known_below fs cells m q n h e = slice_get_within m.instances n _ (h.known q n e)

pub leads_entered : (fs : List Frame) (m : Frames) (place : ℕ) (f : Frame) (x : Instance Cells) (s : Standing Activation) (r : FrameRef) → (frame_at fs place).live ≡ false →
    Leads fs m r → Leads (set fs place f) (entered m x s) r
leads_entered fs m place f x s r free leads =
    let e : length (m.instances ++ x ∷ []) ≡ length m.instances + 1 = length-append m.instances (x ∷ []) in (
      omega (arith, leads.0, e),
      λ on.
          let old : Has fs r.frame r.stamp = leads.1 (sym (ap is_live_in (live_old m x s r.stamp leads.0)) ∙ on) in
          has_to fs place f r.frame r.stamp (λ p. off (sym free ∙ ap (λ z. (frame_at fs z).live) (sym p) ∙ old.1)) old,
    )

pub here_entered : (fs : List Frame) (place : ℕ) (f : Frame) → place < length fs → f.live ≡ true → Has (set fs place f) place f.number
here_entered fs place f there on = (subst (λ l. place < l) (sym (length-set fs place f)) there, ap (λ g. g.live) (frame_same fs place f there) ∙ on, ap (λ g. g.number) (frame_same fs place f there))

pub enters : (fs : List Frame) (cells : List Slot) (m : Frames) (place : ℕ) (f : Frame) (s : Standing Activation) → StandsAs f.component (Some s) → Holds fs cells m → place < length fs → (frame_at fs place).live ≡ false → f.live ≡ true →
    f.number ≡ length m.instances → f.base ≡ (frame_at fs place).base → f.cells ≡ (frame_at fs place).cells → ((r : FrameRef) → f.parent ≡ Some r → Leads fs m r) →
    Holds (set fs place f) cells (entered m (instance_of cells f) s)
enters fs cells m place f s stands h there free on0 numbered b0 c0 parent =
    let x : Instance Cells = instance_of cells f in
    let fresh : (q n : ℕ) → q ≡ place → Has (set fs place f) q n → n ≡ length m.instances = λ q n p hq. sym hq.2 ∙ ap (λ z. (frame_at (set fs place f) z).number) p ∙ ap (λ g. g.number) (frame_same fs place f there) ∙ numbered in
    record {
      known = λ q n hq.
          elim (same_or_not q place) [
            | inl p ↦ ap (slice_get (m.instances ++ x ∷ [])) (fresh q n p hq) ∙ get_new m.instances x ∙ ap (λ g. Some (instance_of cells g)) (sym (ap (frame_at (set fs place f)) p ∙ frame_same fs place f there))
            | inr ne ↦
                let was : Has fs q n = has_from fs place f q n ne hq in
                get_old m.instances (x ∷ []) n (known_below fs cells m q n h was) ∙ h.known q n was ∙ ap (λ g. Some (instance_of cells g)) (sym (frame_other fs place f q ne))
          ];
      found = λ n on.
          elim (same_or_not n (length m.instances)) [
            | inl e ↦ (place, subst (Has (set fs place f) place) (numbered ∙ sym e) (here_entered fs place f there on0))
            | inr ne ↦
                let less : n < length m.instances = let a = below_live (m.instances ++ x ∷ []) n on in let b = length-append m.instances (x ∷ []) in omega (arith, a, b, ne) in
                let was = h.found n (sym (ap is_live_in (live_old m x s n less)) ∙ on) in
                (was.0, has_to fs place f was.0 n (λ p. off (sym free ∙ ap (λ z. (frame_at fs z).live) (sym p) ∙ was.1.1)) was.1)
          ];
      standings = λ q n hq.
          elim (same_or_not q place) [
            | inl p ↦
                subst (λ g. StandsAs g.component (slice_get (m.standings ++ s ∷ []) n)) (sym (ap (frame_at (set fs place f)) p ∙ frame_same fs place f there))
                (subst (λ v. StandsAs f.component v) (sym (ap (slice_get (m.standings ++ s ∷ [])) (fresh q n p hq ∙ sym h.counted) ∙ get_new m.standings s)) stands)
            | inr ne ↦
                let was : Has fs q n = has_from fs place f q n ne hq in
                subst (λ g. StandsAs g.component (slice_get (m.standings ++ s ∷ []) n)) (sym (frame_other fs place f q ne))
                (subst (λ v. StandsAs (frame_at fs q).component v) (sym (get_old m.standings (s ∷ []) n (subst (λ l. n < l) (sym h.counted) (known_below fs cells m q n h was)))) (h.standings q n was))
          ];
      counted = let a = length-append m.standings (s ∷ []) in let b = length-append m.instances (x ∷ []) in let c = h.counted in omega (arith, a, b, c);
      single = λ p q n hp hq.
          elim (same_or_not p place) [
            | inl e ↦ elim (same_or_not q place) [
              | inl e2 ↦ e ∙ sym e2
              | inr ne2 ↦ absurd (let a = fresh p n e hp in let b = known_below fs cells m q n h (has_from fs place f q n ne2 hq) in omega (arith, a, b))
            ]
            | inr ne ↦ elim (same_or_not q place) [
              | inl e2 ↦ absurd (let a = fresh q n e2 hq in let b = known_below fs cells m p n h (has_from fs place f p n ne hp) in omega (arith, a, b))
              | inr ne2 ↦ h.single p q n (has_from fs place f p n ne hp) (has_from fs place f q n ne2 hq)
            ]
          ];
      parents = λ q n hq r up.
          elim (same_or_not q place) [
            | inl p ↦ leads_entered fs m place f x s r free (parent r (sym (ap (λ g. g.parent) (ap (frame_at (set fs place f)) p ∙ frame_same fs place f there)) ∙ up))
            | inr ne ↦ leads_entered fs m place f x s r free (h.parents q n (has_from fs place f q n ne hq) r (sym (ap (λ g. g.parent) (frame_other fs place f q ne)) ∙ up))
          ];
      links = λ at names. leads_entered fs m place f x s _ free (h.links at names);
      within = λ q hq.
          let old = h.within q (subst (λ l. q < l) (length-set fs place f) hq) in
          let b = base_kept fs place f q there b0 in
          let c = cells_kept fs place f q there c0 in
          omega (arith, old, b, c);
      apart = λ p q hp hq d.
          apart_kept (frame_at fs p) (frame_at fs q) (frame_at (set fs place f) p) (frame_at (set fs place f) q) (base_kept fs place f p there b0) (cells_kept fs place f p there c0) (base_kept fs place f q there b0) (cells_kept fs place f q there c0)
          (h.apart p q (subst (λ l. p < l) (length-set fs place f) hp) (subst (λ l. q < l) (length-set fs place f) hq) d);
    }

-- ---- writes into cells

abbrev some_type : {X : Type 0} → Option X → Type 0
some_type None = Unit {0}
some_type (Some x) = ⊥

pub no_some : {X : Type 0} (x : X) → ◌≡◌ {A = Option X} None (Some x) → ⊥
no_some x e = subst some_type e tt

pub written_here : (cells : List Slot) (k : ℕ) (s : Slot) → k < length cells → slot_at (set cells k s) k ≡ s
written_here cells k s h = get_or-set_same cells k s empty_slot h

pub written_elsewhere : (cells : List Slot) (k q : ℕ) (s : Slot) → (q ≡ k → ⊥) → slot_at (set cells k s) q ≡ slot_at cells q
written_elsewhere cells k q s h = get_or-set_other cells k q s empty_slot h

cells_elsewhere : (cells : List Slot) (base count k : ℕ) (s : Slot) → (k < base) ⊎ (base + count ≤ k) → cells_at (set cells k s) base count ≡ cells_at cells base count
cells_elsewhere cells base zero k s h = refl
cells_elsewhere cells base (suc n) k s h =
    let ne : base ≡ k → ⊥ = elim h [ inl a ↦ λ e. omega (arith, a, e) | inr a ↦ λ e. omega (arith, a, e) ] in
    let h2 : (k < suc base) ⊎ (suc base + n ≤ k) = elim h [ inl a ↦ inl (omega (arith, a)) | inr a ↦ inr (omega (arith, a)) ] in
    ap (λ z. cell_value z ∷ cells_at (set cells k s) (suc base) n) (written_elsewhere cells k base s ne)
    ∙ ap (λ l. cell_value (slot_at cells base) ∷ l) (cells_elsewhere cells (suc base) n k s h2)

pub cells_written : (cells : List Slot) (base count c : ℕ) (s : Slot) → c < count → base + c < length cells → cells_at (set cells (base + c) s) base count ≡ set (cells_at cells base count) c (cell_value s)
cells_written cells base zero c s h h2 = absurd (omega (arith, h))
cells_written cells base (suc n) zero s h h2 =
    let e : base + 0 ≡ base = omega arith in
    ap (λ k. cells_at (set cells k s) base (suc n)) e
    ∙ ap (λ z. cell_value z ∷ cells_at (set cells base s) (suc base) n) (written_here cells base s (omega (arith, h2)))
    ∙ ap (λ l. cell_value s ∷ l) (cells_elsewhere cells (suc base) n base s (inl (omega arith)))
cells_written cells base (suc n) (suc c) s h h2 =
    let e : base + suc c ≡ suc base + c = omega arith in
    ap (λ z. cell_value z ∷ cells_at (set cells (base + suc c) s) (suc base) n) (written_elsewhere cells (base + suc c) base s (λ x. omega (arith, x)))
    ∙ ap (λ k. cell_value (slot_at cells base) ∷ cells_at (set cells k s) (suc base) n) e
    ∙ ap (λ l. cell_value (slot_at cells base) ∷ l) (cells_written cells (suc base) n c s (omega (arith, h)) (omega (arith, h2, e)))

-- what lies apart from a region with a cell
apart_from : (f g : Frame) (c : ℕ) → Apart f g → c < f.cells → (f.base + c < g.base) ⊎ (g.base + g.cells ≤ f.base + c)
apart_from f g c h h2 = elim h [ inl a ↦ inl (omega (arith, a, h2)) | inr a ↦ inr (omega (arith, a)) ]

lt_yes : (a b : ℕ) → a < b → nat_lt a b ≡ true
lt_yes a b h = grind (arith, h)

pub lt_no : (a b : ℕ) → b ≤ a → nat_lt a b ≡ false
lt_no a b h = grind (arith, h)

-- a write into a region that is free
pub frees : (fs : List Frame) (cells : List Slot) (m : Frames) (place c : ℕ) (s : Slot) → Holds fs cells m → place < length fs → (frame_at fs place).live ≡ false → c < (frame_at fs place).cells →
    (frame_at fs place).base + c < length cells → SlotLeads fs m s → Holds fs (set cells ((frame_at fs place).base + c) s) m
frees fs cells m place c s h there free h1 h2 leads =
    let k : ℕ = (frame_at fs place).base + c in
    record {
      known = λ q n hq.
          let ne : place ≡ q → ⊥ = λ p. off (sym free ∙ ap (λ z. (frame_at fs z).live) p ∙ hq.1) in
          h.known q n hq
          ∙ ap (λ l. Some (record (instance_of cells (frame_at fs q)) { cells = l })) (sym (cells_elsewhere cells (frame_at fs q).base (frame_at fs q).cells k s (apart_from (frame_at fs place) (frame_at fs q) c (h.apart place q there hq.0 ne) h1)));
      found = h.found;
      standings = h.standings;
      counted = h.counted;
      single = h.single;
      parents = h.parents;
      links = λ at.
          elim (same_or_not at k) [
            | inl e ↦ subst (λ z. SlotLeads fs m z) (sym (ap (slot_at (set cells k s)) e ∙ written_here cells k s h2)) leads
            | inr ne ↦ subst (λ z. SlotLeads fs m z) (sym (written_elsewhere cells k at s ne)) (h.links at)
          ];
      within = λ q hq. let old = h.within q hq in let l = length-set cells k s in omega (arith, old, l);
      apart = h.apart;
    }

-- what was found is within
unless_within : (m : Frames) (j : ℕ) (x : Instance Cells) (o : Option (Instance Cells)) → slice_get m.instances j ≡ o → unless_given o ≡ Some x → j < length m.instances
unless_within m j x None e e2 = absurd (no_some x e2)
unless_within m j x (Some y) e e2 = slice_get_within m.instances j y e

pub live_within : (m : Frames) (j : ℕ) (x : Instance Cells) → live m j ≡ Some x → j < length m.instances
live_within m j x e = unless_within m j x (slice_get m.instances j) refl e

-- a write into a cell of a frame
pub leads_written : (fs : List Frame) (m : Frames) (j : ℕ) (x y : Instance Cells) (r : FrameRef) → live m j ≡ Some x → j < length m.instances → Leads fs m r → Leads fs (with_instance m j y) r
leads_written fs m j x y r e below leads = (
  subst (λ l. r.stamp < l) (sym (length-set m.instances j y)) leads.0,
  λ on.
      elim (same_or_not r.stamp j) [
        | inl s ↦ leads.1 (ap (is_live m) s ∙ ap is_live_in e)
        | inr ne ↦ leads.1 (sym (ap is_live_in (live_other m j x y r.stamp ne)) ∙ on)
      ],
)

found_written : (fs : List Frame) (cells : List Slot) (m : Frames) (j : ℕ) (x y : Instance Cells) (n : ℕ) → Holds fs cells m → live m j ≡ Some x → is_live (with_instance m j y) n ≡ true → (place : ℕ) × Has fs place n
found_written fs cells m j x y n h e on =
    elim (same_or_not n j) [
      | inl s ↦ h.found n (ap (is_live m) s ∙ ap is_live_in e)
      | inr ne ↦ h.found n (sym (ap is_live_in (live_other m j x y n ne)) ∙ on)
    ]

cell_set_is : (m : Frames) (j c : ℕ) (x : Instance Cells) (v : Value) → live m j ≡ Some x → c < length x.cells → cell_set m j c v ≡ Some (with_instance m j (record x { cells = set x.cells c (Some v) }))
cell_set_is m j c x v e h =
    ap (λ z. cells_put m j z (put_in (cells_in z) c v)) e
    ∙ ap (λ b. cells_put m j (Some x) (if b then Some (set x.cells c (Some v)) else None)) (lt_yes c (length x.cells) h)

pub cell_set_past : (m : Frames) (j c : ℕ) (x : Instance Cells) (v : Value) → live m j ≡ Some x → length x.cells ≤ c → cell_set m j c v ≡ None
cell_set_past m j c x v e h =
    ap (λ z. cells_put m j z (put_in (cells_in z) c v)) e
    ∙ ap (λ b. cells_put m j (Some x) (if b then Some (set x.cells c (Some v)) else None)) (lt_no c (length x.cells) h)

pub cell_set_gone : (m : Frames) (j c : ℕ) (v : Value) → live m j ≡ None → cell_set m j c v ≡ None
cell_set_gone m j c v e = ap (λ z. cells_put m j z (put_in (cells_in z) c v)) e

writes_in : (fs : List Frame) (cells : List Slot) (m : Frames) (place j c : ℕ) (s : Slot) → Holds fs cells m → Has fs place j → c < (frame_at fs place).cells →
    (frame_at fs place).base + c < length cells → SlotLeads fs m s → cell_value s ≡ Some (value_of s) →
    Holds fs (set cells ((frame_at fs place).base + c) s) (with_instance m j (record (instance_of cells (frame_at fs place)) { cells = set (cells_at cells (frame_at fs place).base (frame_at fs place).cells) c (Some (value_of s)) }))
writes_in fs cells m place j c s h has h1 h2 leads held =
    let f : Frame = frame_at fs place in
    let k : ℕ = f.base + c in
    let x : Instance Cells = instance_of cells f in
    let y : Instance Cells = record x { cells = set (cells_at cells f.base f.cells) c (Some (value_of s)) } in
    let known = h.known place j has in
    let below : j < length m.instances = slice_get_within m.instances j x known in
    let lives : live m j ≡ Some x = live_of fs cells m place j h has in
    record {
      known = λ q n hq.
          elim (same_or_not q place) [
            | inl p ↦
                let nj : n ≡ j = sym hq.2 ∙ ap (λ z. (frame_at fs z).number) p ∙ has.2 in
                let here : cells_at (set cells k s) f.base f.cells ≡ set (cells_at cells f.base f.cells) c (Some (value_of s)) =
                cells_written cells f.base f.cells c s h1 h2 ∙ ap (λ v. set (cells_at cells f.base f.cells) c v) held in
                ap (slice_get (set m.instances j y)) nj ∙ get_set_same m.instances j y below
                ∙ ap (λ l. Some (record x { cells = l })) (sym here)
                ∙ ap (λ z. Some (instance_of (set cells k s) (frame_at fs z))) (sym p)
            | inr ne ↦
                let nj : n ≡ j → ⊥ = λ e. ne (h.single q place n hq (has.0, has.1, has.2 ∙ sym e)) in
                get_set_other m.instances n j y nj
                ∙ h.known q n hq
                ∙ ap (λ l. Some (record (instance_of cells (frame_at fs q)) { cells = l })) (sym (cells_elsewhere cells (frame_at fs q).base (frame_at fs q).cells k s (apart_from f (frame_at fs q) c (h.apart place q has.0 hq.0 (λ e. ne (sym e))) h1)))
          ];
      found = λ n on. found_written fs cells m j x y n h lives on;
      standings = h.standings;
      counted = h.counted ∙ sym (length-set m.instances j y);
      single = h.single;
      parents = λ q n hq r up. leads_written fs m j x y r lives below (h.parents q n hq r up);
      links = λ at names.
          elim (same_or_not at k) [
            | inl e ↦
                let here : slot_at (set cells k s) at ≡ s = ap (slot_at (set cells k s)) e ∙ written_here cells k s h2 in
                leads_written fs m j x y _ lives below (subst (λ z. SlotLeads fs m z) (sym here) leads names)
            | inr ne ↦
                leads_written fs m j x y _ lives below (subst (λ z. SlotLeads fs m z) (sym (written_elsewhere cells k at s ne)) (h.links at) names)
          ];
      within = λ q hq. let old = h.within q hq in let l = length-set cells k s in omega (arith, old, l);
      apart = h.apart;
    }

pub writes : (fs : List Frame) (cells : List Slot) (m : Frames) (place j c : ℕ) (s : Slot) → Holds fs cells m → Has fs place j → c < (frame_at fs place).cells →
    (frame_at fs place).base + c < length cells → SlotLeads fs m s → cell_value s ≡ Some (value_of s) →
    HoldsAfter true fs (set cells ((frame_at fs place).base + c) s) (cell_set m j c (value_of s))
writes fs cells m place j c s h has h1 h2 leads held =
    let f : Frame = frame_at fs place in
    let long = cell_count cells f.base f.cells in
    subst (λ o. HoldsAfter true fs (set cells (f.base + c) s) o)
    (sym (cell_set_is m j c (instance_of cells f) (value_of s) (live_of fs cells m place j h has) (subst (λ l. c < l) (sym long) h1)))
    (refl, writes_in fs cells m place j c s h has h1 h2 leads held)

pub no_write : (fs : List Frame) (cells : List Slot) (m : Frames) (place j c : ℕ) (v : Value) → Holds fs cells m → Has fs place j → (frame_at fs place).cells ≤ c →
    HoldsAfter false fs cells (cell_set m j c v)
no_write fs cells m place j c v h has h1 =
    let f : Frame = frame_at fs place in
    let long = cell_count cells f.base f.cells in
    subst (λ o. HoldsAfter false fs cells o)
    (sym (cell_set_past m j c (instance_of cells f) v (live_of fs cells m place j h has) (subst (λ l. l ≤ c) (sym long) h1))) refl

-- ---- a frame is kept

pub kept_by : {X : Type 0} (p : Frame → X) (fs : List Frame) (place : ℕ) (f : Frame) (q : ℕ) → place < length fs → p f ≡ p (frame_at fs place) → p (frame_at (set fs place f) q) ≡ p (frame_at fs q)
kept_by p fs place f q h e =
    elim (same_or_not q place) [
      | inl s ↦ subst (λ z. p (frame_at (set fs place f) z) ≡ p (frame_at fs z)) (sym s) (ap p (frame_same fs place f h) ∙ e)
      | inr n ↦ ap p (frame_other fs place f q n)
    ]

pub keeps : (fs : List Frame) (cells : List Slot) (m : Frames) (place : ℕ) → Holds fs cells m → place < length fs → (frame_at fs place).live ≡ true →
    Holds (set fs place (record (frame_at fs place) { kept = true })) cells (with_instance m (frame_at fs place).number (record (instance_of cells (frame_at fs place)) { kept = true }))
keeps fs cells m place h there on =
    let old : Frame = frame_at fs place in
    let j : ℕ = old.number in
    let f : Frame = record old { kept = true } in
    let has : Has fs place j = (there, on, refl) in
    let x : Instance Cells = instance_of cells old in
    let y : Instance Cells = record x { kept = true } in
    let known = h.known place j has in
    let below : j < length m.instances = slice_get_within m.instances j x known in
    let lives : live m j ≡ Some x = live_of fs cells m place j h has in
    let was : (q n : ℕ) → Has (set fs place f) q n → Has fs q n = λ q n hq.
    (subst (λ l. q < l) (length-set fs place f) hq.0, sym (kept_by (λ g. g.live) fs place f q there refl) ∙ hq.1, sym (kept_by (λ g. g.number) fs place f q there refl) ∙ hq.2) in
    let will : (q n : ℕ) → Has fs q n → Has (set fs place f) q n = λ q n hq.
    (subst (λ l. q < l) (sym (length-set fs place f)) hq.0, kept_by (λ g. g.live) fs place f q there refl ∙ hq.1, kept_by (λ g. g.number) fs place f q there refl ∙ hq.2) in
    let leads : (r : FrameRef) → Leads fs m r → Leads (set fs place f) (with_instance m j y) r = λ r l.
    let w = leads_written fs m j x y r lives below l in
    (w.0, λ o. will r.frame r.stamp (w.1 o)) in
    record {
      known = λ q n hq.
          elim (same_or_not q place) [
            | inl p ↦
                let nj : n ≡ j = sym (was q n hq).2 ∙ ap (λ z. (frame_at fs z).number) p in
                ap (slice_get (set m.instances j y)) nj ∙ get_set_same m.instances j y below
                ∙ ap (λ g. Some (instance_of cells g)) (sym (ap (frame_at (set fs place f)) p ∙ frame_same fs place f there))
            | inr ne ↦
                let nj : n ≡ j → ⊥ = λ e. ne (h.single q place n (was q n hq) (there, on, sym e)) in
                get_set_other m.instances n j y nj
                ∙ h.known q n (was q n hq)
                ∙ ap (λ g. Some (instance_of cells g)) (sym (frame_other fs place f q ne))
          ];
      found = λ n on. let at = found_written fs cells m j x y n h lives on in (at.0, will at.0 n at.1);
      standings = λ q n hq. subst (λ c. StandsAs c (slice_get m.standings n)) (sym (kept_by (λ g. g.component) fs place f q there refl)) (h.standings q n (was q n hq));
      counted = h.counted ∙ sym (length-set m.instances j y);
      single = λ p q n hp hq. h.single p q n (was p n hp) (was q n hq);
      parents = λ q n hq r up. leads r (h.parents q n (was q n hq) r (sym (kept_by (λ g. g.parent) fs place f q there refl) ∙ up));
      links = λ at names. leads _ (h.links at names);
      within = λ q hq.
          let o = h.within q (subst (λ l. q < l) (length-set fs place f) hq) in
          let b = base_kept fs place f q there refl in
          let c = cells_kept fs place f q there refl in
          omega (arith, o, b, c);
      apart = λ p q hp hq d.
          apart_kept (frame_at fs p) (frame_at fs q) (frame_at (set fs place f) p) (frame_at (set fs place f) q) (base_kept fs place f p there refl) (cells_kept fs place f p there refl) (base_kept fs place f q there refl) (cells_kept fs place f q there refl)
          (h.apart p q (subst (λ l. p < l) (length-set fs place f) hp) (subst (λ l. q < l) (length-set fs place f) hq) d);
    }

pub chains_kept : (fs : List Frame) (place : ℕ) → place < length fs → KeptBefore fs (set fs place (record (frame_at fs place) { kept = true }))
chains_kept fs place there =
    let f : Frame = record (frame_at fs place) { kept = true } in
    let same = frame_same fs place f there in
    kept_set fs place f (λ n c h. ((there, sym (ap (λ g. g.live) same) ∙ h.0.1, sym (ap (λ g. g.number) same) ∙ h.0.2), sym (ap (λ g. g.component) same) ∙ h.1, h.2))

-- ---- the beginning

none_has : (q n : ℕ) → Has [] q n → ⊥
none_has q n h = omega (arith, h.0)

pub begins : Holds [] [] empty_memory
begins = record {
  known = λ q n h. absurd (none_has q n h);
  found = λ n on. absurd (off on);
  standings = λ q n h. absurd (none_has q n h);
  counted = refl;
  single = λ p q n h h2. absurd (none_has p n h);
  parents = λ q n h r up. absurd (none_has q n h);
  links = λ at names. absurd (off names);
  within = λ q h. absurd (omega (arith, h));
  apart = λ p q h h2 d. absurd (omega (arith, h));
}

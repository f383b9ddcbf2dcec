-- Activations of a chain, and where it is cut.
use Rattle.std.proofs.Common.{◌≡◌, ℕ, zero, suc, ◌-◌, ◌<◌, ◌≤◌, inl, inr, List, [], ◌∷◌, ◌++◌, length, map, sym, subst, refl, ap, ◌∙◌, arith, eq-eqb}
use Rattle.std.proofs.lemmas.List.{append_assoc, reverse-append, reverse-reverse}
use Rattle.std.specs.Prelude.{Bool, true, false, ◌||◌, reverse, Some, None, slice_get, slice_index_or}
use Rattle.sim_chains.specs.Chains.{is_instance, outermost, stands_on}
use Rattle.sim_code.specs.Machine.{owner}
use Rattle.frame_arena.proofs.Changes.{off, same_or_not}
use Rattle.frame_arena.proofs.Enclosers.{index_there}
use Rattle.object_machine.specs.declared.machine.Activation as working
use Rattle.object_machine.specs.Standing.{activation_of}
use Rattle.object_machine.specs.Transferring.{CutsAt, EndsAt, frame_of, operating}
use Rattle.object_machine.proofs.BlockFacts.{same_found}
use Rattle.object_machine.proofs.Transferring.{neither}

-- ---- what is true of each activation

abbrev pub Each : (P : working.Activation → Type 0) → List working.Activation → Type 0
Each P [] = Unit {0}
Each P (t ∷ ts) = P t × Each P ts

module _ (P : working.Activation → Type 0) where
  pub each_of : (ts : List working.Activation) → ((k : ℕ) (t : working.Activation) → slice_get ts k ≡ Some t → P t) → Each P ts
  each_of [] h = tt
  each_of (t ∷ ts) h = (h zero t refl, each_of ts (λ k u e. h (suc k) u e))

  pub of_each : (ts : List working.Activation) → Each P ts → (k : ℕ) (u : working.Activation) → slice_get ts k ≡ Some u → P u
  of_each [] h k u e = absurd (cc)
  of_each (t ∷ ts) h zero u e = subst P (same_found (Some t) t u refl e) h.0
  of_each (t ∷ ts) h (suc k) u e = of_each ts h.1 k u e

  pub each_join : (xs ys : List working.Activation) → Each P xs → Each P ys → Each P (xs ++ ys)
  each_join [] ys h i = i
  each_join (x ∷ xs) ys h i = (h.0, each_join xs ys h.1 i)

  pub each_first : (xs ys : List working.Activation) → Each P (xs ++ ys) → Each P xs
  each_first [] ys h = tt
  each_first (x ∷ xs) ys h = (h.0, each_first xs ys h.1)

  pub each_last : (xs ys : List working.Activation) → Each P (xs ++ ys) → Each P ys
  each_last [] ys h = h
  each_last (x ∷ xs) ys h = each_last xs ys h.1

  pub each_turned : (xs : List working.Activation) → Each P xs → Each P (reverse xs)
  each_turned [] h = tt
  each_turned (x ∷ xs) h = subst (λ l. Each P l) (sym (reverse-append (x ∷ []) xs)) (each_join (reverse xs) (x ∷ []) (each_turned xs h.1) (h.0, tt))

  -- of the operating chain
  pub each_operating : (top : working.Activation) (below : List working.Activation) → P top → ((k : ℕ) (t : working.Activation) → slice_get below k ≡ Some t → P t) → Each P (operating top below)
  each_operating top below h i = (h, each_turned below (each_of below i))

  pub each_below : (top : working.Activation) (below : List working.Activation) → Each P (operating top below) → (k : ℕ) (t : working.Activation) → slice_get below k ≡ Some t → P t
  each_below top below h = of_each below (subst (λ l. Each P l) (reverse-reverse below) (each_turned (reverse below) h.1))

pub each_later : (P Q : working.Activation → Type 0) (ts : List working.Activation) → ((t : working.Activation) → P t → Q t) → Each P ts → Each Q ts
each_later P Q [] later h = tt
each_later P Q (t ∷ ts) later h = (later t h.0, each_later P Q ts later h.1)

-- ---- whether an instance stands on a chain

module _ (j : ℕ) where
  abbrev pub Other : working.Activation → Type 0
  Other t = (is_instance j (frame_of t)) ≡ false

  pub others_stand : (ts : List working.Activation) → Each Other ts → stands_on frame_of j ts ≡ false
  others_stand [] h = refl
  others_stand (t ∷ ts) h = ap (λ b. b || stands_on frame_of j ts) h.0 ∙ others_stand ts h.1

  pub stand_others : (ts : List working.Activation) → stands_on frame_of j ts ≡ false → Each Other ts
  stand_others [] e = tt
  stand_others (t ∷ ts) e =
      let n = neither (is_instance j (frame_of t)) (stands_on frame_of j ts) e in
      (n.0, stand_others ts n.1)

  no_middle : (b : Bool) → (b ≡ false → ⊥) → b ≡ true
  no_middle true h = refl
  no_middle false h = absurd (h refl)

  -- on the operating chain
  pub stands_on_top : (top : working.Activation) (below : List working.Activation) → (is_instance j (frame_of top)) ≡ true → stands_on frame_of j (operating top below) ≡ true
  stands_on_top top below e = ap (λ b. b || stands_on frame_of j (reverse below)) e

  pub stands_below : (top : working.Activation) (below : List working.Activation) (k : ℕ) (t : working.Activation) → slice_get below k ≡ Some t → (is_instance j (frame_of t)) ≡ true → stands_on frame_of j (operating top below) ≡ true
  stands_below top below k t there e =
      no_middle (stands_on frame_of j (operating top below))
      (λ h. off (sym (each_below Other top below (stand_others (operating top below) h) k t there) ∙ e))

  pub stands_nowhere : (top : working.Activation) (below : List working.Activation) → (is_instance j (frame_of top)) ≡ false → ((k : ℕ) (t : working.Activation) → slice_get below k ≡ Some t → (is_instance j (frame_of t)) ≡ false) → stands_on frame_of j (operating top below) ≡ false
  stands_nowhere top below e h = others_stand (operating top below) (each_operating Other top below e h)

  -- from one place on, and from the one before
  pub none_from : (below : List working.Activation) (at at2 : ℕ) (d : working.Activation) → at2 ≡ at - 1 → 0 < at → at ≤ length below → (is_instance j (frame_of (slice_index_or below at2 d))) ≡ false →
      ((k : ℕ) (t : working.Activation) → at ≤ k → slice_get below k ≡ Some t → (is_instance j (frame_of t)) ≡ false) →
      (k : ℕ) (t : working.Activation) → at2 ≤ k → slice_get below k ≡ Some t → (is_instance j (frame_of t)) ≡ false
  none_from below at at2 d is more within here h k t low there =
      elim (same_or_not k at2) [
        | inl e ↦ subst (λ u. (is_instance j (frame_of u)) ≡ false) (index_there below at2 t d (subst (λ k. slice_get below k ≡ Some t) e there)) here
        | inr ne ↦ h k t (omega (arith, is, more, low, ne)) there
      ]

  -- the outermost activation of a part where the instance doesn't stand is another's
  pub outermost_other : (ts : List working.Activation) → stands_on frame_of j ts ≡ false → outermost owner (map activation_of ts) ≡ Some j → ⊥
  outermost_other [] e h = absurd (cc)
  outermost_other (t ∷ []) e h =
      let n = neither (is_instance j (frame_of t)) false e in
      off (sym n.0 ∙ ap (is_instance j) h ∙ eq-eqb j j refl)
  outermost_other (t ∷ u ∷ ts) e h =
      let n = neither (is_instance j (frame_of t)) (stands_on frame_of j (u ∷ ts)) e in
      outermost_other (u ∷ ts) n.1 h

-- the outermost activation of a chain
pub outermost_at : (ts : List working.Activation) (d : working.Activation) → (length ts ≡ 0 → ⊥) → outermost owner (map activation_of ts) ≡ frame_of (slice_index_or ts (length ts - 1) d)
outermost_at [] d h = absurd (h refl)
outermost_at (t ∷ []) d h = refl
outermost_at (t ∷ u ∷ ts) d h =
    let e : length (u ∷ ts) - 1 ≡ length ts = omega arith in
    let e2 : length (t ∷ u ∷ ts) - 1 ≡ suc (length ts) = omega arith in
    outermost_at (u ∷ ts) d (λ z. omega (arith, z)) ∙ ap (λ k. frame_of (slice_index_or (u ∷ ts) k d)) e ∙ ap (λ k. frame_of (slice_index_or (t ∷ u ∷ ts) k d)) (sym e2)

pub outermost_none : (ts : List working.Activation) → length ts ≡ 0 → outermost owner (map activation_of ts) ≡ None
outermost_none [] e = refl
outermost_none (t ∷ ts) e = absurd (omega (arith, e))

pub got : (ts : List working.Activation) (k : ℕ) (d : working.Activation) → k < length ts → slice_get ts k ≡ Some (slice_index_or ts k d)
got [] k d h = absurd (omega (arith, h))
got (t ∷ ts) zero d h = refl
got (t ∷ ts) (suc k) d h = got ts k d (omega (arith, h))

-- ---- one activation after the other

-- the top is put away, and the one below it becomes the top
pub step_down : (whole above : List working.Activation) (top : working.Activation) (below rest : List working.Activation) (next : working.Activation) → whole ≡ above ++ operating top below → below ≡ rest ++ next ∷ [] → whole ≡ (above ++ top ∷ []) ++ operating next rest
step_down whole above top below rest next e e2 =
    e ∙ ap (λ b. above ++ top ∷ reverse b) e2 ∙ ap (λ w. above ++ top ∷ w) (reverse-append rest (next ∷ [])) ∙ sym (append_assoc above (top ∷ []) (operating next rest))

-- what was put away last goes on top
pub step_up : (whole above above2 : List working.Activation) (top : working.Activation) (below : List working.Activation) (next : working.Activation) → whole ≡ above ++ operating top below → above ≡ above2 ++ next ∷ [] → whole ≡ above2 ++ operating next (below ++ top ∷ [])
step_up whole above above2 top below next e e2 =
    e ∙ ap (λ w. w ++ operating top below) e2 ∙ append_assoc above2 (next ∷ []) (operating top below) ∙ ap (λ w. above2 ++ next ∷ w) (sym (reverse-append below (top ∷ [])))

pub none_more : (j : ℕ) (above : List working.Activation) (t : working.Activation) → stands_on frame_of j above ≡ false → (is_instance j (frame_of t)) ≡ false → stands_on frame_of j (above ++ t ∷ []) ≡ false
none_more j [] t h e = ap (λ b. b || false) e
none_more j (x ∷ xs) t h e =
    let n = neither (is_instance j (frame_of x)) (stands_on frame_of j xs) h in
    ap (λ b. b || stands_on frame_of j (xs ++ t ∷ [])) n.0 ∙ none_more j xs t n.1 e

pub only_top : (whole above : List working.Activation) (top : working.Activation) (below : List working.Activation) → whole ≡ above ++ operating top below → below ≡ [] → whole ≡ above ++ top ∷ []
only_top whole above top below e e2 = e ∙ ap (λ b. above ++ top ∷ reverse b) e2

-- an instance that is cut off with what stands above it ends a chain
pub ends_at : (j : ℕ) (chain above : List working.Activation) (top : working.Activation) (below : List working.Activation) (kept : List working.Activation) → CutsAt j chain above top below → kept ≡ above ++ top ∷ [] → EndsAt j kept
ends_at j chain above top below kept cut is = record { above = above; here = top; is = is; own = cut.own; first = cut.first }

-- There are as many frames as instances that are not given back.
use Rattle.std.proofs.Common.{◌≡◌, ℕ, zero, suc, ◌+◌, ◌<◌, ◌⊎◌, inl, inr, List, [], ◌∷◌, length, set, sym, subst, refl, ap, ◌∙◌, arith, get_or-set_same, get_or-set_other}
use Rattle.std.proofs.lemmas.List.Sums.{sum_by-cons, sum_by-set}
use Rattle.std.specs.Prelude.{Bool, true, false, not, cond, count_by, get_or, slice_get, None, Some, if◌then◌else◌}
use Rattle.sim_code.specs.Instances.{Instance, is_live, is_live_in, unless_given}
use Rattle.sim_code.specs.Machine.{Cells, Frames}
use Rattle.frame_arena.specs.declared.slot.Slot.{Slot}
use Rattle.frame_arena.specs.declared.frames.Frame.{Frame}
use Rattle.frame_arena.specs.Frames.{Has, Holds, frame_at}
use Rattle.frame_arena.specs.Free.{OneForOne, live_frames, live_instances}
use Rattle.frame_arena.proofs.Changes.{off, same_or_not}
use Rattle.frame_arena.proofs.Reading.{live_of}

pub true_or_false : (b : Bool) → (b ≡ true) ⊎ (b ≡ false)
true_or_false true = inl refl
true_or_false false = inr refl

one_if : Bool → ℕ
one_if b = cond b 1 0

-- as many frames as elements that pass a test, where the numbers of the frames are the places of those elements
module _ {X : Type 0} (p : X → Bool) (d : X) (none : p d ≡ false) where
  no_pass : (xs : List X) → ((n : ℕ) → p (get_or xs n d) ≡ true → ⊥) → count_by p xs ≡ 0
  no_pass [] h = refl
  no_pass (x ∷ xs) h =
      let first : p x ≡ false = elim (true_or_false (p x)) [ inl on ↦ absurd (h 0 on) | inr e ↦ e ] in
      let e = sum_by-cons (λ y. cond (p y) 1 0) x xs in
      let z : ◌≡◌ {A = ℕ} (cond (p x) 1 0) 0 = ap (λ b. cond b 1 0) first in
      let r = no_pass xs (λ n on. h (suc n) on) in
      omega (arith, e, z, r)

  passes_within : (xs : List X) (n : ℕ) → p (get_or xs n d) ≡ true → n < length xs
  passes_within [] n on = absurd (off (sym none ∙ on))
  passes_within (x ∷ xs) zero on = omega arith
  passes_within (x ∷ xs) (suc n) on = let less = passes_within xs n on in omega (arith, less)

  one_less : (xs : List X) (n : ℕ) → p (get_or xs n d) ≡ true → count_by p xs ≡ 1 + count_by p (set xs n d)
  one_less xs n on =
      let e = sum_by-set (λ y. cond (p y) 1 0) xs n d d (passes_within xs n on) in
      let a : ◌≡◌ {A = ℕ} (cond (p (get_or xs n d)) 1 0) 1 = ap (λ b. cond b 1 0) on in
      let b : ◌≡◌ {A = ℕ} (cond (p d) 1 0) 0 = ap (λ b. cond b 1 0) none in
      omega (arith, e, a, b)

  gone_here : (xs : List X) (n : ℕ) → p (get_or (set xs n d) n d) ≡ true → ⊥
  gone_here [] n on = off (sym none ∙ on)
  gone_here (x ∷ xs) zero on = off (sym none ∙ on)
  gone_here (x ∷ xs) (suc n) on = gone_here xs n on

  gone_not : (xs : List X) (n j : ℕ) → p (get_or (set xs j d) n d) ≡ true → n ≡ j → ⊥
  gone_not xs n j on e = gone_here xs j (subst (λ k. p (get_or (set xs j d) k d) ≡ true) e on)

  passes_other : (xs : List X) (n j : ℕ) → (n ≡ j → ⊥) → p (get_or (set xs j d) n d) ≡ p (get_or xs n d)
  passes_other xs n j ne = ap p (get_or-set_other xs j n d d ne)

  behind : (f : Frame) (fs : List Frame) (q n : ℕ) → Has fs q n → Has (f ∷ fs) (suc q) n
  behind f fs q n h = (omega (arith, h.0), h.1, h.2)

  before : (f : Frame) (fs : List Frame) (n : ℕ) → f.live ≡ false → (q : ℕ) → Has (f ∷ fs) q n → (r : ℕ) × Has fs r n
  before f fs n free zero h = absurd (off (sym free ∙ h.1))
  before f fs n free (suc q) h = (q, (omega (arith, h.0), h.1, h.2))

  before_other : (f : Frame) (fs : List Frame) (n : ℕ) → (n ≡ f.number → ⊥) → (q : ℕ) → Has (f ∷ fs) q n → (r : ℕ) × Has fs r n
  before_other f fs n ne zero h = absurd (ne (sym h.2))
  before_other f fs n ne (suc q) h = (q, (omega (arith, h.0), h.1, h.2))

  as_many : (fs : List Frame) (xs : List X) → ((q n : ℕ) → Has fs q n → p (get_or xs n d) ≡ true) → ((n : ℕ) → p (get_or xs n d) ≡ true → (q : ℕ) × Has fs q n)
      → ((q r n : ℕ) → Has fs q n → Has fs r n → q ≡ r) → count_by (λ (f : Frame). f.live) fs ≡ count_by p xs
  as_many [] xs known found single = sym (no_pass xs (λ n on. let at = found n on in absurd (omega (arith, at.1.0))))
  as_many (f ∷ fs) xs known found single =
      let e = sum_by-cons (λ (g : Frame). cond g.live 1 0) f fs in
      elim (true_or_false f.live) [
        | inl on ↦
            let here : Has (f ∷ fs) 0 f.number = (omega arith, on, refl) in
            let other : (q n : ℕ) → Has fs q n → n ≡ f.number → ⊥ = λ q n h e2. absurd (let s = single 0 (suc q) n (here.0, here.1, sym e2) (behind f fs q n h) in omega (arith, s)) in
            let rest =
            as_many fs (set xs f.number d) (λ q n h. passes_other xs n f.number (other q n h) ∙ known (suc q) n (behind f fs q n h))
            (λ n alive.
            let ne = gone_not xs n f.number alive in
            let at = found n (sym (passes_other xs n f.number ne) ∙ alive) in
            before_other f fs n ne at.0 at.1)
            (λ q r n a b. let s = single (suc q) (suc r) n (behind f fs q n a) (behind f fs r n b) in omega (arith, s)) in
            let one : ◌≡◌ {A = ℕ} (cond f.live 1 0) 1 = ap (λ b. cond b 1 0) on in
            let more = one_less xs f.number (known 0 f.number here) in
            omega (arith, e, rest, one, more)
        | inr free ↦
            let rest =
            as_many fs xs (λ q n h. known (suc q) n (behind f fs q n h)) (λ n alive. let at = found n alive in before f fs n free at.0 at.1)
            (λ q r n a b. let s = single (suc q) (suc r) n (behind f fs q n a) (behind f fs r n b) in omega (arith, s)) in
            let none_here : ◌≡◌ {A = ℕ} (cond f.live 1 0) 0 = ap (λ b. cond b 1 0) free in
            omega (arith, e, rest, none_here)
      ]

-- ---- the frames in regions

gone : Instance Cells
gone = record { text = 0; level = 0; encloser = None; cells = []; passing = false; kept = false; given_back = true }

live_if : (x : Instance Cells) (b : Bool) → not b ≡ is_live_in (if b then None else Some x)
live_if x true = refl
live_if x false = refl

live_flag : (xs : List (Instance Cells)) (n : ℕ) → not (get_or xs n gone).given_back ≡ is_live_in (unless_given (slice_get xs n))
unfolding gone
live_flag [] n = refl
live_flag (x ∷ xs) zero = live_if x x.given_back
live_flag (x ∷ xs) (suc n) = live_flag xs n

pub live_counts : (fs : List Frame) (cells : List Slot) (m : Frames) → Holds fs cells m → live_frames fs ≡ live_instances m
unfolding gone
live_counts fs cells m h =
    as_many (λ (x : Instance Cells). not x.given_back) gone refl fs m.instances (λ q n has. live_flag m.instances n ∙ ap is_live_in (live_of fs cells m q n h has))
    (λ n on. h.found n (sym (live_flag m.instances n) ∙ on)) h.single

pub one_for_one : (fs : List Frame) (cells : List Slot) (m : Frames) → Holds fs cells m → OneForOne fs m
one_for_one fs cells m h = record {
  instance = λ q n has. ap is_live_in (live_of fs cells m q n h has);
  frame = h.found;
  single = h.single;
  count = live_counts fs cells m h;
}

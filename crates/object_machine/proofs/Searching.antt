-- The place of a number in a list of rising numbers.
use Rattle.std.proofs.Common.{◌≡◌, inl, inr, ◌⊎◌, ℕ, zero, suc, ◌+◌, ◌<◌, ◌≤◌, List, [], ◌∷◌, length, cond, sym, subst, refl, ap, ◌∙◌, arith}
use Rattle.std.proofs.lemmas.Bool.{cond-true, cond-false, not_from_true, not_from_false}
use Rattle.std.proofs.lemmas.Option.{same_Some, slice_get_within}
use Rattle.std.specs.Prelude.{true, false, not, ◌==◌, nat_lt, Some, None, slice_get, slice_index_or}
use Rattle.std.specs.List.{position_or_len}
use Rattle.simset.specs.Instances.{linkage_of}
use Rattle.sim_values.specs.declared.value.FrameRef.{FrameRef}
use Rattle.object_machine.specs.Enrolling.{Rises, stamps}

-- ---- where the number stands first

here : (k n : ℕ) (ns : List ℕ) → k ≡ n → position_or_len (λ j. j == n) (k ∷ ns) ≡ 0
here k n ns h =
    let e : (k == n) ≡ true = grind (arith, h) in
    cond-false (not (k == n)) (1 + position_or_len (λ j. j == n) ns) 0 (not_from_true _ e)

further : (k n : ℕ) (ns : List ℕ) → (k ≡ n → ⊥) → position_or_len (λ j. j == n) (k ∷ ns) ≡ suc (position_or_len (λ j. j == n) ns)
further k n ns h =
    let e : (k == n) ≡ false = grind (arith, h) in
    cond-true (not (k == n)) (1 + position_or_len (λ j. j == n) ns) 0 (not_from_false _ e) ∙ omega arith

rises_behind : (k : ℕ) (ns : List ℕ) → Rises (k ∷ ns) → Rises ns
rises_behind k ns r x y a b h i j = r (suc x) (suc y) a b (omega (arith, h)) i j

found : (ns : List ℕ) (n x : ℕ) → Rises ns → slice_get ns x ≡ Some n → position_or_len (λ j. j == n) ns ≡ x
found [] n x r there = absurd (cc)
found (k ∷ ns) n zero r there = here k n ns (same_Some _ _ there)
found (k ∷ ns) n (suc x) r there =
    let less : k < n = r 0 (suc x) k n (omega arith) refl there in
    further k n ns (λ e. let no_way : ⊥ = omega (arith, less, e) in no_way) ∙ ap suc (found ns n x (rises_behind k ns r) there)

missing : (ns : List ℕ) (n : ℕ) → ((x : ℕ) → slice_get ns x ≡ Some n → ⊥) → position_or_len (λ j. j == n) ns ≡ length ns
missing [] n h = refl
missing (k ∷ ns) n h = further k n ns (λ e. h 0 (ap Some e)) ∙ ap suc (missing ns n (λ x there. h (suc x) there))

pub is_there : (ns : List ℕ) (n x : ℕ) → Rises ns → slice_get ns x ≡ Some n → linkage_of ns n ≡ Some x
is_there ns n x r there =
    let within : x < length ns = slice_get_within ns x n there in
    let e : nat_lt x (length ns) ≡ true = grind (arith, within) in
    ap (λ p. cond (nat_lt p (length ns)) (Some p) None) (found ns n x r there) ∙ cond-true (nat_lt x (length ns)) (Some x) None e

pub is_nowhere : (ns : List ℕ) (n : ℕ) → ((x : ℕ) → slice_get ns x ≡ Some n → ⊥) → linkage_of ns n ≡ None
is_nowhere ns n h =
    let e : nat_lt (length ns) (length ns) ≡ false = grind arith in
    ap (λ p. cond (nat_lt p (length ns)) (Some p) None) (missing ns n h) ∙ cond-false (nat_lt (length ns) (length ns)) (Some (length ns)) None e

-- ---- the search halves a range

-- the number stands nowhere but in a range
abbrev pub LiesIn : List ℕ → (n low high : ℕ) → Type 0
LiesIn ns n low high = (x : ℕ) → slice_get ns x ≡ Some n → (low ≤ x) × (x < high)

order : (x y : ℕ) → (x < y) ⊎ ((x ≡ y) ⊎ (y < x))
order zero zero = inr (inl refl)
order zero (suc y) = inl (omega arith)
order (suc x) zero = inr (inr (omega arith))
order (suc x) (suc y) =
    elim (order x y) [
      | inl h ↦ inl (omega (arith, h))
      | inr h ↦ elim h [ inl e ↦ inr (inl (ap suc e)) | inr g ↦ inr (inr (omega (arith, g))) ]
    ]

module _ (ns : List ℕ) (r : Rises ns) (n there middle : ℕ) (is : slice_get ns middle ≡ Some there) where
  same_number : (x : ℕ) → x ≡ middle → slice_get ns x ≡ Some n → n ≡ there
  same_number x e at = same_Some _ _ (sym at ∙ ap (λ z. slice_get ns z) e ∙ is)

  pub higher : there < n → (x : ℕ) → slice_get ns x ≡ Some n → middle < x
  higher h x at =
      elim (order middle x) [
        | inl g ↦ g
        | inr g ↦
            elim g [
              | inl e ↦ let same = same_number x (sym e) at in absurd (let no_way : ⊥ = omega (arith, h, same) in no_way)
              | inr g ↦ let less : n < there = r x middle n there g at is in absurd (let no_way : ⊥ = omega (arith, h, less) in no_way)
            ]
      ]

  pub lower : n < there → (x : ℕ) → slice_get ns x ≡ Some n → x < middle
  lower h x at =
      elim (order x middle) [
        | inl g ↦ g
        | inr g ↦
            elim g [
              | inl e ↦ let same = same_number x e at in absurd (let no_way : ⊥ = omega (arith, h, same) in no_way)
              | inr g ↦ let less : there < n = r middle x there n g is at in absurd (let no_way : ⊥ = omega (arith, h, less) in no_way)
            ]
      ]

  pub lies_behind : (low high : ℕ) → there < n → LiesIn ns n low high → LiesIn ns n (middle + 1) high
  lies_behind low high h lies x at = let g = higher h x at in (omega (arith, g), (lies x at).1)

  pub lies_before : (low high : ℕ) → n < there → LiesIn ns n low high → LiesIn ns n low middle
  lies_before low high h lies x at = ((lies x at).0, lower h x at)

pub lies_nowhere : (ns : List ℕ) (n low high : ℕ) → high ≤ low → LiesIn ns n low high → linkage_of ns n ≡ None
lies_nowhere ns n low high h lies = is_nowhere ns n (λ x at. let at_least = (lies x at).0 in let below = (lies x at).1 in let no_way : ⊥ = omega (arith, h, at_least, below) in no_way)

-- ---- the numbers of objects

pub stamp_at : (objects : List FrameRef) (x : ℕ) (f : FrameRef) → slice_get objects x ≡ Some f → slice_get (stamps objects) x ≡ Some f.stamp
stamp_at [] x f e = absurd (cc)
stamp_at (g ∷ gs) zero f e = ap (λ f. Some f.stamp) (same_Some _ _ e)
stamp_at (g ∷ gs) (suc x) f e = stamp_at gs x f e

pub stamps_count : (objects : List FrameRef) → length (stamps objects) ≡ length objects
stamps_count [] = refl
stamps_count (f ∷ fs) = ap suc (stamps_count fs)

pub lies_first : (objects : List FrameRef) (n : ℕ) → LiesIn (stamps objects) n 0 (length objects)
lies_first objects n x at = (omega arith, subst (λ k. x < k) (stamps_count objects) (slice_get_within (stamps objects) x n at))

pub stamp_index : (objects : List FrameRef) (x n : ℕ) (d : FrameRef) → x < length objects → (slice_index_or objects x d).stamp ≡ n → slice_get (stamps objects) x ≡ Some n
stamp_index [] x n d h e = absurd (let no_way : ⊥ = omega (arith, h) in no_way)
stamp_index (f ∷ fs) zero n d h e = ap Some e
stamp_index (f ∷ fs) (suc x) n d h e = stamp_index fs x n d (omega (arith, h)) e

-- the half of the range before an object with a higher number
pub lies_lower : (objects : List FrameRef) (n low high middle : ℕ) (d : FrameRef) → Rises (stamps objects) → ((slice_index_or objects middle d).stamp ≡ n → ⊥) → n ≤ (slice_index_or objects middle d).stamp → middle < length objects →
    LiesIn (stamps objects) n low high → LiesIn (stamps objects) n low middle
lies_lower objects n low high middle d rises other at_most within lies =
    let there = (slice_index_or objects middle d).stamp in
    let less : n < there = grind (arith, other, at_most) in
    lies_before (stamps objects) rises n there middle (stamp_index objects middle there d within refl) low high less lies

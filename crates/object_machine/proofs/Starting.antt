-- The machine before its first step.
use Rattle.std.proofs.Common.{◌≡◌, ℕ, suc, ◌+◌, ◌<◌, List, [], ◌∷◌, ◌++◌, length, get_or, take, sym, subst, refl, ap, ◌∙◌, arith}
use Rattle.std.proofs.lemmas.List.{append_assoc}
use Rattle.std.proofs.Math.Seq.{take-suc}
use Rattle.std.specs.Prelude.{true}
use Rattle.sim_values.specs.Store.{constant_frames}
use Rattle.sim_values.specs.Texts.{Frame}
use Rattle.frame_arena.specs.declared.frames.Frame.{Frame as Frame2}
use Rattle.sim_code.specs.Machine.{Frames}
use Rattle.sim_code.specs.Outcome.{ArrayOf}
use Rattle.object_machine.proofs.Scalars.{off}
use Rattle.frame_arena.specs.declared.slot.Slot.{Slot}
use Rattle.frame_arena.specs.Arrays.{AllLeadArrays, ArraysOf, ElementsLead, RegionOf, no_arrays}
use Rattle.frame_arena.specs.Frames.{Has, Holds, empty_memory}

constants_behind : (xs : List (List ℕ)) (x : List ℕ) → constant_frames (xs ++ x ∷ []) ≡ constant_frames xs ++ (record { bytes = x; constant = true }) ∷ []
constants_behind [] x = refl
constants_behind (y ∷ xs) x = ap (λ l. record { bytes = y; constant = true } ∷ l) (constants_behind xs x)

pub constant_more : (old new : List Frame) (xs : List (List ℕ)) (at : ℕ) (d : List ℕ) → at < length xs → new ≡ old ++ constant_frames (take at xs) →
    new ++ (record { bytes = get_or xs at d; constant = true }) ∷ [] ≡ old ++ constant_frames (take (at + 1) xs)
constant_more old new xs at d h e =
    let n : at + 1 ≡ suc at = omega arith in
    ap (λ l. l ++ (record { bytes = get_or xs at d; constant = true }) ∷ []) e
    ∙ append_assoc old (constant_frames (take at xs)) ((record { bytes = get_or xs at d; constant = true }) ∷ [])
    ∙ ap (λ l. old ++ l) (sym (constants_behind (take at xs) (get_or xs at d)))
    ∙ ap (λ l. old ++ constant_frames l) (sym (ap (λ k. take k xs) n ∙ take-suc xs at d h))

pub constants_count : (xs : List (List ℕ)) → length (constant_frames xs) ≡ length xs
constants_count [] = refl
constants_count (x ∷ xs) = ap suc (constants_count xs)

pub images_behind : (xs : List Frame) (a b : Frame) → (xs ++ a ∷ []) ++ b ∷ [] ≡ xs ++ (a ∷ b ∷ [])
images_behind xs a b = append_assoc xs (a ∷ []) (b ∷ [])

pub count_behind : (xs : List Frame) (a : Frame) → length (xs ++ a ∷ []) ≡ length xs + 1
count_behind [] a = refl
count_behind (x ∷ xs) a = let e = count_behind xs a in omega (arith, e)

-- ---- nothing was entered

none_has : (q n : ℕ) → Has [] q n → ⊥
none_has q n h = omega (arith, h.0)

pub holds_nothing : Holds [] [] empty_memory
holds_nothing = record {
  known = λ q n h. absurd (none_has q n h);
  found = λ n on. absurd (off on);
  standings = λ q n h. absurd (none_has q n h);
  counted = refl;
  single = λ p q n h h2. absurd (none_has p n h);
  parents = λ q n h r up. absurd (none_has q n h);
  links = λ at names. absurd (off names);
  within = λ q h. absurd (omega (arith, h));
  apart = λ p q h h2 d. absurd (omega (arith, h));
}

pub holds_empty : (fs : List Frame2) (cs : List Slot) → fs ≡ [] → cs ≡ [] → Holds fs cs empty_memory
holds_empty fs cs e e2 = subst (λ f. Holds f cs empty_memory) (sym e) (subst (λ c. Holds [] c empty_memory) (sym e2) holds_nothing)

pub leads_empty : (regions : List RegionOf) (arrays : List ArrayOf) (cs : List Slot) → cs ≡ [] → AllLeadArrays regions arrays cs
leads_empty regions arrays cs e = subst (λ c. AllLeadArrays regions arrays c) (sym e) (λ at names. absurd (off names))

pub elements_empty : (fs : List Frame2) (m : Frames) (a : ArraysOf) → a ≡ no_arrays → ElementsLead fs m a.regions
elements_empty fs m a e = subst (λ x. ElementsLead fs m x.regions) (sym e) (λ place at names. absurd (off names))

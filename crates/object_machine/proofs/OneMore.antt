-- One more in a list of numbers that rise, and of references that lead.
use Rattle.std.proofs.Common.{◌≡◌, inl, inr, ◌⊎◌, ℕ, zero, suc, ◌<◌, List, [], ◌∷◌, ◌++◌, length, subst, refl, ap, arith}
use Rattle.std.proofs.lemmas.Option.{same_Some, slice_get_within}
use Rattle.std.specs.Prelude.{Some, slice_get}
use Rattle.sim_values.specs.declared.value.FrameRef.{FrameRef}
use Rattle.sim_code.specs.Machine.{Frames}
use Rattle.frame_arena.specs.declared.frames.Frame.{Frame}
use Rattle.frame_arena.specs.Frames.{Leads}
use Rattle.object_machine.specs.Enrolling.{AllBelow, AllReach, Rises, stamps}

-- what is found in a list with one more is in the list, or is that one
module _ {X : Type 0} where
  pub found_among : (xs : List X) (y z : X) (i : ℕ) → slice_get (xs ++ y ∷ []) i ≡ Some z → (slice_get xs i ≡ Some z) ⊎ ((i ≡ length xs) × (y ≡ z))
  found_among [] y z zero e = inr (refl, same_Some _ _ e)
  found_among [] y z (suc i) e = absurd (cc)
  found_among (x ∷ xs) y z zero e = inl e
  found_among (x ∷ xs) y z (suc i) e = elim (found_among xs y z i e) [ inl h ↦ inl h | inr h ↦ inr (ap suc h.0, h.1) ]

pub one_more_stamp : (fs : List FrameRef) (f : FrameRef) → stamps (fs ++ f ∷ []) ≡ stamps fs ++ f.stamp ∷ []
one_more_stamp [] f = refl
one_more_stamp (g ∷ gs) f = ap (λ ns. g.stamp ∷ ns) (one_more_stamp gs f)

pub one_more_rises : (ns : List ℕ) (n : ℕ) → Rises ns → AllBelow n ns → Rises (ns ++ n ∷ [])
one_more_rises ns n r all x y a b less i j =
    elim (found_among ns n b y j) [
      | inl hj ↦
          elim (found_among ns n a x i) [
            | inl hi ↦ r x y a b less hi hj
            | inr hi ↦ let within = slice_get_within ns y b hj in let at = hi.0 in absurd (let no_way : ⊥ = omega (arith, less, within, at) in no_way)
          ]
      | inr hj ↦
          elim (found_among ns n a x i) [
            | inl hi ↦ subst (λ z. a < z) hj.1 (all x a hi)
            | inr hi ↦ let at = hi.0 in let there = hj.0 in absurd (let no_way : ⊥ = omega (arith, less, at, there) in no_way)
          ]
    ]

pub one_more_reach : (frames : List Frame) (m : Frames) (fs : List FrameRef) (f : FrameRef) → AllReach frames m fs → Leads frames m f → AllReach frames m (fs ++ f ∷ [])
one_more_reach frames m fs f all here x g there =
    elim (found_among fs f g x there) [ inl h ↦ all x g h | inr h ↦ subst (λ z. Leads frames m z) h.1 here ]

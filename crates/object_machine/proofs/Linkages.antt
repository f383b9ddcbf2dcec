-- The objects that are linkages stay so, where frames and memory change.
use Rattle.std.proofs.Common.{◌≡◌, ℕ, zero, suc, ◌<◌, List, [], ◌∷◌, length, sym, subst, refl, ap}
use Rattle.std.specs.Prelude.{Option, Some, None, slice_get}
use Rattle.simset.specs.Instances.{Memberships}
use Rattle.sim_values.specs.declared.value.FrameRef.{FrameRef}
use Rattle.sim_code.specs.Machine.{Frames}
use Rattle.frame_arena.specs.declared.frames.Frame.{Frame}
use Rattle.frame_arena.specs.Frames.{Leads}
use Rattle.object_machine.specs.declared.machine.Members.{Members}
use Rattle.object_machine.specs.Enrolling.{AllBelow, Enrolled, stamps}

module _ (fs fs2 : List Frame) (m m2 : Frames) (k : Members) (o : Memberships) where
  -- where all references that led lead
  pub enrolled_later : ((f : FrameRef) → Leads fs m f → Leads fs2 m2 f) → Enrolled fs m k o → Enrolled fs2 m2 k o
  enrolled_later leads e = record { is = e.is; rises = e.rises; lead = λ x f there. leads f (e.lead x f there) }

  -- the same with other parts that have the same linkages
  pub enrolled_in : (k2 : Members) → k2 ≡ k → ((f : FrameRef) → Leads fs m f → Leads fs2 m2 f) → Enrolled fs m k o → Enrolled fs2 m2 k2 o
  enrolled_in k2 same leads e = subst (λ x. Enrolled fs2 m2 x o) (sym same) (enrolled_later leads e)

-- ---- their numbers

pub stamp_there : (objects : List FrameRef) (x n : ℕ) → slice_get (stamps objects) x ≡ Some n → (f : FrameRef) × (slice_get objects x ≡ Some f) × (f.stamp ≡ n)
stamp_there [] x n there = absurd (none_there there)
  where
    some_type : Option ℕ → Type 0
    some_type None = Unit {0}
    some_type (Some x) = ⊥

    none_there : ◌≡◌ {A = Option ℕ} None (Some n) → ⊥
    none_there e = subst some_type e tt
stamp_there (f ∷ fs) zero n there = (f, refl, some_same there)
  where
    or_zero : Option ℕ → ℕ
    or_zero None = 0
    or_zero (Some x) = x

    some_same : ◌≡◌ {A = Option ℕ} (Some f.stamp) (Some n) → f.stamp ≡ n
    some_same e = ap or_zero e
stamp_there (f ∷ fs) (suc x) n there = stamp_there fs x n there

-- each of them was made
pub all_made : (fs : List Frame) (m : Frames) (k : Members) (o : Memberships) → Enrolled fs m k o → AllBelow (length m.instances) o.instances
all_made fs m k o e x n there =
    let s = stamp_there k.objects.items x n (subst (λ ns. slice_get ns x ≡ Some n) e.is.instances there) in
    subst (λ a. a < length m.instances) s.2 (e.lead x s.0 s.1).0

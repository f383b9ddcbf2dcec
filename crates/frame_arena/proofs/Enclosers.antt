-- The system head, found outward along the enclosers.
use Rattle.std.proofs.Common.{◌≡◌, ℕ, zero, suc, ◌+◌, ◌-◌, ◌<◌, List, [], ◌∷◌, sym, subst, refl, ap, ◌∙◌, arith}
use Rattle.std.specs.Prelude.{Bool, true, false, if◌then◌else◌, Option, Some, None, slice_get, slice_index_or}
use Rattle.sim_chains.specs.Components.{AttachedObject, DetachedObject, NoObject, ResumedObject, Standing, TerminatedObject}
use Rattle.sim_chains.specs.Heads.{head_of, head_within}
use Rattle.sim_chains.specs.WellFormed.{is_object}
use Rattle.sim_code.specs.Instances.{encloser_in, encloser_of, is_object_at, or_first, system_head}
use Rattle.sim_code.specs.Machine.{Activation, Frames}
use Rattle.frame_arena.specs.declared.slot.Slot.{Slot}
use Rattle.frame_arena.specs.declared.frames.Component.{Component}
use Rattle.frame_arena.specs.declared.frames.Component.TheVariants as component
use Rattle.frame_arena.specs.declared.frames.Frame.{Frame}
use Rattle.frame_arena.specs.Frames.{Has, Holds, StandsAs, frame_at, is_object_as, number_in}

-- what stands at a place of a list, also where another value stands for what is past its end
pub index_there : {X : Type 0} (xs : List X) (i : ℕ) (x d : X) → slice_get xs i ≡ Some x → slice_index_or xs i d ≡ x
index_there [] i x d e = absurd (cc)
index_there {X} (y ∷ ys) zero x d e = ap or_else e
  where
    or_else : Option X → X
    or_else None = d
    or_else (Some z) = z
index_there (y ∷ ys) (suc i) x d e = index_there ys i x d e

stands_as_object : (c : Component) (standings : List (Standing Activation)) (n : ℕ) → StandsAs c (slice_get standings n) → is_object (slice_index_or standings n (NoObject None)) ≡ is_object_as c
stands_as_object component.NoObject standings n h = ap (λ s. is_object s) (index_there standings n (NoObject None) (NoObject None) h)
stands_as_object component.Waiting standings n h = ap (λ s. is_object s) (index_there standings n (NoObject (Some h.0)) (NoObject None) h.1)
stands_as_object component.Attached standings n h = ap (λ s. is_object s) (index_there standings n AttachedObject (NoObject None) h)
stands_as_object component.Detached standings n h = ap (λ s. is_object s) (index_there standings n (DetachedObject h.0) (NoObject None) h.1)
stands_as_object component.Resumed standings n h = ap (λ s. is_object s) (index_there standings n ResumedObject (NoObject None) h)
stands_as_object component.Terminated standings n h = ap (λ s. is_object s) (index_there standings n TerminatedObject (NoObject None) h)

module _ (fs : List Frame) (cells : List Slot) (m : Frames) (h : Holds fs cells m) where
  abbrev Within : ℕ → Option ℕ → Option ℕ
  Within n e = head_within (encloser_of m) (is_object_at m) n e

  pub encloser_is : (place number : ℕ) → Has fs place number → encloser_of m number ≡ number_in (frame_at fs place).parent
  encloser_is place number has = ap (λ x. encloser_in x) (h.known place number has)

  step : (n counter e : ℕ) → counter < n → Within (n - counter) (Some e) ≡ (if is_object_at m e then Within (n - (counter + 1)) (encloser_of m e) else Some e)
  step n counter e less =
      let fuel : n - counter ≡ suc (n - (counter + 1)) = omega (arith, less) in
      ap (λ k. Within k (Some e)) fuel

  object_is : (place e : ℕ) (b : Bool) → Has fs place e → is_object_as (frame_at fs place).component ≡ b → is_object_at m e ≡ b
  object_is place e b has is = stands_as_object (frame_at fs place).component m.standings e (h.standings place e has) ∙ is

  head_here : (n counter place e : ℕ) → counter < n → Has fs place e → is_object_as (frame_at fs place).component ≡ false → Within (n - counter) (Some e) ≡ Some e
  head_here n counter place e less has is =
      step n counter e less ∙ ap (λ b. if b then Within (n - (counter + 1)) (encloser_of m e) else Some e) (object_is place e false has is)

  pub head_up : (n counter place e : ℕ) → counter < n → Has fs place e → is_object_as (frame_at fs place).component ≡ true → Within (n - counter) (Some e) ≡ Within (n - (counter + 1)) (number_in (frame_at fs place).parent)
  head_up n counter place e less has is =
      step n counter e less ∙ ap (λ b. if b then Within (n - (counter + 1)) (encloser_of m e) else Some e) (object_is place e true has is)
      ∙ ap (λ p. Within (n - (counter + 1)) p) (encloser_is place e has)

  pub head_first : (place : ℕ) → Has fs place (frame_at fs place).number →
      head_of (encloser_of m) (is_object_at m) (frame_at fs place).number ≡ Within ((frame_at fs place).number - 0) (number_in (frame_at fs place).parent)
  head_first place has =
      let n : ℕ = (frame_at fs place).number in
      let whole : n ≡ n - 0 = omega arith in
      ap (λ p. Within n p) (encloser_is place n has) ∙ ap (λ k. Within k (number_in (frame_at fs place).parent)) whole

  pub head_is : (x n counter place e : ℕ) → head_of (encloser_of m) (is_object_at m) x ≡ Within (n - counter) (Some e) → counter < n → Has fs place e → is_object_as (frame_at fs place).component ≡ false → e ≡ system_head m x
  unfolding system_head
  head_is x n counter place e is less has apart = sym (ap (λ y. or_first y) (is ∙ head_here n counter place e less has apart))

-- What processes and simulation blocks tell.
use Rattle.std.proofs.Common.{◌≡◌, ℕ, zero, suc, ◌-◌, List, sym, subst, refl, ap, ◌∙◌, arith}
use Rattle.std.specs.Option.{option_map}
use Rattle.std.specs.Prelude.{true, slice_get, Option, Some, None, Result, Ok, Err}
use Rattle.sim_base.specs.declared.run_error.RunError.{RunError}
use Rattle.sim_values.specs.declared.value.FrameRef.{FrameRef}
use Rattle.sim_values.specs.Plain.{Plain, Object}
use Rattle.sim_code.specs.Events.{computing, having, no_rule, stopping}
use Rattle.sim_code.specs.Machine.{Frames, Machine, Of}
use Rattle.sim_code.specs.Outcome.{Run, RunFault, Simulation, World}
use Rattle.sim_code.specs.Simulations.{object_numbered, process_numbered}
use Rattle.standard_calls.specs.declared.came.Missing.{Missing}
use Rattle.standard_calls.specs.declared.came.Missing.TheVariants as missing
use Rattle.frame_arena.specs.declared.frames.Frame.{Frame}
use Rattle.frame_arena.specs.declared.slot.Slot.{Slot}
use Rattle.frame_arena.specs.Slots.{value_of}
use Rattle.object_machine.specs.declared.classes.Reference.{Reference}
use Rattle.object_machine.specs.declared.classes.Reference.TheVariants as reference
use Rattle.object_machine.specs.declared.processes.Told.{Told}
use Rattle.object_machine.specs.declared.processes.Told.TheVariants as told
use Rattle.object_machine.specs.declared.simulated.Simulated.{Simulated}
use Rattle.object_machine.specs.Classing.{Refers}
use Rattle.object_machine.specs.Simulating.{simulation_of}
use Rattle.object_machine.specs.Telling.{FindsBlock, NamesProcess, Tells, told_missing}
use Rattle.object_machine.proofs.Decisions.{object_there}
use Rattle.object_machine.proofs.Scalars.{is_scalar, scalar_leads, scalar_value}

-- what refers to an object is that object
pub refers_object : (r : Reference) (f : FrameRef) (p : Plain) → r ≡ reference.Object f → Refers r (Some p) → p ≡ Object f.stamp
refers_object r f p e h = same (subst (λ r. Refers r (Some p)) e h)
  where
    or_self : Option Plain → Plain
    or_self None = p
    or_self (Some q) = q

    same : ◌≡◌ {A = Option Plain} (Some p) (Some (Object f.stamp)) → p ≡ Object f.stamp
    same e = ap or_self e

-- the object of a number
pub numbered_object : (x : Simulation) (n : ℕ) → (n ≡ 0 → ⊥) → process_numbered x n ≡ object_numbered (slice_get x.processes (n - 1))
numbered_object x zero other = absurd (other refl)
numbered_object x (suc n) other = let e : n ≡ suc n - 1 = omega arith in ap (λ k. object_numbered (slice_get x.processes k)) e

pub object_of_number : (y : Simulated) (n : ℕ) (f : FrameRef) → (n ≡ 0 → ⊥) → slice_get y.processes.items (n - 1) ≡ Some f → process_numbered (simulation_of y) n ≡ Some (Object f.stamp)
object_of_number y n f other there = numbered_object (simulation_of y) n other ∙ ap object_numbered (object_there y.processes.items (n - 1) f there)

-- the frame of an object is that of its process
pub names_object : (n : ℕ) (f : FrameRef) (q : Option Plain) → (n ≡ 0 → ⊥) → q ≡ Some (Object f.stamp) → NamesProcess (Some f) n q
names_object zero f q other e = absurd (other refl)
names_object (suc n) f q other e = e

-- a value that names no frame is told
pub tells_scalar : (s : Slot) (p : Plain) (frames : List Frame) (m : Frames) (q : Option (Result Plain RunError)) → value_of s ≡ Of p → is_scalar p ≡ true → q ≡ Some (Ok p) → Tells (told.Value s) frames m q
tells_scalar s p frames m q e h is = (p, is, e, scalar_leads frames m s p e h, (scalar_value s.kind s p e h).1)

-- ---- how a row goes on with it

module _ (line : ℕ) (o : World) (go : Plain → Run Machine) (q : Option (Result Plain RunError)) where
  abbrev pub Telling : Run Machine
  Telling = having q o (λ r. computing line r o go)

  pub told_value : (p : Plain) → q ≡ Some (Ok p) → Telling ≡ go p
  unfolding having computing
  told_value p e = ap (λ q. having q o (λ r. computing line r o go)) e

  pub told_fault : (e : RunError) → q ≡ Some (Err e) → Telling ≡ stopping (RunFault e line) o
  unfolding having computing
  told_fault f e = ap (λ q. having q o (λ r. computing line r o go)) e

  pub told_none : q ≡ None → Telling ≡ no_rule o
  unfolding having
  told_none e = ap (λ q. having q o (λ r. computing line r o go)) e

-- what is told where the block is missing
pub tells_missing : (missing : Missing) (t : Told) (b : Option ℕ) (q : Option (Result Plain RunError)) (frames : List Frame) (m : Frames) → t ≡ told_missing missing → (b ≡ None → q ≡ None) → FindsBlock (Err missing) b → Tells t frames m q
tells_missing missing.NoRule t b q frames m e h f = subst (λ t. Tells t frames m q) (sym e) (h f)
tells_missing missing.Memory t b q frames m e h f = subst (λ t. Tells t frames m q) (sym e) tt

-- what is told is no error
pub told_ok : (line : ℕ) (o : World) (go : Plain → Run Machine) (q : Option Plain) → having q o go ≡ Telling line o go (option_map Ok q)
unfolding having computing
told_ok line o go None = refl
told_ok line o go (Some p) = refl

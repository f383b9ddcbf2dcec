-- Who goes on after a scheduling procedure.
use Rattle.std.proofs.Common.{◌≡◌, ℕ, zero, suc, ◌-◌, List, ◌∷◌, sym, subst, refl, ap, ◌∙◌, arith}
use Rattle.std.proofs.lemmas.Option.{slice_get-map}
use Rattle.std.specs.Option.{option_map}
use Rattle.std.specs.Prelude.{None, Option, Some, Result, Ok, Err, slice_get}
use Rattle.sim_base.specs.declared.limits.Limits.{Limits}
use Rattle.sim_base.specs.declared.run_error.RunError.{RunError}
use Rattle.notices.specs.declared.next.Next.{Next}
use Rattle.notices.specs.declared.next.Next.TheVariants as next
use Rattle.notices.specs.declared.notice.ProcessNo.{ProcessNo}
use Rattle.sim_values.specs.declared.value.FrameRef.{FrameRef}
use Rattle.sim_values.specs.Plain.{Object}
use Rattle.sim_code.specs.Events.{computing, having, no_rule, stopping}
use Rattle.sim_code.specs.Instances.{going_below}
use Rattle.sim_code.specs.Machine.{Activation, Frames, Machine, owner, waiting}
use Rattle.sim_code.specs.Outcome.{Run, RunFault, Simulation, World}
use Rattle.sim_code.specs.Scheduling.{component_of, going_to, some_object}
use Rattle.sim_code.specs.Transfers.{Resuming, transferring}
use Rattle.frame_arena.specs.declared.slot.Slot.{Slot}
use Rattle.frame_arena.specs.Stacks.{values_of}
use Rattle.object_machine.specs.declared.machine.Storage.{Storage}
use Rattle.object_machine.specs.declared.machine.Registers.{Registers}
use Rattle.object_machine.specs.declared.machine.Activation as working
use Rattle.object_machine.specs.declared.machine.Flow.TheVariants as flow
use Rattle.object_machine.specs.Deciding.{IsDecided, settling}
use Rattle.object_machine.specs.Enrolling.{stamps}
use Rattle.object_machine.specs.Standing.{InWorld, Leaves, Outside, Stands, activation_of, below_of}
use Rattle.object_machine.specs.Transferring.{controlling}
use Rattle.object_machine.proofs.Moving.{stands_waiting, waited, waits_as}

-- ---- to which component control goes

module _ (line : ℕ) (o : World) (chain : List Activation) (m : Frames) (x : Simulation) (p : ProcessNo) where
  abbrev Going_by : Option (Option ℕ) → Run Machine
  Going_by y = having y o (λ y. controlling line o chain m x.block y)

  pub to_main : (b : ℕ) → p.0 ≡ 0 → x.block ≡ b → going_to owner line o chain m x (next.Resume p) ≡ controlling line o chain m b None
  unfolding having
  to_main b first e = ap (λ n. Going_by (component_of x n)) first ∙ ap (λ b. controlling line o chain m b None) e

  numbered : (n : ℕ) → (n ≡ 0 → ⊥) → component_of x n ≡ some_object (slice_get x.processes (n - 1))
  numbered zero other = absurd (other refl)
  numbered (suc n) other = let e : n ≡ suc n - 1 = omega arith in ap (λ k. some_object (slice_get x.processes k)) e

  pub to_object : (j : ℕ) → (p.0 ≡ 0 → ⊥) → slice_get x.processes (p.0 - 1) ≡ Some j → going_to owner line o chain m x (next.Resume p) ≡ transferring owner Resuming line o chain m (Object j)
  unfolding having transferring
  to_object j other there = ap (λ y. Going_by y) (numbered p.0 other) ∙ ap (λ y. Going_by (some_object y)) there

  pub to_none : (p.0 ≡ 0 → ⊥) → slice_get x.processes (p.0 - 1) ≡ None → going_to owner line o chain m x (next.Resume p) ≡ no_rule o
  unfolding having
  to_none other gone = ap (λ y. Going_by y) (numbered p.0 other) ∙ ap (λ y. Going_by (some_object y)) gone

pub object_there : (objects : List FrameRef) (at : ℕ) (f : FrameRef) → slice_get objects at ≡ Some f → slice_get (stamps objects) at ≡ Some f.stamp
object_there objects at f e = slice_get-map (λ f. f.stamp) objects at ∙ ap (λ q. option_map (λ f. f.stamp) q) e

pub object_gone : (objects : List FrameRef) (at : ℕ) → slice_get objects at ≡ None → slice_get (stamps objects) at ≡ None
object_gone objects at e = slice_get-map (λ f. f.stamp) objects at ∙ ap (λ q. option_map (λ f. f.stamp) q) e

-- ---- where control stays, and where a procedure is refused

module _ (l : Limits) (line : ℕ) (p : Storage) (top : working.Activation) (below : List working.Activation) (before : Option (List ℕ)) (now : Outside) (o w : World) (m : Frames) where
  pub stays_behind : (depth : ℕ) (t2 : working.Activation) → t2 ≡ waited top depth → Stands l p top.registers top.stack.items below before now w m →
      Leaves flow.On l line p t2.registers t2.stack.items below before now (going_below w (waiting (activation_of top) (values_of depth top.stack.items) ∷ below_of below) m)
  unfolding Leaves
  stays_behind depth t2 e s =
      subst (λ q. Leaves flow.On l line p t2.registers t2.stack.items below before now q) (sym (ap (λ a. going_below w (a ∷ below_of below) m) (waits_as top t2 depth e)))
      (refl, stands_waiting l line p top below before now w m s depth t2 e)

  pub refused : (e : RunError) (r : Registers) (stack : List Slot) → InWorld p before now o → Leaves (flow.Fault e) l line p r stack below before now (stopping (RunFault e line) o)
  unfolding stopping Leaves
  refused e r stack is = (refl, (o, is, refl))

-- ---- by what a procedure answered

module _ (line : ℕ) (o w : World) (chain : List Activation) (m : Frames) (x : Simulation) (answer : Result Next RunError) where
  pub settled_stays : (n : Next) → answer ≡ Ok n → n ≡ next.Stay → settling answer line o w chain m x ≡ going_below w chain m
  unfolding computing
  settled_stays n e e2 = ap (λ r. settling r line o w chain m x) (e ∙ ap (λ n. Ok n) e2)

  pub settled_goes : (n : Next) (p : ProcessNo) → answer ≡ Ok n → n ≡ next.Resume p → settling answer line o w chain m x ≡ going_to owner line w chain m x (next.Resume p)
  unfolding computing
  settled_goes n p e e2 = ap (λ r. settling r line o w chain m x) (e ∙ ap (λ n. Ok n) e2)

  pub settled_fails : (e : RunError) → answer ≡ Err e → settling answer line o w chain m x ≡ stopping (RunFault e line) o
  unfolding computing
  settled_fails e is = ap (λ r. settling r line o w chain m x) is

pub decided_so : (answer : Result Next RunError) (n : Next) → answer ≡ Ok n → IsDecided answer
decided_so answer n e = subst (λ r. IsDecided r) (sym e) tt

-- What the procedures of simulation blocks find on the operand stack, and what they make of a simulation.
use Rattle.std.proofs.Common.{◌≡◌, ℕ, List, map, sym, subst, refl, ap, ◌∙◌}
use Rattle.std.proofs.lemmas.Bool.{eqb-true}
use Rattle.std.proofs.lemmas.List.Quantifiers.{position-Some}
use Rattle.std.proofs.lemmas.Option.{same_Some}
use Rattle.std.specs.List.{position}
use Rattle.std.specs.Option.{option_map}
use Rattle.std.specs.Prelude.{slice_get, Option, Some, None}
use Rattle.sim_code.specs.Events.{having, no_rule, popping}
use Rattle.sim_code.specs.Machine.{Frames, Machine, Value, link_in, plain}
use Rattle.sim_code.specs.Outcome.{Run, Simulation, World}
use Rattle.sim_code.specs.Scheduling.{pop_block}
use Rattle.sim_code.specs.Simulations.{is_of_block, located, with_place}
use Rattle.frame_arena.specs.declared.slot.Slot.{Slot}
use Rattle.frame_arena.specs.Stacks.{values_of}
use Rattle.frame_arena.proofs.Enclosers.{index_there}
use Rattle.object_machine.specs.declared.machine.Storage.{Storage}
use Rattle.object_machine.specs.declared.scheduling.Addressed.{Addressed}
use Rattle.object_machine.specs.declared.simulated.Simulated.{Simulated}
use Rattle.object_machine.specs.Enrolling.{Rises, stamps}
use Rattle.object_machine.specs.Rescheduling.{TakesBlock}
use Rattle.object_machine.specs.Simulating.{Simulating, blocks_of, simulation_of}

-- ---- the block

-- the simulation that is found is that of the block
pub located_block : (sims : List Simulation) (b n : ℕ) (x : Simulation) → located sims b ≡ Some (n, x) → x.block ≡ b
unfolding located
located_block sims b n x e = at_position (position (is_of_block b) sims) refl e
  where
    by_get : (k : ℕ) (q : Option Simulation) → slice_get sims k ≡ q → position (is_of_block b) sims ≡ Some k → option_map {U = ℕ × Simulation} (λ y. (k, y)) q ≡ Some (n, x) → x.block ≡ b
    by_get k None there at e = absurd (cc)
    by_get k (Some y) there at e =
        let same : y ≡ x = ap (λ z. z.1) (same_Some _ _ e) in
        let here = position-Some (is_of_block b) sims k y at in
        sym (ap (λ z. z.block) same) ∙ eqb-true y.block b (ap (λ z. is_of_block b z) (sym (index_there sims k y y there)) ∙ here.1)

    at_position : (q : Option ℕ) → position (is_of_block b) sims ≡ q → with_place sims q ≡ Some (n, x) → x.block ≡ b
    at_position None at e = absurd (cc)
    at_position (Some k) at e = by_get k (slice_get sims k) refl at e

module _ (o : World) (go : ℕ → (ℕ × Simulation) → List Value → Run Machine) where
  abbrev pub Linked : Value → List Value → Run Machine
  Linked v rest = having (link_in v) o (λ b. having (located o.simulations b) o (λ x. go b x rest))

  pub block_popped : (stack : List Value) → pop_block plain link_in stack o go ≡ popping stack o Linked
  unfolding pop_block
  block_popped stack = refl

  pub unlinked : (v : Value) (rest : List Value) → link_in v ≡ None → Linked v rest ≡ no_rule o
  unfolding having
  unlinked v rest e = ap (λ q. having q o (λ b. having (located o.simulations b) o (λ x. go b x rest))) e

  module _ (v : Value) (rest : List Value) (b : ℕ) (e : link_in v ≡ Some b) where
    linked : Linked v rest ≡ having (located o.simulations b) o (λ x. go b x rest)
    unfolding having
    linked = ap (λ q. having q o (λ b. having (located o.simulations b) o (λ x. go b x rest))) e

    pub linked_nowhere : located o.simulations b ≡ None → Linked v rest ≡ no_rule o
    unfolding having
    linked_nowhere h = linked ∙ ap (λ q. having q o (λ x. go b x rest)) h

    pub linked_there : (n : ℕ) (x : Simulation) → located o.simulations b ≡ Some (n, x) → Linked v rest ≡ go x.block (n, x) rest
    unfolding having
    linked_there n x h = linked ∙ ap (λ q. having q o (λ x. go b x rest)) h ∙ ap (λ k. go k (n, x) rest) (sym (located_block o.simulations b n x h))

-- ---- the same where the machine stands for a world

module _ (p : Storage) (o : World) (m : Frames) (s : Simulating p.frames.items m p.simulations.items o.simulations) (blocks : List Simulated) (slots stack : List Slot) (depth : ℕ) where
  pub block_missing : blocks ≡ p.simulations.items → slots ≡ stack → (Rises (stamps (blocks_of blocks)) → o.simulations ≡ map simulation_of blocks → TakesBlock None blocks o depth slots) →
      (go : ℕ → (ℕ × Simulation) → List Value → Run Machine) → pop_block plain link_in (values_of depth stack) o go ≡ no_rule o
  block_missing e e2 h go =
      subst (λ v. pop_block plain link_in (values_of depth v) o go ≡ no_rule o) e2
      (h (subst (λ v. Rises (stamps (blocks_of v))) (sym e) s.rises) (subst (λ v. o.simulations ≡ map simulation_of v) (sym e) s.is) go)

  pub block_taken : (q : Addressed) → blocks ≡ p.simulations.items → slots ≡ stack → (Rises (stamps (blocks_of blocks)) → o.simulations ≡ map simulation_of blocks → TakesBlock (Some q) blocks o depth slots) →
      (y : Simulated) → slice_get p.simulations.items q.place ≡ Some y →
      (go : ℕ → (ℕ × Simulation) → List Value → Run Machine) → pop_block plain link_in (values_of depth stack) o go ≡ go y.block.stamp (q.place, simulation_of y) (values_of q.under stack)
  block_taken q e e2 h y there go =
      subst (λ v. pop_block plain link_in (values_of depth v) o go ≡ go y.block.stamp (q.place, simulation_of y) (values_of q.under v)) e2
      (h (subst (λ v. Rises (stamps (blocks_of v))) (sym e) s.rises) (subst (λ v. o.simulations ≡ map simulation_of v) (sym e) s.is) y (subst (λ v. slice_get v q.place ≡ Some y) (sym e) there) go)

-- Each row leads to less that is to do, or to a tick; so the run of each code comes to an end.
use Rattle.std.proofs.Common.{◌≡◌, ◌≤◌, ◌<◌, ℕ, zero, suc, ◌+◌, List, [], ◌∷◌, length, refl, sym, subst, ◌∙◌, arith}
use Rattle.std.specs.Prelude.{◌==◌}
use Rattle.sim_base.specs.declared.limits.Limits.{Limits}
use Rattle.sim_code.specs.declared.code.BlockKind.{BlockKind}
use Rattle.sim_code.specs.declared.code.BlockKind.TheVariants as block
use Rattle.sim_code.specs.Code.{BlockOf, CodeOf}
use Rattle.sim_code.specs.Outcome.{Ended, Ending, Going, Run, World, after, first_world}
use Rattle.sim_code.specs.Instances.{no_instances}
use Rattle.sim_code.specs.Levels.{is_simulation_class}
use Rattle.sim_code.specs.Machine.{Activation, Frames, Machine, words_of_block}
use Rattle.sim_code.specs.Rows.{first_stage, mstep, on_chain, program_begun}
use Rattle.code_finite.specs.Coming.{ComesToAnEnd}
use Rattle.code_finite.proofs.Lifts.{Goes, entering_goes, having_goes, when_goes}
use Rattle.code_finite.proofs.Rows.{top_falls}
use Rattle.code_finite.proofs.Weights.{Lower, chain_weight, kept_weight, lighter, ticked, weight}
use Rattle.code_finite.proofs.Words.{begun_ticks}

-- ---- one step

program_ticks : (code : CodeOf) (b : BlockOf) (kind : BlockKind) (o : World) → (program_begun code (record b { kind = kind }) o).ticks ≡ o.ticks
program_ticks code b block.SubBlock o = refl
program_ticks code b block.Procedure o = refl
program_ticks code b block.Object o = refl
program_ticks code b block.Prefixed o = begun_ticks (is_simulation_class code b.class) 0 o

module _ (code : CodeOf) (l : Limits) where
  chain_falls : (o : World) (m : Frames) (chain : List Activation) → Goes (Lower code l o.ticks (chain_weight code chain + kept_weight code m)) (on_chain code l o m chain)
  chain_falls o m [] =
      let P = Lower code l o.ticks (0 + kept_weight code m) in
      when_goes P (length m.instances == 0) o _ (having_goes P _ o _ (λ b. having_goes P (first_stage b.kind) o _ (λ s. having_goes P _ o _ (λ x.
      entering_goes P l x.line.0 (words_of_block b) o _ (λ p more most. let same = program_ticks code b b.kind p in ticked (omega (arith, more, same)) (omega (arith, most, same)))))))
  chain_falls o m (a ∷ below) = top_falls code l o m a below

  step_falls : (o : World) (s : Machine) → Goes (Lower code l o.ticks (weight code s)) (mstep code l o s)
  step_falls o s = chain_falls o s.memory s.chain

  -- ---- runs

  -- so many steps lead from here to a state from which the next step ends the run
  record EndsWith (o : World) (s : Machine) : Type 0 where
    steps : ℕ
    world : World
    state : Machine
    last : World
    ending : Ending
    come : after (mstep code l) steps (Going o s) ≡ Going world state
    ended : after (mstep code l) (suc steps) (Going o s) ≡ Ended last ending

  later : (o : World) (s : Machine) (p : World) (t : Machine) → mstep code l o s ≡ Going p t → EndsWith p t → EndsWith o s
  later o s p t is e = record {
    steps = suc e.steps;
    world = e.world;
    state = e.state;
    last = e.last;
    ending = e.ending;
    come = subst (λ (r : Run Machine). after (mstep code l) e.steps r ≡ Going e.world e.state) (sym is) e.come;
    ended = subst (λ (r : Run Machine). after (mstep code l) (suc e.steps) r ≡ Ended e.last e.ending) (sym is) e.ended;
  }

  -- as long as no tick is taken, there is less to do after each step
  until_tick : (ticks : ℕ) → ((p : World) (t : Machine) → ticks < p.ticks → p.ticks ≤ l.ticks → EndsWith p t) → (n : ℕ) (o : World) (s : Machine) → o.ticks ≡ ticks → weight code s < n → EndsWith o s
  until_tick ticks again zero o s same few = absurd (omega (arith, few))
  until_tick ticks again (suc n) o s same few = from_run (mstep code l o s) refl (step_falls o s) (λ p t kept less. until_tick ticks again n p t kept less)
    where
      from_run : (r : Run Machine) → mstep code l o s ≡ r → Goes (Lower code l o.ticks (weight code s)) r → ((p : World) (t : Machine) → p.ticks ≡ ticks → weight code t < n → EndsWith p t) → EndsWith o s
      from_run (Ended p e) is falls on = record { steps = 0; world = o; state = s; last = p; ending = e; come = refl; ended = is }
      from_run (Going p t) is (lighter kept less) on = later o s p t is (on p t (kept ∙ same) (omega (arith, less, few)))
      from_run (Going p t) is (ticked more most) on = later o s p t is (again p t (omega (arith, more, same)) most)

  -- so many ticks are left at most
  with_ticks : (k : ℕ) (o : World) (s : Machine) → l.ticks ≤ o.ticks + k → EndsWith o s
  with_ticks zero o s left = until_tick o.ticks (λ p t more most. absurd (omega (arith, more, most, left))) (suc (weight code s)) o s refl (omega arith)
  with_ticks (suc k) o s left = until_tick o.ticks (λ p t more most. with_ticks k p t (omega (arith, more, left))) (suc (weight code s)) o s refl (omega arith)

pub comes_to_an_end : (code : CodeOf) (l : Limits) (input : List ℕ) → ComesToAnEnd code l input
comes_to_an_end code l input =
    let e = with_ticks code l l.ticks (first_world code.texts l input) no_instances (omega arith) in
    record { steps = e.steps; world = e.world; state = e.state; last = e.last; ending = e.ending; come = e.come; ended = e.ended }

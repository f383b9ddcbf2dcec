-- The events of simulations leave what is written.
use Rattle.std.proofs.Common.{ℕ, List, Option, Some, None, Bool, true, false}
use Rattle.std.specs.Prelude.{ℤ, Result, Ok}
use Rattle.sim_base.specs.declared.run_error.RunError.{RunError}
use Rattle.notices.specs.declared.activation.Placement.{Placement}
use Rattle.notices.specs.declared.activation.ProcessRef.{ProcessRef}
use Rattle.notices.specs.declared.notice.Notice.{Notice}
use Rattle.notices.specs.Scheduling.{activated, cancelled, held, passivated}
use Rattle.sim_values.specs.declared.standard.Standard.{Standard}
use Rattle.sim_values.specs.declared.standard.Standard.TheVariants as name
use Rattle.sim_values.specs.Plain.{Plain}
use Rattle.sim_code.specs.Outcome.{Run, Simulation, World}
use Rattle.sim_code.specs.Events.{integer_in}
use Rattle.sim_code.specs.Sets.{SetEffect, linkage_given, linkage_named, set_effect}
use Rattle.sim_code.specs.Simulations.{current_process, located, named_in, number_in, process_tells, seen, simulation_tells, with_end}
use Rattle.sim_code.specs.Scheduling.{Timing, block_around, has_operand, performing_activation, performing_process, performing_simulation, placement, pop_block, pop_operand_if, waiting_in}
use Rattle.sim_code.proofs.Growing.{Grows, grows_computing, grows_having, grows_plain, grows_popping}

module _ (S V : Type 0) (plain : V → Option Plain) where
  pub grows_process : (around : ℕ → Option ℕ) (name : Standard) (line : ℕ) (vals : List V) (o : World) (go : Plain → List V → Run S) → ((v : Plain) (rest : List V) → Grows o.store.written (go v rest)) → Grows o.store.written (performing_process plain around name line vals o go)
  unfolding performing_process
  grows_process around name line vals o go h =
      grows_plain S V plain vals o _ (λ p rest. grows_having S ℕ (block_around around p) o _ (λ b _. grows_having S (ℕ × Simulation) (located o.simulations b) o _ (λ x _.
      grows_having S ℕ (number_in x.1 p) o _ (λ n _. grows_having S (Result Plain RunError) (process_tells name x.1 n) o _ (λ r _. grows_computing S Plain line r o _ (λ v. h v rest))))))

  module _ (link : V → Option ℕ) where
    grows_block : (vals : List V) (o : World) (go : ℕ → (ℕ × Simulation) → List V → Run S) → ((b : ℕ) (x : ℕ × Simulation) (rest : List V) → Grows o.store.written (go b x rest)) → Grows o.store.written (pop_block plain link vals o go)
    unfolding pop_block
    grows_block vals o go h = grows_popping S V plain vals o _ (λ v rest. grows_having S ℕ (link v) o _ (λ b _. grows_having S (ℕ × Simulation) (located o.simulations b) o _ (λ x _. h b x rest)))

    grows_waiting : (h : Option ℕ) (o : World) (x : Simulation) (go : World → Run S) → ((p : World) → Grows p.store.written (go p)) → Grows o.store.written (waiting_in plain link h o x go)
    grows_waiting h o x go g =
        grows_having S Plain (current_process x) o _ (λ p _. grows_having S ℕ (linkage_named o.members p) o _ (λ y _.
        grows_having S SetEffect (set_effect name.Into (named_in o.simulations) o.members y h) o _ (λ effect _. g (record o { members = effect.members }))))

    module _ (in_process : ℕ → Plain → Option Bool) where
      -- a decision that leaves what is written
      abbrev Decides : (World → (ℕ × Simulation) → Result (List Notice) RunError → List V → Run S) → Type 0
      Decides decide = (o : World) (x : ℕ × Simulation) (r : Result (List Notice) RunError) (rest : List V) → Grows o.store.written (decide o x r rest)

      pub grows_simulation : (ending : Option ℕ) (name : Standard) (vals : List V) (o : World) (give : Plain → List V → Run S) (decide : World → (ℕ × Simulation) → Result (List Notice) RunError → List V → Run S)
          → ((v : Plain) (rest : List V) → Grows o.store.written (give v rest)) → Decides decide → Grows o.store.written (performing_simulation plain link in_process ending name vals o give decide)
      unfolding performing_simulation
      grows_simulation ending name.Hold vals o give decide g d =
          grows_plain S V plain vals o _ (λ v rest. grows_having S ℤ (integer_in v) o _ (λ t _. grows_block rest o _ (λ b x rest. d o x (held t x.1.notices) rest)))
      grows_simulation ending name.Passivate vals o give decide g d =
          grows_block vals o _ (λ b x rest. d o (x.0, with_end ending x.1) (Ok (passivated x.1.notices)) rest)
      grows_simulation ending name.Wait vals o give decide g d =
          grows_plain S V plain vals o _ (λ v rest. grows_having S (Option ℕ) (linkage_given o.members v) o _ (λ h _.
          grows_block rest o _ (λ b x rest. grows_waiting h o x.1 _ (λ p. d p x (Ok (passivated x.1.notices)) rest))))
      grows_simulation ending name.Cancel vals o give decide g d =
          grows_plain S V plain vals o _ (λ v rest. grows_block rest o _ (λ b x rest. grows_having S (Option ProcessRef) (seen (in_process b) x.1 v) o _ (λ p _. d o x (cancelled p x.1.notices) rest)))
      grows_simulation ending name.Abs vals o give decide g d = grows_block vals o _ (λ b x rest. grows_having S Plain (simulation_tells name.Abs x.1) o _ (λ v _. g v rest))
      grows_simulation ending name.Sign vals o give decide g d = grows_block vals o _ (λ b x rest. grows_having S Plain (simulation_tells name.Sign x.1) o _ (λ v _. g v rest))
      grows_simulation ending name.Min vals o give decide g d = grows_block vals o _ (λ b x rest. grows_having S Plain (simulation_tells name.Min x.1) o _ (λ v _. g v rest))
      grows_simulation ending name.Max vals o give decide g d = grows_block vals o _ (λ b x rest. grows_having S Plain (simulation_tells name.Max x.1) o _ (λ v _. g v rest))
      grows_simulation ending name.Mod vals o give decide g d = grows_block vals o _ (λ b x rest. grows_having S Plain (simulation_tells name.Mod x.1) o _ (λ v _. g v rest))
      grows_simulation ending name.Rem vals o give decide g d = grows_block vals o _ (λ b x rest. grows_having S Plain (simulation_tells name.Rem x.1) o _ (λ v _. g v rest))
      grows_simulation ending name.Maxint vals o give decide g d = grows_block vals o _ (λ b x rest. grows_having S Plain (simulation_tells name.Maxint x.1) o _ (λ v _. g v rest))
      grows_simulation ending name.Minint vals o give decide g d = grows_block vals o _ (λ b x rest. grows_having S Plain (simulation_tells name.Minint x.1) o _ (λ v _. g v rest))
      grows_simulation ending name.Char vals o give decide g d = grows_block vals o _ (λ b x rest. grows_having S Plain (simulation_tells name.Char x.1) o _ (λ v _. g v rest))
      grows_simulation ending name.Rank vals o give decide g d = grows_block vals o _ (λ b x rest. grows_having S Plain (simulation_tells name.Rank x.1) o _ (λ v _. g v rest))
      grows_simulation ending name.Isochar vals o give decide g d = grows_block vals o _ (λ b x rest. grows_having S Plain (simulation_tells name.Isochar x.1) o _ (λ v _. g v rest))
      grows_simulation ending name.Isorank vals o give decide g d = grows_block vals o _ (λ b x rest. grows_having S Plain (simulation_tells name.Isorank x.1) o _ (λ v _. g v rest))
      grows_simulation ending name.Digit vals o give decide g d = grows_block vals o _ (λ b x rest. grows_having S Plain (simulation_tells name.Digit x.1) o _ (λ v _. g v rest))
      grows_simulation ending name.Letter vals o give decide g d = grows_block vals o _ (λ b x rest. grows_having S Plain (simulation_tells name.Letter x.1) o _ (λ v _. g v rest))
      grows_simulation ending name.Blanks vals o give decide g d = grows_block vals o _ (λ b x rest. grows_having S Plain (simulation_tells name.Blanks x.1) o _ (λ v _. g v rest))
      grows_simulation ending name.Copy vals o give decide g d = grows_block vals o _ (λ b x rest. grows_having S Plain (simulation_tells name.Copy x.1) o _ (λ v _. g v rest))
      grows_simulation ending name.Upcase vals o give decide g d = grows_block vals o _ (λ b x rest. grows_having S Plain (simulation_tells name.Upcase x.1) o _ (λ v _. g v rest))
      grows_simulation ending name.Lowcase vals o give decide g d = grows_block vals o _ (λ b x rest. grows_having S Plain (simulation_tells name.Lowcase x.1) o _ (λ v _. g v rest))
      grows_simulation ending name.TextConstant vals o give decide g d = grows_block vals o _ (λ b x rest. grows_having S Plain (simulation_tells name.TextConstant x.1) o _ (λ v _. g v rest))
      grows_simulation ending name.TextStart vals o give decide g d = grows_block vals o _ (λ b x rest. grows_having S Plain (simulation_tells name.TextStart x.1) o _ (λ v _. g v rest))
      grows_simulation ending name.TextLength vals o give decide g d = grows_block vals o _ (λ b x rest. grows_having S Plain (simulation_tells name.TextLength x.1) o _ (λ v _. g v rest))
      grows_simulation ending name.TextPos vals o give decide g d = grows_block vals o _ (λ b x rest. grows_having S Plain (simulation_tells name.TextPos x.1) o _ (λ v _. g v rest))
      grows_simulation ending name.TextMore vals o give decide g d = grows_block vals o _ (λ b x rest. grows_having S Plain (simulation_tells name.TextMore x.1) o _ (λ v _. g v rest))
      grows_simulation ending name.TextMain vals o give decide g d = grows_block vals o _ (λ b x rest. grows_having S Plain (simulation_tells name.TextMain x.1) o _ (λ v _. g v rest))
      grows_simulation ending name.TextSetpos vals o give decide g d = grows_block vals o _ (λ b x rest. grows_having S Plain (simulation_tells name.TextSetpos x.1) o _ (λ v _. g v rest))
      grows_simulation ending name.TextGetchar vals o give decide g d = grows_block vals o _ (λ b x rest. grows_having S Plain (simulation_tells name.TextGetchar x.1) o _ (λ v _. g v rest))
      grows_simulation ending name.TextPutchar vals o give decide g d = grows_block vals o _ (λ b x rest. grows_having S Plain (simulation_tells name.TextPutchar x.1) o _ (λ v _. g v rest))
      grows_simulation ending name.TextSub vals o give decide g d = grows_block vals o _ (λ b x rest. grows_having S Plain (simulation_tells name.TextSub x.1) o _ (λ v _. g v rest))
      grows_simulation ending name.TextStrip vals o give decide g d = grows_block vals o _ (λ b x rest. grows_having S Plain (simulation_tells name.TextStrip x.1) o _ (λ v _. g v rest))
      grows_simulation ending name.TextGetint vals o give decide g d = grows_block vals o _ (λ b x rest. grows_having S Plain (simulation_tells name.TextGetint x.1) o _ (λ v _. g v rest))
      grows_simulation ending name.TextPutint vals o give decide g d = grows_block vals o _ (λ b x rest. grows_having S Plain (simulation_tells name.TextPutint x.1) o _ (λ v _. g v rest))
      grows_simulation ending name.Inimage vals o give decide g d = grows_block vals o _ (λ b x rest. grows_having S Plain (simulation_tells name.Inimage x.1) o _ (λ v _. g v rest))
      grows_simulation ending name.Inchar vals o give decide g d = grows_block vals o _ (λ b x rest. grows_having S Plain (simulation_tells name.Inchar x.1) o _ (λ v _. g v rest))
      grows_simulation ending name.Inint vals o give decide g d = grows_block vals o _ (λ b x rest. grows_having S Plain (simulation_tells name.Inint x.1) o _ (λ v _. g v rest))
      grows_simulation ending name.Intext vals o give decide g d = grows_block vals o _ (λ b x rest. grows_having S Plain (simulation_tells name.Intext x.1) o _ (λ v _. g v rest))
      grows_simulation ending name.Lastitem vals o give decide g d = grows_block vals o _ (λ b x rest. grows_having S Plain (simulation_tells name.Lastitem x.1) o _ (λ v _. g v rest))
      grows_simulation ending name.Endfile vals o give decide g d = grows_block vals o _ (λ b x rest. grows_having S Plain (simulation_tells name.Endfile x.1) o _ (λ v _. g v rest))
      grows_simulation ending name.Outimage vals o give decide g d = grows_block vals o _ (λ b x rest. grows_having S Plain (simulation_tells name.Outimage x.1) o _ (λ v _. g v rest))
      grows_simulation ending name.Outchar vals o give decide g d = grows_block vals o _ (λ b x rest. grows_having S Plain (simulation_tells name.Outchar x.1) o _ (λ v _. g v rest))
      grows_simulation ending name.Outtext vals o give decide g d = grows_block vals o _ (λ b x rest. grows_having S Plain (simulation_tells name.Outtext x.1) o _ (λ v _. g v rest))
      grows_simulation ending name.Outint vals o give decide g d = grows_block vals o _ (λ b x rest. grows_having S Plain (simulation_tells name.Outint x.1) o _ (λ v _. g v rest))
      grows_simulation ending name.Image vals o give decide g d = grows_block vals o _ (λ b x rest. grows_having S Plain (simulation_tells name.Image x.1) o _ (λ v _. g v rest))
      grows_simulation ending name.Pos vals o give decide g d = grows_block vals o _ (λ b x rest. grows_having S Plain (simulation_tells name.Pos x.1) o _ (λ v _. g v rest))
      grows_simulation ending name.Setpos vals o give decide g d = grows_block vals o _ (λ b x rest. grows_having S Plain (simulation_tells name.Setpos x.1) o _ (λ v _. g v rest))
      grows_simulation ending name.More vals o give decide g d = grows_block vals o _ (λ b x rest. grows_having S Plain (simulation_tells name.More x.1) o _ (λ v _. g v rest))
      grows_simulation ending name.Length vals o give decide g d = grows_block vals o _ (λ b x rest. grows_having S Plain (simulation_tells name.Length x.1) o _ (λ v _. g v rest))
      grows_simulation ending name.Detach vals o give decide g d = grows_block vals o _ (λ b x rest. grows_having S Plain (simulation_tells name.Detach x.1) o _ (λ v _. g v rest))
      grows_simulation ending name.Call vals o give decide g d = grows_block vals o _ (λ b x rest. grows_having S Plain (simulation_tells name.Call x.1) o _ (λ v _. g v rest))
      grows_simulation ending name.Resume vals o give decide g d = grows_block vals o _ (λ b x rest. grows_having S Plain (simulation_tells name.Resume x.1) o _ (λ v _. g v rest))
      grows_simulation ending name.Suc vals o give decide g d = grows_block vals o _ (λ b x rest. grows_having S Plain (simulation_tells name.Suc x.1) o _ (λ v _. g v rest))
      grows_simulation ending name.Pred vals o give decide g d = grows_block vals o _ (λ b x rest. grows_having S Plain (simulation_tells name.Pred x.1) o _ (λ v _. g v rest))
      grows_simulation ending name.Prev vals o give decide g d = grows_block vals o _ (λ b x rest. grows_having S Plain (simulation_tells name.Prev x.1) o _ (λ v _. g v rest))
      grows_simulation ending name.Out vals o give decide g d = grows_block vals o _ (λ b x rest. grows_having S Plain (simulation_tells name.Out x.1) o _ (λ v _. g v rest))
      grows_simulation ending name.Follow vals o give decide g d = grows_block vals o _ (λ b x rest. grows_having S Plain (simulation_tells name.Follow x.1) o _ (λ v _. g v rest))
      grows_simulation ending name.Precede vals o give decide g d = grows_block vals o _ (λ b x rest. grows_having S Plain (simulation_tells name.Precede x.1) o _ (λ v _. g v rest))
      grows_simulation ending name.Into vals o give decide g d = grows_block vals o _ (λ b x rest. grows_having S Plain (simulation_tells name.Into x.1) o _ (λ v _. g v rest))
      grows_simulation ending name.First vals o give decide g d = grows_block vals o _ (λ b x rest. grows_having S Plain (simulation_tells name.First x.1) o _ (λ v _. g v rest))
      grows_simulation ending name.Last vals o give decide g d = grows_block vals o _ (λ b x rest. grows_having S Plain (simulation_tells name.Last x.1) o _ (λ v _. g v rest))
      grows_simulation ending name.Empty vals o give decide g d = grows_block vals o _ (λ b x rest. grows_having S Plain (simulation_tells name.Empty x.1) o _ (λ v _. g v rest))
      grows_simulation ending name.Cardinal vals o give decide g d = grows_block vals o _ (λ b x rest. grows_having S Plain (simulation_tells name.Cardinal x.1) o _ (λ v _. g v rest))
      grows_simulation ending name.Clear vals o give decide g d = grows_block vals o _ (λ b x rest. grows_having S Plain (simulation_tells name.Clear x.1) o _ (λ v _. g v rest))
      grows_simulation ending name.Idle vals o give decide g d = grows_block vals o _ (λ b x rest. grows_having S Plain (simulation_tells name.Idle x.1) o _ (λ v _. g v rest))
      grows_simulation ending name.Terminated vals o give decide g d = grows_block vals o _ (λ b x rest. grows_having S Plain (simulation_tells name.Terminated x.1) o _ (λ v _. g v rest))
      grows_simulation ending name.Evtime vals o give decide g d = grows_block vals o _ (λ b x rest. grows_having S Plain (simulation_tells name.Evtime x.1) o _ (λ v _. g v rest))
      grows_simulation ending name.Nextev vals o give decide g d = grows_block vals o _ (λ b x rest. grows_having S Plain (simulation_tells name.Nextev x.1) o _ (λ v _. g v rest))
      grows_simulation ending name.Time vals o give decide g d = grows_block vals o _ (λ b x rest. grows_having S Plain (simulation_tells name.Time x.1) o _ (λ v _. g v rest))
      grows_simulation ending name.Current vals o give decide g d = grows_block vals o _ (λ b x rest. grows_having S Plain (simulation_tells name.Current x.1) o _ (λ v _. g v rest))
      grows_simulation ending name.Main vals o give decide g d = grows_block vals o _ (λ b x rest. grows_having S Plain (simulation_tells name.Main x.1) o _ (λ v _. g v rest))

      grows_operand : (has : Bool) (vals : List V) (o : World) (go : Option Plain → List V → Run S) → ((v : Option Plain) (rest : List V) → Grows o.store.written (go v rest)) → Grows o.store.written (pop_operand_if plain link has vals o go)
      unfolding pop_operand_if
      grows_operand false vals o go h = h None vals
      grows_operand true vals o go h = grows_plain S V plain vals o _ (λ v rest. h (Some v) rest)

      pub grows_activation : (again : Bool) (timing : Timing) (vals : List V) (o : World) (decide : World → (ℕ × Simulation) → Result (List Notice) RunError → List V → Run S)
          → Decides decide → Grows o.store.written (performing_activation plain link in_process again timing vals o decide)
      unfolding performing_activation
      grows_activation again timing vals o decide d =
          grows_operand (has_operand timing) vals o _ (λ operand rest. grows_plain S V plain rest o _ (λ v rest. grows_block rest o _ (λ b x rest.
          grows_having S (Option ProcessRef) (seen (in_process b) x.1 v) o _ (λ p _. grows_having S Placement (placement timing (seen (in_process b) x.1) operand) o _ (λ where_to _.
          d o x (activated (record { process = p; again = again; placement = where_to }) x.1.notices) rest)))))

-- What the events of simulations go on with: the ticks are as they were.
use Rattle.std.proofs.Common.{◌≡◌, ℕ, List, Option, Some, None, Bool, true, false, refl}
use Rattle.std.specs.Prelude.{Result, Ok}
use Rattle.sim_base.specs.declared.run_error.RunError.{RunError}
use Rattle.notices.specs.declared.notice.Notice.{Notice}
use Rattle.notices.specs.Scheduling.{activated, cancelled, held, passivated}
use Rattle.sim_values.specs.declared.standard.Standard.{Standard}
use Rattle.sim_values.specs.declared.standard.Standard.TheVariants as name
use Rattle.sim_values.specs.Plain.{Plain}
use Rattle.sim_code.specs.Outcome.{Run, Simulation, World}
use Rattle.sim_code.specs.Events.{integer_in}
use Rattle.sim_code.specs.Sets.{linkage_given, linkage_named, set_effect}
use Rattle.sim_code.specs.Simulations.{current_process, located, named_in, number_in, process_tells, seen, simulation_tells, with_end}
use Rattle.sim_code.specs.Scheduling.{Timing, block_around, has_operand, performing_activation, performing_process, performing_simulation, placement, pop_block, pop_operand_if, waiting_in}
use Rattle.code_finite.proofs.Lifts.{Goes, computing_goes, having_goes, plain_goes, popping_goes}

module _ {S V : Type 0} (P : World → S → Type 0) (plain : V → Option Plain) where
  pub process_goes : (around : ℕ → Option ℕ) (name : Standard) (line : ℕ) (stack : List V) (o : World) (f : Plain → List V → Run S) → ((p : Plain) (rest : List V) → Goes P (f p rest)) → Goes P (performing_process plain around name line stack o f)
  unfolding performing_process
  process_goes around name line stack o f x =
      plain_goes P plain stack o _ (λ p rest. having_goes P (block_around around p) o _ (λ b. having_goes P (located o.simulations b) o _ (λ y.
      having_goes P (number_in y.1 p) o _ (λ n. having_goes P (process_tells name y.1 n) o _ (λ r. computing_goes P line r o _ (λ v. x v rest))))))

  module _ (link : V → Option ℕ) where
    block_goes : (stack : List V) (o : World) (f : ℕ → (ℕ × Simulation) → List V → Run S) → ((b : ℕ) (y : ℕ × Simulation) (rest : List V) → Goes P (f b y rest)) → Goes P (pop_block plain link stack o f)
    unfolding pop_block
    block_goes stack o f x = popping_goes P stack o _ (λ v rest. having_goes P (link v) o _ (λ b. having_goes P (located o.simulations b) o _ (λ y. x b y rest)))

    waiting_goes : (h : Option ℕ) (o : World) (y : Simulation) (f : World → Run S) → ((p : World) → p.ticks ≡ o.ticks → Goes P (f p)) → Goes P (waiting_in plain link h o y f)
    waiting_goes h o y f x =
        having_goes P (current_process y) o _ (λ p. having_goes P (linkage_named o.members p) o _ (λ k.
        having_goes P (set_effect name.Into (named_in o.simulations) o.members k h) o _ (λ effect. x (record o { members = effect.members }) refl)))

    module _ (in_process : ℕ → Plain → Option Bool) (o : World) (decide : World → (ℕ × Simulation) → Result (List Notice) RunError → List V → Run S)
        (decides : (p : World) (y : ℕ × Simulation) (r : Result (List Notice) RunError) (rest : List V) → p.ticks ≡ o.ticks → Goes P (decide p y r rest)) where
      pub simulation_goes : (ending : Option ℕ) (name : Standard) (stack : List V) (give : Plain → List V → Run S) → ((v : Plain) (rest : List V) → Goes P (give v rest)) → Goes P (performing_simulation plain link in_process ending name stack o give decide)
      unfolding performing_simulation
      simulation_goes ending name.Hold stack give x =
          plain_goes P plain stack o _ (λ v rest. having_goes P (integer_in v) o _ (λ t. block_goes rest o _ (λ b y rest. decides o y (held t y.1.notices) rest refl)))
      simulation_goes ending name.Passivate stack give x = block_goes stack o _ (λ b y rest. decides o (y.0, with_end ending y.1) (Ok (passivated y.1.notices)) rest refl)
      simulation_goes ending name.Wait stack give x =
          plain_goes P plain stack o _ (λ v rest. having_goes P (linkage_given o.members v) o _ (λ h. block_goes rest o _ (λ b y rest.
          waiting_goes h o y.1 _ (λ p same. decides p y (Ok (passivated y.1.notices)) rest same))))
      simulation_goes ending name.Cancel stack give x =
          plain_goes P plain stack o _ (λ v rest. block_goes rest o _ (λ b y rest. having_goes P (seen (in_process b) y.1 v) o _ (λ p. decides o y (cancelled p y.1.notices) rest refl)))
      simulation_goes ending name.Abs stack give x = block_goes stack o _ (λ b y rest. having_goes P (simulation_tells name.Abs y.1) o _ (λ v. x v rest))
      simulation_goes ending name.Sign stack give x = block_goes stack o _ (λ b y rest. having_goes P (simulation_tells name.Sign y.1) o _ (λ v. x v rest))
      simulation_goes ending name.Min stack give x = block_goes stack o _ (λ b y rest. having_goes P (simulation_tells name.Min y.1) o _ (λ v. x v rest))
      simulation_goes ending name.Max stack give x = block_goes stack o _ (λ b y rest. having_goes P (simulation_tells name.Max y.1) o _ (λ v. x v rest))
      simulation_goes ending name.Mod stack give x = block_goes stack o _ (λ b y rest. having_goes P (simulation_tells name.Mod y.1) o _ (λ v. x v rest))
      simulation_goes ending name.Rem stack give x = block_goes stack o _ (λ b y rest. having_goes P (simulation_tells name.Rem y.1) o _ (λ v. x v rest))
      simulation_goes ending name.Maxint stack give x = block_goes stack o _ (λ b y rest. having_goes P (simulation_tells name.Maxint y.1) o _ (λ v. x v rest))
      simulation_goes ending name.Minint stack give x = block_goes stack o _ (λ b y rest. having_goes P (simulation_tells name.Minint y.1) o _ (λ v. x v rest))
      simulation_goes ending name.Char stack give x = block_goes stack o _ (λ b y rest. having_goes P (simulation_tells name.Char y.1) o _ (λ v. x v rest))
      simulation_goes ending name.Rank stack give x = block_goes stack o _ (λ b y rest. having_goes P (simulation_tells name.Rank y.1) o _ (λ v. x v rest))
      simulation_goes ending name.Isochar stack give x = block_goes stack o _ (λ b y rest. having_goes P (simulation_tells name.Isochar y.1) o _ (λ v. x v rest))
      simulation_goes ending name.Isorank stack give x = block_goes stack o _ (λ b y rest. having_goes P (simulation_tells name.Isorank y.1) o _ (λ v. x v rest))
      simulation_goes ending name.Digit stack give x = block_goes stack o _ (λ b y rest. having_goes P (simulation_tells name.Digit y.1) o _ (λ v. x v rest))
      simulation_goes ending name.Letter stack give x = block_goes stack o _ (λ b y rest. having_goes P (simulation_tells name.Letter y.1) o _ (λ v. x v rest))
      simulation_goes ending name.Blanks stack give x = block_goes stack o _ (λ b y rest. having_goes P (simulation_tells name.Blanks y.1) o _ (λ v. x v rest))
      simulation_goes ending name.Copy stack give x = block_goes stack o _ (λ b y rest. having_goes P (simulation_tells name.Copy y.1) o _ (λ v. x v rest))
      simulation_goes ending name.Upcase stack give x = block_goes stack o _ (λ b y rest. having_goes P (simulation_tells name.Upcase y.1) o _ (λ v. x v rest))
      simulation_goes ending name.Lowcase stack give x = block_goes stack o _ (λ b y rest. having_goes P (simulation_tells name.Lowcase y.1) o _ (λ v. x v rest))
      simulation_goes ending name.TextConstant stack give x = block_goes stack o _ (λ b y rest. having_goes P (simulation_tells name.TextConstant y.1) o _ (λ v. x v rest))
      simulation_goes ending name.TextStart stack give x = block_goes stack o _ (λ b y rest. having_goes P (simulation_tells name.TextStart y.1) o _ (λ v. x v rest))
      simulation_goes ending name.TextLength stack give x = block_goes stack o _ (λ b y rest. having_goes P (simulation_tells name.TextLength y.1) o _ (λ v. x v rest))
      simulation_goes ending name.TextPos stack give x = block_goes stack o _ (λ b y rest. having_goes P (simulation_tells name.TextPos y.1) o _ (λ v. x v rest))
      simulation_goes ending name.TextMore stack give x = block_goes stack o _ (λ b y rest. having_goes P (simulation_tells name.TextMore y.1) o _ (λ v. x v rest))
      simulation_goes ending name.TextMain stack give x = block_goes stack o _ (λ b y rest. having_goes P (simulation_tells name.TextMain y.1) o _ (λ v. x v rest))
      simulation_goes ending name.TextSetpos stack give x = block_goes stack o _ (λ b y rest. having_goes P (simulation_tells name.TextSetpos y.1) o _ (λ v. x v rest))
      simulation_goes ending name.TextGetchar stack give x = block_goes stack o _ (λ b y rest. having_goes P (simulation_tells name.TextGetchar y.1) o _ (λ v. x v rest))
      simulation_goes ending name.TextPutchar stack give x = block_goes stack o _ (λ b y rest. having_goes P (simulation_tells name.TextPutchar y.1) o _ (λ v. x v rest))
      simulation_goes ending name.TextSub stack give x = block_goes stack o _ (λ b y rest. having_goes P (simulation_tells name.TextSub y.1) o _ (λ v. x v rest))
      simulation_goes ending name.TextStrip stack give x = block_goes stack o _ (λ b y rest. having_goes P (simulation_tells name.TextStrip y.1) o _ (λ v. x v rest))
      simulation_goes ending name.TextGetint stack give x = block_goes stack o _ (λ b y rest. having_goes P (simulation_tells name.TextGetint y.1) o _ (λ v. x v rest))
      simulation_goes ending name.TextPutint stack give x = block_goes stack o _ (λ b y rest. having_goes P (simulation_tells name.TextPutint y.1) o _ (λ v. x v rest))
      simulation_goes ending name.Inimage stack give x = block_goes stack o _ (λ b y rest. having_goes P (simulation_tells name.Inimage y.1) o _ (λ v. x v rest))
      simulation_goes ending name.Inchar stack give x = block_goes stack o _ (λ b y rest. having_goes P (simulation_tells name.Inchar y.1) o _ (λ v. x v rest))
      simulation_goes ending name.Inint stack give x = block_goes stack o _ (λ b y rest. having_goes P (simulation_tells name.Inint y.1) o _ (λ v. x v rest))
      simulation_goes ending name.Intext stack give x = block_goes stack o _ (λ b y rest. having_goes P (simulation_tells name.Intext y.1) o _ (λ v. x v rest))
      simulation_goes ending name.Lastitem stack give x = block_goes stack o _ (λ b y rest. having_goes P (simulation_tells name.Lastitem y.1) o _ (λ v. x v rest))
      simulation_goes ending name.Endfile stack give x = block_goes stack o _ (λ b y rest. having_goes P (simulation_tells name.Endfile y.1) o _ (λ v. x v rest))
      simulation_goes ending name.Outimage stack give x = block_goes stack o _ (λ b y rest. having_goes P (simulation_tells name.Outimage y.1) o _ (λ v. x v rest))
      simulation_goes ending name.Outchar stack give x = block_goes stack o _ (λ b y rest. having_goes P (simulation_tells name.Outchar y.1) o _ (λ v. x v rest))
      simulation_goes ending name.Outtext stack give x = block_goes stack o _ (λ b y rest. having_goes P (simulation_tells name.Outtext y.1) o _ (λ v. x v rest))
      simulation_goes ending name.Outint stack give x = block_goes stack o _ (λ b y rest. having_goes P (simulation_tells name.Outint y.1) o _ (λ v. x v rest))
      simulation_goes ending name.Image stack give x = block_goes stack o _ (λ b y rest. having_goes P (simulation_tells name.Image y.1) o _ (λ v. x v rest))
      simulation_goes ending name.Pos stack give x = block_goes stack o _ (λ b y rest. having_goes P (simulation_tells name.Pos y.1) o _ (λ v. x v rest))
      simulation_goes ending name.Setpos stack give x = block_goes stack o _ (λ b y rest. having_goes P (simulation_tells name.Setpos y.1) o _ (λ v. x v rest))
      simulation_goes ending name.More stack give x = block_goes stack o _ (λ b y rest. having_goes P (simulation_tells name.More y.1) o _ (λ v. x v rest))
      simulation_goes ending name.Length stack give x = block_goes stack o _ (λ b y rest. having_goes P (simulation_tells name.Length y.1) o _ (λ v. x v rest))
      simulation_goes ending name.Detach stack give x = block_goes stack o _ (λ b y rest. having_goes P (simulation_tells name.Detach y.1) o _ (λ v. x v rest))
      simulation_goes ending name.Call stack give x = block_goes stack o _ (λ b y rest. having_goes P (simulation_tells name.Call y.1) o _ (λ v. x v rest))
      simulation_goes ending name.Resume stack give x = block_goes stack o _ (λ b y rest. having_goes P (simulation_tells name.Resume y.1) o _ (λ v. x v rest))
      simulation_goes ending name.Suc stack give x = block_goes stack o _ (λ b y rest. having_goes P (simulation_tells name.Suc y.1) o _ (λ v. x v rest))
      simulation_goes ending name.Pred stack give x = block_goes stack o _ (λ b y rest. having_goes P (simulation_tells name.Pred y.1) o _ (λ v. x v rest))
      simulation_goes ending name.Prev stack give x = block_goes stack o _ (λ b y rest. having_goes P (simulation_tells name.Prev y.1) o _ (λ v. x v rest))
      simulation_goes ending name.Out stack give x = block_goes stack o _ (λ b y rest. having_goes P (simulation_tells name.Out y.1) o _ (λ v. x v rest))
      simulation_goes ending name.Follow stack give x = block_goes stack o _ (λ b y rest. having_goes P (simulation_tells name.Follow y.1) o _ (λ v. x v rest))
      simulation_goes ending name.Precede stack give x = block_goes stack o _ (λ b y rest. having_goes P (simulation_tells name.Precede y.1) o _ (λ v. x v rest))
      simulation_goes ending name.Into stack give x = block_goes stack o _ (λ b y rest. having_goes P (simulation_tells name.Into y.1) o _ (λ v. x v rest))
      simulation_goes ending name.First stack give x = block_goes stack o _ (λ b y rest. having_goes P (simulation_tells name.First y.1) o _ (λ v. x v rest))
      simulation_goes ending name.Last stack give x = block_goes stack o _ (λ b y rest. having_goes P (simulation_tells name.Last y.1) o _ (λ v. x v rest))
      simulation_goes ending name.Empty stack give x = block_goes stack o _ (λ b y rest. having_goes P (simulation_tells name.Empty y.1) o _ (λ v. x v rest))
      simulation_goes ending name.Cardinal stack give x = block_goes stack o _ (λ b y rest. having_goes P (simulation_tells name.Cardinal y.1) o _ (λ v. x v rest))
      simulation_goes ending name.Clear stack give x = block_goes stack o _ (λ b y rest. having_goes P (simulation_tells name.Clear y.1) o _ (λ v. x v rest))
      simulation_goes ending name.Idle stack give x = block_goes stack o _ (λ b y rest. having_goes P (simulation_tells name.Idle y.1) o _ (λ v. x v rest))
      simulation_goes ending name.Terminated stack give x = block_goes stack o _ (λ b y rest. having_goes P (simulation_tells name.Terminated y.1) o _ (λ v. x v rest))
      simulation_goes ending name.Evtime stack give x = block_goes stack o _ (λ b y rest. having_goes P (simulation_tells name.Evtime y.1) o _ (λ v. x v rest))
      simulation_goes ending name.Nextev stack give x = block_goes stack o _ (λ b y rest. having_goes P (simulation_tells name.Nextev y.1) o _ (λ v. x v rest))
      simulation_goes ending name.Time stack give x = block_goes stack o _ (λ b y rest. having_goes P (simulation_tells name.Time y.1) o _ (λ v. x v rest))
      simulation_goes ending name.Current stack give x = block_goes stack o _ (λ b y rest. having_goes P (simulation_tells name.Current y.1) o _ (λ v. x v rest))
      simulation_goes ending name.Main stack give x = block_goes stack o _ (λ b y rest. having_goes P (simulation_tells name.Main y.1) o _ (λ v. x v rest))

      operand_goes : (has : Bool) (stack : List V) (f : Option Plain → List V → Run S) → ((v : Option Plain) (rest : List V) → Goes P (f v rest)) → Goes P (pop_operand_if plain link has stack o f)
      unfolding pop_operand_if
      operand_goes false stack f x = x None stack
      operand_goes true stack f x = plain_goes P plain stack o _ (λ v rest. x (Some v) rest)

      pub activation_goes : (again : Bool) (timing : Timing) (stack : List V) → Goes P (performing_activation plain link in_process again timing stack o decide)
      unfolding performing_activation
      activation_goes again timing stack =
          operand_goes (has_operand timing) stack _ (λ operand rest. plain_goes P plain rest o _ (λ v rest. block_goes rest o _ (λ b y rest.
          having_goes P (seen (in_process b) y.1 v) o _ (λ p. having_goes P (placement timing (seen (in_process b) y.1) operand) o _ (λ where_to.
          decides o y (activated (record { process = p; again = again; placement = where_to }) y.1.notices) rest refl)))))

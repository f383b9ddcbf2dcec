-- Who goes on after a scheduling procedure or an activation, as among components.
use Rattle.std.specs.Prelude.{◌≡◌, ℕ, true, List, [], ◌∷◌, Option, Some, Ok, Err}
use Rattle.sim_base.specs.declared.run_error.RunError.{RunError}
use Rattle.sim_base.specs.declared.run_error.RunError.TheVariants.{NoNoticeLeft}
use Rattle.sim_chains.specs.Components.{give_control}
use Rattle.notices.specs.declared.notice.Notice.{Notice}
use Rattle.notices.specs.Scheduling.{is_current}
use Rattle.sim_code.specs.Outcome.{RunFault, Simulation, World}
use Rattle.sim_code.specs.Events.{stopping}
use Rattle.sim_code.specs.Instances.{Memory, system_head}
use Rattle.sim_code.specs.Simulations.{with_simulation}
use Rattle.sim_code.specs.Scheduling.{component_of, deciding}
use Rattle.sim_code.specs.Transfers.{GoesAs, GoesOn, before}

-- the world with other notices of the simulation at a place
abbrev pub noticed : World → (ℕ × Simulation) → List Notice → World
noticed o x notices = with_simulation o x.0 (record x.1 { notices = notices })

module _ {C A : Type 0} where
  -- A procedure that is refused ends the run with its error, and one that leaves no notice with E50. Else the process of the first notice gets
  -- control, as among components; where it is the same process as before nothing moves.
  pub record DecidesAsComponents (owner : A → Option ℕ) (line : ℕ) (o : World) (chain : List A) (m : Memory C A) (x : ℕ × Simulation) : Type 0 where
    pub refused : (e : RunError) → deciding owner line o chain m x (Err e) ≡ stopping (RunFault e line) o
    pub none_left : deciding owner line o chain m x (Ok []) ≡ stopping (RunFault NoNoticeLeft line) o
    pub gives_control : (n : Notice) (rest : List Notice) (process : Option ℕ) → component_of x.1 n.process.0 ≡ Some process
        → GoesAs (noticed o x (n ∷ rest)) line m (give_control owner (system_head m) (is_current n.process.0 x.1.notices) (before chain m) x.1.block process) (deciding owner line o chain m x (Ok (n ∷ rest)))
    pub stays : (n : Notice) (rest : List Notice) → is_current n.process.0 x.1.notices ≡ true → GoesOn (noticed o x (n ∷ rest)) m (before chain m) chain (deciding owner line o chain m x (Ok (n ∷ rest)))

-- Who goes on after a scheduling procedure, among the components.
use Rattle.std.proofs.Common.{◌≡◌, ℕ, Bool, true, false, List, ◌∷◌, Option, Some, refl, sym, subst}
use Rattle.sim_chains.specs.Components.{give_control, give_control_to}
use Rattle.notices.specs.declared.next.Next.TheVariants.{Resume, Stay}
use Rattle.notices.specs.declared.notice.Notice.{Notice}
use Rattle.notices.specs.Scheduling.{is_current}
use Rattle.std.specs.Prelude.{if◌then◌else◌}
use Rattle.sim_code.specs.Outcome.{Run, Simulation, World}
use Rattle.sim_code.specs.Events.{computing, having}
use Rattle.sim_code.specs.Instances.{Memory, State, going_below, system_head}
use Rattle.sim_code.specs.Scheduling.{component_of, deciding, going_to}
use Rattle.sim_code.specs.Deciding.{DecidesAsComponents, noticed}
use Rattle.sim_code.specs.Transfers.{GoesAs, GoesOn, before}
use Rattle.sim_code.proofs.Moves.{goes_as, goes_on}

module _ (C A : Type 0) (owner : A → Option ℕ) (line : ℕ) (o : World) (chain : List A) (m : Memory C A) (x : ℕ × Simulation) where
  module _ (n : Notice) (rest : List Notice) where
    abbrev after : World
    after = noticed o x (n ∷ rest)

    -- where the run goes, by whether the first process is as before
    abbrev leads : Bool → Run (State C A)
    leads as_before = going_to owner line after chain m x.1 (if as_before then Stay else Resume n.process)

    given : (as_before : Bool) (process : Option ℕ) → component_of x.1 n.process.0 ≡ Some process → GoesAs after line m (give_control owner (system_head m) as_before (before chain m) x.1.block process) (leads as_before)
    unfolding having
    given true process is = goes_on C A after m chain m.standings
    given false process is =
        let run : Option (Option ℕ) → Run (State C A) = λ y. having y after (λ y. computing line (give_control_to owner (system_head m) (before chain m) x.1.block y) after (λ c. going_below after c.operating (record m { standings = c.standings }))) in
        let r = give_control_to owner (system_head m) (before chain m) x.1.block process in
        subst (λ y. GoesAs after line m r (run y)) (sym is) (goes_as C A after m line r)

    stays_so : (as_before : Bool) → as_before ≡ true → GoesOn after m (before chain m) chain (leads as_before)
    stays_so true is = goes_on C A after m chain m.standings
    stays_so false is = absurd (cc)

  pub decides : DecidesAsComponents owner line o chain m x
  unfolding deciding computing
  decides = record {
    refused = λ e. refl;
    none_left = refl;
    gives_control = λ n rest process is. given n rest (is_current n.process.0 x.1.notices) process is;
    stays = λ n rest is. stays_so n rest (is_current n.process.0 x.1.notices) is;
  }

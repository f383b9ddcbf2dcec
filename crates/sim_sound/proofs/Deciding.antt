-- Where a scheduling procedure leaves notices, the process of the first one goes on.
use Rattle.std.proofs.Common.{◌≡◌, ℕ, zero, suc, Bool, true, false, List, [], ◌∷◌, length, Option, Some, None, Result, Ok, Err, refl, sym, ap, ◌∙◌, subst}
use Rattle.std.specs.Prelude.{if◌then◌else◌, slice_get}
use Rattle.sim_base.specs.declared.run_error.RunError.{RunError}
use Rattle.sim_chains.specs.Components.{Components, give_control_to}
use Rattle.notices.specs.declared.next.Next.{Next}
use Rattle.notices.specs.declared.next.Next.TheVariants as next
use Rattle.notices.specs.declared.notice.Notice.{Notice}
use Rattle.notices.specs.Scheduling.{is_current, next_of}
use Rattle.sim_scope.specs.Levels.{is_simulation_block}
use Rattle.sim_scope.specs.Source.{Source}
use Rattle.sim_code.specs.Events.{computing, having}
use Rattle.sim_code.specs.Instances.{going_below, live, system_head}
use Rattle.sim_code.specs.Outcome.{Run, Simulation, World}
use Rattle.sim_code.specs.Scheduling.{component_of, deciding, going_to, some_object}
use Rattle.sim_code.specs.Simulations.{with_simulation}
use Rattle.sim_meaning.specs.Pending.{Activation, Configuration, Instances, owner}
use Rattle.sim_sound.specs.Typed.{Typed}
use Rattle.sim_sound.proofs.Ends.{goes_below}
use Rattle.sim_sound.proofs.Evals.{IsFine}
use Rattle.sim_sound.proofs.Later.{All, AllCopies, AnySeat, Later, all_apart, as_it_was, fine_later}
use Rattle.sim_sound.proofs.Lifts.{Goes, computed, had}
use Rattle.sim_sound.proofs.Lists.{same_some}
use Rattle.sim_sound.proofs.Members.{one_outermost}
use Rattle.sim_sound.proofs.Moves.{later_instances, still_copies}
use Rattle.sim_sound.proofs.Ops.{store_with}
use Rattle.sim_sound.proofs.Prefixes.{LevelOf}
use Rattle.sim_sound.proofs.Running.{ChainFine, Headed, Placed, StoreFine, parts}
use Rattle.sim_sound.proofs.Simulated.{EachNotice, NumberFine, Processes, Scheduled, SimulationsFine, SomeNotice}
use Rattle.sim_sound.proofs.Simulating.{each_map, number_still, simulations_changed}
use Rattle.sim_sound.proofs.Values.{Marks, Simulates, Takes, see}
use Rattle.sim_sound.proofs.Transfers.{main_on_again, resume_on}

ok_is : {A : Type 0} {a b : A} → ◌≡◌ {A = Result A RunError} (Ok a) (Ok b) → a ≡ b
ok_is e = cc

no_ok : {A : Type 0} {a : A} {e : RunError} → ◌≡◌ {A = Result A RunError} (Err e) (Ok a) → ⊥
no_ok e = cc

-- An entry x is changed, which was `old`: it is that of the same block, with the same processes. The level k has `simulation` in front.
module _ (s : Source) (ok : Typed s) (o : World) (g : Marks) (long : length g.sights ≡ length o.arrays) (m : Instances) (chain : List Activation) (store : StoreFine s (see g o) m) (placed : Placed m chain) (headed : Headed m chain) (fine : ChainFine s (see g o) m chain (Takes None)) (x : ℕ × Simulation) (old : Simulation) (at : slice_get o.simulations x.0 ≡ Some old) (block : (x.1).block ≡ old.block) (same : (x.1).processes ≡ old.processes) (k : ℕ) (home : Simulates s m old.block k) where
  abbrev With : List Notice → Simulation
  With ns = record x.1 { notices = ns }

  abbrev Then : List Notice → World
  Then ns = with_simulation o x.0 (With ns)

  abbrev Fine : List Notice → Type 0
  Fine ns = EachNotice (NumberFine s m old k) ns

  was : Scheduled s m old
  was = store.simulations.each x.0 old at

  -- a level of the block is that one
  level_same : (u : ℕ) → is_simulation_block s.tables u ≡ true → LevelOf s (was.now).text u → k ≡ u
  level_same u iu level =
      let now : (home.lasts).now ≡ was.now = same_some (live m old.block) (home.lasts).now was.now (home.lasts).lives was.lives in
      one_outermost s (subst (λ z. LevelOf s z.text k) now (home.lasts).level) level (ok.simulations k home.simulates).first (ok.simulations u iu).first

  more : (p j : ℕ) → slice_get old.processes p ≡ Some j → slice_get (x.1).processes p ≡ Some j
  more p j e = ap (λ z. slice_get z p) same ∙ e

  scheduled : (ns : List Notice) → SomeNotice ns → Fine ns → Scheduled s m (With ns)
  scheduled ns some a = record {
    now = was.now;
    lives = ap (live m) block ∙ was.lives;
    stays = was.stays;
    prefixed = was.prefixed;
    simulates = λ u iu level. of_level u (level_same u iu level) (was.simulates u iu level);
  }
    where
      of_level : (u : ℕ) → k ≡ u → Processes s m old u → Processes s m (With ns) u
      of_level u is w = record {
        processes = λ p j e. w.processes p j (ap (λ z. slice_get z p) (sym same) ∙ e);
        some = some;
        notices = each_map (NumberFine s m old k) (NumberFine s m (With ns) u) (λ n f. subst (λ z. NumberFine s m (With ns) z n) is (number_still s m m (λ j c z. z) old (With ns) more k n f)) ns a;
      }

  -- nothing else is changed
  module _ (ns : List Notice) (some : SomeNotice ns) (a : Fine ns) where
    later_then : Later s (see g o) m (see g (Then ns)) m All
    later_then = later_instances s (see g o) (see g (Then ns)) m m refl refl (λ j x e. e) (λ j x lives. record { now = x; lives = lives; grown = as_it_was x }) (λ j a. a) (λ j a. a) (λ j a. a)

    copies : AllCopies (see g o) (see g (Then ns))
    copies = still_copies s (see g o) (see g (Then ns)) m m refl refl (λ j x e. e) (λ j x lives. record { now = x; lives = lives; grown = as_it_was x })

    simulations : SimulationsFine s (Then ns).simulations m
    simulations = simulations_changed s o.simulations x.0 old (With ns) at block more m store.simulations (scheduled ns some a)

    store_then : StoreFine s (see g (Then ns)) m
    store_then = store_with s (see g o) (see g (Then ns)) m later_then refl refl copies store.elements store.members simulations store

    fine_then : ChainFine s (see g (Then ns)) m chain (Takes None)
    fine_then = fine_later s (see g o) m (see g (Then ns)) m All later_then AnySeat (λ q j d k ok. copies q j d) (λ j q. (refl, refl)) chain (all_apart None chain) (all_apart None chain) (Takes None) fine

    abbrev After : Components Activation → Run Configuration
    After d = going_below (Then ns) d.operating (record m { standings = d.standings })

    -- the main component, or the object of a process
    gives_control : (line : ℕ) (y : Option ℕ) → Goes (IsFine s) (computing line (give_control_to owner (system_head m) (parts m chain) (x.1).block y) (Then ns) After)
    gives_control line None = computed (IsFine s) line (give_control_to owner (system_head m) (parts m chain) (x.1).block None) (Then ns) After (λ d e. main_on_again s ok (Then ns) g long m chain store_then placed headed fine_then (x.1).block d e)
    gives_control line (Some j) = computed (IsFine s) line (give_control_to owner (system_head m) (parts m chain) (x.1).block (Some j)) (Then ns) After (λ d e. resume_on s ok (Then ns) g long m chain store_then placed headed fine_then (Some j) d e)

    going : (line n : ℕ) → NumberFine s m old k n → Goes (IsFine s) (having (component_of x.1 n) (Then ns) (λ y. computing line (give_control_to owner (system_head m) (parts m chain) (x.1).block y) (Then ns) After))
    going line zero f = had (IsFine s) (Some None) None (Then ns) (λ y. computing line (give_control_to owner (system_head m) (parts m chain) (x.1).block y) (Then ns) After) refl (gives_control line None)
    going line (suc n) f =
        had (IsFine s) (component_of x.1 (suc n)) (Some f.0) (Then ns) (λ y. computing line (give_control_to owner (system_head m) (parts m chain) (x.1).block y) (Then ns) After) (ap some_object (more n f.0 f.1)) (gives_control line (Some f.0))

    goes_to : (line : ℕ) (y : Next) → ((p : _) → y ≡ next.Resume p → NumberFine s m old k p.0) → Goes (IsFine s) (going_to owner line (Then ns) chain m x.1 y)
    goes_to line next.Stay f = goes_below s (Then ns) g long chain m (record { store = store_then; placed = placed; fine = fine_then }) headed
    goes_to line (next.Resume p) f = going line p.0 (f p refl)

  decided_on : (line : ℕ) (ns : List Notice) → Fine ns → Goes (IsFine s) (computing line (next_of (x.1).notices ns) o (λ y. going_to owner line (Then ns) chain m x.1 y))
  decided_on line [] a = computed (IsFine s) line (next_of (x.1).notices []) o (λ y. going_to owner line (Then []) chain m x.1 y) (λ y e. absurd (no_ok e))
  decided_on line (n ∷ ns) a =
      computed (IsFine s) line (next_of (x.1).notices (n ∷ ns)) o (λ y. going_to owner line (Then (n ∷ ns)) chain m x.1 y) (λ y e.
      goes_to (n ∷ ns) tt a line y (λ p f. by_test (is_current n.process.0 (x.1).notices) p (ok_is e ∙ f)))
    where
      by_test : (b : Bool) (p : _) → (if b then next.Stay else next.Resume n.process) ≡ next.Resume p → NumberFine s m old k p.0
      by_test true p e = absurd (cc)
      by_test false p e = let q : n.process ≡ p = cc in subst (λ z. NumberFine s m old k z.0) q a.0

  -- what a procedure leaves decides, or the procedure is refused
  pub decides : (line : ℕ) (r : Result (List Notice) RunError) → ((ns : List Notice) → r ≡ Ok ns → Fine ns) → Goes (IsFine s) (deciding owner line o chain m x r)
  unfolding deciding
  decides line r leaves =
      computed (IsFine s) line r o (λ ns. computing line (next_of (x.1).notices ns) o (λ y. going_to owner line (Then ns) chain m x.1 y)) (λ ns e. decided_on line ns (leaves ns e))

-- The rows of the names of simulation blocks.
use Rattle.std.proofs.Common.{◌≡◌, ℕ, List, [], ◌∷◌, sym, subst, refl}
use Rattle.std.specs.Prelude.{true, ℤ, Ok, Option, Some, None}
use Rattle.notices.specs.Scheduling.{cancelled, held, passivated}
use Rattle.sim_values.specs.declared.standard.Standard.{Standard}
use Rattle.sim_values.specs.declared.standard.Standard.TheVariants as name
use Rattle.sim_values.specs.Plain.{Plain}
use Rattle.sim_code.specs.Classes.{in_process}
use Rattle.sim_code.specs.Code.{CodeOf}
use Rattle.sim_code.specs.Events.{having, integer_in, no_rule, pop_plain, popping}
use Rattle.sim_code.specs.Machine.{Activation, Address, ArrayValue, Frames, Link, Machine, Of, ProcedureValue, ThunkValue, Value, link_in, on, plain}
use Rattle.sim_code.specs.Levels.{ending_process}
use Rattle.sim_code.specs.Outcome.{Run, Simulation, World}
use Rattle.sim_code.specs.Rows.{decided}
use Rattle.sim_code.specs.Scheduling.{performing_simulation, pop_block, waiting_in}
use Rattle.sim_code.specs.Sets.{linkage_named, pop_given, set_effect}
use Rattle.sim_code.specs.Simulations.{current_process, named_in, seen, simulation_tells, with_end}
use Rattle.frame_arena.specs.Slots.{integer_of}
use Rattle.object_machine.specs.Rescheduling.{simulation_row, telling_row}
use Rattle.object_machine.specs.Telling.{bound}
use Rattle.object_machine.proofs.SetRows.{Effected}

module _ (code : CodeOf) (line : ℕ) (o : World) (m : Frames) (a : Activation) (b : List Activation) where
  -- ---- hold

  abbrev pub Hold_so : ℤ → ℕ → (ℕ × Simulation) → List Value → Run Machine
  Hold_so t k x rest = decided o m a b line o x (held t x.1.notices) rest

  abbrev pub Hold_by : Value → List Value → Run Machine
  Hold_by v rest = having (integer_of v) o (λ t. pop_block plain link_in rest o (Hold_so t))

  hold_value : (v : Value) (rest : List Value) → having (plain v) o (λ p. having (integer_in p) o (λ t. pop_block plain link_in rest o (Hold_so t))) ≡ Hold_by v rest
  unfolding having
  hold_value (Of p) rest = refl
  hold_value (Link j) rest = refl
  hold_value (Address p) rest = refl
  hold_value (ArrayValue n) rest = refl
  hold_value (ProcedureValue k j) rest = refl
  hold_value (ThunkValue k j) rest = refl

  hold_on : (stack : List Value) → popping stack o (λ v rest. having (plain v) o (λ p. having (integer_in p) o (λ t. pop_block plain link_in rest o (Hold_so t)))) ≡ popping stack o Hold_by
  unfolding popping
  hold_on [] = refl
  hold_on (v ∷ rest) = hold_value v rest

  pub hold_row : simulation_row code line name.Hold o m a b ≡ popping a.stack o Hold_by
  unfolding performing_simulation pop_plain
  hold_row = hold_on a.stack

  -- ---- passivate

  abbrev pub Passivate_so : ℕ → (ℕ × Simulation) → List Value → Run Machine
  Passivate_so k x rest = decided o m a b line o (x.0, with_end (ending_process code m a) x.1) (Ok (passivated x.1.notices)) rest

  pub passivate_row : simulation_row code line name.Passivate o m a b ≡ pop_block plain link_in a.stack o Passivate_so
  unfolding performing_simulation
  passivate_row = refl

  -- ---- cancel

  abbrev pub Cancel_so : Plain → ℕ → (ℕ × Simulation) → List Value → Run Machine
  Cancel_so v k x rest = having (seen (in_process code m k) x.1 v) o (λ p. decided o m a b line o x (cancelled p x.1.notices) rest)

  abbrev pub Cancel_by : Value → List Value → Run Machine
  Cancel_by v rest = having (plain v) o (λ p. pop_block plain link_in rest o (Cancel_so p))

  pub cancel_row : simulation_row code line name.Cancel o m a b ≡ popping a.stack o Cancel_by
  unfolding performing_simulation pop_plain
  cancel_row = refl

  -- ---- wait

  abbrev pub Wait_so : (given : Option ℕ) → ℕ → (ℕ × Simulation) → List Value → Run Machine
  Wait_so h k x rest = waiting_in plain link_in h o x.1 (λ w. decided o m a b line w x (Ok (passivated x.1.notices)) rest)

  abbrev pub Wait_by : (given : Option ℕ) → List Value → Run Machine
  Wait_by h rest = pop_block plain link_in rest o (Wait_so h)

  pub wait_row : simulation_row code line name.Wait o m a b ≡ pop_given plain true a.stack o Wait_by
  unfolding performing_simulation pop_given
  wait_row = refl

  -- the current process, and what becomes of its linkage
  abbrev pub Enter_set : (given : Option ℕ) → (ℕ × Simulation) → List Value → ℕ → Run Machine
  Enter_set h x rest y = Effected (named_in o.simulations) o (λ w v. decided o m a b line w x (Ok (passivated x.1.notices)) rest) (set_effect name.Into (named_in o.simulations) o.members y h)

  waits_by : (q : Option Plain) (h : Option ℕ) (x : ℕ × Simulation) (rest : List Value) → having q o (λ p. having (linkage_named o.members p) o (λ y. Enter_set h x rest y)) ≡ having (bound q (λ p. linkage_named o.members p)) o (Enter_set h x rest)
  unfolding having
  waits_by None h x rest = refl
  waits_by (Some p) h x rest = refl

  pub waits_so : (h : Option ℕ) (k : ℕ) (x : ℕ × Simulation) (rest : List Value) → Wait_so h k x rest ≡ having (bound (current_process x.1) (λ p. linkage_named o.members p)) o (Enter_set h x rest)
  waits_so h k x rest = waits_by (current_process x.1) h x rest

-- ---- where the block is found below a value

module _ (o : World) (v : Option Plain) (rest : List Value) (go : Plain → ℕ → (ℕ × Simulation) → List Value → Run Machine) where
  abbrev pub Below : Run Machine
  Below = having v o (λ p. pop_block plain link_in rest o (go p))

  below_missing : (w : Option Plain) → ((go : ℕ → (ℕ × Simulation) → List Value → Run Machine) → pop_block plain link_in rest o go ≡ no_rule o) → having w o (λ p. pop_block plain link_in rest o (go p)) ≡ no_rule o
  unfolding having
  below_missing None h = refl
  below_missing (Some p) h = h (go p)

  pub block_below_missing : ((go : ℕ → (ℕ × Simulation) → List Value → Run Machine) → pop_block plain link_in rest o go ≡ no_rule o) → Below ≡ no_rule o
  block_below_missing h = below_missing v h

  below_taken : (w : Option Plain) (k : ℕ) (x : ℕ × Simulation) (under : List Value) → ((go : ℕ → (ℕ × Simulation) → List Value → Run Machine) → pop_block plain link_in rest o go ≡ go k x under) →
      having w o (λ p. pop_block plain link_in rest o (go p)) ≡ having w o (λ p. go p k x under)
  unfolding having
  below_taken None k x under h = refl
  below_taken (Some p) k x under h = h (go p)

  pub block_below : (k : ℕ) (x : ℕ × Simulation) (under : List Value) → ((go : ℕ → (ℕ × Simulation) → List Value → Run Machine) → pop_block plain link_in rest o go ≡ go k x under) → Below ≡ having v o (λ p. go p k x under)
  block_below k x under h = below_taken v k x under h

-- one thing behind the other, as a row finds both
pub having_both : {A : Type 0} (v : Option Plain) (f : Plain → Option A) (o : World) (go : A → Run Machine) → having v o (λ p. having (f p) o go) ≡ having (bound v f) o go
unfolding having
having_both None f o go = refl
having_both (Some p) f o go = refl

-- ---- what a block tells

abbrev pub Tell_so : World → Frames → Activation → List Activation → Standard → ℕ → (ℕ × Simulation) → List Value → Run Machine
Tell_so o m a b name k x rest = having (simulation_tells name x.1) o (λ v. on o m a (Of v ∷ rest) b)

pub tells_time : (code : CodeOf) (line : ℕ) (n : Standard) (o : World) (m : Frames) (a : Activation) (b : List Activation) → n ≡ name.Time → simulation_row code line n o m a b ≡ telling_row n o m a b
unfolding performing_simulation
tells_time code line n o m a b e = subst (λ n. simulation_row code line n o m a b ≡ telling_row n o m a b) (sym e) refl

pub tells_current : (code : CodeOf) (line : ℕ) (n : Standard) (o : World) (m : Frames) (a : Activation) (b : List Activation) → n ≡ name.Current → simulation_row code line n o m a b ≡ telling_row n o m a b
unfolding performing_simulation
tells_current code line n o m a b e = subst (λ n. simulation_row code line n o m a b ≡ telling_row n o m a b) (sym e) refl

pub tells_main : (code : CodeOf) (line : ℕ) (n : Standard) (o : World) (m : Frames) (a : Activation) (b : List Activation) → n ≡ name.Main → simulation_row code line n o m a b ≡ telling_row n o m a b
unfolding performing_simulation
tells_main code line n o m a b e = subst (λ n. simulation_row code line n o m a b ≡ telling_row n o m a b) (sym e) refl

-- The row of activations.
use Rattle.std.proofs.Common.{◌≡◌, ℕ, ◌+◌, ◌≤◌, List, [], ◌∷◌, sym, subst, refl, ap, ◌∙◌, arith}
use Rattle.std.specs.Option.{ForSome, option_map}
use Rattle.std.specs.Prelude.{ℤ, Bool, true, false, Option, Some, None, Err}
use Rattle.notices.specs.declared.activation.Placement.{Placement}
use Rattle.notices.specs.declared.activation.ProcessRef.{ProcessRef}
use Rattle.notices.specs.declared.activation.ProcessRef.TheVariants.{NoProcess, OfAnother, OfThis}
use Rattle.notices.specs.Scheduling.{HasRoom, activated}
use Rattle.sim_values.specs.Plain.{Plain}
use Rattle.sim_code.specs.Classes.{in_process}
use Rattle.sim_code.specs.Code.{CodeOf}
use Rattle.sim_code.specs.Events.{having, no_rule, pop_plain, popping}
use Rattle.sim_code.specs.Machine.{Activation, Frames, Machine, Value, link_in, plain}
use Rattle.sim_code.specs.Outcome.{Run, Simulation, World}
use Rattle.sim_code.specs.Rows.{activation_of, decided}
use Rattle.sim_code.specs.Scheduling.{beside, has_operand, performing_activation, placement, pop_block, pop_operand_if}
use Rattle.sim_code.specs.Simulations.{seen}
use Rattle.standard_calls.specs.declared.came.Missing.{Missing}
use Rattle.standard_calls.specs.declared.came.Missing.TheVariants as missing
use Rattle.frame_arena.specs.declared.slot.Slot.{Slot}
use Rattle.object_machine.specs.declared.activations.Form.{Form}
use Rattle.object_machine.specs.declared.activations.When.{When}
use Rattle.object_machine.specs.declared.activations.When.TheVariants as when
use Rattle.object_machine.specs.declared.simulated.Simulated.{Simulated}
use Rattle.object_machine.specs.Activating.{Decide, Places, TakesActivation, activation_row, form_as, operand_in, timing_as}
use Rattle.object_machine.specs.Telling.{IsOneOf, Sees, bound}
use Rattle.object_machine.proofs.Having.{having_none, having_some}

-- ---- what may be missing

module _ {A : Type 0} (o : World) where
  -- where all that follows has no rule, and where all of it is the same
  pub having_nowhere : (q : Option A) (f : A → Run Machine) → ((a : A) → f a ≡ no_rule o) → having q o f ≡ no_rule o
  unfolding having
  having_nowhere None f h = refl
  having_nowhere (Some a) f h = h a

  pub having_each : (q : Option A) (f g : A → Run Machine) → ((a : A) → f a ≡ g a) → having q o f ≡ having q o g
  unfolding having
  having_each None f g h = refl
  having_each (Some a) f g h = h a

pub having_bound : {A B : Type 0} (o : World) (q : Option A) (f : A → Option B) (go : B → Run Machine) → having q o (λ a. having (f a) o go) ≡ having (bound q f) o go
unfolding having
having_bound o None f go = refl
having_bound o (Some a) f go = refl

-- ---- the operand

module _ (o : World) (go : Option Plain → List Value → Run Machine) where
  abbrev pub Popped : When → Value → List Value → Run Machine
  Popped t v rest = having (operand_in t v) o (λ w. go w rest)

  some_popped : (q : Option Plain) (rest : List Value) → having q o (λ p. go (Some p) rest) ≡ having (option_map (λ p. Some p) q) o (λ w. go w rest)
  unfolding having
  some_popped None rest = refl
  some_popped (Some p) rest = refl

  all_popped : (stack : List Value) → pop_operand_if plain link_in true stack o go ≡ popping stack o (λ v rest. having (option_map (λ p. Some p) (plain v)) o (λ w. go w rest))
  unfolding pop_operand_if pop_plain popping
  all_popped [] = refl
  all_popped (v ∷ rest) = some_popped (plain v) rest

  pub operand_popped : (t : When) (stack : List Value) → (t ≡ when.Directly → ⊥) → pop_operand_if plain link_in (has_operand (timing_as t)) stack o go ≡ popping stack o (Popped t)
  operand_popped when.Directly stack h = absurd (h refl)
  operand_popped (when.AtTime prior) stack h = all_popped stack
  operand_popped (when.WithDelay prior) stack h = all_popped stack
  operand_popped (when.Beside before) stack h = all_popped stack

  pub operand_absent : (t : When) (v : Value) (stack : List Value) → t ≡ when.Directly → pop_operand_if plain link_in (has_operand (timing_as t)) stack o go ≡ Popped t v stack
  unfolding pop_operand_if having
  operand_absent t v stack e = subst (λ t. pop_operand_if plain link_in (has_operand (timing_as t)) stack o go ≡ Popped t v stack) (sym e) refl

-- ---- the place of a notice

module _ (sees : Plain → Option (Option ProcessRef)) (v : Value) where
  abbrev pub Placed : When → Option Placement
  Placed t = bound (operand_in t v) (λ w. placement (timing_as t) sees w)

  beside_by : (before : Bool) (q : Option Plain) → bound (option_map (λ p. Some p) q) (λ w. placement (timing_as (when.Beside before)) sees w) ≡ beside before (bound q sees)
  beside_by true None = refl
  beside_by false None = refl
  beside_by true (Some p) = refl
  beside_by false (Some p) = refl

  pub placed_beside : (t : When) (before : Bool) → t ≡ when.Beside before → Placed t ≡ beside before (bound (plain v) sees)
  placed_beside t before e = ap (λ t. Placed t) e ∙ beside_by before (plain v)

  pub placed_nowhere : (t : When) (before : Bool) (k : Missing) → t ≡ when.Beside before → Sees (Err k) (bound (plain v) sees) → Places (Err k) (Placed t)
  placed_nowhere t before missing.NoRule e h = placed_beside t before e ∙ ap (λ q. beside before q) h ∙ none before
    where
      none : (before : Bool) → beside before None ≡ None
      none true = refl
      none false = refl
  placed_nowhere t before missing.Memory e h = tt

-- ---- the row

module _ (code_sees : ℕ → Simulation → Plain → Option (Option ProcessRef)) (again : Bool) (t : When) (o : World) (decide : Decide) where
  abbrev pub Done : (ℕ × Simulation) → List Value → Option ProcessRef → Placement → Run Machine
  Done x rest p where_to = decide o x (activated (record { process = p; again = again; placement = where_to }) x.1.notices) rest

  abbrev pub At_block : Option Plain → Plain → ℕ → (ℕ × Simulation) → List Value → Run Machine
  At_block w v b x rest = having (code_sees b x.1 v) o (λ p. having (placement (timing_as t) (code_sees b x.1) w) o (Done x rest p))

  abbrev pub At_process : Option Plain → Value → List Value → Run Machine
  At_process w v rest = having (plain v) o (λ p. pop_block plain link_in rest o (At_block w p))

  abbrev pub Behind : Option Plain → List Value → Run Machine
  Behind w rest = pop_plain plain rest o (λ v rest. pop_block plain link_in rest o (At_block w v))

  pub process_popped : (w : Option Plain) (stack : List Value) → Behind w stack ≡ popping stack o (At_process w)
  unfolding pop_plain
  process_popped w stack = refl

  -- the process and the block are there
  module _ (q : Option (Option Plain)) (v : Option Plain) (b : ℕ) (x : ℕ × Simulation) (rest : List Value) where
    abbrev pub There : Run Machine
    There = having q o (λ w. having v o (λ p. At_block w p b x rest))

    seen_so : (z : Option ProcessRef) → bound v (code_sees b x.1) ≡ Some z → There ≡ having (bound q (λ w. placement (timing_as t) (code_sees b x.1) w)) o (Done x rest z)
    seen_so z e =
        having_each o q (λ w. having v o (λ p. At_block w p b x rest)) (λ w. having (placement (timing_as t) (code_sees b x.1) w) o (Done x rest z)) (λ w.
        having_bound o v (code_sees b x.1) (λ p. having (placement (timing_as t) (code_sees b x.1) w) o (Done x rest p))
        ∙ having_some (bound v (code_sees b x.1)) z o (λ p. having (placement (timing_as t) (code_sees b x.1) w) o (Done x rest p)) (sym e))
        ∙ having_bound o q (λ w. placement (timing_as t) (code_sees b x.1) w) (Done x rest z)

    pub unseen : bound v (code_sees b x.1) ≡ None → There ≡ no_rule o
    unseen e = having_nowhere o q (λ w. having v o (λ p. At_block w p b x rest)) (λ w.
        having_bound o v (code_sees b x.1) (λ p. having (placement (timing_as t) (code_sees b x.1) w) o (Done x rest p))
        ∙ having_none (bound v (code_sees b x.1)) o (λ p. having (placement (timing_as t) (code_sees b x.1) w) o (Done x rest p)) (sym e))

    pub unplaced : (z : Option ProcessRef) → bound v (code_sees b x.1) ≡ Some z → bound q (λ w. placement (timing_as t) (code_sees b x.1) w) ≡ None → There ≡ no_rule o
    unplaced z e h = seen_so z e ∙ having_none (bound q (λ w. placement (timing_as t) (code_sees b x.1) w)) o (Done x rest z) (sym h)

    pub done_so : (z : Option ProcessRef) (where_to : Placement) → bound v (code_sees b x.1) ≡ Some z → bound q (λ w. placement (timing_as t) (code_sees b x.1) w) ≡ Some where_to → There ≡ Done x rest z where_to
    done_so z where_to e h = seen_so z e ∙ having_some (bound q (λ w. placement (timing_as t) (code_sees b x.1) w)) where_to o (Done x rest z) (sym h)

-- what is found where something is missing
pub takes_missing : (k : Missing) (blocks : List Simulated) (f : Form) (code : CodeOf) (m : Frames) (o : World) (depth : ℕ) (stack : List Slot) → (k ≡ missing.NoRule → TakesActivation (Err missing.NoRule) blocks f code m o depth stack) → TakesActivation (Err k) blocks f code m o depth stack
takes_missing missing.NoRule blocks f code m o depth stack h = h refl
takes_missing missing.Memory blocks f code m o depth stack h = tt

pub acting_row : (code : CodeOf) (m : Frames) (again : Bool) (t : When) (stack : List Value) (o : World) (decide : Decide) →
    performing_activation plain link_in (in_process code m) again (timing_as t) stack o decide ≡ pop_operand_if plain link_in (has_operand (timing_as t)) stack o (Behind (λ b x p. seen (in_process code m b) x p) again t o decide)
unfolding performing_activation
acting_row code m again t stack o decide = refl

-- the form that the operand of the instruction tells
module _ (code : CodeOf) (line : ℕ) (z : ℤ) (o : World) (m : Frames) (a : Activation) (b : List Activation) where
  pub row_formless : activation_of z ≡ None → activation_row code line z o m a b ≡ no_rule o
  row_formless e = having_none (activation_of z) o (λ f. performing_activation plain link_in (in_process code m) f.0 f.1 a.stack o (decided o m a b line)) (sym e)

  pub row_formed : (f : Form) → activation_of z ≡ Some (form_as f) → activation_row code line z o m a b ≡ performing_activation plain link_in (in_process code m) f.again (timing_as f.timing) a.stack o (decided o m a b line)
  row_formed f e = having_some (activation_of z) (form_as f) o (λ f. performing_activation plain link_in (in_process code m) f.0 f.1 a.stack o (decided o m a b line)) (sym e)

-- ---- room

pub in_room : (count room : ℕ) (p : Option ProcessRef) → count + 1 ≤ room → ForSome p (IsOneOf count) → ForSome p (HasRoom room)
in_room count room p h all x e = by x (all x e)
  where
    by : (x : ProcessRef) → IsOneOf count x → HasRoom room x
    by (OfThis n ended) within = omega (arith, within, h)
    by NoProcess within = tt
    by OfAnother within = tt

-- Processes, simulation blocks and activations: both sides see the same references, do the same with the event notices, and give control to the same
-- process.
use Rattle.std.proofs.Common.{◌≡◌, ℕ, ℤ, Bool, true, false, List, ◌∷◌, Option, Some, None, refl, sym, ap, subst}
use Rattle.std.specs.Prelude.{⊤, Result, Ok}
use Rattle.sim_base.specs.declared.run_error.RunError.{RunError}
use Rattle.notices.specs.declared.activation.Placement.{Placement}
use Rattle.notices.specs.declared.activation.ProcessRef.{ProcessRef}
use Rattle.notices.specs.declared.notice.Notice.{Notice}
use Rattle.notices.specs.Scheduling.{activated, cancelled, held, passivated}
use Rattle.sim_scope.specs.Source.{Source}
use Rattle.sim_values.specs.declared.standard.Standard.{Standard}
use Rattle.sim_values.specs.declared.standard.Standard.TheVariants as name
use Rattle.sim_values.specs.Plain.{Character, Integer, MainOf, Nothing, Object, Plain, Text, Truth}
use Rattle.sim_values.specs.Standard.{row_of}
use Rattle.sim_code.specs.Classes as classes
use Rattle.sim_code.specs.Code.{CodeOf}
use Rattle.sim_code.specs.Events.{having, integer_in, pop_plain, popping}
use Rattle.sim_code.specs.Instances.{Instance, live}
use Rattle.sim_code.specs.Machine.{Frames, Machine, Value, link_in}
use Rattle.sim_code.specs.Machine as machine
use Rattle.sim_code.specs.Outcome.{Run, Simulation, World}
use Rattle.sim_code.specs.Scheduling.{AtTime, Beside, Directly, Timing, WithDelay, beside, has_operand, performing_activation, performing_simulation, placement, pop_block, pop_operand_if, waiting_in}
use Rattle.sim_code.specs.Sets.{SetEffect, linkage_given, linkage_named, set_effect}
use Rattle.sim_code.specs.Simulations.{actual_count, current_process, is_simulation_name, located, named_if, named_in, seen, simulation_tells}
use Rattle.sim_code.proofs.Lifts.{alike_equal, alike_same, alike_unruled}
use Rattle.sim_code.proofs.Simulation.{Alike}
use Rattle.sim_meaning.specs.Levels.{in_process}
use Rattle.sim_meaning.specs.Pending.{Configuration, Held, Instances, Of, Val, instance_in}
use Rattle.sim_meaning.specs.Pending as meaning
use Rattle.sim_meaning.specs.Sane.{AllName, Names}
use Rattle.sim_meaning.specs.Statements.{has_value}
use Rattle.codegen.specs.Compiled.{Compiled}
use Rattle.sim_relate.proofs.Known.{actual_at, Any, HandAt, Kind, LinkOf, StackAt, ValAt, anys, array_at, element_at, image_at, link_at, more_at, plain_at, procedure_at}
use Rattle.sim_relate.proofs.ObjectsHere.{in_process_same}
use Rattle.sim_relate.proofs.Operations.{operands_of, operands_with}
use Rattle.sim_relate.proofs.Relation.{StateAt, StoreAt}

-- the operand of an activation is on top, if there is one
abbrev with_operand : Bool → List Kind → List Kind
with_operand false ks = ks
with_operand true ks = Any ∷ ks

operand_first : (c : Bool) (ks : List Kind) → anys (operands_with c) ks ≡ with_operand c (Any ∷ ks)
operand_first false ks = refl
operand_first true ks = refl

module _ (s : Source) (code : CodeOf) (coding : Compiled s code) (m : Instances) (fs : Frames) (store : StoreAt s code m fs) where
  abbrev R : Configuration → Machine → Type 0
  R = StateAt s code

  -- values in hand, whose references name something
  abbrev Named : List Kind → List Val → List Value → Type 0
  Named ks vals stack = StackAt (HandAt s code m) ks vals stack × AllName s m vals

  abbrev Hand : List Kind → List Val → List Value → Type 0
  Hand ks vals stack = StackAt (HandAt s code m) ks vals stack

  -- a value on top
  value_on : (v : Val) (x : Value) (o : World) (r : Plain → Run Configuration) (q : Plain → Run Machine) → ValAt s code m v x → Names s m v → ((p : Plain) → Names s m (Of p) → Alike R (r p) (q p)) → Alike R (having (meaning.plain v) o r) (having (machine.plain x) o q)
  unfolding having
  value_on _ _ o r q (plain_at {p}) n f = f p n
  value_on _ _ o r q link_at n f = alike_unruled Configuration Machine R o _
  value_on _ _ o r q array_at n f = alike_unruled Configuration Machine R o _
  value_on _ _ o r q element_at n f = alike_unruled Configuration Machine R o _
  value_on _ _ o r q image_at n f = alike_unruled Configuration Machine R o _
  value_on _ _ o r q (actual_at h) n f = alike_unruled Configuration Machine R o _
  value_on _ _ o r q (procedure_at h) n f = alike_unruled Configuration Machine R o _

  pops_plain : (left : List Kind) (vals : List Val) (stack : List Value) (o : World) (r : Plain → List Val → Run Configuration) (q : Plain → List Value → Run Machine) → Named (Any ∷ left) vals stack → ((p : Plain) (vals' : List Val) (stack' : List Value) → Names s m (Of p) → Named left vals' stack' → Alike R (r p vals') (q p stack')) → Alike R (pop_plain meaning.plain vals o r) (pop_plain machine.plain stack o q)
  unfolding pop_plain popping
  pops_plain left _ _ o r q (more_at {v = v} {vals = vals} {x = x} {stack = stack} h hs, n) f = value_on v x o (λ p. r p vals) (λ p. q p stack) h n.0 (λ p np. f p vals stack np (hs, n.1))

  -- the block to which the link leads
  block_on : (v : Val) (x : Value) (b : ℕ) (o : World) (r : ℕ → (ℕ × Simulation) → Run Configuration) (q : ℕ → (ℕ × Simulation) → Run Machine) → v ≡ meaning.Link b → x ≡ machine.Link b → ((y : ℕ × Simulation) → Alike R (r b y) (q b y))
      → Alike R (having (instance_in v) o (λ b. having (located o.simulations b) o (λ y. r b y))) (having (link_in x) o (λ b. having (located o.simulations b) o (λ y. q b y)))
  unfolding having
  block_on v x b o r q ev ex f =
      subst (λ v. Alike R (having (instance_in v) o (λ b. having (located o.simulations b) o (λ y. r b y))) (having (link_in x) o (λ b. having (located o.simulations b) o (λ y. q b y)))) (sym ev)
      (subst (λ x. Alike R (having (instance_in (meaning.Link b)) o (λ b. having (located o.simulations b) o (λ y. r b y))) (having (link_in x) o (λ b. having (located o.simulations b) o (λ y. q b y)))) (sym ex)
      (alike_same Configuration Machine R (ℕ × Simulation) (located o.simulations b) o (r b) (q b) f))

  pops_block : (b : ℕ) (left : List Kind) (vals : List Val) (stack : List Value) (o : World) (r : ℕ → (ℕ × Simulation) → List Val → Run Configuration) (q : ℕ → (ℕ × Simulation) → List Value → Run Machine) → Named (LinkOf b ∷ left) vals stack → ((y : ℕ × Simulation) (vals' : List Val) (stack' : List Value) → Hand left vals' stack' → Alike R (r b y vals') (q b y stack'))
      → Alike R (pop_block meaning.plain instance_in vals o r) (pop_block machine.plain link_in stack o q)
  unfolding pop_block popping
  pops_block b left _ _ o r q (more_at {v = v} {vals = vals} {x = x} {stack = stack} h hs, n) f = block_on v x b o (λ b y. r b y vals) (λ b y. q b y stack) h.0 h.1 (λ y. f y vals stack hs)

  -- ---- references, as a block sees them

  module _ (b : ℕ) (x : Instance (List Held)) (lives : live m b ≡ Some x) where
    sees_same : (y : Simulation) (p : Plain) → Names s m (Of p) → seen (in_process s m b) y p ≡ seen (classes.in_process code fs b) y p
    sees_same y (Object j) n = ap (λ z. named_if z y (Object j)) (sym (in_process_same s code coding m fs store b x lives (Object j) n tt))
    sees_same y (MainOf a) n = ap (λ z. named_if z y (MainOf a)) (sym (in_process_same s code coding m fs store b x lives (MainOf a) n tt))
    sees_same y Nothing n = refl
    sees_same y (Integer z) n = refl
    sees_same y (Truth z) n = refl
    sees_same y (Character z) n = refl
    sees_same y (Text z) n = refl

    -- where a notice is to be put
    abbrev OperandNames : Option Plain → Type 0
    OperandNames None = ⊤
    OperandNames (Some p) = Names s m (Of p)

    places_same : (t : Timing) (y : Simulation) (p : Option Plain) → OperandNames p → placement t (seen (in_process s m b) y) p ≡ placement t (seen (classes.in_process code fs b) y) p
    places_same Directly y p n = refl
    places_same (AtTime prior) y p n = refl
    places_same (WithDelay prior) y p n = refl
    places_same (Beside before) y None n = refl
    places_same (Beside before) y (Some p) n = ap (beside before) (sees_same y p n)

    -- ---- procedures of the block

    waits_in : (h : Option ℕ) (o : World) (y : Simulation) (r : World → Run Configuration) (q : World → Run Machine) → ((p : World) → Alike R (r p) (q p)) → Alike R (waiting_in meaning.plain instance_in h o y r) (waiting_in machine.plain link_in h o y q)
    waits_in h o y r q f =
        alike_same Configuration Machine R Plain (current_process y) o _ _ (λ p.
        alike_same Configuration Machine R ℕ (linkage_named o.members p) o _ _ (λ z.
        alike_same Configuration Machine R SetEffect (set_effect name.Into (named_in o.simulations) o.members z h) o _ _ (λ e. f (record o { members = e.members }))))

    module _ (left : List Kind) (give : Plain → List Val → Run Configuration) (give' : Plain → List Value → Run Machine) (decide : World → (ℕ × Simulation) → Result (List Notice) RunError → List Val → Run Configuration) (decide' : World → (ℕ × Simulation) → Result (List Notice) RunError → List Value → Run Machine) where
      -- what is left when a value is given, and when the notices decide
      abbrev Gives : Type 0
      Gives = (p : Plain) (vals' : List Val) (stack' : List Value) → Hand left vals' stack' → Alike R (give p vals') (give' p stack')

      abbrev Decides : Type 0
      Decides = (o : World) (y : ℕ × Simulation) (r : Result (List Notice) RunError) (vals' : List Val) (stack' : List Value) → Hand left vals' stack' → Alike R (decide o y r vals') (decide' o y r stack')

      abbrev Simulates : (name : Standard) (vals : List Val) (stack : List Value) (o : World) → Type 0
      Simulates n vals stack o = Alike R (performing_simulation meaning.plain instance_in (in_process s m) None n vals o give decide) (performing_simulation machine.plain link_in (classes.in_process code fs) None n stack o give' decide')

      abbrev Does : Standard → Type 0
      Does n = (has_value (row_of n).result ≡ true → Gives) → (has_value (row_of n).result ≡ false → Decides) → (vals : List Val) (stack : List Value) (o : World) → Named (anys (actual_count n) (LinkOf b ∷ left)) vals stack → Simulates n vals stack o

      hold : Does name.Hold
      unfolding performing_simulation row_of
      hold g d vals stack o h =
          pops_plain (LinkOf b ∷ left) vals stack o _ _ h (λ v vals1 stack1 n h1.
          alike_same Configuration Machine R ℤ (integer_in v) o _ _ (λ t.
          pops_block b left vals1 stack1 o _ _ h1 (λ y vals2 stack2 h2. d refl o y (held t y.1.notices) vals2 stack2 h2)))

      passivate : Does name.Passivate
      unfolding performing_simulation row_of
      passivate g d vals stack o h = pops_block b left vals stack o _ _ h (λ y vals2 stack2 h2. d refl o (y.0, y.1) (Ok (passivated y.1.notices)) vals2 stack2 h2)

      wait : Does name.Wait
      unfolding performing_simulation row_of
      wait g d vals stack o h =
          pops_plain (LinkOf b ∷ left) vals stack o _ _ h (λ v vals1 stack1 n h1.
          alike_same Configuration Machine R (Option ℕ) (linkage_given o.members v) o _ _ (λ z.
          pops_block b left vals1 stack1 o _ _ h1 (λ y vals2 stack2 h2.
          waits_in z o y.1 _ _ (λ p. d refl p y (Ok (passivated y.1.notices)) vals2 stack2 h2))))

      cancel : Does name.Cancel
      unfolding performing_simulation row_of
      cancel g d vals stack o h =
          pops_plain (LinkOf b ∷ left) vals stack o _ _ h (λ v vals1 stack1 n h1.
          pops_block b left vals1 stack1 o _ _ h1 (λ y vals2 stack2 h2.
          alike_equal Configuration Machine R (Option ProcessRef) (seen (in_process s m b) y.1 v) (seen (classes.in_process code fs b) y.1 v) o _ _ (sees_same y.1 v n) (λ p. d refl o y (cancelled p y.1.notices) vals2 stack2 h2)))

      tells : (n : Standard) → Gives → (vals : List Val) (stack : List Value) (o : World) → Named (LinkOf b ∷ left) vals stack
          → Alike R (pop_block meaning.plain instance_in vals o (λ b y rest. having (simulation_tells n y.1) o (λ v. give v rest))) (pop_block machine.plain link_in stack o (λ b y rest. having (simulation_tells n y.1) o (λ v. give' v rest)))
      tells n g vals stack o h = pops_block b left vals stack o _ _ h (λ y vals2 stack2 h2. alike_same Configuration Machine R Plain (simulation_tells n y.1) o _ _ (λ v. g v vals2 stack2 h2))

      pub does : (n : Standard) → is_simulation_name n ≡ true → Does n
      unfolding performing_simulation row_of
      does name.Hold e = hold
      does name.Passivate e = passivate
      does name.Wait e = wait
      does name.Cancel e = cancel
      does name.Time e = λ g d vals stack o h. tells name.Time (g refl) vals stack o h
      does name.Current e = λ g d vals stack o h. tells name.Current (g refl) vals stack o h
      does name.Main e = λ g d vals stack o h. tells name.Main (g refl) vals stack o h
      does _ e = absurd (cc (e))

      -- ---- activations

      pops_operand : (c : Bool) (above : List Kind) (vals : List Val) (stack : List Value) (o : World) (r : Option Plain → List Val → Run Configuration) (q : Option Plain → List Value → Run Machine) → Named (with_operand c above) vals stack → ((p : Option Plain) (vals' : List Val) (stack' : List Value) → OperandNames p → Named above vals' stack' → Alike R (r p vals') (q p stack'))
          → Alike R (pop_operand_if meaning.plain instance_in c vals o r) (pop_operand_if machine.plain link_in c stack o q)
      unfolding pop_operand_if
      pops_operand false above vals stack o r q h f = f None vals stack tt h
      pops_operand true above vals stack o r q h f = pops_plain above vals stack o _ _ h (λ p vals' stack' n h'. f (Some p) vals' stack' n h')

      pub activates : (again : Bool) (t : Timing) → Decides → (vals : List Val) (stack : List Value) (o : World) → Named (anys (operands_of t) (LinkOf b ∷ left)) vals stack
          → Alike R (performing_activation meaning.plain instance_in (in_process s m) again t vals o decide) (performing_activation machine.plain link_in (classes.in_process code fs) again t stack o decide')
      unfolding performing_activation
      activates again t d vals stack o h =
          pops_operand (has_operand t) (Any ∷ LinkOf b ∷ left) vals stack o _ _ (let first = h in (subst (λ ks. Hand ks vals stack) (operand_first (has_operand t) (LinkOf b ∷ left)) first.0, first.1)) (λ operand vals1 stack1 no h1.
          pops_plain (LinkOf b ∷ left) vals1 stack1 o _ _ h1 (λ v vals2 stack2 n h2.
          pops_block b left vals2 stack2 o _ _ h2 (λ y vals3 stack3 h3.
          alike_equal Configuration Machine R (Option ProcessRef) (seen (in_process s m b) y.1 v) (seen (classes.in_process code fs b) y.1 v) o _ _ (sees_same y.1 v n) (λ p.
          alike_equal Configuration Machine R Placement (placement t (seen (in_process s m b) y.1) operand) (placement t (seen (classes.in_process code fs b) y.1) operand) o _ _ (places_same t y.1 operand no) (λ place.
          d o y (activated (record { process = p; again = again; placement = place }) y.1.notices) vals3 stack3 h3)))))

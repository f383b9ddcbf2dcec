-- Activations that move between the operating chain and a park.
use Rattle.std.specs.Prelude.{◌≡◌, ℕ, ◌≤◌, false, List, [], ◌∷◌, ◌++◌, length, reverse, Option, Some}
use Rattle.sim_base.specs.declared.limits.Limits.{Limits}
use Rattle.sim_chains.specs.Chains.{is_instance, stands_on}
use Rattle.sim_chains.specs.Components.{Standing, give_control_to}
use Rattle.sim_code.specs.Events.{computing}
use Rattle.sim_code.specs.Instances.{going_below, system_head}
use Rattle.sim_code.specs.Machine.{Activation, Frames, Machine, owner}
use Rattle.sim_code.specs.Outcome.{Run, World}
use Rattle.frame_arena.specs.declared.slot.Slot.{Slot}
use Rattle.object_machine.specs.declared.machine.Activation as working
use Rattle.object_machine.specs.declared.machine.Flow.{Flow}
use Rattle.object_machine.specs.declared.machine.Flow.TheVariants as flow
use Rattle.object_machine.specs.declared.machine.Registers.{Registers}
use Rattle.object_machine.specs.declared.machine.Storage.{Storage}
use Rattle.object_machine.specs.Keeping.{owner_at}
use Rattle.object_machine.specs.Standing.{AtWork, Outside, Stores}

-- the operating chain, the innermost first
abbrev pub operating : (top : working.Activation) → (below : List working.Activation) → List working.Activation
operating top below = top ∷ reverse below

-- the frame whose activation it is: a thunk is that of none
abbrev pub frame_of : working.Activation → Option ℕ
frame_of t = owner_at t.registers

-- A chain is cut above the first activation of an instance, which is the top of what is left.
pub record CutsAt (instance : ℕ) (chain above : List working.Activation) (top : working.Activation) (below : List working.Activation) : Type 0 where
  pub whole : chain ≡ above ++ operating top below
  pub own : frame_of top ≡ Some instance
  pub first : stands_on frame_of instance above ≡ false

-- a chain that ends with the first activation of an object
pub record EndsAt (object : ℕ) (chain : List working.Activation) : Type 0 where
  pub above : List working.Activation
  pub here : working.Activation
  pub is : chain ≡ above ++ here ∷ []
  pub own : frame_of here ≡ Some object
  pub first : stands_on frame_of object above ≡ false

-- An object leaves a chain: what it keeps, and what operates then. Where nothing is below it there is no rule.
abbrev pub LeavesChain : Flow → (object : ℕ) → (chain kept rest : List working.Activation) → Type 0
LeavesChain flow.On object chain kept rest = EndsAt object kept × (chain ≡ kept ++ rest)
LeavesChain flow.NoRule object chain kept rest = EndsAt object chain
LeavesChain flow.Memory object chain kept rest = Unit {0}
LeavesChain _ object chain kept rest = ⊥

-- A kept chain goes on top of a chain. There is no rule where one of its activations has more values than room, to which no run comes.
abbrev pub JoinsChain : Flow → (kept chain : List working.Activation) → (left joined : List working.Activation) → Type 0
JoinsChain flow.On kept chain left joined = (left ≡ []) × (joined ≡ kept ++ chain)
JoinsChain flow.NoRule kept chain left joined = (front : List working.Activation) × (t : working.Activation) × (back : List working.Activation) × (kept ≡ front ++ t ∷ back) × (t.registers.depth ≤ length t.stack.items → ⊥)
JoinsChain flow.Memory kept chain left joined = Unit {0}
JoinsChain _ kept chain left joined = ⊥

-- The top stands directly above an instance, and a chain that was kept has one activation, which has no more values than room.
pub record StandAlone (instance : ℕ) (kept : List working.Activation) (top : working.Activation) (below : List working.Activation) : Type 0 where
  pub one : working.Activation
  pub is : kept ≡ one ∷ []
  pub fits : one.registers.depth ≤ length one.stack.items
  pub under : working.Activation
  pub rest : List working.Activation
  pub next : below ≡ rest ++ under ∷ []
  pub own : frame_of under ≡ Some instance
  pub other : is_instance instance (frame_of top) ≡ false

-- What stands above an instance changes places with a chain that was kept. There is no rule where one of the activations of that has more values than
-- room, to which no run comes.
abbrev pub Exchanges : Flow → (instance : ℕ) → (kept chain : List working.Activation) → (above joined : List working.Activation) → Type 0
Exchanges flow.On instance kept chain above joined = (top : working.Activation) × (below : List working.Activation) × CutsAt instance chain above top below × (joined ≡ kept ++ operating top below)
Exchanges flow.NoRule instance kept chain above joined = (front : List working.Activation) × (t : working.Activation) × (back : List working.Activation) × (kept ≡ front ++ t ∷ back) × (t.registers.depth ≤ length t.stack.items → ⊥)
Exchanges flow.Memory instance kept chain above joined = Unit {0}
Exchanges _ instance kept chain above joined = ⊥

-- The parts stand for what they did, but that instances stand otherwise as components.
pub record Anew (l : Limits) (p p2 : Storage) (before : Option (List ℕ)) (now : Outside) (o : World) (m : Frames) (standings : List (Standing Activation)) : Type 0 where
  pub stores : Stores l p2 before now o (record m { standings = standings })
  pub works : (r : Registers) (stack : List Slot) → AtWork p o m r stack → AtWork p2 o (record m { standings = standings }) r stack

-- Control goes to an object, which is resumed, or where there is none to the main component of a system. `head` is the head of that.
abbrev pub controlling : (line : ℕ) → World → (chain : List Activation) → Frames → (head : ℕ) → (object : Option ℕ) → Run Machine
controlling line o chain m head object =
    computing line (give_control_to owner (system_head m) (record { operating = chain; standings = m.standings }) head object) o (λ c.
    going_below o c.operating (record m { standings = c.standings }))

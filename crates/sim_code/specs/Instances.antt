-- Instances, numbered from 0 in the order of their entry, for the meaning and the machine: only the cells C and the activations A differ.
-- No number is used again, so that a number means one instance for the whole run.
use Rattle.std.specs.Prelude.{ℕ, zero, suc, Bool, true, false, not, ◌&&◌, ◌==◌, if◌then◌else◌, List, [], ◌∷◌, ◌++◌, slice_get, slice_index_or, slice_set, Option, Some, None}
use Rattle.sim_chains.specs.Chains.{Cut, cut_at}
use Rattle.sim_chains.specs.Components.{AttachedObject, Components, NoObject, ResumedObject, Standing, TerminatedObject}
use Rattle.sim_chains.specs.Heads.{head_of}
use Rattle.sim_chains.specs.WellFormed.{is_object}
use Rattle.sim_code.specs.Outcome.{Ended, Going, NoRule, Run, World}

-- An instance: its text, which the code has as a block; the level of that; its textual encloser, which the program's block lacks; its
-- cells; whether it is a sub-block or procedure whose text has no class declaration and no prefixed block; whether it is kept all the
-- same when it ends; and whether it was given back.
pub record Instance (C : Type 0) : Type 0 where
  pub text : ℕ
  pub level : ℕ
  pub encloser : Option ℕ
  pub cells : C
  pub passing : Bool
  pub kept : Bool
  pub given_back : Bool

-- All instances, and how each stands as a component: the state of an object, and the chains that are kept.
pub record Memory (C A : Type 0) : Type 0 where
  pub instances : List (Instance C)
  pub standings : List (Standing A)

-- a configuration: the operating chain, and the instances
pub record State (C A : Type 0) : Type 0 where
  pub chain : List A
  pub memory : Memory C A

abbrev pub outward : (ℕ → Option ℕ) → Option ℕ → Option ℕ
outward look None = None
outward look (Some j) = look j

module _ {C : Type 0} where
  abbrev pub unless_given : Option (Instance C) → Option (Instance C)
  unless_given None = None
  unless_given (Some x) = if x.given_back then None else Some x

  abbrev pub is_live_in : Option (Instance C) → Bool
  is_live_in None = false
  is_live_in (Some x) = true

  abbrev pub cells_in : Option (Instance C) → Option C
  cells_in None = None
  cells_in (Some x) = Some x.cells

  abbrev pub ends_in : Option (Instance C) → Bool
  ends_in None = false
  ends_in (Some x) = x.passing && not x.kept

  abbrev pub found_at : (level : ℕ) → (ℕ → Option ℕ) → ℕ → Option (Instance C) → Option ℕ
  found_at level look j None = None
  found_at level look j (Some x) = if x.level == level then Some j else outward look x.encloser

module _ {C A : Type 0} where
  abbrev pub no_instances : State C A
  no_instances = record { chain = []; memory = record { instances = []; standings = [] } }

  -- what the transfers of control see of a configuration
  abbrev pub components : State C A → Components A
  components s = record { operating = s.chain; standings = s.memory.standings }

  -- the instance of a number, if it was not given back
  abbrev pub live : Memory C A → ℕ → Option (Instance C)
  live m j = unless_given (slice_get m.instances j)

  abbrev pub is_live : Memory C A → ℕ → Bool
  is_live m j = is_live_in (live m j)

  -- the instance of a level among an instance and its enclosers; each of them is entered before those inside
  abbrev pub level_within : ℕ → Memory C A → (level j : ℕ) → Option ℕ
  level_within zero m level j = None
  level_within (suc n) m level j = found_at level (level_within n m level) j (live m j)

  unfoldable pub at_level : Memory C A → (level j : ℕ) → Option ℕ
  at_level m level j = level_within (suc j) m level j

  abbrev pub cells_of : Memory C A → ℕ → Option C
  cells_of m j = cells_in (live m j)

  abbrev pub with_instance : Memory C A → ℕ → Instance C → Memory C A
  with_instance m j x = record m { instances = slice_set m.instances j x }

  abbrev pub cells_put : Memory C A → ℕ → Option (Instance C) → Option C → Option (Memory C A)
  cells_put m j (Some x) (Some cells) = Some (with_instance m j (record x { cells = cells }))
  cells_put m j _ _ = None

  -- the memory with other cells of an instance, if there are any
  abbrev pub with_cells : Memory C A → ℕ → Option C → Option (Memory C A)
  with_cells m j cells = cells_put m j (live m j) cells

  -- a new instance, with the number of those before it
  abbrev pub entered : Memory C A → Instance C → Standing A → Memory C A
  entered m x s = record { instances = m.instances ++ x ∷ []; standings = m.standings ++ s ∷ [] }

  abbrev pub given_in : Memory C A → ℕ → Option (Instance C) → Memory C A
  given_in m j None = m
  given_in m j (Some x) = with_instance m j (record x { given_back = true })

  -- an instance is given back
  abbrev pub given : Memory C A → ℕ → Memory C A
  given m j = given_in m j (slice_get m.instances j)

  -- whether an instance is given back at its end
  abbrev pub is_given_at_end : Memory C A → ℕ → Bool
  is_given_at_end m j = ends_in (live m j)

  -- Instances are kept: those on top of a chain that are class-free sub-blocks and procedures, outward up to the first instance that is
  -- none. An activation that is no instance's own is passed over.
  abbrev pub kept_further : (Memory C A → Memory C A) → Memory C A → ℕ → Option (Instance C) → Memory C A
  kept_further go m j None = m
  kept_further go m j (Some x) = if x.passing then go (with_instance m j (record x { kept = true })) else m

  abbrev pub kept_at : (Memory C A → Memory C A) → Memory C A → Option ℕ → Memory C A
  kept_at go m None = go m
  kept_at go m (Some j) = kept_further go m j (slice_get m.instances j)

  unfoldable pub kept_on : (owner : A → Option ℕ) → List A → Memory C A → Memory C A
  kept_on owner [] m = m
  kept_on owner (a ∷ chain) m = kept_at (kept_on owner chain) m (owner a)

-- ---- system heads

abbrev pub encloser_in : {C : Type 0} → Option (Instance C) → Option ℕ
encloser_in None = None
encloser_in (Some x) = x.encloser

abbrev pub or_first : Option ℕ → ℕ
or_first None = 0
or_first (Some j) = j

module _ {C A : Type 0} where
  abbrev pub encloser_of : Memory C A → ℕ → Option ℕ
  encloser_of m j = encloser_in (slice_get m.instances j)

  abbrev pub is_object_at : Memory C A → ℕ → Bool
  is_object_at m j = is_object (slice_index_or m.standings j (NoObject None))

  -- The system head of an object: the nearest instance outward along its textual enclosers that is no object. The first instance is none, so
  -- each object has one.
  unfoldable pub system_head : Memory C A → (object : ℕ) → ℕ
  system_head m x = or_first (head_of (encloser_of m) (is_object_at m) x)

-- ---- the end of an object

-- control goes to what is below, if anything is
abbrev pub going_below : {C A : Type 0} → World → List A → Memory C A → Run (State C A)
going_below o [] m = Ended o NoRule
going_below o (a ∷ below) m = Going o (record { chain = a ∷ below; memory = m })

module _ {C A : Type 0} (owner : A → Option ℕ) where
  -- The main component of the system goes on, for which its head S kept the chain: what stood above S is dropped.
  abbrev pub main_goes_on : World → Memory C A → (object head : ℕ) → Option (Cut A) → Option (Standing A) → Run (State C A)
  main_goes_on o m j s (Some k) (Some (NoObject (Some main))) =
      going_below o (main ++ k.here ∷ k.below) (record m { standings = slice_set (slice_set m.standings s (NoObject None)) j TerminatedObject })
  main_goes_on o m j s _ _ = Ended o NoRule

  -- An object that ends is terminated. Below an attached one control goes to what is below, and of a resumed one to the main component.
  abbrev pub ended_as : World → Memory C A → (object : ℕ) → List A → Option (Standing A) → Run (State C A)
  ended_as o m j below (Some AttachedObject) = going_below o below (record m { standings = slice_set m.standings j TerminatedObject })
  ended_as o m j below (Some ResumedObject) = main_goes_on o m j (system_head m j) (cut_at owner (system_head m j) below) (slice_get m.standings (system_head m j))
  ended_as o m j below _ = Ended o NoRule

  -- the end of the object whose activation is on top of the rest of the operating chain
  unfoldable pub object_ended : World → Memory C A → (object : ℕ) → List A → Run (State C A)
  object_ended o m j below = ended_as o m j below (slice_get m.standings j)

-- where a variable lies: a cell of an instance, named by K; an element of an array; an image. Q names the class of a reference there
pub data Place (K Q : Type 0) : Type 0 where
  CellPlace : (instance : ℕ) → K → Q → Place K Q
  ElementPlace : (array index : ℕ) → Q → Place K Q
  ImagePlace : ℕ → Place K Q

-- What holds of the chains at all times.
use Rattle.std.specs.Prelude.{◌≡◌, ℕ, ◌+◌, ◌<◌, ◌≤◌, Bool, true, false, List, [], ◌∷◌, Option, Some, None, length}
use Rattle.sim_chains.specs.Chains.{outermost, times_on, times_above}
use Rattle.sim_chains.specs.Components.{Standing, NoObject, AttachedObject, DetachedObject, ResumedObject, TerminatedObject, Components, standing_of}

module _ {A : Type 0} where
  -- the chain that an instance keeps
  abbrev pub chain_in : Standing A → List A
  chain_in (NoObject None) = []
  chain_in (NoObject (Some main)) = main
  chain_in (DetachedObject chain) = chain
  chain_in AttachedObject = []
  chain_in ResumedObject = []
  chain_in TerminatedObject = []

  -- a count over the chains that are kept
  abbrev pub over_kept : (List A → ℕ) → List (Standing A) → ℕ
  over_kept f [] = 0
  over_kept f (s ∷ l) = f (chain_in s) + over_kept f l

  -- a count over all chains
  abbrev pub over_all : (List A → ℕ) → Components A → ℕ
  over_all f c = f c.operating + over_kept f c.standings

  abbrev pub is_object : Standing A → Bool
  is_object (NoObject main) = false
  is_object other = true

module _ {A : Type 0} (owner : A → Option ℕ) where
  -- on how many places of the chains an instance stands
  abbrev pub times_in : ℕ → Components A → ℕ
  times_in x c = over_all (times_on owner x) c

  -- on how many places the instance x stands directly above y
  abbrev pub times_above_in : ℕ → ℕ → Components A → ℕ
  times_above_in x y c = over_all (times_above owner x y) c

  -- a resumed object stands directly above its system head, which keeps its main chain
  pub record IsInPlace (head : ℕ → ℕ) (c : Components A) (x : ℕ) : Type 0 where
    pub above : 0 < times_above_in x (head x) c
    pub main : List A
    pub keeps : standing_of c (head x) ≡ NoObject (Some main)

  -- a resumed object operates in the system of s
  pub record HasResumed (head : ℕ → ℕ) (c : Components A) (s : ℕ) : Type 0 where
    pub object : ℕ
    pub resumed : standing_of c object ≡ ResumedObject
    pub its_head : head object ≡ s

  pub record IsWellFormed (head : ℕ → ℕ) (c : Components A) : Type 0 where
    -- each instance stands on one chain at most, and there once
    pub once : (x : ℕ) → times_in x c ≤ 1
    -- only instances that were entered stand on chains
    pub made : (x : ℕ) → length c.standings ≤ x → times_in x c ≡ 0
    -- no terminated object stands on a chain
    pub terminated : (x : ℕ) → standing_of c x ≡ TerminatedObject → times_in x c ≡ 0
    -- the chain of a detached object ends with its own activation
    pub detached : (x : ℕ) (chain : List A) → standing_of c x ≡ DetachedObject chain → outermost owner chain ≡ Some x
    -- the system head of an object is none
    pub heads : (x : ℕ) → is_object (standing_of c x) ≡ true → is_object (standing_of c (head x)) ≡ false
    -- each resumed object stands directly above its system head, and that keeps its main chain
    pub resumed : (x : ℕ) → standing_of c x ≡ ResumedObject → IsInPlace head c x
    -- a head keeps its main chain only while a resumed object operates in its place
    pub main : (s : ℕ) (main : List A) → standing_of c s ≡ NoObject (Some main) → HasResumed head c s

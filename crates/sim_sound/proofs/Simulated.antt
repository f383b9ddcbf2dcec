-- The simulation blocks of a run: each block that lives has its entry, and each process is one of its block.
use Rattle.std.proofs.Common.{◌≡◌, ℕ, zero, suc, false, true, List, [], ◌∷◌, Option, Some}
use Rattle.std.specs.Prelude.{◌&&◌, ◌+◌, not, slice_get}
use Rattle.notices.specs.declared.notice.Notice.{Notice}
use Rattle.sim_scope.specs.declared.types.StandardClass.TheVariants as standard
use Rattle.sim_scope.specs.Levels.{is_simulation_block}
use Rattle.sim_scope.specs.Source.{Source}
use Rattle.sim_code.specs.Instances.{Instance, live}
use Rattle.sim_code.specs.Outcome.{Simulation}
use Rattle.sim_code.specs.Simulations.{located}
use Rattle.sim_meaning.specs.Pending.{Held, Instances}
use Rattle.sim_meaning.specs.Texts.{StandardText, text}
use Rattle.sim_sound.proofs.Prefixes.{LevelOf}
use Rattle.sim_sound.proofs.Sound.{PrefixedAt}
use Rattle.sim_sound.proofs.Values.{Lasts, ObjectOf, Simulates}

-- ---- event notices

-- The process of a number is the main program, or an object with its arrays: only one that was named by a reference has a notice.
abbrev pub NumberFine : Source → Instances → Simulation → (level number : ℕ) → Type 0
NumberFine s m x k zero = Unit {0}
NumberFine s m x k (suc n) = (j : ℕ) × (slice_get x.processes n ≡ Some j) × ObjectOf s m j (k + 4)

abbrev pub EachNotice : (Fine : ℕ → Type 0) → List Notice → Type 0
EachNotice Fine [] = Unit {0}
EachNotice Fine (n ∷ ns) = Fine n.process.0 × EachNotice Fine ns

abbrev pub SomeNotice : List Notice → Type 0
SomeNotice [] = ⊥
SomeNotice (n ∷ ns) = Unit {0}

-- ---- simulation blocks

-- The processes of a block that has `simulation` in front of a level: objects of its class `process`, whose arrays may still have to be made; and
-- its notices.
pub record Processes (s : Source) (m : Instances) (x : Simulation) (level : ℕ) : Type 0 where
  pub processes : (n j : ℕ) → slice_get x.processes n ≡ Some j → Lasts s m j (level + 4)
  pub some : SomeNotice x.notices
  pub notices : EachNotice (NumberFine s m x level) x.notices

-- An entry is that of a prefixed block. (A class that is named `simulation`, and is the program's own, has texts behind it as `simulation` has, but
-- nothing can name what they declare.)
pub record Scheduled (s : Source) (m : Instances) (x : Simulation) : Type 0 where
  pub now : Instance (List Held)
  pub lives : live m x.block ≡ Some now
  pub stays : (now.passing && not now.kept) ≡ false
  pub prefixed : PrefixedAt s now.text
  pub simulates : (k : ℕ) → is_simulation_block s.tables k ≡ true → LevelOf s now.text k → Processes s m x k

-- A process is one of the block in which its class is declared. `level` has `simulation` in front.
pub record Joined (s : Source) (sims : List Simulation) (m : Instances) (j u : ℕ) (out : Option ℕ) : Type 0 where
  pub level : ℕ
  pub is : u ≡ level + 4
  pub block : ℕ
  pub home : Simulates s m block level
  pub encloser : out ≡ Some block
  pub simulation : ℕ × Simulation
  pub found : located sims block ≡ Some simulation
  pub number : ℕ
  pub among : slice_get (simulation.1).processes number ≡ Some j

pub record SimulationsFine (s : Source) (sims : List Simulation) (m : Instances) : Type 0 where
  pub each : (n : ℕ) (x : Simulation) → slice_get sims n ≡ Some x → Scheduled s m x
  pub there : (j k : ℕ) (y : Instance (List Held)) → live m j ≡ Some y → is_simulation_block s.tables k ≡ true → LevelOf s y.text k → (x : ℕ × Simulation) × (located sims j ≡ Some x)
  pub joined : (j u : ℕ) (y : Instance (List Held)) → live m j ≡ Some y → text s u ≡ Some (StandardText standard.Process) → LevelOf s y.text u → Joined s sims m j u y.encloser

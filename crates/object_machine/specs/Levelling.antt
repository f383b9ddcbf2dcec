-- The levels of classes, as the rows find them.
use Rattle.std.specs.Prelude.{◌≡◌, ℕ, true, false, List, length, Option, Some, None}
use Rattle.sim_code.specs.declared.stage.Stage.{Stage}
use Rattle.sim_code.specs.declared.stage.Stage.TheVariants as stage
use Rattle.sim_code.specs.Code.{ClassOf, CodeOf}
use Rattle.sim_code.specs.Classes.{class_of, levels, levels_in}
use Rattle.sim_code.specs.Events.{no_rule}
use Rattle.sim_code.specs.Levels.{own_levels, same_stage}
use Rattle.sim_code.specs.Machine.{Frames, Machine}
use Rattle.sim_code.specs.Outcome.{Run, World}
use Rattle.frame_arena.specs.declared.slot.Slot.{Slot}
use Rattle.object_machine.specs.declared.machine.Registers.{Registers}
use Rattle.object_machine.specs.declared.stages.UnderWay.{UnderWay}
use Rattle.object_machine.specs.Standing.{activation_at}
use Rattle.object_machine.specs.declared.levels.Levels.{Levels}
use Rattle.object_machine.specs.declared.levels.Part.{Part}
use Rattle.object_machine.specs.declared.levels.Part.TheVariants as part

abbrev pub number_of : Option (List ℕ) → Option ℕ
number_of None = None
number_of (Some cs) = Some (length cs)

-- where a part of a class begins
abbrev pub index_in : Part → Option ClassOf → Option ℕ
index_in p None = None
index_in part.Declarations (Some x) = Some x.declarations
index_in part.Statements (Some x) = Some x.statements
index_in part.AfterInner (Some x) = Some x.after_inner

-- the levels of the class of a frame, which are so many, or that it has none
pub record LevelsAre (own : Levels) (code : CodeOf) (m : Frames) (frame : ℕ) : Type 0 where
  pub list : List ℕ
  pub found : levels_in code (class_of code m frame) ≡ Some list
  pub is : levels code own.class ≡ Some list
  pub long : length list ≡ own.count

abbrev pub HasLevels : Option Levels → CodeOf → Frames → (frame : ℕ) → Type 0
HasLevels None code m j = levels_in code (class_of code m j) ≡ None
HasLevels (Some own) code m j = LevelsAre own code m j

-- the stage at which a part of a level is under way
abbrev pub stage_of : Part → (level : ℕ) → Stage
stage_of part.Declarations n = stage.Declaring n
stage_of part.Statements n = stage.Stating n
stage_of part.AfterInner n = stage.Behind n

abbrev pub IsReached : Option ℕ → Stage → Part → (level : ℕ) → Type 0
IsReached None s p n = same_stage s (stage_of p n) ≡ false
IsReached (Some k) s p n = (k ≡ n) × (same_stage s (stage_of p n) ≡ true)

-- the level of which a part is under way
pub record LevelIs (here : UnderWay) (code : CodeOf) (m : Frames) (r : Registers) (stack : List Slot) (p : Part) (level : ℕ) : Type 0 where
  pub list : List ℕ
  pub levels_are : levels code here.own.class ≡ Some list
  pub long : length list ≡ here.own.count
  pub number : here.level ≡ level
  pub is : (o : World) (go : List ℕ → Run Machine) → own_levels code m (activation_at r stack) (stage_of p level) o go ≡ go list

abbrev pub IsUnderWay : Option UnderWay → CodeOf → Frames → Registers → List Slot → Part → (level : ℕ) → Type 0
IsUnderWay None code m r stack p n = (o : World) (go : List ℕ → Run Machine) → own_levels code m (activation_at r stack) (stage_of p n) o go ≡ no_rule o
IsUnderWay (Some here) code m r stack p n = LevelIs here code m r stack p n

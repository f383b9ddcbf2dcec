-- How many frames there are, and the regions that are free, in one list for each block.
use Rattle.std.specs.Prelude.{◌≡◌, ◌-◌, ◌^◌, ◌<◌, ◌≤◌, ◌==◌, ℕ, true, false, not, List, [], ◌∷◌, Contains, count_by, get_or, length, Option, Some, None, if◌then◌else◌}
use Rattle.sim_code.specs.Instances.{is_live}
use Rattle.sim_code.specs.Machine.{Frames}
use Rattle.frame_arena.specs.declared.frames.Frame.{Frame}
use Rattle.frame_arena.specs.Frames.{Has, HasShape, frame_at}

-- ---- counts

-- how many instances are not given back
abbrev pub live_instances : Frames → ℕ
live_instances m = count_by (λ x. not x.given_back) m.instances

-- how many frames there are
abbrev pub live_frames : List Frame → ℕ
live_frames frames = count_by (λ f. f.live) frames

-- the frames in the regions are the instances that are not given back, one for one
pub record OneForOne (frames : List Frame) (m : Frames) : Type 0 where
  pub instance : (place number : ℕ) → Has frames place number → is_live m number ≡ true
  pub frame : (number : ℕ) → is_live m number ≡ true → (place : ℕ) × Has frames place number
  pub single : (place other number : ℕ) → Has frames place number → Has frames other number → place ≡ other
  pub count : live_frames frames ≡ live_instances m

-- ---- lists

-- no region has this number, which ends a list
abbrev pub end_of_list : ℕ
end_of_list = 2 ^ 32 - 1

-- a list of regions, of which each is free, and has the number of the next one
abbrev pub Linked : List Frame → (head : ℕ) → List ℕ → Type 0
Linked frames head [] = head ≡ end_of_list
Linked frames head (place ∷ rest) = (head ≡ place) × (place < length frames) × ((frame_at frames place).live ≡ false) × Linked frames (frame_at frames place).next rest

-- the list of a block
abbrev pub with_list : (lists : ℕ → List ℕ) → (block : ℕ) → List ℕ → (other : ℕ) → List ℕ
with_list lists block places other = if other == block then places else lists other

-- Each region is of a block, and each that is free is in the list of that, which begins at the head of the block; but not the one that
-- is taken out.
pub record FreeLists (frames : List Frame) (heads : List ℕ) (lists : ℕ → List ℕ) (taken : Option ℕ) : Type 0 where
  pub linked : (block : ℕ) → block < length heads → Linked frames (get_or heads block 0) (lists block)
  pub own : (block place : ℕ) → block < length heads → Contains (lists block) place → (frame_at frames place).block ≡ block
  pub blocks : (place : ℕ) → place < length frames → (taken ≡ Some place → ⊥) → (frame_at frames place).block < length heads
  pub all : (place : ℕ) → place < length frames → (taken ≡ Some place → ⊥) → (frame_at frames place).live ≡ false → Contains (lists (frame_at frames place).block) place
  pub apart : (block place : ℕ) → block < length heads → taken ≡ Some place → Contains (lists block) place → ⊥
  pub few : length frames ≤ end_of_list

-- all regions of a block have as many cells and as much room
abbrev pub AllHaveShape : List Frame → (block cells room : ℕ) → Type 0
AllHaveShape frames block cells room = (place : ℕ) → place < length frames → (frame_at frames place).block ≡ block → HasShape (frame_at frames place) cells room

-- all regions of a block have a frame
abbrev pub AllLive : List Frame → (block : ℕ) → Type 0
AllLive frames block = (place : ℕ) → place < length frames → (frame_at frames place).block ≡ block → (frame_at frames place).live ≡ true

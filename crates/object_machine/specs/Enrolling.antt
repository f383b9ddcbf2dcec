-- The objects that are linkages, with their sets, as the machine keeps them.
use Rattle.std.specs.Prelude.{◌≡◌, ℕ, ◌<◌, Bool, List, [], map, slice_get, Option, Some, None}
use Rattle.std.specs.List.{list_any}
use Rattle.simset.specs.Instances.{Memberships}
use Rattle.simset.specs.Sets.{Head, Link, Linkage}
use Rattle.sim_values.specs.declared.value.FrameRef.{FrameRef}
use Rattle.sim_code.specs.Machine.{Frames}
use Rattle.sim_code.specs.Sets.{linkage_by}
use Rattle.frame_arena.specs.declared.frames.Frame.{Frame}
use Rattle.frame_arena.specs.Frames.{Leads}
use Rattle.object_machine.specs.declared.machine.Members.{Members}
use Rattle.object_machine.specs.declared.marks.Kind.{Kind}
use Rattle.object_machine.specs.declared.marks.Kind.TheVariants as kind

-- the numbers of objects
abbrev pub stamps : List FrameRef → List ℕ
stamps objects = map (λ f. f.stamp) objects

-- later ones are higher
abbrev pub Rises : List ℕ → Type 0
Rises ns = (x y a b : ℕ) → x < y → slice_get ns x ≡ Some a → slice_get ns y ≡ Some b → a < b

-- all of them are lower than a number
abbrev pub AllBelow : (bound : ℕ) → List ℕ → Type 0
AllBelow n ns = (x a : ℕ) → slice_get ns x ≡ Some a → a < n

-- each of them leads to its frame
abbrev pub AllReach : List Frame → Frames → List FrameRef → Type 0
AllReach frames m objects = (x : ℕ) (f : FrameRef) → slice_get objects x ≡ Some f → Leads frames m f

-- each linkage has its object, and the sets are those of the rings
pub record Matches (k : Members) (o : Memberships) : Type 0 where
  pub instances : o.instances ≡ stamps k.objects.items
  pub sets : o.sets ≡ k.rings.sets

-- the same, where the objects that were made later have higher numbers, and all lead to their frames
pub record Enrolled (frames : List Frame) (m : Frames) (k : Members) (o : Memberships) : Type 0 where
  pub is : Matches k o
  pub rises : Rises (stamps k.objects.items)
  pub lead : AllReach frames m k.objects.items

-- ---- which objects are linkages

abbrev pub fresh_as : Kind → Linkage
fresh_as kind.Link = Link
fresh_as kind.Head = Head []

abbrev pub made_as : Option Kind → Option Linkage
made_as None = None
made_as (Some k) = Some (fresh_as k)

-- whether some level is one of these, if there are levels
abbrev pub any_level : (ℕ → Bool) → Option (List ℕ) → Option Bool
any_level f None = None
any_level f (Some cs) = Some (list_any f cs)

-- what an object becomes whose levels were asked for both marks
abbrev pub linkage_from : (head linkage : Option Bool) → Option Linkage
linkage_from (Some head) (Some linkage) = linkage_by head linkage
linkage_from _ _ = None

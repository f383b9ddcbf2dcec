-- The linkages of a program are objects: each link and each head belongs to an instance.
use Rattle.std.specs.Prelude.{ℕ, ◌==◌, List, [], ◌∷◌, ◌++◌, Option, Some, None, slice_get}
use Rattle.std.specs.List.{position}
use Rattle.simset.specs.declared.rings.LinkageNo.{LinkageNo}
use Rattle.simset.specs.Sets.{Linkage}

abbrev pub number_of : Option LinkageNo → Option ℕ
number_of None = None
number_of (Some x) = Some x.0

-- The instances of the linkages, in the order in which these were made: a map between instances and the numbers of linkages.
abbrev pub linkage_of : List ℕ → ℕ → Option ℕ
linkage_of instances i = position (λ k. k == i) instances

abbrev pub instance_of : List ℕ → ℕ → Option ℕ
instance_of instances x = slice_get instances x

-- the sets of a program with the instances to which the linkages belong
pub record Memberships : Type 0 where
  pub instances : List ℕ
  pub sets : List Linkage

-- an object that is a link or a head is made
abbrev pub with_linkage : ℕ → Linkage → Memberships → Memberships
with_linkage i linkage m = record { instances = m.instances ++ i ∷ []; sets = m.sets ++ linkage ∷ [] }

-- The levels of a class, by their declarations.
use Rattle.std.specs.Prelude.{◌≡◌, ℕ, zero, suc, Bool, if◌then◌else◌, ◌||◌, nat_eq, nat_le, List, [], ◌∷◌, ◌++◌, length, reverse, Option, Some, None}
use Rattle.std.specs.List.{list_any}
use Rattle.sim_base.specs.declared.numbering.DeclNo.{DeclNo}
use Rattle.sim_scope.specs.Levels.{base, class_block, owner_of_level}
use Rattle.sim_scope.specs.Runs.{each}
use Rattle.sim_scope.specs.Tables.{Tables}

-- The blocks of so many levels, from one outward, behind those inside it. The chain is cut where one of them would stand in it again.
abbrev pub chain_beyond : (ℕ → List ℕ) → (inside : List ℕ) → Option ℕ → List ℕ
chain_beyond search inside None = inside
chain_beyond search inside (Some block) = search block

abbrev pub ends_chain : Tables → List ℕ → (block : ℕ) → Bool
ends_chain s chain block = list_any (nat_eq block) chain || nat_le (length s.blocks) block

unfoldable pub chain_of : Tables → ℕ → (inside : List ℕ) → (block : ℕ) → List ℕ
chain_of s zero inside block = inside
chain_of s (suc more) inside block =
    if ends_chain s inside block then inside
    else chain_beyond (λ b. chain_of s more (inside ++ block ∷ []) b) (inside ++ block ∷ []) (base s block)

-- the classes to which blocks belong
abbrev pub if_any : Option DeclNo → List DeclNo
if_any None = []
if_any (Some d) = d ∷ []

unfoldable pub classes_of : Tables → List ℕ → List DeclNo
classes_of s blocks = each (λ block. if_any (owner_of_level s (Some block))) blocks

abbrev pub levels_in : Tables → Option ℕ → List DeclNo
levels_in s None = []
levels_in s (Some block) = classes_of s (reverse (chain_of s (length s.blocks) [] block))

-- the levels of a class, from the outermost prefix inward
unfoldable pub levels_of : Tables → (class : DeclNo) → List DeclNo
levels_of s class = levels_in s (class_block s class)

-- What levels are, in relations that do not compute.
-- a class with its block
abbrev pub IsClass : Tables → DeclNo → (block : ℕ) → Type 0
IsClass s d block = (class_block s d ≡ Some block) × (owner_of_level s (Some block) ≡ Some d)

-- a class and its prefix
pub data IsPrefixed (s : Tables) : (class prefix : DeclNo) → Type 0 where
  by : {d q : DeclNo} {block around : ℕ} → IsClass s d block → base s block ≡ Some around → IsClass s q around → IsPrefixed s d q

-- the outermost prefix of a class
pub data Outermost (s : Tables) : (class : DeclNo) → DeclNo → Type 0 where
  itself : {d : DeclNo} {block : ℕ} → IsClass s d block → base s block ≡ None → Outermost s d d
  further : {d q e : DeclNo} → IsPrefixed s d q → Outermost s q e → Outermost s d e

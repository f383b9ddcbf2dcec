-- The two lists of scopes. A block is the program, a block with declarations, a procedure, a class, a prefixed block or a connection; it has
-- levels, and stands in scopes.
use Rattle.std.specs.Prelude.{◌≡◌, ℕ, Bool, nat_eq, if◌then◌else◌, List, [], ◌∷◌, Option, Some, None}
use Rattle.std.specs.Option.{option_or}
use Rattle.sim_scope.specs.Access.{block_at, encloser}
use Rattle.sim_scope.specs.Levels.{base}
use Rattle.sim_scope.specs.Tables.{Tables}

-- the blocks of a list in front of a block, all where it is not among them
unfoldable pub up_to : (block : ℕ) → List ℕ → List ℕ
up_to block [] = []
up_to block (b ∷ bs) = if nat_eq b block then [] else b ∷ up_to block bs

-- the list of a block that there may be
abbrev pub of_block : (ℕ → List ℕ) → Option ℕ → List ℕ
of_block list None = []
of_block list (Some block) = list block

pub record Lists (s : Tables) : Type 0 where
  -- The levels of a block are the block itself and then those of its prefix, up to where the block would come again. The class that is connected
  -- stands for the prefix of a connection.
  pub levels : (block : ℕ) → List ℕ
  pub of_levels : (block : ℕ) → levels block ≡ block ∷ up_to block (of_block levels (base s block))
  -- The scopes from a block outward are the block itself and then those from the block around it.
  pub outward : (block : ℕ) → List ℕ
  pub of_outward : (block : ℕ) → outward block ≡ block ∷ up_to block (of_block outward (encloser s block))

-- the scopes around a token, from the innermost one outward
abbrev pub around : (s : Tables) → Lists s → (token : ℕ) → List ℕ
around s l token = of_block l.outward (block_at s token)

-- the levels of the prefix of a block
abbrev pub prefix_levels : (s : Tables) → Lists s → (block : ℕ) → List ℕ
prefix_levels s l block = of_block l.levels (base s block)

-- what the first block of a list gives that gives something
unfoldable pub first : {A : Type 0} → (ℕ → Option A) → List ℕ → Option A
first look [] = None
first look (b ∷ bs) = option_or (look b) (first look bs)

-- the first block of a list that is so
abbrev pub first_that : (ℕ → Bool) → List ℕ → Option ℕ
first_that test blocks = first (λ b. if test b then Some b else None) blocks

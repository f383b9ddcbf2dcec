-- What saves time: what is known of chains, and which faults cannot be the least.
use Rattle.std.specs.Prelude.{◌≡◌, ◌<◌, ◌≤◌, ◌⊎◌, ⊤, ℕ, suc, ◌+◌, ◌&&◌, Bool, true, false, nat_eq, nat_lt, List, Option, Some, None, length, slice_get}
use Rattle.sim_scope.specs.Levels.{base}
use Rattle.sim_tree.specs.declared.expr.Identifier.{Identifier}
use Rattle.sim_scope.specs.declared.found.Fault.{Fault}
use Rattle.sim_scope.specs.Tables.{BlockOf, Tables}
use Rattle.prefix_bind.specs.Prefixes.{cells_at, has_broken_chain, is_in_own_chain}
use Rattle.prefix_bind.specs.declared.sums.Chain.{Chain}
use Rattle.prefix_bind.specs.declared.sums.Chain.TheVariants as chain

-- the cells of a block alone
abbrev pub cells_in : Tables → (block : ℕ) → ℕ
cells_in s b = cells_at s (slice_get s.blocks b)

-- The chain of a block ends after so many levels, which have so many cells.
pub data Ends (s : Tables) : (levels block cells : ℕ) → Type 0 where
  nowhere : {b : ℕ} → length s.blocks ≤ b → Ends s 0 b 0
  outermost : {b : ℕ} → b < length s.blocks → base s b ≡ None → Ends s 1 b (cells_in s b)
  inside : {n b p cells : ℕ} → b < length s.blocks → base s b ≡ Some p → Ends s n p cells → Ends s (suc n) b (cells_in s b + cells)

abbrev pub EndsWith : Tables → (block cells : ℕ) → Type 0
EndsWith s b cells = (levels : ℕ) × Ends s levels b cells

-- So many levels outward the chain of a block has a class that is in its own chain.
pub data LeadsBack (s : Tables) : (levels block : ℕ) → Type 0 where
  itself : {b : ℕ} → is_in_own_chain s b ≡ true → LeadsBack s 0 b
  behind : {n b p : ℕ} → base s b ≡ Some p → LeadsBack s n p → LeadsBack s (suc n) b

-- What is known of the chain of a block is so.
unfoldable pub IsSo : Tables → (block : ℕ) → Chain → Type 0
IsSo s b (chain.Ends cells broken) = EndsWith s b cells × (has_broken_chain s b ≡ broken)
IsSo s b (chain.Cyclic levels) = LeadsBack s levels b × (levels ≤ length s.blocks) × (is_in_own_chain s b ≡ nat_eq levels 0)
IsSo s b chain.Unknown = ⊤

abbrev pub IsSoAt : Tables → (block : ℕ) → Option Chain → Type 0
IsSoAt s b None = ⊤
IsSoAt s b (Some c) = IsSo s b c

abbrev pub is_known : Chain → Bool
is_known (chain.Ends cells broken) = true
is_known (chain.Cyclic levels) = true
is_known chain.Unknown = false

abbrev pub is_known_at : Option Chain → Bool
is_known_at None = false
is_known_at (Some c) = is_known c

-- A table: each row is so, there is one for each block, and behind a block that is known the next level is known too.
unfoldable pub Knows : Tables → List Chain → Type 0
Knows s rows = (block : ℕ) → IsSoAt s block (slice_get rows block)

unfoldable pub IsClosed : Tables → List Chain → Type 0
IsClosed s rows = (block next : ℕ) → is_known_at (slice_get rows block) ≡ true → base s block ≡ Some next → is_known_at (slice_get rows next) ≡ true

pub record Settled (s : Tables) (rows : List Chain) : Type 0 where
  pub knows : Knows s rows
  pub closed : IsClosed s rows
  pub long : length rows ≡ length s.blocks

-- The same while a cycle becomes known: the next level may be the block that becomes known next.
unfoldable pub IsClosedBut : Tables → List Chain → (but : ℕ) → Type 0
IsClosedBut s rows but = (block next : ℕ) → is_known_at (slice_get rows block) ≡ true → base s block ≡ Some next → (is_known_at (slice_get rows next) ≡ true) ⊎ (next ≡ but)

pub record SettledBut (s : Tables) (rows : List Chain) (but : ℕ) : Type 0 where
  pub knows : Knows s rows
  pub closed : IsClosedBut s rows but
  pub long : length rows ≡ length s.blocks
  pub own : is_in_own_chain s but ≡ true

-- Whether a fault so far comes before all that a block breaks.
abbrev pub is_past : Option Fault → (token : ℕ) → Bool
is_past None token = false
is_past (Some x) token = nat_lt x.token.0 token

abbrev pub is_past_prefix : Option Fault → Option Identifier → Bool
is_past_prefix least None = true
is_past_prefix least (Some x) = is_past least x.token.0

abbrev pub comes_later : Option Fault → BlockOf → Bool
comes_later least row = is_past least row.first && is_past_prefix least row.prefix

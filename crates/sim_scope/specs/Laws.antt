-- What the definitions of scopes mean, in relations that do not compute.
use Rattle.std.specs.Prelude.{◌≡◌, ◌<◌, ◌≤◌, ℕ, nat_eq, ◌&&◌, List, [], ◌∷◌, ◌++◌, if◌then◌else◌, Option, Some, None, slice_get}
use Rattle.sim_base.specs.declared.numbering.DeclNo.{DeclNo}
use Rattle.sim_tree.specs.declared.expr.Identifier.{Identifier}
use Rattle.sim_scope.specs.declared.scopes.Declaration.{Declaration}
use Rattle.sim_scope.specs.declared.types.BlockKind.{BlockKind}
use Rattle.sim_scope.specs.Building.{Mark, Opens, Closes, Declares, DeclaresProcedure, DeclaresClass, Parameter, Moded, Specified, Headed, Qualifies, Prefixes, Brings, Provides, Protects, Inner, Breaks}
use Rattle.sim_scope.specs.Scopes.{outward, shown}
use Rattle.sim_scope.specs.Access.{around}
use Rattle.sim_scope.specs.Bodies.{Body}
use Rattle.sim_scope.specs.Tables.{BlockOf, Tables}

-- A declaration is that of the innermost block, from one outward, that shows a name.
pub data Innermost (s : Tables) (from : Option ℕ) (name : List ℕ) : (block : ℕ) → DeclNo → Type 0 where
  here : {block : ℕ} {d : DeclNo} → shown s from block name ≡ Some d → Innermost s from name block d
  further : {block around : ℕ} {d : DeclNo} → shown s from block name ≡ None → outward s block name ≡ Some around → Innermost s from name around d → Innermost s from name block d

-- Each block stands behind the one around it.
unfoldable pub Nested : List BlockOf → Type 0
Nested blocks = (block outer : ℕ) → around (slice_get blocks block) ≡ Some outer → outer < block

-- The identifiers of the declarations that a block lists, in text order. The match of a virtual at the virtual's own level is not listed, since
-- the identifier denotes the virtual; neither is what `simset` and `simulation` declare in the block that they stand in front of.
abbrev pub names_in : (block : ℕ) → List Declaration → List (List ℕ)
names_in block [] = []
names_in block (d ∷ ds) = (if nat_eq d.block block && d.listed then d.name ∷ [] else []) ++ names_in block ds

abbrev pub names_of : Option BlockOf → List (List ℕ)
names_of None = []
names_of (Some row) = row.names

-- What a block declares are the declarations that stand in it.
unfoldable pub Named : List BlockOf → List Declaration → Type 0
Named blocks declarations = (block : ℕ) → names_of (slice_get blocks block) ≡ names_in block declarations

-- Places. The tokens at which blocks begin and end rise in the text.
abbrev pub Rising : (from : ℕ) → List Mark → Type 0
Rising from [] = Unit {0}
Rising from (Opens k text first ∷ ms) = (from ≤ first) × Rising first ms
Rising from (Closes end ∷ ms) = (from ≤ end) × Rising end ms
Rising from (Declares x e ∷ ms) = Rising from ms
Rising from (DeclaresProcedure x result ∷ ms) = Rising from ms
Rising from (DeclaresClass x ∷ ms) = Rising from ms
Rising from (Parameter x ∷ ms) = Rising from ms
Rising from (Moded x m ∷ ms) = Rising from ms
Rising from (Specified x k ty ∷ ms) = Rising from ms
Rising from (Headed x ∷ ms) = Rising from ms
Rising from (Qualifies class ∷ ms) = Rising from ms
Rising from (Prefixes class ∷ ms) = Rising from ms
Rising from (Brings which token ∷ ms) = Rising from ms
Rising from (Provides which name token ∷ ms) = Rising from ms
Rising from (Protects hides keeps x ∷ ms) = Rising from ms
Rising from (Inner token ∷ ms) = Rising from ms
Rising from (Breaks token rule ∷ ms) = Rising from ms

-- the text of a block has a token
abbrev pub HasToken : List BlockOf → (block token : ℕ) → Type 0
HasToken blocks block token = (row : BlockOf) × (slice_get blocks block ≡ Some row) × (row.first ≤ token) × (token < row.end)

-- The block of a token is the innermost one whose text has it: the last one in text order. There is none where no block has it.
abbrev pub IsPlace : List BlockOf → (token : ℕ) → Option ℕ → Type 0
IsPlace blocks token None = (block : ℕ) → HasToken blocks block token → ⊥
IsPlace blocks token (Some place) = HasToken blocks place token × ((block : ℕ) → HasToken blocks block token → block ≤ place)

-- What is known of a body beside what it is made of, and the same of a block of the tables.
pub record Shape : Type 0 where
  pub kind : BlockKind
  pub encloser : Option ℕ
  pub level : ℕ
  pub first : ℕ
  pub end : ℕ
  pub prefix : Option Identifier

abbrev pub outline : Body → Shape
outline b = record { kind = b.kind; encloser = b.encloser; level = b.level; first = b.first; end = b.end; prefix = b.prefix }

abbrev pub shape_of : BlockOf → Shape
shape_of b = record { kind = b.kind; encloser = b.encloser; level = b.level; first = b.first; end = b.end; prefix = b.prefix }

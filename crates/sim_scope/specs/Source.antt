-- A program with what its identifiers denote and what its expressions are: all that the meaning and the code of a program speak of.
use Rattle.std.specs.Prelude.{ℕ, List, Option, Some, None, slice_get}
use Rattle.sim_base.specs.declared.numbering.DeclNo.{DeclNo}
use Rattle.sim_base.specs.declared.numbering.Line.{Line}
use Rattle.sim_tree.specs.Syntax.{Program}
use Rattle.sim_tree.specs.SyntaxOfProgram.{program_syntax}
use Rattle.sim_scope.specs.declared.bound.Bound.{Bound}
use Rattle.sim_scope.specs.declared.scopes.Declaration.{Declaration}
use Rattle.sim_scope.specs.declared.scopes.Denotation.{Denotation}
use Rattle.sim_scope.specs.declared.types.SimType.{SimType}
use Rattle.sim_scope.specs.Access.{joined}
use Rattle.sim_scope.specs.Tables.{BlockOf, Tables}

pub record Source : Type 0 where
  pub program : Program
  pub tables : Tables
  -- for each token of an identifier what it denotes; for each token of an identifier, and of `this`, the block in which it was found; for each
  -- token that names an expression its type
  pub uses : List (Option Denotation)
  pub found_in : List (Option ℕ)
  pub types : List (Option SimType)
  -- for each token its line
  pub lines : List Line

unfoldable pub source_of : Bound → Source
source_of b = record { program = program_syntax b.program; tables = b.scopes; uses = b.uses.items; found_in = b.found_in.items; types = b.types.items; lines = b.program.lines.items }

-- what an identifier denotes
unfoldable pub denoted : Source → (token : ℕ) → Option Denotation
denoted s token = joined (slice_get s.uses token)

-- the block in which an identifier was found, and the block whose object `this` means
unfoldable pub found_at : Source → (token : ℕ) → Option ℕ
found_at s token = joined (slice_get s.found_in token)

-- the type of an expression, by the token that names it
unfoldable pub type_at : Source → (token : ℕ) → Option SimType
type_at s token = joined (slice_get s.types token)

abbrev pub line_in : Option Line → ℕ
line_in None = 0
line_in (Some line) = line.0

-- the line of a token
unfoldable pub line_at : Source → (token : ℕ) → ℕ
line_at s token = line_in (slice_get s.lines token)

abbrev pub level_in : Option BlockOf → ℕ
level_in None = 0
level_in (Some block) = block.level

-- the level of a block
unfoldable pub level_of : Source → (block : ℕ) → ℕ
level_of s block = level_in (slice_get s.tables.blocks block)

abbrev pub block_of_row : Option Declaration → ℕ
block_of_row None = 0
block_of_row (Some row) = row.block

-- the block that a declaration stands in
unfoldable pub block_of : Source → DeclNo → ℕ
block_of s d = block_of_row (slice_get s.tables.declarations d.0)

-- the innermost block around a token
unfoldable pub block_around : Source → (token : ℕ) → Option ℕ
block_around s token = joined (slice_get s.tables.places token)

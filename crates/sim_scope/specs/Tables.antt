-- Block tables, as plain data. A token is its number; blocks and declarations are numbered in text order.
use Rattle.std.specs.Prelude.{ℕ, ◌+◌, Bool, List, Option, Some, None, slice_get, slice_set}
use Rattle.sim_base.specs.declared.numbering.DeclNo.{DeclNo}
use Rattle.sim_tree.specs.declared.expr.Identifier.{Identifier}
use Rattle.sim_scope.specs.declared.scopes.Declaration.{Declaration}
use Rattle.sim_scope.specs.declared.scopes.Protection.{Protection}
use Rattle.sim_scope.specs.declared.scopes.Qualification.{Qualification}
use Rattle.sim_scope.specs.declared.types.BlockKind.{BlockKind}
use Rattle.sim_scope.specs.declared.types.BlockKind.TheVariants as kind
use Rattle.sim_scope.specs.declared.types.Entry.{Entry}
use Rattle.sim_scope.specs.declared.types.StandardPrefix.{StandardPrefix}

-- A block.
pub record BlockOf : Type 0 where
  pub kind : BlockKind
  -- the token from which on its text is inside, and the token behind its text
  pub first : ℕ
  pub end : ℕ
  -- the block around it, and its level: 1 for the program's block
  pub encloser : Option ℕ
  pub level : ℕ
  -- the procedure or class that it belongs to
  pub owner : Option DeclNo
  -- how many of its declarations, from the first one on, are formal parameters
  pub formals : ℕ
  -- the `inner` of a class
  pub inner : Option ℕ
  -- the class identifier in front of it, where it has a prefix
  pub prefix : Option Identifier
  -- the block of its prefix, which is its next level; of a connection, the block of the class that is connected
  pub base : Option ℕ
  -- the prefix, where it is a standard one
  pub standard : Option StandardPrefix
  -- the identifiers that it declares, and their declarations
  pub names : List (List ℕ)
  pub numbers : List DeclNo
  -- whether a class is among them
  pub has_class : Bool
  -- what `simset` or `simulation` declares, where one of them is written in front of it
  pub brought_names : List (List ℕ)
  pub brought : List DeclNo
  -- the attributes that it protects, and those that it hides
  pub protected : List (List ℕ)
  pub hidden : List (List ℕ)

-- the level of a block inside one of this level: a connection is no level of its own
abbrev pub deeper : BlockKind → (level : ℕ) → ℕ
deeper kind.Connection level = level
deeper _ level = level + 1

pub record Tables : Type 0 where
  pub blocks : List BlockOf
  pub declarations : List Declaration
  -- for each token the innermost block around it
  pub places : List (Option ℕ)
  -- the references that are declared, and the classes that are written for them
  pub qualifications : List Qualification
  -- the attributes that are written in protection parts
  pub protections : List Protection

-- The tables with one row changed, where there is such a row.
abbrev pub with_row : Tables → (block : ℕ) → BlockOf → Tables
with_row s block row = record s { blocks = slice_set s.blocks block row }

unfoldable pub with_base_at : Tables → (block : ℕ) → Option ℕ → Tables
with_base_at s block base = (elim (slice_get s.blocks block) [ None ↦ s | Some row ↦ with_row s block (record row { base = base }) ])

unfoldable pub with_standard_at : Tables → (block : ℕ) → StandardPrefix → Tables
with_standard_at s block which = (elim (slice_get s.blocks block) [ None ↦ s | Some row ↦ with_row s block (record row { standard = Some which }) ])

abbrev pub with_declaration : Tables → (number : ℕ) → Declaration → Tables
with_declaration s number row = record s { declarations = slice_set s.declarations number row }

unfoldable pub with_entry_at : Tables → (number : ℕ) → Entry → Tables
with_entry_at s number entry = (elim (slice_get s.declarations number) [ None ↦ s | Some row ↦ with_declaration s number (record row { entry = entry }) ])

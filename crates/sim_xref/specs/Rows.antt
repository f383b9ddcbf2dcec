-- Cross references: the declarations of a source, each with its uses.
use Rattle.std.specs.Prelude.{ℕ, ◌+◌, Bool, true, false, not, nat_eq, if◌then◌else◌, List, [], ◌∷◌, Option, Some, None}
use Rattle.std.specs.List.{filter}
use Rattle.sim_base.specs.declared.numbering.DeclNo.{DeclNo}
use Rattle.sim_base.specs.declared.numbering.TokenNo.{TokenNo}
use Rattle.sim_scope.specs.declared.scopes.Declaration.{Declaration}
use Rattle.sim_scope.specs.declared.scopes.Denotation.{Denotation}
use Rattle.sim_scope.specs.declared.scopes.Denotation.TheVariants as denotation
use Rattle.sim_scope.specs.declared.types.Entry.{Entry}
use Rattle.sim_scope.specs.declared.types.Entry.TheVariants as entry
use Rattle.sim_scope.specs.Access.{is_kind}
use Rattle.sim_scope.specs.Levels.{is_standard_class}
use Rattle.sim_scope.specs.Scopes.{entry_of}
use Rattle.sim_scope.specs.Source.{Source}
use Rattle.sim_scope.specs.Tables.{Tables}

-- a declaration: its identifier in lower case, the token of this where it is declared, and the tokens of its uses
pub record RowOf : Type 0 where
  pub name : List ℕ
  pub decl : DeclNo
  pub token : TokenNo
  pub uses : List TokenNo

-- Uses. An occurrence of an identifier in an expression, a statement, a bound, a prefix or the `ref( )` of a declaration is a use of what it
-- denotes. Those in mode, specification, protection and virtual parts denote nothing.
abbrev pub denotes : (declaration : ℕ) → Option Denotation → Bool
denotes d None = false
denotes d (Some (denotation.Declared e)) = nat_eq e.0 d
denotes d (Some (denotation.Standard name)) = false

-- of tokens that are numbered from one on, those that denote a declaration, in the order of the text
abbrev pub uses_from : (token : ℕ) → List (Option Denotation) → (declaration : ℕ) → List TokenNo
uses_from token [] d = []
uses_from token (o ∷ os) d = if denotes d o then record { 0 = token } ∷ uses_from (token + 1) os d else uses_from (token + 1) os d

-- the uses of a declaration
abbrev pub uses_of : Source → (declaration : ℕ) → List TokenNo
uses_of s d = uses_from 0 s.uses d

-- Declarations. `simset` and `simulation` declare classes and attributes where they stand in front of a class or a block. These are no declarations
-- of the source, whatever their token.
abbrev pub is_brought : Tables → Option Entry → Bool
is_brought s (Some (entry.Class block)) = is_kind is_standard_class s block
is_brought s (Some (entry.Attribute name parameter result)) = true
is_brought s _ = false

-- whether a declaration is one of the source: of a block, a formal parameter, a procedure, a class or a virtual
unfoldable pub is_of_source : Tables → DeclNo → Bool
is_of_source s d = not (is_brought s (entry_of s d))

abbrev pub row : Source → (number : ℕ) → Declaration → RowOf
row s number d = record { name = d.name; decl = record { 0 = number }; token = d.token; uses = uses_of s number }

-- declarations that are numbered from one on
abbrev pub rows_from : Source → (number : ℕ) → List Declaration → List RowOf
rows_from s number [] = []
rows_from s number (d ∷ ds) = row s number d ∷ rows_from s (number + 1) ds

unfoldable pub all_rows_of : Source → List RowOf
all_rows_of s = rows_from s 0 s.tables.declarations

-- the declarations of the source in the order of its text, each with its uses
unfoldable pub rows_of : Source → List RowOf
rows_of s = filter (λ r. is_of_source s.tables r.decl) (all_rows_of s)

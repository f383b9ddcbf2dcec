-- The rules of the first round, each a clause of its own: what declarations break, prefixes, and the number of cells.
use Rattle.std.specs.Prelude.{◌≡◌, ◌<◌, ℕ, true, false, List, ◌∷◌, Option, Some, None, slice_get}
use Rattle.sim_base.specs.declared.rule.Rule.TheVariants as r
use Rattle.sim_tree.specs.declared.expr.Identifier.{Identifier}
use Rattle.sim_tree.specs.Syntax.{Program}
use Rattle.prefix_bind.specs.Cells.{most_cells}
use Rattle.prefix_bind.specs.Prefixes.{has_broken_chain, is_in_own_chain, is_known, is_prefixed_block, level_cells, prefixed}
use Rattle.sim_scope.specs.Access.{is_kind}
use Rattle.sim_scope.specs.Building.{Breaks, Headed, Inner, Mark, Moded, Opens, Specified, is_by_name, is_class, is_procedure, mode_allowed, most_declarations, most_levels}
use Rattle.sim_scope.specs.Declare.{declared_by}
use Rattle.sim_scope.specs.Levels.{is_standard_class, some_level}
use Rattle.sim_scope.specs.Tables.{BlockOf, Tables}
use Rattle.sim_scope.specs.declared.types.BlockKind.{BlockKind}
use Rattle.sim_scope.specs.declared.types.Entry.{Entry}
use Rattle.sim_scope.specs.declared.types.FormalKind.{FormalKind}
use Rattle.sim_scope.specs.declared.types.Mode.{Mode}
use Rattle.sim_scope.specs.declared.types.SimType.{SimType}
use Rattle.sim_scope.specs.declared.types.WrittenMode.{WrittenMode}
use Rattle.static_rules.specs.Reading.{IsDeclared, Met, OpenBlock, Reading, Unspecified, double_in, inner_in, is_in_class, level_inside, new_in, standing, unspecified_in}

-- S1, at the later identifier of one block, class level or formal list
pub data DeclaredTwice (p : Program) : (token : ℕ) → Type 0 where
  declared_twice : {m : Mark} {front : Reading} {x : Identifier} {e : Entry} → Met p m front → IsDeclared m x e → double_in front.blocks x.name e ≡ true
      → DeclaredTwice p x.token.0

-- L3, at the identifier with as many in front of it as a program may declare
pub data TooManyDeclarations (p : Program) : (token : ℕ) → Type 0 where
  one_more : {m : Mark} {front : Reading} {x : Identifier} {e : Entry} → Met p m front → IsDeclared m x e → new_in front.blocks x.name e ≡ true
      → front.count ≡ most_declarations → TooManyDeclarations p x.token.0

-- L1, at the first token of a block, a procedure or a class at a level past the last one
pub data TooManyLevels (p : Program) : (token : ℕ) → Type 0 where
  too_deep : {k : BlockKind} {text first : ℕ} {front : Reading} → Met p (Opens k text first) front → most_levels < level_inside k front.blocks → TooManyLevels p text

-- S4, at an identifier that is specified and is no parameter, or is specified before; and at a parameter without a specification
pub data SpecificationDisagrees (p : Program) : (token : ℕ) → Type 0 where
  no_parameter : {x : Identifier} {k : FormalKind} {ty : Option SimType} {front : Reading} → Met p (Specified x k ty) front
      → unspecified_in front.blocks x.name ≡ None → SpecificationDisagrees p x.token.0
  no_specification : {x : Identifier} {mode : Option WrittenMode} {front : Reading} → Met p (Headed x) front
      → unspecified_in front.blocks x.name ≡ Some mode → SpecificationDisagrees p x.token.0

-- S5, at an identifier of the mode part that is no parameter, or that it names before, or by name in a class, or whose kind and type may not be
-- passed so; and at the parameter of a class that is a procedure
pub data ModeNotAllowed (p : Program) : (token : ℕ) → Type 0 where
  of_no_parameter : {x : Identifier} {m : Mode} {front : Reading} → Met p (Moded x m) front → unspecified_in front.blocks x.name ≡ None
      → ModeNotAllowed p x.token.0
  twice : {x : Identifier} {m : Mode} {front : Reading} {w : WrittenMode} → Met p (Moded x m) front
      → unspecified_in front.blocks x.name ≡ Some (Some w) → ModeNotAllowed p x.token.0
  by_name_in_class : {x : Identifier} {m : Mode} {front : Reading} → Met p (Moded x m) front → unspecified_in front.blocks x.name ≡ Some None
      → is_by_name m ≡ true → is_in_class front.blocks ≡ true → ModeNotAllowed p x.token.0
  not_so : {x : Identifier} {k : FormalKind} {ty : Option SimType} {front : Reading} {w : WrittenMode} → Met p (Specified x k ty) front
      → unspecified_in front.blocks x.name ≡ Some (Some w) → mode_allowed w.mode k ty ≡ false → ModeNotAllowed p w.token.0
  procedure_of_class : {x : Identifier} {k : FormalKind} {ty : Option SimType} {front : Reading} {o : OpenBlock} {os : List OpenBlock} {token : ℕ}
      {mode : Option WrittenMode} → Met p (Specified x k ty) front → front.blocks ≡ o ∷ os → standing o x.name ≡ Unspecified token mode
      → is_procedure k ≡ true → is_class o.kind ≡ true → ModeNotAllowed p token

-- S6, at a second `inner` in the statement list of the body of a class, and at one elsewhere
pub data InnerOutOfPlace (p : Program) : (token : ℕ) → Type 0 where
  second_one : {token : ℕ} {front : Reading} → Met p (Inner token) front → inner_in front.blocks ≡ true → InnerOutOfPlace p token
  elsewhere : {token : ℕ} {front : Reading} → Met p (Breaks token r.InnerOutOfPlace) front → InnerOutOfPlace p token

-- the tables with the class of each prefix
abbrev pub with_prefixes : Program → Tables
with_prefixes p = prefixed (declared_by p).tables

-- S2, at a prefix that is no class of the block around, nor one of the standard ones that is seen there; and at the prefix of a block which is
-- `linkage` of `simset`, or has a class of `simset` among its levels
pub data PrefixIsNoClass (p : Program) : (token : ℕ) → Type 0 where
  no_class : (block : ℕ) {row : BlockOf} {x : Identifier} → slice_get (with_prefixes p).blocks block ≡ Some row → row.prefix ≡ Some x
      → is_known row ≡ false → PrefixIsNoClass p x.token.0
  class_of_sets : (block : ℕ) {base : ℕ} {row : BlockOf} {x : Identifier} → slice_get (with_prefixes p).blocks block ≡ Some row
      → row.prefix ≡ Some x → is_prefixed_block row.kind ≡ true → row.base ≡ Some base
      → some_level (with_prefixes p) (is_kind is_standard_class (with_prefixes p)) base ≡ true → PrefixIsNoClass p x.token.0

-- S3, at the identifier of a class that is one of the levels of its own prefix
pub data ClassInItsOwnChain (p : Program) : (token : ℕ) → Type 0 where
  in_a_cycle : (block : ℕ) {row : BlockOf} → slice_get (with_prefixes p).blocks block ≡ Some row → is_in_own_chain (with_prefixes p) block ≡ true
      → ClassInItsOwnChain p row.first

-- L2, at the identifier of a class or procedure, or at `begin`, whose instances have too many cells, where no level breaks S2 or S3
pub data TooManyCells (p : Program) : (token : ℕ) → Type 0 where
  too_large : (block : ℕ) {row : BlockOf} → slice_get (with_prefixes p).blocks block ≡ Some row
      → most_cells < level_cells (with_prefixes p) block → has_broken_chain (with_prefixes p) block ≡ false → TooManyCells p row.first
